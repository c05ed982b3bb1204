-- Pieces on two sinks: prefixes of what is put, on the way to all of it.
use Rattle.std.proofs.Common.{◌≡◌, ℕ, List, [], ◌∷◌, ◌++◌, Option, Some, None, Result, Ok, Err, OnOk, refl, ap, sym, subst, ◌∙◌, append-nil, append_assoc}
use Rattle.std.proofs.lemmas.List.Concat.{flat_map-append, flat_map-cons}
use Rattle.std.specs.Io.KnownBytes.{append_known}
use Rattle.host_io.specs.Prefixes.{TakesAll, TakesPrefix}
use Rattle.host_io.specs.Pieces.{Begins, Piece, Puts, PutsAll, PutsFirst, PutsPrefix, PutsSoFar, Taken, err, err_of, errs_of, out, out_of, outs_of, with_begun, with_piece, with_pieces}
use Rattle.host_io.specs.declared.traits.sink.PutEnd.{PutEnd}
use Rattle.host_io.specs.declared.traits.sink.PutEnd.TheVariants as put_end
use Rattle.host_io.proofs.PrefixLemmas.{all_then_prefix, append_known-append, append_known-nil, takes_none}

pub with_pieces-append : (taken : Taken) (first second : List Piece) →
    with_pieces taken (first ++ second) ≡ with_pieces (with_pieces taken first) second
with_pieces-append taken [] second = refl
with_pieces-append taken (piece ∷ first) second =
    with_pieces-append (with_piece taken piece) first second

-- where nothing was put, nothing due was all, and of anything due a prefix was
pub puts_nothing : (taken : Taken) → PutsAll taken taken []
puts_nothing taken = refl

pub puts_begin : (start : Taken) (pieces : List Piece) → PutsSoFar start start pieces pieces
puts_begin start pieces = record { whole = []; taken = refl; due = refl }

-- those put so far are a prefix of all, with none begun
pub so_far_is_prefix : (old new : Taken) (rest pieces : List Piece) →
    PutsSoFar old new rest pieces → PutsPrefix old new pieces
so_far_is_prefix old new rest pieces so_far = record {
  whole = so_far.whole;
  begun = None;
  rest = rest;
  due = so_far.due;
  prefix = tt;
  taken = so_far.taken;
}

pub first_is_prefix : (old new : Taken) (pieces : List Piece) → PutsFirst old new pieces →
    PutsPrefix old new pieces
first_is_prefix old new pieces puts = so_far_is_prefix old new puts.0 pieces puts.1

pub prefix_of_nothing : (old new : Taken) (pieces : List Piece) → new ≡ old →
    PutsPrefix old new pieces
prefix_of_nothing old new pieces same =
    so_far_is_prefix old new pieces pieces (record { whole = []; taken = same; due = refl })

pub puts_none : (taken : Taken) (pieces : List Piece) → PutsPrefix taken taken pieces
puts_none taken pieces = prefix_of_nothing taken taken pieces refl

-- all of them are so far all
pub all_is_so_far : (old new : Taken) (pieces : List Piece) → PutsAll old new pieces →
    PutsSoFar old new [] pieces
all_is_so_far old new pieces puts =
    record { whole = pieces; taken = puts; due = append-nil pieces }

pub all_puts_are_prefix : (old new : Taken) (pieces : List Piece) → PutsAll old new pieces →
    PutsPrefix old new pieces
all_puts_are_prefix old new pieces puts =
    so_far_is_prefix old new [] pieces (all_is_so_far old new pieces puts)

-- some pieces more
pub puts_go_on : (start now new : Taken) (some rest pieces : List Piece) →
    PutsSoFar start now (some ++ rest) pieces → PutsAll now new some →
    PutsSoFar start new rest pieces
puts_go_on start now new some rest pieces so_far puts = record {
  whole = so_far.whole ++ some;
  taken =
      puts
      ∙ ap (λ taken. with_pieces taken some) so_far.taken
      ∙ sym (with_pieces-append start so_far.whole some);
  due = append_assoc so_far.whole some rest ∙ so_far.due;
}

-- what begins some pieces begins more
begins_more : (begun : Option Piece) (rest more : List Piece) → Begins begun rest →
    Begins begun (rest ++ more)
begins_more None rest more begins = tt
begins_more (Some begun) [] more begins = absurd begins
begins_more (Some begun) (piece ∷ rest) more begins = begins

-- cut within some pieces, and between two of them
pub puts_are_cut : (start now new : Taken) (some rest pieces : List Piece) →
    PutsSoFar start now (some ++ rest) pieces → PutsPrefix now new some →
    PutsPrefix start new pieces
puts_are_cut start now new some rest pieces so_far cut = record {
  whole = so_far.whole ++ cut.whole;
  begun = cut.begun;
  rest = cut.rest ++ rest;
  due =
      append_assoc so_far.whole cut.whole (cut.rest ++ rest)
      ∙ ap (λ tail. so_far.whole ++ tail) (sym (append_assoc cut.whole cut.rest rest))
      ∙ ap (λ cut_ones. so_far.whole ++ (cut_ones ++ rest)) cut.due
      ∙ so_far.due;
  prefix = begins_more cut.begun cut.rest rest cut.prefix;
  taken =
      cut.taken
      ∙ ap (λ taken. with_begun (with_pieces taken cut.whole) cut.begun) so_far.taken
      ∙ ap (λ taken. with_begun taken cut.begun)
      (sym (with_pieces-append start so_far.whole cut.whole));
}

pub puts_are_cut_between : (start now new : Taken) (some rest pieces : List Piece) →
    PutsSoFar start now (some ++ rest) pieces → PutsFirst now new some → PutsFirst start new pieces
puts_are_cut_between start now new some rest pieces so_far cut = (
  cut.0 ++ rest,
  record {
    whole = so_far.whole ++ cut.1.whole;
    taken =
        cut.1.taken
        ∙ ap (λ taken. with_pieces taken cut.1.whole) so_far.taken
        ∙ sym (with_pieces-append start so_far.whole cut.1.whole);
    due =
        append_assoc so_far.whole cut.1.whole (cut.0 ++ rest)
        ∙ ap (λ tail. so_far.whole ++ tail) (sym (append_assoc cut.1.whole cut.0 rest))
        ∙ ap (λ cut_ones. so_far.whole ++ (cut_ones ++ rest)) cut.1.due
        ∙ so_far.due;
  },
)

-- all of them
pub puts_are_whole : (start now : Taken) (pieces : List Piece) → PutsSoFar start now [] pieces →
    PutsAll start now pieces
puts_are_whole start now pieces so_far =
    so_far.taken ∙ ap (with_pieces start) (sym (append-nil so_far.whole) ∙ so_far.due)

-- all of some pieces, and all or a prefix of others
pub puts_then_all : (start now new : Taken) (first second : List Piece) → PutsAll start now first →
    PutsAll now new second → PutsAll start new (first ++ second)
puts_then_all start now new first second one two =
    two
    ∙ ap (λ taken. with_pieces taken second) one
    ∙ sym (with_pieces-append start first second)

pub puts_then_prefix : (start now new : Taken) (first second : List Piece) →
    PutsAll start now first → PutsPrefix now new second → PutsPrefix start new (first ++ second)
puts_then_prefix start now new first second one two =
    puts_are_cut start now new second [] (first ++ second)
    (record {
      whole = first;
      taken = one;
      due = ap (λ rest. first ++ rest) (append-nil second);
    })
    two

pub puts_then_first : (start now new : Taken) (first second : List Piece) →
    PutsAll start now first → PutsFirst now new second → PutsFirst start new (first ++ second)
puts_then_first start now new first second one two =
    puts_are_cut_between start now new second [] (first ++ second)
    (record {
      whole = first;
      taken = one;
      due = ap (λ rest. first ++ rest) (append-nil second);
    })
    two

-- a prefix of some pieces is one of more
pub prefix_of_more_puts : (old new : Taken) (first second : List Piece) →
    PutsPrefix old new first → PutsPrefix old new (first ++ second)
prefix_of_more_puts old new first second puts =
    puts_are_cut old old new first second (first ++ second) (puts_begin old (first ++ second)) puts

pub first_of_more_puts : (old new : Taken) (first second : List Piece) → PutsFirst old new first →
    PutsFirst old new (first ++ second)
first_of_more_puts old new first second puts =
    puts_are_cut_between old old new first second (first ++ second)
    (puts_begin old (first ++ second)) puts

-- a put of a sink is one piece: what the clauses of `put` say of its answer
module _ (old new other : Option (List ℕ)) (bytes : List ℕ) where
  abbrev on_out : Option (List ℕ) → Taken
  on_out known = record { out = known; err = other }

  abbrev on_err : Option (List ℕ) → Taken
  on_err known = record { out = other; err = known }

  prefix_on_out : TakesPrefix old new bytes →
      PutsPrefix (on_out old) (on_out new) (out bytes ∷ [])
  prefix_on_out cut = record {
    whole = [];
    begun = Some (out cut.1.prefix);
    rest = out bytes ∷ [];
    due = refl;
    prefix = (cut.0, cut.1.complete);
    taken = ap on_out cut.1.taken;
  }

  prefix_on_err : TakesPrefix old new bytes →
      PutsPrefix (on_err old) (on_err new) (err bytes ∷ [])
  prefix_on_err cut = record {
    whole = [];
    begun = Some (err cut.1.prefix);
    rest = err bytes ∷ [];
    due = refl;
    prefix = (cut.0, cut.1.complete);
    taken = ap on_err cut.1.taken;
  }

  pub put_on_out : {A : Type 0} (result : Result A PutEnd) → OnOk result (TakesAll old new bytes) →
      (result ≡ Err put_end.Failed → TakesPrefix old new bytes) →
      (result ≡ Err put_end.Memory → new ≡ old) →
      Puts (on_out old) (on_out new) (out bytes ∷ []) result
  put_on_out (Ok done) ok failed memory = ap on_out ok
  put_on_out (Err put_end.Failed) ok failed memory = prefix_on_out (failed refl)
  put_on_out (Err put_end.Memory) ok failed memory =
      prefix_of_nothing (on_out old) (on_out new) (out bytes ∷ []) (ap on_out (memory refl))

  pub put_on_err : {A : Type 0} (result : Result A PutEnd) → OnOk result (TakesAll old new bytes) →
      (result ≡ Err put_end.Failed → TakesPrefix old new bytes) →
      (result ≡ Err put_end.Memory → new ≡ old) →
      Puts (on_err old) (on_err new) (err bytes ∷ []) result
  put_on_err (Ok done) ok failed memory = ap on_err ok
  put_on_err (Err put_end.Failed) ok failed memory = prefix_on_err (failed refl)
  put_on_err (Err put_end.Memory) ok failed memory =
      prefix_of_nothing (on_err old) (on_err new) (err bytes ∷ []) (ap on_err (memory refl))

  -- it is put as a whole or not at all, unless it failed
  pub whole_on_out : {A : Type 0} (result : Result A PutEnd) →
      OnOk result (TakesAll old new bytes) → (result ≡ Err put_end.Memory → new ≡ old) →
      (result ≡ Err put_end.Failed → ⊥) → PutsFirst (on_out old) (on_out new) (out bytes ∷ [])
  whole_on_out (Ok done) ok memory sound =
      ([], all_is_so_far (on_out old) (on_out new) (out bytes ∷ []) (ap on_out ok))
  whole_on_out (Err put_end.Failed) ok memory sound = absurd (sound refl)
  whole_on_out (Err put_end.Memory) ok memory sound =
      (out bytes ∷ [], record { whole = []; taken = ap on_out (memory refl); due = refl })

  pub whole_on_err : {A : Type 0} (result : Result A PutEnd) →
      OnOk result (TakesAll old new bytes) → (result ≡ Err put_end.Memory → new ≡ old) →
      (result ≡ Err put_end.Failed → ⊥) → PutsFirst (on_err old) (on_err new) (err bytes ∷ [])
  whole_on_err (Ok done) ok memory sound =
      ([], all_is_so_far (on_err old) (on_err new) (err bytes ∷ []) (ap on_err ok))
  whole_on_err (Err put_end.Failed) ok memory sound = absurd (sound refl)
  whole_on_err (Err put_end.Memory) ok memory sound =
      (err bytes ∷ [], record { whole = []; taken = ap on_err (memory refl); due = refl })

-- the bytes on each sink
pub outs_of-append : (first second : List Piece) →
    outs_of (first ++ second) ≡ outs_of first ++ outs_of second
outs_of-append first second = flat_map-append out_of first second

pub errs_of-append : (first second : List Piece) →
    errs_of (first ++ second) ≡ errs_of first ++ errs_of second
errs_of-append first second = flat_map-append err_of first second

pub out-with_pieces : (taken : Taken) (pieces : List Piece) →
    (with_pieces taken pieces).out ≡ append_known taken.out (outs_of pieces)
out-with_pieces taken [] = sym (append_known-nil taken.out)
out-with_pieces taken (out bytes ∷ pieces) =
    out-with_pieces (with_piece taken (out bytes)) pieces
    ∙ append_known-append taken.out bytes (outs_of pieces)
    ∙ ap (append_known taken.out) (sym (flat_map-cons out_of (out bytes) pieces))
out-with_pieces taken (err bytes ∷ pieces) =
    out-with_pieces (with_piece taken (err bytes)) pieces
    ∙ ap (append_known taken.out) (sym (flat_map-cons out_of (err bytes) pieces))

pub err-with_pieces : (taken : Taken) (pieces : List Piece) →
    (with_pieces taken pieces).err ≡ append_known taken.err (errs_of pieces)
err-with_pieces taken [] = sym (append_known-nil taken.err)
err-with_pieces taken (out bytes ∷ pieces) =
    err-with_pieces (with_piece taken (out bytes)) pieces
    ∙ ap (append_known taken.err) (sym (flat_map-cons err_of (out bytes) pieces))
err-with_pieces taken (err bytes ∷ pieces) =
    err-with_pieces (with_piece taken (err bytes)) pieces
    ∙ append_known-append taken.err bytes (errs_of pieces)
    ∙ ap (append_known taken.err) (sym (flat_map-cons err_of (err bytes) pieces))

module _ (old new : Taken) (pieces : List Piece) where
  pub outs_all : PutsAll old new pieces → TakesAll old.out new.out (outs_of pieces)
  outs_all puts = ap (λ taken. taken.out) puts ∙ out-with_pieces old pieces

  pub errs_all : PutsAll old new pieces → TakesAll old.err new.err (errs_of pieces)
  errs_all puts = ap (λ taken. taken.err) puts ∙ err-with_pieces old pieces

-- of a prefix that was begun, the bytes on each sink
begun_outs : (taken : Taken) (begun : Option Piece) (rest : List Piece) → Begins begun rest →
    TakesPrefix taken.out (with_begun taken begun).out (outs_of rest)
begun_outs taken None rest begins = takes_none taken.out (outs_of rest)
begun_outs taken (Some begun) [] begins = absurd begins
begun_outs taken (Some (out prefix)) (out bytes ∷ rest) begins = (
  begins.0 ++ outs_of rest,
  record {
    prefix = prefix;
    taken = refl;
    complete =
        sym (append_assoc prefix begins.0 (outs_of rest))
        ∙ ap (λ piece. piece ++ outs_of rest) begins.1;
  },
)
begun_outs taken (Some (err prefix)) (err bytes ∷ rest) begins =
    takes_none taken.out (outs_of (err bytes ∷ rest))
begun_outs taken (Some (out prefix)) (err bytes ∷ rest) begins = absurd begins
begun_outs taken (Some (err prefix)) (out bytes ∷ rest) begins = absurd begins

begun_errs : (taken : Taken) (begun : Option Piece) (rest : List Piece) → Begins begun rest →
    TakesPrefix taken.err (with_begun taken begun).err (errs_of rest)
begun_errs taken None rest begins = takes_none taken.err (errs_of rest)
begun_errs taken (Some begun) [] begins = absurd begins
begun_errs taken (Some (err prefix)) (err bytes ∷ rest) begins = (
  begins.0 ++ errs_of rest,
  record {
    prefix = prefix;
    taken = refl;
    complete =
        sym (append_assoc prefix begins.0 (errs_of rest))
        ∙ ap (λ piece. piece ++ errs_of rest) begins.1;
  },
)
begun_errs taken (Some (out prefix)) (out bytes ∷ rest) begins =
    takes_none taken.err (errs_of (out bytes ∷ rest))
begun_errs taken (Some (err prefix)) (out bytes ∷ rest) begins = absurd begins
begun_errs taken (Some (out prefix)) (err bytes ∷ rest) begins = absurd begins

-- so a prefix on both sinks is one on each
pub outs_prefix : (old new : Taken) (pieces : List Piece) → PutsPrefix old new pieces →
    TakesPrefix old.out new.out (outs_of pieces)
outs_prefix old new pieces puts =
    let before = with_pieces old puts.whole in
    let next : TakesPrefix before.out new.out (outs_of puts.rest) =
    subst (λ (taken : Taken). TakesPrefix before.out taken.out (outs_of puts.rest)) (sym puts.taken)
    (begun_outs before puts.begun puts.rest puts.prefix) in
    subst (λ (bytes : List ℕ). TakesPrefix old.out new.out bytes)
    (sym (outs_of-append puts.whole puts.rest) ∙ ap outs_of puts.due)
    (all_then_prefix old.out before.out new.out (outs_of puts.whole) (outs_of puts.rest)
    (out-with_pieces old puts.whole) next)

pub errs_prefix : (old new : Taken) (pieces : List Piece) → PutsPrefix old new pieces →
    TakesPrefix old.err new.err (errs_of pieces)
errs_prefix old new pieces puts =
    let before = with_pieces old puts.whole in
    let next : TakesPrefix before.err new.err (errs_of puts.rest) =
    subst (λ (taken : Taken). TakesPrefix before.err taken.err (errs_of puts.rest)) (sym puts.taken)
    (begun_errs before puts.begun puts.rest puts.prefix) in
    subst (λ (bytes : List ℕ). TakesPrefix old.err new.err bytes)
    (sym (errs_of-append puts.whole puts.rest) ∙ ap errs_of puts.due)
    (all_then_prefix old.err before.err new.err (errs_of puts.whole) (errs_of puts.rest)
    (err-with_pieces old puts.whole) next)
