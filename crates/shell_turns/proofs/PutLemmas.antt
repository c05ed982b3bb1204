-- Pieces on one sink: all of them, or a prefix.
use Rattle.std.proofs.Common.{◌≡◌, ℕ, List, [], ◌∷◌, ◌++◌, Option, Result, Ok, Err, refl, subst, append-nil}
use Rattle.std.specs.Prelude.{OnOk}
use Rattle.host_io.specs.Causes.{PutCause}
use Rattle.host_io.specs.Prefixes.{TakesAll, TakesPrefix}
use Rattle.host_io.specs.Pieces.{Piece, Taken, out}
use Rattle.host_io.specs.declared.traits.sink.PutEnd.{PutEnd}
use Rattle.host_io.specs.declared.traits.sink.PutEnd.TheVariants as put_end
use Rattle.host_io.proofs.PieceLemmas.{prefix_of_more_puts, put_on_out, puts_none, puts_then_all, puts_then_prefix}
use Rattle.shell_turns.specs.Cuts.{ObeyCause, PutsOut, answer_of}
use Rattle.shell_turns.specs.declared.ends.ObeyEnd.{ObeyEnd}

-- a call that puts, with an answer of this type
abbrev pub Ends : Type 0 → Type 0
Ends A = Result A ObeyEnd

abbrev pub gives : {A : Type 0} → A → Ends A
gives x = Ok x

abbrev pub done : Ends (Unit {0})
done = Ok tt

abbrev pub fails : (A : Type 0) → ObeyEnd → Ends A
fails A end = Err end

-- the same with errors of another type
abbrev pub whole : {A : Type 0} (F : Type 0) → A → Result A F
whole F x = Ok x

abbrev pub broken : (A : Type 0) {F : Type 0} → F → Result A F
broken A end = Err end

-- the sink beside standard error
abbrev beside : Option (List ℕ) → Option (List ℕ) → Taken
beside other taken = record { out = taken; err = other }

-- nothing is put
pub puts_nothing : {A : Type 0} (old : Option (List ℕ)) (x : A) → PutsOut old old [] (gives x)
unfolding PutsOut
puts_nothing old x other = refl

pub puts_not_begun : (A : Type 0) (old : Option (List ℕ)) (pieces : List Piece) (end : ObeyEnd) → PutsOut old old pieces (fails A end)
unfolding PutsOut
puts_not_begun A old pieces end other = puts_none (beside other old) pieces

-- a put of a sink is one piece: what the clauses of `put` say of its answers
pub put_answered : (put : Result (Unit {0}) PutEnd) (old new : Option (List ℕ)) (bytes : List ℕ) → OnOk put (TakesAll old new bytes)
    → (put ≡ Err put_end.Failed → TakesPrefix old new bytes) → (put ≡ Err put_end.Memory → new ≡ old) → PutsOut old new (out bytes ∷ []) (answer_of put)
unfolding PutsOut
put_answered (Ok x) old new bytes ok failed memory other = put_on_out old new other bytes {A = Unit {0}} (Ok x) ok failed memory
put_answered (Err put_end.Failed) old new bytes ok failed memory other = put_on_out old new other bytes {A = Unit {0}} (Err put_end.Failed) ok failed memory
put_answered (Err put_end.Memory) old new bytes ok failed memory other = put_on_out old new other bytes {A = Unit {0}} (Err put_end.Memory) ok failed memory

pub cause_answered : (put : Result (Unit {0}) PutEnd) (before now : ℕ) → PutCause before now put → ObeyCause before now (answer_of put)
cause_answered (Ok x) before now cause = cause
cause_answered (Err put_end.Failed) before now cause = cause
cause_answered (Err put_end.Memory) before now cause = cause

-- ---- some pieces, and others

module _ {A B F : Type 0} (old now new : Option (List ℕ)) (first second : List Piece) where
  pub puts_on : (x : A) (result : Result B F) → PutsOut old now first (gives x) → PutsOut now new second result → PutsOut old new (first ++ second) result
  unfolding PutsOut
  puts_on x (Ok y) one two other = puts_then_all (beside other old) (beside other now) (beside other new) first second (one other) (two other)
  puts_on x (Err end) one two other = puts_then_prefix (beside other old) (beside other now) (beside other new) first second (one other) (two other)

module _ (A B : Type 0) (old new : Option (List ℕ)) where
  pub puts_cut_in : (first second : List Piece) (end told : ObeyEnd) → PutsOut old new first (fails A end) → PutsOut old new (first ++ second) (fails B told)
  unfolding PutsOut
  puts_cut_in first second end told cut other = prefix_of_more_puts (beside other old) (beside other new) first second (cut other)

  -- whatever the answer holds
  pub puts_cut_as : (pieces : List Piece) (end told : ObeyEnd) → PutsOut old new pieces (fails A end) → PutsOut old new pieces (fails B told)
  unfolding PutsOut
  puts_cut_as pieces end told cut = cut

pub puts_as : {A B : Type 0} (old new : Option (List ℕ)) (pieces : List Piece) (x : A) (y : B) → PutsOut old new pieces (gives x) → PutsOut old new pieces (gives y)
unfolding PutsOut
puts_as old new pieces x y puts = puts

-- of a call whose errors are others
pub puts_with : {A B : Type 0} (F : Type 0) (old new : Option (List ℕ)) (pieces : List Piece) (x : A) (y : B) → PutsOut old new pieces (gives x)
    → PutsOut old new pieces (whole F y)
unfolding PutsOut
puts_with F old new pieces x y puts = puts

pub puts_cut_with : (A B : Type 0) {F : Type 0} (old new : Option (List ℕ)) (pieces : List Piece) (end : ObeyEnd) (told : F) → PutsOut old new pieces (fails A end)
    → PutsOut old new pieces (broken B told)
unfolding PutsOut
puts_cut_with A B old new pieces end told cut = cut

-- what was put whole is a prefix
pub puts_prefix : (A : Type 0) (old new : Option (List ℕ)) (pieces : List Piece) (end : ObeyEnd) → PutsOut old new pieces done → PutsOut old new pieces (fails A end)
puts_prefix A old new pieces end puts =
    subst (λ told. PutsOut old new told (fails A end)) (append-nil pieces) (puts_on old new new pieces [] tt (fails A end) puts (puts_not_begun A new [] end))
