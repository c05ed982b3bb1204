-- Bytes on a sink: prefixes of what is put, on the way to all of it.
use Rattle.std.proofs.Common.{◌≡◌, ℕ, List, [], ◌++◌, take, drop, Option, Some, None, IfSome, refl, ap, sym, ◌∙◌, append-nil, append_assoc}
use Rattle.std.proofs.lemmas.List.{take-append-drop}
use Rattle.std.specs.Io.KnownBytes.{append_known}
use Rattle.host_io.specs.Prefixes.{SoFar, TakesAll, TakesPrefix}

-- no byte more is known as nothing more
pub append_known-nil : (known : Option (List ℕ)) → append_known known [] ≡ known
append_known-nil None = refl
append_known-nil (Some bytes) = ap Some (append-nil bytes)

pub append_known-append : (known : Option (List ℕ)) (prefix rest : List ℕ) →
    append_known (append_known known prefix) rest ≡ append_known known (prefix ++ rest)
append_known-append None prefix rest = refl
append_known-append (Some bytes) prefix rest = ap Some (append_assoc bytes prefix rest)

-- where nothing was taken, nothing due was all of it, and of anything due a prefix was: the empty one
pub takes_nothing : (known : Option (List ℕ)) → TakesAll known known []
takes_nothing known = sym (append_known-nil known)

pub takes_none : (known : Option (List ℕ)) (bytes : List ℕ) → TakesPrefix known known bytes
takes_none known bytes =
    (bytes, record { prefix = []; taken = sym (append_known-nil known); complete = refl })

-- all of it is a prefix
pub all_is_prefix : (old new : Option (List ℕ)) (bytes : List ℕ) → TakesAll old new bytes →
    TakesPrefix old new bytes
all_is_prefix old new bytes all =
    ([], record { prefix = bytes; taken = all; complete = append-nil bytes })

-- its first bytes are one
pub takes_first : (old new bytes : List ℕ) (count : ℕ) → new ≡ old ++ take count bytes →
    TakesPrefix (Some old) (Some new) bytes
takes_first old new bytes count first = (
  drop count bytes,
  record {
    prefix = take count bytes;
    taken = ap Some first;
    complete = take-append-drop count bytes;
  },
)

-- nothing yet
pub begins : (start : Option (List ℕ)) (whole : List ℕ) → SoFar start start whole whole
begins start whole =
    record { prefix = []; taken = sym (append_known-nil start); complete = refl }

-- a piece more
pub goes_on : (start now new : Option (List ℕ)) (piece rest whole : List ℕ) →
    SoFar start now (piece ++ rest) whole → TakesAll now new piece → SoFar start new rest whole
goes_on start now new piece rest whole so_far takes = record {
  prefix = so_far.prefix ++ piece;
  taken =
      takes
      ∙ ap (λ known. append_known known piece) so_far.taken
      ∙ append_known-append start so_far.prefix piece;
  complete = append_assoc so_far.prefix piece rest ∙ so_far.complete;
}

-- cut within a piece
pub is_cut : (start now new : Option (List ℕ)) (piece rest whole : List ℕ) →
    SoFar start now (piece ++ rest) whole → TakesPrefix now new piece → TakesPrefix start new whole
is_cut start now new piece rest whole so_far cut = (
  cut.0 ++ rest,
  record {
    prefix = so_far.prefix ++ cut.1.prefix;
    taken =
        cut.1.taken
        ∙ ap (λ known. append_known known cut.1.prefix) so_far.taken
        ∙ append_known-append start so_far.prefix cut.1.prefix;
    complete =
        append_assoc so_far.prefix cut.1.prefix (cut.0 ++ rest)
        ∙ ap (λ tail. so_far.prefix ++ tail) (sym (append_assoc cut.1.prefix cut.0 rest))
        ∙ ap (λ whole_piece. so_far.prefix ++ (whole_piece ++ rest)) cut.1.complete
        ∙ so_far.complete;
  },
)

-- all of it
pub is_whole : (start now : Option (List ℕ)) (whole : List ℕ) → SoFar start now [] whole →
    TakesAll start now whole
is_whole start now whole so_far =
    so_far.taken ∙ ap (append_known start) (sym (append-nil so_far.prefix) ∙ so_far.complete)

-- all of a first part, and all or a prefix of a second one
pub all_then_all : (start now new : Option (List ℕ)) (first second : List ℕ) →
    TakesAll start now first → TakesAll now new second → TakesAll start new (first ++ second)
all_then_all start now new first second one two =
    two
    ∙ ap (λ known. append_known known second) one
    ∙ append_known-append start first second

pub all_then_prefix : (start now new : Option (List ℕ)) (first second : List ℕ) →
    TakesAll start now first → TakesPrefix now new second → TakesPrefix start new (first ++ second)
all_then_prefix start now new first second one two =
    is_cut start now new second [] (first ++ second)
    (record {
      prefix = first;
      taken = one;
      complete = ap (λ rest. first ++ rest) (append-nil second);
    })
    two

-- a prefix of a first part is one of more
pub prefix_of_more : (start now : Option (List ℕ)) (first second : List ℕ) →
    TakesPrefix start now first → TakesPrefix start now (first ++ second)
prefix_of_more start now first second cut =
    is_cut start start now first second (first ++ second) (begins start (first ++ second)) cut

-- what holds of each value holds of the one that is told
pub if_some_all : {A : Type 0} (told : Option A) (Q : A → Type 0) → ((x : A) → Q x) → IfSome told Q
if_some_all None Q each = tt
if_some_all (Some x) Q each = each x

pub if_some_each : {A : Type 0} (told : Option A) (P Q : A → Type 0) → ((x : A) → P x → Q x) →
    IfSome told P → IfSome told Q
if_some_each None P Q each p = tt
if_some_each (Some x) P Q each p = each x p
