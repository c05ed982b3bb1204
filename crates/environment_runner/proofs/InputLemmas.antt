-- What was put of an input so far is the prefix of it that was read.
use Rattle.std.proofs.Common.{◌≡◌, ℕ, List, [], ◌++◌, Option, Some, None, IfSome, refl, ap, sym, subst, ◌∙◌, append-nil}
use Rattle.std.specs.Io.KnownBytes.{append_known, prepend_known, IsAtEnd}
use Rattle.host_io.specs.Prefixes.{TakesAll}
use Rattle.host_io.proofs.PrefixLemmas.{append_known-nil, append_known-append}
use Rattle.host_io.proofs.ReadingLemmas.{prepend_known-append}

-- of what was left before, a prefix was moved out, and the sink took it
pub record HasPut (before left start taken : Option (List ℕ)) : Type 0 where
  pub prefix : List ℕ
  pub moved : before ≡ prepend_known prefix left
  pub put : taken ≡ append_known start prefix

-- nothing yet
pub none_put : (before start : Option (List ℕ)) → HasPut before before start start
none_put None start = record { prefix = []; moved = refl; put = sym (append_known-nil start) }
none_put (Some bytes) start = record { prefix = []; moved = refl; put = sym (append_known-nil start) }

-- a piece more
pub more_put : (before left next start taken new : Option (List ℕ)) (piece : List ℕ) → HasPut before left start taken
    → left ≡ prepend_known piece next → TakesAll taken new piece → HasPut before next start new
more_put before left next start taken new piece so_far moved takes = record {
  prefix = so_far.prefix ++ piece;
  moved = so_far.moved ∙ ap (prepend_known so_far.prefix) moved ∙ sym (prepend_known-append so_far.prefix piece next);
  put = takes ∙ ap (λ known. append_known known piece) so_far.put ∙ append_known-append start so_far.prefix piece;
}

-- all of it
pub all_put : (before left start taken : Option (List ℕ)) → HasPut before left start taken → IsAtEnd left → IfSome before (λ all. TakesAll start taken all)
all_put before None start taken so_far end =
    subst (λ (known : Option (List ℕ)). IfSome known (λ all. TakesAll start taken all)) (sym so_far.moved) tt
all_put before (Some bytes) start taken so_far end =
    let none_left : so_far.prefix ++ bytes ≡ so_far.prefix = ap (λ xs. so_far.prefix ++ xs) end ∙ append-nil so_far.prefix in
    subst (λ (known : Option (List ℕ)). IfSome known (λ all. TakesAll start taken all)) (sym so_far.moved) (so_far.put ∙ ap (append_known start) (sym none_left))
