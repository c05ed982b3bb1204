-- The next word behind runs that are kept in a list.
use Rattle.std.proofs.Common.{◌≡◌, ℕ, ◌-◌, ◌<◌, List, [], ◌∷◌, ◌++◌, length, get_or, set, take, refl, sym, ap, subst, ◌∙◌, append_assoc, arith}
use Rattle.std.specs.Prelude.{Option, Some, None}
use Rattle.shared_terms.proofs.ListLemmas.{last_set, last_split}
use Rattle.asm_emit.specs.Runs.{run_or_both, with_run}

-- the last run alone decides
run_after : {A : Type 0} (joined : A → A → Option A) (prefix : List A) (last next : A) → with_run joined (prefix ++ last ∷ []) next ≡ prefix ++ run_or_both (joined last next) last next
run_after joined [] last next = refl
run_after joined (first ∷ []) last next = refl
run_after {A} joined (first ∷ second ∷ prefix) last next = ap (λ (runs : List A). first ∷ runs) (run_after joined (second ∷ prefix) last next)

-- runs that end with a known last one
run_behind : {A : Type 0} (joined : A → A → Option A) (runs : List A) (last next : A) → 0 < length runs → last ≡ get_or runs (length runs - 1) last
    → with_run joined runs next ≡ take (length runs - 1) runs ++ run_or_both (joined last next) last next
run_behind {A} joined runs last next some is =
    let prefix = take (length runs - 1) runs in
    let split : runs ≡ prefix ++ last ∷ [] = last_split runs last some ∙ ap (λ (x : A). prefix ++ x ∷ []) (sym is) in
    ap (λ (xs : List A). with_run joined xs next) split ∙ run_after joined prefix last next

-- the word makes the last run longer
pub is_joined : {A : Type 0} (joined : A → A → Option A) (runs : List A) (count : ℕ) (last run next : A) → count ≡ length runs → 0 < count → last ≡ get_or runs (count - 1) last → joined last next ≡ Some run
    → set runs (count - 1) run ≡ with_run joined runs next
is_joined {A} joined runs count last run next count-is some is together =
    let prefix = take (length runs - 1) runs in
    let last-is : last ≡ get_or runs (length runs - 1) last = subst (λ (n : ℕ). last ≡ get_or runs (n - 1) last) count-is is in
    let filled : 0 < length runs = omega (arith, some, count-is) in
    ap (λ (n : ℕ). set runs (n - 1) run) count-is
    ∙ last_set runs run filled ∙ ap (λ (r : Option A). prefix ++ run_or_both r last next) (sym together) ∙ sym (run_behind joined runs last next filled last-is)

-- the word begins another run
pub is_begun : {A : Type 0} (joined : A → A → Option A) (runs : List A) (count : ℕ) (last next : A) → count ≡ length runs → 0 < count → last ≡ get_or runs (count - 1) last → joined last next ≡ None
    → runs ++ next ∷ [] ≡ with_run joined runs next
is_begun {A} joined runs count last next count-is some is apart =
    let prefix = take (length runs - 1) runs in
    let last-is : last ≡ get_or runs (length runs - 1) last = subst (λ (n : ℕ). last ≡ get_or runs (n - 1) last) count-is is in
    let filled : 0 < length runs = omega (arith, some, count-is) in
    let split : runs ≡ prefix ++ last ∷ [] = last_split runs last filled ∙ ap (λ (x : A). prefix ++ x ∷ []) (sym last-is) in
    ap (λ (xs : List A). xs ++ next ∷ []) split ∙ append_assoc prefix (last ∷ []) (next ∷ []) ∙ ap (λ (r : Option A). prefix ++ run_or_both r last next) (sym apart) ∙ sym (run_behind joined runs last next filled last-is)
