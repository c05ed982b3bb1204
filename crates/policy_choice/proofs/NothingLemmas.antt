-- Where no policy is chosen all are off, and the policy that is nothing mirrors all of them together.
use Rattle.std.proofs.Common.{◌≡◌, ℕ, Bool, true, false, not, ◌&&◌, List, None, refl, sym, subst}
use Rattle.image_format.specs.Picture.{Picture}
use Rattle.compartment_policy.specs.Compartments.{CompartmentState}
use Rattle.heap_policy.specs.Heap.{HeapState}
use Rattle.policy_trait.specs.Mirrors.{Mirrors}
use Rattle.policy_product.specs.Nothing.{nothing, no_tag}
use Rattle.policy_product.specs.declared.nothing.Nothing.{Nothing}
use Rattle.policy_choice.specs.All.{AllState, all, choice_state, part_if}
use Rattle.policy_choice.specs.Choice.{is_none}
use Rattle.policy_choice.specs.declared.basis.Basis.{Basis}

-- all policies together with each of them off
abbrev pub all_off : AllState
all_off = (record { part = None }, (record { part = None }, (record { part = None }, record { part = None })))

off_if : (seal comp flow on_heap hidden : Bool) (counts : CompartmentState) (edges : List (ℕ × ℕ)) (region : HeapState)
    → (not seal && not comp && not flow && not on_heap && not hidden) ≡ true
    → (part_if seal 0, (part_if comp counts, (part_if flow edges, part_if on_heap region))) ≡ all_off
off_if false false false false hidden counts edges region none = refl
off_if true comp flow on_heap hidden counts edges region none = absurd (cc none)
off_if false true flow on_heap hidden counts edges region none = absurd (cc none)
off_if false false true on_heap hidden counts edges region none = absurd (cc none)
off_if false false false true hidden counts edges region none = absurd (cc none)

pub none_is_off : (basis : Basis) (g : Picture) → is_none basis.choice ≡ true → choice_state basis g ≡ all_off
none_is_off basis g none = off_if basis.choice.seal basis.choice.comp basis.choice.flow basis.choice.heap basis.choice.secret _ _ _ none

mirrors_off : (s : Nothing) → Mirrors no_tag all all_off nothing s
mirrors_off s = record {
  plain = refl;
  rule = λ g x. refl;
  peek = λ shape first second. refl;
  offers_none = λ k. refl;
  mirror_offers_none = λ k. refl;
  start_pc = λ b. refl;
  start_word = λ b. refl;
}

pub nothing_mirrors : (basis : Basis) (g : Picture) (s : Nothing) → is_none basis.choice ≡ true → Mirrors no_tag all (choice_state basis g) nothing s
nothing_mirrors basis g s none = subst (λ (state : AllState). Mirrors no_tag all state nothing s) (sym (none_is_off basis g none)) (mirrors_off s)
