-- Whether a tag has a word, and how many more have one with it.
use Rattle.std.proofs.Common.{◌≡◌, ◌+◌, Bool, true, false, List, [], ◌∷◌, ◌++◌, length, if◌then◌else◌, true≢false, refl, sym, ◌∙◌, arith}
use Rattle.std.specs.Cmp.{IsEquivalence}
use Rattle.std.specs.List.{Contains, list_any}
use Rattle.std.proofs.lemmas.List.{length-append}
use Rattle.std.proofs.lemmas.Map.Views.{Contains-from_any, list_any-from_Contains}
use Rattle.pump_words.specs.Same.{TellsApart}
use Rattle.engine_trait.specs.Accounts.{with_tag}

module _ {T : Type 0} (eq : T → T → Bool) (tags : List T) (tag : T) where
  -- a tag adds itself where it is new
  pub tag_adds : length (with_tag eq tags tag) ≡ length tags + (if list_any (eq tag) tags then 0 else 1)
  tag_adds = elim (list_any (eq tag) tags) as (λ known. length (if known then tags else tags ++ tag ∷ []) ≡ length tags + (if known then 0 else 1)) [
    | true ↦ omega arith
    | false ↦ length-append tags (tag ∷ [])
  ]

  -- a tag that is found is there, and one that is there is found
  pub known_by : IsEquivalence eq → TellsApart eq → (found : Bool) → (found ≡ false → Contains tags tag → ⊥) → ((Contains tags tag → ⊥) → found ≡ false)
      → found ≡ list_any (eq tag) tags
  known_by laws exact found absent missing = by found refl (list_any (eq tag) tags) refl
    where
      by : (is : Bool) → found ≡ is → (any : Bool) → list_any (eq tag) tags ≡ any → found ≡ list_any (eq tag) tags
      by true is true any = is ∙ sym any
      by false is false any = is ∙ sym any
      by true is false any = missing (λ there. true≢false (sym (list_any-from_Contains laws tag tags there) ∙ any)) ∙ sym any
      by false is true any = absurd (absent is (Contains-from_any exact tag tags any))
