-- How many tags outputs add to a table.
use Rattle.std.proofs.Common.{◌≡◌, ℕ, ◌+◌, Bool, true, false, ◌||◌, List, [], ◌∷◌, ◌++◌, length, if◌then◌else◌, refl, sym, ap, subst, ◌∙◌, arith}
use Rattle.std.specs.List.{list_any}
use Rattle.std.proofs.lemmas.List.Folds.{list_any-append}
use Rattle.pump_words.specs.Same.{TellsApart}
use Rattle.policy_trait.specs.declared.rules.Outs.{Outs}
use Rattle.engine_trait.specs.Accounts.{with_tag}
use Rattle.tag_intern.proofs.RoomLemmas.{tag_adds}
use Rattle.miss_handler.specs.Answered.{with_outs}

-- one tag, or none where it is known
abbrev one_unless : Bool → ℕ
one_unless known = if known then 0 else 1

either_way : (x y : Bool) → (x || (y || false)) ≡ (y || x)
either_way true true = refl
either_way true false = refl
either_way false true = refl
either_way false false = refl

module _ {T : Type 0} (eq : T → T → Bool) (exact : TellsApart eq) (tags : List T) where
  -- a tag is known after another came if it is that one, or was known before
  known_after : (first tag : T) → list_any (eq tag) (with_tag eq tags first) ≡ (eq tag first || list_any (eq tag) tags)
  known_after first tag = by (list_any (eq first) tags) refl (eq tag first) refl (list_any (eq tag) tags) refl
    where
      by : (known : Bool) → list_any (eq first) tags ≡ known → (same : Bool) → eq tag first ≡ same → (there : Bool) → list_any (eq tag) tags ≡ there
          → list_any (eq tag) (if known then tags else tags ++ first ∷ []) ≡ (same || there)
      by true known true same there is = subst (λ t. list_any (eq t) tags ≡ true) (sym (exact tag first same)) known
      by true known false same there is = is
      by false new same is_same there is = list_any-append (eq tag) tags (first ∷ []) ∙ (λ j. is j || (is_same j || false)) ∙ either_way there same

  -- outputs add those of their tags that are new
  pub outs_add : (outs : Outs T) → length (with_outs eq tags outs)
      ≡ length tags + ((if list_any (eq outs.pc) tags then 0 else 1) + (if eq outs.result outs.pc || list_any (eq outs.result) tags then 0 else 1))
  outs_add outs =
      let second = tag_adds eq (with_tag eq tags outs.pc) outs.result in
      let first = tag_adds eq tags outs.pc in
      let known = ap one_unless (known_after outs.pc outs.result) in
      omega (arith, second, first, known)
