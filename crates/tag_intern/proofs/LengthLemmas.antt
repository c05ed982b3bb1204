-- Tags that come are no more than the tags of a list that has them all.
use Rattle.std.proofs.Common.{◌≡◌, ◌≤◌, Bool, true, false, List, [], ◌∷◌, length, Some, refl, sym, ap, subst, ◌∙◌, arith}
use Rattle.std.specs.Cmp.{IsEquivalence}
use Rattle.std.specs.List.{All, AllByRecursion, Contains, IsDistinct, list_any}
use Rattle.std.proofs.lemmas.List.Elements.{All-contains, All-nil, All-push}
use Rattle.std.proofs.lemmas.Map.Made.{IsDistinct-from_AllPairs, length-le_from_is_member}
use Rattle.std.proofs.lemmas.Map.Views.{Contains-from_any, list_any-from_Contains}
use Rattle.std.proofs.lemmas.Option.{slice_get-get_or}
use Rattle.pump_words.specs.Same.{TellsApart}
use Rattle.engine_trait.specs.Accounts.{with_tag, with_tags}
use Rattle.tag_intern.specs.Table.{HasNoRepeats}
use Rattle.tag_intern.proofs.TableLemmas.{distinct_with_tags, with_known, with_new}

module _ {T : Type 0} (eq : T → T → Bool) (laws : IsEquivalence eq) (exact : TellsApart eq) where
  -- no two tags of a list without repeats are the same
  distinct_by : (tags : List T) → HasNoRepeats tags → IsDistinct eq tags
  distinct_by tags distinct =
      IsDistinct-from_AllPairs (λ a b. (exact a b, λ e. subst (λ x. eq a x ≡ true) e (laws.refl a))) tags
      (λ i j d less within e.
      let same = distinct i j (omega (arith, less, within)) (slice_get-get_or tags i d (omega (arith, less, within)) ∙ ap Some e ∙ sym (slice_get-get_or tags j d within)) in
      omega (arith, same, less))

  -- it is no longer than one that has its tags
  shorter : (tags all : List T) → HasNoRepeats tags → All (Contains all) tags → length tags ≤ length all
  shorter tags all distinct has =
      length-le_from_is_member laws tags all (distinct_by tags distinct)
      (λ tag member. list_any-from_Contains laws tag all (All-contains (Contains all) tags tag has (Contains-from_any exact tag tags member)))

  module _ (all : List T) where
    -- with a tag that a list has there are still only such ones
    has_with : (seen : List T) (tag : T) → All (Contains all) seen → Contains all tag → All (Contains all) (with_tag eq seen tag)
    has_with seen tag has there = by (list_any (eq tag) seen) refl
      where
        by : (found : Bool) → list_any (eq tag) seen ≡ found → All (Contains all) (with_tag eq seen tag)
        by true e = subst (All (Contains all)) (sym (with_known eq laws seen tag e)) has
        by false e = subst (All (Contains all)) (sym (with_new eq laws seen tag e)) (All-push (Contains all) seen tag has there)

    -- the same for some tags
    has_with_tags : (seen tags : List T) → All (Contains all) seen → AllByRecursion (Contains all) tags → All (Contains all) (with_tags eq seen tags)
    has_with_tags seen [] has more = has
    has_with_tags seen (tag ∷ tags) has more = has_with_tags (with_tag eq seen tag) tags (has_with seen tag has more.0) more.1

    -- they are no more than that list has
    pub no_longer : (tags : List T) → AllByRecursion (Contains all) tags → length (with_tags eq [] tags) ≤ length all
    no_longer tags has =
        shorter (with_tags eq [] tags) all (distinct_with_tags eq laws [] tags (λ i j h e. absurd (omega (arith, h))))
        (has_with_tags [] tags (All-nil (Contains all)) has)
