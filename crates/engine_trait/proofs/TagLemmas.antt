-- The tags that stand in a core, and changes of each tag that agree on them.
use Rattle.std.proofs.Common.{◌≡◌, List, [], ◌∷◌, ◌++◌, map, refl, ap, sym, ◌∙◌}
use Rattle.std.proofs.lemmas.List.{map-append}
use Rattle.std.specs.List.{AllByRecursion, flat_map}
use Rattle.tag_memory.specs.Hart.{HartState, hart_tags}
use Rattle.tag_memory.specs.Maps.{hart_by}
use Rattle.engine_trait.specs.Machine.{CoreState, core_tags}
use Rattle.engine_trait.specs.Maps.{core_by}

-- what holds of each item of two lists in a row holds of each of the first, and of each of the second
both_parts : {X : Type 0} (P : X → Type 0) (xs ys : List X) → AllByRecursion P (xs ++ ys) → AllByRecursion P xs × AllByRecursion P ys
both_parts P [] ys all = (tt, all)
both_parts P (x ∷ xs) ys all = let parts = both_parts P xs ys all.1 in ((all.0, parts.0), parts.1)

module _ {T U : Type 0} (f : T → U) where
  hart_tags_by : (harts : List (HartState T)) → flat_map hart_tags (map (hart_by f) harts) ≡ map f (flat_map hart_tags harts)
  hart_tags_by [] = refl
  hart_tags_by (hart ∷ harts) =
      ap (λ tags. map f (hart_tags hart) ++ tags) (hart_tags_by harts) ∙ sym (map-append f (hart_tags hart) (flat_map hart_tags harts))

  -- the tags of a changed core are the changed tags
  pub core_tags_by : (core : CoreState T) → core_tags (core_by f core) ≡ map f (core_tags core)
  core_tags_by core =
      ap (λ tags. tags ++ map f core.ram.tags) (hart_tags_by core.harts) ∙ sym (map-append f (flat_map hart_tags core.harts) core.ram.tags)

-- ---- two changes that agree

module _ {T U : Type 0} (f g : T → U) where
  -- on every tag of a list
  abbrev pub AgreeOn : List T → Type 0
  AgreeOn tags = AllByRecursion (λ tag. f tag ≡ g tag) tags

  -- on the plain tag of every hart of a list
  abbrev pub AgreeOnPlain : List (HartState T) → Type 0
  AgreeOnPlain harts = AllByRecursion (λ hart. f hart.plain ≡ g hart.plain) harts

  map_alike : (tags : List T) → AgreeOn tags → map f tags ≡ map g tags
  map_alike [] same = refl
  map_alike (tag ∷ tags) same = λ j. same.0 j ∷ map_alike tags same.1 j

  hart_alike : (hart : HartState T) → AgreeOn (hart_tags hart) → f hart.plain ≡ g hart.plain → hart_by f hart ≡ hart_by g hart
  hart_alike hart same plain = λ j. record { values = hart.values; tags = map_alike hart.tags same.1 j; pc = hart.pc; pc_tag = same.0 j; plain = plain j }

  harts_alike : (harts : List (HartState T)) → AgreeOn (flat_map hart_tags harts) → AgreeOnPlain harts → map (hart_by f) harts ≡ map (hart_by g) harts
  harts_alike [] same plain = refl
  harts_alike (hart ∷ harts) same plain =
      let parts = both_parts (λ tag. f tag ≡ g tag) (hart_tags hart) (flat_map hart_tags harts) same in
      λ j. hart_alike hart parts.0 plain.0 j ∷ harts_alike harts parts.1 plain.1 j

  -- they change a core alike whose tags and plain tags they agree on
  pub core_alike : (core : CoreState T) → AgreeOn (core_tags core) → AgreeOnPlain core.harts → f core.ram.plain ≡ g core.ram.plain → core_by f core ≡ core_by g core
  core_alike core same plain ram_plain =
      let parts = both_parts (λ tag. f tag ≡ g tag) (flat_map hart_tags core.harts) core.ram.tags same in
      λ j. record {
        harts = harts_alike core.harts parts.0 plain j;
        stops = core.stops;
        ram = record { words = core.ram.words; tags = map_alike core.ram.tags parts.1 j; plain = ram_plain j };
      }
