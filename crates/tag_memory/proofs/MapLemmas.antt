-- A change of each tag goes through what is read and what is written.
use Rattle.std.proofs.Common.{◌≡◌, ℕ, ◌-◌, ◌/◌, ◌==◌, Bool, true, false, List, refl, ap, sym, ◌∙◌, slice_index_or, slice_set, if◌then◌else◌}
use Rattle.std.proofs.Math.ListN.{get_or-map}
use Rattle.std.proofs.lemmas.List.{map-set}
use Rattle.tag_memory.specs.Hart.{HartState, reg_tag, with_reg, with_reg_tag}
use Rattle.tag_memory.specs.Maps.{hart_by, ram_by}
use Rattle.tag_memory.specs.Ram.{RamState, ram_tag, with_ram_tag}

either_by : {A B : Type 0} (f : A → B) (test : Bool) (x y : A) → (if test then f x else f y) ≡ f (if test then x else y)
either_by f true x y = refl
either_by f false x y = refl

module _ {T U : Type 0} (f : T → U) where
  module _ (hart : HartState T) (r : ℕ) where
    pub reg_tag_by : reg_tag (hart_by f hart) r ≡ f (reg_tag hart r)
    reg_tag_by =
        ap (λ (tag : U). if r == 0 then f hart.plain else tag) (get_or-map f hart.tags (r - 1) hart.plain)
        ∙ either_by f (r == 0) hart.plain (slice_index_or hart.tags (r - 1) hart.plain)

    pub with_reg_by : (value : ℕ) → with_reg (hart_by f hart) r value ≡ hart_by f (with_reg hart r value)
    with_reg_by value = either_by (hart_by f) (r == 0) hart (record hart { values = slice_set hart.values (r - 1) value })

    pub with_reg_tag_by : (tag : T) → with_reg_tag (hart_by f hart) r (f tag) ≡ hart_by f (with_reg_tag hart r tag)
    with_reg_tag_by tag =
        ap (λ (tags : List U). if r == 0 then hart_by f hart else record (hart_by f hart) { tags = tags }) (sym (map-set f hart.tags (r - 1) tag))
        ∙ either_by (hart_by f) (r == 0) hart (record hart { tags = slice_set hart.tags (r - 1) tag })

  pub ram_tag_by : (ram : RamState T) (address : ℕ) → ram_tag (ram_by f ram) address ≡ f (ram_tag ram address)
  ram_tag_by ram address = get_or-map f ram.tags (address / 4) ram.plain

  pub with_ram_tag_by : (ram : RamState T) (address : ℕ) (tag : T) → with_ram_tag (ram_by f ram) address (f tag) ≡ ram_by f (with_ram_tag ram address tag)
  with_ram_tag_by ram address tag = ap (λ (tags : List U). record (ram_by f ram) { tags = tags }) (sym (map-set f ram.tags (address / 4) tag))
