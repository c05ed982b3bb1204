-- What an instruction stores: in a word of memory, whose tag the rule was asked with, and which stays if the rule leaves it.
use Rattle.std.proofs.Common.{◌≡◌, ℕ, ◌/◌, ◌<◌, Bool, true, false, length, Some, refl, sym, ap, ◌∙◌, subst, arith}
use Rattle.std.proofs.lemmas.List.{length-set, set-get_or}
use Rattle.std.proofs.lemmas.Option.{same_Some}
use Rattle.std.specs.Prelude.{slice_set}
use Rattle.rv_step.specs.Accesses.{EndsWithin, bytes_of}
use Rattle.rv_step.specs.declared.accesses.Access.{Access}
use Rattle.rv_step.specs.declared.accesses.Access.TheVariants as access
use Rattle.rv_step.specs.declared.accesses.Width.{Width}
use Rattle.rv_step.specs.declared.accesses.Width.TheVariants.{Full}
use Rattle.tag_memory.specs.Hart.{HartState, reg_value}
use Rattle.tag_memory.specs.Ram.{RamState, ram_bytes, ram_tag}
use Rattle.turn_steps.specs.Effects.{with_store}
use Rattle.turn_steps.specs.Looks.{access_tag}
use Rattle.turn_steps.specs.declared.look.Look.{Look}
use Rattle.engine_trait.specs.Events.{Touch, touch_of}
use Rattle.compartment_policy.specs.Compartments.{is_store}
use Rattle.part_turns.specs.Turns.{Does, computes, loads, loads_part, moves, stores, stores_part}
use Rattle.part_turns.proofs.PlaceLemmas.{some_bytes}

-- ---- tags

-- memory has as many words, with the same tags
pub record KeepsTags {T : Type 0} (old new : RamState T) : Type 0 where
  pub count : length new.words ≡ length old.words
  pub tags : new.tags ≡ old.tags
  pub plain : new.plain ≡ old.plain

store_keeps_tags : {T : Type 0} (ram : RamState T) (place : ℕ) (width : Width) (value : ℕ) (tag : T) → tag ≡ ram_tag ram place
    → KeepsTags ram (with_store ram (access.Store place width value) tag)
store_keeps_tags ram place width value tag same = record {
  count = length-set ram.words (place / 4) _;
  tags = ap (slice_set ram.tags (place / 4)) same ∙ set-get_or ram.tags (place / 4) ram.plain;
  plain = refl;
}

module _ {T : Type 0} (hart : HartState T) (ram : RamState T) (look : Look) (register value : ℕ) where
  abbrev KeptBy : T → Access → Type 0
  KeptBy result access = KeepsTags ram (with_store ram access result)

  same_ram : KeepsTags ram ram
  same_ram = record { count = refl; tags = refl; plain = refl }

  pub does_keep_tags : (result : T) → (is_store look.group ≡ true → result ≡ access_tag ram hart.plain look.effect.access) → Does hart ram look register value
      → KeepsTags ram (with_store ram look.effect.access result)
  does_keep_tags result left (moves g a v) = subst (KeptBy result) (sym a) same_ram
  does_keep_tags result left (loads place g a v) = subst (KeptBy result) (sym a) same_ram
  does_keep_tags result left (loads_part place width signed g a) = subst (KeptBy result) (sym a) same_ram
  does_keep_tags result left (stores place g a r) =
      subst (KeptBy result) (sym a) (store_keeps_tags ram place Full _ result (left (ap is_store g) ∙ ap (access_tag ram hart.plain) a))
  does_keep_tags result left (stores_part place stored width g a r) =
      subst (KeptBy result) (sym a) (store_keeps_tags ram place width stored result (left (ap is_store g) ∙ ap (access_tag ram hart.plain) a))
  does_keep_tags result left (computes g a) = subst (KeptBy result) (sym a) same_ram

-- ---- the word that a store writes

-- the instruction stores, and the rule was asked with the tag of that word of memory
pub record Stores {T : Type 0} (hart : HartState T) (ram : RamState T) (look : Look) (touch : Touch) : Type 0 where
  pub is_storing : is_store look.group ≡ true
  pub tag : access_tag ram hart.plain look.effect.access ≡ ram_tag ram touch.address
  pub within : touch.address / 4 < length ram.words

module _ {T : Type 0} (hart : HartState T) (ram : RamState T) (look : Look) (register value : ℕ) (touch : Touch) where
  abbrev StoresBy : Access → Type 0
  StoresBy access = EndsWithin (ram_bytes ram) access → touch_of access ≡ Some touch → touch.stores ≡ true → Stores hart ram look touch

  no_access : StoresBy access.None
  no_access ends e storing = absurd cc

  only_loads : (place : ℕ) (width : Width) (signed : Bool) → StoresBy (access.Load place width signed)
  only_loads place width signed ends e storing =
      let not_storing = ap (λ (x : Touch). x.stores) (same_Some (record { address = place; bytes = bytes_of width; stores = false }) touch e) in
      absurd cc

  storing_at : (place : ℕ) (width : Width) (stored : ℕ) → is_store look.group ≡ true → access_tag ram hart.plain look.effect.access ≡ ram_tag ram place
      → StoresBy (access.Store place width stored)
  storing_at place width stored is tag ends e storing =
      let same = same_Some (record { address = place; bytes = bytes_of width; stores = true }) touch e in
      let address : place ≡ touch.address = ap (λ (x : Touch). x.address) same in
      record {
        is_storing = is;
        tag = tag ∙ ap (ram_tag ram) address;
        within = omega (arith, some_bytes width, ends);
      }

  pub does_store : Does hart ram look register value → StoresBy look.effect.access
  does_store (moves g a v) = subst StoresBy (sym a) no_access
  does_store (loads place g a v) = subst StoresBy (sym a) (only_loads place Full false)
  does_store (loads_part place width signed g a) = subst StoresBy (sym a) (only_loads place width signed)
  does_store (stores place g a r) =
      subst StoresBy (sym a) (storing_at place Full (reg_value hart look.places.second) (ap is_store g) (ap (access_tag ram hart.plain) a))
  does_store (stores_part place stored width g a r) =
      subst StoresBy (sym a) (storing_at place width stored (ap is_store g) (ap (access_tag ram hart.plain) a))
  does_store (computes g a) = subst StoresBy (sym a) no_access
