-- What holds of compartments in each state that a run comes to.
use Rattle.std.specs.Prelude.{◌≡◌, ℕ, ◌<◌, ◌==◌, Bool, true, false, List, length, slice_index, slice_index_or, if◌then◌else◌}
use Rattle.std.specs.List.{fold}
use Rattle.policy_trait.specs.declared.birth.Birth.{Birth}
use Rattle.engine_trait.specs.Events.{Event, is_retirement}
use Rattle.engine_trait.specs.Machine.{Machine, hart_at, is_ready_in}
use Rattle.compartment_policy.specs.declared.tag.CompartmentTag.{CompartmentTag}
use Rattle.compartment_policy.specs.Compartments.{CompartmentState}
use Rattle.compartment_policy.specs.declared.tag.CompartmentTag.TheVariants.{Pc, Place}
use Rattle.comp_runs.specs.CompSafe.{is_jump, owner_at}
use Rattle.comp_runs.specs.OwnerBook.{Owned, OwnerBook, first_owners, owners_after}

-- a hart's last retired turn: the owner of its word at that turn, and whether it was a jump
pub record Last : Type 0 where
  pub owner : ℕ
  pub jumped : Bool

-- the owners of all words, and each hart's last retired turn
pub record Standing : Type 0 where
  pub owners : OwnerBook
  pub last : ℕ → Last

-- the tag of a word that is so owned
abbrev pub place_of : Owned → CompartmentTag
place_of owned = Place owned.owner owned.into owned.write

module _ {T : Type 0} where
  abbrev pub last_after : Standing → Event T → ℕ → Last
  last_after old event h =
      if h == event.hart then record { owner = owner_at old.owners event; jumped = is_jump event.word } else old.last h

  abbrev pub stands_after : Standing → Event T → Standing
  stands_after old event = record { owners = owners_after old.owners event; last = if is_retirement event then last_after old event else old.last }

module _ (birth : ℕ → Birth) (entries : List ℕ) where
  -- before its first turn a hart comes from the owner of its entry
  abbrev pub first_standing : Standing
  first_standing = record { owners = first_owners birth; last = λ h. record { owner = (birth (slice_index entries h)).owner; jumped = false } }

  unfoldable pub standing_of : {T : Type 0} → List (Event T) → Standing
  standing_of events = fold stands_after first_standing events

  -- Each word's tag says what the book says of it, and its owner is one of the compartments. A ready hart's pc says whose
  -- word it executed last, and whether that was a jump.
  pub record CompInvariant (events : List (Event CompartmentTag)) (s : Machine CompartmentState CompartmentTag) : Type 0 where
    pub tags : (n : ℕ) → n < length s.core.ram.words → slice_index_or s.core.ram.tags n s.core.ram.plain ≡ place_of ((standing_of events).owners n)
    pub few : (n : ℕ) → n < length s.core.ram.words → ((standing_of events).owners n).owner < s.policy.count
    pub pcs : (h : ℕ) → is_ready_in s.core h ≡ true
        → (hart_at s.core h).pc_tag ≡ Pc ((standing_of events).last h).jumped ((standing_of events).last h).owner
