-- What a turn does under compartments, after the turns before it.
use Rattle.std.specs.Prelude.{◌≡◌, ℕ, ◌/◌, true, List}
use Rattle.policy_trait.specs.declared.birth.Birth.{Birth}
use Rattle.engine_trait.specs.Events.{Event, is_retirement}
use Rattle.compartment_policy.specs.declared.tag.CompartmentTag.{CompartmentTag}
use Rattle.comp_runs.specs.CompInvariant.{Last, standing_of}
use Rattle.comp_runs.specs.CompSafe.{MayFollow, WritesByRight}
use Rattle.comp_runs.specs.OwnerBook.{owner_book}

module _ (birth : ℕ → Birth) (entries : List ℕ) where
  -- a hart's last retired turn, or its entry
  abbrev pub last_of : List (Event CompartmentTag) → ℕ → Last
  last_of before h = (standing_of birth entries before).last h

  -- a retired turn writes by right, and may follow the hart's last one
  pub record CompTurn (before : List (Event CompartmentTag)) (event : Event CompartmentTag) : Type 0 where
    pub writes : is_retirement event ≡ true → WritesByRight (owner_book birth before) event
    pub follows : is_retirement event ≡ true
        → MayFollow (last_of before event.hart).owner (last_of before event.hart).jumped (owner_book birth before (event.pc / 4))
