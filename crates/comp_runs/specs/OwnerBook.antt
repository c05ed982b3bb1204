-- The owner book of a run: who owns each word, who may jump to it and who may write it.
use Rattle.std.specs.Prelude.{ℕ, ◌+◌, ◌*◌, ◌==◌, nat_le, nat_lt, Bool, false, ◌&&◌, List, Option, Some, None, if◌then◌else◌}
use Rattle.std.specs.List.{fold}
use Rattle.policy_trait.specs.Sets.{CompartmentSet, set_of, set_with}
use Rattle.policy_trait.specs.declared.birth.Birth.{Birth}
use Rattle.policy_trait.specs.declared.services.Answer.{Answer}
use Rattle.policy_trait.specs.declared.services.Words.{Words}
use Rattle.compartment_policy.specs.Compartments.{let_in_service, let_write_service, split_service}
use Rattle.engine_trait.specs.Events.{Event}
use Rattle.part_turns.specs.Moments.{Service, service_of}

-- a word's owner, the compartments that may jump to it and those that may write it
pub record Owned : Type 0 where
  pub owner : ℕ
  pub into : CompartmentSet
  pub write : CompartmentSet

-- what is said of each word, by its number: word n stands at the address 4 * n
abbrev pub OwnerBook : Type 0
OwnerBook = ℕ → Owned

-- as the image says
abbrev pub first_owners : (ℕ → Birth) → OwnerBook
first_owners birth n = record { owner = (birth (4 * n)).owner; into = (birth (4 * n)).into; write = (birth (4 * n)).write }

-- word n lies in the range
abbrev pub covers : Words → ℕ → Bool
covers range n = nat_le range.base (4 * n) && nat_lt (4 * n) (range.base + 4 * range.count)

abbrev pub is_covered : Option Words → ℕ → Bool
is_covered None n = false
is_covered (Some range) n = covers range n

-- the compartment that was split off, which owns the word alone
abbrev pub split_off : {T : Type 0} → Option (Answer T) → Owned → Owned
split_off None old = old
split_off (Some answer) old = record { owner = answer.value; into = set_of 0; write = set_of 0 }

module _ {T : Type 0} where
  -- what a service does to a word of its range: splits it off, lets a2 jump to it, or lets a2 write it
  abbrev pub owned_after : Service T → Owned → Owned
  owned_after x old =
      if x.number == split_service then split_off x.answer old else
      if x.number == let_in_service then record old { into = set_with old.into x.arguments.a2 } else
      if x.number == let_write_service then record old { write = set_with old.write x.arguments.a2 } else
      old

  abbrev pub owners_by : OwnerBook → Option (Service T) → OwnerBook
  owners_by book None = book
  owners_by book (Some x) = λ n. if is_covered x.range n then owned_after x (book n) else book n

  abbrev pub owners_after : OwnerBook → Event T → OwnerBook
  owners_after book event = owners_by book (service_of event)

  unfoldable pub owner_book : (ℕ → Birth) → List (Event T) → OwnerBook
  owner_book birth events = fold owners_after (first_owners birth) events
