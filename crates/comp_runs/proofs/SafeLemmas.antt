-- A run in which each turn writes by right and follows by right is safe.
use Rattle.std.proofs.Common.{◌≡◌, inl, inr, ℕ, ◌/◌, false, List, ◌∷◌, ◌++◌, refl, ap, ◌∙◌, subst, append_assoc}
use Rattle.policy_trait.specs.declared.birth.Birth.{Birth}
use Rattle.engine_trait.specs.Events.{Event}
use Rattle.compartment_policy.specs.declared.tag.CompartmentTag.{CompartmentTag}
use Rattle.part_turns.specs.Moments.{First, Moment, Successive}
use Rattle.comp_runs.specs.CompInvariant.{Last, first_standing}
use Rattle.comp_runs.specs.CompSafe.{CompSafe, MayFollow}
use Rattle.comp_runs.specs.CompTurn.{CompTurn, last_of}
use Rattle.comp_runs.specs.OwnerBook.{Owned, owner_book}
use Rattle.comp_runs.proofs.StandingLemmas.{is_own, last_at, last_at_first, last_since}

-- a word that is executed without a jump has the same owner
no_jump : (from : ℕ) (owned : Owned) → MayFollow from false owned → owned.owner ≡ from
no_jump from owned (inl same) = same
no_jump from owned (inr jumped) = absurd cc

-- after the hart's last retired turn
abbrev MayFollowLast : Owned → Last → Type 0
MayFollowLast owned last = MayFollow last.owner last.jumped owned

module _ (birth : ℕ → Birth) (entries : List ℕ) (events : List (Event CompartmentTag))
    (each : (x : Moment events) → CompTurn birth entries x.before x.event) where
  -- the moment of the second of two turns of a hart
  abbrev second_of : Successive events → Moment events
  second_of x = record {
    before = x.before ++ x.first ∷ x.between;
    event = x.second;
    later = x.later;
    parts = append_assoc x.before (x.first ∷ x.between) (x.second ∷ x.later) ∙ x.parts;
  }

  last_before : (x : Successive events)
      → last_of birth entries (x.before ++ x.first ∷ x.between) x.second.hart ≡ last_at (owner_book birth x.before) x.first
  last_before x =
      ap (last_of birth entries (x.before ++ x.first ∷ x.between)) x.one_hart
      ∙ last_since birth entries x.before x.first x.between x.first.hart (is_own x.first.hart x.first x.first_retired refl) x.none_between

  second_follows : (x : Successive events)
      → MayFollowLast (owner_book birth (x.before ++ x.first ∷ x.between) (x.second.pc / 4)) (last_at (owner_book birth x.before) x.first)
  second_follows x =
      subst (MayFollowLast (owner_book birth (x.before ++ x.first ∷ x.between) (x.second.pc / 4))) (last_before x)
      ((each (second_of x)).follows x.second_retired)

  first_follows : (x : First events)
      → MayFollowLast (owner_book birth x.moment.before (x.moment.event.pc / 4)) ((first_standing birth entries).last x.moment.event.hart)
  first_follows x =
      subst (MayFollowLast (owner_book birth x.moment.before (x.moment.event.pc / 4)))
      (last_at_first birth entries x.moment.before x.moment.event.hart x.none_before)
      ((each x.moment).follows x.is_retired)

  pub comp_law : CompSafe birth entries events
  comp_law = record {
    writes = λ x. (each x).writes;
    follows = second_follows;
    enters = λ x.
        no_jump ((first_standing birth entries).last x.moment.event.hart).owner (owner_book birth x.moment.before (x.moment.event.pc / 4))
        (first_follows x);
  }
