-- A run of a sound machine leaves one, in which a policy that was on is still on.
use Rattle.std.proofs.Common.{◌≡◌, true, List, [], ◌∷◌}
use Rattle.policy_trait.specs.Model.{PolicyModel}
use Rattle.policy_choice.specs.All.{AllState, AllTag, all}
use Rattle.turn_steps.specs.Feeds.{Tape, with_fed}
use Rattle.engine_trait.proofs.MachineLemmas.{turn_keeps}
use Rattle.engine_trait.specs.Machine.{IsMachine, Machine}
use Rattle.engine_trait.specs.Runs.{Item, fed, run_along, turn}
use Rattle.engine_trait.specs.Turn.{turn_of}
use Rattle.policy_parts.specs.Part.{IsPart}
use Rattle.policy_parts.specs.Lens.{Lens}
use Rattle.part_turns.proofs.TurnLemmas.{turn_shown}
use Rattle.policy_choice.specs.AllLaws.{AllHold, all_laws}

module _ {U V : Type 0} (m : PolicyModel U V) (l : Lens AllTag AllState U V) (part : IsPart all m l) where
  pub record IsOn (s : Machine AllState AllTag) : Type 0 where
    pub sound : IsMachine all s
    pub valid : AllHold s.policy
    pub on : l.is_on s.policy ≡ true

  pub run_stays : (s : Machine AllState AllTag) (feed : Tape) (items : List Item) → IsOn s → IsOn (run_along all s feed items).machine
  run_stays s feed [] is = is
  run_stays s feed (fed byte ∷ items) is = run_stays s (with_fed feed (byte ∷ [])) items is
  run_stays s feed (turn h ∷ items) is =
      let next = turn_of all s feed h in
      let kept = turn_keeps all AllHold all_laws s is.valid is.sound feed h in
      let shown = turn_shown all m l AllHold all_laws part s is.on feed h in
      run_stays next.machine next.feed items (record { sound = kept.stays.machine; valid = kept.valid; on = shown.stays_on })
