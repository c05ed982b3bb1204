-- Each turn keeps the invariant, and does as guaranteed.
use Rattle.std.proofs.Common.{ℕ, List, sym, subst}
use Rattle.policy_trait.specs.declared.birth.Birth.{Birth}
use Rattle.engine_trait.specs.Events.{Event}
use Rattle.engine_trait.specs.Machine.{IsMachine, Machine}
use Rattle.compartment_policy.specs.Compartments.{CompartmentState, compartments}
use Rattle.compartment_policy.specs.declared.tag.CompartmentTag.{CompartmentTag}
use Rattle.part_turns.specs.Turns.{Turns, exits, goes, idles, serves, stops}
use Rattle.part_turns.specs.Keeps.{Keeps}
use Rattle.comp_runs.specs.CompInvariant.{CompInvariant, Standing, standing_of}
use Rattle.comp_runs.specs.CompTurn.{CompTurn}
use Rattle.comp_runs.proofs.InvariantLemmas.{IsKept, Stands, invariant_after, invariant_stands, not_retired, turn_of_invariant}
use Rattle.comp_runs.proofs.StopLemmas.{exited, stopped_stands}
use Rattle.comp_runs.proofs.GoLemmas.{went}
use Rattle.comp_runs.proofs.ServeLemmas.{served}

module _ (old : Standing) (s : Machine CompartmentState CompartmentTag) (is : IsMachine compartments s) (invariant : Stands old s) (h : ℕ)
    (e : Event CompartmentTag) where
  turn_kept : (t : Machine CompartmentState CompartmentTag) → Turns compartments s h e t → IsKept old e t
  turn_kept t (idles ready hart unretired no_call same) = not_retired old e t unretired no_call (subst (Stands old) (sym same) invariant)
  turn_kept t (stops why ready hart unretired no_call same) =
      not_retired old e t unretired no_call (subst (Stands old) (sym same) (stopped_stands old s invariant h why))
  turn_kept t (exits look outs code allows no_call group none same) =
      subst (IsKept old e) (sym same) (exited old s invariant h look outs e allows is code no_call none)
  turn_kept t (goes look outs register value allows no_call does same) =
      subst (IsKept old e) (sym same) (went old s invariant h look outs e allows register value no_call does)
  turn_kept t (serves look outs p words allows calls none called planned ranged given same) =
      subst (IsKept old e) (sym same) (served old s invariant h look outs e allows p is words none called planned ranged given)

pub comp_keeps : (birth : ℕ → Birth) (entries : List ℕ) → Keeps compartments (CompInvariant birth entries) (CompTurn birth entries)
comp_keeps birth entries = record {
  turn = λ before s h e t is invariant turn stay.
      let kept = turn_kept (standing_of birth entries before) s is (invariant_stands birth entries before s invariant) h e t turn in
      (turn_of_invariant birth entries before e kept.guarantees, invariant_after birth entries before e t kept.stands);
}
