-- What the turns of a part keep and guarantee, each run under the whole policy keeps and guarantees, from any sound machine on
-- in which the part is on and its invariant holds.
use Rattle.std.proofs.Common.{◌≡◌, true, List, [], ◌∷◌, ◌++◌, map, ap, sym, subst, ◌∙◌, append_assoc, append-nil}
use Rattle.policy_trait.specs.PolicyLaws.{KeepsLaws}
use Rattle.policy_trait.specs.Model.{PolicyModel}
use Rattle.turn_steps.specs.Feeds.{Tape, with_fed}
use Rattle.engine_trait.specs.Events.{Event, event_of}
use Rattle.engine_trait.specs.Machine.{IsMachine, Machine}
use Rattle.engine_trait.specs.Runs.{Item, Trace, fed, run_along, turn}
use Rattle.engine_trait.specs.Turn.{turn_of}
use Rattle.engine_trait.proofs.MachineLemmas.{turn_keeps}
use Rattle.policy_parts.specs.Part.{IsPart}
use Rattle.policy_parts.specs.Lens.{Lens}
use Rattle.part_turns.specs.Keeps.{Keeps, RunKeeps}
use Rattle.part_turns.specs.Maps.{event_with, seen_by}
use Rattle.part_turns.specs.Moments.{Moment}
use Rattle.part_turns.proofs.MachineLemmas.{seen_sound, words_stay}
use Rattle.part_turns.proofs.TurnLemmas.{turn_shown}

-- ---- the moments of a run

module _ {U : Type 0} (guarantee : List (Event U) → Event U → Type 0) where
  -- each of these turns is as guaranteed, with those before it
  abbrev Guaranteed : List (Event U) → List (Event U) → Type 0
  Guaranteed before events = (x : Moment events) → guarantee (before ++ x.before) x.event

  none_guaranteed : (before : List (Event U)) → Guaranteed before []
  none_guaranteed before x = by_parts x.before x.event x.later x.parts
    where
      by_parts : (prefix : List (Event U)) (event : Event U) (later : List (Event U)) → prefix ++ event ∷ later ≡ [] → guarantee (before ++ prefix) event
      by_parts [] event later parts = absurd cc
      by_parts (first ∷ prefix) event later parts = absurd cc

  more_guaranteed : (before : List (Event U)) (e : Event U) (events : List (Event U)) → guarantee before e → Guaranteed (before ++ e ∷ []) events
      → Guaranteed before (e ∷ events)
  more_guaranteed before e events here after x = by_parts x.before x.event x.later x.parts
    where
      by_parts : (prefix : List (Event U)) (event : Event U) (later : List (Event U)) → prefix ++ event ∷ later ≡ e ∷ events
          → guarantee (before ++ prefix) event
      by_parts [] event later parts =
          let same : event ≡ e = cc in
          subst (λ (turns : List (Event U)). guarantee turns event) (sym (append-nil before)) (subst (guarantee before) (sym same) here)
      by_parts (first ∷ prefix) event later parts =
          let same : e ≡ first = cc in
          let rest : prefix ++ event ∷ later ≡ events = cc in
          let place : (before ++ e ∷ []) ++ prefix ≡ before ++ first ∷ prefix =
          append_assoc before (e ∷ []) prefix ∙ ap (λ (turn : Event U). before ++ turn ∷ prefix) same in
          subst (λ (turns : List (Event U)). guarantee turns event) place
          (after (record { before = prefix; event = event; later = later; parts = rest }))

-- ---- a run

module _ {T S U V : Type 0} (w : PolicyModel T S) (m : PolicyModel U V) (l : Lens T S U V) (holds : S → Type 0) (laws : KeepsLaws w holds)
    (part : IsPart w m l) (invariant : List (Event U) → Machine V U → Type 0) (guarantee : List (Event U) → Event U → Type 0)
    (keeps : Keeps m invariant guarantee) where
  abbrev seen : List (Event T) → List (Event U)
  seen events = map (event_with l.tag) events

  -- what a run keeps that goes on after some turns
  record KeepsOn (before : List (Event U)) (trace : Trace S T) : Type 0 where
    guarantees : Guaranteed guarantee before (seen trace.events)
    kept : invariant (before ++ seen trace.events) (seen_by l trace.machine)

  keeps_on : (before : List (Event U)) (s : Machine S T) (feed : Tape) (items : List Item) → l.is_on s.policy ≡ true → IsMachine w s
      → holds s.policy → invariant before (seen_by l s) → KeepsOn before (run_along w s feed items)
  keeps_on before s feed [] on is valid held = record {
    guarantees = none_guaranteed guarantee before;
    kept = subst (λ (turns : List (Event U)). invariant turns (seen_by l s)) (sym (append-nil before)) held;
  }
  keeps_on before s feed (fed byte ∷ items) on is valid held = keeps_on before s (with_fed feed (byte ∷ [])) items on is valid held
  keeps_on before s feed (turn h ∷ items) on is valid held =
      let e = event_with l.tag (event_of w s feed h) in
      let next = turn_of w s feed h in
      let shown = turn_shown w m l holds laws part s on feed h in
      let whole = turn_keeps w holds laws s valid is feed h in
      let now =
      keeps.turn before (seen_by l s) h e (seen_by l next.machine) (seen_sound w m l part s on is) held (shown.turns is valid)
      (words_stay w l holds laws s is valid feed h) in
      let trace = run_along w next.machine next.feed items in
      let rest : KeepsOn (before ++ e ∷ []) trace =
      keeps_on (before ++ e ∷ []) next.machine next.feed items shown.stays_on whole.stays.machine whole.valid now.1 in
      record {
        guarantees = more_guaranteed guarantee before e (seen trace.events) now.0 rest.guarantees;
        kept = subst (λ (turns : List (Event U)). invariant turns (seen_by l trace.machine)) (append_assoc before (e ∷ []) (seen trace.events)) rest.kept;
      }

  pub runs_keep : (s : Machine S T) (feed : Tape) (items : List Item) → l.is_on s.policy ≡ true → IsMachine w s → holds s.policy
      → invariant [] (seen_by l s) → RunKeeps l invariant guarantee (run_along w s feed items)
  runs_keep s feed items on is valid held =
      let run = keeps_on [] s feed items on is valid held in
      record { guarantees = run.guarantees; kept = run.kept }
