-- Runs of an engine: what they have of the machine's run, and that no sweep comes where none is needed.
use Rattle.std.proofs.Common.{◌≡◌, ℕ, zero, suc, ◌&&◌, Bool, true, false, List, [], ◌∷◌, take, Option, Some, None, refl, ap, sym, ◌∙◌, if◌then◌else◌}
use Rattle.std.proofs.lemmas.Bool.{false≢true}
use Rattle.policy_trait.specs.Model.{PolicyModel}
use Rattle.turn_steps.specs.Feeds.{Tape, with_fed}
use Rattle.engine_trait.specs.Accounts.{Account, account_after_turn, is_over, remembering}
use Rattle.engine_trait.specs.Events.{Event, event_of}
use Rattle.engine_trait.specs.History.{record_of}
use Rattle.engine_trait.specs.Machine.{Machine, is_ready_in}
use Rattle.engine_trait.specs.Runs.{Item, fed, run_along, turn, with_event}
use Rattle.engine_trait.specs.Standing.{Standing, Stepped, is_ready, is_running, step}
use Rattle.engine_trait.specs.Turn.{Turned, turn_of}
use Rattle.engine_trait.specs.Unswept.{unswept_after}
use Rattle.engine_trait.specs.declared.ends.Halt.{Halt}
use Rattle.engine_trait.proofs.StepLemmas.{step_idle, step_made, step_out}
use Rattle.engine_trait.proofs.TurnLemmas.{event_of-ended, turn_idle}
use Rattle.engine_trait.proofs.UnsweptLemmas.{false_before, step_unswept, unswept_halt, unswept_over, unswept_sweeps}
use Rattle.run_props.specs.EngineRuns.{EngineTrace, IsNeverOver, engine_along, led_by, step_event, turn_unswept, unswept_along}

module _ {S T : Type 0} (eq : T → T → Bool) (m : PolicyModel T S) where
  -- ---- one turn

  module _ (s : Machine S T) (feed : Tape) (h : ℕ) (a : Account T) where
    abbrev unswept_by : Bool → Account T
    unswept_by ready = if ready then remembering (record_of m s feed h) (unswept_after eq m s h a) else a

    halt_by : (ready : Bool) → is_over (unswept_by ready) ≡ false → (unswept_by ready).halt ≡ a.halt
    halt_by true within = unswept_halt eq m s h a within
    halt_by false within = refl

    turn_halt : is_over (turn_unswept eq m s feed h a) ≡ false → (turn_unswept eq m s feed h a).halt ≡ a.halt
    turn_halt within = halt_by (is_ready_in s.core h) within

    over_by : (ready : Bool) → is_over a ≡ true → is_over (unswept_by ready) ≡ true
    over_by true over = unswept_over eq m s h a over
    over_by false over = over

    sweeps_by : (ready : Bool) → (unswept_by ready).sweeps ≡ a.sweeps
    sweeps_by true = unswept_sweeps eq m s h a
    sweeps_by false = refl

  module _ (e : Standing S T) (feed : Tape) (h : ℕ) where
    -- a turn of the machine beside an account
    abbrev stepped_to : Turned S T → Account T → Stepped S T
    stepped_to turned account =
        record { standing = record { machine = turned.machine; account = account }; feed = turned.feed; ended = turned.ended }

    ready_by : (ready : Bool) → e.account.halt ≡ None → is_ready_in e.machine.core h ≡ ready → is_ready e h ≡ ready
    ready_by ready runs is = λ j. is_running (runs j) && is j

    step_by : (ready : Bool) → e.account.halt ≡ None → is_ready_in e.machine.core h ≡ ready → is_over (unswept_by e.machine feed h e.account ready) ≡ false
        → step eq m e feed h ≡ stepped_to (turn_of m e.machine feed h) (unswept_by e.machine feed h e.account ready)
    step_by true runs is within = step_unswept eq m e feed h (ready_by true runs is) within
    step_by false runs is within =
        step_idle eq m e feed h (ready_by false runs is)
        ∙ ap (λ (turned : Turned S T). stepped_to turned e.account) (sym (turn_idle m e.machine feed h is))

    -- the engine's step is the machine's turn, with the account of an engine that never sweeps
    step_is : e.account.halt ≡ None → is_over (turn_unswept eq m e.machine feed h e.account) ≡ false
        → step eq m e feed h ≡ stepped_to (turn_of m e.machine feed h) (turn_unswept eq m e.machine feed h e.account)
    step_is runs within = step_by (is_ready_in e.machine.core h) runs refl within

    -- whose event it tells
    event_is : record (event_of m e.machine feed h) { ended = (turn_of m e.machine feed h).ended } ≡ event_of m e.machine feed h
    event_is = λ j. record (event_of m e.machine feed h) { ended = sym (event_of-ended m e.machine feed h) j }

  -- ---- turns in a row

  -- the run of the machine, with the account of an engine that never sweeps
  abbrev unswept_run : Standing S T → Tape → List Item → EngineTrace S T
  unswept_run e feed items = record { trace = run_along m e.machine feed items; account = unswept_along eq m e.machine feed items e.account }

  -- a turn by the engine and then the others, by how the turn's step went
  abbrev stepped_along : Event T → List Item → Stepped S T → EngineTrace S T
  stepped_along event items stepped = led_by (record event { ended = stepped.ended }) (engine_along eq m stepped.standing stepped.feed items)

  along_is : (items : List Item) (e : Standing S T) (feed : Tape) → e.account.halt ≡ None → IsNeverOver eq m e feed items
      → engine_along eq m e feed items ≡ unswept_run e feed items
  along_is [] e feed runs never = refl
  along_is (fed byte ∷ items) e feed runs never = along_is items e (with_fed feed (byte ∷ [])) runs (λ count. never (suc count))
  along_is (turn h ∷ items) e feed runs never =
      let turned = turn_of m e.machine feed h in
      let within : is_over (turn_unswept eq m e.machine feed h e.account) ≡ false = never 1 in
      let next : Standing S T = record { machine = turned.machine; account = turn_unswept eq m e.machine feed h e.account } in
      ap (stepped_along (event_of m e.machine feed h) items) (step_is e feed h runs within)
      ∙ (λ j. led_by (event_is e feed h j) (along_is items next turned.feed (turn_halt e.machine feed h e.account within ∙ runs) (λ count. never (suc count)) j))

  pub along_trace : (e : Standing S T) (feed : Tape) (items : List Item) → e.account.halt ≡ None → IsNeverOver eq m e feed items
      → (engine_along eq m e feed items).trace ≡ run_along m e.machine feed items
  along_trace e feed items runs never = ap (λ (run : EngineTrace S T). run.trace) (along_is items e feed runs never)

  pub along_account : (e : Standing S T) (feed : Tape) (items : List Item) → e.account.halt ≡ None → IsNeverOver eq m e feed items
      → (engine_along eq m e feed items).account ≡ unswept_along eq m e.machine feed items e.account
  along_account e feed items runs never = ap (λ (run : EngineTrace S T). run.account) (along_is items e feed runs never)

  -- no sweep is counted
  along_sweeps : (items : List Item) (s : Machine S T) (feed : Tape) (a : Account T) → (unswept_along eq m s feed items a).sweeps ≡ a.sweeps
  along_sweeps [] s feed a = refl
  along_sweeps (fed byte ∷ items) s feed a = along_sweeps items s (with_fed feed (byte ∷ [])) a
  along_sweeps (turn h ∷ items) s feed a =
      along_sweeps items (turn_of m s feed h).machine (turn_of m s feed h).feed (turn_unswept eq m s feed h a) ∙ sweeps_by s feed h a (is_ready_in s.core h)

  pub along_unswept : (e : Standing S T) (feed : Tape) (items : List Item) → e.account.halt ≡ None → IsNeverOver eq m e feed items
      → (engine_along eq m e feed items).account.sweeps ≡ e.account.sweeps
  along_unswept e feed items runs never =
      ap (λ (run : EngineTrace S T). run.account.sweeps) (along_is items e feed runs never) ∙ along_sweeps items e.machine feed e.account

  -- ---- words are never fewer than before, so that a list is never over where it is not at its end

  along_over : (items : List Item) (s : Machine S T) (feed : Tape) (a : Account T) → is_over a ≡ true → is_over (unswept_along eq m s feed items a) ≡ true
  along_over [] s feed a over = over
  along_over (fed byte ∷ items) s feed a over = along_over items s (with_fed feed (byte ∷ [])) a over
  along_over (turn h ∷ items) s feed a over =
      along_over items (turn_of m s feed h).machine (turn_of m s feed h).feed (turn_unswept eq m s feed h a) (over_by s feed h a (is_ready_in s.core h) over)

  part_over : (items : List Item) (count : ℕ) (s : Machine S T) (feed : Tape) (a : Account T)
      → is_over (unswept_along eq m s feed (take count items) a) ≡ true → is_over (unswept_along eq m s feed items a) ≡ true
  part_over items zero s feed a over = along_over items s feed a over
  part_over [] (suc count) s feed a over = over
  part_over (fed byte ∷ items) (suc count) s feed a over = part_over items count s (with_fed feed (byte ∷ [])) a over
  part_over (turn h ∷ items) (suc count) s feed a over =
      part_over items count (turn_of m s feed h).machine (turn_of m s feed h).feed (turn_unswept eq m s feed h a) over

  pub never_over : (e : Standing S T) (feed : Tape) (items : List Item) → is_over (unswept_along eq m e.machine feed items e.account) ≡ false
      → IsNeverOver eq m e feed items
  never_over e feed items within count =
      false_before (is_over (unswept_along eq m e.machine feed (take count items) e.account)) (is_over (unswept_along eq m e.machine feed items e.account))
      (part_over items count e.machine feed e.account) within

  -- ---- an engine that runs at the end, whatever it swept

  -- one that is stopped as a whole stays so
  along_halted : (items : List Item) (e : Standing S T) (feed : Tape) (why : Halt) → e.account.halt ≡ Some why
      → (engine_along eq m e feed items).account.halt ≡ Some why
  along_halted [] e feed why halted = halted
  along_halted (fed byte ∷ items) e feed why halted = along_halted items e (with_fed feed (byte ∷ [])) why halted
  along_halted (turn h ∷ items) e feed why halted =
      let waits : is_ready e h ≡ false = ap (λ halt. is_running halt && is_ready_in e.machine.core h) halted in
      ap (λ (stepped : Stepped S T). (engine_along eq m stepped.standing stepped.feed items).account.halt) (step_idle eq m e feed h waits)
      ∙ along_halted items e feed why halted

  -- so that one that runs at the end ran before
  ran_by : (items : List Item) (e : Standing S T) (feed : Tape) (halt : Option Halt) → e.account.halt ≡ halt
      → (engine_along eq m e feed items).account.halt ≡ None → halt ≡ None
  ran_by items e feed None is runs = refl
  ran_by items e feed (Some why) is runs = absurd (false≢true (ap is_running (sym (along_halted items e feed why is) ∙ runs)))

  ran_before : (items : List Item) (e : Standing S T) (feed : Tape) → (engine_along eq m e feed items).account.halt ≡ None → e.account.halt ≡ None
  ran_before items e feed runs = ran_by items e feed e.account.halt refl runs

  -- a step as a turn of the machine
  abbrev turned_by : Stepped S T → Turned S T
  turned_by stepped = record { machine = stepped.standing.machine; feed = stepped.feed; ended = stepped.ended }

  module _ (e : Standing S T) (feed : Tape) (h : ℕ) where
    turn_by : (ready over : Bool) → e.account.halt ≡ None → is_ready_in e.machine.core h ≡ ready
        → is_over (account_after_turn eq m e.machine h e.account) ≡ over
        → (step eq m e feed h).standing.account.halt ≡ None → turned_by (step eq m e feed h) ≡ turn_of m e.machine feed h
    turn_by false over ran is_so over_so runs =
        ap turned_by (step_idle eq m e feed h (ready_by e feed h false ran is_so)) ∙ sym (turn_idle m e.machine feed h is_so)
    turn_by true true ran is_so over_so runs =
        let out = step_out eq m e feed h (ready_by e feed h true ran is_so) over_so in
        absurd (false≢true (ap is_running (sym (ap (λ (stepped : Stepped S T). stepped.standing.account.halt) out) ∙ runs)))
    turn_by true false ran is_so over_so runs = ap turned_by (step_made eq m e feed h (ready_by e feed h true ran is_so) over_so)

    turn_is : e.account.halt ≡ None → (step eq m e feed h).standing.account.halt ≡ None → turned_by (step eq m e feed h) ≡ turn_of m e.machine feed h
    turn_is ran runs = turn_by (is_ready_in e.machine.core h) (is_over (account_after_turn eq m e.machine h e.account)) ran refl refl runs

  -- its machine had the run
  pub along_machine : (items : List Item) (e : Standing S T) (feed : Tape) → (engine_along eq m e feed items).account.halt ≡ None
      → (engine_along eq m e feed items).trace ≡ run_along m e.machine feed items
  along_machine [] e feed runs = refl
  along_machine (fed byte ∷ items) e feed runs = along_machine items e (with_fed feed (byte ∷ [])) runs
  along_machine (turn h ∷ items) e feed runs =
      let stepped = step eq m e feed h in
      let after : stepped.standing.account.halt ≡ None = ran_before items stepped.standing stepped.feed runs in
      ap (with_event (step_event eq m e feed h)) (along_machine items stepped.standing stepped.feed runs)
      ∙ ap (λ (turned : Turned S T). with_event (record (event_of m e.machine feed h) { ended = turned.ended }) (run_along m turned.machine turned.feed items))
      (turn_is e feed h (ran_before (turn h ∷ items) e feed runs) after)
      ∙ ap (λ (event : Event T). with_event event (run_along m (turn_of m e.machine feed h).machine (turn_of m e.machine feed h).feed items)) (event_is e feed h)
