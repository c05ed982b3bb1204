-- The runs of the program's definition are safe.
use Rattle.std.proofs.Common.{◌≡◌, ℕ, Bool, true, false, List, [], ◌∷◌, map, Option, Some, None, option_map, refl, sym, subst, arith}
use Rattle.std.proofs.lemmas.Iterator.Adapters.{option_map_id}
use Rattle.host_io.specs.Bytes.{TellBytes}
use Rattle.image_format.specs.Conditions.{IsImage}
use Rattle.image_format.specs.Picture.{Picture}
use Rattle.secrecy_policy.specs.Secrecy.{IsLeft, secrecy}
use Rattle.secrecy_policy.specs.SecrecyLaws.{secrecy_laws}
use Rattle.turn_steps.specs.Feeds.{Tape, tape_of}
use Rattle.engine_trait.specs.Events.{Event, Work}
use Rattle.engine_trait.specs.Runs.{Item, Trace, run_along, turn}
use Rattle.part_turns.specs.Maps.{event_with, work_by}
use Rattle.policy_choice.specs.All.{AllTag, all, choice_state}
use Rattle.policy_choice.specs.declared.basis.Basis.{Basis}
use Rattle.tag_loader.specs.Start.{start_machine}
use Rattle.pump_loader.specs.Wholes.{unanswered, whole_if}
use Rattle.rounds.proofs.RunLemmas.{rounds_are_run}
use Rattle.run_props.proofs.RunLemmas.{beside_is_safe, run_is_safe}
use Rattle.run_props.specs.Safe.{IsSafe}
use Rattle.pump_line.specs.Task.{RunTask, ShellTask, task_of}
use Rattle.pump_cli.specs.Program.{basis_of, course_under, start_by, whole_of_run}
use Rattle.pump_cli.specs.Runs.{EachRun, HoldsOfLines, HoldsOfRun, IsSafeRun, four_events, items_after_lines, whole_of_shell}
use Rattle.pump_cli.proofs.EachRunLemmas.{each_words}

abbrev SafeRan : RunTask → List ℕ → Picture → List ℕ → Type 0
SafeRan = HoldsOfRun IsSafeRun

abbrev SafeExecuted : ShellTask → List ℕ → Picture → List ℕ → Type 0
SafeExecuted = HoldsOfLines IsSafeRun

-- ---- the run

-- an event with each tag left as it is
same_event : (event : Event AllTag) → event_with (λ (tag : AllTag). tag) event ≡ event
same_event event = λ j. record {
  hart = event.hart;
  pc = event.pc;
  word = event.word;
  ended = event.ended;
  asked = option_map_id event.asked j;
  access = event.access;
  call = option_map_id event.call j;
  work = same_work event.work j;
}
  where
    same_work : (work : Option (Work AllTag)) → option_map (work_by (λ (tag : AllTag). tag)) work ≡ work
    same_work None = refl
    same_work (Some work) = λ j. Some (record { range = work.range; zero = work.zero; answer = option_map_id work.answer j })

same_events : (events : List (Event AllTag)) → map (event_with (λ (tag : AllTag). tag)) events ≡ events
same_events [] = refl
same_events (event ∷ events) = λ j. same_event event j ∷ same_events events j

module _ (basis : Basis) (secret : List ℕ) (g : Picture) (feed : Tape) (items : List Item) (is : IsImage g) where
  -- a run of the machine, by whether secrecy is chosen
  safe_along : (hidden : Bool) → (let w = whole_if hidden basis secret g in IsSafe basis g (four_events w (run_along w.model (start_machine w.model w.state g) feed items).events))
  safe_along true = beside_is_safe secrecy IsLeft secrecy_laws basis g (unanswered secret) feed items is (omega arith) (omega arith)
  safe_along false =
      subst (λ (events : List (Event AllTag)). IsSafe basis g events) (sym (same_events (run_along all (start_machine all (choice_state basis g) g) feed items).events))
      (run_is_safe basis g feed items is)

-- rounds are a run along the list of their turns
safe_course : (task : RunTask) (secret : List ℕ) (g : Picture) (fed : List ℕ) → IsImage g → SafeRan task secret g fed
safe_course task secret g fed is =
    let w = whole_of_run task secret g in
    subst (λ (trace : Trace w.State w.Tag). IsSafe (basis_of task.choice) g (four_events w trace.events))
    (sym (rounds_are_run w.eq w.model task.turns 0 (start_by w.eq w.model w.state task g) (tape_of fed)))
    (safe_along (basis_of task.choice) secret g (tape_of fed) (map turn (course_under w task g fed).order) is task.choice.secret)

-- a session has made a run along some list of turns and fed bytes
safe_lines : (task : ShellTask) (secret : List ℕ) (g : Picture) (input : List ℕ) → IsImage g → SafeExecuted task secret g input
safe_lines task secret g input is =
    λ prefix rest due.
    safe_along (basis_of task.choice) secret g (tape_of []) (items_after_lines (whole_of_shell task secret g) task g prefix) is task.choice.secret

pub safe_runs : (words : List (List ℕ)) (held : List ℕ → Option (List ℕ)) (input : Option (List ℕ)) → TellBytes held → EachRun IsSafeRun words held input
unfolding EachRun
safe_runs words held input tells = each_words SafeRan SafeExecuted safe_course safe_lines (task_of words) held input tells
