-- What a session tells is told of the runs that it makes.
use Rattle.std.proofs.Common.{◌≡◌, ℕ, ◌+◌, ◌≤◌, Bool, true, false, List, [], ◌∷◌, ◌++◌, Option, if◌then◌else◌, refl, ap, sym, subst, ◌∙◌, arith}
use Rattle.std.proofs.lemmas.Bool.{leb-true}
use Rattle.host_io.specs.Bytes.{TellBytes}
use Rattle.image_format.specs.Conditions.{IsImage, is_aligned}
use Rattle.image_format.specs.Picture.{Picture}
use Rattle.image_format.proofs.FieldLemmas.{both}
use Rattle.policy_trait.specs.PolicyLaws.{KeepsLaws}
use Rattle.secrecy_policy.specs.Secrecy.{IsLeft, secrecy}
use Rattle.secrecy_policy.specs.SecrecyLaws.{secrecy_laws}
use Rattle.turn_steps.specs.Feeds.{tape_of}
use Rattle.engine_trait.specs.Accounts.{is_over}
use Rattle.engine_trait.specs.Events.{Event}
use Rattle.engine_trait.specs.Machine.{IsMachine, Machine}
use Rattle.engine_trait.specs.Runs.{Item, Trace, run_along}
use Rattle.engine_trait.specs.Standing.{Standing, with_history_for}
use Rattle.policy_product.specs.Both.{BothHold}
use Rattle.policy_product.specs.BothLaws.{both_laws}
use Rattle.policy_choice.specs.All.{all}
use Rattle.policy_choice.specs.AllLaws.{AllHold, all_laws}
use Rattle.policy_choice.proofs.AllLemmas.{room_of_chosen}
use Rattle.policy_choice.specs.declared.basis.Basis.{Basis}
use Rattle.tag_loader.specs.Start.{start_machine, start_standing}
use Rattle.word_loader.specs.CachedStart.{cached_standing}
use Rattle.cache_size.specs.Sizes.{keeps_no_rule}
use Rattle.pump_loader.specs.Wholes.{Whole, hidden, hidden_state, whole_if}
use Rattle.run_props.proofs.ChosenLemmas.{start_holds, start_sound}
use Rattle.run_props.proofs.StartLemmas.{sound_start}
use Rattle.shell_lang.specs.Grammar.{Answer}
use Rattle.shell_run.specs.Gains.{StandsAfter, events_along}
use Rattle.shell_run.specs.Runs.{IsAlong, IsStart}
use Rattle.shell_script.specs.Gains.{TellsNext}
use Rattle.shell_script.specs.Shell.{shell_of}
use Rattle.shell_script.proofs.GainLemmas.{closed_by, next_told, script_start, shell_is_told}
use Rattle.shell_script.proofs.RunLemmas.{script_goes}
use Rattle.pump_shell.specs.Told.{out_at_start, start_of_setup, told_by, told_from, told_under}
use Rattle.pump_line.specs.Task.{RunTask, ShellTask, task_of}
use Rattle.pump_cli.specs.Program.{basis_of, setup_of}
use Rattle.pump_cli.specs.Reading.{input_limit}
use Rattle.pump_cli.specs.Runs.{items_after_lines, trace_after_lines, whole_of_shell}
use Rattle.pump_cli.specs.Sessions.{AnyRun, SessionTellsRuns, TellsRuns, TheSession, session_after, session_over}
use Rattle.pump_cli.proofs.EachRunLemmas.{each_words}

module _ (w : Whole) (holds : w.State → Type 0) (laws : KeepsLaws w.model holds) (task : ShellTask) (g : Picture)
    (sound : IsMachine w.model (start_machine w.model w.state g)) (valid : holds w.state) where
  abbrev start : Standing w.State w.Tag
  start = start_of_setup w (setup_of task) g

  abbrev machine : Machine w.State w.Tag
  machine = start_machine w.model w.state g

  -- ---- the start is the image's, whatever is kept

  start_by : (none : Bool)
      → (with_history_for task.history (if none then start_standing w.model w.state g else cached_standing w.eq w.model w.state g task.cache.sets task.cache.ways task.tags)).machine ≡ machine
  start_by true = refl
  start_by false = refl

  start_is : start.machine ≡ machine
  start_is = start_by (keeps_no_rule task.cache)

  -- turns can be taken back from it
  from : IsStart w.model holds (session_over w task g).start
  unfolding start_machine
  from = record {
    machine = subst (λ (s : Machine w.State w.Tag). IsMachine w.model s) (sym start_is) sound;
    policy = subst (λ (s : Machine w.State w.Tag). holds s.policy) (sym start_is) valid;
    none = refl;
  }

  -- the session has not begun its run
  begins : IsAlong w.eq w.model (session_over w task g) []
  begins = record { machine = refl; feed = refl; made = tt; dropped = []; records = refl }

  abbrev run_by : List Item → Trace w.State w.Tag
  run_by items = run_along w.model machine (tape_of []) items

  events_are : (items : List Item) → events_along w.eq w.model (session_over w task g) items ≡ (run_by items).events
  events_are items = ap (λ (s : Machine w.State w.Tag). (run_along w.model s (tape_of []) items).events) start_is

  -- ---- after some lines

  stands_by : (prefix : List Answer) → StandsAfter (trace_after_lines w task g prefix) (session_after w task g prefix).after
  stands_by prefix =
      let along = script_goes w.eq w.model holds laws (session_over w task g) [] prefix from begins in
      let origin = ap (λ (e : Standing w.State w.Tag). e.machine) (script_start w.eq w.model (session_over w task g) prefix) ∙ start_is in
      record {
        machine = along.machine ∙ ap (λ (s : Machine w.State w.Tag). (run_along w.model s (tape_of []) (items_after_lines w task g prefix)).machine) origin;
        feed = along.feed ∙ ap (λ (s : Machine w.State w.Tag). (run_along w.model s (tape_of []) (items_after_lines w task g prefix)).feed) origin;
      }

  replies_by : (prefix : List Answer) (line : Answer) → (session_after w task g prefix).quits ≡ false
      → TellsNext w.eq w.model (session_over w task g) prefix line (trace_after_lines w task g prefix).events (trace_after_lines w task g (prefix ++ line ∷ [])).events
  replies_by prefix line goes =
      subst (λ (events : List (Event w.Tag)). TellsNext w.eq w.model (session_over w task g) prefix line (trace_after_lines w task g prefix).events events)
      (events_are (items_after_lines w task g (prefix ++ line ∷ [])))
      (subst (λ (events : List (Event w.Tag)). TellsNext w.eq w.model (session_over w task g) prefix line events (events_along w.eq w.model (session_over w task g) (items_after_lines w task g (prefix ++ line ∷ []))))
      (events_are (items_after_lines w task g prefix))
      (next_told w.eq w.model (session_over w task g) [] prefix line holds laws from begins goes))

  -- ---- an input

  told_from_start : (over : Bool) (limit : ℕ) (input : List ℕ) → over ≡ false
      → (if over then out_at_start else told_by (shell_of w.eq w.model limit (session_over w task g) input)).pieces ≡ (shell_of w.eq w.model limit (session_over w task g) input).pieces
  told_from_start over limit input is =
      ap (λ is_so. (if is_so then out_at_start else told_by (shell_of w.eq w.model limit (session_over w task g) input)).pieces) is

  told_on : (limit : ℕ) (input : List ℕ) → is_over start.account ≡ false
      → (told_under w (setup_of task) g limit input).pieces ≡ (shell_of w.eq w.model limit (session_over w task g) input).pieces
  unfolding told_from
  told_on limit input within = told_from_start (is_over start.account) limit input within

  tells_runs : (input : List ℕ) → TellsRuns w task g input
  tells_runs input = record {
    told = λ within. told_on input_limit input within ∙ shell_is_told w.eq w.model input_limit (session_over w task g) input;
    stands = λ prefix rest due. stands_by prefix;
    replies = λ prefix line rest due goes. replies_by prefix line goes;
    closed = λ prefix line rest due quits. ap run_by (closed_by w.eq w.model (session_over w task g) [] prefix line quits);
  }

-- ---- the start

module _ (basis : Basis) (secret : List ℕ) (g : Picture) (is : IsImage g) where
  -- the policies' own conditions, by whether secrecy is chosen
  abbrev holds_of : (hidden : Bool) → (whole_if hidden basis secret g).State → Type 0
  holds_of true = BothHold AllHold IsLeft
  holds_of false = AllHold

  laws_of : (hidden : Bool) → KeepsLaws (whole_if hidden basis secret g).model (holds_of hidden)
  laws_of true = both_laws all secrecy AllHold IsLeft all_laws secrecy_laws
  laws_of false = all_laws

  valid_of : (hidden : Bool) → holds_of hidden (whole_if hidden basis secret g).state
  valid_of true = (start_holds basis g is, omega arith)
  valid_of false = start_holds basis g is

  -- they count on no more memory than there is: secrecy counts on none
  room_is : hidden.room (hidden_state basis secret g) ≤ g.ram
  room_is =
      let inside = leb-true (g.heap_base + g.heap_bytes) g.ram (both (is_aligned g.heap_bytes) _ is.heap_bytes).1 in
      let chosen = room_of_chosen basis g inside in
      grind (arith, chosen)

  sound_of : (hidden : Bool) → (let w = whole_if hidden basis secret g in IsMachine w.model (start_machine w.model w.state g))
  sound_of true = sound_start hidden (hidden_state basis secret g) g is room_is
  sound_of false = start_sound basis g is

-- ---- where what the words ask for is told

any_ran : (task : RunTask) (secret : List ℕ) (g : Picture) (fed : List ℕ) → IsImage g → AnyRun task secret g fed
any_ran task secret g fed is = tt

session_tells : (task : ShellTask) (secret : List ℕ) (g : Picture) (input : List ℕ) → IsImage g → SessionTellsRuns task secret g input
session_tells task secret g input is =
    let basis = basis_of task.choice in
    let chosen = task.choice.secret in
    tells_runs (whole_of_shell task secret g) (holds_of basis secret g is chosen) (laws_of basis secret g is chosen) task g
    (sound_of basis secret g is chosen) (valid_of basis secret g is chosen) input

pub session_told : (words : List (List ℕ)) (held : List ℕ → Option (List ℕ)) (input : Option (List ℕ)) → TellBytes held → TheSession SessionTellsRuns words held input
unfolding TheSession
session_told words held input tells = each_words AnyRun SessionTellsRuns any_ran session_tells (task_of words) held input tells
