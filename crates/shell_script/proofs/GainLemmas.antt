-- What lines add to the run of a session, and what the replies to them tell of that.
use Rattle.std.proofs.Common.{◌≡◌, ℕ, Bool, true, false, nat_lt, List, [], ◌∷◌, ◌++◌, length, take, Ok, Err, if◌then◌else◌, refl, ap, sym, subst, ◌∙◌, append-nil}
use Rattle.policy_trait.specs.Model.{PolicyModel}
use Rattle.policy_trait.specs.PolicyLaws.{KeepsLaws}
use Rattle.turn_steps.specs.Feeds.{tape_of}
use Rattle.engine_trait.specs.Machine.{Machine}
use Rattle.engine_trait.specs.Runs.{Item, run_along}
use Rattle.engine_trait.specs.Standing.{Standing}
use Rattle.shell_lang.specs.Grammar.{Answer}
use Rattle.shell_run.specs.Gains.{events_along}
use Rattle.shell_run.specs.Runs.{IsAlong, IsStart}
use Rattle.shell_run.specs.Session.{SessionState}
use Rattle.shell_run.proofs.GainLemmas.{gains_told}
use Rattle.shell_script.specs.Gains.{TellsLine, TellsNext}
use Rattle.shell_script.specs.Scripts.{Script, behind, followed_by, items_along, items_of, script, script_of_answer}
use Rattle.shell_script.specs.Shell.{Shell, at_the_end, ending_so, last_in, lines_in, lines_within, shell_of}
use Rattle.shell_script.specs.declared.reading.ShellEnd.TheVariants.{Quit, TooLong}
use Rattle.shell_script.proofs.RunLemmas.{line_start, script_goes}
use Rattle.shell_script.proofs.ScriptLemmas.{goes_on, quit_ends, script_more, script_one}

module _ {S T : Type 0} (eq : T → T → Bool) (m : PolicyModel T S) where
  -- ---- the start stays

  first_start : (quits : Bool) (s : SessionState S T) (first others : Script S T) → first.after.start ≡ s.start → others.after.start ≡ first.after.start
      → (if quits then first else behind first.pieces others).after.start ≡ s.start
  first_start true s first others here there = here
  first_start false s first others here there = there ∙ here

  pub script_start : (s : SessionState S T) (lines : List Answer) → (script eq m s lines).after.start ≡ s.start
  unfolding script
  script_start s [] = refl
  script_start s (line ∷ lines) =
      let first = script_of_answer eq m s line in
      first_start first.quits s first (script eq m first.after lines) (line_start eq m s line) (script_start first.after lines)

  -- ---- items along some lines, and then others

  abbrev items_on : Script S T → List Item → List Answer → List Item
  items_on first items lines = if first.quits then items else items_along eq m first.after items lines

  module _ (first : Script S T) (items : List Item) (xs ys : List Answer) where
    abbrev next : Bool → Script S T
    next quits = if quits then first else behind first.pieces (script eq m first.after xs)

    abbrev items_next : Bool → List Item
    items_next quits = if quits then items else items_along eq m first.after items xs

    -- where it holds of the lines behind the first
    items_on_next : (quits : Bool) → first.quits ≡ quits
        → items_along eq m first.after items (xs ++ ys) ≡ items_on (script eq m first.after xs) (items_along eq m first.after items xs) ys
        → (if quits then items else items_along eq m first.after items (xs ++ ys)) ≡ items_on (next quits) (items_next quits) ys
    items_on_next true is more = sym (ap (λ quits. if quits then items else items_along eq m first.after items ys) is)
    items_on_next false is more = more

  pub items_more : (s : SessionState S T) (items : List Item) (xs ys : List Answer)
      → items_along eq m s items (xs ++ ys) ≡ items_on (script eq m s xs) (items_along eq m s items xs) ys
  unfolding script
  items_more s items [] ys = refl
  items_more s items (line ∷ xs) ys =
      let first = script_of_answer eq m s line in
      items_on_next first (items_of eq m s items line) xs ys first.quits refl (items_more first.after (items_of eq m s items line) xs ys)

  -- one line
  items_one : (s : SessionState S T) (items : List Item) (line : Answer) → items_along eq m s items (line ∷ []) ≡ items_of eq m s items line
  items_one s items line = either_way (script_of_answer eq m s line).quits
    where
      either_way : (quits : Bool) → (if quits then items_of eq m s items line else items_of eq m s items line) ≡ items_of eq m s items line
      either_way true = refl
      either_way false = refl

  -- ---- one line behind others

  line_told : (s : SessionState S T) (items : List Item) (line : Answer) → IsAlong eq m s items
      → TellsLine eq m s line (events_along eq m s items) (events_along eq m s (items_of eq m s items line))
  line_told s items (Ok command) along = gains_told eq m s items along command
  line_told s items (Err refusal) along = refl

  module _ (s : SessionState S T) (items : List Item) (prefix : List Answer) (line : Answer) where
    abbrev first : Script S T
    first = script eq m s prefix

    abbrev before : List Item
    before = items_along eq m s items prefix

    abbrev after : List Item
    after = items_along eq m s items (prefix ++ line ∷ [])

    -- behind `quit` it adds nothing
    pub closed_by : first.quits ≡ true → after ≡ before
    closed_by quits =
        items_more s items prefix (line ∷ []) ∙ ap (λ ends. if ends then before else items_along eq m first.after before (line ∷ [])) quits

    after_is : first.quits ≡ false → after ≡ items_of eq m first.after before line
    after_is goes =
        items_more s items prefix (line ∷ []) ∙ ap (λ ends. if ends then before else items_along eq m first.after before (line ∷ [])) goes
        ∙ items_one first.after before line

    reply_behind : first.quits ≡ false → (script eq m s (prefix ++ line ∷ [])).pieces ≡ first.pieces ++ (script_of_answer eq m first.after line).pieces
    reply_behind goes =
        ap (λ (all : Script S T). all.pieces)
        (script_more eq m s prefix (line ∷ []) ∙ goes_on first (λ t. script eq m t (line ∷ [])) goes
        ∙ ap (behind first.pieces) (script_one eq m first.after line))

    pub next_told : (holds : S → Type 0) → KeepsLaws m holds → IsStart m holds s.start → IsAlong eq m s items → first.quits ≡ false
        → TellsNext eq m s prefix line (events_along eq m s before) (events_along eq m s after)
    next_told holds laws begun along goes =
        let start = ap (λ (e : Standing S T). e.machine) (script_start s prefix) in
        let told = line_told first.after before line (script_goes eq m holds laws s items prefix begun along) in
        record {
          reply = reply_behind goes;
          gain =
              subst (λ more. TellsLine eq m first.after line (events_along eq m s before) (events_along eq m s more)) (sym (after_is goes))
              (subst (λ (machine : Machine S T). TellsLine eq m first.after line (run_along m machine (tape_of []) before).events (run_along m machine (tape_of []) (items_of eq m first.after before line)).events)
              start told);
        }

  -- ---- an input

  module _ (s : SessionState S T) (prefix last : List Answer) where
    abbrev shell_by : Bool → Bool → Shell S T
    shell_by quits long =
        if quits then ending_so Quit (script eq m s prefix) else
        if long then ending_so TooLong (script eq m s prefix) else
        at_the_end (followed_by (script eq m s prefix) (λ t. script eq m t last))

    shell_told : (quits long : Bool) → (script eq m s prefix).quits ≡ quits
        → (shell_by quits long).pieces ≡ (script eq m s (prefix ++ (if long then [] else last))).pieces
    shell_told true long is =
        let rest = if long then [] else last in
        sym (ap (λ (all : Script S T). all.pieces) (script_more eq m s prefix rest ∙ quit_ends (script eq m s prefix) (λ t. script eq m t rest) is))
    shell_told false true is = ap (λ lines. (script eq m s lines).pieces) (sym (append-nil prefix))
    shell_told false false is = ap (λ (all : Script S T). all.pieces) (sym (script_more eq m s prefix last))

  -- what a session over an input replies is what it replies to these lines
  pub shell_is_told : (limit : ℕ) (s : SessionState S T) (input : List ℕ) → (shell_of eq m limit s input).pieces ≡ (script eq m s (lines_within limit input)).pieces
  unfolding shell_of
  shell_is_told limit s input =
      shell_told s (lines_in (take limit input)) (last_in input) (script eq m s (lines_in (take limit input))).quits (nat_lt limit (length input)) refl
