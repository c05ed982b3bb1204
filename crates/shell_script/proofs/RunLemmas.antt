-- The run that a session makes, line after line.
use Rattle.std.proofs.Common.{◌≡◌, Bool, true, false, List, [], ◌∷◌, Ok, Err, if◌then◌else◌, refl, sym, subst}
use Rattle.policy_trait.specs.Model.{PolicyModel}
use Rattle.policy_trait.specs.PolicyLaws.{KeepsLaws}
use Rattle.engine_trait.specs.Runs.{Item}
use Rattle.engine_trait.specs.Standing.{Standing}
use Rattle.shell_lang.specs.Grammar.{Answer}
use Rattle.shell_run.specs.Runs.{IsAlong, IsStart}
use Rattle.shell_run.specs.Session.{SessionState}
use Rattle.shell_run.proofs.GainLemmas.{start_kept}
use Rattle.shell_run.proofs.RunLemmas.{goes_on}
use Rattle.shell_script.specs.Scripts.{Script, script_of_answer, behind, items_along, items_of, script}

module _ {S T : Type 0} (eq : T → T → Bool) (m : PolicyModel T S) where
  -- the start stays
  pub line_start : (s : SessionState S T) (line : Answer) → (script_of_answer eq m s line).after.start ≡ s.start
  line_start s (Ok command) = start_kept eq m s command
  line_start s (Err refusal) = refl

  -- a line, and the others where the session goes on
  first_goes : (quits : Bool) (first others : Script S T) (items more : List Item) → IsAlong eq m first.after items → IsAlong eq m others.after more
      → IsAlong eq m (if quits then first else behind first.pieces others).after (if quits then items else more)
  first_goes true first others items more here there = here
  first_goes false first others items more here there = there

  module _ (holds : S → Type 0) (laws : KeepsLaws m holds) where
    line_goes : (s : SessionState S T) (items : List Item) (line : Answer) → IsStart m holds s.start → IsAlong eq m s items
        → IsAlong eq m (script_of_answer eq m s line).after (items_of eq m s items line)
    line_goes s items (Ok command) start along = goes_on eq m holds laws s items start along command
    line_goes s items (Err refusal) start along = along

    pub script_goes : (s : SessionState S T) (items : List Item) (lines : List Answer) → IsStart m holds s.start → IsAlong eq m s items
        → IsAlong eq m (script eq m s lines).after (items_along eq m s items lines)
    unfolding script
    script_goes s items [] start along = along
    script_goes s items (line ∷ lines) start along =
        let first = script_of_answer eq m s line in
        let more = items_of eq m s items line in
        let here = line_goes s items line start along in
        let starts : IsStart m holds first.after.start = subst (λ (e : Standing S T). IsStart m holds e) (sym (line_start s line)) start in
        first_goes first.quits first (script eq m first.after lines) more (items_along eq m first.after more lines) here
        (script_goes first.after more lines starts here)
