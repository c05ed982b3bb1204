-- What a session tells of its end.
use Rattle.std.proofs.Common.{◌≡◌, ℕ, ◌<◌, Bool, true, false, List, length, take, [], Option, Some, None, Result, Ok, Err, IfSome, refl, sym, ap, subst, ◌∙◌, if◌then◌else◌, arith}
use Rattle.std.specs.Prelude.{nat_lt}
use Rattle.std.proofs.lemmas.Bool.Decides.{nat_tests}
use Rattle.policy_trait.specs.Model.{PolicyModel}
use Rattle.engine_trait.specs.Accounts.{is_over}
use Rattle.engine_trait.specs.Standing.{Standing}
use Rattle.shell_turns.specs.Cuts.{PutsOut}
use Rattle.shell_turns.specs.declared.ends.ObeyEnd.TheVariants as obey_end
use Rattle.shell_turns.proofs.PutLemmas.{puts_cut_with, puts_not_begun, puts_nothing, puts_with}
use Rattle.shell_run.specs.Session.{SessionState, fresh}
use Rattle.shell_script.specs.Scripts.{Script, followed_by, script}
use Rattle.shell_script.specs.Shell.{RepliesSoFar, ShellEnds, at_the_end, ending_so, last_in, lines_in, shell_of}
use Rattle.shell_script.specs.declared.reading.ShellCut.{ShellCut}
use Rattle.shell_script.specs.declared.reading.ShellCut.TheVariants as shell_cut
use Rattle.shell_script.specs.declared.reading.ShellEnd.{ShellEnd}
use Rattle.shell_script.specs.declared.reading.ShellEnd.TheVariants as shell_end
use Rattle.pump_shell.specs.Ends.{cut_of, end_of}
use Rattle.pump_shell.specs.Told.{Told, out_at_start, told_by, told_from}
use Rattle.pump_shell.specs.declared.ends.SessionCut.{SessionCut}
use Rattle.pump_shell.specs.declared.ends.SessionCut.TheVariants as session_cut
use Rattle.pump_shell.specs.declared.ends.SessionEnd.{SessionEnd}
use Rattle.pump_shell.specs.declared.ends.SessionEnd.TheVariants as session_end

-- a session that ended at its input's end or with `quit` is not too long
not_long : (quits : Bool) {P : Type 0} → end_of (if quits then shell_end.Quit else shell_end.InputEnd) ≡ session_end.TooLong → P
not_long true e = absurd (let h : session_end.Quit ≡ session_end.TooLong = e in cc)
not_long false e = absurd (let h : session_end.InputEnd ≡ session_end.TooLong = e in cc)

module _ {S T : Type 0} (eq : T → T → Bool) (m : PolicyModel T S) (limit : ℕ) where
  module _ (lines rest : Script S T) (size : ℕ) where
    by_size : (past : Bool) → (past ≡ true → limit < size)
        → end_of (if past then ending_so shell_end.TooLong lines else at_the_end rest).end ≡ session_end.TooLong → limit < size
    by_size true longer e = longer refl
    by_size false longer e = not_long rest.quits e

    by_quit : (quits : Bool)
        → end_of (if quits then ending_so shell_end.Quit lines else (if nat_lt limit size then ending_so shell_end.TooLong lines else at_the_end rest)).end
        ≡ session_end.TooLong → limit < size
    by_quit true e = absurd (let h : session_end.Quit ≡ session_end.TooLong = e in cc)
    by_quit false e = by_size (nat_lt limit size) (λ past. grind (arith, nat_tests)) e

  by_start : (start : Standing S T) (input : List ℕ) (over : Bool)
      → (if over then out_at_start else told_by (shell_of eq m limit (fresh start) input)).end ≡ session_end.TooLong → limit < length input
  unfolding shell_of
  by_start start input true e = absurd (let h : session_end.TagsOut ≡ session_end.TooLong = e in cc)
  by_start start input false e =
      let lines = script eq m (fresh start) (lines_in (take limit input)) in
      by_quit lines (followed_by lines (λ t. script eq m t (last_in input))) (length input) lines.quits e

  -- an input is too long only where it is longer than the limit
  pub long_told : (start : Standing S T) (left : Option (List ℕ)) (end : SessionEnd)
      → IfSome left (λ bytes. end ≡ (told_from eq m limit start bytes).end) → end ≡ session_end.TooLong → IfSome left (λ bytes. limit < length bytes)
  unfolding told_from
  long_told start None end told is = tt
  long_told start (Some bytes) end told is = by_start start bytes (is_over start.account) (sym told ∙ is)

  told_within : (start : Standing S T) (input : List ℕ) → is_over start.account ≡ false
      → told_from eq m limit start input ≡ told_by (shell_of eq m limit (fresh start) input)
  unfolding told_from
  told_within start input within = rw within refl

  told_over : (start : Standing S T) (input : List ℕ) → is_over start.account ≡ true → told_from eq m limit start input ≡ out_at_start
  unfolding told_from
  told_over start input over = rw over refl

-- ---- what holds of the definition, where the input tells its bytes

abbrev shell_ok : ShellEnd → Result ShellEnd ShellCut
shell_ok end = Ok end

abbrev shell_err : ShellCut → Result ShellEnd ShellCut
shell_err end = Err end

abbrev session_ok : SessionEnd → Result SessionEnd SessionCut
session_ok end = Ok end

abbrev session_err : SessionCut → Result SessionEnd SessionCut
session_err end = Err end

-- a session's read that failed is its shell's
read_failed : (end : ShellCut) → session_err (cut_of end) ≡ session_err session_cut.ReadFailed → shell_err end ≡ shell_err shell_cut.ReadFailed
read_failed shell_cut.ReadFailed failed = refl
read_failed (shell_cut.Obey obey_end.WriteFault) failed = absurd (let h : session_err session_cut.PutFailed ≡ session_err session_cut.ReadFailed = failed in cc)
read_failed (shell_cut.Obey obey_end.Memory) failed = absurd (let h : session_err session_cut.Memory ≡ session_err session_cut.ReadFailed = failed in cc)

module _ {S T : Type 0} (eq : T → T → Bool) (m : PolicyModel T S) (limit : ℕ) (start : Standing S T) where
  abbrev told : List ℕ → Told
  told bytes = told_from eq m limit start bytes

  -- a start that needs too many tag numbers
  pub over_end : (left : Option (List ℕ)) → is_over start.account ≡ true → IfSome left (λ bytes. session_end.TagsOut ≡ (told bytes).end)
  over_end None over = tt
  over_end (Some bytes) over = sym (ap (λ (t : Told). t.end) (told_over eq m limit start bytes over))

  pub over_puts : (left old : Option (List ℕ)) → is_over start.account ≡ true → IfSome left (λ bytes. PutsOut old old (told bytes).pieces (session_ok session_end.TagsOut))
  over_puts None old over = tt
  over_puts (Some bytes) old over =
      subst (λ (t : Told). PutsOut old old t.pieces (session_ok session_end.TagsOut)) (sym (told_over eq m limit start bytes over))
      (puts_with SessionCut old old [] session_end.TagsOut session_end.TagsOut (puts_nothing old session_end.TagsOut))

  -- no session was made
  pub unmade_puts : (left old : Option (List ℕ)) (cut : SessionCut) → IfSome left (λ bytes. PutsOut old old (told bytes).pieces (session_err cut))
  unmade_puts None old cut = tt
  unmade_puts (Some bytes) old cut =
      puts_cut_with (Unit {0}) SessionEnd old old (told bytes).pieces obey_end.Memory cut (puts_not_begun (Unit {0}) old (told bytes).pieces obey_end.Memory)

  -- one was made
  module _ (within : is_over start.account ≡ false) (s : SessionState S T) (is : s ≡ fresh start) where
    told_is : (bytes : List ℕ) → told_by (shell_of eq m limit s bytes) ≡ told bytes
    told_is bytes = ap (λ (t : SessionState S T). told_by (shell_of eq m limit t bytes)) is ∙ sym (told_within eq m limit start bytes within)

    pub made_end : (left : Option (List ℕ)) (after : SessionState S T) (end : ShellEnd) (ended : SessionEnd) → ended ≡ end_of end
        → IfSome left (λ bytes. ShellEnds (shell_of eq m limit s bytes) after end) → IfSome left (λ bytes. ended ≡ (told bytes).end)
    made_end None after end ended ended_is ends = tt
    made_end (Some bytes) after end ended ended_is ends = ended_is ∙ ap end_of ends.end ∙ ap (λ (t : Told). t.end) (told_is bytes)

    pub made_puts : (left old new : Option (List ℕ)) (end : ShellEnd) (ended : SessionEnd)
        → IfSome left (λ bytes. PutsOut old new (shell_of eq m limit s bytes).pieces (shell_ok end)) → IfSome left (λ bytes. PutsOut old new (told bytes).pieces (session_ok ended))
    unfolding PutsOut
    made_puts None old new end ended puts = tt
    made_puts (Some bytes) old new end ended puts =
        subst (λ (t : Told). PutsOut old new t.pieces (session_ok ended)) (told_is bytes) (puts_of puts)
      where
        puts_of : PutsOut old new (shell_of eq m limit s bytes).pieces (shell_ok end) → PutsOut old new (shell_of eq m limit s bytes).pieces (session_ok ended)
        puts_of puts = puts

    pub made_cut : (left old new : Option (List ℕ)) (end : ShellCut) (cut : SessionCut)
        → IfSome left (λ bytes. PutsOut old new (shell_of eq m limit s bytes).pieces (shell_err end)) → IfSome left (λ bytes. PutsOut old new (told bytes).pieces (session_err cut))
    unfolding PutsOut
    made_cut None old new end cut puts = tt
    made_cut (Some bytes) old new end cut puts =
        subst (λ (t : Told). PutsOut old new t.pieces (session_err cut)) (told_is bytes) (puts_of puts)
      where
        puts_of : PutsOut old new (shell_of eq m limit s bytes).pieces (shell_err end) → PutsOut old new (shell_of eq m limit s bytes).pieces (session_err cut)
        puts_of puts = puts

    pub made_replies : (left left_now old new : Option (List ℕ)) (end : ShellCut) (cut : SessionCut) → cut ≡ cut_of end
        → (shell_err end ≡ shell_err shell_cut.ReadFailed → RepliesSoFar eq m limit s left left_now old new)
        → session_err cut ≡ session_err session_cut.ReadFailed → RepliesSoFar eq m limit (fresh start) left left_now old new
    made_replies left left_now old new end cut cut_is replied failed =
        subst (λ (t : SessionState S T). RepliesSoFar eq m limit t left left_now old new) is (replied (read_failed end (ap session_err (sym cut_is) ∙ failed)))
