-- The answer of `shell` where its lines are executed.
use Rattle.std.proofs.Common.{◌≡◌, ℕ, ◌+◌, true, List, Option, Some, None, Result, Ok, Err, IfOk, OnOk, IfSome, IsTrue, refl, ap, subst}
use Rattle.shared_terms.specs.Counts.{next_count}
use Rattle.host_io.specs.Prefixes.{LosesPrefix}
use Rattle.host_io.specs.Environment.{NoFault, Environment}
use Rattle.image_format.specs.Picture.{Picture}
use Rattle.pump_shell.specs.Told.{told_of}
use Rattle.pump_shell.specs.declared.ends.SessionEnd.TheVariants as session_end
use Rattle.pump_line.specs.Task.{ShellTask, shell}
use Rattle.pump_cli.specs.Calls.{FaultBy, counted_by, secret_calls}
use Rattle.pump_cli.specs.Codes.{IsBeforeInput, IsOfRefusal, IsOfSession, IsSilent, status_of_cut}
use Rattle.pump_cli.specs.Early.{SessionFaultBy}
use Rattle.pump_cli.specs.Facts.{Does, IsLongInput, Executed, RepliedBefore, status_in}
use Rattle.pump_cli.specs.Program.{is_over_at_start, outcome_of_lines, outcome_of_no_start, setup_of}
use Rattle.pump_cli.specs.Reading.{image_read, input_limit, secret_held, secret_read}
use Rattle.pump_cli.specs.Runs.{whole_of_shell}
use Rattle.pump_cli.specs.Theorem.{HeadlineOf}
use Rattle.pump_cli.specs.declared.cut.Cut.{Cut}
use Rattle.pump_cli.specs.declared.cut.Cut.TheVariants as cut
use Rattle.pump_cli.specs.declared.status.Status.{Status}
use Rattle.pump_cli.specs.declared.status.Status.TheVariants as statuses
use Rattle.pump_cli.proofs.AnswerLemmas.{answers}
use Rattle.pump_cli.proofs.SecretWayLemmas.{shell_starts, start_called}
use Rattle.pump_cli.proofs.TaskLemmas.{NoRefusal, causes_long, due_by_lines, facts_asked, some_session, start_input, start_taken}
use Rattle.pump_cli.proofs.SideLemmas.{cut_not}
use Rattle.pump_cli.proofs.WayLemmas.{early}

-- what the status of a session is not, and why it may be what it is
record OfSession {I : Type 0} (task : ShellTask) (before after : Environment I) (status : Status) : Type 0 where
  words : status ≡ statuses.BadWords → ⊥
  silent : IsSilent (Some (shell task)) status → ⊥
  refusal : IsOfRefusal (Some (shell task)) status → ⊥
  none : NoRefusal status
  long : status ≡ statuses.TooLong → IfSome before.left IsLongInput
  unread : IsBeforeInput (shell task) status → after.input ≡ before.input

module _ {I : Type 0} (task : ShellTask) (before after : Environment I) where
  ended_is : (status : Status) → IsOfSession status → (status ≡ statuses.TooLong → IfSome before.left IsLongInput)
      → (status ≡ statuses.TagsOut → after.input ≡ before.input) → OfSession task before after status
  ended_is status of_session long unread = record {
    words = λ e. subst IsOfSession e of_session;
    silent = λ silent. silent_is status of_session silent;
    refusal = λ refused. refused_is status of_session refused;
    none = record {
      image = λ e. subst IsOfSession e of_session;
      source = λ e. subst IsOfSession e of_session;
      tags = λ e. subst IsOfSession e of_session;
      elf_file = λ e. subst IsOfSession e of_session;
    };
    long = long;
    unread = λ early. unread_is status of_session unread early;
  }
    where
      silent_is : (s : Status) → IsOfSession s → IsSilent (Some (shell task)) s → ⊥
      silent_is statuses.ReadFailed of_session silent = of_session
      silent_is statuses.WriteFailed of_session silent = of_session
      silent_is _ of_session silent = silent

      refused_is : (s : Status) → IsOfSession s → IsOfRefusal (Some (shell task)) s → ⊥
      refused_is statuses.BadWords of_session refused = of_session
      refused_is statuses.BadImage of_session refused = of_session
      refused_is statuses.BadSource of_session refused = of_session
      refused_is statuses.BadTags of_session refused = of_session
      refused_is statuses.BadElf of_session refused = of_session
      refused_is _ of_session refused = refused

      unread_is : (s : Status) → IsOfSession s → (s ≡ statuses.TagsOut → after.input ≡ before.input) → IsBeforeInput (shell task) s → after.input ≡ before.input
      unread_is statuses.TagsOut of_session unread early = unread refl
      unread_is statuses.BadWords of_session unread early = absurd of_session
      unread_is statuses.BadImage of_session unread early = absurd of_session
      unread_is statuses.ReadFailed of_session unread early = absurd of_session
      unread_is _ of_session unread early = absurd early

  cut_is : (cut : Cut) (A : Type 0) → SessionFaultBy {A = A} before.faults.input after.faults.input before.faults.puts after.faults.puts (Err cut)
      → OfSession task before after (status_of_cut cut)
  cut_is cut.ReadFailed A fault = absurd fault
  cut_is cut.WriteFailed A fault = absurd fault
  cut_is cut.InputFailed A fault = record {
    words = λ e. let h : statuses.InputFailed ≡ statuses.BadWords = e in cc;
    silent = λ no. no;
    refusal = λ no. no;
    none = record {
      image = λ e. let h : statuses.InputFailed ≡ statuses.BadImage = e in cc;
      source = λ e. let h : statuses.InputFailed ≡ statuses.BadSource = e in cc;
      tags = λ e. let h : statuses.InputFailed ≡ statuses.BadTags = e in cc;
      elf_file = λ e. let h : statuses.InputFailed ≡ statuses.BadElf = e in cc;
    };
    long = λ e. absurd (let h : statuses.InputFailed ≡ statuses.TooLong = e in cc);
    unread = λ no. absurd no;
  }
  cut_is cut.PutFailed A fault = record {
    words = λ e. let h : statuses.PutFailed ≡ statuses.BadWords = e in cc;
    silent = λ no. no;
    refusal = λ no. no;
    none = record {
      image = λ e. let h : statuses.PutFailed ≡ statuses.BadImage = e in cc;
      source = λ e. let h : statuses.PutFailed ≡ statuses.BadSource = e in cc;
      tags = λ e. let h : statuses.PutFailed ≡ statuses.BadTags = e in cc;
      elf_file = λ e. let h : statuses.PutFailed ≡ statuses.BadElf = e in cc;
    };
    long = λ e. absurd (let h : statuses.PutFailed ≡ statuses.TooLong = e in cc);
    unread = λ no. absurd no;
  }
  cut_is cut.Memory A fault = record {
    words = λ e. let h : statuses.Memory ≡ statuses.BadWords = e in cc;
    silent = λ no. no;
    refusal = λ no. no;
    none = record {
      image = λ e. let h : statuses.Memory ≡ statuses.BadImage = e in cc;
      source = λ e. let h : statuses.Memory ≡ statuses.BadSource = e in cc;
      tags = λ e. let h : statuses.Memory ≡ statuses.BadTags = e in cc;
      elf_file = λ e. let h : statuses.Memory ≡ statuses.BadElf = e in cc;
    };
    long = λ e. absurd (let h : statuses.Memory ≡ statuses.TooLong = e in cc);
    unread = λ no. absurd no;
  }

  session_side : (result : Result Status Cut) → SessionFaultBy before.faults.input after.faults.input before.faults.puts after.faults.puts result
      → IfOk result IsOfSession → (result ≡ Ok statuses.TooLong → IfSome before.left IsLongInput)
      → (result ≡ Ok statuses.TagsOut → after.input ≡ before.input) → OfSession task before after (status_in result)
  session_side (Ok status) fault kind long unread = ended_is status kind (λ e. long (ap ended e)) (λ e. unread (ap ended e))
    where
      ended : Status → Result Status Cut
      ended s = Ok s
  session_side (Err cut) fault kind long unread = cut_is cut Status fault

  -- the counts of faults
  session_fault : (result : Result Status Cut) → after.faults.read ≡ before.faults.read → after.faults.write ≡ before.faults.write
      → SessionFaultBy before.faults.input after.faults.input before.faults.puts after.faults.puts result → IfOk result IsOfSession
      → FaultBy None (status_in result) before.faults after.faults
  session_fault (Ok status) read write fault kind = by_status status kind (λ i. record { read = read i; write = write i; input = fault.0 i; puts = fault.1 i })
    where
      by_status : (s : Status) → IsOfSession s → NoFault before.faults after.faults → FaultBy None s before.faults after.faults
      by_status statuses.Done of_session none = none
      by_status statuses.TagsOut of_session none = none
      by_status statuses.TooLong of_session none = none
      by_status _ of_session none = absurd of_session
  session_fault (Err cut.ReadFailed) read write fault kind = absurd fault
  session_fault (Err cut.WriteFailed) read write fault kind = absurd fault
  session_fault (Err cut.InputFailed) read write fault kind = record { read = read; write = write; input = fault.0; puts = fault.1 }
  session_fault (Err cut.PutFailed) read write fault kind = record { read = read; write = write; input = fault.0; puts = fault.1 }
  session_fault (Err cut.Memory) read write fault kind = λ i. record { read = read i; write = write i; input = fault.0 i; puts = fault.1 i }

  abbrev Replied : List ℕ → Picture → Type 0
  Replied secret picture = RepliedBefore (whole_of_shell task secret picture) task picture before.left after.left before.taken after.taken

  -- only a cut at the input is told by its status
  input_cut : (why : Cut) → status_of_cut why ≡ statuses.InputFailed → why ≡ cut.InputFailed
  input_cut cut.ReadFailed e = absurd (let h : statuses.ReadFailed ≡ statuses.InputFailed = e in cc)
  input_cut cut.WriteFailed e = absurd (let h : statuses.WriteFailed ≡ statuses.InputFailed = e in cc)
  input_cut cut.InputFailed e = refl
  input_cut cut.PutFailed e = absurd (let h : statuses.PutFailed ≡ statuses.InputFailed = e in cc)
  input_cut cut.Memory e = absurd (let h : statuses.Memory ≡ statuses.InputFailed = e in cc)

  -- what the definition says of its start, of its lines and of its end
  executed_facts : (secret : List ℕ) (picture : Picture) (result : Result Status Cut) → IfOk result IsOfSession → (result ≡ Ok statuses.TagsOut → is_over_at_start task secret picture ≡ true)
      → (is_over_at_start task secret picture ≡ true → after.input ≡ before.input)
      → OnOk result (IfSome before.left (λ input. (told_of (setup_of task) secret picture input_limit input).end ≡ session_end.InputEnd → IsTrue after.closed))
      → (result ≡ Err cut.InputFailed → Replied secret picture) → Executed task secret picture (status_in result) before after
  executed_facts secret picture (Ok status) kind out unread closed replied = record {
    tags_out = λ e. out (ap ended e);
    unread = unread;
    whole = λ done. closed;
    replied = λ e. absurd (subst IsOfSession e kind);
  }
    where
      ended : Status → Result Status Cut
      ended s = Ok s
  executed_facts secret picture (Err broken) kind out unread closed replied = record {
    tags_out = λ e. absurd (cut_not broken statuses.TagsOut e tt);
    unread = unread;
    whole = λ e. absurd (cut_not broken statuses.Done e tt);
    replied = λ e. replied (ap cut_short (input_cut broken e));
  }
    where
      cut_short : Cut → Result Status Cut
      cut_short why = Err why

  abbrev kept : Option (List ℕ)
  kept = secret_held task.choice task.secret before.held

  -- the lines are executed
  pub executed : (picture : Picture) (secret : List ℕ) (result : Result Status Cut) → IfSome (before.held task.image) (λ bytes. image_read bytes ≡ Ok picture)
      → IfSome kept (λ bytes. secret_read bytes ≡ Ok secret) → IfSome before.left (λ lines. Does (outcome_of_lines task secret picture lines) before.taken after.taken result)
      → after.faults.read ≡ before.faults.read → after.faults.write ≡ before.faults.write
      → SessionFaultBy before.faults.input after.faults.input before.faults.puts after.faults.puts result
      → IfOk result IsOfSession → (result ≡ Ok statuses.TooLong → IfSome before.left IsLongInput)
      → (result ≡ Ok statuses.TagsOut → is_over_at_start task secret picture ≡ true)
      → (is_over_at_start task secret picture ≡ true → Does outcome_of_no_start before.taken after.taken result)
      → (is_over_at_start task secret picture ≡ true → after.input ≡ before.input)
      → OnOk result (IfSome before.left (λ input. (told_of (setup_of task) secret picture input_limit input).end ≡ session_end.InputEnd → IsTrue after.closed))
      → LosesPrefix before.left after.left (input_limit + 4096) → (result ≡ Err cut.InputFailed → Replied secret picture)
      → after.held ≡ before.held → after.calls ≡ counted_by (secret_calls task.choice task.secret) (next_count before.calls) → HeadlineOf (shell task) (status_in result) before after
  executed picture secret result is kept_is does read write fault kind long out no_start unread closed moved replied held calls =
      let side : OfSession task before after (status_in result) = session_side result fault kind long (λ e. unread (out e)) in
      answers _ (Some (shell task)) result before after
      (due_by_lines (λ outcome. Does outcome before.taken after.taken result) task (before.held task.image) kept before.left picture secret is kept_is does no_start)
      (start_called (shell task) before after (shell_starts before task) picture is held calls (status_in result) (session_fault result read write fault kind))
      (λ words. absurd (side.words words)) (λ silent. absurd (side.silent silent)) (λ refused. absurd (side.refusal refused))
      (facts_asked (shell task) (status_in result) before after
      (causes_long (shell task) (status_in result) before side.none (λ e. start_input (before.held task.image) kept before.left (side.long e)))
      (some_session task secret picture (status_in result) before after is kept_is (executed_facts secret picture result kind out unread closed replied))
      picture (start_taken (before.held task.image) kept picture is) moved side.unread (λ all. absurd all))
