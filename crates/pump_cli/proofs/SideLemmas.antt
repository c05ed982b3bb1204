-- What the status of a task says of what it is not.
use Rattle.std.proofs.Common.{◌≡◌, ◌⊎◌, Option, Some, Result, IfOk, IfSome, refl, sym, subst, inl, inr}
use Rattle.host_io.specs.Environment.{Environment}
use Rattle.host_io.specs.TwoSinks.{PutFaults}
use Rattle.pump_line.specs.Task.{Task, disassemble, elf, load, run, save, shell}
use Rattle.pump_cli.specs.Calls.{MakesAll}
use Rattle.pump_cli.specs.Codes.{IsFinal, IsOfRefusal, IsOfRun, IsSilent, ReadsAll, status_of_cut, status_of_refusal}
use Rattle.pump_cli.specs.Early.{IsOfFile}
use Rattle.pump_cli.specs.Facts.{Causes, PutsFaultBy, status_in}
use Rattle.pump_cli.specs.Reading.{content_of}
use Rattle.pump_cli.specs.declared.cut.Cut.{Cut}
use Rattle.pump_cli.specs.declared.cut.Cut.TheVariants as cut
use Rattle.pump_cli.specs.declared.refusal.Refusal.{Refusal}
use Rattle.pump_cli.specs.declared.refusal.Refusal.TheVariants as refusals
use Rattle.pump_cli.specs.declared.status.Status.{Status}
use Rattle.pump_cli.specs.declared.status.Status.TheVariants as statuses
use Rattle.pump_cli.proofs.AnswerLemmas.{refusal_ends}
use Rattle.pump_cli.proofs.TaskLemmas.{RefusedFor, Side, no_causes, of_memory}

-- the status of a cut is no final one
pub cut_not : (cut : Cut) (status : Status) → status_of_cut cut ≡ status → IsFinal status → ⊥
cut_not cut.ReadFailed status e final = subst IsFinal (sym e) final
cut_not cut.WriteFailed status e final = subst IsFinal (sym e) final
cut_not cut.InputFailed status e final = subst IsFinal (sym e) final
cut_not cut.PutFailed status e final = subst IsFinal (sym e) final
cut_not cut.Memory status e final = subst IsFinal (sym e) final

cut_not_run : (cut : Cut) → IsOfRun (status_of_cut cut) → ⊥
cut_not_run cut.ReadFailed of_run = of_run
cut_not_run cut.WriteFailed of_run = of_run
cut_not_run cut.InputFailed of_run = of_run
cut_not_run cut.PutFailed of_run = of_run
cut_not_run cut.Memory of_run = of_run

-- only a run tells that it read the whole input
all_read_is : (task : Task) (status : Status) → ReadsAll task status → IsOfRun status
all_read_is (run task) status all = all
all_read_is (shell task) status all = absurd all
all_read_is (save task) status all = absurd all
all_read_is (elf task) status all = absurd all
all_read_is (disassemble task) status all = absurd all
all_read_is (load task) status all = absurd all

-- ---- causes of a refusal, at statuses that have none and that have one

pub of_cut : {I : Type 0} (task : Task) (before : Environment I) (cut : Cut) → Side task before (status_of_cut cut)
of_cut task before why = record {
  words = λ e. cut_not why statuses.BadWords e tt;
  causes = no_causes task (status_of_cut why) before (record {
    image = λ e. cut_not why statuses.BadImage e tt;
    source = λ e. cut_not why statuses.BadSource e tt;
    tags = λ e. cut_not why statuses.BadTags e tt;
    elf_file = λ e. cut_not why statuses.BadElf e tt;
  }) (λ e. cut_not why statuses.TooLong e tt);
  not_run = λ all. cut_not_run why (all_read_is task (status_of_cut why) all);
  not_out = λ e. cut_not why statuses.TagsOut e tt;
  not_done = λ e. cut_not why statuses.Done e tt;
}

pub of_refusal : {I : Type 0} (task : Task) (before : Environment I) (refusal : Refusal) → IsOfFile refusal
    → IfSome (content_of task before.held) (λ content. RefusedFor task content before.left refusal) → Side task before (status_of_refusal refusal)
of_refusal task before refusals.BadWords of_file why = absurd of_file
of_refusal task before (refusals.BadImage error) of_file why = record {
  words = λ e. let h : statuses.BadImage ≡ statuses.BadWords = e in cc;
  causes = record {
    bad_image = λ e. why;
    bad_source = λ e. absurd (let h : statuses.BadImage ≡ statuses.BadSource = e in cc);
    bad_tags = λ e. absurd (let h : statuses.BadImage ≡ statuses.BadTags = e in cc);
    bad_elf = λ e. absurd (let h : statuses.BadImage ≡ statuses.BadElf = e in cc);
    too_long = λ e. absurd (let h : statuses.BadImage ≡ statuses.TooLong = e in cc);
  };
  not_run = λ all. all_read_is task statuses.BadImage all;
  not_out = λ e. let h : statuses.BadImage ≡ statuses.TagsOut = e in cc;
  not_done = λ e. let h : statuses.BadImage ≡ statuses.Done = e in cc;
}
of_refusal task before (refusals.BadSource error) of_file why = record {
  words = λ e. let h : statuses.BadSource ≡ statuses.BadWords = e in cc;
  causes = record {
    bad_image = λ e. absurd (let h : statuses.BadSource ≡ statuses.BadImage = e in cc);
    bad_source = λ e. why;
    bad_tags = λ e. absurd (let h : statuses.BadSource ≡ statuses.BadTags = e in cc);
    bad_elf = λ e. absurd (let h : statuses.BadSource ≡ statuses.BadElf = e in cc);
    too_long = λ e. absurd (let h : statuses.BadSource ≡ statuses.TooLong = e in cc);
  };
  not_run = λ all. all_read_is task statuses.BadSource all;
  not_out = λ e. let h : statuses.BadSource ≡ statuses.TagsOut = e in cc;
  not_done = λ e. let h : statuses.BadSource ≡ statuses.Done = e in cc;
}
of_refusal task before (refusals.BadTags error) of_file why = record {
  words = λ e. let h : statuses.BadTags ≡ statuses.BadWords = e in cc;
  causes = record {
    bad_image = λ e. absurd (let h : statuses.BadTags ≡ statuses.BadImage = e in cc);
    bad_source = λ e. absurd (let h : statuses.BadTags ≡ statuses.BadSource = e in cc);
    bad_tags = λ e. why;
    bad_elf = λ e. absurd (let h : statuses.BadTags ≡ statuses.BadElf = e in cc);
    too_long = λ e. absurd (let h : statuses.BadTags ≡ statuses.TooLong = e in cc);
  };
  not_run = λ all. all_read_is task statuses.BadTags all;
  not_out = λ e. let h : statuses.BadTags ≡ statuses.TagsOut = e in cc;
  not_done = λ e. let h : statuses.BadTags ≡ statuses.Done = e in cc;
}
of_refusal task before (refusals.BadElf error) of_file why = record {
  words = λ e. let h : statuses.BadElf ≡ statuses.BadWords = e in cc;
  causes = record {
    bad_image = λ e. absurd (let h : statuses.BadElf ≡ statuses.BadImage = e in cc);
    bad_source = λ e. absurd (let h : statuses.BadElf ≡ statuses.BadSource = e in cc);
    bad_tags = λ e. absurd (let h : statuses.BadElf ≡ statuses.BadTags = e in cc);
    bad_elf = λ e. why;
    too_long = λ e. absurd (let h : statuses.BadElf ≡ statuses.TooLong = e in cc);
  };
  not_run = λ all. all_read_is task statuses.BadElf all;
  not_out = λ e. let h : statuses.BadElf ≡ statuses.TagsOut = e in cc;
  not_done = λ e. let h : statuses.BadElf ≡ statuses.Done = e in cc;
}
of_refusal task before refusals.TooLong of_file why = record {
  words = λ e. let h : statuses.TooLong ≡ statuses.BadWords = e in cc;
  causes = record {
    bad_image = λ e. absurd (let h : statuses.TooLong ≡ statuses.BadImage = e in cc);
    bad_source = λ e. absurd (let h : statuses.TooLong ≡ statuses.BadSource = e in cc);
    bad_tags = λ e. absurd (let h : statuses.TooLong ≡ statuses.BadTags = e in cc);
    bad_elf = λ e. absurd (let h : statuses.TooLong ≡ statuses.BadElf = e in cc);
    too_long = λ e. why;
  };
  not_run = λ all. all_read_is task statuses.TooLong all;
  not_out = λ e. let h : statuses.TooLong ≡ statuses.TagsOut = e in cc;
  not_done = λ e. let h : statuses.TooLong ≡ statuses.Done = e in cc;
}

-- ---- refusals and runs

-- a refusal, a failed put and running out of memory are not silent
pub refusal_is_told : (task : Option Task) (refusal : Refusal) → IsSilent task (status_of_refusal refusal) → ⊥
refusal_is_told task refusals.BadWords silent = silent
refusal_is_told task (refusals.BadImage error) silent = silent
refusal_is_told task (refusals.BadSource error) silent = silent
refusal_is_told task (refusals.BadTags error) silent = silent
refusal_is_told task (refusals.BadElf error) silent = silent
refusal_is_told task refusals.TooLong silent = silent

-- a refusal that was told, or could not be
pub told_as : (refusal : Refusal) (before now : PutFaults) (result : Result Status Cut) → PutsFaultBy before now result → IfOk result (λ ended. ended ≡ status_of_refusal refusal)
    → MakesAll (status_in result) → (status_in result ≡ status_of_refusal refusal) ⊎ (status_in result ≡ statuses.PutFailed)
told_as refusal before now result faults ends =
    refusal_ends (λ (ended : Status). MakesAll ended → (ended ≡ status_of_refusal refusal) ⊎ (ended ≡ statuses.PutFailed)) refusal before now result faults ends
    (λ all. inl refl) (λ all. inr refl) (λ all. absurd all)

-- the status of a run is none of the others
pub record OfRun {I : Type 0} (task : Task) (before : Environment I) (status : Status) : Type 0 where
  pub words : status ≡ statuses.BadWords → ⊥
  pub silent : IsSilent (Some task) status → ⊥
  pub refusal : IsOfRefusal (Some task) status → ⊥
  pub causes : Causes task status before

pub of_run_is : {I : Type 0} (task : Task) (before : Environment I) (status : Status) → IsOfRun status → OfRun task before status
of_run_is task before status of_run = record {
  words = λ e. subst IsOfRun e of_run;
  silent = λ silent. silent_is status of_run silent;
  refusal = λ refused. refused_is status of_run refused;
  causes = no_causes task status before (record {
    image = λ e. subst IsOfRun e of_run;
    source = λ e. subst IsOfRun e of_run;
    tags = λ e. subst IsOfRun e of_run;
    elf_file = λ e. subst IsOfRun e of_run;
  }) (λ e. subst IsOfRun e of_run);
}
  where
    silent_is : (s : Status) → IsOfRun s → IsSilent (Some task) s → ⊥
    silent_is statuses.ReadFailed of_run silent = of_run
    silent_is statuses.WriteFailed of_run silent = of_run
    silent_is statuses.InputFailed of_run silent = of_run
    silent_is _ of_run silent = silent

    refused_is : (s : Status) → IsOfRun s → IsOfRefusal (Some task) s → ⊥
    refused_is statuses.BadWords of_run refused = of_run
    refused_is statuses.BadImage of_run refused = of_run
    refused_is statuses.BadSource of_run refused = of_run
    refused_is statuses.BadTags of_run refused = of_run
    refused_is statuses.BadElf of_run refused = of_run
    refused_is statuses.TooLong of_run refused = of_run
    refused_is _ of_run refused = refused

pub put_failed_is : {I : Type 0} (task : Task) (before : Environment I) → OfRun task before statuses.PutFailed
put_failed_is task before = record {
  words = λ e. let h : statuses.PutFailed ≡ statuses.BadWords = e in cc;
  silent = λ no. no;
  refusal = λ no. no;
  causes = (of_cut task before cut.PutFailed).causes;
}

pub memory_is : {I : Type 0} (task : Task) (before : Environment I) → OfRun task before statuses.Memory
memory_is task before = record {
  words = λ e. let h : statuses.Memory ≡ statuses.BadWords = e in cc;
  silent = λ no. no;
  refusal = λ no. no;
  causes = of_memory task before;
}
