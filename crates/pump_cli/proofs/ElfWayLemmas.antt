-- The answer of `elf` where one of its files can't be had, or both were loaded.
use Rattle.std.proofs.Common.{◌≡◌, ℕ, List, [], ◌∷◌, Option, Some, None, Result, Ok, Err, IfSome, refl, sym, subst, ◌∙◌}
use Rattle.shared_terms.specs.Counts.{next_count}
use Rattle.host_io.specs.Environment.{Environment}
use Rattle.image_format.specs.Picture.{Picture}
use Rattle.image_format.specs.Spelling.{spelling}
use Rattle.pump_line.specs.Request.{ElfTask}
use Rattle.pump_line.specs.Task.{elf}
use Rattle.pump_cli.specs.Calls.{FileCall, Load, Save, calls_of_task}
use Rattle.pump_cli.specs.Codes.{status_of_cut}
use Rattle.pump_cli.specs.Early.{EndsEarly, GivesImage, LoadCutBy}
use Rattle.pump_cli.specs.Facts.{Does, status_in}
use Rattle.pump_cli.specs.Reading.{both_taken, elf_read, file_limit, files_told, within_limit}
use Rattle.pump_cli.specs.Theorem.{HeadlineOf}
use Rattle.pump_cli.specs.declared.cut.Cut.{Cut}
use Rattle.pump_cli.specs.declared.cut.Cut.TheVariants as cut
use Rattle.pump_cli.specs.declared.reading.EarlyEnd.{EarlyEnd}
use Rattle.pump_cli.specs.declared.reading.EarlyEnd.TheVariants as early_end
use Rattle.pump_cli.specs.declared.refusal.Refusal.{Refusal}
use Rattle.pump_cli.specs.declared.status.Status.{Status}
use Rattle.pump_cli.specs.declared.status.Status.TheVariants as statuses
use Rattle.pump_cli.proofs.CallLemmas.{read_told, unmade_called}
use Rattle.pump_cli.proofs.WayLemmas.{beside, beside_faults, file_cut, file_refused, load_cut, refused_outcome}

-- what both files are read as, where they are told
both_read : (elf_held tags_held : Option (List ℕ)) (elf_file tag_file : Result (List ℕ) Refusal) (read : Result Picture Refusal)
    → IfSome elf_held (λ all. within_limit file_limit all ≡ elf_file) → IfSome tags_held (λ all. within_limit file_limit all ≡ tag_file)
    → both_taken elf_file tag_file ≡ read → IfSome (files_told elf_held tags_held) (λ files. elf_read files ≡ read)
both_read None tags_held elf_file tag_file read elf_is tags_is is = tt
both_read (Some elf_bytes) None elf_file tag_file read elf_is tags_is is = tt
both_read (Some elf_bytes) (Some tag_bytes) elf_file tag_file read elf_is tags_is is = (λ i. both_taken (elf_is i) (tags_is i)) ∙ is

-- the second file is loaded behind the first, which changes none
pub files_read : (held held_then : List ℕ → Option (List ℕ)) (elf_name tags_name : List ℕ) (elf_file tag_file : Result (List ℕ) Refusal) (read : Result Picture Refusal)
    → held_then ≡ held → IfSome (held elf_name) (λ all. within_limit file_limit all ≡ elf_file) → IfSome (held_then tags_name) (λ all. within_limit file_limit all ≡ tag_file)
    → both_taken elf_file tag_file ≡ read → IfSome (files_told (held elf_name) (held tags_name)) (λ files. elf_read files ≡ read)
files_read held held_then elf_name tags_name elf_file tag_file read same elf_is tags_is is =
    both_read (held elf_name) (held tags_name) elf_file tag_file read elf_is
    (subst (λ (names : List ℕ → Option (List ℕ)). IfSome (names tags_name) (λ all. within_limit file_limit all ≡ tag_file)) same tags_is) is

module _ {I : Type 0} (task : ElfTask) (before after : Environment I) where
  -- the calls behind the first load, and those behind both
  abbrev behind_elf : Result Picture Refusal → List FileCall
  behind_elf (Ok picture) = Load task.tags ∷ Save task.image (spelling picture) ∷ []
  behind_elf (Err refusal) = Load task.tags ∷ []

  abbrev behind_tags : Result Picture Refusal → List FileCall
  behind_tags (Ok picture) = Save task.image (spelling picture) ∷ []
  behind_tags (Err refusal) = []

  elf_first : (read : Result Picture Refusal) → Load task.elf ∷ behind_elf read ≡ calls_of_task (elf task) read
  elf_first (Ok picture) = refl
  elf_first (Err refusal) = refl

  tags_second : (read : Result Picture Refusal) → Load task.elf ∷ Load task.tags ∷ behind_tags read ≡ calls_of_task (elf task) read
  tags_second (Ok picture) = refl
  tags_second (Err refusal) = refl

  abbrev read_here : Result Picture Refusal
  read_here = read_told (elf task) (files_told (before.held task.elf) (before.held task.tags))

  -- the load of the ELF file is cut short
  pub elf_cut : (why : Cut) → LoadCutBy before.faults.read after.faults.read task.elf why
      → after.faults.write ≡ before.faults.write → after.faults.puts ≡ before.faults.puts → after.faults.input ≡ before.faults.input → after.taken ≡ before.taken
      → after.held ≡ before.held → after.calls ≡ next_count before.calls → after.input ≡ before.input → after.left ≡ before.left
      → HeadlineOf (elf task) (status_of_cut why) before after
  elf_cut why = load_cut (elf task) before after task.elf [] (behind_elf read_here) why (elf_first read_here) (λ tells names. refl)

  -- that of the tag file is
  pub tags_cut : (why : Cut) → LoadCutBy before.faults.read after.faults.read task.tags why
      → after.faults.write ≡ before.faults.write → after.faults.puts ≡ before.faults.puts → after.faults.input ≡ before.faults.input → after.taken ≡ before.taken
      → after.held ≡ before.held → after.calls ≡ next_count (next_count before.calls) → after.input ≡ before.input → after.left ≡ before.left
      → HeadlineOf (elf task) (status_of_cut why) before after
  tags_cut why = load_cut (elf task) before after task.tags (Load task.elf ∷ []) (behind_tags read_here) why (tags_second read_here) (λ tells names. refl)

  -- both were loaded, and no image is made of them
  pub both_end : (end : EarlyEnd) (read : Result Picture Refusal) (result : Result Status Cut)
      → IfSome (files_told (before.held task.elf) (before.held task.tags)) (λ files. elf_read files ≡ read) → GivesImage (Err end) read
      → after.faults.read ≡ before.faults.read → after.faults.write ≡ before.faults.write
      → EndsEarly end before.taken.err after.taken.err before.faults.puts.err after.faults.puts.err result
      → after.taken.out ≡ before.taken.out → after.faults.puts.out ≡ before.faults.puts.out → after.faults.input ≡ before.faults.input
      → after.held ≡ before.held → after.calls ≡ next_count (next_count before.calls) → after.input ≡ before.input → after.left ≡ before.left
      → HeadlineOf (elf task) (status_in result) before after
  both_end (early_end.Refused refusal) read result is gives reads write ends out out_faults input_faults held calls input left =
      file_refused (elf task) before after refusal result gives.1
      (subst (λ (found : Result Picture Refusal). IfSome (files_told (before.held task.elf) (before.held task.tags)) (λ files. elf_read files ≡ found)) gives.0 is)
      (beside (Does (refused_outcome refusal)) before.taken after.taken out result ends.does) (beside_faults before.faults.puts after.faults.puts out_faults result ends.faults)
      ends.status reads write input_faults out held calls input left
  both_end (early_end.Cut why) read result is gives reads write ends out out_faults input_faults held calls input left =
      subst (λ (done : Result Status Cut). HeadlineOf (elf task) (status_in done) before after) (sym ends.ends)
      (subst (λ (cause : Cut). HeadlineOf (elf task) (status_of_cut cause) before after) (sym gives)
      (file_cut (elf task) before after cut.Memory (λ e. let h : statuses.Memory ≡ statuses.InputFailed = e in cc)
      (unmade_called (elf task) before after held (Load task.elf ∷ Load task.tags ∷ []) (behind_tags read_here) (tags_second read_here) (λ tells names. refl) calls
      (λ i. record { read = reads i; write = write i; input = input_faults i; puts = record { out = out_faults i; err = ends.faults i } }))
      (λ i. record { out = out i; err = ends.err i }) input left))
