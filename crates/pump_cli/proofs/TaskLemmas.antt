-- What is due at the end of a task, why something is refused, and what is done to file and input.
use Rattle.std.proofs.Common.{◌≡◌, ℕ, ◌+◌, ◌<◌, ◌⊎◌, nat_le, if◌then◌else◌, Bool, true, false, List, [], length, Option, Some, None, Result, Ok, Err, IfSome, IsErr, IsTrue, option_map, refl, sym, subst, arith, inl, inr, ap}
use Rattle.std.proofs.lemmas.Bool.Decides.{nat_tests}
use Rattle.std.specs.Io.KnownBytes.{prepend_known}
use Rattle.host_io.specs.Prefixes.{LosesPrefix}
use Rattle.host_io.specs.Environment.{Environment}
use Rattle.image_format.specs.Picture.{Picture}
use Rattle.image_format.specs.Reading.{image_of}
use Rattle.image_format.specs.declared.errors.ImageError.{ImageError}
use Rattle.asm_read.specs.declared.errors.AsmError.{AsmError}
use Rattle.asm_emit.specs.Assembled.{image_of_source}
use Rattle.elf_image.specs.Loaded.{image_of_elf}
use Rattle.elf_image.specs.Tags.{tags_of}
use Rattle.elf_image.specs.declared.errors.ElfError.{ElfError}
use Rattle.elf_image.specs.declared.errors.TagsError.{TagsError}
use Rattle.workload.specs.Source.{source_of_workload}
use Rattle.pump_line.specs.Request.{DisassembleTask, ElfTask, SaveTask}
use Rattle.pump_line.specs.Task.{LoadTask, RunTask, ShellTask, Task, disassemble, elf, load, run, save, shell}
use Rattle.pump_cli.specs.Codes.{IsBeforeInput, ReadsAll}
use Rattle.pump_cli.specs.Endings.{Outcome}
use Rattle.host_io.proofs.PrefixLemmas.{if_some_each}
use Rattle.pump_cli.specs.Facts.{Causes, FileFacts, HasNoElf, HasNoImage, HasNoSource, HasNoTags, IsLongFile, IsLongInput, IsLongStart, IsTooLong, Executed, ExecutedIn, ExecutedWith, SessionFacts}
use Rattle.pump_cli.specs.Program.{after_secret, is_over_at_start, outcome_of_content, outcome_of_fed, outcome_of_image, outcome_of_input, outcome_of_lines, outcome_of_listing, outcome_of_load, outcome_of_no_start, outcome_of_picture, outcome_of_run, outcome_of_saving, outcome_of_session, refusal_outcome, with_secret}
use Rattle.shared_terms.specs.Steps.{◌>>=◌, result_view}
use Rattle.image_format.specs.Migrated.{migrated}
use Rattle.pump_line.specs.declared.task.Making.{Making}
use Rattle.pump_line.specs.declared.task.Making.TheVariants.{Assemble, Migrate}
use Rattle.pump_cli.specs.Reading.{ContentOf, ElfFiles, StartFiles, both_taken, content_of, content_read, elf_or_refusal, elf_read, elf_taken, file_as, file_limit, image_or_refusal, image_read, input_limit, input_read, made_read, secret_held, secret_read, source_or_refusal, source_read, tags_or_refusal, tags_taken, within_limit}
use Rattle.pump_cli.specs.declared.refusal.Refusal.{Refusal}
use Rattle.pump_cli.specs.declared.refusal.Refusal.TheVariants as refusals
use Rattle.pump_cli.specs.declared.status.Status.{Status}
use Rattle.pump_cli.specs.declared.status.Status.TheVariants as statuses

-- ---- what is due

-- what `run` and `shell` start from, where their image's file is told and the secret bytes are
abbrev pub start_from : Option (List ℕ) → Option (List ℕ) → Option StartFiles
start_from told kept = option_map (λ bytes. record { image = bytes; secret = kept }) told

module _ (P : Outcome → Type 0) where
  pub due_by_file : (task : Task) (held : Option (ContentOf task)) (input : Option (List ℕ)) (refusal : Refusal) → IfSome held (λ content. content_read task content ≡ Err refusal)
      → P (refusal_outcome refusal) → IfSome (outcome_of_content task held input) P
  due_by_file task None input refusal is refused = tt
  due_by_file task (Some content) input refusal is refused =
      subst (λ (read : Result Picture Refusal). IfSome (outcome_of_image task content read input) P) (sym is) refused

  -- the secret bytes are refused
  no_secret : (go : List ℕ → Option Outcome) (kept : Option (List ℕ)) (refusal : Refusal) → IfSome kept (λ bytes. secret_read bytes ≡ Err refusal)
      → P (refusal_outcome refusal) → IfSome (after_secret go kept) P
  no_secret go None refusal is refused = tt
  no_secret go (Some bytes) refusal is refused = subst (λ (read : Result (List ℕ) Refusal). IfSome (with_secret go read) P) (sym is) refused

  -- they are taken
  on_secret : (go : List ℕ → Option Outcome) (kept : Option (List ℕ)) (secret : List ℕ) → IfSome kept (λ bytes. secret_read bytes ≡ Ok secret)
      → IfSome (go secret) P → IfSome (after_secret go kept) P
  on_secret go None secret is due = tt
  on_secret go (Some bytes) secret is due = subst (λ (read : Result (List ℕ) Refusal). IfSome (with_secret go read) P) (sym is) due

  module _ (task : RunTask) (told kept input : Option (List ℕ)) (picture : Picture) where
    -- the image is taken
    run_due : (known : Option (List ℕ)) → IfSome known (λ bytes. image_read bytes ≡ Ok picture)
        → IfSome (after_secret (λ secret. outcome_of_input task secret picture input) kept) P → IfSome (outcome_of_content (run task) (start_from known kept) input) P
    run_due None is due = tt
    run_due (Some bytes) is due =
        subst (λ (read : Result Picture Refusal). IfSome (outcome_of_image (run task) (record { image = bytes; secret = kept }) read input) P) (sym is) due

    pub due_by_run_secret : (refusal : Refusal) → IfSome told (λ bytes. image_read bytes ≡ Ok picture) → IfSome kept (λ bytes. secret_read bytes ≡ Err refusal)
        → P (refusal_outcome refusal) → IfSome (outcome_of_content (run task) (start_from told kept) input) P
    due_by_run_secret refusal is long refused = run_due told is (no_secret (λ secret. outcome_of_input task secret picture input) kept refusal long refused)

    module _ (secret : List ℕ) (is : IfSome told (λ bytes. image_read bytes ≡ Ok picture)) (kept_is : IfSome kept (λ bytes. secret_read bytes ≡ Ok secret)) where
      -- the secret bytes are, too
      input_due : (read : Result (List ℕ) Refusal) → IfSome input (λ all. input_read all ≡ read) → P (outcome_of_fed task secret picture read)
          → IfSome (outcome_of_content (run task) (start_from told kept) input) P
      input_due read given due = run_due told is (on_secret (λ bytes. outcome_of_input task bytes picture input) kept secret kept_is (by input given))
        where
          by : (known : Option (List ℕ)) → IfSome known (λ all. input_read all ≡ read) → IfSome (outcome_of_input task secret picture known) P
          by None is_read = tt
          by (Some all) is_read = subst (λ (fed : Result (List ℕ) Refusal). P (outcome_of_fed task secret picture fed)) (sym is_read) due

      pub due_by_input : (refusal : Refusal) → IfSome input (λ all. input_read all ≡ Err refusal) → P (refusal_outcome refusal)
          → IfSome (outcome_of_content (run task) (start_from told kept) input) P
      due_by_input refusal = input_due (Err refusal)

      pub due_by_run : (fed : List ℕ) → IfSome input (λ all. input_read all ≡ Ok fed) → P (outcome_of_run task secret picture fed)
          → IfSome (outcome_of_content (run task) (start_from told kept) input) P
      due_by_run fed = input_due (Ok fed)

  by_start : (over : Bool) → (over ≡ true → P outcome_of_no_start) → IfSome (if over then Some outcome_of_no_start else None) P
  by_start true ended = ended refl
  by_start false ended = tt

  module _ (task : ShellTask) (told kept input : Option (List ℕ)) (picture : Picture) where
    shell_due : (known : Option (List ℕ)) → IfSome known (λ bytes. image_read bytes ≡ Ok picture)
        → IfSome (after_secret (λ secret. outcome_of_session task secret picture input) kept) P → IfSome (outcome_of_content (shell task) (start_from known kept) input) P
    shell_due None is due = tt
    shell_due (Some bytes) is due =
        subst (λ (read : Result Picture Refusal). IfSome (outcome_of_image (shell task) (record { image = bytes; secret = kept }) read input) P) (sym is) due

    pub due_by_shell_secret : (refusal : Refusal) → IfSome told (λ bytes. image_read bytes ≡ Ok picture) → IfSome kept (λ bytes. secret_read bytes ≡ Err refusal)
        → P (refusal_outcome refusal) → IfSome (outcome_of_content (shell task) (start_from told kept) input) P
    due_by_shell_secret refusal is long refused = shell_due told is (no_secret (λ secret. outcome_of_session task secret picture input) kept refusal long refused)

    pub due_by_lines : (secret : List ℕ) → IfSome told (λ bytes. image_read bytes ≡ Ok picture) → IfSome kept (λ bytes. secret_read bytes ≡ Ok secret)
        → IfSome input (λ bytes. P (outcome_of_lines task secret picture bytes)) → (is_over_at_start task secret picture ≡ true → P outcome_of_no_start)
        → IfSome (outcome_of_content (shell task) (start_from told kept) input) P
    due_by_lines secret is kept_is executed ended =
        shell_due told is (on_secret (λ bytes. outcome_of_session task bytes picture input) kept secret kept_is (by input executed))
      where
        by : (known : Option (List ℕ)) → IfSome known (λ bytes. P (outcome_of_lines task secret picture bytes)) → IfSome (outcome_of_session task secret picture known) P
        by None lines = by_start (is_over_at_start task secret picture) ended
        by (Some bytes) lines = lines

  -- an image is made and saved
  pub due_by_saving : (task : Task) (held : Option (ContentOf task)) (input : Option (List ℕ)) (picture : Picture) → ((content : ContentOf task) → outcome_of_picture task content picture input ≡ Some outcome_of_saving)
      → IfSome held (λ content. content_read task content ≡ Ok picture) → P outcome_of_saving → IfSome (outcome_of_content task held input) P
  due_by_saving task None input picture due is saved = tt
  due_by_saving task (Some content) input picture due is saved =
      subst (λ (read : Result Picture Refusal). IfSome (outcome_of_image task content read input) P) (sym is)
      (subst (λ (outcome : Option Outcome). IfSome outcome P) (sym (due content)) saved)

  pub due_by_listing : (task : DisassembleTask) (held input : Option (List ℕ)) (picture : Picture) → IfSome held (λ bytes. image_read bytes ≡ Ok picture)
      → P (outcome_of_listing picture) → IfSome (outcome_of_content (disassemble task) held input) P
  due_by_listing task None input picture is listed = tt
  due_by_listing task (Some bytes) input picture is listed =
      subst (λ (read : Result Picture Refusal). IfSome (outcome_of_image (disassemble task) bytes read input) P) (sym is) listed

  pub due_by_work : (task : LoadTask) (input : Option (List ℕ)) (picture : Picture) → source_read (source_of_workload task.count) ≡ Ok picture
      → P (outcome_of_load task picture) → IfSome (outcome_of_content (load task) (Some (source_of_workload task.count)) input) P
  due_by_work task input picture is worked =
      subst (λ (read : Result Picture Refusal). IfSome (outcome_of_image (load task) (source_of_workload task.count) read input) P) (sym is) worked

-- ---- why something was refused

each : {A : Type 0} (told : Option A) (P : A → Type 0) → ((x : A) → P x) → IfSome told P
each None P all = tt
each (Some x) P all = all x

abbrev refusal_error : Refusal → Result Picture Refusal
refusal_error r = Err r

abbrev taken_as : Picture → Result Picture Refusal
taken_as picture = Ok picture

-- ---- what holds of a refusal, from what holds at each that there may be

module _ (P : Refusal → Type 0) where
  image_told : (image : Result Picture ImageError) → ((error : ImageError) → IsErr image → P (refusals.BadImage error))
      → (refusal : Refusal) → image_or_refusal image ≡ Err refusal → P refusal
  image_told (Ok picture) bad refusal is = absurd (let h : taken_as picture ≡ refusal_error refusal = is in cc)
  image_told (Err error) bad refusal is = subst P (let h : refusal_error (refusals.BadImage error) ≡ refusal_error refusal = is in cc) (bad error refl)

  source_told : (image : Result Picture AsmError) → ((error : AsmError) → IsErr image → P (refusals.BadSource error))
      → (refusal : Refusal) → source_or_refusal image ≡ Err refusal → P refusal
  source_told (Ok picture) bad refusal is = absurd (let h : taken_as picture ≡ refusal_error refusal = is in cc)
  source_told (Err error) bad refusal is = subst P (let h : refusal_error (refusals.BadSource error) ≡ refusal_error refusal = is in cc) (bad error refl)

  tags_told : (image : Result Picture TagsError) → ((error : TagsError) → IsErr image → P (refusals.BadTags error))
      → (refusal : Refusal) → tags_or_refusal image ≡ Err refusal → P refusal
  tags_told (Ok picture) bad refusal is = absurd (let h : taken_as picture ≡ refusal_error refusal = is in cc)
  tags_told (Err error) bad refusal is = subst P (let h : refusal_error (refusals.BadTags error) ≡ refusal_error refusal = is in cc) (bad error refl)

  elf_told : (image : Result Picture ElfError) → ((error : ElfError) → IsErr image → P (refusals.BadElf error))
      → (refusal : Refusal) → elf_or_refusal image ≡ Err refusal → P refusal
  elf_told (Ok picture) bad refusal is = absurd (let h : taken_as picture ≡ refusal_error refusal = is in cc)
  elf_told (Err error) bad refusal is = subst P (let h : refusal_error (refusals.BadElf error) ≡ refusal_error refusal = is in cc) (bad error refl)

  -- a file is too long, or refused for what it holds
  module _ (bytes : List ℕ) (long : IsLongFile bytes → P refusals.TooLong) where
    file_told : (read : List ℕ → Result Picture Refusal) → ((refusal : Refusal) → read bytes ≡ Err refusal → P refusal)
        → (refusal : Refusal) → file_as read (within_limit file_limit bytes) ≡ Err refusal → P refusal
    file_told read bad refusal is = by_length (nat_le (length bytes) file_limit) refl is
      where
        by_length : (fits : Bool) → nat_le (length bytes) file_limit ≡ fits → file_as read (if fits then Ok bytes else Err refusals.TooLong) ≡ Err refusal → P refusal
        by_length true fits refused = bad refusal refused
        by_length false past refused =
            subst P (let h : refusal_error refusals.TooLong ≡ refusal_error refusal = refused in cc) (long (grind (arith, nat_tests, past)))

    image_why : ((error : ImageError) → IsErr (image_of bytes) → P (refusals.BadImage error)) → (refusal : Refusal) → image_read bytes ≡ Err refusal → P refusal
    unfolding image_read
    image_why bad refusal is = file_told (λ file. image_or_refusal (image_of file)) (image_told (image_of bytes) bad) refusal is

    source_why : ((error : AsmError) → IsErr (image_of_source bytes) → P (refusals.BadSource error)) → (refusal : Refusal) → source_read bytes ≡ Err refusal → P refusal
    unfolding source_read
    source_why bad refusal is = file_told (λ file. source_or_refusal (image_of_source file)) (source_told (image_of_source bytes) bad) refusal is

    tags_why : ((error : TagsError) → IsErr (tags_of bytes) → P (refusals.BadTags error))
        → (refusal : Refusal) → tags_taken (within_limit file_limit bytes) ≡ Err refusal → P refusal
    tags_why bad refusal is = file_told (λ file. tags_or_refusal (tags_of file)) (tags_told (tags_of bytes) bad) refusal is

    elf_why : (tags : Picture) → ((error : ElfError) → IsErr (image_of_elf bytes tags) → P (refusals.BadElf error))
        → (refusal : Refusal) → elf_taken (within_limit file_limit bytes) tags ≡ Err refusal → P refusal
    elf_why tags bad refusal is = file_told (λ file. elf_or_refusal (image_of_elf file tags)) (elf_told (image_of_elf bytes tags) bad) refusal is

  -- the tag file is refused, or the ELF file under it
  both_why : (elf_file tag_file : Result (List ℕ) Refusal) → ((refusal : Refusal) → tags_taken tag_file ≡ Err refusal → P refusal)
      → ((tags : Picture) → tags_taken tag_file ≡ Ok tags → (refusal : Refusal) → elf_taken elf_file tags ≡ Err refusal → P refusal)
      → (refusal : Refusal) → both_taken elf_file tag_file ≡ Err refusal → P refusal
  unfolding both_taken
  both_why elf_file tag_file no_tags no_elf refusal is = by_tags (tags_taken tag_file) refl is
    where
      by_tags : (read : Result Picture Refusal) → tags_taken tag_file ≡ read → (read >>= (λ tags. elf_taken elf_file tags)) ≡ Err refusal → P refusal
      by_tags (Ok tags) taken refused = no_elf tags taken refusal refused
      by_tags (Err other) taken refused = subst P (let h : refusal_error other ≡ refusal_error refusal = refused in cc) (no_tags other taken)

-- a tag file that is taken is one
pub tags_are : (bytes : List ℕ) (tags : Picture) → tags_taken (within_limit file_limit bytes) ≡ Ok tags → tags_of bytes ≡ Ok tags
tags_are bytes tags is = by_length (nat_le (length bytes) file_limit) is
  where
    tag_image : Picture → Result Picture TagsError
    tag_image picture = Ok picture

    by_image : (read : Result Picture TagsError) → tags_or_refusal read ≡ Ok tags → read ≡ Ok tags
    by_image (Ok picture) taken = let same : picture ≡ tags = (let h : taken_as picture ≡ taken_as tags = taken in cc) in ap tag_image same
    by_image (Err error) taken = absurd (let h : refusal_error (refusals.BadTags error) ≡ taken_as tags = taken in cc)

    by_length : (fits : Bool) → tags_taken (if fits then Ok bytes else Err refusals.TooLong) ≡ Ok tags → tags_of bytes ≡ Ok tags
    by_length true taken = by_image (tags_of bytes) taken
    by_length false taken = absurd (let h : refusal_error refusals.TooLong ≡ taken_as tags = taken in cc)

-- and so is an ELF file
pub elf_is : (bytes : List ℕ) (tags g : Picture) → elf_taken (within_limit file_limit bytes) tags ≡ Ok g → image_of_elf bytes tags ≡ Ok g
elf_is bytes tags g is = by_length (nat_le (length bytes) file_limit) is
  where
    elf_image : Picture → Result Picture ElfError
    elf_image picture = Ok picture

    by_image : (read : Result Picture ElfError) → elf_or_refusal read ≡ Ok g → read ≡ Ok g
    by_image (Ok picture) taken = let same : picture ≡ g = (let h : taken_as picture ≡ taken_as g = taken in cc) in ap elf_image same
    by_image (Err error) taken = absurd (let h : refusal_error (refusals.BadElf error) ≡ taken_as g = taken in cc)

    by_length : (fits : Bool) → elf_taken (if fits then Ok bytes else Err refusals.TooLong) tags ≡ Ok g → image_of_elf bytes tags ≡ Ok g
    by_length true taken = by_image (image_of_elf bytes tags) taken
    by_length false taken = absurd (let h : refusal_error refusals.TooLong ≡ taken_as g = taken in cc)

-- what is mapped was refused as it was before
refused_before : {A B : Type 0} (view : A → B) (read : Result A Refusal) (refusal : Refusal) → result_view view read ≡ Err refusal → read ≡ Err refusal
refused_before view (Ok x) refusal is = absurd (let h : Ok (view x) ≡ Err refusal = is in cc)
refused_before view (Err other) refusal is = let same : other ≡ refusal = (let h : Err other ≡ Err refusal = is in cc) in ap Err same

-- what holds of a content that is refused so
abbrev pub RefusedFor : (task : Task) → ContentOf task → Option (List ℕ) → Refusal → Type 0
RefusedFor task content left refusals.BadWords = ⊥
RefusedFor task content left (refusals.BadImage error) = HasNoImage task content
RefusedFor task content left (refusals.BadSource error) = HasNoSource task content
RefusedFor task content left (refusals.BadTags error) = HasNoTags task content
RefusedFor task content left (refusals.BadElf error) = HasNoElf task content
RefusedFor task content left refusals.TooLong = IsTooLong task content left

made_why : (task : SaveTask) (bytes : List ℕ) (left : Option (List ℕ)) (making : Making) (refusal : Refusal) → made_read making bytes ≡ Err refusal
    → RefusedFor (save task) bytes left refusal
made_why task bytes left Assemble refusal is = source_why (RefusedFor (save task) bytes left) bytes (λ long. long) (λ error bad. bad) refusal is
made_why task bytes left Migrate refusal is =
    image_why (RefusedFor (save task) bytes left) bytes (λ long. long) (λ error bad. bad) refusal (refused_before migrated (image_read bytes) refusal is)

elf_files_why : (task : ElfTask) (files : ElfFiles) (left : Option (List ℕ)) (refusal : Refusal) → elf_read files ≡ Err refusal → RefusedFor (elf task) files left refusal
elf_files_why task files left =
    both_why (RefusedFor (elf task) files left) (within_limit file_limit files.elf) (within_limit file_limit files.tags)
    (tags_why (RefusedFor (elf task) files left) files.tags inl (λ error bad. bad))
    (λ tags taken. elf_why (RefusedFor (elf task) files left) files.elf inr tags (λ error bad. record { tags = tags; is_tags = tags_are files.tags tags taken; is_bad = bad }))

-- why a content is refused
pub why_refused : (task : Task) (content : ContentOf task) (left : Option (List ℕ)) (refusal : Refusal) → content_read task content ≡ Err refusal
    → RefusedFor task content left refusal
why_refused (run task) files left refusal is =
    image_why (RefusedFor (run task) files left) files.image (λ long. each files.secret _ (λ secret. each left _ (λ input. inl long))) (λ error bad. bad) refusal is
why_refused (shell task) files left refusal is =
    image_why (RefusedFor (shell task) files left) files.image (λ long. each files.secret _ (λ secret. each left _ (λ input. inl long))) (λ error bad. bad) refusal is
why_refused (save task) bytes left refusal is = made_why task bytes left task.making refusal is
why_refused (elf task) files left refusal is = elf_files_why task files left refusal is
why_refused (disassemble task) bytes left refusal is = image_why (RefusedFor (disassemble task) bytes left) bytes (λ long. long) (λ error bad. bad) refusal is
why_refused (load task) bytes left refusal is = source_why (RefusedFor (load task) bytes left) bytes (λ long. long) (λ error bad. bad) refusal is

pub long_input : (bytes : List ℕ) → input_read bytes ≡ Err refusals.TooLong → IsLongInput bytes
unfolding input_read
long_input bytes is = by_length (nat_le (length bytes) input_limit) (λ past. grind (arith, nat_tests)) is
  where
    by_length : (fits : Bool) → (fits ≡ false → input_limit < length bytes) → (if fits then Ok bytes else Err refusals.TooLong) ≡ Err refusals.TooLong → input_limit < length bytes
    by_length true past e = absurd (let h : Ok bytes ≡ Err refusals.TooLong = e in cc)
    by_length false past e = past refl

pub long_secret : (bytes : List ℕ) → secret_read bytes ≡ Err refusals.TooLong → IsLongFile bytes
unfolding secret_read
long_secret bytes is = by_length (nat_le (length bytes) file_limit) (λ past. grind (arith, nat_tests)) is
  where
    by_length : (fits : Bool) → (fits ≡ false → file_limit < length bytes) → (if fits then Ok bytes else Err refusals.TooLong) ≡ Err refusals.TooLong → file_limit < length bytes
    by_length true past e = absurd (let h : Ok bytes ≡ Err refusals.TooLong = e in cc)
    by_length false past e = past refl

-- ---- what a run and a session start from

module _ (told kept : Option (List ℕ)) where
  -- what holds whatever the image's file has
  pub each_start : (Q : StartFiles → Type 0) → ((bytes : List ℕ) → Q (record { image = bytes; secret = kept })) → IfSome (start_from told kept) Q
  each_start Q all = by told
    where
      by : (known : Option (List ℕ)) → IfSome (start_from known kept) Q
      by None = tt
      by (Some bytes) = all bytes

  -- the image's file is read as this
  pub start_read : (read : Result Picture Refusal) → IfSome told (λ bytes. image_read bytes ≡ read) → IfSome (start_from told kept) (λ files. image_read files.image ≡ read)
  start_read read is = by told is
    where
      by : (known : Option (List ℕ)) → IfSome known (λ bytes. image_read bytes ≡ read) → IfSome (start_from known kept) (λ files. image_read files.image ≡ read)
      by None is_read = tt
      by (Some bytes) is_read = is_read

  pub start_taken : (picture : Picture) → IfSome told (λ bytes. image_read bytes ≡ Ok picture) → IfSome (start_from told kept) (λ files. image_read files.image ≡ Ok picture)
  start_taken picture = start_read (Ok picture)

  -- the secret file is too long
  pub start_long : (left : Option (List ℕ)) → IfSome kept (λ bytes. secret_read bytes ≡ Err refusals.TooLong) → IfSome (start_from told kept) (λ files. IsLongStart files left)
  start_long left long =
      each_start (λ files. IsLongStart files left) (λ bytes. if_some_each kept _ _ (λ secret is. each left _ (λ input. inr (inl (long_secret secret is)))) long)

  -- the input is
  pub start_input : (left : Option (List ℕ)) → IfSome left IsLongInput → IfSome (start_from told kept) (λ files. IsLongStart files left)
  start_input left long =
      each_start (λ files. IsLongStart files left) (λ bytes. each kept _ (λ secret. if_some_each left _ _ (λ input past. inr (inr past)) long))

-- ---- what was done to the file and to the input

loses_nothing : (left : Option (List ℕ)) (most : ℕ) → LosesPrefix left left most
loses_nothing left most = record { prefix = []; moved = by left; within = omega arith }
  where
    by : (known : Option (List ℕ)) → known ≡ prepend_known [] known
    by None = refl
    by (Some bytes) = refl

taken_is_fine : (task : Task) (content : ContentOf task) (picture : Picture) {P : Type 0} → content_read task content ≡ Ok picture → IsErr (content_read task content) → P
taken_is_fine task content picture is bad = absurd (let h : false ≡ true = subst (λ (read : Result Picture Refusal). IsErr read) is bad in cc)

-- what a status is not, and why it may be what it is
pub record Side {I : Type 0} (task : Task) (before : Environment I) (status : Status) : Type 0 where
  pub words : status ≡ statuses.BadWords → ⊥
  pub causes : Causes task status before
  pub not_run : ReadsAll task status → ⊥
  pub not_out : status ≡ statuses.TagsOut → ⊥
  pub not_done : status ≡ statuses.Done → ⊥

-- a status that is not a refusal's has no cause
pub record NoRefusal (status : Status) : Type 0 where
  pub image : status ≡ statuses.BadImage → ⊥
  pub source : status ≡ statuses.BadSource → ⊥
  pub tags : status ≡ statuses.BadTags → ⊥
  pub elf_file : status ≡ statuses.BadElf → ⊥

-- nor has one that is told of what is too long, but that
pub causes_long : {I : Type 0} (task : Task) (status : Status) (before : Environment I) → NoRefusal status
    → (status ≡ statuses.TooLong → IfSome (content_of task before.held) (λ content. IsTooLong task content before.left)) → Causes task status before
causes_long task status before none long = record {
  bad_image = λ e. absurd (none.image e);
  bad_source = λ e. absurd (none.source e);
  bad_tags = λ e. absurd (none.tags e);
  bad_elf = λ e. absurd (none.elf_file e);
  too_long = long;
}

pub no_causes : {I : Type 0} (task : Task) (status : Status) (before : Environment I) → NoRefusal status → (status ≡ statuses.TooLong → ⊥) → Causes task status before
no_causes task status before none not_long = causes_long task status before none (λ e. absurd (not_long e))

pub of_memory : {I : Type 0} (task : Task) (before : Environment I) → Causes task statuses.Memory before
of_memory task before =
    no_causes task statuses.Memory before (record {
      image = λ e. let h : statuses.Memory ≡ statuses.BadImage = e in cc;
      source = λ e. let h : statuses.Memory ≡ statuses.BadSource = e in cc;
      tags = λ e. let h : statuses.Memory ≡ statuses.BadTags = e in cc;
      elf_file = λ e. let h : statuses.Memory ≡ statuses.BadElf = e in cc;
    }) (λ e. let h : statuses.Memory ≡ statuses.TooLong = e in cc)

-- ---- sessions

-- a session that did not come to its end, nor to a read that failed, did not read the input either
module _ {I : Type 0} (task : ShellTask) (status : Status) (before after : Environment I) (not_out : status ≡ statuses.TagsOut → ⊥)
    (not_done : status ≡ statuses.Done → ⊥) (not_input : status ≡ statuses.InputFailed → ⊥) (input : after.input ≡ before.input) where
  unexecuted_with : (picture : Picture) (kept : Result (List ℕ) Refusal) → ExecutedWith task picture kept status before after
  unexecuted_with picture (Ok secret) = record {
    tags_out = λ out. absurd (not_out out);
    unread = λ over. input;
    whole = λ done. absurd (not_done done);
    replied = λ failed. absurd (not_input failed);
  }
  unexecuted_with picture (Err refusal) = tt

  unexecuted : (bytes : List ℕ) (read : Result Picture Refusal) → ExecutedIn task bytes read status before after
  unexecuted bytes (Ok picture) = unexecuted_with picture (secret_read bytes)
  unexecuted bytes (Err refusal) = tt

pub no_session : {I : Type 0} (task : Task) (status : Status) (before after : Environment I)
    → (status ≡ statuses.TagsOut → ⊥) → (status ≡ statuses.Done → ⊥) → (status ≡ statuses.InputFailed → ⊥) → after.input ≡ before.input
    → SessionFacts task status before after
no_session (run task) status before after not_out not_done not_input input = tt
no_session (shell task) status before after not_out not_done not_input input =
    each (content_of (shell task) before.held) _
    (λ files. each files.secret _ (λ bytes. unexecuted task status before after not_out not_done not_input input bytes (image_read files.image)))
no_session (save task) status before after not_out not_done not_input input = tt
no_session (elf task) status before after not_out not_done not_input input = tt
no_session (disassemble task) status before after not_out not_done not_input input = tt
no_session (load task) status before after not_out not_done not_input input = tt

-- one whose image and secret bytes were taken
module _ {I : Type 0} (task : ShellTask) (secret : List ℕ) (picture : Picture) (status : Status) (before after : Environment I) where
  session_with : (kept : Option (List ℕ)) (image : List ℕ) → image_read image ≡ Ok picture → IfSome kept (λ bytes. secret_read bytes ≡ Ok secret)
      → Executed task secret picture status before after → IfSome kept (λ bytes. ExecutedIn task bytes (image_read image) status before after)
  session_with kept image is kept_is executed =
      if_some_each kept _ _
      (λ bytes is_read. subst (λ (read : Result Picture Refusal). ExecutedIn task bytes read status before after) (sym is)
      (subst (λ (read : Result (List ℕ) Refusal). ExecutedWith task picture read status before after) (sym is_read) executed)) kept_is

  session_told : (told kept : Option (List ℕ)) → IfSome told (λ bytes. image_read bytes ≡ Ok picture) → IfSome kept (λ bytes. secret_read bytes ≡ Ok secret)
      → Executed task secret picture status before after
      → IfSome (start_from told kept) (λ files. IfSome files.secret (λ bytes. ExecutedIn task bytes (image_read files.image) status before after))
  session_told None kept is kept_is executed = tt
  session_told (Some image) kept is kept_is executed = session_with kept image is kept_is executed

  pub some_session : IfSome (before.held task.image) (λ bytes. image_read bytes ≡ Ok picture)
      → IfSome (secret_held task.choice task.secret before.held) (λ bytes. secret_read bytes ≡ Ok secret)
      → Executed task secret picture status before after → SessionFacts (shell task) status before after
  some_session = session_told (before.held task.image) (secret_held task.choice task.secret before.held)

-- ---- what is done to the input

module _ {I : Type 0} (task : Task) (status : Status) (before after : Environment I) (causes : Causes task status before)
    (session : SessionFacts task status before after) where
  -- the input was not asked for
  pub facts_unasked : after.input ≡ before.input → after.left ≡ before.left → (ReadsAll task status → ⊥) → FileFacts task status before after
  facts_unasked input left not_all = record {
    causes = causes;
    unread = λ early. input;
    unasked = each (content_of task before.held) _ (λ content refused. input);
    whole = λ all. absurd (not_all all);
    session = session;
    moved = subst (λ (now : Option (List ℕ)). LosesPrefix before.left now (input_limit + 4096)) (sym left) (loses_nothing before.left (input_limit + 4096));
  }

  -- the file was taken
  pub facts_asked : (picture : Picture) → IfSome (content_of task before.held) (λ content. content_read task content ≡ Ok picture)
      → LosesPrefix before.left after.left (input_limit + 4096) → (IsBeforeInput task status → after.input ≡ before.input)
      → (ReadsAll task status → IsTrue after.closed) → FileFacts task status before after
  facts_asked picture taken moved unread whole = record {
    causes = causes;
    unread = unread;
    unasked = if_some_each (content_of task before.held) _ _ (λ content is refused. taken_is_fine task content picture is refused) taken;
    whole = whole;
    session = session;
    moved = moved;
  }

-- the status of a call that was to save a file: it was saved, or that failed
abbrev pub IsSaving : Status → Type 0
IsSaving statuses.Done = Unit {0}
IsSaving statuses.WriteFailed = Unit {0}
IsSaving _ = ⊥

-- it is none of a refusal
of_saving : {I : Type 0} (task : Task) (status : Status) (before : Environment I) → IsSaving status ⊎ (status ≡ statuses.Memory) → Causes task status before
of_saving task status before (inl saving) =
    no_causes task status before (record {
      image = λ e. subst IsSaving e saving;
      source = λ e. subst IsSaving e saving;
      tags = λ e. subst IsSaving e saving;
      elf_file = λ e. subst IsSaving e saving;
    }) (λ e. subst IsSaving e saving)
of_saving task status before (inr memory) = subst (λ (s : Status). Causes task s before) (sym memory) (of_memory task before)

-- an image was made, and was to be saved
pub facts_saving : {I : Type 0} (task : Task) (status : Status) (before after : Environment I) → IsSaving status ⊎ (status ≡ statuses.Memory)
    → SessionFacts task status before after → (ReadsAll task status → ⊥)
    → after.input ≡ before.input → after.left ≡ before.left → FileFacts task status before after
facts_saving task status before after ends session not_all input left =
    facts_unasked task status before after (of_saving task status before ends) session input left not_all

-- a call that wants memory did not read the input to its end, as far as is told
not_all_read : (task : Task) → ReadsAll task statuses.Memory → ⊥
not_all_read (run task) all = all
not_all_read (shell task) all = all
not_all_read (save task) all = all
not_all_read (elf task) all = all
not_all_read (disassemble task) all = all
not_all_read (load task) all = all

-- running out of memory before anything was asked for
pub facts_none : {I : Type 0} (task : Task) (before : Environment I) → FileFacts task statuses.Memory before before
facts_none task before =
    facts_unasked task statuses.Memory before before (of_memory task before)
    (no_session task statuses.Memory before before (λ e. let h : statuses.Memory ≡ statuses.TagsOut = e in cc)
    (λ e. let h : statuses.Memory ≡ statuses.Done = e in cc) (λ e. let h : statuses.Memory ≡ statuses.InputFailed = e in cc) refl) refl refl (not_all_read task)
