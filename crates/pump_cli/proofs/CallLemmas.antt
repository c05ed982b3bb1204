-- The calls on files at each end of a task: which of them were made, and what files hold after them.
use Rattle.std.specs.Bool.{then_some}
use Rattle.std.specs.Str.{bytes_eq}
use Rattle.std.proofs.Common.{◌≡◌, ◌≢◌, ℕ, ◌⊎◌, Bool, true, false, List, [], ◌∷◌, ◌++◌, Option, Some, None, Result, Ok, Err, IfSome, refl, sym, ap, inl, inr, ◌∙◌, if◌then◌else◌}
use Rattle.std.proofs.lemmas.Slice.Eq.{bytes_eq-Decides}
use Rattle.shared_terms.specs.Counts.{next_count}
use Rattle.host_io.specs.Environment.{NoFault, Environment, WriteFault}
use Rattle.image_format.specs.Picture.{Picture}
use Rattle.image_format.specs.Spelling.{spelling}
use Rattle.policy_choice.specs.declared.choice.Choice.{Choice}
use Rattle.pump_line.specs.Request.{ElfTask, SaveTask}
use Rattle.pump_line.specs.Task.{Task, disassemble, elf, load, run, save, shell}
use Rattle.pump_cli.specs.Calls.{CallsMade, EndsAs, EndsTaken, FaultBy, FileCall, HeldAfter, IsReadAs, Load, MakesAll, Save, calls_of, calls_of_task, counted_by, held_after, with_call, secret_calls}
use Rattle.pump_cli.specs.Codes.{ReadsAll, status_of_refusal}
use Rattle.pump_cli.specs.Facts.{AtMost, SessionFacts}
use Rattle.pump_cli.specs.Program.{outcome_of_picture, outcome_of_saving}
use Rattle.pump_cli.specs.Reading.{ContentOf, content_of, content_read}
use Rattle.pump_cli.specs.declared.refusal.Refusal.{Refusal}
use Rattle.pump_cli.specs.declared.refusal.Refusal.TheVariants as refusals
use Rattle.pump_cli.specs.declared.status.Status.{Status}
use Rattle.pump_cli.specs.declared.status.Status.TheVariants as statuses

-- what is answered of the calls on files
pub record Called {I : Type 0} (task : Option Task) (status : Status) (before after : Environment I) : Type 0 where
  pub calls : CallsMade task status before after
  pub faults : FaultBy calls.broken status before.faults after.faults
  pub held : HeldAfter calls.done calls.broken status before after
  pub unsaved : status ≡ statuses.Memory → after.held ≡ before.held

-- ---- what the content is read as

-- where it is not told, as anything
abbrev pub read_told : (task : Task) → Option (ContentOf task) → Result Picture Refusal
read_told task None = Err refusals.TooLong
read_told task (Some content) = content_read task content

told_is_read : (task : Task) (told : Option (ContentOf task)) → IfSome told (λ content. read_told task told ≡ content_read task content)
told_is_read task None = tt
told_is_read task (Some content) = refl

other_way : (task : Task) (told : Option (ContentOf task)) (read : Result Picture Refusal) → IfSome told (λ content. content_read task content ≡ read)
    → IfSome told (λ content. read ≡ content_read task content)
other_way task None read is = tt
other_way task (Some content) read is = sym is

-- ---- the file that is loaded

-- of a task that loads one alone
abbrev pub first_file : Task → Option (List ℕ)
first_file (run task) = Some task.image
first_file (shell task) = Some task.image
first_file (save task) = Some task.source
first_file (elf task) = None
first_file (disassemble task) = Some task.image
first_file (load task) = None

-- a count after the calls that load what the image is made of
abbrev pub count_after_load : Task → ℕ → ℕ
count_after_load (run task) before = next_count before
count_after_load (shell task) before = next_count before
count_after_load (save task) before = next_count before
count_after_load (elf task) before = next_count (next_count before)
count_after_load (disassemble task) before = next_count before
count_after_load (load task) before = before

-- the calls behind the first of these
abbrev pub behind_load : Task → Result Picture Refusal → List FileCall
behind_load (run task) (Ok picture) = secret_calls task.choice task.secret
behind_load (run task) (Err refusal) = []
behind_load (shell task) (Ok picture) = secret_calls task.choice task.secret
behind_load (shell task) (Err refusal) = []
behind_load (save task) (Ok picture) = Save task.image (spelling picture) ∷ []
behind_load (save task) (Err refusal) = []
behind_load (elf task) (Ok picture) = Load task.tags ∷ Save task.image (spelling picture) ∷ []
behind_load (elf task) (Err refusal) = Load task.tags ∷ []
behind_load (disassemble task) read = []
behind_load (load task) read = []

-- its call comes first
pub load_first : (task : Task) (name : List ℕ) (read : Result Picture Refusal) → first_file task ≡ Some name
    → Load name ∷ behind_load task read ≡ calls_of_task task read
load_first (run task) name (Ok picture) is =
    let same : task.image ≡ name = cc in ap (λ (file : List ℕ). Load file ∷ secret_calls task.choice task.secret) (sym same)
load_first (run task) name (Err refusal) is = let same : task.image ≡ name = cc in ap (λ (file : List ℕ). Load file ∷ []) (sym same)
load_first (shell task) name (Ok picture) is =
    let same : task.image ≡ name = cc in ap (λ (file : List ℕ). Load file ∷ secret_calls task.choice task.secret) (sym same)
load_first (shell task) name (Err refusal) is = let same : task.image ≡ name = cc in ap (λ (file : List ℕ). Load file ∷ []) (sym same)
load_first (save task) name (Ok picture) is =
    let same : task.source ≡ name = cc in ap (λ (file : List ℕ). Load file ∷ Save task.image (spelling picture) ∷ []) (sym same)
load_first (save task) name (Err refusal) is = let same : task.source ≡ name = cc in ap (λ (file : List ℕ). Load file ∷ []) (sym same)
load_first (elf task) name read is = absurd cc
load_first (disassemble task) name read is = let same : task.image ≡ name = cc in ap (λ (file : List ℕ). Load file ∷ []) (sym same)
load_first (load task) name read is = absurd cc

pub load_counted : (task : Task) (name : List ℕ) (before now : ℕ) → first_file task ≡ Some name → now ≡ count_after_load task before → now ≡ next_count before
load_counted (run task) name before now is counted = counted
load_counted (shell task) name before now is counted = counted
load_counted (save task) name before now is counted = counted
load_counted (elf task) name before now is counted = absurd cc
load_counted (disassemble task) name before now is counted = counted
load_counted (load task) name before now is counted = absurd cc

-- ---- the calls of a task whose content is refused

refused_parts : (task : Task) (refusal : Refusal) → calls_of_task task (Err refusal) ++ [] ≡ calls_of_task task (Err refusal)
refused_parts (run task) refusal = refl
refused_parts (shell task) refusal = refl
refused_parts (save task) refusal = refl
refused_parts (elf task) refusal = refl
refused_parts (disassemble task) refusal = refl
refused_parts (load task) refusal = refl

refused_counted : (task : Task) (refusal : Refusal) (before now : ℕ) → now ≡ count_after_load task before
    → now ≡ counted_by (calls_of_task task (Err refusal)) before
refused_counted (run task) refusal before now counted = counted
refused_counted (shell task) refusal before now counted = counted
refused_counted (save task) refusal before now counted = counted
refused_counted (elf task) refusal before now counted = counted
refused_counted (disassemble task) refusal before now counted = counted
refused_counted (load task) refusal before now counted = counted

-- none of them saves
refused_held : (task : Task) (refusal : Refusal) (tells : Bool) (held : List ℕ → Option (List ℕ))
    → held ≡ held_after tells (calls_of_task task (Err refusal)) held
refused_held (run task) refusal tells held = refl
refused_held (shell task) refusal tells held = refl
refused_held (save task) refusal tells held = refl
refused_held (elf task) refusal tells held = refl
refused_held (disassemble task) refusal tells held = refl
refused_held (load task) refusal tells held = refl

-- ---- the load of a secret file

abbrev secret_if : Bool → List ℕ → List FileCall
secret_if chosen name = if chosen then Load name ∷ [] else []

-- nothing stands behind it
pub secret_ends_calls : (choice : Choice) (name : Option (List ℕ)) → secret_calls choice name ++ [] ≡ secret_calls choice name
secret_ends_calls choice None = refl
secret_ends_calls choice (Some name) = by choice.secret
  where
    by : (chosen : Bool) → secret_if chosen name ++ [] ≡ secret_if chosen name
    by true = refl
    by false = refl

-- it changes nothing
pub secret_keeps : (choice : Choice) (name : Option (List ℕ)) (tells : Bool) (names : List ℕ → Option (List ℕ)) → names ≡ held_after tells (secret_calls choice name) names
secret_keeps choice None tells names = refl
secret_keeps choice (Some name) tells names = by choice.secret
  where
    by : (chosen : Bool) → names ≡ held_after tells (secret_if chosen name) names
    by true = refl
    by false = refl

-- ---- what was called

module _ {I : Type 0} (status : Status) (before after : Environment I) where
  module _ (held : after.held ≡ before.held) where
    still : (name : List ℕ) → after.held name ≡ before.held name
    still name = ap (λ (now : List ℕ → Option (List ℕ)). now name) held

    -- none: the task makes no call
    pub none_called : (task : Option Task) (read : Result Picture Refusal) → calls_of task read ≡ [] → IsReadAs task before.held read
        → (MakesAll status → EndsAs task read status) → after.calls ≡ before.calls → FaultBy None status before.faults after.faults
        → Called task status before after
    none_called task read none is_read ends counted faults = record {
      calls = record {
        read = read;
        is_read = is_read;
        ends = ends;
        done = [];
        broken = None;
        rest = [];
        parts = sym none;
        counted = counted;
        all = λ all. sym none;
      };
      faults = faults;
      held = λ name failed. still name;
      unsaved = λ memory. held;
    }

    -- its file was loaded, and that is all
    pub load_called : (task : Task) (read : Result Picture Refusal) (name : List ℕ) → calls_of_task task read ≡ Load name ∷ []
        → IfSome (content_of task before.held) (λ content. content_read task content ≡ read) → (MakesAll status → EndsAs (Some task) read status)
        → after.calls ≡ next_count before.calls → FaultBy None status before.faults after.faults → Called (Some task) status before after
    load_called task read name only is_read ends counted faults = record {
      calls = record {
        read = read;
        is_read = other_way task (content_of task before.held) read is_read;
        ends = ends;
        done = Load name ∷ [];
        broken = None;
        rest = [];
        parts = sym only;
        counted = counted;
        all = λ all. sym only;
      };
      faults = faults;
      held = λ name failed. still name;
      unsaved = λ memory. held;
    }

    -- so were all of them, which change nothing
    pub loads_called : (task : Task) (read : Result Picture Refusal) (calls : List FileCall) → calls ++ [] ≡ calls_of_task task read → calls ≡ calls_of_task task read
        → ((tells : Bool) (names : List ℕ → Option (List ℕ)) → names ≡ held_after tells calls names)
        → IfSome (content_of task before.held) (λ content. content_read task content ≡ read) → (MakesAll status → EndsAs (Some task) read status)
        → after.calls ≡ counted_by calls before.calls → FaultBy None status before.faults after.faults → Called (Some task) status before after
    loads_called task read calls parts all keeps is_read ends counted faults = record {
      calls = record {
        read = read;
        is_read = other_way task (content_of task before.held) read is_read;
        ends = ends;
        done = calls;
        broken = None;
        rest = [];
        parts = parts;
        counted = counted;
        all = λ made. all;
      };
      faults = faults;
      held = λ name failed. still name ∙ ap (λ (now : List ℕ → Option (List ℕ)). now name) (keeps before.tells before.held);
      unsaved = λ memory. held;
    }

    -- the content is refused
    pub refused_called : (task : Task) (refusal : Refusal) → IfSome (content_of task before.held) (λ content. content_read task content ≡ Err refusal)
        → (MakesAll status → (status ≡ status_of_refusal refusal) ⊎ (status ≡ statuses.PutFailed)) → after.calls ≡ count_after_load task before.calls
        → FaultBy None status before.faults after.faults → Called (Some task) status before after
    refused_called task refusal is_read ends counted faults = record {
      calls = record {
        read = Err refusal;
        is_read = other_way task (content_of task before.held) (Err refusal) is_read;
        ends = ends;
        done = calls_of_task task (Err refusal);
        broken = None;
        rest = [];
        parts = refused_parts task refusal;
        counted = refused_counted task refusal before.calls after.calls counted;
        all = λ all. refl;
      };
      faults = faults;
      held = λ name failed. still name ∙ ap (λ (now : List ℕ → Option (List ℕ)). now name) (refused_held task refusal before.tells before.held);
      unsaved = λ memory. held;
    }

    -- a load behind these calls, which change nothing, failed, or memory ran out in it, where the content is read as this
    read_broken : (task : Task) (read : Result Picture Refusal) → IsReadAs (Some task) before.held read → (done : List FileCall) (name : List ℕ) (rest : List FileCall)
        → done ++ Load name ∷ rest ≡ calls_of_task task read
        → ((tells : Bool) (names : List ℕ → Option (List ℕ)) → names ≡ held_after tells done names) → (MakesAll status → ⊥)
        → after.calls ≡ next_count (counted_by done before.calls) → FaultBy (Some (Load name)) status before.faults after.faults → Called (Some task) status before after
    read_broken task read is_read done name rest parts keeps not_all counted faults = record {
      calls = record {
        read = read;
        is_read = is_read;
        ends = λ all. absurd (not_all all);
        done = done;
        broken = Some (Load name);
        rest = rest;
        parts = parts;
        counted = counted;
        all = λ all. absurd (not_all all);
      };
      faults = faults;
      held = λ name failed. still name ∙ ap (λ (now : List ℕ → Option (List ℕ)). now name) (keeps before.tells before.held);
      unsaved = λ memory. held;
    }

    pub load_broken : (task : Task) (done : List FileCall) (name : List ℕ) (rest : List FileCall)
        → done ++ Load name ∷ rest ≡ calls_of_task task (read_told task (content_of task before.held))
        → ((tells : Bool) (names : List ℕ → Option (List ℕ)) → names ≡ held_after tells done names) → (MakesAll status → ⊥)
        → after.calls ≡ next_count (counted_by done before.calls) → FaultBy (Some (Load name)) status before.faults after.faults → Called (Some task) status before after
    load_broken task = read_broken task (read_told task (content_of task before.held)) (told_is_read task (content_of task before.held))

    -- that of a secret file, behind that of an image which was taken
    pub secret_broken : (task : Task) (picture : Picture) → IfSome (content_of task before.held) (λ content. content_read task content ≡ Ok picture)
        → (image name : List ℕ) → Load image ∷ Load name ∷ [] ≡ calls_of_task task (Ok picture) → (MakesAll status → ⊥)
        → after.calls ≡ next_count (next_count before.calls) → FaultBy (Some (Load name)) status before.faults after.faults → Called (Some task) status before after
    secret_broken task picture taken image name parts =
        read_broken task (Ok picture) (other_way task (content_of task before.held) (Ok picture) taken) (Load image ∷ []) name [] parts (λ tells names. refl)

-- memory ran out behind these calls, which change nothing
pub unmade_called : {I : Type 0} (task : Task) (before after : Environment I) → after.held ≡ before.held → (done rest : List FileCall)
    → done ++ rest ≡ calls_of_task task (read_told task (content_of task before.held))
    → ((tells : Bool) (names : List ℕ → Option (List ℕ)) → names ≡ held_after tells done names)
    → after.calls ≡ counted_by done before.calls → NoFault before.faults after.faults → Called (Some task) statuses.Memory before after
unmade_called task before after held done rest parts keeps counted faults = record {
  calls = record {
    read = read_told task (content_of task before.held);
    is_read = told_is_read task (content_of task before.held);
    ends = λ all. absurd all;
    done = done;
    broken = None;
    rest = rest;
    parts = parts;
    counted = counted;
    all = λ all. absurd all;
  };
  faults = faults;
  held =
      λ name failed.
      still statuses.Memory before after held name ∙ ap (λ (names : List ℕ → Option (List ℕ)). names name) (keeps before.tells before.held);
  unsaved = λ memory. held;
}

-- memory ran out before any of them
pub unread_called : {I : Type 0} (task : Option Task) (before : Environment I) → Called task statuses.Memory before before
unread_called None before = none_called statuses.Memory before before refl None (Err refusals.BadWords) refl refl (λ all. absurd all) refl refl
unread_called (Some task) before =
    unmade_called task before before refl [] (calls_of_task task (read_told task (content_of task before.held))) refl (λ tells names. refl) refl refl

-- ---- an image that is made and saved

-- A task that loads files and saves the image that it makes of them under a name. Nothing else is due of it, and it leaves the input
-- alone.
pub record Saves {I : Type 0} (task : Task) (picture : Picture) (before after : Environment I) : Type 0 where
  pub loads : List FileCall
  pub name : List ℕ
  pub calls : loads ++ Save name (spelling picture) ∷ [] ≡ calls_of_task task (Ok picture)
  pub all_calls : (loads ++ Save name (spelling picture) ∷ []) ++ [] ≡ calls_of_task task (Ok picture)
  pub counted : (n : ℕ) → counted_by (loads ++ Save name (spelling picture) ∷ []) n ≡ next_count (counted_by loads n)
  -- the loads change nothing
  pub keeps : (tells : Bool) (names : List ℕ → Option (List ℕ)) → names ≡ held_after tells loads names
  pub keeps_save : (tells : Bool) (names : List ℕ → Option (List ℕ))
      → held_after tells (Save name (spelling picture) ∷ []) names ≡ held_after tells (loads ++ Save name (spelling picture) ∷ []) names
  pub done : EndsTaken (Some task) statuses.Done
  pub due : (content : ContentOf task) (input : Option (List ℕ)) → outcome_of_picture task content picture input ≡ Some outcome_of_saving
  pub session : (status : Status) → SessionFacts task status before after
  pub unread : (status : Status) → ReadsAll task status → ⊥

module _ {I : Type 0} (picture : Picture) (before after : Environment I) where
  -- `asm` and `migrate` load one file
  abbrev pub save_saves : (task : SaveTask) → Saves (save task) picture before after
  save_saves task = record {
    loads = Load task.source ∷ [];
    name = task.image;
    calls = refl;
    all_calls = refl;
    counted = λ n. refl;
    keeps = λ tells names. refl;
    keeps_save = λ tells names. refl;
    done = refl;
    due = λ content input. refl;
    session = λ status. tt;
    unread = λ status all. all;
  }

  -- and `elf` two
  abbrev pub elf_saves : (task : ElfTask) → Saves (elf task) picture before after
  elf_saves task = record {
    loads = Load task.elf ∷ Load task.tags ∷ [];
    name = task.image;
    calls = refl;
    all_calls = refl;
    counted = λ n. refl;
    keeps = λ tells names. refl;
    keeps_save = λ tells names. refl;
    done = refl;
    due = λ content input. refl;
    session = λ status. tt;
    unread = λ status all. all;
  }

module _ {I : Type 0} (task : Task) (picture : Picture) (before after : Environment I) (saves : Saves task picture before after)
    (taken : IfSome (content_of task before.held) (λ content. content_read task content ≡ Ok picture)) where
  abbrev the_save : FileCall
  the_save = Save saves.name (spelling picture)

  -- the saved name has the file, and every other what it had
  holds : after.held saves.name ≡ then_some before.tells (spelling picture) → ((other : List ℕ) → other ≢ saves.name → after.held other ≡ before.held other)
      → (name : List ℕ) (same : Bool) → bytes_eq name saves.name ≡ same
      → after.held name ≡ (if same then then_some before.tells (spelling picture) else before.held name)
  holds file others name true is = ap after.held ((bytes_eq-Decides name saves.name).0 is) ∙ file
  holds file others name false is =
      others name (λ same. let h : true ≡ false = sym ((bytes_eq-Decides name saves.name).1 same) ∙ is in cc)

  -- no name has changed but by the loads, which change none
  kept : (name : List ℕ) → after.held name ≡ before.held name → after.held name ≡ held_after before.tells saves.loads before.held name
  kept name same = same ∙ ap (λ (names : List ℕ → Option (List ℕ)). names name) (saves.keeps before.tells before.held)

  -- it was saved
  pub save_called : after.held saves.name ≡ then_some before.tells (spelling picture)
      → ((other : List ℕ) → other ≢ saves.name → after.held other ≡ before.held other)
      → after.calls ≡ next_count (counted_by saves.loads before.calls) → NoFault before.faults after.faults → Called (Some task) statuses.Done before after
  save_called file others counted faults = record {
    calls = record {
      read = Ok picture;
      is_read = other_way task (content_of task before.held) (Ok picture) taken;
      ends = λ all. saves.done;
      done = saves.loads ++ the_save ∷ [];
      broken = None;
      rest = [];
      parts = saves.all_calls;
      counted = counted ∙ sym (saves.counted before.calls);
      all = λ all. saves.calls;
    };
    faults = faults;
    held =
        λ name failed.
        holds file others name (bytes_eq name saves.name) refl
        ∙ ap (λ (names : List ℕ → Option (List ℕ)). names name) (saves.keeps_save before.tells before.held);
    unsaved = λ memory. absurd (let h : statuses.Done ≡ statuses.Memory = memory in cc);
  }

  -- the calls where it was not
  abbrev unsaved_calls : (status : Status) (broken : Option FileCall) (rest : List FileCall) → with_call broken rest ≡ the_save ∷ [] → (MakesAll status → ⊥)
      → after.calls ≡ counted_by (with_call broken []) (counted_by saves.loads before.calls) → CallsMade (Some task) status before after
  unsaved_calls status broken rest is not_all counted = record {
    read = Ok picture;
    is_read = other_way task (content_of task before.held) (Ok picture) taken;
    ends = λ all. absurd (not_all all);
    done = saves.loads;
    broken = broken;
    rest = rest;
    parts = ap (λ (calls : List FileCall). saves.loads ++ calls) is ∙ saves.calls;
    counted = counted;
    all = λ all. absurd (not_all all);
  }

  -- that failed
  pub save_failed : ((other : List ℕ) → other ≢ saves.name → after.held other ≡ before.held other)
      → after.calls ≡ next_count (counted_by saves.loads before.calls)
      → WriteFault saves.name before.faults after.faults → Called (Some task) statuses.WriteFailed before after
  save_failed others counted faults = record {
    calls = unsaved_calls statuses.WriteFailed (Some the_save) [] refl (λ all. all) counted;
    faults = faults;
    held = λ name left. kept name (others name left);
    unsaved = λ memory. absurd (let h : statuses.WriteFailed ≡ statuses.Memory = memory in cc);
  }

  -- memory ran out before the save, or in it
  pub save_unmade : after.held ≡ before.held → AtMost 1 (counted_by saves.loads before.calls) after.calls → NoFault before.faults after.faults
      → Called (Some task) statuses.Memory before after
  save_unmade held (inl counted) faults = record {
    calls = unsaved_calls statuses.Memory None (the_save ∷ []) refl (λ all. all) counted;
    faults = faults;
    held = λ name failed. kept name (still statuses.Memory before after held name);
    unsaved = λ memory. held;
  }
  save_unmade held (inr counted) faults = record {
    calls = unsaved_calls statuses.Memory (Some the_save) [] refl (λ all. all) counted;
    faults = faults;
    held = λ name failed. kept name (still statuses.Memory before after held name);
    unsaved = λ memory. held;
  }
