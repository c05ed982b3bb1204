-- Counts of faults, and which answers raise them.
use Rattle.std.specs.Prelude.{◌≡◌, ℕ, ◌≤◌, List, Result, Ok, Err}
use Rattle.shared_terms.specs.Counts.{next_count}
use Rattle.host_io.specs.declared.traits.sink.PutEnd.{PutEnd}
use Rattle.host_io.specs.declared.traits.sink.PutEnd.TheVariants as put_end
use Rattle.host_io.specs.declared.traits.files.LoadFile.{LoadFile}
use Rattle.host_io.specs.declared.traits.files.LoadFile.TheVariants as load_file
use Rattle.host_io.specs.declared.traits.files.SaveFile.{SaveFile}
use Rattle.host_io.specs.declared.traits.files.SaveFile.TheVariants as save_file
use Rattle.host_io.specs.declared.traits.source.Failed.{Failed}
use Rattle.host_io.specs.declared.whole_input.ReadEnd.{ReadEnd}
use Rattle.host_io.specs.declared.whole_input.ReadEnd.TheVariants as read_end

-- A count did not fall, and it rose unless it stands still.
pub record Rose (before now : ℕ) : Type 0 where
  pub kept : before ≤ now
  pub raised : next_count before ≤ now

-- A sink's count rises where a put failed, and every other answer leaves it.
abbrev pub PutCause : {T : Type 0} → ℕ → ℕ → Result T PutEnd → Type 0
PutCause before now (Ok _) = now ≡ before
PutCause before now (Err put_end.Failed) = Rose before now
PutCause before now (Err put_end.Memory) = now ≡ before

-- A source's count rises where a read failed, and every other answer leaves it.
abbrev pub ReadCause : {T : Type 0} → ℕ → ℕ → Result T Failed → Type 0
ReadCause before now (Ok _) = now ≡ before
ReadCause before now (Err _) = Rose before now

-- The same of a source that is to be read to its end.
abbrev pub ReadToEndCause : {T : Type 0} → ℕ → ℕ → Result T ReadEnd → Type 0
ReadToEndCause before now (Ok _) = now ≡ before
ReadToEndCause before now (Err read_end.Failed) = Rose before now
ReadToEndCause before now (Err read_end.TooLong) = now ≡ before
ReadToEndCause before now (Err read_end.Memory) = now ≡ before

-- The count of a name's faults rose, and no name's fell.
pub record RoseAt (before now : List ℕ → ℕ) (name : List ℕ) : Type 0 where
  pub own : Rose (before name) (now name)
  pub others : (other : List ℕ) → before other ≤ now other

-- The count of the name's faults rises where a load failed, and every other answer leaves all
-- counts.
abbrev pub LoadCause : {T : Type 0} →
    (List ℕ → ℕ) → (List ℕ → ℕ) → List ℕ → Result T LoadFile → Type 0
LoadCause before now name (Ok _) = now ≡ before
LoadCause before now name (Err load_file.Failed) = RoseAt before now name
LoadCause before now name (Err load_file.TooLong) = now ≡ before
LoadCause before now name (Err load_file.Memory) = now ≡ before

-- The same of a save.
abbrev pub SaveCause : {T : Type 0} →
    (List ℕ → ℕ) → (List ℕ → ℕ) → List ℕ → Result T SaveFile → Type 0
SaveCause before now name (Ok _) = now ≡ before
SaveCause before now name (Err save_file.Failed) = RoseAt before now name
SaveCause before now name (Err save_file.Memory) = now ≡ before
