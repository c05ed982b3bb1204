-- What `elf` saves of an ELF file and a tag file: the image whose start has, at each address, the byte that the ELF file puts there.
use Rattle.std.specs.Prelude.{◌≡◌, ℕ, ◌<◌, [], ◌∷◌, Result, Ok, Err}
use Rattle.elf_image.specs.Conditions.{segments_of}
use Rattle.elf_image.specs.Loaded.{byte_at, loaded_picture}
use Rattle.elf_image.specs.Tags.{tags_of}
use Rattle.image_format.specs.Picture.{Picture}
use Rattle.image_format.specs.Reading.{image_of}
use Rattle.image_format.specs.Spelling.{spelling}
use Rattle.pump_words.specs.Words.{byte_at as byte_in_word}
use Rattle.tag_memory.specs.Ram.{ram_word}
use Rattle.policy_choice.specs.All.{all, choice_state}
use Rattle.policy_choice.specs.declared.basis.Basis.{Basis}
use Rattle.tag_loader.specs.Start.{start_machine}
use Rattle.pump_line.specs.Request.{ElfTask}
use Rattle.pump_line.specs.Task.{elf}
use Rattle.pump_cli.specs.Calls.{Load, Save, calls_of_task}
use Rattle.pump_cli.specs.Reading.{ElfFiles, content_read}

-- the byte that the memory of an image has at an address at the start, under a choice of policies
abbrev pub start_byte : Basis → Picture → ℕ → ℕ
start_byte basis g address = byte_in_word (ram_word (start_machine all (choice_state basis g) g).core.ram address) address

-- there is a result, and this holds of it
abbrev pub OkWith : {A E : Type 0} → Result A E → (A → Type 0) → Type 0
OkWith (Ok x) Holds = Holds x
OkWith (Err error) Holds = ⊥

-- the task loads files that hold these bytes, of which the image is made
pub record SavesElf (task : ElfTask) (files : ElfFiles) (g : Picture) : Type 0 where
  -- the image of the tag file
  pub tags : Picture
  pub is_tags : tags_of files.tags ≡ Ok tags
  -- The ELF file has loadable segments, none of which meets another or ends behind the RAM. What they put where is the image's memory and
  -- code, and the ELF file's entry is that of hart 0; all else is the tag file's.
  pub image : OkWith (segments_of files.elf tags.ram) (λ segments. g ≡ loaded_picture files.elf tags segments)
  -- the calls that it makes: what it saves is the one spelling of that image, which is read back as that
  pub calls : calls_of_task (elf task) (content_read (elf task) files) ≡ Load task.elf ∷ Load task.tags ∷ Save task.image (spelling g) ∷ []
  pub read : image_of (spelling g) ≡ Ok g
  -- under each choice of policies its start has at each address the byte that the segments put there, or 0 where none lies
  pub bytes : OkWith (segments_of files.elf tags.ram) (λ segments.
      (basis : Basis) (address : ℕ) → address < g.ram → start_byte basis g address ≡ byte_at files.elf segments address)
