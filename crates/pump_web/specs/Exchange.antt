-- A reply as bytes, and what is left in the room for them.
use Rattle.std.specs.Prelude.{◌≡◌, ◌≢◌, ℕ, ◌<◌, ◌≤◌, List, [], ◌++◌, length, take, drop, unwrap_or, IfSome, IsSome}
use Rattle.std.specs.Int.{to_le_bytes, w64}
use Rattle.std.specs.Str.{IsUtf8}
use Rattle.pump_cli.specs.Codes.{code_of}
use Rattle.pump_cli.specs.declared.status.Status.{Status}
use Rattle.pump_cli.specs.declared.status.Status.TheVariants.{Memory}
use Rattle.pump_web.specs.Replies.{TellsAll, TellsFirst, due_of, saved_image}

-- a number as eight bytes, the lowest first
abbrev pub number : ℕ → List ℕ
number n = to_le_bytes w64 n

-- the number of the status, and how many bytes standard output, standard error and the image have
abbrev pub head_spelling : Status → List ℕ → List ℕ → List ℕ → List ℕ
head_spelling status out err image = number (code_of status) ++ number (length out) ++ number (length err) ++ number (length image)

-- and then these bytes
unfoldable pub reply_spelling : Status → List ℕ → List ℕ → List ℕ → List ℕ
reply_spelling status out err image = head_spelling status out err image ++ out ++ err ++ image

-- the text of these bytes: where they are no text, the empty one, which asks for nothing
pub record IsTextOf (bytes text : List ℕ) : Type 0 where
  pub same : IsUtf8 bytes → text ≡ bytes
  pub empty : ¬ IsUtf8 bytes → text ≡ []

-- these bytes are those of a reply to the line
pub record RepliesTo (line file input bytes : List ℕ) : Type 0 where
  pub status : Status
  pub out : List ℕ
  pub err : List ℕ
  pub image : List ℕ
  pub bytes_are : bytes ≡ reply_spelling status out err image
  -- something is due: unless memory ran out, all of it was told, and in any case the first of it
  pub told : IsSome (due_of line file input)
  pub due : status ≢ Memory → IfSome (due_of line file input) (λ outcome. TellsAll outcome out err status)
  pub prefix : IfSome (due_of line file input) (λ outcome. TellsFirst outcome out err)
  -- and the image is what is to be saved, if something is, or nothing where memory ran out
  pub saved : status ≢ Memory → image ≡ unwrap_or (saved_image line file) []
  pub unsaved : status ≡ Memory → image ≡ []

-- so many bytes are those of a reply, and stand at the head of the room if they fit
pub record IsAnswered (line file input : List ℕ) (count : ℕ) (old new : List ℕ) : Type 0 where
  pub text : List ℕ
  pub is_text : IsTextOf line text
  pub bytes : List ℕ
  pub replies : RepliesTo text file input bytes
  pub counted : count ≡ length bytes
  pub filled : count ≤ length old → take count new ≡ bytes
  pub behind : count ≤ length old → drop count new ≡ drop count old
  pub unfit : length old < count → new ≡ old
