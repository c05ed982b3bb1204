-- Where the lines of a source lie: the place of each, and the place behind the last.
use Rattle.std.specs.Prelude.{◌≡◌, ℕ, ◌+◌, ◌*◌, ◌%◌, ◌≤◌, ℤ, pos, Bool, false, not, nat_le, ◌&&◌, List, [], ◌∷◌, ◌++◌, int_lt, Option, Some, None, Result, Ok, if◌then◌else◌}
use Rattle.std.specs.Option.{ok_or}
use Rattle.image_format.specs.Conditions.{is_aligned}
use Rattle.asm_read.specs.declared.errors.AsmError.{AsmError}
use Rattle.asm_read.specs.declared.errors.AsmErrorKind.{AsmErrorKind}
use Rattle.asm_read.specs.declared.errors.AsmErrorKind.TheVariants as kinds
use Rattle.asm_read.specs.declared.statements.Line.{Line}
use Rattle.asm_read.specs.declared.statements.Statement.{Statement}
use Rattle.asm_read.specs.declared.statements.Statement.TheVariants as statements
use Rattle.asm_read.specs.Source.{at_line}
use Rattle.shared_terms.specs.Steps.{◌>>=◌, demand}
use Rattle.asm_places.specs.Counts.{count_in}
use Rattle.asm_places.specs.Seen.{is_again, is_named}
use Rattle.asm_places.specs.Sizes.{natural_where}

-- the place that an `.org` asks for
abbrev pub origin_in : Option Statement → Option ℤ
origin_in (Some (statements.Origin number)) = Some number
origin_in _ = None

-- a number is asked for, and it lies below the place
abbrev pub is_below : ℕ → Option ℤ → Bool
is_below place None = false
is_below place (Some number) = int_lt number (pos place)

-- an `.org` asks for a place below the one reached
abbrev pub goes_back : ℕ → Option Statement → Bool
goes_back place statement = is_below place (origin_in statement)

-- a multiple of 4 in the RAM, or its end
abbrev pub is_reached : ℕ → ℕ → Bool
is_reached ram place = is_aligned place && nat_le place ram

-- the place behind so many words, which lie in the RAM
abbrev pub place_past : ℕ → ℕ → Option ℕ → Option ℕ
place_past ram place None = None
place_past ram place (Some words) = if nat_le (place + 4 * words) ram then Some (place + 4 * words) else None

-- the place that an `.org` asks for, or else the one behind the words
abbrev pub place_after_line : ℕ → ℕ → Option ℤ → Option ℕ → Option ℕ
place_after_line ram place (Some number) words = natural_where (is_reached ram) number
place_after_line ram place None words = place_past ram place words

-- the place behind a statement that begins at a place
abbrev pub place_behind : ℕ → ℕ → Option Statement → Result ℕ AsmErrorKind
place_behind ram place statement = ok_or (place_after_line ram place (origin_in statement) (count_in statement)) kinds.Range

-- the place behind a line that begins at a place, with the lines before it
unfoldable pub next_place : ℕ → List Line → ℕ → Line → Result ℕ AsmErrorKind
next_place ram before place line = do
  new ← demand (not (is_named line.label before)) kinds.Duplicate
  once ← demand (not (is_again line.statement before)) kinds.Order
  onward ← demand (not (goes_back place line.statement)) kinds.Order
  place_behind ram place line.statement

-- the place of each line, and the one behind the last, from a place on, with the lines before
unfoldable pub places_from : ℕ → List Line → ℕ → List Line → Result (List ℕ × ℕ) AsmError
places_from ram before place [] = Ok ([], place)
places_from ram before place (line ∷ lines) = do
  behind ← at_line line.number (next_place ram before place line)
  others ← places_from ram (before ++ line ∷ []) behind lines
  Ok (place ∷ others.0, others.1)

-- a multiple of 4 in the RAM, or its end
pub record IsReached (ram place : ℕ) : Type 0 where
  pub aligned : place % 4 ≡ 0
  pub inside : place ≤ ram
