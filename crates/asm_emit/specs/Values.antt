-- What a line adds to an image, or what is wrong with the numbers that it gives: a name without a place, or else a range.
use Rattle.std.specs.Prelude.{ℕ, ◌-◌, ◌^◌, ℤ, pos, negsuc, ◌&&◌, nat_le, Option, Some, None, Result, Ok, Err, if◌then◌else◌}
use Rattle.image_format.specs.declared.version.Version.{Version}
use Rattle.image_format.specs.Conditions.{compartment_limit, is_heap_base, is_heap_bytes, is_mask, is_place}
use Rattle.asm_read.specs.declared.errors.AsmErrorKind.{AsmErrorKind}
use Rattle.asm_read.specs.declared.errors.AsmErrorKind.TheVariants as kinds
use Rattle.asm_read.specs.declared.statements.Statement.{Statement}
use Rattle.asm_read.specs.declared.statements.Statement.TheVariants as statements
use Rattle.asm_read.specs.declared.statements.Target.{Target}
use Rattle.shared_terms.specs.Steps.{◌>>=◌, demand}
use Rattle.asm_words.specs.Emission.{Places, address_of, emission_of}
use Rattle.asm_emit.specs.declared.values.Addition.{Addition}
use Rattle.asm_emit.specs.declared.values.Addition.TheVariants.{Nothing, Words, Heap, Entry, Code, Data, Label, Edge, Compartment}

-- a number from 0 to `most`
abbrev pub number_within : ℕ → ℤ → Result ℕ AsmErrorKind
number_within most (pos n) = if nat_le n most then Ok n else Err kinds.Range
number_within most (negsuc n) = Err kinds.Range

-- an id: what four bytes hold
abbrev pub id_at : ℤ → Result ℕ AsmErrorKind
id_at n = number_within (2 ^ 32 - 1) n

-- `.heap B, N`
unfoldable pub heap_at : ℕ → ℤ → ℤ → Result Addition AsmErrorKind
heap_at ram base bytes = do
  b ← id_at base
  n ← id_at bytes
  fits ← demand (is_heap_base ram b && is_heap_bytes ram b n) kinds.Range
  Ok (Heap b n)

-- `.entry H, T`: one of the harts, and the place of a word
unfoldable pub entry_at : ℕ → ℕ → Places → ℤ → Target → Result Addition AsmErrorKind
entry_at harts ram places hart target = do
  address ← address_of places target
  h ← number_within (harts - 1) hart
  fits ← demand (is_place ram address) kinds.Range
  Ok (Entry h address)

-- `.label ID`
unfoldable pub label_at : ℤ → Result Addition AsmErrorKind
label_at id = do
  n ← id_at id
  Ok (Label n)

-- `.edge S, D`
unfoldable pub edge_at : ℤ → ℤ → Result Addition AsmErrorKind
edge_at source target = do
  s ← id_at source
  d ← id_at target
  Ok (Edge s d)

-- a set of compartments that an image of the version may have
abbrev pub mask_within : Version → Option ℕ → Result ℕ AsmErrorKind
mask_within version (Some mask) = if is_mask version mask then Ok mask else Err kinds.Range
mask_within version None = Err kinds.Range

-- `.comp O, I, W`: one of the compartments that an image of the version may have, and two sets of them
unfoldable pub compartment_at : Version → ℤ → Option ℕ → Option ℕ → Result Addition AsmErrorKind
compartment_at version owner into write = do
  o ← number_within (compartment_limit version - 1) owner
  i ← mask_within version into
  w ← mask_within version write
  Ok (Compartment (record { owner = o; into = i; write = w }))

-- words, of which a directive may emit none
unfoldable pub words_at : Places → ℕ → Statement → Result Addition AsmErrorKind
words_at places place statement = do
  emission ← emission_of places place statement
  Ok (Words emission)

-- what a statement at a place adds
unfoldable pub addition_of : Version → ℕ → ℕ → Places → ℕ → Statement → Result Addition AsmErrorKind
addition_of version harts ram places place (statements.Heap base bytes) = heap_at ram base bytes
addition_of version harts ram places place (statements.Entry hart target) = entry_at harts ram places hart target
addition_of version harts ram places place statements.Text = Ok Code
addition_of version harts ram places place statements.Data = Ok Data
addition_of version harts ram places place (statements.Label id) = label_at id
addition_of version harts ram places place (statements.Edge source target) = edge_at source target
addition_of version harts ram places place (statements.Compartment owner into write) = compartment_at version owner into write
addition_of version harts ram places place statement = words_at places place statement

-- a line without a statement adds nothing
abbrev pub addition_in : Version → ℕ → ℕ → Places → ℕ → Option Statement → Result Addition AsmErrorKind
addition_in version harts ram places place None = Ok Nothing
addition_in version harts ram places place (Some statement) = addition_of version harts ram places place statement
