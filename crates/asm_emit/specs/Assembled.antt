-- The image of a source, or its first error.
use Rattle.std.specs.Prelude.{ℕ, List, [], ◌∷◌, Result, Ok}
use Rattle.image_format.specs.declared.version.Version.{Version}
use Rattle.image_format.specs.Picture.{Picture}
use Rattle.asm_read.specs.declared.errors.AsmError.{AsmError}
use Rattle.asm_read.specs.declared.statements.Line.{Line}
use Rattle.asm_read.specs.Source.{at_line, source_of}
use Rattle.shared_terms.specs.Steps.{◌>>=◌, result_view}
use Rattle.asm_words.specs.Emission.{Places}
use Rattle.asm_places.specs.Layouts.{Layout, layout_of}
use Rattle.asm_places.specs.Names.{place_of_name}
use Rattle.asm_emit.specs.declared.values.Addition.{Addition}
use Rattle.asm_emit.specs.Draft.{Draft, empty_draft, picture_of, with_additions}
use Rattle.asm_emit.specs.Values.{addition_in}

-- what each line adds at its place, or the first error of one
unfoldable pub additions_of : Version → ℕ → ℕ → Places → List Line → List ℕ → Result (List (ℕ × Addition)) AsmError
additions_of version harts ram names (line ∷ lines) (place ∷ places) = do
  addition ← at_line line.number (addition_in version harts ram names place line.statement)
  more ← additions_of version harts ram names lines places
  Ok ((place, addition) ∷ more)
additions_of version harts ram names lines places = Ok []

-- the draft that what the lines add makes of a draft
abbrev pub draft_with : Draft → Result (List (ℕ × Addition)) AsmError → Result Draft AsmError
draft_with draft additions = result_view (with_additions draft) additions

-- the image of lines that stand at their places
unfoldable pub picture_at : List Line → Layout → Result Picture AsmError
picture_at lines layout = do
  additions ← additions_of layout.version layout.harts layout.ram (place_of_name lines layout.places layout.end) lines layout.places
  Ok (picture_of layout.ram (with_additions (empty_draft layout.version layout.harts) additions))

-- version, sizes and places first, and then by line what each one adds
unfoldable pub picture_of_lines : List Line → Result Picture AsmError
picture_of_lines lines = do
  layout ← layout_of lines
  picture_at lines layout

-- the image of a source, or its first error: that of reading, or else that of assembling
unfoldable pub image_of_source : List ℕ → Result Picture AsmError
image_of_source source = do
  lines ← source_of source
  picture_of_lines lines
