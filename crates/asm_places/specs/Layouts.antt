-- The version and the sizes that a source asks for, and where its lines lie.
use Rattle.std.specs.Prelude.{ℕ, List, [], Result, Ok}
use Rattle.image_format.specs.declared.version.Version.{Version}
use Rattle.asm_read.specs.declared.errors.AsmError.{AsmError}
use Rattle.asm_read.specs.declared.statements.Line.{Line}
use Rattle.shared_terms.specs.Steps.{◌>>=◌}
use Rattle.asm_places.specs.declared.layout.Layout as declared
use Rattle.asm_places.specs.Places.{places_from}
use Rattle.asm_places.specs.Sizes.{harts_of, ram_of, version_of}

-- the version of the image's file, the harts, the bytes of RAM, the place of each line, and the place reached at the end
pub record Layout : Type 0 where
  pub version : Version
  pub harts : ℕ
  pub ram : ℕ
  pub places : List ℕ
  pub end : ℕ

-- the version is looked at before the harts, these before the RAM, and all three before any line is placed
unfoldable pub layout_of : List Line → Result Layout AsmError
layout_of lines = do
  version ← version_of lines
  harts ← harts_of lines
  ram ← ram_of lines
  placed ← places_from ram [] 0 lines
  Ok (record { version = version; harts = harts; ram = ram; places = placed.0; end = placed.1 })

-- the layout that the code has
abbrev pub layout_seen : declared.Layout → Layout
layout_seen layout = record { version = layout.version; harts = layout.harts; ram = layout.ram; places = layout.places.items; end = layout.end }
