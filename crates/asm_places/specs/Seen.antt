-- What the lines before a line have already, and the line may not have again.
use Rattle.std.specs.Prelude.{◌≡◌, ℕ, ℤ, Bool, true, false, List, is_some, Option, Some, None}
use Rattle.std.specs.BTreeSet.{contains}
use Rattle.std.specs.FinMap as map
use Rattle.std.specs.List.{list_any}
use Rattle.std.specs.Ordering.{int_cmp, int_eq}
use Rattle.std.specs.Str.{bytes_eq}
use Rattle.asm_read.specs.declared.statements.Line.{Line}
use Rattle.asm_read.specs.declared.statements.Statement.{Statement}
use Rattle.asm_read.specs.declared.statements.Statement.TheVariants as statements
use Rattle.asm_places.specs.declared.seen.Seen.{Seen}
use Rattle.asm_places.specs.Sizes.{harts_in, ram_in, version_in}

-- the label is this name
abbrev pub is_label : List ℕ → Option (List ℕ) → Bool
is_label name None = false
is_label name (Some label) = bytes_eq name label

-- some line before gives the name a place
abbrev pub is_named : Option (List ℕ) → List Line → Bool
is_named None before = false
is_named (Some name) before = list_any (λ line. is_label name line.label) before

-- a `.heap`
abbrev pub sets_heap : Option Statement → Bool
sets_heap (Some (statements.Heap base bytes)) = true
sets_heap _ = false

-- a `.entry` of this hart, by the number as written
abbrev pub enters : ℤ → Option Statement → Bool
enters hart (Some (statements.Entry other target)) = int_eq hart other
enters hart _ = false

-- some line before has such a statement
abbrev pub some_before : (Option Statement → Bool) → List Line → Bool
some_before test before = list_any (λ line. test line.statement) before

-- a second `.version`, `.harts`, `.ram` or `.heap`, or a second `.entry` of the same hart
abbrev pub is_again : Option Statement → List Line → Bool
is_again (Some (statements.Version number)) before = some_before (λ s. is_some (version_in s)) before
is_again (Some (statements.Harts number)) before = some_before (λ s. is_some (harts_in s)) before
is_again (Some (statements.Ram number)) before = some_before (λ s. is_some (ram_in s)) before
is_again (Some (statements.Heap base bytes)) before = some_before sets_heap before
is_again (Some (statements.Entry hart target)) before = some_before (enters hart) before
is_again _ before = false

-- what was noted is what the lines before have
pub record IsSeen (seen : Seen) (before : List Line) : Type 0 where
  pub version : seen.version ≡ some_before (λ s. is_some (version_in s)) before
  pub harts : seen.harts ≡ some_before (λ s. is_some (harts_in s)) before
  pub ram : seen.ram ≡ some_before (λ s. is_some (ram_in s)) before
  pub heap : seen.heap ≡ some_before sets_heap before
  pub entries : (hart : ℤ) → contains int_cmp seen.entries hart ≡ some_before (enters hart) before
  pub names : (name : List ℕ) → is_some (map.get seen.names name) ≡ is_named (Some name) before
