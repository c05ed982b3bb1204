-- What an image says of the word at an address.
use Rattle.std.specs.Prelude.{ℕ, ◌+◌, ◌*◌, ◌==◌, nat_le, nat_lt, Bool, ◌&&◌, Option, Some, None}
use Rattle.std.specs.List.{find}
use Rattle.std.specs.Option.{is_some}
use Rattle.image_format.specs.Picture.{CompartmentRow, Picture}
use Rattle.image_format.specs.declared.rows.Label.{Label}
use Rattle.image_format.specs.declared.rows.WordRange.{WordRange}
use Rattle.policy_trait.specs.Sets.{set_of}
use Rattle.policy_trait.specs.declared.birth.Birth.{Birth}

abbrev pub lies_in : ℕ → WordRange → Bool
lies_in address range = nat_le range.address address && nat_lt address (range.address + 4 * range.words)

abbrev pub is_owned_by : ℕ → CompartmentRow → Bool
is_owned_by address row = lies_in address row.range

abbrev pub is_labelled_by : ℕ → Label → Bool
is_labelled_by address label = label.address == address

abbrev pub lies_in_heap : Picture → ℕ → Bool
lies_in_heap g address = nat_le g.heap_base address && nat_lt address (g.heap_base + g.heap_bytes)

abbrev pub id_of : Option Label → Option ℕ
id_of None = None
id_of (Some label) = Some label.id

-- the compartment's row decides owner and masks; outside the rows these are 0
abbrev pub birth_by : Option CompartmentRow → Bool → Option ℕ → Bool → Birth
birth_by None code label heap = record { owner = 0; into = set_of 0; write = set_of 0; code = code; label = label; heap = heap }
birth_by (Some row) code label heap = record { owner = row.owner; into = set_of row.into; write = set_of row.write; code = code; label = label; heap = heap }

unfoldable pub birth_of : Picture → ℕ → Birth
birth_of g address =
    birth_by (find (is_owned_by address) g.compartments) (is_some (find (lies_in address) g.code)) (id_of (find (is_labelled_by address) g.labels)) (lies_in_heap g address)
