-- A walk through the lists of an image: what it leaves behind, and how far it sees.
use Rattle.std.specs.Prelude.{ℕ, ◌+◌, ◌*◌, ◌^◌, nat_lt, min, if◌then◌else◌}
use Rattle.std.specs.Int.{div_ceil}
use Rattle.image_format.specs.Picture.{Picture}
use Rattle.tag_loader.specs.Sorted.{first_end, label_first, label_past, owned_first, owned_past, range_first, range_past, rows_past}

-- the image without the rows that end before the address or at it
unfoldable pub from_on : Picture → ℕ → Picture
from_on g address = record g {
  compartments = rows_past owned_past address g.compartments;
  code = rows_past range_past address g.code;
  labels = rows_past label_past address g.labels;
}

-- where the heap region next begins or ends
abbrev pub heap_end : Picture → ℕ → ℕ
heap_end g address =
    if nat_lt address g.heap_base then g.heap_base else (if nat_lt address (g.heap_base + g.heap_bytes) then g.heap_base + g.heap_bytes else 2 ^ 32)

-- where the first row of some list or the heap region next begins or ends
unfoldable pub birth_end : Picture → ℕ → ℕ
birth_end g address =
    let owned = first_end owned_first owned_past address g.compartments in
    let code = first_end range_first range_past address g.code in
    let labelled = first_end label_first label_past address g.labels in
    min (min (min owned code) labelled) (heap_end g address)

-- the number of the first word behind those from word n on of which the image says the same: at most that of memory's words
unfoldable pub words_end : Picture → ℕ → ℕ
words_end g n = div_ceil (min (birth_end (from_on g (4 * n)) (4 * n)) g.ram) 4
