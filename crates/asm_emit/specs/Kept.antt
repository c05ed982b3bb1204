-- What is kept while an image is built: its rows are in order, and end where its words do.
use Rattle.std.specs.Prelude.{◌≡◌, ℕ, ◌+◌, ◌*◌, ◌%◌, ◌^◌, ◌<◌, ◌≤◌, IsTrue, nat_le, Bool, true, ◌&&◌, List, [], ◌∷◌, length, Option, Some, None}
use Rattle.std.specs.List.{list_all}
use Rattle.std.specs.Option.{unwrap_or}
use Rattle.image_format.specs.declared.version.Version.{Version}
use Rattle.image_format.specs.declared.rows.Label.{Label}
use Rattle.image_format.specs.Picture.{CompartmentRow}
use Rattle.image_format.specs.Conditions.{are_rows, extent_of, is_clear_of, is_compartment, is_compartment_after, is_heap_base, is_heap_bytes, is_label, is_label_after, is_mask, is_owner, is_place, is_range, is_segment, is_u32, whole}
use Rattle.asm_read.specs.declared.statements.Line.{Line}
use Rattle.asm_words.specs.Emission.{words_of}
use Rattle.asm_places.specs.Counts.{count_in}
use Rattle.asm_words.specs.EmissionLaws.{Fits}
use Rattle.asm_emit.specs.declared.marks.Protection.{Protection}
use Rattle.asm_emit.specs.declared.values.Addition.{Addition}
use Rattle.asm_emit.specs.declared.values.Addition.TheVariants.{Nothing, Words, Heap, Entry, Code, Data, Edge, Compartment}
use Rattle.asm_emit.specs.declared.values.Addition.TheVariants as additions
use Rattle.asm_emit.specs.Draft.{Draft}
use Rattle.asm_emit.specs.Runs.{range_end}

-- ---- the draft

-- rows in order that end at a place or below it, and no more of them than there are words below it
pub record AreUpTo {A B : Type 0} (part : B → A) (fits : B → Bool) (follows : A → A → Bool) (end : A → ℕ) (place : ℕ) (rows : List B) : Type 0 where
  pub in_order : IsTrue (are_rows part fits follows None rows)
  pub below : IsTrue (list_all (λ row. nat_le (end (part row)) place) rows)
  pub few : 4 * length rows ≤ place

-- where the labelled word ends
abbrev pub label_end : Label → ℕ
label_end label = label.address + 4

-- the address behind the last word of the row
abbrev pub compartment_end : CompartmentRow → ℕ
compartment_end row = range_end row.range

-- one of the compartments that an image of the version may have, and two sets of them
abbrev pub is_protection : Version → Protection → Bool
is_protection version protection = is_owner version protection.owner && is_mask version protection.into && is_mask version protection.write

-- the marks of the next word have an owner and sets that an image of the draft's version may have
abbrev pub IsProtected : Draft → Type 0
IsProtected draft = IsTrue (is_protection draft.version draft.marks.protection)

-- no label, or an id of four bytes
abbrev pub is_label_id : Option ℕ → Bool
is_label_id None = true
is_label_id (Some id) = is_u32 id

-- what an image of so many bytes of RAM may have, up to a place
pub record IsDraft (ram place : ℕ) (draft : Draft) : Type 0 where
  pub heap_base : IsTrue (is_heap_base ram draft.heap_base)
  pub heap_bytes : IsTrue (is_heap_bytes ram draft.heap_base draft.heap_bytes)
  pub entries : IsTrue (list_all (is_place ram) draft.entries)
  pub segments : AreUpTo extent_of (is_segment ram) is_clear_of range_end place draft.segments
  pub code : AreUpTo whole (is_range ram) is_clear_of range_end place draft.code
  pub labels : AreUpTo whole (is_label ram) is_label_after label_end place draft.labels
  pub compartments : AreUpTo whole (is_compartment draft.version ram) is_compartment_after compartment_end place draft.compartments
  pub label : IsTrue (is_label_id draft.marks.label)
  pub protection : IsProtected draft

-- ---- what is added

-- the numbers of what a statement with so many words adds are in their ranges
abbrev pub IsAddition : Version → ℕ → ℕ → Option ℕ → Addition → Type 0
IsAddition version harts ram count (Words emission) = Fits emission × (count ≡ Some (length (words_of emission)))
IsAddition version harts ram count (Heap base bytes) = IsTrue (is_heap_base ram base && is_heap_bytes ram base bytes)
IsAddition version harts ram count (Entry hart address) = IsTrue (nat_le (hart + 1) harts && is_place ram address)
IsAddition version harts ram count (additions.Label id) = IsTrue (is_u32 id)
IsAddition version harts ram count (Edge source target) = IsTrue (is_u32 source && is_u32 target)
IsAddition version harts ram count (Compartment protection) = IsTrue (is_protection version protection)
IsAddition version harts ram count _ = Unit {0}

-- ---- places

-- the place of the next line, or the end of the RAM
abbrev pub place_or : ℕ → List ℕ → ℕ
place_or ram [] = ram
place_or ram (place ∷ places) = place

-- each line's words lie between its place, a multiple of 4, and that of the next line
abbrev pub ArePlaced : ℕ → List Line → List ℕ → Type 0
ArePlaced ram (line ∷ lines) (place ∷ places) =
    (place % 4 ≡ 0) × (place + 4 * unwrap_or (count_in line.statement) 0 ≤ place_or ram places) × ArePlaced ram lines places
ArePlaced ram lines places = Unit {0}

-- there are addresses for its words, and there is the hart that it starts
abbrev pub HasRoom : ℕ → ℕ → Addition → Type 0
HasRoom harts place (Words emission) = place + 4 * length (words_of emission) < 2 ^ 32
HasRoom harts place (Entry hart address) = hart < harts
HasRoom harts place _ = Unit {0}
