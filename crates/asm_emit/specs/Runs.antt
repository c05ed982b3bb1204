-- Runs of words: each word, at its place behind those before it, makes the last run longer or begins another.
use Rattle.std.specs.Prelude.{ℕ, ◌+◌, ◌*◌, ◌==◌, Bool, ◌&&◌, List, [], ◌∷◌, ◌++◌, Option, Some, None, if◌then◌else◌}
use Rattle.image_format.specs.declared.rows.WordRange.{WordRange}
use Rattle.image_format.specs.declared.rows.Label.{Label}
use Rattle.image_format.specs.Picture.{CompartmentRow}
use Rattle.asm_emit.specs.declared.marks.Protection.{Protection}

-- the run that a run and the next word are together, or both
abbrev pub run_or_both : {A : Type 0} → Option A → A → A → List A
run_or_both (Some run) last next = run ∷ []
run_or_both None last next = last ∷ next ∷ []

-- runs, and the next word behind the last of them, which the two may be one run with
abbrev pub with_run : {A : Type 0} → (A → A → Option A) → List A → A → List A
with_run joined [] next = next ∷ []
with_run joined (last ∷ []) next = run_or_both (joined last next) last next
with_run joined (first ∷ second ∷ runs) next = first ∷ with_run joined (second ∷ runs) next

-- ---- ranges of words

-- the address behind the last word of the range
abbrev pub range_end : WordRange → ℕ
range_end range = range.address + 4 * range.words

abbrev pub one_word_range : ℕ → WordRange
one_word_range address = record { address = address; words = 1 }

-- a range and the next word, where that one stands where the range ends
abbrev pub joined_range : WordRange → WordRange → Option WordRange
joined_range last next =
    if range_end last == next.address then Some (record { address = last.address; words = last.words + 1 }) else None

-- a word of a text is code
abbrev pub with_code : Bool → List WordRange → ℕ → List WordRange
with_code is_code ranges address = if is_code then with_run joined_range ranges (one_word_range address) else ranges

-- ---- words of compartments

-- who owns words, who may jump to them and who may write them
abbrev pub protection_of : CompartmentRow → Protection
protection_of row = record { owner = row.owner; into = row.into; write = row.write }

abbrev pub is_same_protection : Protection → Protection → Bool
is_same_protection a b = a.owner == b.owner && a.into == b.into && a.write == b.write

-- as words are that no compartment was given
abbrev pub no_protection : Protection
no_protection = record { owner = 0; into = 0; write = 0 }

-- the row that gives the words of the range this protection
abbrev pub protected_range : Protection → WordRange → CompartmentRow
protected_range protection range = record { range = range; owner = protection.owner; into = protection.into; write = protection.write }

-- the range, if there is one, under a protection
abbrev pub protected_as : Protection → Option WordRange → Option CompartmentRow
protected_as protection (Some range) = Some (protected_range protection range)
protected_as protection None = None

-- a range and the next word, where that one has the same protection and stands where the range ends
abbrev pub joined_compartment : CompartmentRow → CompartmentRow → Option CompartmentRow
joined_compartment last next =
    if is_same_protection (protection_of last) (protection_of next)
    then protected_as (protection_of last) (joined_range last.range next.range)
    else None

-- a word with a protection
abbrev pub with_protected : Protection → List CompartmentRow → ℕ → List CompartmentRow
with_protected protection rows address =
    if is_same_protection protection no_protection then rows
    else with_run joined_compartment rows (protected_range protection (one_word_range address))

-- ---- labels

-- a word that has a label
abbrev pub with_label : Option ℕ → List Label → ℕ → List Label
with_label None labels address = labels
with_label (Some id) labels address = labels ++ (record { address = address; id = id }) ∷ []
