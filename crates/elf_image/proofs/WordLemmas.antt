-- The words of cells that hold what the segments put there.
use Rattle.std.proofs.Common.{◌≡◌, ℕ, ◌+◌, ◌*◌, ◌/◌, ◌<◌, ◌≤◌, Bool, true, false, ◌||◌, List, [], ◌∷◌, length, get_or, take, drop, refl, ap, ◌∙◌, arith}
use Rattle.std.specs.Prelude.{if◌then◌else◌}
use Rattle.std.specs.List.{list_any}
use Rattle.std.proofs.lemmas.List.{drop_more}
use Rattle.image_format.specs.Building.{with_word}
use Rattle.image_format.specs.Picture.{Segment}
use Rattle.image_format.specs.declared.rows.WordRange.{WordRange}
use Rattle.elf_image.specs.Cells.{AreCells, cell_at, cells_of_word, code_in, free, segments_in, with_cells, with_code_cells, word_of}
use Rattle.elf_image.specs.Loaded.{is_code_at, is_loaded_at, loaded_code, loaded_segments, loaded_word, with_code, with_code_word, with_loaded}
use Rattle.elf_image.specs.declared.cells.Cell.{Cell}
use Rattle.elf_image.specs.declared.headers.ProgramHeader.{ProgramHeader}
use Rattle.elf_image.proofs.FoldLemmas.{fold_same}

any_of_four : (a b c d : Bool) → (a || (b || (c || (d || false)))) ≡ (((a || b) || c) || d)
any_of_four true b c d = refl
any_of_four false true c d = refl
any_of_four false false true d = refl
any_of_four false false false true = refl
any_of_four false false false false = refl

-- four cells in a row
four : (cells : List Cell) (i : ℕ) → i + 4 ≤ length cells → take 4 (drop i cells) ≡ get_or cells i free ∷ get_or cells (i + 1) free ∷ get_or cells (i + 2) free ∷ get_or cells (i + 3) free ∷ []
four cells i inside =
    let second : i + 1 + 1 ≡ i + 2 = omega arith in
    let third : i + 2 + 1 ≡ i + 3 = omega arith in
    let d0 : drop i cells ≡ get_or cells i free ∷ drop (i + 1) cells = drop_more cells i free (omega arith) in
    let d1 : drop (i + 1) cells ≡ get_or cells (i + 1) free ∷ drop (i + 2) cells = drop_more cells (i + 1) free (omega arith) ∙ ap (λ (n : ℕ). get_or cells (i + 1) free ∷ drop n cells) second in
    let d2 : drop (i + 2) cells ≡ get_or cells (i + 2) free ∷ drop (i + 3) cells = drop_more cells (i + 2) free (omega arith) ∙ ap (λ (n : ℕ). get_or cells (i + 2) free ∷ drop n cells) third in
    let d3 : drop (i + 3) cells ≡ get_or cells (i + 3) free ∷ drop (i + 3 + 1) cells = drop_more cells (i + 3) free (omega arith) in
    rw (d0, d1, d2, d3) refl

module _ (elf : List ℕ) (segments : List ProgramHeader) (cells : List Cell) (are : AreCells elf segments cells) where
  word_cells : (n : ℕ) → n < length cells / 4
      → cells_of_word cells n ≡ cell_at elf segments (4 * n) ∷ cell_at elf segments (4 * n + 1) ∷ cell_at elf segments (4 * n + 2) ∷ cell_at elf segments (4 * n + 3) ∷ []
  word_cells n below =
      let c0 = are (4 * n) (omega arith) in
      let c1 = are (4 * n + 1) (omega arith) in
      let c2 = are (4 * n + 2) (omega arith) in
      let c3 = are (4 * n + 3) (omega arith) in
      four cells (4 * n) (omega arith) ∙ (λ i. c0 i ∷ c1 i ∷ c2 i ∷ c3 i ∷ [])

  word_put : (n : ℕ) → n < length cells / 4 → (runs : List Segment) → with_cells cells runs n ≡ with_loaded elf segments runs n
  word_put n below runs =
      let test = any_of_four (is_loaded_at segments (4 * n)) (is_loaded_at segments (4 * n + 1)) (is_loaded_at segments (4 * n + 2)) (is_loaded_at segments (4 * n + 3)) in
      ap (λ (word : List Cell). if list_any (λ (cell : Cell). cell.is_loaded) word then with_word runs (4 * n) (word_of word) else runs) (word_cells n below)
      ∙ ap (λ (b : Bool). if b then with_word runs (4 * n) (loaded_word elf segments n) else runs) test

  code_put : (n : ℕ) → n < length cells / 4 → (runs : List WordRange) → with_code_cells cells runs n ≡ with_code elf segments runs n
  code_put n below runs =
      let test = any_of_four (is_code_at segments (4 * n)) (is_code_at segments (4 * n + 1)) (is_code_at segments (4 * n + 2)) (is_code_at segments (4 * n + 3)) in
      ap (λ (word : List Cell). if list_any (λ (cell : Cell). cell.is_code) word then with_code_word runs n else runs) (word_cells n below)
      ∙ ap (λ (b : Bool). if b then with_code_word runs n else runs) test

  -- all words
  pub segments_are : segments_in cells ≡ loaded_segments elf segments (length cells)
  unfolding loaded_segments
  segments_are = fold_same (with_cells cells) (with_loaded elf segments) (length cells / 4) [] word_put

  pub code_are : code_in cells ≡ loaded_code elf segments (length cells)
  unfolding loaded_code
  code_are = fold_same (with_code_cells cells) (with_code elf segments) (length cells / 4) [] code_put
