-- The text of blocks, one after another.
use Rattle.std.proofs.Common.{◌≡◌, ℕ, suc, ◌+◌, ◌-◌, ◌<◌, List, [], ◌∷◌, ◌++◌, refl, sym, ap, ◌∙◌, arith}
use Rattle.std.proofs.lemmas.List.{append_assoc}
use Rattle.workload.specs.declared.kinds.BlockKind.{BlockKind}
use Rattle.workload.specs.Kinds.{kind_of, number_after}
use Rattle.workload.specs.Source.{block_lines, end_lines, head_lines, lines_of_blocks, lines_of_workload, source_of_workload, text_of}

-- lines behind lines
pub text_of-append : (prefix lines : List (List ℕ)) → text_of (prefix ++ lines) ≡ text_of prefix ++ text_of lines
unfolding text_of
text_of-append [] lines = refl
text_of-append (line ∷ prefix) lines =
    ap (λ (t : List ℕ). line ++ 10 ∷ t) (text_of-append prefix lines) ∙ sym (append_assoc line (10 ∷ text_of prefix) (text_of lines))

some_left : (left index number : ℕ) → text_of (lines_of_blocks (suc left) index number)
    ≡ text_of (block_lines (kind_of (number_after number)) index) ++ text_of (lines_of_blocks left (index + 1) (number_after number))
unfolding lines_of_blocks
some_left left index number =
    text_of-append (block_lines (kind_of (number_after number)) index) (lines_of_blocks left (index + 1) (number_after number))

-- the next block, and those behind it
pub next_block : (count index number : ℕ) → index < count → text_of (lines_of_blocks (count - index) index number)
    ≡ text_of (block_lines (kind_of (number_after number)) index) ++ text_of (lines_of_blocks (count - (index + 1)) (index + 1) (number_after number))
next_block count index number below =
    let left : count - index ≡ suc (count - (index + 1)) = omega arith in
    ap (λ (n : ℕ). text_of (lines_of_blocks n index number)) left ∙ some_left (count - (index + 1)) index number

-- no block is left
pub no_block : (count number : ℕ) → text_of (lines_of_blocks (count - count) count number) ≡ []
unfolding lines_of_blocks text_of
no_block count number = let none : count - count ≡ 0 = omega arith in ap (λ (n : ℕ). text_of (lines_of_blocks n count number)) none

-- the next block was appended
pub block_appended : (count index number next : ℕ) (kind : BlockKind) (whole before after : List ℕ) → index < count
    → before ++ text_of (lines_of_blocks (count - index) index number) ≡ whole
    → next ≡ number_after number → kind ≡ kind_of next → after ≡ before ++ text_of (block_lines kind index)
    → after ++ text_of (lines_of_blocks (count - (index + 1)) (index + 1) next) ≡ whole
block_appended count index number next kind whole before after below so_far number_is kind_is appended =
    let block : List ℕ = text_of (block_lines (kind_of (number_after number)) index) in
    let rest : List ℕ = text_of (lines_of_blocks (count - (index + 1)) (index + 1) (number_after number)) in
    rw (appended, kind_is, number_is) (append_assoc before block rest ∙ ap (λ (t : List ℕ). before ++ t) (sym (next_block count index number below)) ∙ so_far)

-- the three parts of a source
pub source_parts : (count : ℕ) → source_of_workload count ≡ text_of head_lines ++ (text_of (lines_of_blocks count 0 count) ++ text_of end_lines)
unfolding source_of_workload lines_of_workload
source_parts count =
    text_of-append head_lines (lines_of_blocks count 0 count ++ end_lines)
    ∙ ap (λ (t : List ℕ). text_of head_lines ++ t) (text_of-append (lines_of_blocks count 0 count) end_lines)
