-- A source is short: a block has at most 200 bytes.
use Rattle.std.proofs.Common.{◌≡◌, ℕ, zero, suc, ◌+◌, ◌*◌, ◌%◌, ◌≤◌, List, [], ◌∷◌, ◌++◌, refl, ap, lit<, lit≤, arith}
use Rattle.std.proofs.Math.ListN.{length}
use Rattle.std.specs.Prelude.{codes}
use Rattle.std.specs.Fmt.{decimal}
use Rattle.std.proofs.lemmas.Fmt.{length-decimal-le}
use Rattle.std.proofs.lemmas.List.{length-append}
use Rattle.workload.specs.declared.kinds.BlockKind.{BlockKind}
use Rattle.workload.specs.declared.kinds.BlockKind.TheVariants.{Sealing, Heap, Flow, Compartments}
use Rattle.workload.specs.Kinds.{kind_of, number_after}
use Rattle.workload.specs.Source.{block_lines, end_lines, head_lines, lines_of_blocks, sealing_lines, source_of_workload, text_of}
use Rattle.workload.proofs.SourceLemmas.{source_parts, text_of-append}

-- the lines behind the number
abbrev behind_number : List (List ℕ)
behind_number = codes "li a7, 17" ∷ codes "ecall" ∷ codes "li a7, 18" ∷ codes "ecall" ∷ []

-- the lines before the number, and its line up to it
abbrev before_number : List ℕ
before_number = text_of (codes "# a number is sealed and unsealed" ∷ codes "li a7, 16" ∷ codes "ecall" ∷ codes "mv a1, a0" ∷ []) ++ codes "li a0, "

sealing_text : (number : ℕ) → text_of (sealing_lines number) ≡ before_number ++ (decimal number ++ 10 ∷ text_of behind_number)
unfolding text_of
sealing_text number = refl

before_length : length before_number ≡ 67
unfolding text_of
before_length = refl

behind_length : length (text_of behind_number) ≡ 32
unfolding text_of
behind_length = refl

sealing_fits : (number : ℕ) → number ≤ 1024 → length (text_of (sealing_lines number)) ≤ 200
sealing_fits number small =
    let digits : length (decimal number) ≤ 4 = length-decimal-le 4 number (lit< tt) (omega arith) (omega arith) in
    omega (
      arith,
      ap length (sealing_text number),
      length-append before_number (decimal number ++ 10 ∷ text_of behind_number),
      before_length,
      behind_length,
      digits,
      length-append (decimal number) (10 ∷ text_of behind_number),
    )

block_fits : (kind : BlockKind) (index : ℕ) → length (text_of (block_lines kind index)) ≤ 200
unfolding text_of
block_fits Sealing index = sealing_fits (1 + index % 1024) (omega arith)
block_fits Heap index = lit≤ tt
block_fits Flow index = lit≤ tt
block_fits Compartments index = lit≤ tt

blocks_fit : (left index number : ℕ) → length (text_of (lines_of_blocks left index number)) ≤ left * 200
unfolding lines_of_blocks text_of
blocks_fit zero index number = omega arith
blocks_fit (suc left) index number =
    let block : List (List ℕ) = block_lines (kind_of (number_after number)) index in
    let rest : List (List ℕ) = lines_of_blocks left (index + 1) (number_after number) in
    omega (
      arith,
      ap length (text_of-append block rest),
      length-append (text_of block) (text_of rest),
      block_fits (kind_of (number_after number)) index,
      blocks_fit left (index + 1) (number_after number),
    )

head_length : length (text_of head_lines) ≤ 400
unfolding text_of
head_length = lit≤ tt

end_length : length (text_of end_lines) ≤ 100
unfolding text_of
end_length = lit≤ tt

-- a source of at most 1000 blocks has at most 2^20 bytes
pub source_fits : (count : ℕ) → count ≤ 1000 → length (source_of_workload count) ≤ 1048576
source_fits count few =
    let blocks : List ℕ = text_of (lines_of_blocks count 0 count) in
    omega (
      arith,
      ap length (source_parts count),
      length-append (text_of head_lines) (blocks ++ text_of end_lines),
      length-append blocks (text_of end_lines),
      head_length,
      end_length,
      blocks_fit count 0 count,
    )
