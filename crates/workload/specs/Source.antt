-- The source of a workload, line by line: the machine and the words at 0, the blocks, and the end.
use Rattle.std.specs.Prelude.{ℕ, zero, suc, ◌+◌, ◌%◌, List, [], ◌∷◌, ◌++◌, codes}
use Rattle.std.specs.Fmt.{decimal}
use Rattle.workload.specs.declared.kinds.BlockKind.{BlockKind}
use Rattle.workload.specs.declared.kinds.BlockKind.TheVariants.{Sealing, Heap, Flow, Compartments}
use Rattle.workload.specs.Kinds.{kind_of, number_after}

-- lines, each ended by a newline, which is byte 10
unfoldable pub text_of : List (List ℕ) → List ℕ
text_of [] = []
text_of (line ∷ lines) = line ++ 10 ∷ text_of lines

-- one hart and 65536 bytes of RAM, the last 4096 the heap; at 4 and 8 the words that a jump by a register comes to and goes back
-- from, with the labels 2 and 3; at 12 and 16 the words of compartment 1, which compartment 0 may jump to, label 5 at the second
abbrev pub head_lines : List (List ℕ)
head_lines =
    codes "# Blocks of four kinds, by a sequence of numbers."
    ∷ codes ".harts 1"
    ∷ codes ".ram 65536"
    ∷ codes ".heap 0xF000, 4096"
    ∷ codes ".entry 0, 0"
    ∷ codes ".edge 1, 2"
    ∷ codes ".edge 3, 4"
    ∷ codes ".edge 5, 4"
    ∷ codes "j 20"
    ∷ codes ".label 2"
    ∷ codes "nop"
    ∷ codes ".label 3"
    ∷ codes "ret"
    ∷ codes ".comp 1, 0x1, 0"
    ∷ codes "nop"
    ∷ codes ".label 5"
    ∷ codes "ret"
    ∷ codes ".comp 0, 0, 0"
    ∷ []

-- service 16 gives a key, 17 seals the number with it, and 18 unseals it
abbrev pub sealing_lines : ℕ → List (List ℕ)
sealing_lines number =
    codes "# a number is sealed and unsealed"
    ∷ codes "li a7, 16"
    ∷ codes "ecall"
    ∷ codes "mv a1, a0"
    ∷ (codes "li a0, " ++ decimal number)
    ∷ codes "li a7, 17"
    ∷ codes "ecall"
    ∷ codes "li a7, 18"
    ∷ codes "ecall"
    ∷ []

-- service 48 gives 16 bytes of the heap, and 49 frees them
abbrev pub heap_lines : List (List ℕ)
heap_lines =
    codes "# a block of the heap is asked for, used and freed"
    ∷ codes "li a0, 16"
    ∷ codes "li a7, 48"
    ∷ codes "ecall"
    ∷ codes "mv s0, a0"
    ∷ codes "li t0, 7"
    ∷ codes "sw t0, 4(s0)"
    ∷ codes "lw t1, 4(s0)"
    ∷ codes "mv a0, s0"
    ∷ codes "li a7, 49"
    ∷ codes "ecall"
    ∷ []

-- from label 1 to label 2, and from label 3 back to label 4
abbrev pub flow_lines : List (List ℕ)
flow_lines =
    codes "# a jump by a register, and back"
    ∷ codes "li t0, 4"
    ∷ codes ".label 1"
    ∷ codes "jalr ra, 0(t0)"
    ∷ codes ".label 4"
    ∷ codes "nop"
    ∷ []

-- into compartment 1, and from its label 5 back to label 4, at a word that compartment 1 may jump to
abbrev pub compartments_lines : List (List ℕ)
compartments_lines =
    codes "# a call of compartment 1"
    ∷ codes "jal ra, 12"
    ∷ codes ".label 4"
    ∷ codes ".comp 0, 0x2, 0"
    ∷ codes "nop"
    ∷ codes ".comp 0, 0, 0"
    ∷ []

-- the block at this place among the blocks, counted from 0
abbrev pub block_lines : BlockKind → ℕ → List (List ℕ)
block_lines Sealing index = sealing_lines (1 + index % 1024)
block_lines Heap index = heap_lines
block_lines Flow index = flow_lines
block_lines Compartments index = compartments_lines

-- so many blocks from a place among them on, each of the kind that the number behind the last one chooses
unfoldable pub lines_of_blocks : ℕ → ℕ → ℕ → List (List ℕ)
lines_of_blocks zero index number = []
lines_of_blocks (suc left) index number =
    block_lines (kind_of (number_after number)) index ++ lines_of_blocks left (index + 1) (number_after number)

-- the service exit with the code 0
abbrev pub end_lines : List (List ℕ)
end_lines =
    codes "# the end"
    ∷ codes "li a0, 0"
    ∷ codes "li a7, 0"
    ∷ codes "ecall"
    ∷ []

-- the lines of a workload of so many blocks; the first number is theirs
unfoldable pub lines_of_workload : ℕ → List (List ℕ)
lines_of_workload count = head_lines ++ (lines_of_blocks count 0 count ++ end_lines)

-- the bytes of these lines
unfoldable pub source_of_workload : ℕ → List ℕ
source_of_workload count = text_of (lines_of_workload count)
