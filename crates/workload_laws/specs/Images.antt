-- The image of a workload: the words at 0, those of the blocks, one behind the other, and those of the end.
use Rattle.std.specs.Prelude.{ℕ, zero, suc, ◌+◌, ◌*◌, ◌%◌, List, [], ◌∷◌, ◌++◌, length, map}
use Rattle.rv_decode.specs.declared.instructions.Instr.{Instr}
use Rattle.rv_decode.specs.declared.instructions.Instr.TheVariants.{Jal, Jalr, Lw, Sw, Addi, Ecall}
use Rattle.image_format.specs.declared.version.Version.TheVariants.{One}
use Rattle.image_format.specs.declared.rows.Label.{Label}
use Rattle.image_format.specs.Picture.{CompartmentRow, Picture}
use Rattle.asm_words.specs.Encoding.{word_of_instr}
use Rattle.asm_words.specs.Ranges.{distance}
use Rattle.workload.specs.declared.kinds.BlockKind.{BlockKind}
use Rattle.workload.specs.declared.kinds.BlockKind.TheVariants.{Sealing, Heap, Flow, Compartments}
use Rattle.workload.specs.Kinds.{kind_of, number_after}

-- words from 0 on, the labels of some of them, and the words that aren't compartment 0's alone
pub record Program : Type 0 where
  pub words : List ℕ
  pub labels : List Label
  pub compartments : List CompartmentRow

-- a jump to 20, and the words that the blocks come to; each pair is a `nop` and a `ret`
abbrev pub head_program : Program
head_program = record {
  words = map word_of_instr (Jal 0 20 ∷ Addi 0 0 0 ∷ Jalr 0 1 0 ∷ Addi 0 0 0 ∷ Jalr 0 1 0 ∷ []);
  labels = (record { address = 4; id = 2 }) ∷ (record { address = 8; id = 3 }) ∷ (record { address = 16; id = 5 }) ∷ [];
  compartments = (record { range = record { address = 12; words = 2 }; owner = 1; into = 1; write = 0 }) ∷ [];
}

-- the instructions of the block at this place among the blocks, from an address on
abbrev pub block_instructions : BlockKind → ℕ → ℕ → List Instr
block_instructions Sealing index address =
    Addi 17 0 16 ∷ Ecall ∷ Addi 11 10 0 ∷ Addi 10 0 (1 + index % 1024) ∷ Addi 17 0 17 ∷ Ecall ∷ Addi 17 0 18 ∷ Ecall ∷ []
block_instructions Heap index address =
    Addi 10 0 16 ∷ Addi 17 0 48 ∷ Ecall ∷ Addi 8 10 0 ∷ Addi 5 0 7 ∷ Sw 8 5 4 ∷ Lw 6 8 4 ∷ Addi 10 8 0 ∷ Addi 17 0 49 ∷ Ecall ∷ []
block_instructions Flow index address = Addi 5 0 4 ∷ Jalr 1 5 0 ∷ Addi 0 0 0 ∷ []
block_instructions Compartments index address = Jal 1 (distance address 12) ∷ Addi 0 0 0 ∷ []

-- the jump by a register has label 1, and what is come back to label 4
abbrev pub block_labels : BlockKind → ℕ → List Label
block_labels Sealing address = []
block_labels Heap address = []
block_labels Flow address = (record { address = address + 4; id = 1 }) ∷ (record { address = address + 8; id = 4 }) ∷ []
block_labels Compartments address = (record { address = address + 4; id = 4 }) ∷ []

-- compartment 1 may jump back to the word behind its call
abbrev pub block_compartments : BlockKind → ℕ → List CompartmentRow
block_compartments Sealing address = []
block_compartments Heap address = []
block_compartments Flow address = []
block_compartments Compartments address = (record { range = record { address = address + 4; words = 1 }; owner = 0; into = 2; write = 0 }) ∷ []

-- a program with a block behind its words
abbrev pub with_block : BlockKind → ℕ → Program → Program
with_block kind index program = record {
  words = program.words ++ map word_of_instr (block_instructions kind index (4 * length program.words));
  labels = program.labels ++ block_labels kind (4 * length program.words);
  compartments = program.compartments ++ block_compartments kind (4 * length program.words);
}

-- a program with so many blocks behind its words, from a place among them on, each of the kind that the next number chooses
unfoldable pub with_blocks : ℕ → ℕ → ℕ → Program → Program
with_blocks zero index number program = program
with_blocks (suc left) index number program =
    with_blocks left (index + 1) (number_after number) (with_block (kind_of (number_after number)) index program)

-- a program with the end behind its words
abbrev pub with_end : Program → Program
with_end program = record program { words = program.words ++ map word_of_instr (Addi 10 0 0 ∷ Addi 17 0 0 ∷ Ecall ∷ []) }

-- the image of a program, of version 1: one hart that starts at 0, 65536 bytes of RAM, the last 4096 the heap, all words code,
-- and the ways from label 1 to 2, from 3 to 4 and from 5 to 4
abbrev pub image_of_program : Program → Picture
image_of_program program = record {
  version = One;
  ram = 65536;
  heap_base = 61440;
  heap_bytes = 4096;
  entries = 0 ∷ [];
  segments = (record { address = 0; words = program.words }) ∷ [];
  code = (record { address = 0; words = length program.words }) ∷ [];
  labels = program.labels;
  edges = (record { source = 1; target = 2 }) ∷ (record { source = 3; target = 4 }) ∷ (record { source = 5; target = 4 }) ∷ [];
  compartments = program.compartments;
}

-- the image of a workload of so many blocks
unfoldable pub image_of_workload : ℕ → Picture
image_of_workload count = image_of_program (with_end (with_blocks count 0 count head_program))
