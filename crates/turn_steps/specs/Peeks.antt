-- What a turn looks at before its rule is asked. A check that fails tells something of the values that it looks at, so whoever may
-- refuse a look is asked first.
use Rattle.std.specs.Prelude.{ℕ, Option, Some, None, Result, Ok, Err}
use Rattle.shared_terms.specs.Steps.{◌>>=◌}
use Rattle.policy_trait.specs.declared.rules.Refused.{Refused}
use Rattle.policy_trait.specs.declared.rules.Shape.{Shape}
use Rattle.policy_trait.specs.declared.rules.Shape.TheVariants as shape
use Rattle.rv_decode.specs.Groups.{reads_of}
use Rattle.rv_decode.specs.declared.groups.Group.{Group}
use Rattle.rv_decode.specs.declared.groups.Group.TheVariants as group
use Rattle.rv_decode.specs.declared.instructions.Instr.{Instr}
use Rattle.rv_decode.specs.declared.instructions.Instr.TheVariants as instr
use Rattle.rv_decode.specs.declared.places.Places.{Places}
use Rattle.rv_decode.specs.declared.places.Reads.{Reads}
use Rattle.rv_step.specs.declared.faults.Fault.{Fault}
use Rattle.tag_memory.specs.Hart.{HartState, reg_tag}
use Rattle.tag_memory.specs.Ram.{RamState, ram_tag}
use Rattle.turn_steps.specs.Looks.{fetch_result, operand_tag, read_instr}
use Rattle.turn_steps.specs.declared.look.Look.{Look}
use Rattle.turn_steps.specs.declared.peeking.Looks.{Looks}
use Rattle.turn_steps.specs.declared.peeking.OperandLook.{OperandLook}

-- whether a turn may look so at values with these tags
abbrev pub Peek : Type 0 → Type 0
Peek T = Shape → T → T → Result (Unit {0}) Refused

-- the same, asked with tags that are told by others
abbrev pub peek_by : {T U : Type 0} → (T → U) → Peek U → Peek T
peek_by f peek look first second = peek look (f first) (f second)

-- how an instruction looks at its operands before its rule is asked, if it does
abbrev pub shape_of : Instr → Option Shape
shape_of (instr.Lb _ _ _) = Some shape.Load
shape_of (instr.Lh _ _ _) = Some shape.Load
shape_of (instr.Lw _ _ _) = Some shape.Load
shape_of (instr.Lbu _ _ _) = Some shape.Load
shape_of (instr.Lhu _ _ _) = Some shape.Load
shape_of (instr.Sb _ _ _) = Some shape.Store
shape_of (instr.Sh _ _ _) = Some shape.Store
shape_of (instr.Sw _ _ _) = Some shape.Store
shape_of (instr.Jalr _ _ _) = Some shape.Jump
shape_of (instr.Beq _ _ _) = Some shape.Branch
shape_of (instr.Bne _ _ _) = Some shape.Branch
shape_of (instr.Blt _ _ _) = Some shape.Branch
shape_of (instr.Bge _ _ _) = Some shape.Branch
shape_of (instr.Bltu _ _ _) = Some shape.Branch
shape_of (instr.Bgeu _ _ _) = Some shape.Branch
shape_of instr.Ecall = Some shape.Call
shape_of _ = None

module _ {T : Type 0} (peek : Peek T) (hart : HartState T) where
  -- a branch looks at both operands, an ECALL at its second, a7, and any other at the first, an address
  abbrev pub asked_at : Reads → Shape → Result (Unit {0}) Refused
  asked_at reads shape.Branch = peek shape.Branch (operand_tag hart reads.t1) (operand_tag hart reads.t2)
  asked_at reads shape.Call = peek shape.Call (operand_tag hart reads.t2) hart.plain
  asked_at reads shape.Word = peek shape.Word (operand_tag hart reads.t1) hart.plain
  asked_at reads shape.Load = peek shape.Load (operand_tag hart reads.t1) hart.plain
  asked_at reads shape.Store = peek shape.Store (operand_tag hart reads.t1) hart.plain
  asked_at reads shape.Jump = peek shape.Jump (operand_tag hart reads.t1) hart.plain

  abbrev pub asked_if : Reads → Option Shape → Result (Unit {0}) Refused
  asked_if reads None = Ok tt
  asked_if reads (Some look) = asked_at reads look

  -- the looks of an instruction
  abbrev pub operands_peeked : Instr → Result (Unit {0}) Refused
  operands_peeked it = asked_if (reads_of it) (shape_of it)

  -- a word that is no instruction is looked at no further: the turn stops by that
  abbrev pub word_peeked : Result Instr Fault → Result (Unit {0}) Refused
  word_peeked (Ok it) = operands_peeked it
  word_peeked (Err fault) = Ok tt

  -- nor is a word that isn't in memory
  abbrev pub fetched_peeked : RamState T → Result ℕ Fault → Result (Unit {0}) Refused
  fetched_peeked ram (Ok word) = peek shape.Word (ram_tag ram hart.pc) hart.plain >>= λ seen. word_peeked (read_instr word)
  fetched_peeked ram (Err fault) = Ok tt

  -- The word at the pc is looked at, and then what its instruction looks at: the first refusal decides.
  unfoldable pub peeked : RamState T → Result (Unit {0}) Refused
  peeked ram = fetched_peeked ram (fetch_result hart ram)

-- ---- the same of a turn whose checks pass, by what it is about to do

-- how an instruction of this group looks at its operands
abbrev pub shape_of_group : Group → Option Shape
shape_of_group group.LoadWord = Some shape.Load
shape_of_group group.LoadPart = Some shape.Load
shape_of_group group.StoreWord = Some shape.Store
shape_of_group group.StorePart = Some shape.Store
shape_of_group group.Jalr = Some shape.Jump
shape_of_group group.Branch = Some shape.Branch
shape_of_group group.Exit = Some shape.Call
shape_of_group group.Put = Some shape.Call
shape_of_group group.Get = Some shape.Call
shape_of_group group.Call = Some shape.Call
shape_of_group _ = None

module _ {T : Type 0} where
  abbrev pub operand_look : Shape → T → T → OperandLook T
  operand_look look first second = record { shape = look; first = first; second = second }

  -- the operands that it looks at so, where they stand
  abbrev pub operands_at : HartState T → Places → Shape → OperandLook T
  operands_at hart places shape.Branch = operand_look shape.Branch (reg_tag hart places.first) (reg_tag hart places.second)
  operands_at hart places shape.Call = operand_look shape.Call (reg_tag hart places.second) hart.plain
  operands_at hart places look = operand_look look (reg_tag hart places.first) hart.plain

  abbrev pub operands_if : HartState T → Places → Option Shape → Option (OperandLook T)
  operands_if hart places None = None
  operands_if hart places (Some look) = Some (operands_at hart places look)

  -- all that is looked at
  abbrev pub looks_of : HartState T → RamState T → Look → Looks T
  looks_of hart ram look = record { word = ram_tag ram hart.pc; operands = operands_if hart look.places (shape_of_group look.group) }

  abbrev pub operands_allowed : Peek T → Option (OperandLook T) → Result (Unit {0}) Refused
  operands_allowed peek None = Ok tt
  operands_allowed peek (Some look) = peek look.shape look.first look.second

  -- who is asked is asked of the word, and then of the operands
  abbrev pub looks_allowed : Peek T → T → Looks T → Result (Unit {0}) Refused
  looks_allowed peek plain looks = peek shape.Word looks.word plain >>= λ seen. operands_allowed peek looks.operands
