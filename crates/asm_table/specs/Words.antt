-- The words of the forms, in tables.
use Rattle.std.specs.Prelude.{List, [], ◌∷◌, ℕ, codes, Option}
use Rattle.std.specs.Option.{option_map, option_or}
use Rattle.asm_table.specs.declared.forms.RegisterOperation.{RegisterOperation}
use Rattle.asm_table.specs.declared.forms.RegisterOperation.TheVariants.{Add, Sub, Sll, Slt, Sltu, Xor, Srl, Sra, Or, And, Mul, Mulh, Mulhsu, Mulhu, Div, Divu, Rem, Remu}
use Rattle.asm_table.specs.declared.forms.ImmediateOperation.{ImmediateOperation}
use Rattle.asm_table.specs.declared.forms.ImmediateOperation.TheVariants.{Addi, Slti, Sltiu, Xori, Ori, Andi}
use Rattle.asm_table.specs.declared.forms.ShiftOperation.{ShiftOperation}
use Rattle.asm_table.specs.declared.forms.ShiftOperation.TheVariants.{Slli, Srli, Srai}
use Rattle.asm_table.specs.declared.forms.UpperOperation.{UpperOperation}
use Rattle.asm_table.specs.declared.forms.UpperOperation.TheVariants.{Lui, Auipc}
use Rattle.asm_table.specs.declared.forms.LoadOperation.{LoadOperation}
use Rattle.asm_table.specs.declared.forms.LoadOperation.TheVariants.{Lb, Lh, Lw, Lbu, Lhu}
use Rattle.asm_table.specs.declared.forms.StoreOperation.{StoreOperation}
use Rattle.asm_table.specs.declared.forms.StoreOperation.TheVariants.{Sb, Sh, Sw}
use Rattle.asm_table.specs.declared.forms.BranchOperation.{BranchOperation}
use Rattle.asm_table.specs.declared.forms.BranchOperation.TheVariants.{Beq, Bne, Blt, Bge, Bltu, Bgeu}
use Rattle.asm_table.specs.declared.forms.Directive.{Directive}
use Rattle.asm_table.specs.declared.forms.Directive.TheVariants as directives
use Rattle.asm_table.specs.declared.forms.Form.{Form}
use Rattle.asm_table.specs.declared.forms.Form.TheVariants as forms
use Rattle.asm_table.specs.Rows.{beside}

-- the operations on two registers
unfoldable pub registers_named : List ℕ → Option RegisterOperation
registers_named word =
    beside word
    ((codes "add", Add) ∷ (codes "sub", Sub) ∷ (codes "sll", Sll) ∷ (codes "slt", Slt) ∷ (codes "sltu", Sltu) ∷ (codes "xor", Xor) ∷ (codes "srl", Srl) ∷ (codes "sra", Sra) ∷ (codes "or", Or) ∷ (codes "and", And) ∷ (codes "mul", Mul) ∷ (codes "mulh", Mulh) ∷ (codes "mulhsu", Mulhsu) ∷ (codes "mulhu", Mulhu) ∷ (codes "div", Div) ∷ (codes "divu", Divu) ∷ (codes "rem", Rem) ∷ (codes "remu", Remu) ∷ [])

-- the operations on a register and a number
unfoldable pub immediate_named : List ℕ → Option ImmediateOperation
immediate_named word =
    beside word
    ((codes "addi", Addi) ∷ (codes "slti", Slti) ∷ (codes "sltiu", Sltiu) ∷ (codes "xori", Xori) ∷ (codes "ori", Ori) ∷ (codes "andi", Andi) ∷ [])

-- the shifts by a number
unfoldable pub shift_named : List ℕ → Option ShiftOperation
shift_named word =
    beside word
    ((codes "slli", Slli) ∷ (codes "srli", Srli) ∷ (codes "srai", Srai) ∷ [])

-- the operations on the upper bits
unfoldable pub upper_named : List ℕ → Option UpperOperation
upper_named word =
    beside word
    ((codes "lui", Lui) ∷ (codes "auipc", Auipc) ∷ [])

-- the loads
unfoldable pub load_named : List ℕ → Option LoadOperation
load_named word =
    beside word
    ((codes "lb", Lb) ∷ (codes "lh", Lh) ∷ (codes "lw", Lw) ∷ (codes "lbu", Lbu) ∷ (codes "lhu", Lhu) ∷ [])

-- the stores
unfoldable pub store_named : List ℕ → Option StoreOperation
store_named word =
    beside word
    ((codes "sb", Sb) ∷ (codes "sh", Sh) ∷ (codes "sw", Sw) ∷ [])

-- the branches
unfoldable pub branch_named : List ℕ → Option BranchOperation
branch_named word =
    beside word
    ((codes "beq", Beq) ∷ (codes "bne", Bne) ∷ (codes "blt", Blt) ∷ (codes "bge", Bge) ∷ (codes "bltu", Bltu) ∷ (codes "bgeu", Bgeu) ∷ [])

-- the other instructions
unfoldable pub other_named : List ℕ → Option Form
other_named word =
    beside word
    ((codes "jal", forms.Jump) ∷ (codes "jalr", forms.JumpRegister) ∷ (codes "fence", forms.Fence) ∷ (codes "ecall", forms.Ecall) ∷ (codes "ebreak", forms.Ebreak) ∷ [])

-- the forms that stand for instructions
unfoldable pub pseudo_named : List ℕ → Option Form
pseudo_named word =
    beside word
    ((codes "nop", forms.Nothing) ∷ (codes "mv", forms.Move) ∷ (codes "ret", forms.Return) ∷ (codes "j", forms.JumpAlone) ∷ (codes "li", forms.LoadNumber) ∷ (codes "la", forms.LoadAddress) ∷ [])

-- the directives
unfoldable pub directive_named : List ℕ → Option Directive
directive_named word =
    beside word
    ((codes ".version", directives.Version) ∷ (codes ".harts", directives.Harts) ∷ (codes ".ram", directives.Ram) ∷ (codes ".heap", directives.Heap) ∷ (codes ".entry", directives.Entry) ∷ (codes ".org", directives.Origin) ∷ (codes ".word", directives.Word) ∷ (codes ".zero", directives.Zeros) ∷ (codes ".text", directives.Text) ∷ (codes ".data", directives.Data) ∷ (codes ".label", directives.Label) ∷ (codes ".edge", directives.Edge) ∷ (codes ".comp", directives.Compartment) ∷ [])

-- the instructions that calculate
unfoldable pub arithmetic_named : List ℕ → Option Form
arithmetic_named word =
    option_or (option_map forms.Registers (registers_named word))
    (option_or (option_map forms.Immediate (immediate_named word))
    (option_or (option_map forms.Shift (shift_named word)) (option_map forms.Upper (upper_named word))))

-- the instructions
unfoldable pub instruction_named : List ℕ → Option Form
instruction_named word =
    option_or (arithmetic_named word)
    (option_or (option_map forms.Load (load_named word))
    (option_or (option_map forms.Store (store_named word))
    (option_or (option_map forms.Branch (branch_named word)) (other_named word))))

-- the form whose statements begin with this word; no word stands in two tables, so that their order is of no matter
unfoldable pub form_named : List ℕ → Option Form
form_named word =
    option_or (instruction_named word)
    (option_or (pseudo_named word) (option_map forms.Directive (directive_named word)))
