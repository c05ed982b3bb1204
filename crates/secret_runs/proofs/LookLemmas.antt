-- What a turn looks at in two worlds, where the policy lets it look.
use Rattle.std.proofs.Common.{◌≡◌, ℕ, ◌*◌, ◌/◌, ◌==◌, Bool, true, false, Option, Some, None, Result, Ok, Err, slice_get, refl, sym, ap, ◌∙◌, subst, if◌then◌else◌}
use Rattle.shared_terms.specs.Steps.{◌>>=◌}
use Rattle.policy_trait.specs.declared.rules.Refused.{Refused}
use Rattle.policy_trait.specs.declared.rules.Shape.{Shape}
use Rattle.policy_trait.specs.declared.rules.Shape.TheVariants as shape
use Rattle.rv_decode.specs.Decoding.{instr_of_word}
use Rattle.rv_decode.specs.Groups.{a0, a7, group_of, places_of, reads_of, service_group}
use Rattle.rv_decode.specs.declared.groups.Group.TheVariants as group
use Rattle.rv_decode.specs.declared.instructions.Instr.{Instr}
use Rattle.rv_decode.specs.declared.instructions.Instr.TheVariants as instr
use Rattle.rv_decode.specs.declared.places.Reads.{Reads}
use Rattle.rv_step.specs.Checks.{first_fault}
use Rattle.rv_step.specs.Effects.{effect_of}
use Rattle.rv_step.specs.declared.effects.Effect.{Effect}
use Rattle.rv_step.specs.declared.faults.Fault.{Fault}
use Rattle.rv_step.specs.declared.faults.Fault.TheVariants.{Fetch, Illegal}
use Rattle.tag_memory.specs.Hart.{HartState, reg_value}
use Rattle.tag_memory.specs.Ram.{RamState, ram_bytes, ram_tag}
use Rattle.turn_steps.specs.Looks.{checked_look, effect_at, effect_or_fault, fetch_result, found_or, is_call, look_at, look_result, operand, operand_tag, read_instr}
use Rattle.turn_steps.specs.Peeks.{Peek, asked_at, asked_if, fetched_peeked, peeked, shape_of, word_peeked}
use Rattle.turn_steps.specs.declared.look.Look.{Look}
use Rattle.engine_trait.specs.Machine.{Machine, hart_at}
use Rattle.policy_trait.specs.Model.{PolicyModel}
use Rattle.policy_trait.specs.declared.services.Plan.{Plan}
use Rattle.secret_runs.specs.Alike.{AlikeHarts, AlikeMachines, AlikeRams}
use Rattle.secret_runs.specs.Hides.{Hides, OkBy, tells_first}
use Rattle.secret_runs.proofs.EffectLemmas.{AlikeEffects, effect_alike, faults_alike, looks_at_first, looks_at_second}
use Rattle.secret_runs.proofs.ValueLemmas.{AlikeFound, counts_alike, found_at, hart_alike, operand_same, operand_tags_same, ram_tags_same, value_same}

-- ---- an instruction by itself

-- the service's number decides the group and the places of an ECALL alone

pub group_same : (it : Instr) (s t : ℕ) → (shape_of it ≡ Some shape.Call → t ≡ s) → group_of it t ≡ group_of it s
group_same (instr.Lui _ _) s t same = refl
group_same (instr.Auipc _ _) s t same = refl
group_same (instr.Jal _ _) s t same = refl
group_same (instr.Jalr _ _ _) s t same = refl
group_same (instr.Beq _ _ _) s t same = refl
group_same (instr.Bne _ _ _) s t same = refl
group_same (instr.Blt _ _ _) s t same = refl
group_same (instr.Bge _ _ _) s t same = refl
group_same (instr.Bltu _ _ _) s t same = refl
group_same (instr.Bgeu _ _ _) s t same = refl
group_same (instr.Lb _ _ _) s t same = refl
group_same (instr.Lh _ _ _) s t same = refl
group_same (instr.Lw _ _ _) s t same = refl
group_same (instr.Lbu _ _ _) s t same = refl
group_same (instr.Lhu _ _ _) s t same = refl
group_same (instr.Sb _ _ _) s t same = refl
group_same (instr.Sh _ _ _) s t same = refl
group_same (instr.Sw _ _ _) s t same = refl
group_same (instr.Addi _ _ _) s t same = refl
group_same (instr.Slti _ _ _) s t same = refl
group_same (instr.Sltiu _ _ _) s t same = refl
group_same (instr.Xori _ _ _) s t same = refl
group_same (instr.Ori _ _ _) s t same = refl
group_same (instr.Andi _ _ _) s t same = refl
group_same (instr.Slli _ _ _) s t same = refl
group_same (instr.Srli _ _ _) s t same = refl
group_same (instr.Srai _ _ _) s t same = refl
group_same (instr.Add _ _ _) s t same = refl
group_same (instr.Sub _ _ _) s t same = refl
group_same (instr.Sll _ _ _) s t same = refl
group_same (instr.Slt _ _ _) s t same = refl
group_same (instr.Sltu _ _ _) s t same = refl
group_same (instr.Xor _ _ _) s t same = refl
group_same (instr.Srl _ _ _) s t same = refl
group_same (instr.Sra _ _ _) s t same = refl
group_same (instr.Or _ _ _) s t same = refl
group_same (instr.And _ _ _) s t same = refl
group_same (instr.Mul _ _ _) s t same = refl
group_same (instr.Mulh _ _ _) s t same = refl
group_same (instr.Mulhsu _ _ _) s t same = refl
group_same (instr.Mulhu _ _ _) s t same = refl
group_same (instr.Div _ _ _) s t same = refl
group_same (instr.Divu _ _ _) s t same = refl
group_same (instr.Rem _ _ _) s t same = refl
group_same (instr.Remu _ _ _) s t same = refl
group_same (instr.Fence _) s t same = refl
group_same instr.Ecall s t same = ap service_group (same refl)
group_same instr.Ebreak s t same = refl

pub places_same : (it : Instr) (s t : ℕ) → (shape_of it ≡ Some shape.Call → t ≡ s) → places_of it t ≡ places_of it s
places_same (instr.Lui _ _) s t same = refl
places_same (instr.Auipc _ _) s t same = refl
places_same (instr.Jal _ _) s t same = refl
places_same (instr.Jalr _ _ _) s t same = refl
places_same (instr.Beq _ _ _) s t same = refl
places_same (instr.Bne _ _ _) s t same = refl
places_same (instr.Blt _ _ _) s t same = refl
places_same (instr.Bge _ _ _) s t same = refl
places_same (instr.Bltu _ _ _) s t same = refl
places_same (instr.Bgeu _ _ _) s t same = refl
places_same (instr.Lb _ _ _) s t same = refl
places_same (instr.Lh _ _ _) s t same = refl
places_same (instr.Lw _ _ _) s t same = refl
places_same (instr.Lbu _ _ _) s t same = refl
places_same (instr.Lhu _ _ _) s t same = refl
places_same (instr.Sb _ _ _) s t same = refl
places_same (instr.Sh _ _ _) s t same = refl
places_same (instr.Sw _ _ _) s t same = refl
places_same (instr.Addi _ _ _) s t same = refl
places_same (instr.Slti _ _ _) s t same = refl
places_same (instr.Sltiu _ _ _) s t same = refl
places_same (instr.Xori _ _ _) s t same = refl
places_same (instr.Ori _ _ _) s t same = refl
places_same (instr.Andi _ _ _) s t same = refl
places_same (instr.Slli _ _ _) s t same = refl
places_same (instr.Srli _ _ _) s t same = refl
places_same (instr.Srai _ _ _) s t same = refl
places_same (instr.Add _ _ _) s t same = refl
places_same (instr.Sub _ _ _) s t same = refl
places_same (instr.Sll _ _ _) s t same = refl
places_same (instr.Slt _ _ _) s t same = refl
places_same (instr.Sltu _ _ _) s t same = refl
places_same (instr.Xor _ _ _) s t same = refl
places_same (instr.Srl _ _ _) s t same = refl
places_same (instr.Sra _ _ _) s t same = refl
places_same (instr.Or _ _ _) s t same = refl
places_same (instr.And _ _ _) s t same = refl
places_same (instr.Mul _ _ _) s t same = refl
places_same (instr.Mulh _ _ _) s t same = refl
places_same (instr.Mulhsu _ _ _) s t same = refl
places_same (instr.Mulhu _ _ _) s t same = refl
places_same (instr.Div _ _ _) s t same = refl
places_same (instr.Divu _ _ _) s t same = refl
places_same (instr.Rem _ _ _) s t same = refl
places_same (instr.Remu _ _ _) s t same = refl
places_same (instr.Fence _) s t same = refl
places_same instr.Ecall s t same = ap (places_of instr.Ecall) (same refl)
places_same instr.Ebreak s t same = refl

moves_nothing : (moves : Bool) → tells_first (if moves then group.Move else group.AddImm) ≡ false
moves_nothing true = refl
moves_nothing false = refl

not_both : {P : Type 0} (b : Bool) → b ≡ false → b ≡ true → P
not_both true is other = absurd (let h : true ≡ false = is in cc)
not_both false is other = absurd (let h : false ≡ true = other in cc)

-- what tells its first operand is an ECALL, whose first operand is a0
pub teller_reads : (it : Instr) (service : ℕ) → tells_first (group_of it service) ≡ true → (reads_of it).t1 ≡ Some a0
teller_reads (instr.Lui _ _) service tells = absurd cc
teller_reads (instr.Auipc _ _) service tells = absurd cc
teller_reads (instr.Jal _ _) service tells = absurd cc
teller_reads (instr.Jalr _ _ _) service tells = absurd cc
teller_reads (instr.Beq _ _ _) service tells = absurd cc
teller_reads (instr.Bne _ _ _) service tells = absurd cc
teller_reads (instr.Blt _ _ _) service tells = absurd cc
teller_reads (instr.Bge _ _ _) service tells = absurd cc
teller_reads (instr.Bltu _ _ _) service tells = absurd cc
teller_reads (instr.Bgeu _ _ _) service tells = absurd cc
teller_reads (instr.Lb _ _ _) service tells = absurd cc
teller_reads (instr.Lh _ _ _) service tells = absurd cc
teller_reads (instr.Lw _ _ _) service tells = absurd cc
teller_reads (instr.Lbu _ _ _) service tells = absurd cc
teller_reads (instr.Lhu _ _ _) service tells = absurd cc
teller_reads (instr.Sb _ _ _) service tells = absurd cc
teller_reads (instr.Sh _ _ _) service tells = absurd cc
teller_reads (instr.Sw _ _ _) service tells = absurd cc
teller_reads (instr.Addi rd rs1 imm) service tells = not_both (tells_first (group_of (instr.Addi rd rs1 imm) service)) (moves_nothing (imm == 0)) tells
teller_reads (instr.Slti _ _ _) service tells = absurd cc
teller_reads (instr.Sltiu _ _ _) service tells = absurd cc
teller_reads (instr.Xori _ _ _) service tells = absurd cc
teller_reads (instr.Ori _ _ _) service tells = absurd cc
teller_reads (instr.Andi _ _ _) service tells = absurd cc
teller_reads (instr.Slli _ _ _) service tells = absurd cc
teller_reads (instr.Srli _ _ _) service tells = absurd cc
teller_reads (instr.Srai _ _ _) service tells = absurd cc
teller_reads (instr.Add _ _ _) service tells = absurd cc
teller_reads (instr.Sub _ _ _) service tells = absurd cc
teller_reads (instr.Sll _ _ _) service tells = absurd cc
teller_reads (instr.Slt _ _ _) service tells = absurd cc
teller_reads (instr.Sltu _ _ _) service tells = absurd cc
teller_reads (instr.Xor _ _ _) service tells = absurd cc
teller_reads (instr.Srl _ _ _) service tells = absurd cc
teller_reads (instr.Sra _ _ _) service tells = absurd cc
teller_reads (instr.Or _ _ _) service tells = absurd cc
teller_reads (instr.And _ _ _) service tells = absurd cc
teller_reads (instr.Mul _ _ _) service tells = absurd cc
teller_reads (instr.Mulh _ _ _) service tells = absurd cc
teller_reads (instr.Mulhsu _ _ _) service tells = absurd cc
teller_reads (instr.Mulhu _ _ _) service tells = absurd cc
teller_reads (instr.Div _ _ _) service tells = absurd cc
teller_reads (instr.Divu _ _ _) service tells = absurd cc
teller_reads (instr.Rem _ _ _) service tells = absurd cc
teller_reads (instr.Remu _ _ _) service tells = absurd cc
teller_reads (instr.Fence _) service tells = absurd cc
teller_reads instr.Ecall service tells = refl
teller_reads instr.Ebreak service tells = absurd cc

-- what makes a call is an ECALL, whose second operand is a7
pub caller_reads : (it : Instr) → shape_of it ≡ Some shape.Call → (reads_of it).t2 ≡ Some a7
caller_reads (instr.Lui _ _) calls = absurd cc
caller_reads (instr.Auipc _ _) calls = absurd cc
caller_reads (instr.Jal _ _) calls = absurd cc
caller_reads (instr.Jalr _ _ _) calls = absurd cc
caller_reads (instr.Beq _ _ _) calls = absurd cc
caller_reads (instr.Bne _ _ _) calls = absurd cc
caller_reads (instr.Blt _ _ _) calls = absurd cc
caller_reads (instr.Bge _ _ _) calls = absurd cc
caller_reads (instr.Bltu _ _ _) calls = absurd cc
caller_reads (instr.Bgeu _ _ _) calls = absurd cc
caller_reads (instr.Lb _ _ _) calls = absurd cc
caller_reads (instr.Lh _ _ _) calls = absurd cc
caller_reads (instr.Lw _ _ _) calls = absurd cc
caller_reads (instr.Lbu _ _ _) calls = absurd cc
caller_reads (instr.Lhu _ _ _) calls = absurd cc
caller_reads (instr.Sb _ _ _) calls = absurd cc
caller_reads (instr.Sh _ _ _) calls = absurd cc
caller_reads (instr.Sw _ _ _) calls = absurd cc
caller_reads (instr.Addi _ _ _) calls = absurd cc
caller_reads (instr.Slti _ _ _) calls = absurd cc
caller_reads (instr.Sltiu _ _ _) calls = absurd cc
caller_reads (instr.Xori _ _ _) calls = absurd cc
caller_reads (instr.Ori _ _ _) calls = absurd cc
caller_reads (instr.Andi _ _ _) calls = absurd cc
caller_reads (instr.Slli _ _ _) calls = absurd cc
caller_reads (instr.Srli _ _ _) calls = absurd cc
caller_reads (instr.Srai _ _ _) calls = absurd cc
caller_reads (instr.Add _ _ _) calls = absurd cc
caller_reads (instr.Sub _ _ _) calls = absurd cc
caller_reads (instr.Sll _ _ _) calls = absurd cc
caller_reads (instr.Slt _ _ _) calls = absurd cc
caller_reads (instr.Sltu _ _ _) calls = absurd cc
caller_reads (instr.Xor _ _ _) calls = absurd cc
caller_reads (instr.Srl _ _ _) calls = absurd cc
caller_reads (instr.Sra _ _ _) calls = absurd cc
caller_reads (instr.Or _ _ _) calls = absurd cc
caller_reads (instr.And _ _ _) calls = absurd cc
caller_reads (instr.Mul _ _ _) calls = absurd cc
caller_reads (instr.Mulh _ _ _) calls = absurd cc
caller_reads (instr.Mulhsu _ _ _) calls = absurd cc
caller_reads (instr.Mulhu _ _ _) calls = absurd cc
caller_reads (instr.Div _ _ _) calls = absurd cc
caller_reads (instr.Divu _ _ _) calls = absurd cc
caller_reads (instr.Rem _ _ _) calls = absurd cc
caller_reads (instr.Remu _ _ _) calls = absurd cc
caller_reads (instr.Fence _) calls = absurd cc
caller_reads instr.Ecall calls = refl
caller_reads instr.Ebreak calls = absurd cc

calls_nothing : (moves : Bool) → is_call (if moves then group.Move else group.AddImm) ≡ false
calls_nothing true = refl
calls_nothing false = refl

-- a call of a policy's service is one
pub call_shape : (it : Instr) (service : ℕ) → is_call (group_of it service) ≡ true → shape_of it ≡ Some shape.Call
call_shape (instr.Lui _ _) service calls = absurd cc
call_shape (instr.Auipc _ _) service calls = absurd cc
call_shape (instr.Jal _ _) service calls = absurd cc
call_shape (instr.Jalr _ _ _) service calls = absurd cc
call_shape (instr.Beq _ _ _) service calls = absurd cc
call_shape (instr.Bne _ _ _) service calls = absurd cc
call_shape (instr.Blt _ _ _) service calls = absurd cc
call_shape (instr.Bge _ _ _) service calls = absurd cc
call_shape (instr.Bltu _ _ _) service calls = absurd cc
call_shape (instr.Bgeu _ _ _) service calls = absurd cc
call_shape (instr.Lb _ _ _) service calls = absurd cc
call_shape (instr.Lh _ _ _) service calls = absurd cc
call_shape (instr.Lw _ _ _) service calls = absurd cc
call_shape (instr.Lbu _ _ _) service calls = absurd cc
call_shape (instr.Lhu _ _ _) service calls = absurd cc
call_shape (instr.Sb _ _ _) service calls = absurd cc
call_shape (instr.Sh _ _ _) service calls = absurd cc
call_shape (instr.Sw _ _ _) service calls = absurd cc
call_shape (instr.Addi rd rs1 imm) service calls = not_both (is_call (group_of (instr.Addi rd rs1 imm) service)) (calls_nothing (imm == 0)) calls
call_shape (instr.Slti _ _ _) service calls = absurd cc
call_shape (instr.Sltiu _ _ _) service calls = absurd cc
call_shape (instr.Xori _ _ _) service calls = absurd cc
call_shape (instr.Ori _ _ _) service calls = absurd cc
call_shape (instr.Andi _ _ _) service calls = absurd cc
call_shape (instr.Slli _ _ _) service calls = absurd cc
call_shape (instr.Srli _ _ _) service calls = absurd cc
call_shape (instr.Srai _ _ _) service calls = absurd cc
call_shape (instr.Add _ _ _) service calls = absurd cc
call_shape (instr.Sub _ _ _) service calls = absurd cc
call_shape (instr.Sll _ _ _) service calls = absurd cc
call_shape (instr.Slt _ _ _) service calls = absurd cc
call_shape (instr.Sltu _ _ _) service calls = absurd cc
call_shape (instr.Xor _ _ _) service calls = absurd cc
call_shape (instr.Srl _ _ _) service calls = absurd cc
call_shape (instr.Sra _ _ _) service calls = absurd cc
call_shape (instr.Or _ _ _) service calls = absurd cc
call_shape (instr.And _ _ _) service calls = absurd cc
call_shape (instr.Mul _ _ _) service calls = absurd cc
call_shape (instr.Mulh _ _ _) service calls = absurd cc
call_shape (instr.Mulhsu _ _ _) service calls = absurd cc
call_shape (instr.Mulhu _ _ _) service calls = absurd cc
call_shape (instr.Div _ _ _) service calls = absurd cc
call_shape (instr.Divu _ _ _) service calls = absurd cc
call_shape (instr.Rem _ _ _) service calls = absurd cc
call_shape (instr.Remu _ _ _) service calls = absurd cc
call_shape (instr.Fence _) service calls = absurd cc
call_shape instr.Ecall service calls = refl
call_shape instr.Ebreak service calls = absurd cc

-- ---- in two worlds

module _ {S T : Type 0} (is_open : T → Bool) (m : PolicyModel T S) (like : S → S → Type 0) (kin : S → Plan T → Plan T → Type 0) (hides : Hides is_open m like kin)
    (s t : Machine S T) (alike : AlikeMachines is_open like s t) (h : ℕ) where
  -- what is looked at in both, and who is asked whether it may be

  abbrev pub p : Peek T
  p = m.peek s.policy

  abbrev pub q : Peek T
  q = m.peek t.policy

  abbrev pub a : HartState T
  a = hart_at s.core h

  abbrev pub b : HartState T
  b = hart_at t.core h

  abbrev pub ra : RamState T
  ra = s.core.ram

  abbrev pub rb : RamState T
  rb = t.core.ram

  pub harts : AlikeHarts is_open a b
  harts = hart_alike is_open s.core t.core alike.core h

  pub rams : AlikeRams is_open ra rb
  rams = alike.core.ram

  first_open : (look : Shape) (x y : T) → p look x y ≡ Ok tt → is_open x ≡ true
  first_open = hides.first_open s.policy t.policy alike.policy

  second_open : (look : Shape) (x y : T) → p look x y ≡ Ok tt → is_open y ≡ true
  second_open = hides.second_open s.policy t.policy alike.policy

  same : (look : Shape) (x y : T) → q look x y ≡ p look x y
  same = hides.peek s.policy t.policy alike.policy

  abbrev pub FirstSame : Instr → Type 0
  FirstSame it = operand b (reads_of it).t1 ≡ operand a (reads_of it).t1

  abbrev pub SecondSame : Instr → Type 0
  SecondSame it = operand b (reads_of it).t2 ≡ operand a (reads_of it).t2

  -- looks of one instruction, which may look at what it looks at
  pub record AlikeLooks (l k : Look) : Type 0 where
    pub word : ℕ
    pub it : Instr
    pub e : Effect
    pub d : Effect
    pub first_is : l ≡ look_at a word it e
    pub second_is : k ≡ look_at b word it d
    pub decoded : instr_of_word word ≡ Some it
    pub seen : asked_if p a (reads_of it) (shape_of it) ≡ Ok tt
    pub effects : AlikeEffects (FirstSame it) (SecondSame it) (group_of it (reg_value a a7)) e d

  -- ---- the policy is asked alike

  asked_same : (reads : Reads) (look : Shape) → asked_at q b reads look ≡ asked_at p a reads look
  asked_same reads shape.Branch = λ j. same shape.Branch (operand_tags_same is_open a b harts reads.t1 j) (operand_tags_same is_open a b harts reads.t2 j) j
  asked_same reads shape.Call = λ j. same shape.Call (operand_tags_same is_open a b harts reads.t2 j) (harts.plain j) j
  asked_same reads shape.Word = λ j. same shape.Word (operand_tags_same is_open a b harts reads.t1 j) (harts.plain j) j
  asked_same reads shape.Load = λ j. same shape.Load (operand_tags_same is_open a b harts reads.t1 j) (harts.plain j) j
  asked_same reads shape.Store = λ j. same shape.Store (operand_tags_same is_open a b harts reads.t1 j) (harts.plain j) j
  asked_same reads shape.Jump = λ j. same shape.Jump (operand_tags_same is_open a b harts reads.t1 j) (harts.plain j) j

  asked_if_same : (reads : Reads) (look : Option Shape) → asked_if q b reads look ≡ asked_if p a reads look
  asked_if_same reads None = refl
  asked_if_same reads (Some look) = asked_same reads look

  -- what is looked at is open

  first_seen : (reads : Reads) (look : Option Shape) → asked_if p a reads look ≡ Ok tt → looks_at_first look ≡ true → is_open (operand_tag a reads.t1) ≡ true
  first_seen reads (Some shape.Branch) seen looks = first_open shape.Branch (operand_tag a reads.t1) (operand_tag a reads.t2) seen
  first_seen reads (Some shape.Load) seen looks = first_open shape.Load (operand_tag a reads.t1) a.plain seen
  first_seen reads (Some shape.Store) seen looks = first_open shape.Store (operand_tag a reads.t1) a.plain seen
  first_seen reads (Some shape.Jump) seen looks = first_open shape.Jump (operand_tag a reads.t1) a.plain seen
  first_seen reads (Some shape.Call) seen looks = absurd cc
  first_seen reads (Some shape.Word) seen looks = absurd cc
  first_seen reads None seen looks = absurd cc

  second_seen : (reads : Reads) (look : Option Shape) → asked_if p a reads look ≡ Ok tt → looks_at_second look ≡ true → is_open (operand_tag a reads.t2) ≡ true
  second_seen reads (Some shape.Branch) seen looks = second_open shape.Branch (operand_tag a reads.t1) (operand_tag a reads.t2) seen
  second_seen reads (Some shape.Call) seen looks = first_open shape.Call (operand_tag a reads.t2) a.plain seen
  second_seen reads (Some shape.Load) seen looks = absurd cc
  second_seen reads (Some shape.Store) seen looks = absurd cc
  second_seen reads (Some shape.Jump) seen looks = absurd cc
  second_seen reads (Some shape.Word) seen looks = absurd cc
  second_seen reads None seen looks = absurd cc

  -- the number of the service that an ECALL calls
  pub number_same : (it : Instr) → asked_if p a (reads_of it) (shape_of it) ≡ Ok tt → shape_of it ≡ Some shape.Call → reg_value b a7 ≡ reg_value a a7
  number_same it seen calls =
      let looks : looks_at_second (shape_of it) ≡ true = ap looks_at_second calls in
      value_same is_open a b harts a7 (subst (λ register. is_open (operand_tag a register) ≡ true) (caller_reads it calls) (second_seen (reads_of it) (shape_of it) seen looks))

  -- ---- the checks

  effects_same : (it : Instr) → asked_if p a (reads_of it) (shape_of it) ≡ Ok tt
      → AlikeEffects (FirstSame it) (SecondSame it) (group_of it (reg_value a a7)) (effect_at a it) (effect_at b it)
  effects_same it seen =
      subst (λ (pc : ℕ). AlikeEffects (FirstSame it) (SecondSame it) (group_of it (reg_value a a7)) (effect_at a it) (effect_of it pc (operand b (reads_of it).t1) (operand b (reads_of it).t2)))
      (sym harts.pc)
      (effect_alike a.pc (operand a (reads_of it).t1) (operand a (reads_of it).t2) (operand b (reads_of it).t1) (operand b (reads_of it).t2) it (reg_value a a7)
      (λ looks. operand_same is_open a b harts (reads_of it).t1 (first_seen (reads_of it) (shape_of it) seen looks))
      (λ looks. operand_same is_open a b harts (reads_of it).t2 (second_seen (reads_of it) (shape_of it) seen looks)))

  -- what is looked at, by whether a check fails
  by_fault : (word : ℕ) (it : Instr) (e d : Effect) (fault : Option Fault) → instr_of_word word ≡ Some it → asked_if p a (reads_of it) (shape_of it) ≡ Ok tt
      → AlikeEffects (FirstSame it) (SecondSame it) (group_of it (reg_value a a7)) e d
      → OkBy AlikeLooks (effect_or_fault e fault >>= λ effect. Ok (look_at a word it effect)) (effect_or_fault d fault >>= λ effect. Ok (look_at b word it effect))
  by_fault word it e d None decoded seen effects =
      record { word = word; it = it; e = e; d = d; first_is = refl; second_is = refl; decoded = decoded; seen = seen; effects = effects }
  by_fault word it e d (Some fault) decoded seen effects = refl

  bytes_same : ram_bytes rb ≡ ram_bytes ra
  bytes_same = ap (λ (n : ℕ). 4 * n) (counts_alike is_open ra.tags ra.words rb.words rams.words)

  checked_alike : (word : ℕ) (it : Instr) → instr_of_word word ≡ Some it → asked_if p a (reads_of it) (shape_of it) ≡ Ok tt
      → OkBy AlikeLooks (checked_look a ra word it) (checked_look b rb word it)
  checked_alike word it decoded seen =
      let effects = effects_same it seen in
      let faults = ap (first_fault (effect_at b it)) bytes_same ∙ faults_alike (FirstSame it) (SecondSame it) (group_of it (reg_value a a7)) (effect_at a it) (effect_at b it) (ram_bytes ra) effects in
      subst (λ (fault : Option Fault). OkBy AlikeLooks (checked_look a ra word it) (effect_or_fault (effect_at b it) fault >>= λ effect. Ok (look_at b word it effect)))
      (sym faults)
      (by_fault word it (effect_at a it) (effect_at b it) (first_fault (effect_at a it) (ram_bytes ra)) decoded seen effects)

  -- ---- the instruction of the word, which is open

  abbrev pub AlikeSeen : Result (Unit {0}) Refused → Result Look Fault → Result (Unit {0}) Refused → Result Look Fault → Type 0
  AlikeSeen r found s other = (s ≡ r) × (r ≡ Ok tt → OkBy AlikeLooks found other)

  abbrev then_look : HartState T → RamState T → ℕ → Result Instr Fault → Result Look Fault
  then_look hart ram word read = read >>= λ it. checked_look hart ram word it

  by_decoded : (word : ℕ) (found : Option Instr) → instr_of_word word ≡ found
      → AlikeSeen (word_peeked p a (found_or (Illegal word) found)) (then_look a ra word (found_or (Illegal word) found))
      (word_peeked q b (found_or (Illegal word) found)) (then_look b rb word (found_or (Illegal word) found))
  by_decoded word None is = (refl, λ seen. refl)
  by_decoded word (Some it) is = (asked_if_same (reads_of it) (shape_of it), checked_alike word it is)

  -- ---- the word at the pc

  abbrev AlikeFetched : Result ℕ Fault → Result ℕ Fault → Type 0
  AlikeFetched (Ok w) (Ok v) = is_open (ram_tag ra a.pc) ≡ true → v ≡ w
  AlikeFetched (Err e) (Err f) = f ≡ e
  AlikeFetched _ _ = ⊥

  found_alike : (fault : Fault) (x y : Option ℕ) → AlikeFound is_open (ram_tag ra a.pc) x y → AlikeFetched (found_or fault x) (found_or fault y)
  found_alike fault None None alike = refl
  found_alike fault (Some x) (Some y) alike = alike
  found_alike fault None (Some y) alike = absurd alike
  found_alike fault (Some x) None alike = absurd alike

  fetched_alike : AlikeFetched (fetch_result a ra) (fetch_result b rb)
  fetched_alike =
      subst (λ (pc : ℕ). AlikeFetched (fetch_result a ra) (found_or (Fetch pc) (slice_get rb.words (pc / 4)))) (sym harts.pc)
      (found_alike (Fetch a.pc) (slice_get ra.words (a.pc / 4)) (slice_get rb.words (a.pc / 4)) (found_at is_open ra.tags ra.words rb.words (a.pc / 4) ra.plain rams.words))

  abbrev look_from : HartState T → RamState T → Result ℕ Fault → Result Look Fault
  look_from hart ram fetched = fetched >>= λ word. then_look hart ram word (read_instr word)

  words_asked : q shape.Word (ram_tag rb b.pc) b.plain ≡ p shape.Word (ram_tag ra a.pc) a.plain
  words_asked =
      (λ j. same shape.Word (ram_tag rb (harts.pc j)) (harts.plain j) j)
      ∙ ap (λ tag. p shape.Word tag a.plain) (ram_tags_same is_open ra rb rams a.pc)

  by_asked : (w v : ℕ) (asked : Result (Unit {0}) Refused) → (is_open (ram_tag ra a.pc) ≡ true → v ≡ w) → p shape.Word (ram_tag ra a.pc) a.plain ≡ asked
      → AlikeSeen (asked >>= λ seen. word_peeked p a (read_instr w)) (look_from a ra (Ok w)) (asked >>= λ seen. word_peeked q b (read_instr v)) (look_from b rb (Ok v))
  by_asked w v (Ok x) alike is =
      let clear = first_open shape.Word (ram_tag ra a.pc) a.plain is in
      subst (λ (word : ℕ). AlikeSeen (word_peeked p a (read_instr w)) (look_from a ra (Ok w)) (word_peeked q b (read_instr word)) (look_from b rb (Ok word)))
      (sym (alike clear)) (by_decoded w (instr_of_word w) refl)
  by_asked w v (Err refused) alike is = (refl, λ seen. absurd cc)

  by_fetched : (found other : Result ℕ Fault) → AlikeFetched found other
      → AlikeSeen (fetched_peeked p a ra found) (look_from a ra found) (fetched_peeked q b rb other) (look_from b rb other)
  by_fetched (Err e) (Err f) alike = (refl, λ seen. alike)
  by_fetched (Ok w) (Ok v) alike =
      subst (λ (asked : Result (Unit {0}) Refused). AlikeSeen (p shape.Word (ram_tag ra a.pc) a.plain >>= λ seen. word_peeked p a (read_instr w)) (look_from a ra (Ok w))
      (asked >>= λ seen. word_peeked q b (read_instr v)) (look_from b rb (Ok v)))
      (sym words_asked) (by_asked w v (p shape.Word (ram_tag ra a.pc) a.plain) alike refl)
  by_fetched (Ok w) (Err f) alike = absurd alike
  by_fetched (Err e) (Ok v) alike = absurd alike

  -- The policy is asked alike; and where it lets the turn look, either both are about to do the same, but for secret values, or both
  -- stop for the same reason.
  pub looks_alike : AlikeSeen (peeked p a ra) (look_result a ra) (peeked q b rb) (look_result b rb)
  unfolding peeked look_result
  looks_alike = by_fetched (fetch_result a ra) (fetch_result b rb) fetched_alike
