-- What a hart is about to do: the checks of a turn that no policy decides, in their order, and what its rule is asked with.
use Rattle.std.specs.Prelude.{ℕ, ◌/◌, Bool, true, false, if◌then◌else◌, Option, Some, None, Result, Ok, Err, slice_get}
use Rattle.shared_terms.specs.Steps.{◌>>=◌}
use Rattle.rv_decode.specs.Decoding.{instr_of_word}
use Rattle.rv_decode.specs.Groups.{a7, group_of, places_of, reads_of}
use Rattle.rv_decode.specs.declared.groups.Group.{Group}
use Rattle.rv_decode.specs.declared.groups.Group.TheVariants as group
use Rattle.rv_decode.specs.declared.instructions.Instr.{Instr}
use Rattle.rv_decode.specs.declared.instructions.Instr.TheVariants as instr
use Rattle.rv_decode.specs.declared.places.Places.{Places}
use Rattle.rv_step.specs.Effects.{effect_of}
use Rattle.rv_step.specs.Checks.{first_fault}
use Rattle.rv_step.specs.declared.accesses.Access.{Access}
use Rattle.rv_step.specs.declared.accesses.Access.TheVariants as access
use Rattle.rv_step.specs.declared.effects.Effect.{Effect}
use Rattle.rv_step.specs.declared.faults.Fault.{Fault}
use Rattle.rv_step.specs.declared.faults.Fault.TheVariants.{Fetch, Illegal}
use Rattle.policy_trait.specs.declared.rules.Ins.{Ins}
use Rattle.tag_memory.specs.Hart.{HartState, reg_tag, reg_value}
use Rattle.tag_memory.specs.Ram.{RamState, ram_bytes, ram_tag}
use Rattle.turn_steps.specs.declared.look.Look.{Look}

-- what stands there, or the fault
abbrev pub found_or : {A : Type 0} → Fault → Option A → Result A Fault
found_or fault None = Err fault
found_or fault (Some found) = Ok found

-- the word at the pc; a pc at or past the end of memory is a fault
abbrev pub fetch_result : {T : Type 0} → HartState T → RamState T → Result ℕ Fault
fetch_result hart ram = found_or (Fetch hart.pc) (slice_get ram.words (hart.pc / 4))

-- the instruction of a word; a word that has none is a fault
abbrev pub read_instr : ℕ → Result Instr Fault
read_instr word = found_or (Illegal word) (instr_of_word word)

-- the value of an operand: an absent one is 0
abbrev pub operand : {T : Type 0} → HartState T → Option ℕ → ℕ
operand hart None = 0
operand hart (Some r) = reg_value hart r

-- the tag of an operand: an absent one is plain
abbrev pub operand_tag : {T : Type 0} → HartState T → Option ℕ → T
operand_tag hart None = hart.plain
operand_tag hart (Some r) = reg_tag hart r

-- what the instruction computes of its operands
abbrev pub effect_at : {T : Type 0} → HartState T → Instr → Effect
effect_at hart instr = effect_of instr hart.pc (operand hart (reads_of instr).t1) (operand hart (reads_of instr).t2)

-- an effect whose access and jump have no fault
abbrev pub effect_or_fault : Effect → Option Fault → Result Effect Fault
effect_or_fault effect None = Ok effect
effect_or_fault effect (Some fault) = Err fault

-- the tag of the memory word that holds the access, plain without one
abbrev pub access_tag : {T : Type 0} → RamState T → T → Access → T
access_tag ram plain access.None = plain
access_tag ram plain (access.Load addr width signed) = ram_tag ram addr
access_tag ram plain (access.Store addr width value) = ram_tag ram addr

-- the five tags that the rule of an instruction is asked with
abbrev pub inputs_at : {T : Type 0} → HartState T → RamState T → Instr → Effect → Ins T
inputs_at hart ram instr effect = record {
  pc = hart.pc_tag;
  ci = ram_tag ram hart.pc;
  t1 = operand_tag hart (reads_of instr).t1;
  t2 = operand_tag hart (reads_of instr).t2;
  tm = access_tag ram hart.plain effect.access;
}

-- the same by plain registers, where x0 stands for an operand that there is not

-- what the instruction computes
abbrev pub effect_on : {T : Type 0} → HartState T → Instr → Places → Effect
effect_on hart instr places = effect_of instr hart.pc (reg_value hart places.first) (reg_value hart places.second)

-- the five tags that the rule is asked with
abbrev pub inputs_on : {T : Type 0} → HartState T → RamState T → Places → Access → Ins T
inputs_on hart ram places access = record {
  pc = hart.pc_tag;
  ci = ram_tag ram hart.pc;
  t1 = reg_tag hart places.first;
  t2 = reg_tag hart places.second;
  tm = access_tag ram hart.plain access;
}

-- what the hart is about to do by an instruction that has no fault
abbrev pub look_at : {T : Type 0} → HartState T → ℕ → Instr → Effect → Look
look_at hart word instr effect = record {
  word = word;
  effect = effect;
  service = reg_value hart a7;
  group = group_of instr (reg_value hart a7);
  places = places_of instr (reg_value hart a7);
}

-- the checks of the effect, alignment and range of the access and then alignment of the jump, and what passes them
abbrev pub checked_look : {T : Type 0} → HartState T → RamState T → ℕ → Instr → Result Look Fault
checked_look hart ram word instr = do
  effect ← effect_or_fault (effect_at hart instr) (first_fault (effect_at hart instr) (ram_bytes ram))
  Ok (look_at hart word instr effect)

-- Fetch, decode, checks, one behind the other: the first fault decides.
unfoldable pub look_result : {T : Type 0} → HartState T → RamState T → Result Look Fault
look_result hart ram = do
  word ← fetch_result hart ram
  instr ← read_instr word
  checked_look hart ram word instr

-- the group of a call of a policy's service
abbrev pub is_call : Group → Bool
is_call group.Call = true
is_call _ = false

-- the group of an ECALL or an EBREAK
abbrev pub is_system : Group → Bool
is_system group.Exit = true
is_system group.Put = true
is_system group.Get = true
is_system group.Break = true
is_system group.Call = true
is_system _ = false

-- ECALL and EBREAK
abbrev pub is_system_instr : Instr → Bool
is_system_instr instr.Ecall = true
is_system_instr instr.Ebreak = true
is_system_instr _ = false

-- the look of a hart that passes the checks and makes neither an ECALL nor an EBREAK
abbrev pub unless_system : Result Look Fault → Option Look
unless_system (Ok look) = if is_system look.group then None else Some look
unless_system (Err fault) = None
