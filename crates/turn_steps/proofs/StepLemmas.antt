-- An instruction that is neither an ECALL nor an EBREAK: how it is told, that it calls no service, and what it leaves.
use Rattle.std.proofs.Common.{◌≡◌, ℕ, ◌%◌, ◌==◌, Bool, true, false, if◌then◌else◌, Option, Some, None, Result, Ok, Err, refl, ap, sym, ◌∙◌}
use Rattle.std.proofs.lemmas.Option.{none-some, same_Some}
use Rattle.shared_terms.specs.Steps.{◌>>=◌}
use Rattle.rv_decode.specs.Groups.{a7, exit_service, get_service, group_of, put_service}
use Rattle.rv_decode.specs.declared.groups.Group.{Group}
use Rattle.rv_decode.specs.declared.groups.Group.TheVariants as group
use Rattle.rv_decode.specs.declared.instructions.Instr.{Instr}
use Rattle.rv_decode.specs.declared.instructions.Instr.TheVariants as instr
use Rattle.rv_step.specs.CheckLaws.{next_aligned}
use Rattle.rv_step.specs.Checks.{first_fault}
use Rattle.rv_step.specs.Effects.{passes}
use Rattle.rv_step.specs.declared.effects.Effect.{Effect}
use Rattle.rv_step.specs.declared.faults.Fault.{Fault}
use Rattle.policy_trait.specs.declared.rules.Outs.{Outs}
use Rattle.tag_memory.specs.Hart.{HartState, reg_value}
use Rattle.tag_memory.specs.Ram.{RamState, ram_bytes}
use Rattle.turn_steps.specs.Effects.{Carried, IsSound, carried_by, effect_result, hart_after, with_store}
use Rattle.turn_steps.specs.Feeds.{Tape}
use Rattle.turn_steps.specs.Looks.{checked_look, effect_at, effect_or_fault, fetch_result, is_call, is_system, is_system_instr, look_at, look_result, read_instr, unless_system}
use Rattle.turn_steps.specs.declared.effects.Done.TheVariants.{Stepped}
use Rattle.turn_steps.specs.declared.look.Look.{Look}

-- ---- whether it is one

-- ADDI is none, whether it moves or adds; and each service is one of them
adds : (moves : Bool) → is_system (if moves then group.Move else group.AddImm) ≡ false
adds true = refl
adds false = refl

calls : (exits puts gets : Bool) → is_system (if exits then group.Exit else if puts then group.Put else if gets then group.Get else group.Call) ≡ true
calls true puts gets = refl
calls false true gets = refl
calls false false true = refl
calls false false false = refl

system_group : (it : Instr) (service : ℕ) → is_system (group_of it service) ≡ is_system_instr it
system_group (instr.Lui _ _) service = refl
system_group (instr.Auipc _ _) service = refl
system_group (instr.Jal _ _) service = refl
system_group (instr.Addi _ _ imm) service = adds (imm == 0)
system_group (instr.Fence _) service = refl
system_group instr.Ecall service = calls (service == exit_service) (service == put_service) (service == get_service)
system_group instr.Ebreak service = refl
system_group (instr.Lb _ _ _) service = refl
system_group (instr.Lh _ _ _) service = refl
system_group (instr.Lw _ _ _) service = refl
system_group (instr.Lbu _ _ _) service = refl
system_group (instr.Lhu _ _ _) service = refl
system_group (instr.Sb _ _ _) service = refl
system_group (instr.Sh _ _ _) service = refl
system_group (instr.Sw _ _ _) service = refl
system_group (instr.Jalr _ _ _) service = refl
system_group (instr.Beq _ _ _) service = refl
system_group (instr.Bne _ _ _) service = refl
system_group (instr.Blt _ _ _) service = refl
system_group (instr.Bge _ _ _) service = refl
system_group (instr.Bltu _ _ _) service = refl
system_group (instr.Bgeu _ _ _) service = refl
system_group (instr.Slti _ _ _) service = refl
system_group (instr.Sltiu _ _ _) service = refl
system_group (instr.Xori _ _ _) service = refl
system_group (instr.Ori _ _ _) service = refl
system_group (instr.Andi _ _ _) service = refl
system_group (instr.Slli _ _ _) service = refl
system_group (instr.Srli _ _ _) service = refl
system_group (instr.Srai _ _ _) service = refl
system_group (instr.Add _ _ _) service = refl
system_group (instr.Sub _ _ _) service = refl
system_group (instr.Sll _ _ _) service = refl
system_group (instr.Slt _ _ _) service = refl
system_group (instr.Sltu _ _ _) service = refl
system_group (instr.Xor _ _ _) service = refl
system_group (instr.Srl _ _ _) service = refl
system_group (instr.Sra _ _ _) service = refl
system_group (instr.Or _ _ _) service = refl
system_group (instr.And _ _ _) service = refl
system_group (instr.Mul _ _ _) service = refl
system_group (instr.Mulh _ _ _) service = refl
system_group (instr.Mulhsu _ _ _) service = refl
system_group (instr.Mulhu _ _ _) service = refl
system_group (instr.Div _ _ _) service = refl
system_group (instr.Divu _ _ _) service = refl
system_group (instr.Rem _ _ _) service = refl
system_group (instr.Remu _ _ _) service = refl

abbrev pub nothing : Option Look
nothing = None

-- the look where the checks pass
abbrev pub or_none : Result Look Fault → Option Look
or_none (Ok look) = Some look
or_none (Err fault) = None

module _ {T : Type 0} (hart : HartState T) (ram : RamState T) (word : ℕ) (it : Instr) where
  by_effect : (found : Result Effect Fault) → unless_system (found >>= λ effect. Ok (look_at hart word it effect))
      ≡ (if is_system_instr it then None else or_none (found >>= λ effect. Ok (look_at hart word it effect)))
  by_effect (Ok effect) = ap (λ system. if system then None else Some (look_at hart word it effect)) (system_group it (reg_value hart a7))
  by_effect (Err fault) = none_either (is_system_instr it)
    where
      none_either : (system : Bool) → nothing ≡ (if system then nothing else nothing)
      none_either true = refl
      none_either false = refl

  pub step_checked : unless_system (checked_look hart ram word it) ≡ (if is_system_instr it then None else or_none (checked_look hart ram word it))
  step_checked = by_effect (effect_or_fault (effect_at hart it) (first_fault (effect_at hart it) (ram_bytes ram)))

  -- the look of an instruction that is none of them
  pub step_found : (look : Look) → fetch_result hart ram ≡ Ok word → read_instr word ≡ Ok it → checked_look hart ram word it ≡ Ok look → is_system_instr it ≡ false
      → unless_system (look_result hart ram) ≡ Some look
  unfolding look_result
  step_found look fetched read checked plain =
      ap (λ found. unless_system (found >>= λ w. read_instr w >>= λ i. checked_look hart ram w i)) fetched
      ∙ ap (λ found. unless_system (found >>= λ i. checked_look hart ram word i)) read
      ∙ step_checked
      ∙ ap (λ system. if system then None else or_none (checked_look hart ram word it)) plain
      ∙ ap or_none checked

-- an ECALL or an EBREAK passes every check
pub system_checked : {T : Type 0} (hart : HartState T) (ram : RamState T) (word : ℕ) (it : Instr) → is_system_instr it ≡ true
    → checked_look hart ram word it ≡ Ok (look_at hart word it (passes hart.pc))
system_checked hart ram word instr.Ecall system = refl
system_checked hart ram word instr.Ebreak system = refl
system_checked hart ram word _ system = absurd cc

-- and is carried out within the machine, at a pc that is that of a word
pub system_sound : (bytes pc : ℕ) → pc % 4 ≡ 0 → IsSound bytes (passes pc)
system_sound bytes pc aligned = record { in_memory = cc; to_word = next_aligned instr.Ecall pc 0 0 bytes aligned refl }

-- what such a look says
pub step_looked : (found : Result Look Fault) (look : Look) → unless_system found ≡ Some look → (found ≡ Ok look) × (is_system look.group ≡ false)
step_looked (Err fault) look is = absurd (none-some look is)
step_looked (Ok other) look is = by (is_system other.group) refl
  where
    found_look : Result Look Fault
    found_look = Ok other

    by : (system : Bool) → is_system other.group ≡ system → (found_look ≡ Ok look) × (is_system look.group ≡ false)
    by true system = absurd (none-some look (sym (ap (λ (b : Bool). if b then nothing else Some other) system) ∙ is))
    by false system =
        let same : other ≡ look = same_Some other look (sym (ap (λ (b : Bool). if b then nothing else Some other) system) ∙ is) in
        (ap Ok same, ap (λ (l : Look). is_system l.group) (sym same) ∙ system)

-- ---- what it does

pub not_call : (g : Group) → is_system g ≡ false → is_call g ≡ false
not_call group.Const plain = refl
not_call group.Here plain = refl
not_call group.Jal plain = refl
not_call group.Jalr plain = refl
not_call group.Branch plain = refl
not_call group.LoadWord plain = refl
not_call group.LoadPart plain = refl
not_call group.StoreWord plain = refl
not_call group.StorePart plain = refl
not_call group.Move plain = refl
not_call group.AddImm plain = refl
not_call group.AluImm plain = refl
not_call group.Add plain = refl
not_call group.Sub plain = refl
not_call group.Alu plain = refl
not_call group.Fence plain = refl
not_call group.Exit plain = refl
not_call group.Put plain = refl
not_call group.Get plain = refl
not_call group.Break plain = refl
not_call group.Call plain = absurd cc

module _ {T : Type 0} (hart : HartState T) (ram : RamState T) (feed : Tape) (look : Look) (outs : Outs T) where
  abbrev stepped : Carried T
  stepped =
      record { hart = hart_after hart ram look outs; ram = with_store ram look.effect.access outs.result; feed = feed; done = Stepped None }

  by_group : (g : Group) → is_system g ≡ false → carried_by g hart ram feed look outs ≡ stepped
  by_group group.Const plain = refl
  by_group group.Here plain = refl
  by_group group.Jal plain = refl
  by_group group.Jalr plain = refl
  by_group group.Branch plain = refl
  by_group group.LoadWord plain = refl
  by_group group.LoadPart plain = refl
  by_group group.StoreWord plain = refl
  by_group group.StorePart plain = refl
  by_group group.Move plain = refl
  by_group group.AddImm plain = refl
  by_group group.AluImm plain = refl
  by_group group.Add plain = refl
  by_group group.Sub plain = refl
  by_group group.Alu plain = refl
  by_group group.Fence plain = refl
  by_group group.Exit plain = absurd cc
  by_group group.Put plain = absurd cc
  by_group group.Get plain = absurd cc
  by_group group.Break plain = absurd cc
  by_group group.Call plain = absurd cc

  pub step_carried : is_system look.group ≡ false → effect_result hart ram feed look outs ≡ stepped
  unfolding effect_result
  step_carried plain = by_group look.group plain
