-- What is known of a look where no check fails: what was fetched, and what its instruction does with values.
use Rattle.std.proofs.Common.{◌≡◌, ℕ, ◌+◌, ◌/◌, ◌%◌, ◌^◌, ◌==◌, Bool, true, false, Option, Some, None, Result, Ok, refl, ap, sym, subst, ◌∙◌, arith, if◌then◌else◌}
use Rattle.std.specs.Prelude.{slice_get}
use Rattle.std.proofs.lemmas.Bool.{eqb-true}
use Rattle.std.proofs.lemmas.Option.{get_or_from_slice_get, slice_get_within}
use Rattle.rv_decode.specs.Decoding.{instr_of_word}
use Rattle.rv_decode.specs.Groups.{a7, addi_group, group_of, service_group}
use Rattle.rv_decode.specs.declared.groups.Group.{Group}
use Rattle.rv_decode.specs.declared.groups.Group.TheVariants as group
use Rattle.rv_decode.specs.declared.instructions.Instr.{Instr}
use Rattle.rv_decode.specs.declared.instructions.Instr.TheVariants.{Addi, Ecall, Lb, Lbu, Lh, Lhu, Lw, Sb, Sh, Sw}
use Rattle.rv_step.specs.Checks.{first_fault}
use Rattle.rv_step.specs.CheckLaws.{safe_if_none}
use Rattle.rv_step.specs.Effects.{plus}
use Rattle.rv_step.specs.declared.accesses.Width.TheVariants.{Byte, Half}
use Rattle.rv_step.specs.declared.faults.Fault.{Fault}
use Rattle.rv_step.specs.declared.faults.Fault.TheVariants.{Fetch, Illegal}
use Rattle.shared_terms.specs.Steps.{◌>>=◌}
use Rattle.shared_terms.proofs.StepLemmas.{ok_is}
use Rattle.tag_memory.specs.Hart.{HartState, reg_value}
use Rattle.tag_memory.specs.Ram.{RamState, ram_bytes}
use Rattle.turn_steps.specs.Effects.{result_value}
use Rattle.turn_steps.specs.Looks.{effect_at, found_or, look_at, look_result, effect_or_fault}
use Rattle.turn_steps.specs.declared.look.Look.{Look}
use Rattle.part_turns.specs.Moments.{is_jal, is_jal_instr, is_jalr, is_jalr_instr}
use Rattle.part_turns.specs.Turns.{Does, IsSeen, computes, is_computing, is_jal_group, is_jalr_group, loads, loads_part, moves, stores, stores_part}

-- ---- the groups of ADDI and of ECALL

module _ (P : Group → Type 0) where
  by_addi : P group.Move → P group.AddImm → (is_move : Bool) → P (if is_move then group.Move else group.AddImm)
  by_addi move add true = move
  by_addi move add false = add

  of_addi : P group.Move → P group.AddImm → (immediate : ℕ) → P (addi_group immediate)
  of_addi move add immediate = by_addi move add (immediate == 0)

  by_service : P group.Exit → P group.Put → P group.Get → P group.Call → (is_exit is_put is_get : Bool)
      → P (if is_exit then group.Exit else if is_put then group.Put else if is_get then group.Get else group.Call)
  by_service exit put get call true is_put is_get = exit
  by_service exit put get call false true is_get = put
  by_service exit put get call false false true = get
  by_service exit put get call false false false = call

  of_service : P group.Exit → P group.Put → P group.Get → P group.Call → (service : ℕ) → P (service_group service)
  of_service exit put get call service = by_service exit put get call (service == 0) (service == 1) (service == 2)

jalr_is : (instr : Instr) (service : ℕ) → is_jalr_instr (Some instr) ≡ is_jalr_group (group_of instr service)
jalr_is (Addi rd rs1 imm) service = of_addi (λ g. false ≡ is_jalr_group g) refl refl imm
jalr_is Ecall service = of_service (λ g. false ≡ is_jalr_group g) refl refl refl refl service
jalr_is _ service = refl

jal_is : (instr : Instr) (service : ℕ) → is_jal_instr (Some instr) ≡ is_jal_group (group_of instr service)
jal_is (Addi rd rs1 imm) service = of_addi (λ g. false ≡ is_jal_group g) refl refl imm
jal_is Ecall service = of_service (λ g. false ≡ is_jal_group g) refl refl refl refl service
jal_is _ service = refl

-- ---- what an instruction does with values

module _ {T : Type 0} (hart : HartState T) (ram : RamState T) (word : ℕ) where
  abbrev look_of : Instr → Look
  look_of instr = look_at hart word instr (effect_at hart instr)

  abbrev DoesOf : Look → Type 0
  DoesOf look = Does hart ram look look.places.result (result_value ram look.effect.value look.effect.access)

  -- ADDI with immediate 0
  moved : (rs1 imm : ℕ) → (imm == 0) ≡ true → plus (reg_value hart rs1) imm ≡ reg_value hart rs1 % 2 ^ 32
  moved rs1 imm is =
      ap (plus (reg_value hart rs1)) (eqb-true imm 0 is)
      ∙ ap (λ (n : ℕ). n % 2 ^ 32) (let e : reg_value hart rs1 + 0 ≡ reg_value hart rs1 = omega arith in e)

  does_addi : (rd rs1 imm : ℕ) (is_move : Bool) → (imm == 0) ≡ is_move → DoesOf (look_of (Addi rd rs1 imm))
  does_addi rd rs1 imm true is = moves (ap (λ (test : Bool). if test then group.Move else group.AddImm) is) refl (moved rs1 imm is)
  does_addi rd rs1 imm false is = computes (ap (λ (test : Bool). is_computing (if test then group.Move else group.AddImm)) is) refl

  does : (instr : Instr) → DoesOf (look_of instr)
  does (Lw rd rs1 imm) = loads (plus (reg_value hart rs1) imm) refl refl refl
  does (Lb rd rs1 imm) = loads_part (plus (reg_value hart rs1) imm) Byte true refl refl
  does (Lh rd rs1 imm) = loads_part (plus (reg_value hart rs1) imm) Half true refl refl
  does (Lbu rd rs1 imm) = loads_part (plus (reg_value hart rs1) imm) Byte false refl refl
  does (Lhu rd rs1 imm) = loads_part (plus (reg_value hart rs1) imm) Half false refl refl
  does (Sw rs1 rs2 imm) = stores (plus (reg_value hart rs1) imm) refl refl refl
  does (Sb rs1 rs2 imm) = stores_part (plus (reg_value hart rs1) imm) (reg_value hart rs2) Byte refl refl refl
  does (Sh rs1 rs2 imm) = stores_part (plus (reg_value hart rs1) imm) (reg_value hart rs2) Half refl refl refl
  does (Addi rd rs1 imm) = does_addi rd rs1 imm (imm == 0) refl
  does Ecall = computes (of_service (λ g. is_computing g ≡ true) refl refl refl refl (reg_value hart a7)) refl
  does _ = computes refl refl

  -- what passed the checks was seen
  sees : (instr : Instr) → slice_get ram.words (hart.pc / 4) ≡ Some word → instr_of_word word ≡ Some instr
      → first_fault (effect_at hart instr) (ram_bytes ram) ≡ None → IsSeen hart ram (look_of instr)
  unfolding is_jalr is_jal
  sees instr there is none =
      let safe = safe_if_none (effect_at hart instr) (ram_bytes ram) none in
      record {
        there = slice_get_within ram.words (hart.pc / 4) word there;
        word = sym (get_or_from_slice_get ram.words (hart.pc / 4) word 0 there);
        service = refl;
        jalr = ap is_jalr_instr is ∙ jalr_is instr (reg_value hart a7);
        jal = ap is_jal_instr is ∙ jal_is instr (reg_value hart a7);
        aligned = safe.aligned;
        in_memory = safe.in_memory;
      }

-- ---- a look that is given

-- what is looked at was seen, and this is done to it with the result's register and value
pub record Looks {T : Type 0} (hart : HartState T) (ram : RamState T) (look : Look) : Type 0 where
  pub seen : IsSeen hart ram look
  pub does : Does hart ram look look.places.result (result_value ram look.effect.value look.effect.access)

module _ {T : Type 0} (hart : HartState T) (ram : RamState T) (look : Look) where
  abbrev done : Look → Result Look Fault
  done given = Ok given

  abbrev fetched_at : Option ℕ
  fetched_at = slice_get ram.words (hart.pc / 4)

  abbrev fault_of : Instr → Option Fault
  fault_of instr = first_fault (effect_at hart instr) (ram_bytes ram)

  -- the steps of a look from its instruction on
  abbrev checked : ℕ → Instr → Option Fault → Result Look Fault
  checked word instr fault = effect_or_fault (effect_at hart instr) fault >>= λ effect. done (look_at hart word instr effect)

  by_fault : (word : ℕ) (instr : Instr) → fetched_at ≡ Some word → instr_of_word word ≡ Some instr
      → (fault : Option Fault) → fault_of instr ≡ fault → checked word instr fault ≡ Ok look → Looks hart ram look
  by_fault word instr there is None none e =
      subst (Looks hart ram) (ok_is (look_of hart ram word instr) look e)
      (record { seen = sees hart ram word instr there is none; does = does hart ram word instr })
  by_fault word instr there is (Some fault) none e = absurd cc

  by_instr : (word : ℕ) → fetched_at ≡ Some word → (found : Option Instr) → instr_of_word word ≡ found
      → (found_or (Illegal word) found >>= λ instr. checked word instr (fault_of instr)) ≡ Ok look → Looks hart ram look
  by_instr word there None is e = absurd cc
  by_instr word there (Some instr) is e = by_fault word instr there is (fault_of instr) refl e

  by_word : (found : Option ℕ) → fetched_at ≡ found
      → (found_or (Fetch hart.pc) found >>= λ word. found_or (Illegal word) (instr_of_word word) >>= λ instr. checked word instr (fault_of instr)) ≡ Ok look
      → Looks hart ram look
  by_word None there e = absurd cc
  by_word (Some word) there e = by_instr word there (instr_of_word word) refl e

  pub looks : look_result hart ram ≡ Ok look → Looks hart ram look
  unfolding look_result
  looks e = by_word fetched_at refl e
