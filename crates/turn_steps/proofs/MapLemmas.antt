-- A change of each tag goes through the steps of a turn.
use Rattle.std.proofs.Common.{◌≡◌, ℕ, Option, Some, None, Result, Ok, refl, ap, ◌∙◌}
use Rattle.policy_trait.specs.Maps.{ins_by, outs_by}
use Rattle.shared_terms.specs.Steps.{◌>>=◌}
use Rattle.policy_trait.specs.declared.rules.Outs.{Outs}
use Rattle.rv_decode.specs.Groups.{a0, reads_of}
use Rattle.rv_decode.specs.declared.groups.Group.{Group}
use Rattle.rv_decode.specs.declared.groups.Group.TheVariants as group
use Rattle.rv_decode.specs.declared.instructions.Instr.{Instr}
use Rattle.rv_decode.specs.declared.places.Places.{Places}
use Rattle.rv_step.specs.Accesses.{stored_in}
use Rattle.rv_step.specs.Checks.{first_fault}
use Rattle.rv_step.specs.Effects.{effect_of}
use Rattle.rv_step.specs.declared.accesses.Access.{Access}
use Rattle.rv_step.specs.declared.accesses.Access.TheVariants as access
use Rattle.rv_step.specs.declared.effects.Effect.{Effect}
use Rattle.rv_step.specs.declared.faults.Fault.{Fault}
use Rattle.tag_memory.specs.Hart.{HartState, moved_to, with_reg, with_reg_tag}
use Rattle.tag_memory.specs.Maps.{hart_by, ram_by}
use Rattle.tag_memory.specs.Ram.{RamState, ram_bytes, ram_word, with_ram_word}
use Rattle.tag_memory.proofs.MapLemmas.{ram_tag_by, reg_tag_by, with_ram_tag_by, with_reg_by, with_reg_tag_by}
use Rattle.turn_steps.specs.Effects.{carried_by, effect_result, fed_hart, result_value, hart_after, with_store, with_tagged}
use Rattle.turn_steps.specs.Feeds.{Tape, fed_value}
use Rattle.turn_steps.specs.Looks.{access_tag, effect_at, effect_or_fault, fetch_result, inputs_on, look_at, look_result, operand, read_instr}
use Rattle.turn_steps.specs.Maps.{carry_by}
use Rattle.turn_steps.specs.declared.look.Look.{Look}

module _ {T U : Type 0} (f : T → U) where
  -- ---- the look

  operand_by : (hart : HartState T) (register : Option ℕ) → operand (hart_by f hart) register ≡ operand hart register
  operand_by hart None = refl
  operand_by hart (Some r) = refl

  -- an effect that has no fault
  abbrev checked : RamState T → Effect → Result Effect Fault
  checked ram effect = effect_or_fault effect (first_fault effect (ram_bytes ram))

  effect_at_by : (hart : HartState T) (instr : Instr) → effect_at (hart_by f hart) instr ≡ effect_at hart instr
  effect_at_by hart instr =
      ap (λ (a : ℕ). effect_of instr hart.pc a (operand (hart_by f hart) (reads_of instr).t2)) (operand_by hart (reads_of instr).t1)
      ∙ ap (effect_of instr hart.pc (operand hart (reads_of instr).t1)) (operand_by hart (reads_of instr).t2)

  -- what is looked at has no tag
  pub looked_by : (hart : HartState T) (ram : RamState T) → look_result (hart_by f hart) (ram_by f ram) ≡ look_result hart ram
  unfolding look_result
  looked_by hart ram =
      ap (λ (effect_of_instr : Instr → Effect).
      fetch_result hart ram >>= λ word. read_instr word >>= λ instr. checked ram (effect_of_instr instr) >>= λ effect. Ok (look_at hart word instr effect))
      (λ j instr. effect_at_by hart instr j)

  -- ---- what its rule is asked with

  access_tag_by : (ram : RamState T) (plain : T) (place : Access) → access_tag (ram_by f ram) (f plain) place ≡ f (access_tag ram plain place)
  access_tag_by ram plain access.None = refl
  access_tag_by ram plain (access.Load addr width signed) = ram_tag_by f ram addr
  access_tag_by ram plain (access.Store addr width value) = ram_tag_by f ram addr

  pub asked_by : (hart : HartState T) (ram : RamState T) (places : Places) (place : Access)
      → inputs_on (hart_by f hart) (ram_by f ram) places place ≡ ins_by f (inputs_on hart ram places place)
  asked_by hart ram places place = λ j. record {
    pc = f hart.pc_tag;
    ci = ram_tag_by f ram hart.pc j;
    t1 = reg_tag_by f hart places.first j;
    t2 = reg_tag_by f hart places.second j;
    tm = access_tag_by ram hart.plain place j;
  }

  -- ---- the effect

  with_tagged_by : (hart : HartState T) (r value : ℕ) (tag : T) → with_tagged (hart_by f hart) r value (f tag) ≡ hart_by f (with_tagged hart r value tag)
  with_tagged_by hart r value tag =
      ap (λ h. with_reg_tag h r (f tag)) (with_reg_by f hart r value) ∙ with_reg_tag_by f (with_reg hart r value) r tag

  result_value_by : (ram : RamState T) (value : Option ℕ) (place : Access) → result_value (ram_by f ram) value place ≡ result_value ram value place
  result_value_by ram value access.None = refl
  result_value_by ram value (access.Load addr width signed) = refl
  result_value_by ram value (access.Store addr width stored) = refl

  with_store_by : (ram : RamState T) (place : Access) (tag : T) → with_store (ram_by f ram) place (f tag) ≡ ram_by f (with_store ram place tag)
  with_store_by ram access.None tag = refl
  with_store_by ram (access.Load addr width signed) tag = refl
  with_store_by ram (access.Store addr width value) tag =
      with_ram_tag_by f (with_ram_word ram addr (stored_in (ram_word ram addr) addr width value)) addr tag

  module _ (hart : HartState T) (ram : RamState T) (feed : Tape) (look : Look) (outs : Outs T) where
    stepped_by : hart_after (hart_by f hart) (ram_by f ram) look (outs_by f outs) ≡ hart_by f (hart_after hart ram look outs)
    stepped_by =
        ap (λ (value : ℕ). moved_to (with_tagged (hart_by f hart) look.places.result value (f outs.result)) look.effect.next (f outs.pc))
        (result_value_by ram look.effect.value look.effect.access)
        ∙ ap (λ h. moved_to h look.effect.next (f outs.pc))
        (with_tagged_by hart look.places.result (result_value ram look.effect.value look.effect.access) outs.result)

    fed_by : moved_to (fed_hart (hart_by f hart) feed (f outs.result)) look.effect.next (f outs.pc) ≡ hart_by f (moved_to (fed_hart hart feed outs.result) look.effect.next outs.pc)
    fed_by = ap (λ h. moved_to h look.effect.next (f outs.pc)) (with_tagged_by hart a0 (fed_value feed.left) outs.result)

    by_group : (called : Group)
        → carried_by called (hart_by f hart) (ram_by f ram) feed look (outs_by f outs) ≡ carry_by f (carried_by called hart ram feed look outs)
    by_group group.Exit = refl
    by_group group.Put = refl
    by_group group.Get = λ j. record (carry_by f (carried_by group.Get hart ram feed look outs)) { hart = fed_by j }
    by_group group.Break = λ j. record (carry_by f (carried_by group.Break hart ram feed look outs)) { hart = stepped_by j }
    by_group _ = λ j. record (carry_by f (carried_by group.Const hart ram feed look outs)) { hart = stepped_by j; ram = with_store_by ram look.effect.access outs.result j }

    pub carried_out_by : effect_result (hart_by f hart) (ram_by f ram) feed look (outs_by f outs) ≡ carry_by f (effect_result hart ram feed look outs)
    unfolding effect_result
    carried_out_by = by_group look.group
