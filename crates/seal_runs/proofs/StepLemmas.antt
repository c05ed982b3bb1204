-- What an instruction leaves in a register and in memory fits the book.
use Rattle.std.proofs.Common.{◌≡◌, ℕ, ◌%◌, ◌^◌, Ok, refl, sym, ap, ◌∙◌, subst}
use Rattle.std.proofs.Math.Nat.{mod-eq_of_lt}
use Rattle.rv_decode.specs.declared.groups.Group.{Group}
use Rattle.rv_decode.specs.declared.groups.Group.TheVariants as group
use Rattle.rv_step.specs.Accesses.{stored_in}
use Rattle.rv_step.specs.declared.accesses.Access.{Access}
use Rattle.rv_step.specs.declared.accesses.Access.TheVariants as access
use Rattle.rv_step.specs.declared.accesses.Width.{Width}
use Rattle.rv_step.specs.declared.accesses.Width.TheVariants.{Full}
use Rattle.policy_trait.specs.declared.rules.Ins.{Ins}
use Rattle.policy_trait.specs.declared.rules.Outs.{Outs}
use Rattle.tag_memory.specs.Hart.{HartState, IsHart, reg_value}
use Rattle.tag_memory.specs.Ram.{IsRam, RamState, ram_word}
use Rattle.turn_steps.proofs.ValueLemmas.{register_word}
use Rattle.turn_steps.specs.Effects.{with_store, with_tagged}
use Rattle.turn_steps.specs.Looks.{access_tag, inputs_on}
use Rattle.turn_steps.specs.Values.{HartHasWords}
use Rattle.turn_steps.specs.declared.look.Look.{Look}
use Rattle.part_turns.proofs.PlaceLemmas.{each_register, each_stored}
use Rattle.part_turns.specs.Turns.{Does, computes, loads, loads_part, moves, stores, stores_part}
use Rattle.sealing_policy.specs.Sealing.{row_of, sealing_rule, tag_from}
use Rattle.sealing_policy.specs.declared.tag.SealTag.{SealTag}
use Rattle.sealing_policy.specs.declared.tag.SealTag.TheVariants.{Data}
use Rattle.seal_runs.specs.KeyBook.{KeyBook}
use Rattle.seal_runs.specs.SealInvariant.{Fits}
use Rattle.seal_runs.proofs.InvariantLemmas.{FitHart, FitRam}
use Rattle.seal_runs.proofs.RuleLemmas.{computed_tag, result_tag}

module _ (book : KeyBook) (hart : HartState SealTag) (ram : RamState SealTag)
    (hart_is : IsHart hart) (hart_has : HartHasWords hart) (ram_is : IsRam ram) (hart_fits : FitHart book hart) (ram_fits : FitRam book ram)
    (look : Look) (outs : Outs SealTag) (rule : sealing_rule look.group (inputs_on hart ram look.places look.effect.access) ≡ Ok outs)
  where
    abbrev inputs : Ins SealTag
    inputs = inputs_on hart ram look.places look.effect.access

    -- a value with its tag, as another that fits
    fits_as : (value other : ℕ) (tag rest : SealTag) → value ≡ other → tag ≡ rest → Fits book other rest → Fits book value tag
    fits_as value other tag rest value_is tag_is fits = subst (λ v. Fits book v tag) (sym value_is) (subst (Fits book other) (sym tag_is) fits)

    -- the result's tag is as the row of its group says
    tag_by : (g : Group) → look.group ≡ g → outs.result ≡ tag_from (row_of g).result inputs
    tag_by g is = result_tag look.group inputs outs rule ∙ ap (λ g. tag_from (row_of g).result inputs) is

    -- the hart with a result that fits, and with none

    with_fitting : (register value : ℕ) → Fits book value outs.result → FitHart book (with_tagged hart register value outs.result)
    with_fitting register value fits = each_register (Fits book) hart register value outs.result hart_is fits hart_fits

    without : (register value : ℕ) → register ≡ 0 → FitHart book (with_tagged hart register value outs.result)
    without register value none = subst (λ r. FitHart book (with_tagged hart r value outs.result)) (sym none) hart_fits

    -- memory after that access, and after a store of what fits

    ram_after : (access : Access) → look.effect.access ≡ access → FitRam book (with_store ram access outs.result)
        → FitRam book (with_store ram look.effect.access outs.result)
    ram_after access is fits = subst (λ access. FitRam book (with_store ram access outs.result)) (sym is) fits

    stored : (place : ℕ) (width : Width) (value : ℕ) → Fits book (stored_in (ram_word ram place) place width value) outs.result
        → FitRam book (with_store ram (access.Store place width value) outs.result)
    stored place width value fits = each_stored (Fits book) ram place width value outs.result ram_is fits ram_fits

    -- what an instruction leaves fits
    pub record StepFits (register value : ℕ) : Type 0 where
      pub registers : FitHart book (with_tagged hart register value outs.result)
      pub memory : FitRam book (with_store ram look.effect.access outs.result)

    pub step_fits : (register value : ℕ) → Does hart ram look register value → StepFits register value
    step_fits register value (moves is touches value_is) =
        let source : ℕ = look.places.first in
        let whole : reg_value hart source % 2 ^ 32 ≡ reg_value hart source = mod-eq_of_lt (register_word hart source hart_has) in
        record {
          registers = with_fitting register value (fits_as value _ outs.result _ (value_is ∙ whole) (tag_by group.Move is) (hart_fits source));
          memory = ram_after access.None touches ram_fits;
        }
    step_fits register value (loads place is touches value_is) = record {
      registers = with_fitting register value
          (fits_as value _ outs.result _ value_is (tag_by group.LoadWord is ∙ ap (access_tag ram hart.plain) touches) (ram_fits _));
      memory = ram_after _ touches ram_fits;
    }
    step_fits register value (loads_part place width signed is touches) = record {
      registers = with_fitting register value (fits_as value value outs.result Data refl (tag_by group.LoadPart is) tt);
      memory = ram_after _ touches ram_fits;
    }
    step_fits register value (stores place is touches none) =
        let source : ℕ = look.places.second in
        let kept = subst (Fits book (reg_value hart source)) (sym (tag_by group.StoreWord is)) (hart_fits source) in
        record {
          registers = without register value none;
          memory = ram_after _ touches (stored place Full (reg_value hart source) kept);
        }
    step_fits register value (stores_part place value_stored width is touches none) = record {
      registers = without register value none;
      memory = ram_after _ touches (stored place width value_stored (fits_as _ _ outs.result Data refl (tag_by group.StorePart is) tt));
    }
    step_fits register value (computes computing touches) =
        let plain : outs.result ≡ Data = result_tag look.group inputs outs rule ∙ computed_tag look.group inputs computing in
        record {
          registers = with_fitting register value (fits_as value value outs.result Data refl plain tt);
          memory = ram_after access.None touches ram_fits;
        }
