-- What a look gives where no check fails.
use Rattle.std.proofs.Common.{◌≡◌, ℕ, Option, Some, None, Result, Ok, refl, ap, subst, ◌∙◌}
use Rattle.shared_terms.proofs.StepLemmas.{on_ok}
use Rattle.rv_decode.specs.Decoding.{instr_of_word}
use Rattle.rv_decode.specs.Groups.{a7, places_of, reads_of, writes_of}
use Rattle.rv_decode.specs.declared.instructions.Instr.{Instr}
use Rattle.rv_decode.specs.declared.places.Places.{Places}
use Rattle.rv_step.specs.Checks.{first_fault}
use Rattle.rv_step.specs.CheckLaws.{next_aligned, safe_if_none}
use Rattle.rv_step.specs.declared.effects.Effect.{Effect}
use Rattle.rv_step.specs.declared.faults.Fault.{Fault}
use Rattle.rv_step.specs.declared.faults.Fault.TheVariants.{Illegal}
use Rattle.tag_memory.specs.Hart.{HartState, IsHart, reg_value}
use Rattle.tag_memory.specs.Ram.{RamState, ram_bytes}
use Rattle.turn_steps.specs.Effects.{IsSound, with_result, with_tagged}
use Rattle.turn_steps.specs.Looks.{effect_at, fetch_result, found_or, inputs_at, inputs_on, look_at, look_result, operand, effect_or_fault, read_instr}
use Rattle.turn_steps.specs.declared.look.Look.{Look}
use Rattle.turn_steps.proofs.PlaceLemmas.{inputs_are, result_is}

pub on_passed : {P : Type 0} (effect given : Effect) (fault : Option Fault) → effect_or_fault effect fault ≡ Ok given → (fault ≡ None → effect ≡ given → P) → P
on_passed effect given None e next = next refl cc
on_passed effect given (Some fault) e next = absurd cc

-- an effect with no fault is a sound one
sound_if_none : {T : Type 0} (hart : HartState T) (ram : RamState T) (instr : Instr) → IsHart hart → first_fault (effect_at hart instr) (ram_bytes ram) ≡ None → IsSound (ram_bytes ram) (effect_at hart instr)
sound_if_none hart ram instr is none = record {
  in_memory = (safe_if_none (effect_at hart instr) (ram_bytes ram) none).in_memory;
  to_word = next_aligned instr hart.pc (operand hart (reads_of instr).t1) (operand hart (reads_of instr).t2) (ram_bytes ram) is.aligned none;
}

-- a look that is given
abbrev done : Look → Result Look Fault
done look = Ok look

pub effect_is : (look given : Look) → done look ≡ done given → look.effect ≡ given.effect
effect_is look given e = cc

-- what is looked at can be carried out: its access is in memory, and the next pc is that of a word
pub looked_is_sound : {T : Type 0} (hart : HartState T) (ram : RamState T) (look : Look) → IsHart hart → look_result hart ram ≡ Ok look → IsSound (ram_bytes ram) look.effect
unfolding look_result
looked_is_sound hart ram look is e =
    on_ok (fetch_result hart ram) _ look e λ word word-is e1.
    on_ok (read_instr word) _ look e1 λ instr instr-is e2.
    on_ok (effect_or_fault (effect_at hart instr) (first_fault (effect_at hart instr) (ram_bytes ram))) _ look e2 λ effect effect-is e3.
    on_passed (effect_at hart instr) effect (first_fault (effect_at hart instr) (ram_bytes ram)) effect-is λ none same.
    subst (IsSound (ram_bytes ram)) (same ∙ effect_is (look_at hart word instr effect) look e3) (sound_if_none hart ram instr is none)

pub look_is : (look given : Look) → done look ≡ done given → look ≡ given
look_is look given e = cc

found_is : (fault : Fault) (found : Option Instr) (given instr : Instr) → found_or fault found ≡ Ok given → found ≡ Some instr → given ≡ instr
found_is fault None given instr e is = absurd cc
found_is fault (Some x) given instr e is = cc

-- its places are those of its instruction
places_are : {T : Type 0} (hart : HartState T) (ram : RamState T) (look : Look) (instr : Instr) → look_result hart ram ≡ Ok look → instr_of_word look.word ≡ Some instr
    → look.places ≡ places_of instr look.service
unfolding look_result
places_are hart ram look instr e =
    on_ok (fetch_result hart ram) _ look e λ word word-is e1.
    on_ok (read_instr word) _ look e1 λ given given-is e2.
    on_ok (effect_or_fault (effect_at hart given) (first_fault (effect_at hart given) (ram_bytes ram))) _ look e2 λ effect effect-is e3.
    subst (λ (l : Look). instr_of_word l.word ≡ Some instr → l.places ≡ places_of instr l.service) (look_is (look_at hart word given effect) look e3)
    (λ decoded-is. ap (λ (i : Instr). places_of i (reg_value hart a7)) (found_is (Illegal word) (instr_of_word word) given instr given-is decoded-is))

-- its rule is asked with the tags of its instruction's operands
pub looked_is_asked : {T : Type 0} (hart : HartState T) (ram : RamState T) (look : Look) (instr : Instr) → look_result hart ram ≡ Ok look → instr_of_word look.word ≡ Some instr
    → inputs_on hart ram look.places look.effect.access ≡ inputs_at hart ram instr look.effect
looked_is_asked hart ram look instr e is = inputs_are hart ram instr look.places look.service look.effect (places_are hart ram look instr e is)

-- and its result's register takes what the place of that result takes
pub looked_is_placed : {T : Type 0} (hart : HartState T) (ram : RamState T) (look : Look) (instr : Instr) → look_result hart ram ≡ Ok look → instr_of_word look.word ≡ Some instr
    → (written : HartState T) (value : ℕ) (tag : T) → with_tagged written look.places.result value tag ≡ with_result written (writes_of instr look.service) value tag
looked_is_placed hart ram look instr e is written value tag =
    ap (λ (places : Places). with_tagged written places.result value tag) (places_are hart ram look instr e is) ∙ result_is written (writes_of instr look.service) value tag
