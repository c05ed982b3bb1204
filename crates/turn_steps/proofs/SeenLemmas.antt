-- What a turn looks at before its rule, told by what it is about to do.
use Rattle.std.proofs.Common.{◌≡◌, ℕ, ◌==◌, Bool, true, false, if◌then◌else◌, Option, Some, None, Result, Ok, refl, ap, sym, subst, ◌∙◌}
use Rattle.shared_terms.specs.Steps.{◌>>=◌}
use Rattle.shared_terms.proofs.StepLemmas.{on_ok}
use Rattle.policy_trait.specs.declared.rules.Refused.{Refused}
use Rattle.policy_trait.specs.declared.rules.Shape.{Shape}
use Rattle.policy_trait.specs.declared.rules.Shape.TheVariants as shape
use Rattle.rv_decode.specs.Groups.{a7, exit_service, get_service, group_of, places_of, put_service, reads_of}
use Rattle.rv_decode.specs.declared.groups.Group.TheVariants as group
use Rattle.rv_decode.specs.declared.instructions.Instr.{Instr}
use Rattle.rv_decode.specs.declared.instructions.Instr.TheVariants as instr
use Rattle.rv_step.specs.Checks.{first_fault}
use Rattle.rv_step.specs.declared.effects.Effect.{Effect}
use Rattle.tag_memory.specs.Hart.{HartState, reg_value}
use Rattle.tag_memory.specs.Ram.{RamState, ram_bytes, ram_tag}
use Rattle.turn_steps.specs.Looks.{effect_at, effect_or_fault, fetch_result, look_at, look_result, read_instr}
use Rattle.turn_steps.specs.Peeks.{Peek, asked_at, asked_if, fetched_peeked, looks_allowed, looks_of, operands_allowed, operands_at, operands_if, operands_peeked, peeked, shape_of, shape_of_group, word_peeked}
use Rattle.turn_steps.specs.declared.look.Look.{Look}
use Rattle.turn_steps.proofs.LookLemmas.{look_is}
use Rattle.turn_steps.proofs.PlaceLemmas.{tag_is}

-- an ADDI looks at nothing, whether it moves or adds; and each service is called
adds : (moves : Bool) → None ≡ shape_of_group (if moves then group.Move else group.AddImm)
adds true = refl
adds false = refl

calls : (exits puts gets : Bool)
    → Some shape.Call ≡ shape_of_group (if exits then group.Exit else if puts then group.Put else if gets then group.Get else group.Call)
calls true puts gets = refl
calls false true gets = refl
calls false false true = refl
calls false false false = refl

-- a group tells how its instructions look
shape_is : (it : Instr) (service : ℕ) → shape_of it ≡ shape_of_group (group_of it service)
shape_is (instr.Lui _ _) service = refl
shape_is (instr.Auipc _ _) service = refl
shape_is (instr.Jal _ _) service = refl
shape_is (instr.Jalr _ _ _) service = refl
shape_is (instr.Beq _ _ _) service = refl
shape_is (instr.Bne _ _ _) service = refl
shape_is (instr.Blt _ _ _) service = refl
shape_is (instr.Bge _ _ _) service = refl
shape_is (instr.Bltu _ _ _) service = refl
shape_is (instr.Bgeu _ _ _) service = refl
shape_is (instr.Lb _ _ _) service = refl
shape_is (instr.Lh _ _ _) service = refl
shape_is (instr.Lw _ _ _) service = refl
shape_is (instr.Lbu _ _ _) service = refl
shape_is (instr.Lhu _ _ _) service = refl
shape_is (instr.Sb _ _ _) service = refl
shape_is (instr.Sh _ _ _) service = refl
shape_is (instr.Sw _ _ _) service = refl
shape_is (instr.Addi _ _ immediate) service = adds (immediate == 0)
shape_is instr.Ecall service = calls (service == exit_service) (service == put_service) (service == get_service)
shape_is _ service = refl

module _ {T : Type 0} (peek : Peek T) (hart : HartState T) (it : Instr) (service : ℕ) where
  -- the operands that it looks at stand at its places
  operands_are : (look : Shape) → asked_at peek hart (reads_of it) look ≡ operands_allowed peek (Some (operands_at hart (places_of it service) look))
  operands_are shape.Branch = sym (λ j. peek shape.Branch (tag_is hart (reads_of it).t1 j) (tag_is hart (reads_of it).t2 j))
  operands_are shape.Call = sym (λ j. peek shape.Call (tag_is hart (reads_of it).t2 j) hart.plain)
  operands_are shape.Word = sym (λ j. peek shape.Word (tag_is hart (reads_of it).t1 j) hart.plain)
  operands_are shape.Load = sym (λ j. peek shape.Load (tag_is hart (reads_of it).t1 j) hart.plain)
  operands_are shape.Store = sym (λ j. peek shape.Store (tag_is hart (reads_of it).t1 j) hart.plain)
  operands_are shape.Jump = sym (λ j. peek shape.Jump (tag_is hart (reads_of it).t1 j) hart.plain)

  asked_are : (look : Option Shape) → asked_if peek hart (reads_of it) look ≡ operands_allowed peek (operands_if hart (places_of it service) look)
  asked_are None = refl
  asked_are (Some look) = operands_are look

  seen_are : operands_peeked peek hart it ≡ operands_allowed peek (operands_if hart (places_of it service) (shape_of_group (group_of it service)))
  seen_are = asked_are (shape_of it) ∙ ap (λ look. operands_allowed peek (operands_if hart (places_of it service) look)) (shape_is it service)

-- whoever is asked, is asked of the looks of what the hart is about to do
pub looked_is_peeked : {T : Type 0} (peek : Peek T) (hart : HartState T) (ram : RamState T) (look : Look) → look_result hart ram ≡ Ok look
    → peeked peek hart ram ≡ looks_allowed peek hart.plain (looks_of hart ram look)
unfolding look_result peeked
looked_is_peeked peek hart ram look e =
    on_ok (fetch_result hart ram) _ look e λ word word-is e1.
    on_ok (read_instr word) _ look e1 λ it it-is e2.
    on_ok (effect_or_fault (effect_at hart it) (first_fault (effect_at hart it) (ram_bytes ram))) _ look e2 λ effect effect-is e3.
    let seen = ap (word_peeked peek hart) it-is ∙ seen_are peek hart it (reg_value hart a7) in
    ap (fetched_peeked peek hart ram) word-is
    ∙ (λ j. peek shape.Word (ram_tag ram hart.pc) hart.plain >>= λ u. seen j)
    ∙ ap (λ (l : Look). looks_allowed peek hart.plain (looks_of hart ram l)) (look_is (look_at hart word it effect) look e3)
