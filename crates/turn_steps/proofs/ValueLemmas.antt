-- Each step of a turn leaves words where words were.
use Rattle.std.proofs.Common.{◌≡◌, ℕ, ◌-◌, ◌/◌, ◌<◌, ◌≤◌, ◌==◌, Bool, true, false, ◌⊎◌, inl, inr, List, [], ◌∷◌, All, length, get_or, Option, Some, None, IfSome, Ok, if◌then◌else◌, refl, sym, subst, ◌∙◌, arith, lit<}
use Rattle.std.specs.Option.{ForSome, unwrap_or}
use Rattle.std.specs.Prelude.{slice_set}
use Rattle.std.proofs.lemmas.Bool.{cases_lt}
use Rattle.std.proofs.lemmas.List.{get_or_past}
use Rattle.std.proofs.lemmas.List.Elements.{All-get_or, All-head, All-set, All-tail}
use Rattle.shared_terms.proofs.StepLemmas.{ok_is, on_ok}
use Rattle.rv_decode.specs.Decoding.{instr_of_word}
use Rattle.rv_decode.specs.Groups.{a0, reads_of}
use Rattle.rv_decode.specs.declared.groups.Group.{Group}
use Rattle.rv_decode.specs.declared.groups.Group.TheVariants as group
use Rattle.rv_decode.specs.declared.instructions.Instr.{Instr}
use Rattle.rv_step.specs.Accesses.{stored_in}
use Rattle.rv_step.specs.Checks.{first_fault}
use Rattle.rv_step.specs.declared.accesses.Access.{Access}
use Rattle.rv_step.specs.declared.accesses.Access.TheVariants as access
use Rattle.rv_step.specs.declared.faults.Fault.{Fault}
use Rattle.rv_step.specs.declared.faults.Fault.TheVariants.{Illegal}
use Rattle.policy_trait.specs.PolicyLaws.{HasWord}
use Rattle.policy_trait.specs.declared.rules.Outs.{Outs}
use Rattle.policy_trait.specs.declared.services.Answer.{Answer}
use Rattle.tag_memory.specs.Hart.{HartState, reg_value, with_reg, with_reg_tag}
use Rattle.tag_memory.specs.Ram.{RamState, ram_bytes, ram_word, with_ram_tag, with_ram_word}
use Rattle.turn_steps.specs.Effects.{carried_by, effect_result, hart_after, result_value, with_store}
use Rattle.turn_steps.specs.Feeds.{Tape, fed_value}
use Rattle.turn_steps.specs.Looks.{effect_at, effect_or_fault, fetch_result, found_or, look_at, look_result, operand, read_instr}
use Rattle.turn_steps.specs.Services.{with_answer, with_words}
use Rattle.turn_steps.specs.Values.{GivesWords, HartHasWords, IsWord, LeavesWords, RamHasWords, StoresWord}
use Rattle.turn_steps.specs.declared.look.Look.{Look}
use Rattle.turn_steps.proofs.InstrLemmas.{HasWordImmediate, decoded_fits, effect_words, either_word, loaded_word, stored_word}
use Rattle.turn_steps.proofs.LookLemmas.{effect_is, on_passed}

-- ---- what is read

word_at : (list : List ℕ) (n : ℕ) → All IsWord list → IsWord (get_or list n 0)
word_at list n all = by_place (cases_lt n (length list))
  where
    by_place : (n < length list) ⊎ (length list ≤ n) → IsWord (get_or list n 0)
    by_place (inl below) = All-get_or IsWord list n 0 below all
    by_place (inr past) = subst IsWord (sym (get_or_past list n 0 past)) (lit< tt)

pub register_word : {T : Type 0} (hart : HartState T) (r : ℕ) → HartHasWords hart → IsWord (reg_value hart r)
register_word hart r all = either_word (r == 0) 0 (get_or hart.values (r - 1) 0) (lit< tt) (word_at hart.values (r - 1) all)

pub memory_word : {T : Type 0} (ram : RamState T) (address : ℕ) → RamHasWords ram → IsWord (ram_word ram address)
memory_word ram address all = word_at ram.words (address / 4) all

operand_word : {T : Type 0} (hart : HartState T) (register : Option ℕ) → HartHasWords hart → IsWord (operand hart register)
operand_word hart None all = lit< tt
operand_word hart (Some r) all = register_word hart r all

-- ---- a register with its tag

either_hart : {T : Type 0} (test : Bool) (x y : HartState T) → HartHasWords x → HartHasWords y → HartHasWords (if test then x else y)
either_hart true x y first second = first
either_hart false x y first second = second

value_words : {T : Type 0} (hart : HartState T) (r value : ℕ) → IsWord value → HartHasWords hart → HartHasWords (with_reg hart r value)
value_words hart r value is all =
    either_hart (r == 0) hart (record hart { values = slice_set hart.values (r - 1) value }) all (All-set IsWord hart.values (r - 1) value is all)

tag_words : {T : Type 0} (hart : HartState T) (r : ℕ) (tag : T) → HartHasWords hart → HartHasWords (with_reg_tag hart r tag)
tag_words hart r tag all = either_hart (r == 0) hart (record hart { tags = slice_set hart.tags (r - 1) tag }) all all

tagged_words : {T : Type 0} (hart : HartState T) (r value : ℕ) (tag : T) → IsWord value → HartHasWords hart
    → HartHasWords (with_reg_tag (with_reg hart r value) r tag)
tagged_words hart r value tag is all = tag_words (with_reg hart r value) r tag (value_words hart r value is all)

pub answer_words : {T : Type 0} (hart : HartState T) (answer : Option (Answer T)) → ForSome answer HasWord → HartHasWords hart
    → HartHasWords (with_answer hart answer)
answer_words hart None is all = all
answer_words hart (Some answer) is all = tagged_words hart a0 answer.value answer.tag (is answer refl) all

-- ---- words of memory

pub written_words : {T : Type 0} (ram : RamState T) (words : List (ℕ × ℕ × T)) → All (λ word. IsWord word.1) words → RamHasWords ram
    → RamHasWords (with_words ram words)
written_words ram [] are all = all
written_words {T} ram (word ∷ words) are all =
    written_words (with_ram_tag (with_ram_word ram word.0 word.1) word.0 word.2) words
    (All-tail (λ (word : ℕ × ℕ × T). IsWord word.1) word words are)
    (All-set IsWord ram.words (word.0 / 4) word.1 (All-head (λ (word : ℕ × ℕ × T). IsWord word.1) word words are) all)

store_words : {T : Type 0} (ram : RamState T) (place : Access) (tag : T) → StoresWord place → RamHasWords ram → RamHasWords (with_store ram place tag)
store_words ram access.None tag is all = all
store_words ram (access.Load addr width signed) tag is all = all
store_words ram (access.Store addr width value) tag is all =
    All-set IsWord ram.words (addr / 4) (stored_in (ram_word ram addr) addr width value)
    (stored_word (ram_word ram addr) addr width value (memory_word ram addr all) is) all

-- ---- an instruction that is carried out

given_word : (value : Option ℕ) → ForSome value IsWord → IsWord (unwrap_or value 0)
given_word None is = lit< tt
given_word (Some value) is = is value refl

result_word : {T : Type 0} (ram : RamState T) (value : Option ℕ) (place : Access) → ForSome value IsWord → RamHasWords ram
    → IsWord (result_value ram value place)
result_word ram value access.None is all = given_word value is
result_word ram value (access.Load addr width signed) is all = loaded_word (ram_word ram addr) addr width signed (memory_word ram addr all)
result_word ram value (access.Store addr width stored) is all = given_word value is

fed_word : (left : List ℕ) → IsWord (fed_value left)
fed_word [] = lit< tt
fed_word (byte ∷ rest) = omega arith

module _ {T : Type 0} (hart : HartState T) (ram : RamState T) (look : Look) (outs : Outs T) (gives : GivesWords look.effect)
    (hart_has : HartHasWords hart) (ram_has : RamHasWords ram) where
  step_words : HartHasWords (hart_after hart ram look outs)
  step_words =
      tagged_words hart look.places.result (result_value ram look.effect.value look.effect.access) outs.result
      (result_word ram look.effect.value look.effect.access gives.value ram_has) hart_has

  by_group : (called : Group) (feed : Tape) → LeavesWords (carried_by called hart ram feed look outs)
  by_group group.Exit feed = record { hart = hart_has; ram = ram_has }
  by_group group.Put feed = record { hart = hart_has; ram = ram_has }
  by_group group.Get feed = record { hart = tagged_words hart a0 (fed_value feed.left) outs.result (fed_word feed.left) hart_has; ram = ram_has }
  by_group group.Break feed = record { hart = step_words; ram = ram_has }
  by_group _ feed = record { hart = step_words; ram = store_words ram look.effect.access outs.result gives.stored ram_has }

  pub carried_words : (feed : Tape) → LeavesWords (effect_result hart ram feed look outs)
  unfolding effect_result
  carried_words feed = by_group look.group feed

-- ---- a look that is given

found_fits : (fault : Fault) (found : Option Instr) (instr : Instr) → IfSome found HasWordImmediate → found_or fault found ≡ Ok instr
    → HasWordImmediate instr
found_fits fault None instr fits e = absurd cc
found_fits fault (Some x) instr fits e = subst HasWordImmediate (ok_is x instr e) fits

-- what is looked at gives words
pub looked_words : {T : Type 0} (hart : HartState T) (ram : RamState T) (look : Look) → HartHasWords hart → look_result hart ram ≡ Ok look
    → GivesWords look.effect
unfolding look_result
looked_words hart ram look all e =
    on_ok (fetch_result hart ram) _ look e λ word word-is e1.
    on_ok (read_instr word) _ look e1 λ instr instr-is e2.
    on_ok (effect_or_fault (effect_at hart instr) (first_fault (effect_at hart instr) (ram_bytes ram))) _ look e2 λ effect effect-is e3.
    on_passed (effect_at hart instr) effect (first_fault (effect_at hart instr) (ram_bytes ram)) effect-is λ none same.
    subst GivesWords (same ∙ effect_is (look_at hart word instr effect) look e3)
    (effect_words instr hart.pc (operand hart (reads_of instr).t1) (operand hart (reads_of instr).t2)
    (found_fits (Illegal word) (instr_of_word word) instr (decoded_fits word) instr-is)
    (operand_word hart (reads_of instr).t1 all) (operand_word hart (reads_of instr).t2 all))
