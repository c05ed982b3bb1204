-- What every step of a turn keeps: x0 is 0 and plain, the pc is that of a word, and memory is as large as it was.
use Rattle.std.proofs.Common.{◌≡◌, ℕ, ◌%◌, List, [], ◌∷◌, Option, Some, None, refl, ◌∙◌}
use Rattle.rv_decode.specs.Groups.{a0}
use Rattle.rv_decode.specs.declared.groups.Group.{Group}
use Rattle.rv_decode.specs.declared.groups.Group.TheVariants as group
use Rattle.rv_step.specs.Accesses.{stored_in}
use Rattle.rv_step.specs.declared.accesses.Access.{Access}
use Rattle.rv_step.specs.declared.accesses.Access.TheVariants as access
use Rattle.policy_trait.specs.declared.rules.Outs.{Outs}
use Rattle.policy_trait.specs.declared.services.Answer.{Answer}
use Rattle.tag_memory.specs.Hart.{HartState, IsHartOf, moved_to, with_reg, with_reg_tag}
use Rattle.tag_memory.specs.Ram.{IsRamOf, RamState, ram_bytes, ram_word, with_ram_tag, with_ram_word}
use Rattle.tag_memory.proofs.HartLemmas.{pc_keeps, tag_keeps, value_keeps}
use Rattle.tag_memory.proofs.RamLemmas.{word_bytes, word_keeps, word_tag_keeps}
use Rattle.turn_steps.specs.Effects.{IsCarriedOf, IsSound, carried_by, effect_result, fed_hart, result_value, hart_after, with_store}
use Rattle.turn_steps.specs.Feeds.{Tape, fed_value}
use Rattle.turn_steps.specs.Services.{with_answer, with_words}
use Rattle.turn_steps.specs.declared.look.Look.{Look}

-- ---- a register with its tag

tagged_keeps : {T : Type 0} (plain : T) (hart : HartState T) (r value : ℕ) (tag : T) → IsHartOf plain hart → IsHartOf plain (with_reg_tag (with_reg hart r value) r tag)
tagged_keeps plain hart r value tag is = tag_keeps plain (with_reg hart r value) r tag (value_keeps plain hart r value is)

pub answer_keeps : {T : Type 0} (plain : T) (hart : HartState T) (answer : Option (Answer T)) → IsHartOf plain hart → IsHartOf plain (with_answer hart answer)
answer_keeps plain hart None is = is
answer_keeps plain hart (Some answer) is = tagged_keeps plain hart a0 answer.value answer.tag is

-- the hart after a service: its answer, and the next pc
pub answered_keeps : {T : Type 0} (plain : T) (hart : HartState T) (answer : Option (Answer T)) (next : ℕ) (tag : T) → next % 4 ≡ 0 → IsHartOf plain hart → IsHartOf plain (moved_to (with_answer hart answer) next tag)
answered_keeps plain hart answer next tag aligned is = pc_keeps plain (with_answer hart answer) next tag aligned (answer_keeps plain hart answer is)

-- ---- words of memory

tagged_word_keeps : {T : Type 0} (plain : T) (ram : RamState T) (address word : ℕ) (tag : T) → IsRamOf plain ram → IsRamOf plain (with_ram_tag (with_ram_word ram address word) address tag)
tagged_word_keeps plain ram address word tag is = word_tag_keeps plain (with_ram_word ram address word) address tag (word_keeps plain ram address word is)

pub words_keep : {T : Type 0} (plain : T) (ram : RamState T) (words : List (ℕ × ℕ × T)) → IsRamOf plain ram → IsRamOf plain (with_words ram words)
words_keep plain ram [] is = is
words_keep plain ram (word ∷ words) is = words_keep plain (with_ram_tag (with_ram_word ram word.0 word.1) word.0 word.2) words (tagged_word_keeps plain ram word.0 word.1 word.2 is)

pub words_bytes : {T : Type 0} (ram : RamState T) (words : List (ℕ × ℕ × T)) → ram_bytes (with_words ram words) ≡ ram_bytes ram
words_bytes ram [] = refl
words_bytes ram (word ∷ words) = words_bytes (with_ram_tag (with_ram_word ram word.0 word.1) word.0 word.2) words ∙ word_bytes ram word.0 word.1

store_keeps : {T : Type 0} (plain : T) (ram : RamState T) (access : Access) (tag : T) → IsRamOf plain ram → IsRamOf plain (with_store ram access tag)
store_keeps plain ram access.None tag is = is
store_keeps plain ram (access.Load addr width signed) tag is = is
store_keeps plain ram (access.Store addr width value) tag is = tagged_word_keeps plain ram addr (stored_in (ram_word ram addr) addr width value) tag is

store_bytes : {T : Type 0} (ram : RamState T) (access : Access) (tag : T) → ram_bytes (with_store ram access tag) ≡ ram_bytes ram
store_bytes ram access.None tag = refl
store_bytes ram (access.Load addr width signed) tag = refl
store_bytes ram (access.Store addr width value) tag = word_bytes ram addr (stored_in (ram_word ram addr) addr width value)

-- ---- an instruction that is carried out

step_keeps : {T : Type 0} (plain : T) (hart : HartState T) (ram : RamState T) (look : Look) (outs : Outs T) → look.effect.next % 4 ≡ 0 → IsHartOf plain hart → IsHartOf plain (hart_after hart ram look outs)
step_keeps plain hart ram look outs aligned is =
    pc_keeps plain _ look.effect.next outs.pc aligned
    (tagged_keeps plain hart look.places.result (result_value ram look.effect.value look.effect.access) outs.result is)

by_group : {T : Type 0} (plain : T) (called : Group) (hart : HartState T) (ram : RamState T) (feed : Tape) (look : Look) (outs : Outs T) → look.effect.next % 4 ≡ 0
    → IsHartOf plain hart → IsRamOf plain ram → IsCarriedOf plain (ram_bytes ram) (carried_by called hart ram feed look outs)
by_group plain group.Exit hart ram feed look outs aligned hart_is ram_is = record { hart = hart_is; ram = ram_is; bytes = refl }
by_group plain group.Put hart ram feed look outs aligned hart_is ram_is =
    record { hart = pc_keeps plain hart look.effect.next outs.pc aligned hart_is; ram = ram_is; bytes = refl }
by_group plain group.Get hart ram feed look outs aligned hart_is ram_is = record {
  hart = pc_keeps plain (fed_hart hart feed outs.result) look.effect.next outs.pc aligned (tagged_keeps plain hart a0 (fed_value feed.left) outs.result hart_is);
  ram = ram_is;
  bytes = refl;
}
by_group plain group.Break hart ram feed look outs aligned hart_is ram_is =
    record { hart = step_keeps plain hart ram look outs aligned hart_is; ram = ram_is; bytes = refl }
by_group plain _ hart ram feed look outs aligned hart_is ram_is = record {
  hart = step_keeps plain hart ram look outs aligned hart_is;
  ram = store_keeps plain ram look.effect.access outs.result ram_is;
  bytes = store_bytes ram look.effect.access outs.result;
}

pub carried_keeps : {T : Type 0} (plain : T) (hart : HartState T) (ram : RamState T) (feed : Tape) (look : Look) (outs : Outs T) → IsSound (ram_bytes ram) look.effect
    → IsHartOf plain hart → IsRamOf plain ram → IsCarriedOf plain (ram_bytes ram) (effect_result hart ram feed look outs)
unfolding effect_result
carried_keeps plain hart ram feed look outs sound hart_is ram_is = by_group plain look.group hart ram feed look outs sound.to_word hart_is ram_is
