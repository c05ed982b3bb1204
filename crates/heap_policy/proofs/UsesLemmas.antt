-- Each input that a rule does not ignore changes an answer: where all is allowed, the tag of a free word is not.
use Rattle.std.proofs.Common.{◌≡◌, false, true≢false}
use Rattle.shared_terms.proofs.CaseLemmas.{not_refused}
use Rattle.rv_decode.specs.declared.groups.Group.{Group}
use Rattle.policy_trait.specs.UseLaws.{ignored_input}
use Rattle.policy_trait.specs.Uses.{Input, Pc, Instruction, First, Second, Word, UsesExactly, is_ignored, with_input}
use Rattle.policy_trait.specs.declared.rules.Ins.{Ins}
use Rattle.heap_policy.specs.Heap.{HeapState, IsHeap, effect_of, heap, ignores_by, rule_by}
use Rattle.heap_policy.specs.HeapLaws.{heap_laws}
use Rattle.heap_policy.specs.declared.table.Effect.{Effect}
use Rattle.heap_policy.specs.declared.table.Effect.TheVariants.{GoesOn, TakesFirst, TakesSecond, TakesBoth, Moves, Loads, LoadsPart, Stores, StoresPart, Adds, Subtracts}
use Rattle.heap_policy.specs.declared.tag.Content.TheVariants as contents
use Rattle.heap_policy.specs.declared.tag.HeapTag.{HeapTag}
use Rattle.heap_policy.specs.declared.tag.HeapTag.TheVariants.{Val, Static, Free}

-- values alone, in registers and in words outside the heap region: every group allows that
abbrev allowed : Ins HeapTag
allowed = record { pc = Val; ci = Static contents.Val; t1 = Val; t2 = Val; tm = Static contents.Val }

abbrev Differs : Effect → Input → Type 0
Differs effect i =
    (g : Group) → is_ignored (ignores_by effect) i ≡ false
    → ¬ (rule_by effect g (with_input i Free allowed) ≡ rule_by effect g allowed)

instruction_used : (effect : Effect) → Differs effect Instruction
instruction_used GoesOn g is e = not_refused e
instruction_used TakesFirst g is e = not_refused e
instruction_used TakesSecond g is e = not_refused e
instruction_used TakesBoth g is e = not_refused e
instruction_used Moves g is e = not_refused e
instruction_used Loads g is e = not_refused e
instruction_used LoadsPart g is e = not_refused e
instruction_used Stores g is e = not_refused e
instruction_used StoresPart g is e = not_refused e
instruction_used Adds g is e = not_refused e
instruction_used Subtracts g is e = not_refused e

first_used : (effect : Effect) → Differs effect First
first_used GoesOn g is e = absurd (true≢false is)
first_used TakesSecond g is e = absurd (true≢false is)
first_used TakesFirst g is e = not_refused e
first_used TakesBoth g is e = not_refused e
first_used Moves g is e = not_refused e
first_used Loads g is e = not_refused e
first_used LoadsPart g is e = not_refused e
first_used Stores g is e = not_refused e
first_used StoresPart g is e = not_refused e
first_used Adds g is e = not_refused e
first_used Subtracts g is e = not_refused e

second_used : (effect : Effect) → Differs effect Second
second_used TakesSecond g is e = not_refused e
second_used TakesBoth g is e = not_refused e
second_used Stores g is e = not_refused e
second_used Adds g is e = not_refused e
second_used Subtracts g is e = not_refused e
second_used GoesOn g is e = absurd (true≢false is)
second_used TakesFirst g is e = absurd (true≢false is)
second_used Moves g is e = absurd (true≢false is)
second_used Loads g is e = absurd (true≢false is)
second_used LoadsPart g is e = absurd (true≢false is)
second_used StoresPart g is e = absurd (true≢false is)

word_used : (effect : Effect) → Differs effect Word
word_used Loads g is e = not_refused e
word_used LoadsPart g is e = not_refused e
word_used Stores g is e = not_refused e
word_used StoresPart g is e = not_refused e
word_used GoesOn g is e = absurd (true≢false is)
word_used TakesFirst g is e = absurd (true≢false is)
word_used TakesSecond g is e = absurd (true≢false is)
word_used TakesBoth g is e = absurd (true≢false is)
word_used Moves g is e = absurd (true≢false is)
word_used Adds g is e = absurd (true≢false is)
word_used Subtracts g is e = absurd (true≢false is)

differs : (effect : Effect) (i : Input) → Differs effect i
differs effect Pc = λ g is. absurd (true≢false is)
differs effect Instruction = instruction_used effect
differs effect First = first_used effect
differs effect Second = second_used effect
differs effect Word = word_used effect

pub heap_uses_exactly : (state : HeapState) → UsesExactly heap state
heap_uses_exactly state = record {
  ignored = λ g i is. ignored_input heap IsHeap heap_laws state g i is;
  used = λ g i is. record { inputs = allowed; tag = Free; differs = differs (effect_of g) i g is };
}
