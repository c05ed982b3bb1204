-- Each input that a row does not ignore changes an answer: where all is clean, taint in its place.
use Rattle.std.proofs.Common.{◌≡◌, Bool, true, false, Result, Ok, Err, ap, true≢false}
use Rattle.shared_terms.proofs.CaseLemmas.{not_refused}
use Rattle.rv_decode.specs.declared.groups.Group.{Group}
use Rattle.policy_trait.specs.UseLaws.{ignored_input}
use Rattle.policy_trait.specs.Uses.{Input, Pc, Instruction, First, Second, Word, UsesExactly, is_ignored, with_input}
use Rattle.policy_trait.specs.declared.rules.Ins.{Ins}
use Rattle.policy_trait.specs.declared.rules.Outs.{Outs}
use Rattle.policy_trait.specs.declared.rules.Refused.{Refused}
use Rattle.taint_policy.specs.Taint.{HoldsAlways, row_ignores, row_of, rule_by, taint}
use Rattle.taint_policy.specs.TaintLaws.{taint_laws}
use Rattle.taint_policy.specs.declared.policy.Taint.{Taint}
use Rattle.taint_policy.specs.declared.table.Row.{Row}
use Rattle.taint_policy.specs.declared.table.Source.{Source}
use Rattle.taint_policy.specs.declared.table.Source.TheVariants as source
use Rattle.taint_policy.specs.declared.tag.TaintTag.{TaintTag}
use Rattle.taint_policy.specs.declared.tag.TaintTag.TheVariants.{Clean, Tainted}

abbrev all_clean : Ins TaintTag
all_clean = record { pc = Clean; ci = Clean; t1 = Clean; t2 = Clean; tm = Clean }

abbrev gives : TaintTag → Result (Outs TaintTag) Refused
gives tag = Ok (record { pc = Clean; result = tag })

not_tainted : {P : Type 0} → gives Tainted ≡ gives Clean → P
not_tainted e = let same : Tainted ≡ Clean = ap result_in e in cc
  where
    result_in : Result (Outs TaintTag) Refused → TaintTag
    result_in (Ok outs) = outs.result
    result_in (Err refused) = Clean

abbrev row : Bool → Source → Row
row is_guarded result = record { is_guarded = is_guarded; result = result }

abbrev Differs : Row → Input → Type 0
Differs row i = (g : Group) → is_ignored (row_ignores row) i ≡ false
    → ¬ (rule_by row g (with_input i Tainted all_clean) ≡ rule_by row g all_clean)

instruction_used : (is_guarded : Bool) (from : Source) → Differs (row is_guarded from) Instruction
instruction_used true from g is e = not_refused e
instruction_used false from g is e = not_refused e

first_used : (is_guarded : Bool) (from : Source) → Differs (row is_guarded from) First
first_used true from g is e = not_refused e
first_used false source.First g is e = not_tainted e
first_used false source.FirstOrSecond g is e = not_tainted e
first_used false source.FirstOrWord g is e = not_tainted e
first_used false source.Nowhere g is e = absurd (true≢false is)
first_used false source.Input g is e = absurd (true≢false is)
first_used false source.Second g is e = absurd (true≢false is)
first_used false source.SecondOrWord g is e = absurd (true≢false is)

second_used : (is_guarded : Bool) (from : Source) → Differs (row is_guarded from) Second
second_used true source.Second g is e = not_tainted e
second_used true source.FirstOrSecond g is e = not_tainted e
second_used true source.SecondOrWord g is e = not_tainted e
second_used false source.Second g is e = not_tainted e
second_used false source.FirstOrSecond g is e = not_tainted e
second_used false source.SecondOrWord g is e = not_tainted e
second_used is_guarded source.Nowhere g is e = absurd (true≢false is)
second_used is_guarded source.Input g is e = absurd (true≢false is)
second_used is_guarded source.First g is e = absurd (true≢false is)
second_used is_guarded source.FirstOrWord g is e = absurd (true≢false is)

word_used : (is_guarded : Bool) (from : Source) → Differs (row is_guarded from) Word
word_used true source.FirstOrWord g is e = not_tainted e
word_used true source.SecondOrWord g is e = not_tainted e
word_used false source.FirstOrWord g is e = not_tainted e
word_used false source.SecondOrWord g is e = not_tainted e
word_used is_guarded source.Nowhere g is e = absurd (true≢false is)
word_used is_guarded source.Input g is e = absurd (true≢false is)
word_used is_guarded source.First g is e = absurd (true≢false is)
word_used is_guarded source.Second g is e = absurd (true≢false is)
word_used is_guarded source.FirstOrSecond g is e = absurd (true≢false is)

differs : (row : Row) (i : Input) → Differs row i
differs row Pc = λ g is. absurd (true≢false is)
differs row Instruction = instruction_used row.is_guarded row.result
differs row First = first_used row.is_guarded row.result
differs row Second = second_used row.is_guarded row.result
differs row Word = word_used row.is_guarded row.result

pub taint_uses_exactly : (policy : Taint) → UsesExactly taint policy
taint_uses_exactly policy = record {
  ignored = λ g i is. ignored_input taint HoldsAlways taint_laws policy g i is;
  used = λ g i is. record { inputs = all_clean; tag = Tainted; differs = differs (row_of g) i g is };
}
