-- Each input that a row does not ignore changes an answer: where all is open, a secret in its place.
use Rattle.std.proofs.Common.{◌≡◌, Bool, true, false, Result, Ok, Err, ap, true≢false}
use Rattle.shared_terms.proofs.CaseLemmas.{not_refused}
use Rattle.rv_decode.specs.declared.groups.Group.{Group}
use Rattle.policy_trait.specs.UseLaws.{ignored_input}
use Rattle.policy_trait.specs.Uses.{Input, Pc, Instruction, First, Second, Word, UsesExactly, is_ignored, with_input}
use Rattle.policy_trait.specs.declared.rules.Ins.{Ins}
use Rattle.policy_trait.specs.declared.rules.Outs.{Outs}
use Rattle.policy_trait.specs.declared.rules.Refused.{Refused}
use Rattle.secrecy_policy.specs.Secrecy.{IsLeft, SecretState, needing, row_ignores, row_of, rule_by, secrecy}
use Rattle.secrecy_policy.specs.SecrecyLaws.{secrecy_laws}
use Rattle.secrecy_policy.specs.declared.table.Row.{Row}
use Rattle.secrecy_policy.specs.declared.table.Source.{Source}
use Rattle.secrecy_policy.specs.declared.table.Source.TheVariants as source
use Rattle.secrecy_policy.specs.declared.tag.SecretTag.{SecretTag}
use Rattle.secrecy_policy.specs.declared.tag.SecretTag.TheVariants.{Open, Secret}

abbrev all_open : Ins SecretTag
all_open = record { pc = Open; ci = Open; t1 = Open; t2 = Open; tm = Open }

abbrev gives : SecretTag → Result (Outs SecretTag) Refused
gives tag = Ok (record { pc = Open; result = tag })

not_secret : {P : Type 0} → gives Secret ≡ gives Open → P
not_secret e = let same : Secret ≡ Open = ap result_in e in cc
  where
    result_in : Result (Outs SecretTag) Refused → SecretTag
    result_in (Ok outs) = outs.result
    result_in (Err refused) = Open

abbrev Differs : Row → Input → Type 0
Differs row i = (g : Group) → is_ignored (row_ignores row) i ≡ false
    → ¬ (rule_by row g (with_input i Secret all_open) ≡ rule_by row g all_open)

instruction_used : (first second : Bool) (from : Source) → Differs (needing first second from) Instruction
instruction_used true true from g is e = not_refused e
instruction_used true false from g is e = not_refused e
instruction_used false true from g is e = not_refused e
instruction_used false false from g is e = not_refused e

first_used : (first second : Bool) (from : Source) → Differs (needing first second from) First
first_used true true from g is e = not_refused e
first_used true false from g is e = not_refused e
first_used false true source.First g is e = not_secret e
first_used false false source.First g is e = not_secret e
first_used false true source.FirstOrSecond g is e = not_secret e
first_used false false source.FirstOrSecond g is e = not_secret e
first_used false second source.Nowhere g is e = absurd (true≢false is)
first_used false second source.Second g is e = absurd (true≢false is)
first_used false second source.Word g is e = absurd (true≢false is)
first_used false second source.SecondOrWord g is e = absurd (true≢false is)

second_used : (first second : Bool) (from : Source) → Differs (needing first second from) Second
second_used true true from g is e = not_refused e
second_used false true from g is e = not_refused e
second_used true false source.Second g is e = not_secret e
second_used false false source.Second g is e = not_secret e
second_used true false source.FirstOrSecond g is e = not_secret e
second_used false false source.FirstOrSecond g is e = not_secret e
second_used true false source.SecondOrWord g is e = not_secret e
second_used false false source.SecondOrWord g is e = not_secret e
second_used first false source.Nowhere g is e = absurd (true≢false is)
second_used first false source.First g is e = absurd (true≢false is)
second_used first false source.Word g is e = absurd (true≢false is)

word_used : (first second : Bool) (from : Source) → Differs (needing first second from) Word
word_used true true source.Word g is e = not_secret e
word_used true false source.Word g is e = not_secret e
word_used false true source.Word g is e = not_secret e
word_used false false source.Word g is e = not_secret e
word_used true true source.SecondOrWord g is e = not_secret e
word_used true false source.SecondOrWord g is e = not_secret e
word_used false true source.SecondOrWord g is e = not_secret e
word_used false false source.SecondOrWord g is e = not_secret e
word_used first second source.Nowhere g is e = absurd (true≢false is)
word_used first second source.First g is e = absurd (true≢false is)
word_used first second source.FirstOrSecond g is e = absurd (true≢false is)
word_used first second source.Second g is e = absurd (true≢false is)

differs : (row : Row) (i : Input) → Differs row i
differs row Pc = λ g is. absurd (true≢false is)
differs row Instruction = instruction_used row.first row.second row.result
differs row First = first_used row.first row.second row.result
differs row Second = second_used row.first row.second row.result
differs row Word = word_used row.first row.second row.result

pub secret_uses_exactly : (s : SecretState) → UsesExactly secrecy s
secret_uses_exactly s = record {
  ignored = λ g i is. ignored_input secrecy IsLeft secrecy_laws s g i is;
  used = λ g i is. record { inputs = all_open; tag = Secret; differs = differs (row_of g) i g is };
}
