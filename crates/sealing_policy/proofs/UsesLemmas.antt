-- Each input that a row does not ignore changes an answer: at data everywhere, a key in its place.
use Rattle.std.proofs.Common.{◌≡◌, ℕ, Bool, true, false, Result, Ok, Err, refl, sym, ap, ◌∙◌, true≢false}
use Rattle.shared_terms.proofs.CaseLemmas.{not_refused}
use Rattle.rv_decode.specs.declared.groups.Group.{Group}
use Rattle.policy_trait.specs.UseLaws.{ignored_input}
use Rattle.policy_trait.specs.Uses.{Input, Pc, Instruction, First, Second, Word, UsesExactly, is_ignored, with_input}
use Rattle.policy_trait.specs.declared.rules.Ins.{Ins}
use Rattle.policy_trait.specs.declared.rules.Outs.{Outs}
use Rattle.policy_trait.specs.declared.rules.Refused.{Refused}
use Rattle.policy_trait.specs.declared.rules.Why.TheVariants as why
use Rattle.sealing_policy.specs.Sealing.{HasFewKeys, is_fit, row_ignores, row_of, rule_by, sealing, refused_for, tag_from}
use Rattle.sealing_policy.specs.SealingLaws.{sealing_laws}
use Rattle.sealing_policy.specs.declared.table.Row.{Row}
use Rattle.sealing_policy.specs.declared.table.Source.{Source}
use Rattle.sealing_policy.specs.declared.table.Source.TheVariants.{Plain, OfFirst, OfSecond, OfWord}
use Rattle.sealing_policy.specs.declared.tag.SealTag.{SealTag}
use Rattle.sealing_policy.specs.declared.tag.SealTag.TheVariants.{Data, Key}

abbrev all_data : Ins SealTag
all_data = record { pc = Data; ci = Data; t1 = Data; t2 = Data; tm = Data }

abbrev gives : SealTag → Result (Outs SealTag) Refused
gives tag = Ok (record { pc = Data; result = tag })

data_fits : (needed : Bool) → is_fit needed Data ≡ true
data_fits true = refl
data_fits false = refl

data_from : (source : Source) → tag_from source all_data ≡ Data
data_from Plain = refl
data_from OfFirst = refl
data_from OfSecond = refl
data_from OfWord = refl

-- data everywhere is allowed, and gives data
allowed : (row : Row) (g : Group) → rule_by row g all_data ≡ gives Data
allowed row g = rw (data_fits row.first, data_fits row.second, data_fits row.word, data_from row.result) refl

not_key : {P : Type 0} → gives (Key 0) ≡ gives Data → P
not_key e = let same : Key 0 ≡ Data = ap result_in e in cc
  where
    result_in : Result (Outs SealTag) Refused → SealTag
    result_in (Ok outs) = outs.result
    result_in (Err refused) = Data

abbrev Differs : Row → Input → Type 0
Differs row i = (g : Group) → is_ignored (row_ignores row) i ≡ false → ¬ (rule_by row g (with_input i (Key 0) all_data) ≡ rule_by row g all_data)

instruction_used : (row : Row) → Differs row Instruction
instruction_used row g is e = not_refused (e ∙ allowed row g)

abbrev row : Bool → Bool → Bool → Source → Row
row first second word result = record { first = first; second = second; word = word; result = result }

first_used : (first second word : Bool) (result : Source) → Differs (row first second word result) First
first_used true second word result g is e = not_refused (e ∙ allowed (row true second word result) g)
first_used false second word OfFirst g is e =
    let made : rule_by (row false second word OfFirst) g (with_input First (Key 0) all_data) ≡ gives (Key 0) = rw (data_fits second, data_fits word) refl in
    not_key (sym made ∙ e ∙ allowed (row false second word OfFirst) g)
first_used false second word Plain g is e = absurd (true≢false is)
first_used false second word OfSecond g is e = absurd (true≢false is)
first_used false second word OfWord g is e = absurd (true≢false is)

second_used : (first second word : Bool) (result : Source) → Differs (row first second word result) Second
second_used first true word result g is e =
    let made : rule_by (row first true word result) g (with_input Second (Key 0) all_data) ≡ Err (refused_for (why.Rule g)) = rw (data_fits first) refl in
    not_refused (sym made ∙ e ∙ allowed (row first true word result) g)
second_used first false word OfSecond g is e =
    let made : rule_by (row first false word OfSecond) g (with_input Second (Key 0) all_data) ≡ gives (Key 0) = rw (data_fits first, data_fits word) refl in
    not_key (sym made ∙ e ∙ allowed (row first false word OfSecond) g)
second_used first false word Plain g is e = absurd (true≢false is)
second_used first false word OfFirst g is e = absurd (true≢false is)
second_used first false word OfWord g is e = absurd (true≢false is)

word_used : (first second word : Bool) (result : Source) → Differs (row first second word result) Word
word_used first second true result g is e =
    let made : rule_by (row first second true result) g (with_input Word (Key 0) all_data) ≡ Err (refused_for (why.Rule g)) = rw (data_fits first, data_fits second) refl in
    not_refused (sym made ∙ e ∙ allowed (row first second true result) g)
word_used first second false OfWord g is e =
    let made : rule_by (row first second false OfWord) g (with_input Word (Key 0) all_data) ≡ gives (Key 0) = rw (data_fits first, data_fits second) refl in
    not_key (sym made ∙ e ∙ allowed (row first second false OfWord) g)
word_used first second false Plain g is e = absurd (true≢false is)
word_used first second false OfFirst g is e = absurd (true≢false is)
word_used first second false OfSecond g is e = absurd (true≢false is)

differs : (row : Row) (i : Input) → Differs row i
differs row Pc = λ g is. absurd (true≢false is)
differs row Instruction = instruction_used row
differs row First = first_used row.first row.second row.word row.result
differs row Second = second_used row.first row.second row.word row.result
differs row Word = word_used row.first row.second row.word row.result

pub sealing_uses_exactly : (keys : ℕ) → UsesExactly sealing keys
sealing_uses_exactly keys = record {
  ignored = λ g i is. ignored_input sealing HasFewKeys sealing_laws keys g i is;
  used = λ g i is. record { inputs = all_data; tag = Key 0; differs = differs (row_of g) i g is };
}
