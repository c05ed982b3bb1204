-- Memory has the image's tags still, and the image's words in its code ranges, after a store and after a service.
use Rattle.std.proofs.Common.{◌≡◌, ◌≢◌, ℕ, ◌*◌, ◌/◌, ◌<◌, ◌⊎◌, inl, inr, Bool, true, false, List, length, Option, Result, Ok, slice_index, slice_index_or, if◌then◌else◌, refl, sym, ◌∙◌, subst, arith}
use Rattle.std.proofs.lemmas.Bool.{cases_eq}
use Rattle.rv_step.specs.declared.accesses.Access.TheVariants as access
use Rattle.rv_step.specs.declared.accesses.Width.{Width}
use Rattle.policy_trait.specs.declared.birth.Birth.{Birth}
use Rattle.policy_trait.specs.declared.rules.Refused.{Refused}
use Rattle.policy_trait.specs.declared.services.Plan.{Plan}
use Rattle.policy_product.specs.Both.{tag_beside}
use Rattle.tag_memory.specs.Ram.{IsRam, RamState, ram_tag}
use Rattle.monitor_calls.specs.Service.{new_word}
use Rattle.turn_steps.specs.Effects.{with_store}
use Rattle.policy_parts.specs.Part.{word_tag}
use Rattle.flow_policy.specs.Flow.{flow, flow_start_word}
use Rattle.flow_policy.specs.declared.tag.FlowTag.{FlowTag}
use Rattle.flow_policy.specs.declared.tag.FlowTag.TheVariants.{Plain, Still, From, Code, Data}
use Rattle.part_turns.proofs.PlaceLemmas.{store_tag, store_tag_other, store_word_other}

-- what the invariant says of memory
pub record HoldsImage (birth : ℕ → Birth) (words : List ℕ) (ram : RamState FlowTag) : Type 0 where
  pub count : length ram.words ≡ length words
  pub tags : (n : ℕ) → n < length words → slice_index_or ram.tags n ram.plain ≡ flow_start_word (birth (4 * n))
  pub code : (n : ℕ) → n < length words → (birth (4 * n)).code ≡ true → slice_index ram.words n ≡ slice_index words n

-- the word's tag is as before, and if that is code's, so is the word
pub record IsAsBefore (old new : RamState FlowTag) (n : ℕ) : Type 0 where
  pub tag : slice_index_or new.tags n new.plain ≡ slice_index_or old.tags n old.plain
  pub word : (label : Option ℕ) → slice_index_or old.tags n old.plain ≡ Code label → slice_index new.words n ≡ slice_index old.words n

start_is_code : (code : Bool) (label : Option ℕ) → code ≡ true → (if code then Code label else Data) ≡ Code label
start_is_code true label is = refl
start_is_code false label is = absurd cc

pub image_stays : (birth : ℕ → Birth) (words : List ℕ) (old new : RamState FlowTag) → HoldsImage birth words old → length new.words ≡ length old.words
    → ((n : ℕ) → n < length old.words → IsAsBefore old new n) → HoldsImage birth words new
image_stays birth words old new holds even each = record {
  count = even ∙ holds.count;
  tags = λ n lt. (each n (omega (arith, holds.count))).tag ∙ holds.tags n lt;
  code = λ n lt is.
      (each n (omega (arith, holds.count))).word (birth (4 * n)).label (holds.tags n lt ∙ start_is_code (birth (4 * n)).code (birth (4 * n)).label is)
      ∙ holds.code n lt is;
}

-- ---- a store, which goes to data and leaves data

no_code : {P : Type 0} (label : Option ℕ) (tag : FlowTag) → tag ≡ Data → tag ≡ Code label → P
no_code label tag data_is code_is = absurd cc

pub store_stays : (ram : RamState FlowTag) (place : ℕ) (width : Width) (value : ℕ) → IsRam ram → ram_tag ram place ≡ Data
    → (n : ℕ) → n < length ram.words → IsAsBefore ram (with_store ram (access.Store place width value) Data) n
store_stays ram place width value is old n lt = by_place (cases_eq n (place / 4))
  where
    by_place : (n ≡ place / 4) ⊎ (n ≢ place / 4) → IsAsBefore ram (with_store ram (access.Store place width value) Data) n
    by_place (inr differs) = record {
      tag = store_tag_other ram place width value Data n differs;
      word = λ label code. store_word_other ram place width value Data n differs;
    }
    by_place (inl same) =
        subst (IsAsBefore ram (with_store ram (access.Store place width value) Data)) (sym same)
        (record {
          tag = store_tag ram place width value Data (place / 4) is refl (omega arith) ∙ sym old;
          word = λ label code. no_code label (ram_tag ram place) old code;
        })

-- ---- a word of another policy's service

abbrev tagged : FlowTag → Result FlowTag Refused
tagged tag = Ok tag

same_tag : (old new : FlowTag) → tagged old ≡ tagged new → old ≡ new
same_tag old new e = cc

-- a word that is not wiped has its tag, and one that is was data and stays so
by_zero : (list : List (ℕ × ℕ)) (zero : Bool) (pc old new : FlowTag) → tag_beside flow list zero pc old ≡ Ok new
    → (new ≡ old) × (zero ≡ true → old ≡ Data)
by_zero list false pc old new e = (sym (same_tag old new e), λ wiped. absurd cc)
by_zero list true pc Data new e = (sym (same_tag Data new e), λ wiped. refl)
by_zero list true pc Plain new e = absurd cc
by_zero list true pc Still new e = absurd cc
by_zero list true pc (From source) new e = absurd cc
by_zero list true pc (Code label) new e = absurd cc

code_stays : (zero : Bool) (word : ℕ) (label : Option ℕ) (old : FlowTag) → (zero ≡ true → old ≡ Data) → old ≡ Code label
    → (if zero then 0 else word) ≡ word
code_stays false word label old wiped code = refl
code_stays true word label old wiped code = no_code label old (wiped refl) code

pub service_stays : (list : List (ℕ × ℕ)) (p : Plan FlowTag) (old new : RamState FlowTag) (n : ℕ)
    → word_tag flow list p (slice_index_or old.tags n old.plain) ≡ Ok (slice_index_or new.tags n new.plain)
    → slice_index new.words n ≡ new_word p (slice_index old.words n) → IsAsBefore old new n
service_stays list p old new n tagged word =
    let known = by_zero list p.zero p.pc (slice_index_or old.tags n old.plain) (slice_index_or new.tags n new.plain) tagged in
    record {
      tag = known.0;
      word = λ label code. word ∙ code_stays p.zero (slice_index old.words n) label (slice_index_or old.tags n old.plain) known.1 code;
    }
