-- What a service under the whole policy is for a part of it: its words, mapped, are those that the part beside others gives.
use Rattle.std.proofs.Common.{◌≡◌, ℕ, zero, suc, ◌+◌, true, List, [], ◌∷◌, Option, Some, None, Result, Ok, Err, refl, sym, ap, ◌∙◌}
use Rattle.policy_trait.specs.Maps.{plan_by}
use Rattle.policy_trait.specs.Model.{PolicyModel}
use Rattle.shared_terms.specs.Steps.{◌>>=◌}
use Rattle.policy_trait.specs.declared.rules.Refused.{Refused}
use Rattle.policy_trait.specs.declared.services.Args.{Args}
use Rattle.policy_trait.specs.declared.services.Plan.{Plan}
use Rattle.policy_trait.specs.declared.services.PlanEnd.{PlanEnd}
use Rattle.policy_trait.specs.declared.services.Words.{Words}
use Rattle.monitor_calls.specs.Ranges.{IsJobOf}
use Rattle.monitor_calls.specs.Service.{new_word, new_tags, retagged_range, tag_or_end}
use Rattle.monitor_calls.proofs.RangeLemmas.{each_retagged}
use Rattle.shared_terms.proofs.StepLemmas.{ok_is}
use Rattle.engine_trait.specs.Maps.{words_by}
use Rattle.policy_parts.specs.Part.{IsPart, Planned, beside_others, others, own}
use Rattle.policy_parts.specs.Lens.{Lens}

-- a plan's service is the number that was asked
pub number_is : {U V : Type 0} (m : PolicyModel U V) (v : V) (number : ℕ) (a : Args U) (pc : U) (p : Plan U) → Planned m v number a pc p
    → p.service ≡ number
number_is m v number a pc p (own known same planned) = same
number_is m v number a pc p (others unknown same pc_is answers) = same

module _ {T S U V : Type 0} (w : PolicyModel T S) (m : PolicyModel U V) (l : Lens T S U V) (part : IsPart w m l) (s : S) (on : l.is_on s ≡ true)
    (word_at : ℕ → ℕ) (tag_at : ℕ → T) (tag_seen : ℕ → U) (seen : (address : ℕ) → tag_seen address ≡ l.tag (tag_at address))
    (p : Plan T) (known : w.knows s p.service ≡ true) where
  abbrev from : ℕ → ℕ → Result (List (ℕ × ℕ × T)) PlanEnd
  from base count = new_tags w s word_at tag_at p base count

  abbrev from_seen : ℕ → ℕ → Result (List (ℕ × ℕ × U)) PlanEnd
  from_seen base count = new_tags (beside_others m) (l.value s) word_at tag_seen (plan_by l.tag p) base count

  abbrev given : {A : Type 0} → List (ℕ × ℕ × A) → Result (List (ℕ × ℕ × A)) PlanEnd
  given words = Ok words

  -- a word of the range with its new tag, before the others
  abbrev more : {A : Type 0} → ℕ → A → List (ℕ × ℕ × A) → List (ℕ × ℕ × A)
  more base tag words = (base, new_word p (word_at base), tag) ∷ words

  retag_seen : (base : ℕ) (tag : T) → w.retag s p (tag_at base) ≡ Ok tag
      → (beside_others m).retag (l.value s) (plan_by l.tag p) (tag_seen base) ≡ Ok (l.tag tag)
  retag_seen base tag is = ap ((beside_others m).retag (l.value s) (plan_by l.tag p)) (seen base) ∙ part.retag s p (tag_at base) tag on known is

  by_rest : (base count : ℕ) (words : List (ℕ × ℕ × T)) (tag : T) → w.retag s p (tag_at base) ≡ Ok tag → (rest : Result (List (ℕ × ℕ × T)) PlanEnd)
      → ((list : List (ℕ × ℕ × T)) → rest ≡ Ok list → from_seen (base + 4) count ≡ Ok (words_by l.tag list))
      → (rest >>= λ list. given (more base tag list)) ≡ Ok words → from_seen base (suc count) ≡ Ok (words_by l.tag words)
  by_rest base count words tag is (Ok list) each e =
      ap (λ (answer : Result U Refused). tag_or_end answer >>= λ t. from_seen (base + 4) count >>= λ later. given (more base t later))
      (retag_seen base tag is)
      ∙ ap (λ later. later >>= λ seen_words. given (more base (l.tag tag) seen_words)) (each list refl)
      ∙ ap (λ all. given (words_by l.tag all)) (ok_is (more base tag list) words e)
  by_rest base count words tag is (Err end) each e = absurd cc

  by_tag : (base count : ℕ) (words : List (ℕ × ℕ × T)) (answer : Result T Refused) → w.retag s p (tag_at base) ≡ answer
      → ((list : List (ℕ × ℕ × T)) → from (base + 4) count ≡ Ok list → from_seen (base + 4) count ≡ Ok (words_by l.tag list))
      → (tag_or_end answer >>= λ tag. from (base + 4) count >>= λ list. given (more base tag list)) ≡ Ok words
      → from_seen base (suc count) ≡ Ok (words_by l.tag words)
  by_tag base count words (Ok tag) is each e = by_rest base count words tag is (from (base + 4) count) each e
  by_tag base count words (Err refused) is each e = absurd cc

  retagged_seen : (base count : ℕ) (words : List (ℕ × ℕ × T)) → from base count ≡ Ok words → from_seen base count ≡ Ok (words_by l.tag words)
  retagged_seen base zero words e = ap (λ all. given (words_by l.tag all)) (ok_is [] words e)
  retagged_seen base (suc count) words e = by_tag base count words (w.retag s p (tag_at base)) refl (retagged_seen (base + 4) count) e

  abbrev range_seen : Option Words → Result (List (ℕ × ℕ × U)) PlanEnd
  range_seen range = retagged_range (beside_others m) (l.value s) word_at tag_seen (plan_by l.tag p) range

  pub job_seen : (number : ℕ) (arguments : Args T) (pc : T) (words : List (ℕ × ℕ × T))
      → IsJobOf w s word_at tag_at number arguments pc (record { plan = p; words = words }) → range_seen p.range ≡ Ok (words_by l.tag words)
  job_seen number arguments pc words is = by_range p.range refl
    where
      by_range : (range : Option Words) → p.range ≡ range → range_seen range ≡ Ok (words_by l.tag words)
      by_range None none = ap (λ all. given (words_by l.tag all)) (sym (is.rangeless none))
      by_range (Some range) some =
          retagged_seen range.base range.count words
          (each_retagged w s word_at tag_at p range.base range.count words (is.ranged range some))
