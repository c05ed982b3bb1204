-- A range is retagged where each of its words is, and refused where one is.
use Rattle.std.proofs.Common.{◌≡◌, ◌≢◌, ℕ, zero, suc, ◌+◌, ◌*◌, ◌<◌, List, [], ◌∷◌, length, Some, Result, Ok, Err, refl, sym, ap, ◌∙◌, subst, arith}
use Rattle.std.specs.Prelude.{IsOk, is_ok, slice_get}
use Rattle.std.proofs.lemmas.Option.{same_Some}
use Rattle.policy_trait.specs.Model.{PolicyModel}
use Rattle.shared_terms.specs.Steps.{◌>>=◌}
use Rattle.policy_trait.specs.declared.rules.Refused.{Refused}
use Rattle.policy_trait.specs.declared.services.Plan.{Plan}
use Rattle.policy_trait.specs.declared.services.PlanEnd.{PlanEnd}
use Rattle.policy_trait.specs.declared.services.PlanEnd.TheVariants as plan_end
use Rattle.tag_memory.specs.Rows.{StandFrom}
use Rattle.tag_memory.proofs.RowLemmas.{next_place}
use Rattle.shared_terms.proofs.StepLemmas.{ok_is, on_ok}
use Rattle.monitor_calls.specs.Service.{new_word, new_tags, tag_or_end}
use Rattle.monitor_calls.specs.Ranges.{RefusesFirst, RetagsEach}

-- the first place
first_place : (base : ℕ) → base + 4 * 0 ≡ base
first_place base = omega arith

given_tag : {A : Type 0} (r : Result A Refused) (tag : A) → tag_or_end r ≡ Ok tag → r ≡ Ok tag
given_tag (Ok given) tag e = cc
given_tag (Err refused) tag e = absurd cc

-- a list that is given
abbrev done : {A : Type 0} → List A → Result (List A) PlanEnd
done list = Ok list

abbrev failed : (A : Type 0) → Refused → Result A PlanEnd
failed A refused = Err (plan_end.Refused refused)

same_refusal : (A : Type 0) (refused given : Refused) → failed A refused ≡ failed A given → refused ≡ given
same_refusal A refused given e = cc

module _ {T S : Type 0} (m : PolicyModel T S) (s : S) (word_at : ℕ → ℕ) (tag_at : ℕ → T) (plan : Plan T) where
  abbrev from : ℕ → ℕ → Result (List (ℕ × ℕ × T)) PlanEnd
  from base count = new_tags m s word_at tag_at plan base count

  abbrev asked : ℕ → Result T Refused
  asked address = m.retag s plan (tag_at address)

  abbrev Each : ℕ → ℕ → List (ℕ × ℕ × T) → Type 0
  Each base count words = RetagsEach m s word_at tag_at plan base count words

  -- ---- retagged

  none_each : (base : ℕ) → Each base 0 []
  none_each base = record {
    all = refl;
    places = λ k item is. absurd cc;
    values = λ k item is. absurd cc;
    tags = λ k item is. absurd cc;
  }

  place_more : (base : ℕ) (value : ℕ) (tag : T) (rest : List (ℕ × ℕ × T)) → StandFrom (base + 4) rest → StandFrom base ((base, value, tag) ∷ rest)
  place_more base value tag rest row zero item is = ap (λ (item : ℕ × ℕ × T). item.0) (sym (same_Some (base, value, tag) item is)) ∙ sym (first_place base)
  place_more base value tag rest row (suc k) item is = row k item is ∙ sym (next_place base k)

  value_more : (base : ℕ) (tag : T) (rest : List (ℕ × ℕ × T)) → ((k : ℕ) (item : ℕ × ℕ × T) → slice_get rest k ≡ Some item → item.1 ≡ new_word plan (word_at (base + 4 + 4 * k)))
      → (k : ℕ) (item : ℕ × ℕ × T) → slice_get ((base, new_word plan (word_at base), tag) ∷ rest) k ≡ Some item → item.1 ≡ new_word plan (word_at (base + 4 * k))
  value_more base tag rest values zero item is =
      ap (λ (item : ℕ × ℕ × T). item.1) (sym (same_Some (base, new_word plan (word_at base), tag) item is)) ∙ ap (λ (a : ℕ). new_word plan (word_at a)) (sym (first_place base))
  value_more base tag rest values (suc k) item is = values k item is ∙ ap (λ (a : ℕ). new_word plan (word_at a)) (sym (next_place base k))

  tag_more : (base value : ℕ) (tag : T) (rest : List (ℕ × ℕ × T)) → asked base ≡ Ok tag → ((k : ℕ) (item : ℕ × ℕ × T) → slice_get rest k ≡ Some item → asked (base + 4 + 4 * k) ≡ Ok item.2)
      → (k : ℕ) (item : ℕ × ℕ × T) → slice_get ((base, value, tag) ∷ rest) k ≡ Some item → asked (base + 4 * k) ≡ Ok item.2
  tag_more base value tag rest given tags zero item is =
      ap asked (first_place base) ∙ given ∙ ap (λ (item : ℕ × ℕ × T). Ok item.2) (same_Some (base, value, tag) item is)
  tag_more base value tag rest given tags (suc k) item is = ap asked (next_place base k) ∙ tags k item is

  one_more : (base count : ℕ) (tag : T) (rest : List (ℕ × ℕ × T)) → asked base ≡ Ok tag → Each (base + 4) count rest → Each base (suc count) ((base, new_word plan (word_at base), tag) ∷ rest)
  one_more base count tag rest given each = record {
    all = ap suc each.all;
    places = place_more base (new_word plan (word_at base)) tag rest each.places;
    values = value_more base tag rest each.values;
    tags = tag_more base (new_word plan (word_at base)) tag rest given each.tags;
  }

  pub retags_each : (base count : ℕ) (words : List (ℕ × ℕ × T)) → from base count ≡ Ok words → Each base count words
  retags_each base zero words e = subst (Each base 0) (ok_is [] words e) (none_each base)
  retags_each base (suc count) words e =
      on_ok (tag_or_end (asked base)) _ words e λ tag tag-is e1.
      on_ok (from (base + 4) count) _ words e1 λ rest rest-is e2.
      subst (Each base (suc count)) (ok_is ((base, new_word plan (word_at base), tag) ∷ rest) words e2)
      (one_more base count tag rest (given_tag (asked base) tag tag-is) (retags_each (base + 4) count rest rest-is))

  -- and back
  fewer : (base count : ℕ) (word : ℕ × ℕ × T) (words : List (ℕ × ℕ × T)) → Each base (suc count) (word ∷ words) → Each (base + 4) count words
  fewer base count word words each = record {
    all = (let h : suc (length words) ≡ suc count = each.all in omega arith);
    places = λ k item is. each.places (suc k) item is ∙ next_place base k;
    values = λ k item is. each.values (suc k) item is ∙ ap (λ (a : ℕ). new_word plan (word_at a)) (next_place base k);
    tags = λ k item is. ap asked (sym (next_place base k)) ∙ each.tags (suc k) item is;
  }

  first_item : (base count : ℕ) (word : ℕ × ℕ × T) (words : List (ℕ × ℕ × T)) → Each base (suc count) (word ∷ words) → (base, new_word plan (word_at base), word.2) ≡ word
  first_item base count word words each =
      let place : word.0 ≡ base = each.places 0 word refl ∙ first_place base in
      let value : word.1 ≡ new_word plan (word_at base) = each.values 0 word refl ∙ ap (λ (a : ℕ). new_word plan (word_at a)) (first_place base) in
      ap (λ (a : ℕ). (a, new_word plan (word_at base), word.2)) (sym place) ∙ ap (λ (v : ℕ). (word.0, v, word.2)) (sym value)

  pub each_retagged : (base count : ℕ) (words : List (ℕ × ℕ × T)) → Each base count words → from base count ≡ Ok words
  each_retagged base zero [] each = refl
  each_retagged base zero (word ∷ words) each = (let h : suc (length words) ≡ 0 = each.all in absurd (omega arith))
  each_retagged base (suc count) [] each = (let h : 0 ≡ suc count = each.all in absurd (omega arith))
  each_retagged base (suc count) (word ∷ words) each =
      ap (λ r. tag_or_end r >>= λ tag. from (base + 4) count >>= λ rest. Ok ((base, new_word plan (word_at base), tag) ∷ rest)) (ap asked (sym (first_place base)) ∙ each.tags 0 word refl)
      ∙ ap (λ r. r >>= λ rest. Ok ((base, new_word plan (word_at base), word.2) ∷ rest)) (each_retagged (base + 4) count words (fewer base count word words each))
      ∙ ap (λ (item : ℕ × ℕ × T). done (item ∷ words)) (first_item base count word words each)

  -- ---- refused

  abbrev First : ℕ → ℕ → Refused → Type 0
  First base count refused = RefusesFirst m s tag_at plan base count refused

  refused_here : (base count : ℕ) (refused : Refused) → asked base ≡ Err refused → First base (suc count) refused
  refused_here base count refused given = record {
    place = 0;
    within = omega arith;
    refuses = ap asked (first_place base) ∙ given;
    allows = λ k lt. absurd (omega arith);
  }

  allowed_more : (base place : ℕ) (tag : T) → asked base ≡ Ok tag → ((k : ℕ) → k < place → IsOk (asked (base + 4 + 4 * k))) → (k : ℕ) → k < suc place → IsOk (asked (base + 4 * k))
  allowed_more base place tag given allows zero lt = ap is_ok (ap asked (first_place base) ∙ given)
  allowed_more base place tag given allows (suc k) lt = ap is_ok (ap asked (next_place base k)) ∙ allows k (omega arith)

  refused_behind : (base count : ℕ) (tag : T) (refused : Refused) → asked base ≡ Ok tag → First (base + 4) count refused → First base (suc count) refused
  refused_behind base count tag refused given first = record {
    place = suc first.place;
    within = (let h : first.place < count = first.within in omega arith);
    refuses = ap asked (next_place base first.place) ∙ first.refuses;
    allows = allowed_more base first.place tag given first.allows;
  }

  -- the first word was asked, and then the others
  by_answer : (base count : ℕ) (refused : Refused) (answer : Result T Refused) (rest : Result (List (ℕ × ℕ × T)) PlanEnd) → asked base ≡ answer
      → (rest ≡ Err (plan_end.Refused refused) → First (base + 4) count refused)
      → (tag_or_end answer >>= λ tag. rest >>= λ rest. Ok ((base, new_word plan (word_at base), tag) ∷ rest)) ≡ Err (plan_end.Refused refused) → First base (suc count) refused
  by_answer base count refused (Err given) rest is behind e = refused_here base count refused (is ∙ ap (λ r. Err r) (same_refusal (List (ℕ × ℕ × T)) given refused e))
  by_answer base count refused (Ok tag) (Ok rest) is behind e = absurd cc
  by_answer base count refused (Ok tag) (Err end) is behind e = refused_behind base count tag refused is (behind cc)

  pub refused_first : (base count : ℕ) (refused : Refused) → from base count ≡ Err (plan_end.Refused refused) → First base count refused
  refused_first base zero refused e = absurd cc
  refused_first base (suc count) refused e = by_answer base count refused (asked base) (from (base + 4) count) refl (refused_first (base + 4) count refused) e

  -- and back
  on_allowed : {P : Type 0} (r : Result T Refused) → IsOk r → ((tag : T) → r ≡ Ok tag → P) → P
  on_allowed (Ok tag) is next = next tag refl
  on_allowed (Err refused) is next = absurd cc

  refuses_at : (base count place : ℕ) (refused : Refused) → place < count → asked (base + 4 * place) ≡ Err refused → ((k : ℕ) → k < place → IsOk (asked (base + 4 * k))) → from base count ≡ Err (plan_end.Refused refused)
  refuses_at base zero place refused within refuses allows = absurd (omega arith)
  refuses_at base (suc count) zero refused within refuses allows =
      ap (λ r. tag_or_end r >>= λ tag. from (base + 4) count >>= λ rest. Ok ((base, new_word plan (word_at base), tag) ∷ rest)) (ap asked (sym (first_place base)) ∙ refuses)
  refuses_at base (suc count) (suc place) refused within refuses allows =
      on_allowed (asked base) (ap is_ok (ap asked (sym (first_place base))) ∙ allows 0 (omega arith)) λ tag tag-is.
      ap (λ r. tag_or_end r >>= λ tag. from (base + 4) count >>= λ rest. Ok ((base, new_word plan (word_at base), tag) ∷ rest)) tag-is
      ∙ ap (λ r. r >>= λ rest. Ok ((base, new_word plan (word_at base), tag) ∷ rest))
      (refuses_at (base + 4) count place refused (omega arith) (ap asked (sym (next_place base place)) ∙ refuses)
      (λ k lt. ap is_ok (ap asked (sym (next_place base k))) ∙ allows (suc k) (omega arith)))

  pub first_refused : (base count : ℕ) (refused : Refused) → First base count refused → from base count ≡ Err (plan_end.Refused refused)
  first_refused base count refused first = refuses_at base count first.place refused first.within first.refuses first.allows

  -- a range is never spent
  by_answer_spent : (base : ℕ) (answer : Result T Refused) (rest : Result (List (ℕ × ℕ × T)) PlanEnd) → rest ≢ Err plan_end.Spent
      → (tag_or_end answer >>= λ tag. rest >>= λ rest. Ok ((base, new_word plan (word_at base), tag) ∷ rest)) ≢ Err plan_end.Spent
  by_answer_spent base (Err given) rest not_spent e = cc
  by_answer_spent base (Ok tag) (Ok rest) not_spent e = cc
  by_answer_spent base (Ok tag) (Err end) not_spent e = not_spent cc

  pub never_spent : (base count : ℕ) → from base count ≢ Err plan_end.Spent
  never_spent base zero e = cc
  never_spent base (suc count) e = by_answer_spent base (asked base) (from (base + 4) count) (never_spent (base + 4) count) e
