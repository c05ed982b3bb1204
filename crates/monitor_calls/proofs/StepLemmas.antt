-- The words of a range, made front first.
use Rattle.std.proofs.Common.{◌≡◌, ℕ, suc, ◌+◌, ◌-◌, ◌*◌, ◌<◌, List, [], ◌∷◌, ◌++◌, Result, Ok, Err, refl, sym, ap, ◌∙◌, subst, arith, append_assoc, if◌then◌else◌}
use Rattle.std.proofs.lemmas.List.{append-nil}
use Rattle.std.proofs.lemmas.List.Elements.{All-push}
use Rattle.std.specs.List.{All}
use Rattle.std.specs.Prelude.{IsOk, is_ok}
use Rattle.policy_trait.specs.Model.{PolicyModel}
use Rattle.shared_terms.specs.Steps.{◌>>=◌}
use Rattle.policy_trait.specs.declared.rules.Refused.{Refused}
use Rattle.policy_trait.specs.declared.services.Plan.{Plan}
use Rattle.policy_trait.specs.declared.services.PlanEnd.{PlanEnd}
use Rattle.policy_trait.specs.declared.services.PlanEnd.TheVariants as plan_end
use Rattle.monitor_calls.specs.Ends.{EndsAs}
use Rattle.monitor_calls.specs.Service.{new_tags, tag_or_end}
use Rattle.monitor_calls.specs.declared.serving.ServeEnd.{ServeEnd}
use Rattle.monitor_calls.specs.declared.serving.ServeEnd.TheVariants as serve_end

abbrev pub with_prefix : {A : Type 0} → List A → Result (List A) PlanEnd → Result (List A) PlanEnd
with_prefix prefix (Ok rest) = Ok (prefix ++ rest)
with_prefix prefix (Err end) = Err end

with_prefix-nil : {A : Type 0} (r : Result (List A) PlanEnd) → with_prefix [] r ≡ r
with_prefix-nil (Ok rest) = refl
with_prefix-nil (Err end) = refl

-- one word, and then the rest
put_prefix : {A : Type 0} (prefix : List A) (x : A) (r : Result (List A) PlanEnd)
    → with_prefix prefix (r >>= λ rest. Ok (x ∷ rest)) ≡ with_prefix (prefix ++ x ∷ []) r
put_prefix prefix x (Ok rest) = ap (λ l. Ok l) (sym (append_assoc prefix (x ∷ []) rest))
put_prefix prefix x (Err end) = refl

-- a way to end is also that of what stands before
prefix_ends : {A : Type 0} (prefix : List A) (e : ServeEnd) (r : Result (List A) PlanEnd) → EndsAs e r → EndsAs e (with_prefix prefix r)
prefix_ends prefix (serve_end.Refused refused) r ends = ap (with_prefix prefix) ends
prefix_ends prefix serve_end.Spent r ends = ap (with_prefix prefix) ends
prefix_ends prefix serve_end.Memory (Ok rest) ends = refl
prefix_ends prefix serve_end.Memory (Err end) ends = absurd cc

module _ {S T : Type 0} (m : PolicyModel T S) (s : S) (word_at : ℕ → ℕ) (tag_at : ℕ → T) (plan : Plan T) where
  abbrev from : ℕ → ℕ → Result (List (ℕ × ℕ × T)) PlanEnd
  from base count = new_tags m s word_at tag_at plan base count

  abbrev value_at : ℕ → ℕ
  value_at base = if plan.zero then 0 else word_at base

  pub begins : (prefix : List (ℕ × ℕ × T)) (base count : ℕ) → prefix ≡ [] → with_prefix prefix (from (base + 4 * 0) (count - 0)) ≡ from base count
  begins prefix base count empty =
      ap (λ f. with_prefix f (from (base + 4 * 0) (count - 0))) empty
      ∙ with_prefix-nil (from (base + 4 * 0) (count - 0))
      ∙ ap (λ b. from b (count - 0)) (let e : base + 4 * 0 ≡ base = omega arith in e)
      ∙ ap (λ n. from base n) (let e : count - 0 ≡ count = omega arith in e)

  -- one word more
  next_tag : (base count : ℕ) (tag : T) (prefix : List (ℕ × ℕ × T)) → m.retag s plan (tag_at base) ≡ Ok tag
      → with_prefix prefix (from base (suc count)) ≡ with_prefix (prefix ++ (base, value_at base, tag) ∷ []) (from (base + 4) count)
  next_tag base count tag prefix given =
      ap (λ r. with_prefix prefix (tag_or_end r >>= λ t. from (base + 4) count >>= λ rest. Ok ((base, value_at base, t) ∷ rest))) given
      ∙ put_prefix prefix (base, value_at base, tag) (from (base + 4) count)

  pub goes_on : (prefix grown : List (ℕ × ℕ × T)) (base count place value : ℕ) (tag : T) (whole : Result (List (ℕ × ℕ × T)) PlanEnd) → place < count
      → m.retag s plan (tag_at (base + 4 * place)) ≡ Ok tag → value ≡ value_at (base + 4 * place) → grown ≡ prefix ++ (base + 4 * place, value, tag) ∷ []
      → with_prefix prefix (from (base + 4 * place) (count - place)) ≡ whole
      → with_prefix grown (from (base + 4 * (place + 1)) (count - (place + 1))) ≡ whole
  goes_on prefix grown base count place value tag whole below given value_is grown_is so_far =
      ap (λ f. with_prefix f (from (base + 4 * (place + 1)) (count - (place + 1)))) grown_is
      ∙ ap (λ v. with_prefix (prefix ++ (base + 4 * place, v, tag) ∷ []) (from (base + 4 * (place + 1)) (count - (place + 1)))) value_is
      ∙ ap (λ b. with_prefix (prefix ++ (base + 4 * place, value_at (base + 4 * place), tag) ∷ []) (from b (count - (place + 1)))) (let e : base + 4 * (place + 1) ≡ base + 4 * place + 4 = omega arith in e)
      ∙ sym (next_tag (base + 4 * place) (count - (place + 1)) tag prefix given)
      ∙ ap (λ n. with_prefix prefix (from (base + 4 * place) n)) (let e : suc (count - (place + 1)) ≡ count - place = omega arith in e)
      ∙ so_far

  -- a refused word
  stops_at : (base count : ℕ) (refused : Refused) (prefix : List (ℕ × ℕ × T)) → m.retag s plan (tag_at base) ≡ Err refused
      → with_prefix prefix (from base (suc count)) ≡ Err (plan_end.Refused refused)
  stops_at base count refused prefix given =
      ap (λ r. with_prefix prefix (tag_or_end r >>= λ t. from (base + 4) count >>= λ rest. Ok ((base, value_at base, t) ∷ rest))) given

  pub is_refused : (prefix : List (ℕ × ℕ × T)) (base count place : ℕ) (refused : Refused) (whole : Result (List (ℕ × ℕ × T)) PlanEnd) → place < count
      → m.retag s plan (tag_at (base + 4 * place)) ≡ Err refused
      → with_prefix prefix (from (base + 4 * place) (count - place)) ≡ whole
      → whole ≡ Err (plan_end.Refused refused)
  is_refused prefix base count place refused whole below given so_far =
      sym so_far
      ∙ ap (λ n. with_prefix prefix (from (base + 4 * place) n)) (let e : count - place ≡ suc (count - (place + 1)) = omega arith in e)
      ∙ stops_at (base + 4 * place) (count - (place + 1)) refused prefix given

  -- no word is left
  pub is_whole : (prefix : List (ℕ × ℕ × T)) (base count place : ℕ) (whole : Result (List (ℕ × ℕ × T)) PlanEnd) → place ≡ count
      → with_prefix prefix (from (base + 4 * place) (count - place)) ≡ whole → whole ≡ Ok prefix
  is_whole prefix base count place whole all so_far =
      sym so_far
      ∙ ap (λ n. with_prefix prefix (from (base + 4 * place) n)) (let e : count - place ≡ 0 = omega arith in e)
      ∙ ap (λ l. Ok l) (append-nil prefix)

  -- ---- how the rest ends, the whole ends

  one_more_ends : (e : ServeEnd) (base count : ℕ) (tag : T) → m.retag s plan (tag_at base) ≡ Ok tag → EndsAs e (from (base + 4) count) → EndsAs e (from base (suc count))
  one_more_ends e base count tag given ends =
      subst (EndsAs e) (sym (next_tag base count tag [] given) ∙ with_prefix-nil (from base (suc count)))
      (prefix_ends ((base, value_at base, tag) ∷ []) e (from (base + 4) count) ends)

  pub ends_on : (e : ServeEnd) (base count place : ℕ) (tag : T) → place < count → m.retag s plan (tag_at (base + 4 * place)) ≡ Ok tag
      → EndsAs e (from (base + 4 * (place + 1)) (count - (place + 1))) → EndsAs e (from (base + 4 * place) (count - place))
  ends_on e base count place tag below given ends =
      subst (λ (n : ℕ). EndsAs e (from (base + 4 * place) n)) (let h : suc (count - (place + 1)) ≡ count - place = omega arith in h)
      (one_more_ends e (base + 4 * place) (count - (place + 1)) tag given
      (subst (λ (b : ℕ). EndsAs e (from b (count - (place + 1)))) (let h : base + 4 * (place + 1) ≡ base + 4 * place + 4 = omega arith in h) ends))

  pub ends_whole : (e : ServeEnd) (prefix : List (ℕ × ℕ × T)) (base count place : ℕ) (tag : T) (whole : Result (List (ℕ × ℕ × T)) PlanEnd) → place < count
      → m.retag s plan (tag_at (base + 4 * place)) ≡ Ok tag → with_prefix prefix (from (base + 4 * place) (count - place)) ≡ whole
      → EndsAs e (from (base + 4 * (place + 1)) (count - (place + 1))) → EndsAs e whole
  ends_whole e prefix base count place tag whole below given so_far ends =
      subst (EndsAs e) so_far (prefix_ends prefix e (from (base + 4 * place) (count - place)) (ends_on e base count place tag below given ends))

  -- from a word on that is refused
  pub refused_here : (base count place : ℕ) (refused : Refused) → place < count → m.retag s plan (tag_at (base + 4 * place)) ≡ Err refused
      → from (base + 4 * place) (count - place) ≡ Err (plan_end.Refused refused)
  refused_here base count place refused below given =
      is_refused [] base count place refused (from (base + 4 * place) (count - place)) below given (with_prefix-nil (from (base + 4 * place) (count - place)))

  -- with no word left nothing refuses
  pub none_left : (base count place : ℕ) → place ≡ count → IsOk (from (base + 4 * place) (count - place))
  none_left base count place all = ap (λ (n : ℕ). is_ok (from (base + 4 * place) n)) (let e : count - place ≡ 0 = omega arith in e)

-- what holds of each item and of one more holds of each behind it
pub all_grown : {X : Type 0} (P : X → Type 0) (prefix grown : List X) (x : X) → All P prefix → P x → grown ≡ prefix ++ x ∷ [] → All P grown
all_grown P prefix grown x all here grown_is = subst (All P) (sym grown_is) (All-push P prefix x all here)
