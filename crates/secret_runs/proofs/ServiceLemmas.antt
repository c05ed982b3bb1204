-- A service of the policy in two worlds: its plan, the words that it writes, and what it leaves.
use Rattle.std.proofs.Common.{◌≡◌, ℕ, zero, suc, ◌+◌, Bool, true, false, List, [], ◌∷◌, Option, Some, None, Result, Ok, Err, refl, sym, ap, ◌∙◌, subst, if◌then◌else◌}
use Rattle.shared_terms.specs.Steps.{◌>>=◌}
use Rattle.policy_trait.specs.Model.{PolicyModel}
use Rattle.policy_trait.specs.declared.rules.Refused.{Refused}
use Rattle.policy_trait.specs.declared.services.Answer.{Answer}
use Rattle.policy_trait.specs.declared.services.Args.{Args}
use Rattle.policy_trait.specs.declared.services.Plan.{Plan}
use Rattle.policy_trait.specs.declared.services.PlanEnd.{PlanEnd}
use Rattle.policy_trait.specs.declared.services.Words.{Words}
use Rattle.monitor_calls.specs.Service.{Job, job_of, new_tags, new_word, retagged_range, served_plan, service_job, tag_or_end}
use Rattle.rv_decode.specs.Groups.{a0}
use Rattle.tag_memory.specs.Hart.{HartState}
use Rattle.tag_memory.specs.Ram.{RamState, with_ram_tag, with_ram_word}
use Rattle.turn_steps.specs.Effects.{with_tagged}
use Rattle.turn_steps.specs.Services.{with_answer, with_words}
use Rattle.secret_runs.specs.Alike.{AlikeHarts, AlikeRams}
use Rattle.secret_runs.specs.Hides.{AlikeAnswers, AlikeArgs, AlikePlans, Hides, OkBy}
use Rattle.secret_runs.proofs.ValueLemmas.{stored_alike, written_alike}

module _ {T : Type 0} (is_open : T → Bool) where
  -- the same places and tags, and the same values where the tag is open
  abbrev pub AlikeWords : List (ℕ × ℕ × T) → List (ℕ × ℕ × T) → Type 0
  AlikeWords [] [] = Unit {0}
  AlikeWords (x ∷ xs) (y ∷ ys) = ((y.0 ≡ x.0) × ((y.2 ≡ x.2) × (is_open x.2 ≡ true → y.1 ≡ x.1))) × AlikeWords xs ys
  AlikeWords _ _ = ⊥

  pub record AlikeJobs (kin : Plan T → Plan T → Type 0) (j k : Job T) : Type 0 where
    pub kins : kin j.plan k.plan
    pub plan : AlikePlans is_open j.plan k.plan
    pub words : AlikeWords j.words k.words

  -- ---- what a service leaves

  pub words_alike : (xs ys : List (ℕ × ℕ × T)) (ra rb : RamState T) → AlikeWords xs ys → AlikeRams is_open ra rb → AlikeRams is_open (with_words ra xs) (with_words rb ys)
  words_alike [] [] ra rb words rams = rams
  words_alike (x ∷ xs) (y ∷ ys) ra rb words rams =
      let first = words.0 in
      let next = stored_alike is_open ra rb rams x.0 x.1 y.1 x.2 first.1.1 in
      let at_place = subst (λ (place : ℕ). AlikeRams is_open (with_ram_tag (with_ram_word ra x.0 x.1) x.0 x.2) (with_ram_tag (with_ram_word rb place y.1) place x.2)) (sym first.0) next in
      let with_tag = subst (λ tag. AlikeRams is_open (with_ram_tag (with_ram_word ra x.0 x.1) x.0 x.2) (with_ram_tag (with_ram_word rb y.0 y.1) y.0 tag)) (sym first.1.0) at_place in
      words_alike xs ys (with_ram_tag (with_ram_word ra x.0 x.1) x.0 x.2) (with_ram_tag (with_ram_word rb y.0 y.1) y.0 y.2) words.1 with_tag
  words_alike [] (y ∷ ys) ra rb words rams = absurd words
  words_alike (x ∷ xs) [] ra rb words rams = absurd words

  pub answered_alike : (x y : Option (Answer T)) (a b : HartState T) → AlikeAnswers is_open x y → AlikeHarts is_open a b → AlikeHarts is_open (with_answer a x) (with_answer b y)
  answered_alike None None a b answers harts = harts
  answered_alike (Some x) (Some y) a b answers harts =
      subst (λ tag. AlikeHarts is_open (with_tagged a a0 x.value x.tag) (with_tagged b a0 y.value tag)) (sym answers.0)
      (written_alike is_open a b harts a0 x.value y.value x.tag answers.1.1)
  answered_alike None (Some y) a b answers harts = absurd answers
  answered_alike (Some x) None a b answers harts = absurd answers

-- ---- what it will do

module _ {S T : Type 0} (is_open : T → Bool) (m : PolicyModel T S) (like : S → S → Type 0) (kin : S → Plan T → Plan T → Type 0) (hides : Hides is_open m like kin) (s t : S) (alike : like s t)
    (word_a word_b : ℕ → ℕ) (tag_a tag_b : ℕ → T) (tags : (address : ℕ) → tag_b address ≡ tag_a address)
    (words : (address : ℕ) → is_open (tag_a address) ≡ true → word_b address ≡ word_a address) where
  module _ (p q : Plan T) (kins : kin s p q) where
    plans : AlikePlans is_open p q
    plans = hides.alike_plans s p q kins

    word_by : (zeroes : Bool) (base : ℕ) → (zeroes ≡ false → word_b base ≡ word_a base) → (if zeroes then 0 else word_b base) ≡ (if zeroes then 0 else word_a base)
    word_by true base same = refl
    word_by false base same = same refl

    new_word_same : (base : ℕ) (new : T) → m.retag s p (tag_a base) ≡ Ok new → is_open new ≡ true → new_word q (word_b base) ≡ new_word p (word_a base)
    new_word_same base new retagged clear =
        ap (λ (plan : Plan T). new_word plan (word_b base)) plans.same
        ∙ word_by p.zero base (λ kept. words base (hides.stays_hidden s t alike p (tag_a base) new retagged kept clear))

    by_rest : (base : ℕ) (new : T) (rest other : Result (List (ℕ × ℕ × T)) PlanEnd) → m.retag s p (tag_a base) ≡ Ok new → OkBy (AlikeWords is_open) rest other
        → OkBy (AlikeWords is_open) (rest >>= λ xs. Ok ((base, new_word p (word_a base), new) ∷ xs)) (other >>= λ ys. Ok ((base, new_word q (word_b base), new) ∷ ys))
    by_rest base new (Ok xs) (Ok ys) retagged more = ((refl, (refl, new_word_same base new retagged)), more)
    by_rest base new (Err e) (Err f) retagged more = more
    by_rest base new (Ok xs) (Err f) retagged more = absurd more
    by_rest base new (Err e) (Ok ys) retagged more = absurd more

    by_tag : (base : ℕ) (retagged : Result T Refused) (rest other : Result (List (ℕ × ℕ × T)) PlanEnd) → m.retag s p (tag_a base) ≡ retagged → OkBy (AlikeWords is_open) rest other
        → OkBy (AlikeWords is_open) (tag_or_end retagged >>= λ tag. rest >>= λ xs. Ok ((base, new_word p (word_a base), tag) ∷ xs))
        (tag_or_end retagged >>= λ tag. other >>= λ ys. Ok ((base, new_word q (word_b base), tag) ∷ ys))
    by_tag base (Ok new) rest other is more = by_rest base new rest other is more
    by_tag base (Err refused) rest other is more = refl

    retag_same : (base : ℕ) → m.retag t q (tag_b base) ≡ m.retag s p (tag_a base)
    retag_same base = ap (m.retag t q) (tags base) ∙ hides.retag s t alike p q (tag_a base) kins

    new_tags_alike : (base count : ℕ) → OkBy (AlikeWords is_open) (new_tags m s word_a tag_a p base count) (new_tags m t word_b tag_b q base count)
    new_tags_alike base zero = tt
    new_tags_alike base (suc count) =
        subst (λ (retagged : Result T Refused). OkBy (AlikeWords is_open) (new_tags m s word_a tag_a p base (suc count))
        (tag_or_end retagged >>= λ tag. new_tags m t word_b tag_b q (base + 4) count >>= λ rest. Ok ((base, new_word q (word_b base), tag) ∷ rest)))
        (sym (retag_same base))
        (by_tag base (m.retag s p (tag_a base)) (new_tags m s word_a tag_a p (base + 4) count) (new_tags m t word_b tag_b q (base + 4) count) refl (new_tags_alike (base + 4) count))

    range_alike : (range : Option Words) → OkBy (AlikeWords is_open) (retagged_range m s word_a tag_a p range) (retagged_range m t word_b tag_b q range)
    range_alike None = tt
    range_alike (Some range) = new_tags_alike range.base range.count

    job_alike : (xs ys : Result (List (ℕ × ℕ × T)) PlanEnd) → OkBy (AlikeWords is_open) xs ys → OkBy (AlikeJobs is_open (kin s)) (job_of p xs) (job_of q ys)
    job_alike (Ok xs) (Ok ys) more = record { kins = kins; plan = plans; words = more }
    job_alike (Err e) (Err f) more = more
    job_alike (Ok xs) (Err f) more = absurd more
    job_alike (Err e) (Ok ys) more = absurd more

    planned_alike : OkBy (AlikeJobs is_open (kin s)) (served_plan m s word_a tag_a (Ok p)) (served_plan m t word_b tag_b (Ok q))
    planned_alike =
        job_alike (retagged_range m s word_a tag_a p p.range) (retagged_range m t word_b tag_b q q.range)
        (subst (λ (range : Option Words). OkBy (AlikeWords is_open) (retagged_range m s word_a tag_a p p.range) (retagged_range m t word_b tag_b q range))
        (sym (ap (λ (plan : Plan T). plan.range) plans.same)) (range_alike p.range))

  served_by : (r u : Result (Plan T) PlanEnd) → OkBy (kin s) r u → OkBy (AlikeJobs is_open (kin s)) (served_plan m s word_a tag_a r) (served_plan m t word_b tag_b u)
  served_by (Ok p) (Ok q) plans = planned_alike p q plans
  served_by (Err e) (Err f) plans = plans
  served_by (Ok p) (Err f) plans = absurd plans
  served_by (Err e) (Ok q) plans = absurd plans

  pub service_alike : (number : ℕ) (x y : Args T) (pc : T) → AlikeArgs is_open x y
      → OkBy (AlikeJobs is_open (kin s)) (service_job m s word_a tag_a number x pc) (service_job m t word_b tag_b number y pc)
  unfolding service_job
  service_alike number x y pc args = served_by (m.plan s number x pc) (m.plan t number y pc) (hides.plan s t alike number x y pc args)
