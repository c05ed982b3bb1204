-- What is known of a job that a policy's service gives.
use Rattle.std.proofs.Common.{◌≡◌, ◌≢◌, ℕ, inl, inr, ◌+◌, ◌*◌, ◌%◌, ◌≤◌, List, [], length, get_or, Option, Some, None, Result, Ok, Err, refl, sym, ap, ◌∙◌, subst, arith}
use Rattle.std.specs.List.{All}
use Rattle.std.specs.Option.{ForSome}
use Rattle.std.specs.Prelude.{IsOk, IsOkAnd}
use Rattle.std.proofs.lemmas.List.Elements.{All-nil}
use Rattle.std.proofs.lemmas.Option.{slice_get-get_or}
use Rattle.policy_trait.specs.PolicyLaws.{IsRange, KeepsLaws}
use Rattle.policy_trait.specs.UseLaws.{given_plan}
use Rattle.policy_trait.specs.Model.{CanPlan, IsGiven, PolicyModel}
use Rattle.policy_trait.specs.declared.services.Args.{Args}
use Rattle.policy_trait.specs.declared.services.Plan.{Plan}
use Rattle.policy_trait.specs.declared.services.PlanEnd.{PlanEnd}
use Rattle.policy_trait.specs.declared.services.PlanEnd.TheVariants as plan_end
use Rattle.policy_trait.specs.declared.rules.Refused.{Refused}
use Rattle.policy_trait.specs.declared.services.Words.{Words}
use Rattle.tag_memory.specs.Ram.{IsPlace}
use Rattle.monitor_calls.specs.Ranges.{IsJobOf, Refuses, RefusesWord, RetagsEach}
use Rattle.monitor_calls.specs.Service.{Job, job_of, new_tags, retagged_range, service_job, served_plan}
use Rattle.monitor_calls.proofs.RangeLemmas.{each_retagged, first_refused, never_spent, refused_first, retags_each}
use Rattle.shared_terms.proofs.StepLemmas.{ok_is}

abbrev done : {T : Type 0} → Job T → Result (Job T) PlanEnd
done job = Ok job

same_job : {T : Type 0} (job given : Job T) → done job ≡ done given → job ≡ given
same_job job given e = cc

abbrev failed : {T : Type 0} → PlanEnd → Result (Job T) PlanEnd
failed end = Err end

abbrev no_plan : {T : Type 0} → PlanEnd → Result (Plan T) PlanEnd
no_plan end = Err end

abbrev list_done : {A : Type 0} → List A → Result (List A) PlanEnd
list_done list = Ok list

module _ {T S : Type 0} (m : PolicyModel T S) (s : S) (word_at : ℕ → ℕ) (tag_at : ℕ → T) where
  -- ---- the plan, and its words

  abbrev words_of : Plan T → Result (List (ℕ × ℕ × T)) PlanEnd
  words_of plan = retagged_range m s word_at tag_at plan plan.range

  record Parts (planned : Result (Plan T) PlanEnd) (job : Job T) : Type 0 where
    plan_is : planned ≡ Ok job.plan
    words_are : words_of job.plan ≡ Ok job.words

  by_words : (plan : Plan T) (words : Result (List (ℕ × ℕ × T)) PlanEnd) (job : Job T) → words_of plan ≡ words → job_of plan words ≡ Ok job → Parts (Ok plan) job
  by_words plan (Ok words) job is e =
      subst (Parts (Ok plan)) (same_job (record { plan = plan; words = words }) job e) (record { plan_is = refl; words_are = is })
  by_words plan (Err end) job is e = absurd cc

  by_plan : (planned : Result (Plan T) PlanEnd) (job : Job T) → served_plan m s word_at tag_at planned ≡ Ok job → Parts planned job
  by_plan (Ok plan) job e = by_words plan (words_of plan) job refl e
  by_plan (Err end) job e = absurd cc

  by_range : (plan : Plan T) (range : Option Words) (words : List (ℕ × ℕ × T)) → retagged_range m s word_at tag_at plan range ≡ Ok words → ForSome range (λ range. RetagsEach m s word_at tag_at plan range.base range.count words)
  by_range plan range words e given is =
      retags_each m s word_at tag_at plan given.base given.count words (ap (retagged_range m s word_at tag_at plan) (sym is) ∙ e)

  by_no_range : (plan : Plan T) (range : Option Words) (words : List (ℕ × ℕ × T)) → retagged_range m s word_at tag_at plan range ≡ Ok words → range ≡ None → words ≡ []
  by_no_range plan range words e none = sym (ok_is [] words (ap (retagged_range m s word_at tag_at plan) (sym none) ∙ e))

  -- a range that is retagged has words
  has_words : (plan : Plan T) (words : Result (List (ℕ × ℕ × T)) PlanEnd) → IsOk words → ((list : List (ℕ × ℕ × T)) → words ≡ Ok list → 1 ≤ length list)
      → IsOkAnd (job_of plan words) (λ job. 1 ≤ length job.words)
  has_words plan (Ok list) ok some = some list refl
  has_words plan (Err end) ok some = absurd cc

  some_words : (plan : Plan T) (range : Words) → 1 ≤ range.count → (list : List (ℕ × ℕ × T)) → new_tags m s word_at tag_at plan range.base range.count ≡ Ok list → 1 ≤ length list
  some_words plan range some list e =
      let each = retags_each m s word_at tag_at plan range.base range.count list e in
      let all : length list ≡ range.count = each.all in
      omega arith

  -- the words of a range within memory are words of it
  each_place : (bytes : ℕ) (plan : Plan T) (range : Words) (words : List (ℕ × ℕ × T)) → IsRange bytes range → RetagsEach m s word_at tag_at plan range.base range.count words
      → All (λ (word : ℕ × ℕ × T). IsPlace bytes word.0) words
  each_place bytes plan range words is each i d lt =
      let item : ℕ × ℕ × T = get_or words i d in
      let place : item.0 ≡ range.base + 4 * i = each.places i item (slice_get-get_or words i d lt) in
      let aligned : range.base % 4 ≡ 0 = is.aligned in
      let within : range.base + 4 * range.count ≤ bytes = is.within in
      let all : length words ≡ range.count = each.all in
      record { aligned = omega arith; within = omega arith }

  by_place : (bytes : ℕ) (plan : Plan T) (range : Option Words) (words : List (ℕ × ℕ × T)) → retagged_range m s word_at tag_at plan range ≡ Ok words → ForSome range (IsRange bytes)
      → All (λ (word : ℕ × ℕ × T). IsPlace bytes word.0) words
  by_place bytes plan None words e is =
      subst (All (λ (word : ℕ × ℕ × T). IsPlace bytes word.0)) (ok_is [] words e) (All-nil (λ (word : ℕ × ℕ × T). IsPlace bytes word.0))
  by_place bytes plan (Some range) words e is = each_place bytes plan range words (is range refl) (retags_each m s word_at tag_at plan range.base range.count words e)

  -- ---- a job that a service gives

  module _ (number : ℕ) (arguments : Args T) (pc : T) where
    parts : (job : Job T) → service_job m s word_at tag_at number arguments pc ≡ Ok job → Parts (m.plan s number arguments pc) job
    unfolding service_job
    parts job e = by_plan (m.plan s number arguments pc) job e

    pub is_job : (job : Job T) → service_job m s word_at tag_at number arguments pc ≡ Ok job → IsJobOf m s word_at tag_at number arguments pc job
    is_job job e =
        let known = parts job e in
        record {
          planned = known.plan_is;
          ranged = by_range job.plan job.plan.range job.words known.words_are;
          rangeless = by_no_range job.plan job.plan.range job.words known.words_are;
        }

    -- and back
    words_given : (plan : Plan T) (range : Option Words) (words : List (ℕ × ℕ × T)) → ForSome range (λ range. RetagsEach m s word_at tag_at plan range.base range.count words) → (range ≡ None → words ≡ [])
        → retagged_range m s word_at tag_at plan range ≡ Ok words
    words_given plan None words ranged rangeless = ap list_done (sym (rangeless refl))
    words_given plan (Some range) words ranged rangeless = each_retagged m s word_at tag_at plan range.base range.count words (ranged range refl)

    pub job_served : (job : Job T) → IsJobOf m s word_at tag_at number arguments pc job → service_job m s word_at tag_at number arguments pc ≡ Ok job
    unfolding service_job
    job_served job is =
        ap (served_plan m s word_at tag_at) is.planned
        ∙ ap (job_of job.plan) (words_given job.plan job.plan.range job.words is.ranged is.rangeless)

    -- ---- a service that is refused, or spent

    job_failed : (plan : Plan T) (words : Result (List (ℕ × ℕ × T)) PlanEnd) (end : PlanEnd) → job_of plan words ≡ Err end → words ≡ Err end
    job_failed plan (Ok list) end e = absurd cc
    job_failed plan (Err given) end e = cc

    end_is : (end given : PlanEnd) → failed {T = T} end ≡ failed given → end ≡ given
    end_is end given e = cc

    by_option : (refused : Refused) (plan : Plan T) (range : Option Words) → m.plan s number arguments pc ≡ Ok plan → plan.range ≡ range
        → retagged_range m s word_at tag_at plan range ≡ Err (plan_end.Refused refused) → RefusesWord m s tag_at number arguments pc refused
    by_option refused plan None planned is e = absurd cc
    by_option refused plan (Some range) planned is e = record {
      plan = plan;
      planned = planned;
      range = range;
      ranged = is;
      lowest = refused_first m s word_at tag_at plan range.base range.count refused e;
    }

    by_planned : (refused : Refused) (planned : Result (Plan T) PlanEnd) → m.plan s number arguments pc ≡ planned → served_plan m s word_at tag_at planned ≡ Err (plan_end.Refused refused)
        → Refuses m s tag_at number arguments pc refused
    by_planned refused (Err end) is e = inl (is ∙ ap (λ (end : PlanEnd). no_plan end) (end_is end (plan_end.Refused refused) e))
    by_planned refused (Ok plan) is e = inr (by_option refused plan plan.range is refl (job_failed plan (words_of plan) (plan_end.Refused refused) e))

    pub service_refuses : (refused : Refused) → service_job m s word_at tag_at number arguments pc ≡ Err (plan_end.Refused refused) → Refuses m s tag_at number arguments pc refused
    unfolding service_job
    service_refuses refused e = by_planned refused (m.plan s number arguments pc) refl e

    -- and back
    pub refuses_service : (refused : Refused) → Refuses m s tag_at number arguments pc refused → service_job m s word_at tag_at number arguments pc ≡ Err (plan_end.Refused refused)
    unfolding service_job
    refuses_service refused (inl planned) = ap (served_plan m s word_at tag_at) planned
    refuses_service refused (inr word) =
        ap (served_plan m s word_at tag_at) word.planned
        ∙ ap (λ (range : Option Words). job_of word.plan (retagged_range m s word_at tag_at word.plan range)) word.ranged
        ∙ ap (job_of word.plan) (first_refused m s word_at tag_at word.plan word.range.base word.range.count refused word.lowest)

    range_unspent : (plan : Plan T) (range : Option Words) → retagged_range m s word_at tag_at plan range ≢ Err plan_end.Spent
    range_unspent plan None e = cc
    range_unspent plan (Some range) e = never_spent m s word_at tag_at plan range.base range.count e

    plan_spent : (planned : Result (Plan T) PlanEnd) → served_plan m s word_at tag_at planned ≡ Err plan_end.Spent → planned ≡ Err plan_end.Spent
    plan_spent (Err end) e = ap (λ (end : PlanEnd). no_plan end) (end_is end plan_end.Spent e)
    plan_spent (Ok plan) e = absurd (range_unspent plan plan.range (job_failed plan (words_of plan) plan_end.Spent e))

    pub service_spent : service_job m s word_at tag_at number arguments pc ≡ Err plan_end.Spent → m.plan s number arguments pc ≡ Err plan_end.Spent
    unfolding service_job
    service_spent e = plan_spent (m.plan s number arguments pc) e

    pub spent_service : m.plan s number arguments pc ≡ Err plan_end.Spent → service_job m s word_at tag_at number arguments pc ≡ Err plan_end.Spent
    unfolding service_job
    spent_service planned = ap (served_plan m s word_at tag_at) planned

    -- ---- what can be done with a job

    -- the plan is one that the policy gives
    pub job_given : (holds : S → Type 0) (laws : KeepsLaws m holds) (job : Job T) → CanPlan m s number arguments → service_job m s word_at tag_at number arguments pc ≡ Ok job → IsGiven m s job.plan
    job_given holds laws job can e = given_plan m holds laws s number arguments pc job.plan can (parts job e).plan_is

    -- and each word is one of memory
    pub job_places : (holds : S → Type 0) (laws : KeepsLaws m holds) (job : Job T) → CanPlan m s number arguments → holds s → service_job m s word_at tag_at number arguments pc ≡ Ok job
        → All (λ (word : ℕ × ℕ × T). IsPlace arguments.ram word.0) job.words
    job_places holds laws job can valid e =
        by_place arguments.ram job.plan job.plan.range job.words (parts job e).words_are
        (laws.ranges s number arguments pc job.plan can valid (parts job e).plan_is)

    -- a service whose range is retagged has words to write
    pub has_room : (plan : Plan T) (range : Words) → m.plan s number arguments pc ≡ Ok plan → plan.range ≡ Some range → 1 ≤ range.count → IsOk (new_tags m s word_at tag_at plan range.base range.count)
        → IsOkAnd (service_job m s word_at tag_at number arguments pc) (λ job. 1 ≤ length job.words)
    unfolding service_job
    has_room plan range planned is some ok =
        subst (λ (r : Result (Plan T) PlanEnd). IsOkAnd (served_plan m s word_at tag_at r) (λ job. 1 ≤ length job.words)) (sym planned)
        (subst (λ (r : Option Words). IsOkAnd (job_of plan (retagged_range m s word_at tag_at plan r)) (λ job. 1 ≤ length job.words)) (sym is)
        (has_words plan (new_tags m s word_at tag_at plan range.base range.count) ok (some_words plan range some)))
