-- The words of a service's range one by one: what each is once nothing refuses, and which one refuses.
use Rattle.std.specs.Prelude.{◌≡◌, ℕ, ◌+◌, ◌*◌, ◌<◌, ◌⊎◌, List, [], length, Some, None, Ok, Err, IsOk, slice_get}
use Rattle.std.specs.Option.{ForSome}
use Rattle.policy_trait.specs.Model.{PolicyModel}
use Rattle.policy_trait.specs.declared.rules.Refused.{Refused}
use Rattle.policy_trait.specs.declared.services.Args.{Args}
use Rattle.policy_trait.specs.declared.services.Plan.{Plan}
use Rattle.policy_trait.specs.declared.services.PlanEnd.TheVariants as plan_end
use Rattle.policy_trait.specs.declared.services.Words.{Words}
use Rattle.tag_memory.specs.Rows.{StandFrom}
use Rattle.monitor_calls.specs.Service.{Job, new_word}

-- so many words from base on: item k has the address base + 4 * k, there the value 0 or the old one, and the new tag of the
-- old one
pub record RetagsEach {T S : Type 0} (m : PolicyModel T S) (s : S) (word_at : ℕ → ℕ) (tag_at : ℕ → T) (plan : Plan T) (base count : ℕ) (words : List (ℕ × ℕ × T)) : Type 0 where
  pub all : length words ≡ count
  pub places : StandFrom base words
  pub values : (k : ℕ) (item : ℕ × ℕ × T) → slice_get words k ≡ Some item → item.1 ≡ new_word plan (word_at (base + 4 * k))
  pub tags : (k : ℕ) (item : ℕ × ℕ × T) → slice_get words k ≡ Some item → m.retag s plan (tag_at (base + 4 * k)) ≡ Ok item.2

-- a word is refused, so, and none below it
pub record RefusesFirst {T S : Type 0} (m : PolicyModel T S) (s : S) (tag_at : ℕ → T) (plan : Plan T) (base count : ℕ) (refused : Refused) : Type 0 where
  pub place : ℕ
  pub within : place < count
  pub refuses : m.retag s plan (tag_at (base + 4 * place)) ≡ Err refused
  pub allows : (k : ℕ) → k < place → IsOk (m.retag s plan (tag_at (base + 4 * k)))

-- the job is the plan that the policy gives, with the words of the plan's range, if it has one
pub record IsJobOf {T S : Type 0} (m : PolicyModel T S) (s : S) (word_at : ℕ → ℕ) (tag_at : ℕ → T) (number : ℕ) (arguments : Args T) (pc : T) (job : Job T) : Type 0 where
  pub planned : m.plan s number arguments pc ≡ Ok job.plan
  pub ranged : ForSome job.plan.range (λ range. RetagsEach m s word_at tag_at job.plan range.base range.count job.words)
  pub rangeless : job.plan.range ≡ None → job.words ≡ []

-- the policy gives a plan, and the lowest word of the plan's range that is refused is refused so
pub record RefusesWord {T S : Type 0} (m : PolicyModel T S) (s : S) (tag_at : ℕ → T) (number : ℕ) (arguments : Args T) (pc : T) (refused : Refused) : Type 0 where
  pub plan : Plan T
  pub planned : m.plan s number arguments pc ≡ Ok plan
  pub range : Words
  pub ranged : plan.range ≡ Some range
  pub lowest : RefusesFirst m s tag_at plan range.base range.count refused

-- the plan is refused so, or a word of its range
abbrev pub Refuses : {T S : Type 0} → PolicyModel T S → S → (ℕ → T) → ℕ → Args T → T → Refused → Type 0
Refuses m s tag_at number arguments pc refused =
    (m.plan s number arguments pc ≡ Err (plan_end.Refused refused)) ⊎ RefusesWord m s tag_at number arguments pc refused
