-- What a policy's service does to memory when nothing refuses it: its plan, and each word of the plan's range in
-- ascending order with its new value and its new tag. The first refusal decides.
use Rattle.std.specs.Prelude.{ℕ, zero, suc, ◌+◌, List, [], ◌∷◌, Option, Some, None, Result, Ok, Err, if◌then◌else◌}
use Rattle.shared_terms.specs.Steps.{◌>>=◌}
use Rattle.policy_trait.specs.Model.{PolicyModel}
use Rattle.policy_trait.specs.declared.rules.Refused.{Refused}
use Rattle.policy_trait.specs.declared.services.Args.{Args}
use Rattle.policy_trait.specs.declared.services.Plan.{Plan}
use Rattle.policy_trait.specs.declared.services.PlanEnd.{PlanEnd}
use Rattle.policy_trait.specs.declared.services.PlanEnd.TheVariants as plan_end
use Rattle.policy_trait.specs.declared.services.Words.{Words}

-- what is to be done: the plan, and the words to write as (address, value, tag)
pub record Job (T : Type 0) : Type 0 where
  pub plan : Plan T
  pub words : List (ℕ × ℕ × T)

-- the new value of a word: 0 in a range that becomes 0, else the old one
abbrev pub new_word : {T : Type 0} → Plan T → ℕ → ℕ
new_word plan old = if plan.zero then 0 else old

-- a refusal of a word ends the service
abbrev pub tag_or_end : {A : Type 0} → Result A Refused → Result A PlanEnd
tag_or_end (Ok tag) = Ok tag
tag_or_end (Err refused) = Err (plan_end.Refused refused)

abbrev pub job_of : {T : Type 0} → Plan T → Result (List (ℕ × ℕ × T)) PlanEnd → Result (Job T) PlanEnd
job_of plan (Ok words) = Ok (record { plan = plan; words = words })
job_of plan (Err end) = Err end

module _ {S T : Type 0} (m : PolicyModel T S) (s : S) (word_at : ℕ → ℕ) (tag_at : ℕ → T) where
  -- so many words from an address on
  abbrev pub new_tags : Plan T → ℕ → ℕ → Result (List (ℕ × ℕ × T)) PlanEnd
  new_tags plan base zero = Ok []
  new_tags plan base (suc count) = do
    tag ← tag_or_end (m.retag s plan (tag_at base))
    rest ← new_tags plan (base + 4) count
    Ok ((base, new_word plan (word_at base), tag) ∷ rest)

  abbrev pub retagged_range : Plan T → Option Words → Result (List (ℕ × ℕ × T)) PlanEnd
  retagged_range plan None = Ok []
  retagged_range plan (Some range) = new_tags plan range.base range.count

  abbrev pub served_plan : Result (Plan T) PlanEnd → Result (Job T) PlanEnd
  served_plan (Ok plan) = job_of plan (retagged_range plan plan.range)
  served_plan (Err end) = Err end

  unfoldable pub service_job : ℕ → Args T → T → Result (Job T) PlanEnd
  service_job number arguments pc = served_plan (m.plan s number arguments pc)
