-- How an answer of `serve` says what the definition gives.
use Rattle.std.specs.Prelude.{◌≡◌, ℕ, List, Result, Err, IsOk}
use Rattle.policy_trait.specs.declared.services.Plan.{Plan}
use Rattle.policy_trait.specs.declared.services.PlanEnd.{PlanEnd}
use Rattle.policy_trait.specs.declared.services.PlanEnd.TheVariants as plan_end
use Rattle.monitor_calls.specs.Service.{Job}
use Rattle.monitor_calls.specs.declared.serving.ServeEnd.{ServeEnd}
use Rattle.monitor_calls.specs.declared.serving.ServeEnd.TheVariants as serve_end

abbrev pub job_by : {T : Type 0} → Plan T → List (ℕ × ℕ × T) → Job T
job_by plan words = record { plan = plan; words = words }

-- the service ended so by the definition; memory ran out only where nothing refuses
abbrev pub EndsAs : {A : Type 0} → ServeEnd → Result A PlanEnd → Type 0
EndsAs (serve_end.Refused refused) defined = defined ≡ Err (plan_end.Refused refused)
EndsAs serve_end.Spent defined = defined ≡ Err plan_end.Spent
EndsAs serve_end.Memory defined = IsOk defined
