-- A policy as one record of functions of its value s, which is its configuration and its state together.
use Rattle.std.specs.Prelude.{◌≡◌, ℕ, ◌≤◌, Bool, List, Option, Result, Ok, IsTrue, if◌then◌else◌}
use Rattle.rv_decode.specs.declared.groups.Group.{Group}
use Rattle.policy_trait.specs.declared.birth.Birth.{Birth}
use Rattle.policy_trait.specs.declared.rules.Ins.{Ins}
use Rattle.policy_trait.specs.declared.rules.Mask.{Mask}
use Rattle.policy_trait.specs.declared.rules.Outs.{Outs}
use Rattle.policy_trait.specs.declared.rules.Part.{Part}
use Rattle.policy_trait.specs.declared.rules.Refused.{Refused}
use Rattle.policy_trait.specs.declared.rules.Shape.{Shape}
use Rattle.policy_trait.specs.declared.services.Args.{Args}
use Rattle.policy_trait.specs.declared.services.Plan.{Plan}
use Rattle.policy_trait.specs.declared.services.PlanEnd.{PlanEnd}

pub record PolicyModel (T S : Type 0) : Type 0 where
  pub plain : S → T
  pub rule : S → Group → Ins T → Result (Outs T) Refused
  pub ignores : S → Group → Mask
  -- the looks that come before a rule: whether any is refused, and which are
  pub peeks : S → Bool
  pub peek : S → Shape → T → T → Result (Unit {0}) Refused
  -- the services: which there are, how many arguments each uses, what each will do
  pub knows : S → ℕ → Bool
  pub uses : S → ℕ → ℕ
  pub lend : S → T → Result (Unit {0}) Part
  -- the bytes of memory that the policy counts on
  pub room : S → ℕ
  pub plan : S → ℕ → Args T → T → Result (Plan T) PlanEnd
  pub retag : S → Plan T → T → Result T Refused
  pub wipe : S → T → T → Result T Refused
  pub commit : S → Plan T → S
  -- takes back the commit of a plan, the last one
  pub uncommit : S → Plan T → S
  pub start_pc : S → Birth → T
  pub start_word : S → Birth → T
  pub text : S → T → List ℕ
  pub listed : S → ℕ → Option (ℕ × ℕ × ℕ)

-- the inputs with each that the mask ignores made plain
abbrev pub masked_inputs : {T : Type 0} → Mask → T → Ins T → Ins T
masked_inputs mask plain x = record {
  pc = if mask.pc then plain else x.pc;
  ci = if mask.ci then plain else x.ci;
  t1 = if mask.t1 then plain else x.t1;
  t2 = if mask.t2 then plain else x.t2;
  tm = if mask.tm then plain else x.tm;
}

-- the policy offers the service, and memory has the bytes that it counts on
pub record CanPlan {T S : Type 0} (m : PolicyModel T S) (s : S) (number : ℕ) (arguments : Args T) : Type 0 where
  pub known : IsTrue (m.knows s number)
  pub room : m.room s ≤ arguments.ram

-- the plan is one that the policy as it stands gives
pub record IsGiven {T S : Type 0} (m : PolicyModel T S) (s : S) (plan : Plan T) : Type 0 where
  pub arguments : Args T
  pub pc : T
  pub can : CanPlan m s plan.service arguments
  pub given : m.plan s plan.service arguments pc ≡ Ok plan

-- the plan is the last one that was committed: an earlier value, of which the invariant holds, gave it, and its commit left
-- the present one
pub record IsCommitted {T S : Type 0} (m : PolicyModel T S) (holds : S → Type 0) (s : S) (plan : Plan T) : Type 0 where
  pub before : S
  pub held : holds before
  pub given : IsGiven m before plan
  pub left : s ≡ m.commit before plan
