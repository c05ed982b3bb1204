-- A policy that may be off. On, it is the policy, and a missing tag is its plain tag. Off, it allows and ignores
-- everything, knows no service, and has one tag.
use Rattle.std.specs.Prelude.{ℕ, Bool, true, false, List, [], Option, Some, None, Result, Ok, Err}
use Rattle.rv_decode.specs.declared.groups.Group.{Group}
use Rattle.policy_trait.specs.Model.{PolicyModel}
use Rattle.policy_trait.specs.declared.birth.Birth.{Birth}
use Rattle.policy_trait.specs.declared.rules.Ins.{Ins}
use Rattle.policy_trait.specs.declared.rules.Mask.{Mask}
use Rattle.policy_trait.specs.declared.rules.Outs.{Outs}
use Rattle.policy_trait.specs.declared.rules.Part.{Part}
use Rattle.policy_trait.specs.declared.rules.Refused.{Refused}
use Rattle.policy_trait.specs.declared.rules.Shape.{Shape}
use Rattle.policy_trait.specs.declared.services.Args.{Args}
use Rattle.policy_trait.specs.declared.services.Plan.{Plan}
use Rattle.policy_trait.specs.declared.services.PlanEnd.{PlanEnd}
use Rattle.policy_trait.specs.declared.services.PlanEnd.TheVariants as plan_end
use Rattle.policy_trait.specs.Maps.{args_by, ins_by, ok_by, outs_by, plan_by}
use Rattle.policy_product.specs.declared.maybe.Maybe.{Maybe}

-- a tag that may be missing, which is then the plain one
abbrev pub tag_or : {T : Type 0} → T → Option T → T
tag_or plain None = plain
tag_or plain (Some tag) = tag

-- a tag of the policy where it is on
abbrev pub some_tag : {T : Type 0} → T → Option T
some_tag tag = Some tag

-- every input is ignored
abbrev pub all_ignored : Mask
all_ignored = record { pc = true; ci = true; t1 = true; t2 = true; tm = true }

-- the outputs where the policy is off
abbrev pub no_tags : {T : Type 0} → Outs (Option T)
no_tags = record { pc = None; result = None }

module _ {T S : Type 0} (m : PolicyModel T S) where
  -- how the policy reads a tag
  abbrev pub read_by : S → Option T → T
  read_by s tag = tag_or (m.plain s) tag

  -- each function of the policy, by whether it is on, and then by its value
  abbrev pub plain_in : Option S → Option T
  plain_in None = None
  plain_in (Some s) = Some (m.plain s)

  abbrev pub rule_in : Option S → Group → Ins (Option T) → Result (Outs (Option T)) Refused
  rule_in None g x = Ok no_tags
  rule_in (Some s) g x = ok_by (outs_by some_tag) (m.rule s g (ins_by (read_by s) x))

  abbrev pub ignores_in : Option S → Group → Mask
  ignores_in None g = all_ignored
  ignores_in (Some s) g = m.ignores s g

  abbrev pub peeks_in : Option S → Bool
  peeks_in None = false
  peeks_in (Some s) = m.peeks s

  abbrev pub peek_in : Option S → Shape → Option T → Option T → Result (Unit {0}) Refused
  peek_in None shape first second = Ok tt
  peek_in (Some s) shape first second = m.peek s shape (read_by s first) (read_by s second)

  abbrev pub knows_in : Option S → ℕ → Bool
  knows_in None number = false
  knows_in (Some s) number = m.knows s number

  abbrev pub uses_in : Option S → ℕ → ℕ
  uses_in None number = 0
  uses_in (Some s) number = m.uses s number

  abbrev pub lend_in : Option S → Option T → Result (Unit {0}) Part
  lend_in None tag = Ok tt
  lend_in (Some s) tag = m.lend s (read_by s tag)

  abbrev pub room_in : Option S → ℕ
  room_in None = 0
  room_in (Some s) = m.room s

  abbrev pub plan_in : Option S → ℕ → Args (Option T) → Option T → Result (Plan (Option T)) PlanEnd
  plan_in None number a pc = Err plan_end.Spent
  plan_in (Some s) number a pc = ok_by (plan_by some_tag) (m.plan s number (args_by (read_by s) a) (read_by s pc))

  abbrev pub retag_in : Option S → Plan (Option T) → Option T → Result (Option T) Refused
  retag_in None p old = Ok None
  retag_in (Some s) p old = ok_by some_tag (m.retag s (plan_by (read_by s) p) (read_by s old))

  abbrev pub wipe_in : Option S → Option T → Option T → Result (Option T) Refused
  wipe_in None pc old = Ok None
  wipe_in (Some s) pc old = ok_by some_tag (m.wipe s (read_by s pc) (read_by s old))

  abbrev pub commit_in : Option S → Plan (Option T) → Option S
  commit_in None p = None
  commit_in (Some s) p = Some (m.commit s (plan_by (read_by s) p))

  abbrev pub uncommit_in : Option S → Plan (Option T) → Option S
  uncommit_in None p = None
  uncommit_in (Some s) p = Some (m.uncommit s (plan_by (read_by s) p))

  abbrev pub start_pc_in : Option S → Birth → Option T
  start_pc_in None b = None
  start_pc_in (Some s) b = Some (m.start_pc s b)

  abbrev pub start_word_in : Option S → Birth → Option T
  start_word_in None b = None
  start_word_in (Some s) b = Some (m.start_word s b)

  abbrev pub text_in : Option S → Option T → List ℕ
  text_in None tag = []
  text_in (Some s) tag = m.text s (read_by s tag)

  abbrev pub listed_in : Option S → ℕ → Option (ℕ × ℕ × ℕ)
  listed_in None place = None
  listed_in (Some s) place = m.listed s place

  -- these functions as one policy
  abbrev pub maybe : PolicyModel (Option T) (Maybe S)
  maybe = record {
    plain = λ s. plain_in s.part;
    rule = λ s. rule_in s.part;
    ignores = λ s. ignores_in s.part;
    peeks = λ s. peeks_in s.part;
    peek = λ s. peek_in s.part;
    knows = λ s. knows_in s.part;
    uses = λ s. uses_in s.part;
    lend = λ s. lend_in s.part;
    room = λ s. room_in s.part;
    plan = λ s. plan_in s.part;
    retag = λ s. retag_in s.part;
    wipe = λ s. wipe_in s.part;
    commit = λ s p. record { part = commit_in s.part p };
    uncommit = λ s p. record { part = uncommit_in s.part p };
    start_pc = λ s. start_pc_in s.part;
    start_word = λ s. start_word_in s.part;
    text = λ s. text_in s.part;
    listed = λ s. listed_in s.part;
  }

-- the policy's own invariant, where it is on
abbrev pub HoldsIn : {S : Type 0} → (S → Type 0) → Option S → Type 0
HoldsIn holds None = Unit {0}
HoldsIn holds (Some s) = holds s

-- the same of a value that may be off
abbrev pub MaybeHolds : {S : Type 0} → (S → Type 0) → Maybe S → Type 0
MaybeHolds holds s = HoldsIn holds s.part
