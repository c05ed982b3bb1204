-- What it is for a policy to be a part of a whole one: wherever the whole allows something, so does the part, with its own
-- tags and its own value; and a service of another part leaves what is the part's.
use Rattle.std.specs.Prelude.{◌≡◌, ℕ, ◌≤◌, true, false, Some, Result, Ok, if◌then◌else◌}
use Rattle.rv_decode.specs.declared.groups.Group.{Group}
use Rattle.policy_trait.specs.PolicyLaws.{KeepsValue}
use Rattle.policy_trait.specs.Maps.{args_by, ins_by, outs_by, plan_by}
use Rattle.policy_trait.specs.Model.{PolicyModel}
use Rattle.policy_trait.specs.declared.birth.Birth.{Birth}
use Rattle.policy_trait.specs.declared.rules.Ins.{Ins}
use Rattle.policy_trait.specs.declared.rules.Outs.{Outs}
use Rattle.policy_trait.specs.declared.rules.Refused.{Refused}
use Rattle.policy_trait.specs.declared.services.Answer.{Answer}
use Rattle.policy_trait.specs.declared.services.Args.{Args}
use Rattle.policy_trait.specs.declared.services.Plan.{Plan}
use Rattle.policy_product.specs.Both.{rest_tag, tag_beside}
use Rattle.policy_parts.specs.Lens.{Lens}

-- ---- a policy beside others

module _ {U V : Type 0} (m : PolicyModel U V) where
  -- it retags the words of its own services, wipes those that another's makes zero, and leaves the others
  abbrev pub word_tag : V → Plan U → U → Result U Refused
  word_tag v p old = if m.knows v p.service then m.retag v p old else tag_beside m v p.zero p.pc old

  -- only its own services change its value
  abbrev pub value_after : V → Plan U → V
  value_after v p = if m.knows v p.service then m.commit v p else v

  -- and only their commits are taken back
  abbrev pub value_before : V → Plan U → V
  value_before v p = if m.knows v p.service then m.uncommit v p else v

  -- the policy with its words and its value as any service leaves them
  abbrev pub beside_others : PolicyModel U V
  beside_others = record m { retag = word_tag; commit = value_after; uncommit = value_before }

-- an answer of another's service has the plain tag here, or that of a0, whose value it then has too
pub record IsOthers {U : Type 0} (plain : U) (a : Args U) (answer : Answer U) : Type 0 where
  pub tag : answer.tag ≡ rest_tag answer.rest plain a.t0
  pub value : KeepsValue a answer

-- the plan of a service that nothing refuses: one of the policy's own, or another's
pub data Planned {U V : Type 0} (m : PolicyModel U V) (v : V) (number : ℕ) (a : Args U) (pc : U) (p : Plan U) : Type 0 where
  own : m.knows v number ≡ true → p.service ≡ number → m.plan v number a pc ≡ Ok p → Planned m v number a pc p
  others : m.knows v number ≡ false → p.service ≡ number → p.pc ≡ pc
      → ((answer : Answer U) → p.answer ≡ Some answer → IsOthers (m.plain v) a answer) → Planned m v number a pc p

-- policy m is a part of policy w, where it is on
pub record IsPart {T S U V : Type 0} (w : PolicyModel T S) (m : PolicyModel U V) (l : Lens T S U V) : Type 0 where
  pub plain : (s : S) → l.is_on s ≡ true → l.tag (w.plain s) ≡ m.plain (l.value s)
  pub room : (s : S) → l.is_on s ≡ true → m.room (l.value s) ≤ w.room s
  pub knows : (s : S) (k : ℕ) → l.is_on s ≡ true → m.knows (l.value s) k ≡ true → w.knows s k ≡ true
  pub rule : (s : S) (g : Group) (x : Ins T) (outs : Outs T) → l.is_on s ≡ true → w.rule s g x ≡ Ok outs
      → m.rule (l.value s) g (ins_by l.tag x) ≡ Ok (outs_by l.tag outs)
  pub wipe : (s : S) (pc old new : T) → l.is_on s ≡ true → w.wipe s pc old ≡ Ok new → m.wipe (l.value s) (l.tag pc) (l.tag old) ≡ Ok (l.tag new)
  pub plan : (s : S) (k : ℕ) (a : Args T) (pc : T) (p : Plan T) → l.is_on s ≡ true → w.knows s k ≡ true → w.plan s k a pc ≡ Ok p
      → Planned m (l.value s) k (args_by l.tag a) (l.tag pc) (plan_by l.tag p)
  pub retag : (s : S) (p : Plan T) (old new : T) → l.is_on s ≡ true → w.knows s p.service ≡ true → w.retag s p old ≡ Ok new
      → word_tag m (l.value s) (plan_by l.tag p) (l.tag old) ≡ Ok (l.tag new)
  pub commit : (s : S) (p : Plan T) → l.is_on s ≡ true → w.knows s p.service ≡ true → l.value (w.commit s p) ≡ value_after m (l.value s) (plan_by l.tag p)
  pub stays : (s : S) (p : Plan T) → l.is_on s ≡ true → w.knows s p.service ≡ true → l.is_on (w.commit s p) ≡ true
  pub start_pc : (s : S) (b : Birth) → l.is_on s ≡ true → l.tag (w.start_pc s b) ≡ m.start_pc (l.value s) b
  pub start_word : (s : S) (b : Birth) → l.is_on s ≡ true → l.tag (w.start_word s b) ≡ m.start_word (l.value s) b
