-- One policy told in two ways.
use Rattle.std.specs.Prelude.{◌≡◌, ℕ, true}
use Rattle.rv_decode.specs.declared.groups.Group.{Group}
use Rattle.policy_trait.specs.Maps.{args_by, ins_by, ok_by, outs_by, plan_by}
use Rattle.policy_trait.specs.Model.{PolicyModel}
use Rattle.policy_trait.specs.declared.birth.Birth.{Birth}
use Rattle.policy_trait.specs.declared.rules.Ins.{Ins}
use Rattle.policy_trait.specs.declared.rules.Shape.{Shape}
use Rattle.policy_trait.specs.declared.services.Args.{Args}
use Rattle.policy_trait.specs.declared.services.Plan.{Plan}

-- each tag and the value told as another one's, policy m answers as policy n; what only an owner of a service is asked, where
-- there is one
pub record IsToldAs {T U S R : Type 0} (tag : T → U) (value : S → R) (m : PolicyModel T S) (n : PolicyModel U R) : Type 0 where
  pub plain : (s : S) → tag (m.plain s) ≡ n.plain (value s)
  pub rule : (s : S) (g : Group) (x : Ins T) → ok_by (outs_by tag) (m.rule s g x) ≡ n.rule (value s) g (ins_by tag x)
  pub ignores : (s : S) (g : Group) → m.ignores s g ≡ n.ignores (value s) g
  pub peeks : (s : S) → m.peeks s ≡ n.peeks (value s)
  pub peek : (s : S) (shape : Shape) (x y : T) → m.peek s shape x y ≡ n.peek (value s) shape (tag x) (tag y)
  pub knows : (s : S) (k : ℕ) → m.knows s k ≡ n.knows (value s) k
  pub uses : (s : S) (k : ℕ) → m.uses s k ≡ n.uses (value s) k
  pub lend : (s : S) (t : T) → m.lend s t ≡ n.lend (value s) (tag t)
  pub room : (s : S) → m.room s ≡ n.room (value s)
  pub plan : (s : S) (k : ℕ) (a : Args T) (pc : T) → m.knows s k ≡ true → ok_by (plan_by tag) (m.plan s k a pc) ≡ n.plan (value s) k (args_by tag a) (tag pc)
  pub retag : (s : S) (p : Plan T) (old : T) → m.knows s p.service ≡ true → ok_by tag (m.retag s p old) ≡ n.retag (value s) (plan_by tag p) (tag old)
  pub wipe : (s : S) (pc old : T) → ok_by tag (m.wipe s pc old) ≡ n.wipe (value s) (tag pc) (tag old)
  pub commit : (s : S) (p : Plan T) → m.knows s p.service ≡ true → value (m.commit s p) ≡ n.commit (value s) (plan_by tag p)
  pub uncommit : (s : S) (p : Plan T) → m.knows s p.service ≡ true → value (m.uncommit s p) ≡ n.uncommit (value s) (plan_by tag p)
  pub start_pc : (s : S) (b : Birth) → tag (m.start_pc s b) ≡ n.start_pc (value s) b
  pub start_word : (s : S) (b : Birth) → tag (m.start_word s b) ≡ n.start_word (value s) b
  pub text : (s : S) (t : T) → m.text s t ≡ n.text (value s) (tag t)
  pub listed : (s : S) (place : ℕ) → m.listed s place ≡ n.listed (value s) place
