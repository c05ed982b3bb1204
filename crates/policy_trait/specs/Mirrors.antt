-- Two policies without services whose rules are the same but for a change of tags.
use Rattle.std.specs.Prelude.{◌≡◌, ℕ, false}
use Rattle.rv_decode.specs.declared.groups.Group.{Group}
use Rattle.policy_trait.specs.Maps.{ins_by, ok_by, outs_by}
use Rattle.policy_trait.specs.Model.{PolicyModel}
use Rattle.policy_trait.specs.declared.birth.Birth.{Birth}
use Rattle.policy_trait.specs.declared.rules.Ins.{Ins}
use Rattle.policy_trait.specs.declared.rules.Shape.{Shape}

-- as policy m is at s with its tags, so policy n is at t with the changed ones, and neither offers a service
pub record Mirrors {T U S V : Type 0} (f : T → U) (m : PolicyModel T S) (s : S) (n : PolicyModel U V) (t : V) : Type 0 where
  pub plain : n.plain t ≡ f (m.plain s)
  pub rule : (g : Group) (x : Ins T) → n.rule t g (ins_by f x) ≡ ok_by (outs_by f) (m.rule s g x)
  pub peek : (shape : Shape) (first second : T) → n.peek t shape (f first) (f second) ≡ m.peek s shape first second
  pub offers_none : (k : ℕ) → m.knows s k ≡ false
  pub mirror_offers_none : (k : ℕ) → n.knows t k ≡ false
  pub start_pc : (b : Birth) → n.start_pc t b ≡ f (m.start_pc s b)
  pub start_word : (b : Birth) → n.start_word t b ≡ f (m.start_word s b)
