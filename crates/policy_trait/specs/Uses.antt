-- Which of its five inputs the rule of a group uses: those that change its answer.
use Rattle.std.specs.Prelude.{◌≡◌, Bool, false, IsTrue}
use Rattle.rv_decode.specs.declared.groups.Group.{Group}
use Rattle.policy_trait.specs.Model.{PolicyModel}
use Rattle.policy_trait.specs.declared.rules.Ins.{Ins}
use Rattle.policy_trait.specs.declared.rules.Mask.{Mask}

-- an input of a rule, named as in `Ins`
pub data Input : Type 0 where
  Pc : Input
  Instruction : Input
  First : Input
  Second : Input
  Word : Input

-- the inputs with that one replaced
abbrev pub with_input : {T : Type 0} → Input → T → Ins T → Ins T
with_input Pc tag x = record x { pc = tag }
with_input Instruction tag x = record x { ci = tag }
with_input First tag x = record x { t1 = tag }
with_input Second tag x = record x { t2 = tag }
with_input Word tag x = record x { tm = tag }

abbrev pub is_ignored : Mask → Input → Bool
is_ignored mask Pc = mask.pc
is_ignored mask Instruction = mask.ci
is_ignored mask First = mask.t1
is_ignored mask Second = mask.t2
is_ignored mask Word = mask.tm

-- whatever tag the input has, the answer is the same
abbrev pub ChangesNothing : {T S : Type 0} → PolicyModel T S → S → Group → Input → Type 0
ChangesNothing {T} m s g i = (tag : T) (x : Ins T) → m.rule s g (with_input i tag x) ≡ m.rule s g x

-- at some inputs another tag in its place changes the answer
pub record IsUsed {T S : Type 0} (m : PolicyModel T S) (s : S) (g : Group) (i : Input) : Type 0 where
  pub inputs : Ins T
  pub tag : T
  pub differs : ¬ (m.rule s g (with_input i tag inputs) ≡ m.rule s g inputs)

-- each rule uses exactly the inputs that its mask does not ignore
pub record UsesExactly {T S : Type 0} (m : PolicyModel T S) (s : S) : Type 0 where
  pub ignored : (g : Group) (i : Input) → IsTrue (is_ignored (m.ignores s g) i) → ChangesNothing m s g i
  pub used : (g : Group) (i : Input) → is_ignored (m.ignores s g) i ≡ false → IsUsed m s g i
