-- What users of a policy take from its laws.
use Rattle.std.proofs.Common.{◌≡◌, ℕ, zero, suc, ◌+◌, ◌≤◌, Bool, true, false, IsTrue, if◌then◌else◌, Ok, ap, refl, sym, ◌∙◌, subst, arith}
use Rattle.std.proofs.lemmas.Bool.{false≢true}
use Rattle.std.specs.Option.{ForSome}
use Rattle.rv_decode.specs.declared.groups.Group.{Group}
use Rattle.policy_trait.specs.Maps.{args_by}
use Rattle.policy_trait.specs.Model.{CanPlan, IsCommitted, IsGiven, PolicyModel, masked_inputs}
use Rattle.policy_trait.specs.PolicyLaws.{AgreesOnUsed, AreWords, KeepsLaws}
use Rattle.policy_trait.specs.Uses.{ChangesNothing, Input, Pc, Instruction, First, Second, Word, is_ignored, with_input}
use Rattle.policy_trait.specs.declared.rules.Ins.{Ins}
use Rattle.policy_trait.specs.declared.rules.Mask.{Mask}
use Rattle.policy_trait.specs.declared.services.Args.{Args}
use Rattle.policy_trait.specs.declared.services.Plan.{Plan}
use Rattle.policy_trait.specs.declared.services.Rest.TheVariants.{AsA0}

-- a plan that the policy gives is a given one
pub given_plan : {T S : Type 0} (m : PolicyModel T S) (holds : S → Type 0) (laws : KeepsLaws m holds) (s : S) (k : ℕ) (a : Args T) (pc : T) (p : Plan T)
    → CanPlan m s k a → m.plan s k a pc ≡ Ok p → IsGiven m s p
given_plan m holds laws s k a pc p can given =
    let number : p.service ≡ k = laws.service s k a pc p can.known given in
    record {
      arguments = a;
      pc = pc;
      can = subst (λ n. CanPlan m s n a) (sym number) can;
      given = ap (λ n. m.plan s n a pc) number ∙ given;
    }

-- a commit that is taken back leaves the value before it
pub taken_back : {T S : Type 0} (m : PolicyModel T S) (holds : S → Type 0) (laws : KeepsLaws m holds) (s : S) (p : Plan T)
    (committed : IsCommitted m holds s p) → m.uncommit s p ≡ committed.before
taken_back m holds laws s p committed =
    ap (λ n. m.uncommit n p) committed.left ∙ laws.undoes committed.before p committed.given committed.held

-- so it knows the same services
pub taken_back_knows : {T S : Type 0} (m : PolicyModel T S) (holds : S → Type 0) (laws : KeepsLaws m holds) (s : S) (p : Plan T)
    → IsCommitted m holds s p → (k : ℕ) → m.knows (m.uncommit s p) k ≡ m.knows s k
taken_back_knows m holds laws s p committed k =
    ap (λ n. m.knows n k) (taken_back m holds laws s p committed)
    ∙ sym (ap (λ n. m.knows n k) committed.left ∙ (laws.keeps committed.before p committed.given).knows k)

-- inputs with one masked key have one rule
pub rule_by_key : {T S : Type 0} (m : PolicyModel T S) (holds : S → Type 0) (laws : KeepsLaws m holds) (s : S) (g : Group) (x y : Ins T)
    → masked_inputs (m.ignores s g) (m.plain s) x ≡ masked_inputs (m.ignores s g) (m.plain s) y → m.rule s g x ≡ m.rule s g y
rule_by_key m holds laws s g x y same = laws.masks s g x ∙ ap (m.rule s g) same ∙ sym (laws.masks s g y)

plain_either : {T : Type 0} (ignored : Bool) (plain t u : T) → IsTrue ignored → (if ignored then plain else t) ≡ (if ignored then plain else u)
plain_either true plain t u is = refl
plain_either false plain t u is = absurd (false≢true is)

-- masked inputs are the same whatever an ignored one was
masked_input : {T : Type 0} (mask : Mask) (plain : T) (i : Input) (t : T) (x : Ins T) → IsTrue (is_ignored mask i)
    → masked_inputs mask plain (with_input i t x) ≡ masked_inputs mask plain x
masked_input mask plain Pc t x is = ap (λ y. record (masked_inputs mask plain x) { pc = y }) (plain_either mask.pc plain t x.pc is)
masked_input mask plain Instruction t x is = ap (λ y. record (masked_inputs mask plain x) { ci = y }) (plain_either mask.ci plain t x.ci is)
masked_input mask plain First t x is = ap (λ y. record (masked_inputs mask plain x) { t1 = y }) (plain_either mask.t1 plain t x.t1 is)
masked_input mask plain Second t x is = ap (λ y. record (masked_inputs mask plain x) { t2 = y }) (plain_either mask.t2 plain t x.t2 is)
masked_input mask plain Word t x is = ap (λ y. record (masked_inputs mask plain x) { tm = y }) (plain_either mask.tm plain t x.tm is)

-- an input that is ignored changes no answer
pub ignored_input : {T S : Type 0} (m : PolicyModel T S) (holds : S → Type 0) (laws : KeepsLaws m holds) (s : S) (g : Group) (i : Input)
    → IsTrue (is_ignored (m.ignores s g) i) → ChangesNothing m s g i
ignored_input m holds laws s g i is t x =
    rule_by_key m holds laws s g (with_input i t x) x (masked_input (m.ignores s g) (m.plain s) i t x is)

-- ---- arguments with their tags changed

-- agree where they agreed
pub agrees_by : {T U : Type 0} (f : T → U) (uses : ℕ) (a b : Args T) → AgreesOnUsed uses a b → AgreesOnUsed uses (args_by f a) (args_by f b)
agrees_by f uses a b same = record {
  a0 = same.a0;
  t0 = λ used. ap f (same.t0 used);
  a1 = same.a1;
  t1 = λ used. ap f (same.t1 used);
  a2 = same.a2;
  t2 = λ used. ap f (same.t2 used);
  ram = same.ram;
}

-- are words where they were
pub words_by : {T U : Type 0} (f : T → U) (a : Args T) → AreWords a → AreWords (args_by f a)
words_by f a are = record { a0 = are.a0; a1 = are.a1; a2 = are.a2; ram = are.ram }

-- ---- a service that leaves the others a0's tags uses a0

-- where no argument is used, a0 may have any value
any_a0 : {T : Type 0} (value : ℕ) (a : Args T) → AgreesOnUsed 0 a (record a { a0 = value })
any_a0 value a = record {
  a0 = λ used. absurd (omega (arith, used));
  t0 = λ used. refl;
  a1 = λ used. refl;
  t1 = λ used. refl;
  a2 = λ used. refl;
  t2 = λ used. refl;
  ram = refl;
}

-- since its answer would be a0's value, whatever that is
pub uses_a0 : {T S : Type 0} (m : PolicyModel T S) (holds : S → Type 0) (laws : KeepsLaws m holds) (s : S) (k : ℕ) (a : Args T) (pc : T) (p : Plan T)
    → IsTrue (m.knows s k) → m.plan s k a pc ≡ Ok p → ForSome p.answer (λ x. x.rest ≡ AsA0 → 1 ≤ m.uses s k)
uses_a0 {T} m holds laws s k a pc p known given x x_is as_a0 = by_uses (m.uses s k) refl
  where
    by_uses : (uses : ℕ) → m.uses s k ≡ uses → 1 ≤ m.uses s k
    by_uses (suc uses) is = omega (arith, is)
    by_uses zero is =
        let other : Args T = record a { a0 = a.a0 + 1 } in
        let same = laws.unused s k a other pc known (subst (λ n. AgreesOnUsed n a other) (sym is) (any_a0 (a.a0 + 1) a)) in
        let is_a0 = laws.value s k a pc p known given x x_is as_a0 in
        let is_other = laws.value s k other pc p known (sym same ∙ given) x x_is as_a0 in
        absurd (omega (arith, is_a0, is_other))
