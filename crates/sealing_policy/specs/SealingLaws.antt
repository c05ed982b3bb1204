-- Sealing keeps the laws of a policy.
use Rattle.std.proofs.Common.{◌≡◌, ℕ, ◌+◌, ◌-◌, ◌^◌, ◌<◌, ◌≤◌, ◌==◌, Bool, true, false, Some, None, Result, Ok, Err, IsTrue, nat_lt, if◌then◌else◌, refl, sym, ap, ◌∙◌, subst, arith}
use Rattle.std.proofs.lemmas.Bool.Decides.{nat_tests}
use Rattle.std.proofs.lemmas.Option.{none-some, same_Some}
use Rattle.std.specs.Option.{ForSome}
use Rattle.shared_terms.proofs.CaseLemmas.{not_refused}
use Rattle.shared_terms.proofs.StepLemmas.{ok_is}
use Rattle.rv_decode.specs.declared.groups.Group.{Group}
use Rattle.rv_decode.specs.declared.groups.Group.TheVariants as group
use Rattle.policy_trait.specs.PolicyLaws.{AgreesOnUsed, HasWord, KeepsLaws}
use Rattle.policy_trait.specs.Model.{masked_inputs}
use Rattle.policy_trait.specs.declared.rules.Ins.{Ins}
use Rattle.policy_trait.specs.declared.services.Answer.{Answer}
use Rattle.policy_trait.specs.declared.services.Args.{Args}
use Rattle.policy_trait.specs.declared.services.Plan.{Plan}
use Rattle.policy_trait.specs.declared.services.PlanEnd.{PlanEnd}
use Rattle.policy_trait.specs.declared.services.PlanEnd.TheVariants as plan_end
use Rattle.policy_trait.specs.declared.services.Rest.{Rest}
use Rattle.policy_trait.specs.declared.services.Rest.TheVariants as rest
use Rattle.policy_trait.specs.declared.services.Rest.TheVariants.{AsA0}
use Rattle.policy_trait.specs.declared.rules.Why.TheVariants as why
use Rattle.sealing_policy.specs.Sealing.{HasFewKeys, answering, key_limit, key_plan, make_key_service, refused_plan, seal_plan, seal_service, sealing, sealing_ignores, sealing_knows, sealing_plan, sealing_rule, unseal_plan, unseal_service}
use Rattle.sealing_policy.specs.declared.tag.SealTag.{SealTag}
use Rattle.sealing_policy.specs.declared.tag.SealTag.TheVariants.{Data, Key, Sealed}

rule_masked : (g : Group) (x : Ins SealTag) → sealing_rule g x ≡ sealing_rule g (masked_inputs (sealing_ignores g) Data x)
rule_masked = elim [
  | group.Const ↦ λ x. refl
  | group.Here ↦ λ x. refl
  | group.Jal ↦ λ x. refl
  | group.Jalr ↦ λ x. refl
  | group.Branch ↦ λ x. refl
  | group.LoadWord ↦ λ x. refl
  | group.LoadPart ↦ λ x. refl
  | group.StoreWord ↦ λ x. refl
  | group.StorePart ↦ λ x. refl
  | group.Move ↦ λ x. refl
  | group.AddImm ↦ λ x. refl
  | group.AluImm ↦ λ x. refl
  | group.Add ↦ λ x. refl
  | group.Sub ↦ λ x. refl
  | group.Alu ↦ λ x. refl
  | group.Fence ↦ λ x. refl
  | group.Exit ↦ λ x. refl
  | group.Put ↦ λ x. refl
  | group.Get ↦ λ x. refl
  | group.Break ↦ λ x. refl
  | group.Call ↦ λ x. refl
]

-- a plan of sealing: no range, and what its answer is
record IsSealPlan (keys number a0 : ℕ) (p : Plan SealTag) : Type 0 where
  service : p.service ≡ number
  range : p.range ≡ None
  value : (x : Answer SealTag) → p.answer ≡ Some x → x.rest ≡ AsA0 → x.value ≡ a0
  word : a0 < 2 ^ 32 → ForSome p.answer HasWord
  below : number ≡ make_key_service → keys < key_limit

-- a plan that is made
abbrev given_as : Plan SealTag → Result (Plan SealTag) PlanEnd
given_as plan = Ok plan

made : (keys number a0 n value : ℕ) (pc tag : SealTag) (others : Rest) (p : Plan SealTag) → n ≡ number → (others ≡ AsA0 → value ≡ a0)
    → (a0 < 2 ^ 32 → value < 2 ^ 32) → (number ≡ make_key_service → keys < key_limit)
    → given_as (answering n pc value tag others) ≡ given_as p → IsSealPlan keys number a0 p
made keys number a0 n value pc tag others p n_is value_is fits below given =
    let e : answering n pc value tag others ≡ p = ok_is (answering n pc value tag others) p given in
    record {
      service = ap (λ (q : Plan SealTag). q.service) (sym e) ∙ n_is;
      range = ap (λ (q : Plan SealTag). q.range) (sym e);
      value = λ x x_is as_a0.
          let same : (record { value = value; tag = tag; rest = others }) ≡ x = same_Some (record { value = value; tag = tag; rest = others }) x (ap (λ (q : Plan SealTag). q.answer) e ∙ x_is) in
          ap (λ (y : Answer SealTag). y.value) (sym same) ∙ value_is (ap (λ (y : Answer SealTag). y.rest) same ∙ as_a0);
      word = λ a0_fits x x_is.
          subst HasWord (same_Some (record { value = value; tag = tag; rest = others }) x (ap (λ (q : Plan SealTag). q.answer) e ∙ x_is)) (fits a0_fits);
      below = below;
    }

sealed_plan : (keys number : ℕ) (a : Args SealTag) (pc : SealTag) (p : Plan SealTag) (t0 t1 : SealTag) → seal_service ≡ number → (number ≡ make_key_service → keys < key_limit)
    → seal_plan a pc t0 t1 ≡ Ok p → IsSealPlan keys number a.a0 p
sealed_plan keys number a pc p Data (Key k) is below e = made keys number a.a0 seal_service a.a0 pc (Sealed k) rest.AsA0 p is (λ _. refl) (λ fits. fits) below e
sealed_plan keys number a pc p Data Data is below e = not_refused e
sealed_plan keys number a pc p Data (Sealed k) is below e = not_refused e
sealed_plan keys number a pc p (Key k) t1 is below e = not_refused e
sealed_plan keys number a pc p (Sealed k) t1 is below e = not_refused e

unsealed_by : (same : Bool) (keys number : ℕ) (a : Args SealTag) (pc : SealTag) (p : Plan SealTag) → unseal_service ≡ number → (number ≡ make_key_service → keys < key_limit)
    → (if same then Ok (answering unseal_service pc a.a0 Data rest.AsA0) else refused_plan why.WrongKey) ≡ Ok p → IsSealPlan keys number a.a0 p
unsealed_by true keys number a pc p is below e = made keys number a.a0 unseal_service a.a0 pc Data rest.AsA0 p is (λ _. refl) (λ fits. fits) below e
unsealed_by false keys number a pc p is below e = not_refused e

unsealed_plan : (keys number : ℕ) (a : Args SealTag) (pc : SealTag) (p : Plan SealTag) (t0 t1 : SealTag) → unseal_service ≡ number → (number ≡ make_key_service → keys < key_limit)
    → unseal_plan a pc t0 t1 ≡ Ok p → IsSealPlan keys number a.a0 p
unsealed_plan keys number a pc p (Sealed k) (Key j) is below e = unsealed_by (k == j) keys number a pc p is below e
unsealed_plan keys number a pc p (Sealed k) Data is below e = not_refused e
unsealed_plan keys number a pc p (Sealed k) (Sealed j) is below e = not_refused e
unsealed_plan keys number a pc p Data t1 is below e = not_refused e
unsealed_plan keys number a pc p (Key k) t1 is below e = not_refused e

key_made : (few : Bool) (keys number a0 : ℕ) (pc : SealTag) (p : Plan SealTag) → (few ≡ true → keys < key_limit) → make_key_service ≡ number
    → (if few then Ok (answering make_key_service pc keys (Key keys) rest.Plain) else Err plan_end.Spent) ≡ Ok p → IsSealPlan keys number a0 p
key_made true keys number a0 pc p below is e =
    let few : keys < key_limit = below refl in
    made keys number a0 make_key_service keys pc (Key keys) rest.Plain p is (λ plain. cc) (λ fits. omega (arith, few)) (λ _. few) e
key_made false keys number a0 pc p below is e = not_refused e

planned_by : (first second : Bool) (keys number : ℕ) (a : Args SealTag) (pc : SealTag) (p : Plan SealTag)
    → (first ≡ true → make_key_service ≡ number) → (second ≡ true → seal_service ≡ number) → (first ≡ false → second ≡ false → unseal_service ≡ number)
    → (if first then key_plan keys pc else if second then seal_plan a pc a.t0 a.t1 else unseal_plan a pc a.t0 a.t1) ≡ Ok p
    → IsSealPlan keys number a.a0 p
planned_by true second keys number a pc p one two three e =
    key_made (nat_lt keys key_limit) keys number a.a0 pc p (λ few. grind (arith, nat_tests)) (one refl) e
planned_by false true keys number a pc p one two three e =
    let is : seal_service ≡ number = two refl in sealed_plan keys number a pc p a.t0 a.t1 is (λ sixteen. absurd (omega arith)) e
planned_by false false keys number a pc p one two three e =
    let is : unseal_service ≡ number = three refl refl in unsealed_plan keys number a pc p a.t0 a.t1 is (λ sixteen. absurd (omega arith)) e

planned : (keys number : ℕ) (a : Args SealTag) (pc : SealTag) (p : Plan SealTag) → IsTrue (sealing_knows number)
    → sealing_plan keys number a pc ≡ Ok p → IsSealPlan keys number a.a0 p
planned keys number a pc p known e =
    planned_by (number == make_key_service) (number == seal_service) keys number a pc p (λ one. grind (arith, nat_tests)) (λ two. grind (arith, nat_tests)) (λ one two. grind (arith, nat_tests, known)) e

stays_by : (sixteen : Bool) (keys : ℕ) → (sixteen ≡ true → keys < key_limit) → HasFewKeys keys → HasFewKeys (if sixteen then keys + 1 else keys)
stays_by true keys below few = let h : keys < key_limit = below refl in omega arith
stays_by false keys below few = few

-- ---- what the services use: the key's maker nothing, the others a0 and a1

sealed_as : (a b : Args SealTag) (pc t0 t1 : SealTag) → a.a0 ≡ b.a0 → seal_plan a pc t0 t1 ≡ seal_plan b pc t0 t1
sealed_as a b pc Data (Key k) same = ap (λ (value : ℕ). given_as (answering seal_service pc value (Sealed k) rest.AsA0)) same
sealed_as a b pc Data Data same = refl
sealed_as a b pc Data (Sealed k) same = refl
sealed_as a b pc (Key k) t1 same = refl
sealed_as a b pc (Sealed k) t1 same = refl

unsealed_as : (a b : Args SealTag) (pc t0 t1 : SealTag) → a.a0 ≡ b.a0 → unseal_plan a pc t0 t1 ≡ unseal_plan b pc t0 t1
unsealed_as a b pc (Sealed k) (Key j) same =
    ap (λ (value : ℕ). if k == j then given_as (answering unseal_service pc value Data rest.AsA0) else refused_plan why.WrongKey) same
unsealed_as a b pc (Sealed k) Data same = refl
unsealed_as a b pc (Sealed k) (Sealed j) same = refl
unsealed_as a b pc Data t1 same = refl
unsealed_as a b pc (Key k) t1 same = refl

-- the plan, by whether a key is made
abbrev plan_by_service : Bool → ℕ → ℕ → Args SealTag → SealTag → Result (Plan SealTag) PlanEnd
plan_by_service makes keys number a pc =
    if makes then key_plan keys pc else if number == seal_service then seal_plan a pc a.t0 a.t1 else unseal_plan a pc a.t0 a.t1

unused_by : (makes : Bool) (keys number : ℕ) (a b : Args SealTag) (pc : SealTag) → AgreesOnUsed (if makes then 0 else 2) a b
    → plan_by_service makes keys number a pc ≡ plan_by_service makes keys number b pc
unused_by true keys number a b pc same = refl
unused_by false keys number a b pc same =
    let a0 : a.a0 ≡ b.a0 = same.a0 (omega arith) in
    let t0 : a.t0 ≡ b.t0 = same.t0 (omega arith) in
    let t1 : a.t1 ≡ b.t1 = same.t1 (omega arith) in
    (λ j. plan_by_service false keys number (record a { t0 = t0 j; t1 = t1 j }) pc)
    ∙ (λ j. if number == seal_service then sealed_as (record a { t0 = b.t0; t1 = b.t1 }) b pc b.t0 b.t1 a0 j
    else unsealed_as (record a { t0 = b.t0; t1 = b.t1 }) b pc b.t0 b.t1 a0 j)

uses_by : (sixteen : Bool) → (if sixteen then 0 else 2) ≤ 3
uses_by true = omega arith
uses_by false = omega arith

-- a key less is as many as there were
undone_by : (makes : Bool) (keys : ℕ) → (let after : ℕ = if makes then keys + 1 else keys in if makes then after - 1 else after) ≡ keys
undone_by true keys = omega arith
undone_by false keys = refl

pub sealing_laws : KeepsLaws sealing HasFewKeys
sealing_laws = record {
  masks = λ keys g x. rule_masked g x;
  unpeeked = λ keys shape first second none. refl;
  parted = λ keys shape first second one other. refl;
  keeps = λ keys p given. record {
    plain = refl;
    rule = λ g x. refl;
    ignores = λ g. refl;
    peeks = refl;
    peek = λ shape first second. refl;
    knows = λ k. refl;
    uses = λ k. refl;
    lend = λ t. refl;
    room = refl;
    wipe = λ pc old. refl;
    start_pc = λ b. refl;
    start_word = λ b. refl;
    text = λ t. refl;
  };
  stays = λ keys p given few.
      let plan : IsSealPlan keys p.service given.arguments.a0 p = planned keys p.service given.arguments given.pc p given.can.known given.given in
      stays_by (p.service == make_key_service) keys (λ sixteen. plan.below (grind (arith, nat_tests))) few;
  undoes = λ keys p given few. undone_by (p.service == make_key_service) keys;
  ranges = λ keys k a pc p can few given x x_is.
      let plan : IsSealPlan keys k a.a0 p = planned keys k a pc p can.known given in
      absurd (none-some x (sym plan.range ∙ x_is));
  few = λ keys k known. uses_by (k == make_key_service);
  service = λ keys k a pc p known given. let plan : IsSealPlan keys k a.a0 p = planned keys k a pc p known given in plan.service;
  value = λ keys k a pc p known given x x_is. let plan : IsSealPlan keys k a.a0 p = planned keys k a pc p known given in plan.value x x_is;
  unused = λ keys k a b pc known same. unused_by (k == make_key_service) keys k a b pc same;
  blind_retag = λ keys p x old. refl;
  blind_commit = λ keys p x. refl;
  words = λ keys k a pc p can few are given. let plan : IsSealPlan keys k a.a0 p = planned keys k a pc p can.known given in plan.word are.a0;
}
