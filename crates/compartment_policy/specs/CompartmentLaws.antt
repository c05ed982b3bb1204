-- The policy of compartments keeps the laws of a policy.
use Rattle.std.proofs.Common.{◌≡◌, ℕ, ◌+◌, ◌-◌, ◌^◌, ◌<◌, ◌≤◌, ◌==◌, Bool, true, false, Option, Some, None, Result, Ok, Err, nat_lt, if◌then◌else◌, refl, sym, ap, ◌∙◌, subst, arith}
use Rattle.std.proofs.lemmas.Bool.Decides.{nat_tests}
use Rattle.std.proofs.lemmas.Option.{none-some, same_Some}
use Rattle.shared_terms.proofs.CaseLemmas.{not_refused}
use Rattle.shared_terms.proofs.StepLemmas.{ok_is}
use Rattle.rv_decode.specs.declared.groups.Group.{Group}
use Rattle.rv_decode.specs.declared.groups.Group.TheVariants as group
use Rattle.policy_trait.proofs.AnswerLemmas.{plain_keeps}
use Rattle.policy_trait.specs.PolicyLaws.{AgreesOnUsed, IsRange, KeepsLaws}
use Rattle.policy_trait.specs.Model.{IsGiven, masked_inputs}
use Rattle.policy_trait.specs.declared.rules.Ins.{Ins}
use Rattle.policy_trait.specs.declared.rules.Why.TheVariants as why
use Rattle.policy_trait.specs.declared.services.Answer.{Answer}
use Rattle.policy_trait.specs.declared.services.Args.{Args}
use Rattle.policy_trait.specs.declared.services.Plan.{Plan}
use Rattle.policy_trait.specs.declared.services.PlanEnd.{PlanEnd}
use Rattle.policy_trait.specs.declared.services.PlanEnd.TheVariants as plan_end
use Rattle.policy_trait.specs.declared.services.Rest.TheVariants as rest
use Rattle.policy_trait.specs.declared.services.Words.{Words}
use Rattle.compartment_policy.specs.Compartments.{CompartmentState, IsCount, compartment_ignores, compartment_plan, compartments, entry_owner, is_range, let_plan, letting, refused_plan, run_by, split_plan, split_service, splitting, words_of}
use Rattle.compartment_policy.specs.declared.tag.CompartmentTag.{CompartmentTag}
use Rattle.compartment_policy.specs.declared.tag.CompartmentTag.TheVariants.{Plain}

-- an instruction whose owner is known, or that is refused, uses the memory word for a store alone
run_masked : (owner : Option ℕ) (g : Group) (x : Ins CompartmentTag) → run_by owner g x ≡ run_by owner g (masked_inputs (compartment_ignores g) Plain x)
run_masked None = λ g x. refl
run_masked (Some owner) = elim [
  | group.Const ↦ λ x. refl
  | group.Here ↦ λ x. refl
  | group.Jal ↦ λ x. refl
  | group.Jalr ↦ λ x. refl
  | group.Branch ↦ λ x. refl
  | group.LoadWord ↦ λ x. refl
  | group.LoadPart ↦ λ x. refl
  | group.StoreWord ↦ λ x. refl
  | group.StorePart ↦ λ x. refl
  | group.Move ↦ λ x. refl
  | group.AddImm ↦ λ x. refl
  | group.AluImm ↦ λ x. refl
  | group.Add ↦ λ x. refl
  | group.Sub ↦ λ x. refl
  | group.Alu ↦ λ x. refl
  | group.Fence ↦ λ x. refl
  | group.Exit ↦ λ x. refl
  | group.Put ↦ λ x. refl
  | group.Get ↦ λ x. refl
  | group.Break ↦ λ x. refl
  | group.Call ↦ λ x. refl
]

-- a plan of this policy: its range, what its answer is, and that a number is left for it
record IsCompartmentPlan (state : CompartmentState) (number : ℕ) (a : Args CompartmentTag) (p : Plan CompartmentTag) : Type 0 where
  service : p.service ≡ number
  range : p.range ≡ Some (words_of a)
  fits : IsRange a.ram (words_of a)
  plain : (x : Answer CompartmentTag) → p.answer ≡ Some x → x.rest ≡ rest.Plain
  value : (x : Answer CompartmentTag) → p.answer ≡ Some x → x.value ≡ state.count
  below : number ≡ split_service → state.count < state.limit

fits_by : (ram : ℕ) (words : Words) → is_range ram words ≡ true → IsRange ram words
fits_by ram words test = record {
  aligned = grind (arith, nat_tests);
  nonempty = grind (arith, nat_tests);
  within = grind (arith, nat_tests);
}

splits : (state : CompartmentState) (number : ℕ) (a : Args CompartmentTag) (pc : CompartmentTag) → split_service ≡ number
    → is_range a.ram (words_of a) ≡ true → state.count < state.limit
    → IsCompartmentPlan state number a (splitting state.count (words_of a) pc)
splits state number a pc is test below = record {
  service = is;
  range = refl;
  fits = fits_by a.ram (words_of a) test;
  plain = λ x x_is. ap (λ (y : Answer CompartmentTag). y.rest) (sym (same_Some _ x x_is));
  value = λ x x_is. ap (λ (y : Answer CompartmentTag). y.value) (sym (same_Some _ x x_is));
  below = λ _. below;
}

lets : (state : CompartmentState) (number : ℕ) (a : Args CompartmentTag) (pc : CompartmentTag) → (number ≡ split_service → ⊥) → is_range a.ram (words_of a) ≡ true
    → IsCompartmentPlan state number a (letting number a.a2 (words_of a) pc)
lets state number a pc differs test = record {
  service = refl;
  range = refl;
  fits = fits_by a.ram (words_of a) test;
  plain = λ x x_is. absurd (none-some x x_is);
  value = λ x x_is. absurd (none-some x x_is);
  below = λ same. absurd (differs same);
}

split_by : (fits few : Bool) (state : CompartmentState) (number : ℕ) (a : Args CompartmentTag) (pc : CompartmentTag) (p : Plan CompartmentTag)
    → split_service ≡ number → is_range a.ram (words_of a) ≡ fits → (few ≡ true → state.count < state.limit)
    → (if fits then (if few then Ok (splitting state.count (words_of a) pc) else Err plan_end.Spent) else refused_plan why.Range) ≡ Ok p
    → IsCompartmentPlan state number a p
split_by true true state number a pc p is test below e =
    subst (IsCompartmentPlan state number a) (ok_is (splitting state.count (words_of a) pc) p e) (splits state number a pc is test (below refl))
split_by true false state number a pc p is test below e = not_refused e
split_by false few state number a pc p is test below e = not_refused e

let_by : (fits known : Bool) (state : CompartmentState) (number : ℕ) (a : Args CompartmentTag) (pc : CompartmentTag) (p : Plan CompartmentTag)
    → (number ≡ split_service → ⊥) → is_range a.ram (words_of a) ≡ fits
    → (if fits then (if known then Ok (letting number a.a2 (words_of a) pc) else refused_plan why.Args) else refused_plan why.Range) ≡ Ok p
    → IsCompartmentPlan state number a p
let_by true true state number a pc p differs test e =
    subst (IsCompartmentPlan state number a) (ok_is (letting number a.a2 (words_of a) pc) p e) (lets state number a pc differs test)
let_by true false state number a pc p differs test e = not_refused e
let_by false known state number a pc p differs test e = not_refused e

planned_by : (split : Bool) (state : CompartmentState) (number : ℕ) (a : Args CompartmentTag) (pc : CompartmentTag) (p : Plan CompartmentTag)
    → (split ≡ true → split_service ≡ number) → (split ≡ false → number ≡ split_service → ⊥)
    → (if split then split_plan state a pc else let_plan number state.count a pc) ≡ Ok p → IsCompartmentPlan state number a p
planned_by true state number a pc p is differs e =
    split_by (is_range a.ram (words_of a)) (nat_lt state.count state.limit) state number a pc p (is refl) refl (λ few. grind (arith, nat_tests)) e
planned_by false state number a pc p is differs e =
    let_by (is_range a.ram (words_of a)) (nat_lt a.a2 state.count) state number a pc p (differs refl) refl e

planned : (state : CompartmentState) (number : ℕ) (a : Args CompartmentTag) (pc : CompartmentTag) (p : Plan CompartmentTag)
    → compartment_plan state number a pc ≡ Ok p → IsCompartmentPlan state number a p
planned state number a pc p e =
    planned_by (number == split_service) state number a pc p (λ is. grind (arith, nat_tests)) (λ differs is. grind (arith, nat_tests)) e

-- there is a number left for a plan that splits words off
left_for : (state : CompartmentState) (p : Plan CompartmentTag) → IsGiven compartments state p → p.service ≡ split_service → state.count < state.limit
left_for state p given is = (planned state p.service given.arguments given.pc p given.given).below is

stays_by : (split : Bool) (state : CompartmentState) → (split ≡ true → state.count < state.limit) → IsCount state
    → IsCount (record state { count = if split then state.count + 1 else state.count })
stays_by true state below holds = let h = below refl in record { some = omega arith; within = omega (arith, h); few = holds.few }
stays_by false state below holds = holds

-- ---- what the services use: a0 and a1, and a2 where words are not split off

-- the plan, by whether words are split off
abbrev plan_by_service : Bool → CompartmentState → ℕ → Args CompartmentTag → CompartmentTag → Result (Plan CompartmentTag) PlanEnd
plan_by_service splits state number a pc = if splits then split_plan state a pc else let_plan number state.count a pc

unused_by : (splits : Bool) (state : CompartmentState) (number : ℕ) (a b : Args CompartmentTag) (pc : CompartmentTag) → AgreesOnUsed (if splits then 2 else 3) a b
    → plan_by_service splits state number a pc ≡ plan_by_service splits state number b pc
unused_by true state number a b pc same =
    let a0 : a.a0 ≡ b.a0 = same.a0 (omega arith) in
    let a1 : a.a1 ≡ b.a1 = same.a1 (omega arith) in
    λ j. split_plan state (record a { a0 = a0 j; a1 = a1 j; ram = same.ram j }) pc
unused_by false state number a b pc same =
    let a0 : a.a0 ≡ b.a0 = same.a0 (omega arith) in
    let a1 : a.a1 ≡ b.a1 = same.a1 (omega arith) in
    let a2 : a.a2 ≡ b.a2 = same.a2 (omega arith) in
    λ j. let_plan number state.count (record a { a0 = a0 j; a1 = a1 j; a2 = a2 j; ram = same.ram j }) pc

-- an answer is how many compartments there are
word_of : (state : CompartmentState) (value : ℕ) → IsCount state → value ≡ state.count → value < 2 ^ 32
word_of state value holds is = omega (arith, holds.within, holds.few, is)

uses_by : (split : Bool) → (if split then 2 else 3) ≤ 3
uses_by true = omega arith
uses_by false = omega arith

-- a compartment less is as many as there were
undone_by : (splits : Bool) (count : ℕ) → (let after : ℕ = if splits then count + 1 else count in if splits then after - 1 else after) ≡ count
undone_by true count = omega arith
undone_by false count = refl

pub compartment_laws : KeepsLaws compartments IsCount
compartment_laws = record {
  masks = λ state g x. run_masked (entry_owner x.pc x.ci) g x;
  unpeeked = λ state shape first second none. refl;
  parted = λ state shape first second one other. refl;
  keeps = λ state p given. record {
    plain = refl;
    rule = λ g x. refl;
    ignores = λ g. refl;
    peeks = refl;
    peek = λ shape first second. refl;
    knows = λ k. refl;
    uses = λ k. refl;
    lend = λ t. refl;
    room = refl;
    wipe = λ pc old. refl;
    start_pc = λ b. refl;
    start_word = λ b. refl;
    text = λ t. refl;
  };
  stays = λ state p given holds. stays_by (p.service == split_service) state (λ split. left_for state p given (grind (arith, nat_tests))) holds;
  undoes = λ state p given holds. ap (λ (count : ℕ). record state { count = count }) (undone_by (p.service == split_service) state.count);
  ranges = λ state k a pc p can holds given words words_is.
      let plan = planned state k a pc p given in
      subst (IsRange a.ram) (same_Some (words_of a) words (sym plan.range ∙ words_is)) plan.fits;
  few = λ state k known. uses_by (k == split_service);
  service = λ state k a pc p known given. (planned state k a pc p given).service;
  value = λ state k a pc p known given x x_is. plain_keeps a x ((planned state k a pc p given).plain x x_is);
  unused = λ state k a b pc known same. unused_by (k == split_service) state k a b pc same;
  blind_retag = λ state p x old. refl;
  blind_commit = λ state p x. refl;
  words = λ state k a pc p can holds are given x x_is. word_of state x.value holds ((planned state k a pc p given).value x x_is);
}
