-- All policies together, each of the four asked by itself: what its `retag`, `commit` and `uncommit` require, and what the
-- answers are together.
use Rattle.std.proofs.Common.{◌≡◌, ℕ, Bool, true, false, ◌||◌, List, Option, Some, None, Result, Ok, Err, option_map, refl, sym, ap, ◌∙◌, subst}
use Rattle.sealing_policy.specs.Sealing.{sealing}
use Rattle.sealing_policy.specs.declared.tag.SealTag.{SealTag}
use Rattle.compartment_policy.specs.Compartments.{CompartmentState, compartments}
use Rattle.compartment_policy.specs.declared.tag.CompartmentTag.{CompartmentTag}
use Rattle.flow_policy.specs.Flow.{flow}
use Rattle.flow_policy.specs.declared.tag.FlowTag.{FlowTag}
use Rattle.heap_policy.specs.Heap.{HeapState, heap}
use Rattle.heap_policy.specs.declared.tag.HeapTag.{HeapTag}
use Rattle.policy_trait.specs.Maps.{answer_by, args_by, ok_by, plan_by}
use Rattle.policy_trait.specs.Model.{IsCommitted, IsGiven}
use Rattle.policy_trait.specs.declared.rules.Refused.{Refused}
use Rattle.policy_trait.specs.declared.services.Answer.{Answer}
use Rattle.policy_trait.specs.declared.services.Args.{Args}
use Rattle.policy_trait.specs.declared.services.Plan.{Plan}
use Rattle.policy_trait.specs.declared.services.PlanEnd.{PlanEnd}
use Rattle.shared_terms.specs.Steps.{◌>>=◌}
use Rattle.policy_product.specs.Both.{both, right}
use Rattle.policy_product.specs.BothLaws.{left_committed, left_part, right_committed, right_part}
use Rattle.policy_product.specs.Maybe.{maybe}
use Rattle.policy_product.specs.declared.maybe.Maybe.{Maybe}
use Rattle.policy_parts.specs.Part.{word_tag}
use Rattle.policy_choice.specs.All.{AllState, AllTag, TagParts, all, all_lent, all_owner_plan}
use Rattle.policy_choice.specs.AllLaws.{AllHold, CompHolds, FlowHolds, HeapHolds, LastHold, RestHold, SealHolds, comp_keeps, flow_keeps, heap_keeps, last_keep, rest_keep, seal_keeps}
use Rattle.policy_choice.specs.Flat.{flat_lent, lent_to_others, parts_of}
use Rattle.policy_choice.proofs.AllLemmas.{all_told_flat, comp_apart, flow_offers_none, seal_apart}
use Rattle.policy_choice.proofs.FlatLemmas.{comp_nested, comp_told, flow_told, heap_nested, heap_told, in_a_row, seal_told}

not_owned : (a b : Bool) → (a ≡ true → b ≡ false) → b ≡ true → a ≡ false
not_owned false b apart known = refl
not_owned true b apart known = absurd (cc (apart refl, known))

left_knows : (a b : Bool) → a ≡ true → (a || b) ≡ true
left_knows true b known = refl
left_knows false b known = absurd (cc known)

right_knows : (a b : Bool) → b ≡ true → (a || b) ≡ true
right_knows true b known = refl
right_knows false b known = known

last_knows : (a b c d : Bool) → (a || (b || (c || d))) ≡ true → a ≡ false → b ≡ false → c ≡ false → d ≡ true
last_knows false false false d known no_a no_b no_c = known
last_knows true b c d known no_a no_b no_c = absurd (cc no_a)
last_knows false true c d known no_a no_b no_c = absurd (cc no_b)
last_knows false false true d known no_a no_b no_c = absurd (cc no_c)

-- ---- plans and commits

module _ (s : AllState) (s0 : Maybe ℕ) (s1 : Maybe CompartmentState) (s2 : Maybe (List (ℕ × ℕ))) (s3 : Maybe HeapState) (is : (s0, (s1, (s2, s3))) ≡ s)
    (p : Plan AllTag) (given : IsGiven all s p) where
  rest_given : (maybe sealing).knows s0 p.service ≡ false → IsGiven (both (maybe compartments) (both (maybe flow) (maybe heap))) (s1, (s2, s3)) (plan_by right p)
  rest_given not =
      right_part (maybe sealing) (both (maybe compartments) (both (maybe flow) (maybe heap))) SealHolds RestHold
      seal_keeps rest_keep s s0 (s1, (s2, s3)) is p (plan_by right p) given not refl

  last_given : (maybe sealing).knows s0 p.service ≡ false → (maybe compartments).knows s1 p.service ≡ false → IsGiven (both (maybe flow) (maybe heap)) (s2, s3) (plan_by right (plan_by right p))
  last_given not nor =
      right_part (maybe compartments) (both (maybe flow) (maybe heap)) CompHolds LastHold
      comp_keeps last_keep (s1, (s2, s3)) s1 (s2, s3) refl (plan_by right p) (plan_by right (plan_by right p)) (rest_given not) nor refl

  -- the plan of the owner, by its components

  pub seal_given : (q : Plan (Option SealTag)) → q ≡ plan_by (λ (t : AllTag). t.0) p → (maybe sealing).knows s0 p.service ≡ true → IsGiven (maybe sealing) s0 q
  seal_given q q_is owns =
      left_part (maybe sealing) (both (maybe compartments) (both (maybe flow) (maybe heap))) SealHolds RestHold
      seal_keeps rest_keep s s0 (s1, (s2, s3)) is p q given owns q_is

  pub comp_given : (q : Plan (Option CompartmentTag)) → q ≡ plan_by (λ (t : AllTag). t.1.0) p → (maybe compartments).knows s1 p.service ≡ true → IsGiven (maybe compartments) s1 q
  comp_given q q_is owns =
      let not : (maybe sealing).knows s0 p.service ≡ false = not_owned _ _ (seal_apart s0 (s1, (s2, s3)) p.service) (left_knows ((maybe compartments).knows s1 p.service) _ owns) in
      left_part (maybe compartments) (both (maybe flow) (maybe heap)) CompHolds LastHold
      comp_keeps last_keep (s1, (s2, s3)) s1 (s2, s3) refl (plan_by right p) q (rest_given not) owns (q_is ∙ comp_nested p)

  -- control flow owns none
  pub flow_given : (q : Plan (Option FlowTag)) → (maybe flow).knows s2 p.service ≡ true → IsGiven (maybe flow) s2 q
  flow_given q owns = let none = flow_offers_none s2.part p.service in absurd (cc (none, owns))

  pub heap_given : (q : Plan (Option HeapTag)) → q ≡ plan_by (λ (t : AllTag). t.1.1.1) p → (maybe heap).knows s3 p.service ≡ true → IsGiven (maybe heap) s3 q
  heap_given q q_is owns =
      let last : (both (maybe flow) (maybe heap)).knows (s2, s3) p.service ≡ true = right_knows ((maybe flow).knows s2 p.service) _ owns in
      let nor : (maybe compartments).knows s1 p.service ≡ false = not_owned _ _ (comp_apart s1 (s2, s3) p.service) last in
      let not : (maybe sealing).knows s0 p.service ≡ false =
      not_owned _ _ (seal_apart s0 (s1, (s2, s3)) p.service) (right_knows ((maybe compartments).knows s1 p.service) _ last) in
      right_part (maybe flow) (maybe heap) FlowHolds HeapHolds
      flow_keeps heap_keeps (s2, s3) s2 s3 refl (plan_by right (plan_by right p)) q (last_given not nor) (flow_offers_none s2.part p.service) (q_is ∙ heap_nested p)

  -- a service that is known to no other is the heap's
  pub heap_owns : (maybe sealing).knows s0 p.service ≡ false → (maybe compartments).knows s1 p.service ≡ false → (maybe flow).knows s2 p.service ≡ false → (maybe heap).knows s3 p.service ≡ true
  heap_owns not nor none =
      last_knows _ _ _ _ (subst (λ (t : AllState). all.knows t p.service ≡ true) (sym is) given.can.known) not nor none

-- ---- commits taken back

module _ (s : AllState) (s0 : Maybe ℕ) (s1 : Maybe CompartmentState) (s2 : Maybe (List (ℕ × ℕ))) (s3 : Maybe HeapState) (is : (s0, (s1, (s2, s3))) ≡ s)
    (p : Plan AllTag) (committed : IsCommitted all AllHold s p) where
  rest_committed : (maybe sealing).knows s0 p.service ≡ false
      → IsCommitted (both (maybe compartments) (both (maybe flow) (maybe heap))) RestHold (s1, (s2, s3)) (plan_by right p)
  rest_committed not =
      right_committed (maybe sealing) (both (maybe compartments) (both (maybe flow) (maybe heap))) SealHolds RestHold
      seal_keeps rest_keep s s0 (s1, (s2, s3)) is p (plan_by right p) committed not refl

  last_committed : (maybe sealing).knows s0 p.service ≡ false → (maybe compartments).knows s1 p.service ≡ false
      → IsCommitted (both (maybe flow) (maybe heap)) LastHold (s2, s3) (plan_by right (plan_by right p))
  last_committed not nor =
      right_committed (maybe compartments) (both (maybe flow) (maybe heap)) CompHolds LastHold
      comp_keeps last_keep (s1, (s2, s3)) s1 (s2, s3) refl (plan_by right p) (plan_by right (plan_by right p)) (rest_committed not) nor refl

  -- the plan of the owner, by its components, where no earlier one owns the service

  pub seal_committed : (q : Plan (Option SealTag)) → q ≡ plan_by (λ (t : AllTag). t.0) p → (maybe sealing).knows s0 p.service ≡ true
      → IsCommitted (maybe sealing) SealHolds s0 q
  seal_committed q q_is owns =
      left_committed (maybe sealing) (both (maybe compartments) (both (maybe flow) (maybe heap))) SealHolds RestHold
      seal_keeps rest_keep s s0 (s1, (s2, s3)) is p q committed owns q_is

  pub comp_committed : (q : Plan (Option CompartmentTag)) → q ≡ plan_by (λ (t : AllTag). t.1.0) p → (maybe sealing).knows s0 p.service ≡ false
      → (maybe compartments).knows s1 p.service ≡ true → IsCommitted (maybe compartments) CompHolds s1 q
  comp_committed q q_is not owns =
      left_committed (maybe compartments) (both (maybe flow) (maybe heap)) CompHolds LastHold
      comp_keeps last_keep (s1, (s2, s3)) s1 (s2, s3) refl (plan_by right p) q (rest_committed not) owns (q_is ∙ comp_nested p)

  -- control flow owns none
  pub flow_committed : (q : Plan (Option FlowTag)) → (maybe flow).knows s2 p.service ≡ true → IsCommitted (maybe flow) FlowHolds s2 q
  flow_committed q owns = let none = flow_offers_none s2.part p.service in absurd (cc (none, owns))

  pub heap_committed : (q : Plan (Option HeapTag)) → q ≡ plan_by (λ (t : AllTag). t.1.1.1) p → (maybe sealing).knows s0 p.service ≡ false
      → (maybe compartments).knows s1 p.service ≡ false → (maybe flow).knows s2 p.service ≡ false → IsCommitted (maybe heap) HeapHolds s3 q
  heap_committed q q_is not nor none =
      right_committed (maybe flow) (maybe heap) FlowHolds HeapHolds
      flow_keeps heap_keeps (s2, s3) s2 s3 refl (plan_by right (plan_by right p)) q (last_committed not nor) none (q_is ∙ heap_nested p)

-- ---- what is told flat is told

abbrev nested_of : TagParts → AllTag
nested_of t = (t.seal, (t.comp, (t.flow, t.heap)))

told_tag : {E : Type 0} (x y : Result AllTag E) → ok_by parts_of x ≡ ok_by parts_of y → x ≡ y
told_tag x y same = sym (again x) ∙ (ap (ok_by nested_of) same ∙ again y)
  where
    again : {E : Type 0} (x : Result AllTag E) → ok_by nested_of (ok_by parts_of x) ≡ x
    again (Ok x) = refl
    again (Err e) = refl

told_plan : (x y : Result (Plan AllTag) PlanEnd) → ok_by (plan_by parts_of) x ≡ ok_by (plan_by parts_of) y → x ≡ y
told_plan x y same = sym (again x) ∙ (ap (ok_by (plan_by nested_of)) same ∙ again y)
  where
    answer_again : (x : Option (Answer AllTag)) → option_map (answer_by nested_of) (option_map (answer_by parts_of) x) ≡ x
    answer_again None = refl
    answer_again (Some x) = refl

    with_answer : Plan AllTag → Option (Answer AllTag) → Result (Plan AllTag) PlanEnd
    with_answer p answer = Ok (record p { answer = answer })

    again : (x : Result (Plan AllTag) PlanEnd) → ok_by (plan_by nested_of) (ok_by (plan_by parts_of) x) ≡ x
    again (Ok p) = ap (with_answer p) (answer_again p.answer)
    again (Err e) = refl

-- ---- a service's arguments are lent, and then it is planned

abbrev Lent : Type 0
Lent = Result (Unit {0}) PlanEnd

abbrev lent_in_a_row : Lent → Lent → Lent → Lent → Lent
lent_in_a_row a b c d = a >>= λ x. b >>= λ y. c >>= λ z. d

-- where the first three lend, the last decides
pub lent_last : (a b c d : Lent) (x y z : Unit {0}) → a ≡ Ok x → b ≡ Ok y → c ≡ Ok z → d ≡ lent_in_a_row a b c d
lent_last a b c d x y z a_lends b_lends c_lends = λ i. lent_in_a_row (sym a_lends i) (sym b_lends i) (sym c_lends i) d

-- what declines is the plan's end
pub plan_unlent : (lent : Lent) (e : PlanEnd) → lent ≡ Err e → (f : Unit {0} → Result (Plan TagParts) PlanEnd) (r : Result (Plan AllTag) PlanEnd) → r ≡ Err e
    → ok_by (plan_by parts_of) r ≡ (lent >>= f)
plan_unlent lent e declines f r r_is = ap (ok_by (plan_by parts_of)) r_is ∙ sym (ap (λ (l : Lent). l >>= f) declines)

-- what is lent is planned
pub plan_lent : (lent : Lent) (u : Unit {0}) → lent ≡ Ok u → (q : Result (Plan TagParts) PlanEnd) → q ≡ (lent >>= λ each. q)
plan_lent lent u lends q = sym (ap (λ (l : Lent). l >>= λ each. q) lends)

-- what is lent, and then the owner's plan, is the plan
pub plan_told : (s : AllState) (k : ℕ) (a : Args AllTag) (pc : AllTag) → all.knows s k ≡ true → (lent : Result (Unit {0}) PlanEnd) → lent ≡ all_lent (parts_of s) k (args_by parts_of a)
    → (r : Result (Plan AllTag) PlanEnd) → ok_by (plan_by parts_of) r ≡ (lent >>= λ each. all_owner_plan (parts_of s) k (args_by parts_of a) (parts_of pc)) → r ≡ all.plan s k a pc
plan_told s k a pc known lent lent_is r r_is =
    told_plan r (all.plan s k a pc)
    (r_is ∙ (ap (λ (l : Result (Unit {0}) PlanEnd). l >>= λ each. all_owner_plan (parts_of s) k (args_by parts_of a) (parts_of pc)) lent_is ∙ sym (all_told_flat.plan s k a pc known)))

module _ (s : AllState) (s0 : Maybe ℕ) (s1 : Maybe CompartmentState) (s2 : Maybe (List (ℕ × ℕ))) (s3 : Maybe HeapState) (is : (s0, (s1, (s2, s3))) ≡ s)
    (k uses : ℕ) (arguments : Args AllTag) (uses_is : uses ≡ all.uses s k) where
  -- the first of the four that declines is the one that declines
  pub lent_told : (a b c d : Lent)
      → a ≡ lent_to_others (maybe sealing) s0 k uses (args_by (λ (t : AllTag). t.0) arguments) → b ≡ lent_to_others (maybe compartments) s1 k uses (args_by (λ (t : AllTag). t.1.0) arguments)
      → c ≡ lent_to_others (maybe flow) s2 k uses (args_by (λ (t : AllTag). t.1.1.0) arguments) → d ≡ lent_to_others (maybe heap) s3 k uses (args_by (λ (t : AllTag). t.1.1.1) arguments)
      → (r : Lent) → r ≡ lent_in_a_row a b c d → r ≡ all_lent (parts_of s) k (args_by parts_of arguments)
  lent_told a b c d a_is b_is c_is d_is r r_is =
      let told : r ≡ flat_lent (maybe sealing) (maybe compartments) (maybe flow) (maybe heap) (parts_of (s0, (s1, (s2, s3)))) k uses (args_by parts_of arguments) =
      r_is ∙ (λ i. lent_in_a_row (a_is i) (b_is i) (c_is i) (d_is i)) in
      told
      ∙ (λ i. flat_lent (maybe sealing) (maybe compartments) (maybe flow) (maybe heap) (parts_of (is i)) k (uses_is i) (args_by parts_of arguments))

module _ (s : AllState) (s0 : Maybe ℕ) (s1 : Maybe CompartmentState) (s2 : Maybe (List (ℕ × ℕ))) (s3 : Maybe HeapState) (is : (s0, (s1, (s2, s3))) ≡ s)
    (p : Plan AllTag) (old : AllTag) (given : IsGiven all s p) where
  -- the four new tags of a word are its new tag
  pub retag_told : (a : Result (Option SealTag) Refused) (b : Result (Option CompartmentTag) Refused) (c : Result (Option FlowTag) Refused) (d : Result (Option HeapTag) Refused)
      → a ≡ word_tag (maybe sealing) s0 (plan_by (λ (t : AllTag). t.0) p) old.0 → b ≡ word_tag (maybe compartments) s1 (plan_by (λ (t : AllTag). t.1.0) p) old.1.0
      → c ≡ word_tag (maybe flow) s2 (plan_by (λ (t : AllTag). t.1.1.0) p) old.1.1.0 → d ≡ word_tag (maybe heap) s3 (plan_by (λ (t : AllTag). t.1.1.1) p) old.1.1.1
      → (r : Result AllTag Refused) → ok_by parts_of r ≡ in_a_row a b c d → r ≡ all.retag s p old
  retag_told a b c d a_is b_is c_is d_is r r_is =
      let known : all.knows (s0, (s1, (s2, s3))) p.service ≡ true = subst (λ (t : AllState). all.knows t p.service ≡ true) (sym is) given.can.known in
      let a_told = a_is ∙ ap (λ (q : Plan (Option SealTag)). word_tag (maybe sealing) s0 q old.0) (sym (seal_told p)) in
      let b_told = b_is ∙ ap (λ (q : Plan (Option CompartmentTag)). word_tag (maybe compartments) s1 q old.1.0) (sym (comp_told p)) in
      let c_told = c_is ∙ ap (λ (q : Plan (Option FlowTag)). word_tag (maybe flow) s2 q old.1.1.0) (sym (flow_told p)) in
      let d_told = d_is ∙ ap (λ (q : Plan (Option HeapTag)). word_tag (maybe heap) s3 q old.1.1.1) (sym (heap_told p)) in
      let told : ok_by parts_of r ≡ ok_by parts_of (all.retag (s0, (s1, (s2, s3))) p old) =
      r_is ∙ ((λ i. in_a_row (a_told i) (b_told i) (c_told i) (d_told i)) ∙ sym (all_told_flat.retag (s0, (s1, (s2, s3))) p old known)) in
      told_tag r (all.retag (s0, (s1, (s2, s3))) p old) told ∙ ap (λ t. all.retag t p old) is
