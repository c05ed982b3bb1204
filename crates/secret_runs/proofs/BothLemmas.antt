-- Two policies as one, of which the right one hides what its tags call secret: so does the pair, whatever the left one is.
use Rattle.std.proofs.Common.{◌≡◌, ℕ, nat_le, Bool, true, false, ◌||◌, Option, Some, None, option_map, Result, Ok, Err, IsTrue, refl, sym, ap, ◌∙◌, subst, if◌then◌else◌}
use Rattle.std.proofs.lemmas.Bool.{le-leb}
use Rattle.shared_terms.specs.Steps.{◌>>=◌}
use Rattle.rv_decode.specs.declared.groups.Group.{Group}
use Rattle.policy_trait.specs.Maps.{answer_by, args_by, ins_by, ok_by, plan_by}
use Rattle.policy_trait.specs.Model.{PolicyModel}
use Rattle.policy_trait.specs.PolicyLaws.{AgreesOnUsed, KeepsLaws}
use Rattle.policy_trait.specs.declared.rules.Ins.{Ins}
use Rattle.policy_trait.specs.declared.rules.Outs.{Outs}
use Rattle.policy_trait.specs.declared.rules.Part.{Part}
use Rattle.policy_trait.specs.declared.rules.Refused.{Refused}
use Rattle.policy_trait.specs.declared.rules.Shape.{Shape}
use Rattle.policy_trait.specs.declared.services.Answer.{Answer}
use Rattle.policy_trait.specs.declared.services.Args.{Args}
use Rattle.policy_trait.specs.declared.services.Plan.{Plan}
use Rattle.policy_trait.specs.declared.services.PlanEnd.{PlanEnd}
use Rattle.policy_product.specs.Both.{answer_before, beside_left, beside_right, both, both_ignore, both_outs, first_declined, left, lending_of, lent_if, lent_to_left, plan_of_left, plan_of_right, rest_tag, retag_of_left, retag_of_right, right, tag_beside, tags_alone}
use Rattle.secret_runs.specs.Hides.{AlikeAnswers, AlikeArgs, AlikePlans, ComesOfOpen, Hides, OkBy}

-- where two steps are both good
then_ok : {A E : Type 0} (first : Result (Unit {0}) E) (second : Result A E) (x : A) → (first >>= λ seen. second) ≡ Ok x → second ≡ Ok x
then_ok (Ok seen) second x e = e
then_ok (Err why) second x e = absurd cc

module _ {T U S R : Type 0} (m : PolicyModel T S) (n : PolicyModel U R) (holds : S → Type 0) (laws : KeepsLaws m holds)
    (is_open : U → Bool) (like : R → R → Type 0) (kin : R → Plan U → Plan U → Type 0) (hides : Hides is_open n like kin) where
  -- a pair is as open as its right tag
  abbrev pub opens : T × U → Bool
  opens tag = is_open tag.1

  -- the left values are the same, the right ones alike
  abbrev pub Alike : S × R → S × R → Type 0
  Alike s t = (t.0 ≡ s.0) × like s.1 t.1

  -- plans that differ in their answer's secret value alone: one of the left policy's services in nothing
  pub record AlikePairs (s : S × R) (p q : Plan (T × U)) : Type 0 where
    pub plans : AlikePlans opens p q
    pub owned : m.knows s.0 p.service ≡ true → q ≡ p
    pub other : m.knows s.0 p.service ≡ false → kin s.1 (plan_by right p) (plan_by right q)

  -- what holds beside the same left value holds of two that are alike
  paired : (P : S × R → S × R → Type 0) → ((x : S) (r q : R) → like r q → P (x, r) (x, q)) → (s t : S × R) → Alike s t → P s t
  paired P given s t alike = subst (λ (y : S). P s (y, t.1)) (sym alike.0) (given s.0 s.1 t.1 alike.1)

  -- ---- the rule

  ruled_by : (x : Result (Outs T) Refused) (y : Result (Outs U) Refused) (outs : Outs (T × U)) → (x >>= λ first. y >>= λ second. Ok (both_outs first second)) ≡ Ok outs
      → (second : Outs U) × ((y ≡ Ok second) × (outs.result.1 ≡ second.result))
  ruled_by (Ok first) (Ok second) outs e =
      (second, (refl, let same : both_outs first second ≡ outs = cc in sym (ap (λ (o : Outs (T × U)). o.result.1) same)))
  ruled_by (Ok first) (Err why) outs e = absurd cc
  ruled_by (Err why) y outs e = absurd cc

  results : (s t : S × R) → Alike s t → (g : Group) (x : Ins (T × U)) (outs : Outs (T × U)) → (both m n).rule s g x ≡ Ok outs → ComesOfOpen opens g x outs
  results s t alike g x outs ruled =
      let given = ruled_by (m.rule s.0 g (ins_by left x)) (n.rule s.1 g (ins_by right x)) outs ruled in
      let comes = hides.results s.1 t.1 alike.1 g (ins_by right x) given.0 given.1.0 in
      let opened = subst (λ tag. is_open tag ≡ true) given.1.1 in
      record {
        first = λ clear from. comes.first (opened clear) from;
        second = λ clear from. comes.second (opened clear) from;
        word = λ clear from. comes.word (opened clear) from;
        told = comes.told;
      }

  -- ---- the words of a service

  left_word : (x : Result T Refused) (y : Result U Refused) (new : T × U) → (x >>= λ a. y >>= λ b. Ok (a, b)) ≡ Ok new → y ≡ Ok new.1
  left_word (Ok a) (Ok b) new e = let same : (a, b) ≡ new = cc in ap (λ (tag : T × U). Ok tag.1) same
  left_word (Ok a) (Err why) new e = absurd cc
  left_word (Err why) y new e = absurd cc

  kept_right : (s : R) (zero : Bool) (pc old new : U) → tag_beside n s zero pc old ≡ Ok new → zero ≡ false → is_open new ≡ true → is_open old ≡ true
  kept_right s false pc old new e is clear = let same : old ≡ new = cc in subst (λ tag. is_open tag ≡ true) (sym same) clear
  kept_right s true pc old new e is clear = absurd cc

  stays_by : (owns : Bool) (s t : S × R) → Alike s t → (p : Plan (T × U)) (old new : T × U)
      → (if owns then retag_of_left m n s p old else retag_of_right m n s p old) ≡ Ok new → p.zero ≡ false → is_open new.1 ≡ true → is_open old.1 ≡ true
  stays_by true s t alike p old new e zero clear =
      kept_right s.1 p.zero p.pc.1 old.1 new.1 (left_word (m.retag s.0 (plan_by left p) old.0) (tag_beside n s.1 p.zero p.pc.1 old.1) new e) zero clear
  stays_by false s t alike p old new e zero clear =
      hides.stays_hidden s.1 t.1 alike.1 (plan_by right p) old.1 new.1
      (left_word (tag_beside m s.0 p.zero p.pc.0 old.0) (n.retag s.1 (plan_by right p) old.1) new e) zero clear

  -- ---- arguments that were lent to the left policy's service agree where it uses them

  lent_ok : (x y z : Result (Unit {0}) PlanEnd) → (x >>= λ a. y >>= λ b. z) ≡ Ok tt → (x ≡ Ok tt) × ((y ≡ Ok tt) × (z ≡ Ok tt))
  lent_ok (Ok a) (Ok b) (Ok c) e = (refl, (refl, refl))
  lent_ok (Ok a) (Ok b) (Err why) e = absurd cc
  lent_ok (Ok a) (Err why) z e = absurd cc
  lent_ok (Err why) y z e = absurd cc

  lent_open : (s t : R) → like s t → (used : Bool) (tag : U) → lent_if (n.lend s) used tag ≡ Ok tt → used ≡ true → is_open tag ≡ true
  lent_open s t alike true tag lent is = hides.lends_open s t alike tag (by (n.lend s tag) refl lent)
    where
      by : (answer : Result (Unit {0}) Part) → n.lend s tag ≡ answer → lent_if (λ other. answer) true tag ≡ Ok tt → n.lend s tag ≡ Ok tt
      by (Ok x) is lent = is
      by (Err part) is lent = absurd cc
  lent_open s t alike false tag lent is = absurd cc

  agrees : (s t : R) → like s t → (uses : ℕ) (a b : Args (T × U)) → AlikeArgs opens a b → lending_of (n.lend s) uses (args_by right a) ≡ Ok tt → AgreesOnUsed uses (args_by left a) (args_by left b)
  agrees s t alike uses a b args lent =
      let each = lent_ok (lent_if (n.lend s) (nat_le 1 uses) a.t0.1) (lent_if (n.lend s) (nat_le 2 uses) a.t1.1) (lent_if (n.lend s) (nat_le 3 uses) a.t2.1) lent in
      record {
        a0 = λ used. sym (args.a0 (lent_open s t alike (nat_le 1 uses) a.t0.1 each.0 (le-leb 1 uses used)));
        t0 = λ used. sym (ap left args.t0);
        a1 = λ used. sym (args.a1 (lent_open s t alike (nat_le 2 uses) a.t1.1 each.1.0 (le-leb 2 uses used)));
        t1 = λ used. sym (ap left args.t1);
        a2 = λ used. sym (args.a2 (lent_open s t alike (nat_le 3 uses) a.t2.1 each.1.1 (le-leb 3 uses used)));
        t2 = λ used. sym (ap left args.t2);
        ram = sym args.ram;
      }

  -- ---- plans

  is_true : (known : Bool) → known ≡ true → IsTrue known
  is_true known is = is

  not_both : {A : Type 0} (known : Bool) → known ≡ true → known ≡ false → A
  not_both true is other = absurd (let h : true ≡ false = other in cc)
  not_both false is other = absurd (let h : false ≡ true = is in cc)

  same_answers : (answer : Option (Answer (T × U))) → AlikeAnswers opens answer answer
  same_answers None = tt
  same_answers (Some x) = (refl, (refl, λ clear. refl))

  same_plans : (p : Plan (T × U)) → AlikePlans opens p p
  same_plans p = record { same = refl; answer = same_answers p.answer }

  lend_same : (r q : R) → like r q → (used : Bool) (x y : U) → y ≡ x → lent_if (n.lend q) used y ≡ lent_if (n.lend r) used x
  lend_same r q alike false x y same = refl
  lend_same r q alike true x y same = ap (λ answer. lent_if (λ (tag : U). answer) true x) (ap (n.lend q) same ∙ hides.lend r q alike x)

  lending_same : (r q : R) → like r q → (uses : ℕ) (a b : Args (T × U)) → AlikeArgs opens a b → lending_of (n.lend q) uses (args_by right b) ≡ lending_of (n.lend r) uses (args_by right a)
  lending_same r q alike uses a b args = λ i.
      lend_same r q alike (nat_le 1 uses) a.t0.1 b.t0.1 (ap right args.t0) i
      >>= λ first. lend_same r q alike (nat_le 2 uses) a.t1.1 b.t1.1 (ap right args.t1) i
      >>= λ second. lend_same r q alike (nat_le 3 uses) a.t2.1 b.t2.1 (ap right args.t2) i

  -- where the tags alone are left, they are the same
  tags_same : (a b : Args (T × U)) → AlikeArgs opens a b → tags_alone (args_by left b) ≡ tags_alone (args_by left a)
  tags_same a b args = λ i. record {
    a0 = 0;
    a1 = 0;
    a2 = 0;
    t0 = left (args.t0 i);
    t1 = left (args.t1 i);
    t2 = left (args.t2 i);
    ram = args.ram i;
  }

  -- so the same part declines first
  left_lent_same : (x : S) (r q : R) → like r q → (k : ℕ) (a b : Args (T × U)) (pc : T × U) → AlikeArgs opens a b
      → lent_to_left m n (x, q) k b pc.0 ≡ lent_to_left m n (x, r) k a pc.0
  left_lent_same x r q alike k a b pc args = λ i. first_declined (lending_same r q alike (m.uses x k) a b args i) (m.plan x k (tags_same a b args i) pc.0)

  -- what no part declines the right policy lends
  lent_beside : (beside : Result (Unit {0}) PlanEnd) (own : Result (Plan T) PlanEnd) → first_declined beside own ≡ Ok tt → beside ≡ Ok tt
  lent_beside (Ok lent) own e = refl
  lent_beside (Err why) (Ok plan) e = absurd cc
  lent_beside (Err why) (Err end) e = absurd cc

  -- the plan of a service that the left policy owns is the same: its arguments were lent
  left_planned : (x : S) (r q : R) → like r q → (k : ℕ) (a b : Args (T × U)) (pc : T × U) → IsTrue (m.knows x k) → AlikeArgs opens a b
      → plan_of_left m n (x, q) k b pc ≡ plan_of_left m n (x, r) k a pc
  left_planned x r q alike k a b pc known args =
      ap (λ lent. lent >>= λ all. ok_by (beside_right pc.1 (n.plain q) b.t0.1) (m.plan x k (args_by left b) pc.0)) (left_lent_same x r q alike k a b pc args)
      ∙ by (lent_to_left m n (x, r) k a pc.0) refl
    where
      by : (lent : Result (Unit {0}) PlanEnd) → lent_to_left m n (x, r) k a pc.0 ≡ lent
          → (lent >>= λ all. ok_by (beside_right pc.1 (n.plain q) b.t0.1) (m.plan x k (args_by left b) pc.0))
          ≡ (lent >>= λ all. ok_by (beside_right pc.1 (n.plain r) a.t0.1) (m.plan x k (args_by left a) pc.0))
      by (Ok all) is =
          let lent = lent_beside (lending_of (n.lend r) (m.uses x k) (args_by right a)) (m.plan x k (tags_alone (args_by left a)) pc.0) is in
          let unused = laws.unused x k (args_by left a) (args_by left b) pc.0 known (agrees r q alike (m.uses x k) a b args lent) in
          λ i. ok_by (beside_right pc.1 (hides.plain r q alike i) (ap right args.t0 i)) (sym unused i)
      by (Err why) is = refl

  left_kin : (x : S) (r : R) (plan : Result (Plan (T × U)) PlanEnd) → ((p : Plan (T × U)) → plan ≡ Ok p → m.knows x p.service ≡ true) → OkBy (AlikePairs (x, r)) plan plan
  left_kin x r (Ok p) owned = record { plans = same_plans p; owned = λ is. refl; other = λ is. not_both (m.knows x p.service) (owned p refl) is }
  left_kin x r (Err why) owned = refl

  -- the service of such a plan is the left policy's
  left_serves : (x : S) (r : R) (k : ℕ) (a : Args (T × U)) (pc : T × U) → m.knows x k ≡ true → (p : Plan (T × U)) → plan_of_left m n (x, r) k a pc ≡ Ok p → m.knows x p.service ≡ true
  left_serves x r k a pc known p planned = by (lent_to_left m n (x, r) k a pc.0) (m.plan x k (args_by left a) pc.0) refl planned
    where
      by : (lent : Result (Unit {0}) PlanEnd) (given : Result (Plan T) PlanEnd) → m.plan x k (args_by left a) pc.0 ≡ given
          → (lent >>= λ all. ok_by (beside_right pc.1 (n.plain r) a.t0.1) given) ≡ Ok p → m.knows x p.service ≡ true
      by (Ok all) (Ok left_plan) is planned =
          let same : beside_right pc.1 (n.plain r) a.t0.1 left_plan ≡ p = cc in
          let number : left_plan.service ≡ k = laws.service x k (args_by left a) pc.0 left_plan (is_true (m.knows x k) known) is in
          ap (m.knows x) (sym (ap (λ (plan : Plan (T × U)). plan.service) same) ∙ number) ∙ known
      by (Ok all) (Err why) is planned = absurd cc
      by (Err why) given is planned = absurd cc

  -- ---- a service of the right policy: the left one lends it the same tags

  left_lends : (x : S) (used : Bool) (a b : T) → b ≡ a → lent_if (m.lend x) used b ≡ lent_if (m.lend x) used a
  left_lends x used a b same = ap (lent_if (m.lend x) used) same

  right_args : (a b : Args (T × U)) → AlikeArgs opens a b → AlikeArgs is_open (args_by right a) (args_by right b)
  right_args a b args = record {
    t0 = ap right args.t0;
    t1 = ap right args.t1;
    t2 = ap right args.t2;
    ram = args.ram;
    a0 = args.a0;
    a1 = args.a1;
    a2 = args.a2;
  }

  before_alike : (plain a0 : T) (x y : Option (Answer U)) → AlikeAnswers is_open x y → AlikeAnswers opens (option_map (answer_before plain a0) x) (option_map (answer_before plain a0) y)
  before_alike plain a0 None None answers = tt
  before_alike plain a0 (Some x) (Some y) answers = (λ i. (rest_tag (answers.1.0 i) plain a0, answers.0 i), (answers.1.0, answers.1.1))
  before_alike plain a0 None (Some y) answers = absurd answers
  before_alike plain a0 (Some x) None answers = absurd answers

  right_plans : (pc plain a0 : T) (p q : Plan U) → AlikePlans is_open p q → AlikePlans opens (beside_left pc plain a0 p) (beside_left pc plain a0 q)
  right_plans pc plain a0 p q plans = record {
    same = λ i. record {
      service = (plans.same i).service;
      pc = (pc, (plans.same i).pc);
      note = q.note;
      range = (plans.same i).range;
      zero = (plans.same i).zero;
      answer = option_map (answer_before plain a0) q.answer;
    };
    answer = before_alike plain a0 p.answer q.answer plans.answer;
  }

  -- the right policy's part of such a plan is the plan itself
  seen_right : (pc plain a0 : T) (p : Plan U) → plan_by right (beside_left pc plain a0 p) ≡ p
  seen_right pc plain a0 p = λ i. record p { answer = by p.answer i }
    where
      by : (answer : Option (Answer U)) → option_map (answer_by right) (option_map (answer_before plain a0) answer) ≡ answer
      by None = refl
      by (Some x) = refl

  right_kin : (x : S) (r : R) (k : ℕ) (pc plain a0 : T) → m.knows x k ≡ false → (given also : Result (Plan U) PlanEnd)
      → ((p : Plan U) → given ≡ Ok p → p.service ≡ k) → OkBy (kin r) given also
      → OkBy (AlikePairs (x, r)) (ok_by (beside_left pc plain a0) given) (ok_by (beside_left pc plain a0) also)
  right_kin x r k pc plain a0 unknown (Ok p) (Ok q) serves kins = record {
    plans = right_plans pc plain a0 p q (hides.alike_plans r p q kins);
    owned = λ is. not_both (m.knows x p.service) is (ap (m.knows x) (serves p refl) ∙ unknown);
    other = λ is. subst (λ (plan : Plan U). kin r plan (plan_by right (beside_left pc plain a0 q))) (sym (seen_right pc plain a0 p))
        (subst (λ (plan : Plan U). kin r p plan) (sym (seen_right pc plain a0 q)) kins);
  }
  right_kin x r k pc plain a0 unknown (Err why) (Err other) serves kins = kins
  right_kin x r k pc plain a0 unknown (Ok p) (Err other) serves kins = absurd kins
  right_kin x r k pc plain a0 unknown (Err why) (Ok q) serves kins = absurd kins

  right_planned : (x : S) (r q : R) → like r q → (k : ℕ) (a b : Args (T × U)) (pc : T × U) → m.knows x k ≡ false → AlikeArgs opens a b
      → OkBy (AlikePairs (x, r)) (plan_of_right m n (x, r) k a pc) (plan_of_right m n (x, q) k b pc)
  right_planned x r q alike k a b pc unknown args =
      subst (λ (other : Result (Plan (T × U)) PlanEnd). OkBy (AlikePairs (x, r)) (plan_of_right m n (x, r) k a pc) other) (sym lent_same)
      (by (lending_of (m.lend x) (n.uses r k) (args_by left a)))
    where
      lent_same : plan_of_right m n (x, q) k b pc
          ≡ (lending_of (m.lend x) (n.uses r k) (args_by left a) >>= λ all. ok_by (beside_left pc.0 (m.plain x) a.t0.0) (n.plan q k (args_by right b) pc.1))
      lent_same = λ i.
          (lent_if (m.lend x) (nat_le 1 (hides.uses r q alike k i)) (args.t0 i).0
          >>= λ first. lent_if (m.lend x) (nat_le 2 (hides.uses r q alike k i)) (args.t1 i).0
          >>= λ second. lent_if (m.lend x) (nat_le 3 (hides.uses r q alike k i)) (args.t2 i).0)
          >>= λ all. ok_by (beside_left pc.0 (m.plain x) (args.t0 i).0) (n.plan q k (args_by right b) pc.1)

      by : (lent : Result (Unit {0}) PlanEnd)
          → OkBy (AlikePairs (x, r)) (lent >>= λ all. ok_by (beside_left pc.0 (m.plain x) a.t0.0) (n.plan r k (args_by right a) pc.1))
          (lent >>= λ all. ok_by (beside_left pc.0 (m.plain x) a.t0.0) (n.plan q k (args_by right b) pc.1))
      by (Ok all) =
          right_kin x r k pc.0 (m.plain x) a.t0.0 unknown (n.plan r k (args_by right a) pc.1) (n.plan q k (args_by right b) pc.1)
          (hides.serves r k (args_by right a) pc.1) (hides.plan r q alike k (args_by right a) (args_by right b) pc.1 (right_args a b args))
      by (Err why) = refl

  planned : (x : S) (r q : R) → like r q → (k : ℕ) (a b : Args (T × U)) (pc : T × U) → AlikeArgs opens a b
      → OkBy (AlikePairs (x, r)) ((both m n).plan (x, r) k a pc) ((both m n).plan (x, q) k b pc)
  planned x r q alike k a b pc args = by (m.knows x k) refl
    where
      by : (known : Bool) → m.knows x k ≡ known
          → OkBy (AlikePairs (x, r)) (if known then plan_of_left m n (x, r) k a pc else plan_of_right m n (x, r) k a pc)
          (if known then plan_of_left m n (x, q) k b pc else plan_of_right m n (x, q) k b pc)
      by true is =
          subst (λ (other : Result (Plan (T × U)) PlanEnd). OkBy (AlikePairs (x, r)) (plan_of_left m n (x, r) k a pc) other)
          (sym (left_planned x r q alike k a b pc (is_true (m.knows x k) is) args))
          (left_kin x r (plan_of_left m n (x, r) k a pc) (left_serves x r k a pc is))
      by false is = right_planned x r q alike k a b pc is args

  -- the service of a plan, of either policy
  right_serves : (x : S) (r : R) (k : ℕ) (a : Args (T × U)) (pc : T × U) (p : Plan (T × U)) → plan_of_right m n (x, r) k a pc ≡ Ok p → p.service ≡ k
  right_serves x r k a pc p planned = by (lending_of (m.lend x) (n.uses r k) (args_by left a)) (n.plan r k (args_by right a) pc.1) refl planned
    where
      by : (lent : Result (Unit {0}) PlanEnd) (given : Result (Plan U) PlanEnd) → n.plan r k (args_by right a) pc.1 ≡ given
          → (lent >>= λ all. ok_by (beside_left pc.0 (m.plain x) a.t0.0) given) ≡ Ok p → p.service ≡ k
      by (Ok all) (Ok right_plan) is planned =
          let same : beside_left pc.0 (m.plain x) a.t0.0 right_plan ≡ p = cc in
          sym (ap (λ (plan : Plan (T × U)). plan.service) same) ∙ hides.serves r k (args_by right a) pc.1 right_plan is
      by (Ok all) (Err why) is planned = absurd cc
      by (Err why) given is planned = absurd cc

  left_number : (x : S) (r : R) (k : ℕ) (a : Args (T × U)) (pc : T × U) → m.knows x k ≡ true → (p : Plan (T × U)) → plan_of_left m n (x, r) k a pc ≡ Ok p → p.service ≡ k
  left_number x r k a pc known p planned = by (lent_to_left m n (x, r) k a pc.0) (m.plan x k (args_by left a) pc.0) refl planned
    where
      by : (lent : Result (Unit {0}) PlanEnd) (given : Result (Plan T) PlanEnd) → m.plan x k (args_by left a) pc.0 ≡ given
          → (lent >>= λ all. ok_by (beside_right pc.1 (n.plain r) a.t0.1) given) ≡ Ok p → p.service ≡ k
      by (Ok all) (Ok left_plan) is planned =
          let same : beside_right pc.1 (n.plain r) a.t0.1 left_plan ≡ p = cc in
          sym (ap (λ (plan : Plan (T × U)). plan.service) same) ∙ laws.service x k (args_by left a) pc.0 left_plan (is_true (m.knows x k) known) is
      by (Ok all) (Err why) is planned = absurd cc
      by (Err why) given is planned = absurd cc

  serves : (s : S × R) (k : ℕ) (a : Args (T × U)) (pc : T × U) (p : Plan (T × U)) → (both m n).plan s k a pc ≡ Ok p → p.service ≡ k
  serves s k a pc p = by (m.knows s.0 k) refl
    where
      by : (known : Bool) → m.knows s.0 k ≡ known → (if known then plan_of_left m n s k a pc else plan_of_right m n s k a pc) ≡ Ok p → p.service ≡ k
      by true is planned = left_number s.0 s.1 k a pc is p planned
      by false is planned = right_serves s.0 s.1 k a pc p planned

  -- ---- what a plan does

  retagged : (x : S) (r q : R) → like r q → (p p' : Plan (T × U)) (old : T × U) → AlikePairs (x, r) p p' → (both m n).retag (x, q) p' old ≡ (both m n).retag (x, r) p old
  retagged x r q alike p p' old pair =
      ap (λ (number : ℕ). if m.knows x number then retag_of_left m n (x, q) p' old else retag_of_right m n (x, q) p' old) (ap (λ (plan : Plan (T × U)). plan.service) pair.plans.same)
      ∙ by (m.knows x p.service) refl
    where
      by : (known : Bool) → m.knows x p.service ≡ known
          → (if known then retag_of_left m n (x, q) p' old else retag_of_right m n (x, q) p' old) ≡ (if known then retag_of_left m n (x, r) p old else retag_of_right m n (x, r) p old)
      by true is =
          ap (λ (plan : Plan (T × U)). retag_of_left m n (x, q) plan old) (pair.owned is)
          ∙ ap (λ (beside : Result U Refused). m.retag x (plan_by left p) old.0 >>= λ first. beside >>= λ second. Ok (first, second)) (wiped p.zero)
        where
          wiped : (zeroes : Bool) → tag_beside n q zeroes p.pc.1 old.1 ≡ tag_beside n r zeroes p.pc.1 old.1
          wiped true = hides.wipe r q alike p.pc.1 old.1
          wiped false = refl
      by false is = λ i.
          tag_beside m x (pair.plans.same i).zero (pair.plans.same i).pc.0 old.0
          >>= λ first. hides.retag r q alike (plan_by right p) (plan_by right p') old.1 (pair.other is) i >>= λ second. Ok (first, second)

  committed : (x : S) (r q : R) → like r q → (p p' : Plan (T × U)) → AlikePairs (x, r) p p' → Alike ((both m n).commit (x, r) p) ((both m n).commit (x, q) p')
  committed x r q alike p p' pair =
      subst (λ (number : ℕ). Alike ((both m n).commit (x, r) p) (if m.knows x number then (m.commit x (plan_by left p'), q) else (x, n.commit q (plan_by right p'))))
      (sym (ap (λ (plan : Plan (T × U)). plan.service) pair.plans.same)) (by (m.knows x p.service) refl)
    where
      by : (known : Bool) → m.knows x p.service ≡ known
          → Alike (if known then (m.commit x (plan_by left p), r) else (x, n.commit r (plan_by right p)))
          (if known then (m.commit x (plan_by left p'), q) else (x, n.commit q (plan_by right p')))
      by true is = (ap (λ (plan : Plan (T × U)). m.commit x (plan_by left plan)) (pair.owned is), alike)
      by false is = (refl, hides.commit r q alike (plan_by right p) (plan_by right p') (pair.other is))

  -- ---- the pair

  pub both_hides : Hides opens (both m n) Alike AlikePairs
  both_hides = record {
    first_open = λ s t alike shape x y seen. hides.first_open s.1 t.1 alike.1 shape x.1 y.1 (then_ok (m.peek s.0 shape x.0 y.0) (n.peek s.1 shape x.1 y.1) tt seen);
    second_open = λ s t alike shape x y seen. hides.second_open s.1 t.1 alike.1 shape x.1 y.1 (then_ok (m.peek s.0 shape x.0 y.0) (n.peek s.1 shape x.1 y.1) tt seen);
    results = results;
    stays_hidden = λ s t alike p old new. stays_by (m.knows s.0 p.service) s t alike p old new;
    plain = paired (λ s t. (both m n).plain t ≡ (both m n).plain s) (λ x r q alike. ap (λ (tag : U). (m.plain x, tag)) (hides.plain r q alike));
    rule = paired (λ s t. (g : Group) (x : Ins (T × U)) → (both m n).rule t g x ≡ (both m n).rule s g x)
        (λ y r q alike g x. ap (λ (answer : Result (Outs U) Refused). m.rule y g (ins_by left x) >>= λ first. answer >>= λ second. Ok (both_outs first second)) (hides.rule r q alike g (ins_by right x)));
    ignores = paired (λ s t. (g : Group) → (both m n).ignores t g ≡ (both m n).ignores s g) (λ x r q alike g. ap (both_ignore (m.ignores x g)) (hides.ignores r q alike g));
    peek = paired (λ s t. (shape : Shape) (x y : T × U) → (both m n).peek t shape x y ≡ (both m n).peek s shape x y)
        (λ z r q alike shape x y. ap (λ (answer : Result (Unit {0}) Refused). m.peek z shape x.0 y.0 >>= λ seen. answer) (hides.peek r q alike shape x.1 y.1));
    knows = paired (λ s t. (k : ℕ) → (both m n).knows t k ≡ (both m n).knows s k) (λ x r q alike k. ap (λ (known : Bool). m.knows x k || known) (hides.knows r q alike k));
    uses = paired (λ s t. (k : ℕ) → (both m n).uses t k ≡ (both m n).uses s k) (λ x r q alike k. ap (λ (count : ℕ). if m.knows x k then m.uses x k else count) (hides.uses r q alike k));
    lend = paired (λ s t. (tag : T × U) → (both m n).lend t tag ≡ (both m n).lend s tag)
        (λ x r q alike tag. ap (λ (answer : Result (Unit {0}) Part). m.lend x tag.0 >>= λ first. answer) (hides.lend r q alike tag.1));
    lends_open = λ s t alike tag lent. hides.lends_open s.1 t.1 alike.1 tag.1 (then_ok (m.lend s.0 tag.0) (n.lend s.1 tag.1) tt lent);
    wipe = paired (λ s t. (pc old : T × U) → (both m n).wipe t pc old ≡ (both m n).wipe s pc old)
        (λ x r q alike pc old. ap (λ (answer : Result U Refused). m.wipe x pc.0 old.0 >>= λ first. answer >>= λ second. Ok (first, second)) (hides.wipe r q alike pc.1 old.1));
    serves = serves;
    alike_plans = λ s p q pair. pair.plans;
    plan = paired (λ s t. (k : ℕ) (a b : Args (T × U)) (pc : T × U) → AlikeArgs opens a b → OkBy (AlikePairs s) ((both m n).plan s k a pc) ((both m n).plan t k b pc)) planned;
    retag = paired (λ s t. (p q : Plan (T × U)) (old : T × U) → AlikePairs s p q → (both m n).retag t q old ≡ (both m n).retag s p old) retagged;
    commit = paired (λ s t. (p q : Plan (T × U)) → AlikePairs s p q → Alike ((both m n).commit s p) ((both m n).commit t q)) committed;
  }
