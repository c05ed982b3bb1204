-- Two policies that keep the laws keep them as one.
use Rattle.std.proofs.Common.{◌≡◌, ℕ, ◌^◌, ◌<◌, ◌≤◌, nat_le, Bool, true, false, ◌&&◌, ◌||◌, List, Option, Some, None, Result, Ok, Err, IsTrue, OnErr, OnOk, max, option_map, refl, sym, ap, ◌∙◌, subst, if◌then◌else◌, arith}
use Rattle.std.proofs.lemmas.Bool.{leb-true}
use Rattle.std.proofs.lemmas.Option.{same_Some}
use Rattle.std.specs.Option.{ForSome}
use Rattle.std.proofs.Math.Nat.{le-max_left, le-max_right}
use Rattle.rv_decode.specs.declared.groups.Group.{Group}
use Rattle.policy_trait.specs.PolicyLaws.{AgreesOnUsed, AreWords, HasWord, IsRange, KeepsLaws, KeepsValue, SameRules}
use Rattle.policy_trait.specs.UseLaws.{agrees_by, rule_by_key, uses_a0, words_by}
use Rattle.policy_trait.specs.Maps.{answer_by, args_by, ins_by, ok_by, plan_by}
use Rattle.policy_trait.specs.Model.{CanPlan, IsCommitted, IsGiven, PolicyModel, masked_inputs}
use Rattle.shared_terms.specs.Steps.{◌>>=◌}
use Rattle.shared_terms.proofs.StepLemmas.{on_ok}
use Rattle.policy_trait.specs.declared.rules.Ins.{Ins}
use Rattle.policy_trait.specs.declared.rules.Outs.{Outs}
use Rattle.policy_trait.specs.declared.rules.Part.{Part}
use Rattle.policy_trait.specs.declared.rules.Refused.{Refused}
use Rattle.policy_trait.specs.declared.rules.Shape.{Shape}
use Rattle.policy_trait.specs.declared.services.Answer.{Answer}
use Rattle.policy_trait.specs.declared.services.Args.{Args}
use Rattle.policy_trait.specs.declared.services.Plan.{Plan}
use Rattle.policy_trait.specs.declared.services.PlanEnd.{PlanEnd}
use Rattle.policy_trait.specs.declared.services.Rest.{Rest}
use Rattle.policy_trait.specs.declared.services.Rest.TheVariants.{AsA0, Plain}
use Rattle.policy_trait.specs.declared.services.Words.{Words}
use Rattle.policy_product.specs.Both.{BothHold, answer_before, answer_beside, beside_left, beside_right, both, both_ignore, both_outs, first_declined, joint_text, left, lending_of, lent_if, lent_to_left, plan_of_left, plan_of_right, rest_tag, retag_of_left, retag_of_right, right, tag_beside, tags_alone}

-- ---- a plan of one part

-- a plan put beside the other part's tags, and read again, is the plan
answer_left : {T U : Type 0} (plain a0 : U) (x : Option (Answer T)) → option_map (λ (y : Answer (T × U)). record { value = y.value; tag = y.tag.0; rest = y.rest }) (option_map (answer_beside plain a0) x) ≡ x
answer_left plain a0 None = refl
answer_left plain a0 (Some x) = refl

answer_right : {T U : Type 0} (plain a0 : T) (x : Option (Answer U)) → option_map (λ (y : Answer (T × U)). record { value = y.value; tag = y.tag.1; rest = y.rest }) (option_map (answer_before plain a0) x) ≡ x
answer_right plain a0 None = refl
answer_right plain a0 (Some x) = refl

left_again : {T U : Type 0} (pc plain a0 : U) (p : Plan T) → plan_by left (beside_right pc plain a0 p) ≡ p
left_again pc plain a0 p = ap (λ x. record p { answer = x }) (answer_left plain a0 p.answer)

right_again : {T U : Type 0} (pc plain a0 : T) (p : Plan U) → plan_by right (beside_left pc plain a0 p) ≡ p
right_again pc plain a0 p = ap (λ x. record p { answer = x }) (answer_right plain a0 p.answer)

-- a plan that came is one part's plan, put beside the other's tags
pub record FromPlan {T W : Type 0} (put : Plan T → Plan W) (r : Result (Plan T) PlanEnd) (p : Plan W) : Type 0 where
  pub plan : Plan T
  pub given : r ≡ Ok plan
  pub put_on : put plan ≡ p

planned_by : {T W : Type 0} (put : Plan T → Plan W) (r : Result (Plan T) PlanEnd) (p : Plan W) → ok_by put r ≡ Ok p → FromPlan put r p
planned_by put (Ok plan) p e = record { plan = plan; given = refl; put_on = cc }
planned_by put (Err end) p e = absurd (let h : Err end ≡ Ok p = e in cc)

from_plan : {T W : Type 0} (all : Result (Unit {0}) PlanEnd) (put : Plan T → Plan W) (r : Result (Plan T) PlanEnd) (p : Plan W)
    → (all >>= λ is_lent. ok_by put r) ≡ Ok p → FromPlan put r p
from_plan (Ok x) put r p e = planned_by put r p e
from_plan (Err end) put r p e = absurd (let h : Err end ≡ Ok p = e in cc)

-- an answer beside another tag keeps its value
value_beside : {T W : Type 0} (put : Answer T → Answer W) (a : Args T) (b : Args W) (answer : Option (Answer T)) → a.a0 ≡ b.a0
    → ((x : Answer T) → (put x).value ≡ x.value) → ((x : Answer T) → (put x).rest ≡ x.rest)
    → ForSome answer (KeepsValue a) → ForSome (option_map put answer) (KeepsValue b)
value_beside put a b None same values rests all = λ x e. absurd (let h : None ≡ Some x = e in cc)
value_beside {T} {W} put a b (Some y) same values rests all = λ x e as_a0.
    let is : put y ≡ x = same_Some (put y) x e in
    sym (ap (λ (z : Answer W). z.value) is) ∙ values y
    ∙ all y refl (sym (rests y) ∙ ap (λ (z : Answer W). z.rest) is ∙ as_a0) ∙ same

-- and the word that it was
word_beside : {T W : Type 0} (put : Answer T → Answer W) (answer : Option (Answer T)) → ((x : Answer T) → (put x).value ≡ x.value)
    → ForSome answer HasWord → ForSome (option_map put answer) HasWord
word_beside put None values all = λ x e. absurd (let h : None ≡ Some x = e in cc)
word_beside {T} {W} put (Some y) values all = λ x e.
    let is : put y ≡ x = same_Some (put y) x e in
    subst (λ (value : ℕ). value < 2 ^ 32) (sym (values y) ∙ ap (λ (z : Answer W). z.value) is) (all y refl)

-- ---- arguments that a service does not use

-- a tag that is not used is not asked for
lent_as : {T : Type 0} (lend : T → Result (Unit {0}) Part) (used : Bool) (t u : T) → (used ≡ true → t ≡ u) → lent_if lend used t ≡ lent_if lend used u
lent_as lend false t u same = refl
lent_as lend true t u same = ap (lent_if lend true) (same refl)

-- so the used ones decide what is lent
lending_as : {T : Type 0} (lend : T → Result (Unit {0}) Part) (uses : ℕ) (a b : Args T) → AgreesOnUsed uses a b → lending_of lend uses a ≡ lending_of lend uses b
lending_as lend uses a b same =
    let first = lent_as lend (nat_le 1 uses) a.t0 b.t0 (λ used. same.t0 (leb-true 1 uses used)) in
    let second = lent_as lend (nat_le 2 uses) a.t1 b.t1 (λ used. same.t1 (leb-true 2 uses used)) in
    let third = lent_as lend (nat_le 3 uses) a.t2 b.t2 (λ used. same.t2 (leb-true 3 uses used)) in
    λ j. first j >>= λ x. second j >>= λ y. third j

-- where the tags alone are left, the used ones agree still
tags_agree : {T : Type 0} (uses : ℕ) (a b : Args T) → AgreesOnUsed uses a b → AgreesOnUsed uses (tags_alone a) (tags_alone b)
tags_agree uses a b same = record {
  a0 = λ used. refl;
  t0 = same.t0;
  a1 = λ used. refl;
  t1 = same.t1;
  a2 = λ used. refl;
  t2 = same.t2;
  ram = same.ram;
}

-- an answer that leaves the others a0's tags has the same ones where a0 has
abbrev SameRest : {T U : Type 0} → U → U → Answer T → Type 0
SameRest t u x = x.rest ≡ AsA0 → t ≡ u

rest_as : {U : Type 0} (rest : Rest) (plain t u : U) → (rest ≡ AsA0 → t ≡ u) → rest_tag rest plain t ≡ rest_tag rest plain u
rest_as Plain plain t u same = refl
rest_as AsA0 plain t u same = same refl

answer_right_as : {T U : Type 0} (plain t u : U) (answer : Option (Answer T)) → ForSome answer (SameRest t u)
    → option_map (answer_beside plain t) answer ≡ option_map (answer_beside plain u) answer
answer_right_as plain t u None same = refl
answer_right_as {T} {U} plain t u (Some x) same = ap tagged (rest_as x.rest plain t u (same x refl))
  where
    tagged : U → Option (Answer (T × U))
    tagged other = Some (record { value = x.value; tag = (x.tag, other); rest = x.rest })

answer_left_as : {T U : Type 0} (plain t u : T) (answer : Option (Answer U)) → ForSome answer (SameRest t u)
    → option_map (answer_before plain t) answer ≡ option_map (answer_before plain u) answer
answer_left_as plain t u None same = refl
answer_left_as {T} {U} plain t u (Some x) same = ap tagged (rest_as x.rest plain t u (same x refl))
  where
    tagged : T → Option (Answer (T × U))
    tagged other = Some (record { value = x.value; tag = (other, x.tag); rest = x.rest })

-- what is put on a plan that comes
put_as : {T W : Type 0} (put also : Plan T → Plan W) (r : Result (Plan T) PlanEnd) → ((p : Plan T) → r ≡ Ok p → put p ≡ also p) → ok_by put r ≡ ok_by also r
put_as {T} {W} put also (Ok p) same = ap given_as (same p refl)
  where
    given_as : Plan W → Result (Plan W) PlanEnd
    given_as q = Ok q
put_as put also (Err end) same = refl

either_known : (a b : Bool) → IsTrue (a || b) → a ≡ false → IsTrue b
either_known true b known off = absurd (cc off)
either_known false b known off = known

-- after a commit, or where memory ran out in it, the same services are known
pub knows_same : {T S E : Type 0} (m : PolicyModel T S) (old new committed : S) (result : Result (Unit {0}) E) → OnOk result (new ≡ committed) → OnErr result (new ≡ old)
    → ((k : ℕ) → m.knows committed k ≡ m.knows old k) → (k : ℕ) → m.knows new k ≡ m.knows old k
knows_same m old new committed (Ok x) ok err same k = ap (λ s. m.knows s k) ok ∙ same k
knows_same m old new committed (Err e) ok err same k = ap (λ s. m.knows s k) err

module _ {T U S R : Type 0} (m : PolicyModel T S) (n : PolicyModel U R) (holds : S → Type 0) (also : R → Type 0)
    (laws : KeepsLaws m holds) (also_laws : KeepsLaws n also) where
  -- ---- plans

  -- the plan is one of the left part, put beside the tags of the right part
  abbrev FromLeft : S × R → ℕ → Args (T × U) → T × U → Plan (T × U) → Type 0
  FromLeft s k a pc p = FromPlan (beside_right pc.1 (n.plain s.1) a.t0.1) (m.plan s.0 k (args_by left a) pc.0) p

  -- the same for the right part
  abbrev FromRight : S × R → ℕ → Args (T × U) → T × U → Plan (T × U) → Type 0
  FromRight s k a pc p = FromPlan (beside_left pc.0 (m.plain s.0) a.t0.0) (n.plan s.1 k (args_by right a) pc.1) p

  -- whose service it is decides whose plan it is
  of_left : (owns : Bool) (s : S × R) (k : ℕ) (a : Args (T × U)) (pc : T × U) (p : Plan (T × U)) → owns ≡ true
      → (if owns then plan_of_left m n s k a pc else plan_of_right m n s k a pc) ≡ Ok p → FromLeft s k a pc p
  of_left true s k a pc p owned e = from_plan (lent_to_left m n s k a pc.0) _ _ p e
  of_left false s k a pc p owned e = absurd (cc owned)

  of_right : (owns : Bool) (s : S × R) (k : ℕ) (a : Args (T × U)) (pc : T × U) (p : Plan (T × U)) → owns ≡ false
      → (if owns then plan_of_left m n s k a pc else plan_of_right m n s k a pc) ≡ Ok p → FromRight s k a pc p
  of_right false s k a pc p owned e = from_plan (lending_of (m.lend s.0) (n.uses s.1 k) (args_by left a)) _ _ p e
  of_right true s k a pc p owned e = absurd (cc owned)

  left_given : (s : S × R) (p : Plan (T × U)) → IsGiven (both m n) s p → m.knows s.0 p.service ≡ true → IsGiven m s.0 (plan_by left p)
  left_given s p given owned =
      let from = of_left (m.knows s.0 p.service) s p.service given.arguments given.pc p owned given.given in
      let again : plan_by left p ≡ from.plan = ap (plan_by left) (sym from.put_on) ∙ left_again given.pc.1 (n.plain s.1) given.arguments.t0.1 from.plan in
      let room : m.room s.0 ≤ given.arguments.ram = room_within (le-max_left (m.room s.0) (n.room s.1)) given.can.room in
      record {
        arguments = args_by left given.arguments;
        pc = given.pc.0;
        can = record { known = owned; room = room };
        given = from.given ∙ ap given_as (sym again);
      }
    where
      given_as : Plan T → Result (Plan T) PlanEnd
      given_as q = Ok q

      room_within : {a b c : ℕ} → a ≤ b → b ≤ c → a ≤ c
      room_within first second = omega (arith, first, second)

  right_given : (s : S × R) (p : Plan (T × U)) → IsGiven (both m n) s p → m.knows s.0 p.service ≡ false → IsGiven n s.1 (plan_by right p)
  right_given s p given owned =
      let from = of_right (m.knows s.0 p.service) s p.service given.arguments given.pc p owned given.given in
      let again : plan_by right p ≡ from.plan = ap (plan_by right) (sym from.put_on) ∙ right_again given.pc.0 (m.plain s.0) given.arguments.t0.0 from.plan in
      let room : n.room s.1 ≤ given.arguments.ram = room_within (le-max_right (m.room s.0) (n.room s.1)) given.can.room in
      record {
        arguments = args_by right given.arguments;
        pc = given.pc.1;
        can = record { known = either_known (m.knows s.0 p.service) (n.knows s.1 p.service) given.can.known owned; room = room };
        given = from.given ∙ ap given_as (sym again);
      }
    where
      given_as : Plan U → Result (Plan U) PlanEnd
      given_as q = Ok q

      room_within : {a b c : ℕ} → a ≤ b → b ≤ c → a ≤ c
      room_within first second = omega (arith, first, second)

  -- the same where the two policies are seen apart
  pub left_part : (s : S × R) (l : S) (r : R) → (l, r) ≡ s → (p : Plan (T × U)) (q : Plan T) → IsGiven (both m n) s p → m.knows l p.service ≡ true
      → q ≡ plan_by left p → IsGiven m l q
  left_part s l r view p q given owned is =
      subst (IsGiven m l) (sym is) (left_given (l, r) p (subst (λ t. IsGiven (both m n) t p) (sym view) given) owned)

  pub right_part : (s : S × R) (l : S) (r : R) → (l, r) ≡ s → (p : Plan (T × U)) (q : Plan U) → IsGiven (both m n) s p → m.knows l p.service ≡ false
      → q ≡ plan_by right p → IsGiven n r q
  right_part s l r view p q given owned is =
      subst (IsGiven n r) (sym is) (right_given (l, r) p (subst (λ t. IsGiven (both m n) t p) (sym view) given) owned)

  -- ---- masked inputs change no answer

  pick_left : (a b : Bool) (plain : T × U) (t : T × U) → (if a then plain.0 else (if a && b then plain else t).0) ≡ (if a then plain.0 else t.0)
  pick_left true b plain t = refl
  pick_left false b plain t = refl

  pick_right : (a b : Bool) (plain : T × U) (t : T × U) → (if b then plain.1 else (if a && b then plain else t).1) ≡ (if b then plain.1 else t.1)
  pick_right a true plain t = refl
  pick_right true false plain t = refl
  pick_right false false plain t = refl

  -- the inputs that both ignore made plain
  abbrev all_masked : S × R → Group → Ins (T × U) → Ins (T × U)
  all_masked s g x = masked_inputs (both_ignore (m.ignores s.0 g) (n.ignores s.1 g)) (m.plain s.0, n.plain s.1) x

  left_key : (s : S × R) (g : Group) (x : Ins (T × U)) → masked_inputs (m.ignores s.0 g) (m.plain s.0) (ins_by left x) ≡ masked_inputs (m.ignores s.0 g) (m.plain s.0) (ins_by left (all_masked s g x))
  left_key s g x =
      let plain : T × U = (m.plain s.0, n.plain s.1) in
      let a = m.ignores s.0 g in
      let b = n.ignores s.1 g in
      sym (λ j. record {
        pc = pick_left a.pc b.pc plain x.pc j;
        ci = pick_left a.ci b.ci plain x.ci j;
        t1 = pick_left a.t1 b.t1 plain x.t1 j;
        t2 = pick_left a.t2 b.t2 plain x.t2 j;
        tm = pick_left a.tm b.tm plain x.tm j;
      })

  right_key : (s : S × R) (g : Group) (x : Ins (T × U)) → masked_inputs (n.ignores s.1 g) (n.plain s.1) (ins_by right x) ≡ masked_inputs (n.ignores s.1 g) (n.plain s.1) (ins_by right (all_masked s g x))
  right_key s g x =
      let plain : T × U = (m.plain s.0, n.plain s.1) in
      let a = m.ignores s.0 g in
      let b = n.ignores s.1 g in
      sym (λ j. record {
        pc = pick_right a.pc b.pc plain x.pc j;
        ci = pick_right a.ci b.ci plain x.ci j;
        t1 = pick_right a.t1 b.t1 plain x.t1 j;
        t2 = pick_right a.t2 b.t2 plain x.t2 j;
        tm = pick_right a.tm b.tm plain x.tm j;
      })

  -- the rule from the answers of both
  abbrev ruled : Result (Outs T) Refused → Result (Outs U) Refused → Result (Outs (T × U)) Refused
  ruled x y = x >>= λ first. y >>= λ second. Ok (both_outs first second)

  rule_masked : (s : S × R) (g : Group) (x : Ins (T × U)) → (both m n).rule s g x ≡ (both m n).rule s g (all_masked s g x)
  rule_masked s g x =
      ap (λ first. ruled first (n.rule s.1 g (ins_by right x))) (rule_by_key m holds laws s.0 g (ins_by left x) (ins_by left (all_masked s g x)) (left_key s g x))
      ∙ ap (ruled (m.rule s.0 g (ins_by left (all_masked s g x)))) (rule_by_key n also also_laws s.1 g (ins_by right x) (ins_by right (all_masked s g x)) (right_key s g x))

  -- ---- looks

  neither : (a b : Bool) → (a || b) ≡ false → (a ≡ false) × (b ≡ false)
  neither false false none = (refl, refl)
  neither false true none = absurd (cc none)
  neither true b none = absurd (cc none)

  -- where neither refuses any, both allow each
  unpeeked : (s : S × R) (shape : Shape) (x y : T × U) → (m.peeks s.0 || n.peeks s.1) ≡ false → (both m n).peek s shape x y ≡ Ok tt
  unpeeked s shape x y none =
      let parts = neither (m.peeks s.0) (n.peeks s.1) none in
      let first = laws.unpeeked s.0 shape x.0 y.0 parts.0 in
      let second = also_laws.unpeeked s.1 shape x.1 y.1 parts.1 in
      λ j. first j >>= λ seen. second j

  -- where each allows both values alone, each allows the look at both
  parted : (s : S × R) (shape : Shape) (x y : T × U) → (both m n).peek s shape x ((both m n).plain s) ≡ Ok tt
      → (both m n).peek s shape y ((both m n).plain s) ≡ Ok tt → (both m n).peek s shape x y ≡ Ok tt
  parted s shape x y one other =
      on_ok (m.peek s.0 shape x.0 (m.plain s.0)) (λ seen. n.peek s.1 shape x.1 (n.plain s.1)) tt one
      (λ a left_one right_one. on_ok (m.peek s.0 shape y.0 (m.plain s.0)) (λ seen. n.peek s.1 shape y.1 (n.plain s.1)) tt other
      (λ b left_other right_other.
      let first = laws.parted s.0 shape x.0 y.0 left_one left_other in
      let second = also_laws.parted s.1 shape x.1 y.1 right_one right_other in
      λ j. first j >>= λ seen. second j))

  -- ---- a commit changes what services answer, and nothing else

  same_left : (s t : S) (r : R) → SameRules m s t → SameRules (both m n) (s, r) (t, r)
  same_left s t r same = record {
    plain = ap (λ (x : T). (x, n.plain r)) same.plain;
    rule = λ g x. ap (λ first. ruled first (n.rule r g (ins_by right x))) (same.rule g (ins_by left x));
    ignores = λ g. ap (λ mask. both_ignore mask (n.ignores r g)) (same.ignores g);
    peeks = ap (λ first. first || n.peeks r) same.peeks;
    peek = λ shape x y. ap (λ first. first >>= λ seen. n.peek r shape x.1 y.1) (same.peek shape x.0 y.0);
    knows = λ k. ap (λ known. known || n.knows r k) (same.knows k);
    uses = λ k. ap (λ known. if known then m.uses t k else n.uses r k) (same.knows k) ∙ ap (λ (uses : ℕ). if m.knows s k then uses else n.uses r k) (same.uses k);
    lend = λ tag. ap (λ first. first >>= λ is_lent. n.lend r tag.1) (same.lend tag.0);
    room = ap (λ (room : ℕ). max room (n.room r)) same.room;
    wipe = λ pc old. ap (λ first. first >>= λ x. n.wipe r pc.1 old.1 >>= λ y. Ok (x, y)) (same.wipe pc.0 old.0);
    start_pc = λ b. ap (λ (x : T). (x, n.start_pc r b)) (same.start_pc b);
    start_word = λ b. ap (λ (x : T). (x, n.start_word r b)) (same.start_word b);
    text = λ tag. ap (λ (x : List ℕ). joint_text x (n.text r tag.1)) (same.text tag.0);
  }

  same_right : (s : S) (r t : R) → SameRules n r t → SameRules (both m n) (s, r) (s, t)
  same_right s r t same = record {
    plain = ap (λ (y : U). (m.plain s, y)) same.plain;
    rule = λ g x. ap (ruled (m.rule s g (ins_by left x))) (same.rule g (ins_by right x));
    ignores = λ g. ap (both_ignore (m.ignores s g)) (same.ignores g);
    peeks = ap (λ second. m.peeks s || second) same.peeks;
    peek = λ shape x y. ap (λ second. m.peek s shape x.0 y.0 >>= λ seen. second) (same.peek shape x.1 y.1);
    knows = λ k. ap (λ known. m.knows s k || known) (same.knows k);
    uses = λ k. ap (λ (uses : ℕ). if m.knows s k then m.uses s k else uses) (same.uses k);
    lend = λ tag. ap (λ second. m.lend s tag.0 >>= λ is_lent. second) (same.lend tag.1);
    room = ap (max (m.room s)) same.room;
    wipe = λ pc old. ap (λ second. m.wipe s pc.0 old.0 >>= λ x. second >>= λ y. Ok (x, y)) (same.wipe pc.1 old.1);
    start_pc = λ b. ap (λ (y : U). (m.start_pc s b, y)) (same.start_pc b);
    start_word = λ b. ap (λ (y : U). (m.start_word s b, y)) (same.start_word b);
    text = λ tag. ap (joint_text (m.text s tag.0)) (same.text tag.1);
  }

  -- the two values after a commit, by whether the left part owns the service
  abbrev committed : Bool → S × R → Plan (T × U) → S × R
  committed owns s p = if owns then (m.commit s.0 (plan_by left p), s.1) else (s.0, n.commit s.1 (plan_by right p))

  keeps : (owns : Bool) (s : S × R) (p : Plan (T × U)) → m.knows s.0 p.service ≡ owns → IsGiven (both m n) s p → SameRules (both m n) s (committed owns s p)
  keeps true s p owned given = same_left s.0 (m.commit s.0 (plan_by left p)) s.1 (laws.keeps s.0 (plan_by left p) (left_given s p given owned))
  keeps false s p owned given = same_right s.0 s.1 (n.commit s.1 (plan_by right p)) (also_laws.keeps s.1 (plan_by right p) (right_given s p given owned))

  stays : (owns : Bool) (s : S × R) (p : Plan (T × U)) → m.knows s.0 p.service ≡ owns → IsGiven (both m n) s p → BothHold holds also s → BothHold holds also (committed owns s p)
  stays true s p owned given held = (laws.stays s.0 (plan_by left p) (left_given s p given owned) held.0, held.1)
  stays false s p owned given held = (held.0, also_laws.stays s.1 (plan_by right p) (right_given s p given owned) held.1)

  -- ---- a commit is taken back

  abbrev uncommitted : Bool → S × R → Plan (T × U) → S × R
  uncommitted owns s p = if owns then (m.uncommit s.0 (plan_by left p), s.1) else (s.0, n.uncommit s.1 (plan_by right p))

  -- after a commit of its own plan too, the left part owns what it owned
  still_owns : (s : S × R) (p : Plan (T × U)) → m.knows s.0 p.service ≡ true → IsGiven (both m n) s p → m.knows (m.commit s.0 (plan_by left p)) p.service ≡ true
  still_owns s p owned given = (laws.keeps s.0 (plan_by left p) (left_given s p given owned)).knows p.service ∙ owned

  undoes : (owns : Bool) (s : S × R) (p : Plan (T × U)) → m.knows s.0 p.service ≡ owns → IsGiven (both m n) s p → BothHold holds also s
      → uncommitted (m.knows (committed owns s p).0 p.service) (committed owns s p) p ≡ s
  undoes true s p owned given held =
      ap (λ owns. uncommitted owns (committed true s p) p) (still_owns s p owned given)
      ∙ ap (λ (value : S). (value, s.1)) (laws.undoes s.0 (plan_by left p) (left_given s p given owned) held.0)
  undoes false s p owned given held =
      ap (λ owns. uncommitted owns (committed false s p) p) owned
      ∙ ap (λ (value : R). (s.0, value)) (also_laws.undoes s.1 (plan_by right p) (right_given s p given owned) held.1)

  -- a plan that was committed is one of the part that owns its service
  left_committed_by : (owns : Bool) (b s : S × R) (p : Plan (T × U)) → m.knows b.0 p.service ≡ owns → IsGiven (both m n) b p → BothHold holds also b
      → s ≡ committed owns b p → m.knows s.0 p.service ≡ true → IsCommitted m holds s.0 (plan_by left p)
  left_committed_by true b s p owned given held left_is owns = record {
    before = b.0;
    held = held.0;
    given = left_given b p given owned;
    left = ap left left_is;
  }
  left_committed_by false b s p owned given held left_is owns =
      let other : m.knows s.0 p.service ≡ false = ap (λ (t : S × R). m.knows t.0 p.service) left_is ∙ owned in
      absurd (cc (other, owns))

  right_committed_by : (owns : Bool) (b s : S × R) (p : Plan (T × U)) → m.knows b.0 p.service ≡ owns → IsGiven (both m n) b p → BothHold holds also b
      → s ≡ committed owns b p → m.knows s.0 p.service ≡ false → IsCommitted n also s.1 (plan_by right p)
  right_committed_by false b s p owned given held left_is owns = record {
    before = b.1;
    held = held.1;
    given = right_given b p given owned;
    left = ap right left_is;
  }
  right_committed_by true b s p owned given held left_is owns =
      let other : m.knows s.0 p.service ≡ true = ap (λ (t : S × R). m.knows t.0 p.service) left_is ∙ still_owns b p owned given in
      absurd (cc (other, owns))

  -- the same where the two policies are seen apart
  pub left_committed : (s : S × R) (l : S) (r : R) → (l, r) ≡ s → (p : Plan (T × U)) (q : Plan T) → IsCommitted (both m n) (BothHold holds also) s p
      → m.knows l p.service ≡ true → q ≡ plan_by left p → IsCommitted m holds l q
  left_committed s l r view p q committed owned is =
      subst (IsCommitted m holds l) (sym is)
      (left_committed_by (m.knows committed.before.0 p.service) committed.before (l, r) p refl committed.given committed.held (view ∙ committed.left) owned)

  pub right_committed : (s : S × R) (l : S) (r : R) → (l, r) ≡ s → (p : Plan (T × U)) (q : Plan U) → IsCommitted (both m n) (BothHold holds also) s p
      → m.knows l p.service ≡ false → q ≡ plan_by right p → IsCommitted n also r q
  right_committed s l r view p q committed owned is =
      subst (IsCommitted n also r) (sym is)
      (right_committed_by (m.knows committed.before.0 p.service) committed.before (l, r) p refl committed.given committed.held (view ∙ committed.left) owned)

  -- ---- what a plan is

  -- the plan, by whether the left part owns the service
  abbrev planned : Bool → S × R → ℕ → Args (T × U) → T × U → Result (Plan (T × U)) PlanEnd
  planned owns s k a pc = if owns then plan_of_left m n s k a pc else plan_of_right m n s k a pc

  below : {a b c : ℕ} → a ≤ b → b ≤ c → a ≤ c
  below first second = omega (arith, first, second)

  -- what the owner needs to plan
  left_can : (s : S × R) (k : ℕ) (a : Args (T × U)) → m.knows s.0 k ≡ true → CanPlan (both m n) s k a → CanPlan m s.0 k (args_by left a)
  left_can s k a owned can = record { known = owned; room = below (le-max_left (m.room s.0) (n.room s.1)) can.room }

  right_can : (s : S × R) (k : ℕ) (a : Args (T × U)) → m.knows s.0 k ≡ false → CanPlan (both m n) s k a → CanPlan n s.1 k (args_by right a)
  right_can s k a owned can =
      record { known = either_known (m.knows s.0 k) (n.knows s.1 k) can.known owned; room = below (le-max_right (m.room s.0) (n.room s.1)) can.room }

  ranges : (owns : Bool) (s : S × R) (k : ℕ) (a : Args (T × U)) (pc : T × U) (p : Plan (T × U)) → m.knows s.0 k ≡ owns → CanPlan (both m n) s k a → BothHold holds also s
      → planned owns s k a pc ≡ Ok p → ForSome p.range (IsRange a.ram)
  ranges true s k a pc p owned can held e =
      let from = of_left true s k a pc p refl e in
      subst (λ (range : Option Words). ForSome range (IsRange a.ram)) (ap (λ (q : Plan (T × U)). q.range) from.put_on)
      (laws.ranges s.0 k (args_by left a) pc.0 from.plan (left_can s k a owned can) held.0 from.given)
  ranges false s k a pc p owned can held e =
      let from = of_right false s k a pc p refl e in
      subst (λ (range : Option Words). ForSome range (IsRange a.ram)) (ap (λ (q : Plan (T × U)). q.range) from.put_on)
      (also_laws.ranges s.1 k (args_by right a) pc.1 from.plan (right_can s k a owned can) held.1 from.given)

  few : (owns : Bool) (s : S × R) (k : ℕ) → m.knows s.0 k ≡ owns → IsTrue (m.knows s.0 k || n.knows s.1 k) → (if owns then m.uses s.0 k else n.uses s.1 k) ≤ 3
  few true s k owned known = laws.few s.0 k owned
  few false s k owned known = also_laws.few s.1 k (either_known (m.knows s.0 k) (n.knows s.1 k) known owned)

  service : (owns : Bool) (s : S × R) (k : ℕ) (a : Args (T × U)) (pc : T × U) (p : Plan (T × U)) → m.knows s.0 k ≡ owns → IsTrue (m.knows s.0 k || n.knows s.1 k)
      → planned owns s k a pc ≡ Ok p → p.service ≡ k
  service true s k a pc p owned known e =
      let from = of_left true s k a pc p refl e in
      ap (λ (q : Plan (T × U)). q.service) (sym from.put_on) ∙ laws.service s.0 k (args_by left a) pc.0 from.plan owned from.given
  service false s k a pc p owned known e =
      let from = of_right false s k a pc p refl e in
      ap (λ (q : Plan (T × U)). q.service) (sym from.put_on)
      ∙ also_laws.service s.1 k (args_by right a) pc.1 from.plan (either_known (m.knows s.0 k) (n.knows s.1 k) known owned) from.given

  value : (owns : Bool) (s : S × R) (k : ℕ) (a : Args (T × U)) (pc : T × U) (p : Plan (T × U)) → m.knows s.0 k ≡ owns → IsTrue (m.knows s.0 k || n.knows s.1 k)
      → planned owns s k a pc ≡ Ok p → ForSome p.answer (KeepsValue a)
  value true s k a pc p owned known e =
      let from = of_left true s k a pc p refl e in
      subst (λ (answer : Option (Answer (T × U))). ForSome answer (KeepsValue a)) (ap (λ (q : Plan (T × U)). q.answer) from.put_on)
      (value_beside (answer_beside (n.plain s.1) a.t0.1) (args_by left a) a from.plan.answer refl (λ x. refl) (λ x. refl) (laws.value s.0 k (args_by left a) pc.0 from.plan owned from.given))
  value false s k a pc p owned known e =
      let from = of_right false s k a pc p refl e in
      subst (λ (answer : Option (Answer (T × U))). ForSome answer (KeepsValue a)) (ap (λ (q : Plan (T × U)). q.answer) from.put_on)
      (value_beside (answer_before (m.plain s.0) a.t0.0) (args_by right a) a from.plan.answer refl (λ x. refl) (λ x. refl)
      (also_laws.value s.1 k (args_by right a) pc.1 from.plan (either_known (m.knows s.0 k) (n.knows s.1 k) known owned) from.given))

  words : (owns : Bool) (s : S × R) (k : ℕ) (a : Args (T × U)) (pc : T × U) (p : Plan (T × U)) → m.knows s.0 k ≡ owns → CanPlan (both m n) s k a
      → BothHold holds also s → AreWords a → planned owns s k a pc ≡ Ok p → ForSome p.answer HasWord
  words true s k a pc p owned can held are e =
      let from = of_left true s k a pc p refl e in
      subst (λ (answer : Option (Answer (T × U))). ForSome answer HasWord) (ap (λ (q : Plan (T × U)). q.answer) from.put_on)
      (word_beside (answer_beside (n.plain s.1) a.t0.1) from.plan.answer (λ x. refl)
      (laws.words s.0 k (args_by left a) pc.0 from.plan (left_can s k a owned can) held.0 (words_by left a are) from.given))
  words false s k a pc p owned can held are e =
      let from = of_right false s k a pc p refl e in
      subst (λ (answer : Option (Answer (T × U))). ForSome answer HasWord) (ap (λ (q : Plan (T × U)). q.answer) from.put_on)
      (word_beside (answer_before (m.plain s.0) a.t0.0) from.plan.answer (λ x. refl)
      (also_laws.words s.1 k (args_by right a) pc.1 from.plan (right_can s k a owned can) held.1 (words_by right a are) from.given))

  -- ---- what a plan does not look at

  -- beside the left part's plan, the right part's tag of a0 is looked at where the service uses a0
  left_put : (s : S × R) (k : ℕ) (a b : Args (T × U)) (pc : T × U) → m.knows s.0 k ≡ true → AgreesOnUsed (m.uses s.0 k) a b
      → (p : Plan T) → m.plan s.0 k (args_by left a) pc.0 ≡ Ok p
      → beside_right pc.1 (n.plain s.1) a.t0.1 p ≡ beside_right pc.1 (n.plain s.1) b.t0.1 p
  left_put s k a b pc owned same p given =
      ap (λ x. record (beside_right pc.1 (n.plain s.1) a.t0.1 p) { answer = x })
      (answer_right_as (n.plain s.1) a.t0.1 b.t0.1 p.answer
      (λ x x_is as_a0. ap right (same.t0 (uses_a0 m holds laws s.0 k (args_by left a) pc.0 p owned given x x_is as_a0))))

  -- the same for the right part's plan
  right_put : (s : S × R) (k : ℕ) (a b : Args (T × U)) (pc : T × U) → IsTrue (n.knows s.1 k) → AgreesOnUsed (n.uses s.1 k) a b
      → (p : Plan U) → n.plan s.1 k (args_by right a) pc.1 ≡ Ok p
      → beside_left pc.0 (m.plain s.0) a.t0.0 p ≡ beside_left pc.0 (m.plain s.0) b.t0.0 p
  right_put s k a b pc owned same p given =
      ap (λ x. record (beside_left pc.0 (m.plain s.0) a.t0.0 p) { answer = x })
      (answer_left_as (m.plain s.0) a.t0.0 b.t0.0 p.answer
      (λ x x_is as_a0. ap left (same.t0 (uses_a0 n also also_laws s.1 k (args_by right a) pc.1 p owned given x x_is as_a0))))

  unused : (owns : Bool) (s : S × R) (k : ℕ) (a b : Args (T × U)) (pc : T × U) → m.knows s.0 k ≡ owns → IsTrue (m.knows s.0 k || n.knows s.1 k)
      → AgreesOnUsed (if owns then m.uses s.0 k else n.uses s.1 k) a b → planned owns s k a pc ≡ planned owns s k b pc
  unused true s k a b pc owned known same =
      let lending = lending_as (n.lend s.1) (m.uses s.0 k) (args_by right a) (args_by right b) (agrees_by right (m.uses s.0 k) a b same) in
      let agree = agrees_by left (m.uses s.0 k) a b same in
      let plan = laws.unused s.0 k (args_by left a) (args_by left b) pc.0 owned agree in
      let declined = laws.unused s.0 k (tags_alone (args_by left a)) (tags_alone (args_by left b)) pc.0 owned (tags_agree (m.uses s.0 k) (args_by left a) (args_by left b) agree) in
      let put_on = beside_right pc.1 (n.plain s.1) b.t0.1 in
      let put = put_as (beside_right pc.1 (n.plain s.1) a.t0.1) put_on (m.plan s.0 k (args_by left a) pc.0) (left_put s k a b pc owned same) in
      (λ j. first_declined (lending j) (declined j) >>= λ all. put j)
      ∙ (λ j. lent_to_left m n s k b pc.0 >>= λ all. ok_by put_on (plan j))
  unused false s k a b pc owned known same =
      let owns : IsTrue (n.knows s.1 k) = either_known (m.knows s.0 k) (n.knows s.1 k) known owned in
      let lending = lending_as (m.lend s.0) (n.uses s.1 k) (args_by left a) (args_by left b) (agrees_by left (n.uses s.1 k) a b same) in
      let plan = also_laws.unused s.1 k (args_by right a) (args_by right b) pc.1 owns (agrees_by right (n.uses s.1 k) a b same) in
      let put_on = beside_left pc.0 (m.plain s.0) b.t0.0 in
      let put = put_as (beside_left pc.0 (m.plain s.0) a.t0.0) put_on (n.plan s.1 k (args_by right a) pc.1) (right_put s k a b pc owns same) in
      (λ j. lending j >>= λ all. put j)
      ∙ (λ j. lending_of (m.lend s.0) (n.uses s.1 k) (args_by left b) >>= λ all. ok_by put_on (plan j))

  -- ---- what is not looked at in a plan

  -- the new tag of a word, by whether the left part owns the service
  abbrev retagged : Bool → S × R → Plan (T × U) → T × U → Result (T × U) Refused
  retagged owns s p old = if owns then retag_of_left m n s p old else retag_of_right m n s p old

  blind_retag : (owns : Bool) (s : S × R) (p : Plan (T × U)) (x : Option (Answer (T × U))) (old : T × U)
      → retagged owns s (record p { answer = x }) old ≡ retagged owns s p old
  blind_retag true s p x old =
      ap (λ first. first >>= λ y. tag_beside n s.1 p.zero p.pc.1 old.1 >>= λ z. Ok (y, z))
      (laws.blind_retag s.0 (plan_by left p) (option_map (answer_by left) x) old.0)
  blind_retag false s p x old =
      ap (λ second. tag_beside m s.0 p.zero p.pc.0 old.0 >>= λ y. second >>= λ z. Ok (y, z))
      (also_laws.blind_retag s.1 (plan_by right p) (option_map (answer_by right) x) old.1)

  blind_commit : (owns : Bool) (s : S × R) (p : Plan (T × U)) (x : Option (Answer (T × U))) → committed owns s (record p { answer = x }) ≡ committed owns s p
  blind_commit true s p x = ap (λ (value : S). (value, s.1)) (laws.blind_commit s.0 (plan_by left p) (option_map (answer_by left) x))
  blind_commit false s p x = ap (λ (value : R). (s.0, value)) (also_laws.blind_commit s.1 (plan_by right p) (option_map (answer_by right) x))

  -- the laws of the two as one
  pub both_laws : KeepsLaws (both m n) (BothHold holds also)
  both_laws = record {
    masks = rule_masked;
    unpeeked = unpeeked;
    parted = parted;
    keeps = λ s p given. keeps (m.knows s.0 p.service) s p refl given;
    stays = λ s p given held. stays (m.knows s.0 p.service) s p refl given held;
    undoes = λ s p given held. undoes (m.knows s.0 p.service) s p refl given held;
    ranges = λ s k a pc p can held e. ranges (m.knows s.0 k) s k a pc p refl can held e;
    few = λ s k known. few (m.knows s.0 k) s k refl known;
    service = λ s k a pc p known e. service (m.knows s.0 k) s k a pc p refl known e;
    value = λ s k a pc p known e. value (m.knows s.0 k) s k a pc p refl known e;
    unused = λ s k a b pc known same. unused (m.knows s.0 k) s k a b pc refl known same;
    blind_retag = λ s p x old. blind_retag (m.knows s.0 p.service) s p x old;
    blind_commit = λ s p x. blind_commit (m.knows s.0 p.service) s p x;
    words = λ s k a pc p can held are e. words (m.knows s.0 k) s k a pc p refl can held are e;
  }
