-- Four policies as nested pairs are the four told flat, where no service is known to two of them and only the first ever
-- declines to lend.
use Rattle.std.proofs.Common.{◌≡◌, ℕ, Bool, true, false, ◌||◌, List, [], ◌∷◌, Option, Some, None, Result, Ok, Err, option_map, if◌then◌else◌, length, ◌==◌, refl, sym, ap, ◌∙◌, nat_le, arith}
use Rattle.std.proofs.lemmas.Bool.Decides.{nat_tests}
use Rattle.policy_trait.specs.Maps.{args_by, ok_by, outs_by, plan_by}
use Rattle.policy_trait.specs.Model.{PolicyModel}
use Rattle.shared_terms.specs.Steps.{◌>>=◌}
use Rattle.policy_trait.specs.declared.rules.Outs.{Outs}
use Rattle.policy_trait.specs.declared.rules.Part.{Part}
use Rattle.policy_trait.specs.declared.rules.Refused.{Refused}
use Rattle.policy_trait.specs.declared.services.Answer.{Answer}
use Rattle.policy_trait.specs.declared.services.Args.{Args}
use Rattle.policy_trait.specs.declared.services.Plan.{Plan}
use Rattle.policy_trait.specs.declared.services.PlanEnd.{PlanEnd}
use Rattle.policy_trait.specs.declared.services.Rest.{Rest}
use Rattle.policy_trait.specs.declared.services.Rest.TheVariants.{AsA0, Plain}
use Rattle.policy_product.specs.Both.{IsApart, beside_left, beside_right, both, both_outs, first_declined, joint_text, left, lending_of, lent_if, lent_to_left, rest_tag, right, tag_beside, tags_alone}
use Rattle.policy_parts.proofs.MapLemmas.{plan_twice}
use Rattle.policy_choice.specs.Flat.{Four, answer_among, flat, parts_of, plan_among}
use Rattle.policy_choice.specs.Told.{IsToldAs}

-- ---- who owns a service

-- of four that exclude one another, and of which one is true, it is the first, the second, the third or the fourth
record IsOneOf (a b c d : Bool) : Type 0 where
  first : a ≡ true → (b || (c || d)) ≡ false
  second : b ≡ true → (c || d) ≡ false
  third : c ≡ true → d ≡ false
  some : (a || (b || (c || d))) ≡ true

by_owner : (P : Bool → Bool → Bool → Bool → Type 0) → P true false false false → P false true false false → P false false true false → P false false false true
    → (a b c d : Bool) → IsOneOf a b c d → P a b c d
by_owner P first second third fourth true false false false one = first
by_owner P first second third fourth true true c d one = absurd (cc (one.first refl))
by_owner P first second third fourth true false true d one = absurd (cc (one.first refl))
by_owner P first second third fourth true false false true one = absurd (cc (one.first refl))
by_owner P first second third fourth false true false false one = second
by_owner P first second third fourth false true true d one = absurd (cc (one.second refl))
by_owner P first second third fourth false true false true one = absurd (cc (one.second refl))
by_owner P first second third fourth false false true false one = third
by_owner P first second third fourth false false true true one = absurd (cc (one.third refl))
by_owner P first second third fourth false false false true one = fourth
by_owner P first second third fourth false false false false one = absurd (cc one.some)

-- ---- four answers in a row

module _ {A B C D E : Type 0} where
  abbrev nested : Result A E → Result B E → Result C E → Result D E → Result (A × (B × (C × D))) E
  nested a b c d = a >>= λ x. (b >>= λ y. (c >>= λ z. d >>= λ w. Ok (z, w)) >>= λ others. Ok (y, others)) >>= λ others. Ok (x, others)

  abbrev pub in_a_row : Result A E → Result B E → Result C E → Result D E → Result (Four A B C D) E
  in_a_row a b c d = a >>= λ x. b >>= λ y. c >>= λ z. d >>= λ w. Ok (record { seal = x; comp = y; flow = z; heap = w })

  four_in_a_row : (a : Result A E) (b : Result B E) (c : Result C E) (d : Result D E) → ok_by parts_of (nested a b c d) ≡ in_a_row a b c d
  four_in_a_row (Err e) b c d = refl
  four_in_a_row (Ok x) (Err e) c d = refl
  four_in_a_row (Ok x) (Ok y) (Err e) d = refl
  four_in_a_row (Ok x) (Ok y) (Ok z) (Err e) = refl
  four_in_a_row (Ok x) (Ok y) (Ok z) (Ok w) = refl

four_rules : {T U V W : Type 0} (a : Result (Outs T) Refused) (b : Result (Outs U) Refused) (c : Result (Outs V) Refused) (d : Result (Outs W) Refused)
    → ok_by (outs_by parts_of) (a >>= λ x. (b >>= λ y. (c >>= λ z. d >>= λ w. Ok (both_outs z w)) >>= λ others. Ok (both_outs y others)) >>= λ others. Ok (both_outs x others))
    ≡ (a >>= λ x. b >>= λ y. c >>= λ z. d >>= λ w. Ok (record {
      pc = record { seal = x.pc; comp = y.pc; flow = z.pc; heap = w.pc };
      result = record { seal = x.result; comp = y.result; flow = z.result; heap = w.result };
    }))
four_rules (Err e) b c d = refl
four_rules (Ok x) (Err e) c d = refl
four_rules (Ok x) (Ok y) (Err e) d = refl
four_rules (Ok x) (Ok y) (Ok z) (Err e) = refl
four_rules (Ok x) (Ok y) (Ok z) (Ok w) = refl

-- ---- lending

abbrev pub Lends : {T : Type 0} → (T → Result (Unit {0}) Part) → Type 0
Lends {T} lend = (t : T) → lend t ≡ Ok tt

abbrev lends_all : {T : Type 0} → T → Result (Unit {0}) Part
lends_all t = Ok tt

lent_each : {T : Type 0} (first second third : Bool) (a b c : T)
    → (lent_if lends_all first a >>= λ x. lent_if lends_all second b >>= λ y. lent_if lends_all third c) ≡ Ok tt
lent_each false false false a b c = refl
lent_each false false true a b c = refl
lent_each false true false a b c = refl
lent_each false true true a b c = refl
lent_each true false false a b c = refl
lent_each true false true a b c = refl
lent_each true true false a b c = refl
lent_each true true true a b c = refl

-- a policy that lends every tag lends all arguments
lent_always : {T : Type 0} (lend : T → Result (Unit {0}) Part) → Lends lend → (uses : ℕ) (a : Args T) → lending_of lend uses a ≡ Ok tt
lent_always lend lends uses a =
    ap (λ (l : _ → Result (Unit {0}) Part). lending_of l uses a) (λ j t. lends t j) ∙ lent_each (nat_le 1 uses) (nat_le 2 uses) (nat_le 3 uses) a.t0 a.t1 a.t2

-- so where the right part lends every tag, it lends the arguments of each service of the left part
pub left_lent : {T U S R : Type 0} (m : PolicyModel T S) (n : PolicyModel U R) (s : S × R) → Lends (n.lend s.1) → (k : ℕ) (a : Args (T × U)) (pc : T)
    → lent_to_left m n s k a pc ≡ Ok tt
left_lent m n s lends k a pc =
    ap (λ l. first_declined l (m.plan s.0 k (tags_alone (args_by left a)) pc)) (lent_always (n.lend s.1) lends (m.uses s.0 k) (args_by right a))

pub lends_both : {T U S R : Type 0} (m : PolicyModel T S) (n : PolicyModel U R) (s : S) (r : R) → Lends (m.lend s) → Lends (n.lend r) → Lends ((both m n).lend (s, r))
lends_both m n s r first second t = ap (λ x. x >>= λ y. n.lend r t.1) (first t.0) ∙ second t.1

-- ---- plans

abbrev Lent : Type 0
Lent = Result (Unit {0}) PlanEnd

-- a policy lends what others use
abbrev lent_or : Bool → Lent → Lent
lent_or own l = if own then Ok tt else l

ok_itself : {A E : Type 0} (r : Result A E) → r ≡ ok_by (λ x. x) r
ok_itself (Ok x) = refl
ok_itself (Err e) = refl

ok_twice : {A B C E : Type 0} (f : B → C) (g : A → B) (r : Result A E) → ok_by f (ok_by g r) ≡ ok_by (λ x. f (g x)) r
ok_twice f g (Ok x) = refl
ok_twice f g (Err e) = refl

ok_same : {A B E : Type 0} (f g : A → B) → ((x : A) → f x ≡ g x) → (r : Result A E) → ok_by f r ≡ ok_by g r
ok_same f g same r = ap (λ h. ok_by h r) (λ j x. same x j)

-- what comes behind a lending that is made
behind : {A B C : Type 0} (l : Lent) (f : B → C) (next : Result B PlanEnd) (g : A → B) (r : Result A PlanEnd) → l ≡ Ok tt → next ≡ ok_by g r
    → (l >>= λ all. ok_by f next) ≡ ok_by (λ x. f (g x)) r
behind l f next g r is next_is = ap (λ m. m >>= λ all. ok_by f next) is ∙ (ap (ok_by f) next_is ∙ ok_twice f g r)

-- and behind one that may not be
last : {A B C D : Type 0} (l : Lent) (tell : C → D) (f : B → C) (next : Result B PlanEnd) (g : A → B) (put : A → D) (r : Result A PlanEnd)
    → next ≡ ok_by g r → ((x : A) → tell (f (g x)) ≡ put x) → ok_by tell (l >>= λ all. ok_by f next) ≡ (l >>= λ all. ok_by put r)
last (Err e) tell f next g put r next_is same = refl
last (Ok x) tell f next g put r next_is same =
    ap (λ n. ok_by tell (ok_by f n)) next_is ∙ (ap (ok_by tell) (ok_twice f g r) ∙ (ok_twice tell (λ x. f (g x)) r ∙ ok_same (λ x. tell (f (g x))) put same r))

-- lendings in a row of which all but the first are made
passed : {A : Type 0} (a b c d : Lent) (next : Result A PlanEnd) → b ≡ Ok tt → c ≡ Ok tt → d ≡ Ok tt
    → ((a >>= λ x. b >>= λ y. c >>= λ z. d) >>= λ all. next) ≡ (a >>= λ all. next)
passed (Err e) b c d next is_b is_c is_d = refl
passed (Ok x) b c d next is_b is_c is_d =
    ap (λ r. (r >>= λ y. c >>= λ z. d) >>= λ all. next) is_b ∙ (ap (λ r. (r >>= λ z. d) >>= λ all. next) is_c ∙ ap (λ r. r >>= λ all. next) is_d)

module _ {T U V W : Type 0} (pc plain a0 : T × (U × (V × W))) where
  abbrev Flat : Type 0
  Flat = Four T U V W

  abbrev of_seal : Plan T → Plan (T × (U × (V × W)))
  of_seal p = beside_right pc.1 plain.1 a0.1 p

  abbrev of_comp : Plan U → Plan (T × (U × (V × W)))
  of_comp p = beside_left pc.0 plain.0 a0.0 (beside_right pc.1.1 plain.1.1 a0.1.1 p)

  abbrev of_flow : Plan V → Plan (T × (U × (V × W)))
  of_flow p = beside_left pc.0 plain.0 a0.0 (beside_left pc.1.0 plain.1.0 a0.1.0 (beside_right pc.1.1.1 plain.1.1.1 a0.1.1.1 p))

  abbrev of_heap : Plan W → Plan (T × (U × (V × W)))
  of_heap p = beside_left pc.0 plain.0 a0.0 (beside_left pc.1.0 plain.1.0 a0.1.0 (beside_left pc.1.1.0 plain.1.1.0 a0.1.1.0 p))

  abbrev among : {A : Type 0} → (A → Flat → Flat) → Plan A → Plan Flat
  among put p = plan_among put (parts_of pc) (parts_of plain) (parts_of a0) p

  -- an answer's tag among all components, by what the other ones are
  seal_tag : (rest : Rest) (t : T) → parts_of (t, rest_tag rest plain.1 a0.1) ≡ record (rest_tag rest (parts_of plain) (parts_of a0)) { seal = t }
  seal_tag Plain t = refl
  seal_tag AsA0 t = refl

  comp_tag : (rest : Rest) (t : U) → parts_of (rest_tag rest plain.0 a0.0, (t, rest_tag rest plain.1.1 a0.1.1)) ≡ record (rest_tag rest (parts_of plain) (parts_of a0)) { comp = t }
  comp_tag Plain t = refl
  comp_tag AsA0 t = refl

  flow_tag : (rest : Rest) (t : V)
      → parts_of (rest_tag rest plain.0 a0.0, (rest_tag rest plain.1.0 a0.1.0, (t, rest_tag rest plain.1.1.1 a0.1.1.1))) ≡ record (rest_tag rest (parts_of plain) (parts_of a0)) { flow = t }
  flow_tag Plain t = refl
  flow_tag AsA0 t = refl

  heap_tag : (rest : Rest) (t : W)
      → parts_of (rest_tag rest plain.0 a0.0, (rest_tag rest plain.1.0 a0.1.0, (rest_tag rest plain.1.1.0 a0.1.1.0, t))) ≡ record (rest_tag rest (parts_of plain) (parts_of a0)) { heap = t }
  heap_tag Plain t = refl
  heap_tag AsA0 t = refl

  seal_answer : (x : Option (Answer T)) → (plan_by parts_of (of_seal (record { service = 0; pc = pc.0; note = 0; range = None; zero = false; answer = x }))).answer
      ≡ option_map (answer_among (λ t (all : Flat). record all { seal = t }) (parts_of plain) (parts_of a0)) x
  seal_answer None = refl
  seal_answer (Some x) = ap (λ (t : Flat). Some (record { value = x.value; tag = t; rest = x.rest })) (seal_tag x.rest x.tag)

  comp_answer : (x : Option (Answer U)) → (plan_by parts_of (of_comp (record { service = 0; pc = pc.1.0; note = 0; range = None; zero = false; answer = x }))).answer
      ≡ option_map (answer_among (λ t (all : Flat). record all { comp = t }) (parts_of plain) (parts_of a0)) x
  comp_answer None = refl
  comp_answer (Some x) = ap (λ (t : Flat). Some (record { value = x.value; tag = t; rest = x.rest })) (comp_tag x.rest x.tag)

  flow_answer : (x : Option (Answer V)) → (plan_by parts_of (of_flow (record { service = 0; pc = pc.1.1.0; note = 0; range = None; zero = false; answer = x }))).answer
      ≡ option_map (answer_among (λ t (all : Flat). record all { flow = t }) (parts_of plain) (parts_of a0)) x
  flow_answer None = refl
  flow_answer (Some x) = ap (λ (t : Flat). Some (record { value = x.value; tag = t; rest = x.rest })) (flow_tag x.rest x.tag)

  heap_answer : (x : Option (Answer W)) → (plan_by parts_of (of_heap (record { service = 0; pc = pc.1.1.1; note = 0; range = None; zero = false; answer = x }))).answer
      ≡ option_map (answer_among (λ t (all : Flat). record all { heap = t }) (parts_of plain) (parts_of a0)) x
  heap_answer None = refl
  heap_answer (Some x) = ap (λ (t : Flat). Some (record { value = x.value; tag = t; rest = x.rest })) (heap_tag x.rest x.tag)

  seal_plan : (p : Plan T) → plan_by parts_of (of_seal p) ≡ among (λ t all. record all { seal = t }) p
  seal_plan p = ap (λ x. record (among (λ t (all : Flat). record all { seal = t }) p) { answer = x }) (seal_answer p.answer)

  comp_plan : (p : Plan U) → plan_by parts_of (of_comp p) ≡ among (λ t all. record all { comp = t }) p
  comp_plan p = ap (λ x. record (among (λ t (all : Flat). record all { comp = t }) p) { answer = x }) (comp_answer p.answer)

  flow_plan : (p : Plan V) → plan_by parts_of (of_flow p) ≡ among (λ t all. record all { flow = t }) p
  flow_plan p = ap (λ x. record (among (λ t (all : Flat). record all { flow = t }) p) { answer = x }) (flow_answer p.answer)

  heap_plan : (p : Plan W) → plan_by parts_of (of_heap p) ≡ among (λ t all. record all { heap = t }) p
  heap_plan p = ap (λ x. record (among (λ t (all : Flat). record all { heap = t }) p) { answer = x }) (heap_answer p.answer)

-- ---- a plan with one component of its tags

module _ {T U V W : Type 0} (p : Plan (T × (U × (V × W)))) where
  -- as the pairs nest

  pub comp_nested : plan_by (λ (t : T × (U × (V × W))). t.1.0) p ≡ plan_by left (plan_by right p)
  comp_nested = sym (plan_twice left right p)

  pub flow_nested : plan_by (λ (t : T × (U × (V × W))). t.1.1.0) p ≡ plan_by left (plan_by right (plan_by right p))
  flow_nested = sym (ap (plan_by left) (plan_twice right right p) ∙ plan_twice left (λ (t : T × (U × (V × W))). t.1.1) p)

  pub heap_nested : plan_by (λ (t : T × (U × (V × W))). t.1.1.1) p ≡ plan_by right (plan_by right (plan_by right p))
  heap_nested = sym (ap (plan_by right) (plan_twice right right p) ∙ plan_twice right (λ (t : T × (U × (V × W))). t.1.1) p)

  -- told flat

  pub seal_told : plan_by (λ (t : Four T U V W). t.seal) (plan_by parts_of p) ≡ plan_by left p
  seal_told = plan_twice (λ (t : Four T U V W). t.seal) parts_of p

  pub comp_told : plan_by (λ (t : Four T U V W). t.comp) (plan_by parts_of p) ≡ plan_by (λ (t : T × (U × (V × W))). t.1.0) p
  comp_told = plan_twice (λ (t : Four T U V W). t.comp) parts_of p

  pub flow_told : plan_by (λ (t : Four T U V W). t.flow) (plan_by parts_of p) ≡ plan_by (λ (t : T × (U × (V × W))). t.1.1.0) p
  flow_told = plan_twice (λ (t : Four T U V W). t.flow) parts_of p

  pub heap_told : plan_by (λ (t : Four T U V W). t.heap) (plan_by parts_of p) ≡ plan_by (λ (t : T × (U × (V × W))). t.1.1.1) p
  heap_told = plan_twice (λ (t : Four T U V W). t.heap) parts_of p

-- ---- all four

module _ {T U V W S R Q P : Type 0} (m0 : PolicyModel T S) (m1 : PolicyModel U R) (m2 : PolicyModel V Q) (m3 : PolicyModel W P) where
  abbrev inner : PolicyModel (V × W) (Q × P)
  inner = both m2 m3

  abbrev middle : PolicyModel (U × (V × W)) (R × (Q × P))
  middle = both m1 inner

  abbrev nest : PolicyModel (T × (U × (V × W))) (S × (R × (Q × P)))
  nest = both m0 middle

  module _ (s : S × (R × (Q × P))) (k : ℕ) where
    abbrev uses_2 : Bool → ℕ
    uses_2 c = if c then m2.uses s.1.1.0 k else m3.uses s.1.1.1 k

    abbrev uses_1 : Bool → Bool → ℕ
    uses_1 b c = if b then m1.uses s.1.0 k else uses_2 c

    abbrev uses_0 : Bool → Bool → Bool → ℕ
    uses_0 a b c = if a then m0.uses s.0 k else uses_1 b c

    module _ (arguments : Args (T × (U × (V × W)))) (pc : T × (U × (V × W))) where
      abbrev plan_2 : Bool → Result (Plan (V × W)) PlanEnd
      plan_2 c = if c
          then (lent_to_left m2 m3 s.1.1 k (args_by right (args_by right arguments)) pc.1.1.0 >>= λ all.
          ok_by (beside_right pc.1.1.1 (m3.plain s.1.1.1) arguments.t0.1.1.1) (m2.plan s.1.1.0 k (args_by left (args_by right (args_by right arguments))) pc.1.1.0))
          else (lending_of (m2.lend s.1.1.0) (m3.uses s.1.1.1 k) (args_by left (args_by right (args_by right arguments))) >>= λ all.
          ok_by (beside_left pc.1.1.0 (m2.plain s.1.1.0) arguments.t0.1.1.0) (m3.plan s.1.1.1 k (args_by right (args_by right (args_by right arguments))) pc.1.1.1))

      abbrev plan_1 : Bool → Bool → Result (Plan (U × (V × W))) PlanEnd
      plan_1 b c = if b
          then (lent_to_left m1 inner s.1 k (args_by right arguments) pc.1.0 >>= λ all.
          ok_by (beside_right pc.1.1 (inner.plain s.1.1) arguments.t0.1.1) (m1.plan s.1.0 k (args_by left (args_by right arguments)) pc.1.0))
          else (lending_of (m1.lend s.1.0) (uses_2 c) (args_by left (args_by right arguments)) >>= λ all.
          ok_by (beside_left pc.1.0 (m1.plain s.1.0) arguments.t0.1.0) (plan_2 c))

      abbrev plan_0 : Bool → Bool → Bool → Result (Plan (T × (U × (V × W)))) PlanEnd
      plan_0 a b c = if a
          then (lent_to_left m0 middle s k arguments pc.0 >>= λ all.
          ok_by (beside_right pc.1 (middle.plain s.1) arguments.t0.1) (m0.plan s.0 k (args_by left arguments) pc.0))
          else (lending_of (m0.lend s.0) (uses_1 b c) (args_by left arguments) >>= λ all.
          ok_by (beside_left pc.0 (m0.plain s.0) arguments.t0.0) (plan_1 b c))

      abbrev lent_at : Bool → Bool → Bool → Bool → Lent
      lent_at a b c d =
          lent_or a (lending_of (m0.lend s.0) (uses_0 a b c) (args_by left arguments)) >>= λ x.
          lent_or b (lending_of (m1.lend s.1.0) (uses_0 a b c) (args_by left (args_by right arguments))) >>= λ y.
          lent_or c (lending_of (m2.lend s.1.1.0) (uses_0 a b c) (args_by left (args_by right (args_by right arguments)))) >>= λ z.
          lent_or d (lending_of (m3.lend s.1.1.1) (uses_0 a b c) (args_by right (args_by right (args_by right arguments))))

      abbrev owner_plan_at : Bool → Bool → Bool → Result (Plan (Four T U V W)) PlanEnd
      owner_plan_at a b c =
          if a then ok_by (among pc (nest.plain s) arguments.t0 (λ t all. record all { seal = t })) (m0.plan s.0 k (args_by left arguments) pc.0) else
          if b then ok_by (among pc (nest.plain s) arguments.t0 (λ t all. record all { comp = t })) (m1.plan s.1.0 k (args_by left (args_by right arguments)) pc.1.0) else
          if c then ok_by (among pc (nest.plain s) arguments.t0 (λ t all. record all { flow = t })) (m2.plan s.1.1.0 k (args_by left (args_by right (args_by right arguments))) pc.1.1.0) else
          ok_by (among pc (nest.plain s) arguments.t0 (λ t all. record all { heap = t })) (m3.plan s.1.1.1 k (args_by right (args_by right (args_by right arguments))) pc.1.1.1)

      module _ (lends_1 : Lends (m1.lend s.1.0)) (lends_2 : Lends (m2.lend s.1.1.0)) (lends_3 : Lends (m3.lend s.1.1.1)) where
        lent_1 : (uses : ℕ) → lending_of (m1.lend s.1.0) uses (args_by left (args_by right arguments)) ≡ Ok tt
        lent_1 uses = lent_always (m1.lend s.1.0) lends_1 uses (args_by left (args_by right arguments))

        lent_2 : (uses : ℕ) → lending_of (m2.lend s.1.1.0) uses (args_by left (args_by right (args_by right arguments))) ≡ Ok tt
        lent_2 uses = lent_always (m2.lend s.1.1.0) lends_2 uses (args_by left (args_by right (args_by right arguments)))

        lent_3 : (uses : ℕ) → lending_of (m3.lend s.1.1.1) uses (args_by right (args_by right (args_by right arguments))) ≡ Ok tt
        lent_3 uses = lent_always (m3.lend s.1.1.1) lends_3 uses (args_by right (args_by right (args_by right arguments)))

        lends_inner : Lends (inner.lend s.1.1)
        lends_inner = lends_both m2 m3 s.1.1.0 s.1.1.1 lends_2 lends_3

        lends_middle : Lends (middle.lend s.1)
        lends_middle = lends_both m1 inner s.1.0 s.1.1 lends_1 lends_inner

        abbrev IsSamePlan : Bool → Bool → Bool → Bool → Type 0
        IsSamePlan a b c d = ok_by (plan_by parts_of) (plan_0 a b c) ≡ (lent_at a b c d >>= λ all. owner_plan_at a b c)

        of_seal_same : IsSamePlan true false false false
        of_seal_same =
            let plain = nest.plain s in
            let r = m0.plan s.0 k (args_by left arguments) pc.0 in
            let uses = m0.uses s.0 k in
            let put = among pc plain arguments.t0 (λ t all. record all { seal = t }) in
            last (lent_to_left m0 middle s k arguments pc.0) (plan_by parts_of) (of_seal pc plain arguments.t0) r (λ x. x) put r (ok_itself r) (seal_plan pc plain arguments.t0)
            ∙ (ap (λ l. l >>= λ all. ok_by put r) (left_lent m0 middle s lends_middle k arguments pc.0)
            ∙ sym (passed (Ok tt) _ _ _ (ok_by put r) (lent_1 uses) (lent_2 uses) (lent_3 uses)))

        of_comp_same : IsSamePlan false true false false
        of_comp_same =
            let plain = nest.plain s in
            let r = m1.plan s.1.0 k (args_by left (args_by right arguments)) pc.1.0 in
            let uses = m1.uses s.1.0 k in
            let put = among pc plain arguments.t0 (λ t all. record all { comp = t }) in
            let beside = beside_right pc.1.1 plain.1.1 arguments.t0.1.1 in
            last (lending_of (m0.lend s.0) uses (args_by left arguments)) (plan_by parts_of) (beside_left pc.0 plain.0 arguments.t0.0) _ beside put r
            (ap (λ l. l >>= λ all. ok_by beside r) (left_lent m1 inner s.1 lends_inner k (args_by right arguments) pc.1.0)) (comp_plan pc plain arguments.t0)
            ∙ sym (passed _ (Ok tt) _ _ (ok_by put r) refl (lent_2 uses) (lent_3 uses))

        of_flow_same : IsSamePlan false false true false
        of_flow_same =
            let plain = nest.plain s in
            let r = m2.plan s.1.1.0 k (args_by left (args_by right (args_by right arguments))) pc.1.1.0 in
            let uses = m2.uses s.1.1.0 k in
            let put = among pc plain arguments.t0 (λ t all. record all { flow = t }) in
            let before = beside_left pc.1.0 plain.1.0 arguments.t0.1.0 in
            let beside = beside_right pc.1.1.1 plain.1.1.1 arguments.t0.1.1.1 in
            last (lending_of (m0.lend s.0) uses (args_by left arguments)) (plan_by parts_of) (beside_left pc.0 plain.0 arguments.t0.0) _ (λ x. before (beside x)) put r
            (behind _ before _ beside r (lent_1 uses) (ap (λ l. l >>= λ all. ok_by beside r) (left_lent m2 m3 s.1.1 lends_3 k (args_by right (args_by right arguments)) pc.1.1.0))) (flow_plan pc plain arguments.t0)
            ∙ sym (passed _ _ (Ok tt) _ (ok_by put r) (lent_1 uses) refl (lent_3 uses))

        of_heap_same : IsSamePlan false false false true
        of_heap_same =
            let plain = nest.plain s in
            let r = m3.plan s.1.1.1 k (args_by right (args_by right (args_by right arguments))) pc.1.1.1 in
            let uses = m3.uses s.1.1.1 k in
            let put = among pc plain arguments.t0 (λ t all. record all { heap = t }) in
            let before = beside_left pc.1.0 plain.1.0 arguments.t0.1.0 in
            let beside = beside_left pc.1.1.0 plain.1.1.0 arguments.t0.1.1.0 in
            last (lending_of (m0.lend s.0) uses (args_by left arguments)) (plan_by parts_of) (beside_left pc.0 plain.0 arguments.t0.0) _ (λ x. before (beside x)) put r
            (behind _ before _ beside r (lent_1 uses) (ap (λ l. l >>= λ all. ok_by beside r) (lent_2 uses))) (heap_plan pc plain arguments.t0)
            ∙ sym (passed _ _ _ (Ok tt) (ok_by put r) (lent_1 uses) (lent_2 uses) refl)

        same_plan : (a b c d : Bool) → IsOneOf a b c d → IsSamePlan a b c d
        same_plan a b c d one = by_owner IsSamePlan of_seal_same of_comp_same of_flow_same of_heap_same a b c d one

  -- ---- words and commits

  abbrev Tag : Type 0
  Tag = T × (U × (V × W))

  -- a word of another's service, by both sides of a pair
  beside_pair : {A B X Y : Type 0} (m : PolicyModel A X) (n : PolicyModel B Y) (s : X × Y) (zero : Bool) (pc old : A × B)
      → tag_beside (both m n) s zero pc old ≡ (tag_beside m s.0 zero pc.0 old.0 >>= λ x. tag_beside n s.1 zero pc.1 old.1 >>= λ y. Ok (x, y))
  beside_pair m n s true pc old = refl
  beside_pair m n s false pc old = refl

  module _ (s : S × (R × (Q × P))) (p : Plan Tag) (old : Tag) where
    abbrev seal_beside : Result T Refused
    seal_beside = tag_beside m0 s.0 p.zero p.pc.0 old.0

    abbrev comp_beside : Result U Refused
    comp_beside = tag_beside m1 s.1.0 p.zero p.pc.1.0 old.1.0

    abbrev flow_beside : Result V Refused
    flow_beside = tag_beside m2 s.1.1.0 p.zero p.pc.1.1.0 old.1.1.0

    abbrev heap_beside : Result W Refused
    heap_beside = tag_beside m3 s.1.1.1 p.zero p.pc.1.1.1 old.1.1.1

    abbrev retag_2 : Bool → Result (V × W) Refused
    retag_2 c = if c
        then (m2.retag s.1.1.0 (plan_by left (plan_by right (plan_by right p))) old.1.1.0 >>= λ x. heap_beside >>= λ y. Ok (x, y))
        else (flow_beside >>= λ x. m3.retag s.1.1.1 (plan_by right (plan_by right (plan_by right p))) old.1.1.1 >>= λ y. Ok (x, y))

    abbrev retag_1 : Bool → Bool → Result (U × (V × W)) Refused
    retag_1 b c = if b
        then (m1.retag s.1.0 (plan_by left (plan_by right p)) old.1.0 >>= λ x. tag_beside inner s.1.1 p.zero p.pc.1.1 old.1.1 >>= λ y. Ok (x, y))
        else (comp_beside >>= λ x. retag_2 c >>= λ y. Ok (x, y))

    abbrev retag_0 : Bool → Bool → Bool → Result Tag Refused
    retag_0 a b c = if a
        then (m0.retag s.0 (plan_by left p) old.0 >>= λ x. tag_beside middle s.1 p.zero p.pc.1 old.1 >>= λ y. Ok (x, y))
        else (seal_beside >>= λ x. retag_1 b c >>= λ y. Ok (x, y))

    abbrev of_parts : Plan (Four T U V W)
    of_parts = plan_by parts_of p

    abbrev flat_retag_at : Bool → Bool → Bool → Bool → Result (Four T U V W) Refused
    flat_retag_at a b c d = in_a_row
        (if a then m0.retag s.0 (plan_by (λ t. t.seal) of_parts) old.0 else seal_beside)
        (if b then m1.retag s.1.0 (plan_by (λ t. t.comp) of_parts) old.1.0 else comp_beside)
        (if c then m2.retag s.1.1.0 (plan_by (λ t. t.flow) of_parts) old.1.1.0 else flow_beside)
        (if d then m3.retag s.1.1.1 (plan_by (λ t. t.heap) of_parts) old.1.1.1 else heap_beside)

    abbrev IsSameRetag : Bool → Bool → Bool → Bool → Type 0
    IsSameRetag a b c d = ok_by parts_of (retag_0 a b c) ≡ flat_retag_at a b c d

    inner_beside : tag_beside inner s.1.1 p.zero p.pc.1.1 old.1.1 ≡ (flow_beside >>= λ x. heap_beside >>= λ y. Ok (x, y))
    inner_beside = beside_pair m2 m3 s.1.1 p.zero p.pc.1.1 old.1.1

    middle_beside : tag_beside middle s.1 p.zero p.pc.1 old.1 ≡ (comp_beside >>= λ x. (flow_beside >>= λ y. heap_beside >>= λ z. Ok (y, z)) >>= λ others. Ok (x, others))
    middle_beside = beside_pair m1 inner s.1 p.zero p.pc.1 old.1 ∙ ap (λ r. comp_beside >>= λ x. r >>= λ others. Ok (x, others)) inner_beside

    same_retag : (a b c d : Bool) → IsOneOf a b c d → IsSameRetag a b c d
    same_retag a b c d one = by_owner IsSameRetag
        (let r = m0.retag s.0 (plan_by left p) old.0 in
        ap (λ others. ok_by parts_of (r >>= λ x. others >>= λ y. Ok (x, y))) middle_beside
        ∙ (four_in_a_row r comp_beside flow_beside heap_beside
        ∙ ap (λ q. in_a_row (m0.retag s.0 q old.0) comp_beside flow_beside heap_beside) (sym (seal_told p))))
        (let r = m1.retag s.1.0 (plan_by left (plan_by right p)) old.1.0 in
        ap (λ others. ok_by parts_of (seal_beside >>= λ x. (r >>= λ y. others >>= λ z. Ok (y, z)) >>= λ y. Ok (x, y))) inner_beside
        ∙ (four_in_a_row seal_beside r flow_beside heap_beside
        ∙ ap (λ q. in_a_row seal_beside (m1.retag s.1.0 q old.1.0) flow_beside heap_beside) (sym (comp_told p ∙ comp_nested p))))
        (four_in_a_row seal_beside comp_beside (m2.retag s.1.1.0 (plan_by left (plan_by right (plan_by right p))) old.1.1.0) heap_beside
        ∙ ap (λ q. in_a_row seal_beside comp_beside (m2.retag s.1.1.0 q old.1.1.0) heap_beside) (sym (flow_told p ∙ flow_nested p)))
        (four_in_a_row seal_beside comp_beside flow_beside (m3.retag s.1.1.1 (plan_by right (plan_by right (plan_by right p))) old.1.1.1)
        ∙ ap (λ q. in_a_row seal_beside comp_beside flow_beside (m3.retag s.1.1.1 q old.1.1.1)) (sym (heap_told p ∙ heap_nested p)))
        a b c d one

    abbrev FlatState : Type 0
    FlatState = Four S R Q P

    -- the owner alone changes what is its own, at a commit as where one is taken back
    module _ (change_0 : S → Plan T → S) (change_1 : R → Plan U → R) (change_2 : Q → Plan V → Q) (change_3 : P → Plan W → P) where
      abbrev changed_0 : Bool → Bool → Bool → S × (R × (Q × P))
      changed_0 a b c =
          if a then (change_0 s.0 (plan_by left p), s.1) else (
            s.0,
            if b then (change_1 s.1.0 (plan_by left (plan_by right p)), s.1.1) else (
              s.1.0,
              if c then (change_2 s.1.1.0 (plan_by left (plan_by right (plan_by right p))), s.1.1.1)
                  else (s.1.1.0, change_3 s.1.1.1 (plan_by right (plan_by right (plan_by right p)))),
            ),
          )

      abbrev flat_changed_at : Bool → Bool → Bool → Bool → FlatState
      flat_changed_at a b c d = record {
        seal = if a then change_0 s.0 (plan_by (λ t. t.seal) of_parts) else s.0;
        comp = if b then change_1 s.1.0 (plan_by (λ t. t.comp) of_parts) else s.1.0;
        flow = if c then change_2 s.1.1.0 (plan_by (λ t. t.flow) of_parts) else s.1.1.0;
        heap = if d then change_3 s.1.1.1 (plan_by (λ t. t.heap) of_parts) else s.1.1.1;
      }

      abbrev IsSameChange : Bool → Bool → Bool → Bool → Type 0
      IsSameChange a b c d = parts_of (changed_0 a b c) ≡ flat_changed_at a b c d

      same_change : (a b c d : Bool) → IsOneOf a b c d → IsSameChange a b c d
      same_change a b c d one = by_owner IsSameChange
          (ap (λ q. record (parts_of s) { seal = change_0 s.0 q }) (sym (seal_told p)))
          (ap (λ q. record (parts_of s) { comp = change_1 s.1.0 q }) (sym (comp_told p ∙ comp_nested p)))
          (ap (λ q. record (parts_of s) { flow = change_2 s.1.1.0 q }) (sym (flow_told p ∙ flow_nested p)))
          (ap (λ q. record (parts_of s) { heap = change_3 s.1.1.1 q }) (sym (heap_told p ∙ heap_nested p)))
          a b c d one

  -- ---- all of it

  joined_nothing : (text : List ℕ) → joint_text text [] ≡ text
  joined_nothing [] = refl
  joined_nothing (byte ∷ bytes) =
      let some : (length (byte ∷ bytes) == 0) ≡ false = grind (arith, nat_tests) in
      ap (λ (none : Bool). if none then [] else byte ∷ bytes) some

  module _ (apart : (s : S) (r : R × (Q × P)) → IsApart m0 middle s r) (apart_1 : (s : R) (r : Q × P) → IsApart m1 inner s r) (apart_2 : (s : Q) (r : P) → IsApart m2 m3 s r)
      (lends_1 : (s : R) → Lends (m1.lend s)) (lends_2 : (s : Q) → Lends (m2.lend s)) (lends_3 : (s : P) → Lends (m3.lend s)) where
    owned : (s : S × (R × (Q × P))) (k : ℕ) → nest.knows s k ≡ true → IsOneOf (m0.knows s.0 k) (m1.knows s.1.0 k) (m2.knows s.1.1.0 k) (m3.knows s.1.1.1 k)
    owned s k known = record { first = apart s.0 s.1 k; second = apart_1 s.1.0 s.1.1 k; third = apart_2 s.1.1.0 s.1.1.1 k; some = known }

    pub told_flat : IsToldAs parts_of parts_of nest (flat m0 m1 m2 m3)
    told_flat = record {
      plain = λ s. refl;
      rule = λ s g x. four_rules _ _ _ _;
      ignores = λ s g. refl;
      peeks = λ s. refl;
      peek = λ s shape x y. refl;
      knows = λ s k. refl;
      uses = λ s k. refl;
      lend = λ s t. refl;
      room = λ s. refl;
      plan = λ s k a pc known. same_plan s k a pc (lends_1 s.1.0) (lends_2 s.1.1.0) (lends_3 s.1.1.1) _ _ _ _ (owned s k known);
      retag = λ s p old known. same_retag s p old _ _ _ _ (owned s p.service known);
      wipe = λ s pc old. four_in_a_row _ _ _ _;
      commit = λ s p known. same_change s p p.pc m0.commit m1.commit m2.commit m3.commit _ _ _ _ (owned s p.service known);
      uncommit = λ s p known. same_change s p p.pc m0.uncommit m1.uncommit m2.uncommit m3.uncommit _ _ _ _ (owned s p.service known);
      start_pc = λ s b. refl;
      start_word = λ s b. refl;
      text = λ s t. ap (λ text. joint_text (m0.text s.0 t.0) (joint_text (m1.text s.1.0 t.1.0) (joint_text (m2.text s.1.1.0 t.1.1.0) text))) (sym (joined_nothing (m3.text s.1.1.1 t.1.1.1)));
      listed = λ s place. refl;
    }
