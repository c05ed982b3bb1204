-- Each of two policies is a part of the pair, and so is a part of either.
use Rattle.std.proofs.Common.{◌≡◌, ℕ, Bool, true, false, not, ◌||◌, Option, Result, Ok, Err, option_map, refl, sym, ap, ◌∙◌, subst, if◌then◌else◌}
use Rattle.std.specs.Option.{ForSome}
use Rattle.std.proofs.Math.Nat.{le-max_left, le-max_right}
use Rattle.std.proofs.lemmas.Iterator.Adapters.{option_map_id}
use Rattle.policy_trait.specs.PolicyLaws.{KeepsLaws, KeepsValue}
use Rattle.policy_trait.specs.Maps.{answer_by, args_by, ok_by, outs_by, plan_by}
use Rattle.policy_trait.specs.Model.{PolicyModel}
use Rattle.shared_terms.specs.Steps.{◌>>=◌}
use Rattle.policy_trait.specs.declared.rules.Refused.{Refused}
use Rattle.policy_trait.specs.declared.services.Answer.{Answer}
use Rattle.policy_trait.specs.declared.services.Args.{Args}
use Rattle.policy_trait.specs.declared.services.Plan.{Plan}
use Rattle.policy_trait.specs.declared.services.PlanEnd.{PlanEnd}
use Rattle.policy_product.specs.Both.{IsApart, answer_before, answer_beside, beside_left, beside_right, both, both_outs, left, lending_of, lent_to_left, plan_of_left, plan_of_right, rest_tag, retag_of_left, retag_of_right, right, tag_beside}
use Rattle.policy_product.specs.BothLaws.{both_laws}
use Rattle.policy_parts.specs.Part.{IsPart, Planned, value_after, others, own, word_tag}
use Rattle.policy_parts.specs.Lens.{Lens, left_lens, right_lens}
use Rattle.policy_parts.proofs.MapLemmas.{for_some_mapped, mapped_twice, value_mapped}
use Rattle.policy_parts.proofs.WithinLemmas.{part_of_part}

-- ---- what came of two answers, and of a plan

abbrev ok : {A E : Type 0} → A → Result A E
ok x = Ok x

first_came : {A B C E : Type 0} (put : A → B → C) (take : C → A) → ((x : A) (y : B) → take (put x y) ≡ x)
    → (first : Result A E) (second : Result B E) (c : C) → (first >>= λ x. second >>= λ y. Ok (put x y)) ≡ Ok c → first ≡ Ok (take c)
first_came put take is (Ok x) (Ok y) c e = let same : put x y ≡ c = cc in ap ok (sym (is x y) ∙ ap take same)
first_came put take is (Ok x) (Err end) c e = absurd (let h : Err end ≡ Ok c = e in cc)
first_came put take is (Err end) second c e = absurd (let h : Err end ≡ Ok c = e in cc)

second_came : {A B C E : Type 0} (put : A → B → C) (take : C → B) → ((x : A) (y : B) → take (put x y) ≡ y)
    → (first : Result A E) (second : Result B E) (c : C) → (first >>= λ x. second >>= λ y. Ok (put x y)) ≡ Ok c → second ≡ Ok (take c)
second_came put take is (Ok x) (Ok y) c e = let same : put x y ≡ c = cc in ap ok (sym (is x y) ∙ ap take same)
second_came put take is (Ok x) (Err end) c e = absurd (let h : Err end ≡ Ok c = e in cc)
second_came put take is (Err end) second c e = absurd (let h : Err end ≡ Ok c = e in cc)

left_came : {A B E : Type 0} (first : Result A E) (second : Result B E) (c : A × B) → (first >>= λ x. second >>= λ y. Ok (x, y)) ≡ Ok c
    → first ≡ Ok c.0
left_came first second c e = first_came (λ x y. (x, y)) left (λ x y. refl) first second c e

right_came : {A B E : Type 0} (first : Result A E) (second : Result B E) (c : A × B) → (first >>= λ x. second >>= λ y. Ok (x, y)) ≡ Ok c
    → second ≡ Ok c.1
right_came first second c e = second_came (λ x y. (x, y)) right (λ x y. refl) first second c e

-- what holds of each plan put beside the other's tags holds of the one that came
plan_came : {T W : Type 0} (P : Result (Plan T) PlanEnd → Plan W → Type 0) (put : Plan T → Plan W) → ((q : Plan T) → P (Ok q) (put q))
    → (all : Result (Unit {0}) PlanEnd) (r : Result (Plan T) PlanEnd) (p : Plan W) → (all >>= λ is_lent. ok_by put r) ≡ Ok p → P r p
plan_came P put each (Ok x) (Ok q) p e = let same : put q ≡ p = cc in subst (P (Ok q)) same (each q)
plan_came P put each (Ok x) (Err end) p e = absurd (let h : Err end ≡ Ok p = e in cc)
plan_came P put each (Err end) r p e = absurd (let h : Err end ≡ Ok p = e in cc)

-- a plan put beside the other's tags, and read again, is the plan
left_again : {T U : Type 0} (pc plain a0 : U) (q : Plan T) → plan_by left (beside_right pc plain a0 q) ≡ q
left_again pc plain a0 q =
    ap (λ x. record q { answer = x }) (mapped_twice (answer_by left) (answer_beside plain a0) q.answer ∙ option_map_id q.answer)

right_again : {T U : Type 0} (pc plain a0 : T) (q : Plan U) → plan_by right (beside_left pc plain a0 q) ≡ q
right_again pc plain a0 q =
    ap (λ x. record q { answer = x }) (mapped_twice (answer_by right) (answer_before plain a0) q.answer ∙ option_map_id q.answer)

-- the tags that a plan of another's service has here: of the pc this one, of an answer the plain one or that of a0
record IsBeside {T W : Type 0} (read : W → T) (tag plain a0 : T) (p : Plan W) : Type 0 where
  pc : read p.pc ≡ tag
  answer : ForSome (option_map (answer_by read) p.answer) (λ x. x.tag ≡ rest_tag x.rest plain a0)

answer_read : {T U W : Type 0} (read : W → T) (put : Answer U → Answer W) (plain a0 : T)
    → ((x : Answer U) → read (put x).tag ≡ rest_tag (put x).rest plain a0) → (answer : Option (Answer U))
    → ForSome (option_map (answer_by read) (option_map put answer)) (λ x. x.tag ≡ rest_tag x.rest plain a0)
answer_read {T} read put plain a0 is answer =
    for_some_mapped (answer_by read) IsRest (option_map put answer) (for_some_mapped put (λ y. IsRest (answer_by read y)) answer (λ x at. is x))
  where
    IsRest : Answer T → Type 0
    IsRest x = x.tag ≡ rest_tag x.rest plain a0

left_beside : {T U : Type 0} (tag plain a0 : T) (q : Plan U) → IsBeside left tag plain a0 (beside_left tag plain a0 q)
left_beside tag plain a0 q = record { pc = refl; answer = answer_read left (answer_before plain a0) plain a0 (λ x. refl) q.answer }

right_beside : {T U : Type 0} (tag plain a0 : U) (q : Plan T) → IsBeside right tag plain a0 (beside_right tag plain a0 q)
right_beside tag plain a0 q = record { pc = refl; answer = answer_read right (answer_beside plain a0) plain a0 (λ x. refl) q.answer }

-- such a plan, as a policy that does not know the service sees it
of_others : {T W V : Type 0} (m : PolicyModel T V) (v : V) (read : W → T) (k : ℕ) (a : Args W) (pc : W) (p : Plan W) → p.service ≡ k
    → ForSome p.answer (KeepsValue a) → m.knows v k ≡ false → IsBeside read (read pc) (m.plain v) (read a.t0) p
    → Planned m v k (args_by read a) (read pc) (plan_by read p)
of_others m v read k a pc p number values unknown beside =
    let kept = value_mapped read a p.answer values in
    others unknown number beside.pc (λ answer is. record { tag = beside.answer answer is; value = kept answer is })

-- ---- the left policy and the right one within the pair

abbrev in_left : {T U S R : Type 0} → Lens (T × U) (S × R) T S
in_left = record { tag = left; value = left; is_on = λ values. true }

abbrev in_right : {T U S R : Type 0} → Lens (T × U) (S × R) U R
in_right = record { tag = right; value = right; is_on = λ values. true }

module _ {T U S R : Type 0} (m : PolicyModel T S) (n : PolicyModel U R) (holds : S → Type 0) (also : R → Type 0)
    (laws : KeepsLaws m holds) (also_laws : KeepsLaws n also) where
  -- what the pair does, by whose service it is
  abbrev planned : Bool → S × R → ℕ → Args (T × U) → T × U → Result (Plan (T × U)) PlanEnd
  planned owns s k a pc = if owns then plan_of_left m n s k a pc else plan_of_right m n s k a pc

  abbrev retagged : Bool → S × R → Plan (T × U) → T × U → Result (T × U) Refused
  retagged owns s p old = if owns then retag_of_left m n s p old else retag_of_right m n s p old

  abbrev carried_out : Bool → S × R → Plan (T × U) → S × R
  carried_out owns s p = if owns then (m.commit s.0 (plan_by left p), s.1) else (s.0, n.commit s.1 (plan_by right p))

  -- a plan's service is the number that was asked, and an answer with a0's tags has its value
  number_of : (s : S × R) (k : ℕ) (a : Args (T × U)) (pc : T × U) (p : Plan (T × U)) → (both m n).knows s k ≡ true
      → (both m n).plan s k a pc ≡ Ok p → p.service ≡ k
  number_of = (both_laws m n holds also laws also_laws).service

  values_of : (s : S × R) (k : ℕ) (a : Args (T × U)) (pc : T × U) (p : Plan (T × U)) → (both m n).knows s k ≡ true
      → (both m n).plan s k a pc ≡ Ok p → ForSome p.answer (KeepsValue a)
  values_of = (both_laws m n holds also laws also_laws).value

  -- ---- the left one

  left_planned : (owns : Bool) (s : S × R) (k : ℕ) (a : Args (T × U)) (pc : T × U) (p : Plan (T × U)) → m.knows s.0 k ≡ owns
      → p.service ≡ k → ForSome p.answer (KeepsValue a) → planned owns s k a pc ≡ Ok p
      → Planned m s.0 k (args_by left a) pc.0 (plan_by left p)
  left_planned true s k a pc p owned number values e =
      own owned number
      (plan_came (λ r q. r ≡ Ok (plan_by left q)) _ (λ q. ap ok (sym (left_again pc.1 (n.plain s.1) a.t0.1 q)))
      (lent_to_left m n s k a pc.0) _ p e)
  left_planned false s k a pc p owned number values e =
      of_others m s.0 left k a pc p number values owned
      (plan_came (λ r. IsBeside left pc.0 (m.plain s.0) a.t0.0) _ (left_beside pc.0 (m.plain s.0) a.t0.0)
      (lending_of (m.lend s.0) (n.uses s.1 k) (args_by left a)) _ p e)

  left_retagged : (owns : Bool) (s : S × R) (p : Plan (T × U)) (old new : T × U) → retagged owns s p old ≡ Ok new
      → (if owns then m.retag s.0 (plan_by left p) old.0 else tag_beside m s.0 p.zero p.pc.0 old.0) ≡ Ok new.0
  left_retagged true s p old new e = left_came _ _ new e
  left_retagged false s p old new e = left_came _ _ new e

  left_committed : (owns : Bool) (s : S × R) (p : Plan (T × U))
      → left (carried_out owns s p) ≡ (if owns then m.commit s.0 (plan_by left p) else s.0)
  left_committed true s p = refl
  left_committed false s p = refl

  left_is_part : IsPart (both m n) m in_left
  left_is_part = record {
    plain = λ s on. refl;
    room = λ s on. le-max_left (m.room s.0) (n.room s.1);
    knows = λ s k on known. ap (λ b. b || n.knows s.1 k) known;
    rule = λ s g x outs on e. first_came both_outs (outs_by left) (λ x y. refl) _ _ outs e;
    wipe = λ s pc old new on e. left_came _ _ new e;
    plan = λ s k a pc p on known e. left_planned (m.knows s.0 k) s k a pc p refl (number_of s k a pc p known e) (values_of s k a pc p known e) e;
    retag = λ s p old new on known e. left_retagged (m.knows s.0 p.service) s p old new e;
    commit = λ s p on known. left_committed (m.knows s.0 p.service) s p;
    stays = λ s p on known. refl;
    start_pc = λ s b on. refl;
    start_word = λ s b on. refl;
  }

  pub part_of_left : {X Y : Type 0} (q : PolicyModel X Y) (l : Lens T S X Y) → IsPart m q l → IsPart (both m n) q (left_lens l)
  part_of_left q l part = part_of_part (both m n) m q in_left l left_is_part part

  -- ---- the right one, where no service is known to both

  module _ (apart : (s : S) (r : R) → IsApart m n s r) where
    -- it knows those that the left one does not
    right_knows : (owns : Bool) (s : S × R) (k : ℕ) → m.knows s.0 k ≡ owns → (both m n).knows s k ≡ true → n.knows s.1 k ≡ not owns
    right_knows true s k owned known = apart s.0 s.1 k owned
    right_knows false s k owned known = ap (λ b. b || n.knows s.1 k) (sym owned) ∙ known

    right_planned : (owns : Bool) (s : S × R) (k : ℕ) (a : Args (T × U)) (pc : T × U) (p : Plan (T × U)) → n.knows s.1 k ≡ not owns
        → p.service ≡ k → ForSome p.answer (KeepsValue a) → planned owns s k a pc ≡ Ok p
        → Planned n s.1 k (args_by right a) pc.1 (plan_by right p)
    right_planned true s k a pc p owned number values e =
        of_others n s.1 right k a pc p number values owned
        (plan_came (λ r. IsBeside right pc.1 (n.plain s.1) a.t0.1) _ (right_beside pc.1 (n.plain s.1) a.t0.1)
        (lent_to_left m n s k a pc.0) _ p e)
    right_planned false s k a pc p owned number values e =
        own owned number
        (plan_came (λ r q. r ≡ Ok (plan_by right q)) _ (λ q. ap ok (sym (right_again pc.0 (m.plain s.0) a.t0.0 q)))
        (lending_of (m.lend s.0) (n.uses s.1 k) (args_by left a)) _ p e)

    abbrev right_word : S × R → Plan (T × U) → T × U → Bool → Result U Refused
    right_word s p old owned = if owned then n.retag s.1 (plan_by right p) old.1 else tag_beside n s.1 p.zero p.pc.1 old.1

    right_retagged : (owns : Bool) (s : S × R) (p : Plan (T × U)) (old new : T × U) → n.knows s.1 p.service ≡ not owns
        → retagged owns s p old ≡ Ok new → word_tag n s.1 (plan_by right p) old.1 ≡ Ok new.1
    right_retagged true s p old new owned e = ap (right_word s p old) owned ∙ right_came _ _ new e
    right_retagged false s p old new owned e = ap (right_word s p old) owned ∙ right_came _ _ new e

    right_committed : (owns : Bool) (s : S × R) (p : Plan (T × U)) → n.knows s.1 p.service ≡ not owns
        → right (carried_out owns s p) ≡ value_after n s.1 (plan_by right p)
    right_committed true s p owned = ap (λ known. if known then n.commit s.1 (plan_by right p) else s.1) (sym owned)
    right_committed false s p owned = ap (λ known. if known then n.commit s.1 (plan_by right p) else s.1) (sym owned)

    right_is_part : IsPart (both m n) n in_right
    right_is_part = record {
      plain = λ s on. refl;
      room = λ s on. le-max_right (m.room s.0) (n.room s.1);
      knows = λ s k on known. either (m.knows s.0 k) (n.knows s.1 k) known;
      rule = λ s g x outs on e. second_came both_outs (outs_by right) (λ x y. refl) _ _ outs e;
      wipe = λ s pc old new on e. right_came _ _ new e;
      plan = λ s k a pc p on known e.
          right_planned (m.knows s.0 k) s k a pc p (right_knows _ s k refl known) (number_of s k a pc p known e) (values_of s k a pc p known e) e;
      retag = λ s p old new on known e. right_retagged (m.knows s.0 p.service) s p old new (right_knows _ s p.service refl known) e;
      commit = λ s p on known. right_committed (m.knows s.0 p.service) s p (right_knows _ s p.service refl known);
      stays = λ s p on known. refl;
      start_pc = λ s b on. refl;
      start_word = λ s b on. refl;
    }
      where
        either : (a b : Bool) → b ≡ true → (a || b) ≡ true
        either true b is = refl
        either false b is = is

    pub part_of_right : {X Y : Type 0} (q : PolicyModel X Y) (l : Lens U R X Y) → IsPart n q l → IsPart (both m n) q (right_lens l)
    part_of_right q l part = part_of_part (both m n) n q in_right l right_is_part part
