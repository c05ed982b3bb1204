-- A part of a part is a part of the whole.
use Rattle.std.proofs.Common.{◌≡◌, ℕ, ◌≤◌, Bool, true, false, ◌&&◌, Result, Ok, refl, sym, ap, ◌∙◌, subst, if◌then◌else◌, arith}
use Rattle.policy_trait.specs.Maps.{answer_by, args_by, plan_by}
use Rattle.policy_trait.specs.Model.{PolicyModel}
use Rattle.policy_trait.specs.declared.rules.Refused.{Refused}
use Rattle.policy_trait.specs.declared.services.Answer.{Answer}
use Rattle.policy_trait.specs.declared.services.Args.{Args}
use Rattle.policy_trait.specs.declared.services.Plan.{Plan}
use Rattle.policy_trait.specs.declared.services.Rest.{Rest}
use Rattle.policy_trait.specs.declared.services.Rest.TheVariants.{AsA0, Plain}
use Rattle.policy_product.specs.Both.{rest_tag, tag_beside}
use Rattle.policy_parts.specs.Part.{IsOthers, IsPart, Planned, value_after, others, own, word_tag}
use Rattle.policy_parts.specs.Lens.{Lens}
use Rattle.policy_parts.proofs.MapLemmas.{for_some_mapped, plan_twice}

-- a lens through another one
abbrev pub lens_within : {T S U V X Y : Type 0} → Lens T S U V → Lens U V X Y → Lens T S X Y
lens_within outer inner = record {
  tag = λ tag. inner.tag (outer.tag tag);
  value = λ value. inner.value (outer.value value);
  is_on = λ value. outer.is_on value && inner.is_on (outer.value value);
}

-- what the policy beside others does is done by its part beside others
module _ {U V X Y : Type 0} (m : PolicyModel U V) (q : PolicyModel X Y) (l : Lens U V X Y) (part : IsPart m q l) where
  not_known : (v : V) (k : ℕ) → l.is_on v ≡ true → m.knows v k ≡ false → q.knows (l.value v) k ≡ false
  not_known v k on unknown = not_so (q.knows (l.value v) k) (part.knows v k on)
    where
      not_so : (b : Bool) → (b ≡ true → m.knows v k ≡ true) → b ≡ false
      not_so false so = refl
      not_so true so = absurd (let known = so refl in cc (known, unknown))

  rest_within : (v : V) (rest : Rest) (a0 : U) → l.is_on v ≡ true
      → l.tag (rest_tag rest (m.plain v) a0) ≡ rest_tag rest (q.plain (l.value v)) (l.tag a0)
  rest_within v Plain a0 on = part.plain v on
  rest_within v AsA0 a0 on = refl

  others_within : (v : V) (a : Args U) (answer : Answer U) → l.is_on v ≡ true → IsOthers (m.plain v) a answer
      → IsOthers (q.plain (l.value v)) (args_by l.tag a) (answer_by l.tag answer)
  others_within v a answer on is = record {
    tag = ap l.tag is.tag ∙ rest_within v answer.rest a.t0 on;
    value = is.value;
  }

  planned_within : (v : V) (k : ℕ) (a : Args U) (pc : U) (p : Plan U) → l.is_on v ≡ true → Planned m v k a pc p
      → Planned q (l.value v) k (args_by l.tag a) (l.tag pc) (plan_by l.tag p)
  planned_within v k a pc p on (own known number given) = part.plan v k a pc p on known given
  planned_within v k a pc p on (others unknown number same answers) =
      others (not_known v k on unknown) number (ap l.tag same)
      (for_some_mapped (answer_by l.tag) (IsOthers (q.plain (l.value v)) (args_by l.tag a)) p.answer
      (λ answer is. others_within v a answer on (answers answer is)))

  beside_within : (zero : Bool) (v : V) (pc old new : U) → l.is_on v ≡ true → tag_beside m v zero pc old ≡ Ok new
      → tag_beside q (l.value v) zero (l.tag pc) (l.tag old) ≡ Ok (l.tag new)
  beside_within true v pc old new on e = part.wipe v pc old new on e
  beside_within false v pc old new on e = let same : old ≡ new = cc in ap kept_as same
    where
      kept_as : U → Result X Refused
      kept_as tag = Ok (l.tag tag)

  word_within : (owns : Bool) (v : V) (p : Plan U) (old new : U) → m.knows v p.service ≡ owns → l.is_on v ≡ true
      → (if owns then m.retag v p old else tag_beside m v p.zero p.pc old) ≡ Ok new
      → word_tag q (l.value v) (plan_by l.tag p) (l.tag old) ≡ Ok (l.tag new)
  word_within true v p old new owned on e = part.retag v p old new on owned e
  word_within false v p old new owned on e =
      ap (λ known. if known then q.retag (l.value v) (plan_by l.tag p) (l.tag old) else tag_beside q (l.value v) p.zero (l.tag p.pc) (l.tag old))
      (not_known v p.service on owned)
      ∙ beside_within p.zero v p.pc old new on e

  commit_within : (owns : Bool) (v : V) (p : Plan U) → m.knows v p.service ≡ owns → l.is_on v ≡ true
      → l.value (if owns then m.commit v p else v) ≡ value_after q (l.value v) (plan_by l.tag p)
  commit_within true v p owned on = part.commit v p on owned
  commit_within false v p owned on =
      ap (λ known. if known then q.commit (l.value v) (plan_by l.tag p) else l.value v) (sym (not_known v p.service on owned))

  stays_within : (owns : Bool) (v : V) (p : Plan U) → m.knows v p.service ≡ owns → l.is_on v ≡ true
      → l.is_on (if owns then m.commit v p else v) ≡ true
  stays_within true v p owned on = part.stays v p on owned
  stays_within false v p owned on = on

module _ {T S U V X Y : Type 0} (w : PolicyModel T S) (m : PolicyModel U V) (q : PolicyModel X Y) (l : Lens T S U V) (k : Lens U V X Y)
    (whole : IsPart w m l) (part : IsPart m q k) where
  abbrev is_on : S → Bool
  is_on s = l.is_on s && k.is_on (l.value s)

  outer_on : (a b : Bool) → (a && b) ≡ true → a ≡ true
  outer_on true b on = refl
  outer_on false b on = on

  inner_on : (a b : Bool) → (a && b) ≡ true → b ≡ true
  inner_on true b on = on
  inner_on false b on = absurd (cc on)

  both_on : {a b : Bool} → a ≡ true → b ≡ true → (a && b) ≡ true
  both_on {a} {b} first second = ap (λ x. x && b) first ∙ second

  l_on : (s : S) → is_on s ≡ true → l.is_on s ≡ true
  l_on s on = outer_on (l.is_on s) (k.is_on (l.value s)) on

  k_on : (s : S) → is_on s ≡ true → k.is_on (l.value s) ≡ true
  k_on s on = inner_on (l.is_on s) (k.is_on (l.value s)) on

  pub part_of_part : IsPart w q (lens_within l k)
  part_of_part = record {
    plain = λ s on. ap k.tag (whole.plain s (l_on s on)) ∙ part.plain (l.value s) (k_on s on);
    room = λ s on. within_room (part.room (l.value s) (k_on s on)) (whole.room s (l_on s on));
    knows = λ s number on known. whole.knows s number (l_on s on) (part.knows (l.value s) number (k_on s on) known);
    rule = λ s g x outs on e. part.rule (l.value s) g _ _ (k_on s on) (whole.rule s g x outs (l_on s on) e);
    wipe = λ s pc old new on e. part.wipe (l.value s) _ _ _ (k_on s on) (whole.wipe s pc old new (l_on s on) e);
    plan = λ s number a pc p on known e.
        subst (Planned q (k.value (l.value s)) number (args_by (λ tag. k.tag (l.tag tag)) a) (k.tag (l.tag pc))) (plan_twice k.tag l.tag p)
        (planned_within m q k part (l.value s) number (args_by l.tag a) (l.tag pc) (plan_by l.tag p) (k_on s on)
        (whole.plan s number a pc p (l_on s on) known e));
    retag = λ s p old new on known e.
        subst (λ (r : Plan X). word_tag q (k.value (l.value s)) r (k.tag (l.tag old)) ≡ Ok (k.tag (l.tag new))) (plan_twice k.tag l.tag p)
        (word_within m q k part (m.knows (l.value s) p.service) (l.value s) (plan_by l.tag p) (l.tag old) (l.tag new) refl (k_on s on)
        (whole.retag s p old new (l_on s on) known e));
    commit = λ s p on known.
        ap k.value (whole.commit s p (l_on s on) known)
        ∙ commit_within m q k part (m.knows (l.value s) p.service) (l.value s) (plan_by l.tag p) refl (k_on s on)
        ∙ ap (λ (r : Plan X). value_after q (k.value (l.value s)) r) (plan_twice k.tag l.tag p);
    stays = λ s p on known.
        both_on (whole.stays s p (l_on s on) known)
        (ap k.is_on (whole.commit s p (l_on s on) known)
        ∙ stays_within m q k part (m.knows (l.value s) p.service) (l.value s) (plan_by l.tag p) refl (k_on s on));
    start_pc = λ s b on. ap k.tag (whole.start_pc s b (l_on s on)) ∙ part.start_pc (l.value s) b (k_on s on);
    start_word = λ s b on. ap k.tag (whole.start_word s b (l_on s on)) ∙ part.start_word (l.value s) b (k_on s on);
  }
    where
      within_room : {a b c : ℕ} → a ≤ b → b ≤ c → a ≤ c
      within_room first second = omega (arith, first, second)
