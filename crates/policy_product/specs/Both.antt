-- Two policies as one. Its tags are pairs, and its rule is that of both, the left part first.
use Rattle.std.specs.Prelude.{◌≡◌, ℕ, ◌==◌, max, nat_le, Bool, true, false, ◌&&◌, ◌||◌, List, ◌++◌, codes, length, Option, Some, None, option_map, Result, Ok, Err, if◌then◌else◌}
use Rattle.policy_trait.specs.Maps.{args_by, ins_by, ok_by, plan_by}
use Rattle.policy_trait.specs.Model.{PolicyModel}
use Rattle.shared_terms.specs.Steps.{◌>>=◌}
use Rattle.policy_trait.specs.declared.rules.Mask.{Mask}
use Rattle.policy_trait.specs.declared.rules.Outs.{Outs}
use Rattle.policy_trait.specs.declared.rules.Part.{Part}
use Rattle.policy_trait.specs.declared.rules.Refused.{Refused}
use Rattle.policy_trait.specs.declared.rules.Why.{Why}
use Rattle.policy_trait.specs.declared.rules.Why.TheVariants.{Lend}
use Rattle.policy_trait.specs.declared.services.Answer.{Answer}
use Rattle.policy_trait.specs.declared.services.Args.{Args}
use Rattle.policy_trait.specs.declared.services.Plan.{Plan}
use Rattle.policy_trait.specs.declared.services.PlanEnd.{PlanEnd}
use Rattle.policy_trait.specs.declared.services.PlanEnd.TheVariants as plan_end
use Rattle.policy_trait.specs.declared.services.Rest.{Rest}
use Rattle.policy_trait.specs.declared.services.Rest.TheVariants.{AsA0, Plain}

-- the first part of a pair
abbrev pub left : {A B : Type 0} → A × B → A
left pair = pair.0

-- the second part of a pair
abbrev pub right : {A B : Type 0} → A × B → B
right pair = pair.1

-- no service is known to both
abbrev pub IsApart : {T U S R : Type 0} → PolicyModel T S → PolicyModel U R → S → R → Type 0
IsApart m n s r = (k : ℕ) → m.knows s k ≡ true → n.knows r k ≡ false

-- ---- the rule

-- the outputs of both, paired
abbrev pub both_outs : {T U : Type 0} → Outs T → Outs U → Outs (T × U)
both_outs x y = record { pc = (x.pc, y.pc); result = (x.result, y.result) }

-- an input is ignored where both ignore it
abbrev pub both_ignore : Mask → Mask → Mask
both_ignore a b = record { pc = a.pc && b.pc; ci = a.ci && b.ci; t1 = a.t1 && b.t1; t2 = a.t2 && b.t2; tm = a.tm && b.tm }

-- ---- the services: the parts that do not own the service lend its arguments first, from left to right

-- one tag, where it is used
abbrev pub lent_if : {T : Type 0} → (T → Result (Unit {0}) Part) → Bool → T → Result (Unit {0}) PlanEnd
lent_if lend false tag = Ok tt
lent_if lend true tag = or_refused (lend tag)
  where
    or_refused : Result (Unit {0}) Part → Result (Unit {0}) PlanEnd
    or_refused (Ok x) = Ok x
    or_refused (Err part) = Err (plan_end.Refused (record { part = part; why = Lend }))

-- the arguments that are used, one by one
abbrev pub lending_of : {T : Type 0} → (T → Result (Unit {0}) Part) → ℕ → Args T → Result (Unit {0}) PlanEnd
lending_of lend uses a = lent_if lend (nat_le 1 uses) a.t0 >>= λ first. lent_if lend (nat_le 2 uses) a.t1 >>= λ second. lent_if lend (nat_le 3 uses) a.t2

-- the arguments with values of 0, of which the tags alone are left
abbrev pub tags_alone : {T : Type 0} → Args T → Args T
tags_alone a = record a { a0 = 0; a1 = 0; a2 = 0 }

-- the reason is that an argument was not lent
abbrev pub is_lend : Why → Bool
is_lend Lend = true
is_lend _ = false

-- the plan ends since an argument was not lent
abbrev pub is_unlent : PlanEnd → Bool
is_unlent (plan_end.Refused refused) = is_lend refused.why
is_unlent _ = false

-- of two that decline, an owner's own part is asked before those beside the owner
abbrev pub first_declined : {T : Type 0} → Result (Unit {0}) PlanEnd → Result (Plan T) PlanEnd → Result (Unit {0}) PlanEnd
first_declined (Ok x) own = Ok x
first_declined (Err beside) (Ok plan) = Err beside
first_declined (Err beside) (Err own) = Err (if is_unlent own then own else beside)

-- the other component of an answer: plain, or that of a0
abbrev pub rest_tag : {U : Type 0} → Rest → U → U → U
rest_tag Plain plain a0 = plain
rest_tag AsA0 plain a0 = a0

-- an answer of the left part, with the right part's tag
abbrev pub answer_beside : {T U : Type 0} → U → U → Answer T → Answer (T × U)
answer_beside plain a0 x = record { value = x.value; tag = (x.tag, rest_tag x.rest plain a0); rest = x.rest }

-- a plan of the left part, with the right part's tags: of the pc, the plain one and that of a0
abbrev pub beside_right : {T U : Type 0} → U → U → U → Plan T → Plan (T × U)
beside_right pc plain a0 p =
    record { service = p.service; pc = (p.pc, pc); note = p.note; range = p.range; zero = p.zero; answer = option_map (answer_beside plain a0) p.answer }

-- an answer of the right part, with the left part's tag
abbrev pub answer_before : {T U : Type 0} → T → T → Answer U → Answer (T × U)
answer_before plain a0 x = record { value = x.value; tag = (rest_tag x.rest plain a0, x.tag); rest = x.rest }

-- a plan of the right part likewise, with the left part's tags
abbrev pub beside_left : {T U : Type 0} → T → T → T → Plan U → Plan (T × U)
beside_left pc plain a0 p =
    record { service = p.service; pc = (pc, p.pc); note = p.note; range = p.range; zero = p.zero; answer = option_map (answer_before plain a0) p.answer }

-- a word of another part's service: wiped where it is zeroed, else left
abbrev pub tag_beside : {T S : Type 0} → PolicyModel T S → S → Bool → T → T → Result T Refused
tag_beside m s zero pc old = if zero then m.wipe s pc old else Ok old

-- texts that are not empty, with a bar between
abbrev pub joint_text : List ℕ → List ℕ → List ℕ
joint_text x y = if length x == 0 then y else if length y == 0 then x else x ++ codes "|" ++ y

-- the first, or else the second
abbrev pub or_else : {A : Type 0} → Option A → Option A → Option A
or_else None other = other
or_else (Some x) other = Some x

module _ {T U S R : Type 0} (m : PolicyModel T S) (n : PolicyModel U R) where
  -- whether the right part lends the arguments of a service that the left part owns. The parts within the left part are asked before it:
  -- where one of them declines too, that one is told. Who declines is seen by tags alone
  abbrev pub lent_to_left : S × R → ℕ → Args (T × U) → T → Result (Unit {0}) PlanEnd
  lent_to_left s number a pc =
      first_declined (lending_of (n.lend s.1) (m.uses s.0 number) (args_by right a)) (m.plan s.0 number (tags_alone (args_by left a)) pc)

  -- the plan of a service that the left part owns, to which the right part lends its arguments
  abbrev pub plan_of_left : S × R → ℕ → Args (T × U) → T × U → Result (Plan (T × U)) PlanEnd
  plan_of_left s number a pc =
      lent_to_left s number a pc.0 >>= λ all.
      ok_by (beside_right pc.1 (n.plain s.1) a.t0.1) (m.plan s.0 number (args_by left a) pc.0)

  -- the same for the right part
  abbrev pub plan_of_right : S × R → ℕ → Args (T × U) → T × U → Result (Plan (T × U)) PlanEnd
  plan_of_right s number a pc =
      lending_of (m.lend s.0) (n.uses s.1 number) (args_by left a) >>= λ all.
      ok_by (beside_left pc.0 (m.plain s.0) a.t0.0) (n.plan s.1 number (args_by right a) pc.1)

  -- the new tag of a word of the left part's service
  abbrev pub retag_of_left : S × R → Plan (T × U) → T × U → Result (T × U) Refused
  retag_of_left s p old =
      m.retag s.0 (plan_by left p) old.0 >>= λ x. tag_beside n s.1 p.zero p.pc.1 old.1 >>= λ y. Ok (x, y)

  -- the same for the right part's
  abbrev pub retag_of_right : S × R → Plan (T × U) → T × U → Result (T × U) Refused
  retag_of_right s p old =
      tag_beside m s.0 p.zero p.pc.0 old.0 >>= λ x. n.retag s.1 (plan_by right p) old.1 >>= λ y. Ok (x, y)

  -- the two as one policy: both must allow, and a service is owned by the left part where that knows it
  abbrev pub both : PolicyModel (T × U) (S × R)
  both = record {
    plain = λ s. (m.plain s.0, n.plain s.1);
    rule = λ s g x. m.rule s.0 g (ins_by left x) >>= λ first. n.rule s.1 g (ins_by right x) >>= λ second. Ok (both_outs first second);
    ignores = λ s g. both_ignore (m.ignores s.0 g) (n.ignores s.1 g);
    peeks = λ s. m.peeks s.0 || n.peeks s.1;
    peek = λ s shape first second. m.peek s.0 shape first.0 second.0 >>= λ seen. n.peek s.1 shape first.1 second.1;
    knows = λ s number. m.knows s.0 number || n.knows s.1 number;
    uses = λ s number. if m.knows s.0 number then m.uses s.0 number else n.uses s.1 number;
    lend = λ s tag. m.lend s.0 tag.0 >>= λ first. n.lend s.1 tag.1;
    room = λ s. max (m.room s.0) (n.room s.1);
    plan = λ s number a pc. if m.knows s.0 number then plan_of_left s number a pc else plan_of_right s number a pc;
    retag = λ s p old. if m.knows s.0 p.service then retag_of_left s p old else retag_of_right s p old;
    wipe = λ s pc old. m.wipe s.0 pc.0 old.0 >>= λ x. n.wipe s.1 pc.1 old.1 >>= λ y. Ok (x, y);
    commit = λ s p. if m.knows s.0 p.service then (m.commit s.0 (plan_by left p), s.1) else (s.0, n.commit s.1 (plan_by right p));
    uncommit = λ s p. if m.knows s.0 p.service then (m.uncommit s.0 (plan_by left p), s.1) else (s.0, n.uncommit s.1 (plan_by right p));
    start_pc = λ s birth. (m.start_pc s.0 birth, n.start_pc s.1 birth);
    start_word = λ s birth. (m.start_word s.0 birth, n.start_word s.1 birth);
    text = λ s tag. joint_text (m.text s.0 tag.0) (n.text s.1 tag.1);
    listed = λ s place. or_else (m.listed s.0 place) (n.listed s.1 place);
  }

-- each part's own invariant
abbrev pub BothHold : {S R : Type 0} → (S → Type 0) → (R → Type 0) → S × R → Type 0
BothHold holds also s = holds s.0 × also s.1
