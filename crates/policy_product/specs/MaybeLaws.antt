-- A policy that may be off keeps the laws that the policy keeps.
use Rattle.std.proofs.Common.{◌≡◌, ℕ, ◌≤◌, Bool, true, false, Option, Some, None, Result, Ok, Err, IsTrue, option_map, refl, sym, ap, ◌∙◌, subst, if◌then◌else◌}
use Rattle.std.proofs.lemmas.Option.{same_Some}
use Rattle.std.specs.Option.{ForSome}
use Rattle.rv_decode.specs.declared.groups.Group.{Group}
use Rattle.policy_trait.specs.PolicyLaws.{AgreesOnUsed, AreWords, HasWord, IsRange, KeepsLaws, KeepsValue, SameRules}
use Rattle.policy_trait.specs.UseLaws.{agrees_by, words_by}
use Rattle.policy_trait.specs.Model.{CanPlan, IsCommitted, IsGiven, PolicyModel, masked_inputs}
use Rattle.policy_trait.specs.declared.rules.Ins.{Ins}
use Rattle.policy_trait.specs.declared.rules.Mask.{Mask}
use Rattle.policy_trait.specs.declared.rules.Shape.{Shape}
use Rattle.policy_trait.specs.declared.services.Answer.{Answer}
use Rattle.policy_trait.specs.declared.services.Args.{Args}
use Rattle.policy_trait.specs.declared.services.Plan.{Plan}
use Rattle.policy_trait.specs.declared.services.PlanEnd.{PlanEnd}
use Rattle.policy_trait.specs.declared.services.Words.{Words}
use Rattle.policy_trait.specs.Maps.{answer_by, args_by, ins_by, ok_by, outs_by, plan_by}
use Rattle.policy_product.specs.Maybe.{HoldsIn, MaybeHolds, commit_in, ignores_in, knows_in, maybe, peek_in, peeks_in, plain_in, plan_in, read_by, retag_in, rule_in, some_tag, tag_or, uncommit_in, uses_in}
use Rattle.policy_product.specs.declared.maybe.Maybe.{Maybe}

-- an answer put on and read again is the answer
answer_again : {T : Type 0} (plain : T) (x : Option (Answer T)) → option_map (answer_by (tag_or plain)) (option_map (answer_by some_tag) x) ≡ x
answer_again plain None = refl
answer_again plain (Some x) = refl

-- a plan put on and read again is the plan
pub plan_again : {T : Type 0} (plain : T) (p : Plan T) → plan_by (tag_or plain) (plan_by some_tag p) ≡ p
plan_again plain p = ap (λ x. record p { answer = x }) (answer_again plain p.answer)

-- a plan that came is that of the policy, put on
pub record FromPart {T : Type 0} (r : Result (Plan T) PlanEnd) (p : Plan (Option T)) : Type 0 where
  pub plan : Plan T
  pub given : r ≡ Ok plan
  pub put_on : plan_by some_tag plan ≡ p

-- a plan put on comes from a plan of the policy
pub from_part : {T : Type 0} (r : Result (Plan T) PlanEnd) (p : Plan (Option T)) → ok_by (plan_by some_tag) r ≡ Ok p → FromPart r p
from_part (Ok plan) p e = record { plan = plan; given = refl; put_on = cc }
from_part (Err end) p e = absurd (let h : Err end ≡ Ok p = e in cc)

module _ {T S : Type 0} (m : PolicyModel T S) (holds : S → Type 0) (laws : KeepsLaws m holds) where
  -- the plan of the policy, with missing tags read as plain
  abbrev planned : S → ℕ → Args (Option T) → Option T → Result (Plan T) PlanEnd
  planned s k a pc = m.plan s k (args_by (read_by m s) a) (read_by m s pc)

  -- a given plan, read, is one that the policy gives
  given_in : (s : S) (k : ℕ) (a : Args (Option T)) (pc : Option T) (p : Plan (Option T)) → IsTrue (m.knows s k) → m.room s ≤ a.ram
      → FromPart (planned s k a pc) p → k ≡ p.service → IsGiven m s (plan_by (read_by m s) p)
  given_in s k a pc p known room from is =
      let again : plan_by (read_by m s) p ≡ from.plan = ap (plan_by (read_by m s)) (sym from.put_on) ∙ plan_again (m.plain s) from.plan in
      record {
        arguments = args_by (read_by m s) a;
        pc = read_by m s pc;
        can = record { known = subst (λ n. IsTrue (m.knows s n)) is known; room = room };
        given = ap (λ n. m.plan s n (args_by (read_by m s) a) (read_by m s pc)) (sym is) ∙ from.given ∙ ap (λ q. given_as q) (sym again);
      }
    where
      given_as : Plan T → Result (Plan T) PlanEnd
      given_as q = Ok q

  -- a given plan of the policy that is on, read, is one that it gives
  pub on_given : (s : S) (p : Plan (Option T)) → IsGiven (maybe m) (record { part = Some s }) p → IsGiven m s (plan_by (read_by m s) p)
  on_given s p given =
      given_in s p.service given.arguments given.pc p given.can.known given.can.room (from_part (planned s p.service given.arguments given.pc) p given.given) refl

  -- the same, where the part is said to be on
  pub on_given_at : (state : Maybe S) (s : S) (p : Plan (Option T)) → state.part ≡ Some s → IsGiven (maybe m) state p → IsGiven m s (plan_by (read_by m s) p)
  on_given_at state s p on given = on_given s p (subst (λ (part : Option S). IsGiven (maybe m) (record { part = part }) p) on given)

  -- law by law, by whether the policy is on
  read_masked : (ignored : Bool) (plain : T) (t : Option T) → tag_or plain (if ignored then Some plain else t) ≡ (if ignored then plain else tag_or plain t)
  read_masked true plain t = refl
  read_masked false plain t = refl

  inputs_masked : (mask : Mask) (plain : T) (x : Ins (Option T)) → ins_by (tag_or plain) (masked_inputs mask (Some plain) x) ≡ masked_inputs mask plain (ins_by (tag_or plain) x)
  inputs_masked mask plain x = λ i. record {
    pc = read_masked mask.pc plain x.pc i;
    ci = read_masked mask.ci plain x.ci i;
    t1 = read_masked mask.t1 plain x.t1 i;
    t2 = read_masked mask.t2 plain x.t2 i;
    tm = read_masked mask.tm plain x.tm i;
  }

  rule_masked : (part : Option S) (g : Group) (x : Ins (Option T)) → rule_in m part g x ≡ rule_in m part g (masked_inputs (ignores_in m part g) (plain_in m part) x)
  rule_masked None g x = refl
  rule_masked (Some s) g x =
      ap (ok_by (outs_by some_tag))
      (laws.masks s g (ins_by (read_by m s) x) ∙ ap (m.rule s g) (sym (inputs_masked (m.ignores s g) (m.plain s) x)))

  unpeeked : (part : Option S) (shape : Shape) (first second : Option T) → peeks_in m part ≡ false → peek_in m part shape first second ≡ Ok tt
  unpeeked None shape first second none = refl
  unpeeked (Some s) shape first second none = laws.unpeeked s shape (read_by m s first) (read_by m s second) none

  parted : (part : Option S) (shape : Shape) (first second : Option T) → peek_in m part shape first (plain_in m part) ≡ Ok tt
      → peek_in m part shape second (plain_in m part) ≡ Ok tt → peek_in m part shape first second ≡ Ok tt
  parted None shape first second one other = refl
  parted (Some s) shape first second one other = laws.parted s shape (read_by m s first) (read_by m s second) one other

  same_off : SameRules (maybe m) (record { part = None }) (record { part = None })
  same_off = record {
    plain = refl;
    rule = λ g x. refl;
    ignores = λ g. refl;
    peeks = refl;
    peek = λ shape first second. refl;
    knows = λ k. refl;
    uses = λ k. refl;
    lend = λ t. refl;
    room = refl;
    wipe = λ pc old. refl;
    start_pc = λ b. refl;
    start_word = λ b. refl;
    text = λ t. refl;
  }

  same_on : (s n : S) → SameRules m s n → SameRules (maybe m) (record { part = Some s }) (record { part = Some n })
  same_on s n same = record {
    plain = ap some_tag same.plain;
    rule = λ g x. ap (ok_by (outs_by some_tag)) (ap (λ plain. m.rule n g (ins_by (tag_or plain) x)) same.plain ∙ same.rule g (ins_by (read_by m s) x));
    ignores = same.ignores;
    peeks = same.peeks;
    peek = λ shape x y. ap (λ plain. m.peek n shape (tag_or plain x) (tag_or plain y)) same.plain ∙ same.peek shape (read_by m s x) (read_by m s y);
    knows = same.knows;
    uses = same.uses;
    lend = λ t. ap (λ plain. m.lend n (tag_or plain t)) same.plain ∙ same.lend (read_by m s t);
    room = same.room;
    wipe = λ pc old. ap (ok_by some_tag) (ap (λ plain. m.wipe n (tag_or plain pc) (tag_or plain old)) same.plain ∙ same.wipe (read_by m s pc) (read_by m s old));
    start_pc = λ b. ap some_tag (same.start_pc b);
    start_word = λ b. ap some_tag (same.start_word b);
    text = λ t. ap (λ plain. m.text n (tag_or plain t)) same.plain ∙ same.text (read_by m s t);
  }

  keeps : (part : Option S) (p : Plan (Option T)) → IsGiven (maybe m) (record { part = part }) p
      → SameRules (maybe m) (record { part = part }) (record { part = commit_in m part p })
  keeps None p given = same_off
  keeps (Some s) p given = same_on s (m.commit s (plan_by (read_by m s) p)) (laws.keeps s (plan_by (read_by m s) p) (on_given s p given))

  stays : (part : Option S) (p : Plan (Option T)) → IsGiven (maybe m) (record { part = part }) p → HoldsIn holds part → HoldsIn holds (commit_in m part p)
  stays None p given held = tt
  stays (Some s) p given held = laws.stays s (plan_by (read_by m s) p) (on_given s p given) held

  -- ---- a commit is taken back

  -- the plan is read after it as before it
  read_before : (s : S) (p : Plan (Option T)) → IsGiven m s (plan_by (read_by m s) p)
      → plan_by (read_by m (m.commit s (plan_by (read_by m s) p))) p ≡ plan_by (read_by m s) p
  read_before s p given = ap (λ plain. plan_by (tag_or plain) p) (laws.keeps s (plan_by (read_by m s) p) given).plain

  undoes : (part : Option S) (p : Plan (Option T)) → IsGiven (maybe m) (record { part = part }) p → HoldsIn holds part → uncommit_in m (commit_in m part p) p ≡ part
  undoes None p given held = refl
  undoes (Some s) p given held =
      let on = on_given s p given in
      let read = plan_by (read_by m s) p in
      ap (λ q. value_on (m.uncommit (m.commit s read) q)) (read_before s p on) ∙ ap value_on (laws.undoes s read on held)
    where
      value_on : S → Option S
      value_on value = Some value

  committed_by : (before : Option S) (s : S) (p : Plan (Option T)) → HoldsIn holds before → IsGiven (maybe m) (record { part = before }) p
      → Some s ≡ commit_in m before p → IsCommitted m holds s (plan_by (read_by m s) p)
  committed_by None s p held given left = absurd cc
  committed_by (Some before) s p held given left =
      let on = on_given before p given in
      let again = sym (read_before before p on) in
      subst (λ t. IsCommitted m holds t (plan_by (read_by m t) p)) (sym (same_Some s (m.commit before (plan_by (read_by m before) p)) left)) (record {
        before = before;
        held = held;
        given = subst (IsGiven m before) again on;
        left = ap (m.commit before) again;
      })

  -- a committed plan of the policy that is on, read, is one that it committed
  pub on_committed : (state : Maybe S) (s : S) (p : Plan (Option T)) → state.part ≡ Some s → IsCommitted (maybe m) (MaybeHolds holds) state p
      → IsCommitted m holds s (plan_by (read_by m s) p)
  on_committed state s p on committed =
      committed_by committed.before.part s p committed.held committed.given (sym on ∙ ap (λ (t : Maybe S). t.part) committed.left)

  off_knows : {P : Type 0} → false ≡ true → P
  off_knows e = cc

  ranges : (part : Option S) (k : ℕ) (a : Args (Option T)) (pc : Option T) (p : Plan (Option T)) → CanPlan (maybe m) (record { part = part }) k a → HoldsIn holds part
      → plan_in m part k a pc ≡ Ok p → ForSome p.range (IsRange a.ram)
  ranges None k a pc p can held e = off_knows can.known
  ranges (Some s) k a pc p can held e =
      let from : FromPart (planned s k a pc) p = from_part (planned s k a pc) p e in
      subst (λ (range : Option Words). ForSome range (IsRange a.ram)) (ap (λ (q : Plan (Option T)). q.range) from.put_on)
      (laws.ranges s k (args_by (read_by m s) a) (read_by m s pc) from.plan (record { known = can.known; room = can.room }) held from.given)

  few : (part : Option S) (k : ℕ) → IsTrue (knows_in m part k) → uses_in m part k ≤ 3
  few None k known = off_knows known
  few (Some s) k known = laws.few s k known

  service : (part : Option S) (k : ℕ) (a : Args (Option T)) (pc : Option T) (p : Plan (Option T)) → IsTrue (knows_in m part k)
      → plan_in m part k a pc ≡ Ok p → p.service ≡ k
  service None k a pc p known e = off_knows known
  service (Some s) k a pc p known e =
      let from : FromPart (planned s k a pc) p = from_part (planned s k a pc) p e in
      ap (λ (q : Plan (Option T)). q.service) (sym from.put_on) ∙ laws.service s k (args_by (read_by m s) a) (read_by m s pc) from.plan known from.given

  -- an answer put on keeps the value
  value_by : (a : Args T) (b : Args (Option T)) (answer : Option (Answer T)) → a.a0 ≡ b.a0 → ForSome answer (KeepsValue a) → ForSome (option_map (answer_by some_tag) answer) (KeepsValue b)
  value_by a b None same all = λ x e. absurd (let h : None ≡ Some x = e in cc)
  value_by a b (Some y) same all = λ x e as_a0.
      ap (λ (z : Answer (Option T)). z.value) (sym (same_Some (record { value = y.value; tag = Some y.tag; rest = y.rest }) x e))
      ∙ all y refl (ap (λ (z : Answer (Option T)). z.rest) (same_Some (record { value = y.value; tag = Some y.tag; rest = y.rest }) x e) ∙ as_a0)
      ∙ same

  value : (part : Option S) (k : ℕ) (a : Args (Option T)) (pc : Option T) (p : Plan (Option T)) → IsTrue (knows_in m part k)
      → plan_in m part k a pc ≡ Ok p → ForSome p.answer (KeepsValue a)
  value None k a pc p known e = off_knows known
  value (Some s) k a pc p known e =
      let from : FromPart (planned s k a pc) p = from_part (planned s k a pc) p e in
      subst (λ (answer : Option (Answer (Option T))). ForSome answer (KeepsValue a)) (ap (λ (q : Plan (Option T)). q.answer) from.put_on)
      (value_by (args_by (read_by m s) a) a from.plan.answer refl (laws.value s k (args_by (read_by m s) a) (read_by m s pc) from.plan known from.given))

  -- and the word that it was
  word_by : (answer : Option (Answer T)) → ForSome answer HasWord → ForSome (option_map (answer_by some_tag) answer) HasWord
  word_by None all = λ x e. absurd (let h : None ≡ Some x = e in cc)
  word_by (Some y) all = λ x e. subst HasWord (same_Some (record { value = y.value; tag = Some y.tag; rest = y.rest }) x e) (all y refl)

  words : (part : Option S) (k : ℕ) (a : Args (Option T)) (pc : Option T) (p : Plan (Option T)) → CanPlan (maybe m) (record { part = part }) k a → HoldsIn holds part
      → AreWords a → plan_in m part k a pc ≡ Ok p → ForSome p.answer HasWord
  words None k a pc p can held are e = off_knows can.known
  words (Some s) k a pc p can held are e =
      let from : FromPart (planned s k a pc) p = from_part (planned s k a pc) p e in
      subst (λ (answer : Option (Answer (Option T))). ForSome answer HasWord) (ap (λ (q : Plan (Option T)). q.answer) from.put_on)
      (word_by from.plan.answer
      (laws.words s k (args_by (read_by m s) a) (read_by m s pc) from.plan (record { known = can.known; room = can.room }) held
      (words_by (read_by m s) a are) from.given))

  unused : (part : Option S) (k : ℕ) (a b : Args (Option T)) (pc : Option T) → IsTrue (knows_in m part k) → AgreesOnUsed (uses_in m part k) a b
      → plan_in m part k a pc ≡ plan_in m part k b pc
  unused None k a b pc known same = refl
  unused (Some s) k a b pc known same =
      ap (ok_by (plan_by some_tag))
      (laws.unused s k (args_by (read_by m s) a) (args_by (read_by m s) b) (read_by m s pc) known (agrees_by (read_by m s) (m.uses s k) a b same))

  blind_retag : (part : Option S) (p : Plan (Option T)) (x : Option (Answer (Option T))) (old : Option T)
      → retag_in m part (record p { answer = x }) old ≡ retag_in m part p old
  blind_retag None p x old = refl
  blind_retag (Some s) p x old = ap (ok_by some_tag) (laws.blind_retag s (plan_by (read_by m s) p) (option_map (answer_by (read_by m s)) x) (read_by m s old))

  blind_commit : (part : Option S) (p : Plan (Option T)) (x : Option (Answer (Option T))) → commit_in m part (record p { answer = x }) ≡ commit_in m part p
  blind_commit None p x = refl
  blind_commit (Some s) p x = ap on (laws.blind_commit s (plan_by (read_by m s) p) (option_map (answer_by (read_by m s)) x))
    where
      on : S → Option S
      on value = Some value

  -- a policy that is off or on
  abbrev off_or_on : Option S → Maybe S
  off_or_on part = record { part = part }

  -- the laws of a policy that may be off
  pub maybe_laws : KeepsLaws (maybe m) (MaybeHolds holds)
  maybe_laws = record {
    masks = λ s g x. rule_masked s.part g x;
    unpeeked = λ s shape first second none. unpeeked s.part shape first second none;
    parted = λ s shape first second one other. parted s.part shape first second one other;
    keeps = λ s p given. keeps s.part p given;
    stays = λ s p given held. stays s.part p given held;
    undoes = λ s p given held. ap off_or_on (undoes s.part p given held);
    ranges = λ s k a pc p can held e. ranges s.part k a pc p can held e;
    few = λ s k known. few s.part k known;
    service = λ s k a pc p known e. service s.part k a pc p known e;
    value = λ s k a pc p known e. value s.part k a pc p known e;
    unused = λ s k a b pc known same. unused s.part k a b pc known same;
    blind_retag = λ s p x old. blind_retag s.part p x old;
    blind_commit = λ s p x. ap off_or_on (blind_commit s.part p x);
    words = λ s k a pc p can held are e. words s.part k a pc p can held are e;
  }
