-- A policy whose plain tag is always the same is a part of itself where it may be off.
use Rattle.std.proofs.Common.{◌≡◌, ℕ, ◌≤◌, Bool, true, Option, Some, None, Result, Ok, Err, refl, sym, ap, ◌∙◌, subst, if◌then◌else◌, arith}
use Rattle.std.specs.Option.{is_some, unwrap_or}
use Rattle.rv_decode.specs.declared.groups.Group.{Group}
use Rattle.policy_trait.specs.PolicyLaws.{KeepsLaws}
use Rattle.policy_trait.specs.Maps.{answer_by, args_by, ins_by, ok_by, outs_by, plan_by}
use Rattle.policy_trait.specs.Model.{PolicyModel}
use Rattle.policy_trait.specs.declared.birth.Birth.{Birth}
use Rattle.policy_trait.specs.declared.rules.Ins.{Ins}
use Rattle.policy_trait.specs.declared.rules.Outs.{Outs}
use Rattle.policy_trait.specs.declared.services.Args.{Args}
use Rattle.policy_trait.specs.declared.services.Plan.{Plan}
use Rattle.policy_product.specs.Both.{tag_beside}
use Rattle.policy_product.specs.Maybe.{commit_in, knows_in, maybe, plan_in, plain_in, retag_in, room_in, rule_in, some_tag, start_pc_in, start_word_in, tag_or, wipe_in}
use Rattle.policy_parts.specs.Part.{IsPart, Planned, value_after, own, word_tag}
use Rattle.policy_parts.specs.Lens.{on_lens}
use Rattle.policy_parts.proofs.MapLemmas.{mapped_twice}
use Rattle.std.proofs.lemmas.Iterator.Adapters.{option_map_id}

-- what came with tags put in is what there was, with these tags read
came : {A B E : Type 0} (put : A → B) (read : B → A) → ((x : A) → read (put x) ≡ x) → (r : Result A E) (y : B) → ok_by put r ≡ Ok y → r ≡ Ok (read y)
came {A} {B} {E} put read is (Ok x) y e = let same : put x ≡ y = cc in ap ok (sym (is x) ∙ ap read same)
  where
    ok : A → Result A E
    ok x = Ok x
came put read is (Err end) y e = absurd (let h : Err end ≡ Ok y = e in cc)

module _ {U V : Type 0} (m : PolicyModel U V) (holds : V → Type 0) (laws : KeepsLaws m holds) (plain : U) (absent : V) (same : (v : V) → m.plain v ≡ plain) where
  abbrev read : Option U → U
  read tag = tag_or plain tag

  -- the policy reads a tag as the lens does
  reads_so : (v : V) → (λ (tag : Option U). tag_or (m.plain v) tag) ≡ read
  reads_so v = λ j tag. tag_or (same v j) tag

  plan_again : (p : Plan U) → plan_by read (plan_by some_tag p) ≡ p
  plan_again p = ap (λ x. record p { answer = x }) (mapped_twice (answer_by read) (answer_by some_tag) p.answer ∙ option_map_id p.answer)

  -- a policy that is on, with how it reads tags
  rule_on : (v : V) (g : Group) (x : Ins (Option U)) (outs : Outs (Option U)) → rule_in m (Some v) g x ≡ Ok outs → m.rule v g (ins_by read x) ≡ Ok (outs_by read outs)
  rule_on v g x outs e =
      subst (λ (f : Option U → U). m.rule v g (ins_by f x) ≡ Ok (outs_by read outs)) (reads_so v)
      (came (outs_by some_tag) (outs_by read) (λ o. refl) (m.rule v g (ins_by (λ tag. tag_or (m.plain v) tag) x)) outs e)

  wipe_on : (v : V) (pc old new : Option U) → wipe_in m (Some v) pc old ≡ Ok new → m.wipe v (read pc) (read old) ≡ Ok (read new)
  wipe_on v pc old new e =
      subst (λ (f : Option U → U). m.wipe v (f pc) (f old) ≡ Ok (read new)) (reads_so v)
      (came some_tag read (λ t. refl) (m.wipe v (tag_or (m.plain v) pc) (tag_or (m.plain v) old)) new e)

  plan_on : (v : V) (k : ℕ) (a : Args (Option U)) (pc : Option U) (p : Plan (Option U)) → m.knows v k ≡ true → plan_in m (Some v) k a pc ≡ Ok p
      → Planned m v k (args_by read a) (read pc) (plan_by read p)
  plan_on v k a pc p known e =
      let given : m.plan v k (args_by read a) (read pc) ≡ Ok (plan_by read p) =
      subst (λ (f : Option U → U). m.plan v k (args_by f a) (f pc) ≡ Ok (plan_by read p)) (reads_so v)
      (came (plan_by some_tag) (plan_by read) plan_again (m.plan v k (args_by (λ tag. tag_or (m.plain v) tag) a) (tag_or (m.plain v) pc)) p e) in
      own known (laws.service v k (args_by read a) (read pc) (plan_by read p) known given) given

  retag_on : (v : V) (p : Plan (Option U)) (old new : Option U) → m.knows v p.service ≡ true → retag_in m (Some v) p old ≡ Ok new
      → word_tag m v (plan_by read p) (read old) ≡ Ok (read new)
  retag_on v p old new known e =
      ap (λ (b : Bool). if b then m.retag v (plan_by read p) (read old) else tag_beside m v p.zero (read p.pc) (read old)) known
      ∙ subst (λ (f : Option U → U). m.retag v (plan_by f p) (f old) ≡ Ok (read new)) (reads_so v)
      (came some_tag read (λ t. refl) (m.retag v (plan_by (λ tag. tag_or (m.plain v) tag) p) (tag_or (m.plain v) old)) new e)

  commit_on : (v : V) (p : Plan (Option U)) → m.knows v p.service ≡ true → m.commit v (plan_by (λ tag. tag_or (m.plain v) tag) p) ≡ value_after m v (plan_by read p)
  commit_on v p known =
      ap (λ (f : Option U → U). m.commit v (plan_by f p)) (reads_so v)
      ∙ ap (λ (b : Bool). if b then m.commit v (plan_by read p) else v) (sym known)

  -- the same of a policy that may be off, where it is on

  abbrev IsOn : Option V → Type 0
  IsOn part = is_some part ≡ true

  abbrev value : Option V → V
  value part = unwrap_or part absent

  plain_of : (part : Option V) → IsOn part → read (plain_in m part) ≡ m.plain (value part)
  plain_of None on = absurd (cc on)
  plain_of (Some v) on = refl

  room_of : (part : Option V) → IsOn part → m.room (value part) ≤ room_in m part
  room_of None on = absurd (cc on)
  room_of (Some v) on = omega arith

  knows_of : (part : Option V) (k : ℕ) → IsOn part → m.knows (value part) k ≡ true → knows_in m part k ≡ true
  knows_of None k on known = absurd (cc on)
  knows_of (Some v) k on known = known

  rule_of : (part : Option V) (g : Group) (x : Ins (Option U)) (outs : Outs (Option U)) → IsOn part → rule_in m part g x ≡ Ok outs
      → m.rule (value part) g (ins_by read x) ≡ Ok (outs_by read outs)
  rule_of None g x outs on e = absurd (cc on)
  rule_of (Some v) g x outs on e = rule_on v g x outs e

  wipe_of : (part : Option V) (pc old new : Option U) → IsOn part → wipe_in m part pc old ≡ Ok new → m.wipe (value part) (read pc) (read old) ≡ Ok (read new)
  wipe_of None pc old new on e = absurd (cc on)
  wipe_of (Some v) pc old new on e = wipe_on v pc old new e

  plan_of : (part : Option V) (k : ℕ) (a : Args (Option U)) (pc : Option U) (p : Plan (Option U)) → IsOn part → knows_in m part k ≡ true → plan_in m part k a pc ≡ Ok p
      → Planned m (value part) k (args_by read a) (read pc) (plan_by read p)
  plan_of None k a pc p on known e = absurd (cc on)
  plan_of (Some v) k a pc p on known e = plan_on v k a pc p known e

  retag_of : (part : Option V) (p : Plan (Option U)) (old new : Option U) → IsOn part → knows_in m part p.service ≡ true → retag_in m part p old ≡ Ok new
      → word_tag m (value part) (plan_by read p) (read old) ≡ Ok (read new)
  retag_of None p old new on known e = absurd (cc on)
  retag_of (Some v) p old new on known e = retag_on v p old new known e

  commit_of : (part : Option V) (p : Plan (Option U)) → IsOn part → knows_in m part p.service ≡ true
      → value (commit_in m part p) ≡ value_after m (value part) (plan_by read p)
  commit_of None p on known = absurd (cc on)
  commit_of (Some v) p on known = commit_on v p known

  stays_of : (part : Option V) (p : Plan (Option U)) → IsOn part → IsOn (commit_in m part p)
  stays_of None p on = absurd (cc on)
  stays_of (Some v) p on = refl

  start_pc_of : (part : Option V) (b : Birth) → IsOn part → read (start_pc_in m part b) ≡ m.start_pc (value part) b
  start_pc_of None b on = absurd (cc on)
  start_pc_of (Some v) b on = refl

  start_word_of : (part : Option V) (b : Birth) → IsOn part → read (start_word_in m part b) ≡ m.start_word (value part) b
  start_word_of None b on = absurd (cc on)
  start_word_of (Some v) b on = refl

  pub part_of_itself : IsPart (maybe m) m (on_lens plain absent)
  part_of_itself = record {
    plain = λ s on. plain_of s.part on;
    room = λ s on. room_of s.part on;
    knows = λ s k on known. knows_of s.part k on known;
    rule = λ s g x outs on e. rule_of s.part g x outs on e;
    wipe = λ s pc old new on e. wipe_of s.part pc old new on e;
    plan = λ s k a pc p on known e. plan_of s.part k a pc p on known e;
    retag = λ s p old new on known e. retag_of s.part p old new on known e;
    commit = λ s p on known. commit_of s.part p on known;
    stays = λ s p on known. stays_of s.part p on;
    start_pc = λ s b on. start_pc_of s.part b on;
    start_word = λ s b on. start_word_of s.part b on;
  }
