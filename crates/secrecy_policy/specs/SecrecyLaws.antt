-- Secrecy keeps the laws of a policy.
use Rattle.std.proofs.Common.{◌≡◌, ℕ, ◌+◌, ◌-◌, ◌%◌, ◌^◌, ◌<◌, ◌≤◌, nat_lt, Bool, true, false, Some, Ok, length, slice_index, if◌then◌else◌, refl, sym, ap, ◌∙◌, subst, arith}
use Rattle.std.proofs.lemmas.Bool.{ltb-true, true≢false}
use Rattle.std.proofs.lemmas.Option.{none-some, same_Some}
use Rattle.shared_terms.proofs.StepLemmas.{ok_is}
use Rattle.rv_decode.specs.declared.groups.Group.{Group}
use Rattle.rv_decode.specs.declared.groups.Group.TheVariants as group
use Rattle.policy_trait.specs.PolicyLaws.{HasWord, KeepsLaws}
use Rattle.policy_trait.specs.Model.{IsCommitted, IsGiven, masked_inputs}
use Rattle.policy_trait.specs.declared.rules.Ins.{Ins}
use Rattle.policy_trait.specs.declared.services.Answer.{Answer}
use Rattle.policy_trait.specs.declared.services.Args.{Args}
use Rattle.policy_trait.specs.declared.services.Plan.{Plan}
use Rattle.policy_trait.specs.declared.services.Rest.TheVariants as rest
use Rattle.secrecy_policy.specs.Secrecy.{IsLeft, SecretState, after_secret, answered, before_secret, next_secret, no_secret, secrecy, secret_ignores, secret_peek, secret_plan, secret_rule}
use Rattle.secrecy_policy.specs.declared.tag.SecretTag.{SecretTag}
use Rattle.secrecy_policy.specs.declared.tag.SecretTag.TheVariants.{Open, Secret}

-- no group's rule looks at an input that its mask ignores
rule_masked : (g : Group) (x : Ins SecretTag) → secret_rule g x ≡ secret_rule g (masked_inputs (secret_ignores g) Open x)
rule_masked = elim [
  | group.Const ↦ λ x. refl
  | group.Here ↦ λ x. refl
  | group.Jal ↦ λ x. refl
  | group.Jalr ↦ λ x. refl
  | group.Branch ↦ λ x. refl
  | group.LoadWord ↦ λ x. refl
  | group.LoadPart ↦ λ x. refl
  | group.StoreWord ↦ λ x. refl
  | group.StorePart ↦ λ x. refl
  | group.Move ↦ λ x. refl
  | group.AddImm ↦ λ x. refl
  | group.AluImm ↦ λ x. refl
  | group.Add ↦ λ x. refl
  | group.Sub ↦ λ x. refl
  | group.Alu ↦ λ x. refl
  | group.Fence ↦ λ x. refl
  | group.Exit ↦ λ x. refl
  | group.Put ↦ λ x. refl
  | group.Get ↦ λ x. refl
  | group.Break ↦ λ x. refl
  | group.Call ↦ λ x. refl
]

-- a plan that was given is the one plan
plan_is : (s : SecretState) (number : ℕ) (a : Args SecretTag) (pc : SecretTag) (p : Plan SecretTag) → secrecy.plan s number a pc ≡ Ok p → secret_plan s number pc ≡ p
plan_is s number a pc p given = ok_is (secret_plan s number pc) p given

-- its answer, which doesn't leave the other parts a0's tags
answer_is : (s : SecretState) (number : ℕ) (pc : SecretTag) (p : Plan SecretTag) (x : Answer SecretTag) → secret_plan s number pc ≡ p → p.answer ≡ Some x
    → record { value = next_secret s; tag = Secret; rest = rest.Plain } ≡ x
answer_is s number pc p x is x_is =
    same_Some (record { value = next_secret s; tag = Secret; rest = rest.Plain }) x (ap (λ (q : Plan SecretTag). q.answer) is ∙ x_is)

-- the answer is a byte, or what is answered past the last one
next_fits : (left : Bool) (byte : ℕ) → (if left then byte % 2 ^ 8 else no_secret) < 2 ^ 32
next_fits true byte = omega arith
next_fits false byte = omega arith

-- no more were answered than there are
stays_by : (left : Bool) (s : SecretState) → nat_lt s.next (length s.bytes) ≡ left → IsLeft s → IsLeft (if left then record s { next = s.next + 1 } else s)
stays_by true s is holds = let below : s.next < length s.bytes = ltb-true s.next (length s.bytes) is in omega (arith, below)
stays_by false s is holds = holds

-- as many less as were answered are as many as before
undone_by : (left : Bool) (s : SecretState) → (let after : SecretState = if left then record s { next = s.next + 1 } else s in
    record after { next = after.next - (if left then 1 else 0) }) ≡ s
undone_by true s = ap (λ (next : ℕ). record s { next = next }) (omega arith)
undone_by false s = ap (λ (next : ℕ). record s { next = next }) (omega arith)

noted : (s : SecretState) (p : Plan SecretTag) → IsGiven secrecy s p → answered s ≡ p.note
noted s p given = ap (λ (q : Plan SecretTag). q.note) (plan_is s p.service given.arguments given.pc p given.given)

undone : (s : SecretState) (p : Plan SecretTag) → IsGiven secrecy s p → before_secret (after_secret s) p ≡ s
undone s p given =
    ap (λ (note : ℕ). record (after_secret s) { next = (after_secret s).next - note }) (sym (noted s p given))
    ∙ undone_by (nat_lt s.next (length s.bytes)) s

-- as many can be taken back
at_least_by : (left : Bool) (s : SecretState) → (if left then 1 else 0) ≤ (if left then record s { next = s.next + 1 } else s).next
at_least_by true s = omega arith
at_least_by false s = omega arith

pub can_take_back : (s : SecretState) (p : Plan SecretTag) → IsCommitted secrecy IsLeft s p → p.note ≤ s.next
can_take_back s p committed =
    let before : SecretState = committed.before in
    let fits = at_least_by (nat_lt before.next (length before.bytes)) before in
    omega (arith, fits, noted before p committed.given, ap (λ (after : SecretState). after.next) committed.left)

-- two values are looked at where each is open
parted : (first second : SecretTag) → secret_peek first Open ≡ Ok tt → secret_peek second Open ≡ Ok tt → secret_peek first second ≡ Ok tt
parted Open Open one other = refl
parted Open Secret one other = absurd (cc other)
parted Secret second one other = absurd (cc one)

pub secrecy_laws : KeepsLaws secrecy IsLeft
secrecy_laws = record {
  masks = λ s g x. rule_masked g x;
  unpeeked = λ s shape first second none. absurd (true≢false none);
  parted = λ s shape. parted;
  keeps = λ s p given. record {
    plain = refl;
    rule = λ g x. refl;
    ignores = λ g. refl;
    peeks = refl;
    peek = λ shape first second. refl;
    knows = λ k. refl;
    uses = λ k. refl;
    lend = λ t. refl;
    room = refl;
    wipe = λ pc old. refl;
    start_pc = λ b. refl;
    start_word = λ b. refl;
    text = λ t. refl;
  };
  stays = λ s p given holds. stays_by (nat_lt s.next (length s.bytes)) s refl holds;
  undoes = λ s p given holds. undone s p given;
  ranges = λ s k a pc p can holds given x x_is.
      absurd (none-some x (ap (λ (q : Plan SecretTag). q.range) (plan_is s k a pc p given) ∙ x_is));
  few = λ s k known. let e : 0 ≤ 3 = omega arith in e;
  service = λ s k a pc p known given. ap (λ (q : Plan SecretTag). q.service) (sym (plan_is s k a pc p given));
  value = λ s k a pc p known given x x_is as_a0.
      let is = answer_is s k pc p x (plan_is s k a pc p given) x_is in
      absurd (let plain : rest.Plain ≡ rest.AsA0 = ap (λ (y : Answer SecretTag). y.rest) is ∙ as_a0 in cc);
  unused = λ s k a b pc known same. refl;
  blind_retag = λ s p x old. refl;
  blind_commit = λ s p x. refl;
  words = λ s k a pc p can holds are given x x_is.
      subst HasWord (answer_is s k pc p x (plan_is s k a pc p given) x_is)
      (next_fits (nat_lt s.next (length s.bytes)) (slice_index s.bytes s.next));
}
