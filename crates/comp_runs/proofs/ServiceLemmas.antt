-- What a service makes of a word's tag is what the owner book makes of the word.
use Rattle.std.proofs.Common.{◌≡◌, ℕ, ◌+◌, ◌<◌, ◌==◌, Bool, true, false, ◌||◌, Option, None, Ok, Err, refl, sym, ap, ◌∙◌, subst, arith, if◌then◌else◌, nat_lt}
use Rattle.std.proofs.lemmas.Bool.{eqb-true}
use Rattle.policy_trait.specs.Sets.{set_of, set_with}
use Rattle.policy_trait.specs.declared.rules.Why.{Why}
use Rattle.policy_trait.specs.declared.rules.Why.TheVariants as why
use Rattle.policy_trait.specs.declared.services.Answer.{Answer}
use Rattle.policy_trait.specs.declared.services.Args.{Args}
use Rattle.policy_trait.specs.declared.services.Plan.{Plan}
use Rattle.policy_trait.specs.declared.services.PlanEnd.TheVariants as plan_end
use Rattle.compartment_policy.specs.Compartments.{CompartmentState, compartment_knows, compartment_plan, compartments, given_by, is_range, is_writer, let_plan, letting, refused_for, refused_plan, new_place, split_plan, splitting, words_of}
use Rattle.compartment_policy.specs.declared.tag.CompartmentTag.{CompartmentTag}
use Rattle.compartment_policy.specs.declared.tag.CompartmentTag.TheVariants.{Pc, Place, Plain}
use Rattle.policy_product.specs.Both.{tag_beside}
use Rattle.policy_parts.specs.Part.{Planned, value_after, others, own, word_tag}
use Rattle.part_turns.specs.Moments.{Service}
use Rattle.shared_terms.proofs.StepLemmas.{ok_is}
use Rattle.comp_runs.specs.CompInvariant.{place_of}
use Rattle.comp_runs.specs.OwnerBook.{Owned, owned_after, split_off}

-- ---- the policy's own plans

-- words are split off as the compartment of the number `count`, or a2 is let into words or let write them
data IsOwn (count number : ℕ) (a : Args CompartmentTag) (pc : CompartmentTag) (p : Plan CompartmentTag) : Type 0 where
  splits : (number == 32) ≡ true → p ≡ splitting count (words_of a) pc → IsOwn count number a pc p
  lets : (number == 32) ≡ false → p ≡ letting number a.a2 (words_of a) pc → IsOwn count number a pc p

module _ (state : CompartmentState) (number : ℕ) (a : Args CompartmentTag) (pc : CompartmentTag) (p : Plan CompartmentTag) where
  split_by : (fits few : Bool) → (number == 32) ≡ true
      → (if fits then (if few then Ok (splitting state.count (words_of a) pc) else Err plan_end.Spent) else refused_plan why.Range) ≡ Ok p
      → IsOwn state.count number a pc p
  split_by true true is e = splits is (sym (ok_is (splitting state.count (words_of a) pc) p e))
  split_by true false is e = absurd cc
  split_by false few is e = absurd cc

  let_by : (fits known : Bool) → (number == 32) ≡ false
      → (if fits then (if known then Ok (letting number a.a2 (words_of a) pc) else refused_plan why.Args) else refused_plan why.Range) ≡ Ok p
      → IsOwn state.count number a pc p
  let_by true true is e = lets is (sym (ok_is (letting number a.a2 (words_of a) pc) p e))
  let_by true false is e = absurd cc
  let_by false known is e = absurd cc

  own_by : (split : Bool) → (number == 32) ≡ split → (if split then split_plan state a pc else let_plan number state.count a pc) ≡ Ok p
      → IsOwn state.count number a pc p
  own_by true is e = split_by (is_range a.ram (words_of a)) (nat_lt state.count state.limit) is e
  own_by false is e = let_by (is_range a.ram (words_of a)) (nat_lt a.a2 state.count) is e

  own_plan : compartment_plan state number a pc ≡ Ok p → IsOwn state.count number a pc p
  own_plan e = own_by (number == 32) refl e

  not_zeroed : IsOwn state.count number a pc p → p.zero ≡ false
  not_zeroed (splits is same) = ap (λ (q : Plan CompartmentTag). q.zero) same
  not_zeroed (lets is same) = ap (λ (q : Plan CompartmentTag). q.zero) same

-- ---- a word of an own service's range

-- a tag that a test allows
record IsAllowed (test : Bool) (tag new : CompartmentTag) : Type 0 where
  allows : test ≡ true
  same : new ≡ tag

allowed_tag : (test : Bool) (reason : Why) (tag new : CompartmentTag) → (if test then Ok tag else Err (refused_for reason)) ≡ Ok new
    → IsAllowed test tag new
allowed_tag true reason tag new e = record { allows = refl; same = sym (ok_is tag new e) }
allowed_tag false reason tag new e = absurd cc

given_tag : (number other : ℕ) (pc : CompartmentTag) (owned : Owned) (new : CompartmentTag) → new_place number other pc (place_of owned) ≡ Ok new
    → new ≡ given_by number other owned.owner owned.into owned.write
given_tag number other (Pc jumped caller) owned new e =
    (allowed_tag (caller == owned.owner) why.NotOwner (given_by number other owned.owner owned.into owned.write) new e).same
given_tag number other Plain owned new e = absurd cc
given_tag number other (Place owner into write) owned new e = absurd cc

-- ---- the book

-- the tag is what the book says, and the owner is one of the compartments
pub record IsKnown (count : ℕ) (tag : CompartmentTag) (owned : Owned) : Type 0 where
  pub tag_is : tag ≡ place_of owned
  pub few : owned.owner < count

abbrev pub service_of_plan : ℕ → Args CompartmentTag → Plan CompartmentTag → Service CompartmentTag
service_of_plan number a p = record { number = number; arguments = a; range = p.range; zero = p.zero; answer = p.answer }

-- words that another compartment is let into or let write
let_known : (split lets_in lets_write : Bool) (count other : ℕ) (answer : Option (Answer CompartmentTag)) (owned : Owned)
    → split ≡ false → (split || lets_in || lets_write) ≡ true → owned.owner < count
    → IsKnown (if split then count + 1 else count)
    (if split then Place other (set_of 0) (set_of 0) else
    if lets_in then Place owned.owner (set_with owned.into other) owned.write else Place owned.owner owned.into (set_with owned.write other))
    (if split then split_off answer owned else
    if lets_in then record owned { into = set_with owned.into other } else
    if lets_write then record owned { write = set_with owned.write other } else owned)
let_known true lets_in lets_write count other answer owned is knows few = absurd cc
let_known false true lets_write count other answer owned is knows few = record { tag_is = refl; few = few }
let_known false false true count other answer owned is knows few = record { tag_is = refl; few = few }
let_known false false false count other answer owned is knows few = absurd cc

module _ (count number : ℕ) (a : Args CompartmentTag) (pc : CompartmentTag) (owned : Owned) (new : CompartmentTag) where
  -- how many compartments there are after one of the policy's own services
  abbrev counted : ℕ → ℕ
  counted service = if service == 32 then count + 1 else count

  abbrev Known : Plan CompartmentTag → Type 0
  Known p = new_place p.service p.note p.pc (place_of owned) ≡ Ok new → IsKnown (counted p.service) new (owned_after (service_of_plan number a p) owned)

  own_known : (p : Plan CompartmentTag) → compartment_knows number ≡ true → owned.owner < count → IsOwn count number a pc p → Known p
  own_known p knows few (splits is same) =
      subst Known (sym same) (λ e.
      subst (λ (n : ℕ). IsKnown (count + 1) new (owned_after (service_of_plan n a (splitting count (words_of a) pc)) owned)) (sym (eqb-true number 32 is))
      (record { tag_is = given_tag 32 count pc owned new e; few = omega arith }))
  own_known p knows few (lets is same) =
      subst Known (sym same) (λ e.
      subst (λ tag. IsKnown (counted number) tag (owned_after (service_of_plan number a (letting number a.a2 (words_of a) pc)) owned))
      (sym (given_tag number a.a2 pc owned new e))
      (let_known (number == 32) (number == 33) (number == 34) count a.a2 None owned is knows few))

-- ---- another policy's service

-- a word is as before, whether it was zeroed or not
kept_tag : (state : CompartmentState) (zeroed : Bool) (pc tag new : CompartmentTag) → tag_beside compartments state zeroed pc tag ≡ Ok new → new ≡ tag
kept_tag state false pc tag new e = sym (ok_is tag new e)
kept_tag state true pc tag new e = (allowed_tag (is_writer pc tag) why.Consent tag new e).same

-- the book has no service with another number
unchanged : (split lets_in lets_write : Bool) (other : ℕ) (answer : Option (Answer CompartmentTag)) (owned : Owned)
    → (split || lets_in || lets_write) ≡ false
    → (if split then split_off answer owned else
    if lets_in then record owned { into = set_with owned.into other } else
    if lets_write then record owned { write = set_with owned.write other } else owned) ≡ owned
unchanged false false false other answer owned is = refl
unchanged true lets_in lets_write other answer owned is = absurd cc
unchanged false true lets_write other answer owned is = absurd cc
unchanged false false true other answer owned is = absurd cc

-- ---- any service's plan

-- how many compartments there are after a plan, by whether the policy knows the service and whether words are split off
abbrev state_after : Bool → Bool → CompartmentState → CompartmentState
state_after knows split state = if knows then record state { count = if split then state.count + 1 else state.count } else state

not_less : (knows split : Bool) (state : CompartmentState) (owner : ℕ) → owner < state.count → owner < (state_after knows split state).count
not_less true true state owner few = omega arith
not_less true false state owner few = few
not_less false split state owner few = few

module _ (state : CompartmentState) (number : ℕ) (a : Args CompartmentTag) (pc : CompartmentTag) (p : Plan CompartmentTag) where
  -- a word that no service's range has
  pub known_outside : (tag : CompartmentTag) (owned : Owned) → IsKnown state.count tag owned → IsKnown (value_after compartments state p).count tag owned
  known_outside tag owned known = record {
    tag_is = known.tag_is;
    few = not_less (compartment_knows p.service) (p.service == 32) state owned.owner known.few;
  }

  module _ (tag new : CompartmentTag) (given : word_tag compartments state p tag ≡ Ok new) where
    -- the policy's own rule for the word, or another's service
    given_if : (knows : Bool) → compartment_knows number ≡ knows → p.service ≡ number
        → (if knows then new_place p.service p.note p.pc tag else tag_beside compartments state p.zero p.pc tag) ≡ Ok new
    given_if knows is service =
        subst (λ test. (if test then new_place p.service p.note p.pc tag else tag_beside compartments state p.zero p.pc tag) ≡ Ok new)
        (ap compartment_knows service ∙ is) given

    abbrev KnownWhere : Owned → Bool → Type 0
    KnownWhere owned knows =
        IsKnown (state_after knows (p.service == 32) state).count new (owned_after (service_of_plan number a p) owned)

    -- a word of the range
    pub known_within : (owned : Owned) → Planned compartments state number a pc p → IsKnown state.count tag owned
        → IsKnown (value_after compartments state p).count new (owned_after (service_of_plan number a p) owned)
    known_within owned (own knows service planned) known =
        subst (KnownWhere owned) (sym (ap compartment_knows service ∙ knows))
        (own_known state.count number a pc owned new p knows known.few (own_plan state number a pc p planned)
        (ap (new_place p.service p.note p.pc) (sym known.tag_is) ∙ given_if true knows service))
    known_within owned (others unknown service from_pc answers) known =
        subst (KnownWhere owned) (sym (ap compartment_knows service ∙ unknown))
        (subst (IsKnown state.count new) (sym (unchanged (number == 32) (number == 33) (number == 34) a.a2 p.answer owned unknown))
        (record { tag_is = kept_tag state p.zero p.pc tag new (given_if false unknown service) ∙ known.tag_is; few = known.few }))

    -- a word that becomes zero let the compartment of the pc write it
    pub zeroed_by_right : Planned compartments state number a pc p → p.zero ≡ true → is_writer pc tag ≡ true
    zeroed_by_right (own knows service planned) zeroed = let kept = not_zeroed state number a pc p (own_plan state number a pc p planned) in absurd cc
    zeroed_by_right (others unknown service from_pc answers) zeroed =
        (allowed_tag (is_writer pc tag) why.Consent tag new
        (ap (λ from. tag_beside compartments state true from tag) (sym from_pc) ∙ ap (λ zero. tag_beside compartments state zero p.pc tag) (sym zeroed)
        ∙ given_if false unknown service)).allows
