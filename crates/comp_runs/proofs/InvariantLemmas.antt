-- The invariant and the guarantee by what stands, and a turn that doesn't retire.
use Rattle.std.proofs.Common.{◌≡◌, ℕ, ◌/◌, ◌<◌, true, false, List, [], ◌∷◌, ◌++◌, length, None, sym, ap, ◌∙◌, subst, if◌then◌else◌}
use Rattle.policy_trait.specs.declared.birth.Birth.{Birth}
use Rattle.engine_trait.specs.Events.{Event, is_retirement}
use Rattle.engine_trait.specs.Machine.{Machine, hart_at, is_ready_in}
use Rattle.compartment_policy.specs.Compartments.{CompartmentState}
use Rattle.compartment_policy.specs.declared.tag.CompartmentTag.{CompartmentTag}
use Rattle.compartment_policy.specs.declared.tag.CompartmentTag.TheVariants.{Pc}
use Rattle.part_turns.specs.Moments.{service_of}
use Rattle.part_turns.proofs.PlaceLemmas.{nth_tag}
use Rattle.comp_runs.specs.CompInvariant.{CompInvariant, Standing, last_after, standing_of, stands_after}
use Rattle.comp_runs.specs.CompSafe.{MayFollow, WritesByRight}
use Rattle.comp_runs.specs.CompTurn.{CompTurn}
use Rattle.comp_runs.specs.OwnerBook.{OwnerBook, owners_by}
use Rattle.comp_runs.proofs.ServiceLemmas.{IsKnown}
use Rattle.comp_runs.proofs.StandingLemmas.{owners_are, stands_next}

-- ---- the invariant, and what a turn does, by what stands

pub record Stands (standing : Standing) (s : Machine CompartmentState CompartmentTag) : Type 0 where
  pub words : (n : ℕ) → n < length s.core.ram.words → IsKnown s.policy.count (nth_tag s.core.ram n) (standing.owners n)
  pub pcs : (h : ℕ) → is_ready_in s.core h ≡ true → (hart_at s.core h).pc_tag ≡ Pc (standing.last h).jumped (standing.last h).owner

pub record Guarantees (standing : Standing) (e : Event CompartmentTag) : Type 0 where
  pub writes : is_retirement e ≡ true → WritesByRight standing.owners e
  pub follows : is_retirement e ≡ true → MayFollow (standing.last e.hart).owner (standing.last e.hart).jumped (standing.owners (e.pc / 4))

module _ (birth : ℕ → Birth) (entries : List ℕ) where
  pub invariant_stands : (events : List (Event CompartmentTag)) (s : Machine CompartmentState CompartmentTag) → CompInvariant birth entries events s
      → Stands (standing_of birth entries events) s
  invariant_stands events s invariant = record { words = λ n within. record { tag_is = invariant.tags n within; few = invariant.few n within }; pcs = invariant.pcs }

  pub invariant_after : (before : List (Event CompartmentTag)) (e : Event CompartmentTag) (t : Machine CompartmentState CompartmentTag)
      → Stands (stands_after (standing_of birth entries before) e) t → CompInvariant birth entries (before ++ e ∷ []) t
  invariant_after before e t after =
      let stands = subst (λ standing. Stands standing t) (sym (stands_next birth entries before e)) after in
      record { tags = λ n within. (stands.words n within).tag_is; few = λ n within. (stands.words n within).few; pcs = stands.pcs }

  pub turn_of_invariant : (before : List (Event CompartmentTag)) (e : Event CompartmentTag) → Guarantees (standing_of birth entries before) e
      → CompTurn birth entries before e
  turn_of_invariant before e guarantees =
      let last = (standing_of birth entries before).last e.hart in
      record {
        writes = λ is. subst (λ (book : OwnerBook). WritesByRight book e) (owners_are birth entries before) (guarantees.writes is);
        follows = λ is.
            subst (λ (book : OwnerBook). MayFollow last.owner last.jumped (book (e.pc / 4))) (owners_are birth entries before) (guarantees.follows is);
      }

-- ---- a turn that doesn't retire

guarantees_nothing : (standing : Standing) (e : Event CompartmentTag) → is_retirement e ≡ false → Guarantees standing e
guarantees_nothing standing e unretired = record { writes = λ is. absurd cc; follows = λ is. absurd cc }

stands_still : (standing : Standing) (e : Event CompartmentTag) → is_retirement e ≡ false → service_of e ≡ None → stands_after standing e ≡ standing
stands_still standing e unretired none =
    ap (λ service. record { owners = owners_by standing.owners service; last = if is_retirement e then last_after standing e else standing.last }) none
    ∙ ap (λ retires. record { owners = standing.owners; last = if retires then last_after standing e else standing.last }) unretired

-- ---- any turn

-- a turn does as guaranteed, and the invariant stands after it
pub record IsKept (old : Standing) (e : Event CompartmentTag) (t : Machine CompartmentState CompartmentTag) : Type 0 where
  pub guarantees : Guarantees old e
  pub stands : Stands (stands_after old e) t

module _ (old : Standing) (e : Event CompartmentTag) where
  -- without a service the owners stay
  pub same_owners : service_of e ≡ None → (stands_after old e).owners ≡ old.owners
  same_owners none = ap (owners_by old.owners) none

  pub not_retired : (t : Machine CompartmentState CompartmentTag) → is_retirement e ≡ false → service_of e ≡ None → Stands old t → IsKept old e t
  not_retired t unretired none stands = record {
    guarantees = guarantees_nothing old e unretired;
    stands = subst (λ standing. Stands standing t) (sym (stands_still old e unretired none)) stands;
  }
