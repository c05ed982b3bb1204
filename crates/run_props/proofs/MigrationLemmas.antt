-- An image and the one that it is migrated to: their starts differ in how many compartments there may be, and their runs in nothing, as
-- long as no split is spent.
use Rattle.std.proofs.Common.{◌≡◌, ◌⊎◌, inl, inr, ℕ, ◌<◌, ◌≤◌, Bool, true, false, nat_lt, List, Option, Some, None, option_map, Result, Ok, Err, refl, ap, sym, subst, ◌==◌, ◌∙◌, if◌then◌else◌, arith}
use Rattle.std.specs.List.{All}
use Rattle.std.proofs.lemmas.List.Elements.{recursion_from_All}
use Rattle.std.proofs.lemmas.Bool.{eqb-true, lt-ltb, ltb-true}
use Rattle.image_format.specs.Conditions.{compartment_limit}
use Rattle.image_format.specs.Migrated.{migrated}
use Rattle.image_format.specs.Picture.{Picture}
use Rattle.image_format.specs.declared.version.Version.{Version}
use Rattle.image_format.specs.declared.version.Version.TheVariants.{Two}
use Rattle.shared_terms.specs.Steps.{◌>>=◌}
use Rattle.policy_trait.specs.Maps.{args_by, ok_by, plan_by}
use Rattle.policy_trait.specs.Model.{PolicyModel}
use Rattle.policy_trait.specs.declared.services.Args.{Args}
use Rattle.policy_trait.specs.declared.services.Plan.{Plan}
use Rattle.policy_trait.specs.declared.services.PlanEnd.{PlanEnd}
use Rattle.policy_trait.specs.declared.services.PlanEnd.TheVariants as plan_end
use Rattle.sealing_policy.specs.Sealing.{sealing}
use Rattle.flow_policy.specs.Flow.{flow}
use Rattle.compartment_policy.specs.Compartments.{CompartmentState, compartment_knows, compartment_plan, compartments, is_range, let_plan, refused_plan, split_plan, split_service, splitting, words_of}
use Rattle.compartment_policy.specs.declared.tag.CompartmentTag.{CompartmentTag}
use Rattle.compartment_policy.specs.declared.tag.CompartmentTag.TheVariants.{Plain}
use Rattle.flow_policy.specs.declared.tag.FlowTag.{FlowTag}
use Rattle.heap_policy.specs.declared.tag.HeapTag.{HeapTag}
use Rattle.policy_trait.specs.declared.rules.Why.TheVariants as why
use Rattle.heap_policy.specs.Heap.{HeapState, heap}
use Rattle.policy_product.specs.Both.{beside_left, beside_right, both, left, lending_of, lent_to_left, plan_of_left, plan_of_right, right}
use Rattle.policy_product.specs.Maybe.{maybe, some_tag, tag_or}
use Rattle.policy_product.specs.declared.maybe.Maybe.{Maybe}
use Rattle.policy_choice.specs.All.{AllState, AllTag, all, choice_state, compartment_count, part_if}
use Rattle.policy_choice.specs.declared.basis.Basis.{Basis}
use Rattle.policy_choice.proofs.AllLemmas.{lent_to_compartments}
use Rattle.tag_loader.specs.Births.{birth_of}
use Rattle.tag_loader.specs.Start.{memory_of, start_harts, start_machine, start_ram, start_tags}
use Rattle.turn_steps.specs.Feeds.{Tape}
use Rattle.engine_trait.specs.Machine.{Machine}
use Rattle.engine_trait.specs.Runs.{Item, run_along}
use Rattle.run_props.proofs.BirthLemmas.{limit_fits}
use Rattle.run_props.proofs.AlikeLemmas.{AnswersAlike, IsSameOrSpent, events_alike}
use Rattle.run_props.specs.Migration.{IsUnspent, widened_start, with_limit}

-- ---- plans that are the same, unless a split is spent

abbrev IsSame : {A : Type 0} → ℕ → Result A PlanEnd → Result A PlanEnd → Type 0
IsSame number first second = IsSameOrSpent split_service number first second

same_by : {A B : Type 0} (number : ℕ) (change : A → B) (first second : Result A PlanEnd) → IsSame number first second → IsSame number (ok_by change first) (ok_by change second)
same_by number change first second (inl (is, spent)) = inl (is, ap (ok_by change) spent)
same_by number change first second (inr same) = inr (ap (ok_by change) same)

same_after : {A X : Type 0} (number : ℕ) (before : Result X PlanEnd) (first second : Result A PlanEnd) → IsSame number first second
    → IsSame number (before >>= λ given. first) (before >>= λ given. second)
same_after number (Ok x) first second same = same
same_after number (Err end) first second same = inr refl

-- where both lend
same_lent : {A : Type 0} (number : ℕ) (before also : Result (Unit {0}) PlanEnd) (first second : Result A PlanEnd) → before ≡ Ok tt → also ≡ Ok tt → IsSame number first second
    → IsSame number (before >>= λ given. first) (also >>= λ given. second)
same_lent number (Ok x) (Ok y) first second is also_is same = same
same_lent number (Ok x) (Err end) first second is also_is same = absurd (let h : Err end ≡ Ok tt = also_is in cc)
same_lent number (Err end) also first second is also_is same = absurd (let h : Err end ≡ Ok tt = is in cc)

same_if : {A : Type 0} (number : ℕ) (test : Bool) (first second other another : Result A PlanEnd) → IsSame number first second → IsSame number other another
    → IsSame number (if test then first else other) (if test then second else another)
same_if number true first second other another same also = same
same_if number false first second other another same also = also

-- ---- compartments of which there may be more

module _ (state : CompartmentState) (limit : ℕ) (fits : state.limit ≤ limit) (number : ℕ) (a : Args CompartmentTag) (pc : CompartmentTag) where
  abbrev wider : CompartmentState
  wider = record state { limit = limit }

  abbrev split_if : Bool → Bool → Result (Plan CompartmentTag) PlanEnd
  split_if ranges leaves = if ranges then (if leaves then Ok (splitting state.count (words_of a) pc) else Err plan_end.Spent) else refused_plan why.Range

  split_same : number ≡ split_service → IsSame number (split_plan state a pc) (split_plan wider a pc)
  split_same is = by (is_range a.ram (words_of a)) (nat_lt state.count state.limit) refl
    where
      by : (ranges leaves : Bool) → nat_lt state.count state.limit ≡ leaves → IsSame number (split_if ranges leaves) (split_if ranges (nat_lt state.count limit))
      by false leaves less = inr refl
      by true true less =
          let below : state.count < state.limit = ltb-true state.count state.limit less in
          inr (ap (split_if true) (lt-ltb state.count limit (omega (arith, below, fits))))
      by true false less = inl (is, refl)

  compartments_same : IsSame number (compartment_plan state number a pc) (compartment_plan wider number a pc)
  compartments_same = by (number == split_service) refl
    where
      by : (splits : Bool) → (number == split_service) ≡ splits
          → IsSame number (if splits then split_plan state a pc else let_plan number state.count a pc) (if splits then split_plan wider a pc else let_plan number state.count a pc)
      by true is = split_same (eqb-true number split_service is)
      by false is = inr refl

-- ---- all policies

-- there may be no more compartments than that, where the policy is on
abbrev LimitFits : ℕ → Option CompartmentState → Type 0
LimitFits limit None = Unit {0}
LimitFits limit (Some state) = state.limit ≤ limit

-- the second value differs from the first in that limit alone, which is no less than the first one's
record IsWidened (limit : ℕ) (s t : AllState) : Type 0 where
  is : t ≡ with_limit limit s
  fits : LimitFits limit s.1.0.part

module _ (limit : ℕ) (seal : Maybe ℕ) (rest : Maybe (List (ℕ × ℕ)) × Maybe HeapState) where
  abbrev state_with : Option CompartmentState → AllState
  state_with part = (seal, (record { part = part }, rest))

  -- the policies behind compartments, and those behind sealing
  abbrev last : PolicyModel (Option FlowTag × Option HeapTag) (Maybe (List (ℕ × ℕ)) × Maybe HeapState)
  last = both (maybe flow) (maybe heap)

  abbrev others : PolicyModel (Option CompartmentTag × (Option FlowTag × Option HeapTag)) (Maybe CompartmentState × (Maybe (List (ℕ × ℕ)) × Maybe HeapState))
  others = both (maybe compartments) last

  module _ (state : CompartmentState) (fits : state.limit ≤ limit) (number : ℕ) where
    abbrev on_by : CompartmentState → Maybe CompartmentState
    on_by now = record { part = Some now }

    abbrev wide : CompartmentState
    wide = record state { limit = limit }

    others_same : (a : Args (Option CompartmentTag × (Option FlowTag × Option HeapTag))) (pc : Option CompartmentTag × (Option FlowTag × Option HeapTag))
        → IsSame number (others.plan (on_by state, rest) number a pc) (others.plan (on_by wide, rest) number a pc)
    others_same a pc =
        let read = args_by (tag_or Plain) (args_by left a) in
        let at = tag_or Plain pc.0 in
        let beside = beside_right pc.1 (last.plain rest) a.t0.1 in
        let own = (maybe compartments).plan (on_by state) number (args_by left a) pc.0 in
        let wide_own = (maybe compartments).plan (on_by wide) number (args_by left a) pc.0 in
        same_if number (compartment_knows number)
        (plan_of_left (maybe compartments) last (on_by state, rest) number a pc) (plan_of_left (maybe compartments) last (on_by wide, rest) number a pc)
        (plan_of_right (maybe compartments) last (on_by state, rest) number a pc) (plan_of_right (maybe compartments) last (on_by wide, rest) number a pc)
        (same_lent number (lent_to_left (maybe compartments) last (on_by state, rest) number a pc.0) (lent_to_left (maybe compartments) last (on_by wide, rest) number a pc.0)
        (ok_by beside own) (ok_by beside wide_own)
        (lent_to_compartments (on_by state, rest) number a pc.0) (lent_to_compartments (on_by wide, rest) number a pc.0)
        (same_by number beside own wide_own
        (same_by number (plan_by some_tag) (compartment_plan state number read at) (compartment_plan wide number read at) (compartments_same state limit fits number read at))))
        (inr refl)

    all_same : (a : Args AllTag) (pc : AllTag) → IsSame number (all.plan (seal, (on_by state, rest)) number a pc) (all.plan (seal, (on_by wide, rest)) number a pc)
    all_same a pc =
        let beside = beside_left pc.0 ((maybe sealing).plain seal) a.t0.0 in
        let own = others.plan (on_by state, rest) number (args_by right a) pc.1 in
        let wide_own = others.plan (on_by wide, rest) number (args_by right a) pc.1 in
        same_if number ((maybe sealing).knows seal number)
        (plan_of_left (maybe sealing) others (seal, (on_by state, rest)) number a pc) (plan_of_left (maybe sealing) others (seal, (on_by wide, rest)) number a pc)
        (plan_of_right (maybe sealing) others (seal, (on_by state, rest)) number a pc) (plan_of_right (maybe sealing) others (seal, (on_by wide, rest)) number a pc)
        (inr refl)
        (same_after number (lending_of ((maybe sealing).lend seal) (others.uses (on_by state, rest) number) (args_by left a)) (ok_by beside own) (ok_by beside wide_own)
        (same_by number beside own wide_own (others_same (args_by right a) pc.1)))

  answers_at : (part : Option CompartmentState) → LimitFits limit part → AnswersAlike all split_service (state_with part) (with_limit limit (state_with part))
  answers_at None fits = record { rule = λ g x. refl; peek = λ shape x y. refl; knows = λ number. refl; plan = λ number a pc. inr refl; retag = λ p old. refl }
  answers_at (Some state) fits = record {
    rule = λ g x. refl;
    peek = λ shape x y. refl;
    knows = λ number. refl;
    plan = λ number a pc. all_same state fits number a pc;
    retag = λ p old. refl;
  }

  -- what a commit leaves, by whether sealing or compartments own the service
  abbrev committed : Plan AllTag → CompartmentState → Bool → Bool → AllState
  committed p now sealed split =
      if sealed then ((maybe sealing).commit seal (plan_by left p), (record { part = Some now }, rest))
      else (
        seal,
        (if split then ((maybe compartments).commit (record { part = Some now }) (plan_by left (plan_by right p)), rest)
            else (record { part = Some now }, (both (maybe flow) (maybe heap)).commit rest (plan_by right (plan_by right p)))),
      )

  commits_at : (part : Option CompartmentState) (p : Plan AllTag) → LimitFits limit part
      → IsWidened limit (all.commit (state_with part) p) (all.commit (with_limit limit (state_with part)) p)
  commits_at None p fits = by ((maybe sealing).knows seal p.service)
    where
      by : (sealed : Bool) → IsWidened limit
          (if sealed then ((maybe sealing).commit seal (plan_by left p), (record { part = None }, rest)) else (seal, (record { part = None }, (both (maybe flow) (maybe heap)).commit rest (plan_by right (plan_by right p)))))
          (if sealed then ((maybe sealing).commit seal (plan_by left p), (record { part = None }, rest)) else (seal, (record { part = None }, (both (maybe flow) (maybe heap)).commit rest (plan_by right (plan_by right p)))))
      by true = record { is = refl; fits = tt }
      by false = record { is = refl; fits = tt }
  commits_at (Some state) p fits = by ((maybe sealing).knows seal p.service) (compartment_knows p.service)
    where
      by : (sealed split : Bool) → IsWidened limit (committed p state sealed split) (committed p (record state { limit = limit }) sealed split)
      by true split = record { is = refl; fits = fits }
      by false true = record { is = refl; fits = fits }
      by false false = record { is = refl; fits = fits }

answers_widened : (limit : ℕ) (s t : AllState) → IsWidened limit s t → AnswersAlike all split_service s t
answers_widened limit s t widened = subst (AnswersAlike all split_service s) (sym widened.is) (answers_at limit s.0 s.1.1 s.1.0.part widened.fits)

commits_widened : (limit : ℕ) (s t : AllState) (p : Plan AllTag) → IsWidened limit s t → IsWidened limit (all.commit s p) (all.commit t p)
commits_widened limit s t p widened =
    subst (λ (other : AllState). IsWidened limit (all.commit s p) (all.commit other p)) (sym widened.is) (commits_at limit s.0 s.1.1 s.1.0.part p widened.fits)

-- ---- the start

abbrev widest : ℕ
widest = compartment_limit Two

part_is : (on : Bool) (count limit : ℕ)
    → part_if on (record { count = count; limit = widest })
    ≡ record { part = option_map (λ (state : CompartmentState). record state { limit = widest }) (part_if on (record { count = count; limit = limit })).part }
part_is true count limit = refl
part_is false count limit = refl

part_fits : (on : Bool) (count : ℕ) (version : Version) → LimitFits widest (part_if on (record { count = count; limit = compartment_limit version })).part
part_fits true count version = limit_fits version
part_fits false count version = tt

module _ (basis : Basis) (g : Picture) where
  policy_is : choice_state basis (migrated g) ≡ with_limit widest (choice_state basis g)
  policy_is = λ j. (
    (choice_state basis g).0,
    (part_is basis.choice.comp (compartment_count g.compartments) (compartment_limit g.version) j, (choice_state basis g).1.1),
  )

  core_at : (seal : Maybe ℕ) (part : Option CompartmentState) (rest : Maybe (List (ℕ × ℕ)) × Maybe HeapState)
      → (start_machine all (with_limit widest (seal, (record { part = part }, rest))) (migrated g)).core ≡ (start_machine all (seal, (record { part = part }, rest)) g).core
  unfolding start_machine start_harts start_ram start_tags memory_of birth_of
  core_at seal None rest = refl
  core_at seal (Some state) rest = refl

  pub start_is : start_machine all (choice_state basis (migrated g)) (migrated g) ≡ widened_start basis g
  unfolding start_machine
  start_is =
      ap (λ (policy : AllState). start_machine all policy (migrated g)) policy_is
      ∙ λ j. record {
        policy = with_limit widest (choice_state basis g);
        core = core_at (choice_state basis g).0 (choice_state basis g).1.0.part (choice_state basis g).1.1 j;
      }

  -- ---- the run

  start_widened : IsWidened widest (start_machine all (choice_state basis g) g).policy (widened_start basis g).policy
  unfolding start_machine
  start_widened = record { is = refl; fits = part_fits basis.choice.comp (compartment_count g.compartments) g.version }

  pub runs_alike : (feed : Tape) (items : List Item) → All (IsUnspent split_service) (run_along all (start_machine all (choice_state basis g) g) feed items).events
      → (run_along all (start_machine all (choice_state basis (migrated g)) (migrated g)) feed items).events ≡ (run_along all (start_machine all (choice_state basis g) g) feed items).events
  runs_alike feed items unspent =
      ap (λ (start : Machine AllState AllTag). (run_along all start feed items).events) start_is
      ∙ events_alike all split_service (IsWidened widest) (answers_widened widest) (commits_widened widest) (start_machine all (choice_state basis g) g) (widened_start basis g) feed items
      start_widened refl (recursion_from_All (IsUnspent split_service) _ unspent)
