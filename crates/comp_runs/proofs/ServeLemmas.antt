-- A service: each word's tag becomes what the owner book says of the word, and a word that becomes zero let its compartment write it.
use Rattle.std.proofs.Common.{◌≡◌, ℕ, ◌<◌, Bool, true, false, List, length, Option, Some, None, refl, sym, ap, ◌∙◌, subst, arith, if◌then◌else◌, ◌+◌, ◌*◌, ◌≤◌, Ok}
use Rattle.std.proofs.lemmas.Bool.Decides.{nat_tests}
use Rattle.std.specs.Option.{ForSome}
use Rattle.rv_step.specs.declared.accesses.Access.TheVariants as access
use Rattle.policy_trait.specs.declared.rules.Outs.{Outs}
use Rattle.policy_trait.specs.PolicyLaws.{IsRange}
use Rattle.policy_trait.specs.declared.services.Args.{Args}
use Rattle.policy_trait.specs.declared.services.Plan.{Plan}
use Rattle.policy_trait.specs.declared.services.Words.{Words}
use Rattle.tag_memory.specs.Hart.{moved_to}
use Rattle.tag_memory.specs.Ram.{RamState, ram_tag, ram_bytes, ram_word}
use Rattle.tag_memory.specs.Rows.{LiesOutsideRow}
use Rattle.monitor_calls.specs.Service.{retagged_range}
use Rattle.turn_steps.specs.declared.look.Look.{Look}
use Rattle.turn_steps.specs.Services.{args_on, with_answer, with_words}
use Rattle.turn_steps.proofs.KeptLemmas.{words_bytes}
use Rattle.engine_trait.specs.Events.{Event}
use Rattle.engine_trait.specs.Machine.{IsMachine, Machine, hart_at}
use Rattle.engine_trait.specs.Turn.{core_served}
use Rattle.compartment_policy.specs.Compartments.{CompartmentState, compartments, is_writer}
use Rattle.compartment_policy.specs.declared.tag.CompartmentTag.{CompartmentTag}
use Rattle.policy_parts.specs.Part.{Planned, beside_others, value_after}
use Rattle.part_turns.specs.Moments.{service_of, Service}
use Rattle.part_turns.specs.Turns.{Allows, after_service}
use Rattle.part_turns.proofs.PlaceLemmas.{nth_tag, IsServed, each_served, kept, words_plain, written}
use Rattle.comp_runs.specs.CompInvariant.{Standing, place_of}
use Rattle.comp_runs.specs.CompSafe.{WritesByRight, owner_at, is_permitted}
use Rattle.comp_runs.specs.OwnerBook.{owners_by, covers, is_covered, owned_after}
use Rattle.comp_runs.proofs.ServiceLemmas.{IsKnown, known_outside, known_within, service_of_plan, zeroed_by_right}
use Rattle.comp_runs.proofs.InvariantLemmas.{IsKept, Stands}
use Rattle.comp_runs.proofs.AllowedLemmas.{obeys_rule, pcs_after, permitted, guaranteed, stores_nothing}

same_service : (x y : Service CompartmentTag) → Some x ≡ Some y → x ≡ y
same_service x y e = cc

-- ---- the words of a range

covers_by : (range : Words) (n : ℕ) → range.base ≤ 4 * n → 4 * n < range.base + 4 * range.count → covers range n ≡ true
covers_by range n low high = grind (arith, nat_tests)

covered_within : (range : Words) (given : Option Words) (n : ℕ) → given ≡ Some range → range.base ≤ 4 * n → 4 * n < range.base + 4 * range.count
    → is_covered given n ≡ true
covered_within range given n is low high = ap (λ words. is_covered words n) is ∙ covers_by range n low high

not_covered : (given : Option Words) (n : ℕ) → ForSome given (λ range. LiesOutsideRow range.base range.count (4 * n)) → is_covered given n ≡ false
not_covered None n outside = refl
not_covered (Some range) n outside = let lies = outside range refl in grind (arith, nat_tests)

covered_in_memory : (range : Words) (n count : ℕ) → IsRange (4 * count) range → covers range n ≡ true → n < count
covered_in_memory range n count inside covered = grind (arith, nat_tests)

-- ---- the turn

module _ (old : Standing) (s : Machine CompartmentState CompartmentTag) (invariant : Stands old s) (h : ℕ) (look : Look)
    (outs : Outs CompartmentTag) (e : Event CompartmentTag)
    (allows : Allows compartments s h look outs e) (p : Plan CompartmentTag) where
  abbrev arguments : Args CompartmentTag
  arguments = args_on (hart_at s.core h) s.core.ram

  abbrev service : Service CompartmentTag
  service = service_of_plan look.service arguments p

  module _ (planned : Planned compartments s.policy look.service arguments outs.pc p) (new : RamState CompartmentTag) (n : ℕ)
      (within : n < length s.core.ram.words) where
    abbrev KnownWhere : Bool → Type 0
    KnownWhere has = IsKnown (value_after compartments s.policy p).count (nth_tag new n) (if has then owned_after service (old.owners n) else old.owners n)

    -- what the book says of a word, whether the range has it or not
    word_known : IsServed compartments s.policy p s.core.ram new n
        → IsKnown (value_after compartments s.policy p).count (nth_tag new n) (owners_by old.owners (Some service) n)
    word_known (written range range_is low high tag word) =
        subst KnownWhere (sym (covered_within range p.range n range_is low high))
        (known_within s.policy look.service arguments outs.pc p (nth_tag s.core.ram n) (nth_tag new n) tag (old.owners n) planned (invariant.words n within))
    word_known (kept outside tag word) =
        subst KnownWhere (sym (not_covered p.range n outside))
        (known_outside s.policy look.service arguments outs.pc p (nth_tag new n) (old.owners n)
        (subst (λ tag. IsKnown s.policy.count tag (old.owners n)) (sym tag) (invariant.words n within)))

    -- a word of the range that becomes zero
    zeroes_by_right : p.zero ≡ true → is_covered p.range n ≡ true → IsServed compartments s.policy p s.core.ram new n
        → is_permitted (owner_at old.owners e) (old.owners n) ≡ true
    zeroes_by_right zeroed covered (written given given_is low high tag word) =
        permitted old s invariant h look outs e allows n
        (ap (λ pc. is_writer pc (place_of (old.owners n))) (sym (obeys_rule old s invariant h look outs e allows).pc)
        ∙ ap (is_writer outs.pc) (sym (invariant.words n within).tag_is)
        ∙ zeroed_by_right s.policy look.service arguments outs.pc p (nth_tag s.core.ram n) (nth_tag new n) tag planned zeroed)
    zeroes_by_right zeroed covered (kept outside tag word) = let apart = not_covered p.range n outside in absurd cc

  module _ (is : IsMachine compartments s) (words : List (ℕ × ℕ × CompartmentTag)) (none : look.effect.access ≡ access.None)
      (called : service_of e ≡ Some service)
      (planned : Planned compartments s.policy look.service arguments outs.pc p) (ranged : ForSome p.range (IsRange (ram_bytes s.core.ram)))
      (given : retagged_range (beside_others compartments) s.policy (ram_word s.core.ram) (ram_tag s.core.ram) p p.range ≡ Ok words) where
    abbrev ram_after : RamState CompartmentTag
    ram_after = with_words s.core.ram words

    word_served : (n : ℕ) → IsServed compartments s.policy p s.core.ram ram_after n
    word_served n = each_served compartments s.policy p s.core.ram is.ram.shape words ranged given n

    same_count : length ram_after.words ≡ length s.core.ram.words
    same_count = let bytes : 4 * length ram_after.words ≡ 4 * length s.core.ram.words = words_bytes s.core.ram words in omega arith

    zeroes : (range : Words) (n : ℕ) → p.zero ≡ true → p.range ≡ Some range → covers range n ≡ true
        → is_permitted (owner_at old.owners e) (old.owners n) ≡ true
    zeroes range n zeroed range_is covered =
        zeroes_by_right planned ram_after n (covered_in_memory range n (length s.core.ram.words) (ranged range range_is) covered) zeroed
        (ap (λ words. is_covered words n) range_is ∙ covered) (word_served n)

    service_writes : WritesByRight old.owners e
    service_writes = record {
      stores = stores_nothing old s invariant h look outs e allows none;
      zeroes = λ x range n x_called zeroed range_is covered.
          let same : service ≡ x = same_service service x (sym called ∙ x_called) in
          zeroes range n (ap (λ (y : Service CompartmentTag). y.zero) same ∙ zeroed)
          (ap (λ (y : Service CompartmentTag). y.range) same ∙ range_is) covered;
    }

    pub served : IsKept old e (after_service compartments s h look outs p words)
    unfolding core_served
    served = record {
      guarantees = guaranteed old s invariant h look outs e allows service_writes;
      stands = record {
        words = λ n within.
            subst (λ service. IsKnown (value_after compartments s.policy p).count (nth_tag ram_after n) (owners_by old.owners service n)) (sym called)
            (word_known planned ram_after n (subst (λ count. n < count) same_count within) (word_served n));
        pcs = pcs_after old s invariant h look outs e allows (moved_to (with_answer (hart_at s.core h) p.answer) look.effect.next outs.pc) ram_after refl
            (words_plain s.core.ram words);
      };
    }
