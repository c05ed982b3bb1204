-- What a retired turn does under control flow, in a state that the invariant speaks of.
use Rattle.std.proofs.Common.{◌≡◌, ℕ, ◌*◌, ◌/◌, ◌%◌, ◌<◌, ◌==◌, Bool, true, false, ◌&&◌, List, length, Option, Some, None, slice_index, if◌then◌else◌, refl, sym, ap, ◌∙◌, subst, arith}
use Rattle.std.specs.List.{Contains}
use Rattle.std.proofs.lemmas.Bool.Decides.{nat_tests}
use Rattle.std.proofs.lemmas.Map.Views.{Contains-from_any}
use Rattle.policy_trait.specs.declared.birth.Birth.{Birth}
use Rattle.policy_trait.specs.declared.rules.Ins.{Ins}
use Rattle.policy_trait.specs.declared.rules.Outs.{Outs}
use Rattle.tag_memory.specs.Hart.{IsHartOf, fresh_hart}
use Rattle.turn_steps.specs.declared.look.Look.{Look}
use Rattle.engine_trait.specs.Events.{Event, is_retirement}
use Rattle.engine_trait.specs.Machine.{IsMachine, Machine, hart_at}
use Rattle.engine_trait.specs.Turn.{rule_inputs}
use Rattle.part_turns.specs.Moments.{is_jalr}
use Rattle.part_turns.specs.Turns.{Allows, is_jalr_group}
use Rattle.flow_policy.specs.Flow.{flow, may_enter}
use Rattle.flow_policy.specs.declared.tag.FlowTag.{FlowTag}
use Rattle.flow_policy.specs.declared.tag.FlowTag.TheVariants.{Plain, Still, Code, Data}
use Rattle.flow_runs.specs.EdgeWalk.{Visit, visit_of, walk_of}
use Rattle.flow_runs.specs.FlowInvariant.{FlowInvariant, from_label, last_of, pc_after}
use Rattle.flow_runs.specs.FlowSafe.{HasLabel, IsCode, IsListed}
use Rattle.flow_runs.specs.FlowTurn.{FlowTurn}
use Rattle.part_turns.proofs.PlaceLemmas.{there}
use Rattle.flow_runs.proofs.RuleLemmas.{Entered, jalr_label, pc_is, rule_enters}

-- ---- the tags of words, and edges

-- a code tag is that of a word of a code range, and has its label
pub born_code : (code : Bool) (label tagged : Option ℕ) → (if code then Code label else Data) ≡ Code tagged → (code ≡ true) × (label ≡ tagged)
born_code true label tagged e = (refl, cc)
born_code false label tagged e = absurd cc

same_edge : (x y : ℕ × ℕ) → ((y.0 == x.0) && (y.1 == x.1)) ≡ true → x ≡ y
same_edge x y e = grind (arith, nat_tests)

-- a pc that a jump led to enters a word along an edge alone
record IsEntered (edges : List (ℕ × ℕ)) (from to : Option ℕ) : Type 0 where
  source : ℕ
  target : ℕ
  from_is : from ≡ Some source
  to_is : to ≡ Some target
  listed : Contains edges (source, target)

enters : (edges : List (ℕ × ℕ)) (from to : Option ℕ) → may_enter edges (from_label from) to ≡ true → IsEntered edges from to
enters edges (Some source) (Some target) may = record {
  source = source;
  target = target;
  from_is = refl;
  to_is = refl;
  listed = Contains-from_any {eq = λ (x y : ℕ × ℕ). (y.0 == x.0) && (y.1 == x.1)} same_edge (source, target) edges may;
}
enters edges (Some source) None may = absurd cc
enters edges None (Some target) may = absurd cc
enters edges None None may = absurd cc

-- ---- a retired turn

module _ (birth : ℕ → Birth) (words : List ℕ) (edges : List (ℕ × ℕ)) (before : List (Event FlowTag)) (s : Machine (List (ℕ × ℕ)) FlowTag) (h : ℕ)
    (is : IsMachine flow s) (invariant : FlowInvariant birth words edges before s) (look : Look) (outs : Outs FlowTag) (e : Event FlowTag)
    (allows : Allows flow s h look outs e) where
  abbrev inputs : Ins FlowTag
  inputs = rule_inputs s.core h look

  pub entered : Entered s.policy look.group inputs.pc inputs.ci inputs.tm outs
  entered = rule_enters s.policy look.group inputs outs allows.rule

  -- the pc is that of a word, which lies in memory
  place : 4 * ((hart_at s.core h).pc / 4) ≡ (hart_at s.core h).pc
  place =
      let hart : IsHartOf Plain (hart_at s.core h) = is.harts h (fresh_hart 0 s.core.ram.plain s.core.ram.plain) (there s.core h allows.ready) in
      let aligned : (hart_at s.core h).pc % 4 ≡ 0 = hart.shape.aligned in
      omega arith

  within : (hart_at s.core h).pc / 4 < length words
  within = omega (arith, allows.seen.there, invariant.count)

  -- the image says that a code word stands there, with the label that the rule found
  born : ((birth e.pc).code ≡ true) × ((birth e.pc).label ≡ entered.label)
  born =
      let n : ℕ = (hart_at s.core h).pc / 4 in
      let at : ((birth (4 * n)).code ≡ true) × ((birth (4 * n)).label ≡ entered.label) =
      born_code (birth (4 * n)).code (birth (4 * n)).label entered.label (sym (invariant.tags n within) ∙ entered.code) in
      subst (λ (a : ℕ). ((birth a).code ≡ true) × ((birth a).label ≡ entered.label)) (place ∙ sym allows.pc) at

  is_code : IsCode birth words edges (visit_of e)
  is_code =
      let n : ℕ = (hart_at s.core h).pc / 4 in
      let here : (birth (4 * n)).code ≡ true = ap (λ (a : ℕ). (birth a).code) (place ∙ sym allows.pc) ∙ born.0 in
      record {
        code = born.0;
        word = allows.word ∙ allows.seen.word ∙ invariant.code n within here ∙ ap (λ (a : ℕ). slice_index words (a / 4)) (sym allows.pc);
      }

  -- the word tells the group of a jump by register
  jumps : is_jalr e.word ≡ is_jalr_group look.group
  jumps = ap is_jalr allows.word ∙ allows.seen.jalr

  has_label : is_jalr e.word ≡ true → HasLabel birth words edges (visit_of e)
  has_label jalr =
      let found = jalr_label look.group entered.label inputs.tm outs (sym jumps ∙ jalr) entered.outs_are in
      (found.0, born.1 ∙ found.1)

  -- the rule let the pc enter, and the pc's tag is that of the hart's last retired turn
  may_come : (x : Visit) → last_of (walk_of h before) ≡ Some x → is_jalr x.word ≡ true
      → may_enter edges (from_label (birth x.address).label) entered.label ≡ true
  may_come x last jalr =
      let from : inputs.pc ≡ from_label (birth x.address).label =
      invariant.pcs h allows.ready
      ∙ ap (pc_after birth words edges) last
      ∙ ap (λ (b : Bool). if b then from_label (birth x.address).label else Still) jalr in
      ap (λ (tag : FlowTag). may_enter edges tag entered.label) (sym from)
      ∙ ap (λ (list : List (ℕ × ℕ)). may_enter list inputs.pc entered.label) (sym invariant.listed)
      ∙ entered.may

  is_listed : (x : Visit) → last_of (walk_of h before) ≡ Some x → is_jalr x.word ≡ true → IsListed birth words edges x (visit_of e)
  is_listed x last jalr =
      let edge : IsEntered edges (birth x.address).label entered.label = enters edges (birth x.address).label entered.label (may_come x last jalr) in
      record {
        source = edge.source;
        target = edge.target;
        labelled = edge.from_is;
        target_labelled = born.1 ∙ edge.to_is;
        listed = edge.listed;
      }

  pub does_as_guaranteed : FlowTurn birth words edges before e
  does_as_guaranteed = record {
    code = λ retires. is_code;
    labelled = λ retires. has_label;
    listed = λ retires x last. is_listed x (ap (λ (n : ℕ). last_of (walk_of n before)) (sym allows.hart) ∙ last);
  }

  -- and then the pc's tag is that of a hart whose last retired turn was this one
  pub next_pc : outs.pc ≡ pc_after birth words edges (Some (visit_of e))
  next_pc =
      pc_is look.group entered.label inputs.tm outs entered.outs_are
      ∙ ap (λ (b : Bool). if b then from_label entered.label else Still) (sym jumps)
      ∙ ap (λ (label : Option ℕ). if is_jalr e.word then from_label label else Still) (sym born.1)

-- a turn that doesn't retire guarantees nothing
pub no_guarantee : (birth : ℕ → Birth) (words : List ℕ) (edges : List (ℕ × ℕ)) (before : List (Event FlowTag)) (e : Event FlowTag)
    → is_retirement e ≡ false → FlowTurn birth words edges before e
no_guarantee birth words edges before e waits = record {
  code = λ retires. absurd cc;
  labelled = λ retires jumps. absurd cc;
  listed = λ retires x last jumps. absurd cc;
}
