-- What a turn that the rule allows tells: it follows by right, writes by right, and leaves each ready hart's pc as its last turn says.
use Rattle.std.proofs.Common.{◌≡◌, ◌≢◌, ◌⊎◌, inl, inr, ℕ, ◌/◌, true, ◌&&◌, ◌||◌, Some, None, sym, ap, ◌∙◌, subst}
use Rattle.std.proofs.lemmas.Bool.{cases_eq, ne_eqb}
use Rattle.std.proofs.Math.Bool.{and-false}
use Rattle.rv_step.specs.declared.accesses.Access.TheVariants as access
use Rattle.policy_trait.specs.declared.rules.Outs.{Outs}
use Rattle.tag_memory.specs.Hart.{HartState}
use Rattle.tag_memory.specs.Ram.{RamState}
use Rattle.turn_steps.specs.declared.look.Look.{Look}
use Rattle.engine_trait.specs.Events.{Event, is_retirement, Touch, touch_of}
use Rattle.engine_trait.specs.Machine.{CoreState, Machine, hart_at, is_ready_in, with_hart}
use Rattle.engine_trait.specs.Turn.{rule_inputs}
use Rattle.compartment_policy.specs.Compartments.{CompartmentState, compartments, is_jump as is_jumping, may_write}
use Rattle.compartment_policy.specs.declared.tag.CompartmentTag.{CompartmentTag}
use Rattle.compartment_policy.specs.declared.tag.CompartmentTag.TheVariants.{Pc}
use Rattle.part_turns.specs.Moments.{is_jalr}
use Rattle.part_turns.specs.Turns.{Allows, is_jal_group}
use Rattle.part_turns.proofs.PlaceLemmas.{hart_other, hart_same, ready_same, there}
use Rattle.comp_runs.specs.CompInvariant.{Last, Standing, place_of, stands_after}
use Rattle.comp_runs.specs.CompSafe.{MayFollow, WritesByRight, is_jump, owner_at, is_permitted}
use Rattle.comp_runs.specs.OwnerBook.{Owned}
use Rattle.comp_runs.proofs.RuleLemmas.{Obeys, obeys, same_jump}
use Rattle.comp_runs.proofs.StandingLemmas.{is_own, last_other, last_own}
use Rattle.comp_runs.proofs.InvariantLemmas.{Guarantees, Stands}

module _ (old : Standing) (s : Machine CompartmentState CompartmentTag) (invariant : Stands old s) (h : ℕ) (look : Look)
    (outs : Outs CompartmentTag) (e : Event CompartmentTag)
    (allows : Allows compartments s h look outs e) where
  -- the word that the turn obeys
  abbrev pub executed : Owned
  executed = old.owners ((hart_at s.core h).pc / 4)

  pub obeys_rule : Obeys (old.last h).owner (old.last h).jumped executed look.group (rule_inputs s.core h look).tm outs
  obeys_rule =
      obeys (old.last h).owner (old.last h).jumped executed look.group (rule_inputs s.core h look) outs (invariant.pcs h allows.ready)
      (invariant.words ((hart_at s.core h).pc / 4) allows.seen.there).tag_is allows.rule

  follows_by_right : MayFollow (old.last e.hart).owner (old.last e.hart).jumped (old.owners (e.pc / 4))
  follows_by_right =
      subst (λ n. MayFollow (old.last n).owner (old.last n).jumped (old.owners (e.pc / 4))) (sym allows.hart)
      (subst (λ pc. MayFollow (old.last h).owner (old.last h).jumped (old.owners (pc / 4))) (sym allows.pc) obeys_rule.follows)

  jumps_as : is_jump e.word ≡ is_jumping look.group
  jumps_as =
      ap is_jump allows.word ∙ ap (λ jal. jal || is_jalr look.word) allows.seen.jal
      ∙ ap (λ jalr. is_jal_group look.group || jalr) allows.seen.jalr ∙ same_jump look.group

  last_here : (stands_after old e).last h ≡ record { owner = executed.owner; jumped = is_jumping look.group }
  last_here =
      last_own old e h (is_own h e allows.is_retired allows.hart)
      ∙ ap (λ pc. record { owner = (old.owners (pc / 4)).owner; jumped = is_jump e.word }) allows.pc
      ∙ ap (λ jumped. record { owner = executed.owner; jumped = jumped }) jumps_as

  pub last_elsewhere : (n : ℕ) → n ≢ h → (stands_after old e).last n ≡ old.last n
  last_elsewhere n differs =
      last_other old e n (ap (λ own. is_retirement e && own) (ne_eqb e.hart n (λ same. differs (sym same ∙ allows.hart))) ∙ and-false (is_retirement e))

  -- the pc of each ready hart, where this one goes on
  module _ (hart : HartState CompartmentTag) (ram : RamState CompartmentTag) (pc : hart.pc_tag ≡ outs.pc) (plain : ram.plain ≡ s.core.ram.plain) where
    abbrev core_after : CoreState CompartmentTag
    core_after = with_hart s.core h hart ram

    abbrev HasPc : ℕ → Type 0
    HasPc n = (hart_at core_after n).pc_tag ≡ Pc ((stands_after old e).last n).jumped ((stands_after old e).last n).owner

    pc_here : HasPc h
    pc_here =
        ap (λ (x : HartState CompartmentTag). x.pc_tag) (hart_same s.core h hart ram (there s.core h allows.ready)) ∙ pc ∙ obeys_rule.pc
        ∙ ap (λ (last : Last). Pc last.jumped last.owner) (sym last_here)

    pc_elsewhere : (n : ℕ) → n ≢ h → is_ready_in s.core n ≡ true → HasPc n
    pc_elsewhere n differs ready =
        ap (λ (x : HartState CompartmentTag). x.pc_tag) (hart_other s.core h n hart ram differs plain) ∙ invariant.pcs n ready
        ∙ ap (λ (last : Last). Pc last.jumped last.owner) (sym (last_elsewhere n differs))

    pub pcs_after : (n : ℕ) → is_ready_in core_after n ≡ true → HasPc n
    pcs_after n ready = by_hart (cases_eq n h)
      where
        by_hart : (n ≡ h) ⊎ (n ≢ h) → HasPc n
        by_hart (inl same) = subst HasPc (sym same) pc_here
        by_hart (inr differs) = pc_elsewhere n differs (sym (ready_same s.core h n hart ram) ∙ ready)

  -- ---- what is guaranteed

  -- a word that the turn's compartment may write
  pub permitted : (n : ℕ) → may_write executed.owner (place_of (old.owners n)) ≡ true → is_permitted (owner_at old.owners e) (old.owners n) ≡ true
  permitted n writes = subst (λ pc. is_permitted (old.owners (pc / 4)).owner (old.owners n) ≡ true) (sym allows.pc) writes

  pub guaranteed : WritesByRight old.owners e → Guarantees old e
  guaranteed writes = record { writes = λ is. writes; follows = λ is. follows_by_right }

  -- without an access nothing is stored
  pub stores_nothing : look.effect.access ≡ access.None → (touch : Touch) → e.access ≡ Some touch → touch.stores ≡ true
      → is_permitted (owner_at old.owners e) (old.owners (touch.address / 4)) ≡ true
  stores_nothing none touch touches storing = let no_touch : e.access ≡ None = allows.access ∙ ap touch_of none in absurd cc
