-- What an allowed instruction that calls no service of a policy leaves: an exit stops the hart, and any other writes one
-- register, moves on and stores what its access stores.
use Rattle.std.proofs.Common.{◌≡◌, ℕ, List, true, refl, ap, sym}
use Rattle.std.proofs.lemmas.List.{set-get_or}
use Rattle.rv_decode.specs.Groups.{a0}
use Rattle.rv_decode.specs.declared.groups.Group.{Group}
use Rattle.rv_decode.specs.declared.groups.Group.TheVariants as group
use Rattle.rv_step.specs.declared.accesses.Access.{Access}
use Rattle.rv_step.specs.declared.accesses.Access.TheVariants as access
use Rattle.policy_trait.specs.declared.rules.Outs.{Outs}
use Rattle.tag_memory.specs.Hart.{HartState, fresh_hart, moved_to, reg_value}
use Rattle.tag_memory.specs.Ram.{RamState}
use Rattle.turn_steps.specs.Effects.{Carried, carried_by, effect_result, result_value, with_store, with_tagged}
use Rattle.turn_steps.specs.Feeds.{Tape, fed_value}
use Rattle.turn_steps.specs.declared.effects.Done.{Done}
use Rattle.turn_steps.specs.declared.effects.Done.TheVariants as done
use Rattle.turn_steps.specs.declared.look.Look.{Look}
use Rattle.turn_steps.specs.declared.stop.Stop.TheVariants as stop
use Rattle.engine_trait.specs.Events.{is_retiring}
use Rattle.engine_trait.specs.Machine.{CoreState, hart_at, stopping, with_hart}
use Rattle.engine_trait.specs.Turn.{carried_at, core_effected, core_ended, end_of}
use Rattle.part_turns.specs.Turns.{Does, computes, is_computing, loads, loads_part, moves, stores, stores_part}

-- an effect ends a turn that retires
pub retires : (end : Done) → is_retiring (end_of end) ≡ true
retires (done.Stepped byte) = refl
retires done.Broke = refl
retires (done.Exited code) = refl

-- only loads and stores access memory
pub no_access : {T : Type 0} (hart : HartState T) (ram : RamState T) (look : Look) (register value : ℕ) → is_computing look.group ≡ true
    → Does hart ram look register value → look.effect.access ≡ access.None
no_access hart ram look register value computing (moves move none same) = none
no_access hart ram look register value computing (loads place load loaded same) = absurd cc
no_access hart ram look register value computing (loads_part place width signed load loaded) = absurd cc
no_access hart ram look register value computing (stores place store stored none) = absurd cc
no_access hart ram look register value computing (stores_part place stored width store stored_is none) = absurd cc
no_access hart ram look register value computing (computes is none) = none

module _ {T : Type 0} (core : CoreState T) (h : ℕ) (look : Look) (outs : Outs T) where
  abbrev hart : HartState T
  hart = hart_at core h

  -- the hart with a register written and moved on
  abbrev moved : ℕ → ℕ → HartState T
  moved register value = moved_to (with_tagged hart register value outs.result) look.effect.next outs.pc

  -- the core that is left
  pub data Leaves (after : CoreState T) : Type 0 where
    halts : (code : ℕ) → look.group ≡ group.Exit → look.effect.access ≡ access.None → after ≡ stopping core h (stop.Exit code) → Leaves after
    moves_on : (register value : ℕ) → Does hart core.ram look register value
        → after ≡ with_hart core h (moved register value) (with_store core.ram look.effect.access outs.result) → Leaves after

  -- a hart and a memory that are put back
  same_core : with_hart core h hart core.ram ≡ core
  same_core =
      ap (λ (harts : List (HartState T)). record core { harts = harts })
      (set-get_or core.harts h (fresh_hart 0 core.ram.plain core.ram.plain))

  -- where there is no access, memory as it is has what the access stores
  kept : (after : HartState T) → look.effect.access ≡ access.None
      → with_hart core h after core.ram ≡ with_hart core h after (with_store core.ram look.effect.access outs.result)
  kept after none = ap (λ (place : Access). with_hart core h after (with_store core.ram place outs.result)) (sym none)

  abbrev result : ℕ
  result = result_value core.ram look.effect.value look.effect.access

  module _ (feed : Tape) (does : Does hart core.ram look look.places.result result) where
    -- a group that computes makes no access
    none_if : is_computing look.group ≡ true → look.effect.access ≡ access.None
    none_if computing = no_access hart core.ram look look.places.result result computing does

    abbrev carried : Group → Carried T
    carried called = carried_by called hart core.ram feed look outs

    -- it leaves the hart moved on, with any value in that register
    writes : (register value : ℕ) → is_computing look.group ≡ true → Leaves (with_hart core h (moved register value) core.ram)
    writes register value computing =
        moves_on register value (computes computing (none_if computing)) (kept (moved register value) (none_if computing))

    by_group : (called : Group) → look.group ≡ called → Leaves (core_ended core h (carried called) (carried called).done)
    by_group group.Exit is =
        halts (reg_value hart a0) is (none_if (ap is_computing is))
        (ap (λ (c : CoreState T). stopping c h (stop.Exit (reg_value hart a0))) same_core)
    by_group group.Put is = writes 0 0 (ap is_computing is)
    by_group group.Get is = writes a0 (fed_value feed.left) (ap is_computing is)
    by_group group.Break is = moves_on look.places.result result does (kept (moved look.places.result result) (none_if (ap is_computing is)))
    by_group _ is = moves_on look.places.result result does refl

    pub leaves : Leaves (core_effected core feed h look outs)
    unfolding core_effected carried_at effect_result
    leaves = by_group look.group refl
