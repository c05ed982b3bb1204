-- A turn that retires was allowed by the rule, and what it goes by is clean.
use Rattle.std.proofs.Common.{◌≡◌, ℕ, Bool, true, false, not, ◌&&◌, ◌||◌, Some, Result, Ok, Err, refl, sym, ap, ◌∙◌, if◌then◌else◌}
use Rattle.std.proofs.lemmas.Option.{same_Some}
use Rattle.rv_decode.specs.declared.groups.Group.{Group}
use Rattle.rv_decode.specs.declared.groups.Group.TheVariants as group
use Rattle.rv_step.specs.declared.accesses.Access.{Access}
use Rattle.rv_step.specs.declared.accesses.Access.TheVariants as access
use Rattle.policy_trait.specs.declared.rules.Ins.{Ins}
use Rattle.policy_trait.specs.declared.rules.Outs.{Outs}
use Rattle.policy_trait.specs.declared.rules.Refused.{Refused}
use Rattle.policy_trait.specs.declared.rules.Why.TheVariants as why
use Rattle.tag_memory.specs.Hart.{HartState}
use Rattle.tag_memory.specs.Ram.{RamState}
use Rattle.turn_steps.specs.declared.look.Look.{Look}
use Rattle.engine_trait.specs.Events.{Event, Touch, is_retirement, touch_of}
use Rattle.engine_trait.specs.Machine.{Machine}
use Rattle.engine_trait.specs.Turn.{rule_inputs}
use Rattle.part_turns.specs.Keeps.{Keeps}
use Rattle.part_turns.specs.Moments.{is_jalr}
use Rattle.part_turns.specs.Turns.{Allows, Does, Turns, computes, exits, goes, idles, is_jalr_group, loads, loads_part, moves, serves, stops, stores, stores_part}
use Rattle.taint_policy.specs.Taint.{is_clean, meets_row, refusal_for, row_of, tag_from, taint, taint_rule}
use Rattle.taint_policy.specs.declared.policy.Taint.{Taint}
use Rattle.taint_policy.specs.declared.tag.TaintTag.{TaintTag}
use Rattle.taint_policy.specs.declared.tag.TaintTag.TheVariants.{Clean, Tainted}
use Rattle.taint_runs.specs.TaintTurn.{GoesByClean, NoInvariant, TaintTurn}

-- ---- the rule

abbrev ruled : Bool → Group → TaintTag → Result (Outs TaintTag) Refused
ruled meets g result = if meets then Ok (record { pc = Clean; result = result }) else Err (refusal_for (why.Rule g))

by_meets : (meets : Bool) (g : Group) (result : TaintTag) (outs : Outs TaintTag) → ruled meets g result ≡ Ok outs → meets ≡ true
by_meets true g result outs e = refl
by_meets false g result outs e = absurd cc

-- what a row asks of the instruction's word and of the first operand
record AreClean (is_guarded : Bool) (ci t1 : TaintTag) : Type 0 where
  instruction : ci ≡ Clean
  first : is_guarded ≡ true → t1 ≡ Clean

clean_parts : (is_guarded : Bool) (ci t1 : TaintTag) → (is_clean ci && (not is_guarded || is_clean t1)) ≡ true → AreClean is_guarded ci t1
clean_parts is_guarded Tainted t1 e = absurd cc
clean_parts is_guarded Clean Clean e = record { instruction = refl; first = λ is. refl }
clean_parts false Clean Tainted e = record { instruction = refl; first = λ is. absurd cc }
clean_parts true Clean Tainted e = absurd cc

-- an instruction that the rule allows
allowed_clean : (g : Group) (x : Ins TaintTag) (outs : Outs TaintTag) → taint_rule g x ≡ Ok outs → AreClean (row_of g).is_guarded x.ci x.t1
allowed_clean g x outs e =
    clean_parts (row_of g).is_guarded x.ci x.t1 (by_meets (meets_row (row_of g) x) g (tag_from (row_of g).result x) outs e)

-- ---- jumps and stores go by their first operand

jalr_guarded : (g : Group) → is_jalr_group g ≡ true → (row_of g).is_guarded ≡ true
jalr_guarded group.Jalr is = refl
jalr_guarded _ is = absurd cc

-- no access at all stores
none_stores : {P : Type 0} (made : Access) (touch : Touch) → made ≡ access.None → touch_of made ≡ Some touch → P
none_stores made touch is told = absurd (let h = sym (ap touch_of is) ∙ told in cc)

-- a load does not store
abbrev load : ℕ → ℕ → Touch
load address bytes = record { address = address; bytes = bytes; stores = false }

load_stores : {P : Type 0} (address bytes : ℕ) (touch : Touch) → Some (load address bytes) ≡ Some touch → touch.stores ≡ true → P
load_stores address bytes touch same is_store =
    absurd (let h = ap (λ (t : Touch). t.stores) (same_Some (load address bytes) touch same) ∙ is_store in cc)

store_guarded : {hart : HartState TaintTag} {ram : RamState TaintTag} (look : Look) (register value : ℕ) → Does hart ram look register value
    → (touch : Touch) → touch_of look.effect.access ≡ Some touch → touch.stores ≡ true → (row_of look.group).is_guarded ≡ true
store_guarded look register value (moves is touches value_is) touch told is_store = none_stores look.effect.access touch touches told
store_guarded look register value (loads place is touches value_is) touch told is_store =
    load_stores _ _ touch (sym (ap touch_of touches) ∙ told) is_store
store_guarded look register value (loads_part place width signed is touches) touch told is_store =
    load_stores _ _ touch (sym (ap touch_of touches) ∙ told) is_store
store_guarded look register value (stores place is touches none) touch told is_store = ap (λ g. (row_of g).is_guarded) is
store_guarded look register value (stores_part place value_stored width is touches none) touch told is_store = ap (λ g. (row_of g).is_guarded) is
store_guarded look register value (computes computing touches) touch told is_store = none_stores look.effect.access touch touches told

-- ---- a turn

module _ (s : Machine Taint TaintTag) (h : ℕ) (e : Event TaintTag) (look : Look) (outs : Outs TaintTag) (allows : Allows taint s h look outs e) where
  clean : AreClean (row_of look.group).is_guarded (rule_inputs s.core h look).ci (rule_inputs s.core h look).t1
  clean = allowed_clean look.group (rule_inputs s.core h look) outs allows.rule

  -- a turn whose stores all have a guarded row
  allowed_turn : ((touch : Touch) → touch_of look.effect.access ≡ Some touch → touch.stores ≡ true → (row_of look.group).is_guarded ≡ true) → GoesByClean e
  allowed_turn guards = record {
    asked = record { group = look.group; inputs = rule_inputs s.core h look };
    is_asked = allows.asked;
    instruction = clean.instruction;
    jump = λ is. clean.first (jalr_guarded look.group (sym allows.seen.jalr ∙ ap is_jalr (sym allows.word) ∙ is));
    store = λ touch told is. clean.first (guards touch (sym allows.access ∙ told) is);
  }

unretired : {P : Type 0} (b : Bool) → b ≡ false → b ≡ true → P
unretired b left retires = absurd (let h = sym left ∙ retires in cc)

turn_clean : (s : Machine Taint TaintTag) (h : ℕ) (e : Event TaintTag) (t : Machine Taint TaintTag) → Turns taint s h e t → is_retirement e ≡ true → GoesByClean e
turn_clean s h e t (idles waits hart unretired_is none left) retires = unretired (is_retirement e) unretired_is retires
turn_clean s h e t (stops why ready hart unretired_is none left) retires = unretired (is_retirement e) unretired_is retires
turn_clean s h e t (exits look outs code allows none is touches left) retires =
    allowed_turn s h e look outs allows (λ touch told stores. none_stores look.effect.access touch touches told)
turn_clean s h e t (goes look outs register value allows none does left) retires =
    allowed_turn s h e look outs allows (store_guarded look register value does)
turn_clean s h e t (serves look outs p words allows is touches told planned is_range retagged left) retires =
    allowed_turn s h e look outs allows (λ touch told stores. none_stores look.effect.access touch touches told)

pub keeps_taint : Keeps taint NoInvariant TaintTurn
keeps_taint = record { turn = λ before s h e t sound invariant turns stay. (turn_clean s h e t turns, tt) }
