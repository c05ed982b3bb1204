-- What a step leaves of the records: they stay those of the last turns.
use Rattle.std.proofs.Common.{◌≡◌, ◌≢◌, ◌⊎◌, inl, inr, ℕ, ◌==◌, Bool, true, false, List, [], ◌∷◌, Option, Some, None, Result, Ok, Err, if◌then◌else◌, refl, ap, sym, ◌∙◌, subst}
use Rattle.policy_trait.specs.Model.{PolicyModel}
use Rattle.policy_trait.specs.PolicyLaws.{KeepsLaws}
use Rattle.policy_trait.specs.declared.rules.Outs.{Outs}
use Rattle.monitor_calls.specs.Service.{Job}
use Rattle.turn_steps.specs.Feeds.{Tape}
use Rattle.turn_steps.specs.declared.look.Look.{Look}
use Rattle.turn_steps.specs.declared.stop.Stop.{Stop}
use Rattle.shared_terms.specs.Counts.{next_count}
use Rattle.undo_log.specs.Past.{Past, pushed}
use Rattle.engine_trait.specs.Accounts.{Account, Key, account_after_turn, account_out, after_look, after_rule, after_service, is_kept, is_over, keeping, key_of, look_counted, looked_up, rule_counted, rule_kept, seeing, served_tags, service_counted, standing_tags, swept, with_room, with_tags, written_tags}
use Rattle.engine_trait.specs.Back.{IsPastOf}
use Rattle.engine_trait.specs.History.{record_of}
use Rattle.engine_trait.specs.Machine.{Machine}
use Rattle.engine_trait.specs.Standing.{GivesUp, GivesUpAtRule, GivesUpAtService, Standing, Stepped, Wants, is_ready, step, step_by}
use Rattle.engine_trait.specs.Turn.{job_at, preparation, rule_answer, turn_of}
use Rattle.engine_trait.specs.declared.ends.TurnEnd.{TurnEnd}
use Rattle.engine_trait.specs.declared.ends.TurnEnd.TheVariants as ends
use Rattle.engine_trait.proofs.PastLemmas.{past_pushed}
use Rattle.engine_trait.proofs.StepLemmas.{ready_parts}

-- ---- the steps of a turn leave the records of the account

-- both cases of a test have them
either_past : {T : Type 0} (past : Past T T) (test : Bool) (x y : Account T) → x.past ≡ past → y.past ≡ past → (if test then x else y).past ≡ past
either_past past true x y first second = first
either_past past false x y first second = second

module _ {T : Type 0} (eq : T → T → Bool) where
  seeing_past : (tags : List T) (a : Account T) → (seeing eq tags a).past ≡ a.past
  seeing_past tags a = either_past a.past (a.ways == 0) a (record a { table = with_tags eq a.table tags }) refl refl

  looked_up_past : (key : Key T) (a : Account T) → (looked_up eq key a).past ≡ a.past
  looked_up_past key a = either_past a.past (is_kept eq key a) (record (keeping eq key a) { hits = next_count a.hits }) (record a { misses = next_count a.misses }) refl refl

  rule_kept_past : {E : Type 0} (key : Key T) (answer : Result (Outs T) E) (a : Account T) → (rule_kept eq key answer a).past ≡ a.past
  rule_kept_past key (Ok outs) a = seeing_past (outs.pc ∷ outs.result ∷ []) (keeping eq key a)
  rule_kept_past key (Err why) a = refl

  -- a sweep leaves them, so that a step that leaves them does so with room too
  room_past : (standing : List T) (change : Account T → Account T) (a : Account T) → ((b : Account T) → (change b).past ≡ b.past)
      → (with_room eq standing change a).past ≡ a.past
  room_past standing change a leaves = either_past a.past (is_over (change a)) (change (swept eq standing a)) (change a) (leaves (swept eq standing a)) (leaves a)

module _ {S T : Type 0} (eq : T → T → Bool) (m : PolicyModel T S) (s : Machine S T) (h : ℕ) where
  after_look_past : (found : Result Look Stop) (a : Account T) → (after_look eq m s h found a).past ≡ a.past
  after_look_past (Ok look) a = looked_up_past eq (key_of eq m s h look) a
  after_look_past (Err why) a = refl

  after_rule_past : (found : Result Look Stop) (a : Account T) → (after_rule eq m s h found a).past ≡ a.past
  after_rule_past (Ok look) a = rule_kept_past eq (key_of eq m s h look) (rule_answer m s h look) a
  after_rule_past (Err why) a = refl

  after_service_past : (job : Result (Option (Job T)) Stop) (a : Account T) → (after_service eq m s h job a).past ≡ a.past
  after_service_past (Ok (Some job)) a = seeing_past eq (written_tags job) a
  after_service_past (Ok None) a = refl
  after_service_past (Err why) a = refl

  look_counted_past : (a : Account T) → (look_counted eq m s h a).past ≡ a.past
  unfolding look_counted
  look_counted_past a = after_look_past (preparation m s h) a

  rule_counted_past : (a : Account T) → (rule_counted eq m s h a).past ≡ a.past
  unfolding rule_counted
  rule_counted_past a =
      room_past eq (standing_tags m s) (after_rule eq m s h (preparation m s h)) (look_counted eq m s h a) (after_rule_past (preparation m s h)) ∙ look_counted_past a

  service_counted_past : (a : Account T) → (service_counted eq m s h a).past ≡ a.past
  unfolding service_counted
  service_counted_past a =
      room_past eq (served_tags m s h) (after_service eq m s h (job_at m s h)) (rule_counted eq m s h a) (after_service_past (job_at m s h)) ∙ rule_counted_past a

  accounted_past : (a : Account T) → (account_after_turn eq m s h a).past ≡ a.past
  unfolding account_after_turn
  accounted_past a =
      either_past a.past (is_over (rule_counted eq m s h a)) (rule_counted eq m s h a) (service_counted eq m s h a) (rule_counted_past a) (service_counted_past a)

  account_out_past : (a : Account T) → (account_out eq m s h a).past ≡ a.past
  account_out_past a =
      either_past a.past (is_over (rule_counted eq m s h a)) (swept eq (standing_tags m s) (look_counted eq m s h a)) (swept eq (served_tags m s h) (rule_counted eq m s h a))
      (look_counted_past a) (rule_counted_past a)

-- ---- a step leaves the records those of the last turns

module _ {S T : Type 0} (eq : T → T → Bool) (m : PolicyModel T S) (holds : S → Type 0) (laws : KeepsLaws m holds) (e : Standing S T) (feed : Tape) (h : ℕ) where
  abbrev Led : Standing S T → Type 0
  Led f = IsPastOf m holds f.machine f.account.past.kept

  module _ (led : Led e) where
    led_by : (ready over : Bool) → is_ready e h ≡ ready → Led (step_by eq m e feed h ready over).standing
    led_by false over is = led
    led_by true true is = subst (λ (past : Past T T). IsPastOf m holds e.machine past.kept) (sym (account_out_past eq m e.machine h e.account)) led
    led_by true false is =
        subst (λ (past : Past T T). IsPastOf m holds (turn_of m e.machine feed h).machine (pushed past (record_of m e.machine feed h)).kept)
        (sym (accounted_past eq m e.machine h e.account))
        (past_pushed m holds laws e.machine e.account.past feed h (ready_parts e h is).1 led)

    led_step : Led (step eq m e feed h).standing
    unfolding step
    led_step = led_by (is_ready e h) (is_over (account_after_turn eq m e.machine h e.account)) refl

    wants_past : (standing : List T) (change : Account T → Account T) (before after : Account T) → Wants eq standing change before after → after.past ≡ before.past
    wants_past standing change before after (inl is) = ap (λ (a : Account T). a.past) is
    wants_past standing change before after (inr wants) = ap (λ (a : Account T). a.past) wants.left

    given_up_past : (after : Account T) → GivesUpAtRule eq m e h after ⊎ GivesUpAtService eq m e h after → after.past ≡ e.account.past
    given_up_past after (inl at) =
        wants_past (standing_tags m e.machine) (after_rule eq m e.machine h (preparation m e.machine h)) (look_counted eq m e.machine h e.account) after at
        ∙ look_counted_past eq m e.machine h e.account
    given_up_past after (inr at) =
        wants_past (served_tags m e.machine h) _ (rule_counted eq m e.machine h e.account) after at.wants ∙ rule_counted_past eq m e.machine h e.account

    module _ (f : Standing S T) (fed : Tape) where
      led_stepped : (ended : TurnEnd) → step eq m e feed h ≡ record { standing = f; feed = fed; ended = ended } → Led f
      led_stepped ended steps = subst Led (ap (λ (stepped : Stepped S T). stepped.standing) steps) led_step

      led_given_up : GivesUp eq m e feed h f fed → Led f
      led_given_up gives =
          subst (λ (s : Machine S T). IsPastOf m holds s f.account.past.kept) (sym gives.machine)
          (subst (λ (past : Past T T). IsPastOf m holds e.machine past.kept) (sym (given_up_past f.account gives.account)) led)

      -- however it ended
      pub led_after : (ended : TurnEnd) → (ended ≢ ends.Memory → step eq m e feed h ≡ record { standing = f; feed = fed; ended = ended })
          → (ended ≡ ends.Memory → GivesUp eq m e feed h f fed) → Led f
      led_after ends.Memory steps gives = led_given_up (gives refl)
      led_after (ends.Ran byte) steps gives = led_stepped (ends.Ran byte) (steps (λ is. cc))
      led_after ends.Break steps gives = led_stepped ends.Break (steps (λ is. cc))
      led_after (ends.Stopped why) steps gives = led_stepped (ends.Stopped why) (steps (λ is. cc))
      led_after ends.Idle steps gives = led_stepped ends.Idle (steps (λ is. cc))
      led_after ends.TagsOut steps gives = led_stepped ends.TagsOut (steps (λ is. cc))
