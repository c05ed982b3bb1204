-- What a turn leaves of the account.
use Rattle.std.proofs.Common.{◌≡◌, ℕ, ◌≤◌, ◌==◌, Bool, false, List, [], ◌∷◌, Option, Some, None, Result, Ok, Err, filter, not, take, refl, ap, sym, ◌∙◌, length, if◌then◌else◌, slice_index_or, slice_set, arith}
use Rattle.std.proofs.lemmas.Bool.{le-ltb}
use Rattle.std.proofs.lemmas.Bool.Decides.{nat_tests}
use Rattle.std.specs.List.{list_any}
use Rattle.rv_decode.specs.declared.groups.Group.{Group}
use Rattle.policy_trait.specs.Model.{PolicyModel}
use Rattle.policy_trait.specs.declared.rules.Outs.{Outs}
use Rattle.monitor_calls.specs.Service.{Job}
use Rattle.turn_steps.specs.declared.look.Look.{Look}
use Rattle.turn_steps.specs.declared.stop.Stop.{Stop}
use Rattle.engine_trait.specs.Accounts.{Account, IsUncached, Key, account_after_turn, after_look, after_rule, after_service, is_kept, is_over, keeping, key_of, look_counted, looked_up, rule_counted, rule_kept, same_key, seeing, served_tags, service_counted, set_keys, set_of, standing_tags, with_room, with_tags, written_tags, account_out, swept}
use Rattle.shared_terms.specs.Counts.{next_count}
use Rattle.undo_log.specs.Past.{Past}
use Rattle.engine_trait.specs.Machine.{Machine}
use Rattle.engine_trait.specs.declared.ends.Halt.{Halt}
use Rattle.engine_trait.specs.Turn.{rule_answer, job_at, preparation}
use Rattle.engine_trait.proofs.RoomLemmas.{either_kept, either_same, kept_of, room_kept, room_leaves}

-- room for some rules is not room for none
pub keeps_some : (rules : ℕ) → 1 ≤ rules → (rules == 0) ≡ false
keeps_some rules some = grind (arith, nat_tests)

-- where there is one set, it is the first
pub one_set : (group : Group) → set_of group 1 ≡ 0
one_set group = omega arith

-- ---- the account of an engine that keeps no rules: each look-up is a miss, and no tag has a word

module _ {T : Type 0} (eq : T → T → Bool) (a : Account T) (plain : IsUncached a) where
  -- every group belongs to the one set, which has no key
  no_keys : (key : Key T) → set_keys eq key a ≡ []
  no_keys key = ap (λ (sets : List (List (Key T))). slice_index_or sets (set_of key.group (length sets)) []) plain.sets ∙ ap (λ place. slice_index_or ([] ∷ []) place []) (one_set key.group)

  pub looked_up_missed : (key : Key T) → looked_up eq key a ≡ record a { misses = next_count a.misses }
  looked_up_missed key =
      ap (λ keys. if list_any (same_key eq key) keys then record (keeping eq key a) { hits = next_count a.hits } else record a { misses = next_count a.misses }) (no_keys key)

  keeping_none : (key : Key T) → keeping eq key a ≡ a
  keeping_none key =
      ap (λ n. record a { sets = slice_set a.sets (set_of key.group (length a.sets)) (take n (key ∷ filter (λ other. not (same_key eq key other)) (set_keys eq key a))) }) plain.ways
      ∙ ap (λ (sets : List (List (Key T))). record a { sets = slice_set sets (set_of key.group (length sets)) [] }) plain.sets
      ∙ ap (λ place. record a { sets = slice_set ([] ∷ []) place [] }) (one_set key.group)
      ∙ ap (λ sets. record a { sets = sets }) (sym plain.sets)

  seeing_none : (tags : List T) → seeing eq tags a ≡ a
  seeing_none tags = ap (λ n. if n == 0 then a else record a { table = with_tags eq a.table tags }) plain.ways

  rule_kept_none : {E : Type 0} (key : Key T) (answer : Result (Outs T) E) → rule_kept eq key answer a ≡ a
  rule_kept_none key (Ok outs) = ap (λ kept. seeing eq (outs.pc ∷ outs.result ∷ []) kept) (keeping_none key) ∙ seeing_none (outs.pc ∷ outs.result ∷ [])
  rule_kept_none key (Err why) = refl

  pub never_over : is_over a ≡ false
  never_over = le-ltb a.limit (length a.table) (let empty : length a.table ≡ 0 = ap length plain.table in omega (arith, empty))

  -- nor with whatever tags that come
  pub seeing_never_over : (tags : List T) → is_over (seeing eq tags a) ≡ false
  seeing_never_over tags = ap is_over (seeing_none tags) ∙ never_over

  -- so that a step which leaves it as it is needs no sweep
  pub room_none : (standing : List T) (step : Account T → Account T) → step a ≡ a → with_room eq standing step a ≡ a
  room_none standing step same = room_kept eq standing step a (ap is_over same ∙ never_over) ∙ same

module _ {S T : Type 0} (eq : T → T → Bool) (m : PolicyModel T S) (s : Machine S T) (h : ℕ) where
  after_rule_none : (found : Result Look Stop) (a : Account T) → IsUncached a → after_rule eq m s h found a ≡ a
  after_rule_none (Ok look) a plain = rule_kept_none eq a plain (key_of eq m s h look) (rule_answer m s h look)
  after_rule_none (Err why) a plain = refl

  after_service_none : (job : Result (Option (Job T)) Stop) (a : Account T) → IsUncached a → after_service eq m s h job a ≡ a
  after_service_none (Ok (Some job)) a plain = seeing_none eq a plain (written_tags job)
  after_service_none (Ok None) a plain = refl
  after_service_none (Err why) a plain = refl

  look_missed : (found : Result Look Stop) (a : Account T) → IsUncached a → (n : ℕ) × (after_look eq m s h found a ≡ record a { misses = n })
  look_missed (Ok look) a plain = (next_count a.misses, looked_up_missed eq a plain (key_of eq m s h look))
  look_missed (Err why) a plain = (a.misses, refl)

  abbrev turned : Account T → ℕ → Account T
  turned account turns = record account { turns = next_count turns }

  -- the rule and the service leave what the look-up left
  settled_rule : (a b : Account T) → IsUncached b → look_counted eq m s h a ≡ b → rule_counted eq m s h a ≡ b
  unfolding rule_counted
  settled_rule a b plain looked =
      ap (with_room eq (standing_tags m s) (after_rule eq m s h (preparation m s h))) looked
      ∙ room_none eq b plain (standing_tags m s) (after_rule eq m s h (preparation m s h)) (after_rule_none (preparation m s h) b plain)

  settled_service : (a b : Account T) → IsUncached b → look_counted eq m s h a ≡ b → service_counted eq m s h a ≡ b
  unfolding service_counted
  settled_service a b plain looked =
      ap (with_room eq (served_tags m s h) (after_service eq m s h (job_at m s h))) (settled_rule a b plain looked)
      ∙ room_none eq b plain (served_tags m s h) (after_service eq m s h (job_at m s h)) (after_service_none (job_at m s h) b plain)

  -- only the look-up and the turn are counted
  settled_account : (a b : Account T) → IsUncached b → look_counted eq m s h a ≡ b → account_after_turn eq m s h a ≡ record b { turns = next_count a.turns }
  unfolding account_after_turn
  settled_account a b plain looked =
      ap (λ c. turned c a.turns)
      (either_same (is_over (rule_counted eq m s h a)) (rule_counted eq m s h a) (service_counted eq m s h a) b (settled_rule a b plain looked) (settled_service a b plain looked))

  pub look_counted_missed : (a : Account T) (look : Look) → IsUncached a → preparation m s h ≡ Ok look → look_counted eq m s h a ≡ record a { misses = next_count a.misses }
  unfolding look_counted
  look_counted_missed a look plain looked = ap (λ found. after_look eq m s h found a) looked ∙ looked_up_missed eq a plain (key_of eq m s h look)

  pub rule_counted_missed : (a : Account T) (look : Look) → IsUncached a → preparation m s h ≡ Ok look → rule_counted eq m s h a ≡ record a { misses = next_count a.misses }
  rule_counted_missed a look plain looked =
      settled_rule a (record a { misses = next_count a.misses }) (record { ways = plain.ways; table = plain.table; sets = plain.sets })
      (look_counted_missed a look plain looked)

  look_counted_none : (a : Account T) (why : Stop) → preparation m s h ≡ Err why → look_counted eq m s h a ≡ a
  unfolding look_counted
  look_counted_none a why looked = ap (λ found. after_look eq m s h found a) looked

  pub accounted_missed : (a : Account T) (look : Look) → IsUncached a → preparation m s h ≡ Ok look
      → account_after_turn eq m s h a ≡ record a { misses = next_count a.misses; turns = next_count a.turns }
  accounted_missed a look plain looked =
      settled_account a (record a { misses = next_count a.misses }) (record { ways = plain.ways; table = plain.table; sets = plain.sets })
      (look_counted_missed a look plain looked)

  pub accounted_checked : (a : Account T) (why : Stop) → IsUncached a → preparation m s h ≡ Err why → account_after_turn eq m s h a ≡ record a { turns = next_count a.turns }
  accounted_checked a why plain looked = settled_account a a plain (look_counted_none a why looked)

  -- whatever the turn came to
  pub look_counted_plain : (a : Account T) → IsUncached a → (n : ℕ) × (look_counted eq m s h a ≡ record a { misses = n })
  unfolding look_counted
  look_counted_plain a plain = look_missed (preparation m s h) a plain

  pub accounted_plain : (a : Account T) → IsUncached a → (n : ℕ) × (account_after_turn eq m s h a ≡ record a { misses = n; turns = next_count a.turns })
  accounted_plain a plain =
      let looked = look_counted_plain a plain in
      (looked.0, settled_account a (record a { misses = looked.0 }) (record { ways = plain.ways; table = plain.table; sets = plain.sets }) looked.1)

-- ---- any account: a turn leaves why the engine is stopped, and its records, and counts itself once

seeing_leaves : {T : Type 0} (eq : T → T → Bool) (tags : List T) (a : Account T) → kept_of (seeing eq tags a) ≡ kept_of a
seeing_leaves eq tags a = either_kept (kept_of a) (a.ways == 0) a (record a { table = with_tags eq a.table tags }) refl refl

looked_up_leaves : {T : Type 0} (eq : T → T → Bool) (key : Key T) (a : Account T) → kept_of (looked_up eq key a) ≡ kept_of a
looked_up_leaves eq key a = either_kept (kept_of a) (is_kept eq key a) (record (keeping eq key a) { hits = next_count a.hits }) (record a { misses = next_count a.misses }) refl refl

rule_kept_leaves : {T E : Type 0} (eq : T → T → Bool) (key : Key T) (answer : Result (Outs T) E) (a : Account T) → kept_of (rule_kept eq key answer a) ≡ kept_of a
rule_kept_leaves eq key (Ok outs) a = seeing_leaves eq (outs.pc ∷ outs.result ∷ []) (keeping eq key a)
rule_kept_leaves eq key (Err why) a = refl

module _ {S T : Type 0} (eq : T → T → Bool) (m : PolicyModel T S) (s : Machine S T) (h : ℕ) where
  after_look_leaves : (found : Result Look Stop) (a : Account T) → kept_of (after_look eq m s h found a) ≡ kept_of a
  after_look_leaves (Ok look) a = looked_up_leaves eq (key_of eq m s h look) a
  after_look_leaves (Err why) a = refl

  after_rule_leaves : (found : Result Look Stop) (a : Account T) → kept_of (after_rule eq m s h found a) ≡ kept_of a
  after_rule_leaves (Ok look) a = rule_kept_leaves eq (key_of eq m s h look) (rule_answer m s h look) a
  after_rule_leaves (Err why) a = refl

  after_service_leaves : (job : Result (Option (Job T)) Stop) (a : Account T) → kept_of (after_service eq m s h job a) ≡ kept_of a
  after_service_leaves (Ok (Some job)) a = seeing_leaves eq (written_tags job) a
  after_service_leaves (Ok None) a = refl
  after_service_leaves (Err why) a = refl

  look_counted_leaves : (a : Account T) → kept_of (look_counted eq m s h a) ≡ kept_of a
  unfolding look_counted
  look_counted_leaves a = after_look_leaves (preparation m s h) a

  rule_counted_leaves : (a : Account T) → kept_of (rule_counted eq m s h a) ≡ kept_of a
  unfolding rule_counted
  rule_counted_leaves a =
      room_leaves eq (standing_tags m s) (after_rule eq m s h (preparation m s h)) (look_counted eq m s h a) (after_rule_leaves (preparation m s h)) ∙ look_counted_leaves a

  service_counted_leaves : (a : Account T) → kept_of (service_counted eq m s h a) ≡ kept_of a
  unfolding service_counted
  service_counted_leaves a =
      room_leaves eq (served_tags m s h) (after_service eq m s h (job_at m s h)) (rule_counted eq m s h a) (after_service_leaves (job_at m s h)) ∙ rule_counted_leaves a

  accounted_leaves : (a : Account T) → kept_of (account_after_turn eq m s h a) ≡ kept_of a
  unfolding account_after_turn
  accounted_leaves a =
      either_kept (kept_of a) (is_over (rule_counted eq m s h a)) (rule_counted eq m s h a) (service_counted eq m s h a) (rule_counted_leaves a) (service_counted_leaves a)

  pub accounted_halt : (a : Account T) → (account_after_turn eq m s h a).halt ≡ a.halt
  accounted_halt a = ap (λ (kept : Option Halt × Past T T). kept.0) (accounted_leaves a)

  pub accounted_past : (a : Account T) → (account_after_turn eq m s h a).past ≡ a.past
  accounted_past a = ap (λ (kept : Option Halt × Past T T). kept.1) (accounted_leaves a)

  -- nor does a step that needs more words than there may be
  out_leaves : (a : Account T) → kept_of (account_out eq m s h a) ≡ kept_of a
  out_leaves a =
      either_kept (kept_of a) (is_over (rule_counted eq m s h a)) (swept eq (standing_tags m s) (look_counted eq m s h a)) (swept eq (served_tags m s h) (rule_counted eq m s h a))
      (look_counted_leaves a) (rule_counted_leaves a)

  pub out_past : (a : Account T) → (account_out eq m s h a).past ≡ a.past
  out_past a = ap (λ (kept : Option Halt × Past T T). kept.1) (out_leaves a)

  pub accounted_turns : (a : Account T) → (account_after_turn eq m s h a).turns ≡ next_count a.turns
  unfolding account_after_turn
  accounted_turns a = refl
