-- A step in which tags get words: alone where there is room, and behind a sweep where there is none.
use Rattle.std.proofs.Common.{◌≡◌, ℕ, Bool, true, false, List, Option, ap, if◌then◌else◌}
use Rattle.policy_trait.specs.Model.{PolicyModel}
use Rattle.shared_terms.specs.Counts.{next_count}
use Rattle.undo_log.specs.Past.{Past}
use Rattle.engine_trait.specs.Accounts.{Account, account_after_turn, account_out, is_over, look_counted, rule_counted, served_tags, service_counted, standing_tags, swept, with_room}
use Rattle.engine_trait.specs.Machine.{Machine}
use Rattle.engine_trait.specs.declared.ends.Halt.{Halt}

-- two accounts that are both that one
pub either_same : {A : Type 0} (test : Bool) (x y z : A) → x ≡ z → y ≡ z → (if test then x else y) ≡ z
either_same true x y z first second = first
either_same false x y z first second = second

-- what no step of a turn changes: why the engine is stopped, and its records
abbrev pub kept_of : {T : Type 0} → Account T → Option Halt × Past T T
kept_of account = (account.halt, account.past)

pub either_kept : {T : Type 0} (kept : Option Halt × Past T T) (test : Bool) (x y : Account T) → kept_of x ≡ kept → kept_of y ≡ kept → kept_of (if test then x else y) ≡ kept
either_kept kept true x y first second = first
either_kept kept false x y first second = second

module _ {T : Type 0} (eq : T → T → Bool) (standing : List T) (step : Account T → Account T) (a : Account T) where
  pub room_kept : is_over (step a) ≡ false → with_room eq standing step a ≡ step a
  room_kept within = ap (λ over. if over then step (swept eq standing a) else step a) within

  pub room_swept : is_over (step a) ≡ true → with_room eq standing step a ≡ step (swept eq standing a)
  room_swept full = ap (λ over. if over then step (swept eq standing a) else step a) full

  -- a sweep leaves them, so that a step that leaves them does so with room too
  pub room_leaves : ((b : Account T) → kept_of (step b) ≡ kept_of b) → kept_of (with_room eq standing step a) ≡ kept_of a
  room_leaves leaves = either_kept (kept_of a) (is_over (step a)) (step (swept eq standing a)) (step a) (leaves (swept eq standing a)) (leaves a)

module _ {S T : Type 0} (eq : T → T → Bool) (m : PolicyModel T S) (s : Machine S T) (h : ℕ) (a : Account T) where
  -- ---- a turn whose rule needs more words than there may be

  pub out_at_rule : is_over (rule_counted eq m s h a) ≡ true → account_out eq m s h a ≡ swept eq (standing_tags m s) (look_counted eq m s h a)
  out_at_rule full =
      ap (λ over. if over then swept eq (standing_tags m s) (look_counted eq m s h a) else swept eq (served_tags m s h) (rule_counted eq m s h a)) full

  -- ---- a turn that comes to its service

  pub accounted_at_service : is_over (rule_counted eq m s h a) ≡ false → account_after_turn eq m s h a ≡ record (service_counted eq m s h a) { turns = next_count a.turns }
  unfolding account_after_turn
  accounted_at_service within = ap (λ over. record (if over then rule_counted eq m s h a else service_counted eq m s h a) { turns = next_count a.turns }) within

  pub out_at_service : is_over (rule_counted eq m s h a) ≡ false → account_out eq m s h a ≡ swept eq (served_tags m s h) (rule_counted eq m s h a)
  out_at_service within =
      ap (λ over. if over then swept eq (standing_tags m s) (look_counted eq m s h a) else swept eq (served_tags m s h) (rule_counted eq m s h a)) within
