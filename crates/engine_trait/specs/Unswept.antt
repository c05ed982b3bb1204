-- The account of an engine that never sweeps: a tag that has a word keeps it.
use Rattle.std.specs.Prelude.{ℕ, Bool}
use Rattle.policy_trait.specs.Model.{PolicyModel}
use Rattle.shared_terms.specs.Counts.{next_count}
use Rattle.engine_trait.specs.Accounts.{Account, after_rule, after_service, look_counted}
use Rattle.engine_trait.specs.Machine.{Machine}
use Rattle.engine_trait.specs.Turn.{job_at, preparation}

module _ {S T : Type 0} (eq : T → T → Bool) (m : PolicyModel T S) (s : Machine S T) (h : ℕ) where
  -- after a turn of it: the look-up, the rule and the service in turn, none behind a sweep, and the turn is counted
  unfoldable pub unswept_after : Account T → Account T
  unswept_after account =
      record (after_service eq m s h (job_at m s h) (after_rule eq m s h (preparation m s h) (look_counted eq m s h account))) { turns = next_count account.turns }
