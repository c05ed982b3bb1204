-- Engines whose machines differ in secret values alone, and runs of them.
use Rattle.std.specs.Prelude.{◌≡◌, Bool, [], map}
use Rattle.undo_log.specs.Past.{past_of}
use Rattle.engine_trait.specs.Runs.{Trace}
use Rattle.engine_trait.specs.Standing.{Standing, Stepped}
use Rattle.secret_runs.specs.Alike.{AlikeMachines}
use Rattle.secret_runs.specs.Outlines.{outline_of}

module _ {S T : Type 0} (is_open : T → Bool) (like : S → S → Type 0) where
  -- the accounts are the same, and turns are not remembered: what they replaced may be secret
  pub record AlikeStandings (e d : Standing S T) : Type 0 where
    pub machine : AlikeMachines is_open like e.machine d.machine
    pub account : d.account ≡ e.account
    pub forgets : e.account.past ≡ past_of [] 0

  -- after a step of each
  pub record StepsAlike (e d : Stepped S T) : Type 0 where
    pub standing : AlikeStandings e.standing d.standing
    pub feed : d.feed ≡ e.feed
    pub ended : d.ended ≡ e.ended

  -- after a run of each: what the events tell without the values that may be secret is the same
  pub record RunsAlike (a b : Trace S T) : Type 0 where
    pub machine : AlikeMachines is_open like a.machine b.machine
    pub feed : b.feed ≡ a.feed
    pub told : map outline_of b.events ≡ map outline_of a.events
