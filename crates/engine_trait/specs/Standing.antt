-- An engine as its callers see it, and one step of it: the turn of a hart with what it leaves of the account.
use Rattle.std.specs.Prelude.{◌≡◌, ◌⊎◌, ℕ, Bool, true, false, ◌&&◌, List, Option, Some, None, Ok, IsOk}
use Rattle.policy_trait.specs.Model.{PolicyModel}
use Rattle.monitor_calls.specs.Service.{Job}
use Rattle.engine_trait.specs.Accounts.{Account, account_after_turn, account_out, after_rule, first_written, is_over, look_counted, remembering, rule_counted, seeing, served_tags, standing_tags, swept, with_history}
use Rattle.engine_trait.specs.History.{record_of}
use Rattle.engine_trait.specs.Machine.{Machine, is_ready_in}
use Rattle.engine_trait.specs.Turn.{job_at, preparation, rule_at, stopped_at, turn_of}
use Rattle.engine_trait.specs.declared.ends.Halt.{Halt}
use Rattle.engine_trait.specs.declared.ends.Halt.TheVariants as halt
use Rattle.turn_steps.specs.Feeds.{Tape}
use Rattle.turn_steps.specs.declared.stop.Stop.{Stop}
use Rattle.turn_steps.specs.declared.stop.Stop.TheVariants as stop
use Rattle.engine_trait.specs.declared.ends.TurnEnd.{TurnEnd}
use Rattle.engine_trait.specs.declared.ends.TurnEnd.TheVariants as ends

-- a machine and its account
pub record Standing (S T : Type 0) : Type 0 where
  pub machine : Machine S T
  pub account : Account T

-- with room for so many records, and none kept yet
abbrev pub with_history_for : {S T : Type 0} → ℕ → Standing S T → Standing S T
with_history_for most e = record e { account = with_history most e.account }

-- after a step: the standing, the feed, and how the turn ended
pub record Stepped (S T : Type 0) : Type 0 where
  pub standing : Standing S T
  pub feed : Tape
  pub ended : TurnEnd

-- whether nothing stopped the engine as a whole
abbrev pub is_running : Option Halt → Bool
is_running None = true
is_running (Some why) = false

-- the engine is not stopped as a whole, and the hart is there and has no stop
abbrev pub is_ready : {S T : Type 0} → Standing S T → ℕ → Bool
is_ready e h = is_running e.account.halt && is_ready_in e.machine.core h

-- the account stopped since memory ran out
abbrev pub wanting : {T : Type 0} → Account T → Account T
wanting account = record account { halt = Some halt.Memory }

module _ {T : Type 0} (eq : T → T → Bool) where
  -- Memory ran out behind a sweep, in a step for which there was room then.
  pub record WantsSwept (standing : List T) (step : Account T → Account T) (before after : Account T) : Type 0 where
    pub fits : is_over (step (swept eq standing before)) ≡ false
    pub left : after ≡ wanting (swept eq standing before)

  -- Memory ran out in a step in which tags get words, or in the sweep before it.
  abbrev pub Wants : List T → (Account T → Account T) → Account T → Account T → Type 0
  Wants standing step before after = (after ≡ wanting before) ⊎ WantsSwept standing step before after

module _ {S T : Type 0} (eq : T → T → Bool) (m : PolicyModel T S) (e : Standing S T) (h : ℕ) where
  -- as the rule was asked: the look-up is counted, and the rule is not kept
  abbrev pub GivesUpAtRule : Account T → Type 0
  GivesUpAtRule =
      Wants eq (standing_tags m e.machine) (after_rule eq m e.machine h (preparation m e.machine h)) (look_counted eq m e.machine h e.account)

  -- in a service that nothing refuses: the rule is kept, unless a sweep came
  pub record GivesUpAtService (account : Account T) : Type 0 where
    pub job : Job T
    pub served : job_at m e.machine h ≡ Ok (Some job)
    pub ruled : is_over (rule_counted eq m e.machine h e.account) ≡ false
    pub wants : Wants eq (served_tags m e.machine h) (seeing eq (first_written job)) (rule_counted eq m e.machine h e.account) account

module _ {S T : Type 0} (eq : T → T → Bool) (m : PolicyModel T S) (e : Standing S T) (feed : Tape) (h : ℕ) where
  -- the turn is made: it is the machine's, it is counted, and what it replaced is remembered
  abbrev pub made_step : Stepped S T
  made_step = record {
    standing = record {
      machine = (turn_of m e.machine feed h).machine;
      account = remembering (record_of m e.machine feed h) (account_after_turn eq m e.machine h e.account);
    };
    feed = (turn_of m e.machine feed h).feed;
    ended = (turn_of m e.machine feed h).ended;
  }

  -- the engine ran out of tag numbers: the look-up is counted, and the sweep, behind which no rule is kept; the turn is not
  -- counted, and nothing else changes
  abbrev pub out_of_words : Stepped S T
  out_of_words = record {
    standing = record e { account = record (account_out eq m e.machine h e.account) { halt = Some halt.TagNumbers } };
    feed = feed;
    ended = ends.TagsOut;
  }

  -- no turn is made, and nothing changes
  abbrev pub idle : Stepped S T
  idle = record { standing = e; feed = feed; ended = ends.Idle }

  -- the engine runs out exactly where more tags would have words than may have
  abbrev pub step_by : Bool → Bool → Stepped S T
  step_by false over = idle
  step_by true true = out_of_words
  step_by true false = made_step

  -- one turn of the hart by an engine
  unfoldable pub step : Stepped S T
  step = step_by (is_ready e h) (is_over (account_after_turn eq m e.machine h e.account))

  -- Memory ran out in a turn whose rule allows, and not where tag numbers had run out behind a sweep: the engine is stopped, the
  -- turn is not counted, and nothing else of the machine changes.
  pub record GivesUp (f : Standing S T) (fed : Tape) : Type 0 where
    pub ready : is_ready e h ≡ true
    pub allowed : IsOk (rule_at m e.machine h)
    pub machine : f.machine ≡ e.machine
    pub unfed : fed ≡ feed
    pub account : GivesUpAtRule eq m e h f.account ⊎ GivesUpAtService eq m e h f.account

-- a stop that is no exit: one of the checks or the policy ended the turn
abbrev pub IsFailure : Stop → Type 0
IsFailure (stop.Exit code) = ⊥
IsFailure (stop.Fault fault) = Unit {0}
IsFailure (stop.Violation part why pc) = Unit {0}

-- hart h has that stop, and nothing else of the machine and of the feed changed
pub record StopsOnly {S T : Type 0} (e : Standing S T) (feed : Tape) (h : ℕ) (why : Stop) (f : Standing S T) (fed : Tape) : Type 0 where
  pub machine : f.machine ≡ stopped_at e.machine h why
  pub unfed : fed ≡ feed

-- nothing changed
pub record Unchanged {S T : Type 0} (e : Standing S T) (feed : Tape) (f : Standing S T) (fed : Tape) : Type 0 where
  pub same : f ≡ e
  pub unfed : fed ≡ feed
