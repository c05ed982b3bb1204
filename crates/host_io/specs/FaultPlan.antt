-- Which numbered calls are to fail, and what was counted of them.
use Rattle.std.specs.Prelude.{ℕ, ◌==◌, if◌then◌else◌, Bool, List}
use Rattle.std.specs.List.{list_any}
use Rattle.shared_terms.specs.Counts.{next_count}

-- The numbers of the calls that are to fail, and the number of the next call.
pub record Calls : Type 0 where
  pub fails : List ℕ
  pub next : ℕ

-- Calls are numbered from 0.
abbrev pub fresh_calls : List ℕ → Calls
fresh_calls fails = record { fails = fails; next = 0 }

-- Whether the next call is to fail.
abbrev pub fails_next : Calls → Bool
fails_next calls = list_any (λ number. number == calls.next) calls.fails

-- The next call has taken its number.
abbrev pub calls_after : Calls → Calls
calls_after calls = record calls { next = next_count calls.next }

-- Such calls, and how many failed so far.
pub record Plan : Type 0 where
  pub calls : Calls
  pub faults : ℕ

-- Before the first call, of which these numbers are to fail: none has failed.
abbrev pub fresh_plan : List ℕ → Plan
fresh_plan fails = record { calls = fresh_calls fails; faults = 0 }

-- The next call has taken its number, and was a fault if it was to fail.
abbrev pub plan_after : Plan → Plan
plan_after plan = record {
  calls = calls_after plan.calls;
  faults = if fails_next plan.calls then next_count plan.faults else plan.faults;
}
