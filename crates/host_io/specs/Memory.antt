-- What the implementations in memory hold.
use Rattle.std.specs.Prelude.{ℕ, ◌<◌, ◌==◌, if◌then◌else◌, find, List, Option, Some}
use Rattle.std.specs.Bool.{IsFalse}
use Rattle.std.specs.Option.{option_map}
use Rattle.host_io.specs.FaultPlan.{Calls, Plan, calls_after, fails_next}
use Rattle.host_io.specs.Supply.{Supply, is_closed}

-- A sink: the bytes taken so far, the plan of its faults, and pairs of the number of a put that is to
-- fail and how many bytes it takes before.
pub record PlannedSink : Type 0 where
  pub bytes : List ℕ
  pub plan : Plan
  pub cuts : List (ℕ × ℕ)

-- How many bytes the put of a number takes before it fails: as many as the first pair of that number
-- says. Where there is no such pair it isn't to fail.
abbrev pub cut_of : List (ℕ × ℕ) → ℕ → Option ℕ
cut_of cuts number = option_map (λ cut. cut.1) (find (λ cut. cut.0 == number) cuts)

-- The same of the next put, which takes nothing where the plan has it fail.
abbrev pub next_cut : PlannedSink → Option ℕ
next_cut sink =
    if fails_next sink.plan.calls then Some 0 else cut_of sink.cuts sink.plan.calls.next

-- The next put has taken its number.
abbrev pub after_call : PlannedSink → PlannedSink
after_call sink = record sink { plan = record sink.plan { calls = calls_after sink.plan.calls } }

-- A source: what it has to give, the most bytes that a read gives, and the plan of its faults.
pub record PlannedSource : Type 0 where
  pub supply : Supply
  pub piece : ℕ
  pub plan : Plan

-- A read that may fail has a number: there is room, and the end was not told.
abbrev pub IsNumberedRead : ℕ → Supply → Type 0
IsNumberedRead room supply = (0 < room) × IsFalse (is_closed supply)

-- Files: the bytes of each name, the loads and saves, which are numbered together, and how many of
-- each failed so far.
pub record PlannedFiles : Type 0 where
  pub files : List (List ℕ × List ℕ)
  pub calls : Calls
  pub read_faults : ℕ
  pub write_faults : ℕ

-- Files without faults: the bytes of each name, and how many calls were made.
pub record SteadyFiles : Type 0 where
  pub files : List (List ℕ × List ℕ)
  pub calls : ℕ
