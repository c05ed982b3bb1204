-- The faults of two sinks that are put on in one call, and which answers raise them.
use Rattle.std.specs.Prelude.{◌≡◌, ℕ, Result, Ok, Err}
use Rattle.host_io.specs.Causes.{Rose}
use Rattle.host_io.specs.declared.traits.sink.PutEnd.{PutEnd}
use Rattle.host_io.specs.declared.traits.sink.PutEnd.TheVariants as put_end

-- How many puts failed so far, on standard output and on standard error.
pub record PutFaults : Type 0 where
  pub out : ℕ
  pub err : ℕ

-- Exactly one of the two counts rose, and the other is as before.
pub data OneRose (before now : PutFaults) : Type 0 where
  on_out : Rose before.out now.out → now.err ≡ before.err → OneRose before now
  on_err : now.out ≡ before.out → Rose before.err now.err → OneRose before now

-- One of the counts rises where a put failed, and every other answer leaves both.
abbrev pub PutsCause : {A : Type 0} → PutFaults → PutFaults → Result A PutEnd → Type 0
PutsCause before now (Ok _) = now ≡ before
PutsCause before now (Err put_end.Failed) = OneRose before now
PutsCause before now (Err put_end.Memory) = now ≡ before
