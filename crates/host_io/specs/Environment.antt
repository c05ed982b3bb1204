-- The environment of a program at one moment: its files, its input and its two sinks.
use Rattle.std.specs.Prelude.{◌≡◌, ℕ, Bool, List, Option}
use Rattle.host_io.specs.Causes.{Rose, RoseAt}
use Rattle.host_io.specs.Pieces.{Taken}
use Rattle.host_io.specs.TwoSinks.{OneRose, PutFaults}

-- How many calls failed so far: loads and saves by the name of their file, reads of the input, and
-- puts.
pub record Faults : Type 0 where
  pub read : List ℕ → ℕ
  pub write : List ℕ → ℕ
  pub input : ℕ
  pub puts : PutFaults

-- The files' content by name, whether that of a saved file is told, and how often they were called,
-- the input's bytes left and whether its end was met, what the sinks have taken, and the counts of
-- faults. Content is there where it is told.
pub record Environment (I : Type 0) : Type 0 where
  pub held : List ℕ → Option (List ℕ)
  pub tells : Bool
  pub calls : ℕ
  -- The input itself, whatever it tells of its bytes.
  pub input : I
  pub left : Option (List ℕ)
  pub closed : Bool
  pub taken : Taken
  pub faults : Faults

-- No call failed.
abbrev pub NoFault : Faults → Faults → Type 0
NoFault before now = now ≡ before

-- A load of that name failed, and nothing else did.
pub record ReadFault (name : List ℕ) (before now : Faults) : Type 0 where
  pub read : RoseAt before.read now.read name
  pub write : now.write ≡ before.write
  pub input : now.input ≡ before.input
  pub puts : now.puts ≡ before.puts

-- A save to that name failed, and nothing else did.
pub record WriteFault (name : List ℕ) (before now : Faults) : Type 0 where
  pub read : now.read ≡ before.read
  pub write : RoseAt before.write now.write name
  pub input : now.input ≡ before.input
  pub puts : now.puts ≡ before.puts

-- A read of the input failed, and nothing else did.
pub record InputFault (before now : Faults) : Type 0 where
  pub read : now.read ≡ before.read
  pub write : now.write ≡ before.write
  pub input : Rose before.input now.input
  pub puts : now.puts ≡ before.puts

-- A put on one of the sinks failed, and nothing else did.
pub record PutFault (before now : Faults) : Type 0 where
  pub read : now.read ≡ before.read
  pub write : now.write ≡ before.write
  pub input : now.input ≡ before.input
  pub puts : OneRose before.puts now.puts
