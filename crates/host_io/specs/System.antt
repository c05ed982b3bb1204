-- What the adapters over std hold.
use Rattle.std.specs.Prelude.{ℕ, Bool}

-- A writer, and how many puts failed so far.
pub record CountedSink (W : Type 0) : Type 0 where
  pub writer : W
  pub faults : ℕ

-- A reader, whether its end was met, and how many reads failed so far.
pub record CountedSource (R : Type 0) : Type 0 where
  pub reader : R
  pub closed : Bool
  pub faults : ℕ

-- A file system, how many loads and saves were made so far, and how many of each failed.
pub record CountedFiles (S : Type 0) : Type 0 where
  pub system : S
  pub calls : ℕ
  pub read_faults : ℕ
  pub write_faults : ℕ
