-- Which inputs the rule of a group ignores, as bits by which words are read.
use Rattle.std.specs.Prelude.{◌≡◌, ℕ, ◌==◌, Bool, if◌then◌else◌}
use Rattle.policy_trait.specs.declared.rules.Ins.{Ins}
use Rattle.policy_trait.specs.declared.rules.Mask.{Mask}

-- no bit of a word that is ignored, and all of one that is read
abbrev pub bits_of : Bool → ℕ
bits_of ignored = if ignored then 0 else 4294967295

-- the bits of a mask
abbrev pub bits_of_mask : Mask → Ins ℕ
bits_of_mask mask = record {
  pc = bits_of mask.pc;
  ci = bits_of mask.ci;
  t1 = bits_of mask.t1;
  t2 = bits_of mask.t2;
  tm = bits_of mask.tm;
}

-- an input is ignored that has no bit
abbrev pub mask_of_bits : Ins ℕ → Mask
mask_of_bits bits = record {
  pc = bits.pc == 0;
  ci = bits.ci == 0;
  t1 = bits.t1 == 0;
  t2 = bits.t2 == 0;
  tm = bits.tm == 0;
}

-- no bit or all
abbrev pub IsWhole : ℕ → Type 0
IsWhole bits = bits ≡ bits_of (bits == 0)

-- each input has no bit or all
pub record AreWhole (bits : Ins ℕ) : Type 0 where
  pub pc : IsWhole bits.pc
  pub ci : IsWhole bits.ci
  pub t1 : IsWhole bits.t1
  pub t2 : IsWhole bits.t2
  pub tm : IsWhole bits.tm
