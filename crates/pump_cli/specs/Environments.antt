-- The environment as the four objects of a call show it.
use Rattle.std.specs.Prelude.{ℕ, Bool, List, Option}
use Rattle.host_io.specs.Environment.{Environment}

-- the files, the input, standard output and standard error, each by the functions that tell of it
abbrev pub environment : {F S K L : Type 0}
    → Bool → (F → List ℕ → Option (List ℕ)) → (F → List ℕ → ℕ) → (F → List ℕ → ℕ) → (F → ℕ)
    → (S → Option (List ℕ)) → (S → Bool) → (S → ℕ)
    → (K → Option (List ℕ)) → (K → ℕ) → (L → Option (List ℕ)) → (L → ℕ)
    → F → S → K → L → Environment S
environment tells held read_faults write_faults calls left closed input_faults out_taken out_faults err_taken err_faults files input out err = record {
  held = held files;
  tells = tells;
  calls = calls files;
  input = input;
  left = left input;
  closed = closed input;
  taken = record { out = out_taken out; err = err_taken err };
  faults = record { read = read_faults files; write = write_faults files; input = input_faults input; puts = record { out = out_faults out; err = err_faults err } };
}
