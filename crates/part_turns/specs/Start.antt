-- The start of a machine under one policy: what the birth of each word says of it, with these words and entries.
use Rattle.std.specs.Prelude.{ℕ, ◌*◌, List, length, map}
use Rattle.std.specs.List.{range_with_len}
use Rattle.policy_trait.specs.Model.{PolicyModel}
use Rattle.policy_trait.specs.declared.birth.Birth.{Birth}
use Rattle.tag_memory.specs.Hart.{HartState, fresh_hart}
use Rattle.tag_memory.specs.Ram.{RamState}
use Rattle.engine_trait.specs.Machine.{Machine, fresh_core}

-- `birth` tells of the word at an address; an entry is where a hart starts
module _ {U V : Type 0} (m : PolicyModel U V) (v : V) (birth : ℕ → Birth) (words entries : List ℕ) where
  abbrev pub first_hart : ℕ → HartState U
  first_hart entry = fresh_hart entry (m.start_pc v (birth entry)) (m.plain v)

  abbrev pub first_ram : RamState U
  first_ram = record { words = words; tags = map (λ n. m.start_word v (birth (4 * n))) (range_with_len 0 (length words)); plain = m.plain v }

  abbrev pub first_machine : Machine V U
  first_machine = record { policy = v; core = fresh_core (map first_hart entries) first_ram }
