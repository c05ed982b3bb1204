-- Listings: the registers of a hart, words of memory, tags of words, and words with their statements, line by line.
use Rattle.std.specs.Prelude.{◌≡◌, ℕ, ◌+◌, ◌*◌, ◌%◌, ◌<◌, ◌≤◌, List, length}
use Rattle.policy_trait.specs.Model.{PolicyModel}
use Rattle.tag_memory.specs.Ram.{ram_bytes}
use Rattle.engine_trait.specs.Machine.{CoreState, Machine}
use Rattle.shell_run.specs.Shown.{register_of, statement_of, tag_of, word_of}
use Rattle.shell_run.specs.declared.listing.Listing.{Listing}
use Rattle.shell_run.specs.declared.listing.Listing.TheVariants.{Registers, Statements, Tags, Words}

-- line k
abbrev pub line_of : {S T : Type 0} → PolicyModel T S → Machine S T → Listing → ℕ → List ℕ
line_of m s (Registers h) = register_of m s h
line_of m s (Words a) = word_of m s a
line_of m s (Tags a) = tag_of m s a
line_of m s (Statements a) = statement_of m s a

-- what so many words in memory from an address on want
abbrev AreWords : {T : Type 0} → CoreState T → ℕ → ℕ → Type 0
AreWords core a count = (a % 4 ≡ 0) × (a + 4 * count ≤ ram_bytes core.ram)

-- so many lines are there
abbrev pub AreThere : {T : Type 0} → CoreState T → Listing → ℕ → Type 0
AreThere core (Registers h) count = (h < length core.harts) × (count ≤ 32)
AreThere core (Words a) count = AreWords core a count
AreThere core (Tags a) count = AreWords core a count
AreThere core (Statements a) count = AreWords core a count
