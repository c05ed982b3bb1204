-- Words in a row, as lists of (address, value, tag).
use Rattle.std.specs.Prelude.{◌≡◌, ℕ, ◌+◌, ◌*◌, ◌<◌, ◌≤◌, ◌⊎◌, List, Some, slice_get}

-- item k of the list has the address base + 4 * k
abbrev pub StandFrom : {T : Type 0} → ℕ → List (ℕ × ℕ × T) → Type 0
StandFrom {T} base words = (k : ℕ) (item : ℕ × ℕ × T) → slice_get words k ≡ Some item → item.0 ≡ base + 4 * k

-- the address comes before all of so many words from base on, or behind them
abbrev pub LiesOutsideRow : ℕ → ℕ → ℕ → Type 0
LiesOutsideRow base count address = (address < base) ⊎ (base + 4 * count ≤ address)
