-- Names and the places that they stand for.
use Rattle.std.specs.Prelude.{ℕ, List, map}
use Rattle.std.specs.Borrow.{Bor}
use Rattle.std.specs.BTreeMap.{BTreeMap}
use Rattle.std.specs.Cmp.Lexicographic.{slice_cmp}
use Rattle.std.specs.FinMap.{FinMap, from_entries}
use Rattle.std.specs.Ordering.{nat_cmp}

-- a finite map from the bytes of names to addresses
abbrev pub NamePlaces : Type 0
NamePlaces = FinMap (slice_cmp nat_cmp) ℕ

-- the map that a tree holds, whose names are lent
abbrev pub places_in : BTreeMap (Bor (List ℕ)) ℕ → NamePlaces
places_in tree = from_entries (map (λ e. (e.0.now, e.1)) tree.entries)
