-- The size of a rule cache.
use Rattle.std.specs.Prelude.{ℕ, ◌*◌, ◌==◌, ◌≤◌, Bool}
use Rattle.cache_size.specs.declared.size.CacheSize.{CacheSize}

-- so many rules in one set
abbrev pub one_set : ℕ → CacheSize
one_set ways = record { sets = 1; ways = ways }

-- there is no room for a rule
abbrev pub keeps_no_rule : CacheSize → Bool
keeps_no_rule size = size.ways == 0

-- there is some set, and room for 65,536 rules at most
pub record IsCacheSize (size : CacheSize) : Type 0 where
  pub some_sets : 1 ≤ size.sets
  pub few_rules : size.sets * size.ways ≤ 65536
