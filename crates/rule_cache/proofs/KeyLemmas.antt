-- What the equality of keys says.
use Rattle.std.proofs.Common.{◌≡◌, true, rules}
use Rattle.std.specs.Cmp.{IsEquivalence}
use Rattle.rule_cache.specs.Keys.{key_eq}
use Rattle.rule_cache.specs.contracts.key.KeyEq.TheImpl.Laws.{laws-law}
use Rattle.rule_cache.specs.declared.key.Key.{Key}

-- keys that are the same are one
pub key_told : (x y : Key) → key_eq x y ≡ true → x ≡ y
key_told = Prim.search rules

pub key_laws : IsEquivalence key_eq
key_laws = laws-law
