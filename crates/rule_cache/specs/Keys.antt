-- Keys of kept rules: when two are the same, and the number that a key is hashed by.
use Rattle.std.specs.Prelude.{ℕ, ◌+◌, ◌-◌, ◌*◌, ◌%◌, Bool}
use Rattle.engine_trait.specs.Accounts.{group_number}
use Rattle.rule_cache.specs.contracts.key.KeyPartialEq.TheImpl.{eq-value}
use Rattle.rule_cache.specs.declared.key.Key.{Key}

-- whether two keys are the same
abbrev pub key_eq : Key → Key → Bool
key_eq = eq-value.it

-- the words and the group as digits of two halves of one number, to the base of 2^21: keys of smaller words have
-- different numbers
abbrev digit : ℕ → ℕ
digit word = word % 2097152

abbrev pub key_number : Key → ℕ
key_number key =
    (((group_number key.group - 1) * 2097152 + digit key.words.tm) * 2097152 + digit key.words.t2) * 18446744073709551616
    + ((digit key.words.t1 * 2097152 + digit key.words.ci) * 2097152 + digit key.words.pc)
