-- A store of one set: what its calls leave, in the words of its rules.
use Rattle.std.proofs.Common.{◌≡◌, ℕ, [], ◌∷◌, Some, None, ap, ◌∙◌, slice_index_or, slice_set}
use Rattle.std.specs.Map.{lookup}
use Rattle.policy_trait.specs.declared.rules.Outs.{Outs}
use Rattle.shared_terms.specs.Counts.{next_count}
use Rattle.engine_trait.proofs.AccountLemmas.{one_set}
use Rattle.rule_cache.specs.Keys.{key_eq}
use Rattle.rule_cache.specs.Stores.{Rules, Store, counted_as, lookup_of, looked_for, set_rules, store_with, with_rule}
use Rattle.rule_cache.specs.declared.key.Key.{Key}

-- the store of these rules
abbrev pub one : Rules → ℕ → ℕ → ℕ → Store
one kept ways hits misses = record { sets = kept ∷ []; ways = ways; hits = hits; misses = misses }

module _ (key : Key) (kept : Rules) (ways hits misses : ℕ) where
  one_rules : set_rules key (one kept ways hits misses) ≡ kept
  one_rules = ap (λ place. slice_index_or (kept ∷ []) place []) (one_set key.group)

  pub one_found : lookup_of key (one kept ways hits misses) ≡ lookup (key_eq key) kept
  one_found = ap (lookup (key_eq key)) one_rules

  pub one_kept : (words : Outs ℕ) → store_with key words (one kept ways hits misses) ≡ one (with_rule ways key words kept) ways hits misses
  one_kept words = λ j. record {
    sets = slice_set (kept ∷ []) (one_set key.group j) (with_rule ways key words (one_rules j));
    ways = ways;
    hits = hits;
    misses = misses;
  }

  pub one_missed : lookup (key_eq key) kept ≡ None → looked_for key (one kept ways hits misses) ≡ one kept ways hits (next_count misses)
  one_missed none = ap (λ at. counted_as key at (one kept ways hits misses)) (one_found ∙ none)

  pub one_hit : (words : Outs ℕ) → lookup (key_eq key) kept ≡ Some words
      → looked_for key (one kept ways hits misses) ≡ one (with_rule ways key words kept) ways (next_count hits) misses
  one_hit words some =
      ap (λ at. counted_as key at (one kept ways hits misses)) (one_found ∙ some)
      ∙ ap (λ (s : Store). record s { hits = next_count hits }) (one_kept words)
