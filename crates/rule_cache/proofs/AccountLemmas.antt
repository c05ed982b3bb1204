-- An account beside a store, with its keys by their tags.
use Rattle.std.proofs.Common.{◌≡◌, ℕ, zero, suc, ◌==◌, Bool, true, false, not, ◌&&◌, ◌||◌, cond, List, [], ◌∷◌, filter, length, map, take, is_some, Option, Some, None, refl, sym, ap, ◌∙◌, if◌then◌else◌, slice_index_or, slice_set}
use Rattle.std.specs.List.{AllByRecursion, list_any}
use Rattle.std.specs.Map.{keys_of}
use Rattle.std.proofs.Math.Bool.{and_assoc}
use Rattle.std.proofs.lemmas.List.{length-map, map-set, take-map}
use Rattle.std.proofs.lemmas.Map.Made.{is_some-lookup}
use Rattle.policy_trait.specs.declared.rules.Outs.{Outs}
use Rattle.engine_trait.specs.Accounts as accounts
use Rattle.engine_trait.specs.Accounts.{Account, fronted, group_eq, is_kept, looked_up, same_key, set_keys, set_of}
use Rattle.shared_terms.specs.Counts.{next_count}
use Rattle.rule_cache.specs.Keys.{key_eq}
use Rattle.rule_cache.specs.Named.{IsAccountOf, IsKeyBelow, IsToldApart, TellsBelow, key_by, keys_by}
use Rattle.rule_cache.specs.Stores.{Rules, Store, counted_as, lookup_of, looked_for, set_rules, store_with, with_rule, without}
use Rattle.rule_cache.specs.declared.key.Key.{Key}

-- five tests, from either end
nested : (a b c d e : Bool) → (a && b && c && d && e) ≡ (a && (b && (c && (d && e))))
nested a b c d e = and_assoc (a && b && c) d e ∙ and_assoc (a && b) c (d && e) ∙ and_assoc a b (c && (d && e))

-- what stands at a place of a changed list, where the default changes so too
pub mapped_at : {X Y : Type 0} (f : X → Y) (d : X) (xs : List X) (place : ℕ) → slice_index_or (map f xs) place (f d) ≡ f (slice_index_or xs place d)
mapped_at f d [] place = refl
mapped_at f d (x ∷ xs) zero = refl
mapped_at f d (x ∷ xs) (suc place) = mapped_at f d xs place

module _ {T : Type 0} (tag_of : ℕ → T) (eq : T → T → Bool) (key : Key) where
  -- ---- the keys by their tags

  abbrev IsTold : Key → Type 0
  IsTold other = same_key eq (key_by tag_of key) (key_by tag_of other) ≡ key_eq key other

  -- where words are told apart as their tags are, so are keys of such words
  pub all_told : (bound : ℕ) (keys : List Key) → TellsBelow tag_of eq bound → IsKeyBelow bound key
      → AllByRecursion (IsKeyBelow bound) keys → AllByRecursion IsTold keys
  all_told bound [] tells below all = tt
  all_told bound (other ∷ keys) tells below all = (
    rw (
      tells key.words.pc other.words.pc below.pc all.0.pc,
      tells key.words.ci other.words.ci below.ci all.0.ci,
      tells key.words.t1 other.words.t1 below.t1 all.0.t1,
      tells key.words.t2 other.words.t2 below.t2 all.0.t2,
      tells key.words.tm other.words.tm below.tm all.0.tm,
    ) (ap (λ same. group_eq key.group other.group && same)
        (nested (key.words.pc == other.words.pc) (key.words.ci == other.words.ci) (key.words.t1 == other.words.t1) (key.words.t2 == other.words.t2)
        (key.words.tm == other.words.tm))),
    all_told bound keys tells below all.1,
  )

  any_told : (keys : List Key) → AllByRecursion IsTold keys
      → list_any (same_key eq (key_by tag_of key)) (map (key_by tag_of) keys) ≡ list_any (key_eq key) keys
  any_told [] told = refl
  any_told (other ∷ keys) told = rw told.0 (ap (λ b. key_eq key other || b) (any_told keys told.1))

  without_told : (kept : Rules) → AllByRecursion IsTold (keys_of kept)
      → filter (λ other. not (same_key eq (key_by tag_of key) other)) (map (key_by tag_of) (keys_of kept))
      ≡ map (key_by tag_of) (keys_of (without key kept))
  without_told [] told = refl
  without_told (rule ∷ kept) told = rw told.0 (elim (key_eq key rule.0) as (λ same.
      cond (not same) (key_by tag_of rule.0 ∷ filter (λ other. not (same_key eq (key_by tag_of key) other)) (map (key_by tag_of) (keys_of kept)))
      (filter (λ other. not (same_key eq (key_by tag_of key) other)) (map (key_by tag_of) (keys_of kept)))
      ≡ map (key_by tag_of) (keys_of (cond (not same) (rule ∷ without key kept) (without key kept)))) [
        | true ↦ without_told kept told.1
        | false ↦ ap (λ keys. key_by tag_of rule.0 ∷ keys) (without_told kept told.1)
      ])

  -- ---- the account

  module _ (account : Account T) (store : Store) (is : IsAccountOf tag_of account store) (told : IsToldApart tag_of eq key store) where
    place_alike : set_of key.group (length account.sets) ≡ set_of key.group (length store.sets)
    place_alike = ap (set_of key.group) (ap length is.sets ∙ length-map store.sets (keys_by tag_of))

    -- the keys of its set
    set_alike : set_keys eq (key_by tag_of key) account ≡ keys_by tag_of (set_rules key store)
    set_alike = (λ j. slice_index_or (is.sets j) (place_alike j) []) ∙ mapped_at (keys_by tag_of) [] store.sets (set_of key.group (length store.sets))

    pub kept_alike : is_kept eq (key_by tag_of key) account ≡ is_some (lookup_of key store)
    kept_alike =
        ap (list_any (same_key eq (key_by tag_of key))) set_alike ∙ any_told (keys_of (set_rules key store)) told
        ∙ sym (is_some-lookup (key_eq key) (set_rules key store))

    keys_alike : (words : Outs ℕ) → fronted eq account.ways (key_by tag_of key) (set_keys eq (key_by tag_of key) account)
        ≡ keys_by tag_of (with_rule store.ways key words (set_rules key store))
    keys_alike words =
        ap (λ keys. take account.ways (key_by tag_of key ∷ filter (λ other. not (same_key eq (key_by tag_of key) other)) keys)) set_alike
        ∙ ap (λ keys. take account.ways (key_by tag_of key ∷ keys)) (without_told (set_rules key store) told)
        ∙ ap (λ n. take n (map (key_by tag_of) (key ∷ keys_of (without key (set_rules key store))))) is.ways
        ∙ take-map (key_by tag_of) store.ways (key ∷ keys_of (without key (set_rules key store)))
        ∙ ap (map (key_by tag_of)) (take-map (λ (rule : Key × Outs ℕ). rule.0) store.ways ((key, words) ∷ without key (set_rules key store)))

    sets_alike : (words : Outs ℕ) → (accounts.keeping eq (key_by tag_of key) account).sets ≡ map (keys_by tag_of) (store_with key words store).sets
    sets_alike words =
        (λ j. slice_set (is.sets j) (place_alike j) (keys_alike words j))
        ∙ sym (map-set (keys_by tag_of) store.sets (set_of key.group (length store.sets)) (with_rule store.ways key words (set_rules key store)))

    pub keeping_alike : (words : Outs ℕ) → IsAccountOf tag_of (accounts.keeping eq (key_by tag_of key) account) (store_with key words store)
    keeping_alike words = record { sets = sets_alike words; ways = is.ways; hits = is.hits; misses = is.misses }

    -- a look-up of a key that the account has, or has not
    counted_hit : is_kept eq (key_by tag_of key) account ≡ true
        → looked_up eq (key_by tag_of key) account ≡ record (accounts.keeping eq (key_by tag_of key) account) { hits = next_count account.hits }
    counted_hit hit = ap (λ b. if b then record (accounts.keeping eq (key_by tag_of key) account) { hits = next_count account.hits } else record account { misses = next_count account.misses }) hit

    counted_miss : is_kept eq (key_by tag_of key) account ≡ false
        → looked_up eq (key_by tag_of key) account ≡ record account { misses = next_count account.misses }
    counted_miss miss = ap (λ b. if b then record (accounts.keeping eq (key_by tag_of key) account) { hits = next_count account.hits } else record account { misses = next_count account.misses }) miss

    hit_by : (at : Option (Outs ℕ)) → is_some at ≡ true
        → IsAccountOf tag_of (record (accounts.keeping eq (key_by tag_of key) account) { hits = next_count account.hits }) (counted_as key at store)
    hit_by None hit = absurd cc
    hit_by (Some words) hit = record { sets = sets_alike words; ways = is.ways; hits = ap next_count is.hits; misses = is.misses }

    pub hit_alike : is_some (lookup_of key store) ≡ true
        → IsAccountOf tag_of (looked_up eq (key_by tag_of key) account) (looked_for key store)
    hit_alike hit = rw (counted_hit (kept_alike ∙ hit)) (hit_by (lookup_of key store) hit)

    miss_by : (at : Option (Outs ℕ)) → is_some at ≡ false → IsAccountOf tag_of (record account { misses = next_count account.misses }) (counted_as key at store)
    miss_by None miss = record { sets = is.sets; ways = is.ways; hits = is.hits; misses = ap next_count is.misses }
    miss_by (Some words) miss = absurd cc

    pub miss_alike : is_some (lookup_of key store) ≡ false
        → IsAccountOf tag_of (looked_up eq (key_by tag_of key) account) (looked_for key store)
    miss_alike miss = rw (counted_miss (kept_alike ∙ miss)) (miss_by (lookup_of key store) miss)
