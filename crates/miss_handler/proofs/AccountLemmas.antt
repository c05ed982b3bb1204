-- The account of an engine beside its table of tags and its store of rules, as a rule is found, asked and kept.
use Rattle.std.proofs.Common.{◌≡◌, ℕ, ◌<◌, ◌==◌, Bool, true, false, List, is_some, length, Option, Some, None, refl, sym, ap, subst, ◌∙◌}
use Rattle.std.specs.Cmp.{IsEquivalence}
use Rattle.std.specs.Map.{keys_of}
use Rattle.std.proofs.lemmas.Bool.{eqb-false, eqb-true}
use Rattle.std.proofs.lemmas.Option.{slice_get-get_or}
use Rattle.pump_words.specs.Same.{TellsApart}
use Rattle.policy_trait.specs.declared.rules.Outs.{Outs}
use Rattle.engine_trait.specs.Accounts.{Account, is_kept, looked_up}
use Rattle.rule_cache.specs.Named.{IsAccountOf, IsKeyBelow, IsToldApart, TellsBelow, key_by}
use Rattle.rule_cache.specs.Stores.{Store, counted_as, lookup_of, looked_for, set_rules}
use Rattle.rule_cache.specs.declared.key.Key.{Key}
use Rattle.rule_cache.proofs.AccountLemmas.{all_told, hit_alike, kept_alike, miss_alike}
use Rattle.tag_intern.specs.Table.{HasNoRepeats, TableState}
use Rattle.tag_intern.specs.Words.{tag_at}
use Rattle.miss_handler.specs.Asked.{AreRules}
use Rattle.miss_handler.specs.Books.{Rulebook}
use Rattle.miss_handler.specs.Told.{Tells}
use Rattle.miss_handler.proofs.RuleLemmas.{keys_below, set_are}

-- ---- words of tags are told apart as the tags are

module _ {T : Type 0} (eq : T → T → Bool) (laws : IsEquivalence eq) (exact : TellsApart eq) (plain : T) (tags : List T) (distinct : HasNoRepeats tags) where
  one_word : (v w : ℕ) → v < length tags → w < length tags → tag_at plain tags v ≡ tag_at plain tags w → v ≡ w
  one_word v w low high same =
      distinct v w low (slice_get-get_or tags v plain low ∙ ap Some same ∙ sym (slice_get-get_or tags w plain high))

  pub tells_below : TellsBelow (tag_at plain tags) eq (length tags)
  tells_below v w low high = by (v == w) refl (eq (tag_at plain tags v) (tag_at plain tags w)) refl
    where
      by : (words : Bool) → (v == w) ≡ words → (told : Bool) → eq (tag_at plain tags v) (tag_at plain tags w) ≡ told
          → eq (tag_at plain tags v) (tag_at plain tags w) ≡ (v == w)
      by true one true told = told ∙ sym one
      by false apart false told = told ∙ sym apart
      by false apart true told = absurd (eqb-false v w apart (one_word v w low high (exact _ _ told)))
      by true one false told =
          let same : eq (tag_at plain tags v) (tag_at plain tags w) ≡ true =
          subst (λ word. eq (tag_at plain tags v) (tag_at plain tags word) ≡ true) (eqb-true v w one) (laws.refl (tag_at plain tags v)) in
          absurd cc

-- ---- the key of a look-up is told from the kept ones

module _ {T : Type 0} (eq : T → T → Bool) (laws : IsEquivalence eq) (exact : TellsApart eq) (book : Rulebook T) (table : TableState T) (store : Store) (key : Key)
    (distinct : HasNoRepeats table.tags) (below : IsKeyBelow (length table.tags) key) (rules : AreRules book table.tags store.sets) where
  abbrev pub read : ℕ → T
  read = tag_at book.plain table.tags

  pub apart : IsToldApart read eq key store
  apart =
      all_told read eq key (length table.tags) (keys_of (set_rules key store)) (tells_below eq laws exact book.plain table.tags distinct) below
      (keys_below book table.tags (set_rules key store) (set_are book table.tags key store rules))

  module _ (account : Account T) (tells : Tells book.plain table store account) where
    -- the account finds as the store does
    pub found_alike : is_kept eq (key_by read key) account ≡ is_some (lookup_of key store)
    found_alike = kept_alike read eq key account store tells.rules apart

    looked_tells : (at : Option (Outs ℕ)) → lookup_of key store ≡ at
        → Tells book.plain table (counted_as key at store) (looked_up eq (key_by read key) account)
    looked_tells None is =
        let miss : is_some (lookup_of key store) ≡ false = ap is_some is in
        record {
          tags = rw (found_alike ∙ miss) tells.tags;
          limit = rw (found_alike ∙ miss) tells.limit;
          rules = subst (λ at. IsAccountOf read (looked_up eq (key_by read key) account) (counted_as key at store)) is
              (miss_alike read eq key account store tells.rules apart miss);
          room = tells.room;
        }
    looked_tells (Some words) is =
        let hit : is_some (lookup_of key store) ≡ true = ap is_some is in
        record {
          tags = rw (found_alike ∙ hit) tells.tags;
          limit = rw (found_alike ∙ hit) tells.limit;
          rules = subst (λ at. IsAccountOf read (looked_up eq (key_by read key) account) (counted_as key at store)) is
              (hit_alike read eq key account store tells.rules apart hit);
          room = tells.room;
        }

    -- the look-up is counted
    pub look_tells : Tells book.plain table (looked_for key store) (looked_up eq (key_by read key) account)
    look_tells = looked_tells (lookup_of key store) refl
