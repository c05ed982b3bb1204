-- A rule that is found: it is kept already, and its outputs have words.
use Rattle.std.proofs.Common.{◌≡◌, ℕ, zero, suc, ◌==◌, Bool, true, false, not, ◌&&◌, cond, List, [], ◌∷◌, filter, is_some, length, take, Option, Some, None, Ok, if◌then◌else◌, slice_index_or, slice_set, refl, sym, ap, subst, ◌∙◌, arith}
use Rattle.std.specs.Cmp.{IsEquivalence}
use Rattle.std.proofs.lemmas.List.{length-set, take-take}
use Rattle.std.proofs.lemmas.Option.{slice_get-get_or}
use Rattle.rv_decode.specs.contracts.groups.GroupEq.TheImpl.Laws.{laws-law}
use Rattle.pump_words.specs.Same.{TellsApart}
use Rattle.policy_trait.specs.declared.rules.Outs.{Outs}
use Rattle.policy_trait.specs.declared.rules.Refused.{Refused}
use Rattle.engine_trait.specs.Accounts as accounts
use Rattle.engine_trait.specs.Accounts.{Account, fronted, group_eq, is_kept, looked_up, rule_kept, same_key, seeing, set_keys, set_of, with_tags}
use Rattle.shared_terms.specs.Counts.{next_count}
use Rattle.rule_cache.specs.Named.{IsKeyBelow, key_by}
use Rattle.rule_cache.specs.Stores.{Store, counted_as, lookup_of, looked_for, set_rules}
use Rattle.rule_cache.specs.declared.key.Key.{Key}
use Rattle.tag_intern.specs.Table.{HasNoRepeats, TableState}
use Rattle.tag_intern.specs.Words.{tag_at}
use Rattle.tag_intern.proofs.TableLemmas.{with_word}
use Rattle.miss_handler.specs.Answered.{AreWordsOf, with_outs}
use Rattle.miss_handler.specs.Asked.{AreOutWords, AreRules, IsRule, outs_on}
use Rattle.miss_handler.specs.Books.{Rulebook}
use Rattle.miss_handler.specs.Told.{Tells}
use Rattle.miss_handler.proofs.AccountLemmas.{found_alike, look_tells}
use Rattle.miss_handler.proofs.RuleLemmas.{rule_found, rules_with, set_are}

-- ---- a key that is kept twice is kept once

module _ {X : Type 0} (p : X → Bool) where
  -- what passed a test passes it again
  filter_taken : (n : ℕ) (xs : List X) → filter p (take n (filter p xs)) ≡ take n (filter p xs)
  filter_taken zero xs = refl
  filter_taken (suc n) [] = refl
  filter_taken (suc n) (x ∷ xs) = (elim (p x) as (λ passes. p x ≡ passes
      → filter p (take (suc n) (cond passes (x ∷ filter p xs) (filter p xs))) ≡ take (suc n) (cond passes (x ∷ filter p xs) (filter p xs))) [
        | true ↦ λ passes. rw passes (ap (λ rest. x ∷ rest) (filter_taken n xs))
        | false ↦ λ passes. filter_taken (suc n) xs
      ]) refl

  -- so what goes to the front of the others is alone there, also the second time
  fronted_twice : (x : X) → p x ≡ false → (n : ℕ) (xs : List X)
      → take n (x ∷ filter p (take n (x ∷ filter p xs))) ≡ take n (x ∷ filter p xs)
  fronted_twice x passes zero xs = refl
  fronted_twice x passes (suc n) xs =
      rw passes (ap (λ rest. x ∷ rest) (ap (take n) (filter_taken n xs) ∙ take-take n n (filter p xs) (omega arith)))

-- what is done twice to the list at a place is done once
module _ {X : Type 0} (f : X → X) (once : (x : X) → f (f x) ≡ f x) where
  twice_set : (xs : List X) (place : ℕ) (d : X)
      → slice_set (slice_set xs place (f (slice_index_or xs place d))) place (f (slice_index_or (slice_set xs place (f (slice_index_or xs place d))) place d))
      ≡ slice_set xs place (f (slice_index_or xs place d))
  twice_set [] place d = refl
  twice_set (x ∷ xs) zero d = ap (λ y. y ∷ xs) (once x)
  twice_set (x ∷ xs) (suc place) d = ap (λ rest. x ∷ rest) (twice_set xs place d)

-- ---- an account in which the key is found

group_laws : IsEquivalence group_eq
group_laws = laws-law

module _ {T : Type 0} (eq : T → T → Bool) (laws : IsEquivalence eq) where
  -- a key is the same as itself
  self_same : (key : accounts.Key T) → same_key eq key key ≡ true
  self_same key =
      rw (
        laws.refl key.inputs.pc,
        laws.refl key.inputs.ci,
        laws.refl key.inputs.t1,
        laws.refl key.inputs.t2,
        laws.refl key.inputs.tm,
      ) (ap (λ same. same && true) (group_laws.refl key.group))

  -- a key that was kept just now is kept already
  keeping_twice : (key : accounts.Key T) (account : Account T) (hits : ℕ)
      → accounts.keeping eq key (record (accounts.keeping eq key account) { hits = hits }) ≡ record (accounts.keeping eq key account) { hits = hits }
  keeping_twice key account hits =
      let place = set_of key.group (length account.sets) in
      let count = length-set account.sets place (fronted eq account.ways key (set_keys eq key account)) in
      ap (λ n. record account {
        sets = slice_set (accounts.keeping eq key account).sets (set_of key.group n)
            (fronted eq account.ways key (slice_index_or (accounts.keeping eq key account).sets (set_of key.group n) []));
        hits = hits;
      }) count
      ∙ ap (λ sets. record account { sets = sets; hits = hits })
      (twice_set (fronted eq account.ways key) (λ keys. fronted_twice (λ other. not (same_key eq key other)) key (ap not (self_same key)) account.ways keys) account.sets place [])

  -- a key that is found is kept already
  keeping_found : (key : accounts.Key T) (account : Account T) → is_kept eq key account ≡ true
      → accounts.keeping eq key (looked_up eq key account) ≡ looked_up eq key account
  keeping_found key account hit = rw hit (keeping_twice key account (next_count account.hits))

  -- tags that have words change no account
  seeing_known : (tags : List T) (account : Account T) → with_tags eq account.table tags ≡ account.table → seeing eq tags account ≡ account
  seeing_known tags account known = elim (account.ways == 0) as (λ none.
      (if none then account else record account { table = with_tags eq account.table tags }) ≡ account) [
        | true ↦ refl
        | false ↦ ap (λ seen. record account { table = seen }) known
      ]

  -- outputs that have words add no tag
  known_outs : (tags : List T) (outs : Outs T) (words : Outs ℕ) → AreWordsOf tags outs words → with_outs eq tags outs ≡ tags
  known_outs tags outs words are =
      ap (λ seen. accounts.with_tag eq seen outs.result) (with_word eq laws tags outs.pc words.pc are.pc)
      ∙ with_word eq laws tags outs.result words.result are.result

-- ---- the rule of the key

-- words that are below the count have the tags that they stand for
outs_words : {T : Type 0} (book : Rulebook T) (tags : List T) (words : Outs ℕ) → AreOutWords (length tags) words
    → AreWordsOf tags (outs_on book tags words) words
outs_words book tags words below = record {
  pc = slice_get-get_or tags words.pc book.plain below.pc;
  result = slice_get-get_or tags words.result book.plain below.result;
}

module _ {T : Type 0} (book : Rulebook T) (tags : List T) (store : Store) (key : Key) (rules : AreRules book tags store.sets) (words : Outs ℕ)
    (is : lookup_of key store ≡ Some words) where
  pub hit_rule : IsRule book tags (key, words)
  hit_rule = rule_found book tags key (set_rules key store) words is (set_are book tags key store rules)

  hit_by : (at : Option (Outs ℕ)) → at ≡ Some words → AreRules book tags (counted_as key at store).sets
  hit_by None none = absurd cc
  hit_by (Some other) some =
      let same : words ≡ other = cc in
      rules_with book tags key other store (subst (λ w. IsRule book tags (key, w)) same hit_rule) rules

  -- the rules are what they were, in another order
  pub hit_rules : AreRules book tags (looked_for key store).sets
  hit_rules = hit_by (lookup_of key store) is

module _ {T : Type 0} (eq : T → T → Bool) (laws : IsEquivalence eq) (exact : TellsApart eq) (book : Rulebook T) (table : TableState T) (store : Store) (key : Key)
    (distinct : HasNoRepeats table.tags) (below : IsKeyBelow (length table.tags) key) (rules : AreRules book table.tags store.sets)
    (account : Account T) (tells : Tells book.plain table store account) (words : Outs ℕ) (is : lookup_of key store ≡ Some words) where
  abbrev read : accounts.Key T
  read = key_by (tag_at book.plain table.tags) key

  -- keeping the rule changes nothing after its look-up
  hit_same : seeing eq (tag_at book.plain table.tags words.pc ∷ tag_at book.plain table.tags words.result ∷ [])
      (accounts.keeping eq read (looked_up eq read account)) ≡ looked_up eq read account
  hit_same =
      let outs = outs_on book table.tags words in
      let look = look_tells eq laws exact book table store key distinct below rules account tells in
      let hit : is_kept eq read account ≡ true = found_alike eq laws exact book table store key distinct below rules account tells ∙ ap is_some is in
      let are = outs_words book table.tags words (hit_rule book table.tags store key rules words is).outs in
      ap (seeing eq (outs.pc ∷ outs.result ∷ [])) (keeping_found eq laws read account hit)
      ∙ seeing_known eq laws (outs.pc ∷ outs.result ∷ []) (looked_up eq read account)
      (ap (λ seen. with_outs eq seen outs) look.tags ∙ known_outs eq laws table.tags outs words are ∙ sym look.tags)

  -- so the account after the look-up is that with the rule kept
  pub hit_tells : Tells book.plain table (looked_for key store) (rule_kept eq {E = Refused} read (Ok (outs_on book table.tags words)) (looked_up eq read account))
  hit_tells =
      subst (Tells book.plain table (looked_for key store)) (sym hit_same)
      (look_tells eq laws exact book table store key distinct below rules account tells)
