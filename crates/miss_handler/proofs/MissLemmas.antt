-- A rule that is asked: it is kept, and its outputs have words, where it allows.
use Rattle.std.proofs.Common.{◌≡◌, ℕ, ◌≤◌, ◌==◌, Bool, true, false, List, [], ◌∷◌, length, Ok, take, if◌then◌else◌, refl, sym, ap, subst, ◌∙◌, arith}
use Rattle.std.specs.Cmp.{IsEquivalence}
use Rattle.std.specs.List.{AllByRecursion}
use Rattle.std.specs.Map.{keys_of}
use Rattle.std.proofs.lemmas.Bool.{eqb-true}
use Rattle.pump_words.specs.Same.{TellsApart}
use Rattle.policy_trait.specs.declared.rules.Outs.{Outs}
use Rattle.policy_trait.specs.declared.rules.Refused.{Refused}
use Rattle.engine_trait.specs.Accounts as accounts
use Rattle.engine_trait.specs.Accounts.{Account, rule_kept, seeing, with_tags}
use Rattle.rule_cache.specs.Named.{IsAccountOf, IsKeyBelow, key_by}
use Rattle.rule_cache.specs.Stores.{Store, store_with}
use Rattle.rule_cache.specs.declared.key.Key.{Key}
use Rattle.rule_cache.proofs.AccountLemmas.{keeping_alike}
use Rattle.tag_intern.specs.Table.{Extends, HasNoRepeats, TableState, cut_to}
use Rattle.tag_intern.specs.Words.{tag_at}
use Rattle.tag_intern.proofs.TableLemmas.{distinct_with_tags, extends_with_tags, prefix, longer}
use Rattle.miss_handler.specs.Answered.{IsAnswered, with_outs}
use Rattle.miss_handler.specs.Asked.{AreInWords, AreRules, IsRule}
use Rattle.miss_handler.specs.Books.{Rulebook}
use Rattle.miss_handler.specs.Told.{Tells}
use Rattle.miss_handler.proofs.AccountLemmas.{apart}
use Rattle.miss_handler.proofs.RuleLemmas.{in_words_grown, ins_grown, key_grown, outs_below, outs_read, rules_grown, rules_with, sets_below, sets_grown}

-- ---- a table as tags come and go

-- a cut to the length before takes their words from the outputs
pub cut_back : {T : Type 0} (eq : T → T → Bool) → IsEquivalence eq → (table grown left : TableState T) (outs : Outs T) (len : ℕ)
    → len ≡ length table.tags → grown ≡ record table { tags = with_outs eq table.tags outs } → left ≡ cut_to grown len → left ≡ table
cut_back eq laws table grown left outs len len_is grown_is left_is =
    left_is ∙ ap (λ t. cut_to t len) grown_is
    ∙ ap (λ n. record table { tags = take n (with_outs eq table.tags outs) }) len_is
    ∙ ap (λ tags. record table { tags = tags })
    (prefix table.tags (with_outs eq table.tags outs) (extends_with_tags eq laws table.tags (outs.pc ∷ outs.result ∷ [])))

-- ---- an account as its tags grow

module _ {T : Type 0} (plain : T) (old new : List T) (grows : Extends old new) where
  -- an account beside a store is so as the table grows
  account_grown : (account : Account T) (store : Store) → AllByRecursion (λ kept. AllByRecursion (IsKeyBelow (length old)) (keys_of kept)) store.sets
      → IsAccountOf (tag_at plain old) account store → IsAccountOf (tag_at plain new) account store
  account_grown account store below is = record {
    sets = is.sets ∙ sym (sets_grown plain old new grows store.sets below);
    ways = is.ways;
    hits = is.hits;
    misses = is.misses;
  }

module _ {T : Type 0} (eq : T → T → Bool) (tags : List T) (account : Account T) where
  -- tags that get words change no kept key and no count
  seeing_counts : (tag_of : ℕ → T) (store : Store) → IsAccountOf tag_of account store → IsAccountOf tag_of (seeing eq tags account) store
  seeing_counts tag_of store is = elim (account.ways == 0) as (λ none.
      IsAccountOf tag_of (if none then account else record account { table = with_tags eq account.table tags }) store) [
        | true ↦ is
        | false ↦ record { sets = is.sets; ways = is.ways; hits = is.hits; misses = is.misses }
      ]

  seeing_limit : (seeing eq tags account).limit ≡ account.limit
  seeing_limit = elim (account.ways == 0) as (λ none.
      (if none then account else record account { table = with_tags eq account.table tags }).limit ≡ account.limit) [
        | true ↦ refl
        | false ↦ refl
      ]

  seeing_table : 1 ≤ account.ways → (seeing eq tags account).table ≡ with_tags eq account.table tags
  seeing_table room = by (account.ways == 0) refl
    where
      by : (none : Bool) → (account.ways == 0) ≡ none → (seeing eq tags account).table ≡ with_tags eq account.table tags
      by true none = let zero : account.ways ≡ 0 = eqb-true account.ways 0 none in absurd (omega (arith, room, zero))
      by false some = ap (λ none. (if none then account else record account { table = with_tags eq account.table tags }).table) some

-- ---- a rule that allows

module _ {T : Type 0} (eq : T → T → Bool) (laws : IsEquivalence eq) (book : Rulebook T) (table new : TableState T) (key : Key) (words : Outs ℕ)
    (is : IsAnswered eq book table new key words) where
  -- the table only grows
  pub grows : Extends table.tags new.tags
  grows =
      subst (λ (t : TableState T). Extends table.tags t.tags) (sym is.grown)
      (extends_with_tags eq laws table.tags (is.outs.pc ∷ is.outs.result ∷ []))

  -- it is the policy's answer still
  pub kept_rule : AreInWords (length table.tags) key.words → IsRule book new.tags (key, words)
  kept_rule below = record {
    ins = in_words_grown book table.tags new.tags grows key.words below;
    outs = outs_below new.tags is.outs words is.are;
    answer =
        ap (book.rule key.group) (ins_grown book table.tags new.tags grows key.words below)
        ∙ is.allowed ∙ ap Ok (sym (outs_read book.plain new.tags is.outs words is.are));
  }

  -- and so are all
  pub kept_rules : (store : Store) → AreInWords (length table.tags) key.words → AreRules book table.tags store.sets
      → AreRules book new.tags (store_with key words store).sets
  kept_rules store below rules =
      rules_with book new.tags key words store (kept_rule below) (rules_grown book table.tags new.tags grows store.sets rules)

  module _ (exact : TellsApart eq) (store : Store) (distinct : HasNoRepeats table.tags) (below : IsKeyBelow (length table.tags) key)
      (rules : AreRules book table.tags store.sets) (account : Account T) (tells : Tells book.plain table store account) where
    abbrev read : accounts.Key T
    read = key_by (tag_at book.plain table.tags) key

    distinct_new : HasNoRepeats new.tags
    distinct_new =
        subst (λ (t : TableState T). HasNoRepeats t.tags) (sym is.grown)
        (distinct_with_tags eq laws table.tags (is.outs.pc ∷ is.outs.result ∷ []) distinct)

    below_new : IsKeyBelow (length new.tags) key
    below_new =
        let more : length table.tags ≤ length new.tags = longer table.tags new.tags grows in
        record {
          pc = omega (arith, more, below.pc);
          ci = omega (arith, more, below.ci);
          t1 = omega (arith, more, below.t1);
          t2 = omega (arith, more, below.t2);
          tm = omega (arith, more, below.tm);
        }

    keeping_told : IsAccountOf (tag_at book.plain new.tags) (accounts.keeping eq read account) (store_with key words store)
    keeping_told =
        subst (λ k. IsAccountOf (tag_at book.plain new.tags) (accounts.keeping eq k account) (store_with key words store))
        (key_grown book.plain table.tags new.tags grows key below)
        (keeping_alike (tag_at book.plain new.tags) eq key account store
        (account_grown book.plain table.tags new.tags grows account store (sets_below book table.tags store.sets rules) tells.rules)
        (apart eq laws exact book new store key distinct_new below_new (rules_grown book table.tags new.tags grows store.sets rules)) words)

    -- the account is that with the rule kept and the outputs seen
    pub keeping_tells : Tells book.plain new (store_with key words store) (rule_kept eq {E = Refused} read (Ok is.outs) account)
    keeping_tells =
        let outs = is.outs.pc ∷ is.outs.result ∷ [] in
        let room : 1 ≤ account.ways = subst (λ n. 1 ≤ n) (sym tells.rules.ways) tells.room in
        record {
          tags =
              seeing_table eq outs (accounts.keeping eq read account) room ∙ ap (λ tags. with_outs eq tags is.outs) tells.tags
              ∙ sym (ap (λ (t : TableState T). t.tags) is.grown);
          limit =
              seeing_limit eq outs (accounts.keeping eq read account) ∙ tells.limit ∙ sym (ap (λ (t : TableState T). t.limit) is.grown);
          rules = seeing_counts eq outs (accounts.keeping eq read account) (tag_at book.plain new.tags) (store_with key words store) keeping_told;
          room = tells.room;
        }
