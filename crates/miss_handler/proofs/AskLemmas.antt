-- A question of the rules: what the answer, the account and the kept rules are where the rule is found, and where it is not.
use Rattle.std.proofs.Common.{◌≡◌, ℕ, Bool, Some, None, Ok, Err, is_some, length, slice_get, Result, IfOk, sym, ap, subst, ◌∙◌}
use Rattle.std.specs.Cmp.{IsEquivalence}
use Rattle.std.specs.Result.{OnErr, OnOk}
use Rattle.std.proofs.lemmas.Option.{slice_get_within}
use Rattle.std.proofs.lemmas.Result.{on_ok_weaker}
use Rattle.rv_decode.specs.declared.groups.Group.{Group}
use Rattle.pump_words.specs.Same.{TellsApart}
use Rattle.policy_trait.specs.declared.rules.Ins.{Ins}
use Rattle.policy_trait.specs.declared.rules.Outs.{Outs}
use Rattle.policy_trait.specs.declared.rules.Refused.{Refused}
use Rattle.engine_trait.specs.Accounts.{Account, is_kept, looked_up, rule_kept}
use Rattle.rule_cache.specs.Named.{IsKeyBelow, key_by}
use Rattle.rule_cache.specs.Stores.{Store, counted_as, lookup_of, looked_for, store_with}
use Rattle.rule_cache.specs.declared.key.Key.{Key}
use Rattle.tag_intern.specs.Table.{Extends, HasNoRepeats, TableState}
use Rattle.tag_intern.specs.Words.{tag_at}
use Rattle.tag_intern.proofs.TableLemmas.{extends_same}
use Rattle.miss_handler.specs.Answered.{IsAnswered}
use Rattle.miss_handler.specs.Asked.{AreInWords, AreOutWords, AreRules, answer_on, outs_on, tag_key, word_key}
use Rattle.miss_handler.specs.Books.{IgnoresMasked, Rulebook}
use Rattle.miss_handler.specs.Told.{Tells}
use Rattle.miss_handler.proofs.AccountLemmas.{found_alike, look_tells}
use Rattle.miss_handler.proofs.HitLemmas.{hit_rule, hit_rules, hit_tells}
use Rattle.miss_handler.proofs.MaskLemmas.{answer_masked, key_read, masked_words}
use Rattle.miss_handler.proofs.MissLemmas.{grows, keeping_tells, kept_rules}
use Rattle.miss_handler.proofs.RuleLemmas.{outs_read, tag_at_word}

module _ {T : Type 0} (eq : T → T → Bool) (book : Rulebook T) (table : TableState T) (store : Store) (group : Group) (words : Ins ℕ) (key : Key) where
  -- what is known where the rule of a group is asked at these words, which are looked up by this key
  pub record IsAsked : Type 0 where
    pub laws : IsEquivalence eq
    pub exact : TellsApart eq
    pub law : IgnoresMasked book
    pub key_is : key ≡ word_key book group words
    pub distinct : HasNoRepeats table.tags
    pub plain_word : slice_get table.tags 0 ≡ Some book.plain
    pub in_words : AreInWords (length table.tags) words
    pub rules : AreRules book table.tags store.sets

  module _ (asked : IsAsked) where
    -- word 0 stands for the plain tag
    plain_is : tag_at book.plain table.tags 0 ≡ book.plain
    plain_is = tag_at_word book.plain table.tags 0 book.plain asked.plain_word

    key_words : AreInWords (length table.tags) key.words
    key_words =
        subst (λ (k : Key). AreInWords (length table.tags) k.words) (sym asked.key_is)
        (masked_words book table.tags plain_is group words (slice_get_within table.tags 0 book.plain asked.plain_word) asked.in_words)

    key_below : IsKeyBelow (length table.tags) key
    key_below =
        let below = key_words in record { pc = below.pc; ci = below.ci; t1 = below.t1; t2 = below.t2; tm = below.tm }

    -- the key stands for that in tags
    key_told : key_by (tag_at book.plain table.tags) key ≡ tag_key book table.tags group words
    key_told = ap (key_by (tag_at book.plain table.tags)) asked.key_is ∙ key_read book table.tags plain_is group words

    -- the answer is that at the key
    pub answer_is : answer_on book table.tags group words ≡ answer_on book table.tags key.group key.words
    answer_is =
        answer_masked book table.tags plain_is group words asked.law
        ∙ ap (λ (k : Key). answer_on book table.tags k.group k.words) (sym asked.key_is)

    module _ (account : Account T) (tells : Tells book.plain table store account) where
      -- the account finds as the store does
      pub told : is_kept eq (tag_key book table.tags group words) account ≡ is_some (lookup_of (word_key book group words) store)
      told =
          ap (λ k. is_kept eq k account) (sym key_told)
          ∙ found_alike eq asked.laws asked.exact book table store key asked.distinct key_below asked.rules account tells
          ∙ ap (λ k. is_some (lookup_of k store)) asked.key_is

      -- the look-up is counted
      pub looked_tells : (next : Store) → next ≡ looked_for key store
          → Tells book.plain table next (looked_up eq (tag_key book table.tags group words) account)
      looked_tells next is =
          subst (λ s. Tells book.plain table s (looked_up eq (tag_key book table.tags group words) account)) (sym is)
          (subst (λ k. Tells book.plain table (looked_for key store) (looked_up eq k account)) key_told
          (look_tells eq asked.laws asked.exact book table store key asked.distinct key_below asked.rules account tells))

    -- ---- the rule is found

    module _ (outs : Outs ℕ) (is : lookup_of key store ≡ Some outs) where
      pub hit_answer : answer_on book table.tags group words ≡ Ok (outs_on book table.tags outs)
      hit_answer = answer_is ∙ (hit_rule book table.tags store key asked.rules outs is).answer

      pub hit_words : AreOutWords (length table.tags) outs
      hit_words = (hit_rule book table.tags store key asked.rules outs is).outs

      module _ (next : Store) (next_is : next ≡ looked_for key store) where
        pub hit_kept : (account : Account T) → Tells book.plain table store account
            → Tells book.plain table next (rule_kept eq {E = Refused} (tag_key book table.tags group words) (answer_on book table.tags group words)
            (looked_up eq (tag_key book table.tags group words) account))
        hit_kept account tells =
            subst (λ answer. Tells book.plain table next (rule_kept eq {E = Refused} (tag_key book table.tags group words) answer
            (looked_up eq (tag_key book table.tags group words) account))) (sym hit_answer)
            (subst (λ s. Tells book.plain table s (rule_kept eq {E = Refused} (tag_key book table.tags group words) (Ok (outs_on book table.tags outs))
            (looked_up eq (tag_key book table.tags group words) account))) (sym next_is)
            (subst (λ k. Tells book.plain table (looked_for key store) (rule_kept eq {E = Refused} k (Ok (outs_on book table.tags outs)) (looked_up eq k account))) key_told
            (hit_tells eq asked.laws asked.exact book table store key asked.distinct key_below asked.rules account tells outs is)))

        pub hit_still : AreRules book table.tags next.sets
        hit_still =
            subst (λ (s : Store). AreRules book table.tags s.sets) (sym next_is) (hit_rules book table.tags store key asked.rules outs is)

    -- ---- the rule is asked

    pub miss_answer : (new : TableState T) (outs : Outs ℕ) → IsAnswered eq book table new key outs
        → answer_on book table.tags group words ≡ Ok (outs_on book new.tags outs)
    miss_answer new outs is = answer_is ∙ is.allowed ∙ ap Ok (sym (outs_read book.plain new.tags is.outs outs is.are))

    pub extends_by : {E : Type 0} (new : TableState T) (end : Result (Outs ℕ) E) → IfOk end (IsAnswered eq book table new key) → OnErr end (new ≡ table)
        → Extends table.tags new.tags
    extends_by new (Ok outs) is same = grows eq asked.laws book table new key outs is
    extends_by new (Err why) is same = subst (λ (t : TableState T). Extends table.tags t.tags) (sym same) (extends_same table.tags)

    module _ (before next : Store) (before_rules : AreRules book table.tags before.sets) (new : TableState T) where
      module _ (outs : Outs ℕ) (is : IsAnswered eq book table new key outs) (next_is : next ≡ store_with key outs before) where
        -- it is kept, and its outputs have words
        answered_tells : (account : Account T) → Tells book.plain table before account
            → Tells book.plain new next (rule_kept eq {E = Refused} (tag_key book table.tags group words) (answer_on book table.tags group words) account)
        answered_tells account tells =
            subst (λ answer. Tells book.plain new next (rule_kept eq {E = Refused} (tag_key book table.tags group words) answer account))
            (sym (answer_is ∙ is.allowed))
            (subst (λ s. Tells book.plain new s (rule_kept eq {E = Refused} (tag_key book table.tags group words) (Ok is.outs) account)) (sym next_is)
            (subst (λ k. Tells book.plain new (store_with key outs before) (rule_kept eq {E = Refused} k (Ok is.outs) account)) key_told
            (keeping_tells eq asked.laws book table new key outs is asked.exact before asked.distinct key_below before_rules account tells)))

        answered_still : AreRules book new.tags next.sets
        answered_still =
            subst (λ (s : Store). AreRules book new.tags s.sets) (sym next_is)
            (kept_rules eq asked.laws book table new key outs is before key_words before_rules)

      -- ---- by how the question ends

      module _ {E : Type 0} where
        pub kept_anew : (end : Result (Outs ℕ) E) → IfOk end (IsAnswered eq book table new key) → IfOk end (λ outs. next ≡ store_with key outs before)
            → OnOk end ((account : Account T) → Tells book.plain table before account
            → Tells book.plain new next (rule_kept eq {E = Refused} (tag_key book table.tags group words) (answer_on book table.tags group words) account))
        kept_anew (Ok outs) is next_is = answered_tells outs is next_is
        kept_anew (Err why) is next_is = tt

        pub still_anew : (end : Result (Outs ℕ) E) → IfOk end (IsAnswered eq book table new key) → IfOk end (λ outs. next ≡ store_with key outs before)
            → OnErr end (new ≡ table) → OnErr end (next ≡ before) → AreRules book new.tags next.sets
        still_anew (Ok outs) is next_is same unkept = answered_still outs is next_is
        still_anew (Err why) is next_is same unkept =
            subst (λ (t : TableState T). AreRules book t.tags next.sets) (sym same)
            (subst (λ (s : Store). AreRules book table.tags s.sets) (sym unkept) before_rules)

    -- ---- the rule is not found, and asked

    module _ (none : lookup_of key store ≡ None) (middle next : Store) (middle_is : middle ≡ looked_for key store) (new : TableState T) where
      -- the look-up changes no rule
      middle_rules : AreRules book table.tags middle.sets
      middle_rules =
          subst (AreRules book table.tags) (sym (ap (λ (s : Store). s.sets) middle_is ∙ ap (λ at. (counted_as key at store).sets) none)) asked.rules

      module _ {E : Type 0} where
        pub kept_by : (end : Result (Outs ℕ) E) → IfOk end (IsAnswered eq book table new key) → IfOk end (λ outs. next ≡ store_with key outs middle)
            → OnOk end ((account : Account T) → Tells book.plain table store account
            → Tells book.plain new next (rule_kept eq {E = Refused} (tag_key book table.tags group words) (answer_on book table.tags group words)
            (looked_up eq (tag_key book table.tags group words) account)))
        kept_by end is next_is =
            on_ok_weaker end (λ kept account tells. kept (looked_up eq (tag_key book table.tags group words) account) (looked_tells account tells middle middle_is))
            (kept_anew middle next middle_rules new end is next_is)

        pub unkept_by : (end : Result (Outs ℕ) E) → OnErr end (new ≡ table) → OnErr end (next ≡ middle)
            → OnErr end ((account : Account T) → Tells book.plain table store account
            → Tells book.plain new next (looked_up eq (tag_key book table.tags group words) account))
        unkept_by (Ok outs) same unkept = tt
        unkept_by (Err why) same unkept = λ account tells.
            subst (λ t. Tells book.plain t next (looked_up eq (tag_key book table.tags group words) account)) (sym same)
            (looked_tells account tells next (unkept ∙ middle_is))

        pub still_by : (end : Result (Outs ℕ) E) → IfOk end (IsAnswered eq book table new key) → IfOk end (λ outs. next ≡ store_with key outs middle)
            → OnErr end (new ≡ table) → OnErr end (next ≡ middle) → AreRules book new.tags next.sets
        still_by = still_anew middle next middle_rules new
