-- Kept rules as the table of tags grows, and as rules come and are found.
use Rattle.std.proofs.Common.{◌≡◌, ℕ, zero, suc, ◌<◌, Bool, true, false, not, cond, List, [], ◌∷◌, filter, length, map, slice_get, take, Some, Ok, refl, sym, ap, subst, ◌∙◌, arith}
use Rattle.std.specs.List.{AllByRecursion}
use Rattle.std.specs.Map.{keys_of, lookup}
use Rattle.std.proofs.lemmas.Option.{get_or_from_slice_get, slice_get-get_or, slice_get_within}
use Rattle.policy_trait.specs.declared.rules.Ins.{Ins}
use Rattle.policy_trait.specs.declared.rules.Outs.{Outs}
use Rattle.engine_trait.specs.Accounts.{set_of}
use Rattle.rule_cache.specs.Keys.{key_eq}
use Rattle.rule_cache.specs.Named.{IsKeyBelow, key_by, keys_by}
use Rattle.rule_cache.specs.Stores.{Rules, Store, set_rules, store_with, with_rule, without}
use Rattle.rule_cache.specs.declared.key.Key.{Key}
use Rattle.rule_cache.proofs.KeyLemmas.{key_told}
use Rattle.rule_cache.proofs.StoreLemmas.{all_at, all_set}
use Rattle.tag_intern.specs.Table.{Extends}
use Rattle.tag_intern.specs.Words.{tag_at}
use Rattle.tag_intern.proofs.TableLemmas.{longer, same_words}
use Rattle.miss_handler.specs.Answered.{AreWordsOf}
use Rattle.miss_handler.specs.Asked.{AreInWords, AreOutWords, AreRules, AreSetRules, IsRule, ins_on, outs_on}
use Rattle.miss_handler.specs.Books.{Rulebook}

-- ---- what words stand for as the table grows

module _ {T : Type 0} (plain : T) where
  -- a word of a tag stands for it
  pub tag_at_word : (tags : List T) (word : ℕ) (tag : T) → slice_get tags word ≡ Some tag → tag_at plain tags word ≡ tag
  tag_at_word tags word tag there = get_or_from_slice_get tags word tag plain there

  -- an old word keeps its tag
  pub tag_at_grown : (old new : List T) → Extends old new → (word : ℕ) → word < length old → tag_at plain new word ≡ tag_at plain old word
  tag_at_grown old new grows word below =
      tag_at_word new word (tag_at plain old word) (same_words old new grows word below ∙ slice_get-get_or old word plain below)

  -- so do keys of old words
  pub key_grown : (old new : List T) → Extends old new → (key : Key) → IsKeyBelow (length old) key
      → key_by (tag_at plain new) key ≡ key_by (tag_at plain old) key
  key_grown old new grows key below = λ j. record {
    group = key.group;
    inputs = record {
      pc = tag_at_grown old new grows key.words.pc below.pc j;
      ci = tag_at_grown old new grows key.words.ci below.ci j;
      t1 = tag_at_grown old new grows key.words.t1 below.t1 j;
      t2 = tag_at_grown old new grows key.words.t2 below.t2 j;
      tm = tag_at_grown old new grows key.words.tm below.tm j;
    };
  }

  keys_grown : (old new : List T) → Extends old new → (keys : List Key) → AllByRecursion (IsKeyBelow (length old)) keys
      → map (key_by (tag_at plain new)) keys ≡ map (key_by (tag_at plain old)) keys
  keys_grown old new grows [] below = refl
  keys_grown old new grows (key ∷ keys) below =
      λ j. key_grown old new grows key below.0 j ∷ keys_grown old new grows keys below.1 j

  -- so do those of all sets
  pub sets_grown : (old new : List T) → Extends old new → (sets : List Rules) → AllByRecursion (λ kept. AllByRecursion (IsKeyBelow (length old)) (keys_of kept)) sets
      → map (keys_by (tag_at plain new)) sets ≡ map (keys_by (tag_at plain old)) sets
  sets_grown old new grows [] below = refl
  sets_grown old new grows (kept ∷ sets) below =
      λ j. keys_grown old new grows (keys_of kept) below.0 j ∷ sets_grown old new grows sets below.1 j

  -- words of outputs stand for them
  pub outs_read : (tags : List T) (outs : Outs T) (words : Outs ℕ) → AreWordsOf tags outs words
      → record { pc = tag_at plain tags words.pc; result = tag_at plain tags words.result } ≡ outs
  outs_read tags outs words are =
      λ j. record { pc = tag_at_word tags words.pc outs.pc are.pc j; result = tag_at_word tags words.result outs.result are.result j }

pub outs_below : {T : Type 0} (tags : List T) (outs : Outs T) (words : Outs ℕ) → AreWordsOf tags outs words → AreOutWords (length tags) words
outs_below tags outs words are = record {
  pc = slice_get_within tags words.pc outs.pc are.pc;
  result = slice_get_within tags words.result outs.result are.result;
}

-- ---- kept rules as the table grows

module _ {T : Type 0} (book : Rulebook T) (old new : List T) (grows : Extends old new) where
  below_grown : (word : ℕ) → word < length old → word < length new
  below_grown word below = let more = longer old new grows in omega (arith, more, below)

  -- old words stand for what they stood for
  pub ins_grown : (words : Ins ℕ) → AreInWords (length old) words → ins_on book new words ≡ ins_on book old words
  ins_grown words below = λ j. record {
    pc = tag_at_grown book.plain old new grows words.pc below.pc j;
    ci = tag_at_grown book.plain old new grows words.ci below.ci j;
    t1 = tag_at_grown book.plain old new grows words.t1 below.t1 j;
    t2 = tag_at_grown book.plain old new grows words.t2 below.t2 j;
    tm = tag_at_grown book.plain old new grows words.tm below.tm j;
  }

  outs_grown : (words : Outs ℕ) → AreOutWords (length old) words → outs_on book new words ≡ outs_on book old words
  outs_grown words below = λ j. record {
    pc = tag_at_grown book.plain old new grows words.pc below.pc j;
    result = tag_at_grown book.plain old new grows words.result below.result j;
  }

  pub in_words_grown : (words : Ins ℕ) → AreInWords (length old) words → AreInWords (length new) words
  in_words_grown words below = record {
    pc = below_grown words.pc below.pc;
    ci = below_grown words.ci below.ci;
    t1 = below_grown words.t1 below.t1;
    t2 = below_grown words.t2 below.t2;
    tm = below_grown words.tm below.tm;
  }

  rule_grown : (rule : Key × Outs ℕ) → IsRule book old rule → IsRule book new rule
  rule_grown rule is = record {
    ins = in_words_grown rule.0.words is.ins;
    outs = record { pc = below_grown rule.1.pc is.outs.pc; result = below_grown rule.1.result is.outs.result };
    answer = ap (book.rule rule.0.group) (ins_grown rule.0.words is.ins) ∙ is.answer ∙ ap Ok (sym (outs_grown rule.1 is.outs));
  }

  set_grown : (kept : Rules) → AreSetRules book old kept → AreSetRules book new kept
  set_grown [] are = tt
  set_grown (rule ∷ kept) are = (rule_grown rule are.0, set_grown kept are.1)

  -- each kept rule is still the policy's answer
  pub rules_grown : (sets : List Rules) → AreRules book old sets → AreRules book new sets
  rules_grown [] are = tt
  rules_grown (kept ∷ sets) are = (set_grown kept are.0, rules_grown sets are.1)

-- ---- rules come and are found

module _ {X : Type 0} (P : X → Type 0) where
  all_take : (n : ℕ) (xs : List X) → AllByRecursion P xs → AllByRecursion P (take n xs)
  all_take zero xs all = tt
  all_take (suc n) [] all = all
  all_take (suc n) (x ∷ xs) all = (all.0, all_take n xs all.1)

  all_filter : (p : X → Bool) (xs : List X) → AllByRecursion P xs → AllByRecursion P (filter p xs)
  all_filter p [] all = all
  all_filter p (x ∷ xs) all = elim (p x) as (λ passes. AllByRecursion P (cond passes (x ∷ filter p xs) (filter p xs))) [
    | true ↦ (all.0, all_filter p xs all.1)
    | false ↦ all_filter p xs all.1
  ]

module _ {T : Type 0} (book : Rulebook T) (tags : List T) (key : Key) where
  -- a rule that comes to rules
  set_with : (ways : ℕ) (words : Outs ℕ) (kept : Rules) → IsRule book tags (key, words) → AreSetRules book tags kept
      → AreSetRules book tags (with_rule ways key words kept)
  set_with ways words kept is are =
      all_take (IsRule book tags) ways ((key, words) ∷ without key kept)
      (is, all_filter (IsRule book tags) (λ rule. not (key_eq key rule.0)) kept are)

  -- the rules of the set that the key belongs to
  pub set_are : (store : Store) → AreRules book tags store.sets → AreSetRules book tags (set_rules key store)
  set_are store are = all_at (AreSetRules book tags) store.sets [] (set_of key.group (length store.sets)) are tt

  pub rules_with : (words : Outs ℕ) (store : Store) → IsRule book tags (key, words) → AreRules book tags store.sets → AreRules book tags (store_with key words store).sets
  rules_with words store is are =
      all_set (AreSetRules book tags) store.sets (set_of key.group (length store.sets)) (with_rule store.ways key words (set_rules key store)) are
      (set_with store.ways words (set_rules key store) is (set_are store are))

  -- what is found is a rule of the key
  pub rule_found : (kept : Rules) (words : Outs ℕ) → lookup (key_eq key) kept ≡ Some words → AreSetRules book tags kept
      → IsRule book tags (key, words)
  rule_found [] words found are = absurd cc
  rule_found (rule ∷ kept) words found are = (elim (key_eq key rule.0) as (λ same. key_eq key rule.0 ≡ same
      → cond same (Some rule.1) (lookup (key_eq key) kept) ≡ Some words → IsRule book tags (key, words)) [
        | true ↦ λ same here. first (key_told key rule.0 same) cc
        | false ↦ λ other later. rule_found kept words later are.1
      ]) refl found
    where
      first : key ≡ rule.0 → rule.1 ≡ words → IsRule book tags (key, words)
      first same here = subst (IsRule book tags) (λ j. (sym same j, here j)) are.0

-- the words of rules are those of tags
pub keys_below : {T : Type 0} (book : Rulebook T) (tags : List T) (kept : Rules) → AreSetRules book tags kept
    → AllByRecursion (IsKeyBelow (length tags)) (keys_of kept)
keys_below book tags [] are = tt
keys_below book tags (rule ∷ kept) are =
    (record { pc = are.0.ins.pc; ci = are.0.ins.ci; t1 = are.0.ins.t1; t2 = are.0.ins.t2; tm = are.0.ins.tm }, keys_below book tags kept are.1)

pub sets_below : {T : Type 0} (book : Rulebook T) (tags : List T) (sets : List Rules) → AreRules book tags sets
    → AllByRecursion (λ kept. AllByRecursion (IsKeyBelow (length tags)) (keys_of kept)) sets
sets_below book tags [] are = tt
sets_below book tags (kept ∷ sets) are = (keys_below book tags kept are.0, sets_below book tags sets are.1)
