-- What is asked of the rules where tags are words: the key that is looked up, and the answer of the rule.
use Rattle.std.specs.Prelude.{◌≡◌, ℕ, ◌<◌, List, Result, Ok, length}
use Rattle.std.specs.List.{AllByRecursion}
use Rattle.rv_decode.specs.declared.groups.Group.{Group}
use Rattle.policy_trait.specs.Maps.{ins_by, outs_by}
use Rattle.policy_trait.specs.Model.{masked_inputs}
use Rattle.policy_trait.specs.declared.rules.Ins.{Ins}
use Rattle.policy_trait.specs.declared.rules.Outs.{Outs}
use Rattle.policy_trait.specs.declared.rules.Refused.{Refused}
use Rattle.engine_trait.specs.Accounts as accounts
use Rattle.rule_cache.specs.Stores.{Rules}
use Rattle.rule_cache.specs.declared.key.Key.{Key}
use Rattle.tag_intern.specs.Words.{tag_at}
use Rattle.miss_handler.specs.Books.{Rulebook}

-- words of tags that the table has
pub record AreInWords (count : ℕ) (words : Ins ℕ) : Type 0 where
  pub pc : words.pc < count
  pub ci : words.ci < count
  pub t1 : words.t1 < count
  pub t2 : words.t2 < count
  pub tm : words.tm < count

pub record AreOutWords (count : ℕ) (words : Outs ℕ) : Type 0 where
  pub pc : words.pc < count
  pub result : words.result < count

module _ {T : Type 0} (book : Rulebook T) where
  -- the key in words: an ignored input has the word of the plain tag
  abbrev pub word_key : Group → Ins ℕ → Key
  word_key group words = record { group = group; words = masked_inputs (book.ignores group) 0 words }

  module _ (tags : List T) where
    -- the tags that the words stand for
    abbrev pub ins_on : Ins ℕ → Ins T
    ins_on words = ins_by (tag_at book.plain tags) words

    abbrev pub outs_on : Outs ℕ → Outs T
    outs_on words = outs_by (tag_at book.plain tags) words

    -- the key in tags: an ignored input is plain
    abbrev pub tag_key : Group → Ins ℕ → accounts.Key T
    tag_key group words = record { group = group; inputs = masked_inputs (book.ignores group) book.plain (ins_on words) }

    abbrev pub answer_on : Group → Ins ℕ → Result (Outs T) Refused
    answer_on group words = book.rule group (ins_on words)

    -- a kept rule is the answer of the policy's rule for its key, and all its words are those of tags
    pub record IsRule (rule : Key × Outs ℕ) : Type 0 where
      pub ins : AreInWords (length tags) rule.0.words
      pub outs : AreOutWords (length tags) rule.1
      pub answer : answer_on rule.0.group rule.0.words ≡ Ok (outs_on rule.1)

    -- so is each of a set
    abbrev pub AreSetRules : Rules → Type 0
    AreSetRules kept = AllByRecursion IsRule kept

    -- and of all sets
    abbrev pub AreRules : List Rules → Type 0
    AreRules sets = AllByRecursion AreSetRules sets
