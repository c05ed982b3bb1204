-- Masked words stand for masked tags, where word 0 is that of the plain tag.
use Rattle.std.proofs.Common.{◌≡◌, ℕ, ◌<◌, Bool, true, false, cond, List, length, refl, ap, sym, ◌∙◌}
use Rattle.rv_decode.specs.declared.groups.Group.{Group}
use Rattle.policy_trait.specs.Model.{masked_inputs}
use Rattle.policy_trait.specs.declared.rules.Ins.{Ins}
use Rattle.policy_trait.specs.declared.rules.Mask.{Mask}
use Rattle.rule_cache.specs.Named.{key_by}
use Rattle.tag_intern.specs.Words.{tag_at}
use Rattle.miss_handler.specs.Asked.{AreInWords, answer_on, ins_on, tag_key, word_key}
use Rattle.miss_handler.specs.Books.{IgnoresMasked, Rulebook}

-- masked words are below what words and word 0 are below
masked_below : (n : ℕ) → 0 < n → (ignored : Bool) (word : ℕ) → word < n → cond ignored 0 word < n
masked_below n some true word below = some
masked_below n some false word below = below

module _ {T : Type 0} (book : Rulebook T) (tags : List T) (plain_word : tag_at book.plain tags 0 ≡ book.plain) where
  tag_masked : (ignored : Bool) (word : ℕ) → tag_at book.plain tags (cond ignored 0 word) ≡ cond ignored book.plain (tag_at book.plain tags word)
  tag_masked true word = plain_word
  tag_masked false word = refl

  ins_masked : (mask : Mask) (words : Ins ℕ) → ins_on book tags (masked_inputs mask 0 words) ≡ masked_inputs mask book.plain (ins_on book tags words)
  ins_masked mask words = λ j. record {
    pc = tag_masked mask.pc words.pc j;
    ci = tag_masked mask.ci words.ci j;
    t1 = tag_masked mask.t1 words.t1 j;
    t2 = tag_masked mask.t2 words.t2 j;
    tm = tag_masked mask.tm words.tm j;
  }

  module _ (group : Group) (words : Ins ℕ) where
    -- the key in words stands for that in tags
    pub key_read : key_by (tag_at book.plain tags) (word_key book group words) ≡ tag_key book tags group words
    key_read = λ j. record { group = group; inputs = ins_masked (book.ignores group) words j }

    -- the rule of the key is that of the words
    pub answer_masked : IgnoresMasked book → answer_on book tags group words ≡ answer_on book tags group (word_key book group words).words
    answer_masked law = law group (ins_on book tags words) ∙ ap (book.rule group) (sym (ins_masked (book.ignores group) words))

    pub masked_words : 0 < length tags → AreInWords (length tags) words → AreInWords (length tags) (word_key book group words).words
    masked_words some below =
        let mask = book.ignores group in
        record {
          pc = masked_below (length tags) some mask.pc words.pc below.pc;
          ci = masked_below (length tags) some mask.ci words.ci below.ci;
          t1 = masked_below (length tags) some mask.t1 words.t1 below.t1;
          t2 = masked_below (length tags) some mask.t2 words.t2 below.t2;
          tm = masked_below (length tags) some mask.tm words.tm below.tm;
        }
