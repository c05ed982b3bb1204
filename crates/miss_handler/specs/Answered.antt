-- What an allowed rule that is asked leaves of the table of tags.
use Rattle.std.specs.Prelude.{◌≡◌, ℕ, Bool, List, [], ◌∷◌, Some, Ok, slice_get}
use Rattle.policy_trait.specs.declared.rules.Outs.{Outs}
use Rattle.engine_trait.specs.Accounts.{with_tags}
use Rattle.rule_cache.specs.declared.key.Key.{Key}
use Rattle.tag_intern.specs.Table.{TableState}
use Rattle.miss_handler.specs.Asked.{answer_on}
use Rattle.miss_handler.specs.Books.{Rulebook}

-- the words are those of the outputs
pub record AreWordsOf {T : Type 0} (tags : List T) (outs : Outs T) (words : Outs ℕ) : Type 0 where
  pub pc : slice_get tags words.pc ≡ Some outs.pc
  pub result : slice_get tags words.result ≡ Some outs.result

module _ {T : Type 0} (eq : T → T → Bool) where
  -- the tags with those of the outputs, that of the pc first
  abbrev pub with_outs : List T → Outs T → List T
  with_outs tags outs = with_tags eq tags (outs.pc ∷ outs.result ∷ [])

  -- the rule of the key allows, its outputs have words from now on, and these are the words
  pub record IsAnswered (book : Rulebook T) (old new : TableState T) (key : Key) (words : Outs ℕ) : Type 0 where
    pub outs : Outs T
    pub allowed : answer_on book old.tags key.group key.words ≡ Ok outs
    pub grown : new ≡ record old { tags = with_outs old.tags outs }
    pub are : AreWordsOf new.tags outs words
