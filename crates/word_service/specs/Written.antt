-- What is written in words that tags have.
use Rattle.std.specs.Prelude.{◌≡◌, ℕ, ◌<◌, List, map, Option, Some, None, option_map, slice_get}
use Rattle.policy_trait.specs.Maps.{answer_by}
use Rattle.policy_trait.specs.declared.services.Answer.{Answer}
use Rattle.engine_trait.specs.Maps.{words_by}

abbrev pub IsWordBelow : ℕ → ℕ × ℕ × ℕ → Type 0
IsWordBelow count word = word.2 < count

abbrev pub IsAnswerBelow : ℕ → Option (Answer ℕ) → Type 0
IsAnswerBelow count None = Unit {0}
IsAnswerBelow count (Some answer) = answer.tag < count

module _ {T : Type 0} where
  -- the tags of a range's words, in their order
  abbrev pub tags_of : List (ℕ × ℕ × T) → List T
  tags_of words = map (λ word. word.2) words

  -- each word of what is written is the word of the tag that stands there
  abbrev pub StandFor : List T → List (ℕ × ℕ × ℕ) → List (ℕ × ℕ × T) → Type 0
  StandFor tags written words = words_by (slice_get tags) written ≡ words_by Some words

  abbrev pub AnswerStandsFor : List T → Option (Answer ℕ) → Option (Answer T) → Type 0
  AnswerStandsFor tags written answer = option_map (answer_by (slice_get tags)) written ≡ option_map (answer_by Some) answer
