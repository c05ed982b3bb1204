-- Sealing on a run: each unsealing used its key.
use Rattle.std.specs.Prelude.{◌≡◌, ℕ, List, length, Some}
use Rattle.std.specs.List.{Contains}
use Rattle.engine_trait.specs.Events.{Event}
use Rattle.part_turns.specs.Moments.{Moment, Service, service_of}
use Rattle.sealing_policy.specs.Sealing.{make_key_service, unseal_service}
use Rattle.sealing_policy.specs.declared.tag.SealTag.{SealTag}
use Rattle.sealing_policy.specs.declared.tag.SealTag.TheVariants.{Key, Sealed}
use Rattle.seal_runs.specs.KeyBook.{KeyBook, answer_value, key_book}

-- An unsealing by its key: a0 was sealed by that key, a1 is that key and has its number as its value, the key was made
-- before, and it once sealed the value of a0.
pub record UsesKey (book : KeyBook) (x : Service SealTag) : Type 0 where
  pub key : ℕ
  pub sealed : x.arguments.t0 ≡ Sealed key
  pub held : x.arguments.t1 ≡ Key key
  pub value : x.arguments.a1 ≡ key
  pub made : Contains book.made key
  pub paired : Contains book.pairs (key, x.arguments.a0)

-- what a turn does, in the book as it stands before it: keys are 0, 1, 2 and so on, and an unsealing uses its key
pub record SealTurn (book : KeyBook) (event : Event SealTag) : Type 0 where
  pub makes : (x : Service SealTag) → service_of event ≡ Some x → x.number ≡ make_key_service → answer_value x.answer ≡ Some (length book.made)
  pub unseals : (x : Service SealTag) → service_of event ≡ Some x → x.number ≡ unseal_service → UsesKey book x

abbrev pub SealSafe : List (Event SealTag) → Type 0
SealSafe events = (x : Moment events) → SealTurn (key_book x.before) x.event
