-- The key book of a run: the keys that were made, and what was sealed by which.
use Rattle.std.specs.Prelude.{ℕ, ◌==◌, List, [], ◌∷◌, ◌++◌, Option, Some, None, option_map, if◌then◌else◌}
use Rattle.std.specs.List.{fold}
use Rattle.policy_trait.specs.declared.services.Answer.{Answer}
use Rattle.engine_trait.specs.Events.{Event}
use Rattle.sealing_policy.specs.Sealing.{make_key_service, seal_service}
use Rattle.part_turns.specs.Moments.{Service, service_of}

-- the numbers of the keys that were made, and for each seal the value of its key and the value that it sealed, in their order
pub record KeyBook : Type 0 where
  pub made : List ℕ
  pub pairs : List (ℕ × ℕ)

abbrev pub no_keys : KeyBook
no_keys = record { made = []; pairs = [] }

-- the value of a service's answer
abbrev pub answer_value : {T : Type 0} → Option (Answer T) → Option ℕ
answer_value answer = option_map (λ a. a.value) answer

abbrev pub with_key : KeyBook → Option ℕ → KeyBook
with_key book None = book
with_key book (Some key) = record book { made = book.made ++ key ∷ [] }

abbrev pub with_pair : KeyBook → ℕ → ℕ → KeyBook
with_pair book key value = record book { pairs = book.pairs ++ (key, value) ∷ [] }

module _ {T : Type 0} where
  -- a key that is made is written down, and of a sealing the key in a1 and the value in a0
  abbrev pub keys_by : KeyBook → Option (Service T) → KeyBook
  keys_by book None = book
  keys_by book (Some x) =
      if x.number == make_key_service then with_key book (answer_value x.answer) else
      if x.number == seal_service then with_pair book x.arguments.a1 x.arguments.a0 else
      book

  abbrev pub keys_after : KeyBook → Event T → KeyBook
  keys_after book event = keys_by book (service_of event)

  unfoldable pub key_book : List (Event T) → KeyBook
  key_book events = fold keys_after no_keys events
