-- The feed's last byte is put back by counting its place down.
use Rattle.std.proofs.Common.{◌≡◌, ℕ, ◌-◌, ◌≤◌, List, ◌++◌, length, take, drop, sym, ap, ◌∙◌, arith, length-take-le, take-append-drop, take-take}
use Rattle.std.proofs.lemmas.List.{drop-append-le}
use Rattle.turn_steps.specs.Feeds.{Tape, byte_unread}

-- the bytes before a place, as read, and those from it on, as left
abbrev pub tape_at : List ℕ → ℕ → Tape
tape_at bytes place = record { read = take place bytes; left = drop place bytes }

module _ (bytes : List ℕ) (place : ℕ) (within : place ≤ length bytes) where
  before_place : length (take place bytes) - 1 ≡ place - 1
  before_place = ap (λ n. n - 1) (length-take-le place bytes within)

  read_again : take (length (take place bytes) - 1) (take place bytes) ≡ take (place - 1) bytes
  read_again = ap (λ n. take n (take place bytes)) before_place ∙ take-take (place - 1) place bytes (omega arith)

  left_again : drop (length (take place bytes) - 1) (take place bytes) ++ drop place bytes ≡ drop (place - 1) bytes
  left_again =
      let long = length-take-le place bytes within in
      ap (λ n. drop n (take place bytes) ++ drop place bytes) before_place
      ∙ sym (drop-append-le (place - 1) (take place bytes) (drop place bytes) (omega arith))
      ∙ ap (drop (place - 1)) (take-append-drop place bytes)

  pub unread_at : tape_at bytes (place - 1) ≡ byte_unread (tape_at bytes place)
  unread_at = λ i. record { read = sym read_again i; left = sym left_again i }
