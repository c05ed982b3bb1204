-- What a source in memory has left after a read.
use Rattle.std.proofs.Common.{◌≡◌, ℕ, ◌+◌, ◌-◌, ◌<◌, min, nat_eq, Bool, true, false, List, [], ◌++◌, length, take, drop, if◌then◌else◌, refl, sym, arith, append-nil}
use Rattle.std.proofs.Math.Seq.{take-nil, take-length}
use Rattle.std.proofs.lemmas.Bool.{eqb-true}
use Rattle.std.proofs.lemmas.List.{drop-drop, take-append-drop, length-drop, nil_from_length}
use Rattle.host_io.specs.Supply.{Open, Closed, left_in}

-- The slice from a place on, as a slice expression computes it, is the list without what stands
-- before.
pub slice_to_end : (items : List ℕ) (next : ℕ) →
    take (length items - next) (drop next items) ≡ drop next items
slice_to_end items next = rw (← length-drop next items) (take-length (drop next items))

-- The bytes left are those that a read moves out, and then those that it leaves, which are none at
-- the end.
moved_then_left : (closed : Bool) (count : ℕ) (left : List ℕ) → (closed ≡ true → left ≡ []) →
    left ≡ take count left ++ left_in (if closed then Closed else Open (drop count left))
moved_then_left true count left ended = search (ended refl, append-nil, take-nil)
moved_then_left false count left ended = sym (take-append-drop count left)

-- The same of the bytes past `next`, for a read that fills `count` places of a buffer with room.
pub read_moves : (items : List ℕ) (next count : ℕ) (old new : List ℕ) → 0 < length old →
    count ≡ min (length old) (length (drop next items)) →
    take count new ≡ take count (drop next items) →
    drop next items ≡
    take count new ++ left_in (if nat_eq count 0 then Closed else Open (drop (next + count) items))
read_moves items next count old new room counted copied =
    let ended : nat_eq count 0 ≡ true → drop next items ≡ [] = λ none.
    let zero : count ≡ 0 = eqb-true _ _ none in
    nil_from_length _ (omega arith)
    in
    rw (copied, ← drop-drop count next items)
    (moved_then_left (nat_eq count 0) count (drop next items) ended)
