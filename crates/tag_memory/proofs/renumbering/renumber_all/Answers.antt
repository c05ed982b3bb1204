use Rattle.std.proofs.Common.{◌≡◌, ◌∙◌, ℕ, ◌<◌, ◌≤◌, ◌++◌, List, ap, arith, drop, length, map, slice_index, slice_set, take}
use Rattle.std.proofs.lemmas.List.{append-nil, drop_all, get_or_default, take_all}
use Rattle.std.proofs.lemmas.List.Edits.{map_over_more}
use Rattle.tag_memory.proofs.renumbering.renumber_all.Goals as goal

pub loop-number-preserved : goal.loop-number-preserved
loop-number-preserved c =
    let now = c.loop-number.number-items in
    let index = c.loop-number.number-index in
    let number = slice_index now index in
    let size = ap length c.deref_mut-number-items.ensures.value in
    let lt : index < length c.args.list.now.items = omega (arith, size, c.loop-number-test.true) in
    let within : index < length now = omega (arith, c.loop-number.auto.number-items, c.loop-number-test.true) in
    ap (slice_set now index) c.number_at.ensures
    ∙ map_over_more (slice_index c.args.numbers.now) c.args.list.now.items now index number lt c.loop-number.invariant
    (get_or_default now index 0 number within)

-- the list once each place of its slice is written
written_back : (f : ℕ → ℕ) (old now : List ℕ) (index len : ℕ) → now ≡ map f (take index old) ++ drop index old → length old ≤ index
    → length now ≡ length old → length now ≤ len → take len (now ++ drop (length now) old) ≡ map f old
written_back f old now index len is all size le =
    ap (λ rest. take len (now ++ rest)) (drop_all (length now) old (omega (arith, size)))
    ∙ ap (take len) (append-nil now)
    ∙ take_all len now le
    ∙ is
    ∙ ap (λ rest. map f (take index old) ++ rest) (drop_all index old all)
    ∙ append-nil (map f (take index old))
    ∙ ap (map f) (take_all index old all)

pub returns-clause-items : goal.returns-clause-items
returns-clause-items c =
    let old = c.args.list.now.items in
    let now = c.loop-number.number-items in
    let slice = c.deref_mut-number-items.ensures in
    let size = ap length slice.value in
    written_back (slice_index c.args.numbers.now) old now c.loop-number.number-index c.args.list.now.len c.loop-number.invariant
    (omega (arith, size, c.loop-number-test.false)) (c.loop-number.auto.number-items ∙ size) (omega (arith, c.loop-number.auto.number-items, slice.len))
