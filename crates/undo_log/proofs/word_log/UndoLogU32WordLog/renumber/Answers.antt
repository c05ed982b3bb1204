use Rattle.std.proofs.Common.{◌≡◌, ◌∙◌, ◌+◌, ◌<◌, ℕ, List, ◌++◌, Some, ap, arith, drop, length, map, slice_get, slice_index, slice_set, sym, take}
use Rattle.std.proofs.lemmas.List.Edits.{map_over_more}
use Rattle.std.proofs.lemmas.Option.{get_or_from_slice_get}
use Rattle.undo_log.specs.Past.{Past, Record, past_of, record_with}
use Rattle.undo_log.proofs.word_log.UndoLogU32WordLog.renumber.Goals as goal

-- one item more of a list is changed in its place
changed_on : {X : Type 0} (f : X → X) (xs ys : List X) (i : ℕ) (x y : X) → i < length xs → slice_get ys i ≡ Some x
    → ys ≡ map f (take i xs) ++ drop i xs → y ≡ f x → slice_set ys i y ≡ map f (take (i + 1) xs) ++ drop (i + 1) xs
changed_on f xs ys i x y within at so_far one =
    ap (slice_set ys i) one ∙ map_over_more f xs ys i x within so_far (sym (get_or_from_slice_get ys i x x at))

-- the words of one record more have their numbers
numbers_on : {T U : Type 0} (f : T → T) (old now : Past T U) (i : ℕ) (made new : Record T U) → i < length old.kept → slice_get now.kept i ≡ Some made
    → now ≡ past_of (map (record_with f) (take i old.kept) ++ drop i old.kept) old.most → new ≡ record_with f made
    → past_of (slice_set now.kept i new) now.most ≡ past_of (map (record_with f) (take (i + 1) old.kept) ++ drop (i + 1) old.kept) old.most
numbers_on f old now i made new within at so_far one =
    let records = changed_on (record_with f) old.kept now.kept i made new within at (ap (λ past. past.kept) so_far) one in
    let most = ap (λ past. past.most) so_far in
    λ j. past_of (records j) (most j)

pub loop-i-preserved : goal.loop-i-preserved
loop-i-preserved g c =
    let within : c.loop-i.i < length c.args.self.now.kept = omega (arith, c.len-i-end.ensures.value, c.loop-i-test.true) in
    numbers_on (slice_index c.args.numbers.now) c.args.self.now c.loop-i.self c.loop-i.i c.at_mut.result.now c.renumber_record.new.made within
    c.at_mut.ensures.value c.loop-i.invariant c.renumber_record.ensures
