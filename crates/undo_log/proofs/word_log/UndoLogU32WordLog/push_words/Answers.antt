use Rattle.std.proofs.Common.{◌≡◌, ◌∙◌, ◌+◌, ℕ, List, [], ◌∷◌, ◌++◌, Some, ap, slice_get, sym, take}
use Rattle.std.proofs.lemmas.Grind.{take_at_read}
use Rattle.std.proofs.lemmas.List.{flat_map_more}
use Rattle.std.proofs.lemmas.Option.{get_or_from_slice_get, slice_get_within}
use Rattle.std.specs.List.{flat_map}
use Rattle.undo_log.specs.Past.{Record, record_tags}
use Rattle.undo_log.proofs.word_log.UndoLogU32WordLog.push_words.Goals as goal

-- one item more of a list
taken_on : {X : Type 0} (xs : List X) (i : ℕ) (x : X) → slice_get xs i ≡ Some x → take (i + 1) xs ≡ take i xs ++ x ∷ []
taken_on xs i x at =
    (take_at_read xs i x (slice_get_within xs i x at)).1 ∙ ap (λ y. take i xs ++ y ∷ []) (get_or_from_slice_get xs i x x at)

-- the words of one record more
words_on : {T U : Type 0} (kept : List (Record T U)) (i : ℕ) (made : Record T U) (old now new : List T) → slice_get kept i ≡ Some made
    → now ≡ old ++ flat_map record_tags (take i kept) → new ≡ now ++ record_tags made → new ≡ old ++ flat_map record_tags (take (i + 1) kept)
words_on kept i made old now new at so_far more =
    more
    ∙ ap (λ words. words ++ record_tags made) so_far
    ∙ flat_map_more record_tags old (take i kept) made
    ∙ ap (λ records. old ++ flat_map record_tags records) (sym (taken_on kept i made at))

pub loop-i-preserved : goal.loop-i-preserved
loop-i-preserved g c =
    words_on c.args.self.now.kept c.loop-i.i c.at.result.now c.args.words.now.items c.loop-i.words.items c.push_record.new.words.items
    c.at.ensures.value c.loop-i.invariant c.in_ok-push_record.ensures
