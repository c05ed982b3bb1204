-- The table of one side of pairs: as pairs come and as they are cut off.
use Rattle.std.proofs.Common.{◌≡◌, ℕ, ◌+◌, ◌<◌, ◌≤◌, ◌⊎◌, inl, inr, Bool, List, [], ◌∷◌, ◌++◌, Some, if◌then◌else◌, length, slice_get, take, sym, ap, subst, ◌∙◌, arith}
use Rattle.std.specs.Cmp.{IsEquivalence}
use Rattle.std.specs.List.{list_any}
use Rattle.std.proofs.lemmas.Bool.{cases_lt, cond_both}
use Rattle.std.proofs.lemmas.List.{length-take-le}
use Rattle.std.proofs.lemmas.Option.{slice_get_within}
use Rattle.engine_trait.specs.Accounts.{with_tag}
use Rattle.tag_intern.specs.Table.{TableState, cut_to, table_after}
use Rattle.tag_intern.proofs.RoomLemmas.{tag_adds}
use Rattle.tag_intern.proofs.TableLemmas.{distinct_with, extends_with, same_words, with_word}
use Rattle.tag_pairs.specs.Order.{counted, next}
use Rattle.tag_pairs.specs.Pairs.{IsSide}
use Rattle.tag_pairs.proofs.OrderLemmas.{counted-push, counted_few, counted_taken, next_known, next_new, order_push, order_taken}
use Rattle.tag_pairs.proofs.TableLemmas.{cut_table}

module _ {T : Type 0} (words : List ℕ) (limit : ℕ) (side : TableState T) (is : IsSide words limit side) where
  -- each tag came with some pair, so that there are no more tags than pairs
  pub side_few : length side.tags ≤ length words
  side_few = let few = counted_few 0 words is.order in let count = is.count in omega (arith, few, count)

  -- the words that the first pairs have are words of it
  pub count_fits : (n : ℕ) → counted 0 (take n words) ≤ length side.tags
  count_fits n = let fewer = counted_taken n 0 words in let count = is.count in omega (arith, fewer, count)

  -- it is that of the first pairs once it is cut to their words
  pub cut_side : (n : ℕ) → IsSide (take n words) limit (cut_to side (counted 0 (take n words)))
  cut_side n = record {
    table = cut_table side (counted 0 (take n words)) is.table;
    order = order_taken n 0 words is.order;
    count = sym (length-take-le (counted 0 (take n words)) side.tags (count_fits n));
    same_limit = is.same_limit;
  }

module _ {T : Type 0} (eq : T → T → Bool) (laws : IsEquivalence eq) where
  module _ (words : List ℕ) (limit : ℕ) (old : TableState T) (is : IsSide words limit old) (room : length words < limit) (tag : T) (word : ℕ)
      (has : slice_get (with_tag eq old.tags tag) word ≡ Some tag) where
    one_more : length (with_tag eq old.tags tag) ≤ length old.tags + 1
    one_more =
        let adds = tag_adds eq old.tags tag in
        let one : (if list_any (eq tag) old.tags then 0 else 1) ≤ 1 =
        cond_both (list_any (eq tag) old.tags) 0 1 (λ n. n ≤ 1) (λ e. omega arith) (λ e. omega arith) in
        omega (arith, adds, one)

    -- the word came before or is the next, and then there is one tag more
    word_next : (word ≤ length old.tags) × (next (length old.tags) word ≡ length (with_tag eq old.tags tag))
    word_next = by (cases_lt word (length old.tags))
      where
        by : (word < length old.tags) ⊎ (length old.tags ≤ word) → (word ≤ length old.tags) × (next (length old.tags) word ≡ length (with_tag eq old.tags tag))
        by (inl known) =
            let there = sym (same_words old.tags (with_tag eq old.tags tag) (extends_with eq laws old.tags tag) word known) ∙ has in
            (omega arith, next_known (length old.tags) word known ∙ ap length (sym (with_word eq laws old.tags tag word there)))
        by (inr new) =
            let within = slice_get_within (with_tag eq old.tags tag) word tag has in
            let more = one_more in
            let is_next : word ≡ length old.tags = omega (arith, within, more) in
            let size : word + 1 ≡ length (with_tag eq old.tags tag) = omega (arith, within, more) in
            (omega arith, next_new (length old.tags) word new ∙ size)

    with_side : IsSide (words ++ word ∷ []) limit (table_after eq old tag)
    with_side =
        let few = side_few words limit old is in
        let more = one_more in
        let same = is.same_limit in
        let fits = word_next.0 in
        let count = is.count in
        record {
          table = record {
            distinct = distinct_with eq laws old.tags tag is.table.distinct;
            within = omega (arith, few, more, same, room);
            some = is.table.some;
            small = is.table.small;
          };
          order = order_push 0 words word is.order (omega (arith, fits, count));
          count = counted-push 0 words word ∙ ap (λ n. next n word) is.count ∙ word_next.1;
          same_limit = is.same_limit;
        }

  -- it is that of the pairs with one more, once its tag came
  pub grown_side : (words : List ℕ) (limit : ℕ) (old new : TableState T) → IsSide words limit old → length words < limit → (tag : T) (word : ℕ)
      → new ≡ table_after eq old tag → slice_get new.tags word ≡ Some tag → IsSide (words ++ word ∷ []) limit new
  grown_side words limit old new is room tag word grown has =
      subst (IsSide (words ++ word ∷ []) limit) (sym grown)
      (with_side words limit old is room tag word (sym (ap (λ table. slice_get table.tags word) grown) ∙ has))
