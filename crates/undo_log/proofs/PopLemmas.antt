-- What a push leaves, and what is taken from the end stood there.
use Rattle.std.proofs.Common.{◌≡◌, ◌-◌, ℕ, List, [], ◌∷◌, ◌++◌, length, take, Option, Some, None, slice_get, ap, arith, length-append, refl, sym, subst, take_at}
use Rattle.std.specs.Map.Iter.{TakesLast}
use Rattle.circular_buffer.proofs.Items.{pops_last}
use Rattle.circular_buffer.proofs.Places.{slice_get-last}
use Rattle.undo_log.specs.Past.{Past, Record, newest, older, past_of, pushed}

module _ {X : Type 0} where
  -- with the last item at the end of the others again, the list is as it was
  pub last_back : (xs : List X) (x : X) → slice_get xs (length xs - 1) ≡ Some x → take (length xs - 1) xs ++ x ∷ [] ≡ xs
  last_back xs x last = sym (subst (λ (popped : Option X). TakesLast (λ (y : X). y) xs popped (take (length xs - 1) xs)) last (pops_last xs))

  -- a list with no last item is empty
  pub none_last : (xs : List X) → slice_get xs (length xs - 1) ≡ None → xs ≡ []
  none_last xs none = (subst (λ (popped : Option X). TakesLast (λ (y : X). y) xs popped (take (length xs - 1) xs)) none (pops_last xs)).0

  -- the last place of a list that ends with an item is past the others
  last_place : (xs : List X) (x : X) → length (xs ++ x ∷ []) - 1 ≡ length xs
  last_place xs x = let size = length-append xs (x ∷ []) in omega arith

module _ {T U : Type 0} where
  -- a log for none stays as it is
  pub pushed_none : (made : Record T U) → pushed (past_of [] 0) made ≡ past_of [] 0
  pushed_none made = refl

  -- the record at the end is the newest
  pub newest_of : (front : List (Record T U)) (made : Record T U) (most : ℕ) → newest (past_of (front ++ made ∷ []) most) ≡ Some made
  newest_of front made most = slice_get-last front made (length (front ++ made ∷ []) - 1) (last_place front made)

  -- those before the record at the end are left without the newest
  pub older_of : (front : List (Record T U)) (made : Record T U) (most : ℕ) → older (past_of (front ++ made ∷ []) most) ≡ past_of front most
  older_of front made most =
      ap (λ kept. past_of kept most) (take_at front (made ∷ []) (length (front ++ made ∷ []) - 1) (sym (last_place front made)))

  -- the newest record stands behind the older ones
  pub newest_kept : (past : Past T U) (made : Record T U) → newest past ≡ Some made → past.kept ≡ (older past).kept ++ made ∷ []
  newest_kept past made last = sym (last_back past.kept made last)

  -- where there is no newest record there is none
  pub newest_none : (past : Past T U) → newest past ≡ None → past.kept ≡ []
  newest_none past none = none_last past.kept none
