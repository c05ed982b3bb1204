-- What holds of each tag that the records hold.
use Rattle.std.proofs.Common.{◌≡◌, ◌∙◌, ◌-◌, ℕ, List, [], ◌∷◌, ◌++◌, All, drop, flat_map, length, map, take, Option, Some, None, ap, refl, sym, subst, take-append-drop}
use Rattle.std.proofs.lemmas.Grind.{flat_map-append}
use Rattle.std.proofs.lemmas.List.{append-nil}
use Rattle.std.proofs.lemmas.List.Elements.{All-append, All-cons, All-head, All-nil, All-tail}
use Rattle.undo_log.specs.Past.{Past, Record, newest, older, past_by, past_of, past_tags, pushed, record_tags, record_with, replaced_by, replaced_tags, some_replaced_by}
use Rattle.undo_log.specs.declared.record.Replaced.{Replaced}
use Rattle.undo_log.proofs.PopLemmas.{last_back}

module _ {X : Type 0} (P : X → Type 0) where
  -- what holds of each item of joined lists holds of each of the first
  all_left : (xs ys : List X) → All P (xs ++ ys) → All P xs
  all_left [] ys all = All-nil P
  all_left (x ∷ xs) ys all = All-cons P x xs (All-head P x (xs ++ ys) all) (all_left xs ys (All-tail P x (xs ++ ys) all))

  -- and of each of the second
  all_right : (xs ys : List X) → All P (xs ++ ys) → All P ys
  all_right [] ys all = all
  all_right (x ∷ xs) ys all = all_right xs ys (All-tail P x (xs ++ ys) all)

-- ---- two changes that agree on each tag that is held are the same change

module _ {T V : Type 0} (f g : T → V) where
  abbrev AreSame : List T → Type 0
  AreSame = All (λ (tag : T). f tag ≡ g tag)

  some_replaced_same : (old : Option (Replaced T)) → AreSame (replaced_tags old) → some_replaced_by f old ≡ some_replaced_by g old
  some_replaced_same None same = refl
  some_replaced_same (Some old) same =
      ap (λ tag. Some (record { place = old.place; value = old.value; tag = tag })) (All-head (λ (tag : T). f tag ≡ g tag) old.tag [] same)

  range_same : (range : List (Replaced T)) → AreSame (map (λ (old : Replaced T). old.tag) range) → map (replaced_by f) range ≡ map (replaced_by g) range
  range_same [] same = refl
  range_same (old ∷ range) same =
      let tags = map (λ (old : Replaced T). old.tag) range in
      let first = All-head (λ (tag : T). f tag ≡ g tag) old.tag tags same in
      let rest = range_same range (All-tail (λ (tag : T). f tag ≡ g tag) old.tag tags same) in
      λ i. record { place = old.place; value = old.value; tag = first i } ∷ rest i

  pub record_with_same : {U : Type 0} (made : Record T U) → AreSame (record_tags made) → record_with f made ≡ record_with g made
  record_with_same made same =
      let P = λ (tag : T). f tag ≡ g tag in
      let tags = map (λ (old : Replaced T). old.tag) made.range in
      let front = made.pc_tag ∷ replaced_tags made.reg in
      let words = replaced_tags made.word in
      let of_places = all_left P (front ++ words) tags same in
      let of_front = all_left P front words of_places in
      let pc = All-head P made.pc_tag (replaced_tags made.reg) of_front in
      let reg = some_replaced_same made.reg (All-tail P made.pc_tag (replaced_tags made.reg) of_front) in
      let word = some_replaced_same made.word (all_right P front words of_places) in
      let range = range_same made.range (all_right P (front ++ words) tags same) in
      λ i. record { hart = made.hart; pc = made.pc; pc_tag = pc i; reg = reg i; word = word i; range = range i; plan = made.plan; fed = made.fed }

  kept_same : {U : Type 0} (kept : List (Record T U)) → AreSame (flat_map record_tags kept) → map (record_with f) kept ≡ map (record_with g) kept
  kept_same [] same = refl
  kept_same (made ∷ kept) same =
      let P = λ (tag : T). f tag ≡ g tag in
      let first = record_with_same made (all_left P (record_tags made) (flat_map record_tags kept) same) in
      let rest = kept_same kept (all_right P (record_tags made) (flat_map record_tags kept) same) in
      λ i. first i ∷ rest i

  pub past_by_same : {U : Type 0} (past : Past T U) → All (λ (tag : T). f tag ≡ g tag) (past_tags past) → past_by f past ≡ past_by g past
  past_by_same past same = ap (λ kept. past_of kept past.most) (kept_same past.kept same)

-- ---- what holds of each tag that is held, as records come and go

module _ {T U : Type 0} (P : T → Type 0) where
  tags_split : (n : ℕ) (kept : List (Record T U)) → flat_map record_tags (take n kept) ++ flat_map record_tags (drop n kept) ≡ flat_map record_tags kept
  tags_split n kept = sym (flat_map-append record_tags (take n kept) (drop n kept)) ∙ ap (flat_map record_tags) (take-append-drop n kept)

  pub all_tags_pushed : (past : Past T U) (made : Record T U) → All P (past_tags past) → All P (record_tags made) → All P (past_tags (pushed past made))
  all_tags_pushed past made all more =
      let kept = past.kept ++ made ∷ [] in
      let n = length kept - past.most in
      let one = flat_map-append record_tags past.kept (made ∷ []) ∙ ap (λ tags. past_tags past ++ tags) (append-nil (record_tags made)) in
      let both = subst (All P) (sym one) (All-append P (past_tags past) (record_tags made) all more) in
      all_right P (flat_map record_tags (take n kept)) (flat_map record_tags (drop n kept)) (subst (All P) (sym (tags_split n kept)) both)

  pub all_tags_older : (past : Past T U) → All P (past_tags past) → All P (past_tags (older past))
  all_tags_older past all =
      let n = length past.kept - 1 in
      all_left P (flat_map record_tags (take n past.kept)) (flat_map record_tags (drop n past.kept)) (subst (All P) (sym (tags_split n past.kept)) all)

  pub all_tags_newest : (past : Past T U) (made : Record T U) → newest past ≡ Some made → All P (past_tags past) → All P (record_tags made)
  all_tags_newest past made last all =
      let front = (older past).kept in
      let split = ap (flat_map record_tags) (sym (last_back past.kept made last)) ∙ flat_map-append record_tags front (made ∷ []) in
      let behind = all_right P (flat_map record_tags front) (flat_map record_tags (made ∷ [])) (subst (All P) split all) in
      subst (All P) (append-nil (record_tags made)) behind
