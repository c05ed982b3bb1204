-- Files in memory, as the code holds them, after one was saved.
use Rattle.std.proofs.Common.{◌≡◌, ◌≢◌, ℕ, Bool, true, false, List, [], ◌∷◌, ◌++◌, length, Option, Some, None, find, refl, sym, ap, ◌∙◌, slice_index_or, slice_set, String, string_bytes, arith, map, zero, suc, ◌≤◌, ◌||◌, if◌then◌else◌}
use Rattle.std.specs.List.{position, position_or_len, list_any}
use Rattle.std.specs.Option.{is_some, option_map, option_or}
use Rattle.std.specs.Str.{bytes_eq}
use Rattle.std.specs.declared.vec.Vec.{Vec}
use Rattle.std.proofs.Math.Seq.{map-set_same}
use Rattle.std.proofs.lemmas.Bool.Decides.{not_from_Decides}
use Rattle.std.proofs.lemmas.Grind.{common_steps}
use Rattle.std.proofs.lemmas.List.Folds.{find-append, find-set, find_at, find_past}
use Rattle.std.proofs.lemmas.List.Quantifiers.{position-Some}
use Rattle.std.proofs.lemmas.List.Sums.{position_or_len_is}
use Rattle.std.proofs.lemmas.Option.{slice_get_past}
use Rattle.std.proofs.lemmas.Slice.Eq.{bytes_eq-Decides}
use Rattle.host_io.specs.Held.{files_of, bytes_held, AreNamesDistinct}
use Rattle.host_io.proofs.HeldLemmas.{bytes_held-find}

-- A name that is equal to one is not equal to another.
unlike : (own name other : List ℕ) → own ≡ name → other ≢ name → bytes_eq own other ≡ false
unlike own name other same differs = by (bytes_eq own other) refl
  where
    by : (b : Bool) → bytes_eq own other ≡ b → b ≡ false
    by true is = absurd (differs (sym ((bytes_eq-Decides own other).0 is) ∙ same))
    by false is = refl

module _ {A B : Type 0} where
  -- Whether an entry has the name.
  abbrev named : List ℕ → String A × Vec ℕ B → Bool
  named name entry = bytes_eq (string_bytes entry.0) name

  -- Where the first entry of a name is written over by one of the same name, that is what its file
  -- holds.
  pub set_held : (entries : List (String A × Vec ℕ B)) (name : List ℕ) (place : ℕ)
      (entry old : String A × Vec ℕ B) → position (named name) entries ≡ Some place →
      string_bytes entry.0 ≡ string_bytes (slice_index_or entries place old).0 →
      bytes_held (files_of (slice_set entries place entry)) name ≡ Some entry.1.items
  set_held entries name place entry old found same =
      let at = position-Some (named name) entries place old found in
      let first =
      position_or_len_is (named name) entries place old (omega (arith, at.0)) at.2 (λ _. at.1) in
      let passes : named name entry ≡ true = ap (λ own. bytes_eq own name) same ∙ at.1 in
      bytes_held-find (slice_set entries place entry) name
      ∙ ap (option_map (λ each. each.1.items))
      (find-set (named name) entries place entry (sym first) at.0 passes)

  -- The files of the other names hold what they did.
  pub set_others : (entries : List (String A × Vec ℕ B)) (name : List ℕ) (place : ℕ)
      (entry old : String A × Vec ℕ B) → position (named name) entries ≡ Some place →
      string_bytes entry.0 ≡ string_bytes (slice_index_or entries place old).0 →
      (other : List ℕ) → other ≢ name →
      bytes_held (files_of (slice_set entries place entry)) other ≡
      bytes_held (files_of entries) other
  set_others entries name place entry old found same other differs =
      let at = position-Some (named name) entries place old found in
      let own = (bytes_eq-Decides _ _).0 at.1 in
      bytes_held-find (slice_set entries place entry) other
      ∙ ap (option_map (λ each. each.1.items))
      (find_past (named other) entries place entry old (unlike _ name other own differs)
      (unlike _ name other (same ∙ own) differs))
      ∙ sym (bytes_held-find entries other)

  -- A file is there exactly where one of the names is its own.
  held_among : (entries : List (String A × Vec ℕ B)) (name : List ℕ) →
      is_some (bytes_held (files_of entries) name) ≡
      list_any (λ own. bytes_eq own name) (map (λ entry. string_bytes entry.0) entries)
  held_among [] name = refl
  held_among (entry ∷ entries) name =
      by (bytes_eq (string_bytes entry.0) name) (held_among entries name)
    where
      by : (b : Bool) →
          is_some (bytes_held (files_of entries) name) ≡
          list_any (λ own. bytes_eq own name) (map (λ each. string_bytes each.0) entries) →
          is_some (if b then Some entry.1.items else bytes_held (files_of entries) name) ≡
          (b || list_any (λ own. bytes_eq own name) (map (λ each. string_bytes each.0) entries))
      by true rest = refl
      by false rest = rest

  -- The names stay distinct.
  pub set_distinct : (entries : List (String A × Vec ℕ B)) (place : ℕ)
      (entry old : String A × Vec ℕ B) →
      string_bytes entry.0 ≡ string_bytes (slice_index_or entries place old).0 →
      AreNamesDistinct (files_of entries) →
      AreNamesDistinct (files_of (slice_set entries place entry))
  set_distinct [] place entry old same distinct = tt
  set_distinct (first ∷ entries) zero entry old same distinct =
      (rw same distinct.0, distinct.1)
  set_distinct (first ∷ entries) (suc place) entry old same distinct = (
    held_among (slice_set entries place entry) (string_bytes first.0)
        ∙ ap (list_any (λ own. bytes_eq own (string_bytes first.0)))
        (map-set_same (λ each. string_bytes each.0) entries place entry old same)
        ∙ sym (held_among entries (string_bytes first.0))
        ∙ distinct.0,
    set_distinct entries place entry old same distinct.1,
  )

  -- Where no entry has the name, no file has it.
  find_none : (entries : List (String A × Vec ℕ B)) (name : List ℕ) →
      position (named name) entries ≡ None → find (named name) entries ≡ None
  find_none entries name none =
      let past : length entries ≤ position_or_len (named name) entries = grind (arith, common_steps) in
      find_at (named name) entries ∙ slice_get_past entries _ past

  -- An entry of such a name that is put last is what its file holds.
  pub push_held : (entries : List (String A × Vec ℕ B)) (name : List ℕ)
      (entry : String A × Vec ℕ B) → position (named name) entries ≡ None →
      string_bytes entry.0 ≡ name →
      bytes_held (files_of (entries ++ entry ∷ [])) name ≡ Some entry.1.items
  push_held entries name entry none own =
      let passes : named name entry ≡ true = (bytes_eq-Decides _ _).1 own in
      let last : find (named name) (entry ∷ []) ≡ Some entry =
      ap (λ b. if b then Some entry else None) passes in
      bytes_held-find (entries ++ entry ∷ []) name
      ∙ ap (option_map (λ each. each.1.items))
      (find-append (named name) entries (entry ∷ [])
      ∙ ap (λ first. option_or first (find (named name) (entry ∷ []))) (find_none entries name none)
      ∙ last)

  -- The files of the other names hold what they did.
  pub push_others : (entries : List (String A × Vec ℕ B)) (name : List ℕ)
      (entry : String A × Vec ℕ B) → string_bytes entry.0 ≡ name →
      (other : List ℕ) → other ≢ name →
      bytes_held (files_of (entries ++ entry ∷ [])) other ≡ bytes_held (files_of entries) other
  push_others entries name entry own other differs =
      let fails = unlike _ name other own differs in
      let last : find (named other) (entry ∷ []) ≡ None =
      ap (λ b. if b then Some entry else None) fails in
      bytes_held-find (entries ++ entry ∷ []) other
      ∙ ap (option_map (λ each. each.1.items))
      (find-append (named other) entries (entry ∷ [])
      ∙ ap (option_or (find (named other) entries)) last
      ∙ or_none (find (named other) entries))
      ∙ sym (bytes_held-find entries other)
    where
      or_none : (found : Option (String A × Vec ℕ B)) → option_or found None ≡ found
      or_none None = refl
      or_none (Some each) = refl

  -- The same of all names, where none has the name of the entry.
  add_distinct : (entries : List (String A × Vec ℕ B)) (name : List ℕ)
      (entry : String A × Vec ℕ B) → string_bytes entry.0 ≡ name →
      bytes_held (files_of entries) name ≡ None → AreNamesDistinct (files_of entries) →
      AreNamesDistinct (files_of (entries ++ entry ∷ []))
  add_distinct [] name entry own unheld distinct = (refl, tt)
  add_distinct (first ∷ entries) name entry own unheld distinct =
      by (bytes_eq (string_bytes first.0) name) refl unheld
      (λ rest. add_distinct entries name entry own rest distinct.1)
    where
      by : (b : Bool) → bytes_eq (string_bytes first.0) name ≡ b →
          (if b then Some first.1.items else bytes_held (files_of entries) name) ≡ None →
          (bytes_held (files_of entries) name ≡ None →
          AreNamesDistinct (files_of (entries ++ entry ∷ []))) →
          AreNamesDistinct (files_of ((first ∷ entries) ++ entry ∷ []))
      by true is none go_on = absurd (cc none)
      by false is none go_on =
          let differs = not_from_Decides _ (bytes_eq-Decides _ _) is in (
            ap is_some (push_others entries name entry own (string_bytes first.0) differs)
                ∙ distinct.0,
            go_on none,
          )

  -- The names stay distinct.
  pub push_distinct : (entries : List (String A × Vec ℕ B)) (name : List ℕ)
      (entry : String A × Vec ℕ B) → position (named name) entries ≡ None →
      string_bytes entry.0 ≡ name → AreNamesDistinct (files_of entries) →
      AreNamesDistinct (files_of (entries ++ entry ∷ []))
  push_distinct entries name entry none own distinct =
      let unheld =
      bytes_held-find entries name
      ∙ ap (option_map (λ each. each.1.items)) (find_none entries name none) in
      add_distinct entries name entry own unheld distinct
