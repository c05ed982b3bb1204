-- Lists that are read are what their bytes spell, and what is spelled is read again.
use Rattle.std.proofs.Common.{◌≡◌, ℕ, zero, suc, ◌+◌, Bool, true, Option, Some, None, List, [], ◌∷◌, ◌++◌, length, Result, Ok, refl, sym, ap, subst, ◌∙◌, append_assoc}
use Rattle.std.specs.List.{list_all, flat_map}
use Rattle.std.specs.Int.{w32}
use Rattle.std.proofs.lemmas.List.Concat.{flat_map-cons}
use Rattle.image_format.specs.declared.errors.ImageError.{ImageError}
use Rattle.image_format.specs.declared.errors.ImageError.TheVariants.{Order}
use Rattle.image_format.specs.Conditions.{is_u32, in_order, are_rows, IsList, whole}
use Rattle.image_format.specs.Spelling.{number, list_spelling}
use Rattle.shared_terms.specs.Steps.{demand}
use Rattle.image_format.specs.Reading.{Reads, Place, times, number_at, row_at, rows_at, list_at}
use Rattle.shared_terms.proofs.StepLemmas.{on_ok, demanded, ok_is}
use Rattle.image_format.proofs.FieldLemmas.{and_is, both, IsBytes, Takes, takes_then, ReadsExactly, number_exact}
use Rattle.image_format.proofs.LoopLemmas.{placed, start, times_length}

-- nothing was taken
takes_nothing : (bytes : List ℕ) → IsBytes bytes → Takes bytes [] bytes
takes_nothing bytes is_bytes = record { parts = refl; rest_is_bytes = is_bytes }

-- the texts of a list, and what stands behind them
texts_then : {A : Type 0} (text : A → List ℕ) (x : A) (xs : List A) (rest : List ℕ) → flat_map text (x ∷ xs) ++ rest ≡ text x ++ (flat_map text xs ++ rest)
texts_then text x xs rest = ap (λ (bytes : List ℕ). bytes ++ rest) (flat_map-cons text x xs) ∙ append_assoc (text x) (flat_map text xs) rest

-- ---- items without an order

pub items_take : {A : Type 0} (read : Reads A) (text : A → List ℕ) (Fits : A → Type 0) (fits : A → Bool) → ReadsExactly read text Fits → ((x : A) → Fits x → fits x ≡ true) → (count : ℕ) (bytes : List ℕ) (x : List A × List ℕ) → IsBytes bytes → times count read bytes ≡ Ok x → Takes bytes (flat_map text x.0) x.1 × (list_all fits x.0 ≡ true)
unfolding times
items_take {A} read text Fits fits exact fit zero bytes x is_bytes e =
    subst (λ (y : List A × List ℕ). Takes bytes (flat_map text y.0) y.1 × (list_all fits y.0 ≡ true)) (ok_is ([], bytes) x e) (takes_nothing bytes is_bytes, refl)
items_take {A} read text Fits fits exact fit (suc n) bytes x is_bytes e =
    on_ok (read bytes) _ x e λ first first-is e1.
    on_ok (times n read first.1) _ x e1 λ others others-is e2.
    let t = exact.takes bytes first is_bytes first-is in
    let ts = items_take read text Fits fits exact fit n first.1 others t.0.rest_is_bytes others-is in
    let made : List A × List ℕ = (first.0 ∷ others.0, others.1) in
    subst (λ (y : List A × List ℕ). Takes bytes (flat_map text y.0) y.1 × (list_all fits y.0 ≡ true)) (ok_is made x e2)
    (rw flat_map-cons (takes_then bytes (text first.0) first.1 (flat_map text others.0) others.1 t.0 ts.0), and_is _ _ (fit first.0 t.1) ts.1)

pub items_again : {A : Type 0} (read : Reads A) (text : A → List ℕ) (Fits : A → Type 0) (fits : A → Bool) → ReadsExactly read text Fits → ((x : A) → fits x ≡ true → Fits x) → (items : List A) (rest : List ℕ) → list_all fits items ≡ true → times (length items) read (flat_map text items ++ rest) ≡ Ok (items, rest)
unfolding times
items_again read text Fits fits exact fit [] rest all_fit = refl
items_again read text Fits fits exact fit (x ∷ xs) rest all_fit =
    let parts = both _ _ all_fit in
    ap (times (suc (length xs)) read) (texts_then text x xs rest) ∙ rw (exact.again x (flat_map text xs ++ rest) (fit x parts.0), items_again read text Fits fits exact fit xs rest parts.1) refl

-- ---- rows in order

-- A row is read as its text spells it, it fits, and it stands in order behind the one before it; and each such row is read again.
pub record ReadsRow {A B : Type 0} (step : Place A → Result (B × Place A) ImageError) (part : B → A) (text : B → List ℕ) (fits : B → Bool) (follows : A → A → Bool) : Type 0 where
  pub takes : (place : Place A) (x : B × Place A) → IsBytes place.bytes → step place ≡ Ok x → Takes place.bytes (text x.0) x.1.bytes × (fits x.0 ≡ true) × (in_order follows place.before (part x.0) ≡ true) × (x.1.before ≡ Some (part x.0))
  pub again : (row : ℕ) (before : Option A) (x : B) (rest : List ℕ) → fits x ≡ true → in_order follows before (part x) ≡ true → step (placed row before (text x ++ rest)) ≡ Ok (x, placed (row + 1) (Some (part x)) rest)

-- a row whose fields come first, and then its order
pub row_reads : {A : Type 0} (list : ℕ) (follows : A → A → Bool) (read : Reads A) (text : A → List ℕ) (fits : A → Bool) → ReadsExactly read text (λ x. fits x ≡ true) → ReadsRow (row_at list follows read) whole text fits follows
unfolding row_at
row_reads {A} list follows read text fits exact = record {
  takes = λ place x is_bytes e.
      on_ok (read place.bytes) _ x e λ row row-is e1.
      on_ok (demand (in_order follows place.before row.0) (Order list place.row)) _ x e1 λ u u-is e2.
      let t = exact.takes place.bytes row is_bytes row-is in
      let made : A × Place A = (row.0, placed (place.row + 1) (Some row.0) row.1) in
      subst (λ (y : A × Place A). Takes place.bytes (text y.0) y.1.bytes × (fits y.0 ≡ true) × (in_order follows place.before y.0 ≡ true) × (y.1.before ≡ Some y.0)) (ok_is made x e2) (t.0, t.1, demanded _ _ u u-is, refl);
  again = λ row before x rest fit ordered. rw (exact.again x rest fit, ordered) refl;
}

rows_take : {A B : Type 0} (step : Place A → Result (B × Place A) ImageError) (part : B → A) (text : B → List ℕ) (fits : B → Bool) (follows : A → A → Bool) → ReadsRow step part text fits follows → (count : ℕ) (place : Place A) (x : List B × Place A) → IsBytes place.bytes → times count step place ≡ Ok x
    → Takes place.bytes (flat_map text x.0) x.1.bytes × (are_rows part fits follows place.before x.0 ≡ true)
unfolding times
rows_take {A} {B} step part text fits follows reads zero place x is_bytes e =
    subst (λ (y : List B × Place A). Takes place.bytes (flat_map text y.0) y.1.bytes × (are_rows part fits follows place.before y.0 ≡ true)) (ok_is ([], place) x e) (takes_nothing place.bytes is_bytes, refl)
rows_take {A} {B} step part text fits follows reads (suc n) place x is_bytes e =
    on_ok (step place) _ x e λ first first-is e1.
    on_ok (times n step first.1) _ x e1 λ others others-is e2.
    let t = reads.takes place first is_bytes first-is in
    let ts = rows_take step part text fits follows reads n first.1 others t.0.rest_is_bytes others-is in
    let behind : are_rows part fits follows (Some (part first.0)) others.0 ≡ true = subst (λ (before : Option A). are_rows part fits follows before others.0 ≡ true) t.3 ts.1 in
    let made : List B × Place A = (first.0 ∷ others.0, others.1) in
    subst (λ (y : List B × Place A). Takes place.bytes (flat_map text y.0) y.1.bytes × (are_rows part fits follows place.before y.0 ≡ true)) (ok_is made x e2)
    (rw flat_map-cons (takes_then place.bytes (text first.0) first.1.bytes (flat_map text others.0) others.1.bytes t.0 ts.0), and_is _ _ (and_is _ _ t.1 t.2) behind)

-- what is left of the place behind rows is their rest
rows_again : {A B : Type 0} (step : Place A → Result (B × Place A) ImageError) (part : B → A) (text : B → List ℕ) (fits : B → Bool) (follows : A → A → Bool) → ReadsRow step part text fits follows → (row : ℕ) (before : Option A) (rows : List B) (rest : List ℕ) → are_rows part fits follows before rows ≡ true
    → (end : Place A) × (times (length rows) step (placed row before (flat_map text rows ++ rest)) ≡ Ok (rows, end)) × (end.bytes ≡ rest)
unfolding times
rows_again step part text fits follows reads row before [] rest fit = (placed row before rest, refl, refl)
rows_again step part text fits follows reads row before (x ∷ xs) rest fit =
    let parts = both _ _ fit in
    let first = both _ _ parts.0 in
    let others = rows_again step part text fits follows reads (row + 1) (Some (part x)) xs rest parts.1 in
    (others.0, ap (λ (bytes : List ℕ). times (suc (length xs)) step (placed row before bytes)) (texts_then text x xs rest) ∙ rw (reads.again row before x (flat_map text xs ++ rest) first.0 first.1, others.1) refl, others.2)

-- a count, and rows in order
pub list_exact : {A B : Type 0} (size : ℕ) (step : Place A → Result (B × Place A) ImageError) (part : B → A) (text : B → List ℕ) (fits : B → Bool) (follows : A → A → Bool) → ReadsRow step part text fits follows → ReadsExactly (list_at size step) (list_spelling text) (IsList part fits follows)
unfolding list_at rows_at
list_exact {A} {B} size step part text fits follows reads = record {
  takes = λ bytes x is_bytes e.
      on_ok (number_at w32 size bytes) _ x e λ count count-is e1.
      on_ok (times count.0 step (start count.1)) _ x e1 λ rows rows-is e2.
      let t = (number_exact size).takes bytes count is_bytes count-is in
      let ts = rows_take step part text fits follows reads count.0 (start count.1) rows t.0.rest_is_bytes rows-is in
      let len : length rows.0 ≡ count.0 = times_length count.0 step (start count.1) rows rows-is in
      let made : List B × List ℕ = (rows.0, rows.1.bytes) in
      let taken = takes_then bytes (number count.0) count.1 (flat_map text rows.0) rows.1.bytes t.0 ts.0 in
      let spelled : Takes bytes (list_spelling text rows.0) rows.1.bytes = subst (λ (n : ℕ). Takes bytes (number n ++ flat_map text rows.0) rows.1.bytes) (sym len) taken in
      let counted : is_u32 (length rows.0) ≡ true = subst (λ (n : ℕ). is_u32 n ≡ true) (sym len) t.1 in
      subst (λ (y : List B × List ℕ). Takes bytes (list_spelling text y.0) y.1 × IsList part fits follows y.0) (ok_is made x e2) (spelled, record { count = counted; rows = ts.1 });
  again = λ rows rest is.
      let all = rows_again step part text fits follows reads 0 None rows rest is.rows in
      let regrouped : list_spelling text rows ++ rest ≡ number (length rows) ++ (flat_map text rows ++ rest) = append_assoc (number (length rows)) (flat_map text rows) rest in
      let count = (number_exact size).again (length rows) (flat_map text rows ++ rest) is.count in
      ap (list_at size step) regrouped ∙ rw (count, all.1) (ap (λ (bytes : List ℕ). Ok (rows, bytes)) all.2);
}
