-- A field that is read is what its bytes spell, and what is spelled is read again.
use Rattle.std.proofs.Common.{◌≡◌, ℕ, ◌+◌, ◌^◌, ◌<◌, ◌≤◌, Bool, true, false, ◌&&◌, cond, ltb, List, ◌++◌, length, get_or, take, drop, Ok, Err, refl, sym, ap, subst, ◌∙◌, append_assoc, arith, inl, inr}
use Rattle.std.specs.Int.{Width, w16, w32, w128, byte_len, from_le_bytes, to_le_bytes}
use Rattle.std.proofs.lemmas.Bool.{cases_lt, ltb-true, lt-ltb, ltb-false, le-ltb}
use Rattle.std.proofs.lemmas.List.{take_at, drop_at, take-append-drop, length-append, length-take, get_or-drop, get_or-take, get_or_past}
use Rattle.std.proofs.lemmas.Nat.{le_bytes_2, le_bytes_4, from_le_bytes-to_le_bytes_2, from_le_bytes-to_le_bytes_4}
use Rattle.shared_terms.proofs.StepLemmas.{on_ok, ok_is, demanded}
use Rattle.image_format.specs.declared.version.Version.{Version}
use Rattle.image_format.specs.declared.version.Version.TheVariants.{One, Two}
use Rattle.image_format.specs.declared.errors.ImageError.{ImageError}
use Rattle.image_format.specs.declared.errors.ImageError.TheVariants.{Short}
use Rattle.image_format.specs.Conditions.{is_u32, is_mask}
use Rattle.image_format.specs.Spelling.{half, number, wide_number, mask_spelling}
use Rattle.shared_terms.specs.Steps.{demand}
use Rattle.image_format.specs.Reading.{Reads, number_at, tested_at, mask_at}
use Rattle.image_format.specs.WideLaws.{written_again, read_again, sixteen_below}

-- ---- tests

-- a conjunction of tests, put together and taken apart
pub and_is : (a b : Bool) → a ≡ true → b ≡ true → (a && b) ≡ true
and_is true b e f = f
and_is false b e f = e

pub both : (a b : Bool) → (a && b) ≡ true → (a ≡ true) × (b ≡ true)
both true b e = (refl, e)
both false b e = absurd cc

-- ---- bytes

abbrev pub IsBytes : List ℕ → Type 0
IsBytes bytes = (i : ℕ) → get_or bytes i 0 < 256

IsBytes-drop : (n : ℕ) (bytes : List ℕ) → IsBytes bytes → IsBytes (drop n bytes)
IsBytes-drop n bytes is_bytes i = rw get_or-drop (is_bytes (n + i))

IsBytes-take : (n : ℕ) (bytes : List ℕ) → IsBytes bytes → IsBytes (take n bytes)
IsBytes-take n bytes is_bytes i =
    elim (cases_lt i n) [
      | inl lt ↦ rw (get_or-take n bytes i 0 lt) (is_bytes i)
      | inr le ↦ rw (get_or_past (take n bytes) i 0 (omega (arith, length-take n bytes))) (omega arith)
    ]

-- the bytes are a text and a rest
pub record Takes (bytes text rest : List ℕ) : Type 0 where
  pub parts : bytes ≡ text ++ rest
  pub rest_is_bytes : IsBytes rest

pub takes_then : (a x b y c : List ℕ) → Takes a x b → Takes b y c → Takes a (x ++ y) c
takes_then a x b y c p q = record { parts = p.parts ∙ ap (λ (t : List ℕ). x ++ t) q.parts ∙ sym (append_assoc x y c); rest_is_bytes = q.rest_is_bytes }

-- A reader takes what a text spells, and only what fits, and reads each that fits again from its text.
pub record ReadsExactly {A : Type 0} (read : Reads A) (text : A → List ℕ) (Fits : A → Type 0) : Type 0 where
  pub takes : (bytes : List ℕ) (x : A × List ℕ) → IsBytes bytes → read bytes ≡ Ok x → Takes bytes (text x.0) x.1 × Fits x.0
  pub again : (x : A) (rest : List ℕ) → Fits x → read (text x ++ rest) ≡ Ok (x, rest)

-- ---- numbers

record IsWide (w : Width) (limit : ℕ) : Type 0 where
  pub len : (n : ℕ) → length (to_le_bytes w n) ≡ byte_len w
  pub back : (bytes : List ℕ) → length bytes ≡ byte_len w → IsBytes bytes → to_le_bytes w (from_le_bytes w bytes) ≡ bytes
  pub again : (n : ℕ) → n < limit → from_le_bytes w (to_le_bytes w n) ≡ n
  pub below : (bytes : List ℕ) → length bytes ≡ byte_len w → IsBytes bytes → from_le_bytes w bytes < limit

wide16 : IsWide w16 (2 ^ 16)
wide16 = record {
  len = λ n. refl;
  back = λ bytes len fits. le_bytes_2 bytes _ len fits refl;
  again = λ n lt. from_le_bytes-to_le_bytes_2 n lt;
  below = λ bytes len fits. omega (arith, fits 0, fits 1);
}

wide32 : IsWide w32 (2 ^ 32)
wide32 = record {
  len = λ n. refl;
  back = λ bytes len fits. le_bytes_4 bytes _ len fits refl;
  again = λ n lt. from_le_bytes-to_le_bytes_4 n lt;
  below = λ bytes len fits. omega (arith, fits 0, fits 1, fits 2, fits 3);
}

wide128 : IsWide w128 (2 ^ 128)
wide128 = record {
  len = λ n. refl;
  back = λ bytes len fits. written_again bytes (record { count = len; below = fits });
  again = read_again;
  below = λ bytes len fits. sixteen_below bytes (record { count = len; below = fits });
}

pub guard_ok : {A : Type 0} (b : Bool) (error : ImageError) (x y : A) → cond b (Err error) (Ok x) ≡ Ok y → (b ≡ false) × (x ≡ y)
guard_ok true error x y e = absurd cc
guard_ok false error x y e = (refl, cc)

wide_takes : (w : Width) (limit : ℕ) (wide : IsWide w limit) (size : ℕ) (bytes : List ℕ) (x : ℕ × List ℕ) → IsBytes bytes → number_at w size bytes ≡ Ok x → Takes bytes (to_le_bytes w x.0) x.1 × (x.0 < limit)
wide_takes w limit wide size bytes x is_bytes e =
    let read : ℕ × List ℕ = (from_le_bytes w (take (byte_len w) bytes), drop (byte_len w) bytes) in
    let g = guard_ok (ltb (length bytes) (byte_len w)) (Short size) read x e in
    let long : byte_len w ≤ length bytes = ltb-false _ _ g.0 in
    let len : length (take (byte_len w) bytes) ≡ byte_len w = omega (arith, length-take (byte_len w) bytes) in
    let prefix : to_le_bytes w read.0 ≡ take (byte_len w) bytes = wide.back (take (byte_len w) bytes) len (IsBytes-take (byte_len w) bytes is_bytes) in
    let parts : bytes ≡ to_le_bytes w read.0 ++ drop (byte_len w) bytes = rw prefix (sym (take-append-drop (byte_len w) bytes)) in
    subst (λ (y : ℕ × List ℕ). Takes bytes (to_le_bytes w y.0) y.1 × (y.0 < limit)) g.1 (record { parts = parts; rest_is_bytes = IsBytes-drop (byte_len w) bytes is_bytes }, wide.below (take (byte_len w) bytes) len (IsBytes-take (byte_len w) bytes is_bytes))

wide_again : (w : Width) (limit : ℕ) (wide : IsWide w limit) (size n : ℕ) (rest : List ℕ) → n < limit → number_at w size (to_le_bytes w n ++ rest) ≡ Ok (n, rest)
wide_again w limit wide size n rest lt =
    let len = wide.len n in
    let long : ltb (length (to_le_bytes w n ++ rest)) (byte_len w) ≡ false = le-ltb _ _ (omega (arith, length-append (to_le_bytes w n) rest)) in
    rw (long, take_at (to_le_bytes w n) rest (byte_len w) len, drop_at (to_le_bytes w n) rest (byte_len w) len, wide.again n lt) refl

-- a number that is tested
tested_takes : (w : Width) (limit : ℕ) (wide : IsWide w limit) (size : ℕ) (test : ℕ → Bool) (error : ℕ → ImageError) (bytes : List ℕ) (x : ℕ × List ℕ) → IsBytes bytes → tested_at w size test error bytes ≡ Ok x → Takes bytes (to_le_bytes w x.0) x.1 × (x.0 < limit) × (test x.0 ≡ true)
unfolding tested_at
tested_takes w limit wide size test error bytes x is_bytes e =
    on_ok (number_at w size bytes) _ x e λ n n-is e1.
    on_ok (demand (test n.0) (error n.0)) _ x e1 λ u u-is e2.
    let t = wide_takes w limit wide size bytes n is_bytes n-is in
    subst (λ (y : ℕ × List ℕ). Takes bytes (to_le_bytes w y.0) y.1 × (y.0 < limit) × (test y.0 ≡ true)) (ok_is n x e2) (t.0, t.1, demanded _ _ u u-is)

tested_again : (w : Width) (limit : ℕ) (wide : IsWide w limit) (size : ℕ) (test : ℕ → Bool) (error : ℕ → ImageError) (n : ℕ) (rest : List ℕ) → n < limit → test n ≡ true → tested_at w size test error (to_le_bytes w n ++ rest) ≡ Ok (n, rest)
unfolding tested_at
tested_again w limit wide size test error n rest lt fits = rw (wide_again w limit wide size n rest lt, fits) refl

pub tested_fits : (w : Width) (size : ℕ) (test : ℕ → Bool) (error : ℕ → ImageError) (bytes : List ℕ) (x : ℕ × List ℕ) → tested_at w size test error bytes ≡ Ok x → test x.0 ≡ true
unfolding tested_at
tested_fits w size test error bytes x e =
    on_ok (number_at w size bytes) _ x e λ n n-is e1.
    on_ok (demand (test n.0) (error n.0)) _ x e1 λ u u-is e2.
    subst (λ (y : ℕ × List ℕ). test y.0 ≡ true) (ok_is n x e2) (demanded _ _ u u-is)

-- ---- the numbers of the format

pub number_exact : (size : ℕ) → ReadsExactly (number_at w32 size) number (λ n. is_u32 n ≡ true)
unfolding number
number_exact size = record {
  takes = λ bytes x is_bytes e. let t = wide_takes w32 (2 ^ 32) wide32 size bytes x is_bytes e in (t.0, lt-ltb _ _ t.1);
  again = λ n rest fits. wide_again w32 (2 ^ 32) wide32 size n rest (ltb-true _ _ fits);
}

-- a number of sixteen bytes
wide_number_exact : (size : ℕ) → ReadsExactly (number_at w128 size) wide_number (λ n. is_mask Two n ≡ true)
unfolding wide_number
wide_number_exact size = record {
  takes = λ bytes x is_bytes e. let t = wide_takes w128 (2 ^ 128) wide128 size bytes x is_bytes e in (t.0, lt-ltb _ _ t.1);
  again = λ n rest fits. wide_again w128 (2 ^ 128) wide128 size n rest (ltb-true _ _ fits);
}

-- a set of compartments
pub mask_exact : (version : Version) (size : ℕ) → ReadsExactly (mask_at version size) (mask_spelling version) (λ n. is_mask version n ≡ true)
mask_exact One size = number_exact size
mask_exact Two size = wide_number_exact size

-- a number that four bytes hold, and that its test takes
pub tested_exact : (size : ℕ) (test : ℕ → Bool) (error : ℕ → ImageError) → ReadsExactly (tested_at w32 size test error) number (λ n. (n < 2 ^ 32) × (test n ≡ true))
unfolding number
tested_exact size test error = record {
  takes = λ bytes x is_bytes e. let t = tested_takes w32 (2 ^ 32) wide32 size test error bytes x is_bytes e in (t.0, (t.1, t.2));
  again = λ n rest fits. tested_again w32 (2 ^ 32) wide32 size test error n rest fits.0 fits.1;
}

-- a number of two bytes
pub plain_half_exact : (size : ℕ) → ReadsExactly (number_at w16 size) half (λ n. n < 2 ^ 16)
unfolding half
plain_half_exact size = record {
  takes = λ bytes x is_bytes e. wide_takes w16 (2 ^ 16) wide16 size bytes x is_bytes e;
  again = λ n rest fits. wide_again w16 (2 ^ 16) wide16 size n rest fits;
}

-- and one that its test takes
pub half_exact : (size : ℕ) (test : ℕ → Bool) (error : ℕ → ImageError) → ReadsExactly (tested_at w16 size test error) half (λ n. (n < 2 ^ 16) × (test n ≡ true))
unfolding half
half_exact size test error = record {
  takes = λ bytes x is_bytes e. let t = tested_takes w16 (2 ^ 16) wide16 size test error bytes x is_bytes e in (t.0, (t.1, t.2));
  again = λ n rest fits. tested_again w16 (2 ^ 16) wide16 size test error n rest fits.0 fits.1;
}
