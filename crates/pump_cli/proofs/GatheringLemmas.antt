-- What a file and the input are read as.
use Rattle.std.proofs.Common.{◌≡◌, ℕ, ◌<◌, ◌≤◌, nat_le, if◌then◌else◌, arith, Bool, true, false, List, length, Option, Some, None, Result, Ok, Err, IfOk, IfSome, ap, subst, sym, ◌∙◌}
use Rattle.std.proofs.lemmas.Bool.Decides.{nat_tests}
use Rattle.shared_terms.specs.Steps.{result_view}
use Rattle.image_format.specs.Migrated.{migrated}
use Rattle.image_format.specs.Picture.{Picture}
use Rattle.image_format.specs.Reading.{image_of}
use Rattle.asm_emit.specs.Assembled.{image_of_source}
use Rattle.pump_cli.specs.Reading.{file_as, file_limit, image_or_refusal, image_read, input_limit, input_read, migrated_read, source_or_refusal, source_read, within_limit}
use Rattle.pump_cli.specs.declared.reading.EarlyEnd.{EarlyEnd}
use Rattle.pump_cli.specs.declared.refusal.Refusal.{Refusal}
use Rattle.pump_cli.specs.declared.refusal.Refusal.TheVariants.{TooLong}

fits : (n limit : ℕ) → n ≤ limit → nat_le n limit ≡ true
fits n limit within = grind (arith, nat_tests)

exceeds : (n limit : ℕ) → limit < n → nat_le n limit ≡ false
exceeds n limit past = grind (arith, nat_tests)

pub within : (bytes : List ℕ) → length bytes ≤ 33554432 → within_limit file_limit bytes ≡ Ok bytes
unfolding file_limit
within bytes is = ap (λ (short : Bool). if short then Ok bytes else Err TooLong) (fits (length bytes) 33554432 is)

past : (bytes : List ℕ) → 33554432 < length bytes → within_limit file_limit bytes ≡ Err TooLong
unfolding file_limit
past bytes is = ap (λ (short : Bool). if short then Ok bytes else Err TooLong) (exceeds (length bytes) 33554432 is)

abbrev bytes_as : List ℕ → Result (List ℕ) Refusal
bytes_as bytes = Ok bytes

-- what a load gave is what the file holds, where it is told
pub file_taken : (held : Option (List ℕ)) (bytes : List ℕ) → IfSome held (λ all. bytes ≡ all) → length bytes ≤ 33554432
    → IfSome held (λ all. within_limit file_limit all ≡ Ok bytes)
file_taken None bytes are is = tt
file_taken (Some all) bytes are is = subst (λ (file : List ℕ). within_limit file_limit file ≡ bytes_as bytes) are (within bytes is)

pub file_too_long : (held : Option (List ℕ)) → IfSome held (λ all. 33554432 < length all) → IfSome held (λ all. within_limit file_limit all ≡ Err TooLong)
file_too_long None is = tt
file_too_long (Some all) is = past all is

-- bytes that are lent
pub lent_taken : (held : Option (List ℕ)) (lent bytes : List ℕ) → lent ≡ bytes → IfSome held (λ all. within_limit file_limit all ≡ Ok bytes)
    → IfSome held (λ all. within_limit file_limit all ≡ Ok lent)
lent_taken held lent bytes is taken =
    subst (λ (file : List ℕ). IfSome held (λ all. within_limit file_limit all ≡ bytes_as file)) (sym is) taken

-- what its bytes are read as, and why there are none
module _ (read : List ℕ → Result Picture Refusal) where
  read_as : (held : Option (List ℕ)) (bytes : List ℕ) (result : Result Picture Refusal) → IfSome held (λ all. within_limit file_limit all ≡ Ok bytes)
      → read bytes ≡ result → IfSome held (λ all. file_as read (within_limit file_limit all) ≡ result)
  read_as None bytes result taken is = tt
  read_as (Some all) bytes result taken is = ap (file_as read) taken ∙ is

  unread_as : (held : Option (List ℕ)) (refusal : Refusal) → IfSome held (λ all. within_limit file_limit all ≡ Err refusal)
      → IfSome held (λ all. file_as read (within_limit file_limit all) ≡ Err refusal)
  unread_as None refusal is = tt
  unread_as (Some all) refusal is = ap (file_as read) is

abbrev as_picture : Picture → Result Picture Refusal
as_picture picture = Ok picture

abbrev as_refusal : Refusal → Result Picture Refusal
as_refusal refusal = Err refusal

module _ (held : Option (List ℕ)) (bytes : List ℕ) (taken : IfSome held (λ all. within_limit file_limit all ≡ Ok bytes)) where
  pub image_taken : (result : Result Picture EarlyEnd) → IfOk result (λ image. image_or_refusal (image_of bytes) ≡ Ok image)
      → IfOk result (λ image. IfSome held (λ all. image_read all ≡ Ok image))
  unfolding image_read
  image_taken (Ok image) is = read_as (λ file. image_or_refusal (image_of file)) held bytes (as_picture image) taken is
  image_taken (Err end) is = tt

  pub image_refused : (refusal : Refusal) → image_or_refusal (image_of bytes) ≡ Err refusal → IfSome held (λ all. image_read all ≡ Err refusal)
  unfolding image_read
  image_refused refusal is = read_as (λ file. image_or_refusal (image_of file)) held bytes (as_refusal refusal) taken is

  pub source_taken : (result : Result Picture EarlyEnd) → IfOk result (λ image. source_or_refusal (image_of_source bytes) ≡ Ok image)
      → IfOk result (λ image. IfSome held (λ all. source_read all ≡ Ok image))
  unfolding source_read
  source_taken (Ok image) is = read_as (λ file. source_or_refusal (image_of_source file)) held bytes (as_picture image) taken is
  source_taken (Err end) is = tt

  pub source_refused : (refusal : Refusal) → source_or_refusal (image_of_source bytes) ≡ Err refusal → IfSome held (λ all. source_read all ≡ Err refusal)
  unfolding source_read
  source_refused refusal is = read_as (λ file. source_or_refusal (image_of_source file)) held bytes (as_refusal refusal) taken is

-- a file that is refused for its length is refused as an image, and as a source
pub no_image_taken : (held : Option (List ℕ)) (refusal : Refusal) → IfSome held (λ all. within_limit file_limit all ≡ Err refusal) → IfSome held (λ all. image_read all ≡ Err refusal)
unfolding image_read
no_image_taken held refusal is = unread_as (λ file. image_or_refusal (image_of file)) held refusal is

pub no_source_taken : (held : Option (List ℕ)) (refusal : Refusal) → IfSome held (λ all. within_limit file_limit all ≡ Err refusal) → IfSome held (λ all. source_read all ≡ Err refusal)
unfolding source_read
no_source_taken held refusal is = unread_as (λ file. source_or_refusal (image_of_source file)) held refusal is

pub input_taken : (left : Option (List ℕ)) (fed : List ℕ) → IfSome left (λ all. fed ≡ all) → length fed ≤ 16777216
    → IfSome left (λ all. input_read all ≡ Ok fed)
unfolding input_read input_limit
input_taken None fed are within = tt
input_taken (Some all) fed are within =
    subst (λ (bytes : List ℕ). (if nat_le (length bytes) 16777216 then Ok bytes else Err TooLong) ≡ fed_as fed) are
    (ap (λ (short : Bool). if short then Ok fed else Err TooLong) (fits (length fed) 16777216 within))
  where
    fed_as : List ℕ → Result (List ℕ) Refusal
    fed_as bytes = Ok bytes

pub input_too_long : (left : Option (List ℕ)) → IfSome left (λ all. 16777216 < length all) → IfSome left (λ all. input_read all ≡ Err TooLong)
unfolding input_read input_limit
input_too_long None past = tt
input_too_long (Some all) past = ap (λ (short : Bool). if short then Ok all else Err TooLong) (exceeds (length all) 16777216 past)

-- an image that is refused is not migrated
pub migrated_refused : (held : Option (List ℕ)) (refusal : Refusal) → IfSome held (λ bytes. image_read bytes ≡ Err refusal)
    → IfSome held (λ bytes. migrated_read bytes ≡ Err refusal)
migrated_refused None refusal is = tt
migrated_refused (Some bytes) refusal is = ap (result_view migrated) is
