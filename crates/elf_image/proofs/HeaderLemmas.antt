-- What the conditions of a file's header and of its rows come to.
use Rattle.std.proofs.Common.{◌≡◌, ℕ, true, false, List, [], Ok, Err, refl}
use Rattle.shared_terms.specs.Steps.{demand}
use Rattle.shared_terms.proofs.StepLemmas.{demanded, on_ok}
use Rattle.image_format.specs.Conditions.{is_place}
use Rattle.elf_image.specs.Conditions.{header_of, segments_from, segments_of}
use Rattle.elf_image.specs.Headers.{header_count, word_at}
use Rattle.elf_image.specs.declared.errors.ElfError.{ElfError}
use Rattle.elf_image.specs.declared.errors.ElfError.TheVariants as error
use Rattle.elf_image.specs.declared.headers.ProgramHeader.{ProgramHeader}

pub header_refused : (elf : List ℕ) (ram : ℕ) (why : ElfError) → header_of elf ≡ Err why → segments_of elf ram ≡ Err why
unfolding segments_of
header_refused elf ram why refused = rw refused refl

pub rows_refused : (elf : List ℕ) (ram : ℕ) (u : Unit {0}) (why : ElfError) → header_of elf ≡ Ok u → segments_from elf ram 0 (header_count elf) [] ≡ Err why → segments_of elf ram ≡ Err why
unfolding segments_of
rows_refused elf ram u why taken refused = rw (taken, refused) refl

pub entry_refused : (elf : List ℕ) (ram : ℕ) (u : Unit {0}) (segments : List ProgramHeader) → header_of elf ≡ Ok u → segments_from elf ram 0 (header_count elf) [] ≡ Ok segments
    → is_place ram (word_at elf 24) ≡ false → segments_of elf ram ≡ Err error.Entry
unfolding segments_of
entry_refused elf ram u segments taken read entry = rw (taken, read, entry) refl

pub all_taken : (elf : List ℕ) (ram : ℕ) (u : Unit {0}) (segments : List ProgramHeader) → header_of elf ≡ Ok u → segments_from elf ram 0 (header_count elf) [] ≡ Ok segments
    → is_place ram (word_at elf 24) ≡ true → segments_of elf ram ≡ Ok segments
unfolding segments_of
all_taken elf ram u segments taken read entry = rw (taken, read, entry) refl

-- the entry of a file that is taken
pub entry_taken : (elf : List ℕ) (ram : ℕ) (segments : List ProgramHeader) → segments_of elf ram ≡ Ok segments → is_place ram (word_at elf 24) ≡ true
unfolding segments_of
entry_taken elf ram segments e =
    on_ok (header_of elf) _ segments e λ header header-is e1.
    on_ok (segments_from elf ram 0 (header_count elf) []) _ segments e1 λ read read-is e2.
    on_ok (demand (is_place ram (word_at elf 24)) error.Entry) _ segments e2 λ entry entry-is e3.
    demanded _ _ entry entry-is
