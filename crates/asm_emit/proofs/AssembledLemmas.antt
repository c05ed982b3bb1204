-- From the layout and the draft of all lines to the image.
use Rattle.std.proofs.Common.{◌≡◌, ℕ, List, refl, ap, subst}
use Rattle.std.specs.Prelude.{Result, Ok, Err}
use Rattle.asm_read.specs.declared.errors.AsmEnd.{AsmEnd}
use Rattle.asm_read.specs.declared.errors.AsmEnd.TheVariants as ends
use Rattle.asm_read.specs.declared.errors.AsmError.{AsmError}
use Rattle.asm_read.specs.declared.statements.Line.{Line}
use Rattle.asm_read.specs.Source.{FailsAs}
use Rattle.asm_words.specs.Emission.{Places}
use Rattle.asm_places.specs.Layouts.{Layout, layout_of}
use Rattle.asm_places.specs.Names.{place_of_name}
use Rattle.asm_emit.specs.declared.values.Addition.{Addition}
use Rattle.asm_emit.specs.Assembled.{additions_of, picture_of_lines, draft_with, picture_at}
use Rattle.asm_emit.specs.Draft.{Draft, empty_draft, picture_of, with_additions}

refused : (draft : Draft) (r : Result (List (ℕ × Addition)) AsmError) (error : AsmError) → draft_with draft r ≡ Err error → r ≡ Err error
refused draft (Ok additions) error is = absurd cc
refused draft (Err other) error is = let same : other ≡ error = cc in rw same refl

-- the additions that a draft is made of
record MadeOf (first : Draft) (r : Result (List (ℕ × Addition)) AsmError) (draft : Draft) : Type 0 where
  additions : List (ℕ × Addition)
  is : r ≡ Ok additions
  made : with_additions first additions ≡ draft

made_of : (first : Draft) (r : Result (List (ℕ × Addition)) AsmError) (draft : Draft) → draft_with first r ≡ Ok draft → MadeOf first r draft
made_of first (Ok additions) draft is = record { additions = additions; is = refl; made = cc }
made_of first (Err error) draft is = absurd cc

-- the additions of the lines of a layout, with the names as they are known
abbrev additions_by : Places → List Line → Layout → Result (List (ℕ × Addition)) AsmError
additions_by names lines layout = additions_of layout.version layout.harts layout.ram names lines layout.places

abbrev names_in : List Line → Layout → Places
names_in lines layout = place_of_name lines layout.places layout.end

own : (names : Places) (lines : List Line) (layout : Layout) (r : Result (List (ℕ × Addition)) AsmError) → ((name : List ℕ) → names name ≡ names_in lines layout name)
    → additions_by names lines layout ≡ r → additions_by (names_in lines layout) lines layout ≡ r
own names lines layout r named is = subst (λ (f : Places). additions_by f lines layout ≡ r) (λ i name. named name i) is

pub fails_on : (names : Places) (lines : List Line) (layout : Layout) (end : AsmEnd) → layout_of lines ≡ Ok layout → ((name : List ℕ) → names name ≡ names_in lines layout name)
    → FailsAs end (draft_with (empty_draft layout.version layout.harts) (additions_by names lines layout)) → FailsAs end (picture_of_lines lines)
unfolding picture_of_lines picture_at
fails_on names lines layout ends.Memory found named fails = tt
fails_on names lines layout (ends.Bad error) found named fails =
    let additions = own names lines layout (Err error) named (refused (empty_draft layout.version layout.harts) (additions_by names lines layout) error fails) in
    rw (found, additions) refl

pub gives_all : (names : Places) (lines : List Line) (layout : Layout) (draft : Draft) → layout_of lines ≡ Ok layout → ((name : List ℕ) → names name ≡ names_in lines layout name)
    → draft_with (empty_draft layout.version layout.harts) (additions_by names lines layout) ≡ Ok draft → picture_of_lines lines ≡ Ok (picture_of layout.ram draft)
unfolding picture_of_lines picture_at
gives_all names lines layout draft found named gives =
    let m = made_of (empty_draft layout.version layout.harts) (additions_by names lines layout) draft gives in
    let additions = own names lines layout (Ok m.additions) named m.is in
    rw (found, additions) (ap (λ (d : Draft). Ok (picture_of layout.ram d)) m.made)
