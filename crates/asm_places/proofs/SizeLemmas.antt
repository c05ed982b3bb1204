-- The sizes that lines ask for are in their ranges.
use Rattle.std.proofs.Common.{◌≡◌, ℕ, Bool, true, false, T, List, [], ◌∷◌, Some, None, Option, refl, sym, subst, rules}
use Rattle.std.specs.Prelude.{ℤ, pos, negsuc, IsTrue, Result, Ok, Err, is_err, if◌then◌else◌}
use Rattle.std.specs.Option.{ok_or}
use Rattle.image_format.specs.Conditions.{is_harts, is_ram}
use Rattle.asm_read.specs.declared.errors.AsmError.{AsmError}
use Rattle.asm_read.specs.declared.errors.AsmErrorKind.TheVariants as kinds
use Rattle.asm_read.specs.declared.statements.Line.{Line}
use Rattle.asm_read.specs.Source.{at_line}
use Rattle.asm_places.specs.Sizes.{asked_from, harts_in, harts_of, natural_where, ram_in, ram_of}

-- no result is both
pub refused : {P A E : Type 0} (e : E) (x : A) → Err e ≡ Ok x → P
refused {A = A} {E = E} e x is = absurd (subst (λ (r : Result A E). T (is_err r)) is tt)

-- what is given meets its condition
natural_fits : (fits : ℕ → Bool) (number : ℤ) (n : ℕ) (line : ℕ) → at_line line (ok_or (natural_where fits number) kinds.Range) ≡ Ok n → IsTrue (fits n)
natural_fits fits (negsuc m) n line is = refused _ n is
natural_fits fits (pos m) n line is = go (fits m) refl is
  where
    go : (t : Bool) → fits m ≡ t → at_line line (ok_or (if t then Some m else None) kinds.Range) ≡ Ok n → IsTrue (fits n)
    go true e is = let same : m ≡ n = cc in subst (λ k. IsTrue (fits k)) same (subst IsTrue (sym e) (search rules))
    go false e is = refused _ n is

asked_fits : (fits : ℕ → Bool) (line : ℕ) (wanted : Option ℤ) (others : Result ℕ AsmError) (n : ℕ) → (others ≡ Ok n → IsTrue (fits n)) → asked_from (natural_where fits) line wanted others ≡ Ok n → IsTrue (fits n)
asked_fits fits line None others n more is = more is
asked_fits fits line (Some number) others n more is = natural_fits fits number n line is

pub harts_fit : (lines : List Line) (harts : ℕ) → harts_of lines ≡ Ok harts → IsTrue (is_harts harts)
harts_fit [] harts is = let same : 1 ≡ harts = cc in subst (λ n. IsTrue (is_harts n)) same (search rules)
harts_fit (line ∷ lines) harts is = asked_fits is_harts line.number (harts_in line.statement) (harts_of lines) harts (harts_fit lines harts) is

pub ram_fits : (lines : List Line) (ram : ℕ) → ram_of lines ≡ Ok ram → IsTrue (is_ram ram)
ram_fits [] ram is = let same : 65536 ≡ ram = cc in subst (λ n. IsTrue (is_ram n)) same (search rules)
ram_fits (line ∷ lines) ram is = asked_fits is_ram line.number (ram_in line.statement) (ram_of lines) ram (ram_fits lines ram) is
