-- The places of lines, one behind the other, up to the first error.
use Rattle.std.proofs.Common.{◌≡◌, ℕ, ◌+◌, ◌*◌, ◌%◌, ◌<◌, ◌≤◌, Bool, true, false, List, [], ◌∷◌, ◌++◌, length, get_or, take, drop, Some, None, Option, refl, sym, ap, subst, ◌∙◌, append_assoc, suc, arith}
use Rattle.std.specs.Prelude.{ℤ, pos, negsuc, All, not, nat_le, Result, Ok, Err, if◌then◌else◌}
use Rattle.std.specs.Option.{ok_or}
use Rattle.std.proofs.lemmas.Bool.Decides.{nat_tests}
use Rattle.std.proofs.lemmas.List.{append-nil, at_drop_all, drop_more, take_more}
use Rattle.std.proofs.lemmas.List.Elements.{All-cons, All-nil}
use Rattle.asm_read.specs.declared.errors.AsmError.{AsmError}
use Rattle.asm_read.specs.declared.errors.AsmErrorKind.{AsmErrorKind}
use Rattle.asm_read.specs.declared.errors.AsmErrorKind.TheVariants as kinds
use Rattle.asm_read.specs.declared.statements.Line.{Line}
use Rattle.asm_read.specs.Source.{at_line}
use Rattle.asm_read.proofs.LineLemmas.{of_line}
use Rattle.shared_terms.specs.Steps.{◌>>=◌, demand}
use Rattle.asm_places.specs.Counts.{count_in}
use Rattle.asm_places.specs.Places.{IsReached, goes_back, is_reached, place_after_line, next_place, origin_in, places_from}
use Rattle.asm_places.specs.Seen.{is_again, is_named}
use Rattle.asm_places.proofs.SizeLemmas.{refused}

-- ---- all lines

-- what was placed before, and what is still placed
abbrev pub with_prefix : List ℕ → Result (List ℕ × ℕ) AsmError → Result (List ℕ × ℕ) AsmError
with_prefix prefix (Ok placed) = Ok (prefix ++ placed.0, placed.1)
with_prefix prefix (Err error) = Err error

regroup : (prefix : List ℕ) (place : ℕ) (placed : Result (List ℕ × ℕ) AsmError)
    → with_prefix prefix (placed >>= λ others. Ok (place ∷ others.0, others.1)) ≡ with_prefix (prefix ++ place ∷ []) placed
regroup prefix place (Ok others) = ap (λ (all : List ℕ). Ok (all, others.1)) (sym (append_assoc prefix (place ∷ []) others.0))
regroup prefix place (Err error) = refl

-- nothing is placed yet
pub starts : (total : Result (List ℕ × ℕ) AsmError) → with_prefix [] total ≡ total
starts (Ok placed) = refl
starts (Err error) = refl

one : (prefix : List ℕ) (ram place behind : ℕ) (before more : List Line) (line : Line) → at_line line.number (next_place ram before place line) ≡ Ok behind
    → with_prefix prefix (places_from ram before place (line ∷ more)) ≡ with_prefix (prefix ++ place ∷ []) (places_from ram (before ++ line ∷ []) behind more)
unfolding places_from
one prefix ram place behind before more line is = rw is (regroup prefix place (places_from ram (before ++ line ∷ []) behind more))

-- the lines up to the next
pub take_line : (lines : List Line) (i : ℕ) (line : Line) → i < length lines → line ≡ get_or lines i line → take (i + 1) lines ≡ take i lines ++ line ∷ []
take_line lines i line below is = take_more lines i line below ∙ ap (λ (l : Line). take i lines ++ l ∷ []) (sym is)

-- a line was placed: the loop goes on behind it
pub goes_on : (prefix : List ℕ) (ram place behind : ℕ) (lines : List Line) (i : ℕ) (line : Line) (total : Result (List ℕ × ℕ) AsmError) → i < length lines → line ≡ get_or lines i line
    → at_line line.number (next_place ram (take i lines) place line) ≡ Ok behind → with_prefix prefix (places_from ram (take i lines) place (drop i lines)) ≡ total
    → with_prefix (prefix ++ place ∷ []) (places_from ram (take (i + 1) lines) behind (drop (i + 1) lines)) ≡ total
goes_on prefix ram place behind lines i line total below is placed so_far =
    let here : drop i lines ≡ line ∷ drop (i + 1) lines = drop_more lines i line below ∙ ap (λ (l : Line). l ∷ drop (i + 1) lines) (sym is) in
    ap (λ before. with_prefix (prefix ++ place ∷ []) (places_from ram before behind (drop (i + 1) lines))) (take_line lines i line below is)
    ∙ sym (ap (λ left. with_prefix prefix (places_from ram (take i lines) place left)) here ∙ one prefix ram place behind (take i lines) (drop (i + 1) lines) line placed)
    ∙ so_far

stop : (error : AsmError) (prefix : List ℕ) (ram place : ℕ) (before more : List Line) (line : Line) → at_line line.number (next_place ram before place line) ≡ Err error
    → with_prefix prefix (places_from ram before place (line ∷ more)) ≡ Err error
unfolding places_from
stop error prefix ram place before more line is = rw is refl

-- a line was refused, and so is the whole
pub stops : (error : AsmError) (prefix : List ℕ) (ram place : ℕ) (lines : List Line) (i : ℕ) (line : Line) (total : Result (List ℕ × ℕ) AsmError) → i < length lines → line ≡ get_or lines i line
    → at_line line.number (next_place ram (take i lines) place line) ≡ Err error → with_prefix prefix (places_from ram (take i lines) place (drop i lines)) ≡ total
    → total ≡ Err error
stops error prefix ram place lines i line total below is placed so_far =
    let here : drop i lines ≡ line ∷ drop (i + 1) lines = drop_more lines i line below ∙ ap (λ (l : Line). l ∷ drop (i + 1) lines) (sym is) in
    sym so_far ∙ ap (λ left. with_prefix prefix (places_from ram (take i lines) place left)) here ∙ stop error prefix ram place (take i lines) (drop (i + 1) lines) line placed

-- no line is left
pub is_done : (prefix : List ℕ) (ram place : ℕ) (lines : List Line) (i : ℕ) (total : Result (List ℕ × ℕ) AsmError) → length lines ≤ i
    → with_prefix prefix (places_from ram (take i lines) place (drop i lines)) ≡ total → total ≡ Ok (prefix, place)
unfolding places_from
is_done prefix ram place lines i total all so_far =
    sym so_far ∙ at_drop_all (λ left. with_prefix prefix (places_from ram (take i lines) place left)) lines i all ∙ ap (λ (places : List ℕ). Ok (places, place)) (append-nil prefix)

-- ---- what is reached

kept : (t : Bool) (n behind : ℕ) → ok_or (if t then Some n else None) kinds.Range ≡ Ok behind → (t ≡ true) × (n ≡ behind)
kept true n behind is = let same : n ≡ behind = cc in (refl, same)
kept false n behind is = refused kinds.Range behind is

moved-reached : (ram place : ℕ) (origin : Option ℤ) (words : Option ℕ) (behind : ℕ) → IsReached ram place → ok_or (place_after_line ram place origin words) kinds.Range ≡ Ok behind → IsReached ram behind
moved-reached ram place (Some (negsuc n)) words behind here is = refused kinds.Range behind is
moved-reached ram place (Some (pos n)) words behind here is =
    let k = kept (is_reached ram n) n behind is in
    let fits = k.0 in
    let aligned : n % 4 ≡ 0 = grind (arith, nat_tests, fits) in
    let inside : n ≤ ram = grind (arith, nat_tests, fits) in
    subst (IsReached ram) k.1 (record { aligned = aligned; inside = inside })
moved-reached ram place None None behind here is = refused kinds.Range behind is
moved-reached ram place None (Some words) behind here is =
    let k = kept (nat_le (place + 4 * words) ram) (place + 4 * words) behind is in
    let fits = k.0 in
    let was = here.aligned in
    let aligned : (place + 4 * words) % 4 ≡ 0 = omega (arith, was) in
    let inside : place + 4 * words ≤ ram = grind (arith, nat_tests, fits) in
    subst (IsReached ram) k.1 (record { aligned = aligned; inside = inside })

demanded : (a b c : Bool) (r : Result ℕ AsmErrorKind) (behind : ℕ)
    → (demand (not a) kinds.Duplicate >>= λ new. demand (not b) kinds.Order >>= λ once. demand (not c) kinds.Order >>= λ onward. r) ≡ Ok behind → r ≡ Ok behind
demanded true b c r behind is = refused kinds.Duplicate behind is
demanded false true c r behind is = refused kinds.Order behind is
demanded false false true r behind is = refused kinds.Order behind is
demanded false false false r behind is = is

-- the place behind a line is reached from its own
pub next-reached : (ram : ℕ) (before : List Line) (place : ℕ) (line : Line) (behind : ℕ) → IsReached ram place → at_line line.number (next_place ram before place line) ≡ Ok behind → IsReached ram behind
unfolding next_place
next-reached ram before place line behind here is =
    moved-reached ram place (origin_in line.statement) (count_in line.statement) behind here
    (demanded (is_named line.label before) (is_again line.statement before) (goes_back place line.statement) (ok_or (place_after_line ram place (origin_in line.statement) (count_in line.statement)) kinds.Range) behind
    (of_line line.number (next_place ram before place line) behind is))

pub zero_reached : (ram : ℕ) → IsReached ram 0
zero_reached ram = record { aligned = refl; inside = omega arith }

-- as many places as lines, each of them reached, and the end
pub record ArePlaced (ram : ℕ) (lines : List Line) (placed : List ℕ × ℕ) : Type 0 where
  pub count : length placed.0 ≡ length lines
  pub places : All (IsReached ram) placed.0
  pub end : IsReached ram placed.1

-- from each place that is reached
abbrev AllPlaced : ℕ → List Line → List Line → Type 0
AllPlaced ram before lines = (place : ℕ) (placed : List ℕ × ℕ) → IsReached ram place → places_from ram before place lines ≡ Ok placed → ArePlaced ram lines placed

pub are_placed : (ram : ℕ) (before : List Line) (place : ℕ) (lines : List Line) (placed : List ℕ × ℕ) → IsReached ram place → places_from ram before place lines ≡ Ok placed → ArePlaced ram lines placed
unfolding places_from
are_placed ram before place [] placed here is =
    let same : ([], place) ≡ placed = cc in
    subst (ArePlaced ram []) same (record { count = refl; places = All-nil (IsReached ram); end = here })
are_placed ram before place (line ∷ lines) placed here is = go (λ behind others. are_placed ram (before ++ line ∷ []) behind lines others) (at_line line.number (next_place ram before place line)) refl is
  where
    end : AllPlaced ram (before ++ line ∷ []) lines → (behind : ℕ) (r : Result (List ℕ × ℕ) AsmError) → IsReached ram behind → places_from ram (before ++ line ∷ []) behind lines ≡ r
        → (r >>= λ others. Ok (place ∷ others.0, others.1)) ≡ Ok placed → ArePlaced ram (line ∷ lines) placed
    end placed_behind behind (Err error) there e is = refused error placed is
    end placed_behind behind (Ok others) there e is =
        let more = placed_behind behind others there e in
        let same : (place ∷ others.0, others.1) ≡ placed = cc in
        subst (ArePlaced ram (line ∷ lines)) same (record { count = ap suc more.count; places = All-cons (IsReached ram) place others.0 here more.places; end = more.end })

    go : AllPlaced ram (before ++ line ∷ []) lines → (r : Result ℕ AsmError) → at_line line.number (next_place ram before place line) ≡ r
        → (r >>= λ behind. places_from ram (before ++ line ∷ []) behind lines >>= λ others. Ok (place ∷ others.0, others.1)) ≡ Ok placed → ArePlaced ram (line ∷ lines) placed
    go placed_behind (Err error) e is = refused error placed is
    go placed_behind (Ok behind) e is = end placed_behind behind (places_from ram (before ++ line ∷ []) behind lines) (next-reached ram before place line behind here e) refl is

-- all lines are placed from 0 on
pub all_placed : (ram : ℕ) (lines : List Line) (placed : List ℕ × ℕ) → places_from ram [] 0 lines ≡ Ok placed → ArePlaced ram lines placed
all_placed ram lines placed is = are_placed ram [] 0 lines placed (zero_reached ram) is
