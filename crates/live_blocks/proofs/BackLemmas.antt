-- What a block leaves where it goes, and where it comes back to.
use Rattle.std.proofs.Common.{◌≡◌, ◌≢◌, ℕ, zero, ◌<◌, ◌==◌, Bool, true, false, cond, not, List, [], ◌∷◌, ◌++◌, append-nil, get_or, Some, refl, sym, ap, subst, ◌∙◌, inl, inr, arith}
use mathlib.Core.Bool.{false≢true}
use Rattle.std.specs.List.{All, AllPairs, Contains, filter, find}
use Rattle.std.proofs.lemmas.Bool.{cases_lt, eqb-true, le-ltb, lt-ltb}
use Rattle.std.proofs.lemmas.List.{get_or_default}
use Rattle.std.proofs.lemmas.List.Elements.{All-contains, All-contains_itself, All-filter, All-tail, filter-append, filter_passes}
use Rattle.std.proofs.lemmas.Option.{none-some, same_Some}
use Rattle.live_blocks.specs.declared.block.Block.{Block}
use Rattle.live_blocks.specs.Run.{AreNumbered}
use Rattle.live_blocks.specs.Space.{IsApart, IsSpace, IsWithin, LiesFree, Space, by_number, without_block}
use Rattle.live_blocks.proofs.ListLemmas.{filter_keeps, found, pairs_head, pairs_tail}
use Rattle.live_blocks.proofs.RemoveLemmas.{other_passes, same_fails}

-- ---- the newest block

-- it comes last
pub put_newest : (live : List Block) (block : Block) → All (λ other. other.number < block.number) live → by_number live block ≡ live ++ block ∷ []
put_newest [] block newest = refl
put_newest (head ∷ others) block newest =
    rw (lt-ltb head.number block.number (newest zero head (omega arith)))
    (ap (λ (l : List Block). head ∷ l) (put_newest others block (All-tail (λ other. other.number < block.number) head others newest)))

-- no other has its number
pub newest_another : (live : List Block) (number : ℕ) → All (λ other. other.number < number) live → All (λ other. other.number ≢ number) live
newest_another live number newest k d lower same = omega (arith, newest k d lower)

-- and where it goes, the others are left
pub newest_goes : (live : List Block) (block : Block) (number : ℕ) → block.number ≡ number → All (λ other. other.number < number) live
    → filter (λ other. not (other.number == number)) (live ++ block ∷ []) ≡ live
newest_goes live block number is newest =
    let test = λ (other : Block). not (other.number == number) in
    filter-append test live (block ∷ [])
    ∙ rw (filter_keeps test live (λ k d lower. other_passes _ number (newest_another live number newest k d lower)), same_fails block.number number is) (append-nil live)

-- ---- a block that was live before

-- the oldest block comes first
put_oldest : (others : List Block) (block : Block) → All (λ other. block.number < other.number) others → by_number others block ≡ block ∷ others
put_oldest [] block oldest = refl
put_oldest (head ∷ others) block oldest = rw (le-ltb head.number block.number (omega (arith, oldest zero head (omega arith)))) refl

put_back_by : (head : Block) (others : List Block) (number : ℕ) (block : Block) (test : Bool) → (head.number == number) ≡ test
    → AreNumbered (head ∷ others) → cond test (Some head) (find (λ other. other.number == number) others) ≡ Some block
    → (find (λ other. other.number == number) others ≡ Some block → by_number (filter (λ other. not (other.number == number)) others) block ≡ others)
    → by_number (cond (not test) (head ∷ filter (λ other. not (other.number == number)) others) (filter (λ other. not (other.number == number)) others)) block ≡ head ∷ others
put_back_by head others number block true is numbered is_found next =
    let above : All (λ other. head.number < other.number) others = pairs_head (λ x y. x.number < y.number) head others numbered in
    let number_is : head.number ≡ number = eqb-true head.number number is in
    subst (λ (b : Block). by_number (filter (λ other. not (other.number == number)) others) b ≡ head ∷ others) (same_Some head block is_found)
    (rw (filter_keeps (λ other. not (other.number == number)) others (λ k d lower. other_passes _ number (λ same. omega (arith, above k d lower))))
    (put_oldest others head above))
put_back_by head others number block false is numbered is_found next =
    let among = (found (λ other. other.number == number) others block is_found).among in
    let above : All (λ other. head.number < other.number) others = pairs_head (λ x y. x.number < y.number) head others numbered in
    rw (lt-ltb head.number block.number (All-contains (λ (b : Block). head.number < b.number) others block above among))
    (ap (λ (l : List Block). head ∷ l) (next is_found))

-- one that was found and went comes back to where it was
pub put_back : (live : List Block) (number : ℕ) (block : Block) → AreNumbered live → find (λ other. other.number == number) live ≡ Some block
    → by_number (filter (λ other. not (other.number == number)) live) block ≡ live
put_back [] number block numbered is_found = absurd (none-some block is_found)
put_back (head ∷ others) number block numbered is_found =
    put_back_by head others number block (head.number == number) refl numbered is_found
    (λ later. put_back others number block (pairs_tail (λ x y. x.number < y.number) head others numbered) later)

-- ---- a block that goes

-- no block that is left has its number
pub gone : (live : List Block) (number : ℕ) → All (λ other. other.number ≢ number) (filter (λ other. not (other.number == number)) live)
gone live number k d lower same =
    absurd (false≢true (sym (same_fails _ number same) ∙ filter_passes (λ (other : Block). not (other.number == number)) live k d lower))

-- two live blocks of different numbers meet at no word
apart : (live : List Block) → AllPairs (λ x y. IsApart x.base x.words y) live → (x block : Block) → Contains live x → Contains live block
    → x.number ≢ block.number → IsApart block.base block.words x
apart live disjoint x block has_x has_block differs =
    let block_is : get_or live has_block.0 x ≡ block = get_or_default live has_block.0 x block has_block.1 ∙ has_block.2 in
    elim (cases_lt has_x.0 has_block.0) [
      | inl before ↦
          let pair : IsApart (get_or live has_x.0 x).base (get_or live has_x.0 x).words (get_or live has_block.0 x) = disjoint has_x.0 has_block.0 x before has_block.1 in
          let told : IsApart x.base x.words block = subst (λ (y : Block). IsApart x.base x.words y) block_is
          (subst (λ (y : Block). IsApart y.base y.words (get_or live has_block.0 x)) has_x.2 pair) in
          elim told [ inl first ↦ inr first | inr second ↦ inl second ]
      | inr from ↦ elim (cases_lt has_block.0 has_x.0) [
        | inl after ↦
            let pair : IsApart (get_or live has_block.0 x).base (get_or live has_block.0 x).words (get_or live has_x.0 x) = disjoint has_block.0 has_x.0 x after has_x.1 in
            subst (λ (y : Block). IsApart block.base block.words y) has_x.2
            (subst (λ (y : Block). IsApart y.base y.words (get_or live has_x.0 x)) block_is pair)
        | inr to ↦
            let place_is : has_x.0 ≡ has_block.0 = omega arith in
            absurd (differs (ap (λ (y : Block). y.number) (sym has_x.2 ∙ (ap (λ k. get_or live k x) place_is ∙ block_is))))
      ]
    ]

-- its words lie free
pub goes_free : (space : Space) (number : ℕ) (block : Block) → IsSpace space → find (λ other. other.number == number) space.live ≡ Some block
    → LiesFree (without_block space number) block.words block.base
goes_free space number block is is_found =
    let test = λ (other : Block). not (other.number == number) in
    let live = found (λ (other : Block). other.number == number) space.live block is_found in
    let number_is : block.number ≡ number = eqb-true block.number number live.passes in
    let within = All-contains (IsWithin space.base space.top) space.live block is.within live.among in
    record {
      from = within.from;
      to = within.to;
      free = λ k d lower. apart space.live is.disjoint (get_or (filter test space.live) k d) block
          (All-filter test (Contains space.live) space.live (All-contains_itself space.live) k d lower) live.among
          (λ same. gone space.live number k d lower (same ∙ number_is));
    }
