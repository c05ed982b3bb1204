-- Listings line by line, and the blocks of a heap one after another.
use Rattle.std.proofs.Common.{◌≡◌, ℕ, zero, suc, ◌+◌, ◌-◌, ◌<◌, ◌≤◌, List, [], ◌∷◌, ◌++◌, Option, Some, None, refl, ap, sym, subst, ◌∙◌, append-nil, append_assoc, arith}
use Rattle.host_io.specs.Pieces.{Piece, out}
use Rattle.policy_trait.specs.Model.{PolicyModel}
use Rattle.engine_trait.specs.Machine.{Machine}
use Rattle.shell_turns.specs.Cuts.{PutsOut}
use Rattle.shell_turns.specs.declared.ends.ObeyEnd.{ObeyEnd}
use Rattle.shell_turns.proofs.PutLemmas.{done, fails, puts_cut_in, puts_on}
use Rattle.shell_run.specs.Lines.{block_line}
use Rattle.shell_run.specs.Shown.{block_then, blocks, lines_from}

module _ (f : ℕ → List ℕ) where
  -- the first lines, and the others
  listed_on : (n more from : ℕ) → lines_from f from (n + more) ≡ lines_from f from n ++ lines_from f (from + n) more
  unfolding lines_from
  listed_on zero more from =
      let same : from ≡ from + 0 = omega arith in
      let all : 0 + more ≡ more = omega arith in
      λ j. lines_from f (same j) (all j)
  listed_on (suc n) more from =
      ap (lines_from f from) (let e : suc n + more ≡ suc (n + more) = omega arith in e)
      ∙ ap (λ rest. out (f from) ∷ rest) (listed_on n more (from + 1))
      ∙ ap (λ k. out (f from) ∷ (lines_from f (from + 1) n ++ lines_from f k more)) (let e : from + 1 + n ≡ from + suc n = omega arith in e)

  listed_one : (k : ℕ) → lines_from f k 1 ≡ out (f k) ∷ []
  unfolding lines_from
  listed_one k = refl

  pub listed_none : lines_from f 0 0 ≡ []
  unfolding lines_from
  listed_none = refl

  listed_next : (k : ℕ) → lines_from f 0 (k + 1) ≡ lines_from f 0 k ++ out (f k) ∷ []
  listed_next k = listed_on k 1 0 ∙ ap (λ line. lines_from f 0 k ++ line) (ap (λ n. lines_from f n 1) (let e : 0 + k ≡ k = omega arith in e) ∙ listed_one k)

  module _ (old now new : Option (List ℕ)) (k : ℕ) (puts : PutsOut old now (lines_from f 0 k) done) where
    pub listed_goes_on : PutsOut now new (out (f k) ∷ []) done → PutsOut old new (lines_from f 0 (k + 1)) done
    listed_goes_on one =
        subst (λ pieces. PutsOut old new pieces done) (sym (listed_next k)) (puts_on old now new (lines_from f 0 k) (out (f k) ∷ []) tt done puts one)

    pub listed_is_cut : (count : ℕ) → k < count → (A B : Type 0) (end told : ObeyEnd) → PutsOut now new (out (f k) ∷ []) (fails A end)
        → PutsOut old new (lines_from f 0 count) (fails B told)
    listed_is_cut count below A B end told one =
        let rest = lines_from f (0 + (k + 1)) (count - (k + 1)) in
        let all : lines_from f 0 count ≡ (lines_from f 0 k ++ out (f k) ∷ []) ++ rest
        = ap (lines_from f 0) (let e : count ≡ k + 1 + (count - (k + 1)) = omega (arith, below) in e)
        ∙ listed_on (k + 1) (count - (k + 1)) 0 ∙ ap (λ prefix. prefix ++ rest) (listed_next k) in
        subst (λ pieces. PutsOut old new pieces (fails B told)) (sym all)
        (puts_cut_in A B old new (lines_from f 0 k ++ out (f k) ∷ []) rest end told (puts_on old now new (lines_from f 0 k) (out (f k) ∷ []) tt (fails A end) puts one))

-- ---- blocks

module _ {S T : Type 0} (m : PolicyModel T S) (s : Machine S T) where
  blocks_zero : (place : ℕ) → blocks m s place 0 ≡ []
  unfolding blocks
  blocks_zero place = refl

  blocks_none : (place more : ℕ) → m.listed s.policy place ≡ None → blocks m s place more ≡ []
  unfolding blocks
  blocks_none place zero none = refl
  blocks_none place (suc more) none = ap (λ block. block_then block (blocks m s (place + 1) more)) none

  blocks_some : (place more : ℕ) (block : ℕ × ℕ × ℕ) → m.listed s.policy place ≡ Some block → blocks m s place (suc more) ≡ out (block_line block) ∷ blocks m s (place + 1) more
  unfolding blocks
  blocks_some place more block some = ap (λ block. block_then block (blocks m s (place + 1) more)) some

  -- blocks were told up to a place; the others are left
  abbrev pub BlockWay : ℕ → List Piece → Type 0
  BlockWay place pieces = (more : ℕ) → blocks m s 0 (place + more) ≡ pieces ++ blocks m s place more

  pub blocks_begin : BlockWay 0 []
  blocks_begin more = ap (blocks m s 0) (let e : 0 + more ≡ more = omega arith in e)

  module _ (place : ℕ) (pieces : List Piece) (way : BlockWay place pieces) (all : ℕ) where
    abbrev AllTold : Type 0
    AllTold = blocks m s 0 all ≡ pieces

    pub blocks_end : all ≡ place → AllTold
    blocks_end is =
        ap (blocks m s 0) (let e : all ≡ place + 0 = omega (arith, is) in e) ∙ way 0
        ∙ ap (λ rest. pieces ++ rest) (blocks_zero place) ∙ append-nil pieces

    pub blocks_stop : place ≤ all → m.listed s.policy place ≡ None → AllTold
    blocks_stop within none =
        ap (blocks m s 0) (let e : all ≡ place + (all - place) = omega (arith, within) in e) ∙ way (all - place)
        ∙ ap (λ rest. pieces ++ rest) (blocks_none place (all - place) none) ∙ append-nil pieces

    module _ (block : ℕ × ℕ × ℕ) (some : m.listed s.policy place ≡ Some block) where
      block_more : (more : ℕ) → blocks m s 0 (place + suc more) ≡ (pieces ++ out (block_line block) ∷ []) ++ blocks m s (place + 1) more
      block_more more =
          way (suc more) ∙ ap (λ rest. pieces ++ rest) (blocks_some place more block some)
          ∙ sym (append_assoc pieces (out (block_line block) ∷ []) (blocks m s (place + 1) more))

      pub blocks_go_on : BlockWay (place + 1) (pieces ++ out (block_line block) ∷ [])
      blocks_go_on more = ap (blocks m s 0) (let e : place + 1 + more ≡ place + suc more = omega arith in e) ∙ block_more more

      pub blocks_are_cut : place < all → (old now new : Option (List ℕ)) (A B : Type 0) (end told : ObeyEnd) → PutsOut old now pieces done
          → PutsOut now new (out (block_line block) ∷ []) (fails A end) → PutsOut old new (blocks m s 0 all) (fails B told)
      blocks_are_cut below old now new A B end told puts one =
          let rest = blocks m s (place + 1) (all - (place + 1)) in
          let is : blocks m s 0 all ≡ (pieces ++ out (block_line block) ∷ []) ++ rest
          = ap (blocks m s 0) (let e : all ≡ place + suc (all - (place + 1)) = omega (arith, below) in e) ∙ block_more (all - (place + 1)) in
          subst (λ told_pieces. PutsOut old new told_pieces (fails B told)) (sym is)
          (puts_cut_in A B old new (pieces ++ out (block_line block) ∷ []) rest end told
          (puts_on old now new pieces (out (block_line block) ∷ []) tt (fails A end) puts one))
