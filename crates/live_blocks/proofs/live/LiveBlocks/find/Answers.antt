-- The block at the place of a number is the first that has it.
use Rattle.std.proofs.Common.{◌≡◌, ◌≢◌, ℕ, ◌==◌, false, List, get_or, Some, None, ap, sym, subst, ◌∙◌, arith}
use Rattle.std.specs.List.{All, find}
use Rattle.std.proofs.lemmas.Bool.{eq-eqb}
use Rattle.std.proofs.lemmas.Bool.Decides.{nat_tests}
use Rattle.live_blocks.specs.declared.block.Block.{Block}
use Rattle.live_blocks.specs.Room.{Blocks}
use Rattle.live_blocks.specs.Run.{AreNumbered, IsPlaceOf}
use Rattle.live_blocks.proofs.ListLemmas.{find_fails, find_passes}
use Rattle.live_blocks.proofs.live.LiveBlocks.find.Goals as goal

differs : (x number : ℕ) → x ≢ number → (x == number) ≡ false
differs x number other = grind (arith, nat_tests)

none_has : (live : List Block) (number : ℕ) → All (λ block. block.number ≢ number) live → find (λ block. block.number == number) live ≡ None
none_has live number absent = find_fails (λ block. block.number == number) live (λ k d in_range. differs _ number (absent k d in_range))

one_has : (live : List Block) (number place : ℕ) (block : Block) → AreNumbered live → IsPlaceOf live number place → block ≡ get_or live place block
    → find (λ other. other.number == number) live ≡ Some block
one_has live number place block numbered is read =
    find_passes (λ other. other.number == number) live place block is.in_range (eq-eqb _ number (is.has_number block))
    (λ k lower. differs _ number (λ same. omega (arith, numbered k place block lower is.in_range, is.has_number block)))
    ∙ ap Some (sym read)

pub returns-in_err-place : goal.returns-in_err-place
returns-in_err-place c = c.from_residual.ensures ∙ sym (none_has c.args.self.now.space.live c.args.number c.in_err-place.ensures.absent)

pub returns : goal.returns
returns c = sym (
    let found = λ (b : Blocks). find (λ (block : Block). block.number == c.args.number) b.space.live in
    ap found (sym c.self.view_is)
    ∙ one_has c.self.inside.by_number.items c.args.number c.in_ok-place.place c.index.result.now c.self.invariant.kept.sound.numbered
    (subst (λ (b : Blocks). IsPlaceOf b.space.live c.args.number c.in_ok-place.place) (sym c.self.view_is) c.in_ok-place.ensures.found) c.index.ensures)
