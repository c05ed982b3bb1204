-- The walk over the blocks from the full address on ends at the lowest gap that is large enough.
use Rattle.std.proofs.Common.{◌≡◌, ℕ, ◌+◌, ◌*◌, ◌^◌, ◌<◌, ◌≤◌, nat_le, Bool, true, false, List, drop, refl, sym, subst, ◌∙◌, ap}
use Rattle.std.specs.Bool.{then_some}
use Rattle.std.specs.List.{All}
use Rattle.std.proofs.lemmas.Bool.{leb-false, leb-true}
use Rattle.std.proofs.lemmas.List.Elements.{All-drop, All-take}
use Rattle.live_blocks.specs.declared.block.Block.{Block}
use Rattle.live_blocks.specs.Fit.{first_found, found_first, none_found}
use Rattle.live_blocks.specs.Room.{Blocks}
use Rattle.live_blocks.specs.Run.{AreBegun, IsKept, gap_at}
use Rattle.live_blocks.specs.Space.{Space, end_of, first_fit, region}
use Rattle.live_blocks.proofs.GapLemmas.{IsGap, first_in_gap, none_past_gap, walk_begins, walk_ends}
use Rattle.live_blocks.proofs.ListLemmas.{rest}
use Rattle.live_blocks.proofs.RisingLemmas.{small_ends}
use Rattle.live_blocks.proofs.live.LiveBlocks.first_fit.Goals as goal

-- the gap, if it ends in the region
fit_by : (space : Space) (words at : ℕ) → 1 ≤ words → IsGap space words at → (fits : Bool) → nat_le (at + 4 * words) space.top ≡ fits → then_some fits at ≡ first_fit space words
fit_by space words at some gap true tests = sym (first_found space words some at (first_in_gap space words at gap (leb-true _ _ tests)))
fit_by space words at some gap false tests = sym (none_found space words (none_past_gap space words at gap (leb-false _ _ tests)))

fit : (space : Space) (by_base : List Block) (full words next : ℕ) → IsKept space by_base full → 1 ≤ words
    → AreBegun by_base full next
    → then_some (nat_le (gap_at (drop next by_base) words full + 4 * words) space.top) (gap_at (drop next by_base) words full) ≡ first_fit space words
fit space by_base full words next kept some begun =
    let gap = walk_ends space kept.sound words (drop next by_base) full (walk_begins space by_base full kept words some next begun) in
    fit_by space words (gap_at (drop next by_base) words full) some gap (nat_le (gap_at (drop next by_base) words full + 4 * words) space.top) refl

-- the same where its parts are told one by one
fit_told : (space : Space) (by_base : List Block) (full words next : ℕ) → IsKept space by_base full → 1 ≤ words
    → AreBegun by_base full next
    → (part : List Block) → part ≡ drop next by_base → (at end top : ℕ) → at ≡ gap_at part words full → end ≡ at + 4 * words → top ≡ space.top
    → then_some (nat_le end top) at ≡ first_fit space words
fit_told space by_base full words next kept some begun part part_is at end top at_is end_is top_is =
    rw (end_is, top_is, at_is, part_is) (fit space by_base full words next kept some begun)

pub gap_at-at-requires : goal.gap_at-at-requires
gap_at-at-requires c =
    let small = λ (block : Block). end_of block < 2 ^ 32 in
    let next = c.begun_below-next.result in
    let view = region c.self.inside.base c.self.inside.top c.self.inside.by_number.items in
    let kept = c.self.invariant.kept in
    All-take small _ (drop next c.deref-2.result.now) (All-drop small next c.deref-2.result.now
    (subst (All small) (sym c.deref-2.ensures.value) (small_ends view c.self.inside.by_base.items kept.sound kept.ordered.known)))

pub returns-clause-value : goal.returns-clause-value
returns-clause-value c =
    let by_base = c.self.inside.by_base.items in
    let full = c.self.inside.full in
    let next = c.begun_below-next.result in
    let view = region c.self.inside.base c.self.inside.top c.self.inside.by_number.items in
    let begun = subst (λ (l : List Block). AreBegun l full next) c.deref.ensures.value c.begun_below-next.ensures in
    let told = fit_told view by_base full c.args.words next c.self.invariant.kept c.requires begun _ (rest next c.deref-2.result.now ∙ ap (drop next) c.deref-2.ensures.value)
    c.gap_at-at.result c.range_end.result c.from.result c.gap_at-at.ensures c.range_end.ensures c.from.ensures in
    c.then_some.ensures ∙ (told ∙ ap (λ (b : Blocks). first_fit b.space c.args.words) c.self.view_is)

pub returns-clause-exact : goal.returns-clause-exact
returns-clause-exact c at =
    let space = c.args.self.now.space in
    let value = returns-clause-value c in
    (λ is. found_first space c.args.words at (sym value ∙ is), λ is. value ∙ first_found space c.args.words c.requires at is)
