-- The block that goes stands at its places in both orders, and is gone from both.
use Rattle.std.proofs.Common.{◌<◌, ◌==◌, min, not, List, length, sym, subst, ap, ◌∙◌, arith}
use Rattle.std.specs.List.{remove}
use Rattle.std.proofs.lemmas.List.Edits.{length-remove}
use Rattle.live_blocks.specs.declared.block.Block.{Block}
use Rattle.live_blocks.specs.Room.{Blocks, blocks_of}
use Rattle.live_blocks.specs.Run.{AreBegun, IsPlaceOf}
use Rattle.live_blocks.specs.Space.{region, without_block}
use Rattle.live_blocks.proofs.ListLemmas.{filter_keeps}
use Rattle.live_blocks.proofs.RemoveLemmas.{kept_remove, other_passes, removed, stands}
use Rattle.live_blocks.proofs.SameLemmas.{kept_same}
use Rattle.live_blocks.proofs.live.LiveBlocks.remove.Goals as goal

pub remove-requires : goal.remove-requires
remove-requires c =
    let by_base = c.self.inside.by_base.items in
    let at = c.begun_below-at.result in
    let block = c.remove-block.result in
    let view = region c.self.inside.base c.self.inside.top c.self.inside.by_number.items in
    let is = subst (λ (b : Blocks). IsPlaceOf b.space.live c.args.number c.in-Some.place) (sym c.self.view_is) c.in-Some.ensures.found in
    let begun = subst (λ (l : List Block). AreBegun l block.base at) c.deref.ensures.value c.begun_below-at.ensures in
    subst (λ n. at < n) (ap length (sym c.deref.ensures.value) ∙ c.deref.ensures.len)
    (stands view by_base c.self.inside.full c.self.invariant.kept c.args.number c.in-Some.place is block c.remove-block.ensures.value at begun).0

pub invariant_of-self : goal.invariant_of-self
invariant_of-self c =
    let by_base = c.self.inside.by_base.items in
    let full = c.self.inside.full in
    let at = c.begun_below-at.result in
    let place = c.in-Some.place in
    let block = c.remove-block.result in
    let view = region c.self.inside.base c.self.inside.top c.self.inside.by_number.items in
    let is = subst (λ (b : Blocks). IsPlaceOf b.space.live c.args.number place) (sym c.self.view_is) c.in-Some.ensures.found in
    let begun = subst (λ (l : List Block). AreBegun l block.base at) c.deref.ensures.value c.begun_below-at.ensures in
    let kept = c.self.invariant.kept in
    record {
      kept = kept_same (region view.base view.top (remove view.live place)) _ (remove by_base at) _ (min full block.base) _
          (ap (region view.base view.top) c.remove-block.ensures.items) c.remove.ensures.items c.min-self-inside.ensures
          (kept_remove view by_base full kept c.args.number place is block c.remove-block.ensures.value at begun);
      alike = omega (
        arith,
        ap length c.remove-block.ensures.items,
        ap length c.remove.ensures.items,
        length-remove view.live place is.in_range,
        length-remove by_base at (stands view by_base full kept c.args.number place is block c.remove-block.ensures.value at begun).0,
        c.self.invariant.alike,
      );
      few = omega (arith, ap length c.remove-block.ensures.items, length-remove view.live place is.in_range, c.self.invariant.few);
      in_numbers = rw c.remove-block.ensures.capacity c.self.invariant.in_numbers;
      in_bases = rw c.remove.ensures.capacity c.self.invariant.in_bases;
    }

pub returns-in-Some : goal.returns-in-Some
returns-in-Some c =
    let view = region c.self.inside.base c.self.inside.top c.self.inside.by_number.items in
    let is = subst (λ (b : Blocks). IsPlaceOf b.space.live c.args.number c.in-Some.place) (sym c.self.view_is) c.in-Some.ensures.found in
    ap (λ (l : List Block). blocks_of (region c.self.inside.base c.self.inside.top l) c.self.inside.room)
    (c.remove-block.ensures.items
    ∙ removed view c.self.inside.by_base.items c.self.inside.full c.self.invariant.kept c.args.number c.in-Some.place is c.remove-block.result c.remove-block.ensures.value)
    ∙ ap (λ (b : Blocks). blocks_of (without_block b.space c.args.number) b.room) c.self.view_is

pub returns-in_default : goal.returns-in_default
returns-in_default c =
    let now = c.args.self.now in
    sym (ap (λ (l : List Block). blocks_of (region now.space.base now.space.top l) now.room)
    (filter_keeps (λ (block : Block). not (block.number == c.args.number)) now.space.live (λ k d in_range. other_passes _ c.args.number (c.in_default.ensures.absent k d in_range))))
