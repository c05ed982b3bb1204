-- A block that comes is kept in both orders, and a run of blocks that it closes is full.
use Rattle.std.proofs.Common.{◌<◌, ◌^◌, List, length, drop, sym, subst, ap, ◌∙◌, arith}
use Rattle.std.specs.List.{All, insert}
use Rattle.std.proofs.lemmas.List.Edits.{length-insert}
use Rattle.std.proofs.lemmas.List.Elements.{All-drop, All-take}
use Rattle.live_blocks.specs.declared.block.Block.{Block}
use Rattle.live_blocks.specs.Room.{Blocks, blocks_of}
use Rattle.live_blocks.specs.Run.{AreBegun, AreEarlier, IsKept, IsRising, run_end}
use Rattle.live_blocks.specs.Space.{Space, end_of, region}
use Rattle.live_blocks.proofs.InsertLemmas.{inserted_small, kept_insert, ordered}
use Rattle.live_blocks.proofs.ListLemmas.{rest}
use Rattle.live_blocks.proofs.PlaceLemmas.{placed}
use Rattle.live_blocks.proofs.SameLemmas.{kept_same}
use Rattle.live_blocks.proofs.live.LiveBlocks.insert.Goals as goal

pub begun_below-start-requires : goal.begun_below-start-requires
begun_below-start-requires c =
    let block = c.args.block in
    let by_base = c.self.inside.by_base.items in
    let place = c.numbered_below-place.result in
    let at = c.begun_below-at.result in
    let space_is = ap (λ (b : Blocks). b.space) c.self.view_is in
    let kept = subst (λ (s : Space). IsKept s by_base c.self.inside.full) space_is c.self.invariant.kept in
    let earlier = subst (λ (l : List Block). AreEarlier l block.number place) (c.deref.ensures.value ∙ ap (λ (s : Space). s.live) space_is) c.numbered_below-place.ensures in
    let begun = subst (λ (l : List Block). AreBegun l block.base at) c.deref-2.ensures.value c.begun_below-at.ensures in
    subst IsRising (sym (c.deref-3.ensures.value ∙ c.insert_within-2.ensures.items))
    (ordered c.args.self.now.space by_base c.self.inside.full kept block place at c.requires.within c.requires.free c.requires.another earlier begun).rising

pub run_end-self-inside-requires : goal.run_end-self-inside-requires
run_end-self-inside-requires c =
    let block = c.args.block in
    let by_base = c.self.inside.by_base.items in
    let place = c.numbered_below-place.result in
    let at = c.begun_below-at.result in
    let space_is = ap (λ (b : Blocks). b.space) c.self.view_is in
    let kept = subst (λ (s : Space). IsKept s by_base c.self.inside.full) space_is c.self.invariant.kept in
    let earlier = subst (λ (l : List Block). AreEarlier l block.number place) (c.deref.ensures.value ∙ ap (λ (s : Space). s.live) space_is) c.numbered_below-place.ensures in
    let begun = subst (λ (l : List Block). AreBegun l block.base at) c.deref-2.ensures.value c.begun_below-at.ensures in
    let small = λ (other : Block). end_of other < 2 ^ 32 in
    let start = c.begun_below-start.result in
    let now = c.deref-4.result.now in
    All-take small _ (drop start now) (All-drop small start now (subst (All small) (sym (c.deref-4.ensures.value ∙ c.insert_within-2.ensures.items))
    (inserted_small c.args.self.now.space by_base c.self.inside.full kept block place at c.requires.within c.requires.free c.requires.another earlier begun)))

pub invariant_of-self : goal.invariant_of-self
invariant_of-self c =
    let space = c.args.self.now.space in
    let block = c.args.block in
    let by_base = c.self.inside.by_base.items in
    let full = c.self.inside.full in
    let place = c.numbered_below-place.result in
    let at = c.begun_below-at.result in
    let start = c.begun_below-start.result in
    let space_is = ap (λ (b : Blocks). b.space) c.self.view_is in
    let live_is = ap (λ (s : Space). s.live) space_is in
    let kept = subst (λ (s : Space). IsKept s by_base full) space_is c.self.invariant.kept in
    let earlier = subst (λ (l : List Block). AreEarlier l block.number place) (c.deref.ensures.value ∙ live_is) c.numbered_below-place.ensures in
    let begun = subst (λ (l : List Block). AreBegun l block.base at) c.deref-2.ensures.value c.begun_below-at.ensures in
    let numbers_are = c.insert_within.ensures.items ∙ ap (λ (l : List Block). insert l place block) live_is in
    let bases_are = c.insert_within-2.ensures.items in
    let begun' = subst (λ (l : List Block). AreBegun l full start) (c.deref-3.ensures.value ∙ bases_are) c.begun_below-start.ensures in
    let end_is = c.run_end-self-inside.ensures
    ∙ ap (λ (l : List Block). run_end l full) (rest start c.deref-4.result.now ∙ ap (drop start) (c.deref-4.ensures.value ∙ bases_are)) in
    let numbers_more = ap length numbers_are ∙ length-insert space.live place block earlier.within in
    let bases_more = ap length bases_are ∙ length-insert by_base at block begun.within in
    let room_is = ap (λ (b : Blocks). b.room) c.self.view_is in
    record {
      kept = kept_same (region space.base space.top (insert space.live place block)) _ (insert by_base at block) _ (run_end (drop start (insert by_base at block)) full) _
          (ap (λ (s : Space). region s.base s.top c.insert_within.new.blocks.items) space_is ∙ ap (region space.base space.top) numbers_are) bases_are end_is
          (kept_insert space by_base full kept block place at c.requires.within c.requires.free c.requires.another earlier begun start begun');
      alike = omega (arith, c.self.invariant.alike, ap length live_is);
      few = omega (arith, c.requires.room);
      in_numbers = rw c.insert_within.ensures.capacity c.self.invariant.in_numbers;
      in_bases = rw c.insert_within-2.ensures.capacity c.self.invariant.in_bases;
    }

pub returns : goal.returns
returns c =
    let space_is = ap (λ (b : Blocks). b.space) c.self.view_is in
    let place = c.numbered_below-place.result in
    let live_is = c.deref.ensures.value ∙ ap (λ (s : Space). s.live) space_is in
    let earlier = subst (λ (l : List Block). AreEarlier l c.args.block.number place) live_is c.numbered_below-place.ensures in
    let put_is = c.insert_within.ensures.items ∙ ap (λ (s : Space). insert s.live place c.args.block) space_is ∙ sym (placed c.args.self.now.space.live c.args.block place earlier) in
    ap (λ (b : Blocks). blocks_of (region b.space.base b.space.top c.insert_within.new.blocks.items) b.room) c.self.view_is
    ∙ ap (λ (l : List Block). blocks_of (region c.args.self.now.space.base c.args.self.now.space.top l) c.args.self.now.room) put_is
