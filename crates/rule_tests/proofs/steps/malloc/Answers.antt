-- Where words fit first they lie free, in the region; and there is room for a block more than those with lower numbers.
use Rattle.std.proofs.Common.{◌≢◌, ◌+◌, ◌<◌, length, subst, sym, arith}
use Rattle.std.specs.List.{All}
use Rattle.std.proofs.lemmas.List.Elements.{All-push, All-weaker}
use Rattle.live_blocks.proofs.BackLemmas.{newest_another, put_newest}
use Rattle.live_blocks.proofs.PlaceLemmas.{few_below}
use Rattle.live_blocks.specs.declared.block.Block.{Block}
use Rattle.live_blocks.specs.Room.{Blocks}
use Rattle.live_blocks.specs.Space.{IsWithin, LiesFree, by_number}
use Rattle.live_blocks.specs.SpaceEdits.{first_within}
use Rattle.rule_tests.proofs.steps.malloc.Goals as goal

pub insert-requires-clause-room : goal.insert-requires-clause-room
insert-requires-clause-room c =
    let few = few_below c.args.blocks.now.space.live c.args.number c.top.ensures.valid.numbered c.requires.numbers in
    subst (λ (b : Blocks). length b.space.live < b.room) (sym c.in_ok-make_room.ensures.ok) (omega (arith, few))

pub insert-requires-clause-within : goal.insert-requires-clause-within
insert-requires-clause-within c =
    let block : Block = record { number = c.args.number; base = c.in-Some.base; words = c.max-words.result } in
    subst (λ (b : Blocks). IsWithin b.space.base b.space.top block) (sym c.in_ok-make_room.ensures.ok)
    (first_within c.args.blocks.now.space c.args.number c.max-words.result c.in-Some.base (omega arith) ((c.first_fit.ensures.exact c.in-Some.base).0 c.in-Some.is))

pub insert-requires-clause-free : goal.insert-requires-clause-free
insert-requires-clause-free c =
    subst (λ (b : Blocks). LiesFree b.space c.max-words.result c.in-Some.base) (sym c.in_ok-make_room.ensures.ok)
    ((c.first_fit.ensures.exact c.in-Some.base).0 c.in-Some.is).lies_free

pub insert-requires-clause-another : goal.insert-requires-clause-another
insert-requires-clause-another c =
    subst (λ (b : Blocks). All (λ other. other.number ≢ c.args.number) b.space.live) (sym c.in_ok-make_room.ensures.ok)
    (newest_another c.args.blocks.now.space.live c.args.number c.requires.numbers)

pub returns : goal.returns
returns c =
    let below = λ (block : Block). block.number < c.args.number + 1 in
    let block : Block = record { number = c.args.number; base = c.in-Some.base; words = c.max-words.result } in
    let live = c.args.blocks.now.space.live in
    subst (λ (b : Blocks). All below b.space.live) (sym c.insert.ensures)
    (subst (λ (b : Blocks). All below (by_number b.space.live block)) (sym c.in_ok-make_room.ensures.ok)
    (subst (All below) (sym (put_newest live block c.requires.numbers))
    (All-push below live block
    (All-weaker (λ (block : Block). block.number < c.args.number) below (λ block lower. omega arith) live c.requires.numbers) (omega arith))))
