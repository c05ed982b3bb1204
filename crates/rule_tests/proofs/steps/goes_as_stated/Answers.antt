-- What is left of the blocks after one is freed has numbers below that bound too.
use Rattle.std.proofs.Common.{◌+◌, ◌<◌, ◌==◌, not, subst, sym, arith}
use Rattle.std.specs.List.{All}
use Rattle.std.proofs.lemmas.List.Elements.{All-filter, All-weaker}
use Rattle.live_blocks.specs.declared.block.Block.{Block}
use Rattle.live_blocks.specs.Room.{Blocks}
use Rattle.rule_tests.proofs.steps.goes_as_stated.Goals as goal

pub returns-in-Free : goal.returns-in-Free
returns-in-Free c =
    let below = λ (block : Block). block.number < c.args.number + 1 in
    let live = c.args.blocks.now.space.live in
    subst (λ (b : Blocks). All below b.space.live) (sym c.remove.ensures)
    (All-filter (λ (block : Block). not (block.number == c.in-Free.other)) below live
    (All-weaker (λ (block : Block). block.number < c.args.number) below (λ block lower. omega arith) live c.requires.numbers))
