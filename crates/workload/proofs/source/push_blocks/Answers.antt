use Rattle.std.proofs.Common.{◌≡◌, ◌-◌, ◌++◌, List, ℕ, [], ap, sym, ◌∙◌, arith}
use Rattle.std.proofs.lemmas.List.{append-nil}
use Rattle.workload.specs.Source.{lines_of_blocks, text_of}
use Rattle.workload.proofs.SourceLemmas.{block_appended, no_block}
use Rattle.workload.proofs.source.push_blocks.Goals as goal

pub loop-index-preserved : goal.loop-index-preserved
loop-index-preserved c =
    block_appended c.args.count c.loop-index.index c.loop-index.number c.number_after-number.result c.kind_of.result
    (c.args.source.now.items ++ text_of (lines_of_blocks c.args.count 0 c.args.count)) c.loop-index.source.items c.push_block.new.source.items
    c.loop-index-test.true c.loop-index.invariant c.number_after-number.ensures c.kind_of.ensures c.in_ok-push_block.ensures

-- no block is left
pub returns : goal.returns
returns c =
    let last : c.loop-index.index ≡ c.args.count = omega (arith, c.loop-index-test.false, c.loop-index.auto.index-end) in
    let none : text_of (lines_of_blocks (c.args.count - c.loop-index.index) c.loop-index.index c.loop-index.number) ≡ [] =
    ap (λ (n : ℕ). text_of (lines_of_blocks (c.args.count - n) n c.loop-index.number)) last ∙ no_block c.args.count c.loop-index.number in
    sym (append-nil c.loop-index.source.items) ∙ ap (λ (t : List ℕ). c.loop-index.source.items ++ t) (sym none) ∙ c.loop-index.invariant
