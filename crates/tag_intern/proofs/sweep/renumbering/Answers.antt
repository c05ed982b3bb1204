use Rattle.std.proofs.Common.{ap, is_some, arith, ◌<◌, length}
use Rattle.tag_intern.proofs.NumberLemmas.{numbered}
use Rattle.tag_intern.proofs.sweep.renumbering.Goals as goal

pub loop-word-preserved : goal.loop-word-preserved
loop-word-preserved g c =
    let old = (g.T.TagTable.state c.args.old.now).tags in
    let within : c.loop-word.word < length old = omega (arith, c.loop-word-test.true, c.len-word-end.ensures.len) in
    numbered old (g.T.TagTable.state c.args.new.now).tags c.loop-word.numbers.items c.loop-word.word c.tag_or-tag.result c.args.plain within c.loop-word.invariant c.tag_or-tag.ensures
    c.word_of.result (λ word. (c.word_of.ensures.exact word).0) (λ none. c.word_of.ensures.missing.0 (ap is_some none)) c.unwrap_or.result c.unwrap_or.ensures
    c.push.new.self.items c.in_ok-push.ensures.items
