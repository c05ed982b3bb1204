use Rattle.std.proofs.Common.{sym, ◌∙◌}
use Rattle.miss_handler.proofs.MissLemmas.{cut_back}
use Rattle.miss_handler.proofs.handler.answered_anew.Goals as goal

pub returns-then-is_err-clause-table : goal.returns-then-is_err-clause-table
returns-then-is_err-clause-table g c =
    cut_back g.T.Tag.PartialEq.eq g.met.T.Tag.Eq.laws (g.T.TagTable.state c.args.tags.now) (g.T.TagTable.state c.intern_outs.new.tags)
    (g.T.TagTable.state c.cut.new.self) c.in-Ok.outs c.len-len.result c.len-len.ensures.len c.in-Ok-intern_outs.ensures.grown c.cut.ensures

pub returns-clause-answered : goal.returns-clause-answered
returns-clause-answered g c = record {
  outs = c.in-Ok.outs;
  allowed = sym c.answer.ensures.answer ∙ c.in-Ok.is;
  grown = c.in-Ok-intern_outs.ensures.grown;
  are = c.in-Ok-intern_outs.ensures.words;
}
