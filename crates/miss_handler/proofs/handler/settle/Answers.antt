use Rattle.std.proofs.Common.{sym, ◌∙◌}
use Rattle.std.proofs.lemmas.Result.{IfOk-weaker}
use Rattle.miss_handler.proofs.AskLemmas.{IsAsked, answer_is, extends_by, kept_anew, miss_answer, still_anew}
use Rattle.miss_handler.proofs.RuleLemmas.{outs_below}
use Rattle.miss_handler.proofs.handler.settle.Given.{Over}
use Rattle.miss_handler.proofs.handler.settle.Goals as goal

asked_anew : (g : Over) (c : goal.After-answered_anew g)
    → IsAsked g.T.Tag.PartialEq.eq (g.R.Rules.book c.args.rules.now) (g.T.TagTable.state c.args.tags.now) (g.C.RuleStore.state c.args.store.now)
    c.args.group c.args.words c.key_of-key.result
asked_anew g c = record {
  laws = g.met.T.Tag.Eq.laws;
  exact = g.met.T.Tag.Same.same;
  law = c.key_of-key.ensures.law;
  key_is = c.key_of-key.ensures.key;
  distinct = c.len-len.ensures.sound.distinct;
  plain_word = c.requires.plain_word;
  in_words = c.requires.in_words;
  rules = c.requires.rules;
}

pub returns-clause-answer : goal.returns-clause-answer
returns-clause-answer g c =
    IfOk-weaker c.answered_anew.result _ _ (miss_answer _ _ _ _ _ _ _ (asked_anew g c) (g.T.TagTable.state c.answered_anew.new.tags))
    c.answered_anew.ensures.answered

pub returns-clause-out_words : goal.returns-clause-out_words
returns-clause-out_words g c =
    IfOk-weaker c.answered_anew.result _ _ (λ outs is. outs_below (g.T.TagTable.state c.answered_anew.new.tags).tags is.outs outs is.are)
    c.answered_anew.ensures.answered

pub returns-clause-stopped : goal.returns-clause-stopped
returns-clause-stopped g c refused =
    let is = answer_is _ _ _ _ _ _ _ (asked_anew g c) in
    let stopped = c.answered_anew.ensures.stopped refused in
    (λ end. is ∙ stopped.0 end, λ refuses. stopped.1 (sym is ∙ refuses))

pub returns-clause-kept : goal.returns-clause-kept
returns-clause-kept g c =
    kept_anew _ _ _ _ _ _ _ (asked_anew g c) _ _ c.requires.rules _ c.answered_anew.result c.answered_anew.ensures.answered c.answered_anew.ensures.kept

pub returns-clause-extends : goal.returns-clause-extends
returns-clause-extends g c =
    extends_by _ _ _ _ _ _ _ (asked_anew g c) (g.T.TagTable.state c.answered_anew.new.tags) c.answered_anew.result
    c.answered_anew.ensures.answered c.answered_anew.ensures.table

pub returns-clause-rules : goal.returns-clause-rules
returns-clause-rules g c =
    still_anew _ _ _ _ _ _ _ (asked_anew g c) _ _ c.requires.rules _ c.answered_anew.result
    c.answered_anew.ensures.answered c.answered_anew.ensures.kept c.answered_anew.ensures.table c.answered_anew.ensures.store
