use Rattle.std.proofs.Common.{ap, sym, ◌∙◌}
use Rattle.std.proofs.lemmas.Result.{IfOk-weaker}
use Rattle.policy_trait.specs.Model.{masked_inputs}
use Rattle.miss_handler.proofs.AskLemmas.{IsAsked, answer_is, extends_by, hit_answer, hit_kept, hit_still, hit_words, kept_by, miss_answer, still_by, told, unkept_by}
use Rattle.miss_handler.proofs.RuleLemmas.{outs_below}
use Rattle.miss_handler.proofs.handler.ask.Given.{Over}
use Rattle.miss_handler.proofs.handler.ask.Goals as goal

-- ---- the rule is found

asked_hit : (g : Over) (c : goal.In-Some g)
    → IsAsked g.T.Tag.PartialEq.eq (g.R.Rules.book c.args.rules.now) (g.T.TagTable.state c.args.tags.now) (g.C.RuleStore.state c.args.store.now)
    c.args.group c.args.words (record { group = c.args.group; words = c.masked.result })
asked_hit g c = record {
  laws = g.met.T.Tag.Eq.laws;
  exact = g.met.T.Tag.Same.same;
  law = c.mask.ensures.law;
  key_is = ap (λ words. record { group = c.args.group; words = words }) (c.masked.ensures ∙ ap (λ mask. masked_inputs mask 0 c.args.words) c.mask.ensures.mask);
  distinct = c.len-len.ensures.sound.distinct;
  plain_word = c.requires.plain_word;
  in_words = c.requires.in_words;
  rules = c.requires.rules;
}

pub returns-in-Some-clause-answer : goal.returns-in-Some-clause-answer
returns-in-Some-clause-answer g c = hit_answer _ _ _ _ _ _ _ (asked_hit g c) c.in-Some.outs (sym c.find.ensures.found ∙ c.in-Some.is)

pub returns-in-Some-clause-out_words : goal.returns-in-Some-clause-out_words
returns-in-Some-clause-out_words g c = hit_words _ _ _ _ _ _ _ (asked_hit g c) c.in-Some.outs (sym c.find.ensures.found ∙ c.in-Some.is)

pub returns-in-Some-clause-stopped : goal.returns-in-Some-clause-stopped
returns-in-Some-clause-stopped g c refused =
    let answer = hit_answer _ _ _ _ _ _ _ (asked_hit g c) c.in-Some.outs (sym c.find.ensures.found ∙ c.in-Some.is) in
    (λ stopped. absurd cc, λ refuses. absurd cc)

pub returns-in-Some-clause-kept : goal.returns-in-Some-clause-kept
returns-in-Some-clause-kept g c =
    hit_kept _ _ _ _ _ _ _ (asked_hit g c) c.in-Some.outs (sym c.find.ensures.found ∙ c.in-Some.is) _ c.find.ensures.state

pub returns-in-Some-clause-told : goal.returns-in-Some-clause-told
returns-in-Some-clause-told g c = told _ _ _ _ _ _ _ (asked_hit g c)

pub returns-in-Some-clause-rules : goal.returns-in-Some-clause-rules
returns-in-Some-clause-rules g c =
    hit_still _ _ _ _ _ _ _ (asked_hit g c) c.in-Some.outs (sym c.find.ensures.found ∙ c.in-Some.is) _ c.find.ensures.state

-- ---- the rule is not found, and asked

asked_miss : (g : Over) (c : goal.After-missed g)
    → IsAsked g.T.Tag.PartialEq.eq (g.R.Rules.book c.args.rules.now) (g.T.TagTable.state c.args.tags.now) (g.C.RuleStore.state c.args.store.now)
    c.args.group c.args.words (record { group = c.args.group; words = c.masked.result })
asked_miss g c = record {
  laws = g.met.T.Tag.Eq.laws;
  exact = g.met.T.Tag.Same.same;
  law = c.mask.ensures.law;
  key_is = ap (λ words. record { group = c.args.group; words = words }) (c.masked.ensures ∙ ap (λ mask. masked_inputs mask 0 c.args.words) c.mask.ensures.mask);
  distinct = c.len-len.ensures.sound.distinct;
  plain_word = c.requires.plain_word;
  in_words = c.requires.in_words;
  rules = c.requires.rules;
}

pub returns-clause-answer : goal.returns-clause-answer
returns-clause-answer g c =
    IfOk-weaker c.missed.result _ _ (miss_answer _ _ _ _ _ _ _ (asked_miss g c) (g.T.TagTable.state c.missed.new.tags)) c.missed.ensures.answered

pub returns-clause-out_words : goal.returns-clause-out_words
returns-clause-out_words g c =
    IfOk-weaker c.missed.result _ _ (λ outs is. outs_below (g.T.TagTable.state c.missed.new.tags).tags is.outs outs is.are) c.missed.ensures.answered

pub returns-clause-stopped : goal.returns-clause-stopped
returns-clause-stopped g c refused =
    let is = answer_is _ _ _ _ _ _ _ (asked_miss g c) in
    let stopped = c.missed.ensures.stopped refused in
    (λ end. is ∙ stopped.0 end, λ refuses. stopped.1 (sym is ∙ refuses))

pub returns-clause-kept : goal.returns-clause-kept
returns-clause-kept g c =
    kept_by _ _ _ _ _ _ _ (asked_miss g c) (sym c.find.ensures.found ∙ c.in_default.is) _ _ c.find.ensures.state _
    c.missed.result c.missed.ensures.answered c.missed.ensures.kept

pub returns-clause-unkept : goal.returns-clause-unkept
returns-clause-unkept g c =
    unkept_by _ _ _ _ _ _ _ (asked_miss g c) (sym c.find.ensures.found ∙ c.in_default.is) _ _ c.find.ensures.state _
    c.missed.result c.missed.ensures.table c.missed.ensures.store

pub returns-clause-extends : goal.returns-clause-extends
returns-clause-extends g c =
    extends_by _ _ _ _ _ _ _ (asked_miss g c) (g.T.TagTable.state c.missed.new.tags) c.missed.result c.missed.ensures.answered c.missed.ensures.table

pub returns-clause-told : goal.returns-clause-told
returns-clause-told g c = told _ _ _ _ _ _ _ (asked_miss g c)

pub returns-clause-rules : goal.returns-clause-rules
returns-clause-rules g c =
    still_by _ _ _ _ _ _ _ (asked_miss g c) (sym c.find.ensures.found ∙ c.in_default.is) _ _ c.find.ensures.state _
    c.missed.result c.missed.ensures.answered c.missed.ensures.kept c.missed.ensures.table c.missed.ensures.store
