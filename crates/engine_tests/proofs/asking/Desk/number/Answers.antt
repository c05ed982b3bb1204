use Rattle.std.proofs.Common.{◌∙◌}
use Rattle.std.proofs.lemmas.Option.{slice_get_within}
use Rattle.tag_intern.proofs.TableLemmas.{same_words}
use Rattle.miss_handler.proofs.RuleLemmas.{rules_grown}
use Rattle.engine_tests.proofs.asking.Desk.number.Goals as goal

pub invariant_of-self : goal.invariant_of-self
invariant_of-self g c =
    let old = (g.T.TagTable.state c.self.inside.tags).tags in
    let new = (g.T.TagTable.state c.intern.new.self).tags in (
      same_words old new c.intern.ensures.extends 0 (slice_get_within old 0 _ c.self.invariant.0) ∙ c.self.invariant.0,
      rules_grown (g.R.Rules.book c.self.inside.rules) old new c.intern.ensures.extends (g.C.RuleStore.state c.self.inside.store).sets c.self.invariant.1,
    )
