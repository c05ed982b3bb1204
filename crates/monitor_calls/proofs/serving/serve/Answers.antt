use Rattle.std.proofs.Common.{◌≡◌, ℕ, sym, subst, ◌∙◌}
use Rattle.policy_trait.specs.PolicyLaws.{IsRange}
use Rattle.policy_trait.specs.UseLaws.{given_plan}
use Rattle.monitor_calls.specs.Ends.{EndsAs}
use Rattle.monitor_calls.specs.Service.{new_tags}
use Rattle.monitor_calls.specs.declared.serving.ServeEnd.{ServeEnd}
use Rattle.monitor_calls.specs.declared.serving.ServeEnd.TheVariants as serve_end
use Rattle.monitor_calls.proofs.JobLemmas.{has_room}
use Rattle.monitor_calls.proofs.serving.serve.Goals as goal

pub retag_words-requires-clause-given : goal.retag_words-requires-clause-given
retag_words-requires-clause-given g c =
    given_plan g.P.Policy.model g.P.Policy.holds g.met.P.Policy.lawful c.args.policy.now c.args.number c.args.arguments.now c.args.pc c.in-Ok.plan c.requires.can (sym c.plan.ensures ∙ c.in-Ok.is)

pub retag_words-requires-clause-range : goal.retag_words-requires-clause-range
retag_words-requires-clause-range g c =
    subst (λ (bytes : ℕ). IsRange bytes c.in-Some.range) (sym c.requires.bytes)
    (g.met.P.Policy.lawful.ranges c.args.policy.now c.args.number c.args.arguments.now c.args.pc c.in-Ok.plan c.requires.can c.plain-plain.ensures.valid (sym c.plan.ensures ∙ c.in-Ok.is) c.in-Some.range c.in-Some.is)

pub returns-clause-given : goal.returns-clause-given
returns-clause-given g c =
    given_plan g.P.Policy.model g.P.Policy.holds g.met.P.Policy.lawful c.args.policy.now c.args.number c.args.arguments.now c.args.pc c.in-Ok.plan c.requires.can (sym c.plan.ensures ∙ c.in-Ok.is)

pub returns-in-Err-clause-memory : goal.returns-in-Err-clause-memory
returns-in-Err-clause-memory g c = λ told.
    let same : c.in-Err.end ≡ serve_end.Memory = cc in
    has_room g.P.Policy.model c.args.policy.now (g.W.View.word_at c.args.view.now) (g.W.View.tag_at c.args.view.now) c.args.number c.args.arguments.now c.args.pc c.in-Ok.plan c.in-Some.range
    (sym c.plan.ensures ∙ c.in-Ok.is) c.in-Some.is
    (g.met.P.Policy.lawful.ranges c.args.policy.now c.args.number c.args.arguments.now c.args.pc c.in-Ok.plan c.requires.can c.plain-plain.ensures.valid (sym c.plan.ensures ∙ c.in-Ok.is) c.in-Some.range c.in-Some.is).nonempty
    (subst (λ (e : ServeEnd). EndsAs e (new_tags g.P.Policy.model c.args.policy.now (g.W.View.word_at c.args.view.now) (g.W.View.tag_at c.args.view.now) c.in-Ok.plan c.in-Some.range.base c.in-Some.range.count)) same c.in-Err.ensures.err)
