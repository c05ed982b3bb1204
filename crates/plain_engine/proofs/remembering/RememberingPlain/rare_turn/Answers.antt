use Rattle.std.proofs.Common.{◌≡◌, None, rules, subst, sym, true}
use Rattle.engine_trait.specs.Standing.{GivesUp, Standing, is_ready, step}
use Rattle.plain_engine.specs.Plain.{with_past}
use Rattle.plain_engine.proofs.RememberingLemmas.{noted_past, noted_step, remembered_gives_up, stepped_to, unnoted, unturned_past}
use Rattle.plain_engine.proofs.remembering.RememberingPlain.rare_turn.Goals as goal

pub invariant_of-self : goal.invariant_of-self
invariant_of-self g c =
    let m = g.P.Policy.model in
    let eq = g.P.Tag.PartialEq.eq in
    let e = c.self.inside.plain in
    let noted = c.noted_turn-end in
    let ready = subst (λ (x : Standing g.row.P.Denot g.row.P-Tag.Denot). is_ready x c.args.h ≡ true) (sym c.self.view_is) c.requires.ready in
    let unmade : noted.result.made ≡ None = search rules in
    let out = unnoted eq m e c.self.inside.past c.args.feed.now c.args.h c.is_ready-ready.ensures.uncached ready noted.new.self noted.new.feed noted.result.end noted.result.made
    noted.ensures.step noted.ensures.made noted.ensures.unmade unmade in
    unturned_past eq m e c.self.inside.past c.args.feed.now c.args.h c.is_ready-ready.ensures.uncached ready g.P.Policy.holds g.met.P.Policy.lawful noted.new.self noted.new.feed
    noted.result.end c.self.invariant (noted.ensures.memory out)

pub returns-in_default-clause-memory : goal.returns-in_default-clause-memory
returns-in_default-clause-memory g c out =
    let m = g.P.Policy.model in
    let eq = g.P.Tag.PartialEq.eq in
    let noted = c.noted_turn-end in
    let ready = subst (λ (x : Standing g.row.P.Denot g.row.P-Tag.Denot). is_ready x c.args.h ≡ true) (sym c.self.view_is) c.requires.ready in
    subst (λ (x : Standing g.row.P.Denot g.row.P-Tag.Denot). GivesUp eq m x c.args.feed.now c.args.h (with_past noted.new.self c.self.inside.past) noted.new.feed) c.self.view_is
    (remembered_gives_up eq m c.self.inside.plain c.self.inside.past c.args.feed.now c.args.h c.is_ready-ready.ensures.uncached ready noted.new.self noted.new.feed
    (noted.ensures.served out) (noted.ensures.unended out) (noted.ensures.memory out))

pub invariant_of-self-2 : goal.invariant_of-self-2
invariant_of-self-2 g c =
    let noted = c.noted_turn-end in
    let ready = subst (λ (x : Standing g.row.P.Denot g.row.P-Tag.Denot). is_ready x c.args.h ≡ true) (sym c.self.view_is) c.requires.ready in
    noted_past g.P.Tag.PartialEq.eq g.P.Policy.model c.self.inside.plain c.self.inside.past c.args.feed.now c.args.h c.is_ready-ready.ensures.uncached ready
    noted.new.self noted.new.feed noted.result.end noted.result.made noted.ensures.step noted.ensures.made noted.ensures.unmade
    c.in-Some.made c.push.new.self c.in-Some.is c.push.ensures.kept g.P.Policy.holds g.met.P.Policy.lawful c.self.invariant

pub returns-clause-step : goal.returns-clause-step
returns-clause-step g c has_memory =
    let m = g.P.Policy.model in
    let eq = g.P.Tag.PartialEq.eq in
    let noted = c.noted_turn-end in
    let ready = subst (λ (x : Standing g.row.P.Denot g.row.P-Tag.Denot). is_ready x c.args.h ≡ true) (sym c.self.view_is) c.requires.ready in
    subst (λ (x : Standing g.row.P.Denot g.row.P-Tag.Denot). step eq m x c.args.feed.now c.args.h ≡ stepped_to (with_past noted.new.self c.push.new.self) noted.new.feed noted.result.end)
    c.self.view_is
    (noted_step eq m c.self.inside.plain c.self.inside.past c.args.feed.now c.args.h c.is_ready-ready.ensures.uncached ready
    noted.new.self noted.new.feed noted.result.end noted.result.made noted.ensures.step noted.ensures.made noted.ensures.unmade
    c.in-Some.made c.push.new.self c.in-Some.is c.push.ensures.kept)
