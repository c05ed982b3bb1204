use Rattle.std.proofs.Common.{◌≡◌, ℕ, [], IfNone, Option, None, ap, rules, subst, sym, ◌∙◌}
use Rattle.turn_steps.specs.Feeds.{unread}
use Rattle.undo_log.specs.Past.{Past, older}
use Rattle.engine_trait.specs.Back.{IsPastOf, back}
use Rattle.engine_trait.specs.Machine.{IsMachine}
use Rattle.engine_trait.specs.Standing.{Standing}
use Rattle.engine_trait.proofs.PastLemmas.{back_none, past_newest, past_undone}
use Rattle.plain_engine.specs.Plain.{with_past}
use Rattle.plain_engine.proofs.RememberingLemmas.{backed_to, older_none, remembered_back}
use Rattle.plain_engine.proofs.remembering.RememberingPlainEngine.back.Goals as goal

-- no turn is remembered
pub returns-in_default-clause-back : goal.returns-in_default-clause-back
returns-in_default-clause-back g c =
    let m = g.P.Policy.model in
    let past = c.self.inside.past in
    let none : c.pop.result ≡ None = search rules in
    let empty : past.kept ≡ [] = subst (λ result. IfNone result (past.kept ≡ [])) none c.pop.ensures.empty in
    let same = c.pop.ensures.others ∙ older_none past empty in
    subst (λ (x : Standing g.row.P.Denot g.row.P-Tag.Denot). back m x c.args.feed.now ≡ backed_to (with_past c.self.inside.plain c.pop.new.self) c.args.feed.now) c.self.view_is
    (back_none m (with_past c.self.inside.plain past) c.args.feed.now (sym c.pop.ensures.newest ∙ none)
    ∙ λ j. backed_to (with_past c.self.inside.plain (sym same j)) c.args.feed.now)

pub undo-requires-clause-fit : goal.undo-requires-clause-fit
undo-requires-clause-fit g c =
    (past_newest g.P.Policy.model g.P.Policy.holds g.met.P.Policy.lawful c.self.inside.plain.machine c.self.inside.past c.in-Some.made
    (sym c.pop.ensures.newest ∙ c.in-Some.is) c.self.invariant).fit

pub undo-requires-clause-committed : goal.undo-requires-clause-committed
undo-requires-clause-committed g c =
    (past_newest g.P.Policy.model g.P.Policy.holds g.met.P.Policy.lawful c.self.inside.plain.machine c.self.inside.past c.in-Some.made
    (sym c.pop.ensures.newest ∙ c.in-Some.is) c.self.invariant).committed

pub undo-requires-clause-sound : goal.undo-requires-clause-sound
undo-requires-clause-sound g c =
    let m = g.P.Policy.model in
    let is = past_newest m g.P.Policy.holds g.met.P.Policy.lawful c.self.inside.plain.machine c.self.inside.past c.in-Some.made
    (sym c.pop.ensures.newest ∙ c.in-Some.is) c.self.invariant in
    subst (IsMachine m) (sym is.undone_is) is.sound

pub invariant_of-self-2 : goal.invariant_of-self-2
invariant_of-self-2 g c =
    let m = g.P.Policy.model in
    let holds = g.P.Policy.holds in
    let led = past_undone m holds g.met.P.Policy.lawful c.self.inside.plain.machine c.self.inside.past c.in-Some.made (sym c.pop.ensures.newest ∙ c.in-Some.is) c.self.invariant in
    subst (λ (past : Past g.row.P-Tag.Denot g.row.P-Tag.Denot). IsPastOf m holds c.undo.new.self.machine past.kept) (sym c.pop.ensures.others)
    (subst (λ (x : Standing g.row.P.Denot g.row.P-Tag.Denot). IsPastOf m holds x.machine (older c.self.inside.past).kept) (sym c.undo.ensures.standing) led)

pub returns-clause-back : goal.returns-clause-back
returns-clause-back g c =
    let m = g.P.Policy.model in
    let fed_is = c.unread.ensures ∙ ap (λ (fed : Option ℕ). unread fed c.args.feed.now) c.fed.ensures in
    subst (λ (x : Standing g.row.P.Denot g.row.P-Tag.Denot). back m x c.args.feed.now ≡ backed_to (with_past c.undo.new.self c.pop.new.self) c.unread.new.feed) c.self.view_is
    (remembered_back m c.self.inside.plain c.self.inside.past c.args.feed.now c.in-Some.made (sym c.pop.ensures.newest ∙ c.in-Some.is)
    ∙ λ j. backed_to (with_past (sym c.undo.ensures.standing j) (sym c.pop.ensures.others j)) (sym fed_is j))
