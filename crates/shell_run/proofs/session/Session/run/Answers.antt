use Rattle.std.proofs.Common.{rules, ◌≡◌, ◌++◌, ◌∷◌, ℕ, [], List, length, refl, subst}
use Rattle.std.proofs.lemmas.Result.{err_from_is_err_and}
use Rattle.host_io.specs.Pieces.{out}
use Rattle.shell_turns.specs.Cuts.{PutsOut}
use Rattle.shell_turns.specs.Order.{order_of}
use Rattle.shell_turns.specs.Turns.{turns}
use Rattle.shell_turns.proofs.PutLemmas.{fails, puts_cut_in, puts_on}
use Rattle.shell_run.specs.Lines.{turns_line}
use Rattle.shell_run.specs.Replies.{running}
use Rattle.shell_run.proofs.SessionLemmas.{cut_in_count, cut_in_turns}
use Rattle.shell_run.proofs.session.Session.run.Goals as goal

pub returns-in_err-count-clause-puts : goal.returns-in_err-count-clause-puts
unfolding running
returns-in_err-count-clause-puts g c =
    let eq = g.L.E.P.Tag.PartialEq.eq in
    let m = g.L.E.P.Policy.model in
    let old = g.K.Sink.taken c.args.out.now in
    let new = g.K.Sink.taken c.make_turns.new.out in
    let breaks_are : c.deref.result.now ≡ c.self.inside.breaks.items = search rules in
    let made = λ (breaks : List ℕ). turns eq m breaks c.args.budget (order_of c.args.order) (g.L.E.Engine.standing c.self.inside.engine) c.self.inside.feed in
    let p = err_from_is_err_and c.from_residual.result c.from_residual.ensures.1 in
    rw p.1
    (subst (λ s. PutsOut old new (running eq m s c.args.budget (order_of c.args.order)).pieces (fails (Unit {0}) p.0)) c.self.view_is
    (subst (λ breaks. PutsOut old new ((made breaks).pieces ++ out (turns_line (length (made breaks).harts)) ∷ []) (fails (Unit {0}) p.0)) breaks_are
    (puts_cut_in ℕ (Unit {0}) old new _ _ c.in_err-count.field-0.0 p.0 c.in_err-count.ensures.puts)))

pub returns-clause-puts : goal.returns-clause-puts
unfolding running
returns-clause-puts g c =
    let eq = g.L.E.P.Tag.PartialEq.eq in
    let m = g.L.E.P.Policy.model in
    let old = g.K.Sink.taken c.args.out.now in
    let new = g.K.Sink.taken c.put_turns.new.out in
    let breaks_are : c.deref.result.now ≡ c.self.inside.breaks.items = search rules in
    let made = λ (breaks : List ℕ). turns eq m breaks c.args.budget (order_of c.args.order) (g.L.E.Engine.standing c.self.inside.engine) c.self.inside.feed in
    subst (λ s. PutsOut old new (running eq m s c.args.budget (order_of c.args.order)).pieces c.put_turns.result) c.self.view_is
    (subst (λ breaks. PutsOut old new ((made breaks).pieces ++ out (turns_line (length (made breaks).harts)) ∷ []) c.put_turns.result) breaks_are
    (subst (λ count. PutsOut old new ((made c.deref.result.now).pieces ++ out (turns_line count) ∷ []) c.put_turns.result) c.in_ok-count.ensures.made.count
    (puts_on old (g.K.Sink.taken c.make_turns.new.out) new _ _ c.in_ok-count.count c.put_turns.result c.in_ok-count.ensures.puts c.put_turns.ensures.puts)))

pub returns-in_err-count-clause-cut : goal.returns-in_err-count-clause-cut
returns-in_err-count-clause-cut g c =
    let eq = g.L.E.P.Tag.PartialEq.eq in
    let m = g.L.E.P.Policy.model in
    let breaks_are : c.deref.result.now ≡ c.self.inside.breaks.items = search rules in
    let p = err_from_is_err_and c.from_residual.result c.from_residual.ensures.1 in
    rw (p.1, p.2, ← c.self.view_is)
    (cut_in_turns eq m _ c.args.budget (order_of c.args.order) _ refl refl refl c.deref.result.now breaks_are _ _ c.in_err-count.field-0.0 c.in_err-count.ensures.cut)

pub returns-clause-cut : goal.returns-clause-cut
returns-clause-cut g c =
    let eq = g.L.E.P.Tag.PartialEq.eq in
    let m = g.L.E.P.Policy.model in
    let breaks_are : c.deref.result.now ≡ c.self.inside.breaks.items = search rules in
    rw (← c.self.view_is)
    (cut_in_count eq m _ c.args.budget (order_of c.args.order) _ refl refl refl c.deref.result.now breaks_are c.in_ok-count.count c.in_ok-count.ensures.made _
    (g.K.Sink.taken c.make_turns.new.out) _ c.in_ok-count.ensures.puts c.put_turns.result c.put_turns.ensures.puts)
