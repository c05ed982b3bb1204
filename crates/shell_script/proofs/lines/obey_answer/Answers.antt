use Rattle.std.proofs.Common.{IfOk, false, refl, subst, sym}
use Rattle.shell_turns.specs.Cuts.{PutsOut}
use Rattle.shell_turns.proofs.PutLemmas.{gives, puts_nothing}
use Rattle.shell_script.specs.Scripts.{Ends, Script}
use Rattle.shell_script.proofs.ScriptLemmas.{script_none, script_one}
use Rattle.shell_script.proofs.lines.obey_answer.Goals as goal

pub returns-in-None-clause-done : goal.returns-in-None-clause-done
returns-in-None-clause-done g c =
    rw c.in-None.is
    (subst (λ all. Ends all c.args.session.now false) (sym (script_none g.L.E.P.Tag.PartialEq.eq g.L.E.P.Policy.model c.args.session.now))
    (record { after = refl; quits = refl }))

pub returns-in-None-clause-puts : goal.returns-in-None-clause-puts
returns-in-None-clause-puts g c =
    let old = g.K.Sink.taken c.args.out.now in
    rw c.in-None.is
    (subst (λ (all : Script _ _). PutsOut old old all.pieces (gives false)) (sym (script_none g.L.E.P.Tag.PartialEq.eq g.L.E.P.Policy.model c.args.session.now))
    (puts_nothing old false))

pub returns-in-Some-clause-done : goal.returns-in-Some-clause-done
returns-in-Some-clause-done g c =
    rw c.in-Some.is
    (subst (λ all. IfOk c.obey_line.result (λ quits. Ends all c.obey_line.new.session quits))
    (sym (script_one g.L.E.P.Tag.PartialEq.eq g.L.E.P.Policy.model c.args.session.now c.in-Some.line)) c.obey_line.ensures.done)

pub returns-in-Some-clause-puts : goal.returns-in-Some-clause-puts
returns-in-Some-clause-puts g c =
    rw c.in-Some.is
    (subst (λ (all : Script _ _). PutsOut (g.K.Sink.taken c.args.out.now) (g.K.Sink.taken c.obey_line.new.out) all.pieces c.obey_line.result)
    (sym (script_one g.L.E.P.Tag.PartialEq.eq g.L.E.P.Policy.model c.args.session.now c.in-Some.line)) c.obey_line.ensures.puts)
