use Rattle.std.proofs.Common.{Err, inl, inr, refl}
use Rattle.pump_shell.specs.declared.ends.SessionCut.TheVariants.{Memory}
use Rattle.pump_shell.proofs.ToldLemmas.{long_told, made_cut, made_end, made_puts, made_replies, over_end, over_puts, unmade_puts}
use Rattle.pump_shell.proofs.session.run_from.Goals as goal

pub returns-in-Err-TagsOut-clause-done : goal.returns-in-Err-TagsOut-clause-done
returns-in-Err-TagsOut-clause-done g c =
    over_end g.L.E.P.Tag.PartialEq.eq g.L.E.P.Policy.model c.args.limit (g.L.Loader.start c.args.loader) (g.S.Source.left c.args.input.now)
    (c.in-Err-TagsOut.ensures.tags_out (λ i. Err (c.in-Err-TagsOut.field-0-is i)))

pub returns-in-Err-TagsOut-clause-puts : goal.returns-in-Err-TagsOut-clause-puts
returns-in-Err-TagsOut-clause-puts g c =
    over_puts g.L.E.P.Tag.PartialEq.eq g.L.E.P.Policy.model c.args.limit (g.L.Loader.start c.args.loader) (g.S.Source.left c.args.input.now) _
    (c.in-Err-TagsOut.ensures.tags_out (λ i. Err (c.in-Err-TagsOut.field-0-is i)))

pub returns-in-Err-Memory-clause-puts : goal.returns-in-Err-Memory-clause-puts
returns-in-Err-Memory-clause-puts g c =
    unmade_puts g.L.E.P.Tag.PartialEq.eq g.L.E.P.Policy.model c.args.limit (g.L.Loader.start c.args.loader) (g.S.Source.left c.args.input.now) _ Memory

pub returns-in-Ok-obey_input-clause-done : goal.returns-in-Ok-obey_input-clause-done
returns-in-Ok-obey_input-clause-done g c =
    made_end g.L.E.P.Tag.PartialEq.eq g.L.E.P.Policy.model c.args.limit (g.L.Loader.start c.args.loader) c.in-Ok.ensures.within c.in-Ok.session c.in-Ok.ensures.ok
    (g.S.Source.left c.args.input.now) _ c.in-Ok-obey_input.end c.of.result c.of.ensures c.in-Ok-obey_input.ensures.done

pub returns-in-Ok-obey_input-clause-puts : goal.returns-in-Ok-obey_input-clause-puts
returns-in-Ok-obey_input-clause-puts g c =
    made_puts g.L.E.P.Tag.PartialEq.eq g.L.E.P.Policy.model c.args.limit (g.L.Loader.start c.args.loader) c.in-Ok.ensures.within c.in-Ok.session c.in-Ok.ensures.ok
    (g.S.Source.left c.args.input.now) _ _ c.in-Ok-obey_input.end c.of.result c.in-Ok-obey_input.ensures.puts

pub returns-in-Ok-obey_input-clause-long : goal.returns-in-Ok-obey_input-clause-long
returns-in-Ok-obey_input-clause-long g c too_long =
    long_told g.L.E.P.Tag.PartialEq.eq g.L.E.P.Policy.model c.args.limit (g.L.Loader.start c.args.loader) (g.S.Source.left c.args.input.now) c.of.result
    (made_end g.L.E.P.Tag.PartialEq.eq g.L.E.P.Policy.model c.args.limit (g.L.Loader.start c.args.loader) c.in-Ok.ensures.within c.in-Ok.session c.in-Ok.ensures.ok
    (g.S.Source.left c.args.input.now) _ c.in-Ok-obey_input.end c.of.result c.of.ensures c.in-Ok-obey_input.ensures.done)
    cc

pub returns-clause-puts : goal.returns-clause-puts
returns-clause-puts g c =
    made_cut g.L.E.P.Tag.PartialEq.eq g.L.E.P.Policy.model c.args.limit (g.L.Loader.start c.args.loader) c.in-Ok.ensures.within c.in-Ok.session c.in-Ok.ensures.ok
    (g.S.Source.left c.args.input.now) _ _ c.in-Err.cut c.from.result c.in-Err.ensures.puts

pub returns-in-Err-TagsOut-clause-over : goal.returns-in-Err-TagsOut-clause-over
returns-in-Err-TagsOut-clause-over g c over = record { ends = inl refl; unread = refl; silent = refl }

pub returns-in-Err-Memory-clause-over : goal.returns-in-Err-Memory-clause-over
returns-in-Err-Memory-clause-over g c over = record { ends = inr refl; unread = refl; silent = refl }

pub returns-in-Ok-obey_input-clause-over : goal.returns-in-Ok-obey_input-clause-over
returns-in-Ok-obey_input-clause-over g c over = absurd (let within = c.in-Ok.ensures.within in cc)

pub returns-clause-over : goal.returns-clause-over
returns-clause-over g c over = absurd (let within = c.in-Ok.ensures.within in cc)

pub returns-clause-replied : goal.returns-clause-replied
returns-clause-replied g c failed =
    made_replies g.L.E.P.Tag.PartialEq.eq g.L.E.P.Policy.model c.args.limit (g.L.Loader.start c.args.loader) c.in-Ok.ensures.within c.in-Ok.session c.in-Ok.ensures.ok
    (g.S.Source.left c.args.input.now) _ _ _ c.in-Err.cut c.from.result c.from.ensures c.in-Err.ensures.replied failed
