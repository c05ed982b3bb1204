use Rattle.pump_shell.proofs.StartLemmas.{done_as_set, over_as_chosen, over_as_set, puts_as_set, replies_as_set}
use Rattle.pump_shell.proofs.session.run_whole.Goals as goal

pub returns-in-Asked-clause-done : goal.returns-in-Asked-clause-done
returns-in-Asked-clause-done g c =
    done_as_set g.W.Tag.PartialEq.eq g.W.Policy.model (g.W.Whole.chosen c.args.setup.basis c.args.secret.now c.args.image.now) c.args.setup c.args.image.now _ c.in-Asked.ensures.starts c.args.limit (g.S.Source.left c.args.input.now) c.run_from.result c.run_from.ensures.done

pub returns-in-Asked-clause-puts : goal.returns-in-Asked-clause-puts
returns-in-Asked-clause-puts g c =
    puts_as_set g.W.Tag.PartialEq.eq g.W.Policy.model (g.W.Whole.chosen c.args.setup.basis c.args.secret.now c.args.image.now) c.args.setup c.args.image.now _ c.in-Asked.ensures.starts c.args.limit (g.S.Source.left c.args.input.now) c.run_from.result
    (g.K.Sink.taken c.args.out.now) (g.K.Sink.taken c.run_from.new.out) c.run_from.ensures.puts

pub returns-in-Asked-clause-replied : goal.returns-in-Asked-clause-replied
returns-in-Asked-clause-replied g c failed =
    replies_as_set g.W.Tag.PartialEq.eq g.W.Policy.model (g.W.Whole.chosen c.args.setup.basis c.args.secret.now c.args.image.now) c.args.setup c.args.image.now _ c.in-Asked.ensures.starts c.args.limit (g.S.Source.left c.args.input.now) _ _ _
    (c.run_from.ensures.replied failed)

pub returns-in-Asked-clause-out_of_tags : goal.returns-in-Asked-clause-out_of_tags
returns-in-Asked-clause-out_of_tags g c out =
    over_as_set g.W.Tag.PartialEq.eq g.W.Policy.model (g.W.Whole.chosen c.args.setup.basis c.args.secret.now c.args.image.now) c.args.setup c.args.image.now _ c.in-Asked.ensures.starts (c.run_from.ensures.out_of_tags out)

pub returns-in-Asked-clause-over : goal.returns-in-Asked-clause-over
returns-in-Asked-clause-over g c over =
    c.run_from.ensures.over (over_as_chosen g.W.Tag.PartialEq.eq g.W.Policy.model (g.W.Whole.chosen c.args.setup.basis c.args.secret.now c.args.image.now) c.args.setup c.args.image.now _ c.in-Asked.ensures.starts over)

pub returns-in-Kept-clause-done : goal.returns-in-Kept-clause-done
returns-in-Kept-clause-done g c =
    done_as_set g.W.Tag.PartialEq.eq g.W.Policy.model (g.W.Whole.chosen c.args.setup.basis c.args.secret.now c.args.image.now) c.args.setup c.args.image.now _ c.in-Kept.ensures.starts c.args.limit (g.S.Source.left c.args.input.now) c.run_from-in-Kept.result c.run_from-in-Kept.ensures.done

pub returns-in-Kept-clause-puts : goal.returns-in-Kept-clause-puts
returns-in-Kept-clause-puts g c =
    puts_as_set g.W.Tag.PartialEq.eq g.W.Policy.model (g.W.Whole.chosen c.args.setup.basis c.args.secret.now c.args.image.now) c.args.setup c.args.image.now _ c.in-Kept.ensures.starts c.args.limit (g.S.Source.left c.args.input.now) c.run_from-in-Kept.result
    (g.K.Sink.taken c.args.out.now) (g.K.Sink.taken c.run_from-in-Kept.new.out) c.run_from-in-Kept.ensures.puts

pub returns-in-Kept-clause-replied : goal.returns-in-Kept-clause-replied
returns-in-Kept-clause-replied g c failed =
    replies_as_set g.W.Tag.PartialEq.eq g.W.Policy.model (g.W.Whole.chosen c.args.setup.basis c.args.secret.now c.args.image.now) c.args.setup c.args.image.now _ c.in-Kept.ensures.starts c.args.limit (g.S.Source.left c.args.input.now) _ _ _
    (c.run_from-in-Kept.ensures.replied failed)

pub returns-in-Kept-clause-out_of_tags : goal.returns-in-Kept-clause-out_of_tags
returns-in-Kept-clause-out_of_tags g c out =
    over_as_set g.W.Tag.PartialEq.eq g.W.Policy.model (g.W.Whole.chosen c.args.setup.basis c.args.secret.now c.args.image.now) c.args.setup c.args.image.now _ c.in-Kept.ensures.starts (c.run_from-in-Kept.ensures.out_of_tags out)

pub returns-in-Kept-clause-over : goal.returns-in-Kept-clause-over
returns-in-Kept-clause-over g c over =
    c.run_from-in-Kept.ensures.over (over_as_chosen g.W.Tag.PartialEq.eq g.W.Policy.model (g.W.Whole.chosen c.args.setup.basis c.args.secret.now c.args.image.now) c.args.setup c.args.image.now _ c.in-Kept.ensures.starts over)

pub returns-in-InSets-clause-done : goal.returns-in-InSets-clause-done
returns-in-InSets-clause-done g c =
    done_as_set g.W.Tag.PartialEq.eq g.W.Policy.model (g.W.Whole.chosen c.args.setup.basis c.args.secret.now c.args.image.now) c.args.setup c.args.image.now _ c.in-InSets.ensures.starts c.args.limit (g.S.Source.left c.args.input.now) c.run_from-in-InSets.result c.run_from-in-InSets.ensures.done

pub returns-in-InSets-clause-puts : goal.returns-in-InSets-clause-puts
returns-in-InSets-clause-puts g c =
    puts_as_set g.W.Tag.PartialEq.eq g.W.Policy.model (g.W.Whole.chosen c.args.setup.basis c.args.secret.now c.args.image.now) c.args.setup c.args.image.now _ c.in-InSets.ensures.starts c.args.limit (g.S.Source.left c.args.input.now) c.run_from-in-InSets.result
    (g.K.Sink.taken c.args.out.now) (g.K.Sink.taken c.run_from-in-InSets.new.out) c.run_from-in-InSets.ensures.puts

pub returns-in-InSets-clause-replied : goal.returns-in-InSets-clause-replied
returns-in-InSets-clause-replied g c failed =
    replies_as_set g.W.Tag.PartialEq.eq g.W.Policy.model (g.W.Whole.chosen c.args.setup.basis c.args.secret.now c.args.image.now) c.args.setup c.args.image.now _ c.in-InSets.ensures.starts c.args.limit (g.S.Source.left c.args.input.now) _ _ _
    (c.run_from-in-InSets.ensures.replied failed)

pub returns-in-InSets-clause-out_of_tags : goal.returns-in-InSets-clause-out_of_tags
returns-in-InSets-clause-out_of_tags g c out =
    over_as_set g.W.Tag.PartialEq.eq g.W.Policy.model (g.W.Whole.chosen c.args.setup.basis c.args.secret.now c.args.image.now) c.args.setup c.args.image.now _ c.in-InSets.ensures.starts (c.run_from-in-InSets.ensures.out_of_tags out)

pub returns-in-InSets-clause-over : goal.returns-in-InSets-clause-over
returns-in-InSets-clause-over g c over =
    c.run_from-in-InSets.ensures.over (over_as_chosen g.W.Tag.PartialEq.eq g.W.Policy.model (g.W.Whole.chosen c.args.setup.basis c.args.secret.now c.args.image.now) c.args.setup c.args.image.now _ c.in-InSets.ensures.starts over)
