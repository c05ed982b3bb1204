use Rattle.std.proofs.Common.{◌≡◌, false, rules, true}
use Rattle.pump_shell.proofs.StartLemmas.{chosen_is_over, done_as_chosen, over_is_chosen, puts_as_chosen, replies_as_chosen}
use Rattle.pump_shell.proofs.session.run_session.Goals as goal

pub returns-then-setup-clause-done : goal.returns-then-setup-clause-done
returns-then-setup-clause-done g c =
    let is : c.args.setup.basis.choice.secret ≡ true = search rules in
    done_as_chosen c.args.setup c.args.secret.now c.args.image.now true is c.args.limit (g.S.Source.left c.args.input.now) c.run_whole.result c.run_whole.ensures.done

pub returns-then-setup-clause-puts : goal.returns-then-setup-clause-puts
returns-then-setup-clause-puts g c =
    let is : c.args.setup.basis.choice.secret ≡ true = search rules in
    puts_as_chosen c.args.setup c.args.secret.now c.args.image.now true is c.args.limit (g.S.Source.left c.args.input.now) c.run_whole.result
    (g.K.Sink.taken c.args.out.now) (g.K.Sink.taken c.run_whole.new.out) c.run_whole.ensures.puts

pub returns-then-setup-clause-replied : goal.returns-then-setup-clause-replied
returns-then-setup-clause-replied g c failed =
    let is : c.args.setup.basis.choice.secret ≡ true = search rules in
    replies_as_chosen c.args.setup c.args.secret.now c.args.image.now true is c.args.limit (g.S.Source.left c.args.input.now) _ _ _ (c.run_whole.ensures.replied failed)

pub returns-then-setup-clause-out_of_tags : goal.returns-then-setup-clause-out_of_tags
returns-then-setup-clause-out_of_tags g c out =
    let is : c.args.setup.basis.choice.secret ≡ true = search rules in
    over_is_chosen c.args.setup c.args.secret.now c.args.image.now true is (c.run_whole.ensures.out_of_tags out)

pub returns-then-setup-clause-over : goal.returns-then-setup-clause-over
returns-then-setup-clause-over g c over =
    let is : c.args.setup.basis.choice.secret ≡ true = search rules in
    c.run_whole.ensures.over (chosen_is_over c.args.setup c.args.secret.now c.args.image.now true is over)

pub returns-clause-done : goal.returns-clause-done
returns-clause-done g c =
    let is : c.args.setup.basis.choice.secret ≡ false = search rules in
    done_as_chosen c.args.setup c.args.secret.now c.args.image.now false is c.args.limit (g.S.Source.left c.args.input.now) c.run_whole-2.result c.run_whole-2.ensures.done

pub returns-clause-puts : goal.returns-clause-puts
returns-clause-puts g c =
    let is : c.args.setup.basis.choice.secret ≡ false = search rules in
    puts_as_chosen c.args.setup c.args.secret.now c.args.image.now false is c.args.limit (g.S.Source.left c.args.input.now) c.run_whole-2.result
    (g.K.Sink.taken c.args.out.now) (g.K.Sink.taken c.run_whole-2.new.out) c.run_whole-2.ensures.puts

pub returns-clause-replied : goal.returns-clause-replied
returns-clause-replied g c failed =
    let is : c.args.setup.basis.choice.secret ≡ false = search rules in
    replies_as_chosen c.args.setup c.args.secret.now c.args.image.now false is c.args.limit (g.S.Source.left c.args.input.now) _ _ _ (c.run_whole-2.ensures.replied failed)

pub returns-clause-out_of_tags : goal.returns-clause-out_of_tags
returns-clause-out_of_tags g c out =
    let is : c.args.setup.basis.choice.secret ≡ false = search rules in
    over_is_chosen c.args.setup c.args.secret.now c.args.image.now false is (c.run_whole-2.ensures.out_of_tags out)

pub returns-clause-over : goal.returns-clause-over
returns-clause-over g c over =
    let is : c.args.setup.basis.choice.secret ≡ false = search rules in
    c.run_whole-2.ensures.over (chosen_is_over c.args.setup c.args.secret.now c.args.image.now false is over)
