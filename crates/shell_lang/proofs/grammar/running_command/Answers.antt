use Rattle.std.proofs.Common.{◌≡◌, codes, ap, subst, sym, arith}
use Rattle.std.proofs.lemmas.Slice.Eq.{text_from_reads}
use Rattle.std.specs.Prelude.{Some}
use Rattle.shell_lang.specs.Grammar.{running_command}
use Rattle.shell_lang.specs.Words.{words_of}
use Rattle.shell_lang.proofs.grammar.running_command.Goals as goal

pub returns-in-step : goal.returns-in-step
unfolding running_command
returns-in-step c =
    let name : c.args.name.now ≡ codes "step" =
    text_from_reads c.args.name.now (codes "step") (omega arith) (omega arith, (omega arith, (omega arith, (omega arith, tt)))) in
    subst (λ text. Some c.step_command.result ≡ running_command text (words_of c.args.rest.now)) (sym name)
    (ap Some c.step_command.ensures)

pub returns-in-run : goal.returns-in-run
unfolding running_command
returns-in-run c =
    let name : c.args.name.now ≡ codes "run" =
    text_from_reads c.args.name.now (codes "run") (omega arith) (omega arith, (omega arith, (omega arith, tt))) in
    subst (λ text. Some c.run_command.result ≡ running_command text (words_of c.args.rest.now)) (sym name)
    (ap Some c.run_command.ensures)

pub returns-in-turns : goal.returns-in-turns
unfolding running_command
returns-in-turns c =
    let name : c.args.name.now ≡ codes "turns" =
    text_from_reads c.args.name.now (codes "turns") (omega arith) (omega arith, (omega arith, (omega arith, (omega arith, (omega arith, tt))))) in
    subst (λ text. Some c.turns_command.result ≡ running_command text (words_of c.args.rest.now)) (sym name)
    (ap Some c.turns_command.ensures)

pub returns-in-feed : goal.returns-in-feed
unfolding running_command
returns-in-feed c =
    let name : c.args.name.now ≡ codes "feed" =
    text_from_reads c.args.name.now (codes "feed") (omega arith) (omega arith, (omega arith, (omega arith, (omega arith, tt)))) in
    subst (λ text. Some c.feed_command.result ≡ running_command text (words_of c.args.rest.now)) (sym name)
    (ap Some c.feed_command.ensures)
