use Rattle.std.proofs.Common.{◌≡◌, codes, ap, subst, sym, arith, rules}
use Rattle.std.proofs.lemmas.Slice.Eq.{text_from_reads}
use Rattle.std.specs.Prelude.{Some}
use Rattle.shell_lang.specs.Grammar.{session_command}
use Rattle.shell_lang.specs.Words.{words_of}
use Rattle.shell_lang.proofs.grammar.session_command.Goals as goal

pub returns-in-break : goal.returns-in-break
unfolding session_command
returns-in-break c =
    let name : c.args.name.now ≡ codes "break" =
    text_from_reads c.args.name.now (codes "break") (omega arith) (omega arith, (omega arith, (omega arith, (omega arith, (omega arith, tt))))) in
    subst (λ text. Some c.map.result ≡ session_command text (words_of c.args.rest.now)) (sym name)
    (search rules)

pub returns-in-clear : goal.returns-in-clear
unfolding session_command
returns-in-clear c =
    let name : c.args.name.now ≡ codes "clear" =
    text_from_reads c.args.name.now (codes "clear") (omega arith) (omega arith, (omega arith, (omega arith, (omega arith, (omega arith, tt))))) in
    subst (λ text. Some c.map-in-clear.result ≡ session_command text (words_of c.args.rest.now)) (sym name)
    (search rules)

pub returns-in-reset : goal.returns-in-reset
unfolding session_command
returns-in-reset c =
    let name : c.args.name.now ≡ codes "reset" =
    text_from_reads c.args.name.now (codes "reset") (omega arith) (omega arith, (omega arith, (omega arith, (omega arith, (omega arith, tt))))) in
    subst (λ text. Some c.plain_command-in-reset.result ≡ session_command text (words_of c.args.rest.now)) (sym name)
    (ap Some c.plain_command-in-reset.ensures)

pub returns-in-quit : goal.returns-in-quit
unfolding session_command
returns-in-quit c =
    let name : c.args.name.now ≡ codes "quit" =
    text_from_reads c.args.name.now (codes "quit") (omega arith) (omega arith, (omega arith, (omega arith, (omega arith, tt)))) in
    subst (λ text. Some c.plain_command.result ≡ session_command text (words_of c.args.rest.now)) (sym name)
    (ap Some c.plain_command.ensures)
