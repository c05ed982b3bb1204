use Rattle.std.proofs.Common.{◌≡◌, codes, ap, subst, sym, arith}
use Rattle.std.proofs.lemmas.Slice.Eq.{text_from_reads}
use Rattle.std.specs.Prelude.{Some}
use Rattle.shell_lang.specs.Grammar.{counts_view}
use Rattle.shell_lang.specs.Words.{words_of}
use Rattle.shell_lang.proofs.grammar.counts_view.Goals as goal

pub returns-in-stats : goal.returns-in-stats
unfolding counts_view
returns-in-stats c =
    let name : c.args.name.now ≡ codes "stats" =
    text_from_reads c.args.name.now (codes "stats") (omega arith) (omega arith, (omega arith, (omega arith, (omega arith, (omega arith, tt))))) in
    subst (λ text. Some c.plain_command.result ≡ counts_view text (words_of c.args.rest.now)) (sym name)
    (ap Some c.plain_command.ensures)

pub returns-in-sweeps : goal.returns-in-sweeps
unfolding counts_view
returns-in-sweeps c =
    let name : c.args.name.now ≡ codes "sweeps" =
    text_from_reads c.args.name.now (codes "sweeps") (omega arith) (omega arith, (omega arith, (omega arith, (omega arith, (omega arith, (omega arith, tt)))))) in
    subst (λ text. Some c.plain_command-in-sweeps.result ≡ counts_view text (words_of c.args.rest.now)) (sym name)
    (ap Some c.plain_command-in-sweeps.ensures)
