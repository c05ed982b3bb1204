use Rattle.std.proofs.Common.{◌≡◌, codes, ap, subst, sym, arith, rules}
use Rattle.std.proofs.lemmas.Slice.Eq.{text_from_reads}
use Rattle.std.specs.Prelude.{Some}
use Rattle.shell_lang.specs.Grammar.{machine_view}
use Rattle.shell_lang.specs.Words.{words_of}
use Rattle.shell_lang.proofs.grammar.machine_view.Goals as goal

pub returns-in-mem : goal.returns-in-mem
unfolding machine_view
returns-in-mem c =
    let name : c.args.name.now ≡ codes "mem" =
    text_from_reads c.args.name.now (codes "mem") (omega arith) (omega arith, (omega arith, (omega arith, tt))) in
    subst (λ text. Some c.map.result ≡ machine_view text (words_of c.args.rest.now)) (sym name)
    (search rules)

pub returns-in-tags : goal.returns-in-tags
unfolding machine_view
returns-in-tags c =
    let name : c.args.name.now ≡ codes "tags" =
    text_from_reads c.args.name.now (codes "tags") (omega arith) (omega arith, (omega arith, (omega arith, (omega arith, tt)))) in
    subst (λ text. Some c.map-in-tags.result ≡ machine_view text (words_of c.args.rest.now)) (sym name)
    (search rules)

pub returns-in-dis : goal.returns-in-dis
unfolding machine_view
returns-in-dis c =
    let name : c.args.name.now ≡ codes "dis" =
    text_from_reads c.args.name.now (codes "dis") (omega arith) (omega arith, (omega arith, (omega arith, tt))) in
    subst (λ text. Some c.map-in-dis.result ≡ machine_view text (words_of c.args.rest.now)) (sym name)
    (search rules)

pub returns-in-blocks : goal.returns-in-blocks
unfolding machine_view
returns-in-blocks c =
    let name : c.args.name.now ≡ codes "blocks" =
    text_from_reads c.args.name.now (codes "blocks") (omega arith) (omega arith, (omega arith, (omega arith, (omega arith, (omega arith, (omega arith, tt)))))) in
    subst (λ text. Some c.plain_command.result ≡ machine_view text (words_of c.args.rest.now)) (sym name)
    (ap Some c.plain_command.ensures)
