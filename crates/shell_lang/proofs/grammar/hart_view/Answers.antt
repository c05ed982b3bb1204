use Rattle.std.proofs.Common.{◌≡◌, codes, subst, sym, arith, rules}
use Rattle.std.proofs.lemmas.Slice.Eq.{text_from_reads}
use Rattle.std.specs.Prelude.{Some}
use Rattle.shell_lang.specs.Grammar.{hart_view}
use Rattle.shell_lang.specs.Words.{words_of}
use Rattle.shell_lang.proofs.grammar.hart_view.Goals as goal

pub returns-in-regs : goal.returns-in-regs
unfolding hart_view
returns-in-regs c =
    let name : c.args.name.now ≡ codes "regs" =
    text_from_reads c.args.name.now (codes "regs") (omega arith) (omega arith, (omega arith, (omega arith, (omega arith, tt)))) in
    subst (λ text. Some c.map-in-regs.result ≡ hart_view text (words_of c.args.rest.now)) (sym name)
    (search rules)

pub returns-in-pc : goal.returns-in-pc
unfolding hart_view
returns-in-pc c =
    let name : c.args.name.now ≡ codes "pc" =
    text_from_reads c.args.name.now (codes "pc") (omega arith) (omega arith, (omega arith, tt)) in
    subst (λ text. Some c.map.result ≡ hart_view text (words_of c.args.rest.now)) (sym name)
    (search rules)

pub returns-in-why : goal.returns-in-why
unfolding hart_view
returns-in-why c =
    let name : c.args.name.now ≡ codes "why" =
    text_from_reads c.args.name.now (codes "why") (omega arith) (omega arith, (omega arith, (omega arith, tt))) in
    subst (λ text. Some c.map-in-why.result ≡ hart_view text (words_of c.args.rest.now)) (sym name)
    (search rules)
