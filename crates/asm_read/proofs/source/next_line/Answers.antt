use Rattle.std.proofs.Common.{◌≡◌, ◌∙◌, Some, None, sym, ap}
use Rattle.std.specs.Option.{option_copied}
use Rattle.asm_text.specs.Cuts.{after}
use Rattle.asm_read.proofs.SourceLemmas.{after-shorter, lines-last, lines-more}
use Rattle.asm_read.proofs.source.next_line.Goals as goal

pub returns-in-Some-clause-lines : goal.returns-in-Some-clause-lines
returns-in-Some-clause-lines c =
    let found : after 10 c.args.text.now ≡ Some c.in-Some.rest.now = sym c.cut.ensures.rest ∙ ap option_copied c.in-Some.is in
    rw (c.without_return.ensures, c.cut.ensures.prefix) (lines-more c.args.text.now c.in-Some.rest.now found)

pub returns-in-Some-clause-shorter : goal.returns-in-Some-clause-shorter
returns-in-Some-clause-shorter c =
    after-shorter c.args.text.now c.in-Some.rest.now (sym c.cut.ensures.rest ∙ ap option_copied c.in-Some.is)

pub returns-in-None-clause-lines : goal.returns-in-None-clause-lines
returns-in-None-clause-lines c =
    let none : after 10 c.args.text.now ≡ None = sym c.cut.ensures.rest ∙ ap option_copied c.in-None.is in
    rw c.cut.ensures.prefix (lines-last c.args.text.now none c.requires)
