use Rattle.std.proofs.Common.{ℕ, List, ◌++◌, ◌∙◌, ap, append_assoc, codes}
use Rattle.asm_show.specs.Operands.{whole}
use Rattle.asm_show.proofs.statements.write_plain_word.Goals as goal

pub returns-clause-text : goal.returns-clause-text
returns-clause-text c =
    c.write_whole.ensures.text ∙
    ap (λ (t : List ℕ). t ++ whole c.args.word) c.write_text.ensures.text ∙
    append_assoc c.args.line.now.items (codes ".word ") (whole c.args.word)
