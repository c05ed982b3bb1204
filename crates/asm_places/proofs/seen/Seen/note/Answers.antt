use Rattle.std.proofs.Common.{◌≡◌, ◌∙◌}
use Rattle.std.specs.Prelude.{ℤ, ◌||◌}
use Rattle.std.specs.BTreeSet.{contains}
use Rattle.std.specs.Ordering.{int_cmp}
use Rattle.std.proofs.lemmas.Result.{on_ok_weaker}
use Rattle.asm_places.specs.Seen.{enters}
use Rattle.asm_places.proofs.SeenLemmas.{noted}
use Rattle.asm_places.proofs.seen.Seen.note.Goals as goal

pub returns : goal.returns
returns c =
    let now = c.note_statement.ensures in
    on_ok_weaker
    c.note_statement.result
    (λ (entries : (hart : ℤ) → contains int_cmp c.note_statement.new.self.entries hart ≡ (contains int_cmp c.args.self.now.entries hart || enters hart c.args.line.now.statement)) before seen.
    noted c.args.self.now c.note_statement.new.self before c.args.line.now (now.names ∙ c.in_ok-give_label.ensures) now.version now.harts now.ram now.heap entries seen)
    now.entries
