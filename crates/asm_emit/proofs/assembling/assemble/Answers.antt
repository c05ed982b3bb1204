use Rattle.std.proofs.Common.{sym, ap, ◌∙◌}
use Rattle.std.specs.FinMap as map
use Rattle.std.specs.Prelude.{Ok}
use Rattle.std.proofs.lemmas.Result.{err_from_is_err_and}
use Rattle.image_format.specs.Picture.{Picture}
use Rattle.asm_places.specs.Layouts.{layout_seen}
use Rattle.asm_emit.specs.Seen.{draft_of}
use Rattle.asm_emit.proofs.AssembledLemmas.{fails_on, gives_all}
use Rattle.asm_emit.proofs.PlaceLemmas.{are_placed}
use Rattle.asm_emit.proofs.assembling.assemble.Goals as goal

pub builder_of-requires-clause-placed : goal.builder_of-requires-clause-placed
builder_of-requires-clause-placed c = are_placed c.args.lines.now (layout_seen c.in_ok-layout.layout) c.in_ok-layout.ensures.value

pub returns-in_err-builder : goal.returns-in_err-builder
returns-in_err-builder c =
    let p = err_from_is_err_and c.from_residual-in_err-builder.result c.from_residual-in_err-builder.ensures.1 in
    rw (p.1, p.2)
    (fails_on (map.get c.in_ok-names.names) c.args.lines.now (layout_seen c.in_ok-layout.layout) c.in_err-builder.field-0.0 c.in_ok-layout.ensures.value c.in_ok-names.ensures c.in_err-builder.ensures.value)

pub returns : goal.returns
returns c =
    gives_all (map.get c.in_ok-names.names) c.args.lines.now (layout_seen c.in_ok-layout.layout) (draft_of c.in_ok-builder.builder) c.in_ok-layout.ensures.value c.in_ok-names.ensures c.in_ok-builder.ensures.value
    ∙ ap (λ (g : Picture). Ok g) (sym c.in_ok-image.ensures)
