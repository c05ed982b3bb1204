use Rattle.std.proofs.Common.{ap, ◌∙◌}
use Rattle.asm_read.specs.Source.{at_line}
use Rattle.asm_places.proofs.places.numbered_place.Goals as goal

pub returns : goal.returns
returns c = λ before seen. c.at_line.ensures ∙ ap (at_line c.args.line.now.number) (c.next_place.ensures before seen)
