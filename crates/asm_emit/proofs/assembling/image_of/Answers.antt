use Rattle.std.proofs.Common.{◌∙◌}
use Rattle.asm_emit.specs.Seen.{draft_of}
use Rattle.asm_emit.proofs.DraftLemmas.{pictured}
use Rattle.asm_emit.proofs.EdgeOrderLemmas.{edges_are}
use Rattle.asm_emit.proofs.assembling.image_of.Goals as goal

pub returns : goal.returns
returns c =
    let ordered = edges_are c.args.builder.edges.items c.in_ok-edges.edges.items c.in_ok-edges.ensures.rows c.in_ok-edges.ensures.members in
    c.new.ensures ∙ pictured c.args.ram (draft_of c.args.builder) c.in_ok-edges.edges.items ordered
