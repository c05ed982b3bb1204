use Rattle.std.proofs.Common.{sym}
use Rattle.asm_places.proofs.PlaceLemmas.{all_placed}
use Rattle.asm_places.proofs.SizeLemmas.{harts_fit, ram_fits}
use Rattle.asm_places.proofs.layout.layout_of.Goals as goal

pub returns-clause-harts : goal.returns-clause-harts
returns-clause-harts c = harts_fit c.args.lines.now c.in_ok-harts.harts (sym c.in_ok-harts.ensures)

pub returns-clause-ram : goal.returns-clause-ram
returns-clause-ram c = ram_fits c.args.lines.now c.in_ok-ram.ram (sym c.in_ok-ram.ensures)

pub returns-clause-count : goal.returns-clause-count
returns-clause-count c = (all_placed c.in_ok-ram.ram c.args.lines.now (c.in_ok-places.places.items, c.in_ok-places.end) c.in_ok-places.ensures).count

pub returns-clause-places : goal.returns-clause-places
returns-clause-places c = (all_placed c.in_ok-ram.ram c.args.lines.now (c.in_ok-places.places.items, c.in_ok-places.end) c.in_ok-places.ensures).places

pub returns-clause-end : goal.returns-clause-end
returns-clause-end c = (all_placed c.in_ok-ram.ram c.args.lines.now (c.in_ok-places.places.items, c.in_ok-places.end) c.in_ok-places.ensures).end
