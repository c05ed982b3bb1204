use Rattle.asm_words.specs.Emission.{count_of}
use Rattle.asm_emit.proofs.values.addition_of.Goals as goal

pub returns-in-Heap-clause-fits : goal.returns-in-Heap-clause-fits
returns-in-Heap-clause-fits c = c.heap_of.ensures.fits c.args.layout.now.version c.args.layout.now.harts (count_of c.args.statement.now)

pub returns-in-Entry-clause-fits : goal.returns-in-Entry-clause-fits
returns-in-Entry-clause-fits c = c.entry_of.ensures.fits c.args.layout.now.version (count_of c.args.statement.now)

pub returns-in-Label-clause-fits : goal.returns-in-Label-clause-fits
returns-in-Label-clause-fits c = c.label_of.ensures.fits c.args.layout.now.version c.args.layout.now.harts c.args.layout.now.ram (count_of c.args.statement.now)

pub returns-in-Edge-clause-fits : goal.returns-in-Edge-clause-fits
returns-in-Edge-clause-fits c = c.edge_of.ensures.fits c.args.layout.now.version c.args.layout.now.harts c.args.layout.now.ram (count_of c.args.statement.now)

pub returns-in-Compartment-clause-fits : goal.returns-in-Compartment-clause-fits
returns-in-Compartment-clause-fits c = c.compartment_of.ensures.fits c.args.layout.now.harts c.args.layout.now.ram (count_of c.args.statement.now)

pub returns-in-Registers-clause-fits : goal.returns-in-Registers-clause-fits
returns-in-Registers-clause-fits c = c.words_of.ensures.fits c.args.layout.now.version c.args.layout.now.harts c.args.layout.now.ram
