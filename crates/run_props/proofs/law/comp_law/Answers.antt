use Rattle.std.proofs.Common.{[]}
use Rattle.turn_steps.specs.Feeds.{tape_of}
use Rattle.run_props.proofs.RunLemmas.{run_is_safe}
use Rattle.run_props.proofs.law.comp_law.Goals as goal

pub returns : goal.returns
returns c = λ basis g items is. (run_is_safe basis g (tape_of []) items is).comp
