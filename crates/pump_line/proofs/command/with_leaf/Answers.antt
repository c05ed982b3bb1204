use Rattle.std.proofs.Common.{refl}
use Rattle.std.proofs.lemmas.Result.{IfOk-weaker}
use Rattle.pump_line.proofs.CommandLemmas.{with_leaf_more}
use Rattle.pump_line.proofs.command.with_leaf.Goals as goal

pub returns : goal.returns
returns c =
    let leaf = c.in_ok-leaf_command.ensures in
    IfOk-weaker c.subcommand.result _ _ (λ new added. with_leaf_more _ _ new _ _ _ refl leaf added) c.subcommand.ensures
