use Rattle.std.proofs.Common.{codes}
use Rattle.pump_line.proofs.CommandLemmas.{bare_made}
use Rattle.pump_line.proofs.command.bare_command.Goals as goal

pub returns : goal.returns
returns c =
    bare_made c.new.result c.disable_help_flag.result c.disable_help_subcommand.result c.subcommand_required.result
    (codes "pump") c.new.ensures.app c.disable_help_flag.ensures c.disable_help_subcommand.ensures c.subcommand_required.ensures
