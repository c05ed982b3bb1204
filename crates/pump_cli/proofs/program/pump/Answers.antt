use Rattle.std.proofs.Common.{sym, ◌∙◌}
use Rattle.pump_line.specs.Told.{texts_of}
use Rattle.pump_cli.specs.Codes.{status_of_cut}
use Rattle.pump_cli.proofs.AnswerLemmas.{due_status}
use Rattle.pump_cli.proofs.CauseLemmas.{out_run, spent_run}
use Rattle.pump_cli.proofs.ElfLemmas.{saves_elf}
use Rattle.pump_cli.proofs.HiddenLemmas.{hides_secret}
use Rattle.pump_cli.proofs.ListLemmas.{listed_back}
use Rattle.pump_cli.proofs.LoadLemmas.{load_due}
use Rattle.pump_cli.proofs.MigratedLemmas.{saves_migrated}
use Rattle.pump_cli.proofs.SafeRunLemmas.{safe_runs}
use Rattle.pump_cli.proofs.SessionRunLemmas.{session_told}
use Rattle.pump_cli.proofs.program.pump.Goals as goal

pub returns-in-Ok-clause-safe : goal.returns-in-Ok-clause-safe
returns-in-Ok-clause-safe g c held left tells = safe_runs (texts_of c.args.words.now.items) held left tells

pub returns-in-Err-clause-safe : goal.returns-in-Err-clause-safe
returns-in-Err-clause-safe g c held left tells = safe_runs (texts_of c.args.words.now.items) held left tells

pub returns-in-Ok-clause-safe_here : goal.returns-in-Ok-clause-safe_here
returns-in-Ok-clause-safe_here g c = safe_runs (texts_of c.args.words.now.items) _ _ (g.met.F.Files.tells_bytes c.args.files.now)

pub returns-in-Err-clause-safe_here : goal.returns-in-Err-clause-safe_here
returns-in-Err-clause-safe_here g c = safe_runs (texts_of c.args.words.now.items) _ _ (g.met.F.Files.tells_bytes c.args.files.now)

pub returns-in-Ok-clause-replies : goal.returns-in-Ok-clause-replies
returns-in-Ok-clause-replies g c held left tells = session_told (texts_of c.args.words.now.items) held left tells

pub returns-in-Ok-clause-replies_here : goal.returns-in-Ok-clause-replies_here
returns-in-Ok-clause-replies_here g c = session_told (texts_of c.args.words.now.items) _ _ (g.met.F.Files.tells_bytes c.args.files.now)

pub returns-in-Err-clause-replies : goal.returns-in-Err-clause-replies
returns-in-Err-clause-replies g c held left tells = session_told (texts_of c.args.words.now.items) held left tells

pub returns-in-Err-clause-replies_here : goal.returns-in-Err-clause-replies_here
returns-in-Err-clause-replies_here g c = session_told (texts_of c.args.words.now.items) _ _ (g.met.F.Files.tells_bytes c.args.files.now)

pub returns-in-Ok-clause-loads : goal.returns-in-Ok-clause-loads
returns-in-Ok-clause-loads g c task is = load_due (texts_of c.args.words.now.items) _ _ task is

pub returns-in-Err-clause-loads : goal.returns-in-Err-clause-loads
returns-in-Err-clause-loads g c task is = load_due (texts_of c.args.words.now.items) _ _ task is

pub returns-in-Ok-clause-lists : goal.returns-in-Ok-clause-lists
returns-in-Ok-clause-lists g c = listed_back (texts_of c.args.words.now.items)

pub returns-in-Err-clause-lists : goal.returns-in-Err-clause-lists
returns-in-Err-clause-lists g c = listed_back (texts_of c.args.words.now.items)

pub returns-in-Ok-clause-migrates : goal.returns-in-Ok-clause-migrates
returns-in-Ok-clause-migrates g c task picture bytes asked migrates held read =
    saves_migrated task bytes picture (g.met.F.Files.tells_bytes c.args.files.now task.source bytes held) migrates read

pub returns-in-Err-clause-migrates : goal.returns-in-Err-clause-migrates
returns-in-Err-clause-migrates g c task picture bytes asked migrates held read =
    saves_migrated task bytes picture (g.met.F.Files.tells_bytes c.args.files.now task.source bytes held) migrates read

pub returns-in-Ok-clause-converts : goal.returns-in-Ok-clause-converts
returns-in-Ok-clause-converts g c task picture contents asked elf_held tags_held read =
    saves_elf task contents picture (g.met.F.Files.tells_bytes c.args.files.now task.elf contents.elf elf_held)
    (g.met.F.Files.tells_bytes c.args.files.now task.tags contents.tags tags_held) read

pub returns-in-Err-clause-converts : goal.returns-in-Err-clause-converts
returns-in-Err-clause-converts g c task picture contents asked elf_held tags_held read =
    saves_elf task contents picture (g.met.F.Files.tells_bytes c.args.files.now task.elf contents.elf elf_held)
    (g.met.F.Files.tells_bytes c.args.files.now task.tags contents.tags tags_held) read

pub returns-in-Ok-clause-hides : goal.returns-in-Ok-clause-hides
returns-in-Ok-clause-hides g c task held other left tells asks = hides_secret (texts_of c.args.words.now.items) task held other left tells asks

pub returns-in-Err-clause-hides : goal.returns-in-Err-clause-hides
returns-in-Err-clause-hides g c task held other left tells asks = hides_secret (texts_of c.args.words.now.items) task held other left tells asks

pub returns-in-Ok-clause-spent : goal.returns-in-Ok-clause-spent
returns-in-Ok-clause-spent g c is =
    spent_run (texts_of c.args.words.now.items) _ _ (due_status _ _ c.in-Ok.status _ _ _ is c.in-Ok.ensures tt)

pub returns-in-Ok-clause-tags_out : goal.returns-in-Ok-clause-tags_out
returns-in-Ok-clause-tags_out g c is =
    out_run (texts_of c.args.words.now.items) _ _ (due_status _ _ c.in-Ok.status _ _ _ is c.in-Ok.ensures tt)

pub returns-in-Err-clause-spent : goal.returns-in-Err-clause-spent
returns-in-Err-clause-spent g c is =
    spent_run (texts_of c.args.words.now.items) _ _ (due_status _ _ (status_of_cut c.in-Err.cut) _ _ _ (sym c.status.ensures ∙ is) c.in-Err.ensures tt)

pub returns-in-Err-clause-tags_out : goal.returns-in-Err-clause-tags_out
returns-in-Err-clause-tags_out g c is =
    out_run (texts_of c.args.words.now.items) _ _ (due_status _ _ (status_of_cut c.in-Err.cut) _ _ _ (sym c.status.ensures ∙ is) c.in-Err.ensures tt)
