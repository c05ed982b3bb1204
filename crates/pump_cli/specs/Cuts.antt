-- Ends of calls below as cuts of the program.
use Rattle.host_io.specs.declared.traits.files.SaveFile.{SaveFile}
use Rattle.host_io.specs.declared.traits.files.SaveFile.TheVariants as save_file
use Rattle.host_io.specs.declared.traits.sink.PutEnd.{PutEnd}
use Rattle.host_io.specs.declared.traits.sink.PutEnd.TheVariants as put_end
use Rattle.rounds.specs.declared.running.RoundsEnd.{RoundsEnd}
use Rattle.rounds.specs.declared.running.RoundsEnd.TheVariants as rounds_end
use Rattle.pump_shell.specs.declared.ends.SessionCut.{SessionCut}
use Rattle.pump_shell.specs.declared.ends.SessionCut.TheVariants as session_cut
use Rattle.pump_cli.specs.declared.cut.Cut.{Cut}
use Rattle.pump_cli.specs.declared.cut.Cut.TheVariants as cut

abbrev pub cut_of_put : PutEnd → Cut
cut_of_put put_end.Failed = cut.PutFailed
cut_of_put put_end.Memory = cut.Memory

abbrev pub cut_of_save : SaveFile → Cut
cut_of_save save_file.Failed = cut.WriteFailed
cut_of_save save_file.Memory = cut.Memory

-- an engine cuts its rounds short only since memory ran out
abbrev pub cut_of_rounds : RoundsEnd → Cut
cut_of_rounds (rounds_end.Put end) = cut_of_put end
cut_of_rounds rounds_end.Engine = cut.Memory

-- what a session reads is the input
abbrev pub cut_of_session : SessionCut → Cut
cut_of_session session_cut.ReadFailed = cut.InputFailed
cut_of_session session_cut.PutFailed = cut.PutFailed
cut_of_session session_cut.Memory = cut.Memory
