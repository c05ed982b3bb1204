-- Ends of calls below as ends of a session, and which counts of faults rise.
use Rattle.std.specs.Prelude.{◌≡◌, ◌⊎◌, ℕ, List, Option, Result, Ok, Err}
use Rattle.host_io.specs.Causes.{Rose}
use Rattle.shell_turns.specs.declared.ends.ObeyEnd.TheVariants as obey_end
use Rattle.shell_script.specs.Shell.{ShellFaults}
use Rattle.shell_script.specs.declared.reading.ShellCut.{ShellCut}
use Rattle.shell_script.specs.declared.reading.ShellCut.TheVariants as shell_cut
use Rattle.shell_script.specs.declared.reading.ShellEnd.{ShellEnd}
use Rattle.shell_script.specs.declared.reading.ShellEnd.TheVariants as shell_end
use Rattle.pump_shell.specs.declared.ends.SessionCut.{SessionCut}
use Rattle.pump_shell.specs.declared.ends.SessionCut.TheVariants.{Memory, PutFailed, ReadFailed}
use Rattle.pump_shell.specs.declared.ends.SessionEnd.{SessionEnd}
use Rattle.pump_shell.specs.declared.ends.SessionEnd.TheVariants.{InputEnd, Quit, TagsOut, TooLong}

abbrev pub end_of : ShellEnd → SessionEnd
end_of shell_end.Quit = Quit
end_of shell_end.InputEnd = InputEnd
end_of shell_end.TooLong = TooLong

abbrev pub cut_of : ShellCut → SessionCut
cut_of shell_cut.ReadFailed = ReadFailed
cut_of (shell_cut.Obey obey_end.WriteFault) = PutFailed
cut_of (shell_cut.Obey obey_end.Memory) = Memory

-- the input's count rises where a read failed, the sink's where a put did, and every other answer leaves both
abbrev pub SessionCause : {A : Type 0} → ShellFaults → ShellFaults → Result A SessionCut → Type 0
SessionCause before now (Ok _) = now ≡ before
SessionCause before now (Err ReadFailed) = (Rose before.input now.input) × (now.out ≡ before.out)
SessionCause before now (Err PutFailed) = (now.input ≡ before.input) × (Rose before.out now.out)
SessionCause before now (Err Memory) = now ≡ before

-- No session was made, since tag numbers ran out at its start, or memory before that was found: the input was not read, and nothing
-- was put.
pub record NoSession {I : Type 0} (input input_now : I) (old new : Option (List ℕ)) (result : Result SessionEnd SessionCut) : Type 0 where
  pub ends : (result ≡ Ok TagsOut) ⊎ (result ≡ Err Memory)
  pub unread : input_now ≡ input
  pub silent : new ≡ old
