-- Words that are lent, as the texts that they hold.
use Rattle.std.specs.Prelude.{Result, Ok, Err}
use Rattle.std.specs.Borrow.{Bor}
use Rattle.shell_lang.specs.declared.bad_command.BadCommand.{BadCommand}
use Rattle.shell_lang.specs.Words.{Text}

-- the text or the two texts that were lent, or else the refusal
abbrev pub text_or_bad : Result (Bor Text) BadCommand → Result Text BadCommand
text_or_bad (Ok text) = Ok text.now
text_or_bad (Err refusal) = Err refusal

abbrev pub lent_pair : Result (Bor Text × Bor Text) BadCommand → Result (Text × Text) BadCommand
lent_pair (Ok texts) = Ok (texts.0.now, texts.1.now)
lent_pair (Err refusal) = Err refusal
