-- How many words a line emits.
use Rattle.std.specs.Prelude.{ℕ, Option, Some, None}
use Rattle.asm_read.specs.declared.statements.Statement.{Statement}
use Rattle.asm_words.specs.Emission.{count_of}

-- a line without a statement emits nothing
abbrev pub count_in : Option Statement → Option ℕ
count_in None = Some 0
count_in (Some statement) = count_of statement
