-- What a parse says of the words.
use Rattle.std.proofs.Common.{◌≡◌, ◌∙◌, ap, ap₂, inl, inr, refl, subst, sym, true, List, [], ◌∷◌}
use Rattle.std.specs.Prelude.{IfErr, IfOk, Option, Some, None, Result, option_and_then, option_map}
use Rattle.std.specs.Option.{ok_or}
use Rattle.clap.specs.Words.{App, HasKind, HasMatchesOf, IsAmong, Kinds, Text, fault_of, is_simple, is_simple_and_free, kind_of, subcommand_of, subcommand_rows_of}
use Rattle.clap.specs.declared.error.Error.{Error}
use Rattle.clap.specs.declared.error.kind.ErrorKind.TheVariants.{OutOfMemory}
use Rattle.clap.specs.declared.parser.matches.ArgMatches.{ArgMatches}
use Rattle.pump_line.specs.Line.{HasMatch, asm_shape, dis_shape, elf_shape, faults_of, load_shape, match_of, migrate_shape, pump_app, run_shape, shell_shape}
use Rattle.pump_line.specs.Request.{request_at, request_of}
use Rattle.pump_line.specs.Task.{Task, task_in, task_of}
use Rattle.pump_line.specs.Told.{task_value}
use Rattle.pump_line.specs.declared.task.Task.{Task as TaskWords}
use Rattle.pump_line.specs.declared.task.WordsEnd.{WordsEnd}
use Rattle.pump_line.specs.declared.task.WordsEnd.TheVariants.{Bad, Memory}

-- `clap` states the faults and the matches of this command line
pub pump_is_simple : is_simple_and_free pump_app ≡ true
unfolding pump_app run_shape shell_shape asm_shape migrate_shape elf_shape dis_shape load_shape
pump_is_simple = refl

pub pump_is_plain : is_simple pump_app ≡ true
unfolding pump_app run_shape shell_shape asm_shape migrate_shape elf_shape dis_shape load_shape
pump_is_plain = refl

-- words without a fault ask for what their match says
pub asks_matched : (words : List Text) → HasMatch words → task_of words ≡ option_and_then task_in (request_at (match_of words))
unfolding task_of request_of
asks_matched words h = rw h refl

-- words with a fault ask for nothing
pub asks_nothing : (words : List Text) (kinds : Kinds) → faults_of words ≡ kinds → ¬ (kinds ≡ []) → request_of words ≡ None
unfolding request_of
asks_nothing words [] e h = absurd (h refl)
asks_nothing words (kind ∷ more) e h = rw e refl

pub no_task : (words : List Text) → ¬ HasMatch words → task_of words ≡ None
unfolding task_of
no_task words h = rw (asks_nothing words (faults_of words) refl h) refl

-- the match that a parse gives is the one that is stated
pub matched : (app : App) (texts words : List Text) (m : ArgMatches) → app ≡ pump_app → texts ≡ words → HasMatchesOf app texts m
    → subcommand_rows_of m ≡ match_of words
unfolding match_of
matched app texts words m is same has =
    (has (ap is_simple is ∙ pump_is_plain)).1 ∙ ap₂ subcommand_of is same

-- the faults that a parse is given by are those that are stated
pub same_faults : (app : App) (texts words : List Text) → app ≡ pump_app → texts ≡ words → fault_of app texts ≡ faults_of words
unfolding faults_of
same_faults app texts words is same = ap₂ fault_of is same

pub is_simple_if : (app : App) → app ≡ pump_app → is_simple_and_free app ≡ true
is_simple_if app is = ap is_simple_and_free is ∙ pump_is_simple

-- what `ok_or` makes of the task that was read, where the words ask for a task
pub task_if_ok : (read : Option TaskWords) (made : Result TaskWords WordsEnd) (asked : Option Task) → option_map task_value read ≡ asked
    → made ≡ ok_or read Bad → IfOk made (λ t. asked ≡ Some (task_value t))
task_if_ok None made asked is e = rw e tt
task_if_ok (Some task) made asked is e = rw e (sym is)

-- and where they ask for none
pub none_if_bad : (read : Option TaskWords) (made : Result TaskWords WordsEnd) (asked : Option Task) → option_map task_value read ≡ asked
    → made ≡ ok_or read Bad → IfErr made (λ e. e ≡ Bad → asked ≡ None)
none_if_bad None made asked is e = rw e (λ bad. sym is)
none_if_bad (Some task) made asked is e = rw e tt

-- words that are told as bad have a fault
pub faulty_if_bad : (kinds : Kinds) (error : Error) (end : WordsEnd) → HasKind kinds error
    → (kind_of error ≡ OutOfMemory → end ≡ Memory) → end ≡ Bad → ¬ (kinds ≡ [])
faulty_if_bad kinds error end (inl out) memory bad none = let told_so : end ≡ Memory = memory out in cc
faulty_if_bad kinds error end (inr among) memory bad none = subst (IsAmong (kind_of error)) none among

-- words with a match make its request
pub request_matched : (words : List Text) → HasMatch words → request_of words ≡ request_at (match_of words)
unfolding request_of
request_matched words h = rw h refl
