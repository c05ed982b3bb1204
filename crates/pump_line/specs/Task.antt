-- What a line asks for, its values read.
use Rattle.std.specs.Prelude.{ℕ, ◌*◌, ◌==◌, ◌≤◌, Bool, ◌&&◌, List, length, nat_le, Option, Some, None, if◌then◌else◌}
use Rattle.std.specs.Prelude.{option_and_then, option_map}
use Rattle.std.specs.List.{after_first, before_first, position_or_len}
use Rattle.std.specs.Str.{all_ascii_digits}
use Rattle.std.specs.Str.Parse.{digits_value}
use Rattle.clap.specs.Words.{Text}
use Rattle.cache_size.specs.Sizes.{IsCacheSize, one_set}
use Rattle.cache_size.specs.declared.size.CacheSize.{CacheSize}
use Rattle.policy_choice.specs.Choice.{choice_of, no_policy}
use Rattle.policy_choice.specs.declared.choice.Choice.{Choice}
use Rattle.pump_line.specs.Request.{DisassembleTask, ElfTask, LoadRequest, Request, RunRequest, SaveTask, ShellRequest}
use Rattle.pump_line.specs.Request.{disassemble_asked, elf_asked, load_asked, request_of, run_asked, save_asked, shell_asked}

-- a `run`: the image's name, the policies that are chosen, the secret file, and its limits
pub record RunTask : Type 0 where
  pub image : Text
  pub choice : Choice
  -- the name of the secret file, where one is given
  pub secret : Option Text
  -- the most rules that are kept, in sets
  pub cache : CacheSize
  -- the most tags that may have words
  pub tags : ℕ
  -- the most turns
  pub turns : ℕ

-- a `shell`: the same, with the history for the turns
pub record ShellTask : Type 0 where
  pub image : Text
  pub choice : Choice
  -- the name of the secret file, where one is given
  pub secret : Option Text
  -- the most rules that are kept, in sets
  pub cache : CacheSize
  -- the most tags that may have words
  pub tags : ℕ
  -- the most turns that can be taken back
  pub history : ℕ

-- a `load`: how many blocks its workload has, and its limits; it runs under every policy
pub record LoadTask : Type 0 where
  pub count : ℕ
  -- the most rules that are kept, in sets
  pub cache : CacheSize
  -- the most tags that may have words
  pub tags : ℕ

-- what `pump` is asked to do, a case for each subcommand, but that the two which make an image of one file have one
pub data Task : Type 0 where
  run : RunTask → Task
  shell : ShellTask → Task
  save : SaveTask → Task
  elf : ElfTask → Task
  disassemble : DisassembleTask → Task
  load : LoadTask → Task

-- some tag may have a word, of a task that starts an image
abbrev pub AllowsTags : Task → Type 0
AllowsTags (run task) = 1 ≤ task.tags
AllowsTags (shell task) = 1 ≤ task.tags
AllowsTags (save task) = Unit {0}
AllowsTags (elf task) = Unit {0}
AllowsTags (disassemble task) = Unit {0}
AllowsTags (load task) = 1 ≤ task.tags

-- the kept rules are in some set and few enough, of a task that starts an image
abbrev pub AllowsRules : Task → Type 0
AllowsRules (run task) = IsCacheSize task.cache
AllowsRules (shell task) = IsCacheSize task.cache
AllowsRules (save task) = Unit {0}
AllowsRules (elf task) = Unit {0}
AllowsRules (disassemble task) = Unit {0}
AllowsRules (load task) = IsCacheSize task.cache

-- no policy where the option is not on the line
abbrev pub choice_in : Option Text → Option Choice
choice_in None = Some no_policy
choice_in (Some list) = choice_of list

-- 1 to 10 decimal digits and nothing else
abbrev pub is_number : Text → Bool
is_number text = nat_le 1 (length text) && nat_le (length text) 10 && all_ascii_digits text

-- the number that 1 to 10 decimal digits write; `None` for any other text
abbrev pub number_of : Text → Option ℕ
number_of text = if is_number text then Some (digits_value 10 text) else None

-- a number from `least` to `most`
abbrev pub number_within : ℕ → ℕ → Text → Option ℕ
number_within least most text =
    option_and_then (λ n. if nat_le least n && nat_le n most then Some n else None) (number_of text)

-- the value of an option with a number, `default` where it is not on the line
abbrev pub number_or : ℕ → ℕ → ℕ → Option Text → Option ℕ
number_or default least most None = Some default
number_or default least most (Some text) = number_within least most text

-- the most rules that are kept where the option is not on the line
abbrev pub default_cache : ℕ
default_cache = 1024

-- the most kept rules that the option can name
abbrev pub most_cache : ℕ
most_cache = 65536

-- the most sets that the option can name
abbrev pub most_sets : ℕ
most_sets = 64

-- `N`: 0 to 65536 rules, in one set
abbrev pub whole_size : Text → Option CacheSize
whole_size text = option_map one_set (number_within 0 most_cache text)

-- so many sets of so many ways, unless these are too many rules
abbrev pub size_with : Option ℕ → Option ℕ → Option CacheSize
size_with sets ways =
    option_and_then (λ s. option_and_then (λ w. if nat_le (s * w) most_cache then Some (record { sets = s; ways = w }) else None) ways) sets

-- the letter `x`
abbrev pub is_times : ℕ → Bool
is_times byte = byte == 120

-- `SxW`: 1 to 64 sets of 1 to 65536 ways each, at most 65536 rules in all
abbrev pub size_in_sets : Text → Option CacheSize
size_in_sets text =
    size_with (number_within 1 most_sets (before_first is_times text)) (number_within 1 most_cache (after_first is_times text))

-- a size as it is written, in one of these two forms
abbrev pub size_of : Text → Option CacheSize
size_of text = if position_or_len is_times text == length text then whole_size text else size_in_sets text

-- the value of `--cache`: the size that it writes, or 1024 rules in one set without it; `None` where it is bad
abbrev pub cache_of : Option Text → Option CacheSize
cache_of None = Some (one_set default_cache)
cache_of (Some text) = size_of text

-- the most tags that may have words where the option is not on the line
abbrev pub default_tags : ℕ
default_tags = 65536

-- the most tags that the option can name
abbrev pub most_tags : ℕ
most_tags = 1048576

-- the value of `--tags`: how many tags may have words, 1 to 1048576, or 65536 without it; `None` where it is bad
abbrev pub tags_of : Option Text → Option ℕ
tags_of = number_or default_tags 1 most_tags

-- the most turns that can be taken back where the option is not on the line
abbrev pub default_history : ℕ
default_history = 0

-- the most turns to be taken back that the option can name
abbrev pub most_history : ℕ
most_history = 65536

-- the value of `--history`: how many turns can be taken back, 0 to 65536, or 0 without it; `None` where it is bad
abbrev pub history_of : Option Text → Option ℕ
history_of = number_or default_history 0 most_history

-- few enough turns can be taken back, of a task that can take some back
abbrev pub AllowsHistory : Task → Type 0
AllowsHistory (run task) = Unit {0}
AllowsHistory (shell task) = task.history ≤ most_history
AllowsHistory (save task) = Unit {0}
AllowsHistory (elf task) = Unit {0}
AllowsHistory (disassemble task) = Unit {0}
AllowsHistory (load task) = Unit {0}

-- the most turns where the option is not on the line
abbrev pub default_turns : ℕ
default_turns = 1000000

-- the most turns that the option can name
abbrev pub most_turns : ℕ
most_turns = 1000000000

-- the value of `--turns`: 1 to 1000000000 turns, or 1000000 without it; `None` where it is bad
abbrev pub turns_of : Option Text → Option ℕ
turns_of = number_or default_turns 1 most_turns

-- the most blocks that a workload has
abbrev pub most_blocks : ℕ
most_blocks = 1000

-- the operand of `load`: 1 to 1000 blocks; `None` where it is bad
abbrev pub count_of : Text → Option ℕ
count_of = number_within 1 most_blocks

-- the run with these values; `None` where one is bad
abbrev pub run_with : Text → Option Choice → Option Text → Option CacheSize → Option ℕ → Option ℕ → Option RunTask
run_with image choice secret cache tags turns =
    option_and_then (λ chosen. option_and_then (λ rules.
    option_and_then (λ tag_limit. option_map (λ turn_limit. record {
      image = image;
      choice = chosen;
      secret = secret;
      cache = rules;
      tags = tag_limit;
      turns = turn_limit;
    }) turns) tags) cache) choice

-- the run that is asked for; `None` where one of its values is bad
unfoldable pub run_task_in : RunRequest → Option RunTask
run_task_in request =
    run_with request.image (choice_in request.policy) request.secret (cache_of request.cache) (tags_of request.tags)
    (turns_of request.turns)

-- the shell with these values; `None` where one is bad
abbrev pub shell_with : Text → Option Choice → Option Text → Option CacheSize → Option ℕ → Option ℕ → Option ShellTask
shell_with image choice secret cache tags history =
    option_and_then (λ chosen. option_and_then (λ rules.
    option_and_then (λ tag_limit. option_map (λ most_back. record {
      image = image;
      choice = chosen;
      secret = secret;
      cache = rules;
      tags = tag_limit;
      history = most_back;
    }) history) tags) cache) choice

-- the shell that is asked for; `None` where one of its values is bad
unfoldable pub shell_task_in : ShellRequest → Option ShellTask
shell_task_in request =
    shell_with request.image (choice_in request.policy) request.secret (cache_of request.cache) (tags_of request.tags)
    (history_of request.history)

-- the workload with these values; `None` where one is bad
abbrev pub load_with : Option ℕ → Option CacheSize → Option ℕ → Option LoadTask
load_with count cache tags =
    option_and_then (λ blocks. option_and_then (λ rules. option_map (λ tag_limit. record {
      count = blocks;
      cache = rules;
      tags = tag_limit;
    }) tags) cache) count

-- the workload that is asked for; `None` where one of its values is bad
unfoldable pub load_task_in : LoadRequest → Option LoadTask
load_task_in request = load_with (count_of request.count) (cache_of request.cache) (tags_of request.tags)

-- the task that a request asks for; `None` where one of its values is bad
abbrev pub task_in : Request → Option Task
task_in (run_asked request) = option_map run (run_task_in request)
task_in (shell_asked request) = option_map shell (shell_task_in request)
task_in (save_asked task) = Some (save task)
task_in (elf_asked task) = Some (elf task)
task_in (disassemble_asked task) = Some (disassemble task)
task_in (load_asked request) = option_map load (load_task_in request)

-- what the words ask `pump` to do; `None` where they are no command line of it
unfoldable pub task_of : List Text → Option Task
task_of words = option_and_then task_in (request_of words)
