-- What a task that words ask for allows: some tag may have a word, its kept rules are in some set and few enough, and few
-- enough turns can be taken back.
use Rattle.std.proofs.Common.{◌≡◌, ℕ, ◌*◌, ◌≤◌, nat_le, Bool, true, false, ◌&&◌, List, Option, Some, None, refl, ap, subst, if◌then◌else◌, arith}
use Rattle.std.proofs.lemmas.Bool.Decides.{nat_tests}
use Rattle.std.specs.List.{after_first, before_first, position_or_len}
use Rattle.std.specs.Prelude.{◌==◌, length, option_and_then, option_map}
use Rattle.clap.specs.Words.{Text}
use Rattle.cache_size.specs.Sizes.{IsCacheSize, one_set}
use Rattle.cache_size.specs.declared.size.CacheSize.{CacheSize}
use Rattle.policy_choice.specs.declared.choice.Choice.{Choice}
use Rattle.pump_line.specs.Request.{Request, disassemble_asked, elf_asked, load_asked, request_of, run_asked, save_asked, shell_asked}
use Rattle.pump_line.specs.Task.{AllowsHistory, AllowsRules, AllowsTags, LoadTask, RunTask, ShellTask, Task, cache_of, disassemble, elf, history_of, is_times, load, load_task_in, load_with, number_of, number_within, run, run_task_in, run_with, save, shell, shell_task_in, shell_with, size_in_sets, size_with, tags_of, task_in, task_of, whole_size}
use Rattle.pump_line.proofs.ValueLemmas.{within}

-- ---- a number within its bounds

taken_within : (least most n taken : ℕ) (low high : Bool) → (low ≡ true → least ≤ n) → (high ≡ true → n ≤ most) → (if low && high then Some n else None) ≡ Some taken
    → (least ≤ taken) × (taken ≤ most)
taken_within least most n taken true true low high is =
    let same : n ≡ taken = cc in subst (λ (k : ℕ). (least ≤ k) × (k ≤ most)) same (low refl, high refl)
taken_within least most n taken true false low high is = absurd cc
taken_within least most n taken false high_test low high is = absurd cc

pub bounds_taken : (least most : ℕ) (read : Option ℕ) (taken : ℕ) → within least most read ≡ Some taken → (least ≤ taken) × (taken ≤ most)
bounds_taken least most None taken is = absurd cc
bounds_taken least most (Some n) taken is =
    taken_within least most n taken (nat_le least n) (nat_le n most) (λ low. grind (arith, nat_tests)) (λ high. grind (arith, nat_tests)) is

-- ---- the values of the options

some_tags : (text : Option Text) (n : ℕ) → tags_of text ≡ Some n → 1 ≤ n
some_tags None n is = let same : 65536 ≡ n = cc in omega (arith, same)
some_tags (Some text) n is = (bounds_taken 1 1048576 (number_of text) n is).0

few_turns : (text : Option Text) (n : ℕ) → history_of text ≡ Some n → n ≤ 65536
few_turns None n is = let same : 0 ≡ n = cc in omega (arith, same)
few_turns (Some text) n is = (bounds_taken 0 65536 (number_of text) n is).1

in_one_set : (ways : ℕ) → ways ≤ 65536 → IsCacheSize (one_set ways)
in_one_set ways few = record { some_sets = omega arith; few_rules = omega (arith, few) }

whole_is : (read : Option ℕ) (size : CacheSize) → ((n : ℕ) → read ≡ Some n → n ≤ 65536) → option_map one_set read ≡ Some size → IsCacheSize size
whole_is None size few is = absurd cc
whole_is (Some ways) size few is = let same : one_set ways ≡ size = cc in subst IsCacheSize same (in_one_set ways (few ways refl))

abbrev sets_and_ways : ℕ → ℕ → CacheSize
sets_and_ways sets ways = record { sets = sets; ways = ways }

sets_by : (sets ways : ℕ) (few : Bool) (size : CacheSize) → 1 ≤ sets → (few ≡ true → sets * ways ≤ 65536)
    → (if few then Some (sets_and_ways sets ways) else None) ≡ Some size → IsCacheSize size
sets_by sets ways true size some few is =
    let same : sets_and_ways sets ways ≡ size = cc in
    subst IsCacheSize same (record { some_sets = some; few_rules = few refl })
sets_by sets ways false size some few is = absurd cc

few_by : (rules : ℕ) → nat_le rules 65536 ≡ true → rules ≤ 65536
few_by rules test = grind (arith, nat_tests)

sets_are : (sets ways : Option ℕ) (size : CacheSize) → ((n : ℕ) → sets ≡ Some n → 1 ≤ n) → size_with sets ways ≡ Some size → IsCacheSize size
sets_are None ways size some is = absurd cc
sets_are (Some s) None size some is = absurd cc
sets_are (Some s) (Some w) size some is = sets_by s w (nat_le (s * w) 65536) size (some s refl) (few_by (s * w)) is

size_by : (text : Text) (whole : Bool) (size : CacheSize) → (if whole then whole_size text else size_in_sets text) ≡ Some size → IsCacheSize size
size_by text true size is = whole_is (number_within 0 65536 text) size (λ n read. (bounds_taken 0 65536 (number_of text) n read).1) is
size_by text false size is =
    sets_are (number_within 1 64 (before_first is_times text)) (number_within 1 65536 (after_first is_times text)) size
    (λ n read. (bounds_taken 1 64 (number_of (before_first is_times text)) n read).0) is

is_size : (text : Option Text) (size : CacheSize) → cache_of text ≡ Some size → IsCacheSize size
is_size None size is = let same : one_set 1024 ≡ size = cc in subst IsCacheSize same (in_one_set 1024 (omega arith))
is_size (Some text) size is = size_by text (position_or_len is_times text == length text) size is

-- ---- the task has the values that were read

-- what was read of the kept rules and of tags, in a task that allows this
abbrev HasRead : Option CacheSize → Option ℕ → CacheSize → ℕ → Type 0
HasRead cache tags rules limit = (cache ≡ Some rules) × (tags ≡ Some limit)

run_has : (image : Text) (choice : Option Choice) (secret : Option Text) (cache : Option CacheSize) (tags turns : Option ℕ) (task : RunTask)
    → run_with image choice secret cache tags turns ≡ Some task → HasRead cache tags task.cache task.tags
run_has image None secret cache tags turns task is = absurd cc
run_has image (Some chosen) secret None tags turns task is = absurd cc
run_has image (Some chosen) secret (Some rules) None turns task is = absurd cc
run_has image (Some chosen) secret (Some rules) (Some limit) None task is = absurd cc
run_has image (Some chosen) secret (Some rules) (Some limit) (Some most) task is =
    let read : RunTask = record { image = image; choice = chosen; secret = secret; cache = rules; tags = limit; turns = most } in
    let same : read ≡ task = cc in
    (ap (λ (other : RunTask). Some other.cache) same, ap (λ (other : RunTask). Some other.tags) same)

shell_has : (image : Text) (choice : Option Choice) (secret : Option Text) (cache : Option CacheSize) (tags history : Option ℕ) (task : ShellTask)
    → shell_with image choice secret cache tags history ≡ Some task → HasRead cache tags task.cache task.tags × (history ≡ Some task.history)
shell_has image None secret cache tags history task is = absurd cc
shell_has image (Some chosen) secret None tags history task is = absurd cc
shell_has image (Some chosen) secret (Some rules) None history task is = absurd cc
shell_has image (Some chosen) secret (Some rules) (Some limit) None task is = absurd cc
shell_has image (Some chosen) secret (Some rules) (Some limit) (Some most) task is =
    let read : ShellTask = record { image = image; choice = chosen; secret = secret; cache = rules; tags = limit; history = most } in
    let same : read ≡ task = cc in
    ((ap (λ (other : ShellTask). Some other.cache) same, ap (λ (other : ShellTask). Some other.tags) same), ap (λ (other : ShellTask). Some other.history) same)

load_has : (count : Option ℕ) (cache : Option CacheSize) (tags : Option ℕ) (task : LoadTask)
    → load_with count cache tags ≡ Some task → HasRead cache tags task.cache task.tags
load_has None cache tags task is = absurd cc
load_has (Some blocks) None tags task is = absurd cc
load_has (Some blocks) (Some rules) None task is = absurd cc
load_has (Some blocks) (Some rules) (Some limit) task is =
    let read : LoadTask = record { count = blocks; cache = rules; tags = limit } in
    let same : read ≡ task = cc in
    (ap (λ (other : LoadTask). Some other.cache) same, ap (λ (other : LoadTask). Some other.tags) same)

-- ---- what it allows

abbrev Allows : Task → Type 0
Allows task = (AllowsTags task × AllowsRules task) × AllowsHistory task

read_allows : (cache tags : Option Text) (rules : CacheSize) (limit : ℕ) → HasRead (cache_of cache) (tags_of tags) rules limit → (1 ≤ limit) × IsCacheSize rules
read_allows cache tags rules limit has = (some_tags tags limit has.1, is_size cache rules has.0)

-- a task that is made of what was read allows what each of those does
made_allows : {A : Type 0} (make : A → Task) (read : Option A) (task : Task) → ((other : A) → read ≡ Some other → Allows (make other))
    → option_map make read ≡ Some task → Allows task
made_allows make None task some is = absurd cc
made_allows make (Some other) task some is = let same : make other ≡ task = cc in subst Allows same (some other refl)

request_allows : (asked : Option Request) (task : Task) → option_and_then task_in asked ≡ Some task → Allows task
unfolding run_task_in shell_task_in load_task_in
request_allows None task is = absurd cc
request_allows (Some (run_asked request)) task is =
    made_allows run (run_task_in request) task (λ other read.
    (read_allows request.cache request.tags other.cache other.tags (run_has request.image _ request.secret _ _ _ other read), tt)) is
request_allows (Some (shell_asked request)) task is =
    made_allows shell (shell_task_in request) task (λ other read.
    let has = shell_has request.image _ request.secret _ _ _ other read in
    (read_allows request.cache request.tags other.cache other.tags has.0, few_turns request.history other.history has.1)) is
request_allows (Some (save_asked asked)) task is = let same : save asked ≡ task = cc in subst Allows same ((tt, tt), tt)
request_allows (Some (elf_asked asked)) task is = let same : elf asked ≡ task = cc in subst Allows same ((tt, tt), tt)
request_allows (Some (disassemble_asked asked)) task is = let same : disassemble asked ≡ task = cc in subst Allows same ((tt, tt), tt)
request_allows (Some (load_asked request)) task is =
    made_allows load (load_task_in request) task (λ other read.
    (read_allows request.cache request.tags other.cache other.tags (load_has _ _ _ other read), tt)) is

pub words_allow : (words : List Text) (task : Task) → task_of words ≡ Some task → Allows task
unfolding task_of
words_allow words task is = request_allows (request_of words) task is
