-- What is due of `load`: its workload has at most 1,000 blocks, so its source is assembled.
use Rattle.std.proofs.Common.{◌≡◌, ℕ, ◌≤◌, nat_le, Bool, true, false, ◌&&◌, List, Option, Some, None, Result, Ok, refl, ap, subst, ◌∙◌, if◌then◌else◌, arith}
use Rattle.std.proofs.Math.ListN.{length}
use Rattle.std.proofs.lemmas.Bool.Decides.{nat_tests}
use Rattle.std.specs.Prelude.{option_and_then, option_map}
use Rattle.clap.specs.Words.{Text}
use Rattle.image_format.specs.Picture.{Picture}
use Rattle.asm_emit.specs.Assembled.{image_of_source}
use Rattle.workload.specs.Source.{source_of_workload}
use Rattle.workload.proofs.LengthLemmas.{source_fits}
use Rattle.workload_laws.specs.Images.{image_of_workload}
use Rattle.workload_laws.proofs.DraftLemmas.{workload_pictured}
use Rattle.workload_laws.proofs.WorkloadLemmas.{workload_assembled}
use Rattle.pump_line.specs.Request.{Request, disassemble_asked, elf_asked, load_asked, request_of, run_asked, save_asked, shell_asked}
use Rattle.cache_size.specs.declared.size.CacheSize.{CacheSize}
use Rattle.pump_line.specs.Task.{LoadTask, RunTask, ShellTask, Task, count_of, load, load_task_in, load_with, number_of, run, shell, task_in, task_of}
use Rattle.pump_line.proofs.ValueLemmas.{within as number_in}
use Rattle.pump_cli.specs.Program.{outcome_of_image, outcome_of_load, outcome_of_words, program}
use Rattle.pump_cli.specs.Reading.{file_as, source_or_refusal, source_read}
use Rattle.pump_cli.specs.declared.refusal.Refusal.{Refusal}
use Rattle.pump_cli.proofs.GatheringLemmas.{within}

-- ---- how many blocks

taken_below : (most n taken : ℕ) (low high : Bool) → (high ≡ true → n ≤ most) → (if low && high then Some n else None) ≡ Some taken → taken ≤ most
taken_below most n taken true true bound is = let same : n ≡ taken = cc in subst (λ (k : ℕ). k ≤ most) same (bound refl)
taken_below most n taken true false bound is = absurd cc
taken_below most n taken false high bound is = absurd cc

most_taken : (least most : ℕ) (read : Option ℕ) (taken : ℕ) → number_in least most read ≡ Some taken → taken ≤ most
most_taken least most None taken is = absurd cc
most_taken least most (Some n) taken is =
    taken_below most n taken (nat_le least n) (nat_le n most) (λ high. grind (arith, nat_tests)) is

few_blocks : (text : Text) (n : ℕ) → count_of text ≡ Some n → n ≤ 1000
few_blocks text n is = most_taken 1 1000 (number_of text) n is

blocks_in_load : (count : Option ℕ) (cache : Option CacheSize) (tags : Option ℕ) (task : LoadTask) → ((n : ℕ) → count ≡ Some n → n ≤ 1000) → load_with count cache tags ≡ Some task
    → task.count ≤ 1000
blocks_in_load None cache tags task few is = absurd cc
blocks_in_load (Some blocks) None tags task few is = absurd cc
blocks_in_load (Some blocks) (Some rules) None task few is = absurd cc
blocks_in_load (Some blocks) (Some rules) (Some limit) task few is =
    let with_count : LoadTask = record { count = blocks; cache = rules; tags = limit } in
    let same : with_count ≡ task = cc in
    subst (λ (other : LoadTask). other.count ≤ 1000) same (few blocks refl)

load_made : (read : Option LoadTask) (task : LoadTask) → ((other : LoadTask) → read ≡ Some other → other.count ≤ 1000)
    → option_map load read ≡ Some (load task) → task.count ≤ 1000
load_made None task few is = absurd cc
load_made (Some other) task few is =
    let same : other ≡ task = cc in subst (λ (made : LoadTask). made.count ≤ 1000) same (few other refl)

-- no other task is one of `load`
no_run : (read : Option RunTask) (task : LoadTask) → option_map run read ≡ Some (load task) → task.count ≤ 1000
no_run None task is = absurd cc
no_run (Some other) task is = absurd cc

no_shell : (read : Option ShellTask) (task : LoadTask) → option_map shell read ≡ Some (load task) → task.count ≤ 1000
no_shell None task is = absurd cc
no_shell (Some other) task is = absurd cc

request_few : (asked : Option Request) (task : LoadTask) → option_and_then task_in asked ≡ Some (load task) → task.count ≤ 1000
unfolding load_task_in
request_few None task is = absurd cc
request_few (Some (run_asked request)) task is = no_run _ task is
request_few (Some (shell_asked request)) task is = no_shell _ task is
request_few (Some (save_asked asked)) task is = absurd cc
request_few (Some (elf_asked asked)) task is = absurd cc
request_few (Some (disassemble_asked asked)) task is = absurd cc
request_few (Some (load_asked request)) task is =
    load_made (load_task_in request) task (λ other read. blocks_in_load _ _ _ other (few_blocks request.count) read) is

words_few : (words : List Text) (task : LoadTask) → task_of words ≡ Some (load task) → task.count ≤ 1000
unfolding task_of
words_few words task is = request_few (request_of words) task is

-- ---- what is due

workload_read : (count : ℕ) → count ≤ 1000 → source_read (source_of_workload count) ≡ Ok (image_of_workload count)
unfolding source_read
workload_read count few =
    let short : length (source_of_workload count) ≤ 1048576 = source_fits count few in
    ap (λ (read : Result (List ℕ) Refusal). file_as (λ file. source_or_refusal (image_of_source file)) read)
    (within (source_of_workload count) (omega (arith, short)))
    ∙ ap source_or_refusal (workload_assembled count few ∙ ap (λ picture. Ok picture) (workload_pictured count))

pub load_due : (words : List (List ℕ)) (held : List ℕ → Option (List ℕ)) (input : Option (List ℕ)) (task : LoadTask) → task_of words ≡ Some (load task)
    → program words held input ≡ Some (outcome_of_load task (image_of_workload task.count))
unfolding program
load_due words held input task is =
    ap (λ (asked : Option Task). outcome_of_words asked held input) is
    ∙ ap (λ (read : Result Picture Refusal). outcome_of_image (load task) (source_of_workload task.count) read input) (workload_read task.count (words_few words task is))
