-- What the run of an engine that keeps rules comes to, computed.
use Rattle.std.proofs.Common.{◌≡◌, true, false, [], None, Some, ap, map, refl}
use Rattle.turn_steps.specs.Effects.{effect_result}
use Rattle.turn_steps.specs.Feeds.{tape_of}
use Rattle.turn_steps.specs.Looks.{look_result}
use Rattle.turn_steps.specs.Peeks.{peeked}
use Rattle.rv_decode.specs.Decoding.{instr_of_word}
use Rattle.live_blocks.specs.Space.{first_fit}
use Rattle.monitor_calls.specs.Service.{service_job}
use Rattle.engine_trait.specs.Accounts.{account_after_turn, counts_of, is_over, look_counted, rule_counted, service_counted}
use Rattle.engine_trait.specs.Events.{event_of}
use Rattle.engine_trait.specs.Runs.{Trace, turn}
use Rattle.engine_trait.specs.Standing.{step}
use Rattle.engine_trait.specs.Turn.{rule_answer, attempt, carried_at, core_effected, core_served, job_at, turn_job, preparation, rule_at, service_on, turn_of}
use Rattle.engine_trait.specs.Unswept.{unswept_after}
use Rattle.engine_trait.specs.declared.ends.Halt.TheVariants as halt
use Rattle.policy_choice.specs.All.{AllState, AllTag, all, all_eq}
use Rattle.tag_loader.specs.Births.{birth_of}
use Rattle.tag_loader.specs.Start.{memory_of, start_harts, start_machine, start_ram, start_tags}
use Rattle.run_props.proofs.EngineRunLemmas.{along_machine, never_over}
use Rattle.run_props.specs.EngineRuns.{IsNeverOver}
use Rattle.run_examples.specs.Counted.{counted, end_unswept, engine_run, start_standing}
use Rattle.run_examples.specs.Example.{events, harts}

-- sixteen words are enough without a sweep
end_within : is_over (end_unswept 16) ≡ false
unfolding unswept_after look_counted turn_of attempt preparation peeked rule_answer turn_job service_on job_at core_served core_effected carried_at service_job effect_result look_result instr_of_word birth_of memory_of start_harts start_machine start_ram start_tags first_fit
end_within = refl

pub is_never_over : IsNeverOver all_eq all (start_standing 16) (tape_of []) (map turn harts)
is_never_over = never_over all_eq all (start_standing 16) (tape_of []) (map turn harts) end_within

pub counts_are : counts_of (engine_run 16).account ≡ counted 31 18 13 0
unfolding step account_after_turn rule_counted service_counted look_counted event_of turn_of attempt preparation peeked rule_at rule_answer turn_job service_on job_at core_served core_effected carried_at service_job effect_result look_result instr_of_word birth_of memory_of start_harts start_machine start_ram start_tags first_fit
counts_are = refl

-- and fifteen are not
pub one_less : is_over (end_unswept 15) ≡ true
unfolding unswept_after look_counted turn_of attempt preparation peeked rule_answer turn_job service_on job_at core_served core_effected carried_at service_job effect_result look_result instr_of_word birth_of memory_of start_harts start_machine start_ram start_tags first_fit
one_less = refl

-- thirteen are, with sweeps
pub swept_counts : counts_of (engine_run 13).account ≡ counted 31 15 16 2
unfolding step account_after_turn rule_counted service_counted look_counted event_of turn_of attempt preparation peeked rule_at rule_answer turn_job service_on job_at core_served core_effected carried_at service_job effect_result look_result instr_of_word birth_of memory_of start_harts start_machine start_ram start_tags first_fit
swept_counts = refl

swept_runs : (engine_run 13).account.halt ≡ None
unfolding step account_after_turn rule_counted service_counted look_counted event_of turn_of attempt preparation peeked rule_at rule_answer turn_job service_on job_at core_served core_effected carried_at service_job effect_result look_result instr_of_word birth_of memory_of start_harts start_machine start_ram start_tags first_fit
swept_runs = refl

pub swept_events : (engine_run 13).trace.events ≡ events
swept_events = ap (λ (trace : Trace AllState AllTag). trace.events) (along_machine all_eq all (map turn harts) (start_standing 13) (tape_of []) swept_runs)

-- and twelve are not
pub out_counts : counts_of (engine_run 12).account ≡ counted 13 9 5 2
unfolding step account_after_turn rule_counted service_counted look_counted event_of turn_of attempt preparation peeked rule_at rule_answer turn_job service_on job_at core_served core_effected carried_at service_job effect_result look_result instr_of_word birth_of memory_of start_harts start_machine start_ram start_tags first_fit
out_counts = refl

pub out_halt : (engine_run 12).account.halt ≡ Some halt.TagNumbers
unfolding step account_after_turn rule_counted service_counted look_counted event_of turn_of attempt preparation peeked rule_at rule_answer turn_job service_on job_at core_served core_effected carried_at service_job effect_result look_result instr_of_word birth_of memory_of start_harts start_machine start_ram start_tags first_fit
out_halt = refl
