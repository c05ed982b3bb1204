-- What the run comes to, computed.
use Rattle.std.proofs.Common.{◌≡◌, true, [], map, replicate, refl, Some, slice_get}
use Rattle.image_format.specs.Conditions.{IsImage}
use Rattle.engine_trait.specs.Events.{event_of, is_retirement}
use Rattle.engine_trait.specs.Runs.{turn}
use Rattle.engine_trait.specs.Turn.{rule_answer, attempt, carried_at, core_effected, core_served, job_at, turn_job, preparation, service_on, turn_of}
use Rattle.live_blocks.specs.Space.{first_fit}
use Rattle.monitor_calls.specs.Service.{service_job}
use Rattle.turn_steps.specs.Effects.{effect_result}
use Rattle.turn_steps.specs.Feeds.{tape_of}
use Rattle.turn_steps.specs.Looks.{look_result}
use Rattle.turn_steps.specs.Peeks.{peeked}
use Rattle.rv_decode.specs.Decoding.{instr_of_word}
use Rattle.tag_loader.specs.Births.{birth_of}
use Rattle.tag_loader.specs.Start.{memory_of, start_harts, start_machine, start_ram, start_tags}
use Rattle.seal_runs.specs.KeyBook.{key_book}
use Rattle.comp_runs.specs.OwnerBook.{owner_book}
use Rattle.flow_runs.specs.EdgeWalk.{walk_of}
use Rattle.heap_runs.specs.BlockBook.{block_book}
use Rattle.run_props.proofs.RunLemmas.{run_is_safe}
use Rattle.run_props.specs.Safe.{IsSafe}
use Rattle.run_props.specs.Lenses.{comp_lens, events_by, flow_lens, heap_lens, seal_lens}
use Rattle.run_examples.specs.Example.{all_four, blocks, events, harts, image, jump, keys, landing, second_walk, shared}

-- it is an image, so that the laws speak of its run
pub is_image : IsImage image
is_image = record {
  harts = refl;
  ram = refl;
  heap_base = refl;
  heap_bytes = refl;
  entries = refl;
  segments = record { count = refl; rows = refl };
  code = record { count = refl; rows = refl };
  labels = record { count = refl; rows = refl };
  edges = record { count = refl; rows = refl };
  compartments = record { count = refl; rows = refl };
}

pub is_safe : IsSafe all_four image events
is_safe = run_is_safe all_four image (tape_of []) (map turn harts) is_image

-- every turn retires
pub all_retire : map is_retirement events ≡ replicate 31 true
unfolding event_of turn_of attempt preparation peeked rule_answer turn_job service_on job_at core_served core_effected carried_at service_job effect_result look_result instr_of_word birth_of memory_of start_harts start_machine start_ram start_tags first_fit
all_retire = refl

pub keys_are : key_book (events_by seal_lens events) ≡ keys
unfolding key_book event_of turn_of attempt preparation peeked rule_answer turn_job service_on job_at core_served core_effected carried_at service_job effect_result look_result instr_of_word birth_of memory_of start_harts start_machine start_ram start_tags first_fit
keys_are = refl

pub shared_is : owner_book (birth_of image) (events_by comp_lens events) 56 ≡ shared
unfolding owner_book event_of turn_of attempt preparation peeked rule_answer turn_job service_on job_at core_served core_effected carried_at service_job effect_result look_result instr_of_word birth_of memory_of start_harts start_machine start_ram start_tags first_fit
shared_is = refl

pub walk_is : walk_of 1 (events_by flow_lens events) ≡ second_walk
unfolding walk_of event_of turn_of attempt preparation peeked rule_answer turn_job service_on job_at core_served core_effected carried_at service_job effect_result look_result instr_of_word birth_of memory_of start_harts start_machine start_ram start_tags first_fit
walk_is = refl

pub jump_is : slice_get (walk_of 0 (events_by flow_lens events)) 22 ≡ Some jump
unfolding walk_of event_of turn_of attempt preparation peeked rule_answer turn_job service_on job_at core_served core_effected carried_at service_job effect_result look_result instr_of_word birth_of memory_of start_harts start_machine start_ram start_tags first_fit
jump_is = refl

pub landing_is : slice_get (walk_of 0 (events_by flow_lens events)) 23 ≡ Some landing
unfolding walk_of event_of turn_of attempt preparation peeked rule_answer turn_job service_on job_at core_served core_effected carried_at service_job effect_result look_result instr_of_word birth_of memory_of start_harts start_machine start_ram start_tags first_fit
landing_is = refl

pub blocks_are : block_book (events_by heap_lens events) ≡ blocks
unfolding block_book event_of turn_of attempt preparation peeked rule_answer turn_job service_on job_at core_served core_effected carried_at service_job effect_result look_result instr_of_word birth_of memory_of start_harts start_machine start_ram start_tags first_fit
blocks_are = refl
