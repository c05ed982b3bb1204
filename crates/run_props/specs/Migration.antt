-- What a migrated image starts as, beside the image that it was made from, and the events that the two have in common.
use Rattle.std.specs.Prelude.{◌≢◌, ℕ, option_map}
use Rattle.image_format.specs.Conditions.{compartment_limit}
use Rattle.image_format.specs.Picture.{Picture}
use Rattle.image_format.specs.declared.version.Version.TheVariants.{Two}
use Rattle.rv_step.specs.declared.faults.Fault.TheVariants.{Spent}
use Rattle.turn_steps.specs.declared.stop.Stop.TheVariants as stop
use Rattle.engine_trait.specs.Events.{Event}
use Rattle.engine_trait.specs.Machine.{Machine}
use Rattle.engine_trait.specs.declared.ends.TurnEnd.TheVariants as ends
use Rattle.policy_choice.specs.All.{AllState, AllTag, all, choice_state}
use Rattle.policy_choice.specs.declared.basis.Basis.{Basis}
use Rattle.tag_loader.specs.Start.{start_machine}
use Rattle.compartment_policy.specs.Compartments.{CompartmentState}

-- where compartments are chosen, there may be so many of them; nothing else changes
abbrev pub with_limit : ℕ → AllState → AllState
with_limit limit policy = (policy.0, (record { part = option_map (λ (state : CompartmentState). record state { limit = limit }) policy.1.0.part }, policy.1.1))

-- the start of an image under the chosen policies, but that as many compartments may come to be as version 2 has room for
abbrev pub widened_start : Basis → Picture → Machine AllState AllTag
widened_start basis g = record (start_machine all (choice_state basis g) g) { policy = with_limit (compartment_limit Two) (choice_state basis g) }

-- the turn of an event didn't end because this service was spent
abbrev pub IsUnspent : {T : Type 0} → ℕ → Event T → Type 0
IsUnspent service event = event.ended ≢ ends.Stopped (stop.Fault (Spent service))
