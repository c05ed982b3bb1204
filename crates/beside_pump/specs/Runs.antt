-- The run of an image under a policy, and what is shown of it.
use Rattle.std.specs.Prelude.{◌≡◌, ℕ, Bool, true, false, List, Option, Some, None, Result, IfOk}
use Rattle.std.specs.List.{list_all}
use Rattle.image_format.specs.Picture.{Picture}
use Rattle.host_io.specs.Pieces.{Puts, Taken}
use Rattle.policy_trait.specs.Model.{PolicyModel}
use Rattle.turn_steps.specs.Feeds.{tape_of}
use Rattle.turn_steps.specs.declared.stop.Stop.{Stop}
use Rattle.turn_steps.specs.declared.stop.Stop.TheVariants as stop
use Rattle.tag_loader.specs.Start.{start_standing}
use Rattle.rounds.specs.Course.{Course, hart_stops, rounds}
use Rattle.rounds.specs.Shown.{pieces_of}

-- a million turns at most, in rounds from hart 0 on, from the start of the image under the policy, on these bytes of input
abbrev pub course_under : {S T : Type 0} → (T → T → Bool) → PolicyModel T S → S → Picture → List ℕ → Course S T
course_under eq m policy picture fed = rounds eq m 1000000 0 (start_standing m policy picture) (tape_of fed)

-- the hart called the exit service
abbrev pub has_exited : Option Stop → Bool
has_exited None = false
has_exited (Some (stop.Exit code)) = true
has_exited (Some (stop.Fault fault)) = false
has_exited (Some (stop.Violation part why pc)) = false

abbrev pub have_exited : List (Option Stop) → Bool
have_exited stops = list_all has_exited stops

-- what the turns show was put in their order, or a prefix of it where the telling was cut short; and the answer of a run that is told to its
-- end says whether each hart exited
pub record ShowsRun {S T E : Type 0} (before now : Taken) (course : Course S T) (answer : Result Bool E) : Type 0 where
  pub shown : Puts before now (pieces_of course.events) answer
  pub ended : IfOk answer (λ exited. exited ≡ have_exited (hart_stops course.standing.machine.core))
