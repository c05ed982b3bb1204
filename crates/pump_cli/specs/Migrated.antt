-- What `migrate` saves of an image: an image of version 2 that starts as the first does, and runs as it runs while no split is spent.
use Rattle.std.specs.Prelude.{◌≡◌, ℕ, List, [], ◌∷◌, All, Ok}
use Rattle.image_format.specs.Migrated.{migrated}
use Rattle.image_format.specs.Picture.{Picture}
use Rattle.image_format.specs.Reading.{image_of}
use Rattle.image_format.specs.Spelling.{spelling}
use Rattle.turn_steps.specs.Feeds.{Tape}
use Rattle.engine_trait.specs.Runs.{Item, run_along}
use Rattle.compartment_policy.specs.Compartments.{split_service}
use Rattle.policy_choice.specs.All.{all, choice_state}
use Rattle.policy_choice.specs.declared.basis.Basis.{Basis}
use Rattle.tag_loader.specs.Start.{start_machine}
use Rattle.run_props.specs.Migration.{IsUnspent, widened_start}
use Rattle.pump_line.specs.Request.{SaveTask}
use Rattle.pump_line.specs.Task.{save}
use Rattle.pump_cli.specs.Calls.{Load, Save, calls_of_task}
use Rattle.pump_cli.specs.Reading.{content_read}

-- the task loads a file of these bytes, which is that of the image
pub record SavesMigrated (task : SaveTask) (bytes : List ℕ) (g : Picture) : Type 0 where
  -- the calls that it makes: what it saves is the one spelling of the migrated image, which is read back as that
  pub calls : calls_of_task (save task) (content_read (save task) bytes) ≡ Load task.source ∷ Save task.image (spelling (migrated g)) ∷ []
  pub read : image_of (spelling (migrated g)) ≡ Ok (migrated g)
  -- under each choice of policies: the same start, but that more compartments may come to be
  pub start : (basis : Basis) → start_machine all (choice_state basis (migrated g)) (migrated g) ≡ widened_start basis g
  -- and the same events along any list of turns and fed bytes in which no split is spent
  pub events : (basis : Basis) (feed : Tape) (items : List Item)
      → All (IsUnspent split_service) (run_along all (start_machine all (choice_state basis g) g) feed items).events
      → (run_along all (start_machine all (choice_state basis (migrated g)) (migrated g)) feed items).events
      ≡ (run_along all (start_machine all (choice_state basis g) g) feed items).events
