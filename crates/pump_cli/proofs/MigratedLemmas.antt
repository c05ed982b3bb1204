-- What `migrate` saves of an image.
use Rattle.std.proofs.Common.{◌≡◌, ℕ, List, Result, Ok, ap, refl, ◌∙◌}
use Rattle.host_io.specs.Bytes.{AreBytes}
use Rattle.image_format.specs.Migrated.{migrated}
use Rattle.image_format.specs.Picture.{Picture}
use Rattle.image_format.specs.Spelling.{spelling}
use Rattle.image_format.proofs.FileLemmas.{file_again}
use Rattle.image_format.proofs.MigratedLemmas.{migrated_is_image}
use Rattle.shared_terms.specs.Steps.{result_view}
use Rattle.pump_line.specs.Request.{SaveTask}
use Rattle.pump_line.specs.Task.{save}
use Rattle.pump_line.specs.declared.task.Making.{Making}
use Rattle.pump_line.specs.declared.task.Making.TheVariants.{Migrate}
use Rattle.run_props.proofs.MigrationLemmas.{runs_alike, start_is}
use Rattle.pump_cli.specs.Calls.{calls_of_task}
use Rattle.pump_cli.specs.Migrated.{SavesMigrated}
use Rattle.pump_cli.specs.Reading.{image_read, made_read}
use Rattle.pump_cli.specs.declared.refusal.Refusal.{Refusal}
use Rattle.pump_cli.proofs.EachRunLemmas.{file_is_image}

pub saves_migrated : (task : SaveTask) (bytes : List ℕ) (g : Picture) → AreBytes bytes → task.making ≡ Migrate → image_read bytes ≡ Ok g → SavesMigrated task bytes g
saves_migrated task bytes g are_bytes migrates read = record {
  calls =
      ap (λ (making : Making). calls_of_task (save task) (made_read making bytes)) migrates
      ∙ ap (λ (found : Result Picture Refusal). calls_of_task (save task) (result_view migrated found)) read;
  read = file_again (spelling (migrated g)) (migrated g) (record { is_image = migrated_is_image g (file_is_image bytes g are_bytes read); spelled = refl });
  start = λ basis. start_is basis g;
  events = λ basis. runs_alike basis g;
}
