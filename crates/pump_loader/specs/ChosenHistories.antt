-- The start on an engine whose turns can be taken back, that suits how many rules may be kept.
use Rattle.std.specs.Prelude.{ℕ, Bool, List}
use Rattle.image_format.specs.Picture.{Picture}
use Rattle.policy_trait.specs.Model.{PolicyModel}
use Rattle.policy_choice.specs.declared.basis.Basis.{Basis}
use Rattle.engine_trait.specs.Standing.{Standing}
use Rattle.pump_loader.specs.Remembering.{remembering_cached_by, remembering_start_by}
use Rattle.pump_loader.specs.declared.chosen_history.RememberingLoad.{RememberingLoad}
use Rattle.pump_loader.specs.declared.chosen_history.RememberingLoad.TheVariants.{Asked, InSets, Kept}

-- what is started, in each case, under a policy that is this at the start of an image
abbrev pub remembering_start_of_chosen : {A B C S T : Type 0} → (T → T → Bool) → PolicyModel T S → (Basis → List ℕ → Picture → S) → RememberingLoad A B C → Standing S T
remembering_start_of_chosen eq m chosen (Asked load) = remembering_start_by m chosen load
remembering_start_of_chosen eq m chosen (Kept load) = remembering_cached_by eq m chosen load
remembering_start_of_chosen eq m chosen (InSets load) = remembering_cached_by eq m chosen load
