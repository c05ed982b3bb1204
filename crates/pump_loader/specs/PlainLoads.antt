-- Starts on the engine that asks its policy at every turn, that can be made again and again.
use Rattle.std.specs.Prelude.{ℕ, List}
use Rattle.image_format.specs.Picture.{Picture}
use Rattle.policy_trait.specs.Model.{PolicyModel}
use Rattle.policy_choice.specs.All.{AllState, AllTag, all, choice_state}
use Rattle.policy_product.specs.Nothing.{nothing}
use Rattle.policy_choice.specs.declared.basis.Basis.{Basis}
use Rattle.policy_product.specs.declared.nothing.Nothing.{Nothing}
use Rattle.engine_trait.specs.Standing.{Standing}
use Rattle.tag_loader.specs.Start.{start_standing}

-- an image, and what its start rests on beside it
pub record Load : Type 0 where
  pub image : Picture
  pub basis : Basis
  pub secret : List ℕ

-- the image's start under what the basis chooses
abbrev pub start_by : {S T : Type 0} → PolicyModel T S → (Basis → List ℕ → Picture → S) → Load → Standing S T
start_by m chosen load = start_standing m (chosen load.basis load.secret load.image) load.image

-- the same under the four policies
abbrev pub start_of : Basis → Picture → Standing AllState AllTag
start_of basis g = start_standing all (choice_state basis g) g

-- the image's start under the policy that is nothing
abbrev pub bare_start_of : Picture → Standing Nothing (Unit {0})
bare_start_of g = start_standing nothing (record {}) g
