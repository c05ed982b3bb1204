-- The start that suits how many rules may be kept.
use Rattle.std.specs.Prelude.{ℕ, Bool, List, if◌then◌else◌}
use Rattle.cache_size.specs.Sizes.{keeps_no_rule}
use Rattle.cache_size.specs.declared.size.CacheSize.{CacheSize}
use Rattle.image_format.specs.Picture.{Picture}
use Rattle.policy_trait.specs.Model.{PolicyModel}
use Rattle.policy_choice.specs.declared.basis.Basis.{Basis}
use Rattle.engine_trait.specs.Standing.{Standing}
use Rattle.pump_loader.specs.Loads.{cached_start_by}
use Rattle.pump_loader.specs.PlainLoads.{start_by}
use Rattle.pump_loader.specs.Wholes.{Whole}
use Rattle.pump_loader.specs.declared.chosen.ChosenLoad.{ChosenLoad}
use Rattle.pump_loader.specs.declared.chosen.ChosenLoad.TheVariants.{Asked, InSets, Kept}
use Rattle.tag_loader.specs.Start.{start_standing}
use Rattle.word_loader.specs.CachedStart.{cached_standing}

-- the image's start under a policy with this value; where no rules are kept, no tag has a word
abbrev pub start_with : {S T : Type 0} → (T → T → Bool) → PolicyModel T S → S → CacheSize → ℕ → Picture → Standing S T
start_with eq m policy cache tags g =
    if keeps_no_rule cache then start_standing m policy g else cached_standing eq m policy g cache.sets cache.ways tags

-- what is started, in each case, under a policy that is this at the start of an image
abbrev pub start_of_chosen : {A B C S T : Type 0} → (T → T → Bool) → PolicyModel T S → (Basis → List ℕ → Picture → S) → ChosenLoad A B C → Standing S T
start_of_chosen eq m chosen (Asked load) = start_by m chosen load
start_of_chosen eq m chosen (Kept load) = cached_start_by eq m chosen load
start_of_chosen eq m chosen (InSets load) = cached_start_by eq m chosen load

-- the same under the policies that a basis chooses
abbrev pub start_under_whole : (w : Whole) → CacheSize → ℕ → Picture → Standing w.State w.Tag
start_under_whole w cache tags g = start_with w.eq w.model w.state cache tags g
