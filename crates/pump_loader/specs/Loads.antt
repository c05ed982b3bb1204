-- A start on the engine that keeps rules, that can be made again and again.
use Rattle.std.specs.Prelude.{ℕ, ◌≤◌, Bool, List}
use Rattle.cache_size.specs.declared.size.CacheSize.{CacheSize}
use Rattle.image_format.specs.Picture.{Picture}
use Rattle.policy_trait.specs.Model.{PolicyModel}
use Rattle.policy_choice.specs.declared.basis.Basis.{Basis}
use Rattle.engine_trait.specs.Standing.{Standing}
use Rattle.word_loader.specs.CachedStart.{cached_standing}

-- an image, what its start rests on beside it, room for so many rules in sets, and for words of so many tags
pub record CachedLoad : Type 0 where
  pub image : Picture
  pub basis : Basis
  pub secret : List ℕ
  pub cache : CacheSize
  pub tags : ℕ

-- there is room for one rule and for the plain tag, and the store can be of such a size
pub record HasRoom (fits : ℕ → ℕ → Type 0) (load : CachedLoad) : Type 0 where
  pub some_sets : 1 ≤ load.cache.sets
  pub some_ways : 1 ≤ load.cache.ways
  pub sized : fits load.cache.sets load.cache.ways
  pub some_tags : 1 ≤ load.tags

-- the image's start under what the basis chooses
abbrev pub cached_start_by : {S T : Type 0} → (T → T → Bool) → PolicyModel T S → (Basis → List ℕ → Picture → S) → CachedLoad → Standing S T
cached_start_by eq m chosen load =
    cached_standing eq m (chosen load.basis load.secret load.image) load.image load.cache.sets load.cache.ways load.tags
