-- Starts on engines whose turns can be taken back.
use Rattle.std.specs.Prelude.{ℕ, ◌≤◌, Bool, List}
use Rattle.image_format.specs.Picture.{Picture}
use Rattle.policy_trait.specs.Model.{PolicyModel}
use Rattle.policy_choice.specs.declared.basis.Basis.{Basis}
use Rattle.engine_trait.specs.Standing.{Standing, with_history_for}
use Rattle.pump_loader.specs.Loads.{CachedLoad, cached_start_by}
use Rattle.pump_loader.specs.PlainLoads.{Load, start_by}

-- a start, with room for the records of so many turns
pub record Remembering (L : Type 0) : Type 0 where
  pub load : L
  pub most : ℕ

-- a history is at most so long
pub record IsShort {L : Type 0} (start : Remembering L) : Type 0 where
  pub few : start.most ≤ 65536

module _ {S T : Type 0} (m : PolicyModel T S) (chosen : Basis → List ℕ → Picture → S) where
  abbrev pub remembering_start_by : Remembering Load → Standing S T
  remembering_start_by start = with_history_for start.most (start_by m chosen start.load)

module _ {S T : Type 0} (eq : T → T → Bool) (m : PolicyModel T S) (chosen : Basis → List ℕ → Picture → S) where
  abbrev pub remembering_cached_by : Remembering CachedLoad → Standing S T
  remembering_cached_by start = with_history_for start.most (cached_start_by eq m chosen start.load)
