-- The starts of an image under the four policies with secrecy beside them, with these secret bytes.
use Rattle.std.specs.Prelude.{ℕ, Bool, List}
use Rattle.image_format.specs.Picture.{Picture}
use Rattle.policy_choice.specs.declared.basis.Basis.{Basis}
use Rattle.engine_trait.specs.Machine.{Machine}
use Rattle.engine_trait.specs.Standing.{Standing}
use Rattle.tag_loader.specs.Start.{start_machine, start_standing}
use Rattle.word_loader.specs.CachedStart.{cached_standing}
use Rattle.pump_loader.specs.Wholes.{HiddenState, HiddenTag, hidden, hidden_state}

-- the machine at an image's start
abbrev pub hidden_start : Basis → List ℕ → Picture → Machine HiddenState HiddenTag
hidden_start basis bytes g = start_machine hidden (hidden_state basis bytes g) g

-- the engine that asks the policies at every turn, at an image's start
abbrev pub asked_start : Basis → List ℕ → Picture → Standing HiddenState HiddenTag
asked_start basis bytes g = start_standing hidden (hidden_state basis bytes g) g

-- the one that keeps rules in so many sets of so many ways, and has words for so many tags
abbrev pub kept_start : (HiddenTag → HiddenTag → Bool) → Basis → List ℕ → ℕ → ℕ → ℕ → Picture → Standing HiddenState HiddenTag
kept_start eq basis bytes sets ways tags g = cached_standing eq hidden (hidden_state basis bytes g) g sets ways tags
