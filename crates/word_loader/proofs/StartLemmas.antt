-- The tags of the start, one by one.
use Rattle.std.proofs.Common.{refl}
use Rattle.std.specs.List.{All}
use Rattle.std.proofs.lemmas.List.Elements.{All-map}
use Rattle.image_format.specs.Picture.{Picture}
use Rattle.policy_trait.specs.Model.{PolicyModel}
use Rattle.tag_loader.specs.Start.{start_hart, start_harts}
use Rattle.word_loader.proofs.NamedLemmas.{IsFresh}

module _ {S T : Type 0} (m : PolicyModel T S) (policy : S) where
  pub harts_are_fresh : (g : Picture) → All (IsFresh (m.plain policy)) (start_harts m policy g)
  unfolding start_harts
  harts_are_fresh g = All-map (IsFresh (m.plain policy)) (start_hart m policy g) g.entries λ i d lt. refl
