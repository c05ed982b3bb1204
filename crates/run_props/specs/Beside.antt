-- All four policies, and one more beside them that is asked last.
use Rattle.std.specs.Prelude.{List, map}
use Rattle.image_format.specs.Picture.{Picture}
use Rattle.policy_trait.specs.Model.{PolicyModel}
use Rattle.policy_product.specs.Both.{both}
use Rattle.policy_choice.specs.All.{AllState, AllTag, all, choice_state}
use Rattle.policy_choice.specs.declared.basis.Basis.{Basis}
use Rattle.engine_trait.specs.Events.{Event}
use Rattle.engine_trait.specs.Machine.{Machine}
use Rattle.part_turns.specs.Maps.{event_with}
use Rattle.tag_loader.specs.Start.{start_machine}

module _ {U V : Type 0} (own : PolicyModel U V) where
  -- the four and the one more, as one policy
  abbrev pub beside : PolicyModel (AllTag × U) (AllState × V)
  beside = both all own

  -- the start of an image under those of the four that are chosen, and this value of the one more
  abbrev pub beside_start : Basis → Picture → V → Machine (AllState × V) (AllTag × U)
  beside_start basis g v = start_machine beside (choice_state basis g, v) g

-- the events as the four see them
abbrev pub seen_by_four : {U : Type 0} → List (Event (AllTag × U)) → List (Event AllTag)
seen_by_four events = map (event_with (λ tags. tags.0)) events
