-- A walk through the rows of compartments, by its rows.
use Rattle.std.specs.Prelude.{List}
use Rattle.image_format.specs.Picture.{CompartmentRow}
use Rattle.tag_loader.specs.declared.owners.OwnerWalk.{OwnerWalk}
use Rattle.tag_loader.specs.declared.owners.OwnerWalk.TheVariants.{Narrow, Wide}

-- the rows that it still has
abbrev pub rows_left : OwnerWalk → List CompartmentRow
rows_left (Narrow walk) = walk
rows_left (Wide walk) = walk
