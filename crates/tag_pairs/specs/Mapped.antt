-- A table of tags that stand for those of another table.
use Rattle.std.specs.Prelude.{map}
use Rattle.tag_intern.specs.Table.{TableState}

-- the table of the images of its tags
abbrev pub mapped : {A B : Type 0} → (A → B) → TableState A → TableState B
mapped image table = record { tags = map image table.tags; limit = table.limit }
