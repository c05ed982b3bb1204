-- What the words of a table stand for.
use Rattle.std.specs.Prelude.{ℕ, List, slice_index_or}

-- the tag of a word; a word that no tag has stands for the plain one
abbrev pub tag_at : {T : Type 0} → T → List T → ℕ → T
tag_at plain tags word = slice_index_or tags word plain
