-- The lines by which a session replies. Addresses, words and pcs are eight hexadecimal digits in upper case, all else is decimal.
use Rattle.std.specs.Prelude.{ℕ, List, [], ◌∷◌, ◌++◌, codes}
use Rattle.std.specs.Fmt.{decimal}
use Rattle.pump_words.specs.Texts.{hex8_text}
use Rattle.engine_trait.specs.declared.ends.Counts.{Counts}
use Rattle.tag_text.specs.Texts.{line}

-- the text of a tag: `-` where the policies write nothing
abbrev pub or_dash : List ℕ → List ℕ
or_dash [] = codes "-"
or_dash (byte ∷ more) = byte ∷ more

-- a register's number, value and tag
unfoldable pub register_line : ℕ → ℕ → List ℕ → List ℕ
register_line r value tag = line (codes "x" ++ decimal r ++ codes " " ++ hex8_text value ++ codes " " ++ or_dash tag)

-- a pc and its tag
unfoldable pub pc_line : ℕ → List ℕ → List ℕ
pc_line pc tag = line (codes "pc " ++ hex8_text pc ++ codes " " ++ or_dash tag)

-- an address, and the word or the tag there
unfoldable pub word_line : ℕ → ℕ → List ℕ
word_line address word = line (hex8_text address ++ codes " " ++ hex8_text word)

unfoldable pub tag_line : ℕ → List ℕ → List ℕ
tag_line address tag = line (hex8_text address ++ codes " " ++ or_dash tag)

-- a hart that has not stopped
unfoldable pub ready_line : ℕ → List ℕ
ready_line h = line (codes "ready " ++ decimal h)

-- a block's number, its base and how many words it has
unfoldable pub block_line : ℕ × ℕ × ℕ → List ℕ
block_line block = line (codes "block " ++ decimal block.0 ++ codes " " ++ hex8_text block.1 ++ codes " " ++ decimal block.2)

-- the counts of an engine: its turns, hits and misses
unfoldable pub stats_line : Counts → List ℕ
stats_line counts =
    line (codes "stats turns " ++ decimal counts.turns ++ codes " hits " ++ decimal counts.hits ++ codes " misses " ++ decimal counts.misses)

-- the count of sweeps
unfoldable pub sweeps_line : ℕ → List ℕ
sweeps_line count = line (codes "sweeps " ++ decimal count)

-- how many turns of a command were counted
unfoldable pub turns_line : ℕ → List ℕ
turns_line count = line (codes "turns " ++ decimal count)

-- how many turns were taken back
unfoldable pub back_line : ℕ → List ℕ
back_line count = line (codes "back " ++ decimal count)

-- a refusal by its number
unfoldable pub refusal_line : ℕ → List ℕ
refusal_line number = line (codes "? " ++ decimal number)
