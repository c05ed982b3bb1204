-- What a turn tells, on standard output, and where a command ends with it.
use Rattle.std.specs.Prelude.{ℕ, ◌==◌, Bool, true, false, ◌||◌, List, [], ◌∷◌, ◌++◌, codes, Some, None, if◌then◌else◌}
use Rattle.std.specs.Fmt.{decimal}
use Rattle.std.specs.List.{list_any}
use Rattle.pump_words.specs.Texts.{hex2_text, hex8_text}
use Rattle.host_io.specs.Pieces.{Piece, out}
use Rattle.tag_text.specs.Texts.{line, stop_line}
use Rattle.engine_trait.specs.EngineLaws.{is_made}
use Rattle.engine_trait.specs.declared.ends.TurnEnd.{TurnEnd}
use Rattle.engine_trait.specs.declared.ends.TurnEnd.TheVariants as ends

-- the line of a byte that was put
unfoldable pub out_line : ℕ → List ℕ
out_line byte = line (codes "out " ++ hex2_text byte)

-- the line of a break of hart h, whose pc is then this one
unfoldable pub break_line : ℕ → ℕ → List ℕ
break_line h pc = line (codes "break " ++ decimal h ++ codes " pc " ++ hex8_text pc)

-- the line of an engine that is out of tag numbers
abbrev pub tags_out_line : List ℕ
tags_out_line = line (codes "tags out")

-- a turn of hart h that ended so: the byte that it put, its hart's stop, or the end of the tag numbers
abbrev pub end_pieces : ℕ → TurnEnd → List Piece
end_pieces h (ends.Ran (Some byte)) = out (out_line byte) ∷ []
end_pieces h (ends.Ran None) = []
end_pieces h ends.Break = []
end_pieces h (ends.Stopped why) = out (stop_line h why) ∷ []
end_pieces h ends.Idle = []
end_pieces h ends.TagsOut = out tags_out_line ∷ []
end_pieces h ends.Memory = []

-- a turn that ended so, with its hart's pc here, is a break: EBREAK's, or one that came to a breakpoint with its hart ready
abbrev pub is_break : List ℕ → ℕ → TurnEnd → Bool
is_break breaks pc (ends.Ran byte) = list_any (λ place. place == pc) breaks
is_break breaks pc ends.Break = true
is_break breaks pc (ends.Stopped why) = false
is_break breaks pc ends.Idle = false
is_break breaks pc ends.TagsOut = false
is_break breaks pc ends.Memory = false

-- the line of a break of hart h at this pc, where the turn is one
abbrev pub break_pieces : Bool → ℕ → ℕ → List Piece
break_pieces breaks h pc = if breaks then out (break_line h pc) ∷ [] else []

-- a command ends with a break and where the engine runs out of tag numbers
abbrev pub is_out : TurnEnd → Bool
is_out ends.TagsOut = true
is_out (ends.Ran byte) = false
is_out ends.Break = false
is_out (ends.Stopped why) = false
is_out ends.Idle = false
is_out ends.Memory = false

-- the command ends with a turn that ended so, with its hart's pc here
abbrev pub is_last : List ℕ → ℕ → TurnEnd → Bool
is_last breaks pc ended = is_break breaks pc ended || is_out ended

-- the harts of the turns that are counted: an idle one is not, nor one that ran out of tag numbers
abbrev pub counted_harts : ℕ → TurnEnd → List ℕ
counted_harts h ended = if is_made ended then h ∷ [] else []
