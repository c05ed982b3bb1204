-- What a session shows of its machine, line by line on standard output.
use Rattle.std.specs.Prelude.{ℕ, zero, suc, ◌+◌, ◌*◌, List, [], ◌∷◌, Option, Some, None}
use Rattle.host_io.specs.Pieces.{Piece, out}
use Rattle.policy_trait.specs.Model.{PolicyModel}
use Rattle.tag_memory.specs.Hart.{reg_tag, reg_value}
use Rattle.tag_memory.specs.Ram.{ram_tag, ram_word}
use Rattle.tag_text.specs.Texts.{stop_line}
use Rattle.turn_steps.specs.declared.stop.Stop.{Stop}
use Rattle.engine_trait.specs.Machine.{Machine, hart_at}
use Rattle.asm_show.specs.Listing.{listing_line as listed_word}
use Rattle.shell_run.specs.Lines.{block_line, pc_line, ready_line, register_line, tag_line, word_line}

-- so many lines, one for each number from one on
unfoldable pub lines_from : (ℕ → List ℕ) → ℕ → ℕ → List Piece
lines_from line_of from zero = []
lines_from line_of from (suc count) = out (line_of from) ∷ lines_from line_of (from + 1) count

-- why a hart stopped, or that it is ready
abbrev pub why_line : ℕ → Option Stop → List ℕ
why_line h None = ready_line h
why_line h (Some why) = stop_line h why

-- a block, if there is one, and then the others
abbrev pub block_then : Option (ℕ × ℕ × ℕ) → List Piece → List Piece
block_then None others = []
block_then (Some block) others = out (block_line block) ∷ others

module _ {S T : Type 0} (m : PolicyModel T S) (s : Machine S T) where
  -- the text of a tag under the policy as it stands
  abbrev pub text_in : T → List ℕ
  text_in tag = m.text s.policy tag

  -- register r of hart h; the pc of hart h
  abbrev pub register_of : ℕ → ℕ → List ℕ
  register_of h r = register_line r (reg_value (hart_at s.core h) r) (text_in (reg_tag (hart_at s.core h) r))

  abbrev pub pc_of : ℕ → List ℕ
  pc_of h = pc_line (hart_at s.core h).pc (text_in (hart_at s.core h).pc_tag)

  -- word k from an address on; its tag
  abbrev pub word_of : ℕ → ℕ → List ℕ
  word_of a k = word_line (a + 4 * k) (ram_word s.core.ram (a + 4 * k))

  abbrev pub tag_of : ℕ → ℕ → List ℕ
  tag_of a k = tag_line (a + 4 * k) (text_in (ram_tag s.core.ram (a + 4 * k)))

  -- word k from an address on, with its statement
  abbrev pub statement_of : ℕ → ℕ → List ℕ
  statement_of a k = listed_word (a + 4 * k) (ram_word s.core.ram (a + 4 * k))

  -- the live blocks from one on, at most so many
  unfoldable pub blocks : ℕ → ℕ → List Piece
  blocks place zero = []
  blocks place (suc more) = block_then (m.listed s.policy place) (blocks (place + 1) more)
