-- Looks that come before a rule: with tags changed, and where none is refused.
use Rattle.std.proofs.Common.{◌≡◌, ℕ, Option, Some, None, Result, Ok, Err, refl}
use Rattle.shared_terms.specs.Steps.{◌>>=◌}
use Rattle.policy_trait.specs.declared.rules.Shape.{Shape}
use Rattle.policy_trait.specs.declared.rules.Shape.TheVariants as shape
use Rattle.rv_decode.specs.Groups.{reads_of}
use Rattle.rv_decode.specs.declared.instructions.Instr.{Instr}
use Rattle.rv_decode.specs.declared.places.Reads.{Reads}
use Rattle.rv_step.specs.declared.faults.Fault.{Fault}
use Rattle.tag_memory.specs.Hart.{HartState}
use Rattle.tag_memory.specs.Maps.{hart_by, ram_by}
use Rattle.tag_memory.specs.Ram.{RamState, ram_tag}
use Rattle.tag_memory.proofs.MapLemmas.{ram_tag_by, reg_tag_by}
use Rattle.turn_steps.specs.Looks.{fetch_result, operand_tag, read_instr}
use Rattle.turn_steps.specs.Peeks.{Peek, asked_at, asked_if, fetched_peeked, peek_by, peeked, shape_of, word_peeked}

-- ---- with each tag changed, who is asked is asked with the changed ones

module _ {T U : Type 0} (f : T → U) (peek : Peek U) (hart : HartState T) where
  operand_tag_by : (register : Option ℕ) → operand_tag (hart_by f hart) register ≡ f (operand_tag hart register)
  operand_tag_by None = refl
  operand_tag_by (Some r) = reg_tag_by f hart r

  asked_by : (reads : Reads) (look : Shape) → asked_at peek (hart_by f hart) reads look ≡ asked_at (peek_by f peek) hart reads look
  asked_by reads shape.Branch = λ j. peek shape.Branch (operand_tag_by reads.t1 j) (operand_tag_by reads.t2 j)
  asked_by reads shape.Call = λ j. peek shape.Call (operand_tag_by reads.t2 j) (f hart.plain)
  asked_by reads shape.Word = λ j. peek shape.Word (operand_tag_by reads.t1 j) (f hart.plain)
  asked_by reads shape.Load = λ j. peek shape.Load (operand_tag_by reads.t1 j) (f hart.plain)
  asked_by reads shape.Store = λ j. peek shape.Store (operand_tag_by reads.t1 j) (f hart.plain)
  asked_by reads shape.Jump = λ j. peek shape.Jump (operand_tag_by reads.t1 j) (f hart.plain)

  asked_if_by : (reads : Reads) (look : Option Shape) → asked_if peek (hart_by f hart) reads look ≡ asked_if (peek_by f peek) hart reads look
  asked_if_by reads None = refl
  asked_if_by reads (Some look) = asked_by reads look

  word_by : (found : Result Instr Fault) → word_peeked peek (hart_by f hart) found ≡ word_peeked (peek_by f peek) hart found
  word_by (Ok it) = asked_if_by (reads_of it) (shape_of it)
  word_by (Err fault) = refl

  fetched_by : (ram : RamState T) (found : Result ℕ Fault) → fetched_peeked peek (hart_by f hart) (ram_by f ram) found ≡ fetched_peeked (peek_by f peek) hart ram found
  fetched_by ram (Ok word) = λ j. peek shape.Word (ram_tag_by f ram hart.pc j) (f hart.plain) >>= λ seen. word_by (read_instr word) j
  fetched_by ram (Err fault) = refl

  pub peeked_by : (ram : RamState T) → peeked peek (hart_by f hart) (ram_by f ram) ≡ peeked (peek_by f peek) hart ram
  unfolding peeked
  peeked_by ram = fetched_by ram (fetch_result hart ram)

-- ---- who refuses no look

module _ {T : Type 0} (peek : Peek T) (hart : HartState T) (none : (look : Shape) (first second : T) → peek look first second ≡ Ok tt) where
  asked_free : (reads : Reads) (look : Shape) → asked_at peek hart reads look ≡ Ok tt
  asked_free reads shape.Branch = none shape.Branch (operand_tag hart reads.t1) (operand_tag hart reads.t2)
  asked_free reads shape.Call = none shape.Call (operand_tag hart reads.t2) hart.plain
  asked_free reads shape.Word = none shape.Word (operand_tag hart reads.t1) hart.plain
  asked_free reads shape.Load = none shape.Load (operand_tag hart reads.t1) hart.plain
  asked_free reads shape.Store = none shape.Store (operand_tag hart reads.t1) hart.plain
  asked_free reads shape.Jump = none shape.Jump (operand_tag hart reads.t1) hart.plain

  asked_if_free : (reads : Reads) (look : Option Shape) → asked_if peek hart reads look ≡ Ok tt
  asked_if_free reads None = refl
  asked_if_free reads (Some look) = asked_free reads look

  word_free : (found : Result Instr Fault) → word_peeked peek hart found ≡ Ok tt
  word_free (Ok it) = asked_if_free (reads_of it) (shape_of it)
  word_free (Err fault) = refl

  fetched_free : (ram : RamState T) (found : Result ℕ Fault) → fetched_peeked peek hart ram found ≡ Ok tt
  fetched_free ram (Ok word) = λ j. none shape.Word (ram_tag ram hart.pc) hart.plain j >>= λ seen. word_free (read_instr word) j
  fetched_free ram (Err fault) = refl

  pub peeked_free : (ram : RamState T) → peeked peek hart ram ≡ Ok tt
  unfolding peeked
  peeked_free ram = fetched_free ram (fetch_result hart ram)
