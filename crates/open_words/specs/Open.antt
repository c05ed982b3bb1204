-- Words of tags at which every look is allowed.
use Rattle.std.specs.Prelude.{◌≡◌, ℕ, Bool, true, false, ◌&&◌, List, is_ok, length, map, take, Option, Some, None, slice_index_or}
use Rattle.policy_trait.specs.Model.{PolicyModel}
use Rattle.policy_trait.specs.declared.rules.Shape.{Shape}
use Rattle.policy_trait.specs.declared.rules.Shape.TheVariants as shape
use Rattle.turn_steps.specs.declared.peeking.Looks.{Looks}
use Rattle.turn_steps.specs.declared.peeking.OperandLook.{OperandLook}

module _ {S T : Type 0} (m : PolicyModel T S) (s : S) where
  -- a look at a value with this tag alone is allowed
  abbrev pub allows : T → Shape → Bool
  allows tag look = is_ok (m.peek s look tag (m.plain s))

  -- each is
  abbrev pub is_open : T → Bool
  is_open tag =
      allows tag shape.Word && allows tag shape.Load && allows tag shape.Store && allows tag shape.Jump && allows tag shape.Branch && allows tag shape.Call

  -- what is known of the first words of a table is so
  abbrev pub AreOpen : List T → List Bool → Type 0
  AreOpen tags known = known ≡ map is_open (take (length known) tags)

-- whether a word is known to be open
abbrev pub is_open_at : List Bool → ℕ → Bool
is_open_at known word = slice_index_or known word false

abbrev pub opens_operands : List Bool → Option (OperandLook ℕ) → Bool
opens_operands known None = true
opens_operands known (Some look) = is_open_at known look.first && is_open_at known look.second

-- whether each word of these looks is
abbrev pub opens : List Bool → Looks ℕ → Bool
opens known looks = is_open_at known looks.word && opens_operands known looks.operands
