-- What a record tells of the places that its turn replaced, by how it keeps them.
use Rattle.std.specs.Prelude.{List, [], Option, Some, None}
use Rattle.policy_trait.specs.declared.services.Plan.{Plan}
use Rattle.undo_log.specs.declared.record.Old.{Old}
use Rattle.undo_log.specs.declared.record.Old.TheVariants as old
use Rattle.undo_log.specs.declared.record.Replaced.{Replaced}

module _ {T U : Type 0} where
  abbrev pub old_reg : Old T U → Option (Replaced T)
  old_reg (old.Register reg) = Some reg
  old_reg (old.Service served) = served.value.answered
  old_reg _ = None

  abbrev pub old_word : Old T U → Option (Replaced T)
  old_word (old.Word word) = Some word
  old_word _ = None

  abbrev pub old_range : Old T U → List (Replaced T)
  old_range (old.Service served) = served.value.range
  old_range _ = []

  abbrev pub old_plan : Old T U → Option (Plan U)
  old_plan (old.Service served) = Some served.value.plan
  old_plan _ = None
