-- What a log and a record's words end as, once a `&mut` into them has ended.
use Rattle.std.specs.Prelude.{ℕ, List, length}
use Rattle.std.specs.Borrow.{Array, Fml, Lends, MutBor, RattleType}
use Rattle.std.specs.List.{refill}
use Rattle.undo_log.specs.Past.{Past, Record, with_record}
use Rattle.undo_log.specs.declared.record.Replaced.{Replaced}
use Rattle.undo_log.specs.contracts.log.UndoLog as log
use Rattle.undo_log.specs.contracts.record.OldWords as old_words
use Rattle.undo_log.specs.contracts.record.Record as turn_record
use Rattle.undo_log.specs.contracts.record.Replaced as replaced

-- at the place stands the record that was last written through the borrow, and the others are as they were
abbrev pub LendsRecord : (R Q : RattleType) → MutBor (Past R.Denot Q.Denot) → ℕ → MutBor (Record R.Denot Q.Denot) → Fml
LendsRecord R Q past i r = Lends (log.the_row R Q) (turn_record.the_row R Q) past r (with_record past.now i)

-- the words are those that were last written through the borrow
abbrev pub LendsWords : (R : RattleType) → MutBor (List (Replaced R.Denot)) → MutBor (List (Replaced R.Denot)) → Fml
LendsWords R old r =
    Lends (old_words.the_row R) (Array (replaced.the_row R) 0) old r (refill (length old.now) old.now)
