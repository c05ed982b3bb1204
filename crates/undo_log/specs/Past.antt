-- The records of the last turns.
use Rattle.std.specs.Prelude.{ℕ, ◌-◌, ◌≤◌, List, [], ◌∷◌, ◌++◌, length, map, take, Option, Some, None, slice_get, slice_set}
use Rattle.std.specs.List.{flat_map}
use Rattle.circular_buffer.specs.Buffer.{keep_last}
use Rattle.policy_trait.specs.declared.services.Plan.{Plan}
use Rattle.undo_log.specs.declared.record.Replaced.{Replaced}
use Rattle.undo_log.specs.declared.record.TurnStart.{TurnStart}

-- what a turn replaced, and what it read and committed: enough to take it back
pub record Record (T U : Type 0) : Type 0 where
  -- the hart whose turn it was
  pub hart : ℕ
  -- its pc before the turn, and the tag of that
  pub pc : ℕ
  pub pc_tag : T
  -- the register that the turn wrote, as it was before
  pub reg : Option (Replaced T)
  -- the word that a store wrote, as it was before
  pub word : Option (Replaced T)
  -- the words that a service wrote, as they were before
  pub range : List (Replaced T)
  -- the plan that the policy committed
  pub plan : Option (Plan U)
  -- the byte of the feed that was read
  pub fed : Option ℕ

-- the record of a turn that replaced nothing but the pc
abbrev pub bare : {T U : Type 0} → TurnStart T → Record T U
bare start = record {
  hart = start.hart;
  pc = start.pc;
  pc_tag = start.pc_tag;
  reg = None;
  word = None;
  range = [];
  plan = None;
  fed = None;
}

-- the records that are kept, and how many may be
pub record Past (T U : Type 0) : Type 0 where
  -- the records that are kept, the oldest first
  pub kept : List (Record T U)
  -- the most that may be kept
  pub most : ℕ

-- what always holds: no more are kept than may be, and that is at most 65,536
pub record IsPast {T U : Type 0} (past : Past T U) : Type 0 where
  pub few : length past.kept ≤ past.most
  pub small : past.most ≤ 65536

module _ {T U : Type 0} where
  -- these records, of which so many may be kept
  abbrev pub past_of : List (Record T U) → ℕ → Past T U
  past_of kept most = record { kept = kept; most = most }

  -- the newest record, if there is one
  abbrev pub newest : Past T U → Option (Record T U)
  newest past = slice_get past.kept (length past.kept - 1)

  -- the records without the newest
  abbrev pub older : Past T U → Past T U
  older past = past_of (take (length past.kept - 1) past.kept) past.most

  -- the last `most` of those that were kept and this one after them
  abbrev pub pushed : Past T U → Record T U → Past T U
  pushed past made = past_of (keep_last past.most (past.kept ++ made ∷ [])) past.most

  -- another record at this place, and every other as it was
  abbrev pub with_record : Past T U → ℕ → Record T U → Past T U
  with_record past i made = past_of (slice_set past.kept i made) past.most

  -- no record, and as many may be kept
  abbrev pub emptied : Past T U → Past T U
  emptied past = past_of [] past.most

-- ---- the tags that records hold: those of what stood where their turns wrote, and not those of their plans

module _ {T : Type 0} where
  -- of what stood at a place, if anything did
  abbrev pub replaced_tags : Option (Replaced T) → List T
  replaced_tags None = []
  replaced_tags (Some old) = old.tag ∷ []

module _ {T U : Type 0} where
  abbrev pub record_tags : Record T U → List T
  record_tags made = made.pc_tag ∷ replaced_tags made.reg ++ replaced_tags made.word ++ map (λ (old : Replaced T). old.tag) made.range

  abbrev pub past_tags : Past T U → List T
  past_tags past = flat_map record_tags past.kept

-- ---- records with each of those tags changed

module _ {T V : Type 0} (f : T → V) where
  abbrev pub replaced_by : Replaced T → Replaced V
  replaced_by old = record { place = old.place; value = old.value; tag = f old.tag }

  -- the same of what stood at a place, if anything did
  abbrev pub some_replaced_by : Option (Replaced T) → Option (Replaced V)
  some_replaced_by None = None
  some_replaced_by (Some old) = Some (replaced_by old)

module _ {T V U : Type 0} (f : T → V) where
  abbrev pub record_with : Record T U → Record V U
  record_with made = record {
    hart = made.hart;
    pc = made.pc;
    pc_tag = f made.pc_tag;
    reg = some_replaced_by f made.reg;
    word = some_replaced_by f made.word;
    range = map (replaced_by f) made.range;
    plan = made.plan;
    fed = made.fed;
  }

  abbrev pub past_by : Past T U → Past V U
  past_by past = past_of (map record_with past.kept) past.most
