-- Counts of rows.
use Rattle.std.specs.Prelude.{ℕ, ◌+◌, Bool, true, false}
use Rattle.shared_terms.specs.Counts.{next_count}
use Rattle.row_lang.specs.declared.tally.Tally.{Tally}

-- The count before any row.
abbrev pub no_rows : Tally
no_rows = record { as_told = 0; other = 0; refused = 0 }

-- How many rows were counted.
abbrev pub rows_in : Tally → ℕ
rows_in tally = tally.as_told + tally.other

-- The count with a row more, which was as told or not.
abbrev pub with_row : Bool → Tally → Tally
with_row true tally = record tally { as_told = next_count tally.as_told }
with_row false tally = record tally { other = next_count tally.other }

-- The count with a refused text more.
abbrev pub with_refusal : Tally → Tally
with_refusal tally = record tally { refused = next_count tally.refused }
