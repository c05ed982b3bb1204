use Rattle.std.proofs.Common.{◌≡◌, ◌+◌, ◌≤◌, drop, map, max}
use Rattle.std.specs.List.{fold}
use Rattle.image_format.specs.Conditions.{compartment_limit}
use Rattle.image_format.specs.Picture.{CompartmentRow}
use Rattle.policy_choice.specs.All.{compartment_count}
use Rattle.policy_choice.proofs.all.compartment_count.Given as goal

abbrev pub invariant-loop-row : goal.invariant-loop-row
invariant-loop-row g l = record {
  count : fold (λ count (row : CompartmentRow). max count (row.owner + 1)) l.count (map g.R.OwnedRange.row (drop l.row-index l.rows)) ≡ compartment_count (map g.R.OwnedRange.row l.rows);
  some : 1 ≤ l.count;
  within : l.count ≤ compartment_limit g.R.OwnedRange.version;
}
