-- The rows of compartments by the version of their image.
use Rattle.std.specs.Prelude.{List}
use Rattle.image_format.specs.declared.version.Version.{Version}
use Rattle.image_format.specs.declared.version.Version.TheVariants.{One, Two}
use Rattle.image_format.specs.declared.compartments.CompartmentRanges.{CompartmentRanges}
use Rattle.image_format.specs.declared.compartments.CompartmentRanges.TheVariants as owned
use Rattle.image_format.specs.declared.compartments.CompartmentRows.{CompartmentRows}
use Rattle.image_format.specs.declared.compartments.CompartmentRows.TheVariants as lent
use Rattle.image_format.specs.Picture.{CompartmentRow}

-- the version whose rows they are
abbrev pub version_of : CompartmentRanges → Version
version_of (owned.Narrow rows) = One
version_of (owned.Wide rows) = Two

-- the rows
abbrev pub rows_of : CompartmentRanges → List CompartmentRow
rows_of (owned.Narrow rows) = rows.items
rows_of (owned.Wide rows) = rows.items

-- the same of rows that are lent
abbrev pub lent_version : CompartmentRows → Version
lent_version (lent.Narrow rows) = One
lent_version (lent.Wide rows) = Two

abbrev pub lent_rows : CompartmentRows → List CompartmentRow
lent_rows (lent.Narrow rows) = rows.now
lent_rows (lent.Wide rows) = rows.now
