-- Each owner in an image's ranges is below the count of compartments that the image's version allows.
use Rattle.std.proofs.Common.{◌≡◌, ℕ, zero, suc, ◌<◌, true, ◌&&◌, List, [], ◌∷◌, Option, Some, None, arith}
use Rattle.std.specs.List.{All}
use Rattle.std.proofs.lemmas.Bool.{ltb-true}
use Rattle.image_format.proofs.FieldLemmas.{both}
use Rattle.image_format.specs.Conditions.{IsList, are_rows, compartment_limit, in_order, is_compartment, is_compartment_after, is_mask, is_owner, is_range, whole}
use Rattle.image_format.specs.Picture.{CompartmentRow}
use Rattle.image_format.specs.declared.version.Version.{Version}

pub owner_fits : (version : Version) (ram : ℕ) (row : CompartmentRow) → is_compartment version ram row ≡ true → row.owner < compartment_limit version
owner_fits version ram row fits =
    let masks = both (is_range ram row.range && is_owner version row.owner && is_mask version row.into) (is_mask version row.write) fits in
    let into = both (is_range ram row.range && is_owner version row.owner) (is_mask version row.into) masks.0 in
    ltb-true row.owner (compartment_limit version) (both (is_range ram row.range) (is_owner version row.owner) into.0).1

owners_fit_after : (version : Version) (ram : ℕ) (before : Option CompartmentRow) (rows : List CompartmentRow)
    → are_rows whole (is_compartment version ram) is_compartment_after before rows ≡ true → All (λ row. row.owner < compartment_limit version) rows
owners_fit_after version ram before [] are k d there = absurd (omega (arith, there))
owners_fit_after version ram before (row ∷ rows) are zero d there =
    let parts = both (is_compartment version ram row && in_order is_compartment_after before row) _ are in
    owner_fits version ram row (both (is_compartment version ram row) _ parts.0).0
owners_fit_after version ram before (row ∷ rows) are (suc k) d there =
    let parts = both (is_compartment version ram row && in_order is_compartment_after before row) _ are in
    owners_fit_after version ram (Some row) rows parts.1 k d (omega (arith, there))

pub owners_fit : (version : Version) (ram : ℕ) (rows : List CompartmentRow) → IsList whole (is_compartment version ram) is_compartment_after rows
    → All (λ row. row.owner < compartment_limit version) rows
owners_fit version ram rows is = owners_fit_after version ram None rows is.rows
