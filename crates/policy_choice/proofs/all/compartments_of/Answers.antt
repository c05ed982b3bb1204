use Rattle.std.proofs.Common.{◌<◌, All, subst, sym}
use Rattle.image_format.specs.Conditions.{compartment_limit}
use Rattle.policy_choice.proofs.OwnerLemmas.{owners_fit}
use Rattle.policy_choice.proofs.all.compartments_of.Goals as goal

-- src/all.rt:71:42
pub compartment_count-count-requires : goal.compartment_count-count-requires
compartment_count-count-requires c =
    let here = c.in-Narrow in
    subst (λ version. All (λ row. row.owner < compartment_limit version) here.rows.now) (sym here.ensures.version)
    (owners_fit c.args.image.now.version c.args.image.now.ram here.rows.now here.ensures.rows)

-- src/all.rt:72:40
pub compartment_count-count-requires-in-Wide : goal.compartment_count-count-requires-in-Wide
compartment_count-count-requires-in-Wide c =
    let here = c.in-Wide in
    subst (λ version. All (λ row. row.owner < compartment_limit version) here.rows.now) (sym here.ensures.version)
    (owners_fit c.args.image.now.version c.args.image.now.ram here.rows.now here.ensures.rows)
