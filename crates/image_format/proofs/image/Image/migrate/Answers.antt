use Rattle.std.proofs.Common.{subst, sym}
use Rattle.image_format.specs.Conditions.{IsImage}
use Rattle.image_format.specs.Seen.{picture_of}
use Rattle.image_format.proofs.MigratedLemmas.{migrated_is_image}
use Rattle.image_format.proofs.image.Image.migrate.Goals as goal

pub invariant_of-result : goal.invariant_of-result
invariant_of-result c =
    let wide = c.in_ok-compartments.ensures in
    let g = picture_of c.self.inside in
    subst IsImage (sym (λ j. record g { version = wide.version j; compartments = wide.rows j })) (migrated_is_image g c.self.invariant)
