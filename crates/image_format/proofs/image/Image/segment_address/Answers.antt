use Rattle.image_format.proofs.ImageLemmas.{address_lies}
use Rattle.image_format.proofs.image.Image.segment_address.Goals as goal

pub returns-clause-aligned : goal.returns-clause-aligned
returns-clause-aligned c = (address_lies _ _ c.args.i _ c.self.view_is c.self.invariant c.requires c.address.ensures).aligned

pub returns-clause-inside : goal.returns-clause-inside
returns-clause-inside c = (address_lies _ _ c.args.i _ c.self.view_is c.self.invariant c.requires c.address.ensures).inside
