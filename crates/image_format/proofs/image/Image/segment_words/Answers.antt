use Rattle.image_format.proofs.ImageLemmas.{words_lie}
use Rattle.image_format.proofs.image.Image.segment_words.Goals as goal

pub returns-clause-some : goal.returns-clause-some
returns-clause-some c = (words_lie _ _ c.args.i _ c.self.view_is c.self.invariant c.requires c.words.ensures).some

pub returns-clause-inside : goal.returns-clause-inside
returns-clause-inside c = (words_lie _ _ c.args.i _ c.self.view_is c.self.invariant c.requires c.words.ensures).inside
