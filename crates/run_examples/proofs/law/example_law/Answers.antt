use Rattle.run_examples.proofs.ComputedLemmas.{all_retire, blocks_are, is_image, is_safe, jump_is, keys_are, landing_is, shared_is, walk_is}
use Rattle.run_examples.proofs.law.example_law.Goals as goal

pub returns-clause-image : goal.returns-clause-image
returns-clause-image g = is_image

pub returns-clause-safe : goal.returns-clause-safe
returns-clause-safe g = is_safe

pub returns-clause-retire : goal.returns-clause-retire
returns-clause-retire g = all_retire

pub returns-clause-keys : goal.returns-clause-keys
returns-clause-keys g = keys_are

pub returns-clause-shared : goal.returns-clause-shared
returns-clause-shared g = shared_is

pub returns-clause-walk : goal.returns-clause-walk
returns-clause-walk g = walk_is

pub returns-clause-jump : goal.returns-clause-jump
returns-clause-jump g = jump_is

pub returns-clause-landing : goal.returns-clause-landing
returns-clause-landing g = landing_is

pub returns-clause-blocks : goal.returns-clause-blocks
returns-clause-blocks g = blocks_are
