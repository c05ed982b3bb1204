use Rattle.run_props.proofs.ZeroLemmas.{free_would, malloc_would}
use Rattle.run_props.proofs.law.zeroing_law.Goals as goal

pub returns-clause-malloc : goal.returns-clause-malloc
returns-clause-malloc c policy call base on is fit = malloc_would policy call on base is fit

pub returns-clause-free : goal.returns-clause-free
returns-clause-free c policy call block on is live = free_would policy call on block is live
