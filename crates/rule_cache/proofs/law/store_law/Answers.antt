use Rattle.rule_cache.proofs.StoreLemmas.{emptied_stays, empty_is, looking_stays, stored_stays}
use Rattle.rule_cache.proofs.law.store_law.Goals as goal

pub returns-clause-made : goal.returns-clause-made
returns-clause-made c = empty_is

pub returns-clause-find : goal.returns-clause-find
returns-clause-find c = looking_stays

pub returns-clause-keep : goal.returns-clause-keep
returns-clause-keep c = stored_stays

pub returns-clause-clear : goal.returns-clause-clear
returns-clause-clear c = emptied_stays
