use Rattle.std.specs.Map.{keys_of}
use Rattle.rule_cache.specs.Stores.{set_rules}
use Rattle.rule_cache.proofs.AccountLemmas.{all_told, hit_alike, keeping_alike, kept_alike, miss_alike}
use Rattle.rule_cache.proofs.law.account_law.Goals as goal

pub returns-clause-apart : goal.returns-clause-apart
returns-clause-apart g c tag_of bound store key tells below all = all_told tag_of g.T.PartialEq.eq key bound (keys_of (set_rules key store)) tells below all

pub returns-clause-is_kept : goal.returns-clause-is_kept
returns-clause-is_kept g c tag_of account store key = kept_alike tag_of g.T.PartialEq.eq key account store

pub returns-clause-hit : goal.returns-clause-hit
returns-clause-hit g c tag_of account store key = hit_alike tag_of g.T.PartialEq.eq key account store

pub returns-clause-miss : goal.returns-clause-miss
returns-clause-miss g c tag_of account store key = miss_alike tag_of g.T.PartialEq.eq key account store

pub returns-clause-keep : goal.returns-clause-keep
returns-clause-keep g c tag_of account store key words is told = keeping_alike tag_of g.T.PartialEq.eq key account store is told words
