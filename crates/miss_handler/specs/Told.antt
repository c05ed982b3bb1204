-- The account of an engine that has this table of tags and this store of rules.
use Rattle.std.specs.Prelude.{◌≡◌, ◌≤◌}
use Rattle.engine_trait.specs.Accounts.{Account}
use Rattle.rule_cache.specs.Named.{IsAccountOf}
use Rattle.rule_cache.specs.Stores.{Store}
use Rattle.tag_intern.specs.Table.{TableState}
use Rattle.tag_intern.specs.Words.{tag_at}

-- the tags that have words are those of the table; the kept keys and the counts are those of the store, each of whose
-- sets may keep a rule
pub record Tells {T : Type 0} (plain : T) (table : TableState T) (store : Store) (account : Account T) : Type 0 where
  pub tags : account.table ≡ table.tags
  pub limit : account.limit ≡ table.limit
  pub rules : IsAccountOf (tag_at plain table.tags) account store
  pub room : 1 ≤ store.ways
