-- The start on an engine that keeps rules: the tags that have words, and the account.
use Rattle.std.specs.Prelude.{ℕ, Bool, List, [], ◌∷◌, ◌++◌, map, replicate}
use Rattle.image_format.specs.Picture.{Picture}
use Rattle.policy_trait.specs.Model.{PolicyModel}
use Rattle.tag_memory.specs.Hart.{HartState}
use Rattle.engine_trait.specs.Accounts.{Account, plain_account, with_tags}
use Rattle.engine_trait.specs.Standing.{Standing}
use Rattle.tag_loader.specs.Start.{start_harts, start_machine, start_tags}

module _ {S T : Type 0} (m : PolicyModel T S) (policy : S) (g : Picture) where
  -- the tag of each hart's pc
  abbrev pub pc_tags : List T
  pc_tags = map (λ (hart : HartState T). hart.pc_tag) (start_harts m policy g)

  -- the tags of the start, in the order in which they get words: the plain tag, that of each hart's pc, and that of each
  -- word of memory
  abbrev pub first_tags : List T
  first_tags = m.plain policy ∷ (pc_tags ++ start_tags m policy g)

module _ {S T : Type 0} (eq : T → T → Bool) (m : PolicyModel T S) (policy : S) (g : Picture) (sets ways limit : ℕ) where
  -- each tag of the start has a word, once, and no rule is kept
  abbrev pub cached_account : Account T
  cached_account =
      record plain_account { table = with_tags eq [] (first_tags m policy g); limit = limit; sets = replicate sets []; ways = ways }

  abbrev pub cached_standing : Standing S T
  cached_standing = record { machine = start_machine m policy g; account = cached_account }
