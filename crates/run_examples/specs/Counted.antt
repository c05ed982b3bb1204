-- The run of the example by an engine that keeps rules, with so many words for its tags.
use Rattle.std.specs.Prelude.{ℕ, [], map}
use Rattle.turn_steps.specs.Feeds.{tape_of}
use Rattle.engine_trait.specs.Accounts.{Account, plain_account, standing_tags, with_tags}
use Rattle.engine_trait.specs.Machine.{Machine}
use Rattle.engine_trait.specs.Runs.{turn}
use Rattle.engine_trait.specs.Standing.{Standing}
use Rattle.engine_trait.specs.declared.ends.Counts.{Counts}
use Rattle.policy_choice.specs.All.{AllState, AllTag, all, all_eq, choice_state}
use Rattle.tag_loader.specs.Start.{start_machine}
use Rattle.run_props.specs.EngineRuns.{EngineTrace, engine_along, unswept_along}
use Rattle.run_examples.specs.Example.{all_four, harts, image}

-- the machine at the start
abbrev pub start : Machine AllState AllTag
start = start_machine all (choice_state all_four image) image

-- and an engine there with so many words: the tags that stand somewhere have some, and no rule is kept yet, of at most sixteen
abbrev pub start_standing : ℕ → Standing AllState AllTag
start_standing limit = record {
  machine = start;
  account = record plain_account { table = with_tags all_eq [] (standing_tags all start); limit = limit; ways = 16 };
}

-- its run
abbrev pub engine_run : ℕ → EngineTrace AllState AllTag
engine_run limit = engine_along all_eq all (start_standing limit) (tape_of []) (map turn harts)

-- the account at the end, if it never sweeps
abbrev pub end_unswept : ℕ → Account AllTag
end_unswept limit = unswept_along all_eq all start (tape_of []) (map turn harts) (start_standing limit).account

abbrev pub counted : ℕ → ℕ → ℕ → ℕ → Counts
counted turns hits misses sweeps = record { turns = turns; hits = hits; misses = misses; sweeps = sweeps }
