use Rattle.std.proofs.Common.{ap, ◌∙◌}
use Rattle.turn_steps.specs.Feeds.{byte_unread}
use Rattle.turn_steps.proofs.FeedLemmas.{tape_at, unread_at}
use Rattle.turn_steps.proofs.feed.Feed.unread.Goals as goal

pub returns : goal.returns
returns c = record {
  tape =
      ap (tape_at c.self.inside.bytes.items) c.saturating_sub-self-inside.ensures
      ∙ unread_at c.self.inside.bytes.items c.self.inside.place c.self.invariant ∙ ap byte_unread c.self.view_is;
}
