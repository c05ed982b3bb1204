use Rattle.std.proofs.Common.{ap, ◌∙◌, ◌++◌, ◌∷◌, []}
use Rattle.tag_memory.specs.Pages.{items_of}
use Rattle.tag_memory.proofs.PagesLemmas.{item_more}
use Rattle.tag_memory.proofs.pages.Pages.push_within.Goals as goal

pub returns-clause-items : goal.returns-clause-items
returns-clause-items g c = c.write.ensures.items ∙ item_more _ c.args.item ∙ ap (λ pages. items_of pages ++ c.args.item ∷ []) c.self.view_is
