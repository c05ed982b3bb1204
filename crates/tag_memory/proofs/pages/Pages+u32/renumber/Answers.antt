use Rattle.std.proofs.Common.{◌∙◌, ap, map, refl, slice_index}
use Rattle.tag_memory.specs.Pages.{items_of}
use Rattle.tag_memory.proofs.PagesLemmas.{items_by}
use Rattle.tag_memory.proofs.pages.Pages+u32.renumber.Goals as goal

pub returns-clause-items : goal.returns-clause-items
returns-clause-items c =
    let number = slice_index c.args.numbers.now in
    items_by number _ _ refl c.renumber_all.ensures.items refl c.number_at-self-inside.ensures ∙ ap (λ pages. map number (items_of pages)) c.self.view_is
