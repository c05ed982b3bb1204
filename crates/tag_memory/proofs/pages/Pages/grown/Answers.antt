use Rattle.tag_memory.proofs.PagesLemmas.{all_added, if_ok}
use Rattle.tag_memory.proofs.pages.Pages.grown.Goals as goal

pub returns-then-self-end : goal.returns-then-self-end
returns-then-self-end g c =
    let filled = c.fill_last.ensures in
    if_ok (λ pages is. all_added _ _ _ c.args.self.count c.fill_last.new.self.count c.args.end c.args.item filled.items is filled.more filled.most)
    c.with_pages.result c.with_pages.ensures
