use Rattle.std.proofs.Common.{◌∙◌, ◌*◌, ◌<◌, ap, arith, length}
use Rattle.std.specs.Bool.{then_some}
use Rattle.tag_memory.specs.Pages.{items_of}
use Rattle.tag_memory.specs.Ram.{only_one, page_tags}
use Rattle.tag_memory.proofs.RamLemmas.{page_one}
use Rattle.tag_memory.proofs.ram.Ram.page_tag.Goals as goal

pub returns : goal.returns
returns g c =
    let eq = g.T.PartialEq.eq in
    let list = items_of c.self.inside.tags in
    let first = 64 * c.args.page in
    let tag = c.at-tag.result.now in
    let lt : first < length list = omega (arith, c.requires, c.self.invariant.tagged, ap (λ ram. length ram.words) c.self.view_is) in
    c.then_some.ensures
    ∙ ap (λ b. then_some b tag) c.are_all.ensures
    ∙ page_one eq list first c.min-end.result tag lt (omega (arith, c.min-end.ensures, c.len.ensures.length)) (c.at-tag.ensures tag)
    ∙ ap (λ ram. only_one eq (page_tags ram c.args.page)) c.self.view_is
