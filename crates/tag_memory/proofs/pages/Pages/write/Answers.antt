use Rattle.std.proofs.Common.{◌/◌, ◌<◌, ap, arith, ◌∙◌, slice_index_or, slice_set, false}
use Rattle.tag_memory.specs.Pages.{items_of, slot_of}
use Rattle.tag_memory.proofs.PagesLemmas.{items_set}
use Rattle.tag_memory.proofs.pages.Pages.write.Goals as goal

pub returns-clause-items : goal.returns-clause-items
returns-clause-items g c =
    let n = c.args.n in
    let inside = c.self.inside in
    let count = ap (λ pages. pages.count) c.self.view_is in
    let lt : n < inside.count = omega (arith, count, c.own.ensures.count, c.requires) in
    let owned = ap (λ pages. slice_index_or pages.owned (n / 64) false) c.self.view_is ∙ c.own.ensures.owned in
    let at = c.slot_of-slot.ensures ∙ ap (λ shifts. slot_of shifts n) c.deref.ensures.value in
    items_set _ n c.slot_of-slot.result c.args.item c.self.invariant lt owned at
    ∙ ap (λ items. slice_set items n c.args.item) (ap items_of c.self.view_is ∙ c.own.ensures.items)
