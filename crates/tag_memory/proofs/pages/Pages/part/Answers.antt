use Rattle.std.proofs.Common.{◌≡◌, ◌<◌, ap, arith, length, ◌∙◌, vec_capacity, slice_index_or, true}
use Rattle.tag_memory.specs.Pages.{first_slot, items_of}
use Rattle.tag_memory.proofs.PagesLemmas.{one_owned, owning_are, owning_items}
use Rattle.tag_memory.proofs.pages.Pages.part.Goals as goal

pub copy_place-requires-clause-room : goal.copy_place-requires-clause-room
copy_place-requires-clause-room g c =
    let shared = ap (λ pages. slice_index_or pages.owned c.args.page true) c.self.view_is ∙ c.requires.shared in
    let one = one_owned c.self.inside.owned.items c.args.page shared in
    omega (arith, one, c.self.invariant.counted, c.self.invariant.spare)

pub overflow_sub-self : goal.overflow_sub-self
overflow_sub-self g c =
    let shared = ap (λ pages. slice_index_or pages.owned c.args.page true) c.self.view_is ∙ c.requires.shared in
    let one = one_owned c.self.inside.owned.items c.args.page shared in
    omega (arith, one, c.self.invariant.counted)

pub invariant_of-self : goal.invariant_of-self
invariant_of-self g c =
    let inside = c.self.inside in
    let shared = ap (λ pages. slice_index_or pages.owned c.args.page true) c.self.view_is ∙ c.requires.shared in
    let count = ap (λ pages. length pages.shifts) c.self.view_is in
    let within : c.args.page < length inside.shifts.items = omega (arith, count, c.requires.within) in
    let end : c.len-place.result ≡ length inside.slots.items = omega (arith, c.len-place.ensures) in
    let at = c.first_slot-from.ensures ∙ ap (λ shifts. first_slot shifts c.args.page) c.deref.ensures.value in
    owning_are _ c.args.page c.len-place.result c.first_slot-from.result (vec_capacity c.copy_place.new.slots) c.copy_place.new.slots.items
    c.self.invariant within shared c.copy_place.ensures.capacity end at c.copy_place.ensures.items

pub returns-clause-items : goal.returns-clause-items
returns-clause-items g c =
    let inside = c.self.inside in
    let shared = ap (λ pages. slice_index_or pages.owned c.args.page true) c.self.view_is ∙ c.requires.shared in
    let count = ap (λ pages. length pages.shifts) c.self.view_is in
    let within : c.args.page < length inside.shifts.items = omega (arith, count, c.requires.within) in
    let end : c.len-place.result ≡ length inside.slots.items = omega (arith, c.len-place.ensures) in
    let at = c.first_slot-from.ensures ∙ ap (λ shifts. first_slot shifts c.args.page) c.deref.ensures.value in
    owning_items _ c.args.page c.len-place.result c.first_slot-from.result (vec_capacity c.copy_place.new.slots) c.copy_place.new.slots.items
    c.self.invariant within shared c.copy_place.ensures.capacity end at c.copy_place.ensures.items
    ∙ ap items_of c.self.view_is
