use Rattle.std.proofs.Common.{◌≡◌, ◌∙◌, ◌+◌, ◌-◌, ◌*◌, ◌%◌, ◌<◌, ◌≤◌, ◌==◌, ◌++◌, true, length, replicate, ap, arith, vec_len, vec_capacity}
use Rattle.std.proofs.lemmas.Bool.Decides.{nat_tests}
use Rattle.tag_memory.specs.Pages.{items_of}
use Rattle.tag_memory.proofs.PagesLemmas.{grown_are, grown_items, resized}
use Rattle.tag_memory.proofs.pages.Pages.with_pages.Goals as goal

pub invariant_of-self : goal.invariant_of-self
invariant_of-self g c =
    let end = c.args.end in
    let inside = c.self.inside in
    let more = c.div_ceil-pages.result in
    let ceil = c.div_ceil-pages.ensures in
    let count = ap (λ pages. pages.count) c.self.view_is in
    let full : inside.count % 64 ≡ 0 = omega (arith, count, c.requires.full) in
    let some : inside.count < end = omega (arith, count, c.requires.some) in
    let tight : 64 * more < end - inside.count + 64 = omega (arith, ceil) in
    let holds : end - inside.count ≤ 64 * more = omega (arith, ceil) in
    let place : c.len-place.result ≡ length inside.slots.items = omega (arith, c.len-place.ensures) in
    let one : (more == 1) ≡ true → more ≡ 1 = λ is. grind (arith, nat_tests, is) in
    let spare : length inside.slots.items + 64 + 64 * c.shared_with-shared.result ≤ vec_capacity c.resize.new.self =
    omega (arith, c.in_ok-reserve.ensures.ok, c.in_ok-reserve.ensures.len, c.in_ok-resize.ensures.capacity) in
    let known : c.len-known.result ≡ length inside.owned.items = omega (arith, c.len-known.ensures) in
    let owned = resized inside.owned.items c.resize-2.new.self.items (c.len-known.result + more) (vec_len inside.owned) more (more == 1)
    c.in_ok-resize-2.ensures.items (omega (arith, c.len-known.ensures)) (omega (arith, c.len-known.ensures)) in
    let slots = resized c.reserve.new.self.items c.resize.new.self.items (c.len-place.result + 64) (vec_len c.reserve.new.self) 64 c.args.item
    c.in_ok-resize.ensures.items (omega arith) (omega (arith, c.len-place.ensures, c.in_ok-reserve.ensures.len)) in
    let all_slots = slots ∙ ap (λ list. list ++ replicate 64 c.args.item) c.in_ok-reserve.ensures.items in
    grown_are _ end more c.len-place.result (vec_capacity c.resize.new.self) c.shared_with-shared.result c.args.item (more == 1) c.self.invariant full some
    c.requires.few tight holds place one c.shared_with-shared.ensures spare c.push_shifts.new.shifts.items c.resize-2.new.self.items
    c.resize.new.self.items c.in_ok-push_shifts.ensures owned all_slots

pub returns : goal.returns
returns g c =
    let end = c.args.end in
    let inside = c.self.inside in
    let more = c.div_ceil-pages.result in
    let ceil = c.div_ceil-pages.ensures in
    let count = ap (λ pages. pages.count) c.self.view_is in
    let full : inside.count % 64 ≡ 0 = omega (arith, count, c.requires.full) in
    let some : inside.count < end = omega (arith, count, c.requires.some) in
    let tight : 64 * more < end - inside.count + 64 = omega (arith, ceil) in
    let holds : end - inside.count ≤ 64 * more = omega (arith, ceil) in
    let place : c.len-place.result ≡ length inside.slots.items = omega (arith, c.len-place.ensures) in
    let one : (more == 1) ≡ true → more ≡ 1 = λ is. grind (arith, nat_tests, is) in
    let spare : length inside.slots.items + 64 + 64 * c.shared_with-shared.result ≤ vec_capacity c.resize.new.self =
    omega (arith, c.in_ok-reserve.ensures.ok, c.in_ok-reserve.ensures.len, c.in_ok-resize.ensures.capacity) in
    let known : c.len-known.result ≡ length inside.owned.items = omega (arith, c.len-known.ensures) in
    let owned = resized inside.owned.items c.resize-2.new.self.items (c.len-known.result + more) (vec_len inside.owned) more (more == 1)
    c.in_ok-resize-2.ensures.items (omega (arith, c.len-known.ensures)) (omega (arith, c.len-known.ensures)) in
    let slots = resized c.reserve.new.self.items c.resize.new.self.items (c.len-place.result + 64) (vec_len c.reserve.new.self) 64 c.args.item
    c.in_ok-resize.ensures.items (omega arith) (omega (arith, c.len-place.ensures, c.in_ok-reserve.ensures.len)) in
    let all_slots = slots ∙ ap (λ list. list ++ replicate 64 c.args.item) c.in_ok-reserve.ensures.items in
    grown_items _ end more c.len-place.result (vec_capacity c.resize.new.self) c.shared_with-shared.result c.args.item (more == 1) c.self.invariant full some
    c.requires.few tight holds place one c.shared_with-shared.ensures spare c.push_shifts.new.shifts.items c.resize-2.new.self.items
    c.resize.new.self.items c.in_ok-push_shifts.ensures owned all_slots
    ∙ ap (λ pages. items_of pages ++ replicate (end - pages.count) c.args.item) c.self.view_is
