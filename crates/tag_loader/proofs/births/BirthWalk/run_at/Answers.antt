use Rattle.std.proofs.Common.{◌≡◌, ◌<◌, ap, arith, min, sym, ◌∙◌}
use Rattle.std.proofs.lemmas.Grind.{common_steps}
use Rattle.std.specs.Option.{is_some}
use Rattle.image_format.specs.Picture.{Picture}
use Rattle.tag_loader.specs.Births.{birth_by, birth_of, id_of, lies_in_heap}
use Rattle.tag_loader.specs.Walks.{birth_end, from_on}
use Rattle.tag_loader.proofs.SortedLemmas.{labels_found}
use Rattle.tag_loader.proofs.births.BirthWalk.run_at.Goals as goal

pub returns-clause-told : goal.returns-clause-told
unfolding birth_of
returns-clause-told c = λ at from below.
    let in_owner : at < c.run_at-owner.result.end = grind (arith, below, c.min.ensures, c.min-2.ensures, c.min-3.ensures) in
    let in_code : at < c.run_at-code.result.end = grind (arith, below, c.min.ensures, c.min-2.ensures, c.min-3.ensures) in
    let in_label : at < c.run_at-label.result.end = grind (arith, below, c.min.ensures, c.min-2.ensures, c.min-3.ensures) in
    let in_heap : at < c.heap_run-heap.result.end = grind (arith, below, c.min.ensures, c.min-2.ensures, c.min-3.ensures) in
    let code = ap is_some (c.run_at-code.ensures.told at from in_code) ∙ sym c.is_some.ensures in
    let label = sym (labels_found at c.self.inside.labels) ∙ c.run_at-label.ensures.told at from in_label in
    ap (λ (g : Picture). birth_of g at) (sym c.self.view_is)
    ∙ (λ j. birth_by (c.run_at-owner.ensures.told at from in_owner j) (code j) (id_of (label j)) (c.heap_run-heap.ensures.told at from in_heap j))
    ∙ sym c.birth_from.ensures

pub returns-clause-later : goal.returns-clause-later
unfolding birth_of
returns-clause-later c = λ at from.
    let label =
    sym (labels_found at c.run_at-label.new.self) ∙ c.run_at-label.ensures.later at from ∙ labels_found at c.self.inside.labels in
    (λ j. birth_by (c.run_at-owner.ensures.later at from j) (is_some (c.run_at-code.ensures.later at from j)) (id_of (label j)) (lies_in_heap c.self.inside.image.now at))
    ∙ ap (λ (g : Picture). birth_of g at) c.self.view_is

pub returns-clause-left : goal.returns-clause-left
unfolding from_on
returns-clause-left c =
    (λ j. record c.self.inside.image.now {
      compartments = c.run_at-owner.ensures.left j;
      code = c.run_at-code.ensures.left j;
      labels = c.run_at-label.ensures.left j;
    })
    ∙ ap (λ (g : Picture). from_on g c.args.address) c.self.view_is

pub returns-clause-end : goal.returns-clause-end
unfolding birth_end from_on
returns-clause-end c =
    let least : c.min-3.result ≡ min (min (min c.run_at-owner.result.end c.run_at-code.result.end) c.run_at-label.result.end) c.heap_run-heap.result.end =
    grind (arith, common_steps, c.min.ensures, c.min-2.ensures, c.min-3.ensures) in
    least
    ∙ (λ j. min (min (min (c.run_at-owner.ensures.end j) (c.run_at-code.ensures.end j)) (c.run_at-label.ensures.end j)) (c.heap_run-heap.ensures.end j))
    ∙ ap (λ (g : Picture). birth_end (from_on g c.args.address) c.args.address) c.self.view_is
