use Rattle.std.proofs.Common.{◌≡◌, ℕ, ◌+◌, List, length, drop, sym, ap, subst, ◌∙◌, arith}
use Rattle.std.specs.FinMap as map
use Rattle.std.proofs.lemmas.List.{length-drop, length-replicate, nil_from_length}
use Rattle.std.proofs.lemmas.Result.{err_from_is_err_and}
use Rattle.image_format.specs.declared.version.Version.{Version}
use Rattle.asm_emit.specs.Assembled.{additions_of, draft_with}
use Rattle.asm_emit.specs.Draft.{Draft, empty_draft}
use Rattle.asm_places.specs.Counts.{count_in}
use Rattle.asm_emit.specs.Kept.{IsAddition, IsDraft, place_or}
use Rattle.asm_emit.specs.Seen.{draft_of}
use Rattle.asm_emit.proofs.DraftLemmas.{addition_kept, empty_kept, entries_kept, goes_on, has_room, is_done, stops, turn, version_kept}
use Rattle.asm_emit.proofs.assembling.builder_of.Goals as goal

pub loop-i-init : goal.loop-i-init
loop-i-init c =
    let layout = c.args.layout.now in
    let lines = c.args.lines.now in
    let made = c.in_ok-builder.ensures in
    record {
      so_far = ap (λ (d : Draft). draft_with d (additions_of layout.version layout.harts layout.ram (map.get c.args.names.now) lines layout.places.items)) made;
      version = ap (λ (d : Draft). d.version) made;
      entered = ap (λ (d : Draft). length d.entries) made ∙ length-replicate layout.harts 0;
      kept = subst (λ (d : Draft). IsDraft layout.ram (place_or layout.ram layout.places.items) d) (sym made) (empty_kept layout.version layout.harts layout.ram (place_or layout.ram layout.places.items) c.requires.ram);
      placed = c.requires.placed;
    }

pub returns-in_err-addition-clause-value : goal.returns-in_err-addition-clause-value
returns-in_err-addition-clause-value c =
    let layout = c.args.layout.now in
    let lines = c.args.lines.now in
    let places = layout.places.items in
    let i = c.loop-i.i in
    let names = map.get c.args.names.now in
    let t = turn layout.ram lines places i c.index-lines-i.result c.index-place.result.now c.loop-i-test.true c.index-lines-i.is c.index-place.ensures c.requires.count c.loop-i.invariant.placed in
    let p = err_from_is_err_and c.from_residual-in_err-addition.result c.from_residual-in_err-addition.ensures.1 in
    let total = draft_with (empty_draft layout.version layout.harts) (additions_of layout.version layout.harts layout.ram names lines places) in
    rw (p.1, p.2)
    (stops layout.version layout.harts layout.ram names c.in_err-addition.field-0.0 (draft_of c.loop-i.builder) (drop i lines) (drop i places) c.index-lines-i.result c.index-place.result.now (drop (i + 1) lines) (drop (i + 1) places) total t.line_first t.place_first (sym c.in_err-addition.ensures.value) c.loop-i.invariant.so_far)

pub add-requires-clause-room : goal.add-requires-clause-room
add-requires-clause-room c =
    let layout = c.args.layout.now in
    let i = c.loop-i.i in
    let line = c.index-lines-i.result in
    let place = c.index-place.result.now in
    let t = turn layout.ram c.args.lines.now layout.places.items i line place c.loop-i-test.true c.index-lines-i.is c.index-place.ensures c.requires.count c.loop-i.invariant.placed in
    has_room layout.version layout.harts layout.ram place (place_or layout.ram (drop (i + 1) layout.places.items)) (length c.loop-i.builder.entries.items) (count_in line.statement) c.in_ok-addition.addition t.ends t.inside c.requires.ram c.loop-i.invariant.entered c.in_ok-addition.ensures.fits

pub add-requires-clause-protected : goal.add-requires-clause-protected
add-requires-clause-protected c = c.loop-i.invariant.kept.protection

pub loop-i-preserved : goal.loop-i-preserved
loop-i-preserved c =
    let layout = c.args.layout.now in
    let lines = c.args.lines.now in
    let places = layout.places.items in
    let i = c.loop-i.i in
    let names = map.get c.args.names.now in
    let line = c.index-lines-i.result in
    let place = c.index-place.result.now in
    let addition = c.in_ok-addition.addition in
    let draft = draft_of c.loop-i.builder in
    let next = place_or layout.ram (drop (i + 1) places) in
    let t = turn layout.ram lines places i line place c.loop-i-test.true c.index-lines-i.is c.index-place.ensures c.requires.count c.loop-i.invariant.placed in
    let total = draft_with (empty_draft layout.version layout.harts) (additions_of layout.version layout.harts layout.ram names lines places) in
    let on = goes_on layout.version layout.harts layout.ram names draft (drop i lines) (drop i places) line place (drop (i + 1) lines) (drop (i + 1) places) addition total t.line_first t.place_first (sym c.in_ok-addition.ensures.value) c.loop-i.invariant.so_far in
    let here : IsDraft layout.ram place draft = subst (λ (ps : List ℕ). IsDraft layout.ram (place_or layout.ram ps) draft) t.place_first c.loop-i.invariant.kept in
    let fits = subst (λ (v : Version). IsAddition v layout.harts layout.ram (count_in line.statement) addition) (sym c.loop-i.invariant.version) c.in_ok-addition.ensures.fits in
    let kept = addition_kept layout.harts layout.ram place next (count_in line.statement) draft addition t.aligned t.ends t.inside fits here in
    record {
      so_far = subst (λ (d : Draft). draft_with d (additions_of layout.version layout.harts layout.ram names (drop (i + 1) lines) (drop (i + 1) places)) ≡ total) (sym c.in_ok-add.ensures) on;
      version = ap (λ (d : Draft). d.version) c.in_ok-add.ensures ∙ version_kept draft place addition ∙ c.loop-i.invariant.version;
      entered = ap (λ (d : Draft). length d.entries) c.in_ok-add.ensures ∙ entries_kept draft place addition ∙ c.loop-i.invariant.entered;
      kept = subst (λ (d : Draft). IsDraft layout.ram next d) (sym c.in_ok-add.ensures) kept;
      placed = t.placed;
    }

pub returns-clause-value : goal.returns-clause-value
returns-clause-value c =
    let layout = c.args.layout.now in
    let lines = c.args.lines.now in
    let places = layout.places.items in
    let i = c.loop-i.i in
    let names = map.get c.args.names.now in
    let none : length (drop i lines) ≡ 0 = omega (arith, length-drop i lines, c.loop-i-test.false) in
    is_done layout.version layout.harts layout.ram names (draft_of c.loop-i.builder) (drop i lines) (drop i places) (draft_with (empty_draft layout.version layout.harts) (additions_of layout.version layout.harts layout.ram names lines places)) none c.loop-i.invariant.so_far

pub returns-clause-harts : goal.returns-clause-harts
returns-clause-harts c = c.loop-i.invariant.entered

pub returns-clause-kept : goal.returns-clause-kept
returns-clause-kept c =
    let layout = c.args.layout.now in
    let left = drop c.loop-i.i layout.places.items in
    let none : length left ≡ 0 = omega (arith, length-drop c.loop-i.i layout.places.items, c.requires.count, c.loop-i-test.false) in
    subst (λ (ps : List ℕ). IsDraft layout.ram (place_or layout.ram ps) (draft_of c.loop-i.builder)) (nil_from_length left none) c.loop-i.invariant.kept
