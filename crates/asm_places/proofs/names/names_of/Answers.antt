use Rattle.std.proofs.Common.{◌≡◌, ◌+◌, ◌-◌, ◌<◌, ap, length, ◌∙◌, arith}
use Rattle.std.specs.FinMap.{get}
use Rattle.asm_places.proofs.NameLemmas.{names_more, next_more, no_name, no_word}
use Rattle.asm_places.proofs.names.names_of.Goals as goal

pub loop-left-init : goal.loop-left-init
loop-left-init c = record {
  within = omega arith;
  word = no_word c.args.lines.now c.args.layout.now.places.items c.args.layout.now.end;
  given = λ name. ap (λ names. get names name) c.new-names.ensures ∙ no_name c.args.lines.now c.args.layout.now.places.items c.args.layout.now.end name;
}

pub loop-left-preserved : goal.loop-left-preserved
loop-left-preserved c =
    let left = c.loop-left.left in
    let so_far = c.loop-left.invariant in
    let one : c.loop-left.left ≡ c.loop-left.left - 1 + 1 = omega (arith, c.loop-left-test.true) in
    let below : c.loop-left.left - 1 < length c.args.lines.now = omega (arith, c.loop-left-test.true, so_far.within) in
    let word = c.next_word-next.ensures ∙ next_more c.args.lines.now c.args.layout.now.places.items c.args.layout.now.end left (left - 1) c.index-lines-left.result c.index.result.now c.loop-left.next one below c.requires c.index-lines-left.is c.index.ensures so_far.word in
    record {
      within = omega (arith, so_far.within);
      word = word;
      given = λ name. ap (λ names. get names name) c.in_ok-give_label.ensures ∙ names_more c.args.lines.now c.args.layout.now.places.items c.args.layout.now.end left (left - 1) c.index-lines-left.result c.index.result.now c.next_word-next.result c.loop-left.names one below c.requires c.index-lines-left.is c.index.ensures word so_far.given name;
    }
