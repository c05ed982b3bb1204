use Rattle.std.proofs.Common.{◌≡◌, length, sym, arith}
use Rattle.std.specs.Str.Lines.{lines}
use Rattle.std.proofs.lemmas.Bool.Decides.{nat_tests}
use Rattle.std.proofs.lemmas.Result.{err_from_is_err_and}
use Rattle.asm_read.specs.Source.{source_of}
use Rattle.asm_read.proofs.SourceLemmas.{goes_on, is_done, starts, stops}
use Rattle.asm_read.proofs.source.read_source.Goals as goal

pub loop-rest-init : goal.loop-rest-init
loop-rest-init c = record {
  so_far = rw c.new-read.ensures.items (starts c.args.source.now);
  count = omega arith;
}

pub returns-in_err-line : goal.returns-in_err-line
returns-in_err-line c =
    let p = err_from_is_err_and c.from_residual.result c.from_residual.ensures.1 in
    rw (p.1, p.2) (stops c.in_err-line.field-0.0 c.loop-rest.read.items c.loop-rest.number c.next_line.result.0.now (lines c.loop-rest.rest.now) (lines c.next_line.result.1.now) (source_of c.args.source.now) c.next_line.ensures.lines (sym c.in_err-line.ensures) c.loop-rest.invariant.so_far)

pub loop-rest-preserved : goal.loop-rest-preserved
loop-rest-preserved c = record {
  so_far = rw c.in_ok-keep.ensures (goes_on c.loop-rest.read.items c.loop-rest.number c.next_line.result.0.now (lines c.loop-rest.rest.now) (lines c.next_line.result.1.now) c.in_ok-line.line (source_of c.args.source.now) c.next_line.ensures.lines (sym c.in_ok-line.ensures) c.loop-rest.invariant.so_far);
  count = omega (arith, c.next_line.ensures.shorter, c.loop-rest.invariant.count);
}

pub returns : goal.returns
returns c =
    let none : length c.loop-rest.rest.now ≡ 0 = grind (arith, nat_tests) in
    is_done c.loop-rest.read.items c.loop-rest.number c.loop-rest.rest.now (source_of c.args.source.now) none c.loop-rest.invariant.so_far
