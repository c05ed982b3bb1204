use Rattle.std.proofs.Common.{rules, arith, ◌≡◌, ◌≤◌, ◌+◌, refl, subst, sym, [], ◌∷◌, ◌++◌, ◌/◌, ◌∙◌}
use Rattle.std.proofs.lemmas.Result.{err_from_is_err_and}
use Rattle.host_io.specs.Pieces.{out}
use Rattle.tag_memory.specs.Ram.{ram_bytes}
use Rattle.shell_turns.specs.Cuts.{PutsOut}
use Rattle.shell_turns.proofs.PutLemmas.{done, puts_nothing, puts_on}
use Rattle.shell_run.specs.Lines.{block_line}
use Rattle.shell_run.proofs.ListingLemmas.{blocks_are_cut, blocks_begin, blocks_end, blocks_go_on, blocks_stop}
use Rattle.shell_run.proofs.listing.put_blocks.Goals as goal

pub loop-place-init : goal.loop-place-init
loop-place-init g c = record {
  pieces = [];
  way = blocks_begin g.E.P.Policy.model (g.E.Engine.standing c.args.engine.now).machine;
  puts = puts_nothing (g.K.Sink.taken c.args.out.now) tt;
  faults = refl;
}

pub returns-in_err-put_block-clause-puts : goal.returns-in_err-put_block-clause-puts
returns-in_err-put_block-clause-puts g c =
    let m = g.E.P.Policy.model in
    let s = (g.E.Engine.standing c.args.engine.now).machine in
    let p = err_from_is_err_and c.from_residual.result c.from_residual.ensures.1 in
    rw p.1
    (blocks_are_cut m s c.loop-place.place c.loop-place.invariant.pieces c.loop-place.invariant.way (ram_bytes s.core.ram / 4) c.in-Some.block (search rules)
    (search rules) (g.K.Sink.taken c.args.out.now) (g.K.Sink.taken c.loop-place.out) (g.K.Sink.taken c.put_block.new.out) (Unit {0}) (Unit {0})
    c.in_err-put_block.field-0.0 p.0 c.loop-place.invariant.puts c.in_err-put_block.ensures.puts)

pub loop-place-preserved : goal.loop-place-preserved
loop-place-preserved g c =
    let m = g.E.P.Policy.model in
    let s = (g.E.Engine.standing c.args.engine.now).machine in
    record {
      pieces = c.loop-place.invariant.pieces ++ out (block_line c.in-Some.block) ∷ [];
      way = blocks_go_on m s c.loop-place.place c.loop-place.invariant.pieces c.loop-place.invariant.way (c.loop-place.place + 1) c.in-Some.block (search rules);
      puts =
          puts_on (g.K.Sink.taken c.args.out.now) (g.K.Sink.taken c.loop-place.out) (g.K.Sink.taken c.put_block.new.out) c.loop-place.invariant.pieces
          (out (block_line c.in-Some.block) ∷ []) tt done c.loop-place.invariant.puts c.in_ok-put_block.ensures.puts;
      faults = c.in_ok-put_block.ensures.cause ∙ c.loop-place.invariant.faults;
    }

pub returns-after-loop-place-clause-puts : goal.returns-after-loop-place-clause-puts
returns-after-loop-place-clause-puts g c =
    let m = g.E.P.Policy.model in
    let s = (g.E.Engine.standing c.args.engine.now).machine in
    let last : ram_bytes s.core.ram / 4 ≡ c.loop-place.place = grind (arith, c.loop-place-test.false, c.loop-place.auto.place-end, c.ram-place-end.ensures.ram) in
    let all = blocks_end m s c.loop-place.place c.loop-place.invariant.pieces c.loop-place.invariant.way (ram_bytes s.core.ram / 4) last in
    subst (λ pieces. PutsOut (g.K.Sink.taken c.args.out.now) (g.K.Sink.taken c.loop-place.out) pieces done) (sym all) c.loop-place.invariant.puts

pub returns-in_default-clause-puts : goal.returns-in_default-clause-puts
returns-in_default-clause-puts g c =
    let m = g.E.P.Policy.model in
    let s = (g.E.Engine.standing c.args.engine.now).machine in
    let within : c.loop-place.place ≤ ram_bytes s.core.ram / 4 = grind (arith, c.loop-place-test.true, c.ram-place-end.ensures.ram) in
    let all = blocks_stop m s c.loop-place.place c.loop-place.invariant.pieces c.loop-place.invariant.way (ram_bytes s.core.ram / 4) within (search rules) in
    subst (λ pieces. PutsOut (g.K.Sink.taken c.args.out.now) (g.K.Sink.taken c.loop-place.out) pieces done) (sym all) c.loop-place.invariant.puts
