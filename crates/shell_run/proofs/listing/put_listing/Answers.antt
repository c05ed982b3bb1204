use Rattle.std.proofs.Common.{refl, subst, sym, ◌∙◌}
use Rattle.std.proofs.lemmas.Result.{err_from_is_err_and}
use Rattle.shell_turns.specs.Cuts.{PutsOut}
use Rattle.shell_turns.proofs.PutLemmas.{done, puts_nothing}
use Rattle.shell_run.specs.Listings.{line_of}
use Rattle.shell_run.proofs.ListingLemmas.{listed_goes_on, listed_is_cut, listed_none}
use Rattle.shell_run.proofs.listing.put_listing.Goals as goal

pub loop-k-init : goal.loop-k-init
loop-k-init g c =
    let f = line_of g.E.P.Policy.model (g.E.Engine.standing c.args.engine.now).machine c.args.listing in
    record {
      puts = subst (λ pieces. PutsOut (g.K.Sink.taken c.args.out.now) (g.K.Sink.taken c.args.out.now) pieces done) (sym (listed_none f)) (puts_nothing (g.K.Sink.taken c.args.out.now) tt);
      faults = refl;
    }

pub returns-in_err-put_listed-clause-puts : goal.returns-in_err-put_listed-clause-puts
returns-in_err-put_listed-clause-puts g c =
    let f = line_of g.E.P.Policy.model (g.E.Engine.standing c.args.engine.now).machine c.args.listing in
    let p = err_from_is_err_and c.from_residual.result c.from_residual.ensures.1 in
    rw p.1
    (listed_is_cut f (g.K.Sink.taken c.args.out.now) (g.K.Sink.taken c.loop-k.out) (g.K.Sink.taken c.put_listed.new.out) c.loop-k.k c.loop-k.invariant.puts
    c.args.count c.loop-k-test.true (Unit {0}) (Unit {0}) c.in_err-put_listed.field-0.0 p.0 c.in_err-put_listed.ensures.puts)

pub loop-k-preserved : goal.loop-k-preserved
loop-k-preserved g c =
    let f = line_of g.E.P.Policy.model (g.E.Engine.standing c.args.engine.now).machine c.args.listing in
    record {
      puts =
          listed_goes_on f (g.K.Sink.taken c.args.out.now) (g.K.Sink.taken c.loop-k.out) (g.K.Sink.taken c.put_listed.new.out) c.loop-k.k c.loop-k.invariant.puts
          c.in_ok-put_listed.ensures.puts;
      faults = c.in_ok-put_listed.ensures.cause ∙ c.loop-k.invariant.faults;
    }
