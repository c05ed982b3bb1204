use Rattle.std.proofs.Common.{◌≡◌, ◌+◌, ◌-◌, replicate, subst, sym, arith}
use Rattle.asm_emit.specs.Draft.{Draft, with_words}
use Rattle.asm_emit.specs.Kept.{IsProtected}
use Rattle.asm_emit.specs.Seen.{draft_of}
use Rattle.asm_emit.proofs.DraftLemmas.{zero_put, zeros_done}
use Rattle.asm_emit.proofs.builder.Builder.put_zeros.Goals as goal

pub loop-preserved : goal.loop-preserved
loop-preserved c =
    let all = with_words (draft_of c.args.self.now) c.args.place (replicate c.args.count 0) in
    let left = zero_put (draft_of c.loop.self) c.loop.address c.args.count c.loop.counter all c.loop-test.true c.loop.invariant.left in
    record {
      left = subst (λ (d : Draft). with_words d (c.loop.address + 4) (replicate (c.args.count - (c.loop.counter + 1)) 0) ≡ all) (sym c.in_ok-put_word.ensures) left;
      protected = subst IsProtected (sym c.in_ok-put_word.ensures) c.loop.invariant.protected;
      reached = omega (arith, c.loop.invariant.reached, c.loop-test.true);
    }

pub returns : goal.returns
returns c =
    zeros_done (draft_of c.loop.self) c.loop.address c.args.count c.loop.counter (with_words (draft_of c.args.self.now) c.args.place (replicate c.args.count 0)) (omega (arith, c.loop-test.false)) c.loop.invariant.left
