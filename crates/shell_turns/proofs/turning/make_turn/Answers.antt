use Rattle.std.proofs.Common.{◌∙◌, ◌++◌, ℕ, ap, inr, refl, subst, sym}
use Rattle.engine_trait.specs.declared.ends.TurnEnd.{TurnEnd}
use Rattle.shell_turns.specs.Cuts.{PutsOut}
use Rattle.shell_turns.specs.Told.{break_pieces, end_pieces, is_break}
use Rattle.shell_turns.specs.Turns.{pc_after, step_pieces}
use Rattle.shell_turns.proofs.PutLemmas.{gives, puts_as}
use Rattle.shell_turns.proofs.turning.make_turn.Goals as goal

pub returns-in-Memory-clause-cut : goal.returns-in-Memory-clause-cut
returns-in-Memory-clause-cut g c = inr (record { engine = c.turn-end.ensures.memory c.in-Memory.is; silent = refl })

pub returns-in-Ok : goal.returns-in-Ok
returns-in-Ok g c =
    let old = g.K.Sink.taken c.args.out.now in
    let new = g.K.Sink.taken c.tell.new.out in
    let breaks = c.args.breaks.now in
    let h = c.args.h in
    let end = c.turn-end.result in
    let made : TurnEnd × ℕ = (end, c.pc-pc.result) in
    let told = λ (pc : ℕ). end_pieces h end ++ break_pieces (is_break breaks pc end) h pc in
    let is = c.turn-end.ensures.step c.in_default.not-Memory in
    let puts = puts_as old new (told c.pc-pc.result) c.in-Ok.field-0 made c.in-Ok.ensures.puts in
    record {
      ended = ap (λ s. s.ended) (sym is);
      pc = c.pc-pc.ensures.pc ∙ ap (pc_after h) (sym is);
      standing = ap (λ s. s.standing) (sym is);
      feed = ap (λ s. s.feed) (sym is);
      harts = c.turn-end.ensures.harts;
      puts =
          subst (λ s. PutsOut old new (step_pieces breaks h s) (gives made)) (sym is)
          (subst (λ pc. PutsOut old new (told pc) (gives made)) c.pc-pc.ensures.pc puts);
      cause = c.in-Ok.ensures.cause;
      cut = tt;
    }
