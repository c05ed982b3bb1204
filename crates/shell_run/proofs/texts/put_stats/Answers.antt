use Rattle.std.proofs.Common.{◌≡◌, ◌++◌, ◌∷◌, [], List, ℕ, codes, append_assoc, ap, sym, ◌∙◌, subst}
use Rattle.std.specs.Fmt.{decimal}
use Rattle.host_io.specs.Pieces.{out}
use Rattle.shell_turns.specs.Cuts.{PutsOut}
use Rattle.shell_run.specs.Lines.{stats_line}
use Rattle.shell_run.proofs.texts.put_stats.Goals as goal

pub returns-clause-puts : goal.returns-clause-puts
unfolding stats_line
returns-clause-puts g c =
    let turns = decimal c.args.counts.turns in
    let hits = decimal c.args.counts.hits in
    let misses = decimal c.args.counts.misses in
    let first : List ℕ = codes "stats turns " in
    let second : List ℕ = codes " hits " in
    let third : List ℕ = codes " misses " in
    let text : c.write_number-3.new.line.items ≡ first ++ turns ++ second ++ hits ++ third ++ misses
    = c.write_number-3.ensures.text
    ∙ ap (λ line. line ++ (third ++ misses))
    (c.write_number-2.ensures.text ∙ ap (λ line. line ++ (second ++ hits)) (c.write_number.ensures.text ∙ ap (λ line. line ++ (first ++ turns)) c.new-line.ensures)
    ∙ sym (append_assoc (first ++ turns) second hits))
    ∙ sym (append_assoc (first ++ turns ++ second ++ hits) third misses) in
    let is : c.deref.result.now ≡ stats_line c.args.counts
    = c.deref.ensures.0 ∙ c.write_text.ensures.text ∙ ap (λ line. line ++ 10 ∷ []) text in
    subst (λ bytes. PutsOut (g.K.Sink.taken c.args.out.now) (g.K.Sink.taken c.put_line.new.out) (out bytes ∷ []) c.put_line.result) is c.put_line.ensures.puts
