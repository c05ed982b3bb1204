use Rattle.std.proofs.Common.{◌≡◌, ◌++◌, ◌∷◌, [], List, ℕ, codes, append_assoc, ap, sym, ◌∙◌, subst}
use Rattle.std.specs.Fmt.{decimal}
use Rattle.host_io.specs.Pieces.{out}
use Rattle.pump_words.specs.Texts.{hex8_text}
use Rattle.shell_turns.specs.Cuts.{PutsOut}
use Rattle.shell_run.specs.Lines.{block_line}
use Rattle.shell_run.proofs.texts.put_block.Goals as goal

pub returns-clause-puts : goal.returns-clause-puts
unfolding block_line
returns-clause-puts g c =
    let number = decimal c.from.result in
    let base = hex8_text c.args.block.1 in
    let words = decimal c.from-2.result in
    let name : List ℕ = codes "block " in
    let space : List ℕ = codes " " in
    let text : c.write_number-2.new.line.items ≡ name ++ decimal c.args.block.0 ++ space ++ base ++ space ++ decimal c.args.block.2
    = c.write_number-2.ensures.text
    ∙ ap (λ line. line ++ (space ++ words))
    (c.hex8.ensures.text ∙ ap (λ line. line ++ base)
    (c.write_text.ensures.text ∙ ap (λ line. line ++ space) (c.write_number.ensures.text ∙ ap (λ line. line ++ (name ++ number)) c.new-line.ensures)))
    ∙ sym (append_assoc (name ++ number ++ space ++ base) space words)
    ∙ (λ j. name ++ decimal (c.from.ensures j) ++ space ++ base ++ space ++ decimal (c.from-2.ensures j)) in
    let is : c.deref.result.now ≡ block_line c.args.block
    = c.deref.ensures.0 ∙ c.write_text-2.ensures.text ∙ ap (λ line. line ++ 10 ∷ []) text in
    subst (λ bytes. PutsOut (g.K.Sink.taken c.args.out.now) (g.K.Sink.taken c.put_line.new.out) (out bytes ∷ []) c.put_line.result) is c.put_line.ensures.puts
