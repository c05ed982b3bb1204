use Rattle.std.proofs.Common.{◌≡◌, ◌++◌, ◌∷◌, [], List, ℕ, codes, append_assoc, ap, ◌∙◌, subst}
use Rattle.host_io.specs.Pieces.{out}
use Rattle.pump_words.specs.Texts.{hex8_text}
use Rattle.shell_turns.specs.Cuts.{PutsOut}
use Rattle.shell_run.specs.Lines.{word_line}
use Rattle.shell_run.proofs.texts.put_word.Goals as goal

pub returns-clause-puts : goal.returns-clause-puts
unfolding word_line
returns-clause-puts g c =
    let address = hex8_text c.args.address in
    let word = hex8_text c.args.word in
    let space : List ℕ = codes " " in
    let text : c.hex8-2.new.line.items ≡ address ++ space ++ word
    = c.hex8-2.ensures.text
    ∙ ap (λ line. line ++ word) (c.write_text.ensures.text ∙ ap (λ line. line ++ space) (c.hex8.ensures.text ∙ ap (λ line. line ++ address) c.new-line.ensures))
    ∙ append_assoc address space word in
    let is : c.deref.result.now ≡ word_line c.args.address c.args.word
    = c.deref.ensures.0 ∙ c.write_text-2.ensures.text ∙ ap (λ line. line ++ 10 ∷ []) text in
    subst (λ bytes. PutsOut (g.K.Sink.taken c.args.out.now) (g.K.Sink.taken c.put_line.new.out) (out bytes ∷ []) c.put_line.result) is c.put_line.ensures.puts
