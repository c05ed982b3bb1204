use Rattle.std.proofs.Common.{◌≡◌, ◌++◌, ◌∷◌, [], List, ℕ, codes, append_assoc, ap, ◌∙◌, subst}
use Rattle.host_io.specs.Pieces.{out}
use Rattle.pump_words.specs.Texts.{hex8_text}
use Rattle.shell_turns.specs.Cuts.{PutsOut}
use Rattle.shell_run.specs.Lines.{or_dash, pc_line}
use Rattle.shell_run.proofs.texts.put_pc.Goals as goal

pub returns-clause-puts : goal.returns-clause-puts
unfolding pc_line
returns-clause-puts g c =
    let pc = hex8_text c.args.pc in
    let tag = or_dash (g.P.Policy.model.text c.args.policy.now c.args.tag) in
    let name : List ℕ = codes "pc " in
    let space : List ℕ = codes " " in
    let text : c.write_tag.new.line.items ≡ name ++ pc ++ space ++ tag
    = c.write_tag.ensures.text
    ∙ ap (λ line. line ++ tag) (c.write_text-2.ensures.text ∙ ap (λ line. line ++ space) (c.hex8.ensures.text ∙ ap (λ line. line ++ pc) (c.write_text.ensures.text ∙ ap (λ line. line ++ name) c.new-line.ensures)))
    ∙ append_assoc (name ++ pc) space tag ∙ append_assoc name pc (space ++ tag) in
    let is : c.deref.result.now ≡ pc_line c.args.pc (g.P.Policy.model.text c.args.policy.now c.args.tag)
    = c.deref.ensures.0 ∙ c.write_text-3.ensures.text ∙ ap (λ line. line ++ 10 ∷ []) text in
    subst (λ bytes. PutsOut (g.K.Sink.taken c.args.out.now) (g.K.Sink.taken c.put_line.new.out) (out bytes ∷ []) c.put_line.result) is c.put_line.ensures.puts
