use Rattle.std.proofs.Common.{append_assoc, ap, ◌∙◌, ◌++◌, ℕ, List, codes}
use Rattle.pump_words.specs.Texts.{hex8_text}
use Rattle.rv_decode.specs.Decoding.{instr_of_word}
use Rattle.asm_show.specs.Instructions.{text_at}
use Rattle.asm_show.specs.Listing.{listing_line}
use Rattle.asm_show.proofs.listing.list_word.Goals as goal

pub returns-clause-text : goal.returns-clause-text
unfolding listing_line
returns-clause-text c =
    let prefix = c.args.line.now.items in
    let address = hex8_text c.args.address in
    let word = hex8_text c.args.word in
    let text = text_at c.args.address c.args.word (instr_of_word c.args.word) in
    let space : List ℕ = codes " " in
    let end : List ℕ = codes "\n" in
    c.write_text-3.ensures.text
    ∙ ap (λ line. line ++ end) (c.show_instr.ensures.text ∙ ap (λ line. line ++ text)
    (c.write_text-2.ensures.text ∙ ap (λ line. line ++ space)
    (c.hex8-2.ensures.text ∙ ap (λ line. line ++ word) (c.write_text.ensures.text ∙ ap (λ line. line ++ space) c.hex8.ensures.text))))
    ∙ append_assoc ((((prefix ++ address) ++ space) ++ word) ++ space) text end
    ∙ append_assoc (((prefix ++ address) ++ space) ++ word) space (text ++ end)
    ∙ append_assoc ((prefix ++ address) ++ space) word (space ++ (text ++ end))
    ∙ append_assoc (prefix ++ address) space (word ++ (space ++ (text ++ end)))
    ∙ append_assoc prefix address (space ++ (word ++ (space ++ (text ++ end))))
