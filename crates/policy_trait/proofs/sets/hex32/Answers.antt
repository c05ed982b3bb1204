use Rattle.std.proofs.Common.{◌≡◌, ◌++◌, ℕ, ◌/◌, ◌%◌, ◌^◌, List, append_assoc}
use Rattle.pump_words.specs.Texts.{hex8_text}
use Rattle.policy_trait.proofs.sets.hex32.Goals as goal

joined : (old a b c d : List ℕ) → old ++ a ++ b ++ c ++ d ≡ old ++ (a ++ b ++ c ++ d)
joined old a b c d = simp append_assoc

-- src/sets.rt:81:1
pub returns-clause-text : goal.returns-clause-text
returns-clause-text c =
    let bits = c.args.bits in
    rw (c.hex8-4.ensures.text, c.hex8-3.ensures.text, c.hex8-2.ensures.text, c.hex8.ensures.text)
    (joined c.args.to.now.items (hex8_text (bits / 2 ^ 96)) (hex8_text (bits / 2 ^ 64 % 2 ^ 32)) (hex8_text (bits / 2 ^ 32 % 2 ^ 32)) (hex8_text (bits % 2 ^ 32)))
