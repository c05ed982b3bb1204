-- The texts of statements, each as its name and what stands behind the space: so they are cut.
use Rattle.std.proofs.Common.{◌≡◌, ℕ, [], ◌∷◌, ◌++◌, ap, ◌∙◌}
use Rattle.std.proofs.lemmas.List.{append_assoc}
use Rattle.asm_show.specs.Operands as shown
use Rattle.asm_show.specs.Statements as texts
use Rattle.asm_read.specs.Operands.{Text}

pub two_listed : (name a b : Text) → texts.statement name (a ∷ b ∷ []) ≡ name ++ 32 ∷ (a ++ 44 ∷ 32 ∷ b)
two_listed name a b =
    append_assoc name (32 ∷ []) (texts.comma_list (a ∷ b ∷ []))
    ∙ ap (λ (t : Text). name ++ 32 ∷ t) (append_assoc a (44 ∷ 32 ∷ []) b)

pub three_listed : (name a b c : Text) → texts.statement name (a ∷ b ∷ c ∷ []) ≡ name ++ 32 ∷ (a ++ 44 ∷ 32 ∷ (b ++ 44 ∷ 32 ∷ c))
three_listed name a b c =
    append_assoc name (32 ∷ []) (texts.comma_list (a ∷ b ∷ c ∷ []))
    ∙ ap (λ (t : Text). name ++ 32 ∷ t) (append_assoc a (44 ∷ 32 ∷ []) (texts.comma_list (b ∷ c ∷ [])))
    ∙ ap (λ (t : Text). name ++ 32 ∷ (a ++ 44 ∷ 32 ∷ t)) (append_assoc b (44 ∷ 32 ∷ []) c)

-- `n(r)`, with the number in front
abbrev pub placed : ℕ → ℕ → Text
placed imm base = shown.immediate imm ++ 40 ∷ (shown.register base ++ 41 ∷ [])

place_shown : (imm base : ℕ) → shown.place imm base ≡ placed imm base
place_shown imm base =
    append_assoc (shown.immediate imm ++ 40 ∷ []) (shown.register base) (41 ∷ [])
    ∙ append_assoc (shown.immediate imm) (40 ∷ []) (shown.register base ++ 41 ∷ [])

pub place_listed : (name : Text) (r base imm : ℕ) → texts.with_place name r base imm ≡ name ++ 32 ∷ (shown.register r ++ 44 ∷ 32 ∷ placed imm base)
place_listed name r base imm =
    two_listed name (shown.register r) (shown.place imm base)
    ∙ ap (λ (t : Text). name ++ 32 ∷ (shown.register r ++ 44 ∷ 32 ∷ t)) (place_shown imm base)
