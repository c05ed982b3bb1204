-- Texts of tags, told apart by their first letters, and by what stands in the parentheses.
use Rattle.std.proofs.Common.{◌≡◌, ℕ, ◌<◌, ◌^◌, List, ◌∷◌, ◌++◌, append_assoc, refl, sym, ap, ◌∙◌, arith}
use Rattle.std.specs.Prelude.{codes, get_or}
use Rattle.std.specs.Fmt.{decimal}
use Rattle.policy_trait.proofs.TextLemmas.{cut_number, same_number, within}
use Rattle.heap_policy.specs.Heap.{content_text, heap_text, pointer_text}
use Rattle.heap_policy.specs.TextLaws.{HasSmallBlock, TellsApart}
use Rattle.heap_policy.specs.declared.tag.Content.{Content}
use Rattle.heap_policy.specs.declared.tag.Content.TheVariants as contents
use Rattle.heap_policy.specs.declared.tag.HeapTag.TheVariants.{Val, Ptr, Static, Cell, Free}

same_block : (m n : ℕ) → m < 2 ^ 32 → n < 2 ^ 32 → pointer_text m ≡ pointer_text n → m ≡ n
same_block m n m_small n_small e = same_number m n m_small n_small (within (codes "ptr(") (decimal m) (decimal n) e)

same_content : (x y : Content) → HasSmallBlock x → HasSmallBlock y → content_text x ≡ content_text y → x ≡ y
same_content contents.Val contents.Val x_small y_small e = refl
same_content (contents.Ptr m) (contents.Ptr n) x_small y_small e = ap contents.Ptr (same_block m n x_small y_small e)
same_content _ _ x_small y_small e = absurd (let h = ap (λ (text : List ℕ). get_or text 0 0) e in omega arith)

-- what stands in the parentheses of a cell: a number, a comma, and what the word holds
abbrev inner_text : ℕ → Content → List ℕ
inner_text block content = decimal block ++ 44 ∷ content_text content

cell_text : (block : ℕ) (content : Content)
    → heap_text (Cell block content) ≡ codes "cell(" ++ inner_text block content ++ codes ")"
cell_text block content = simp append_assoc

same_cell : (m n : ℕ) (x y : Content) → m ≡ n → x ≡ y → Cell m x ≡ Cell n y
same_cell m n x y block content = cc

cell_told : (m n : ℕ) (x y : Content) → m < 2 ^ 32 → n < 2 ^ 32 → HasSmallBlock x → HasSmallBlock y
    → heap_text (Cell m x) ≡ heap_text (Cell n y) → Cell m x ≡ Cell n y
cell_told m n x y m_small n_small x_small y_small e =
    let inner = within (codes "cell(") (inner_text m x) (inner_text n y) (sym (cell_text m x) ∙ e ∙ cell_text n y) in
    let parts = cut_number m n (content_text x) (content_text y) m_small n_small inner in
    same_cell m n x y parts.0 (same_content x y x_small y_small parts.1)

pub texts_tell : TellsApart heap_text
texts_tell Val Val x_small y_small e = refl
texts_tell Free Free x_small y_small e = refl
texts_tell (Ptr m) (Ptr n) x_small y_small e = ap Ptr (same_block m n x_small y_small e)
texts_tell (Static x) (Static y) x_small y_small e =
    ap Static (same_content x y x_small y_small (within (codes "static(") (content_text x) (content_text y) e))
texts_tell (Cell m x) (Cell n y) x_small y_small e = cell_told m n x y x_small.0 y_small.0 x_small.1 y_small.1 e
texts_tell _ _ x_small y_small e = absurd (let h = ap (λ (text : List ℕ). get_or text 0 0) e in omega arith)
