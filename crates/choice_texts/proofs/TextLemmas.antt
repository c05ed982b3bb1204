-- A tag's text tells the tag: part by part, from the front.
use Rattle.std.proofs.Common.{◌≡◌, ℕ, ◌<◌, ◌^◌, Bool, true, false, List, [], ◌++◌, Option, Some, None, refl, ap, arith}
use Rattle.std.specs.Prelude.{codes, get_or}
use Rattle.std.specs.Fmt.{decimal}
use Rattle.std.specs.Option.{is_some}
use Rattle.std.proofs.lemmas.Fmt.{decimal_injective}
use Rattle.std.proofs.lemmas.List.{append_cancel_left, append_cancel_right}
use Rattle.image_format.specs.Picture.{Picture}
use Rattle.policy_trait.specs.Model.{PolicyModel}
use Rattle.sealing_policy.specs.Sealing.{sealing, sealing_text}
use Rattle.sealing_policy.specs.declared.tag.SealTag.{SealTag}
use Rattle.sealing_policy.specs.declared.tag.SealTag.TheVariants.{Data, Key, Sealed}
use Rattle.compartment_policy.specs.Compartments.{HasFittingNumbers, compartments}
use Rattle.compartment_policy.proofs.TextLemmas.{text_apart}
use Rattle.flow_policy.specs.Flow.{flow}
use Rattle.flow_policy.specs.TextLaws.{HasSmallLabels}
use Rattle.flow_policy.proofs.TextLemmas.{texts_tell as flow_texts_tell}
use Rattle.heap_policy.specs.Heap.{heap}
use Rattle.heap_policy.specs.TextLaws.{HasSmallBlocks}
use Rattle.heap_policy.proofs.TextLemmas.{texts_tell as heap_texts_tell}
use Rattle.policy_product.specs.Both.{joint_text}
use Rattle.policy_product.specs.Maybe.{text_in}
use Rattle.policy_choice.specs.All.{AllState, AllTag, all, choice_state, part_if}
use Rattle.policy_choice.specs.declared.basis.Basis.{Basis}
use Rattle.policy_choice.specs.declared.choice.Choice.{Choice}
use Rattle.choice_texts.specs.Texts.{HasSmallKey, IsComponentOf, IsOnIf, IsStateOf, IsTagOf}
use Rattle.choice_texts.proofs.BarLemmas.{IsPiece, first_told}
use Rattle.choice_texts.proofs.PieceLemmas.{comp_piece, flow_piece, heap_piece, seal_piece}

-- ---- sealing: by the first letter, and by the number in the parentheses

same_key : (prefix : List ℕ) (k j : ℕ) → k < 2 ^ 32 → j < 2 ^ 32 → prefix ++ decimal k ++ codes ")" ≡ prefix ++ decimal j ++ codes ")" → k ≡ j
same_key prefix k j k_small j_small e =
    decimal_injective k j (omega (arith, k_small)) (omega (arith, j_small))
    (append_cancel_left prefix (decimal k) (decimal j) (append_cancel_right (prefix ++ decimal k) (prefix ++ decimal j) (codes ")") e))

seal_apart : (x y : SealTag) → HasSmallKey x → HasSmallKey y → sealing_text x ≡ sealing_text y → x ≡ y
seal_apart Data Data x_small y_small e = refl
seal_apart (Key k) (Key j) x_small y_small e = ap Key (same_key (codes "key(") k j x_small y_small e)
seal_apart (Sealed k) (Sealed j) x_small y_small e = ap Sealed (same_key (codes "sealed(") k j x_small y_small e)
seal_apart _ _ x_small y_small e = absurd (let h = ap (λ (text : List ℕ). get_or text 0 0) e in omega arith)

-- ---- any part, in front of the others

-- the texts of such tags are pieces, and tell them apart
record IsTold {T S : Type 0} (m : PolicyModel T S) (HasSmallNumbers : T → Type 0) : Type 0 where
  piece : (s : S) (x : T) → HasSmallNumbers x → IsPiece (m.text s x)
  apart : (s : S) (x y : T) → HasSmallNumbers x → HasSmallNumbers y → m.text s x ≡ m.text s y → x ≡ y

-- with the same text, two tags have the same component of this part, and the same text of the parts behind it
part_told : {T S : Type 0} (m : PolicyModel T S) (HasSmallNumbers : T → Type 0) (chosen : Bool) (state : Option S) (x y : Option T) (rest others : List ℕ)
    → IsTold m HasSmallNumbers → is_some state ≡ chosen → IsComponentOf HasSmallNumbers chosen x → IsComponentOf HasSmallNumbers chosen y
    → joint_text (text_in m state x) rest ≡ joint_text (text_in m state y) others → (x ≡ y) × (rest ≡ others)
part_told m fits chosen None None None rest others told on x_is y_is e = (refl, e)
part_told m fits chosen (Some s) (Some x) (Some y) rest others told on x_is y_is e =
    let x_fits = x_is.small x refl in
    let y_fits = y_is.small y refl in
    let parts = first_told (m.text s x) (m.text s y) rest others (told.piece s x x_fits) (told.piece s y y_fits) e in
    (ap Some (told.apart s x y x_fits y_fits parts.0), parts.1)
part_told m fits chosen None (Some x) y rest others told on x_is y_is e = absurd (cc (on, x_is.there))
part_told m fits chosen None None (Some y) rest others told on x_is y_is e = absurd (cc (on, y_is.there))
part_told m fits chosen (Some s) None y rest others told on x_is y_is e = absurd (cc (on, x_is.there))
part_told m fits chosen (Some s) (Some x) None rest others told on x_is y_is e = absurd (cc (on, y_is.there))

seal_told : IsTold sealing HasSmallKey
seal_told = record { piece = λ s. seal_piece; apart = λ s. seal_apart }

comp_told : IsTold compartments HasFittingNumbers
comp_told = record { piece = λ s. comp_piece; apart = λ s. text_apart }

flow_told : IsTold flow HasSmallLabels
flow_told = record { piece = λ s. flow_piece; apart = λ s. flow_texts_tell }

heap_told : IsTold heap HasSmallBlocks
heap_told = record { piece = λ s. heap_piece; apart = λ s. heap_texts_tell }

same_pair : {A B : Type 0} (x y : A × B) → x.0 ≡ y.0 → x.1 ≡ y.1 → x ≡ y
same_pair (a, b) (c, d) first second = cc

pub texts_tell : (choice : Choice) (state : AllState) (x y : AllTag) → IsStateOf choice state → IsTagOf choice x → IsTagOf choice y
    → all.text state x ≡ all.text state y → x ≡ y
texts_tell choice state x y on x_is y_is e =
    let first = part_told sealing HasSmallKey choice.seal state.0.part x.0 y.0 _ _ seal_told on.seal x_is.seal y_is.seal e in
    let second = part_told compartments HasFittingNumbers choice.comp state.1.0.part x.1.0 y.1.0 _ _ comp_told on.comp x_is.comp y_is.comp first.1 in
    let third = part_told flow HasSmallLabels choice.flow state.1.1.0.part x.1.1.0 y.1.1.0 _ _ flow_told on.flow x_is.flow y_is.flow second.1 in
    let last = part_told heap HasSmallBlocks choice.heap state.1.1.1.part x.1.1.1 y.1.1.1 [] [] heap_told on.heap x_is.heap y_is.heap (ap (λ text. joint_text text []) third.1) in
    same_pair x y first.0 (same_pair x.1 y.1 second.0 (same_pair x.1.1 y.1.1 third.0 last.0))

-- ---- the start

on_if : {S : Type 0} (chosen : Bool) (s : S) → IsOnIf chosen (part_if chosen s)
on_if true s = refl
on_if false s = refl

pub starts_so : (basis : Basis) (g : Picture) → IsStateOf basis.choice (choice_state basis g)
starts_so basis g = record {
  seal = on_if basis.choice.seal _;
  comp = on_if basis.choice.comp _;
  flow = on_if basis.choice.flow _;
  heap = on_if basis.choice.heap _;
}
