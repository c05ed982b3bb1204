-- Which services a policy may offer that stands beside the four.
use Rattle.std.specs.Prelude.{◌≡◌, ℕ, ◌≤◌, Bool, true, false, ◌||◌, List}
use Rattle.std.proofs.Common.{refl, sym, ap, ◌∙◌}
use Rattle.std.proofs.lemmas.Bool.{false≢true}
use Rattle.image_format.specs.Picture.{Picture}
use Rattle.policy_trait.specs.Model.{PolicyModel}
use Rattle.policy_product.specs.Both.{both}
use Rattle.policy_product.specs.Nothing.{nothing}
use Rattle.policy_product.specs.declared.nothing.Nothing.{Nothing}

-- the numbers below are those of the machine's own services and of the four policies'
abbrev pub first_service : ℕ
first_service = 64

-- each service of the policy at this value has such a number or a greater one
abbrev pub IsFromFirst : {S T : Type 0} → PolicyModel T S → S → Type 0
IsFromFirst m s = (number : ℕ) → m.knows s number ≡ true → first_service ≤ number

-- no service is known, whatever the value
abbrev pub OffersNone : {S T : Type 0} → PolicyModel T S → Type 0
OffersNone {S} m = (s : S) (number : ℕ) → m.knows s number ≡ false

-- what offers none offers none of the others' numbers
pub none_from_first : {S T : Type 0} (m : PolicyModel T S) → OffersNone m → (s : S) → IsFromFirst m s
none_from_first m none s number known = absurd (false≢true (sym (none s number) ∙ known))

-- ---- the policy that is nothing

abbrev pub nothing_begun : List ℕ → Picture → Nothing
nothing_begun secret g = record {}

pub nothing_offers_none : OffersNone nothing
nothing_offers_none s number = refl

pub nothing_apart : (secret : List ℕ) (g : Picture) → IsFromFirst nothing (nothing_begun secret g)
nothing_apart secret g = none_from_first nothing nothing_offers_none (record {})

-- ---- two policies as one

module _ {S T R U : Type 0} (m : PolicyModel T S) (n : PolicyModel U R) where
  pub both_offer_none : OffersNone m → OffersNone n → OffersNone (both m n)
  both_offer_none left right s number = ap (λ (known : Bool). known || n.knows s.1 number) (left s.0 number) ∙ right s.1 number

  -- where the right one knows no service, each is the left one's
  left_knows : (s : S × R) (number : ℕ) → n.knows s.1 number ≡ false → m.knows s.0 number || n.knows s.1 number ≡ true → m.knows s.0 number ≡ true
  left_knows s number none known = left_of (m.knows s.0 number) (n.knows s.1 number) none known
    where
      left_of : (x y : Bool) → y ≡ false → x || y ≡ true → x ≡ true
      left_of true y is known = refl
      left_of false y is known = absurd (false≢true (sym is ∙ known))

-- each of the two at an image's start
abbrev pub both_begun : {S R : Type 0} → (List ℕ → Picture → S) → (List ℕ → Picture → R) → List ℕ → Picture → S × R
both_begun left right secret g = (left secret g, right secret g)

pub both_apart : {S T R U : Type 0} (m : PolicyModel T S) (n : PolicyModel U R) (left : List ℕ → Picture → S) (right : List ℕ → Picture → R)
    → ((secret : List ℕ) (g : Picture) → IsFromFirst m (left secret g)) → OffersNone n
    → (secret : List ℕ) (g : Picture) → IsFromFirst (both m n) (both_begun left right secret g)
both_apart m n left right apart quiet secret g number known =
    apart secret g number (left_knows m n (both_begun left right secret g) number (quiet (right secret g) number) known)
