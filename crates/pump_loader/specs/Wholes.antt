-- Policies that an image can be started under, each as one: the four, and the four with another policy beside them, as secrecy.
use Rattle.std.specs.Prelude.{ℕ, Bool, true, false, ◌&&◌, List}
use Rattle.image_format.specs.Picture.{Picture}
use Rattle.policy_trait.specs.Model.{PolicyModel}
use Rattle.policy_product.specs.Both.{both}
use Rattle.policy_choice.specs.All.{AllState, AllTag, all, all_eq, choice_state}
use Rattle.policy_choice.specs.declared.basis.Basis.{Basis}
use Rattle.secrecy_policy.specs.Secrecy.{SecretState, secrecy}
use Rattle.secrecy_policy.specs.Start.{begun}
pub use Rattle.secrecy_policy.specs.Start.{unanswered}
use Rattle.secrecy_policy.specs.contracts.tag.SecretTagPartialEq.TheImpl as secret_tag
use Rattle.secrecy_policy.specs.declared.tag.SecretTag.{SecretTag}

abbrev pub HiddenTag : Type 0
HiddenTag = AllTag × SecretTag

abbrev pub HiddenState : Type 0
HiddenState = AllState × SecretState

-- the four and secrecy
abbrev pub hidden : PolicyModel HiddenTag HiddenState
hidden = both all secrecy

-- whether two tags are the same
abbrev pub hidden_eq : HiddenTag → HiddenTag → Bool
hidden_eq x y = all_eq x.0 y.0 && secret_tag.eq-value.it x.1 y.1

-- the chosen ones of the four at the start of an image, and a policy beside them that is this then
abbrev pub beside_state : {S : Type 0} → (List ℕ → Picture → S) → Basis → List ℕ → Picture → AllState × S
beside_state begun basis secret g = (choice_state basis g, begun secret g)

-- the same with secrecy of these bytes
abbrev pub hidden_state : Basis → List ℕ → Picture → HiddenState
hidden_state basis bytes g = beside_state begun basis bytes g

-- the chosen ones of the four, which have no use for secret bytes
abbrev pub open_state : Basis → List ℕ → Picture → AllState
open_state basis bytes g = choice_state basis g

-- ---- the whole that a basis chooses

-- a policy as one: its values and tags, whether two of its tags are the same, what it means, its value at the start of an
-- image, and what the four see of its tags
pub record Whole : Type 1 where
  pub State : Type 0
  pub Tag : Type 0
  pub eq : Tag → Tag → Bool
  pub model : PolicyModel Tag State
  pub state : State
  pub four : Tag → AllTag

-- the four, with secrecy beside them where that is chosen
abbrev pub whole_if : Bool → Basis → List ℕ → Picture → Whole
whole_if true basis bytes g = record { State = HiddenState; Tag = HiddenTag; eq = hidden_eq; model = hidden; state = hidden_state basis bytes g; four = λ tag. tag.0 }
whole_if false basis bytes g = record { State = AllState; Tag = AllTag; eq = all_eq; model = all; state = open_state basis bytes g; four = λ tag. tag }

-- the policies that a basis chooses, with these secret bytes, at the start of an image
abbrev pub whole_of : Basis → List ℕ → Picture → Whole
whole_of basis bytes g = whole_if basis.choice.secret basis bytes g
