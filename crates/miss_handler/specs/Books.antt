-- The rules of a policy as it stands, which its services don't change.
use Rattle.std.specs.Prelude.{◌≡◌, ℕ, ◌-◌, false, List, [], ◌∷◌, Result, refl, slice_index_or}
use Rattle.std.specs.Coded.{Coded, code_by, coded_list}
use Rattle.rv_decode.specs.declared.groups.Group.{Group}
use Rattle.rv_decode.specs.declared.groups.Group.TheVariants as group
use Rattle.policy_trait.specs.Model.{PolicyModel, masked_inputs}
use Rattle.policy_trait.specs.declared.rules.Ins.{Ins}
use Rattle.policy_trait.specs.declared.rules.Mask.{Mask}
use Rattle.policy_trait.specs.declared.rules.Outs.{Outs}
use Rattle.policy_trait.specs.declared.rules.Refused.{Refused}
use Rattle.engine_trait.specs.Accounts.{group_number}

-- the plain tag, which inputs the rule of each group ignores, and the rules
pub record Rulebook (T : Type 0) : Type 0 where
  pub plain : T
  pub ignores : Group → Mask
  pub rule : Group → Ins T → Result (Outs T) Refused

abbrev pub rulebook_of : {T S : Type 0} → PolicyModel T S → S → Rulebook T
rulebook_of m s = record { plain = m.plain s; ignores = m.ignores s; rule = m.rule s }

-- ignored inputs change no answer
abbrev pub IgnoresMasked : {T : Type 0} → Rulebook T → Type 0
IgnoresMasked book = (g : Group) (x : Ins _) → book.rule g x ≡ book.rule g (masked_inputs (book.ignores g) book.plain x)

-- the rules of a policy as it stands, and how many answers they gave
pub record AskingState (S : Type 0) : Type 0 where
  pub policy : S
  pub answers : ℕ

-- the masks are the policy's
abbrev pub AreMasksOf : {T S : Type 0} → PolicyModel T S → S → (Group → Mask) → Type 0
AreMasksOf m s masks = (group : Group) → masks group ≡ m.ignores s group

-- a table of masks, one for each group in the groups' order
abbrev pub mask_in : List Mask → Group → Mask
mask_in masks group =
    slice_index_or masks (group_number group - 1) (record { pc = false; ci = false; t1 = false; t2 = false; tm = false })

-- and the table of masks by their groups
abbrev pub masks_listed : (Group → Mask) → List Mask
masks_listed masks =
    masks group.Const ∷ masks group.Here ∷ masks group.Jal ∷ masks group.Jalr ∷ masks group.Branch ∷
    masks group.LoadWord ∷ masks group.LoadPart ∷ masks group.StoreWord ∷ masks group.StorePart ∷ masks group.Move ∷
    masks group.AddImm ∷ masks group.AluImm ∷ masks group.Add ∷ masks group.Sub ∷ masks group.Alu ∷
    masks group.Fence ∷ masks group.Exit ∷ masks group.Put ∷ masks group.Get ∷ masks group.Break ∷ masks group.Call ∷ []

pub mask_in-listed : (masks : Group → Mask) (group : Group) → mask_in (masks_listed masks) group ≡ masks group
mask_in-listed masks group.Const = refl
mask_in-listed masks group.Here = refl
mask_in-listed masks group.Jal = refl
mask_in-listed masks group.Jalr = refl
mask_in-listed masks group.Branch = refl
mask_in-listed masks group.LoadWord = refl
mask_in-listed masks group.LoadPart = refl
mask_in-listed masks group.StoreWord = refl
mask_in-listed masks group.StorePart = refl
mask_in-listed masks group.Move = refl
mask_in-listed masks group.AddImm = refl
mask_in-listed masks group.AluImm = refl
mask_in-listed masks group.Add = refl
mask_in-listed masks group.Sub = refl
mask_in-listed masks group.Alu = refl
mask_in-listed masks group.Fence = refl
mask_in-listed masks group.Exit = refl
mask_in-listed masks group.Put = refl
mask_in-listed masks group.Get = refl
mask_in-listed masks group.Break = refl
mask_in-listed masks group.Call = refl

-- masks by their groups are stored as their table
abbrev pub masks_code : Coded Mask → Coded (Group → Mask)
masks_code code = code_by (List Mask) (coded_list code) masks_listed mask_in (λ masks j group. mask_in-listed masks group j)
