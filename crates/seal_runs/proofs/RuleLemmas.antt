-- What sealing's rule gives the result and the pc of an instruction.
use Rattle.std.proofs.Common.{◌≡◌, Bool, true, false, Result, Ok, Err, refl, sym, ap, if◌then◌else◌}
use Rattle.rv_decode.specs.declared.groups.Group.{Group}
use Rattle.rv_decode.specs.declared.groups.Group.TheVariants as group
use Rattle.policy_trait.specs.declared.rules.Ins.{Ins}
use Rattle.policy_trait.specs.declared.rules.Outs.{Outs}
use Rattle.policy_trait.specs.declared.rules.Refused.{Refused}
use Rattle.policy_trait.specs.declared.rules.Why.TheVariants as why
use Rattle.part_turns.specs.Turns.{is_computing}
use Rattle.sealing_policy.specs.Sealing.{meets_row, refused_for, row_of, sealing_rule, tag_from}
use Rattle.sealing_policy.specs.declared.tag.SealTag.{SealTag}
use Rattle.sealing_policy.specs.declared.tag.SealTag.TheVariants.{Data}

abbrev allowed : Outs SealTag → Result (Outs SealTag) Refused
allowed outs = Ok outs

same_outs : (x y : Outs SealTag) → allowed x ≡ allowed y → x ≡ y
same_outs x y e = cc

by_meets : (meets : Bool) (g : Group) (result : SealTag) (outs : Outs SealTag)
    → (if meets then Ok (record { pc = Data; result = result }) else Err (refused_for (why.Rule g))) ≡ Ok outs
    → record { pc = Data; result = result } ≡ outs
by_meets true g result outs e = same_outs (record { pc = Data; result = result }) outs e
by_meets false g result outs e = absurd cc

-- a result has the tag that the group's row says
pub result_tag : (g : Group) (x : Ins SealTag) (outs : Outs SealTag) → sealing_rule g x ≡ Ok outs → outs.result ≡ tag_from (row_of g).result x
result_tag g x outs e = ap (λ (y : Outs SealTag). y.result) (sym (by_meets (meets_row (row_of g) x) g (tag_from (row_of g).result x) outs e))

-- a pc is data
pub pc_tag : (g : Group) (x : Ins SealTag) (outs : Outs SealTag) → sealing_rule g x ≡ Ok outs → outs.pc ≡ Data
pc_tag g x outs e = ap (λ (y : Outs SealTag). y.pc) (sym (by_meets (meets_row (row_of g) x) g (tag_from (row_of g).result x) outs e))

-- what is computed is data
pub computed_tag : (g : Group) (x : Ins SealTag) → is_computing g ≡ true → tag_from (row_of g).result x ≡ Data
computed_tag = elim [
  | group.Const ↦ λ x is. refl
  | group.Here ↦ λ x is. refl
  | group.Jal ↦ λ x is. refl
  | group.Jalr ↦ λ x is. refl
  | group.Branch ↦ λ x is. refl
  | group.LoadWord ↦ λ x is. absurd cc
  | group.LoadPart ↦ λ x is. refl
  | group.StoreWord ↦ λ x is. absurd cc
  | group.StorePart ↦ λ x is. refl
  | group.Move ↦ λ x is. absurd cc
  | group.AddImm ↦ λ x is. refl
  | group.AluImm ↦ λ x is. refl
  | group.Add ↦ λ x is. refl
  | group.Sub ↦ λ x is. refl
  | group.Alu ↦ λ x is. refl
  | group.Fence ↦ λ x is. refl
  | group.Exit ↦ λ x is. refl
  | group.Put ↦ λ x is. refl
  | group.Get ↦ λ x is. refl
  | group.Break ↦ λ x is. refl
  | group.Call ↦ λ x is. refl
]
