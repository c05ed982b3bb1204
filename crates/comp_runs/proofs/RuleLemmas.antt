-- What the rule of compartments allows: to go on by right, and to store by right, which leaves the word's tag.
use Rattle.std.proofs.Common.{◌≡◌, inl, inr, ℕ, ◌==◌, Bool, true, false, not, ◌&&◌, ◌||◌, Some, None, Result, Ok, Err, refl, sym, ap, ◌∙◌, if◌then◌else◌}
use Rattle.std.proofs.lemmas.Bool.{and_parts, eqb-true}
use Rattle.rv_decode.specs.declared.groups.Group.{Group}
use Rattle.rv_decode.specs.declared.groups.Group.TheVariants as group
use Rattle.policy_trait.specs.Sets.{has}
use Rattle.policy_trait.specs.declared.rules.Ins.{Ins}
use Rattle.policy_trait.specs.declared.rules.Outs.{Outs}
use Rattle.policy_trait.specs.declared.rules.Refused.{Refused}
use Rattle.policy_trait.specs.declared.rules.Why.TheVariants as why
use Rattle.compartment_policy.specs.Compartments.{compartment_rule, entry_owner, is_store, may_write, refused_for, run_by}
use Rattle.compartment_policy.specs.Compartments.{is_jump as is_jumping}
use Rattle.compartment_policy.specs.declared.tag.CompartmentTag.{CompartmentTag}
use Rattle.compartment_policy.specs.declared.tag.CompartmentTag.TheVariants.{Pc, Plain}
use Rattle.part_turns.specs.Turns.{is_jal_group, is_jalr_group}
use Rattle.comp_runs.specs.CompInvariant.{place_of}
use Rattle.comp_runs.specs.CompSafe.{MayFollow}
use Rattle.comp_runs.specs.OwnerBook.{Owned}

-- an instruction of a word so owned is allowed after one of compartment `from`
pub record Obeys (from : ℕ) (jumped : Bool) (owned : Owned) (g : Group) (tm : CompartmentTag) (outs : Outs CompartmentTag) : Type 0 where
  pub follows : MayFollow from jumped owned
  pub pc : outs.pc ≡ Pc (is_jumping g) owned.owner
  pub stores : is_store g ≡ true → may_write owned.owner tm ≡ true
  pub result : is_store g ≡ true → outs.result ≡ tm

-- JAL and JALR are the jumps
pub same_jump : (g : Group) → (is_jal_group g || is_jalr_group g) ≡ is_jumping g
same_jump group.Jal = refl
same_jump group.Jalr = refl
same_jump _ = refl

entered_by : (same let_in jumped : Bool) (from : ℕ) (owned : Owned) → (from == owned.owner) ≡ same → has owned.into from ≡ let_in
    → (same || (jumped && let_in)) ≡ true
    → MayFollow from jumped owned
entered_by true let_in jumped from owned same let_in_is enters = inl (sym (eqb-true from owned.owner same))
entered_by false let_in jumped from owned same let_in_is enters = let both = and_parts jumped let_in enters in inr (both.0, let_in_is ∙ both.1)

stored_by : (stores writes : Bool) → (not stores || writes) ≡ true → stores ≡ true → writes ≡ true
stored_by true writes allows is = allows
stored_by false writes allows is = absurd cc

left_by : (stores : Bool) (tm : CompartmentTag) → stores ≡ true → (if stores then tm else Plain) ≡ tm
left_by true tm is = refl
left_by false tm is = absurd cc

-- the answer where nothing refuses
abbrev outs_of : ℕ → Group → CompartmentTag → Outs CompartmentTag
outs_of owner g tm = record { pc = Pc (is_jumping g) owner; result = if is_store g then tm else Plain }

abbrev allowed : Outs CompartmentTag → Result (Outs CompartmentTag) Refused
allowed outs = Ok outs

same_outs : (x y : Outs CompartmentTag) → allowed x ≡ allowed y → x ≡ y
same_outs x y e = cc

module _ (from : ℕ) (jumped : Bool) (owned : Owned) (g : Group) (x : Ins CompartmentTag) (outs : Outs CompartmentTag) where
  by_store : (allows : Bool) → (not (is_store g) || may_write owned.owner x.tm) ≡ allows → MayFollow from jumped owned
      → (if allows then Ok (outs_of owned.owner g x.tm) else Err (refused_for (why.Rule g))) ≡ Ok outs → Obeys from jumped owned g x.tm outs
  by_store false is follows e = absurd cc
  by_store true is follows e =
      let same = same_outs (outs_of owned.owner g x.tm) outs e in
      record {
        follows = follows;
        pc = ap (λ (y : Outs CompartmentTag). y.pc) (sym same);
        stores = stored_by (is_store g) (may_write owned.owner x.tm) is;
        result = λ stores. ap (λ (y : Outs CompartmentTag). y.result) (sym same) ∙ left_by (is_store g) x.tm stores;
      }

  by_entry : (enters : Bool) → ((from == owned.owner) || (jumped && has owned.into from)) ≡ enters
      → run_by (if enters then Some owned.owner else None) g x ≡ Ok outs
      → Obeys from jumped owned g x.tm outs
  by_entry false is e = absurd cc
  by_entry true is e =
      by_store (not (is_store g) || may_write owned.owner x.tm) refl
      (entered_by (from == owned.owner) (has owned.into from) jumped from owned refl refl is) e

  pub obeys : x.pc ≡ Pc jumped from → x.ci ≡ place_of owned → compartment_rule g x ≡ Ok outs → Obeys from jumped owned g x.tm outs
  obeys pc ci e =
      by_entry ((from == owned.owner) || (jumped && has owned.into from)) refl
      (ap (λ tag. run_by (entry_owner tag (place_of owned)) g x) (sym pc) ∙ ap (λ tag. run_by (entry_owner x.pc tag) g x) (sym ci) ∙ e)
