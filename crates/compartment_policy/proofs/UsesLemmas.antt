-- Each input that a group does not ignore changes an answer: a word of compartment 0, entered from one, that writes one.
use Rattle.std.proofs.Common.{◌≡◌, false, not, if◌then◌else◌, Ok, Err, refl, sym, ◌∙◌, true≢false}
use Rattle.std.proofs.Math.Bool.{or-true}
use Rattle.shared_terms.proofs.CaseLemmas.{not_refused}
use Rattle.rv_decode.specs.declared.groups.Group.{Group}
use Rattle.policy_trait.specs.Sets.{set_of}
use Rattle.policy_trait.specs.UseLaws.{ignored_input}
use Rattle.policy_trait.specs.Uses.{Input, Pc, Instruction, First, Second, Word, UsesExactly, is_ignored, with_input}
use Rattle.policy_trait.specs.declared.rules.Ins.{Ins}
use Rattle.policy_trait.specs.declared.rules.Why.TheVariants as why
use Rattle.compartment_policy.specs.Compartments.{CompartmentState, IsCount, compartment_ignores, compartment_rule, compartments, is_jump, is_store, refused_for}
use Rattle.compartment_policy.specs.CompartmentLaws.{compartment_laws}
use Rattle.compartment_policy.specs.declared.tag.CompartmentTag.{CompartmentTag}
use Rattle.compartment_policy.specs.declared.tag.CompartmentTag.TheVariants as tag

-- a word of compartment 0 that no other may enter or write
abbrev closed : CompartmentTag
closed = tag.Place 0 (set_of 0) (set_of 0)

abbrev all_at_home : Ins CompartmentTag
all_at_home = record { pc = tag.Pc false 0; ci = closed; t1 = tag.Plain; t2 = tag.Plain; tm = closed }

abbrev Differs : Input → Type 0
Differs i = (g : Group) → is_ignored (compartment_ignores g) i ≡ false → ¬ (compartment_rule g (with_input i tag.Plain all_at_home) ≡ compartment_rule g all_at_home)

allowed : (g : Group) → compartment_rule g all_at_home ≡ Ok (record { pc = tag.Pc (is_jump g) 0; result = if is_store g then closed else tag.Plain })
allowed g = rw (or-true (not (is_store g))) refl

differs : (i : Input) → Differs i
differs Pc = λ g is e. not_refused (e ∙ allowed g)
differs Instruction = λ g is e. not_refused (e ∙ allowed g)
differs First = λ g is. absurd (true≢false is)
differs Second = λ g is. absurd (true≢false is)
differs Word = λ g is e.
    let made : compartment_rule g (with_input Word tag.Plain all_at_home) ≡ Err (refused_for (why.Rule g)) = rw (is) refl in
    not_refused (sym made ∙ e ∙ allowed g)

pub compartments_use_exactly : (state : CompartmentState) → UsesExactly compartments state
compartments_use_exactly state = record {
  ignored = λ g i is. ignored_input compartments IsCount compartment_laws state g i is;
  used = λ g i is. record { inputs = all_at_home; tag = tag.Plain; differs = differs i g is };
}
