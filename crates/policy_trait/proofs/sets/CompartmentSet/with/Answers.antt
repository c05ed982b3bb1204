use Rattle.std.proofs.Common.{ap}
use Rattle.std.specs.Prelude.{bit_or}
use Rattle.std.proofs.lemmas.Nat.{one_shl}
use Rattle.policy_trait.specs.Sets.{set_of}
use Rattle.policy_trait.proofs.SetLemmas.{has_with}
use Rattle.policy_trait.proofs.sets.CompartmentSet.with.Goals as goal

-- src/sets.rt:55:5
pub returns-clause-value : goal.returns-clause-value
returns-clause-value c = rw (c.of_bits.ensures, c.bits.ensures) (ap (λ bit. set_of (bit_or c.args.self.bits bit)) (one_shl c.args.number 128 c.requires))

-- src/sets.rt:55:5
pub returns-clause-members : goal.returns-clause-members
returns-clause-members c = λ other. rw (c.of_bits.ensures, c.bits.ensures) (has_with c.args.self.bits c.args.number other c.requires)
