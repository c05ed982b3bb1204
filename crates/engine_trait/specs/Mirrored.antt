-- An engine without a rule cache whose machine is that of another such engine with each tag changed, under a policy that
-- mirrors the other's.
use Rattle.std.specs.Prelude.{◌≡◌}
use Rattle.policy_trait.specs.Mirrors.{Mirrors}
use Rattle.policy_trait.specs.Model.{PolicyModel}
use Rattle.engine_trait.specs.Accounts.{IsUncached}
use Rattle.engine_trait.specs.Maps.{core_by}
use Rattle.engine_trait.specs.Standing.{Standing, Stepped}

module _ {T U S V : Type 0} (f : T → U) (m : PolicyModel T S) (n : PolicyModel U V) where
  -- d is such an engine beside e
  pub record IsMirrored (e : Standing S T) (d : Standing V U) : Type 0 where
    pub policy : Mirrors f m e.machine.policy n d.machine.policy
    pub core : d.machine.core ≡ core_by f e.machine.core
    pub halt : d.account.halt ≡ e.account.halt
    pub uncached : IsUncached e.account
    pub mirror_uncached : IsUncached d.account

  -- after a step of each
  pub record StepsMirrored (e : Stepped S T) (d : Stepped V U) : Type 0 where
    pub standing : IsMirrored e.standing d.standing
    pub feed : d.feed ≡ e.feed
    pub ended : d.ended ≡ e.ended
