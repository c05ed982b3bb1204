-- A whole policy as its own part, which is always on.
use Rattle.std.specs.Prelude.{true}
use Rattle.policy_parts.specs.Lens.{Lens}

abbrev pub whole_lens : {T S : Type 0} → Lens T S T S
whole_lens = record { tag = λ tag. tag; value = λ policy. policy; is_on = λ policy. true }
