-- The texts of tags tell them apart.
use Rattle.std.specs.Prelude.{◌≡◌, ℕ, ◌^◌, ◌<◌, List}
use Rattle.std.specs.Option.{ForSome}
use Rattle.flow_policy.specs.declared.tag.FlowTag.{FlowTag}
use Rattle.flow_policy.specs.declared.tag.FlowTag.TheVariants.{From, Code}

-- each number in the tag is one of 32 bits
abbrev pub HasSmallLabels : FlowTag → Type 0
HasSmallLabels (From source) = source < 2 ^ 32
HasSmallLabels (Code label) = ForSome label (λ number. number < 2 ^ 32)
HasSmallLabels _ = Unit {0}

-- the texts tell any two such tags apart
abbrev pub TellsApart : (FlowTag → List ℕ) → Type 0
TellsApart text = (x y : FlowTag) → HasSmallLabels x → HasSmallLabels y → text x ≡ text y → x ≡ y
