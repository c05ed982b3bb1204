-- Lists of those of the four policies that stand beside one's own.
use Rattle.std.specs.Prelude.{ℕ, List, Option, Some, None, if◌then◌else◌}
use Rattle.policy_choice.specs.Choice.{choice_of, no_policy}
use Rattle.policy_choice.specs.declared.basis.Basis.{Basis}
use Rattle.policy_choice.specs.declared.choice.Choice.{Choice}

abbrev pub no_basis : Basis
no_basis = record { choice = no_policy }

-- a choice of the four alone
abbrev pub without_secret : Option Choice → Option Basis
without_secret None = None
without_secret (Some choice) = if choice.secret then None else Some (record { choice = choice })

-- the list that a text is, if it names none but the four
abbrev pub basis_in : List ℕ → Option Basis
basis_in text = without_secret (choice_of text)
