-- What a run shows doesn't depend on what its secret file holds.
use Rattle.std.specs.Prelude.{◌≡◌, ℕ, ◌≤◌, List, length, Option, Some, None}
use Rattle.pump_line.specs.Task.{RunTask}
use Rattle.pump_cli.specs.Reading.{file_limit, secret_held}

-- secret bytes that are told, and not too many
abbrev pub IsTaken : Option (List ℕ) → Type 0
IsTaken None = ⊥
IsTaken (Some bytes) = length bytes ≤ file_limit

-- what the names may hold instead, so that the task starts with other secret bytes alone: the image's file is the same, and in
-- both the secret bytes are taken
pub record DifferInSecret (task : RunTask) (held other : List ℕ → Option (List ℕ)) : Type 0 where
  pub image : other task.image ≡ held task.image
  pub one_taken : IsTaken (secret_held task.choice task.secret held)
  pub other_taken : IsTaken (secret_held task.choice task.secret other)
