-- What a session over an image and an input puts, and how it ends.
use Rattle.std.specs.Prelude.{ℕ, Bool, List, [], Option, if◌then◌else◌}
use Rattle.image_format.specs.Picture.{Picture}
use Rattle.host_io.specs.Pieces.{Piece}
use Rattle.policy_trait.specs.Model.{PolicyModel}
use Rattle.engine_trait.specs.Accounts.{is_over}
use Rattle.engine_trait.specs.Standing.{Standing, with_history_for}
use Rattle.pump_loader.specs.ChosenLoads.{start_with}
use Rattle.pump_loader.specs.Wholes.{Whole, whole_of}
use Rattle.shell_run.specs.Session.{fresh}
use Rattle.shell_script.specs.Shell.{RepliesSoFar, Shell, shell_of}
use Rattle.pump_shell.specs.Ends.{end_of}
use Rattle.pump_shell.specs.declared.ends.SessionEnd.{SessionEnd}
use Rattle.pump_shell.specs.declared.ends.SessionEnd.TheVariants.{TagsOut}
use Rattle.pump_shell.specs.declared.setup.Setup.{Setup}

-- the replies in their order, and how the session ended
pub record Told : Type 0 where
  pub pieces : List Piece
  pub end : SessionEnd

-- a start that needs more tag numbers than there may be: no line is executed
abbrev pub out_at_start : Told
out_at_start = record { pieces = []; end = TagsOut }

-- the replies and the end of a session whose input was executed
abbrev pub told_by : {S T : Type 0} → Shell S T → Told
told_by shell = record { pieces = shell.pieces; end = end_of shell.end }

-- from a start on, over an input of which at most `limit` bytes count
unfoldable pub told_from : {S T : Type 0} → (T → T → Bool) → PolicyModel T S → ℕ → Standing S T → List ℕ → Told
told_from eq m limit start input =
    if is_over start.account then out_at_start else told_by (shell_of eq m limit (fresh start) input)

-- the policies that a setup chooses, with these secret bytes, at the start of an image
abbrev pub whole_of_setup : Setup → List ℕ → Picture → Whole
whole_of_setup setup secret g = whole_of setup.basis secret g

-- the image's start under a policy that is this there, with as many rules kept as the setup says, and room for as many records
abbrev pub start_set : {S T : Type 0} → (T → T → Bool) → PolicyModel T S → S → Setup → Picture → Standing S T
start_set eq m policy setup g = with_history_for setup.history (start_with eq m policy setup.cache setup.tags g)

-- the same under the policies as one
abbrev pub start_of_setup : (w : Whole) → Setup → Picture → Standing w.State w.Tag
start_of_setup w setup g = start_set w.eq w.model w.state setup g

-- a session under a policy over this image and input, set up so; at most `limit` bytes of the input count
abbrev pub told_under : Whole → Setup → Picture → ℕ → List ℕ → Told
told_under w setup g limit input = told_from w.eq w.model limit (start_of_setup w setup g) input

-- the same under the policies that the setup chooses
abbrev pub told_of : Setup → List ℕ → Picture → ℕ → List ℕ → Told
told_of setup secret g limit input = told_under (whole_of_setup setup secret g) setup g limit input

-- a read of the input failed in such a session: each line that ended before it was replied to, and nothing else was put
abbrev pub RepliesSoFarUnder : Whole → Setup → Picture → ℕ → Option (List ℕ) → Option (List ℕ) → Option (List ℕ) → Option (List ℕ) → Type 0
RepliesSoFarUnder w setup g limit left left_now old new =
    RepliesSoFar w.eq w.model limit (fresh (start_of_setup w setup g)) left left_now old new

abbrev pub RepliesSoFarOf : Setup → List ℕ → Picture → ℕ → Option (List ℕ) → Option (List ℕ) → Option (List ℕ) → Option (List ℕ) → Type 0
RepliesSoFarOf setup secret g limit left left_now old new =
    RepliesSoFarUnder (whole_of_setup setup secret g) setup g limit left left_now old new

-- the start of a session needs more tag numbers than there may be
abbrev pub is_over_of : Setup → List ℕ → Picture → Bool
is_over_of setup secret g = is_over (start_of_setup (whole_of_setup setup secret g) setup g).account
