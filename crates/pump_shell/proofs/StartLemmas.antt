-- What a session comes to from the start that is chosen is what it comes to as its setup asks.
use Rattle.std.proofs.Common.{◌≡◌, ℕ, Bool, true, false, List, Option, Result, IfOk, IfSome, sym, subst}
use Rattle.image_format.specs.Picture.{Picture}
use Rattle.policy_trait.specs.Model.{PolicyModel}
use Rattle.engine_trait.specs.Accounts.{is_over}
use Rattle.engine_trait.specs.Standing.{Standing}
use Rattle.shell_turns.specs.Cuts.{PutsOut}
use Rattle.shell_run.specs.Session.{fresh}
use Rattle.shell_script.specs.Shell.{RepliesSoFar}
use Rattle.pump_loader.specs.Wholes.{Whole, whole_if}
use Rattle.pump_shell.specs.Told.{RepliesSoFarOf, RepliesSoFarUnder, is_over_of, start_of_setup, start_set, told_from, told_of, told_under}
use Rattle.pump_shell.specs.declared.ends.SessionCut.{SessionCut}
use Rattle.pump_shell.specs.declared.ends.SessionEnd.{SessionEnd}
use Rattle.pump_shell.specs.declared.setup.Setup.{Setup}

module _ {S T : Type 0} (eq : T → T → Bool) (m : PolicyModel T S) (policy : S) (setup : Setup) (g : Picture) (start : Standing S T)
    (starts : start ≡ start_set eq m policy setup g) where
  module _ (limit : ℕ) (left : Option (List ℕ)) (result : Result SessionEnd SessionCut) where
    pub done_as_set : IfOk result (λ end. IfSome left (λ bytes. end ≡ (told_from eq m limit start bytes).end))
        → IfOk result (λ end. IfSome left (λ bytes. end ≡ (told_from eq m limit (start_set eq m policy setup g) bytes).end))
    done_as_set done =
        subst (λ (from : Standing S T). IfOk result (λ (end : SessionEnd). IfSome left (λ (bytes : List ℕ). end ≡ (told_from eq m limit from bytes).end))) starts done

    pub puts_as_set : (old new : Option (List ℕ)) → IfSome left (λ bytes. PutsOut old new (told_from eq m limit start bytes).pieces result)
        → IfSome left (λ bytes. PutsOut old new (told_from eq m limit (start_set eq m policy setup g) bytes).pieces result)
    puts_as_set old new puts =
        subst (λ (from : Standing S T). IfSome left (λ (bytes : List ℕ). PutsOut old new (told_from eq m limit from bytes).pieces result)) starts puts

  pub replies_as_set : (limit : ℕ) (left left_now old new : Option (List ℕ)) → RepliesSoFar eq m limit (fresh start) left left_now old new
      → RepliesSoFar eq m limit (fresh (start_set eq m policy setup g)) left left_now old new
  replies_as_set limit left left_now old new replied =
      subst (λ (from : Standing S T). RepliesSoFar eq m limit (fresh from) left left_now old new) starts replied

  pub over_as_set : is_over start.account ≡ true → is_over (start_set eq m policy setup g).account ≡ true
  over_as_set over = subst (λ (from : Standing S T). is_over from.account ≡ true) starts over

  pub over_as_chosen : is_over (start_set eq m policy setup g).account ≡ true → is_over start.account ≡ true
  over_as_chosen over = subst (λ (from : Standing S T). is_over from.account ≡ true) (sym starts) over

-- ---- under the policies that the setup chooses

module _ (setup : Setup) (secret : List ℕ) (g : Picture) (chosen : Bool) (is : setup.basis.choice.secret ≡ chosen) where
  abbrev whole : Bool → Whole
  whole hidden = whole_if hidden setup.basis secret g

  module _ (limit : ℕ) (left : Option (List ℕ)) (result : Result SessionEnd SessionCut) where
    pub done_as_chosen : IfOk result (λ end. IfSome left (λ bytes. end ≡ (told_under (whole chosen) setup g limit bytes).end))
        → IfOk result (λ end. IfSome left (λ bytes. end ≡ (told_of setup secret g limit bytes).end))
    done_as_chosen done =
        subst (λ (hidden : Bool). IfOk result (λ (end : SessionEnd). IfSome left (λ (bytes : List ℕ). end ≡ (told_under (whole hidden) setup g limit bytes).end))) (sym is) done

    pub puts_as_chosen : (old new : Option (List ℕ)) → IfSome left (λ bytes. PutsOut old new (told_under (whole chosen) setup g limit bytes).pieces result)
        → IfSome left (λ bytes. PutsOut old new (told_of setup secret g limit bytes).pieces result)
    puts_as_chosen old new puts =
        subst (λ (hidden : Bool). IfSome left (λ (bytes : List ℕ). PutsOut old new (told_under (whole hidden) setup g limit bytes).pieces result)) (sym is) puts

  pub replies_as_chosen : (limit : ℕ) (left left_now old new : Option (List ℕ)) → RepliesSoFarUnder (whole chosen) setup g limit left left_now old new
      → RepliesSoFarOf setup secret g limit left left_now old new
  replies_as_chosen limit left left_now old new replied =
      subst (λ (hidden : Bool). RepliesSoFarUnder (whole hidden) setup g limit left left_now old new) (sym is) replied

  pub over_is_chosen : is_over (start_of_setup (whole chosen) setup g).account ≡ true → is_over_of setup secret g ≡ true
  over_is_chosen over = subst (λ (hidden : Bool). is_over (start_of_setup (whole hidden) setup g).account ≡ true) (sym is) over

  pub chosen_is_over : is_over_of setup secret g ≡ true → is_over (start_of_setup (whole chosen) setup g).account ≡ true
  chosen_is_over over = subst (λ (hidden : Bool). is_over (start_of_setup (whole hidden) setup g).account ≡ true) is over
