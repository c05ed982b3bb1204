-- Along any list of turns and fed bytes, engines whose machines differ in secret values alone have the same account.
use Rattle.std.proofs.Common.{◌≡◌, Bool, List, [], ◌∷◌, ap, ◌∙◌}
use Rattle.policy_trait.specs.Model.{PolicyModel}
use Rattle.policy_trait.specs.declared.services.Plan.{Plan}
use Rattle.turn_steps.specs.Feeds.{Tape, with_fed}
use Rattle.engine_trait.specs.Runs.{Item, fed, turn}
use Rattle.engine_trait.specs.Standing.{Standing, step}
use Rattle.run_props.specs.EngineRuns.{engine_along}
use Rattle.secret_runs.specs.Hides.{Hides}
use Rattle.secret_runs.specs.Same.{AlikeStandings}
use Rattle.secret_runs.proofs.RunLemmas.{step_alike}

module _ {S T : Type 0} (is_open : T → Bool) (m : PolicyModel T S) (like : S → S → Type 0) (kin : S → Plan T → Plan T → Type 0)
    (hides : Hides is_open m like kin) (eq : T → T → Bool) where
  pub accounts_same : (items : List Item) (e d : Standing S T) (feed : Tape) → AlikeStandings is_open like e d
      → (engine_along eq m d feed items).account ≡ (engine_along eq m e feed items).account
  accounts_same [] e d feed alike = alike.account
  accounts_same (turn h ∷ items) e d feed alike =
      let steps = step_alike is_open m like kin hides eq e d alike feed h in
      ap (λ (left : Tape). (engine_along eq m (step eq m d feed h).standing left items).account) steps.feed
      ∙ accounts_same items (step eq m e feed h).standing (step eq m d feed h).standing (step eq m e feed h).feed steps.standing
  accounts_same (fed byte ∷ items) e d feed alike = accounts_same items e d (with_fed feed (byte ∷ [])) alike
