use Rattle.std.proofs.Common.{codes, refl, ap, List, ℕ, Option}
use Rattle.pump_web.proofs.RunLemmas.{all_stayed, image_held}
use Rattle.pump_web.proofs.running.run_over.Goals as goal

pub returns-clause-due : goal.returns-clause-due
returns-clause-due c memory = c.pump.ensures.answers.exact (c.pump.ensures.answers.complete all_stayed memory)

pub returns-clause-prefix : goal.returns-clause-prefix
returns-clause-prefix c = c.pump.ensures.answers.prefix

pub returns-clause-saved : goal.returns-clause-saved
returns-clause-saved c held known memory =
    image_held _ _ _ _ _ c.pump.ensures.answers (c.pump.ensures.answers.complete all_stayed memory) refl held known

pub returns-clause-unsaved : goal.returns-clause-unsaved
returns-clause-unsaved c memory = ap (λ (held : List ℕ → Option (List ℕ)). held (codes "image")) (c.pump.ensures.answers.unsaved memory)
