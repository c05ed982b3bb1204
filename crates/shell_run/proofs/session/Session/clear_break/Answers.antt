use Rattle.std.proofs.Common.{rules, ◌≡◌, ◌==◌, not, filter}
use Rattle.arrayvec.proofs.ArrayVecLemmas.{filter-from_retain}
use Rattle.shell_run.proofs.session.Session.clear_break.Goals as goal

pub returns-clause-after : goal.returns-clause-after
returns-clause-after g c =
    let items : c.retain.new.self.items ≡ filter (λ place. not (place == c.args.address)) c.self.inside.breaks.items
    = filter-from_retain _ (λ place. not (place == c.args.address)) _ (λ x b f y called. search rules) _ _ c.retain.ensures.filtered in
    search rules
