use Rattle.std.proofs.Common.{◌≡◌, ◌∙◌, length, subst, sym}
use Rattle.std.proofs.lemmas.List.{length-map}
use Rattle.undo_log.specs.Past.{record_with}
use Rattle.pump_engine.specs.Pump.{PumpState, account_by_words, decode}
use Rattle.pump_engine.proofs.remembering.RememberingPumpEngine.remembered.Goals as goal

-- as many records of tags as of words
pub returns : goal.returns
returns g c =
    let m = g.P.Policy.model in
    let p = c.self.inside.pump in
    subst (λ (q : PumpState g.row.P.Denot g.row.P-Tag.Denot). c.remembered.result ≡ length (account_by_words m q).past.kept) c.self.view_is
    (c.remembered.ensures ∙ sym (length-map p.past.kept (record_with (decode m p))))
