use Rattle.std.proofs.Common.{◌≡◌, Err, IfOk, false, subst, true}
use Rattle.engine_trait.specs.Accounts.{is_over}
use Rattle.engine_trait.specs.Standing.{with_history_for}
use Rattle.engine_trait.specs.declared.ends.LoadEnd.TheVariants as load_end
use Rattle.pump_engine.specs.Pump.{standing_by_words}
use Rattle.pump_loader.specs.Loads.{CachedLoad, cached_start_by}
use Rattle.word_loader.specs.CachedStart.{cached_account, cached_standing}
use Rattle.pump_loader.proofs.load.PumpLoad.start.Goals as goal

pub returns-clause-start : goal.returns-clause-start
returns-clause-start g c =
    let load = c.self.inside in
    let most = (g.H.WordLog.past c.args.log).most in
    subst (λ (load : CachedLoad). IfOk c.start_cached.result (λ engine. standing_by_words g.W.Policy.model engine ≡ with_history_for most (cached_start_by g.W.Tag.PartialEq.eq g.W.Policy.model g.W.Whole.chosen load))) c.self.view_is
    (subst (λ (policy : g.row.W.Denot). IfOk c.start_cached.result (λ engine. standing_by_words g.W.Policy.model engine ≡ with_history_for most (cached_standing g.W.Tag.PartialEq.eq g.W.Policy.model policy load.image.now load.cache.sets load.cache.ways load.tags)))
    c.in-Ok.ensures.value c.start_cached.ensures.start)

pub returns-clause-within : goal.returns-clause-within
returns-clause-within g c =
    let load = c.self.inside in
    subst (λ (load : CachedLoad). IfOk c.start_cached.result (λ engine. is_over (cached_start_by g.W.Tag.PartialEq.eq g.W.Policy.model g.W.Whole.chosen load).account ≡ false)) c.self.view_is
    (subst (λ (policy : g.row.W.Denot). IfOk c.start_cached.result (λ engine. is_over (cached_account g.W.Tag.PartialEq.eq g.W.Policy.model policy load.image.now load.cache.sets load.cache.ways load.tags) ≡ false))
    c.in-Ok.ensures.value c.start_cached.ensures.within)

pub returns-clause-out : goal.returns-clause-out
returns-clause-out g c =
    let load = c.self.inside in
    subst (λ (load : CachedLoad). c.start_cached.result ≡ Err load_end.TagsOut → is_over (cached_start_by g.W.Tag.PartialEq.eq g.W.Policy.model g.W.Whole.chosen load).account ≡ true) c.self.view_is
    (subst (λ (policy : g.row.W.Denot). c.start_cached.result ≡ Err load_end.TagsOut → is_over (cached_account g.W.Tag.PartialEq.eq g.W.Policy.model policy load.image.now load.cache.sets load.cache.ways load.tags) ≡ true)
    c.in-Ok.ensures.value c.start_cached.ensures.out)
