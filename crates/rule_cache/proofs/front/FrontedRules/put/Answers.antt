use Rattle.std.proofs.Common.{◌-◌, slice_get, ap, ◌∙◌}
use Rattle.rule_cache.specs.Fronts.{replayed}
use Rattle.rule_cache.proofs.FrontLemmas.{caught_front, emptied_front, put_front}
use Rattle.rule_cache.proofs.front.FrontedRules.put.Goals as goal

pub invariant_of-self : goal.invariant_of-self
invariant_of-self c =
    let fields = c.self.inside in
    let cache = c.catch_up.new.rules in
    let caught = ap (λ cache. cache.entries) c.catch_up.ensures.rules
    ∙ ap (λ slots. replayed slots fields.log.items fields.rules.entries) c.deref.ensures.value in
    let is = caught_front fields.slots.items fields.rules.entries c.self.invariant fields.log.items cache.entries caught in
    rw (c.empty_displaced.ensures.slots, c.in_err-replaced.ensures.err)
    (emptied_front fields.slots.items cache.entries is (slice_get cache.entries (cache.cap - 1)))

pub invariant_of-self-2 : goal.invariant_of-self-2
invariant_of-self-2 c =
    let fields = c.self.inside in
    let cache = c.catch_up.new.rules in
    let caught = ap (λ cache. cache.entries) c.catch_up.ensures.rules
    ∙ ap (λ slots. replayed slots fields.log.items fields.rules.entries) c.deref.ensures.value in
    let is = caught_front fields.slots.items fields.rules.entries c.self.invariant fields.log.items cache.entries caught in
    rw (c.empty_replaced.ensures, c.empty_displaced.ensures.slots, c.in_ok-replaced.ensures.entries)
    (put_front fields.slots.items cache.entries is cache.cap c.empty_displaced.ensures.valid c.args.key c.args.words c.in_ok-replaced.replaced
    c.in_ok-replaced.ensures.old)
