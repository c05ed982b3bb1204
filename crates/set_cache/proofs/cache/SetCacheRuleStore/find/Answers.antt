use Rattle.std.proofs.Common.{◌<◌, sym, ap, ◌∙◌, subst}
use Rattle.rule_cache.specs.Stores.{looked_for}
use Rattle.set_cache.proofs.HeldLemmas.{hit_there, miss_there, moved_held, number_within}
use Rattle.set_cache.proofs.cache.SetCacheRuleStore.find.Goals as goal

pub index_mut-requires : goal.index_mut-requires
index_mut-requires c =
    let fields = c.self.inside in
    subst (λ n. c.number_of-number.result < n) (sym fields.sets.ok.0)
    (number_within c.args.key.now fields.ways fields.numbers fields.sets.items c.self.invariant c.number_of-number.result c.number_of-number.ensures)

pub invariant_of-self : goal.invariant_of-self
invariant_of-self c =
    let fields = c.self.inside in
    let key = c.args.key.now in
    moved_held key fields.ways fields.numbers fields.sets.items c.self.invariant c.number_of-number.result c.number_of-number.ensures
    c.index_mut.result.now c.index_mut.ensures.value
    c.find_in-found.new.rules c.find_in-found.ensures.moved c.find_in-found.ensures.room

pub invariant_of-self-else-is_some : goal.invariant_of-self-else-is_some
invariant_of-self-else-is_some c =
    let fields = c.self.inside in
    let key = c.args.key.now in
    moved_held key fields.ways fields.numbers fields.sets.items c.self.invariant c.number_of-number.result c.number_of-number.ensures
    c.index_mut.result.now c.index_mut.ensures.value
    c.find_in-found.new.rules c.find_in-found.ensures.moved c.find_in-found.ensures.room

pub returns-then-is_some-clause-state : goal.returns-then-is_some-clause-state
returns-then-is_some-clause-state c =
    let fields = c.self.inside in
    let key = c.args.key.now in
    rw c.count_up.ensures (
    hit_there key fields.ways fields.numbers fields.sets.items c.self.invariant c.number_of-number.result c.number_of-number.ensures
    c.index_mut.result.now c.index_mut.ensures.value
    fields.hits fields.misses c.find_in-found.new.rules c.find_in-found.ensures.moved c.find_in-found.result c.find_in-found.ensures.found
    (sym c.is_some.ensures ∙ c.if-is_some.true)
    ∙ ap (looked_for key) c.self.view_is
    )

pub returns-else-is_some-clause-state : goal.returns-else-is_some-clause-state
returns-else-is_some-clause-state c =
    let fields = c.self.inside in
    let key = c.args.key.now in
    rw c.count_up-else-is_some.ensures (
    miss_there key fields.ways fields.numbers fields.sets.items c.self.invariant c.number_of-number.result c.number_of-number.ensures
    c.index_mut.result.now c.index_mut.ensures.value
    fields.hits fields.misses c.find_in-found.new.rules c.find_in-found.ensures.moved c.find_in-found.result c.find_in-found.ensures.found
    (sym c.is_some.ensures ∙ c.if-is_some.false)
    ∙ ap (looked_for key) c.self.view_is
    )
