use Rattle.std.proofs.Common.{◌<◌, ap, ◌∙◌, sym, subst}
use Rattle.rule_cache.specs.Stores.{store_with}
use Rattle.set_cache.proofs.HeldLemmas.{kept_held, kept_there, number_within}
use Rattle.set_cache.proofs.cache.SetCacheRuleStore.keep.Goals as goal

pub index_mut-requires : goal.index_mut-requires
index_mut-requires c =
    let fields = c.self.inside in
    subst (λ n. c.number_of-number.result < n) (sym fields.sets.ok.0)
    (number_within c.args.key fields.ways fields.numbers fields.sets.items c.self.invariant c.number_of-number.result c.number_of-number.ensures)

pub invariant_of-self : goal.invariant_of-self
invariant_of-self c =
    let fields = c.self.inside in
    kept_held c.args.key fields.ways fields.numbers fields.sets.items c.self.invariant c.number_of-number.result c.number_of-number.ensures
    c.index_mut.result.now c.index_mut.ensures.value
    c.args.words c.keep_in.new.rules c.keep_in.ensures.kept c.keep_in.ensures.room

pub returns-clause-kept : goal.returns-clause-kept
returns-clause-kept c =
    let fields = c.self.inside in
    kept_there c.args.key fields.ways fields.numbers fields.sets.items c.self.invariant c.number_of-number.result c.number_of-number.ensures
    c.index_mut.result.now c.index_mut.ensures.value
    fields.hits fields.misses c.args.words c.keep_in.new.rules c.keep_in.ensures.kept
    ∙ ap (store_with c.args.key c.args.words) c.self.view_is
