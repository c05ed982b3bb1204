use Rattle.std.proofs.Common.{rules, ◌≡◌, length, refl}
use Rattle.std.proofs.lemmas.Iterator.Adapters.{YieldsList-from_vec, fact_from_collect}
use Rattle.std.specs.Prelude.{vec_len}
use Rattle.std.specs.Vec.Iter.{into_iter_items}
use Rattle.pump.proofs.list_of.Goals as goal

pub returns-clause-list : goal.returns-clause-list
returns-clause-list c =
    let yields = YieldsList-from_vec (into_iter_items c.args.words) refl c.args.words.rest.ok.0 in
    let collected = fact_from_collect (λ xs list. (list.items ≡ xs) × (vec_len list ≡ length xs)) _ c.collect.ensures.ran yields in
    search (rules, collected)
