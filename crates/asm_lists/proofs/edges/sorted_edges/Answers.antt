use Rattle.std.proofs.lemmas.List.Filters.{dedup_is}
use Rattle.std.proofs.lemmas.List.Kept.{Contains-dedup, Contains-from_dedup, IsStrictlySortedBy-dedup}
use Rattle.std.proofs.lemmas.List.Sorted.{Contains-permutation, IsPermutation-sym}
use Rattle.asm_lists.proofs.EdgeLemmas.{edge_from_pair, made_of_all, pair_from_edge, pair_cmp_total, pair_eq_equivalence, pair_eq_exact, pairs_tied, rows}
use Rattle.asm_lists.proofs.edges.sorted_edges.Goals as goal

pub returns-clause-rows : goal.returns-clause-rows
returns-clause-rows c =
    let made = made_of_all _ _ _ _ c.deref-source-items.ensures.value c.loop-source-test.false c.loop-source.invariant.made in
    let is = dedup_is _ _ _ c.dedup.ensures.filtered in
    let fit = rw (made, is) at c.loop-source.invariant.fit in
    rw (made, is) (rows _ fit (IsStrictlySortedBy-dedup pair_cmp_total pairs_tied _ c.sort_unstable.ensures.sorted))

pub returns-clause-members : goal.returns-clause-members
returns-clause-members c =
    let made = made_of_all _ _ _ _ c.deref-source-items.ensures.value c.loop-source-test.false c.loop-source.invariant.made in
    let is = dedup_is _ _ _ c.dedup.ensures.filtered in
    let moved = c.sort_unstable.ensures.permutation in
    let back = IsPermutation-sym _ _ moved in
    λ edge. (
      λ has. Contains-permutation _ _ _ back (Contains-from_dedup _ _ _ (rw is at (pair_from_edge _ edge (rw made at has)))),
      λ has.
          let kept = Contains-dedup pair_eq_equivalence pair_eq_exact _ _ (Contains-permutation _ _ _ moved has) in
          rw (made, is) (edge_from_pair _ edge kept),
    )
