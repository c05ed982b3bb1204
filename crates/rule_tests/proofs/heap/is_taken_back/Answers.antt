-- The plan that comes is a given one, and the one that was committed.
use Rattle.std.proofs.Common.{rules, ℕ, sym, ◌∙◌}
use Rattle.policy_trait.specs.UseLaws.{given_plan}
use Rattle.policy_trait.specs.declared.services.Args.{Args}
use Rattle.heap_policy.specs.Heap.{IsHeap, heap}
use Rattle.heap_policy.specs.HeapLaws.{heap_laws}
use Rattle.heap_policy.specs.declared.tag.HeapTag.{HeapTag}
use Rattle.heap_policy.specs.declared.tag.HeapTag.TheVariants.{Val}
use Rattle.rule_tests.proofs.heap.is_taken_back.Goals as goal

abbrev arguments : ℕ → HeapTag → Args HeapTag
arguments a0 t0 = record { a0 = a0; a1 = 0; a2 = 0; t0 = t0; t1 = Val; t2 = Val; ram = 4294967295 }

pub commit-requires : goal.commit-requires
commit-requires c =
    given_plan heap IsHeap heap_laws c.args.heap.now c.args.service (arguments c.args.a0 c.args.t0) c.plain.result c.in-Ok.plan
    (search rules) (sym c.plan.ensures ∙ c.in-Ok.is)

pub uncommit-requires : goal.uncommit-requires
uncommit-requires c = record {
  before = c.args.heap.now;
  held = c.plain.ensures.valid;
  given = given_plan heap IsHeap heap_laws c.args.heap.now c.args.service (arguments c.args.a0 c.args.t0) c.plain.result c.in-Ok.plan
      (search rules) (sym c.plan.ensures ∙ c.in-Ok.is);
  left = c.in_ok-commit-in-Ok.ensures.ok;
}
