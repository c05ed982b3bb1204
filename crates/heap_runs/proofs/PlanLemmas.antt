-- The plans that heap safety makes: a block handed out, none that fits, or a block taken back.
use Rattle.std.proofs.Common.{◌≡◌, ℕ, ◌==◌, Bool, true, false, Option, Some, None, Result, Ok, Err, if◌then◌else◌, refl, sym, ap, ◌∙◌, arith}
use Rattle.std.specs.Prelude.{nat_lt}
use Rattle.std.specs.List.{Contains, find}
use Rattle.std.proofs.lemmas.Bool.{eqb-true}
use Rattle.std.proofs.lemmas.Bool.Decides.{nat_tests}
use Rattle.policy_trait.specs.declared.rules.Why.TheVariants as why
use Rattle.policy_trait.specs.declared.services.Args.{Args}
use Rattle.policy_trait.specs.declared.services.Plan.{Plan}
use Rattle.policy_trait.specs.declared.services.PlanEnd.{PlanEnd}
use Rattle.policy_trait.specs.declared.services.PlanEnd.TheVariants as plan_end
use Rattle.live_blocks.specs.Space.{first_fit}
use Rattle.live_blocks.specs.declared.block.Block.{Block}
use Rattle.heap_policy.specs.Heap.{HeapState, block_limit, free_plan, plan_of_freeing, freeing, handing_out, heap_knows, heap_plan, is_val, malloc_plan, none_fits, plan_at, pointed_to, refused_plan, words_of}
use Rattle.heap_policy.specs.declared.tag.HeapTag.{HeapTag}
use Rattle.heap_policy.specs.declared.tag.HeapTag.TheVariants.{Val, Ptr, Static, Cell, Free}
use Rattle.live_blocks.proofs.ListLemmas.{found}

module _ (state : HeapState) (number : ℕ) (a : Args HeapTag) (pc : HeapTag) (p : Plan HeapTag) where
  -- what a plan of the policy's own is
  pub data IsOwn : Type 0 where
    hands_out : (at : ℕ) → number ≡ 48 → first_fit state.space (words_of a.a0) ≡ Some at
        → p ≡ handing_out state.next (record { base = at; count = words_of a.a0 }) pc → IsOwn
    finds_none : number ≡ 48 → p ≡ none_fits pc → IsOwn
    takes_back : (block : Block) → number ≡ 49 → Contains state.space.live block → a.t0 ≡ Ptr block.number → p ≡ freeing block pc → IsOwn

  -- a plan that is made
  abbrev made : Plan HeapTag → Result (Plan HeapTag) PlanEnd
  made plan = Ok plan

  plan_is : (plan : Plan HeapTag) → made plan ≡ Ok p → p ≡ plan
  plan_is plan e = cc

  placed_by : (at : Option ℕ) → number ≡ 48 → first_fit state.space (words_of a.a0) ≡ at
      → made (plan_at state.next (words_of a.a0) pc at) ≡ Ok p → IsOwn
  placed_by None is fit e = finds_none is (plan_is (none_fits pc) e)
  placed_by (Some at) is fit e = hands_out at is fit (plan_is (handing_out state.next (record { base = at; count = words_of a.a0 }) pc) e)

  malloc_by : (value left : Bool) → number ≡ 48
      → (if value then
      (if left then made (plan_at state.next (words_of a.a0) pc (first_fit state.space (words_of a.a0))) else Err plan_end.Spent)
      else refused_plan why.Args) ≡ Ok p
      → IsOwn
  malloc_by true true is e = placed_by (first_fit state.space (words_of a.a0)) is refl e
  malloc_by true false is e = absurd cc
  malloc_by false left is e = absurd cc

  freed_by : (block : Block) (same : Bool) → number ≡ 49 → Contains state.space.live block → a.t0 ≡ Ptr block.number
      → (if same then made (freeing block pc) else refused_plan why.NotLive) ≡ Ok p → IsOwn
  freed_by block true is live pointer e = takes_back block is live pointer (plan_is (freeing block pc) e)
  freed_by block false is live pointer e = absurd cc

  found_by : (named : ℕ) (holder : Option Block) → number ≡ 49 → a.t0 ≡ Ptr named → find (λ block. block.number == named) state.space.live ≡ holder
      → plan_of_freeing a.a0 pc holder ≡ Ok p → IsOwn
  found_by named None is pointer holds e = absurd cc
  found_by named (Some block) is pointer holds e =
      let is_live = found (λ block. block.number == named) state.space.live block holds in
      freed_by block (block.base == a.a0) is is_live.among (pointer ∙ ap Ptr (sym (eqb-true block.number named is_live.passes))) e

  pointed_by : (tag : HeapTag) → number ≡ 49 → a.t0 ≡ tag → plan_of_freeing a.a0 pc (pointed_to state.space tag) ≡ Ok p → IsOwn
  pointed_by (Ptr named) is pointer e = found_by named (find (λ block. block.number == named) state.space.live) is pointer refl e
  pointed_by Val is pointer e = absurd cc
  pointed_by (Static content) is pointer e = absurd cc
  pointed_by (Cell owner content) is pointer e = absurd cc
  pointed_by Free is pointer e = absurd cc

  by_number : (malloc : Bool) → (number == 48) ≡ malloc → heap_knows number ≡ true
      → (if malloc then malloc_plan state a pc else free_plan state a pc) ≡ Ok p → IsOwn
  by_number true is known e = malloc_by (is_val a.t0) (nat_lt state.next block_limit) (eqb-true number 48 is) e
  by_number false is known e = pointed_by a.t0 (grind (arith, nat_tests, is, known)) refl e

  pub own_is : heap_knows number ≡ true → heap_plan state number a pc ≡ Ok p → IsOwn
  own_is known e = by_number (number == 48) refl known e
