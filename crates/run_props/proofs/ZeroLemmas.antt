-- What malloc and free would make zero, whichever policies are chosen beside heap safety.
use Rattle.std.proofs.Common.{◌≡◌, ℕ, ◌==◌, Bool, true, false, Option, Some, Ok, Err, nat_lt, if◌then◌else◌, sym, ap, ◌∙◌}
use Rattle.live_blocks.specs.Space.{first_fit}
use Rattle.live_blocks.specs.declared.block.Block.{Block}
use Rattle.policy_trait.specs.Maps.{args_by, plan_by}
use Rattle.policy_trait.specs.declared.rules.Why.TheVariants as why
use Rattle.policy_trait.specs.declared.services.Args.{Args}
use Rattle.policy_trait.specs.declared.services.Plan.{Plan}
use Rattle.policy_trait.specs.declared.services.PlanEnd.TheVariants as plan_end
use Rattle.policy_trait.specs.declared.services.Words.{Words}
use Rattle.heap_policy.specs.Heap.{HeapState, block_limit, free_service, freeing, handing_out, heap, heap_knows, heap_plan, is_val, malloc_service, plan_at, plan_of_freeing, pointed_to, refused_plan, words_of}
use Rattle.heap_policy.specs.declared.tag.HeapTag.{HeapTag}
use Rattle.policy_choice.specs.All.{AllState, AllTag, all}
use Rattle.policy_parts.specs.Part.{Planned, others, own}
use Rattle.engine_trait.specs.Events.{Call}
use Rattle.shared_terms.proofs.CaseLemmas.{not_refused}
use Rattle.shared_terms.proofs.StepLemmas.{ok_is}
use Rattle.run_props.proofs.PartLemmas.{heap_is_part}
use Rattle.run_props.specs.Attacks.{WouldZero}
use Rattle.run_props.specs.Lenses.{heap_lens}

-- the plan makes the words of the range zero
abbrev Zeroes : {T : Type 0} → Plan T → Words → Type 0
Zeroes plan range = (plan.zero ≡ true) × (plan.range ≡ Some range)

module _ (state : HeapState) (a : Args HeapTag) (pc : HeapTag) (p : Plan HeapTag) where
  -- one that hands out a block
  handed_by : (base : ℕ) (value left : Bool)
      → (if value then (if left then Ok (plan_at state.next (words_of a.a0) pc (Some base)) else Err plan_end.Spent) else refused_plan why.Args) ≡ Ok p
      → Zeroes p (record { base = base; count = words_of a.a0 })
  handed_by base true true e =
      let same : handing_out state.next (record { base = base; count = words_of a.a0 }) pc ≡ p = ok_is _ p e in
      (ap (λ (q : Plan HeapTag). q.zero) (sym same), ap (λ (q : Plan HeapTag). q.range) (sym same))
  handed_by base true false e = not_refused e
  handed_by base false left e = not_refused e

  -- one that takes a block back
  freed_by : (block : Block) (same : Bool) → (if same then Ok (freeing block pc) else refused_plan why.NotLive) ≡ Ok p
      → Zeroes p (record { base = block.base; count = block.words })
  freed_by block true e =
      let same : freeing block pc ≡ p = ok_is (freeing block pc) p e in
      (ap (λ (q : Plan HeapTag). q.zero) (sym same), ap (λ (q : Plan HeapTag). q.range) (sym same))
  freed_by block false e = not_refused e

  malloc_zeroes : (base : ℕ) → first_fit state.space (words_of a.a0) ≡ Some base → heap_plan state malloc_service a pc ≡ Ok p
      → Zeroes p (record { base = base; count = words_of a.a0 })
  malloc_zeroes base fit e =
      handed_by base (is_val a.t0) (nat_lt state.next block_limit)
      (ap (λ (at : Option ℕ). if is_val a.t0 then (if nat_lt state.next block_limit then Ok (plan_at state.next (words_of a.a0) pc at) else Err plan_end.Spent) else refused_plan why.Args) (sym fit) ∙ e)

  free_zeroes : (block : Block) → pointed_to state.space a.t0 ≡ Some block → heap_plan state free_service a pc ≡ Ok p
      → Zeroes p (record { base = block.base; count = block.words })
  free_zeroes block live e = freed_by block (block.base == a.a0) (ap (plan_of_freeing a.a0 pc) (sym live) ∙ e)

module _ (policy : AllState) (call : Call AllTag) (on : heap_lens.is_on policy ≡ true) where
  -- the heap's own plan of a call of one of its services
  own_plan : (pc : AllTag) (plan : Plan AllTag) → heap_knows call.number ≡ true → all.plan policy call.number call.arguments pc ≡ Ok plan
      → heap_plan (heap_lens.value policy) call.number (args_by heap_lens.tag call.arguments) (heap_lens.tag pc) ≡ Ok (plan_by heap_lens.tag plan)
  own_plan pc plan known e =
      by_owner (heap_is_part.plan policy call.number call.arguments pc plan on (heap_is_part.knows policy call.number on known) e)
    where
      by_owner : Planned heap (heap_lens.value policy) call.number (args_by heap_lens.tag call.arguments) (heap_lens.tag pc) (plan_by heap_lens.tag plan)
          → heap_plan (heap_lens.value policy) call.number (args_by heap_lens.tag call.arguments) (heap_lens.tag pc) ≡ Ok (plan_by heap_lens.tag plan)
      by_owner (own knows service planned) = planned
      by_owner (others unknown service from_pc answers) = absurd (cc (known, unknown))

  pub malloc_would : (base : ℕ) → call.number ≡ malloc_service → first_fit (heap_lens.value policy).space (words_of call.arguments.a0) ≡ Some base
      → WouldZero policy call (record { base = base; count = words_of call.arguments.a0 })
  malloc_would base is fit pc plan e =
      malloc_zeroes (heap_lens.value policy) (args_by heap_lens.tag call.arguments) (heap_lens.tag pc) (plan_by heap_lens.tag plan) base fit
      (ap (λ n. heap_plan (heap_lens.value policy) n (args_by heap_lens.tag call.arguments) (heap_lens.tag pc)) (sym is)
      ∙ own_plan pc plan (ap heap_knows is) e)

  pub free_would : (block : Block) → call.number ≡ free_service → pointed_to (heap_lens.value policy).space (heap_lens.tag call.arguments.t0) ≡ Some block
      → WouldZero policy call (record { base = block.base; count = block.words })
  free_would block is live pc plan e =
      free_zeroes (heap_lens.value policy) (args_by heap_lens.tag call.arguments) (heap_lens.tag pc) (plan_by heap_lens.tag plan) block live
      (ap (λ n. heap_plan (heap_lens.value policy) n (args_by heap_lens.tag call.arguments) (heap_lens.tag pc)) (sym is)
      ∙ own_plan pc plan (ap heap_knows is) e)
