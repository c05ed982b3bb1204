-- Each turn under heap safety keeps the invariant, and does what is guaranteed.
use Rattle.std.proofs.Common.{◌≡◌, ℕ, true, List, [], ◌∷◌, ◌++◌, None, refl, sym, subst}
use Rattle.tag_memory.specs.Hart.{IsHart}
use Rattle.turn_steps.specs.declared.stop.Stop.TheVariants as stop
use Rattle.engine_trait.specs.Events.{Event}
use Rattle.engine_trait.specs.Machine.{CoreState, IsMachine, Machine, hart_at, is_ready_in, stopping}
use Rattle.engine_trait.proofs.MachineLemmas.{hart_is}
use Rattle.heap_policy.specs.Heap.{HeapState, heap}
use Rattle.heap_policy.specs.declared.tag.HeapTag.{HeapTag}
use Rattle.part_turns.specs.Keeps.{Keeps}
use Rattle.part_turns.specs.Moments.{service_of}
use Rattle.part_turns.specs.Turns.{Turns, exits, goes, idles, serves, stops}
use Rattle.part_turns.proofs.PlaceLemmas.{each_served, there}
use Rattle.heap_runs.specs.BlockBook.{BlockBook, block_book}
use Rattle.heap_runs.specs.HeapInvariant.{HeapInvariant, IsHartBelow}
use Rattle.heap_runs.specs.HeapSafe.{HeapTurn}
use Rattle.heap_runs.proofs.BookLemmas.{book_by}
use Rattle.heap_runs.proofs.KeptLemmas.{StaysMemory, goes_invariant, kept_invariant, same_memory}
use Rattle.heap_runs.proofs.GuaranteeLemmas.{exits_guaranteed, goes_guaranteed, unretired}
use Rattle.heap_runs.proofs.RuleLemmas.{pc_is, row_is}
use Rattle.heap_runs.proofs.ServingLemmas.{served}

module _ (base top : ℕ) (before : List (Event HeapTag)) (s : Machine HeapState HeapTag) (h : ℕ) (e : Event HeapTag)
    (is : IsMachine heap s) (invariant : HeapInvariant base top before s) where
  abbrev later : List (Event HeapTag)
  later = before ++ e ∷ []

  abbrev book : BlockBook
  book = block_book before

  -- the guarantee, and the invariant after
  abbrev Turned : Machine HeapState HeapTag → Type 0
  Turned t = HeapTurn base top book e × HeapInvariant base top later t

  -- where no service was carried out, and no word and no register changes
  unchanged : (core : CoreState HeapTag) → service_of e ≡ None → core.ram ≡ s.core.ram → core.harts ≡ s.core.harts
      → HeapInvariant base top later (record { policy = s.policy; core = core })
  unchanged core none ram harts =
      kept_invariant base top before s invariant later core (book_by before e None none)
      (subst (StaysMemory s.policy.next s.core.ram) (sym ram) (same_memory base top before s invariant))
      (λ n. subst (IsHartBelow s.policy.next) (same_hart n) (invariant.harts n))
    where
      same_hart : (n : ℕ) → hart_at s.core n ≡ hart_at core n
      same_hart n = cc

  sound_hart : is_ready_in s.core h ≡ true → IsHart (hart_at s.core h)
  sound_hart ready = (hart_is heap s is h (there s.core h ready)).shape

  turned : (t : Machine HeapState HeapTag) → Turns heap s h e t → Turned t
  turned t (idles waits its still none same) = subst Turned (sym same) (
    unretired base top book e still none,
    unchanged s.core none refl refl,
  )
  turned t (stops why ready its still none same) = subst Turned (sym same) (
    unretired base top book e still none,
    unchanged (stopping s.core h why) none refl refl,
  )
  turned t (exits look outs code allows none group no_access same) = subst Turned (sym same) (
    exits_guaranteed base top before s invariant h look outs e allows none no_access,
    unchanged (stopping s.core h (stop.Exit code)) none refl refl,
  )
  turned t (goes look outs register value allows none does same) = subst Turned (sym same) (
    goes_guaranteed base top before s invariant h look outs e allows register value none does,
    goes_invariant base top before s invariant h look outs is.ram.shape (row_is s h look outs e allows) register value does
        later (book_by before e None none) (sound_hart allows.ready) (pc_is s h look outs e allows),
  )
  turned t (serves look outs p words allows group no_access told planned ranged retagged same) = subst Turned (sym same)
      (served base top before s is invariant h look outs words e allows no_access (sound_hart allows.ready) p planned
      (record { told = told; left = each_served heap s.policy p s.core.ram is.ram.shape words ranged retagged }))

pub keeps : (base top : ℕ) → Keeps heap (HeapInvariant base top) (λ before event. HeapTurn base top (block_book before) event)
keeps base top = record { turn = λ before s h e t is invariant turns stay. turned base top before s h e is invariant t turns }
