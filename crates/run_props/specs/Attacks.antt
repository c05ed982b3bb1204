-- Attacks: what no turn of a ready hart does in a state that the lines speak of. Each such turn ends in a stop.
use Rattle.std.specs.Prelude.{◌≡◌, ℕ, ◌/◌, true, false, List, Some, Ok}
use Rattle.policy_trait.specs.declared.birth.Birth.{Birth}
use Rattle.policy_trait.specs.declared.services.Plan.{Plan}
use Rattle.policy_trait.specs.declared.services.Words.{Words}
use Rattle.engine_trait.specs.Events.{Asked, Call, Event, Touch}
use Rattle.sealing_policy.specs.Sealing.{unseal_service}
use Rattle.sealing_policy.specs.declared.tag.SealTag.{SealTag}
use Rattle.sealing_policy.specs.declared.tag.SealTag.TheVariants.{Key, Sealed}
use Rattle.compartment_policy.specs.declared.tag.CompartmentTag.{CompartmentTag}
use Rattle.heap_policy.specs.declared.tag.HeapTag.{HeapTag}
use Rattle.heap_policy.specs.declared.tag.HeapTag.TheVariants.{Ptr}
use Rattle.policy_choice.specs.All.{AllState, AllTag, all}
use Rattle.part_turns.specs.Moments.{is_jalr}
use Rattle.comp_runs.specs.CompSafe.{MayFollow, is_permitted, owner_at}
use Rattle.comp_runs.specs.CompTurn.{last_of as last_turn}
use Rattle.comp_runs.specs.OwnerBook.{covers, owner_book}
use Rattle.flow_policy.specs.declared.tag.FlowTag.{FlowTag}
use Rattle.flow_runs.specs.EdgeWalk.{Visit, visit_of, walk_of}
use Rattle.flow_runs.specs.FlowInvariant.{last_of}
use Rattle.flow_runs.specs.FlowSafe.{IsListed}
use Rattle.heap_runs.specs.BlockBook.{BlockBook}
use Rattle.heap_runs.specs.HeapSafe.{ReachesBlock, is_in_heap}

-- an unsealing without a sealed value in a0 and its key in a1
pub record UnsealsWithoutKey (event : Event SealTag) : Type 0 where
  pub call : Call SealTag
  pub called : event.call ≡ Some call
  pub unseals : call.number ≡ unseal_service
  pub without : (key : ℕ) → call.arguments.t0 ≡ Sealed key → call.arguments.t1 ≡ Key key → ⊥

-- a word outside the code, or one after a jump by register to which no edge leads from there
pub data GoesAstray (birth : ℕ → Birth) (words : List ℕ) (edges : List (ℕ × ℕ)) (before : List (Event FlowTag)) (event : Event FlowTag) : Type 0 where
  outside : (birth event.pc).code ≡ false → GoesAstray birth words edges before event
  unlisted : (x : Visit) → last_of (walk_of event.hart before) ≡ Some x → is_jalr x.word ≡ true
      → (IsListed birth words edges x (visit_of event) → ⊥) → GoesAstray birth words edges before event

-- whatever plan the policies together make of the call, it makes the words of the range zero
abbrev pub WouldZero : AllState → Call AllTag → Words → Type 0
WouldZero policy call range =
    (pc : AllTag) (plan : Plan AllTag) → all.plan policy call.number call.arguments pc ≡ Ok plan → (plan.zero ≡ true) × (plan.range ≡ Some range)

-- a store to a word that is not the compartment's and does not let it write, a service that would make such a word zero, or a
-- foreign word without right of entry
pub data Trespasses (birth : ℕ → Birth) (entries : List ℕ) (policy : AllState) (before : List (Event CompartmentTag)) (event : Event AllTag) : Type 0 where
  stores : (touch : Touch) → event.access ≡ Some touch → touch.stores ≡ true
      → is_permitted (owner_at (owner_book birth before) event) (owner_book birth before (touch.address / 4)) ≡ false
      → Trespasses birth entries policy before event
  zeroes : (call : Call AllTag) (range : Words) (word : ℕ) → event.call ≡ Some call → WouldZero policy call range → covers range word ≡ true
      → is_permitted (owner_at (owner_book birth before) event) (owner_book birth before word) ≡ false
      → Trespasses birth entries policy before event
  enters : (MayFollow (last_turn birth entries before event.hart).owner (last_turn birth entries before event.hart).jumped
      (owner_book birth before (event.pc / 4)) → ⊥) → Trespasses birth entries policy before event

-- an access by a pointer that does not reach its live block, or one to the heap by what is no pointer
pub data MissesBlock (base top : ℕ) (book : BlockBook) (event : Event HeapTag) : Type 0 where
  outside : (touch : Touch) (asked : Asked HeapTag) (number : ℕ) → event.access ≡ Some touch → event.asked ≡ Some asked → asked.inputs.t1 ≡ Ptr number
      → (ReachesBlock book asked.inputs.t1 touch → ⊥) → MissesBlock base top book event
  forged : (touch : Touch) (asked : Asked HeapTag) → event.access ≡ Some touch → event.asked ≡ Some asked → is_in_heap base top touch.address ≡ true
      → ((number : ℕ) → asked.inputs.t1 ≡ Ptr number → ⊥) → MissesBlock base top book event
