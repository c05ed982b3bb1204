-- What a run of an image keeps: the sentence of each chosen policy, in the subject's words.
use Rattle.std.specs.Prelude.{◌≡◌, ℕ, ◌+◌, true, List, [], map}
use Rattle.image_format.specs.Picture.{Picture}
use Rattle.turn_steps.specs.Feeds.{tape_of}
use Rattle.engine_trait.specs.Events.{Event}
use Rattle.engine_trait.specs.Machine.{Machine}
use Rattle.engine_trait.specs.Runs.{Item, Trace, run_along}
use Rattle.policy_choice.specs.All.{AllState, AllTag, all, choice_state, pair_of}
use Rattle.policy_choice.specs.declared.basis.Basis.{Basis}
use Rattle.tag_loader.specs.Births.{birth_of}
use Rattle.tag_loader.specs.Start.{memory_of, start_machine}
use Rattle.seal_runs.specs.SealInvariant.{SealInvariant}
use Rattle.seal_runs.specs.SealSafe.{SealSafe}
use Rattle.comp_runs.specs.CompInvariant.{CompInvariant}
use Rattle.comp_runs.specs.CompSafe.{CompSafe}
use Rattle.flow_runs.specs.FlowInvariant.{FlowInvariant}
use Rattle.flow_runs.specs.FlowSafe.{FlowSafe}
use Rattle.heap_runs.specs.HeapInvariant.{HeapInvariant}
use Rattle.heap_runs.specs.HeapSafe.{HeapSafe}
use Rattle.run_props.specs.Invariant.{MeetsInvariant}
use Rattle.run_props.specs.Lenses.{comp_lens, events_by, flow_lens, heap_lens, seal_lens}

-- the run of an image under the chosen policies, along any list of turns and fed bytes
abbrev pub run_of : Basis → Picture → List Item → Trace AllState AllTag
run_of basis g items = run_along all (start_machine all (choice_state basis g) g) (tape_of []) items

-- the address after the heap region's last word
abbrev pub heap_top : Picture → ℕ
heap_top g = g.heap_base + g.heap_bytes

module _ (basis : Basis) (g : Picture) where
  -- Each unsealing used its key; each store lies in its compartment's permitted words, and a compartment is entered by right
  -- alone; the image's code alone is run, and each indirect jump is a listed edge; each heap access lies in its pointer's live
  -- block.
  pub record IsSafe (events : List (Event AllTag)) : Type 0 where
    pub seal : basis.choice.seal ≡ true → SealSafe (events_by seal_lens events)
    pub comp : basis.choice.comp ≡ true → CompSafe (birth_of g) g.entries (events_by comp_lens events)
    pub flow : basis.choice.flow ≡ true → FlowSafe (birth_of g) (memory_of g) (map pair_of g.edges) (events_by flow_lens events)
    pub heap : basis.choice.heap ≡ true → HeapSafe g.heap_base (heap_top g) (events_by heap_lens events)

  -- a state that a run with these events came to is one of which the invariant of each chosen policy speaks
  pub record MeetsInvariants (events : List (Event AllTag)) (s : Machine AllState AllTag) : Type 0 where
    pub seal : basis.choice.seal ≡ true → MeetsInvariant seal_lens SealInvariant (events_by seal_lens events) s
    pub comp : basis.choice.comp ≡ true → MeetsInvariant comp_lens (CompInvariant (birth_of g) g.entries) (events_by comp_lens events) s
    pub flow : basis.choice.flow ≡ true → MeetsInvariant flow_lens (FlowInvariant (birth_of g) (memory_of g) (map pair_of g.edges)) (events_by flow_lens events) s
    pub heap : basis.choice.heap ≡ true → MeetsInvariant heap_lens (HeapInvariant g.heap_base (heap_top g)) (events_by heap_lens events) s
