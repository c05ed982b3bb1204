-- What a part's turns keep, each run of an image keeps in which the part is chosen, whatever whole policy the four policies are in.
use Rattle.std.proofs.Common.{◌≡◌, true, List, [], ap, subst, sym, ◌∙◌}
use Rattle.image_format.specs.Conditions.{IsImage}
use Rattle.image_format.specs.Picture.{Picture}
use Rattle.policy_trait.specs.Model.{PolicyModel}
use Rattle.policy_trait.specs.PolicyLaws.{KeepsLaws}
use Rattle.policy_choice.specs.All.{AllState, AllTag, choice_state}
use Rattle.policy_choice.specs.declared.basis.Basis.{Basis}
use Rattle.turn_steps.specs.Feeds.{Tape}
use Rattle.engine_trait.specs.Events.{Event}
use Rattle.engine_trait.specs.Machine.{IsMachine, Machine}
use Rattle.engine_trait.specs.Runs.{Item, run_along}
use Rattle.policy_parts.specs.Part.{IsPart}
use Rattle.policy_parts.specs.Lens.{Lens}
use Rattle.part_turns.specs.Keeps.{Keeps, RunKeeps}
use Rattle.part_turns.specs.Start.{first_machine}
use Rattle.part_turns.proofs.RunLemmas.{runs_keep}
use Rattle.tag_loader.specs.Births.{birth_of}
use Rattle.tag_loader.specs.Start.{memory_of, start_machine}
use Rattle.tag_loader.proofs.MemoryLemmas.{length-memory_of}
use Rattle.run_props.proofs.PartLemmas.{within}
use Rattle.run_props.proofs.StartLemmas.{seen_start}

-- the four's tags and values are read off the whole policy's, and its value at the start has those that the basis chooses
module _ {T S : Type 0} (w : PolicyModel T S) (holds : S → Type 0) (laws : KeepsLaws w holds) (tags : T → AllTag) (values : S → AllState)
    (basis : Basis) (g : Picture) (is : IsImage g) (s : S) (chosen : values s ≡ choice_state basis g) (held : holds s)
    (sound : IsMachine w (start_machine w s g)) (feed : Tape) (items : List Item) where
  -- v is the part's value at the start
  pub part_keeps : {U V : Type 0} (m : PolicyModel U V) (l : Lens AllTag AllState U V) (invariant : List (Event U) → Machine V U → Type 0)
      (guarantee : List (Event U) → Event U → Type 0) (v : V) → IsPart w m (within tags values l) → Keeps m invariant guarantee
      → l.is_on (choice_state basis g) ≡ true → l.value (choice_state basis g) ≡ v
      → invariant [] (first_machine m v (birth_of g) (memory_of g) g.entries)
      → RunKeeps (within tags values l) invariant guarantee (run_along w (start_machine w s g) feed items)
  unfolding start_machine
  part_keeps {U} {V} m l invariant guarantee v part keeps on value first =
      let inner : Lens T S U V = within tags values l in
      let is_on : l.is_on (values s) ≡ true = ap l.is_on chosen ∙ on in
      let seen = seen_start w m inner part s g is_on (length-memory_of g is)
      ∙ ap (λ (x : V). first_machine m x (birth_of g) (memory_of g) g.entries) (ap l.value chosen ∙ value) in
      runs_keep w m inner holds laws part invariant guarantee keeps (start_machine w s g) feed items is_on sound held
      (subst (invariant []) (sym seen) first)
