-- The machine at the start is sound.
use Rattle.std.proofs.Common.{◌≡◌, ◌∙◌, ◌⊎◌, inl, inr, sym, ℕ, ◌+◌, ◌*◌, ◌%◌, ◌<◌, ◌≤◌, List, [], ◌∷◌, ◌++◌, Option, None}
use Rattle.std.proofs.Common.{ap, arith, get_or, length, map, refl, take}
use Rattle.std.specs.List.{All}
use Rattle.std.proofs.lemmas.Bool.{cases_lt}
use Rattle.std.proofs.lemmas.List.{length-replicate, length_push, map_more}
use Rattle.std.proofs.lemmas.List.Elements.{All-map}
use Rattle.image_format.specs.Conditions.{IsPlace}
use Rattle.image_format.specs.Picture.{Picture}
use Rattle.policy_trait.specs.Model.{PolicyModel}
use Rattle.policy_trait.specs.declared.birth.Birth.{Birth}
use Rattle.tag_memory.specs.Hart.{HartState, IsHartOf, fresh_hart}
use Rattle.tag_memory.specs.Ram.{IsRam, RamState, ram_bytes}
use Rattle.turn_steps.specs.declared.stop.Stop.{Stop}
use Rattle.engine_trait.specs.Machine.{IsMachine}
use Rattle.plain_engine.specs.Plain.{machine_of}
use Rattle.tag_loader.specs.Births.{birth_of}
use Rattle.tag_loader.specs.Start.{start_hart, start_tag}

fresh_hart_is : {T : Type 0} (pc : ℕ) (pc_tag plain : T) → pc % 4 ≡ 0 → IsHartOf plain (fresh_hart pc pc_tag plain)
fresh_hart_is pc pc_tag plain aligned =
    record { shape = record { values = length-replicate {A = ℕ} 31 0; tags = length-replicate 31 plain; aligned = aligned }; plain = refl }

-- a list with one element more, counted
pub one_more : {A : Type 0} (old new : List A) (x : A) (count : ℕ) → length old ≡ count → new ≡ old ++ x ∷ []
    → length new ≡ count + 1
one_more old new x count size pushed = ap length pushed ∙ length_push old x ∙ ap (λ n. n + 1) size

-- as many as the entries, whose number is from 1 to 8
pub one_counted : (count index entries : ℕ) → count ≡ index → entries ≤ index → 1 ≤ entries → 1 ≤ count
one_counted count index entries same all some = omega arith

pub few_counted : (count index entries : ℕ) → count ≡ index → index ≤ entries → entries ≤ 8 → count ≤ 8
few_counted count index entries same all few = omega arith

-- a list of f's values from 0 on, once those of a run are behind it
pub run_more : {T : Type 0} (f : ℕ → T) (old new : List T) (n end : ℕ) (tag : T) → ((k : ℕ) (d : T) → k < n → get_or old k d ≡ f k) → length old ≡ n
    → ((k : ℕ) (d : T) → k < length old → get_or new k d ≡ get_or old k d)
    → ((k : ℕ) (d : T) → length old ≤ k → k < end → get_or new k d ≡ tag)
    → ((k : ℕ) → n ≤ k → k < end → f k ≡ tag) → (k : ℕ) (d : T) → k < end → get_or new k d ≡ f k
run_more {T} f old new n end tag made size kept added same k d lt = at (cases_lt k n)
  where
    at : (k < n) ⊎ (n ≤ k) → get_or new k d ≡ f k
    at (inl below) = kept k d (omega (arith, below, size)) ∙ made k d below
    at (inr behind) = added k d (omega (arith, behind, size)) lt ∙ sym (same k behind lt)

module _ {S T : Type 0} (m : PolicyModel T S) (policy : S) where
  -- the tag of each word of a run, of which the image says the same
  pub run_tag : (g births : Picture) (n end : ℕ) (birth : Birth) (tag : T) → ((at : ℕ) → 4 * n ≤ at → birth_of births at ≡ birth_of g at)
      → ((k : ℕ) → n ≤ k → k < end → birth_of births (4 * k) ≡ birth) → tag ≡ m.start_word policy birth
      → (k : ℕ) → n ≤ k → k < end → start_tag m policy g k ≡ tag
  run_tag g births n end birth tag rest told is k least lt =
      ap (m.start_word policy) (sym (rest (4 * k) (omega (arith, least))) ∙ told k least lt) ∙ sym is

  pub harts_are_plain : (g : Picture) → All (IsPlace g.ram) g.entries → All (IsHartOf (m.plain policy)) (map (start_hart m policy g) g.entries)
  harts_are_plain g places =
      All-map (IsHartOf (m.plain policy)) (start_hart m policy g) g.entries
      λ i d lt. fresh_hart_is _ _ (m.plain policy) (places i d lt).aligned

  -- the hart of one entry more
  pub harts_more : (g : Picture) (entries : List ℕ) (i : ℕ) (old new : List (HartState T)) (hart : HartState T)
      (birth : Birth) (pc_tag plain : T)
      → i < length entries → old ≡ map (start_hart m policy g) (take i entries) → new ≡ old ++ hart ∷ []
      → hart ≡ fresh_hart (get_or entries i 0) pc_tag plain → pc_tag ≡ m.start_pc policy birth
      → birth ≡ birth_of g (get_or entries i 0) → plain ≡ m.plain policy
      → new ≡ map (start_hart m policy g) (take (i + 1) entries)
  harts_more g entries i old new hart birth pc_tag plain inside made pushed fresh at_pc born is_plain =
      let more = map_more (start_hart m policy g) entries i 0 inside in
      cc

  pub start_is_machine : (harts : List (HartState T)) (ram : RamState T) → 1 ≤ length harts → length harts ≤ 8 → All (IsHartOf (m.plain policy)) harts
      → IsRam ram → ram.plain ≡ m.plain policy → m.room policy ≤ ram_bytes ram → IsMachine m (machine_of policy harts ram)
  start_is_machine harts ram some few all ram_is plain room = record {
    core = record { some = some; few = few; stops = length-replicate {A = Option Stop} 8 None };
    harts = all;
    ram = record { shape = ram_is; plain = plain };
    room = room;
  }
