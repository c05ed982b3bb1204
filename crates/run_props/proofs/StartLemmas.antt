-- The start of a machine under a whole policy: it is sound, and a part of the policy sees in it its own start.
use Rattle.std.proofs.Common.{◌≡◌, ℕ, ◌*◌, ◌/◌, ◌%◌, ◌≤◌, ◌&&◌, true, Option, None, length, map, refl, sym, ◌∙◌, arith}
use Rattle.std.specs.Prelude.{nat_le}
use Rattle.std.specs.List.{All, range_with_len}
use Rattle.std.proofs.lemmas.Bool.{eqb-true, leb-true}
use Rattle.std.proofs.lemmas.List.{length-map, length-replicate}
use Rattle.std.proofs.lemmas.List.FromFn.{length-range_with_len}
use Rattle.std.proofs.lemmas.List.Elements.{All-map}
use Rattle.std.proofs.lemmas.List.Sums.{AllPass-from_list_all}
use Rattle.std.proofs.lemmas.Simd.{map-map}
use Rattle.image_format.specs.Conditions.{IsImage, is_aligned, is_place, is_ram}
use Rattle.image_format.specs.Picture.{Picture}
use Rattle.image_format.proofs.FieldLemmas.{both}
use Rattle.policy_trait.specs.Model.{PolicyModel}
use Rattle.tag_memory.specs.Hart.{IsHartOf, fresh_hart}
use Rattle.tag_memory.specs.Maps.{hart_by}
use Rattle.tag_memory.specs.Ram.{IsRam}
use Rattle.turn_steps.specs.declared.stop.Stop.{Stop}
use Rattle.engine_trait.specs.Machine.{IsCore, IsMachine, fresh_core}
use Rattle.policy_parts.specs.Part.{IsPart}
use Rattle.policy_parts.specs.Lens.{Lens}
use Rattle.part_turns.specs.Maps.{seen_by}
use Rattle.part_turns.specs.Start.{first_hart, first_machine}
use Rattle.tag_loader.specs.Births.{birth_of}
use Rattle.tag_loader.specs.Start.{memory_of, start_hart, start_harts, start_machine, start_ram, start_tag, start_tags}
use Rattle.tag_loader.proofs.MemoryLemmas.{length-memory_of}

-- ---- the memory's size, in numbers

record IsSize (ram : ℕ) : Type 0 where
  aligned : ram % 4 ≡ 0
  some : 4 ≤ ram
  few : ram ≤ 16777216

size_is : (ram : ℕ) → is_ram ram ≡ true → IsSize ram
size_is ram is =
    let parts = both (is_aligned ram && nat_le 4 ram) (nat_le ram 16777216) is in
    let low = both (is_aligned ram) (nat_le 4 ram) parts.0 in
    record { aligned = eqb-true (ram % 4) 0 low.0; some = leb-true 4 ram low.1; few = leb-true ram 16777216 parts.1 }

-- ---- the start is sound

module _ {T S : Type 0} (w : PolicyModel T S) (s : S) (g : Picture) (is : IsImage g) where
  hart_sound : (entry : ℕ) → is_place g.ram entry ≡ true → IsHartOf (w.plain s) (start_hart w s g entry)
  hart_sound entry place = record {
    shape = record {
      values = length-replicate {A = ℕ} 31 0;
      tags = length-replicate 31 (w.plain s);
      aligned = eqb-true (entry % 4) 0 (both (is_aligned entry) _ place).0;
    };
    plain = refl;
  }

  harts_sound : All (IsHartOf (w.plain s)) (start_harts w s g)
  unfolding start_harts
  harts_sound =
      All-map (IsHartOf (w.plain s)) (start_hart w s g) g.entries
      λ k d below. hart_sound _ (AllPass-from_list_all (is_place g.ram) g.entries is.entries k d below)

  core_sound : IsCore (fresh_core (start_harts w s g) (start_ram w s g))
  unfolding start_harts
  core_sound =
      let harts = both (nat_le 1 (length g.entries)) (nat_le (length g.entries) 8) is.harts in
      let count : length (map (start_hart w s g) g.entries) ≡ length g.entries = length-map g.entries (start_hart w s g) in
      let some : 1 ≤ length g.entries = leb-true 1 (length g.entries) harts.0 in
      let few : length g.entries ≤ 8 = leb-true (length g.entries) 8 harts.1 in
      record { some = omega arith; few = omega arith; stops = length-replicate {A = Option Stop} 8 None }

  ram_sound : IsRam (start_ram w s g)
  unfolding start_ram start_tags
  ram_sound =
      let size = size_is g.ram is.ram in
      let count = length-memory_of g is in
      let tags : length (map (start_tag w s g) (range_with_len 0 (g.ram / 4))) ≡ g.ram / 4 =
      length-map (range_with_len 0 (g.ram / 4)) (start_tag w s g) ∙ length-range_with_len 0 (g.ram / 4) in
      record { tagged = tags ∙ sym count; some = omega arith; few = omega arith }

  pub sound_start : w.room s ≤ g.ram → IsMachine w (start_machine w s g)
  unfolding start_machine start_ram
  sound_start room =
      let size = size_is g.ram is.ram in
      let count = length-memory_of g is in
      record { core = core_sound; harts = harts_sound; ram = record { shape = ram_sound; plain = refl }; room = omega arith }

-- ---- the start as a part sees it

module _ {T S U V : Type 0} (w : PolicyModel T S) (m : PolicyModel U V) (l : Lens T S U V) (part : IsPart w m l) (s : S) (g : Picture)
    (on : l.is_on s ≡ true) where
  hart_seen : (entry : ℕ) → hart_by l.tag (start_hart w s g entry) ≡ first_hart m (l.value s) (birth_of g) (memory_of g) g.entries entry
  hart_seen entry = λ j. fresh_hart entry (part.start_pc s (birth_of g entry) on j) (part.plain s on j)

  harts_seen : map (hart_by l.tag) (start_harts w s g) ≡ map (first_hart m (l.value s) (birth_of g) (memory_of g) g.entries) g.entries
  unfolding start_harts
  harts_seen = map-map (hart_by l.tag) (start_hart w s g) g.entries ∙ (λ j. map (λ entry. hart_seen entry j) g.entries)

  tags_seen : length (memory_of g) ≡ g.ram / 4
      → map l.tag (start_tags w s g) ≡ map (λ n. m.start_word (l.value s) (birth_of g (4 * n))) (range_with_len 0 (length (memory_of g)))
  unfolding start_tags
  tags_seen count =
      map-map l.tag (start_tag w s g) (range_with_len 0 (g.ram / 4))
      ∙ (λ j. map (λ n. part.start_word s (birth_of g (4 * n)) on j) (range_with_len 0 (sym count j)))

  pub seen_start : length (memory_of g) ≡ g.ram / 4
      → seen_by l (start_machine w s g) ≡ first_machine m (l.value s) (birth_of g) (memory_of g) g.entries
  unfolding start_machine start_ram
  seen_start count = λ j. record {
    policy = l.value s;
    core = fresh_core (harts_seen j) (record { words = memory_of g; tags = tags_seen count j; plain = part.plain s on j });
  }
