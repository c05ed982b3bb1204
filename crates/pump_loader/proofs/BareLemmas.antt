-- The start under a policy and that under one that mirrors it.
use Rattle.std.proofs.Common.{◌≡◌, ℕ, ◌*◌, ◌/◌, true, List, [], ◌∷◌, map, refl}
use Rattle.std.specs.List.{range_with_len}
use Rattle.image_format.specs.Picture.{Picture}
use Rattle.policy_trait.specs.Mirrors.{Mirrors}
use Rattle.policy_trait.specs.Model.{PolicyModel}
use Rattle.policy_choice.specs.All.{all, choice_state}
use Rattle.policy_choice.specs.Choice.{is_none}
use Rattle.policy_product.specs.Nothing.{nothing, no_tag}
use Rattle.policy_choice.proofs.NothingLemmas.{nothing_mirrors}
use Rattle.policy_choice.specs.declared.basis.Basis.{Basis}
use Rattle.tag_memory.specs.Hart.{fresh_hart}
use Rattle.tag_memory.specs.Maps.{hart_by}
use Rattle.engine_trait.specs.Maps.{core_by}
use Rattle.engine_trait.specs.Mirrored.{IsMirrored}
use Rattle.tag_loader.specs.Births.{birth_of}
use Rattle.tag_loader.specs.Start.{start_hart, start_harts, start_machine, start_ram, start_tag, start_tags}
use Rattle.pump_loader.specs.PlainLoads.{bare_start_of, start_of}

map_along : {A B C : Type 0} (f : A → B) (g : B → C) (h : A → C) → ((x : A) → h x ≡ g (f x)) → (xs : List A) → map h xs ≡ map g (map f xs)
map_along f g h each [] = refl
map_along f g h each (x ∷ xs) = λ j. each x j ∷ map_along f g h each xs j

module _ {S T U V : Type 0} (f : T → U) (m : PolicyModel T S) (s : S) (n : PolicyModel U V) (t : V) (mirrors : Mirrors f m s n t) (g : Picture) where
  start_hart_by : (entry : ℕ) → start_hart n t g entry ≡ hart_by f (start_hart m s g entry)
  start_hart_by entry = λ j. fresh_hart entry (mirrors.start_pc (birth_of g entry) j) (mirrors.plain j)

  start_harts_by : start_harts n t g ≡ map (hart_by f) (start_harts m s g)
  unfolding start_harts
  start_harts_by = map_along (start_hart m s g) (hart_by f) (start_hart n t g) start_hart_by g.entries

  start_tags_by : start_tags n t g ≡ map f (start_tags m s g)
  unfolding start_tags
  start_tags_by = map_along (start_tag m s g) f (start_tag n t g) (λ k. mirrors.start_word (birth_of g (4 * k))) (range_with_len 0 (g.ram / 4))

  start_core_by : (start_machine n t g).core ≡ core_by f (start_machine m s g).core
  unfolding start_machine start_ram
  start_core_by = λ j. record {
    harts = start_harts_by j;
    stops = (start_machine n t g).core.stops;
    ram = record { words = (start_machine n t g).core.ram.words; tags = start_tags_by j; plain = mirrors.plain j };
  }

pub bare_start_mirrors : (basis : Basis) (g : Picture) → is_none basis.choice ≡ true → IsMirrored no_tag all nothing (start_of basis g) (bare_start_of g)
unfolding start_machine
bare_start_mirrors basis g none = record {
  policy = nothing_mirrors basis g (record {}) none;
  core = start_core_by no_tag all (choice_state basis g) nothing (record {}) (nothing_mirrors basis g (record {}) none) g;
  halt = refl;
  uncached = record { ways = refl; table = refl; sets = refl };
  mirror_uncached = record { ways = refl; table = refl; sets = refl };
}
