-- Where no policy is chosen, an engine that keeps rules shows the same as one that keeps none: the plain tag alone ever has
-- a word, so tags never run out.
use Rattle.std.proofs.Common.{◌≡◌, ℕ, ◌/◌, ◌≤◌, Bool, true, false, ◌&&◌, not, List, [], ◌∷◌, ◌++◌, All, map, None, refl, sym}
use Rattle.std.specs.List.{range_with_len}
use Rattle.std.proofs.lemmas.List.Elements.{All-append, All-map}
use Rattle.image_format.specs.Picture.{Picture}
use Rattle.compartment_policy.specs.Compartments.{CompartmentState}
use Rattle.heap_policy.specs.Heap.{HeapState}
use Rattle.policy_trait.specs.Model.{PolicyModel}
use Rattle.policy_choice.specs.All.{AllState, AllTag, all, all_eq, choice_state, part_if}
use Rattle.policy_choice.specs.Choice.{is_none}
use Rattle.policy_choice.specs.declared.basis.Basis.{Basis}
use Rattle.tag_memory.specs.Hart.{HartState}
use Rattle.turn_steps.specs.Feeds.{Tape}
use Rattle.engine_trait.specs.Accounts.{Account, plain_account, with_tags}
use Rattle.engine_trait.specs.Machine.{Machine}
use Rattle.rounds.specs.Course.{rounds}
use Rattle.rounds.specs.Same.{ShowsSame}
use Rattle.pump_loader.specs.PlainLoads.{start_of}
use Rattle.cache_size.specs.declared.size.CacheSize.{CacheSize}
use Rattle.engine_trait.specs.Standing.{Standing}
use Rattle.tag_loader.specs.Start.{start_hart, start_harts, start_machine, start_tag, start_tags}
use Rattle.word_loader.specs.CachedStart.{cached_standing, first_tags, pc_tags}
use Rattle.pump_cli.proofs.OneTagLemmas.{HasOneTag, with_plain}
use Rattle.pump_cli.proofs.OneTagRunLemmas.{beside_same}

-- ---- the choice of none

one_tag_if : (seal comp flow on_heap hidden : Bool) (counts : CompartmentState) (edges : List (ℕ × ℕ)) (region : HeapState)
    → (not seal && not comp && not flow && not on_heap && not hidden) ≡ true
    → HasOneTag all_eq all (part_if seal 0, (part_if comp counts, (part_if flow edges, part_if on_heap region)))
one_tag_if false false false false hidden counts edges region none = record {
  same = refl;
  rule = λ g x. refl;
  offers_none = λ k. refl;
  start_pc = λ b. refl;
  start_word = λ b. refl;
}
one_tag_if true comp flow on_heap hidden counts edges region none = absurd (cc none)
one_tag_if false true flow on_heap hidden counts edges region none = absurd (cc none)
one_tag_if false false true on_heap hidden counts edges region none = absurd (cc none)
one_tag_if false false false true hidden counts edges region none = absurd (cc none)

-- its policy has one tag
none_has_one : (basis : Basis) (g : Picture) → is_none basis.choice ≡ true → HasOneTag all_eq all (choice_state basis g)
none_has_one basis g none = one_tag_if basis.choice.seal basis.choice.comp basis.choice.flow basis.choice.heap basis.choice.secret _ _ _ none

-- ---- the start

module _ {S T : Type 0} (eq : T → T → Bool) (m : PolicyModel T S) (policy : S) (one_tag : HasOneTag eq m policy) (g : Picture) where
  abbrev IsPlain : T → Type 0
  IsPlain tag = tag ≡ m.plain policy

  pcs_plain : All IsPlain (pc_tags m policy g)
  unfolding start_harts
  pcs_plain =
      All-map IsPlain (λ (hart : HartState T). hart.pc_tag) (map (start_hart m policy g) g.entries)
      (All-map (λ (hart : HartState T). IsPlain hart.pc_tag) (start_hart m policy g) g.entries (λ k d below. one_tag.start_pc _))

  words_plain : All IsPlain (start_tags m policy g)
  unfolding start_tags
  words_plain = All-map IsPlain (start_tag m policy g) (range_with_len 0 (g.ram / 4)) (λ k d below. one_tag.start_word _)

  -- so one tag has a word
  start_plain : with_tags eq [] (first_tags m policy g) ≡ m.plain policy ∷ []
  start_plain = with_plain eq (m.plain policy) one_tag.same (pc_tags m policy g ++ start_tags m policy g) (All-append IsPlain (pc_tags m policy g) (start_tags m policy g) pcs_plain words_plain)

-- where no policy is chosen too
pub none_start : (basis : Basis) (g : Picture) → is_none basis.choice ≡ true → with_tags all_eq [] (first_tags all (choice_state basis g) g) ≡ all.plain (choice_state basis g) ∷ []
none_start basis g none = start_plain all_eq all (choice_state basis g) (none_has_one basis g none) g

-- ---- the rounds

-- an account where just the plain tag has a word, and that of an engine that keeps no rules
pub none_shows : (basis : Basis) (g : Picture) (s : Machine AllState AllTag) (a : Account AllTag) (turns from : ℕ) (feed : Tape) → is_none basis.choice ≡ true
    → s.policy ≡ choice_state basis g → a.table ≡ all.plain s.policy ∷ [] → 1 ≤ a.limit → a.halt ≡ None
    → ShowsSame (rounds all_eq all turns from (record { machine = s; account = a }) feed) (rounds all_eq all turns from (record { machine = s; account = plain_account }) feed)
none_shows basis g s a turns from feed none policy seen some_tags runs =
    beside_same all_eq all (choice_state basis g) (none_has_one basis g none) turns from (record { machine = s; account = a }) (record { machine = s; account = plain_account }) feed
    (record {
      machine = refl;
      policy_is = policy;
      halt = sym runs;
      one_word = record { table = seen; some_tags = some_tags };
      uncached = record { ways = refl; table = refl; sets = refl };
    })

-- the image's start under the four, with so much room
abbrev pub four_cached : Basis → CacheSize → ℕ → Picture → Standing AllState AllTag
four_cached basis cache tags g = cached_standing all_eq all (choice_state basis g) g cache.sets cache.ways tags

-- an engine that keeps rules, from the image's start, shows the same as one that keeps none
pub none_runs : (basis : Basis) (cache : CacheSize) (tags : ℕ) (g : Picture) (turns from : ℕ) (feed : Tape) → is_none basis.choice ≡ true → 1 ≤ tags
    → ShowsSame (rounds all_eq all turns from (four_cached basis cache tags g) feed) (rounds all_eq all turns from (start_of basis g) feed)
unfolding start_machine
none_runs basis cache tags g turns from feed none some_tags =
    none_shows basis g (start_machine all (choice_state basis g) g) (four_cached basis cache tags g).account turns from feed none refl (none_start basis g none) some_tags refl
