-- The invariant stays where no block comes or goes: each word keeps its kind, and no tag names a block that was not handed out.
use Rattle.std.proofs.Common.{◌≡◌, ◌≢◌, ◌⊎◌, inl, inr, ℕ, ◌/◌, ◌<◌, true, false, List, length, refl, sym, ap, subst, arith}
use Rattle.std.proofs.lemmas.Bool.{cases_eq}
use Rattle.std.proofs.lemmas.List.{length-set}
use Rattle.rv_decode.specs.declared.groups.Group.{Group}
use Rattle.rv_decode.specs.declared.groups.Group.TheVariants as group
use Rattle.rv_step.specs.Accesses.{stored_in}
use Rattle.rv_step.specs.declared.accesses.Access.{Access}
use Rattle.rv_step.specs.declared.accesses.Access.TheVariants as access
use Rattle.rv_step.specs.declared.accesses.Width.{Width}
use Rattle.rv_step.specs.declared.accesses.Width.TheVariants.{Full}
use Rattle.policy_trait.specs.declared.rules.Ins.{Ins}
use Rattle.policy_trait.specs.declared.rules.Outs.{Outs}
use Rattle.tag_memory.specs.Hart.{HartState, IsHart, reg_value}
use Rattle.tag_memory.specs.Ram.{IsRam, RamState, ram_tag, ram_word}
use Rattle.turn_steps.specs.Effects.{with_store}
use Rattle.turn_steps.specs.Looks.{access_tag}
use Rattle.turn_steps.specs.declared.look.Look.{Look}
use Rattle.engine_trait.specs.Events.{Event}
use Rattle.engine_trait.specs.Machine.{CoreState, Machine, hart_at}
use Rattle.engine_trait.specs.Turn.{rule_inputs}
use Rattle.heap_policy.specs.Heap.{HeapState, effect_of, heap, uses_word}
use Rattle.heap_policy.specs.declared.tag.HeapTag.{HeapTag}
use Rattle.heap_policy.specs.declared.tag.HeapTag.TheVariants.{Val}
use Rattle.part_turns.specs.Turns.{Does, after_step, computes, loads, loads_part, moves, stores, stores_part}
use Rattle.part_turns.proofs.PlaceLemmas.{each_hart, each_register, each_stored, nth_tag, store_plain, store_tag, store_tag_other}
use Rattle.heap_runs.specs.BlockBook.{block_book}
use Rattle.heap_runs.specs.HeapInvariant.{HeapInvariant, IsBelow, IsHartBelow}
use Rattle.heap_runs.proofs.RuleLemmas.{IsRow, IsStored, no_word, result_below, stores_is, stores_part_is}
use Rattle.heap_runs.proofs.TagLemmas.{IsKept, holding_kept, same_kept}

-- memory of the same size in which each word is of the kind that it was, and names no block from a number on
pub record StaysMemory (next : ℕ) (old new : RamState HeapTag) : Type 0 where
  pub size : length new.words ≡ length old.words
  pub kinds : (n : ℕ) → n < length old.words → IsKept (nth_tag old n) (nth_tag new n)
  pub below : (n : ℕ) → IsBelow next (nth_tag new n)

module _ (base top : ℕ) (events : List (Event HeapTag)) (s : Machine HeapState HeapTag) (invariant : HeapInvariant base top events s) where
  abbrev next : ℕ
  next = s.policy.next

  pub same_memory : StaysMemory next s.core.ram s.core.ram
  same_memory = record { size = refl; kinds = λ n lower. same_kept (nth_tag s.core.ram n); below = invariant.words }

  -- another core, and a book that is the same
  pub kept_invariant : (later : List (Event HeapTag)) (core : CoreState HeapTag) → block_book later ≡ block_book events
      → StaysMemory next s.core.ram core.ram → ((h : ℕ) → IsHartBelow next (hart_at core h))
      → HeapInvariant base top later (record { policy = s.policy; core = core })
  kept_invariant later core same stays harts = record {
    from = invariant.from;
    to = invariant.to;
    space = invariant.space;
    live = let is = invariant.live in cc;
    next = let is = invariant.next in cc;
    static = λ n lower outside. (stays.kinds n (there n lower)).static (invariant.static n (there n lower) outside);
    cells = λ n lower inside. (stays.kinds n (there n lower)).cell _ (invariant.cells n (there n lower) inside);
    harts = harts;
    words = stays.below;
  }
    where
      there : (n : ℕ) → n < length core.ram.words → n < length s.core.ram.words
      there n lower = omega (arith, stays.size)

  -- ---- an instruction

  module _ (h : ℕ) (look : Look) (outs : Outs HeapTag) (ram_is : IsRam s.core.ram)
      (allowed : IsRow look.group (rule_inputs s.core h look) outs.result) where
    abbrev hart : HartState HeapTag
    hart = hart_at s.core h

    abbrev ram : RamState HeapTag
    ram = s.core.ram

    abbrev inputs : Ins HeapTag
    inputs = rule_inputs s.core h look

    -- memory after an access
    abbrev ram_after : Access → RamState HeapTag
    ram_after made = with_store ram made outs.result

    -- the word that is accessed
    word_is : {made : Access} → look.effect.access ≡ made → inputs.tm ≡ access_tag ram hart.plain made
    word_is is = ap (access_tag ram hart.plain) is

    word_below : (place : ℕ) → inputs.tm ≡ ram_tag ram place → IsBelow next inputs.tm
    word_below place is = subst (IsBelow next) (sym is) (invariant.words (place / 4))

    unused : (g : Group) → look.group ≡ g → uses_word (effect_of g) ≡ false → uses_word (effect_of look.group) ≡ true
        → IsBelow next inputs.tm
    unused g is none used = absurd (let same = ap (λ (g : Group). uses_word (effect_of g)) is in cc)

    used_below : (register value : ℕ) → Does hart ram look register value → uses_word (effect_of look.group) ≡ true
        → IsBelow next inputs.tm
    used_below register value (moves is none same) used = unused group.Move is refl used
    used_below register value (loads place is made same) used = word_below place (word_is made)
    used_below register value (loads_part place width signed is made) used = word_below place (word_is made)
    used_below register value (stores place is made none) used = word_below place (word_is made)
    used_below register value (stores_part place stored width is made none) used = word_below place (word_is made)
    used_below register value (computes is none) used = unused look.group refl (no_word look.group is) used

    module _ (register value : ℕ) (does : Does hart ram look register value) where
      below : IsBelow next outs.result
      below =
          result_below next look.group inputs.t1 inputs.t2 inputs.tm
          ((invariant.harts h).registers look.places.first) ((invariant.harts h).registers look.places.second)
          (used_below register value does) outs.result (allowed.row look.group refl)

      -- ---- what is stored

      store_kept : (place : ℕ) (width : Width) (value : ℕ) → IsKept (ram_tag ram place) outs.result → (n : ℕ) → n < length ram.words
          → IsKept (nth_tag ram n) (nth_tag (ram_after (access.Store place width value)) n)
      store_kept place width value kind n lower = by_place (cases_eq n (place / 4))
        where
          by_place : (n ≡ place / 4) ⊎ (n ≢ place / 4) → IsKept (nth_tag ram n) (nth_tag (ram_after (access.Store place width value)) n)
          by_place (inl same) =
              subst (IsKept (nth_tag ram n)) (sym (store_tag ram place width value outs.result n ram_is same lower))
              (subst (λ (k : ℕ). IsKept (nth_tag ram k) outs.result) (sym same) kind)
          by_place (inr differs) =
              subst (IsKept (nth_tag ram n)) (sym (store_tag_other ram place width value outs.result n differs)) (same_kept (nth_tag ram n))

      stored_memory : (place : ℕ) (width : Width) (value : ℕ) → IsKept (ram_tag ram place) outs.result
          → StaysMemory next ram (ram_after (access.Store place width value))
      stored_memory place width value kind = record {
        size = length-set ram.words (place / 4) (stored_in (ram_word ram place) place width value);
        kinds = store_kept place width value kind;
        below = each_stored (λ word tag. IsBelow next tag) ram place width value outs.result ram_is below invariant.words;
      }

      storing : (place : ℕ) (width : Width) (value : ℕ) → look.effect.access ≡ access.Store place width value → inputs.tm ≡ ram_tag ram place
          → IsStored inputs.t1 inputs.tm outs.result → StaysMemory next ram (ram_after look.effect.access)
      storing place width value is old stored =
          let kind = holding_kept stored.content inputs.tm outs.result stored.holds in
          subst (λ (made : Access). StaysMemory next ram (ram_after made)) (sym is)
          (stored_memory place width value (subst (λ (tag : HeapTag). IsKept tag outs.result) old kind))

      -- an access that stores nothing
      untouched : (made : Access) → look.effect.access ≡ made → ram_after made ≡ ram → StaysMemory next ram (ram_after look.effect.access)
      untouched made is same =
          subst (λ (made : Access). StaysMemory next ram (ram_after made)) (sym is)
          (subst (StaysMemory next ram) (sym same) same_memory)

      memory_by : Does hart ram look register value → StaysMemory next ram (ram_after look.effect.access)
      memory_by (moves is none same) = untouched access.None none refl
      memory_by (loads place is made same) = untouched (access.Load place Full false) made refl
      memory_by (loads_part place width signed is made) = untouched (access.Load place width signed) made refl
      memory_by (stores place is made none) =
          storing place Full (reg_value hart look.places.second) made (word_is made) (stores_is look.group inputs outs.result allowed is)
      memory_by (stores_part place stored width is made none) =
          storing place width stored made (word_is made) (stores_part_is look.group inputs outs.result allowed is)
      memory_by (computes is none) = untouched access.None none refl

      -- ---- the invariant

      pub goes_invariant : (later : List (Event HeapTag)) → block_book later ≡ block_book events → IsHart hart → outs.pc ≡ Val
          → HeapInvariant base top later (after_step heap s h look outs register value)
      goes_invariant later same hart_is plain_pc =
          kept_invariant later (after_step heap s h look outs register value).core same (memory_by does)
          (each_hart (IsHartBelow next) s.core h _ (ram_after look.effect.access) (store_plain ram look.effect.access outs.result)
          (record {
            pc = subst (IsBelow next) (sym plain_pc) tt;
            registers = each_register (λ value tag. IsBelow next tag) hart register value outs.result hart_is below (invariant.harts h).registers;
          })
          invariant.harts)
