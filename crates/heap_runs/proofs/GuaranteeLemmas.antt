-- What a turn under heap safety does, in a state of which the invariant holds: its accesses reach what they may, and it executes no
-- word of the heap.
use Rattle.std.proofs.Common.{◌∙◌, ◌≡◌, ℕ, ◌+◌, ◌*◌, ◌/◌, ◌%◌, ◌<◌, ◌≤◌, Bool, true, false, ◌&&◌, List, length, Option, Some, None, refl, sym, ap, subst, arith}
use Rattle.std.specs.Prelude.{nat_le, nat_lt}
use Rattle.std.specs.List.{Contains, find}
use Rattle.std.proofs.lemmas.Bool.{eqb-true, false_from_ne_true}
use Rattle.std.proofs.lemmas.List.Elements.{All-contains}
use Rattle.std.proofs.lemmas.Option.{same_Some}
use Rattle.rv_step.specs.Accesses.{EndsWithin, IsAligned, bytes_of}
use Rattle.rv_step.specs.declared.accesses.Access.{Access}
use Rattle.rv_step.specs.declared.accesses.Access.TheVariants as access
use Rattle.rv_step.specs.declared.accesses.Width.{Width}
use Rattle.rv_step.specs.declared.accesses.Width.TheVariants.{Byte, Half, Full}
use Rattle.policy_trait.specs.declared.rules.Ins.{Ins}
use Rattle.policy_trait.specs.declared.rules.Outs.{Outs}
use Rattle.policy_trait.specs.declared.services.Answer.{Answer}
use Rattle.tag_memory.specs.Hart.{reg_value}
use Rattle.tag_memory.specs.Ram.{ram_bytes, ram_tag}
use Rattle.turn_steps.specs.Looks.{access_tag}
use Rattle.turn_steps.specs.declared.look.Look.{Look}
use Rattle.engine_trait.specs.Events.{Asked, Event, Touch, is_retirement, touch_of}
use Rattle.engine_trait.specs.Machine.{Machine, hart_at}
use Rattle.engine_trait.specs.Turn.{rule_inputs}
use Rattle.live_blocks.specs.Space.{IsWithin, end_of}
use Rattle.live_blocks.specs.declared.block.Block.{Block}
use Rattle.heap_policy.specs.Heap.{HeapState, heap, is_reached}
use Rattle.heap_policy.specs.declared.tag.Content.{Content}
use Rattle.heap_policy.specs.declared.tag.HeapTag.{HeapTag}
use Rattle.heap_policy.specs.declared.tag.HeapTag.TheVariants.{Val, Ptr, Static, Cell, Free}
use Rattle.part_turns.specs.Moments.{Service, service_of}
use Rattle.part_turns.specs.Turns.{Allows, Does, computes, loads, loads_part, moves, stores, stores_part}
use Rattle.part_turns.proofs.PlaceLemmas.{some_bytes}
use Rattle.heap_runs.specs.BlockBook.{BlockBook, block_book}
use Rattle.heap_runs.specs.HeapInvariant.{HeapInvariant, IsCellOf, is_in_block}
use Rattle.heap_runs.specs.HeapSafe.{HeapTurn, ReachesBlock, is_in_heap}
use Rattle.live_blocks.proofs.ListLemmas.{found}
use Rattle.heap_runs.proofs.FindLemmas.{lies_in}
use Rattle.heap_runs.proofs.RuleLemmas.{IsRow, loads_part_reach, loads_reach, row_is, stores_is, stores_part_is}
use Rattle.heap_runs.proofs.TagLemmas.{not_both, static_is}

-- ---- a word that an address reaches

-- the pointer's block is the one that has the word
record IsPointed (holder : Option Block) (first : HeapTag) : Type 0 where
  block : Block
  holds : holder ≡ Some block
  pointer : first ≡ Ptr block.number

free_unreached : {P : Type 0} (first : HeapTag) → is_reached first Free ≡ true → P
free_unreached Val e = absurd cc
free_unreached (Ptr number) e = absurd cc
free_unreached (Static content) e = absurd cc
free_unreached (Cell number content) e = absurd cc
free_unreached Free e = absurd cc

pointer_is : (first : HeapTag) (number : ℕ) (content : Content) → is_reached first (Cell number content) ≡ true → first ≡ Ptr number
pointer_is (Ptr number) owner content e = ap Ptr (eqb-true number owner e)
pointer_is Val owner content e = absurd cc
pointer_is (Static old) owner content e = absurd cc
pointer_is (Cell number old) owner content e = absurd cc
pointer_is Free owner content e = absurd cc

value_is : (first : HeapTag) (content : Content) → is_reached first (Static content) ≡ true → first ≡ Val
value_is Val content e = refl
value_is (Ptr number) content e = absurd cc
value_is (Static old) content e = absurd cc
value_is (Cell number old) content e = absurd cc
value_is Free content e = absurd cc

pointed : (holder : Option Block) (first word : HeapTag) → IsCellOf holder word → is_reached first word ≡ true → IsPointed holder first
pointed None first word cell reached = free_unreached first (subst (λ (tag : HeapTag). is_reached first tag ≡ true) cell reached)
pointed (Some block) first word cell reached = record {
  block = block;
  holds = refl;
  pointer = pointer_is first block.number cell.0 (subst (λ (tag : HeapTag). is_reached first tag ≡ true) cell.1 reached);
}

-- an access within a word ends where the block does, or before
ends_within : (place : ℕ) (width : Width) (block : Block) → place % bytes_of width ≡ 0 → block.base % 4 ≡ 0 → 4 * (place / 4) < end_of block
    → place + bytes_of width ≤ block.base + 4 * block.words
ends_within place Byte block aligned even below = omega arith
ends_within place Half block aligned even below = omega arith
ends_within place Full block aligned even below = omega arith

-- what is to be shown of an access by an address with that tag
record IsSafe (base top : ℕ) (book : BlockBook) (first : HeapTag) (touch : Touch) : Type 0 where
  inside : is_in_heap base top touch.address ≡ true → ReachesBlock book first touch
  outside : is_in_heap base top touch.address ≡ false → first ≡ Val

-- ---- a turn that does not retire

pub unretired : (base top : ℕ) (book : BlockBook) (e : Event HeapTag) → is_retirement e ≡ false → service_of e ≡ None → HeapTurn base top book e
unretired base top book e waits none = record {
  numbers = λ x answer number is. absurd cc;
  inside = λ touch asked is. absurd cc;
  outside = λ touch asked is. absurd cc;
  fetched = λ is. absurd cc;
}

module _ (base top : ℕ) (events : List (Event HeapTag)) (s : Machine HeapState HeapTag) (invariant : HeapInvariant base top events s) where
  abbrev book : BlockBook
  book = block_book events

  -- the word that holds an address lies in the heap where the address does
  in_heap_word : (address : ℕ) → is_in_heap base top (4 * (address / 4)) ≡ is_in_heap base top address
  in_heap_word address = ap (λ (w : ℕ). nat_le base w && nat_lt w top) (let e : 4 * (4 * (address / 4) / 4) ≡ 4 * (address / 4) = omega arith in e)

  -- ---- an access

  reaches : (place : ℕ) (width : Width) (is_store : Bool) (first : HeapTag) → place % bytes_of width ≡ 0
      → IsPointed (find (is_in_block (4 * (place / 4))) s.policy.space.live) first
      → ReachesBlock book first (record { address = place; bytes = bytes_of width; stores = is_store })
  reaches place width is_store first aligned pointed =
      let is = found (is_in_block (4 * (place / 4))) s.policy.space.live pointed.block pointed.holds in
      let within = All-contains (IsWithin s.policy.space.base s.policy.space.top) s.policy.space.live pointed.block invariant.space.within is.among in
      let lies = lies_in (4 * (place / 4)) pointed.block is.passes in
      record {
        block = pointed.block;
        live = subst (λ (live : List Block). Contains live pointed.block) invariant.live is.among;
        pointer = pointed.pointer;
        from = omega (arith, lies.0);
        to = ends_within place width pointed.block aligned within.aligned lies.1;
      }

  touches : (place : ℕ) (width : Width) (is_store : Bool) (first : HeapTag) → place % bytes_of width ≡ 0
      → place + bytes_of width ≤ ram_bytes s.core.ram → is_reached first (ram_tag s.core.ram place) ≡ true
      → IsSafe base top book first (record { address = place; bytes = bytes_of width; stores = is_store })
  touches place width is_store first aligned within reached =
      let there : place / 4 < length s.core.ram.words = omega (arith, some_bytes width) in
      record {
        inside = λ heaped. reaches place width is_store first aligned
            (pointed (find (is_in_block (4 * (place / 4))) s.policy.space.live) first (ram_tag s.core.ram place)
            (invariant.cells (place / 4) there (subst (λ (b : Bool). b ≡ true) (sym (in_heap_word place)) heaped)) reached);
        outside = λ elsewhere.
            let static = invariant.static (place / 4) there (subst (λ (b : Bool). b ≡ false) (sym (in_heap_word place)) elsewhere) in
            value_is first static.0 (subst (λ (tag : HeapTag). is_reached first tag ≡ true) static.1 reached);
      }

  abbrev Safe : Access → HeapTag → Type 0
  Safe made first = (touch : Touch) → touch_of made ≡ Some touch → IsSafe base top book first touch

  no_touch : (made : Access) (first : HeapTag) → made ≡ access.None → Safe made first
  no_touch made first none = subst (λ (a : Access). Safe a first) (sym none) (λ touch e. absurd cc)

  -- ---- an allowed instruction

  module _ (h : ℕ) (look : Look) (outs : Outs HeapTag) (e : Event HeapTag) (allows : Allows heap s h look outs e) where
    abbrev made : Access
    made = look.effect.access

    abbrev inputs : Ins HeapTag
    inputs = rule_inputs s.core h look

    -- the tags of the address and of the word there
    abbrev first : HeapTag
    first = inputs.t1

    abbrev word : HeapTag
    word = inputs.tm

    word_is : {access : Access} → made ≡ access → word ≡ access_tag s.core.ram (hart_at s.core h).plain access
    word_is is = ap (access_tag s.core.ram (hart_at s.core h).plain) is

    row : IsRow look.group inputs outs.result
    row = row_is s h look outs e allows

    -- a static word is none of the heap
    outside_heap : is_in_heap base top e.pc ≡ false
    outside_heap = false_from_ne_true (is_in_heap base top e.pc) (λ heaped.
        let at = (hart_at s.core h).pc in
        let same : is_in_heap base top (4 * (at / 4)) ≡ true = let w = in_heap_word at in let p = allows.pc in cc in
        not_both (find (is_in_block (4 * (at / 4))) s.policy.space.live) (ram_tag s.core.ram at)
        (static_is (ram_tag s.core.ram at) row.static)
        (invariant.cells (at / 4) allows.seen.there same))

    guaranteed : ((x : Service HeapTag) (answer : Answer HeapTag) (number : ℕ) → service_of e ≡ Some x → x.number ≡ 48 → x.answer ≡ Some answer
        → answer.tag ≡ Ptr number → number ≡ length book) → Safe made first → HeapTurn base top book e
    guaranteed numbers safe = record {
      numbers = numbers;
      inside = λ touch asked is touched asks. subst (λ (tag : HeapTag). is_in_heap base top touch.address ≡ true → ReachesBlock book tag touch)
          (tag_is asked asks) (safe touch (touch_is touch touched)).inside;
      outside = λ touch asked is touched asks. subst (λ (tag : HeapTag). is_in_heap base top touch.address ≡ false → tag ≡ Val)
          (tag_is asked asks) (safe touch (touch_is touch touched)).outside;
      fetched = λ is. outside_heap;
    }
      where
        touch_is : (touch : Touch) → e.access ≡ Some touch → touch_of made ≡ Some touch
        touch_is touch touched = let is = allows.access in cc

        tag_is : (asked : Asked HeapTag) → e.asked ≡ Some asked → first ≡ asked.inputs.t1
        tag_is asked asks = ap (λ (a : Asked HeapTag). a.inputs.t1)
            (same_Some (record { group = look.group; inputs = inputs }) asked (let is = allows.asked in cc))

    -- the access of what it does
    touches_there : (place : ℕ) (width : Width) (is_store : Bool) → place % bytes_of width ≡ 0 → place + bytes_of width ≤ ram_bytes s.core.ram
        → word ≡ ram_tag s.core.ram place → is_reached first word ≡ true → (touch : Touch)
        → Some (record { address = place; bytes = bytes_of width; stores = is_store }) ≡ Some touch → IsSafe base top book first touch
    touches_there place width is_store aligned within tag reached touch e =
        subst (IsSafe base top book first) (same_Some (record { address = place; bytes = bytes_of width; stores = is_store }) touch e)
        (touches place width is_store first aligned within (subst (λ (t : HeapTag). is_reached first t ≡ true) tag reached))

    load_safe : (place : ℕ) (width : Width) (signed : Bool) → made ≡ access.Load place width signed → word ≡ ram_tag s.core.ram place
        → is_reached first word ≡ true → Safe made first
    load_safe place width signed is tag reached = subst (λ (a : Access). Safe a first) (sym is)
        (touches_there place width false (subst IsAligned is allows.seen.aligned)
        (subst (EndsWithin (ram_bytes s.core.ram)) is allows.seen.in_memory) tag reached)

    store_safe : (place : ℕ) (width : Width) (value : ℕ) → made ≡ access.Store place width value → word ≡ ram_tag s.core.ram place
        → is_reached first word ≡ true → Safe made first
    store_safe place width value is tag reached = subst (λ (a : Access). Safe a first) (sym is)
        (touches_there place width true (subst IsAligned is allows.seen.aligned)
        (subst (EndsWithin (ram_bytes s.core.ram)) is allows.seen.in_memory) tag reached)

    does_safe : (register value : ℕ) → Does (hart_at s.core h) s.core.ram look register value → Safe made first
    does_safe register value (moves is none same) = no_touch made first none
    does_safe register value (loads place is made_is same) = load_safe place Full false made_is (word_is made_is) (loads_reach look.group inputs outs.result row is)
    does_safe register value (loads_part place width signed is made_is) =
        load_safe place width signed made_is (word_is made_is) (loads_part_reach look.group inputs outs.result row is)
    does_safe register value (stores place is made_is none) =
        store_safe place Full (reg_value (hart_at s.core h) look.places.second) made_is (word_is made_is) (stores_is look.group inputs outs.result row is).reached
    does_safe register value (stores_part place stored width is made_is none) =
        store_safe place width stored made_is (word_is made_is) (stores_part_is look.group inputs outs.result row is).reached
    does_safe register value (computes is none) = no_touch made first none

    -- ---- the turn

    pub goes_guaranteed : (register value : ℕ) → service_of e ≡ None → Does (hart_at s.core h) s.core.ram look register value → HeapTurn base top book e
    goes_guaranteed register value none does = guaranteed (λ x answer number is. absurd cc) (does_safe register value does)

    pub exits_guaranteed : service_of e ≡ None → made ≡ access.None → HeapTurn base top book e
    exits_guaranteed none no_access = guaranteed (λ x answer number is. absurd cc) (no_touch made first no_access)

    -- a service whose answer, if it is a pointer of 48, has the next number
    pub serves_guaranteed : (x : Service HeapTag) → service_of e ≡ Some x → made ≡ access.None
        → ((answer : Answer HeapTag) (number : ℕ) → x.number ≡ 48 → x.answer ≡ Some answer → answer.tag ≡ Ptr number → number ≡ length book)
        → HeapTurn base top book e
    serves_guaranteed x served no_access next = guaranteed
        (λ y answer number is called answered tagged.
        let same : x ≡ y = same_Some x y (let first = served in let second = is in cc) in
        next answer number (ap (λ (z : Service HeapTag). z.number) same ∙ called) (ap (λ (z : Service HeapTag). z.answer) same ∙ answered) tagged)
        (no_touch made first no_access)
