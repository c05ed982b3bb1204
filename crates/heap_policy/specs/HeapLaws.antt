-- Heap safety keeps the laws of a policy.
use Rattle.std.proofs.Common.{◌≡◌, ℕ, ◌+◌, ◌-◌, ◌*◌, ◌%◌, ◌^◌, ◌<◌, ◌≤◌, ◌==◌, Bool, true, false, not, List, length, Option, Some, None, Ok, Err, IsTrue, nat_lt, if◌then◌else◌, refl, sym, ap, ◌∙◌, subst, arith}
use Rattle.std.proofs.lemmas.Bool.{eqb-true, ne_eqb}
use Rattle.std.proofs.lemmas.Bool.Decides.{nat_tests}
use Rattle.std.proofs.lemmas.List.Elements.{All-contains, All-filter, All-push, All-weaker}
use Rattle.std.proofs.lemmas.Option.{none-some, same_Some}
use Rattle.std.specs.List.{All, filter, find}
use Rattle.std.specs.Option.{ForSome}
use Rattle.live_blocks.specs.Fit.{found_first}
use Rattle.live_blocks.proofs.BackLemmas.{goes_free, gone, newest_goes, put_back}
use Rattle.live_blocks.proofs.ListLemmas.{found}
use Rattle.live_blocks.proofs.PlaceLemmas.{few_below, length_put}
use Rattle.live_blocks.specs.Space.{IsSpace, IsWithin, first_fit, region, with_block}
use Rattle.live_blocks.specs.SpaceEdits.{first_within, space_filter, space_insert}
use Rattle.live_blocks.specs.declared.block.Block.{Block}
use Rattle.shared_terms.proofs.CaseLemmas.{not_refused}
use Rattle.shared_terms.proofs.StepLemmas.{ok_is}
use Rattle.rv_decode.specs.declared.groups.Group.{Group}
use Rattle.policy_trait.proofs.AnswerLemmas.{plain_keeps}
use Rattle.policy_trait.specs.PolicyLaws.{IsRange, KeepsLaws}
use Rattle.policy_trait.specs.Model.{IsCommitted, IsGiven, masked_inputs}
use Rattle.policy_trait.specs.declared.rules.Ins.{Ins}
use Rattle.policy_trait.specs.declared.rules.Why.TheVariants as why
use Rattle.policy_trait.specs.declared.services.Answer.{Answer}
use Rattle.policy_trait.specs.declared.services.Args.{Args}
use Rattle.policy_trait.specs.declared.services.Plan.{Plan}
use Rattle.policy_trait.specs.declared.services.PlanEnd.TheVariants as plan_end
use Rattle.policy_trait.specs.declared.services.Rest.TheVariants as rest
use Rattle.policy_trait.specs.declared.services.Words.{Words}
use Rattle.heap_policy.specs.Heap.{CanHandBack, CanHandOut, CanPutBack, HeapState, IsHeap, block_at, block_limit, outs_or_refusal, plan_of_freeing, freeing, handed_back, handed_out, handing_out, heap, heap_commit, heap_ignores, heap_knows, heap_plan, heap_rule, heap_uncommit, effect_of, free_plan, free_service, ignores_by, is_static, is_val, live_again, malloc_plan, malloc_service, none_fits, plan_at, pointed_to, refused_plan, result_by, taken_back, uncommitted, words_of}
use Rattle.heap_policy.specs.declared.table.Effect.{Effect}
use Rattle.heap_policy.specs.declared.table.Effect.TheVariants.{GoesOn, TakesFirst, TakesSecond, TakesBoth, Moves, Loads, LoadsPart, Stores, StoresPart, Adds, Subtracts}
use Rattle.heap_policy.specs.declared.tag.HeapTag.{HeapTag}
use Rattle.heap_policy.specs.declared.tag.HeapTag.TheVariants.{Val, Ptr, Static, Cell, Free}

-- ---- the masks

-- the inputs with each that a group with this effect ignores made plain
abbrev seen : Effect → Ins HeapTag → Ins HeapTag
seen effect x = masked_inputs (ignores_by effect) Val x

result_masked : (effect : Effect) (x : Ins HeapTag)
    → result_by effect x.t1 x.t2 x.tm ≡ result_by effect (seen effect x).t1 (seen effect x).t2 (seen effect x).tm
result_masked GoesOn x = refl
result_masked TakesFirst x = refl
result_masked TakesSecond x = refl
result_masked TakesBoth x = refl
result_masked Moves x = refl
result_masked Loads x = refl
result_masked LoadsPart x = refl
result_masked Stores x = refl
result_masked StoresPart x = refl
result_masked Adds x = refl
result_masked Subtracts x = refl

rule_masked : (g : Group) (x : Ins HeapTag) → heap_rule g x ≡ heap_rule g (masked_inputs (heap_ignores g) Val x)
rule_masked g x = ap (λ result. outs_or_refusal g (if is_static x.ci then result else None)) (result_masked (effect_of g) x)

-- ---- the plans

-- the words are those of the live block of this number
record IsLiveRange (state : HeapState) (number : ℕ) (range : Option Words) : Type 0 where
  words : Words
  range_is : range ≡ Some words
  live : find (λ block. block.number == number) state.space.live ≡ Some (block_at number words)

-- a plan of this policy: where its range is, what its answer is and how large at most, and that its block can be handed out or
-- is the one that is taken back
record IsHeapPlan (state : HeapState) (number : ℕ) (p : Plan HeapTag) : Type 0 where
  service : p.service ≡ number
  within : IsSpace state.space → ForSome p.range (IsRange state.space.top)
  plain : (x : Answer HeapTag) → p.answer ≡ Some x → x.rest ≡ rest.Plain
  low : (x : Answer HeapTag) → p.answer ≡ Some x → x.value ≤ state.space.top
  hands_out : (number ≡ free_service → ⊥) → ForSome p.range (CanHandOut state p.note)
  takes_back : number ≡ free_service → IsLiveRange state p.note p.range

-- whole words within the region are within memory
as_range : (top : ℕ) (words : Words) → words.base % 4 ≡ 0 → 1 ≤ words.count → words.base + 4 * words.count ≤ top
    → IsRange top words
as_range top words aligned nonempty within = record { aligned = aligned; nonempty = nonempty; within = within }

-- they start below its end
starts_below : (state : HeapState) (words : Words) → words.base + 4 * words.count ≤ state.space.top → words.base ≤ state.space.top
starts_below state words within = omega (arith, within)

-- the next block at the place where it fits
made : (state : HeapState) (number : ℕ) (words : Words) (pc : HeapTag) → malloc_service ≡ number → CanHandOut state state.next words
    → IsHeapPlan state number (handing_out state.next words pc)
made state number words pc is can = record {
  service = is;
  within = λ space x x_is.
      subst (IsRange state.space.top) (same_Some words x x_is)
      (as_range state.space.top words can.fit.aligned can.some can.fit.lies_free.to);
  plain = λ x x_is. ap (λ (y : Answer HeapTag). y.rest) (sym (same_Some _ x x_is));
  low = λ x x_is.
      subst (λ (value : ℕ). value ≤ state.space.top) (ap (λ (y : Answer HeapTag). y.value) (same_Some _ x x_is)) (starts_below state words can.fit.lies_free.to);
  hands_out = λ differs x x_is. subst (CanHandOut state state.next) (same_Some words x x_is) can;
  takes_back = λ free. absurd (omega (arith, is, free));
}

-- none fits
passed : (state : HeapState) (number : ℕ) (pc : HeapTag) → malloc_service ≡ number → IsHeapPlan state number (none_fits pc)
passed state number pc is = record {
  service = is;
  within = λ space x x_is. absurd (none-some x x_is);
  plain = λ x x_is. ap (λ (y : Answer HeapTag). y.rest) (sym (same_Some _ x x_is));
  low = λ x x_is. subst (λ (value : ℕ). value ≤ state.space.top) (ap (λ (y : Answer HeapTag). y.value) (same_Some _ x x_is)) (omega arith);
  hands_out = λ differs x x_is. absurd (none-some x x_is);
  takes_back = λ free. absurd (omega (arith, is, free));
}

-- a live block taken back
released : (state : HeapState) (number : ℕ) (block : Block) (pc : HeapTag) → free_service ≡ number
    → find (λ other. other.number == block.number) state.space.live ≡ Some block → IsHeapPlan state number (freeing block pc)
released state number block pc is live = record {
  service = is;
  within = λ space x x_is.
      let words : Words = record { base = block.base; count = block.words } in
      let among = (found (λ (other : Block). other.number == block.number) state.space.live block live).among in
      let here = All-contains (IsWithin state.space.base state.space.top) state.space.live block space.within among in
      subst (IsRange state.space.top) (same_Some words x x_is) (as_range state.space.top words here.aligned here.some here.to);
  plain = λ x x_is. absurd (none-some x x_is);
  low = λ x x_is. absurd (none-some x x_is);
  hands_out = λ differs. absurd (differs (sym is));
  takes_back = λ free. record { words = record { base = block.base; count = block.words }; range_is = refl; live = live };
}

-- ---- the same of each plan that comes, by its tests

placed_by : (state : HeapState) (number count : ℕ) (pc : HeapTag) (at : Option ℕ) → malloc_service ≡ number → state.next < block_limit
    → 1 ≤ count → first_fit state.space count ≡ at → IsHeapPlan state number (plan_at state.next count pc at)
placed_by state number count pc None is left some e = passed state number pc is
placed_by state number count pc (Some base) is left some e =
    made state number (record { base = base; count = count }) pc is
    (record { next = refl; left = left; some = some; fit = found_first state.space count base e })

malloc_by : (value left : Bool) (state : HeapState) (number bytes : ℕ) (pc : HeapTag) (p : Plan HeapTag) → malloc_service ≡ number
    → (left ≡ true → state.next < block_limit)
    → (if value then
    (if left then Ok (plan_at state.next (words_of bytes) pc (first_fit state.space (words_of bytes))) else Err plan_end.Spent)
    else refused_plan why.Args) ≡ Ok p
    → IsHeapPlan state number p
malloc_by true true state number bytes pc p is left e =
    subst (IsHeapPlan state number) (ok_is _ p e)
    (placed_by state number (words_of bytes) pc (first_fit state.space (words_of bytes)) is (left refl) (omega arith) refl)
malloc_by true false state number bytes pc p is left e = not_refused e
malloc_by false few state number bytes pc p is left e = not_refused e

freed_by : (same : Bool) (state : HeapState) (number : ℕ) (block : Block) (pc : HeapTag) (p : Plan HeapTag) → free_service ≡ number
    → find (λ other. other.number == block.number) state.space.live ≡ Some block
    → (if same then Ok (freeing block pc) else refused_plan why.NotLive) ≡ Ok p → IsHeapPlan state number p
freed_by true state number block pc p is live e =
    subst (IsHeapPlan state number) (ok_is _ p e) (released state number block pc is live)
freed_by false state number block pc p is live e = not_refused e

found_freed : (state : HeapState) (number address : ℕ) (pointed : Option Block) (pc : HeapTag) (p : Plan HeapTag)
    → free_service ≡ number → ForSome pointed (λ block. find (λ other. other.number == block.number) state.space.live ≡ Some block)
    → plan_of_freeing address pc pointed ≡ Ok p → IsHeapPlan state number p
found_freed state number address None pc p is live e = not_refused e
found_freed state number address (Some block) pc p is live e =
    freed_by (block.base == address) state number block pc p is (live block refl) e

-- what a pointer points to is the live block of its number
pointed_live : (state : HeapState) (tag : HeapTag)
    → ForSome (pointed_to state.space tag) (λ block. find (λ other. other.number == block.number) state.space.live ≡ Some block)
pointed_live state (Ptr number) = λ block e.
    let number_is = eqb-true block.number number (found (λ (other : Block). other.number == number) state.space.live block e).passes in
    subst (λ (n : ℕ). find (λ other. other.number == n) state.space.live ≡ Some block) (sym number_is) e
pointed_live state Val = λ block e. absurd (none-some block e)
pointed_live state (Static content) = λ block e. absurd (none-some block e)
pointed_live state (Cell owner content) = λ block e. absurd (none-some block e)
pointed_live state Free = λ block e. absurd (none-some block e)

planned_by : (malloc : Bool) (state : HeapState) (number : ℕ) (a : Args HeapTag) (pc : HeapTag) (p : Plan HeapTag)
    → (malloc ≡ true → malloc_service ≡ number) → (malloc ≡ false → free_service ≡ number)
    → (if malloc then malloc_plan state a pc else free_plan state a pc) ≡ Ok p → IsHeapPlan state number p
planned_by true state number a pc p one two e =
    malloc_by (is_val a.t0) (nat_lt state.next block_limit) state number a.a0 pc p (one refl) (λ left. grind (arith, nat_tests)) e
planned_by false state number a pc p one two e =
    found_freed state number a.a0 (pointed_to state.space a.t0) pc p (two refl) (pointed_live state a.t0) e

planned : (state : HeapState) (number : ℕ) (a : Args HeapTag) (pc : HeapTag) (p : Plan HeapTag) → IsTrue (heap_knows number)
    → heap_plan state number a pc ≡ Ok p → IsHeapPlan state number p
planned state number a pc p known e =
    planned_by (number == malloc_service) state number a pc p (λ one. grind (arith, nat_tests)) (λ other. grind (arith, nat_tests, known)) e

-- where a plan takes no block back, its range is that of one that is handed out
pub given_words : (state : HeapState) (p : Plan HeapTag) → IsGiven heap state p → (p.service ≡ free_service → ⊥)
    → ForSome p.range (CanHandOut state p.note)
given_words state p given differs =
    (planned state p.service given.arguments given.pc p given.can.known given.given).hands_out differs

-- and where it takes one back, its range is that of a live block
live_words : (state : HeapState) (p : Plan HeapTag) → IsGiven heap state p → p.service ≡ free_service → IsLiveRange state p.note p.range
live_words state p given is =
    (planned state p.service given.arguments given.pc p given.can.known given.given).takes_back is

-- so is each plan of a block to be handed out that has one
pub new_block : (state : HeapState) (p : Plan HeapTag) (words : Words) → IsGiven heap state p → p.service ≡ malloc_service
    → p.range ≡ Some words → CanHandOut state p.note words
new_block state p words given is words_is =
    given_words state p given (λ free. absurd (omega (arith, is, free))) words words_is

-- ---- the invariant

-- the number of a block that can be handed out is above each that was given
pub block_newest : (state : HeapState) (number : ℕ) (words : Words) → CanHandOut state number words → IsHeap state
    → All (λ other. other.number < number) state.space.live
block_newest state number words can holds =
    subst (λ n. All (λ other. other.number < n) state.space.live) (sym can.next) holds.below

-- and with it all are below the next but one
still_below : (state : HeapState) (block : Block) → block.number ≡ state.next → IsHeap state
    → All (λ other. other.number < state.next + 1) (with_block state.space block).live
still_below state block is holds =
    All-push (λ other. other.number < state.next + 1) state.space.live block
    (All-weaker (λ other. other.number < state.next) (λ other. other.number < state.next + 1)
    (λ other below. omega (arith, below)) state.space.live holds.below)
    (omega (arith, is))

-- such a block more
pub handed_out_holds : (state : HeapState) (number : ℕ) (words : Words) → CanHandOut state number words → IsHeap state
    → IsHeap (handed_out state number (Some words))
handed_out_holds state number words can holds =
    let block : Block = block_at number words in
    record {
      space = space_insert state.space block holds.space
          (first_within state.space number words.count words.base can.some can.fit) can.fit.lies_free
          (block_newest state number words can holds);
      below = still_below state block can.next holds;
      few = omega (arith, can.left);
    }

-- one block less
pub taken_back_holds : (state : HeapState) (number : ℕ) → IsHeap state → IsHeap (taken_back state number)
taken_back_holds state number holds = record {
  space = space_filter state.space number holds.space;
  below = All-filter _ (λ other. other.number < state.next) state.space.live holds.below;
  few = holds.few;
}

stays_by : (free : Bool) (state : HeapState) (number : ℕ) (range : Option Words)
    → (free ≡ false → ForSome range (CanHandOut state number)) → IsHeap state
    → IsHeap (if free then taken_back state number else handed_out state number range)
stays_by true state number range can holds = taken_back_holds state number holds
stays_by false state number None can holds = holds
stays_by false state number (Some words) can holds = handed_out_holds state number words (can refl words refl) holds

-- ---- a commit is taken back

-- a block that went is live again where it was
live_undone : (state : HeapState) (number : ℕ) (words : Words) → IsHeap state
    → find (λ other. other.number == number) state.space.live ≡ Some (block_at number words) → live_again (taken_back state number) number words ≡ state
live_undone state number words holds live =
    ap (λ (blocks : List Block). record { space = region state.space.base state.space.top blocks; next = state.next })
    (put_back state.space.live number (block_at number words) holds.space.numbered live)

-- the last block goes, and the next number is its own again
handed_undone : (state : HeapState) (number : ℕ) (words : Words) → IsHeap state → CanHandOut state number words
    → handed_back (handed_out state number (Some words)) number ≡ state
handed_undone state number words holds can =
    let live_is = newest_goes state.space.live (block_at number words) number refl (block_newest state number words can holds) in
    let next_is : state.next + 1 - 1 ≡ state.next = omega arith in
    λ j. record { space = region state.space.base state.space.top (live_is j); next = next_is j }

-- the block that is taken back is the live one of its number
live_at : (state : HeapState) (number : ℕ) (words : Words) → IsLiveRange state number (Some words)
    → find (λ other. other.number == number) state.space.live ≡ Some (block_at number words)
live_at state number words live = live.live ∙ ap (λ (w : Words). Some (block_at number w)) (sym (same_Some words live.words live.range_is))

undone_by : (free : Bool) (state : HeapState) (number : ℕ) (range : Option Words) → IsHeap state
    → (free ≡ true → IsLiveRange state number range) → (free ≡ false → ForSome range (CanHandOut state number))
    → uncommitted free (if free then taken_back state number else handed_out state number range) number range ≡ state
undone_by true state number None holds live can = absurd (none-some _ (live refl).range_is)
undone_by true state number (Some words) holds live can = live_undone state number words holds (live_at state number words (live refl))
undone_by false state number None holds live can = refl
undone_by false state number (Some words) holds live can = handed_undone state number words holds (can refl words refl)

undone : (state : HeapState) (p : Plan HeapTag) → IsGiven heap state p → IsHeap state → heap_uncommit (heap_commit state p) p ≡ state
undone state p given holds =
    undone_by (p.service == free_service) state p.note p.range holds
    (λ free. live_words state p given (grind (arith, nat_tests)))
    (λ other. given_words state p given (λ free. grind (arith, nat_tests)))

-- a block that went can be live again
can_be_live : (state : HeapState) (number : ℕ) (words : Words) → IsHeap state
    → find (λ other. other.number == number) state.space.live ≡ Some (block_at number words) → CanPutBack (taken_back state number) number words
can_be_live state number words holds live =
    let block : Block = block_at number words in
    let among = (found (λ (other : Block). other.number == number) state.space.live block live).among in
    let again = put_back state.space.live number block holds.space.numbered live in
    let few = few_below state.space.live state.next holds.space.numbered holds.below in
    record {
      within = All-contains (IsWithin state.space.base state.space.top) state.space.live block holds.space.within among;
      free = goes_free state.space number block holds.space live;
      another = gone state.space.live number;
      left = omega (arith, few, ap length again, length_put (filter (λ other. not (other.number == number)) state.space.live) block);
      heap = subst IsHeap (sym (live_undone state number words holds live)) holds;
    }

pub can_put_back : (state : HeapState) (p : Plan HeapTag) (words : Words) → IsCommitted heap IsHeap state p → p.service ≡ free_service
    → p.range ≡ Some words → CanPutBack state p.note words
can_put_back state p words committed is words_is =
    let before : HeapState = committed.before in
    let live = live_at before p.note words (subst (IsLiveRange before p.note) words_is (live_words before p committed.given is)) in
    let left_is : state ≡ taken_back before p.note = committed.left ∙ rw is refl in
    subst (λ s. CanPutBack s p.note words) (sym left_is) (can_be_live before p.note words committed.held live)

-- a block that was handed out last can be handed back
pub can_hand_back : (state : HeapState) (p : Plan HeapTag) (words : Words) → IsCommitted heap IsHeap state p → (p.service ≡ free_service → ⊥)
    → p.range ≡ Some words → CanHandBack state p.note
can_hand_back state p words committed differs words_is =
    let before : HeapState = committed.before in
    let can : CanHandOut before p.note words = given_words before p committed.given differs words words_is in
    let other : (p.service == free_service) ≡ false = ne_eqb p.service free_service differs in
    let left_is : state ≡ handed_out before p.note (Some words) = committed.left ∙ rw (other, words_is) refl in
    subst (λ s. CanHandBack s p.note) (sym left_is) (record {
      last = ap (λ (n : ℕ). n + 1) can.next;
      heap = subst IsHeap (sym (handed_undone before p.note words committed.held can)) committed.held;
    })

-- ---- what a commit leaves as it was

room_by : (free : Bool) (state : HeapState) (number : ℕ) (range : Option Words)
    → (if free then taken_back state number else handed_out state number range).space.top ≡ state.space.top
room_by true state number range = refl
room_by false state number None = refl
room_by false state number (Some words) = refl

wider : (low high : ℕ) (words : Words) → low ≤ high → IsRange low words → IsRange high words
wider low high words le range =
    record { aligned = range.aligned; nonempty = range.nonempty; within = omega (arith, le, range.within) }

word_below : (top ram value : ℕ) → value ≤ top → top ≤ ram → ram < 2 ^ 32 → value < 2 ^ 32
word_below top ram value low room fits = omega (arith, low, room, fits)

-- ---- the services use a0 alone

unused_by : (state : HeapState) (number : ℕ) (a b : Args HeapTag) (pc : HeapTag) → a.a0 ≡ b.a0 → a.t0 ≡ b.t0
    → heap_plan state number a pc ≡ heap_plan state number b pc
unused_by state number a b pc value tag = λ j. heap_plan state number (record a { a0 = value j; t0 = tag j }) pc

pub heap_laws : KeepsLaws heap IsHeap
heap_laws = record {
  masks = λ state g x. rule_masked g x;
  unpeeked = λ state shape first second none. refl;
  parted = λ state shape first second one other. refl;
  keeps = λ state p given. record {
    plain = refl;
    rule = λ g x. refl;
    ignores = λ g. refl;
    peeks = refl;
    peek = λ shape first second. refl;
    knows = λ k. refl;
    uses = λ k. refl;
    lend = λ t. refl;
    room = room_by (p.service == free_service) state p.note p.range;
    wipe = λ pc old. refl;
    start_pc = λ b. refl;
    start_word = λ b. refl;
    text = λ t. refl;
  };
  stays = λ state p given holds.
      stays_by (p.service == free_service) state p.note p.range
      (λ other. given_words state p given (λ free. grind (arith, nat_tests))) holds;
  undoes = λ state p given holds. undone state p given holds;
  ranges = λ state k a pc p can holds given words words_is.
      wider state.space.top a.ram words can.room ((planned state k a pc p can.known given).within holds.space words words_is);
  few = λ state k known. omega arith;
  service = λ state k a pc p known given. (planned state k a pc p known given).service;
  value = λ state k a pc p known given x x_is. plain_keeps a x ((planned state k a pc p known given).plain x x_is);
  unused = λ state k a b pc known same. unused_by state k a b pc (same.a0 (omega arith)) (same.t0 (omega arith));
  blind_retag = λ state p x old. refl;
  blind_commit = λ state p x. refl;
  words = λ state k a pc p can holds are given x x_is.
      word_below state.space.top a.ram x.value ((planned state k a pc p can.known given).low x x_is) can.room are.ram;
}
