-- A service that was carried out under heap safety keeps the invariant, and does what is guaranteed.
use Rattle.std.proofs.Common.{◌≡◌, ℕ, ◌+◌, ◌≤◌, ◌==◌, false, List, [], ◌∷◌, ◌++◌, length, Some, refl, sym, ap, ◌∙◌, subst, arith}
use Rattle.std.specs.List.{Contains}
use Rattle.std.proofs.lemmas.Bool.{or_parts}
use Rattle.std.proofs.lemmas.Option.{same_Some}
use Rattle.rv_decode.specs.Groups.{a0}
use Rattle.rv_step.specs.declared.accesses.Access.TheVariants as access
use Rattle.policy_trait.specs.declared.rules.Outs.{Outs}
use Rattle.policy_trait.specs.declared.services.Answer.{Answer}
use Rattle.policy_trait.specs.declared.services.Args.{Args}
use Rattle.policy_trait.specs.declared.services.Plan.{Plan}
use Rattle.policy_trait.specs.declared.services.Rest.{Rest}
use Rattle.policy_trait.specs.declared.services.Rest.TheVariants.{AsA0, Plain}
use Rattle.policy_parts.specs.Part.{IsOthers, Planned, value_after, others, own}
use Rattle.policy_product.specs.Both.{rest_tag}
use Rattle.tag_memory.specs.Hart.{HartState, IsHart, moved_to}
use Rattle.tag_memory.specs.Ram.{RamState}
use Rattle.turn_steps.specs.Services.{args_on, with_answer, with_words}
use Rattle.turn_steps.specs.declared.look.Look.{Look}
use Rattle.turn_steps.proofs.KeptLemmas.{words_bytes}
use Rattle.engine_trait.specs.Events.{Event}
use Rattle.engine_trait.specs.Machine.{CoreState, IsMachine, Machine, hart_at, with_hart}
use Rattle.engine_trait.specs.Turn.{core_served}
use Rattle.live_blocks.specs.Fit.{found_first}
use Rattle.live_blocks.specs.Space.{first_fit}
use Rattle.live_blocks.specs.declared.block.Block.{Block}
use Rattle.heap_policy.specs.Heap.{HeapState, freeing, handing_out, heap, heap_knows, none_fits, words_of}
use Rattle.heap_policy.specs.declared.tag.HeapTag.{HeapTag}
use Rattle.heap_policy.specs.declared.tag.HeapTag.TheVariants.{Val, Ptr}
use Rattle.part_turns.specs.Moments.{Service, service_of}
use Rattle.part_turns.specs.Turns.{Allows, after_service}
use Rattle.part_turns.proofs.PlaceLemmas.{IsServed, each_answered, each_hart, words_plain}
use Rattle.heap_runs.specs.BlockBook.{BlockBook, block_book, blocks_by, book_without}
use Rattle.heap_runs.specs.HeapInvariant.{HeapInvariant, IsBelow, IsHartBelow}
use Rattle.heap_runs.specs.HeapSafe.{HeapTurn}
use Rattle.heap_runs.proofs.BookLemmas.{book_by}
use Rattle.heap_runs.proofs.KeptLemmas.{kept_invariant}
use Rattle.heap_runs.proofs.RuleLemmas.{pc_is}
use Rattle.heap_runs.proofs.PlanLemmas.{IsOwn, finds_none, hands_out, own_is, takes_back}
use Rattle.heap_runs.proofs.GuaranteeLemmas.{serves_guaranteed}
use Rattle.heap_runs.proofs.ServiceLemmas.{freed_invariant, handed_invariant, others_memory, unranged_memory}
use Rattle.heap_runs.proofs.TagLemmas.{below_more}

-- the number of a pointer that is an answer's tag
number_is : (x y : ℕ) → Ptr x ≡ Ptr y → x ≡ y
number_is x y e = cc

-- a turn of hart h in a state of which the invariant holds: its rule allows the call, and these words are written
module _ (base top : ℕ) (before : List (Event HeapTag)) (s : Machine HeapState HeapTag) (is : IsMachine heap s)
    (invariant : HeapInvariant base top before s) (h : ℕ) (look : Look) (outs : Outs HeapTag) (words : List (ℕ × ℕ × HeapTag))
    (e : Event HeapTag) (allows : Allows heap s h look outs e) (no_access : look.effect.access ≡ access.None)
    (hart_is : IsHart (hart_at s.core h)) where
  abbrev later : List (Event HeapTag)
  later = before ++ e ∷ []

  abbrev book : BlockBook
  book = block_book before

  abbrev next : ℕ
  next = s.policy.next

  abbrev hart : HartState HeapTag
  hart = hart_at s.core h

  abbrev arguments : Args HeapTag
  arguments = args_on hart s.core.ram

  -- ---- after the service of a plan

  abbrev ram_after : RamState HeapTag
  ram_after = with_words s.core.ram words

  abbrev core_after : Plan HeapTag → CoreState HeapTag
  core_after p = with_hart s.core h (moved_to (with_answer hart p.answer) look.effect.next outs.pc) ram_after

  abbrev after : Plan HeapTag → Machine HeapState HeapTag
  after p = record { policy = value_after heap s.policy p; core = core_after p }

  -- the service of that number
  abbrev service_by : ℕ → Plan HeapTag → Service HeapTag
  service_by number p =
      record { number = number; arguments = arguments; range = p.range; zero = p.zero; answer = p.answer }

  -- what is known of the plan that was carried out
  pub record IsCarried (p : Plan HeapTag) : Type 0 where
    pub told : service_of e ≡ Some (service_by look.service p)
    pub left : (n : ℕ) → IsServed heap s.policy p s.core.ram ram_after n

  -- the guarantee, and the invariant
  abbrev Serves : Plan HeapTag → Type 0
  Serves p = HeapTurn base top book e × HeapInvariant base top later (after p)

  size : length ram_after.words ≡ length s.core.ram.words
  size = omega (arith, words_bytes s.core.ram words)

  harts_after : (p : Plan HeapTag) (bound : ℕ) → next ≤ bound → ((answer : Answer HeapTag) → p.answer ≡ Some answer → IsBelow bound answer.tag)
      → (n : ℕ) → IsHartBelow bound (hart_at (core_after p) n)
  harts_after p bound le answered =
      each_hart (IsHartBelow bound) s.core h _ ram_after (words_plain s.core.ram words)
      (record {
        pc = subst (IsBelow bound) (sym (pc_is s h look outs e allows)) tt;
        registers = each_answered (λ value tag. IsBelow bound tag) hart p.answer hart_is answered (still h).registers;
      })
      still
    where
      still : (n : ℕ) → IsHartBelow bound (hart_at s.core n)
      still n = record {
        pc = below_more next bound le _ (invariant.harts n).pc;
        registers = λ r. below_more next bound le _ ((invariant.harts n).registers r);
      }

  -- the book by the number of the service
  book_of : (p : Plan HeapTag) → IsCarried p → (number : ℕ) → look.service ≡ number
      → block_book later ≡ blocks_by book (Some (service_by number p))
  book_of p carried number is_number =
      book_by before e (Some (service_by look.service p)) carried.told
      ∙ ap (λ (number : ℕ). blocks_by book (Some (service_by number p))) is_number

  guaranteed : (p : Plan HeapTag) → IsCarried p
      → ((answer : Answer HeapTag) (number : ℕ) → look.service ≡ 48 → p.answer ≡ Some answer → answer.tag ≡ Ptr number → number ≡ length book)
      → HeapTurn base top book e
  guaranteed p carried numbers =
      serves_guaranteed base top before s invariant h look outs e allows (service_by look.service p) carried.told no_access numbers

  -- ---- heap safety's own

  module _ (at : ℕ) where
    abbrev count : ℕ
    count = words_of arguments.a0

    abbrev handing : Plan HeapTag
    handing = handing_out next (record { base = at; count = count }) outs.pc

    pointer_is : (answer : Answer HeapTag) → handing.answer ≡ Some answer → Ptr next ≡ answer.tag
    pointer_is answer e = ap (λ (x : Answer HeapTag). x.tag) (same_Some _ answer e)

    hands_serves : look.service ≡ 48 → first_fit s.policy.space count ≡ Some at → IsCarried handing → Serves handing
    hands_serves is_malloc fit carried = (
      guaranteed handing carried (λ answer number is_called answered tagged.
          number_is number next (sym tagged ∙ sym (pointer_is answer answered)) ∙ invariant.next),
      handed_invariant base top before s is invariant later (core_after handing) size at count (omega arith) (found_first s.policy.space count at fit)
          outs.pc (book_of handing carried 48 is_malloc) carried.left
          (harts_after handing (next + 1) (omega arith) (λ answer answered.
          subst (IsBelow (next + 1)) (pointer_is answer answered) (omega arith))),
    )

  abbrev passing : Plan HeapTag
  passing = none_fits outs.pc

  value_is : (answer : Answer HeapTag) → passing.answer ≡ Some answer → Val ≡ answer.tag
  value_is answer e = ap (λ (x : Answer HeapTag). x.tag) (same_Some _ answer e)

  none_serves : look.service ≡ 48 → IsCarried passing → Serves passing
  none_serves is_malloc carried = (
    guaranteed passing carried (λ answer number is_called answered tagged. absurd (let plain = value_is answer answered in cc)),
    kept_invariant base top before s invariant later (core_after passing) (book_of passing carried 48 is_malloc)
        (unranged_memory base top before s is invariant later (core_after passing) size passing refl carried.left)
        (harts_after passing next (omega arith) (λ answer answered. subst (IsBelow next) (value_is answer answered) tt)),
  )

  frees_serves : (block : Block) → look.service ≡ 49 → Contains s.policy.space.live block → arguments.t0 ≡ Ptr block.number
      → IsCarried (freeing block outs.pc) → Serves (freeing block outs.pc)
  frees_serves block is_free live pointer carried = let p = freeing block outs.pc in (
    guaranteed p carried (λ answer number is_called answered tagged. absurd (omega (arith, is_called, is_free))),
    freed_invariant base top before s is invariant later (core_after p) size block live outs.pc
        (book_of p carried 49 is_free ∙ ap (λ (tag : HeapTag). book_without tag book) pointer) carried.left
        (harts_after p next (omega arith) (λ answer answered. absurd cc)),
  )

  own_serves : (p : Plan HeapTag) → IsOwn s.policy look.service arguments outs.pc p → IsCarried p → Serves p
  own_serves p (hands_out at is_malloc fit same) carried =
      subst (λ (p : Plan HeapTag). IsCarried p → Serves p) (sym same) (hands_serves at is_malloc fit) carried
  own_serves p (finds_none is_malloc same) carried =
      subst (λ (p : Plan HeapTag). IsCarried p → Serves p) (sym same) (none_serves is_malloc) carried
  own_serves p (takes_back block is_free live pointer same) carried =
      subst (λ (p : Plan HeapTag). IsCarried p → Serves p) (sym same) (frees_serves block is_free live pointer) carried

  -- ---- another policy's

  others_below : (answer : Answer HeapTag) → IsOthers Val arguments answer → IsBelow next answer.tag
  others_below answer is_others = subst (IsBelow next) (sym is_others.tag) (rest_below answer.rest)
    where
      rest_below : (rest : Rest) → IsBelow next (rest_tag rest Val arguments.t0)
      rest_below Plain = tt
      rest_below AsA0 = (invariant.harts h).registers a0

  -- a service that heap safety doesn't know is of no account to the book
  no_blocks : (p : Plan HeapTag) (number : ℕ) → heap_knows number ≡ false → blocks_by book (Some (service_by number p)) ≡ book
  no_blocks p number unknown = let parts = or_parts (number == 48) (number == 49) unknown in rw (parts.0, parts.1) refl

  others_serves : (p : Plan HeapTag) → heap_knows look.service ≡ false → p.service ≡ look.service
      → ((answer : Answer HeapTag) → p.answer ≡ Some answer → IsOthers Val arguments answer) → IsCarried p → Serves p
  others_serves p unknown same answered carried =
      let apart : heap_knows p.service ≡ false = ap heap_knows same ∙ unknown in
      let stays : s.policy ≡ value_after heap s.policy p = rw apart refl in (
        guaranteed p carried (λ answer number is_called is_answer tagged. absurd (let known = ap heap_knows is_called in cc)),
        subst (λ (policy : HeapState). HeapInvariant base top later (record { policy = policy; core = core_after p })) stays
            (kept_invariant base top before s invariant later (core_after p)
            (book_of p carried look.service refl ∙ no_blocks p look.service unknown)
            (others_memory base top before s is invariant later (core_after p) size p apart carried.left)
            (harts_after p next (omega arith) (λ answer is_answer. others_below answer (answered answer is_answer)))),
      )

  -- ---- any

  serves_by : (p : Plan HeapTag) → Planned heap s.policy look.service arguments outs.pc p → IsCarried p → Serves p
  serves_by p (own known same made) carried = own_serves p (own_is s.policy look.service arguments outs.pc p known made) carried
  serves_by p (others unknown same pc answered) carried = others_serves p unknown same answered carried

  pub served : (p : Plan HeapTag) → Planned heap s.policy look.service arguments outs.pc p → IsCarried p
      → HeapTurn base top book e × HeapInvariant base top later (after_service heap s h look outs p words)
  unfolding core_served
  served p planned carried = serves_by p planned carried
