-- Heap safety: each block of the heap has a number, and a pointer with that number reaches the words of the block while
-- it is live. The policy's value is the live blocks of the heap region, and the number of the next block.
use Rattle.std.specs.Prelude.{◌≡◌, ◌≢◌, ℕ, ◌+◌, ◌-◌, ◌/◌, ◌<◌, ◌≤◌, ◌==◌, nat_lt, max, Bool, true, false, not, ◌&&◌, ◌||◌, List, [], ◌++◌, codes, length, Option, Some, None, option_map, Result, Ok, Err, if◌then◌else◌}
use Rattle.std.specs.Fmt.{decimal}
use Rattle.std.specs.List.{All, find, slice_get}
use Rattle.std.specs.Option.{option_and_then}
use Rattle.live_blocks.specs.Space.{IsFirstFit, IsSpace, IsWithin, LiesFree, Space, first_fit, put_block, with_block, without_block}
use Rattle.live_blocks.specs.declared.block.Block.{Block}
use Rattle.rv_decode.specs.declared.groups.Group.{Group}
use Rattle.rv_decode.specs.declared.groups.Group.TheVariants as group
use Rattle.policy_trait.specs.Model.{PolicyModel}
use Rattle.policy_trait.specs.declared.birth.Birth.{Birth}
use Rattle.policy_trait.specs.declared.rules.Ins.{Ins}
use Rattle.policy_trait.specs.declared.rules.Mask.{Mask}
use Rattle.policy_trait.specs.declared.rules.Outs.{Outs}
use Rattle.policy_trait.specs.declared.rules.Part.TheVariants as part
use Rattle.policy_trait.specs.declared.rules.Refused.{Refused}
use Rattle.policy_trait.specs.declared.rules.Why.{Why}
use Rattle.policy_trait.specs.declared.rules.Why.TheVariants as why
use Rattle.policy_trait.specs.declared.services.Args.{Args}
use Rattle.policy_trait.specs.declared.services.Plan.{Plan}
use Rattle.policy_trait.specs.declared.services.PlanEnd.{PlanEnd}
use Rattle.policy_trait.specs.declared.services.PlanEnd.TheVariants as plan_end
use Rattle.policy_trait.specs.declared.services.Rest.TheVariants as rest
use Rattle.policy_trait.specs.declared.services.Words.{Words}
use Rattle.heap_policy.specs.declared.table.Effect.{Effect}
use Rattle.heap_policy.specs.declared.table.Effect.TheVariants.{GoesOn, TakesFirst, TakesSecond, TakesBoth, Moves, Loads, LoadsPart, Stores, StoresPart, Adds, Subtracts}
use Rattle.heap_policy.specs.declared.tag.Content.{Content}
use Rattle.heap_policy.specs.declared.tag.Content.TheVariants as contents
use Rattle.heap_policy.specs.declared.tag.HeapTag.{HeapTag}
use Rattle.heap_policy.specs.declared.tag.HeapTag.TheVariants.{Val, Ptr, Static, Cell, Free}

-- so many blocks can be handed out
abbrev pub block_limit : ℕ
block_limit = 1048576

-- the heap region with its live blocks, and how many blocks were handed out, which is the number of the next
pub record HeapState : Type 0 where
  pub space : Space
  pub next : ℕ

-- a heap region of so many bytes, before any block was handed out
abbrev pub empty_heap : ℕ → ℕ → HeapState
empty_heap base bytes = record { space = record { base = base; top = base + bytes; live = [] }; next = 0 }

-- the block of this number at these words
abbrev pub block_at : ℕ → Words → Block
block_at number words = record { number = number; base = words.base; words = words.count }

-- each live block has a number below the next, which is so that of none
pub record IsHeap (state : HeapState) : Type 0 where
  pub space : IsSpace state.space
  pub below : All (λ block. block.number < state.next) state.space.live
  pub few : state.next ≤ block_limit

-- the block of this number can be handed out at these words: it is the next one, one is left, and the words lie at the
-- lowest place where so many meet no live block
pub record CanHandOut (state : HeapState) (number : ℕ) (words : Words) : Type 0 where
  pub next : number ≡ state.next
  pub left : state.next < block_limit
  pub some : 1 ≤ words.count
  pub fit : IsFirstFit state.space words.count words.base

-- there is room for every block that was handed out, so that a block that was taken back can be live again
pub record HasRoom (state : HeapState) (room : ℕ) : Type 0 where
  pub heap : IsHeap state
  pub enough : state.next ≤ room

abbrev pub refused_for : Why → Refused
refused_for reason = record { part = part.Heap; why = reason }

-- ---- what the tags say

abbrev pub is_val : HeapTag → Bool
is_val Val = true
is_val _ = false

abbrev pub is_static : HeapTag → Bool
is_static (Static content) = true
is_static _ = false

-- what a register with this tag holds; a memory word's tag is that of no register
abbrev pub content_of : HeapTag → Option Content
content_of Val = Some contents.Val
content_of (Ptr block) = Some (contents.Ptr block)
content_of _ = None

-- the tag of a register that holds this
abbrev pub tag_of : Content → HeapTag
tag_of contents.Val = Val
tag_of (contents.Ptr block) = Ptr block

-- what a memory word with this tag holds; a free one holds nothing
abbrev pub word_content : HeapTag → Option Content
word_content (Static content) = Some content
word_content (Cell block content) = Some content
word_content _ = None

-- the tag of a memory word once it holds the content
abbrev pub holding : Content → HeapTag → Option HeapTag
holding content (Static old) = Some (Static content)
holding content (Cell block old) = Some (Cell block content)
holding content _ = None

-- a value reaches the words outside the heap region, a pointer those of its block
abbrev pub is_reached : HeapTag → HeapTag → Bool
is_reached Val (Static content) = true
is_reached (Ptr block) (Cell owner content) = block == owner
is_reached _ _ = false

-- ---- the rules, one effect a group

abbrev pub val_where : Bool → Option HeapTag
val_where allowed = if allowed then Some Val else None

-- what the address loads from the word
abbrev pub load_content : HeapTag → HeapTag → Option Content
load_content address word = if is_reached address word then word_content word else None

-- the word's tag once the address has stored the content there
abbrev pub tag_after_store : HeapTag → HeapTag → Content → Option HeapTag
tag_after_store address word content = if is_reached address word then holding content word else None

-- a pointer and a value make a pointer to the same block
abbrev pub sum : HeapTag → HeapTag → Option HeapTag
sum Val Val = Some Val
sum (Ptr block) Val = Some (Ptr block)
sum Val (Ptr block) = Some (Ptr block)
sum _ _ = None

-- a pointer less a value is one to the same block, and a pointer less one to the same block is a value
abbrev pub difference : HeapTag → HeapTag → Option HeapTag
difference Val Val = Some Val
difference (Ptr block) Val = Some (Ptr block)
difference (Ptr block) (Ptr other) = if block == other then Some Val else None
difference _ _ = None

-- what a group does
abbrev pub effect_of : Group → Effect
effect_of group.Const = GoesOn
effect_of group.Here = GoesOn
effect_of group.Jal = GoesOn
effect_of group.Jalr = TakesFirst
effect_of group.Branch = GoesOn
effect_of group.LoadWord = Loads
effect_of group.LoadPart = LoadsPart
effect_of group.StoreWord = Stores
effect_of group.StorePart = StoresPart
effect_of group.Move = Moves
effect_of group.AddImm = Moves
effect_of group.AluImm = TakesFirst
effect_of group.Add = Adds
effect_of group.Sub = Subtracts
effect_of group.Alu = TakesBoth
effect_of group.Fence = GoesOn
effect_of group.Exit = TakesBoth
effect_of group.Put = TakesBoth
effect_of group.Get = TakesSecond
effect_of group.Break = GoesOn
effect_of group.Call = TakesSecond

-- the table of heap safety: the tag of the result, where the operands and the memory word are allowed
abbrev pub result_by : Effect → HeapTag → HeapTag → HeapTag → Option HeapTag
result_by GoesOn first second word = Some Val
result_by TakesFirst first second word = val_where (is_val first)
result_by TakesSecond first second word = val_where (is_val second)
result_by TakesBoth first second word = val_where (is_val first && is_val second)
result_by Moves first second word = option_map tag_of (content_of first)
result_by Loads first second word = option_map tag_of (load_content first word)
result_by LoadsPart first second word = val_where (is_reached first word)
result_by Stores first second word = option_and_then (tag_after_store first word) (content_of second)
result_by StoresPart first second word = tag_after_store first word contents.Val
result_by Adds first second word = sum first second
result_by Subtracts first second word = difference first second

-- the operands and the memory word of which something is asked

abbrev pub uses_first : Effect → Bool
uses_first GoesOn = false
uses_first TakesSecond = false
uses_first _ = true

abbrev pub uses_second : Effect → Bool
uses_second TakesSecond = true
uses_second TakesBoth = true
uses_second Stores = true
uses_second Adds = true
uses_second Subtracts = true
uses_second _ = false

abbrev pub uses_word : Effect → Bool
uses_word Loads = true
uses_word LoadsPart = true
uses_word Stores = true
uses_word StoresPart = true
uses_word _ = false

-- the instruction's tag is always used, the pc's never
abbrev pub ignores_by : Effect → Mask
ignores_by effect = record {
  pc = true;
  ci = false;
  t1 = not (uses_first effect);
  t2 = not (uses_second effect);
  tm = not (uses_word effect);
}

abbrev pub outs_or_refusal : Group → Option HeapTag → Result (Outs HeapTag) Refused
outs_or_refusal g None = Err (refused_for (why.Rule g))
outs_or_refusal g (Some result) = Ok (record { pc = Val; result = result })

-- the rule of a group with this effect: only words outside the heap region are executed
abbrev pub rule_by : Effect → Group → Ins HeapTag → Result (Outs HeapTag) Refused
rule_by effect g x = outs_or_refusal g (if is_static x.ci then result_by effect x.t1 x.t2 x.tm else None)

abbrev pub heap_rule : Group → Ins HeapTag → Result (Outs HeapTag) Refused
heap_rule g x = rule_by (effect_of g) g x

abbrev pub heap_ignores : Group → Mask
heap_ignores g = ignores_by (effect_of g)

-- a word that another policy's service zeroes stays in its block, or free
abbrev pub wipe_tag : HeapTag → Result HeapTag Refused
wipe_tag Val = Err (refused_for why.Consent)
wipe_tag (Ptr block) = Err (refused_for why.Consent)
wipe_tag (Static content) = Ok (Static contents.Val)
wipe_tag (Cell block content) = Ok (Cell block contents.Val)
wipe_tag Free = Ok Free

abbrev pub heap_start_word : Birth → HeapTag
heap_start_word birth = if birth.heap then Free else Static contents.Val

-- ---- the services, by their numbers

-- hands out a block of a0 bytes
abbrev pub malloc_service : ℕ
malloc_service = 48

-- takes back the block at a0
abbrev pub free_service : ℕ
free_service = 49

abbrev pub heap_knows : ℕ → Bool
heap_knows number = (number == malloc_service) || (number == free_service)

abbrev pub refused_plan : Why → Result (Plan HeapTag) PlanEnd
refused_plan reason = Err (plan_end.Refused (refused_for reason))

-- so many bytes in whole words, at least one
abbrev pub words_of : ℕ → ℕ
words_of bytes = max 1 ((bytes + 3) / 4)

-- the words zeroed as the block of this number, and a pointer to it as the answer
abbrev pub handing_out : ℕ → Words → HeapTag → Plan HeapTag
handing_out number words pc = record {
  service = malloc_service;
  pc = pc;
  note = number;
  range = Some words;
  zero = true;
  answer = Some (record { value = words.base; tag = Ptr number; rest = rest.Plain });
}

-- no block of that size fits: 0 as the answer
abbrev pub none_fits : HeapTag → Plan HeapTag
none_fits pc = record {
  service = malloc_service;
  pc = pc;
  note = 0;
  range = None;
  zero = false;
  answer = Some (record { value = 0; tag = Val; rest = rest.Plain });
}

-- so many words at the place that was found
abbrev pub plan_at : ℕ → ℕ → HeapTag → Option ℕ → Plan HeapTag
plan_at number count pc None = none_fits pc
plan_at number count pc (Some base) = handing_out number (record { base = base; count = count }) pc

-- a0 is the number of bytes
abbrev pub malloc_plan : HeapState → Args HeapTag → HeapTag → Result (Plan HeapTag) PlanEnd
malloc_plan state a pc =
    if is_val a.t0 then
    (if nat_lt state.next block_limit then
    Ok (plan_at state.next (words_of a.a0) pc (first_fit state.space (words_of a.a0)))
    else Err plan_end.Spent)
    else refused_plan why.Args

-- the live block that a pointer points to
abbrev pub pointed_to : Space → HeapTag → Option Block
pointed_to space (Ptr number) = find (λ block. block.number == number) space.live
pointed_to space _ = None

-- the words of the block zeroed, and no answer
abbrev pub freeing : Block → HeapTag → Plan HeapTag
freeing block pc = record {
  service = free_service;
  pc = pc;
  note = block.number;
  range = Some (record { base = block.base; count = block.words });
  zero = true;
  answer = None;
}

-- the pointer's value has to be the block's first address
abbrev pub plan_of_freeing : ℕ → HeapTag → Option Block → Result (Plan HeapTag) PlanEnd
plan_of_freeing address pc None = refused_plan why.NotLive
plan_of_freeing address pc (Some block) =
    if block.base == address then Ok (freeing block pc) else refused_plan why.NotLive

-- a0 is the pointer
abbrev pub free_plan : HeapState → Args HeapTag → HeapTag → Result (Plan HeapTag) PlanEnd
free_plan state a pc = plan_of_freeing a.a0 pc (pointed_to state.space a.t0)

abbrev pub heap_plan : HeapState → ℕ → Args HeapTag → HeapTag → Result (Plan HeapTag) PlanEnd
heap_plan state number a pc = if number == malloc_service then malloc_plan state a pc else free_plan state a pc

-- the new tag of each word of the block
abbrev pub cell_after : ℕ → ℕ → HeapTag
cell_after number block = if number == malloc_service then Cell block contents.Val else Free

-- a block that was handed out; its number is never given again
abbrev pub handed_out : HeapState → ℕ → Option Words → HeapState
handed_out state number None = state
handed_out state number (Some words) = record {
  space = with_block state.space (block_at number words);
  next = state.next + 1;
}

abbrev pub taken_back : HeapState → ℕ → HeapState
taken_back state number = record { space = without_block state.space number; next = state.next }

-- a block that was taken back is live again
abbrev pub live_again : HeapState → ℕ → Words → HeapState
live_again state number words = record { space = put_block state.space (block_at number words); next = state.next }

-- the block that was handed out last is handed back, and its number with it
abbrev pub handed_back : HeapState → ℕ → HeapState
handed_back state number = record { space = without_block state.space number; next = state.next - 1 }

-- a block that was taken back can be live again: its words lie free, no other has its number, fewer blocks are live than were
-- handed out, and with it the heap is one
pub record CanPutBack (state : HeapState) (number : ℕ) (words : Words) : Type 0 where
  pub within : IsWithin state.space.base state.space.top (block_at number words)
  pub free : LiesFree state.space words.count words.base
  pub another : All (λ other. other.number ≢ number) state.space.live
  pub left : length state.space.live < state.next
  pub heap : IsHeap (live_again state number words)

-- a block can be handed back: it is the last one, and without it the heap is one
pub record CanHandBack (state : HeapState) (number : ℕ) : Type 0 where
  pub last : number + 1 ≡ state.next
  pub heap : IsHeap (handed_back state number)

abbrev pub heap_commit : HeapState → Plan HeapTag → HeapState
heap_commit state plan =
    if plan.service == free_service then taken_back state plan.note else handed_out state plan.note plan.range

-- a plan without a range changed nothing
abbrev pub uncommitted : Bool → HeapState → ℕ → Option Words → HeapState
uncommitted is_free state number None = state
uncommitted is_free state number (Some words) = if is_free then live_again state number words else handed_back state number

abbrev pub heap_uncommit : HeapState → Plan HeapTag → HeapState
heap_uncommit state plan = uncommitted (plan.service == free_service) state plan.note plan.range

-- number, base and words of the live block at that place
abbrev pub heap_listed : HeapState → ℕ → Option (ℕ × ℕ × ℕ)
heap_listed state place =
    option_map (λ block. (block.number, block.base, block.words)) (slice_get state.space.live place)

-- ---- the texts

abbrev pub pointer_text : ℕ → List ℕ
pointer_text block = codes "ptr(" ++ decimal block ++ codes ")"

abbrev pub content_text : Content → List ℕ
content_text contents.Val = codes "val"
content_text (contents.Ptr block) = pointer_text block

abbrev pub heap_text : HeapTag → List ℕ
heap_text Val = codes "val"
heap_text (Ptr block) = pointer_text block
heap_text (Static content) = codes "static(" ++ content_text content ++ codes ")"
heap_text (Cell block content) = codes "cell(" ++ decimal block ++ codes "," ++ content_text content ++ codes ")"
heap_text Free = codes "free"

abbrev pub heap : PolicyModel HeapTag HeapState
heap = record {
  plain = λ state. Val;
  rule = λ state g x. heap_rule g x;
  ignores = λ state g. heap_ignores g;
  peeks = λ state. false;
  peek = λ state shape first second. Ok tt;
  knows = λ state number. heap_knows number;
  uses = λ state number. 1;
  lend = λ state tag. Ok tt;
  room = λ state. state.space.top;
  plan = heap_plan;
  retag = λ state plan old. Ok (cell_after plan.service plan.note);
  wipe = λ state pc old. wipe_tag old;
  commit = heap_commit;
  uncommit = heap_uncommit;
  start_pc = λ state birth. Val;
  start_word = λ state birth. heap_start_word birth;
  text = λ state tag. heap_text tag;
  listed = heap_listed;
}
