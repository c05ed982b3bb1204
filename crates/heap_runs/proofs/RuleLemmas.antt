-- What an allowed rule tells of its tags: what its result names, which word is reached, and what a word holds after a store.
use Rattle.std.proofs.Common.{◌≡◌, ℕ, ◌==◌, Bool, true, false, ◌&&◌, Option, Some, None, Ok, option_map, if◌then◌else◌, refl, ap, subst, sym}
use Rattle.std.specs.Option.{option_and_then}
use Rattle.std.proofs.lemmas.Option.{same_Some}
use Rattle.rv_decode.specs.declared.groups.Group.{Group}
use Rattle.rv_decode.specs.declared.groups.Group.TheVariants as group
use Rattle.policy_trait.specs.declared.rules.Ins.{Ins}
use Rattle.policy_trait.specs.declared.rules.Outs.{Outs}
use Rattle.turn_steps.specs.declared.look.Look.{Look}
use Rattle.engine_trait.specs.Events.{Event}
use Rattle.engine_trait.specs.Machine.{Machine}
use Rattle.engine_trait.specs.Turn.{rule_inputs}
use Rattle.heap_policy.specs.Heap.{HeapState, content_of, outs_or_refusal, difference, effect_of, heap, word_content, holding, is_reached, is_static, is_val, load_content, result_by, tag_after_store, sum, tag_of, uses_word, val_where}
use Rattle.heap_policy.specs.declared.tag.Content.{Content}
use Rattle.heap_policy.specs.declared.tag.Content.TheVariants as contents
use Rattle.heap_policy.specs.declared.tag.HeapTag.{HeapTag}
use Rattle.heap_policy.specs.declared.tag.HeapTag.TheVariants.{Val, Ptr, Static, Cell, Free}
use Rattle.part_turns.specs.Turns.{Allows, is_computing}
use Rattle.heap_runs.specs.HeapInvariant.{IsBelow, IsContentBelow}
use Rattle.shared_terms.proofs.StepLemmas.{ok_is}

-- ---- blocks that a result names

module _ (next : ℕ) where
  abbrev IsBelowIf : Option HeapTag → Type 0
  IsBelowIf found = (tag : HeapTag) → found ≡ Some tag → IsBelow next tag

  here : (tag : HeapTag) → IsBelow next tag → IsBelowIf (Some tag)
  here tag below found e = subst (IsBelow next) (same_Some tag found e) below

  never : IsBelowIf None
  never found e = absurd cc

  val_below : (allowed : Bool) → IsBelowIf (val_where allowed)
  val_below true = here Val tt
  val_below false = never

  -- what a register or a word holds
  abbrev IsHeldBelow : Option Content → Type 0
  IsHeldBelow found = (content : Content) → found ≡ Some content → IsContentBelow next content

  held_here : (content : Content) → IsContentBelow next content → IsHeldBelow (Some content)
  held_here content below found e = subst (IsContentBelow next) (same_Some content found e) below

  held_never : IsHeldBelow None
  held_never found e = absurd cc

  content_below : (tag : HeapTag) → IsBelow next tag → IsHeldBelow (content_of tag)
  content_below Val below = held_here contents.Val tt
  content_below (Ptr number) below = held_here (contents.Ptr number) below
  content_below (Static content) below = held_never
  content_below (Cell number content) below = held_never
  content_below Free below = held_never

  held_below : (tag : HeapTag) → IsBelow next tag → IsHeldBelow (word_content tag)
  held_below Val below = held_never
  held_below (Ptr number) below = held_never
  held_below (Static content) below = held_here content below
  held_below (Cell number content) below = held_here content below.1
  held_below Free below = held_never

  -- a register with what was held
  tag_below : (found : Option Content) → IsHeldBelow found → IsBelowIf (option_map tag_of found)
  tag_below None below = never
  tag_below (Some contents.Val) below = here Val tt
  tag_below (Some (contents.Ptr number)) below = here (Ptr number) (below (contents.Ptr number) refl)

  -- a word with a new content
  holding_below : (content : Content) (tag : HeapTag) → IsContentBelow next content → IsBelow next tag → IsBelowIf (holding content tag)
  holding_below content Val word_content below = never
  holding_below content (Ptr number) word_content below = never
  holding_below content (Static old) word_content below = here (Static content) word_content
  holding_below content (Cell number old) word_content below = here (Cell number content) (below.0, word_content)
  holding_below content Free word_content below = never

  where_held : (reached : Bool) (found : Option Content) → IsHeldBelow found → IsHeldBelow (if reached then found else None)
  where_held true found below = below
  where_held false found below = held_never

  where_below : (reached : Bool) (found : Option HeapTag) → IsBelowIf found → IsBelowIf (if reached then found else None)
  where_below true found below = below
  where_below false found below = never

  stored_below : (first word : HeapTag) (content : Content) → IsContentBelow next content → IsBelow next word
      → IsBelowIf (tag_after_store first word content)
  stored_below first word content word_content below = where_below (is_reached first word) (holding content word) (holding_below content word word_content below)

  stores_below : (first word : HeapTag) (found : Option Content) → IsHeldBelow found → IsBelow next word
      → IsBelowIf (option_and_then (tag_after_store first word) found)
  stores_below first word None word_content below = never
  stores_below first word (Some content) word_content below = stored_below first word content (word_content content refl) below

  sum_below : (first second : HeapTag) → IsBelow next first → IsBelow next second → IsBelowIf (sum first second)
  sum_below Val Val below also = here Val tt
  sum_below (Ptr number) Val below also = here (Ptr number) below
  sum_below Val (Ptr number) below also = here (Ptr number) also
  sum_below _ _ below also = never

  same_below : (same : Bool) → IsBelowIf (if same then Some Val else None)
  same_below true = here Val tt
  same_below false = never

  difference_below : (first second : HeapTag) → IsBelow next first → IsBelow next second → IsBelowIf (difference first second)
  difference_below Val Val below also = here Val tt
  difference_below (Ptr number) Val below also = here (Ptr number) below
  difference_below (Ptr number) (Ptr other) below also = same_below (number == other)
  difference_below _ _ below also = never

  -- a result names no other blocks than the tags that are used
  pub result_below : (g : Group) (first second word : HeapTag) → IsBelow next first → IsBelow next second
      → (uses_word (effect_of g) ≡ true → IsBelow next word) → IsBelowIf (result_by (effect_of g) first second word)
  result_below group.Const first second word below also there = here Val tt
  result_below group.Here first second word below also there = here Val tt
  result_below group.Jal first second word below also there = here Val tt
  result_below group.Jalr first second word below also there = val_below (is_val first)
  result_below group.Branch first second word below also there = here Val tt
  result_below group.LoadWord first second word below also there =
      tag_below (load_content first word) (where_held (is_reached first word) (word_content word) (held_below word (there refl)))
  result_below group.LoadPart first second word below also there = val_below (is_reached first word)
  result_below group.StoreWord first second word below also there =
      stores_below first word (content_of second) (content_below second also) (there refl)
  result_below group.StorePart first second word below also there = stored_below first word contents.Val tt (there refl)
  result_below group.Move first second word below also there = tag_below (content_of first) (content_below first below)
  result_below group.AddImm first second word below also there = tag_below (content_of first) (content_below first below)
  result_below group.AluImm first second word below also there = val_below (is_val first)
  result_below group.Add first second word below also there = sum_below first second below also
  result_below group.Sub first second word below also there = difference_below first second below also
  result_below group.Alu first second word below also there = val_below (is_val first && is_val second)
  result_below group.Fence first second word below also there = here Val tt
  result_below group.Exit first second word below also there = val_below (is_val first && is_val second)
  result_below group.Put first second word below also there = val_below (is_val first && is_val second)
  result_below group.Get first second word below also there = val_below (is_val second)
  result_below group.Break first second word below also there = here Val tt
  result_below group.Call first second word below also there = val_below (is_val second)

-- what is computed has no use of a word
pub no_word : (g : Group) → is_computing g ≡ true → uses_word (effect_of g) ≡ false
no_word group.Move is = absurd cc
no_word group.LoadWord is = absurd cc
no_word group.LoadPart is = absurd cc
no_word group.StoreWord is = absurd cc
no_word group.StorePart is = absurd cc
no_word _ is = refl

-- ---- a word that is reached

-- with this value, or nothing
where_some : {A : Type 0} (test : Bool) (found : Option A) (x : A) → (if test then found else None) ≡ Some x → (test ≡ true) × (found ≡ Some x)
where_some true found x e = (refl, e)
where_some false found x e = absurd cc

loads_by : (first word result : HeapTag) (found : Option Content) → load_content first word ≡ found → option_map tag_of found ≡ Some result
    → is_reached first word ≡ true
loads_by first word result (Some content) is e = (where_some (is_reached first word) (word_content word) content is).0
loads_by first word result None is e = absurd cc

val_where_some : (test : Bool) (tag : HeapTag) → val_where test ≡ Some tag → test ≡ true
val_where_some true tag e = refl
val_where_some false tag e = absurd cc

-- a store that reaches its word, which then holds something else
pub record IsStored (first word result : HeapTag) : Type 0 where
  pub reached : is_reached first word ≡ true
  pub content : Content
  pub holds : holding content word ≡ Some result

stored_is : (first word result : HeapTag) (content : Content) → tag_after_store first word content ≡ Some result → IsStored first word result
stored_is first word result content e =
    let parts = where_some (is_reached first word) (holding content word) result e in
    record { reached = parts.0; content = content; holds = parts.1 }

stores_by : (first word result : HeapTag) (found : Option Content) → option_and_then (tag_after_store first word) found ≡ Some result
    → IsStored first word result
stores_by first word result (Some content) e = stored_is first word result content e
stores_by first word result None e = absurd cc

-- ---- an allowed rule

-- the instruction is static, and the row of its group has the result
pub record IsRow (called : Group) (x : Ins HeapTag) (result : HeapTag) : Type 0 where
  pub static : is_static x.ci ≡ true
  pub row : (g : Group) → called ≡ g → result_by (effect_of g) x.t1 x.t2 x.tm ≡ Some result

decided_by : (g : Group) (static : Bool) (row : Option HeapTag) (outs : Outs HeapTag) → outs_or_refusal g (if static then row else None) ≡ Ok outs
    → (static ≡ true) × (row ≡ Some outs.result)
decided_by g true (Some tag) outs e =
    (refl, ap (λ (o : Outs HeapTag). Some o.result) (ok_is (record { pc = Val; result = tag }) outs e))
decided_by g true None outs e = absurd cc
decided_by g false row outs e = absurd cc

-- and leaves a plain pc
plain_by : (g : Group) (row : Option HeapTag) (outs : Outs HeapTag) → outs_or_refusal g row ≡ Ok outs → outs.pc ≡ Val
plain_by g (Some tag) outs e = sym (ap (λ (o : Outs HeapTag). o.pc) (ok_is (record { pc = Val; result = tag }) outs e))
plain_by g None outs e = absurd cc

pub pc_is : (s : Machine HeapState HeapTag) (h : ℕ) (look : Look) (outs : Outs HeapTag) (e : Event HeapTag)
    → Allows heap s h look outs e → outs.pc ≡ Val
pc_is s h look outs e allows = plain_by look.group _ outs allows.rule

pub row_is : (s : Machine HeapState HeapTag) (h : ℕ) (look : Look) (outs : Outs HeapTag) (e : Event HeapTag)
    → Allows heap s h look outs e → IsRow look.group (rule_inputs s.core h look) outs.result
row_is s h look outs e allows =
    let x : Ins HeapTag = rule_inputs s.core h look in
    let row_of = λ (g : Group). result_by (effect_of g) x.t1 x.t2 x.tm in
    let parts = decided_by look.group (is_static x.ci) (row_of look.group) outs allows.rule in
    record { static = parts.0; row = λ g is. subst (λ (g : Group). row_of g ≡ Some outs.result) is parts.1 }

module _ (called : Group) (x : Ins HeapTag) (result : HeapTag) (allowed : IsRow called x result) where
  pub loads_reach : called ≡ group.LoadWord → is_reached x.t1 x.tm ≡ true
  loads_reach is = loads_by x.t1 x.tm result (load_content x.t1 x.tm) refl (allowed.row group.LoadWord is)

  pub loads_part_reach : called ≡ group.LoadPart → is_reached x.t1 x.tm ≡ true
  loads_part_reach is = val_where_some (is_reached x.t1 x.tm) result (allowed.row group.LoadPart is)

  pub stores_is : called ≡ group.StoreWord → IsStored x.t1 x.tm result
  stores_is is = stores_by x.t1 x.tm result (content_of x.t2) (allowed.row group.StoreWord is)

  pub stores_part_is : called ≡ group.StorePart → IsStored x.t1 x.tm result
  stores_part_is is = stored_is x.t1 x.tm result contents.Val (allowed.row group.StorePart is)
