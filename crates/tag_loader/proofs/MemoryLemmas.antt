-- What is read of a memory over which the words of segments were put, and that each is a word.
use Rattle.std.proofs.Common.{◌≡◌, ℕ, ◌+◌, ◌-◌, ◌*◌, ◌/◌, ◌^◌, ◌<◌, ◌≤◌, Bool, true, false, ◌&&◌, ◌⊎◌, inl, inr, Option, Some, None, List, [], ◌∷◌, ◌++◌, length, get_or, take, drop, replicate, refl, ap, ◌∙◌, arith, lit<}
use Rattle.std.specs.Prelude.{nat_le}
use Rattle.std.specs.List.{All, list_all}
use Rattle.std.proofs.lemmas.Bool.{leb-true, ltb-true}
use Rattle.std.proofs.lemmas.List.{length-append, length-take, length-take-le, length-drop, length-replicate, get_or_append_left, get_or-append_right, get_or-take, get_or-drop, get_or-replicate}
use Rattle.std.proofs.lemmas.List.Elements.{All-append, All-cons, All-drop, All-head, All-map, All-nil, All-replicate, All-tail, All-take}
use Rattle.std.proofs.lemmas.List.Sums.{AllPass-from_list_all}
use Rattle.std.proofs.lemmas.Option.{slice_get-get_or}
use Rattle.image_format.specs.Picture.{Picture, Segment}
use Rattle.image_format.specs.declared.rows.WordRange.{WordRange}
use Rattle.image_format.specs.Conditions.{IsImage, are_rows, extent_of, in_order, is_clear_of, is_segment, is_range, is_aligned, is_word_count, is_u32}
use Rattle.policy_trait.specs.Model.{PolicyModel}
use Rattle.tag_memory.specs.Hart.{HartState}
use Rattle.turn_steps.specs.Values.{HartHasWords, IsWord}
use Rattle.engine_trait.specs.Machine.{HasWords}
use Rattle.tag_loader.specs.Start.{memory_of, start_hart, start_harts, start_machine, start_ram, with_segments, words_over}
use Rattle.tag_loader.specs.Memory.{HoldsWords, LiesOutside, WordAt}

-- ---- words put over others

length-overwritten : (memory : List ℕ) (place : ℕ) (words : List ℕ) → place + length words ≤ length memory → length (words_over memory place words) ≡ length memory
length-overwritten memory place words fits = simp (length-append, length-take, length-drop) (omega arith)

-- a word that was put there
get_or-overwritten_inside : (memory : List ℕ) (place : ℕ) (words : List ℕ) (k : ℕ) → place + length words ≤ length memory → k < length words → get_or (words_over memory place words) (place + k) 0 ≡ get_or words k 0
get_or-overwritten_inside memory place words k fits lt =
    let rest : List ℕ = drop (place + length words) memory in
    let k_is : place + k - place ≡ k = omega arith in
    get_or-append_right (take place memory) (words ++ rest) place (place + k) 0 (length-take-le place memory (omega arith)) (omega arith)
    ∙ ap (λ (i : ℕ). get_or (words ++ rest) i 0) k_is
    ∙ get_or_append_left words rest 0 k lt

-- a word that stays
get_or-overwritten_outside : (memory : List ℕ) (place : ℕ) (words : List ℕ) (n : ℕ) → place + length words ≤ length memory → (n < place) ⊎ (place + length words ≤ n) → get_or (words_over memory place words) n 0 ≡ get_or memory n 0
get_or-overwritten_outside memory place words n fits (inl before) =
    let prefix_len : length (take place memory) ≡ place = length-take-le place memory (omega arith) in
    get_or_append_left (take place memory) (words ++ drop (place + length words) memory) 0 n (omega arith)
    ∙ get_or-take place memory n 0 before
get_or-overwritten_outside memory place words n fits (inr behind) =
    let rest : List ℕ = drop (place + length words) memory in
    let n_is : (place + length words) + (n - place - length words) ≡ n = omega arith in
    get_or-append_right (take place memory) (words ++ rest) place n 0 (length-take-le place memory (omega arith)) (omega arith)
    ∙ get_or-append_right words rest (length words) (n - place) 0 refl (omega arith)
    ∙ get_or-drop (place + length words) memory (n - place - length words) 0
    ∙ ap (λ (i : ℕ). get_or memory i 0) n_is

-- ---- segments in order

-- the segment ends in a memory of this many words
abbrev EndsInside : ℕ → Segment → Type 0
EndsInside size segment = segment.address / 4 + length segment.words ≤ size

-- Each segment begins no earlier than the one before it ends, the first no earlier than a place, and each ends in the memory. All are counted in words.
abbrev IsAscending : ℕ → ℕ → List Segment → Type 0
IsAscending size low [] = Unit {0}
IsAscending size low (segment ∷ segments) = (low ≤ segment.address / 4) × EndsInside size segment × IsAscending size (segment.address / 4 + length segment.words) segments

-- where a range ends, counted in words
abbrev end_of : Option WordRange → ℕ
end_of None = 0
end_of (Some range) = range.address / 4 + range.words

both : (a b : Bool) → (a && b) ≡ true → (a ≡ true) × (b ≡ true)
both true b e = (refl, e)
both false b e = absurd cc

begins_behind : (before : Option WordRange) (range : WordRange) → in_order is_clear_of before range ≡ true → end_of before ≤ range.address / 4
begins_behind None range e = omega arith
begins_behind (Some before) range e = let clear = leb-true (before.address + 4 * before.words) range.address e in omega arith

ends_inside : (ram : ℕ) (segment : Segment) → is_segment ram segment ≡ true → EndsInside (ram / 4) segment
ends_inside ram segment e =
    let last : ℕ = segment.address + 4 * length segment.words in
    let range = (both (is_range ram (extent_of segment)) (list_all is_u32 segment.words) e).0 in
    let count = (both (is_aligned segment.address) (is_word_count ram segment.address (length segment.words)) range).1 in
    let inside : last ≤ ram = leb-true last ram (both (nat_le 1 (length segment.words)) (nat_le last ram) count).1 in
    omega arith

ascends : (ram : ℕ) (before : Option WordRange) (segments : List Segment) → are_rows extent_of (is_segment ram) is_clear_of before segments ≡ true → IsAscending (ram / 4) (end_of before) segments
ascends ram before [] e = tt
ascends ram before (segment ∷ segments) e =
    let parts = both (is_segment ram segment && in_order is_clear_of before (extent_of segment)) (are_rows extent_of (is_segment ram) is_clear_of (Some (extent_of segment)) segments) e in
    let first = both (is_segment ram segment) (in_order is_clear_of before (extent_of segment)) parts.0 in
    (begins_behind before (extent_of segment) first.1, ends_inside ram segment first.0, ascends ram (Some (extent_of segment)) segments parts.1)

-- what lies before a place lies outside all segments that begin no earlier
lies_before : (size low n : ℕ) (segments : List Segment) → IsAscending size low segments → n < low → All (LiesOutside n) segments
lies_before size low n [] up lt = All-nil (LiesOutside n)
lies_before size low n (segment ∷ segments) up lt =
    All-cons (LiesOutside n) segment segments (inl (omega arith)) (lies_before size (segment.address / 4 + length segment.words) n segments up.2 (omega arith))

all_inside : (size low : ℕ) (segments : List Segment) → IsAscending size low segments → All (EndsInside size) segments
all_inside size low [] up = All-nil (EndsInside size)
all_inside size low (segment ∷ segments) up = All-cons (EndsInside size) segment segments up.1 (all_inside size (segment.address / 4 + length segment.words) segments up.2)

-- ---- the words of segments put over others

-- a memory reads as the segment's words, from its address on
abbrev ReadsWords : List ℕ → Segment → Type 0
ReadsWords memory segment = (k : ℕ) → k < length segment.words → get_or memory (segment.address / 4 + k) 0 ≡ get_or segment.words k 0

length-with_segments : (size low : ℕ) (memory : List ℕ) (segments : List Segment) → length memory ≡ size → IsAscending size low segments → length (with_segments memory segments) ≡ size
length-with_segments size low memory [] len up = len
length-with_segments size low memory (segment ∷ segments) len up =
    length-with_segments size (segment.address / 4 + length segment.words) (words_over memory (segment.address / 4) segment.words) segments
    (length-overwritten memory (segment.address / 4) segment.words (omega arith) ∙ len) up.2

-- a word outside all segments stays
get_or-with_segments : (size low : ℕ) (memory : List ℕ) (segments : List Segment) (n : ℕ) → length memory ≡ size → IsAscending size low segments → All (LiesOutside n) segments → get_or (with_segments memory segments) n 0 ≡ get_or memory n 0
get_or-with_segments size low memory [] n len up outside = refl
get_or-with_segments size low memory (segment ∷ segments) n len up outside =
    get_or-with_segments size (segment.address / 4 + length segment.words) (words_over memory (segment.address / 4) segment.words) segments n
    (length-overwritten memory (segment.address / 4) segment.words (omega arith) ∙ len) up.2 (All-tail (LiesOutside n) segment segments outside)
    ∙ get_or-overwritten_outside memory (segment.address / 4) segment.words n (omega arith) (All-head (LiesOutside n) segment segments outside)

-- no later segment writes over the words of an earlier one
all_read : (size low : ℕ) (memory : List ℕ) (segments : List Segment) → length memory ≡ size → IsAscending size low segments → All (ReadsWords (with_segments memory segments)) segments
all_read size low memory [] len up = All-nil (ReadsWords memory)
all_read size low memory (segment ∷ segments) len up =
    let place : ℕ = segment.address / 4 in
    let words : List ℕ = segment.words in
    let over : List ℕ = words_over memory place words in
    let over_len : length over ≡ size = length-overwritten memory place words (omega arith) ∙ len in
    let first : ReadsWords (with_segments over segments) segment =
    λ k lt.
    get_or-with_segments size (place + length words) over segments (place + k) over_len up.2 (lies_before size (place + length words) (place + k) segments up.2 (omega arith))
    ∙ get_or-overwritten_inside memory place words k (omega arith) lt in
    All-cons (ReadsWords (with_segments over segments)) segment segments first (all_read size (place + length words) over segments over_len up.2)

-- ---- words

-- each word of the segment is one
abbrev OfWords : Segment → Type 0
OfWords segment = All IsWord segment.words

-- the rows of segments say so
of_words : (ram : ℕ) (before : Option WordRange) (segments : List Segment) → are_rows extent_of (is_segment ram) is_clear_of before segments ≡ true
    → All OfWords segments
of_words ram before [] e = All-nil OfWords
of_words ram before (segment ∷ segments) e =
    let parts =
    both (is_segment ram segment && in_order is_clear_of before (extent_of segment))
    (are_rows extent_of (is_segment ram) is_clear_of (Some (extent_of segment)) segments) e in
    let first = both (is_segment ram segment) (in_order is_clear_of before (extent_of segment)) parts.0 in
    let fit = (both (is_range ram (extent_of segment)) (list_all is_u32 segment.words) first.0).1 in
    let here : OfWords segment =
    λ k default below. ltb-true (get_or segment.words k default) (2 ^ 32) (AllPass-from_list_all is_u32 segment.words fit k default below) in
    All-cons OfWords segment segments here (of_words ram (Some (extent_of segment)) segments parts.1)

words_with_segments : (memory : List ℕ) (segments : List Segment) → All IsWord memory → All OfWords segments → All IsWord (with_segments memory segments)
words_with_segments memory [] all are = all
words_with_segments memory (segment ∷ segments) all are =
    let place : ℕ = segment.address / 4 in
    let rest : List ℕ = drop (place + length segment.words) memory in
    words_with_segments (words_over memory place segment.words) segments
    (All-append IsWord (take place memory) (segment.words ++ rest) (All-take IsWord place memory all)
    (All-append IsWord segment.words rest (All-head OfWords segment segments are) (All-drop IsWord (place + length segment.words) memory all)))
    (All-tail OfWords segment segments are)

-- ---- the memory of an image

start_ascends : (g : Picture) → IsImage g → IsAscending (g.ram / 4) 0 g.segments
start_ascends g is = ascends g.ram None g.segments is.segments.rows

pub length-memory_of : (g : Picture) → IsImage g → length (memory_of g) ≡ g.ram / 4
unfolding memory_of
length-memory_of g is = length-with_segments (g.ram / 4) 0 (replicate (g.ram / 4) 0) g.segments (length-replicate (g.ram / 4) 0) (start_ascends g is)

memory_reads : (g : Picture) → IsImage g → All (ReadsWords (memory_of g)) g.segments
unfolding memory_of
memory_reads g is = all_read (g.ram / 4) 0 (replicate (g.ram / 4) 0) g.segments (length-replicate (g.ram / 4) 0) (start_ascends g is)

pub memory_holds : (g : Picture) → IsImage g → All (HoldsWords g) g.segments
memory_holds g is i d lt k below =
    let segment : Segment = get_or g.segments i d in
    let inside : EndsInside (g.ram / 4) segment = all_inside (g.ram / 4) 0 g.segments (start_ascends g is) i d lt in
    slice_get-get_or (memory_of g) (segment.address / 4 + k) 0 (omega (arith, length-memory_of g is))
    ∙ ap (λ (word : ℕ). Some word) (memory_reads g is i d lt k below)

pub others_are_zero : (g : Picture) (n : ℕ) → IsImage g → n < g.ram / 4 → All (LiesOutside n) g.segments → WordAt g n 0
unfolding memory_of
others_are_zero g n is lt outside =
    slice_get-get_or (memory_of g) n 0 (omega (arith, length-memory_of g is))
    ∙ ap (λ (word : ℕ). Some word)
    (get_or-with_segments (g.ram / 4) 0 (replicate (g.ram / 4) 0) g.segments n (length-replicate (g.ram / 4) 0) (start_ascends g is) outside
    ∙ get_or-replicate (g.ram / 4) n 0 0 lt)

-- each word of it is one
pub memory_words : (g : Picture) → IsImage g → All IsWord (memory_of g)
unfolding memory_of
memory_words g is =
    words_with_segments (replicate (g.ram / 4) 0) g.segments (All-replicate IsWord (g.ram / 4) 0 (lit< tt)) (of_words g.ram None g.segments is.segments.rows)

-- and so is every other value at the start
pub start_words : {S T : Type 0} (m : PolicyModel T S) (policy : S) (g : Picture) → IsImage g → HasWords (start_machine m policy g).core
unfolding start_machine start_ram start_harts
start_words {S} {T} m policy g is = record {
  harts = All-map (λ (hart : HartState T). HartHasWords hart) (start_hart m policy g) g.entries (λ n default below. All-replicate IsWord 31 0 (lit< tt));
  ram = memory_words g is;
}
