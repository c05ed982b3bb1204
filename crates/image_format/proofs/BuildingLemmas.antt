-- A word is put behind segments that are kept as one list of words.
use Rattle.std.proofs.Common.{◌≡◌, ℕ, ◌+◌, ◌-◌, ◌*◌, ◌<◌, ◌≤◌, ◌==◌, Bool, true, false, List, [], ◌∷◌, ◌++◌, length, get_or, set, map, take, drop, refl, sym, ap, subst, ◌∙◌, append_assoc, arith}
use Rattle.std.proofs.lemmas.List.{get_or_default, take_all, length-append, length-drop, length-take, drop-append-le, map_push}
use Rattle.std.proofs.lemmas.List.Elements.{All-take}
use Rattle.shared_terms.proofs.ListLemmas.{last_set, last_split}
use Rattle.image_format.specs.declared.rows.WordRange.{WordRange}
use Rattle.image_format.specs.declared.segments.Extent.{Extent}
use Rattle.image_format.specs.Picture.{Segment}
use Rattle.image_format.specs.Building.{end_of, one_word, longer, with_next, with_word}
use Rattle.image_format.specs.Parts.{part_of, EndsWithin, AreKept}
use Rattle.image_format.proofs.PartLemmas.{extent_from, parts_kept, parts_pushed}

-- ---- the last segment

-- the last segment alone decides
word_after : (prefix : List Segment) (last : Segment) (address word : ℕ) → with_word (prefix ++ last ∷ []) address word ≡ prefix ++ with_next last address word
word_after [] last address word = refl
word_after (segment ∷ []) last address word = refl
word_after (segment ∷ next ∷ prefix) last address word = ap (λ (xs : List Segment). segment ∷ xs) (word_after (next ∷ prefix) last address word)

next_joined : (last : Segment) (address word : ℕ) → (end_of last == address) ≡ true → with_next last address word ≡ longer last word ∷ []
next_joined last address word joined = rw joined refl

next_begun : (last : Segment) (address word : ℕ) → (end_of last == address) ≡ false → with_next last address word ≡ last ∷ one_word address word ∷ []
next_begun last address word begun = rw begun refl

-- ---- the last extent

abbrev raised : Extent → Extent
raised extent = record { address = extent.address; first = extent.first; words = extent.words + 1 }

part_end : (contents : List ℕ) (extent : Extent) → EndsWithin contents extent → end_of (part_of contents extent) ≡ extent.address + 4 * extent.words
part_end contents extent within =
    omega (arith, length-take extent.words (drop extent.first contents), length-drop extent.first contents)

longer_part : (contents : List ℕ) (extent : Extent) (word : ℕ) → extent.first + extent.words ≡ length contents → longer (part_of contents extent) word ≡ part_of (contents ++ word ∷ []) (raised extent)
longer_part contents extent word ends =
    let rest = drop extent.first contents in
    let len = length-drop extent.first contents in
    let dropped = drop-append-le extent.first contents (word ∷ []) (omega arith) in
    let all : take extent.words rest ≡ rest = take_all extent.words rest (omega (arith, len)) in
    let more : take (extent.words + 1) (rest ++ word ∷ []) ≡ rest ++ word ∷ [] = take_all (extent.words + 1) (rest ++ word ∷ []) (omega (arith, len, length-append rest (word ∷ []))) in
    ap (λ (words : List ℕ). record { address = extent.address; words = words }) (ap (λ (words : List ℕ). words ++ word ∷ []) all ∙ sym (ap (take (extent.words + 1)) dropped ∙ more))

-- ---- the two ways

-- the last extent, and what stands before it
abbrev before_last : List Extent → List Extent
before_last extents = take (length extents - 1) extents

-- what the last extent is, however it was read
record IsLast (contents : List ℕ) (extents : List Extent) (last : Extent) : Type 0 where
  split : extents ≡ before_last extents ++ last ∷ []
  within : EndsWithin contents last
  at_end : last.first + last.words ≡ length contents
  segments : map (part_of contents) extents ≡ map (part_of contents) (before_last extents) ++ part_of contents last ∷ []

is_last : (contents : List ℕ) (extents : List Extent) (count : ℕ) (last : Extent) → AreKept contents extents → count ≡ length extents → 0 < count → last ≡ get_or extents (count - 1) last → IsLast contents extents last
is_last contents extents count last kept count-is some last-is =
    let is : last ≡ get_or extents (length extents - 1) last = subst (λ (n : ℕ). last ≡ get_or extents (n - 1) last) count-is last-is in
    let split : extents ≡ before_last extents ++ last ∷ [] = last_split extents last (omega arith) ∙ ap (λ (e : Extent). before_last extents ++ e ∷ []) (sym is) in
    record {
      split = split;
      within = subst (EndsWithin contents) (sym is) (kept.within (length extents - 1) last (omega arith));
      at_end = subst (λ (e : Extent). e.first + e.words ≡ length contents) (sym is) (kept.last last (omega arith));
      segments = ap (map (part_of contents)) split ∙ map_push (part_of contents) (before_last extents) last;
    }

-- what comes of the segments where the last one is known
word_put : (contents : List ℕ) (extents : List Extent) (address word : ℕ) (last : Extent) → IsLast contents extents last → with_word (map (part_of contents) extents) address word ≡ map (part_of contents) (before_last extents) ++ with_next (part_of contents last) address word
word_put contents extents address word last is =
    ap (λ (segments : List Segment). with_word segments address word) is.segments ∙ word_after (map (part_of contents) (before_last extents)) (part_of contents last) address word

last_ends : (contents : List ℕ) (extents : List Extent) (last : Extent) (address : ℕ) (b : Bool) → IsLast contents extents last → (last.address + 4 * last.words == address) ≡ b → (end_of (part_of contents last) == address) ≡ b
last_ends contents extents last address b is ends = ap (λ (n : ℕ). n == address) (part_end contents last is.within) ∙ ends

-- the word stands behind those of the last segment
pub is_joined : (contents : List ℕ) (extents : List Extent) (address word count : ℕ) (read last : Extent) → AreKept contents extents → count ≡ length extents → 0 < count → read ≡ get_or extents (count - 1) read → last ≡ get_or extents (count - 1) last → (read.address + 4 * read.words == address) ≡ true
    → map (part_of (contents ++ word ∷ [])) (set extents (count - 1) (raised last)) ≡ with_word (map (part_of contents) extents) address word
is_joined contents extents address word count read last kept count-is some read-is last-is ends =
    let part_more = part_of (contents ++ word ∷ []) in
    let prefix = before_last extents in
    let is = is_last contents extents count last kept count-is some last-is in
    let same : read ≡ last = read-is ∙ get_or_default extents (count - 1) read last (omega arith) ∙ sym last-is in
    let joined = last_ends contents extents last address true is (subst (λ (e : Extent). (e.address + 4 * e.words == address) ≡ true) same ends) in
    let written : set extents (count - 1) (raised last) ≡ prefix ++ raised last ∷ [] = subst (λ (n : ℕ). set extents (n - 1) (raised last) ≡ prefix ++ raised last ∷ []) (sym count-is) (last_set extents (raised last) (omega arith)) in
    let left : map part_more (set extents (count - 1) (raised last)) ≡ map part_more prefix ++ part_more (raised last) ∷ [] = ap (map part_more) written ∙ map_push part_more prefix (raised last) in
    let right = word_put contents extents address word last is ∙ ap (λ (xs : List Segment). map (part_of contents) prefix ++ xs) (next_joined (part_of contents last) address word joined) in
    left ∙ rw (parts_kept contents (word ∷ []) prefix (All-take (EndsWithin contents) (length extents - 1) extents kept.within), sym (longer_part contents last word is.at_end)) refl ∙ sym right

-- one more part of one word
abbrev one_word_range : ℕ → WordRange
one_word_range address = record { address = address; words = 1 }

one_more : (contents : List ℕ) (extents : List Extent) (address word first : ℕ) → AreKept contents extents → first ≡ length contents
    → map (part_of (contents ++ word ∷ [])) (extents ++ extent_from first (one_word_range address) ∷ []) ≡ map (part_of contents) extents ++ one_word address word ∷ []
one_more contents extents address word first kept first-is = rw first-is (sym (parts_pushed contents (word ∷ []) extents (one_word_range address) kept.within refl))

-- the word is the first of the first segment
pub is_first : (contents : List ℕ) (extents : List Extent) (address word count first : ℕ) → AreKept contents extents → count ≡ length extents → count ≤ 0 → first ≡ length contents
    → map (part_of (contents ++ word ∷ [])) (extents ++ extent_from first (one_word_range address) ∷ []) ≡ with_word (map (part_of contents) extents) address word
is_first contents [] address word count first kept count-is none first-is = one_more contents [] address word first kept first-is
is_first contents (extent ∷ extents) address word count first kept count-is none first-is = absurd (omega arith)

-- the word is the first of another segment
pub is_begun : (contents : List ℕ) (extents : List Extent) (address word count first : ℕ) (last : Extent) → AreKept contents extents → count ≡ length extents → 0 < count → last ≡ get_or extents (count - 1) last → (last.address + 4 * last.words == address) ≡ false → first ≡ length contents
    → map (part_of (contents ++ word ∷ [])) (extents ++ extent_from first (one_word_range address) ∷ []) ≡ with_word (map (part_of contents) extents) address word
is_begun contents extents address word count first last kept count-is some last-is ends first-is =
    let segments = map (part_of contents) (before_last extents) in
    let is = is_last contents extents count last kept count-is some last-is in
    let begun = last_ends contents extents last address false is ends in
    let right = word_put contents extents address word last is ∙ ap (λ (xs : List Segment). segments ++ xs) (next_begun (part_of contents last) address word begun) in
    one_more contents extents address word first kept first-is ∙ ap (λ (xs : List Segment). xs ++ one_word address word ∷ []) is.segments ∙ append_assoc segments (part_of contents last ∷ []) (one_word address word ∷ []) ∙ sym right
