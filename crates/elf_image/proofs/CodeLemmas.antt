-- The next word behind code ranges that are kept in a list.
use Rattle.std.proofs.Common.{◌≡◌, ℕ, ◌+◌, ◌-◌, ◌*◌, ◌<◌, ◌≤◌, ◌==◌, true, false, List, [], ◌∷◌, ◌++◌, length, get_or, set, take, refl, sym, ap, subst, ◌∙◌, append_assoc, arith}
use Rattle.std.proofs.lemmas.List.{get_or_default}
use Rattle.shared_terms.proofs.ListLemmas.{last_set, last_split}
use Rattle.image_format.specs.declared.rows.WordRange.{WordRange}
use Rattle.elf_image.specs.Loaded.{with_code_word, with_next_code}

-- the last range alone decides
code_after : (prefix : List WordRange) (last : WordRange) (n : ℕ) → with_code_word (prefix ++ last ∷ []) n ≡ prefix ++ with_next_code last n
code_after [] last n = refl
code_after (first ∷ []) last n = refl
code_after (first ∷ second ∷ prefix) last n = ap (λ (xs : List WordRange). first ∷ xs) (code_after (second ∷ prefix) last n)

-- ranges that end with a known one
code_behind : (ranges : List WordRange) (last : WordRange) (n : ℕ) → 0 < length ranges → last ≡ get_or ranges (length ranges - 1) last
    → with_code_word ranges n ≡ take (length ranges - 1) ranges ++ with_next_code last n
code_behind ranges last n some is =
    let prefix = take (length ranges - 1) ranges in
    let split : ranges ≡ prefix ++ last ∷ [] = last_split ranges last some ∙ ap (λ (x : WordRange). prefix ++ x ∷ []) (sym is) in
    ap (λ (xs : List WordRange). with_code_word xs n) split ∙ code_after prefix last n

abbrev longer : WordRange → WordRange
longer range = record { address = range.address; words = range.words + 1 }

abbrev one_word : ℕ → WordRange
one_word n = record { address = 4 * n; words = 1 }

next_joined : (last : WordRange) (n : ℕ) → (last.address + 4 * last.words == 4 * n) ≡ true → with_next_code last n ≡ longer last ∷ []
next_joined last n joined = rw joined refl

next_begun : (last : WordRange) (n : ℕ) → (last.address + 4 * last.words == 4 * n) ≡ false → with_next_code last n ≡ last ∷ one_word n ∷ []
next_begun last n begun = rw begun refl

-- the word makes the last range longer
pub code_joined : (ranges : List WordRange) (count n : ℕ) (read last : WordRange) → count ≡ length ranges → 0 < count → read ≡ get_or ranges (count - 1) read → last ≡ get_or ranges (count - 1) last
    → (read.address + 4 * read.words == 4 * n) ≡ true → set ranges (count - 1) (longer last) ≡ with_code_word ranges n
code_joined ranges count n read last count-is some read-is last-is ends =
    let prefix = take (length ranges - 1) ranges in
    let same : read ≡ last = read-is ∙ get_or_default ranges (count - 1) read last (omega arith) ∙ sym last-is in
    let joined = subst (λ (r : WordRange). (r.address + 4 * r.words == 4 * n) ≡ true) same ends in
    let end-is : last ≡ get_or ranges (length ranges - 1) last = subst (λ (k : ℕ). last ≡ get_or ranges (k - 1) last) count-is last-is in
    let filled : 0 < length ranges = omega (arith, some, count-is) in
    ap (λ (k : ℕ). set ranges (k - 1) (longer last)) count-is ∙ last_set ranges (longer last) filled
    ∙ ap (λ (xs : List WordRange). prefix ++ xs) (sym (next_joined last n joined)) ∙ sym (code_behind ranges last n filled end-is)

-- the word begins another range
pub code_begun : (ranges : List WordRange) (count n : ℕ) (last : WordRange) → count ≡ length ranges → 0 < count → last ≡ get_or ranges (count - 1) last
    → (last.address + 4 * last.words == 4 * n) ≡ false → ranges ++ one_word n ∷ [] ≡ with_code_word ranges n
code_begun ranges count n last count-is some is ends =
    let prefix = take (length ranges - 1) ranges in
    let last-is : last ≡ get_or ranges (length ranges - 1) last = subst (λ (k : ℕ). last ≡ get_or ranges (k - 1) last) count-is is in
    let filled : 0 < length ranges = omega (arith, some, count-is) in
    let split : ranges ≡ prefix ++ last ∷ [] = last_split ranges last filled ∙ ap (λ (x : WordRange). prefix ++ x ∷ []) (sym last-is) in
    ap (λ (xs : List WordRange). xs ++ one_word n ∷ []) split ∙ append_assoc prefix (last ∷ []) (one_word n ∷ []) ∙ ap (λ (xs : List WordRange). prefix ++ xs) (sym (next_begun last n ends)) ∙ sym (code_behind ranges last n filled last-is)

-- the word is the first of the first range
pub code_first : (ranges : List WordRange) (count n : ℕ) → count ≡ length ranges → count ≤ 0 → ranges ++ one_word n ∷ [] ≡ with_code_word ranges n
code_first [] count n count-is none = refl
code_first (range ∷ ranges) count n count-is none = absurd (omega arith)
