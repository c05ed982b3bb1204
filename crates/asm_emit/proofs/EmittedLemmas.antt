-- What lines add, as the words that they emit.
use Rattle.std.proofs.Common.{◌≡◌, ℕ, ◌+◌, List, [], ◌∷◌, ◌++◌, refl, sym, ap, ◌∙◌, append_assoc}
use Rattle.std.proofs.lemmas.List.{append-nil}
use Rattle.asm_words.specs.Emission.{words_of}
use Rattle.asm_emit.specs.declared.marks.Marks.{Marks}
use Rattle.asm_emit.specs.declared.values.Addition.{Addition}
use Rattle.asm_emit.specs.declared.values.Addition.TheVariants as additions
use Rattle.asm_emit.specs.Draft.{Draft, empty_draft, without_label, with_addition, with_additions, with_marked, with_words}
use Rattle.asm_emit.specs.Emitted.{AreMadeOfWords, Word, WordLists, edge_in, edges_of, words_of_additions, lists_in, lists_of, marked_words, marks_behind, marks_past, with_next_word, words_in}

-- ---- words

words_lists : (draft : Draft) (address : ℕ) (words : List ℕ) → lists_in (with_words draft address words) ≡ lists_of (lists_in draft) (marked_words draft.marks address words)
unfolding with_words lists_of marked_words
words_lists draft address [] = refl
words_lists draft address (word ∷ words) = words_lists (with_marked draft address word) (address + 4) words

past_again : (marks : Marks) (words : List ℕ) → marks_past (without_label marks) words ≡ without_label marks
past_again marks [] = refl
past_again marks (word ∷ words) = refl

words_marks : (draft : Draft) (address : ℕ) (words : List ℕ) → (with_words draft address words).marks ≡ marks_past draft.marks words
unfolding with_words
words_marks draft address [] = refl
words_marks draft address (word ∷ words) = words_marks (with_marked draft address word) (address + 4) words ∙ past_again draft.marks words

words_edges : (draft : Draft) (address : ℕ) (words : List ℕ) → (with_words draft address words).edges ≡ draft.edges
unfolding with_words
words_edges draft address [] = refl
words_edges draft address (word ∷ words) = words_edges (with_marked draft address word) (address + 4) words

-- ---- one line

line_lists : (draft : Draft) (place : ℕ) (addition : Addition) → lists_in (with_addition draft place addition) ≡ lists_of (lists_in draft) (marked_words draft.marks place (words_in addition))
unfolding with_addition lists_of marked_words
line_lists draft place additions.Nothing = refl
line_lists draft place (additions.Words emission) = words_lists draft place (words_of emission)
line_lists draft place (additions.Heap base bytes) = refl
line_lists draft place (additions.Entry hart address) = refl
line_lists draft place additions.Code = refl
line_lists draft place additions.Data = refl
line_lists draft place (additions.Label id) = refl
line_lists draft place (additions.Edge source target) = refl
line_lists draft place (additions.Compartment protection) = refl

line_marks : (draft : Draft) (place : ℕ) (addition : Addition) → (with_addition draft place addition).marks ≡ marks_behind draft.marks addition
unfolding with_addition
line_marks draft place additions.Nothing = refl
line_marks draft place (additions.Words emission) = words_marks draft place (words_of emission)
line_marks draft place (additions.Heap base bytes) = refl
line_marks draft place (additions.Entry hart address) = refl
line_marks draft place additions.Code = refl
line_marks draft place additions.Data = refl
line_marks draft place (additions.Label id) = refl
line_marks draft place (additions.Edge source target) = refl
line_marks draft place (additions.Compartment protection) = refl

line_edges : (draft : Draft) (place : ℕ) (addition : Addition) → (with_addition draft place addition).edges ≡ draft.edges ++ edge_in addition
unfolding with_addition
line_edges draft place additions.Nothing = sym (append-nil draft.edges)
line_edges draft place (additions.Words emission) = words_edges draft place (words_of emission) ∙ sym (append-nil draft.edges)
line_edges draft place (additions.Heap base bytes) = sym (append-nil draft.edges)
line_edges draft place (additions.Entry hart address) = sym (append-nil draft.edges)
line_edges draft place additions.Code = sym (append-nil draft.edges)
line_edges draft place additions.Data = sym (append-nil draft.edges)
line_edges draft place (additions.Label id) = sym (append-nil draft.edges)
line_edges draft place (additions.Edge source target) = refl
line_edges draft place (additions.Compartment protection) = sym (append-nil draft.edges)

-- ---- all lines

lists_append : (lists : WordLists) (prefix back : List Word) → lists_of lists (prefix ++ back) ≡ lists_of (lists_of lists prefix) back
unfolding lists_of
lists_append lists [] back = refl
lists_append lists (word ∷ prefix) back = lists_append (with_next_word lists word) prefix back

all_lists : (draft : Draft) (all : List (ℕ × Addition)) → lists_in (with_additions draft all) ≡ lists_of (lists_in draft) (words_of_additions draft.marks all)
unfolding lists_of words_of_additions
all_lists draft [] = refl
all_lists draft (first ∷ more) =
    let next = with_addition draft first.0 first.1 in
    let prefix = marked_words draft.marks first.0 (words_in first.1) in
    let here : lists_of (lists_in next) (words_of_additions next.marks more) ≡ lists_of (lists_of (lists_in draft) prefix) (words_of_additions (marks_behind draft.marks first.1) more) =
    ap (λ (lists : WordLists). lists_of lists (words_of_additions next.marks more)) (line_lists draft first.0 first.1)
    ∙ ap (λ (marks : Marks). lists_of (lists_of (lists_in draft) prefix) (words_of_additions marks more)) (line_marks draft first.0 first.1) in
    all_lists next more ∙ here ∙ sym (lists_append (lists_in draft) prefix (words_of_additions (marks_behind draft.marks first.1) more))

all_edges : (draft : Draft) (all : List (ℕ × Addition)) → (with_additions draft all).edges ≡ draft.edges ++ edges_of all
unfolding edges_of
all_edges draft [] = sym (append-nil draft.edges)
all_edges draft (first ∷ more) =
    all_edges (with_addition draft first.0 first.1) more ∙ ap (λ (edges : List (ℕ × ℕ)). edges ++ edges_of more) (line_edges draft first.0 first.1) ∙ append_assoc draft.edges (edge_in first.1) (edges_of more)

pub made_of_words : AreMadeOfWords
made_of_words version harts all = record { lists = all_lists (empty_draft version harts) all; edges = all_edges (empty_draft version harts) all }
