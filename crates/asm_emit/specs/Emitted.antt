-- The words that lines emit, each with its marks, and what an image has by them alone.
use Rattle.std.specs.Prelude.{◌≡◌, ℕ, ◌+◌, true, false, List, [], ◌∷◌, ◌++◌, Some}
use Rattle.image_format.specs.declared.version.Version.{Version}
use Rattle.image_format.specs.declared.rows.WordRange.{WordRange}
use Rattle.image_format.specs.declared.rows.Label.{Label}
use Rattle.image_format.specs.Building.{with_word}
use Rattle.image_format.specs.Picture.{CompartmentRow, Segment}
use Rattle.asm_words.specs.Emission.{words_of}
use Rattle.asm_emit.specs.declared.marks.Marks.{Marks}
use Rattle.asm_emit.specs.declared.values.Addition.{Addition}
use Rattle.asm_emit.specs.declared.values.Addition.TheVariants as additions
use Rattle.asm_emit.specs.Draft.{Draft, empty_draft, first_marks, without_label, with_additions}
use Rattle.asm_emit.specs.Runs.{with_code, with_label, with_protected}

-- ---- words

-- a word at its address, whether it is code, its label, and whose it is
pub record Word : Type 0 where
  pub address : ℕ
  pub word : ℕ
  pub marks : Marks

-- words from an address on, of which the first alone has the label
unfoldable pub marked_words : Marks → ℕ → List ℕ → List Word
marked_words marks address [] = []
marked_words marks address (word ∷ words) = record { address = address; word = word; marks = marks } ∷ marked_words (without_label marks) (address + 4) words

-- the words of what a line adds
abbrev pub words_in : Addition → List ℕ
words_in (additions.Words emission) = words_of emission
words_in _ = []

-- a label isn't left behind a word
abbrev pub marks_past : Marks → List ℕ → Marks
marks_past marks [] = marks
marks_past marks (word ∷ words) = without_label marks

-- the marks of the next word behind a line
abbrev pub marks_behind : Marks → Addition → Marks
marks_behind marks (additions.Words emission) = marks_past marks (words_of emission)
marks_behind marks additions.Code = record marks { is_code = true }
marks_behind marks additions.Data = record marks { is_code = false }
marks_behind marks (additions.Label id) = record marks { label = Some id }
marks_behind marks (additions.Compartment protection) = record marks { protection = protection }
marks_behind marks _ = marks

-- the words of all lines, from the marks of the first word on
unfoldable pub words_of_additions : Marks → List (ℕ × Addition) → List Word
words_of_additions marks [] = []
words_of_additions marks (first ∷ more) = marked_words marks first.0 (words_in first.1) ++ words_of_additions (marks_behind marks first.1) more

-- ---- lists

-- what an image has by its words
pub record WordLists : Type 0 where
  pub segments : List Segment
  pub code : List WordRange
  pub labels : List Label
  pub compartments : List CompartmentRow

-- where no word is emitted all four are empty
abbrev pub no_lists : WordLists
no_lists = record { segments = []; code = []; labels = []; compartments = [] }

-- each word makes the last run of each kind longer or begins another; runs are of words at addresses one behind the other: all
-- words for segments, those that are code for code ranges, and those with one protection other than none for compartment ranges
abbrev pub with_next_word : WordLists → Word → WordLists
with_next_word lists w = record {
  segments = with_word lists.segments w.address w.word;
  code = with_code w.marks.is_code lists.code w.address;
  labels = with_label w.marks.label lists.labels w.address;
  compartments = with_protected w.marks.protection lists.compartments w.address;
}

-- the lists, with these words added one after another
unfoldable pub lists_of : WordLists → List Word → WordLists
lists_of lists [] = lists
lists_of lists (word ∷ words) = lists_of (with_next_word lists word) words

-- the four lists of a draft that its words make
abbrev pub lists_in : Draft → WordLists
lists_in draft = record { segments = draft.segments; code = draft.code; labels = draft.labels; compartments = draft.compartments }

-- the edge that a line adds
abbrev pub edge_in : Addition → List (ℕ × ℕ)
edge_in (additions.Edge source target) = (source, target) ∷ []
edge_in _ = []

-- the edges as the source has them
unfoldable pub edges_of : List (ℕ × Addition) → List (ℕ × ℕ)
edges_of [] = []
edges_of (first ∷ more) = edge_in first.1 ++ edges_of more

-- ---- the law

-- the lists of an image are those of the emitted words, and its edges those of the lines
pub record IsMadeOfWords (additions : List (ℕ × Addition)) (draft : Draft) : Type 0 where
  pub lists : lists_in draft ≡ lists_of no_lists (words_of_additions first_marks additions)
  pub edges : draft.edges ≡ edges_of additions

-- the law of each draft that lines make out of an empty one, of any version and for any number of harts
abbrev pub AreMadeOfWords : Type 0
AreMadeOfWords = (version : Version) (harts : ℕ) (additions : List (ℕ × Addition)) → IsMadeOfWords additions (with_additions (empty_draft version harts) additions)
