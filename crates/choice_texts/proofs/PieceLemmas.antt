-- The text of each tag of a part is not empty, and has no bar.
use Rattle.std.proofs.Common.{◌≡◌, ℕ, ◌==◌, ◌<◌, ◌%◌, ◌^◌, nat_lt, Bool, true, false, not, List, [], ◌∷◌, ◌++◌, map, Option, Some, None, refl, arith, zero-add, ◌/◌, ◌-◌, ◌*◌, if◌then◌else◌}
use Rattle.std.specs.Prelude.{codes}
use Rattle.std.specs.Char.{digit_value}
use Rattle.std.specs.Fmt.{decimal}
use Rattle.std.specs.List.{AllPass, range_with_len}
use Rattle.std.specs.Option.{ForSome}
use Rattle.std.specs.Str.Parse.{AllDigits}
use Rattle.std.proofs.lemmas.Bool.Decides.{nat_tests}
use Rattle.std.proofs.lemmas.Fmt.{decimal_is_IsNumeral}
use Rattle.std.proofs.lemmas.List.Elements.{All-get_or}
use Rattle.std.proofs.lemmas.List.Folds.{list_all-append}
use Rattle.std.proofs.lemmas.List.FromFn.{get_or-range_with_len, length-range_with_len}
use Rattle.std.proofs.lemmas.List.Sums.{AllPass-from_list_all}
use Rattle.pump_words.specs.Texts.{hex_digit, hex_digit_of, hex8_text}
use Rattle.policy_trait.specs.Sets.{hex32_text, mask_text}
use Rattle.sealing_policy.specs.Sealing.{sealing_text}
use Rattle.sealing_policy.specs.declared.tag.SealTag.{SealTag}
use Rattle.sealing_policy.specs.declared.tag.SealTag.TheVariants as seals
use Rattle.compartment_policy.specs.Compartments.{HasFittingNumbers, compartment_text}
use Rattle.compartment_policy.specs.declared.tag.CompartmentTag.{CompartmentTag}
use Rattle.compartment_policy.specs.declared.tag.CompartmentTag.TheVariants as places
use Rattle.flow_policy.specs.Flow.{flow_text, label_text}
use Rattle.flow_policy.specs.TextLaws.{HasSmallLabels}
use Rattle.flow_policy.specs.declared.tag.FlowTag.{FlowTag}
use Rattle.flow_policy.specs.declared.tag.FlowTag.TheVariants as flows
use Rattle.heap_policy.specs.Heap.{content_text, heap_text, pointer_text}
use Rattle.heap_policy.specs.TextLaws.{HasSmallBlock, HasSmallBlocks}
use Rattle.heap_policy.specs.declared.tag.Content.{Content}
use Rattle.heap_policy.specs.declared.tag.Content.TheVariants as contents
use Rattle.heap_policy.specs.declared.tag.HeapTag.{HeapTag}
use Rattle.heap_policy.specs.declared.tag.HeapTag.TheVariants as blocks
use Rattle.choice_texts.specs.Texts.{HasSmallKey}
use Rattle.choice_texts.proofs.BarLemmas.{IsPiece, is_bare}

-- ---- numbers have no bar

bare_join : (x y : List ℕ) → is_bare x ≡ true → is_bare y ≡ true → is_bare (x ++ y) ≡ true
bare_join x y x_bare y_bare = rw (list_all-append (λ byte. not (byte == 124)) x y, x_bare) y_bare

bare_within : (prefix inner back : List ℕ) → is_bare prefix ≡ true → is_bare inner ≡ true → is_bare back ≡ true → is_bare (prefix ++ inner ++ back) ≡ true
bare_within prefix inner back f i b = bare_join (prefix ++ inner) back (bare_join prefix inner f i) b

digit_passes : (c : ℕ) → digit_value c < 10 → not (c == 124) ≡ true
digit_passes c small = grind (arith, nat_tests)

bare_digits : (digits : List ℕ) → AllDigits 10 digits → is_bare digits ≡ true
bare_digits [] all = refl
bare_digits (c ∷ digits) all = rw (digit_passes c all.0) (bare_digits digits all.1)

bare_number : (n : ℕ) → n < 2 ^ 32 → is_bare (decimal n) ≡ true
bare_number n small = bare_digits (decimal n) (decimal_is_IsNumeral n (omega (arith, small))).0.1

-- as each of the sixteen digits does
hex_passes : (n : ℕ) → n < 16 → not (hex_digit n == 124) ≡ true
hex_passes n small =
    let test : ℕ → Bool = λ m. not (hex_digit m == 124) in
    let all : AllPass test (range_with_len 0 16) = AllPass-from_list_all test (range_with_len 0 16) refl in
    let here = All-get_or (λ m. test m ≡ true) (range_with_len 0 16) n 0 (omega (arith, length-range_with_len 0 16)) all in
    (rw (get_or-range_with_len 0 16 n 0 small, zero-add n) at here)

bare_each : (f : ℕ → ℕ) → ((k : ℕ) → not (f k == 124) ≡ true) → (places : List ℕ) → is_bare (map f places) ≡ true
bare_each f passes [] = refl
bare_each f passes (k ∷ places) = rw (passes k) (bare_each f passes places)

bare_word : (word : ℕ) → is_bare (hex8_text word) ≡ true
bare_word word = bare_each (hex_digit_of word) (λ k. hex_passes (word / 2 ^ (28 - 4 * k) % 16) (omega arith)) (range_with_len 0 8)

bare_mask_by : (below : Bool) (bits : ℕ) → is_bare (if below then hex8_text bits else hex32_text bits) ≡ true
bare_mask_by true bits = bare_word bits
bare_mask_by false bits =
    let x = hex8_text (bits / 2 ^ 96) in
    let y = hex8_text (bits / 2 ^ 64 % 2 ^ 32) in
    let z = hex8_text (bits / 2 ^ 32 % 2 ^ 32) in
    let first = bare_join x y (bare_word (bits / 2 ^ 96)) (bare_word (bits / 2 ^ 64 % 2 ^ 32)) in
    bare_within (x ++ y) z (hex8_text (bits % 2 ^ 32)) first (bare_word (bits / 2 ^ 32 % 2 ^ 32)) (bare_word (bits % 2 ^ 32))

bare_mask : (bits : ℕ) → is_bare (mask_text bits) ≡ true
bare_mask bits = bare_mask_by (nat_lt bits (2 ^ 32)) bits

-- ---- the tags' texts, most of them with something in parentheses

pub seal_piece : (x : SealTag) → HasSmallKey x → IsPiece (sealing_text x)
seal_piece seals.Data small = record { some = omega arith; bare = refl }
seal_piece (seals.Key k) small = record { some = omega arith; bare = bare_within (codes "key(") (decimal k) (codes ")") refl (bare_number k small) refl }
seal_piece (seals.Sealed k) small = record { some = omega arith; bare = bare_within (codes "sealed(") (decimal k) (codes ")") refl (bare_number k small) refl }

bare_pc : (owner : ℕ) (jumped : Bool) → owner < 2 ^ 32 → is_bare (compartment_text (places.Pc jumped owner)) ≡ true
bare_pc owner true small = bare_within (codes "pc(") (decimal owner) (codes ",j)") refl (bare_number owner small) refl
bare_pc owner false small = bare_within (codes "pc(") (decimal owner) (codes ",-)") refl (bare_number owner small) refl

bare_place : (owner into write : ℕ) → owner < 2 ^ 32
    → is_bare (codes "place(" ++ decimal owner ++ codes "," ++ mask_text into ++ codes "," ++ mask_text write ++ codes ")") ≡ true
bare_place owner into write small =
    let first = bare_within (codes "place(") (decimal owner) (codes ",") refl (bare_number owner small) refl in
    let second = bare_within (codes "place(" ++ decimal owner ++ codes ",") (mask_text into) (codes ",") first (bare_mask into) refl in
    bare_within (codes "place(" ++ decimal owner ++ codes "," ++ mask_text into ++ codes ",") (mask_text write) (codes ")") second (bare_mask write) refl

pub comp_piece : (x : CompartmentTag) → HasFittingNumbers x → IsPiece (compartment_text x)
comp_piece places.Plain small = record { some = omega arith; bare = refl }
comp_piece (places.Pc jumped owner) small = record { some = omega arith; bare = bare_pc owner jumped small }
comp_piece (places.Place owner into write) small = record { some = omega arith; bare = bare_place owner into.bits write.bits small.0 }

bare_label : (label : Option ℕ) → ForSome label (λ number. number < 2 ^ 32) → is_bare (label_text label) ≡ true
bare_label None small = refl
bare_label (Some number) small = bare_number number (small number refl)

pub flow_piece : (x : FlowTag) → HasSmallLabels x → IsPiece (flow_text x)
flow_piece flows.Plain small = record { some = omega arith; bare = refl }
flow_piece flows.Still small = record { some = omega arith; bare = refl }
flow_piece flows.Data small = record { some = omega arith; bare = refl }
flow_piece (flows.From source) small = record { some = omega arith; bare = bare_within (codes "from(") (decimal source) (codes ")") refl (bare_number source small) refl }
flow_piece (flows.Code label) small = record { some = omega arith; bare = bare_within (codes "code(") (label_text label) (codes ")") refl (bare_label label small) refl }

bare_pointer : (block : ℕ) → block < 2 ^ 32 → is_bare (pointer_text block) ≡ true
bare_pointer block small = bare_within (codes "ptr(") (decimal block) (codes ")") refl (bare_number block small) refl

bare_content : (content : Content) → HasSmallBlock content → is_bare (content_text content) ≡ true
bare_content contents.Val small = refl
bare_content (contents.Ptr block) small = bare_pointer block small

bare_cell : (block : ℕ) (content : Content) → block < 2 ^ 32 → HasSmallBlock content
    → is_bare (codes "cell(" ++ decimal block ++ codes "," ++ content_text content ++ codes ")") ≡ true
bare_cell block content block_small small =
    let first = bare_within (codes "cell(") (decimal block) (codes ",") refl (bare_number block block_small) refl in
    bare_within (codes "cell(" ++ decimal block ++ codes ",") (content_text content) (codes ")") first (bare_content content small) refl

pub heap_piece : (x : HeapTag) → HasSmallBlocks x → IsPiece (heap_text x)
heap_piece blocks.Val small = record { some = omega arith; bare = refl }
heap_piece blocks.Free small = record { some = omega arith; bare = refl }
heap_piece (blocks.Ptr block) small = record { some = omega arith; bare = bare_pointer block small }
heap_piece (blocks.Static content) small = record { some = omega arith; bare = bare_within (codes "static(") (content_text content) (codes ")") refl (bare_content content small) refl }
heap_piece (blocks.Cell block content) small = record { some = omega arith; bare = bare_cell block content small.0 small.1 }
