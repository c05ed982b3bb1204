-- What `elf` saves of an ELF file and a tag file, and the bytes that the start of that image has.
use Rattle.std.proofs.Common.{◌≡◌, ◌≢◌, ℕ, zero, suc, ◌+◌, ◌-◌, ◌*◌, ◌/◌, ◌%◌, ◌^◌, ◌<◌, ◌≤◌, ◌==◌, ◌||◌, ◌⊎◌, inl, inr, Bool, true, false, List, [], ◌∷◌, ◌++◌, length, get_or, set, take, drop, replicate, Option, Some, None, Result, Ok, Err, refl, sym, ap, subst, ◌∙◌, arith}
use Rattle.std.specs.Prelude.{if◌then◌else◌, nat_lt}
use Rattle.std.specs.List.{fold, range_with_len}
use Rattle.std.specs.Option.{is_some}
use Rattle.std.proofs.lemmas.Bool.Decides.{nat_tests}
use Rattle.std.proofs.lemmas.List.{append_assoc, get_or-replicate, get_or-set_other, get_or-set_same, length-append, length-drop, length-replicate, length-set, length-take, length-take-le, length_push}
use Rattle.std.proofs.Math.Seq.{drop-append-add, drop-nil, take-append_seam}
use Rattle.byteorder.specs.Endian.{little_number}
use Rattle.host_io.specs.Bytes.{AreBytes}
use Rattle.image_format.specs.Building.{end_of, longer, one_word, with_word}
use Rattle.image_format.specs.Conditions.{IsImage, is_ram}
use Rattle.image_format.specs.Picture.{Picture, Segment}
use Rattle.image_format.specs.Reading.{image_of}
use Rattle.image_format.specs.Spelling.{spelling}
use Rattle.image_format.specs.declared.errors.ImageError.{ImageError}
use Rattle.image_format.proofs.FileLemmas.{file_again, file_is_of}
use Rattle.elf_image.specs.Conditions.{segments_of}
use Rattle.elf_image.specs.Loaded.{byte_at, byte_or_zero, has_byte, image_of_elf, is_loaded_at, loaded_picture, loaded_segments, loaded_word, segment_at, with_loaded}
use Rattle.elf_image.specs.Tags.{image_or_error, is_bare, starts_at_zero, tags_of}
use Rattle.elf_image.specs.declared.errors.ElfError.{ElfError}
use Rattle.elf_image.specs.declared.errors.TagsError.{TagsError}
use Rattle.elf_image.specs.declared.errors.TagsError.TheVariants as tag_error
use Rattle.elf_image.specs.Headers.{covers}
use Rattle.elf_image.proofs.FoldLemmas.{fold_kept}
use Rattle.elf_image.proofs.ImageLemmas.{is_image}
use Rattle.pump_words.specs.Words.{byte_at as byte_in_word}
use Rattle.tag_loader.specs.Start.{memory_of, start_machine, start_ram, with_segments, words_over}
use Rattle.shared_terms.specs.Steps.{◌>>=◌, demand}
use Rattle.pump_line.specs.Request.{ElfTask}
use Rattle.pump_line.specs.Task.{elf}
use Rattle.pump_cli.specs.Calls.{calls_of_task}
use Rattle.policy_choice.specs.declared.basis.Basis.{Basis}
use Rattle.pump_cli.specs.Elf.{OkWith, SavesElf, start_byte}
use Rattle.pump_cli.specs.Reading.{ElfFiles, both_taken, elf_read, elf_taken, file_limit, tags_taken, within_limit}
use Rattle.pump_cli.specs.declared.refusal.Refusal.{Refusal}
use Rattle.pump_cli.proofs.EachRunLemmas.{each_small}
use Rattle.pump_cli.proofs.TaskLemmas.{elf_is, tags_are}

-- the type of what a function takes
abbrev ArgumentOf : {A B : Type 0} → (A → B) → Type 0
ArgumentOf {A} f = A

-- a program header, which has no name outside its crate
abbrev ProgramHeader : Type 0
ProgramHeader = ArgumentOf covers

-- ---- segments that are built word by word, put over a memory

-- each segment ends in a memory of so many words
abbrev AllFit : ℕ → List Segment → Type 0
AllFit size [] = Unit {0}
AllFit size (segment ∷ segments) = (segment.address / 4 + length segment.words ≤ size) × AllFit size segments

over_size : (memory : List ℕ) (place : ℕ) (words : List ℕ) → place + length words ≤ length memory → length (words_over memory place words) ≡ length memory
over_size memory place words fits = simp (length-append, length-take, length-drop) (omega arith)

drop_one : (n : ℕ) (list : List ℕ) → drop 1 (drop n list) ≡ drop (n + 1) list
drop_one zero list = refl
drop_one (suc n) [] = sym (drop-nil (suc n + 1))
drop_one (suc n) (x ∷ list) = let more : suc n + 1 ≡ suc (n + 1) = omega arith in rw more (drop_one n list)

-- one word more behind those that were put
over_more : (memory : List ℕ) (place : ℕ) (words : List ℕ) (word : ℕ) → place + length words ≤ length memory
    → words_over memory place (words ++ word ∷ []) ≡ words_over (words_over memory place words) (place + length words) (word ∷ [])
over_more memory place words word fits =
    let prefix : List ℕ = take place memory ++ words in
    let rest : List ℕ = drop (place + length words) memory in
    let size : length prefix ≡ place + length words = length-append (take place memory) words ∙ ap (λ (n : ℕ). n + length words) (length-take-le place memory (omega arith)) in
    let here : words_over memory place words ≡ prefix ++ rest = sym (append_assoc (take place memory) words rest) in
    let before : take (place + length words) (words_over memory place words) ≡ prefix
    = ap (take (place + length words)) here ∙ ap (λ (n : ℕ). take n (prefix ++ rest)) (sym size) ∙ take-append_seam prefix rest in
    let behind : drop (place + length words + 1) (words_over memory place words) ≡ drop 1 rest
    = ap (drop (place + length words + 1)) here ∙ ap (λ (n : ℕ). drop (n + 1) (prefix ++ rest)) (sym size) ∙ drop-append-add prefix rest 1 in
    let longer_size : place + length (words ++ word ∷ []) ≡ place + length words + 1 = omega (arith, length_push words word) in
    let there : drop (place + length (words ++ word ∷ [])) memory ≡ drop 1 rest
    = ap (λ (n : ℕ). drop n memory) longer_size ∙ sym (drop_one (place + length words) memory) in
    (λ i. take place memory ++ ((words ++ word ∷ []) ++ there i))
    ∙ ap (λ (list : List ℕ). take place memory ++ list) (append_assoc words (word ∷ []) (drop 1 rest))
    ∙ sym (append_assoc (take place memory) words (word ∷ drop 1 rest))
    ∙ sym (λ i. before i ++ (word ∷ behind i))

-- one word that is put is one that is set
over_one : (memory : List ℕ) (n word : ℕ) → n < length memory → words_over memory n (word ∷ []) ≡ set memory n word
over_one [] n word inside = absurd (omega (arith, inside))
over_one (x ∷ memory) zero word inside = refl
over_one (x ∷ memory) (suc n) word inside =
    let more : suc n + 1 ≡ suc (n + 1) = omega arith in
    rw more (ap (λ (list : List ℕ). x ∷ list) (over_one memory n word (omega (arith, inside))))

module _ (size : ℕ) where
  -- a word behind segments fits where they do
  fit_more : (n word : ℕ) (runs : List Segment) → n < size → AllFit size runs → AllFit size (with_word runs (4 * n) word)
  fit_more n word [] below fit = (omega (arith, below), tt)
  fit_more n word (last ∷ []) below fit = go (end_of last == 4 * n) refl
    where
      go : (b : Bool) → (end_of last == 4 * n) ≡ b → AllFit size (if b then longer last word ∷ [] else last ∷ one_word (4 * n) word ∷ [])
      go true ends =
          let here : end_of last ≡ 4 * n = grind (arith, nat_tests, ends) in
          (omega (arith, below, here, length_push last.words word), tt)
      go false apart = (fit.0, (omega (arith, below), tt))
  fit_more n word (first ∷ second ∷ runs) below fit = (fit.0, fit_more n word (second ∷ runs) below fit.1)

  -- it is set behind them
  word_set : (memory : List ℕ) (n word : ℕ) (runs : List Segment) → length memory ≡ size → n < size → AllFit size runs
      → with_segments memory (with_word runs (4 * n) word) ≡ words_over (with_segments memory runs) n (word ∷ [])
  word_set memory n word [] len below fit =
      let place : 4 * n / 4 ≡ n = omega arith in
      ap (λ (at : ℕ). words_over memory at (word ∷ [])) place
  word_set memory n word (last ∷ []) len below fit = go (end_of last == 4 * n) refl
    where
      over : List ℕ
      over = words_over memory (last.address / 4) last.words

      go : (b : Bool) → (end_of last == 4 * n) ≡ b
          → with_segments memory (if b then longer last word ∷ [] else last ∷ one_word (4 * n) word ∷ []) ≡ words_over (words_over memory (last.address / 4) last.words) n (word ∷ [])
      go true ends =
          let here : end_of last ≡ 4 * n = grind (arith, nat_tests, ends) in
          let place : last.address / 4 + length last.words ≡ n = omega (arith, here) in
          over_more memory (last.address / 4) last.words word (omega (arith, fit.0, len))
          ∙ ap (λ (at : ℕ). words_over (words_over memory (last.address / 4) last.words) at (word ∷ [])) place
      go false apart =
          let place : 4 * n / 4 ≡ n = omega arith in
          ap (λ (at : ℕ). words_over (words_over memory (last.address / 4) last.words) at (word ∷ [])) place
  word_set memory n word (first ∷ second ∷ runs) len below fit =
      word_set (words_over memory (first.address / 4) first.words) n word (second ∷ runs)
      (over_size memory (first.address / 4) first.words (omega (arith, fit.0, len)) ∙ len) below fit.1

-- ---- numbers of four bytes

abbrev word_of_four : ℕ → ℕ → ℕ → ℕ → ℕ
word_of_four a b c d = little_number 4 (a ∷ b ∷ c ∷ d ∷ [])

part_0 : (a b c d : ℕ) → a < 256 → word_of_four a b c d / 2 ^ (8 * 0) % 2 ^ 8 ≡ a
part_0 a b c d first = omega (arith, first)

part_1 : (a b c d : ℕ) → a < 256 → b < 256 → word_of_four a b c d / 2 ^ (8 * 1) % 2 ^ 8 ≡ b
part_1 a b c d first second = omega (arith, first, second)

part_2 : (a b c d : ℕ) → a < 256 → b < 256 → c < 256 → word_of_four a b c d / 2 ^ (8 * 2) % 2 ^ 8 ≡ c
part_2 a b c d first second third = omega (arith, first, second, third)

part_3 : (a b c d : ℕ) → a < 256 → b < 256 → c < 256 → d < 256 → word_of_four a b c d / 2 ^ (8 * 3) % 2 ^ 8 ≡ d
part_3 a b c d first second third fourth = omega (arith, first, second, third, fourth)

-- ---- the words of an ELF file

module _ (elf_bytes : List ℕ) (segments : List ProgramHeader) where
  zero_at : (address : ℕ) → is_loaded_at segments address ≡ false → byte_at elf_bytes segments address ≡ 0
  zero_at address free = go (segment_at segments address) free
    where
      go : (o : Option ProgramHeader) → is_some o ≡ false → byte_or_zero elf_bytes segments address o ≡ 0
      go None is = refl
      go (Some header) is = absurd (let h : true ≡ false = is in cc)

  none_of_four : (a b c d : Bool) → (((a || b) || c) || d) ≡ false → (a ≡ false) × (b ≡ false) × (c ≡ false) × (d ≡ false)
  none_of_four false false false false is = (refl, refl, refl, refl)
  none_of_four false false false true is = absurd (let h : true ≡ false = is in cc)
  none_of_four false false true d is = absurd (let h : true ≡ false = is in cc)
  none_of_four false true c d is = absurd (let h : true ≡ false = is in cc)
  none_of_four true b c d is = absurd (let h : true ≡ false = is in cc)

  -- a word of which no byte is loaded
  zero_word : (n : ℕ) → has_byte (is_loaded_at segments) n ≡ false → loaded_word elf_bytes segments n ≡ 0
  zero_word n free =
      let none = none_of_four (is_loaded_at segments (4 * n)) (is_loaded_at segments (4 * n + 1)) (is_loaded_at segments (4 * n + 2)) (is_loaded_at segments (4 * n + 3)) free in
      let z0 = zero_at (4 * n) none.0 in
      let z1 = zero_at (4 * n + 1) none.1 in
      let z2 = zero_at (4 * n + 2) none.2 in
      let z3 = zero_at (4 * n + 3) none.3 in
      λ i. little_number 4 (z0 i ∷ z1 i ∷ z2 i ∷ z3 i ∷ [])

  module _ (size : ℕ) where
    abbrev over_zeros : List Segment → List ℕ
    over_zeros runs = with_segments (replicate size 0) runs

    -- the words of numbers below one are put, and all others are 0
    record ArePut (n : ℕ) (runs : List Segment) : Type 0 where
      fit : AllFit size runs
      len : length (over_zeros runs) ≡ size
      put : (k : ℕ) → k < n → get_or (over_zeros runs) k 0 ≡ loaded_word elf_bytes segments k
      rest : (k : ℕ) → n ≤ k → k < size → get_or (over_zeros runs) k 0 ≡ 0

    none_put : ArePut 0 []
    none_put = record {
      fit = tt;
      len = length-replicate size 0;
      put = λ k below. absurd (omega (arith, below));
      rest = λ k from below. get_or-replicate size k 0 0 below;
    }

    -- the word of the next number is put, or is 0
    next_put : (n : ℕ) → n < size → (runs : List Segment) → ArePut n runs → ArePut (n + 1) (with_word runs (4 * n) (loaded_word elf_bytes segments n))
    next_put n below runs are =
        let word : ℕ = loaded_word elf_bytes segments n in
        let is_set : over_zeros (with_word runs (4 * n) word) ≡ set (over_zeros runs) n word =
        word_set size (replicate size 0) n word runs (length-replicate size 0) below are.fit
        ∙ over_one (over_zeros runs) n word (omega (arith, below, are.len)) in
        let others : (k : ℕ) → k ≢ n → get_or (over_zeros (with_word runs (4 * n) word)) k 0 ≡ get_or (over_zeros runs) k 0 =
        λ k apart. ap (λ (memory : List ℕ). get_or memory k 0) is_set ∙ get_or-set_other (over_zeros runs) n k word 0 apart in
        record {
          fit = fit_more size n word runs below are.fit;
          len = ap length is_set ∙ length-set (over_zeros runs) n word ∙ are.len;
          put = λ k less. by_number k less others is_set (k == n) refl;
          rest = λ k from inside. others k (λ e. omega (arith, from, e)) ∙ are.rest k (omega (arith, from)) inside;
        }
      where
        by_number : (k : ℕ) → k < n + 1
            → ((k : ℕ) → k ≢ n → get_or (over_zeros (with_word runs (4 * n) (loaded_word elf_bytes segments n))) k 0 ≡ get_or (over_zeros runs) k 0)
            → over_zeros (with_word runs (4 * n) (loaded_word elf_bytes segments n)) ≡ set (over_zeros runs) n (loaded_word elf_bytes segments n)
            → (b : Bool) → (k == n) ≡ b
            → get_or (over_zeros (with_word runs (4 * n) (loaded_word elf_bytes segments n))) k 0 ≡ loaded_word elf_bytes segments k
        by_number k less others is_set true e =
            let same : k ≡ n = grind (arith, nat_tests, e) in
            ap (λ (at : ℕ). get_or (over_zeros (with_word runs (4 * n) (loaded_word elf_bytes segments n))) at 0) same
            ∙ ap (λ (memory : List ℕ). get_or memory n 0) is_set
            ∙ get_or-set_same (over_zeros runs) n (loaded_word elf_bytes segments n) 0 (omega (arith, below, are.len))
            ∙ ap (loaded_word elf_bytes segments) (sym same)
        by_number k less others is_set false e =
            let apart : k ≢ n = grind (arith, nat_tests, e) in
            others k apart ∙ are.put k (grind (arith, nat_tests, less, e))

    next_free : (n : ℕ) → n < size → has_byte (is_loaded_at segments) n ≡ false → (runs : List Segment) → ArePut n runs → ArePut (n + 1) runs
    next_free n below free runs are = record {
      fit = are.fit;
      len = are.len;
      put = λ k less. by_number k less (k == n) refl;
      rest = λ k from inside. are.rest k (omega (arith, from)) inside;
    }
      where
        by_number : (k : ℕ) → k < n + 1 → (b : Bool) → (k == n) ≡ b → get_or (over_zeros runs) k 0 ≡ loaded_word elf_bytes segments k
        by_number k less true e =
            let same : k ≡ n = grind (arith, nat_tests, e) in
            ap (λ (at : ℕ). get_or (over_zeros runs) at 0) same ∙ are.rest n (omega arith) below ∙ sym (zero_word n free) ∙ ap (loaded_word elf_bytes segments) (sym same)
        by_number k less false e = are.put k (grind (arith, nat_tests, less, e))

    next : (n : ℕ) → n < size → (runs : List Segment) → ArePut n runs → ArePut (n + 1) (with_loaded elf_bytes segments runs n)
    next n below runs are = go (has_byte (is_loaded_at segments) n) refl
      where
        go : (b : Bool) → has_byte (is_loaded_at segments) n ≡ b → ArePut (n + 1) (if b then with_word runs (4 * n) (loaded_word elf_bytes segments n) else runs)
        go true loaded = next_put n below runs are
        go false free = next_free n below free runs are

    all_put : ArePut size (fold (with_loaded elf_bytes segments) [] (range_with_len 0 size))
    all_put = fold_kept (with_loaded elf_bytes segments) ArePut size [] next none_put

  -- each word of the memory is the one that the segments put there
  words_put : (tags : Picture) (n : ℕ) → n < tags.ram / 4
      → get_or (memory_of (loaded_picture elf_bytes tags segments)) n 0 ≡ loaded_word elf_bytes segments n
  unfolding memory_of loaded_segments
  words_put tags n below = (all_put (tags.ram / 4)).put n below

  -- ---- bytes

  module _ (bytes : (i : ℕ) → get_or elf_bytes i 0 < 256) where
    byte_small : (address : ℕ) → byte_at elf_bytes segments address < 256
    byte_small address = go (segment_at segments address)
      where
        within : (b : Bool) (i : ℕ) → (if b then get_or elf_bytes i 0 else 0) < 256
        within true i = bytes i
        within false i = omega arith

        go : (o : Option ProgramHeader) → byte_or_zero elf_bytes segments address o < 256
        go None = omega arith
        go (Some header) = within (nat_lt (address - header.address) header.file_bytes) (header.offset + (address - header.address))

    -- the bytes of a word, by their place in it
    byte_of : (n address k : ℕ) → address ≡ 4 * n + k → (k ≡ 0) ⊎ (k ≡ 1) ⊎ (k ≡ 2) ⊎ (k ≡ 3)
        → byte_in_word (loaded_word elf_bytes segments n) address ≡ byte_at elf_bytes segments address
    byte_of n address k is which = by_place which
      where
        word : ℕ
        word = loaded_word elf_bytes segments n

        low : (place : ℕ) → k ≡ place → place < 4 → byte_in_word word address ≡ word / 2 ^ (8 * place) % 2 ^ 8
        low place same few = let rest : address % 4 ≡ place = omega (arith, is, same, few) in ap (λ (at : ℕ). word / 2 ^ (8 * at) % 2 ^ 8) rest

        here : (place : ℕ) → k ≡ place → byte_at elf_bytes segments (4 * n + place) ≡ byte_at elf_bytes segments address
        here place same = let sum : 4 * n + place ≡ address = omega (arith, is, same) in ap (byte_at elf_bytes segments) sum

        by_place : (k ≡ 0) ⊎ (k ≡ 1) ⊎ (k ≡ 2) ⊎ (k ≡ 3) → byte_in_word word address ≡ byte_at elf_bytes segments address
        by_place (inl e) =
            let first : 4 * n + 0 ≡ 4 * n = omega arith in
            low 0 e (omega arith)
            ∙ part_0 (byte_at elf_bytes segments (4 * n)) (byte_at elf_bytes segments (4 * n + 1)) (byte_at elf_bytes segments (4 * n + 2)) (byte_at elf_bytes segments (4 * n + 3)) (byte_small (4 * n))
            ∙ ap (byte_at elf_bytes segments) (sym first) ∙ here 0 e
        by_place (inr (inl e)) =
            low 1 e (omega arith)
            ∙ part_1 (byte_at elf_bytes segments (4 * n)) (byte_at elf_bytes segments (4 * n + 1)) (byte_at elf_bytes segments (4 * n + 2)) (byte_at elf_bytes segments (4 * n + 3)) (byte_small (4 * n)) (byte_small (4 * n + 1))
            ∙ here 1 e
        by_place (inr (inr (inl e))) =
            low 2 e (omega arith)
            ∙ part_2 (byte_at elf_bytes segments (4 * n)) (byte_at elf_bytes segments (4 * n + 1)) (byte_at elf_bytes segments (4 * n + 2)) (byte_at elf_bytes segments (4 * n + 3)) (byte_small (4 * n)) (byte_small (4 * n + 1)) (byte_small (4 * n + 2))
            ∙ here 2 e
        by_place (inr (inr (inr e))) =
            low 3 e (omega arith)
            ∙ part_3 (byte_at elf_bytes segments (4 * n)) (byte_at elf_bytes segments (4 * n + 1)) (byte_at elf_bytes segments (4 * n + 2)) (byte_at elf_bytes segments (4 * n + 3)) (byte_small (4 * n)) (byte_small (4 * n + 1)) (byte_small (4 * n + 2)) (byte_small (4 * n + 3))
            ∙ here 3 e

    below_four : (k : ℕ) → k < 4 → (k ≡ 0) ⊎ (k ≡ 1) ⊎ (k ≡ 2) ⊎ (k ≡ 3)
    below_four zero few = inl refl
    below_four (suc zero) few = inr (inl refl)
    below_four (suc (suc zero)) few = inr (inr (inl refl))
    below_four (suc (suc (suc zero))) few = inr (inr (inr refl))
    below_four (suc (suc (suc (suc k)))) few = absurd (omega (arith, few))

    -- the byte at an address of the memory
    memory_byte : (tags : Picture) (address : ℕ) → tags.ram % 4 ≡ 0 → address < tags.ram
        → byte_in_word (get_or (memory_of (loaded_picture elf_bytes tags segments)) (address / 4) 0) address ≡ byte_at elf_bytes segments address
    memory_byte tags address aligned below =
        let inside : address / 4 < tags.ram / 4 = omega (arith, aligned, below) in
        let split : address ≡ 4 * (address / 4) + address % 4 = omega arith in
        let few : address % 4 < 4 = omega arith in
        ap (λ (word : ℕ). byte_in_word word address) (words_put tags (address / 4) inside)
        ∙ byte_of (address / 4) address (address % 4) split (below_four (address % 4) few)

-- ---- the image

-- the two files of an image, and the segments that it is made of
record IsMade (files : ElfFiles) (g : Picture) : Type 0 where
  tags : Picture
  is_tags : tags_of files.tags ≡ Ok tags
  segments : List ProgramHeader
  are_segments : segments_of files.elf tags.ram ≡ Ok segments
  image : loaded_picture files.elf tags segments ≡ g

abbrev picture_or : Picture → Result Picture ElfError
picture_or picture = Ok picture

segments_are : (elf_bytes : List ℕ) (tags g : Picture) (read : Result (List ProgramHeader) ElfError) → segments_of elf_bytes tags.ram ≡ read → image_of_elf elf_bytes tags ≡ Ok g
    → (segments : List ProgramHeader) × (segments_of elf_bytes tags.ram ≡ Ok segments) × (loaded_picture elf_bytes tags segments ≡ g)
unfolding image_of_elf
segments_are elf_bytes tags g (Ok segments) is made =
    let here : picture_or (loaded_picture elf_bytes tags segments) ≡ picture_or g = rw is at made in
    (segments, is, (let h : picture_or (loaded_picture elf_bytes tags segments) ≡ picture_or g = here in cc))
segments_are elf_bytes tags g (Err error) is made = absurd (let here : Err error ≡ picture_or g = rw is at made in cc)

abbrev taken_as : Picture → Result Picture Refusal
taken_as picture = Ok picture

made_of : (files : ElfFiles) (g : Picture) → elf_read files ≡ Ok g → IsMade files g
unfolding both_taken
made_of files g is = by_tags (tags_taken (within_limit file_limit files.tags)) refl is
  where
    by_tags : (read : Result Picture Refusal) → tags_taken (within_limit file_limit files.tags) ≡ read
        → (read >>= (λ tags. elf_taken (within_limit file_limit files.elf) tags)) ≡ Ok g → IsMade files g
    by_tags (Ok tags) taken made =
        let found = segments_are files.elf tags g (segments_of files.elf tags.ram) refl (elf_is files.elf tags g made) in
        record { tags = tags; is_tags = tags_are files.tags tags taken; segments = found.0; are_segments = found.1; image = found.2 }
    by_tags (Err refusal) taken made = absurd (let h : Err refusal ≡ taken_as g = made in cc)

abbrev tag_image : Picture → Result Picture TagsError
tag_image picture = Ok picture

-- a tag file's image is one
tags_are_image : (bytes : List ℕ) (tags : Picture) → AreBytes bytes → tags_of bytes ≡ Ok tags → IsImage tags
unfolding tags_of
tags_are_image bytes tags are_bytes is = (file_is_of bytes tags (each_small bytes are_bytes) (by_image (image_of bytes) refl is)).is_image
  where
    by_entry : (starts : Bool) (picture : Picture) → (demand starts tag_error.Entry >>= (λ entry. tag_image picture)) ≡ Ok tags → picture ≡ tags
    by_entry true picture taken = let h : tag_image picture ≡ tag_image tags = taken in cc
    by_entry false picture taken = absurd (let h : Err tag_error.Entry ≡ tag_image tags = taken in cc)

    by_lists : (bare starts : Bool) (picture : Picture)
        → (demand bare tag_error.Lists >>= (λ lists. demand starts tag_error.Entry >>= (λ entry. tag_image picture))) ≡ Ok tags → picture ≡ tags
    by_lists true starts picture taken = by_entry starts picture taken
    by_lists false starts picture taken = absurd (let h : Err tag_error.Lists ≡ tag_image tags = taken in cc)

    by_image : (read : Result Picture ImageError) → image_of bytes ≡ read
        → (image_or_error read >>= (λ picture. demand (is_bare picture) tag_error.Lists >>= (λ lists. demand (starts_at_zero picture) tag_error.Entry >>= (λ entry. tag_image picture)))) ≡ Ok tags
        → image_of bytes ≡ Ok tags
    by_image (Ok picture) is taken = is ∙ ap image_ok (by_lists (is_bare picture) (starts_at_zero picture) picture taken)
      where
        image_ok : Picture → Result Picture ImageError
        image_ok picture = Ok picture
    by_image (Err error) is taken = absurd (let h : Err (tag_error.Image error) ≡ tag_image tags = taken in cc)

-- what holds of the segments that are read
of_read : (Holds : List ProgramHeader → Type 0) (read : Result (List ProgramHeader) ElfError) (segments : List ProgramHeader) → read ≡ Ok segments → Holds segments
    → OkWith read Holds
of_read Holds read segments is holds = subst (λ (other : Result (List ProgramHeader) ElfError). OkWith other Holds) (sym is) holds

aligned_ram : (ram : ℕ) → is_ram ram ≡ true → ram % 4 ≡ 0
aligned_ram ram is = grind (arith, nat_tests, is)

pub saves_elf : (task : ElfTask) (files : ElfFiles) (g : Picture) → AreBytes files.elf → AreBytes files.tags → elf_read files ≡ Ok g → SavesElf task files g
unfolding start_machine start_ram
saves_elf task files g elf_bytes tag_bytes is =
    let made = made_of files g is in
    let small = each_small files.elf elf_bytes in
    let tags_image = tags_are_image files.tags made.tags tag_bytes made.is_tags in
    let is_one : IsImage g = subst IsImage made.image (is_image files.elf made.tags made.segments small made.are_segments tags_image) in
    record {
      tags = made.tags;
      is_tags = made.is_tags;
      image =
          of_read (λ segments. g ≡ loaded_picture files.elf made.tags segments) (segments_of files.elf made.tags.ram) made.segments made.are_segments
          (sym made.image);
      calls = ap (calls_of_task (elf task)) is;
      read = file_again (spelling g) g (record { is_image = is_one; spelled = refl });
      bytes =
          of_read (λ segments. (basis : Basis) (address : ℕ) → address < g.ram → start_byte basis g address ≡ byte_at files.elf segments address)
          (segments_of files.elf made.tags.ram) made.segments made.are_segments
          (λ basis address below.
          let inside : address < made.tags.ram = subst (λ (picture : Picture). address < picture.ram) (sym made.image) below in
          subst (λ (picture : Picture). byte_in_word (get_or (memory_of picture) (address / 4) 0) address ≡ byte_at files.elf made.segments address) made.image
          (memory_byte files.elf made.segments small made.tags address (aligned_ram made.tags.ram tags_image.ram) inside));
    }
