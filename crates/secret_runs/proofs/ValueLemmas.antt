-- Alike values, read and written; and what reads and writes them.
use Rattle.std.proofs.Common.{◌≡◌, ℕ, zero, suc, ◌-◌, ◌/◌, ◌==◌, Bool, true, false, List, [], ◌∷◌, length, Option, Some, None, slice_get, slice_index, slice_index_or, slice_set, if◌then◌else◌, refl, ap}
use Rattle.tag_memory.specs.Hart.{HartState, fresh_hart, moved_to, reg_tag, reg_value}
use Rattle.tag_memory.specs.Ram.{RamState, ram_tag, ram_word, with_ram_tag, with_ram_word}
use Rattle.engine_trait.specs.Machine.{CoreState, hart_at, with_hart}
use Rattle.turn_steps.specs.Effects.{with_tagged}
use Rattle.turn_steps.specs.Looks.{operand, operand_tag}
use Rattle.secret_runs.specs.Alike.{AlikeCores, AlikeHarts, AlikeRams, AlikeValues, AllAlike}

module _ {T : Type 0} (is_open : T → Bool) where
  -- ---- lists of values

  pub value_at : (tags : List T) (xs ys : List ℕ) (i : ℕ) (d : T) → AlikeValues is_open tags xs ys → is_open (slice_index_or tags i d) ≡ true
      → slice_index ys i ≡ slice_index xs i
  value_at [] [] [] i d alike clear = refl
  value_at (t ∷ ts) (x ∷ xs) (y ∷ ys) zero d alike clear = alike.0 clear
  value_at (t ∷ ts) (x ∷ xs) (y ∷ ys) (suc i) d alike clear = value_at ts xs ys i d alike.1 clear
  value_at [] [] (y ∷ ys) i d alike clear = absurd alike
  value_at [] (x ∷ xs) ys i d alike clear = absurd alike
  value_at (t ∷ ts) [] ys i d alike clear = absurd alike
  value_at (t ∷ ts) (x ∷ xs) [] i d alike clear = absurd alike

  -- one place of both is set, to the same value where the new tag is open
  pub set_alike : (tags : List T) (xs ys : List ℕ) (i : ℕ) (tag : T) (v w : ℕ) → (is_open tag ≡ true → w ≡ v) → AlikeValues is_open tags xs ys
      → AlikeValues is_open (slice_set tags i tag) (slice_set xs i v) (slice_set ys i w)
  set_alike [] [] [] i tag v w same alike = tt
  set_alike (t ∷ ts) (x ∷ xs) (y ∷ ys) zero tag v w same alike = (same, alike.1)
  set_alike (t ∷ ts) (x ∷ xs) (y ∷ ys) (suc i) tag v w same alike = (alike.0, set_alike ts xs ys i tag v w same alike.1)
  set_alike [] [] (y ∷ ys) i tag v w same alike = absurd alike
  set_alike [] (x ∷ xs) ys i tag v w same alike = absurd alike
  set_alike (t ∷ ts) [] ys i tag v w same alike = absurd alike
  set_alike (t ∷ ts) (x ∷ xs) [] i tag v w same alike = absurd alike

  pub counts_alike : (tags : List T) (xs ys : List ℕ) → AlikeValues is_open tags xs ys → length ys ≡ length xs
  counts_alike [] [] [] alike = refl
  counts_alike (t ∷ ts) (x ∷ xs) (y ∷ ys) alike = ap suc (counts_alike ts xs ys alike.1)
  counts_alike [] [] (y ∷ ys) alike = absurd alike
  counts_alike [] (x ∷ xs) ys alike = absurd alike
  counts_alike (t ∷ ts) [] ys alike = absurd alike
  counts_alike (t ∷ ts) (x ∷ xs) [] alike = absurd alike

  -- what stands at a place of both: nothing, or values that are the same where the tag is open
  abbrev pub AlikeFound : T → Option ℕ → Option ℕ → Type 0
  AlikeFound tag None None = Unit {0}
  AlikeFound tag (Some x) (Some y) = is_open tag ≡ true → y ≡ x
  AlikeFound tag _ _ = ⊥

  pub found_at : (tags : List T) (xs ys : List ℕ) (i : ℕ) (d : T) → AlikeValues is_open tags xs ys → AlikeFound (slice_index_or tags i d) (slice_get xs i) (slice_get ys i)
  found_at [] [] [] i d alike = tt
  found_at (t ∷ ts) (x ∷ xs) (y ∷ ys) zero d alike = alike.0
  found_at (t ∷ ts) (x ∷ xs) (y ∷ ys) (suc i) d alike = found_at ts xs ys i d alike.1
  found_at [] [] (y ∷ ys) i d alike = absurd alike
  found_at [] (x ∷ xs) ys i d alike = absurd alike
  found_at (t ∷ ts) [] ys i d alike = absurd alike
  found_at (t ∷ ts) (x ∷ xs) [] i d alike = absurd alike

  -- values are alike to themselves
  pub alike_self : (tags : List T) (xs : List ℕ) → length tags ≡ length xs → AlikeValues is_open tags xs xs
  alike_self [] [] same = tt
  alike_self (t ∷ ts) (x ∷ xs) same = (λ clear. refl, alike_self ts xs (cc same))
  alike_self [] (x ∷ xs) same = absurd (cc same)
  alike_self (t ∷ ts) [] same = absurd (cc same)

  -- ---- a hart

  module _ (a b : HartState T) (alike : AlikeHarts is_open a b) where
    pub tags_same : (r : ℕ) → reg_tag b r ≡ reg_tag a r
    tags_same r = λ j. if r == 0 then alike.plain j else slice_index_or (alike.tags j) (r - 1) (alike.plain j)

    pub operand_tags_same : (register : Option ℕ) → operand_tag b register ≡ operand_tag a register
    operand_tags_same None = alike.plain
    operand_tags_same (Some r) = tags_same r

    value_by : (is_zero : Bool) (r : ℕ) → is_open (if is_zero then a.plain else slice_index_or a.tags (r - 1) a.plain) ≡ true
        → (if is_zero then 0 else slice_index b.values (r - 1)) ≡ (if is_zero then 0 else slice_index a.values (r - 1))
    value_by true r clear = refl
    value_by false r clear = value_at a.tags a.values b.values (r - 1) a.plain alike.values clear

    pub value_same : (r : ℕ) → is_open (reg_tag a r) ≡ true → reg_value b r ≡ reg_value a r
    value_same r clear = value_by (r == 0) r clear

    pub operand_same : (register : Option ℕ) → is_open (operand_tag a register) ≡ true → operand b register ≡ operand a register
    operand_same None clear = refl
    operand_same (Some r) clear = value_same r clear

    -- ---- written

    abbrev written_if : Bool → HartState T → ℕ → ℕ → T → HartState T
    written_if is_zero hart r value tag =
        if is_zero then (if is_zero then hart else record hart { values = slice_set hart.values (r - 1) value })
        else record (if is_zero then hart else record hart { values = slice_set hart.values (r - 1) value }) {
          tags = slice_set (if is_zero then hart else record hart { values = slice_set hart.values (r - 1) value }).tags (r - 1) tag;
        }

    written_by : (is_zero : Bool) (r v w : ℕ) (tag : T) → (is_open tag ≡ true → w ≡ v) → AlikeHarts is_open (written_if is_zero a r v tag) (written_if is_zero b r w tag)
    written_by true r v w tag same = alike
    written_by false r v w tag same = record {
      tags = ap (λ (tags : List T). slice_set tags (r - 1) tag) alike.tags;
      pc = alike.pc;
      pc_tag = alike.pc_tag;
      plain = alike.plain;
      values = set_alike a.tags a.values b.values (r - 1) tag v w same alike.values;
    }

    pub written_alike : (r v w : ℕ) (tag : T) → (is_open tag ≡ true → w ≡ v) → AlikeHarts is_open (with_tagged a r v tag) (with_tagged b r w tag)
    written_alike r v w tag same = written_by (r == 0) r v w tag same

    pub moved_alike : (pc : ℕ) (tag : T) → AlikeHarts is_open (moved_to a pc tag) (moved_to b pc tag)
    moved_alike pc tag = record { tags = alike.tags; pc = refl; pc_tag = refl; plain = alike.plain; values = alike.values }

  -- ---- memory

  module _ (a b : RamState T) (alike : AlikeRams is_open a b) where
    pub ram_tags_same : (address : ℕ) → ram_tag b address ≡ ram_tag a address
    ram_tags_same address = λ j. slice_index_or (alike.tags j) (address / 4) (alike.plain j)

    pub word_same : (address : ℕ) → is_open (ram_tag a address) ≡ true → ram_word b address ≡ ram_word a address
    word_same address clear = value_at a.tags a.words b.words (address / 4) a.plain alike.words clear

    pub stored_alike : (address v w : ℕ) (tag : T) → (is_open tag ≡ true → w ≡ v)
        → AlikeRams is_open (with_ram_tag (with_ram_word a address v) address tag) (with_ram_tag (with_ram_word b address w) address tag)
    stored_alike address v w tag same = record {
      tags = ap (λ (tags : List T). slice_set tags (address / 4) tag) alike.tags;
      plain = alike.plain;
      words = set_alike a.tags a.words b.words (address / 4) tag v w same alike.words;
    }

  -- ---- the core

  pub harts_at : (firsts seconds : List (HartState T)) (h : ℕ) (d e : HartState T) → AllAlike is_open firsts seconds → AlikeHarts is_open d e
      → AlikeHarts is_open (slice_index_or firsts h d) (slice_index_or seconds h e)
  harts_at [] [] h d e alike default = default
  harts_at (a ∷ firsts) (b ∷ seconds) zero d e alike default = alike.0
  harts_at (a ∷ firsts) (b ∷ seconds) (suc h) d e alike default = harts_at firsts seconds h d e alike.1 default
  harts_at [] (b ∷ seconds) h d e alike default = absurd alike
  harts_at (a ∷ firsts) [] h d e alike default = absurd alike

  pub harts_set : (firsts seconds : List (HartState T)) (h : ℕ) (x y : HartState T) → AllAlike is_open firsts seconds → AlikeHarts is_open x y
      → AllAlike is_open (slice_set firsts h x) (slice_set seconds h y)
  harts_set [] [] h x y alike new = tt
  harts_set (a ∷ firsts) (b ∷ seconds) zero x y alike new = (new, alike.1)
  harts_set (a ∷ firsts) (b ∷ seconds) (suc h) x y alike new = (alike.0, harts_set firsts seconds h x y alike.1 new)
  harts_set [] (b ∷ seconds) h x y alike new = absurd alike
  harts_set (a ∷ firsts) [] h x y alike new = absurd alike

  pub harts_count : (firsts seconds : List (HartState T)) → AllAlike is_open firsts seconds → length seconds ≡ length firsts
  harts_count [] [] alike = refl
  harts_count (a ∷ firsts) (b ∷ seconds) alike = ap suc (harts_count firsts seconds alike.1)
  harts_count [] (b ∷ seconds) alike = absurd alike
  harts_count (a ∷ firsts) [] alike = absurd alike

  module _ (a b : CoreState T) (alike : AlikeCores is_open a b) where
    pub hart_alike : (h : ℕ) → AlikeHarts is_open (hart_at a h) (hart_at b h)
    hart_alike h = harts_at a.harts b.harts h (fresh_hart 0 a.ram.plain a.ram.plain) (fresh_hart 0 b.ram.plain b.ram.plain) alike.harts (record {
      tags = ap (λ (plain : T). (fresh_hart 0 plain plain).tags) alike.ram.plain;
      pc = refl;
      pc_tag = alike.ram.plain;
      plain = alike.ram.plain;
      values = alike_self (fresh_hart 0 a.ram.plain a.ram.plain).tags (fresh_hart 0 a.ram.plain a.ram.plain).values refl;
    })

    pub with_hart_alike : (h : ℕ) (x y : HartState T) (r q : RamState T) → AlikeHarts is_open x y → AlikeRams is_open r q
        → AlikeCores is_open (with_hart a h x r) (with_hart b h y q)
    with_hart_alike h x y r q hart ram = record { harts = harts_set a.harts b.harts h x y alike.harts hart; stops = alike.stops; ram = ram }
