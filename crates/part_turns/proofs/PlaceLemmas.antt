-- What stands at each place of a machine after a step of a turn: at each hart, register and word, and who is ready.
use Rattle.std.proofs.Common.{◌≡◌, ◌≢◌, ℕ, suc, ◌+◌, ◌-◌, ◌*◌, ◌/◌, ◌<◌, ◌≤◌, ◌==◌, Bool, true, false, ◌⊎◌, inl, inr, List, [], ◌∷◌, length, get_or, Option, Some, None, refl, sym, ap, ◌∙◌, subst, arith}
use Rattle.std.specs.Prelude.{slice_index, slice_index_or, slice_set, nat_lt, ◌&&◌, slice_get, Ok, Result}
use Rattle.std.proofs.lemmas.Bool.{cases_eq, cases_lt}
use Rattle.std.proofs.lemmas.Bool.Decides.{nat_tests}
use Rattle.std.proofs.lemmas.List.{get_or_past, get_or-set_same, get_or-set_other, length-set}
use Rattle.std.specs.Option.{ForSome}
use Rattle.std.proofs.lemmas.Option.{same_Some, slice_get-get_or}
use Rattle.rv_decode.specs.Groups.{a0}
use Rattle.rv_step.specs.Accesses.{bytes_of, stored_in}
use Rattle.rv_step.specs.declared.accesses.Access.TheVariants as access
use Rattle.rv_step.specs.declared.accesses.Width.{Width}
use Rattle.rv_step.specs.declared.accesses.Width.TheVariants.{Byte, Full, Half}
use Rattle.rv_step.specs.declared.accesses.Access.{Access}
use Rattle.policy_trait.specs.declared.services.Answer.{Answer}
use Rattle.policy_trait.specs.PolicyLaws.{IsRange}
use Rattle.policy_trait.specs.Model.{PolicyModel}
use Rattle.policy_trait.specs.declared.services.Plan.{Plan}
use Rattle.policy_trait.specs.declared.rules.Refused.{Refused}
use Rattle.policy_trait.specs.declared.services.Words.{Words}
use Rattle.policy_parts.specs.Part.{beside_others, word_tag}
use Rattle.tag_memory.specs.Hart.{HartState, IsHart, fresh_hart, reg_tag, reg_value}
use Rattle.tag_memory.specs.Ram.{IsRam, RamState, ram_bytes, ram_tag, ram_word, with_ram_tag, with_ram_word}
use Rattle.tag_memory.specs.Rows.{LiesOutsideRow}
use Rattle.monitor_calls.specs.Ranges.{RetagsEach}
use Rattle.monitor_calls.specs.Service.{new_word, retagged_range}
use Rattle.monitor_calls.proofs.RangeLemmas.{retags_each}
use Rattle.shared_terms.proofs.StepLemmas.{ok_is}
use Rattle.turn_steps.specs.Effects.{with_store, with_tagged}
use Rattle.turn_steps.specs.Services.{WritesRow, with_answer, with_words}
use Rattle.turn_steps.proofs.RowLemmas.{ArePlaces, writes_row}
use Rattle.turn_steps.specs.declared.stop.Stop.{Stop}
use Rattle.engine_trait.specs.Machine.{CoreState, has_no_stop, hart_at, is_ready_in, stop_at, stopping, with_hart}

-- ---- parts

has_second : (first second : Bool) → (first && second) ≡ true → second ≡ true
has_second true second e = e
has_second false second e = absurd cc

-- an access of no bytes there is none
pub some_bytes : (width : Width) → 1 ≤ bytes_of width
some_bytes Byte = omega arith
some_bytes Half = omega arith
some_bytes Full = omega arith

-- ---- lists with one place set

-- a place past the end stays
set_past : {A : Type 0} (list : List A) (place : ℕ) (item default : A) (n : ℕ) → length list ≤ place
    → get_or (slice_set list place item) n default ≡ get_or list n default
set_past list place item default n past = by_place (cases_eq n place)
  where
    by_place : (n ≡ place) ⊎ (n ≢ place) → get_or (slice_set list place item) n default ≡ get_or list n default
    by_place (inr differs) = get_or-set_other list place n item default differs
    by_place (inl same) =
        let size : length (slice_set list place item) ≡ length list = length-set list place item in
        get_or_past (slice_set list place item) n default (omega arith) ∙ sym (get_or_past list n default (omega arith))

-- a relation of what stands at every place of two lists of one length, once a place of both is set
each_set : {A B : Type 0} (P : A → B → Type 0) (list : List A) (others : List B) (place : ℕ) (item default : A) (other rest : B)
    → length others ≡ length list → P item other → ((n : ℕ) → P (get_or list n default) (get_or others n rest))
    → (n : ℕ) → P (get_or (slice_set list place item) n default) (get_or (slice_set others place other) n rest)
each_set P list others place item default other rest even here all n = by_place (cases_eq n place) (cases_lt place (length list))
  where
    stays : get_or (slice_set list place item) n default ≡ get_or list n default → get_or (slice_set others place other) n rest ≡ get_or others n rest
        → P (get_or (slice_set list place item) n default) (get_or (slice_set others place other) n rest)
    stays first second = rw first (rw second (all n))

    by_place : (n ≡ place) ⊎ (n ≢ place) → (place < length list) ⊎ (length list ≤ place)
        → P (get_or (slice_set list place item) n default) (get_or (slice_set others place other) n rest)
    by_place (inr differs) within = stays (get_or-set_other list place n item default differs) (get_or-set_other others place n other rest differs)
    by_place (inl same) (inr past) = stays (set_past list place item default n past) (set_past others place other rest n (omega arith))
    by_place (inl same) (inl within) =
        subst (λ m. P (get_or (slice_set list place item) m default) (get_or (slice_set others place other) m rest)) (sym same)
        (subst (λ a. P a (get_or (slice_set others place other) place rest)) (sym (get_or-set_same list place item default within))
        (subst (P item) (sym (get_or-set_same others place other rest (omega arith))) here))

-- ---- harts

module _ {U : Type 0} where
  pub hart_same : (core : CoreState U) (h : ℕ) (hart : HartState U) (ram : RamState U) → h < length core.harts
      → hart_at (with_hart core h hart ram) h ≡ hart
  hart_same core h hart ram there = get_or-set_same core.harts h hart (fresh_hart 0 ram.plain ram.plain) there

  pub hart_other : (core : CoreState U) (h other : ℕ) (hart : HartState U) (ram : RamState U) → other ≢ h → ram.plain ≡ core.ram.plain
      → hart_at (with_hart core h hart ram) other ≡ hart_at core other
  hart_other core h other hart ram differs plain =
      get_or-set_other core.harts h other hart (fresh_hart 0 ram.plain ram.plain) differs
      ∙ ap (λ (tag : U). get_or core.harts other (fresh_hart 0 tag tag)) plain

  -- where that hart is not, nothing changes
  hart_past : (core : CoreState U) (h n : ℕ) (hart : HartState U) (ram : RamState U) → length core.harts ≤ h → ram.plain ≡ core.ram.plain
      → hart_at (with_hart core h hart ram) n ≡ hart_at core n
  hart_past core h n hart ram past plain =
      set_past core.harts h hart (fresh_hart 0 ram.plain ram.plain) n past
      ∙ ap (λ (tag : U). get_or core.harts n (fresh_hart 0 tag tag)) plain

  pub each_hart : (P : HartState U → Type 0) (core : CoreState U) (h : ℕ) (hart : HartState U) (ram : RamState U) → ram.plain ≡ core.ram.plain → P hart
      → ((n : ℕ) → P (hart_at core n)) → (n : ℕ) → P (hart_at (with_hart core h hart ram) n)
  each_hart P core h hart ram plain here all n = by_hart (cases_eq n h) (cases_lt h (length core.harts))
    where
      by_hart : (n ≡ h) ⊎ (n ≢ h) → (h < length core.harts) ⊎ (length core.harts ≤ h) → P (hart_at (with_hart core h hart ram) n)
      by_hart (inr differs) there = subst P (sym (hart_other core h n hart ram differs plain)) (all n)
      by_hart (inl same) (inr past) = subst P (sym (hart_past core h n hart ram past plain)) (all n)
      by_hart (inl same) (inl there) = subst P (sym (ap (hart_at (with_hart core h hart ram)) same ∙ hart_same core h hart ram there)) here

  -- ---- who is ready

  pub ready_same : (core : CoreState U) (h n : ℕ) (hart : HartState U) (ram : RamState U) → is_ready_in (with_hart core h hart ram) n ≡ is_ready_in core n
  ready_same core h n hart ram = ap (λ (size : ℕ). nat_lt n size && has_no_stop (stop_at core n)) (length-set core.harts h hart)

  -- a hart that is ready is there
  pub there : (core : CoreState U) (h : ℕ) → is_ready_in core h ≡ true → h < length core.harts
  there core h ready = grind (arith, nat_tests)

  -- a stop makes no hart ready
  pub ready_after : (core : CoreState U) (h n : ℕ) (why : Stop) → is_ready_in (stopping core h why) n ≡ true → is_ready_in core n ≡ true
  ready_after core h n why ready = by_hart (cases_eq n h) (cases_lt h (length core.stops))
    where
      stays : stop_at (stopping core h why) n ≡ stop_at core n → is_ready_in core n ≡ true
      stays same = ap (λ stop. nat_lt n (length core.harts) && has_no_stop stop) (sym same) ∙ ready

      by_hart : (n ≡ h) ⊎ (n ≢ h) → (h < length core.stops) ⊎ (length core.stops ≤ h) → is_ready_in core n ≡ true
      by_hart (inr differs) within = stays (get_or-set_other core.stops h n (Some why) None differs)
      by_hart (inl same) (inr past) = stays (set_past core.stops h (Some why) None n past)
      by_hart (inl same) (inl within) =
          let stop : stop_at (stopping core h why) n ≡ Some why =
          ap (stop_at (stopping core h why)) same ∙ get_or-set_same core.stops h (Some why) None within in
          let no_stop : has_no_stop (stop_at (stopping core h why) n) ≡ true =
          has_second (nat_lt n (length core.harts)) (has_no_stop (stop_at (stopping core h why) n)) ready in
          absurd cc

  -- ---- registers with their tags

  -- a register with its tag written, where it is x0 or is not
  abbrev tagged_if : Bool → HartState U → ℕ → ℕ → U → HartState U
  tagged_if true hart r value tag = hart
  tagged_if false hart r value tag = record hart { values = slice_set hart.values (r - 1) value; tags = slice_set hart.tags (r - 1) tag }

  tagged_by : (zeroed : Bool) (hart : HartState U) (r value : ℕ) (tag : U) → (r == 0) ≡ zeroed
      → with_tagged hart r value tag ≡ tagged_if zeroed hart r value tag
  tagged_by true hart r value tag is = rw is refl
  tagged_by false hart r value tag is = rw is refl

  -- x1 is the first register that is kept
  stands : (P : ℕ → U → Type 0) (hart : HartState U) → ((n : ℕ) → P (reg_value hart n) (reg_tag hart n))
      → (m : ℕ) → P (get_or hart.values m 0) (get_or hart.tags m hart.plain)
  stands P hart all m =
      let some : (suc m == 0) ≡ false = grind (arith, nat_tests) in
      subst (λ place. P (get_or hart.values place 0) (get_or hart.tags place hart.plain)) (let e : suc m - 1 ≡ m = omega arith in e)
      (let at : P (get_or hart.values (suc m - 1) 0) (get_or hart.tags (suc m - 1) hart.plain) = rw some at (all (suc m)) in at)

  pub each_register : (P : ℕ → U → Type 0) (hart : HartState U) (r value : ℕ) (tag : U) → IsHart hart → P value tag
      → ((n : ℕ) → P (reg_value hart n) (reg_tag hart n)) → (n : ℕ) → P (reg_value (with_tagged hart r value tag) n) (reg_tag (with_tagged hart r value tag) n)
  each_register P hart r value tag is here all n = by_register (r == 0) refl (n == 0) refl
    where
      by_register : (zeroed : Bool) → (r == 0) ≡ zeroed → (first : Bool) → (n == 0) ≡ first
          → P (reg_value (with_tagged hart r value tag) n) (reg_tag (with_tagged hart r value tag) n)
      by_register true none first is_first = subst (λ new. P (reg_value new n) (reg_tag new n)) (sym (tagged_by true hart r value tag none)) (all n)
      by_register false some true is_first =
          subst (λ new. P (reg_value new n) (reg_tag new n)) (sym (tagged_by false hart r value tag some))
          (let zero_here : P 0 hart.plain = rw is_first at (all n) in rw is_first zero_here)
      by_register false some false is_first =
          subst (λ new. P (reg_value new n) (reg_tag new n)) (sym (tagged_by false hart r value tag some))
          (rw is_first (each_set P hart.values hart.tags (r - 1) value 0 tag hart.plain (omega (arith, is.values, is.tags)) here (stands P hart all) (n - 1)))

  pub each_answered : (P : ℕ → U → Type 0) (hart : HartState U) (answer : Option (Answer U)) → IsHart hart
      → ((x : Answer U) → answer ≡ Some x → P x.value x.tag) → ((n : ℕ) → P (reg_value hart n) (reg_tag hart n))
      → (n : ℕ) → P (reg_value (with_answer hart answer) n) (reg_tag (with_answer hart answer) n)
  each_answered P hart None is here all n = all n
  each_answered P hart (Some answer) is here all n = each_register P hart a0 answer.value answer.tag is (here answer refl) all n

  -- ---- memory, by the number of a word

  abbrev pub nth_word : RamState U → ℕ → ℕ
  nth_word ram n = slice_index ram.words n

  abbrev pub nth_tag : RamState U → ℕ → U
  nth_tag ram n = slice_index_or ram.tags n ram.plain

  -- the word that a store writes, and every other

  pub store_word : (ram : RamState U) (place : ℕ) (width : Width) (value : ℕ) (tag : U) (n : ℕ) → n ≡ place / 4 → n < length ram.words
      → nth_word (with_store ram (access.Store place width value) tag) n ≡ stored_in (nth_word ram n) place width value
  store_word ram place width value tag n same within =
      subst (λ m. nth_word (with_store ram (access.Store place width value) tag) m ≡ stored_in (nth_word ram m) place width value) (sym same)
      (get_or-set_same ram.words (place / 4) (stored_in (ram_word ram place) place width value) 0 (omega arith))

  pub store_word_other : (ram : RamState U) (place : ℕ) (width : Width) (value : ℕ) (tag : U) (n : ℕ) → n ≢ place / 4
      → nth_word (with_store ram (access.Store place width value) tag) n ≡ nth_word ram n
  store_word_other ram place width value tag n differs = get_or-set_other ram.words (place / 4) n (stored_in (ram_word ram place) place width value) 0 differs

  pub store_tag : (ram : RamState U) (place : ℕ) (width : Width) (value : ℕ) (tag : U) (n : ℕ) → IsRam ram → n ≡ place / 4 → n < length ram.words
      → nth_tag (with_store ram (access.Store place width value) tag) n ≡ tag
  store_tag ram place width value tag n is same within =
      ap (nth_tag (with_store ram (access.Store place width value) tag)) same ∙ get_or-set_same ram.tags (place / 4) tag ram.plain (omega (arith, is.tagged))

  pub store_tag_other : (ram : RamState U) (place : ℕ) (width : Width) (value : ℕ) (tag : U) (n : ℕ) → n ≢ place / 4
      → nth_tag (with_store ram (access.Store place width value) tag) n ≡ nth_tag ram n
  store_tag_other ram place width value tag n differs = get_or-set_other ram.tags (place / 4) n tag ram.plain differs

  pub store_plain : (ram : RamState U) (access : Access) (tag : U) → (with_store ram access tag).plain ≡ ram.plain
  store_plain ram access.None tag = refl
  store_plain ram (access.Load place width signed) tag = refl
  store_plain ram (access.Store place width value) tag = refl

  -- a relation of each word and its tag, once a store wrote one
  pub each_stored : (P : ℕ → U → Type 0) (ram : RamState U) (place : ℕ) (width : Width) (value : ℕ) (tag : U) → IsRam ram
      → P (stored_in (ram_word ram place) place width value) tag → ((n : ℕ) → P (nth_word ram n) (nth_tag ram n))
      → (n : ℕ) → P (nth_word (with_store ram (access.Store place width value) tag) n) (nth_tag (with_store ram (access.Store place width value) tag) n)
  each_stored P ram place width value tag is here all n =
      each_set P ram.words ram.tags (place / 4) (stored_in (ram_word ram place) place width value) 0 tag ram.plain is.tagged here all n

  -- ---- memory after a service

  abbrev allowed : U → Result U Refused
  allowed tag = Ok tag

  pub words_plain : (ram : RamState U) (words : List (ℕ × ℕ × U)) → (with_words ram words).plain ≡ ram.plain
  words_plain ram [] = refl
  words_plain ram (word ∷ words) = words_plain (with_ram_tag (with_ram_word ram word.0 word.1) word.0 word.2) words

  -- word n has the tag of the policy's rule for its own old tag, if the plan's range has it, and else stays
  pub data IsServed {V : Type 0} (m : PolicyModel U V) (v : V) (p : Plan U) (ram new : RamState U) (n : ℕ) : Type 0 where
    written : (range : Words) → p.range ≡ Some range → range.base ≤ 4 * n → 4 * n < range.base + 4 * range.count
        → word_tag m v p (nth_tag ram n) ≡ Ok (nth_tag new n) → nth_word new n ≡ new_word p (nth_word ram n) → IsServed m v p ram new n
    kept : ForSome p.range (λ range. LiesOutsideRow range.base range.count (4 * n))
        → nth_tag new n ≡ nth_tag ram n → nth_word new n ≡ nth_word ram n → IsServed m v p ram new n

  module _ {V : Type 0} (m : PolicyModel U V) (v : V) (p : Plan U) (ram : RamState U) (is : IsRam ram) (words : List (ℕ × ℕ × U)) where
    abbrev Each : Words → Type 0
    Each range = RetagsEach (beside_others m) v (ram_word ram) (ram_tag ram) p range.base range.count words

    -- the words of a range within memory are words of it
    row_places : (range : Words) → IsRange (ram_bytes ram) range → Each range → ArePlaces (ram_bytes ram) words
    row_places range is_range each i default below =
        let place : (get_or words i default).0 ≡ range.base + 4 * i = each.places i (get_or words i default) (slice_get-get_or words i default below) in
        record { aligned = omega (arith, is_range.aligned, place); within = omega (arith, is_range.within, each.all, place, below) }

    row_written : (range : Words) → IsRange (ram_bytes ram) range → Each range → WritesRow ram range.base words (with_words ram words)
    row_written range is_range each = writes_row ram range.base words is is_range.aligned each.places (row_places range is_range each)

    -- item k of the row is word n
    item_served : (range : Words) → p.range ≡ Some range → IsRange (ram_bytes ram) range → Each range → (n k : ℕ)
        → range.base + 4 * k ≡ 4 * n → k < range.count → IsServed m v p ram (with_words ram words) n
    item_served range ranged is_range each n k address below =
        let row = row_written range is_range each in
        let item : ℕ × ℕ × U = get_or words k (0, 0, ram.plain) in
        let item_is : slice_get words k ≡ Some item = slice_get-get_or words k (0, 0, ram.plain) (omega (arith, each.all, below)) in
        let slot : (range.base + 4 * k) / 4 ≡ n = omega (arith, address) in
        written range ranged (omega (arith, address)) (omega (arith, address, below))
        (subst (λ i. word_tag m v p (nth_tag ram i) ≡ Ok (nth_tag (with_words ram words) i)) slot
        (each.tags k item item_is ∙ ap allowed (sym (row.tags_of k item item_is))))
        (subst (λ i. nth_word (with_words ram words) i ≡ new_word p (nth_word ram i)) slot (row.words_of k item item_is ∙ each.values k item item_is))

    -- a word outside of the row
    outside_served : (range : Words) → p.range ≡ Some range → IsRange (ram_bytes ram) range → Each range
        → (n : ℕ) → LiesOutsideRow range.base range.count (4 * n) → IsServed m v p ram (with_words ram words) n
    outside_served range ranged is_range each n outside =
        let row = row_written range is_range each in
        let past : LiesOutsideRow range.base (length words) (4 * n) = subst (λ count. LiesOutsideRow range.base count (4 * n)) (sym each.all) outside in
        let slot : 4 * n / 4 ≡ n = omega arith in
        kept (subst (λ given. ForSome given (λ range. LiesOutsideRow range.base range.count (4 * n))) (sym ranged)
        (λ x x_is. subst (λ (range : Words). LiesOutsideRow range.base range.count (4 * n)) (same_Some range x x_is) outside))
        (subst (λ i. nth_tag (with_words ram words) i ≡ nth_tag ram i) slot (row.other_tags (4 * n) past))
        (subst (λ i. nth_word (with_words ram words) i ≡ nth_word ram i) slot (row.other_words (4 * n) past))

    row_served : (range : Words) → p.range ≡ Some range → IsRange (ram_bytes ram) range → Each range → (n : ℕ) → IsServed m v p ram (with_words ram words) n
    row_served range ranged is_range each n = by_place (cases_lt (4 * n) range.base) (cases_lt (4 * n) (range.base + 4 * range.count))
      where
        by_place : (4 * n < range.base) ⊎ (range.base ≤ 4 * n) → (4 * n < range.base + 4 * range.count) ⊎ (range.base + 4 * range.count ≤ 4 * n)
            → IsServed m v p ram (with_words ram words) n
        by_place (inl before) within = outside_served range ranged is_range each n (inl before)
        by_place (inr from) (inr behind) = outside_served range ranged is_range each n (inr behind)
        by_place (inr from) (inl within) =
            item_served range ranged is_range each n (n - range.base / 4) (omega (arith, is_range.aligned, from)) (omega (arith, is_range.aligned, from, within))

    served_by : (given : Option Words) → p.range ≡ given → ForSome given (IsRange (ram_bytes ram))
        → retagged_range (beside_others m) v (ram_word ram) (ram_tag ram) p given ≡ Ok words → (n : ℕ) → IsServed m v p ram (with_words ram words) n
    served_by None none is_range e n =
        let empty : [] ≡ words = ok_is [] words e in
        subst (λ list. IsServed m v p ram (with_words ram list) n) empty
        (kept (subst (λ given. ForSome given (λ range. LiesOutsideRow range.base range.count (4 * n))) (sym none) (λ x x_is. absurd cc)) refl refl)
    served_by (Some range) some is_range e n =
        row_served range some (is_range range refl) (retags_each (beside_others m) v (ram_word ram) (ram_tag ram) p range.base range.count words e) n

    pub each_served : ForSome p.range (IsRange (ram_bytes ram)) → retagged_range (beside_others m) v (ram_word ram) (ram_tag ram) p p.range ≡ Ok words
        → (n : ℕ) → IsServed m v p ram (with_words ram words) n
    each_served is_range e n = served_by p.range refl is_range e n
