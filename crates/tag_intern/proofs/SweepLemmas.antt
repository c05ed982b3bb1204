-- What words stand for in a table that was made again for the tags of some words alone.
use Rattle.std.proofs.Common.{◌≡◌, ℕ, zero, suc, ◌+◌, ◌<◌, ◌≤◌, Bool, true, false, ◌⊎◌, inl, inr, List, [], ◌∷◌, ◌++◌, get_or, length, map, take, Some, slice_get, slice_index, refl, sym, ap, subst, ◌∙◌, arith}
use Rattle.std.specs.Cmp.{IsEquivalence}
use Rattle.std.specs.List.{All, AllByRecursion, Contains, list_any}
use Rattle.std.proofs.lemmas.Bool.{cases_lt}
use Rattle.std.proofs.lemmas.List.{get_or-map, get_or_past, length-map, map-append}
use Rattle.std.proofs.lemmas.List.Elements.{All-contains_itself, All-weaker, Contains-append_left, Contains-get_or, Contains-push, recursion_from_All}
use Rattle.std.proofs.lemmas.Map.Views.{Contains-from_any}
use Rattle.std.proofs.lemmas.Option.{get_or_from_slice_get, none-some, same_Some, slice_get-get_or, slice_get_within}
use Rattle.pump_words.specs.Same.{TellsApart}
use Rattle.tag_memory.specs.Hart.{HartState, IsHartOf}
use Rattle.tag_memory.specs.Maps.{hart_by}
use Rattle.tag_memory.specs.Ram.{IsRamOf}
use Rattle.engine_trait.specs.Accounts.{with_tag, with_tags}
use Rattle.engine_trait.specs.Machine.{CoreState, core_tags}
use Rattle.engine_trait.specs.Maps.{core_by}
use Rattle.engine_trait.proofs.MapLemmas.{core_on}
use Rattle.engine_trait.proofs.TagLemmas.{AgreeOn, AgreeOnPlain, core_alike, core_tags_by}
use Rattle.tag_intern.specs.Sweep.{Renumbers, remade_table}
use Rattle.tag_intern.specs.Table.{TableState, table_after}
use Rattle.tag_intern.specs.Words.{tag_at}
use Rattle.tag_intern.proofs.ComingLemmas.{tag_came, tag_over}
use Rattle.tag_intern.proofs.LengthLemmas.{no_longer}
use Rattle.tag_intern.proofs.TableLemmas.{extends_with_tags, grown_word, with_known, with_new}

-- ---- tags that come are there

module _ {T : Type 0} (eq : T → T → Bool) (laws : IsEquivalence eq) where
  -- a tag that is there stays
  stays : (seen tags : List T) (tag : T) → Contains seen tag → Contains (with_tags eq seen tags) tag
  stays seen tags tag there =
      let grows = extends_with_tags eq laws seen tags in
      subst (λ (all : List T). Contains all tag) (sym grows.1) (Contains-append_left seen grows.0 tag there)

  module _ (exact : TellsApart eq) where
    -- one that comes is there
    came : (seen : List T) (tag : T) → Contains (with_tag eq seen tag) tag
    came seen tag = by (list_any (eq tag) seen) refl
      where
        by : (found : Bool) → list_any (eq tag) seen ≡ found → Contains (with_tag eq seen tag) tag
        by true e = subst (λ (all : List T). Contains all tag) (sym (with_known eq laws seen tag e)) (Contains-from_any exact tag seen e)
        by false e = subst (λ (all : List T). Contains all tag) (sym (with_new eq laws seen tag e)) (Contains-push seen tag)

    -- and so is each of those that come
    pub all_come : (seen tags : List T) (k : ℕ) (tag : T) → slice_get tags k ≡ Some tag → Contains (with_tags eq seen tags) tag
    all_come seen [] zero tag at = absurd (none-some tag at)
    all_come seen [] (suc k) tag at = absurd (none-some tag at)
    all_come seen (x ∷ tags) zero tag at =
        stays (with_tag eq seen x) tags tag (subst (Contains (with_tag eq seen x)) (same_Some x tag at) (came seen x))
    all_come seen (x ∷ tags) (suc k) tag at = all_come (with_tag eq seen x) tags k tag at

-- ---- a table is made again

module _ {T : Type 0} (eq : T → T → Bool) (table : TableState T) (plain : T) where
  -- the tag of the next word comes
  pub remade_more : (live : List ℕ) (k : ℕ) (tag : T) → k < length live → tag ≡ tag_at plain table.tags (get_or live k 0) → (made more : TableState T)
      → made ≡ remade_table eq table plain (take k live) → more ≡ table_after eq made tag → more ≡ remade_table eq table plain (take (k + 1) live)
  remade_more live k tag lt is made more so_far grown =
      let now = remade_table eq table plain (take k live) in
      grown ∙ ap (λ (t : TableState T). table_after eq t tag) so_far
      ∙ ap (λ tags. record table { tags = tags })
      (tag_came (tag_at plain table.tags) live k 0 lt eq (plain ∷ []) now.tags refl tag is (with_tag eq now.tags tag) refl)

-- ---- it is no longer

module _ {T : Type 0} (eq : T → T → Bool) (laws : IsEquivalence eq) (exact : TellsApart eq) (old : List T) (plain : T) (plain_there : Contains old plain) where
  -- a word stands for a tag of the old ones, since one that no tag has stands for the plain tag
  read_there : (word : ℕ) → Contains old (tag_at plain old word)
  read_there word = by (cases_lt word (length old))
    where
      by : (word < length old) ⊎ (length old ≤ word) → Contains old (tag_at plain old word)
      by (inl h) = Contains-get_or old word plain h
      by (inr h) = subst (Contains old) (sym (get_or_past old word plain h)) plain_there

  -- so the tags of all words are among the old ones
  all_there : (live : List ℕ) → AllByRecursion (Contains old) (map (tag_at plain old) live)
  all_there [] = tt
  all_there (word ∷ live) = (read_there word, all_there live)

  -- the new tags are no more than the old ones
  pub swept_no_longer : (live : List ℕ) → length (with_tags eq [] (plain ∷ map (tag_at plain old) live)) ≤ length old
  swept_no_longer live = no_longer eq laws exact old (plain ∷ map (tag_at plain old) live) (plain_there, all_there live)

  -- there is room for each of them as it comes, where there was for the old ones
  pub swept_fits : (limit : ℕ) → length old ≤ limit → (live : List ℕ) (k : ℕ) (tag : T) → k < length live → tag ≡ tag_at plain old (get_or live k 0)
      → (now : List T) → now ≡ with_tags eq [] (plain ∷ map (tag_at plain old) (take k live)) → limit < length (with_tag eq now tag) → ⊥
  swept_fits limit within live k tag lt is now so_far over =
      let more = tag_over (tag_at plain old) live k 0 lt eq (plain ∷ []) now so_far tag is laws limit over in
      let n = swept_no_longer live in
      omega (arith, more, n, within)

-- ---- words in it

-- the new tags are the plain one and then those of the live words, and the numbers lead to them
module _ {T : Type 0} (eq : T → T → Bool) (laws : IsEquivalence eq) (exact : TellsApart eq) (old : List T) (live : List ℕ) (plain : T) (numbers : List ℕ) (new : List T)
    (made : new ≡ with_tags eq [] (plain ∷ map (tag_at plain old) live)) (leads : Renumbers old new numbers) where
  -- word 0 is that of the plain tag
  pub swept_first : slice_get new 0 ≡ Some plain
  swept_first =
      ap (λ (tags : List T). slice_get tags 0) made
      ∙ grown_word (plain ∷ []) (with_tags eq (plain ∷ []) (map (tag_at plain old) live)) (extends_with_tags eq laws (plain ∷ []) (map (tag_at plain old) live)) 0 plain refl

  -- so there is a tag
  pub swept_some : 1 ≤ length new
  swept_some = let h = slice_get_within new 0 plain swept_first in omega (arith, h)

  -- each number is the word of a tag
  pub swept_below : (word : ℕ) → get_or numbers word 0 < length new
  swept_below = leads.below swept_some

  -- a tag that came is among the new ones
  there_by : (k : ℕ) (tag : T) → slice_get (plain ∷ map (tag_at plain old) live) k ≡ Some tag → Contains new tag
  there_by k tag at = subst (λ (tags : List T). Contains tags tag) (sym made) (all_come eq laws exact [] (plain ∷ map (tag_at plain old) live) k tag at)

  -- the tag of a live word is among the new ones
  live_there : (word : ℕ) → Contains live word → Contains new (tag_at plain old word)
  live_there word there =
      let read = tag_at plain old in
      let tag = read word in
      let n = length-map live read in
      let h = there.1 in
      let at : slice_get (map read live) there.0 ≡ Some tag =
      slice_get-get_or (map read live) there.0 tag (omega (arith, n, h)) ∙ ap Some (get_or-map read live there.0 word tag h ∙ ap read there.2) in
      there_by (suc there.0) tag at

  -- a word whose tag is among the new ones is led to that tag; one that no tag has stands for the plain tag before and after
  led : (word : ℕ) → Contains new (tag_at plain old word) → tag_at plain new (get_or numbers word 0) ≡ tag_at plain old word
  led word there = by (cases_lt word (length old))
    where
      by : (word < length old) ⊎ (length old ≤ word) → tag_at plain new (get_or numbers word 0) ≡ tag_at plain old word
      by (inl h) =
          let tag = tag_at plain old word in
          get_or_from_slice_get new (get_or numbers word 0) tag plain (leads.same word tag (slice_get-get_or old word plain h) there)
      by (inr h) =
          let none = get_or_past numbers word 0 (let n = leads.size in omega (arith, n, h)) in
          ap (tag_at plain new) none ∙ get_or_from_slice_get new 0 plain plain swept_first ∙ sym (get_or_past old word plain h)

  -- a live word stands for its tag
  pub swept_word : (word : ℕ) → Contains live word → tag_at plain new (get_or numbers word 0) ≡ tag_at plain old word
  swept_word word there = led word (live_there word there)

  -- and so does a word of the plain tag, wherever it stands
  pub swept_plain : (word : ℕ) → tag_at plain old word ≡ plain → tag_at plain new (get_or numbers word 0) ≡ tag_at plain old word
  swept_plain word is = led word (there_by 0 (tag_at plain old word) (ap Some (sym is)))

  -- ---- a core of words

  -- every word that stands in a core is live
  module _ (core : CoreState ℕ) (all : All (Contains live) (core_tags core)) where
    -- they are led to their tags
    agree_on_tags : AgreeOn (λ word. tag_at plain new (get_or numbers word 0)) (tag_at plain old) (core_tags core)
    agree_on_tags =
        let alike : ℕ → Type 0 = λ word. tag_at plain new (get_or numbers word 0) ≡ tag_at plain old word in
        recursion_from_All alike (core_tags core) (All-weaker (Contains live) alike swept_word (core_tags core) all)

    -- and so are the words of x0
    agree_on_plain : (harts : List (HartState ℕ)) → AllByRecursion (IsHartOf plain) (map (hart_by (tag_at plain old)) harts)
        → AgreeOnPlain (λ word. tag_at plain new (get_or numbers word 0)) (tag_at plain old) harts
    agree_on_plain [] are = tt
    agree_on_plain (hart ∷ harts) are = (swept_plain hart.plain are.0.plain, agree_on_plain harts are.1)

    -- so the numbers lead to a core of the same tags, where x0 of each hart and untouched memory are plain
    pub swept_core : All (IsHartOf plain) (core_by (tag_at plain old) core).harts → IsRamOf plain (core_by (tag_at plain old) core).ram
        → core_by (tag_at plain new) (core_by (slice_index numbers) core) ≡ core_by (tag_at plain old) core
    swept_core harts ram =
        core_on (slice_index numbers) (tag_at plain new) core
        ∙ core_alike (λ word. tag_at plain new (get_or numbers word 0)) (tag_at plain old) core agree_on_tags
        (agree_on_plain core.harts (recursion_from_All (IsHartOf plain) (map (hart_by (tag_at plain old)) core.harts) harts))
        (swept_plain core.ram.plain ram.plain)

-- the words of a core are live where they come first among the live ones
pub live_first : (core : CoreState ℕ) (more live : List ℕ) → live ≡ core_tags core ++ more → All (Contains live) (core_tags core)
live_first core more live is =
    All-weaker (Contains (core_tags core)) (Contains live) (λ word there. subst (λ (words : List ℕ). Contains words word) (sym is) (Contains-append_left (core_tags core) more word there))
    (core_tags core) (All-contains_itself (core_tags core))

-- ---- the table of the words of a core

module _ {T : Type 0} (eq : T → T → Bool) (table : TableState T) (plain : T) (core : CoreState ℕ) where
  -- the core of the tags that its words stand for
  abbrev read_core : CoreState T
  read_core = core_by (tag_at plain table.tags) core

  -- made again for the words of the core and more, it has the tags of that core and then theirs
  pub swept_more : (more : List ℕ)
      → remade_table eq table plain (core_tags core ++ more) ≡ record table { tags = with_tags eq [] (plain ∷ core_tags read_core ++ map (tag_at plain table.tags) more) }
  swept_more more =
      let read = tag_at plain table.tags in
      ap (λ tags. record table { tags = with_tags eq [] (plain ∷ tags) })
      (map-append read (core_tags core) more ∙ ap (λ tags. tags ++ map read more) (sym (core_tags_by read core)))
