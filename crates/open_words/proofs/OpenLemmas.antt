-- What is known of open words: it allows looks, and stays true.
use Rattle.std.proofs.Common.{◌≡◌, ℕ, zero, suc, ◌≤◌, Bool, true, false, ◌&&◌, List, [], ◌∷◌, ◌++◌, drop, is_ok, length, map, min, take, Option, Some, None, Result, Ok, Err, slice_index_or, refl, ap, sym, subst, ◌∙◌, arith, IfErr, OnOk}
use Rattle.std.proofs.lemmas.Bool.{false≢true}
use Rattle.std.proofs.lemmas.List.{length-map, length-take, map-append, take-append-drop, take-append-le, take_all}
use Rattle.std.proofs.Math.Nat.{min-le_right}
use Rattle.shared_terms.specs.Steps.{◌>>=◌}
use Rattle.policy_trait.specs.Model.{PolicyModel}
use Rattle.policy_trait.specs.PolicyLaws.{KeepsLaws, SameRules}
use Rattle.policy_trait.specs.declared.rules.Shape.{Shape}
use Rattle.policy_trait.specs.declared.rules.Shape.TheVariants as shape
use Rattle.tag_intern.specs.Table.{Extends}
use Rattle.tag_intern.specs.Words.{tag_at}
use Rattle.turn_steps.specs.Peeks.{Peek, looks_allowed, operands_allowed, peek_by}
use Rattle.turn_steps.specs.declared.peeking.Looks.{Looks}
use Rattle.turn_steps.specs.declared.peeking.OperandLook.{OperandLook}
use Rattle.open_words.specs.Open.{AreOpen, allows, is_open, is_open_at, opens, opens_operands}

-- ---- tests

-- both of two tests that hold together
first_of : (a b : Bool) → (a && b) ≡ true → a ≡ true
first_of true b both = refl
first_of false b both = absurd (false≢true both)

second_of : (a b : Bool) → (a && b) ≡ true → b ≡ true
second_of true b both = both
second_of false b both = absurd (false≢true both)

-- an answer that is told to be one
ok_told : {E : Type 0} (answer : Result (Unit {0}) E) → is_ok answer ≡ true → answer ≡ Ok tt
ok_told (Ok done) told = refl
ok_told (Err why) told = absurd (false≢true told)

-- what is true of a place of the first results is true of that element
test_at : {T : Type 0} (test : T → Bool) (d : T) (n : ℕ) (xs : List T) (i : ℕ) → slice_index_or (map test (take n xs)) i false ≡ true → test (slice_index_or xs i d) ≡ true
test_at test d zero xs i told = absurd (false≢true told)
test_at test d (suc n) [] i told = absurd (false≢true told)
test_at test d (suc n) (x ∷ xs) zero told = told
test_at test d (suc n) (x ∷ xs) (suc i) told = test_at test d n xs i told

-- ---- looks

module _ {S T : Type 0} (m : PolicyModel T S) (holds : S → Type 0) (laws : KeepsLaws m holds) (s : S) where
  -- where the tag is open, each look at it alone is allowed
  allowed_alone : (tag : T) (look : Shape) → is_open m s tag ≡ true → m.peek s look tag (m.plain s) ≡ Ok tt
  allowed_alone tag look known =
      ok_told (m.peek s look tag (m.plain s)) (by look)
    where
      word : Bool
      word = allows m s tag shape.Word

      load : Bool
      load = allows m s tag shape.Load

      store : Bool
      store = allows m s tag shape.Store

      jump : Bool
      jump = allows m s tag shape.Jump

      branch : Bool
      branch = allows m s tag shape.Branch

      called : Bool
      called = allows m s tag shape.Call

      to_branch : (word && load && store && jump && branch) ≡ true
      to_branch = first_of (word && load && store && jump && branch) called known

      to_jump : (word && load && store && jump) ≡ true
      to_jump = first_of (word && load && store && jump) branch to_branch

      to_store : (word && load && store) ≡ true
      to_store = first_of (word && load && store) jump to_jump

      to_load : (word && load) ≡ true
      to_load = first_of (word && load) store to_store

      by : (look : Shape) → allows m s tag look ≡ true
      by shape.Word = first_of word load to_load
      by shape.Load = second_of word load to_load
      by shape.Store = second_of (word && load) store to_store
      by shape.Jump = second_of (word && load && store) jump to_jump
      by shape.Branch = second_of (word && load && store && jump) branch to_branch
      by shape.Call = second_of (word && load && store && jump && branch) called known

  module _ (tags : List T) (known : List Bool) (are : AreOpen m s tags known) where
    open_at : (word : ℕ) → is_open_at known word ≡ true → is_open m s (tag_at (m.plain s) tags word) ≡ true
    open_at word told =
        test_at (is_open m s) (m.plain s) (length known) tags word (subst (λ (known : List Bool). slice_index_or known word false ≡ true) are told)

    abbrev pub asks : Peek ℕ
    asks = peek_by (tag_at (m.plain s) tags) (m.peek s)

    alone : (word : ℕ) (look : Shape) → is_open_at known word ≡ true → m.peek s look (tag_at (m.plain s) tags word) (m.plain s) ≡ Ok tt
    alone word look told = allowed_alone (tag_at (m.plain s) tags word) look (open_at word told)

    operands_open : (operands : Option (OperandLook ℕ)) → opens_operands known operands ≡ true → operands_allowed asks operands ≡ Ok tt
    operands_open None told = refl
    operands_open (Some look) told =
        laws.parted s look.shape (tag_at (m.plain s) tags look.first) (tag_at (m.plain s) tags look.second)
        (alone look.first look.shape (first_of (is_open_at known look.first) _ told))
        (alone look.second look.shape (second_of (is_open_at known look.first) _ told))

    -- looks at open words are allowed
    pub allowed : (plain : ℕ) → tag_at (m.plain s) tags plain ≡ m.plain s → (looks : Looks ℕ) → opens known looks ≡ true → looks_allowed asks plain looks ≡ Ok tt
    allowed plain is_plain looks told =
        let word : asks shape.Word looks.word plain ≡ Ok tt =
        ap (m.peek s shape.Word (tag_at (m.plain s) tags looks.word)) is_plain
        ∙ alone looks.word shape.Word (first_of (is_open_at known looks.word) _ told) in
        let operands = operands_open looks.operands (second_of (is_open_at known looks.word) _ told) in
        λ j. word j >>= λ seen. operands j

-- ---- what stays true

module _ {S T : Type 0} (m : PolicyModel T S) where
  -- where nothing is known
  pub none_open : (s : S) (tags : List T) → AreOpen m s tags []
  none_open s tags = refl

  -- no more is known than the table has
  pub few_known : (s : S) (tags : List T) (known : List Bool) → AreOpen m s tags known → length known ≤ length tags
  few_known s tags known are =
      let count : length known ≡ min (length known) (length tags) =
      ap length are ∙ length-map (take (length known) tags) (is_open m s) ∙ length-take (length known) tags in
      subst (λ (n : ℕ). n ≤ length tags) (sym count) (min-le_right (length known) (length tags))

  -- of a table that grows
  pub open_grown : (s : S) (old new : List T) (known : List Bool) → Extends old new → AreOpen m s old known → AreOpen m s new known
  open_grown s old new known grows are =
      are ∙ ap (map (is_open m s))
      (sym (ap (take (length known)) grows.1 ∙ take-append-le (length known) old grows.0 (few_known s old known are)))

  -- policies of one value before a commit and one behind it know the same tags as open
  look_same : (s n : S) → SameRules m s n → (tag : T) (look : Shape) → allows m n tag look ≡ allows m s tag look
  look_same s n same tag look = ap is_ok (same.peek look tag (m.plain n) ∙ ap (m.peek s look tag) same.plain)

  open_same : (s n : S) → SameRules m s n → (tag : T) → is_open m n tag ≡ is_open m s tag
  open_same s n same tag = λ j.
      look_same s n same tag shape.Word j && look_same s n same tag shape.Load j && look_same s n same tag shape.Store j
      && look_same s n same tag shape.Jump j && look_same s n same tag shape.Branch j && look_same s n same tag shape.Call j

  -- behind a commit
  pub open_after : (s n : S) (tags : List T) (known : List Bool) → SameRules m s n → AreOpen m s tags known → AreOpen m n tags known
  open_after s n tags known same are = are ∙ (λ j. map (λ (tag : T). sym (open_same s n same tag) j) (take (length known) tags))

  -- and where one is taken back
  pub open_before : (s n : S) (tags : List T) (known : List Bool) → SameRules m s n → AreOpen m n tags known → AreOpen m s tags known
  open_before s n tags known same are = are ∙ (λ j. map (λ (tag : T). open_same s n same tag j) (take (length known) tags))

  -- once it is known of every word
  pub learned : (s : S) (tags : List T) (known all : List Bool) → AreOpen m s tags known → all ≡ known ++ map (is_open m s) (drop (length known) tags)
      → AreOpen m s tags all
  learned s tags known all are added =
      let whole : all ≡ map (is_open m s) tags =
      added
      ∙ ap (λ (front : List Bool). front ++ map (is_open m s) (drop (length known) tags)) are
      ∙ sym (map-append (is_open m s) (take (length known) tags) (drop (length known) tags))
      ∙ ap (map (is_open m s)) (take-append-drop (length known) tags) in
      let count : length tags ≡ length all = sym (ap length whole ∙ length-map tags (is_open m s)) in
      whole ∙ ap (map (is_open m s)) (sym (take_all (length all) tags (let e : length tags ≤ length all = omega (arith, count) in e)))

  -- behind an attempt to learn of the others, which may run out of memory
  pub known_after : {E : Type 0} (s : S) (tags : List T) (known new : List Bool) (ended : Result (Unit {0}) E) → AreOpen m s tags known
      → OnOk ended (new ≡ known ++ map (is_open m s) (drop (length known) tags)) → IfErr ended (λ error. new ≡ []) → AreOpen m s tags new
  known_after s tags known new (Ok done) are added emptied = learned s tags known new are added
  known_after s tags known new (Err error) are added emptied = subst (AreOpen m s tags) (sym emptied) (none_open s tags)
