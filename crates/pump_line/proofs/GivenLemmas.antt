-- An operand that the words give has a value: each row of its name that a walk over words makes holds a text.
use Rattle.std.proofs.Common.{◌≡◌, ◌++◌, ◌+◌, ◌&&◌, ◌||◌, ℕ, zero, suc, Bool, true, false, not, List, [], ◌∷◌, length, min, refl, subst, sym, is_some}
use Rattle.std.specs.Prelude.{Option, Some, None, find, fold, slice_get, if◌then◌else◌}
use Rattle.std.specs.List.{list_all}
use Rattle.std.specs.Str.{bytes_eq}
use Rattle.std.proofs.lemmas.List.Folds.{list_all-append}
use Rattle.std.proofs.lemmas.Slice.Eq.{bytes_eq-Decides}
use Rattle.clap.specs.Lexer.{long_of, short_of}
use Rattle.clap.specs.Matches.{count_text}
use Rattle.clap.specs.Takes.{is_given}
use Rattle.clap.specs.Walk.{Held, Names, Outcome, Row, Rule, Step, Text, Waiting, Walk, action_of, after_flag, after_step, arg_by_id, arg_by_index}
use Rattle.clap.specs.Walk.{arg_by_long, arg_by_short, at_row, attached_value, bundle_met, bundle_step, count_of, counted, default_rows, done}
use Rattle.clap.specs.Walk.{first_of, flag_met, has_long, has_row, has_short, is_pending, long_met, long_or_other, more_values, new_count}
use Rattle.clap.specs.Walk.{next, nothing_held, option, option_met, option_word, plain, plain_word, pushed, reacted, reading_by, rows_after, settled}
use Rattle.clap.specs.Walk.{settled_rows, short_met, short_or_plain, started, subcommand, subcommand_met, subcommand_or_other, takes_several}
use Rattle.clap.specs.Walk.{takes_values, to_positional, trailing, used, used_as, used_by_id, value, values_or_missing, waits, walk, walk_from}
use Rattle.clap.specs.Walk.{walked, walked_from, with_count, with_default, with_values, without, word_met}
use Rattle.clap.specs.declared.builder.action.ArgAction.{ArgAction}
use Rattle.clap.specs.declared.builder.action.ArgAction.TheVariants.{Append, Count, Set, SetFalse, SetTrue}
use Rattle.clap.specs.declared.builder.value_parser.Reading.{Reading}
use Rattle.clap.specs.declared.parser.matches.ValueSource.{ValueSource}
use Rattle.clap.specs.declared.parser.matches.ValueSource.TheVariants.{CommandLine, DefaultValue}

-- ---- what is kept

abbrev pub has_value : List Text → Bool
has_value [] = false
has_value (v ∷ vs) = true

-- the use has a value, if it is of the argument `id`
abbrev pub fills : Text → Text → List Text → Bool
fills id name values = not (bytes_eq name id) || has_value values

abbrev pub is_filled : Text → Row → Bool
is_filled id r = fills id r.id r.values

abbrev pub are_filled : Text → List Row → Bool
are_filled id rows = list_all (is_filled id) rows

abbrev pub pending_fills : Text → Option (Text × List Text) → Bool
pending_fills id None = true
pending_fills id (Some p) = fills id p.0 p.1

-- neither a row nor what is pending is a use of `id` without a value
pub record IsGood (id : Text) (h : Held) : Type 0 where
  pub rows : are_filled id h.rows ≡ true
  pub pending : pending_fills id h.pending ≡ true

-- no flag has the name `id`
abbrev pub is_for_positionals : Text → List Rule → Bool
is_for_positionals id c = list_all (λ a. is_some a.index || not (bytes_eq a.id id)) c

-- ---- tests

both : {a b : Bool} → a ≡ true → b ≡ true → a && b ≡ true
both e f = rw e f

left_true : (a b : Bool) → a && b ≡ true → a ≡ true
left_true true b h = refl
left_true false b h = cc

right_true : (a b : Bool) → a && b ≡ true → b ≡ true
right_true true b h = h
right_true false b h = cc

-- what a search finds passes its test
found_passes : {X : Type 0} (p : X → Bool) (xs : List X) (x : X) → find p xs ≡ Some x → p x ≡ true
found_passes p [] x e = cc
found_passes p (y ∷ ys) x e = go (λ rest. found_passes p ys x rest) (p y) refl
  where
    go : (find p ys ≡ Some x → p x ≡ true) → (t : Bool) → p y ≡ t → p x ≡ true
    go rest true is = let same : y ≡ x = (let first : Some y ≡ Some x = rw is at e in cc) in subst (λ z. p z ≡ true) same is
    go rest false is = rest (rw is at e)

-- and each test that all pass
found_among : {X : Type 0} (p q : X → Bool) (xs : List X) (x : X) → list_all q xs ≡ true → find p xs ≡ Some x → q x ≡ true
found_among p q [] x all e = cc
found_among p q (y ∷ ys) x all e = go (λ rest. found_among p q ys x (right_true (q y) (list_all q ys) all) rest) (p y) refl
  where
    go : (find p ys ≡ Some x → q x ≡ true) → (t : Bool) → p y ≡ t → q x ≡ true
    go rest true is = let same : y ≡ x = (let first : Some y ≡ Some x = rw is at e in cc) in
        subst (λ z. q z ≡ true) same (left_true (q y) (list_all q ys) all)
    go rest false is = rest (rw is at e)

filled_if : (id name : Text) (values : List Text) → has_value values ≡ true → fills id name values ≡ true
filled_if id name values h = go (bytes_eq name id)
  where
    go : (t : Bool) → not t || has_value values ≡ true
    go true = h
    go false = refl

other_fills : (id name : Text) (values : List Text) → bytes_eq name id ≡ false → fills id name values ≡ true
other_fills id name values other = rw other refl

without_values : (t u : Bool) → not t || false ≡ true → not t || u ≡ true
without_values true u h = cc
without_values false u h = refl

more_fills : (id name : Text) (xs ys : List Text) → fills id name xs ≡ true → fills id name (xs ++ ys) ≡ true
more_fills id name [] ys h = without_values (bytes_eq name id) (has_value ys) h
more_fills id name (x ∷ xs) ys h = filled_if id name (x ∷ (xs ++ ys)) refl

last_fills : (id name : Text) (xs : List Text) (y : Text) → fills id name (xs ++ y ∷ []) ≡ true
last_fills id name [] y = filled_if id name (y ∷ []) refl
last_fills id name (x ∷ xs) y = filled_if id name (x ∷ (xs ++ y ∷ [])) refl

missing_fills : (id : Text) (a : Rule) (values : List Text) → fills id a.id values ≡ true
    → fills id a.id (values_or_missing a values) ≡ true
missing_fills id a [] h = without_values (bytes_eq a.id id) (has_value a.missing) h
missing_fills id a (v ∷ vs) h = h

-- ---- rows

at_row_filled : (id name : Text) (change : Row → List Row) (missing rows : List Row)
    → ((r : Row) → is_filled id r ≡ true → are_filled id (change r) ≡ true) → are_filled id missing ≡ true
    → are_filled id rows ≡ true → are_filled id (at_row name change missing rows) ≡ true
at_row_filled id name change missing [] changes fresh all = fresh
at_row_filled id name change missing (r ∷ rs) changes fresh all =
    go (at_row_filled id name change missing rs changes fresh (right_true (is_filled id r) (are_filled id rs) all)) (bytes_eq r.id name)
  where
    go : are_filled id (at_row name change missing rs) ≡ true → (t : Bool)
        → are_filled id (if t then change r ++ rs else r ∷ at_row name change missing rs) ≡ true
    go rest true = rw (list_all-append (is_filled id) (change r) rs)
        (both (changes r (left_true (is_filled id r) (are_filled id rs) all)) (right_true (is_filled id r) (are_filled id rs) all))
    go rest false = both (left_true (is_filled id r) (are_filled id rs) all) rest

without_filled : (id name : Text) (rows : List Row) → are_filled id rows ≡ true → are_filled id (without name rows) ≡ true
without_filled id name rows all = at_row_filled id name (λ _. []) [] rows (λ r filled. refl) refl all

values_filled : (id name : Text) (how : Reading) (source : ValueSource) (values : List Text) (rows : List Row)
    → fills id name values ≡ true → are_filled id rows ≡ true → are_filled id (with_values name how source values rows) ≡ true
values_filled id name how source values rows fine all = at_row_filled id name (more_values source values) (record {
  id = name;
  values = values;
  count = None;
  source = Some source;
  reading = how;
} ∷ []) rows (λ r filled. both (more_fills id r.id r.values values filled) refl) (both fine refl) all

count_filled : (id name : Text) (how : Reading) (source : ValueSource) (n : ℕ) (rows : List Row) → are_filled id rows ≡ true
    → are_filled id (with_count name how source n rows) ≡ true
count_filled id name how source n rows all = at_row_filled id name (new_count source n) (record {
  id = name;
  values = count_text n ∷ [];
  count = Some n;
  source = Some source;
  reading = how;
} ∷ []) rows (λ r filled. both (last_fills id r.id r.values (count_text n)) refl)
    (both (filled_if id name (count_text n ∷ []) refl) refl) all

counted_filled : (id name : Text) (how : Reading) (values : List Text) (rows : List Row) → fills id name values ≡ true
    → are_filled id rows ≡ true → are_filled id (counted name how values rows) ≡ true
counted_filled id name how [] rows fine all =
    count_filled id name how CommandLine (min (count_of name rows + 1) 255) (without name rows) (without_filled id name rows all)
counted_filled id name how (v ∷ vs) rows fine all =
    values_filled id name how CommandLine (v ∷ vs) (without name rows) fine (without_filled id name rows all)

used_as_filled : (action : ArgAction) (id name : Text) (how : Reading) (values : List Text) (rows : List Row)
    → fills id name values ≡ true → are_filled id rows ≡ true → are_filled id (used_as action name how values rows) ≡ true
used_as_filled Set id name how values rows fine all =
    values_filled id name how CommandLine values (without name rows) fine (without_filled id name rows all)
used_as_filled SetTrue id name how values rows fine all =
    values_filled id name how CommandLine values (without name rows) fine (without_filled id name rows all)
used_as_filled SetFalse id name how values rows fine all =
    values_filled id name how CommandLine values (without name rows) fine (without_filled id name rows all)
used_as_filled Append id name how values rows fine all = values_filled id name how CommandLine values rows fine all
used_as_filled Count id name how values rows fine all = counted_filled id name how values rows fine all
used_as_filled _ id name how values rows fine all = all

used_filled : (id : Text) (a : Rule) (values : List Text) (rows : List Row) → fills id a.id values ≡ true
    → are_filled id rows ≡ true → are_filled id (used a values rows) ≡ true
used_filled id a values rows fine all =
    used_as_filled (action_of a) id a.id (reading_by a) (values_or_missing a values) rows (missing_fills id a values fine) all

-- ---- what is held

by_id_filled : (id : Text) (p : Text × List Text) (o : Option Rule) (rows : List Row)
    → ((a : Rule) → o ≡ Some a → bytes_eq a.id p.0 ≡ true) → fills id p.0 p.1 ≡ true → are_filled id rows ≡ true
    → are_filled id (used_by_id o p.1 rows) ≡ true
by_id_filled id p None rows names fine all = all
by_id_filled id p (Some a) rows names fine all =
    let same : a.id ≡ p.0 = (bytes_eq-Decides a.id p.0).0 (names a refl) in
    used_filled id a p.1 rows (subst (λ (name : Text). fills id name p.1 ≡ true) (sym same) fine) all

settled_filled : (id : Text) (c : List Rule) (p : Option (Text × List Text)) (rows : List Row) → pending_fills id p ≡ true
    → are_filled id rows ≡ true → are_filled id (settled_rows c p rows) ≡ true
settled_filled id c None rows fine all = all
settled_filled id c (Some p) rows fine all =
    by_id_filled id p (arg_by_id c p.0) rows (λ a e. found_passes (λ (b : Rule). bytes_eq b.id p.0) c a e) fine all

settled_good : (id : Text) (c : List Rule) (h : Held) → IsGood id h → IsGood id (settled c h)
settled_good id c h good = record { rows = settled_filled id c h.pending h.rows good.pending good.rows; pending = refl }

reacted_good : (id : Text) (c : List Rule) (a : Rule) (values : List Text) (h : Held) → fills id a.id values ≡ true → IsGood id h
    → IsGood id (reacted c a values h)
reacted_good id c a values h fine good =
    record { rows = used_filled id a values (settled c h).rows fine (settled_good id c h good).rows; pending = refl }

pushed_good : (id name word : Text) (h : Held) → IsGood id h → IsGood id (pushed name word h)
pushed_good id name word h good = record {
  rows = good.rows;
  pending = last_fills id (started name h.pending).0 (started name h.pending).1 word;
}

-- ---- flags

-- what a flag finds is not `id`
abbrev pub IsOther : Text → Option Rule → Type 0
IsOther id o = (a : Rule) → o ≡ Some a → bytes_eq a.id id ≡ false

other_name : (indexed named tested : Bool) → indexed || not named ≡ true → not indexed && tested ≡ true → named ≡ false
other_name true named tested q p = cc
other_name false true tested q p = cc
other_name false false tested q p = refl

long_is_other : (id : Text) (c : List Rule) (name : Text) → is_for_positionals id c ≡ true → IsOther id (arg_by_long c name)
long_is_other id c name only a e = other_name (is_some a.index) (bytes_eq a.id id) (has_long a name)
    (found_among (λ (b : Rule). not (is_some b.index) && has_long b name) (λ (b : Rule). is_some b.index || not (bytes_eq b.id id)) c a only e)
    (found_passes (λ (b : Rule). not (is_some b.index) && has_long b name) c a e)

short_is_other : (id : Text) (c : List Rule) (x : ℕ) → is_for_positionals id c ≡ true → IsOther id (arg_by_short c x)
short_is_other id c x only a e = other_name (is_some a.index) (bytes_eq a.id id) (has_short a x)
    (found_among (λ (b : Rule). not (is_some b.index) && has_short b x) (λ (b : Rule). is_some b.index || not (bytes_eq b.id id)) c a only e)
    (found_passes (λ (b : Rule). not (is_some b.index) && has_short b x) c a e)

option_met_good : (id : Text) (c : List Rule) (a : Rule) (v : Option Text) (h : Held) → bytes_eq a.id id ≡ false → IsGood id h
    → IsGood id (option_met c a v h).0
option_met_good id c a (Some v) h other good = reacted_good id c a (v ∷ []) h (filled_if id a.id (v ∷ []) refl) good
option_met_good id c a None h other good = record { rows = (settled_good id c h good).rows; pending = other_fills id a.id [] other }

flag_met_good : (id : Text) (c : List Rule) (a : Rule) (v : Option Text) (h : Held) → bytes_eq a.id id ≡ false → IsGood id h
    → IsGood id (flag_met c a v h).0
flag_met_good id c a (Some v) h other good = good
flag_met_good id c a None h other good = reacted_good id c a [] h (other_fills id a.id [] other) good

long_met_good : (id : Text) (c : List Rule) (o : Option Rule) (v : Option Text) (h : Held) → IsOther id o → IsGood id h
    → IsGood id (long_met c o v h).0
long_met_good id c None v h other good = good
long_met_good id c (Some a) v h other good = go (takes_values a)
  where
    go : (t : Bool) → IsGood id (if t then option_met c a v h else flag_met c a v h).0
    go true = option_met_good id c a v h (other a refl) good
    go false = flag_met_good id c a v h (other a refl) good

short_met_good : (id : Text) (c : List Rule) (o : Option Rule) (rest : Text) (h : Held) (go_on : Held → Held × Outcome) → IsOther id o
    → ((k : Held) → IsGood id k → IsGood id (go_on k).0) → IsGood id h → IsGood id (short_met c o rest h go_on).0
short_met_good id c None rest h go_on other goes good = good
short_met_good id c (Some a) rest h go_on other goes good = go (takes_values a)
  where
    go : (t : Bool) → IsGood id (if t then option_met c a (attached_value rest) h else go_on (reacted c a [] h)).0
    go true = option_met_good id c a (attached_value rest) h (other a refl) good
    go false = goes (reacted c a [] h) (reacted_good id c a [] h (other_fills id a.id [] (other a refl)) good)

bundle_step_good : (id : Text) (c : List Rule) (x : Option ℕ) (flags : Text) (skip : ℕ) (so_far : Outcome) (h : Held)
    (go_on : Text → ℕ → Outcome → Held → Held × Outcome) → is_for_positionals id c ≡ true
    → ((f : Text) (s : ℕ) (o : Outcome) (k : Held) → IsGood id k → IsGood id (go_on f s o k).0) → IsGood id h
    → IsGood id (bundle_step c x flags skip so_far h go_on).0
bundle_step_good id c None flags skip so_far h go_on only goes good = good
bundle_step_good id c (Some x) flags zero so_far h go_on only goes good =
    short_met_good id c (arg_by_short c x) _ h _ (short_is_other id c x only) (λ k fine. goes _ 0 done k fine) good
bundle_step_good id c (Some x) flags (suc skip) so_far h go_on only goes good = goes _ skip so_far h good

bundle_good : (id : Text) (c : List Rule) (k : ℕ) (flags : Text) (skip : ℕ) (so_far : Outcome) (h : Held) → is_for_positionals id c ≡ true
    → IsGood id h → IsGood id (bundle_met c k flags skip so_far h).0
unfolding bundle_met
bundle_good id c zero flags skip so_far h only good = good
bundle_good id c (suc k) flags skip so_far h only good = bundle_step_good id c _ flags skip so_far h (bundle_met c k) only
    (λ f s o held fine. bundle_good id c k f s o held only fine) good

-- ---- words

option_word_good : (id : Text) (o : Option Rule) (name word : Text) (h : Held) → IsGood id h → IsGood id (option_word o name word h).0
option_word_good id None name word h good = good
option_word_good id (Some a) name word h good = pushed_good id name word h good

plain_word_good : (id : Text) (c : List Rule) (waiting : Waiting) (word : Text) (h : Held) → IsGood id h
    → IsGood id (plain_word c waiting word h).0
plain_word_good id c (option name) word h good = option_word_good id (arg_by_id c name) name word h good
plain_word_good id c _ word h good = good

after_flag_good : (id : Text) (c : List Rule) (waiting : Waiting) (word : Text) (h : Held) (o : Outcome) → IsGood id h
    → IsGood id (after_flag c waiting word h o).0
after_flag_good id c waiting word h done good = good
after_flag_good id c waiting word h (waits name) good = good
after_flag_good id c waiting word h _ good = plain_word_good id c waiting word h good

short_or_plain_good : (id : Text) (c : List Rule) (waiting : Waiting) (word : Text) (o : Option Text) (h : Held)
    → is_for_positionals id c ≡ true → IsGood id h → IsGood id (short_or_plain c waiting word o h).0
short_or_plain_good id c waiting word (Some flags) h only good =
    let bundled = bundle_met c (length flags) flags h.skip plain (record h { skip = 0 }) in
    after_flag_good id c waiting word bundled.0 bundled.1
    (bundle_good id c (length flags) flags h.skip plain (record h { skip = 0 }) only (record { rows = good.rows; pending = good.pending }))
short_or_plain_good id c waiting word None h only good = plain_word_good id c waiting word h good

long_or_other_good : (id : Text) (c : List Rule) (waiting : Waiting) (word : Text) (o : Option (Text × Option Text)) (h : Held)
    → is_for_positionals id c ≡ true → IsGood id h → IsGood id (long_or_other c waiting word o h).0
long_or_other_good id c waiting word (Some p) h only good =
    let met = long_met c (arg_by_long c p.0) p.1 h in
    after_flag_good id c waiting word met.0 met.1
    (long_met_good id c (arg_by_long c p.0) p.1 h (long_is_other id c p.0 only) good)
long_or_other_good id c waiting word None h only good = short_or_plain_good id c waiting word (short_of word) h only good

subcommand_or_other_good : (id : Text) (c : List Rule) (o : Option Text) (waiting : Waiting) (position : ℕ) (word : Text) (h : Held)
    → is_for_positionals id c ≡ true → IsGood id h → IsGood id (subcommand_or_other c o waiting position word h).0
subcommand_or_other_good id c (Some name) waiting position word h only good = good
subcommand_or_other_good id c None waiting position word h only good = go (bytes_eq word (45 ∷ 45 ∷ []))
  where
    go : (t : Bool) → IsGood id (if t then (h, trailing position) else long_or_other c waiting word (long_of word) h).0
    go true = good
    go false = long_or_other_good id c waiting word (long_of word) h only good

word_met_good : (id : Text) (c : List Rule) (names : Names) (is_trailing : Bool) (waiting : Waiting) (position : ℕ) (word : Text) (h : Held)
    → is_for_positionals id c ≡ true → IsGood id h → IsGood id (word_met c names is_trailing waiting position word h).0
word_met_good id c names true waiting position word h only good = good
word_met_good id c names false waiting position word h only good =
    subcommand_or_other_good id c (subcommand_met names waiting word) waiting position word h only good

to_positional_good : (id : Text) (c : List Rule) (o : Option Rule) (word : Text) (w : Walk) (h : Held) → IsGood id h
    → IsGood id (to_positional c o word w h).held
to_positional_good id c None word w h good = good
to_positional_good id c (Some a) word w h good = go (is_pending a h.pending && takes_several a)
  where
    go : (t : Bool) → IsGood id (pushed a.id word (if t then h else settled c h))
    go true = pushed_good id a.id word h good
    go false = pushed_good id a.id word (settled c h) (settled_good id c h good)

after_step_good : (id : Text) (c : List Rule) (word : Text) (w : Walk) (h : Held) (s : Step) → IsGood id h
    → IsGood id (after_step c word w h s).held
after_step_good id c word w h (next waiting) good = good
after_step_good id c word w h (trailing position) good = good
after_step_good id c word w h (subcommand name) good = good
after_step_good id c word w h value good = to_positional_good id c (arg_by_index c w.position) word w h good

walked_from_good : (id : Text) (c : List Rule) (names : Names) (stop : Option (Text × List Text)) (w : Walk) (word : Text)
    → is_for_positionals id c ≡ true → IsGood id w.held → IsGood id (walked_from c names stop w word).held
walked_from_good id c names (Some p) w word only good = good
walked_from_good id c names None w word only good =
    let met = word_met c names w.is_trailing w.waiting w.position word w.held in
    after_step_good id c word w met.0 met.1 (word_met_good id c names w.is_trailing w.waiting w.position word w.held only good)

walked_good : (id : Text) (c : List Rule) (names : Names) (w : Walk) (word : Text) → is_for_positionals id c ≡ true
    → IsGood id w.held → IsGood id (walked c names w word).held
unfolding walked
walked_good id c names w word only good = walked_from_good id c names w.stopped w word only good

walk_good : (id : Text) (c : List Rule) (names : Names) (words : List Text) (w : Walk) → is_for_positionals id c ≡ true
    → IsGood id w.held → IsGood id (fold (walked c names) w words).held
walk_good id c names [] w only good = good
walk_good id c names (word ∷ words) w only good =
    walk_good id c names words (walked c names w word) only (walked_good id c names w word only good)

-- ---- the end of a walk

default_filled : (id : Text) (a : Rule) (values : List Text) (rows : List Row) → are_filled id rows ≡ true
    → are_filled id (default_rows a.id (reading_by a) values rows) ≡ true
default_filled id a [] rows all = all
default_filled id a (v ∷ vs) rows all =
    values_filled id a.id (reading_by a) DefaultValue (v ∷ vs) rows (filled_if id a.id (v ∷ vs) refl) all

defaults_filled : (id : Text) (c : List Rule) (rows : List Row) → are_filled id rows ≡ true → are_filled id (fold with_default rows c) ≡ true
defaults_filled id [] rows all = all
defaults_filled id (a ∷ c) rows all = defaults_filled id c (with_default rows a) (go (has_row a.id rows))
  where
    go : (t : Bool) → are_filled id (if t then rows else default_rows a.id (reading_by a) a.defaults rows) ≡ true
    go true = all
    go false = default_filled id a a.defaults rows all

rows_filled : (id : Text) (c : List Rule) (names : Names) (words : List Text) → is_for_positionals id c ≡ true
    → are_filled id (rows_after c names words) ≡ true
rows_filled id c names words only =
    let end = (walk c names nothing_held words).held in
    let good = walk_good id c names words (walk_from nothing_held) only (record { rows = refl; pending = refl }) in
    defaults_filled id c (settled c end).rows (settled_good id c end good).rows

first_value : (values : List Text) → has_value values ≡ true → is_some (slice_get values 0) ≡ true
first_value [] h = cc
first_value (v ∷ vs) h = refl

-- a given operand has a first value
pub given_has_value : (id : Text) (c : List Rule) (names : Names) (words : List Text) → is_for_positionals id c ≡ true
    → is_given id (rows_after c names words) ≡ true → is_some (first_of id (rows_after c names words)) ≡ true
given_has_value id c names words only given =
    from_rows (rows_after c names words) (rows_filled id c names words only) given
  where
    from_rows : (rows : List Row) → are_filled id rows ≡ true → is_given id rows ≡ true → is_some (first_of id rows) ≡ true
    from_rows rows all there = go (find (λ (r : Row). bytes_eq r.id id) rows) refl
      where
        go : (o : Option Row) → find (λ (r : Row). bytes_eq r.id id) rows ≡ o → is_some (first_of id rows) ≡ true
        go None e = let no : false ≡ true = rw e at there in cc
        go (Some r) e =
            let named : bytes_eq r.id id ≡ true = found_passes (λ (x : Row). bytes_eq x.id id) rows r e in
            let filled : is_filled id r ≡ true = found_among (λ (x : Row). bytes_eq x.id id) (is_filled id) rows r all e in
            rw e (first_value r.values (rw named at filled))
