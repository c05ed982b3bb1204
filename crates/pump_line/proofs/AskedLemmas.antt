-- Words without a fault ask for something: the subcommand is there, and so is each of its operands.
use Rattle.std.proofs.Common.{◌≡◌, ◌&&◌, ◌||◌, Bool, true, false, not, List, [], ◌∷◌, codes, refl, subst, is_some}
use Rattle.std.specs.Prelude.{Option, Some, None, find, option_and_then, option_map}
use Rattle.std.specs.List.{list_any}
use Rattle.clap.specs.Faults.{check_fault, defaults_fault, entered_fault, level_fault, settle_fault, walk_fault}
use Rattle.clap.specs.Kinds.{check_kinds, or_else}
use Rattle.clap.specs.Simple.{argument_words, built_leaf, entered, inherited, label_of, marked_built, names_of, with_leaf_noted}
use Rattle.clap.specs.Takes.{is_given}
use Rattle.clap.specs.Walk.{Held, Names, answers_to, finished, nothing_held, rows_after, settled, walk, walk_from}
use Rattle.clap.specs.Words.{App, Kinds, Shape, Text, built, fault_of, subcommand_of}
use Rattle.pump_line.specs.Line.{HasMatch, asm_shape, dis_shape, elf_shape, faults_of, load_shape, match_of, migrate_shape, pump_app, run_shape, shell_shape}
use Rattle.pump_line.specs.Request.{disassemble_in, elf_in, load_in, request_at, request_by, run_in, save_in, shell_in}
use Rattle.pump_line.proofs.GivenLemmas.{given_has_value}

or_nil : (a b : Kinds) → or_else a b ≡ [] → (a ≡ []) × (b ≡ [])
or_nil [] b h = (refl, h)
or_nil (k ∷ ks) b h = cc

-- a level without a fault has none below it, and passes the last checks
level_nil : (s : Shape) (names : Names) (h : Held) (words : List Text) (entered_one : Bool) (below : Kinds)
    → level_fault s names h words entered_one below ≡ []
    → (below ≡ []) × (check_fault s (finished s.rules (walk s.rules names h words).held) entered_one ≡ [])
level_nil s names h words entered_one below e =
    let end = (walk s.rules names h words).held in
    let checks = check_fault s (finished s.rules end) entered_one in
    let defaults = defaults_fault (settled s.rules end).rows s.rules in
    let settles = settle_fault s.rules s.args_override_self end in
    let past_walk = or_nil (walk_fault s names (walk_from h) words) (or_else below (or_else settles (or_else defaults checks))) e in
    let past_below = or_nil below (or_else settles (or_else defaults checks)) past_walk.1 in
    let past_settling = or_nil settles (or_else defaults checks) past_below.1 in
    (past_below.0, (or_nil defaults checks past_settling.1).1)

checks_nil : (help subcommand argument : Bool) → check_kinds help subcommand argument ≡ [] → (subcommand ≡ false) × (argument ≡ false)
checks_nil true subcommand argument h = cc
checks_nil false true argument h = cc
checks_nil false false true h = cc
checks_nil false false false h = (refl, refl)

is_there : (t needed : Bool) → needed ≡ true → not t && needed ≡ false → t ≡ true
is_there true needed n h = refl
is_there false needed n h = cc

-- the subcommand's words without a fault make a request
abbrev pub Asks : Shape → Type 0
Asks s = (words : List Text) → level_fault s [] nothing_held words false [] ≡ []
    → is_some (request_by s.name (rows_after s.rules [] words)) ≡ true

abbrev pub AllAsk : List Shape → Type 0
AllAsk [] = Unit {0}
AllAsk (s ∷ rest) = Asks s × AllAsk rest

found_asks : (p : Shape → Bool) (subs : List Shape) (s : Shape) → AllAsk subs → find p subs ≡ Some s → Asks s
found_asks p [] s all e = absurd (let no : ⊥ = cc in no)
found_asks p (x ∷ xs) s all e = go (λ rest. found_asks p xs s all.1 rest) (p x) refl
  where
    go : (find p xs ≡ Some s → Asks s) → (t : Bool) → p x ≡ t → Asks s
    go rest true is = let same : x ≡ s = (let first : Some x ≡ Some s = rw is at e in cc) in subst Asks same all.0
    go rest false is = rest (rw is at e)

entered_asks : (a : App) (stop : Option (Text × List Text)) → AllAsk a.subs → is_some (entered a stop) ≡ true
    → entered_fault a stop ≡ [] → is_some (request_at (entered a stop)) ≡ true
entered_asks a None all there fine = cc
entered_asks a (Some p) all there fine = go (find (λ (s : Shape). answers_to p.0 (label_of s)) a.subs) refl
  where
    go : (o : Option Shape) → find (λ (s : Shape). answers_to p.0 (label_of s)) a.subs ≡ o → is_some (request_at (entered a (Some p))) ≡ true
    go None e = let no : false ≡ true = rw e at there in cc
    go (Some s) e = rw e (found_asks (λ (x : Shape). answers_to p.0 (label_of x)) a.subs s all e p.1 (rw e at fine))

-- of a command that requires a subcommand
app_asks : (a : App) (words : List Text) → (built a).top.subcommand_required ≡ true → AllAsk (built a).subs → fault_of a words ≡ []
    → is_some (request_at (subcommand_of a words)) ≡ true
app_asks a words needs all fine =
    let made = built a in
    let rest = argument_words a words in
    let stop = (walk made.top.rules (names_of made) nothing_held rest).stopped in
    let level = level_nil made.top (names_of made) nothing_held rest (is_some (entered made stop)) (entered_fault made stop) fine in
    let checks = checks_nil _ _ _ level.1 in
    entered_asks made stop all (is_there (is_some (entered made stop)) made.top.subcommand_required needs checks.0) level.0

-- ---- each subcommand

unfoldable built_run : Shape
unfolding pump_app run_shape
built_run = built_leaf (inherited (with_leaf_noted (marked_built pump_app.top)) run_shape)

unfoldable built_shell : Shape
unfolding pump_app shell_shape
built_shell = built_leaf (inherited (with_leaf_noted (marked_built pump_app.top)) shell_shape)

unfoldable built_asm : Shape
unfolding pump_app asm_shape
built_asm = built_leaf (inherited (with_leaf_noted (marked_built pump_app.top)) asm_shape)

unfoldable built_migrate : Shape
unfolding pump_app migrate_shape
built_migrate = built_leaf (inherited (with_leaf_noted (marked_built pump_app.top)) migrate_shape)

unfoldable built_elf : Shape
unfolding pump_app elf_shape
built_elf = built_leaf (inherited (with_leaf_noted (marked_built pump_app.top)) elf_shape)

unfoldable built_dis : Shape
unfolding pump_app dis_shape
built_dis = built_leaf (inherited (with_leaf_noted (marked_built pump_app.top)) dis_shape)

unfoldable built_load : Shape
unfolding pump_app load_shape
built_load = built_leaf (inherited (with_leaf_noted (marked_built pump_app.top)) load_shape)

some_mapped : {X Y : Type 0} (f : X → Y) (o : Option X) → is_some o ≡ true → is_some (option_map f o) ≡ true
some_mapped f None h = cc
some_mapped f (Some x) h = refl

some_both : {X Y Z : Type 0} (f : X → Y → Z) (a : Option X) (b : Option Y) → is_some a ≡ true → is_some b ≡ true
    → is_some (option_and_then (λ x. option_map (f x) b) a) ≡ true
some_both f None b h k = cc
some_both f (Some x) None h k = cc
some_both f (Some x) (Some y) h k = refl

some_three : {W X Y Z : Type 0} (f : W → X → Y → Z) (a : Option W) (b : Option X) (c : Option Y) → is_some a ≡ true → is_some b ≡ true → is_some c ≡ true
    → is_some (option_and_then (λ w. option_and_then (λ x. option_map (f w x) c) b) a) ≡ true
some_three f None b c h k l = cc
some_three f (Some w) b c h k l = some_both (f w) b c k l

given_if : (given rest : Bool) → not given || rest ≡ false → given ≡ true
given_if true rest h = refl
given_if false rest h = cc

rest_if : (given rest : Bool) → not given || rest ≡ false → rest ≡ false
rest_if true rest h = h
rest_if false rest h = cc

-- a subcommand's words without a fault give what is required
level_needs : (s : Shape) (words : List Text) → level_fault s [] nothing_held words false [] ≡ []
    → not (s.subcommand_negates_reqs && false)
    && list_any (λ a. a.required && not (is_given a.id (rows_after s.rules [] words))) s.rules ≡ false
level_needs s words fine = (checks_nil _ _ _ (level_nil s [] nothing_held words false [] fine).1).1

run_asks : Asks built_run
unfolding built_run pump_app run_shape request_by run_in
run_asks words fine =
    let given = given_if (is_given (codes "image") (rows_after built_run.rules [] words)) false (level_needs built_run words fine) in
    some_mapped _ _ (some_mapped _ _ (given_has_value (codes "image") built_run.rules [] words refl given))

shell_asks : Asks built_shell
unfolding built_shell pump_app shell_shape request_by shell_in
shell_asks words fine =
    let given = given_if (is_given (codes "image") (rows_after built_shell.rules [] words)) false (level_needs built_shell words fine) in
    some_mapped _ _ (some_mapped _ _ (given_has_value (codes "image") built_shell.rules [] words refl given))

asm_asks : Asks built_asm
unfolding built_asm pump_app asm_shape request_by save_in
asm_asks words fine =
    let source_given = is_given (codes "source") (rows_after built_asm.rules [] words) in
    let image_given = is_given (codes "image") (rows_after built_asm.rules [] words) in
    let needs = level_needs built_asm words fine in
    let has_source = given_if source_given (not image_given || false) needs in
    let has_image = given_if image_given false (rest_if source_given (not image_given || false) needs) in
    some_mapped _ _ (some_both _ _ _ (given_has_value (codes "source") built_asm.rules [] words refl has_source)
    (given_has_value (codes "image") built_asm.rules [] words refl has_image))

migrate_asks : Asks built_migrate
unfolding built_migrate pump_app migrate_shape request_by save_in
migrate_asks words fine =
    let image_given = is_given (codes "image") (rows_after built_migrate.rules [] words) in
    let out_given = is_given (codes "out") (rows_after built_migrate.rules [] words) in
    let needs = level_needs built_migrate words fine in
    let has_image = given_if image_given (not out_given || false) needs in
    let has_out = given_if out_given false (rest_if image_given (not out_given || false) needs) in
    some_mapped _ _ (some_both _ _ _ (given_has_value (codes "image") built_migrate.rules [] words refl has_image)
    (given_has_value (codes "out") built_migrate.rules [] words refl has_out))

elf_asks : Asks built_elf
unfolding built_elf pump_app elf_shape request_by elf_in
elf_asks words fine =
    let elf_given = is_given (codes "elf") (rows_after built_elf.rules [] words) in
    let tags_given = is_given (codes "tags") (rows_after built_elf.rules [] words) in
    let image_given = is_given (codes "image") (rows_after built_elf.rules [] words) in
    let needs = level_needs built_elf words fine in
    let others = rest_if elf_given (not tags_given || (not image_given || false)) needs in
    let has_elf = given_if elf_given (not tags_given || (not image_given || false)) needs in
    let has_tags = given_if tags_given (not image_given || false) others in
    let has_image = given_if image_given false (rest_if tags_given (not image_given || false) others) in
    some_mapped _ _ (some_three _ _ _ _ (given_has_value (codes "elf") built_elf.rules [] words refl has_elf)
    (given_has_value (codes "tags") built_elf.rules [] words refl has_tags) (given_has_value (codes "image") built_elf.rules [] words refl has_image))

dis_asks : Asks built_dis
unfolding built_dis pump_app dis_shape request_by disassemble_in
dis_asks words fine =
    let given = given_if (is_given (codes "image") (rows_after built_dis.rules [] words)) false (level_needs built_dis words fine) in
    some_mapped _ _ (some_mapped _ _ (given_has_value (codes "image") built_dis.rules [] words refl given))

load_asks : Asks built_load
unfolding built_load pump_app load_shape request_by load_in
load_asks words fine =
    let given = given_if (is_given (codes "count") (rows_after built_load.rules [] words)) false (level_needs built_load words fine) in
    some_mapped _ _ (some_mapped _ _ (given_has_value (codes "count") built_load.rules [] words refl given))

all_ask : AllAsk (built pump_app).subs
unfolding built_run built_shell built_asm built_migrate built_elf built_dis built_load pump_app run_shape shell_shape asm_shape migrate_shape elf_shape dis_shape load_shape
all_ask = (run_asks, (shell_asks, (asm_asks, (migrate_asks, (elf_asks, (dis_asks, (load_asks, tt)))))))

needs_subcommand : (built pump_app).top.subcommand_required ≡ true
unfolding pump_app run_shape shell_shape asm_shape migrate_shape elf_shape dis_shape load_shape
needs_subcommand = refl

-- words with a match ask for something
pub match_asks : (words : List Text) → HasMatch words → is_some (request_at (match_of words)) ≡ true
unfolding faults_of match_of
match_asks words fine = app_asks pump_app words needs_subcommand all_ask fine
