-- Turns whose tags all have words without a sweep: none comes.
use Rattle.std.proofs.Common.{◌≡◌, ℕ, ◌+◌, ◌==◌, ◌<◌, ◌≤◌, Bool, true, false, nat_lt, List, [], ◌∷◌, ◌++◌, length, Option, Some, None, Result, Ok, Err, refl, ap, sym, ◌∙◌, if◌then◌else◌, arith}
use Rattle.std.specs.List.{list_any}
use Rattle.std.proofs.lemmas.Bool.{false≢true, lt-ltb, ltb-true}
use Rattle.std.proofs.lemmas.List.{length-append}
use Rattle.policy_trait.specs.Model.{PolicyModel}
use Rattle.policy_trait.specs.declared.rules.Outs.{Outs}
use Rattle.monitor_calls.specs.Service.{Job}
use Rattle.turn_steps.specs.Feeds.{Tape}
use Rattle.turn_steps.specs.declared.look.Look.{Look}
use Rattle.turn_steps.specs.declared.stop.Stop.{Stop}
use Rattle.shared_terms.specs.Counts.{next_count}
use Rattle.engine_trait.specs.Accounts.{Account, Key, account_after_turn, after_look, after_rule, after_service, is_kept, is_over, keeping, key_of, look_counted, looked_up, remembering, rule_counted, rule_kept, seeing, served_tags, service_counted, standing_tags, with_room, with_tag, with_tags, written_tags}
use Rattle.engine_trait.specs.History.{record_of}
use Rattle.engine_trait.specs.Machine.{Machine}
use Rattle.engine_trait.specs.Standing.{Standing, Stepped, is_ready, step}
use Rattle.engine_trait.specs.Turn.{job_at, preparation, rule_answer, turn_of}
use Rattle.engine_trait.specs.Unswept.{unswept_after}
use Rattle.engine_trait.proofs.AccountLemmas.{accounted_halt}
use Rattle.engine_trait.proofs.RoomLemmas.{accounted_at_service, room_kept}
use Rattle.engine_trait.proofs.StepLemmas.{step_made}

-- a field that is that of both accounts
either_field : {A B : Type 0} (field : A → B) (value : B) (test : Bool) (x y : A) → field x ≡ value → field y ≡ value → field (if test then x else y) ≡ value
either_field field value true x y first second = first
either_field field value false x y first second = second

-- where what is true before is true after, what is false after is false before
pub false_before : (before after : Bool) → (before ≡ true → after ≡ true) → after ≡ false → before ≡ false
false_before true after leads is = absurd (false≢true (sym is ∙ leads refl))
false_before false after leads is = refl

-- ---- more tags are more words, so that an account with too many stays one

pub over_longer : (limit few many : ℕ) → few ≤ many → nat_lt limit few ≡ true → nat_lt limit many ≡ true
over_longer limit few many longer over = lt-ltb limit many (let below : limit < few = ltb-true limit few over in omega (arith, below, longer))

module _ {T : Type 0} (eq : T → T → Bool) where
  with_tag_longer : (seen : List T) (tag : T) (found : Bool) → length seen ≤ length (if found then seen else seen ++ tag ∷ [])
  with_tag_longer seen tag true = omega arith
  with_tag_longer seen tag false = let more : length (seen ++ tag ∷ []) ≡ length seen + 1 = length-append seen (tag ∷ []) in omega (arith, more)

  pub with_tags_longer : (tags seen : List T) → length seen ≤ length (with_tags eq seen tags)
  with_tags_longer [] seen = omega arith
  with_tags_longer (tag ∷ tags) seen =
      let first : length seen ≤ length (with_tag eq seen tag) = with_tag_longer seen tag (list_any (eq tag) seen) in
      let rest : length (with_tag eq seen tag) ≤ length (with_tags eq (with_tag eq seen tag) tags) = with_tags_longer tags (with_tag eq seen tag) in
      omega (arith, first, rest)

  seeing_over : (tags : List T) (a : Account T) → is_over a ≡ true → is_over (seeing eq tags a) ≡ true
  seeing_over tags a over =
      either_field is_over true (a.ways == 0) a (record a { table = with_tags eq a.table tags }) over
      (over_longer a.limit (length a.table) (length (with_tags eq a.table tags)) (with_tags_longer tags a.table) over)

  looked_up_over : (key : Key T) (a : Account T) → is_over a ≡ true → is_over (looked_up eq key a) ≡ true
  looked_up_over key a over =
      either_field is_over true (is_kept eq key a) (record (keeping eq key a) { hits = next_count a.hits }) (record a { misses = next_count a.misses }) over over

  rule_kept_over : {E : Type 0} (key : Key T) (answer : Result (Outs T) E) (a : Account T) → is_over a ≡ true → is_over (rule_kept eq key answer a) ≡ true
  rule_kept_over key (Ok outs) a over = seeing_over (outs.pc ∷ outs.result ∷ []) (keeping eq key a) over
  rule_kept_over key (Err why) a over = over

  -- ---- and none of the steps of a turn counts a sweep by itself

  seeing_sweeps : (tags : List T) (a : Account T) → (seeing eq tags a).sweeps ≡ a.sweeps
  seeing_sweeps tags a = either_field (λ account. account.sweeps) a.sweeps (a.ways == 0) a (record a { table = with_tags eq a.table tags }) refl refl

  looked_up_sweeps : (key : Key T) (a : Account T) → (looked_up eq key a).sweeps ≡ a.sweeps
  looked_up_sweeps key a =
      either_field (λ account. account.sweeps) a.sweeps (is_kept eq key a) (record (keeping eq key a) { hits = next_count a.hits })
      (record a { misses = next_count a.misses }) refl refl

  rule_kept_sweeps : {E : Type 0} (key : Key T) (answer : Result (Outs T) E) (a : Account T) → (rule_kept eq key answer a).sweeps ≡ a.sweeps
  rule_kept_sweeps key (Ok outs) a = seeing_sweeps (outs.pc ∷ outs.result ∷ []) (keeping eq key a)
  rule_kept_sweeps key (Err why) a = refl

module _ {S T : Type 0} (eq : T → T → Bool) (m : PolicyModel T S) (s : Machine S T) (h : ℕ) where
  after_look_over : (found : Result Look Stop) (a : Account T) → is_over a ≡ true → is_over (after_look eq m s h found a) ≡ true
  after_look_over (Ok look) a over = looked_up_over eq (key_of eq m s h look) a over
  after_look_over (Err why) a over = over

  after_rule_over : (found : Result Look Stop) (a : Account T) → is_over a ≡ true → is_over (after_rule eq m s h found a) ≡ true
  after_rule_over (Ok look) a over = rule_kept_over eq (key_of eq m s h look) (rule_answer m s h look) a over
  after_rule_over (Err why) a over = over

  after_service_over : (job : Result (Option (Job T)) Stop) (a : Account T) → is_over a ≡ true → is_over (after_service eq m s h job a) ≡ true
  after_service_over (Ok (Some job)) a over = seeing_over eq (written_tags job) a over
  after_service_over (Ok None) a over = over
  after_service_over (Err why) a over = over

  after_look_sweeps : (found : Result Look Stop) (a : Account T) → (after_look eq m s h found a).sweeps ≡ a.sweeps
  after_look_sweeps (Ok look) a = looked_up_sweeps eq (key_of eq m s h look) a
  after_look_sweeps (Err why) a = refl

  after_rule_sweeps : (found : Result Look Stop) (a : Account T) → (after_rule eq m s h found a).sweeps ≡ a.sweeps
  after_rule_sweeps (Ok look) a = rule_kept_sweeps eq (key_of eq m s h look) (rule_answer m s h look) a
  after_rule_sweeps (Err why) a = refl

  after_service_sweeps : (job : Result (Option (Job T)) Stop) (a : Account T) → (after_service eq m s h job a).sweeps ≡ a.sweeps
  after_service_sweeps (Ok (Some job)) a = seeing_sweeps eq (written_tags job) a
  after_service_sweeps (Ok None) a = refl
  after_service_sweeps (Err why) a = refl

  -- the account after the rule of a turn, and after its service, without a sweep
  abbrev ruled : Account T → Account T
  ruled a = after_rule eq m s h (preparation m s h) (look_counted eq m s h a)

  abbrev served : Account T → Account T
  served a = after_service eq m s h (job_at m s h) (ruled a)

  look_over : (a : Account T) → is_over a ≡ true → is_over (look_counted eq m s h a) ≡ true
  unfolding look_counted
  look_over a over = after_look_over (preparation m s h) a over

  look_sweeps : (a : Account T) → (look_counted eq m s h a).sweeps ≡ a.sweeps
  unfolding look_counted
  look_sweeps a = after_look_sweeps (preparation m s h) a

  -- too many words before a turn are too many after it
  pub unswept_over : (a : Account T) → is_over a ≡ true → is_over (unswept_after eq m s h a) ≡ true
  unfolding unswept_after
  unswept_over a over =
      after_service_over (job_at m s h) (ruled a) (after_rule_over (preparation m s h) (look_counted eq m s h a) (look_over a over))

  pub unswept_sweeps : (a : Account T) → (unswept_after eq m s h a).sweeps ≡ a.sweeps
  unfolding unswept_after
  unswept_sweeps a =
      after_service_sweeps (job_at m s h) (ruled a) ∙ after_rule_sweeps (preparation m s h) (look_counted eq m s h a) ∙ look_sweeps a

  -- ---- a turn after which there is room had room at its rule

  ruled_within : (a : Account T) → is_over (served a) ≡ false → is_over (ruled a) ≡ false
  ruled_within a within = false_before (is_over (ruled a)) (is_over (served a)) (after_service_over (job_at m s h) (ruled a)) within

  rule_unswept : (a : Account T) → is_over (ruled a) ≡ false → rule_counted eq m s h a ≡ ruled a
  unfolding rule_counted
  rule_unswept a within = room_kept eq (standing_tags m s) (after_rule eq m s h (preparation m s h)) (look_counted eq m s h a) within

  service_unswept : (a : Account T) → is_over (served a) ≡ false → service_counted eq m s h a ≡ served a
  unfolding service_counted
  service_unswept a within =
      ap (with_room eq (served_tags m s h) (after_service eq m s h (job_at m s h))) (rule_unswept a (ruled_within a within))
      ∙ room_kept eq (served_tags m s h) (after_service eq m s h (job_at m s h)) (ruled a) within

  -- so its account is that of an engine that never sweeps
  pub accounted_unswept : (a : Account T) → is_over (unswept_after eq m s h a) ≡ false → account_after_turn eq m s h a ≡ unswept_after eq m s h a
  unfolding unswept_after
  accounted_unswept a within =
      let ruled_is : rule_counted eq m s h a ≡ ruled a = rule_unswept a (ruled_within a within) in
      accounted_at_service eq m s h a (ap is_over ruled_is ∙ ruled_within a within)
      ∙ ap (λ (account : Account T). record account { turns = next_count a.turns }) (service_unswept a within)

  -- which runs on
  pub unswept_halt : (a : Account T) → is_over (unswept_after eq m s h a) ≡ false → (unswept_after eq m s h a).halt ≡ a.halt
  unswept_halt a within = ap (λ account. account.halt) (sym (accounted_unswept a within)) ∙ accounted_halt eq m s h a

-- ---- the step of a ready hart

module _ {S T : Type 0} (eq : T → T → Bool) (m : PolicyModel T S) (e : Standing S T) (feed : Tape) (h : ℕ) where
  -- the turn, remembered, with the account of an engine that never sweeps
  abbrev pub unswept_made : Stepped S T
  unswept_made = record {
    standing = record {
      machine = (turn_of m e.machine feed h).machine;
      account = remembering (record_of m e.machine feed h) (unswept_after eq m e.machine h e.account);
    };
    feed = (turn_of m e.machine feed h).feed;
    ended = (turn_of m e.machine feed h).ended;
  }

  module _ (ready : is_ready e h ≡ true) (within : is_over (unswept_after eq m e.machine h e.account) ≡ false) where
    accounted : account_after_turn eq m e.machine h e.account ≡ unswept_after eq m e.machine h e.account
    accounted = accounted_unswept eq m e.machine h e.account within

    pub step_unswept : step eq m e feed h ≡ unswept_made
    step_unswept =
        step_made eq m e feed h ready (ap is_over accounted ∙ within)
        ∙ λ j. record {
          standing = record { machine = (turn_of m e.machine feed h).machine; account = remembering (record_of m e.machine feed h) (accounted j) };
          feed = (turn_of m e.machine feed h).feed;
          ended = (turn_of m e.machine feed h).ended;
        }

    pub step_account : (step eq m e feed h).standing.account ≡ remembering (record_of m e.machine feed h) (unswept_after eq m e.machine h e.account)
    step_account = ap (λ (stepped : Stepped S T). stepped.standing.account) step_unswept

    -- so no sweep is counted
    pub step_sweeps : (step eq m e feed h).standing.account.sweeps ≡ e.account.sweeps
    step_sweeps = ap (λ account. account.sweeps) step_account ∙ unswept_sweeps eq m e.machine h e.account
