-- What an answer of the rules leaves, in the words of the engine's state.
use Rattle.std.proofs.Common.{◌≡◌, ℕ, ◌<◌, ◌≤◌, ◌==◌, Bool, true, false, nat_lt, List, [], ◌∷◌, Result, Ok, Err, IfErr, IfOk, IsOk, IsOkAnd, OnErr, OnOk, length, refl, sym, ap, ◌∙◌, is_some, subst, if◌then◌else◌}
use Rattle.std.proofs.lemmas.Bool.{le-ltb, lt-ltb}
use Rattle.policy_trait.specs.Model.{PolicyModel}
use Rattle.policy_trait.specs.declared.rules.Ins.{Ins}
use Rattle.policy_trait.specs.declared.rules.Outs.{Outs}
use Rattle.policy_trait.specs.declared.rules.Refused.{Refused}
use Rattle.turn_steps.specs.declared.look.Look.{Look}
use Rattle.undo_log.specs.Past.{Past, past_by}
use Rattle.engine_trait.specs.Accounts.{Account, Key, is_kept, is_over, keeping, looked_up, rule_kept, standing_tags, with_tags}
use Rattle.shared_terms.specs.Counts.{next_count}
use Rattle.engine_trait.specs.Turn.{rule_inputs}
use Rattle.engine_trait.proofs.AccountLemmas.{keeps_some}
use Rattle.rule_cache.specs.Stores.{Store, lookup_of}
use Rattle.tag_intern.specs.Table.{Extends, TableState}
use Rattle.miss_handler.specs.Asked.{AreOutWords, AreRules, answer_on, outs_on, tag_key, word_key}
use Rattle.miss_handler.specs.Books.{rulebook_of}
use Rattle.miss_handler.specs.Told.{Tells}
use Rattle.miss_handler.specs.declared.ends.AskEnd.{AskEnd}
use Rattle.miss_handler.specs.declared.ends.AskEnd.TheVariants as ask_end
use Rattle.engine_trait.proofs.RoomLemmas.{room_kept}
use Rattle.pump_engine.specs.Pump.{IsPump, PumpState, account_by_words, decode, machine_by_words, pump_of}
use Rattle.pump_engine.specs.Steps.{Allows, Unanswered, answer_in, key_in, looked_in, ruled_in, ruling_in}
use Rattle.pump_engine.proofs.CountLemmas.{ruling_by_words}
use Rattle.pump_engine.proofs.StayLemmas.{machine_grown, past_grown, pump_grown}

-- an answer of which something holds is one
pub ok_where : {A E : Type 0} (answer : Result A E) (P : A → Type 0) → IsOkAnd answer P → IsOk answer
ok_where (Ok x) P is = refl
ok_where (Err why) P is = absurd is

-- ---- accounts

-- what both cases of a test have
in_both : {A B : Type 0} (f : A → B) (test : Bool) (x y : A) (b : B) → f x ≡ b → f y ≡ b → f (if test then x else y) ≡ b
in_both f true x y b first second = first
in_both f false x y b first second = second

module _ {T : Type 0} (eq : T → T → Bool) (key : Key T) where
  -- a look-up leaves what does not count look-ups
  looked_leaves : {B : Type 0} (f : Account T → B) (a : Account T) → f (record (keeping eq key a) { hits = next_count a.hits }) ≡ f a
      → f (record a { misses = next_count a.misses }) ≡ f a → f (looked_up eq key a) ≡ f a
  looked_leaves f a hit miss = in_both f (is_kept eq key a) (record (keeping eq key a) { hits = next_count a.hits }) (record a { misses = next_count a.misses }) (f a) hit miss

  -- so does a rule that is kept
  pub ruled_leaves : {B : Type 0} (f : Account T → B) (answer : Result (Outs T) Refused) (a : Account T)
      → ((seen : List T) → f (record (keeping eq key a) { table = seen }) ≡ f a) → f (keeping eq key a) ≡ f a → f (rule_kept eq key answer a) ≡ f a
  ruled_leaves f (Ok outs) a seen kept =
      in_both f (a.ways == 0) (keeping eq key a) (record (keeping eq key a) { table = with_tags eq a.table (outs.pc ∷ outs.result ∷ []) }) (f a) kept (seen _)
  ruled_leaves f (Err why) a seen kept = refl

  -- whether outputs need too many words
  module _ (tags : List T) (limit : ℕ) (a : Account T) (seen_is : a.table ≡ tags) (limit_is : a.limit ≡ limit) (some : 1 ≤ a.ways) where
    ruled_over : (outs : Outs T) → is_over (rule_kept eq {E = Refused} key (Ok outs) a) ≡ nat_lt limit (length (with_tags eq tags (outs.pc ∷ outs.result ∷ [])))
    ruled_over outs =
        ap (λ is_none. is_over (if is_none then keeping eq key a else record (keeping eq key a) { table = with_tags eq a.table (outs.pc ∷ outs.result ∷ []) })) (keeps_some a.ways some)
        ∙ ap (λ (n : ℕ). is_over (record a { limit = n; table = with_tags eq a.table (outs.pc ∷ outs.result ∷ []) })) limit_is
        ∙ ap (λ (seen : List T). is_over (record a { limit = limit; table = with_tags eq seen (outs.pc ∷ outs.result ∷ []) })) seen_is

    pub over_by : (answer : Result (Outs T) Refused) → IsOkAnd answer (λ outs. limit < length (with_tags eq tags (outs.pc ∷ outs.result ∷ [])))
        → is_over (rule_kept eq key answer a) ≡ true
    over_by (Ok outs) over = ruled_over outs ∙ lt-ltb limit (length (with_tags eq tags (outs.pc ∷ outs.result ∷ []))) over
    over_by (Err why) over = absurd over

    pub fits_by : (answer : Result (Outs T) Refused) → IsOkAnd answer (λ outs. length (with_tags eq tags (outs.pc ∷ outs.result ∷ [])) ≤ limit)
        → is_over (rule_kept eq key answer a) ≡ false
    fits_by (Ok outs) fits = ruled_over outs ∙ le-ltb limit (length (with_tags eq tags (outs.pc ∷ outs.result ∷ []))) fits
    fits_by (Err why) fits = absurd fits

-- ---- the clauses of `ask`

module _ {S T : Type 0} (eq : T → T → Bool) (m : PolicyModel T S) (p : PumpState S T) (h : ℕ) (look : Look) (table : TableState T) (store : Store) where
  -- the engine with what `ask` left
  abbrev pub asked : PumpState S T
  asked = pump_of p.policy p.core table store p.turns p.sweeps p.halt p.past

  -- what `ask` says of the rules of a policy that stands at s, asked with these words
  pub record IsAsked (s : S) (inputs : Ins ℕ) (answered : Result (Outs ℕ) AskEnd) : Type 0 where
    pub answer : IfOk answered (λ outs. answer_on (rulebook_of m s) p.table.tags look.group inputs ≡ Ok (outs_on (rulebook_of m s) table.tags outs))
    pub out_words : IfOk answered (AreOutWords (length table.tags))
    pub stopped : (refusal : Refused) → answered ≡ Err (ask_end.Stopped refusal) → answer_on (rulebook_of m s) p.table.tags look.group inputs ≡ Err refusal
    pub kept : OnOk answered ((account : Account T) → Tells (m.plain s) p.table p.store account
        → Tells (m.plain s) table store (rule_kept eq (tag_key (rulebook_of m s) p.table.tags look.group inputs)
        (answer_on (rulebook_of m s) p.table.tags look.group inputs)
        (looked_up eq (tag_key (rulebook_of m s) p.table.tags look.group inputs) account)))
    pub unkept : OnErr answered ((account : Account T) → Tells (m.plain s) p.table p.store account
        → Tells (m.plain s) table store (looked_up eq (tag_key (rulebook_of m s) p.table.tags look.group inputs) account))
    pub tags_out : answered ≡ Err ask_end.TagsOut → IsOkAnd (answer_on (rulebook_of m s) p.table.tags look.group inputs)
        (λ outs. p.table.limit < length (with_tags eq p.table.tags (outs.pc ∷ outs.result ∷ [])))
    pub memory : answered ≡ Err ask_end.Memory → IsOkAnd (answer_on (rulebook_of m s) p.table.tags look.group inputs)
        (λ outs. length (with_tags eq p.table.tags (outs.pc ∷ outs.result ∷ [])) ≤ p.table.limit)
    pub within : length table.tags ≤ table.limit
    pub extends : Extends p.table.tags table.tags
    pub hit : is_some (lookup_of (word_key (rulebook_of m s) look.group inputs) p.store) ≡ true → IsOk answered
    pub told : (account : Account T) → Tells (m.plain s) p.table p.store account
        → is_kept eq (tag_key (rulebook_of m s) p.table.tags look.group inputs) account ≡ is_some (lookup_of (word_key (rulebook_of m s) look.group inputs) p.store)
    pub rules : AreRules (rulebook_of m s) table.tags store.sets

  -- of the engine's policy, asked with the words as they stand
  abbrev pub AsksOwn : Result (Outs ℕ) AskEnd → Type 0
  AsksOwn answered = IsAsked p.policy (rule_inputs p.core h look) answered

  module _ (is : IsPump m p) where
    pub tells_own : Tells (m.plain p.policy) p.table p.store (account_by_words m p)
    tells_own = record { tags = refl; limit = refl; room = is.room; rules = record { sets = refl; ways = refl; hits = refl; misses = refl } }

    -- the records of the tags that their words stand for
    abbrev pub own_past : Past T T
    own_past = past_by (decode m p) p.past

    -- the account that the table and the store tell, and the turns, the halt and the records as they were
    pub account_told : (account : Account T) → Extends p.table.tags table.tags → Tells (m.plain p.policy) table store account → account.turns ≡ p.turns → account.sweeps ≡ p.sweeps
        → account.halt ≡ p.halt → account.past ≡ own_past → account_by_words m asked ≡ account
    account_told account extends tells turns_are sweeps_are halt_is past_is = λ j. record {
      table = sym tells.tags j;
      limit = sym tells.limit j;
      sets = sym tells.rules.sets j;
      ways = sym tells.rules.ways j;
      turns = sym turns_are j;
      hits = sym tells.rules.hits j;
      misses = sym tells.rules.misses j;
      sweeps = sym sweeps_are j;
      halt = sym halt_is j;
      past = (past_grown m p asked is.remembered refl refl extends ∙ sym past_is) j;
    }

    looked_turns : (looked_in eq m p h look).turns ≡ p.turns
    looked_turns = looked_leaves eq (key_in eq m p h look) (λ account. account.turns) (account_by_words m p) refl refl

    looked_sweeps : (looked_in eq m p h look).sweeps ≡ p.sweeps
    looked_sweeps = looked_leaves eq (key_in eq m p h look) (λ account. account.sweeps) (account_by_words m p) refl refl

    looked_halt : (looked_in eq m p h look).halt ≡ p.halt
    looked_halt = looked_leaves eq (key_in eq m p h look) (λ account. account.halt) (account_by_words m p) refl refl

    looked_past : (looked_in eq m p h look).past ≡ own_past
    looked_past = looked_leaves eq (key_in eq m p h look) (λ account. account.past) (account_by_words m p) refl refl

    -- the account with the rule kept, as `ask` has it
    abbrev kept_in : Account T
    kept_in = rule_kept eq (key_in eq m p h look) (answer_in eq m p h look) (looked_in eq m p h look)

    ruled_turns : kept_in.turns ≡ p.turns
    ruled_turns = ruled_leaves eq (key_in eq m p h look) (λ account. account.turns) (answer_in eq m p h look) (looked_in eq m p h look) (λ seen. refl) refl ∙ looked_turns

    ruled_sweeps : kept_in.sweeps ≡ p.sweeps
    ruled_sweeps = ruled_leaves eq (key_in eq m p h look) (λ account. account.sweeps) (answer_in eq m p h look) (looked_in eq m p h look) (λ seen. refl) refl ∙ looked_sweeps

    ruled_halt : kept_in.halt ≡ p.halt
    ruled_halt = ruled_leaves eq (key_in eq m p h look) (λ account. account.halt) (answer_in eq m p h look) (looked_in eq m p h look) (λ seen. refl) refl ∙ looked_halt

    ruled_past : kept_in.past ≡ own_past
    ruled_past = ruled_leaves eq (key_in eq m p h look) (λ account. account.past) (answer_in eq m p h look) (looked_in eq m p h look) (λ seen. refl) refl ∙ looked_past

    room_by : (answered : Result (Outs ℕ) AskEnd) → AsksOwn answered → 1 ≤ store.ways
    room_by (Ok outs) asks = (asks.kept (account_by_words m p) tells_own).room
    room_by (Err end) asks = (asks.unkept (account_by_words m p) tells_own).room

    -- it is an engine still
    pub pump_asked : (answered : Result (Outs ℕ) AskEnd) → AsksOwn answered → IsPump m asked
    pump_asked answered asks = pump_grown m p asked is refl refl refl asks.extends asks.within (room_by answered asks) asks.rules

    looked_seen : (looked_in eq m p h look).table ≡ p.table.tags
    looked_seen = looked_leaves eq (key_in eq m p h look) (λ account. account.table) (account_by_words m p) refl refl

    looked_limit : (looked_in eq m p h look).limit ≡ p.table.limit
    looked_limit = looked_leaves eq (key_in eq m p h look) (λ account. account.limit) (account_by_words m p) refl refl

    looked_some : 1 ≤ (looked_in eq m p h look).ways
    looked_some = subst (λ n. 1 ≤ n) (sym (looked_leaves eq (key_in eq m p h look) (λ account. account.ways) (account_by_words m p) refl refl)) is.room

    over_refused : (answered : Result (Outs ℕ) AskEnd) → AsksOwn answered → answered ≡ Err ask_end.TagsOut → is_over (ruling_in eq m p h look (looked_in eq m p h look)) ≡ true
    over_refused answered asks out =
        ap is_over (ruling_by_words m p h look eq (looked_in eq m p h look))
        ∙ over_by eq (key_in eq m p h look) p.table.tags p.table.limit (looked_in eq m p h look) looked_seen looked_limit looked_some (answer_in eq m p h look) (asks.tags_out out)

    allowed_over : (answered : Result (Outs ℕ) AskEnd) → AsksOwn answered → answered ≡ Err ask_end.TagsOut → IsOk (answer_in eq m p h look)
    allowed_over answered asks out = ok_where (answer_in eq m p h look) _ (asks.tags_out out)

    allowed_wanting : (answered : Result (Outs ℕ) AskEnd) → AsksOwn answered → answered ≡ Err ask_end.Memory → IsOk (answer_in eq m p h look)
    allowed_wanting answered asks out = ok_where (answer_in eq m p h look) _ (asks.memory out)

    -- where no more have words than may, the rule is kept without a sweep
    ruled_once : (kept : account_by_words m asked ≡ kept_in) → length table.tags ≤ table.limit → account_by_words m asked ≡ ruled_in eq m p h look
    ruled_once kept fits =
        let ruling = ruling_by_words m p h look eq (looked_in eq m p h look) in
        let within : is_over (ruling_in eq m p h look (looked_in eq m p h look)) ≡ false =
        ap is_over (ruling ∙ sym kept) ∙ le-ltb table.limit (length table.tags) fits in
        kept ∙ sym ruling
        ∙ sym (room_kept eq (standing_tags m (machine_by_words m p)) (ruling_in eq m p h look) (looked_in eq m p h look) within)

    pub allowed : (answered : Result (Outs ℕ) AskEnd) → AsksOwn answered → IfOk answered (Allows eq m p h look asked)
    allowed (Ok outs) asks = record {
      rule = asks.answer;
      account = ruled_once (account_told kept_in asks.extends (asks.kept (account_by_words m p) tells_own) ruled_turns ruled_sweeps ruled_halt ruled_past) asks.within;
      machine = machine_grown m p asked is.words refl refl asks.extends;
      within = le-ltb table.limit (length table.tags) asks.within;
      words = asks.out_words;
    }
    allowed (Err end) asks = tt

    pub unanswered : (answered : Result (Outs ℕ) AskEnd) → AsksOwn answered → IfErr answered (Unanswered eq m p h look asked)
    unanswered (Ok outs) asks = tt
    unanswered (Err end) asks = record {
      account = account_told (looked_in eq m p h look) asks.extends (asks.unkept (account_by_words m p) tells_own) looked_turns looked_sweeps looked_halt looked_past;
      machine = machine_grown m p asked is.words refl refl asks.extends;
      within = le-ltb table.limit (length table.tags) asks.within;
      refused = λ refusal stops. asks.stopped refusal (ap (λ e. Err e) stops);
      over = λ out. over_refused (Err end) asks (ap (λ e. Err e) out);
      wants = λ out. allowed_over (Err end) asks (ap (λ e. Err e) out);
      allowed = λ out. allowed_wanting (Err end) asks (ap (λ e. Err e) out);
    }

    -- a kept rule is answered
    pub kept_answered : (answered : Result (Outs ℕ) AskEnd) → AsksOwn answered → is_kept eq (key_in eq m p h look) (account_by_words m p) ≡ true → IsOk answered
    kept_answered answered asks hit = asks.hit (sym (asks.told (account_by_words m p) tells_own) ∙ hit)
