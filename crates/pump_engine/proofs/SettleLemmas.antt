-- The rule behind a sweep: what it leaves, beside the engine before the sweep and before the question.
use Rattle.std.proofs.Common.{◌≡◌, ◌⊎◌, inl, inr, ℕ, ◌+◌, ◌<◌, ◌≤◌, Bool, true, false, List, [], ◌∷◌, Result, Ok, Err, IfErr, IfOk, IsOk, IsOkAnd, OnErr, OnOk, append-nil, length, refl, sym, ap, subst, ◌∙◌}
use Rattle.std.proofs.lemmas.Bool.{le-ltb}
use Rattle.policy_trait.specs.Model.{PolicyModel}
use Rattle.policy_trait.specs.declared.rules.Ins.{Ins}
use Rattle.policy_trait.specs.declared.rules.Outs.{Outs}
use Rattle.policy_trait.specs.declared.rules.Refused.{Refused}
use Rattle.turn_steps.specs.declared.look.Look.{Look}
use Rattle.engine_trait.specs.Accounts.{Account, after_rule, is_over, keeping, rule_kept, standing_tags, swept, with_tags}
use Rattle.tag_memory.specs.Hart.{HartState}
use Rattle.tag_memory.specs.Ram.{ram_bytes}
use Rattle.engine_trait.specs.Machine.{Machine, hart_at}
use Rattle.engine_trait.specs.Turn.{rule_inputs}
use Rattle.engine_trait.proofs.MapLemmas.{hart_at_by, rule_inputs_by}
use Rattle.engine_trait.proofs.RoomLemmas.{room_swept}
use Rattle.rule_cache.specs.Stores.{Store}
use Rattle.tag_intern.specs.Table.{Extends, TableState}
use Rattle.miss_handler.specs.Asked.{AreOutWords, AreRules, answer_on, outs_on, tag_key}
use Rattle.miss_handler.specs.Books.{rulebook_of}
use Rattle.miss_handler.specs.Told.{Tells}
use Rattle.miss_handler.specs.declared.ends.AskEnd.{AskEnd}
use Rattle.miss_handler.specs.declared.ends.AskEnd.TheVariants as ask_end
use Rattle.pump_engine.specs.Pump.{IsPump, PumpState, account_by_words, decode, machine_by_words}
use Rattle.pump_engine.specs.Steps.{Allows, IsSwept, LeavesAccount, Settled, Settles, Unanswered, Unruled, Unsettled, answer_in, key_in, looked_in, ruled_in, ruling_in, swept_in, swept_now}
use Rattle.pump_engine.proofs.AskLemmas.{account_told, asked, fits_by, over_by, ruled_leaves, tells_own}
use Rattle.pump_engine.proofs.CountLemmas.{ruling_by_words}
use Rattle.pump_engine.proofs.StayLemmas.{machine_grown, pump_grown}

-- two engines of the same machine are answered alike
answers_alike : {S T : Type 0} (eq : T → T → Bool) (m : PolicyModel T S) (p q : PumpState S T) (h : ℕ) (look : Look) → machine_by_words m p ≡ machine_by_words m q
    → answer_in eq m p h look ≡ answer_in eq m q h look
answers_alike {S} {T} eq m p q h look same =
    ap (m.rule p.policy look.group) (sym (rule_inputs_by (decode m p) p.core h look))
    ∙ ap (λ (s : Machine S T). m.rule s.policy look.group (rule_inputs s.core h look)) same
    ∙ ap (m.rule q.policy look.group) (rule_inputs_by (decode m q) q.core h look)

-- a word that is in memory is there behind a sweep
pub fits_moved : {S T : Type 0} (m : PolicyModel T S) (p q : PumpState S T) (h : ℕ) → machine_by_words m q ≡ machine_by_words m p → ram_bytes q.core.ram ≡ ram_bytes p.core.ram
    → (hart_at p.core h).pc + 4 ≤ ram_bytes p.core.ram → (hart_at q.core h).pc + 4 ≤ ram_bytes q.core.ram
fits_moved {S} {T} m p q h same bytes within =
    let pc_is : (hart_at q.core h).pc ≡ (hart_at p.core h).pc =
    sym (ap (λ (hart : HartState T). hart.pc) (hart_at_by (decode m q) q.core h))
    ∙ ap (λ (s : Machine S T). (hart_at s.core h).pc) same
    ∙ ap (λ (hart : HartState T). hart.pc) (hart_at_by (decode m p) p.core h) in
    subst (λ (pc : ℕ). pc + 4 ≤ ram_bytes q.core.ram) (sym pc_is) (subst (λ (n : ℕ). (hart_at p.core h).pc + 4 ≤ n) (sym bytes) within)

-- ---- the clauses of `settle`

module _ {S T : Type 0} (eq : T → T → Bool) (m : PolicyModel T S) (p : PumpState S T) (h : ℕ) (look : Look) (table : TableState T) (store : Store) where
  -- what `settle` says of the rules of a policy that stands at s, asked with these words
  pub record IsSettled (s : S) (inputs : Ins ℕ) (answered : Result (Outs ℕ) AskEnd) : Type 0 where
    pub answer : IfOk answered (λ outs. answer_on (rulebook_of m s) p.table.tags look.group inputs ≡ Ok (outs_on (rulebook_of m s) table.tags outs))
    pub out_words : IfOk answered (AreOutWords (length table.tags))
    pub stopped : (refusal : Refused) → answered ≡ Err (ask_end.Stopped refusal) → answer_on (rulebook_of m s) p.table.tags look.group inputs ≡ Err refusal
    pub kept : OnOk answered ((account : Account T) → Tells (m.plain s) p.table p.store account
        → Tells (m.plain s) table store (rule_kept eq (tag_key (rulebook_of m s) p.table.tags look.group inputs)
        (answer_on (rulebook_of m s) p.table.tags look.group inputs) account))
    pub unkept : OnErr answered (store ≡ p.store)
    pub unnamed : OnErr answered (table ≡ p.table)
    pub tags_out : answered ≡ Err ask_end.TagsOut → IsOkAnd (answer_on (rulebook_of m s) p.table.tags look.group inputs)
        (λ outs. p.table.limit < length (with_tags eq p.table.tags (outs.pc ∷ outs.result ∷ [])))
    pub memory : answered ≡ Err ask_end.Memory → IsOkAnd (answer_on (rulebook_of m s) p.table.tags look.group inputs)
        (λ outs. length (with_tags eq p.table.tags (outs.pc ∷ outs.result ∷ [])) ≤ p.table.limit)
    pub within : length table.tags ≤ table.limit
    pub extends : Extends p.table.tags table.tags
    pub rules : AreRules (rulebook_of m s) table.tags store.sets

  -- of the engine's policy, asked with the words as they stand
  abbrev pub SettlesOwn : Result (Outs ℕ) AskEnd → Type 0
  SettlesOwn answered = IsSettled p.policy (rule_inputs p.core h look) answered

  abbrev left : PumpState S T
  left = asked eq m p h look table store

  module _ (is : IsPump m p) where
    abbrev kept_here : Account T
    kept_here = rule_kept eq (key_in eq m p h look) (answer_in eq m p h look) (account_by_words m p)

    -- an account that its table and store tell
    abbrev own : Account T
    own = account_by_words m p

    leaves : {B : Type 0} (f : Account T → B) → ((seen : List T) → f (record (keeping eq (key_in eq m p h look) own) { table = seen }) ≡ f own)
        → f (keeping eq (key_in eq m p h look) own) ≡ f own → f kept_here ≡ f own
    leaves f same kept = ruled_leaves eq (key_in eq m p h look) f (answer_in eq m p h look) own same kept

    room_by : (answered : Result (Outs ℕ) AskEnd) → SettlesOwn answered → 1 ≤ store.ways
    room_by (Ok outs) settles = (settles.kept own (tells_own eq m p h look table store is)).room
    room_by (Err end) settles = subst (λ (s : Store). 1 ≤ s.ways) (sym settles.unkept) is.room

    -- it is an engine still
    pub pump_settled : (answered : Result (Outs ℕ) AskEnd) → SettlesOwn answered → IsPump m left
    pump_settled answered settles = pump_grown m p left is refl refl refl settles.extends settles.within (room_by answered settles) settles.rules

    same_machine : (answered : Result (Outs ℕ) AskEnd) → SettlesOwn answered → machine_by_words m left ≡ machine_by_words m p
    same_machine answered settles = machine_grown m p left is.words refl refl settles.extends

    kept_is : (outs : Outs ℕ) → SettlesOwn (Ok outs) → account_by_words m left ≡ ruling_in eq m p h look own
    kept_is outs settles =
        account_told eq m p h look table store is kept_here settles.extends (settles.kept own (tells_own eq m p h look table store is)) (leaves (λ a. a.turns) (λ seen. refl) refl)
        (leaves (λ a. a.sweeps) (λ seen. refl) refl) (leaves (λ a. a.halt) (λ seen. refl) refl) (leaves (λ a. a.past) (λ seen. refl) refl)
        ∙ sym (ruling_by_words m p h look eq own)

    unkept_is : (end : AskEnd) → SettlesOwn (Err end) → account_by_words m left ≡ own
    unkept_is end settles = λ j. account_by_words m (asked eq m p h look (settles.unnamed j) (settles.unkept j))

    over_is : SettlesOwn (Err ask_end.TagsOut) → is_over (ruling_in eq m p h look own) ≡ true
    over_is settles =
        ap is_over (ruling_by_words m p h look eq own)
        ∙ over_by eq (key_in eq m p h look) p.table.tags p.table.limit own refl refl is.room (answer_in eq m p h look) (settles.tags_out refl)

    fits_is : SettlesOwn (Err ask_end.Memory) → is_over (ruling_in eq m p h look own) ≡ false
    fits_is settles =
        ap is_over (ruling_by_words m p h look eq own)
        ∙ fits_by eq (key_in eq m p h look) p.table.tags p.table.limit own refl refl is.room (answer_in eq m p h look) (settles.memory refl)

    within_is : (answered : Result (Outs ℕ) AskEnd) → SettlesOwn answered → is_over (account_by_words m left) ≡ false
    within_is answered settles = le-ltb table.limit (length table.tags) settles.within

    -- ---- beside the engine before the sweep

    module _ (o : PumpState S T) (numbers : List ℕ) (sweep : IsSwept eq m o [] numbers p) where
      swept_is : own ≡ swept_now eq m o h look
      swept_is = sweep.account ∙ ap (λ standing. swept eq standing (account_by_words m o)) (append-nil (standing_tags m (machine_by_words m o)))

      ruling_is : ruling_in eq m p h look own ≡ ruling_in eq m o h look (swept_now eq m o h look)
      ruling_is = λ j. after_rule eq m (sweep.machine j) h (Ok look) (swept_is j)

      answer_is : answer_in eq m p h look ≡ answer_in eq m o h look
      answer_is = answers_alike eq m p o h look sweep.machine

      left_machine : (answered : Result (Outs ℕ) AskEnd) → SettlesOwn answered → machine_by_words m left ≡ machine_by_words m o
      left_machine answered settles = same_machine answered settles ∙ sweep.machine

      left_account : (end : AskEnd) (settles : SettlesOwn (Err end)) → account_by_words m left ≡ swept_now eq m o h look
      left_account end settles = unkept_is end settles ∙ swept_is

      pub settles_by : (answered : Result (Outs ℕ) AskEnd) → SettlesOwn answered → Settles eq m o h look left answered
      settles_by (Ok outs) settles = record {
        rule = sym answer_is ∙ settles.answer;
        account = kept_is outs settles ∙ ruling_is;
        machine = left_machine (Ok outs) settles;
        within = within_is (Ok outs) settles;
        words = settles.out_words;
      }
      settles_by (Err (ask_end.Stopped refusal)) settles = record {
        machine = left_machine (Err (ask_end.Stopped refusal)) settles;
        within = within_is (Err (ask_end.Stopped refusal)) settles;
        account = sym answer_is ∙ settles.stopped refusal refl;
      }
      settles_by (Err ask_end.TagsOut) settles = record {
        machine = left_machine (Err ask_end.TagsOut) settles;
        within = within_is (Err ask_end.TagsOut) settles;
        account = (left_account ask_end.TagsOut settles, ap is_over (sym ruling_is) ∙ over_is settles);
      }
      settles_by (Err ask_end.Memory) settles = record {
        machine = left_machine (Err ask_end.Memory) settles;
        within = within_is (Err ask_end.Memory) settles;
        account = inr (left_account ask_end.Memory settles, ap is_over (sym ruling_is) ∙ fits_is settles);
      }

-- a sweep that found no memory
pub settles_unswept : {S T : Type 0} (eq : T → T → Bool) (m : PolicyModel T S) (p q : PumpState S T) (h : ℕ) (look : Look) → IsPump m p → q ≡ p
    → Settles eq m p h look q (Err ask_end.Memory)
settles_unswept eq m p q h look is same = record {
  machine = ap (machine_by_words m) same;
  within = ap (λ (s : PumpState _ _). is_over (account_by_words m s)) same ∙ le-ltb p.table.limit (length p.table.tags) is.within;
  account = inl (ap (account_by_words m) same);
}

-- ---- beside the engine before the question, which came to too many tags

module _ {S T : Type 0} (eq : T → T → Bool) (m : PolicyModel T S) (p q f : PumpState S T) (h : ℕ) (look : Look) (given : Unanswered eq m p h look q ask_end.TagsOut) where
  swept_as : swept_now eq m q h look ≡ swept_in eq m p h look
  swept_as = λ j. swept eq (standing_tags m (given.machine j)) (given.account j)

  ruling_as : ruling_in eq m q h look (swept_now eq m q h look) ≡ ruling_in eq m p h look (swept_in eq m p h look)
  ruling_as = λ j. after_rule eq m (given.machine j) h (Ok look) (swept_as j)

  answer_as : answer_in eq m q h look ≡ answer_in eq m p h look
  answer_as = answers_alike eq m q p h look given.machine

  ruled_as : ruled_in eq m p h look ≡ ruling_in eq m p h look (swept_in eq m p h look)
  ruled_as = room_swept eq (standing_tags m (machine_by_words m p)) (ruling_in eq m p h look) (looked_in eq m p h look) (given.over refl)

  pub settled_allows : (outs : Outs ℕ) → Settled eq m q h look f outs → Allows eq m p h look f outs
  settled_allows outs settled = record {
    rule = sym answer_as ∙ settled.rule;
    account = settled.account ∙ ruling_as ∙ sym ruled_as;
    machine = settled.machine ∙ given.machine;
    within = settled.within;
    words = settled.words;
  }

  -- the rule allows, so it isn't one that refuses
  refuses_not : (refusal : Refused) (answer : Result (Outs T) Refused) → IsOk answer → answer ≡ Err refusal → ⊥
  refuses_not refusal (Ok outs) allows is = cc
  refuses_not refusal (Err why) allows is = absurd (let no : false ≡ true = allows in cc)

  left_by : (end : AskEnd) → Unsettled eq m q h look f end → LeavesAccount eq m p h look end (account_by_words m f)
  left_by (ask_end.Stopped refusal) unsettled = absurd (refuses_not refusal (answer_in eq m p h look) (given.wants refl) (sym answer_as ∙ unsettled.account))
  left_by ask_end.TagsOut unsettled = (unsettled.account.0 ∙ swept_as, ap is_over (sym ruling_as) ∙ unsettled.account.1)
  left_by ask_end.Memory unsettled = by unsettled.account
    where
      by : ((account_by_words m f ≡ account_by_words m q) ⊎ ((account_by_words m f ≡ swept_now eq m q h look) × (is_over (ruling_in eq m q h look (swept_now eq m q h look)) ≡ false)))
          → LeavesAccount eq m p h look ask_end.Memory (account_by_words m f)
      by (inl unswept) = inl (unswept ∙ given.account)
      by (inr (is, fits)) = inr (is ∙ swept_as, ap is_over (sym ruling_as) ∙ fits)

  pub unsettled_unruled : (end : AskEnd) → Unsettled eq m q h look f end → Unruled eq m p h look f end
  unsettled_unruled end unsettled = record {
    account = left_by end unsettled;
    machine = unsettled.machine ∙ given.machine;
    within = unsettled.within;
    refused = λ refusal is. absurd (refuses_not refusal (answer_in eq m p h look) (given.wants refl)
        (sym answer_as ∙ (subst (Unsettled eq m q h look f) is unsettled).account));
    over = λ out. given.over refl;
    allowed = λ out. given.wants refl;
  }

  -- whichever it is
  pub answered_by : (answered : Result (Outs ℕ) AskEnd) → Settles eq m q h look f answered → IfOk answered (Allows eq m p h look f)
  answered_by (Ok outs) settles = settled_allows outs settles
  answered_by (Err end) settles = tt

  pub unruled_by : (answered : Result (Outs ℕ) AskEnd) → Settles eq m q h look f answered → IfErr answered (Unruled eq m p h look f)
  unruled_by (Ok outs) settles = tt
  unruled_by (Err end) settles = unsettled_unruled end settles
