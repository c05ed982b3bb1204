-- Steps of an engine that keeps rules, by where the turn ended.
use Rattle.std.proofs.Common.{◌≡◌, ℕ, ◌==◌, Bool, true, false, List, [], ◌∷◌, ◌++◌, length, take, Option, Some, None, Result, Ok, Err, ap, ◌∙◌, if◌then◌else◌}
use Rattle.policy_trait.specs.Model.{PolicyModel}
use Rattle.shared_terms.specs.Steps.{◌>>=◌}
use Rattle.policy_trait.specs.declared.rules.Outs.{Outs}
use Rattle.policy_trait.specs.declared.services.PlanEnd.{PlanEnd}
use Rattle.monitor_calls.specs.Service.{Job}
use Rattle.turn_steps.specs.Feeds.{Tape, first_fed}
use Rattle.turn_steps.specs.Looks.{is_call}
use Rattle.turn_steps.specs.declared.look.Look.{Look}
use Rattle.turn_steps.specs.declared.stop.Stop.{Stop}
use Rattle.undo_log.specs.Past.{Record}
use Rattle.engine_trait.specs.Accounts.{Account, account_after_turn, after_look, after_rule, after_service, is_over, key_of, look_counted, remembering, rule_counted, rule_kept, ruled_tags, seeing, served_tags, service_counted, standing_tags, swept, with_room, with_tag, with_tags}
use Rattle.shared_terms.specs.Counts.{next_count}
use Rattle.engine_trait.specs.History.{bare_record, record_done, record_of, record_or_bare}
use Rattle.engine_trait.specs.Machine.{Machine, hart_at}
use Rattle.engine_trait.specs.Standing.{Standing, Stepped, is_ready, step}
use Rattle.engine_trait.specs.Turn.{Turned, rule_answer, turn_effect, job_at, or_unserved, turn_job, preparation, service_on, settlement, turn_of}
use Rattle.engine_trait.specs.declared.ends.Halt.TheVariants as halt
use Rattle.engine_trait.specs.declared.ends.TurnEnd.TheVariants as ends
use Rattle.engine_trait.proofs.StepLemmas.{ready_parts, step_made, step_out}
use Rattle.engine_trait.proofs.TurnLemmas.{job_ruled, rule_looked, turn_checked, turn_refused, turn_ruled}
use Rattle.engine_trait.proofs.UnsweptLemmas.{false_before, over_longer, with_tags_longer}

-- ---- the tags of a step, and the first of them alone

module _ {T : Type 0} (eq : T → T → Bool) where
  first_over_by : (uncached : Bool) (tags : List T) (a : Account T)
      → is_over (if uncached then a else record a { table = with_tags eq a.table (take 1 tags) }) ≡ true
      → is_over (if uncached then a else record a { table = with_tags eq a.table tags }) ≡ true
  first_over_by true tags a over = over
  first_over_by false [] a over = over
  first_over_by false (tag ∷ tags) a over =
      over_longer a.limit (length (with_tag eq a.table tag)) (length (with_tags eq (with_tag eq a.table tag) tags)) (with_tags_longer eq tags (with_tag eq a.table tag)) over

  -- where the first of some tags is too many, all are, and where all have words, the first has
  first_over : (tags : List T) (a : Account T) → is_over (seeing eq (take 1 tags) a) ≡ true → is_over (seeing eq tags a) ≡ true
  first_over tags a = first_over_by (a.ways == 0) tags a

  pub first_within : (tags : List T) (a : Account T) → is_over (seeing eq tags a) ≡ false → is_over (seeing eq (take 1 tags) a) ≡ false
  first_within tags a = false_before (is_over (seeing eq (take 1 tags) a)) (is_over (seeing eq tags a)) (first_over tags a)

-- a step that gives no tag a word needs no sweep
pub room_idle : {T : Type 0} (eq : T → T → Bool) (standing : List T) (a : Account T) → is_over a ≡ false → with_room eq standing (λ account. account) a ≡ a
room_idle eq standing a within = ap (λ over. if over then swept eq standing a else a) within

module _ {S T : Type 0} (eq : T → T → Bool) (m : PolicyModel T S) (s : Machine S T) (h : ℕ) where
  -- ---- the account along the steps of a turn

  abbrev turn_counted : Account T → Account T → Account T
  turn_counted a b = record b { turns = next_count a.turns }

  abbrev numbered_by : Account T → Bool → Account T
  numbered_by a over = if over then rule_counted eq m s h a else service_counted eq m s h a

  -- a turn that has too many tags at its rule has too many
  accounted_over : (a b : Account T) → rule_counted eq m s h a ≡ b → is_over b ≡ true → is_over (account_after_turn eq m s h a) ≡ true
  unfolding account_after_turn
  accounted_over a b ruled_is over = ap (λ is_so. is_over (numbered_by a is_so)) (ap is_over ruled_is ∙ over) ∙ ap is_over ruled_is ∙ over

  -- the account behind the service of a turn
  abbrev served_by : Result (Option (Job T)) Stop → Account T → Account T
  served_by job b = with_room eq (served_tags m s h) (after_service eq m s h job) b

  accounted_by : (a b : Account T) (job : Result (Option (Job T)) Stop) → rule_counted eq m s h a ≡ b → is_over b ≡ false → job_at m s h ≡ job
      → account_after_turn eq m s h a ≡ turn_counted a (served_by job b)
  unfolding account_after_turn service_counted
  accounted_by a b job ruled_is within job_is =
      ap (λ over. turn_counted a (numbered_by a over)) (ap is_over ruled_is ∙ within)
      ∙ λ j. turn_counted a (served_by (job_is j) (ruled_is j))

  -- one of the checks failed
  module _ (why : Stop) (looked : preparation m s h ≡ Err why) where
    look_counted_checked : (a : Account T) → look_counted eq m s h a ≡ a
    unfolding look_counted
    look_counted_checked a = ap (λ found. after_look eq m s h found a) looked

    rule_counted_checked : (a : Account T) → is_over a ≡ false → rule_counted eq m s h a ≡ a
    unfolding rule_counted
    rule_counted_checked a within =
        (λ j. with_room eq (standing_tags m s) (after_rule eq m s h (looked j)) (look_counted_checked a j)) ∙ room_idle eq (standing_tags m s) a within

    job_checked : job_at m s h ≡ Err why
    unfolding job_at
    job_checked = ap (λ found. found >>= λ l. rule_answer m s h l >>= λ o. turn_job m s h l o) looked

    pub accounted_checked : (a : Account T) → is_over a ≡ false → account_after_turn eq m s h a ≡ record a { turns = next_count a.turns }
    accounted_checked a within =
        accounted_by a a (Err why) (rule_counted_checked a within) within job_checked ∙ ap (turn_counted a) (room_idle eq (served_tags m s h) a within)

  -- the turn came to its rule
  module _ (look : Look) (looked : preparation m s h ≡ Ok look) where
    pub look_counted_at : (a : Account T) → look_counted eq m s h a ≡ after_look eq m s h (Ok look) a
    unfolding look_counted
    look_counted_at a = ap (λ found. after_look eq m s h found a) looked

    pub rule_counted_at : (a b : Account T) → look_counted eq m s h a ≡ b
        → rule_counted eq m s h a ≡ with_room eq (standing_tags m s) (after_rule eq m s h (Ok look)) b
    unfolding rule_counted
    rule_counted_at a b looked_is = λ j. with_room eq (standing_tags m s) (after_rule eq m s h (looked j)) (looked_is j)

    -- which refused
    module _ (why : Stop) (ruled : rule_answer m s h look ≡ Err why) where
      rule_counted_refused : (a b : Account T) → look_counted eq m s h a ≡ b → is_over b ≡ false → rule_counted eq m s h a ≡ b
      rule_counted_refused a b looked_is within =
          rule_counted_at a b looked_is
          ∙ ap (λ answer. with_room eq (standing_tags m s) (rule_kept eq (key_of eq m s h look) answer) b) ruled
          ∙ room_idle eq (standing_tags m s) b within

      job_refused : job_at m s h ≡ Err why
      unfolding job_at
      job_refused =
          ap (λ found. found >>= λ l. rule_answer m s h l >>= λ o. turn_job m s h l o) looked ∙ ap (λ answer. answer >>= λ o. turn_job m s h look o) ruled

      accounted_refused : (a b : Account T) → look_counted eq m s h a ≡ b → is_over b ≡ false
          → account_after_turn eq m s h a ≡ record b { turns = next_count a.turns }
      accounted_refused a b looked_is within =
          accounted_by a b (Err why) (rule_counted_refused a b looked_is within) within job_refused
          ∙ ap (turn_counted a) (room_idle eq (served_tags m s h) b within)

    -- which allowed
    module _ (outs : Outs T) (ruled : rule_answer m s h look ≡ Ok outs) where
      -- the tags that stand somewhere then
      abbrev pub standing_ruled : List T
      standing_ruled = standing_tags m s ++ outs.pc ∷ outs.result ∷ []

      pub served_are : served_tags m s h ≡ standing_ruled
      served_are = ap (λ answer. standing_tags m s ++ ruled_tags answer) (rule_looked m s h look looked ∙ ruled)

      -- the account behind the service
      abbrev pub served_ruled : Result (Option (Job T)) Stop → Account T → Account T
      served_ruled job b = with_room eq standing_ruled (after_service eq m s h job) b

      pub accounted_ruled : (job : Result (Option (Job T)) Stop) (a b : Account T) → turn_job m s h look outs ≡ job
          → rule_counted eq m s h a ≡ b → is_over b ≡ false → account_after_turn eq m s h a ≡ record (served_ruled job b) { turns = next_count a.turns }
      accounted_ruled job a b planned_is ruled_is within =
          accounted_by a b job ruled_is within (job_ruled m s h look outs looked ruled ∙ planned_is)
          ∙ ap (λ standing. turn_counted a (with_room eq standing (after_service eq m s h job) b)) served_are

-- ---- a call of the policy's services

module _ {S T : Type 0} (m : PolicyModel T S) (s : Machine S T) (h : ℕ) (look : Look) (outs : Outs T) where
  abbrev planned_if : Bool → Result (Job T) PlanEnd → Result (Option (Job T)) Stop
  planned_if call given = if call then or_unserved (hart_at s.core h).pc look.service given else Ok None

  pub planned_call : (given : Result (Job T) PlanEnd) → is_call look.group ≡ true → service_on m s h look outs ≡ given
      → turn_job m s h look outs ≡ or_unserved (hart_at s.core h).pc look.service given
  unfolding turn_job
  planned_call given call given_is = λ j. planned_if (call j) (given_is j)

-- ---- the record of a turn, by where it ended

module _ {S T : Type 0} (m : PolicyModel T S) (s : Machine S T) (feed : Tape) (h : ℕ) where
  -- what the steps that are left make of it
  abbrev pub record_planned : Look → Result (Option (Job T)) Stop → Record T T
  record_planned look job = record_or_bare s.core h (job >>= λ j. Ok (record_done s.core (first_fed feed.left) h look j))

  abbrev planned_made : Look → Outs T → Result (Record T T) Stop
  planned_made look outs = turn_job m s h look outs >>= λ j. Ok (record_done s.core (first_fed feed.left) h look j)

  abbrev allowed_made : Look → Result (Record T T) Stop
  allowed_made look = rule_answer m s h look >>= planned_made look

  record_checked : (why : Stop) → preparation m s h ≡ Err why → record_of m s feed h ≡ bare_record s.core h
  unfolding record_of
  record_checked why looked = ap (λ found. record_or_bare s.core h (found >>= allowed_made)) looked

  module _ (look : Look) (looked : preparation m s h ≡ Ok look) where
    record_looked : record_of m s feed h ≡ record_or_bare s.core h (allowed_made look)
    unfolding record_of
    record_looked = ap (λ found. record_or_bare s.core h (found >>= allowed_made)) looked

    record_refused : (why : Stop) → rule_answer m s h look ≡ Err why → record_of m s feed h ≡ bare_record s.core h
    record_refused why ruled = record_looked ∙ ap (λ answer. record_or_bare s.core h (answer >>= planned_made look)) ruled

    record_ruled : (outs : Outs T) (job : Result (Option (Job T)) Stop) → rule_answer m s h look ≡ Ok outs → turn_job m s h look outs ≡ job
        → record_of m s feed h ≡ record_planned look job
    record_ruled outs job ruled planned_is =
        record_looked
        ∙ ap (λ answer. record_or_bare s.core h (answer >>= planned_made look)) ruled
        ∙ ap (record_planned look) planned_is

-- a step as the account and the turn tell it
abbrev pub stepped_to : {S T : Type 0} → Account T → Turned S T → Stepped S T
stepped_to account turned = record { standing = record { machine = turned.machine; account = account }; feed = turned.feed; ended = turned.ended }

module _ {S T : Type 0} (eq : T → T → Bool) (m : PolicyModel T S) (e : Standing S T) (feed : Tape) (h : ℕ) (ready : is_ready e h ≡ true) where
  -- ---- steps that are turns

  by_turn : (account : Account T) (turned : Turned S T) (made : Record T T) → account_after_turn eq m e.machine h e.account ≡ account → is_over account ≡ false
      → turn_of m e.machine feed h ≡ turned → record_of m e.machine feed h ≡ made → step eq m e feed h ≡ stepped_to (remembering made account) turned
  by_turn account turned made counted_is within turned_is made_is =
      step_made eq m e feed h ready (ap is_over counted_is ∙ within) ∙ λ j. stepped_to (remembering (made_is j) (counted_is j)) (turned_is j)

  abbrev with_turn : Account T → Account T
  with_turn account = record account { turns = next_count e.account.turns }

  -- one of the checks failed
  pub checked_step : (why : Stop) → preparation m e.machine h ≡ Err why → is_over e.account ≡ false
      → step eq m e feed h ≡ stepped_to (remembering (bare_record e.machine.core h) (with_turn e.account)) (settlement m e.machine feed h (Err why))
  checked_step why looked within =
      by_turn (with_turn e.account) (settlement m e.machine feed h (Err why)) (bare_record e.machine.core h) (accounted_checked eq m e.machine h why looked e.account within) within
      (turn_checked m e.machine feed h why (ready_parts e h ready).1 looked) (record_checked m e.machine feed h why looked)

  -- ---- steps that run out of words

  abbrev out_with : Account T → Stepped S T
  out_with account = record {
    standing = record e { account = record account { halt = Some halt.TagNumbers } };
    feed = feed;
    ended = ends.TagsOut;
  }

  abbrev out_by : Bool → Account T → List T → Account T → Account T
  out_by over looked served ruled = if over then swept eq (standing_tags m e.machine) looked else swept eq served ruled

  -- the outputs of the rule have no words
  pub out_at_rule : (b c : Account T) → look_counted eq m e.machine h e.account ≡ b → rule_counted eq m e.machine h e.account ≡ c → is_over c ≡ true
      → step eq m e feed h ≡ out_with (swept eq (standing_tags m e.machine) b)
  out_at_rule b c looked_is ruled_is over =
      step_out eq m e feed h ready (accounted_over eq m e.machine h e.account c ruled_is over)
      ∙ λ j. out_with (out_by ((ap is_over ruled_is ∙ over) j) (looked_is j) (served_tags m e.machine h) (rule_counted eq m e.machine h e.account))

  -- ---- steps that come to the rule

  module _ (look : Look) (looked : preparation m e.machine h ≡ Ok look) where
    -- which refused
    pub refused_step : (why : Stop) (b : Account T) → rule_answer m e.machine h look ≡ Err why → look_counted eq m e.machine h e.account ≡ b → is_over b ≡ false
        → step eq m e feed h ≡ stepped_to (remembering (bare_record e.machine.core h) (with_turn b)) (settlement m e.machine feed h (Err why))
    refused_step why b ruled looked_is within =
        by_turn (with_turn b) (settlement m e.machine feed h (Err why)) (bare_record e.machine.core h) (accounted_refused eq m e.machine h look looked why ruled e.account b looked_is within) within
        (turn_refused m e.machine feed h look why (ready_parts e h ready).1 looked ruled) (record_refused m e.machine feed h look looked why ruled)

    -- which allowed
    module _ (outs : Outs T) (job : Result (Option (Job T)) Stop) (ruled : rule_answer m e.machine h look ≡ Ok outs) (planned_is : turn_job m e.machine h look outs ≡ job)
        (b : Account T) (ruled_is : rule_counted eq m e.machine h e.account ≡ b) (within_is : is_over b ≡ false) where
      abbrev served_here : Account T
      served_here = served_ruled eq m e.machine h look looked outs ruled job b

      counted_here : account_after_turn eq m e.machine h e.account ≡ with_turn served_here
      counted_here = accounted_ruled eq m e.machine h look looked outs ruled job e.account b planned_is ruled_is within_is

      pub ruled_step : (c : Account T) → served_here ≡ c → is_over c ≡ false
          → step eq m e feed h ≡ stepped_to (remembering (record_planned m e.machine feed h look job) (with_turn c))
          (settlement m e.machine feed h (job >>= λ j. Ok (turn_effect m e.machine feed h look outs j)))
      ruled_step c served_is within =
          by_turn (with_turn c) (settlement m e.machine feed h (job >>= λ j. Ok (turn_effect m e.machine feed h look outs j))) (record_planned m e.machine feed h look job)
          (counted_here ∙ ap with_turn served_is) within
          (turn_ruled m e.machine feed h look outs (ready_parts e h ready).1 looked ruled
          ∙ ap (λ given. settlement m e.machine feed h (given >>= λ j. Ok (turn_effect m e.machine feed h look outs j))) planned_is)
          (record_ruled m e.machine feed h look looked outs job ruled planned_is)

      -- what the service writes has no words
      pub out_at_service : is_over served_here ≡ true → step eq m e feed h ≡ out_with (swept eq (standing_ruled eq m e.machine h look looked outs ruled) b)
      out_at_service over =
          step_out eq m e feed h ready (ap is_over counted_here ∙ over)
          ∙ λ j. out_with (out_by ((ap is_over ruled_is ∙ within_is) j) (look_counted eq m e.machine h e.account)
          (served_are eq m e.machine h look looked outs ruled j) (ruled_is j))
