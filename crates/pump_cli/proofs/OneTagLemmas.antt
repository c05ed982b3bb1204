-- An engine that keeps rules, under a policy with one tag: each turn leaves an account where just that tag has a word.
use Rattle.std.proofs.Common.{◌≡◌, ℕ, ◌≤◌, ◌||◌, Bool, true, false, List, [], ◌∷◌, All, length, Option, Some, None, Result, Ok, Err, suc, refl, ap, sym, subst, ◌∙◌, ◌==◌, if◌then◌else◌, arith}
use Rattle.std.proofs.lemmas.Bool.{le-ltb}
use Rattle.std.proofs.lemmas.List.Elements.{All-cons, All-nil}
use Rattle.rv_decode.specs.declared.groups.Group.{Group}
use Rattle.policy_trait.specs.Model.{PolicyModel}
use Rattle.shared_terms.specs.Steps.{◌>>=◌}
use Rattle.policy_trait.specs.declared.birth.Birth.{Birth}
use Rattle.policy_trait.specs.declared.rules.Ins.{Ins}
use Rattle.policy_trait.specs.declared.rules.Outs.{Outs}
use Rattle.monitor_calls.specs.Service.{Job}
use Rattle.turn_steps.specs.declared.look.Look.{Look}
use Rattle.turn_steps.specs.declared.stop.Stop.{Stop}
use Rattle.engine_trait.specs.Accounts.{Account, Key, account_after_turn, after_look, after_rule, after_service, is_kept, is_over, keeping, key_of, look_counted, looked_up, rule_counted, rule_kept, seeing, served_tags, service_counted, standing_tags, with_room, with_tag, with_tags}
use Rattle.shared_terms.specs.Counts.{next_count}
use Rattle.engine_trait.specs.Machine.{Machine, hart_at}
use Rattle.engine_trait.specs.Turn.{job_at, or_violation, preparation, rule_answer, rule_inputs}
use Rattle.engine_trait.proofs.MirrorLemmas.{prepared_own}
use Rattle.engine_trait.proofs.RoomLemmas.{room_kept}
use Rattle.engine_trait.proofs.TurnLemmas.{planned_own}

-- the policy allows everything and offers no service, and each tag that it gives is the plain one, which is the same as itself
pub record HasOneTag {S T : Type 0} (eq : T → T → Bool) (m : PolicyModel T S) (s : S) : Type 0 where
  pub same : eq (m.plain s) (m.plain s) ≡ true
  pub rule : (g : Group) (x : Ins T) → m.rule s g x ≡ Ok (record { pc = m.plain s; result = m.plain s })
  pub offers_none : (k : ℕ) → m.knows s k ≡ false
  pub start_pc : (b : Birth) → m.start_pc s b ≡ m.plain s
  pub start_word : (b : Birth) → m.start_word s b ≡ m.plain s

-- this tag alone has a word, and it may
pub record HasOneWord {T : Type 0} (plain : T) (account : Account T) : Type 0 where
  pub table : account.table ≡ plain ∷ []
  pub some_tags : 1 ≤ account.limit

-- ---- accounts

module _ {T : Type 0} (eq : T → T → Bool) (plain : T) (same : eq plain plain ≡ true) where
  -- a tag that has a word gets no other one
  known_already : (tag : T) → tag ≡ plain → with_tag eq (plain ∷ []) tag ≡ plain ∷ []
  known_already tag is =
      ap (λ other. if eq other plain || false then plain ∷ [] else plain ∷ other ∷ []) is
      ∙ ap (λ (known : Bool). if known || false then plain ∷ [] else plain ∷ plain ∷ []) same

  -- nor do many
  pub with_plain : (tags : List T) → All (λ tag. tag ≡ plain) tags → with_tags eq (plain ∷ []) tags ≡ plain ∷ []
  with_plain [] all = refl
  with_plain (tag ∷ tags) all =
      ap (λ seen. with_tags eq seen tags) (known_already tag (all 0 tag (omega arith)))
      ∙ with_plain tags (λ k d below. all (suc k) d (omega (arith, below)))

  seeing_plain : (a : Account T) (tags : List T) → All (λ tag. tag ≡ plain) tags → HasOneWord plain a → HasOneWord plain (seeing eq tags a)
  seeing_plain a tags all one = either (a.ways == 0)
    where
      either : (test : Bool) → HasOneWord plain (if test then a else record a { table = with_tags eq a.table tags })
      either true = one
      either false = record { table = ap (λ seen. with_tags eq seen tags) one.table ∙ with_plain tags all; some_tags = one.some_tags }

  looked_up_plain : (key : Key T) (a : Account T) → HasOneWord plain a → HasOneWord plain (looked_up eq key a)
  looked_up_plain key a one = either (is_kept eq key a)
    where
      either : (test : Bool) → HasOneWord plain (if test then record (keeping eq key a) { hits = next_count a.hits } else record a { misses = next_count a.misses })
      either true = record { table = one.table; some_tags = one.some_tags }
      either false = record { table = one.table; some_tags = one.some_tags }

  rule_kept_plain : {E : Type 0} (key : Key T) (a : Account T) (answer : Result (Outs T) E) → answer ≡ Ok (record { pc = plain; result = plain }) → HasOneWord plain a
      → HasOneWord plain (rule_kept eq key answer a)
  rule_kept_plain {E} key a answer is one =
      subst (λ (given : Result (Outs T) E). HasOneWord plain (rule_kept eq key given a)) (sym is)
      (seeing_plain (keeping eq key a) (plain ∷ plain ∷ []) both_plain (record { table = one.table; some_tags = one.some_tags }))
    where
      both_plain : All (λ tag. tag ≡ plain) (plain ∷ plain ∷ [])
      both_plain = All-cons (λ tag. tag ≡ plain) plain (plain ∷ []) refl (All-cons (λ tag. tag ≡ plain) plain [] refl (All-nil (λ tag. tag ≡ plain)))

  -- so it never runs out
  pub within : (a : Account T) → HasOneWord plain a → is_over a ≡ false
  within a one = le-ltb a.limit (length a.table) (let single : length a.table ≡ 1 = ap length one.table in let some = one.some_tags in omega (arith, single, some))

-- ---- a turn

module _ {S T : Type 0} (eq : T → T → Bool) (m : PolicyModel T S) (s : Machine S T) (one_tag : HasOneTag eq m s.policy) (h : ℕ) where
  -- ---- it has no work of a service

  abbrev IsNoWork : Result (Option (Job T)) Stop → Type 0
  IsNoWork (Ok (Some job)) = ⊥
  IsNoWork (Ok None) = Unit {0}
  IsNoWork (Err why) = Unit {0}

  steps_no_work : {A : Type 0} (first : Result A Stop) (rest : A → Result (Option (Job T)) Stop) → ((x : A) → first ≡ Ok x → IsNoWork (rest x)) → IsNoWork (first >>= rest)
  steps_no_work (Ok x) rest each = each x refl
  steps_no_work (Err why) rest each = tt

  no_work : IsNoWork (job_at m s h)
  unfolding job_at
  no_work =
      steps_no_work (preparation m s h) _ λ look look-is.
      steps_no_work (rule_answer m s h look) _ λ outs outs-is.
      subst IsNoWork (sym (planned_own m s h look outs (prepared_own m s one_tag.offers_none h look look-is))) tt

  -- ---- its account

  allowed_plain : (look : Look) → rule_answer m s h look ≡ Ok (record { pc = m.plain s.policy; result = m.plain s.policy })
  unfolding rule_answer
  allowed_plain look = ap (or_violation (hart_at s.core h).pc) (one_tag.rule look.group (rule_inputs s.core h look))

  abbrev OneWord : Account T → Type 0
  OneWord account = HasOneWord (m.plain s.policy) account

  after_look_plain : (found : Result Look Stop) (a : Account T) → OneWord a → OneWord (after_look eq m s h found a)
  after_look_plain (Ok look) a one = looked_up_plain eq (m.plain s.policy) one_tag.same (key_of eq m s h look) a one
  after_look_plain (Err why) a one = one

  after_rule_plain : (found : Result Look Stop) (a : Account T) → OneWord a → OneWord (after_rule eq m s h found a)
  after_rule_plain (Ok look) a one = rule_kept_plain eq (m.plain s.policy) one_tag.same (key_of eq m s h look) a (rule_answer m s h look) (allowed_plain look) one
  after_rule_plain (Err why) a one = one

  after_service_plain : (job : Result (Option (Job T)) Stop) (a : Account T) → IsNoWork job → OneWord a → OneWord (after_service eq m s h job a)
  after_service_plain (Ok (Some job)) a none one = absurd none
  after_service_plain (Ok None) a none one = one
  after_service_plain (Err why) a none one = one

  look_counted_plain : (a : Account T) → OneWord a → OneWord (look_counted eq m s h a)
  unfolding look_counted
  look_counted_plain a one = after_look_plain (preparation m s h) a one

  -- so there is room without a sweep
  room_plain : (standing : List T) (step : Account T → Account T) (a : Account T) → OneWord (step a) → OneWord (with_room eq standing step a)
  room_plain standing step a one =
      subst OneWord (sym (room_kept eq standing step a (within eq (m.plain s.policy) one_tag.same (step a) one))) one

  rule_counted_plain : (a : Account T) → OneWord a → OneWord (rule_counted eq m s h a)
  unfolding rule_counted
  rule_counted_plain a one =
      room_plain (standing_tags m s) (after_rule eq m s h (preparation m s h)) (look_counted eq m s h a)
      (after_rule_plain (preparation m s h) (look_counted eq m s h a) (look_counted_plain a one))

  service_counted_plain : (a : Account T) → OneWord a → OneWord (service_counted eq m s h a)
  unfolding service_counted
  service_counted_plain a one =
      room_plain (served_tags m s h) (after_service eq m s h (job_at m s h)) (rule_counted eq m s h a)
      (after_service_plain (job_at m s h) (rule_counted eq m s h a) no_work (rule_counted_plain a one))

  -- whatever the turn came to
  pub accounted_plain : (a : Account T) → OneWord a → OneWord (account_after_turn eq m s h a)
  unfolding account_after_turn
  accounted_plain a one =
      let counted = either (is_over (rule_counted eq m s h a)) in
      record { table = counted.table; some_tags = counted.some_tags }
    where
      either : (over : Bool) → OneWord (if over then rule_counted eq m s h a else service_counted eq m s h a)
      either true = rule_counted_plain a one
      either false = service_counted_plain a one
