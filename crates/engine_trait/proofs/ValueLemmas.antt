-- A turn of a machine that has words leaves one that has words.
use Rattle.std.proofs.Common.{◌≡◌, ℕ, ◌<◌, ◌≤◌, Bool, true, false, ◌⊎◌, inl, inr, All, length, get_or, Option, Some, None, Result, Ok, Err, refl, sym, subst, arith, lit<}
use Rattle.std.proofs.lemmas.Bool.{cases_lt}
use Rattle.std.proofs.lemmas.List.{get_or_past}
use Rattle.std.proofs.lemmas.List.Elements.{All-get_or, All-nil, All-replicate, All-set}
use Rattle.std.proofs.lemmas.Option.{slice_get-get_or}
use Rattle.policy_trait.specs.PolicyLaws.{AreWords, KeepsLaws}
use Rattle.policy_trait.specs.Model.{PolicyModel}
use Rattle.policy_trait.specs.declared.rules.Outs.{Outs}
use Rattle.policy_trait.specs.declared.services.Args.{Args}
use Rattle.policy_trait.specs.declared.services.Plan.{Plan}
use Rattle.policy_trait.specs.declared.services.Words.{Words}
use Rattle.rv_decode.specs.Groups.{a0, a1, a2}
use Rattle.shared_terms.specs.Steps.{◌>>=◌}
use Rattle.tag_memory.specs.Hart.{HartState, fresh_hart, moved_to}
use Rattle.tag_memory.specs.Ram.{RamState, ram_tag, ram_word}
use Rattle.monitor_calls.proofs.JobLemmas.{is_job}
use Rattle.monitor_calls.specs.Ranges.{IsJobOf}
use Rattle.monitor_calls.specs.Service.{Job, new_word}
use Rattle.turn_steps.specs.Feeds.{Tape}
use Rattle.turn_steps.proofs.InstrLemmas.{either_word}
use Rattle.turn_steps.proofs.ValueLemmas.{answer_words, carried_words, looked_words, memory_word, register_word, written_words}
use Rattle.turn_steps.specs.Effects.{Carried}
use Rattle.turn_steps.specs.Looks.{is_call}
use Rattle.turn_steps.specs.Services.{args_on, with_answer, with_words}
use Rattle.turn_steps.specs.Values.{HartHasWords, IsWord, LeavesWords, RamHasWords}
use Rattle.turn_steps.specs.declared.effects.Done.{Done}
use Rattle.turn_steps.specs.declared.effects.Done.TheVariants as done
use Rattle.turn_steps.specs.declared.look.Look.{Look}
use Rattle.turn_steps.specs.declared.stop.Stop.{Stop}
use Rattle.engine_trait.proofs.MachineLemmas.{Prepares, can_plan, plans, prepared_is}
use Rattle.engine_trait.proofs.TurnLemmas.{allowed_turn, planned_turn}
use Rattle.engine_trait.specs.Machine.{CoreState, HasWords, IsMachine, Machine, hart_at, stopping, with_hart}
use Rattle.engine_trait.specs.Turn.{Turned, attempt, carried_at, core_effected, core_ended, core_served, preparation, rule_answer, service_on, settlement, turn_by, turn_effect, turn_job, turn_of}

-- ---- the core

module _ {T : Type 0} (core : CoreState T) (has : HasWords core) where
  -- the hart of any number; one that is not there has zeros
  pub hart_words : (h : ℕ) → HartHasWords (hart_at core h)
  hart_words h = by_place (cases_lt h (length core.harts))
    where
      default : HartState T
      default = fresh_hart 0 core.ram.plain core.ram.plain

      by_place : (h < length core.harts) ⊎ (length core.harts ≤ h) → HartHasWords (get_or core.harts h default)
      by_place (inl below) = All-get_or (λ (hart : HartState T). HartHasWords hart) core.harts h default below has.harts
      by_place (inr past) =
          subst (λ (hart : HartState T). HartHasWords hart) (sym (get_or_past core.harts h default past)) (All-replicate IsWord 31 0 (lit< tt))

  with_hart_words : (h : ℕ) (hart : HartState T) (ram : RamState T) → HartHasWords hart → RamHasWords ram → HasWords (with_hart core h hart ram)
  with_hart_words h hart ram hart_has ram_has = record {
    harts = All-set (λ (hart : HartState T). HartHasWords hart) core.harts h hart hart_has has.harts;
    ram = ram_has;
  }

  stopping_words : (h : ℕ) (why : Stop) → HasWords (stopping core h why)
  stopping_words h why = record { harts = has.harts; ram = has.ram }

ended_words : {T : Type 0} (core : CoreState T) (h : ℕ) (carried : Carried T) (end : Done) → HasWords (with_hart core h carried.hart carried.ram)
    → HasWords (core_ended core h carried end)
ended_words core h carried (done.Stepped byte) has = has
ended_words core h carried done.Broke has = has
ended_words core h carried (done.Exited code) has = stopping_words (with_hart core h carried.hart carried.ram) has h _

-- ---- the turn

module _ {S T : Type 0} (m : PolicyModel T S) (holds : S → Type 0) (laws : KeepsLaws m holds) (s : Machine S T) (valid : holds s.policy)
    (is : IsMachine m s) (has : HasWords s.core) (feed : Tape) (h : ℕ) where
  abbrev hart : HartState T
  hart = hart_at s.core h

  abbrev arguments : Args T
  arguments = args_on hart s.core.ram

  arguments_are : AreWords arguments
  arguments_are = record {
    a0 = register_word hart a0 (hart_words s.core has h);
    a1 = register_word hart a1 (hart_words s.core has h);
    a2 = register_word hart a2 (hart_words s.core has h);
    ram = let few : length s.core.ram.words ≤ 4194304 = is.ram.shape.few in omega (arith, few);
  }

  -- ---- a service

  abbrev IsJob : Look → Outs T → Job T → Type 0
  IsJob look outs job = IsJobOf m s.policy (ram_word s.core.ram) (ram_tag s.core.ram) look.service arguments outs.pc job

  new_value : (plan : Plan T) (address : ℕ) → IsWord (new_word plan (ram_word s.core.ram address))
  new_value plan address = either_word plan.zero 0 (ram_word s.core.ram address) (lit< tt) (memory_word s.core.ram address has.ram)

  job_values : (look : Look) (outs : Outs T) (job : Job T) → IsJob look outs job → All (λ (word : ℕ × ℕ × T). IsWord word.1) job.words
  job_values look outs job given = by_range job.plan.range refl
    where
      by_range : (range : Option Words) → job.plan.range ≡ range → All (λ (word : ℕ × ℕ × T). IsWord word.1) job.words
      by_range None none =
          subst (All (λ (word : ℕ × ℕ × T). IsWord word.1)) (sym (given.rangeless none)) (All-nil (λ (word : ℕ × ℕ × T). IsWord word.1))
      by_range (Some range) some =
          let each = given.ranged range some in
          λ k default below.
          subst IsWord (sym (each.values k (get_or job.words k default) (slice_get-get_or job.words k default below))) (new_value job.plan _)

  served_words : (look : Look) (outs : Outs T) (job : Job T) (next : ℕ) (tag : T) → Prepares m s h look → turn_job m s h look outs ≡ Ok (Some job)
      → HasWords (core_served s.core h job.words job.plan.answer next tag)
  unfolding turn_job service_on core_served
  served_words look outs job next tag found e =
      let parts = plans (is_call look.group) (service_on m s h look outs) hart.pc look.service job e in
      let given = is_job m s.policy (ram_word s.core.ram) (ram_tag s.core.ram) look.service arguments outs.pc job parts.1 in
      let answer = laws.words s.policy look.service arguments outs.pc job.plan (can_plan m s h is look found parts.0) valid arguments_are given.planned in
      with_hart_words s.core has h (moved_to (with_answer hart job.plan.answer) next tag) (with_words s.core.ram job.words)
      (answer_words hart job.plan.answer answer (hart_words s.core has h))
      (written_words s.core.ram job.words (job_values look outs job given) has.ram)

  -- ---- any other instruction

  effected_words : (look : Look) (outs : Outs T) → Prepares m s h look → HasWords (core_effected s.core feed h look outs)
  unfolding carried_at core_effected
  effected_words look outs found =
      let carried = carried_at s.core feed h look outs in
      let gives = looked_words hart s.core.ram look (hart_words s.core has h) found.looked_is in
      let left : LeavesWords carried = carried_words hart s.core.ram look outs gives (hart_words s.core has h) has.ram feed in
      ended_words s.core h carried carried.done (with_hart_words s.core has h carried.hart carried.ram left.hart left.ram)

  -- ---- each end

  abbrev HasWordsBy : Result (Turned S T) Stop → Type 0
  HasWordsBy r = HasWords (settlement m s feed h r).machine.core

  failed_words : (why : Stop) → HasWordsBy (Err why)
  failed_words why = stopping_words s.core has h why

  job_words : (look : Look) (outs : Outs T) (job : Option (Job T)) → Prepares m s h look → turn_job m s h look outs ≡ Ok job
      → HasWordsBy (Ok (turn_effect m s feed h look outs job))
  job_words look outs (Some job) found e = served_words look outs job look.effect.next outs.pc found e
  job_words look outs None found e = effected_words look outs found

  planned_words : (look : Look) (outs : Outs T) (job : Result (Option (Job T)) Stop) → Prepares m s h look → turn_job m s h look outs ≡ job
      → HasWordsBy (job >>= λ j. Ok (turn_effect m s feed h look outs j))
  planned_words look outs (Ok job) found e = job_words look outs job found e
  planned_words look outs (Err why) found e = failed_words why

  allowed_words : (look : Look) (answer : Result (Outs T) Stop) → Prepares m s h look → HasWordsBy (answer >>= planned_turn m s feed h look)
  allowed_words look (Ok outs) found = planned_words look outs (turn_job m s h look outs) found refl
  allowed_words look (Err why) found = failed_words why

  prepared_words : (found : Result Look Stop) → preparation m s h ≡ found → HasWordsBy (found >>= allowed_turn m s feed h)
  prepared_words (Ok look) e = allowed_words look (rule_answer m s h look) (prepared_is m s h look e)
  prepared_words (Err why) e = failed_words why

  attempt_words : HasWordsBy (attempt m s feed h)
  unfolding attempt
  attempt_words = prepared_words (preparation m s h) refl

  turn_words_by : (ready : Bool) → HasWords (turn_by m s feed h ready).machine.core
  turn_words_by true = attempt_words
  turn_words_by false = has

  pub turn_words : HasWords (turn_of m s feed h).machine.core
  unfolding turn_of
  turn_words = turn_words_by _
