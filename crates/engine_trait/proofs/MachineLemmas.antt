-- A turn leaves a sound machine.
use Rattle.std.proofs.Common.{◌≡◌, ℕ, ◌%◌, ◌<◌, ◌≤◌, Bool, true, false, List, All, length, Option, Some, None, Result, Ok, Err, refl, ap, sym, ◌∙◌, subst, not, ◌||◌, if◌then◌else◌}
use Rattle.std.proofs.lemmas.Bool.{and_parts, ltb-true}
use Rattle.std.proofs.lemmas.List.{length-set}
use Rattle.std.proofs.lemmas.List.Elements.{All-get_or, All-set}
use Rattle.rv_step.specs.declared.faults.Fault.{Fault}
use Rattle.policy_trait.specs.PolicyLaws.{KeepsLaws}
use Rattle.policy_trait.specs.Model.{CanPlan, IsGiven, PolicyModel}
use Rattle.shared_terms.specs.Steps.{◌>>=◌}
use Rattle.policy_trait.specs.declared.rules.Outs.{Outs}
use Rattle.policy_trait.specs.declared.services.Answer.{Answer}
use Rattle.policy_trait.specs.declared.services.Plan.{Plan}
use Rattle.policy_trait.specs.declared.services.PlanEnd.{PlanEnd}
use Rattle.tag_memory.specs.Hart.{HartState, IsHartOf, fresh_hart}
use Rattle.tag_memory.specs.Ram.{IsRamOf, RamState, ram_bytes, ram_tag, ram_word}
use Rattle.monitor_calls.proofs.JobLemmas.{job_given}
use Rattle.monitor_calls.specs.Service.{Job}
use Rattle.turn_steps.specs.Effects.{Carried, IsSound}
use Rattle.turn_steps.specs.Feeds.{Tape}
use Rattle.turn_steps.specs.Looks.{is_call, look_result}
use Rattle.turn_steps.specs.Services.{args_on}
use Rattle.turn_steps.specs.declared.effects.Done.{Done}
use Rattle.turn_steps.specs.declared.effects.Done.TheVariants as done
use Rattle.turn_steps.specs.declared.look.Look.{Look}
use Rattle.turn_steps.specs.declared.stop.Stop.{Stop}
use Rattle.turn_steps.proofs.KeptLemmas.{answered_keeps, carried_keeps, words_bytes, words_keep}
use Rattle.turn_steps.proofs.LookLemmas.{looked_is_sound}
use Rattle.engine_trait.proofs.TurnLemmas.{allowed_turn, planned_turn}
use Rattle.engine_trait.specs.EngineLaws.{StaysMachine}
use Rattle.engine_trait.specs.Machine.{CoreState, IsCore, IsMachine, Machine, has_no_stop, hart_at, is_ready_in, stop_at, stopping, with_hart}
use Rattle.engine_trait.specs.Turn.{Turned, attempt, carried_at, core_effected, core_ended, core_served, is_offered, may_look, or_fault, or_unserved, or_violation, preparation, rule_answer, service_look, service_on, settlement, stopped_at, turn_by, turn_effect, turn_job, turn_of}

-- ---- the core

-- as many harts, as much memory, and each as it should be
pub record StaysCore {T : Type 0} (plain : T) (old new : CoreState T) : Type 0 where
  pub core : IsCore new
  pub harts : All (IsHartOf plain) new.harts
  pub ram : IsRamOf plain new.ram
  pub count : length new.harts ≡ length old.harts
  pub bytes : ram_bytes new.ram ≡ ram_bytes old.ram

with_hart_stays : {T : Type 0} (plain : T) (core : CoreState T) (h : ℕ) (hart : HartState T) (ram : RamState T) → IsCore core → All (IsHartOf plain) core.harts
    → IsHartOf plain hart → IsRamOf plain ram → ram_bytes ram ≡ ram_bytes core.ram → StaysCore plain core (with_hart core h hart ram)
with_hart_stays plain core h hart ram is all hart_is ram_is same =
    let count : length (with_hart core h hart ram).harts ≡ length core.harts = length-set core.harts h hart in
    record {
      core = record { some = subst (λ n. 1 ≤ n) (sym count) is.some; few = subst (λ n. n ≤ 8) (sym count) is.few; stops = is.stops };
      harts = All-set (IsHartOf plain) core.harts h hart hart_is all;
      ram = ram_is;
      count = count;
      bytes = same;
    }

stopping_stays : {T : Type 0} (plain : T) (core new : CoreState T) (h : ℕ) (why : Stop) → StaysCore plain core new → StaysCore plain core (stopping new h why)
stopping_stays plain core new h why stays = record {
  core = record { some = stays.core.some; few = stays.core.few; stops = length-set new.stops h (Some why) ∙ stays.core.stops };
  harts = stays.harts;
  ram = stays.ram;
  count = stays.count;
  bytes = stays.bytes;
}

ended_stays : {T : Type 0} (plain : T) (core : CoreState T) (h : ℕ) (carried : Carried T) (end : Done) → StaysCore plain core (with_hart core h carried.hart carried.ram)
    → StaysCore plain core (core_ended core h carried end)
ended_stays plain core h carried (done.Stepped byte) stays = stays
ended_stays plain core h carried done.Broke stays = stays
ended_stays plain core h carried (done.Exited code) stays = stopping_stays plain core (with_hart core h carried.hart carried.ram) h _ stays

-- ---- the machine

module _ {S T : Type 0} (m : PolicyModel T S) (s : Machine S T) (is : IsMachine m s) where
  core_stays : StaysCore (m.plain s.policy) s.core s.core
  core_stays = record { core = is.core; harts = is.harts; ram = is.ram; count = refl; bytes = refl }

  pub hart_is : (h : ℕ) → h < length s.core.harts → IsHartOf (m.plain s.policy) (hart_at s.core h)
  hart_is h there = All-get_or (IsHartOf (m.plain s.policy)) s.core.harts h (fresh_hart 0 s.core.ram.plain s.core.ram.plain) there is.harts

  -- with a policy of the same plain tag and room
  machine_stays : (policy : S) (core : CoreState T) → m.plain policy ≡ m.plain s.policy → m.room policy ≡ m.room s.policy → StaysCore (m.plain s.policy) s.core core
      → StaysMachine m s (record { policy = policy; core = core })
  machine_stays policy core plain room stays = record {
    machine = record {
      core = stays.core;
      harts = subst (λ tag. All (IsHartOf tag) core.harts) (sym plain) stays.harts;
      ram = subst (λ tag. IsRamOf tag core.ram) (sym plain) stays.ram;
      room = subst (λ n. n ≤ ram_bytes core.ram) (sym room) (subst (λ n. m.room s.policy ≤ n) (sym stays.bytes) is.room);
    };
    harts = stays.count;
    ram = stays.bytes;
    plain = plain;
  }

  pub idle_stays : StaysMachine m s s
  idle_stays = record { machine = is; harts = refl; ram = refl; plain = refl }

  pub stopped_stays : (h : ℕ) (why : Stop) → StaysMachine m s (stopped_at s h why)
  stopped_stays h why = machine_stays s.policy (stopping s.core h why) refl refl (stopping_stays (m.plain s.policy) s.core s.core h why core_stays)

  pub effected_stays : (feed : Tape) (h : ℕ) (look : Look) (outs : Outs T) → h < length s.core.harts → IsSound (ram_bytes s.core.ram) look.effect
      → StaysMachine m s (record s { core = core_effected s.core feed h look outs })
  unfolding carried_at core_effected
  effected_stays feed h look outs there sound =
      let carried = carried_at s.core feed h look outs in
      let kept = carried_keeps (m.plain s.policy) (hart_at s.core h) s.core.ram feed look outs sound (hart_is h there) is.ram in
      machine_stays s.policy (core_effected s.core feed h look outs) refl refl
      (ended_stays (m.plain s.policy) s.core h carried carried.done
      (with_hart_stays (m.plain s.policy) s.core h carried.hart carried.ram is.core is.harts kept.hart kept.ram kept.bytes))

  pub served_stays : (holds : S → Type 0) → KeepsLaws m holds → (h : ℕ) (plan : Plan T) (words : List (ℕ × ℕ × T)) (answer : Option (Answer T)) (next : ℕ) (tag : T)
      → h < length s.core.harts → next % 4 ≡ 0 → IsGiven m s.policy plan
      → StaysMachine m s (record { policy = m.commit s.policy plan; core = core_served s.core h words answer next tag })
  unfolding core_served
  served_stays holds laws h plan words answer next tag there aligned given =
      let same = laws.keeps s.policy plan given in
      machine_stays (m.commit s.policy plan) (core_served s.core h words answer next tag) same.plain same.room
      (with_hart_stays (m.plain s.policy) s.core h _ _ is.core is.harts
      (answered_keeps (m.plain s.policy) (hart_at s.core h) answer next tag aligned (hart_is h there))
      (words_keep (m.plain s.policy) s.core.ram words is.ram)
      (words_bytes s.core.ram words))

-- ---- the turn

-- what is looked at was looked at, and its service is offered
pub record Prepares {S T : Type 0} (m : PolicyModel T S) (s : Machine S T) (h : ℕ) (look : Look) : Type 0 where
  pub looked_is : look_result (hart_at s.core h) s.core.ram ≡ Ok look
  pub offered_is : is_offered m s look ≡ true

-- a call that is planned is a call, and its service gives that job
pub plans : {T : Type 0} (test : Bool) (given : Result (Job T) PlanEnd) (pc service : ℕ) (job : Job T) → (if test then or_unserved pc service given else Ok None) ≡ Ok (Some job)
    → (test ≡ true) × (given ≡ Ok job)
plans true (Ok given) pc service job e = (refl, cc)
plans true (Err end) pc service job e = absurd cc
plans false given pc service job e = absurd cc

module _ {S T : Type 0} (m : PolicyModel T S) (s : Machine S T) (h : ℕ) where
  offers : (test : Bool) (found look : Look) (why : Stop) → is_offered m s found ≡ test → (if test then Ok found else Err why) ≡ Ok look → (found ≡ look) × (is_offered m s found ≡ true)
  offers true found look why is e = (cc, is)
  offers false found look why is e = absurd cc

  prepares : (found : Result Look Fault) (look : Look) → (or_fault found >>= service_look m s) ≡ Ok look → (found ≡ Ok look) × (is_offered m s look ≡ true)
  prepares (Ok found) look e =
      let parts = offers (is_offered m s found) found look _ refl e in
      (ap (λ l. Ok l) parts.0, subst (λ l. is_offered m s l ≡ true) parts.0 parts.1)
  prepares (Err fault) look e = absurd cc

  seen_prepares : (seen : Result (Unit {0}) Stop) (found : Result Look Fault) (look : Look) → (seen >>= λ x. or_fault found >>= service_look m s) ≡ Ok look
      → (found ≡ Ok look) × (is_offered m s look ≡ true)
  seen_prepares (Ok x) found look e = prepares found look e
  seen_prepares (Err why) found look e = absurd cc

  pub prepared_is : (look : Look) → preparation m s h ≡ Ok look → Prepares m s h look
  unfolding preparation
  prepared_is look e =
      let parts = seen_prepares (or_violation (hart_at s.core h).pc (may_look m s h)) (look_result (hart_at s.core h) s.core.ram) look e in
      record { looked_is = parts.0; offered_is = parts.1 }

  -- ---- a call of a policy's service that nothing refuses

  pub known_call : (look : Look) → Prepares m s h look → is_call look.group ≡ true → m.knows s.policy look.service ≡ true
  known_call look found call = sym (ap (λ is_so. not is_so || m.knows s.policy look.service) call) ∙ found.offered_is

  pub can_plan : IsMachine m s → (look : Look) → Prepares m s h look → is_call look.group ≡ true
      → CanPlan m s.policy look.service (args_on (hart_at s.core h) s.core.ram)
  can_plan is look found call = record { known = known_call look found call; room = is.room }

  pub planned_given : (holds : S → Type 0) → KeepsLaws m holds → IsMachine m s → (look : Look) (outs : Outs T) (job : Job T) → Prepares m s h look
      → turn_job m s h look outs ≡ Ok (Some job) → IsGiven m s.policy job.plan
  unfolding turn_job service_on
  planned_given holds laws is look outs job found e =
      let parts = plans (is_call look.group) (service_on m s h look outs) (hart_at s.core h).pc look.service job e in
      job_given m s.policy (ram_word s.core.ram) (ram_tag s.core.ram) look.service (args_on (hart_at s.core h) s.core.ram) outs.pc holds laws job
      (can_plan is look found parts.0) parts.1

-- ---- the whole turn

-- a sound machine still, whose policy keeps its invariant
pub record Keeps {S T : Type 0} (m : PolicyModel T S) (holds : S → Type 0) (s n : Machine S T) : Type 0 where
  pub stays : StaysMachine m s n
  pub valid : holds n.policy

module _ {S T : Type 0} (m : PolicyModel T S) (holds : S → Type 0) (laws : KeepsLaws m holds) (s : Machine S T) (valid : holds s.policy) (is : IsMachine m s) (feed : Tape) (h : ℕ) where
  abbrev KeepsBy : Result (Turned S T) Stop → Type 0
  KeepsBy r = Keeps m holds s (settlement m s feed h r).machine

  stop_keeps : (why : Stop) → KeepsBy (Err why)
  stop_keeps why = record { stays = stopped_stays m s is h why; valid = valid }

  there : is_ready_in s.core h ≡ true → h < length s.core.harts
  there ready = ltb-true h (length s.core.harts) (and_parts _ (has_no_stop (stop_at s.core h)) ready).0

  module _ (ready : is_ready_in s.core h ≡ true) (look : Look) (found : Prepares m s h look) where
    sound_look : IsSound (ram_bytes s.core.ram) look.effect
    sound_look = looked_is_sound (hart_at s.core h) s.core.ram look (hart_is m s is h (there ready)).shape found.looked_is

    job_keeps : (outs : Outs T) (job : Option (Job T)) → turn_job m s h look outs ≡ Ok job → KeepsBy (Ok (turn_effect m s feed h look outs job))
    job_keeps outs (Some job) e =
        let given = planned_given m s h holds laws is look outs job found e in
        record {
          stays = served_stays m s is holds laws h job.plan job.words job.plan.answer look.effect.next outs.pc (there ready) sound_look.to_word given;
          valid = laws.stays s.policy job.plan given valid;
        }
    job_keeps outs None e = record { stays = effected_stays m s is feed h look outs (there ready) sound_look; valid = valid }

    planned_keeps : (outs : Outs T) (job : Result (Option (Job T)) Stop) → turn_job m s h look outs ≡ job → KeepsBy (job >>= λ j. Ok (turn_effect m s feed h look outs j))
    planned_keeps outs (Ok job) e = job_keeps outs job e
    planned_keeps outs (Err why) e = stop_keeps why

    allowed_keeps : (answer : Result (Outs T) Stop) → KeepsBy (answer >>= planned_turn m s feed h look)
    allowed_keeps (Ok outs) = planned_keeps outs (turn_job m s h look outs) refl
    allowed_keeps (Err why) = stop_keeps why

  prepared_keeps : is_ready_in s.core h ≡ true → (found : Result Look Stop) → preparation m s h ≡ found → KeepsBy (found >>= allowed_turn m s feed h)
  prepared_keeps ready (Ok look) e = allowed_keeps ready look (prepared_is m s h look e) (rule_answer m s h look)
  prepared_keeps ready (Err why) e = stop_keeps why

  attempt_keeps : is_ready_in s.core h ≡ true → KeepsBy (attempt m s feed h)
  unfolding attempt
  attempt_keeps ready = prepared_keeps ready (preparation m s h) refl

  turn_keeps_by : (ready : Bool) → is_ready_in s.core h ≡ ready → Keeps m holds s (turn_by m s feed h ready).machine
  turn_keeps_by true ready = attempt_keeps ready
  turn_keeps_by false waits = record { stays = idle_stays m s is; valid = valid }

  pub turn_keeps : Keeps m holds s (turn_of m s feed h).machine
  unfolding turn_of
  turn_keeps = turn_keeps_by (is_ready_in s.core h) refl
