-- What the events of a run tell: its moments, the retired turns of each hart, and the services that were carried out.
use Rattle.std.specs.Prelude.{◌≡◌, ℕ, ◌==◌, Bool, true, false, ◌&&◌, List, [], ◌∷◌, ◌++◌, Option, Some, None}
use Rattle.std.specs.List.{filter}
use Rattle.rv_decode.specs.Decoding.{instr_of_word}
use Rattle.rv_decode.specs.declared.instructions.Instr.{Instr}
use Rattle.rv_decode.specs.declared.instructions.Instr.TheVariants.{Jal, Jalr}
use Rattle.policy_trait.specs.declared.services.Answer.{Answer}
use Rattle.policy_trait.specs.declared.services.Args.{Args}
use Rattle.policy_trait.specs.declared.services.Words.{Words}
use Rattle.engine_trait.specs.Events.{Call, Event, Work, is_retirement}

-- one turn of a run, with the turns before it
pub record Moment {T : Type 0} (events : List (Event T)) : Type 0 where
  pub before : List (Event T)
  pub event : Event T
  pub later : List (Event T)
  pub parts : before ++ event ∷ later ≡ events

-- ---- the retired turns of a hart

abbrev pub is_turn_of : {T : Type 0} → ℕ → Event T → Bool
is_turn_of h event = is_retirement event && (event.hart == h)

abbrev pub turns_of : {T : Type 0} → ℕ → List (Event T) → List (Event T)
turns_of h events = filter (is_turn_of h) events

-- a hart's first retired turn
pub record First {T : Type 0} (events : List (Event T)) : Type 0 where
  pub moment : Moment events
  pub is_retired : is_retirement moment.event ≡ true
  pub none_before : turns_of moment.event.hart moment.before ≡ []

-- two successive retired turns of one hart: none of that hart's stands between them
pub record Successive {T : Type 0} (events : List (Event T)) : Type 0 where
  pub before : List (Event T)
  pub first : Event T
  pub between : List (Event T)
  pub second : Event T
  pub later : List (Event T)
  pub parts : before ++ first ∷ (between ++ second ∷ later) ≡ events
  pub first_retired : is_retirement first ≡ true
  pub second_retired : is_retirement second ≡ true
  pub one_hart : second.hart ≡ first.hart
  pub none_between : turns_of first.hart between ≡ []

-- ---- words

abbrev pub is_jalr_instr : Option Instr → Bool
is_jalr_instr (Some (Jalr rd rs1 imm)) = true
is_jalr_instr _ = false

abbrev pub is_jal_instr : Option Instr → Bool
is_jal_instr (Some (Jal rd imm)) = true
is_jal_instr _ = false

-- the word of a JALR, and of a JAL
unfoldable pub is_jalr : ℕ → Bool
is_jalr word = is_jalr_instr (instr_of_word word)

unfoldable pub is_jal : ℕ → Bool
is_jal word = is_jal_instr (instr_of_word word)

-- ---- services

-- a policy's service that was carried out: its number and arguments, its range, whether that became zero, and its answer
pub record Service (T : Type 0) : Type 0 where
  pub number : ℕ
  pub arguments : Args T
  pub range : Option Words
  pub zero : Bool
  pub answer : Option (Answer T)

abbrev pub service_by : {T : Type 0} → Option (Call T) → Option (Work T) → Option (Service T)
service_by None work = None
service_by (Some call) None = None
service_by (Some call) (Some work) =
    Some (record { number = call.number; arguments = call.arguments; range = work.range; zero = work.zero; answer = work.answer })

-- what an event tells of it; only a retired turn does
abbrev pub service_of : {T : Type 0} → Event T → Option (Service T)
service_of event = service_by event.call event.work
