-- What an event tells without the values that may be secret.
use Rattle.std.specs.Prelude.{ℕ, Bool, Option, option_map}
use Rattle.policy_trait.specs.declared.services.Answer.{Answer}
use Rattle.policy_trait.specs.declared.services.Words.{Words}
use Rattle.engine_trait.specs.Events.{Asked, Call, Event, Touch, Work}
use Rattle.engine_trait.specs.declared.ends.TurnEnd.{TurnEnd}

-- a call without its values: the number, and the tags of the arguments
pub record CallOutline (T : Type 0) : Type 0 where
  pub number : ℕ
  pub t0 : T
  pub t1 : T
  pub t2 : T

-- what a service did, without the value of its answer
pub record WorkOutline (T : Type 0) : Type 0 where
  pub range : Option Words
  pub zero : Bool
  pub tag : Option T

-- the hart and its pc, how the turn ended, what its rule was asked with, the access, the service that was called and what it did
pub record Outline (T : Type 0) : Type 0 where
  pub hart : ℕ
  pub pc : ℕ
  pub ended : TurnEnd
  pub asked : Option (Asked T)
  pub access : Option Touch
  pub call : Option (CallOutline T)
  pub work : Option (WorkOutline T)

abbrev pub call_outline : {T : Type 0} → Call T → CallOutline T
call_outline call = record { number = call.number; t0 = call.arguments.t0; t1 = call.arguments.t1; t2 = call.arguments.t2 }

abbrev pub work_outline : {T : Type 0} → Work T → WorkOutline T
work_outline work = record { range = work.range; zero = work.zero; tag = option_map (λ (answer : Answer _). answer.tag) work.answer }

abbrev pub outline_of : {T : Type 0} → Event T → Outline T
outline_of event = record {
  hart = event.hart;
  pc = event.pc;
  ended = event.ended;
  asked = event.asked;
  access = event.access;
  call = option_map call_outline event.call;
  work = option_map work_outline event.work;
}
