-- A machine and the events of its run as one part of the policy sees them.
use Rattle.std.specs.Prelude.{option_map}
use Rattle.policy_trait.specs.Maps.{answer_by, args_by, ins_by}
use Rattle.engine_trait.specs.Events.{Asked, Call, Event, Work}
use Rattle.engine_trait.specs.Machine.{Machine}
use Rattle.engine_trait.specs.Maps.{machine_by}
use Rattle.policy_parts.specs.Lens.{Lens}

abbrev pub asked_by : {T U : Type 0} → (T → U) → Asked T → Asked U
asked_by f asked = record { group = asked.group; inputs = ins_by f asked.inputs }

abbrev pub call_by : {T U : Type 0} → (T → U) → Call T → Call U
call_by f call = record { number = call.number; arguments = args_by f call.arguments }

abbrev pub work_by : {T U : Type 0} → (T → U) → Work T → Work U
work_by f work = record { range = work.range; zero = work.zero; answer = option_map (answer_by f) work.answer }

-- an event with each tag changed
abbrev pub event_with : {T U : Type 0} → (T → U) → Event T → Event U
event_with f event = record {
  hart = event.hart;
  pc = event.pc;
  word = event.word;
  ended = event.ended;
  asked = option_map (asked_by f) event.asked;
  access = event.access;
  call = option_map (call_by f) event.call;
  work = option_map (work_by f) event.work;
}

-- a machine as the part sees it
abbrev pub seen_by : {T S U V : Type 0} → Lens T S U V → Machine S T → Machine V U
seen_by l s = machine_by l.tag (l.value s.policy) s
