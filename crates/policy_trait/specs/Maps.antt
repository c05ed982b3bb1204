-- Inputs, outputs, arguments, answers and plans with each tag changed.
use Rattle.std.specs.Prelude.{option_map, Result, Ok, Err}
use Rattle.policy_trait.specs.declared.rules.Ins.{Ins}
use Rattle.policy_trait.specs.declared.rules.Outs.{Outs}
use Rattle.policy_trait.specs.declared.services.Answer.{Answer}
use Rattle.policy_trait.specs.declared.services.Args.{Args}
use Rattle.policy_trait.specs.declared.services.Plan.{Plan}

abbrev pub ins_by : {T U : Type 0} → (T → U) → Ins T → Ins U
ins_by f x = record { pc = f x.pc; ci = f x.ci; t1 = f x.t1; t2 = f x.t2; tm = f x.tm }

abbrev pub outs_by : {T U : Type 0} → (T → U) → Outs T → Outs U
outs_by f x = record { pc = f x.pc; result = f x.result }

abbrev pub args_by : {T U : Type 0} → (T → U) → Args T → Args U
args_by f a = record { a0 = a.a0; a1 = a.a1; a2 = a.a2; t0 = f a.t0; t1 = f a.t1; t2 = f a.t2; ram = a.ram }

abbrev pub answer_by : {T U : Type 0} → (T → U) → Answer T → Answer U
answer_by f x = record { value = x.value; tag = f x.tag; rest = x.rest }

abbrev pub plan_by : {T U : Type 0} → (T → U) → Plan T → Plan U
plan_by f p = record { service = p.service; pc = f p.pc; note = p.note; range = p.range; zero = p.zero; answer = option_map (answer_by f) p.answer }

-- a function of what may have failed
abbrev pub ok_by : {A B E : Type 0} → (A → B) → Result A E → Result B E
ok_by f (Ok x) = Ok (f x)
ok_by f (Err e) = Err e
