-- What a turn of a whole machine may be for one part of its policy: no more than what this part alone allows, or another
-- part's service.
use Rattle.std.specs.Prelude.{◌≡◌, ℕ, ◌/◌, ◌%◌, ◌^◌, ◌<◌, Bool, true, false, List, length, Some, None, Ok}
use Rattle.rv_decode.specs.Groups.{a7}
use Rattle.rv_decode.specs.declared.groups.Group.{Group}
use Rattle.rv_decode.specs.declared.groups.Group.TheVariants as group
use Rattle.rv_step.specs.Accesses.{EndsWithin, IsAligned}
use Rattle.rv_step.specs.declared.accesses.Access.TheVariants as access
use Rattle.rv_step.specs.declared.accesses.Width.{Width}
use Rattle.rv_step.specs.declared.accesses.Width.TheVariants.{Full}
use Rattle.std.specs.Option.{ForSome}
use Rattle.policy_trait.specs.PolicyLaws.{IsRange}
use Rattle.policy_trait.specs.Model.{PolicyModel}
use Rattle.policy_trait.specs.declared.rules.Outs.{Outs}
use Rattle.policy_trait.specs.declared.services.Plan.{Plan}
use Rattle.tag_memory.specs.Hart.{HartState, moved_to, reg_value}
use Rattle.tag_memory.specs.Ram.{RamState, ram_bytes, ram_tag, ram_word}
use Rattle.monitor_calls.specs.Service.{retagged_range}
use Rattle.turn_steps.specs.Effects.{with_store, with_tagged}
use Rattle.turn_steps.specs.Services.{args_on}
use Rattle.turn_steps.specs.declared.look.Look.{Look}
use Rattle.turn_steps.specs.declared.stop.Stop.{Stop}
use Rattle.turn_steps.specs.declared.stop.Stop.TheVariants as stop
use Rattle.engine_trait.specs.Events.{Event, is_retirement, touch_of}
use Rattle.engine_trait.specs.Machine.{Machine, hart_at, is_ready_in, with_hart}
use Rattle.engine_trait.specs.Turn.{core_served, rule_inputs, stopped_at}
use Rattle.policy_parts.specs.Part.{Planned, beside_others, value_after}
use Rattle.part_turns.specs.Moments.{is_jal, is_jalr, service_of}

-- ---- what an instruction does with values, as its group tells

-- neither a move nor an access to memory
abbrev pub is_computing : Group → Bool
is_computing group.Move = false
is_computing group.LoadWord = false
is_computing group.LoadPart = false
is_computing group.StoreWord = false
is_computing group.StorePart = false
is_computing _ = true

abbrev pub is_jalr_group : Group → Bool
is_jalr_group group.Jalr = true
is_jalr_group _ = false

abbrev pub is_jal_group : Group → Bool
is_jal_group group.Jal = true
is_jal_group _ = false

-- this register gets this value, and memory what the access stores; a move takes a remainder, which is the value itself where
-- that is a word
pub data Does {T : Type 0} (hart : HartState T) (ram : RamState T) (look : Look) (register value : ℕ) : Type 0 where
  moves : look.group ≡ group.Move → look.effect.access ≡ access.None
      → value ≡ reg_value hart look.places.first % 2 ^ 32 → Does hart ram look register value
  loads : (place : ℕ) → look.group ≡ group.LoadWord → look.effect.access ≡ access.Load place Full false
      → value ≡ ram_word ram place → Does hart ram look register value
  loads_part : (place : ℕ) (width : Width) (signed : Bool) → look.group ≡ group.LoadPart → look.effect.access ≡ access.Load place width signed
      → Does hart ram look register value
  stores : (place : ℕ) → look.group ≡ group.StoreWord → look.effect.access ≡ access.Store place Full (reg_value hart look.places.second)
      → register ≡ 0 → Does hart ram look register value
  stores_part : (place stored : ℕ) (width : Width) → look.group ≡ group.StorePart → look.effect.access ≡ access.Store place width stored
      → register ≡ 0 → Does hart ram look register value
  computes : is_computing look.group ≡ true → look.effect.access ≡ access.None → Does hart ram look register value

-- what a hart that passed the checks looks at
pub record IsSeen {T : Type 0} (hart : HartState T) (ram : RamState T) (look : Look) : Type 0 where
  pub there : hart.pc / 4 < length ram.words
  pub word : look.word ≡ ram_word ram hart.pc
  pub service : look.service ≡ reg_value hart a7
  pub jalr : is_jalr look.word ≡ is_jalr_group look.group
  pub jal : is_jal look.word ≡ is_jal_group look.group
  pub aligned : IsAligned look.effect.access
  pub in_memory : EndsWithin (ram_bytes ram) look.effect.access

-- ---- a turn

module _ {U V : Type 0} (m : PolicyModel U V) (s : Machine V U) (h : ℕ) where
  -- the rule allows the instruction, and the event tells so
  pub record Allows (look : Look) (outs : Outs U) (e : Event U) : Type 0 where
    pub ready : is_ready_in s.core h ≡ true
    pub seen : IsSeen (hart_at s.core h) s.core.ram look
    pub rule : m.rule s.policy look.group (rule_inputs s.core h look) ≡ Ok outs
    pub is_retired : is_retirement e ≡ true
    pub hart : e.hart ≡ h
    pub pc : e.pc ≡ (hart_at s.core h).pc
    pub word : e.word ≡ look.word
    pub asked : e.asked ≡ Some (record { group = look.group; inputs = rule_inputs s.core h look })
    pub access : e.access ≡ touch_of look.effect.access

  -- the machine after an instruction that calls no service of a policy
  abbrev pub after_step : Look → Outs U → ℕ → ℕ → Machine V U
  after_step look outs register value = record s {
    core = with_hart s.core h
        (moved_to (with_tagged (hart_at s.core h) register value outs.result) look.effect.next outs.pc)
        (with_store s.core.ram look.effect.access outs.result);
  }

  -- and after a service, whose words these are
  abbrev pub after_service : Look → Outs U → Plan U → List (ℕ × ℕ × U) → Machine V U
  after_service look outs p words = record {
    policy = value_after m s.policy p;
    core = core_served s.core h words p.answer look.effect.next outs.pc;
  }

  -- the event e and the machine t are those of a turn of hart h
  pub data Turns (e : Event U) (t : Machine V U) : Type 0 where
    idles : is_ready_in s.core h ≡ false → e.hart ≡ h → is_retirement e ≡ false → service_of e ≡ None → t ≡ s → Turns e t
    stops : (why : Stop) → is_ready_in s.core h ≡ true → e.hart ≡ h → is_retirement e ≡ false → service_of e ≡ None → t ≡ stopped_at s h why → Turns e t
    exits : (look : Look) (outs : Outs U) (code : ℕ) → Allows look outs e → service_of e ≡ None
        → look.group ≡ group.Exit → look.effect.access ≡ access.None → t ≡ stopped_at s h (stop.Exit code) → Turns e t
    goes : (look : Look) (outs : Outs U) (register value : ℕ) → Allows look outs e → service_of e ≡ None
        → Does (hart_at s.core h) s.core.ram look register value → t ≡ after_step look outs register value → Turns e t
    serves : (look : Look) (outs : Outs U) (p : Plan U) (words : List (ℕ × ℕ × U)) → Allows look outs e
        → look.group ≡ group.Call → look.effect.access ≡ access.None
        → service_of e ≡ Some (record {
          number = look.service;
          arguments = args_on (hart_at s.core h) s.core.ram;
          range = p.range;
          zero = p.zero;
          answer = p.answer;
        })
        → Planned m s.policy look.service (args_on (hart_at s.core h) s.core.ram) outs.pc p
        → ForSome p.range (IsRange (ram_bytes s.core.ram))
        → retagged_range (beside_others m) s.policy (ram_word s.core.ram) (ram_tag s.core.ram) p p.range ≡ Ok words
        → t ≡ after_service look outs p words → Turns e t
