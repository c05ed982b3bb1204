-- A sound machine is sound as a part of its policy sees it, and its values are the same.
use Rattle.std.proofs.Common.{◌≡◌, ℕ, ◌<◌, ◌≤◌, true, length, map, ap, sym, subst, ◌∙◌, arith}
use Rattle.std.proofs.Math.ListN.{get_or-map}
use Rattle.std.proofs.lemmas.List.{length-map}
use Rattle.std.proofs.lemmas.List.Elements.{All-map, All-weaker}
use Rattle.policy_trait.specs.PolicyLaws.{KeepsLaws}
use Rattle.policy_trait.specs.Model.{PolicyModel}
use Rattle.tag_memory.specs.Hart.{HartState, IsHartOf}
use Rattle.tag_memory.specs.Maps.{hart_by, ram_by}
use Rattle.tag_memory.specs.Ram.{IsRamOf, RamState, ram_bytes}
use Rattle.turn_steps.specs.Feeds.{Tape}
use Rattle.turn_steps.specs.Values.{HartHasWords}
use Rattle.engine_trait.proofs.ValueLemmas.{turn_words}
use Rattle.engine_trait.specs.Machine.{CoreState, HasWords, IsCore, IsMachine, Machine}
use Rattle.engine_trait.specs.Maps.{core_by}
use Rattle.engine_trait.specs.Turn.{turn_of}
use Rattle.policy_parts.specs.Part.{IsPart}
use Rattle.policy_parts.specs.Lens.{Lens}
use Rattle.part_turns.specs.Keeps.{StayWords}
use Rattle.part_turns.specs.Maps.{seen_by}

module _ {T U : Type 0} (f : T → U) (plain : T) (own : U) (same : f plain ≡ own) where
  hart_sound : (hart : HartState T) → IsHartOf plain hart → IsHartOf own (hart_by f hart)
  hart_sound hart is = record {
    shape = record { values = is.shape.values; tags = length-map hart.tags f ∙ is.shape.tags; aligned = is.shape.aligned };
    plain = ap f is.plain ∙ same;
  }

  ram_sound : (ram : RamState T) → IsRamOf plain ram → IsRamOf own (ram_by f ram)
  ram_sound ram is = record {
    shape = record { tagged = length-map ram.tags f ∙ is.shape.tagged; some = is.shape.some; few = is.shape.few };
    plain = ap f is.plain ∙ same;
  }

core_sound : {T U : Type 0} (f : T → U) (core : CoreState T) → IsCore core → IsCore (core_by f core)
core_sound f core is =
    let count : length core.harts ≡ length (map (hart_by f) core.harts) = sym (length-map core.harts (hart_by f)) in
    record { some = subst (λ n. 1 ≤ n) count is.some; few = subst (λ n. n ≤ 8) count is.few; stops = is.stops }

pub seen_sound : {T S U V : Type 0} (w : PolicyModel T S) (m : PolicyModel U V) (l : Lens T S U V) → IsPart w m l
    → (s : Machine S T) → l.is_on s.policy ≡ true → IsMachine w s → IsMachine m (seen_by l s)
seen_sound w m l part s on is =
    let plain : l.tag (w.plain s.policy) ≡ m.plain (l.value s.policy) = part.plain s.policy on in
    let room : m.room (l.value s.policy) ≤ w.room s.policy = part.room s.policy on in
    let whole : w.room s.policy ≤ ram_bytes s.core.ram = is.room in
    record {
      core = core_sound l.tag s.core is.core;
      harts = All-map (IsHartOf (m.plain (l.value s.policy))) (hart_by l.tag) s.core.harts
          (All-weaker (IsHartOf (w.plain s.policy)) _ (hart_sound l.tag (w.plain s.policy) (m.plain (l.value s.policy)) plain) s.core.harts is.harts);
      ram = ram_sound l.tag (w.plain s.policy) (m.plain (l.value s.policy)) plain s.core.ram is.ram;
      room = omega arith;
    }

-- ---- values

-- a core with each tag changed has words where it had them, and had them where it has
module _ {T U : Type 0} (f : T → U) (core : CoreState T) where
  pub words_seen : HasWords core → HasWords (core_by f core)
  words_seen has = record {
    harts = All-map (λ (hart : HartState U). HartHasWords hart) (hart_by f) core.harts has.harts;
    ram = has.ram;
  }

  words_unseen : HasWords (core_by f core) → HasWords core
  words_unseen has = record {
    harts = λ n default below.
        subst (λ (hart : HartState U). HartHasWords hart) (get_or-map (hart_by f) core.harts n default)
        (has.harts n (hart_by f default) (subst (λ size. n < size) (sym (length-map core.harts (hart_by f))) below));
    ram = has.ram;
  }

-- a turn under the whole policy leaves words where the part sees words
pub words_stay : {T S U V : Type 0} (w : PolicyModel T S) (l : Lens T S U V) (holds : S → Type 0) → KeepsLaws w holds
    → (s : Machine S T) → IsMachine w s → holds s.policy → (feed : Tape) (h : ℕ)
    → StayWords (seen_by l s) (seen_by l (turn_of w s feed h).machine)
words_stay w l holds laws s is valid feed h has =
    words_seen l.tag (turn_of w s feed h).machine.core (turn_words w holds laws s valid is (words_unseen l.tag s.core has) feed h)
