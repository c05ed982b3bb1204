-- A machine with each tag changed, under another policy.
use Rattle.std.specs.Prelude.{ℕ, List, [], ◌∷◌, map}
use Rattle.tag_memory.specs.Maps.{hart_by, ram_by}
use Rattle.engine_trait.specs.Machine.{CoreState, Machine}
use Rattle.engine_trait.specs.Turn.{Turned}

-- the harts and memory by the function; the stops have no tags
abbrev pub core_by : {T U : Type 0} → (T → U) → CoreState T → CoreState U
core_by f core = record { harts = map (hart_by f) core.harts; stops = core.stops; ram = ram_by f core.ram }

-- the policy's value is t
abbrev pub machine_by : {T U S V : Type 0} → (T → U) → V → Machine S T → Machine V U
machine_by f t s = record { policy = t; core = core_by f s.core }

-- the same after a turn
abbrev pub turned_by : {T U S V : Type 0} → (T → U) → V → Turned S T → Turned V U
turned_by f t turned = record { machine = machine_by f t turned.machine; feed = turned.feed; ended = turned.ended }

-- what a service writes: address, value and tag of each word
abbrev pub words_by : {T U : Type 0} → (T → U) → List (ℕ × ℕ × T) → List (ℕ × ℕ × U)
words_by f [] = []
words_by f (word ∷ words) = (word.0, word.1, f word.2) ∷ words_by f words
