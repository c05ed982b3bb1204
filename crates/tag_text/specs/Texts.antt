-- The lines of stops.
use Rattle.std.specs.Prelude.{ℕ, ◌∷◌, [], List, ◌++◌, codes}
use Rattle.std.specs.Fmt.{decimal}
use Rattle.pump_words.specs.Texts.{hex8_text}
use Rattle.rv_decode.specs.declared.groups.Group.{Group}
use Rattle.rv_decode.specs.declared.groups.Group.TheVariants as group
use Rattle.rv_step.specs.declared.faults.Fault.{Fault}
use Rattle.rv_step.specs.declared.faults.Fault.TheVariants.{Fetch, Illegal, LoadAlign, StoreAlign, LoadRange, StoreRange, JumpAlign, NoService, Spent}
use Rattle.policy_trait.specs.declared.rules.Part.{Part}
use Rattle.policy_trait.specs.declared.rules.Part.TheVariants.{Seal, Comp, Flow, Heap, Secret, Own}
use Rattle.policy_trait.specs.declared.rules.Why.{Why}
use Rattle.policy_trait.specs.declared.rules.Why.TheVariants as why
use Rattle.turn_steps.specs.declared.stop.Stop.{Stop}
use Rattle.turn_steps.specs.declared.stop.Stop.TheVariants as stop

-- a text and the newline, which is byte 10
abbrev pub line : List ℕ → List ℕ
line text = text ++ 10 ∷ []

-- the name of an instruction's group
abbrev pub group_text : Group → List ℕ
group_text group.Const = codes "const"
group_text group.Here = codes "here"
group_text group.Jal = codes "jal"
group_text group.Jalr = codes "jalr"
group_text group.Branch = codes "branch"
group_text group.LoadWord = codes "loadword"
group_text group.LoadPart = codes "loadpart"
group_text group.StoreWord = codes "storeword"
group_text group.StorePart = codes "storepart"
group_text group.Move = codes "move"
group_text group.AddImm = codes "addimm"
group_text group.AluImm = codes "aluimm"
group_text group.Add = codes "add"
group_text group.Sub = codes "sub"
group_text group.Alu = codes "alu"
group_text group.Fence = codes "fence"
group_text group.Exit = codes "exit"
group_text group.Put = codes "put"
group_text group.Get = codes "get"
group_text group.Break = codes "break"
group_text group.Call = codes "call"

-- the name of a policy; an author's own goes by one
abbrev pub part_text : Part → List ℕ
part_text Seal = codes "seal"
part_text Comp = codes "comp"
part_text Flow = codes "flow"
part_text Heap = codes "heap"
part_text Secret = codes "secret"
part_text Own = codes "own"

-- why a policy refused
abbrev pub why_text : Why → List ℕ
why_text (why.Rule group) = codes "rule(" ++ group_text group ++ codes ")"
why_text why.Args = codes "args"
why_text why.Range = codes "range"
why_text why.NotOwner = codes "notowner"
why_text why.WrongKey = codes "wrongkey"
why_text why.NotLive = codes "notlive"
why_text why.Lend = codes "lend"
why_text why.Consent = codes "consent"
why_text why.Peek = codes "peek"

-- addresses and words are eight hexadecimal digits in upper case, numbers of services decimal
abbrev pub fault_text : Fault → List ℕ
fault_text (Fetch a) = codes "fetch " ++ hex8_text a
fault_text (Illegal w) = codes "illegal " ++ hex8_text w
fault_text (LoadAlign a) = codes "loadalign " ++ hex8_text a
fault_text (StoreAlign a) = codes "storealign " ++ hex8_text a
fault_text (LoadRange a) = codes "loadrange " ++ hex8_text a
fault_text (StoreRange a) = codes "storerange " ++ hex8_text a
fault_text (JumpAlign a) = codes "jumpalign " ++ hex8_text a
fault_text (NoService n) = codes "noservice " ++ decimal n
fault_text (Spent n) = codes "spent " ++ decimal n

-- the codes of an exit are decimal
abbrev pub stop_text : Stop → List ℕ
stop_text (stop.Exit code) = codes "exit " ++ decimal code
stop_text (stop.Fault fault) = codes "fault " ++ fault_text fault
stop_text (stop.Violation part reason pc) =
    codes "violation " ++ part_text part ++ codes " " ++ why_text reason ++ codes " pc " ++ hex8_text pc

-- the line of the stop of hart h, which is decimal
unfoldable pub stop_line : ℕ → Stop → List ℕ
stop_line h why = line (codes "stop " ++ decimal h ++ codes " " ++ stop_text why)
