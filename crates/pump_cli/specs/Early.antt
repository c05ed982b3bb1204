-- Where nothing ran: which counts of faults rose, and what was told.
use Rattle.std.specs.Prelude.{◌≡◌, ℕ, List, [], ◌∷◌, Option, Some, None, Result, Ok, Err, IfOk}
use Rattle.std.specs.declared.vec.Vec.{Vec}
use Rattle.host_io.specs.Causes.{Rose, RoseAt}
use Rattle.host_io.specs.TwoSinks.{OneRose, PutFaults}
use Rattle.image_format.specs.Picture.{Picture}
use Rattle.pump_cli.specs.Calls.{FileCall, Load}
use Rattle.pump_cli.specs.Codes.{status_of_refusal}
use Rattle.pump_cli.specs.Facts.{Does, PutsFaultBy}
use Rattle.pump_cli.specs.Program.{refusal_outcome}
use Rattle.pump_cli.specs.declared.cut.Cut.{Cut}
use Rattle.pump_cli.specs.declared.cut.Cut.TheVariants as cut
use Rattle.pump_cli.specs.declared.reading.EarlyEnd.{EarlyEnd}
use Rattle.pump_cli.specs.declared.reading.EarlyEnd.TheVariants as early_end
use Rattle.pump_cli.specs.declared.refusal.Refusal.{Refusal}
use Rattle.pump_cli.specs.declared.refusal.Refusal.TheVariants as refusal
use Rattle.pump_cli.specs.declared.status.Status.{Status}

-- the count of the named file rises where its load failed, and running out of memory leaves all counts; nothing else cuts a load short
abbrev pub LoadCutBy : (List ℕ → ℕ) → (List ℕ → ℕ) → List ℕ → Cut → Type 0
LoadCutBy before now name cut.ReadFailed = RoseAt before now name
LoadCutBy before now name cut.WriteFailed = ⊥
LoadCutBy before now name cut.InputFailed = ⊥
LoadCutBy before now name cut.PutFailed = ⊥
LoadCutBy before now name cut.Memory = now ≡ before

-- what was loaded leaves all counts
abbrev pub LoadRoseBy : {A : Type 0} → (List ℕ → ℕ) → (List ℕ → ℕ) → List ℕ → Result A Cut → Type 0
LoadRoseBy before now name (Ok _) = now ≡ before
LoadRoseBy before now name (Err why) = LoadCutBy before now name why

-- and so does a refusal
abbrev pub ReadRoseBy : {A : Type 0} → (List ℕ → ℕ) → (List ℕ → ℕ) → List ℕ → Result A EarlyEnd → Type 0
ReadRoseBy before now name (Ok _) = now ≡ before
ReadRoseBy before now name (Err (early_end.Refused refusal)) = now ≡ before
ReadRoseBy before now name (Err (early_end.Cut why)) = LoadCutBy before now name why

-- of such loads, of which there is one at most: where none is made, nothing ends the call
abbrev pub LoadsRoseBy : {A : Type 0} → List FileCall → (List ℕ → ℕ) → (List ℕ → ℕ) → Result A EarlyEnd → Type 0
LoadsRoseBy [] before now (Ok _) = now ≡ before
LoadsRoseBy [] before now (Err end) = ⊥
LoadsRoseBy (Load name ∷ []) before now result = ReadRoseBy before now name result
LoadsRoseBy _ before now result = ⊥

-- the count of the named file rises where its save failed, and every other answer leaves all counts
abbrev pub WriteRoseBy : {A : Type 0} → (List ℕ → ℕ) → (List ℕ → ℕ) → List ℕ → Result A Cut → Type 0
WriteRoseBy before now name (Ok _) = now ≡ before
WriteRoseBy before now name (Err cut.ReadFailed) = ⊥
WriteRoseBy before now name (Err cut.WriteFailed) = RoseAt before now name
WriteRoseBy before now name (Err cut.InputFailed) = ⊥
WriteRoseBy before now name (Err cut.PutFailed) = ⊥
WriteRoseBy before now name (Err cut.Memory) = now ≡ before

-- the input's count rises where a read failed, and every other answer leaves it
abbrev pub InputRoseBy : {A : Type 0} → ℕ → ℕ → Result A EarlyEnd → Type 0
InputRoseBy before now (Ok _) = now ≡ before
InputRoseBy before now (Err (early_end.Refused refusal)) = now ≡ before
InputRoseBy before now (Err (early_end.Cut cut.ReadFailed)) = ⊥
InputRoseBy before now (Err (early_end.Cut cut.WriteFailed)) = ⊥
InputRoseBy before now (Err (early_end.Cut cut.InputFailed)) = Rose before now
InputRoseBy before now (Err (early_end.Cut cut.PutFailed)) = ⊥
InputRoseBy before now (Err (early_end.Cut cut.Memory)) = now ≡ before

-- Of a call that reads and puts: the input's count rises where a read failed, one of the counts of puts where a put did, and
-- every other answer leaves all three.
abbrev pub SessionFaultBy : {A : Type 0} → ℕ → ℕ → PutFaults → PutFaults → Result A Cut → Type 0
SessionFaultBy input input_now before now (Ok _) = (input_now ≡ input) × (now ≡ before)
SessionFaultBy input input_now before now (Err cut.ReadFailed) = ⊥
SessionFaultBy input input_now before now (Err cut.WriteFailed) = ⊥
SessionFaultBy input input_now before now (Err cut.InputFailed) = Rose input input_now × (now ≡ before)
SessionFaultBy input input_now before now (Err cut.PutFailed) = (input_now ≡ input) × OneRose before now
SessionFaultBy input input_now before now (Err cut.Memory) = (input_now ≡ input) × (now ≡ before)

-- a refusal that a file can meet
abbrev pub IsOfFile : Refusal → Type 0
IsOfFile refusal.BadWords = ⊥
IsOfFile (refusal.BadImage error) = Unit {0}
IsOfFile (refusal.BadSource error) = Unit {0}
IsOfFile (refusal.BadTags error) = Unit {0}
IsOfFile (refusal.BadElf error) = Unit {0}
IsOfFile refusal.TooLong = Unit {0}

-- the bytes of a file that was loaded, or that it was too long to have any
abbrev pub bytes_or_long : {A : Type 0} → Option (Vec ℕ A) → Result (List ℕ) Refusal
bytes_or_long None = Err refusal.TooLong
bytes_or_long (Some bytes) = Ok bytes.items

-- what was returned is what is read, an image or the refusal of a file, unless memory ran out
abbrev pub GivesImage : Result Picture EarlyEnd → Result Picture Refusal → Type 0
GivesImage (Ok picture) read = read ≡ Ok picture
GivesImage (Err (early_end.Refused refusal)) read = (read ≡ Err refusal) × IsOfFile refusal
GivesImage (Err (early_end.Cut why)) read = why ≡ cut.Memory

-- The refusal is told on standard error, which ends the program, whatever standard output has taken beside it.
pub record Tells (refusal : Refusal) (err_before err_after : Option (List ℕ)) (before after : ℕ) (result : Result Status Cut) : Type 0 where
  pub does : (out : Option (List ℕ)) → Does (refusal_outcome refusal) (record { out = out; err = err_before }) (record { out = out; err = err_after }) result
  pub faults : (out : ℕ) → PutsFaultBy (record { out = out; err = before }) (record { out = out; err = after }) result
  pub status : IfOk result (λ status. status ≡ status_of_refusal refusal)

-- nothing is told, and the call is cut short
pub record IsCut (cut : Cut) (err_before err_after : Option (List ℕ)) (before after : ℕ) (result : Result Status Cut) : Type 0 where
  pub ends : result ≡ Err cut
  pub err : err_after ≡ err_before
  pub faults : after ≡ before

-- an early end
abbrev pub EndsEarly : EarlyEnd → Option (List ℕ) → Option (List ℕ) → ℕ → ℕ → Result Status Cut → Type 0
EndsEarly (early_end.Refused refusal) err_before err_after before after result = Tells refusal err_before err_after before after result
EndsEarly (early_end.Cut cut) err_before err_after before after result = IsCut cut err_before err_after before after result
