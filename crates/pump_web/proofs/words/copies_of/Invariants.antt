use Rattle.std.proofs.Common.{◌≡◌, map, take}
use Rattle.pump_line.specs.Told.{texts_of}
use Rattle.pump_web.proofs.words.copies_of.Given as goal

abbrev pub invariant-loop-piece : goal.invariant-loop-piece
invariant-loop-piece l = texts_of l.words.items ≡ map (λ piece. piece.now) (take l.piece-index l.pieces)
