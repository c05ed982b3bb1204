use Rattle.std.proofs.Common.{◌≡◌, ℕ, List, Option, drop}
use Rattle.host_io.specs.Pieces.{PutsSoFar}
use Rattle.image_listing.specs.Listing.{listing, segments_listed}
use Rattle.image_listing.proofs.listing.list_image.Given as goal

-- the segments so far were put
abbrev pub invariant-loop-i : goal.invariant-loop-i
invariant-loop-i g l = record {
  puts : (other : Option (List ℕ)) → PutsSoFar (record { out = g.K.Sink.taken l.fn.out; err = other }) (record { out = g.K.Sink.taken l.out; err = other })
      (segments_listed (drop l.i l.image.segments)) (listing l.image);
  faults : g.K.Sink.faults l.out ≡ g.K.Sink.faults l.fn.out;
}
