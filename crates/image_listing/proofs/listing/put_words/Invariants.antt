use Rattle.std.proofs.Common.{◌≡◌, ◌+◌, ◌*◌, ℕ, List, Option, drop}
use Rattle.host_io.specs.Pieces.{PutsSoFar}
use Rattle.image_listing.specs.Listing.{words_listed}
use Rattle.image_listing.proofs.listing.put_words.Given as goal

-- the words so far were put
abbrev pub invariant-loop-word : goal.invariant-loop-word
invariant-loop-word g l = record {
  address : l.address ≡ l.first + 4 * l.word-index;
  puts : (other : Option (List ℕ)) → PutsSoFar (record { out = g.K.Sink.taken l.fn.out; err = other }) (record { out = g.K.Sink.taken l.out; err = other })
      (words_listed l.address (drop l.word-index l.words)) (words_listed l.first l.words);
  faults : g.K.Sink.faults l.out ≡ g.K.Sink.faults l.fn.out;
}
