use Rattle.std.proofs.Common.{◌≡◌, ◌+◌, List, ℕ, drop, length, subst, sym, ◌∙◌, arith}
use Rattle.std.proofs.lemmas.Result.{err_from_is_err_and}
use Rattle.host_io.specs.Pieces.{Piece, PutsSoFar}
use Rattle.host_io.proofs.PieceLemmas.{puts_are_cut, puts_are_whole, puts_go_on}
use Rattle.image_format.specs.Picture.{no_segment, nth_segment}
use Rattle.image_listing.specs.Listing.{listing, segments_listed, words_listed}
use Rattle.image_listing.proofs.ListingLemmas.{next_segment, no_segment_left}
use Rattle.image_listing.proofs.listing.list_image.Goals as goal

-- the words of the segment are those that were listed
pub returns-in_err-put_words-clause-puts : goal.returns-in_err-put_words-clause-puts
returns-in_err-put_words-clause-puts g c =
    let image = c.args.image.now in
    let i = c.loop-i.i in
    let segment = nth_segment image i in
    let p = err_from_is_err_and c.from_residual.result c.from_residual.ensures.1 in
    rw p.1
    (λ other. puts_are_cut (record { out = g.K.Sink.taken c.args.out.now; err = other }) (record { out = g.K.Sink.taken c.loop-i.out; err = other }) (record { out = g.K.Sink.taken c.put_words.new.out; err = other })
    (words_listed segment.address segment.words) (segments_listed (drop (i + 1) image.segments)) (listing image)
    (subst (λ (left : List Piece). PutsSoFar (record { out = g.K.Sink.taken c.args.out.now; err = other }) (record { out = g.K.Sink.taken c.loop-i.out; err = other }) left (listing image))
    (next_segment image.segments i no_segment (omega (arith, c.loop-i-test.true, c.segment_count-i-end.ensures.count))) (c.loop-i.invariant.puts other))
    (rw (sym c.segment_address.ensures.value, sym c.segment_words.ensures.value) (c.in_err-put_words.ensures.puts other)))

pub loop-i-preserved : goal.loop-i-preserved
loop-i-preserved g c =
    let image = c.args.image.now in
    let i = c.loop-i.i in
    let segment = nth_segment image i in
    record {
      puts = λ other.
          puts_go_on (record { out = g.K.Sink.taken c.args.out.now; err = other }) (record { out = g.K.Sink.taken c.loop-i.out; err = other }) (record { out = g.K.Sink.taken c.put_words.new.out; err = other })
          (words_listed segment.address segment.words) (segments_listed (drop (i + 1) image.segments)) (listing image)
          (subst (λ (left : List Piece). PutsSoFar (record { out = g.K.Sink.taken c.args.out.now; err = other }) (record { out = g.K.Sink.taken c.loop-i.out; err = other }) left (listing image))
          (next_segment image.segments i no_segment (omega (arith, c.loop-i-test.true, c.segment_count-i-end.ensures.count))) (c.loop-i.invariant.puts other))
          (rw (sym c.segment_address.ensures.value, sym c.segment_words.ensures.value) (c.in_ok-put_words.ensures.puts other));
      faults = c.in_ok-put_words.ensures.cause ∙ c.loop-i.invariant.faults;
    }

pub returns-clause-puts : goal.returns-clause-puts
returns-clause-puts g c = λ other.
    let image = c.args.image.now in
    let last : c.loop-i.i ≡ length image.segments = omega (arith, c.loop-i-test.false, c.loop-i.auto.i-end, c.segment_count-i-end.ensures.count) in
    puts_are_whole (record { out = g.K.Sink.taken c.args.out.now; err = other }) (record { out = g.K.Sink.taken c.loop-i.out; err = other }) (listing image)
    (subst (λ (left : List Piece). PutsSoFar (record { out = g.K.Sink.taken c.args.out.now; err = other }) (record { out = g.K.Sink.taken c.loop-i.out; err = other }) left (listing image))
    (no_segment_left image.segments)
    (subst (λ (n : ℕ). PutsSoFar (record { out = g.K.Sink.taken c.args.out.now; err = other }) (record { out = g.K.Sink.taken c.loop-i.out; err = other }) (segments_listed (drop n image.segments)) (listing image)) last (c.loop-i.invariant.puts other)))
