use Rattle.std.proofs.Common.{◌≡◌, ◌+◌, ◌∷◌, [], List, ℕ, drop, length, slice_index_or, subst, ◌∙◌, arith}
use Rattle.std.proofs.lemmas.Result.{err_from_is_err_and}
use Rattle.host_io.specs.Pieces.{Piece, PutsSoFar, out}
use Rattle.host_io.proofs.PieceLemmas.{puts_are_cut, puts_are_whole, puts_go_on}
use Rattle.asm_show.specs.Listing.{listing_line}
use Rattle.image_listing.specs.Listing.{words_listed}
use Rattle.image_listing.proofs.ListingLemmas.{next_word, no_word}
use Rattle.image_listing.proofs.listing.put_words.Goals as goal

pub returns-in_err-put_word-clause-puts : goal.returns-in_err-put_word-clause-puts
returns-in_err-put_word-clause-puts g c =
    let words = c.args.words.now in
    let i = c.loop-word.word-index in
    let address = c.loop-word.address in
    let p = err_from_is_err_and c.from_residual.result c.from_residual.ensures.1 in
    rw p.1
    (λ other. puts_are_cut (record { out = g.K.Sink.taken c.args.out.now; err = other }) (record { out = g.K.Sink.taken c.loop-word.out; err = other }) (record { out = g.K.Sink.taken c.put_word.new.out; err = other })
    (out (listing_line address (slice_index_or words i 0)) ∷ []) (words_listed (address + 4) (drop (i + 1) words)) (words_listed c.args.first words)
    (subst (λ (left : List Piece). PutsSoFar (record { out = g.K.Sink.taken c.args.out.now; err = other }) (record { out = g.K.Sink.taken c.loop-word.out; err = other }) left (words_listed c.args.first words))
    (next_word address words i c.loop-word-test.true) (c.loop-word.invariant.puts other))
    (c.in_err-put_word.ensures.puts other))

pub loop-word-preserved : goal.loop-word-preserved
loop-word-preserved g c =
    let words = c.args.words.now in
    let i = c.loop-word.word-index in
    let address = c.loop-word.address in
    record {
      address = omega (arith, c.loop-word.invariant.address);
      puts = λ other.
          puts_go_on (record { out = g.K.Sink.taken c.args.out.now; err = other }) (record { out = g.K.Sink.taken c.loop-word.out; err = other }) (record { out = g.K.Sink.taken c.put_word.new.out; err = other })
          (out (listing_line address (slice_index_or words i 0)) ∷ []) (words_listed (address + 4) (drop (i + 1) words)) (words_listed c.args.first words)
          (subst (λ (left : List Piece). PutsSoFar (record { out = g.K.Sink.taken c.args.out.now; err = other }) (record { out = g.K.Sink.taken c.loop-word.out; err = other }) left (words_listed c.args.first words))
          (next_word address words i c.loop-word-test.true) (c.loop-word.invariant.puts other))
          (c.in_ok-put_word.ensures.puts other);
      faults = c.in_ok-put_word.ensures.cause ∙ c.loop-word.invariant.faults;
    }

pub returns-clause-puts : goal.returns-clause-puts
returns-clause-puts g c = λ other.
    let words = c.args.words.now in
    let last : c.loop-word.word-index ≡ length words = omega (arith, c.loop-word-test.false, c.loop-word.auto.word-index-end) in
    puts_are_whole (record { out = g.K.Sink.taken c.args.out.now; err = other }) (record { out = g.K.Sink.taken c.loop-word.out; err = other }) (words_listed c.args.first words)
    (subst (λ (left : List Piece). PutsSoFar (record { out = g.K.Sink.taken c.args.out.now; err = other }) (record { out = g.K.Sink.taken c.loop-word.out; err = other }) left (words_listed c.args.first words))
    (no_word c.loop-word.address words)
    (subst (λ (i : ℕ). PutsSoFar (record { out = g.K.Sink.taken c.args.out.now; err = other }) (record { out = g.K.Sink.taken c.loop-word.out; err = other }) (words_listed c.loop-word.address (drop i words)) (words_listed c.args.first words)) last (c.loop-word.invariant.puts other)))
