use Rattle.std.proofs.Common.{rules, ◌≡◌, ◌∷◌, [], List, ℕ, subst}
use Rattle.host_io.specs.Pieces.{Puts, out}
use Rattle.host_io.proofs.PieceLemmas.{put_on_out}
use Rattle.asm_show.specs.Listing.{listing_line}
use Rattle.image_listing.proofs.listing.put_word.Goals as goal

pub returns-clause-puts : goal.returns-clause-puts
returns-clause-puts g c = λ other.
    let text : c.deref.result.now ≡ listing_line c.args.address c.args.word = search rules in
    subst (λ (bytes : List ℕ). Puts (record { out = g.K.Sink.taken c.args.out.now; err = other }) (record { out = g.K.Sink.taken c.put.new.self; err = other }) (out bytes ∷ []) c.put.result) text
    (put_on_out (g.K.Sink.taken c.args.out.now) (g.K.Sink.taken c.put.new.self) other c.deref.result.now c.put.result c.put.ensures.ok c.put.ensures.failed c.put.ensures.memory)
