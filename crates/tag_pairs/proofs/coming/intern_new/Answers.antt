use Rattle.std.proofs.Common.{nat_eq}
use Rattle.std.proofs.lemmas.Result.{err_from_is_err_and}
use Rattle.tag_pairs.proofs.PairedLemmas.{IsComing, coming_are, coming_state}
use Rattle.tag_pairs.proofs.StateLemmas.{both_eq, left_room, memory_alone, right_room}
use Rattle.tag_pairs.proofs.coming.intern_new.Given.{Over}
use Rattle.tag_pairs.proofs.coming.intern_new.Goals as goal

pub returns-in_err-left-clause-memory : goal.returns-in_err-left-clause-memory
returns-in_err-left-clause-memory g c =
    let end = err_from_is_err_and c.from_residual.result c.from_residual.ensures.1 in
    rw (end.1, end.2) (memory_alone c.in_err-left.field-0.0
    (λ full. left_room (g.A.TagTable.state c.args.lefts.now) (g.B.TagTable.state c.args.rights.now) c.args.pairs.now c.requires.paired c.requires.room
    (c.in_err-left.ensures.full.0 full).0))

pub returns-in-Err-clause-memory : goal.returns-in-Err-clause-memory
returns-in-Err-clause-memory g c =
    memory_alone c.in-Err.end
    (λ full. right_room (g.A.TagTable.state c.args.lefts.now) (g.B.TagTable.state c.args.rights.now) c.args.pairs.now c.requires.paired c.requires.room
    (c.in-Err.ensures.full.0 full).0)

comes : (g : Over) (c : goal.In-Ok-intern g)
    → IsComing g.A.Tag.PartialEq.eq g.B.Tag.PartialEq.eq (both_eq nat_eq nat_eq)
    (g.A.TagTable.state c.args.lefts.now) (g.A.TagTable.state c.intern.new.self) (g.B.TagTable.state c.args.rights.now) (g.B.TagTable.state c.intern-2.new.self)
    c.args.pairs.now c.intern-3.new.self c.args.tag (c.in_ok-left.left, c.in-Ok.right) c.in-Ok-intern.field-0
comes g c = record {
  left_laws = g.met.A.Tag.Eq.laws;
  right_laws = g.met.B.Tag.Eq.laws;
  are = c.requires.paired;
  absent = c.requires.absent;
  room = c.requires.room;
  lefts_grown = c.in_ok-left.ensures.grown;
  rights_grown = c.in-Ok.ensures.grown;
  pairs_grown = c.in-Ok-intern.ensures.grown;
  left_word = c.in_ok-left.ensures.word;
  right_word = c.in-Ok.ensures.word;
  pair_word = c.in-Ok-intern.ensures.word;
}

pub returns-in-Ok-intern-clause-paired : goal.returns-in-Ok-intern-clause-paired
returns-in-Ok-intern-clause-paired g c = coming_are _ _ _ _ _ _ _ _ _ _ _ _ (comes g c)

pub returns-in-Ok-intern-clause-grown : goal.returns-in-Ok-intern-clause-grown
returns-in-Ok-intern-clause-grown g c = coming_state _ _ _ _ _ _ _ _ _ _ _ _ (comes g c)
