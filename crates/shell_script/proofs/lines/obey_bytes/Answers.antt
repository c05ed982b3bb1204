use Rattle.std.proofs.Common.{arith, ◌≡◌, ◌+◌, [], get_or, Bool, true, false, Option, take, refl, ap, sym, subst, ◌∙◌}
use Rattle.std.proofs.lemmas.List.{take_all}
use Rattle.std.proofs.lemmas.Result.{err_from_is_err_and}
use Rattle.shell_lang.specs.Grammar.{Answer}
use Rattle.shell_lang.specs.Stream.{answers_along, byte_answer, line_along, onto_answers}
use Rattle.shell_turns.specs.Cuts.{ObeyCause, PutsOut}
use Rattle.shell_turns.proofs.PutLemmas.{done, fails, gives, puts_as, puts_nothing}
use Rattle.shell_script.specs.Scripts.{Ends, Script, script}
use Rattle.shell_script.proofs.ByteLemmas.{byte_ends, byte_line, byte_puts, bytes_cut, bytes_quit}
use Rattle.shell_script.proofs.LineLemmas.{answers_of_none, line_of_none}
use Rattle.shell_script.proofs.ScriptLemmas.{script_none}
use Rattle.shell_script.proofs.lines.obey_bytes.Goals as goal

pub loop-byte-init : goal.loop-byte-init
loop-byte-init g c =
    let eq = g.L.E.P.Tag.PartialEq.eq in
    let m = g.L.E.P.Policy.model in
    let s = c.args.session.now in
    let old = g.K.Sink.taken c.args.out.now in
    let none = ap (script eq m s) (answers_of_none c.args.lines.now) ∙ script_none eq m s in
    record {
      ends = subst (λ all. Ends all s false) (sym none) (record { after = refl; quits = refl });
      lines = sym (line_of_none c.args.lines.now);
      puts = subst (λ (all : Script _ _). PutsOut old old all.pieces done) (sym none) (puts_nothing old tt);
      faults = refl;
      goes_on = c.requires;
    }

pub returns-in_err-obey_answer-clause-puts : goal.returns-in_err-obey_answer-clause-puts
returns-in_err-obey_answer-clause-puts g c =
    let eq = g.L.E.P.Tag.PartialEq.eq in
    let m = g.L.E.P.Policy.model in
    let s = c.args.session.now in
    let bytes = c.args.bytes.now in
    let k = c.loop-byte.byte-index in
    let i = c.loop-byte.invariant in
    let answered = λ (answer : Option Answer). script eq m c.loop-byte.session (onto_answers answer []) in
    let old = g.K.Sink.taken c.args.out.now in
    let mid = g.K.Sink.taken c.loop-byte.out in
    let new = g.K.Sink.taken c.obey_answer.new.out in
    let p = err_from_is_err_and c.from_residual.result c.from_residual.ensures.1 in
    rw p.1
    (bytes_cut eq m s c.args.lines.now bytes (k + 1) old new Bool Bool c.in_err-obey_answer.field-0.0 p.0
    (byte_puts eq m s c.args.lines.now bytes k 0 (get_or bytes k 0) c.loop-byte-test.true refl c.loop-byte.session c.loop-byte.lines i.lines i.ends old mid new (fails Bool c.in_err-obey_answer.field-0.0) i.puts
    (subst (λ answer. PutsOut mid new (answered answer).pieces (fails Bool c.in_err-obey_answer.field-0.0)) {y = byte_answer c.loop-byte.lines (get_or bytes k 0)} c.push.ensures.answer c.in_err-obey_answer.ensures.puts)))

pub loop-byte-preserved : goal.loop-byte-preserved
loop-byte-preserved g c =
    let eq = g.L.E.P.Tag.PartialEq.eq in
    let m = g.L.E.P.Policy.model in
    let s = c.args.session.now in
    let bytes = c.args.bytes.now in
    let k = c.loop-byte.byte-index in
    let i = c.loop-byte.invariant in
    let answered = λ (answer : Option Answer). script eq m c.loop-byte.session (onto_answers answer []) in
    let old = g.K.Sink.taken c.args.out.now in
    let mid = g.K.Sink.taken c.loop-byte.out in
    let new = g.K.Sink.taken c.obey_answer.new.out in
    let told = (script eq m c.loop-byte.session (onto_answers (byte_answer c.loop-byte.lines (get_or bytes k 0)) [])).pieces in
    let puts : PutsOut mid new told (gives c.in_ok-obey_answer.field-0) =
    subst (λ answer. PutsOut mid new (answered answer).pieces (gives c.in_ok-obey_answer.field-0)) {y = byte_answer c.loop-byte.lines (get_or bytes k 0)} c.push.ensures.answer c.in_ok-obey_answer.ensures.puts in
    record {
      ends = byte_ends eq m s c.args.lines.now bytes k 0 (get_or bytes k 0) c.loop-byte-test.true refl c.loop-byte.session c.loop-byte.lines i.lines i.ends c.obey_answer.new.session false
          (subst (Ends (answered (byte_answer c.loop-byte.lines (get_or bytes k 0))) c.obey_answer.new.session) c.if-branch.false
          (subst (λ answer. Ends (answered answer) c.obey_answer.new.session c.in_ok-obey_answer.field-0) {y = byte_answer c.loop-byte.lines (get_or bytes k 0)} c.push.ensures.answer c.in_ok-obey_answer.ensures.done));
      lines = byte_line eq m s c.args.lines.now bytes k 0 (get_or bytes k 0) c.loop-byte-test.true refl c.loop-byte.session c.loop-byte.lines i.lines i.ends c.push.new.self c.push.ensures.line;
      puts = byte_puts eq m s c.args.lines.now bytes k 0 (get_or bytes k 0) c.loop-byte-test.true refl c.loop-byte.session c.loop-byte.lines i.lines i.ends old mid new done i.puts (puts_as mid new told c.in_ok-obey_answer.field-0 tt puts);
      faults = c.in_ok-obey_answer.ensures.cause ∙ i.faults;
      goes_on = c.in_ok-obey_answer.ensures.goes_on;
    }

pub returns-then-branch-clause-done : goal.returns-then-branch-clause-done
returns-then-branch-clause-done g c =
    let eq = g.L.E.P.Tag.PartialEq.eq in
    let m = g.L.E.P.Policy.model in
    let s = c.args.session.now in
    let bytes = c.args.bytes.now in
    let k = c.loop-byte.byte-index in
    let i = c.loop-byte.invariant in
    let answered = λ (answer : Option Answer). script eq m c.loop-byte.session (onto_answers answer []) in
    let old = g.K.Sink.taken c.args.out.now in
    let mid = g.K.Sink.taken c.loop-byte.out in
    let ends = byte_ends eq m s c.args.lines.now bytes k 0 (get_or bytes k 0) c.loop-byte-test.true refl c.loop-byte.session c.loop-byte.lines i.lines i.ends c.obey_answer.new.session true
    (subst (Ends (answered (byte_answer c.loop-byte.lines (get_or bytes k 0))) c.obey_answer.new.session) c.if-branch.true
    (subst (λ answer. Ends (answered answer) c.obey_answer.new.session c.in_ok-obey_answer.field-0) {y = byte_answer c.loop-byte.lines (get_or bytes k 0)} c.push.ensures.answer c.in_ok-obey_answer.ensures.done)) in
    subst (λ all. Ends all c.obey_answer.new.session true) (sym (bytes_quit eq m s c.args.lines.now bytes (k + 1) c.obey_answer.new.session ends)) ends

pub returns-then-branch-clause-puts : goal.returns-then-branch-clause-puts
returns-then-branch-clause-puts g c =
    let eq = g.L.E.P.Tag.PartialEq.eq in
    let m = g.L.E.P.Policy.model in
    let s = c.args.session.now in
    let bytes = c.args.bytes.now in
    let k = c.loop-byte.byte-index in
    let i = c.loop-byte.invariant in
    let answered = λ (answer : Option Answer). script eq m c.loop-byte.session (onto_answers answer []) in
    let old = g.K.Sink.taken c.args.out.now in
    let mid = g.K.Sink.taken c.loop-byte.out in
    let new = g.K.Sink.taken c.obey_answer.new.out in
    let told = (script eq m c.loop-byte.session (onto_answers (byte_answer c.loop-byte.lines (get_or bytes k 0)) [])).pieces in
    let puts : PutsOut mid new told (gives c.in_ok-obey_answer.field-0) =
    subst (λ answer. PutsOut mid new (answered answer).pieces (gives c.in_ok-obey_answer.field-0)) {y = byte_answer c.loop-byte.lines (get_or bytes k 0)} c.push.ensures.answer c.in_ok-obey_answer.ensures.puts in
    let ends = byte_ends eq m s c.args.lines.now bytes k 0 (get_or bytes k 0) c.loop-byte-test.true refl c.loop-byte.session c.loop-byte.lines i.lines i.ends c.obey_answer.new.session true
    (subst (Ends (answered (byte_answer c.loop-byte.lines (get_or bytes k 0))) c.obey_answer.new.session) c.if-branch.true
    (subst (λ answer. Ends (answered answer) c.obey_answer.new.session c.in_ok-obey_answer.field-0) {y = byte_answer c.loop-byte.lines (get_or bytes k 0)} c.push.ensures.answer c.in_ok-obey_answer.ensures.done)) in
    subst (λ (all : Script _ _). PutsOut old new all.pieces (gives true)) (sym (bytes_quit eq m s c.args.lines.now bytes (k + 1) c.obey_answer.new.session ends))
    (byte_puts eq m s c.args.lines.now bytes k 0 (get_or bytes k 0) c.loop-byte-test.true refl c.loop-byte.session c.loop-byte.lines i.lines i.ends old mid new (gives true) i.puts (puts_as mid new told c.in_ok-obey_answer.field-0 true puts))

pub returns-clause-puts : goal.returns-clause-puts
returns-clause-puts g c =
    let eq = g.L.E.P.Tag.PartialEq.eq in
    let m = g.L.E.P.Policy.model in
    let s = c.args.session.now in
    let bytes = c.args.bytes.now in
    let k = c.loop-byte.byte-index in
    let i = c.loop-byte.invariant in
    let old = g.K.Sink.taken c.args.out.now in
    let mid = g.K.Sink.taken c.loop-byte.out in
    let all : take k bytes ≡ bytes = take_all k bytes (omega (arith, c.loop-byte-test.false)) in
    subst (λ prefix. PutsOut old mid (script eq m s (answers_along c.args.lines.now prefix)).pieces (gives false)) all
    (puts_as old mid (script eq m s (answers_along c.args.lines.now (take k bytes))).pieces tt false i.puts)

pub returns-in_err-obey_answer-clause-done : goal.returns-in_err-obey_answer-clause-done
returns-in_err-obey_answer-clause-done g c = rw (err_from_is_err_and c.from_residual.result c.from_residual.ensures.1).1 tt

pub returns-in_err-obey_answer-clause-lines : goal.returns-in_err-obey_answer-clause-lines
returns-in_err-obey_answer-clause-lines g c = rw (err_from_is_err_and c.from_residual.result c.from_residual.ensures.1).1 tt

pub returns-in_err-obey_answer-clause-cause : goal.returns-in_err-obey_answer-clause-cause
returns-in_err-obey_answer-clause-cause g c =
    let p = err_from_is_err_and c.from_residual.result c.from_residual.ensures.1 in
    let now = g.K.Sink.faults c.obey_answer.new.out in
    rw (p.1, p.2)
    (subst (λ before. ObeyCause before now (fails Bool c.in_err-obey_answer.field-0.0)) c.loop-byte.invariant.faults c.in_err-obey_answer.ensures.cause)

pub returns-in_err-obey_answer-clause-goes_on : goal.returns-in_err-obey_answer-clause-goes_on
returns-in_err-obey_answer-clause-goes_on g c = rw (err_from_is_err_and c.from_residual.result c.from_residual.ensures.1).1 tt

pub returns-then-branch-clause-lines : goal.returns-then-branch-clause-lines
returns-then-branch-clause-lines g c goes_on = absurd (cc goes_on)

pub returns-then-branch-clause-cause : goal.returns-then-branch-clause-cause
returns-then-branch-clause-cause g c = c.in_ok-obey_answer.ensures.cause ∙ c.loop-byte.invariant.faults

pub returns-then-branch-clause-goes_on : goal.returns-then-branch-clause-goes_on
returns-then-branch-clause-goes_on g c = c.in_ok-obey_answer.ensures.goes_on

pub returns-clause-done : goal.returns-clause-done
returns-clause-done g c =
    subst (λ prefix. Ends (script g.L.E.P.Tag.PartialEq.eq g.L.E.P.Policy.model c.args.session.now (answers_along c.args.lines.now prefix)) c.loop-byte.session false)
    (take_all c.loop-byte.byte-index c.args.bytes.now (omega (arith, c.loop-byte-test.false))) c.loop-byte.invariant.ends

pub returns-clause-lines : goal.returns-clause-lines
returns-clause-lines g c goes_on =
    c.loop-byte.invariant.lines
    ∙ ap (line_along c.args.lines.now) (take_all c.loop-byte.byte-index c.args.bytes.now (omega (arith, c.loop-byte-test.false)))

pub returns-clause-cause : goal.returns-clause-cause
returns-clause-cause g c = c.loop-byte.invariant.faults

pub returns-clause-goes_on : goal.returns-clause-goes_on
returns-clause-goes_on g c = c.loop-byte.invariant.goes_on
