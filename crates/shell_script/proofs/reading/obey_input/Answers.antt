use Rattle.std.proofs.Common.{arith, ◌≡◌, ◌≤◌, ◌+◌, ℕ, List, [], ◌++◌, Bool, true, false, drop, length, take, Option, Result, Ok, Err, IfSome, refl, ap, sym, subst, ◌∙◌}
use Rattle.std.specs.Io.KnownBytes.{IsAtEnd, prepend_known}
use Rattle.host_io.specs.Causes.{Rose}
use Rattle.host_io.specs.Prefixes.{LosesPrefix}
use Rattle.std.proofs.lemmas.List.{length-append, length-drop, length-take}
use Rattle.host_io.proofs.ReadingLemmas.{prepend_known-append, two_prefixes}
use Rattle.shell_lang.specs.Stream.{answers_along, end_answer, onto_answers}
use Rattle.shell_turns.specs.Cuts.{ObeyCause, PutsOut}
use Rattle.shell_turns.specs.declared.ends.ObeyEnd.{ObeyEnd}
use Rattle.shell_turns.specs.declared.ends.ObeyEnd.TheVariants as obey_end
use Rattle.shell_turns.proofs.PutLemmas.{broken, done, fails, gives, puts_as, puts_cut_with, puts_prefix, puts_nothing, puts_with, whole}
use Rattle.shell_script.specs.Scripts.{Ends, Script, script}
use Rattle.shell_script.specs.Shell.{Shell, ShellCause, ShellEnds, ShellFaults, at_the_end, shell_of}
use Rattle.shell_script.specs.declared.reading.ShellCut.{ShellCut}
use Rattle.shell_script.specs.declared.reading.ShellCut.TheVariants.{Obey, ReadFailed}
use Rattle.shell_script.specs.declared.reading.ShellEnd.{ShellEnd}
use Rattle.shell_script.specs.declared.reading.ShellEnd.TheVariants.{Quit, TooLong}
use Rattle.shell_script.proofs.LineLemmas.{answers_of_none, line_of_none}
use Rattle.shell_script.proofs.ScriptLemmas.{script_none}
use Rattle.shell_script.proofs.ShellLemmas.{done_ends, done_puts, prefix_back, none_taken, ok_map, piece_ends, piece_line, piece_puts, replies_so_far, shell_cut, shell_long, shell_quits, shell_quits_pieces, told_at_end, told_in, told_of}
use Rattle.shell_script.proofs.reading.obey_input.Goals as goal

pub loop-session-init : goal.loop-session-init
loop-session-init g c =
    let eq = g.L.E.P.Tag.PartialEq.eq in
    let m = g.L.E.P.Policy.model in
    let s = c.args.session.now in
    let old = g.K.Sink.taken c.args.out.now in
    let left = g.S.Source.left c.args.input.now in
    let none = ap (script eq m s) (answers_of_none []) ∙ script_none eq m s in
    record {
      taken = [];
      moved = none_taken left;
      within = omega arith;
      room = omega arith;
      lines = c.new-lines.ensures ∙ sym (line_of_none []);
      ends = subst (λ all. Ends all s false) (sym none) (record { after = refl; quits = refl });
      puts = subst (λ (all : Script _ _). PutsOut old old all.pieces done) (sym none) (puts_nothing old tt);
      goes_on = c.requires;
      in_faults = refl;
      out_faults = refl;
    }

pub returns-in-Ok-eq0-clause-done : goal.returns-in-Ok-eq0-clause-done
returns-in-Ok-eq0-clause-done g c =
    let eq = g.L.E.P.Tag.PartialEq.eq in
    let m = g.L.E.P.Policy.model in
    let s = c.args.session.now in
    let limit = c.args.limit in
    let i = c.loop-session.invariant in
    let now = c.loop-session.session in
    let left = g.S.Source.left c.args.input.now in
    let mid = g.S.Source.left c.loop-session.input in
    let rest = g.S.Source.left c.read.new.self in
    let old = g.K.Sink.taken c.args.out.now in
    let put = g.K.Sink.taken c.loop-session.out in
    let t = c.finish.new.session in
    let ends : IsAtEnd mid = c.read.ensures.end (c.in-Ok-eq0.is ∙ ap Ok c.in-Ok-eq0.field-0-test) (omega arith) in
    let within = i.within in
    ok_map c.finish.result (λ end. ShellEnds (at_the_end (script eq m now (onto_answers (end_answer c.loop-session.lines) []))) t end)
    (λ end. IfSome left (λ bytes. ShellEnds (shell_of eq m limit s bytes) t end))
    (λ end ended. told_at_end left i.taken mid (λ bytes. ShellEnds (shell_of eq m limit s bytes) t end) i.moved ends
    (done_ends eq m limit s i.taken within now i.ends t end
    (subst (λ text. ShellEnds (at_the_end (script eq m now (onto_answers (end_answer text) []))) t end) i.lines ended)))
    c.finish.ensures.done

pub returns-in-Ok-eq0-clause-puts : goal.returns-in-Ok-eq0-clause-puts
returns-in-Ok-eq0-clause-puts g c =
    let eq = g.L.E.P.Tag.PartialEq.eq in
    let m = g.L.E.P.Policy.model in
    let s = c.args.session.now in
    let limit = c.args.limit in
    let i = c.loop-session.invariant in
    let now = c.loop-session.session in
    let left = g.S.Source.left c.args.input.now in
    let mid = g.S.Source.left c.loop-session.input in
    let rest = g.S.Source.left c.read.new.self in
    let old = g.K.Sink.taken c.args.out.now in
    let put = g.K.Sink.taken c.loop-session.out in
    let new = g.K.Sink.taken c.finish.new.out in
    let ends : IsAtEnd mid = c.read.ensures.end (c.in-Ok-eq0.is ∙ ap Ok c.in-Ok-eq0.field-0-test) (omega arith) in
    let within = i.within in
    told_at_end left i.taken mid (λ bytes. PutsOut old new (shell_of eq m limit s bytes).pieces c.finish.result) i.moved ends
    (done_puts eq m limit s i.taken within now i.ends old put new c.finish.result i.puts
    (subst (λ text. PutsOut put new (script eq m now (onto_answers (end_answer text) [])).pieces c.finish.result) i.lines c.finish.ensures.puts))

pub returns-in-Ok-eq0-clause-cause : goal.returns-in-Ok-eq0-clause-cause
returns-in-Ok-eq0-clause-cause g c =
    let i = c.loop-session.invariant in
    let input = g.S.Source.faults c.read.new.self in
    let same : input ≡ g.S.Source.faults c.args.input.now = c.in-Ok-eq0.ensures.cause ∙ i.in_faults in
    subst (λ n. ShellCause (record { input = n; out = g.K.Sink.faults c.args.out.now }) (record { input = input; out = g.K.Sink.faults c.finish.new.out }) c.finish.result) same
    (subst (λ n. ShellCause (record { input = input; out = n }) (record { input = input; out = g.K.Sink.faults c.finish.new.out }) c.finish.result) i.out_faults
    (c.finish.ensures.cause input))

pub returns-in-Err-clause-puts : goal.returns-in-Err-clause-puts
returns-in-Err-clause-puts g c =
    let eq = g.L.E.P.Tag.PartialEq.eq in
    let m = g.L.E.P.Policy.model in
    let s = c.args.session.now in
    let limit = c.args.limit in
    let i = c.loop-session.invariant in
    let now = c.loop-session.session in
    let left = g.S.Source.left c.args.input.now in
    let mid = g.S.Source.left c.loop-session.input in
    let rest = g.S.Source.left c.read.new.self in
    let old = g.K.Sink.taken c.args.out.now in
    let put = g.K.Sink.taken c.loop-session.out in
    let within = i.within in
    told_of left i.taken mid (λ bytes. PutsOut old put (shell_of eq m limit s bytes).pieces (Err ReadFailed)) i.moved λ more is.
    puts_cut_with Bool _ old put (shell_of eq m limit s (i.taken ++ more)).pieces obey_end.WriteFault ReadFailed
    (shell_cut eq m limit s i.taken more within old put Bool obey_end.WriteFault
    (puts_prefix Bool old put (script eq m s (answers_along [] i.taken)).pieces obey_end.WriteFault i.puts))

pub returns-in-Ok-true-clause-done : goal.returns-in-Ok-true-clause-done
returns-in-Ok-true-clause-done g c =
    let eq = g.L.E.P.Tag.PartialEq.eq in
    let m = g.L.E.P.Policy.model in
    let s = c.args.session.now in
    let limit = c.args.limit in
    let i = c.loop-session.invariant in
    let now = c.loop-session.session in
    let left = g.S.Source.left c.args.input.now in
    let mid = g.S.Source.left c.loop-session.input in
    let rest = g.S.Source.left c.read.new.self in
    let old = g.K.Sink.taken c.args.out.now in
    let put = g.K.Sink.taken c.loop-session.out in
    let buffer = c.read.new.buffer in
    let k = c.min.result in
    let count = c.in-Ok.count in
    let prefix = take k buffer in
    let back = drop k (take count buffer) in
    let new = g.K.Sink.taken c.obey_bytes.new.out in
    let few : k ≤ count = omega (arith, c.min.ensures) in
    let room : k ≤ c.loop-session.room = omega (arith, c.min.ensures) in
    let within : length (i.taken ++ prefix) ≤ limit = omega (arith, length-append i.taken prefix, length-take k buffer, room, i.room) in
    let moved : mid ≡ prepend_known (take count buffer) rest = c.in-Ok.ensures.moved in
    let t = c.obey_bytes.new.session in
    let ends : Ends (script eq m now (answers_along c.loop-session.lines prefix)) t true = subst (Ends (script eq m now (answers_along c.loop-session.lines prefix)) t) c.in-Ok-true.field-0-test c.in-Ok-true.ensures.done in
    told_in left i.taken (take count buffer) prefix back mid rest (λ bytes. ShellEnds (shell_of eq m limit s bytes) t Quit) i.moved moved
    (prefix_back count k buffer few) λ more is.
    shell_quits eq m limit s (i.taken ++ prefix) (back ++ more) within t (piece_ends eq m limit s i.taken prefix c.loop-session.lines i.lines now i.ends t true ends)

pub returns-in-Ok-true-clause-puts : goal.returns-in-Ok-true-clause-puts
returns-in-Ok-true-clause-puts g c =
    let eq = g.L.E.P.Tag.PartialEq.eq in
    let m = g.L.E.P.Policy.model in
    let s = c.args.session.now in
    let limit = c.args.limit in
    let i = c.loop-session.invariant in
    let now = c.loop-session.session in
    let left = g.S.Source.left c.args.input.now in
    let mid = g.S.Source.left c.loop-session.input in
    let rest = g.S.Source.left c.read.new.self in
    let old = g.K.Sink.taken c.args.out.now in
    let put = g.K.Sink.taken c.loop-session.out in
    let buffer = c.read.new.buffer in
    let k = c.min.result in
    let count = c.in-Ok.count in
    let prefix = take k buffer in
    let back = drop k (take count buffer) in
    let new = g.K.Sink.taken c.obey_bytes.new.out in
    let few : k ≤ count = omega (arith, c.min.ensures) in
    let room : k ≤ c.loop-session.room = omega (arith, c.min.ensures) in
    let within : length (i.taken ++ prefix) ≤ limit = omega (arith, length-append i.taken prefix, length-take k buffer, room, i.room) in
    let moved : mid ≡ prepend_known (take count buffer) rest = c.in-Ok.ensures.moved in
    let t = c.obey_bytes.new.session in
    let ends : Ends (script eq m now (answers_along c.loop-session.lines prefix)) t true = subst (Ends (script eq m now (answers_along c.loop-session.lines prefix)) t) c.in-Ok-true.field-0-test c.in-Ok-true.ensures.done in
    let puts : PutsOut put new (script eq m now (answers_along c.loop-session.lines prefix)).pieces (gives true) =
    puts_as put new (script eq m now (answers_along c.loop-session.lines prefix)).pieces c.in-Ok-true.field-0 true c.in-Ok-true.ensures.puts in
    told_in left i.taken (take count buffer) prefix back mid rest (λ bytes. PutsOut old new (shell_of eq m limit s bytes).pieces (Ok Quit)) i.moved moved
    (prefix_back count k buffer few) λ more is.
    subst (λ pieces. PutsOut old new pieces (whole ShellCut Quit))
    (sym (shell_quits_pieces eq m limit s (i.taken ++ prefix) (back ++ more) within t (piece_ends eq m limit s i.taken prefix c.loop-session.lines i.lines now i.ends t true ends)))
    (puts_with ShellCut old new (script eq m s (answers_along [] (i.taken ++ prefix))).pieces true Quit
    (piece_puts eq m limit s i.taken prefix c.loop-session.lines i.lines now i.ends old put new (gives true) i.puts puts))

pub returns-in-Err-obey_bytes-clause-puts : goal.returns-in-Err-obey_bytes-clause-puts
returns-in-Err-obey_bytes-clause-puts g c =
    let eq = g.L.E.P.Tag.PartialEq.eq in
    let m = g.L.E.P.Policy.model in
    let s = c.args.session.now in
    let limit = c.args.limit in
    let i = c.loop-session.invariant in
    let now = c.loop-session.session in
    let left = g.S.Source.left c.args.input.now in
    let mid = g.S.Source.left c.loop-session.input in
    let rest = g.S.Source.left c.read.new.self in
    let old = g.K.Sink.taken c.args.out.now in
    let put = g.K.Sink.taken c.loop-session.out in
    let buffer = c.read.new.buffer in
    let k = c.min.result in
    let count = c.in-Ok.count in
    let prefix = take k buffer in
    let back = drop k (take count buffer) in
    let new = g.K.Sink.taken c.obey_bytes.new.out in
    let few : k ≤ count = omega (arith, c.min.ensures) in
    let room : k ≤ c.loop-session.room = omega (arith, c.min.ensures) in
    let within : length (i.taken ++ prefix) ≤ limit = omega (arith, length-append i.taken prefix, length-take k buffer, room, i.room) in
    let moved : mid ≡ prepend_known (take count buffer) rest = c.in-Ok.ensures.moved in
    let end = c.in-Err-obey_bytes.end in
    let puts : PutsOut put new (script eq m now (answers_along c.loop-session.lines prefix)).pieces (fails Bool end) = c.in-Err-obey_bytes.ensures.puts in
    told_in left i.taken (take count buffer) prefix back mid rest (λ bytes. PutsOut old new (shell_of eq m limit s bytes).pieces (Err (Obey end))) i.moved moved
    (prefix_back count k buffer few) λ more is.
    puts_cut_with Bool _ old new (shell_of eq m limit s (i.taken ++ prefix ++ (back ++ more))).pieces end (Obey end)
    (shell_cut eq m limit s (i.taken ++ prefix) (back ++ more) within old new Bool end
    (piece_puts eq m limit s i.taken prefix c.loop-session.lines i.lines now i.ends old put new (fails Bool end) i.puts puts))

pub returns-then-count-room-clause-done : goal.returns-then-count-room-clause-done
returns-then-count-room-clause-done g c =
    let eq = g.L.E.P.Tag.PartialEq.eq in
    let m = g.L.E.P.Policy.model in
    let s = c.args.session.now in
    let limit = c.args.limit in
    let i = c.loop-session.invariant in
    let now = c.loop-session.session in
    let left = g.S.Source.left c.args.input.now in
    let mid = g.S.Source.left c.loop-session.input in
    let rest = g.S.Source.left c.read.new.self in
    let old = g.K.Sink.taken c.args.out.now in
    let put = g.K.Sink.taken c.loop-session.out in
    let buffer = c.read.new.buffer in
    let k = c.min.result in
    let count = c.in-Ok.count in
    let prefix = take k buffer in
    let back = drop k (take count buffer) in
    let new = g.K.Sink.taken c.obey_bytes.new.out in
    let few : k ≤ count = omega (arith, c.min.ensures) in
    let room : k ≤ c.loop-session.room = omega (arith, c.min.ensures) in
    let within : length (i.taken ++ prefix) ≤ limit = omega (arith, length-append i.taken prefix, length-take k buffer, room, i.room) in
    let moved : mid ≡ prepend_known (take count buffer) rest = c.in-Ok.ensures.moved in
    let t = c.obey_bytes.new.session in
    let more_ends : Ends (script eq m now (answers_along c.loop-session.lines prefix)) t false = subst (Ends (script eq m now (answers_along c.loop-session.lines prefix)) t) c.in-Ok-false.field-0-test c.in-Ok-false.ensures.done in
    let ends = piece_ends eq m limit s i.taken prefix c.loop-session.lines i.lines now i.ends t false more_ends in
    let over : k ≡ c.loop-session.room = omega (arith, c.min.ensures) in
    let fits : count ≤ length buffer = grind (arith, c.read.ensures.within) in
    let full : length (i.taken ++ prefix) ≡ limit = omega (arith, length-append i.taken prefix, length-take k buffer, over, few, fits, i.room) in
    let longer : (more : List ℕ) → 1 ≤ length (back ++ more)
    = λ more. grind (arith, length-append back more, length-drop k (take count buffer), length-take count buffer, over, fits) in
    told_in left i.taken (take count buffer) prefix back mid rest (λ bytes. ShellEnds (shell_of eq m limit s bytes) t TooLong) i.moved moved
    (prefix_back count k buffer few) λ more is.
    let all = shell_long eq m limit s (i.taken ++ prefix) (back ++ more) full (longer more) t ends in
    record {
      after = ends.after ∙ sym (ap (λ (shell : Shell _ _). shell.after) all);
      end = sym (ap (λ (shell : Shell _ _). shell.end) all);
    }

pub returns-then-count-room-clause-puts : goal.returns-then-count-room-clause-puts
returns-then-count-room-clause-puts g c =
    let eq = g.L.E.P.Tag.PartialEq.eq in
    let m = g.L.E.P.Policy.model in
    let s = c.args.session.now in
    let limit = c.args.limit in
    let i = c.loop-session.invariant in
    let now = c.loop-session.session in
    let left = g.S.Source.left c.args.input.now in
    let mid = g.S.Source.left c.loop-session.input in
    let rest = g.S.Source.left c.read.new.self in
    let old = g.K.Sink.taken c.args.out.now in
    let put = g.K.Sink.taken c.loop-session.out in
    let buffer = c.read.new.buffer in
    let k = c.min.result in
    let count = c.in-Ok.count in
    let prefix = take k buffer in
    let back = drop k (take count buffer) in
    let new = g.K.Sink.taken c.obey_bytes.new.out in
    let few : k ≤ count = omega (arith, c.min.ensures) in
    let room : k ≤ c.loop-session.room = omega (arith, c.min.ensures) in
    let within : length (i.taken ++ prefix) ≤ limit = omega (arith, length-append i.taken prefix, length-take k buffer, room, i.room) in
    let moved : mid ≡ prepend_known (take count buffer) rest = c.in-Ok.ensures.moved in
    let t = c.obey_bytes.new.session in
    let more_ends : Ends (script eq m now (answers_along c.loop-session.lines prefix)) t false = subst (Ends (script eq m now (answers_along c.loop-session.lines prefix)) t) c.in-Ok-false.field-0-test c.in-Ok-false.ensures.done in
    let ends = piece_ends eq m limit s i.taken prefix c.loop-session.lines i.lines now i.ends t false more_ends in
    let puts : PutsOut put new (script eq m now (answers_along c.loop-session.lines prefix)).pieces (gives false) =
    puts_as put new (script eq m now (answers_along c.loop-session.lines prefix)).pieces c.in-Ok-false.field-0 false c.in-Ok-false.ensures.puts in
    let over : k ≡ c.loop-session.room = omega (arith, c.min.ensures) in
    let fits : count ≤ length buffer = grind (arith, c.read.ensures.within) in
    let full : length (i.taken ++ prefix) ≡ limit = omega (arith, length-append i.taken prefix, length-take k buffer, over, few, fits, i.room) in
    let longer : (more : List ℕ) → 1 ≤ length (back ++ more)
    = λ more. grind (arith, length-append back more, length-drop k (take count buffer), length-take count buffer, over, fits) in
    told_in left i.taken (take count buffer) prefix back mid rest (λ bytes. PutsOut old new (shell_of eq m limit s bytes).pieces (Ok TooLong)) i.moved moved
    (prefix_back count k buffer few) λ more is.
    subst (λ pieces. PutsOut old new pieces (whole ShellCut TooLong))
    (sym (ap (λ (shell : Shell _ _). shell.pieces) (shell_long eq m limit s (i.taken ++ prefix) (back ++ more) full (longer more) t ends)))
    (puts_with ShellCut old new (script eq m s (answers_along [] (i.taken ++ prefix))).pieces false TooLong
    (piece_puts eq m limit s i.taken prefix c.loop-session.lines i.lines now i.ends old put new (gives false) i.puts puts))

pub loop-session-preserved : goal.loop-session-preserved
loop-session-preserved g c =
    let eq = g.L.E.P.Tag.PartialEq.eq in
    let m = g.L.E.P.Policy.model in
    let s = c.args.session.now in
    let limit = c.args.limit in
    let i = c.loop-session.invariant in
    let now = c.loop-session.session in
    let left = g.S.Source.left c.args.input.now in
    let mid = g.S.Source.left c.loop-session.input in
    let rest = g.S.Source.left c.read.new.self in
    let old = g.K.Sink.taken c.args.out.now in
    let put = g.K.Sink.taken c.loop-session.out in
    let buffer = c.read.new.buffer in
    let k = c.min.result in
    let count = c.in-Ok.count in
    let prefix = take k buffer in
    let back = drop k (take count buffer) in
    let new = g.K.Sink.taken c.obey_bytes.new.out in
    let few : k ≤ count = omega (arith, c.min.ensures) in
    let room : k ≤ c.loop-session.room = omega (arith, c.min.ensures) in
    let within : length (i.taken ++ prefix) ≤ limit = omega (arith, length-append i.taken prefix, length-take k buffer, room, i.room) in
    let moved : mid ≡ prepend_known (take count buffer) rest = c.in-Ok.ensures.moved in
    let t = c.obey_bytes.new.session in
    let more_ends : Ends (script eq m now (answers_along c.loop-session.lines prefix)) t false = subst (Ends (script eq m now (answers_along c.loop-session.lines prefix)) t) c.in-Ok-false.field-0-test c.in-Ok-false.ensures.done in
    let ends = piece_ends eq m limit s i.taken prefix c.loop-session.lines i.lines now i.ends t false more_ends in
    let puts : PutsOut put new (script eq m now (answers_along c.loop-session.lines prefix)).pieces (gives false) =
    puts_as put new (script eq m now (answers_along c.loop-session.lines prefix)).pieces c.in-Ok-false.field-0 false c.in-Ok-false.ensures.puts in
    let all : count ≡ k = omega (arith, c.min.ensures) in
    record {
      taken = i.taken ++ prefix;
      moved =
          i.moved ∙ ap (prepend_known i.taken) (moved ∙ ap (λ n. prepend_known (take n buffer) rest) all)
          ∙ sym (prepend_known-append i.taken prefix rest);
      within = within;
      room = grind (arith, length-append i.taken prefix, length-take k buffer, all, c.read.ensures.within, i.room);
      lines = piece_line eq m limit s i.taken prefix c.loop-session.lines i.lines now i.ends c.obey_bytes.new.lines (c.in-Ok-false.ensures.lines c.in-Ok-false.field-0-test);
      ends = ends;
      puts =
          piece_puts eq m limit s i.taken prefix c.loop-session.lines i.lines now i.ends old put new done i.puts
          (puts_as put new (script eq m now (answers_along c.loop-session.lines prefix)).pieces false tt puts);
      goes_on = c.in-Ok-false.ensures.goes_on;
      in_faults = c.in-Ok.ensures.cause ∙ i.in_faults;
      out_faults = c.in-Ok-false.ensures.cause ∙ i.out_faults;
    }

-- ---- what was replied to before a read that failed

-- a last line is obeyed without a read
no_read_left : (out out_now : ℕ) (result : Result ShellEnd ShellCut) → ShellCause (record { input = 0; out = out }) (record { input = 0; out = out_now }) result
    → result ≡ Err ReadFailed → ⊥
no_read_left out out_now result cause failed =
    let rose = subst (ShellCause (record { input = 0; out = out }) (record { input = 0; out = out_now })) failed cause in
    omega (arith, rose.0.raised)

pub returns-in-Ok-eq0-clause-replied : goal.returns-in-Ok-eq0-clause-replied
returns-in-Ok-eq0-clause-replied g c failed =
    absurd (no_read_left (g.K.Sink.faults c.loop-session.out) (g.K.Sink.faults c.finish.new.out) c.finish.result (c.finish.ensures.cause 0) failed)

pub returns-in-Err-clause-replied : goal.returns-in-Err-clause-replied
returns-in-Err-clause-replied g c failed =
    let i = c.loop-session.invariant in
    replies_so_far g.L.E.P.Tag.PartialEq.eq g.L.E.P.Policy.model c.args.limit c.args.session.now i.taken (g.S.Source.left c.args.input.now) (g.S.Source.left c.read.new.self)
    (g.K.Sink.taken c.args.out.now) (g.K.Sink.taken c.loop-session.out) c.loop-session.session (i.moved ∙ ap (prepend_known i.taken) (sym c.in-Err.ensures.failed)) i.within i.ends i.puts

-- ---- what the clauses say beside the definition

-- a failed read moved nothing out
failed_moved : (left mid rest : Option (List ℕ)) (taken : List ℕ) (limit most : ℕ) → left ≡ prepend_known taken mid → rest ≡ mid → length taken ≤ limit
    → LosesPrefix left rest (limit + most)
failed_moved left mid rest taken limit most moved same short = record {
  prefix = taken;
  moved = moved ∙ ap (prepend_known taken) (sym same);
  within = omega (arith, short);
}

-- counts of faults where nothing failed, and where the session was cut short
counts_stay : (in_before in_now out_before out_mid out_now : ℕ) → in_now ≡ in_before → out_mid ≡ out_before → out_now ≡ out_mid
    → ◌≡◌ {A = ShellFaults} (record { input = in_now; out = out_now }) (record { input = in_before; out = out_before })
counts_stay in_before in_now out_before out_mid out_now in_same first then = λ j. record { input = in_same j; out = (then ∙ first) j }

cut_counted : (A : Type 0) (in_before in_now out_before out_mid out_now : ℕ) (end : ObeyEnd) → in_now ≡ in_before → out_mid ≡ out_before
    → ObeyCause out_mid out_now (fails A end)
    → ShellCause (record { input = in_before; out = out_before }) (record { input = in_now; out = out_now }) (broken ShellEnd (Obey end))
cut_counted A in_before in_now out_before out_mid out_now obey_end.WriteFault in_same first rose = (in_same, subst (λ n. Rose n out_now) first rose)
cut_counted A in_before in_now out_before out_mid out_now obey_end.Memory in_same first same = counts_stay in_before in_now out_before out_mid out_now in_same first same

pub returns-in-Ok-eq0-clause-closed : goal.returns-in-Ok-eq0-clause-closed
returns-in-Ok-eq0-clause-closed g c end = c.read.ensures.closes (c.in-Ok-eq0.is ∙ ap Ok c.in-Ok-eq0.field-0-test) (omega arith)

pub returns-in-Ok-eq0-clause-moved : goal.returns-in-Ok-eq0-clause-moved
returns-in-Ok-eq0-clause-moved g c =
    two_prefixes (g.S.Source.left c.args.input.now) (g.S.Source.left c.loop-session.input) (g.S.Source.left c.read.new.self) c.loop-session.invariant.taken c.in-Ok-eq0.field-0 c.read.new.buffer
    c.args.limit 4096 c.loop-session.invariant.moved c.in-Ok-eq0.ensures.moved c.loop-session.invariant.within (omega (arith, c.in-Ok-eq0.field-0-test))

pub returns-in-Err-clause-done : goal.returns-in-Err-clause-done
returns-in-Err-clause-done g c = tt

pub returns-in-Err-clause-closed : goal.returns-in-Err-clause-closed
returns-in-Err-clause-closed g c end = absurd (cc end)

pub returns-in-Err-clause-moved : goal.returns-in-Err-clause-moved
returns-in-Err-clause-moved g c =
    failed_moved (g.S.Source.left c.args.input.now) (g.S.Source.left c.loop-session.input) (g.S.Source.left c.read.new.self) c.loop-session.invariant.taken
    c.args.limit 4096 c.loop-session.invariant.moved c.in-Err.ensures.failed c.loop-session.invariant.within

pub returns-in-Err-clause-cause : goal.returns-in-Err-clause-cause
returns-in-Err-clause-cause g c =
    (subst (λ n. Rose n (g.S.Source.faults c.read.new.self)) c.loop-session.invariant.in_faults c.in-Err.ensures.cause, c.loop-session.invariant.out_faults)

pub returns-in-Ok-true-clause-closed : goal.returns-in-Ok-true-clause-closed
returns-in-Ok-true-clause-closed g c end = absurd (cc end)

pub returns-in-Ok-true-clause-moved : goal.returns-in-Ok-true-clause-moved
returns-in-Ok-true-clause-moved g c =
    let few : c.in-Ok.count ≤ 4096 = omega (arith, c.in-Ok.ensures.within) in
    two_prefixes (g.S.Source.left c.args.input.now) (g.S.Source.left c.loop-session.input) (g.S.Source.left c.read.new.self) c.loop-session.invariant.taken c.in-Ok.count c.read.new.buffer
    c.args.limit 4096 c.loop-session.invariant.moved c.in-Ok.ensures.moved c.loop-session.invariant.within few

pub returns-in-Ok-true-clause-cause : goal.returns-in-Ok-true-clause-cause
returns-in-Ok-true-clause-cause g c =
    counts_stay (g.S.Source.faults c.args.input.now) (g.S.Source.faults c.read.new.self) (g.K.Sink.faults c.args.out.now) (g.K.Sink.faults c.loop-session.out) (g.K.Sink.faults c.obey_bytes.new.out)
    (c.in-Ok.ensures.cause ∙ c.loop-session.invariant.in_faults) c.loop-session.invariant.out_faults c.in-Ok-true.ensures.cause

pub returns-in-Err-obey_bytes-clause-done : goal.returns-in-Err-obey_bytes-clause-done
returns-in-Err-obey_bytes-clause-done g c = tt

pub returns-in-Err-obey_bytes-clause-closed : goal.returns-in-Err-obey_bytes-clause-closed
returns-in-Err-obey_bytes-clause-closed g c end = absurd (cc end)

pub returns-in-Err-obey_bytes-clause-moved : goal.returns-in-Err-obey_bytes-clause-moved
returns-in-Err-obey_bytes-clause-moved g c =
    let few : c.in-Ok.count ≤ 4096 = omega (arith, c.in-Ok.ensures.within) in
    two_prefixes (g.S.Source.left c.args.input.now) (g.S.Source.left c.loop-session.input) (g.S.Source.left c.read.new.self) c.loop-session.invariant.taken c.in-Ok.count c.read.new.buffer
    c.args.limit 4096 c.loop-session.invariant.moved c.in-Ok.ensures.moved c.loop-session.invariant.within few

pub returns-in-Err-obey_bytes-clause-cause : goal.returns-in-Err-obey_bytes-clause-cause
returns-in-Err-obey_bytes-clause-cause g c =
    cut_counted Bool (g.S.Source.faults c.args.input.now) (g.S.Source.faults c.read.new.self) (g.K.Sink.faults c.args.out.now) (g.K.Sink.faults c.loop-session.out) (g.K.Sink.faults c.obey_bytes.new.out)
    c.in-Err-obey_bytes.end (c.in-Ok.ensures.cause ∙ c.loop-session.invariant.in_faults) c.loop-session.invariant.out_faults c.in-Err-obey_bytes.ensures.cause

pub returns-then-count-room-clause-closed : goal.returns-then-count-room-clause-closed
returns-then-count-room-clause-closed g c end = absurd (cc end)

pub returns-then-count-room-clause-moved : goal.returns-then-count-room-clause-moved
returns-then-count-room-clause-moved g c =
    let few : c.in-Ok.count ≤ 4096 = omega (arith, c.in-Ok.ensures.within) in
    two_prefixes (g.S.Source.left c.args.input.now) (g.S.Source.left c.loop-session.input) (g.S.Source.left c.read.new.self) c.loop-session.invariant.taken c.in-Ok.count c.read.new.buffer
    c.args.limit 4096 c.loop-session.invariant.moved c.in-Ok.ensures.moved c.loop-session.invariant.within few

pub returns-then-count-room-clause-cause : goal.returns-then-count-room-clause-cause
returns-then-count-room-clause-cause g c =
    counts_stay (g.S.Source.faults c.args.input.now) (g.S.Source.faults c.read.new.self) (g.K.Sink.faults c.args.out.now) (g.K.Sink.faults c.loop-session.out) (g.K.Sink.faults c.obey_bytes.new.out)
    (c.in-Ok.ensures.cause ∙ c.loop-session.invariant.in_faults) c.loop-session.invariant.out_faults c.in-Ok-false.ensures.cause
