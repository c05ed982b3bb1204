use Rattle.std.proofs.Common.{◌≡◌, ◌<◌, ◌==◌, true, false, length, ap, refl, subst, sym, ◌∙◌}
use Rattle.std.specs.List.{list_any}
use Rattle.shell_turns.specs.Cuts.{PutsOut}
use Rattle.shell_turns.proofs.PutLemmas.{done, puts_nothing}
use Rattle.shell_run.specs.Replies.{Reply, is_kept, with_break}
use Rattle.shell_run.specs.Session.{SessionState, session_of}
use Rattle.shell_run.proofs.SessionLemmas.{at_err, at_ok, break_full, break_more, break_there}
use Rattle.shell_run.proofs.session.Session.keep_break.Goals as goal

pub returns-then-contains-clause-after : goal.returns-then-contains-clause-after
returns-then-contains-clause-after g c =
    let kept : is_kept c.args.self.now c.args.address ≡ true =
    subst (λ (s : SessionState g.row.L-E-P.Denot g.row.L-E-P-Tag.Denot). is_kept s c.args.address ≡ true) c.self.view_is
    (sym (ap (list_any (λ place. place == c.args.address)) c.deref.ensures.0) ∙ sym c.contains.ensures.value ∙ c.if-contains.true) in
    sym (ap (λ (reply : Reply g.row.L-E-P.Denot g.row.L-E-P-Tag.Denot). reply.after) (break_there c.args.self.now c.args.address kept))

pub returns-then-contains-clause-puts : goal.returns-then-contains-clause-puts
returns-then-contains-clause-puts g c =
    let kept : is_kept c.args.self.now c.args.address ≡ true =
    subst (λ (s : SessionState g.row.L-E-P.Denot g.row.L-E-P-Tag.Denot). is_kept s c.args.address ≡ true) c.self.view_is
    (sym (ap (list_any (λ place. place == c.args.address)) c.deref.ensures.0) ∙ sym c.contains.ensures.value ∙ c.if-contains.true) in
    subst (λ pieces. PutsOut (g.K.Sink.taken c.args.out.now) (g.K.Sink.taken c.args.out.now) pieces done)
    (sym (ap (λ (reply : Reply g.row.L-E-P.Denot g.row.L-E-P-Tag.Denot). reply.pieces) (break_there c.args.self.now c.args.address kept))) (puts_nothing (g.K.Sink.taken c.args.out.now) tt)

pub returns-then-contains-clause-cause : goal.returns-then-contains-clause-cause
returns-then-contains-clause-cause g c = refl

pub returns-then-contains-clause-cut : goal.returns-then-contains-clause-cut
returns-then-contains-clause-cut g c = tt

pub returns-in-Ok-clause-after : goal.returns-in-Ok-clause-after
returns-in-Ok-clause-after g c =
    let kept : is_kept c.args.self.now c.args.address ≡ false =
    subst (λ (s : SessionState g.row.L-E-P.Denot g.row.L-E-P-Tag.Denot). is_kept s c.args.address ≡ false) c.self.view_is
    (sym (ap (list_any (λ place. place == c.args.address)) c.deref.ensures.0) ∙ sym c.contains.ensures.value ∙ c.if-contains.false) in
    let few : length c.args.self.now.breaks < 64 =
    subst (λ (s : SessionState g.row.L-E-P.Denot g.row.L-E-P-Tag.Denot). length s.breaks < 64) c.self.view_is (c.in-Ok.ensures.variant.0 refl) in
    ap (λ items. session_of (g.L.Loader.start c.self.inside.loader) (g.L.E.Engine.standing c.self.inside.engine) c.self.inside.feed items c.self.inside.ended) c.in-Ok.ensures.ok
    ∙ ap (λ (s : SessionState g.row.L-E-P.Denot g.row.L-E-P-Tag.Denot). with_break s c.args.address) c.self.view_is
    ∙ sym (ap (λ (reply : Reply g.row.L-E-P.Denot g.row.L-E-P-Tag.Denot). reply.after) (break_more c.args.self.now c.args.address kept few))

pub returns-in-Ok-clause-puts : goal.returns-in-Ok-clause-puts
returns-in-Ok-clause-puts g c =
    let kept : is_kept c.args.self.now c.args.address ≡ false =
    subst (λ (s : SessionState g.row.L-E-P.Denot g.row.L-E-P-Tag.Denot). is_kept s c.args.address ≡ false) c.self.view_is
    (sym (ap (list_any (λ place. place == c.args.address)) c.deref.ensures.0) ∙ sym c.contains.ensures.value ∙ c.if-contains.false) in
    let few : length c.args.self.now.breaks < 64 =
    subst (λ (s : SessionState g.row.L-E-P.Denot g.row.L-E-P-Tag.Denot). length s.breaks < 64) c.self.view_is (c.in-Ok.ensures.variant.0 refl) in
    subst (λ pieces. PutsOut (g.K.Sink.taken c.args.out.now) (g.K.Sink.taken c.args.out.now) pieces done)
    (sym (ap (λ (reply : Reply g.row.L-E-P.Denot g.row.L-E-P-Tag.Denot). reply.pieces) (break_more c.args.self.now c.args.address kept few))) (puts_nothing (g.K.Sink.taken c.args.out.now) tt)

pub returns-in-Ok-clause-cause : goal.returns-in-Ok-clause-cause
returns-in-Ok-clause-cause g c = refl

pub returns-in-Ok-clause-cut : goal.returns-in-Ok-clause-cut
returns-in-Ok-clause-cut g c = tt

pub returns-in-Err-clause-after : goal.returns-in-Err-clause-after
returns-in-Err-clause-after g c =
    let kept : is_kept c.args.self.now c.args.address ≡ false =
    subst (λ (s : SessionState g.row.L-E-P.Denot g.row.L-E-P-Tag.Denot). is_kept s c.args.address ≡ false) c.self.view_is
    (sym (ap (list_any (λ place. place == c.args.address)) c.deref.ensures.0) ∙ sym c.contains.ensures.value ∙ c.if-contains.false) in
    let full : length c.args.self.now.breaks ≡ 64 =
    subst (λ (s : SessionState g.row.L-E-P.Denot g.row.L-E-P-Tag.Denot). length s.breaks ≡ 64) c.self.view_is c.in-Err.ensures.full in
    let same = (λ j. session_of (g.L.Loader.start c.self.inside.loader) (g.L.E.Engine.standing c.self.inside.engine) c.self.inside.feed (c.in-Err.ensures.err j).items c.self.inside.ended) ∙ c.self.view_is in
    at_ok c.refuse.result _ (same ∙ sym (ap (λ (reply : Reply g.row.L-E-P.Denot g.row.L-E-P-Tag.Denot). reply.after) (break_full c.args.self.now c.args.address kept full)))

pub returns-in-Err-clause-puts : goal.returns-in-Err-clause-puts
returns-in-Err-clause-puts g c =
    let kept : is_kept c.args.self.now c.args.address ≡ false =
    subst (λ (s : SessionState g.row.L-E-P.Denot g.row.L-E-P-Tag.Denot). is_kept s c.args.address ≡ false) c.self.view_is
    (sym (ap (list_any (λ place. place == c.args.address)) c.deref.ensures.0) ∙ sym c.contains.ensures.value ∙ c.if-contains.false) in
    let full : length c.args.self.now.breaks ≡ 64 =
    subst (λ (s : SessionState g.row.L-E-P.Denot g.row.L-E-P-Tag.Denot). length s.breaks ≡ 64) c.self.view_is c.in-Err.ensures.full in
    subst (λ pieces. PutsOut (g.K.Sink.taken c.args.out.now) (g.K.Sink.taken c.refuse.new.out) pieces c.refuse.result)
    (sym (ap (λ (reply : Reply g.row.L-E-P.Denot g.row.L-E-P-Tag.Denot). reply.pieces) (break_full c.args.self.now c.args.address kept full))) c.refuse.ensures.puts

pub returns-in-Err-clause-cause : goal.returns-in-Err-clause-cause
returns-in-Err-clause-cause g c = c.refuse.ensures.cause

pub returns-in-Err-clause-cut : goal.returns-in-Err-clause-cut
returns-in-Err-clause-cut g c =
    let same = (λ j. session_of (g.L.Loader.start c.self.inside.loader) (g.L.E.Engine.standing c.self.inside.engine) c.self.inside.feed (c.in-Err.ensures.err j).items c.self.inside.ended) ∙ c.self.view_is in
    at_err c.refuse.result _ (λ end. same)
