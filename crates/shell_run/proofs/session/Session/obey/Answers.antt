use Rattle.std.proofs.Common.{rules, ◌≡◌, Bool, None, Some, ap, refl, sym, ◌∙◌}
use Rattle.shell_turns.proofs.PutLemmas.{puts_as, puts_cut_as}
use Rattle.shell_run.specs.Replies.{turns_asked}
use Rattle.shell_run.specs.Session.{SessionState}
use Rattle.shell_run.proofs.SessionLemmas.{cut_ends, ended_stays, none_told, some_told}
use Rattle.shell_run.proofs.session.Session.obey.Goals as goal

-- a session that had ended
pub returns-in-Some : goal.returns-in-Some
returns-in-Some g c =
    let some : c.args.self.now.ended ≡ Some c.in-Some.end =
    ap (λ (s : SessionState g.row.L-E-P.Denot g.row.L-E-P-Tag.Denot). s.ended) (sym c.self.view_is) ∙ c.in-Some.is in
    record {
      after = tt;
      quits = tt;
      puts = λ none. absurd (cc (none, some));
      cause = λ none. absurd (cc (none, some));
      live = tt;
      goes_on = tt;
      cut = λ none. absurd (cc (none, some));
      same_end = some_told c.args.self.now.ended c.in-Some.end _ some refl;
      stopped = some_told c.args.self.now.ended c.in-Some.end _ some refl;
      silent = some_told c.args.self.now.ended c.in-Some.end _ some refl;
      no_fault = some_told c.args.self.now.ended c.in-Some.end _ some refl;
    }

-- a command that was cut short
pub returns-in-Err : goal.returns-in-Err
returns-in-Err g c =
    let none : c.args.self.now.ended ≡ None =
    ap (λ (s : SessionState g.row.L-E-P.Denot g.row.L-E-P-Tag.Denot). s.ended) (sym c.self.view_is) ∙ c.in_default.is in
    record {
      after = tt;
      quits = tt;
      puts = λ live. puts_cut_as (Unit {0}) Bool (g.K.Sink.taken c.args.out.now) (g.K.Sink.taken c.answer.new.out) _ c.in-Err.end c.in-Err.end c.in-Err.ensures.puts;
      cause = λ live. c.in-Err.ensures.cause;
      live = tt;
      goes_on = tt;
      cut =
          λ live. cut_ends g.L.E.P.Tag.PartialEq.eq g.L.E.P.Policy.model c.args.self.now (g.K.Sink.taken c.args.out.now) (g.K.Sink.taken c.answer.new.out) c.in-Err.end
          (turns_asked c.args.self.now c.args.command.now) c.answer.new.self _ c.self-2.view_is c.in-Err.ensures.cut;
      same_end = none_told c.args.self.now.ended _ none;
      stopped = none_told c.args.self.now.ended _ none;
      silent = none_told c.args.self.now.ended _ none;
      no_fault = none_told c.args.self.now.ended _ none;
    }

-- a command that was obeyed
pub returns-after-matches : goal.returns-after-matches
returns-after-matches g c =
    let none : c.args.self.now.ended ≡ None =
    ap (λ (s : SessionState g.row.L-E-P.Denot g.row.L-E-P-Tag.Denot). s.ended) (sym c.self.view_is) ∙ c.in_default.is in
    record {
      after = c.in-Ok.ensures.after;
      quits = search rules;
      puts = λ live. puts_as (g.K.Sink.taken c.args.out.now) (g.K.Sink.taken c.answer.new.out) _ tt _ c.in-Ok.ensures.puts;
      cause = λ live. c.in-Ok.ensures.cause;
      live = none;
      goes_on =
          ap (λ (s : SessionState g.row.L-E-P.Denot g.row.L-E-P-Tag.Denot). s.ended) c.in-Ok.ensures.after
          ∙ ended_stays c.args.self.now g.L.E.P.Tag.PartialEq.eq g.L.E.P.Policy.model c.args.command.now ∙ none;
      cut = λ live. tt;
      same_end = none_told c.args.self.now.ended _ none;
      stopped = none_told c.args.self.now.ended _ none;
      silent = none_told c.args.self.now.ended _ none;
      no_fault = none_told c.args.self.now.ended _ none;
    }
