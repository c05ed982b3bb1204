-- The end of a run: what was put until mid, the last line and the status.
use Rattle.std.proofs.Common.{◌≡◌, ℕ, true, false, List, [], ◌∷◌, codes, Option, Some, Result, Ok, Err, refl, ap, sym, subst, ◌∙◌}
use Rattle.host_io.specs.Causes.{PutCause}
use Rattle.host_io.specs.Prefixes.{TakesAll, TakesPrefix}
use Rattle.host_io.specs.Pieces.{Puts, PutsAll, PutsPrefix, Taken, err}
use Rattle.host_io.specs.TwoSinks.{PutFaults, on_err}
use Rattle.host_io.specs.declared.traits.sink.PutEnd.{PutEnd}
use Rattle.host_io.specs.declared.traits.sink.PutEnd.TheVariants as put_end
use Rattle.host_io.proofs.PieceLemmas.{prefix_of_more_puts, put_on_err, puts_then_all, puts_then_prefix}
use Rattle.turn_steps.specs.declared.stop.Stop.{Stop}
use Rattle.engine_trait.specs.declared.ends.Halt.{Halt}
use Rattle.engine_trait.specs.declared.ends.Halt.TheVariants as halt
use Rattle.rounds.specs.Course.{Course, hart_stops}
use Rattle.rounds.specs.Shown.{pieces_of}
use Rattle.tag_text.specs.Texts.{line}
use Rattle.pump_cli.specs.Endings.{has_any, is_out, last_pieces, out_at_start, outcome_of_course, status_of}
use Rattle.pump_cli.specs.Codes.{status_of_refusal}
use Rattle.pump_cli.specs.Cuts.{cut_of_put}
use Rattle.pump_cli.specs.Early.{Tells}
use Rattle.pump_cli.specs.Facts.{Does, PutsFaultBy}
use Rattle.pump_cli.specs.Program.{refusal_outcome}
use Rattle.pump_cli.specs.Texts.{refusal_text}
use Rattle.pump_cli.specs.declared.refusal.Refusal.{Refusal}
use Rattle.pump_cli.specs.declared.cut.Cut.{Cut}
use Rattle.pump_cli.specs.declared.ending.Kind.TheVariants.{Ready}
use Rattle.pump_cli.specs.declared.status.Status.{Status}
use Rattle.pump_cli.specs.declared.status.Status.TheVariants.{TagsOut}

abbrev put_faults : ℕ → ℕ → PutFaults
put_faults on_out_count on_err_count = record { out = on_out_count; err = on_err_count }

abbrev put_ok : Result (Unit {0}) PutEnd
put_ok = Ok tt

abbrev put_err : PutEnd → Result (Unit {0}) PutEnd
put_err end = Err end

-- the last line
pub last_is_out : (why : Option Halt) (stops : List (Option Stop)) → is_out why ≡ true → last_pieces why stops ≡ err (line (codes "tags out")) ∷ []
unfolding last_pieces
last_is_out why stops out = rw out refl

pub last_is_spent : (why : Option Halt) (stops : List (Option Stop)) → is_out why ≡ false → has_any Ready stops ≡ true
    → last_pieces why stops ≡ err (line (codes "turns spent")) ∷ []
unfolding last_pieces
last_is_spent why stops out ready = rw (out, ready) refl

module _ {S T : Type 0} (course : Course S T) (before after : Taken) where
  -- cut while the turns were told
  pub turns_cut : (result : Result Status Cut) (cut : Cut) → result ≡ Err cut → PutsPrefix before after (pieces_of course.events)
      → Does (outcome_of_course course) before after result
  turns_cut result cut is puts =
      subst (Does (outcome_of_course course) before after) (sym is) (record {
        puts = prefix_of_more_puts before after (pieces_of course.events) (last_pieces course.standing.account.halt (hart_stops course.standing.machine.core)) puts;
        ends = tt;
      })

  module _ (mid : Taken) (why : Option Halt) (stops : List (Option Stop)) (why_is : why ≡ course.standing.account.halt)
      (stops_are : stops ≡ hart_stops course.standing.machine.core) (puts : PutsAll before mid (pieces_of course.events)) where
    last_are : last_pieces why stops ≡ last_pieces course.standing.account.halt (hart_stops course.standing.machine.core)
    last_are = ap (λ (w : Option Halt). last_pieces w stops) why_is ∙ ap (last_pieces course.standing.account.halt) stops_are

    -- cut while the last line was told
    pub last_cut : (result : Result Status Cut) (cut : Cut) → result ≡ Err cut → PutsPrefix mid after (last_pieces why stops)
        → Does (outcome_of_course course) before after result
    last_cut result cut is last =
        subst (Does (outcome_of_course course) before after) (sym is) (record {
          puts = puts_then_prefix before mid after (pieces_of course.events) _ puts (subst (PutsPrefix mid after) last_are last);
          ends = tt;
        })

    -- told as a whole
    pub run_ended : (status : Status) → status ≡ status_of why stops → PutsAll mid after (last_pieces why stops)
        → Does (outcome_of_course course) before after (Ok status)
    run_ended status is last = record {
      puts = puts_then_all before mid after (pieces_of course.events) _ puts (subst (PutsAll mid after) last_are last);
      ends = is ∙ ap (λ (w : Option Halt). status_of w stops) why_is ∙ ap (status_of course.standing.account.halt) stops_are;
    }

-- ---- out of tag numbers at the start

module _ (before after : Taken) (stops : List (Option Stop)) where
  -- cut while that was told
  pub start_cut : (result : Result Status Cut) (cut : Cut) → result ≡ Err cut → PutsPrefix before after (last_pieces (Some halt.TagNumbers) stops)
      → Does out_at_start before after result
  start_cut result cut is puts =
      subst (Does out_at_start before after) (sym is) (record {
        puts = subst (PutsPrefix before after) (last_is_out (Some halt.TagNumbers) stops refl) puts;
        ends = tt;
      })

  -- told as a whole
  pub start_told : PutsAll before after (last_pieces (Some halt.TagNumbers) stops) → Does out_at_start before after (Ok TagsOut)
  start_told puts = record { puts = subst (PutsAll before after) (last_is_out (Some halt.TagNumbers) stops refl) puts; ends = refl }

-- ---- refusals

module _ (refusal : Refusal) (bytes : List ℕ) (text : bytes ≡ line (refusal_text refusal)) (before after : Option (List ℕ)) (faults_before faults_after : ℕ) where
  told_as : (end : Result (Unit {0}) PutEnd) (out : Option (List ℕ)) → Puts (record { out = out; err = before }) (record { out = out; err = after }) (err bytes ∷ []) end
      → Puts (record { out = out; err = before }) (record { out = out; err = after }) (refusal_outcome refusal).pieces end
  told_as end out puts =
      subst (λ (told : List ℕ). Puts (record { out = out; err = before }) (record { out = out; err = after }) (err told ∷ []) end) text puts

  pub refusal_told : (status : Status) → status ≡ status_of_refusal refusal → TakesAll before after bytes → faults_after ≡ faults_before
      → Tells refusal before after faults_before faults_after (Ok status)
  refusal_told status is takes faults = record {
    does = λ out. record { puts = told_as (Ok tt) out (put_on_err before after out bytes (Ok tt) takes (λ e. absurd (let h : put_ok ≡ put_err put_end.Failed = e in cc)) (λ e. absurd (let h : put_ok ≡ put_err put_end.Memory = e in cc))); ends = is };
    faults = λ out. ap (λ (count : ℕ). put_faults out count) faults;
    status = is;
  }

  pub refusal_cut : (end : PutEnd) (cut : Cut) → cut ≡ cut_of_put end → (put_err end ≡ Err put_end.Failed → TakesPrefix before after bytes)
      → (put_err end ≡ Err put_end.Memory → after ≡ before) → PutCause {T = Unit {0}} faults_before faults_after (Err end)
      → Tells refusal before after faults_before faults_after (Err cut)
  refusal_cut end cut is failed memory cause =
      subst (λ (why : Cut). Tells refusal before after faults_before faults_after (Err why)) (sym is) (record {
        does = λ out. record { puts = told_as (Err end) out (put_on_err before after out bytes (Err end) tt failed memory); ends = tt };
        faults = λ out. by_end end cause out;
        status = tt;
      })
    where
      by_end : (end : PutEnd) → PutCause {T = Unit {0}} faults_before faults_after (Err end) → (out : ℕ)
          → PutsFaultBy {A = Status} (record { out = out; err = faults_before }) (record { out = out; err = faults_after }) (Err (cut_of_put end))
      by_end put_end.Failed cause out = on_err refl cause
      by_end put_end.Memory cause out = ap (λ (count : ℕ). put_faults out count) cause
