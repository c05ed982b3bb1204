-- Rounds, one turn at a time, and what is put of them on the way.
use Rattle.std.proofs.Common.{◌≡◌, ℕ, zero, suc, ◌+◌, ◌-◌, ◌<◌, Bool, true, false, List, [], ◌∷◌, ◌++◌, Option, Some, None, Result, Err, refl, ap, sym, subst, ◌∙◌, if◌then◌else◌, arith}
use Rattle.std.proofs.lemmas.List.Concat.{flat_map-cons}
use Rattle.host_io.specs.Pieces.{Piece, PutsAll, PutsFirst, PutsPrefix, PutsSoFar, Taken}
use Rattle.host_io.proofs.PieceLemmas.{puts_are_cut, puts_are_cut_between, puts_are_whole, puts_begin, puts_go_on}
use Rattle.policy_trait.specs.Model.{PolicyModel}
use Rattle.turn_steps.specs.Feeds.{Tape}
use Rattle.engine_trait.specs.Events.{Event, event_of}
use Rattle.engine_trait.specs.EngineLaws.{is_made}
use Rattle.engine_trait.specs.Standing.{Standing, Stepped, step}
use Rattle.engine_trait.specs.declared.ends.TurnEnd.{TurnEnd}
use Rattle.engine_trait.specs.declared.ends.TurnEnd.TheVariants as ends
use Rattle.engine_trait.proofs.StepLemmas.{step_follows}
use Rattle.engine_trait.proofs.TurnLemmas.{event_of-ended, event_of-hart}
use Rattle.rounds.specs.Course.{Course, after_turn, next_turn, rounds, stays, taking}
use Rattle.rounds.specs.Shown.{pieces_of, event_pieces, shown_by}

pub same_err : {A E : Type 0} (x y : E) → ◌≡◌ {A = Result A E} (Err x) (Err y) → x ≡ y
same_err x y e = cc

-- a turn that was not made shows nothing
unmade_shows_nothing : (h : ℕ) (ended : TurnEnd) → is_made ended ≡ false → shown_by h ended ≡ []
unmade_shows_nothing h (ends.Ran byte) unmade = absurd (cc unmade)
unmade_shows_nothing h ends.Break unmade = refl
unmade_shows_nothing h (ends.Stopped why) unmade = absurd (cc unmade)
unmade_shows_nothing h ends.Idle unmade = refl
unmade_shows_nothing h ends.TagsOut unmade = refl
unmade_shows_nothing h ends.Memory unmade = refl

module _ {S T : Type 0} (eq : T → T → Bool) (m : PolicyModel T S) (e : Standing S T) (feed : Tape) (h : ℕ) where
  -- what the event shows is what the step does
  shown_made : is_made (step eq m e feed h).ended ≡ true → event_pieces (event_of m e.machine feed h) ≡ shown_by h (step eq m e feed h).ended
  shown_made made =
      ap (λ (hart : ℕ). shown_by hart (event_of m e.machine feed h).ended) (event_of-hart m e.machine feed h)
      ∙ ap (shown_by h) (event_of-ended m e.machine feed h ∙ sym (step_follows eq m e feed h made).ended)

  pieces_if : (made : Bool) (course : Course S T) → is_made (step eq m e feed h).ended ≡ made
      → pieces_of (after_turn made h (event_of m e.machine feed h) course).events ≡ shown_by h (step eq m e feed h).ended ++ pieces_of course.events
  pieces_if true course is =
      flat_map-cons event_pieces (event_of m e.machine feed h) course.events
      ∙ ap (λ (pieces : List Piece). pieces ++ pieces_of course.events) (shown_made is)
  pieces_if false course is =
      ap (λ (pieces : List Piece). pieces ++ pieces_of course.events) (sym (unmade_shows_nothing h (step eq m e feed h).ended is))

  pub pieces_after : (course : Course S T) → pieces_of (after_turn (is_made (step eq m e feed h).ended) h (event_of m e.machine feed h) course).events
      ≡ shown_by h (step eq m e feed h).ended ++ pieces_of course.events
  pieces_after course = pieces_if (is_made (step eq m e feed h).ended) course refl

  -- a step in which the turn was made leaves an engine that runs on
  pub made_runs : (f : Standing S T) (fed : Tape) (ended : TurnEnd) → step eq m e feed h ≡ record { standing = f; feed = fed; ended = ended }
      → is_made ended ≡ true → f.account.halt ≡ None
  made_runs f fed ended is made =
      sym (ap (λ (s : Stepped S T). s.standing.account.halt) is)
      ∙ (step_follows eq m e feed h (ap (λ (s : Stepped S T). is_made s.ended) is ∙ made)).halt

-- a turn before others changes neither how they end nor the feed that they leave
module _ {S T : Type 0} (h : ℕ) (event : Event T) (course : Course S T) where
  pub after-standing : (counted : Bool) → (after_turn counted h event course).standing ≡ course.standing
  after-standing true = refl
  after-standing false = refl

  pub after-feed : (counted : Bool) → (after_turn counted h event course).feed ≡ course.feed
  after-feed true = refl
  after-feed false = refl

-- and comes first in their order, where it is counted
pub after_order : {S T : Type 0} (counted : Bool) (h : ℕ) (event : Event T) (course : Course S T)
    → (after_turn counted h event course).order ≡ (if counted then h ∷ course.order else course.order)
after_order true h event course = refl
after_order false h event course = refl

-- on the way to all of some rounds: those that are left, and what the sinks have taken
pub record IsLeft {S T : Type 0} (left all : Course S T) (start now : Taken) : Type 0 where
  pub standing : left.standing ≡ all.standing
  pub feed : left.feed ≡ all.feed
  pub puts : PutsSoFar start now (pieces_of left.events) (pieces_of all.events)

-- none is left
pub record IsDone {S T : Type 0} (e : Standing S T) (fed : Tape) (all : Course S T) (start now : Taken) : Type 0 where
  pub standing : e ≡ all.standing
  pub feed : fed ≡ all.feed
  pub puts : PutsAll start now (pieces_of all.events)

module _ {S T : Type 0} (eq : T → T → Bool) (m : PolicyModel T S) where
  -- the others after a turn of hart h
  abbrev pub after_step : Standing S T → Tape → ℕ → Course S T → Course S T
  after_step e feed h course = after_turn (is_made (step eq m e feed h).ended) h (event_of m e.machine feed h) course

  pub rounds-over : (n from : ℕ) (e : Standing S T) (feed : Tape) → n ≡ 0 → rounds eq m n from e feed ≡ stays e feed
  unfolding rounds
  rounds-over n from e feed is = ap (λ (k : ℕ). rounds eq m k from e feed) is

  pub rounds-none : (n from : ℕ) (e : Standing S T) (feed : Tape) → next_turn e from ≡ None → rounds eq m n from e feed ≡ stays e feed
  unfolding rounds
  rounds-none zero from e feed none = refl
  rounds-none (suc n) from e feed none =
      ap (λ (next : Option ℕ). taking next (stays e feed) (λ h. after_step e feed h (rounds eq m n (h + 1) (step eq m e feed h).standing (step eq m e feed h).feed))) none

  pub rounds-some : (n from h : ℕ) (e : Standing S T) (feed : Tape) → next_turn e from ≡ Some h
      → rounds eq m (suc n) from e feed ≡ after_step e feed h (rounds eq m n (h + 1) (step eq m e feed h).standing (step eq m e feed h).feed)
  unfolding rounds
  rounds-some n from h e feed some =
      ap (λ (next : Option ℕ). taking next (stays e feed) (λ h. after_step e feed h (rounds eq m n (h + 1) (step eq m e feed h).standing (step eq m e feed h).feed))) some

  pub left_begins : (limit n : ℕ) (e : Standing S T) (feed : Tape) (start : Taken) → n ≡ limit
      → IsLeft (rounds eq m n 0 e feed) (rounds eq m limit 0 e feed) start start
  left_begins limit n e feed start is = record {
    standing = ap (λ (k : ℕ). (rounds eq m k 0 e feed).standing) is;
    feed = ap (λ (k : ℕ). (rounds eq m k 0 e feed).feed) is;
    puts =
        subst (λ (k : ℕ). PutsSoFar start start (pieces_of (rounds eq m k 0 e feed).events) (pieces_of (rounds eq m limit 0 e feed).events)) (sym is)
        (puts_begin start (pieces_of (rounds eq m limit 0 e feed).events));
  }

  pub left_ends : (left : Course S T) (e : Standing S T) (feed : Tape) (all : Course S T) (start now : Taken)
      → left ≡ stays e feed → IsLeft left all start now → IsDone e feed all start now
  left_ends left e feed all start now is rest = record {
    standing = sym (ap (λ (c : Course S T). c.standing) is) ∙ rest.standing;
    feed = sym (ap (λ (c : Course S T). c.feed) is) ∙ rest.feed;
    puts =
        puts_are_whole start now (pieces_of all.events)
        (subst (λ (c : Course S T). PutsSoFar start now (pieces_of c.events) (pieces_of all.events)) is rest.puts);
  }

  -- a turn of the rounds that are left
  module _ (limit counter from h : ℕ) (e : Standing S T) (feed : Tape) (all : Course S T) (start now new : Taken)
      (below : counter < limit) (some : next_turn e from ≡ Some h) (rest : IsLeft (rounds eq m (limit - counter) from e feed) all start now) where
    abbrev others : Course S T
    others = rounds eq m (limit - (counter + 1)) (h + 1) (step eq m e feed h).standing (step eq m e feed h).feed

    left_is : rounds eq m (limit - counter) from e feed ≡ after_step e feed h others
    left_is =
        ap (λ (n : ℕ). rounds eq m n from e feed) (let e : limit - counter ≡ suc (limit - (counter + 1)) = omega arith in e)
        ∙ rounds-some (limit - (counter + 1)) from h e feed some

    puts_left : PutsSoFar start now (shown_by h (step eq m e feed h).ended ++ pieces_of others.events) (pieces_of all.events)
    puts_left =
        subst (λ (pieces : List Piece). PutsSoFar start now pieces (pieces_of all.events))
        (ap (λ (c : Course S T). pieces_of c.events) left_is ∙ pieces_after eq m e feed h others) rest.puts

    on_from : PutsAll now new (shown_by h (step eq m e feed h).ended) → IsLeft others all start new
    on_from puts = record {
      standing =
          sym (after-standing h (event_of m e.machine feed h) others (is_made (step eq m e feed h).ended))
          ∙ sym (ap (λ (c : Course S T). c.standing) left_is) ∙ rest.standing;
      feed =
          sym (after-feed h (event_of m e.machine feed h) others (is_made (step eq m e feed h).ended))
          ∙ sym (ap (λ (c : Course S T). c.feed) left_is) ∙ rest.feed;
      puts = puts_go_on start now new (shown_by h (step eq m e feed h).ended) (pieces_of others.events) (pieces_of all.events) puts_left puts;
    }

    pub left_goes_on : (f : Standing S T) (fed : Tape) → f ≡ (step eq m e feed h).standing → fed ≡ (step eq m e feed h).feed
        → PutsAll now new (shown_by h (step eq m e feed h).ended) → IsLeft (rounds eq m (limit - (counter + 1)) (h + 1) f fed) all start new
    left_goes_on f fed f_is fed_is puts =
        subst (λ (g : Standing S T). IsLeft (rounds eq m (limit - (counter + 1)) (h + 1) g fed) all start new) (sym f_is)
        (subst (λ (tape : Tape). IsLeft (rounds eq m (limit - (counter + 1)) (h + 1) (step eq m e feed h).standing tape) all start new) (sym fed_is)
        (on_from puts))

    pub left_is_cut : PutsPrefix now new (shown_by h (step eq m e feed h).ended) → PutsPrefix start new (pieces_of all.events)
    left_is_cut cut = puts_are_cut start now new (shown_by h (step eq m e feed h).ended) (pieces_of others.events) (pieces_of all.events) puts_left cut

    pub left_is_cut_between : PutsFirst now new (shown_by h (step eq m e feed h).ended) → PutsFirst start new (pieces_of all.events)
    left_is_cut_between cut =
        puts_are_cut_between start now new (shown_by h (step eq m e feed h).ended) (pieces_of others.events) (pieces_of all.events) puts_left cut
