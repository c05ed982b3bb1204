-- What turns tell is told of the events of their run.
use Rattle.std.proofs.Common.{◌≡◌, ℕ, zero, suc, Bool, true, false, ◌||◌, List, [], ◌∷◌, ◌++◌, map, Option, Some, None, if◌then◌else◌, refl, ap, sym, subst, ◌∙◌, append-nil, append_assoc}
use Rattle.std.specs.List.{flat_map, last_or}
use Rattle.std.proofs.lemmas.Bool.{false≢true}
use Rattle.host_io.specs.Pieces.{Piece}
use Rattle.policy_trait.specs.Model.{PolicyModel}
use Rattle.turn_steps.specs.Feeds.{Tape}
use Rattle.engine_trait.specs.EngineLaws.{is_made}
use Rattle.engine_trait.specs.Events.{Event, event_of}
use Rattle.engine_trait.specs.Machine.{Machine, hart_at}
use Rattle.engine_trait.specs.Runs.{run_along, turn}
use Rattle.engine_trait.specs.Standing.{Standing, Stepped, out_of_words, step}
use Rattle.engine_trait.specs.Turn.{turn_of}
use Rattle.engine_trait.specs.declared.ends.Halt.{Halt}
use Rattle.engine_trait.specs.declared.ends.Halt.TheVariants as halt
use Rattle.engine_trait.specs.declared.ends.TurnEnd.{TurnEnd}
use Rattle.engine_trait.specs.declared.ends.TurnEnd.TheVariants as ends
use Rattle.engine_trait.proofs.StepLemmas.{ready_parts, step_follows, step_not_memory, step_runs_out, step_stays_idle}
use Rattle.engine_trait.proofs.TurnLemmas.{event_of-ended, event_of-hart}
use Rattle.shell_turns.specs.Events.{TellsEvents, event_pieces, harts_of, last_break, out_since, told_of_events}
use Rattle.shell_turns.specs.Order.{Next, Order, next_of}
use Rattle.shell_turns.specs.Told.{break_pieces, end_pieces, is_break, is_last, is_out}
use Rattle.shell_turns.specs.Turns.{Turns, going_on, no_turns, pc_after, step_pieces, then_others, turns}
use Rattle.shell_turns.proofs.RunLemmas.{IsRun, turns_run}

-- ---- the harts of the events

pub events_harts : {S T : Type 0} (m : PolicyModel T S) (s : Machine S T) (feed : Tape) (harts : List ℕ) → harts_of (run_along m s feed (map turn harts)).events ≡ harts
events_harts m s feed [] = refl
events_harts m s feed (h ∷ harts) =
    λ j. event_of-hart m s feed h j ∷ events_harts m (turn_of m s feed h).machine (turn_of m s feed h).feed harts j

-- ---- no turn

never_since : (why : Option Halt) → out_since why why ≡ []
never_since None = refl
never_since (Some why) = refl

none_told : {S T : Type 0} (breaks : List ℕ) (e : Standing S T) → [] ≡ told_of_events {T = T} breaks e e []
unfolding told_of_events
none_told breaks e = sym (never_since e.account.halt)

-- ---- a turn that was counted, before others

-- the line of a break after a turn of hart h that ended so, with that pc, where it is one
abbrev told_break : List ℕ → ℕ → ℕ → TurnEnd → List Piece
told_break breaks h pc ended = break_pieces (is_break breaks pc ended) h pc

regrouped : (first second third since : List Piece) → (first ++ []) ++ (second ++ third ++ since) ≡ first ++ second ++ third ++ since
regrouped first second third since =
    ap (λ pieces. pieces ++ (second ++ third ++ since)) (append-nil first)
    ∙ sym (append_assoc (first ++ second) third since ∙ append_assoc first second (third ++ since) ∙ ap (λ more. first ++ more) (sym (append_assoc second third since)))

module _ {S T : Type 0} (m : PolicyModel T S) (breaks : List ℕ) (s : Machine S T) (feed : Tape) (event : Event T) (f : Standing S T) (since : List Piece) where
  -- the events of the others
  abbrev later : List ℕ → List (Event T)
  later harts = (run_along m s feed (map turn harts)).events

  -- what they tell
  abbrev told_later : List ℕ → List Piece
  told_later harts = flat_map event_pieces (later harts) ++ last_break breaks f.machine (last_or None (later harts)) ++ since

  -- the same with that event in front
  abbrev told_first : List ℕ → List Piece
  told_first harts = flat_map event_pieces (event ∷ later harts) ++ last_break breaks f.machine (last_or None (event ∷ later harts)) ++ since

  before_more : (h : ℕ) (harts : List ℕ) (pc : ℕ) (broke : Bool) → (broke ≡ true → h ∷ harts ≡ [])
      → (event_pieces event ++ break_pieces broke event.hart pc) ++ told_later (h ∷ harts) ≡ told_first (h ∷ harts)
  before_more h harts pc true last = absurd (cc (last refl))
  before_more h harts pc false last =
      regrouped (event_pieces event) (flat_map event_pieces (later (h ∷ harts))) (last_break breaks f.machine (last_or None (later (h ∷ harts)))) since

  -- a turn that is no break, or has none behind it
  event_first : (harts : List ℕ) (pc : ℕ) → (harts ≡ [] → (hart_at f.machine.core event.hart).pc ≡ pc) → (is_break breaks pc event.ended ≡ true → harts ≡ [])
      → (event_pieces event ++ told_break breaks event.hart pc event.ended) ++ told_later harts ≡ told_first harts
  event_first [] pc here last =
      λ j. (sym (append-nil (event_pieces event)) j ++ told_break breaks event.hart (sym (here refl) j) event.ended) ++ since
  event_first (h ∷ harts) pc here last = before_more h harts pc (is_break breaks pc event.ended) last

module _ {S T : Type 0} (eq : T → T → Bool) (m : PolicyModel T S) (breaks : List ℕ) where
  -- what the turns tell is told of their events
  abbrev pub IsTold : Standing S T → Tape → Turns S T → Type 0
  IsTold e feed t = t.pieces ≡ told_of_events breaks e t.standing (run_along m e.machine feed (map turn t.harts)).events

  module _ (e : Standing S T) (feed : Tape) (h : ℕ) where
    abbrev stepped : Stepped S T
    stepped = step eq m e feed h

    abbrev pc : ℕ
    pc = pc_after h stepped

    abbrev event : Event T
    event = event_of m e.machine feed h

    made_first : is_made stepped.ended ≡ true → (rest : Turns S T) → IsTold stepped.standing stepped.feed rest
        → (rest.harts ≡ [] → rest.standing.machine ≡ stepped.standing.machine) → (is_break breaks pc stepped.ended ≡ true → rest.harts ≡ [])
        → step_pieces breaks h stepped ++ rest.pieces ≡ told_of_events breaks e rest.standing (run_along m e.machine feed (map turn (h ∷ rest.harts))).events
    unfolding told_of_events
    made_first made rest told here last =
        let follows = step_follows eq m e feed h made in
        let hart = event_of-hart m e.machine feed h in
        let ended : event.ended ≡ stepped.ended = event_of-ended m e.machine feed h ∙ sym follows.ended in
        let halt : stepped.standing.account.halt ≡ e.account.halt = follows.halt ∙ sym (ready_parts e h follows.ready).0 in
        let turned = turn_of m e.machine feed h in
        let since = out_since e.account.halt rest.standing.account.halt in
        (λ j. (end_pieces (sym hart j) (sym ended j) ++ told_break breaks (sym hart j) pc (sym ended j)) ++ told j)
        ∙ (λ j. (event_pieces event ++ told_break breaks event.hart pc event.ended)
        ++ (flat_map event_pieces (run_along m (follows.machine j) (follows.fed j) (map turn rest.harts)).events
        ++ last_break breaks rest.standing.machine (last_or None (run_along m (follows.machine j) (follows.fed j) (map turn rest.harts)).events)
        ++ out_since (halt j) rest.standing.account.halt))
        ∙ event_first m breaks turned.machine turned.feed event rest.standing since rest.harts pc
        (λ none. λ j. (hart_at (here none j).core (hart j)).pc)
        (λ broke. last (ap (is_break breaks pc) (sym ended) ∙ broke))

    -- ---- the others after a turn of hart h, or none

    abbrev rest_of : Bool → Turns S T → Turns S T
    rest_of last others = if last then no_turns stepped.standing stepped.feed else others

    rest_told : (last : Bool) (others : Turns S T) → IsTold stepped.standing stepped.feed others → IsTold stepped.standing stepped.feed (rest_of last others)
    rest_told true others told = none_told breaks stepped.standing
    rest_told false others told = told

    rest_here : (last : Bool) (others : Turns S T) → IsRun eq m breaks stepped.standing stepped.feed others → (rest_of last others).harts ≡ []
        → (rest_of last others).standing.machine ≡ stepped.standing.machine
    rest_here true others run none = refl
    rest_here false others run none = run.machine ∙ ap (λ harts. (run_along m stepped.standing.machine stepped.feed (map turn harts)).machine) none

    rest_none : (last : Bool) (others : Turns S T) → last ≡ true → (rest_of last others).harts ≡ []
    rest_none true others is = refl
    rest_none false others is = absurd (false≢true is)

    made_told : is_made stepped.ended ≡ true → (others : Turns S T) → IsRun eq m breaks stepped.standing stepped.feed others
        → IsTold stepped.standing stepped.feed others → IsTold e feed (then_others breaks h stepped others)
    made_told made others run told =
        let last = is_last breaks pc stepped.ended in
        let rest = rest_of last others in
        subst (λ harts. step_pieces breaks h stepped ++ rest.pieces ≡ told_of_events breaks e rest.standing (run_along m e.machine feed (map turn harts)).events)
        (sym (ap (λ (is_so : Bool). (if is_so then h ∷ [] else []) ++ rest.harts) made))
        (made_first made rest (rest_told last others told) (rest_here last others run)
        (λ broke. rest_none last others (ap (λ is_so. is_so || is_out stepped.ended) broke)))

    -- ---- a turn that was not counted

    -- an engine that ran is out of tag numbers since then
    out_told : e.account.halt ≡ None → out_since None (Some halt.TagNumbers) ≡ told_of_events {T = T} breaks e (out_of_words eq m e feed h).standing []
    unfolding told_of_events
    out_told ran = λ j. out_since (sym ran j) (Some halt.TagNumbers)

    abbrev Told : Turns S T → Stepped S T → Type 0
    Told others s = IsTold e feed (then_others breaks h s others)

    told_by : (end : TurnEnd) → stepped.ended ≡ end → (others : Turns S T) → IsRun eq m breaks stepped.standing stepped.feed others
        → IsTold stepped.standing stepped.feed others → Told others stepped
    told_by (ends.Ran byte) is others run told = made_told (ap is_made is) others run told
    told_by ends.Break is others run told = made_told (ap is_made is) others run told
    told_by (ends.Stopped why) is others run told = made_told (ap is_made is) others run told
    told_by ends.Idle is others run told =
        let idle = (step_stays_idle eq m e feed h is).idle in
        subst (Told others) (sym idle) (subst (λ (s : Stepped S T). IsTold s.standing s.feed others) idle told)
    told_by ends.TagsOut is others run told =
        let out = step_runs_out eq m e feed h is in
        subst (Told others) (sym out.out) (out_told (ready_parts e h out.ready).0)
    told_by ends.Memory is others run told = absurd (step_not_memory eq m e feed h is)

  next_told : (next : Next) (e : Standing S T) (feed : Tape) (go : ℕ → Order → Turns S T) → ((h : ℕ) (rest : Order) → IsTold e feed (go h rest))
      → IsTold e feed (going_on next (no_turns e feed) go)
  next_told None e feed go told = none_told breaks e
  next_told (Some next) e feed go told = told next.0 next.1

  pub turns_told : (budget : ℕ) (order : Order) (e : Standing S T) (feed : Tape) → IsTold e feed (turns eq m breaks budget order e feed)
  unfolding turns
  turns_told zero order e feed = none_told breaks e
  turns_told (suc n) order e feed =
      next_told (next_of order e) e feed _ λ h rest.
      let f = step eq m e feed h in
      told_by e feed h f.ended refl (turns eq m breaks n rest f.standing f.feed) (turns_run eq m breaks n rest f.standing f.feed)
      (turns_told n rest f.standing f.feed)

  -- the events of their run are those of the turns, and what they tell is told of them
  pub turns_tell : (budget : ℕ) (order : Order) (e : Standing S T) (feed : Tape)
      → TellsEvents breaks e (run_along m e.machine feed (map turn (turns eq m breaks budget order e feed).harts)).events (turns eq m breaks budget order e feed)
  turns_tell budget order e feed =
      record { harts = events_harts m e.machine feed (turns eq m breaks budget order e feed).harts; told = turns_told budget order e feed }
