-- What becomes of a session, by its end and by its commands.
use Rattle.std.proofs.Common.{◌≡◌, ℕ, ◌<◌, Bool, true, false, nat_lt, inl, inr, List, [], ◌∷◌, length, Option, Some, None, Result, Ok, Err, IfErr, IfSome, OnOk, if◌then◌else◌, refl, ap, sym, subst}
use Rattle.std.proofs.lemmas.Bool.{lt-ltb}
use Rattle.std.specs.List.{list_all}
use Rattle.host_io.specs.Pieces.{Piece, out}
use Rattle.policy_trait.specs.Model.{PolicyModel}
use Rattle.shell_lang.specs.declared.command.Command.{Command}
use Rattle.shell_lang.specs.declared.command.Command.TheVariants as command
use Rattle.shell_turns.specs.Cuts.{ObeyCause, PutsOut, TurnsCut, cut_by}
use Rattle.shell_turns.specs.Order.{Order, listed, only, rounds_from}
use Rattle.shell_turns.specs.Turns.{Leaves, turns}
use Rattle.shell_turns.specs.declared.ends.ObeyEnd.{ObeyEnd}
use Rattle.shell_turns.specs.declared.ends.ObeyEnd.TheVariants as ends
use Rattle.shell_turns.proofs.PutLemmas.{gives, puts_as, puts_not_begun, puts_nothing}
use Rattle.shell_run.specs.Lines.{refusal_line, turns_line}
use Rattle.shell_run.specs.Replies.{CutAs, IsCut, IsCutInCount, Reply, backing, breaking, reply_if, clearing, is_kept, reply_to, running, silent, telling, with_break}
use Rattle.shell_run.specs.Session.{SessionState, ending, is_hart, is_place, is_range}

-- ---- commands that make no turn

-- what only tells leaves the session as it was
pub stays_checked : {S T : Type 0} (s : SessionState S T) (test : Bool) (pieces : List Piece) → s ≡ (reply_if s test (telling s pieces)).after
stays_checked s true pieces = refl
stays_checked s false pieces = refl

module _ {S T : Type 0} (eq : T → T → Bool) (m : PolicyModel T S) (s : SessionState S T) (old new : Option (List ℕ)) where
  -- cut short, it stands as it did
  pub cut_unmoved : (t : SessionState S T) (told : Result (Unit {0}) ObeyEnd) → IfErr told (λ end. t ≡ s) → IfErr told (λ end. IsCut eq m s None t old new end)
  cut_unmoved t (Ok x) same = tt
  cut_unmoved t (Err end) same = record {
    start = ap (λ (u : SessionState S T). u.start) same;
    breaks = ap (λ (u : SessionState S T). u.breaks) same;
    ended = ap (λ (u : SessionState S T). u.ended) same;
    cut = (ap (λ (u : SessionState S T). u.standing) same, ap (λ (u : SessionState S T). u.feed) same);
  }

  pub cut_still : (told : Result (Unit {0}) ObeyEnd) → IfErr told (λ end. IsCut eq m s None s old new end)
  cut_still (Ok x) = tt
  cut_still (Err end) = record { start = refl; breaks = refl; ended = refl; cut = (refl, refl) }

-- whatever the answer, nothing was put, and only memory ran out
pub puts_none_told : (old : Option (List ℕ)) (told : Result (Unit {0}) ObeyEnd) → PutsOut old old [] told
puts_none_told old (Ok x) = puts_nothing old x
puts_none_told old (Err end) = puts_not_begun (Unit {0}) old [] end

pub no_fault_told : (faults : ℕ) (told : Result (Unit {0}) ObeyEnd) → IfErr told (λ end. end ≡ ends.Memory) → ObeyCause faults faults told
no_fault_told faults (Ok x) memory = refl
no_fault_told faults (Err ends.Memory) memory = refl
no_fault_told faults (Err ends.WriteFault) memory = absurd cc

-- ---- turns that are cut short

module _ {S T : Type 0} (eq : T → T → Bool) (m : PolicyModel T S) (s : SessionState S T) (budget : ℕ) (order : Order) (t : SessionState S T)
    (start : t.start ≡ s.start) (kept : t.breaks ≡ s.breaks) (ended : t.ended ≡ s.ended) (breaks : List ℕ) (breaks_are : breaks ≡ s.breaks) where
  -- in a turn
  pub cut_in_turns : (old new : Option (List ℕ)) (end : ObeyEnd) → TurnsCut eq m breaks budget order s.standing s.feed t.standing t.feed old new end
      → IsCut eq m s (Some (budget, order)) t old new end
  cut_in_turns old new end cut = record {
    start = start;
    breaks = kept;
    ended = ended;
    cut = inl (subst (λ (set : List ℕ). TurnsCut eq m set budget order s.standing s.feed t.standing t.feed old new end) breaks_are cut);
  }

  -- while their number was told
  pub cut_in_count : (count : ℕ) → Leaves (turns eq m breaks budget order s.standing s.feed) t.standing t.feed count → (old mid new : Option (List ℕ))
      → PutsOut old mid (turns eq m breaks budget order s.standing s.feed).pieces (gives count) → (put : Result (Unit {0}) ObeyEnd)
      → PutsOut mid new (out (turns_line count) ∷ []) put → IfErr put (λ end. IsCut eq m s (Some (budget, order)) t old new end)
  cut_in_count count leaves old mid new puts (Ok x) line = tt
  cut_in_count count leaves old mid new puts (Err end) line = record {
    start = start;
    breaks = kept;
    ended = ended;
    cut = inr (subst (λ (set : List ℕ). IsCutInCount eq m set budget order s.standing s.feed t.standing t.feed old new end) breaks_are (record {
      standing = leaves.standing;
      left = leaves.feed;
      taken = mid;
      whole = puts_as old mid (turns eq m breaks budget order s.standing s.feed).pieces count tt puts;
      prefix = subst (λ (counted : ℕ). PutsOut mid new (out (turns_line counted) ∷ []) (cut_by end)) leaves.count line;
    }));
  }

-- ---- a command that is executed ends no session

module _ {S T : Type 0} (s : SessionState S T) where
  checked_lives : (test : Bool) (reply : Reply S T) → reply.after.ended ≡ s.ended → (reply_if s test reply).after.ended ≡ s.ended
  checked_lives true reply is = is
  checked_lives false reply is = refl

  break_lives : (a : ℕ) (kept : Bool) → (if kept then silent s else reply_if s (nat_lt (length s.breaks) 64) (record { after = with_break s a; pieces = [] })).after.ended ≡ s.ended
  break_lives a true = refl
  break_lives a false = checked_lives (nat_lt (length s.breaks) 64) (record { after = with_break s a; pieces = [] }) refl

  module _ (eq : T → T → Bool) (m : PolicyModel T S) where
    run_lives : (budget : ℕ) (order : Order) → (running eq m s budget order).after.ended ≡ s.ended
    unfolding running
    run_lives budget order = refl

    back_lives : (turns : ℕ) → (backing eq m s turns).after.ended ≡ s.ended
    unfolding backing
    back_lives turns = refl

    pub ended_stays : (c : Command) → (reply_to eq m s c).after.ended ≡ s.ended
    unfolding reply_to
    ended_stays command.Blank = refl
    ended_stays (command.Step h n) = checked_lives (is_hart s h) _ (run_lives n (only h))
    ended_stays (command.Run n) = run_lives n (rounds_from 0)
    ended_stays (command.Turns harts) = checked_lives (list_all (is_hart s) harts) _ (run_lives (length harts) (listed harts))
    ended_stays (command.Back n) = back_lives n
    ended_stays (command.Feed bytes) = refl
    ended_stays (command.Regs h) = checked_lives (is_hart s h) _ refl
    ended_stays (command.Pc h) = checked_lives (is_hart s h) _ refl
    ended_stays (command.Mem a n) = checked_lives (is_range s a n) _ refl
    ended_stays (command.Tags a n) = checked_lives (is_range s a n) _ refl
    ended_stays (command.Dis a n) = checked_lives (is_range s a n) _ refl
    ended_stays (command.Why h) = checked_lives (is_hart s h) _ refl
    ended_stays command.Blocks = refl
    ended_stays command.Stats = refl
    ended_stays command.Sweeps = refl
    ended_stays (command.Break a) = checked_lives (is_place s a) (breaking s a) (break_lives a (is_kept s a))
    ended_stays (command.Clear a) = checked_lives (is_place s a) (clearing s a) refl
    ended_stays command.Reset = refl
    ended_stays command.Quit = refl

-- ---- a breakpoint

module _ {S T : Type 0} (s : SessionState S T) (a : ℕ) where
  abbrev break_reply : Bool → Bool → Reply S T
  break_reply kept room = if kept then silent s else reply_if s room (record { after = with_break s a; pieces = [] })

  -- one that is kept already
  pub break_there : is_kept s a ≡ true → breaking s a ≡ silent s
  break_there kept = ap (λ test. break_reply test (nat_lt (length s.breaks) 64)) kept

  -- a new one, for which there is room
  pub break_more : is_kept s a ≡ false → length s.breaks < 64 → breaking s a ≡ record { after = with_break s a; pieces = [] }
  break_more kept few = λ j. break_reply (kept j) (lt-ltb (length s.breaks) 64 few j)

  -- a 65th
  pub break_full : is_kept s a ≡ false → length s.breaks ≡ 64 → breaking s a ≡ telling s (out (refusal_line 4) ∷ [])
  break_full kept full = λ j. break_reply (kept j) ((ap (λ n. nat_lt n 64) full) j)

-- what is said of an answer whatever it is
pub at_ok : {A E : Type 0} (r : Result A E) (P : Type 0) → P → OnOk r P
at_ok (Ok x) P holds = holds
at_ok (Err end) P holds = tt

pub at_err : {A E : Type 0} (r : Result A E) (P : E → Type 0) → ((end : E) → P end) → IfErr r P
at_err (Ok x) P holds = tt
at_err (Err end) P holds = holds end

-- ---- a session by its end

-- what is said of a session that had ended so, and of one that goes on
pub some_told : {A : Type 0} (o : Option A) (x : A) (P : A → Type 0) → o ≡ Some x → P x → IfSome o P
some_told o x P is holds = subst (λ known. IfSome known P) (sym is) holds

pub none_told : {A : Type 0} (o : Option A) (P : A → Type 0) → o ≡ None → IfSome o P
none_told o P is = subst (λ known. IfSome known P) (sym is) tt

module _ {S T : Type 0} (eq : T → T → Bool) (m : PolicyModel T S) (s : SessionState S T) (old new : Option (List ℕ)) (end : ObeyEnd) where
  cut_beside : (asked : Option (ℕ × Order)) (t : SessionState S T) → CutAs eq m s asked t old new end → CutAs eq m (ending s end) asked (ending t end) old new end
  cut_beside None t cut = cut
  cut_beside (Some asked) t cut = cut

  -- a session that ends as its command was cut short
  pub cut_ends : (asked : Option (ℕ × Order)) (t u : SessionState S T) → u ≡ t → IsCut eq m s asked t old new end
      → IsCut eq m (ending s end) asked (ending u end) old new end
  cut_ends asked t u same cut =
      subst (λ (v : SessionState S T). IsCut eq m (ending s end) asked (ending v end) old new end) (sym same)
      (record { start = cut.start; breaks = cut.breaks; ended = refl; cut = cut_beside asked t cut.cut })
