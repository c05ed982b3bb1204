-- Turns one at a time, and what is put of them on the way.
use Rattle.std.proofs.Common.{◌≡◌, ℕ, zero, suc, ◌+◌, ◌-◌, ◌<◌, ◌≤◌, inl, inr, Bool, true, false, List, [], ◌++◌, length, Option, Some, None, if◌then◌else◌, refl, ap, sym, subst, ◌∙◌, append-nil, append_assoc, arith}
use Rattle.host_io.specs.Pieces.{Piece}
use Rattle.policy_trait.specs.Model.{PolicyModel}
use Rattle.turn_steps.specs.Feeds.{Tape}
use Rattle.engine_trait.specs.Standing.{GivesUp, Standing, Stepped, step}
use Rattle.shell_turns.specs.Cuts.{GaveUp, IsCutInEngine, IsCutInTelling, IsMade, PutsOut, TurnCut, TurnsCut, all_put, cut_by}
use Rattle.shell_turns.specs.Order.{Order, next_of}
use Rattle.shell_turns.specs.Told.{counted_harts, is_last}
use Rattle.shell_turns.specs.Turns.{Leaves, Turns, behind, going_on, no_turns, pc_after, step_pieces, then_others, turns}
use Rattle.shell_turns.specs.declared.ends.ObeyEnd.{ObeyEnd}
use Rattle.shell_turns.specs.declared.ends.ObeyEnd.TheVariants as ends
use Rattle.shell_turns.proofs.PutLemmas.{done, fails, gives, puts_as, puts_cut_in, puts_on}

-- turns behind others, behind others
behind_twice : {S T : Type 0} (pieces more : List Piece) (harts others : List ℕ) (t : Turns S T)
    → behind pieces harts (behind more others t) ≡ behind (pieces ++ more) (harts ++ others) t
behind_twice pieces more harts others t =
    λ j. record t { pieces = sym (append_assoc pieces more t.pieces) j; harts = sym (append_assoc harts others t.harts) j }

module _ {S T : Type 0} (eq : T → T → Bool) (m : PolicyModel T S) (breaks : List ℕ) where
  -- no turn is next
  turns-none : (n : ℕ) (order : Order) (e : Standing S T) (feed : Tape) → next_of order e ≡ None → turns eq m breaks n order e feed ≡ no_turns e feed
  unfolding turns
  turns-none zero order e feed none = refl
  turns-none (suc n) order e feed none =
      ap (λ next. going_on next (no_turns e feed) (λ h rest. then_others breaks h (step eq m e feed h) (turns eq m breaks n rest (step eq m e feed h).standing (step eq m e feed h).feed))) none

  -- the turn of hart h is next
  turns-some : (n : ℕ) (order : Order) (e : Standing S T) (feed : Tape) (h : ℕ) (rest : Order) → next_of order e ≡ Some (h, rest)
      → turns eq m breaks (suc n) order e feed ≡ then_others breaks h (step eq m e feed h) (turns eq m breaks n rest (step eq m e feed h).standing (step eq m e feed h).feed)
  unfolding turns
  turns-some n order e feed h rest some =
      ap (λ next. going_on next (no_turns e feed) (λ h rest. then_others breaks h (step eq m e feed h) (turns eq m breaks n rest (step eq m e feed h).standing (step eq m e feed h).feed))) some

  pub turns-zero : (order : Order) (e : Standing S T) (feed : Tape) → turns eq m breaks 0 order e feed ≡ no_turns e feed
  unfolding turns
  turns-zero order e feed = refl

-- ---- on the way

module _ {S T : Type 0} (eq : T → T → Bool) (m : PolicyModel T S) (breaks : List ℕ) (first : Order) (start : Standing S T) (fed : Tape) where
  -- so many turns were made, which told this much and of which these were counted; the others are left
  abbrev pub Way : ℕ → List Piece → List ℕ → Order → Standing S T → Tape → Type 0
  Way begun pieces harts order e feed =
      (more : ℕ) → turns eq m breaks (begun + more) first start fed ≡ behind pieces harts (turns eq m breaks more order e feed)

  -- all were made
  pub record IsDone (all : ℕ) (pieces : List Piece) (harts : List ℕ) (e : Standing S T) (feed : Tape) : Type 0 where
    pub standing : e ≡ (turns eq m breaks all first start fed).standing
    pub left : feed ≡ (turns eq m breaks all first start fed).feed
    pub told : pieces ≡ (turns eq m breaks all first start fed).pieces
    pub count : length harts ≡ length (turns eq m breaks all first start fed).harts

  -- all were made, and all that they tell was put
  pub record Finishes (all : ℕ) (e : Standing S T) (feed : Tape) (count : ℕ) (old new : Option (List ℕ)) : Type 0 where
    pub leaves : Leaves (turns eq m breaks all first start fed) e feed count
    pub puts : PutsOut old new (turns eq m breaks all first start fed).pieces (gives count)

  pub finishes : (all : ℕ) (pieces : List Piece) (harts : List ℕ) (e : Standing S T) (feed : Tape) (count : ℕ) (old new : Option (List ℕ))
      → IsDone all pieces harts e feed → count ≡ length harts → PutsOut old new pieces done → Finishes all e feed count old new
  finishes all pieces harts e feed count old new is counts puts = record {
    leaves = record { standing = is.standing; feed = is.left; count = counts ∙ is.count };
    puts = subst (λ told. PutsOut old new told (gives count)) is.told (puts_as old new pieces tt count puts);
  }

  pub way_begins : Way 0 [] [] first start fed
  way_begins more = ap (λ n. turns eq m breaks n first start fed) (let e : 0 + more ≡ more = omega arith in e) ∙ (λ j. turns eq m breaks more first start fed)

  done_of : (all : ℕ) (pieces : List Piece) (harts : List ℕ) (e : Standing S T) (feed : Tape)
      → turns eq m breaks all first start fed ≡ behind pieces harts (no_turns e feed) → IsDone all pieces harts e feed
  done_of all pieces harts e feed is = record {
    standing = sym (ap (λ (t : Turns S T). t.standing) is);
    left = sym (ap (λ (t : Turns S T). t.feed) is);
    told = sym (ap (λ (t : Turns S T). t.pieces) is ∙ append-nil pieces);
    count = sym (ap (λ (t : Turns S T). length t.harts) is ∙ ap length (append-nil harts));
  }

  module _ (begun : ℕ) (pieces : List Piece) (harts : List ℕ) (order : Order) (e : Standing S T) (feed : Tape) (way : Way begun pieces harts order e feed) where
    -- no turn is made any more
    pub way_over : turns eq m breaks begun first start fed ≡ behind pieces harts (no_turns e feed)
    way_over =
        ap (λ n. turns eq m breaks n first start fed) (let e : begun ≡ begun + 0 = omega arith in e)
        ∙ way 0 ∙ ap (behind pieces harts) (turns-zero eq m breaks order e feed)

    pub way_ends : (all : ℕ) → all ≡ begun → IsDone all pieces harts e feed
    way_ends all is =
        done_of all pieces harts e feed (ap (λ n. turns eq m breaks n first start fed) is ∙ way_over)

    pub way_stops : (all : ℕ) → begun ≤ all → next_of order e ≡ None → IsDone all pieces harts e feed
    way_stops all within none =
        done_of all pieces harts e feed
        (ap (λ n. turns eq m breaks n first start fed) (let e : all ≡ begun + (all - begun) = omega (arith, within) in e)
        ∙ way (all - begun) ∙ ap (behind pieces harts) (turns-none eq m breaks (all - begun) order e feed none))

    -- the turn of hart h is next
    module _ (h : ℕ) (rest : Order) (some : next_of order e ≡ Some (h, rest)) where
      abbrev stepped : Stepped S T
      stepped = step eq m e feed h

      abbrev told : List Piece
      told = pieces ++ step_pieces breaks h stepped

      abbrev made : List ℕ
      made = harts ++ counted_harts h stepped.ended

      abbrev others : ℕ → Turns S T
      others more = turns eq m breaks more rest stepped.standing stepped.feed

      abbrev after : Bool → ℕ → Turns S T
      after last more = if last then no_turns stepped.standing stepped.feed else others more

      one_more : (more : ℕ) → turns eq m breaks (begun + suc more) first start fed ≡ behind told made (after (is_last breaks (pc_after h stepped) stepped.ended) more)
      one_more more =
          way (suc more) ∙ ap (behind pieces harts) (turns-some eq m breaks more order e feed h rest some)
          ∙ behind_twice pieces (step_pieces breaks h stepped) harts (counted_harts h stepped.ended) (after (is_last breaks (pc_after h stepped) stepped.ended) more)

      all_of : (all : ℕ) → begun < all → turns eq m breaks all first start fed ≡ behind told made (after (is_last breaks (pc_after h stepped) stepped.ended) (all - (begun + 1)))
      all_of all below =
          ap (λ n. turns eq m breaks n first start fed) (let e : all ≡ begun + suc (all - (begun + 1)) = omega (arith, below) in e)
          ∙ one_more (all - (begun + 1))

      pub way_goes_on : is_last breaks (pc_after h stepped) stepped.ended ≡ false → (f : Standing S T) (left : Tape) → f ≡ stepped.standing → left ≡ stepped.feed
          → Way (begun + 1) told made rest f left
      way_goes_on more_come f left f_is left_is more =
          ap (λ n. turns eq m breaks n first start fed) (let e : begun + 1 + more ≡ begun + suc more = omega arith in e)
          ∙ one_more more ∙ ap (λ last. behind told made (after last more)) more_come
          ∙ (λ j. behind told made (turns eq m breaks more rest (sym f_is j) (sym left_is j)))

      pub way_lasts : is_last breaks (pc_after h stepped) stepped.ended ≡ true → (f : Standing S T) (left : Tape) → f ≡ stepped.standing → left ≡ stepped.feed
          → (all : ℕ) → begun < all → IsDone all told made f left
      way_lasts last f left f_is left_is all below =
          done_of all told made f left
          (all_of all below ∙ ap (λ last. behind told made (after last (all - (begun + 1)))) last
          ∙ (λ j. behind told made (no_turns (sym f_is j) (sym left_is j))))

      -- the turn is cut short
      pub way_cut : (all : ℕ) → begun < all → (old now new : Option (List ℕ)) (A B : Type 0) (end told_end : ObeyEnd) → PutsOut old now pieces done
          → PutsOut now new (step_pieces breaks h stepped) (fails A end) → PutsOut old new (turns eq m breaks all first start fed).pieces (fails B told_end)
      way_cut all below old now new A B end told_end puts cut =
          let rest = (after (is_last breaks (pc_after h stepped) stepped.ended) (all - (begun + 1))).pieces in
          let due : (turns eq m breaks all first start fed).pieces ≡ told ++ rest = ap (λ (t : Turns S T). t.pieces) (all_of all below) in
          subst (λ due_pieces. PutsOut old new due_pieces (fails B told_end)) (sym due)
          (puts_cut_in A B old new told rest end told_end
          (puts_on old now new pieces (step_pieces breaks h stepped) tt (fails A end) puts cut))

      -- what that turn leaves where no other follows
      one_after : (last : Bool) → after last 0 ≡ no_turns stepped.standing stepped.feed
      one_after true = refl
      one_after false = turns-zero eq m breaks rest stepped.standing stepped.feed

      one_made : turns eq m breaks (begun + 1) first start fed ≡ behind told made (no_turns stepped.standing stepped.feed)
      one_made =
          ap (λ n. turns eq m breaks n first start fed) (let e : begun + 1 ≡ begun + suc 0 = omega arith in e)
          ∙ one_more 0 ∙ ap (behind told made) (one_after (is_last breaks (pc_after h stepped) stepped.ended))

      over_pieces : (turns eq m breaks begun first start fed).pieces ≡ pieces
      over_pieces = ap (λ (t : Turns S T). t.pieces) way_over ∙ append-nil pieces

      -- the turn was made, and told in part
      way_untold : (all : ℕ) → begun < all → (f : Standing S T) (left : Tape) → IsMade eq m e feed h f left → (old now new : Option (List ℕ)) (end : ObeyEnd)
          → PutsOut old now pieces done → PutsOut now new (step_pieces breaks h stepped) (cut_by end)
          → IsCutInTelling eq m breaks all first start fed f left old new end
      way_untold all below f left made_so old now new end puts prefix = record {
        before = begun;
        within = below;
        standing = made_so.standing ∙ sym (ap (λ (t : Turns S T). t.standing) one_made);
        left = made_so.left ∙ sym (ap (λ (t : Turns S T). t.feed) one_made);
        taken = now;
        last = step_pieces breaks h stepped;
        told =
            ap (λ (t : Turns S T). t.pieces) one_made ∙ append-nil told
            ∙ ap (λ (prefix_pieces : List Piece). prefix_pieces ++ step_pieces breaks h stepped) (sym over_pieces);
        whole = subst (λ (all_told : List Piece). PutsOut old now all_told all_put) (sym over_pieces) puts;
        prefix = prefix;
      }

      -- the turn was given up
      way_given_up : (all : ℕ) → begun < all → (f : Standing S T) (left : Tape) (old now new : Option (List ℕ)) → GaveUp eq m e feed h f left now new
          → PutsOut old now pieces done → IsCutInEngine eq m breaks all first start fed f left old new
      way_given_up all below f left old now new gave puts = record {
        made = begun;
        within = below;
        hart = h;
        engine =
            subst (λ (t : Turns S T). GivesUp eq m t.standing t.feed h f left) (sym way_over) gave.engine;
        whole =
            subst (λ (all_told : List Piece). PutsOut old new all_told all_put) (sym over_pieces)
            (subst (λ (taken : Option (List ℕ)). PutsOut old taken pieces done) (sym gave.silent) puts);
      }

      pub way_stands : (all : ℕ) → begun < all → (f : Standing S T) (left : Tape) (old now new : Option (List ℕ)) (end : ObeyEnd) → PutsOut old now pieces done
          → PutsOut now new (step_pieces breaks h stepped) (cut_by end) → TurnCut eq m e feed h f left now new end
          → TurnsCut eq m breaks all first start fed f left old new end
      way_stands all below f left old now new ends.WriteFault puts prefix made_so = way_untold all below f left made_so old now new ends.WriteFault puts prefix
      way_stands all below f left old now new ends.Memory puts prefix (inl made_so) = inl (way_untold all below f left made_so old now new ends.Memory puts prefix)
      way_stands all below f left old now new ends.Memory puts prefix (inr gave) = inr (way_given_up all below f left old now new gave puts)
