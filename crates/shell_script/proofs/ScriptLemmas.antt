-- Lines that are executed one after another.
use Rattle.std.proofs.Common.{◌≡◌, ℕ, Bool, true, false, List, [], ◌∷◌, ◌++◌, if◌then◌else◌, Option, refl, ap, sym, subst, ◌∙◌, append-nil, append_assoc}
use Rattle.host_io.specs.Pieces.{Piece}
use Rattle.policy_trait.specs.Model.{PolicyModel}
use Rattle.shell_lang.specs.Grammar.{Answer}
use Rattle.shell_turns.specs.Cuts.{PutsOut}
use Rattle.shell_turns.specs.declared.ends.ObeyEnd.{ObeyEnd}
use Rattle.shell_turns.proofs.PutLemmas.{Ends as Putting, fails, gives, puts_cut_as, puts_cut_in, puts_on}
use Rattle.shell_run.specs.Session.{SessionState}
use Rattle.shell_script.specs.Scripts.{Ends, Script, script_of_answer, behind, followed_by, no_lines, script}

module _ {S T : Type 0} where
  behind_twice : (pieces more : List Piece) (t : Script S T) → behind pieces (behind more t) ≡ behind (pieces ++ more) t
  behind_twice pieces more t = λ j. record t { pieces = sym (append_assoc pieces more t.pieces) j }

  -- a script that is followed by no lines
  alone : (first : Script S T) (quits : Bool) → first.quits ≡ quits → (if quits then first else behind first.pieces (no_lines first.after)) ≡ first
  alone first true is = refl
  alone first false is = λ j. record { after = first.after; pieces = append-nil first.pieces j; quits = sym is j }

  module _ (first : Script S T) (next others : SessionState S T → Script S T) where
    two_on : (second : Script S T) (quits : Bool) → behind first.pieces (if quits then second else behind second.pieces (others second.after))
        ≡ (if quits then behind first.pieces second else behind (first.pieces ++ second.pieces) (others second.after))
    two_on second true = refl
    two_on second false = behind_twice first.pieces second.pieces (others second.after)

    follows_on : (quits : Bool) → first.quits ≡ quits → (if quits then first else behind first.pieces (followed_by (next first.after) others))
        ≡ followed_by (if quits then first else behind first.pieces (next first.after)) others
    follows_on true is = sym (ap (λ b. if b then first else behind first.pieces (others first.after)) is)
    follows_on false is = two_on (next first.after) (next first.after).quits

  -- a script that ended with `quit` is followed by nothing
  pub quit_ends : (first : Script S T) (others : SessionState S T → Script S T) → first.quits ≡ true → followed_by first others ≡ first
  quit_ends first others is = ap (λ b. if b then first else behind first.pieces (others first.after)) is

  pub goes_on : (first : Script S T) (others : SessionState S T → Script S T) → first.quits ≡ false → followed_by first others ≡ behind first.pieces (others first.after)
  goes_on first others is = ap (λ b. if b then first else behind first.pieces (others first.after)) is

  -- what a script tells comes first in any case
  pub told_first : (old new : Option (List ℕ)) (A B : Type 0) (end told : ObeyEnd) (first : Script S T) (others : SessionState S T → Script S T)
      → PutsOut old new first.pieces (fails A end) → PutsOut old new (followed_by first others).pieces (fails B told)
  told_first old new A B end told first others cut = by first.quits
    where
      by : (quits : Bool) → PutsOut old new (if quits then first else behind first.pieces (others first.after)).pieces (fails B told)
      by true = puts_cut_as A B old new first.pieces end told cut
      by false = puts_cut_in A B old new first.pieces (others first.after).pieces end told cut

module _ {S T : Type 0} (eq : T → T → Bool) (m : PolicyModel T S) where
  pub script_none : (s : SessionState S T) → script eq m s [] ≡ no_lines s
  unfolding script
  script_none s = refl

  pub script_one : (s : SessionState S T) (answer : Answer) → script eq m s (answer ∷ []) ≡ script_of_answer eq m s answer
  unfolding script
  script_one s answer = alone (script_of_answer eq m s answer) (script_of_answer eq m s answer).quits refl

  -- some lines, and then others
  pub script_more : (s : SessionState S T) (xs ys : List Answer) → script eq m s (xs ++ ys) ≡ followed_by (script eq m s xs) (λ t. script eq m t ys)
  unfolding script
  script_more s [] ys = refl
  script_more s (x ∷ xs) ys =
      ap (λ (others : SessionState S T → Script S T). followed_by (script_of_answer eq m s x) others) (λ j t. script_more t xs ys j)
      ∙ follows_on (script_of_answer eq m s x) (λ t. script eq m t xs) (λ t. script eq m t ys) (script_of_answer eq m s x).quits refl

  module _ (s : SessionState S T) (xs : List Answer) where
    -- a script that goes on, and the lines that come next
    module _ (now : SessionState S T) (ends : Ends (script eq m s xs) now false) (ys : List Answer) where
      next_is : script eq m s (xs ++ ys) ≡ behind (script eq m s xs).pieces (script eq m now ys)
      next_is =
          script_more s xs ys ∙ goes_on (script eq m s xs) (λ t. script eq m t ys) (sym ends.quits)
          ∙ ap (λ t. behind (script eq m s xs).pieces (script eq m t ys)) (sym ends.after)

      pub ends_on : (t : SessionState S T) (quits : Bool) → Ends (script eq m now ys) t quits → Ends (script eq m s (xs ++ ys)) t quits
      ends_on t quits is = record {
        after = is.after ∙ sym (ap (λ (all : Script S T). all.after) next_is);
        quits = is.quits ∙ sym (ap (λ (all : Script S T). all.quits) next_is);
      }

      pub puts_next : (old mid new : Option (List ℕ)) {A B : Type 0} (x : A) (result : Putting B) → PutsOut old mid (script eq m s xs).pieces (gives x)
          → PutsOut mid new (script eq m now ys).pieces result → PutsOut old new (script eq m s (xs ++ ys)).pieces result
      puts_next old mid new x result puts more =
          subst (λ pieces. PutsOut old new pieces result) (sym (ap (λ (all : Script S T). all.pieces) next_is))
          (puts_on old mid new (script eq m s xs).pieces (script eq m now ys).pieces x result puts more)

    -- lines that are not executed any more
    module _ (zs : List Answer) where
      pub quits_on : (t : SessionState S T) → Ends (script eq m s xs) t true → script eq m s (xs ++ zs) ≡ script eq m s xs
      quits_on t ends = script_more s xs zs ∙ quit_ends (script eq m s xs) (λ t. script eq m t zs) (sym ends.quits)

      pub cut_on : (old new : Option (List ℕ)) (A B : Type 0) (end told : ObeyEnd) → PutsOut old new (script eq m s xs).pieces (fails A end)
          → PutsOut old new (script eq m s (xs ++ zs)).pieces (fails B told)
      cut_on old new A B end told cut =
          subst (λ pieces. PutsOut old new pieces (fails B told)) (sym (ap (λ (all : Script S T). all.pieces) (script_more s xs zs)))
          (told_first old new A B end told (script eq m s xs) (λ t. script eq m t zs) cut)
