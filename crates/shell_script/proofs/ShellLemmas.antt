-- A session over an input, by the bytes that were read of it.
use Rattle.std.proofs.Common.{◌≡◌, ℕ, ◌+◌, ◌-◌, ◌≤◌, nat_lt, Bool, true, false, List, [], ◌++◌, drop, length, take, Option, Some, None, IfOk, IfSome, Result, Ok, Err, if◌then◌else◌, refl, ap, sym, subst, ◌∙◌, append-nil, append_assoc, arith}
use Rattle.std.specs.Io.KnownBytes.{IsAtEnd, prepend_known}
use Rattle.std.proofs.Math.Seq.{take-append-add, take-append_seam}
use Rattle.std.proofs.lemmas.Bool.Decides.{nat_tests}
use Rattle.std.proofs.lemmas.List.{length-append, take-append-drop, take-take, take_all}
use Rattle.host_io.proofs.ReadingLemmas.{prepend_known-append}
use Rattle.policy_trait.specs.Model.{PolicyModel}
use Rattle.shell_lang.specs.Grammar.{Answer}
use Rattle.shell_lang.specs.Stream.{answers_along, end_answer, line_along, onto_answers}
use Rattle.shell_lang.specs.Words.{Text}
use Rattle.shell_lang.proofs.StreamLemmas.{answers_in_pieces, answers_of, line_in_pieces, rest_of}
use Rattle.shell_turns.specs.Cuts.{PutsOut}
use Rattle.shell_turns.specs.declared.ends.ObeyEnd.{ObeyEnd}
use Rattle.shell_turns.proofs.PutLemmas.{Ends as Putting, done, fails, puts_on}
use Rattle.shell_run.specs.Session.{SessionState}
use Rattle.shell_script.specs.Scripts.{Ends, Script, behind, followed_by, script}
use Rattle.shell_script.specs.Shell.{RepliesSoFar, Shell, ShellEnds, at_the_end, ending_so, last_in, lines_in, shell_of}
use Rattle.shell_script.specs.declared.reading.ShellEnd.{ShellEnd}
use Rattle.shell_script.specs.declared.reading.ShellEnd.TheVariants.{Quit, TooLong}
use Rattle.shell_script.proofs.ScriptLemmas.{ends_on, goes_on, puts_next, quit_ends, script_more, told_first}

-- what holds of each answer
pub ok_map : {A E : Type 0} (result : Result A E) (P Q : A → Type 0) → ((x : A) → P x → Q x) → IfOk result P → IfOk result Q
ok_map (Ok x) P Q f holds = f x holds
ok_map (Err end) P Q f holds = tt

-- no byte was read
pub none_taken : (left : Option (List ℕ)) → left ≡ prepend_known [] left
none_taken None = refl
none_taken (Some bytes) = refl

-- what is told of an input whose first bytes were read
pub told_of : (left : Option (List ℕ)) (taken : List ℕ) (rest : Option (List ℕ)) (P : List ℕ → Type 0) → left ≡ prepend_known taken rest
    → ((more : List ℕ) → rest ≡ Some more → P (taken ++ more)) → IfSome left P
told_of left taken None P is told = subst (λ known. IfSome known P) (sym is) tt
told_of left taken (Some more) P is told = subst (λ known. IfSome known P) (sym is) (told more refl)

-- what is told of an input whose bytes were all read
pub told_at_end : (left : Option (List ℕ)) (taken : List ℕ) (rest : Option (List ℕ)) (P : List ℕ → Type 0) → left ≡ prepend_known taken rest → IsAtEnd rest
    → P taken → IfSome left P
told_at_end left taken None P is ends holds = subst (λ known. IfSome known P) (sym is) tt
told_at_end left taken (Some more) P is ends holds =
    subst (λ known. IfSome known P) (sym is) (subst P (sym (ap (λ bytes. taken ++ bytes) ends ∙ append-nil taken)) holds)

-- a piece as a prefix and what is behind it
pub prefix_back : (count k : ℕ) (bytes : List ℕ) → k ≤ count → take count bytes ≡ take k bytes ++ drop k (take count bytes)
prefix_back count k bytes within =
    sym (take-append-drop k (take count bytes)) ∙ ap (λ prefix. prefix ++ drop k (take count bytes)) (take-take k count bytes within)

-- the same after one piece more, of which a prefix was taken
pub told_in : (left : Option (List ℕ)) (taken piece prefix back : List ℕ) (mid rest : Option (List ℕ)) (P : List ℕ → Type 0) → left ≡ prepend_known taken mid
    → mid ≡ prepend_known piece rest → piece ≡ prefix ++ back → ((more : List ℕ) → rest ≡ Some more → P (taken ++ prefix ++ (back ++ more))) → IfSome left P
told_in left taken piece prefix back mid rest P first moved split told =
    told_of left (taken ++ piece) rest P (first ∙ ap (prepend_known taken) moved ∙ sym (prepend_known-append taken piece rest)) λ more is.
    subst P
    (sym (append_assoc (taken ++ prefix) back more) ∙ ap (λ bytes. bytes ++ more) (append_assoc taken prefix back ∙ ap (λ bytes. taken ++ bytes) (sym split)))
    (told more is)

module _ {S T : Type 0} (eq : T → T → Bool) (m : PolicyModel T S) (limit : ℕ) (s : SessionState S T) where
  -- the script of the lines that end within these bytes
  abbrev pub read : List ℕ → Script S T
  read taken = script eq m s (answers_along [] taken)

  abbrev lines_of : List ℕ → Script S T
  lines_of input = script eq m s (lines_in (take limit input))

  abbrev last_of : List ℕ → SessionState S T → Script S T
  last_of input t = script eq m t (last_in input)

  abbrev shell_by : Bool → Bool → Script S T → (SessionState S T → Script S T) → Shell S T
  shell_by quits long lines last =
      if quits then ending_so Quit lines else if long then ending_so TooLong lines else at_the_end (followed_by lines last)

  shell_is : (input : List ℕ) → shell_of eq m limit s input ≡ shell_by (lines_of input).quits (nat_lt limit (length input)) (lines_of input) (last_of input)
  unfolding shell_of
  shell_is input = refl

  lines_read : (input taken : List ℕ) → take limit input ≡ taken → lines_of input ≡ read taken
  lines_read input taken is = ap (script eq m s) (sym (answers_of (take limit input)) ∙ ap (answers_along []) is)

  -- a prefix that a session has executed, and one piece more
  module _ (taken prefix : List ℕ) (begun : Text) (kept : begun ≡ line_along [] taken) (now : SessionState S T) (ends : Ends (read taken) now false) where
    abbrev pub next : Script S T
    next = script eq m now (answers_along begun prefix)

    answers_are : answers_along [] (taken ++ prefix) ≡ answers_along [] taken ++ answers_along begun prefix
    answers_are =
        answers_in_pieces [] taken prefix ∙ ap (λ text. answers_along [] taken ++ answers_along text prefix) (sym kept)

    pub piece_line : (text : Text) → text ≡ line_along begun prefix → text ≡ line_along [] (taken ++ prefix)
    piece_line text is = is ∙ ap (λ line. line_along line prefix) kept ∙ sym (line_in_pieces [] taken prefix)

    pub piece_ends : (t : SessionState S T) (quits : Bool) → Ends next t quits → Ends (read (taken ++ prefix)) t quits
    piece_ends t quits more =
        subst (λ answers. Ends (script eq m s answers) t quits) (sym answers_are)
        (ends_on eq m s (answers_along [] taken) now ends (answers_along begun prefix) t quits more)

    pub piece_puts : (old mid new : Option (List ℕ)) {B : Type 0} (result : Putting B) → PutsOut old mid (read taken).pieces done
        → PutsOut mid new next.pieces result → PutsOut old new (read (taken ++ prefix)).pieces result
    piece_puts old mid new result puts more =
        subst (λ answers. PutsOut old new (script eq m s answers).pieces result) (sym answers_are)
        (puts_next eq m s (answers_along [] taken) now ends (answers_along begun prefix) old mid new tt result puts more)

  -- a read failed behind these bytes
  pub replies_so_far : (taken : List ℕ) (left left_now old new : Option (List ℕ)) (now : SessionState S T) → left ≡ prepend_known taken left_now
      → length taken ≤ limit → Ends (read taken) now false → PutsOut old new (read taken).pieces done → RepliesSoFar eq m limit s left left_now old new
  replies_so_far taken left left_now old new now moved within ends puts =
      let is : read taken ≡ script eq m s (lines_in taken) = ap (script eq m s) (answers_of taken) in
      record {
        read = taken;
        moved = moved;
        within = within;
        goes_on = sym (ends.quits ∙ ap (λ (all : Script S T). all.quits) is);
        replies = subst (λ (all : Script S T). PutsOut old new all.pieces done) is puts;
      }

  -- the first bytes of an input, within the limit
  module _ (taken rest : List ℕ) (within : length taken ≤ limit) where
    abbrev more : List ℕ
    more = take (limit - length taken) rest

    within_is : take limit (taken ++ rest) ≡ taken ++ more
    within_is =
        ap (λ n. take n (taken ++ rest)) (let e : limit ≡ length taken + (limit - length taken) = omega (arith, within) in e)
        ∙ take-append-add taken rest (limit - length taken)

    lines_split : lines_of (taken ++ rest) ≡ followed_by (read taken) (λ t. script eq m t (answers_along (line_along [] taken) more))
    lines_split =
        lines_read (taken ++ rest) (taken ++ more) within_is ∙ ap (script eq m s) (answers_in_pieces [] taken more)
        ∙ script_more eq m s (answers_along [] taken) (answers_along (line_along [] taken) more)

    -- a `quit` among their lines
    pub shell_quits : (t : SessionState S T) → Ends (read taken) t true → ShellEnds (shell_of eq m limit s (taken ++ rest)) t Quit
    shell_quits t ends =
        let lines = lines_split ∙ quit_ends (read taken) (λ u. script eq m u (answers_along (line_along [] taken) more)) (sym ends.quits) in
        let long = nat_lt limit (length (taken ++ rest)) in
        let is : shell_of eq m limit s (taken ++ rest) ≡ ending_so Quit (read taken)
        = shell_is (taken ++ rest) ∙ (λ j. shell_by (lines j).quits long (lines j) (last_of (taken ++ rest)))
        ∙ ap (λ quits. shell_by quits long (read taken) (last_of (taken ++ rest))) (sym ends.quits) in
        record {
          after = ends.after ∙ sym (ap (λ (shell : Shell S T). shell.after) is);
          end = sym (ap (λ (shell : Shell S T). shell.end) is);
        }

    -- what they tell comes first
    cut_by : (old new : Option (List ℕ)) (A : Type 0) (end : ObeyEnd) (quits long : Bool) (lines : Script S T) (last : SessionState S T → Script S T)
        → PutsOut old new lines.pieces (fails A end) → PutsOut old new (shell_by quits long lines last).pieces (fails A end)
    cut_by old new A end true long lines last cut = cut
    cut_by old new A end false true lines last cut = cut
    cut_by old new A end false false lines last cut = told_first old new A A end end lines last cut

    pub shell_cut : (old new : Option (List ℕ)) (A : Type 0) (end : ObeyEnd) → PutsOut old new (read taken).pieces (fails A end)
        → PutsOut old new (shell_of eq m limit s (taken ++ rest)).pieces (fails A end)
    shell_cut old new A end cut =
        let lines : PutsOut old new (lines_of (taken ++ rest)).pieces (fails A end)
        = subst (λ (all : Script S T). PutsOut old new all.pieces (fails A end)) (sym lines_split)
        (told_first old new A A end end (read taken) (λ t. script eq m t (answers_along (line_along [] taken) more)) cut) in
        subst (λ (shell : Shell S T). PutsOut old new shell.pieces (fails A end)) (sym (shell_is (taken ++ rest)))
        (cut_by old new A end (lines_of (taken ++ rest)).quits (nat_lt limit (length (taken ++ rest))) (lines_of (taken ++ rest)) (last_of (taken ++ rest)) lines)

    pub shell_quits_pieces : (t : SessionState S T) → Ends (read taken) t true → (shell_of eq m limit s (taken ++ rest)).pieces ≡ (read taken).pieces
    shell_quits_pieces t ends =
        let lines = lines_split ∙ quit_ends (read taken) (λ u. script eq m u (answers_along (line_along [] taken) more)) (sym ends.quits) in
        let long = nat_lt limit (length (taken ++ rest)) in
        ap (λ (shell : Shell S T). shell.pieces)
        (shell_is (taken ++ rest) ∙ (λ j. shell_by (lines j).quits long (lines j) (last_of (taken ++ rest)))
        ∙ ap (λ quits. shell_by quits long (read taken) (last_of (taken ++ rest))) (sym ends.quits))

  -- as many bytes as there may be, and more of them
  module _ (taken rest : List ℕ) (full : length taken ≡ limit) (longer : 1 ≤ length rest) (t : SessionState S T) (ends : Ends (read taken) t false) where
    pub shell_long : shell_of eq m limit s (taken ++ rest) ≡ ending_so TooLong (read taken)
    shell_long =
        let lines = lines_read (taken ++ rest) taken (ap (λ n. take n (taken ++ rest)) (sym full) ∙ take-append_seam taken rest) in
        let count = length-append taken rest in
        let over : limit + 1 ≤ length (taken ++ rest) = omega (arith, count, full, longer) in
        let long : nat_lt limit (length (taken ++ rest)) ≡ true = grind (arith, nat_tests, over) in
        shell_is (taken ++ rest) ∙ (λ j. shell_by (lines j).quits (long j) (lines j) (last_of (taken ++ rest)))
        ∙ ap (λ quits. shell_by quits true (read taken) (last_of (taken ++ rest))) (sym ends.quits)

  -- all bytes of an input within the limit
  module _ (taken : List ℕ) (within : length taken ≤ limit) (now : SessionState S T) (ends : Ends (read taken) now false) where
    abbrev pub last : List Answer
    last = onto_answers (end_answer (line_along [] taken)) []

    pub shell_done : shell_of eq m limit s taken ≡ at_the_end (behind (read taken).pieces (script eq m now last))
    shell_done =
        let lines = lines_read taken taken (take_all limit taken within) in
        let short : nat_lt limit (length taken) ≡ false = grind (arith, nat_tests, within) in
        let last_is : last_in taken ≡ last = ap (λ answer. onto_answers answer []) (sym (rest_of taken)) in
        shell_is taken ∙ (λ j. shell_by (lines j).quits (short j) (lines j) (λ t. script eq m t (last_is j)))
        ∙ ap (λ quits. shell_by quits false (read taken) (λ t. script eq m t last)) (sym ends.quits)
        ∙ ap at_the_end (goes_on (read taken) (λ t. script eq m t last) (sym ends.quits) ∙ ap (λ t. behind (read taken).pieces (script eq m t last)) (sym ends.after))

    pub done_ends : (t : SessionState S T) (end : ShellEnd) → ShellEnds (at_the_end (script eq m now last)) t end → ShellEnds (shell_of eq m limit s taken) t end
    done_ends t end ends_so = record {
      after = ends_so.after ∙ sym (ap (λ (shell : Shell S T). shell.after) shell_done);
      end = ends_so.end ∙ sym (ap (λ (shell : Shell S T). shell.end) shell_done);
    }

    pub done_puts : (old mid new : Option (List ℕ)) {B F : Type 0} (result : Result B F) → PutsOut old mid (read taken).pieces done
        → PutsOut mid new (script eq m now last).pieces result → PutsOut old new (shell_of eq m limit s taken).pieces result
    done_puts old mid new result puts more =
        subst (λ pieces. PutsOut old new pieces result) (sym (ap (λ (shell : Shell S T). shell.pieces) shell_done))
        (puts_on old mid new (read taken).pieces (script eq m now last).pieces tt result puts more)
