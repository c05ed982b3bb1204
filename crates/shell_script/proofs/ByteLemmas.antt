-- A session over the bytes of a stream: what the next byte adds, and what comes of all of them.
use Rattle.std.proofs.Common.{◌≡◌, ℕ, ◌+◌, ◌<◌, Bool, true, false, List, [], ◌++◌, drop, get_or, length, take, Option, ap, sym, subst, ◌∙◌}
use Rattle.policy_trait.specs.Model.{PolicyModel}
use Rattle.shell_lang.specs.Grammar.{Answer}
use Rattle.shell_lang.specs.Stream.{answers_along, byte_answer, line_after, line_along, onto_answers}
use Rattle.shell_lang.specs.Words.{Text}
use Rattle.shell_turns.specs.Cuts.{PutsOut}
use Rattle.shell_turns.specs.declared.ends.ObeyEnd.{ObeyEnd}
use Rattle.shell_turns.proofs.PutLemmas.{Ends as Putting, done, fails}
use Rattle.shell_run.specs.Session.{SessionState}
use Rattle.shell_script.specs.Scripts.{Ends, script}
use Rattle.shell_script.proofs.LineLemmas.{answers_all, answers_next, line_next}
use Rattle.shell_script.proofs.ScriptLemmas.{cut_on, ends_on, puts_next, quits_on}

module _ {S T : Type 0} (eq : T → T → Bool) (m : PolicyModel T S) (s : SessionState S T) (line : Text) (bytes : List ℕ) where
  -- the answers to the first bytes
  abbrev read : ℕ → List Answer
  read k = answers_along line (take k bytes)

  -- all bytes, by the first ones
  module _ (k : ℕ) where
    rest_is : answers_along line bytes ≡ read k ++ answers_along (line_along line (take k bytes)) (drop k bytes)
    rest_is = answers_all line bytes k

    pub bytes_quit : (t : SessionState S T) → Ends (script eq m s (read k)) t true → script eq m s (answers_along line bytes) ≡ script eq m s (read k)
    bytes_quit t ends = ap (script eq m s) rest_is ∙ quits_on eq m s (read k) (answers_along (line_along line (take k bytes)) (drop k bytes)) t ends

    pub bytes_cut : (old new : Option (List ℕ)) (A B : Type 0) (end told : ObeyEnd) → PutsOut old new (script eq m s (read k)).pieces (fails A end)
        → PutsOut old new (script eq m s (answers_along line bytes)).pieces (fails B told)
    bytes_cut old new A B end told cut =
        subst (λ answers. PutsOut old new (script eq m s answers).pieces (fails B told)) (sym rest_is)
        (cut_on eq m s (read k) (answers_along (line_along line (take k bytes)) (drop k bytes)) old new A B end told cut)

  -- the next byte
  module _ (k d byte : ℕ) (below : k < length bytes) (is : byte ≡ get_or bytes k d) (now : SessionState S T) (here : Text)
      (kept : here ≡ line_along line (take k bytes)) (ends : Ends (script eq m s (read k)) now false) where
    abbrev answers : List Answer
    answers = onto_answers (byte_answer here byte) []

    read_next : read (k + 1) ≡ read k ++ answers
    read_next =
        answers_next line bytes k d byte below is ∙ ap (λ text. read k ++ onto_answers (byte_answer text byte) []) (sym kept)

    pub byte_line : (text : Text) → text ≡ line_after here byte → text ≡ line_along line (take (k + 1) bytes)
    byte_line text after = after ∙ ap (λ begun. line_after begun byte) kept ∙ sym (line_next line bytes k d byte below is)

    pub byte_ends : (t : SessionState S T) (quits : Bool) → Ends (script eq m now answers) t quits → Ends (script eq m s (read (k + 1))) t quits
    byte_ends t quits more =
        subst (λ all. Ends (script eq m s all) t quits) (sym read_next) (ends_on eq m s (read k) now ends answers t quits more)

    pub byte_puts : (old mid new : Option (List ℕ)) {B : Type 0} (result : Putting B) → PutsOut old mid (script eq m s (read k)).pieces done
        → PutsOut mid new (script eq m now answers).pieces result → PutsOut old new (script eq m s (read (k + 1))).pieces result
    byte_puts old mid new result puts more =
        subst (λ all. PutsOut old new (script eq m s all).pieces result) (sym read_next)
        (puts_next eq m s (read k) now ends answers old mid new tt result puts more)
