-- What a call puts on two sinks that had taken nothing, as a reply tells it; and a call told by the line, the file and the input.
use Rattle.std.proofs.Common.{◌≡◌, ℕ, List, [], ◌++◌, codes, Option, Some, Result, Ok, Err, IfOk, IfSome, IsSome, ap, ap₂, sym, subst, ◌∙◌, None, unwrap_or, refl}
use Rattle.host_io.specs.Pieces.{PutsPrefix, Taken}
use Rattle.host_io.specs.Prefixes.{TakesAll}
use Rattle.host_io.proofs.PieceLemmas.{errs_all, outs_all}
use Rattle.host_io.proofs.PrefixLemmas.{if_some_each}
use Rattle.pump_line.specs.Task.{task_of}
use Rattle.pump_cli.specs.Endings.{Outcome}
use Rattle.pump_cli.specs.Facts.{Finishes}
use Rattle.pump_cli.specs.Program.{program}
use Rattle.pump_cli.specs.declared.status.Status.{Status}
use Rattle.host_io.specs.Held.{sure_bytes}
use Rattle.pump_web.specs.Lines.{words_in}
use Rattle.pump_web.specs.Replies.{TellsAll, TellsFirst, due_of, held_in, only_file, taken_of, told_in, calls_due, image_after, saved_image}
use Rattle.pump_web.proofs.HeldLemmas.{left_by}
use Rattle.pump_web.proofs.DueLemmas.{program_due}

-- a sink that had taken nothing has taken just these bytes
just_taken : (old new told bytes : List ℕ) → old ≡ [] → told ≡ new → TakesAll (Some old) (Some new) bytes → told ≡ bytes
just_taken old new told bytes none is takes =
    let some : Some new ≡ Some (old ++ bytes) = takes in
    let all : new ≡ old ++ bytes = cc in
    is ∙ all ∙ ap (λ (first : List ℕ). first ++ bytes) none

module _ (out_old err_old out_new err_new out err : List ℕ) (no_out : out_old ≡ []) (no_err : err_old ≡ []) (out_is : out ≡ out_new)
    (err_is : err ≡ err_new) (due : Option Outcome) where
  pub told_all : (status : Status)
      → IfSome due (λ outcome. Finishes outcome (taken_of out_old err_old) (taken_of out_new err_new) status)
      → IfSome due (λ outcome. TellsAll outcome out err status)
  told_all status finishes = if_some_each due _ _ (λ outcome done. record {
    out_is = just_taken out_old out_new out _ no_out out_is (outs_all (taken_of out_old err_old) (taken_of out_new err_new) outcome.pieces done.puts);
    err_is = just_taken err_old err_new err _ no_err err_is (errs_all (taken_of out_old err_old) (taken_of out_new err_new) outcome.pieces done.puts);
    status_is = done.ends;
  }) finishes

  pub told_first : IfSome due (λ outcome. PutsPrefix (taken_of out_old err_old) (taken_of out_new err_new) outcome.pieces)
      → IfSome due (λ outcome. TellsFirst outcome out err)
  told_first puts = if_some_each due _ _ (λ outcome some.
      subst (λ (before : Taken). PutsPrefix before (taken_of out err) outcome.pieces) (ap₂ taken_of no_out no_err)
      (subst (λ (after : Taken). PutsPrefix (taken_of out_old err_old) after outcome.pieces) (ap₂ taken_of (sym out_is) (sym err_is)) some)) puts

-- a call with the words of the line, over the one file and the input
pub due_is : (texts : List (List ℕ)) (files : List (List ℕ × List ℕ)) (left line file input : List ℕ) → texts ≡ words_in line
    → told_in files ≡ held_in (only_file file) → left ≡ input → program texts (told_in files) (Some left) ≡ due_of line file input
due_is texts files left line file input words held is = λ i. program (words i) (held i) (Some (is i))

pub due_told : (line file input : List ℕ) → IsSome (due_of line file input)
due_told line file input = program_due (sure_bytes (only_file file)) input (words_in line)

-- what is said of an answer, from what another call says of it
pub if_ok_each : {T E : Type 0} (result : Result T E) (P Q : T → Type 0) → ((x : T) → P x → Q x) → IfOk result P → IfOk result Q
if_ok_each (Ok x) P Q each p = each x p
if_ok_each (Err end) P Q each p = tt

-- no image is there where there is one file alone, whose name is another
pub none_saved : (image : List ℕ) (files : List (List ℕ × List ℕ)) (file : List ℕ) → files ≡ only_file file
    → Some image ≡ told_in files (codes "image") → image ≡ []
none_saved image files file are is =
    let none : Some image ≡ Some [] = is ∙ ap (λ (held : List (List ℕ × List ℕ)). told_in held (codes "image")) are in cc

-- what is to be saved there, from what the calls leave
pub saved_is : (image line file : List ℕ) → Some image ≡ image_after (task_of (words_in line)) (held_in (only_file file))
    → image ≡ unwrap_or (saved_image line file) []
saved_is image line file is =
    let left : Some image ≡ Some (unwrap_or (saved_image line file) []) =
    is ∙ left_by (calls_due (task_of (words_in line)) (held_in (only_file file))) (codes "image") (held_in (only_file file)) (λ name. None) refl in
    cc
