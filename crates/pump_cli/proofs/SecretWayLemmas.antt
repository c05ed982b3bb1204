-- The answer of `run` and `shell` where the secret file ends them.
use Rattle.std.proofs.Common.{◌≡◌, ℕ, List, [], ◌∷◌, Option, Some, None, Result, Ok, Err, IfOk, IfSome, refl, sym, ap, subst, ◌∙◌}
use Rattle.shared_terms.specs.Counts.{next_count}
use Rattle.host_io.specs.Environment.{Environment}
use Rattle.image_format.specs.Picture.{Picture}
use Rattle.policy_choice.specs.declared.choice.Choice.{Choice}
use Rattle.pump_line.specs.Task.{RunTask, ShellTask, Task, run, shell}
use Rattle.pump_cli.specs.Calls.{EndsTaken, FaultBy, FileCall, Load, MakesAll, Save, calls_of_task, counted_by, secret_calls}
use Rattle.pump_cli.specs.Codes.{IsSilent, status_of_cut, status_of_refusal}
use Rattle.pump_cli.specs.Early.{EndsEarly, LoadsRoseBy}
use Rattle.pump_cli.specs.Endings.{Outcome}
use Rattle.pump_cli.specs.Facts.{Does, PutsFaultBy, status_in}
use Rattle.pump_cli.specs.Program.{outcome_of_content, refusal_outcome}
use Rattle.pump_cli.specs.Reading.{content_of, content_read, image_read, secret_held, secret_read}
use Rattle.pump_cli.specs.Theorem.{HeadlineOf}
use Rattle.pump_cli.specs.declared.cut.Cut.{Cut}
use Rattle.pump_cli.specs.declared.cut.Cut.TheVariants as cut
use Rattle.pump_cli.specs.declared.reading.EarlyEnd.{EarlyEnd}
use Rattle.pump_cli.specs.declared.reading.EarlyEnd.TheVariants as early_end
use Rattle.pump_cli.specs.declared.refusal.Refusal.{Refusal}
use Rattle.pump_cli.specs.declared.refusal.Refusal.TheVariants as refusals
use Rattle.pump_cli.specs.declared.status.Status.{Status}
use Rattle.pump_cli.proofs.AnswerLemmas.{answers, puts_fault, refusal_ends, refusal_quiet}
use Rattle.pump_cli.proofs.CallLemmas.{Called, loads_called, secret_broken, secret_ends_calls, secret_keeps}
use Rattle.pump_cli.proofs.TaskLemmas.{RefusedFor, Side, due_by_run_secret, due_by_shell_secret, facts_unasked, no_session, start_long, start_taken}
use Rattle.pump_cli.proofs.SideLemmas.{of_cut, of_refusal, refusal_is_told}
use Rattle.pump_cli.proofs.WayLemmas.{beside, beside_faults, early, file_cut, file_fault, file_not_all, refused_outcome}

-- ---- the two tasks that start an image

-- A task that loads an image, and then the secret bytes that it names where secrecy is chosen.
pub record Starts {I : Type 0} (task : Task) (before : Environment I) : Type 1 where
  pub image : List ℕ
  pub choice : Choice
  pub name : Option (List ℕ)
  pub calls : (picture : Picture) → Load image ∷ secret_calls choice name ≡ calls_of_task task (Ok picture)
  pub ends : (status : Status) → EndsTaken (Some task) status
  -- the image was taken
  pub taken : (picture : Picture) → IfSome (before.held image) (λ bytes. image_read bytes ≡ Ok picture)
      → IfSome (content_of task before.held) (λ content. content_read task content ≡ Ok picture)
  -- the secret bytes are refused
  pub due : (P : Outcome → Type 0) (picture : Picture) (refusal : Refusal) → IfSome (before.held image) (λ bytes. image_read bytes ≡ Ok picture)
      → IfSome (secret_held choice name before.held) (λ bytes. secret_read bytes ≡ Err refusal) → P (refusal_outcome refusal)
      → IfSome (outcome_of_content task (content_of task before.held) before.left) P
  pub why : IfSome (secret_held choice name before.held) (λ bytes. secret_read bytes ≡ Err refusals.TooLong)
      → IfSome (content_of task before.held) (λ content. RefusedFor task content before.left refusals.TooLong)

module _ {I : Type 0} (before : Environment I) where
  abbrev pub run_starts : (task : RunTask) → Starts (run task) before
  run_starts task = record {
    image = task.image;
    choice = task.choice;
    name = task.secret;
    calls = λ picture. refl;
    ends = λ status. tt;
    taken = start_taken (before.held task.image) (secret_held task.choice task.secret before.held);
    due = λ P picture. due_by_run_secret P task (before.held task.image) (secret_held task.choice task.secret before.held) before.left picture;
    why = start_long (before.held task.image) (secret_held task.choice task.secret before.held) before.left;
  }

  abbrev pub shell_starts : (task : ShellTask) → Starts (shell task) before
  shell_starts task = record {
    image = task.image;
    choice = task.choice;
    name = task.secret;
    calls = λ picture. refl;
    ends = λ status. tt;
    taken = start_taken (before.held task.image) (secret_held task.choice task.secret before.held);
    due = λ P picture. due_by_shell_secret P task (before.held task.image) (secret_held task.choice task.secret before.held) before.left picture;
    why = start_long (before.held task.image) (secret_held task.choice task.secret before.held) before.left;
  }

-- a load that was carried out leaves all counts
pub loads_quiet : {A : Type 0} (calls : List FileCall) (before now : List ℕ → ℕ) (x : A) → LoadsRoseBy {A = A} calls before now (Ok x) → now ≡ before
loads_quiet [] before now x rose = rose
loads_quiet (Load name ∷ []) before now x rose = rose
loads_quiet (Save name bytes ∷ []) before now x rose = absurd rose
loads_quiet (Load name ∷ other ∷ calls) before now x rose = absurd rose
loads_quiet (Save name bytes ∷ other ∷ calls) before now x rose = absurd rose

-- and so does one that is refused
refused_quiet : (A : Type 0) (calls : List FileCall) (before now : List ℕ → ℕ) (refusal : Refusal) → LoadsRoseBy {A = A} calls before now (Err (early_end.Refused refusal)) → now ≡ before
refused_quiet A [] before now refusal rose = absurd rose
refused_quiet A (Load name ∷ []) before now refusal rose = rose
refused_quiet A (Save name bytes ∷ []) before now refusal rose = absurd rose
refused_quiet A (Load name ∷ other ∷ calls) before now refusal rose = absurd rose
refused_quiet A (Save name bytes ∷ other ∷ calls) before now refusal rose = absurd rose

-- what the load of the image left as it was
module _ (choice : Choice) (name : Option (List ℕ)) where
  pub held_as : (held held_then : List ℕ → Option (List ℕ)) (Q : List ℕ → Type 0) → held_then ≡ held → IfSome (secret_held choice name held_then) Q
      → IfSome (secret_held choice name held) Q
  held_as held held_then Q same is = subst (λ (names : List ℕ → Option (List ℕ)). IfSome (secret_held choice name names) Q) same is

  -- they are lent to what goes on with them
  pub lent_as : (held held_then : List ℕ → Option (List ℕ)) (lent bytes : List ℕ) → lent ≡ bytes → held_then ≡ held
      → IfSome (secret_held choice name held_then) (λ all. secret_read all ≡ Ok bytes) → IfSome (secret_held choice name held) (λ all. secret_read all ≡ Ok lent)
  lent_as held held_then lent bytes is same taken =
      held_as held held_then (λ all. secret_read all ≡ Ok lent) same
      (subst (λ (secret : List ℕ). IfSome (secret_held choice name held_then) (λ all. secret_read all ≡ secret_as secret)) (sym is) taken)
    where
      secret_as : List ℕ → Result (List ℕ) Refusal
      secret_as secret = Ok secret

  pub counted_as : (before then now : ℕ) → now ≡ counted_by (secret_calls choice name) then → then ≡ next_count before
      → now ≡ counted_by (secret_calls choice name) (next_count before)
  counted_as before then now counted loaded = counted ∙ ap (λ (count : ℕ). counted_by (secret_calls choice name) count) loaded

  -- a load that was carried out leaves all counts, as that of the image did
  pub loaded : {A : Type 0} (before then now : List ℕ → ℕ) (x : A) → LoadsRoseBy {A = A} (secret_calls choice name) then now (Ok x) → then ≡ before → now ≡ before
  loaded before then now x rose same = loads_quiet (secret_calls choice name) then now x rose ∙ same

  pub rose_as : {A : Type 0} (before then now : List ℕ → ℕ) (result : Result A EarlyEnd) → then ≡ before
      → LoadsRoseBy {A = A} (secret_calls choice name) then now result → LoadsRoseBy {A = A} (secret_calls choice name) before now result
  rose_as {A} before then now result same rose = subst (λ (counts : List ℕ → ℕ). LoadsRoseBy {A = A} (secret_calls choice name) counts now result) same rose

module _ {I : Type 0} (task : Task) (before after : Environment I) (starts : Starts task before) (picture : Picture)
    (is : IfSome (before.held starts.image) (λ bytes. image_read bytes ≡ Ok picture)) (held : after.held ≡ before.held)
    (calls : after.calls ≡ counted_by (secret_calls starts.choice starts.name) (next_count before.calls)) where
  -- both were loaded
  pub start_called : (status : Status) → FaultBy None status before.faults after.faults → Called (Some task) status before after
  start_called status faults =
      loads_called status before after held task (Ok picture) (Load starts.image ∷ secret_calls starts.choice starts.name)
      (ap (λ (rest : List FileCall). Load starts.image ∷ rest) (secret_ends_calls starts.choice starts.name) ∙ starts.calls picture) (starts.calls picture)
      (secret_keeps starts.choice starts.name) (starts.taken picture is) (λ all. starts.ends status) calls faults

  module _ (write : after.faults.write ≡ before.faults.write) (input_faults : after.faults.input ≡ before.faults.input)
      (input : after.input ≡ before.input) (left : after.left ≡ before.left) where
    abbrev SideOfStart : Status → Type 0
    SideOfStart status = Side task before status

    -- the secret bytes are refused
    secret_refused : (refusal : Refusal) (result : Result Status Cut) → refusal ≡ refusals.TooLong
        → IfSome (secret_held starts.choice starts.name before.held) (λ bytes. secret_read bytes ≡ Err refusal)
        → Does (refusal_outcome refusal) before.taken after.taken result → PutsFaultBy before.faults.puts after.faults.puts result
        → IfOk result (λ ended. ended ≡ status_of_refusal refusal) → after.faults.read ≡ before.faults.read → after.taken.out ≡ before.taken.out
        → HeadlineOf task (status_in result) before after
    secret_refused refusal result long_is long does faults ends read out =
        let side : SideOfStart (status_in result) =
        refusal_ends SideOfStart refusal before.faults.puts after.faults.puts result faults ends
        (subst (λ (other : Refusal). SideOfStart (status_of_refusal other)) (sym long_is) (of_refusal task before refusals.TooLong tt
        (starts.why (subst (λ (other : Refusal). IfSome (secret_held starts.choice starts.name before.held) (λ bytes. secret_read bytes ≡ Err other)) long_is long))))
        (of_cut task before cut.PutFailed) (of_cut task before cut.Memory) in
        let not_silent : (asked : Option Task) → IsSilent asked (status_in result) → ⊥ =
        λ asked. refusal_ends (λ (ended : Status). IsSilent asked ended → ⊥) refusal before.faults.puts after.faults.puts result faults ends (refusal_is_told asked refusal) (λ no. no) (λ no. no) in
        answers _ (Some task) result before after
        (starts.due (λ outcome. Does outcome before.taken after.taken result) picture refusal is long does)
        (start_called (status_in result) (puts_fault None before.faults after.faults result faults read write input_faults (refusal_quiet None before.faults after.faults refusal result ends)))
        (λ words. absurd (side.words words)) (λ silent. absurd (not_silent (Some task) silent)) (λ refused. out)
        (facts_unasked task (status_in result) before after side.causes
        (no_session task (status_in result) before after side.not_out side.not_done (λ e. not_silent None (subst (IsSilent None) (sym e) tt)) input) input left side.not_run)

    -- their load is cut short
    secret_cut : (why : Cut) (A : Type 0) (loads : List FileCall) → secret_calls starts.choice starts.name ≡ loads
        → LoadsRoseBy {A = A} loads before.faults.read after.faults.read (Err (early_end.Cut why))
        → after.faults.puts ≡ before.faults.puts → after.taken ≡ before.taken → HeadlineOf task (status_of_cut why) before after
    secret_cut why A [] same rose puts taken = absurd rose
    secret_cut why A (Load name ∷ []) same rose puts taken =
        file_cut task before after why (λ e. file_not_all task before after name why rose (subst MakesAll (sym e) tt))
        (secret_broken (status_of_cut why) before after held task picture (starts.taken picture is) starts.image name
        (ap (λ (rest : List FileCall). Load starts.image ∷ rest) (sym same) ∙ starts.calls picture) (file_not_all task before after name why rose)
        (calls ∙ ap (λ (rest : List FileCall). counted_by rest (next_count before.calls)) same)
        (file_fault task before after name why rose write puts input_faults))
        taken input left
    secret_cut why A (Save name bytes ∷ []) same rose puts taken = absurd rose
    secret_cut why A (Load name ∷ other ∷ loads) same rose puts taken = absurd rose
    secret_cut why A (Save name bytes ∷ other ∷ loads) same rose puts taken = absurd rose

    -- either of them
    pub secret_ends : (end : EarlyEnd) (A : Type 0) (result : Result Status Cut)
        → ((refusal : Refusal) → early {A = A} end ≡ early (early_end.Refused refusal) → IfSome (secret_held starts.choice starts.name before.held) (λ bytes. secret_read bytes ≡ Err refusal))
        → ((refusal : Refusal) → early {A = A} end ≡ early (early_end.Refused refusal) → refusal ≡ refusals.TooLong)
        → LoadsRoseBy {A = A} (secret_calls starts.choice starts.name) before.faults.read after.faults.read (Err end)
        → EndsEarly end before.taken.err after.taken.err before.faults.puts.err after.faults.puts.err result
        → after.taken.out ≡ before.taken.out → after.faults.puts.out ≡ before.faults.puts.out → HeadlineOf task (status_in result) before after
    secret_ends (early_end.Refused refusal) A result refused long rose ends out out_faults =
        secret_refused refusal result (long refusal refl) (refused refusal refl)
        (beside (Does (refused_outcome refusal)) before.taken after.taken out result ends.does) (beside_faults before.faults.puts after.faults.puts out_faults result ends.faults)
        ends.status (refused_quiet A (secret_calls starts.choice starts.name) before.faults.read after.faults.read refusal rose) out
    secret_ends (early_end.Cut why) A result refused long rose ends out out_faults =
        subst (λ (done : Result Status Cut). HeadlineOf task (status_in done) before after) (sym ends.ends)
        (secret_cut why A (secret_calls starts.choice starts.name) refl rose (λ i. record { out = out_faults i; err = ends.faults i })
        (λ i. record { out = out i; err = ends.err i }))
