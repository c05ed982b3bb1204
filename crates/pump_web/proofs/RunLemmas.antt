-- What `pump` guarantees where nothing in its environment can fail.
use Rattle.std.proofs.Common.{◌≡◌, ℕ, Bool, true, List, codes, Option, Some, refl, ap, ◌∙◌, lit<}
use Rattle.host_io.specs.Environment.{Environment, Faults}
use Rattle.pump_line.specs.Task.{Task}
use Rattle.pump_cli.specs.Calls.{FileCall, IsFailedSave, MakesAll, held_after}
use Rattle.pump_cli.specs.Codes.{IsFinal}
use Rattle.pump_cli.specs.Endings.{Outcome}
use Rattle.pump_cli.specs.Facts.{AllStayed, Stayed}
use Rattle.pump_cli.specs.Theorem.{Headline}
use Rattle.pump_cli.specs.declared.status.Status.{Status}
use Rattle.pump_cli.specs.declared.status.Status.TheVariants.{BadElf, BadImage, BadSource, BadTags, BadWords, Done, ExitedNonzero, Faulted, InputFailed, Memory, PutFailed, ReadFailed, TagsOut, TooLong, TurnsSpent, Violated, WriteFailed}
use Rattle.pump_web.specs.Replies.{calls_due, image_after}
use Rattle.pump_web.proofs.DueLemmas.{calls_are}

-- the counts of an environment without faults
abbrev quiet : Faults
quiet = record { read = λ name. 0; write = λ name. 0; input = 0; puts = record { out = 0; err = 0 } }

still : Stayed 0 0
still = record { below = lit< tt; same = refl }

pub all_stayed : AllStayed quiet quiet
all_stayed = record { read = λ name. still; write = λ name. still; input = still; out = still; err = still }

-- a call that nothing cut short made all its calls on files
makes_all : (status : Status) → IsFinal status → MakesAll status
makes_all Done final = tt
makes_all ExitedNonzero final = tt
makes_all BadWords final = tt
makes_all BadImage final = tt
makes_all BadSource final = tt
makes_all BadTags final = tt
makes_all BadElf final = tt
makes_all Violated final = tt
makes_all Faulted final = tt
makes_all TurnsSpent final = tt
makes_all TagsOut final = tt
makes_all ReadFailed final = absurd final
makes_all InputFailed final = tt
makes_all PutFailed final = tt
makes_all Memory final = absurd final
makes_all WriteFailed final = absurd final
makes_all TooLong final = tt

-- and none of its saves failed
none_failed : (status : Status) (broken : Option FileCall) (name : List ℕ) → IsFinal status → IsFailedSave status broken name → ⊥
none_failed Done broken name final failed = failed
none_failed ExitedNonzero broken name final failed = failed
none_failed BadWords broken name final failed = failed
none_failed BadImage broken name final failed = failed
none_failed BadSource broken name final failed = failed
none_failed BadTags broken name final failed = failed
none_failed BadElf broken name final failed = failed
none_failed Violated broken name final failed = failed
none_failed Faulted broken name final failed = failed
none_failed TurnsSpent broken name final failed = failed
none_failed TagsOut broken name final failed = failed
none_failed ReadFailed broken name final failed = absurd final
none_failed InputFailed broken name final failed = absurd final
none_failed PutFailed broken name final failed = absurd final
none_failed Memory broken name final failed = absurd final
none_failed WriteFailed broken name final failed = absurd final
none_failed TooLong broken name final failed = failed

-- so the image is as the calls that are due leave it
pub image_held : {I : Type 0} (due : Option Outcome) (task : Option Task) (status : Status) (before after : Environment I)
    → Headline due task status before after → IsFinal status → before.tells ≡ true
    → (held : List ℕ → List ℕ) → before.held ≡ (λ name. Some (held name))
    → after.held (codes "image") ≡ image_after task (λ name. Some (held name))
image_held due task status before after told final tells held known =
    told.held (codes "image") (none_failed status told.calls.broken (codes "image") final)
    ∙ ap (λ (done : List FileCall). held_after before.tells done before.held (codes "image"))
    (told.calls.all (makes_all status final) ∙ calls_are held task status before after known told.calls)
    ∙ ap (λ (tell : Bool). held_after tell (calls_due task (λ name. Some (held name))) before.held (codes "image")) tells
    ∙ ap (λ (names : List ℕ → Option (List ℕ)). held_after true (calls_due task (λ name. Some (held name))) names (codes "image")) known
