-- The first entry of the name is the one that is found.
use Rattle.std.proofs.Common.{Some, ap, sym, ◌∙◌}
use Rattle.std.specs.Option.{option_map}
use Rattle.host_io.proofs.HeldLemmas.{bytes_held-find}
use Rattle.host_io.proofs.memory.held_files.HeldFiles.find.Goals as goal

pub returns : goal.returns
returns c =
    let found = rw c.deref.ensures.value at c.in_ok-entry.ensures in
    let held = bytes_held-find c.self.inside.entries.items c.args.name.now in
    rw (← c.self.view_is)
    (ap Some c.as_slice.ensures.value ∙ ap (option_map (λ entry. entry.1.items)) found ∙ sym held)

pub returns-in_err-entry : goal.returns-in_err-entry
returns-in_err-entry c =
    let found = rw c.deref.ensures.value at c.in_err-entry.ensures in
    let held = bytes_held-find c.self.inside.entries.items c.args.name.now in
    rw (c.from_residual.ensures, ← c.self.view_is)
    (ap (option_map (λ entry. entry.1.items)) found ∙ sym held)
