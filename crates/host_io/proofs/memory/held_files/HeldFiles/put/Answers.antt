-- The first entry of the name is written over, and where there is none one is put last.
use Rattle.std.proofs.Common.{rules, Some, ap, sym, ◌∙◌, string_bytes}
use Rattle.host_io.proofs.SavedLemmas.{push_distinct, push_held, push_others, set_distinct, set_held, set_others}
use Rattle.host_io.proofs.memory.held_files.HeldFiles.put.Goals as goal

pub returns-in-Some-clause-ok : goal.returns-in-Some-clause-ok
returns-in-Some-clause-ok c =
    let found = sym (rw c.deref.ensures.value at c.in-Some.ensures) in
    let named = ap (λ entry. string_bytes entry.0) c.index_mut.ensures.value in
    set_held c.self.inside.entries.items c.args.name.now _ _ _ found named ∙ ap Some (search rules)

pub returns-in-Some-clause-others : goal.returns-in-Some-clause-others
returns-in-Some-clause-others c =
    let found = sym (rw c.deref.ensures.value at c.in-Some.ensures) in
    let named = ap (λ entry. string_bytes entry.0) c.index_mut.ensures.value in
    rw (← c.self.view_is)
    (set_others c.self.inside.entries.items c.args.name.now _ _ _ found named)

pub returns-in-Some-clause-distinct : goal.returns-in-Some-clause-distinct
returns-in-Some-clause-distinct c =
    let named = ap (λ entry. string_bytes entry.0) c.index_mut.ensures.value in
    rw (← c.self.view_is) (set_distinct c.self.inside.entries.items _ _ _ named)

pub returns-in_ok-push-in-None-clause-ok : goal.returns-in_ok-push-in-None-clause-ok
returns-in_ok-push-in-None-clause-ok c =
    let none = sym (rw c.deref.ensures.value at c.in-None.ensures) in
    rw c.in_ok-push-in-None.ensures.items
    (push_held c.self.inside.entries.items c.args.name.now _ none (search rules)
    ∙ ap Some (search rules))

pub returns-in_ok-push-in-None-clause-others : goal.returns-in_ok-push-in-None-clause-others
returns-in_ok-push-in-None-clause-others c = search (rules, push_others)

pub returns-in_ok-push-in-None-clause-distinct : goal.returns-in_ok-push-in-None-clause-distinct
returns-in_ok-push-in-None-clause-distinct c =
    let none = sym (rw c.deref.ensures.value at c.in-None.ensures) in
    rw (c.in_ok-push-in-None.ensures.items, ← c.self.view_is)
    (push_distinct c.self.inside.entries.items c.args.name.now _ none (search rules))
