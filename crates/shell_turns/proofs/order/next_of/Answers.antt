use Rattle.std.proofs.Common.{rules, ℕ, ◌<◌, ◌∷◌, All, length, ◌≡◌, subst}
use Rattle.std.proofs.lemmas.List.Elements.{All-tail}
use Rattle.shell_turns.proofs.order.next_of.Goals as goal

pub returns-in_ok-h-in-Listed-clause-rest : goal.returns-in_ok-h-in-Listed-clause-rest
returns-in_ok-h-in-Listed-clause-rest g c =
    let named = λ (h : ℕ). h < length (g.E.Engine.standing c.args.engine.now).machine.core.harts in
    let is : c.in-Listed.harts.now ≡ c.in_ok-h-in-Listed.h.now ∷ c.in_ok-h-in-Listed.rest.now = search rules in
    let all : All named c.in-Listed.harts.now = rw c.in-Listed.is at c.requires in
    All-tail named c.in_ok-h-in-Listed.h.now c.in_ok-h-in-Listed.rest.now (subst (All named) is all)
