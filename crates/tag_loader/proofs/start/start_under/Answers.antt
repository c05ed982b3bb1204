use Rattle.std.proofs.Common.{◌≡◌, ◌≤◌, rules}
use Rattle.tag_memory.specs.Ram.{IsRam, ram_bytes}
use Rattle.tag_loader.proofs.StartLemmas.{start_is_machine}
use Rattle.tag_loader.proofs.start.start_under.Goals as goal

pub new-requires : goal.new-requires
new-requires g c =
    let plain : c.from_parts.result.plain ≡ g.P.Policy.model.plain c.args.policy = search rules in
    let sound : IsRam c.from_parts.result = search rules in
    let room : g.P.Policy.model.room c.args.policy ≤ ram_bytes c.from_parts.result = search rules in
    start_is_machine g.P.Policy.model c.args.policy c.in_ok-harts.harts.items c.from_parts.result
    c.in_ok-harts.ensures.some c.in_ok-harts.ensures.few c.in_ok-harts.ensures.plain sound plain room
