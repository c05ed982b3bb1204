use Rattle.std.proofs.Common.{List, ℕ, Some, ap, sym, subst, ◌≡◌, ◌∙◌}
use Rattle.host_io.specs.Bytes.{told_bytes}
use Rattle.pump_web.proofs.running.image_in.Goals as goal

pub returns-in-Ok : goal.returns-in-Ok
returns-in-Ok c =
    ap told_bytes (sym c.in-Ok.ensures.ok)
    ∙ subst (λ (bytes : List ℕ). told_bytes bytes ≡ Some bytes) c.deref.ensures.value c.told_law.ensures
