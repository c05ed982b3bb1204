use Rattle.std.proofs.Common.{refl, ap, ◌∙◌}
use Rattle.std.specs.Prelude.{is_some}
use Rattle.std.specs.BTreeMap.{is_at}
use Rattle.std.specs.Cmp.Lexicographic.{slice_cmp}
use Rattle.std.specs.FinMap.{get, get-empty}
use Rattle.std.specs.List.{list_any}
use Rattle.std.specs.Ordering.{int_cmp, nat_cmp}
use Rattle.asm_places.proofs.seen.Seen.new.Goals as goal

pub returns : goal.returns
returns c = record {
  version = refl;
  harts = refl;
  ram = refl;
  heap = refl;
  entries = λ hart. ap (list_any (is_at (int_cmp hart))) c.new.ensures.empty;
  names = λ name. ap (λ names. is_some (get names name)) c.new-2.ensures ∙ ap is_some (get-empty (slice_cmp nat_cmp) name);
}
