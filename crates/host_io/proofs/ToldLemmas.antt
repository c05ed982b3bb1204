-- What is told of bytes that a file holds: all of them.
use Rattle.std.proofs.Common.{◌≡◌, ℕ, ◌<◌, Bool, true, List, [], Option, Some, None, unwrap_or, Result, Ok, Err, OnOk, get_or, if◌then◌else◌, ap, ◌∙◌, arith}
use Rattle.std.specs.Prelude.{nat_lt}
use Rattle.std.proofs.lemmas.Bool.Decides.{nat_tests}
use Rattle.std.proofs.lemmas.List.Elements.{All-from_get_or}
use Rattle.std.proofs.lemmas.List.Sums.{list_all-from_AllPass}
use Rattle.host_io.specs.Bytes.{told_bytes, told_held}

-- All of a list whose items are bytes.
bytes_told : (items : List ℕ) → ((i : ℕ) → get_or items i 0 < 256) → told_bytes items ≡ Some items
bytes_told items small =
    ap (λ (test : Bool). if test then Some items else None)
    (list_all-from_AllPass (λ item. nat_lt item 256) items
    (All-from_get_or (λ item. nat_lt item 256 ≡ true) items 0
    (λ i within. let below = small i in grind (arith, nat_tests))))

-- So of a file that holds them after a call that was to save them.
pub saved_told : {A E : Type 0} (result : Result A E) (held : Option (List ℕ)) (items : List ℕ) →
    ((i : ℕ) → get_or items i 0 < 256) → OnOk result (held ≡ Some items) →
    OnOk result (told_held held ≡ Some items)
saved_told (Ok x) held items small is = ap told_held is ∙ bytes_told items small
saved_told (Err end) held items small is = tt

pub sure_told : {A E : Type 0} (result : Result A E) (held : Option (List ℕ)) (items : List ℕ) →
    ((i : ℕ) → get_or items i 0 < 256) → OnOk result (held ≡ Some items) →
    OnOk result (told_bytes (unwrap_or held []) ≡ Some items)
sure_told (Ok x) held items small is =
    ap (λ (known : Option (List ℕ)). told_bytes (unwrap_or known [])) is ∙ bytes_told items small
sure_told (Err end) held items small is = tt
