-- The texts of tags tell them apart.
use Rattle.std.specs.Prelude.{◌≡◌, ℕ, List}
use Rattle.taint_policy.specs.declared.tag.TaintTag.{TaintTag}

-- no two tags have one text
abbrev pub TellsApart : (TaintTag → List ℕ) → Type 0
TellsApart text = (x y : TaintTag) → text x ≡ text y → x ≡ y
