-- The texts of tags tell them apart.
use Rattle.std.specs.Prelude.{◌≡◌, ℕ, List}
use Rattle.secrecy_policy.specs.declared.tag.SecretTag.{SecretTag}

-- no two tags have one text
abbrev pub TellsApart : (SecretTag → List ℕ) → Type 0
TellsApart text = (x y : SecretTag) → text x ≡ text y → x ≡ y
