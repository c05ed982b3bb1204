-- Numbers as the program reads them.
use Rattle.std.specs.Prelude.{ℕ, ◌≤◌, List, length}
use Rattle.std.specs.Str.Parse.{IsNumeral}

-- 1 to 10 decimal digits and nothing else; zeros may lead
abbrev pub IsNumber : List ℕ → Type 0
IsNumber text = IsNumeral 10 text × (length text ≤ 10)
