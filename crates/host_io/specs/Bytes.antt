-- Lists of bytes, and what files tell of what they hold.
use Rattle.std.proofs.Common.{◌≡◌, ℕ, ◌<◌, Bool, true, false, List, Option, Some, None, All, refl, subst, if◌then◌else◌, arith}
use Rattle.std.specs.Prelude.{nat_lt}
use Rattle.std.specs.List.{list_all}
use Rattle.std.proofs.lemmas.Bool.Decides.{nat_tests}
use Rattle.std.proofs.lemmas.List.Elements.{All-weaker}
use Rattle.std.proofs.lemmas.List.Sums.{AllPass-from_list_all}

-- Each item is the number of a byte.
abbrev pub AreBytes : List ℕ → Type 0
AreBytes items = All (λ item. item < 256) items

-- What is told of the file of each name are bytes.
abbrev pub TellBytes : (List ℕ → Option (List ℕ)) → Type 0
TellBytes held = (name bytes : List ℕ) → held name ≡ Some bytes → AreBytes bytes

-- Whether an item is the number of a byte.
abbrev is_byte : ℕ → Bool
is_byte item = nat_lt item 256

-- What is told of a file in memory that holds these items, all of them bytes.
abbrev pub told_bytes : List ℕ → Option (List ℕ)
told_bytes items = if list_all is_byte items then Some items else None

-- The same where there may be no file.
abbrev pub told_held : Option (List ℕ) → Option (List ℕ)
told_held None = None
told_held (Some items) = told_bytes items

-- What is told are bytes.
bytes_where : (test : Bool) (items bytes : List ℕ) → (test ≡ true → AreBytes items) →
    (if test then Some items else None) ≡ Some bytes → AreBytes bytes
bytes_where true items bytes are is =
    let same : items ≡ bytes = cc in subst AreBytes same (are refl)
bytes_where false items bytes are is = absurd cc

passed_are_bytes : (items : List ℕ) → list_all is_byte items ≡ true → AreBytes items
passed_are_bytes items test =
    All-weaker (λ item. is_byte item ≡ true) (λ item. item < 256)
    (λ item below. grind (arith, nat_tests)) items (AllPass-from_list_all is_byte items test)

pub told_are_bytes : (items bytes : List ℕ) → told_bytes items ≡ Some bytes → AreBytes bytes
told_are_bytes items bytes is =
    bytes_where (list_all is_byte items) items bytes (passed_are_bytes items) is

pub held_are_bytes : (held : Option (List ℕ)) (bytes : List ℕ) → told_held held ≡ Some bytes →
    AreBytes bytes
held_are_bytes None bytes is = absurd cc
held_are_bytes (Some items) bytes is = told_are_bytes items bytes is

-- So are they where nothing is told.
pub none_are_bytes : TellBytes (λ name. None)
none_are_bytes name bytes is = absurd cc
