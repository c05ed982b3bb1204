-- Steps in a row, each of which may refuse: the first refusal decides. These are the steps of a `do` block.
use Rattle.std.specs.Prelude.{Bool, true, false, Result, Ok, Err}

infixl 10 ◌>>=◌
abbrev pub ◌>>=◌ : {A B E : Type 0} → Result A E → (A → Result B E) → Result B E
(Ok x) >>= f = f x
(Err refusal) >>= f = Err refusal

-- a test that must hold, or else the refusal
abbrev pub demand : {E : Type 0} → Bool → E → Result (Unit {0}) E
demand true refusal = Ok tt
demand false refusal = Err refusal

-- a result by what is seen of its value
abbrev pub result_view : {E A B : Type 0} → (A → B) → Result A E → Result B E
result_view view (Ok x) = Ok (view x)
result_view view (Err refusal) = Err refusal
