-- Steps that may refuse, one behind the other, where they did not.
use Rattle.std.proofs.Common.{◌≡◌, Bool, true, false, Result, Ok, Err, refl}
use Rattle.std.specs.Prelude.{not}
use Rattle.shared_terms.specs.Steps.{◌>>=◌, demand}

-- a step that did not refuse
pub on_ok : {A B E P : Type 0} (r : Result A E) (f : A → Result B E) (y : B) → (r >>= f) ≡ Ok y → ((x : A) → r ≡ Ok x → f x ≡ Ok y → P) → P
on_ok (Ok x) f y e next = next x refl e
on_ok (Err error) f y e next = absurd cc

-- the last step gives its value
pub ok_is : {E A : Type 0} (x y : A) → ◌≡◌ {A = Result A E} (Ok x) (Ok y) → x ≡ y
ok_is x y e = cc

-- a test that had to hold
pub demanded : {E : Type 0} (t : Bool) (e : E) (u : Unit {0}) → demand t e ≡ Ok u → t ≡ true
demanded true e u is = refl
demanded false e u is = absurd cc

-- a test that had to fail
pub refuted : {E : Type 0} (t : Bool) (e : E) (u : Unit {0}) → demand (not t) e ≡ Ok u → t ≡ false
refuted true e u is = absurd cc
refuted false e u is = refl
