-- Texts of tags, told apart by their first letters, and by the number within the parentheses.
use Rattle.std.proofs.Common.{◌≡◌, ℕ, ◌<◌, ◌≤◌, ◌^◌, suc, zero, List, Option, Some, None, refl, sym, ap, arith}
use Rattle.std.specs.Prelude.{codes, get_or}
use Rattle.std.specs.Fmt.{decimal}
use Rattle.std.specs.Option.{ForSome}
use Rattle.std.proofs.lemmas.Fmt.{decimal_digit, first_decimal}
use Rattle.policy_trait.proofs.TextLemmas.{same_number, within}
use Rattle.flow_policy.specs.Flow.{flow_text, label_text}
use Rattle.flow_policy.specs.TextLaws.{TellsApart}
use Rattle.flow_policy.specs.declared.tag.FlowTag.TheVariants.{Plain, Still, From, Code, Data}

-- a number's text begins with a digit, and so with no hyphen
first_digit : (n : ℕ) → n < 2 ^ 32 → 48 ≤ get_or (decimal n) 0 0
first_digit zero small = let h = ap (λ (text : List ℕ). get_or text 0 0) (decimal_digit 0 (omega arith)) in omega (arith, h)
first_digit (suc n) small = let h = first_decimal (suc n) (omega arith) (omega arith) in omega (arith, h)

no_hyphen : {P : Type 0} (n : ℕ) → n < 2 ^ 32 → codes "-" ≡ decimal n → P
no_hyphen n small e = let h = ap (λ (text : List ℕ). get_or text 0 0) e in absurd (omega (arith, h, first_digit n small))

same_label : (l k : Option ℕ) → ForSome l (λ n. n < 2 ^ 32) → ForSome k (λ n. n < 2 ^ 32) → label_text l ≡ label_text k → l ≡ k
same_label None None l_small k_small e = refl
same_label (Some m) (Some n) l_small k_small e = ap Some (same_number m n (l_small m refl) (k_small n refl) e)
same_label None (Some n) l_small k_small e = no_hyphen n (k_small n refl) e
same_label (Some m) None l_small k_small e = no_hyphen m (l_small m refl) (sym e)

pub texts_tell : TellsApart flow_text
texts_tell Plain Plain x_small y_small e = refl
texts_tell Still Still x_small y_small e = refl
texts_tell Data Data x_small y_small e = refl
texts_tell (From m) (From n) x_small y_small e = ap From (same_number m n x_small y_small (within (codes "from(") (decimal m) (decimal n) e))
texts_tell (Code l) (Code k) x_small y_small e = ap Code (same_label l k x_small y_small (within (codes "code(") (label_text l) (label_text k) e))
texts_tell _ _ x_small y_small e = absurd (let h = ap (λ (text : List ℕ). get_or text 0 0) e in omega arith)
