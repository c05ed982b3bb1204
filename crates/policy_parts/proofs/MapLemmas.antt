-- What may be absent, and is changed where it is there.
use Rattle.std.proofs.Common.{◌≡◌, Option, Some, None, option_map, refl, ap, subst}
use Rattle.std.proofs.lemmas.Option.{same_Some}
use Rattle.std.specs.Option.{ForSome}
use Rattle.policy_trait.specs.PolicyLaws.{KeepsValue}
use Rattle.policy_trait.specs.Maps.{answer_by, args_by, plan_by}
use Rattle.policy_trait.specs.declared.services.Answer.{Answer}
use Rattle.policy_trait.specs.declared.services.Args.{Args}
use Rattle.policy_trait.specs.declared.services.Plan.{Plan}

pub mapped_twice : {A B C : Type 0} (f : B → C) (g : A → B) (x : Option A) → option_map f (option_map g x) ≡ option_map (λ y. f (g y)) x
mapped_twice f g None = refl
mapped_twice f g (Some x) = refl

-- a plan's tags changed twice
pub plan_twice : {A B C : Type 0} (f : B → C) (g : A → B) (p : Plan A) → plan_by f (plan_by g p) ≡ plan_by (λ t. f (g t)) p
plan_twice f g p = ap (λ x. record (plan_by (λ t. f (g t)) p) { answer = x }) (mapped_twice (answer_by f) (answer_by g) p.answer)

-- what holds of each changed value
pub for_some_mapped : {A B : Type 0} (f : A → B) (P : B → Type 0) (x : Option A) → ForSome x (λ y. P (f y)) → ForSome (option_map f x) P
for_some_mapped f P None all = λ y e. absurd (let h : None ≡ Some y = e in cc)
for_some_mapped {A} {B} f P (Some x) all = λ y e. subst P (same_Some (f x) y e) (all x refl)

-- an answer with another tag keeps its value
pub value_mapped : {T U : Type 0} (f : T → U) (a : Args T) (x : Option (Answer T)) → ForSome x (KeepsValue a)
    → ForSome (option_map (answer_by f) x) (KeepsValue (args_by f a))
value_mapped f a x all = for_some_mapped (answer_by f) (KeepsValue (args_by f a)) x all
