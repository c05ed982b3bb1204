-- A policy that hides what its tags call secret: what may be told never comes of a secret.
use Rattle.std.specs.Prelude.{◌≡◌, ℕ, Bool, true, false, Option, Some, None, Result, Ok, Err}
use Rattle.rv_decode.specs.declared.groups.Group.{Group}
use Rattle.rv_decode.specs.declared.groups.Group.TheVariants as group
use Rattle.policy_trait.specs.Model.{PolicyModel}
use Rattle.policy_trait.specs.declared.rules.Ins.{Ins}
use Rattle.policy_trait.specs.declared.rules.Outs.{Outs}
use Rattle.policy_trait.specs.declared.rules.Shape.{Shape}
use Rattle.policy_trait.specs.declared.services.Answer.{Answer}
use Rattle.policy_trait.specs.declared.services.Args.{Args}
use Rattle.policy_trait.specs.declared.services.Plan.{Plan}

-- ---- what a result's value is from, by the group

-- from the first operand
abbrev pub is_from_first : Group → Bool
is_from_first group.Move = true
is_from_first group.AddImm = true
is_from_first group.AluImm = true
is_from_first group.Add = true
is_from_first group.Sub = true
is_from_first group.Alu = true
is_from_first _ = false

-- from the second
abbrev pub is_from_second : Group → Bool
is_from_second group.Add = true
is_from_second group.Sub = true
is_from_second group.Alu = true
is_from_second group.StoreWord = true
is_from_second group.StorePart = true
is_from_second _ = false

-- from the memory word
abbrev pub is_from_word : Group → Bool
is_from_word group.LoadWord = true
is_from_word group.LoadPart = true
is_from_word group.StorePart = true
is_from_word _ = false

-- the first operand is what the machine's own service tells
abbrev pub tells_first : Group → Bool
tells_first group.Exit = true
tells_first group.Put = true
tells_first _ = false

module _ {T : Type 0} (is_open : T → Bool) where
  -- a result that is open comes of what is open, and so does what is told
  pub record ComesOfOpen (g : Group) (x : Ins T) (outs : Outs T) : Type 0 where
    pub first : is_open outs.result ≡ true → is_from_first g ≡ true → is_open x.t1 ≡ true
    pub second : is_open outs.result ≡ true → is_from_second g ≡ true → is_open x.t2 ≡ true
    pub word : is_open outs.result ≡ true → is_from_word g ≡ true → is_open x.tm ≡ true
    pub told : tells_first g ≡ true → is_open x.t1 ≡ true

  -- ---- services

  -- arguments whose tags are the same, and their values where the tags are open
  pub record AlikeArgs (a b : Args T) : Type 0 where
    pub t0 : b.t0 ≡ a.t0
    pub t1 : b.t1 ≡ a.t1
    pub t2 : b.t2 ≡ a.t2
    pub ram : b.ram ≡ a.ram
    pub a0 : is_open a.t0 ≡ true → b.a0 ≡ a.a0
    pub a1 : is_open a.t1 ≡ true → b.a1 ≡ a.a1
    pub a2 : is_open a.t2 ≡ true → b.a2 ≡ a.a2

  -- answers that differ in a secret value alone
  abbrev pub AlikeAnswers : Option (Answer T) → Option (Answer T) → Type 0
  AlikeAnswers None None = Unit {0}
  AlikeAnswers (Some x) (Some y) = (y.tag ≡ x.tag) × ((y.rest ≡ x.rest) × (is_open x.tag ≡ true → y.value ≡ x.value))
  AlikeAnswers _ _ = ⊥

  -- plans that differ in what the policy notes and in their answer's secret value alone
  pub record AlikePlans (p q : Plan T) : Type 0 where
    pub same : q ≡ record p { note = q.note; answer = q.answer }
    pub answer : AlikeAnswers p.answer q.answer

-- both answer, alike; or neither does, for the same reason
abbrev pub OkBy : {A B E : Type 0} → (A → B → Type 0) → Result A E → Result B E → Type 0
OkBy Alike (Ok x) (Ok y) = Alike x y
OkBy Alike (Err e) (Err f) = f ≡ e
OkBy Alike _ _ = ⊥

-- What is looked at before a rule is open, an open result comes of what is open, and two values of the policy that are alike answer
-- alike. Its plans are of a kind that may differ in its note and in their answer's secret value alone, and what they do to words and
-- to the policy is the same or alike.
pub record Hides {T S : Type 0} (is_open : T → Bool) (m : PolicyModel T S) (like : S → S → Type 0) (kin : S → Plan T → Plan T → Type 0) : Type 0 where
  pub first_open : (s t : S) → like s t → (shape : Shape) (x y : T) → m.peek s shape x y ≡ Ok tt → is_open x ≡ true
  pub second_open : (s t : S) → like s t → (shape : Shape) (x y : T) → m.peek s shape x y ≡ Ok tt → is_open y ≡ true
  pub results : (s t : S) → like s t → (g : Group) (x : Ins T) (outs : Outs T) → m.rule s g x ≡ Ok outs → ComesOfOpen is_open g x outs
  pub stays_hidden : (s t : S) → like s t → (p : Plan T) (old new : T) → m.retag s p old ≡ Ok new → p.zero ≡ false → is_open new ≡ true → is_open old ≡ true
  -- the same of both
  pub plain : (s t : S) → like s t → m.plain t ≡ m.plain s
  pub rule : (s t : S) → like s t → (g : Group) (x : Ins T) → m.rule t g x ≡ m.rule s g x
  pub ignores : (s t : S) → like s t → (g : Group) → m.ignores t g ≡ m.ignores s g
  pub peek : (s t : S) → like s t → (shape : Shape) (x y : T) → m.peek t shape x y ≡ m.peek s shape x y
  pub knows : (s t : S) → like s t → (k : ℕ) → m.knows t k ≡ m.knows s k
  pub uses : (s t : S) → like s t → (k : ℕ) → m.uses t k ≡ m.uses s k
  pub lend : (s t : S) → like s t → (tag : T) → m.lend t tag ≡ m.lend s tag
  pub lends_open : (s t : S) → like s t → (tag : T) → m.lend s tag ≡ Ok tt → is_open tag ≡ true
  pub wipe : (s t : S) → like s t → (pc old : T) → m.wipe t pc old ≡ m.wipe s pc old
  -- a plan's service is the number that was asked
  pub serves : (s : S) (k : ℕ) (a : Args T) (pc : T) (p : Plan T) → m.plan s k a pc ≡ Ok p → p.service ≡ k
  -- alike of both
  pub alike_plans : (s : S) (p q : Plan T) → kin s p q → AlikePlans is_open p q
  pub plan : (s t : S) → like s t → (k : ℕ) (a b : Args T) (pc : T) → AlikeArgs is_open a b → OkBy (kin s) (m.plan s k a pc) (m.plan t k b pc)
  pub retag : (s t : S) → like s t → (p q : Plan T) (old : T) → kin s p q → m.retag t q old ≡ m.retag s p old
  pub commit : (s t : S) → like s t → (p q : Plan T) → kin s p q → like (m.commit s p) (m.commit t q)
