-- The laws that every policy keeps.
use Rattle.std.specs.Prelude.{◌≡◌, ℕ, ◌+◌, ◌*◌, ◌%◌, ◌^◌, ◌<◌, ◌≤◌, false, Option, Ok, IsTrue}
use Rattle.std.specs.Option.{ForSome}
use Rattle.rv_decode.specs.declared.groups.Group.{Group}
use Rattle.policy_trait.specs.Model.{CanPlan, IsGiven, PolicyModel, masked_inputs}
use Rattle.policy_trait.specs.declared.birth.Birth.{Birth}
use Rattle.policy_trait.specs.declared.rules.Ins.{Ins}
use Rattle.policy_trait.specs.declared.rules.Shape.{Shape}
use Rattle.policy_trait.specs.declared.services.Answer.{Answer}
use Rattle.policy_trait.specs.declared.services.Args.{Args}
use Rattle.policy_trait.specs.declared.services.Plan.{Plan}
use Rattle.policy_trait.specs.declared.services.Rest.TheVariants.{AsA0}
use Rattle.policy_trait.specs.declared.services.Words.{Words}

-- whole words within memory, at least one
pub record IsRange (ram : ℕ) (words : Words) : Type 0 where
  pub aligned : words.base % 4 ≡ 0
  pub nonempty : 1 ≤ words.count
  pub within : words.base + 4 * words.count ≤ ram

-- two values of a policy that differ at most in what plan, retag, listed and later commits answer
pub record SameRules {T S : Type 0} (m : PolicyModel T S) (s n : S) : Type 0 where
  pub plain : m.plain n ≡ m.plain s
  pub rule : (g : Group) (x : Ins T) → m.rule n g x ≡ m.rule s g x
  pub ignores : (g : Group) → m.ignores n g ≡ m.ignores s g
  pub peeks : m.peeks n ≡ m.peeks s
  pub peek : (shape : Shape) (first second : T) → m.peek n shape first second ≡ m.peek s shape first second
  pub knows : (k : ℕ) → m.knows n k ≡ m.knows s k
  pub uses : (k : ℕ) → m.uses n k ≡ m.uses s k
  pub lend : (t : T) → m.lend n t ≡ m.lend s t
  pub room : m.room n ≡ m.room s
  pub wipe : (pc old : T) → m.wipe n pc old ≡ m.wipe s pc old
  pub start_pc : (b : Birth) → m.start_pc n b ≡ m.start_pc s b
  pub start_word : (b : Birth) → m.start_word n b ≡ m.start_word s b
  pub text : (t : T) → m.text n t ≡ m.text s t

-- an answer whose rest is that of a0 has a0's value
abbrev pub KeepsValue : {T : Type 0} → Args T → Answer T → Type 0
KeepsValue arguments answer = answer.rest ≡ AsA0 → answer.value ≡ arguments.a0

-- the same value and tag in each of the arguments that are used, of which there are so many from a0 on, and the same
-- memory; the arguments that are not used may differ in both
pub record AgreesOnUsed {T : Type 0} (uses : ℕ) (a b : Args T) : Type 0 where
  pub a0 : 1 ≤ uses → a.a0 ≡ b.a0
  pub t0 : 1 ≤ uses → a.t0 ≡ b.t0
  pub a1 : 2 ≤ uses → a.a1 ≡ b.a1
  pub t1 : 2 ≤ uses → a.t1 ≡ b.t1
  pub a2 : 3 ≤ uses → a.a2 ≡ b.a2
  pub t2 : 3 ≤ uses → a.t2 ≡ b.t2
  pub ram : a.ram ≡ b.ram

-- the values are words, and so is the number of memory's bytes
pub record AreWords {T : Type 0} (arguments : Args T) : Type 0 where
  pub a0 : arguments.a0 < 2 ^ 32
  pub a1 : arguments.a1 < 2 ^ 32
  pub a2 : arguments.a2 < 2 ^ 32
  pub ram : arguments.ram < 2 ^ 32

abbrev pub HasWord : {T : Type 0} → Answer T → Type 0
HasWord answer = answer.value < 2 ^ 32

pub record KeepsLaws {T S : Type 0} (m : PolicyModel T S) (holds : S → Type 0) : Type 0 where
  -- masked inputs change no answer, refusals included
  pub masks : (s : S) (g : Group) (x : Ins T) → m.rule s g x ≡ m.rule s g (masked_inputs (m.ignores s g) (m.plain s) x)
  -- a policy that refuses no look allows each
  pub unpeeked : (s : S) (shape : Shape) (first second : T) → m.peeks s ≡ false → m.peek s shape first second ≡ Ok tt
  -- a look at two values is allowed where it is at each of them alone
  pub parted : (s : S) (shape : Shape) (first second : T) → m.peek s shape first (m.plain s) ≡ Ok tt → m.peek s shape second (m.plain s) ≡ Ok tt
      → m.peek s shape first second ≡ Ok tt
  -- a commit changes what plan, retag, listed and later commits answer, and nothing else
  pub keeps : (s : S) (p : Plan T) → IsGiven m s p → SameRules m s (m.commit s p)
  -- and leaves the policy's invariant
  pub stays : (s : S) (p : Plan T) → IsGiven m s p → holds s → holds (m.commit s p)
  -- and can be taken back
  pub undoes : (s : S) (p : Plan T) → IsGiven m s p → holds s → m.uncommit (m.commit s p) p ≡ s
  -- a plan's range is one within memory
  pub ranges : (s : S) (k : ℕ) (a : Args T) (pc : T) (p : Plan T) → CanPlan m s k a → holds s → m.plan s k a pc ≡ Ok p → ForSome p.range (IsRange a.ram)
  -- at most the three arguments are used
  pub few : (s : S) (k : ℕ) → IsTrue (m.knows s k) → m.uses s k ≤ 3
  -- a plan's service is the number that was asked
  pub service : (s : S) (k : ℕ) (a : Args T) (pc : T) (p : Plan T) → IsTrue (m.knows s k) → m.plan s k a pc ≡ Ok p → p.service ≡ k
  -- an answer that leaves the other parts a0's tags is a0's value
  pub value : (s : S) (k : ℕ) (a : Args T) (pc : T) (p : Plan T) → IsTrue (m.knows s k) → m.plan s k a pc ≡ Ok p → ForSome p.answer (KeepsValue a)
  -- a plan looks at no argument that its service does not use
  pub unused : (s : S) (k : ℕ) (a b : Args T) (pc : T) → IsTrue (m.knows s k) → AgreesOnUsed (m.uses s k) a b → m.plan s k a pc ≡ m.plan s k b pc
  -- what is answered changes neither the words' new tags nor what a commit leaves
  pub blind_retag : (s : S) (p : Plan T) (x : Option (Answer T)) (old : T) → m.retag s (record p { answer = x }) old ≡ m.retag s p old
  pub blind_commit : (s : S) (p : Plan T) (x : Option (Answer T)) → m.commit s (record p { answer = x }) ≡ m.commit s p
  -- the answer to words is a word
  pub words : (s : S) (k : ℕ) (a : Args T) (pc : T) (p : Plan T) → CanPlan m s k a → holds s → AreWords a → m.plan s k a pc ≡ Ok p → ForSome p.answer HasWord
