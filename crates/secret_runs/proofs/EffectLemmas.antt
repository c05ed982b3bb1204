-- The effects of an instruction in two worlds, where the operands that it looks at before its rule are the same.
use Rattle.std.proofs.Common.{◌≡◌, ℕ, ◌*◌, ◌/◌, ◌%◌, ◌^◌, ◌==◌, nat_lt, Bool, true, false, not, ◌&&◌, Option, Some, None, if◌then◌else◌, bit_and, bit_or, bit_xor, refl, ap}
use Rattle.policy_trait.specs.declared.rules.Shape.{Shape}
use Rattle.policy_trait.specs.declared.rules.Shape.TheVariants as shape
use Rattle.rv_decode.specs.Groups.{group_of}
use Rattle.rv_decode.specs.declared.groups.Group.{Group}
use Rattle.rv_decode.specs.declared.groups.Group.TheVariants as group
use Rattle.rv_decode.specs.declared.instructions.Instr.{Instr}
use Rattle.rv_decode.specs.declared.instructions.Instr.TheVariants as instr
use Rattle.rv_products.specs.Products.{low_product, high_product, high_product_mixed, high_product_unsigned}
use Rattle.rv_products.specs.Quotients.{quotient, quotient_unsigned, remainder, remainder_unsigned}
use Rattle.rv_step.specs.Accesses.{stored_in}
use Rattle.rv_step.specs.Checks.{access_fault, first_fault, first_of}
use Rattle.rv_step.specs.Effects.{effect_of, flag, is_less_signed, minus, plus, shifted_down_signed, shifted_up}
use Rattle.rv_step.specs.declared.accesses.Access.{Access}
use Rattle.rv_step.specs.declared.accesses.Access.TheVariants as access
use Rattle.rv_step.specs.declared.accesses.Width.TheVariants.{Byte, Half}
use Rattle.rv_step.specs.declared.effects.Effect.{Effect}
use Rattle.rv_step.specs.declared.faults.Fault.TheVariants.{JumpAlign}
use Rattle.turn_steps.specs.Peeks.{shape_of}
use Rattle.secret_runs.specs.Hides.{is_from_first, is_from_second, is_from_word}

-- which operands a look of this shape is at

abbrev pub looks_at_first : Option Shape → Bool
looks_at_first (Some shape.Load) = true
looks_at_first (Some shape.Store) = true
looks_at_first (Some shape.Jump) = true
looks_at_first (Some shape.Branch) = true
looks_at_first _ = false

abbrev pub looks_at_second : Option Shape → Bool
looks_at_second (Some shape.Branch) = true
looks_at_second (Some shape.Call) = true
looks_at_second _ = false

-- The same access: what is loaded is from the word, and what a store leaves is the same where what it comes of is
abbrev pub AlikeAccesses : Type 0 → Group → Access → Access → Type 0
AlikeAccesses Second g access.None access.None = Unit {0}
AlikeAccesses Second g (access.Load addr width signed) (access.Load other wide has_sign) = (other ≡ addr) × ((wide ≡ width) × ((has_sign ≡ signed) × (is_from_word g ≡ true)))
AlikeAccesses Second g (access.Store addr width value) (access.Store other wide also) =
    (other ≡ addr) × ((wide ≡ width) × ((is_from_second g ≡ true) × ((old new : ℕ) → (is_from_word g ≡ true → new ≡ old) → Second → stored_in new other wide also ≡ stored_in old addr width value)))
AlikeAccesses Second g _ _ = ⊥

-- the same next pc and access, and the same value where what it comes of is the same
pub record AlikeEffects (First Second : Type 0) (g : Group) (e d : Effect) : Type 0 where
  pub next : d.next ≡ e.next
  pub taken : d.taken ≡ e.taken
  pub access : AlikeAccesses Second g e.access d.access
  pub value : (is_from_first g ≡ true → First) → (is_from_second g ≡ true → Second) → d.value ≡ e.value

-- ADDI takes its operand, whether it moves or adds
adds_first : (moves : Bool) → is_from_first (if moves then group.Move else group.AddImm) ≡ true
adds_first true = refl
adds_first false = refl

module _ (pc a b c d : ℕ) where
  abbrev First : Type 0
  First = c ≡ a

  abbrev Second : Type 0
  Second = d ≡ b

  pub effect_alike : (it : Instr) (service : ℕ) → (looks_at_first (shape_of it) ≡ true → First) → (looks_at_second (shape_of it) ≡ true → Second)
      → AlikeEffects First Second (group_of it service) (effect_of it pc a b) (effect_of it pc c d)
  effect_alike (instr.Lui _ imm) service one two = record { next = refl; taken = refl; access = tt; value = λ f s. refl }
  effect_alike (instr.Auipc _ imm) service one two = record { next = refl; taken = refl; access = tt; value = λ f s. refl }
  effect_alike (instr.Jal _ imm) service one two = record { next = refl; taken = refl; access = tt; value = λ f s. refl }
  effect_alike (instr.Jalr _ _ imm) service one two = record { next = ap (λ (x : ℕ). plus x imm / 2 * 2) (one refl); taken = refl; access = tt; value = λ f s. refl }
  effect_alike (instr.Beq _ _ imm) service one two = record { next = λ j. if one refl j == two refl j then plus pc imm else plus pc 4; taken = λ j. one refl j == two refl j; access = tt; value = λ f s. refl }
  effect_alike (instr.Bne _ _ imm) service one two = record { next = λ j. if not (one refl j == two refl j) then plus pc imm else plus pc 4; taken = λ j. not (one refl j == two refl j); access = tt; value = λ f s. refl }
  effect_alike (instr.Blt _ _ imm) service one two = record { next = λ j. if is_less_signed (one refl j) (two refl j) then plus pc imm else plus pc 4; taken = λ j. is_less_signed (one refl j) (two refl j); access = tt; value = λ f s. refl }
  effect_alike (instr.Bge _ _ imm) service one two = record { next = λ j. if not (is_less_signed (one refl j) (two refl j)) then plus pc imm else plus pc 4; taken = λ j. not (is_less_signed (one refl j) (two refl j)); access = tt; value = λ f s. refl }
  effect_alike (instr.Bltu _ _ imm) service one two = record { next = λ j. if nat_lt (one refl j) (two refl j) then plus pc imm else plus pc 4; taken = λ j. nat_lt (one refl j) (two refl j); access = tt; value = λ f s. refl }
  effect_alike (instr.Bgeu _ _ imm) service one two = record { next = λ j. if not (nat_lt (one refl j) (two refl j)) then plus pc imm else plus pc 4; taken = λ j. not (nat_lt (one refl j) (two refl j)); access = tt; value = λ f s. refl }
  effect_alike (instr.Lb _ _ imm) service one two = record { next = refl; taken = refl; access = (ap (λ (x : ℕ). plus x imm) (one refl), (refl, (refl, refl))); value = λ f s. refl }
  effect_alike (instr.Lh _ _ imm) service one two = record { next = refl; taken = refl; access = (ap (λ (x : ℕ). plus x imm) (one refl), (refl, (refl, refl))); value = λ f s. refl }
  effect_alike (instr.Lw _ _ imm) service one two = record { next = refl; taken = refl; access = (ap (λ (x : ℕ). plus x imm) (one refl), (refl, (refl, refl))); value = λ f s. refl }
  effect_alike (instr.Lbu _ _ imm) service one two = record { next = refl; taken = refl; access = (ap (λ (x : ℕ). plus x imm) (one refl), (refl, (refl, refl))); value = λ f s. refl }
  effect_alike (instr.Lhu _ _ imm) service one two = record { next = refl; taken = refl; access = (ap (λ (x : ℕ). plus x imm) (one refl), (refl, (refl, refl))); value = λ f s. refl }
  effect_alike (instr.Sb _ _ imm) service one two = record { next = refl; taken = refl; access = (ap (λ (x : ℕ). plus x imm) (one refl), (refl, (refl, λ old new word second j. stored_in (word refl j) (plus (one refl j) imm) Byte (second j)))); value = λ f s. refl }
  effect_alike (instr.Sh _ _ imm) service one two = record { next = refl; taken = refl; access = (ap (λ (x : ℕ). plus x imm) (one refl), (refl, (refl, λ old new word second j. stored_in (word refl j) (plus (one refl j) imm) Half (second j)))); value = λ f s. refl }
  effect_alike (instr.Sw _ _ imm) service one two = record { next = refl; taken = refl; access = (ap (λ (x : ℕ). plus x imm) (one refl), (refl, (refl, λ old new word second. second))); value = λ f s. refl }
  effect_alike (instr.Addi _ _ imm) service one two = record { next = refl; taken = refl; access = tt; value = λ f s. ap (λ (x : ℕ). Some (plus x imm)) (f (adds_first (imm == 0))) }
  effect_alike (instr.Slti _ _ imm) service one two = record { next = refl; taken = refl; access = tt; value = λ f s. ap (λ (x : ℕ). Some (flag (is_less_signed x imm))) (f refl) }
  effect_alike (instr.Sltiu _ _ imm) service one two = record { next = refl; taken = refl; access = tt; value = λ f s. ap (λ (x : ℕ). Some (flag (nat_lt x imm))) (f refl) }
  effect_alike (instr.Xori _ _ imm) service one two = record { next = refl; taken = refl; access = tt; value = λ f s. ap (λ (x : ℕ). Some (bit_xor x imm)) (f refl) }
  effect_alike (instr.Ori _ _ imm) service one two = record { next = refl; taken = refl; access = tt; value = λ f s. ap (λ (x : ℕ). Some (bit_or x imm)) (f refl) }
  effect_alike (instr.Andi _ _ imm) service one two = record { next = refl; taken = refl; access = tt; value = λ f s. ap (λ (x : ℕ). Some (bit_and x imm)) (f refl) }
  effect_alike (instr.Slli _ _ amount) service one two = record { next = refl; taken = refl; access = tt; value = λ f s. ap (λ (x : ℕ). Some (shifted_up x amount)) (f refl) }
  effect_alike (instr.Srli _ _ amount) service one two = record { next = refl; taken = refl; access = tt; value = λ f s. ap (λ (x : ℕ). Some (x / 2 ^ amount)) (f refl) }
  effect_alike (instr.Srai _ _ amount) service one two = record { next = refl; taken = refl; access = tt; value = λ f s. ap (λ (x : ℕ). Some (shifted_down_signed x amount)) (f refl) }
  effect_alike (instr.Add _ _ _) service one two = record { next = refl; taken = refl; access = tt; value = λ f s j. Some (plus (f refl j) (s refl j)) }
  effect_alike (instr.Sub _ _ _) service one two = record { next = refl; taken = refl; access = tt; value = λ f s j. Some (minus (f refl j) (s refl j)) }
  effect_alike (instr.Sll _ _ _) service one two = record { next = refl; taken = refl; access = tt; value = λ f s j. Some (shifted_up (f refl j) ((s refl j) % 32)) }
  effect_alike (instr.Slt _ _ _) service one two = record { next = refl; taken = refl; access = tt; value = λ f s j. Some (flag (is_less_signed (f refl j) (s refl j))) }
  effect_alike (instr.Sltu _ _ _) service one two = record { next = refl; taken = refl; access = tt; value = λ f s j. Some (flag (nat_lt (f refl j) (s refl j))) }
  effect_alike (instr.Xor _ _ _) service one two = record { next = refl; taken = refl; access = tt; value = λ f s j. Some (bit_xor (f refl j) (s refl j)) }
  effect_alike (instr.Srl _ _ _) service one two = record { next = refl; taken = refl; access = tt; value = λ f s j. Some ((f refl j) / 2 ^ ((s refl j) % 32)) }
  effect_alike (instr.Sra _ _ _) service one two = record { next = refl; taken = refl; access = tt; value = λ f s j. Some (shifted_down_signed (f refl j) ((s refl j) % 32)) }
  effect_alike (instr.Or _ _ _) service one two = record { next = refl; taken = refl; access = tt; value = λ f s j. Some (bit_or (f refl j) (s refl j)) }
  effect_alike (instr.And _ _ _) service one two = record { next = refl; taken = refl; access = tt; value = λ f s j. Some (bit_and (f refl j) (s refl j)) }
  effect_alike (instr.Mul _ _ _) service one two = record { next = refl; taken = refl; access = tt; value = λ f s j. Some (low_product (f refl j) (s refl j)) }
  effect_alike (instr.Mulh _ _ _) service one two = record { next = refl; taken = refl; access = tt; value = λ f s j. Some (high_product (f refl j) (s refl j)) }
  effect_alike (instr.Mulhsu _ _ _) service one two = record { next = refl; taken = refl; access = tt; value = λ f s j. Some (high_product_mixed (f refl j) (s refl j)) }
  effect_alike (instr.Mulhu _ _ _) service one two = record { next = refl; taken = refl; access = tt; value = λ f s j. Some (high_product_unsigned (f refl j) (s refl j)) }
  effect_alike (instr.Div _ _ _) service one two = record { next = refl; taken = refl; access = tt; value = λ f s j. Some (quotient (f refl j) (s refl j)) }
  effect_alike (instr.Divu _ _ _) service one two = record { next = refl; taken = refl; access = tt; value = λ f s j. Some (quotient_unsigned (f refl j) (s refl j)) }
  effect_alike (instr.Rem _ _ _) service one two = record { next = refl; taken = refl; access = tt; value = λ f s j. Some (remainder (f refl j) (s refl j)) }
  effect_alike (instr.Remu _ _ _) service one two = record { next = refl; taken = refl; access = tt; value = λ f s j. Some (remainder_unsigned (f refl j) (s refl j)) }
  effect_alike (instr.Fence _) service one two = record { next = refl; taken = refl; access = tt; value = λ f s. refl }
  effect_alike instr.Ecall service one two = record { next = refl; taken = refl; access = tt; value = λ f s. refl }
  effect_alike instr.Ebreak service one two = record { next = refl; taken = refl; access = tt; value = λ f s. refl }

-- the same fault, if any
accesses_fault : (Second : Type 0) (g : Group) (e d : Access) (bytes : ℕ) → AlikeAccesses Second g e d → access_fault d bytes ≡ access_fault e bytes
accesses_fault Second g access.None access.None bytes alike = refl
accesses_fault Second g (access.Load addr width signed) (access.Load other wide has_sign) bytes alike =
    λ j. access_fault (access.Load (alike.0 j) (alike.1.0 j) (alike.1.1.0 j)) bytes
accesses_fault Second g (access.Store addr width value) (access.Store other wide also) bytes alike =
    λ j. access_fault (access.Store (alike.0 j) (alike.1.0 j) value) bytes
accesses_fault Second g access.None (access.Load _ _ _) bytes alike = absurd alike
accesses_fault Second g access.None (access.Store _ _ _) bytes alike = absurd alike
accesses_fault Second g (access.Load _ _ _) access.None bytes alike = absurd alike
accesses_fault Second g (access.Load _ _ _) (access.Store _ _ _) bytes alike = absurd alike
accesses_fault Second g (access.Store _ _ _) access.None bytes alike = absurd alike
accesses_fault Second g (access.Store _ _ _) (access.Load _ _ _) bytes alike = absurd alike

pub faults_alike : (First Second : Type 0) (g : Group) (e d : Effect) (bytes : ℕ) → AlikeEffects First Second g e d → first_fault d bytes ≡ first_fault e bytes
faults_alike First Second g e d bytes alike =
    λ j. first_of (accesses_fault Second g e.access d.access bytes alike.access j)
    (if alike.taken j && not (alike.next j % 4 == 0) then Some (JumpAlign (alike.next j)) else None)
