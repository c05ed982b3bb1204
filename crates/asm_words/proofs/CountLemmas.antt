-- A statement emits as many words as are counted.
use Rattle.std.proofs.Common.{◌≡◌, ◌∙◌, ℕ, Bool, true, false, length, refl, sym, ap}
use Rattle.std.specs.Prelude.{◌==◌, ℤ, pos, negsuc, Option, Some, Result, Ok, Err, if◌then◌else◌, ◌*◌, ◌^◌}
use Rattle.std.proofs.lemmas.List.{length-replicate}
use Rattle.rv_decode.specs.declared.instructions.Instr.TheVariants.{Lui, Jal, Jalr, Addi, Ecall, Ebreak}
use Rattle.asm_read.specs.declared.errors.AsmErrorKind.{AsmErrorKind}
use Rattle.asm_read.specs.declared.errors.AsmErrorKind.TheVariants as kinds
use Rattle.asm_read.specs.declared.statements.Statement.TheVariants as statements
use Rattle.shared_terms.specs.Steps.{◌>>=◌}
use Rattle.asm_words.specs.declared.emissions.Emission.{Emission}
use Rattle.asm_words.specs.declared.emissions.Emission.TheVariants as emissions
use Rattle.asm_words.specs.Emission.{address_of, both_parts, branch, count_of, emission_of, fence, immediate, jump, jump_register, load, load_address, load_number, load_word, one, shift, store, upper, word, word_load_count, words_of, zero_count, zeros}
use Rattle.asm_words.specs.EmissionLaws.{IsCounted}
use Rattle.asm_words.specs.Instructions.{branch_of, load_of, store_of, with_amount, with_immediate, with_registers, with_upper}
use Rattle.asm_words.specs.Ranges.{amount_at, branch_offset, high_part, immediate_at, is_short, jump_offset, low_part, upper_at, word_modulo}

-- what is emitted, if anything is, has so many words
abbrev Emits : Option ℕ → Result Emission AsmErrorKind → Type 0
Emits count result = (emission : Emission) → result ≡ Ok emission → count ≡ Some (length (words_of emission))

given : (count : Option ℕ) (x : Emission) → count ≡ Some (length (words_of x)) → Emits count (Ok x)
given count x is emission same = let one : x ≡ emission = cc in is ∙ ap (λ (v : Emission). Some (length (words_of v))) one

bound : {A : Type 0} (count : Option ℕ) (r : Result A AsmErrorKind) (f : A → Result Emission AsmErrorKind) → ((x : A) → Emits count (f x)) → Emits count (r >>= f)
bound count (Ok x) f each emission same = each x emission same
bound count (Err kind) f each emission same = absurd cc

refused : (kind : AsmErrorKind) (count : Option ℕ) → Emits count (Err kind)
refused kind count emission same = absurd cc

load_counted : (rd w : ℕ) → Some (word_load_count w) ≡ Some (length (words_of (load_word rd w)))
load_counted rd w = go (is_short w) (low_part w == 0)
  where
    go : (short clear : Bool)
        → Some (if short then 1 else if clear then 1 else 2) ≡ Some (length (words_of (if short then one (Addi rd 0 w) else if clear then one (Lui rd (high_part w * 2 ^ 12)) else both_parts rd w)))
    go true clear = refl
    go false true = refl
    go false false = refl

zeros_counted : (n : ℤ) → Emits (zero_count n) (zeros n)
zeros_counted (pos m) = given (Some m) (emissions.Zeros m) (ap (λ (k : ℕ). Some k) (sym (length-replicate m 0)))
zeros_counted (negsuc m) = refused kinds.Range (zero_count (negsuc m))

pub counted : IsCounted
unfolding count_of emission_of address_of immediate shift upper load store branch jump jump_register load_number load_address word
counted places place (statements.Registers operation rd rs1 rs2) = given (Some 1) (one (with_registers operation rd rs1 rs2)) refl
counted places place (statements.Immediate operation rd rs1 n) = bound (Some 1) (immediate_at n) (λ imm. Ok (one (with_immediate operation rd rs1 imm))) (λ imm. given (Some 1) (one (with_immediate operation rd rs1 imm)) refl)
counted places place (statements.Shift operation rd rs1 n) = bound (Some 1) (amount_at n) (λ imm. Ok (one (with_amount operation rd rs1 imm))) (λ imm. given (Some 1) (one (with_amount operation rd rs1 imm)) refl)
counted places place (statements.Upper operation rd n) = bound (Some 1) (upper_at n) (λ imm. Ok (one (with_upper operation rd imm))) (λ imm. given (Some 1) (one (with_upper operation rd imm)) refl)
counted places place (statements.Load operation rd rs1 n) = bound (Some 1) (immediate_at n) (λ imm. Ok (one (load_of operation rd rs1 imm))) (λ imm. given (Some 1) (one (load_of operation rd rs1 imm)) refl)
counted places place (statements.Store operation rs2 rs1 n) = bound (Some 1) (immediate_at n) (λ imm. Ok (one (store_of operation rs1 rs2 imm))) (λ imm. given (Some 1) (one (store_of operation rs1 rs2 imm)) refl)
counted places place (statements.Branch operation rs1 rs2 target) = bound (Some 1) (address_of places target) (λ address. branch_offset place address >>= λ offset. Ok (one (branch_of operation rs1 rs2 offset))) (λ address. bound (Some 1) (branch_offset place address) (λ offset. Ok (one (branch_of operation rs1 rs2 offset))) (λ offset. given (Some 1) (one (branch_of operation rs1 rs2 offset)) refl))
counted places place (statements.Jump rd target) = bound (Some 1) (address_of places target) (λ address. jump_offset place address >>= λ offset. Ok (one (Jal rd offset))) (λ address. bound (Some 1) (jump_offset place address) (λ offset. Ok (one (Jal rd offset))) (λ offset. given (Some 1) (one (Jal rd offset)) refl))
counted places place (statements.JumpRegister rd rs1 n) = bound (Some 1) (immediate_at n) (λ imm. Ok (one (Jalr rd rs1 imm))) (λ imm. given (Some 1) (one (Jalr rd rs1 imm)) refl)
counted places place statements.Fence = given (Some 1) (fence) refl
counted places place statements.Ecall = given (Some 1) (one Ecall) refl
counted places place statements.Ebreak = given (Some 1) (one Ebreak) refl
counted places place (statements.LoadNumber rd n) = given (Some (word_load_count (word_modulo n))) (load_number rd n) (load_counted rd (word_modulo n))
counted places place (statements.LoadAddress rd target) = bound (Some 2) (address_of places target) (λ address. Ok (both_parts rd address)) (λ address. given (Some 2) (both_parts rd address) refl)
counted places place (statements.Version n) = given (Some 0) (emissions.Nothing) refl
counted places place (statements.Harts n) = given (Some 0) (emissions.Nothing) refl
counted places place (statements.Ram n) = given (Some 0) (emissions.Nothing) refl
counted places place (statements.Heap base bytes) = given (Some 0) (emissions.Nothing) refl
counted places place (statements.Entry hart target) = given (Some 0) (emissions.Nothing) refl
counted places place (statements.Origin n) = given (Some 0) (emissions.Nothing) refl
counted places place (statements.Word target) = bound (Some 1) (address_of places target) (λ address. Ok (emissions.One address)) (λ address. given (Some 1) (emissions.One address) refl)
counted places place (statements.Zeros n) = zeros_counted n
counted places place statements.Text = given (Some 0) (emissions.Nothing) refl
counted places place statements.Data = given (Some 0) (emissions.Nothing) refl
counted places place (statements.Label n) = given (Some 0) (emissions.Nothing) refl
counted places place (statements.Edge source destination) = given (Some 0) (emissions.Nothing) refl
counted places place (statements.Compartment owner into write) = given (Some 0) (emissions.Nothing) refl
