-- What an instruction computes of words, and what it stores, is a word.
use Rattle.std.proofs.Common.{◌≡◌, ℕ, zero, suc, ◌+◌, ◌-◌, ◌*◌, ◌/◌, ◌%◌, ◌^◌, ◌<◌, ◌≤◌, ◌==◌, nat_lt, Bool, true, false, not, Option, Some, None, IfSome, cond, eqb, if◌then◌else◌, sym, subst, arith, lit<}
use Rattle.std.specs.Prelude.{ℤ, pos, negsuc, neg_ℤ, ◌*ℤ◌, int_div, int_rem, unsigned_abs, bit_and, bit_or, bit_xor}
use Rattle.std.specs.Int.{w32}
use Rattle.std.proofs.Math.Nat.{div-le_self, mod-le, mod-lt, mul-le-mul}
use Rattle.std.proofs.lemmas.Bool.{cond_both}
use Rattle.std.proofs.lemmas.Int.{ints, of_z-to_z, unsigned_abs-mul}
use Rattle.std.proofs.lemmas.Nat.{and_le_l, or_lt, pow_pos, xor_lt}
use Rattle.std.proofs.lemmas.Option.{none-some, same_Some}
use Rattle.pump_words.proofs.PartLemmas.{merged}
use Rattle.pump_words.specs.Words.{byte_at, half_at, shifted_down, sign_extended, signed, unsigned, with_part}
use Rattle.rv_decode.specs.Decoding.{instr_of_word, jump_to_register_of, branch_of, load_of, store_of, shift_up_of, shift_down_of, with_immediate_of, product_or_quotient_of, with_registers_of, fence_of, system_of}
use Rattle.rv_decode.specs.Fields.{bits_of, f3_of, f7_of, immediate_of, opcode_of, upper_immediate_of}
use Rattle.rv_decode.specs.declared.instructions.Instr.{Instr}
use Rattle.rv_decode.specs.declared.instructions.Instr.TheVariants.{Lui, Auipc, Jal, Jalr, Beq, Bne, Blt, Bge, Bltu, Bgeu, Lb, Lh, Lw, Lbu, Lhu, Sb, Sh, Sw, Addi, Slti, Sltiu, Xori, Ori, Andi, Slli, Srli, Srai, Add, Sub, Sll, Slt, Sltu, Xor, Srl, Sra, Or, And, Mul, Mulh, Mulhsu, Mulhu, Div, Divu, Rem, Remu, Fence, Ecall, Ebreak}
use Rattle.rv_products.specs.Products.{high_product, high_product_mixed, high_product_unsigned, high_word, low_product}
use Rattle.rv_products.specs.Quotients.{overflows, quotient, quotient_unsigned, remainder, remainder_unsigned}
use Rattle.rv_step.specs.Accesses.{loaded_from, stored_in}
use Rattle.rv_step.specs.Effects.{branches, computes, effect_of, flag, is_less_signed, jumps, loads, minus, passes, plus, shifted_down_signed, shifted_up, stores}
use Rattle.rv_step.specs.declared.accesses.Width.{Width}
use Rattle.rv_step.specs.declared.accesses.Width.TheVariants.{Byte, Full, Half}
use Rattle.turn_steps.specs.Values.{GivesWords, IsWord}

pub either_word : (test : Bool) (x y : ℕ) → IsWord x → IsWord y → IsWord (if test then x else y)
either_word true x y first second = first
either_word false x y first second = second

-- ---- parts of words

extended_word : (count n : ℕ) → 2 ^ count ≤ 2 ^ 32 → IsWord (sign_extended count n)
extended_word count n within =
    let low : n % 2 ^ count < 2 ^ count = mod-lt n (pow_pos count) in
    either_word (nat_lt (n % 2 ^ count) (2 ^ (count - 1))) (n % 2 ^ count) (2 ^ 32 - 2 ^ count + n % 2 ^ count)
    (omega (arith, low, within)) (omega (arith, low, within))

byte_word : (w k : ℕ) → IsWord (byte_at w k)
byte_word w k = let low : w / 2 ^ (8 * (k % 4)) % 2 ^ 8 < 2 ^ 8 = mod-lt (w / 2 ^ (8 * (k % 4))) (lit< tt) in omega (arith, low)

half_word : (w k : ℕ) → IsWord (half_at w k)
half_word w k = let low : w / 2 ^ (16 * (k % 2)) % 2 ^ 16 < 2 ^ 16 = mod-lt (w / 2 ^ (16 * (k % 2))) (lit< tt) in omega (arith, low)

part_word : (w place count n : ℕ) → place + count ≤ 32 → IsWord w → IsWord (with_part w place count n)
part_word w place count n within is =
    let rest : ℕ = 2 ^ 32 - 1 - (2 ^ count - 1) * 2 ^ place % 2 ^ 32 in
    let part : ℕ = bit_and n (2 ^ count - 1) * 2 ^ place in
    let kept : bit_and w rest < 2 ^ 32 = omega (arith, and_le_l w rest, is) in
    subst IsWord (merged w place count n is within) (or_lt 32 (bit_and w rest) (part % 2 ^ 32) kept (mod-lt part (lit< tt)))

pub loaded_word : (word addr : ℕ) (width : Width) (is_signed : Bool) → IsWord word → IsWord (loaded_from word addr width is_signed)
loaded_word word addr Byte is_signed is =
    either_word is_signed (sign_extended 8 (byte_at word (addr % 4))) (byte_at word (addr % 4))
    (extended_word 8 (byte_at word (addr % 4)) (omega arith)) (byte_word word (addr % 4))
loaded_word word addr Half is_signed is =
    either_word is_signed (sign_extended 16 (half_at word (addr % 4 / 2))) (half_at word (addr % 4 / 2))
    (extended_word 16 (half_at word (addr % 4 / 2)) (omega arith)) (half_word word (addr % 4 / 2))
loaded_word word addr Full is_signed is = is

pub stored_word : (word addr : ℕ) (width : Width) (value : ℕ) → IsWord word → IsWord value → IsWord (stored_in word addr width value)
stored_word word addr Byte value is value_is = part_word word (8 * (addr % 4 % 4)) 8 value (omega arith) is
stored_word word addr Half value is value_is = part_word word (16 * (addr % 4 / 2 % 2)) 16 value (omega arith) is
stored_word word addr Full value is value_is = value_is

-- ---- immediates

-- one that is a result itself, or goes into one bit by bit, is a word
abbrev pub HasWordImmediate : Instr → Type 0
HasWordImmediate (Lui rd imm) = IsWord imm
HasWordImmediate (Xori rd rs1 imm) = IsWord imm
HasWordImmediate (Ori rd rs1 imm) = IsWord imm
HasWordImmediate _ = Unit {0}

upper_word : (w : ℕ) → IsWord (upper_immediate_of w)
upper_word w = let low : w / 2 ^ 12 % 2 ^ 20 < 2 ^ 20 = mod-lt (w / 2 ^ 12) (lit< tt) in omega (arith, low)

immediate_word : (w : ℕ) → IsWord (immediate_of w)
immediate_word w = extended_word 12 (bits_of w 20 12) (omega arith)

abbrev Fits : Option Instr → Type 0
Fits found = IfSome found HasWordImmediate

tested : (a b : ℕ) (x y : Option Instr) → Fits x → Fits y → Fits (cond (eqb a b) x y)
tested a b x y taken passed = cond_both (eqb a b) x y Fits (λ e. taken) (λ e. passed)

jump_to_register_fits : (w : ℕ) → Fits (jump_to_register_of w)
jump_to_register_fits w = tested (f3_of w) 0 _ _ tt tt

branch_fits : (w : ℕ) → Fits (branch_of w)
branch_fits w =
    tested (f3_of w) 0 _ _ tt
    (tested (f3_of w) 1 _ _ tt
    (tested (f3_of w) 4 _ _ tt
    (tested (f3_of w) 5 _ _ tt
    (tested (f3_of w) 6 _ _ tt
    (tested (f3_of w) 7 _ _ tt tt)))))

load_fits : (w : ℕ) → Fits (load_of w)
load_fits w =
    tested (f3_of w) 0 _ _ tt
    (tested (f3_of w) 1 _ _ tt
    (tested (f3_of w) 2 _ _ tt
    (tested (f3_of w) 4 _ _ tt
    (tested (f3_of w) 5 _ _ tt tt))))

store_fits : (w : ℕ) → Fits (store_of w)
store_fits w =
    tested (f3_of w) 0 _ _ tt
    (tested (f3_of w) 1 _ _ tt
    (tested (f3_of w) 2 _ _ tt tt))

shift_up_fits : (w : ℕ) → Fits (shift_up_of w)
shift_up_fits w = tested (f7_of w) 0x00 _ _ tt tt

shift_down_fits : (w : ℕ) → Fits (shift_down_of w)
shift_down_fits w =
    tested (f7_of w) 0x00 _ _ tt
    (tested (f7_of w) 0x20 _ _ tt tt)

with_immediate_fits : (w : ℕ) → Fits (with_immediate_of w)
with_immediate_fits w =
    tested (f3_of w) 0 _ _ tt
    (tested (f3_of w) 1 _ _ (shift_up_fits w)
    (tested (f3_of w) 2 _ _ tt
    (tested (f3_of w) 3 _ _ tt
    (tested (f3_of w) 4 _ _ (immediate_word w)
    (tested (f3_of w) 5 _ _ (shift_down_fits w)
    (tested (f3_of w) 6 _ _ (immediate_word w)
    (tested (f3_of w) 7 _ _ tt tt)))))))

product_or_quotient_fits : (w : ℕ) → Fits (product_or_quotient_of w)
product_or_quotient_fits w =
    tested (f3_of w) 0 _ _ tt
    (tested (f3_of w) 1 _ _ tt
    (tested (f3_of w) 2 _ _ tt
    (tested (f3_of w) 3 _ _ tt
    (tested (f3_of w) 4 _ _ tt
    (tested (f3_of w) 5 _ _ tt
    (tested (f3_of w) 6 _ _ tt
    (tested (f3_of w) 7 _ _ tt tt)))))))

with_registers_fits : (w : ℕ) → Fits (with_registers_of w)
with_registers_fits w =
    tested (f7_of w) 0x00 _ _
    (tested (f3_of w) 0 _ _ tt
    (tested (f3_of w) 1 _ _ tt
    (tested (f3_of w) 2 _ _ tt
    (tested (f3_of w) 3 _ _ tt
    (tested (f3_of w) 4 _ _ tt
    (tested (f3_of w) 5 _ _ tt
    (tested (f3_of w) 6 _ _ tt
    (tested (f3_of w) 7 _ _ tt tt))))))))
    (tested (f7_of w) 0x01 _ _ (product_or_quotient_fits w)
    (tested (f7_of w) 0x20 _ _
    (tested (f3_of w) 0 _ _ tt
    (tested (f3_of w) 5 _ _ tt tt))
    tt))

fence_fits : (w : ℕ) → Fits (fence_of w)
fence_fits w = tested (f3_of w) 0 _ _ tt tt

system_fits : (w : ℕ) → Fits (system_of w)
system_fits w =
    tested w 0x00000073 _ _ tt
    (tested w 0x00100073 _ _ tt tt)

pub decoded_fits : (w : ℕ) → IfSome (instr_of_word w) HasWordImmediate
unfolding instr_of_word
decoded_fits w =
    tested (opcode_of w) 0x37 _ _ (upper_word w)
    (tested (opcode_of w) 0x17 _ _ tt
    (tested (opcode_of w) 0x6F _ _ tt
    (tested (opcode_of w) 0x67 _ _ (jump_to_register_fits w)
    (tested (opcode_of w) 0x63 _ _ (branch_fits w)
    (tested (opcode_of w) 0x03 _ _ (load_fits w)
    (tested (opcode_of w) 0x23 _ _ (store_fits w)
    (tested (opcode_of w) 0x13 _ _ (with_immediate_fits w)
    (tested (opcode_of w) 0x33 _ _ (with_registers_fits w)
    (tested (opcode_of w) 0x0F _ _ (fence_fits w)
    (tested (opcode_of w) 0x73 _ _ (system_fits w) tt))))))))))

-- ---- effects

-- the kinds of effect

valueless : (P : Type 0) (x : ℕ) → None ≡ Some x → P
valueless P x e = absurd (none-some x e)

passes_word : (pc : ℕ) → GivesWords (passes pc)
passes_word pc = record { value = λ x e. valueless (IsWord x) x e; stored = tt }

computes_word : (pc value : ℕ) → IsWord value → GivesWords (computes pc value)
computes_word pc value is = record { value = λ x e. subst IsWord (same_Some value x e) is; stored = tt }

jumps_word : (pc target : ℕ) → GivesWords (jumps pc target)
jumps_word pc target = record { value = λ x e. subst IsWord (same_Some (plus pc 4) x e) (mod-lt (pc + 4) (lit< tt)); stored = tt }

branches_word : (pc offset : ℕ) (taken : Bool) → GivesWords (branches pc offset taken)
branches_word pc offset taken = record { value = λ x e. valueless (IsWord x) x e; stored = tt }

loads_word : (pc addr : ℕ) (width : Width) (is_signed : Bool) → GivesWords (loads pc addr width is_signed)
loads_word pc addr width is_signed = record { value = λ x e. valueless (IsWord x) x e; stored = tt }

stores_word : (pc addr : ℕ) (width : Width) (value : ℕ) → IsWord value → GivesWords (stores pc addr width value)
stores_word pc addr width value is = record { value = λ x e. valueless (IsWord x) x e; stored = is }

-- the kinds of value

sum_word : (a b : ℕ) → IsWord (plus a b)
sum_word a b = mod-lt (a + b) (lit< tt)

flag_word : (test : Bool) → IsWord (flag test)
flag_word test = either_word test 1 0 (lit< tt) (lit< tt)

up_word : (a n : ℕ) → IsWord (shifted_up a n)
up_word a n = mod-lt (a * 2 ^ n) (lit< tt)

down_word : (a n : ℕ) → IsWord a → IsWord (a / 2 ^ n)
down_word a n is = omega (arith, div-le_self a (2 ^ n), is)

signed_down : (z : ℤ) (n : ℕ) → IsWord (unsigned z) → IsWord (unsigned (shifted_down z n))
signed_down (pos m) n is = down_word m n is
signed_down (negsuc m) n is = omega arith

signed_down_word : (a n : ℕ) → IsWord a → IsWord (shifted_down_signed a n)
signed_down_word a n is = signed_down (signed a) n (subst IsWord (sym (of_z-to_z w32 a is)) is)

and_word : (a b : ℕ) → IsWord a → IsWord (bit_and a b)
and_word a b is = omega (arith, and_le_l a b, is)

-- the word that is read as minus n
negated_word : (n : ℕ) → IsWord (unsigned (neg_ℤ (pos n)))
negated_word zero = lit< tt
negated_word (suc n) = omega arith

signed_abs : (a : ℕ) → IsWord a → unsigned_abs (signed a) ≤ 2 ^ 31
signed_abs a is = omega (arith, ints)

high_word_is : (z : ℤ) → unsigned_abs z < 2 ^ 64 → IsWord (high_word z)
high_word_is (pos n) small = omega (arith, small)
high_word_is (negsuc n) small = omega arith

low_product_word : (a b : ℕ) → IsWord (low_product a b)
low_product_word a b = mod-lt (a * b) (lit< tt)

high_product_word : (a b : ℕ) → IsWord a → IsWord b → IsWord (high_product a b)
high_product_word a b first second =
    high_word_is (signed a *ℤ signed b)
    (omega (arith, unsigned_abs-mul (signed a) (signed b), mul-le-mul (signed_abs a first) (signed_abs b second)))

high_product_mixed_word : (a b : ℕ) → IsWord a → IsWord b → IsWord (high_product_mixed a b)
high_product_mixed_word a b first second =
    let below : b ≤ 2 ^ 32 = omega (arith, second) in
    high_word_is (signed a *ℤ pos b) (omega (arith, unsigned_abs-mul (signed a) (pos b), mul-le-mul (signed_abs a first) below))

high_product_unsigned_word : (a b : ℕ) → IsWord a → IsWord b → IsWord (high_product_unsigned a b)
high_product_unsigned_word a b first second =
    let above : a ≤ 2 ^ 32 - 1 = omega (arith, first) in
    let below : b ≤ 2 ^ 32 - 1 = omega (arith, second) in
    high_word_is (pos a *ℤ pos b) (omega (arith, unsigned_abs-mul (pos a) (pos b), mul-le-mul above below))

divided_word : (x y : ℤ) → unsigned_abs x ≤ 2 ^ 31 → IsWord (unsigned (int_div x y))
divided_word (pos a) (pos b) small = omega (arith, small, div-le_self a b)
divided_word (pos a) (negsuc b) small = negated_word (a / suc b)
divided_word (negsuc a) (pos b) small = negated_word (suc a / b)
divided_word (negsuc a) (negsuc b) small = omega (arith, small, div-le_self (suc a) (suc b))

left_word : (x y : ℤ) → unsigned_abs x ≤ 2 ^ 31 → IsWord (unsigned (int_rem x y))
left_word (pos a) y small = omega (arith, small, mod-le a (unsigned_abs y))
left_word (negsuc a) y small = negated_word (suc a % unsigned_abs y)

quotient_word : (a b : ℕ) → IsWord a → IsWord (quotient a b)
quotient_word a b first =
    either_word (b == 0) (2 ^ 32 - 1) (if overflows a b then 2 ^ 31 else unsigned (int_div (signed a) (signed b))) (lit< tt)
    (either_word (overflows a b) (2 ^ 31) (unsigned (int_div (signed a) (signed b))) (lit< tt)
    (divided_word (signed a) (signed b) (signed_abs a first)))

remainder_word : (a b : ℕ) → IsWord a → IsWord (remainder a b)
remainder_word a b first =
    either_word (b == 0) a (if overflows a b then 0 else unsigned (int_rem (signed a) (signed b))) first
    (either_word (overflows a b) 0 (unsigned (int_rem (signed a) (signed b))) (lit< tt)
    (left_word (signed a) (signed b) (signed_abs a first)))

quotient_unsigned_word : (a b : ℕ) → IsWord a → IsWord (quotient_unsigned a b)
quotient_unsigned_word a b first = either_word (b == 0) (2 ^ 32 - 1) (a / b) (lit< tt) (omega (arith, first, div-le_self a b))

remainder_unsigned_word : (a b : ℕ) → IsWord a → IsWord (remainder_unsigned a b)
remainder_unsigned_word a b first = either_word (b == 0) a (a % b) first (omega (arith, first, mod-le a b))

pub effect_words : (i : Instr) (pc a b : ℕ) → HasWordImmediate i → IsWord a → IsWord b → GivesWords (effect_of i pc a b)
effect_words (Lui rd imm) pc a b fits first second = computes_word pc imm fits
effect_words (Auipc rd imm) pc a b fits first second = computes_word pc (plus pc imm) (sum_word pc imm)
effect_words (Jal rd imm) pc a b fits first second = jumps_word pc (plus pc imm)
effect_words (Jalr rd rs1 imm) pc a b fits first second = jumps_word pc (plus a imm / 2 * 2)
effect_words (Beq rs1 rs2 imm) pc a b fits first second = branches_word pc imm (a == b)
effect_words (Bne rs1 rs2 imm) pc a b fits first second = branches_word pc imm (not (a == b))
effect_words (Blt rs1 rs2 imm) pc a b fits first second = branches_word pc imm (is_less_signed a b)
effect_words (Bge rs1 rs2 imm) pc a b fits first second = branches_word pc imm (not (is_less_signed a b))
effect_words (Bltu rs1 rs2 imm) pc a b fits first second = branches_word pc imm (nat_lt a b)
effect_words (Bgeu rs1 rs2 imm) pc a b fits first second = branches_word pc imm (not (nat_lt a b))
effect_words (Lb rd rs1 imm) pc a b fits first second = loads_word pc (plus a imm) Byte true
effect_words (Lh rd rs1 imm) pc a b fits first second = loads_word pc (plus a imm) Half true
effect_words (Lw rd rs1 imm) pc a b fits first second = loads_word pc (plus a imm) Full false
effect_words (Lbu rd rs1 imm) pc a b fits first second = loads_word pc (plus a imm) Byte false
effect_words (Lhu rd rs1 imm) pc a b fits first second = loads_word pc (plus a imm) Half false
effect_words (Sb rs1 rs2 imm) pc a b fits first second = stores_word pc (plus a imm) Byte b second
effect_words (Sh rs1 rs2 imm) pc a b fits first second = stores_word pc (plus a imm) Half b second
effect_words (Sw rs1 rs2 imm) pc a b fits first second = stores_word pc (plus a imm) Full b second
effect_words (Addi rd rs1 imm) pc a b fits first second = computes_word pc (plus a imm) (sum_word a imm)
effect_words (Slti rd rs1 imm) pc a b fits first second = computes_word pc (flag (is_less_signed a imm)) (flag_word (is_less_signed a imm))
effect_words (Sltiu rd rs1 imm) pc a b fits first second = computes_word pc (flag (nat_lt a imm)) (flag_word (nat_lt a imm))
effect_words (Xori rd rs1 imm) pc a b fits first second = computes_word pc (bit_xor a imm) (xor_lt 32 a imm first fits)
effect_words (Ori rd rs1 imm) pc a b fits first second = computes_word pc (bit_or a imm) (or_lt 32 a imm first fits)
effect_words (Andi rd rs1 imm) pc a b fits first second = computes_word pc (bit_and a imm) (and_word a imm first)
effect_words (Slli rd rs1 amount) pc a b fits first second = computes_word pc (shifted_up a amount) (up_word a amount)
effect_words (Srli rd rs1 amount) pc a b fits first second = computes_word pc (a / 2 ^ amount) (down_word a amount first)
effect_words (Srai rd rs1 amount) pc a b fits first second = computes_word pc (shifted_down_signed a amount) (signed_down_word a amount first)
effect_words (Add rd rs1 rs2) pc a b fits first second = computes_word pc (plus a b) (sum_word a b)
effect_words (Sub rd rs1 rs2) pc a b fits first second = computes_word pc (minus a b) (sum_word a (2 ^ 32 - b))
effect_words (Sll rd rs1 rs2) pc a b fits first second = computes_word pc (shifted_up a (b % 32)) (up_word a (b % 32))
effect_words (Slt rd rs1 rs2) pc a b fits first second = computes_word pc (flag (is_less_signed a b)) (flag_word (is_less_signed a b))
effect_words (Sltu rd rs1 rs2) pc a b fits first second = computes_word pc (flag (nat_lt a b)) (flag_word (nat_lt a b))
effect_words (Xor rd rs1 rs2) pc a b fits first second = computes_word pc (bit_xor a b) (xor_lt 32 a b first second)
effect_words (Srl rd rs1 rs2) pc a b fits first second = computes_word pc (a / 2 ^ (b % 32)) (down_word a (b % 32) first)
effect_words (Sra rd rs1 rs2) pc a b fits first second = computes_word pc (shifted_down_signed a (b % 32)) (signed_down_word a (b % 32) first)
effect_words (Or rd rs1 rs2) pc a b fits first second = computes_word pc (bit_or a b) (or_lt 32 a b first second)
effect_words (And rd rs1 rs2) pc a b fits first second = computes_word pc (bit_and a b) (and_word a b first)
effect_words (Mul rd rs1 rs2) pc a b fits first second = computes_word pc (low_product a b) (low_product_word a b)
effect_words (Mulh rd rs1 rs2) pc a b fits first second = computes_word pc (high_product a b) (high_product_word a b first second)
effect_words (Mulhsu rd rs1 rs2) pc a b fits first second = computes_word pc (high_product_mixed a b) (high_product_mixed_word a b first second)
effect_words (Mulhu rd rs1 rs2) pc a b fits first second = computes_word pc (high_product_unsigned a b) (high_product_unsigned_word a b first second)
effect_words (Div rd rs1 rs2) pc a b fits first second = computes_word pc (quotient a b) (quotient_word a b first)
effect_words (Divu rd rs1 rs2) pc a b fits first second = computes_word pc (quotient_unsigned a b) (quotient_unsigned_word a b first)
effect_words (Rem rd rs1 rs2) pc a b fits first second = computes_word pc (remainder a b) (remainder_word a b first)
effect_words (Remu rd rs1 rs2) pc a b fits first second = computes_word pc (remainder_unsigned a b) (remainder_unsigned_word a b first)
effect_words (Fence kept) pc a b fits first second = passes_word pc
effect_words Ecall pc a b fits first second = passes_word pc
effect_words Ebreak pc a b fits first second = passes_word pc
