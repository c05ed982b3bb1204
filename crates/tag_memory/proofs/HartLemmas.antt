-- What a hart reads after each write.
use Rattle.std.proofs.Common.{◌≡◌, ◌≢◌, ℕ, ◌%◌, ◌<◌, refl, arith, rules}
use Rattle.std.proofs.lemmas.Bool.Decides.{nat_tests}
use Rattle.std.proofs.lemmas.List.{length-set, get_or-set_same, get_or-set_other}
use Rattle.tag_memory.specs.Hart.{HartState, IsHart, IsHartOf, moved_to, reg_tag, reg_value, with_reg, with_reg_tag}
use Rattle.tag_memory.specs.Writes.{WritesPc, WritesTag, WritesValue}

-- ---- a value written

value_written : {T : Type 0} (hart : HartState T) (r value : ℕ) → IsHart hart → r < 32 → r ≢ 0 → reg_value (with_reg hart r value) r ≡ value
value_written hart r value is lt some = grind (arith, nat_tests, get_or-set_same {A = ℕ})

value_other : {T : Type 0} (hart : HartState T) (r value other : ℕ) → other ≢ r → reg_value (with_reg hart r value) other ≡ reg_value hart other
value_other hart r value other differs = grind (arith, nat_tests, get_or-set_other {A = ℕ})

value_tag : {T : Type 0} (hart : HartState T) (r value other : ℕ) → reg_tag (with_reg hart r value) other ≡ reg_tag hart other
value_tag hart r value other = grind (arith, nat_tests)

pub writes_value : {T : Type 0} (hart : HartState T) (r value : ℕ) → IsHart hart → r < 32 → WritesValue hart r value (with_reg hart r value)
writes_value hart r value is lt = record {
  written = value_written hart r value is lt;
  zero = refl;
  others = value_other hart r value;
  tags = value_tag hart r value;
  pc = search rules;
  pc_tag = search rules;
  plain = search rules;
}

-- ---- a tag written

tag_written : {T : Type 0} (hart : HartState T) (r : ℕ) (tag : T) → IsHart hart → r < 32 → r ≢ 0 → reg_tag (with_reg_tag hart r tag) r ≡ tag
tag_written {T} hart r tag is lt some = grind (arith, nat_tests, get_or-set_same {A = T})

tag_other : {T : Type 0} (hart : HartState T) (r : ℕ) (tag : T) (other : ℕ) → other ≢ r → reg_tag (with_reg_tag hart r tag) other ≡ reg_tag hart other
tag_other {T} hart r tag other differs = grind (arith, nat_tests, get_or-set_other {A = T})

tag_value : {T : Type 0} (hart : HartState T) (r : ℕ) (tag : T) (other : ℕ) → reg_value (with_reg_tag hart r tag) other ≡ reg_value hart other
tag_value hart r tag other = grind (arith, nat_tests)

pub writes_tag : {T : Type 0} (hart : HartState T) (r : ℕ) (tag : T) → IsHart hart → r < 32 → WritesTag hart r tag (with_reg_tag hart r tag)
writes_tag hart r tag is lt = record {
  written = tag_written hart r tag is lt;
  zero = search rules;
  others = tag_other hart r tag;
  values = tag_value hart r tag;
  pc = search rules;
  pc_tag = search rules;
  plain = search rules;
}

-- ---- the pc written

pub writes_pc : {T : Type 0} (hart : HartState T) (pc : ℕ) (tag : T) → WritesPc hart pc tag (moved_to hart pc tag)
writes_pc hart pc tag = record { written = refl; tagged = refl; values = λ r. refl; tags = λ r. refl; plain = refl }

-- ---- a hart still, with the plain tag that it had

pub value_keeps : {T : Type 0} (plain : T) (hart : HartState T) (r value : ℕ) → IsHartOf plain hart → IsHartOf plain (with_reg hart r value)
value_keeps plain hart r value is = grind (arith, nat_tests, length-set {A = ℕ})

pub tag_keeps : {T : Type 0} (plain : T) (hart : HartState T) (r : ℕ) (tag : T) → IsHartOf plain hart → IsHartOf plain (with_reg_tag hart r tag)
tag_keeps {T} plain hart r tag is = grind (arith, nat_tests, length-set {A = T})

pub pc_keeps : {T : Type 0} (plain : T) (hart : HartState T) (pc : ℕ) (tag : T) → pc % 4 ≡ 0 → IsHartOf plain hart → IsHartOf plain (moved_to hart pc tag)
pc_keeps plain hart pc tag aligned is = record { shape = record { values = is.shape.values; tags = is.shape.tags; aligned = aligned }; plain = is.plain }
