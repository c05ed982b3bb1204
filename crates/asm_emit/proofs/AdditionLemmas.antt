-- The numbers of what a line adds are in their ranges.
use Rattle.std.proofs.Common.{◌≡◌, ℕ, ◌+◌, ◌-◌, ◌^◌, ◌<◌, ◌≤◌, Bool, true, false, refl, subst, arith}
use Rattle.std.specs.Prelude.{◌&&◌, nat_le, ℤ, pos, negsuc, Option, Some, None, Result, Ok, Err, if◌then◌else◌}
use Rattle.std.proofs.lemmas.Bool.Decides.{nat_tests}
use Rattle.std.proofs.lemmas.List.Elements.{All-from_recursion}
use Rattle.image_format.specs.declared.version.Version.{Version}
use Rattle.image_format.specs.declared.version.Version.TheVariants.{One, Two}
use Rattle.image_format.specs.Conditions.{compartment_limit, is_heap_base, is_heap_bytes, is_mask, is_owner, is_place, is_u32}
use Rattle.asm_read.specs.declared.errors.AsmErrorKind.{AsmErrorKind}
use Rattle.asm_read.specs.declared.errors.AsmErrorKind.TheVariants as kinds
use Rattle.asm_read.specs.declared.statements.Statement.{Statement}
use Rattle.asm_read.specs.declared.statements.Statement.TheVariants as statements
use Rattle.asm_read.specs.declared.statements.Target.{Target}
use Rattle.shared_terms.specs.Steps.{demand}
use Rattle.asm_words.specs.Emission.{Places, address_of, count_of, emission_of, words_of}
use Rattle.asm_words.proofs.CountLemmas.{counted}
use Rattle.asm_places.specs.Counts.{count_in}
use Rattle.asm_emit.specs.declared.values.Addition.{Addition}
use Rattle.asm_emit.specs.declared.values.Addition.TheVariants as additions
use Rattle.asm_emit.specs.Kept.{IsAddition}
use Rattle.asm_emit.specs.Values.{addition_in, addition_of, compartment_at, edge_at, entry_at, heap_at, id_at, label_at, mask_within, number_within, words_at}
use Rattle.asm_emit.proofs.RegisterLemmas.{HasRegisters}
use Rattle.asm_emit.proofs.SourceLemmas.{HasRegistersIn}
use Rattle.shared_terms.proofs.StepLemmas.{demanded, ok_is}
use Rattle.asm_emit.proofs.StepLemmas.{passes}
use Rattle.asm_emit.proofs.WordLemmas.{emits_small}

-- ---- numbers

within_most : (most : ℕ) (number : ℤ) (n : ℕ) → number_within most number ≡ Ok n → n ≤ most
within_most most (pos m) n is = go (nat_le m most) refl is
  where
    go : (t : Bool) → nat_le m most ≡ t → ◌≡◌ {A = Result ℕ AsmErrorKind} (if t then Ok m else Err kinds.Range) (Ok n) → n ≤ most
    go true e found =
        let below : m ≤ most = grind (arith, nat_tests, e) in
        subst (λ (k : ℕ). k ≤ most) (ok_is m n found) below
    go false e found = absurd cc
within_most most (negsuc m) n is = absurd cc

id_small : (number : ℤ) (n : ℕ) → id_at number ≡ Ok n → is_u32 n ≡ true
id_small number n is =
    let most : n ≤ 2 ^ 32 - 1 = within_most (2 ^ 32 - 1) number n is in
    grind (arith, nat_tests, most)

-- ---- statements

-- what is added, if anything is
abbrev AddsFitting : Version → ℕ → ℕ → Option ℕ → Result Addition AsmErrorKind → Type 0
AddsFitting version harts ram count result = (addition : Addition) → result ≡ Ok addition → IsAddition version harts ram count addition

done : (version : Version) (harts ram : ℕ) (count : Option ℕ) (x : Addition) → IsAddition version harts ram count x → AddsFitting version harts ram count (Ok x)
done version harts ram count x fits addition is = subst (IsAddition version harts ram count) (ok_is x addition is) fits

heap_fits : (version : Version) (harts ram : ℕ) (count : Option ℕ) (base bytes : ℤ) → AddsFitting version harts ram count (heap_at ram base bytes)
unfolding heap_at
heap_fits version harts ram count base bytes addition is =
    let b = passes (id_at base) _ addition is in
    let n = passes (id_at bytes) _ addition b.rest in
    let fits = passes (demand (is_heap_base ram b.value && is_heap_bytes ram b.value n.value) kinds.Range) _ addition n.rest in
    done version harts ram count (additions.Heap b.value n.value) (demanded (is_heap_base ram b.value && is_heap_bytes ram b.value n.value) kinds.Range fits.value fits.first) addition fits.rest

entry_fits : (version : Version) (harts ram : ℕ) (count : Option ℕ) (places : Places) (hart : ℤ) (target : Target) → 1 ≤ harts → AddsFitting version harts ram count (entry_at harts ram places hart target)
unfolding entry_at
entry_fits version harts ram count places hart target some addition is =
    let address = passes (address_of places target) _ addition is in
    let h = passes (number_within (harts - 1) hart) _ addition address.rest in
    let fits = passes (demand (is_place ram address.value) kinds.Range) _ addition h.rest in
    let below : h.value ≤ harts - 1 = within_most (harts - 1) hart h.value h.first in
    let placed : is_place ram address.value ≡ true = demanded (is_place ram address.value) kinds.Range fits.value fits.first in
    let entered : nat_le (h.value + 1) harts ≡ true = grind (arith, nat_tests, below, some) in
    done version harts ram count (additions.Entry h.value address.value) (rw (entered, placed) refl) addition fits.rest

label_fits : (version : Version) (harts ram : ℕ) (count : Option ℕ) (id : ℤ) → AddsFitting version harts ram count (label_at id)
unfolding label_at
label_fits version harts ram count id addition is =
    let n = passes (id_at id) _ addition is in
    done version harts ram count (additions.Label n.value) (id_small id n.value n.first) addition n.rest

edge_fits : (version : Version) (harts ram : ℕ) (count : Option ℕ) (source target : ℤ) → AddsFitting version harts ram count (edge_at source target)
unfolding edge_at
edge_fits version harts ram count source target addition is =
    let s = passes (id_at source) _ addition is in
    let d = passes (id_at target) _ addition s.rest in
    done version harts ram count (additions.Edge s.value d.value) (rw (id_small source s.value s.first, id_small target d.value d.first) refl) addition d.rest

mask_fits : (version : Version) (mask : Option ℕ) (n : ℕ) → mask_within version mask ≡ Ok n → is_mask version n ≡ true
mask_fits version (Some mask) n is = go (is_mask version mask) refl is
  where
    go : (t : Bool) → is_mask version mask ≡ t → ◌≡◌ {A = Result ℕ AsmErrorKind} (if t then Ok mask else Err kinds.Range) (Ok n) → is_mask version n ≡ true
    go true e found = subst (λ (k : ℕ). is_mask version k ≡ true) (ok_is mask n found) e
    go false e found = absurd cc
mask_fits version None n is = absurd cc

owner_fits : (version : Version) (n : ℕ) → n ≤ compartment_limit version - 1 → is_owner version n ≡ true
owner_fits One n most = grind (arith, nat_tests, most)
owner_fits Two n most = grind (arith, nat_tests, most)

compartment_fits : (version : Version) (harts ram : ℕ) (count : Option ℕ) (owner : ℤ) (into write : Option ℕ) → AddsFitting version harts ram count (compartment_at version owner into write)
unfolding compartment_at
compartment_fits version harts ram count owner into write addition is =
    let o = passes (number_within (compartment_limit version - 1) owner) _ addition is in
    let i = passes (mask_within version into) _ addition o.rest in
    let w = passes (mask_within version write) _ addition i.rest in
    let owned : is_owner version o.value ≡ true = owner_fits version o.value (within_most (compartment_limit version - 1) owner o.value o.first) in
    done version harts ram count (additions.Compartment (record { owner = o.value; into = i.value; write = w.value }))
    (rw (owned, mask_fits version into i.value i.first, mask_fits version write w.value w.first) refl) addition w.rest

words_fit : (version : Version) (harts ram : ℕ) (places : Places) (place : ℕ) (statement : Statement) → HasRegisters statement → AddsFitting version harts ram (count_of statement) (words_at places place statement)
unfolding words_at
words_fit version harts ram places place statement has addition is =
    let emission = passes (emission_of places place statement) _ addition is in
    let small = emits_small places place statement has emission.value emission.first in
    done version harts ram (count_of statement) (additions.Words emission.value)
    (All-from_recursion (λ word. word < 2 ^ 32) (words_of emission.value) small, counted places place statement emission.value emission.first) addition emission.rest

of_statement : (version : Version) (harts ram : ℕ) (places : Places) (place : ℕ) (statement : Statement) → 1 ≤ harts → HasRegisters statement → AddsFitting version harts ram (count_of statement) (addition_of version harts ram places place statement)
unfolding addition_of
of_statement version harts ram places place (statements.Heap base bytes) some has = heap_fits version harts ram (count_of (statements.Heap base bytes)) base bytes
of_statement version harts ram places place (statements.Entry hart target) some has = entry_fits version harts ram (count_of (statements.Entry hart target)) places hart target some
of_statement version harts ram places place statements.Text some has = done version harts ram (count_of statements.Text) additions.Code tt
of_statement version harts ram places place statements.Data some has = done version harts ram (count_of statements.Data) additions.Data tt
of_statement version harts ram places place (statements.Label id) some has = label_fits version harts ram (count_of (statements.Label id)) id
of_statement version harts ram places place (statements.Edge source target) some has = edge_fits version harts ram (count_of (statements.Edge source target)) source target
of_statement version harts ram places place (statements.Compartment owner into write) some has = compartment_fits version harts ram (count_of (statements.Compartment owner into write)) owner into write
of_statement version harts ram places place (statements.Registers operation rd rs1 rs2) some has = words_fit version harts ram places place (statements.Registers operation rd rs1 rs2) has
of_statement version harts ram places place (statements.Immediate operation rd rs1 n) some has = words_fit version harts ram places place (statements.Immediate operation rd rs1 n) has
of_statement version harts ram places place (statements.Shift operation rd rs1 n) some has = words_fit version harts ram places place (statements.Shift operation rd rs1 n) has
of_statement version harts ram places place (statements.Upper operation rd n) some has = words_fit version harts ram places place (statements.Upper operation rd n) has
of_statement version harts ram places place (statements.Load operation rd rs1 n) some has = words_fit version harts ram places place (statements.Load operation rd rs1 n) has
of_statement version harts ram places place (statements.Store operation rs2 rs1 n) some has = words_fit version harts ram places place (statements.Store operation rs2 rs1 n) has
of_statement version harts ram places place (statements.Branch operation rs1 rs2 target) some has = words_fit version harts ram places place (statements.Branch operation rs1 rs2 target) has
of_statement version harts ram places place (statements.Jump rd target) some has = words_fit version harts ram places place (statements.Jump rd target) has
of_statement version harts ram places place (statements.JumpRegister rd rs1 n) some has = words_fit version harts ram places place (statements.JumpRegister rd rs1 n) has
of_statement version harts ram places place statements.Fence some has = words_fit version harts ram places place statements.Fence has
of_statement version harts ram places place statements.Ecall some has = words_fit version harts ram places place statements.Ecall has
of_statement version harts ram places place statements.Ebreak some has = words_fit version harts ram places place statements.Ebreak has
of_statement version harts ram places place (statements.LoadNumber rd n) some has = words_fit version harts ram places place (statements.LoadNumber rd n) has
of_statement version harts ram places place (statements.LoadAddress rd target) some has = words_fit version harts ram places place (statements.LoadAddress rd target) has
of_statement version harts ram places place (statements.Version n) some has = words_fit version harts ram places place (statements.Version n) has
of_statement version harts ram places place (statements.Harts n) some has = words_fit version harts ram places place (statements.Harts n) has
of_statement version harts ram places place (statements.Ram n) some has = words_fit version harts ram places place (statements.Ram n) has
of_statement version harts ram places place (statements.Origin n) some has = words_fit version harts ram places place (statements.Origin n) has
of_statement version harts ram places place (statements.Word target) some has = words_fit version harts ram places place (statements.Word target) has
of_statement version harts ram places place (statements.Zeros n) some has = words_fit version harts ram places place (statements.Zeros n) has

pub addition_fits : (version : Version) (harts ram : ℕ) (places : Places) (place : ℕ) (statement : Option Statement) (addition : Addition) → 1 ≤ harts → HasRegistersIn statement
    → addition_in version harts ram places place statement ≡ Ok addition → IsAddition version harts ram (count_in statement) addition
addition_fits version harts ram places place None addition some has is = done version harts ram (Some 0) additions.Nothing tt addition is
addition_fits version harts ram places place (Some statement) addition some has is = of_statement version harts ram places place statement some has addition is
