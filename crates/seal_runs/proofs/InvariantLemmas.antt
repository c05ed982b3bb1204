-- The invariant of sealing by its parts: a book and a machine that fit, and what a hart with its memory that is put back changes.
use Rattle.std.proofs.Common.{◌≡◌, ℕ, ◌*◌, ◌/◌, true, List, sym, subst, arith}
use Rattle.tag_memory.specs.Hart.{HartState, IsHart, fresh_hart, reg_tag, reg_value}
use Rattle.tag_memory.specs.Ram.{RamState}
use Rattle.engine_trait.specs.Events.{Event}
use Rattle.engine_trait.specs.Machine.{CoreState, HasWords, IsMachine, Machine, hart_at, is_ready_in, with_hart}
use Rattle.part_turns.proofs.PlaceLemmas.{each_hart, nth_tag, nth_word, there}
use Rattle.sealing_policy.specs.Sealing.{sealing}
use Rattle.sealing_policy.specs.declared.tag.SealTag.{SealTag}
use Rattle.sealing_policy.specs.declared.tag.SealTag.TheVariants.{Data}
use Rattle.seal_runs.specs.KeyBook.{KeyBook, key_book}
use Rattle.seal_runs.specs.SealInvariant.{Fits, SealInvariant}
use Rattle.seal_runs.proofs.BookLemmas.{Grows, HasKeys, fits_grown}

-- every register of a hart fits
abbrev pub FitHart : KeyBook → HartState SealTag → Type 0
FitHart book hart = (r : ℕ) → Fits book (reg_value hart r) (reg_tag hart r)

-- every word of memory, by its number
abbrev pub FitRam : KeyBook → RamState SealTag → Type 0
FitRam book ram = (n : ℕ) → Fits book (nth_word ram n) (nth_tag ram n)

-- the invariant but for values, whatever the book is of
pub record Holds (book : KeyBook) (s : Machine ℕ SealTag) : Type 0 where
  pub harts : (h : ℕ) → FitHart book (hart_at s.core h)
  pub ram : FitRam book s.core.ram
  pub pcs : (h : ℕ) → (hart_at s.core h).pc_tag ≡ Data
  pub keys : HasKeys book s.policy

pub holds_from : (events : List (Event SealTag)) (s : Machine ℕ SealTag) → SealInvariant events s → Holds (key_book events) s
holds_from events s invariant = record {
  harts = invariant.registers;
  ram = λ n.
      let slot : 4 * n / 4 ≡ n = omega arith in
      subst (λ i. Fits (key_book events) (nth_word s.core.ram i) (nth_tag s.core.ram i)) slot (invariant.words (4 * n));
  pcs = invariant.pcs;
  keys = record { numbered = invariant.numbered; next = invariant.next; few = invariant.few };
}

pub invariant_from : (events : List (Event SealTag)) (book : KeyBook) (s : Machine ℕ SealTag) → key_book events ≡ book → Holds book s → HasWords s.core
    → SealInvariant events s
invariant_from events book s is holds values =
    let known : Holds (key_book events) s = subst (λ book. Holds book s) (sym is) holds in
    record {
      registers = known.harts;
      words = λ address. known.ram (address / 4);
      pcs = known.pcs;
      values = values;
      numbered = known.keys.numbered;
      next = known.keys.next;
      few = known.keys.few;
    }

-- a hart that is ready has the shape of one
pub ready_shape : (s : Machine ℕ SealTag) (h : ℕ) → IsMachine sealing s → is_ready_in s.core h ≡ true → IsHart (hart_at s.core h)
ready_shape s h sound ready = (sound.harts h (fresh_hart 0 s.core.ram.plain s.core.ram.plain) (there s.core h ready)).shape

-- one hart and memory are put back, and the book has grown
pub put_back : (old new : KeyBook) (core : CoreState SealTag) (h : ℕ) (hart : HartState SealTag) (ram : RamState SealTag) → Grows old new
    → ram.plain ≡ core.ram.plain → ((h : ℕ) → FitHart old (hart_at core h)) → FitHart new hart
    → (n : ℕ) → FitHart new (hart_at (with_hart core h hart ram) n)
put_back old new core h hart ram grows plain all here =
    each_hart (FitHart new) core h hart ram plain here
    (λ n r. fits_grown old new grows (reg_value (hart_at core n) r) (reg_tag (hart_at core n) r) (all n r))

-- and where its pc is data, every pc is
pub pcs_put_back : (core : CoreState SealTag) (h : ℕ) (hart : HartState SealTag) (ram : RamState SealTag) → ram.plain ≡ core.ram.plain
    → ((h : ℕ) → (hart_at core h).pc_tag ≡ Data) → hart.pc_tag ≡ Data → (n : ℕ) → (hart_at (with_hart core h hart ram) n).pc_tag ≡ Data
pcs_put_back core h hart ram plain all here = each_hart (λ (hart : HartState SealTag). hart.pc_tag ≡ Data) core h hart ram plain here all
