-- At the start everything is data and a word, and no key was made.
use Rattle.std.proofs.Common.{◌≡◌, ℕ, zero, suc, ◌-◌, ◌/◌, ◌==◌, Bool, true, false, List, [], All, length, get_or, refl, sym, ap, ◌∙◌, subst, arith, lit<, if◌then◌else◌}
use Rattle.std.specs.Prelude.{replicate}
use Rattle.std.specs.List.{range_with_len}
use Rattle.std.proofs.Math.ListN.{get_or-map}
use Rattle.std.proofs.lemmas.List.Elements.{All-map, All-replicate}
use Rattle.policy_trait.specs.declared.birth.Birth.{Birth}
use Rattle.tag_memory.specs.Hart.{HartState, fresh_hart, reg_tag}
use Rattle.turn_steps.specs.Values.{HartHasWords, IsWord}
use Rattle.engine_trait.specs.Machine.{HasWords, hart_at}
use Rattle.part_turns.specs.Start.{first_hart, first_machine}
use Rattle.sealing_policy.specs.Sealing.{sealing}
use Rattle.sealing_policy.specs.declared.tag.SealTag.{SealTag}
use Rattle.sealing_policy.specs.declared.tag.SealTag.TheVariants.{Data}
use Rattle.seal_runs.specs.KeyBook.{KeyBook, key_book}
use Rattle.seal_runs.specs.SealInvariant.{Fits, SealInvariant}

-- data fits any book
data_fits : (book : KeyBook) (value : ℕ) (tag : SealTag) → tag ≡ Data → Fits book value tag
data_fits book value tag is = subst (Fits book value) (sym is) tt

-- a list of one item has it everywhere, and past its end too
same_copies : {A : Type 0} (count : ℕ) (x : A) (n : ℕ) → get_or (replicate count x) n x ≡ x
same_copies zero x n = refl
same_copies (suc count) x zero = refl
same_copies (suc count) x (suc n) = same_copies count x n

-- a hart has data in every register
fresh_data : (pc r : ℕ) → reg_tag (fresh_hart pc Data Data) r ≡ Data
fresh_data pc r = by_zero (r == 0)
  where
    by_zero : (zeroed : Bool) → (if zeroed then Data else get_or (replicate 31 Data) (r - 1) Data) ≡ Data
    by_zero true = refl
    by_zero false = same_copies 31 Data (r - 1)

module _ (birth : ℕ → Birth) (words entries : List ℕ) where
  hart_data : (h r : ℕ) → reg_tag (hart_at (first_machine sealing 0 birth words entries).core h) r ≡ Data
  hart_data h r =
      ap (λ hart. reg_tag hart r) (get_or-map (first_hart sealing 0 birth words entries) entries h 0) ∙ fresh_data (get_or entries h 0) r

  pc_data : (h : ℕ) → (hart_at (first_machine sealing 0 birth words entries).core h).pc_tag ≡ Data
  pc_data h = ap (λ (hart : HartState SealTag). hart.pc_tag) (get_or-map (first_hart sealing 0 birth words entries) entries h 0)

  first_words : All IsWord words → HasWords (first_machine sealing 0 birth words entries).core
  first_words are = record {
    harts = All-map (λ (hart : HartState SealTag). HartHasWords hart) (first_hart sealing 0 birth words entries) entries
        (λ n default below. All-replicate IsWord 31 0 (lit< tt));
    ram = are;
  }

  pub first_invariant : All IsWord words → SealInvariant [] (first_machine sealing 0 birth words entries)
  unfolding key_book
  first_invariant are = record {
    registers = λ h r. data_fits (key_book {T = SealTag} []) _ _ (hart_data h r);
    words = λ address. data_fits (key_book {T = SealTag} []) _ _ (get_or-map (λ (n : ℕ). Data) (range_with_len 0 (length words)) (address / 4) 0);
    pcs = pc_data;
    values = first_words are;
    numbered = refl;
    next = refl;
    few = omega arith;
  }
