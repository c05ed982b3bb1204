-- What is done to a core of words below a count is done to a core of such words: the result is one too.
use Rattle.std.proofs.Common.{◌≡◌, ℕ, zero, suc, ◌<◌, ◌≤◌, List, [], ◌∷◌, All, Option, Some, None, option_map, slice_index, refl, ap, sym, ◌∙◌, subst, arith}
use Rattle.policy_trait.specs.Maps.{answer_by, ins_by}
use Rattle.policy_trait.specs.declared.rules.Ins.{Ins}
use Rattle.policy_trait.specs.declared.rules.Outs.{Outs}
use Rattle.policy_trait.specs.declared.services.Answer.{Answer}
use Rattle.tag_memory.specs.Hart.{HartState, reg_tag}
use Rattle.tag_memory.specs.Ram.{ram_tag}
use Rattle.tag_memory.proofs.MapLemmas.{ram_tag_by, reg_tag_by}
use Rattle.turn_steps.specs.Feeds.{Tape}
use Rattle.turn_steps.specs.declared.look.Look.{Look}
use Rattle.turn_steps.specs.declared.stop.Stop.{Stop}
use Rattle.engine_trait.specs.Machine.{CoreState, hart_at, stopping}
use Rattle.engine_trait.specs.Maps.{core_by, words_by}
use Rattle.engine_trait.specs.Turn.{core_effected, core_served, rule_inputs}
use Rattle.engine_trait.proofs.MapLemmas.{core_effected_by, core_on, core_served_by, hart_at_by, rule_inputs_by}
use Rattle.miss_handler.specs.Asked.{AreInWords, AreOutWords}
use Rattle.word_service.specs.Written.{IsAnswerBelow, IsWordBelow}
use Rattle.pump_engine.specs.Low.{IsLowCore, Low}

-- ---- words below a count

-- the word itself
abbrev pub number : {n : ℕ} → Low n → ℕ
number word = word.word

-- the same word, below a count that is no smaller
abbrev pub raised : (n k : ℕ) → n ≤ k → Low n → Low k
raised n k more word = record { word = word.word; below = let below = word.below in omega (arith, more, below) }

-- outputs whose words are known to be below the count
abbrev low_outs : (n : ℕ) (outs : Outs ℕ) → AreOutWords n outs → Outs (Low n)
low_outs n outs are = record {
  pc = record { word = outs.pc; below = are.pc };
  result = record { word = outs.result; below = are.result };
}

below_ins : (n : ℕ) (inputs : Ins (Low n)) → AreInWords n (ins_by number inputs)
below_ins n inputs = record {
  pc = inputs.pc.below;
  ci = inputs.ci.below;
  t1 = inputs.t1.below;
  t2 = inputs.t2.below;
  tm = inputs.tm.below;
}

-- ---- what a service writes, as a list of such words and an answer with one

pub record AreLow (n : ℕ) (words : List (ℕ × ℕ × ℕ)) : Type 0 where
  pub words_low : List (ℕ × ℕ × Low n)
  pub words_are : words ≡ words_by number words_low

record IsLowAnswer (n : ℕ) (answer : Option (Answer ℕ)) : Type 0 where
  answer_low : Option (Answer (Low n))
  answer_is : answer ≡ option_map (answer_by number) answer_low

pub low_words : (n : ℕ) (words : List (ℕ × ℕ × ℕ)) → All (IsWordBelow n) words → AreLow n words
low_words n [] all = record { words_low = []; words_are = refl }
low_words n (word ∷ words) all =
    let rest = low_words n words (λ k d within. all (suc k) d (omega (arith, within))) in
    record {
      words_low = (word.0, word.1, record { word = word.2; below = all zero word (omega arith) }) ∷ rest.words_low;
      words_are = ap (λ list. word ∷ list) rest.words_are;
    }

low_answer : (n : ℕ) (answer : Option (Answer ℕ)) → IsAnswerBelow n answer → IsLowAnswer n answer
low_answer n None below = record { answer_low = None; answer_is = refl }
low_answer n (Some answer) below = record {
  answer_low = Some (record { value = answer.value; tag = record { word = answer.tag; below = below }; rest = answer.rest });
  answer_is = refl;
}

-- ---- a core of such words

module _ (n : ℕ) (core : CoreState ℕ) (is : IsLowCore n core) where
  -- what holds of each such core holds of this one
  by_low : (P : CoreState ℕ → Type 0) → ((low : CoreState (Low n)) → P (core_by number low)) → P core
  by_low P each = subst P (sym is.is) (each is.low)

  pub low_grown : (k : ℕ) → n ≤ k → IsLowCore k core
  low_grown k more = record { low = core_by (raised n k more) is.low; is = is.is ∙ sym (core_on (raised n k more) number is.low) }

  -- with other numbers, each below a count
  pub low_swept : (k : ℕ) (numbers : List ℕ) → ((word : ℕ) → slice_index numbers word < k) → IsLowCore k (core_by (slice_index numbers) core)
  low_swept k numbers below =
      let renumbered : Low n → Low k = λ word. record { word = slice_index numbers word.word; below = below word.word } in
      record {
        low = core_by renumbered is.low;
        is = ap (core_by (slice_index numbers)) is.is ∙ core_on number (slice_index numbers) is.low ∙ sym (core_on renumbered number is.low);
      }

  -- functions that agree on its words change it alike
  pub low_same : {T : Type 0} (f g : ℕ → T) → ((w : ℕ) → w < n → f w ≡ g w) → core_by f core ≡ core_by g core
  low_same f g same =
      ap (core_by f) is.is
      ∙ core_on number f is.low
      ∙ (λ j. core_by (λ word. same word.word word.below j) is.low)
      ∙ sym (core_on number g is.low)
      ∙ sym (ap (core_by g) is.is)

  -- ---- its tags

  pub low_reg_tag : (h r : ℕ) → reg_tag (hart_at core h) r < n
  low_reg_tag h r = by_low (λ c. reg_tag (hart_at c h) r < n) λ low.
      subst (λ hart. reg_tag hart r < n) (sym (hart_at_by number low h))
      (subst (λ tag. tag < n) (sym (reg_tag_by number (hart_at low h) r)) (reg_tag (hart_at low h) r).below)

  pub low_pc_tag : (h : ℕ) → (hart_at core h).pc_tag < n
  low_pc_tag h = by_low (λ c. (hart_at c h).pc_tag < n) λ low.
      subst (λ (hart : HartState ℕ). hart.pc_tag < n) (sym (hart_at_by number low h)) (hart_at low h).pc_tag.below

  pub low_ram_tag : (address : ℕ) → ram_tag core.ram address < n
  low_ram_tag address = by_low (λ c. ram_tag c.ram address < n) λ low.
      subst (λ tag. tag < n) (sym (ram_tag_by number low.ram address)) (ram_tag low.ram address).below

  -- what the rule is asked with
  pub low_inputs : (h : ℕ) (look : Look) → AreInWords n (rule_inputs core h look)
  low_inputs h look = by_low (λ c. AreInWords n (rule_inputs c h look)) λ low.
      subst (AreInWords n) (sym (rule_inputs_by number low h look)) (below_ins n (rule_inputs low h look))

  -- ---- what is done to it

  pub low_stopped : (h : ℕ) (why : Stop) → IsLowCore n (stopping core h why)
  low_stopped h why = record { low = stopping is.low h why; is = ap (λ (c : CoreState ℕ). stopping c h why) is.is }

  pub low_effected : (feed : Tape) (h : ℕ) (look : Look) (outs : Outs ℕ) → AreOutWords n outs → IsLowCore n (core_effected core feed h look outs)
  low_effected feed h look outs outs_are = record {
    low = core_effected is.low feed h look (low_outs n outs outs_are);
    is = ap (λ (c : CoreState ℕ). core_effected c feed h look outs) is.is ∙ core_effected_by number is.low feed h look (low_outs n outs outs_are);
  }

  pub low_served : (h : ℕ) (words : List (ℕ × ℕ × ℕ)) (answer : Option (Answer ℕ)) (next pc : ℕ) → All (IsWordBelow n) words
      → IsAnswerBelow n answer → pc < n → IsLowCore n (core_served core h words answer next pc)
  low_served h words answer next pc all below pc_below =
      let written = low_words n words all in
      let answered = low_answer n answer below in
      let low_pc : Low n = record { word = pc; below = pc_below } in
      record {
        low = core_served is.low h written.words_low answered.answer_low next low_pc;
        is = (λ j. core_served (is.is j) h (written.words_are j) (answered.answer_is j) next pc)
            ∙ core_served_by number is.low h written.words_low answered.answer_low next low_pc;
      }
