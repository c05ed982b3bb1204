-- A change of each tag goes through the core of a machine, and through what a service is asked with and writes.
use Rattle.std.proofs.Common.{◌≡◌, ℕ, List, [], ◌∷◌, map, Option, Some, None, option_map, refl, ap, sym, ◌∙◌}
use Rattle.std.proofs.Math.ListN.{get_or-map}
use Rattle.std.proofs.lemmas.List.{map-set}
use Rattle.std.proofs.lemmas.Simd.{map-map}
use Rattle.rv_decode.specs.Groups.{a0}
use Rattle.policy_trait.specs.Maps.{answer_by, args_by, ins_by, outs_by}
use Rattle.policy_trait.specs.declared.rules.Outs.{Outs}
use Rattle.policy_trait.specs.declared.services.Answer.{Answer}
use Rattle.tag_memory.specs.Hart.{HartState, fresh_hart, moved_to, with_reg, with_reg_tag}
use Rattle.tag_memory.specs.Maps.{hart_by, ram_by}
use Rattle.tag_memory.specs.Ram.{RamState, with_ram_tag, with_ram_word}
use Rattle.tag_memory.proofs.MapLemmas.{reg_tag_by, with_ram_tag_by, with_reg_by, with_reg_tag_by}
use Rattle.turn_steps.specs.Effects.{Carried, effect_result}
use Rattle.turn_steps.specs.Looks.{inputs_on}
use Rattle.turn_steps.specs.Maps.{carry_by}
use Rattle.turn_steps.specs.Feeds.{Tape}
use Rattle.turn_steps.specs.Services.{args_on, with_answer, with_words}
use Rattle.turn_steps.specs.declared.effects.Done.{Done}
use Rattle.turn_steps.specs.declared.effects.Done.TheVariants as done
use Rattle.turn_steps.specs.declared.look.Look.{Look}
use Rattle.turn_steps.specs.declared.stop.Stop.TheVariants as stop
use Rattle.turn_steps.proofs.MapLemmas.{asked_by, carried_out_by}
use Rattle.engine_trait.specs.Machine.{CoreState, hart_at, stopping, with_hart}
use Rattle.engine_trait.specs.Maps.{core_by, words_by}
use Rattle.engine_trait.specs.Turn.{carried_at, core_effected, core_ended, core_served, rule_inputs}

-- ---- two changes of each tag in a row are one

module _ {A B C : Type 0} (f : A → B) (g : B → C) where
  hart_on : (hart : HartState A) → hart_by g (hart_by f hart) ≡ hart_by (λ x. g (f x)) hart
  hart_on hart = ap (λ tags. record (hart_by (λ x. g (f x)) hart) { tags = tags }) (map-map g f hart.tags)

  ram_on : (ram : RamState A) → ram_by g (ram_by f ram) ≡ ram_by (λ x. g (f x)) ram
  ram_on ram = ap (λ tags. record (ram_by (λ x. g (f x)) ram) { tags = tags }) (map-map g f ram.tags)

  pub harts_on : (harts : List (HartState A)) → map (hart_by g) (map (hart_by f) harts) ≡ map (hart_by (λ x. g (f x))) harts
  harts_on harts = map-map (hart_by g) (hart_by f) harts ∙ (λ j. map (λ hart. hart_on hart j) harts)

  pub core_on : (core : CoreState A) → core_by g (core_by f core) ≡ core_by (λ x. g (f x)) core
  core_on core = λ j. record { harts = harts_on core.harts j; stops = core.stops; ram = ram_on core.ram j }

module _ {T U : Type 0} (f : T → U) where
  -- ---- the core

  pub hart_at_by : (core : CoreState T) (h : ℕ) → hart_at (core_by f core) h ≡ hart_by f (hart_at core h)
  hart_at_by core h = get_or-map (hart_by f) core.harts h (fresh_hart 0 core.ram.plain core.ram.plain)

  pub with_hart_by : (core : CoreState T) (h : ℕ) (hart : HartState T) (ram : RamState T)
      → with_hart (core_by f core) h (hart_by f hart) (ram_by f ram) ≡ core_by f (with_hart core h hart ram)
  with_hart_by core h hart ram =
      ap (λ (harts : List (HartState U)). record (core_by f core) { harts = harts; ram = ram_by f ram }) (sym (map-set (hart_by f) core.harts h hart))

  core_ended_by : (core : CoreState T) (h : ℕ) (carried : Carried T) (end : Done)
      → core_ended (core_by f core) h (carry_by f carried) end ≡ core_by f (core_ended core h carried end)
  core_ended_by core h carried (done.Stepped byte) = with_hart_by core h carried.hart carried.ram
  core_ended_by core h carried done.Broke = with_hart_by core h carried.hart carried.ram
  core_ended_by core h carried (done.Exited code) =
      ap (λ (c : CoreState U). stopping c h (stop.Exit code)) (with_hart_by core h carried.hart carried.ram)

  module _ (core : CoreState T) (feed : Tape) (h : ℕ) (look : Look) (outs : Outs T) where
    pub carried_at_by : carried_at (core_by f core) feed h look (outs_by f outs) ≡ carry_by f (carried_at core feed h look outs)
    unfolding carried_at
    carried_at_by =
        ap (λ hart. effect_result hart (ram_by f core.ram) feed look (outs_by f outs)) (hart_at_by core h)
        ∙ carried_out_by f (hart_at core h) core.ram feed look outs

    pub core_effected_by : core_effected (core_by f core) feed h look (outs_by f outs) ≡ core_by f (core_effected core feed h look outs)
    unfolding core_effected
    core_effected_by =
        ap (λ (c : Carried U). core_ended (core_by f core) h c c.done) carried_at_by
        ∙ core_ended_by core h (carried_at core feed h look outs) (carried_at core feed h look outs).done

  -- ---- what a rule and a service are asked with

  pub rule_inputs_by : (core : CoreState T) (h : ℕ) (look : Look) → rule_inputs (core_by f core) h look ≡ ins_by f (rule_inputs core h look)
  rule_inputs_by core h look =
      ap (λ (hart : HartState U). inputs_on hart (ram_by f core.ram) look.places look.effect.access) (hart_at_by core h)
      ∙ asked_by f (hart_at core h) core.ram look.places look.effect.access

  pub args_on_by : (hart : HartState T) (ram : RamState T) → args_on (hart_by f hart) (ram_by f ram) ≡ args_by f (args_on hart ram)
  args_on_by hart ram = λ j. record (args_by f (args_on hart ram)) {
    t0 = reg_tag_by f hart a0 j;
    t1 = reg_tag_by f hart 11 j;
    t2 = reg_tag_by f hart 12 j;
  }

  -- ---- what a service writes

  pub with_words_by : (ram : RamState T) (words : List (ℕ × ℕ × T)) → with_words (ram_by f ram) (words_by f words) ≡ ram_by f (with_words ram words)
  with_words_by ram [] = refl
  with_words_by ram (word ∷ words) =
      ap (λ (r : RamState U). with_words r (words_by f words)) (with_ram_tag_by f (with_ram_word ram word.0 word.1) word.0 word.2)
      ∙ with_words_by (with_ram_tag (with_ram_word ram word.0 word.1) word.0 word.2) words

  pub with_answer_by : (hart : HartState T) (answer : Option (Answer T))
      → with_answer (hart_by f hart) (option_map (answer_by f) answer) ≡ hart_by f (with_answer hart answer)
  with_answer_by hart None = refl
  with_answer_by hart (Some answer) =
      ap (λ (h : HartState U). with_reg_tag h a0 (f answer.tag)) (with_reg_by f hart a0 answer.value)
      ∙ with_reg_tag_by f (with_reg hart a0 answer.value) a0 answer.tag

  module _ (core : CoreState T) (h : ℕ) (words : List (ℕ × ℕ × T)) (answer : Option (Answer T)) (next : ℕ) (pc : T) where
    abbrev own_answer : Option (Answer U)
    own_answer = option_map (answer_by f) answer

    answered_by : with_answer (hart_at (core_by f core) h) own_answer ≡ hart_by f (with_answer (hart_at core h) answer)
    answered_by = ap (λ (hart : HartState U). with_answer hart own_answer) (hart_at_by core h) ∙ with_answer_by (hart_at core h) answer

    pub core_served_by : core_served (core_by f core) h (words_by f words) own_answer next (f pc) ≡ core_by f (core_served core h words answer next pc)
    unfolding core_served
    core_served_by =
        (λ j. with_hart (core_by f core) h (moved_to (answered_by j) next (f pc)) (with_words_by core.ram words j))
        ∙ with_hart_by core h (moved_to (with_answer (hart_at core h) answer) next pc) (with_words core.ram words)
