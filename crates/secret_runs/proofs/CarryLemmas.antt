-- What an allowed instruction leaves in two worlds.
use Rattle.std.proofs.Common.{◌≡◌, ℕ, ◌%◌, ◌^◌, Bool, true, Option, Some, None, refl, sym, ap, ◌∙◌, subst}
use Rattle.std.specs.Option.{unwrap_or}
use Rattle.policy_trait.specs.declared.rules.Outs.{Outs}
use Rattle.policy_trait.specs.declared.rules.Shape.TheVariants as shape
use Rattle.rv_decode.specs.Groups.{a0, a7, group_of, reads_of, register_or_zero}
use Rattle.rv_decode.specs.declared.groups.Group.{Group}
use Rattle.rv_decode.specs.declared.groups.Group.TheVariants as group
use Rattle.rv_decode.specs.declared.instructions.Instr.{Instr}
use Rattle.rv_decode.specs.declared.places.Places.{Places}
use Rattle.rv_step.specs.Accesses.{loaded_from, stored_in}
use Rattle.rv_step.specs.declared.accesses.Access.{Access}
use Rattle.rv_step.specs.declared.accesses.Access.TheVariants as access
use Rattle.rv_step.specs.declared.effects.Effect.{Effect}
use Rattle.tag_memory.specs.Hart.{HartState, moved_to, reg_tag, reg_value}
use Rattle.tag_memory.specs.Ram.{RamState, ram_tag, ram_word, with_ram_tag, with_ram_word}
use Rattle.turn_steps.specs.Effects.{Carried, carried_by, effect_result, fed_hart, hart_after, result_value, with_store, with_tagged}
use Rattle.turn_steps.specs.Feeds.{Tape, fed_value}
use Rattle.turn_steps.specs.Looks.{access_tag, inputs_on, look_at, operand, operand_tag}
use Rattle.turn_steps.specs.Peeks.{shape_of}
use Rattle.turn_steps.specs.declared.effects.Done.TheVariants.{Exited, Stepped}
use Rattle.turn_steps.specs.declared.look.Look.{Look}
use Rattle.secret_runs.specs.Alike.{AlikeHarts, AlikeRams}
use Rattle.secret_runs.specs.Hides.{ComesOfOpen, is_from_first, is_from_second, is_from_word, tells_first}
use Rattle.secret_runs.proofs.EffectLemmas.{AlikeAccesses, AlikeEffects}
use Rattle.secret_runs.proofs.LookLemmas.{group_same, places_same, teller_reads}
use Rattle.secret_runs.proofs.ValueLemmas.{moved_alike, operand_same, ram_tags_same, stored_alike, tags_same, value_same, word_same, written_alike}

tag_is : {T : Type 0} (hart : HartState T) (register : Option ℕ) → reg_tag hart (register_or_zero register) ≡ operand_tag hart register
tag_is hart None = refl
tag_is hart (Some r) = refl

module _ {T : Type 0} (is_open : T → Bool) (a b : HartState T) (ra rb : RamState T) (harts : AlikeHarts is_open a b) (rams : AlikeRams is_open ra rb) where
  -- the operands of both are the same

  abbrev FirstIs : Instr → Type 0
  FirstIs it = operand b (reads_of it).t1 ≡ operand a (reads_of it).t1

  abbrev SecondIs : Instr → Type 0
  SecondIs it = operand b (reads_of it).t2 ≡ operand a (reads_of it).t2

  -- harts and memories alike, the same feed and the same end
  pub record AlikeCarried (c d : Carried T) : Type 0 where
    pub hart : AlikeHarts is_open c.hart d.hart
    pub ram : AlikeRams is_open c.ram d.ram
    pub feed : d.feed ≡ c.feed
    pub done : d.done ≡ c.done

  access_tags_same : (Second : Type 0) (g : Group) (e d : Access) → AlikeAccesses Second g e d → access_tag rb b.plain d ≡ access_tag ra a.plain e
  access_tags_same Second g access.None access.None alike = harts.plain
  access_tags_same Second g (access.Load addr width signed) (access.Load other wide has_sign) alike = ap (ram_tag rb) alike.0 ∙ ram_tags_same is_open ra rb rams addr
  access_tags_same Second g (access.Store addr width value) (access.Store other wide also) alike = ap (ram_tag rb) alike.0 ∙ ram_tags_same is_open ra rb rams addr
  access_tags_same Second g access.None (access.Load _ _ _) alike = absurd alike
  access_tags_same Second g access.None (access.Store _ _ _) alike = absurd alike
  access_tags_same Second g (access.Load _ _ _) access.None alike = absurd alike
  access_tags_same Second g (access.Load _ _ _) (access.Store _ _ _) alike = absurd alike
  access_tags_same Second g (access.Store _ _ _) access.None alike = absurd alike
  access_tags_same Second g (access.Store _ _ _) (access.Load _ _ _) alike = absurd alike

  -- the result's value, where the value is the same, and the word that is loaded from
  result_by : (Second : Type 0) (g : Group) (x y : Option ℕ) (e d : Access) → AlikeAccesses Second g e d → y ≡ x
      → (is_from_word g ≡ true → is_open (access_tag ra a.plain e) ≡ true) → result_value rb y d ≡ result_value ra x e
  result_by Second g x y access.None access.None alike same word = ap (λ (value : Option ℕ). unwrap_or value 0) same
  result_by Second g x y (access.Load addr width signed) (access.Load other wide has_sign) alike same word =
      (λ j. loaded_from (ram_word rb (alike.0 j)) (alike.0 j) (alike.1.0 j) (alike.1.1.0 j))
      ∙ ap (λ (w : ℕ). loaded_from w addr width signed) (word_same is_open ra rb rams addr (word alike.1.1.1))
  result_by Second g x y (access.Store addr width value) (access.Store other wide also) alike same word = ap (λ (v : Option ℕ). unwrap_or v 0) same
  result_by Second g x y access.None (access.Load _ _ _) alike same word = absurd alike
  result_by Second g x y access.None (access.Store _ _ _) alike same word = absurd alike
  result_by Second g x y (access.Load _ _ _) access.None alike same word = absurd alike
  result_by Second g x y (access.Load _ _ _) (access.Store _ _ _) alike same word = absurd alike
  result_by Second g x y (access.Store _ _ _) access.None alike same word = absurd alike
  result_by Second g x y (access.Store _ _ _) (access.Load _ _ _) alike same word = absurd alike

  -- memory after a store, whose word is the same where its tag is open
  stored_by : (Second : Type 0) (g : Group) (e d : Access) (tag : T) → AlikeAccesses Second g e d
      → (is_open tag ≡ true → is_from_second g ≡ true → Second) → (is_open tag ≡ true → is_from_word g ≡ true → is_open (access_tag ra a.plain e) ≡ true)
      → AlikeRams is_open (with_store ra e tag) (with_store rb d tag)
  stored_by Second g access.None access.None tag alike second word = rams
  stored_by Second g (access.Load addr width signed) (access.Load other wide has_sign) tag alike second word = rams
  stored_by Second g (access.Store addr width value) (access.Store other wide also) tag alike second word =
      subst (λ (place : ℕ). AlikeRams is_open (with_store ra (access.Store addr width value) tag) (with_ram_tag (with_ram_word rb place (stored_in (ram_word rb other) other wide also)) place tag)) (sym alike.0)
      (stored_alike is_open ra rb rams addr (stored_in (ram_word ra addr) addr width value) (stored_in (ram_word rb other) other wide also) tag
      (λ clear. ap (λ (place : ℕ). stored_in (ram_word rb place) other wide also) alike.0
      ∙ alike.1.1.1 (ram_word ra addr) (ram_word rb addr) (λ from. word_same is_open ra rb rams addr (word clear from)) (second clear alike.1.1.0)))
  stored_by Second g access.None (access.Load _ _ _) tag alike second word = absurd alike
  stored_by Second g access.None (access.Store _ _ _) tag alike second word = absurd alike
  stored_by Second g (access.Load _ _ _) access.None tag alike second word = absurd alike
  stored_by Second g (access.Load _ _ _) (access.Store _ _ _) tag alike second word = absurd alike
  stored_by Second g (access.Store _ _ _) access.None tag alike second word = absurd alike
  stored_by Second g (access.Store _ _ _) (access.Load _ _ _) tag alike second word = absurd alike

  module _ (word : ℕ) (it : Instr) (e d : Effect) (effects : AlikeEffects (FirstIs it) (SecondIs it) (group_of it (reg_value a a7)) e d)
      (number : shape_of it ≡ Some shape.Call → reg_value b a7 ≡ reg_value a a7) where
    abbrev first : Look
    first = look_at a word it e

    abbrev second : Look
    second = look_at b word it d

    pub groups_same : second.group ≡ first.group
    groups_same = group_same it (reg_value a a7) (reg_value b a7) number

    pub places_are : second.places ≡ first.places
    places_are = places_same it (reg_value a a7) (reg_value b a7) number

    -- the rule is asked with the same tags
    pub inputs_same : inputs_on b rb second.places d.access ≡ inputs_on a ra first.places e.access
    inputs_same =
        let ci = (λ j. ram_tag rb (harts.pc j)) ∙ ram_tags_same is_open ra rb rams a.pc in
        let t1 = ap (λ (places : Places). reg_tag b places.first) places_are ∙ tags_same is_open a b harts first.places.first in
        let t2 = ap (λ (places : Places). reg_tag b places.second) places_are ∙ tags_same is_open a b harts first.places.second in
        let tm = access_tags_same (SecondIs it) (group_of it (reg_value a a7)) e.access d.access effects.access in
        λ j. record { pc = harts.pc_tag j; ci = ci j; t1 = t1 j; t2 = t2 j; tm = tm j }

    module _ (outs : Outs T) (comes : ComesOfOpen is_open first.group (inputs_on a ra first.places e.access) outs) where
      first_from : is_open outs.result ≡ true → is_from_first first.group ≡ true → FirstIs it
      first_from clear from =
          operand_same is_open a b harts (reads_of it).t1
          (subst (λ tag. is_open tag ≡ true) (tag_is a (reads_of it).t1) (comes.first clear from))

      second_from : is_open outs.result ≡ true → is_from_second first.group ≡ true → SecondIs it
      second_from clear from =
          operand_same is_open a b harts (reads_of it).t2
          (subst (λ tag. is_open tag ≡ true) (tag_is a (reads_of it).t2) (comes.second clear from))

      result_same : is_open outs.result ≡ true → result_value rb d.value d.access ≡ result_value ra e.value e.access
      result_same clear =
          result_by (SecondIs it) first.group e.value d.value e.access d.access effects.access
          (effects.value (first_from clear) (second_from clear)) (comes.word clear)

      -- the register of the result, and the next pc
      after_alike : AlikeHarts is_open (hart_after a ra first outs) (hart_after b rb second outs)
      after_alike =
          let written = written_alike is_open a b harts first.places.result (result_value ra e.value e.access) (result_value rb d.value d.access) outs.result result_same in
          let placed = subst (λ (places : Places). AlikeHarts is_open (with_tagged a first.places.result (result_value ra e.value e.access) outs.result)
          (with_tagged b places.result (result_value rb d.value d.access) outs.result)) (sym places_are) written in
          subst (λ (next : ℕ). AlikeHarts is_open (hart_after a ra first outs) (moved_to (with_tagged b second.places.result (result_value rb d.value d.access) outs.result) next outs.pc))
          (sym effects.next) (moved_alike is_open (with_tagged a first.places.result (result_value ra e.value e.access) outs.result)
          (with_tagged b second.places.result (result_value rb d.value d.access) outs.result) placed e.next outs.pc)

      moved_on : (x y : HartState T) → AlikeHarts is_open x y → AlikeHarts is_open (moved_to x e.next outs.pc) (moved_to y d.next outs.pc)
      moved_on x y alike =
          subst (λ (next : ℕ). AlikeHarts is_open (moved_to x e.next outs.pc) (moved_to y next outs.pc)) (sym effects.next) (moved_alike is_open x y alike e.next outs.pc)

      memory_alike : AlikeRams is_open (with_store ra e.access outs.result) (with_store rb d.access outs.result)
      memory_alike = stored_by (SecondIs it) first.group e.access d.access outs.result effects.access second_from comes.word

      -- what exit and put tell
      told_same : tells_first first.group ≡ true → reg_value b a0 ≡ reg_value a a0
      told_same tells =
          value_same is_open a b harts a0
          (subst (λ register. is_open (operand_tag a register) ≡ true) (teller_reads it (reg_value a a7) tells)
          (subst (λ tag. is_open tag ≡ true) (tag_is a (reads_of it).t1) (comes.told tells)))

      module _ (feed : Tape) where
        by_group : (g : Group) → first.group ≡ g → AlikeCarried (carried_by g a ra feed first outs) (carried_by g b rb feed second outs)
        by_group group.Exit is = record { hart = harts; ram = rams; feed = refl; done = ap Exited (told_same (ap tells_first is)) }
        by_group group.Put is = record {
          hart = moved_on a b harts;
          ram = rams;
          feed = refl;
          done = ap (λ (value : ℕ). Stepped (Some (value % 2 ^ 8))) (told_same (ap tells_first is));
        }
        by_group group.Get is = record {
          hart = moved_on (fed_hart a feed outs.result) (fed_hart b feed outs.result) (written_alike is_open a b harts a0 (fed_value feed.left) (fed_value feed.left) outs.result (λ clear. refl));
          ram = rams;
          feed = refl;
          done = refl;
        }
        by_group group.Break is = record { hart = after_alike; ram = rams; feed = refl; done = refl }
        by_group _ is = record { hart = after_alike; ram = memory_alike; feed = refl; done = refl }

        pub carried_alike : AlikeCarried (effect_result a ra feed first outs) (effect_result b rb feed second outs)
        unfolding effect_result
        carried_alike =
            subst (λ (g : Group). AlikeCarried (carried_by first.group a ra feed first outs) (carried_by g b rb feed second outs)) (sym groups_same)
            (by_group first.group refl)
