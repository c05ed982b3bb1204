-- Four policies as one, told flat: a tag has a component for each, and each question goes to them in order. The first that
-- refuses is named.
use Rattle.std.specs.Prelude.{ℕ, max, ◌||◌, List, [], ◌∷◌, Result, Ok, option_map, if◌then◌else◌}
use Rattle.rv_decode.specs.declared.groups.Group.{Group}
use Rattle.policy_trait.specs.Maps.{args_by, ins_by, ok_by, plan_by}
use Rattle.policy_trait.specs.Model.{PolicyModel}
use Rattle.shared_terms.specs.Steps.{◌>>=◌}
use Rattle.policy_trait.specs.declared.rules.Ins.{Ins}
use Rattle.policy_trait.specs.declared.rules.Outs.{Outs}
use Rattle.policy_trait.specs.declared.rules.Refused.{Refused}
use Rattle.policy_trait.specs.declared.services.Answer.{Answer}
use Rattle.policy_trait.specs.declared.services.Args.{Args}
use Rattle.policy_trait.specs.declared.services.Plan.{Plan}
use Rattle.policy_trait.specs.declared.services.PlanEnd.{PlanEnd}
use Rattle.policy_product.specs.Both.{both_ignore, joint_text, lending_of, or_else, rest_tag}
use Rattle.policy_parts.specs.Part.{value_after, value_before, word_tag}

-- one for each policy, in the order in which they are asked
pub record Four (A B C D : Type 0) : Type 0 where
  pub seal : A
  pub comp : B
  pub flow : C
  pub heap : D

-- nested pairs, flat
abbrev pub parts_of : {A B C D : Type 0} → A × (B × (C × D)) → Four A B C D
parts_of x = record { seal = x.0; comp = x.1.0; flow = x.1.1.0; heap = x.1.1.1 }

-- ---- one policy among others

module _ {T S : Type 0} (m : PolicyModel T S) where
  -- a policy lends the used arguments of a service that is not its own
  abbrev pub lent_to_others : S → ℕ → ℕ → Args T → Result (Unit {0}) PlanEnd
  lent_to_others s number uses a = if m.knows s number then Ok tt else lending_of (m.lend s) uses a

-- texts that are not empty, with bars between
abbrev pub all_joined : List (List ℕ) → List ℕ
all_joined [] = []
all_joined (text ∷ texts) = joint_text text (all_joined texts)

-- a policy's answer among the components of all: the others are plain, or those of a0
abbrev pub answer_among : {T W : Type 0} → (T → W → W) → W → W → Answer T → Answer W
answer_among put plain a0 x = record { value = x.value; tag = put x.tag (rest_tag x.rest plain a0); rest = x.rest }

-- its plan, among all components of the pc
abbrev pub plan_among : {T W : Type 0} → (T → W → W) → W → W → W → Plan T → Plan W
plan_among put pc plain a0 p =
    record { service = p.service; pc = put p.pc pc; note = p.note; range = p.range; zero = p.zero; answer = option_map (answer_among put plain a0) p.answer }

-- ---- all four

module _ {T U V W S R Q P : Type 0} (seal : PolicyModel T S) (comp : PolicyModel U R) (flow : PolicyModel V Q) (heap : PolicyModel W P) where
  abbrev pub FlatTag : Type 0
  FlatTag = Four T U V W

  abbrev pub FlatState : Type 0
  FlatState = Four S R Q P

  abbrev pub flat_outs : Outs T → Outs U → Outs V → Outs W → Outs FlatTag
  flat_outs a b c d = record {
    pc = record { seal = a.pc; comp = b.pc; flow = c.pc; heap = d.pc };
    result = record { seal = a.result; comp = b.result; flow = c.result; heap = d.result };
  }

  abbrev pub flat_rule : FlatState → Group → Ins FlatTag → Result (Outs FlatTag) Refused
  flat_rule s g x =
      seal.rule s.seal g (ins_by (λ t. t.seal) x) >>= λ a. comp.rule s.comp g (ins_by (λ t. t.comp) x) >>= λ b.
      flow.rule s.flow g (ins_by (λ t. t.flow) x) >>= λ c. heap.rule s.heap g (ins_by (λ t. t.heap) x) >>= λ d. Ok (flat_outs a b c d)

  -- the number of arguments that a service uses
  abbrev pub flat_uses : FlatState → ℕ → ℕ
  flat_uses s number =
      if seal.knows s.seal number then seal.uses s.seal number else if comp.knows s.comp number then comp.uses s.comp number else
      if flow.knows s.flow number then flow.uses s.flow number else heap.uses s.heap number

  abbrev pub flat_plain : FlatState → FlatTag
  flat_plain s = record { seal = seal.plain s.seal; comp = comp.plain s.comp; flow = flow.plain s.flow; heap = heap.plain s.heap }

  -- each policy but the owner lends, in order
  abbrev pub flat_lent : FlatState → ℕ → ℕ → Args FlatTag → Result (Unit {0}) PlanEnd
  flat_lent s number uses a =
      lent_to_others seal s.seal number uses (args_by (λ t. t.seal) a) >>= λ _. lent_to_others comp s.comp number uses (args_by (λ t. t.comp) a) >>= λ _.
      lent_to_others flow s.flow number uses (args_by (λ t. t.flow) a) >>= λ _. lent_to_others heap s.heap number uses (args_by (λ t. t.heap) a)

  abbrev pub owner_plan : FlatState → ℕ → Args FlatTag → FlatTag → Result (Plan FlatTag) PlanEnd
  owner_plan s number a pc =
      if seal.knows s.seal number then ok_by (plan_among (λ t all. record all { seal = t }) pc (flat_plain s) a.t0) (seal.plan s.seal number (args_by (λ t. t.seal) a) pc.seal) else
      if comp.knows s.comp number then ok_by (plan_among (λ t all. record all { comp = t }) pc (flat_plain s) a.t0) (comp.plan s.comp number (args_by (λ t. t.comp) a) pc.comp) else
      if flow.knows s.flow number then ok_by (plan_among (λ t all. record all { flow = t }) pc (flat_plain s) a.t0) (flow.plan s.flow number (args_by (λ t. t.flow) a) pc.flow) else
      ok_by (plan_among (λ t all. record all { heap = t }) pc (flat_plain s) a.t0) (heap.plan s.heap number (args_by (λ t. t.heap) a) pc.heap)

  abbrev pub flat : PolicyModel FlatTag FlatState
  flat = record {
    plain = flat_plain;
    rule = flat_rule;
    ignores = λ s g. both_ignore (seal.ignores s.seal g) (both_ignore (comp.ignores s.comp g) (both_ignore (flow.ignores s.flow g) (heap.ignores s.heap g)));
    peeks = λ s. seal.peeks s.seal || (comp.peeks s.comp || (flow.peeks s.flow || heap.peeks s.heap));
    peek = λ s shape x y.
        seal.peek s.seal shape x.seal y.seal >>= λ _. comp.peek s.comp shape x.comp y.comp >>= λ _.
        flow.peek s.flow shape x.flow y.flow >>= λ _. heap.peek s.heap shape x.heap y.heap;
    knows = λ s number. seal.knows s.seal number || (comp.knows s.comp number || (flow.knows s.flow number || heap.knows s.heap number));
    uses = flat_uses;
    lend = λ s tag. seal.lend s.seal tag.seal >>= λ _. comp.lend s.comp tag.comp >>= λ _. flow.lend s.flow tag.flow >>= λ _. heap.lend s.heap tag.heap;
    room = λ s. max (seal.room s.seal) (max (comp.room s.comp) (max (flow.room s.flow) (heap.room s.heap)));
    plan = λ s number a pc. flat_lent s number (flat_uses s number) a >>= λ _. owner_plan s number a pc;
    retag = λ s p old.
        word_tag seal s.seal (plan_by (λ t. t.seal) p) old.seal >>= λ a. word_tag comp s.comp (plan_by (λ t. t.comp) p) old.comp >>= λ b.
        word_tag flow s.flow (plan_by (λ t. t.flow) p) old.flow >>= λ c. word_tag heap s.heap (plan_by (λ t. t.heap) p) old.heap >>= λ d.
        Ok (record { seal = a; comp = b; flow = c; heap = d });
    wipe = λ s pc old.
        seal.wipe s.seal pc.seal old.seal >>= λ a. comp.wipe s.comp pc.comp old.comp >>= λ b.
        flow.wipe s.flow pc.flow old.flow >>= λ c. heap.wipe s.heap pc.heap old.heap >>= λ d. Ok (record { seal = a; comp = b; flow = c; heap = d });
    commit = λ s p. record {
      seal = value_after seal s.seal (plan_by (λ t. t.seal) p);
      comp = value_after comp s.comp (plan_by (λ t. t.comp) p);
      flow = value_after flow s.flow (plan_by (λ t. t.flow) p);
      heap = value_after heap s.heap (plan_by (λ t. t.heap) p);
    };
    uncommit = λ s p. record {
      seal = value_before seal s.seal (plan_by (λ t. t.seal) p);
      comp = value_before comp s.comp (plan_by (λ t. t.comp) p);
      flow = value_before flow s.flow (plan_by (λ t. t.flow) p);
      heap = value_before heap s.heap (plan_by (λ t. t.heap) p);
    };
    start_pc = λ s b. record { seal = seal.start_pc s.seal b; comp = comp.start_pc s.comp b; flow = flow.start_pc s.flow b; heap = heap.start_pc s.heap b };
    start_word = λ s b. record { seal = seal.start_word s.seal b; comp = comp.start_word s.comp b; flow = flow.start_word s.flow b; heap = heap.start_word s.heap b };
    text = λ s tag. all_joined (seal.text s.seal tag.seal ∷ comp.text s.comp tag.comp ∷ flow.text s.flow tag.flow ∷ heap.text s.heap tag.heap ∷ []);
    listed = λ s place. or_else (seal.listed s.seal place) (or_else (comp.listed s.comp place) (or_else (flow.listed s.flow place) (heap.listed s.heap place)));
  }
