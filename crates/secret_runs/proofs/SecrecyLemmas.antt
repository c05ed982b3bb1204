-- Secrecy hides what its tags call secret.
use Rattle.std.proofs.Common.{◌≡◌, Bool, true, false, ◌&&◌, Result, Ok, Err, refl, sym, ap, subst, if◌then◌else◌}
use Rattle.rv_decode.specs.declared.groups.Group.{Group}
use Rattle.rv_decode.specs.declared.groups.Group.TheVariants as group
use Rattle.policy_trait.specs.declared.rules.Ins.{Ins}
use Rattle.policy_trait.specs.declared.rules.Outs.{Outs}
use Rattle.policy_trait.specs.declared.rules.Refused.{Refused}
use Rattle.policy_trait.specs.declared.rules.Why.TheVariants as why
use Rattle.policy_trait.specs.declared.services.Plan.{Plan}
use Rattle.secrecy_policy.specs.Secrecy.{SecretState, is_fit, is_open, meets_row, merged_tag, refused_for, row_of, rule_by, secrecy, secret_lend, secret_peek, secret_plan, tag_from}
use Rattle.secrecy_policy.specs.declared.tag.SecretTag.{SecretTag}
use Rattle.secrecy_policy.specs.declared.tag.SecretTag.TheVariants.{Open, Secret}
use Rattle.secret_runs.specs.Pairs.{AnyTwo}
use Rattle.secret_runs.specs.Hides.{AlikePlans, ComesOfOpen, Hides}

first_peeked : (x y : SecretTag) → secret_peek x y ≡ Ok tt → is_open x ≡ true
first_peeked Open y e = refl
first_peeked Secret y e = absurd cc

second_peeked : (x y : SecretTag) → secret_peek x y ≡ Ok tt → is_open y ≡ true
second_peeked Open Open e = refl
second_peeked Open Secret e = absurd cc
second_peeked Secret y e = absurd cc

lent_open : (tag : SecretTag) → secret_lend tag ≡ Ok tt → is_open tag ≡ true
lent_open Open e = refl
lent_open Secret e = absurd cc

-- both parts of an open tag are open
merged_first : (x y : SecretTag) → is_open (merged_tag x y) ≡ true → is_open x ≡ true
merged_first Open y e = refl
merged_first Secret y e = absurd cc

merged_second : (x y : SecretTag) → is_open (merged_tag x y) ≡ true → is_open y ≡ true
merged_second Open y e = e
merged_second Secret y e = absurd cc

-- what a row that is met gives
record MetBy (g : Group) (x : Ins SecretTag) (outs : Outs SecretTag) : Type 0 where
  met : meets_row (row_of g) x ≡ true
  result : outs.result ≡ tag_from (row_of g).result x

met_by : (g : Group) (x : Ins SecretTag) (outs : Outs SecretTag) → rule_by (row_of g) g x ≡ Ok outs → MetBy g x outs
met_by g x outs e = by (meets_row (row_of g) x) refl e
  where
    by : (met : Bool) → meets_row (row_of g) x ≡ met → (if met then Ok (record { pc = Open; result = tag_from (row_of g).result x }) else Err (refused_for (why.Rule g))) ≡ Ok outs → MetBy g x outs
    by true is e = record { met = is; result = let same : record { pc = Open; result = tag_from (row_of g).result x } ≡ outs = cc in sym (ap (λ (o : Outs SecretTag). o.result) same) }
    by false is e = absurd cc

first_of : (x y z : Bool) → (x && y && z) ≡ true → y ≡ true
first_of true true z met = refl
first_of true false z met = absurd cc
first_of false y z met = absurd cc

first_fit : (g : Group) (x : Ins SecretTag) → meets_row (row_of g) x ≡ true → is_fit (row_of g).first x.t1 ≡ true
first_fit g x met = first_of (is_open x.ci) (is_fit (row_of g).first x.t1) (is_fit (row_of g).second x.t2) met

-- an open result of a row that is met comes of what is open
comes_by : (g : Group) (x : Ins SecretTag) (outs : Outs SecretTag) → MetBy g x outs → ComesOfOpen is_open g x outs
comes_by group.Const x outs met = record {
  first = λ clear from. absurd cc;
  second = λ clear from. absurd cc;
  word = λ clear from. absurd cc;
  told = λ tells. absurd cc;
}
comes_by group.Here x outs met = record {
  first = λ clear from. absurd cc;
  second = λ clear from. absurd cc;
  word = λ clear from. absurd cc;
  told = λ tells. absurd cc;
}
comes_by group.Jal x outs met = record {
  first = λ clear from. absurd cc;
  second = λ clear from. absurd cc;
  word = λ clear from. absurd cc;
  told = λ tells. absurd cc;
}
comes_by group.Jalr x outs met = record {
  first = λ clear from. absurd cc;
  second = λ clear from. absurd cc;
  word = λ clear from. absurd cc;
  told = λ tells. absurd cc;
}
comes_by group.Branch x outs met = record {
  first = λ clear from. absurd cc;
  second = λ clear from. absurd cc;
  word = λ clear from. absurd cc;
  told = λ tells. absurd cc;
}
comes_by group.LoadWord x outs met = record {
  first = λ clear from. absurd cc;
  second = λ clear from. absurd cc;
  word = λ clear from. subst (λ tag. is_open tag ≡ true) met.result clear;
  told = λ tells. absurd cc;
}
comes_by group.LoadPart x outs met = record {
  first = λ clear from. absurd cc;
  second = λ clear from. absurd cc;
  word = λ clear from. subst (λ tag. is_open tag ≡ true) met.result clear;
  told = λ tells. absurd cc;
}
comes_by group.StoreWord x outs met = record {
  first = λ clear from. absurd cc;
  second = λ clear from. subst (λ tag. is_open tag ≡ true) met.result clear;
  word = λ clear from. absurd cc;
  told = λ tells. absurd cc;
}
comes_by group.StorePart x outs met = record {
  first = λ clear from. absurd cc;
  second = λ clear from. merged_first x.t2 x.tm (subst (λ tag. is_open tag ≡ true) met.result clear);
  word = λ clear from. merged_second x.t2 x.tm (subst (λ tag. is_open tag ≡ true) met.result clear);
  told = λ tells. absurd cc;
}
comes_by group.Move x outs met = record {
  first = λ clear from. subst (λ tag. is_open tag ≡ true) met.result clear;
  second = λ clear from. absurd cc;
  word = λ clear from. absurd cc;
  told = λ tells. absurd cc;
}
comes_by group.AddImm x outs met = record {
  first = λ clear from. subst (λ tag. is_open tag ≡ true) met.result clear;
  second = λ clear from. absurd cc;
  word = λ clear from. absurd cc;
  told = λ tells. absurd cc;
}
comes_by group.AluImm x outs met = record {
  first = λ clear from. subst (λ tag. is_open tag ≡ true) met.result clear;
  second = λ clear from. absurd cc;
  word = λ clear from. absurd cc;
  told = λ tells. absurd cc;
}
comes_by group.Add x outs met = record {
  first = λ clear from. merged_first x.t1 x.t2 (subst (λ tag. is_open tag ≡ true) met.result clear);
  second = λ clear from. merged_second x.t1 x.t2 (subst (λ tag. is_open tag ≡ true) met.result clear);
  word = λ clear from. absurd cc;
  told = λ tells. absurd cc;
}
comes_by group.Sub x outs met = record {
  first = λ clear from. merged_first x.t1 x.t2 (subst (λ tag. is_open tag ≡ true) met.result clear);
  second = λ clear from. merged_second x.t1 x.t2 (subst (λ tag. is_open tag ≡ true) met.result clear);
  word = λ clear from. absurd cc;
  told = λ tells. absurd cc;
}
comes_by group.Alu x outs met = record {
  first = λ clear from. merged_first x.t1 x.t2 (subst (λ tag. is_open tag ≡ true) met.result clear);
  second = λ clear from. merged_second x.t1 x.t2 (subst (λ tag. is_open tag ≡ true) met.result clear);
  word = λ clear from. absurd cc;
  told = λ tells. absurd cc;
}
comes_by group.Fence x outs met = record {
  first = λ clear from. absurd cc;
  second = λ clear from. absurd cc;
  word = λ clear from. absurd cc;
  told = λ tells. absurd cc;
}
comes_by group.Exit x outs met = record {
  first = λ clear from. absurd cc;
  second = λ clear from. absurd cc;
  word = λ clear from. absurd cc;
  told = λ tells. first_fit group.Exit x met.met;
}
comes_by group.Put x outs met = record {
  first = λ clear from. absurd cc;
  second = λ clear from. absurd cc;
  word = λ clear from. absurd cc;
  told = λ tells. first_fit group.Put x met.met;
}
comes_by group.Get x outs met = record {
  first = λ clear from. absurd cc;
  second = λ clear from. absurd cc;
  word = λ clear from. absurd cc;
  told = λ tells. absurd cc;
}
comes_by group.Break x outs met = record {
  first = λ clear from. absurd cc;
  second = λ clear from. absurd cc;
  word = λ clear from. absurd cc;
  told = λ tells. absurd cc;
}
comes_by group.Call x outs met = record {
  first = λ clear from. absurd cc;
  second = λ clear from. absurd cc;
  word = λ clear from. absurd cc;
  told = λ tells. absurd cc;
}

-- a word whose tag a service left is as open as it was
kept_open : (old new : SecretTag) → ◌≡◌ {A = Result SecretTag Refused} (Ok old) (Ok new) → is_open new ≡ true → is_open old ≡ true
kept_open old new e clear = let same : old ≡ new = cc in subst (λ tag. is_open tag ≡ true) (sym same) clear

-- plans that differ in their note and their answer's secret value alone
abbrev pub AlikeSecrecyPlans : SecretState → Plan SecretTag → Plan SecretTag → Type 0
AlikeSecrecyPlans s p q = AlikePlans is_open p q

pub secrecy_hides : Hides is_open secrecy AnyTwo AlikeSecrecyPlans
secrecy_hides = record {
  first_open = λ s t alike shape x y seen. first_peeked x y seen;
  second_open = λ s t alike shape x y seen. second_peeked x y seen;
  results = λ s t alike g x outs ruled. comes_by g x outs (met_by g x outs ruled);
  stays_hidden = λ s t alike p old new retagged zero clear. kept_open old new retagged clear;
  plain = λ s t alike. refl;
  rule = λ s t alike g x. refl;
  ignores = λ s t alike g. refl;
  peek = λ s t alike shape x y. refl;
  knows = λ s t alike k. refl;
  uses = λ s t alike k. refl;
  lend = λ s t alike tag. refl;
  lends_open = λ s t alike tag lent. lent_open tag lent;
  wipe = λ s t alike pc old. refl;
  serves = λ s k a pc p planned. let same : secret_plan s k pc ≡ p = cc in sym (ap (λ (plan : Plan SecretTag). plan.service) same);
  alike_plans = λ s p q plans. plans;
  plan = λ s t alike k a b pc args. record { same = refl; answer = (refl, (refl, λ clear. absurd cc)) };
  retag = λ s t alike p q old plans. refl;
  commit = λ s t alike p q plans. tt;
}
