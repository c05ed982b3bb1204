-- What a service does in the key book, what it guarantees, and that what it leaves fits.
use Rattle.std.proofs.Common.{◌≡◌, ℕ, ◌<◌, ◌==◌, nat_lt, Bool, true, false, [], ◌∷◌, ◌++◌, length, Some, Result, Ok, Err, refl, sym, ap, ◌∙◌, subst, arith, if◌then◌else◌}
use Rattle.std.specs.List.{Contains}
use Rattle.std.proofs.lemmas.Bool.Decides.{nat_tests}
use Rattle.std.proofs.lemmas.List.Elements.{Contains-push}
use Rattle.std.proofs.lemmas.Option.{none-some, same_Some}
use Rattle.monitor_calls.specs.Service.{new_word}
use Rattle.policy_parts.specs.Part.{IsOthers, Planned, value_after, others, own, word_tag}
use Rattle.policy_product.specs.Both.{rest_tag}
use Rattle.policy_trait.specs.declared.rules.Refused.{Refused}
use Rattle.policy_trait.specs.declared.rules.Why.TheVariants as why
use Rattle.policy_trait.specs.declared.services.Answer.{Answer}
use Rattle.policy_trait.specs.declared.services.Args.{Args}
use Rattle.policy_trait.specs.declared.services.Plan.{Plan}
use Rattle.policy_trait.specs.declared.services.PlanEnd.{PlanEnd}
use Rattle.policy_trait.specs.declared.services.PlanEnd.TheVariants as plan_end
use Rattle.policy_trait.specs.declared.services.Rest.{Rest}
use Rattle.policy_trait.specs.declared.services.Rest.TheVariants as rest
use Rattle.policy_trait.specs.declared.services.Words.{Words}
use Rattle.part_turns.specs.Moments.{Service}
use Rattle.shared_terms.proofs.StepLemmas.{ok_is}
use Rattle.sealing_policy.specs.Sealing.{answering, key_limit, key_plan, refused_plan, seal_plan, sealing, sealing_knows, sealing_plan, unseal_plan}
use Rattle.sealing_policy.specs.declared.tag.SealTag.{SealTag}
use Rattle.sealing_policy.specs.declared.tag.SealTag.TheVariants.{Data, Key, Sealed}
use Rattle.seal_runs.specs.KeyBook.{KeyBook, answer_value, keys_by, with_key, with_pair}
use Rattle.seal_runs.specs.SealInvariant.{Fits}
use Rattle.seal_runs.specs.SealSafe.{UsesKey}
use Rattle.seal_runs.proofs.BookLemmas.{Grows, HasKeys, has_next_key, key_grows, pair_grows, same_grows}

-- the service of a plan
abbrev pub service_by_plan : ℕ → Args SealTag → Plan SealTag → Service SealTag
service_by_plan number a p = record { number = number; arguments = a; range = p.range; zero = p.zero; answer = p.answer }

-- the book after it
abbrev pub book_by : KeyBook → Args SealTag → ℕ → Plan SealTag → KeyBook
book_by book a number p = keys_by book (Some (service_by_plan number a p))

-- ---- what a service leaves

module _ (book : KeyBook) (keys : ℕ) (a : Args SealTag) where
  -- the book grows, the keys are counted, the answer and the words fit, and the guarantee is kept
  pub record IsServedBy (number : ℕ) (p : Plan SealTag) : Type 0 where
    pub grows : Grows book (book_by book a number p)
    pub has : HasKeys (book_by book a number p) (value_after sealing keys p)
    pub answer : (y : Answer SealTag) → p.answer ≡ Some y → Fits (book_by book a number p) y.value y.tag
    pub words : (range : Words) (word : ℕ) (old new : SealTag) → p.range ≡ Some range → word_tag sealing keys p old ≡ Ok new
        → Fits book word old → Fits book (new_word p word) new
    pub makes : number ≡ 16 → answer_value p.answer ≡ Some (length book.made)
    pub unseals : number ≡ 18 → UsesKey book (service_by_plan number a p)

-- ---- parts

-- an answer of that value and tag fits where these do
answer_fits : (book : KeyBook) (x y : Answer SealTag) → Fits book x.value x.tag → Some x ≡ Some y → Fits book y.value y.tag
answer_fits book x y fits e = subst (λ (z : Answer SealTag). Fits book z.value z.tag) (same_Some x y e) fits

-- a plan that is made, and a tag
abbrev given : Plan SealTag → Result (Plan SealTag) PlanEnd
given plan = Ok plan

abbrev tagged : SealTag → Result SealTag Refused
tagged tag = Ok tag

-- ---- the policy's own services

module _ (book : KeyBook) (keys : ℕ) (has : HasKeys book keys) (a : Args SealTag) (pc : SealTag)
    (first : Fits book a.a0 a.t0) (second : Fits book a.a1 a.t1)
  where
    made : keys < key_limit → IsServedBy book keys a 16 (answering 16 pc keys (Key keys) rest.Plain)
    made below = record {
      grows = key_grows book keys;
      has = has_next_key book keys has below;
      answer = λ y e.
          answer_fits (with_key book (Some keys)) (record { value = keys; tag = Key keys; rest = rest.Plain }) y (refl, Contains-push book.made keys) e;
      words = λ range word old new e. absurd (none-some range e);
      makes = λ is. ap (λ n. Some n) has.next;
      unseals = λ is. absurd (omega arith);
    }

    sealed : (key : ℕ) → a.t1 ≡ Key key → IsServedBy book keys a 17 (answering 17 pc a.a0 (Sealed key) rest.AsA0)
    sealed key lock =
        let held : (a.a1 ≡ key) × Contains book.made key = subst (Fits book a.a1) lock second in
        let paired : Contains (book.pairs ++ (a.a1, a.a0) ∷ []) (key, a.a0) =
        subst (λ k. Contains (book.pairs ++ (a.a1, a.a0) ∷ []) (k, a.a0)) held.0 (Contains-push book.pairs (a.a1, a.a0)) in
        record {
          grows = pair_grows book _ _;
          has = record { numbered = has.numbered; next = has.next; few = has.few };
          answer = λ y e. answer_fits (with_pair book a.a1 a.a0) (record { value = a.a0; tag = Sealed key; rest = rest.AsA0 }) y paired e;
          words = λ range word old new e. absurd (none-some range e);
          makes = λ is. absurd (omega arith);
          unseals = λ is. absurd (omega arith);
        }

    unsealed : (key : ℕ) → a.t0 ≡ Sealed key → a.t1 ≡ Key key → IsServedBy book keys a 18 (answering 18 pc a.a0 Data rest.AsA0)
    unsealed key value lock =
        let held : (a.a1 ≡ key) × Contains book.made key = subst (Fits book a.a1) lock second in
        record {
          grows = same_grows book;
          has = has;
          answer = λ y e. answer_fits book (record { value = a.a0; tag = Data; rest = rest.AsA0 }) y tt e;
          words = λ range word old new e. absurd (none-some range e);
          makes = λ is. absurd (omega arith);
          unseals = λ is. record { key = key; sealed = value; held = lock; value = held.0; made = held.1; paired = subst (Fits book a.a0) value first };
        }

    -- by the plan that is given

    planned_as : (number : ℕ) (plan p : Plan SealTag) → IsServedBy book keys a number plan → given plan ≡ given p → IsServedBy book keys a number p
    planned_as number plan p served e = subst (IsServedBy book keys a number) (ok_is plan p e) served

    by_key : (few : Bool) (p : Plan SealTag) → (few ≡ true → keys < key_limit)
        → (if few then Ok (answering 16 pc keys (Key keys) rest.Plain) else Err plan_end.Spent) ≡ Ok p → IsServedBy book keys a 16 p
    by_key true p below e = planned_as 16 (answering 16 pc keys (Key keys) rest.Plain) p (made (below refl)) e
    by_key false p below e = absurd cc

    by_seal : (t0 t1 : SealTag) (p : Plan SealTag) → a.t1 ≡ t1 → seal_plan a pc t0 t1 ≡ Ok p → IsServedBy book keys a 17 p
    by_seal Data (Key key) p lock e = planned_as 17 (answering 17 pc a.a0 (Sealed key) rest.AsA0) p (sealed key lock) e
    by_seal Data Data p lock e = absurd cc
    by_seal Data (Sealed key) p lock e = absurd cc
    by_seal (Key other) t1 p lock e = absurd cc
    by_seal (Sealed other) t1 p lock e = absurd cc

    by_same : (same : Bool) (key other : ℕ) (p : Plan SealTag) → (same ≡ true → key ≡ other) → a.t0 ≡ Sealed key → a.t1 ≡ Key other
        → (if same then Ok (answering 18 pc a.a0 Data rest.AsA0) else refused_plan why.WrongKey) ≡ Ok p → IsServedBy book keys a 18 p
    by_same true key other p same value lock e =
        planned_as 18 (answering 18 pc a.a0 Data rest.AsA0) p (unsealed key value (lock ∙ ap (λ n. Key n) (sym (same refl)))) e
    by_same false key other p same value lock e = absurd cc

    by_unseal : (t0 t1 : SealTag) (p : Plan SealTag) → a.t0 ≡ t0 → a.t1 ≡ t1 → unseal_plan a pc t0 t1 ≡ Ok p → IsServedBy book keys a 18 p
    by_unseal (Sealed key) (Key other) p value lock e = by_same (key == other) key other p (λ same. grind (arith, nat_tests)) value lock e
    by_unseal (Sealed key) Data p value lock e = absurd cc
    by_unseal (Sealed key) (Sealed other) p value lock e = absurd cc
    by_unseal Data t1 p value lock e = absurd cc
    by_unseal (Key other) t1 p value lock e = absurd cc

    by_test : (sixteen seventeen : Bool) (number : ℕ) (p : Plan SealTag) → (sixteen ≡ true → 16 ≡ number) → (seventeen ≡ true → 17 ≡ number)
        → (sixteen ≡ false → seventeen ≡ false → 18 ≡ number)
        → (if sixteen then key_plan keys pc else if seventeen then seal_plan a pc a.t0 a.t1 else unseal_plan a pc a.t0 a.t1) ≡ Ok p
        → IsServedBy book keys a number p
    by_test true seventeen number p one two three e =
        subst (λ n. IsServedBy book keys a n p) (one refl) (by_key (nat_lt keys key_limit) p (λ few. grind (arith, nat_tests)) e)
    by_test false true number p one two three e = subst (λ n. IsServedBy book keys a n p) (two refl) (by_seal a.t0 a.t1 p refl e)
    by_test false false number p one two three e = subst (λ n. IsServedBy book keys a n p) (three refl refl) (by_unseal a.t0 a.t1 p refl refl e)

    by_number : (number : ℕ) (p : Plan SealTag) → sealing_knows number ≡ true → sealing_plan keys number a pc ≡ Ok p → IsServedBy book keys a number p
    by_number number p known e =
        by_test (number == 16) (number == 17) number p (λ one. grind (arith, nat_tests)) (λ two. grind (arith, nat_tests))
        (λ one two. grind (arith, nat_tests, known)) e

    -- ---- another's service

    book_stays : (sixteen seventeen : Bool) (made paired : KeyBook) → sixteen ≡ false → seventeen ≡ false
        → (if sixteen then made else if seventeen then paired else book) ≡ book
    book_stays sixteen seventeen made paired one two = rw one (rw two refl)

    -- another's word is wiped or left
    word_fits : (known zero : Bool) (word : ℕ) (old new : SealTag) → known ≡ false
        → (if known then tagged old else if zero then tagged Data else tagged old) ≡ tagged new → Fits book word old
        → Fits book (if zero then 0 else word) new
    word_fits true zero word old new unknown e fits = absurd cc
    word_fits false true word old new unknown e fits = subst (Fits book 0) (ok_is Data new e) tt
    word_fits false false word old new unknown e fits = subst (Fits book word) (ok_is old new e) fits

    -- another's answer is plain, or a0
    other_fits : (others : Rest) (y : Answer SealTag) → y.rest ≡ others → IsOthers Data a y → Fits book y.value y.tag
    other_fits rest.Plain y is answer = subst (Fits book y.value) (sym (answer.tag ∙ ap (λ r. rest_tag r Data a.t0) is)) tt
    other_fits rest.AsA0 y is answer =
        subst (λ v. Fits book v y.tag) (sym (answer.value is)) (subst (Fits book a.a0) (sym (answer.tag ∙ ap (λ r. rest_tag r Data a.t0) is)) first)

    by_others : (number : ℕ) (p : Plan SealTag) → sealing_knows number ≡ false → p.service ≡ number
        → ((y : Answer SealTag) → p.answer ≡ Some y → IsOthers Data a y) → IsServedBy book keys a number p
    by_others number p unknown is answers =
        let book_is : book_by book a number p ≡ book =
        book_stays (number == 16) (number == 17) _ _ (grind (arith, nat_tests, unknown)) (grind (arith, nat_tests, unknown)) in
        let known : sealing_knows p.service ≡ false = ap sealing_knows is ∙ unknown in
        let keys_are : value_after sealing keys p ≡ keys = rw known refl in
        record {
          grows = subst (Grows book) (sym book_is) (same_grows book);
          has = subst (λ b. HasKeys b (value_after sealing keys p)) (sym book_is) (subst (HasKeys book) (sym keys_are) has);
          answer = λ y e. subst (λ b. Fits b y.value y.tag) (sym book_is) (other_fits y.rest y refl (answers y e));
          words = λ range word old new ranged e fits. word_fits (sealing_knows p.service) p.zero word old new known e fits;
          makes = λ sixteen. absurd (grind (arith, nat_tests, unknown, sixteen));
          unseals = λ eighteen. absurd (grind (arith, nat_tests, unknown, eighteen));
        }

    -- ---- either

    pub served_by : (number : ℕ) (p : Plan SealTag) → Planned sealing keys number a pc p → IsServedBy book keys a number p
    served_by number p (own known is e) = by_number number p known e
    served_by number p (others unknown is pc_is answers) = by_others number p unknown is answers
