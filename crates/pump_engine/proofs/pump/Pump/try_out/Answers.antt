use Rattle.std.proofs.Common.{◌≡◌, ◌<◌, ◌%◌, ◌≤◌, ◌∙◌, Err, Ok, false, All, length, ap, sym, subst, arith, rules}
use Rattle.rv_decode.specs.declared.groups.Group.{Group}
use Rattle.policy_trait.specs.Model.{IsGiven}
use Rattle.tag_memory.specs.Ram.{IsPlace, ram_bytes}
use Rattle.monitor_calls.specs.Ends.{job_by}
use Rattle.shared_terms.specs.Counts.{next_count}
use Rattle.undo_log.specs.Past.{pushed}
use Rattle.engine_trait.specs.History.{record_served}
use Rattle.engine_trait.specs.Accounts.{is_over, seeing, written_tags}
use Rattle.engine_trait.specs.Turn.{core_served}
use Rattle.engine_trait.specs.declared.ends.Halt.TheVariants as halt
use Rattle.miss_handler.specs.Asked.{AreOutWords}
use Rattle.tag_intern.specs.Table.{TableState}
use Rattle.tag_intern.proofs.TableLemmas.{longer}
use Rattle.open_words.specs.Open.{AreOpen}
use Rattle.open_words.proofs.OpenLemmas.{open_after, open_grown}
use Rattle.pump_engine.proofs.ServiceLemmas.{IsWritten, cut_back, err_at, left, ok_at, pump_left, serves, tries_refused, written_fits}
use Rattle.pump_engine.proofs.StayLemmas.{pump_at}
use Rattle.pump_engine.proofs.pump.Pump.try_out.Goals as goal
use Rattle.pump_engine.specs.Pump.{IsMasked, IsPump, PumpState, account_by_words, pump_of}
use Rattle.pump_engine.specs.Steps.{Serves, TriesOut, after_halt, first_in}

-- ---- there is no memory for the record: the tags that were added are cut off

pub invariant_of-self-in_default : goal.invariant_of-self-in_default
invariant_of-self-in_default g c =
    let table_is = c.cut.ensures ∙ cut_back (g.T.TagTable.state c.self.inside.tags) (g.T.TagTable.state c.intern_job.new.tags) c.len-len.result
    c.intern_job.ensures.extends c.intern_job.ensures.limit c.len-len.ensures.len in
    record {
      pump = subst (λ table. IsPump g.P.Policy.model (pump_of c.self.inside.policy c.self.inside.core table (g.C.RuleStore.state c.self.inside.store) c.self.inside.turns c.self.inside.sweeps c.self.inside.halt (g.H.WordLog.past c.self.inside.log))) (sym table_is)
          c.self.invariant.pump;
      masks_are = c.self.invariant.masks_are;
      open_are = subst (λ (table : TableState g.row.P-Tag.Denot). AreOpen g.P.Policy.model c.self.inside.policy table.tags c.self.inside.open_words) (sym table_is) c.self.invariant.open_are;
    }

pub returns-in_default-clause-tries : goal.returns-in_default-clause-tries
returns-in_default-clause-tries g c =
    let job = job_by c.args.job.now.plan c.args.job.now.words.items in
    let p : PumpState g.row.P.Denot g.row.P-Tag.Denot =
    pump_of c.self.inside.policy c.self.inside.core (g.T.TagTable.state c.self.inside.tags) (g.C.RuleStore.state c.self.inside.store) c.self.inside.turns c.self.inside.sweeps c.self.inside.halt (g.H.WordLog.past c.self.inside.log) in
    let table_is = c.cut.ensures ∙ cut_back (g.T.TagTable.state c.self.inside.tags) (g.T.TagTable.state c.intern_job.new.tags) c.len-len.result
    c.intern_job.ensures.extends c.intern_job.ensures.limit c.len-len.ensures.len in
    let back : pump_of c.self.inside.policy c.self.inside.core (g.T.TagTable.state c.cut.new.self) (g.C.RuleStore.state c.self.inside.store) c.self.inside.turns c.self.inside.sweeps c.self.inside.halt (g.H.WordLog.past c.self.inside.log) ≡ p =
    λ j. pump_of c.self.inside.policy c.self.inside.core (table_is j) (g.C.RuleStore.state c.self.inside.store) c.self.inside.turns c.self.inside.sweeps c.self.inside.halt (g.H.WordLog.past c.self.inside.log) in
    let fits = written_fits g.P.Tag.PartialEq.eq g.P.Policy.model p c.self.invariant.pump c.args.h c.args.look.now c.args.outs job (g.T.TagTable.state c.intern_job.new.tags)
    c.in-Ok.ensures.seen c.intern_job.ensures.limit c.intern_job.ensures.within in
    subst (λ end. TriesOut g.P.Tag.PartialEq.eq g.P.Policy.model c.args.self.now c.args.h c.args.look.now c.args.outs job c.give_up.new.self (Ok end)) (sym c.give_up.ensures.end) (
      c.give_up.ensures.state ∙ ap (λ q. after_halt q halt.Memory) (back ∙ c.self.view_is),
      subst (λ (q : PumpState g.row.P.Denot g.row.P-Tag.Denot). is_over (first_in g.P.Tag.PartialEq.eq g.P.Policy.model q c.args.h c.args.look.now c.args.outs job) ≡ false) c.self.view_is fits,
    )

pub returns-in_default-clause-harts : goal.returns-in_default-clause-harts
returns-in_default-clause-harts g c =
    ap (λ (q : PumpState g.row.P.Denot g.row.P-Tag.Denot). length q.core.harts) c.give_up.ensures.state ∙ ap (λ (q : PumpState g.row.P.Denot g.row.P-Tag.Denot). length q.core.harts) c.self.view_is

pub returns-in_default-clause-bytes : goal.returns-in_default-clause-bytes
returns-in_default-clause-bytes g c =
    ap (λ (q : PumpState g.row.P.Denot g.row.P-Tag.Denot). ram_bytes q.core.ram) c.give_up.ensures.state ∙ ap (λ (q : PumpState g.row.P.Denot g.row.P-Tag.Denot). ram_bytes q.core.ram) c.self.view_is

pub service_record-requires-clause-hart : goal.service_record-requires-clause-hart
service_record-requires-clause-hart g c =
    subst (λ (q : PumpState g.row.P.Denot g.row.P-Tag.Denot). c.args.h < length q.core.harts) (sym c.self.view_is) c.requires.hart

pub service_record-requires-clause-places : goal.service_record-requires-clause-places
service_record-requires-clause-places g c =
    subst (All (λ word. IsPlace (ram_bytes c.self.inside.core.ram) word.0)) (sym c.deref.ensures.value)
    (c.in-Ok.ensures.places (ram_bytes c.self.inside.core.ram)
    (subst (λ (q : PumpState g.row.P.Denot g.row.P-Tag.Denot). All (λ word. IsPlace (ram_bytes q.core.ram) word.0) c.args.job.now.words.items) (sym c.self.view_is) c.requires.places))

pub cut-requires-then-is_err : goal.cut-requires-then-is_err
cut-requires-then-is_err g c =
    subst (λ count. count ≤ length (g.T.TagTable.state c.intern_job.new.tags).tags) (sym c.len-len.ensures.len)
    (longer (g.T.TagTable.state c.self.inside.tags).tags (g.T.TagTable.state c.intern_job.new.tags).tags c.intern_job.ensures.extends)

-- ---- the policy took no note: nothing else is left either

pub invariant_of-self-then-is_err : goal.invariant_of-self-then-is_err
invariant_of-self-then-is_err g c =
    let unnoted = err_at c.commit.result (c.commit.new.self ≡ c.self.inside.policy) c.is_err.result c.is_err.ensures.value c.if-is_err.true c.commit.ensures.err in
    let table_is = c.cut-then-is_err.ensures ∙ cut_back (g.T.TagTable.state c.self.inside.tags) (g.T.TagTable.state c.intern_job.new.tags) c.len-len.result
    c.intern_job.ensures.extends c.intern_job.ensures.limit c.len-len.ensures.len in
    record {
      pump = subst (λ policy. IsPump g.P.Policy.model (pump_of policy c.self.inside.core (g.T.TagTable.state c.cut-then-is_err.new.self) (g.C.RuleStore.state c.self.inside.store) c.self.inside.turns c.self.inside.sweeps c.self.inside.halt (g.H.WordLog.past c.self.inside.log))) (sym unnoted)
          (subst (λ table. IsPump g.P.Policy.model (pump_of c.self.inside.policy c.self.inside.core table (g.C.RuleStore.state c.self.inside.store) c.self.inside.turns c.self.inside.sweeps c.self.inside.halt (g.H.WordLog.past c.self.inside.log))) (sym table_is)
          c.self.invariant.pump);
      masks_are = subst (λ policy. (group : Group) → c.self.inside.masks group ≡ g.P.Policy.model.ignores policy group) (sym unnoted) c.self.invariant.masks_are;
      open_are = subst (λ policy. AreOpen g.P.Policy.model policy (g.T.TagTable.state c.cut-then-is_err.new.self).tags c.self.inside.open_words) (sym unnoted)
          (subst (λ (table : TableState g.row.P-Tag.Denot). AreOpen g.P.Policy.model c.self.inside.policy table.tags c.self.inside.open_words) (sym table_is) c.self.invariant.open_are);
    }

pub returns-then-is_err-clause-tries : goal.returns-then-is_err-clause-tries
returns-then-is_err-clause-tries g c =
    let job = job_by c.args.job.now.plan c.args.job.now.words.items in
    let p : PumpState g.row.P.Denot g.row.P-Tag.Denot =
    pump_of c.self.inside.policy c.self.inside.core (g.T.TagTable.state c.self.inside.tags) (g.C.RuleStore.state c.self.inside.store) c.self.inside.turns c.self.inside.sweeps c.self.inside.halt (g.H.WordLog.past c.self.inside.log) in
    let unnoted = err_at c.commit.result (c.commit.new.self ≡ c.self.inside.policy) c.is_err.result c.is_err.ensures.value c.if-is_err.true c.commit.ensures.err in
    let table_is = c.cut-then-is_err.ensures ∙ cut_back (g.T.TagTable.state c.self.inside.tags) (g.T.TagTable.state c.intern_job.new.tags) c.len-len.result
    c.intern_job.ensures.extends c.intern_job.ensures.limit c.len-len.ensures.len in
    let back : pump_of c.commit.new.self c.self.inside.core (g.T.TagTable.state c.cut-then-is_err.new.self) (g.C.RuleStore.state c.self.inside.store) c.self.inside.turns c.self.inside.sweeps c.self.inside.halt (g.H.WordLog.past c.self.inside.log) ≡ p =
    λ j. pump_of (unnoted j) c.self.inside.core (table_is j) (g.C.RuleStore.state c.self.inside.store) c.self.inside.turns c.self.inside.sweeps c.self.inside.halt (g.H.WordLog.past c.self.inside.log) in
    let fits = written_fits g.P.Tag.PartialEq.eq g.P.Policy.model p c.self.invariant.pump c.args.h c.args.look.now c.args.outs job (g.T.TagTable.state c.intern_job.new.tags)
    c.in-Ok.ensures.seen c.intern_job.ensures.limit c.intern_job.ensures.within in
    subst (λ end. TriesOut g.P.Tag.PartialEq.eq g.P.Policy.model c.args.self.now c.args.h c.args.look.now c.args.outs job c.give_up-then-is_err.new.self (Ok end)) (sym c.give_up-then-is_err.ensures.end) (
      c.give_up-then-is_err.ensures.state ∙ ap (λ q. after_halt q halt.Memory) (back ∙ c.self.view_is),
      subst (λ (q : PumpState g.row.P.Denot g.row.P-Tag.Denot). is_over (first_in g.P.Tag.PartialEq.eq g.P.Policy.model q c.args.h c.args.look.now c.args.outs job) ≡ false) c.self.view_is fits,
    )

pub serve-requires-clause-places : goal.serve-requires-clause-places
serve-requires-clause-places g c =
    subst (All (λ word. IsPlace (ram_bytes c.self.inside.core.ram) word.0)) (sym c.deref-2.ensures.value)
    (c.in-Ok.ensures.places (ram_bytes c.self.inside.core.ram)
    (subst (λ (q : PumpState g.row.P.Denot g.row.P-Tag.Denot). All (λ word. IsPlace (ram_bytes q.core.ram) word.0) c.args.job.now.words.items) (sym c.self.view_is) c.requires.places))

pub invariant_of-self-2 : goal.invariant_of-self-2
invariant_of-self-2 g c =
    let p : PumpState g.row.P.Denot g.row.P-Tag.Denot =
    pump_of c.self.inside.policy c.self.inside.core (g.T.TagTable.state c.self.inside.tags) (g.C.RuleStore.state c.self.inside.store) c.self.inside.turns c.self.inside.sweeps c.self.inside.halt (g.H.WordLog.past c.self.inside.log) in
    let given = subst (λ (q : PumpState g.row.P.Denot g.row.P-Tag.Denot). IsGiven g.P.Policy.model q.policy c.args.job.now.plan) (sym c.self.view_is) c.requires.given in
    let outputs = subst (λ (q : PumpState g.row.P.Denot g.row.P-Tag.Denot). AreOutWords (length q.table.tags) c.args.outs) (sym c.self.view_is) c.requires.out_words in
    let written : IsWritten g.P.Tag.PartialEq.eq g.P.Policy.model g.P.Policy.holds g.met.P.Policy.lawful p c.self.invariant.pump c.args.h c.args.look.now c.args.outs (job_by c.args.job.now.plan c.args.job.now.words.items) (g.T.TagTable.state c.intern_job.new.tags) c.in-Ok.written.words.items c.in-Ok.written.answer = record {
      seen = c.in-Ok.ensures.seen;
      limit = c.intern_job.ensures.limit;
      within = c.intern_job.ensures.within;
      extends = c.intern_job.ensures.extends;
      words_are = c.in-Ok.ensures.words;
      answer_is = c.in-Ok.ensures.answer;
      below = c.in-Ok.ensures.below;
      answer_below = c.in-Ok.ensures.answer_below;
    } in
    let noted =
    ok_at c.commit.result (c.commit.new.self ≡ g.P.Policy.model.commit c.self.inside.policy c.args.job.now.plan) c.is_err.result c.is_err.ensures.value c.if-is_err.false c.commit.ensures.ok in
    let core_is : c.serve.new.self ≡ core_served c.self.inside.core c.args.h c.in-Ok.written.words.items c.in-Ok.written.answer c.args.look.now.effect.next c.args.outs.pc =
    c.serve.ensures.core ∙ ap (λ words. core_served c.self.inside.core c.args.h words c.in-Ok.written.answer c.next.result c.args.outs.pc) c.deref-2.ensures.value
    ∙ ap (λ next. core_served c.self.inside.core c.args.h c.in-Ok.written.words.items c.in-Ok.written.answer next c.args.outs.pc) c.next.ensures in
    let past_is : (g.H.WordLog.past c.push_if.new.log) ≡ pushed (g.H.WordLog.past c.self.inside.log) (record_served c.self.inside.core c.args.h c.in-Ok.written.words.items c.args.job.now.plan) =
    c.push_if.ensures ∙ c.in-Ok-service_record.ensures
    ∙ ap (λ words. pushed (g.H.WordLog.past c.self.inside.log) (record_served c.self.inside.core c.args.h words c.args.job.now.plan)) c.deref.ensures.value in
    let there = subst (λ (q : PumpState g.row.P.Denot g.row.P-Tag.Denot). c.args.h < length q.core.harts) (sym c.self.view_is) c.requires.hart in
    let more = longer p.table.tags (g.T.TagTable.state c.intern_job.new.tags).tags c.intern_job.ensures.extends in
    let low = outputs.pc in
    let below : c.args.outs.pc < length (g.T.TagTable.state c.intern_job.new.tags).tags = omega (arith, more, low) in
    record {
      pump = subst (λ policy. IsPump g.P.Policy.model (pump_of policy c.serve.new.self (g.T.TagTable.state c.intern_job.new.tags) (g.C.RuleStore.state c.self.inside.store) c.count_up.new.count c.self.inside.sweeps c.self.inside.halt (g.H.WordLog.past c.push_if.new.log))) (sym noted)
          (pump_at g.P.Policy.model (left g.P.Tag.PartialEq.eq g.P.Policy.model g.P.Policy.holds g.met.P.Policy.lawful p c.self.invariant.pump c.args.h c.args.look.now c.args.outs (job_by c.args.job.now.plan c.args.job.now.words.items) (g.T.TagTable.state c.intern_job.new.tags) c.in-Ok.written.words.items c.in-Ok.written.answer) (pump_left g.P.Tag.PartialEq.eq g.P.Policy.model g.P.Policy.holds g.met.P.Policy.lawful p c.self.invariant.pump c.args.h c.args.look.now c.args.outs (job_by c.args.job.now.plan c.args.job.now.words.items) (g.T.TagTable.state c.intern_job.new.tags) c.in-Ok.written.words.items c.in-Ok.written.answer written given outputs there c.requires.aligned below)
          c.serve.new.self core_is (g.H.WordLog.past c.push_if.new.log) past_is c.count_up.new.count c.self.inside.sweeps c.self.inside.halt);
      masks_are = subst (λ policy. (group : Group) → c.self.inside.masks group ≡ g.P.Policy.model.ignores policy group) (sym noted)
          (λ group. c.self.invariant.masks_are group ∙ sym ((g.met.P.Policy.lawful.keeps c.self.inside.policy c.args.job.now.plan given).ignores group));
      open_are = subst (λ policy. AreOpen g.P.Policy.model policy (g.T.TagTable.state c.intern_job.new.tags).tags c.self.inside.open_words) (sym noted)
          (open_after g.P.Policy.model c.self.inside.policy (g.P.Policy.model.commit c.self.inside.policy c.args.job.now.plan) (g.T.TagTable.state c.intern_job.new.tags).tags c.self.inside.open_words
          (g.met.P.Policy.lawful.keeps c.self.inside.policy c.args.job.now.plan given)
          (open_grown g.P.Policy.model c.self.inside.policy (g.T.TagTable.state c.self.inside.tags).tags (g.T.TagTable.state c.intern_job.new.tags).tags c.self.inside.open_words c.intern_job.ensures.extends c.self.invariant.open_are));
    }

pub returns-clause-tries : goal.returns-clause-tries
returns-clause-tries g c =
    let p : PumpState g.row.P.Denot g.row.P-Tag.Denot =
    pump_of c.self.inside.policy c.self.inside.core (g.T.TagTable.state c.self.inside.tags) (g.C.RuleStore.state c.self.inside.store) c.self.inside.turns c.self.inside.sweeps c.self.inside.halt (g.H.WordLog.past c.self.inside.log) in
    let given = subst (λ (q : PumpState g.row.P.Denot g.row.P-Tag.Denot). IsGiven g.P.Policy.model q.policy c.args.job.now.plan) (sym c.self.view_is) c.requires.given in
    let outputs = subst (λ (q : PumpState g.row.P.Denot g.row.P-Tag.Denot). AreOutWords (length q.table.tags) c.args.outs) (sym c.self.view_is) c.requires.out_words in
    let written : IsWritten g.P.Tag.PartialEq.eq g.P.Policy.model g.P.Policy.holds g.met.P.Policy.lawful p c.self.invariant.pump c.args.h c.args.look.now c.args.outs (job_by c.args.job.now.plan c.args.job.now.words.items) (g.T.TagTable.state c.intern_job.new.tags) c.in-Ok.written.words.items c.in-Ok.written.answer = record {
      seen = c.in-Ok.ensures.seen;
      limit = c.intern_job.ensures.limit;
      within = c.intern_job.ensures.within;
      extends = c.intern_job.ensures.extends;
      words_are = c.in-Ok.ensures.words;
      answer_is = c.in-Ok.ensures.answer;
      below = c.in-Ok.ensures.below;
      answer_below = c.in-Ok.ensures.answer_below;
    } in
    let noted =
    ok_at c.commit.result (c.commit.new.self ≡ g.P.Policy.model.commit c.self.inside.policy c.args.job.now.plan) c.is_err.result c.is_err.ensures.value c.if-is_err.false c.commit.ensures.ok in
    let core_is : c.serve.new.self ≡ core_served c.self.inside.core c.args.h c.in-Ok.written.words.items c.in-Ok.written.answer c.args.look.now.effect.next c.args.outs.pc =
    c.serve.ensures.core ∙ ap (λ words. core_served c.self.inside.core c.args.h words c.in-Ok.written.answer c.next.result c.args.outs.pc) c.deref-2.ensures.value
    ∙ ap (λ next. core_served c.self.inside.core c.args.h c.in-Ok.written.words.items c.in-Ok.written.answer next c.args.outs.pc) c.next.ensures in
    let past_is : (g.H.WordLog.past c.push_if.new.log) ≡ pushed (g.H.WordLog.past c.self.inside.log) (record_served c.self.inside.core c.args.h c.in-Ok.written.words.items c.args.job.now.plan) =
    c.push_if.ensures ∙ c.in-Ok-service_record.ensures
    ∙ ap (λ words. pushed (g.H.WordLog.past c.self.inside.log) (record_served c.self.inside.core c.args.h words c.args.job.now.plan)) c.deref.ensures.value in
    let turns_are : c.count_up.new.count ≡ next_count c.self.inside.turns = search rules in
    let left_is : pump_of c.commit.new.self c.serve.new.self (g.T.TagTable.state c.intern_job.new.tags) (g.C.RuleStore.state c.self.inside.store) c.count_up.new.count c.self.inside.sweeps c.self.inside.halt (g.H.WordLog.past c.push_if.new.log)
    ≡ left g.P.Tag.PartialEq.eq g.P.Policy.model g.P.Policy.holds g.met.P.Policy.lawful p c.self.invariant.pump c.args.h c.args.look.now c.args.outs (job_by c.args.job.now.plan c.args.job.now.words.items) (g.T.TagTable.state c.intern_job.new.tags) c.in-Ok.written.words.items c.in-Ok.written.answer =
    λ j. pump_of (noted j) (core_is j) (g.T.TagTable.state c.intern_job.new.tags) (g.C.RuleStore.state c.self.inside.store) (turns_are j) c.self.inside.sweeps c.self.inside.halt (past_is j) in
    let tags = written_tags (job_by c.args.job.now.plan c.args.job.now.words.items) in
    subst (λ (q : PumpState g.row.P.Denot g.row.P-Tag.Denot). Serves g.P.Tag.PartialEq.eq g.P.Policy.model q c.args.h c.args.look.now c.args.outs (job_by c.args.job.now.plan c.args.job.now.words.items)
    (seeing g.P.Tag.PartialEq.eq tags (account_by_words g.P.Policy.model q))
    (pump_of c.commit.new.self c.serve.new.self (g.T.TagTable.state c.intern_job.new.tags) (g.C.RuleStore.state c.self.inside.store) c.count_up.new.count c.self.inside.sweeps c.self.inside.halt (g.H.WordLog.past c.push_if.new.log))) c.self.view_is
    (subst (Serves g.P.Tag.PartialEq.eq g.P.Policy.model p c.args.h c.args.look.now c.args.outs (job_by c.args.job.now.plan c.args.job.now.words.items)
    (seeing g.P.Tag.PartialEq.eq tags (account_by_words g.P.Policy.model p))) (sym left_is) (serves g.P.Tag.PartialEq.eq g.P.Policy.model g.P.Policy.holds g.met.P.Policy.lawful p c.self.invariant.pump c.args.h c.args.look.now c.args.outs (job_by c.args.job.now.plan c.args.job.now.words.items) (g.T.TagTable.state c.intern_job.new.tags) c.in-Ok.written.words.items c.in-Ok.written.answer written given outputs))

-- ---- tags that got no words

pub invariant_of-self : goal.invariant_of-self
invariant_of-self g c =
    subst (λ (table : TableState g.row.P-Tag.Denot). IsMasked g.P.Policy.model c.self.inside.masks c.self.inside.open_words (pump_of c.self.inside.policy c.self.inside.core table (g.C.RuleStore.state c.self.inside.store) c.self.inside.turns c.self.inside.sweeps c.self.inside.halt (g.H.WordLog.past c.self.inside.log))) (sym c.in-Err.ensures.refused) c.self.invariant

pub returns-in-Err-clause-tries : goal.returns-in-Err-clause-tries
returns-in-Err-clause-tries g c =
    let p : PumpState g.row.P.Denot g.row.P-Tag.Denot =
    pump_of c.self.inside.policy c.self.inside.core (g.T.TagTable.state c.self.inside.tags) (g.C.RuleStore.state c.self.inside.store) c.self.inside.turns c.self.inside.sweeps c.self.inside.halt (g.H.WordLog.past c.self.inside.log) in
    let job = job_by c.args.job.now.plan c.args.job.now.words.items in
    let unchanged = ap (λ (table : TableState g.row.P-Tag.Denot). pump_of c.self.inside.policy c.self.inside.core table (g.C.RuleStore.state c.self.inside.store) c.self.inside.turns c.self.inside.sweeps c.self.inside.halt (g.H.WordLog.past c.self.inside.log)) c.in-Err.ensures.refused in
    subst (λ (q : PumpState g.row.P.Denot g.row.P-Tag.Denot). TriesOut g.P.Tag.PartialEq.eq g.P.Policy.model q c.args.h c.args.look.now c.args.outs job
    (pump_of c.self.inside.policy c.self.inside.core (g.T.TagTable.state c.intern_job.new.tags) (g.C.RuleStore.state c.self.inside.store) c.self.inside.turns c.self.inside.sweeps c.self.inside.halt (g.H.WordLog.past c.self.inside.log)) (Err c.in-Err.end)) c.self.view_is
    (tries_refused g.P.Tag.PartialEq.eq g.P.Policy.model p c.self.invariant.pump c.args.h c.args.look.now c.args.outs job _ c.in-Err.end unchanged
    (λ full. c.intern_job.ensures.full (c.in-Err.is ∙ ap (λ end. Err end) full)) (λ out. c.intern_job.ensures.memory (c.in-Err.is ∙ ap (λ end. Err end) out)))

-- ---- and where nothing was taken note of, or all was done

pub returns-then-is_err-clause-harts : goal.returns-then-is_err-clause-harts
returns-then-is_err-clause-harts g c =
    ap (λ (q : PumpState g.row.P.Denot g.row.P-Tag.Denot). length q.core.harts) c.give_up-then-is_err.ensures.state ∙ ap (λ (q : PumpState g.row.P.Denot g.row.P-Tag.Denot). length q.core.harts) c.self.view_is

pub returns-then-is_err-clause-bytes : goal.returns-then-is_err-clause-bytes
returns-then-is_err-clause-bytes g c =
    ap (λ (q : PumpState g.row.P.Denot g.row.P-Tag.Denot). ram_bytes q.core.ram) c.give_up-then-is_err.ensures.state ∙ ap (λ (q : PumpState g.row.P.Denot g.row.P-Tag.Denot). ram_bytes q.core.ram) c.self.view_is

pub returns-clause-harts : goal.returns-clause-harts
returns-clause-harts g c = c.serve.ensures.harts ∙ ap (λ (q : PumpState g.row.P.Denot g.row.P-Tag.Denot). length q.core.harts) c.self.view_is

pub returns-clause-bytes : goal.returns-clause-bytes
returns-clause-bytes g c = c.serve.ensures.bytes ∙ ap (λ (q : PumpState g.row.P.Denot g.row.P-Tag.Denot). ram_bytes q.core.ram) c.self.view_is

pub commit-requires : goal.commit-requires
commit-requires g c =
    subst (λ (q : PumpState g.row.P.Denot g.row.P-Tag.Denot). IsGiven g.P.Policy.model q.policy c.args.job.now.plan) (sym c.self.view_is) c.requires.given

pub cut-requires : goal.cut-requires
cut-requires g c =
    subst (λ count. count ≤ length (g.T.TagTable.state c.intern_job.new.tags).tags) (sym c.len-len.ensures.len)
    (longer (g.T.TagTable.state c.self.inside.tags).tags (g.T.TagTable.state c.intern_job.new.tags).tags c.intern_job.ensures.extends)

pub serve-requires-clause-hart : goal.serve-requires-clause-hart
serve-requires-clause-hart g c =
    subst (λ (q : PumpState g.row.P.Denot g.row.P-Tag.Denot). c.args.h < length q.core.harts) (sym c.self.view_is) c.requires.hart

pub serve-requires-clause-aligned : goal.serve-requires-clause-aligned
serve-requires-clause-aligned g c = subst (λ next. next % 4 ≡ 0) (sym c.next.ensures) c.requires.aligned
