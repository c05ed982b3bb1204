use Rattle.std.proofs.Common.{arith, ◌<◌, ◌≤◌, ◌∙◌, ap, length, subst, sym, take}
use Rattle.std.proofs.lemmas.Result.{err_from_is_err_and}
use Rattle.engine_trait.specs.Accounts.{answer_tags, with_tags, written_tags}
use Rattle.monitor_calls.specs.Ends.{job_by}
use Rattle.tag_intern.specs.declared.table.InternEnd.TheVariants as intern_end
use Rattle.tag_intern.proofs.TableLemmas.{extends_on}
use Rattle.word_service.specs.Written.{StandFor, tags_of}
use Rattle.tag_intern.proofs.ComingLemmas.{passed_on, tags_over, with_tags-append}
use Rattle.word_service.proofs.WordLemmas.{first_fits, first_of, not_full, stand_on}
use Rattle.word_service.proofs.writing.intern_parts.Goals as goal

pub returns-in_err-words-clause-full : goal.returns-in_err-words-clause-full
returns-in_err-words-clause-full g c e =
    let eq = g.T.Tag.PartialEq.eq in
    let job = c.args.job.now in
    let before = g.T.TagTable.state c.args.tags.now in
    let end = err_from_is_err_and c.from_residual.result c.from_residual.ensures.1 in
    let told = passed_on c.from_residual.result end.0 c.in_err-words.field-0.0 intern_end.Full end.1 end.2 e in
    tags_over eq g.met.T.Tag.Eq.laws before.limit before.tags (tags_of job.words.items) (answer_tags job.plan.answer)
    (subst (λ items. before.limit < length (with_tags eq before.tags (tags_of items))) c.deref.ensures.value (c.in_err-words.ensures.full told))

pub returns-in_err-answer-clause-full : goal.returns-in_err-answer-clause-full
returns-in_err-answer-clause-full g c e =
    let eq = g.T.Tag.PartialEq.eq in
    let job = c.args.job.now in
    let before = g.T.TagTable.state c.args.tags.now in
    let now = g.T.TagTable.state c.intern_words.new.tags in
    let end = err_from_is_err_and c.from_residual-in_err-answer.result c.from_residual-in_err-answer.ensures.1 in
    let told = passed_on c.from_residual-in_err-answer.result end.0 c.in_err-answer.field-0.0 intern_end.Full end.1 end.2 e in
    let seen = c.in_ok-words.ensures.seen ∙ ap (λ items. with_tags eq before.tags (tags_of items)) c.deref.ensures.value in
    subst (λ tags. before.limit < length tags) (sym (with_tags-append eq before.tags (tags_of job.words.items) (answer_tags job.plan.answer)))
    (subst (λ tags. before.limit < length (with_tags eq tags (answer_tags job.plan.answer))) seen
    (subst (λ limit. limit < length (with_tags eq now.tags (answer_tags job.plan.answer))) c.intern_words.ensures.limit (c.in_err-answer.ensures.full.0 told)))

pub returns-in_err-words-clause-memory : goal.returns-in_err-words-clause-memory
returns-in_err-words-clause-memory g c e =
    let eq = g.T.Tag.PartialEq.eq in
    let job = c.args.job.now in
    let before = g.T.TagTable.state c.args.tags.now in
    let end = err_from_is_err_and c.from_residual.result c.from_residual.ensures.1 in
    let told = passed_on c.from_residual.result end.0 c.in_err-words.field-0.0 intern_end.Memory end.1 end.2 e in
    let some = subst (λ items. 1 ≤ length items) c.deref.ensures.value (c.in_err-words.ensures.some told) in
    subst (λ tags. length (with_tags eq before.tags tags) ≤ before.limit) (sym (first_of job.words.items (answer_tags job.plan.answer) some))
    (subst (λ items. length (with_tags eq before.tags (take 1 (tags_of items))) ≤ before.limit) c.deref.ensures.value (c.in_err-words.ensures.memory told))

pub returns-in_err-answer-clause-memory : goal.returns-in_err-answer-clause-memory
returns-in_err-answer-clause-memory g c e =
    let eq = g.T.Tag.PartialEq.eq in
    let job = c.args.job.now in
    let before = g.T.TagTable.state c.args.tags.now in
    let now = g.T.TagTable.state c.intern_words.new.tags in
    let end = err_from_is_err_and c.from_residual-in_err-answer.result c.from_residual-in_err-answer.ensures.1 in
    let told = passed_on c.from_residual-in_err-answer.result end.0 c.in_err-answer.field-0.0 intern_end.Memory end.1 end.2 e in
    let seen = c.in_ok-words.ensures.seen ∙ ap (λ items. with_tags eq before.tags (tags_of items)) c.deref.ensures.value in
    let room = λ (over : now.limit < length (with_tags eq now.tags (answer_tags job.plan.answer))). not_full c.in_err-answer.field-0.0 told (c.in_err-answer.ensures.full.1 over) in
    let fits : length (with_tags eq now.tags (answer_tags job.plan.answer)) ≤ now.limit = omega (arith, room) in
    first_fits eq g.met.T.Tag.Eq.laws before.limit before.tags (written_tags (job_by job.plan job.words.items))
    (subst (λ tags. length tags ≤ before.limit) (sym (with_tags-append eq before.tags (tags_of job.words.items) (answer_tags job.plan.answer)))
    (subst (λ tags. length (with_tags eq tags (answer_tags job.plan.answer)) ≤ before.limit) seen
    (subst (λ limit. length (with_tags eq now.tags (answer_tags job.plan.answer)) ≤ limit) c.intern_words.ensures.limit fits)))

pub returns-clause-seen : goal.returns-clause-seen
returns-clause-seen g c =
    let eq = g.T.Tag.PartialEq.eq in
    let job = c.args.job.now in
    let before = (g.T.TagTable.state c.args.tags.now).tags in
    let seen = c.in_ok-words.ensures.seen ∙ ap (λ items. with_tags eq before (tags_of items)) c.deref.ensures.value in
    c.in_ok-answer.ensures.seen ∙ ap (λ seen. with_tags eq seen (answer_tags job.plan.answer)) seen
    ∙ sym (with_tags-append eq before (tags_of job.words.items) (answer_tags job.plan.answer))

pub returns-clause-extends : goal.returns-clause-extends
returns-clause-extends g c =
    extends_on (g.T.TagTable.state c.args.tags.now).tags (g.T.TagTable.state c.intern_words.new.tags).tags (g.T.TagTable.state c.intern_answer.new.tags).tags
    c.intern_words.ensures.extends c.intern_answer.ensures.extends

pub returns-clause-words : goal.returns-clause-words
returns-clause-words g c =
    let now = (g.T.TagTable.state c.intern_words.new.tags).tags in
    stand_on now (g.T.TagTable.state c.intern_answer.new.tags).tags c.intern_answer.ensures.extends c.in_ok-words.words.items c.args.job.now.words.items
    (subst (StandFor now c.in_ok-words.words.items) c.deref.ensures.value c.in_ok-words.ensures.words)
