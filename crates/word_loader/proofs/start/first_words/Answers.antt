use Rattle.std.proofs.Common.{◌<◌, ◌∙◌, [], ap, length, subst}
use Rattle.std.proofs.lemmas.Result.{err_from_is_err_and}
use Rattle.engine_trait.specs.Accounts.{with_tag, with_tags}
use Rattle.tag_intern.specs.declared.table.InternEnd.TheVariants as intern_end
use Rattle.tag_intern.proofs.TableLemmas.{extends_on}
use Rattle.tag_loader.specs.Start.{start_harts, start_tags}
use Rattle.word_loader.specs.CachedStart.{pc_tags}
use Rattle.tag_intern.proofs.ComingLemmas.{passed_on}
use Rattle.tag_intern.proofs.TableLemmas.{grown_word}
use Rattle.word_loader.proofs.NamedLemmas.{first_plain, first_seen, harts_grow, pcs_over, plain_over, tags_out}
use Rattle.word_loader.proofs.start.first_words.Goals as goal

pub returns-in_err-intern-clause-full : goal.returns-in_err-intern-clause-full
returns-in_err-intern-clause-full g c e =
    let eq = g.P.Tag.PartialEq.eq in
    let model = g.P.Policy.model in
    let policy = c.args.policy.now in
    let image = c.args.image.now in
    let before = g.T.TagTable.state c.args.table.now in
    let end = err_from_is_err_and c.from_residual.result c.from_residual.ensures.1 in
    let told = passed_on c.from_residual.result end.0 c.in_err-intern.field-0.0 intern_end.Full end.1 end.2 e in
    plain_over eq (model.plain policy) (pc_tags model policy image) (start_tags model policy image) before.tags c.requires g.met.P.Tag.Eq.laws before.limit
    (subst (λ tag. before.limit < length (with_tag eq before.tags tag)) c.plain.ensures.value (c.in_err-intern.ensures.over.0 told))

pub returns-in_err-harts-clause-full : goal.returns-in_err-harts-clause-full
returns-in_err-harts-clause-full g c e =
    let eq = g.P.Tag.PartialEq.eq in
    let model = g.P.Policy.model in
    let policy = c.args.policy.now in
    let image = c.args.image.now in
    let before = g.T.TagTable.state c.args.table.now in
    let now = g.T.TagTable.state c.intern.new.self in
    let came = (λ j. (c.in_ok-intern.ensures.grown j).tags) ∙ ap (with_tag eq before.tags) c.plain.ensures.value in
    let end = err_from_is_err_and c.from_residual-in_err-harts.result c.from_residual-in_err-harts.ensures.1 in
    let told = passed_on c.from_residual-in_err-harts.result end.0 c.in_err-harts.field-0.0 intern_end.Full end.1 end.2 e in
    pcs_over eq (model.plain policy) (pc_tags model policy image) (start_tags model policy image) before.tags c.requires g.met.P.Tag.Eq.laws before.limit
    now.tags came
    (subst (λ limit. limit < length (with_tags eq now.tags (pc_tags model policy image))) (λ j. (c.in_ok-intern.ensures.grown j).limit) (c.in_err-harts.ensures.full told))

pub returns-in_err-tags-clause-full : goal.returns-in_err-tags-clause-full
returns-in_err-tags-clause-full g c e =
    let eq = g.P.Tag.PartialEq.eq in
    let model = g.P.Policy.model in
    let policy = c.args.policy.now in
    let image = c.args.image.now in
    let before = g.T.TagTable.state c.args.table.now in
    let now = g.T.TagTable.state c.intern.new.self in
    let next = g.T.TagTable.state c.word_harts.new.table in
    let came = (λ j. (c.in_ok-intern.ensures.grown j).tags) ∙ ap (with_tag eq before.tags) c.plain.ensures.value in
    let limit = c.word_harts.ensures.limit ∙ (λ j. (c.in_ok-intern.ensures.grown j).limit) in
    let end = err_from_is_err_and c.from_residual-in_err-tags.result c.from_residual-in_err-tags.ensures.1 in
    let told = passed_on c.from_residual-in_err-tags.result end.0 c.in_err-tags.field-0.0 intern_end.Full end.1 end.2 e in
    tags_out eq (model.plain policy) (pc_tags model policy image) (start_tags model policy image) before.tags c.requires before.limit
    now.tags next.tags came c.in_ok-harts.ensures.seen
    (subst (λ limit. limit < length (with_tags eq next.tags (start_tags model policy image))) limit (c.in_err-tags.ensures.full told))

pub word_harts-requires : goal.word_harts-requires
word_harts-requires g c =
    let eq = g.P.Tag.PartialEq.eq in
    let before = (g.T.TagTable.state c.args.table.now).tags in
    first_plain eq (g.P.Policy.model.plain c.args.policy.now) [] [] before c.requires (g.T.TagTable.state c.intern.new.self).tags
    ((λ j. (c.in_ok-intern.ensures.grown j).tags) ∙ ap (with_tag eq before) c.plain.ensures.value)

pub returns-clause-seen : goal.returns-clause-seen
returns-clause-seen g c =
    let eq = g.P.Tag.PartialEq.eq in
    let model = g.P.Policy.model in
    let policy = c.args.policy.now in
    let image = c.args.image.now in
    let before = (g.T.TagTable.state c.args.table.now).tags in
    first_seen eq (model.plain policy) (pc_tags model policy image) (start_tags model policy image) before c.requires
    (g.T.TagTable.state c.intern.new.self).tags (g.T.TagTable.state c.word_harts.new.table).tags (g.T.TagTable.state c.word_tags.new.table).tags
    ((λ j. (c.in_ok-intern.ensures.grown j).tags) ∙ ap (with_tag eq before) c.plain.ensures.value) c.in_ok-harts.ensures.seen c.in_ok-tags.ensures.seen

pub returns-clause-plain : goal.returns-clause-plain
returns-clause-plain g c =
    let eq = g.P.Tag.PartialEq.eq in
    let plain = g.P.Policy.model.plain c.args.policy.now in
    let before = (g.T.TagTable.state c.args.table.now).tags in
    let now = (g.T.TagTable.state c.intern.new.self).tags in
    let next = (g.T.TagTable.state c.word_harts.new.table).tags in
    let last = (g.T.TagTable.state c.word_tags.new.table).tags in
    grown_word now last (extends_on now next last c.word_harts.ensures.extends c.word_tags.ensures.extends) 0 plain
    (first_plain eq plain [] [] before c.requires now ((λ j. (c.in_ok-intern.ensures.grown j).tags) ∙ ap (with_tag eq before) c.plain.ensures.value))

pub returns-clause-harts : goal.returns-clause-harts
returns-clause-harts g c =
    harts_grow (g.T.TagTable.state c.word_harts.new.table).tags (g.T.TagTable.state c.word_tags.new.table).tags c.word_tags.ensures.extends
    (start_harts g.P.Policy.model c.args.policy.now c.args.image.now) c.in_ok-harts.harts.items c.in_ok-harts.ensures.harts
