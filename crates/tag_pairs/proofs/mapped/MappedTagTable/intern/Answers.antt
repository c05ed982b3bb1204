use Rattle.std.proofs.Common.{◌≡◌, ◌<◌, ◌∙◌, ℕ, ap, length, map, subst, sym}
use Rattle.std.proofs.lemmas.List.{length-map}
use Rattle.std.proofs.lemmas.Result.{on_ok_weaker}
use Rattle.engine_trait.specs.Accounts.{with_tag}
use Rattle.tag_pairs.proofs.MappedLemmas.{extends-mapped, image_contained, table_after-mapped, tag_contained, with_tag-mapped}
use Rattle.tag_pairs.proofs.mapped.MappedTagTable.intern.Given.{Over}
use Rattle.tag_pairs.proofs.mapped.MappedTagTable.intern.Goals as goal

-- the tag that is interned stands for the tag that comes
image_is : (g : Over) (c : goal.After-intern g) → g.M.TagBijection.image c.preimage.result ≡ c.args.tag
image_is g c = ap g.M.TagBijection.image c.preimage.ensures ∙ g.met.M.TagBijection.onto c.args.tag

images_with : (g : Over) (c : goal.After-intern g)
    → map g.M.TagBijection.image (with_tag g.T.Tag.PartialEq.eq (g.T.TagTable.state c.args.self.now.table).tags c.preimage.result)
    ≡ with_tag g.M.To.PartialEq.eq (map g.M.TagBijection.image (g.T.TagTable.state c.args.self.now.table).tags) c.args.tag
images_with g c =
    with_tag-mapped g.M.TagBijection.image g.M.TagBijection.preimage g.met.M.TagBijection.apart (g.T.TagTable.state c.args.self.now.table).tags
    c.preimage.result c.args.tag (image_is g c) g.T.Tag.PartialEq.eq g.met.T.Tag.Eq.laws g.met.T.Tag.Same.same
    g.M.To.PartialEq.eq g.met.M.To.Eq.laws g.met.M.To.Same.same

pub returns-clause-grown : goal.returns-clause-grown
returns-clause-grown g c =
    on_ok_weaker c.intern.result
    (λ grown. table_after-mapped g.M.TagBijection.image (g.T.TagTable.state c.args.self.now.table) (g.T.TagTable.state c.intern.new.self)
    g.T.Tag.PartialEq.eq c.preimage.result g.M.To.PartialEq.eq c.args.tag (images_with g c) grown)
    c.intern.ensures.grown

pub returns-clause-full : goal.returns-clause-full
returns-clause-full g c =
    let image = g.M.TagBijection.image in
    let preimage = g.M.TagBijection.preimage in
    let tags = (g.T.TagTable.state c.args.self.now.table).tags in
    let size = length-map tags image in (
      λ full.
          let is = c.intern.ensures.full.0 full in
          (size ∙ is.0, λ there. is.1 (tag_contained image preimage g.met.M.TagBijection.apart tags c.preimage.result c.args.tag (image_is g c) there)),
      λ is.
          c.intern.ensures.full.1
          (sym size ∙ is.0, λ there. is.1 (image_contained image preimage g.met.M.TagBijection.apart tags c.preimage.result c.args.tag (image_is g c) there)),
    )

pub returns-clause-over : goal.returns-clause-over
returns-clause-over g c =
    let table = g.T.TagTable.state c.args.self.now.table in
    let size = sym (length-map (with_tag g.T.Tag.PartialEq.eq table.tags c.preimage.result) g.M.TagBijection.image) ∙ ap length (images_with g c) in (
      λ full. subst (λ (n : ℕ). table.limit < n) size (c.intern.ensures.over.0 full),
      λ over. c.intern.ensures.over.1 (subst (λ (n : ℕ). table.limit < n) (sym size) over),
    )

pub returns-clause-extends : goal.returns-clause-extends
returns-clause-extends g c =
    extends-mapped g.M.TagBijection.image (g.T.TagTable.state c.args.self.now.table).tags (g.T.TagTable.state c.intern.new.self).tags c.intern.ensures.extends
