use Rattle.std.proofs.Common.{arith, ◌≡◌, ◌∙◌, ap, length, subst, sym}
use Rattle.std.proofs.lemmas.Bool.{le-ltb}
use Rattle.pump_engine.specs.Pump.{IsPump, standing_by_words}
use Rattle.pump_engine.specs.Steps.{pump_start}
use Rattle.tag_memory.specs.Pages.{items_of}
use Rattle.word_loader.proofs.CachedLemmas.{has_sizes, ram_in_words, start_is_pump, start_is_read}
use Rattle.word_loader.proofs.start.start_cached.Goals as goal

pub from_parts-requires : goal.from_parts-requires
from_parts-requires g c =
    let ram = c.ram-ram.ensures in
    let words = c.in-Ok-words_of.ensures.size in
    let tags = c.in-Ok-first_words.ensures.size in
    record {
      tagged = omega (arith, words, tags);
      some = omega (arith, words, ram.value, ram.least);
      few = omega (arith, words, ram.value, ram.most);
    }

pub new-requires-clause-start : goal.new-requires-clause-start
new-requires-clause-start g c =
    let model = g.P.Policy.model in
    let policy = c.args.policy in
    let image = c.args.image.now in
    let table = g.T.TagTable.state c.first_words.new.table in
    let harts = c.in-Ok-first_words.parts.0.items in
    let tags = items_of c.in-Ok-first_words.parts.1 in
    let entries = c.entries-entries.ensures in
    let has = has_sizes image c.ram-ram.result c.ram-ram.ensures.value c.ram-ram.ensures.least c.ram-ram.ensures.most
    c.entries-entries.result.now entries.value entries.least entries.most entries.places
    c.in-Ok-words_of.words.items c.in-Ok-words_of.ensures.words c.in-Ok-words_of.ensures.size in
    let past = g.H.WordLog.past c.args.log in
    let ram = c.from_parts.ensures ∙ ap (λ memory. ram_in_words memory tags) c.in-Ok-words_of.ensures.words in
    subst (IsPump model) (λ j. pump_start policy harts (sym ram j) table (sym c.in-Ok-made.ensures.empty j) past)
    (start_is_pump model policy image table c.in-Ok-first_words.ensures.plain harts tags c.in-Ok-first_words.ensures.harts c.in-Ok-first_words.ensures.words c.args.sets c.args.ways
    past c.requires.empty has c.requires.room c.len-count.ensures.sound.within c.requires.ways)

pub returns-clause-start : goal.returns-clause-start
returns-clause-start g c =
    let model = g.P.Policy.model in
    let policy = c.args.policy in
    let image = c.args.image.now in
    let table = g.T.TagTable.state c.first_words.new.table in
    let harts = c.in-Ok-first_words.parts.0.items in
    let tags = items_of c.in-Ok-first_words.parts.1 in
    let past = g.H.WordLog.past c.args.log in
    let ram = c.from_parts.ensures ∙ ap (λ memory. ram_in_words memory tags) c.in-Ok-words_of.ensures.words in
    ap (standing_by_words model) (c.new.ensures ∙ (λ j. pump_start policy harts (ram j) table (c.in-Ok-made.ensures.empty j) past))
    ∙ start_is_read model policy image table c.in-Ok-first_words.ensures.plain harts tags c.in-Ok-first_words.ensures.harts c.in-Ok-first_words.ensures.words c.args.sets c.args.ways
    past c.requires.empty g.P.Tag.PartialEq.eq c.args.limit c.in-Ok-first_words.ensures.seen (c.first_words.ensures.limit ∙ (λ j. (c.in-Ok.ensures j).limit))

pub returns-clause-within : goal.returns-clause-within
returns-clause-within g c =
    let table = g.T.TagTable.state c.first_words.new.table in
    let limit : table.limit ≡ c.args.limit = c.first_words.ensures.limit ∙ (λ j. (c.in-Ok.ensures j).limit) in
    let count = ap length c.in-Ok-first_words.ensures.seen in
    le-ltb c.args.limit _ (omega (arith, limit, count, c.len-count.ensures.sound.within))
