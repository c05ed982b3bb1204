use Rattle.std.proofs.Common.{◌≡◌, ◌<◌, length, arith}
use Rattle.std.proofs.lemmas.Bool.Decides.{nat_tests}
use Rattle.shell_lang.specs.Words.{is_space}
use Rattle.shell_lang.proofs.WordLemmas.{no_word, position_within, word_cut}
use Rattle.shell_lang.proofs.words.next_word.Goals as goal

pub returns-then-is_empty-clause-none : goal.returns-then-is_empty-clause-none
returns-then-is_empty-clause-none c =
    let empty : length c.from_first_word-text.result.now ≡ 0 = grind (arith, nat_tests) in
    no_word c.args.text.now c.from_first_word-text.result.now c.from_first_word-text.ensures empty

pub split_at-requires : goal.split_at-requires
split_at-requires c = omega (arith, position_within is_space c.from_first_word-text.result.now)

pub returns-clause-some : goal.returns-clause-some
returns-clause-some c =
    let some : 0 < length c.from_first_word-text.result.now = grind (arith, nat_tests) in
    let cut = word_cut c.args.text.now c.from_first_word-text.result.now c.word_length.result c.from_first_word-text.ensures some c.word_length.ensures in
    cc
