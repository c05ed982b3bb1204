use Rattle.std.proofs.Common.{sym, ◌∙◌}
use Rattle.elf_image.proofs.CodeLemmas.{code_joined, code_begun, code_first}
use Rattle.elf_image.proofs.words.put_code_word.Goals as goal
use Rattle.elf_image.proofs.words.put_code_word.Goals.{else-count-gt0-via-then-count-gt0+else-is_up_to, else-count-gt0-via-else-count-gt0}

pub returns-then-is_up_to : goal.returns-then-is_up_to
returns-then-is_up_to c =
    code_joined c.args.code.now.items c.len-count.result c.args.n c.index.result.now c.index_mut.result.now (c.len-count.ensures ∙ c.args.code.now.ok.0) c.if-count-gt0.true c.index.ensures c.index_mut.ensures.value (sym c.is_up_to.ensures ∙ c.if-is_up_to.true)

pub returns : goal.returns
returns c =
    elim c.else-count-gt0.branch [
      | else-count-gt0-via-then-count-gt0+else-is_up_to w ↦
          rw c.in_ok-push.ensures.items
          (code_begun c.args.code.now.items c.len-count.result c.args.n w.index.result.now (c.len-count.ensures ∙ c.args.code.now.ok.0) w.if-count-gt0.true w.index.ensures (sym w.is_up_to.ensures ∙ w.if-is_up_to.false))
      | else-count-gt0-via-else-count-gt0 w ↦
          rw c.in_ok-push.ensures.items (code_first c.args.code.now.items c.len-count.result c.args.n (c.len-count.ensures ∙ c.args.code.now.ok.0) w.if-count-gt0.false)
    ]
