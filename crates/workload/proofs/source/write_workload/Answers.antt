use Rattle.std.proofs.Common.{rules, ◌≡◌, ◌++◌, List, ℕ, ap, sym, ◌∙◌}
use Rattle.std.proofs.lemmas.List.{append_assoc}
use Rattle.workload.specs.Source.{end_lines, head_lines, lines_of_blocks, text_of}
use Rattle.workload.proofs.SourceLemmas.{source_parts}
use Rattle.workload.proofs.source.write_workload.Goals as goal

-- the three parts one behind the other
pub returns : goal.returns
unfolding text_of
returns c =
    let head : c.extend_from_slice.new.self.items ≡ text_of head_lines = search rules in
    let blocks : List ℕ = text_of (lines_of_blocks c.args.count 0 c.args.count) in
    c.in_ok-extend_from_slice-2.ensures.items
    ∙ ap (λ (t : List ℕ). t ++ text_of end_lines) (c.in_ok-push_blocks.ensures ∙ ap (λ (t : List ℕ). t ++ blocks) head)
    ∙ append_assoc (text_of head_lines) blocks (text_of end_lines) ∙ sym (source_parts c.args.count)
