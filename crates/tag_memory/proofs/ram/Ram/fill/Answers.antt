use Rattle.std.proofs.Common.{◌∙◌, ◌+◌, ◌*◌, ap, arith}
use Rattle.tag_memory.specs.Ram.{with_ram_tag}
use Rattle.tag_memory.proofs.RamLemmas.{filled_more}
use Rattle.tag_memory.proofs.ram.Ram.fill.Goals as goal

pub loop-n-preserved : goal.loop-n-preserved
loop-n-preserved g c =
    let before = c.loop-n.invariant in
    let n = c.loop-n.n in
    let sound = c.bytes-bytes.ensures.sound in
    record {
      filled = c.set_tag.ensures.exact ∙ ap (λ ram. with_ram_tag ram (c.args.address + 4 * n) c.args.tag) before.filled
          ∙ filled_more c.args.self.now c.args.address n c.args.tag c.requires.aligned
          (omega (arith, c.requires.aligned, c.requires.within, c.loop-n-test.true, sound.tagged));
      bytes = c.set_tag.ensures.bytes ∙ before.bytes;
    }
