use Rattle.std.proofs.Common.{◌∙◌, subst, sym}
use Rattle.tag_memory.specs.Ram.{IsPlace, ram_bytes}
use Rattle.engine_trait.specs.Machine.{CoreState}
use Rattle.engine_trait.proofs.cores.Core.undo.Goals as goal

pub restore_word-requires : goal.restore_word-requires
restore_word-requires g c word is =
    subst (λ (core : CoreState g.row.T.Denot). IsPlace (ram_bytes core.ram) word.place) (sym c.self.view_is) (c.requires.word word (sym c.word.ensures ∙ is))
