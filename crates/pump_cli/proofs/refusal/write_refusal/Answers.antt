use Rattle.std.proofs.Common.{ap, codes, ◌∙◌, ◌++◌, append_assoc}
use Rattle.pump_cli.specs.Texts.{elf_error_text, image_error_text, source_error_text, tags_error_text}
use Rattle.pump_cli.proofs.refusal.write_refusal.Goals as goal

pub returns-in-BadImage-clause-text : goal.returns-in-BadImage-clause-text
returns-in-BadImage-clause-text c =
    rw c.in-BadImage.is
    (c.write_image_error.ensures.text ∙ ap (λ prefix. prefix ++ image_error_text c.in-BadImage.error) c.write_text-in-BadImage.ensures.text
    ∙ append_assoc c.args.to.now.items (codes "pump: bad image: ") (image_error_text c.in-BadImage.error))

pub returns-in-BadSource-clause-text : goal.returns-in-BadSource-clause-text
returns-in-BadSource-clause-text c =
    rw c.in-BadSource.is
    (c.write_source_error.ensures.text ∙ ap (λ prefix. prefix ++ source_error_text c.in-BadSource.error) c.write_text-in-BadSource.ensures.text
    ∙ append_assoc c.args.to.now.items (codes "pump: bad source: ") (source_error_text c.in-BadSource.error))

pub returns-in-BadTags-clause-text : goal.returns-in-BadTags-clause-text
returns-in-BadTags-clause-text c =
    rw c.in-BadTags.is
    (c.write_tags_error.ensures.text ∙ ap (λ prefix. prefix ++ tags_error_text c.in-BadTags.error) c.write_text-in-BadTags.ensures.text
    ∙ append_assoc c.args.to.now.items (codes "pump: bad tags: ") (tags_error_text c.in-BadTags.error))

pub returns-in-BadElf-clause-text : goal.returns-in-BadElf-clause-text
returns-in-BadElf-clause-text c =
    rw c.in-BadElf.is
    (c.write_elf_error.ensures.text ∙ ap (λ prefix. prefix ++ elf_error_text c.in-BadElf.error) c.write_text-in-BadElf.ensures.text
    ∙ append_assoc c.args.to.now.items (codes "pump: bad elf: ") (elf_error_text c.in-BadElf.error))

pub returns-in-TooLong-clause-text : goal.returns-in-TooLong-clause-text
returns-in-TooLong-clause-text c = rw c.in-TooLong.is c.write_text-in-TooLong.ensures.text
