use Rattle.std.proofs.Common.{rules}
use Rattle.gptman.specs.Reading.{primary, backup}
use Rattle.gptman.specs.Table.{IsHeaderForm}
use Rattle.gptman.proofs.BothForms.{both_forms, forms_exchanged}
use Rattle.gptman.proofs.copies.are_both_forms.Goals as goal

pub returns-then-is_in_backup_form : goal.returns-then-is_in_backup_form
returns-then-is_in_backup_form c =
    let first = c.args.primary.now in
    let second = c.args.backup.now in
    let at_primary : IsHeaderForm primary first = search rules in
    let at_backup : IsHeaderForm backup second = search rules in (
      λ yes. both_forms first second at_primary at_backup (c.has_sectors_exchanged.ensures.0 yes),
      λ are. c.has_sectors_exchanged.ensures.1 (forms_exchanged first second are),
    )
