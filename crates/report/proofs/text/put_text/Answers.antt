use Rattle.report.proofs.TextLaws.{text_is}
use Rattle.report.proofs.text.put_text.Goals as goal

pub returns-clause-buffer : goal.returns-clause-buffer
returns-clause-buffer c = text_is _ _ _ c.requires c.copy_from_slice.ensures.after
