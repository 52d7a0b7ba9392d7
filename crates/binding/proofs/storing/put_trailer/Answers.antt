use Rattle.binding.proofs.LawsBinding.{trailer_stored}
use Rattle.binding.proofs.storing.put_trailer.Goals as goal

pub returns-clause-file_after : goal.returns-clause-file_after
returns-clause-file_after c =
    trailer_stored c.args.file.now c.args.at c.args.symbols c.args.shapes c.args.score
    c.put_word-second.ensures.file_after c.put_word-second.ensures.value
    c.put_word-third.ensures.file_after c.put_word-third.ensures.value
    c.put_word-end.ensures.file_after c.put_word-end.ensures.value
    c.put_bytes.ensures.file_after
