use Rattle.binding.proofs.LawsBinding.{no_room, bound_counted, bound_stored, bind_written}
use Rattle.binding.proofs.files.bind.Goals as goal

pub returns-then-file-whole : goal.returns-then-file-whole
returns-then-file-whole c = no_room _ _ _ _ c.if-symbols-gt-MOST_SYMBOLS.false c.if-words-gt-SHAPES_WORDS.false c.if-score-gt-SCORE_NODES.false c.if-file-whole.true

pub returns : goal.returns
returns c =
    bind_written c.args.symbols.now c.args.words.now c.args.score.now c.args.file.now
    c.if-symbols-gt-MOST_SYMBOLS.false c.if-words-gt-SHAPES_WORDS.false c.if-score-gt-SCORE_NODES.false c.if-file-whole.false
    (bound_counted c.args.symbols.now c.args.words.now c.args.score.now
    c.put_bytes-shapes.ensures.value c.put_words-nodes.ensures.value c.put_words-trailer.ensures.value c.put_trailer.ensures.value)
    (bound_stored c.args.symbols.now c.args.words.now c.args.score.now c.args.file.now
    c.put_bytes-shapes.ensures.file_after c.put_bytes-shapes.ensures.value
    c.put_words-nodes.ensures.file_after c.put_words-nodes.ensures.value
    c.put_words-trailer.ensures.file_after c.put_words-trailer.ensures.value c.put_trailer.ensures.file_after)
