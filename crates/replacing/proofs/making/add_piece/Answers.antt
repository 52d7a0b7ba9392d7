use Rattle.replacing.proofs.LawsAdding.{added_words, piece_symbol, piece_name}
use Rattle.replacing.proofs.making.add_piece.Goals as goal

pub returns-then-w-lt-FIRST_NAME : goal.returns-then-w-lt-FIRST_NAME
returns-then-w-lt-FIRST_NAME c = added_words (piece_symbol _ _ _ c.if-w-lt-FIRST_NAME.true) c.add.ensures

pub returns : goal.returns
returns c = added_words (piece_name _ _ _ c.if-w-lt-FIRST_NAME.false c.node_of.ensures c.under-words.ensures) c.add-2.ensures
