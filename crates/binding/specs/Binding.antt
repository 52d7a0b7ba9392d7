-- Inside: document 01, "The folio", made and not read: symbols, "1 to 32 of them", shapes, "1 to 16 shapes", "each 1 to 16 nodes", and a score, "1 to 4,096 nodes",
-- become a file. That they are symbols, shapes and a score is not looked at: opening does that.
--   shapes_words   the words of 16 shapes of 16 nodes
--   BindOutcome    an answer, and the buffer as it is then; a refusal writes nothing
--   bind_of        more than the limits, or more bytes than the buffer has: 0; else the file in front of what stood there, and its length
use Rattle.std.specs.Prelude.{ℕ, ◌*◌, List, leb, length}
use Rattle.kinds.specs.Limits.{most_symbols, most_shapes, shape_nodes, score_nodes}
use Rattle.kinds.specs.Lists.{unless, onto}
use Rattle.folio.specs.Files.{bound}

abbrev pub shapes_words : ℕ
shapes_words = most_shapes * shape_nodes

pub record BindOutcome : Type 0 where
  pub answer : ℕ
  pub file : List ℕ

abbrev pub bind_out : ℕ → List ℕ → BindOutcome
bind_out n file = record { answer = n; file = file }

unfoldable pub bind_of : List ℕ → List ℕ → List ℕ → List ℕ → BindOutcome
bind_of ar ws sc file =
    let whole = bound ar ws sc in
    unless (leb (length ar) most_symbols) (bind_out 0 file)
    (unless (leb (length ws) shapes_words) (bind_out 0 file)
    (unless (leb (length sc) score_nodes) (bind_out 0 file)
    (unless (leb (length whole) (length file)) (bind_out 0 file)
    (bind_out (length whole) (onto whole file)))))
