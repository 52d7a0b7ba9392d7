-- The numbers of document 01, each once.
--   file_bytes trailer_bytes    "over 8,744 bytes"; "trailer, the last 8 bytes"
--   most_symbols most_children  "1 to 32 of them", "0 to 4" children
--   most_shapes shape_nodes shape_levels  "1 to 16 shapes", "each 1 to 16 nodes", "at depth at most 5": six levels
--   score_nodes score_levels    "1 to 4,096 nodes, depth at most 64": 65 levels
--   blank_word no_blank         "65,535 is a blank": the first word that is one; in a score none is
--   first_name                  "the word 65,504 plus j names blank j" (document 02, wish 8)
--   numbered_nodes              nodes "below … 65,536"
--   most_states                 "1 to 128 states"
--   line_room path_numbers number_digits  a buffer that holds any line; the longest path; the longest number
use Rattle.std.specs.Prelude.{ℕ}

abbrev pub file_bytes : ℕ
file_bytes = 8744

abbrev pub trailer_bytes : ℕ
trailer_bytes = 8

abbrev pub most_symbols : ℕ
most_symbols = 32

abbrev pub most_children : ℕ
most_children = 4

abbrev pub most_shapes : ℕ
most_shapes = 16

abbrev pub shape_nodes : ℕ
shape_nodes = 16

abbrev pub shape_levels : ℕ
shape_levels = 6

abbrev pub score_nodes : ℕ
score_nodes = 4096

abbrev pub score_levels : ℕ
score_levels = 65

abbrev pub blank_word : ℕ
blank_word = 65535

abbrev pub first_name : ℕ
first_name = 65504

abbrev pub no_blank : ℕ
no_blank = 65536

abbrev pub numbered_nodes : ℕ
numbered_nodes = 65536

abbrev pub most_states : ℕ
most_states = 128

abbrev pub line_room : ℕ
line_room = 1400

abbrev pub path_numbers : ℕ
path_numbers = 64

abbrev pub number_digits : ℕ
number_digits = 20
