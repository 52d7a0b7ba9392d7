-- "A term is read by descending into each child in turn, with the remaining depth falling at every descent." "The reading of one term should tell, beside its
-- end, the greatest depth it met." A blank is a node.
--   limits       the limits of a reading
--   children_of  how many children a word has: a blank none, a symbol as many as its count says
--   head_of      the tests at one node that need no depth, in their order: is there a word, is it a symbol or a blank, is it one node too many
--   met          what was met: the index after the last word, the greatest depth
--   alone after  a node before its children are read; with one more child, whose nodes are a level deeper
--   kids_of      n terms read one after the other
--   reading      one term, at most d levels deep: what was met, or the first fault in preorder and its word
use Rattle.term.specs.declared.Fault.{Fault}
use Rattle.std.specs.Prelude.{ℕ, zero, suc, ◌+◌, max, List, cond, ltb, leb, length, get_or, Err, Ok, Result}
use Rattle.term.specs.declared.Limits.{Limits}
use Rattle.term.specs.declared.Met.{Met}
use Rattle.term.specs.declared.Fault.TheVariants.{Ends, NoSymbol, Many, Deep}

abbrev pub limits : ℕ → ℕ → Limits
limits blanks stop = record { blanks = blanks; stop = stop }

unfoldable pub children_of : List ℕ → ℕ → ℕ → Result ℕ Fault
children_of ar blanks w = cond (leb blanks w) (Ok 0) (cond (ltb w (length ar)) (Ok (get_or ar w 0)) (Err NoSymbol))

abbrev pub below : ℕ → ℕ → Result ℕ Fault → Result ℕ Fault
below stop at (Err f) = Err f
below stop at (Ok n) = cond (ltb at stop) (Ok n) (Err Many)

unfoldable pub head_of : List ℕ → List ℕ → Limits → ℕ → Result ℕ Fault
head_of ar ws l at = cond (ltb at (length ws)) (below l.stop at (children_of ar l.blanks (get_or ws at 0))) (Err Ends)

abbrev pub met : ℕ → ℕ → Met
met e d = record { end = e; depth = d }

abbrev pub alone : ℕ → Met
alone at = met (at + 1) 0

abbrev pub after : Met → Met → Met
after m c = met c.end (max m.depth (c.depth + 1))

abbrev pub enter : Result ℕ Fault → ℕ → (ℕ → Result Met (Fault × ℕ)) → Result Met (Fault × ℕ)
enter (Err f) at k = Err (f, at)
enter (Ok n) at k = k n

-- where it is whole go on with what was met
abbrev pub next : Result Met (Fault × ℕ) → (Met → Result Met (Fault × ℕ)) → Result Met (Fault × ℕ)
next (Ok m) k = k m
next (Err (f, p)) k = Err (f, p)

abbrev pub kids_of : (ℕ → Result Met (Fault × ℕ)) → ℕ → Met → Result Met (Fault × ℕ)
kids_of f zero m = Ok m
kids_of f (suc n) m = next (f m.end) (λ c. kids_of f n (after m c))

unfoldable pub reading : List ℕ → List ℕ → Limits → ℕ → ℕ → Result Met (Fault × ℕ)
reading ar ws l zero at = enter (head_of ar ws l at) at (λ n. Err (Deep, at))
reading ar ws l (suc d) at = enter (head_of ar ws l at) at (λ n. kids_of (reading ar ws l d) n (alone at))
