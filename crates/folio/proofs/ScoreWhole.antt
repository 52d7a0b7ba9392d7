-- A whole score is a score, and a score is whole.
--   words_below             numbers below 256, or 65,536
--   whole_of below_of       what has no word from 65,536 on has no blank, and the way back
--   Scored score_is         the words are those of a score
--   score_of_lem            and the way back: it is met with its words and its depth
use Rattle.std.specs.Prelude.{Ok}
use mathlib.Core.Path.{◌≡◌, refl, ap, sym, ◌∙◌}
use mathlib.Core.List.{List, [], ◌∷◌, ◌++◌, append-nil}
use mathlib.Core.Logic.{⊎_elim}
use Prim.Native.Nat.{ℕ, ◌+◌, ◌≤◌}
use native.Mathlib.Omega.{arith}
use lib.ListN.{length, drop, drop_of_length-le, length-drop}
use Rattle.kinds.proofs.Members.{∈_left, ∈_right, ∈_append, in_none}
use Rattle.kinds.specs.Members.{here, there, Below}
use Rattle.term.specs.Terms.{Term, blank, node, Terms, tnil, tcons, span, flatten, flattens, Fits, Fitss, Whole, Wholes}
use Rattle.term.specs.declared.Met.{Met}
use Rattle.term.proofs.LawsReading.{whole_in}
use Rattle.term.proofs.WholeTerm.{whole_term}
use Rattle.term.proofs.TermWhole.{met_with, read_back}
use Rattle.sections.specs.Bytes.{words_of}
use Rattle.contents.specs.Tables.{score_limits, score_of}
use Rattle.kinds.specs.Limits.{no_blank, score_levels}
use Rattle.folio.specs.Folio.{Scored}
use Rattle.term.specs.Admitted.{IsScore}
use Rattle.contents.proofs.LawsTables.{score_whole, score_read}

pub words_below : (b : List ℕ) → Below 256 b → Below 65536 (words_of b)
unfolding words_of
words_below [] h w m = in_none m
words_below (x ∷ []) h w m = in_none m
words_below (x ∷ y ∷ r) h w (here e) = let p = h x (here refl) in let q = h y (there (here refl)) in omega arith
words_below (x ∷ y ∷ r) h w (there m) = words_below r (λ v i. h v (there (there i))) w m

mutual
  pub whole_of : (ar : List ℕ) (t : Term) → Fits ar no_blank t → Below 65536 (flatten t) → Whole t
  whole_of ar (blank w) f h = let l = h w (here refl) in absurd (omega arith)
  whole_of ar (node g ts) f h = wholes_of ar ts f.2 (λ w m. h w (there m))

  wholes_of : (ar : List ℕ) (ts : Terms) → Fitss ar no_blank ts → Below 65536 (flattens ts) → Wholes ts
  wholes_of ar tnil f h = tt
  wholes_of ar (tcons t ts) f h =
      (whole_of ar t f.0 (λ w m. h w (∈_left (flattens ts) m)), wholes_of ar ts f.1 (λ w m. h w (∈_right (flatten t) m)))

mutual
  pub below_of : (ar : List ℕ) (t : Term) → Fits ar no_blank t → Whole t → Below 65536 (flatten t)
  below_of ar (blank w) f h v m = absurd h
  below_of ar (node g ts) f h v (here e) = omega (arith, e, f.0)
  below_of ar (node g ts) f h v (there m) = belows_of ar ts f.2 h v m

  belows_of : (ar : List ℕ) (ts : Terms) → Fitss ar no_blank ts → Wholes ts → Below 65536 (flattens ts)
  belows_of ar tnil f h v m = in_none m
  belows_of ar (tcons t ts) f h v m = ⊎_elim (λ i. below_of ar t f.0 h.0 v i) (λ i. belows_of ar ts f.1 h.1 v i) (∈_append (flatten t) m)

pub score_is : (ar ws : List ℕ) (m : Met) → Below 65536 ws → score_of ar ws ≡ Ok m → Scored ar ws
score_is ar ws m small e =
    let r = score_read ar ws m e in
    let a = whole_term ar ws (score_limits 0) score_levels 0 m r.0 in
    let w = whole_in ar ws (score_limits 0) score_levels 0 m r.0 in
    let h : length ws ≤ m.end = omega (arith, r.1) in
    let q : ws ≡ flatten a.tree = a.words ∙ ap (λ (l : List ℕ). flatten a.tree ++ l) (drop_of_length-le ws h)
    ∙ append-nil (flatten a.tree) in
    record {
      tree = a.tree;
      is = record {
        fits = a.fits;
        whole = whole_of ar a.tree a.fits (λ v i. small v (rw q i));
        flat = omega (arith, a.flat);
        small = omega (arith, w.few, a.size);
      };
      words = q;
    }

pub score_of_lem : (ar : List ℕ) (t : Term) → IsScore ar t → score_of ar (flatten t) ≡ Ok (met_with 0 t)
score_of_lem ar t s =
    let d = s.flat in
    let n = s.small in
    let b = read_back ar (flatten t) (score_limits 0) t score_levels 0 [] s.fits (omega arith) (omega arith) (sym (append-nil (flatten t))) in
    let k : length (drop (0 + span t) (flatten t)) ≡ 0 = ap length b.1 in
    score_whole ar (flatten t) b.0 (omega (arith, length-drop (0 + span t) (flatten t)))
