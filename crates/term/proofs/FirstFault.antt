-- The reader refuses a term exactly where it goes wrong first.
--   fault_of of_fault   from the reader to the fault, and back
--   fault_is            exactly
use Rattle.std.specs.Prelude.{Err, Ok, Result}
use mathlib.Core.Path.{◌≡◌, refl, ap, sym, ◌∙◌}
use mathlib.Core.Logic.{inl, inr, ◌↔◌}
use mathlib.Core.List.{List, ◌++◌, append_assoc}
use mathlib.Core.Bool.{Bool, true, false, cond}
use mathlib.Core.Option.{some}
use Prim.Native.Nat.{ℕ, zero, suc, ◌+◌, ◌-◌, max, ◌<◌, ◌≤◌}
use native.Mathlib.Omega.{arith}
use native.Mathlib.Decide.{dec_lt}
use borrow.Author.Tests.{ltb-true, ltb-false, leb-true, leb-false}
use lib.Dec.{ltb, leb}
use lib.ListN.{length, get_or, get_elem?, drop}
use Rattle.kinds.proofs.Places.{at_below, at_get_d, get_d_at}
use Rattle.term.specs.Terms.{Terms, tnil, tcons, count, spans, depths, flatten, flattens, Fitss}
use Rattle.term.specs.Reading.{children_of, below, head_of, met, alone, after, enter, kids_of, reading}
use Rattle.term.specs.Reading.{next as and-on}
use Rattle.term.specs.declared.Limits.{Limits}
use Rattle.term.specs.declared.Met.{Met}
use Rattle.term.specs.declared.Fault.{Fault}
use Rattle.term.specs.declared.Fault.TheVariants.{Ends, NoSymbol, Many, Deep}
use Rattle.term.proofs.LawsReading.{same_fault, children_blank, children_none, children_symbol, head_out, head_bad, head_many, head_kids, reading_bad, reading_deep, never_whole, whole_in}
use Rattle.term.proofs.WholeTerm.{whole_term}
use Rattle.term.proofs.TermWhole.{reads_back}
use Rattle.term.specs.Faults.{Known, FaultIn, ends, no_symbol, many, deep, under}

module _ (ar ws : List ℕ) (l : Limits) where
  -- ---- one node
  data Node (at : ℕ) : Result ℕ Fault → Type 0 where
    no_word : length ws ≤ at → Node at (Err Ends)
    unknown : at < length ws → length ar ≤ get_or ws at 0 → get_or ws at 0 < l.blanks → Node at (Err NoSymbol)
    beyond : at < length ws → Known ar l (get_or ws at 0) → l.stop ≤ at → Node at (Err Many)
    a_blank : at < length ws → at < l.stop → l.blanks ≤ get_or ws at 0 → Node at (Ok 0)
    a_symbol : (n : ℕ) → at < length ws → at < l.stop → get_or ws at 0 < l.blanks → get_elem? ar (get_or ws at 0) ≡ some n → Node at (Ok n)

  node_is : (at : ℕ) → Node at (head_of ar ws l at)
  unfolding head_of children_of
  node_is at = go (ltb at (length ws)) refl (leb l.blanks (get_or ws at 0)) refl (ltb (get_or ws at 0) (length ar)) refl (ltb at l.stop) refl
    where
      go : (a : Bool) → ltb at (length ws) ≡ a → (b : Bool) → leb l.blanks (get_or ws at 0) ≡ b → (c : Bool) → ltb (get_or ws at 0) (length ar) ≡ c
          → (d : Bool) → ltb at l.stop ≡ d
          → Node at (cond a (below l.stop at (cond b (Ok 0) (cond c (Ok (get_or ar (get_or ws at 0) 0)) (Err NoSymbol)))) (Err Ends))
      go false ea b eb c ec d ed = no_word (ltb-false at (length ws) ea)
      go true ea true eb c ec true ed =
          rw ed (a_blank (ltb-true at (length ws) ea) (ltb-true at l.stop ed) (leb-true l.blanks (get_or ws at 0) eb))
      go true ea true eb c ec false ed =
          rw ed (beyond (ltb-true at (length ws) ea) (inl (leb-true l.blanks (get_or ws at 0) eb)) (ltb-false at l.stop ed))
      go true ea false eb true ec true ed =
          let h = ltb-true (get_or ws at 0) (length ar) ec in
          rw ed (a_symbol (get_or ar (get_or ws at 0) 0) (ltb-true at (length ws) ea) (ltb-true at l.stop ed) (leb-false l.blanks (get_or ws at 0) eb)
          (at_get_d ar (get_or ws at 0) 0 h))
      go true ea false eb true ec false ed =
          rw ed (beyond (ltb-true at (length ws) ea) (inr (ltb-true (get_or ws at 0) (length ar) ec)) (ltb-false at l.stop ed))
      go true ea false eb false ec d ed =
          unknown (ltb-true at (length ws) ea) (ltb-false (get_or ws at 0) (length ar) ec) (leb-false l.blanks (get_or ws at 0) eb)

  -- ---- from the reader
  record Stopped (d n from : ℕ) (f : Fault) (p : ℕ) : Type 0 where
    before : Terms
    fewer : count before < n
    fits : Fitss ar l.blanks before
    flat : depths before ≤ d
    to : ℕ
    words : drop from ws ≡ flattens before ++ drop to ws
    size : to ≡ from + spans before
    room : to ≤ l.stop
    stops : reading ar ws l d to ≡ Err (f, p)

  kids_stopped : (d n : ℕ) (c : Met) (f : Fault) (p : ℕ) → c.end ≤ l.stop → kids_of (reading ar ws l d) n c ≡ Err (f, p) → Stopped d n c.end f p
  kids_stopped d zero c f p h e = never_whole (sym e)
  kids_stopped d (suc n) c f p h e = go (reading ar ws l d c.end) refl e (λ m k. kids_stopped d n (after c m) f p k)
    where
      join : (m : Met) → reading ar ws l d c.end ≡ Ok m → Stopped d n m.end f p → Stopped d (suc n) c.end f p
      join m er s =
          let a = whole_term ar ws l d c.end m er in
          record {
            before = tcons a.tree s.before;
            fewer = omega (arith, s.fewer);
            fits = (a.fits, s.fits);
            flat = omega (arith, a.flat, s.flat);
            to = s.to;
            words = a.words ∙ ap (λ x. flatten a.tree ++ x) s.words
                ∙ sym (append_assoc (flatten a.tree) (flattens s.before) (drop s.to ws));
            size = omega (arith, a.size, s.size);
            room = s.room;
            stops = s.stops;
          }

      go : (r : Result Met (Fault × ℕ)) → reading ar ws l d c.end ≡ r → and-on r (λ m. kids_of (reading ar ws l d) n (after c m)) ≡ Err (f, p)
          → ((m : Met) → m.end ≤ l.stop → kids_of (reading ar ws l d) n (after c m) ≡ Err (f, p) → Stopped d n m.end f p)
          → Stopped d (suc n) c.end f p
      go (Err (g, q)) er e more = record {
        before = tnil;
        fewer = omega arith;
        fits = tt;
        flat = omega arith;
        to = c.end;
        words = refl;
        size = omega arith;
        room = h;
        stops =
            er ∙ e;
      }
      go (Ok m) er e more = join m er (more m (whole_in ar ws l d c.end m er).few e)

  pub fault_of : (d at : ℕ) (f : Fault) (p : ℕ) → reading ar ws l d at ≡ Err (f, p) → FaultIn ar ws l d at f p
  unfolding reading
  fault_of zero at f p e = go (head_of ar ws l at) (node_is at) e
    where
      go : (c : Result ℕ Fault) → Node at c → enter c at (λ n. Err (Deep, at)) ≡ Err (f, p) → FaultIn ar ws l zero at f p
      go c (no_word h) e = let w = same_fault e in let z : Ends ≡ f = w.0 in let y : at ≡ p = w.1 in rw (← z, ← y) (ends zero at h)
      go c (unknown h a b) e = let w = same_fault e in let z : NoSymbol ≡ f = w.0 in let y : at ≡ p = w.1 in rw (← z, ← y) (no_symbol zero at h a b)
      go c (beyond h k s) e = let w = same_fault e in let z : Many ≡ f = w.0 in let y : at ≡ p = w.1 in rw (← z, ← y) (many zero at h k s)
      go c (a_blank h s b) e = let w = same_fault e in let z : Deep ≡ f = w.0 in let y : at ≡ p = w.1 in rw (← z, ← y) (deep at h (inl b) s)
      go c (a_symbol n h s b g) e = let w = same_fault e in let z : Deep ≡ f = w.0 in let y : at ≡ p = w.1 in rw (← z, ← y) (deep at h (inr (at_below ar (get_or ws at 0) g)) s)
  fault_of (suc d) at f p e = go (head_of ar ws l at) (node_is at) e (λ to. fault_of d to f p)
    where
      inner : (n : ℕ) → at < length ws → at < l.stop → get_or ws at 0 < l.blanks → get_elem? ar (get_or ws at 0) ≡ some n
          → (s : Stopped d n (at + 1) f p) → FaultIn ar ws l d s.to f p → FaultIn ar ws l (suc d) at f p
      inner n h s b g x i = under d at n x.before x.to f p h s b g x.fewer x.fits x.flat x.words x.size x.room i

      go : (c : Result ℕ Fault) → Node at c → enter c at (λ n. kids_of (reading ar ws l d) n (alone at)) ≡ Err (f, p)
          → ((to : ℕ) → reading ar ws l d to ≡ Err (f, p) → FaultIn ar ws l d to f p) → FaultIn ar ws l (suc d) at f p
      go c (no_word h) e ih = let w = same_fault e in let z : Ends ≡ f = w.0 in let y : at ≡ p = w.1 in rw (← z, ← y) (ends (suc d) at h)
      go c (unknown h a b) e ih = let w = same_fault e in let z : NoSymbol ≡ f = w.0 in let y : at ≡ p = w.1 in rw (← z, ← y) (no_symbol (suc d) at h a b)
      go c (beyond h k s) e ih = let w = same_fault e in let z : Many ≡ f = w.0 in let y : at ≡ p = w.1 in rw (← z, ← y) (many (suc d) at h k s)
      go c (a_blank h s b) e ih = never_whole (sym e)
      go c (a_symbol n h s b g) e ih = let x = kids_stopped d n (alone at) f p (omega arith) e in inner n h s b g x (ih x.to x.stops)

  -- ---- to the reader
  known_children : (w : ℕ) → Known ar l w → (n : ℕ) × (children_of ar l.blanks w ≡ Ok n)
  known_children w k = go k (dec_lt w l.blanks)
    where
      go : Known ar l w → Dec (w < l.blanks) → (n : ℕ) × (children_of ar l.blanks w ≡ Ok n)
      go k (no h) = (0, children_blank ar l.blanks w (omega arith))
      go (inl b) (yes h) = absurd (omega arith)
      go (inr a) (yes h) = (get_or ar w 0, children_symbol ar l.blanks w h a)

  pub of_fault : {d at : ℕ} {f : Fault} {p : ℕ} → FaultIn ar ws l d at f p → reading ar ws l d at ≡ Err (f, p)
  unfolding reading
  of_fault (ends d at h) = reading_bad ar ws l at d (head_out ar ws l at h)
  of_fault (no_symbol d at h a b) = reading_bad ar ws l at d (head_bad ar ws l at h (children_none ar l.blanks (get_or ws at 0) b a))
  of_fault (many d at h k s) = reading_bad ar ws l at d (head_many ar ws l at h (known_children (get_or ws at 0) k).1 s)
  of_fault (deep at h k s) = reading_deep ar ws l at zero (head_kids ar ws l at h (known_children (get_or ws at 0) k).1 s) refl
  of_fault (under d at n before next f p h s b g fewer fits flat words size room x) =
      let ih = of_fault x in
      let k = n - suc (count before) in
      let many : n ≡ count before + suc k = omega arith in
      let head : head_of ar ws l at ≡ Ok n =
      head_kids ar ws l at h (children_symbol ar l.blanks (get_or ws at 0) b (at_below ar (get_or ws at 0) g)
      ∙ ap Ok (get_d_at ar (get_or ws at 0) 0 g)) s in
      ap (λ c. enter c at (λ m. kids_of (reading ar ws l d) m (alone at))) head
      ∙ ap (λ m. kids_of (reading ar ws l d) m (alone at)) many
      ∙ (reads_back ar ws l before d (suc k) (at + 1) 0 (drop next ws) fits flat (rw (← size) room) words).0
      ∙ ap (λ m. kids_of (reading ar ws l d) (suc k) (met m (max 0 (depths before)))) (sym size)
      ∙ ap (λ r. and-on r (λ m. kids_of (reading ar ws l d) k (after (met next (max 0 (depths before))) m))) ih

  pub fault_is : (d at : ℕ) (f : Fault) (p : ℕ) → (reading ar ws l d at ≡ Err (f, p)) ↔ FaultIn ar ws l d at f p
  fault_is d at f p = (fault_of d at f p, of_fault)
