-- What the reader calls whole is a term.
--   TermAt        the words from an index to the end that was met are those of a term, and the depth that was met is its depth
--   whole_term    and so they are where it is read whole
use Rattle.term.specs.declared.Fault.{Fault}
use Rattle.std.specs.Prelude.{Err, Ok, Result}
use mathlib.Core.Path.{◌≡◌, refl, ap, sym, ◌∙◌}
use mathlib.Core.List.{List, ◌∷◌, ◌++◌, append_assoc}
use mathlib.Core.Bool.{Bool, true, false, cond}
use mathlib.Core.Option.{some}
use Prim.Native.Nat.{ℕ, zero, suc, ◌+◌, max, ◌<◌, ◌≤◌}
use native.Mathlib.Omega.{arith}
use borrow.Author.Tests.{ltb-true, leb-true, leb-false}
use lib.Dec.{ltb, leb}
use lib.ListN.{length, get_or, get_elem?, drop}
use Rattle.kinds.proofs.ListLaws.{from}
use Rattle.kinds.proofs.Places.{at_get_d}
use Rattle.term.specs.Terms.{Term, blank, node, Terms, tnil, tcons, count, depth, depths, span, spans, flatten, flattens, Fits, Fitss}
use Rattle.term.specs.Reading.{children_of, below, head_of, alone, after, kids_of, reading}
use Rattle.term.specs.declared.Limits.{Limits}
use Rattle.term.specs.declared.Met.{Met}
use Rattle.term.specs.declared.Fault.TheVariants.{Ends, NoSymbol, Many}
use Rattle.term.proofs.LawsReading.{never_whole, never_kids, head_in, on_next, on_enter}

-- the words from `at` to the end of m are those of a term of at most d levels, and m's depth is the term's
pub record TermAt (ar ws : List ℕ) (bl d at : ℕ) (m : Met) : Type 0 where
  pub tree : Term
  pub words : drop at ws ≡ flatten tree ++ drop m.end ws
  pub fits : Fits ar bl tree
  pub flat : depth tree < d
  pub size : m.end ≡ at + span tree
  pub deep : m.depth ≡ depth tree

-- n terms that make m of c
record TermsAt (ar ws : List ℕ) (bl d n : ℕ) (c m : Met) : Type 0 where
  trees : Terms
  many : count trees ≡ n
  words : drop c.end ws ≡ flattens trees ++ drop m.end ws
  fits : Fitss ar bl trees
  flat : depths trees ≤ d
  size : m.end ≡ c.end + spans trees
  deep : m.depth ≡ max c.depth (depths trees)

kids_same : {m n : ℕ} → ◌≡◌ {A = Result ℕ Fault} (Ok m) (Ok n) → m ≡ n
kids_same e = cc

-- what a node is that passes
on_children {κ} : {C : Type κ} (ar : List ℕ) (bl w n : ℕ) → children_of ar bl w ≡ Ok n → (bl ≤ w → n ≡ 0 → C) → (w < bl → get_elem? ar w ≡ some n → C)
    → C
unfolding children_of
on_children {C = C} ar bl w n e x y = go (leb bl w) refl (ltb w (length ar)) refl e
  where
    go : (a : Bool) → leb bl w ≡ a → (b : Bool) → ltb w (length ar) ≡ b → cond a (Ok 0) (cond b (Ok (get_or ar w 0)) (Err NoSymbol)) ≡ Ok n → C
    go true ea b eb e = x (leb-true bl w ea) (sym (kids_same e))
    go false ea true eb e = y (leb-false bl w ea) (at_get_d ar w 0 (ltb-true w (length ar) eb) ∙ ap some (kids_same e))
    go false ea false eb e = never_kids e

head_children : (ar ws : List ℕ) (l : Limits) (at n : ℕ) → head_of ar ws l at ≡ Ok n → children_of ar l.blanks (get_or ws at 0) ≡ Ok n
unfolding head_of
head_children ar ws l at n e = go (ltb at (length ws)) (children_of ar l.blanks (get_or ws at 0)) e
  where
    under : (m : ℕ) (y : Bool) → cond y (Ok m) (Err Many) ≡ Ok n → ◌≡◌ {A = Result ℕ Fault} (Ok m) (Ok n)
    under m true e = e
    under m false e = never_kids e

    go : (x : Bool) (c : Result ℕ Fault) → cond x (below l.stop at c) (Err Ends) ≡ Ok n → c ≡ Ok n
    go true (Err f) e = never_kids e
    go true (Ok m) e = under m (ltb at l.stop) e
    go false c e = never_kids e

kids_terms : (ar ws : List ℕ) (bl d : ℕ) (f : ℕ → Result Met (Fault × ℕ)) → ((at : ℕ) (m : Met) → f at ≡ Ok m → TermAt ar ws bl d at m)
    → (n : ℕ) (c m : Met) → kids_of f n c ≡ Ok m → TermsAt ar ws bl d n c m
kids_terms ar ws bl d f each zero c m e =
    let s : c ≡ m = cc in
    let ends : c.end ≡ m.end = ap (λ (x : Met). x.end) s in
    let depths-same : c.depth ≡ m.depth = ap (λ (x : Met). x.depth) s in
    record {
      trees = tnil;
      many = refl;
      words = ap (λ (n : ℕ). drop n ws) ends;
      fits = tt;
      flat = omega arith;
      size = omega (arith, ends);
      deep = omega (arith, depths-same);
    }
kids_terms ar ws bl d f each (suc n) c m e =
    on_next (f c.end) _ m e λ m₁ e₁ e₂.
    let a = each c.end m₁ e₁ in
    let b = kids_terms ar ws bl d f each n (after c m₁) m e₂ in
    record {
      trees = tcons a.tree b.trees;
      many = ap suc b.many;
      words = a.words ∙ ap (λ (l : List ℕ). flatten a.tree ++ l) b.words
          ∙ sym (append_assoc (flatten a.tree) (flattens b.trees) (drop m.end ws));
      fits = (a.fits, b.fits);
      flat = omega (arith, a.flat, b.flat);
      size = omega (arith, a.size, b.size);
      deep = omega (arith, a.deep, b.deep);
    }

pub whole_term : (ar ws : List ℕ) (l : Limits) (d at : ℕ) (m : Met) → reading ar ws l d at ≡ Ok m → TermAt ar ws l.blanks d at m
unfolding reading
whole_term ar ws l zero at m e = on_enter (head_of ar ws l at) at _ m e λ n h k. never_whole k
whole_term ar ws l (suc d) at m e =
    on_enter (head_of ar ws l at) at _ m e λ n h k.
    built n h (kids_terms ar ws l.blanks d (reading ar ws l d) (whole_term ar ws l d) n (alone at) m k)
  where
    built : (n : ℕ) → head_of ar ws l at ≡ Ok n → TermsAt ar ws l.blanks d n (alone at) m → TermAt ar ws l.blanks (suc d) at m
    built n h b =
        let i = head_in ar ws l at n h in
        let w : drop at ws ≡ get_or ws at 0 ∷ (flattens b.trees ++ drop m.end ws) =
        from ws at i.0 ∙ ap (λ (x : List ℕ). get_or ws at 0 ∷ x) b.words in
        on_children ar l.blanks (get_or ws at 0) n (head_children ar ws l at n h)
        (λ x z. lone x b.trees (b.many ∙ z) w b.size b.deep)
        (λ x y. record {
          tree = node (get_or ws at 0) b.trees;
          words = w;
          fits = (x, y ∙ ap some (sym b.many), b.fits);
          flat =
              omega (arith, b.flat);
          size = omega (arith, b.size);
          deep = omega (arith, b.deep);
        })
      where
        lone : l.blanks ≤ get_or ws at 0 → (ts : Terms) → count ts ≡ 0 → drop at ws ≡ get_or ws at 0 ∷ (flattens ts ++ drop m.end ws)
            → m.end ≡ at + 1 + spans ts → m.depth ≡ max 0 (depths ts) → TermAt ar ws l.blanks (suc d) at m
        lone x tnil c w s e = record { tree = blank (get_or ws at 0); words = w; fits = x; flat = omega arith; size = omega arith; deep = omega arith }
        lone x (tcons t ts) c w s e = absurd (omega arith)
