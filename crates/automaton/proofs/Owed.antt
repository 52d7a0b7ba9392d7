-- S1 of a derivative: what is owed is a symbol of the shape, and each goal owes in document order.
--   fresh_real deriv_real lift_real
--   deriv_ordered lift_ordered
--   below_gcp       what a class owes lies below its greatest common prefix
use mathlib.Core.Path.{◌≡◌, refl, sym, ◌∙◌}
use mathlib.Core.Bool.{Bool, true, false, cond}
use mathlib.Core.List.{List, [], ◌∷◌, ◌++◌}
use mathlib.Core.Option.{Option, none, some}
use Prim.Native.Nat.{ℕ, zero, suc, ◌+◌, ◌<◌}
use native.Mathlib.Omega.{arith}
use lib.ListN.{length, get_elem?}
use Rattle.kinds.specs.Lists.{same, gather}
use Rattle.kinds.specs.Positions.{Pos, strip}
use Rattle.kinds.proofs.Members.{on_map, same_is, same_refl}
use Rattle.kinds.specs.Members.{◌∈◌, here, there, Pairwise}
use Rattle.kinds.proofs.Pairwise.{pairwise_append, pairwise_map}
use Rattle.kinds.proofs.Places.{at_some}
use Rattle.kinds.proofs.Prefixes.{◌≼◌, ≼_trans, strip_self, strip_more, strip_strip, strip_join}
use Rattle.kinds.proofs.Ordered.{Before, before_irrefl, before_more, more_before, before_append, child_before}
use Rattle.term.specs.Terms.{Term, blank, node, Terms, tnil, tcons}
use Rattle.term.specs.Places.{sub}
use Rattle.automaton.specs.Goals.{Calculus, Goal, State, label, reduced, deriv}
use Rattle.automaton.specs.Classes.{gcp, lift_goal, lift}
use Rattle.automaton.specs.Bare.{owed, fresh, args, args_of, in_place}
use Rattle.automaton.specs.Walking.{Setting, calculus}
use Rattle.term.proofs.Subterms.{sub_append}
use Rattle.automaton.proofs.Within.{shape_node}
use Rattle.automaton.proofs.Root.{gcp_below}
use Rattle.automaton.proofs.Derivative.{owes, on_in_place, on_args, on_args_of, args_under, Derived, kept, cut, new, derived}
use Rattle.automaton.proofs.Sound.{Real, Sound, SoundState}
use Rattle.automaton.proofs.Apart.{label_owes, child_below}

-- ---- document order
args_ordered : (p : Pos) (c n : ℕ) (ts : Terms) → Pairwise Before (args p c n ts)
args_ordered p c zero ts = tt
args_ordered p c (suc n) tnil = tt
args_ordered p c (suc n) (tcons (blank w) ts) = args_ordered p (suc c) n ts
args_ordered p c (suc n) (tcons (node f us) ts) =
    (λ y m. on_args p (suc c) n ts m (λ j h vs l e x. rw e (child_before p c (suc c + j) (omega arith))), args_ordered p (suc c) n ts)

args_of_ordered : (p : Pos) (n : ℕ) (t : Option Term) → Pairwise Before (args_of p n t)
args_of_ordered p n none = tt
args_of_ordered p n (some (blank w)) = tt
args_of_ordered p n (some (node f ts)) = args_ordered p 1 n ts

-- what is put in the place of p lies under p, and nothing else does
in_place_ordered : (p : Pos) (put os : List Pos) → Pairwise Before put → ((o : Pos) → o ∈ put → o ≼ p)
    → ((o : Pos) → o ∈ os → o ≼ p → o ≡ p) → Pairwise Before os → Pairwise Before (gather (in_place p put) os)
in_place_ordered p put [] pn un alone a = tt
in_place_ordered p put (q ∷ os) pn un alone a = go (same p q) refl (in_place_ordered p put os pn un (λ o m. alone o (there m)) a.1)
  where
    differ : {y : Pos} → same p y ≡ false → y ≡ p → ⊥
    differ {y} e d = let z : true ≡ false = sym (same_refl p) ∙ (rw d at e) in let u : ◌≡◌ {A = ℕ} 0 1 = cc in omega arith

    go : (b : Bool) → same p q ≡ b → Pairwise Before (gather (in_place p put) os) → Pairwise Before (cond b put (q ∷ []) ++ gather (in_place p put) os)
    go true e ih = pairwise_append Before put (gather (in_place p put) os) pn ih (λ x y i m. let qp : p ≡ q = same_is p q e in
        on_in_place p put os m
        (λ j d. rw (un x i).eq (more_before p (un x i).by y (rw qp (a.0 y j)) (λ h. differ d (alone y (there j) h))))
        (λ j d. absurd (before_irrefl p (rw (← qp) at (a.0 p j)))))
    go false e ih = (λ y m. on_in_place p put os m (λ j d. a.0 y j) (λ j d. rw (un y d).eq (before_more q p (un y d).by (a.0 p j))), ih)

one_ordered : (p : Pos) → Pairwise Before (p ∷ [])
one_ordered p = (λ y m. elim m [ ], tt)

-- ---- symbols
pub fresh_real : (S : Setting) (p : Pos) (j : ℕ) → j < length S.shapes → (o : Pos) → o ∈ (p ∷ []) → Real S (fresh p j) o
fresh_real S p j h o (here d) = let x = at_some S.shapes j h in let y = shape_node S j x.0 x.1 in rw d (go x.0 x.1 y.0 y.1 y.2)
  where
    go : (x : Term) → get_elem? S.shapes j ≡ some x → (f : ℕ) (us : Terms) → x ≡ node f us → Real S (fresh p j) p
    go x e f us d = record { shape = x; is_shape = e; head = f; kids = us; is = rw (strip_self p, d) }
fresh_real S p j h o (there x4) = elim x4 [ ]

module _ (S : Setting) where
  abbrev K : Calculus Pos
  K = calculus S

  module _ (s : State Pos) (w : SoundState S s) (f n : ℕ) where
    abbrev L : Pos
    L = label K s

    abbrev D : State Pos
    D = deriv K s f n

    pub deriv_real : (g : Goal Pos) → g ∈ D → (o : Pos) → o ∈ g.obs → Real S g o
    deriv_real g m o i = go (derived S s f n g m)
      where
        go : Derived S s f n g → Real S g o
        go (kept a e) = w.goals.real g a o i
        go (new c j l u h d) = rw d (fresh_real S (L ++ (c ∷ [])) j h o (rw d at i))
        go (cut h a e d x j) = rw d (on_in_place L (args_of L n (owed S.shapes h L)) h.obs (rw d at i) (λ b ne. stays b) made)
          where
            stays : o ∈ h.obs → Real S (reduced K L n h) o
            stays b = let r = w.goals.real h a o b in
                record { shape = r.shape; is_shape = r.is_shape; head = r.head; kids = r.kids; is = r.is }

            made : L ∈ h.obs → o ∈ args_of L n (owed S.shapes h L) → Real S (reduced K L n h) o
            made b c =
                let r = w.goals.real h a L b in
                on_args_of L n (owed S.shapes h L) c λ k us eu v.
                on_args L 1 n us v λ t y vs l eo nw.
                let su : sub r.shape (strip h.ann L) ≡ some (node k us) = rw r.is_shape at eu in
                let one : 1 + t ≡ suc t = omega arith in
                record {
                  shape = r.shape;
                  is_shape = r.is_shape;
                  head = y;
                  kids = vs;
                  is =
                      rw (
                        eo,
                        strip_more h.ann L ((1 + t) ∷ []) (w.goals.low h a L b),
                        sub_append (strip h.ann L) ((1 + t) ∷ []) r.shape,
                        su,
                        one,
                        nw,
                      );
                }

    pub deriv_ordered : (g : Goal Pos) → g ∈ D → Pairwise Before g.obs
    deriv_ordered g m = go (derived S s f n g m)
      where
        go : Derived S s f n g → Pairwise Before g.obs
        go (kept a e) = w.goals.ordered g a
        go (new c j l u h d) = rw d (one_ordered (L ++ (c ∷ [])))
        go (cut h a e d x j) = rw d (in_place_ordered L (args_of L n (owed S.shapes h L)) h.obs (args_of_ordered L n (owed S.shapes h L))
            (λ o i. args_under L n (owed S.shapes h L) i λ k l u z. rw z (child_below L k))
            (λ o i b. w.goals.apart o L (owes a i) (label_owes S s w) b) (w.goals.ordered h a))

  module _ (k : State Pos) (w : Sound S k) where
    -- what a class owes lies below its greatest common prefix
    pub below_gcp : (g : Goal Pos) → g ∈ k → (o : Pos) → o ∈ g.obs → o ≼ gcp k
    below_gcp g m o i = ≼_trans (w.low g m o i) (gcp_below k g m)

    pub lift_real : (g : Goal Pos) → g ∈ lift K k → (o : Pos) → o ∈ g.obs → Real S g o
    lift_real g m o i = on_map (lift_goal K (gcp k)) k m λ y a e. on_map (strip (gcp k)) y.obs (rw e at i) λ x b d. rw (e, d) (go y a x b)
      where
        go : (y : Goal Pos) → y ∈ k → (x : Pos) → x ∈ y.obs → Real S (lift_goal K (gcp k) y) (strip (gcp k) x)
        go y a x b =
            let r = w.real y a x b in
            record {
              shape = r.shape;
              is_shape = r.is_shape;
              head = r.head;
              kids = r.kids;
              is =
                  rw (strip_strip (gcp k) y.ann x (gcp_below k y a) (w.low y a x b)) r.is;
            }

    pub lift_ordered : (g : Goal Pos) → g ∈ lift K k → Pairwise Before g.obs
    lift_ordered g m = on_map (lift_goal K (gcp k)) k m λ y i e. rw e (pairwise_map Before Before (strip (gcp k)) y.obs (keep y i) (w.ordered y i))
      where
        keep : (y : Goal Pos) → y ∈ k → (a b : Pos) → a ∈ y.obs → b ∈ y.obs → Before a b → Before (strip (gcp k) a) (strip (gcp k) b)
        keep y i a b ia ib l =
            sym (before_append (gcp k) (strip (gcp k) a) (strip (gcp k) b))
            ∙ rw (strip_join (gcp k) a (below_gcp y i a ia), strip_join (gcp k) b (below_gcp y i b ib)) l
