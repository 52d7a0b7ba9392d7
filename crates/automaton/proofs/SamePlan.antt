-- The paper's obligations and bare positions give the same plan, and the same refusals.
--   RightOb Right   each obligation's subpattern is the shape's, at its position below the announcement
--   carries         forgetting the subpatterns commutes with each part of the two calculi
--   alike_refl      an obligation is alike itself
--   same_plan       planned (paper shapes) is planned (bare shapes)
use mathlib.Core.Path.{◌≡◌, refl, ap, ap₂, sym, ◌∙◌}
use mathlib.Core.Bool.{Bool, true, false, cond, ◌&&◌, ◌||◌}
use mathlib.Core.List.{List, [], ◌∷◌, ◌++◌, map}
use mathlib.Core.Option.{some}
use Prim.Native.Nat.{ℕ, zero, suc, ◌+◌}
use native.Mathlib.Omega.{arith}
use native.Mathlib.Nat.{zero-add}
use lib.Dec.{eqb}
use lib.ListN.{length, get_elem?}
use Rattle.kinds.specs.Lists.{same, any, gather, map_at, range, bind}
use Rattle.kinds.specs.Positions.{Pos, strip}
use Rattle.kinds.proofs.Bools.{both, is_eqb}
use Rattle.kinds.proofs.Options.{on_bind}
use Rattle.kinds.proofs.Members.{on_map, on_gather, same_is, same_refl}
use Rattle.kinds.specs.Members.{◌∈◌, here, there}
use Rattle.kinds.proofs.ListLaws.{map_gather, gather_map, gather_same}
use Rattle.kinds.proofs.Places.{on_map_at}
use Rattle.kinds.proofs.Prefixes.{◌≼◌, ≼_refl, ≼_snoc, strip_self, strip_more, strip_strip, strip_below}
use Rattle.term.specs.Terms.{Term, blank, node, Terms, tnil, tcons}
use Rattle.term.specs.Places.{nth, sub}
use Rattle.automaton.specs.Goals.{Goal, reduced}
use Rattle.automaton.specs.Classes.{lift_goal}
use Rattle.automaton.specs.Paper.{Ob, heads, reduce_ob, same_term, same_terms, paper}
use Rattle.automaton.specs.Paper.{fresh as freshOb, args as argObs, args_of as argObsOf}
use Rattle.automaton.specs.Bare.{owed, heads_of, fresh, args, args_of, in_place, bare}
use Rattle.automaton.specs.Exploring.{construction}
use Rattle.automaton.specs.PlanWords.{planned}
use Rattle.term.proofs.Subterms.{sub_append}
use Rattle.automaton.proofs.Forget.{forget, forgets, Carries, plan_same}

abbrev pub position : Ob → Pos
position o = o.pos

pub record RightOb (shapes : List Term) (g : Goal Ob) (o : Ob) : Type 0 where
  pub low : o.pos ≼ g.ann
  pub is : owed shapes (forget position g) o.pos ≡ some o.pat

abbrev pub Right : List Term → Goal Ob → Type 0
Right shapes g = (o : Ob) → o ∈ g.obs → RightOb shapes g o

mutual
  same_term_refl : (t : Term) → same_term t t ≡ true
  same_term_refl (blank w) = refl
  same_term_refl (node f ts) = both {a = eqb f f} (is_eqb f f refl) (same_terms_refl ts)

  same_terms_refl : (ts : Terms) → same_terms ts ts ≡ true
  same_terms_refl tnil = refl
  same_terms_refl (tcons t ts) = both {a = same_term t t} (same_term_refl t) (same_terms_refl ts)

pub alike_refl : (o : Ob) → (same o.pos o.pos && same_term o.pat o.pat) ≡ true
alike_refl o = both {a = same o.pos o.pos} (same_refl o.pos) (same_term_refl o.pat)

-- ---- fresh goals
freshes_from : (p : Pos) (c : ℕ) (shapes : List Term) → forgets position (map_at (freshOb p) c shapes) ≡ map (fresh p) (range c (length shapes))
freshes_from p c [] = refl
freshes_from p c (x ∷ xs) = ap (λ l. fresh p c ∷ l) (freshes_from p (suc c) xs)

fresh_right : (shapes : List Term) (p : Pos) (g : Goal Ob) → g ∈ map_at (freshOb p) 0 shapes → Right shapes g
fresh_right shapes p g m = on_map_at (freshOb p) 0 shapes m λ i x a e. rw (e, zero-add i) (λ o j. one i x a o j)
  where
    one : (i : ℕ) (x : Term) → get_elem? shapes i ≡ some x → (o : Ob) → o ∈ (record { pat = x; pos = p } ∷ []) → RightOb shapes (freshOb p i x) o
    one i x a o (here d) = record { low = rw d (≼_refl p); is = rw (d, a, strip_self p) }
    one i x a o (there x5) = elim x5 [ ]

-- ---- reduced goals
args_same : (p : Pos) (i n : ℕ) (ts : Terms) → map position (argObs p i n ts) ≡ args p i n ts
args_same p i zero ts = refl
args_same p i (suc n) tnil = refl
args_same p i (suc n) (tcons (blank w) ts) = args_same p (suc i) n ts
args_same p i (suc n) (tcons (node f us) ts) = ap (λ l. (p ++ (i ∷ [])) ∷ l) (args_same p (suc i) n ts)

args_of_same : (p : Pos) (n : ℕ) (t : Term) → map position (argObsOf p n t) ≡ args_of p n (some t)
args_of_same p n (blank w) = refl
args_of_same p n (node f ts) = args_same p 1 n ts

on_args {κ} : {C : Type κ} (p : Pos) (c n : ℕ) (us : Terms) (o : Ob) → o ∈ argObs p c n us
    → ((j : ℕ) → o.pos ≡ p ++ ((c + j) ∷ []) → nth us j ≡ some o.pat → C) → C
on_args p c (suc n) (tcons (blank w) us) o m k =
    on_args p (suc c) n us o m (λ j e d. let z : suc c + j ≡ c + suc j = omega arith in k (suc j) (rw z at e) d)
on_args p c (suc n) (tcons (node g ws) us) o (here e) k = let z : c + 0 ≡ c = omega arith in k 0 (rw (z, e)) (rw e)
on_args p c (suc n) (tcons (node g ws) us) o (there m) k =
    on_args p (suc c) n us o m (λ j e d. let z : suc c + j ≡ c + suc j = omega arith in k (suc j) (rw z at e) d)
on_args {C = C} p c zero us o m k = elim m [ ]
on_args {C = C} p c (suc n) tnil o m k = elim m [ ]

on_args_of {κ} : {C : Type κ} (p : Pos) (n : ℕ) (t : Term) (o : Ob) → o ∈ argObsOf p n t
    → ((f : ℕ) (us : Terms) → t ≡ node f us → o ∈ argObs p 1 n us → C) → C
on_args_of p n (node f us) o m k = k f us refl m
on_args_of {C = C} p n (blank _) o m k = elim m [ ]

spread : (b c d : Bool) → ((b || c) && d) ≡ ((b && d) || (c && d))
spread true true true = refl
spread true true false = refl
spread true false true = refl
spread true false false = refl
spread false c d = refl

module _ (shapes : List Term) where
  expects_same : (f : ℕ) (p : Pos) (g : Goal Ob) → Right shapes g
      → (any (same p) (map position g.obs) && heads_of f (owed shapes (forget position g) p)) ≡ any (λ o. same p o.pos && heads f o.pat)
      g.obs
  expects_same f p g r = go g.obs (λ o m. (r o m).is)
    where
      one : (o : Ob) → owed shapes (forget position g) o.pos ≡ some o.pat
          → (same p o.pos && heads_of f (owed shapes (forget position g) p)) ≡ (same p o.pos && heads f o.pat)
      one o e = split (same p o.pos) refl
        where
          split : (b : Bool) → same p o.pos ≡ b → (b && heads_of f (owed shapes (forget position g) p)) ≡ (b && heads f o.pat)
          split true d = ap (heads_of f) (ap (owed shapes (forget position g)) (same_is p o.pos d) ∙ e)
          split false d = refl

      go : (os : List Ob) → ((o : Ob) → o ∈ os → owed shapes (forget position g) o.pos ≡ some o.pat)
          → (any (same p) (map position os) && heads_of f (owed shapes (forget position g) p)) ≡ any (λ o. same p o.pos && heads f o.pat) os
      go [] h = refl
      go (o ∷ os) h = spread (same p o.pos) (any (same p) (map position os)) (heads_of f (owed shapes (forget position g) p))
          ∙ ap₂ ◌||◌ (one o (h o (here refl))) (go os (λ x m. h x (there m)))

  reduce_same : (p : Pos) (n : ℕ) (g : Goal Ob) → Right shapes g
      → map position (gather (reduce_ob p n) g.obs) ≡ gather (in_place p (args_of p n (owed shapes (forget position g) p))) (map position g.obs)
  reduce_same p n g r =
      map_gather position (reduce_ob p n) g.obs
      ∙ gather_same _ _ g.obs (λ o m. one o (r o m).is)
      ∙ sym (gather_map (in_place p (args_of p n (owed shapes (forget position g) p))) position g.obs)
    where
      one : (o : Ob) → owed shapes (forget position g) o.pos ≡ some o.pat
          → map position (reduce_ob p n o) ≡ in_place p (args_of p n (owed shapes (forget position g) p)) o.pos
      one o e = split (same p o.pos) refl
        where
          split : (b : Bool) → same p o.pos ≡ b
              → map position (cond b (argObsOf p n o.pat) (o ∷ [])) ≡ cond b (args_of p n (owed shapes (forget position g) p)) (o.pos ∷ [])
          split true d = args_of_same p n o.pat ∙ ap (args_of p n) (sym (ap (owed shapes (forget position g)) (same_is p o.pos d) ∙ e))
          split false d = refl

  -- what is owed right below p
  owed_child : (g : Goal Ob) (p : Pos) (f j : ℕ) (us : Terms) (u : Term) → p ≼ g.ann
      → owed shapes (forget position g) p ≡ some (node f us) → nth us j ≡ some u → owed shapes (forget position g) (p ++ ((1 + j) ∷ [])) ≡ some u
  owed_child g p f j us u low e d = on_bind (get_elem? shapes g.shape) _ e λ x gx sx.
      let one : 1 + j ≡ suc j = omega arith in
      rw (gx, strip_more g.ann p ((1 + j) ∷ []) low, sub_append (strip g.ann p) ((1 + j) ∷ []) x, sx, one, d)

  reduced_right : (p : Pos) (n : ℕ) (g : Goal Ob) → Right shapes g → Right shapes (reduced (paper shapes) p n g)
  reduced_right p n g r o m = on_gather (reduce_ob p n) g.obs m λ x i j. go x i (same p x.pos) refl j
    where
      go : (x : Ob) → x ∈ g.obs → (b : Bool) → same p x.pos ≡ b → o ∈ cond b (argObsOf p n x.pat) (x ∷ [])
          → RightOb shapes (reduced (paper shapes) p n g) o
      go x i false e (here d) = rw d (record { low = (r x i).low; is = (r x i).is })
      go x i true e j = on_args_of p n x.pat o j λ f us eu k. on_args p 1 n us o k λ c eo nu.
          let z : p ≡ x.pos = same_is p x.pos e in
          let low : p ≼ g.ann = rw z (r x i).low in
          let w : owed shapes (forget position g) p ≡ some (node f us) = ap (owed shapes (forget position g)) z ∙ (r x i).is ∙ ap some eu in
          record { low = rw eo (≼_snoc ((1 + c) ∷ []) low); is = ap (owed shapes (forget position g)) eo ∙ owed_child g p f c us o.pat low w nu }
      go x i false e (there x7) = elim x7 [ ]

  lifted_right : (c : Pos) (g : Goal Ob) → g.ann ≼ c → Right shapes g → Right shapes (lift_goal (paper shapes) c g)
  lifted_right c g up r o m = on_map ((paper shapes).lifted c) g.obs m λ x i d. rw d (go x (r x i))
    where
      go : (x : Ob) → RightOb shapes g x → RightOb shapes (lift_goal (paper shapes) c g) (record { pat = x.pat; pos = strip c x.pos })
      go x h = record {
        low = strip_below c x.pos g.ann h.low up;
        is = ap (λ q. bind (get_elem? shapes g.shape) (λ z. sub z q)) (strip_strip c g.ann x.pos up h.low) ∙ h.is;
      }

  alike_same : (g g' : Goal Ob) → Right shapes g → Right shapes g' → g.shape ≡ g'.shape → g.ann ≡ g'.ann
      → (o x : Ob) → o ∈ g.obs → x ∈ g'.obs → (same o.pos x.pos && same_term o.pat x.pat) ≡ same o.pos x.pos
  alike_same g g' rg rg' es ea o x i j = go (same o.pos x.pos) refl
    where
      pats : o.pos ≡ x.pos → o.pat ≡ x.pat
      pats d =
          let e : owed shapes (forget position g) o.pos ≡ owed shapes (forget position g') x.pos = rw (es, ea, d) in
          let z : some o.pat ≡ some x.pat = sym (rg o i).is ∙ e ∙ (rg' x j).is in
          cc

      go : (b : Bool) → same o.pos x.pos ≡ b → (b && same_term o.pat x.pat) ≡ b
      go true d = rw (pats (same_is o.pos x.pos d)) (same_term_refl x.pat)
      go false d = refl

  pub carries : Carries (paper shapes) (bare shapes) position (Right shapes)
  carries = record {
    at = λ o. refl;
    fresh = λ p. freshes_from p 0 shapes;
    expects = expects_same;
    reduce = reduce_same;
    lifted = λ c o. refl;
    alike = alike_same;
    fresh_right = fresh_right shapes;
    reduced_right = reduced_right;
    lifted_right = lifted_right;
  }

pub same_plan : (ar : List ℕ) (shapes : List Term) (n room : ℕ)
    → planned (construction (paper shapes)) ar n room ≡ planned (construction (bare shapes)) ar n room
same_plan ar shapes n room = plan_same (paper shapes) (bare shapes) position (Right shapes) (carries shapes) ar n room
