-- Node r of a term: where it stands in the preorder lists.
use mathlib.Core.Path.{◌≡◌, refl, ap, ap₂, sym, ◌∙◌}
use mathlib.Core.List.{List, [], ◌∷◌, ◌++◌, map, append_assoc, append-nil}
use mathlib.Core.Bool.{false}
use mathlib.Core.Option.{some}
use mathlib.Core.Logic.{⊎_elim}
use Prim.Native.Nat.{ℕ, zero, suc, ◌+◌, ◌-◌, ◌*◌, ◌^◌, ◌≤◌, ◌<◌}
use native.Mathlib.Omega.{arith}
use native.Mathlib.Nat.{add-zero, add_assoc, zero-mul}
use native.Mathlib.Decide.{dec_lt}
use borrow.Author.Tests.{eq-eqb, ne_eqb}
use lib.ListN.{length, get_or, length-append, length-map, get_or-append}
use lib.Seq.{get_or-append-add}
use Rattle.kinds.proofs.Members.{∈_append, on_map}
use Rattle.kinds.specs.Members.{◌∈◌, here, there}
use Rattle.kinds.proofs.ListLaws.{map_append, map_map}
use Rattle.kinds.specs.Lists.{bind, same}
use Rattle.kinds.specs.Positions.{Pos}
use Rattle.decoding.specs.Decoding.{roots, kid_masks, kid_maskss}
use Rattle.term.specs.Places.{nth, sub, dom, doms}
use Rattle.term.specs.Terms.{Term, blank, node, Terms, tnil, tcons, span, spans, flatten, flattens}
use Rattle.term.proofs.Subterms.{length_dom}
use Rattle.term.proofs.Sizes.{length_flatten}

abbrev pub head_word : Term → ℕ
head_word (blank w) = w
head_word (node f ts) = f

abbrev pub kids_in : Term → Terms
kids_in (blank w) = tnil
kids_in (node f ts) = ts

map_id : (xs : List Pos) → map (λ q. [] ++ q) xs ≡ xs
map_id [] = refl
map_id (x ∷ xs) = ap (λ ys. x ∷ ys) (map_id xs)

mutual
  pub length_kids : (b : ℕ) (t : Term) → length (kid_masks b t) ≡ span t
  length_kids b (blank w) = refl
  length_kids b (node f ts) = ap suc (length_kidss (suc b) ts)

  pub length_kidss : (b : ℕ) (ts : Terms) → length (kid_maskss b ts) ≡ spans ts
  length_kidss b tnil = refl
  length_kidss b (tcons t ts) =
      length-append (kid_masks b t) (kid_maskss (b + span t) ts) ∙ ap₂ (λ x y. x + y) (length_kids b t) (length_kidss (b + span t) ts)

-- an earlier child's positions
pub doms_later : (ts : Terms) (i k : ℕ) (p q : Pos) → k < i → q ∈ doms ts i → same (k ∷ p) q ≡ false
doms_later tnil i k p q h m = elim m [ ]
doms_later (tcons t ts) i k p q h m =
    ⊎_elim
    (λ (n : q ∈ map (λ r. i ∷ r) (dom t)). on_map (λ r. i ∷ r) (dom t) n (λ r j e. rw (e, ne_eqb k i (λ z. omega arith)) refl))
    (λ (n : q ∈ doms ts (suc i)). doms_later ts (suc i) k p q (omega arith) n)
    (∈_append (map (λ r. i ∷ r) (dom t)) m)

pub record Node (t : Term) (r : ℕ) : Type 0 where
  pub at : Pos
  pub under : Term
  pub left : List Pos
  pub right : List Pos
  pub split : dom t ≡ left ++ (map (λ q. at ++ q) (dom under) ++ right)
  pub count : length left ≡ r
  pub is : sub t at ≡ some under
  pub word : get_or (flatten t) r 0 ≡ head_word under
  pub mask : (b : ℕ) → get_or (kid_masks b t) r 0 ≡ roots (kids_in under) * 2 ^ suc (b + r)
  pub not_left : (q : Pos) → q ∈ left → same at q ≡ false
  pub not_right : (q : Pos) → q ∈ right → same at q ≡ false
  pub inside : r + span under ≤ span t

pub record NodeIn (ts : Terms) (i r : ℕ) : Type 0 where
  pub num : ℕ
  pub n : ℕ
  pub num_is : num ≡ i + n
  pub at : Pos
  pub under : Term
  pub left : List Pos
  pub right : List Pos
  pub split : doms ts i ≡ left ++ (map (λ q. num ∷ (at ++ q)) (dom under) ++ right)
  pub count : length left ≡ r
  pub is : bind (nth ts n) (λ u. sub u at) ≡ some under
  pub word : get_or (flattens ts) r 0 ≡ head_word under
  pub mask : (b : ℕ) → get_or (kid_maskss b ts) r 0 ≡ roots (kids_in under) * 2 ^ suc (b + r)
  pub not_left : (q : Pos) → q ∈ left → same (num ∷ at) q ≡ false
  pub not_right : (q : Pos) → q ∈ right → same (num ∷ at) q ≡ false
  pub inside : r + span under ≤ spans ts

-- the first of some terms
in_first : (t : Term) (ts : Terms) (i r : ℕ) → r < span t → Node t r → NodeIn (tcons t ts) i r
in_first t ts i r h o = record {
  num = i;
  n = 0;
  num_is = omega arith;
  at = o.at;
  under = o.under;
  left = map (λ p. i ∷ p) o.left;
  right = map (λ p. i ∷ p) o.right ++ doms ts (suc i);
  split =
      ap (λ ps. map (λ p. i ∷ p) ps ++ doms ts (suc i)) o.split
      ∙ ap (λ ps. ps ++ doms ts (suc i)) (map_append (λ p. i ∷ p) o.left (map (λ q. o.at ++ q) (dom o.under) ++ o.right))
      ∙ append_assoc (map (λ p. i ∷ p) o.left) _ (doms ts (suc i))
      ∙ ap (λ ps. map (λ p. i ∷ p) o.left ++ (ps ++ doms ts (suc i)))
      (map_append (λ p. i ∷ p) (map (λ q. o.at ++ q) (dom o.under)) o.right)
      ∙ ap (λ ps. map (λ p. i ∷ p) o.left ++ ps)
      (append_assoc (map (λ p. i ∷ p) (map (λ q. o.at ++ q) (dom o.under))) (map (λ p. i ∷ p) o.right) (doms ts (suc i)))
      ∙ ap (λ ps. map (λ p. i ∷ p) o.left ++ (ps ++ (map (λ p. i ∷ p) o.right ++ doms ts (suc i))))
      (map_map (λ p. i ∷ p) (λ q. o.at ++ q) (dom o.under));
  count = length-map o.left (λ p. i ∷ p) ∙ o.count;
  is = o.is;
  word = get_or-append (flatten t) (flattens ts) 0 r (rw (length_flatten t) h) ∙ o.word;
  mask = λ b. get_or-append (kid_masks b t) (kid_maskss (b + span t) ts) 0 r (rw (length_kids b t) h) ∙ o.mask b;
  not_left = λ q m. on_map (λ p. i ∷ p) o.left m (λ p j e. rw (e, eq-eqb i i refl) (o.not_left p j));
  not_right = λ q m. ⊎_elim
      (λ (k : q ∈ map (λ p. i ∷ p) o.right). on_map (λ p. i ∷ p) o.right k (λ p j e. rw (e, eq-eqb i i refl) (o.not_right p j)))
      (λ (k : q ∈ doms ts (suc i)). doms_later ts (suc i) i o.at q (omega arith) k)
      (∈_append (map (λ p. i ∷ p) o.right) m);
  inside = let z = o.inside in omega arith;
}

in_rest : (t : Term) (ts : Terms) (i r d : ℕ) → r ≡ span t + d → NodeIn ts (suc i) d → NodeIn (tcons t ts) i r
in_rest t ts i r d e o = record {
  num = o.num;
  n = suc o.n;
  num_is = let z = o.num_is in omega arith;
  at = o.at;
  under = o.under;
  left = map (λ p. i ∷ p) (dom t) ++ o.left;
  right = o.right;
  split =
      ap (λ ps. map (λ p. i ∷ p) (dom t) ++ ps) o.split
      ∙ sym (append_assoc (map (λ p. i ∷ p) (dom t)) o.left (map (λ q. o.num ∷ (o.at ++ q)) (dom o.under) ++ o.right));
  count = length-append (map (λ p. i ∷ p) (dom t)) o.left ∙ ap₂ (λ a b. a + b) (length-map (dom t) (λ p. i ∷ p) ∙ length_dom t) o.count ∙ sym e;
  is = o.is;
  word = ap (λ k. get_or (flatten t ++ flattens ts) k 0) (e ∙ ap (λ k. k + d) (sym (length_flatten t))) ∙ get_or-append-add (flatten t) (flattens ts) d 0
      ∙ o.word;
  mask = λ b.
      ap (λ k. get_or (kid_masks b t ++ kid_maskss (b + span t) ts) k 0) (e ∙ ap (λ k. k + d) (sym (length_kids b t)))
      ∙ get_or-append-add (kid_masks b t) (kid_maskss (b + span t) ts) d 0
      ∙ o.mask (b + span t)
      ∙ ap (λ k. roots (kids_in o.under) * 2 ^ suc k) (add_assoc b (span t) d ∙ ap (λ k. b + k) (sym e));
  not_left = λ q m. ⊎_elim
      (λ (k : q ∈ map (λ p. i ∷ p) (dom t)). on_map (λ p. i ∷ p) (dom t) k
      (λ p j z. let w = o.num_is in rw (z, ne_eqb o.num i (λ v. omega arith)) refl))
      (λ (k : q ∈ o.left). o.not_left q k)
      (∈_append (map (λ p. i ∷ p) (dom t)) m);
  not_right = o.not_right;
  inside = let z = o.inside in omega arith;
}

in_node : (f : ℕ) (ts : Terms) (r : ℕ) → NodeIn ts 1 r → Node (node f ts) (suc r)
in_node f ts r o = record {
  at = o.num ∷ o.at;
  under = o.under;
  left = [] ∷ o.left;
  right = o.right;
  split = ap (λ ps. [] ∷ ps) o.split;
  count = ap suc o.count;
  is = let z = o.num_is in let e : o.num ≡ suc o.n = omega arith in rw e o.is;
  word = o.word;
  mask = λ b. o.mask (suc b) ∙ ap (λ k. roots (kids_in o.under) * 2 ^ suc k) (let e : suc b + r ≡ b + suc r = omega arith in e);
  not_left = go;
  not_right = o.not_right;
  inside = let z = o.inside in omega arith;
}
  where
    go : (q : Pos) → q ∈ ([] ∷ o.left) → same (o.num ∷ o.at) q ≡ false
    go q (here e) = rw e refl
    go q (there m) = o.not_left q m

root_node : (t : Term) (b : ℕ) → get_or (kid_masks b t) 0 0 ≡ roots (kids_in t) * 2 ^ suc (b + 0)
root_node (blank w) b = sym (zero-mul (2 ^ suc (b + 0)))
root_node (node f ts) b = ap (λ k. roots ts * 2 ^ suc k) (sym (add-zero b))

root_word : (t : Term) → get_or (flatten t) 0 0 ≡ head_word t
root_word (blank w) = refl
root_word (node f ts) = refl

nothing_in {ℓ} : {C : Type ℓ} {q : Pos} → q ∈ [] → C
nothing_in m = elim m [ ]

at_root : (t : Term) → Node t 0
at_root t = record {
  at = [];
  under = t;
  left = [];
  right = [];
  split = sym (append-nil (map (λ q. [] ++ q) (dom t)) ∙ map_id (dom t));
  count = refl;
  is = refl;
  word = root_word t;
  mask = root_node t;
  not_left = λ q m. nothing_in m;
  not_right = λ q m. nothing_in m;
  inside = omega arith;
}

mutual
  pub node_of_lem : (t : Term) (r : ℕ) → r < span t → Node t r
  node_of_lem (blank w) zero h = at_root (blank w)
  node_of_lem (blank w) (suc r) h = absurd (omega arith)
  node_of_lem (node f ts) zero h = at_root (node f ts)
  node_of_lem (node f ts) (suc r) h = in_node f ts r (nodes_of_lem ts 1 r (omega arith))

  pub nodes_of_lem : (ts : Terms) (i r : ℕ) → r < spans ts → NodeIn ts i r
  nodes_of_lem tnil i r h = absurd (omega arith)
  nodes_of_lem (tcons t ts) i r h = go (dec_lt r (span t)) (λ h'. node_of_lem t r h') (λ h'. nodes_of_lem ts (suc i) (r - span t) h')
    where
      go : Dec (r < span t) → (r < span t → Node t r) → (r - span t < spans ts → NodeIn ts (suc i) (r - span t)) → NodeIn (tcons t ts) i r
      go (yes l) f g = in_first t ts i r l (f l)
      go (no l) f g = in_rest t ts i r (r - span t) (omega arith) (g (omega arith))
