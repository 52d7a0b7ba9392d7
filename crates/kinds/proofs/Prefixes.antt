-- Positions below one another.
--   _≼_ ≼_refl ≼_trans ≼_snoc ≼_cons ≼_length ≼_same ≼_antisym   p ≼ q: p is q, or is under q
--   comparable below_cases snoc_not                     two above one are comparable; q is p or under a child of p
--   common_left common_right common_least                     the greatest common prefix is the least position above both
--   strip_append strip_join strip_self strip_below strip_back strip_more strip_strip   what is left below a prefix
--   prefix_is is_prefix below_prefix prefix_append   above, as a test
use mathlib.Core.Path.{◌≡◌, refl, ap, sym, ◌∙◌}
use mathlib.Core.Bool.{Bool, true, false, cond, false≢true}
use mathlib.Core.List.{[], ◌∷◌, ◌++◌, append_assoc, append-nil}
use mathlib.Core.Logic.{◌⊎◌, inl, inr}
use Prim.Native.Nat.{ℕ, ◌≤◌}
use native.Mathlib.Omega.{arith}
use lib.Dec.{eqb}
use lib.ListN.{length, length-append}
use Rattle.kinds.specs.Positions.{Pos, prefix, common_prefix, strip}
use Rattle.kinds.proofs.Bools.{and_l, and_r, both, eqb_is, is_eqb}

pub record ◌≼◌ (p q : Pos) : Type 0 where
  pub by : Pos
  pub eq : p ≡ q ++ by

infix 40 ◌≼◌
pub ≼_refl : (p : Pos) → p ≼ p
≼_refl p = record { by = []; eq = sym (append-nil p) }

pub ≼_trans : {p q r : Pos} → p ≼ q → q ≼ r → p ≼ r
≼_trans a b = record { by = b.by ++ a.by; eq = rw (a.eq, b.eq, append_assoc) }

pub ≼_snoc : {p q : Pos} (r : Pos) → p ≼ q → (p ++ r) ≼ q
≼_snoc r a = record { by = a.by ++ r; eq = rw (a.eq, append_assoc) }

pub ≼_cons : {i j : ℕ} {q r : Pos} → i ≡ j → q ≼ r → (j ∷ q) ≼ (i ∷ r)
≼_cons e h = record { by = h.by; eq = rw (e, ← h.eq) }

pub ≼_length : {p q : Pos} → p ≼ q → length q ≤ length p
≼_length {p} {q} h = rw (h.eq, length-append) (omega arith)

nil_of : (p : Pos) → length p ≡ 0 → p ≡ []
nil_of [] e = refl
nil_of (i ∷ p) e = absurd (omega arith)

-- below and no longer: equal
pub ≼_same : {p q : Pos} → p ≼ q → length p ≤ length q → p ≡ q
≼_same {p} {q} h l = h.eq ∙ rw (nil_of h.by (omega (arith, ap length h.eq, length-append q h.by)), append-nil)

pub ≼_antisym : {p q : Pos} → p ≼ q → q ≼ p → p ≡ q
≼_antisym a b = ≼_same a (≼_length b)

prefixes : (q r a b : Pos) → q ++ a ≡ r ++ b → (q ≼ r) ⊎ (r ≼ q)
prefixes [] r a b e = inr (record { by = r; eq = refl })
prefixes (i ∷ q) [] a b e = inl (record { by = i ∷ q; eq = refl })
prefixes (i ∷ q) (j ∷ r) a b e = go (prefixes q r a b (cc))
  where
    heads : i ≡ j
    heads = cc

    go : (q ≼ r) ⊎ (r ≼ q) → ((i ∷ q) ≼ (j ∷ r)) ⊎ ((j ∷ r) ≼ (i ∷ q))
    go (inl h) = inl (≼_cons (sym heads) h)
    go (inr h) = inr (≼_cons heads h)

pub comparable : {p q r : Pos} → p ≼ q → p ≼ r → (q ≼ r) ⊎ (r ≼ q)
comparable {p} {q} {r} a b = prefixes q r a.by b.by (sym a.eq ∙ b.eq)

-- a position below p is p, or below a child of p
pub below_cases : {q p : Pos} → q ≼ p → (q ≡ p) ⊎ ((i : ℕ) × (q ≼ (p ++ (i ∷ []))))
below_cases {q} {p} h = go h.by h.eq
  where
    go : (b : Pos) → q ≡ p ++ b → (q ≡ p) ⊎ ((i : ℕ) × (q ≼ (p ++ (i ∷ []))))
    go [] e = inl (e ∙ simp append-nil)
    go (i ∷ b) e = inr (i, record { by = b; eq = e ∙ simp append_assoc })

-- nothing is both at and right below
pub snoc_not : (p : Pos) (i : ℕ) → p ≼ (p ++ (i ∷ [])) → ⊥
snoc_not p i h = let l = rw length-append at (≼_length h) in omega arith

-- ---- join
pub common_left : (p q : Pos) → p ≼ common_prefix p q
common_left [] q = ≼_refl []
common_left (i ∷ p) [] = record { by = i ∷ p; eq = refl }
common_left (i ∷ p) (j ∷ q) = go (eqb i j) (common_left p q)
  where
    go : (b : Bool) → p ≼ common_prefix p q → (i ∷ p) ≼ cond b (i ∷ common_prefix p q) []
    go true h = ≼_cons refl h
    go false h = record { by = i ∷ p; eq = refl }

pub common_right : (p q : Pos) → q ≼ common_prefix p q
common_right [] q = record { by = q; eq = refl }
common_right (i ∷ p) [] = ≼_refl []
common_right (i ∷ p) (j ∷ q) = go (eqb i j) refl (common_right p q)
  where
    go : (b : Bool) → eqb i j ≡ b → q ≼ common_prefix p q → (j ∷ q) ≼ cond b (i ∷ common_prefix p q) []
    go true e h = ≼_cons (eqb_is i j e) h
    go false e h = record { by = j ∷ q; eq = refl }

pub common_least : (p q r : Pos) → p ≼ r → q ≼ r → common_prefix p q ≼ r
common_least p q [] a b = record { by = common_prefix p q; eq = refl }
common_least [] q (k ∷ r) a b = absurd (let z : length (k ∷ r) ≤ 0 = ≼_length a in omega arith)
common_least (i ∷ p) [] (k ∷ r) a b = absurd (let z : length (k ∷ r) ≤ 0 = ≼_length b in omega arith)
common_least (i ∷ p) (j ∷ q) (k ∷ r) a b =
    let ik : i ≡ k = cc in
    let jk : j ≡ k = cc in
    let ih : common_prefix p q ≼ r = common_least p q r (record { by = a.by; eq = cc }) (record { by = b.by; eq = cc }) in
    rw (is_eqb i j (ik ∙ sym jk)) (≼_cons (sym ik) ih)

-- ---- strip
pub strip_append : (c p : Pos) → strip c (c ++ p) ≡ p
strip_append [] p = refl
strip_append (i ∷ c) p = strip_append c p

pub strip_self : (c : Pos) → strip c c ≡ []
strip_self [] = refl
strip_self (i ∷ c) = strip_self c

pub strip_join : (c x : Pos) → x ≼ c → c ++ strip c x ≡ x
strip_join c x h = rw (h.eq, strip_append)

pub strip_below : (c p q : Pos) → p ≼ q → q ≼ c → strip c p ≼ strip c q
strip_below c p q a b = record { by = a.by; eq = rw (a.eq, b.eq, append_assoc, strip_append c b.by, strip_append c (b.by ++ a.by)) }

pub strip_back : (c p q : Pos) → p ≼ c → q ≼ c → strip c p ≼ strip c q → p ≼ q
strip_back c p q a b h = record { by = h.by; eq = a.eq ∙ rw (b.eq, append_assoc) (ap (λ r. c ++ r) tail) }
  where
    tail : a.by ≡ b.by ++ h.by
    tail = sym (strip_append c a.by) ∙ ap (strip c) (sym a.eq) ∙ h.eq ∙ rw (b.eq, strip_append)

pub strip_more : (c p r : Pos) → p ≼ c → strip c (p ++ r) ≡ strip c p ++ r
strip_more c p r h = rw (h.eq, append_assoc, strip_append c (h.by ++ r), strip_append c h.by)

pub strip_strip : (c p x : Pos) → p ≼ c → x ≼ p → strip (strip c p) (strip c x) ≡ strip p x
strip_strip c p x u v = rw (v.eq, strip_more c p v.by u, strip_append (strip c p) v.by, strip_append p v.by)

-- ---- as a test
pub prefix_is : (r q : Pos) → prefix r q ≡ true → q ≼ r
prefix_is [] q e = record { by = q; eq = refl }
prefix_is (i ∷ r) [] e = absurd (false≢true e)
prefix_is (i ∷ r) (j ∷ q) e = ≼_cons (eqb_is i j (and_l _ e)) (prefix_is r q (and_r (eqb i j) e))

is_prefix : (r b : Pos) → prefix r (r ++ b) ≡ true
is_prefix [] b = refl
is_prefix (i ∷ r) b = both (is_eqb i i refl) (is_prefix r b)

pub below_prefix : {q r : Pos} → q ≼ r → prefix r q ≡ true
below_prefix {q} {r} h = rw h.eq (is_prefix r h.by)

pub prefix_append : (a r q : Pos) → prefix (a ++ r) (a ++ q) ≡ prefix r q
prefix_append [] r q = refl
prefix_append (i ∷ a) r q = rw (is_eqb i i refl) (prefix_append a r q)
