-- Every folio has a file, and it opens.
--   words_bytes length_bytes length_body   the bytes of words, and of a folio's three sections
--   trailer_of_lem meaning_of          it passes 1 to 4, and its sections mean the folio
--   every_folio                        opening writes it to tables that have room
--   bound_bytes file_short             its bytes are bytes
use Rattle.std.specs.Prelude.{Ok}
use mathlib.Core.Path.{◌≡◌, refl, ap, ap₂, sym, ◌∙◌}
use mathlib.Core.List.{List, [], ◌∷◌, ◌++◌, append_assoc}
use mathlib.Core.Logic.{⊎_elim}
use Prim.Native.Nat.{ℕ, ◌+◌, ◌*◌, ◌-◌, ◌/◌, ◌%◌, ◌<◌, ◌≤◌}
use native.Mathlib.Omega.{arith}
use lib.ListN.{length, get_or, take, drop, length-append}
use lib.Seq.{take_at, drop_at, get_or-drop}
use Rattle.kinds.specs.Lists.{gather}
use Rattle.kinds.specs.Members.{here, there, Below}
use Rattle.kinds.proofs.Members.{∈_append, in_none}
use Rattle.term.specs.Terms.{Term, flatten, span}
use Rattle.term.proofs.Sizes.{length_flatten}
use Rattle.sections.specs.Bytes.{word_at, words_of}
use Rattle.sections.specs.Sections.{places, distances_of, trailer_of}
use Rattle.folio.specs.Opening.{Lent, Room, opened}
use Rattle.folio.specs.Files.{bytes_of, trailer, body, bound, file_of}
use Rattle.folio.specs.Folio as folio
use Rattle.folio.specs.Folio.{answered, Meaning}
use Rattle.term.specs.Admitted.{AreShapes}
use Rattle.sections.specs.declared.Places.{Places}
use Rattle.sections.proofs.LawsSections.{trailer_to, distances_at}
use Rattle.folio.proofs.Accepted.{made}

-- ---- bytes
pub words_bytes : (ws : List ℕ) → words_of (bytes_of ws) ≡ ws
unfolding words_of
words_bytes [] = refl
words_bytes (w ∷ ws) = let e : w % 256 + 256 * (w / 256) ≡ w = omega arith in ap₂ (λ (x : ℕ) (l : List ℕ). x ∷ l) e (words_bytes ws)

pub length_bytes : (ws : List ℕ) → length (bytes_of ws) ≡ 2 * length ws
length_bytes [] = refl
length_bytes (w ∷ ws) = let h = length_bytes ws in omega arith

-- ---- a trailer behind what it points back to
module _ (front : List ℕ) (a b c : ℕ) where
  behind : (i j : ℕ) → i ≡ length front + j → get_or (front ++ trailer a b c) i 0 ≡ get_or (trailer a b c) j 0
  behind i j e =
      ap (λ (n : ℕ). get_or (front ++ trailer a b c) n 0) e
      ∙ sym (get_or-drop (length front) (front ++ trailer a b c) j 0)
      ∙ ap (λ (l : List ℕ). get_or l j 0) (drop_at front (trailer a b c) (length front) refl)

  size : length (front ++ trailer a b c) ≡ length front + 8
  size = length-append front (trailer a b c)

  word : (i j x : ℕ) → i ≡ length front + j → get_or (trailer a b c) j 0 ≡ x % 256 → get_or (trailer a b c) (j + 1) 0 ≡ x / 256
      → x ≡ word_at (front ++ trailer a b c) i
  word i j x e l h =
      let p = behind i j e ∙ l in
      let q = behind (i + 1) (j + 1) (omega arith) ∙ h in
      omega (arith, p, q)

  pub trailer_at_lem : length front ≤ 8736 → a ≡ length front → b ≤ a → c ≤ b → b % 2 ≡ 0 → c % 2 ≡ 0
      → trailer_of (front ++ trailer a b c) ≡ Ok (places (length front - b) (length front - c) (length front))
  trailer_at_lem short ea ba cb eb ec =
      let n = size in
      trailer_to (front ++ trailer a b c) (omega arith) (omega arith) (behind (length (front ++ trailer a b c) - 2) 6 (omega arith))
      (behind (length (front ++ trailer a b c) - 1) 7 (omega arith))
      (word (length (front ++ trailer a b c) - 8) 0 a (omega arith) refl refl) (word (length (front ++ trailer a b c) - 6) 2 b (omega arith) refl refl)
      (word (length (front ++ trailer a b c) - 4) 4 c (omega arith) refl refl)
      ∙ ap (λ (e : ℕ). distances_of e a b c) (let z : length (front ++ trailer a b c) - 8 ≡ length front = omega arith in z)
      ∙ distances_at (length front) a b c ea ba cb eb ec

-- ---- a folio's file
pub length_body : (ar ws sc : List ℕ) → length (body ar ws sc) ≡ length ar + (2 * length ws + 2 * length sc)
length_body ar ws sc = length-append ar (bytes_of ws ++ bytes_of sc)
    ∙ ap (λ (n : ℕ). length ar + n) (length-append (bytes_of ws) (bytes_of sc) ∙ ap₂ (λ (m n : ℕ). m + n) (length_bytes ws) (length_bytes sc))

few_words : (ar : List ℕ) (ss : List Term) → AreShapes ar ss → length (gather flatten ss) ≤ 16 * length ss
few_words ar [] s = omega arith
few_words ar (t ∷ ss) s =
    let h = few_words ar ss (λ u m. s u (there m)) in
    let n = (s t (here refl)).small in
    omega (arith, h, n, length-append (flatten t) (gather flatten ss), length_flatten t)

module _ (ar : List ℕ) (ss : List Term) (t : Term) (f : folio.Folio ar ss t) where
  abbrev ws : List ℕ
  ws = gather flatten ss

  abbrev sc : List ℕ
  sc = flatten t

  abbrev rest : List ℕ
  rest = trailer (length (body ar ws sc)) (2 * length ws + 2 * length sc) (2 * length sc)

  abbrev pub at : Places
  at = places (length ar) (length ar + 2 * length ws) (length ar + (2 * length ws + 2 * length sc))

  pub trailer_of_lem : trailer_of (file_of ar ss t) ≡ Ok at
  trailer_of_lem =
      let l = length_body ar ws sc in
      let w = few_words ar ss f.limits.are_shapes in
      let n = f.is_score.small in
      let m = length_flatten t in
      let k = f.limits.symbols.few_symbols in
      let j = f.limits.few_shapes in
      let x : length (body ar ws sc) - (2 * length ws + 2 * length sc) ≡ length ar = omega arith in
      let y : length (body ar ws sc) - 2 * length sc ≡ length ar + 2 * length ws = omega arith in
      trailer_at_lem (body ar ws sc) (length (body ar ws sc)) (2 * length ws + 2 * length sc) (2 * length sc) (omega arith) refl (omega arith)
      (omega arith) (omega arith) (omega arith)
      ∙ ap₂ (λ (u v : ℕ). Ok (places u v (length (body ar ws sc)))) x y
      ∙ ap (λ (v : ℕ). Ok (places (length ar) (length ar + 2 * length ws) v)) l

  parts : file_of ar ss t ≡ ar ++ (bytes_of ws ++ (bytes_of sc ++ rest))
  parts = append_assoc ar (bytes_of ws ++ bytes_of sc) rest ∙ ap (λ (l : List ℕ). ar ++ l) (append_assoc (bytes_of ws) (bytes_of sc) rest)

  pub symbols_part : take (length ar) (file_of ar ss t) ≡ ar
  symbols_part = ap (take (length ar)) parts ∙ take_at ar (bytes_of ws ++ (bytes_of sc ++ rest)) (length ar) refl

  shapes_part : take (length ar + 2 * length ws - length ar) (drop (length ar) (file_of ar ss t)) ≡ bytes_of ws
  shapes_part =
      let z : length ar + 2 * length ws - length ar ≡ 2 * length ws = omega arith in
      ap₂ (λ (n : ℕ) (l : List ℕ). take n (drop (length ar) l)) z parts
      ∙ ap (take (2 * length ws)) (drop_at ar (bytes_of ws ++ (bytes_of sc ++ rest)) (length ar) refl)
      ∙ take_at (bytes_of ws) (bytes_of sc ++ rest) (2 * length ws) (length_bytes ws)

  score_part_lem : take (length ar + (2 * length ws + 2 * length sc) - (length ar + 2 * length ws))
      (drop (length ar + 2 * length ws) (file_of ar ss t)) ≡ bytes_of sc
  score_part_lem =
      let z : length ar + (2 * length ws + 2 * length sc) - (length ar + 2 * length ws) ≡ 2 * length sc = omega arith in
      ap₂ (λ (n : ℕ) (l : List ℕ). take n (drop (length ar + 2 * length ws) l)) z (parts ∙ sym (append_assoc ar (bytes_of ws) (bytes_of sc ++ rest)))
      ∙ ap (take (2 * length sc)) (drop_at (ar ++ bytes_of ws) (bytes_of sc ++ rest) (length ar + 2 * length ws)
      (length-append ar (bytes_of ws) ∙ ap (λ (n : ℕ). length ar + n) (length_bytes ws)))
      ∙ take_at (bytes_of sc) rest (2 * length sc) (length_bytes sc)

  pub meaning_of : Meaning (file_of ar ss t) at
  meaning_of = record {
    shapes = ss;
    score = t;
    folio = rw symbols_part f;
    shape_words_lem = ap words_of shapes_part ∙ words_bytes ws;
    score_words = ap words_of score_part_lem ∙ words_bytes sc;
  }

  pub every_folio : (l : Lent) → Room l (length ws) (length ss) (span t) → opened (file_of ar ss t) l ≡ answered ar ss t l
  unfolding meaning_of
  every_folio l r = made (file_of ar ss t) at meaning_of l trailer_of_lem r ∙ ap (λ (x : List ℕ). answered x ss t l) symbols_part

-- ---- its bytes
bytes_below : (ws : List ℕ) → Below 65536 ws → Below 256 (bytes_of ws)
bytes_below [] h v m = in_none m
bytes_below (w ∷ ws) h v (here e) = omega (arith, e)
bytes_below (w ∷ ws) h v (there (here e)) = omega (arith, e, h w (here refl))
bytes_below (w ∷ ws) h v (there (there m)) = bytes_below ws (λ u k. h u (there k)) v m

below_append : {n : ℕ} (a b : List ℕ) → Below n a → Below n b → Below n (a ++ b)
below_append a b h k v m = ⊎_elim (h v) (k v) (∈_append a m)

pub bound_bytes : (ar ws sc : List ℕ) → Below 256 ar → Below 65536 ws → Below 65536 sc → length (body ar ws sc) < 65536 → Below 256 (bound ar ws sc)
bound_bytes ar ws sc ha hw hs short =
    below_append (body ar ws sc) (trailer (length (body ar ws sc)) (2 * length ws + 2 * length sc) (2 * length sc))
    (below_append ar (bytes_of ws ++ bytes_of sc) ha (below_append (bytes_of ws) (bytes_of sc) (bytes_below ws hw) (bytes_below sc hs)))
    (below_append (bytes_of three) (83 ∷ 67 ∷ []) (bytes_below three three_below) last)
  where
    three : List ℕ
    three = length (body ar ws sc) ∷ (2 * length ws + 2 * length sc) ∷ (2 * length sc) ∷ []

    three_below : Below 65536 three
    three_below v (here e) = omega (arith, e, short)
    three_below v (there (here e)) = omega (arith, e, short, length_body ar ws sc)
    three_below v (there (there (here e))) = omega (arith, e, short, length_body ar ws sc)
    three_below v (there (there (there m))) = in_none m

    last : Below 256 (83 ∷ 67 ∷ [])
    last v (here e) = omega (arith, e)
    last v (there (here e)) = omega (arith, e)
    last v (there (there m)) = in_none m

pub file_short : (ar : List ℕ) (ss : List Term) (t : Term) → folio.Folio ar ss t → length (body ar (gather flatten ss) (flatten t)) < 65536
file_short ar ss t f =
    let l = length_body ar (gather flatten ss) (flatten t) in
    let w = few_words ar ss f.limits.are_shapes in
    omega (arith, l, w, f.is_score.small, length_flatten t, f.limits.symbols.few_symbols, f.limits.few_shapes)
