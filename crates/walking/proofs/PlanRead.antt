-- The words of a plan, read back with any words behind them; and what a plan is planned from.
--   counts_read label_read block_read   header, labels and blocks
--   plan_reads                          a plan's words and any behind them read as that plan
--   on_planned                          the states and blocks that a plan's words are of
use mathlib.Core.Path.{◌≡◌, refl, ap, sym, ◌∙◌}
use mathlib.Core.Bool.{Bool, true, false, cond, ◌||◌}
use mathlib.Core.List.{List, [], ◌∷◌, ◌++◌, map, append_assoc}
use mathlib.Core.Option.{some}
use Prim.Native.Nat.{ℕ, zero, suc, ◌+◌, ◌*◌, ◌<◌, ◌≤◌}
use native.Mathlib.Omega.{arith}
use native.Mathlib.Nat.{add-zero, add_assoc}
use lib.Dec.{ltb}
use lib.ListN.{length, get_or, get_elem?, drop, length-append, length-map}
use lib.Seq.{drop-append-add, get_or-append-add}
use Rattle.kinds.specs.Lists.{gather, concat}
use Rattle.kinds.specs.Positions.{code}
use Rattle.kinds.proofs.Bools.{both, is_ltb, is_leb}
use Rattle.kinds.proofs.Options.{none_not}
use Rattle.kinds.proofs.Places.{at_below, at_left, at_map, get_elem_some}
use Rattle.automaton.specs.Exploring.{Construction, Block, Made, refused, made, explored}
use Rattle.automaton.specs.PlanWords.{block_words, starts_from, too_long, plan_of_lem, plan_words, to_plan, planned}
use Rattle.walking.specs.OneFolio.{out_pair, succ_pair, ReadsAs}
use Rattle.readers.specs.PlanParts.{counts_good, pairs, counted_pairs, block_at, label_word, block_of}

-- ---- a block at the head of the words
pairs_of : {A : Type 0} (F G : A → ℕ) (xs : List A) (r : List ℕ)
    → pairs (length xs) (gather (λ x. F x ∷ G x ∷ []) xs ++ r) ≡ some (map (λ x. (F x, G x)) xs, r)
unfolding pairs
pairs_of F G [] r = refl
pairs_of F G (x ∷ xs) r = rw (pairs_of F G xs r)

block_of_lem : (b : Block) (r : List ℕ) → block_at (block_words b ++ r) ≡ some (map out_pair b.out, map succ_pair b.succs)
unfolding block_at counted_pairs
block_of_lem b r =
    rw (
      append_assoc (gather (λ a. a.shape ∷ code a.at ∷ []) b.out) (length b.succs ∷ gather (λ x. x.to ∷ code x.by ∷ []) b.succs) r,
      pairs_of (λ a. a.shape) (λ a. code a.at) b.out (length b.succs ∷ gather (λ x. x.to ∷ code x.by ∷ []) b.succs ++ r),
      pairs_of (λ x. x.to) (λ x. code x.by) b.succs r,
    )

-- ---- where block j starts, and what stands there
record Starts (at : ℕ) (bw : List (List ℕ)) (behind : List ℕ) (j : ℕ) (b : List ℕ) : Type 0 where
  offset : ℕ
  start : (rest : List ℕ) → get_or (starts_from at bw ++ rest) j 0 ≡ at + offset
  after : List ℕ
  there : drop offset (concat bw ++ behind) ≡ b ++ after

starts : (bw : List (List ℕ)) (behind : List ℕ) (at j : ℕ) (b : List ℕ) → get_elem? bw j ≡ some b → Starts at bw behind j b
starts [] behind at j b e = none_not e
starts (w ∷ bw) behind at zero b e =
    let z : w ≡ b = cc in
    record {
      offset = 0;
      start = λ r. sym (add-zero at);
      after = concat bw ++ behind;
      there = append_assoc w (concat bw) behind ∙ ap (λ l. l ++ (concat bw ++ behind)) z;
    }
starts (w ∷ bw) behind at (suc j) b e =
    let s = starts bw behind (at + length w) j b e in
    record {
      offset = length w + s.offset;
      start = λ r. s.start r ∙ add_assoc at (length w) s.offset;
      after = s.after;
      there = ap (drop (length w + s.offset)) (append_assoc w (concat bw) behind) ∙ drop-append-add w (concat bw ++ behind) s.offset ∙ s.there;
    }

length_starts : (bw : List (List ℕ)) (at : ℕ) → length (starts_from at bw) ≡ length bw
length_starts [] at = refl
length_starts (w ∷ bw) at = ap suc (length_starts bw (at + length w))

-- words in front, then the starts, then the blocks, then any words
read_block : (H : List ℕ) (bw : List (List ℕ)) (behind : List ℕ) (at j : ℕ) (b : List ℕ) → at ≡ length H + length bw → get_elem? bw j ≡ some b
    → let ws = H ++ (starts_from at bw ++ (concat bw ++ behind)) in (r : List ℕ) × (drop (get_or ws (length H + j) 0) ws ≡ b ++ r)
read_block H bw behind at j b h e =
    let s = starts bw behind at j b e in
    let z : at + s.offset ≡ length H + (length (starts_from at bw) + s.offset) = omega (arith, length_starts bw at) in (
      s.after,
      rw (
        get_or-append-add H (starts_from at bw ++ (concat bw ++ behind)) j 0,
        s.start (concat bw ++ behind),
        z,
        drop-append-add H (starts_from at bw ++ (concat bw ++ behind)) (length (starts_from at bw) + s.offset),
        drop-append-add (starts_from at bw) (concat bw ++ behind) s.offset,
      ) s.there,
    )

module _ {S : Type 0} (C : Construction S) (k n : ℕ) (ss : List S) (bs : List Block) (behind : List ℕ) where
  abbrev words : List ℕ
  words = plan_words C k n ss bs ++ behind

  abbrev labels : List ℕ
  labels = map (λ s. code (C.label s)) ss

  abbrev begins : List ℕ
  begins = starts_from (4 + length ss + length ss * k) (map block_words bs)

  abbrev blocks : List ℕ
  blocks = concat (map block_words bs)

  pub counts_read : 1 ≤ length ss → length ss ≤ 128 → 1 ≤ k → k ≤ 32 → 1 ≤ n → n ≤ 16 → counts_good words ≡ true
  counts_read a b c d e f =
      both (is_leb 4 (length words) (omega arith))
      (both (both (is_ltb 0 (length ss) (omega arith)) (is_leb (length ss) 128 b))
      (both (both (is_ltb 0 k (omega arith)) (is_leb k 32 d)) (both (is_ltb 0 n (omega arith)) (is_leb n 16 f))))

  pub label_read : (s : ℕ) (st : S) → get_elem? ss s ≡ some st → label_word words (length ss) s ≡ some (code (C.label st))
  unfolding label_word
  label_read s st e =
      let four : 4 + s ≡ suc (suc (suc (suc s))) = omega arith in
      let l : get_elem? words (suc (suc (suc (suc s)))) ≡ some (code (C.label st)) =
      at_left (labels ++ (begins ++ blocks)) behind s (at_left labels (begins ++ blocks) s (at_map (λ x. code (C.label x)) ss s e)) in
      rw (is_ltb s (length ss) (at_below ss s e), four) l

  module _ (full : length bs ≡ length ss * k) where
    start_there : (j : ℕ) (b : Block) → get_elem? bs j ≡ some b → 4 + length ss + j < length words
    start_there j b e =
        let h = at_below bs j e in
        let m = length-map ss (λ s. code (C.label s)) in
        let l = length-map bs block_words in
        let q = length_starts (map block_words bs) (4 + length ss + length ss * k) in
        let a = length-append labels (begins ++ blocks) in
        let c = length-append begins blocks in
        let d = length-append (labels ++ (begins ++ blocks)) behind in
        omega arith

    block_there : (j : ℕ) (b : Block) → get_elem? bs j ≡ some b → (r : List ℕ) × (drop (get_or words (4 + length ss + j) 0) words ≡ block_words b ++ r)
    block_there j b e =
        rw (index, apart) (read_block H (map block_words bs) behind (4 + length ss + length ss * k) j (block_words b) whole (at_map block_words bs j e))
      where
        H : List ℕ
        H = length ss ∷ k ∷ n ∷ (4 + length ss + length ss * k + length (concat (map block_words bs))) ∷ map (λ s. code (C.label s)) ss

        apart : words ≡ H ++ (begins ++ (blocks ++ behind))
        apart = simp append_assoc

        index : 4 + length ss + j ≡ length H + j
        index = omega (arith, length-map ss (λ s. code (C.label s)))

        whole : 4 + length ss + length ss * k ≡ length H + length (map block_words bs)
        whole = omega (arith, length-map ss (λ s. code (C.label s)), length-map bs block_words)

    pub block_read : (s f : ℕ) (b : Block) → s < length ss → f < k → get_elem? bs (s * k + f) ≡ some b
        → block_of words (length ss) k s f ≡ some (map out_pair b.out, map succ_pair b.succs)
    unfolding block_of
    block_read s f b hs hf e =
        let w = block_there (s * k + f) b e in
        rw (is_ltb s (length ss) hs, is_ltb f k hf, get_elem_some words (4 + length ss + (s * k + f)) (start_there (s * k + f) b e))
        (ap block_at w.1 ∙ block_of_lem b w.0)

    pub plan_reads : 1 ≤ length ss → length ss ≤ 128 → 1 ≤ k → k ≤ 32 → 1 ≤ n → n ≤ 16 → ReadsAs C k n ss bs words
    plan_reads a b c d e f = record {
      counts_good_lem = counts_read a b c d e f;
      states_are = refl;
      symbols_are = refl;
      shapes_are = refl;
      label_read = label_read;
      block_read = block_read;
    }

-- ---- what is planned
pub on_planned {κ} : {Z : Type κ} {S : Type 0} (C : Construction S) (ar : List ℕ) (n room m : ℕ) (w : List ℕ) → planned C ar n room ≡ plan_of_lem m w
    → ((ss : List S) (bs : List Block) → explored C ar ≡ made ss bs → m ≡ length ss → w ≡ plan_words C (length ar) n ss bs → Z) → Z
on_planned {Z = Z} {S = S} C ar n room m w e k = go (explored C ar) refl e
  where
    fits : (ss : List S) (bs : List Block) (b : Bool) → explored C ar ≡ made ss bs
        → cond b too_long (plan_of_lem (length ss) (plan_words C (length ar) n ss bs)) ≡ plan_of_lem m w → Z
    fits ss bs true em d = let z : ◌≡◌ {A = ℕ} 0 1 = cc in absurd (omega arith)
    fits ss bs false em d =
        let a : m ≡ length ss = cc in
        let b : w ≡ plan_words C (length ar) n ss bs = cc in
        k ss bs em a b

    go : (x : Made S) → explored C ar ≡ x → to_plan C room (length ar) n x ≡ plan_of_lem m w → Z
    go (refused r p) em d = let z : ◌≡◌ {A = ℕ} 0 1 = cc in absurd (omega arith)
    go (made ss bs) em d = fits ss bs (ltb room (length (plan_words C (length ar) n ss bs)) || ltb 65535 (length (plan_words C (length ar) n ss bs))) em
        d
