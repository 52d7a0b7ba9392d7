-- Binding a folio's file.
--   stored_then                               two runs stored one behind the other
--   words_next words_end                      words one by one
--   trailer_stored                            the trailer, word by word
--   length_bound                              how many bytes
--   bound_counted body_stored bound_stored    the parts one behind the other
--   no_room bind_written                      no room for it, or the file
use Prim.Native.Nat.{ℕ, ◌+◌, ◌*◌, ◌<◌, ◌≤◌}
use mathlib.Core.Path.{◌≡◌, refl, ap, ap₂, sym, ◌∙◌}
use mathlib.Core.List.{List, [], ◌∷◌, ◌++◌}
use native.Mathlib.Omega.{arith}
use borrow.Author.Tests.{le-leb, lt-leb}
use lib.ListN.{length, get_or, drop, length-append}
use lib.Seq.{sets}
use Rattle.kinds.proofs.ListLaws.{sets_append, from, from_end, onto_sets}
use Rattle.folio.specs.Files.{bytes_of, trailer, body, bound}
use Rattle.folio.proofs.EveryFolio.{length_bytes, length_body}
use Rattle.binding.specs.Binding.{bind_out, bind_of}

-- ---- runs of stores
stored_then : (f : List ℕ) (at : ℕ) (xs ys : List ℕ) {f₁ f₂ : List ℕ} {n : ℕ} → f₁ ≡ sets f at xs → n ≡ at + length xs → f₂ ≡ sets f₁ n ys
    → f₂ ≡ sets f at (xs ++ ys)
stored_then f at xs ys e m d = d ∙ ap₂ (λ l k. sets l k ys) e m ∙ sym (sets_append f at xs ys)

pub words_next : (f ws : List ℕ) (here i : ℕ) {f₁ : List ℕ} {next : ℕ} → i < length ws → f₁ ≡ sets f here (bytes_of (get_or ws i 0 ∷ [])) → next ≡ here + 2
    → sets f here (bytes_of (drop i ws)) ≡ sets f₁ next (bytes_of (drop (i + 1) ws))
words_next f ws here i h e m =
    let rest = bytes_of (drop (i + 1) ws) in
    ap (λ l. sets f here (bytes_of l)) (from ws i h)
    ∙ sym (stored_then f here (bytes_of (get_or ws i 0 ∷ [])) rest e m refl)

pub words_end : (f ws : List ℕ) (here i : ℕ) → length ws ≤ i → sets f here (bytes_of (drop i ws)) ≡ f
words_end f ws here i h = ap (λ l. sets f here (bytes_of l)) (from_end ws i h)

pub trailer_stored : (f : List ℕ) (at a b c : ℕ) {f₁ f₂ f₃ f₄ : List ℕ} {second third end : ℕ}
    → f₁ ≡ sets f at (bytes_of (a ∷ [])) → second ≡ at + 2
    → f₂ ≡ sets f₁ second (bytes_of (b ∷ [])) → third ≡ second + 2
    → f₃ ≡ sets f₂ third (bytes_of (c ∷ [])) → end ≡ third + 2
    → f₄ ≡ sets f₃ end (83 ∷ 67 ∷ []) → f₄ ≡ sets f at (trailer a b c)
trailer_stored f at a b c e₁ m₁ e₂ m₂ e₃ m₃ e₄ =
    let two = stored_then f at (bytes_of (a ∷ [])) (bytes_of (b ∷ [])) e₁ m₁ e₂ in
    let three = stored_then f at (bytes_of (a ∷ b ∷ [])) (bytes_of (c ∷ [])) two (omega arith) e₃ in
    stored_then f at (bytes_of (a ∷ b ∷ c ∷ [])) (83 ∷ 67 ∷ []) three (omega arith) e₄

-- ---- how many bytes
module _ (ar ws sc : List ℕ) where
  length_bound : length (bound ar ws sc) ≡ length ar + (2 * length ws + 2 * length sc) + 8
  length_bound =
      length-append (body ar ws sc) (trailer (length (body ar ws sc)) (2 * length ws + 2 * length sc) (2 * length sc))
      ∙ ap (λ n. n + 8) (length_body ar ws sc)

  -- ---- the parts one behind the other
  pub bound_counted : {shapes nodes end n : ℕ} → shapes ≡ 0 + length ar → nodes ≡ shapes + 2 * length ws → end ≡ nodes + 2 * length sc → n ≡ end + 8
      → n ≡ length (bound ar ws sc)
  bound_counted m₁ m₂ m₃ m₄ = rw length_bound (omega arith)

  module _ (file : List ℕ) {f₁ f₂ f₃ : List ℕ} {shapes nodes : ℕ} (e₁ : f₁ ≡ sets file 0 ar) (m₁ : shapes ≡ 0 + length ar)
      (e₂ : f₂ ≡ sets f₁ shapes (bytes_of ws)) (m₂ : nodes ≡ shapes + 2 * length ws) (e₃ : f₃ ≡ sets f₂ nodes (bytes_of sc)) where
    body_stored : f₃ ≡ sets file 0 (body ar ws sc)
    body_stored =
        stored_then file 0 ar (bytes_of ws ++ bytes_of sc) e₁ m₁
        (stored_then f₁ shapes (bytes_of ws) (bytes_of sc) e₂ (m₂ ∙ ap (λ n. shapes + n) (sym (length_bytes ws))) e₃)

    pub bound_stored : {f₄ : List ℕ} {end : ℕ} → end ≡ nodes + 2 * length sc
        → f₄ ≡ sets f₃ end (trailer (length ar + (2 * length ws + 2 * length sc)) (2 * length ws + 2 * length sc) (2 * length sc))
        → f₄ ≡ sets file 0 (bound ar ws sc)
    bound_stored {f₄} {end} m₃ e₄ =
        let behind : end ≡ 0 + length (body ar ws sc) = rw (length_body ar ws sc) (omega arith) in
        let distances = ap (λ a. trailer a (2 * length ws + 2 * length sc) (2 * length sc)) (sym (length_body ar ws sc)) in
        stored_then file 0 (body ar ws sc) _ body_stored behind (e₄ ∙ ap (sets f₃ end) distances)

  -- ---- no room for it, or the file
  module _ (file : List ℕ) where
    module _ (a : length ar ≤ 32) (b : length ws ≤ 256) (c : length sc ≤ 4096) where
      pub no_room : length file < length ar + (2 * length ws + 2 * length sc) + 8 → bind_out 0 file ≡ bind_of ar ws sc file
      unfolding bind_of
      no_room h =
          let long : length file < length (bound ar ws sc) = rw length_bound h in
          rw (le-leb _ _ a, le-leb _ _ b, le-leb _ _ c, lt-leb (length (bound ar ws sc)) (length file) long)

      pub bind_written : {n : ℕ} {f : List ℕ} → length ar + (2 * length ws + 2 * length sc) + 8 ≤ length file
          → n ≡ length (bound ar ws sc) → f ≡ sets file 0 (bound ar ws sc) → bind_out n f ≡ bind_of ar ws sc file
      unfolding bind_of
      bind_written h m e =
          let fits : length (bound ar ws sc) ≤ length file = rw length_bound h in
          rw (le-leb _ _ a, le-leb _ _ b, le-leb _ _ c, le-leb (length (bound ar ws sc)) (length file) fits)
          (ap₂ bind_out m (e ∙ sym (onto_sets (bound ar ws sc) file fits)))
