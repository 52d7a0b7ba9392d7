-- The waiting words after an item is taken and others are appended.
use mathlib.Core.Path.{◌≡◌, ap, ap₂, sym, ◌∙◌}
use mathlib.Core.List.{List, ◌++◌}
use Prim.Native.Nat.{ℕ, suc, ◌+◌, ◌*◌, ◌-◌, ◌<◌, ◌≤◌}
use native.Mathlib.Omega.{arith}
use lib.ListN.{length, take, drop, length-append, length-drop}
use lib.Seq.{sets, sets-eq, length-take-le}
use Rattle.kinds.specs.Lists.{onto}
use Rattle.kinds.proofs.ListLaws.{sets_append}
use Rattle.readers.specs.PlanParts.{pair_words}
use Rattle.readers.specs.BlockWords.{pair_list}
use Rattle.walk.specs.Stepping.{onward}
use Rattle.queue.specs.Targets.{closed_up}
use Rattle.readers.proofs.LawsPairs.{pair_list_take, pair_list_drop, pair_words_append, pair_words_length, pair_words_list}

pub onward_length : (i n : ℕ) (its ns : List (ℕ × ℕ)) → i < n → length its ≡ n → length (onward i its ns) ≡ n - 1 + length ns
onward_length i n its ns h e =
    let a = length-append (take i its) (drop (suc i) its ++ ns) in
    let b = length-append (drop (suc i) its) ns in
    let c = length-take-le i its (omega arith) in
    let d = length-drop (suc i) its in
    omega arith

module _ (i n : ℕ) (items : List ℕ) (ns : List (ℕ × ℕ)) where
  pub onward_words : i < n → 2 * n ≤ length items → 2 * (n - 1 + length ns) ≤ length items
      → onto (pair_words (onward i (pair_list items 0 n) ns)) items ≡ sets (closed_up items (2 * i) (2 * n)) (2 * n - 2) (pair_words ns)
  onward_words h g r =
      let M : List ℕ = take (2 * n - (2 * i + 2)) (drop (2 * i + 2) items) in
      let N = pair_words ns in
      let long = pair_words_length ns in
      let fm : length M ≡ 2 * n - (2 * i + 2) =
      length-take-le (2 * n - (2 * i + 2)) (drop (2 * i + 2) items) (let k = length-drop (2 * i + 2) items in omega arith) in
      let first : pair_words (take i (pair_list items 0 n)) ≡ take (2 * i) items =
      ap pair_words (pair_list_take i n items 0 (omega arith)) ∙ pair_words_list i items 0 (omega arith) in
      let e₁ : 2 * (n - suc i) ≡ 2 * n - (2 * i + 2) = omega arith in
      let e₂ : 0 + 2 * suc i ≡ 2 * i + 2 = omega arith in
      let mid : pair_words (drop (suc i) (pair_list items 0 n)) ≡ M =
      ap pair_words (pair_list_drop (suc i) n items 0 (omega arith)) ∙ pair_words_list (n - suc i) items (0 + 2 * suc i) (omega arith)
      ∙ ap₂ (λ (k m : ℕ). take k (drop m items)) e₁ e₂ in
      let words : pair_words (onward i (pair_list items 0 n) ns) ≡ take (2 * i) items ++ (M ++ N) =
      pair_words_append (take i (pair_list items 0 n)) (drop (suc i) (pair_list items 0 n) ++ ns)
      ∙ ap₂ (λ (a c : List ℕ). a ++ c) first (pair_words_append (drop (suc i) (pair_list items 0 n)) ns ∙ ap (λ (a : List ℕ). a ++ N) mid) in
      let ft : length (take (2 * i) items) ≡ 2 * i = length-take-le (2 * i) items (omega arith) in
      let fl = length-append M N in
      let long-all : length (take (2 * i) items ++ (M ++ N)) ≡ 2 * i + length (M ++ N) =
      length-append (take (2 * i) items) (M ++ N) ∙ ap (λ (k : ℕ). k + length (M ++ N)) ft in
      let seam : 2 * i + length M ≡ 2 * n - 2 = omega arith in
      ap (λ (l : List ℕ). onto l items) words
      ∙ ap (λ (k : ℕ). (take (2 * i) items ++ (M ++ N)) ++ drop k items) long-all
      ∙ sym (sets-eq (M ++ N) items (2 * i) (omega arith))
      ∙ sets_append items (2 * i) M N
      ∙ ap (λ (k : ℕ). sets (sets items (2 * i) M) k N) seam
