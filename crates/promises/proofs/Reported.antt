-- The report of a finished walk is the one that matches alone say.
--   Right            marks that are set exactly where shapes match
--   found_matches    the matches that right marks hold are those of the shapes at the score's positions
--   matches_numbered each of these stands at the position of its node
--   right_report report_right   the text over right marks, where the tables are those of the terms
use Rattle.std.specs.Prelude.{Option}
use mathlib.Core.Path.{◌≡◌, refl, ap, ap₂, sym, ◌∙◌, subst}
use mathlib.Core.Bool.{Bool, true, false, cond}
use mathlib.Core.List.{List, [], ◌∷◌, ◌++◌, map, append-nil}
use mathlib.Core.Logic.{⊎_elim}
use mathlib.Core.Option
use mathlib.Core.Option.{some}
use Prim.Native.Nat.{ℕ, suc, ◌+◌, ◌-◌, ◌<◌, ◌≤◌}
use native.Mathlib.Omega.{arith}
use native.Mathlib.Nat.{add-zero, zero-add}
use native.Mathlib.Decide.{dec_lt}
use lib.ListN.{length, get_elem?, take, length-map}
use Rattle.kinds.specs.Lists.{gather, concat, map_at, range}
use Rattle.kinds.specs.Members.{◌∈◌, here, there}
use Rattle.kinds.specs.Positions.{Pos}
use Rattle.kinds.proofs.Bools.{false_true}
use Rattle.kinds.proofs.ListLaws.{map_append, gather_append, gather_map, gather_same, range_append}
use Rattle.kinds.proofs.Members.{∈_append, in_one, in_none, in_range}
use Rattle.kinds.proofs.Places.{on_map_at}
use Rattle.term.specs.Terms.{Term, span, depth, sizes}
use Rattle.term.specs.Places.{dom, number}
use Rattle.term.proofs.Numbers.{number_below, dom_number}
use Rattle.term.proofs.Sizes.{length_sizes}
use Rattle.term.proofs.Subterms.{length_dom}
use Rattle.counting.specs.Counting.{Match, match_at, found, found_in, total}
use Rattle.counting.proofs.FoundLaws.{one, found_one, found_at, found_nodes, in_found, total_found}
use Rattle.clashing.specs.Clashes.{clash_number, nodes_in, nodes_of}
use Rattle.clashing.specs.Strays.{IsMatch}
use Rattle.clashing.proofs.OneFolio.{match_of_lem, SaysOf}
use Rattle.report.specs.Paths.{path_of}
use Rattle.report.specs.Text.{match_line, line, text_of, first_line, lines, report}
use Rattle.promises.specs.Reported.{MatchIn, match_one, matches_at, matches_in, totals_in, report_in, totals_of}
use Rattle.promises.specs.Demand2.{Says}

-- ---- a list with numbers, and the numbers alone
listed : {A B C : Type 0} (h : B → C) (g : ℕ → A → List B) (f : ℕ → List C) (c : ℕ) (xs : List A)
    → ((i : ℕ) (a : A) → get_elem? xs i ≡ some a → map h (g (c + i) a) ≡ f (c + i)) → map h (concat (map_at g c xs)) ≡ gather f (range c (length xs))
listed h g f c [] e = refl
listed h g f c (x ∷ xs) e =
    map_append h (g c x) (concat (map_at g (suc c) xs))
    ∙ ap₂ ◌++◌ (rw add-zero at (e 0 x refl))
    (listed h g f (suc c) xs (λ i a m. let z : c + suc i ≡ suc c + i = omega arith in rw z at (e (suc i) a m)))

in_concat {κ} : {A : Type 0} {C : Type κ} (xss : List (List A)) {x : A} → x ∈ concat xss → ((xs : List A) → xs ∈ xss → x ∈ xs → C) → C
in_concat {A = A} {C = C} [] m k = elim m [ ]
in_concat (xs ∷ xss) m k = ⊎_elim (λ i. k xs (here refl) i) (λ i. in_concat xss i (λ ys a b. k ys (there a) b)) (∈_append xs m)

in_cond : {A : Type 0} (b : Bool) {x y : A} → x ∈ cond b (y ∷ []) [] → x ≡ y
in_cond true m = in_one m
in_cond false m = in_none m

gather_none : {A B : Type 0} (f : A → List B) (xs : List A) → ((x : A) → x ∈ xs → f x ≡ []) → gather f xs ≡ []
gather_none f [] e = refl
gather_none f (x ∷ xs) e = rw (e x (here refl), gather_none f xs (λ y m. e y (there m)))

-- ---- marks that are right
abbrev numbers : MatchIn → Match
numbers m = m.match

pub record Right (test : Term → Pos → Bool) (shapes : List Term) (t : Term) (ms : List ℕ) : Type 0 where
  pub long : length ms ≡ span t
  pub exactly : (j : ℕ) (ℓ : Term) → get_elem? shapes j ≡ some ℓ → (n : ℕ) (p : Pos) → number t p ≡ some n → found ms (match_at n j) ≡ test ℓ p
  pub no_other : (j n : ℕ) → n < span t → length shapes ≤ j → found ms (match_at n j) ≡ false

module _ (test : Term → Pos → Bool) (shapes : List Term) (t : Term) (ms : List ℕ) (right : Right test shapes t ms) (few : length shapes ≤ 16) where
  abbrev all : List MatchIn
  all = matches_in test shapes t

  found_here : (n : ℕ) (p : Pos) → number t p ≡ some n → map numbers (matches_at test shapes n p) ≡ found_at ms n
  found_here n p e =
      listed numbers (match_one test shapes n p) (found_one ms n) 0 shapes
      (λ j ℓ m. rw (zero-add j) (at (test ℓ p) j ∙ ap (λ b. one b (match_at n j)) (sym (right.exactly j ℓ m n p e))))
      ∙ sym (ap (gather (found_one ms n)) whole
      ∙ gather_append (found_one ms n) (range 0 (length shapes)) (range (0 + length shapes) (16 - length shapes))
      ∙ ap (λ l. gather (found_one ms n) (range 0 (length shapes)) ++ l) rest ∙ append-nil (gather (found_one ms n) (range 0 (length shapes))))
    where
      at : (b : Bool) (j : ℕ) → map numbers (cond b (record { place = p; match = match_at n j } ∷ []) []) ≡ one b (match_at n j)
      at true j = refl
      at false j = refl

      whole : range 0 16 ≡ range 0 (length shapes) ++ range (0 + length shapes) (16 - length shapes)
      whole = let z : 16 ≡ length shapes + (16 - length shapes) = omega (arith, few) in
          ap (range 0) z ∙ range_append 0 (length shapes) (16 - length shapes)

      rest : gather (found_one ms n) (range (0 + length shapes) (16 - length shapes)) ≡ []
      rest = gather_none (found_one ms n) _ λ j m.
          let b = in_range (16 - length shapes) (0 + length shapes) j m in
          ap (λ c. one c (match_at n j)) (right.no_other j n (number_below p t n e) (omega (arith, b.0)))

  pub found_matches : map numbers all ≡ found_in ms
  found_matches =
      listed numbers (matches_at test shapes) (found_at ms) 0 (dom t) (λ n p e. rw (zero-add n) (found_here n p (dom_number t n p e)))
      ∙ ap (λ n. gather (found_at ms) (range 0 n)) (length_dom t ∙ sym right.long) ∙ sym (found_nodes ms)

  pub matches_numbered : (m : MatchIn) → m ∈ all → number t m.place ≡ some m.match.node
  matches_numbered m i =
      in_concat (map_at (matches_at test shapes) 0 (dom t)) i λ l a b.
      on_map_at (matches_at test shapes) 0 (dom t) a λ n p e z.
      in_concat (map_at (match_one test shapes (0 + n) p) 0 shapes) (subst (λ k. m ∈ k) z b) λ l' a' b'.
      on_map_at (match_one test shapes (0 + n) p) 0 shapes a' λ j ℓ e' z'.
      let is : m ≡ record { place = p; match = match_at (0 + n) (0 + j) } = in_cond (test ℓ p) (subst (λ k. m ∈ k) z' b') in
      rw is (dom_number t n p e ∙ ap some (sym (zero-add n)))

  -- ---- what the report says of them
  total_is : total ms ≡ length all
  total_is = total_found ms ∙ ap length (sym found_matches) ∙ simp length-map

  -- each match that the marks hold is one
  is_match : Says test t → (m : Match) → m ∈ found_in ms → IsMatch shapes t m
  is_match says m i = go (dec_lt m.shape (length shapes))
    where
      f : (m.node < length ms) × (m.shape < 16) × (found ms m ≡ true)
      f = in_found ms m i

      h : m.node < span t
      h = omega (arith, f.0, right.long)

      go : Dec (m.shape < length shapes) → IsMatch shapes t m
      go (yes l) = match_of_lem shapes t m l h λ ℓ p s n. (says ℓ p).0 (sym (right.exactly m.shape ℓ s m.node p n) ∙ f.2)
      go (no l) = false_true (sym (right.no_other m.shape m.node h (omega arith)) ∙ f.2)

  module _ (paths : (p : Pos) (n : ℕ) → number t p ≡ some n → path_of (sizes t) n ≡ some p) where
    lines_are : lines (sizes t) ms ≡ gather (λ m. match_line m.match m.place) all
    unfolding lines
    lines_are =
        ap (gather (λ m. text_of (line (sizes t) m))) (sym found_matches)
        ∙ gather_map (λ m. text_of (line (sizes t) m)) numbers all
        ∙ gather_same (λ m. text_of (line (sizes t) m.match)) (λ m. match_line m.match m.place) all
        (λ m i. ap (λ q. text_of (Option.map (match_line m.match) q)) (paths m.place m.match.node (matches_numbered m i)))

    module _ (words starts score : List ℕ) (tables : SaysOf words starts score (sizes t) shapes t) (says : Says test t) where
      clashes_are : clash_number (nodes_of words starts (sizes t)) (found_in ms) ≡ clash_number (nodes_in shapes t) (map numbers all)
      clashes_are = tables.same_number (found_in ms) (is_match says) ∙ ap (clash_number (nodes_in shapes t)) (sym found_matches)

      totals_are : (states : Option ℕ) → totals_of words starts (sizes t) (depth t) states (total ms) ms ≡ totals_in all shapes t states
      totals_are states = λ i. record { nodes = length_sizes t i; states = states; matches = total_is i; clashes = clashes_are i; depth = depth t }

      pub right_report : (states : Option ℕ)
          → first_line (totals_of words starts (sizes t) (depth t) states (total ms) ms) ++ lines (sizes t) ms ≡ report_in test shapes t states
      right_report states = λ i. first_line (totals_are states i) ++ lines_are i

-- the report of marks, the first n of which are right
pub report_right : (test : Term → Pos → Bool) (shapes : List Term) (t : Term) (marks : List ℕ) → Right test shapes t (take (span t) marks)
    → length shapes ≤ 16 → ((p : Pos) (n : ℕ) → number t p ≡ some n → path_of (sizes t) n ≡ some p)
    → (words starts score : List ℕ) → SaysOf words starts score (sizes t) shapes t → Says test t → (states : Option ℕ)
    → report (totals_of words starts (sizes t) (depth t) states (total (take (span t) marks)) (take (length (sizes t)) marks)) (sizes t) marks
    ≡ report_in test shapes t states
unfolding report
report_right test shapes t marks right few paths words starts score tables says states =
    ap (λ n. first_line (totals_of words starts (sizes t) (depth t) states (total (take (span t) marks)) (take n marks)) ++ lines (sizes t) (take n marks))
    (length_sizes t)
    ∙ right_report test shapes t (take (span t) marks) right few paths words starts score tables says states
