-- The symbols that opening accepts: 1 to 32 of them, none with more than 4 children.
--   GoodSymbols                such symbols
--   symbols_is symbols_of_lem  what 5 and 6 let pass, and that they do
use Rattle.kinds.specs.declared.Refusal.{Refusal}
use Rattle.kinds.specs.Reasons.{refused_at}
use Rattle.std.specs.Prelude.{Err, Result}
use mathlib.Core.Path.{◌≡◌, refl, ◌∙◌}
use mathlib.Core.Bool.{Bool, true, false}
use mathlib.Core.List.{List, [], ◌∷◌}
use mathlib.Core.Option.{some}
use Prim.Native.Nat.{ℕ, zero, suc, ◌+◌, ◌≤◌}
use native.Mathlib.Omega.{arith}
use borrow.Author.Tests.{le-leb, leb-true}
use lib.Dec.{leb}
use lib.ListN.{length, get_elem?}
use Rattle.kinds.specs.Lists.{unless}
use Rattle.kinds.proofs.Options.{none_not}
use Rattle.kinds.specs.declared.Reason.{Reason}
use Rattle.kinds.specs.declared.Reason.TheVariants.{Symbols, Children}
use Rattle.sections.specs.Sections.{over_at, symbols_of, granted}
use Rattle.term.specs.Admitted.{GoodSymbols}
use Rattle.sections.proofs.LawsSections.{never_bad, symbols_each}

on_test {κ} : {C : Type κ} (b : Bool) (r : Reason) (p : ℕ) (v : Result Unit Refusal) → unless b (Err (refused_at r p)) v ≡ granted → (b ≡ true → v ≡ granted → C) → C
on_test true r p v e k = k refl e
on_test false r p v e k = never_bad e

counts_is : (i : ℕ) (xs : List ℕ) → over_at i xs ≡ granted → (f n : ℕ) → get_elem? xs f ≡ some n → n ≤ 4
unfolding over_at
counts_is i [] e f n g = none_not g
counts_is i (x ∷ xs) e zero n g = on_test (leb x 4) Children i _ e λ t v. let z : x ≡ n = cc in let h = leb-true x 4 t in omega arith
counts_is i (x ∷ xs) e (suc f) n g = on_test (leb x 4) Children i _ e λ t v. counts_is (i + 1) xs v f n g

counts_of_lem : (i : ℕ) (xs : List ℕ) → ((f n : ℕ) → get_elem? xs f ≡ some n → n ≤ 4) → over_at i xs ≡ granted
unfolding over_at
counts_of_lem i [] h = refl
counts_of_lem i (x ∷ xs) h = rw (le-leb x 4 (h 0 x refl)) (counts_of_lem (i + 1) xs (λ f n g. h (suc f) n g))

pub symbols_is : (ar : List ℕ) → symbols_of ar ≡ granted → GoodSymbols ar
unfolding symbols_of
symbols_is ar e =
    on_test (leb 1 (length ar)) Symbols 0 _ e λ a e₁.
    on_test (leb (length ar) 32) Symbols 0 _ e₁ λ b e₂.
    record { some_symbol = leb-true 1 (length ar) a; few_symbols = leb-true (length ar) 32 b; children = counts_is 0 ar e₂ }

pub symbols_of_lem : (ar : List ℕ) → GoodSymbols ar → symbols_of ar ≡ granted
symbols_of_lem ar g = symbols_each ar g.some_symbol g.few_symbols ∙ counts_of_lem 0 ar g.children
