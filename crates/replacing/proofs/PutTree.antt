-- Putting in where a shape matches at a node of a score, on terms: 42, 43, 44, or the new score.
--   in_42 in_43 in_44 in_put
use Rattle.std.specs.Prelude.{Ok, is_ok}
use Prim.Native.Nat.{ℕ, ◌<◌, ◌≤◌}
use mathlib.Core.Path.{◌≡◌, refl, ap, sym, ◌∙◌}
use mathlib.Core.List.{List}
use mathlib.Core.Logic.{◌⊎◌, ⊎_elim}
use mathlib.Core.Option.{some}
use native.Mathlib.Omega.{arith}
use lib.ListN.{length}
use Rattle.kinds.specs.Limits.{blank_word, first_name}
use Rattle.kinds.specs.Lists.{onto}
use Rattle.kinds.specs.Positions.{Pos}
use Rattle.kinds.specs.declared.Reason.TheVariants.{NoTree, PastLimits, ShortScore}
use Rattle.kinds.proofs.Bools.{not_true}
use Rattle.kinds.proofs.ListLaws.{onto_sets}
use Rattle.term.specs.Terms.{Term, span, depth, flatten, sizes, Fits}
use Rattle.term.specs.Places.{number, Matches}
use Rattle.term.specs.Admitted.{IsScore}
use Rattle.term.proofs.Sizes.{length_flatten}
use Rattle.folio.proofs.ScoreWhole.{score_of_lem}
use Rattle.replacing.specs.Links.{IsLink, replaced}
use Rattle.replacing.specs.Putting.{PutOutcome, put_out, refused, handed, put_in}
use Rattle.replacing.proofs.LawsPutting.{past, handed_short, handed_written, in_none, in_goes}
use Rattle.replacing.proofs.LinkTrees.{link_is, is_link}
use Rattle.replacing.proofs.ResultTree.{as_many, result_words, result_fits, result_whole, within, passed}

module _ (ar : List ℕ) (few : length ar ≤ first_name) (ℓ t : Term) (fits : Fits ar blank_word ℓ) (is : IsScore ar t) (p : Pos) (x : ℕ)
    (n : number t p ≡ some x) (m : Matches ℓ t p) (link new : List ℕ) where
  abbrev outcome : PutOutcome
  outcome = put_in ar (flatten ℓ) (flatten t) (sizes t) x link new

  pub in_42 : ((r : Term) → IsLink ar ℓ link r → ⊥) → outcome ≡ refused NoTree new
  in_42 none = sym (in_none ar (flatten ℓ) (flatten t) (sizes t) x link new refl
      (not_true _ (λ e. let r = link_is ar link ℓ _ few (as_many ar ℓ t fits is p x n m) e in none r.0 r.1)))

  module _ (r : Term) (k : IsLink ar ℓ link r) where
    abbrev R : Term
    R = replaced ℓ t p r

    goes : outcome ≡ handed ar (flatten R) new
    goes =
        in_goes ar (flatten ℓ) (flatten t) (sizes t) x link new (is_link ar link ℓ _ few (as_many ar ℓ t fits is p x n m) k)
        ∙ ap (λ w. handed ar w new) (result_words ar ℓ t fits is p x n m link r k)

    pub in_43 : (4096 < span R) ⊎ (64 < depth R) → outcome ≡ refused PastLimits new
    in_43 over = goes ∙ sym (past ar (flatten R) new (not_true _ λ e.
        let l = passed ar R (result_fits ar ℓ t fits is p x n m link r k) (result_whole ar ℓ t fits is p x n m link r k) e in
        ⊎_elim (λ (h : 4096 < span R). omega (arith, h, l.0)) (λ (h : 64 < depth R). omega (arith, h, l.1)) over))

    module _ (small : span R ≤ 4096) (flat : depth R ≤ 64) where
      pub is_score : IsScore ar R
      is_score = within ar R (result_fits ar ℓ t fits is p x n m link r k) (result_whole ar ℓ t fits is p x n m link r k) small flat

      pub in_44 : length new < span R → outcome ≡ refused ShortScore new
      in_44 h = goes ∙ sym (handed_short ar (flatten R) new (ap is_ok (score_of_lem ar R is_score)) (omega (arith, h, length_flatten R)))

      pub in_put : span R ≤ length new → outcome ≡ put_out (Ok (span R)) (onto (flatten R) new)
      in_put h =
          let l : length (flatten R) ≤ length new = omega (arith, h, length_flatten R) in
          goes ∙ sym (handed_written ar (flatten R) new (ap is_ok (score_of_lem ar R is_score)) l (onto_sets (flatten R) new l))
          ∙ ap (λ k. put_out (Ok k) (onto (flatten R) new)) (length_flatten R)
