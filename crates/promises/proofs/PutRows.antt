-- Rows 19, 31 and 40 to 44 of putting in, and the new score: what the call says and leaves is what they give.
--   said        what it says and leaves where the replacement may be put in
use Rattle.std.specs.Prelude.{Ok}
use mathlib.Core.Path.{◌≡◌, refl, ap, ap₂, sym, ◌∙◌, subst}
use mathlib.Core.Bool.{true, false}
use mathlib.Core.Logic.{◌⊎◌, inl, inr}
use mathlib.Core.List.{List}
use Prim.Native.Nat.{ℕ, ◌<◌, ◌≤◌}
use native.Mathlib.Omega.{arith}
use native.Mathlib.Decide.{dec_lt}
use lib.ListN.{length}
use Rattle.kinds.specs.Limits.{blank_word, first_name}
use Rattle.kinds.specs.Lists.{onto}
use Rattle.kinds.specs.Members.{Below}
use Rattle.kinds.specs.declared.Reason.TheVariants.{BadShapes, BadScore, NotThere, IsFinished, NoTree, PastLimits, ShortScore}
use Rattle.kinds.proofs.Bools.{test, not_true, false_true}
use Rattle.kinds.proofs.Places.{at_in}
use Rattle.term.specs.Terms.{Term, span, depth, flatten, sizes, Fits}
use Rattle.term.specs.Admitted.{IsScore}
use Rattle.term.proofs.Numbers.{number_below}
use Rattle.term.proofs.Sizes.{length_flatten}
use Rattle.checks.specs.Again.{score_good}
use Rattle.folio.specs.Folio.{shape_terms, score_term}
use Rattle.folio.proofs.GoodTables.{scored_good}
use Rattle.counting.specs.Counting.{match_at}
use Rattle.matching.specs.Shapes.{shape_at}
use Rattle.matching.proofs.ShapeWords.{shape_words_lem}
use Rattle.clashing.specs.Strays.{matched}
use Rattle.replacing.specs.Links.{Finished}
use Rattle.replacing.specs.Putting.{finished_at, PutOutcome, put_out, refused, put_in, put_of}
use Rattle.replacing.proofs.LawsPutting.{put_shapes, put_score, put_out_lem, put_not, put_finished, put_goes}
use Rattle.replacing.proofs.FinishedTree.{finished_is, is_finished}
use Rattle.replacing.proofs.LinkTrees.{link_or_not}
use Rattle.replacing.proofs.PutTree.{in_42, in_43, in_44, in_put}
use Rattle.promises.specs.Demand1 as rows
use Rattle.promises.specs.Demand1.{GoodShapes, Good, MatchHere, Replaceable, Replaces, new_tree, PutRow, put_told}
use Rattle.promises.specs.Told.{Told, By}
use Rattle.promises.proofs.BuildRows.{good_or_not, is_bad, is_good_lem}
use Rattle.promises.proofs.ClashRows.{says_so}
use Rattle.promises.proofs.GoodTerms.{shapes_are, score_is}
use Rattle.promises.proofs.WalkRows.{score_or_not, score_bad}

module _ (ar ws st score spans : List ℕ) (j x : ℕ) (link : List ℕ) (f : ℕ) (new : List ℕ) where
  abbrev outcome : PutOutcome
  outcome = put_of ar ws st score spans j x link f new

  abbrev Here : Type 0
  Here = MatchHere ar ws st score spans j x link f new

  abbrev t : Term
  t = score_term ar score

  said_19 : (GoodShapes ar ws st → ⊥) → outcome ≡ refused BadShapes new
  said_19 n = sym (put_shapes ar ws st score spans j x link f new (is_bad ar ws st n))

  module _ (s : GoodShapes ar ws st) where
    said_31 : score_good ar score spans ≡ false → outcome ≡ refused BadScore new
    said_31 e = sym (put_score ar ws st score spans j x link f new (is_good_lem ar ws st s) e)

    module _ (g : Good ar score spans) where
      fine : score_good ar score spans ≡ true
      fine = scored_good ar score spans g.0 g.1

      -- ---- 40
      is_here : x < length score → matched ws st score spans (match_at x j) ≡ true → Here
      is_here l e = (says_so ar ws st score spans s g).is_match (match_at x j) l e

      here_or_not : Here ⊎ (Here → ⊥)
      here_or_not = go (dec_lt x (length score)) (test (matched ws st score spans (match_at x j)))
        where
          go : Dec (x < length score) → (matched ws st score spans (match_at x j) ≡ true) ⊎ (matched ws st score spans (match_at x j) ≡ false)
              → Here ⊎ (Here → ⊥)
          go (yes l) (inl e) = inl (is_here l e)
          go (yes l) (inr e) = inr (λ m. false_true (sym e ∙ (says_so ar ws st score spans s g).is_matched (match_at x j) m))
          go (no l) d = inr (λ m. l (inside m))
            where
              inside : Here → x < length score
              inside m = omega (arith, number_below m.place t x m.has_node, ap length (score_is ar score spans g).words, length_flatten t)

      said_40 : (Here → ⊥) → outcome ≡ refused NotThere new
      said_40 n = go (dec_lt x (length score))
        where
          go : Dec (x < length score) → outcome ≡ refused NotThere new
          go (no l) = sym (put_out_lem ar ws st score spans j x link f new (is_good_lem ar ws st s) fine (omega arith))
          go (yes l) = sym (put_not ar ws st score spans j x link f new (is_good_lem ar ws st s) fine l (not_true _ (λ e. n (is_here l e))))

      module _ (m : Here) where
        inside : x < length score
        inside = omega (arith, number_below m.place t x m.has_node, ap length (score_is ar score spans g).words, length_flatten t)

        matches : matched ws st score spans (match_at x j) ≡ true
        matches = (says_so ar ws st score spans s g).is_matched (match_at x j) m

        -- ---- 41
        by_words : finished_at score spans x f ≡ finished_at (flatten t) (sizes t) x f
        by_words = let k = score_is ar score spans g in ap₂ (λ a b. finished_at a b x f) k.words k.spans

        said_41 : Finished t m.place f → outcome ≡ refused IsFinished new
        said_41 h = sym (put_finished ar ws st score spans j x link f new (is_good_lem ar ws st s) fine inside matches
            (by_words ∙ is_finished t (score_is ar score spans g).is.whole m.place x f m.has_node h))

        finished_or_not : Finished t m.place f ⊎ (Finished t m.place f → ⊥)
        finished_or_not = go (test (finished_at (flatten t) (sizes t) x f))
          where
            go : (finished_at (flatten t) (sizes t) x f ≡ true) ⊎ (finished_at (flatten t) (sizes t) x f ≡ false)
                → Finished t m.place f ⊎ (Finished t m.place f → ⊥)
            go (inl e) = inl (finished_is t (score_is ar score spans g).is.whole m.place x f m.has_node e)
            go (inr e) = inr (λ h. false_true (sym e ∙ is_finished t (score_is ar score spans g).is.whole m.place x f m.has_node h))

  -- ---- 42 and after it
  module _ (m : Replaceable ar ws st score spans j x link f new) where
    abbrev ℓ : Term
    ℓ = m.there.shape

    abbrev inner : PutOutcome
    inner = put_in ar (flatten ℓ) (flatten t) (sizes t) x link new

    few : length ar ≤ first_name
    few = omega (arith, m.shapes.0.few_symbols)

    fits : Fits ar blank_word ℓ
    fits = ((shapes_are ar ws st m.shapes).each ℓ (at_in (shape_terms ar ws) j m.there.has_shape)).fits

    good : IsScore ar t
    good = (score_is ar score spans m.nodes).is

    shape_is : shape_at ws st j ≡ flatten ℓ
    shape_is = let a = shapes_are ar ws st m.shapes in
        ap₂ (λ w b. shape_at w b j) a.words a.begins ∙ shape_words_lem (shape_terms ar ws) j ℓ m.there.has_shape

    goes : outcome ≡ inner
    goes =
        let k = score_is ar score spans m.nodes in
        let no-41 : finished_at score spans x f ≡ false =
        not_true _ (λ e. m.unfinished (finished_is t k.is.whole m.there.place x f m.there.has_node
        (sym (by_words m.shapes m.nodes m.there) ∙ e))) in
        sym (put_goes ar ws st score spans j x link f new (is_good_lem ar ws st m.shapes) (fine m.shapes m.nodes)
        (inside m.shapes m.nodes m.there) (matches m.shapes m.nodes m.there) no-41 refl refl)
        ∙ ap (λ w. put_in ar w score spans x link new) shape_is ∙ ap₂ (λ a b. put_in ar (flatten ℓ) a b x link new) k.words k.spans

    said_42 : ((r : Term) → Replaces ar ws st score spans j x link f new m r → ⊥) → outcome ≡ refused NoTree new
    said_42 n = goes ∙ in_42 ar few ℓ t fits good m.there.place x m.there.has_node m.there.matches link new n

    module _ (r : Term) (k : Replaces ar ws st score spans j x link f new m r) where
      abbrev R : Term
      R = new_tree ar ws st score spans j x link f new m r

      said_43 : (4096 < span R) ⊎ (64 < depth R) → outcome ≡ refused PastLimits new
      said_43 over = goes ∙ in_43 ar few ℓ t fits good m.there.place x m.there.has_node m.there.matches link new r k over

      module _ (nodes : span R ≤ 4096) (flat : depth R ≤ 64) where
        said_44 : length new < span R → outcome ≡ refused ShortScore new
        said_44 h = goes ∙ in_44 ar few ℓ t fits good m.there.place x m.there.has_node m.there.matches link new r k nodes flat h

        pub said : span R ≤ length new → outcome ≡ put_out (Ok (span R)) (onto (flatten R) new)
        said h = goes ∙ in_put ar few ℓ t fits good m.there.place x m.there.has_node m.there.matches link new r k nodes flat h

  -- ---- the row that applies
  abbrev Row : Told (List ℕ) → Type 0
  Row = PutRow ar ws st score spans j x link f new

  row_of : {o : PutOutcome} → outcome ≡ o → Row (put_told o) → Row (put_told outcome)
  row_of e r = subst (λ o. Row (put_told o)) (sym e) r

  module _ (small : Below 65536 score) where
    pub put_row : Row (put_told outcome)
    put_row = shapes (good_or_not ar ws st)
      where
        room : (m : Replaceable ar ws st score spans j x link f new) (r : Term) (k : Replaces ar ws st score spans j x link f new m r)
            → Dec (4096 < span (R m r k)) → Dec (64 < depth (R m r k)) → Dec (length new < span (R m r k)) → Row (put_told outcome)
        room m r k (yes h) b c = row_of (said_43 m r k (inl h)) (rows.put_43 m r k (inl h))
        room m r k (no a) (yes h) c = row_of (said_43 m r k (inr h)) (rows.put_43 m r k (inr h))
        room m r k (no a) (no b) (yes h) = row_of (said_44 m r k (omega arith) (omega arith) h) (rows.put_44 m r k (omega arith) (omega arith) h)
        room m r k (no a) (no b) (no h) =
            row_of (said m r k (omega arith) (omega arith) (omega arith)) (rows.puts m r k (omega arith) (omega arith) (omega arith))

        tree : (m : Replaceable ar ws st score spans j x link f new)
            → ((r : Term) × Replaces ar ws st score spans j x link f new m r) ⊎ ((r : Term) → Replaces ar ws st score spans j x link f new m r → ⊥)
            → Row (put_told outcome)
        tree m (inr n) = row_of (said_42 m n) (rows.put_42 m n)
        tree m (inl k) = room m k.0 k.1 (dec_lt 4096 (span (R m k.0 k.1))) (dec_lt 64 (depth (R m k.0 k.1)))
            (dec_lt (length new) (span (R m k.0 k.1)))

        finished : (s : GoodShapes ar ws st) (g : Good ar score spans) (m : Here) → Finished t m.place f ⊎ (Finished t m.place f → ⊥)
            → Row (put_told outcome)
        finished s g m (inl h) = row_of (said_41 s g m h) (rows.put_41 s g m h)
        finished s g m (inr n) =
            let all : Replaceable ar ws st score spans j x link f new = record { shapes = s; nodes = g; there = m; unfinished = n } in
            tree all (link_or_not ar link m.shape (few all))

        here : (s : GoodShapes ar ws st) (g : Good ar score spans) → Here ⊎ (Here → ⊥) → Row (put_told outcome)
        here s g (inr n) = row_of (said_40 s g n) (rows.put_40 s g n)
        here s g (inl m) = finished s g m (finished_or_not s g m)

        nodes : (s : GoodShapes ar ws st) → Good ar score spans ⊎ (Good ar score spans → ⊥) → Row (put_told outcome)
        nodes s (inr n) = row_of (said_31 s (score_bad ar score spans small n)) (rows.put_31 s n)
        nodes s (inl g) = here s g (here_or_not s g)

        shapes : GoodShapes ar ws st ⊎ (GoodShapes ar ws st → ⊥) → Row (put_told outcome)
        shapes (inr n) = row_of (said_19 n) (rows.put_19 n)
        shapes (inl s) = nodes s (score_or_not ar score spans small (test (score_good ar score spans)))

    put_only : (o : Told (List ℕ)) → Row o → put_told outcome ≡ o
    put_only _ (rows.put_19 n) = ap put_told (said_19 n)
    put_only _ (rows.put_31 s n) = ap put_told (said_31 s (score_bad ar score spans small n))
    put_only _ (rows.put_40 s g n) = ap put_told (said_40 s g n)
    put_only _ (rows.put_41 s g m h) = ap put_told (said_41 s g m h)
    put_only _ (rows.put_42 m n) = ap put_told (said_42 m n)
    put_only _ (rows.put_43 m r k h) = ap put_told (said_43 m r k h)
    put_only _ (rows.put_44 m r k a b h) = ap put_told (said_44 m r k a b h)
    put_only _ (rows.puts m r k a b h) = ap put_told (said m r k a b h)

    pub by_put : By Row (put_told outcome)
    by_put = (put_row, put_only)
