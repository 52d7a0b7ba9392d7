-- What stands in the buffer after a replacement is put in.
--   reopened        a folio's file with another score opens
--   placed          where the call answers a number: the match and the replacement
--   put_holds       what is promised of it
--   unchanged       a shape put in for itself changes nothing
use Rattle.std.specs.Prelude.{Ok}
use mathlib.Core.Path.{◌≡◌, refl, ap, ap₂, sym, ◌∙◌, subst}
use mathlib.Core.List.{List, [], ◌∷◌, ◌++◌}
use mathlib.Core.Option.{some}
use Prim.Native.Nat.{ℕ, ◌+◌, ◌-◌, ◌≤◌}
use native.Mathlib.Omega.{arith}
use lib.ListN.{length, get_or, get_elem?, take, drop}
use Rattle.kinds.specs.Limits.{blank_word, first_name, no_blank}
use Rattle.kinds.specs.Lists.{bind, gather, otherwise, onto}
use Rattle.kinds.specs.Members.{Below}
use Rattle.kinds.specs.Positions.{Pos}
use Rattle.kinds.specs.Reasons.{gives}
use Rattle.kinds.proofs.ListLaws.{stored_back}
use Rattle.kinds.proofs.Options.{none_not, on_bind}
use Rattle.kinds.proofs.Places.{at_in}
use Rattle.term.specs.Terms.{Term, blank, node, span, depth, flatten, Fits}
use Rattle.term.specs.Places.{sub, hd, head_at, edges}
use Rattle.term.specs.Replacing.{put, fill, named}
use Rattle.term.proofs.MatchTest.{agrees_at, matches_is}
use Rattle.term.proofs.Numbers.{sub_number}
use Rattle.term.proofs.Replacing.{put_sub, put_same, put_head, put_before, put_behind, fill_sub, names_sub, Bound, named_back, named_fits, named_names}
use Rattle.term.proofs.Sizes.{length_flatten}
use Rattle.term.proofs.Subterms.{sub_append, fits_sub}
use Rattle.folio.specs.Files.{bound, file_of}
use Rattle.folio.specs.Folio.{Folio, answered, counts_in, shape_terms, score_term}
use Rattle.folio.specs.Opening.{Lent, Room, OpenOutcome, opened}
use Rattle.folio.proofs.Accepted.{shape_terms_lem, score_term_lem}
use Rattle.folio.proofs.EveryFolio.{every_folio, symbols_part, bound_bytes, file_short}
use Rattle.folio.proofs.ScoreWhole.{below_of}
use Rattle.following.proofs.FollowTree.{span_at_lem}
use Rattle.counting.specs.Counting.{match_at, counted_says}
use Rattle.clashing.specs.Strays.{IsMatch}
use Rattle.replacing.specs.Links.{IsLink, binding, replaced, Finished}
use Rattle.replacing.proofs.PutTree.{is_score}
use Rattle.replacing.proofs.ResultTree.{covers_name}
use Rattle.promises.specs.Demand1 as rows
use Rattle.promises.specs.Demand1.{Replaceable, PutRow, put_told}
use Rattle.promises.specs.OneFile.{OpenFile, symbols_in, words_in, starts_in, nodes_in, spans_in, shapes_in, score_in}
use Rattle.promises.specs.Put.{Opens, put_here, Placed, new_score, Put, Unchanged}
use Rattle.promises.specs.Told.{Told, told}
use Rattle.promises.proofs.OpenFile.{is_folio, shape_words_lem, score_words, score_spans, shapes_good_lem, score_good_lem, symbols_below, words_below, nodes_below}
use Rattle.promises.proofs.PutRows.{put_row, said}
use Rattle.promises.proofs.Demand2.{demand_2}
use Rattle.promises.proofs.Demand3.{demand_3}

-- ---- a folio's file with another score
module _ {file : List ℕ} (O : OpenFile file) (t : Term) (fol : Folio (symbols_in O) (shapes_in O) t) (l : Lent)
    (room : Room l (length (gather flatten (shapes_in O))) (length (shapes_in O)) (span t)) where
  abbrev ar : List ℕ
  ar = symbols_in O

  abbrev ss : List Term
  ss = shapes_in O

  is : opened (file_of ar ss t) l ≡ answered ar ss t l
  is = every_folio ar ss t fol l room

  abbrev new : OpenFile (file_of ar ss t)
  new = record {
    bytes = bound_bytes ar (gather flatten ss) (flatten t) (symbols_below O) (subst (Below 65536) (shape_words_lem O) (words_below O))
        (below_of ar t fol.is_score.fits fol.is_score.whole) (file_short ar ss t fol);
    tables = l;
    counts = counts_in ar ss t;
    opens = ap (λ (o : OpenOutcome). o.answer) is;
  }

  same_symbols : symbols_in new ≡ ar
  same_symbols = symbols_part ar ss t fol

  same_shapes : shapes_in new ≡ ss
  same_shapes =
      ap₂ shape_terms same_symbols
      (ap (λ (o : OpenOutcome). take (length (gather flatten ss)) o.tables.words) is ∙ stored_back (gather flatten ss) l.words room.words)
      ∙ shape_terms_lem ar ss fol.limits.are_shapes fol.limits.few_shapes

  new_score_lem : score_in new ≡ t
  new_score_lem =
      ap₂ score_term same_symbols
      (ap (λ (o : OpenOutcome). take (span t) o.tables.score) is ∙ ap (λ n. take n (answered ar ss t l).tables.score) (sym (length_flatten t))
      ∙ stored_back (flatten t) l.score (omega (arith, room.score, length_flatten t)))
      ∙ score_term_lem ar t fol.is_score

  reopened : Opens O t l
  reopened = record {
    folio = new;
    bytes = ap (λ ws. bound ar ws (flatten t)) (sym (shape_words_lem O));
    tables = refl;
    same_symbols = same_symbols;
    same_shapes = same_shapes;
    new_score_lem = new_score_lem;
    demands = λ S. (demand_2 S, demand_3 S);
  }

-- ---- where the call answers a number
module _ {file : List ℕ} (O : OpenFile file) (j x : ℕ) (link : List ℕ) (f : ℕ) (new : List ℕ) where
  abbrev t : Term
  t = score_in O

  abbrev Row : Told (List ℕ) → Type 0
  Row = PutRow (symbols_in O) (words_in O) (starts_in O) (nodes_in O) (spans_in O) j x link f new

  abbrev P : Type 0
  P = Placed O j x link f new

  record Found (o : Told (List ℕ)) : Type 0 where
    placed : P
    small : span (new_score O j x link f new placed) ≤ 4096
    flat : depth (new_score O j x link f new placed) ≤ 64
    is : o ≡ told (gives (span (new_score O j x link f new placed) ∷ [])) (onto (flatten (new_score O j x link f new placed)) new)

  found : {o : Told (List ℕ)} → Row o → o.says.number ≡ 0 → Found o
  found (rows.put_19 n) e = absurd (omega (arith, e))
  found (rows.put_31 s n) e = absurd (omega (arith, e))
  found (rows.put_40 s g n) e = absurd (omega (arith, e))
  found (rows.put_41 s g m h) e = absurd (omega (arith, e))
  found (rows.put_42 m n) e = absurd (omega (arith, e))
  found (rows.put_43 m r k h) e = absurd (omega (arith, e))
  found (rows.put_44 m r k a b h) e = absurd (omega (arith, e))
  found (rows.puts m r k a b h) e = record {
    placed = record { there = m.there; unfinished = m.unfinished; tree = r; is_link = k };
    small = a;
    flat = b;
    is = refl;
  }

  few : length (symbols_in O) ≤ first_name
  few = omega (arith, (is_folio O).limits.symbols.few_symbols)

  shape_fits : (m : IsMatch (shapes_in O) t (match_at x j)) → Fits (symbols_in O) blank_word m.shape
  shape_fits m = ((is_folio O).limits.are_shapes m.shape (at_in (shapes_in O) j m.has_shape)).fits

  module _ (w : P) where
    abbrev ℓ : Term
    ℓ = w.there.shape

    abbrev p : Pos
    p = w.there.place

    abbrev r : Term
    r = w.tree

    abbrev σ : ℕ → Term
    σ = binding ℓ t p

    abbrev R : Term
    R = new_score O j x link f new w

    head_filled : (u : Term) (g : ℕ) → hd u ≡ some g → hd (fill σ u) ≡ some g
    head_filled (blank v) g e = none_not e
    head_filled (node h ts) g e = e

    under : (q : Pos) {u : Term} → sub r q ≡ some u → sub R (p ++ q) ≡ some (fill σ u)
    under q e = let s = sub_number p t x w.there.has_node in put_sub p q t (fill σ r) s.1 ∙ fill_sub σ q r e

    inside : (q : Pos) (g : ℕ) → head_at r q ≡ some g → head_at R (p ++ q) ≡ some g
    inside q g e = on_bind (sub r q) hd e λ u eu d. ap (λ o. bind o hd) (under q eu) ∙ head_filled u g d

    copies : (q : Pos) (i : ℕ) → sub r q ≡ some (blank (65504 + i)) → (e : Pos) × (v : Term) × (get_elem? (edges ℓ) i ≡ some e)
        × (sub t (p ++ e) ≡ some v) × (sub R (p ++ q) ≡ some v)
    copies q i e =
        let l = names_sub (first_name + length (edges ℓ)) q r w.is_link.names e in
        let c = covers_name (symbols_in O) ℓ t (shape_fits w.there) (is_folio O).is_score p x w.there.has_node w.there.matches (65504 + i)
        (omega arith) l in
        let z : 65504 + i - 65504 ≡ i = omega arith in
        (c.q, c.v, ap (get_elem? (edges ℓ)) (sym z) ∙ c.edge, c.covered, under q e ∙ ap some c.bound)

    module _ (small : span R ≤ 4096) (flat : depth R ≤ 64) where
      new_folio : Folio (symbols_in O) (shapes_in O) R
      new_folio = record {
        limits = (is_folio O).limits;
        is_score = is_score (symbols_in O) few ℓ t (shape_fits w.there) (is_folio O).is_score p x w.there.has_node w.there.matches link new r
            w.is_link small flat;
      }

      puts : put_told (put_here O j x link f new) ≡ told (gives (span R ∷ [])) (onto (flatten R) new) → Put O j x link f new w
      puts e =
          let s = sub_number p t x w.there.has_node in
          let n = w.there.has_node in
          record {
            answers = e;
            is_folio = new_folio;
            opens = reopened O R new_folio;
            before = put_before p t s.0 x s.1 n (fill σ r) ∙ ap (take x) (sym (score_words O));
            behind = put_behind p t s.0 x s.1 n (fill σ r)
                ∙ ap₂ (λ k l. drop (x + k) l) (sym (ap (λ l. get_or l x 0) (score_spans O) ∙ span_at_lem t p s.0 x s.1 n)) (sym (score_words O));
            outside = λ q none. put_head p q t (fill σ r) none;
            inside = inside;
            copies = copies;
          }

  pub put_holds : (k : ℕ) → (put_here O j x link f new).answer ≡ Ok k → (w : P) × Put O j x link f new w
  put_holds k e =
      let h = found (put_row (symbols_in O) (words_in O) (starts_in O) (nodes_in O) (spans_in O) j x link f new (nodes_below O))
      (ap (λ a. (counted_says a).number) e) in
      (h.placed, puts h.placed h.small h.flat h.is)

-- ---- a shape put in for itself
module _ {file : List ℕ} (O : OpenFile file) (j x f : ℕ) (new : List ℕ) (m : IsMatch (shapes_in O) (score_in O) (match_at x j)) where
  abbrev itself : Term
  itself = named 65504 m.shape

  itself_link : IsLink (symbols_in O) m.shape (flatten itself) itself
  itself_link = record {
    fits = named_fits (symbols_in O) blank_word first_name (few O j x [] f new) m.shape 65504 (shape_fits O j x [] f new m) (omega arith);
    names = named_names m.shape 65504 (first_name + length (edges m.shape)) (omega arith);
    words = refl;
  }

  -- the same tree
  same_tree : replaced m.shape (score_in O) m.place itself ≡ score_in O
  same_tree =
      let s = sub_number m.place (score_in O) x m.has_node in
      ap (put (score_in O) m.place) (named_back (symbols_in O) blank_word no_blank (binding m.shape (score_in O) m.place) m.shape s.0 65504
      (shape_fits O j x [] f new m) (fits_sub (symbols_in O) no_blank m.place (score_in O) (is_folio O).is_score.fits s.1)
      (ap (agrees_at m.shape) (sym s.1) ∙ matches_is m.shape (score_in O) m.place m.matches) (bound_so s.0 s.1))
      ∙ put_same m.place (score_in O) s.1
    where
      bound_so : (v : Term) → sub (score_in O) m.place ≡ some v
          → Bound (binding m.shape (score_in O) m.place) 65504 (edges m.shape) (sub v)
      bound_so v e i q u eq eu =
          let z : 65504 + i - 65504 ≡ i = omega arith in
          let at : sub (score_in O) (m.place ++ q) ≡ some u = sub_append m.place q (score_in O) ∙ ap (λ o. bind o (λ y. sub y q)) e ∙ eu in
          ap (λ k. otherwise (bind (get_elem? (edges m.shape) k) (λ r. sub (score_in O) (m.place ++ r))) (blank (65504 + i))) z
          ∙ ap (λ o. otherwise (bind o (λ r. sub (score_in O) (m.place ++ r))) (blank (65504 + i))) eq ∙ ap (λ o. otherwise o (blank (65504 + i))) at

  pub unchanged : (Finished (score_in O) m.place f → ⊥) → span (score_in O) ≤ length new → Unchanged O j x f new m
  unchanged no-41 room =
      let all : Replaceable (symbols_in O) (words_in O) (starts_in O) (nodes_in O) (spans_in O) j x (flatten itself) f new =
      record { shapes = shapes_good_lem O; nodes = score_good_lem O; there = m; unfinished = no-41 } in
      let c = same_tree in
      ap put_told (said (symbols_in O) (words_in O) (starts_in O) (nodes_in O) (spans_in O) j x (flatten itself) f new all itself itself_link
      (omega (arith, ap span c, (is_folio O).is_score.small)) (omega (arith, ap depth c, (is_folio O).is_score.flat)) (omega (arith, ap span c, room)))
      ∙ ap (λ u. told (gives (span u ∷ [])) (onto (flatten u) new)) c ∙ ap (λ w. told (gives (span (score_in O) ∷ [])) (onto w new)) (sym (score_words O))
