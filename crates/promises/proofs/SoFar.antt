-- What the marks mean before the end of a walk, over every file that opens and whose build is accepted.
--   whole_marked marked_whole   of the walk over a folio's words
--   so_far         after any choices
--   all_logged     where none waits, each node is in the log
--   exact_at_end   where each node is in the log, the marks hold exactly the matches
use mathlib.Core.Path.{◌≡◌, ap, sym, ◌∙◌, subst}
use mathlib.Core.Bool.{true}
use mathlib.Core.List.{List, ◌++◌}
use mathlib.Core.Logic.{◌↔◌}
use Prim.Native.Nat.{ℕ, ◌<◌, ◌≤◌}
use lib.ListN.{length, get_or, take}
use lib.Seq.{length-take-le}
use Rattle.kinds.specs.Bits.{bit}
use Rattle.kinds.specs.Members.{◌∈◌}
use Rattle.kinds.proofs.Bools.{false_true, eqb_is, is_eqb}
use Rattle.kinds.proofs.Members.{one_outside}
use Rattle.term.specs.Terms.{Term, span}
use Rattle.term.proofs.Numbers.{node_at_lem, number_below}
use Rattle.counting.specs.Counting.{Match, found}
use Rattle.clashing.specs.Clashes.{nodes_in}
use Rattle.clashing.specs.Strays.{IsMatch}
use Rattle.clashing.proofs.OneFolio.{nodes_at}
use Rattle.walk.specs.Starting.{Walk}
use Rattle.walking.specs.OneFolio.{walk_in}
use Rattle.walking.proofs.AnyWalk as any-walk
use Rattle.promises.specs.OneFile.{OpenFile, OneFile, shapes_in, score_in, after}
use Rattle.promises.specs.Exact.{Exact}
use Rattle.promises.specs.SoFar.{logged, ReadWhole, SoFar}
use Rattle.promises.proofs.Exact.{found_take}
use Rattle.promises.proofs.Setting.{told}

-- ---- over words
module _ {file : List ℕ} {O : OpenFile file} (S : OneFile O) (choices : List ℕ) where
  abbrev W : Walk
  W = walk_in (told S).folio choices S.walk

  module _ (m : Match) where
    whole_marked : ReadWhole (shapes_in O) (score_in O) W m → found W.marks m ≡ true
    whole_marked r =
        let is : IsMatch (shapes_in O) (score_in O) m = r.0 in
        let tells = any-walk.marks_so_far (told S).folio S.walk (told S).lent choices m.shape is.shape is.has_shape m.node is.place
        is.has_node in
        is_eqb (bit (get_or W.marks m.node 0) m.shape) 1
        (tells.1 (is.matches, λ q f x d g. r.1 x ((nodes_at is x).1 (record { q = q; f = f; symbol = d; falls = g }))))

    marked_whole : m.node < span (score_in O) → found W.marks m ≡ true → ReadWhole (shapes_in O) (score_in O) W m
    marked_whole h b =
        let e = eqb_is (bit (get_or W.marks m.node 0) m.shape) 1 b in
        let s = any-walk.marks_shapes (told S).folio S.walk (told S).lent choices m.shape m.node h e in
        let p = node_at_lem (score_in O) m.node h in
        let told_so = (any-walk.marks_so_far (told S).folio S.walk (told S).lent choices m.shape s.0 s.1 m.node p.0 p.1).0 e in
        let is : IsMatch (shapes_in O) (score_in O) m =
        record { shape = s.0; place = p.0; has_shape = s.1; has_node = p.1; matches = told_so.0 } in
        (is, λ x i. let o = (nodes_at is x).0 i in told_so.1 o.q o.f x o.symbol o.falls)

-- ---- of any walk
module _ {shapes : List Term} {t : Term} where
  node_below : {m : Match} {x : ℕ} → IsMatch shapes t m → x ∈ nodes_in shapes t m → x < span t
  node_below {x = x} is i = let o = (nodes_at is x).0 i in number_below (is.place ++ o.q) t x o.falls

  module _ (w : Walk) where
    so_marked : ((m : Match) → m.node < span t → (found w.marks m ≡ true) ↔ ReadWhole shapes t w m) → SoFar shapes t w
    so_marked marked = record {
      marked = marked;
      missing = λ m is b.
          let h = number_below is.place t m.node is.has_node in
          one_outside (nodes_in shapes t m) (logged w) (λ read. false_true (sym b ∙ (marked m h).1 (is, read)));
    }

    pub exact_at_end : SoFar shapes t w → span t ≤ length w.marks → ((x : ℕ) → x < span t → x ∈ logged w)
        → Exact shapes t (take (span t) w.marks)
    exact_at_end s long read = record {
      long = length-take-le (span t) w.marks long;
      exactly = λ m h. rw (found_take (span t) w.marks m h)
          (λ b. ((s.marked m h).0 b).0, λ is. (s.marked m h).1 (is, λ x i. read x (node_below is i)));
    }

-- ---- over one file
module _ {file : List ℕ} {O : OpenFile file} (S : OneFile O) (choices : List ℕ) where
  pub so_far : SoFar (shapes_in O) (score_in O) (after S choices)
  so_far = subst (SoFar (shapes_in O) (score_in O)) (sym ((told S).after_is choices))
      (so_marked (W S choices) (λ m h. (marked_whole S choices m h, whole_marked S choices m)))

  pub all_logged : (after S choices).count.waiting ≡ 0 → (n : ℕ) → n < span (score_in O) → n ∈ logged (after S choices)
  all_logged done n h =
      let d = (told S).after_is choices in
      subst (λ v. n ∈ logged v) (sym d)
      (any-walk.log_all (told S).folio S.walk (told S).lent choices (sym (ap (λ (v : Walk). v.count.waiting) d) ∙ done) n h)
