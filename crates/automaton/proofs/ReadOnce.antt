-- W1 at one step: what an item sees is the position that it looks at, or is seen by exactly one of the items that follow.
--   looks_sees          an item sees what it looks at
--   follows_see         the items that follow, counted
--   goes_see            items that go on see what those do for which they go
use mathlib.Core.Path.{◌≡◌, refl, ap, sym, ◌∙◌}
use mathlib.Core.Bool.{true, false, false≢true}
use mathlib.Core.List.{List, [], ◌∷◌, ◌++◌, map, append_assoc}
use mathlib.Core.Option.{some}
use mathlib.Core.Logic.{⊎_elim}
use Prim.Native.Nat.{ℕ, ◌+◌, ◌≤◌}
use Rattle.kinds.specs.Lists.{same, any, sum, bind}
use Rattle.kinds.specs.Positions.{Pos, strip, prefix}
use Rattle.kinds.proofs.Bools.{test, not_true, bool_ext}
use Rattle.kinds.proofs.Members.{on_map, map_in, on_any, any_of, same_is}
use Rattle.kinds.specs.Members.{◌∈◌}
use Rattle.kinds.proofs.ListLaws.{same_append, any_same}
use Rattle.kinds.proofs.Sums.{sum_map, sum_same, sum_zero}
use Rattle.kinds.proofs.Prefixes.{◌≼◌, ≼_refl, ≼_trans, strip_join, prefix_is, below_prefix, prefix_append}
use Rattle.term.specs.Terms.{Term, node, Terms, count}
use Rattle.term.specs.Places.{sub}
use Rattle.automaton.specs.Goals.{Calculus, Goal, State, all_obs, label, deriv}
use Rattle.automaton.specs.Classes.{classes, gcp, lift_goal, lift}
use Rattle.automaton.specs.Walking.{Setting, Scored, calculus, Alike, Item, covers, sees, one, waits, looks, goes_on, follows, Goes, none_go, one_goes}
use Rattle.term.proofs.Subterms.{sub_append, child_fits}
use Rattle.automaton.proofs.Within.{score_arity}
use Rattle.automaton.proofs.Derivative.{owes, on_lifted}
use Rattle.automaton.proofs.Sound.{Sound, SoundState}
use Rattle.automaton.proofs.Apart.{label_owes}
use Rattle.automaton.proofs.Owed.{below_gcp}
use Rattle.automaton.proofs.Reachable.{deriv_sound, class_sound}
use Rattle.automaton.proofs.Alike.{alike_owes, alike_back}
use Rattle.automaton.proofs.Covers.{on_covers, deriv_covers, parts_cover}

sees_covers : (it : Item) (q : Pos) → sees it (it.at ++ q) ≡ covers it.state q
sees_covers it q = any_same _ _ (all_obs it.state) (λ o m. prefix_append it.at o q)

-- what an item sees lies below it
sees_below : (it : Item) (q : Pos) → sees it q ≡ true → q ≼ it.at
sees_below it q e = on_any (λ o. prefix (it.at ++ o) q) (all_obs it.state) e λ o m t. ≼_trans (prefix_is (it.at ++ o) q t)
    (record { by = o; eq = refl })

module _ (S : Setting) where
  abbrev K : Calculus Pos
  K = calculus S

  pub looks_sees : (it : Item) → SoundState S it.state → sees it (looks S it) ≡ true
  looks_sees it w = any_of (λ o. prefix (it.at ++ o) (looks S it)) (label_owes S it.state w) (below_prefix (≼_refl (looks S it)))

  -- a class, lifted: the item that comes of it sees what the class covers
  lifted_sees : (it : Item) (k : State Pos) (q : Pos) → Sound S k → sees (goes_on S it k) (it.at ++ q) ≡ covers k q
  lifted_sees it k q w = bool_ext _ (covers k q) to fro
    where
      same_place : (x : Pos) (g : Goal Pos) → g ∈ k → x ∈ g.obs → prefix ((it.at ++ gcp k) ++ strip (gcp k) x) (it.at ++ q) ≡ prefix x q
      same_place x g i j = rw (append_assoc, strip_join (gcp k) x (below_gcp S k w g i x j), prefix_append)

      to : any (λ o. prefix ((it.at ++ gcp k) ++ o) (it.at ++ q)) (all_obs (lift K k)) ≡ true → covers k q ≡ true
      to e =
          on_any (λ o. prefix ((it.at ++ gcp k) ++ o) (it.at ++ q)) (all_obs (lift K k)) e λ o m t.
          on_lifted S k o m λ x g i j d.
          any_of (λ y. prefix y q) (owes i j) (sym (same_place x g i j) ∙ rw (← d) t)

      fro : covers k q ≡ true → any (λ o. prefix ((it.at ++ gcp k) ++ o) (it.at ++ q)) (all_obs (lift K k)) ≡ true
      fro e =
          on_covers k q e λ g o i j h.
          any_of (λ y. prefix ((it.at ++ gcp k) ++ y) (it.at ++ q)) (owes (map_in (lift_goal K (gcp k)) i) (map_in (strip (gcp k)) j))
          (same_place o g i j ∙ below_prefix h)

  alike_sees : (j j' : Item) (q : Pos) → j'.at ≡ j.at → Alike j.state j'.state → sees j q ≡ sees j' q
  alike_sees j j' q e a = bool_ext (sees j q) (sees j' q)
      (λ h. on_any (λ o. prefix (j.at ++ o) q) (all_obs j.state) h λ o m t. any_of (λ o. prefix (j'.at ++ o) q)
      (alike_owes j.state j'.state a o m) (rw e t))
      (λ h. on_any (λ o. prefix (j'.at ++ o) q) (all_obs j'.state) h λ o m t. any_of (λ o. prefix (j.at ++ o) q)
      (alike_back j.state j'.state a o m) (rw (← e) t))

  pub goes_see : {js js' : List Item} (q : Pos) → Goes S js js' → waits q js ≡ waits q js'
  goes_see q none_go = refl
  goes_see q (one_goes {j} {j'} a b r n) = rw (alike_sees j j' q a b, goes_see q n)

-- one item, at a node of the score
module _ (C : Scored) (it : Item) where
  abbrev S : Setting
  S = C.setting

  abbrev L : Pos
  L = label (calculus S) it.state

  module _ (w : SoundState S it.state) (f : ℕ) (ts : Terms) (node_is : sub C.score (looks S it) ≡ some (node f ts)) where
    abbrev D : State Pos
    D = deriv (calculus S) it.state f (count ts)

    sound_d : Sound S D
    sound_d = deriv_sound S it.state w f (count ts) (score_arity C (looks S it) f ts node_is)

    below_it : (q : Pos) (u : Term) → sub C.score (it.at ++ q) ≡ some u
        → one (sees it (it.at ++ q)) ≡ one (same (looks S it) (it.at ++ q)) + waits (it.at ++ q) (follows S it f (count ts))
    below_it q u e = rw (
      sees_covers it q,
      same_append it.at L q,
      each,
      deriv_covers S it.state w f (count ts) q fits,
      parts_cover S D sound_d q,
    )
      where
        fits : (i : ℕ) → q ≼ (L ++ (i ∷ [])) → (1 ≤ i) × (i ≤ count ts)
        fits i h =
            let p : it.at ++ q ≡ looks S it ++ (i ∷ h.by) = rw h.eq (simp append_assoc) in
            let s₁ : sub C.score (looks S it ++ (i ∷ h.by)) ≡ some u = rw p at e in
            let s₂ : bind (sub C.score (looks S it)) (λ v. sub v (i ∷ h.by)) ≡ some u =
            rw (sub_append (looks S it) (i ∷ h.by) C.score) at s₁ in
            let s₃ : sub (node f ts) (i ∷ h.by) ≡ some u = rw node_is at s₂ in
            child_fits f i ts h.by s₃

        each : waits (it.at ++ q) (follows S it f (count ts)) ≡ sum (map (λ k. one (covers k q)) (classes (calculus S) D))
        each = sum_map (λ j. one (sees j (it.at ++ q))) (goes_on S it) (classes (calculus S) D)
            ∙ sum_same _ _ (classes (calculus S) D) (λ k m. ap one (lifted_sees S it k q (class_sound S D sound_d k m)))

    pub follows_see : (q : Pos) (u : Term) → sub C.score q ≡ some u
        → one (sees it q) ≡ one (same (looks S it) q) + waits q (follows S it f (count ts))
    follows_see q u e = ⊎_elim below apart (test (prefix it.at q))
      where
        Claim : Pos → Type 0
        Claim p = one (sees it p) ≡ one (same (looks S it) p) + waits p (follows S it f (count ts))

        below : prefix it.at q ≡ true → Claim q
        below h = let b = prefix_is it.at q h in rw b.eq (below_it b.by u (rw b.eq at e))

        apart : prefix it.at q ≡ false → Claim q
        apart h =
            rw (
              not_true (sees it q) (λ c. off (sees_below it q c)),
              not_true (same (looks S it) q) (λ c. off (rw (← (same_is (looks S it) q c)) (record { by = L; eq = refl }))),
              sum_zero (λ j. one (sees j q)) (follows S it f (count ts)) none_of,
            )
          where
            off : q ≼ it.at → ⊥
            off b = false≢true (sym h ∙ below_prefix b)

            none_of : (j : Item) → j ∈ follows S it f (count ts) → one (sees j q) ≡ 0
            none_of j m = on_map (goes_on S it) (classes (calculus S) D) m λ k i e.
                rw (not_true (sees j q) (λ c. off (≼_trans (rw e at (sees_below j q c)) (record { by = gcp k; eq = refl }))))
