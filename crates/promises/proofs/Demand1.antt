-- Demand 1 holds of every call.
use Rattle.folio.specs.declared.Counts.{Counts}
use Rattle.kinds.specs.declared.Refusal.{Refusal}
use Rattle.std.specs.Prelude.{Err, Ok, Result}
use mathlib.Core.Path.{◌≡◌, refl, ap, sym, ◌∙◌, subst}
use mathlib.Core.List.{List}
use Prim.Native.Nat.{ℕ}
use Rattle.kinds.specs.Members.{Below}
use Rattle.kinds.specs.Reasons.{number_of, refusal, refused_at}
use Rattle.folio.specs.Opening.{Lent, refuse_opening, opened}
use Rattle.folio.proofs.Accepted.{Accepted, accepted, made}
use Rattle.sections.proofs.LawsSections.{sections_in}
use Rattle.promises.specs.Demand1 as rows
use Rattle.promises.specs.Demand1.{OpenRow, open_told, Demand1}
use Rattle.promises.specs.Told.{Told, told, By}
use Rattle.promises.proofs.ByNumber.{RefusedAs}
use Rattle.promises.proofs.TrailerRows.{trailer_framed, framed_trailer}
use Rattle.promises.proofs.OpenExactly.{refused_given, given_refused}
use Rattle.promises.proofs.SubtreeRows.{by_subtree}
use Rattle.promises.proofs.ReaderRows.{by_label, by_lengths, by_announcement, by_successor}
use Rattle.promises.proofs.ChildRows.{by_child, by_follow}
use Rattle.promises.proofs.LineRows.{by_first_line, by_match_line, by_refusal_line}
use Rattle.promises.proofs.BuildRows.{by_build}
use Rattle.promises.proofs.WalkRows.{by_start, by_count}
use Rattle.promises.proofs.ClashRows.{by_clash}
use Rattle.promises.proofs.CompareRows.{by_compare}
use Rattle.promises.proofs.PutRows.{by_put}
use Rattle.promises.proofs.StepRows.{by_step}
use Rattle.promises.proofs.ListRows.{by_list}

-- ---- opening
module _ (file : List ℕ) (l : Lent) (small : Below 256 file) where
  -- a refusal of a number, as it is told
  told_so : {n p : ℕ} → RefusedAs (λ r p. refuse_opening r p l) (opened file l) n p → open_told (opened file l) ≡ told (refusal n p) l
  told_so {p = p} y = ap open_told y.is ∙ ap (λ n. told (refusal n p) l) y.number

  open_row : OpenRow file l (open_told (opened file l))
  open_row = go (opened file l).answer refl
    where
      means : Accepted file l → OpenRow file l (open_told (opened file l))
      means a = rw a.is (rows.opens a.places (trailer_framed file a.places (sections_in file a.places a.placed).0) a.meaning
          a.room)

      go : (x : Result Counts Refusal) → (opened file l).answer ≡ x → OpenRow file l (open_told (opened file l))
      go (Err why) e =
          let g = refused_given file l small why.0 why.1 e in
          let y = given_refused file l g in
          subst (OpenRow file l) (sym (told_so y)) (rows.refused (number_of why.0) why.1 g)
      go (Ok c) e = means (accepted file l c small e)

  open_only : (o : Told Lent) → OpenRow file l o → open_told (opened file l) ≡ o
  open_only _ (rows.refused n p g) = told_so (given_refused file l g)
  open_only _ (rows.opens at framed m room) = ap open_told (made file at m l (framed_trailer file at framed) room)

  by_opening : By (OpenRow file l) (open_told (opened file l))
  by_opening = (open_row, open_only)

pub demand_1 : Demand1
demand_1 = record {
  opening = by_opening;
  building = by_build;
  starting = λ ar score spans w small. by_start ar score spans small w;
  stepping = by_step;
  listing = by_list;
  matches = λ ar score spans marks small. by_count ar score spans small marks;
  clashes = by_clash;
  comparing = by_compare;
  putting = by_put;
  subtree = λ w ar shapes score small. by_subtree ar shapes score small w;
  label = by_label;
  lengths = by_lengths;
  announcement = by_announcement;
  successor = by_successor;
  first_line_lem = by_first_line;
  match_line_lem = by_match_line;
  refusal_line = by_refusal_line;
  child_of_lem = by_child;
  following = by_follow;
}
