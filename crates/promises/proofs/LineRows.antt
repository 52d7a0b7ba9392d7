-- A line is written whole at the buffer's start, or refused.
--   by_line       any text of at most 1,400 bytes
--   by_first_line by_refusal_line   the first line, a refusal's line
--   by_match_line   a match's line: 30, 34, or the line with the path that leads to the node
use mathlib.Core.Path.{◌≡◌, refl, ap, sym, ◌∙◌}
use mathlib.Core.List.{List, ◌++◌}
use mathlib.Core.Option.{Option, none, some, map}
use Prim.Native.Nat.{ℕ, ◌<◌, ◌≤◌}
use native.Mathlib.Omega.{arith}
use native.Mathlib.Decide.{dec_lt}
use lib.ListN.{length, drop, length-append}
use Rattle.kinds.specs.Reasons.{number_of}
use Rattle.kinds.specs.declared.Reason.{Reason}
use Rattle.kinds.proofs.ListLaws.{onto_sets}
use Rattle.counting.specs.Counting.{match_at}
use Rattle.kinds.specs.Positions.{Pos}
use Rattle.kinds.proofs.Options.{none_not}
use Rattle.report.specs.Paths.{path_of, Leads}
use Rattle.report.specs.declared.Totals.{Totals}
use Rattle.report.specs.Text.{digits, states_field, path_text, match_line, first_line, refusal_text}
use Rattle.report.specs.Lines.{written, written_if, line_out, first_out, refusal_out}
use Rattle.report.proofs.FollowPath.{path_leads, leads_path}
use Rattle.report.proofs.TextLaws.{line_short, line_is, digits_short, states_few, text_few, match_short, nowhere}
use Rattle.promises.specs.Demand1.{line_told, wrote, LineRow, line_30, writes, MatchRow, match_30, match_34, match_writes}
use Rattle.promises.specs.Told.{Told, By}

module _ (text buffer : List ℕ) (small : length text ≤ 1400) where
  pub whole : 1400 ≤ length buffer → line_told (written text buffer) ≡ wrote text buffer
  whole h =
      ap line_told
      (sym (line_is {o' = text ++ drop (length text) buffer} {e = length text} h
      (record { end = omega arith; text = onto_sets text buffer (omega arith) })))

  pub by_line : By (LineRow text buffer) (line_told (written text buffer))
  by_line = (row (dec_lt (length buffer) 1400), only)
    where
      row : Dec (length buffer < 1400) → LineRow text buffer (line_told (written text buffer))
      row (yes h) = rw (← line_short text buffer h) (line_30 h)
      row (no h) = let k : 1400 ≤ length buffer = omega arith in rw (whole k) (writes k)

      only : (o : Told (List ℕ)) → LineRow text buffer o → line_told (written text buffer) ≡ o
      only _ (line_30 h) = ap line_told (sym (line_short text buffer h))
      only _ (writes h) = whole h

-- ---- how long the lines are at most
pub by_first_line : (t : Totals) (buffer : List ℕ) → By (LineRow (first_line t) buffer) (line_told (first_out t buffer))
by_first_line t buffer = by_line (first_line t) buffer
    (rw (
      length-append (digits t.nodes) _,
      length-append (states_field t.states) _,
      length-append (digits t.matches) _,
      length-append (digits t.clashes) _,
      length-append (digits t.depth) _,
    )
    (omega (arith, digits_short t.nodes, states_few t.states, digits_short t.matches, digits_short t.clashes, digits_short t.depth)))

pub by_refusal_line : (r : Reason) (p : ℕ) (buffer : List ℕ) → By (LineRow (refusal_text r p) buffer) (line_told (refusal_out r p buffer))
by_refusal_line r p buffer = by_line (refusal_text r p) buffer
    (rw (length-append (digits (number_of r)) _, length-append (digits p) _) (omega (arith, digits_short (number_of r), digits_short p)))

-- ---- a match, whose line there is exactly where a path leads to its node
module _ (spans : List ℕ) (x j : ℕ) (buffer : List ℕ) where
  small : (p : Pos) → Leads spans x p → length (match_line (match_at x j) p) ≤ 1400
  small p h = rw (length-append (digits x) _, length-append (digits j) _, length-append (path_text p) _)
      (omega (arith, digits_short x, digits_short j, text_few p, h.few))

  with_path : 1400 ≤ length buffer → (p : Pos) → Leads spans x p → line_told (line_out spans x j buffer) ≡ wrote (match_line (match_at x j) p) buffer
  with_path room p h =
      ap (λ q. line_told (written_if (map (match_line (match_at x j)) q) buffer)) (leads_path spans x p h)
      ∙ whole (match_line (match_at x j) p) buffer (small p h) room

  pub by_match_line : By (MatchRow spans x j buffer) (line_told (line_out spans x j buffer))
  by_match_line = (row (dec_lt (length buffer) 1400) (path_of spans x) refl, only)
    where
      row : Dec (length buffer < 1400) → (q : Option Pos) → path_of spans x ≡ q → MatchRow spans x j buffer (line_told (line_out spans x j buffer))
      row (yes h) q e = rw (← match_short spans x j buffer h) (match_30 h)
      row (no h) none e =
          let room : 1400 ≤ length buffer = omega arith in
          rw (← nowhere spans x j buffer room e) (match_34 room λ p l. none_not (sym e ∙ leads_path spans x p l))
      row (no h) (some p) e =
          let room : 1400 ≤ length buffer = omega arith in
          let l = path_leads spans x p e in
          rw (with_path room p l) (match_writes room p l)

      only : (o : Told (List ℕ)) → MatchRow spans x j buffer o → line_told (line_out spans x j buffer) ≡ o
      only _ (match_30 h) = ap line_told (sym (match_short spans x j buffer h))
      only _ (match_34 h no-path) = ap line_told (sym (nowhere spans x j buffer h (none_found (path_of spans x) refl)))
        where
          none_found : (q : Option Pos) → path_of spans x ≡ q → path_of spans x ≡ none
          none_found none e = e
          none_found (some p) e = absurd (no-path p (path_leads spans x p e))
      only _ (match_writes room p l) = with_path room p l
