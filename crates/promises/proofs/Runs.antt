-- Demands 2 and 3 of the calls themselves: for any results and buffers that the contracts of `open`, `build`, `start`, `step` and `steps` allow, one after the other,
-- each call lent what the one before it left. `Learnt` is what the checker reads off a contract; κs, a, r and e as in `Calls`.
--   Stepped Listed     a step that the contract allows; a list of choices, and how many of them were accepted
--   Walked             any number of both, in any order, by the choices that they took
--   steps_run          what they leave is what the definition runs
--   list_singly        a list leaves what its accepted choices leave, taken singly
--   calls_keep         what is marked stays marked
--   Handed calls_handed   any number of both, each with plan words of its own: what they leave is handed on by the definitions
--   started_number number_in_range   so the stored number behind an accepted start is the ones in the first n marks, and no step is refused for it
--   open_file          opening, as the contract allows it, where it is accepted
--   engines            so both engines agree on what a call of the simple finder leaves, lent what opening wrote
--   put_leaves         and a call that puts a replacement in leaves what is promised of it
--   one_file           two calls more that the contracts allow, each accepted, are the setting of demands 2 and 3
--   demands            so both demands hold of them, and of every walk that the contracts allow behind them (`walk_is`)
--   marks_mean         and of such a walk's marks what wish 7 says, whether it is finished or not
use Rattle.kinds.specs.declared.Reason.{Reason}
use Rattle.std.specs.Prelude.{Ok, Result}
use mathlib.Core.Path.{◌≡◌, refl, ap, ap₂, sym, ◌∙◌, subst}
use mathlib.Core.List.{List, [], ◌∷◌, ◌++◌}
use Prim.Native.Nat.{ℕ, ◌*◌, ◌^◌, ◌≤◌}
use lib.ListN.{length, take}
use Rattle.kinds.specs.Members.{Below}
use Rattle.folio.specs.Opening.{Lent, OpenOutcome, lent, out, opened}
use Rattle.folio.specs.declared.Counts.{Counts}
use Rattle.plan.specs.Building.{BuildOutcome, out as built-out, build_of}
use Rattle.plan.specs.declared.Size.{Size}
use Rattle.walk.specs.Lent.{walk_in}
use Rattle.walk.specs.Starting.{Walk, WalkOutcome, counting, record_after, started}
use Rattle.walk.specs.Stepping.{stepped, run}
use Rattle.walk.specs.declared.Record.{Record}
use Rattle.listing.specs.Listing.{ListOutcome, accepted_in, record_in, listed}
use Rattle.counting.specs.Counting.{total}
use Rattle.walk.proofs.LawsRun.{run_append}
use Rattle.listing.proofs.Singly.{one_list}
use Rattle.folio.proofs.opening.open.Reads as open-folio
use Rattle.plan.proofs.building.build.Reads as build
use Rattle.walk.proofs.Walk.start.Reads as start
use Rattle.walk.proofs.Walk.step.Reads as step
use Rattle.listing.proofs.taking.steps.Reads as steps
use Rattle.comparing.specs.Comparing.{out_of, compared}
use Rattle.replacing.specs.Putting.{PutOutcome, put_out, put_of}
use Rattle.comparing.proofs.marking.compare.Reads as compare
use Rattle.replacing.proofs.putting.put.Reads as put
use Rattle.promises.specs.LentWalk.{Stands}
use Rattle.promises.specs.OneFile.{OpenFile, OneFile, nodes_in, spans_in, shapes_in, score_in, lent_in, after}
use Rattle.promises.specs.SoFar.{SoFar, Keeps}
use Rattle.promises.specs.Demand2.{Demand2}
use Rattle.promises.specs.Demand3.{Demand3}
use Rattle.promises.specs.RunningNumber.{HandedOn}
use Rattle.promises.specs.RunningNumber as handed
use Rattle.promises.specs.TwoEngines.{compared_in, TwoEngines}
use Rattle.promises.specs.Put.{put_here, Placed, Put}
use Rattle.promises.proofs.Demand2.{demand_2}
use Rattle.promises.proofs.Demand3.{demand_3}
use Rattle.promises.proofs.Unfinished.{run_keeps, unfinished}
use Rattle.promises.proofs.RunningNumber.{running_number}
use Rattle.promises.proofs.OpenFile.{nodes_counted}
use Rattle.promises.proofs.TwoEngines.{two_engines}
use Rattle.promises.proofs.Put.{put_holds}

-- ---- steps
module _ (plan score spans : List ℕ) where
  pub data Stepped (i : ℕ) (w v : Walk) : Type 0 where
    by_step : (κs : _) (a : _) (r : _) (e : _) → step.Learnt κs a r e → a.1.0.now ≡ plan → a.1.1.0.words.now ≡ score → a.1.1.0.spans.now ≡ spans
        → walk_in a.0.now a.1.1.1.0 ≡ w → a.1.1.1.1.0 ≡ i → Stands a.0.now e.0.now (record_after r a.1.1.1.0) v → Stepped i w v

  pub data Listed (choices : List ℕ) (w : Walk) : ℕ → Walk → Type 0 where
    by_steps : {v : Walk} (κs : _) (a : _) (r : _) (e : _) → steps.Learnt κs a r e → a.1.0.now ≡ plan → a.1.1.0.words.now ≡ score → a.1.1.0.spans.now ≡ spans
        → walk_in a.0.now a.1.1.1.0 ≡ w → a.1.1.1.1.0.now ≡ choices → Stands a.0.now e.0.now (record_in r) v → Listed choices w (accepted_in r) v

  pub data Walked : Walk → List ℕ → Walk → Type 0 where
    none : {w : Walk} → Walked w [] w
    then : {w v u : Walk} (i : ℕ) (is : List ℕ) → Stepped i w v → Walked v is u → Walked w (i ∷ is) u
    list : {w v u : Walk} (choices : List ℕ) (k : ℕ) (is : List ℕ) → Listed choices w k v → Walked v is u → Walked w (take k choices ++ is) u

  -- a definition over plan, score, spans, what is chosen and a walk, where all five are equal
  same_over : {A B : Type 0} (f : List ℕ → List ℕ → List ℕ → A → Walk → B) {p s t : List ℕ} {i j : A} {w v : Walk} → p ≡ plan → s ≡ score → t ≡ spans
      → w ≡ v → j ≡ i → f p s t j w ≡ f plan score spans i v
  same_over f {p} {s} {t} {i} {j} {w} {v} ep es et ew ei =
      ap₂ (λ x y. f x y t j w) ep es ∙ ap₂ (λ x y. f plan score x j y) et ew ∙ ap (λ x. f plan score spans x v) ei

  one_step : {i : ℕ} {w v : Walk} → Stepped i w v → v ≡ (stepped plan score spans i w).walk
  one_step (by_step κs a r e h ep es et ew ei stands) = stands h.0.waiting h.0.log h.0.marks ∙ ap (λ (o : WalkOutcome). o.walk) (h.1 ∙ same_over stepped ep es et ew ei)

  one_call : {choices : List ℕ} {w v : Walk} {k : ℕ} → Listed choices w k v → v ≡ run plan score spans (take k choices) w
  one_call {choices} {w} (by_steps κs a r e h ep es et ew ec stands) =
      stands h.0.waiting h.0.log h.0.marks
      ∙ subst (λ (o : ListOutcome). o.walk ≡ run plan score spans (take (accepted_in o.answer) choices) w) (sym (h.1 ∙ same_over listed ep es et ew ec))
      (one_list plan score spans choices w).walk_is

  listed_walk : {choices : List ℕ} {w v : Walk} {k : ℕ} → Listed choices w k v → v ≡ (listed plan score spans choices w).walk
  listed_walk (by_steps κs a r e h ep es et ew ec stands) = stands h.0.waiting h.0.log h.0.marks ∙ ap (λ (o : ListOutcome). o.walk) (h.1 ∙ same_over listed ep es et ew ec)

  pub steps_run : {w u : Walk} {is : List ℕ} → Walked w is u → u ≡ run plan score spans is w
  unfolding run
  steps_run none = refl
  steps_run (then i is s more) = steps_run more ∙ ap (run plan score spans is) (one_step s)
  steps_run (list {w = w} choices k is l more) =
      steps_run more ∙ ap (run plan score spans is) (one_call l) ∙ sym (run_append plan score spans (take k choices) is w)

  pub list_singly : {choices : List ℕ} {w v u : Walk} {k : ℕ} → Listed choices w k v → Walked w (take k choices) u → v ≡ u
  list_singly l s = one_call l ∙ sym (steps_run s)

  pub calls_keep : {w u : Walk} {is : List ℕ} → Walked w is u → Keeps w u
  calls_keep {w = w} {is = is} s = subst (Keeps w) (sym (steps_run s)) (run_keeps plan score spans is w)

-- ---- each call with plan words of its own
module _ (score spans : List ℕ) where
  pub data Handed : Walk → Walk → Type 0 where
    none : {w : Walk} → Handed w w
    then : {w v u : Walk} (plan : List ℕ) (i : ℕ) → Stepped plan score spans i w v → Handed v u → Handed w u
    list : {w v u : Walk} (plan choices : List ℕ) (k : ℕ) → Listed plan score spans choices w k v → Handed v u → Handed w u

  pub calls_handed : {w u : Walk} → Handed w u → HandedOn score spans w u
  calls_handed none = handed.as_left
  calls_handed (then {u = u} plan i s more) = handed.by_step plan i (subst (λ v. HandedOn score spans v u) (one_step plan score spans s) (calls_handed more))
  calls_handed (list {u = u} plan choices k l more) = handed.by_list plan choices
      (subst (λ v. HandedOn score spans v u) (listed_walk plan score spans l) (calls_handed more))

  module _ (κs : _) (a : _) (first : Record) (e : _) (starts : start.Learnt κs a (Ok first) e) (of-score : a.1.1.0.words.now ≡ score)
      (of-spans : a.1.1.0.spans.now ≡ spans) (start_left : Walk) (stands : Stands a.0.now e.0.now first start_left) where
    abbrev start_lent : Walk
    start_lent = walk_in a.0.now (counting 0 0 0)

    begins : started a.1.0.now score spans start_lent ≡ record { answer = Ok first; walk = start_left }
    begins = ap₂ (λ l m. started a.1.0.now l m start_lent) (sym of-score) (sym of-spans) ∙ sym starts.1 ∙ ap (λ v. record { answer = Ok first; walk = v }) (sym (stands starts.0.waiting starts.0.log starts.0.marks))

    module _ {u : Walk} (h : Handed start_left u) where
      from_start : HandedOn score spans (started a.1.0.now score spans start_lent).walk u
      from_start = subst (λ v. HandedOn score spans v u) (sym (ap (λ (o : WalkOutcome). o.walk) begins)) (calls_handed h)

      pub started_number : u.count.matches ≡ total (take (length score) u.marks)
      started_number = running_number.kept a.1.0.now score spans start_lent first (ap (λ (o : WalkOutcome). o.answer) begins) u from_start

      pub number_in_range : (u.count.matches ≤ 16 * length score) × (u.count.matches ≤ 2 ^ 63)
      number_in_range = running_number.in_range a.1.0.now score spans start_lent first (ap (λ (o : WalkOutcome). o.answer) begins) u from_start

-- ---- one file
module _ {file : List ℕ} (bytes : Below 256 file)
    (κo : _) (ao : _) (counts : Counts) (eo : _) (opens : open-folio.Learnt κo ao (Ok counts) eo) (of-file : ao.0.now ≡ file) where
  abbrev pub tables : Lent
  tables = lent ao.1.0.now ao.1.1.0.now ao.1.1.1.0.now ao.1.1.1.1.0.now

  abbrev pub left : Lent
  left = lent eo.1.0.now eo.1.1.0.now eo.1.1.1.0.now eo.1.1.1.1.0.now

  pub was_opened : opened file tables ≡ out (Ok counts) left
  was_opened = ap (λ f. opened f tables) (sym of-file) ∙ sym opens

  abbrev pub open_file : OpenFile file
  open_file = record { bytes = bytes; tables = tables; counts = counts; opens = ap (λ (o : OpenOutcome). o.answer) was_opened }

  -- a table by what opening left of it
  is_left : (part : Lent → List ℕ) → part (opened file tables).tables ≡ part left
  is_left part = ap (λ (o : OpenOutcome). part o.tables) was_opened

  -- ---- the simple finder, lent a mark for each node
  module _ (κc : _) (ac : _) (r : Result ℕ Reason) (ec : _) (compares : compare.Learnt κc ac r ec)
      (c-symbols : ac.0.now ≡ take counts.symbols file) (c-words : ac.1.0.words.now ≡ take counts.words left.words)
      (c-starts : ac.1.0.starts.now ≡ take counts.shapes left.starts) (c-score : ac.1.1.0.words.now ≡ take counts.nodes left.score)
      (c-spans : ac.1.1.0.spans.now ≡ take counts.nodes left.spans) where
    pub compared_is : out_of r ec.1.1.1.0.now ≡ compared_in open_file ac.1.1.1.0.now
    compared_is = compares ∙ λ i. compared (c-symbols i) ((c-words ∙ ap (take counts.words) (sym (is_left (λ l. l.words)))) i)
        ((c-starts ∙ ap (take counts.shapes) (sym (is_left (λ l. l.starts)))) i)
        ((c-score ∙ ap (take counts.nodes) (sym (is_left (λ l. l.score)))) i)
        ((c-spans ∙ ap (take counts.nodes) (sym (is_left (λ l. l.spans)))) i) ac.1.1.1.0.now

    pub engines : counts.nodes ≤ length ac.1.1.1.0.now → TwoEngines open_file ac.1.1.1.0.now
    engines room = two_engines open_file ac.1.1.1.0.now
        (subst (λ n. n ≤ length ac.1.1.1.0.now) (nodes_counted open_file) room)

  -- ---- a replacement put in
  module _ (κp : _) (ac : _) (k : ℕ) (ec : _) (puts : put.Learnt κp ac (Ok k) ec)
      (c-symbols : ac.0.now ≡ take counts.symbols file) (c-words : ac.1.0.words.now ≡ take counts.words left.words)
      (c-starts : ac.1.0.starts.now ≡ take counts.shapes left.starts) (c-score : ac.1.1.0.words.now ≡ take counts.nodes left.score)
      (c-spans : ac.1.1.0.spans.now ≡ take counts.nodes left.spans) where
    abbrev j : ℕ
    j = ac.1.1.1.0.0

    abbrev x : ℕ
    x = ac.1.1.1.1.0.0

    abbrev link : List ℕ
    link = ac.1.1.1.1.1.0.now

    abbrev finished : ℕ
    finished = ac.1.1.1.1.1.1.0.0

    abbrev new : List ℕ
    new = ac.1.1.1.1.1.1.1.0.now

    pub put_is : put_out (Ok k) ec.1.1.1.1.1.1.1.0.now ≡ put_here open_file j x link finished new
    put_is = puts ∙ λ i. put_of (c-symbols i) ((c-words ∙ ap (take counts.words) (sym (is_left (λ l. l.words)))) i)
        ((c-starts ∙ ap (take counts.shapes) (sym (is_left (λ l. l.starts)))) i)
        ((c-score ∙ ap (take counts.nodes) (sym (is_left (λ l. l.score)))) i)
        ((c-spans ∙ ap (take counts.nodes) (sym (is_left (λ l. l.spans)))) i) j x link finished new

    pub put_leaves : (w : Placed open_file j x link finished new) × Put open_file j x link finished new w
    put_leaves = put_holds open_file j x link finished new k (sym (ap (λ (o : PutOutcome). o.answer) put_is))

  -- ---- building and starting
  module _ (κb : _) (ab : _) (size : Size) (eb : _) (builds : build.Learnt κb ab (Ok size) eb)
      (b-symbols : ab.0.now ≡ take counts.symbols file) (b-words : ab.1.0.words.now ≡ take counts.words left.words)
      (b-starts : ab.1.0.starts.now ≡ take counts.shapes left.starts)
      (κs : _) (as' : _) (first : Record) (es : _) (starts : start.Learnt κs as' (Ok first) es)
      (s-symbols : as'.1.0.now ≡ take counts.symbols file) (s-score : as'.1.1.0.words.now ≡ take counts.nodes left.score)
      (s-spans : as'.1.1.0.spans.now ≡ take counts.nodes left.spans)
      (start_left : Walk) (stands : Stands as'.0.now es.0.now first start_left)
      (behind : List ℕ) where
    abbrev pub begun : Walk
    begun = walk_in as'.0.now (counting 0 0 0)

    same_build : {ar ar' ws ws' st st' : List ℕ} (p s : List ℕ) → ar ≡ ar' → ws ≡ ws' → st ≡ st' → build_of ar ws st p s ≡ build_of ar' ws' st' p s
    same_build {ar' = ar'} {ws' = ws'} {st = st} p s ea ew et = ap₂ (λ x y. build_of x y st p s) ea ew ∙ ap (λ x. build_of ar' ws' x p s) et

    same_start : {ar ar' sc sc' sp sp' : List ℕ} (w : Walk) → ar ≡ ar' → sc ≡ sc' → sp ≡ sp' → started ar sc sp w ≡ started ar' sc' sp' w
    same_start {ar' = ar'} {sc' = sc'} {sp = sp} w ea ec ep = ap₂ (λ x y. started x y sp w) ea ec ∙ ap (λ x. started ar' sc' x w) ep

    pub built_is : build_of (take counts.symbols file) (take counts.words (opened file tables).tables.words)
        (take counts.shapes (opened file tables).tables.starts) ab.1.1.0.now ab.1.1.1.0.now
        ≡ built-out (Ok size) eb.1.1.0.now eb.1.1.1.0.now
    built_is =
        same_build ab.1.1.0.now ab.1.1.1.0.now (sym b-symbols)
        (ap (take counts.words) (is_left (λ l. l.words)) ∙ sym b-words)
        (ap (take counts.shapes) (is_left (λ l. l.starts)) ∙ sym b-starts)
        ∙ sym builds

    pub started_is : started (take counts.symbols file) (take counts.nodes (opened file tables).tables.score)
        (take counts.nodes (opened file tables).tables.spans) begun
        ≡ record { answer = Ok first; walk = start_left }
    started_is =
        same_start begun (sym s-symbols)
        (ap (take counts.nodes) (is_left (λ l. l.score)) ∙ sym s-score)
        (ap (take counts.nodes) (is_left (λ l. l.spans)) ∙ sym s-spans)
        ∙ sym starts.1 ∙ ap (λ v. record { answer = Ok first; walk = v }) (sym (stands starts.0.waiting starts.0.log starts.0.marks))

    abbrev pub one_file : OneFile open_file
    one_file = record {
      plan = ab.1.1.0.now;
      scratch = ab.1.1.1.0.now;
      size = size;
      builds = ap (λ (o : BuildOutcome). o.answer) built_is;
      behind = behind;
      walk = begun;
      first = first;
      starts = ap (λ (o : WalkOutcome). o.answer) started_is;
    }

    pub demands : Demand2 one_file × Demand3 one_file
    demands = (demand_2 one_file, demand_3 one_file)

    -- the walk as starting left it, and after any steps and lists that the contracts allow, is the one that the demands speak of
    pub walk_is : {is : List ℕ} {u : Walk}
        → Walked (lent_in one_file) (nodes_in open_file) (spans_in open_file) start_left is u
        → u ≡ after one_file is
    walk_is {is} s = steps_run (lent_in one_file) (nodes_in open_file) (spans_in open_file) s
        ∙ ap (run (lent_in one_file) (nodes_in open_file) (spans_in open_file) is) (sym (ap (λ (o : WalkOutcome). o.walk) started_is))

    pub marks_mean : {is : List ℕ} {u : Walk}
        → Walked (lent_in one_file) (nodes_in open_file) (spans_in open_file) start_left is u
        → SoFar (shapes_in open_file) (score_in open_file) u
    marks_mean {is} s = subst (SoFar (shapes_in open_file) (score_in open_file)) (sym (walk_is s)) ((unfinished one_file).so_far is)
