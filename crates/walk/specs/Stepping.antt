-- A step over any words: document 01, "The walk". "Step: 32 before 34." Each condition of 34 is a named test or a reader that may find nothing.
--   Finding     what an item finds: the node read, what is announced where, what goes on where
--   look      "The node at the item's node followed by the state's label is read"
--   onward    "A step takes item i; later ones close up. Successors are appended in block order."
--   numbered  "34 also if the stored number is above sixteen times n", n the score words lent; or above 2 ^ 63, to which no score comes that can be lent
--             (docs/DECISIONS.md)
--   roomy     "the log has room for one more, the waiting list for all items before and after the step, and every place named exists in its buffer"
--   moved     every buffer after the step; "single steps and lists keep it equal to the ones in the marks": the number grows by the bits newly set
--   tried     the step where no condition of 34 fails
--   stepped   32 before 34; a refusal changes nothing
--   run       any choices, one after the other
--   accepted  how many of them are accepted
--   run_by     by a rule of choice on the number waiting, until none waits
use Rattle.kinds.specs.declared.Reason.{Reason}
use Rattle.std.specs.Prelude.{ℕ, zero, suc, ◌+◌, ◌*◌, ◌^◌, List, [], ◌∷◌, ◌++◌, Bool, cond, ◌&&◌, eqb, ltb, leb, length, get_or, take, drop, set, Err, Ok, Result}
use Rattle.std.proofs.Math.Option.{Option, none, some}
use Rattle.std.proofs.Math.ListN.{get_elem?}
use Rattle.kinds.specs.Lists.{bind, need, all, onto}
use Rattle.kinds.specs.declared.Reason.TheVariants.{NoSuchItem, OutOfRange}
use Rattle.following.specs.Following.{target}
use Rattle.walk.specs.declared.Record.{Record}
use Rattle.queue.specs.Targets.{targets, marked, newly}
use Rattle.readers.specs.PlanParts.{counts_good, pairs, pair_words, label_word, block_of}
use Rattle.walk.specs.Starting.{Walk, WalkOutcome, walk_of, counting, refuse_walk, go_on}

pub record Finding : Type 0 where
  pub node : ℕ
  pub outs : List (ℕ × ℕ)
  pub nexts : List (ℕ × ℕ)

-- an item is a state and a node
unfoldable pub look : List ℕ → List ℕ → List ℕ → ℕ × ℕ → Option Finding
look plan score spans it =
    let m = get_or plan 0 0 in
    let to : ℕ → Option ℕ = target (length score) spans it.1 in
    need (counts_good plan)
    (bind (label_word plan m it.0) (λ c.
    bind (to c) (λ x.
    bind (get_elem? score x) (λ f.
    bind (block_of plan m (get_or plan 1 0) it.0 f) (λ b.
    bind (targets (get_or plan 2 0) to b.0) (λ os.
    bind (targets m to b.1) (λ ns.
    some (record { node = x; outs = os; nexts = ns }))))))))

abbrev pub onward : ℕ → List (ℕ × ℕ) → List (ℕ × ℕ) → List (ℕ × ℕ)
onward i its ns = take i its ++ (drop (suc i) its ++ ns)

abbrev pub numbered : ℕ → Record → Bool
numbered n r = leb r.matches (16 * n) && leb r.matches (2 ^ 63)

abbrev pub roomy : Walk → Finding → List (ℕ × ℕ) → Bool
roomy w found its =
    ltb w.count.logged (length w.log)
    && (leb (2 * length its) (length w.items)
    && all (λ x. ltb x.1 (length w.marks)) found.outs)

abbrev pub moved : Walk → Finding → List (ℕ × ℕ) → Walk
moved w found its =
    walk_of (onto (pair_words its) w.items) (set w.log w.count.logged found.node) (marked found.outs w.marks)
    (counting (length its) (suc w.count.logged) (w.count.matches + newly found.outs w.marks))

unfoldable pub tried : List ℕ → List ℕ → List ℕ → ℕ → Walk → Option Walk
tried plan score spans i w =
    need (numbered (length score) w.count)
    (bind (pairs w.count.waiting w.items) (λ its.
    bind (get_elem? its.0 i) (λ it.
    bind (look plan score spans it) (λ found.
    need (roomy w found (onward i its.0 found.nexts))
    (some (moved w found (onward i its.0 found.nexts)))))))

abbrev pub or_refuse : Walk → Option Walk → WalkOutcome
or_refuse w none = refuse_walk OutOfRange w
or_refuse w (some v) = go_on v

unfoldable pub stepped : List ℕ → List ℕ → List ℕ → ℕ → Walk → WalkOutcome
stepped plan score spans i w =
    let go : WalkOutcome = or_refuse w (tried plan score spans i w) in
    cond (ltb i w.count.waiting) go (refuse_walk NoSuchItem w)

unfoldable pub run : List ℕ → List ℕ → List ℕ → List ℕ → Walk → Walk
run plan score spans [] w = w
run plan score spans (i ∷ is) w = run plan score spans is (stepped plan score spans i w).walk

abbrev pub one : Result Record Reason → ℕ
one (Ok c) = 1
one (Err r) = 0

unfoldable pub accepted : List ℕ → List ℕ → List ℕ → List ℕ → Walk → ℕ
accepted plan score spans [] w = 0
accepted plan score spans (i ∷ is) w = one (stepped plan score spans i w).answer + accepted plan score spans is (stepped plan score spans i w).walk

unfoldable pub run_by : (ℕ → ℕ) → List ℕ → List ℕ → List ℕ → ℕ → Walk → Walk
run_by rule plan score spans zero w = w
run_by rule plan score spans (suc n) w =
    let more : Walk = run_by rule plan score spans n (stepped plan score spans (rule w.count.waiting) w).walk in
    cond (eqb w.count.waiting 0) w more
