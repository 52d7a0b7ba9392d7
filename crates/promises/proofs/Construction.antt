-- What computes the plan is what the paper says.
use mathlib.Core.List.{List}
use Prim.Native.Nat.{ℕ}
use Rattle.term.specs.Terms.{Term}
use Rattle.term.specs.Admitted.{Limits}
use Rattle.automaton.specs.Walking.{setting_of}
use Rattle.automaton.proofs.Parted.{paper_once, paper_parted, plan_reachable}
use Rattle.promises.specs.Construction.{PaperSays}

pub paper_says : {ar : List ℕ} {shapes : List Term} → Limits ar shapes → PaperSays ar shapes
paper_says {ar} {shapes} limits = record {
  in_plan = plan_reachable shapes ar;
  once = λ s r. paper_once (setting_of limits) r;
  parted = λ s r f n a. paper_parted (setting_of limits) r f n a;
}
