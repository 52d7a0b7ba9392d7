-- A refusal has one reason and one place.
use Prim.Native.Nat.{ℕ}
use mathlib.Core.Path.{◌≡◌, ap}
use Rattle.std.specs.Prelude.{Err, Result}
use Rattle.kinds.specs.Reasons.{refused_at}
use Rattle.kinds.specs.declared.Reason.{Reason}
use Rattle.kinds.specs.declared.Refusal.{Refusal}

pub same_refusal : {A : Type 0} {r q : Reason} {i j : ℕ} → ◌≡◌ {A = Result A Refusal} (Err (refused_at r i)) (Err (refused_at q j)) → (r ≡ q) × (i ≡ j)
same_refusal {r = r} {q = q} {i = i} {j = j} e =
    let z : refused_at r i ≡ refused_at q j = cc in (ap (λ (x : Refusal). x.0) z, ap (λ (x : Refusal). x.1) z)
