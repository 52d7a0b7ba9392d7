-- A refusal found by its number in the table.
--   refusing              an answer that is a refusal
--   RefusedAs by_reason   what is computed is a refusal of that number, for some reason of the code's
use Rattle.std.specs.Prelude.{Err, Result}
use Rattle.kinds.specs.declared.Refusal.{Refusal}
use mathlib.Core.Path.{◌≡◌, refl}
use Prim.Native.Nat.{ℕ}
use Rattle.kinds.specs.Reasons.{number_of, refused_at}
use Rattle.kinds.specs.declared.Reason.{Reason}

pub record RefusedAs {A : Type 0} (refused : Reason → ℕ → A) (computed : A) (n p : ℕ) : Type 0 where
  pub reason : Reason
  pub number : number_of reason ≡ n
  pub is : computed ≡ refused reason p

pub by_reason : {A : Type 0} (refused : Reason → ℕ → A) {computed : A} {p : ℕ} (r : Reason) → computed ≡ refused r p
    → RefusedAs refused computed (number_of r) p
by_reason refused r e = record { reason = r; number = refl; is = e }

abbrev pub refusing : {T : Type 0} → Reason → ℕ → Result T Refusal
refusing r p = Err (refused_at r p)
