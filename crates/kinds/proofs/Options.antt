-- What there is, taken apart.
--   on_bind on_map on_need   what made something
--   none_not                 nothing is not something
--   bind_along need_along    what goes on in two steps
use mathlib.Core.Path.{◌≡◌, refl}
use mathlib.Core.Bool.{Bool, true, false}
use mathlib.Core.Option.{Option, none, some, map, none-ne-some}
use Rattle.kinds.specs.Lists.{bind, need}

pub none_not {ℓ κ} : {A : Type ℓ} {C : Type κ} {a : A} → none ≡ some a → C
none_not {a = a} e = absurd (none-ne-some a e)

pub on_bind {ℓ μ κ} : {A : Type ℓ} {B : Type μ} {C : Type κ} (o : Option A) (f : A → Option B) {b : B} → bind o f ≡ some b
    → ((a : A) → o ≡ some a → f a ≡ some b → C) → C
on_bind none f e k = none_not e
on_bind (some a) f e k = k a refl e

pub on_map {ℓ μ κ} : {A : Type ℓ} {B : Type μ} {C : Type κ} (o : Option A) (f : A → B) {b : B} → map f o ≡ some b
    → ((a : A) → o ≡ some a → f a ≡ b → C) → C
on_map none f e k = none_not e
on_map (some a) f e k = k a refl (cc)

pub on_need {ℓ κ} : {A : Type ℓ} {C : Type κ} (t : Bool) (o : Option A) {a : A} → need t o ≡ some a → (t ≡ true → o ≡ some a → C) → C
on_need true o e k = k refl e
on_need false o e k = none_not e

pub bind_along : {A B C : Type 0} (o : Option A) (f : A → Option C) (g : A → Option B) (k : B → Option C) → ((a : A) → f a ≡ bind (g a) k)
    → bind o f ≡ bind (bind o g) k
bind_along none f g k h = refl
bind_along (some a) f g k h = h a

pub need_along : {B C : Type 0} (t : Bool) (o : Option C) (u : Option B) (k : B → Option C) → o ≡ bind u k → need t o ≡ bind (need t u) k
need_along true o u k h = h
need_along false o u k h = refl
