-- What an answer of some steps says of each. Equations, proved from `Reading`.
use Rattle.std.proofs.Common.{◌≡◌, Option, Some, None, refl, ap}
use Rattle.std.specs.Option.{unwrap_or}
use Rattle.std.proofs.lemmas.Option.{none-some}
use Rattle.grammar_reading.specs.Reading.{◌>>=◌}

pub none_some : {A B : Type 0} {x : A} → None ≡ Some x → B
none_some {A} {B} {x} h = absurd (none-some x h)

pub some_same : {A : Type 0} {x y : A} → Some x ≡ Some y → x ≡ y
some_same {A} {x} {y} h = ap (λ found. unwrap_or found x) h

pub bind_some : {A B : Type 0} (r : Option A) (f : A → Option B) (y : B) → r >>= f ≡ Some y → (x : A) × (r ≡ Some x) × (f x ≡ Some y)
bind_some (Some x) f y h = (x, refl, h)
bind_some None f y h = none_some h
