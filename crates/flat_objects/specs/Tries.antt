-- What a try tells of a free, which changes nothing.
use Rattle.std.specs.Prelude.{◌≡◌, ℕ, IsTrue, List, Result, Ok, Err}
use Rattle.hs_base.specs.declared.ends.Reason.{Reason}
use Rattle.hs_base.specs.Freeing.{freed_at, is_heap}
use Rattle.hs_base.specs.Object.{Object, object_at}
use Rattle.flat_objects.specs.Memory.{Memory}
use Rattle.flat_objects.specs.Standing.{IsThere}
use Rattle.flat_objects.specs.Keeping.{ForTarget}

-- an object of the heap starts at an address
pub record IsHeapStart (places : ℕ → ℕ) (objects : List Object) (addr : ℕ) : Type 0 where
  pub birth : ℕ
  pub there : IsThere objects birth
  pub heap : IsTrue (is_heap (object_at objects birth).sort)
  pub address : addr ≡ places birth

-- the object of a birth may be freed where the definition names it; or its free would be bad for the definition's reason
abbrev pub AnswersTry : ℕ → Result Unit Reason → Result ℕ Reason → Type 0
AnswersTry birth (Ok u) meant = meant ≡ Ok birth
AnswersTry birth (Err reason) meant = meant ≡ Err reason

-- whatever an address leads to, the try tells what the definition of a free does
abbrev pub AnswersTryAt : Memory → ℕ → Result Unit Reason → Type 0
AnswersTryAt memory addr result =
    ForTarget memory addr (λ places objects birth offset. AnswersTry birth result (freed_at objects birth offset))
