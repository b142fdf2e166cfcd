-- The numbers of objects: how many pointers to each count.
use Rattle.std.specs.Prelude.{ℕ, ◌+◌, ◌-◌, List}
use Rattle.hs_base.specs.declared.values.Pointer.{Pointer}
use Rattle.hs_base.specs.declared.values.Pointer.TheVariants as pointer
use Rattle.hs_base.specs.Freeing.{pointers_to, pointers_inside, objects_of}
use Rattle.hs_base.specs.Object.{Object, object_at}
use Rattle.hs_base.specs.State.{State}

-- with pointers that come, and without pointers that go
abbrev pub more : (ℕ → ℕ) → List Pointer → ℕ → ℕ
more numbers pointers birth = numbers birth + pointers_to birth pointers

abbrev pub fewer : (ℕ → ℕ) → List Pointer → ℕ → ℕ
fewer numbers pointers birth = numbers birth - pointers_to birth pointers

-- the object that a pointer points to
abbrev pub birth_in : Pointer → ℕ
birth_in pointer.Null = 0
birth_in (pointer.At birth offset) = birth

-- one object changed: its new pointers come, and its old ones go
abbrev pub renumbered : ℕ → (ℕ → ℕ) → State → State → ℕ → ℕ
renumbered changed numbers before after =
    fewer (more numbers (object_at after.objects changed).pointers) (object_at before.objects changed).pointers

-- without the pointers inside some objects
abbrev pub without_those_inside : List Object → List ℕ → (ℕ → ℕ) → ℕ → ℕ
without_those_inside objects births numbers birth = numbers birth - pointers_inside birth (objects_of objects births)
