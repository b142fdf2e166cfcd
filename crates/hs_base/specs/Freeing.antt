-- The rules of freeing: what a free does, the check at the end of the outermost scope, and the end of memory locals.
-- They are this language's own: C99 7.20.3.2 leaves a pointer to a freed object indeterminate.
use Rattle.std.specs.Prelude.{ℕ, ◌+◌, ◌-◌, Bool, true, false, cond, not, ◌&&◌, nat_eq, List, [], ◌∷◌, map, Option, Some, None, Result, Ok, Err}
use Rattle.std.specs.List.{sum_by, count_by}
use Rattle.hs_base.specs.declared.ends.Reason.{Reason}
use Rattle.hs_base.specs.declared.ends.Reason.TheVariants.{Again, NotStart}
use Rattle.hs_base.specs.declared.values.Pointer.{Pointer}
use Rattle.hs_base.specs.declared.values.Pointer.TheVariants as pointer
use Rattle.hs_base.specs.Object.{Object, Sort, Static, Local, Heap, Standing, Live, Queued, Dead, is_dead, is_queued, object_at}
use Rattle.hs_base.specs.Access.{with_object}

abbrev pub is_heap : Sort → Bool
is_heap (Static index) = false
is_heap (Local func index) = false
is_heap (Heap line) = true

-- A free

-- what a free of a pointer that is not null names: the birth of a heap object at whose start it is, or the reason why not
abbrev pub freed_at : List Object → ℕ → ℕ → Result ℕ Reason
freed_at objects birth offset =
    let o = object_at objects birth in
    cond (is_heap o.sort && not (is_dead o.standing) && nat_eq offset 0) (cond (is_queued o.standing) (Err Again) (Ok birth)) (Err NotStart)

-- an object queued by a free at that line
abbrev pub queued : List Object → ℕ → ℕ → List Object
queued objects birth line = with_object objects birth (record (object_at objects birth) { standing = Queued line })

-- The check

-- the line at which an object was freed
abbrev pub line_of_free : Standing → ℕ
line_of_free (Queued line) = line
line_of_free _ = 0

-- the first of these objects that is held
abbrev pub first_held : (ℕ → Bool) → List ℕ → Option ℕ
first_held is_held [] = None
first_held is_held (birth ∷ queue) = cond (is_held birth) (Some birth) (first_held is_held queue)

abbrev pub buried_standing : Standing → Standing
buried_standing (Queued line) = Dead
buried_standing Live = Live
buried_standing Dead = Dead

-- all queued objects are dead
abbrev pub buried : List Object → List Object
buried objects = map (λ (o : Object). let dead : Object = record o { standing = buried_standing o.standing } in dead) objects

-- Numbers: how many pointers count for each object

abbrev pub is_pointer_to : ℕ → Pointer → Bool
is_pointer_to birth pointer.Null = false
is_pointer_to birth (pointer.At b offset) = nat_eq b birth

-- the pointers to an object in a list
abbrev pub pointers_to : ℕ → List Pointer → ℕ
pointers_to birth pointers = count_by (is_pointer_to birth) pointers

-- the pointers to it inside some objects
abbrev pub pointers_inside : ℕ → List Object → ℕ
pointers_inside birth objects = sum_by (λ (o : Object). pointers_to birth o.pointers) objects

-- the objects of these births
abbrev pub objects_of : List Object → List ℕ → List Object
objects_of objects births = map (object_at objects) births

-- the check by numbers: the pointers inside the queued objects are taken off, then the first whose number is not zero
abbrev pub check_numbers : List Object → List ℕ → (ℕ → ℕ) → Option ℕ
check_numbers objects queue numbers =
    first_held (λ birth. not (nat_eq (numbers birth - pointers_inside birth (objects_of objects queue)) 0)) queue

-- the end of locals by numbers: the pointers inside the ending locals are taken off, and the returned pointer added
abbrev pub end_numbers : List Object → List ℕ → Option Pointer → (ℕ → ℕ) → Option ℕ
end_numbers objects locals None numbers =
    first_held (λ birth. not (nat_eq (numbers birth - pointers_inside birth (objects_of objects locals)) 0)) locals
end_numbers objects locals (Some returned) numbers =
    first_held (λ birth. not (nat_eq (numbers birth - pointers_inside birth (objects_of objects locals) + pointers_to birth (returned ∷ [])) 0)) locals

-- the locals of a call that has returned are dead
abbrev pub ended : List Object → List ℕ → List Object
ended objects [] = objects
ended objects (birth ∷ locals) = ended (with_object objects birth (record (object_at objects birth) { standing = Dead })) locals
