-- What operations on objects do to the pointers inside them, and which of their answers are no pointers. Proved from the
-- definitions of the operations.
use Rattle.std.proofs.Common.{◌≡◌, ℕ, ℤ, zero, suc, pos, ◌+◌, ◌%◌, Bool, true, false, not, nat_eq, nat_lt, List, Option, Some, None, Result, Ok, Err, refl, subst}
use Rattle.std.specs.List.{list_any}
use Rattle.hs_base.specs.declared.ends.IntKind.{IntKind}
use Rattle.hs_base.specs.declared.ends.TrapKind.{TrapKind}
use Rattle.hs_base.specs.declared.values.Pointer.{Pointer}
use Rattle.hs_base.specs.declared.values.Pointer.TheVariants as pointer
use Rattle.hs_base.specs.declared.values.Value.{Value}
use Rattle.hs_base.specs.Access as access
use Rattle.hs_base.specs.Access.{Refusal, Place, if_so, and_then, access_in, access_integer, access_pointer, range_at, with_integer, with_pointer, with_object, copy, copy_between, may_copy, may_set, filled, set_bytes}
use Rattle.hs_base.specs.Object.{Object, object_at, is_dead}
use Rattle.core_tree.specs.declared.statements.BinOp.{BinOp}
use Rattle.core_tree.specs.declared.statements.BinOp.TheVariants as bin
use Rattle.core_tree.specs.declared.statements.CmpOp.{CmpOp}
use Rattle.core_tree.specs.declared.statements.CmpOp.TheVariants as cmp
use Rattle.object_meaning.specs.objects.Values.{pointer_in, is_stale}
use Rattle.object_meaning.specs.objects.Arithmetic.{or_traps, on_two, truth, compared, offsets, difference, ordered, pointers_compared}
use Rattle.object_meaning.specs.objects.Memory.{loaded, stored, stored_pointer, pointers_in_range, copied}
use Rattle.meaning_laws.specs.objects.Good.{Alive}
use Rattle.object_meaning.specs.counted.Counting.{birth_in}
use Rattle.meaning_laws.specs.counted.Counts.{inside_living}
use Rattle.meaning_laws.specs.counted.CountsEquations.{Renumbers, same_renumbers, set_renumbers, set_same}

-- P of what an operation answers, where it answers
abbrev pub OnDone : {A : Type 0} → (A → Type 0) → Result A Refusal → Type 0
OnDone P (Ok a) = P a
OnDone P (Err e) = Unit {0}

pub any_done : {A : Type 0} (P : A → Type 0) (r : Result A Refusal) → ((a : A) → P a) → OnDone P r
any_done P (Ok a) h = h a
any_done P (Err e) h = tt

pub then_done : {A B : Type 0} (P : A → Type 0) (Q : B → Type 0) (r : Result A Refusal) (next : A → Result B Refusal) → OnDone P r → ((a : A) → P a → OnDone Q (next a)) → OnDone Q (and_then r next)
then_done P Q (Ok a) next h then = then a h
then_done P Q (Err e) next h then = tt

so_done : {A : Type 0} (P : A → Type 0) (test : Bool) (e : Refusal) (next : Result A Refusal) → (test ≡ false → OnDone P next) → OnDone P (if_so test e next)
so_done P true e next h = tt
so_done P false e next h = h refl

-- Answers that are no pointers

abbrev pub IsPlain : Value → Type 0
IsPlain v = pointer_in v ≡ pointer.Null

pub truth_plain : (b : Bool) → IsPlain (truth b)
truth_plain true = refl
truth_plain false = refl

traps_plain : (kind : TrapKind) (o : Option ℤ) → OnDone IsPlain (or_traps kind o)
traps_plain kind None = tt
traps_plain kind (Some n) = refl

pub on_two_plain : (op : BinOp) (k : IntKind) (a b : ℤ) → OnDone IsPlain (on_two op k a b)
on_two_plain bin.Add k a b = refl
on_two_plain bin.Sub k a b = refl
on_two_plain bin.Mul k a b = refl
on_two_plain bin.Div k a b = traps_plain _ _
on_two_plain bin.Rem k a b = traps_plain _ _
on_two_plain bin.And k a b = refl
on_two_plain bin.Or k a b = refl
on_two_plain bin.Xor k a b = refl
on_two_plain bin.Shl k a b = traps_plain _ _
on_two_plain bin.Shr k a b = traps_plain _ _

-- nothing is said of an answer
abbrev pub Any : {A : Type 0} → A → Type 0
Any a = Unit {0}

pub any_said : {A : Type 0} (r : Result A Refusal) → OnDone Any r
any_said (Ok a) = tt
any_said (Err e) = tt

pub difference_plain : (p q : Pointer) (size : ℤ) → OnDone IsPlain (difference p q size)
difference_plain p q size = then_done Any IsPlain (offsets p q) _ (any_said (offsets p q)) (λ both _. refl)

ordered_plain : (op : CmpOp) (p q : Pointer) → OnDone IsPlain (ordered op p q)
ordered_plain op p q =
    then_done Any IsPlain (offsets p q) _ (any_said (offsets p q)) (λ both _. truth_plain (compared op (pos both.0) (pos both.1)))

pub compared_plain : (op : CmpOp) (p q : Pointer) → OnDone IsPlain (pointers_compared op p q)
compared_plain cmp.Eq p q = truth_plain _
compared_plain cmp.Ne p q = truth_plain _
compared_plain cmp.Lt p q = ordered_plain cmp.Lt p q
compared_plain cmp.Gt p q = ordered_plain cmp.Gt p q
compared_plain cmp.Le p q = ordered_plain cmp.Le p q
compared_plain cmp.Ge p q = ordered_plain cmp.Ge p q

module _ (objects : List Object) where
  pub loaded_plain : (k : IntKind) (p : Pointer) → OnDone IsPlain (loaded objects k p)
  loaded_plain k p = then_done Any IsPlain (access_integer objects p _) _ (any_said (access_integer objects p _)) (λ at _. refl)

  -- Changes of an object

  -- the place of an access is in the object of its pointer, which is alive
  pub record Reached (b : ℕ) (at : Place) : Type 0 where
    pub birth : at.birth ≡ b
    pub alive : Alive objects at.birth

  in_reached : (b offset n : ℕ) (against : Bool) → OnDone (Reached b) (access_in (object_at objects b) b offset n against)
  in_reached b offset n against =
      let o = object_at objects b in
      so_done (Reached b) (is_dead o.standing) _ _ (λ alive. so_done (Reached b) (nat_lt o.size (offset + n)) _ _ (λ _. so_done (Reached b) (not (nat_eq (offset % n) 0)) _ _ (λ _. so_done (Reached b) against _ _ (λ _. record { birth = refl; alive = alive }))))

  integer_reached : (p : Pointer) (n : ℕ) → OnDone (Reached (birth_in p)) (access_integer objects p n)
  integer_reached pointer.Null n = tt
  integer_reached (pointer.At b offset) n = in_reached b offset n _

  pointer_reached : (p : Pointer) → OnDone (Reached (birth_in p)) (access_pointer objects p)
  pointer_reached pointer.Null = tt
  pointer_reached (pointer.At b offset) = in_reached b offset 4 _

  range_reached : (p : Pointer) (n : ℕ) → OnDone (Reached (birth_in p)) (range_at objects p n)
  range_reached pointer.Null n = tt
  range_reached (pointer.At b offset) n =
      let o = object_at objects b in
      so_done (Reached b) (is_dead o.standing) _ _ (λ alive. so_done (Reached b) (nat_lt o.size (offset + n)) _ _ (λ _. record { birth = refl; alive = alive }))

  abbrev pub SamePointers : List Object → Type 0
  SamePointers new = (x : ℕ) → inside_living x new ≡ inside_living x objects

  pub stored_same : (k : IntKind) (p : Pointer) (n : ℤ) → OnDone SamePointers (stored objects k p n)
  stored_same k p n =
      then_done (Reached (birth_in p)) SamePointers _ _ (integer_reached p _) (λ at h.
      set_same objects at.birth (with_integer k (object_at objects at.birth) at.offset n) h.alive h.alive refl)

  abbrev pub Changes : ℕ → List Object → Type 0
  Changes b new = Renumbers objects new b

  changed : (b : ℕ) (at : Place) → Reached b at → (o : Object) → is_dead o.standing ≡ false → Changes b (with_object objects at.birth o)
  changed b at h o still =
      subst (λ c. Renumbers objects (with_object objects at.birth o) c) h.birth (set_renumbers objects at.birth o h.alive still)

  pub stored_pointer_changes : (p q : Pointer) → OnDone (Changes (birth_in p)) (stored_pointer objects p q)
  stored_pointer_changes p q =
      then_done (Reached (birth_in p)) (Changes (birth_in p)) _ _ (pointer_reached p) (λ at h.
      changed (birth_in p) at h (with_pointer (object_at objects at.birth) at.offset q) h.alive)

  between_changes : (n b : ℕ) (d s : Place) → Reached b d → OnDone (Changes b) (copy_between objects n d s)
  between_changes n b d s h =
      let into = object_at objects d.birth in
      let out = object_at objects s.birth in
      so_done (Changes b) (not (may_copy into d.offset out s.offset n)) _ _ (λ _. changed b d h (access.copied into d.offset out s.offset n) h.alive)

  copy_changes : (d s : Pointer) (n : ℕ) → OnDone (Changes (birth_in d)) (copy objects d s n)
  copy_changes d s zero = same_renumbers objects (birth_in d)
  copy_changes d s (suc m) =
      then_done (Reached (birth_in d)) (Changes (birth_in d)) _ _ (range_reached d (suc m)) (λ to h. then_done Any (Changes (birth_in d)) _ _ (any_said (range_at objects s (suc m))) (λ from _. between_changes (suc m) (birth_in d) to from h))

  pub copied_changes : (d s : Pointer) (n : ℕ) → OnDone (Changes (birth_in d)) (copied objects d s n)
  copied_changes d s n =
      then_done (Changes (birth_in d)) (Changes (birth_in d)) _ _ (copy_changes d s n) (λ new h. so_done (Changes (birth_in d)) (list_any (is_stale objects) (pointers_in_range objects s n)) _ _ (λ _. h))

  pub set_changes : (p : Pointer) (byte n : ℕ) → OnDone (Changes (birth_in p)) (set_bytes objects p byte n)
  set_changes p byte zero = same_renumbers objects (birth_in p)
  set_changes p byte (suc m) =
      then_done (Reached (birth_in p)) (Changes (birth_in p)) _ _ (range_reached p (suc m)) (λ at h.
      let o = object_at objects at.birth in
      so_done (Changes (birth_in p)) (not (may_set o at.offset byte (suc m))) _ _ (λ _. changed (birth_in p) at h (filled o at.offset byte (suc m)) h.alive))
