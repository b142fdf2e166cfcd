-- Pointers inside objects: how many there are once an object changes or is new. Equations, proved from `Counts`.
use Rattle.std.proofs.Common.{◌≡◌, ℕ, zero, suc, ◌+◌, cond, List, [], ◌∷◌, ◌++◌, length, refl, sym, ap, ◌∙◌, add-zero, zero-add, add_comm, add_left_cancel, false}
use Rattle.std.specs.Prelude.{replicate}
use Rattle.std.proofs.lemmas.List.{get_or-set_same}
use Rattle.std.proofs.lemmas.List.Sums.{sum_by-cons, sum_by-set, sum_by-append}
use Rattle.hs_base.specs.declared.values.Pointer.TheVariants as pointer
use Rattle.hs_base.specs.Access.{with_object}
use Rattle.hs_base.specs.Freeing.{is_pointer_to, pointers_to}
use Rattle.hs_base.specs.Object.{Object, is_dead, no_object, object_at}
use Rattle.c_types.specs.declared.layouts.Layout.{Layout}
use Rattle.object_meaning.specs.objects.Making.{heap_object}
use Rattle.meaning_laws.specs.objects.Good.{Alive}
use Rattle.meaning_laws.specs.objects.GoodEquations.{is_within}
use Rattle.meaning_laws.specs.counted.Counts.{living, inside_living}

pub living_is : (x : ℕ) (o : Object) → is_dead o.standing ≡ false → living x o ≡ pointers_to x o.pointers
living_is x o alive = ap (λ b. cond b 0 (pointers_to x o.pointers)) alive

-- an object is put in place of one that is not dead
pub set_living : (objects : List Object) (b : ℕ) (o : Object) → Alive objects b → (x : ℕ) → inside_living x (with_object objects b o) + pointers_to x (object_at objects b).pointers ≡ inside_living x objects + living x o
set_living objects b o alive x =
    ap (λ n. inside_living x (with_object objects b o) + n) (sym (living_is x (object_at objects b) alive))
    ∙ sum_by-set (living x) objects b o no_object (is_within objects b alive)

-- an object alone has other pointers: those that it has come, and those that it had go
pub record Renumbers (objects new : List Object) (b : ℕ) : Type 0 where
  pub number : (x : ℕ) → inside_living x new + pointers_to x (object_at objects b).pointers ≡ inside_living x objects + pointers_to x (object_at new b).pointers

pub same_renumbers : (objects : List Object) (b : ℕ) → Renumbers objects objects b
same_renumbers objects b = record { number = λ x. refl }

pub set_renumbers : (objects : List Object) (b : ℕ) (o : Object) → Alive objects b → is_dead o.standing ≡ false → Renumbers objects (with_object objects b o) b
set_renumbers objects b o alive still = record {
  number = λ x.
      let there : object_at (with_object objects b o) b ≡ o = get_or-set_same objects b o no_object (is_within objects b alive) in
      set_living objects b o alive x
      ∙ ap (λ n. inside_living x objects + n) (living_is x o still ∙ sym (ap (λ (p : Object). pointers_to x p.pointers) there));
}

-- an object has the same pointers
pub set_same : (objects : List Object) (b : ℕ) (o : Object) → Alive objects b → is_dead o.standing ≡ false → o.pointers ≡ (object_at objects b).pointers → (x : ℕ) → inside_living x (with_object objects b o) ≡ inside_living x objects
set_same objects b o alive still same x =
    add_right_cancel (pointers_to x (object_at objects b).pointers)
    (set_living objects b o alive x ∙ ap (λ n. inside_living x objects + n) (living_is x o still ∙ ap (pointers_to x) same)) where
      add_right_cancel : (k : ℕ) {m n : ℕ} → m + k ≡ n + k → m ≡ n
      add_right_cancel k {m} {n} h = add_left_cancel k (add_comm k m ∙ h ∙ add_comm n k)

-- New objects

pub no_pointers : (x n : ℕ) → pointers_to x (replicate n pointer.Null) ≡ 0
no_pointers x zero = refl
no_pointers x (suc n) =
    sum_by-cons (λ p. cond (is_pointer_to x p) 1 0) pointer.Null (replicate n pointer.Null)
    ∙ zero-add (pointers_to x (replicate n pointer.Null)) ∙ no_pointers x n

pub append_living : (objects more : List Object) (x : ℕ) → inside_living x (objects ++ more) ≡ inside_living x objects + inside_living x more
append_living objects more x = sum_by-append (living x) objects more

-- a new heap object has no pointers
pub heap_living : (objects : List Object) (line size : ℕ) (element : Layout) (x : ℕ) → inside_living x (objects ++ heap_object line size element ∷ []) ≡ inside_living x objects
heap_living objects line size element x =
    let o = heap_object line size element in
    let one : inside_living x (o ∷ []) ≡ living x o = sum_by-cons (living x) o [] ∙ add-zero (living x o) in
    append_living objects (o ∷ []) x
    ∙ ap (λ n. inside_living x objects + n) (one ∙ no_pointers x (length o.slots)) ∙ add-zero (inside_living x objects)
