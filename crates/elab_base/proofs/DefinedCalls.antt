-- Calls of functions that have a body, one by one.
use Rattle.std.proofs.Common.{◌≡◌, ◌<◌, ◌≤◌, ◌+◌, ℕ, zero, suc, Bool, true, false, cond, List, [], ◌∷◌, Option, Some, None, drop, length, get_or, refl, ap, sym, ◌∙◌, arith}
use Rattle.std.specs.Prelude.{slice_get}
use Rattle.std.proofs.Math.Seq.{drop-cons}
use Rattle.c_decls.specs.declared.refusal.TypeKind.TheVariants.{Undeclared}
use Rattle.c_decls.specs.Refusals.{refused}
use Rattle.elaboration.specs.Context.{Context, Declared}
use Rattle.elaboration.specs.Externals.{is_defined, calls_defined}
use Rattle.elab_base.specs.Calls.{first_undefined, undeclared_at}

module _ (functions : List Declared) where
  pub calls_are : (calls : List (ℕ × ℕ)) (c : Context) → calls_defined functions calls c ≡ undeclared_at (first_undefined functions calls) c
  calls_are [] c = refl
  calls_are (call ∷ calls) c =
      elim (is_defined (slice_get functions call.0)) as (λ b. cond b (calls_defined functions calls c) (refused Undeclared call.1) ≡ undeclared_at (cond b (first_undefined functions calls) (Some call.1)) c)
      [ true ↦ calls_are calls c | false ↦ refl ]

  open_at : (xs : List (ℕ × ℕ)) (i : ℕ) (d : ℕ × ℕ) → i < length xs →
      first_undefined functions (drop i xs) ≡ cond (is_defined (slice_get functions (get_or xs i d).0)) (first_undefined functions (drop (i + 1) xs)) (Some (get_or xs i d).1)
  open_at xs i d h =
      let more : drop (suc i) xs ≡ drop (i + 1) xs = ap (λ (n : ℕ). drop n xs) (let next : suc i ≡ i + 1 = omega arith in next) in
      ap (λ (l : List (ℕ × ℕ)). first_undefined functions l) (drop-cons xs i d h)
      ∙ ap (λ (l : List (ℕ × ℕ)). cond (is_defined (slice_get functions (get_or xs i d).0)) (first_undefined functions l) (Some (get_or xs i d).1)) more

  pub next_at : (xs : List (ℕ × ℕ)) (i : ℕ) (d : ℕ × ℕ) → i < length xs → is_defined (slice_get functions (get_or xs i d).0) ≡ true →
      first_undefined functions (drop (i + 1) xs) ≡ first_undefined functions (drop i xs)
  next_at xs i d h holds =
      sym (open_at xs i d h
      ∙ ap (λ (b : Bool). cond b (first_undefined functions (drop (i + 1) xs)) (Some (get_or xs i d).1)) holds)

  pub found_at : (xs : List (ℕ × ℕ)) (i : ℕ) (d : ℕ × ℕ) → i < length xs → is_defined (slice_get functions (get_or xs i d).0) ≡ false →
      first_undefined functions (drop i xs) ≡ Some (get_or xs i d).1
  found_at xs i d h fails =
      open_at xs i d h ∙ ap (λ (b : Bool). cond b (first_undefined functions (drop (i + 1) xs)) (Some (get_or xs i d).1)) fails

  pub end_at : (xs : List (ℕ × ℕ)) (i : ℕ) → length xs ≤ i → first_undefined functions (drop i xs) ≡ None
  end_at [] zero h = refl
  end_at [] (suc i) h = refl
  end_at (first ∷ xs) zero h = absurd (omega (arith, h))
  end_at (first ∷ xs) (suc i) h = end_at xs i (omega (arith, h))
