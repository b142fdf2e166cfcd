-- What statics hold first, one static more.
use Rattle.std.proofs.Common.{◌≡◌, ◌⊎◌, ℕ, ◌+◌, ◌<◌, suc, zero, List, [], ◌∷◌, ◌++◌, Some, refl, ap, sym, ◌∙◌, subst, length, get_or, take, arith, inl, inr, ⊎_elim, length-append}
use Rattle.std.specs.Prelude.{slice_get}
use Rattle.std.proofs.lemmas.List.{take_more}
use Rattle.core_tree.specs.declared.program.Static.{Static}
use Rattle.flat_code.specs.declared.program.StaticInit.{StaticInit}
use Rattle.flat_codegen.specs.Statics.{IsInit, AreInits}
use Rattle.flat_codegen.proofs.Gets.{get_left, get_next}

-- an element of a list with one more is one of the list, or the last
get_push : {X : Type 0} (xs : List X) (y : X) (i : ℕ) (x : X) → slice_get (xs ++ y ∷ []) i ≡ Some x → (slice_get xs i ≡ Some x) ⊎ ((i ≡ length xs) × (x ≡ y))
get_push [] y zero x e = inr (refl, (cc))
get_push [] y (suc i) x e = cc
get_push (z ∷ xs) y zero x e = inl e
get_push (z ∷ xs) y (suc i) x e =
    ⊎_elim (λ (h : slice_get xs i ≡ Some x). inl h) (λ (h : (i ≡ length xs) × (x ≡ y)). inr (ap suc h.0, h.1)) (get_push xs y i x e)

inits_push : (statics : List Static) (inits : List StaticInit) (one : Static) (init : StaticInit) → AreInits statics inits → IsInit (length statics) one init → AreInits (statics ++ one ∷ []) (inits ++ init ∷ [])
inits_push statics inits one init h made = record {
  count = omega (arith, h.count, length-append statics (one ∷ []), length-append inits (init ∷ []));
  each = λ k static e.
      ⊎_elim
      (λ (old : slice_get statics k ≡ Some static).
      let found = h.each k static old in
      (found.0, get_left inits (init ∷ []) k found.0 found.1, found.2))
      (λ (last : (k ≡ length statics) × (static ≡ one)).
      let there : slice_get (inits ++ init ∷ []) k ≡ Some init = ap (slice_get (inits ++ init ∷ [])) (last.0 ∙ sym h.count) ∙ get_next inits init [] in
      let here : IsInit k static init = subst (λ (n : ℕ). IsInit n static init) (sym last.0) (subst (λ (s : Static). IsInit (length statics) s init) (sym last.1) made) in
      (init, there, here))
      (get_push statics one k static e);
}

pub inits_more : (statics : List Static) (inits : List StaticInit) (i n : ℕ) (one : Static) (init : StaticInit) → i < length statics → one ≡ get_or statics i one → n ≡ length inits →
    AreInits (take i statics) inits → IsInit n one init → AreInits (take (i + 1) statics) (inits ++ init ∷ [])
inits_more statics inits i n one init inside is number h made =
    let front : take i statics ++ one ∷ [] ≡ take (i + 1) statics = ap (λ (s : Static). take i statics ++ s ∷ []) is ∙ sym (take_more statics i one inside) in
    let mine : IsInit (length (take i statics)) one init = subst (λ (k : ℕ). IsInit k one init) (number ∙ h.count) made in
    subst (λ (ss : List Static). AreInits ss (inits ++ init ∷ [])) front (inits_push (take i statics) inits one init h mine)
