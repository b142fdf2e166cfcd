-- Scopes as lists.
use Rattle.std.proofs.Common.{◌≡◌, ℕ, zero, suc, ◌+◌, ◌-◌, ◌<◌, ◌≤◌, Bool, true, false, cond, List, [], ◌∷◌, ◌++◌, map, reverse, length, take, set, get_or, Option, Some, None, refl, sym, ap, subst, ◌∙◌, arith, Bor}
use Rattle.std.specs.Prelude.{bytes_eq, option_map}
use Rattle.std.specs.Option.{option_copied, option_or}
use Rattle.std.specs.Map.{lookup}
use Rattle.std.proofs.lemmas.List.{reverse-append, take_all, length-set}
use Rattle.std.proofs.Math.Seq.{take-suc, take-suc-set}
use Rattle.c_decls.specs.Named.{PlainNamed}
use Rattle.c_decls.specs.ScopeList.{Table, ScopeList, named_in, found_from, with_name_in}

module _ {K X : Type 0} (bytes : K → List ℕ) (plain : X → PlainNamed) (name : List ℕ) where
  -- a look-up among entries is one among their names
  pub named_in-map : (es : List (K × X)) → option_map plain (lookup (λ k. bytes_eq name (bytes k)) es) ≡ named_in name (map (λ e. (bytes e.0, plain e.1)) es)
  named_in-map [] = refl
  named_in-map (e ∷ es) = by (bytes_eq name (bytes e.0)) (named_in-map es)
    where
      by : (b : Bool) → option_map plain (lookup (λ k. bytes_eq name (bytes k)) es) ≡ named_in name (map (λ e. (bytes e.0, plain e.1)) es)
          → option_map plain (cond b (Some e.1) (lookup (λ k. bytes_eq name (bytes k)) es)) ≡ cond b (Some (plain e.1)) (named_in name (map (λ e. (bytes e.0, plain e.1)) es))
      by true rest = refl
      by false rest = rest

  -- a name that is not there is at no entry
  pub absent : (es : List (K × X)) → named_in name (map (λ e. (bytes e.0, plain e.1)) es) ≡ None → lookup (λ k. bytes_eq name (bytes k)) es ≡ None
  absent es none = by (lookup (λ k. bytes_eq name (bytes k)) es) (named_in-map es ∙ none)
    where
      by : (r : Option X) → option_map plain r ≡ None → r ≡ None
      by None e = refl
      by (Some x) e = cc

-- what is lent is what is there
pub lent : {X Y : Type 0} (f : X → Y) (r : Option (Bor X)) (s : Option X) → option_copied r ≡ s → option_map (λ x. f x.now) r ≡ option_map f s
lent f None s e = ap (option_map f) e
lent f (Some x) s e = ap (option_map f) e

module _ {A : Type 0} where
  -- the front of a list, turned round
  pub reverse_take : (xs : List A) (n : ℕ) (d : A) → n < length xs → reverse (take (suc n) xs) ≡ get_or xs n d ∷ reverse (take n xs)
  reverse_take xs n d within = ap reverse (take-suc xs n d within) ∙ reverse-append (take n xs) (get_or xs n d ∷ [])

  -- a list turned round begins with its last item
  pub reverse_all : (xs : List A) (n : ℕ) (d : A) → n + 1 ≡ length xs → reverse xs ≡ get_or xs n d ∷ reverse (take n xs)
  reverse_all xs n d long = ap reverse (sym (take_all (suc n) xs (omega arith))) ∙ reverse_take xs n d (omega arith)

  -- also where the last item is another
  pub reverse_set : (xs : List A) (n : ℕ) (y : A) → n + 1 ≡ length xs → reverse (set xs n y) ≡ y ∷ reverse (take n xs)
  reverse_set xs n y long =
      ap reverse (sym (take_all (suc n) (set xs n y) (omega (arith, length-set xs n y))))
      ∙ ap reverse (take-suc-set xs n y (omega arith)) ∙ reverse-append (take n xs) (y ∷ [])

-- the innermost of some scopes takes a name
pub with_name_last : (file : Table) (scopes : List Table) (n : ℕ) (scope new : Table) (name : List ℕ) (named : PlainNamed)
    → n + 1 ≡ length scopes → scope ≡ get_or scopes n scope → new ≡ scope ++ (name, named) ∷ []
    → with_name_in file (reverse scopes) name named ≡ record { file = file; inner = reverse (set scopes n new) }
with_name_last file scopes n scope new name named long at added =
    ap (λ s. with_name_in file s name named) (reverse_all scopes n scope long ∙ ap (λ s. s ∷ reverse (take n scopes)) (sym at))
    ∙ ap (λ s. let made : ScopeList = record { file = file; inner = s } in made) (ap (λ s. s ∷ reverse (take n scopes)) (sym added) ∙ sym (reverse_set scopes n new long))
