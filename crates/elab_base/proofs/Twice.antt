-- When a declaration comes twice.
use Rattle.std.proofs.Common.{◌≡◌, ℕ, Bool, true, false, List, [], ◌∷◌, Option, Some, None, refl, subst, sym, ◌∙◌}
use Rattle.std.specs.Prelude.{not, ◌&&◌}
use Rattle.c_types.specs.Types.{PlainType}
use Rattle.c_decls.specs.Named.{PlainNamed, Object, Register, Function, Typedef, Constant, BuiltIn, Tag}
use Rattle.c_decls.specs.ScopeList.{Table, ScopeList, IsSameAgain, IsTwiceIn, IsTwice, named_in, innermost}
use Rattle.c_decls.specs.Typed.{same}
use Rattle.c_decls.specs.TypedEquations.{same_equal, same_itself}
use Rattle.elaboration.specs.Locals.{is_same_again, is_file, is_twice_in, is_twice}

same_by : (a b : PlainType) → a ≡ b → same a b ≡ true
same_by a b e = let P : PlainType → Type 0 = λ t. same a t ≡ true in subst P e (same_itself a)

again_is : (a b : PlainNamed) → IsSameAgain a b → is_same_again a b ≡ true
again_is (Object s i) (Object t j) h = same_by s t h
again_is (Function s i) (Function t j) h = same_by s t h
again_is (Typedef s) (Typedef t) h = same_by s t h
again_is a b h = absurd h

is_again : (a b : PlainNamed) → is_same_again a b ≡ true → IsSameAgain a b
is_again (Object s i) (Object t j) e = same_equal s t e
is_again (Function s i) (Function t j) e = same_equal s t e
is_again (Typedef s) (Typedef t) e = same_equal s t e
is_again a b e = cc

unless_true : (b : Bool) → ¬ (b ≡ true) → not (true && b) ≡ true
unless_true true h = absurd (h refl)
unless_true false h = refl

where_true : (b : Bool) → ¬ (¬ (b ≡ true)) → not (true && b) ≡ false
where_true true h = refl
where_true false h = absurd (h (λ (e : false ≡ true). cc))

twice_in : (inner : List Table) (named : PlainNamed) (found : Option PlainNamed) → IsTwiceIn inner named found → is_twice_in (is_file inner) named found ≡ true
twice_in inner named None h = absurd h
twice_in [] named (Some before) h =
    unless_true (is_same_again before named) (λ e. h (refl, is_again before named e))
twice_in (scope ∷ outer) named (Some before) h = refl

once_in : (inner : List Table) (named : PlainNamed) (found : Option PlainNamed) → ¬ (IsTwiceIn inner named found) → is_twice_in (is_file inner) named found ≡ false
once_in inner named None h = refl
once_in [] named (Some before) h =
    where_true (is_same_again before named) (λ n. h (λ p. n (again_is before named p.1)))
once_in (scope ∷ outer) named (Some before) h =
    let none : (scope ∷ outer) ≡ [] → ⊥ = λ e. cc in absurd (h (λ p. none p.0))

pub twice_is : (scopes : ScopeList) (name : List ℕ) (named : PlainNamed) → IsTwice scopes name named → is_twice scopes name named ≡ true
twice_is scopes name named h = twice_in scopes.inner named (named_in name (innermost scopes)) h

pub not_twice : (scopes : ScopeList) (name : List ℕ) (named : PlainNamed) → ¬ (IsTwice scopes name named) → is_twice scopes name named ≡ false
not_twice scopes name named h = once_in scopes.inner named (named_in name (innermost scopes)) h
