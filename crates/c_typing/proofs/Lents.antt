-- Lent scopes, with what is declared since.
use Rattle.std.proofs.Common.{◌≡◌, ℕ, Bool, true, false, List, [], ◌∷◌, ◌++◌, Option, Some, None, Result, Ok, Err, refl, sym, ap, subst, ◌∙◌, append_assoc}
use Rattle.std.specs.Prelude.{bytes_eq, is_some, cond}
use Rattle.std.specs.Option.{option_or}
use Rattle.std.proofs.lemmas.List.{append-nil}
use Rattle.c_decls.specs.declared.refusal.TypeError.{TypeError}
use Rattle.c_decls.specs.declared.refusal.TypeError.TheVariants as e
use Rattle.c_decls.specs.declared.refusal.TypeKind.{TypeKind}
use Rattle.c_decls.specs.declared.refusal.TypeKind.TheVariants.{DeclaredTwice}
use Rattle.c_decls.specs.Named.{PlainNamed}
use Rattle.c_decls.specs.ScopeList.{Table, ScopeList, no_scopes, named_in, found_from, found, first_or, innermost, with_name, with_name_in, entered, left}
use Rattle.c_decls.specs.Refusals.{Checked, Meets, refused, then, unless}
use Rattle.c_typing.specs.Lent.{longer, with_inner, joined, around}
use Rattle.c_typing.specs.Walks.{declared}

-- nothing is declared since
pub joined_none : (lent : ScopeList) → joined lent no_scopes ≡ lent
joined_none lent = by lent.file lent.inner
  where
    by : (file : Table) (inner : List Table) → with_inner [] (longer file inner []) ≡ record { file = file; inner = inner }
    by file [] = ap (λ f. let made : ScopeList = record { file = f; inner = [] } in made) (append-nil file)
    by file (scope ∷ outer) = ap (λ s. let made : ScopeList = record { file = file; inner = s ∷ outer } in made) (append-nil scope)

pub entered_around : (lent : Option ScopeList) (since : ScopeList) → around lent (entered since) ≡ entered (around lent since)
entered_around None since = refl
entered_around (Some lent) since = refl

pub left_joined : (lent since : ScopeList) → (since.inner ≡ [] → ⊥) → joined lent (left since) ≡ left (joined lent since)
left_joined lent since more = by since.file since.inner more
  where
    by : (file : Table) (inner : List Table) → (inner ≡ [] → ⊥) →
        joined lent (left (record { file = file; inner = inner })) ≡ left (joined lent (record { file = file; inner = inner }))
    by file [] more = absurd (more refl)
    by file (scope ∷ outer) more = refl

-- looking up

named_behind : (name : List ℕ) (xs ys : Table) → named_in name (xs ++ ys) ≡ option_or (named_in name xs) (named_in name ys)
named_behind name [] ys = refl
named_behind name (x ∷ xs) ys = by (bytes_eq name x.0) (named_behind name xs ys)
  where
    by : (b : Bool) → named_in name (xs ++ ys) ≡ option_or (named_in name xs) (named_in name ys) →
        cond b (Some x.1) (named_in name (xs ++ ys)) ≡ option_or (cond b (Some x.1) (named_in name xs)) (named_in name ys)
    by true rest = refl
    by false rest = rest

-- in the scopes inside
pub found_inside : (name : List ℕ) (f g : Table) (xs ys : List Table) → is_some (found_from [] name xs) ≡ true →
    found_from f name xs ≡ found_from g name (xs ++ ys)
found_inside name f g [] ys h = cc
found_inside name f g (scope ∷ xs) ys h = by (named_in name scope) (λ k. found_inside name f g xs ys k) h
  where
    by : (r : Option PlainNamed) → (is_some (found_from [] name xs) ≡ true → found_from f name xs ≡ found_from g name (xs ++ ys)) → is_some (option_or r (found_from [] name xs)) ≡ true →
        option_or r (found_from f name xs) ≡ option_or r (found_from g name (xs ++ ys))
    by None rest h = rest h
    by (Some named) rest h = refl

found_outside : (name : List ℕ) (f : Table) (xs ys : List Table) → is_some (found_from [] name xs) ≡ false →
    found_from f name (xs ++ ys) ≡ found_from f name ys
found_outside name f [] ys h = refl
found_outside name f (scope ∷ xs) ys h = by (named_in name scope) (λ k. found_outside name f xs ys k) h
  where
    by : (r : Option PlainNamed) → (is_some (found_from [] name xs) ≡ false → found_from f name (xs ++ ys) ≡ found_from f name ys) → is_some (option_or r (found_from [] name xs)) ≡ false →
        option_or r (found_from f name (xs ++ ys)) ≡ found_from f name ys
    by None rest h = rest h
    by (Some named) rest h = cc

found_in_file : (name : List ℕ) (f : Table) (xs : List Table) → is_some (found_from [] name xs) ≡ false →
    found_from f name xs ≡ named_in name f
found_in_file name f [] h = refl
found_in_file name f (scope ∷ xs) h = by (named_in name scope) (λ k. found_in_file name f xs k) h
  where
    by : (r : Option PlainNamed) → (is_some (found_from [] name xs) ≡ false → found_from f name xs ≡ named_in name f) → is_some (option_or r (found_from [] name xs)) ≡ false →
        option_or r (found_from f name xs) ≡ named_in name f
    by None rest h = rest h
    by (Some named) rest h = cc

found_longer : (name : List ℕ) (file more : Table) (inner : List Table) →
    found (longer file inner more) name
    ≡ option_or (named_in name (first_or file inner)) (option_or (named_in name more) (found_from file name inner))
found_longer name file more [] = named_behind name file more ∙ by (named_in name file) (named_in name more)
  where
    by : (r s : Option PlainNamed) → option_or r s ≡ option_or r (option_or s r)
    by None None = refl
    by None (Some named) = refl
    by (Some named) s = refl
found_longer name file more (scope ∷ outer) =
    ap (λ r. option_or r (found_from file name outer)) (named_behind name scope more)
    ∙ by (named_in name scope) (named_in name more) (found_from file name outer)
  where
    by : (r s t : Option PlainNamed) → option_or (option_or r s) t ≡ option_or r (option_or s (option_or r t))
    by None None t = refl
    by None (Some named) t = refl
    by (Some named) s t = refl

-- where no scope that was opened since has the name
pub found_joined : (name : List ℕ) (lent since : ScopeList) → is_some (found_from [] name since.inner) ≡ false →
    found (joined lent since) name ≡ option_or (named_in name (innermost lent)) (option_or (found since name) (found lent name))
found_joined name lent since h =
    let all = longer lent.file lent.inner since.file in
    found_outside name all.file since.inner all.inner h
    ∙ found_longer name lent.file since.file lent.inner
    ∙ ap (λ r. option_or (named_in name (innermost lent)) (option_or r (found lent name))) (sym (found_in_file name since.file since.inner h))

pub found_inner : (name : List ℕ) (lent since : ScopeList) → is_some (found_from [] name since.inner) ≡ true →
    found since name ≡ found (joined lent since) name
found_inner name lent since h =
    let all = longer lent.file lent.inner since.file in found_inside name since.file all.file since.inner all.inner h

pub found_first : (name : List ℕ) (lent since : ScopeList) (named : PlainNamed) → is_some (found_from [] name since.inner) ≡ false →
    named_in name (innermost lent) ≡ Some named → found (joined lent since) name ≡ Some named
found_first name lent since named h is =
    found_joined name lent since h ∙ ap (λ r. option_or r (option_or (found since name) (found lent name))) is

pub found_later : (name : List ℕ) (lent since : ScopeList) → is_some (found_from [] name since.inner) ≡ false →
    named_in name (innermost lent) ≡ None → found (joined lent since) name ≡ option_or (found since name) (found lent name)
found_later name lent since h is =
    found_joined name lent since h ∙ ap (λ r. option_or r (option_or (found since name) (found lent name))) is

-- declaring

unless_then : {A B : Type 0} (b : Bool) (kind : TypeKind) (line : ℕ) (x : A) (f : A → B) →
    unless b kind line (Ok (f x)) ≡ then (unless b kind line (Ok x)) (λ y. Ok (f y))
unless_then true kind line x f = refl
unless_then false kind line x f = refl

none_before : (name : List ℕ) (before more : Table) → named_in name before ≡ None → named_in name (before ++ more) ≡ named_in name more
none_before name before more h = named_behind name before more ∙ ap (λ r. option_or r (named_in name more)) h

some_before : (name : List ℕ) (before more : Table) → is_some (named_in name before) ≡ true → is_some (named_in name (before ++ more)) ≡ true
some_before name before more h = ap is_some (named_behind name before more) ∙ by (named_in name before) h
  where
    by : (r : Option PlainNamed) → is_some r ≡ true → is_some (option_or r (named_in name more)) ≡ true
    by None h = cc
    by (Some named) h = refl

-- a name that the innermost scope of those lent does not have
pub declared_joined : (line : ℕ) (name : List ℕ) (named : PlainNamed) (lent since : ScopeList) →
    (since.inner ≡ [] → named_in name (innermost lent) ≡ None) →
    declared line name named (joined lent since) ≡ then (declared line name named since) (λ s. Ok (joined lent s))
declared_joined line name named lent since free = by since.file since.inner free lent.file lent.inner refl refl
  where
    by : (file : Table) (inner : List Table) → (inner ≡ [] → named_in name (innermost lent) ≡ None) →
        (first : Table) (outer : List Table) → lent.file ≡ first → lent.inner ≡ outer →
        declared line name named (joined (record { file = first; inner = outer }) (record { file = file; inner = inner }))
        ≡ then (declared line name named (record { file = file; inner = inner })) (λ s. Ok (joined (record { file = first; inner = outer }) s))
    by file (scope ∷ inner) free first outer p q =
        unless_then (is_some (named_in name scope)) DeclaredTwice line (with_name (record { file = file; inner = scope ∷ inner }) name named)
        (λ s. joined (record { file = first; inner = outer }) s)
    by file [] free first [] p q =
        let none : named_in name first ≡ None = ap (λ t. named_in name (first_or t [])) (sym p) ∙ ap (λ i. named_in name (first_or lent.file i)) (sym q) ∙ free refl in
        ap (λ r. unless (is_some r) DeclaredTwice line (Ok (let made : ScopeList = record { file = (first ++ file) ++ (name, named) ∷ []; inner = [] } in made))) (none_before name first file none)
        ∙ ap (λ f. unless (is_some (named_in name file)) DeclaredTwice line (Ok (let made : ScopeList = record { file = f; inner = [] } in made))) (append_assoc first file ((name, named) ∷ []))
        ∙ unless_then (is_some (named_in name file)) DeclaredTwice line (with_name (record { file = file; inner = [] }) name named)
        (λ s. joined (record { file = first; inner = [] }) s)
    by file [] free first (scope ∷ outer) p q =
        let none : named_in name scope ≡ None = ap (λ i. named_in name (first_or lent.file i)) (sym q) ∙ free refl in
        ap (λ r. unless (is_some r) DeclaredTwice line (Ok (let made : ScopeList = record { file = first; inner = ((scope ++ file) ++ (name, named) ∷ []) ∷ outer } in made))) (none_before name scope file none)
        ∙ ap (λ f. unless (is_some (named_in name file)) DeclaredTwice line (Ok (let made : ScopeList = record { file = first; inner = f ∷ outer } in made))) (append_assoc scope file ((name, named) ∷ []))
        ∙ unless_then (is_some (named_in name file)) DeclaredTwice line (with_name (record { file = file; inner = [] }) name named)
        (λ s. joined (record { file = first; inner = scope ∷ outer }) s)

-- a name that it has
pub declared_twice : (line : ℕ) (name : List ℕ) (named : PlainNamed) (lent since : ScopeList) → since.inner ≡ [] →
    is_some (named_in name (innermost lent)) ≡ true → declared line name named (joined lent since) ≡ refused DeclaredTwice line
declared_twice line name named lent since none has = by since.inner none lent.file lent.inner has
  where
    by : (inner : List Table) → inner ≡ [] → (first : Table) (outer : List Table) → is_some (named_in name (first_or first outer)) ≡ true →
        declared line name named (with_inner inner (longer first outer since.file)) ≡ refused DeclaredTwice line
    by (scope ∷ inner) none first outer has = cc
    by [] none first [] has =
        ap (λ b. unless b DeclaredTwice line (Ok (with_name (longer first [] since.file) name named))) (some_before name first since.file has)
    by [] none first (scope ∷ outer) has =
        ap (λ b. unless b DeclaredTwice line (Ok (with_name (longer first (scope ∷ outer) since.file) name named))) (some_before name scope since.file has)

module _ {V : Type 0} where
  joined_meets : (result : Result V TypeError) (lent after : ScopeList) (answer : Checked ScopeList) →
      Meets (λ (v : V). after) result answer → Meets (λ (v : V). joined lent after) result (then answer (λ s. Ok (joined lent s)))
  joined_meets (Ok v) lent after answer h = ap (λ w. then w (λ s. Ok (joined lent s))) h
  joined_meets (Err (e.Bad kind line)) lent after answer h = ap (λ w. then w (λ s. Ok (joined lent s))) h
  joined_meets (Err e.NoMemory) lent after answer h = tt

  -- what code answers that declares beside lent scopes
  pub declares_beside : (result : Result V TypeError) (line : ℕ) (name : List ℕ) (named : PlainNamed) (lent since after : ScopeList) →
      (since.inner ≡ [] → named_in name (innermost lent) ≡ None) → Meets (λ (v : V). after) result (declared line name named since) →
      Meets (λ (v : V). joined lent after) result (declared line name named (joined lent since))
  declares_beside result line name named lent since after free h =
      let P : Checked ScopeList → Type 0 = λ w. Meets (λ (v : V). joined lent after) result w in
      subst P (sym (declared_joined line name named lent since free)) (joined_meets result lent after (declared line name named since) h)
