-- What scopes declare: names, who owns what they stand for, short names, and what stands outside.
use Rattle.core_soundness.proofs.Words.Std.{◌≡◌, ◌⊎◌, ℕ, Bool, true, false, cond, List, [], ◌∷◌, ◌++◌, Option, Some, None, refl, sym, ap, ◌∙◌, subst, inl, ⊎_elim, bytes_eq, ◌≤◌, ◌<◌, ◌+◌, zero, suc, nat_eq, length, slice_get, slice_set, arith, eqb-true, length-append, if◌then◌else◌, unwrap_or, eqb-false, bytes_eq-Decides, option_or, IfSome}
use Rattle.core_soundness.proofs.Words.Trees.{Form, first_name, word_name, leads_to_name, name_of, name_among, Tree, Trees, Leaf, At, Node, none, ◌▹◌, Word}
use Rattle.core_soundness.proofs.Words.Types.{PlainType, PlainNamed, Tag, ScopeList, Table, named_in, found_from, found, with_name, tag_name, first_or, innermost}
use Rattle.core_soundness.proofs.Words.Core.{IsShort}
use Rattle.core_soundness.proofs.Words.Elaborating.{plain_name, built_in_at, Declared, Walked, is_realloc}
use Rattle.core_soundness.proofs.Words.Facts.{is_register, NoRegister, TakesAddress, Spoken, AllSpoken, WordNames, Names, AllNames, TableFits, TablesFit, ScopesFit, World, FileFits, Written, AllWritten}
use Rattle.c_tree.specs.Forms as f
use Rattle.c_tree.specs.declared.operator.UnaryOp.TheVariants as u
use Rattle.c_decls.specs.Named as n
use Rattle.c_decls.specs.Named.{Function}
use Rattle.c_decls.specs.ScopeList as scopes
use Rattle.core_soundness.proofs.Choices.{either_way, some_same}

-- names that stand for `realloc`: expressions declare no names but tags, and these have names of their own

-- whether what is found under a name is `realloc`
abbrev pub frees : Option PlainNamed → Bool
frees named = is_realloc (built_in_at named)

-- a table has no `realloc` under the name of a tag
abbrev pub SafeTable : Table → Type 0
SafeTable table = (x : List ℕ) → frees (named_in (tag_name x) table) ≡ false

abbrev pub SafeAll : List Table → Type 0
SafeAll [] = Unit {0}
SafeAll (scope ∷ outer) = SafeTable scope × SafeAll outer

pub record Safe (s : ScopeList) : Type 0 where
  pub file : SafeTable s.file
  pub inner : SafeAll s.inner

-- a name that is a new tag of the second table
abbrev pub IsNewTag : List ℕ → Table → Table → Type 0
IsNewTag name one other =
    (x : List ℕ) × (type : PlainType) × (name ≡ tag_name x) × (named_in name one ≡ None) × (named_in name other ≡ Some (Tag type))

-- a table has more tags than another, and the same names else
abbrev pub MoreTags : Table → Table → Type 0
MoreTags one other = (name : List ℕ) → (named_in name other ≡ named_in name one) ⊎ IsNewTag name one other

abbrev pub MoreAll : List Table → List Table → Type 0
MoreAll [] [] = Unit {0}
MoreAll [] (y ∷ ys) = ⊥
MoreAll (x ∷ xs) [] = ⊥
MoreAll (x ∷ xs) (y ∷ ys) = MoreTags x y × MoreAll xs ys

pub record More (one other : ScopeList) : Type 0 where
  pub file : MoreTags one.file other.file
  pub inner : MoreAll one.inner other.inner

pub tags_refl : (t : Table) → MoreTags t t
tags_refl t name = inl refl

pub all_refl : (ts : List Table) → MoreAll ts ts
all_refl [] = tt
all_refl (t ∷ ts) = (tags_refl t, all_refl ts)

pub more_refl : (s : ScopeList) → More s s
more_refl s = record { file = tags_refl s.file; inner = all_refl s.inner }

pub tags_trans : (a b c : Table) → MoreTags a b → MoreTags b c → MoreTags a c
tags_trans a b c x y name = search arith

pub all_trans : (a b c : List Table) → MoreAll a b → MoreAll b c → MoreAll a c
all_trans (s ∷ ss) (t ∷ ts) (u ∷ us) x y = (tags_trans s t u x.0 y.0, all_trans ss ts us x.1 y.1)
all_trans a b c x y = search arith fits 100

pub more_trans : (a b c : ScopeList) → More a b → More b c → More a c
more_trans a b c x y = record { file = tags_trans a.file b.file c.file x.file y.file; inner = all_trans a.inner b.inner c.inner x.inner y.inner }

-- no scope, the tail of scopes, and what is left of them

pub no_scope : (inner : List Table) → length inner ≡ 0 → [] ≡ inner
no_scope [] e = refl
no_scope (t ∷ ts) e = absurd (omega (arith, e))

pub tail_more : (xs ys : List Table) → MoreAll xs ys → MoreAll (scopes.tail xs) (scopes.tail ys)
tail_more xs ys m = search arith fits 100

pub left_more : (s t : ScopeList) → More s t → More (scopes.left s) (scopes.left t)
left_more s t m = record { file = m.file; inner = tail_more s.inner t.inner m.inner }

tags_safe : (a b : Table) → MoreTags a b → SafeTable a → SafeTable b
tags_safe a b m s x = search arith

all_safe : (a b : List Table) → MoreAll a b → SafeAll a → SafeAll b
all_safe (s ∷ ss) (t ∷ ts) m h = (tags_safe s t m.0 h.0, all_safe ss ts m.1 h.1)
all_safe a b m s = search arith fits 100

pub more_safe : (a b : ScopeList) → More a b → Safe a → Safe b
more_safe a b m s = record { file = tags_safe a.file b.file m.file s.file; inner = all_safe a.inner b.inner m.inner s.inner }

-- what is found under the name of a tag is no `realloc`
or_safe : (a b : Option PlainNamed) → frees a ≡ false → frees b ≡ false → frees (option_or a b) ≡ false
or_safe a b x y = search arith fits 100

tag_found : (file : Table) (inner : List Table) (x : List ℕ) → SafeTable file → SafeAll inner → frees (found_from file (tag_name x) inner) ≡ false
tag_found file [] x s h = s x
tag_found file (t ∷ ts) x s h = or_safe (named_in (tag_name x) t) (found_from file (tag_name x) ts) (h.0 x) (tag_found file ts x s h.1)

pub found_same : (f g : Table) (a b : List Table) (name : List ℕ) → MoreTags f g → MoreAll a b → SafeTable f → SafeAll a → frees (found_from g name b) ≡ frees (found_from f name a)
found_same f g (t ∷ ts) (u ∷ us) name mf m sf s =
    let rest = found_same f g ts us name mf m.1 sf s.1 in
    ⊎_elim
    (λ (e : named_in name u ≡ named_in name t).
    ap (λ o. frees (option_or o (found_from g name us))) e ∙ (search arith fits 100))
    (λ (e : IsNewTag name t u).
    ap (λ o. frees (option_or o (found_from g name us))) e.4
    ∙ sym (ap (λ o. frees (option_or o (found_from f name ts))) e.3 ∙ ap (λ n. frees (found_from f n ts)) e.2 ∙ tag_found f ts e.0 sf s.1))
    (m.0 name)
found_same f g a b name mf m sf s = search arith fits 100

-- a scope is open
abbrev pub HasScope : List Table → Type 0
HasScope [] = ⊥
HasScope (scope ∷ outer) = Unit {0}

pub scope_more : (ss ts : List Table) → MoreAll ss ts → HasScope ss → HasScope ts
scope_more ss ts m h = search arith fits 100

-- a name more

pub named_push : (name key : List ℕ) (v : PlainNamed) (t : Table) → named_in name (t ++ (key, v) ∷ []) ≡ option_or (named_in name t) (cond (bytes_eq name key) (Some v) None)
named_push name key v [] = refl
named_push name key v (e ∷ t) =
    elim (bytes_eq name e.0) as (λ b. cond b (Some e.1) (named_in name (t ++ (key, v) ∷ [])) ≡ option_or (cond b (Some e.1) (named_in name t)) (cond (bytes_eq name key) (Some v) None)) [
      | true ↦ refl
      | false ↦ named_push name key v t
    ]

-- a tag more, in the innermost scope
pub with_tag_more : (s : ScopeList) (x : List ℕ) (type : PlainType) → More s (with_name s (tag_name x) (Tag type))
with_tag_more s x type = grind (arith, bytes_eq, true, bytes_eq-Decides, named_push, false, tags_refl, all_refl)

-- any name more that is no `realloc`
pushed_safe : (t : Table) (key : List ℕ) (v : PlainNamed) → frees (Some v) ≡ false → SafeTable t → SafeTable (t ++ (key, v) ∷ [])
pushed_safe t key v e s x =
    ap frees (named_push (tag_name x) key v t)
    ∙ or_safe (named_in (tag_name x) t) (cond (bytes_eq (tag_name x) key) (Some v) None) (s x) (either_way (λ x. frees x ≡ false) (bytes_eq (tag_name x) key) e refl)

pub with_name_safe : (s : ScopeList) (key : List ℕ) (v : PlainNamed) → frees (Some v) ≡ false → Safe s → Safe (with_name s key v)
with_name_safe s key v e h = grind (arith, pushed_safe)

pub entered_safe : (s : ScopeList) → Safe s → Safe (scopes.entered s)
entered_safe s h = record { file = h.file; inner = (λ x. refl, h.inner) }

pub left_safe : (s : ScopeList) → Safe s → Safe (scopes.left s)
left_safe s h = record { file = h.file; inner = (search arith fits 100) }

-- the functions of a text: each has one number by its name, and each body that was walked belongs to one of them

-- lists with one thing more

pub get_left : {X : Type 0} (xs ys : List X) (i : ℕ) (x : X) → slice_get xs i ≡ Some x → slice_get (xs ++ ys) i ≡ Some x
get_left [] ys i x e = cc
get_left (y ∷ xs) ys zero x e = e
get_left (y ∷ xs) ys (suc i) x e = get_left xs ys i x e

pub get_last : {X : Type 0} (xs : List X) (y : X) → slice_get (xs ++ y ∷ []) (length xs) ≡ Some y
get_last [] y = refl
get_last (x ∷ xs) y = get_last xs y

pub get_push : {X : Type 0} (xs : List X) (y : X) (i : ℕ) (x : X) → slice_get (xs ++ y ∷ []) i ≡ Some x → (slice_get xs i ≡ Some x) ⊎ ((i ≡ length xs) × (x ≡ y))
get_push (z ∷ xs) y (suc i) x e = search (arith, (get_push xs y i x e))
get_push xs y i x e = search (arith, some_same) fits 100

pub get_below : {X : Type 0} (xs : List X) (i : ℕ) (x : X) → slice_get xs i ≡ Some x → i < length xs
get_below [] i x e = cc
get_below (y ∷ xs) zero x e = omega arith
get_below (y ∷ xs) (suc i) x e = omega (arith, get_below xs i x e)

pub set_same : {X : Type 0} (xs : List X) (i : ℕ) (old x : X) → slice_get xs i ≡ Some old → slice_get (slice_set xs i x) i ≡ Some x
set_same [] i old x e = cc
set_same (y ∷ xs) zero old x e = refl
set_same (y ∷ xs) (suc i) old x e = set_same xs i old x e

pub set_get : {X : Type 0} (xs : List X) (i : ℕ) (y : X) (j : ℕ) (x : X) → slice_get (slice_set xs i y) j ≡ Some x → ((j ≡ i) × (x ≡ y)) ⊎ ((j ≡ i → ⊥) × (slice_get xs j ≡ Some x))
set_get (z ∷ xs) (suc i) y (suc j) x e = search (arith, (set_get xs i y j x e))
set_get xs i y j x e = search (arith, some_same) fits 100

pub set_other : {X : Type 0} (xs : List X) (i : ℕ) (y : X) (j : ℕ) (x : X) → (j ≡ i → ⊥) → slice_get xs j ≡ Some x → slice_get (slice_set xs i y) j ≡ Some x
set_other (z ∷ xs) (suc i) y (suc j) x n e = set_other xs i y j x (λ h. n (ap suc h)) e
set_other xs i y j x n e = search arith fits 100

-- file scopes that keep their names, and have no other functions

pub record FileKeeps (f g : Table) : Type 0 where
  pub kept : (name : List ℕ) (v : PlainNamed) → named_in name f ≡ Some v → named_in name g ≡ Some v
  pub same : (name : List ℕ) (type : PlainType) (i : ℕ) → named_in name g ≡ Some (Function type i) → named_in name f ≡ Some (Function type i)

pub keeps_refl : (f : Table) → FileKeeps f f
keeps_refl f = record { kept = λ name v e. e; same = λ name type i e. e }

pub keeps_trans : (f g h : Table) → FileKeeps f g → FileKeeps g h → FileKeeps f h
keeps_trans f g h x y = record { kept = λ name v e. y.kept name v (x.kept name v e); same = λ name type i e. x.same name type i (y.same name type i e) }

pub tag_kept : (f g : Table) (name : List ℕ) (v : PlainNamed) → (named_in name g ≡ named_in name f) ⊎ IsNewTag name f g → named_in name f ≡ Some v → named_in name g ≡ Some v
tag_kept f g name v h4 h = search arith fits 100

pub more_keeps : (a b : ScopeList) → More a b → FileKeeps a.file b.file
more_keeps a b m = search (arith, tag_kept)

all_length : (a b : List Table) → MoreAll a b → length b ≡ length a
all_length (s ∷ ss) (t ∷ ts) m = ap suc (all_length ss ts m.1)
all_length a b m = search arith fits 100

pub more_depth : (a b : ScopeList) → More a b → length b.inner ≡ length a.inner
more_depth a b m = all_length a.inner b.inner m.inner

-- a name more that is no function
abbrev pub IsNoFunction : PlainNamed → Type 0
IsNoFunction (Function type i) = ⊥
IsNoFunction other = Unit {0}

push_kept : (name key : List ℕ) (v w : PlainNamed) (t : Table) → named_in name t ≡ Some w → named_in name (t ++ (key, v) ∷ []) ≡ Some w
push_kept name key v w t e = named_push name key v t ∙ ap (λ o. option_or o (cond (bytes_eq name key) (Some v) None)) e

-- what a name is in a table with one name more
pub record Pushed (name key : List ℕ) (v w : PlainNamed) (t : Table) : Type 0 where
  pub absent : named_in name t ≡ None
  pub key_is : name ≡ key
  pub value : v ≡ w

pub push_get : (name key : List ℕ) (v w : PlainNamed) (t : Table) → named_in name (t ++ (key, v) ∷ []) ≡ Some w → (named_in name t ≡ Some w) ⊎ Pushed name key v w t
push_get name key v w t e = grind (arith, named_push, bytes_eq, true, bytes_eq-Decides, some_same, false)

-- scopes of which each name is such a one

module _ (P : PlainNamed → Type 0) where
  pub pushed_fits : (name : List ℕ) (v : PlainNamed) (t : Table) → P v → TableFits P t → TableFits P (t ++ (name, v) ∷ [])
  pushed_fits name v t h f key w e = ⊎_elim (λ (q : named_in key t ≡ Some w). f key w q) (λ (q : Pushed key name v w t). subst P q.value h) (push_get key name v w t e)

  pub none_fits : TableFits P []
  none_fits name v e = cc

  pub first_fits : (inner : List Table) → TablesFit P inner → TableFits P (first_or [] inner)
  first_fits inner h = search (arith, none_fits) fits 100

  tail_fits : (ts : List Table) → TablesFit P ts → TablesFit P (scopes.tail ts)
  tail_fits ts h = search arith fits 100

  pub innermost_fits : (s : ScopeList) → ScopesFit P P s → TableFits P (innermost s)
  innermost_fits s h = grind arith

  from_fits : (file : Table) (inner : List Table) (name : List ℕ) (v : PlainNamed) → TableFits P file → TablesFit P inner → found_from file name inner ≡ Some v → P v
  from_fits file [] name v f h e = f name v e
  from_fits file (t ∷ ts) name v f h e = by (named_in name t) refl (from_fits file ts name v f h.1) e
    where
      by : (o : Option PlainNamed) → named_in name t ≡ o → (found_from file name ts ≡ Some v → P v) → option_or o (found_from file name ts) ≡ Some v → P v
      by None q again k = again k
      by (Some x) q again k = h.0 name v (q ∙ k)

  pub name_fits : (s : ScopeList) (name : List ℕ) (v : PlainNamed) → ScopesFit P P s → found s name ≡ Some v → P v
  name_fits s name v h e = from_fits s.file s.inner name v h.file h.inner e

module _ (P Q : PlainNamed → Type 0) where
  pub named_fits : (s : ScopeList) (name : List ℕ) (v : PlainNamed) → P v → Q v → ScopesFit P Q s → ScopesFit P Q (with_name s name v)
  named_fits s name v p q f = by s.inner f.inner
    where
      by : (inner : List Table) → TablesFit Q inner → ScopesFit P Q (scopes.with_name_in s.file inner name v)
      by [] g = record { file = pushed_fits P name v s.file p f.file; inner = tt }
      by (t ∷ ts) g = record { file = f.file; inner = (pushed_fits Q name v t q g.0, g.1) }

  pub entered_fit : (s : ScopeList) → ScopesFit P Q s → ScopesFit P Q (scopes.entered s)
  entered_fit s h = record { file = h.file; inner = (none_fits Q, h.inner) }

  pub left_fit : (s : ScopeList) → ScopesFit P Q s → ScopesFit P Q (scopes.left s)
  left_fit s h = record { file = h.file; inner = tail_fits Q s.inner h.inner }

  tables_fit : ((v : PlainNamed) → P v → Q v) → (ts : List Table) → TablesFit P ts → TablesFit Q ts
  tables_fit f [] h = tt
  tables_fit f (t ∷ ts) h = (λ name v e. f v (h.0 name v e), tables_fit f ts h.1)

  -- the same of other names
  pub scopes_fit : ((v : PlainNamed) → P v → Q v) → (s : ScopeList) → ScopesFit P P s → ScopesFit Q Q s
  scopes_fit f s h = record { file = λ name v e. f v (h.file name v e); inner = tables_fit f s.inner h.inner }

pub with_name_keeps : (s : ScopeList) (key : List ℕ) (v : PlainNamed) → IsNoFunction v → FileKeeps s.file (with_name s key v).file
with_name_keeps s key v h = grind (arith, push_kept, push_get, keeps_refl)

pub with_name_depth : (s : ScopeList) (key : List ℕ) (v : PlainNamed) → length (with_name s key v).inner ≡ length s.inner
with_name_depth s key v = grind arith

-- what holds of functions, the file scope and the bodies that were walked

pub record Owned (fs : List Declared) (ws : List Walked) (k : ℕ) (w : Walked) : Type 0 where
  pub index : ℕ
  pub declared : Declared
  pub there : slice_get fs index ≡ Some declared
  pub defined : declared.defined ≡ Some k
  pub name : declared.name ≡ w.name

pub record Named (fs : List Declared) (file : Table) (ws : List Walked) : Type 0 where
  pub declared : (i : ℕ) (d : Declared) → slice_get fs i ≡ Some d → (type : PlainType) × (named_in d.name file ≡ Some (Function type i))
  pub found : (name : List ℕ) (type : PlainType) (i : ℕ) → named_in name file ≡ Some (Function type i) → (d : Declared) × (slice_get fs i ≡ Some d) × (d.name ≡ name)
  pub owned : (k : ℕ) (w : Walked) → slice_get ws k ≡ Some w → Owned fs ws k w
  pub single : (i j k : ℕ) (d e : Declared) → slice_get fs i ≡ Some d → slice_get fs j ≡ Some e → d.defined ≡ Some k → e.defined ≡ Some k → i ≡ j
  pub bound : (i k : ℕ) (d : Declared) → slice_get fs i ≡ Some d → d.defined ≡ Some k → k ≤ length ws

-- each body that is begun has ended
abbrev pub Strict : List Declared → List Walked → Type 0
Strict fs ws = (i k : ℕ) (d : Declared) → slice_get fs i ≡ Some d → d.defined ≡ Some k → k < length ws

pub record Tied (fs : List Declared) (file : Table) (ws : List Walked) (gs : List Declared) (other : Table) (vs : List Walked) : Type 0 where
  pub kept : (i : ℕ) (d : Declared) → slice_get fs i ≡ Some d → slice_get gs i ≡ Some d
  pub named : Named fs file ws → Named gs other vs
  pub strict : Strict fs ws → Strict gs vs

pub tied_refl : (fs : List Declared) (file : Table) (ws : List Walked) → Tied fs file ws fs file ws
tied_refl fs file ws = record { kept = λ i d e. e; named = λ h. h; strict = λ h. h }

pub tied_trans : (fs gs hs : List Declared) (f g h : Table) (us vs ws : List Walked) → Tied fs f us gs g vs → Tied gs g vs hs h ws → Tied fs f us hs h ws
tied_trans fs gs hs f g h us vs ws x y = grind arith

pub tied_file : (fs : List Declared) (f g : Table) (ws : List Walked) → FileKeeps f g → Tied fs f ws fs g ws
tied_file fs f g ws keep = search arith

pub tied_same : (fs gs : List Declared) (f g : Table) (ws vs : List Walked) → gs ≡ fs → vs ≡ ws → FileKeeps f g → Tied fs f ws gs g vs
tied_same fs gs f g ws vs e e2 keep = search (arith, tied_file)

-- a function more, whose name the file scope does not have yet

module _ (fs : List Declared) (file : Table) (ws : List Walked) (name : List ℕ) (type : PlainType) (absent : named_in name file ≡ None) where
  abbrev new : Declared
  new = record { name = name; defined = None }

  abbrev more : List Declared
  more = fs ++ new ∷ []

  abbrev with_it : Table
  with_it = file ++ (name, Function type (length fs)) ∷ []

  never_defined : (d : Declared) (k : ℕ) → d ≡ new → d.defined ≡ Some k → ⊥
  never_defined d k e h = let clash : None ≡ Some k = sym (ap (λ (x : Declared). x.defined) e) ∙ h in cc

  -- one that has a definition was there before
  before : (i k : ℕ) (d : Declared) → slice_get more i ≡ Some d → d.defined ≡ Some k → slice_get fs i ≡ Some d
  before i k d e h = ⊎_elim (λ (q : slice_get fs i ≡ Some d). q) (λ (q : (i ≡ length fs) × (d ≡ new)). absurd (never_defined d k q.1 h)) (get_push fs new i d e)

  pub here : named_in name with_it ≡ Some (Function type (length fs))
  here = search (arith, named_push, bytes_eq, bytes_eq-Decides)

  pub tied_function : Tied fs file ws more with_it ws
  tied_function = record {
    kept = λ i d e. get_left fs (new ∷ []) i d e;
    named = λ h. record {
      declared = λ i d e.
          ⊎_elim
          (λ (q : slice_get fs i ≡ Some d). let x = h.declared i d q in (x.0, push_kept d.name name (Function type (length fs)) (Function x.0 i) file x.1))
          (λ (q : (i ≡ length fs) × (d ≡ new)). (type, subst (λ (y : Declared). named_in y.name with_it ≡ Some (Function type i)) (sym q.1) (here ∙ ap (λ n. Some (Function type n)) (sym q.0))))
          (get_push fs new i d e);
      found = λ key t i e.
          ⊎_elim
          (λ (q : named_in key file ≡ Some (Function t i)). let x = h.found key t i q in (x.0, get_left fs (new ∷ []) i x.0 x.1, x.2))
          (λ (q : Pushed key name (Function type (length fs)) (Function t i) file). (new, subst (λ n. slice_get more n ≡ Some new) (number_is q.value) (get_last fs new), sym q.key_is))
          (push_get key name (Function type (length fs)) (Function t i) file e);
      owned = λ k w e. let x = h.owned k w e in record { index = x.index; declared = x.declared; there = get_left fs (new ∷ []) x.index x.declared x.there; defined = x.defined; name = x.name };
      single = λ i j k d e x y p q. h.single i j k d e (before i k d x p) (before j k e y q) p q;
      bound = λ i k d x p. h.bound i k d (before i k d x p) p;
    };
    strict = λ h i k d x p. h i k d (before i k d x p) p;
  }
    where
      number_is : {t : PlainType} {i : ℕ} → Function type (length fs) ≡ Function t i → length fs ≡ i
      number_is e = cc

-- a function gets its definition

module _ (fs : List Declared) (file : Table) (ws : List Walked) (index : ℕ) (old : Declared) (there : slice_get fs index ≡ Some old) (undefined : old.defined ≡ None) where
  abbrev made : Declared
  made = record old { defined = Some (length ws) }

  abbrev set : List Declared
  set = slice_set fs index made

  abbrev Which : ℕ → Declared → Type 0
  Which i d = ((i ≡ index) × (d ≡ made)) ⊎ ((i ≡ index → ⊥) × (slice_get fs i ≡ Some d))

  which : (i : ℕ) (d : Declared) → slice_get set i ≡ Some d → Which i d
  which i d e = set_get fs index made i d e

  clash : (k : ℕ) (d : Declared) → slice_get fs index ≡ Some d → d.defined ≡ Some k → ⊥
  clash k d e h = search arith

  found_in : (i : ℕ) (d : Declared) (name : List ℕ) (k : Bool) → nat_eq i index ≡ k → slice_get fs i ≡ Some d → d.name ≡ name → (x : Declared) × (slice_get set i ≡ Some x) × (x.name ≡ name)
  found_in i d name true q e is =
      let at : i ≡ index = eqb-true i index q in
      let same : Some old ≡ Some d = sym there ∙ ap (λ n. slice_get fs n) (sym at) ∙ e in
      let one : old ≡ d = cc in
      (made, subst (λ n. slice_get set n ≡ Some made) (sym at) (set_same fs index old made there), ap (λ (x : Declared). x.name) one ∙ is)
  found_in i d name false q e is = (d, set_other fs index made i d (eqb-false i index q) e, is)

  pub defined_named : Named fs file ws → Strict fs ws → Named set file ws
  defined_named h s = record {
    declared = λ i d e.
        ⊎_elim
        (λ (q : (i ≡ index) × (d ≡ made)). let x = h.declared index old there in (x.0, ap (λ (y : Declared). named_in y.name file) q.1 ∙ x.1 ∙ ap (λ n. Some (Function x.0 n)) (sym q.0)))
        (λ (q : (i ≡ index → ⊥) × (slice_get fs i ≡ Some d)). h.declared i d q.1)
        (which i d e);
    found = λ name type i e. let x = h.found name type i e in found_in i x.0 name (nat_eq i index) refl x.1 x.2;
    owned = λ k w e. let x = h.owned k w e in record {
      index = x.index;
      declared = x.declared;
      there = set_other fs index made x.index x.declared (λ q. clash k x.declared (subst (λ n. slice_get fs n ≡ Some x.declared) q x.there) x.defined) x.there;
      defined = x.defined;
      name = x.name;
    };
    single = λ i j k d e x y p q.
        ⊎_elim
        (λ (u : (i ≡ index) × (d ≡ made)). ⊎_elim
        (λ (v : (j ≡ index) × (e ≡ made)). u.0 ∙ sym v.0)
        (λ (v : (j ≡ index → ⊥) × (slice_get fs j ≡ Some e)). absurd (too_far k d e j (u.1) p v.1 q))
        (which j e y))
        (λ (u : (i ≡ index → ⊥) × (slice_get fs i ≡ Some d)). ⊎_elim
        (λ (v : (j ≡ index) × (e ≡ made)). absurd (too_far k e d i v.1 q u.1 p))
        (λ (v : (j ≡ index → ⊥) × (slice_get fs j ≡ Some e)). h.single i j k d e u.1 v.1 p q)
        (which j e y))
        (which i d x);
    bound = λ i k d x p.
        ⊎_elim (λ (u : (i ≡ index) × (d ≡ made)). omega (arith, number k d u.1 p)) (λ (u : (i ≡ index → ⊥) × (slice_get fs i ≡ Some d)). h.bound i k d u.1 p) (which i d x);
  }
    where
      number : (k : ℕ) (d : Declared) → d ≡ made → d.defined ≡ Some k → k ≡ length ws
      number k d e p = let same : Some (length ws) ≡ Some k = sym (ap (λ (x : Declared). x.defined) e) ∙ p in cc

      too_far : (k : ℕ) (d e : Declared) (j : ℕ) → d ≡ made → d.defined ≡ Some k → slice_get fs j ≡ Some e → e.defined ≡ Some k → ⊥
      too_far k d e j is p x q = omega (arith, number k d is p, s j k e x q)

  pub defined_here : slice_get set index ≡ Some made
  defined_here = set_same fs index old made there

-- a body more, which belongs to the function that was begun

module _ (fs : List Declared) (file : Table) (ws : List Walked) (w : Walked) (index : ℕ) (d : Declared) (there : slice_get fs index ≡ Some d) (defined : d.defined ≡ Some (length ws)) (name : d.name ≡ w.name) where
  long : length (ws ++ w ∷ []) ≡ length ws + 1
  long = length-append ws (w ∷ [])

  pub pushed_named : Named fs file ws → Named fs file (ws ++ w ∷ [])
  pushed_named h = record {
    declared = h.declared;
    found = h.found;
    owned = λ k x e. ⊎_elim
        (λ (q : slice_get ws k ≡ Some x). let o = h.owned k x q in record { index = o.index; declared = o.declared; there = o.there; defined = o.defined; name = o.name })
        (λ (q : (k ≡ length ws) × (x ≡ w)). record { index = index; declared = d; there = there; defined = defined ∙ ap (λ n. Some n) (sym q.0); name = name ∙ ap (λ (y : Walked). y.name) (sym q.1) })
        (get_push ws w k x e);
    single = h.single;
    bound = λ i k x e p. omega (arith, h.bound i k x e p, long);
  }

  pub pushed_strict : Named fs file ws → Strict fs (ws ++ w ∷ [])
  pushed_strict h i k x e p = omega (arith, h.bound i k x e p, long)

-- trees by what is so of their names; those whose names are short, and all

module _ (W : List ℕ → Type 0) where
  word_named : (word : Word) → WordNames W word → IfSome (word_name word) W
  word_named word h = search arith fits 100

  if_named : (t : Bool) (o : Option (List ℕ)) → IfSome o W → IfSome (if t then o else None) W
  if_named t o h = search arith fits 100

  either_named : (o other : Option (List ℕ)) → IfSome o W → IfSome other W → IfSome (first_name o other) W
  either_named o other h k = search arith fits 100

  mutual
    unfolding name_of name_among

    pub name_named : (tree : Tree) → Names W tree → IfSome (name_of tree) W
    name_named (Leaf word) h = word_named word h
    name_named (At line) h = tt
    name_named (Node form parts) h = if_named (leads_to_name form) (name_among parts) (among_named parts h)

    among_named : (trees : Trees) → AllNames W trees → IfSome (name_among trees) W
    among_named none h = tt
    among_named (tree ▹ rest) h = either_named (name_of tree) (name_among rest) (name_named tree h.0) (among_named rest h.1)

-- names that are short
abbrev pub Short : Tree → Type 0
Short tree = Names IsShort tree

abbrev pub AllShort : Trees → Type 0
AllShort trees = AllNames IsShort trees

pub name_short : (tree : Tree) → Short tree → IfSome (name_of tree) IsShort
name_short tree h = name_named IsShort tree h

pub some_short : (o : Option (List ℕ)) → IfSome o IsShort → IsShort (unwrap_or o [])
some_short o h = search arith fits 100

-- names of which nothing is said
abbrev pub Any : List ℕ → Type 0
Any bytes = Unit {0}

mutual
  pub any_names : (tree : Tree) → Names Any tree
  any_names (Leaf word) = search arith fits 100
  any_names (At line) = tt
  any_names (Node form parts) = all_any parts

  pub all_any : (trees : Trees) → AllNames Any trees
  all_any none = tt
  all_any (tree ▹ rest) = (any_names tree, all_any rest)

-- at file scope no name stands for a register, and so no expression there takes the address of one

pub file_register : (w : World) (file : Table) (inner : List Table) (name : List ℕ) → length inner ≡ 0 → TableFits (FileFits w) file → is_register (found_from file name inner) ≡ false
file_register w file (scope ∷ outer) name e h = absurd (omega (arith, e))
file_register w file [] name e h = by (named_in name file) (λ v q. h name v q)
  where
    by : (o : Option PlainNamed) → ((v : PlainNamed) → o ≡ Some v → FileFits w v) → is_register o ≡ false
    by (Some (n.Object type i)) fits = refl
    by (Some (n.Register type i)) fits = absurd (fits (n.Register type i) refl)
    by other fits = refl

no_register : (w : World) (s : ScopeList) (o : Option (List ℕ)) → length s.inner ≡ 0 → TableFits (FileFits w) s.file → NoRegister s o
no_register w s None e h = tt
no_register w s (Some name) e h = file_register w s.file s.inner name e h

no_address : (w : World) (s : ScopeList) (form : Form) (parts : Trees) → length s.inner ≡ 0 → TableFits (FileFits w) s.file → TakesAddress s form parts
unfolding TakesAddress
no_address w s (f.Unary u.Address) (line ▹ e ▹ none) flat h = no_register w s (plain_name e) flat h
no_address w s form parts flat h = tt

mutual
  unfolding Spoken AllSpoken Written AllWritten

  pub outside_spoken : (w : World) (s : ScopeList) (tree : Tree) → length s.inner ≡ 0 → TableFits (FileFits w) s.file → Written tree → Spoken s tree
  outside_spoken w s (Leaf word) flat h t = tt
  outside_spoken w s (At line) flat h t = t
  outside_spoken w s (Node form parts) flat h t = (no_address w s form parts flat h, all_outside_spoken w s parts flat h t.1)

  pub all_outside_spoken : (w : World) (s : ScopeList) (trees : Trees) → length s.inner ≡ 0 → TableFits (FileFits w) s.file → AllWritten trees → AllSpoken s trees
  all_outside_spoken w s none flat h t = tt
  all_outside_spoken w s (tree ▹ rest) flat h t = (outside_spoken w s tree flat h t.0, all_outside_spoken w s rest flat h t.1)
