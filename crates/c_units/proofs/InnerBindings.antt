-- What stands at file scope changes no binding in an inner scope.
use Rattle.c_units.proofs.Words.Std.{Bool, List, None, Option, Some, [], ap, ap₂, bytes_eq, false, if◌then◌else◌, map, map-append, refl, subst, suc, sym, true, ℕ, ⊤, ◌++◌, ◌∙◌, ◌∷◌, ◌≡◌}
use Rattle.c_units.proofs.Words.Trees.{At, Leaf, Tree, Trees, name_among, none, ◌▹◌}
use Rattle.c_units.proofs.Words.Units.{Constant, Declaration, Held, Scope, Use, after, after_all, after_external, binding_at, binding_of, declaration_of, declared_as, hold, hold_here, hold_inner, inner_of, inner_use, name_by, names_at_start, use_of}
use Rattle.c_tree.specs.Words as w
use Rattle.c_tree.specs.Places as p
use Rattle.c_units.specs.Binding.{Inner, inside_params}
use Rattle.c_units.proofs.FileWalks.{declare_suffix, name_stays, tree_stays, parts_stay, KeepsFile, external_held}
use Rattle.c_units.proofs.Walks.{World, anything, at_scope, Keeps, tree_kept, parts_kept}

-- two places of one inner scope, where other declarations may hold at file scope
abbrev pub Alike : Scope → Scope → Type 0
Alike s t =
    ((name : List ℕ) → inner_of (declaration_of t.held name) ≡ inner_of (declaration_of s.held name))
    × (t.inside ≡ s.inside) × (t.inner ≡ s.inner) × (map inner_use t.uses ≡ map inner_use s.uses)

found_alike : (found : Bool) (held : Held) (x y : Option Declaration) → inner_of y ≡ inner_of x →
    inner_of (if found then Some held.declaration else y) ≡ inner_of (if found then Some held.declaration else x)
found_alike true held x y h = refl
found_alike false held x y h = h

hold_alike : (name : Option (List ℕ)) (declaration : Declaration) (s t : Scope) → Alike s t → Alike (hold name declaration s) (hold name declaration t)
hold_alike None declaration s t h = h
hold_alike (Some name) declaration s t h =
    let held : Held = record { name = name; declaration = declaration } in
    (λ other. found_alike (bytes_eq name other) held (declaration_of s.held other) (declaration_of t.held other) (h.0 other), h.1, h.2, h.3)

inner_alike : (name : Option (List ℕ)) (s t : Scope) → Alike s t → Alike (hold_inner name s) (hold_inner name t)
inner_alike name s t h =
    subst (λ (k : ℕ). Alike (hold_inner name s) (hold name (Inner k) (record t { inner = suc t.inner }))) (sym h.2)
    (hold_alike name (Inner s.inner) (record s { inner = suc s.inner }) (record t { inner = suc t.inner }) (h.0, h.1, ap suc h.2, h.3))

here_by : (inside : Bool) (name : Option (List ℕ)) (s t : Scope) → Alike s t →
    Alike (if inside then hold_inner name s else hold name Constant s) (if inside then hold_inner name t else hold name Constant t)
here_by true name s t h = inner_alike name s t h
here_by false name s t h = hold_alike name Constant s t h

here_alike : (name : Option (List ℕ)) (s t : Scope) → Alike s t → Alike (hold_here name s) (hold_here name t)
here_alike name s t h =
    subst (λ (x : Bool). Alike (hold_here name s) (if x then hold_inner name t else hold name Constant t)) (sym h.1) (here_by s.inside name s t h)

name_alike : (line : ℕ) (name : List ℕ) (s t : Scope) → Alike s t →
    Alike (use_of (At line ▹ Leaf (w.Name name) ▹ none) s) (use_of (At line ▹ Leaf (w.Name name) ▹ none) t)
name_alike line name s t h =
    let here : Use = record { name = name; declaration = declaration_of s.held name } in
    let there : Use = record { name = name; declaration = declaration_of t.held name } in (
      h.0,
      h.1,
      h.2,
      map-append inner_use t.uses (there ∷ [])
          ∙ ap₂ (λ (us : List (List ℕ × Option ℕ)) (n : Option ℕ). us ++ (name, n) ∷ []) h.3 (h.0 name)
          ∙ sym (map-append inner_use s.uses (here ∷ [])),
    )

keeps_alike : Keeps (λ _. ⊤) (λ u. (u.by.suffix ≡ []) × Alike u.scope u.held)
keeps_alike = record {
  ends = λ u inner h g.
      let more = g (h.0, (h.1.0, refl, h.1.2, h.1.3)) in
      (more.0, (h.1.0, h.1.1, more.1.2, more.1.3));
  declares = λ parts u d h. (declare_suffix (name_among parts) (binding_at u.by) u.by ∙ h.0, here_alike (name_among parts) u.scope u.held h.1);
  uses = λ line name u d h.
      let same = ap (λ (suffix : List ℕ). name_by (binding_of u.by.known name) suffix name) h.0 ∙ name_stays (binding_of u.by.known name) name in (
        h.0,
        subst (λ (new : List ℕ). Alike (use_of (At line ▹ Leaf (w.Name name) ▹ none) u.scope) (use_of (At line ▹ Leaf (w.Name new) ▹ none) u.held)) (sym same)
            (name_alike line name u.scope u.held h.1),
      );
  says = λ first second third u h. h;
}

at_both : Scope → Scope → World
at_both s t = record (at_scope s) { held = t }

tree_alike : (tree : Tree) (s t : Scope) → Alike s t → Alike (after tree s) (after tree t)
unfolding at_both
tree_alike tree s t h =
    subst (λ (new : Tree). Alike (after tree s) (after new t)) (tree_stays tree (names_at_start [] []) refl)
    (tree_kept anything keeps_alike tree none (at_both s t) tt (refl, h)).1

params_alike : (params : Option Trees) (s t : Scope) → Alike s t → Alike (inside_params params s) (inside_params params t)
unfolding at_both
params_alike None s t h = (h.0, refl, h.2, h.3)
params_alike (Some params) s t h =
    let opened = at_both (record s { inside = true }) (record t { inside = true }) in
    let g = subst (λ (new : Trees). Alike (after_all params (p.Params ∷ []) opened.scope) (after_all new (p.Params ∷ []) opened.held))
    (parts_stay params (p.Params ∷ []) (names_at_start [] []) refl) (parts_kept anything keeps_alike params (p.Params ∷ []) opened tt (refl, (h.0, refl, h.2, h.3))).1 in
    (g.0, g.1, g.2, h.3)

file_alike : KeepsFile (λ _. ⊤) (λ _. ⊤) Alike
file_alike = record {
  tree = λ tree rest s t d h. tree_alike tree s t h;
  name = λ typedef name s t has h. hold_alike name (declared_as typedef) s t h;
  body = λ params tree rest s t d h.
      let g = tree_alike tree _ _ (params_alike params s t h) in (h.0, h.1, g.2, g.3);
}

-- an external declaration
pub external_alike : (tree : Tree) (s t : Scope) → Alike s t → Alike (after_external tree s) (after_external tree t)
external_alike tree s t h = external_held anything file_alike tree none s t tt (λ name e. tt) h

-- a place at file scope, where no declaration of an inner scope holds
abbrev pub Outer : Scope → Type 0
Outer s = ((name : List ℕ) → inner_of (declaration_of s.held name) ≡ None) × (s.inside ≡ false)

found_outer : (found : Bool) (declaration : Declaration) (x : Option Declaration) → inner_of (Some declaration) ≡ None → inner_of x ≡ None →
    inner_of (if found then Some declaration else x) ≡ None
found_outer true declaration x h g = h
found_outer false declaration x h g = g

hold_outer : (name : Option (List ℕ)) (declaration : Declaration) (s : Scope) → inner_of (Some declaration) ≡ None → Outer s → Outer (hold name declaration s)
hold_outer None declaration s h g = g
hold_outer (Some name) declaration s h g =
    (λ other. found_outer (bytes_eq name other) declaration (declaration_of s.held other) h (g.0 other), g.1)

here_outer : (name : Option (List ℕ)) (s : Scope) → Outer s → Outer (hold_here name s)
here_outer name s h =
    subst (λ (x : Bool). Outer (if x then hold_inner name s else hold name Constant s)) (sym h.1) (hold_outer name Constant s refl h)

keeps_outer : Keeps (λ _. ⊤) (λ u. Outer u.scope)
keeps_outer = record {
  ends = λ u inner h g. h;
  declares = λ parts u d h. here_outer (name_among parts) u.scope h;
  uses = λ line name u d h. h;
  says = λ first second third u h. h;
}

kind_outer : (typedef : Bool) → inner_of (Some (declared_as typedef)) ≡ None
kind_outer true = refl
kind_outer false = refl

file_outer : KeepsFile (λ _. ⊤) (λ _. ⊤) (λ s t. Outer s)
file_outer = record {
  tree = λ tree rest s t d h. tree_kept anything keeps_outer tree none (at_scope s) tt h;
  name = λ typedef name s t has h. hold_outer name (declared_as typedef) s (kind_outer typedef) h;
  body = λ params tree rest s t d h. h;
}

pub external_outer : (tree : Tree) (s : Scope) → Outer s → Outer (after_external tree s)
external_outer tree s h = external_held anything file_outer tree none s s tt (λ name e. tt) h
