-- A name with its suffix finds the declaration that the name finds without, at each place of a unit as it stands in the program.
use Rattle.c_units.proofs.Words.Std.{Bool, List, None, Option, Some, [], ap, append_cancel_right, ap₂, bytes_eq, bytes_eq-Decides, false, false_from_ne_true, false≢true, if◌then◌else◌, inl, inr, list_any-append, map, map-append, nat_eq, or_right, refl, subst, subst₂, suc, sym, true, ℕ, ◌++◌, ◌||◌, ◌∙◌, ◌∷◌, ◌≡◌, ◌⊎◌}
use Rattle.c_units.proofs.Words.Trees.{At, Leaf, name_among, none, ◌▹◌}
use Rattle.c_units.proofs.Words.Units.{Binding, Constant, Declaration, External, HasNoDots, HaveNoDots, Held, IsWithoutDot, Known, Names, Scope, Use, binding_at, binding_of, declaration_of, declare, has_dot, hold, hold_here, hold_inner, is_among, name_as, name_by, use_as, use_of}
use Rattle.c_units.specs.declared.names.Binding.TheVariants as b
use Rattle.c_tree.specs.Words as w
use Rattle.c_units.specs.Names as n
use Rattle.c_units.specs.Binding.{Inner, left_scope}
use Rattle.c_units.proofs.BoundTrees.{names_plain}
use Rattle.c_units.proofs.Walks.{Keeps}

-- every declaration has a name of a text
abbrev pub ArePlain : List Held → Type 0
ArePlain [] = Unit {0}
ArePlain (held ∷ rest) = (has_dot held.name ≡ false) × ArePlain rest

equal_names : (x y : List ℕ) → bytes_eq x y ≡ true → x ≡ y
equal_names x y h = (bytes_eq-Decides x y).0 h

names_equal : (x y : List ℕ) → x ≡ y → bytes_eq x y ≡ true
names_equal x y h = (bytes_eq-Decides x y).1 h

differ : (x y : List ℕ) → (x ≡ y → ⊥) → bytes_eq x y ≡ false
differ x y h = false_from_ne_true (bytes_eq x y) (λ e. h (equal_names x y e))

module _ (own : List (List ℕ)) (suffix : List ℕ) where
  -- how the merge keeps a declaration
  abbrev pub binding_as : Declaration → List ℕ → Binding
  binding_as (Inner number) name = b.Inner
  binding_as External name = if is_among own name then b.Own else b.Shared
  binding_as Constant name = b.Shared

  abbrev pub known_as : Held → Known
  known_as held = record { name = held.name; binding = binding_as held.declaration held.name }

  -- a declaration as it stands in the program
  abbrev pub held_as : Held → Held
  held_as held = record held { name = name_as own suffix (Some held.declaration) held.name }

  own_name : (is_own : Bool) (name : List ℕ) → name_by (if is_own then b.Own else b.Shared) suffix name ≡ (if is_own then name ++ suffix else name)
  own_name true name = refl
  own_name false name = refl

  pub same_name : (declaration : Declaration) (name : List ℕ) → name_by (binding_as declaration name) suffix name ≡ name_as own suffix (Some declaration) name
  same_name (Inner number) name = refl
  same_name External name = own_name (is_among own name) name
  same_name Constant name = refl

  found_name : (found : Bool) (held : Held) (rest : List Held) (name : List ℕ) → bytes_eq held.name name ≡ found →
      name_by (binding_of (map known_as rest) name) suffix name ≡ name_as own suffix (declaration_of rest name) name →
      name_by (if found then binding_as held.declaration held.name else binding_of (map known_as rest) name) suffix name
      ≡ name_as own suffix (if found then Some held.declaration else declaration_of rest name) name
  found_name false held rest name e h = h
  found_name true held rest name e h =
      ap (λ (x : List ℕ). name_by (binding_as held.declaration x) suffix name) (equal_names held.name name e)
      ∙ same_name held.declaration name

  -- a name gets its suffix by the declaration that it is bound to
  pub bound_name : (helds : List Held) (name : List ℕ) →
      name_by (binding_of (map known_as helds) name) suffix name ≡ name_as own suffix (declaration_of helds name) name
  bound_name [] name = refl
  bound_name (held ∷ rest) name = found_name (bytes_eq held.name name) held rest name refl (bound_name rest name)

  -- a name with or without the suffix
  abbrev IsForm : List ℕ → List ℕ → Type 0
  IsForm new name = (new ≡ name) ⊎ (new ≡ name ++ suffix)

  own_form : (is_own : Bool) (name : List ℕ) → IsForm (if is_own then name ++ suffix else name) name
  own_form true name = inr refl
  own_form false name = inl refl

  is_form : (declaration : Option Declaration) (name : List ℕ) → IsForm (name_as own suffix declaration name) name
  is_form None name = inl refl
  is_form (Some (Inner number)) name = inl refl
  is_form (Some External) name = own_form (is_among own name) name
  is_form (Some Constant) name = inl refl

  dotted : (name : List ℕ) → has_dot suffix ≡ true → has_dot (name ++ suffix) ≡ true
  dotted name h = list_any-append (nat_eq 46) name suffix ∙ ap (λ (x : Bool). has_dot name || x) h ∙ or_right (has_dot name) true refl

  apart : (x y : List ℕ) → has_dot suffix ≡ true → has_dot x ≡ false → x ≡ y ++ suffix → ⊥
  apart x y dot plain e = false≢true (sym plain ∙ ap has_dot e ∙ dotted y dot)

  forms_differ : (x y new other : List ℕ) → has_dot suffix ≡ true → has_dot x ≡ false → has_dot y ≡ false → (x ≡ y → ⊥) →
      IsForm new x → IsForm other y → new ≡ other → ⊥
  forms_differ x y new other dot px py h (inl a) (inl c) e = h (sym a ∙ e ∙ c)
  forms_differ x y new other dot px py h (inl a) (inr c) e = apart x y dot px (sym a ∙ e ∙ c)
  forms_differ x y new other dot px py h (inr a) (inl c) e = apart y x dot py (sym c ∙ sym e ∙ a)
  forms_differ x y new other dot px py h (inr a) (inr c) e = h (append_cancel_right x y suffix (sym a ∙ e ∙ c))

  found_same : (found : Bool) (held : Held) (rest : List Held) (name new : List ℕ) → has_dot suffix ≡ true →
      has_dot held.name ≡ false → has_dot name ≡ false → bytes_eq held.name name ≡ found →
      new ≡ name_as own suffix (if found then Some held.declaration else declaration_of rest name) name →
      (new ≡ name_as own suffix (declaration_of rest name) name → declaration_of (map held_as rest) new ≡ declaration_of rest name) →
      declaration_of (held_as held ∷ map held_as rest) new ≡ (if found then Some held.declaration else declaration_of rest name)
  found_same true held rest name new dot plain clear e is h =
      let same : (held_as held).name ≡ new = ap (λ (x : List ℕ). name_as own suffix (Some held.declaration) x) (equal_names held.name name e) ∙ sym is in
      ap (λ (x : Bool). if x then Some held.declaration else declaration_of (map held_as rest) new) (names_equal (held_as held).name new same)
  found_same false held rest name new dot plain clear e is h =
      let other : held.name ≡ name → ⊥ = λ same. false≢true (sym e ∙ names_equal held.name name same) in
      let new_form : IsForm new name = subst (λ (x : List ℕ). IsForm x name) (sym is) (is_form (declaration_of rest name) name) in
      let apart_names : (held_as held).name ≡ new → ⊥ =
      forms_differ held.name name (held_as held).name new dot plain clear other (is_form (Some held.declaration) held.name) new_form in
      ap (λ (x : Bool). if x then Some held.declaration else declaration_of (map held_as rest) new) (differ (held_as held).name new apart_names)
      ∙ h is

  found_by : (helds : List Held) (name new : List ℕ) → has_dot suffix ≡ true → ArePlain helds → has_dot name ≡ false →
      new ≡ name_as own suffix (declaration_of helds name) name → declaration_of (map held_as helds) new ≡ declaration_of helds name
  found_by [] name new dot plain clear is = refl
  found_by (held ∷ rest) name new dot plain clear is =
      found_same (bytes_eq held.name name) held rest name new dot plain.0 clear refl is (found_by rest name new dot plain.1 clear)

  -- a name as it stands in the program finds there what the name finds in the unit
  pub bound_same : (helds : List Held) (name : List ℕ) → has_dot suffix ≡ true → ArePlain helds → has_dot name ≡ false →
      declaration_of (map held_as helds) (name_as own suffix (declaration_of helds name) name) ≡ declaration_of helds name
  bound_same helds name dot plain clear = found_by helds name (name_as own suffix (declaration_of helds name) name) dot plain clear refl

  -- what is known of a unit, what holds in it, and what holds in the program
  abbrev pub Quiet : Names → Scope → Scope → Type 0
  Quiet x s t =
      ((x.own ≡ own) × (x.suffix ≡ suffix) × (x.known ≡ map known_as s.held) × (x.inside ≡ s.inside))
      × ((t.held ≡ map held_as s.held) × (t.inside ≡ s.inside) × (t.inner ≡ s.inner)) × ArePlain s.held

  -- the names in expressions so far, as they stand in the program
  abbrev pub Told : Scope → Scope → Type 0
  Told s t = t.uses ≡ map (use_as own suffix) s.uses

  pub scope_opens : (x : Names) (s t : Scope) → Quiet x s t → Quiet (record x { inside = true }) (record s { inside = true }) (record t { inside = true })
  scope_opens x s t h = ((h.0.0, h.0.1, h.0.2, refl), (h.1.0, refl, h.1.2), h.2)

  pub scope_ends : (x y : Names) (s t inner other : Scope) → Quiet x s t → Quiet y inner other → Quiet (n.left_scope x y) (left_scope s inner) (left_scope t other)
  scope_ends x y s t inner other h g = ((g.0.0, g.0.1, h.0.2, h.0.3), (h.1.0, h.1.1, g.1.2), h.2)

  here_by : (inside : Bool) (name : Option (List ℕ)) (x : Names) (s t : Scope) → IsWithoutDot name → Quiet x s t →
      let hold_now = λ (u : Scope). if inside then hold_inner name u else hold name Constant u in
      Quiet (declare name (if inside then b.Inner else b.Shared) x) (hold_now s) (hold_now t) × (Told s t → Told (hold_now s) (hold_now t))
  here_by true None x s t d h = ((h.0, (h.1.0, h.1.1, ap suc h.1.2), h.2), λ u. u)
  here_by false None x s t d h = (h, λ u. u)
  here_by true (Some name) x s t d h = (
    (
      (h.0.0, h.0.1, ap (λ (l : List Known). record { name = name; binding = b.Inner } ∷ l) h.0.2, h.0.3),
      (ap₂ (λ (k : ℕ) (l : List Held). record { name = name; declaration = Inner k } ∷ l) h.1.2 h.1.0, h.1.1, ap suc h.1.2),
      (d, h.2),
    ),
    λ u. u,
  )
  here_by false (Some name) x s t d h = (
    (
      (h.0.0, h.0.1, ap (λ (l : List Known). record { name = name; binding = b.Shared } ∷ l) h.0.2, h.0.3),
      (ap (λ (l : List Held). record { name = name; declaration = Constant } ∷ l) h.1.0, h.1.1, h.1.2),
      (d, h.2),
    ),
    λ u. u,
  )

  here : (name : Option (List ℕ)) (x : Names) (s t : Scope) → IsWithoutDot name → Quiet x s t →
      Quiet (declare name (binding_at x) x) (hold_here name s) (hold_here name t) × (Told s t → Told (hold_here name s) (hold_here name t))
  here name x s t d h =
      subst₂ (λ (i j : Bool). let there = if j then hold_inner name t else hold name Constant t in
      Quiet (declare name (if i then b.Inner else b.Shared) x) (hold_here name s) there × (Told s t → Told (hold_here name s) there))
      (sym h.0.3) (sym h.1.1) (here_by s.inside name x s t d h)

  pub keeps_quiet : Keeps HaveNoDots (λ u. Quiet u.names u.scope u.held)
  keeps_quiet = record {
    ends = λ u inner h g. scope_ends u.names inner.names u.scope u.held inner.scope inner.held h (g (scope_opens u.names u.scope u.held h));
    declares = λ parts u d h. (here (name_among parts) u.names u.scope u.held (names_plain parts d) h).0;
    uses = λ line name u d h. h;
    says = λ first second third u h. h;
  }

  -- all of it
  abbrev pub Agree : Names → Scope → Scope → Type 0
  Agree x s t = Quiet x s t × Told s t

  one_told : (line : ℕ) (name new : List ℕ) (x : Names) (s t : Scope) → has_dot suffix ≡ true → has_dot name ≡ false → new ≡ name_by (binding_of x.known name) x.suffix name →
      Agree x s t → Told (use_of (At line ▹ Leaf (w.Name name) ▹ none) s) (use_of (At line ▹ Leaf (w.Name new) ▹ none) t)
  one_told line name new x s t dot clear e h =
      let found : Option Declaration = declaration_of s.held name in
      let is : new ≡ name_as own suffix found name =
      e ∙ ap₂ (λ (ks : List Known) (end : List ℕ). name_by (binding_of ks name) end name) h.0.0.2 h.0.0.1 ∙ bound_name s.held name in
      let same : declaration_of t.held new ≡ found = ap₂ declaration_of h.0.1.0 is ∙ bound_same s.held name dot h.0.2 clear in
      ap₂ (λ (us : List Use) (one : Use). us ++ one ∷ []) h.1 (ap₂ (λ (y : List ℕ) (d : Option Declaration). record { name = y; declaration = d }) is same)
      ∙ sym (map-append (use_as own suffix) s.uses (record { name = name; declaration = found } ∷ []))

  pub keeps_all : has_dot suffix ≡ true → Keeps HaveNoDots (λ u. Agree u.by u.scope u.held)
  unfolding HasNoDots HaveNoDots
  keeps_all dot = record {
    ends = λ u inner h g.
        let more = g (scope_opens u.by u.scope u.held h.0, h.1) in
        (scope_ends u.by inner.by u.scope u.held inner.scope inner.held h.0 more.0, more.1);
    declares = λ parts u d h.
        let more = here (name_among parts) u.by u.scope u.held (names_plain parts d) h.0 in (more.0, more.1 h.1);
    uses = λ line name u d h. (h.0, one_told line name _ u.by u.scope u.held dot d.1.0 refl h);
    says = λ first second third u h. h;
  }
