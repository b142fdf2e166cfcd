-- A declaration that is left out since an earlier unit has it in the same words is not missed.
use Rattle.c_units.proofs.Words.Std.{All, All-append, All-cons, All-head, All-nil, All-tail, All-weaker, Bool, IsSome, List, None, Option, Some, [], and_parts, append-nil, append_assoc, arith, bytes_eq, bytes_eq-Decides, false, if◌then◌else◌, inl, inr, length, length-map, list_any-append, map, or-false, or_cases, or_left, or_right, refl, subst, sym, true, ℕ, ⊤, ◌++◌, ◌+◌, ◌<◌, ◌∙◌, ◌∷◌, ◌≡◌, ◌≤◌, ◌⊎◌}
use Rattle.c_units.proofs.Words.Trees.{At, Leaf, TokensAreLongest, Tree, Trees, first_scope, name_among, none, unit_view, ◌▹◌}
use Rattle.c_units.proofs.Words.Units.{AreDeclared, Constant, Declaration, External, HasNoDots, HaveNoDots, Held, IsDeclared, IsOfText, MergeKeepsDeclared, Said, Scope, Use, after_external, all_noted, declaration_of, declared_as, declared_by, each_uses, first_of, has_dot, hold, hold_inner, is_again, is_among, is_plain, left_parts, no_scope, noted, own_in_program, program_parts, spelling, spellings_of, trees_of, unit_names, unit_said, unit_uses, use_of}
use Rattle.c_units.specs.Binding.{Inner, inside_params}
use Rattle.c_units.proofs.Walks.{anything, no_dots, at_scope, Keeps, tree_kept, parts_kept}
use Rattle.c_units.proofs.FileWalks.{Have, NameHas, KeepsFile, external_held}
use Rattle.c_tree.specs.declared.statement.Unit.{Unit as Code}
use Rattle.c_units.specs.FileBindings.{Part}
use Rattle.c_units.proofs.BoundExternals.{units_keep_bindings}
use Rattle.c_units.proofs.SoundTrees.{unit_suffix, Tells, each_tells, unit_read, alike_declare}
use Rattle.c_tree.specs.Words as w
use Rattle.c_tree.specs.Places as p

-- An object or a function that is bound at a place of a unit was declared before it.

some_is : (x y : Declaration) → Some x ≡ Some y → x ≡ y
some_is x y h = cc

no_inner : (number : ℕ) → Inner number ≡ External → ⊥
no_inner number h = cc

no_constant : Constant ≡ External → ⊥
no_constant h = cc

no_none : None ≡ Some External → ⊥
no_none h = cc

module _ (P : List ℕ → Type 0) where
  -- an object or a function that holds has it, and so has one that is used
  abbrev HeldHave : List Held → Type 0
  HeldHave [] = ⊤
  HeldHave (held ∷ rest) = (held.declaration ≡ External → P held.name) × HeldHave rest

  abbrev pub UseHas : Use → Type 0
  UseHas place = place.declaration ≡ Some External → P place.name

  abbrev pub Covers : Scope → Type 0
  Covers s = HeldHave s.held × All UseHas s.uses

  found_by : (found : Bool) (held : Held) (rest : List Held) (name : List ℕ) → bytes_eq held.name name ≡ found → (held.declaration ≡ External → P held.name) →
      (declaration_of rest name ≡ Some External → P name) → (if found then Some held.declaration else declaration_of rest name) ≡ Some External → P name
  found_by true held rest name is h more e =
      subst P ((bytes_eq-Decides held.name name).0 is) (h (some_is held.declaration External e))
  found_by false held rest name is h more e = more e

  found : (helds : List Held) (name : List ℕ) → HeldHave helds → declaration_of helds name ≡ Some External → P name
  found [] name h e = absurd (no_none e)
  found (held ∷ rest) name h e = found_by (bytes_eq held.name name) held rest name refl h.0 (λ k. found rest name h.1 k) e

  any_name : (name : Option (List ℕ)) (declaration : Declaration) → (declaration ≡ External → ⊥) → declaration ≡ External → NameHas P name
  any_name None declaration h e = tt
  any_name (Some name) declaration h e = absurd (h e)

  hold_covers : (name : Option (List ℕ)) (declaration : Declaration) (s : Scope) → (declaration ≡ External → NameHas P name) → Covers s → Covers (hold name declaration s)
  hold_covers None declaration s h g = g
  hold_covers (Some name) declaration s h g = ((h, g.0), g.1)

  here_covers : (inside : Bool) (name : Option (List ℕ)) (s : Scope) → Covers s → Covers (if inside then hold_inner name s else hold name Constant s)
  here_covers true name s h = hold_covers name (Inner s.inner) _ (any_name name (Inner s.inner) (no_inner s.inner)) h
  here_covers false name s h = hold_covers name Constant s (any_name name Constant no_constant) h

  one_covers : (line : ℕ) (name : List ℕ) (s : Scope) → Covers s → Covers (use_of (At line ▹ Leaf (w.Name name) ▹ none) s)
  one_covers line name s h =
      let one : Use = record { name = name; declaration = declaration_of s.held name } in
      (h.0, All-append UseHas s.uses (one ∷ []) h.1 (All-cons UseHas one [] (λ e. found s.held name h.0 e) (All-nil UseHas)))

  keeps_covers : Keeps (λ _. ⊤) (λ u. Covers u.scope)
  keeps_covers = record {
    ends = λ u inner h g. (h.0, (g h).1);
    declares = λ parts u d h. here_covers u.scope.inside (name_among parts) u.scope h;
    uses = λ line name u d h. one_covers line name u.scope h;
    says = λ first second third u h. h;
  }

  kind_has : (typedef : Bool) (name : Option (List ℕ)) → (typedef ≡ false → NameHas P name) → declared_as typedef ≡ External → NameHas P name
  kind_has true name h e = any_name name Constant no_constant e
  kind_has false name h e = h refl

  inside_covers : (params : Option Trees) (s : Scope) → Covers s → Covers (inside_params params s)
  inside_covers None s h = h
  inside_covers (Some params) s h = ((parts_kept anything keeps_covers params (p.Params ∷ []) (at_scope (record s { inside = true })) tt h).0, h.1)

  file_covers : KeepsFile (λ _. ⊤) P (λ s t. Covers s)
  file_covers = record {
    tree = λ tree rest s t d h. tree_kept anything keeps_covers tree none (at_scope s) tt h;
    name = λ typedef name s t has h. hold_covers name (declared_as typedef) s (kind_has typedef name has) h;
    body = λ params tree rest s t d h. (h.0, (tree_kept anything keeps_covers tree none (at_scope (inside_params params s)) tt (inside_covers params s h)).1);
  }

  -- behind an external declaration, if it declares such names
  pub external_covers : (tree : Tree) (s : Scope) → Have P (declared_by tree) → Covers s → Covers (after_external tree s)
  external_covers tree s has h = external_held anything file_covers tree none s s tt has h

  -- where an external declaration begins
  pub begun_covers : (s : Scope) → Covers s → Covers (record s { inner = 0; uses = [] })
  begun_covers s h = (h.0, All-nil UseHas)

-- a weaker property
held_weaker : (P Q : List ℕ → Type 0) → ((name : List ℕ) → P name → Q name) → (helds : List Held) → HeldHave P helds → HeldHave Q helds
held_weaker P Q h [] g = tt
held_weaker P Q h (held ∷ rest) g = (λ e. h held.name (g.0 e), held_weaker P Q h rest g.1)

pub covers_weaker : (P Q : List ℕ → Type 0) → ((name : List ℕ) → P name → Q name) → (s : Scope) → Covers P s → Covers Q s
covers_weaker P Q h s g = (
  held_weaker P Q h s.held g.0,
  All-weaker (UseHas P) (UseHas Q) (λ place k e. h place.name (k e)) s.uses g.1,
)

-- The names in the expressions of a unit are names of the text.

abbrev pub IsPlain : Use → Type 0
IsPlain place = has_dot place.name ≡ false

keeps_plain : Keeps HaveNoDots (λ u. All IsPlain u.scope.uses)
unfolding HasNoDots HaveNoDots
keeps_plain = record {
  ends = λ u inner h g. g h;
  declares = λ parts u d h. here_plain u.scope.inside (name_among parts) u.scope h;
  uses = λ line name u d h. All-append IsPlain u.scope.uses (_ ∷ []) h (All-cons IsPlain _ [] d.1.0 (All-nil IsPlain));
  says = λ first second third u h. h;
} where
  here_plain : (inside : Bool) (name : Option (List ℕ)) (s : Scope) → All IsPlain s.uses → All IsPlain (if inside then hold_inner name s else hold name Constant s).uses
  here_plain true None s h = h
  here_plain false None s h = h
  here_plain inside name s h = h

file_plain : KeepsFile HaveNoDots (λ _. ⊤) (λ s t. All IsPlain s.uses)
file_plain = record {
  tree = λ tree rest s t d h. tree_kept no_dots keeps_plain tree rest (at_scope s) d h;
  name = λ typedef name s t has h. hold_plain name (declared_as typedef) s h;
  body = λ params tree rest s t d h. tree_kept no_dots keeps_plain tree rest (at_scope (inside_params params s)) d h;
} where
  hold_plain : (name : Option (List ℕ)) (declaration : Declaration) (s : Scope) → All IsPlain s.uses → All IsPlain (hold name declaration s).uses
  hold_plain None declaration s h = h
  hold_plain (Some name) declaration s h = h

-- those of each external declaration
pub each_plain : (unit : Trees) (s : Scope) → HaveNoDots unit → All (All IsPlain) (each_uses unit s)
unfolding each_uses HasNoDots HaveNoDots
each_plain none s d = All-nil (All IsPlain)
each_plain (tree ▹ rest) s d =
    All-cons (All IsPlain) _ (each_uses rest _)
    (external_held no_dots file_plain tree rest (record s { inner = 0; uses = [] }) s d (λ name e. tt) (All-nil IsPlain)) (each_plain rest _ d.1)

-- A declaration that is left out since an earlier unit has it in the same words is not missed.

-- What is declared stays so.

-- a name has an external declaration among these
abbrev Known : List Part → List ℕ → Type 0
Known done name = IsSome (first_of done name)

known_by : (found : Bool) (part : Part) (o more : Option Part) → (IsSome o → IsSome more) → IsSome (if found then Some part else o) → IsSome (if found then Some part else more)
known_by true part o more h g = g
known_by false part o more h g = h g

known_more : (done more : List Part) (name : List ℕ) → Known done name → Known (done ++ more) name
known_more [] more name h = absurd (cc)
known_more (part ∷ done) more name h =
    known_by (is_among (declared_by part.tree) name) part (first_of done name) (first_of (done ++ more) name) (known_more done more name) h

last_by : (found : Bool) (part : Part) (o : Option Part) → IsSome o → IsSome (if found then Some part else o)
last_by true part o h = refl
last_by false part o h = h

here_by : (found : Bool) (part : Part) → found ≡ true → IsSome (if found then Some part else None)
here_by true part h = refl
here_by false part h = absurd (cc)

known_last : (done : List Part) (part : Part) (name : List ℕ) → is_among (declared_by part.tree) name ≡ true → Known (done ++ part ∷ []) name
known_last [] part name h = here_by (is_among (declared_by part.tree) name) part h
known_last (first ∷ done) part name h =
    last_by (is_among (declared_by first.tree) name) first (first_of (done ++ part ∷ []) name) (known_last done part name h)

-- What earlier units have in the same words.

-- each spelling is that of a tree that tells what it declares, all of which is declared
abbrev Kept : List Part → List ℕ → Type 0
Kept done text = (tree : Tree) × Tells tree × (spelling tree ≡ text) × Have (Known done) (declared_by tree)

abbrev AreKept : List Part → List (List ℕ) → Type 0
AreKept done spellings = (text : List ℕ) → is_among spellings text ≡ true → Kept done text

kept_more : (done more : List Part) (spellings : List (List ℕ)) → AreKept done spellings → AreKept (done ++ more) spellings
kept_more done more spellings h text e =
    let k = h text e in (k.0, k.1, k.2, λ name is. known_more done more name (k.3 name is))

abbrev TellsPlain : Said → Type 0
TellsPlain said = is_plain said.tree ≡ true → Tells said.tree

abbrev DeclaresKnown : List Part → Said → Type 0
DeclaresKnown done said = Have (Known done) (declared_by said.tree)

again_known : TokensAreLongest → (done : List Part) (spellings : List (List ℕ)) (said : Said) → AreKept done spellings → TellsPlain said → is_again spellings said ≡ true → DeclaresKnown done said
again_known longest done spellings said kept tells again =
    let both = and_parts (is_plain said.tree) (is_among spellings (spelling said.tree)) again in
    let k = kept (spelling said.tree) both.1 in
    let same : declared_by k.0 ≡ declared_by said.tree = alike_declare longest k.0 said.tree k.1 (tells both.0) k.2 in
    subst (λ (names : List (List ℕ)). Have (Known done) names) same k.3

all_more : (done more : List Part) (saids : List Said) → All (DeclaresKnown done) saids → All (DeclaresKnown (done ++ more)) saids
all_more done more [] h = All-nil (DeclaresKnown (done ++ more))
all_more done more (said ∷ rest) h =
    All-cons (DeclaresKnown (done ++ more)) said rest (λ name e. known_more done more name (All-head (DeclaresKnown done) said rest h name e))
    (all_more done more rest (All-tail (DeclaresKnown done) said rest h))

module _ (number : ℕ) (own : List (List ℕ)) (spellings : List (List ℕ)) where
  abbrev Parts : List Said → List (List Use) → List Part
  Parts saids uses = left_parts number own spellings saids uses

  -- the names in what is left of a unit are declared, and so is all that it declares
  abbrev Walked : List Part → List Said → List Part → Type 0
  Walked done saids parts = AreDeclared done parts × All (DeclaresKnown (done ++ parts)) saids

  one_walked : (again : Bool) (done : List Part) (said : Said) (rest : List Said) (here : List Use) (uses : List (List Use)) → is_again spellings said ≡ again →
      (again ≡ true → DeclaresKnown done said × Walked done rest (Parts rest uses)) →
      (let part : Part = record { number = number; own = own; tree = said.tree; uses = here } in
      All (IsDeclared (done ++ part ∷ [])) here × DeclaresKnown (done ++ part ∷ []) said × Walked (done ++ part ∷ []) rest (Parts rest uses)) →
      Walked done (said ∷ rest) (if again then Parts rest uses else record { number = number; own = own; tree = said.tree; uses = here } ∷ Parts rest uses)
  one_walked true done said rest here uses e h g =
      let more = Parts rest uses in
      let k = h refl in
      (k.1.0, All-cons (DeclaresKnown (done ++ more)) said rest (λ name is. known_more done more name (k.0 name is)) k.1.1)
  one_walked false done said rest here uses e h g =
      let part : Part = record { number = number; own = own; tree = said.tree; uses = here } in
      let more = Parts rest uses in
      let same : (done ++ part ∷ []) ++ more ≡ done ++ part ∷ more = append_assoc done (part ∷ []) more in (
        (g.0, g.2.0),
        subst (λ (all : List Part). All (DeclaresKnown all) (said ∷ rest)) same
            (All-cons (DeclaresKnown ((done ++ part ∷ []) ++ more)) said rest (λ name is. known_more (done ++ part ∷ []) more name (g.1 name is)) g.2.1),
      )

  walked : TokensAreLongest → (saids : List Said) (done : List Part) (t : Scope) → All TellsPlain saids → AreKept done spellings → Covers (Known done) t →
      Walked done saids (Parts saids (each_uses (trees_of saids) t))
  unfolding each_uses
  walked longest [] done t tells kept covers = (tt, All-nil _)
  walked longest (said ∷ rest) done t tells kept covers =
      let next : Scope = after_external said.tree (record t { inner = 0; uses = [] }) in
      let part : Part = record { number = number; own = own; tree = said.tree; uses = next.uses } in
      let now : List Part = done ++ part ∷ [] in
      let declares : DeclaresKnown now said = λ name e. known_last done part name e in
      let here : Covers (Known now) next =
      external_covers (Known now) said.tree (record t { inner = 0; uses = [] }) declares
      (begun_covers (Known now) t (covers_weaker (Known done) (Known now) (λ name k. known_more done (part ∷ []) name k) t covers)) in
      one_walked (is_again spellings said) done said rest next.uses (each_uses (trees_of rest) next) refl
      (λ again.
      let known : DeclaresKnown done said = again_known longest done spellings said kept (All-head TellsPlain said rest tells) again in (
        known,
        walked longest rest done next (All-tail TellsPlain said rest tells) kept
            (external_covers (Known done) said.tree (record t { inner = 0; uses = [] }) known (begun_covers (Known done) t covers)),
      ))
      (here.1, declares, walked longest rest now next (All-tail TellsPlain said rest tells) (kept_more done (part ∷ []) spellings kept) here)

-- Spellings.

abbrev OneOf : List (List ℕ) → List (List ℕ) → List ℕ → Type 0
OneOf names more text = (is_among names text ≡ true) ⊎ (is_among more text ≡ true)

noted_one : (among : Bool) (names : List (List ℕ)) (name text : List ℕ) → is_among (if among then names else names ++ name ∷ []) text ≡ true →
    (is_among names text ≡ true) ⊎ (bytes_eq text name ≡ true)
noted_one true names name text h = inl h
noted_one false names name text h = by (or_cases (is_among names text) (is_among (name ∷ []) text) (sym (list_any-append (bytes_eq text) names (name ∷ [])) ∙ h)) where
  by : (is_among names text ≡ true) ⊎ (is_among (name ∷ []) text ≡ true) → (is_among names text ≡ true) ⊎ (bytes_eq text name ≡ true)
  by (inl k) = inl k
  by (inr k) = inr (sym (or-false (bytes_eq text name)) ∙ k)

noted_again : (names : List (List ℕ)) (name : List ℕ) (rest : List (List ℕ)) (text : List ℕ) →
    OneOf (noted names name) rest text → OneOf names (name ∷ rest) text
noted_again names name rest text (inr h) = inr (or_right (bytes_eq text name) (is_among rest text) h)
noted_again names name rest text (inl h) = by (noted_one (is_among names name) names name text h) where
  by : (is_among names text ≡ true) ⊎ (bytes_eq text name ≡ true) → OneOf names (name ∷ rest) text
  by (inl k) = inl k
  by (inr k) = inr (or_left (bytes_eq text name) (is_among rest text) k)

noted_from : (more names : List (List ℕ)) (text : List ℕ) → is_among (all_noted names more) text ≡ true → OneOf names more text
noted_from [] names text h = inl h
noted_from (name ∷ rest) names text h = noted_again names name rest text (noted_from rest (noted names name) text h)

spelled_by : (plain : Bool) (done : List Part) (said : Said) (rest : List (List ℕ)) (text : List ℕ) → is_plain said.tree ≡ plain →
    TellsPlain said → DeclaresKnown done said → (is_among rest text ≡ true → Kept done text) →
    is_among (if plain then spelling said.tree ∷ rest else rest) text ≡ true → Kept done text
spelled_by false done said rest text e tells known more h = more h
spelled_by true done said rest text e tells known more h = by (or_cases (bytes_eq text (spelling said.tree)) (is_among rest text) h) where
  by : (bytes_eq text (spelling said.tree) ≡ true) ⊎ (is_among rest text ≡ true) → Kept done text
  by (inl k) = (said.tree, tells e, sym ((bytes_eq-Decides text (spelling said.tree)).0 k), known)
  by (inr k) = more k

spelled : (done : List Part) (saids : List Said) → All TellsPlain saids → All (DeclaresKnown done) saids → AreKept done (spellings_of saids)
spelled done [] tells known text h = absurd (cc)
spelled done (said ∷ rest) tells known text h =
    spelled_by (is_plain said.tree) done said (spellings_of rest) text refl (All-head TellsPlain said rest tells) (All-head (DeclaresKnown done) said rest known)
    (λ e. spelled done rest (All-tail TellsPlain said rest tells) (All-tail (DeclaresKnown done) said rest known) text e) h

kept_by : (done : List Part) (names more : List (List ℕ)) (text : List ℕ) → AreKept done names → AreKept done more → OneOf names more text → Kept done text
kept_by done names more text h g (inl e) = h text e
kept_by done names more text h g (inr e) = g text e

-- All units.

declared_append : (xs ys done : List Part) → AreDeclared done xs → AreDeclared (done ++ xs) ys → AreDeclared done (xs ++ ys)
declared_append [] ys done h g = subst (λ (all : List Part). AreDeclared all ys) (append-nil done) g
declared_append (x ∷ xs) ys done h g =
    (h.0, declared_append xs ys (done ++ x ∷ []) h.1 (subst (λ (all : List Part). AreDeclared all ys) (sym (append_assoc done (x ∷ []) xs)) g))

unit_walked : TokensAreLongest → (number : ℕ) (unit : Code) (done : List Part) (spellings : List (List ℕ)) → HaveNoDots (unit_view unit) →
    All TellsPlain (unit_said number (unit_view unit)) → AreKept done spellings →
    Walked number (own_in_program number (unit_view unit)) spellings done (unit_said number (unit_view unit))
    (left_parts number (own_in_program number (unit_view unit)) spellings (unit_said number (unit_view unit)) (unit_uses number (unit_view unit)))
unit_walked longest number unit done spellings dots tells kept =
    subst (λ (uses : List (List Use)). Walked number (own_in_program number (unit_view unit)) spellings done (unit_said number (unit_view unit))
    (left_parts number (own_in_program number (unit_view unit)) spellings (unit_said number (unit_view unit)) uses))
    (units_keep_bindings number unit dots)
    (walked number (own_in_program number (unit_view unit)) spellings longest (unit_said number (unit_view unit)) done no_scope tells kept (tt, All-nil _))

units_declared : TokensAreLongest → (units : List Code) (number : ℕ) (done : List Part) (spellings : List (List ℕ)) → 0 < number → number + length units ≤ 65 →
    All HaveNoDots (map unit_view units) → All IsOfText (map unit_view units) → AreKept done spellings →
    AreDeclared done (program_parts number (map unit_view units) spellings)
units_declared longest [] number done spellings some few dots texts kept = tt
units_declared longest (unit ∷ units) number done spellings some few dots texts kept =
    let view : Trees = unit_view unit in
    let said : List Said = unit_said number view in
    let text : IsOfText view = All-head IsOfText view (map unit_view units) texts in
    let parts : List Part = left_parts number (own_in_program number view) spellings said (unit_uses number view) in
    let more : List (List ℕ) = spellings_of said in
    let tells : All TellsPlain said =
    each_tells unit.decls (unit_names number view) (unit_suffix number some (omega (arith, few))) (unit_read unit.decls first_scope text.allowed text.formed) in
    let here = unit_walked longest number unit done spellings (All-head HaveNoDots view (map unit_view units) dots) tells kept in
    declared_append parts (program_parts (number + 1) (map unit_view units) (all_noted spellings more)) done here.0
    (units_declared longest units (number + 1) (done ++ parts) (all_noted spellings more) (omega (arith, some)) (omega (arith, few))
    (All-tail HaveNoDots view (map unit_view units) dots) (All-tail IsOfText view (map unit_view units) texts)
    (λ spelled_so e. kept_by (done ++ parts) spellings more spelled_so (kept_more done parts spellings kept) (spelled (done ++ parts) said tells here.1)
    (noted_from more spellings spelled_so e)))

pub merge_keeps_declared : TokensAreLongest → MergeKeepsDeclared
merge_keeps_declared longest first second more few dots texts =
    let units : List Code = first ∷ second ∷ more in
    units_declared longest units 1 [] [] (omega arith) (omega (arith, few, length-map units unit_view)) dots texts (λ text e. absurd (cc))
