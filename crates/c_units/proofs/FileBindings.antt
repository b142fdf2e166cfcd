-- In the merge of several units a name that is bound at file scope is bound to what it is bound to in its unit.
use Rattle.c_units.proofs.Words.Std.{All, All-append, All-cons, All-head, All-map, All-nil, All-tail, All-weaker, Bool, Err, IfSome, List, None, Ok, Option, Result, Some, [], ap, ap₂, arith, bytes_eq, bytes_eq-Decides, decimal, decimal_injective, false, false_from_ne_true, false≢true, if◌then◌else◌, inl, inr, length, length-map, list_any-append, map, map-append, nat_eq, not, or_parts, or_right, refl, subst, suc, sym, true, ℕ, ⊤, ◌++◌, ◌+◌, ◌||◌, ◌∙◌, ◌∷◌, ◌≡◌, ◌≤◌}
use Rattle.c_units.proofs.Words.Trees.{Decl, Trees, decl_view, none, trees, unit_view, ◌▹◌}
use Rattle.c_units.proofs.Words.Units.{Agree, Conflict, Constant, Declaration, External, HasNoDots, HaveNoDots, KeepsBinding, MayHave, Mention, MergeKeepsFile, MergeKeepsInner, Names, Program, Said, Scope, Use, after_external, all_noted, behind_external, declared_by, each_said, each_uses, first_of, first_taken, followed, has_dot, inner_use, inner_uses, is_again, is_among, joined, kept, left_parts, left_uses, mentions_of, name_as, no_program, no_scope, own_in_program, own_names, part_trees, program_parts, program_uses, renamed_external, spellings_of, suffix_of, trees_of, unit_names, unit_said, unit_uses, unless, use_as, uses_of, with_mentions, with_units}
use Rattle.c_tree.specs.declared.statement.Unit.{Unit as Code}
use Rattle.c_units.proofs.ItemTurns.{joined_none}
use Rattle.c_units.proofs.BoundExternals.{units_keep_bindings}
use Rattle.c_units.proofs.InnerBindings.{Alike, Outer, external_alike, external_outer}
use Rattle.c_units.specs.Binding.{Inner}
use Rattle.c_units.specs.FileBindings.{Part}
use Rattle.c_units.proofs.FileWalks.{IsSuffixed, external_suffixed, external_suffix}
use Rattle.c_units.proofs.FileDeclared.{IsPlain, each_plain}

-- In the merge of several units a name is bound to a declaration in an inner scope exactly where it is in its unit.

-- where an external declaration begins
abbrev begun : Scope → Scope
begun s = record s { inner = 0; uses = [] }

begun_alike : (s t : Scope) → Outer s → Outer t → Alike (begun s) (begun t)
begun_alike s t h g = (λ name. g.0 name ∙ sym (h.0 name), g.1 ∙ sym h.1, refl, refl)

module _ (spellings : List (List ℕ)) where
  -- what is left of a unit, with more behind it, at two places of file scope
  abbrev Keeps : List Said → Trees → Scope → Scope → Type 0
  Keeps saids more m r =
      (end : Scope) × Outer end ×
      (inner_uses (each_uses (joined (trees_of (kept spellings saids)) more) m)
      ≡ inner_uses (left_uses spellings saids (each_uses (trees_of saids) r)) ++ inner_uses (each_uses more end))

  one_kept : (again : Bool) (said : Said) (rest : List Said) (more : Trees) (m r : Scope) → Outer m → Outer r →
      let r' = after_external said.tree (begun r) in
      let left = left_uses spellings rest (each_uses (trees_of rest) r') in
      ((n : Scope) → Outer n → Keeps rest more n r') →
      (end : Scope) × Outer end ×
      (inner_uses (each_uses (joined (trees_of (if not again then said ∷ kept spellings rest else kept spellings rest)) more) m)
      ≡ inner_uses (if again then left else r'.uses ∷ left) ++ inner_uses (each_uses more end))
  unfolding each_uses
  one_kept true said rest more m r h g next = next m h
  one_kept false said rest more m r h g next =
      let all = next (after_external said.tree (begun m)) (external_outer said.tree (begun m) (h.0, h.1)) in
      let alike = external_alike said.tree (begun r) (begun m) (begun_alike r m g h) in
      (all.0, all.1, ap₂ (λ (us : List (List ℕ × Option ℕ)) (l : List (List (List ℕ × Option ℕ))). us ∷ l) alike.3 all.2)

  unit_kept : (saids : List Said) (more : Trees) (m r : Scope) → Outer m → Outer r → Keeps saids more m r
  unfolding each_uses
  unit_kept [] more m r h g = (m, h, refl)
  unit_kept (said ∷ rest) more m r h g =
      one_kept (is_again spellings said) said rest more m r h g
      (λ n o. unit_kept rest more n (after_external said.tree (begun r)) o (external_outer said.tree (begun r) (g.0, g.1)))

pub joined_assoc : (a b c : Trees) → joined (joined a b) c ≡ joined a (joined b c)
joined_assoc none b c = refl
joined_assoc (tree ▹ a) b c = ap (λ (ts : Trees). tree ▹ ts) (joined_assoc a b c)

inner_append : (xs ys : List (List Use)) → inner_uses (xs ++ ys) ≡ inner_uses xs ++ inner_uses ys
inner_append xs ys = map-append (map inner_use) xs ys

no_uses : (m : Scope) → each_uses none m ≡ []
unfolding each_uses
no_uses m = refl

outer_first : Outer no_scope
outer_first = (λ name. refl, refl)

abbrev answered : Trees → Result Trees Conflict
answered trees = Ok trees

abbrev stopped : Conflict → Result Trees Conflict
stopped conflict = Err conflict

pub same_answer : (x y : Trees) → answered x ≡ answered y → y ≡ x
same_answer x y h = cc

pub no_answer : (conflict : Conflict) (trees : Trees) → stopped conflict ≡ answered trees → ⊥
no_answer conflict trees h = cc

-- what is left of the units from this number on, behind external declarations with these spellings
abbrev pub all_left : ℕ → List Trees → List (List ℕ) → Trees
all_left number [] spellings = none
all_left number (unit ∷ units) spellings =
    let said = unit_said number unit in
    joined (trees_of (kept spellings said)) (all_left (number + 1) units (all_noted spellings (spellings_of said)))

merge_by : (taken : Option Mention) (number : ℕ) (units : List Trees) (next : Program) (trees all : Trees) → (with_units (number + 1) units next ≡ Ok trees → trees ≡ all) →
    followed (unless taken next) (λ next. with_units (number + 1) units next) ≡ Ok trees → trees ≡ all
merge_by (Some mention) number units next trees all rest h = absurd (no_answer (record { name = mention.name; line = mention.line }) trees h)
merge_by None number units next trees all rest h = rest h

-- a merge is what is left
pub merge_is : (units : List Trees) (number : ℕ) (before : Program) (trees : Trees) → with_units number units before ≡ Ok trees →
    trees ≡ joined before.trees (all_left number units before.spellings)
merge_is [] number before trees h = same_answer before.trees trees h ∙ sym (joined_none before.trees)
merge_is (unit ∷ units) number before trees h =
    let said : List Said = unit_said number unit in
    let left : List Said = kept before.spellings said in
    let next : Program = record { trees = joined before.trees (trees_of left); spellings = all_noted before.spellings (spellings_of said); taken = with_mentions (mentions_of left) before.taken } in
    merge_by (first_taken before.taken (mentions_of left)) number units next trees (joined before.trees (joined (trees_of left) (all_left (number + 1) units next.spellings)))
    (λ g. merge_is units (number + 1) next trees g ∙ joined_assoc before.trees (trees_of left) (all_left (number + 1) units next.spellings)) h

first_dots : (unit : Code) (units : List Code) → All HaveNoDots (map unit_view (unit ∷ units)) → HaveNoDots (unit_view unit)
first_dots unit units h = h 0 none (omega arith)

more_dots : (unit : Code) (units : List Code) → All HaveNoDots (map unit_view (unit ∷ units)) → All HaveNoDots (map unit_view units)
more_dots unit units h = λ k d below. h (suc k) d (omega (arith, below))

units_added : (units : List Code) (number : ℕ) (spellings : List (List ℕ)) (m : Scope) → All HaveNoDots (map unit_view units) → Outer m →
    inner_uses (each_uses (all_left number (map unit_view units) spellings) m) ≡ inner_uses (program_uses number (map unit_view units) spellings)
units_added [] number spellings m dots o = ap inner_uses (no_uses m)
units_added (unit ∷ units) number spellings m dots o =
    let said = unit_said number (unit_view unit) in
    let more = all_noted spellings (spellings_of said) in
    let k = unit_kept spellings said (all_left (number + 1) (map unit_view units) more) m no_scope o outer_first in
    k.2
    ∙ ap₂ (λ (us : List (List Use)) (l : List (List (List ℕ × Option ℕ))). inner_uses (left_uses spellings said us) ++ l)
    (units_keep_bindings number unit (first_dots unit units dots)) (units_added units (number + 1) more k.0 (more_dots unit units dots) k.1)
    ∙ sym (inner_append (left_uses spellings said (unit_uses number (unit_view unit))) (program_uses (number + 1) (map unit_view units) more))

pub merge_keeps_inner : MergeKeepsInner
merge_keeps_inner first second more trees dots h =
    ap (λ (ts : Trees). inner_uses (uses_of ts)) (merge_is (map unit_view (first ∷ second ∷ more)) 1 no_program trees h)
    ∙ units_added (first ∷ second ∷ more) 1 [] no_scope dots outer_first

-- In the merge of several units a name that is bound at file scope is bound to what it is bound to in its unit.

-- Names with the suffixes of two units differ, and a name with a suffix differs from each name of a text.

first_byte : (a b : ℕ) (x y : List ℕ) → a ∷ x ≡ b ∷ y → a ≡ b
first_byte a b x y h = cc

more_bytes : (a b : ℕ) (x y : List ℕ) → a ∷ x ≡ b ∷ y → x ≡ y
more_bytes a b x y h = cc

first_no_dot : (b : ℕ) (x : List ℕ) → has_dot (b ∷ x) ≡ false → 46 ≡ b → ⊥
first_no_dot b x h e = false≢true (sym (or_parts (nat_eq 46 b) (has_dot x) h).0 ∙ sym (ap (λ (n : ℕ). nat_eq 46 n) e))

more_no_dot : (b : ℕ) (x : List ℕ) → has_dot (b ∷ x) ≡ false → has_dot x ≡ false
more_no_dot b x h = (or_parts (nat_eq 46 b) (has_dot x) h).1

-- a text is cut at its first dot in one way
cut_one : (x y s t : List ℕ) → has_dot x ≡ false → has_dot y ≡ false → x ++ 46 ∷ s ≡ y ++ 46 ∷ t → s ≡ t
cut_one [] [] s t h g e = more_bytes 46 46 s t e
cut_one [] (b ∷ y) s t h g e = absurd (first_no_dot b y g (first_byte 46 b s (y ++ 46 ∷ t) e))
cut_one (a ∷ x) [] s t h g e = absurd (first_no_dot a x h (sym (first_byte a 46 (x ++ 46 ∷ s) t e)))
cut_one (a ∷ x) (b ∷ y) s t h g e =
    cut_one x y s t (more_no_dot a x h) (more_no_dot b y g) (more_bytes a b (x ++ 46 ∷ s) (y ++ 46 ∷ t) e)

-- names of texts with suffixes are equal only where these are of one unit
pub one_unit : (m n : ℕ) (x y : List ℕ) → m ≤ 64 → n ≤ 64 → has_dot x ≡ false → has_dot y ≡ false → x ++ suffix_of m ≡ y ++ suffix_of n → m ≡ n
one_unit m n x y few less h g e =
    decimal_injective m n (omega (arith, few)) (omega (arith, less)) (cut_one x y (decimal m) (decimal n) h g e)

pub suffix_dotted : (number : ℕ) (name : List ℕ) → has_dot (name ++ suffix_of number) ≡ true
suffix_dotted number name =
    list_any-append (nat_eq 46) name (suffix_of number) ∙ or_right (has_dot name) true refl

-- a name with a suffix is no name of a text
pub no_text_name : (number : ℕ) (x y : List ℕ) → has_dot x ≡ false → x ≡ y ++ suffix_of number → ⊥
no_text_name number x y h e = false≢true (sym h ∙ ap has_dot e ∙ suffix_dotted number y)

-- nor is it among those that a unit has for itself
pub not_own : (number : ℕ) (names : List (List ℕ)) (name : List ℕ) → has_dot name ≡ false → is_among (map (λ own. own ++ suffix_of number) names) name ≡ false
not_own number [] name h = refl
not_own number (own ∷ names) name h =
    ap (λ (x : Bool). x || is_among (map (λ own. own ++ suffix_of number) names) name)
    (false_from_ne_true (bytes_eq name (own ++ suffix_of number)) (λ e. no_text_name number name own h ((bytes_eq-Decides name (own ++ suffix_of number)).0 e)))
    ∙ not_own number names name h

-- In the merge of several units a name that is bound at file scope is bound to what it is bound to in its unit.

-- What is so of each part.

-- a name that is bound so in its unit, as it stands in the program
abbrev IsUse : ℕ → Option Declaration → List ℕ → Type 0
IsUse number (Some External) name = IsSuffixed (suffix_of number) name
IsUse number (Some (Inner inner)) name = ⊤
IsUse number declaration name = has_dot name ≡ false

abbrev IsUseOf : ℕ → Use → Type 0
IsUseOf number place = IsUse number place.declaration place.name

-- a part declares and uses names of its unit, and no name of a text is one that the unit has for itself
abbrev IsOfUnit : Part → Type 0
IsOfUnit part =
    (part.number ≤ 64) × ((name : List ℕ) → has_dot name ≡ false → is_among part.own name ≡ false)
    × All (IsSuffixed (suffix_of part.number)) (declared_by part.tree) × All (IsUseOf part.number) part.uses

own_by : (is_own : Bool) (suffix name : List ℕ) → has_dot name ≡ false → IsSuffixed suffix (if is_own then name ++ suffix else name)
own_by true suffix name h = (name, h, inr refl)
own_by false suffix name h = (name, h, inl refl)

use_by : (number : ℕ) (own : List (List ℕ)) (declaration : Option Declaration) (name : List ℕ) → has_dot name ≡ false →
    IsUse number declaration (name_as own (suffix_of number) declaration name)
use_by number own None name h = h
use_by number own (Some (Inner inner)) name h = tt
use_by number own (Some Constant) name h = h
use_by number own (Some External) name h = own_by (is_among own name) (suffix_of number) name h

here_used : (number : ℕ) (own : List (List ℕ)) (uses : List Use) → All IsPlain uses → All (IsUseOf number) (map (use_as own (suffix_of number)) uses)
here_used number own uses h =
    All-map (IsUseOf number) (use_as own (suffix_of number)) uses
    (All-weaker IsPlain (λ place. IsUseOf number (use_as own (suffix_of number) place)) (λ place p. use_by number own place.declaration place.name p) uses h)

all_used : (number : ℕ) (own : List (List ℕ)) (uses : List (List Use)) → All (All IsPlain) uses →
    All (All (IsUseOf number)) (map (map (use_as own (suffix_of number))) uses)
all_used number own uses h =
    All-map (All (IsUseOf number)) (map (use_as own (suffix_of number))) uses
    (All-weaker (All IsPlain) (λ us. All (IsUseOf number) (map (use_as own (suffix_of number)) us)) (λ us p. here_used number own us p) uses h)

-- each external declaration of a unit declares names of the unit
all_declared : (suffix : List ℕ) (decls : List Decl) (x : Names) → x.suffix ≡ suffix → HaveNoDots (trees decl_view decls) →
    All (λ said. All (IsSuffixed suffix) (declared_by said.tree)) (each_said (trees decl_view decls) x)
unfolding each_said HasNoDots HaveNoDots
all_declared suffix [] x e h = All-nil _
all_declared suffix (decl ∷ rest) x e h =
    let before : Names = record x { mentions = [] } in
    let next = behind_external (decl_view decl) before in
    All-cons (λ (said : Said). All (IsSuffixed suffix) (declared_by said.tree)) (record { tree = renamed_external (decl_view decl) before; mentions = next.mentions })
    (each_said (trees decl_view rest) next) (external_suffixed suffix decl before e h.0)
    (all_declared suffix rest next (external_suffix (decl_view decl) before ∙ e) h.1)

module _ (number : ℕ) (own : List (List ℕ)) (spellings : List (List ℕ)) (few : number ≤ 64)
    (apart : (name : List ℕ) → has_dot name ≡ false → is_among own name ≡ false) where
  one_left : (again : Bool) (said : Said) (here : List Use) (rest : List Part) → All (IsSuffixed (suffix_of number)) (declared_by said.tree) →
      All (IsUseOf number) here → All IsOfUnit rest →
      All IsOfUnit (if again then rest else record { number = number; own = own; tree = said.tree; uses = here } ∷ rest)
  one_left true said here rest h g more = more
  one_left false said here rest h g more =
      All-cons IsOfUnit (record { number = number; own = own; tree = said.tree; uses = here }) rest (few, apart, h, g) more

  parts_left : (saids : List Said) (uses : List (List Use)) → All (λ said. All (IsSuffixed (suffix_of number)) (declared_by said.tree)) saids →
      All (All (IsUseOf number)) uses → All IsOfUnit (left_parts number own spellings saids uses)
  parts_left [] uses h g = All-nil IsOfUnit
  parts_left (said ∷ rest) [] h g = All-nil IsOfUnit
  parts_left (said ∷ rest) (here ∷ uses) h g =
      one_left (is_again spellings said) said here (left_parts number own spellings rest uses)
      (All-head (λ (one : Said). All (IsSuffixed (suffix_of number)) (declared_by one.tree)) said rest h) (All-head (All (IsUseOf number)) here uses g)
      (parts_left rest uses (All-tail (λ (one : Said). All (IsSuffixed (suffix_of number)) (declared_by one.tree)) said rest h)
      (All-tail (All (IsUseOf number)) here uses g))

unit_left : (number : ℕ) (unit : Code) (spellings : List (List ℕ)) → number ≤ 64 → HaveNoDots (unit_view unit) →
    All IsOfUnit (left_parts number (own_in_program number (unit_view unit)) spellings (unit_said number (unit_view unit)) (unit_uses number (unit_view unit)))
unit_left number unit spellings few dots =
    parts_left number (own_in_program number (unit_view unit)) spellings few (λ name h. not_own number (own_names (unit_view unit) []) name h)
    (unit_said number (unit_view unit)) (unit_uses number (unit_view unit))
    (all_declared (suffix_of number) unit.decls (unit_names number (unit_view unit)) refl dots)
    (all_used number (own_names (unit_view unit) []) (uses_of (unit_view unit)) (each_plain (unit_view unit) no_scope dots))

units_left : (units : List Code) (number : ℕ) (spellings : List (List ℕ)) → number + length units ≤ 65 → All HaveNoDots (map unit_view units) →
    All IsOfUnit (program_parts number (map unit_view units) spellings)
units_left [] number spellings few dots = All-nil IsOfUnit
units_left (unit ∷ units) number spellings few dots =
    let said = unit_said number (unit_view unit) in
    All-append IsOfUnit (left_parts number (own_in_program number (unit_view unit)) spellings said (unit_uses number (unit_view unit)))
    (program_parts (number + 1) (map unit_view units) (all_noted spellings (spellings_of said)))
    (unit_left number unit spellings (omega (arith, few)) (All-head HaveNoDots (unit_view unit) (map unit_view units) dots))
    (units_left units (number + 1) (all_noted spellings (spellings_of said)) (omega (arith, few)) (All-tail HaveNoDots (unit_view unit) (map unit_view units) dots))

-- What is bound.

-- a name that is among some has what each of them has
among_by : (P : List ℕ → Type 0) (same rest : Bool) (one name : List ℕ) → bytes_eq name one ≡ same → P one → (rest ≡ true → P name) →
    (same || rest) ≡ true → P name
among_by P true rest one name is h more e = subst P (sym ((bytes_eq-Decides name one).0 is)) h
among_by P false rest one name is h more e = more e

among_has : (P : List ℕ → Type 0) (names : List (List ℕ)) (name : List ℕ) → All P names → is_among names name ≡ true → P name
among_has P [] name h e = absurd (cc)
among_has P (one ∷ names) name h e =
    among_by P (bytes_eq name one) (is_among names name) one name refl (All-head P one names h)
    (λ k. among_has P names name (All-tail P one names h) k) e

agree_by : (name : List ℕ) (first part : Part) → IsOfUnit first → IsOfUnit part → IsSuffixed (suffix_of first.number) name →
    IsSuffixed (suffix_of part.number) name → Agree name first part
agree_by name first part h g d (u, plain, inl e) =
    let clear : has_dot name ≡ false = ap has_dot e ∙ plain in inr (h.1 name clear, g.1 name clear)
agree_by name first part h g (v, dotless, inl k) (u, plain, inr e) =
    absurd (no_text_name part.number name u (ap has_dot k ∙ dotless) e)
agree_by name first part h g (v, dotless, inr k) (u, plain, inr e) =
    inl (one_unit first.number part.number v u h.0 g.0 dotless plain (sym k ∙ e))

may_have : (declaration : Option Declaration) (name : List ℕ) (first part : Part) → IsOfUnit first → IsOfUnit part →
    is_among (declared_by first.tree) name ≡ true → IsUse part.number declaration name → MayHave declaration name part first
may_have None name first part h g e u = h.1 name u
may_have (Some (Inner inner)) name first part h g e u = tt
may_have (Some Constant) name first part h g e u = h.1 name u
may_have (Some External) name first part h g e u =
    agree_by name first part h g (among_has (IsSuffixed (suffix_of first.number)) (declared_by first.tree) name h.2 e) u

keeps_by : (found : Bool) (first : Part) (later : Option Part) (part : Part) (place : Use) → IsOfUnit first → IsOfUnit part →
    is_among (declared_by first.tree) place.name ≡ found → IsUseOf part.number place → IfSome later (MayHave place.declaration place.name part) →
    IfSome (if found then Some first else later) (MayHave place.declaration place.name part)
keeps_by true first later part place h g e u more = may_have place.declaration place.name first part h g e u
keeps_by false first later part place h g e u more = more

keeps_binding : (parts : List Part) (part : Part) (place : Use) → All IsOfUnit parts → IsOfUnit part → IsUseOf part.number place →
    KeepsBinding parts part place
keeps_binding [] part place h g u = tt
keeps_binding (first ∷ rest) part place h g u =
    keeps_by (is_among (declared_by first.tree) place.name) first (first_of rest place.name) part place (All-head IsOfUnit first rest h) g refl u
    (keeps_binding rest part place (All-tail IsOfUnit first rest h) g u)

all_kept : (parts some : List Part) → All IsOfUnit parts → All IsOfUnit some → All (λ part. All (KeepsBinding parts part) part.uses) some
all_kept parts some h g =
    All-weaker IsOfUnit (λ (part : Part). All (KeepsBinding parts part) part.uses)
    (λ part is. All-weaker (IsUseOf part.number) (KeepsBinding parts part) (λ place u. keeps_binding parts part place h is u) part.uses is.3) some g

-- The parts are the merge.

module _ (number : ℕ) (own : List (List ℕ)) (spellings : List (List ℕ)) where
  one_tree : (again : Bool) (said : Said) (here : List Use) (parts : List Part) (rest : List Said) →
      part_trees parts ≡ trees_of (kept spellings rest) →
      part_trees (if again then parts else record { number = number; own = own; tree = said.tree; uses = here } ∷ parts)
      ≡ trees_of (if not again then said ∷ kept spellings rest else kept spellings rest)
  one_tree true said here parts rest h = h
  one_tree false said here parts rest h = ap (λ (ts : Trees). said.tree ▹ ts) h

  left_trees : (names : List (List ℕ)) (suffix : List ℕ) (unit : Trees) (x : Names) (s : Scope) →
      part_trees (left_parts number own spellings (each_said unit x) (map (map (use_as names suffix)) (each_uses unit s))) ≡ trees_of (kept spellings (each_said unit x))
  unfolding each_said each_uses
  left_trees names suffix none x s = refl
  left_trees names suffix (tree ▹ rest) x s =
      let before : Names = record x { mentions = [] } in
      let after : Names = behind_external tree before in
      let said : Said = record { tree = renamed_external tree before; mentions = after.mentions } in
      one_tree (is_again spellings said) said _ _ (each_said rest after) (left_trees names suffix rest after _)

joined_parts : (xs ys : List Part) → part_trees (xs ++ ys) ≡ joined (part_trees xs) (part_trees ys)
joined_parts [] ys = refl
joined_parts (part ∷ xs) ys = ap (λ (ts : Trees). part.tree ▹ ts) (joined_parts xs ys)

unit_trees : (number : ℕ) (unit : Trees) (spellings : List (List ℕ)) →
    part_trees (left_parts number (own_in_program number unit) spellings (unit_said number unit) (unit_uses number unit))
    ≡ trees_of (kept spellings (unit_said number unit))
unit_trees number unit spellings =
    left_trees number (own_in_program number unit) spellings (own_names unit []) (suffix_of number) unit (unit_names number unit) no_scope

parts_left_are : (units : List Trees) (number : ℕ) (spellings : List (List ℕ)) → all_left number units spellings ≡ part_trees (program_parts number units spellings)
parts_left_are [] number spellings = refl
parts_left_are (unit ∷ units) number spellings =
    let said = unit_said number unit in
    ap₂ joined (sym (unit_trees number unit spellings)) (parts_left_are units (number + 1) (all_noted spellings (spellings_of said)))
    ∙ sym (joined_parts (left_parts number (own_in_program number unit) spellings said (unit_uses number unit)) _)

pub merge_keeps_file : MergeKeepsFile
merge_keeps_file first second more trees few dots h =
    let units : List Code = first ∷ second ∷ more in
    let parts : List Part = program_parts 1 (map unit_view units) [] in
    let each : All IsOfUnit parts = units_left units 1 [] (omega (arith, few, length-map units unit_view)) dots in
    record { whole = merge_is (map unit_view units) 1 no_program trees h ∙ parts_left_are (map unit_view units) 1 []; bound = all_kept parts parts each each }
