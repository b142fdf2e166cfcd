-- What an external declaration without a body and initializers declares is what the walk over the sorts of its words finds.
use Rattle.c_units.proofs.Words.Std.{Bool, List, None, Option, Some, [], and_parts, ap, append-nil, append_assoc, arith, eqb-true, false, if◌then◌else◌, inl, inr, leb-true, length, nat_le, refl, replicate, subst, suc, sym, true, zero, ℕ, ⊤, ◌&&◌, ◌++◌, ◌+◌, ◌==◌, ◌||◌, ◌∙◌, ◌∷◌, ◌≡◌, ◌≤◌, ◌⊎◌}
use Rattle.c_units.proofs.Words.Trees.{At, Base, Declarator, Form, Init, Leaf, Node, Part, Place, RecordSort, Row_of-Suffix, Spec, Specs, TagKind, Tally, Tree, Trees, base_tree, behind_commas, count, decl_view, declarator_tree, end_of-Suffix, entry_view, enumerator_trees, first_name, has_typedef, is_integer_type, is_one_type, is_scope, key, keyword_bytes, leads_to_name, maybe_name, member_trees, more_of-Suffix, name_among, name_of, none, places, record_word, rows, shape, sign_bytes, spec_tree, specs_view, spell, spell_all, suffix_tree, suffix_trees, tag_tree, tally, trees, with_keyword, ◌▹◌}
use Rattle.c_units.proofs.Words.Units.{Names, Role, all_renamed, all_with_name, are_plain, before_declarator, behind, behind_declarator, binding_as, declared_by, entered, entries_declared, is_plain, made, mention, name_by, named, named_as, renamed, renamed_declarator, renamed_entries, renamed_external, role_of, with_name}
use Rattle.c_units.proofs.WordSorts.{Sort, Close, Comma, tree_sorts, State, Before, Within, Gone, run, run_append, run_gone, item_sorts, node_sorts, IsSound, AreSound, sound_neutral, Plain, Behind, names_in}
use Rattle.c_units.proofs.BoundTrees.{name_same}
use Rattle.c_units.proofs.BoundDeclarators.{pointer_renamed, named_so, name_so}
use Rattle.c_units.proofs.BoundExternals.{typedef_same}
use Rattle.c_tree.specs.declared.operator.RecordSort.TheVariants as r
use Rattle.c_tree.specs.declared.tree.Spec.TheVariants as c
use Rattle.c_tree.specs.declared.tree.TagKind.TheVariants as t
use Rattle.c_tree.specs.Words as w
use Rattle.c_tree.specs.Forms as f
use Rattle.c_tree.specs.Places as p
use Rattle.c_tree.specs.declared.word.Keyword.TheVariants as k
use Rattle.c_tree.specs.declared.tree.Declarator.TheVariants as d
use Rattle.c_tree.specs.declared.tree.Base.TheVariants as b
use Rattle.c_tree.specs.declared.tree.SuffixKind.TheVariants as s
use Rattle.c_tree.specs.declared.statement.Decl.TheVariants as e

-- The words of specs in the walk over the sorts of words: behind them a type was read.

-- the sorts of some trees in turn
abbrev pub each_sorts : Trees → List Sort
each_sorts none = []
each_sorts (tree ▹ rest) = tree_sorts tree ++ each_sorts rest

pub rows_sorts : (place : Place) (parts : Trees) → item_sorts (rows place (count parts)) parts ≡ each_sorts parts
rows_sorts place none = refl
rows_sorts place (tree ▹ rest) = ap (λ (l : List Sort). tree_sorts tree ++ l) (rows_sorts place rest)

-- A tag.

closed : (tree : Tree) (names : List (List ℕ)) → IsSound tree → run (Within 0 names) (tree_sorts tree ++ Close ∷ []) ≡ Before true 0 names
closed tree names h =
    run_append (Within 0 names) (tree_sorts tree) (Close ∷ []) ∙ ap (λ (s : State). run s (Close ∷ [])) (sound_neutral tree h true 0 names)

closed_behind_comma : (tree : Tree) (names : List (List ℕ)) → IsSound tree → run (Within 0 names) (tree_sorts tree ++ Comma ∷ Close ∷ []) ≡ Before true 0 names
closed_behind_comma tree names h =
    run_append (Within 0 names) (tree_sorts tree) (Comma ∷ Close ∷ []) ∙ ap (λ (s : State). run s (Comma ∷ Close ∷ [])) (sound_neutral tree h true 0 names)

module _ (line : ℕ) (body : Tree) (typed : Bool) (names : List (List ℕ)) (sound : IsSound body) where
  -- behind a node that stands in a tag's place
  at_node : (form : Form) (name : Option (List ℕ)) (end : State) → run (Before typed 0 names) (item_sorts (shape form 3) (At line ▹ maybe_name name ▹ body ▹ none)) ≡ end →
      run (Before typed 0 names) (tree_sorts (Node form (At line ▹ maybe_name name ▹ body ▹ none))) ≡ end
  at_node form name end h = ap (run (Before typed 0 names)) (node_sorts form (At line ▹ maybe_name name ▹ body ▹ none)) ∙ h

  record_by : (sort : RecordSort) (name : Option (List ℕ)) →
      run (Before typed 0 names) (tree_sorts (Node (f.RecordBody sort) (At line ▹ maybe_name name ▹ body ▹ none))) ≡ Before true 0 names
  unfolding shape record_word keyword_bytes sign_bytes spell spell_all
  record_by r.Struct None = at_node (f.RecordBody r.Struct) None _ (closed body names sound)
  record_by r.Union None = at_node (f.RecordBody r.Union) None _ (closed body names sound)
  record_by sort name = at_node (f.RecordBody sort) name _ (closed body names sound)

  enum_by : (trailing : Bool) (name : Option (List ℕ)) →
      run (Before typed 0 names) (tree_sorts (Node (f.EnumBody trailing) (At line ▹ maybe_name name ▹ body ▹ none))) ≡ Before true 0 names
  unfolding shape keyword_bytes sign_bytes spell spell_all
  enum_by true None = at_node (f.EnumBody true) None _ (closed_behind_comma body names sound)
  enum_by true (Some name) = at_node (f.EnumBody true) (Some name) _ (closed_behind_comma body names sound)
  enum_by false None = at_node (f.EnumBody false) None _ (closed body names sound)
  enum_by false (Some name) = at_node (f.EnumBody false) (Some name) _ (closed body names sound)

name_made : (name : Option (List ℕ)) (x : Names) → renamed (maybe_name name) x ≡ maybe_name name
unfolding renamed all_renamed made entered shape
name_made None x = refl
name_made (Some name) x = refl

-- behind a tag a type was read
tag_run : (kind : TagKind) (line : ℕ) (x : Names) (typed : Bool) (names : List (List ℕ)) → IsSound (renamed (tag_tree kind line) x) →
    run (Before typed 0 names) (tree_sorts (renamed (tag_tree kind line) x)) ≡ Before true 0 names
unfolding tag_tree renamed all_renamed made behind entered shape record_word keyword_bytes sign_bytes spell spell_all IsSound AreSound is_scope
tag_run (t.Record r.Struct name) line x typed names h = refl
tag_run (t.Record r.Union name) line x typed names h = refl
tag_run (t.Enum name) line x typed names h = refl
tag_run (t.RecordBody' sort name m members) line x typed names h =
    let x0 = entered (f.RecordBody sort) (At line ▹ maybe_name name ▹ Node f.Members (member_trees members) ▹ none) x in
    let body : Tree = renamed (Node f.Members (member_trees members)) (behind (maybe_name name) x0) in
    subst (λ (y : Tree). run (Before typed 0 names) (tree_sorts (Node (f.RecordBody sort) (At line ▹ y ▹ body ▹ none))) ≡ Before true 0 names) (sym (name_made name x0))
    (record_by line body typed names h.1.1.1.0 sort name)
tag_run (t.EnumBody' name m enumerators trailing) line x typed names h =
    let x0 = entered (f.EnumBody trailing) (At line ▹ maybe_name name ▹ Node f.Enumerators (enumerator_trees enumerators) ▹ none) x in
    let body : Tree = renamed (Node f.Enumerators (enumerator_trees enumerators)) (behind (maybe_name name) x0) in
    subst (λ (y : Tree). run (Before typed 0 names) (tree_sorts (Node (f.EnumBody trailing) (At line ▹ y ▹ body ▹ none))) ≡ Before true 0 names) (sym (name_made name x0))
    (enum_by line body typed names h.1.1.1.0 trailing name)

-- The words of specs.

-- what is read behind them
abbrev pub specs_state : List Spec → Bool → List (List ℕ) → State
specs_state [] typed names = Before typed 0 names
specs_state (c.Typedef ∷ words) typed names = Gone
specs_state (c.Static ∷ words) typed names = specs_state words typed names
specs_state (c.Extern ∷ words) typed names = specs_state words typed names
specs_state (c.Const ∷ words) typed names = specs_state words typed names
specs_state (word ∷ words) typed names = specs_state words true names

-- a typedef name stands behind no other word of a type
abbrev pub AreFine : Bool → List Spec → Type 0
AreFine typed [] = ⊤
AreFine typed (c.Typedef ∷ words) = ⊤
AreFine typed (c.Static ∷ words) = AreFine typed words
AreFine typed (c.Extern ∷ words) = AreFine typed words
AreFine typed (c.Const ∷ words) = AreFine typed words
AreFine typed (c.Named name ∷ words) = (typed ≡ false) × AreFine true words
AreFine typed (word ∷ words) = AreFine true words

-- the words as they stand in the program
abbrev pub words_as : List Spec → Names → Trees
words_as words x = all_renamed (trees spec_tree words) (places (rows p.SpecWord (count (trees spec_tree words)))) x

pub one_run : (tree : Tree) (more : List Sort) (s middle end : State) → run s (tree_sorts tree) ≡ middle → run middle more ≡ end → run s (tree_sorts tree ++ more) ≡ end
one_run tree more s middle end h g = run_append s (tree_sorts tree) more ∙ ap (λ (x : State). run x more) h ∙ g

named_run : (name : List ℕ) (typed : Bool) (names : List (List ℕ)) → typed ≡ false → run (Before typed 0 names) (tree_sorts (Node f.TypedefName (Leaf (w.Name name) ▹ none))) ≡ Before true 0 names
unfolding shape spell spell_all
named_run name typed names h = subst (λ (b : Bool). run (Before b 0 names) (tree_sorts (Node f.TypedefName (Leaf (w.Name name) ▹ none))) ≡ Before true 0 names) (sym h) refl

pub words_run : (words : List Spec) (x : Names) (typed : Bool) (names : List (List ℕ)) → AreFine typed words → AreSound (words_as words x) →
    run (Before typed 0 names) (each_sorts (words_as words x)) ≡ specs_state words typed names
unfolding spec_tree renamed all_renamed made entered shape keyword_bytes spell spell_all IsSound AreSound
words_run [] x typed names h g = refl
words_run (c.Static ∷ words) x typed names h g = words_run words _ typed names h g.1
words_run (c.Extern ∷ words) x typed names h g = words_run words _ typed names h g.1
words_run (c.Const ∷ words) x typed names h g = words_run words _ typed names h g.1
words_run (c.Typedef ∷ words) x typed names h g = run_gone (each_sorts (words_as words _))
words_run (c.Named name ∷ words) x typed names h g =
    one_run (Node f.TypedefName (Leaf (w.Name name) ▹ none)) (each_sorts (words_as words _)) (Before typed 0 names) (Before true 0 names) (specs_state words true names)
    (named_run name typed names h.0) (words_run words _ true names h.1 g.1)
words_run (c.Tag' line kind ∷ words) x typed names h g =
    one_run (renamed (tag_tree kind line) x) (each_sorts (words_as words _)) (Before typed 0 names) (Before true 0 names) (specs_state words true names)
    (tag_run kind line x typed names g.0) (words_run words _ true names h g.1)
words_run (word ∷ words) x typed names h g = words_run words _ true names h g.1

-- A type is one.

abbrev sum : Tally → ℕ
sum t = t.void + t.char + t.short + t.int + t.long + t.sign + t.whole

integer_by : (t : Tally) (char : Bool) → (t.char == 0) ≡ char →
    (if char
    then nat_le t.int 1 && nat_le t.short 1 && nat_le t.long 2 && (t.short == 0 || t.long == 0)
    && nat_le 1 (t.sign + t.short + t.long + t.int)
    else t.char == 1 && t.short + t.long + t.int == 0) ≡ true → 1 ≤ sum t
integer_by t true e h =
    let some : 1 ≤ t.sign + t.short + t.long + t.int = leb-true 1 (t.sign + t.short + t.long + t.int) (and_parts _ (nat_le 1 (t.sign + t.short + t.long + t.int)) h).1 in
    omega (arith, some)
integer_by t false e h =
    let one : t.char ≡ 1 = eqb-true t.char 1 (and_parts (t.char == 1) _ h).0 in omega (arith, one)

type_by : (t : Tally) (plain : Bool) → (t.void + t.whole == 0) ≡ plain →
    (if plain then is_integer_type t else t.void + t.whole == 1 && t.char + t.short + t.long + t.int + t.sign == 0) ≡ true →
    ((t.whole ≡ 0) × (1 ≤ sum t)) ⊎ (sum t ≡ 1)
type_by t true e h =
    let none_yet : t.void + t.whole ≡ 0 = eqb-true (t.void + t.whole) 0 e in
    inl (omega (arith, none_yet), integer_by t (t.char == 0) refl (and_parts (nat_le t.sign 1) _ h).1)
type_by t false e h =
    let both = and_parts (t.void + t.whole == 1) _ h in
    let one : t.void + t.whole ≡ 1 = eqb-true (t.void + t.whole) 1 both.0 in
    let no_more : t.char + t.short + t.long + t.int + t.sign ≡ 0 = eqb-true (t.char + t.short + t.long + t.int + t.sign) 0 both.1 in
    inr (omega (arith, one, no_more))

fine_plain : (words : List Spec) (typed : Bool) → (tally (trees spec_tree words)).whole ≡ 0 → AreFine typed words
unfolding spec_tree tag_tree tally with_keyword
fine_plain [] typed h = tt
fine_plain (c.Typedef ∷ words) typed h = tt
fine_plain (c.Static ∷ words) typed h = fine_plain words typed h
fine_plain (c.Extern ∷ words) typed h = fine_plain words typed h
fine_plain (c.Const ∷ words) typed h = fine_plain words typed h
fine_plain (c.Named name ∷ words) typed h = absurd (omega (arith, h))
fine_plain (c.Tag' line (t.Record sort name) ∷ words) typed h = fine_plain words true (omega (arith, h))
fine_plain (word ∷ words) typed h = fine_plain words true (omega (arith, h))

fine_one : (words : List Spec) → sum (tally (trees spec_tree words)) ≡ 1 → AreFine false words
unfolding spec_tree tag_tree tally with_keyword
fine_one [] h = tt
fine_one (c.Typedef ∷ words) h = tt
fine_one (c.Static ∷ words) h = fine_one words h
fine_one (c.Extern ∷ words) h = fine_one words h
fine_one (c.Const ∷ words) h = fine_one words h
fine_one (c.Named name ∷ words) h = (refl, fine_plain words true (omega (arith, h)))
fine_one (c.Tag' line (t.Record sort name) ∷ words) h = fine_plain words true (omega (arith, h))
fine_one (word ∷ words) h = fine_plain words true (omega (arith, h))

abbrev pub end_state : Bool → List (List ℕ) → State
end_state true names = Gone
end_state false names = Before true 0 names

state_typed : (words : List Spec) (names : List (List ℕ)) → specs_state words true names ≡ end_state (has_typedef (trees spec_tree words)) names
unfolding spec_tree tag_tree has_typedef
state_typed [] names = refl
state_typed (c.Typedef ∷ words) names = refl
state_typed (c.Static ∷ words) names = state_typed words names
state_typed (c.Extern ∷ words) names = state_typed words names
state_typed (c.Const ∷ words) names = state_typed words names
state_typed (c.Tag' line (t.Record sort name) ∷ words) names = state_typed words names
state_typed (word ∷ words) names = state_typed words names

state_ends : (words : List Spec) (names : List (List ℕ)) → 1 ≤ sum (tally (trees spec_tree words)) →
    specs_state words false names ≡ end_state (has_typedef (trees spec_tree words)) names
unfolding spec_tree tag_tree has_typedef tally with_keyword
state_ends [] names h = absurd (omega (arith, h))
state_ends (c.Typedef ∷ words) names h = refl
state_ends (c.Static ∷ words) names h = state_ends words names h
state_ends (c.Extern ∷ words) names h = state_ends words names h
state_ends (c.Const ∷ words) names h = state_ends words names h
state_ends (c.Tag' line (t.Record sort name) ∷ words) names h = state_typed words names
state_ends (word ∷ words) names h = state_typed words names

-- behind the words of one type a type was read, unless they declare names of types
pub specs_run : (words : List Spec) (x : Names) (names : List (List ℕ)) → is_one_type (tally (trees spec_tree words)) ≡ true → AreSound (words_as words x) →
    run (Before false 0 names) (each_sorts (words_as words x)) ≡ end_state (has_typedef (trees spec_tree words)) names
specs_run words x names h g = by (type_by (tally (trees spec_tree words)) _ refl h) where
  all : Tally
  all = tally (trees spec_tree words)

  by : ((all.whole ≡ 0) × (1 ≤ sum all)) ⊎ (sum all ≡ 1) → run (Before false 0 names) (each_sorts (words_as words x)) ≡ end_state (has_typedef (trees spec_tree words)) names
  by (inl e) = words_run words x false names (fine_plain words false e.0) g ∙ state_ends words names e.1
  by (inr e) = words_run words x false names (fine_one words e) g ∙ state_ends words names (omega (arith, e))

-- What an external declaration without a body and initializers declares is what the walk over the sorts of its words finds.

-- Suffixes of a declarator change nothing.

bracketed : (tree : Tree) (deep : ℕ) (names : List (List ℕ)) → IsSound tree → run (Behind (suc deep) names) (tree_sorts tree ++ Close ∷ []) ≡ Behind deep names
bracketed tree deep names h = one_run tree (Close ∷ []) (Behind (suc deep) names) (Behind (suc deep) names) (Behind deep names) (sound_neutral tree h false deep names) refl

array_run : (line : ℕ) (tree : Tree) (deep : ℕ) (names : List (List ℕ)) → IsSound tree →
    run (Behind deep names) (tree_sorts (Node f.ArraySuffix (At line ▹ tree ▹ none))) ≡ Behind deep names
unfolding shape sign_bytes spell
array_run line tree deep names h =
    ap (run (Behind deep names)) (node_sorts f.ArraySuffix (At line ▹ tree ▹ none)) ∙ bracketed tree deep names h

list_run : (line : ℕ) (tree : Tree) (deep : ℕ) (names : List (List ℕ)) → IsSound tree →
    run (Behind deep names) (tree_sorts (Node f.FunctionSuffix (At line ▹ tree ▹ none))) ≡ Behind deep names
unfolding shape sign_bytes spell
list_run line tree deep names h =
    ap (run (Behind deep names)) (node_sorts f.FunctionSuffix (At line ▹ tree ▹ none)) ∙ bracketed tree deep names h

void_run : (line deep : ℕ) (names : List (List ℕ)) → run (Behind deep names) (tree_sorts (Node f.VoidSuffix (At line ▹ none))) ≡ Behind deep names
unfolding shape keyword_bytes sign_bytes spell spell_all
void_run line deep names = refl

-- the suffixes as they stand in the program
abbrev suffixes_as : {m : _} → Row_of-Suffix m → Names → Trees
suffixes_as row x = all_renamed (suffix_trees row) (places (rows p.Suffix (count (suffix_trees row)))) x

suffixes_run : (m : _) (row : Row_of-Suffix m) (x : Names) (deep : ℕ) (names : List (List ℕ)) → AreSound (suffixes_as row x) →
    run (Behind deep names) (each_sorts (suffixes_as row x)) ≡ Behind deep names
unfolding suffix_trees suffix_tree renamed all_renamed made entered shape is_scope IsSound AreSound
suffixes_run m end_of-Suffix x deep names h = refl
suffixes_run m (more_of-Suffix line (s.Array' length) rest) x deep names h =
    one_run _ _ (Behind deep names) (Behind deep names) (Behind deep names) (array_run line _ deep names h.0.1.1.0) (suffixes_run _ rest _ deep names h.1)
suffixes_run m (more_of-Suffix line s.Void rest) x deep names h =
    one_run _ _ (Behind deep names) (Behind deep names) (Behind deep names) (void_run line deep names) (suffixes_run _ rest _ deep names h.1)
suffixes_run m (more_of-Suffix line (s.Params' k params) rest) x deep names h =
    one_run _ _ (Behind deep names) (Behind deep names) (Behind deep names) (list_run line _ deep names h.0.1.1.0) (suffixes_run _ rest _ deep names h.1)

-- A declarator adds its name.

abbrev pub HasName : Option (List ℕ) → Type 0
HasName None = ⊥
HasName (Some name) = ⊤

first_has : (x : Option (List ℕ)) → HasName (first_name x None) → HasName x
first_has None h = h
first_has (Some name) h = tt

consts_run : (n : ℕ) (tree : Tree) (deep : ℕ) (names : List (List ℕ)) →
    run (Before true deep names) (item_sorts (replicate n (key k.Const) ++ Part p.AnyDeclarator ∷ []) (tree ▹ none)) ≡ run (Before true deep names) (tree_sorts tree)
unfolding keyword_bytes
consts_run zero tree deep names = ap (run (Before true deep names)) (append-nil (tree_sorts tree))
consts_run (suc n) tree deep names = consts_run n tree deep names

-- the name of a declarator, or of what its suffixes stand behind, is read before the name of a type or object
abbrev Adds : List ℕ → Tree → Type 0
Adds name tree = (deep : ℕ) (names : List (List ℕ)) → run (Before true deep names) (tree_sorts tree) ≡ Behind deep (names ++ name ∷ [])

pointer_adds : (name : List ℕ) (consts line : ℕ) (tree : Tree) → Adds name tree → Adds name (Node (f.Pointer consts) (At line ▹ tree ▹ none))
unfolding shape sign_bytes spell
pointer_adds name consts line tree h deep names =
    ap (run (Before true deep names)) (node_sorts (f.Pointer consts) (At line ▹ tree ▹ none))
    ∙ consts_run consts tree deep names ∙ h deep names

parens_add : (name : List ℕ) (line : ℕ) (tree : Tree) → Adds name tree → Adds name (Node f.Parens (At line ▹ tree ▹ none))
unfolding shape sign_bytes spell
parens_add name line tree h deep names =
    ap (run (Before true deep names)) (node_sorts f.Parens (At line ▹ tree ▹ none))
    ∙ one_run tree (Close ∷ []) (Before true (suc deep) names) (Behind (suc deep) (names ++ name ∷ [])) (Behind deep (names ++ name ∷ [])) (h (suc deep) names) refl

direct_adds : (name : List ℕ) (base : Tree) (suffixes : Trees) → Adds name base →
    ((deep : ℕ) (names : List (List ℕ)) → run (Behind deep names) (each_sorts suffixes) ≡ Behind deep names) →
    Adds name (Node f.Direct (base ▹ Node f.Suffixes suffixes ▹ none))
unfolding shape
direct_adds name base suffixes h g deep names =
    ap (run (Before true deep names)) (node_sorts f.Direct (base ▹ Node f.Suffixes suffixes ▹ none))
    ∙ one_run base (tree_sorts (Node f.Suffixes suffixes) ++ []) (Before true deep names) (Behind deep (names ++ name ∷ [])) (Behind deep (names ++ name ∷ [])) (h deep names)
    (ap (run (Behind deep (names ++ name ∷ []))) (append-nil (tree_sorts (Node f.Suffixes suffixes)) ∙ node_sorts f.Suffixes suffixes ∙ rows_sorts p.Suffix suffixes)
    ∙ g deep (names ++ name ∷ []))

mutual
  unfolding declarator_tree base_tree behind renamed all_renamed made entered shape is_scope with_name all_with_name leads_to_name name_of name_among spell IsSound AreSound

  declarator_adds : (declarator : Declarator) (name : List ℕ) (x : Names) → HasName (name_of (declarator_tree declarator)) →
      IsSound (with_name name (renamed (declarator_tree declarator) x)) → Adds name (with_name name (renamed (declarator_tree declarator) x))
  declarator_adds (d.Pointer' line consts p target) name x h g =
      let same = pointer_renamed consts line (declarator_tree target) x in
      subst (λ (tree : Tree). Adds name (with_name name tree)) (sym same)
      (pointer_adds name consts line (with_name name (renamed (declarator_tree target) x))
      (declarator_adds target name x (first_has (name_of (declarator_tree target)) h)
      (subst (λ (tree : Tree). IsSound (with_name name tree)) same g).1.1.0))
  declarator_adds (d.Direct' base m suffixes) name x h g =
      direct_adds name (with_name name (renamed (base_tree base) x)) (suffixes_as suffixes (behind (base_tree base) x))
      (base_adds base name x (first_has (name_of (base_tree base)) h) g.1.0)
      (λ deep names. suffixes_run _ suffixes (behind (base_tree base) x) deep names g.1.1.0.1)

  base_adds : (base : Base) (name : List ℕ) (x : Names) → HasName (name_of (base_tree base)) →
      IsSound (with_name name (renamed (base_tree base) x)) → Adds name (with_name name (renamed (base_tree base) x))
  base_adds b.Nothing name x h g = absurd h
  base_adds (b.Name old) name x h g = λ deep names. refl
  base_adds (b.Parens' line p target) name x h g =
      parens_add name line (with_name name (renamed (declarator_tree target) x))
      (declarator_adds target name x (first_has (name_of (declarator_tree target)) h) g.1.1.0)

-- a declarator at file scope
abbrev IsAdded : Tree → Type 0
IsAdded tree = (name : List ℕ) × (name_of tree ≡ Some name) × Adds name tree

added_by : (found : Option (List ℕ)) (declarator : Declarator) (role : Role) (line : ℕ) (x : Names) → name_of (declarator_tree declarator) ≡ found → HasName found →
    let tree = named_as found role (renamed (declarator_tree declarator) (before_declarator found role line x)) x in
    IsSound tree → IsAdded tree
added_by None declarator role line x e h g = absurd h
added_by (Some name) declarator role line x e h g =
    let y = mention (binding_as role x.own name) role name line x in
    let new = name_by (binding_as role x.own name) x.suffix name in (
      new,
      name_so new (renamed (declarator_tree declarator) y) ∙ ap (named_so new) (name_same (declarator_tree declarator) y ∙ e),
      declarator_adds declarator new y (subst HasName (sym e) h) g,
    )

file_added : (declarator : Declarator) (role : Role) (line : ℕ) (x : Names) → HasName (name_of (declarator_tree declarator)) →
    IsSound (renamed_declarator role line (declarator_tree declarator) x) → IsAdded (renamed_declarator role line (declarator_tree declarator) x)
file_added declarator role line x h g = added_by (name_of (declarator_tree declarator)) declarator role line x refl h g

-- A declaration.

-- each has a name
abbrev pub HaveNames : List (Declarator × Option Init) → Type 0
HaveNames [] = ⊤
HaveNames (one ∷ rest) = HasName (name_of (declarator_tree one.0)) × HaveNames rest

entry_sorts : (tree : Tree) → tree_sorts (Node f.Entry (Node f.Declared (tree ▹ none) ▹ Node f.MaybeInit none ▹ none)) ≡ tree_sorts tree
unfolding shape spell spell_all
entry_sorts tree =
    node_sorts f.Entry (Node f.Declared (tree ▹ none) ▹ Node f.MaybeInit none ▹ none)
    ∙ append-nil (tree_sorts (Node f.Declared (tree ▹ none))) ∙ node_sorts f.Declared (tree ▹ none) ∙ append-nil (tree_sorts tree)

declared_name : (tree : Tree) (name : List ℕ) → name_of tree ≡ Some name → named (name_of (Node f.Declared (tree ▹ none))) ≡ name ∷ []
unfolding name_of name_among leads_to_name
declared_name tree name h = ap (λ (o : Option (List ℕ)). named (first_name o None)) h

false_true : false ≡ true → ⊥
false_true h = cc

-- the first entry of some, and those behind it, each behind a comma
module _ (line : ℕ) where
  -- what is read behind the first of some entries, and the others
  abbrev Reads : List (List ℕ) → Trees → Type 0
  Reads names entries = run (Behind 0 names) (item_sorts (behind_commas p.Entry (count entries)) entries) ≡ Behind 0 (names ++ entries_declared entries)

  entry_reads : (tree : Tree) (names : List (List ℕ)) (more : Trees) (rest : List Sort) → IsAdded tree →
      ((now : List (List ℕ)) → run (Behind 0 now) rest ≡ Behind 0 (now ++ entries_declared more)) →
      run (Before true 0 names) (tree_sorts (Node f.Entry (Node f.Declared (tree ▹ none) ▹ Node f.MaybeInit none ▹ none)) ++ rest)
      ≡ Behind 0 (names ++ entries_declared (Node f.Entry (Node f.Declared (tree ▹ none) ▹ Node f.MaybeInit none ▹ none) ▹ more))
  unfolding entries_declared
  entry_reads tree names more rest h g =
      let entry : Tree = Node f.Entry (Node f.Declared (tree ▹ none) ▹ Node f.MaybeInit none ▹ none) in
      let now : List (List ℕ) = names ++ h.0 ∷ [] in
      one_run entry rest (Before true 0 names) (Behind 0 now) (Behind 0 (now ++ entries_declared more))
      (ap (run (Before true 0 names)) (entry_sorts tree) ∙ h.2 0 names) (g now)
      ∙ ap (λ (l : List (List ℕ)). Behind 0 l) (append_assoc names (h.0 ∷ []) (entries_declared more)
      ∙ ap (λ (l : List (List ℕ)). names ++ (l ++ entries_declared more)) (sym (declared_name tree h.0 h.1)))

  entries_read : (list : List (Declarator × Option Init)) (x : Names) (names : List (List ℕ)) → HaveNames list →
      are_plain (renamed_entries line false (trees entry_view list) x) ≡ true → AreSound (renamed_entries line false (trees entry_view list) x) →
      Reads names (renamed_entries line false (trees entry_view list) x)
  unfolding renamed_entries renamed all_renamed made entered shape sign_bytes are_plain entries_declared IsSound AreSound
  entries_read [] x names h plain g = ap (λ (l : List (List ℕ)). Behind 0 l) (sym (append-nil names))
  entries_read ((declarator, Some one) ∷ rest) x names h plain g = absurd (false_true plain)
  entries_read ((declarator, None) ∷ rest) x names h plain g =
      let role = role_of false none in
      let y = behind (Node f.MaybeInit none) (behind_declarator role line (declarator_tree declarator) x) in
      entry_reads (renamed_declarator role line (declarator_tree declarator) x) names (renamed_entries line false (trees entry_view rest) y) _
      (file_added declarator role line x h.0 g.0.1.0.1.0) (λ now. entries_read rest y now h.1 plain g.1)

  -- the names of a declaration, and its end
  pub names_read : (list : List (Declarator × Option Init)) (x : Names) → HaveNames list →
      are_plain (renamed_entries line false (trees entry_view list) x) ≡ true → AreSound (renamed_entries line false (trees entry_view list) x) →
      names_in (run (Before true 0 []) (tree_sorts (Node f.Names (renamed_entries line false (trees entry_view list) x)) ++ Plain ∷ []))
      ≡ entries_declared (renamed_entries line false (trees entry_view list) x)
  unfolding renamed_entries renamed all_renamed made entered shape are_plain entries_declared IsSound AreSound spell spell_all
  names_read [] x h plain g = refl
  names_read ((declarator, Some one) ∷ rest) x h plain g = absurd (false_true plain)
  names_read ((declarator, None) ∷ rest) x h plain g =
      let role = role_of false none in
      let tree : Tree = renamed_declarator role line (declarator_tree declarator) x in
      let y = behind (Node f.MaybeInit none) (behind_declarator role line (declarator_tree declarator) x) in
      let more : Trees = renamed_entries line false (trees entry_view rest) y in
      let entry : Tree = Node f.Entry (Node f.Declared (tree ▹ none) ▹ Node f.MaybeInit none ▹ none) in
      let all : Tree = Node f.Names (entry ▹ more) in
      let read : run (Before true 0 []) (tree_sorts all) ≡ Behind 0 (entries_declared (entry ▹ more)) =
      ap (run (Before true 0 [])) (node_sorts f.Names (entry ▹ more))
      ∙ entry_reads tree [] more (item_sorts (behind_commas p.Entry (count more)) more) (file_added declarator role line x h.0 g.0.1.0.1.0)
      (λ now. entries_read rest y now h.1 plain g.1) in
      ap names_in (one_run all (Plain ∷ []) (Before true 0 []) (Behind 0 (entries_declared (entry ▹ more))) (Behind 0 (entries_declared (entry ▹ more))) read refl)

parts_read : (typedef : Bool) (line : ℕ) (parts : Trees) (list : List (Declarator × Option Init)) (y : Names) →
    run (Before false 0 []) (tree_sorts (Node f.Specs parts)) ≡ end_state typedef [] → HaveNames list →
    are_plain (renamed_entries line typedef (trees entry_view list) y) ≡ true → AreSound (renamed_entries line typedef (trees entry_view list) y) →
    names_in (run (Before false 0 []) (tree_sorts (Node f.Declaration (At line ▹ Node f.Specs parts ▹ Node f.Names (renamed_entries line typedef (trees entry_view list) y) ▹ none))))
    ≡ (if typedef then [] else entries_declared (renamed_entries line typedef (trees entry_view list) y))
unfolding shape sign_bytes spell
parts_read true line parts list y h have plain sound =
    let names : Tree = Node f.Names (renamed_entries line true (trees entry_view list) y) in
    ap (λ (l : List Sort). names_in (run (Before false 0 []) l)) (node_sorts f.Declaration (At line ▹ Node f.Specs parts ▹ names ▹ none))
    ∙ ap names_in (one_run (Node f.Specs parts) (tree_sorts names ++ Plain ∷ []) (Before false 0 []) Gone Gone h (run_gone (tree_sorts names ++ Plain ∷ [])))
parts_read false line parts list y h have plain sound =
    let names : Tree = Node f.Names (renamed_entries line false (trees entry_view list) y) in
    ap (λ (l : List Sort). names_in (run (Before false 0 []) l)) (node_sorts f.Declaration (At line ▹ Node f.Specs parts ▹ names ▹ none))
    ∙ ap names_in (one_run (Node f.Specs parts) (tree_sorts names ++ Plain ∷ []) (Before false 0 []) (Before true 0 []) (run (Before true 0 []) (tree_sorts names ++ Plain ∷ [])) h refl)
    ∙ names_read line list y have plain sound

specs_read : (specs : Specs) (x : Names) → is_one_type (tally (trees spec_tree specs.words.items)) ≡ true → IsSound (renamed (specs_view specs) x) →
    run (Before false 0 []) (tree_sorts (renamed (specs_view specs) x)) ≡ end_state (has_typedef (At specs.line ▹ trees spec_tree specs.words.items)) []
unfolding renamed all_renamed made entered behind shape is_scope spell spell_all has_typedef IsSound AreSound
specs_read specs x one sound =
    ap (run (Before false 0 [])) (node_sorts f.Specs (At specs.line ▹ words_as specs.words.items x) ∙ rows_sorts p.SpecWord (words_as specs.words.items x))
    ∙ specs_run specs.words.items x [] one sound.1.1

-- what is read off the words of a declaration without initializers is what it declares
pub declaration_read : (line : ℕ) (specs : Specs) (list : List (Declarator × Option Init)) (x : Names) →
    is_one_type (tally (trees spec_tree specs.words.items)) ≡ true → HaveNames list →
    IsSound (renamed_external (decl_view (e.Names line specs list)) x) → is_plain (renamed_external (decl_view (e.Names line specs list)) x) ≡ true →
    names_in (run (Before false 0 []) (tree_sorts (renamed_external (decl_view (e.Names line specs list)) x))) ≡ declared_by (renamed_external (decl_view (e.Names line specs list)) x)
unfolding renamed_external declared_by is_plain renamed made IsSound AreSound
declaration_read line specs list x one have sound plain =
    let old : Trees = At specs.line ▹ trees spec_tree specs.words.items in
    let y : Names = behind (Node f.Specs old) x in
    let names : Trees = renamed_entries line (has_typedef old) (trees entry_view list) y in
    parts_read (has_typedef old) line _ list y (specs_read specs x one sound.1.1.0) have plain sound.1.1.1.0.1
    ∙ ap (λ (b : Bool). if b then [] else entries_declared names) (sym (typedef_same old (places (shape f.Specs (count old))) (entered f.Specs old x)))
