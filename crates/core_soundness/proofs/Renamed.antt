-- What stays where names of a tree get a suffix: all that does not look at the bytes of names.
use Rattle.core_soundness.proofs.Words.Std.{◌≡◌, ◌≤◌, ◌+◌, ℕ, Bool, true, List, [], Option, None, is_some, ◌||◌, if◌then◌else◌, suc, refl, sym, ap, ◌∙◌, subst, arith, inl, inr, ◌⊎◌, append-nil, transport, transport⁻¹}
use Rattle.core_soundness.proofs.Words.Trees.{Form, shape, IsRenamed, IsSuffixed, Renames, RenamesAll, RenamesSome, first_name, word_name, word_is_typedef, has_typedef, leads_to_name, name_of, name_among, first_list, params_of, params_among, suffix_params, Tree, Trees, Leaf, At, Node, none, ◌▹◌, count, Word}
use Rattle.core_soundness.proofs.Words.Facts.{IsList, HasLists, HasParameters, IsDefinition, joined, WordNames, Names, AllNames, IsHeld, HasParts, Written, AllWritten, Each}
use Rattle.c_tree.specs.Forms as f
use Rattle.c_tree.specs.Words as w
use Rattle.core_soundness.proofs.Formed.{NoNodes, OneNode, AtMostOne, IsLayer, AreLayers, IsSuffix, AreSuffixes, of_typedefs, NoInits, Shaped, Formed, AllFormed, HasParams, Grammatical}
use Rattle.core_soundness.proofs.Walks.{said, weight, weights}

-- a tree with empty names: trees that differ in names alone have the same

blank_word : Word → Word
blank_word (w.Name bytes) = w.Name []
blank_word word = word

abbrev mutual
  blank : Tree → Tree
  blank (Leaf word) = Leaf (blank_word word)
  blank (At line) = At line
  blank (Node form parts) = Node form (blanks parts)

  blanks : Trees → Trees
  blanks none = none
  blanks (tree ▹ rest) = blank tree ▹ blanks rest

same_word : (word new : Word) → IsRenamed word new → blank_word word ≡ blank_word new
unfolding blank_word
same_word (w.Name name) new h = ap blank_word (sym h.1)
same_word word new h = ap blank_word (sym h)

mutual
  unfolding Renames RenamesAll

  same_blank : (tree new : Tree) → Renames tree new → blank tree ≡ blank new
  same_blank (Node form parts) (Node new news) h = λ i. Node (sym h.0 i) (same_blanks parts news h.1 i)
  same_blank tree new h = search (arith, same_word) fits 100

  same_blanks : (trees news : Trees) → RenamesAll trees news → blanks trees ≡ blanks news
  same_blanks none none h = refl
  same_blanks (tree ▹ rest) (new ▹ news) h = λ i. same_blank tree new h.0 i ▹ same_blanks rest news h.1 i
  same_blanks trees news h = absurd h

-- how much it weighs

count_blank : (trees : Trees) → count (blanks trees) ≡ count trees
count_blank none = refl
count_blank (tree ▹ rest) = ap suc (count_blank rest)

mutual
  weight_blank : (tree : Tree) → weight (blank tree) ≡ weight tree
  weight_blank (Leaf word) = refl
  weight_blank (At line) = refl
  weight_blank (Node form parts) = λ i. said (shape form (count_blank parts i)) + weights_blank parts i

  weights_blank : (trees : Trees) → weights (blanks trees) ≡ weights trees
  weights_blank none = refl
  weights_blank (tree ▹ rest) = λ i. weight_blank tree i + weights_blank rest i

weight_kept : (tree new : Tree) → Renames tree new → weight new ≡ weight tree
weight_kept tree new h = sym (weight_blank new) ∙ ap weight (sym (same_blank tree new h)) ∙ weight_blank tree

-- whether a declarator has a name, and a parameter list next to it

some_if : {A : Type 0} (t : Bool) (one other : Option A) → is_some one ≡ is_some other → is_some (if t then one else None) ≡ is_some (if t then other else None)
some_if t one other h = search arith fits 100

some_name : (one other : Option (List ℕ)) → is_some (first_name one other) ≡ is_some one || is_some other
some_name one other = search arith fits 100

some_list : (one other : Option Trees) → is_some (first_list one other) ≡ is_some one || is_some other
some_list one other = search arith fits 100

name_word : (word : Word) → is_some (word_name (blank_word word)) ≡ is_some (word_name word)
unfolding blank_word
name_word (w.Name bytes) = refl
name_word word = refl

mutual
  unfolding name_of name_among

  name_blank : (tree : Tree) → is_some (name_of (blank tree)) ≡ is_some (name_of tree)
  name_blank (Leaf word) = name_word word
  name_blank (At line) = refl
  name_blank (Node form parts) = some_if (leads_to_name form) (name_among (blanks parts)) (name_among parts) (among_blank parts)

  among_blank : (trees : Trees) → is_some (name_among (blanks trees)) ≡ is_some (name_among trees)
  among_blank none = refl
  among_blank (tree ▹ rest) =
      some_name (name_of (blank tree)) (name_among (blanks rest)) ∙ (λ i. name_blank tree i || among_blank rest i) ∙ sym (some_name (name_of tree) (name_among rest))

suffix_blank : (trees : Trees) → is_some (suffix_params (blanks trees)) ≡ is_some (suffix_params trees)
unfolding suffix_params
suffix_blank trees = search arith fits 100

mutual
  unfolding params_of params_among

  params_blank : (tree : Tree) → is_some (params_of (blank tree)) ≡ is_some (params_of tree)
  params_blank (Leaf word) = refl
  params_blank (At line) = refl
  params_blank (Node form parts) = some_if (leads_to_name form) (params_among (blanks parts)) (params_among parts) (list_blank parts)

  list_blank : (trees : Trees) → is_some (params_among (blanks trees)) ≡ is_some (params_among trees)
  list_blank none = refl
  list_blank (Leaf word ▹ rest) = suffix_blank rest
  list_blank (At line ▹ rest) = list_blank rest
  list_blank (Node form parts ▹ rest) =
      some_list (params_of (blank (Node form parts))) (params_among (blanks rest)) ∙ (λ i. params_blank (Node form parts) i || list_blank rest i) ∙ sym (some_list (params_of (Node form parts)) (params_among rest))

list_is : (tree : Tree) → IsList (blank tree) ≡ IsList tree
list_is tree = search arith fits 100

lists_are : (trees : Trees) → HasLists (blanks trees) ≡ HasLists trees
lists_are none = refl
lists_are (tree ▹ rest) = λ i. list_is tree i ⊎ lists_are rest i

parameters_blank : (tree : Tree) → HasParameters (blank tree) ≡ HasParameters tree
unfolding HasParameters
parameters_blank (Node (f.Pointer consts) (At line ▹ declarator ▹ none)) = parameters_blank declarator
parameters_blank (Node f.Direct (base ▹ Node f.Suffixes suffixes ▹ none)) = λ i. parameters_blank base i ⊎ lists_are suffixes i
parameters_blank (Node f.Parens (At line ▹ declarator ▹ none)) = parameters_blank declarator
parameters_blank tree = refl

-- what is written

held_blank : (word : Word) → IsHeld (blank_word word) ≡ IsHeld word
unfolding blank_word
held_blank (w.Int bytes) = refl
held_blank word = refl

parts_blank : (form : Form) (parts : Trees) → HasParts form (blanks parts) ≡ HasParts form parts
unfolding HasParts
parts_blank form parts = search (arith, name_blank) fits 100

mutual
  unfolding Written AllWritten

  written_blank : (tree : Tree) → Written (blank tree) ≡ Written tree
  written_blank (Leaf word) = held_blank word
  written_blank (At line) = refl
  written_blank (Node form parts) = λ i. parts_blank form parts i × all_written_blank parts i

  all_written_blank : (trees : Trees) → AllWritten (blanks trees) ≡ AllWritten trees
  all_written_blank none = refl
  all_written_blank (tree ▹ rest) = λ i. written_blank tree i × all_written_blank rest i

-- what is formed

no_nodes_blank : (trees : Trees) → NoNodes (blanks trees) ≡ NoNodes trees
no_nodes_blank (Leaf word ▹ rest) = no_nodes_blank rest
no_nodes_blank (At line ▹ rest) = no_nodes_blank rest
no_nodes_blank trees = refl

one_node_blank : (trees : Trees) → OneNode (blanks trees) ≡ OneNode trees
one_node_blank (Leaf word ▹ rest) = one_node_blank rest
one_node_blank (At line ▹ rest) = one_node_blank rest
one_node_blank (Node form parts ▹ rest) = no_nodes_blank rest
one_node_blank none = refl

at_most_blank : (trees : Trees) → AtMostOne (blanks trees) ≡ AtMostOne trees
at_most_blank trees = search arith fits 100

layer_blank : (tree : Tree) → IsLayer (blank tree) ≡ IsLayer tree
layer_blank tree = search arith fits 100

layers_blank : (trees : Trees) → AreLayers (blanks trees) ≡ AreLayers trees
layers_blank none = refl
layers_blank (tree ▹ rest) = λ i. layer_blank tree i × layers_blank rest i

suffix_is : (tree : Tree) → IsSuffix (blank tree) ≡ IsSuffix tree
suffix_is (Node f.ArraySuffix (At line ▹ Node f.MaybeLength none ▹ none)) = refl
suffix_is tree = search (arith, no_nodes_blank) fits 100

suffixes_are : (trees : Trees) → AreSuffixes (blanks trees) ≡ AreSuffixes trees
suffixes_are none = refl
suffixes_are (tree ▹ rest) = λ i. suffix_is tree i × suffixes_are rest i

typedef_word : (word : Word) → word_is_typedef (blank_word word) ≡ word_is_typedef word
unfolding blank_word
typedef_word (w.Name bytes) = refl
typedef_word word = refl

has_typedef_blank : (trees : Trees) → has_typedef (blanks trees) ≡ has_typedef trees
unfolding has_typedef
has_typedef_blank none = refl
has_typedef_blank (Leaf word ▹ rest) = λ i. typedef_word word i || has_typedef_blank rest i
has_typedef_blank (At line ▹ rest) = has_typedef_blank rest
has_typedef_blank (Node form parts ▹ rest) = has_typedef_blank rest

typedefs_blank : (tree : Tree) → of_typedefs (blank tree) ≡ of_typedefs tree
typedefs_blank tree = search (arith, has_typedef_blank) fits 100

inits_blank : (trees : Trees) → NoInits (blanks trees) ≡ NoInits trees
inits_blank (Node f.Entry (declared ▹ Node f.MaybeInit none ▹ none) ▹ rest) = inits_blank rest
inits_blank trees = refl

shaped_blank : (form : Form) (parts : Trees) → Shaped form (blanks parts) ≡ Shaped form parts
unfolding Shaped
shaped_blank f.Strings parts = no_nodes_blank parts
shaped_blank f.Empty parts = no_nodes_blank parts
shaped_blank f.MaybeName parts = no_nodes_blank parts
shaped_blank f.Specs parts = one_node_blank parts
shaped_blank f.MaybeExpr parts = at_most_blank parts
shaped_blank f.MaybeInit parts = at_most_blank parts
shaped_blank (f.Pointer consts) (line ▹ declarator ▹ none) = layer_blank declarator
shaped_blank f.Direct (base ▹ Node f.Suffixes suffixes ▹ none) = λ i. layer_blank base i × suffixes_are suffixes i
shaped_blank f.Parens (line ▹ declarator ▹ none) = layer_blank declarator
shaped_blank f.Typename (line ▹ words ▹ declarator ▹ none) = layer_blank declarator
shaped_blank f.Param (line ▹ words ▹ declarator ▹ none) = layer_blank declarator
shaped_blank f.MemberNames declarators = layers_blank declarators
shaped_blank f.Declared (declarator ▹ none) = λ i. layer_blank declarator i × (name_blank declarator i ≡ true)
shaped_blank f.Local (line ▹ words ▹ Node f.Names entries ▹ none) = λ i. typedefs_blank words i ≡ true → inits_blank entries i
shaped_blank f.ForNames (words ▹ Node f.Names entries ▹ none) = λ i. typedefs_blank words i ≡ true → inits_blank entries i
shaped_blank form parts = refl

mutual
  unfolding Formed AllFormed

  formed_blank : (tree : Tree) → Formed (blank tree) ≡ Formed tree
  formed_blank (Leaf word) = refl
  formed_blank (At line) = refl
  formed_blank (Node form parts) = λ i. shaped_blank form parts i × all_formed_blank parts i

  all_formed_blank : (trees : Trees) → AllFormed (blanks trees) ≡ AllFormed trees
  all_formed_blank none = refl
  all_formed_blank (tree ▹ rest) = λ i. formed_blank tree i × all_formed_blank rest i

-- external declarations

definition_blank : (tree : Tree) → IsDefinition (blank tree) ≡ IsDefinition tree
definition_blank (Node f.Function (line ▹ words ▹ Node f.Declared (declarator ▹ none) ▹ body ▹ none)) = parameters_blank declarator
definition_blank tree = refl

has_params_blank : (tree : Tree) → HasParams (blank tree) ≡ HasParams tree
has_params_blank (Node f.Function (line ▹ words ▹ Node f.Declared (declarator ▹ none) ▹ body ▹ none)) = λ i. params_blank declarator i ≡ true
has_params_blank tree = refl

grammatical_blank : (tree : Tree) → Grammatical (blank tree) ≡ Grammatical tree
grammatical_blank tree = λ i. (written_blank tree i × definition_blank tree i) × (formed_blank tree i × has_params_blank tree i)

-- names that are such ones, where a suffix keeps that

module _ (V W : List ℕ → Type 0) (kept : (name new : List ℕ) → IsSuffixed name new → V name → W new) where
  word_kept : (word new : Word) → IsRenamed word new → WordNames V word → WordNames W new
  word_kept (w.Name name) new h v = subst (WordNames W) (sym h.1) (kept name h.0 h.2 v)
  word_kept word new h v = subst (WordNames W) (sym h) tt

  mutual
    unfolding Renames RenamesAll

    names_kept : (tree new : Tree) → Renames tree new → Names V tree → Names W new
    names_kept (Node form parts) (Node new news) h v = all_names_kept parts news h.1 v
    names_kept tree new h v = search (arith, word_kept) fits 100

    all_names_kept : (trees news : Trees) → RenamesAll trees news → AllNames V trees → AllNames W news
    all_names_kept none none h v = tt
    all_names_kept (tree ▹ rest) (new ▹ news) h v = (names_kept tree new h.0 v.0, all_names_kept rest news h.1 v.1)
    all_names_kept trees news h v = absurd h

  pub some_names : (trees news : Trees) → RenamesSome trees news → AllNames V trees → AllNames W news
  unfolding RenamesSome
  some_names (tree ▹ rest) (new ▹ news) (inl h) v = (names_kept tree new h.0 v.0, some_names rest news h.1 v.1)
  some_names (tree ▹ rest) (new ▹ news) (inr h) v = some_names rest (new ▹ news) h v.1
  some_names trees news h v = search arith fits 100

-- some of the trees

pub some_grammatical : (trees news : Trees) → RenamesSome trees news → Each Grammatical trees → Each Grammatical news
unfolding RenamesSome
some_grammatical (tree ▹ rest) (new ▹ news) (inl h) p = (transport (grammatical_blank new) (subst Grammatical (same_blank tree new h.0) (transport⁻¹ (grammatical_blank tree) p.0)), some_grammatical rest news h.1 p.1)
some_grammatical (tree ▹ rest) (new ▹ news) (inr h) p = some_grammatical rest (new ▹ news) h p.1
some_grammatical trees news h p = search arith fits 100

pub some_weighed : (trees news : Trees) → RenamesSome trees news → weights news ≤ weights trees
unfolding RenamesSome
some_weighed (tree ▹ rest) (new ▹ news) (inl h) = omega (arith, weight_kept tree new h.0, some_weighed rest news h.1)
some_weighed (tree ▹ rest) (new ▹ news) (inr h) = omega (arith, some_weighed rest (new ▹ news) h)
some_weighed trees news h = search arith fits 100

-- trees that keep their names

mutual
  unfolding Renames RenamesAll

  renames_same : (tree : Tree) → Renames tree tree
  renames_same (Leaf word) = search (arith, append-nil) fits 100
  renames_same (At line) = refl
  renames_same (Node form parts) = (refl, renames_same_all parts)

  renames_same_all : (trees : Trees) → RenamesAll trees trees
  renames_same_all none = tt
  renames_same_all (tree ▹ rest) = (renames_same tree, renames_same_all rest)

pub renames_own : (unit : Trees) → RenamesSome (joined unit none) unit
unfolding RenamesSome
renames_own none = tt
renames_own (tree ▹ rest) = inl (renames_same tree, renames_own rest)
