-- What the grammar says of trees.
use Rattle.core_soundness.proofs.Words.Std.{◌≡◌, Bool, true, false, IsSome, ◌⊎◌, replicate, ◌≤◌, ℕ, zero, suc, List, [], ◌∷◌, ◌++◌, All, refl, sym, ap, ◌∙◌, subst, arith, eqb-true, and_parts, All-tail, false≢true}
use Rattle.core_soundness.proofs.Words.Trees.{IsToken, IsLexed, Token, TokenKind, Takes, IsBase, IsDeclarator, Allowed, AllAllowed, IsExternal, AreExternals, Tally, with_keyword, with_word, tally, are_specs, obeys, Form, Item, Says, Here, Part, key, shape, form_home, keyword_home, home, rows, some, commas, behind_commas, some_commas, expr, HasTree, Place, name_of, has_typedef, params_of, Scope, leads_to_name, places, params_among, suffix_params, first_scope, is_scope, after, left, Piece, Said, Line, filled, spell, spell_all, IsWord, Spells, Tree, Trees, Leaf, At, Node, none, ◌▹◌, count, Word}
use Rattle.core_soundness.proofs.Words.Facts.{HasLists, HasParameters, IsDefinition, WordNames, Names, AllNames, IsHeld, HasParts, Written, AllWritten, Each, AreWritten}
use Rattle.c_lexer.specs.Cutting.{ConstantsFit}
use Rattle.c_lexer.specs.declared.token.TokenKind.TheVariants as kind
use Rattle.c_tree.specs.Forms as f
use Rattle.c_tree.specs.Places as p
use Rattle.c_tree.specs.Words as w
use Rattle.c_tree.specs.declared.word.Keyword.TheVariants as k

-- the shapes of trees that the walk over addresses stands on: what elaboration does not look at has no nodes, and nothing stands where a declarator or a suffix is looked for but one of these

-- parts that are no nodes, of which one is a node, and of which there is at most one
abbrev pub NoNodes : Trees → Type 0
NoNodes none = Unit {0}
NoNodes (Leaf word ▹ rest) = NoNodes rest
NoNodes (At line ▹ rest) = NoNodes rest
NoNodes (Node _ parts ▹ rest) = ⊥

abbrev pub OneNode : Trees → Type 0
OneNode none = Unit {0}
OneNode (Leaf word ▹ rest) = OneNode rest
OneNode (At line ▹ rest) = OneNode rest
OneNode (Node _ parts ▹ rest) = NoNodes rest

abbrev pub AtMostOne : Trees → Type 0
AtMostOne none = Unit {0}
AtMostOne (tree ▹ none) = Unit {0}
AtMostOne (tree ▹ more ▹ rest) = ⊥

-- a declarator, and a suffix of one
abbrev pub IsLayer : Tree → Type 0
IsLayer (Leaf word) = Unit {0}
IsLayer (At line) = Unit {0}
IsLayer (Node (f.Pointer consts) (At line ▹ declarator ▹ none)) = Unit {0}
IsLayer (Node f.Direct (base ▹ Node f.Suffixes suffixes ▹ none)) = Unit {0}
IsLayer (Node f.Parens (At line ▹ declarator ▹ none)) = Unit {0}
IsLayer (Node f.Nothing none) = Unit {0}
IsLayer (Node _ parts) = ⊥

abbrev pub AreLayers : Trees → Type 0
AreLayers none = Unit {0}
AreLayers (tree ▹ rest) = IsLayer tree × AreLayers rest

abbrev pub IsSuffix : Tree → Type 0
IsSuffix (Node f.ArraySuffix (At line ▹ Node f.MaybeLength none ▹ none)) = Unit {0}
IsSuffix (Node f.ArraySuffix (At line ▹ Node f.MaybeLength (e ▹ none) ▹ none)) = Unit {0}
IsSuffix (Node f.FunctionSuffix (At line ▹ Node f.Params params ▹ none)) = Unit {0}
IsSuffix (Node f.VoidSuffix parts) = NoNodes parts
IsSuffix tree = ⊥

abbrev pub AreSuffixes : Trees → Type 0
AreSuffixes none = Unit {0}
AreSuffixes (tree ▹ rest) = IsSuffix tree × AreSuffixes rest

-- specs of typedef names, behind which no initializer stands (C99 6.7.7)
abbrev pub of_typedefs : Tree → Bool
of_typedefs (Node f.Specs parts) = has_typedef parts
of_typedefs tree = false

abbrev pub NoInits : Trees → Type 0
NoInits none = Unit {0}
NoInits (Node f.Entry (declared ▹ Node f.MaybeInit none ▹ none) ▹ rest) = NoInits rest
NoInits (tree ▹ rest) = ⊥

unfoldable pub Shaped : Form → Trees → Type 0
Shaped f.Strings parts = NoNodes parts
Shaped f.Empty parts = NoNodes parts
Shaped f.MaybeName parts = NoNodes parts
Shaped f.Specs parts = OneNode parts
Shaped f.MaybeExpr parts = AtMostOne parts
Shaped f.MaybeInit parts = AtMostOne parts
Shaped (f.Pointer consts) (line ▹ declarator ▹ none) = IsLayer declarator
Shaped f.Direct (base ▹ Node f.Suffixes suffixes ▹ none) = IsLayer base × AreSuffixes suffixes
Shaped f.Parens (line ▹ declarator ▹ none) = IsLayer declarator
Shaped f.Typename (line ▹ words ▹ declarator ▹ none) = IsLayer declarator
Shaped f.Param (line ▹ words ▹ declarator ▹ none) = IsLayer declarator
Shaped f.MemberNames declarators = AreLayers declarators
Shaped f.Declared (declarator ▹ none) = IsLayer declarator × IsSome (name_of declarator)
Shaped f.Local (line ▹ words ▹ Node f.Names entries ▹ none) = of_typedefs words ≡ true → NoInits entries
Shaped f.ForNames (words ▹ Node f.Names entries ▹ none) = of_typedefs words ≡ true → NoInits entries
Shaped _ parts = Unit {0}

unfoldable mutual
  pub Formed : Tree → Type 0
  Formed (Leaf word) = Unit {0}
  Formed (At line) = Unit {0}
  Formed (Node form parts) = Shaped form parts × AllFormed parts

  pub AllFormed : Trees → Type 0
  AllFormed none = Unit {0}
  AllFormed (tree ▹ rest) = Formed tree × AllFormed rest

-- the layer next to the name of a function that is defined is a parameter list
abbrev pub HasParams : Tree → Type 0
HasParams (Node f.Function (line ▹ words ▹ Node f.Declared (declarator ▹ none) ▹ body ▹ none)) = IsSome (params_of declarator)
HasParams tree = Unit {0}

-- what the grammar says of an external declaration
abbrev pub Grammatical : Tree → Type 0
Grammatical tree = (Written tree × IsDefinition tree) × (Formed tree × HasParams tree)

abbrev pub AreFormed : Trees → Type 0
AreFormed unit = Each (λ tree. Formed tree × HasParams tree) unit

pub all_written : (unit : Trees) → Each Grammatical unit → AreWritten unit
all_written none h = tt
all_written (tree ▹ rest) h = (h.0.0, all_written rest h.1)

pub all_formed : (unit : Trees) → Each Grammatical unit → AreFormed unit
all_formed none h = tt
all_formed (tree ▹ rest) h = (h.0.1, all_formed rest h.1)

has_parts : (form : Form) (parts : Trees) (scope : Scope) → AllAllowed parts (places (shape form (count parts))) scope → HasParts form parts
unfolding shape AllAllowed HasParts Takes
has_parts form parts scope a = search arith fits 100

-- where no word stands, and where no node does

abbrev takes_word : Place → Bool
takes_word p.Line = false
takes_word p.Suffixes = false
takes_word p.Suffix = false
takes_word p.MaybeLength = false
takes_word p.Params = false
takes_word p.MaybeInit = false
takes_word p.Entry = false
takes_word place = true

no_word : (word : Word) (place : Place) → takes_word place ≡ false → home (Leaf word) ≡ place → ⊥
unfolding keyword_home
no_word word place e h = false≢true (sym e ∙ ap takes_word (sym h) ∙ (search arith fits 100))

abbrev takes_node : Place → Bool
takes_node p.Line = false
takes_node p.Str = false
takes_node p.Name = false
takes_node place = true

no_node : (form : Form) (place : Place) → takes_node place ≡ false → form_home form ≡ place → ⊥
unfolding form_home
no_node form place e h = false≢true (sym e ∙ ap takes_node (sym h) ∙ (search arith fits 100))

-- parameter lists

no_list : {G : Type 0} → false ≡ true → G
no_list e = cc

list_first : (suffixes : Trees) → IsSome (suffix_params (Node f.Suffixes suffixes ▹ none)) → HasLists suffixes
unfolding suffix_params
list_first suffixes e = search (arith, no_list) fits 100

pub behind_stars : (consts : ℕ) → places (replicate consts (key k.Const) ++ Part p.AnyDeclarator ∷ []) ≡ p.AnyDeclarator ∷ []
behind_stars zero = refl
behind_stars (suc n) = behind_stars n

declarator_named : (place : Place) → IsDeclarator place → place ≡ p.Declared → ⊥
declarator_named place h e = subst IsDeclarator e h

base_named : (place : Place) → IsBase place → place ≡ p.Declared → ⊥
base_named place h e = subst IsBase e h

-- a line with one part behind it
pub line_parts : (parts : Trees) (place : Place) (scope : Scope) → AllAllowed parts (p.Line ∷ place ∷ []) scope → (line : ℕ) × (tree : Tree) × (parts ≡ (At line ▹ tree ▹ none))
unfolding AllAllowed Takes
line_parts none place scope a = absurd a
line_parts (Leaf word ▹ rest) place scope a = absurd (no_word word p.Line refl a.0)
line_parts (Node form parts ▹ rest) place scope a = absurd (no_node form p.Line refl a.0)
line_parts (At line ▹ none) place scope a = absurd a.2
line_parts (At line ▹ tree ▹ (more ▹ rest)) place scope a = absurd a.2.2
line_parts (At line ▹ tree ▹ none) place scope a = (line, tree, refl)

-- a base with suffixes behind it
pub base_parts : (parts : Trees) (scope : Scope) → AllAllowed parts (p.Base ∷ p.Suffixes ∷ []) scope → (base : Tree) × (suffixes : Trees) × (parts ≡ (base ▹ Node f.Suffixes suffixes ▹ none))
unfolding AllAllowed Takes form_home
base_parts none scope a = absurd a
base_parts (base ▹ none) scope a = absurd a.2
base_parts (base ▹ Leaf word ▹ rest) scope a = absurd (no_word word p.Suffixes refl a.2.0)
base_parts (base ▹ At line ▹ rest) scope a = let e : p.Line ≡ p.Suffixes = a.2.0 in cc
base_parts (base ▹ Node form parts ▹ (more ▹ rest)) scope a = absurd a.2.2
base_parts (base ▹ Node form parts ▹ none) scope a = (base, parts, ap (λ (x : Form). base ▹ Node x parts ▹ none) (search arith fits 100))

-- the parameters of a part alone
pub alone : (tree : Tree) → IsSome (params_among (tree ▹ none)) → IsSome (params_of tree)
unfolding params_of params_among suffix_params
alone tree h = search (arith, no_list) fits 100

-- the parameters of a base, or of the suffixes behind it
base_or : (base : Tree) (suffixes : Trees) → IsBase (home base) → IsSome (params_among (base ▹ Node f.Suffixes suffixes ▹ none)) → IsSome (params_of base) ⊎ HasLists suffixes
unfolding params_of params_among leads_to_name
base_or base suffixes b h = search (arith, list_first, no_list) fits 100

layer_named : (place : Place) → place ≡ p.PointerLayer → place ≡ p.Declared → ⊥
layer_named place h e = let clash : p.PointerLayer ≡ p.Declared = sym h ∙ e in cc

either : {P Q R : Type 0} → P ⊎ R → (P → Q) → Q ⊎ R
either h0 f = search arith fits 100

has_list : (tree : Tree) (scope : Scope) → Allowed tree scope → (home tree ≡ p.Declared → ⊥) → IsSome (params_of tree) → HasParameters tree
unfolding Allowed AllAllowed params_of params_among leads_to_name HasParameters shape Takes form_home
has_list (Node (f.Pointer consts) (At line ▹ declarator ▹ none)) scope a n h =
    let b : AllAllowed (At line ▹ declarator ▹ none) (p.Line ∷ p.AnyDeclarator ∷ []) scope = subst (λ (ps : List Place). AllAllowed (At line ▹ declarator ▹ none) (p.Line ∷ ps) scope) (behind_stars consts) a.1 in
    has_list declarator _ b.2.1 (declarator_named (home declarator) b.2.0) (alone declarator h)
has_list (Node (f.Pointer consts) parts) scope a n h =
    let r = line_parts parts p.AnyDeclarator scope (subst (λ (ps : List Place). AllAllowed parts (p.Line ∷ ps) scope) (behind_stars consts) a.1) in
    let e : parts ≡ (At r.0 ▹ r.1 ▹ none) = r.2 in cc
has_list (Node f.Direct (base ▹ Node f.Suffixes suffixes ▹ none)) scope a n h =
    either (base_or base suffixes a.1.0 h) (λ x. has_list base scope a.1.1 (base_named (home base) a.1.0) x)
has_list (Node f.Direct parts) scope a n h =
    let r = base_parts parts scope a.1 in
    let e : parts ≡ (r.0 ▹ Node f.Suffixes r.1 ▹ none) = r.2 in cc
has_list (Node f.Parens (At line ▹ declarator ▹ none)) scope a n h =
    has_list declarator _ a.1.2.1 (layer_named (home declarator) a.1.2.0) (alone declarator h)
has_list (Node f.Parens parts) scope a n h =
    let r = line_parts parts p.PointerLayer scope a.1 in
    let e : parts ≡ (At r.0 ▹ r.1 ▹ none) = r.2 in cc
has_list (Node f.Declared parts) scope a n h = absurd (n refl)
has_list other scope a n h = no_list h

-- external declarations

external_defined : (tree : Tree) (scope : Scope) → IsExternal tree scope → IsDefinition tree
unfolding IsExternal AllAllowed Allowed Takes params_of params_among leads_to_name shape
external_defined tree scope h = search (arith, has_list, declarator_named, alone) fits 100

-- shapes

-- words

strings_alone : (parts : Trees) (scope : Scope) → AllAllowed parts (places (rows p.Str (count parts))) scope → NoNodes parts
unfolding AllAllowed Takes
strings_alone none scope a = tt
strings_alone (Leaf word ▹ rest) scope a = strings_alone rest _ a.2
strings_alone (At line ▹ rest) scope a = strings_alone rest _ a.2
strings_alone (Node form parts ▹ rest) scope a = absurd (no_node form p.Str refl a.0)

strings_formed : (parts : Trees) (scope : Scope) → AllAllowed parts (places (some p.Str (count parts))) scope → NoNodes parts
unfolding AllAllowed
strings_formed none scope a = tt
strings_formed (tree ▹ rest) scope a = strings_alone (tree ▹ rest) scope a

line_alone : (parts : Trees) (scope : Scope) → AllAllowed parts (p.Line ∷ []) scope → NoNodes parts
unfolding AllAllowed Takes
line_alone (Leaf word ▹ more ▹ rest) scope a = absurd a.2
line_alone (At line ▹ more ▹ rest) scope a = absurd a.2
line_alone (Node form parts ▹ rest) scope a = absurd (no_node form p.Line refl a.0)
line_alone other scope a = tt

name_alone : (parts : Trees) (scope : Scope) → AllAllowed parts (p.Name ∷ []) scope → NoNodes parts
unfolding AllAllowed Takes
name_alone (Leaf word ▹ more ▹ rest) scope a = absurd a.2
name_alone parts scope a = search (arith, no_node) fits 100

at_most : (parts : Trees) (place : Place) (scope : Scope) → AllAllowed parts (place ∷ []) scope → AtMostOne parts
unfolding AllAllowed
at_most parts place scope a = search arith fits 100

-- specs

word_whole : (word : Word) (t : Tally) → (with_word word t).whole ≡ t.whole
unfolding with_keyword
word_whole word t = search arith fits 100

no_nodes : (parts : Trees) → (tally parts).whole ≡ 0 → NoNodes parts
unfolding tally
no_nodes none e = tt
no_nodes (Leaf word ▹ rest) e = no_nodes rest (sym (word_whole word (tally rest)) ∙ e)
no_nodes (At line ▹ rest) e = no_nodes rest e
no_nodes (Node form parts ▹ rest) e = absurd (omega (arith, e))

one_node : (parts : Trees) → (tally parts).whole ≤ 1 → OneNode parts
unfolding tally
one_node none h = tt
one_node (Leaf word ▹ rest) h = one_node rest (subst (λ (n : ℕ). n ≤ 1) (word_whole word (tally rest)) h)
one_node (At line ▹ rest) h = one_node rest h
one_node (Node form parts ▹ rest) h = no_nodes rest (omega (arith, h))

-- declarators

-- where a layer of a declarator may stand
abbrev Layering : Place → Type 0
Layering p.PointerLayer = Unit {0}
Layering p.AnyDeclarator = Unit {0}
Layering p.Base = Unit {0}
Layering p.Name = Unit {0}
Layering place = ⊥

declarator_layering : (place : Place) → IsDeclarator place → Layering place
declarator_layering place h = search arith fits 100

layer_formed : (tree : Tree) (scope : Scope) → Layering (home tree) → Allowed tree scope → IsLayer tree
unfolding Allowed AllAllowed shape form_home
layer_formed tree scope l a = search (arith, line_parts, behind_stars, base_parts) fits 100

layers_formed : (trees : Trees) (scope : Scope) → AllAllowed trees (places (behind_commas p.Declarator (count trees))) scope → AreLayers trees
unfolding AllAllowed Takes
layers_formed none scope a = tt
layers_formed (tree ▹ rest) scope a = (layer_formed tree scope (declarator_layering (home tree) a.0.0) a.1, layers_formed rest _ a.2)

members_formed : (trees : Trees) (scope : Scope) → AllAllowed trees (places (some_commas p.Declarator (count trees))) scope → AreLayers trees
unfolding AllAllowed Takes
members_formed none scope a = absurd a
members_formed (tree ▹ rest) scope a = (layer_formed tree scope (declarator_layering (home tree) a.0.0) a.1, layers_formed rest _ a.2)

-- suffixes

length_formed : (tree : Tree) (scope : Scope) → home tree ≡ p.MaybeLength → Allowed tree scope → (parts : Trees) × (tree ≡ Node f.MaybeLength parts) × AtMostOne parts
unfolding Allowed AllAllowed shape form_home
length_formed (Leaf word) scope h a = absurd (no_word word p.MaybeLength refl h)
length_formed tree scope h a = search (arith, at_most) fits 100

params_formed : (tree : Tree) → home tree ≡ p.Params → (parts : Trees) × (tree ≡ Node f.Params parts)
unfolding form_home
params_formed (Leaf word) h = absurd (no_word word p.Params refl h)
params_formed (At line) h = let e : p.Line ≡ p.Params = h in cc
params_formed (Node form parts) h = (parts, ap (λ (x : Form). Node x parts) (search arith fits 100))

suffix_formed : (tree : Tree) (scope : Scope) → home tree ≡ p.Suffix → Allowed tree scope → IsSuffix tree
unfolding Allowed AllAllowed Takes shape form_home
suffix_formed (Leaf word) scope h a = absurd (no_word word p.Suffix refl h)
suffix_formed tree scope h a = search (arith, line_parts, length_formed, params_formed, line_alone) fits 100

suffixes_formed : (trees : Trees) (scope : Scope) → AllAllowed trees (places (rows p.Suffix (count trees))) scope → AreSuffixes trees
unfolding AllAllowed Takes
suffixes_formed none scope a = tt
suffixes_formed (tree ▹ rest) scope a = (suffix_formed tree scope a.0 a.1, suffixes_formed rest _ a.2)

-- declarations of typedef names

-- what is no specs keeps whether typedef names are declared
typedef_kept : (tree : Tree) (scope : Scope) → (home tree ≡ p.Specs → ⊥) → (after tree scope).typedef ≡ scope.typedef
unfolding after left form_home
typedef_kept tree scope n = search arith fits 100

typedef_begun : (words : Tree) (scope : Scope) → of_typedefs words ≡ true → (after words scope).typedef ≡ true
unfolding after left
typedef_begun words scope h = search arith fits 100

entry_parts : (parts : Trees) (scope : Scope) → AllAllowed parts (p.Declared ∷ p.MaybeInit ∷ []) scope → (declared : Tree) × (inits : Trees) × (parts ≡ (declared ▹ Node f.MaybeInit inits ▹ none))
unfolding AllAllowed Takes form_home
entry_parts none scope a = absurd a
entry_parts (declared ▹ none) scope a = absurd a.2
entry_parts (declared ▹ Leaf word ▹ rest) scope a = absurd (no_word word p.MaybeInit refl a.2.0)
entry_parts (declared ▹ At line ▹ rest) scope a = let e : p.Line ≡ p.MaybeInit = a.2.0 in cc
entry_parts (declared ▹ Node form parts ▹ (more ▹ rest)) scope a = absurd a.2.2
entry_parts (declared ▹ Node form parts ▹ none) scope a = (declared, parts, ap (λ (x : Form). declared ▹ Node x parts ▹ none) (search arith fits 100))

entry_alone : (tree : Tree) (rest : Trees) (scope : Scope) → home tree ≡ p.Entry → Allowed tree scope → scope.typedef ≡ true → NoInits rest → NoInits (tree ▹ rest)
unfolding Allowed AllAllowed Takes shape form_home is_scope obeys
entry_alone (Leaf word) rest scope h a e n = absurd (no_word word p.Entry refl h)
entry_alone tree rest scope h a e n = search (arith, entry_parts, typedef_kept) fits 100

entries_behind : (entries : Trees) (scope : Scope) → AllAllowed entries (places (behind_commas p.Entry (count entries))) scope → scope.typedef ≡ true → NoInits entries
unfolding AllAllowed Takes is_scope
entries_behind none scope a e = tt
entries_behind (tree ▹ rest) scope a e = search (arith, entry_alone, typedef_kept, (entries_behind rest (after tree scope) a.2 (typedef_kept tree scope (λ q. let x : p.Entry ≡ p.Specs = sym a.0 ∙ q in cc) ∙ e)))

entries_alone : (entries : Trees) (scope : Scope) → AllAllowed entries (places (commas p.Entry (count entries))) scope → scope.typedef ≡ true → NoInits entries
entries_alone none scope a e = tt
entries_alone (tree ▹ rest) scope a e = entries_behind (tree ▹ rest) scope a e

-- nodes

shaped : (form : Form) (parts : Trees) (scope : Scope) → obeys form parts scope ≡ true → AllAllowed parts (places (shape form (count parts))) scope → Shaped form parts
unfolding shape obeys Allowed AllAllowed Takes Shaped are_specs is_scope
shaped f.Strings parts scope o a = strings_formed parts scope a
shaped f.Empty parts scope o a = line_alone parts scope a
shaped f.MaybeName (tree ▹ rest) scope o a = name_alone (tree ▹ rest) scope a
shaped f.Specs parts scope o a = one_node parts (grind (arith, true, eqb-true, and_parts, false))
shaped f.MaybeExpr (tree ▹ rest) scope o a = at_most (tree ▹ rest) expr scope a
shaped f.MaybeInit (tree ▹ rest) scope o a = at_most (tree ▹ rest) p.Init scope a
shaped (f.Pointer consts) (line ▹ declarator ▹ none) scope o a = search (arith, behind_stars, layer_formed, declarator_layering)
shaped f.Direct (base ▹ Node f.Suffixes suffixes ▹ none) scope o a = (layer_formed base scope (search arith fits 100) a.1, suffixes_formed suffixes _ a.2.1.1)
shaped f.Parens (line ▹ declarator ▹ none) scope o a = layer_formed declarator _ (subst Layering (sym a.2.0) tt) a.2.1
shaped f.Typename (line ▹ words ▹ declarator ▹ none) scope o a = layer_formed declarator _ (declarator_layering (home declarator) a.2.2.0.0) a.2.2.1
shaped f.Param (line ▹ words ▹ declarator ▹ none) scope o a = layer_formed declarator _ (declarator_layering (home declarator) a.2.2.0) a.2.2.1
shaped f.MemberNames declarators scope o a = members_formed declarators scope a
shaped f.Declared (declarator ▹ none) scope o a = (layer_formed declarator scope (declarator_layering (home declarator) a.0.0) a.1, a.0.1)
shaped f.Local (line ▹ words ▹ Node f.Names entries ▹ none) scope o a = λ h. entries_alone entries _ a.2.2.1.1 (typedef_begun words (after line scope) h)
shaped f.ForNames (words ▹ Node f.Names entries ▹ none) scope o a = λ h. entries_alone entries _ a.2.1.1 (typedef_begun words scope h)
shaped form parts scope o a = tt

external_params : (tree : Tree) (scope : Scope) → IsExternal tree scope → HasParams tree
unfolding IsExternal params_of leads_to_name
external_params tree scope h = search (arith, alone) fits 100

-- the trees of tokens are such trees, by one walk; W of each name that is a token
module _ (W : List ℕ → Type 0) where
  -- a token, a word of a spelling, and a line of it
  abbrev pub Reads : Token → Type 0
  Reads token = IsLexed token × (token.kind ≡ kind.Name → W token.bytes)

  abbrev Fits : Piece → Type 0
  Fits (Said word) = IsHeld word × WordNames W word
  Fits (Line line) = 1 ≤ line

  abbrev AllFit : List Piece → Type 0
  AllFit [] = Unit {0}
  AllFit (piece ∷ pieces) = Fits piece × AllFit pieces

  abbrev EachFit : List (List Piece) → Type 0
  EachFit [] = Unit {0}
  EachFit (pieces ∷ rest) = AllFit pieces × EachFit rest

  -- an integer constant has 64 bits, by the law `constants_fit` of `c_lexer`
  word_fits : ConstantsFit → (word : Word) (token : Token) → Reads token → IsWord word token → IsHeld word × WordNames W word
  word_fits fit (w.Int bytes) token l h =
      let t : IsToken kind.Int bytes = subst (λ (k : TokenKind). IsToken k bytes) h.0 (subst (λ (x : List ℕ). IsToken token.kind x) h.1 l.0.0) in
      (fit bytes t, tt)
  word_fits fit (w.Name bytes) token l h = (tt, subst W h.1 (l.1 h.0))
  word_fits fit word token l h = (tt, tt)

  spelled_fit : ConstantsFit → (pieces : List Piece) (tokens rest : List Token) → All Reads tokens → Spells pieces tokens rest → AllFit pieces
  unfolding Spells
  spelled_fit fit (Said word ∷ pieces) (token ∷ tokens) rest l h =
      (word_fits fit word token (l 0 token (omega arith)) h.0, spelled_fit fit pieces tokens rest (All-tail Reads token tokens l) h.1)
  spelled_fit fit (Line line ∷ pieces) (token ∷ tokens) rest l h =
      (subst (λ (k : ℕ). 1 ≤ k) h.0 (l 0 token (omega arith)).0.1, spelled_fit fit pieces (token ∷ tokens) rest l h.1)
  spelled_fit fit pieces tokens rest l h = search arith fits 100

  parts_fit : (one other : List Piece) → AllFit (one ++ other) → AllFit one × AllFit other
  parts_fit [] other h = (tt, h)
  parts_fit (piece ∷ one) other h = let r = parts_fit one other h.1 in ((h.0, r.0), r.1)

  -- all parts are spelled where there is a place for each
  filled_fit : (items : List Item) (parts : Trees) (scope : Scope) → AllAllowed parts (places items) scope → AllFit (filled items (spell_all parts)) → EachFit (spell_all parts)
  unfolding AllAllowed spell_all
  filled_fit [] none scope a h = tt
  filled_fit [] (tree ▹ rest) scope a h = absurd a
  filled_fit (Says word ∷ items) parts scope a h = filled_fit items parts scope a h.1
  filled_fit (Here ∷ items) (tree ▹ rest) scope a h =
      let r = parts_fit (spell tree) (filled items (spell_all rest)) h in (r.0, filled_fit items rest _ a.2 r.1)
  filled_fit (Part place ∷ items) (tree ▹ rest) scope a h =
      let r = parts_fit (spell tree) (filled items (spell_all rest)) h in (r.0, filled_fit items rest _ a.2 r.1)
  filled_fit other none scope a h = absurd a

  mutual
    unfolding Allowed AllAllowed spell spell_all Written AllWritten Formed AllFormed

    tree_made : (tree : Tree) (scope : Scope) → Allowed tree scope → AllFit (spell tree) → Written tree × Formed tree × Names W tree
    tree_made (Leaf word) scope a h = (h.0.0, tt, h.0.1)
    tree_made (At line) scope a h = (h.0, tt, tt)
    tree_made (Node form parts) scope a h =
        let r = trees_made parts (places (shape form (count parts))) scope a.1 (filled_fit (shape form (count parts)) parts scope a.1 h) in
        ((has_parts form parts scope a.1, r.0), (shaped form parts scope a.0 a.1, r.1), r.2)

    trees_made : (trees : Trees) (ps : List Place) (scope : Scope) → AllAllowed trees ps scope → EachFit (spell_all trees) → AllWritten trees × AllFormed trees × AllNames W trees
    trees_made none ps scope a h = (tt, tt, tt)
    trees_made (tree ▹ rest) [] scope a h = absurd a
    trees_made (tree ▹ rest) (place ∷ ps) scope a h =
        let one = tree_made tree scope a.1 h.0 in
        let all = trees_made rest ps _ a.2 h.1 in
        ((one.0, all.0), (one.1, all.1), (one.2, all.2))

  external_made : (tree : Tree) (scope : Scope) → IsExternal tree scope → AllFit (spell tree) → Written tree × Formed tree × Names W tree
  unfolding IsExternal AllAllowed spell spell_all shape Written AllWritten HasParts Formed AllFormed Shaped
  external_made (Node f.Function (line ▹ words ▹ declared ▹ body ▹ none)) scope h g =
      let l = parts_fit (spell line) (spell words ++ (spell declared ++ (spell body ++ []))) g in
      let s = parts_fit (spell words) (spell declared ++ (spell body ++ [])) l.1 in
      let d = parts_fit (spell declared) (spell body ++ []) s.1 in
      let b = parts_fit (spell body) [] d.1 in
      let at = tree_made line _ h.front.1 l.0 in
      let said = tree_made words _ h.front.2.1 s.0 in
      let name = tree_made declared _ h.front.2.2.1 d.0 in
      let code = tree_made body _ h.inside b.0 in
      ((tt, (at.0, (said.0, (name.0, (code.0, tt))))), (tt, (at.1, (said.1, (name.1, (code.1, tt))))), (at.2, (said.2, (name.2, (code.2, tt)))))
  external_made (Node f.Declaration parts) scope h g = tree_made (Node f.Declaration parts) scope h g
  external_made tree scope h g = absurd h

  externals_made : (unit : Trees) (scope : Scope) → AreExternals unit scope → AllFit (filled (rows p.External (count unit)) (spell_all unit)) → Each Grammatical unit × AllNames W unit
  unfolding AreExternals spell_all
  externals_made none scope a h = (tt, tt)
  externals_made (tree ▹ rest) scope a h =
      let r = parts_fit (spell tree) (filled (rows p.External (count rest)) (spell_all rest)) h in
      let one = external_made tree scope a.0 r.0 in
      let all = externals_made rest _ a.1 r.1 in
      ((((one.0, external_defined tree scope a.0), (one.1, external_params tree scope a.0)), all.0), (one.2, all.1))

  pub unit_made : ConstantsFit → (tokens : List Token) (unit : Trees) → All Reads tokens → HasTree tokens unit → Each Grammatical unit × AllNames W unit
  unfolding spell shape
  unit_made fit tokens unit l h = externals_made unit first_scope h.allowed (spelled_fit fit (spell (Node f.Unit unit)) tokens [] l h.spelled)
