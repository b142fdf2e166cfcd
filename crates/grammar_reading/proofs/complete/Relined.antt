-- Which trees are allowed does not depend on their lines, and the words of a tree are read as it, but for lines.
use Rattle.std.proofs.Common.{◌≡◌, suc, ◌+◌, Bool, true, false, List, [], ◌∷◌, ◌++◌, Option, Some, None, refl, sym, ap, ◌∙◌, subst, ℕ, arith}
use Rattle.std.specs.Prelude.{if◌then◌else◌, ⊤, max, ◌&&◌, ◌||◌, not, IsSome, is_some}
use Rattle.c_lexer.specs.declared.token.Token.{Token}
use Rattle.c_lexer.specs.declared.token.TokenKind.{TokenKind}
use Rattle.c_lexer.specs.Written.{token_spellings}
use Rattle.c_tree.specs.Forms.{Form}
use Rattle.c_tree.specs.Places.{Place, Expression}
use Rattle.c_tree.specs.Tree.{Tree, Trees, Leaf, At, Node, none, ◌▹◌, count}
use Rattle.c_tree.specs.Grammar.{Item, Says, Here, Part, shape, home, rows}
use Rattle.c_tree.specs.Spelling.{spell, spell_all, filled, words, Piece, Said, Line, Spells, IsWord}
use Rattle.c_tree.specs.Scopes.{Scope, is_scope, places, after, after_all, left, declare, has_typedef, word_is_typedef, name_of, name_among, first_name, leads_to_name, params_of, params_among, suffix_params, first_list, with_params, first_scope}
use Rattle.c_tree.specs.Allowed.{Tally, with_part, tally, storage_of, has_parts, is_none, ends_open, last_ends_open, is_open, ends_in_statement, words_of, obeys, is_void, is_type_name, are_specs, Takes, IsExpression, IsDeclarator, IsBase, IsItem, Allowed, AllAllowed, IsDefinition, IsExternal, AreExternals}
use Rattle.c_tree.specs.Depth.{depth, layer, layers, layers_all, below, greatest_below, greatest_depth, is_of_declarator}
use Rattle.c_tree.specs.Words.{Word, word_kind, word_bytes}
use Rattle.c_tree.specs.Reread.{unit_words, word_spellings, CanonicalIsRead}
use Rattle.c_tree.specs.HasTree.{HasTree}
use Rattle.c_tree.specs.Forms as f
use Rattle.c_tree.specs.Places as p
use Rattle.grammar_reading.specs.Laws.{lineless, lineless_all, WordsAreRead, CanonicalTreesAreRead}
use Rattle.grammar_reading.specs.State.{first_line}
use Rattle.grammar_reading.proofs.Words.{words_both, SpellsWords}
use Rattle.grammar_reading.proofs.sound.Texts.{unit_ends, unit_pieces}
use Rattle.grammar_reading.proofs.complete.Texts.{trees_of_texts}

pub home_same : (tree : Tree) → home (lineless tree) ≡ home tree
unfolding lineless
home_same (At line) = refl
home_same _ = refl

pub count_same : (trees : Trees) → count (lineless_all trees) ≡ count trees
unfolding lineless
count_same none = refl
count_same (tree ▹ rest) = ap suc (count_same rest)

pub none_same : (trees : Trees) → is_none (lineless_all trees) ≡ is_none trees
unfolding lineless
none_same none = refl
none_same (tree ▹ rest) = refl

-- Words

abbrev AllWords : Trees → Type 0
AllWords none = ⊤
AllWords (tree ▹ rest) = (words (spell (lineless tree)) ≡ words (spell tree)) × AllWords rest

filled_same : (items : List Item) (parts : Trees) → AllWords parts → words (filled items (spell_all (lineless_all parts))) ≡ words (filled items (spell_all parts))
unfolding lineless spell_all
filled_same [] parts h = refl
filled_same (Says word ∷ items) parts h = ap (λ ws. word ∷ ws) (filled_same items parts h)
filled_same (Here ∷ items) none h = refl
filled_same (Here ∷ items) (tree ▹ parts) h = cc (words_both (spell (lineless tree)) (filled items (spell_all (lineless_all parts))), words_both (spell tree) (filled items (spell_all parts)), h.0, filled_same items parts h.1)
filled_same (Part place ∷ items) none h = refl
filled_same (Part place ∷ items) (tree ▹ parts) h = cc (words_both (spell (lineless tree)) (filled items (spell_all (lineless_all parts))), words_both (spell tree) (filled items (spell_all parts)), h.0, filled_same items parts h.1)

mutual
  unfolding lineless spell

  pub words_same : (tree : Tree) → words (spell (lineless tree)) ≡ words (spell tree)
  words_same (Leaf word) = refl
  words_same (At line) = refl
  words_same (Node form parts) = cc (count_same parts, filled_same (shape form (count parts)) parts (all_words parts))

  all_words : (parts : Trees) → AllWords parts
  all_words none = tt
  all_words (tree ▹ rest) = (words_same tree, all_words rest)

words_of_same : (parts : Trees) → words_of (lineless_all parts) ≡ words_of parts
unfolding lineless
words_of_same none = refl
words_of_same (tree ▹ rest) = ap (λ ws. ws ++ words_of (lineless_all rest)) (words_same tree) ∙ ap (λ ws. words (spell tree) ++ ws) (words_of_same rest)

-- Names

mutual
  unfolding lineless name_of

  pub name_same : (tree : Tree) → name_of (lineless tree) ≡ name_of tree
  name_same (Leaf word) = refl
  name_same (At line) = refl
  name_same (Node form parts) = ap (λ o. if leads_to_name form then o else None) (among_same parts)

  pub among_same : (parts : Trees) → name_among (lineless_all parts) ≡ name_among parts
  among_same none = refl
  among_same (tree ▹ rest) = ap (λ o. first_name o (name_among (lineless_all rest))) (name_same tree) ∙ ap (first_name (name_of tree)) (among_same rest)

-- Specs

typedef_same : (parts : Trees) → has_typedef (lineless_all parts) ≡ has_typedef parts
unfolding lineless has_typedef
typedef_same none = refl
typedef_same (Leaf word ▹ rest) = ap (λ b. word_is_typedef word || b) (typedef_same rest)
typedef_same (At line ▹ rest) = typedef_same rest
typedef_same (Node form parts ▹ rest) = typedef_same rest

part_same : (tree : Tree) (t : Tally) → with_part (lineless tree) t ≡ with_part tree t
unfolding lineless
part_same (At line) t = refl
part_same _ t = refl

tally_same : (parts : Trees) → tally (lineless_all parts) ≡ tally parts
unfolding lineless tally
tally_same none = refl
tally_same (tree ▹ rest) = part_same tree (tally (lineless_all rest)) ∙ ap (with_part tree) (tally_same rest)

pub storage_same : (tree : Tree) → storage_of (lineless tree) ≡ storage_of tree
unfolding lineless
storage_same (Node form parts) = ap (λ (t : Tally). t.storage) (tally_same parts)
storage_same _ = refl

pub parts_same : (tree : Tree) → has_parts (lineless tree) ≡ has_parts tree
unfolding lineless
parts_same (Node form parts) = ap not (none_same parts)
parts_same _ = refl

-- Statements that end open

mutual
  unfolding lineless ends_open

  pub open_same : (tree : Tree) → ends_open (lineless tree) ≡ ends_open tree
  open_same (Leaf word) = refl
  open_same (At line) = refl
  open_same (Node form parts) = ap (λ b. is_open form || (ends_in_statement form && b)) (last_same parts)

  last_same : (parts : Trees) → last_ends_open (lineless_all parts) ≡ last_ends_open parts
  last_same none = refl
  last_same (tree ▹ rest) = cc (none_same rest, open_same tree, last_same rest)

-- Depth

mutual
  unfolding lineless layers

  layers_same : (tree : Tree) → layers (lineless tree) ≡ layers tree
  layers_same (Leaf word) = refl
  layers_same (At line) = refl
  layers_same (Node form parts) = ap (λ n. if is_of_declarator form then layer form + n else 0) (all_layers parts)

  all_layers : (parts : Trees) → layers_all (lineless_all parts) ≡ layers_all parts
  all_layers none = refl
  all_layers (tree ▹ rest) = ap (λ n. n + layers_all (lineless_all rest)) (layers_same tree) ∙ ap (λ n. layers tree + n) (all_layers rest)

mutual
  unfolding lineless below

  below_same : (tree : Tree) → below (lineless tree) ≡ below tree
  below_same (Leaf word) = refl
  below_same (At line) = refl
  below_same (Node form parts) = cc (all_below parts, all_depths parts)

  all_below : (parts : Trees) → greatest_below (lineless_all parts) ≡ greatest_below parts
  all_below none = refl
  all_below (tree ▹ rest) = ap (λ n. max n (greatest_below (lineless_all rest))) (below_same tree) ∙ ap (max (below tree)) (all_below rest)

  all_depths : (parts : Trees) → greatest_depth (lineless_all parts) ≡ greatest_depth parts
  all_depths none = refl
  all_depths (tree ▹ rest) = cc (layers_same tree, below_same tree, all_depths rest)

pub depth_same : (tree : Tree) → depth (lineless tree) ≡ depth tree
depth_same tree = ap (λ n. n + below (lineless tree)) (layers_same tree) ∙ ap (λ n. layers tree + n) (below_same tree)

-- Scopes

left_same : (form : Form) (parts : Trees) (before inner : Scope) → left form (lineless_all parts) before inner ≡ left form parts before inner
unfolding left
left_same f.Specs parts before inner = ap (λ b. record { names = inner.names; typedef = b || before.typedef }) (typedef_same parts)
left_same f.Declared parts before inner = ap (λ o. record { names = declare o before.typedef inner.names; typedef = before.typedef }) (among_same parts)
left_same f.Param parts before inner = ap (λ o. record { names = declare o false inner.names; typedef = before.typedef }) (among_same parts)
left_same f.Enumerator parts before inner = ap (λ o. record { names = declare o false inner.names; typedef = before.typedef }) (among_same parts)
left_same _ parts before inner = refl

mutual
  unfolding lineless after

  pub after_same : (tree : Tree) (scope : Scope) → after (lineless tree) scope ≡ after tree scope
  after_same (Leaf word) scope = refl
  after_same (At line) scope = refl
  after_same (Node form parts) scope =
      left_same form parts scope (after_all (lineless_all parts) (places (shape form (count (lineless_all parts)))) scope)
      ∙ cc (count_same parts, all_after parts (places (shape form (count parts))) scope)

  pub all_after : (parts : Trees) (ps : List Place) (scope : Scope) → after_all (lineless_all parts) ps scope ≡ after_all parts ps scope
  all_after none ps scope = refl
  all_after (tree ▹ rest) [] scope = refl
  all_after (tree ▹ rest) (place ∷ ps) scope = cc (after_same tree scope, all_after rest ps (if is_scope place then scope else after tree scope))

-- Rules beside the grammar

pub obeys_same : (form : Form) (parts : Trees) (scope : Scope) → obeys form (lineless_all parts) scope ≡ obeys form parts scope
unfolding obeys
obeys_same f.Name parts scope = ap (λ o. not (is_type_name o scope)) (among_same parts)
obeys_same f.TypedefName parts scope = ap (λ o. is_type_name o scope) (among_same parts)
obeys_same f.Specs parts scope = ap are_specs (tally_same parts)
obeys_same f.MaybeInit parts scope = ap (λ b. not scope.typedef || b) (none_same parts)
obeys_same f.FunctionSuffix parts scope = ap (λ ws. not (is_void ws)) (words_of_same parts)
obeys_same _ parts scope = refl

-- Parameters next to a name

abbrev pub lineless_list : Option Trees → Option Trees
lineless_list None = None
lineless_list (Some parts) = Some (lineless_all parts)

suffix_same : (parts : Trees) → suffix_params (lineless_all parts) ≡ lineless_list (suffix_params parts)
unfolding lineless suffix_params
suffix_same (Node f.Suffixes (Node f.FunctionSuffix (line ▹ params ▹ none) ▹ rest) ▹ none) = refl
suffix_same (Node f.Suffixes (Node f.VoidSuffix parts ▹ rest) ▹ none) = refl
suffix_same _ = refl

first_same : (a b : Option Trees) → lineless_list (first_list a b) ≡ first_list (lineless_list a) (lineless_list b)
first_same None b = refl
first_same (Some parts) b = refl

if_same : (b : Bool) (o : Option Trees) → lineless_list (if b then o else None) ≡ (if b then lineless_list o else None)
if_same true o = refl
if_same false o = refl

mutual
  unfolding lineless params_of

  pub params_same : (tree : Tree) → params_of (lineless tree) ≡ lineless_list (params_of tree)
  params_same (Leaf word) = refl
  params_same (At line) = refl
  params_same (Node form parts) = ap (λ o. if leads_to_name form then o else None) (among_params parts) ∙ sym (if_same (leads_to_name form) (params_among parts))

  among_params : (parts : Trees) → params_among (lineless_all parts) ≡ lineless_list (params_among parts)
  among_params none = refl
  among_params (Leaf word ▹ rest) = suffix_same rest
  among_params (At line ▹ rest) = among_params rest
  among_params (Node form parts ▹ rest) = cc (params_same (Node form parts), among_params rest, first_same (params_of (Node form parts)) (params_among rest))

pub with_params_same : (o : Option Trees) (scope : Scope) → with_params (lineless_list o) scope ≡ with_params o scope
with_params_same None scope = refl
with_params_same (Some params) scope = all_after params (p.Params ∷ []) scope

-- Which trees are allowed does not depend on their lines.

-- What does not depend on lines is the same for trees that are the same but for lines.
again : {A : Type 0} (g : Tree → A) → ((tree : Tree) → g (lineless tree) ≡ g tree) → (tree other : Tree) → lineless other ≡ lineless tree → g other ≡ g tree
again g same tree other h = sym (same other) ∙ ap g h ∙ same tree

-- as many parts
count_again : (parts other : Trees) → lineless_all other ≡ lineless_all parts → count other ≡ count parts
count_again parts other h = sym (count_same other) ∙ ap count h ∙ count_same parts

takes_again : (place : Place) (tree other : Tree) → lineless other ≡ lineless tree → home other ≡ home tree → Takes place tree → Takes place other
unfolding Takes
takes_again (Expression level) tree other same e h = subst (IsExpression level) (sym e) h
takes_again p.PlainSpecs tree other same e h = (e ∙ h.0, again storage_of storage_same tree other same ∙ h.1)
takes_again p.SomeNames tree other same e h = (e ∙ h.0, again has_parts parts_same tree other same ∙ h.1)
takes_again p.AnyDeclarator tree other same e h = subst IsDeclarator (sym e) h
takes_again p.Declarator tree other same e h = (subst IsDeclarator (sym e) h.0, subst IsSome (sym (again name_of name_same tree other same)) h.1)
takes_again p.Abstract tree other same e h = (subst IsDeclarator (sym e) h.0, again name_of name_same tree other same ∙ h.1)
takes_again p.Base tree other same e h = subst IsBase (sym e) h
takes_again p.Item tree other same e h = subst IsItem (sym e) h
takes_again p.ClosedBranch tree other same e h = (e ∙ h.0, again ends_open open_same tree other same ∙ h.1)
takes_again _ tree other same e h = e ∙ h

after_again : (tree other : Tree) (scope : Scope) → lineless other ≡ lineless tree → after other scope ≡ after tree scope
after_again tree other scope same = again (λ t. after t scope) (λ t. after_same t scope) tree other same

mutual
  unfolding lineless Allowed

  allowed_again : (tree other : Tree) (scope : Scope) → lineless other ≡ lineless tree → Allowed tree scope → Allowed other scope
  allowed_again tree (Leaf word) scope same h = tt
  allowed_again tree (At line) scope same h = tt
  allowed_again (Leaf word) (Node kind others) scope same h = cc
  allowed_again (At line) (Node kind others) scope same h = cc
  allowed_again (Node form parts) (Node kind others) scope same h =
      let e : kind ≡ form = cc in
      let es : lineless_all others ≡ lineless_all parts = cc in
      let obeyed : obeys form others scope ≡ obeys form parts scope = sym (obeys_same form others scope) ∙ ap (λ ts. obeys form ts scope) es ∙ obeys_same form parts scope in
      let inside = subst (λ n. AllAllowed others (places (shape form n)) scope) (sym (count_again parts others es)) (all_again parts others (places (shape form (count parts))) scope es h.1) in
      subst (λ k. Allowed (Node k others) scope) (sym e) (obeyed ∙ h.0, inside)

  all_again : (parts others : Trees) (ps : List Place) (scope : Scope) → lineless_all others ≡ lineless_all parts → AllAllowed parts ps scope → AllAllowed others ps scope
  all_again none none ps scope same h = h
  all_again none (other ▹ others) ps scope same h = cc
  all_again (tree ▹ parts) none ps scope same h = cc
  all_again (tree ▹ parts) (other ▹ others) [] scope same h = absurd h
  all_again (tree ▹ parts) (other ▹ others) (place ∷ ps) scope same h =
      let e : lineless other ≡ lineless tree = cc in
      let es : lineless_all others ≡ lineless_all parts = cc in
      (takes_again place tree other e (again home home_same tree other e) h.0, allowed_again tree other scope e h.1, subst (λ sc. AllAllowed others ps (if is_scope place then scope else sc)) (sym (after_again tree other scope e)) (all_again parts others ps (if is_scope place then scope else after tree scope) es h.2))

-- External declarations

some_same : (o : Option Trees) → is_some (lineless_list o) ≡ is_some o
some_same None = refl
some_same (Some parts) = refl

-- the scope of a body
body_same : (specs declared : Tree) (scope : Scope) → with_params (params_of (lineless declared)) (after (lineless declared) (after (lineless specs) scope)) ≡ with_params (params_of declared) (after declared (after specs scope))
body_same specs declared scope =
    ap (λ o. with_params o (after (lineless declared) (after (lineless specs) scope))) (params_same declared)
    ∙ with_params_same (params_of declared) (after (lineless declared) (after (lineless specs) scope))
    ∙ ap (with_params (params_of declared)) (after_same declared (after (lineless specs) scope) ∙ ap (after declared) (after_same specs scope))

definition_again : (x a b c y d e g : Tree) (scope : Scope) → lineless_all (y ▹ d ▹ e ▹ g ▹ none) ≡ lineless_all (x ▹ a ▹ b ▹ c ▹ none) → IsDefinition x a b c scope → IsDefinition y d e g scope
unfolding lineless
definition_again x a b c y d e g scope same h =
    let front : lineless_all (y ▹ d ▹ e ▹ none) ≡ lineless_all (x ▹ a ▹ b ▹ none) = cc in
    let specs : lineless d ≡ lineless a = cc in
    let declared : lineless e ≡ lineless b = cc in
    let body : lineless g ≡ lineless c = cc in
    record {
      front = all_again (x ▹ a ▹ b ▹ none) (y ▹ d ▹ e ▹ none) (p.Line ∷ p.Specs ∷ p.Declared ∷ []) scope front h.front;
      plain = ap (λ (sc : Scope). sc.typedef) (after_again a d scope specs) ∙ h.plain;
      function = again (λ t. is_some (params_of t)) (λ t. ap is_some (params_same t) ∙ some_same (params_of t)) b e declared ∙ h.function;
      stands = takes_again p.Body c g body (again home home_same c g body) h.stands;
      inside = subst (λ sc. Allowed g sc) (cc (body_same d e scope, body_same a b scope, specs, declared)) (allowed_again c g (with_params (params_of b) (after b (after a scope))) body h.inside);
    }

external_again : (tree other : Tree) (scope : Scope) → lineless other ≡ lineless tree → IsExternal tree scope → IsExternal other scope
unfolding lineless IsExternal
external_again (Node f.Function (x ▹ a ▹ b ▹ c ▹ none)) (Node f.Function (y ▹ d ▹ e ▹ g ▹ none)) scope same h = definition_again x a b c y d e g scope (cc same) h
external_again (Node f.Declaration parts) (Node f.Declaration others) scope same h = allowed_again (Node f.Declaration parts) (Node f.Declaration others) scope same h
external_again (Node f.Function (x ▹ a ▹ b ▹ c ▹ none)) _ scope same h = absurd (cc same)
external_again (Node f.Declaration parts) _ scope same h = absurd (cc same)
external_again _ _ scope same h = absurd h

-- with other lines
externals_again : (trees others : Trees) (scope : Scope) → lineless_all others ≡ lineless_all trees → AreExternals trees scope → AreExternals others scope
unfolding lineless AreExternals
externals_again trees none scope same h = tt
externals_again none (other ▹ others) scope same h = cc
externals_again (tree ▹ trees) (other ▹ others) scope same h =
    let e : lineless other ≡ lineless tree = cc in
    (external_again tree other scope e h.0, subst (λ sc. AreExternals others sc) (sym (after_again tree other scope e)) (externals_again trees others (after tree scope) (cc) h.1))

-- Tokens that are the words of a tree spell it with lines of their own.

-- The lines of a spelling are those of the tokens behind, also where there is none

Lined : List Piece → List Token → List Token → Type 0
Lined [] tokens rest = tokens ≡ rest
Lined (Said word ∷ pieces) [] rest = ⊥
Lined (Said word ∷ pieces) (token ∷ tokens) rest = IsWord word token × Lined pieces tokens rest
Lined (Line line ∷ pieces) tokens rest = (first_line tokens ≡ line) × Lined pieces tokens rest

lined_both : (a b : List Piece) (tokens middle rest : List Token) → Lined a tokens middle → Lined b middle rest → Lined (a ++ b) tokens rest
unfolding Lined
lined_both [] b tokens middle rest h g = subst (λ ts. Lined b ts rest) (sym h) g
lined_both (Said word ∷ a) b [] middle rest h g = absurd h
lined_both (Said word ∷ a) b (token ∷ tokens) middle rest h g = (h.0, lined_both a b tokens middle rest h.1 g)
lined_both (Line line ∷ a) b tokens middle rest h g = (h.0, lined_both a b tokens middle rest h.1 g)

words_split : (a b : List Word) (tokens rest : List Token) → SpellsWords (a ++ b) tokens rest → (middle : List Token) × SpellsWords a tokens middle × SpellsWords b middle rest
unfolding SpellsWords
words_split [] b tokens rest h = (tokens, refl, h)
words_split (word ∷ a) b [] rest h = absurd h
words_split (word ∷ a) b (token ∷ tokens) rest h = let x = words_split a b tokens rest h.1 in (x.0, (h.0, x.1), x.2)

-- a tree with the lines of tokens that are its words
abbrev Relined : Tree → Type 0
Relined tree = (tokens rest : List Token) → SpellsWords (words (spell tree)) tokens rest → (other : Tree) × (lineless other ≡ lineless tree) × Lined (spell other) tokens rest

abbrev AllRelined : Trees → Type 0
AllRelined none = ⊤
AllRelined (tree ▹ rest) = Relined tree × AllRelined rest

abbrev Refilled : List Item → Trees → Type 0
Refilled items parts = (tokens rest : List Token) → SpellsWords (words (filled items (spell_all parts))) tokens rest → (others : Trees) × (lineless_all others ≡ lineless_all parts) × Lined (filled items (spell_all others)) tokens rest

part_filled : (items : List Item) (tree : Tree) (parts : Trees) → Relined tree → Refilled items parts → (tokens rest : List Token) → SpellsWords (words (spell tree ++ filled items (spell_all parts))) tokens rest → (other : Tree) × (others : Trees) × ((lineless other ▹ lineless_all others) ≡ (lineless tree ▹ lineless_all parts)) × Lined (spell other ++ filled items (spell_all others)) tokens rest
part_filled items tree parts one more tokens rest h =
    let a = words_split (words (spell tree)) (words (filled items (spell_all parts))) tokens rest (subst (λ ws. SpellsWords ws tokens rest) (words_both (spell tree) (filled items (spell_all parts))) h) in
    let b = one tokens a.0 a.1 in
    let c = more a.0 rest a.2 in
    (b.0, c.0, ap (λ t. t ▹ lineless_all c.0) b.1 ∙ ap (λ ts. lineless tree ▹ ts) c.1, lined_both (spell b.0) (filled items (spell_all c.0)) tokens a.0 rest b.2 c.2)

refilled : (items : List Item) (parts : Trees) → AllRelined parts → Refilled items parts
unfolding lineless spell_all Lined SpellsWords
refilled [] parts each tokens rest h = (parts, refl, h)
refilled (Says word ∷ items) parts each [] rest h = absurd h
refilled (Says word ∷ items) parts each (token ∷ tokens) rest h =
    let a = refilled items parts each tokens rest h.1 in
    (a.0, a.1, (h.0, a.2))
refilled (Here ∷ items) none each tokens rest h = (none, refl, h)
refilled (Here ∷ items) (tree ▹ parts) each tokens rest h =
    let a = part_filled items tree parts each.0 (refilled items parts each.1) tokens rest h in
    (a.0 ▹ a.1, a.2, a.3)
refilled (Part place ∷ items) none each tokens rest h = (none, refl, h)
refilled (Part place ∷ items) (tree ▹ parts) each tokens rest h =
    let a = part_filled items tree parts each.0 (refilled items parts each.1) tokens rest h in
    (a.0 ▹ a.1, a.2, a.3)

node_relined : (form : Form) (parts : Trees) → Refilled (shape form (count parts)) parts → Relined (Node form parts)
unfolding spell lineless
node_relined form parts each tokens rest h =
    let a = each tokens rest h in
    (Node form a.0, ap (Node form) a.1, subst (λ n. Lined (filled (shape form n) (spell_all a.0)) tokens rest) (sym (count_again parts a.0 a.1)) a.2)

leaf_relined : (word : Word) → Relined (Leaf word)
unfolding spell SpellsWords Lined
leaf_relined word [] rest h = absurd h
leaf_relined word (token ∷ tokens) rest h = (Leaf word, refl, h)

line_relined : (line : ℕ) → Relined (At line)
unfolding spell SpellsWords Lined lineless
line_relined line tokens rest h = (At (first_line tokens), refl, (refl, h))

mutual
  relined : (tree : Tree) → Relined tree
  relined (Leaf word) = leaf_relined word
  relined (At line) = line_relined line
  relined (Node form parts) = node_relined form parts (refilled (shape form (count parts)) parts (all_relined parts))

  all_relined : (parts : Trees) → AllRelined parts
  all_relined none = tt
  all_relined (tree ▹ rest) = (relined tree, all_relined rest)

-- A spelling that ends with a word has a token behind each line

none_lined : (front : List Piece) (word : Word) (rest : List Token) → Lined (front ++ Said word ∷ []) [] rest → ⊥
unfolding Lined
none_lined [] word rest h = h
none_lined (Said other ∷ front) word rest h = h
none_lined (Line line ∷ front) word rest h = none_lined front word rest h.1

lined_spells : (front : List Piece) (word : Word) (tokens rest : List Token) → Lined (front ++ Said word ∷ []) tokens rest → Spells (front ++ Said word ∷ []) tokens rest
unfolding Lined Spells
lined_spells [] word [] rest h = absurd h
lined_spells [] word (token ∷ tokens) rest h = h
lined_spells (Said other ∷ front) word [] rest h = absurd h
lined_spells (Said other ∷ front) word (token ∷ tokens) rest h = (h.0, lined_spells front word tokens rest h.1)
lined_spells (Line line ∷ front) word [] rest h = absurd (none_lined front word rest h.1)
lined_spells (Line line ∷ front) word (token ∷ tokens) rest h = (h.0, lined_spells front word (token ∷ tokens) rest h.1)

unit_spells : (externals : Trees) (tokens : List Token) → AreExternals externals first_scope → Lined (unit_pieces externals) tokens [] → Spells (spell (Node f.Unit externals)) tokens []
unfolding spell shape spell_all Lined Spells
unit_spells none tokens al h = h
unit_spells (tree ▹ rest) tokens al h =
    let e = unit_ends tree rest first_scope al in
    subst (λ l. Spells l tokens []) (sym e.2) (lined_spells e.0 e.1 tokens [] (subst (λ l. Lined l tokens []) e.2 h))

-- Words

spelled_words : (ws : List Word) (tokens : List Token) → token_spellings tokens ≡ word_spellings ws → SpellsWords ws tokens []
unfolding SpellsWords
spelled_words [] [] h = refl
spelled_words [] (token ∷ tokens) h = cc
spelled_words (word ∷ ws) [] h = cc
spelled_words (word ∷ ws) (token ∷ tokens) h =
    let e = first_same h in
    ((ap (λ (x : TokenKind × List ℕ). x.0) e, ap (λ (x : TokenKind × List ℕ). x.1) e), spelled_words ws tokens (rests h))
  where
    first_same : token_spellings (token ∷ tokens) ≡ word_spellings (word ∷ ws) → ◌≡◌ {A = TokenKind × List ℕ} (token.kind, token.bytes) (word_kind word, word_bytes word)
    first_same g = cc

    rests : token_spellings (token ∷ tokens) ≡ word_spellings (word ∷ ws) → token_spellings tokens ≡ word_spellings ws
    rests g = cc

unit_relined : (externals : Trees) (tokens : List Token) → SpellsWords (unit_words externals) tokens [] → (others : Trees) × (lineless_all others ≡ lineless_all externals) × Lined (unit_pieces others) tokens []
unfolding spell shape
unit_relined externals tokens h =
    let a = refilled (rows p.External (count externals)) externals (all_relined externals) tokens [] h in
    (a.0, a.1, subst (λ n. Lined (filled (rows p.External n) (spell_all a.0)) tokens []) (sym (count_again externals a.0 a.1)) a.2)

unit_depth : (externals others : Trees) → lineless_all others ≡ lineless_all externals → depth (Node f.Unit others) ≡ depth (Node f.Unit externals)
unfolding lineless
unit_depth externals others same = sym (depth_same (Node f.Unit others)) ∙ ap (λ ts. depth (Node f.Unit ts)) same ∙ depth_same (Node f.Unit externals)

pub words_are_read : WordsAreRead
words_are_read externals tokens al flat same =
    let a = unit_relined externals tokens (spelled_words (unit_words externals) tokens same) in
    let allowed = externals_again externals a.0 first_scope a.1 al in
    let n = unit_depth externals a.0 a.1 in
    let tree : HasTree tokens a.0 = record { spelled = unit_spells a.0 tokens allowed a.2; allowed = allowed; flat = omega (arith, n, flat) } in
    (a.0, trees_of_texts tokens a.0 tree, a.1)

-- the canonical text of a tree is lexed into its words
pub canonical_is_read : CanonicalIsRead → CanonicalTreesAreRead
canonical_is_read lexed externals al flat formed =
    let a = lexed externals formed in
    let b = words_are_read externals a.0 al flat a.2 in
    (a.0, a.1, b.0, b.1, b.2)
