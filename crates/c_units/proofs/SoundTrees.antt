-- The trees of a text have as many parts as their forms have places, and words that can be told apart; so have they in the program.
use Rattle.c_units.proofs.Words.Std.{All, All-cons, All-head, All-nil, All-tail, Bool, IsSome, List, None, Option, Some, [], and_parts, ap, append-nil, ap₂, arith, decimal, decimal-digits_of, digits_of, false, if◌then◌else◌, length, list_all, map, ne_eqb, not, refl, subst, suc, sym, true, zero, ℕ, ⊤, ◌&&◌, ◌++◌, ◌+◌, ◌<◌, ◌||◌, ◌∙◌, ◌∷◌, ◌≡◌, ◌≤◌}
use Rattle.c_units.proofs.Words.Trees.{AllAllowed, Allowed, AreExternals, At, Decl, Declarator, Form, Here, Init, IsExternal, IsFormed, IsToken, Item, Leaf, Node, Part, Piece, Place, Says, Sign, Specs, Takes, TokenKind, TokensAreLongest, Tree, Trees, Word, are_specs, behind_commas, commas, count, decl_view, declarator_tree, entry_view, filled, first_name, form_home, has_typedef, init_view, is_one_type, leads_to_name, name_among, name_of, none, obeys, places, rows, shape, spec_tree, specs_view, spell, spell_all, tally, tree_text, trees, unit_words, word_bytes, word_kind, word_spellings, words, words_text, ◌▹◌}
use Rattle.c_units.proofs.Words.Units.{Binding, Names, Role, Said, all_with_name, before_declarator, behind, behind_declarator, behind_external, binding_as, binding_of, declared_by, each_said, is_plain, mention, name_by, named_as, renamed, renamed_declarator, renamed_entries, renamed_external, role_of, spelling, suffix_of, with_name, word_as}
use Rattle.c_tree.specs.Scopes.{Scope, after}
use Rattle.c_units.proofs.FileWalks.{suffix_stands, mention_suffix, behind_suffix, declarator_suffix, external_suffix}
use Rattle.c_units.proofs.Walks.{Stands}
use Rattle.c_units.proofs.WordTexts.{clean, Begins, AllBegin, words_back}
use Rattle.c_units.proofs.WordSorts.{words_append, level, is_some, even, word_begins, place_some, one_fewer, IsLeaf, IsSound, AreSound, key_begins, Sort, sort, sorts, tree_sorts, Before, run, names_in, sound_begins}
use Rattle.c_units.proofs.DeclaredSorts.{HaveNames, HasName, declaration_read}
use Rattle.c_lexer.specs.declared.token.TokenKind.TheVariants as t
use Rattle.c_tree.specs.Words as w
use Rattle.c_tree.specs.Forms as f
use Rattle.c_tree.specs.Places as p
use Rattle.c_units.specs.declared.names.Binding.TheVariants as b
use Rattle.c_tree.specs.declared.statement.Decl.TheVariants as e

-- Trees of a text.

-- a name, a constant or a literal of its form, or a keyword
abbrev IsTextLeaf : Word → Type 0
IsTextLeaf (w.Mark sign) = ⊥
IsTextLeaf (w.Other kind bytes) = ⊥
IsTextLeaf word = IsFormed word

unfoldable mutual
  pub IsText : Tree → Type 0
  IsText (Leaf word) = IsTextLeaf word
  IsText (At line) = ⊤
  IsText (Node form parts) = (count parts ≡ length (places (shape form (count parts)))) × AreText parts

  pub AreText : Trees → Type 0
  AreText none = ⊤
  AreText (tree ▹ rest) = IsText tree × AreText rest

abbrev pub AllFormed : List Word → Type 0
AllFormed [] = ⊤
AllFormed (word ∷ rest) = IsFormed word × AllFormed rest

formed_first : (xs ys : List Word) → AllFormed (xs ++ ys) → AllFormed xs
formed_first [] ys h = tt
formed_first (x ∷ xs) ys h = (h.0, formed_first xs ys h.1)

formed_second : (xs ys : List Word) → AllFormed (xs ++ ys) → AllFormed ys
formed_second [] ys h = h
formed_second (x ∷ xs) ys h = formed_second xs ys h.1

abbrev pub EachFormed : Trees → Type 0
EachFormed none = ⊤
EachFormed (tree ▹ rest) = AllFormed (words (spell tree)) × EachFormed rest

pub items_formed : (items : List Item) (parts : Trees) → count parts ≡ length (places items) → AllFormed (words (filled items (spell_all parts))) → EachFormed parts
unfolding spell_all
items_formed [] none e h = tt
items_formed [] (tree ▹ rest) e h = absurd (cc)
items_formed (Says word ∷ items) parts e h = items_formed items parts e h.1
items_formed (Here ∷ items) none e h = tt
items_formed (Here ∷ items) (tree ▹ rest) e h =
    let both : AllFormed (words (spell tree) ++ words (filled items (spell_all rest))) =
    subst AllFormed (words_append (spell tree) (filled items (spell_all rest))) h in (
      formed_first (words (spell tree)) (words (filled items (spell_all rest))) both,
      items_formed items rest (one_fewer (count rest) (length (places items)) e) (formed_second (words (spell tree)) (words (filled items (spell_all rest))) both),
    )
items_formed (Part place ∷ items) none e h = tt
items_formed (Part place ∷ items) (tree ▹ rest) e h =
    let both : AllFormed (words (spell tree) ++ words (filled items (spell_all rest))) =
    subst AllFormed (words_append (spell tree) (filled items (spell_all rest))) h in (
      formed_first (words (spell tree)) (words (filled items (spell_all rest))) both,
      items_formed items rest (one_fewer (count rest) (length (places items)) e) (formed_second (words (spell tree)) (words (filled items (spell_all rest))) both),
    )

-- the places of a form are some
abbrev AreSome : List Place → Type 0
AreSome [] = ⊤
AreSome (place ∷ rest) = (is_some place ≡ true) × AreSome rest

place_is : (b : Bool) (o : Option ℕ) (next : ℕ) → (if b then o else None) ≡ Some next → b ≡ true
place_is true o next h = refl
place_is false o next h = absurd (cc)

places_some : (items : List Item) (deep next : ℕ) → level items deep ≡ Some next → AreSome (places items)
places_some [] deep next h = tt
places_some (Says (w.Key keyword) ∷ items) deep next h = let more = word_begins _ items next h in places_some items more.0 next more.1
places_some (Says (w.Mark sign) ∷ items) deep next h = let more = word_begins _ items next h in places_some items more.0 next more.1
places_some (Says word ∷ items) deep next h = absurd (cc)
places_some (Here ∷ items) deep next h = (refl, places_some items deep next h)
places_some (Part place ∷ items) deep next h =
    (place_is (is_some place) (level items deep) next h, places_some items deep next (place_some (is_some place) (level items deep) next h))

no_place : (place : Place) → p.Nowhere ≡ place → is_some place ≡ true → ⊥
no_place place e h = false_is (ap is_some e ∙ h) where
  false_is : is_some p.Nowhere ≡ true → ⊥
  false_is k = cc

-- a sign is no part, nor is a word that the grammar does not name
takes_mark : (place : Place) (sign : Sign) → is_some place ≡ true → Takes place (Leaf (w.Mark sign)) → ⊥
unfolding Takes
takes_mark (p.Expression level) sign h g = g
takes_mark p.PlainSpecs sign h g = no_place p.Specs g.0 refl
takes_mark p.SomeNames sign h g = no_place p.Names g.0 refl
takes_mark p.AnyDeclarator sign h g = g
takes_mark p.Declarator sign h g = g.0
takes_mark p.Abstract sign h g = g.0
takes_mark p.Base sign h g = g
takes_mark p.Item sign h g = g
takes_mark p.Branch sign h g = no_place p.Statement g refl
takes_mark p.ClosedBranch sign h g = no_place p.Statement g.0 refl
takes_mark place sign h g = no_place place g h

takes_other : (place : Place) (kind : _) (bytes : List ℕ) → is_some place ≡ true → Takes place (Leaf (w.Other kind bytes)) → ⊥
unfolding Takes
takes_other (p.Expression level) kind bytes h g = g
takes_other p.PlainSpecs kind bytes h g = no_place p.Specs g.0 refl
takes_other p.SomeNames kind bytes h g = no_place p.Names g.0 refl
takes_other p.AnyDeclarator kind bytes h g = g
takes_other p.Declarator kind bytes h g = g.0
takes_other p.Abstract kind bytes h g = g.0
takes_other p.Base kind bytes h g = g
takes_other p.Item kind bytes h g = g
takes_other p.Branch kind bytes h g = no_place p.Statement g refl
takes_other p.ClosedBranch kind bytes h g = no_place p.Statement g.0 refl
takes_other place kind bytes h g = no_place place g h

leaf_text : (place : Place) (word : Word) → is_some place ≡ true → Takes place (Leaf word) → IsFormed word → IsTextLeaf word
leaf_text place (w.Mark sign) h g formed = takes_mark place sign h g
leaf_text place (w.Other kind bytes) h g formed = takes_other place kind bytes h g
leaf_text place word h g formed = formed

pub all_counted : (parts : Trees) (ps : List Place) (scope : Scope) → AllAllowed parts ps scope → count parts ≡ length ps
unfolding AllAllowed
all_counted none [] scope h = refl
all_counted none (place ∷ ps) scope h = absurd h
all_counted (tree ▹ rest) [] scope h = absurd h
all_counted (tree ▹ rest) (place ∷ ps) scope h = ap suc (all_counted rest ps _ h.2)

mutual
  unfolding Allowed AllAllowed IsText AreText spell

  -- an allowed tree of formed words
  pub allowed_text : (place : Place) (tree : Tree) (scope : Scope) → is_some place ≡ true → Takes place tree → Allowed tree scope →
      AllFormed (words (spell tree)) → IsText tree
  allowed_text place (Leaf word) scope some takes allowed h = leaf_text place word some takes h.0
  allowed_text place (At line) scope some takes allowed h = tt
  allowed_text place (Node form parts) scope some takes allowed h =
      let items = shape form (count parts) in
      let counted = all_counted parts (places items) scope allowed.1 in
      (counted, all_text parts (places items) scope (places_some items 0 0 (even form (count parts) 0)) allowed.1 (items_formed items parts counted h))

  all_text : (parts : Trees) (ps : List Place) (scope : Scope) → AreSome ps → AllAllowed parts ps scope → EachFormed parts → AreText parts
  all_text none ps scope some allowed h = tt
  all_text (tree ▹ rest) [] scope some allowed h = absurd allowed
  all_text (tree ▹ rest) (place ∷ ps) scope some allowed h =
      (allowed_text place tree scope some.0 allowed.0 allowed.1 h.0, all_text rest ps _ some.1 allowed.2 h.1)

-- They are sound, and so are they in the program.

plain_begins : (word : Word) → IsTextLeaf word → IsLeaf word
plain_begins (w.Mark sign) h = h
plain_begins (w.Other kind bytes) h = h
plain_begins (w.Key keyword) h = key_begins keyword
plain_begins word h = record { core = word_bytes word; end = []; is = sym (append-nil (word_bytes word)); token = h; ends = tt }

mutual
  unfolding IsText AreText IsSound AreSound

  text_sound : (tree : Tree) → IsText tree → IsSound tree
  text_sound (Leaf word) h = plain_begins word h
  text_sound (At line) h = tt
  text_sound (Node form parts) h = (h.0, texts_sound parts h.1)

  texts_sound : (parts : Trees) → AreText parts → AreSound parts
  texts_sound none h = tt
  texts_sound (tree ▹ rest) h = (text_sound tree h.0, texts_sound rest h.1)

-- a suffix has a dot in front, and no separator
abbrev pub IsSuffix : List ℕ → Type 0
IsSuffix suffix = (rest : List ℕ) × (suffix ≡ 46 ∷ rest) × (list_all clean rest ≡ true)

suffixed_begins : (name suffix : List ℕ) → IsToken t.Name name → IsSuffix suffix → Begins (w.Name (name ++ suffix))
suffixed_begins name suffix h (rest, e, g) =
    record { core = name; end = 46 ∷ rest; is = ap (λ (l : List ℕ). name ++ l) e; token = h; ends = (refl, refl, g) }

pub name_begins : (binding : Binding) (suffix name : List ℕ) → IsToken t.Name name → IsSuffix suffix → Begins (w.Name (name_by binding suffix name))
name_begins b.Own suffix name h g = suffixed_begins name suffix h g
name_begins b.Inner suffix name h g = plain_begins (w.Name name) h
name_begins b.Shared suffix name h g = plain_begins (w.Name name) h

sound_stands : (suffix : List ℕ) → IsSuffix suffix → Stands (λ x. x.suffix ≡ suffix) (λ tree new. IsText tree → IsSound new) (λ parts news. AreText parts → AreSound news)
unfolding IsSound AreSound IsText AreText shape
sound_stands suffix g = record {
  same = texts_sound;
  more = λ tree new rest news h more text. (h text.0, more text.1);
  word = plain_begins;
  line = λ line h. tt;
  node = λ form parts news same h text. (same ∙ text.0 ∙ ap (λ (n : ℕ). length (places (shape form n))) (sym same), h text.1);
  name = λ line name x e text. (refl, (tt, (name_begins (binding_of x.known name) x.suffix name text.1.1.0 (subst IsSuffix (sym e) g), tt)));
}

-- a tree of a text as it stands in the program
pub renamed_sound : (tree : Tree) (s : Names) → IsSuffix s.suffix → IsText tree → IsSound (renamed tree s)
renamed_sound tree s g h = suffix_stands s.suffix _ _ (sound_stands s.suffix g) tree s refl h

-- With another name.

word_sound : (name : List ℕ) (word : Word) → Begins (w.Name name) → IsLeaf word → IsLeaf (word_as name word)
word_sound name (w.Name old) g h = g
word_sound name word g h = h

count_named : (name : List ℕ) (parts : Trees) → count (all_with_name name parts) ≡ count parts
unfolding all_with_name
count_named name none = refl
count_named name (tree ▹ rest) = ap suc (count_named name rest)

node_sound : (leads : Bool) (form : Form) (name : List ℕ) (parts : Trees) → IsSound (Node form parts) → AreSound (all_with_name name parts) →
    IsSound (if leads then Node form (all_with_name name parts) else Node form parts)
unfolding IsSound AreSound
node_sound true form name parts h g =
    let same : count (all_with_name name parts) ≡ count parts = count_named name parts in
    (same ∙ h.0 ∙ ap (λ (n : ℕ). length (places (shape form n))) (sym same), g)
node_sound false form name parts h g = h

mutual
  unfolding IsSound AreSound with_name all_with_name

  pub with_name_sound : (name : List ℕ) (tree : Tree) → Begins (w.Name name) → IsSound tree → IsSound (with_name name tree)
  with_name_sound name (Leaf word) g h = word_sound name word g h
  with_name_sound name (At line) g h = tt
  with_name_sound name (Node form parts) g h = node_sound (leads_to_name form) form name parts h (all_with_name_sound name parts g h.1)

  all_with_name_sound : (name : List ℕ) (parts : Trees) → Begins (w.Name name) → AreSound parts → AreSound (all_with_name name parts)
  all_with_name_sound name none g h = tt
  all_with_name_sound name (tree ▹ rest) g h = (with_name_sound name tree g h.0, all_with_name_sound name rest g h.1)

-- The suffix of a unit.

digit_clean : (n : ℕ) → clean (48 + n) ≡ true
digit_clean n = ap₂ (λ (x y : Bool). not (x || y)) (ne_eqb (48 + n) 32 (omega arith)) (ne_eqb (48 + n) 10 (omega arith))

digits_clean : (ds : List ℕ) → list_all clean (map (λ n. 48 + n) ds) ≡ true
digits_clean [] = refl
digits_clean (n ∷ ds) = ap (λ (x : Bool). x && list_all clean (map (λ n. 48 + n) ds)) (digit_clean n) ∙ digits_clean ds

pub unit_suffix : (number : ℕ) → 0 < number → number ≤ 64 → IsSuffix (suffix_of number)
unit_suffix number some few =
    (decimal number, refl, ap (list_all clean) (decimal-digits_of number some (omega (arith, few))) ∙ digits_clean (digits_of 10 number))

-- External declarations without bodies and initializers that are spelled alike declare the same names.

-- Declarations of a text.

-- a declaration without a body is the tree of a text, with specs of one type and a name in each declarator
abbrev pub IsRead : Decl → Type 0
IsRead (e.Function line specs declarator body end) = ⊤
IsRead (e.Names line specs list) = IsText (decl_view (e.Names line specs list)) × (is_one_type (tally (trees spec_tree specs.words.items)) ≡ true) × HaveNames list

abbrev pub AreRead : List Decl → Type 0
AreRead [] = ⊤
AreRead (decl ∷ rest) = IsRead decl × AreRead rest

has_name : (o : Option (List ℕ)) → IsSome o → HasName o
has_name None h = absurd (cc)
has_name (Some name) h = tt

entries_named : (list : List (Declarator × Option Init)) (ps : List Place) (scope : Scope) → AllAllowed (trees entry_view list) ps scope → HaveNames list
unfolding Allowed AllAllowed Takes shape
entries_named [] ps scope h = tt
entries_named (one ∷ rest) [] scope h = absurd h
entries_named (one ∷ rest) (place ∷ ps) scope h =
    (has_name (name_of (declarator_tree one.0)) h.1.1.1.1.0.1, entries_named rest ps _ h.2)

external_read : (decl : Decl) (scope : Scope) → IsExternal (decl_view decl) scope → AllFormed (words (spell (decl_view decl))) → IsRead decl
unfolding IsExternal Allowed AllAllowed Takes form_home obeys are_specs tally shape
external_read (e.Function line specs declarator body end) scope h formed = tt
external_read (e.Names line specs list) scope h formed = (
  allowed_text p.External (decl_view (e.Names line specs list)) scope refl refl h formed,
  (and_parts (is_one_type (tally (trees spec_tree specs.words.items))) _ h.1.2.1.0).0,
  entries_named list _ _ h.1.2.2.1.1,
)

all_read : (decls : List Decl) (scope : Scope) → AreExternals (trees decl_view decls) scope → EachFormed (trees decl_view decls) → AreRead decls
unfolding AreExternals
all_read [] scope h formed = tt
all_read (decl ∷ rest) scope h formed = (external_read decl scope h.0 formed.0, all_read rest (after (decl_view decl) scope) h.1 formed.1)

all_formed : (ws : List Word) → All IsFormed ws → AllFormed ws
all_formed [] h = tt
all_formed (w ∷ ws) h = (All-head IsFormed w ws h, all_formed ws (All-tail IsFormed w ws h))

rows_counted : (place : Place) (n : ℕ) → n ≡ length (places (rows place n))
rows_counted place zero = refl
rows_counted place (suc n) = ap suc (rows_counted place n)

pub unit_read : (decls : List Decl) (scope : Scope) → AreExternals (trees decl_view decls) scope → All IsFormed (unit_words (trees decl_view decls)) → AreRead decls
unfolding spell shape
unit_read decls scope h formed =
    let unit = trees decl_view decls in
    all_read decls scope h
    (items_formed (rows p.External (count unit)) unit (rows_counted p.External (count unit)) (all_formed (unit_words unit) formed))

-- They are sound in the program.

abbrev IsNameToken : Option (List ℕ) → Type 0
IsNameToken None = ⊤
IsNameToken (Some name) = IsToken t.Name name

first_token : (x y : Option (List ℕ)) → IsNameToken x → IsNameToken y → IsNameToken (first_name x y)
first_token None y h g = g
first_token (Some name) y h g = h

node_token : (leads : Bool) (x : Option (List ℕ)) → IsNameToken x → IsNameToken (if leads then x else None)
node_token true x h = h
node_token false x h = tt

mutual
  unfolding name_of name_among IsText AreText

  name_token : (tree : Tree) → IsText tree → IsNameToken (name_of tree)
  name_token (Leaf (w.Name bytes)) h = h
  name_token (Leaf word) h = tt
  name_token (At line) h = tt
  name_token (Node form parts) h = node_token (leads_to_name form) (name_among parts) (names_token parts h.1)

  names_token : (parts : Trees) → AreText parts → IsNameToken (name_among parts)
  names_token none h = tt
  names_token (tree ▹ rest) h = first_token (name_of tree) (name_among rest) (name_token tree h.0) (names_token rest h.1)

declarator_by : (found : Option (List ℕ)) (tree : Tree) (role : Role) (line : ℕ) (x : Names) → IsSuffix x.suffix → IsText tree → IsNameToken found →
    IsSound (named_as found role (renamed tree (before_declarator found role line x)) x)
declarator_by None tree role line x g h token = renamed_sound tree x g h
declarator_by (Some name) tree role line x g h token =
    let binding = binding_as role x.own name in
    let y = mention binding role name line x in
    with_name_sound (name_by binding x.suffix name) (renamed tree y) (name_begins binding x.suffix name token g)
    (renamed_sound tree y (subst IsSuffix (sym (mention_suffix binding role name line x)) g) h)

declarator_sound : (tree : Tree) (role : Role) (line : ℕ) (x : Names) → IsSuffix x.suffix → IsText tree → IsSound (renamed_declarator role line tree x)
declarator_sound tree role line x g h = declarator_by (name_of tree) tree role line x g h (name_token tree h)

entries_sound : (line : ℕ) (typedef : Bool) (list : List (Declarator × Option Init)) (x : Names) → IsSuffix x.suffix → AreText (trees entry_view list) →
    AreSound (renamed_entries line typedef (trees entry_view list) x)
unfolding renamed_entries IsText AreText IsSound AreSound shape
entries_sound line typedef [] x g h = tt
entries_sound line typedef ((declarator, None) ∷ rest) x g h =
    let tree = declarator_tree declarator in
    let role = role_of typedef none in
    let y = behind_declarator role line tree x in
    let now : IsSuffix y.suffix = subst IsSuffix (sym (declarator_suffix role line tree x)) g in
    let later : IsSuffix (behind (Node f.MaybeInit none) y).suffix = subst IsSuffix (sym (behind_suffix (Node f.MaybeInit none) y)) now in (
      (refl, ((refl, (declarator_sound tree role line x g h.0.1.0.1.0, tt)), (renamed_sound (Node f.MaybeInit none) y now h.0.1.1.0, tt))),
      entries_sound line typedef rest (behind (Node f.MaybeInit none) y) later h.1,
    )
entries_sound line typedef ((declarator, Some one) ∷ rest) x g h =
    let tree = declarator_tree declarator in
    let init = Node f.MaybeInit (init_view one ▹ none) in
    let role = role_of typedef (init_view one ▹ none) in
    let y = behind_declarator role line tree x in
    let now : IsSuffix y.suffix = subst IsSuffix (sym (declarator_suffix role line tree x)) g in
    let later : IsSuffix (behind init y).suffix = subst IsSuffix (sym (behind_suffix init y)) now in (
      (refl, ((refl, (declarator_sound tree role line x g h.0.1.0.1.0, tt)), (renamed_sound init y now h.0.1.1.0, tt))),
      entries_sound line typedef rest (behind init y) later h.1,
    )

behind_counted : (n : ℕ) → n ≡ length (places (behind_commas p.Entry n))
behind_counted zero = refl
behind_counted (suc n) = ap suc (behind_counted n)

commas_counted : (n : ℕ) → n ≡ length (places (commas p.Entry n))
commas_counted zero = refl
commas_counted (suc n) = ap suc (behind_counted n)

names_sound : (line : ℕ) (specs : Specs) (list : List (Declarator × Option Init)) (x : Names) → IsSuffix x.suffix → IsText (decl_view (e.Names line specs list)) →
    IsSound (renamed_external (decl_view (e.Names line specs list)) x)
unfolding renamed_external IsText AreText IsSound AreSound shape
names_sound line specs list x g h =
    let words = At specs.line ▹ trees spec_tree specs.words.items in
    let y = behind (Node f.Specs words) x in
    let entries = renamed_entries line (has_typedef words) (trees entry_view list) y in (
      refl,
      (
        tt,
        (
          renamed_sound (specs_view specs) x g h.1.1.0,
          (
            (
              commas_counted (count entries),
              entries_sound line (has_typedef words) list y (subst IsSuffix (sym (behind_suffix (Node f.Specs words) x)) g) h.1.1.1.0.1,
            ),
            tt,
          ),
        ),
      ),
    )

-- Trees that are spelled alike.

-- what a tree declares is read off its words, which can be told apart
abbrev pub Tells : Tree → Type 0
Tells tree = AllBegin (words (spell tree)) × (names_in (run (Before false 0 []) (tree_sorts tree)) ≡ declared_by tree)

false_true : false ≡ true → ⊥
false_true h = cc

external_tells : (decl : Decl) (x : Names) → IsSuffix x.suffix → IsRead decl → is_plain (renamed_external (decl_view decl) x) ≡ true → Tells (renamed_external (decl_view decl) x)
unfolding renamed_external is_plain
external_tells (e.Function line specs declarator body end) x g h plain = absurd (false_true plain)
external_tells (e.Names line specs list) x g h plain =
    let sound = names_sound line specs list x g h.0 in
    (sound_begins (renamed_external (decl_view (e.Names line specs list)) x) sound, declaration_read line specs list x h.1 h.2 sound plain)

-- those of a unit that have neither body nor initializer
pub each_tells : (decls : List Decl) (x : Names) → IsSuffix x.suffix → AreRead decls →
    All (λ said. is_plain said.tree ≡ true → Tells said.tree) (each_said (trees decl_view decls) x)
unfolding each_said
each_tells [] x g h = All-nil _
each_tells (decl ∷ rest) x g h =
    let before : Names = record x { mentions = [] } in
    let next = behind_external (decl_view decl) before in
    All-cons (λ (said : Said). is_plain said.tree ≡ true → Tells said.tree) (record { tree = renamed_external (decl_view decl) before; mentions = next.mentions })
    (each_said (trees decl_view rest) next) (λ plain. external_tells decl before g h.0 plain)
    (each_tells rest next (subst IsSuffix (sym (external_suffix (decl_view decl) before)) g) h.1)

sorts_by : (ws : List Word) → sorts ws ≡ map (λ (x : TokenKind × List ℕ). sort x.0 x.1) (word_spellings ws)
sorts_by [] = refl
sorts_by (w ∷ ws) = ap (λ (l : List Sort). sort (word_kind w) (word_bytes w) ∷ l) (sorts_by ws)

spelling_is : (tree : Tree) → spelling tree ≡ words_text (words (spell tree))
unfolding tree_text spell spell_all shape
spelling_is tree = ap (λ (l : List Piece). words_text (words l)) (append-nil (spell tree))

pub alike_declare : TokensAreLongest → (tree other : Tree) → Tells tree → Tells other → spelling tree ≡ spelling other → declared_by tree ≡ declared_by other
alike_declare longest tree other h g e =
    let same : word_spellings (words (spell tree)) ≡ word_spellings (words (spell other)) =
    words_back longest (words (spell tree)) (words (spell other)) h.0 g.0 (sym (spelling_is tree) ∙ e ∙ spelling_is other) in
    let read : tree_sorts tree ≡ tree_sorts other =
    sorts_by (words (spell tree)) ∙ ap (map (λ (x : TokenKind × List ℕ). sort x.0 x.1)) same ∙ sym (sorts_by (words (spell other))) in
    sym h.1 ∙ ap (λ (l : List Sort). names_in (run (Before false 0 []) l)) read ∙ g.1
