-- What an external declaration without a body and initializers declares can be read off its words: a walk over their sorts.
use Rattle.c_units.proofs.Words.Std.{Bool, List, None, Option, Some, [], ap, append-nil, bytes_eq, codes, false, if◌then◌else◌, length, map, refl, replicate, subst, suc, sym, true, zero, ℕ, ⊤, ◌++◌, ◌||◌, ◌∙◌, ◌∷◌, ◌≡◌}
use Rattle.c_units.proofs.Words.Trees.{AssignOp, At, BinaryOp, Form, Here, Item, Keyword, Leaf, Line, Node, Part, Piece, Place, Says, Sign, TokenKind, Tree, Trees, UnaryOp, Word, assign_sign, behind_commas, binary_sign, commas, count, filled, is_double_sign, is_keyword, is_mark, is_sign, is_triple_sign, key, keyword_bytes, none, places, record_word, rows, shape, sign_bytes, spell, spell_all, unary_sign, word_bytes, word_kind, words, ◌▹◌}
use Rattle.c_lexer.specs.declared.token.TokenKind.TheVariants as t
use Rattle.c_units.proofs.TokenForms.{keyword_token, sign_token}
use Rattle.c_tree.specs.declared.operator.UnaryOp.TheVariants as unary
use Rattle.c_tree.specs.declared.operator.BinaryOp.TheVariants as binary
use Rattle.c_tree.specs.declared.operator.AssignOp.TheVariants as assign
use Rattle.c_tree.specs.declared.operator.RecordSort.TheVariants as r
use Rattle.c_tree.specs.declared.word.Keyword.TheVariants as k
use Rattle.c_tree.specs.declared.word.Sign.TheVariants as s
use Rattle.c_tree.specs.Words as w
use Rattle.c_tree.specs.Forms as f
use Rattle.c_tree.specs.Places as p
use Rattle.c_tree.specs.Spelling.{Said}
use Rattle.c_units.proofs.WordTexts.{Begins, AllBegin}

-- an opening bracket other than a brace, a brace, a closing bracket, a comma; a keyword of a type, of a tag, `typedef`; a name;
-- what is none of these
pub data Sort : Type 0 where
  Open : Sort
  Brace : Sort
  Close : Sort
  Comma : Sort
  Kind : Sort
  Tag : Sort
  Typedef : Sort
  Called : (name : List ℕ) → Sort
  Plain : Sort

abbrev pub sign_sort : List ℕ → Sort
sign_sort bytes =
    if bytes_eq bytes (codes "(") || bytes_eq bytes (codes "[") then Open else
    if bytes_eq bytes (codes "{") then Brace else
    if bytes_eq bytes (codes ")") || bytes_eq bytes (codes "]") || bytes_eq bytes (codes "}") then Close else
    if bytes_eq bytes (codes ",") then Comma else Plain

abbrev pub key_sort : List ℕ → Sort
key_sort bytes =
    if bytes_eq bytes (codes "typedef") then Typedef else
    if bytes_eq bytes (codes "struct") || bytes_eq bytes (codes "union") || bytes_eq bytes (codes "enum") then Tag else
    if bytes_eq bytes (codes "void") || bytes_eq bytes (codes "char") || bytes_eq bytes (codes "short") || bytes_eq bytes (codes "int")
    || bytes_eq bytes (codes "long") || bytes_eq bytes (codes "signed") || bytes_eq bytes (codes "unsigned") then Kind else Plain

abbrev pub sort : TokenKind → List ℕ → Sort
sort t.Keyword bytes = key_sort bytes
sort t.Sign bytes = sign_sort bytes
sort t.Name bytes = Called bytes
sort kind bytes = Plain

abbrev pub word_sort : Word → Sort
word_sort word = sort (word_kind word) (word_bytes word)

abbrev pub sorts : List Word → List Sort
sorts ws = map word_sort ws

abbrev pub tree_sorts : Tree → List Sort
tree_sorts tree = sorts (words (spell tree))

-- where the walk is: before the name of a declarator, behind a type or not, in so many parentheses; behind the keyword of a tag; in
-- its braces and so many brackets more; behind the name in so many brackets; or nowhere, since names of types are declared. With
-- the names so far.
pub data State : Type 0 where
  Before : (typed : Bool) (deep : ℕ) (names : List (List ℕ)) → State
  Tagged : (names : List (List ℕ)) → State
  Within : (deep : ℕ) (names : List (List ℕ)) → State
  Behind : (deep : ℕ) (names : List (List ℕ)) → State
  Gone : State

abbrev pub name_step : List ℕ → Bool → ℕ → List (List ℕ) → State
name_step name true deep names = Behind deep (names ++ name ∷ [])
name_step name false deep names = Before true deep names

abbrev pub before_step : Sort → Bool → ℕ → List (List ℕ) → State
before_step Open typed deep names = Before typed (suc deep) names
before_step Brace typed deep names = Within 0 names
before_step Kind typed deep names = Before true deep names
before_step Tag typed deep names = Tagged names
before_step Typedef typed deep names = Gone
before_step (Called name) typed deep names = name_step name typed deep names
before_step word typed deep names = Before typed deep names

abbrev pub tag_step : Sort → List (List ℕ) → State
tag_step Brace names = Within 0 names
tag_step word names = Before true 0 names

abbrev pub close_within : ℕ → List (List ℕ) → State
close_within zero names = Before true 0 names
close_within (suc deep) names = Within deep names

abbrev pub within_step : Sort → ℕ → List (List ℕ) → State
within_step Open deep names = Within (suc deep) names
within_step Brace deep names = Within (suc deep) names
within_step Close deep names = close_within deep names
within_step word deep names = Within deep names

abbrev pub close_behind : ℕ → List (List ℕ) → State
close_behind zero names = Behind 0 names
close_behind (suc deep) names = Behind deep names

abbrev pub comma_behind : ℕ → List (List ℕ) → State
comma_behind zero names = Before true 0 names
comma_behind (suc deep) names = Behind (suc deep) names

abbrev pub behind_step : Sort → ℕ → List (List ℕ) → State
behind_step Open deep names = Behind (suc deep) names
behind_step Brace deep names = Behind (suc deep) names
behind_step Close deep names = close_behind deep names
behind_step Comma deep names = comma_behind deep names
behind_step word deep names = Behind deep names

abbrev pub step : State → Sort → State
step (Before typed deep names) word = before_step word typed deep names
step (Tagged names) word = tag_step word names
step (Within deep names) word = within_step word deep names
step (Behind deep names) word = behind_step word deep names
step Gone word = Gone

abbrev pub run : State → List Sort → State
run state [] = state
run state (word ∷ rest) = run (step state word) rest

abbrev pub names_in : State → List (List ℕ)
names_in (Before typed deep names) = names
names_in (Tagged names) = names
names_in (Within deep names) = names
names_in (Behind deep names) = names
names_in Gone = []

pub run_append : (state : State) (xs ys : List Sort) → run state (xs ++ ys) ≡ run (run state xs) ys
run_append state [] ys = refl
run_append state (x ∷ xs) ys = run_append (step state x) xs ys

pub run_gone : (xs : List Sort) → run Gone xs ≡ Gone
run_gone [] = refl
run_gone (x ∷ xs) = run_gone xs

-- The words of a node.

pub words_append : (xs ys : List Piece) → words (xs ++ ys) ≡ words xs ++ words ys
words_append [] ys = refl
words_append (Said word ∷ xs) ys = ap (λ (ws : List Word). word ∷ ws) (words_append xs ys)
words_append (Line line ∷ xs) ys = words_append xs ys

sorts_append : (xs ys : List Word) → sorts (xs ++ ys) ≡ sorts xs ++ sorts ys
sorts_append [] ys = refl
sorts_append (x ∷ xs) ys = ap (λ (l : List Sort). word_sort x ∷ l) (sorts_append xs ys)

-- the sorts of a form's words with those of its parts in their places
abbrev pub item_sorts : List Item → Trees → List Sort
item_sorts [] parts = []
item_sorts (Says word ∷ items) parts = word_sort word ∷ item_sorts items parts
item_sorts (Here ∷ items) none = []
item_sorts (Here ∷ items) (tree ▹ rest) = tree_sorts tree ++ item_sorts items rest
item_sorts (Part place ∷ items) none = []
item_sorts (Part place ∷ items) (tree ▹ rest) = tree_sorts tree ++ item_sorts items rest

part_sorts : (tree : Tree) (pieces : List Piece) (more : List Sort) → sorts (words pieces) ≡ more → sorts (words (spell tree ++ pieces)) ≡ tree_sorts tree ++ more
part_sorts tree pieces more h =
    ap sorts (words_append (spell tree) pieces) ∙ sorts_append (words (spell tree)) (words pieces) ∙ ap (λ (l : List Sort). tree_sorts tree ++ l) h

filled_sorts : (items : List Item) (parts : Trees) → sorts (words (filled items (spell_all parts))) ≡ item_sorts items parts
unfolding spell_all
filled_sorts [] parts = refl
filled_sorts (Says word ∷ items) parts = ap (λ (l : List Sort). word_sort word ∷ l) (filled_sorts items parts)
filled_sorts (Here ∷ items) none = refl
filled_sorts (Here ∷ items) (tree ▹ rest) = part_sorts tree (filled items (spell_all rest)) (item_sorts items rest) (filled_sorts items rest)
filled_sorts (Part place ∷ items) none = refl
filled_sorts (Part place ∷ items) (tree ▹ rest) = part_sorts tree (filled items (spell_all rest)) (item_sorts items rest) (filled_sorts items rest)

pub node_sorts : (form : Form) (parts : Trees) → tree_sorts (Node form parts) ≡ item_sorts (shape form (count parts)) parts
unfolding spell
node_sorts form parts = filled_sorts (shape form (count parts)) parts

-- Brackets are closed.

abbrev pub lower : ℕ → Option ℕ
lower zero = None
lower (suc deep) = Some deep

abbrev pub shift : Sort → ℕ → Option ℕ
shift Open deep = Some (suc deep)
shift Brace deep = Some (suc deep)
shift Close deep = lower deep
shift word deep = Some deep

abbrev pub and_then : Option ℕ → (ℕ → Option ℕ) → Option ℕ
and_then None next = None
and_then (Some deep) next = next deep

abbrev pub is_some : Place → Bool
is_some p.Nowhere = false
is_some place = true

-- how many brackets are deep behind a form, where so many were before it; its words are keywords and signs, and each place is some
abbrev pub level : List Item → ℕ → Option ℕ
level [] deep = Some deep
level (Says (w.Key keyword) ∷ items) deep = and_then (shift (word_sort (w.Key keyword)) deep) (λ next. level items next)
level (Says (w.Mark sign) ∷ items) deep = and_then (shift (word_sort (w.Mark sign)) deep) (λ next. level items next)
level (Says word ∷ items) deep = None
level (Here ∷ items) deep = level items deep
level (Part place ∷ items) deep = if is_some place then level items deep else None

abbrev pub IsEven : List Item → Type 0
IsEven items = (deep : ℕ) → level items deep ≡ Some deep

rows_even : (place : Place) → is_some place ≡ true → (n : ℕ) → IsEven (rows place n)
rows_even place h zero deep = refl
rows_even place h (suc n) deep =
    ap (λ (b : Bool). if b then level (rows place n) deep else None) h ∙ rows_even place h n deep

behind_even : (place : Place) → is_some place ≡ true → (n : ℕ) → IsEven (behind_commas place n)
unfolding sign_bytes
behind_even place h zero deep = refl
behind_even place h (suc n) deep =
    ap (λ (b : Bool). if b then level (behind_commas place n) deep else None) h ∙ behind_even place h n deep

commas_even : (place : Place) → is_some place ≡ true → (n : ℕ) → IsEven (commas place n)
commas_even place h zero deep = refl
commas_even place h (suc n) deep =
    ap (λ (b : Bool). if b then level (behind_commas place n) deep else None) h ∙ behind_even place h n deep

consts_even : (n : ℕ) → IsEven (replicate n (key k.Const) ++ Part p.AnyDeclarator ∷ [])
unfolding keyword_bytes
consts_even zero deep = refl
consts_even (suc n) deep = consts_even n deep

unary_even : (op : UnaryOp) (deep : ℕ) → shift (word_sort (w.Mark (unary_sign op))) deep ≡ Some deep
unfolding unary_sign sign_bytes
unary_even unary.Address deep = refl
unary_even op deep = refl

binary_even : (op : BinaryOp) (deep : ℕ) → shift (word_sort (w.Mark (binary_sign op))) deep ≡ Some deep
unfolding binary_sign sign_bytes
binary_even binary.Or deep = refl
binary_even op deep = refl

assign_even : (op : AssignOp) (deep : ℕ) → shift (word_sort (w.Mark (assign_sign op))) deep ≡ Some deep
unfolding assign_sign sign_bytes
assign_even assign.Plain deep = refl
assign_even op deep = refl

-- each form closes the brackets that it opens
pub even : (form : Form) (n : ℕ) → IsEven (shape form n)
unfolding shape keyword_bytes sign_bytes record_word
even f.Unit n deep = rows_even p.External refl n deep
even f.Names n deep = commas_even p.Entry refl n deep
even f.MaybeInit zero deep = refl
even f.Specs (suc n) deep = rows_even p.SpecWord refl n deep
even f.MaybeName zero deep = refl
even f.Members (suc n) deep = rows_even p.Member refl (suc n) deep
even f.MemberNames (suc n) deep = commas_even p.Declarator refl (suc n) deep
even f.Enumerators (suc n) deep = commas_even p.Enumerator refl (suc n) deep
even f.MaybeValue zero deep = refl
even (f.Pointer consts) n deep = consts_even consts deep
even f.Suffixes n deep = rows_even p.Suffix refl n deep
even f.MaybeLength zero deep = refl
even f.Params n deep = commas_even p.Param refl n deep
even f.Inits (suc n) deep = commas_even p.Init refl (suc n) deep
even f.Items n deep = rows_even p.Item refl n deep
even f.MaybeExpr zero deep = refl
even f.Strings (suc n) deep = rows_even p.Str refl (suc n) deep
even f.Arguments n deep = commas_even (p.Expression 14) refl n deep
even (f.RecordTag r.Struct) n deep = refl
even (f.RecordBody r.Struct) n deep = refl
even (f.EnumBody true) n deep = refl
even (f.InitList true) n deep = refl
even (f.Unary op) n deep = ap (λ (o : Option ℕ). and_then o (λ next. Some next)) (unary_even op deep)
even (f.Binary op) n deep = ap (λ (o : Option ℕ). and_then o (λ next. Some next)) (binary_even op deep)
even (f.Assign op) n deep = ap (λ (o : Option ℕ). and_then o (λ next. Some next)) (assign_even op deep)
even form n deep = refl

-- Trees among brackets.

-- among brackets of a tag's braces, or behind a name
abbrev pub inside : Bool → ℕ → List (List ℕ) → State
inside true deep names = Within deep names
inside false deep names = Behind (suc deep) names

-- a tree that changes nothing there
abbrev pub IsNeutral : Tree → Type 0
IsNeutral tree = (within : Bool) (deep : ℕ) (names : List (List ℕ)) → run (inside within deep names) (tree_sorts tree) ≡ inside within deep names

abbrev pub AreNeutral : Trees → Type 0
AreNeutral none = ⊤
AreNeutral (tree ▹ rest) = IsNeutral tree × AreNeutral rest

some_is : (deep next : ℕ) → Some deep ≡ Some next → deep ≡ next
some_is deep next h = cc

stepped : (word : Sort) (within : Bool) (deep next : ℕ) (names : List (List ℕ)) → shift word deep ≡ Some next →
    step (inside within deep names) word ≡ inside within next names
stepped Close within zero next names h = absurd (cc)
stepped word true deep next names h = ap (λ (n : ℕ). inside true n names) (some_is _ next h)
stepped word false deep next names h = ap (λ (n : ℕ). inside false n names) (some_is _ next h)

-- a form with neutral parts
abbrev Walks : List Item → Trees → ℕ → ℕ → Type 0
Walks items parts deep next = (within : Bool) (names : List (List ℕ)) → run (inside within deep names) (item_sorts items parts) ≡ inside within next names

word_walks : (o : Option ℕ) (word : Word) (items : List Item) (parts : Trees) (deep next : ℕ) → shift (word_sort word) deep ≡ o →
    and_then o (λ middle. level items middle) ≡ Some next →
    ((middle : ℕ) → level items middle ≡ Some next → Walks items parts middle next) → Walks (Says word ∷ items) parts deep next
word_walks None word items parts deep next e h more within names = absurd (cc)
word_walks (Some middle) word items parts deep next e h more within names =
    ap (λ (state : State). run state (item_sorts items parts)) (stepped (word_sort word) within deep middle names e) ∙ more middle h within names

part_walks : (tree : Tree) (items : List Item) (rest : Trees) (deep next : ℕ) → IsNeutral tree → Walks items rest deep next →
    (within : Bool) (names : List (List ℕ)) → run (inside within deep names) (tree_sorts tree ++ item_sorts items rest) ≡ inside within next names
part_walks tree items rest deep next h more within names =
    run_append (inside within deep names) (tree_sorts tree) (item_sorts items rest)
    ∙ ap (λ (state : State). run state (item_sorts items rest)) (h within deep names) ∙ more within names

pub place_some : (b : Bool) (o : Option ℕ) (next : ℕ) → (if b then o else None) ≡ Some next → o ≡ Some next
place_some true o next h = h
place_some false o next h = absurd (cc)

pub one_fewer : (m n : ℕ) → suc m ≡ suc n → m ≡ n
one_fewer m n h = cc

items_walk : (items : List Item) (parts : Trees) (deep next : ℕ) → level items deep ≡ Some next → count parts ≡ length (places items) →
    AreNeutral parts → Walks items parts deep next
items_walk [] none deep next h e neutral within names = ap (λ (n : ℕ). inside within n names) (some_is deep next h)
items_walk [] (tree ▹ rest) deep next h e neutral within names = absurd (cc)
items_walk (Says (w.Key keyword) ∷ items) parts deep next h e neutral within names =
    word_walks (shift (word_sort (w.Key keyword)) deep) (w.Key keyword) items parts deep next refl h
    (λ middle g. items_walk items parts middle next g e neutral) within names
items_walk (Says (w.Mark sign) ∷ items) parts deep next h e neutral within names =
    word_walks (shift (word_sort (w.Mark sign)) deep) (w.Mark sign) items parts deep next refl h
    (λ middle g. items_walk items parts middle next g e neutral) within names
items_walk (Says word ∷ items) parts deep next h e neutral within names = absurd (cc)
items_walk (Here ∷ items) none deep next h e neutral within names = absurd (cc)
items_walk (Here ∷ items) (tree ▹ rest) deep next h e neutral within names =
    part_walks tree items rest deep next neutral.0
    (items_walk items rest deep next h (one_fewer (count rest) (length (places items)) e) neutral.1) within names
items_walk (Part place ∷ items) none deep next h e neutral within names = absurd (cc)
items_walk (Part place ∷ items) (tree ▹ rest) deep next h e neutral within names =
    part_walks tree items rest deep next neutral.0
    (items_walk items rest deep next (place_some (is_some place) (level items deep) next h) (one_fewer (count rest) (length (places items)) e) neutral.1) within names

-- a node with as many parts as its form has places, whose words can be told apart
abbrev pub IsLeaf : Word → Type 0
IsLeaf (w.Mark sign) = ⊥
IsLeaf (w.Other kind bytes) = ⊥
IsLeaf word = Begins word

unfoldable mutual
  pub IsSound : Tree → Type 0
  IsSound (Leaf word) = IsLeaf word
  IsSound (At line) = ⊤
  IsSound (Node form parts) = (count parts ≡ length (places (shape form (count parts)))) × AreSound parts

  pub AreSound : Trees → Type 0
  AreSound none = ⊤
  AreSound (tree ▹ rest) = IsSound tree × AreSound rest

key_shift : (keyword : Keyword) (deep : ℕ) → shift (word_sort (w.Key keyword)) deep ≡ Some deep
unfolding keyword_bytes
key_shift k.Void deep = refl
key_shift keyword deep = refl

leaf_shift : (word : Word) (deep : ℕ) → IsLeaf word → shift (word_sort word) deep ≡ Some deep
leaf_shift (w.Mark sign) deep h = absurd h
leaf_shift (w.Other kind bytes) deep h = absurd h
leaf_shift (w.Key keyword) deep h = key_shift keyword deep
leaf_shift word deep h = refl

mutual
  unfolding IsSound AreSound spell

  pub sound_neutral : (tree : Tree) → IsSound tree → IsNeutral tree
  sound_neutral (Leaf word) h within deep names = stepped (word_sort word) within deep deep names (leaf_shift word deep h)
  sound_neutral (At line) h within deep names = refl
  sound_neutral (Node form parts) h within deep names =
      ap (run (inside within deep names)) (node_sorts form parts)
      ∙ items_walk (shape form (count parts)) parts deep deep (even form (count parts) deep) h.0 (all_neutral parts h.1) within names

  pub all_neutral : (parts : Trees) → AreSound parts → AreNeutral parts
  all_neutral none h = tt
  all_neutral (tree ▹ rest) h = (sound_neutral tree h.0, all_neutral rest h.1)

-- The words of a sound tree are told apart.

key_is : (keyword : Keyword) → is_keyword (keyword_bytes keyword) ≡ true
unfolding keyword_bytes is_keyword
key_is k.Void = refl
key_is keyword = refl

mark_is : (sign : Sign) → is_sign (sign_bytes sign) ≡ true
unfolding sign_bytes is_mark is_double_sign is_triple_sign
mark_is s.Comma = refl
mark_is sign = refl

pub key_begins : (keyword : Keyword) → Begins (w.Key keyword)
key_begins keyword = record {
  core = keyword_bytes keyword;
  end = [];
  is = sym (append-nil (keyword_bytes keyword));
  token = keyword_token (keyword_bytes keyword) (key_is keyword);
  ends = tt;
}

mark_begins : (sign : Sign) → Begins (w.Mark sign)
mark_begins sign = record {
  core = sign_bytes sign;
  end = [];
  is = sym (append-nil (sign_bytes sign));
  token = sign_token (sign_bytes sign) (mark_is sign);
  ends = tt;
}

begin_append : (xs ys : List Word) → AllBegin xs → AllBegin ys → AllBegin (xs ++ ys)
begin_append [] ys h g = g
begin_append (x ∷ xs) ys h g = (h.0, begin_append xs ys h.1 g)

part_begins : (tree : Tree) (pieces : List Piece) → AllBegin (words (spell tree)) → AllBegin (words pieces) → AllBegin (words (spell tree ++ pieces))
part_begins tree pieces h g =
    subst AllBegin (sym (words_append (spell tree) pieces)) (begin_append (words (spell tree)) (words pieces) h g)

abbrev EachBegin : Trees → Type 0
EachBegin none = ⊤
EachBegin (tree ▹ rest) = AllBegin (words (spell tree)) × EachBegin rest

pub word_begins : (o : Option ℕ) (items : List Item) (next : ℕ) → and_then o (λ middle. level items middle) ≡ Some next →
    (middle : ℕ) × (level items middle ≡ Some next)
word_begins None items next h = absurd (cc)
word_begins (Some middle) items next h = (middle, h)

items_begin : (items : List Item) (parts : Trees) (deep next : ℕ) → level items deep ≡ Some next → EachBegin parts →
    AllBegin (words (filled items (spell_all parts)))
unfolding spell_all
items_begin [] parts deep next h g = tt
items_begin (Says (w.Key keyword) ∷ items) parts deep next h g =
    let more = word_begins (shift (word_sort (w.Key keyword)) deep) items next h in
    (key_begins keyword, items_begin items parts more.0 next more.1 g)
items_begin (Says (w.Mark sign) ∷ items) parts deep next h g =
    let more = word_begins (shift (word_sort (w.Mark sign)) deep) items next h in
    (mark_begins sign, items_begin items parts more.0 next more.1 g)
items_begin (Says word ∷ items) parts deep next h g = absurd (cc)
items_begin (Here ∷ items) none deep next h g = tt
items_begin (Here ∷ items) (tree ▹ rest) deep next h g =
    part_begins tree (filled items (spell_all rest)) g.0 (items_begin items rest deep next h g.1)
items_begin (Part place ∷ items) none deep next h g = tt
items_begin (Part place ∷ items) (tree ▹ rest) deep next h g =
    part_begins tree (filled items (spell_all rest)) g.0 (items_begin items rest deep next (place_some (is_some place) (level items deep) next h) g.1)

leaf_begins : (word : Word) → IsLeaf word → Begins word
leaf_begins (w.Mark sign) h = absurd h
leaf_begins (w.Other kind bytes) h = absurd h
leaf_begins word h = h

mutual
  unfolding IsSound AreSound spell

  pub sound_begins : (tree : Tree) → IsSound tree → AllBegin (words (spell tree))
  sound_begins (Leaf word) h = (leaf_begins word h, tt)
  sound_begins (At line) h = tt
  sound_begins (Node form parts) h = items_begin (shape form (count parts)) parts 0 0 (even form (count parts) 0) (each_begins parts h.1)

  each_begins : (parts : Trees) → AreSound parts → EachBegin parts
  each_begins none h = tt
  each_begins (tree ▹ rest) h = (sound_begins tree h.0, each_begins rest h.1)
