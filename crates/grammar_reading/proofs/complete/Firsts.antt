-- How trees begin: by their place, with which words, and that they take a word or are empty. One walk over trees tells it of
-- each place; a table says what a place begins with, and another which places may be empty.
use Rattle.std.proofs.Common.{refl, Bool, List, None, Option, Some, [], ap, append-nil, arith, false, inl, inr, length, subst, suc, sym, true, zero, ℕ, ◌++◌, ◌<◌, ◌∙◌, ◌∷◌, ◌≡◌, ◌≤◌, ◌⊎◌, drop}
use Rattle.std.proofs.lemmas.Bool.{and_from, and_parts, false≢true, true≢false, not-true, and_right}
use Rattle.std.specs.Prelude.{IsSome, if◌then◌else◌, not, ⊤, ◌&&◌, ◌||◌}
use Rattle.c_lexer.specs.declared.token.Token.{Token}
use Rattle.c_tree.specs.Allowed.{AllAllowed, Allowed, IsBase, IsDeclarator, IsExpression, IsItem, Takes, are_specs, is_type_name, obeys, tally}
use Rattle.c_tree.specs.Forms.{Form}
use Rattle.c_tree.specs.Grammar.{Here, Item, Part, Says, form_home, keyword_home, shape, word_home, home, some, rows}
use Rattle.c_tree.specs.Operators.{record_word, unary_sign}
use Rattle.c_tree.specs.Places.{Expression, Place}
use Rattle.c_tree.specs.Scopes.{Scope, after, first_name, is_scope, is_type, leads_to_name, name_among, name_of, places}
use Rattle.c_tree.specs.Spelling.{Piece, Said, Spells, filled, spell, spell_all}
use Rattle.c_tree.specs.Tree.{At, Leaf, Node, Tree, Trees, none, ◌▹◌, count}
use Rattle.c_tree.specs.Words.{Char, Int, Key, Mark, Name, Other, Str, Word}
use Rattle.c_tree.specs.declared.operator.RecordSort.{RecordSort}
use Rattle.c_tree.specs.declared.operator.UnaryOp.{UnaryOp}
use Rattle.c_tree.specs.declared.word.Keyword.{Keyword}
use Rattle.c_tree.specs.declared.word.Sign.{Sign}
use Rattle.c_tree.specs.Forms as f
use Rattle.c_tree.specs.Places as p
use Rattle.c_tree.specs.declared.word.Keyword.TheVariants as k
use Rattle.c_tree.specs.declared.word.Sign.TheVariants as s
use Rattle.c_tree.specs.declared.operator.UnaryOp.TheVariants as u
use Rattle.c_tree.specs.declared.operator.RecordSort.TheVariants as r
use Rattle.grammar_reading.specs.State.{State, first_kind, is_spec_key, kind_at, kind_is_mark, kind_is_name, kind_of_word, sign_number, starts_by, starts_type, line_at, skip, opens_type, at_mark}
use Rattle.grammar_reading.specs.declared.kind.Kind.{Kind}
use Rattle.grammar_reading.specs.Laws.{behind}
use Rattle.grammar_reading.specs.declared.kind.Kind.TheVariants as kinds
use Rattle.grammar_reading.proofs.Words.{spells_split, IsNamed}
use Rattle.grammar_reading.proofs.complete.Reads.{is_str, line_first, line_scope, said_bytes, said_kind, said_shorter, spells_shorter, said_first, specs_stop}
use Rattle.grammar_reading.proofs.Forms.{is_line, is_name, Grown, IsGrownForm, Outside, Prefix, Sort, Token_, expr_sort, front_below, grown_as, is_grown, is_inside, no_word_expr, none_not, one_not}
use Rattle.grammar_reading.proofs.sound.Declarators.{first_name_none}

-- a kind that a primary expression begins with
unfoldable pub begins_primary : Kind → Bool
begins_primary kinds.Name = true
begins_primary kinds.Int = true
begins_primary kinds.Char = true
begins_primary kinds.Str = true
begins_primary (kinds.Mark s.LeftParen) = true
begins_primary _ = false

-- an expression
unfoldable pub begins_expr : Kind → Bool
begins_expr kinds.Name = true
begins_expr kinds.Int = true
begins_expr kinds.Char = true
begins_expr kinds.Str = true
begins_expr (kinds.Key k.Sizeof) = true
begins_expr (kinds.Mark s.LeftParen) = true
begins_expr (kinds.Mark s.PlusPlus) = true
begins_expr (kinds.Mark s.MinusMinus) = true
begins_expr (kinds.Mark s.Ampersand) = true
begins_expr (kinds.Mark s.Star) = true
begins_expr (kinds.Mark s.Plus) = true
begins_expr (kinds.Mark s.Minus) = true
begins_expr (kinds.Mark s.Tilde) = true
begins_expr (kinds.Mark s.Not) = true
begins_expr _ = false

abbrev pub is_const : Kind → Bool
is_const kinds.Int = true
is_const kinds.Char = true
is_const _ = false

-- an expression of at most a level
abbrev pub begins_level : ℕ → Kind → Bool
begins_level zero kind = begins_primary kind
begins_level (suc level) kind = begins_expr kind

-- a statement, other than an expression
unfoldable pub begins_stmt : Kind → Bool
begins_stmt (kinds.Mark s.Semicolon) = true
begins_stmt (kinds.Mark s.LeftBrace) = true
begins_stmt (kinds.Key k.DelayFrees) = true
begins_stmt (kinds.Key k.If) = true
begins_stmt (kinds.Key k.While) = true
begins_stmt (kinds.Key k.Do) = true
begins_stmt (kinds.Key k.For) = true
begins_stmt (kinds.Key k.Switch) = true
begins_stmt (kinds.Key k.Case) = true
begins_stmt (kinds.Key k.Default) = true
begins_stmt (kinds.Key k.Break) = true
begins_stmt (kinds.Key k.Continue) = true
begins_stmt (kinds.Key k.Return) = true
begins_stmt _ = false

-- a declarator that is not empty, without and with pointers
unfoldable pub begins_direct : Kind → Bool
begins_direct kinds.Name = true
begins_direct (kinds.Mark s.LeftParen) = true
begins_direct (kinds.Mark s.LeftBracket) = true
begins_direct _ = false

abbrev pub begins_declarator : Kind → Bool
begins_declarator kind = begins_direct kind || kind_is_mark s.Star kind

-- whether a tree of a place may begin with a word of this kind, which begins a type or not
unfoldable pub first : Place → Kind → Bool → Bool
first (Expression level) kind type = begins_level level kind && not type
first p.Arguments kind type = begins_expr kind && not type
first p.MaybeExpr kind type = begins_expr kind && not type
first p.MaybeLength kind type = begins_expr kind && not type
first p.Int kind type = is_const kind && not type
first p.Char kind type = is_const kind && not type
first p.Str kind type = is_str kind && not type
first p.Strings kind type = is_str kind && not type
first p.Name kind type = kind_is_name kind
first p.MaybeName kind type = kind_is_name kind
first p.Enumerator kind type = kind_is_name kind
first p.Specs kind type = type
first p.PlainSpecs kind type = type
first p.SpecWord kind type = type
first p.Typename kind type = type
first p.Member kind type = type
first p.Param kind type = type
first p.Params kind type = type
first p.Names kind type = begins_declarator kind
first p.SomeNames kind type = begins_declarator kind
first p.Entry kind type = begins_declarator kind
first p.Declared kind type = begins_declarator kind
first p.MemberNames kind type = begins_declarator kind
first p.Declarator kind type = begins_declarator kind
first p.Abstract kind type = begins_declarator kind
first p.AnyDeclarator kind type = begins_declarator kind
first p.PointerLayer kind type = kind_is_mark s.Star kind
first p.Base kind type = begins_direct kind
first p.Suffixes kind type = begins_direct kind
first p.Suffix kind type = begins_direct kind
first p.MaybeInit kind type = kind_is_mark s.Equal kind
first p.MaybeValue kind type = kind_is_mark s.Equal kind
first p.Init kind type = not (kind_is_mark s.RightBrace kind)
first p.Statement kind type = (begins_stmt kind || begins_expr kind) && not type
first p.Branch kind type = (begins_stmt kind || begins_expr kind) && not type
first p.ClosedBranch kind type = (begins_stmt kind || begins_expr kind) && not type
first p.Item kind type = type || (begins_stmt kind || begins_expr kind)
first p.Body kind type = kind_is_mark s.LeftBrace kind
first _ kind type = true

-- places of which a tree may have no words
abbrev pub nullable : Place → Bool
nullable p.Names = true
nullable p.SomeNames = true
nullable p.MaybeInit = true
nullable p.MaybeName = true
nullable p.MaybeValue = true
nullable p.Abstract = true
nullable p.AnyDeclarator = true
nullable p.Base = true
nullable p.Suffixes = true
nullable p.MaybeLength = true
nullable p.Params = true
nullable p.Items = true
nullable p.MaybeExpr = true
nullable p.Arguments = true
nullable p.Line = true
nullable p.Nowhere = true
nullable _ = false

-- What forms begin with, by their first words and parts

-- whether what begins with a kind there does not turn on types
abbrev Free : Place → Type 0
Free home = (kind : Kind) (t u : Bool) → first home kind t ≡ true → first home kind u ≡ true

abbrev Within : Place → Place → Type 0
Within a b = (kind : Kind) (type : Bool) → first a kind type ≡ true → first b kind type ≡ true

abbrev When : Bool → Type 0 → Type 0
When true T = T
When false T = ⊤

-- some words and parts lead to what a place begins with
abbrev Leads : Place → List Item → Type 0
Leads home [] = nullable home ≡ true
Leads home (Says word ∷ items) = IsNamed word × ((state : State) → first home (kind_of_word word) (starts_by (kind_of_word word) state) ≡ true)
Leads home (Here ∷ items) = Leads home items
Leads home (Part place ∷ items) = Within place home × When (nullable place) (Free home × Leads home items)

-- forms with a rule of their own on how they begin
abbrev is_ruled : Form → Bool
is_ruled f.Name = true
is_ruled f.TypedefName = true
is_ruled f.Specs = true
is_ruled _ = false

pub primary_expr : (kind : Kind) → begins_primary kind ≡ true → begins_expr kind ≡ true
unfolding begins_primary begins_expr
primary_expr (kinds.Mark s.LeftParen) h = refl
primary_expr _ h = first_of (cc, search)

or_true : (b : Bool) → (b || true) ≡ true
or_true true = refl
or_true false = refl

direct_declarator : (kind : Kind) (type : Bool) → begins_direct kind ≡ true → begins_declarator kind ≡ true
direct_declarator kind type h = ap (λ b. b || kind_is_mark s.Star kind) h

star_declarator : (kind : Kind) (type : Bool) → kind_is_mark s.Star kind ≡ true → begins_declarator kind ≡ true
star_declarator kind type h = ap (λ b. begins_direct kind || b) h ∙ or_true (begins_direct kind)

expr_stmt : (kind : Kind) (type : Bool) → (begins_expr kind && not type) ≡ true → ((begins_stmt kind || begins_expr kind) && not type) ≡ true
expr_stmt kind type h =
    let a = and_parts (begins_expr kind) (not type) h in
    and_from (begins_stmt kind || begins_expr kind) (not type) (ap (λ b. begins_stmt kind || b) a.0 ∙ or_true (begins_stmt kind)) a.1

expr_init : (kind : Kind) (type : Bool) → (begins_expr kind && not type) ≡ true → not (kind_is_mark s.RightBrace kind) ≡ true
unfolding begins_expr sign_number
expr_init (kinds.Mark s.RightBrace) type h = cc
expr_init _ type h = refl

str_primary : (kind : Kind) (type : Bool) → (is_str kind && not type) ≡ true → (begins_primary kind && not type) ≡ true
unfolding begins_primary
str_primary kinds.Str type h = h
str_primary _ type h = cc

const_primary : (kind : Kind) (type : Bool) → (is_const kind && not type) ≡ true → (begins_primary kind && not type) ≡ true
unfolding begins_primary
const_primary kinds.Int type h = h
const_primary _ type h = first_of (cc, search)

type_item : (kind : Kind) (type : Bool) → type ≡ true → (type || (begins_stmt kind || begins_expr kind)) ≡ true
type_item kind type h = ap (λ b. b || (begins_stmt kind || begins_expr kind)) h

unary_first : (op : UnaryOp) → (begins_expr (kinds.Mark (unary_sign op)) && true) ≡ true
unfolding unary_sign begins_expr
unary_first u.Address = refl
unary_first _ = refl

record_first : (sort : RecordSort) → is_spec_key (record_word sort) ≡ true
unfolding is_spec_key record_word
record_first r.Struct = refl
record_first r.Union = refl

-- each form leads to its place
leads : (form : Form) (n : ℕ) → is_ruled form ≡ false → Leads (form_home form) (shape form n)
unfolding first shape form_home begins_primary begins_expr begins_stmt begins_direct is_spec_key sign_number
leads f.Expr n h = (expr_stmt, tt)
leads f.InitExpr n h = (expr_init, tt)
leads f.Int n h = (const_primary, tt)
leads f.Char n h = (const_primary, tt)
leads f.Str n h = (str_primary, tt)
leads f.Local n h = (type_item, tt)
leads f.Direct n h = (direct_declarator, ((λ kind t u e. e), (direct_declarator, ((λ kind t u e. e), refl))))
leads (f.Unary op) n h = (tt, λ state. unary_first op)
leads (f.RecordTag sort) n h = (tt, λ state. record_first sort)
leads (f.RecordBody sort) n h = (tt, λ state. record_first sort)
leads f.Unit zero h = first_of (cc, search)
leads f.Unit (suc n) h = first_of (cc, search)
leads _ zero h = first_of (cc, search)
leads _ (suc n) h = first_of (cc, search)

-- The walk

-- a tree takes a word and begins as its place says, or it is empty and has no name
abbrev pub FirstAs : Option (List ℕ) → Place → State → List Token → Type 0
FirstAs name place state rest =
    ((first place (kind_at state) (starts_type state) ≡ true) × (length rest < length state.words))
    ⊎ ((nullable place ≡ true) × (state.words ≡ rest) × (name ≡ None))

abbrev pub FirstOf : Tree → Place → State → List Token → Type 0
FirstOf tree place state rest = FirstAs (name_of tree) place state rest

widened : (name : Option (List ℕ)) (a b : Place) (state : State) (rest : List Token) → Within a b → (nullable a ≡ true → nullable b ≡ true) → FirstAs name a state rest → FirstAs name b state rest
widened name a b state rest more empty (inl h) = inl (more (kind_at state) (starts_type state) h.0, h.1)
widened name a b state rest more empty (inr h) = inr (empty h.0, h.1, h.2)

said_leads : (home : Place) (word : Word) (pieces : List Piece) (state : State) (rest : List Token) → IsNamed word → first home (kind_of_word word) (starts_by (kind_of_word word) state) ≡ true → Spells (Said word ∷ pieces) state.words rest → (first home (kind_at state) (starts_type state) ≡ true) × (length rest < length state.words)
said_leads home word pieces state rest n h sp =
    (subst (λ kind. first home kind (starts_by kind state) ≡ true) (sym (said_kind word n pieces state.words rest sp)) h, said_shorter word pieces state.words rest sp)

key_first : (keyword : Keyword) → first (keyword_home keyword) (kinds.Key keyword) (is_spec_key keyword) ≡ true
unfolding first keyword_home is_spec_key
key_first k.Static = refl
key_first _ = refl

leaf_first : (word : Word) (state : State) (rest : List Token) → Spells (spell (Leaf word)) state.words rest → FirstOf (Leaf word) (word_home word) state rest
unfolding spell first begins_primary
leaf_first (Key keyword) state rest sp = inl (said_leads (keyword_home keyword) (Key keyword) [] state rest tt (key_first keyword) sp)
leaf_first (Other kind bytes) state rest sp = inl (refl, said_shorter (Other kind bytes) [] state.words rest sp)
leaf_first (Mark sign) state rest sp = inl (said_leads p.Nowhere (Mark sign) [] state rest tt refl sp)
leaf_first (Name bytes) state rest sp = inl (said_leads p.Name (Name bytes) [] state rest tt refl sp)
leaf_first (Int bytes) state rest sp = inl (said_leads p.Int (Int bytes) [] state rest tt refl sp)
leaf_first (Char bytes) state rest sp = inl (said_leads p.Char (Char bytes) [] state rest tt refl sp)
leaf_first (Str bytes) state rest sp = inl (said_leads p.Str (Str bytes) [] state rest tt refl sp)

line_empty : (line : ℕ) (ws rest : List Token) → Spells (spell (At line)) ws rest → ws ≡ rest
unfolding spell Spells
line_empty line [] rest h = absurd h
line_empty line (token ∷ ws) rest h = h.1

-- from the place that a tree is made for to one where it may stand

looser_first : (l level : ℕ) → l ≤ level → Within (Expression l) (Expression level)
unfolding first
looser_first zero zero le kind type g = g
looser_first zero (suc level) le kind type g =
    let a = and_parts (begins_primary kind) (not type) g in
    and_from (begins_expr kind) (not type) (primary_expr kind a.0) a.1
looser_first (suc l) zero le kind type g = absurd (omega (arith, le))
looser_first (suc l) (suc level) le kind type g = g

name_declarator : Within p.Name p.Base
unfolding first begins_direct
name_declarator kinds.Name type g = refl
name_declarator _ type g = cc

stmt_item : Within p.Statement p.Item
unfolding first
stmt_item kind true e = refl
stmt_item kind false e = (and_parts (begins_stmt kind || begins_expr kind) true e).0

declarator_first : (home : Place) (name : Option (List ℕ)) (state : State) (rest : List Token) → IsDeclarator home → FirstAs name home state rest → FirstAs name p.AnyDeclarator state rest
unfolding first
declarator_first p.PointerLayer name state rest h x = widened name p.PointerLayer p.AnyDeclarator state rest star_declarator (λ e. refl) x
declarator_first p.AnyDeclarator name state rest h x = x
declarator_first _ name state rest h x = absurd h

named_first : (name : Option (List ℕ)) (state : State) (rest : List Token) → IsSome name → FirstAs name p.AnyDeclarator state rest → FirstAs name p.Declarator state rest
unfolding first
named_first name state rest some (inl y) = inl y
named_first (Some name) state rest some (inr y) = absurd (cc y.2)
named_first None state rest some (inr y) = absurd (cc)

expression_first : (level : ℕ) (home : Place) (name : Option (List ℕ)) (state : State) (rest : List Token) → IsExpression level home → FirstAs name home state rest → FirstAs name (Expression level) state rest
expression_first level (Expression l) name state rest h x = widened name (Expression l) (Expression level) state rest (looser_first l level h) (λ e. e) x
expression_first level _ name state rest h x = absurd h

base_first : (home : Place) (name : Option (List ℕ)) (state : State) (rest : List Token) → IsBase home → FirstAs name home state rest → FirstAs name p.Base state rest
base_first p.Base name state rest h x = x
base_first p.Name name state rest h x = widened name p.Name p.Base state rest name_declarator (λ e. refl) x
base_first _ name state rest h x = absurd h

item_first : (home : Place) (name : Option (List ℕ)) (state : State) (rest : List Token) → IsItem home → FirstAs name home state rest → FirstAs name p.Item state rest
item_first p.Item name state rest h x = x
item_first p.Statement name state rest h x = widened name p.Statement p.Item state rest stmt_item (λ e. cc) x
item_first _ name state rest h x = absurd h

placed_first : (place : Place) (tree : Tree) (state : State) (rest : List Token) → Takes place tree → FirstOf tree (home tree) state rest → FirstOf tree place state rest
unfolding Takes first
placed_first (Expression level) tree state rest h x = expression_first level (home tree) (name_of tree) state rest h x
placed_first p.PlainSpecs tree state rest h x = subst (λ at. FirstOf tree at state rest) h.0 x
placed_first p.SomeNames tree state rest h x = subst (λ at. FirstOf tree at state rest) h.0 x
placed_first p.ClosedBranch tree state rest h x = subst (λ at. FirstOf tree at state rest) h.0 x
placed_first p.Branch tree state rest h x = subst (λ at. FirstOf tree at state rest) h x
placed_first p.AnyDeclarator tree state rest h x = declarator_first (home tree) (name_of tree) state rest h x
placed_first p.Abstract tree state rest h x = declarator_first (home tree) (name_of tree) state rest h.0 x
placed_first p.Declarator tree state rest h x = named_first (name_of tree) state rest h.1 (declarator_first (home tree) (name_of tree) state rest h.0 x)
placed_first p.Base tree state rest h x = base_first (home tree) (name_of tree) state rest h x
placed_first p.Item tree state rest h x = item_first (home tree) (name_of tree) state rest h x
placed_first _ tree state rest h x = subst (λ at. FirstOf tree at state rest) h x

-- a name in an expression is no type, and one that is a word of specs is one
name_seen : (a : Tree) (pieces : List Piece) (state : State) (rest : List Token) → home a ≡ p.Name → Spells (spell a ++ pieces) state.words rest → (kind_at state ≡ kinds.Name) × (is_type_name (name_of a) state.scope ≡ starts_type state) × (length rest < length state.words)
unfolding spell name_of
name_seen a pieces state rest h sp =
    let n = is_name a h in
    let said = subst (λ y. Spells (spell y ++ pieces) state.words rest) n.1 sp in
    let kind = said_kind (Name n.0) tt pieces state.words rest said in
    let bytes = said_bytes (Name n.0) pieces state.words rest said in
    (kind, ap (λ y. is_type_name (name_of y) state.scope) n.1 ∙ ap (is_type state.scope.names) (sym bytes) ∙ ap (λ q. starts_by q state) (sym kind), said_shorter (Name n.0) pieces state.words rest said)

no_words_specs : (x : Tree) → Takes p.Line x → are_specs (tally (x ▹ none)) ≡ true → ⊥
unfolding are_specs tally
no_words_specs x h g = false≢true (subst (λ y. are_specs (tally (y ▹ none)) ≡ true) (is_line x h).1 g)

-- the parts of a node lead on
abbrev Onward : Trees → State → List Token → Type 0
Onward parts state rest = (items : List Item) (home : Place) → Leads home items → AllAllowed parts (places items) state.scope → Spells (filled items (spell_all parts)) state.words rest → FirstAs (name_among parts) home state rest

line_name : (x : Tree) → Takes p.Line x → name_of x ≡ None
unfolding name_of
line_name x h = ap name_of (is_line x h).1

name_primary : (kind : Kind) → kind ≡ kinds.Name → begins_primary kind ≡ true
unfolding begins_primary
name_primary kind e = ap begins_primary e

ruled_first : (form : Form) (parts : Trees) (state : State) (rest : List Token) → is_ruled form ≡ true → Allowed (Node form parts) state.scope → Spells (spell (Node form parts)) state.words rest → Onward parts state rest → FirstOf (Node form parts) (form_home form) state rest
unfolding Allowed AllAllowed shape form_home Takes spell spell_all obeys name_of leads_to_name first is_scope
ruled_first f.TypedefName (a ▹ none) state rest r al sp on =
    let seen = name_seen a [] state rest al.1.0 sp in
    inl (sym seen.1 ∙ ap (λ name. is_type_name name state.scope) (sym (first_name_none (name_of a))) ∙ al.0, seen.2)
ruled_first f.TypedefName _ state rest r al sp on = absurd assumption
ruled_first f.Name (x ▹ a ▹ none) state rest r al sp on =
    let l = line_first x al.1.0 (spell a ++ []) state rest sp in
    let seen = name_seen a [] state rest al.1.2.0 l.1 in
    let free = ap (λ name. not (is_type_name (first_name name (first_name (name_of a) None)) state.scope)) (sym (line_name x al.1.0)) ∙ al.0 in
    inl (and_from (begins_primary (kind_at state)) (not (starts_type state)) (name_primary (kind_at state) seen.0) (ap not (sym seen.1) ∙ ap (λ name. not (is_type_name name state.scope)) (sym (first_name_none (name_of a))) ∙ free), seen.2)
ruled_first f.Name _ state rest r al sp on = absurd assumption
ruled_first f.Specs none state rest r al sp on = absurd al.1
ruled_first f.Specs (x ▹ none) state rest r al sp on = absurd (no_words_specs x al.1.0 al.0)
ruled_first f.Specs (x ▹ w ▹ more) state rest r al sp on = specs (on (shape f.Specs (count (x ▹ w ▹ more))) p.Specs ((λ kind type e. e), tt) al.1 sp) where
  specs : FirstAs (name_among (x ▹ w ▹ more)) p.Specs state rest → FirstOf (Node f.Specs (x ▹ w ▹ more)) p.Specs state rest
  specs (inl h) = inl h
  specs (inr h) = absurd (false≢true h.0)
ruled_first _ parts state rest r al sp on = absurd (cc)

node_first : (form : Form) (parts : Trees) (state : State) (rest : List Token) → Allowed (Node form parts) state.scope → Spells (spell (Node form parts)) state.words rest → Onward parts state rest → FirstOf (Node form parts) (form_home form) state rest
unfolding Allowed spell name_of
node_first form parts state rest al sp on = by (is_ruled form) refl where
  named_none : (name : Option (List ℕ)) (b : Bool) → name ≡ None → (if b then name else None) ≡ None
  named_none name true e = e
  named_none name false e = refl

  led : FirstAs (name_among parts) (form_home form) state rest → FirstOf (Node form parts) (form_home form) state rest
  led (inl h) = inl h
  led (inr h) = inr (h.0, h.1, named_none (name_among parts) (leads_to_name form) h.2)

  by : (b : Bool) → is_ruled form ≡ b → FirstOf (Node form parts) (form_home form) state rest
  by false e = led (on (shape form (count parts)) (form_home form) (leads form (count parts) e) al.1 sp)
  by true e = ruled_first form parts state rest e al sp on

-- behind an empty part, which may have changed the scope
abbrev moved_to : Scope → State → State
moved_to scope state = record { words = state.words; scope = scope; params = state.params }

behind_empty : (home : Place) (name more : Option (List ℕ)) (state : State) (scope : Scope) (rest : List Token) → Free home → name ≡ None → FirstAs more home (moved_to scope state) rest → FirstAs (first_name name more) home state rest
behind_empty home name more state scope rest free e (inl h) = inl (free (kind_at state) (starts_type (moved_to scope state)) (starts_type state) h.0, h.1)
behind_empty home name more state scope rest free e (inr h) = inr (h.0, h.1, ap (λ o. first_name o more) e ∙ h.2)

part_first : (place home : Place) (name : Option (List ℕ)) (more : Trees) (items : List Item) (state : State) (scope : Scope) (middle rest : List Token) → Within place home × When (nullable place) (Free home × Leads home items) → FirstAs name place state middle → Spells (filled items (spell_all more)) middle rest → (state.words ≡ middle → Leads home items → FirstAs (name_among more) home (moved_to scope state) rest) → FirstAs (first_name name (name_among more)) home state rest
part_first place home name more items state scope middle rest lead (inl h) sp on =
    let le = spells_shorter (filled items (spell_all more)) middle rest sp in
    let lt = h.1 in
    inl (lead.0 (kind_at state) (starts_type state) h.0, omega (arith, le, lt))
part_first place home name more items state scope middle rest lead (inr h) sp on =
    let l = subst (λ b. When b (Free home × Leads home items)) h.0 lead.1 in
    behind_empty home name (name_among more) state scope rest l.0 h.2 (on h.1 l.1)

mutual
  unfolding AllAllowed Spells spell_all name_of

  tree_first : (tree : Tree) (state : State) (rest : List Token) → Allowed tree state.scope → Spells (spell tree) state.words rest → FirstOf tree (home tree) state rest
  tree_first (Leaf word) state rest al sp = leaf_first word state rest sp
  tree_first (At line) state rest al sp = inr (refl, line_empty line state.words rest sp, refl)
  tree_first (Node form parts) state rest al sp = node_first form parts state rest al sp (λ items home lead al2 sp2. parts_first parts items home state rest lead al2 sp2)

  parts_first : (parts : Trees) (items : List Item) (home : Place) (state : State) (rest : List Token) → Leads home items → AllAllowed parts (places items) state.scope → Spells (filled items (spell_all parts)) state.words rest → FirstAs (name_among parts) home state rest
  parts_first none [] home state rest lead al sp = inr (lead, sp, refl)
  parts_first none (Says word ∷ items) home state rest lead al sp = inl (said_leads home word (filled items []) state rest lead.0 (lead.1 state) sp)
  parts_first none (Here ∷ items) home state rest lead al sp = absurd al
  parts_first none (Part place ∷ items) home state rest lead al sp = absurd al
  parts_first (tree ▹ more) [] home state rest lead al sp = absurd al
  parts_first (tree ▹ more) (Says word ∷ items) home state rest lead al sp = inl (said_leads home word (filled items (spell_all (tree ▹ more))) state rest lead.0 (lead.1 state) sp)
  parts_first (tree ▹ more) (Here ∷ items) home state rest lead al sp =
      let l = line_first tree al.0 (filled items (spell_all more)) state rest sp in
      subst (λ o. FirstAs (first_name o (name_among more)) home state rest) (sym (line_name tree al.0)) (parts_first more items home state rest lead (subst (λ sc. AllAllowed more (places items) sc) (line_scope tree al.0 state.scope) al.2) l.1)
  parts_first (tree ▹ more) (Part place ∷ items) home state rest lead al sp =
      let a = spells_split (spell tree) (filled items (spell_all more)) state.words rest sp in
      let one = placed_first place tree state a.0 al.0 (tree_first tree state a.0 al.1 a.1) in
      part_first place home (name_of tree) more items state (if is_scope place then state.scope else after tree state.scope) a.0 rest lead one a.2 (λ here lead2. parts_first more items home (moved_to (if is_scope place then state.scope else after tree state.scope) state) rest lead2 al.2 (subst (λ ws. Spells (filled items (spell_all more)) ws rest) (sym here) a.2))

-- What users ask of it

pub more_none : (pieces : List Piece) (ws rest : List Token) → Spells pieces ws rest → Spells (pieces ++ []) ws rest
more_none pieces ws rest sp = subst (λ l. Spells l ws rest) (sym (append-nil pieces)) sp

pub first_or_empty : (place : Place) (tree : Tree) (state : State) (rest : List Token) → Takes place tree → Allowed tree state.scope → Spells (spell tree) state.words rest → FirstOf tree place state rest
first_or_empty place tree state rest h al sp = placed_first place tree state rest h (tree_first tree state rest al sp)

-- a tree of a place of which none is empty, whatever stands behind it
pub begins : (place : Place) (tree : Tree) (pieces : List Piece) (state : State) (rest : List Token) → nullable place ≡ false → Takes place tree → Allowed tree state.scope → Spells (spell tree ++ pieces) state.words rest → first place (kind_at state) (starts_type state) ≡ true
begins place tree pieces state rest full h al sp =
    let a = spells_split (spell tree) pieces state.words rest sp in
    by a.0 (first_or_empty place tree state a.0 h al a.1)
  where
    by : (middle : List Token) → FirstOf tree place state middle → first place (kind_at state) (starts_type state) ≡ true
    by middle (inl x) = x.0
    by middle (inr x) = absurd (true≢false (sym x.0 ∙ full))

pub at_once : (place : Place) (tree : Tree) (state : State) (rest : List Token) → nullable place ≡ false → Takes place tree → Allowed tree state.scope → Spells (spell tree) state.words rest → first place (kind_at state) (starts_type state) ≡ true
at_once place tree state rest full h al sp = begins place tree [] state rest full h al (more_none (spell tree) state.words rest sp)

-- it takes a word
pub longer : (place : Place) (tree : Tree) (state : State) (rest : List Token) → nullable place ≡ false → Takes place tree → Allowed tree state.scope → Spells (spell tree) state.words rest → length rest < length state.words
longer place tree state rest full h al sp = by (first_or_empty place tree state rest h al sp) where
  by : FirstOf tree place state rest → length rest < length state.words
  by (inl x) = x.1
  by (inr x) = absurd (true≢false (sym x.0 ∙ full))

-- what holds of each word that a tree begins with, and of what stands behind it where it is empty
pub begins_or_end : (Is : Kind → Type 0) (place : Place) (tree : Tree) (state : State) (rest : List Token) → Takes place tree → Allowed tree state.scope → Spells (spell tree) state.words rest → (first place (kind_at state) (starts_type state) ≡ true → Is (kind_at state)) → Is (first_kind rest) → Is (kind_at state)
begins_or_end Is place tree state rest h al sp each behind = by (first_or_empty place tree state rest h al sp) where
  by : FirstOf tree place state rest → Is (kind_at state)
  by (inl x) = each x.0
  by (inr x) = subst (λ ws. Is (first_kind ws)) (sym x.1) behind

pub begins_or : (Is : Kind → Type 0) (place : Place) (tree : Tree) (pieces : List Piece) (state : State) (rest : List Token) → Takes place tree → Allowed tree state.scope → Spells (spell tree ++ pieces) state.words rest → (first place (kind_at state) (starts_type state) ≡ true → Is (kind_at state)) → ((middle : List Token) → Spells pieces middle rest → Is (first_kind middle)) → Is (kind_at state)
begins_or Is place tree pieces state rest h al sp each behind =
    let a = spells_split (spell tree) pieces state.words rest sp in
    begins_or_end Is place tree state a.0 h al a.1 each (behind a.0 a.2)

-- trees that take words are at most as many as the words
pub rows_long : (place : Place) → nullable place ≡ false → (trees : Trees) (scope : Scope) (ws rest : List Token) → AllAllowed trees (places (rows place (count trees))) scope → Spells (filled (rows place (count trees)) (spell_all trees)) ws rest → count trees ≤ length ws
unfolding AllAllowed spell_all
rows_long place full none scope ws rest al sp = omega arith
rows_long place full (tree ▹ trees) scope ws rest al sp =
    let a = spells_split (spell tree) (filled (rows place (count trees)) (spell_all trees)) ws rest sp in
    let b = longer place tree (record { words = ws; scope = scope; params = [] }) a.0 full al.0 al.1 a.1 in
    let c = rows_long place full trees (if is_scope place then scope else after tree scope) a.0 rest al.2 a.2 in
    omega (arith, b, c)

-- No expression begins as a type does.

pub expr_inj : (a b : ℕ) → Expression a ≡ Expression b → a ≡ b
expr_inj a b h = cc

pub is_expr : (level : ℕ) (place : Place) → IsExpression level place → (l : ℕ) × (place ≡ Expression l) × (l ≤ level)
is_expr level (Expression l) h = (l, refl, h)
is_expr level _ h = absurd h

-- a node that grew, taken apart
pub record GrownSplit (form : Form) (front : ℕ) (x a : Tree) (more : Trees) (state : State) (rest : List Token) : Type 0 where
  pub is : x ≡ At (line_at state)
  pub stands : Takes (Expression front) a
  pub allowed : Allowed a state.scope
  pub behind : AllAllowed more (places (drop 2 (shape form zero))) (after a state.scope)
  pub middle : List Token
  pub spelled : Spells (spell a) state.words middle
  pub last : Spells (filled (drop 2 (shape form zero)) (spell_all more)) middle rest

pub grown_split : (form : Form) (front level : ℕ) (x a : Tree) (more : Trees) (state : State) (rest : List Token) → IsGrownForm form front level → Allowed (Node form (x ▹ a ▹ more)) state.scope → Spells (spell (Node form (x ▹ a ▹ more))) state.words rest → GrownSplit form front x a more state rest
unfolding Allowed AllAllowed spell spell_all is_scope
grown_split form front level x a more state rest facts al sp =
    let items = drop 2 (shape form zero) in
    let e = facts.whole.shaped (count (x ▹ a ▹ more)) ∙ facts.starts in
    let al2 = subst (λ l. AllAllowed (x ▹ a ▹ more) (places l) state.scope) e al.1 in
    let l = line_first x al2.0 (spell a ++ filled items (spell_all more)) state rest (subst (λ l. Spells (filled l (spell_all (x ▹ a ▹ more))) state.words rest) e sp) in
    let m = spells_split (spell a) (filled items (spell_all more)) state.words rest l.1 in
    let scope = line_scope x al2.0 state.scope in
    record {
      is = l.0;
      stands = al2.2.0;
      allowed = subst (λ sc. Allowed a sc) scope al2.2.1;
      behind = subst (λ sc. AllAllowed more (places items) (after a sc)) scope al2.2.2;
      middle = m.0;
      spelled = m.1;
      last = m.2;
    }

pub front_expr : (a : Tree) (front : ℕ) → Takes (Expression front) a → (l : ℕ) × (home a ≡ Expression l) × (l ≤ front)
unfolding Takes
front_expr a front h = is_expr front (home a) h

-- a node of a line and one part
pub token_split : (place : Place) (x a : Tree) (more : Trees) (state : State) (rest : List Token) → AllAllowed (x ▹ a ▹ more) (places (Here ∷ Part place ∷ [])) state.scope → Spells (filled (Here ∷ Part place ∷ []) (spell_all (x ▹ a ▹ more))) state.words rest → (x ≡ At (line_at state)) × (more ≡ none) × Takes place a × Allowed a state.scope × Spells (spell a) state.words rest
unfolding AllAllowed spell_all Spells
token_split place x a (b ▹ more) state rest al sp = absurd al.2.2
token_split place x a none state rest al sp =
    let l = line_first x al.0 (spell a ++ []) state rest sp in
    let m = spells_split (spell a) [] state.words rest l.1 in
    (l.0, refl, al.2.0, subst (λ sc. Allowed a sc) (line_scope x al.0 state.scope) al.2.1, subst (λ ws. Spells (spell a) state.words ws) m.2 m.1)

pub strings_kind : (a : Tree) (state : State) (rest : List Token) → Takes p.Strings a → Allowed a state.scope → Spells (spell a) state.words rest → kind_at state ≡ kinds.Str
unfolding first
strings_kind a state rest h al sp = by (kind_at state) (at_once p.Strings a state rest refl h al sp) where
  by : (kind : Kind) → (is_str kind && not (starts_by kind state)) ≡ true → kind ≡ kinds.Str
  by kinds.Str g = refl
  by _ g = cc

-- what begins with a fixed word
pub word_after_line : (word : Word) (x : Tree) (pieces : List Piece) (state : State) (rest : List Token) → Takes p.Line x → IsNamed word → Spells (spell x ++ Said word ∷ pieces) state.words rest → (first_kind state.words ≡ kind_of_word word) × Spells (Said word ∷ pieces) state.words rest
word_after_line word x pieces state rest h n sp =
    let l = line_first x h (Said word ∷ pieces) state rest sp in
    (said_kind word n pieces state.words rest l.1, l.1)

-- no expression is a type
pub no_type : (level : ℕ) (a : Tree) (pieces : List Piece) (state : State) (rest : List Token) → Takes (Expression level) a → Allowed a state.scope → Spells (spell a ++ pieces) state.words rest → starts_type state ≡ false
unfolding first
no_type level a pieces state rest h al sp = not-true (starts_type state) (and_parts (begins_level level (kind_at state)) (not (starts_type state)) (begins (Expression level) a pieces state rest refl h al sp)).1

-- an expression begins as one
pub expr_kind : (level : ℕ) (a : Tree) (pieces : List Piece) (state : State) (rest : List Token) → Takes (Expression level) a → Allowed a state.scope → Spells (spell a ++ pieces) state.words rest → begins_expr (kind_at state) ≡ true
unfolding first
expr_kind level a pieces state rest h al sp = by level (and_parts (begins_level level (kind_at state)) (not (starts_type state)) (begins (Expression level) a pieces state rest refl h al sp)).0 where
  by : (l : ℕ) → begins_level l (kind_at state) ≡ true → begins_expr (kind_at state) ≡ true
  by zero g = primary_expr (kind_at state) g
  by (suc l) g = g

-- what begins a type or a declarator is not these signs
pub start_no_mark : (sign : Sign) (kind : Kind) (state : State) → starts_by kind state ≡ true → kind_is_mark sign kind ≡ false
start_no_mark sign (kinds.Mark other) state h = absurd (false≢true h)
start_no_mark sign _ state h = refl

pub name_no_mark : (sign : Sign) (kind : Kind) → kind_is_name kind ≡ true → kind_is_mark sign kind ≡ false
name_no_mark sign kinds.Name h = refl
name_no_mark sign _ h = absurd (false≢true h)

pub declarator_stops : (kind : Kind) → begins_declarator kind ≡ true → (specs_stop kind ≡ true) × (kind_is_mark s.Semicolon kind ≡ false)
unfolding begins_direct specs_stop sign_number
declarator_stops (kinds.Mark s.LeftParen) h = (refl, refl)
declarator_stops _ h = first_of (cc, search)

-- An expression that is no cast does not begin with a type in parentheses

no_open : (kind : Kind) (state : State) → kind_at state ≡ kind → kind_is_mark s.LeftParen kind ≡ false → opens_type state ≡ false
no_open kind state h n = ap (λ q. kind_is_mark s.LeftParen q && starts_type (skip state)) h ∙ ap (λ b. b && starts_type (skip state)) n

token_open : (place : Place) (x a : Tree) (more : Trees) (state : State) (rest : List Token) → ((kind : Kind) (type : Bool) → first place kind type ≡ true → kind_is_mark s.LeftParen kind ≡ false) → nullable place ≡ false → AllAllowed (x ▹ a ▹ more) (places (Here ∷ Part place ∷ [])) state.scope → Spells (filled (Here ∷ Part place ∷ []) (spell_all (x ▹ a ▹ more))) state.words rest → opens_type state ≡ false
token_open place x a more state rest each full al sp =
    let t = token_split place x a more state rest al sp in
    no_open (kind_at state) state refl (each (kind_at state) (starts_type state) (at_once place a state rest full t.2 t.3 t.4))

word_open : (word : Word) (x : Tree) (pieces : List Piece) (state : State) (rest : List Token) → IsNamed word → kind_is_mark s.LeftParen (kind_of_word word) ≡ false → Takes p.Line x → Spells (spell x ++ Said word ∷ pieces) state.words rest → opens_type state ≡ false
word_open word x pieces state rest n e h sp = no_open (kind_of_word word) state (word_after_line word x pieces state rest h n sp).0 e

unary_open : (op : UnaryOp) → kind_is_mark s.LeftParen (kinds.Mark (unary_sign op)) ≡ false
unfolding unary_sign sign_number
unary_open u.Address = refl
unary_open _ = refl

const_open : (kind : Kind) (type : Bool) → (is_const kind && not type) ≡ true → kind_is_mark s.LeftParen kind ≡ false
const_open kinds.Int type h = refl
const_open _ type h = first_of (cc, search)

str_open : (kind : Kind) (type : Bool) → (is_str kind && not type) ≡ true → kind_is_mark s.LeftParen kind ≡ false
str_open kinds.Str type h = refl
str_open _ type h = cc

name_open : (kind : Kind) (type : Bool) → kind_is_name kind ≡ true → kind_is_mark s.LeftParen kind ≡ false
name_open kinds.Name type h = refl
name_open _ type h = cc

first_open : (form : Form) (x a : Tree) (more : Trees) (state : State) (rest : List Token) → is_grown (expr_sort form) ≡ false → is_inside (expr_sort form) ≡ true → (form ≡ f.Cast → ⊥) → Allowed (Node form (x ▹ a ▹ more)) state.scope → Spells (spell (Node form (x ▹ a ▹ more))) state.words rest → opens_type state ≡ false
unfolding Allowed AllAllowed shape spell spell_all first sign_number is_scope
first_open f.Name x a more state rest g i c al sp = token_open p.Name x a more state rest name_open refl al.1 sp
first_open f.Int x a more state rest g i c al sp = token_open p.Int x a more state rest const_open refl al.1 sp
first_open f.Char x a more state rest g i c al sp = token_open p.Char x a more state rest const_open refl al.1 sp
first_open f.Str x a more state rest g i c al sp = token_open p.Strings x a more state rest str_open refl al.1 sp
first_open f.Paren x a more state rest g i c al sp =
    let tail = filled (Says (Mark s.RightParen) ∷ []) (spell_all more) in
    let w = word_after_line (Mark s.LeftParen) x (spell a ++ tail) state rest al.1.0 tt sp in
    let inside = said_first (Mark s.LeftParen) tt (spell a ++ tail) state rest w.1 in
    ap (λ b. at_mark s.LeftParen state && b) (no_type 15 a tail (skip state) rest al.1.2.0 (subst (λ sc. Allowed a sc) (line_scope x al.1.0 state.scope) al.1.2.1) inside.1) ∙ and_right (at_mark s.LeftParen state) false refl
first_open f.PreInc x a more state rest g i c al sp = word_open (Mark s.PlusPlus) x _ state rest tt refl al.1.0 sp
first_open f.PreDec x a more state rest g i c al sp = word_open (Mark s.MinusMinus) x _ state rest tt refl al.1.0 sp
first_open (f.Unary op) x a more state rest g i c al sp = word_open (Mark (unary_sign op)) x _ state rest tt (unary_open op) al.1.0 sp
first_open f.SizeofExpr x a more state rest g i c al sp = word_open (Key k.Sizeof) x _ state rest tt refl al.1.0 sp
first_open f.SizeofType x a more state rest g i c al sp = word_open (Key k.Sizeof) x _ state rest tt refl al.1.0 sp
first_open f.Cast x a more state rest g i c al sp = absurd (c refl)
first_open _ x a more state rest g i c al sp = absurd (cc)

low_sort : (form : Form) (level : ℕ) → form_home form ≡ Expression level → level ≤ 1 → (is_inside (expr_sort form) ≡ true) × (form ≡ f.Cast → ⊥)
unfolding form_home
low_sort f.Cast level h le = absurd (grind arith)
low_sort _ level h le = (first_of (cc, search), λ e. cc)

pub opens_none : (tree : Tree) (level : ℕ) (state : State) (rest : List Token) → home tree ≡ Expression level → level ≤ 1 → Allowed tree state.scope → Spells (spell tree) state.words rest → opens_type state ≡ false
unfolding Allowed
opens_none (Leaf word) level state rest h le al sp = absurd (no_word_expr word level h)
opens_none (At line) level state rest h le al sp = absurd (cc)
opens_none (Node form none) level state rest h le al sp = absurd (none_not form level state.scope h al.1)
opens_none (Node form (x ▹ none)) level state rest h le al sp = absurd (one_not form level x state.scope h al.1)
opens_none (Node form (x ▹ a ▹ more)) level state rest h le al sp = by (expr_sort form) refl (λ l st r. opens_none a l st r) where
  other : is_grown (expr_sort form) ≡ false → opens_type state ≡ false
  other g = let low = low_sort form level h le in first_open form x a more state rest g low.0 low.1 al sp

  by : (sort : Sort) → expr_sort form ≡ sort → ((l : ℕ) (st : State) (r : List Token) → home a ≡ Expression l → l ≤ 1 → Allowed a st.scope → Spells (spell a) st.words r → opens_type st ≡ false) → opens_type state ≡ false
  by (Grown front top) e ih =
      let facts = grown_as form front top e in
      let split = grown_split form front top x a more state rest facts al sp in
      let place = front_expr a front split.stands in
      let below = front_below form front top e in
      let same = expr_inj top level (sym facts.whole.home ∙ h) in
      let close = place.2 in
      ih place.0 state split.middle place.1 (omega (arith, below, same, close, le)) split.allowed split.spelled
  by Outside e ih = other (ap is_grown e)
  by Token_ e ih = other (ap is_grown e)
  by (Prefix l) e ih = other (ap is_grown e)
