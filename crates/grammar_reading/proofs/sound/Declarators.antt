-- Layers of declarators, and declarators that are read.
use Rattle.std.proofs.Common.{◌≡◌, ℕ, zero, suc, ◌<◌, Bool, true, false, List, [], ◌∷◌, replicate, Option, Some, None, refl, sym, ap, ◌∙◌, subst, arith, append-nil, ◌-◌, ◌≤◌, inl, inr, ◌++◌, take, length}
use Rattle.std.specs.Prelude.{if◌then◌else◌, ⊤, IsSome, max, not, ◌&&◌, nat_le}
use Rattle.std.proofs.lemmas.Bool.{true≢false, false≢true, leb-true, and_from}
use Rattle.c_lexer.specs.declared.token.Token.{Token}
use Rattle.c_tree.specs.Words.{Key, Word, Mark}
use Rattle.c_tree.specs.Forms.{Form}
use Rattle.c_tree.specs.Grammar.{Item, key, shape, home, Here, Part, mark, form_home, rows, word_home}
use Rattle.c_tree.specs.Places.{Place}
use Rattle.c_tree.specs.Scopes.{Scope, is_scope, places, name_of, name_among, first_name, first_list, params_of, params_among, suffix_params, leads_to_name, after, after_all, left, Known, word_name}
use Rattle.c_tree.specs.Allowed.{Takes, IsDeclarator, AllAllowed, obeys, IsBase, is_void, words_of}
use Rattle.c_tree.specs.Spelling.{spell, spell_all, filled, Spells, words, Said, Line}
use Rattle.c_tree.specs.Depth.{depth}
use Rattle.c_tree.specs.Tree.{Tree, Trees, Leaf, At, Node, none, ◌▹◌, count}
use Rattle.c_tree.specs.declared.word.Sign.{Sign}
use Rattle.c_tree.specs.declared.word.Keyword.TheVariants as k
use Rattle.c_tree.specs.declared.word.Sign.TheVariants as s
use Rattle.c_tree.specs.Forms as f
use Rattle.c_tree.specs.Places as p
use Rattle.grammar_reading.specs.State.{State, first_kind, kind_is_key, at_mark, past, keyword_number, sign_number, kind_is_mark, kind_of_word, behind_first, kind_at, line_at, word_at, bytes_at, left_at, at_key, skip, with_new_params, with_params_of, new_names}
use Rattle.grammar_reading.specs.Declarators.{leading_consts, behind_consts, past_consts}
use Rattle.grammar_reading.specs.Reading.{scoped, ◌>>=◌, Reader, fixed, snoc, parts_of, leaf, in_front}
use Rattle.grammar_reading.specs.declared.kind.Kind.{Kind}
use Rattle.grammar_reading.specs.Known.{word_of}
use Rattle.grammar_reading.specs.ReadingEquations.{none_some, some_same, bind_some}
use Rattle.grammar_reading.specs.Laws.{behind}
use Rattle.grammar_reading.specs.declared.kind.Kind.TheVariants as kinds
use Rattle.grammar_reading.specs.Declarators as d
use Rattle.grammar_reading.proofs.Forms.{Took, PartsTook, Also, Opens, has_words, has_specs, is_specs, KeepsParams, took_both, took_word, took_none, made, Sound, all_sound, parts_took, AreParams, took_one, took_line, front_some, is_line}
use Rattle.grammar_reading.proofs.Nodes.{behind_after, node_some, took_leaf, rows_snoc, rows_specs, form_took, left_inner}
use Rattle.grammar_reading.proofs.Words.{either, if_some, past_some, tells, word_back, SpellsWords, spells_words, words_both}
use Rattle.grammar_reading.proofs.sound.Specs.{after_adds, take_front}

-- a tree of a declarator: its depth is tested later
abbrev pub Layered : Place → State → Tree → State → Type 0
Layered place state tree rest = Took (suc (depth tree)) place state tree rest

pub layer_node : (inside : ℕ) (place : Place) (form : Form) (items : List Item) (state inner rest : State) (parts : Trees) → obeys form parts state.scope ≡ true → PartsTook inside items state parts inner → shape form (count parts) ≡ items → Takes place (Node form parts) → rest.words ≡ inner.words → rest.scope ≡ left form parts state.scope (after_all parts (places items) state.scope) → rest.scope.typedef ≡ state.scope.typedef → is_scope place ≡ false → Opens (has_words place) state.words → Also place state (Node form parts) rest → Layered place state (Node form parts) rest
layer_node inside place form items state inner rest parts free took shaped stands same scoped flag outside opening also =
    form_took (suc (depth (Node form parts))) inside place form items state inner rest parts took shaped free stands (omega arith) same scoped (λ e. flag) outside opening also

-- the same tree at another place
pub moved : (a b : ℕ) (from to : Place) (state : State) (tree : Tree) (rest : State) → Took a from state tree rest → depth tree < b → Takes to tree → is_scope from ≡ false → is_scope to ≡ false → is_specs from ≡ false → has_words to ≡ false → Also to state tree rest → Took b to state tree rest
moved a b from to state tree rest h deep stands outside out single opening also =
    record {
      stands = stands;
      allowed = h.allowed;
      spelled = h.spelled;
      deep = deep;
      scope = h.scope ∙ sym (behind_after from tree state.scope outside) ∙ behind_after to tree state.scope out;
      flag = λ e. h.flag single;
      opens = subst (λ t. Opens t state.words) (sym opening) tt;
      also = also;
    }

-- Sorts of declarators

abbrev pub IsSort : Place → Type 0
IsSort p.Declarator = ⊤
IsSort p.Abstract = ⊤
IsSort p.AnyDeclarator = ⊤
IsSort _ = ⊥

abbrev pub Named : Place → Option (List ℕ) → Type 0
Named p.Declarator name = IsSome name
Named p.Abstract name = name ≡ None
Named _ name = ⊤

pub sort_takes : (sort : Place) → IsSort sort → (tree : Tree) → IsDeclarator (home tree) → Named sort (name_of tree) → Takes sort tree
unfolding Takes
sort_takes p.AnyDeclarator i tree h n = h
sort_takes _ i tree h n = first_of (assumption, search)

pub takes_sort : (sort : Place) → IsSort sort → (tree : Tree) → Takes sort tree → IsDeclarator (home tree) × Named sort (name_of tree)
unfolding Takes
takes_sort p.AnyDeclarator i tree h = (h, tt)
takes_sort _ i tree h = first_of (assumption, search)

pub sort_also : (sort : Place) → IsSort sort → (state : State) (tree : Tree) (rest : State) → (at_mark s.Star state ≡ true → home tree ≡ p.PointerLayer) → KeepsParams (params_of tree) state rest → Also sort state tree rest
unfolding Also
sort_also p.AnyDeclarator i state tree rest h n = (h, n)
sort_also _ i state tree rest h n = first_of (assumption, search)

pub also_sort : (sort : Place) → IsSort sort → (state : State) (tree : Tree) (rest : State) → Also sort state tree rest → (at_mark s.Star state ≡ true → home tree ≡ p.PointerLayer) × KeepsParams (params_of tree) state rest
unfolding Also
also_sort p.AnyDeclarator i state tree rest h = h
also_sort _ i state tree rest h = first_of (assumption, search)

pub sort_outside : (sort : Place) → IsSort sort → (is_scope sort ≡ false) × (is_specs sort ≡ false) × (has_words sort ≡ false)
unfolding is_scope
sort_outside p.AnyDeclarator i = (refl, refl, refl)
sort_outside _ i = first_of (assumption, search)

-- Names and parameters through layers

pub first_name_none : (name : Option (List ℕ)) → first_name name None ≡ name
first_name_none None = refl
first_name_none (Some name) = refl

first_list_none : (parts : Option Trees) → first_list parts None ≡ parts
first_list_none None = refl
first_list_none (Some parts) = refl

pub name_behind_line : (line : ℕ) (tree : Tree) → name_among (At line ▹ tree ▹ none) ≡ name_of tree
unfolding name_of
name_behind_line line tree = first_name_none (name_of tree)

pub params_behind_line : (line : ℕ) (tree : Tree) → params_among (At line ▹ tree ▹ none) ≡ params_of tree
unfolding params_of suffix_params
params_behind_line line (Leaf word) = refl
params_behind_line line (At other) = refl
params_behind_line line (Node form parts) = first_list_none (params_of (Node form parts))

pub params_single : (tree : Tree) → params_among (tree ▹ none) ≡ params_of tree
unfolding params_of suffix_params
params_single (Leaf word) = refl
params_single (At other) = refl
params_single (Node form parts) = first_list_none (params_of (Node form parts))

-- a base that is a node, with its suffixes
pub name_direct : (base : Tree) (suffixes : Trees) → name_among (base ▹ Node f.Suffixes suffixes ▹ none) ≡ name_of base
unfolding name_of leads_to_name
name_direct base suffixes = first_name_none (name_of base)

pub params_direct : (form : Form) (parts suffixes : Trees) → params_among (Node form parts ▹ Node f.Suffixes suffixes ▹ none) ≡ params_of (Node form parts)
unfolding params_of leads_to_name
params_direct form parts suffixes = first_list_none (params_of (Node form parts))

-- The words `const`

with_words : State → List Token → State
with_words state ws = record { words = ws; scope = state.scope; params = state.params }

const_past : (state : State) (token : Token) (tokens : List Token) → kind_is_key k.Const (first_kind (token ∷ tokens)) ≡ true → past (Key k.Const) (with_words state (token ∷ tokens)) ≡ Some (with_words state tokens)
unfolding with_words
const_past state token tokens e = ap (λ b. if b then Some (with_words state tokens) else None) e

consts_from : (bound : ℕ) (state : State) (ws : List Token) → PartsTook bound (replicate (leading_consts ws) (key k.Const)) (with_words state ws) none (with_words state (behind_consts ws))
consts_from bound state [] = took_none bound (with_words state [])
consts_from bound state (token ∷ tokens) = by (kind_is_key k.Const (first_kind (token ∷ tokens))) refl (consts_from bound state tokens) where
  by : (b : Bool) → kind_is_key k.Const (first_kind (token ∷ tokens)) ≡ b → PartsTook bound (replicate (leading_consts tokens) (key k.Const)) (with_words state tokens) none (with_words state (behind_consts tokens)) → PartsTook bound (replicate (if b then suc (leading_consts tokens) else zero) (key k.Const)) (with_words state (token ∷ tokens)) none (with_words state (if b then behind_consts tokens else token ∷ tokens))
  by true e more =
      took_both bound (key k.Const ∷ []) (replicate (leading_consts tokens) (key k.Const)) (with_words state (token ∷ tokens)) (with_words state tokens) (with_words state (behind_consts tokens)) none none (took_word bound (Key k.Const) (with_words state (token ∷ tokens)) (with_words state tokens) (const_past state token tokens e)) more
  by false e more = took_none bound (with_words state (token ∷ tokens))

pub consts_took : (bound : ℕ) (state : State) → PartsTook bound (replicate (leading_consts state.words) (key k.Const)) state none (past_consts state)
unfolding with_words
consts_took bound state = consts_from bound state state.words

-- Declarators that are read.

-- More room

pub took_more : (a b : ℕ) (place : Place) (state : State) (tree : Tree) (rest : State) → Took a place state tree rest → depth tree < b → Took b place state tree rest
took_more a b place state tree rest h deep =
    record { stands = h.stands; allowed = h.allowed; spelled = h.spelled; deep = deep; scope = h.scope; flag = h.flag; opens = h.opens; also = h.also }

pub parts_more : (a b : ℕ) (items : List Item) (state : State) (parts : Trees) (rest : State) → PartsTook a items state parts rest → a ≤ b → PartsTook b items state parts rest
parts_more a b items state parts rest h le =
    let d = h.deep in
    record { allowed = h.allowed; spelled = h.spelled; deep = omega (arith, d, le); ran = λ e. let r = h.ran e in omega (arith, r, le); scope = h.scope; flag = h.flag }

-- Parameters

same_names : (flag : Bool) (state rest : State) (new : List Known) → rest.scope ≡ made (new ++ state.scope.names) flag → new_names state rest ≡ new
same_names flag state rest new e =
    ap (λ (sc : Scope). take (length sc.names - length state.scope.names) sc.names) e ∙ take_front new state.scope.names

-- the parameters of a list are what it declares
list_params : (state rest : State) (params : Tree) → rest.scope ≡ after params state.scope → (after params state.scope).typedef ≡ state.scope.typedef → AreParams state.scope.typedef (params ▹ none) (new_names state rest)
unfolding after is_scope
list_params state rest params e flag names =
    let adds = after_adds params state.scope.typedef in
    let new = same_names adds.out state rest adds.new (e ∙ adds.is state.scope.names) in
    let out : adds.out ≡ state.scope.typedef = ap (λ (sc : Scope). sc.typedef) (sym (adds.is state.scope.names)) ∙ flag in
    adds.is names ∙ ap (λ t. made (adds.new ++ names) t) out ∙ ap (λ l. made (l ++ names) state.scope.typedef) (sym new)

no_params : (state rest : State) → rest.scope ≡ state.scope → AreParams state.scope.typedef none (new_names state rest)
unfolding after
no_params state rest e names =
    ap (λ l. made (l ++ names) state.scope.typedef) (sym (same_names state.scope.typedef state rest [] e))

-- A list of the one word `void`

void_words : (ws : List Word) → is_void ws ≡ true → ws ≡ Key k.Void ∷ []
unfolding is_void
void_words (Key k.Void ∷ []) h = refl
void_words _ h = absurd (false≢true h)

void_tokens : (state : State) (rest : List Token) → SpellsWords (Mark s.LeftParen ∷ Key k.Void ∷ Mark s.RightParen ∷ []) state.words rest → (at_key k.Void (skip state) && at_mark s.RightParen (skip (skip state))) ≡ true
unfolding SpellsWords keyword_number sign_number
void_tokens state rest h = by state.words h where
  by : (ws : List Token) → SpellsWords (Mark s.LeftParen ∷ Key k.Void ∷ Mark s.RightParen ∷ []) ws rest → (kind_is_key k.Void (first_kind (behind_first ws)) && kind_is_mark s.RightParen (first_kind (behind_first (behind_first ws)))) ≡ true
  by (a ∷ b ∷ c ∷ ws) g =
      and_from (kind_is_key k.Void (kind_of_word (word_of b))) (kind_is_mark s.RightParen (kind_of_word (word_of c))) (ap (λ w. kind_is_key k.Void (kind_of_word w)) (word_back (Key k.Void) b tt g.1.0)) (ap (λ w. kind_is_mark s.RightParen (kind_of_word w)) (word_back (Mark s.RightParen) c tt g.1.1.0))
  by _ g = absurd assumption

not_void : (state rest : State) (line : ℕ) (params : Tree) → Spells (filled (shape f.FunctionSuffix zero) (spell_all (At line ▹ params ▹ none))) state.words rest.words → (at_key k.Void (skip state) && at_mark s.RightParen (skip (skip state))) ≡ false → not (is_void (words_of (At line ▹ params ▹ none))) ≡ true
unfolding shape spell
not_void state rest line params h free = by (is_void (words_of (At line ▹ params ▹ none))) refl where
  all : SpellsWords (Mark s.LeftParen ∷ words (spell params ++ Said (Mark s.RightParen) ∷ [])) state.words rest.words
  all = spells_words (Line line ∷ Said (Mark s.LeftParen) ∷ (spell params ++ Said (Mark s.RightParen) ∷ [])) state.words rest.words h

  by : (b : Bool) → is_void (words_of (At line ▹ params ▹ none)) ≡ b → not b ≡ true
  by false e = refl
  by true e =
      let one : words (spell params) ++ [] ≡ Key k.Void ∷ [] = void_words (words_of (At line ▹ params ▹ none)) e in
      let two : words (spell params) ≡ Key k.Void ∷ [] = sym (append-nil (words (spell params))) ∙ one in
      let three = subst (λ l. SpellsWords (Mark s.LeftParen ∷ l) state.words rest.words) (words_both (spell params) (Said (Mark s.RightParen) ∷ []) ∙ ap (λ l. l ++ Mark s.RightParen ∷ []) two) all in
      absurd (false≢true (sym free ∙ void_tokens state rest.words three))

-- Suffixes

pub record SuffixTook (state : State) (x : Tree × State) : Type 0 where
  pub took : Layered p.Suffix state x.0 x.1
  pub keeps : (more : Trees) → KeepsParams (suffix_params (Node f.Suffixes (x.0 ▹ more) ▹ none)) state x.1

-- the first of some parts stays the first
abbrev HeadKept : Trees → Trees → Type 0
HeadKept none parts = ⊤
HeadKept (first ▹ rest) parts = (more : Trees) × (parts ≡ first ▹ more)

head_snoc : (before parts : Trees) (tree : Tree) → HeadKept (snoc before tree) parts → HeadKept before parts
head_snoc none parts tree h = tt
head_snoc (first ▹ rest) parts tree h = h

head_self : (parts : Trees) → HeadKept parts parts
head_self none = tt
head_self (first ▹ rest) = (rest, refl)

-- suffixes so far, of some depth
abbrev SuffixesSoFar : State → Trees → State → Type 0
SuffixesSoFar start parts state = (b : ℕ) × PartsTook b (rows p.Suffix (count parts)) start parts state

suffixes_more : (start state rest : State) (parts : Trees) (tree : Tree) → SuffixesSoFar start parts state → Layered p.Suffix state tree rest → SuffixesSoFar start (snoc parts tree) rest
suffixes_more start state rest parts tree h took =
    let b = max h.0 (suc (depth tree)) in
    (b, rows_snoc b p.Suffix start state rest parts tree (parts_more h.0 b (rows p.Suffix (count parts)) start parts state h.1 (omega arith)) (took_more (suc (depth tree)) b p.Suffix state tree rest took (omega arith)))

-- behind the first one, or behind what is no name, the parameters stay
record RestTook (start : State) (before : Trees) (params : List Known) (x : Tree × State) : Type 0 where
  parts : Trees
  made : x.0 ≡ Node f.Suffixes parts
  took : SuffixesSoFar start parts x.1
  head : HeadKept before parts
  stays : x.1.params ≡ params

kept_params : (state : State) (tree : Tree) (rest before : State) → Layered p.Suffix state tree rest → Layered p.Suffix state tree (with_params_of before rest)
unfolding Also
kept_params state tree rest before h =
    record { stands = h.stands; allowed = h.allowed; spelled = h.spelled; deep = h.deep; scope = h.scope; flag = h.flag; opens = h.opens; also = tt }

-- the one part is a line
only_line : (parts : Trees) (scope : Scope) → AllAllowed parts (p.Line ∷ []) scope → after_all parts (p.Line ∷ []) scope ≡ scope
unfolding AllAllowed after is_scope Takes
only_line (tree ▹ none) scope h = ap (λ x. after x scope) (is_line tree h.0).1
only_line _ scope h = absurd assumption

-- a line and one part
pub line_one : (parts : Trees) (place : Place) (scope : Scope) → AllAllowed parts (p.Line ∷ place ∷ []) scope → (line : ℕ) × (tree : Tree) × (parts ≡ At line ▹ tree ▹ none)
unfolding AllAllowed Takes
line_one (x ▹ tree ▹ none) place scope h = let l = is_line x h.0 in (l.0, tree, ap (λ y. y ▹ tree ▹ none) l.1)
line_one _ place scope h = absurd assumption

pub keeps_same : (o : Option Trees) (state a b : State) → b.params ≡ a.params → KeepsParams o state a → KeepsParams o state b
keeps_same None state a b e h = tt
keeps_same (Some parts) state a b e h = subst (λ ps. AreParams state.scope.typedef parts ps) (sym e) h

mark_past : (sign : Sign) (state : State) → at_mark sign state ≡ true → past (Mark sign) state ≡ Some (skip state)
mark_past sign state e = ap (λ b. if b then Some (skip state) else None) e

-- what was read behind a base
record DirectSuffixes (start : State) (first : Bool) (x : Tree × State) : Type 0 where
  parts : Trees
  made : x.0 ≡ Node f.Suffixes parts
  took : SuffixesSoFar start parts x.1
  keeps : first ≡ true → KeepsParams (suffix_params (Node f.Suffixes parts ▹ none)) start x.1
  stays : first ≡ false → x.1.params ≡ start.params

pub record BaseTook (sort : Place) (state : State) (x : Tree × State) : Type 0 where
  pub took : Layered p.Base state x.0 x.1
  named : Named sort (name_of x.0)
  keeps : d.is_leaf x.0 ≡ false → KeepsParams (params_of x.0) state x.1

name_named : (sort : Place) → d.may_name sort ≡ true → IsSort sort → (bytes : List ℕ) → Named sort (Some bytes)
name_named p.AnyDeclarator m i bytes = tt
name_named _ m i bytes = first_of (assumption, cc)

none_named : (sort : Place) → d.must_name sort ≡ false → IsSort sort → Named sort None
none_named p.AnyDeclarator m i = tt
none_named _ m i = first_of (assumption, search, cc)

name_base : (state : State) → kind_at state ≡ kinds.Name → Layered p.Base state (Leaf (word_at state)) (skip state)
unfolding Takes is_scope Also
name_base state h =
    let t = tells kinds.Name state.words h in
    took_leaf (suc (depth (Leaf (word_at state)))) p.Base state t.0 (omega arith) (subst (λ w. IsBase (word_home w)) (sym t.1) tt) refl (λ has. tt) tt

no_base_node : (state : State) → Layered p.Base state (Node f.Nothing none) state
unfolding shape form_home Takes is_scope Also obeys left after
no_base_node state = layer_node 1 p.Base f.Nothing [] state state state none refl (took_none 1 state) refl tt refl refl refl refl tt tt

pub same_flag : (o : Option Trees) (a b rest : State) → a.scope.typedef ≡ b.scope.typedef → KeepsParams o a rest → KeepsParams o b rest
same_flag None a b rest e h = tt
same_flag (Some parts) a b rest e h = subst (λ t. AreParams t parts rest.params) e h

open_mark : (kind : Kind) → kind ≡ kinds.Mark s.LeftParen → kind_is_mark s.LeftParen kind ≡ true
unfolding sign_number
open_mark kind e = ap (kind_is_mark s.LeftParen) e

no_specs_consts : (n : ℕ) → has_specs (places (replicate n (key k.Const) ++ Part p.AnyDeclarator ∷ [])) ≡ false
no_specs_consts zero = refl
no_specs_consts (suc n) = no_specs_consts n

-- the parameters of a base with its suffixes
direct_keeps : (base : Tree) (suffixes : Trees) (state middle rest : State) → IsBase (home base) → middle.scope.typedef ≡ state.scope.typedef → (d.is_leaf base ≡ false → KeepsParams (params_of base) state middle) → (d.is_leaf base ≡ true → KeepsParams (suffix_params (Node f.Suffixes suffixes ▹ none)) middle rest) → (d.is_leaf base ≡ false → rest.params ≡ middle.params) → KeepsParams (params_among (base ▹ Node f.Suffixes suffixes ▹ none)) state rest
unfolding params_of suffix_params
direct_keeps (Leaf word) suffixes state middle rest is flag inside behind stays = same_flag (suffix_params (Node f.Suffixes suffixes ▹ none)) middle state rest flag (behind refl)
direct_keeps (At line) suffixes state middle rest is flag inside behind stays = absurd is
direct_keeps (Node form parts) suffixes state middle rest is flag inside behind stays =
    subst (λ o. KeepsParams o state rest) (sym (params_direct form parts suffixes)) (keeps_same (params_of (Node form parts)) state middle rest (stays refl) (inside refl))

module _ (inner : Place → Reader) (room : ℕ) (deeper : (place : Place) → Sound room place (inner place)) where
  pub array_took : (state : State) (x : Tree × State) → fixed inner f.ArraySuffix state ≡ Some x → SuffixTook state x
  unfolding shape form_home Takes is_scope Also obeys left suffix_params
  array_took state x h =
      let a = node_some f.ArraySuffix (parts_of inner (shape f.ArraySuffix zero) state) x h in
      let b = (parts_took room inner (shape f.ArraySuffix zero) (all_sound room inner deeper (shape f.ArraySuffix zero)) refl state a.0 a.1).0 in
      subst (λ (z : Tree × State). SuffixTook state z) (some_same a.2) (record {
        took = layer_node room p.Suffix f.ArraySuffix (shape f.ArraySuffix zero) state a.0.1 a.0.1 a.0.0 refl b refl refl refl (left_inner room (shape f.ArraySuffix zero) state a.0.1 a.0.0 b refl) (b.flag refl) refl tt tt;
        keeps = λ more. tt;
      })

  void_took : (state : State) (y : Trees × State) → parts_of inner (shape f.VoidSuffix zero) state ≡ Some y → SuffixTook state (Node f.VoidSuffix y.0, with_new_params state y.1)
  unfolding shape form_home Takes is_scope Also obeys left suffix_params
  void_took state y h =
      let b = (parts_took room inner (shape f.VoidSuffix zero) tt refl state y h).0 in
      let same = only_line y.0 state.scope b.allowed in
      record {
        took = layer_node room p.Suffix f.VoidSuffix (shape f.VoidSuffix zero) state y.1 (with_new_params state y.1) y.0 refl b refl refl refl (ap (λ (sc : Scope). made sc.names state.scope.typedef) (sym same)) refl refl tt tt;
        keeps = λ more. no_params state y.1 (b.scope ∙ same);
      }

  params_took : (state : State) (y : Trees × State) → d.is_void_list state ≡ false → parts_of inner (shape f.FunctionSuffix zero) state ≡ Some y → SuffixTook state (Node f.FunctionSuffix y.0, with_new_params state y.1)
  unfolding shape form_home Takes is_scope Also obeys left suffix_params after
  params_took state y free h =
      let b = (parts_took room inner (shape f.FunctionSuffix zero) (all_sound room inner deeper (shape f.FunctionSuffix zero)) refl state y h).0 in
      let c = line_one y.0 p.Params state.scope b.allowed in
      let took = subst (λ parts. PartsTook room (shape f.FunctionSuffix zero) state parts y.1) c.2 b in
      let rest : State = with_new_params state y.1 in
      subst (λ parts. SuffixTook state (Node f.FunctionSuffix parts, rest)) (sym c.2) (record {
        took = layer_node room p.Suffix f.FunctionSuffix (shape f.FunctionSuffix zero) state y.1 rest (At c.0 ▹ c.1 ▹ none) (not_void state y.1 c.0 c.1 took.spelled free) took refl refl refl refl refl refl tt tt;
        keeps = λ more. list_params state y.1 c.1 took.scope (ap (λ (sc : Scope). sc.typedef) (sym took.scope) ∙ took.flag refl);
      })

  pub function_took : (state : State) (x : Tree × State) → d.function_suffix_at inner room state ≡ Some x → SuffixTook state x
  function_took state x h = elim (either (d.is_void_list state) (fixed inner f.VoidSuffix state >>= (λ (y : Tree × State). Some (y.0, with_new_params state y.1))) (fixed inner f.FunctionSuffix state >>= (λ (y : Tree × State). Some (y.0, with_new_params state y.1))) x h) [
    | inl a ↦
        let b = bind_some (fixed inner f.VoidSuffix state) (λ (y : Tree × State). Some (y.0, with_new_params state y.1)) x a.1 in
        let c = node_some f.VoidSuffix (parts_of inner (shape f.VoidSuffix zero) state) b.0 b.1 in
        subst (λ (z : Tree × State). SuffixTook state z) (some_same b.2) (subst (λ (z : Tree × State). SuffixTook state (z.0, with_new_params state z.1)) (some_same c.2) (void_took state c.0 c.1))
    | inr a ↦
        let b = bind_some (fixed inner f.FunctionSuffix state) (λ (y : Tree × State). Some (y.0, with_new_params state y.1)) x a.1 in
        let c = node_some f.FunctionSuffix (parts_of inner (shape f.FunctionSuffix zero) state) b.0 b.1 in
        subst (λ (z : Tree × State). SuffixTook state z) (some_same b.2) (subst (λ (z : Tree × State). SuffixTook state (z.0, with_new_params state z.1)) (some_same c.2) (params_took state c.0 a.0 c.1))
  ]

  rest_by : (turns : ℕ) (kind : Kind) (start state : State) (parts : Trees) (x : Tree × State) → SuffixesSoFar start parts state → ((more : Trees) (next : State) → SuffixesSoFar start more next → d.suffixes_from inner room turns false more next ≡ Some x → RestTook start more next.params x) → d.suffixes_by inner room (d.suffixes_from inner room turns) false parts kind state ≡ Some x → RestTook start parts state.params x
  rest_by turns (kinds.Mark s.LeftBracket) start state parts x far again h =
      let a = bind_some (fixed inner f.ArraySuffix state) (λ (y : Tree × State). d.suffixes_from inner room turns false (snoc parts y.0) (with_params_of state y.1)) x h in
      let took = kept_params state a.0.0 a.0.1 state (array_took state a.0 a.1).took in
      let r = again (snoc parts a.0.0) (with_params_of state a.0.1) (suffixes_more start state (with_params_of state a.0.1) parts a.0.0 far took) a.2 in
      record { parts = r.parts; made = r.made; took = r.took; head = head_snoc parts r.parts a.0.0 r.head; stays = r.stays }
  rest_by turns (kinds.Mark s.LeftParen) start state parts x far again h =
      let a = bind_some (d.function_suffix_at inner room state) (λ (y : Tree × State). d.suffixes_from inner room turns false (snoc parts y.0) (with_params_of state y.1)) x h in
      let took = kept_params state a.0.0 a.0.1 state (function_took state a.0 a.1).took in
      let r = again (snoc parts a.0.0) (with_params_of state a.0.1) (suffixes_more start state (with_params_of state a.0.1) parts a.0.0 far took) a.2 in
      record { parts = r.parts; made = r.made; took = r.took; head = head_snoc parts r.parts a.0.0 r.head; stays = r.stays }
  rest_by turns _ start state parts x far again h =
      subst (λ (z : Tree × State). RestTook start parts state.params z) (some_same h) (record { parts = parts; made = refl; took = far; head = head_self parts; stays = refl })

  rest_took : (turns : ℕ) (start state : State) (parts : Trees) (x : Tree × State) → SuffixesSoFar start parts state → d.suffixes_from inner room turns false parts state ≡ Some x → RestTook start parts state.params x
  rest_took zero start state parts x far h = none_some h
  rest_took (suc turns) start state parts x far h =
      rest_by turns (kind_at state) start state parts x far (λ more next longer g. rest_took turns start next more x longer g) h

  one_suffix : (state : State) (x : Tree × State) → SuffixTook state x → SuffixesSoFar state (x.0 ▹ none) x.1
  one_suffix state x h = (suc (depth x.0), took_one (suc (depth x.0)) p.Suffix state x.1 x.0 h.took)

  -- the first suffix of a name, and those behind it
  first_suffix : (turns : ℕ) (state : State) (y x : Tree × State) → SuffixTook state y → d.suffixes_from inner room turns false (y.0 ▹ none) y.1 ≡ Some x → DirectSuffixes state true x
  first_suffix turns state y x took h =
      let r = rest_took turns state y.1 (y.0 ▹ none) x (one_suffix state y took) h in
      record {
        parts = r.parts;
        made = r.made;
        took = r.took;
        keeps = λ e. keeps_same (suffix_params (Node f.Suffixes r.parts ▹ none)) state y.1 x.1 r.stays (subst (λ parts. KeepsParams (suffix_params (Node f.Suffixes parts ▹ none)) state y.1) (sym r.head.1) (took.keeps r.head.0));
        stays = λ e. absurd (true≢false e);
      }

  first_by : (turns : ℕ) (kind : Kind) (state : State) (x : Tree × State) → d.suffixes_by inner room (d.suffixes_from inner room turns) true none kind state ≡ Some x → DirectSuffixes state true x
  unfolding suffix_params
  first_by turns (kinds.Mark s.LeftBracket) state x h =
      let a = bind_some (fixed inner f.ArraySuffix state) (λ (y : Tree × State). d.suffixes_from inner room turns false (y.0 ▹ none) y.1) x h in
      first_suffix turns state a.0 x (array_took state a.0 a.1) a.2
  first_by turns (kinds.Mark s.LeftParen) state x h =
      let a = bind_some (d.function_suffix_at inner room state) (λ (y : Tree × State). d.suffixes_from inner room turns false (y.0 ▹ none) y.1) x h in
      first_suffix turns state a.0 x (function_took state a.0 a.1) a.2
  first_by turns _ state x h =
      subst (λ (z : Tree × State). DirectSuffixes state true z) (some_same h) (record { parts = none; made = refl; took = (1, took_none 1 state); keeps = λ e. tt; stays = λ e. absurd (true≢false e) })

  suffixes_took : (first : Bool) (turns : ℕ) (state : State) (x : Tree × State) → d.suffixes_from inner room (suc turns) first none state ≡ Some x → DirectSuffixes state first x
  suffixes_took true turns state x h = first_by turns (kind_at state) state x h
  suffixes_took false turns state x h =
      let r = rest_took (suc turns) state state none x (1, took_none 1 state) h in
      record { parts = r.parts; made = r.made; took = r.took; keeps = λ e. absurd (false≢true e); stays = λ e. r.stays }

  -- Bases

  nothing_took : (sort : Place) → IsSort sort → (state : State) (x : Tree × State) → d.no_base sort state ≡ Some x → BaseTook sort state x
  unfolding name_of leads_to_name params_of
  nothing_took sort i state x h = by (d.must_name sort) refl h where
    by : (b : Bool) → d.must_name sort ≡ b → (if b then None else Some (Node f.Nothing none, state)) ≡ Some x → BaseTook sort state x
    by true e g = none_some g
    by false e g = subst (λ (z : Tree × State). BaseTook sort state z) (some_same g) (record { took = no_base_node state; named = none_named sort e i; keeps = λ l. tt })

  parens_took : (sort : Place) → IsSort sort → (state : State) (x : Tree × State) → at_mark s.LeftParen state ≡ true → at_mark s.Star (skip state) ≡ true → fixed (d.same_sort inner room sort) f.Parens state ≡ Some x → BaseTook sort state x
  unfolding shape form_home Takes is_scope Also obeys left after name_of leads_to_name params_of
  parens_took sort i state x open_ star h =
      let part = d.same_sort inner room sort in
      let a = node_some f.Parens (parts_of part (shape f.Parens zero) state) x h in
      let b = front_some (At (line_at state)) (parts_of part (mark s.LeftParen ∷ Part p.PointerLayer ∷ mark s.RightParen ∷ []) state) a.0 a.1 in
      let c = bind_some (past (Mark s.LeftParen) state) (λ next. parts_of part (Part p.PointerLayer ∷ mark s.RightParen ∷ []) next) b.0 b.1 in
      let opened = past_some (Mark s.LeftParen) state c.0 c.1 in
      let e = bind_some (inner sort c.0) (λ (y : Tree × State). in_front y.0 (parts_of part (mark s.RightParen ∷ []) y.1)) b.0 c.2 in
      let g = front_some e.0.0 (parts_of part (mark s.RightParen ∷ []) e.0.1) b.0 e.2 in
      let l = bind_some (past (Mark s.RightParen) e.0.1) (λ next. Some (none, next)) g.0 g.1 in
      let took = deeper sort c.0 e.0 e.1 in
      let sorts = takes_sort sort i e.0.0 took.stands in
      let more = also_sort sort i c.0 e.0.0 e.0.1 took.also in
      let out = sort_outside sort i in
      let layer = more.0 (ap (λ (st : State). at_mark s.Star st) (sym opened.2) ∙ star) in
      let one = moved room room sort p.PointerLayer c.0 e.0.0 e.0.1 took took.deep layer out.0 refl out.1 refl tt in
      let close = took_word room (Mark s.RightParen) e.0.1 l.0 l.1 in
      let tail = took_both room (Part p.PointerLayer ∷ []) (mark s.RightParen ∷ []) c.0 e.0.1 l.0 (e.0.0 ▹ none) none (took_one room p.PointerLayer c.0 e.0.1 e.0.0 one) close in
      let rest = took_both room (mark s.LeftParen ∷ []) (Part p.PointerLayer ∷ mark s.RightParen ∷ []) state c.0 l.0 none (e.0.0 ▹ none) (took_word room (Mark s.LeftParen) state c.0 c.1) tail in
      let all = took_both room (Here ∷ []) (mark s.LeftParen ∷ Part p.PointerLayer ∷ mark s.RightParen ∷ []) state state l.0 (At (line_at state) ▹ none) (e.0.0 ▹ none) (took_line room state opened.0) rest in
      let parts = At (line_at state) ▹ e.0.0 ▹ none in
      let base : BaseTook sort state (Node f.Parens parts, l.0) = record {
        took = layer_node room p.Base f.Parens (shape f.Parens zero) state l.0 l.0 parts refl all refl tt refl (left_inner room (shape f.Parens zero) state l.0 parts all refl) (all.flag refl) refl tt tt;
        named = subst (λ name. Named sort name) (sym (name_behind_line (line_at state) e.0.0)) sorts.1;
        keeps = λ leaf. subst (λ o. KeepsParams o state l.0) (sym (params_behind_line (line_at state) e.0.0)) (keeps_same (params_of e.0.0) state e.0.1 l.0 (ap (λ (st : State). st.params) (sym (past_some (Mark s.RightParen) e.0.1 l.0 l.1).2)) (same_flag (params_of e.0.0) c.0 state e.0.1 (ap (λ (st : State). st.scope.typedef) (sym opened.2)) more.1));
      } in
      let P : Trees × State → Type 0 = λ y. BaseTook sort state (Node f.Parens y.0, y.1) in
      let Q : Trees × State → Type 0 = λ y. BaseTook sort state (Node f.Parens (At (line_at state) ▹ y.0), y.1) in
      let R : Trees × State → Type 0 = λ y. BaseTook sort state (Node f.Parens (At (line_at state) ▹ e.0.0 ▹ y.0), y.1) in
      subst (λ (z : Tree × State). BaseTook sort state z) (some_same a.2) (subst P (some_same b.2) (subst Q (some_same g.2) (subst R (some_same l.2) base)))

  base_by_took : (sort : Place) → IsSort sort → (kind : Kind) (state : State) (x : Tree × State) → kind_at state ≡ kind → d.base_by inner room sort kind state ≡ Some x → BaseTook sort state x
  unfolding name_of
  base_by_took sort i kinds.Name state x h g = elim (either (d.may_name sort) (leaf state) (d.no_base sort state) x g) [
    | inl a ↦ subst (λ (z : Tree × State). BaseTook sort state z) (some_same a.1) (record {
      took = name_base state h;
      named = subst (λ w. Named sort (word_name w)) (sym (tells kinds.Name state.words h).1) (name_named sort a.0 i (bytes_at state));
      keeps = λ l. absurd (true≢false l);
    })
    | inr a ↦ nothing_took sort i state x a.1
  ]
  base_by_took sort i (kinds.Mark s.LeftParen) state x h g = elim (either (at_mark s.Star (skip state)) (fixed (d.same_sort inner room sort) f.Parens state) (d.no_base sort state) x g) [
    | inl a ↦ parens_took sort i state x (open_mark (kind_at state) h) a.0 a.1
    | inr a ↦ nothing_took sort i state x a.1
  ]
  base_by_took sort i _ state x h g = nothing_took sort i state x g

  pub base_took : (sort : Place) → IsSort sort → (state : State) (x : Tree × State) → d.base_at inner room sort state ≡ Some x → BaseTook sort state x
  base_took sort i state x h = base_by_took sort i (kind_at state) state x refl h

  -- Whole declarators

  direct_node : (sort : Place) → IsSort sort → (state middle rest : State) (base : Tree) (x : Tree × State) → at_mark s.Star state ≡ false → BaseTook sort state (base, middle) → DirectSuffixes middle (d.is_leaf base) x → Layered sort state (Node f.Direct (base ▹ x.0 ▹ none)) x.1
  unfolding shape form_home Takes is_scope Also obeys left after name_of leads_to_name params_of
  direct_node sort i state middle rest base x star b sfx =
      let n = sfx.took.0 in
      let suffixes = layer_node n p.Suffixes f.Suffixes (rows p.Suffix (count sfx.parts)) middle x.1 x.1 sfx.parts refl sfx.took.1 refl refl refl (left_inner n (rows p.Suffix (count sfx.parts)) middle x.1 sfx.parts sfx.took.1 (rows_specs p.Suffix (count sfx.parts) refl)) (sfx.took.1.flag (rows_specs p.Suffix (count sfx.parts) refl)) refl tt tt in
      let bound = max (suc (depth base)) (suc (depth (Node f.Suffixes sfx.parts))) in
      let first = took_one bound p.Base state middle base (took_more (suc (depth base)) bound p.Base state base middle b.took (omega arith)) in
      let second = took_one bound p.Suffixes middle x.1 (Node f.Suffixes sfx.parts) (took_more (suc (depth (Node f.Suffixes sfx.parts))) bound p.Suffixes middle (Node f.Suffixes sfx.parts) x.1 suffixes (omega arith)) in
      let parts = base ▹ Node f.Suffixes sfx.parts ▹ none in
      let all = took_both bound (Part p.Base ∷ []) (Part p.Suffixes ∷ []) state middle x.1 (base ▹ none) (Node f.Suffixes sfx.parts ▹ none) first second in
      let out = sort_outside sort i in
      let stands = sort_takes sort i (Node f.Direct parts) tt (subst (λ name. Named sort name) (sym (name_direct base sfx.parts)) b.named) in
      let keeps : KeepsParams (params_of (Node f.Direct parts)) state x.1 = direct_keeps base sfx.parts state middle x.1 b.took.stands (b.took.flag refl) b.keeps sfx.keeps sfx.stays in
      let also = sort_also sort i state (Node f.Direct parts) x.1 (λ e. absurd (false≢true (sym star ∙ e))) keeps in
      subst (λ t. Layered sort state (Node f.Direct (base ▹ t ▹ none)) x.1) (sym sfx.made) (layer_node bound sort f.Direct (Part p.Base ∷ Part p.Suffixes ∷ []) state x.1 x.1 parts refl all refl stands refl (left_inner bound (Part p.Base ∷ Part p.Suffixes ∷ []) state x.1 parts all refl) (all.flag refl) out.0 (subst (λ t. Opens t state.words) (sym out.2) tt) also)

  direct_took : (sort : Place) → IsSort sort → (state : State) (x : Tree × State) → at_mark s.Star state ≡ false → d.direct_at inner room sort state ≡ Some x → Layered sort state x.0 x.1
  direct_took sort i state x star h =
      let a = bind_some (d.base_at inner room sort state) (λ (base : Tree × State). d.suffixes_from inner room (suc (left_at base.1)) (d.is_leaf base.0) none base.1 >>= (λ (y : Tree × State). Some (Node f.Direct (base.0 ▹ y.0 ▹ none), y.1))) x h in
      let b = bind_some (d.suffixes_from inner room (suc (left_at a.0.1)) (d.is_leaf a.0.0) none a.0.1) (λ (y : Tree × State). Some (Node f.Direct (a.0.0 ▹ y.0 ▹ none), y.1)) x a.2 in
      subst (λ (z : Tree × State). Layered sort state z.0 z.1) (some_same b.2) (direct_node sort i state a.0.1 b.0.1 a.0.0 b.0 star (base_took sort i state a.0 a.1) (suffixes_took (d.is_leaf a.0.0) (left_at a.0.1) a.0.1 b.0 b.1))

  pointer_took : (sort : Place) → IsSort sort → (state : State) (x : Tree × State) → at_mark s.Star state ≡ true → d.pointer_at inner room sort state ≡ Some x → Layered sort state x.0 x.1
  unfolding shape form_home Takes is_scope Also obeys left after name_of leads_to_name params_of
  pointer_took sort i state x star h =
      let n = d.leading_consts (behind_first state.words) in
      let a = bind_some (inner sort (d.past_consts (skip state))) (λ (y : Tree × State). Some (Node (f.Pointer n) (At (line_at state) ▹ y.0 ▹ none), y.1)) x h in
      let took = deeper sort (d.past_consts (skip state)) a.0 a.1 in
      let sorts = takes_sort sort i a.0.0 took.stands in
      let more = also_sort sort i (d.past_consts (skip state)) a.0.0 a.0.1 took.also in
      let out = sort_outside sort i in
      let one = moved room room sort p.AnyDeclarator (d.past_consts (skip state)) a.0.0 a.0.1 took took.deep sorts.0 out.0 refl out.1 refl more in
      let passed = mark_past s.Star state star in
      let items = replicate n (key k.Const) ++ Part p.AnyDeclarator ∷ [] in
      let tail = took_both room (replicate n (key k.Const)) (Part p.AnyDeclarator ∷ []) (skip state) (d.past_consts (skip state)) a.0.1 none (a.0.0 ▹ none) (consts_took room (skip state)) (took_one room p.AnyDeclarator (d.past_consts (skip state)) a.0.1 a.0.0 one) in
      let rest = took_both room (mark s.Star ∷ []) items state (skip state) a.0.1 none (a.0.0 ▹ none) (took_word room (Mark s.Star) state (skip state) passed) tail in
      let all = took_both room (Here ∷ []) (mark s.Star ∷ items) state state a.0.1 (At (line_at state) ▹ none) (a.0.0 ▹ none) (took_line room state (past_some (Mark s.Star) state (skip state) passed).0) rest in
      let parts = At (line_at state) ▹ a.0.0 ▹ none in
      let tree = Node (f.Pointer n) parts in
      let stands = sort_takes sort i tree tt (subst (λ name. Named sort name) (sym (name_behind_line (line_at state) a.0.0)) sorts.1) in
      let keeps = subst (λ o. KeepsParams o state a.0.1) (sym (params_behind_line (line_at state) a.0.0)) (same_flag (params_of a.0.0) (d.past_consts (skip state)) state a.0.1 refl more.1) in
      let also = sort_also sort i state tree a.0.1 (λ e. refl) keeps in
      let single = no_specs_consts n in
      subst (λ (z : Tree × State). Layered sort state z.0 z.1) (some_same a.2) (layer_node room sort (f.Pointer n) (Here ∷ mark s.Star ∷ items) state a.0.1 a.0.1 parts refl all refl stands refl (left_inner room (Here ∷ mark s.Star ∷ items) state a.0.1 parts all single) (all.flag single) out.0 (subst (λ t. Opens t state.words) (sym out.2) tt) also)

  pub declarator_took : (sort : Place) → IsSort sort → Sound (suc room) sort (d.declarator_at inner room sort)
  declarator_took sort i state x h =
      let a = bind_some (d.layers_at inner room sort state) (λ (y : Tree × State). if nat_le (depth y.0) room then Some y else None) x h in
      let b = if_some (nat_le (depth a.0.0) room) (Some a.0) x a.2 in
      let deep = leb-true (depth a.0.0) room b.0 in
      let layered : Layered sort state a.0.0 a.0.1 = elim (either (at_mark s.Star state) (d.pointer_at inner room sort state) (d.direct_at inner room sort state) a.0 a.1) [
        | inl c ↦ pointer_took sort i state a.0 c.0 c.1
        | inr c ↦ direct_took sort i state a.0 c.0 c.1
      ] in
      subst (λ (z : Tree × State). Took (suc room) sort state z.0 z.1) (some_same b.1) (took_more (suc (depth a.0.0)) (suc room) sort state a.0.0 a.0.1 layered (omega (arith, deep)))
