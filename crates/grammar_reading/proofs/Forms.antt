-- What it is to have read a tree and some parts, and forms by what they do, by their place, and as expressions. A new form is
-- one more row of a table here at most: what the tables say is proved for each row alike.
use Rattle.std.proofs.Common.{◌≡◌, ℕ, ◌+◌, ◌<◌, Bool, true, false, List, [], ◌∷◌, ◌++◌, Option, Some, None, refl, sym, ap, ◌∙◌, subst, arith, append_assoc, zero, ◌≤◌, drop}
use Rattle.std.specs.Prelude.{max, if◌then◌else◌, ⊤, not, ◌&&◌, ◌||◌}
use Rattle.std.proofs.lemmas.Bool.{and_parts, or_parts, true≢false}
use Rattle.c_lexer.specs.declared.token.Token.{Token}
use Rattle.c_tree.specs.Words.{Word, Key, Name, Int, Char, Str}
use Rattle.c_tree.specs.Places.{Place, Expression}
use Rattle.c_tree.specs.Tree.{Tree, Trees, At, none, ◌▹◌, Leaf, Node}
use Rattle.c_tree.specs.Grammar.{Item, Says, Here, Part, home, shape, form_home, word_home, keyword_home}
use Rattle.c_tree.specs.Spelling.{Said, spell, spell_all, filled, Spells, words}
use Rattle.c_tree.specs.Scopes.{Known, Scope, is_scope, places, after, after_all, params_of, left}
use Rattle.c_tree.specs.Allowed.{Takes, Allowed, AllAllowed, ends_open, obeys}
use Rattle.c_tree.specs.Depth.{depth, greatest_depth, layers, below, weight, is_of_declarator}
use Rattle.c_tree.specs.declared.operator.BinaryOp.{BinaryOp}
use Rattle.c_tree.specs.declared.operator.AssignOp.{AssignOp}
use Rattle.c_tree.specs.declared.word.Keyword.{Keyword}
use Rattle.c_tree.specs.declared.word.Sign.{Sign}
use Rattle.c_tree.specs.Forms.{Form}
use Rattle.c_tree.specs.Operators.{operand_level, binary_level}
use Rattle.c_tree.specs.declared.word.Keyword.TheVariants as k
use Rattle.c_tree.specs.declared.word.Sign.TheVariants as s
use Rattle.c_tree.specs.Places as p
use Rattle.c_tree.specs.declared.operator.BinaryOp.TheVariants as b
use Rattle.c_tree.specs.Forms as f
use Rattle.grammar_reading.specs.State.{State, past, line_at, word_at, skip, at_key, at_mark}
use Rattle.grammar_reading.specs.Reading.{Reader, parts_of, in_front, joined, node}
use Rattle.grammar_reading.specs.Laws.{behind}
use Rattle.grammar_reading.specs.ReadingEquations.{none_some, some_same, bind_some}
use Rattle.grammar_reading.specs.Rooms.{read}
use Rattle.grammar_reading.specs.Expressions.{unary_op, postfix_op}
use Rattle.grammar_reading.proofs.Words.{spells_both, Has, takes_first, takes_line, past_some}

-- specs alone say whether names are typedef names
abbrev pub is_specs : Place → Bool
is_specs p.Specs = true
is_specs _ = false

abbrev pub has_specs : List Place → Bool
has_specs [] = false
has_specs (place ∷ rest) = is_specs place || has_specs rest

-- places of which each tree has a word
abbrev pub has_words : Place → Bool
has_words (Expression level) = true
has_words p.Specs = true
has_words p.PlainSpecs = true
has_words p.Name = true
has_words p.Strings = true
has_words p.Int = true
has_words p.Char = true
has_words p.Str = true
has_words _ = false

abbrev pub Opens : Bool → List Token → Type 0
Opens true words = Has words
Opens false words = ⊤

-- the parameters are those of this list, wherever it stands
abbrev pub AreParams : Bool → Trees → List Known → Type 0
AreParams flag parts params = (names : List Known) → let scope : Scope = record { names = names; typedef = flag } in let inside : Scope = record { names = params ++ names; typedef = flag } in after_all parts (p.Params ∷ []) scope ≡ inside

-- where the layer next to the name is a parameter list, the state has its parameters
abbrev pub KeepsParams : Option Trees → State → State → Type 0
KeepsParams None state rest = ⊤
KeepsParams (Some parts) state rest = AreParams state.scope.typedef parts rest.params

-- what else is known where a tree was read
unfoldable pub Also : Place → State → Tree → State → Type 0
Also p.Statement state tree rest = (ends_open tree && at_key k.Else rest) ≡ false
Also p.Branch state tree rest = (ends_open tree && at_key k.Else rest) ≡ false
Also p.Declarator state tree rest = (at_mark s.Star state ≡ true → home tree ≡ p.PointerLayer) × KeepsParams (params_of tree) state rest
Also p.Abstract state tree rest = (at_mark s.Star state ≡ true → home tree ≡ p.PointerLayer) × KeepsParams (params_of tree) state rest
Also p.AnyDeclarator state tree rest = (at_mark s.Star state ≡ true → home tree ≡ p.PointerLayer) × KeepsParams (params_of tree) state rest
Also p.Declared state tree rest = KeepsParams (params_of tree) state rest
Also _ state tree rest = ⊤

-- a tree was read, less deep than this
pub record Took (bound : ℕ) (place : Place) (state : State) (tree : Tree) (rest : State) : Type 0 where
  pub stands : Takes place tree
  pub allowed : Allowed tree state.scope
  pub spelled : Spells (spell tree) state.words rest.words
  pub deep : depth tree < bound
  pub scope : rest.scope ≡ behind place tree state.scope
  pub flag : is_specs place ≡ false → rest.scope.typedef ≡ state.scope.typedef
  pub opens : Opens (has_words place) state.words
  pub also : Also place state tree rest

-- a reader reads trees of a place
abbrev pub Sound : ℕ → Place → Reader → Type 0
Sound bound place read = (state : State) (x : Tree × State) → read state ≡ Some x → Took bound place state x.0 x.1

-- whether there is a part other than a line
abbrev pub has_part : List Item → Bool
has_part [] = false
has_part (Part place ∷ items) = true
has_part (Says word ∷ items) = has_part items
has_part (Here ∷ items) = has_part items

-- some words and parts of a form were read
pub record PartsTook (bound : ℕ) (items : List Item) (state : State) (parts : Trees) (rest : State) : Type 0 where
  pub allowed : AllAllowed parts (places items) state.scope
  pub spelled : Spells (filled items (spell_all parts)) state.words rest.words
  pub deep : greatest_depth parts < max 1 bound
  pub ran : has_part items ≡ true → 0 < bound
  pub scope : rest.scope ≡ after_all parts (places items) state.scope
  pub flag : has_specs (places items) ≡ false → rest.scope.typedef ≡ state.scope.typedef

-- One behind another

places_both : (a b : List Item) → places (a ++ b) ≡ places a ++ places b
places_both [] b = refl
places_both (Says word ∷ a) b = places_both a b
places_both (Here ∷ a) b = ap (λ ps. p.Line ∷ ps) (places_both a b)
places_both (Part place ∷ a) b = ap (λ ps. place ∷ ps) (places_both a b)

all_both : (x y : Trees) (ps qs : List Place) (scope : Scope) → AllAllowed x ps scope → AllAllowed y qs (after_all x ps scope) → AllAllowed (joined x y) (ps ++ qs) scope
unfolding AllAllowed after_all
all_both none y [] qs scope h g = g
all_both none y (place ∷ ps) qs scope h g = absurd h
all_both (tree ▹ x) y [] qs scope h g = absurd h
all_both (tree ▹ x) y (place ∷ ps) qs scope h g = (h.0, h.1, all_both x y ps qs (if is_scope place then scope else after tree scope) h.2 g)

after_both : (x y : Trees) (ps qs : List Place) (scope : Scope) → AllAllowed x ps scope → after_all (joined x y) (ps ++ qs) scope ≡ after_all y qs (after_all x ps scope)
unfolding AllAllowed after_all
after_both none y [] qs scope h = refl
after_both none y (place ∷ ps) qs scope h = absurd h
after_both (tree ▹ x) y [] qs scope h = absurd h
after_both (tree ▹ x) y (place ∷ ps) qs scope h = after_both x y ps qs (if is_scope place then scope else after tree scope) h.2

pub filled_both : (a b : List Item) (x y : Trees) (scope : Scope) → AllAllowed x (places a) scope → filled (a ++ b) (spell_all (joined x y)) ≡ filled a (spell_all x) ++ filled b (spell_all y)
unfolding AllAllowed spell_all after is_scope
filled_both [] b none y scope h = refl
filled_both [] b (tree ▹ x) y scope h = absurd h
filled_both (Says word ∷ a) b x y scope h = ap (λ l. Said word ∷ l) (filled_both a b x y scope h)
filled_both (Here ∷ a) b none y scope h = absurd h
filled_both (Here ∷ a) b (tree ▹ x) y scope h =
    ap (λ l. spell tree ++ l) (filled_both a b x y (after tree scope) h.2) ∙ sym (append_assoc (spell tree) (filled a (spell_all x)) (filled b (spell_all y)))
filled_both (Part place ∷ a) b none y scope h = absurd h
filled_both (Part place ∷ a) b (tree ▹ x) y scope h =
    ap (λ l. spell tree ++ l) (filled_both a b x y (if is_scope place then scope else after tree scope) h.2) ∙ sym (append_assoc (spell tree) (filled a (spell_all x)) (filled b (spell_all y)))

pub greatest_both : (x y : Trees) → greatest_depth (joined x y) ≡ max (greatest_depth x) (greatest_depth y)
unfolding greatest_depth
greatest_both none y = omega arith
greatest_both (tree ▹ x) y = ap (max (layers tree + below tree)) (greatest_both x y) ∙ max_assoc (layers tree + below tree) (greatest_depth x) (greatest_depth y) where
  max_assoc : (a b c : ℕ) → max a (max b c) ≡ max (max a b) c
  max_assoc a b c = omega arith

specs_both : (ps qs : List Place) → has_specs (ps ++ qs) ≡ false → (has_specs ps ≡ false) × (has_specs qs ≡ false)
specs_both [] qs h = (refl, h)
specs_both (place ∷ ps) qs h =
    let a = or_parts (is_specs place) (has_specs (ps ++ qs)) h in
    let b = specs_both ps qs a.1 in
    (ap (λ t. t || has_specs ps) a.0 ∙ b.0, b.1)

part_both : (a b : List Item) (n : ℕ) → (has_part a ≡ true → 0 < n) → (has_part b ≡ true → 0 < n) → has_part (a ++ b) ≡ true → 0 < n
part_both [] b n f g h = g h
part_both (Says word ∷ a) b n f g h = part_both a b n f g h
part_both (Here ∷ a) b n f g h = part_both a b n f g h
part_both (Part place ∷ a) b n f g h = f refl

pub took_both : (bound : ℕ) (a b : List Item) (state middle rest : State) (x y : Trees) → PartsTook bound a state x middle → PartsTook bound b middle y rest → PartsTook bound (a ++ b) state (joined x y) rest
took_both bound a b state middle rest x y h g =
    let here : AllAllowed y (places b) (after_all x (places a) state.scope) = subst (λ sc. AllAllowed y (places b) sc) h.scope g.allowed in
    let dx = h.deep in
    let dy = g.deep in
    let dj = greatest_both x y in
    record {
      allowed = subst (λ ps. AllAllowed (joined x y) ps state.scope) (sym (places_both a b)) (all_both x y (places a) (places b) state.scope h.allowed here);
      spelled = subst (λ l. Spells l state.words rest.words) (sym (filled_both a b x y state.scope h.allowed)) (spells_both (filled a (spell_all x)) (filled b (spell_all y)) state.words middle.words rest.words h.spelled g.spelled);
      deep = omega (arith, dx, dy, dj);
      ran = part_both a b bound h.ran g.ran;
      scope = g.scope ∙ ap (after_all y (places b)) h.scope ∙ sym (after_both x y (places a) (places b) state.scope h.allowed) ∙ ap (λ ps. after_all (joined x y) ps state.scope) (sym (places_both a b));
      flag = λ e. let parts = specs_both (places a) (places b) (ap has_specs (sym (places_both a b)) ∙ e) in g.flag parts.1 ∙ h.flag parts.0;
    }

-- One of each

pub took_none : (bound : ℕ) (state : State) → PartsTook bound [] state none state
unfolding AllAllowed Spells spell_all greatest_depth after_all
took_none bound state = record { allowed = tt; spelled = refl; deep = omega arith; ran = λ e. absurd (true≢false (sym e)); scope = refl; flag = λ e. refl }

pub took_word : (bound : ℕ) (word : Word) (state next : State) → past word state ≡ Some next → PartsTook bound (Says word ∷ []) state none next
unfolding AllAllowed spell_all greatest_depth after_all
took_word bound word state next h =
    let a = past_some word state next h in
    subst (λ (x : State). PartsTook bound (Says word ∷ []) state none x) a.2 (said word a.1 (takes_first state.words a.0))
  where
    said : (word : Word) → word_at state ≡ word → Spells (Said (word_at state) ∷ []) state.words (skip state).words → PartsTook bound (Says word ∷ []) state none (skip state)
    said word e spelled = record { allowed = tt; spelled = subst (λ w. Spells (Said w ∷ []) state.words (skip state).words) e spelled; deep = omega arith; ran = λ e. absurd (true≢false (sym e)); scope = refl; flag = λ e. refl }

pub took_line : (bound : ℕ) (state : State) → Has state.words → PartsTook bound (Here ∷ []) state (At (line_at state) ▹ none) state
unfolding AllAllowed Allowed Takes spell spell_all greatest_depth layers below after after_all is_scope
took_line bound state h = record { allowed = (refl, tt, tt); spelled = takes_line state.words h; deep = omega arith; ran = λ e. absurd (true≢false (sym e)); scope = refl; flag = λ e. refl }

pub took_one : (bound : ℕ) (place : Place) (state rest : State) (tree : Tree) → Took bound place state tree rest → PartsTook bound (Part place ∷ []) state (tree ▹ none) rest
unfolding AllAllowed spell_all greatest_depth after_all Spells
took_one bound place state rest tree h =
    let d = h.deep in
    record {
      allowed = (h.stands, h.allowed, tt);
      spelled = spells_both (spell tree) [] state.words rest.words rest.words h.spelled refl;
      deep = omega (arith, d);
      ran = λ e. omega (arith, d);
      scope = h.scope;
      flag = λ e. h.flag ((or_parts (is_specs place) false e).0);
    }

-- The words and parts of a form in turn

abbrev pub opens : List Item → Bool
opens [] = false
opens (Says word ∷ items) = true
opens (Here ∷ items) = opens items
opens (Part place ∷ items) = has_words place

-- behind each line stands what has a word
abbrev pub heres : List Item → Bool
heres [] = true
heres (Says word ∷ items) = heres items
heres (Here ∷ items) = opens items && heres items
heres (Part place ∷ items) = heres items

abbrev pub AllSound : ℕ → (Place → Reader) → List Item → Type 0
AllSound bound part [] = ⊤
AllSound bound part (Says word ∷ items) = AllSound bound part items
AllSound bound part (Here ∷ items) = AllSound bound part items
AllSound bound part (Part place ∷ items) = Sound bound place (part place) × AllSound bound part items

pub all_sound : (bound : ℕ) (part : Place → Reader) → ((place : Place) → Sound bound place (part place)) → (items : List Item) → AllSound bound part items
all_sound bound part each [] = tt
all_sound bound part each (Says word ∷ items) = all_sound bound part each items
all_sound bound part each (Here ∷ items) = all_sound bound part each items
all_sound bound part each (Part place ∷ items) = (each place, all_sound bound part each items)

pub open_has : (b : Bool) (words : List Token) → b ≡ true → Opens b words → Has words
open_has true words e h = h
open_has false words e h = absurd (true≢false (sym e))

pub front_some : (tree : Tree) (o : Option (Trees × State)) (y : Trees × State) → in_front tree o ≡ Some y → (z : Trees × State) × (o ≡ Some z) × (Some (tree ▹ z.0, z.1) ≡ Some y)
front_some tree None y h = none_some h
front_some tree (Some z) y h = (z, refl, h)

pub parts_took : (bound : ℕ) (part : Place → Reader) (items : List Item) → AllSound bound part items → heres items ≡ true → (state : State) (y : Trees × State) → parts_of part items state ≡ Some y → PartsTook bound items state y.0 y.1 × Opens (opens items) state.words
parts_took bound part [] each hs state y h =
    (subst (λ (z : Trees × State). PartsTook bound [] state z.0 z.1) (some_same h) (took_none bound state), tt)
parts_took bound part (Says word ∷ items) each hs state y h =
    let a = bind_some (past word state) (λ next. parts_of part items next) y h in
    let b = parts_took bound part items each hs a.0 y a.2 in
    (took_both bound (Says word ∷ []) items state a.0 y.1 none y.0 (took_word bound word state a.0 a.1) b.0, (past_some word state a.0 a.1).0)
parts_took bound part (Here ∷ items) each hs state y h =
    let a = front_some (At (line_at state)) (parts_of part items state) y h in
    let e = and_parts (opens items) (heres items) hs in
    let b = parts_took bound part items each e.1 state a.0 a.1 in
    let line = took_line bound state (open_has (opens items) state.words e.0 b.1) in
    (subst (λ (z : Trees × State). PartsTook bound (Here ∷ items) state z.0 z.1) (some_same a.2) (took_both bound (Here ∷ []) items state state a.0.1 (At (line_at state) ▹ none) a.0.0 line b.0), b.1)
parts_took bound part (Part place ∷ items) each hs state y h =
    let a = bind_some (part place state) (λ x. in_front x.0 (parts_of part items x.1)) y h in
    let b = front_some a.0.0 (parts_of part items a.0.1) y a.2 in
    let c = parts_took bound part items each.1 hs a.0.1 b.0 b.1 in
    let one = each.0 state a.0 a.1 in
    (subst (λ (z : Trees × State). PartsTook bound (Part place ∷ items) state z.0 z.1) (some_same b.2) (took_both bound (Part place ∷ []) items state a.0.1 b.0.1 (a.0.0 ▹ none) b.0.0 (took_one bound place state a.0.1 a.0.0 one) c.0), one.opens)

-- Forms by what they do, by the place that they are made for, and by how an expression of them is made. A new form, keyword or
-- sign is one more row of a table here at most: what the tables say is proved for each row alike.

-- What a form does to its scope

-- forms that are scopes
abbrev pub is_closed : Form → Bool
is_closed f.Body = true
is_closed f.Block = true
is_closed f.Delay = true
is_closed f.If = true
is_closed f.IfElse = true
is_closed f.While = true
is_closed f.Do = true
is_closed f.For = true
is_closed f.Switch = true
is_closed _ = false

-- forms with no rule beside the grammar, that are of no declarator, and leave what was declared in their parts
abbrev pub is_plain : Form → Bool
is_plain f.Name = false
is_plain f.TypedefName = false
is_plain f.Specs = false
is_plain f.MaybeInit = false
is_plain f.FunctionSuffix = false
is_plain f.Declared = false
is_plain f.Param = false
is_plain f.Enumerator = false
is_plain (f.Pointer consts) = false
is_plain f.Direct = false
is_plain f.Nothing = false
is_plain f.Parens = false
is_plain f.Suffixes = false
is_plain f.ArraySuffix = false
is_plain f.VoidSuffix = false
is_plain form = not (is_closed form)

abbrev pub made : List Known → Bool → Scope
made names flag = record { names = names; typedef = flag }

pub record IsPlain (form : Form) : Type 0 where
  pub free : (parts : Trees) (scope : Scope) → obeys form parts scope ≡ true
  pub left : (parts : Trees) (before inner : Scope) → left form parts before inner ≡ made inner.names before.typedef
  pub flat : is_of_declarator form ≡ false

pub record IsClosed (form : Form) : Type 0 where
  pub free : (parts : Trees) (scope : Scope) → obeys form parts scope ≡ true
  pub left : (parts : Trees) (before inner : Scope) → left form parts before inner ≡ before
  pub flat : is_of_declarator form ≡ false

pub plain : (form : Form) → is_plain form ≡ true → IsPlain form
unfolding obeys left is_of_declarator
plain f.Unit h = first_of (cc, search)
plain _ h = first_of (cc, search)

pub closed_form : (form : Form) → is_closed form ≡ true → IsClosed form
unfolding obeys left is_of_declarator
closed_form f.Unit h = first_of (cc, search)
closed_form _ h = first_of (cc, search)

-- The one form that is made for a place

abbrev pub only_form : Place → Option Form
only_form p.Body = Some f.Body
only_form p.Specs = Some f.Specs
only_form p.Names = Some f.Names
only_form p.Entry = Some f.Entry
only_form p.Declared = Some f.Declared
only_form p.MaybeInit = Some f.MaybeInit
only_form p.MaybeName = Some f.MaybeName
only_form p.Members = Some f.Members
only_form p.Member = Some f.Member
only_form p.MemberNames = Some f.MemberNames
only_form p.Enumerators = Some f.Enumerators
only_form p.Enumerator = Some f.Enumerator
only_form p.MaybeValue = Some f.MaybeValue
only_form p.Suffixes = Some f.Suffixes
only_form p.MaybeLength = Some f.MaybeLength
only_form p.Params = Some f.Params
only_form p.Param = Some f.Param
only_form p.Typename = Some f.Typename
only_form p.Inits = Some f.Inits
only_form p.Items = Some f.Items
only_form p.MaybeExpr = Some f.MaybeExpr
only_form p.Arguments = Some f.Arguments
only_form p.Strings = Some f.Strings
only_form _ = None

only_back : (form one : Form) → only_form (form_home form) ≡ Some one → form ≡ one
unfolding form_home
only_back f.Unit one h = cc
only_back _ one h = cc

-- a word is made for none of these places, nor for those of declarators, statements and expressions
abbrev pub of_word : Place → Bool
of_word p.SpecWord = true
of_word p.Name = true
of_word p.Int = true
of_word p.Char = true
of_word p.Str = true
of_word p.Nowhere = true
of_word _ = false

key_of_word : (keyword : Keyword) → of_word (keyword_home keyword) ≡ true
unfolding keyword_home
key_of_word k.Static = refl
key_of_word _ = refl

pub word_of_word : (word : Word) → of_word (word_home word) ≡ true
word_of_word (Key keyword) = key_of_word keyword
word_of_word _ = refl

-- a tree of a place that is made for no word is a node
pub tree_node : (place : Place) (tree : Tree) → home tree ≡ place → of_word place ≡ false → (place ≡ p.Line → ⊥) → (form : Form) × (parts : Trees) × (tree ≡ Node form parts) × (form_home form ≡ place)
tree_node place (Leaf word) h node line = absurd (not_both (sym (word_of_word word) ∙ ap of_word h ∙ node)) where
  not_both : true ≡ false → ⊥
  not_both e = cc
tree_node place (At n) h node line = absurd (line (sym h))
tree_node place (Node form parts) h node line = (form, parts, refl, h)

one_place : (place : Place) (one : Form) → only_form place ≡ Some one → (of_word place ≡ false) × (place ≡ p.Line → ⊥)
one_place p.Body one e = (refl, λ h. cc)
one_place _ one e = (first_of (cc, search), λ h. cc)

pub only_node : (place : Place) (one : Form) (tree : Tree) → only_form place ≡ Some one → home tree ≡ place → (parts : Trees) × (tree ≡ Node one parts)
only_node place one tree e h =
    let o = one_place place one e in
    let a = tree_node place tree h o.0 o.1 in
    (a.1, a.2 ∙ ap (λ (x : Form). Node x a.1) (only_back a.0 one (ap only_form a.3 ∙ e)))

-- there a tree stands by its home alone
pub only_takes : (place : Place) (one : Form) (tree : Tree) → only_form place ≡ Some one → Takes place tree → home tree ≡ place
unfolding Takes
only_takes p.Body one tree e h = h
only_takes _ one tree e h = first_of (cc, search)

-- a part that is a token
abbrev pub token_word : Place → List ℕ → Word
token_word p.Name = Name
token_word p.Int = Int
token_word p.Char = Char
token_word _ = Str

abbrev pub is_token_place : Place → Bool
is_token_place p.Name = true
is_token_place p.Int = true
is_token_place p.Char = true
is_token_place p.Str = true
is_token_place _ = false

key_no_token : (keyword : Keyword) → is_token_place (keyword_home keyword) ≡ false
unfolding keyword_home
key_no_token k.Static = refl
key_no_token _ = refl

form_no_token : (form : Form) → is_token_place (form_home form) ≡ false
unfolding form_home
form_no_token f.Unit = refl
form_no_token _ = refl

pub is_token : (place : Place) (tree : Tree) → is_token_place place ≡ true → home tree ≡ place → (bytes : List ℕ) × (tree ≡ Leaf (token_word place bytes))
is_token place (Leaf (Name bytes)) t h = (bytes, ap (λ x. Leaf (token_word x bytes)) h)
is_token place (Leaf (Int bytes)) t h = (bytes, ap (λ x. Leaf (token_word x bytes)) h)
is_token place (Leaf (Char bytes)) t h = (bytes, ap (λ x. Leaf (token_word x bytes)) h)
is_token place (Leaf (Str bytes)) t h = (bytes, ap (λ x. Leaf (token_word x bytes)) h)
is_token place (Leaf (Key keyword)) t h = absurd (cc (key_no_token keyword))
is_token place (Node form parts) t h = absurd (cc (form_no_token form))
is_token _ tree t h = absurd (cc)

pub is_name : (tree : Tree) → home tree ≡ p.Name → (bytes : List ℕ) × (tree ≡ Leaf (Name bytes))
is_name tree h = is_token p.Name tree refl h

-- a part of the place of a line is a line
form_no_line : (form : Form) → form_home form ≡ p.Line → ⊥
unfolding form_home
form_no_line f.Unit h = cc
form_no_line _ h = cc

pub is_line : (tree : Tree) → Takes p.Line tree → (line : ℕ) × (tree ≡ At line)
unfolding Takes
is_line (Leaf word) h = absurd (cc (word_of_word word))
is_line (At line) h = (line, refl)
is_line (Node form parts) h = absurd (form_no_line form h)

-- Expressions

-- how a form is made: of a token, of a word and what stands behind it, or of an expression of a level and what stands behind
-- it; and its level
pub data Sort : Type 0 where
  Outside : Sort
  Token_ : Sort
  Prefix : (level : ℕ) → Sort
  Grown : (front level : ℕ) → Sort

abbrev pub expr_sort : Form → Sort
expr_sort f.Name = Token_
expr_sort f.Int = Token_
expr_sort f.Char = Token_
expr_sort f.Str = Token_
expr_sort f.Paren = Prefix 0
expr_sort f.PreInc = Prefix 1
expr_sort f.PreDec = Prefix 1
expr_sort (f.Unary op) = Prefix 1
expr_sort f.SizeofExpr = Prefix 1
expr_sort f.SizeofType = Prefix 1
expr_sort f.Cast = Prefix 2
expr_sort f.Index = Grown 0 0
expr_sort f.Call = Grown 0 0
expr_sort f.Dot = Grown 0 0
expr_sort f.Arrow = Grown 0 0
expr_sort f.PostInc = Grown 0 0
expr_sort f.PostDec = Grown 0 0
expr_sort (f.Binary op) = Grown (binary_level op) (binary_level op)
expr_sort f.Cond = Grown 12 13
expr_sort (f.Assign op) = Grown 1 14
expr_sort f.Comma = Grown 15 15
expr_sort _ = Outside

abbrev pub sort_front : Sort → ℕ
sort_front (Grown front level) = front
sort_front _ = 0

abbrev pub sort_level : Sort → ℕ
sort_level (Prefix level) = level
sort_level (Grown front level) = level
sort_level _ = 0

abbrev pub is_inside : Sort → Bool
is_inside Outside = false
is_inside _ = true

abbrev pub is_grown : Sort → Bool
is_grown (Grown front level) = true
is_grown _ = false

pub record IsExprForm (form : Form) (level : ℕ) : Type 0 where
  pub plain : is_plain form ≡ true
  pub home : form_home form ≡ Expression level
  pub shaped : (n : ℕ) → shape form n ≡ shape form zero
  pub lines : heres (shape form zero) ≡ true
  pub begins : opens (shape form zero) ≡ true
  pub single : has_specs (places (shape form zero)) ≡ false
  pub weighs : weight form ≡ 1

-- one with an expression in front
pub record IsGrownForm (form : Form) (front level : ℕ) : Type 0 where
  pub whole : IsExprForm form level
  pub starts : shape form zero ≡ Here ∷ Part (Expression front) ∷ drop 2 (shape form zero)
  pub lines : heres (drop 2 (shape form zero)) ≡ true

pub expr_form : (form : Form) → is_plain form ≡ true → is_inside (expr_sort form) ≡ true → IsExprForm form (sort_level (expr_sort form))
unfolding shape form_home weight
expr_form f.Unit p i = first_of (cc, search)
expr_form _ p i = first_of (cc, search)

grown_form : (form : Form) → is_grown (expr_sort form) ≡ true → IsGrownForm form (sort_front (expr_sort form)) (sort_level (expr_sort form))
unfolding shape form_home weight
grown_form f.Unit g = first_of (cc, search)
grown_form _ g = first_of (cc, search)

pub grown_as : (form : Form) (front level : ℕ) → expr_sort form ≡ Grown front level → IsGrownForm form front level
grown_as form front level e = subst (λ q. IsGrownForm form (sort_front q) (sort_level q)) e (grown_form form (ap is_grown e))

pub expr_as : (form : Form) (level : ℕ) → is_plain form ≡ true → expr_sort form ≡ Prefix level → IsExprForm form level
expr_as form level p e = subst (IsExprForm form) (ap sort_level e) (expr_form form p (ap is_inside e))

pub unary_op_form : (sign : Sign) (form : Form) → unary_op sign ≡ Some form → IsExprForm form 1
unfolding unary_op
unary_op_form s.PlusPlus form h = expr_as form 1 (cc) (cc)
unary_op_form _ form h = expr_as form 1 (cc) (cc)

pub postfix_op_form : (sign : Sign) (form : Form) → postfix_op sign ≡ Some form → IsGrownForm form 0 0
unfolding postfix_op
postfix_op_form s.LeftBracket form h = grown_as form 0 0 (cc)
postfix_op_form _ form h = grown_as form 0 0 (cc)

-- each expression has a sort, a level and a weight
pub outside_not : (form : Form) (level : ℕ) → expr_sort form ≡ Outside → form_home form ≡ Expression level → ⊥
unfolding form_home
outside_not f.Unit level h g = cc
outside_not _ level h g = cc

pub expr_weighs : (form : Form) (l : ℕ) → form_home form ≡ Expression l → (is_of_declarator form ≡ false) × (weight form ≡ 1)
unfolding form_home weight is_of_declarator
expr_weighs f.Unit l h = first_of (cc, search)
expr_weighs _ l h = first_of (cc, search)

-- its parts are a line and one more at least
pub none_not : (form : Form) (level : ℕ) (scope : Scope) → form_home form ≡ Expression level → AllAllowed none (places (shape form 0)) scope → ⊥
unfolding AllAllowed shape form_home
none_not f.Unit level scope h al = first_of (cc, search)
none_not _ level scope h al = first_of (cc, search)

pub one_not : (form : Form) (level : ℕ) (x : Tree) (scope : Scope) → form_home form ≡ Expression level → AllAllowed (x ▹ none) (places (shape form 1)) scope → ⊥
unfolding AllAllowed shape form_home
one_not f.Unit level x scope h al = first_of (cc, search)
one_not _ level x scope h al = first_of (cc, search)

pub no_word_expr : (word : Word) (level : ℕ) → word_home word ≡ Expression level → ⊥
no_word_expr word level h = cc (word_of_word word)

pub operand_bounds : (op : BinaryOp) → (2 ≤ operand_level op) × (operand_level op ≤ 11)
unfolding operand_level
operand_bounds b.Or = omega arith
operand_bounds _ = omega arith

-- the forms of a level
pub front_below : (form : Form) (front level : ℕ) → expr_sort form ≡ Grown front level → front ≤ level
front_below f.Unit front level e = first_of (cc, grind arith)
front_below _ front level e = first_of (cc, grind arith)

pub middle_prefix : (form : Form) (l : ℕ) → form_home form ≡ Expression l → 1 ≤ l → l ≤ 2 → expr_sort form ≡ Prefix l
unfolding form_home
middle_prefix (f.Binary op) l h lo hi = grind (arith, operand_bounds op)
middle_prefix _ l h lo hi = first_of (cc, grind arith)

pub middle_binary : (form : Form) (l : ℕ) → form_home form ≡ Expression l → 3 ≤ l → l ≤ 12 → (op : BinaryOp) × (form ≡ f.Binary op)
unfolding form_home
middle_binary (f.Binary op) l h lo hi = (op, refl)
middle_binary _ l h lo hi = absurd (first_of (cc, grind arith))

pub is_cond : (form : Form) (l : ℕ) → form_home form ≡ Expression l → l ≡ 13 → form ≡ f.Cond
unfolding form_home
is_cond (f.Binary op) l h e = grind (arith, operand_bounds op)
is_cond _ l h e = first_of (cc, grind arith)

assign_sort : (form : Form) (l : ℕ) → form_home form ≡ Expression l → l ≡ 14 → expr_sort form ≡ Grown 1 14
unfolding form_home
assign_sort (f.Binary op) l h e = grind (arith, operand_bounds op)
assign_sort _ l h e = first_of (cc, grind arith)

no_binary_one : (op : BinaryOp) → Grown (binary_level op) (binary_level op) ≡ Grown 1 14 → ⊥
no_binary_one op h = grind (arith, operand_bounds op)

assign_of : (form : Form) → expr_sort form ≡ Grown 1 14 → (op : AssignOp) × (form ≡ f.Assign op)
assign_of (f.Assign op) h = (op, refl)
assign_of (f.Binary op) h = absurd (no_binary_one op h)
assign_of _ h = absurd (cc)

pub is_assign : (form : Form) (l : ℕ) → form_home form ≡ Expression l → l ≡ 14 → (op : AssignOp) × (form ≡ f.Assign op)
is_assign form l h e = assign_of form (assign_sort form l h e)

pub is_comma : (form : Form) (l : ℕ) → form_home form ≡ Expression l → l ≡ 15 → form ≡ f.Comma
unfolding form_home
is_comma (f.Binary op) l h e = grind (arith, operand_bounds op)
is_comma _ l h e = first_of (cc, grind arith)

pub top_level : (form : Form) (l : ℕ) → form_home form ≡ Expression l → l ≤ 15
unfolding form_home
top_level (f.Binary op) l h = grind (arith, operand_bounds op)
top_level _ l h = first_of (cc, grind arith)
