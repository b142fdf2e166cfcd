-- What it is to read a tree again, that words and parts in turn are read again; operators by their signs, and what stops an
-- expression.
use Rattle.std.proofs.Common.{◌≡◌, ℕ, zero, ◌<◌, Bool, true, false, List, [], ◌∷◌, Option, Some, None, refl, sym, ap, ◌∙◌, subst, arith, length, suc, ◌++◌, ◌≤◌}
use Rattle.std.specs.Prelude.{if◌then◌else◌, ⊤, ◌&&◌, ◌||◌, not, min, nat_lt}
use Rattle.std.proofs.lemmas.Bool.{and_parts, eq-eqb, ne_eqb, false≢true, lt-ltb, ltb-true}
use Rattle.c_lexer.specs.declared.token.Token.{Token}
use Rattle.c_tree.specs.declared.word.Sign.{Sign}
use Rattle.c_tree.specs.declared.operator.BinaryOp.{BinaryOp}
use Rattle.c_tree.specs.declared.operator.AssignOp.{AssignOp}
use Rattle.c_tree.specs.Words.{Word, Key, Mark, word_bytes}
use Rattle.c_tree.specs.Forms.{Form}
use Rattle.c_tree.specs.Places.{Place, Expression}
use Rattle.c_tree.specs.Tree.{Tree, Trees, At, Node, none, ◌▹◌, count}
use Rattle.c_tree.specs.Grammar.{Item, Says, Here, Part, shape}
use Rattle.c_tree.specs.Operators.{operand_level, unary_sign, binary_sign, assign_sign}
use Rattle.c_tree.specs.Spelling.{Piece, Said, Line, spell, spell_all, filled, Spells, IsWord}
use Rattle.c_tree.specs.Scopes.{is_scope, places, after, Scope}
use Rattle.c_tree.specs.Allowed.{Takes, Allowed, AllAllowed, ends_open}
use Rattle.c_tree.specs.Depth.{depth, greatest_depth}
use Rattle.c_tree.specs.declared.operator.UnaryOp.{UnaryOp}
use Rattle.c_tree.specs.declared.word.Keyword.TheVariants as k
use Rattle.c_tree.specs.declared.word.Sign.TheVariants as s
use Rattle.c_tree.specs.Places as p
use Rattle.c_tree.specs.declared.operator.UnaryOp.TheVariants as u
use Rattle.c_tree.specs.declared.operator.BinaryOp.TheVariants as b
use Rattle.c_tree.specs.declared.operator.AssignOp.TheVariants as a
use Rattle.c_tree.specs.Forms as f
use Rattle.grammar_reading.specs.declared.kind.Kind.{Kind}
use Rattle.grammar_reading.specs.State.{State, first_kind, first_line, behind_first, kind_of_word, kind_is_key, kind_is_mark, keyword_number, sign_number, at_word, past, skip, is_spec_key, first_bytes, line_at}
use Rattle.grammar_reading.specs.Reading.{◌>>=◌, Reader, parts_of, in_front, node, fixed}
use Rattle.grammar_reading.specs.Expressions.{binary_op, assign_op}
use Rattle.grammar_reading.specs.Rooms.{read}
use Rattle.grammar_reading.specs.declared.kind.Kind.TheVariants as kinds
use Rattle.grammar_reading.specs.Expressions as e
use Rattle.grammar_reading.proofs.Words.{spells_split, IsNamed, word_back, mark_is}
use Rattle.grammar_reading.proofs.Forms.{AllSound, is_line}

-- What cannot continue a tree of a place

abbrev pub binary_end : Option BinaryOp → ℕ
binary_end None = 16
binary_end (Some op) = suc (operand_level op)

abbrev pub assign_end : Option AssignOp → ℕ
assign_end None = 16
assign_end (Some op) = 14

-- a sign ends an expression of each level below this
unfoldable pub sign_end : Sign → ℕ
unfolding binary_op assign_op operand_level
sign_end s.LeftBracket = 0
sign_end s.LeftParen = 0
sign_end s.Dot = 0
sign_end s.Arrow = 0
sign_end s.PlusPlus = 0
sign_end s.MinusMinus = 0
sign_end s.Question = 13
sign_end s.Comma = 15
sign_end sign = min (binary_end (binary_op sign)) (assign_end (assign_op sign))

-- so does the end of the tokens
abbrev pub stops : ℕ → Kind → Bool
stops level (kinds.Mark sign) = nat_lt level (sign_end sign)
stops level kinds.End = true
stops level _ = false

-- a tree was read again
abbrev pub Reads : Reader → State → Tree → List Token → Type 0
Reads read state tree rest = (out : State) × (read state ≡ Some (tree, out)) × (out.words ≡ rest)

abbrev pub PartsReads : (Place → Reader) → List Item → State → Trees → List Token → Type 0
PartsReads part items state parts rest = (out : State) × (parts_of part items state ≡ Some (parts, out)) × (out.words ≡ rest)

-- one of some signs
abbrev pub is_one : List Sign → Kind → Bool
is_one [] kind = false
is_one (sign ∷ signs) kind = kind_is_mark sign kind || is_one signs kind

-- what each of the signs is
abbrev pub Each : (Kind → Type 0) → List Sign → Type 0
Each P [] = ⊤
Each P (sign ∷ signs) = P (kinds.Mark sign) × Each P signs

pub one_of : (P : Kind → Type 0) (signs : List Sign) (kind : Kind) → Each P signs → is_one signs kind ≡ true → P kind
one_of P [] kind each h = absurd (false≢true h)
one_of P (sign ∷ signs) kind each h = by (kind_is_mark sign kind) refl (one_of P signs kind each.1) h where
  by : (b : Bool) → kind_is_mark sign kind ≡ b → (is_one signs kind ≡ true → P kind) → (b || is_one signs kind) ≡ true → P kind
  by true e more g = subst P (sym (mark_is sign kind e)) each.0
  by false e more g = more g

-- a list of names goes on or ends
unfoldable pub after_entry : Kind → Bool
after_entry kind = is_one (s.Comma ∷ s.Semicolon ∷ []) kind

-- a list in braces goes on or ends
unfoldable pub after_inside : Kind → Bool
after_inside kind = is_one (s.Comma ∷ s.RightBrace ∷ []) kind

-- an initializer ends
unfoldable pub after_init : Kind → Bool
after_init kind = is_one (s.Comma ∷ s.RightBrace ∷ s.Semicolon ∷ []) kind

-- a parameter ends
unfoldable pub after_param : Kind → Bool
after_param kind = is_one (s.Comma ∷ s.RightParen ∷ []) kind

-- a declarator ends
unfoldable pub after_declarator : Kind → Bool
after_declarator kind = is_one (s.Comma ∷ s.RightParen ∷ s.Semicolon ∷ s.Equal ∷ s.LeftBrace ∷ []) kind

-- an expression of a statement ends
unfoldable pub after_expr : Kind → Bool
after_expr kind = is_one (s.Semicolon ∷ s.RightParen ∷ []) kind

abbrev pub is_str : Kind → Bool
is_str kinds.Str = true
is_str _ = false

-- specs end before what is no keyword of specs and no brace
unfoldable pub specs_stop : Kind → Bool
specs_stop (kinds.Key keyword) = not (is_spec_key keyword)
specs_stop (kinds.Mark s.LeftBrace) = false
specs_stop _ = true

-- the end of a list in braces, behind a comma or not
abbrev pub ends_list : List Token → Bool
ends_list ws = kind_is_mark s.RightBrace (first_kind ws) || (kind_is_mark s.Comma (first_kind ws) && kind_is_mark s.RightBrace (first_kind (behind_first ws)))

-- what stands behind a tree of a place cannot continue it
unfoldable pub Follow : Place → Tree → List Token → Type 0
Follow (Expression level) tree ws = stops level (first_kind ws) ≡ true
Follow p.Specs tree ws = specs_stop (first_kind ws) ≡ true
Follow p.PlainSpecs tree ws = specs_stop (first_kind ws) ≡ true
Follow p.Names tree ws = first_kind ws ≡ kinds.Mark s.Semicolon
Follow p.SomeNames tree ws = first_kind ws ≡ kinds.Mark s.Semicolon
Follow p.Entry tree ws = after_entry (first_kind ws) ≡ true
Follow p.MaybeInit tree ws = after_entry (first_kind ws) ≡ true
Follow p.Declared tree ws = after_declarator (first_kind ws) ≡ true
Follow p.Declarator tree ws = after_declarator (first_kind ws) ≡ true
Follow p.Abstract tree ws = after_declarator (first_kind ws) ≡ true
Follow p.AnyDeclarator tree ws = after_declarator (first_kind ws) ≡ true
Follow p.PointerLayer tree ws = after_declarator (first_kind ws) ≡ true
Follow p.MaybeName tree ws = first_kind ws ≡ kinds.Mark s.LeftBrace
Follow p.Members tree ws = first_kind ws ≡ kinds.Mark s.RightBrace
Follow p.MemberNames tree ws = first_kind ws ≡ kinds.Mark s.Semicolon
Follow p.Enumerators tree ws = ends_list ws ≡ true
Follow p.Enumerator tree ws = after_inside (first_kind ws) ≡ true
Follow p.MaybeValue tree ws = after_inside (first_kind ws) ≡ true
Follow p.MaybeLength tree ws = first_kind ws ≡ kinds.Mark s.RightBracket
Follow p.Params tree ws = first_kind ws ≡ kinds.Mark s.RightParen
Follow p.Param tree ws = after_param (first_kind ws) ≡ true
Follow p.Typename tree ws = first_kind ws ≡ kinds.Mark s.RightParen
Follow p.Init tree ws = after_init (first_kind ws) ≡ true
Follow p.Inits tree ws = ends_list ws ≡ true
Follow p.Items tree ws = first_kind ws ≡ kinds.Mark s.RightBrace
Follow p.Item tree ws = (ends_open tree && kind_is_key k.Else (first_kind ws)) ≡ false
Follow p.Statement tree ws = (ends_open tree && kind_is_key k.Else (first_kind ws)) ≡ false
Follow p.Branch tree ws = (ends_open tree && kind_is_key k.Else (first_kind ws)) ≡ false
Follow p.MaybeExpr tree ws = after_expr (first_kind ws) ≡ true
Follow p.Arguments tree ws = first_kind ws ≡ kinds.Mark s.RightParen
Follow p.Strings tree ws = is_str (first_kind ws) ≡ false
Follow _ tree ws = ⊤

-- a reader reads each tree of a place again
abbrev pub Complete : ℕ → Place → Reader → Type 0
Complete bound place read = (state : State) (tree : Tree) (rest : List Token) → Takes place tree → Allowed tree state.scope → depth tree < bound → Spells (spell tree) state.words rest → Follow place tree rest → Reads read state tree rest

abbrev pub AllComplete : ℕ → (Place → Reader) → List Item → Type 0
AllComplete bound part [] = ⊤
AllComplete bound part (Says word ∷ items) = AllComplete bound part items
AllComplete bound part (Here ∷ items) = AllComplete bound part items
AllComplete bound part (Part place ∷ items) = Complete bound place (part place) × AllComplete bound part items

-- the places of parts that are read with less room
abbrev pub is_read : Place → Bool
is_read (Expression level) = true
is_read p.Arguments = true
is_read p.Name = true
is_read p.Typename = true
is_read p.Specs = true
is_read p.Names = true
is_read p.MaybeName = true
is_read p.Members = true
is_read p.Enumerators = true
is_read p.Declarator = true
is_read p.Abstract = true
is_read p.AnyDeclarator = true
is_read p.Params = true
is_read p.MaybeLength = true
is_read p.Inits = true
is_read p.Items = true
is_read p.Statement = true
is_read p.Branch = true
is_read p.ForStart = true
is_read p.MaybeExpr = true
is_read _ = false

abbrev pub all_read : List Item → Bool
all_read [] = true
all_read (Says word ∷ items) = all_read items
all_read (Here ∷ items) = all_read items
all_read (Part place ∷ items) = is_read place && all_read items

-- readers of less room read each tree of these places again
abbrev pub AllAgain : ℕ → (Place → Reader) → Type 0
AllAgain bound part = (place : Place) → is_read place ≡ true → Complete bound place (part place)

pub all_complete : (bound : ℕ) (part : Place → Reader) → AllAgain bound part → (items : List Item) → all_read items ≡ true → AllComplete bound part items
all_complete bound part each [] h = tt
all_complete bound part each (Says word ∷ items) h = all_complete bound part each items h
all_complete bound part each (Here ∷ items) h = all_complete bound part each items h
all_complete bound part each (Part place ∷ items) h =
    let a = and_parts (is_read place) (all_read items) h in
    (each place a.0, all_complete bound part each items a.1)

-- a keyword or a sign
abbrev pub IsFixed : Word → Type 0
IsFixed (Key keyword) = ⊤
IsFixed (Mark sign) = ⊤
IsFixed _ = ⊥

-- behind each part stands what cannot continue it
abbrev pub Follows : List Item → Trees → List Token → Type 0
Follows [] parts rest = ⊤
Follows (Says word ∷ items) parts rest = IsFixed word × Follows items parts rest
Follows (Here ∷ items) none rest = ⊤
Follows (Here ∷ items) (tree ▹ parts) rest = Follows items parts rest
Follows (Part place ∷ items) none rest = ⊤
Follows (Part place ∷ items) (tree ▹ parts) rest = ((middle : List Token) → Spells (filled items (spell_all parts)) middle rest → Follow place tree middle) × Follows items parts rest

-- a fixed word is passed
word_there : (word : Word) → IsFixed word → (state : State) (token : Token) (tokens : List Token) → state.words ≡ token ∷ tokens → IsWord word token → at_word word state ≡ true
word_there (Key keyword) i state token tokens e h = ap (λ ws. kind_is_key keyword (first_kind ws)) e ∙ ap (λ w. kind_is_key keyword (kind_of_word w)) (word_back (Key keyword) token tt h) ∙ eq-eqb (keyword_number keyword) (keyword_number keyword) refl
word_there (Mark sign) i state token tokens e h = ap (λ ws. kind_is_mark sign (first_kind ws)) e ∙ ap (λ w. kind_is_mark sign (kind_of_word w)) (word_back (Mark sign) token tt h) ∙ eq-eqb (sign_number sign) (sign_number sign) refl
word_there _ i state token tokens e h = absurd i

pub said_first : (word : Word) → IsFixed word → (pieces : List Piece) (state : State) (rest : List Token) → Spells (Said word ∷ pieces) state.words rest → (past word state ≡ Some (skip state)) × Spells pieces (skip state).words rest
unfolding Spells
said_first word i pieces state rest h = by state.words refl h where
  by : (ws : List Token) → state.words ≡ ws → Spells (Said word ∷ pieces) ws rest → (past word state ≡ Some (skip state)) × Spells pieces (skip state).words rest
  by [] e g = absurd g
  by (token ∷ tokens) e g = (ap (λ b. if b then Some (skip state) else None) (word_there word i state token tokens e g.0), subst (λ ws. Spells pieces (behind_first ws) rest) (sym e) g.1)

-- a line in front: it tells the line of the first word, and leaves the words and the scope as they are
pub line_first : (x : Tree) → Takes p.Line x → (pieces : List Piece) (state : State) (rest : List Token) → Spells (spell x ++ pieces) state.words rest → (x ≡ At (line_at state)) × Spells pieces state.words rest
unfolding spell Spells
line_first x h pieces state rest sp =
    let l = is_line x h in
    let a = by l.0 state.words (subst (λ t. Spells (spell t ++ pieces) state.words rest) l.1 sp) in
    (l.1 ∙ ap At (sym a.0), a.1)
  where
    by : (line : ℕ) (ws : List Token) → Spells (Line line ∷ pieces) ws rest → (first_line ws ≡ line) × Spells pieces ws rest
    by line [] g = absurd g
    by line (token ∷ tokens) g = (g.0, g.1)

pub line_scope : (x : Tree) → Takes p.Line x → (scope : Scope) → (if is_scope p.Line then scope else after x scope) ≡ scope
unfolding after is_scope
line_scope x h scope = ap (λ t. after t scope) (is_line x h).1

pub word_allowed : (x w : Tree) (scope : Scope) → Takes p.Line x → Allowed w (if is_scope p.Line then scope else after x scope) → Allowed w scope
word_allowed x w scope h al = subst (λ sc. Allowed w sc) (line_scope x h scope) al

pub greatest_first : (tree : Tree) (rest : Trees) (n : ℕ) → greatest_depth (tree ▹ rest) < n → (depth tree < n) × (greatest_depth rest < n)
unfolding greatest_depth
greatest_first tree rest n h = (omega (arith, h), omega (arith, h))

pub parts_again : (bound : ℕ) (part : Place → Reader) (items : List Item) → AllSound bound part items → AllComplete bound part items → (state : State) (parts : Trees) (rest : List Token) → AllAllowed parts (places items) state.scope → greatest_depth parts < bound → Spells (filled items (spell_all parts)) state.words rest → Follows items parts rest → PartsReads part items state parts rest
unfolding AllAllowed Spells spell_all after is_scope spell Takes
parts_again bound part [] sound again state none rest al deep sp fo = (state, refl, sp)
parts_again bound part [] sound again state (tree ▹ parts) rest al deep sp fo = absurd al
parts_again bound part (Says word ∷ items) sound again state parts rest al deep sp fo =
    let a = said_first word fo.0 (filled items (spell_all parts)) state rest sp in
    let b = parts_again bound part items sound again (skip state) parts rest al deep a.1 fo.1 in
    (b.0, ap (λ o. o >>= (λ next. parts_of part items next)) a.0 ∙ b.1, b.2)
parts_again bound part (Here ∷ items) sound again state none rest al deep sp fo = absurd al
parts_again bound part (Here ∷ items) sound again state (tree ▹ parts) rest al deep sp fo =
    let a = line_first tree al.0 (filled items (spell_all parts)) state rest sp in
    let d = greatest_first tree parts bound deep in
    let b = parts_again bound part items sound again state parts rest (subst (λ sc. AllAllowed parts (places items) sc) (line_scope tree al.0 state.scope) al.2) d.1 a.1 fo in
    (b.0, ap (λ x. in_front x (parts_of part items state)) (sym a.0) ∙ ap (in_front tree) b.1, b.2)
parts_again bound part (Part place ∷ items) sound again state none rest al deep sp fo = absurd al
parts_again bound part (Part place ∷ items) sound again state (tree ▹ parts) rest al deep sp fo =
    let a = spells_split (spell tree) (filled items (spell_all parts)) state.words rest sp in
    let d = greatest_first tree parts bound deep in
    let one = again.0 state tree a.0 al.0 al.1 d.0 a.1 (fo.0 a.0 a.2) in
    let took = sound.0 state (tree, one.0) one.1 in
    let b = parts_again bound part items sound.1 again.1 one.0 parts rest (subst (λ sc. AllAllowed parts (places items) sc) (sym took.scope) al.2) d.1 (subst (λ ws. Spells (filled items (spell_all parts)) ws rest) (sym one.2) a.2) fo.1 in
    (b.0, ap (λ o. o >>= (λ (x : Tree × State). in_front x.0 (parts_of part items x.1))) one.1 ∙ ap (in_front tree) b.1, b.2)

-- a node of a form that has the same parts always
pub fixed_again : (bound : ℕ) (part : Place → Reader) (form : Form) → ((n : ℕ) → shape form n ≡ shape form zero) → AllSound bound part (shape form zero) → AllComplete bound part (shape form zero) → (state : State) (parts : Trees) (rest : List Token) → Allowed (Node form parts) state.scope → greatest_depth parts < bound → Spells (spell (Node form parts)) state.words rest → Follows (shape form zero) parts rest → Reads (fixed part form) state (Node form parts) rest
unfolding Allowed spell
fixed_again bound part form shaped sound again state parts rest al deep sp fo =
    let a = parts_again bound part (shape form zero) sound again state parts rest (subst (λ l. AllAllowed parts (places l) state.scope) (shaped (count parts)) al.1) deep (subst (λ l. Spells (filled l (spell_all parts)) state.words rest) (shaped (count parts)) sp) fo in
    (a.0, ap (node form) a.1, a.2)

-- the kind of the word that a spelling begins with
pub said_kind : (word : Word) → IsNamed word → (pieces : List Piece) (ws rest : List Token) → Spells (Said word ∷ pieces) ws rest → first_kind ws ≡ kind_of_word word
unfolding Spells
said_kind word n pieces [] rest h = absurd h
said_kind word n pieces (token ∷ tokens) rest h = ap kind_of_word (word_back word token n h.0)

-- its spelling
pub said_bytes : (word : Word) (pieces : List Piece) (ws rest : List Token) → Spells (Said word ∷ pieces) ws rest → first_bytes ws ≡ word_bytes word
unfolding Spells
said_bytes word pieces [] rest h = absurd h
said_bytes word pieces (token ∷ tokens) rest h = h.0.1

-- a spelling takes its words
pub spells_shorter : (pieces : List Piece) (ws rest : List Token) → Spells pieces ws rest → length rest ≤ length ws
unfolding Spells
spells_shorter [] ws rest h = let e = ap length h in omega (arith, e)
spells_shorter (Said word ∷ pieces) [] rest h = absurd h
spells_shorter (Said word ∷ pieces) (token ∷ ws) rest h = let le = spells_shorter pieces ws rest h.1 in omega (arith, le)
spells_shorter (Line line ∷ pieces) [] rest h = absurd h
spells_shorter (Line line ∷ pieces) (token ∷ ws) rest h = spells_shorter pieces (token ∷ ws) rest h.1

pub said_shorter : (word : Word) (pieces : List Piece) (ws rest : List Token) → Spells (Said word ∷ pieces) ws rest → length rest < length ws
unfolding Spells
said_shorter word pieces [] rest h = absurd h
said_shorter word pieces (token ∷ ws) rest h = let le = spells_shorter pieces ws rest h.1 in omega (arith, le)

-- Operators by their signs, and what stops an expression.

pub unary_sign_op : (op : UnaryOp) → e.unary_op (unary_sign op) ≡ Some (f.Unary op)
unfolding e.unary_op unary_sign
unary_sign_op u.Address = refl
unary_sign_op _ = refl

pub binary_sign_op : (op : BinaryOp) → e.binary_op (binary_sign op) ≡ Some op
unfolding e.binary_op binary_sign
binary_sign_op b.Or = refl
binary_sign_op _ = refl

pub assign_sign_op : (op : AssignOp) → e.assign_op (assign_sign op) ≡ Some op
unfolding e.assign_op assign_sign
assign_sign_op a.Plain = refl
assign_sign_op _ = refl

-- an operator's sign stops what binds tighter
pub binary_sign_stops : (op : BinaryOp) (level : ℕ) → level ≤ operand_level op → stops level (kinds.Mark (binary_sign op)) ≡ true
unfolding sign_end binary_sign
binary_sign_stops b.Or level h = lt-ltb level _ (omega (arith, h))
binary_sign_stops _ level h = lt-ltb level _ (omega (arith, h))

pub assign_sign_stops : (op : AssignOp) → stops 13 (kinds.Mark (assign_sign op)) ≡ true
unfolding sign_end assign_sign
assign_sign_stops a.Plain = refl
assign_sign_stops _ = refl

-- where no operator of this level stands, none is taken
ends : (sign : Sign) → (sign_end sign ≤ binary_end (e.binary_op sign)) × (sign_end sign ≤ assign_end (e.assign_op sign))
unfolding sign_end
ends s.LeftBracket = omega arith
ends _ = omega arith

not_at_level : (level : ℕ) (o : Option BinaryOp) → suc level < binary_end o → e.at_level level o ≡ None
not_at_level level None lt = refl
not_at_level level (Some op) lt = ap (λ t. if t then Some op else None) (ne_eqb (operand_level op) level (λ x. omega (arith, lt, x)))

pub no_binary : (level : ℕ) (kind : Kind) → stops (suc level) kind ≡ true → e.at_level level (e.of_mark e.binary_op kind) ≡ None
no_binary level (kinds.Mark sign) h =
    let lt = ltb-true (suc level) (sign_end sign) h in
    let le = (ends sign).0 in
    not_at_level level (e.binary_op sign) (omega (arith, lt, le))
no_binary level _ h = refl

pub yes_binary : (op : BinaryOp) (level : ℕ) → operand_level op ≡ level → e.at_level level (e.of_mark e.binary_op (kinds.Mark (binary_sign op))) ≡ Some op
yes_binary op level h = ap (e.at_level level) (binary_sign_op op) ∙ ap (λ t. if t then Some op else None) (eq-eqb (operand_level op) level h)

postfix_none : (sign : Sign) (level : ℕ) → level < sign_end sign → e.postfix_op sign ≡ None
unfolding sign_end e.postfix_op
postfix_none s.Dot level lt = absurd (omega (arith, lt))
postfix_none _ level lt = first_of (search, grind arith)

pub no_postfix : (level : ℕ) (kind : Kind) → stops level kind ≡ true → e.of_mark e.postfix_op kind ≡ None
no_postfix level (kinds.Mark sign) h = postfix_none sign level (ltb-true level (sign_end sign) h)
no_postfix level _ h = refl

pub no_str : (level : ℕ) (kind : Kind) → stops level kind ≡ true → is_str kind ≡ false
no_str level kinds.Str h = absurd (false≢true h)
no_str level _ h = refl

pub no_question : (kind : Kind) → stops 13 kind ≡ true → kind_is_mark s.Question kind ≡ false
unfolding sign_end sign_number
no_question (kinds.Mark s.Question) h = absurd (false≢true h)
no_question _ h = refl

pub no_comma : (kind : Kind) → stops 15 kind ≡ true → kind_is_mark s.Comma kind ≡ false
unfolding sign_end sign_number
no_comma (kinds.Mark s.Comma) h = absurd (false≢true h)
no_comma _ h = refl

assign_none : (o : Option AssignOp) → 14 < assign_end o → o ≡ None
assign_none None lt = refl
assign_none (Some op) lt = absurd (omega (arith, lt))

pub no_assign : (kind : Kind) → stops 14 kind ≡ true → e.of_mark e.assign_op kind ≡ None
no_assign (kinds.Mark sign) h =
    let lt = ltb-true 14 (sign_end sign) h in
    let le = (ends sign).1 in
    assign_none (e.assign_op sign) (omega (arith, lt, le))
no_assign _ h = refl

-- what stops a level stops each tighter one
pub stops_tighter : (l m : ℕ) (kind : Kind) → l ≤ m → stops m kind ≡ true → stops l kind ≡ true
stops_tighter l m (kinds.Mark sign) le h = let lt = ltb-true m (sign_end sign) h in lt-ltb l (sign_end sign) (omega (arith, le, lt))
stops_tighter l m kinds.End le h = refl
stops_tighter l m _ le h = absurd (false≢true h)

-- what stops any level stops a cast
sign_two : (sign : Sign) (l : ℕ) → l < sign_end sign → 2 < sign_end sign
unfolding sign_end
sign_two s.LeftBracket l lt = omega (arith, lt)
sign_two _ l lt = omega (arith, lt)

pub stops_two : (l : ℕ) (kind : Kind) → stops l kind ≡ true → stops 2 kind ≡ true
stops_two l (kinds.Mark sign) h = lt-ltb 2 (sign_end sign) (sign_two sign l (ltb-true l (sign_end sign) h))
stops_two l kinds.End h = refl
stops_two l _ h = absurd (false≢true h)
