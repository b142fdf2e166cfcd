-- Depth and sorts of declarators; suffixes and declarators are read again.
use Rattle.std.proofs.Common.{◌≡◌, ℕ, suc, ◌+◌, ◌<◌, false, sym, ap, subst, arith, Some, ◌∙◌, zero, true, List, [], ◌∷◌, ◌++◌, replicate, None, refl, Bool}
use Rattle.std.specs.Prelude.{if◌then◌else◌, ◌&&◌, not, nat_le}
use Rattle.std.proofs.lemmas.Bool.{false≢true, and_from, and_parts, le-leb}
use Rattle.c_lexer.specs.declared.token.Token.{Token}
use Rattle.c_tree.specs.Forms.{Form}
use Rattle.c_tree.specs.Places.{Place}
use Rattle.c_tree.specs.Tree.{Tree, Trees, At, Node, none, ◌▹◌, Leaf, count}
use Rattle.c_tree.specs.Grammar.{home, Part, key, mark, rows, shape, form_home, keyword_home}
use Rattle.c_tree.specs.Allowed.{Takes, Allowed, AllAllowed, obeys, is_void, words_of, are_specs, tally, with_keyword, IsDeclarator, IsBase}
use Rattle.c_tree.specs.Depth.{depth, layer, layers, layers_all, below, greatest_below, greatest_depth, is_of_declarator, weight}
use Rattle.c_tree.specs.Words.{Key, Mark, Name}
use Rattle.c_tree.specs.Spelling.{Said, spell, spell_all, filled, Spells, Piece, IsWord}
use Rattle.c_tree.specs.Scopes.{is_scope, Scope, places, after, left, name_of, name_among, leads_to_name}
use Rattle.c_tree.specs.declared.word.Sign.{Sign}
use Rattle.c_tree.specs.declared.word.Keyword.{Keyword}
use Rattle.c_tree.specs.Forms as f
use Rattle.c_tree.specs.Places as p
use Rattle.c_tree.specs.declared.word.Keyword.TheVariants as k
use Rattle.c_tree.specs.declared.word.Sign.TheVariants as s
use Rattle.grammar_reading.specs.declared.kind.Kind.{Kind}
use Rattle.grammar_reading.specs.State.{State, kind_at, skip, first_kind, kind_is_key, kind_is_mark, keyword_number, sign_number, at_mark, line_at, left_at, first_line, first_word, behind_first, kind_of_word, at_key, with_new_params, word_at, past}
use Rattle.grammar_reading.specs.Reading.{Reader, fixed, ◌>>=◌, snoc, joined, node, in_front}
use Rattle.grammar_reading.specs.ReadingEquations.{some_same}
use Rattle.grammar_reading.specs.Laws.{behind}
use Rattle.grammar_reading.specs.declared.kind.Kind.TheVariants as kinds
use Rattle.grammar_reading.specs.Declarators as d
use Rattle.grammar_reading.proofs.Forms.{is_line, only_form, only_node, word_of_word, Sound, all_sound}
use Rattle.grammar_reading.proofs.Words.{spells_split, Has, word_of_is, at_key_first, at_mark_first}
use Rattle.grammar_reading.proofs.sound.Declarators.{IsSort, Named, array_took, function_took, sort_takes, takes_sort, name_behind_line, name_direct, base_took}
use Rattle.grammar_reading.proofs.complete.Reads.{Follow, is_read, said_kind, said_first, after_declarator, word_allowed, AllAgain, all_complete, Reads, fixed_again, line_scope, Complete, line_first}
use Rattle.grammar_reading.proofs.complete.Firsts.{word_after_line, start_no_mark, begins_declarator, begins_direct, begins_or, begins_or_end, first, rows_long, begins}
use Rattle.grammar_reading.proofs.Nodes.{joined_none, joined_snoc}
use Rattle.grammar_reading.proofs.complete.Expressions.{said_word}

-- what is of no declarator has no layers of the one that it is in
pub no_layers : (place : Place) (one : Form) (tree : Tree) → only_form place ≡ Some one → is_of_declarator one ≡ false → home tree ≡ place → layers tree ≡ 0
unfolding layers
no_layers place one tree e flat h = let a = only_node place one tree e h in ap layers a.1 ∙ ap (λ b. if b then layer one + layers_all a.0 else 0) flat

-- Depth: all layers of a declarator lie on each path through it

-- the part of a suffix, and the suffixes behind it
abbrev pub SuffixDepth : Form → Trees → Trees → ℕ → Type 0
SuffixDepth form parts more room = layers_all (Node form parts ▹ more) + greatest_below (Node form parts ▹ more) < suc room → (greatest_depth parts < room) × (layers_all more + greatest_below more < suc room)

array_line : (line : ℕ) (m : Tree) (more : Trees) (room : ℕ) → layers m ≡ 0 → SuffixDepth f.ArraySuffix (At line ▹ m ▹ none) more room
unfolding layers below greatest_depth layer is_of_declarator
array_line line m more room flat deep = (omega (arith, flat, deep), omega (arith, flat, deep))

pub array_depth : (x m : Tree) (more : Trees) (room : ℕ) → Takes p.Line x → layers m ≡ 0 → SuffixDepth f.ArraySuffix (x ▹ m ▹ none) more room
array_depth x m more room h flat =
    let l = is_line x h in
    subst (λ y. SuffixDepth f.ArraySuffix (y ▹ m ▹ none) more room) (sym l.1) (array_line l.0 m more room flat)

function_line : (line : ℕ) (m : Tree) (more : Trees) (room : ℕ) → layers m ≡ 0 → SuffixDepth f.FunctionSuffix (At line ▹ m ▹ none) more room
unfolding layers below greatest_depth layer is_of_declarator
function_line line m more room flat deep = (omega (arith, flat, deep), omega (arith, flat, deep))

pub function_depth : (x m : Tree) (more : Trees) (room : ℕ) → Takes p.Line x → layers m ≡ 0 → SuffixDepth f.FunctionSuffix (x ▹ m ▹ none) more room
function_depth x m more room h flat =
    let l = is_line x h in
    subst (λ y. SuffixDepth f.FunctionSuffix (y ▹ m ▹ none) more room) (sym l.1) (function_line l.0 m more room flat)

void_line : (line : ℕ) (more : Trees) (room : ℕ) → SuffixDepth f.VoidSuffix (At line ▹ none) more room
unfolding layers below greatest_depth layer is_of_declarator
void_line line more room deep = (omega (arith, deep), omega (arith, deep))

pub void_depth : (x : Tree) (more : Trees) (room : ℕ) → Takes p.Line x → SuffixDepth f.VoidSuffix (x ▹ none) more room
void_depth x more room h =
    let l = is_line x h in
    subst (λ y. SuffixDepth f.VoidSuffix (y ▹ none) more room) (sym l.1) (void_line l.0 more room)

pub direct_depth : (base : Tree) (suffixes : Trees) (room : ℕ) → depth (Node f.Direct (base ▹ Node f.Suffixes suffixes ▹ none)) < suc room → (depth base < suc room) × (layers_all suffixes + greatest_below suffixes < suc room)
unfolding layers below layer is_of_declarator
direct_depth base suffixes room deep = (omega (arith, deep), omega (arith, deep))

parens_line : (line : ℕ) (x : Tree) (room : ℕ) → depth (Node f.Parens (At line ▹ x ▹ none)) < suc room → depth x < room
unfolding layers below layer is_of_declarator
parens_line line x room deep = omega (arith, deep)

pub parens_depth : (l x : Tree) (room : ℕ) → Takes p.Line l → depth (Node f.Parens (l ▹ x ▹ none)) < suc room → depth x < room
parens_depth l x room h deep =
    let a = is_line l h in
    parens_line a.0 x room (subst (λ y. depth (Node f.Parens (y ▹ x ▹ none)) < suc room) a.1 deep)

pointer_line : (consts line : ℕ) (x : Tree) (room : ℕ) → depth (Node (f.Pointer consts) (At line ▹ x ▹ none)) < suc room → depth x < room
unfolding layers below layer is_of_declarator
pointer_line consts line x room deep = omega (arith, deep)

pub pointer_depth : (consts : ℕ) (l x : Tree) (room : ℕ) → Takes p.Line l → depth (Node (f.Pointer consts) (l ▹ x ▹ none)) < suc room → depth x < room
pointer_depth consts l x room h deep =
    let a = is_line l h in
    pointer_line consts a.0 x room (subst (λ y. depth (Node (f.Pointer consts) (y ▹ x ▹ none)) < suc room) a.1 deep)

-- Sorts of declarators, the words `const` of a pointer, and declarators without a base.

-- Sorts

pub sort_read : (sort : Place) → IsSort sort → is_read sort ≡ true
sort_read p.AnyDeclarator i = refl
sort_read _ i = first_of (assumption, search)

pub sort_follow : (sort : Place) → IsSort sort → (tree : Tree) (ws : List Token) → after_declarator (first_kind ws) ≡ true → Follow sort tree ws
unfolding Follow
sort_follow p.AnyDeclarator i tree ws h = h
sort_follow _ i tree ws h = first_of (assumption, search)

pub follow_sort : (sort : Place) → IsSort sort → (tree : Tree) (ws : List Token) → Follow sort tree ws → after_declarator (first_kind ws) ≡ true
unfolding Follow
follow_sort p.AnyDeclarator i tree ws h = h
follow_sort _ i tree ws h = first_of (assumption, search)

pub named_may : (sort : Place) → IsSort sort → (bytes : List ℕ) → Named sort (Some bytes) → d.may_name sort ≡ true
named_may p.AnyDeclarator i bytes h = refl
named_may _ i bytes h = first_of (assumption, cc)

pub none_must : (sort : Place) → IsSort sort → Named sort None → d.must_name sort ≡ false
none_must p.AnyDeclarator i h = refl
none_must _ i h = first_of (assumption, cc)

-- The words `const`

abbrev pub NoConst : Kind → Type 0
NoConst kind = kind_is_key k.Const kind ≡ false

no_const_end : (kind : Kind) → after_declarator kind ≡ true → NoConst kind
unfolding after_declarator sign_number
no_const_end (kinds.Key keyword) h = absurd (false≢true h)
no_const_end _ h = refl

no_const_declarator : (kind : Kind) → begins_declarator kind ≡ true → NoConst kind
unfolding begins_direct
no_const_declarator kinds.Name h = refl
no_const_declarator _ h = first_of (cc, search)

pub no_const_first : (x : Tree) (state : State) (rest : List Token) → Takes p.AnyDeclarator x → Allowed x state.scope → after_declarator (first_kind rest) ≡ true → Spells (spell x) state.words rest → NoConst (kind_at state)
unfolding first
no_const_first x state rest h al end sp =
    begins_or_end NoConst p.AnyDeclarator x state rest h al sp (λ e. no_const_declarator (kind_at state) e) (no_const_end (first_kind rest) end)

-- they are counted and passed
pub consts_passed : (n : ℕ) (x : Tree) (ws rest : List Token) → Spells (filled (replicate n (key k.Const) ++ Part p.AnyDeclarator ∷ []) (spell x ∷ [])) ws rest → ((us : List Token) → Spells (spell x) us rest → NoConst (first_kind us)) → (d.leading_consts ws ≡ n) × Spells (spell x) (d.behind_consts ws) rest
unfolding Spells keyword_number
consts_passed zero x ws rest sp free =
    let a = spells_split (spell x) [] ws rest sp in
    by ws (subst (λ us. Spells (spell x) ws us) a.2 a.1)
  where
    by : (ws : List Token) → Spells (spell x) ws rest → (d.leading_consts ws ≡ 0) × Spells (spell x) (d.behind_consts ws) rest
    by [] g = (refl, g)
    by (token ∷ tokens) g =
        let no = free (token ∷ tokens) g in
        (ap (λ b. if b then suc (d.leading_consts tokens) else zero) no, subst (λ b. Spells (spell x) (if b then d.behind_consts tokens else token ∷ tokens) rest) (sym no) g)
consts_passed (suc n) x [] rest sp free = absurd sp
consts_passed (suc n) x (token ∷ tokens) rest sp free =
    let a = consts_passed n x tokens rest sp.1 free in
    let yes : kind_is_key k.Const (first_kind (token ∷ tokens)) ≡ true = ap (kind_is_key k.Const) (said_kind (Key k.Const) tt [] (token ∷ tokens) tokens (sp.0, refl)) in
    (ap (λ b. if b then suc (d.leading_consts tokens) else zero) yes ∙ ap suc a.0, subst (λ b. Spells (spell x) (if b then d.behind_consts tokens else token ∷ tokens) rest) (sym yes) a.1)

-- What begins no inner declarator

abbrev pub NoStar : Kind → Type 0
NoStar kind = kind_is_mark s.Star kind ≡ false

params_no_star : (m : Tree) (state : State) (rest : List Token) → Takes p.Params m → Allowed m state.scope → Spells (spell m ++ Said (Mark s.RightParen) ∷ []) state.words rest → at_mark s.Star state ≡ false
unfolding first sign_number
params_no_star m state rest h al sp =
    begins_or NoStar p.Params m (Said (Mark s.RightParen) ∷ []) state rest h al sp (λ e. start_no_mark s.Star (kind_at state) state e) (λ middle g. ap (kind_is_mark s.Star) (said_kind (Mark s.RightParen) tt [] middle rest g))

-- a suffix behind nothing
abbrev pub Empty : Place → State → Type 0
Empty sort state = (inner : Place → Reader) (room : ℕ) → d.base_by inner room sort (kind_at state) state ≡ d.no_base sort state

empty_end : (sort : Place) (kind : Kind) (state : State) (inner : Place → Reader) (room : ℕ) → after_declarator kind ≡ true → d.base_by inner room sort kind state ≡ d.no_base sort state
unfolding after_declarator sign_number
empty_end sort kinds.Name state inner room h = absurd (false≢true h)
empty_end sort (kinds.Mark s.LeftParen) state inner room h = absurd (false≢true h)
empty_end sort _ state inner room h = refl

empty_open : (sort : Place) (state : State) → kind_at state ≡ kinds.Mark s.LeftParen → at_mark s.Star (skip state) ≡ false → Empty sort state
empty_open sort state kind free inner room = ap (λ q. d.base_by inner room sort q state) kind ∙ ap (λ b. if b then fixed (d.same_sort inner room sort) f.Parens state else d.no_base sort state) free

empty_form : (sort : Place) (form : Form) (parts : Trees) (state : State) (rest : List Token) → form_home form ≡ p.Suffix → Allowed (Node form parts) state.scope → Spells (spell (Node form parts)) state.words rest → Empty sort state
unfolding form_home Allowed AllAllowed shape spell spell_all Takes is_scope sign_number
empty_form sort f.ArraySuffix none state rest h al sp inner room = absurd al.1
empty_form sort f.ArraySuffix (x ▹ more) state rest h al sp inner room =
    ap (λ q. d.base_by inner room sort q state) (word_after_line (Mark s.LeftBracket) x (filled (Part p.MaybeLength ∷ mark s.RightBracket ∷ []) (spell_all more)) state rest al.1.0 tt sp).0
empty_form sort f.FunctionSuffix (x ▹ m ▹ more) state rest h al sp inner room =
    let tail = filled (mark s.RightParen ∷ []) (spell_all more) in
    let w = word_after_line (Mark s.LeftParen) x (spell m ++ tail) state rest al.1.0 tt sp in
    let next = said_first (Mark s.LeftParen) tt (spell m ++ tail) state rest w.1 in
    empty_open sort state w.0 (params_no_star m (skip state) rest al.1.2.0 (word_allowed x m state.scope al.1.0 al.1.2.1) next.1) inner room
empty_form sort f.FunctionSuffix _ state rest h al sp inner room = absurd assumption
empty_form sort f.VoidSuffix none state rest h al sp inner room = absurd al.1
empty_form sort f.VoidSuffix (x ▹ more) state rest h al sp inner room =
    let tail = Said (Key k.Void) ∷ Said (Mark s.RightParen) ∷ [] in
    let w = word_after_line (Mark s.LeftParen) x tail state rest al.1.0 tt sp in
    let next = said_first (Mark s.LeftParen) tt tail state rest w.1 in
    empty_open sort state w.0 (ap (kind_is_mark s.Star) (said_kind (Key k.Void) tt (Said (Mark s.RightParen) ∷ []) (skip state).words rest next.1)) inner room
empty_form sort _ parts state rest h al sp inner room = absurd (cc)

empty_suffix : (sort : Place) (tree : Tree) (state : State) (rest : List Token) → home tree ≡ p.Suffix → Allowed tree state.scope → Spells (spell tree) state.words rest → Empty sort state
empty_suffix sort (Leaf word) state rest h al sp inner room = absurd (cc (word_of_word word))
empty_suffix sort (At line) state rest h al sp inner room = absurd (cc)
empty_suffix sort (Node form parts) state rest h al sp inner room = empty_form sort form parts state rest h al sp inner room

-- a declarator without a base
pub empty_base : (sort : Place) (parts : Trees) (state : State) (rest : List Token) → Allowed (Node f.Suffixes parts) state.scope → Spells (spell (Node f.Suffixes parts)) state.words rest → after_declarator (first_kind rest) ≡ true → Empty sort state
unfolding Allowed AllAllowed shape spell spell_all Takes Spells
empty_base sort none state rest al sp end inner room = empty_end sort (kind_at state) state inner room (ap (λ ws. after_declarator (first_kind ws)) sp ∙ end)
empty_base sort (tree ▹ more) state rest al sp end inner room =
    let a = spells_split (spell tree) (filled (rows p.Suffix (count more)) (spell_all more)) state.words rest sp in
    empty_suffix sort tree state a.0 al.1.0 al.1.1 a.1 inner room

-- Suffixes of declarators are read again.

-- The list `(void)`

void_seen : (state : State) (pieces : List Piece) (rest : List Token) → Spells (Said (Mark s.LeftParen) ∷ Said (Key k.Void) ∷ Said (Mark s.RightParen) ∷ pieces) state.words rest → (at_key k.Void (skip state) && at_mark s.RightParen (skip (skip state))) ≡ true
unfolding keyword_number sign_number
void_seen state pieces rest sp =
    let a = said_first (Mark s.LeftParen) tt (Said (Key k.Void) ∷ Said (Mark s.RightParen) ∷ pieces) state rest sp in
    let b = said_first (Key k.Void) tt (Said (Mark s.RightParen) ∷ pieces) (skip state) rest a.1 in
    and_from (at_key k.Void (skip state)) (at_mark s.RightParen (skip (skip state))) (ap (kind_is_key k.Void) (said_kind (Key k.Void) tt (Said (Mark s.RightParen) ∷ pieces) (skip state).words rest a.1)) (ap (kind_is_mark s.RightParen) (said_kind (Mark s.RightParen) tt pieces (skip (skip state)).words rest b.1))

-- the parameter list that its one word would be
abbrev void_list : ℕ → Tree
void_list line = Node f.Params (Node f.Param (At line ▹ Node f.Specs (At line ▹ Leaf (Key k.Void) ▹ none) ▹ Node f.Direct (Node f.Nothing none ▹ Node f.Suffixes none ▹ none) ▹ none) ▹ none)

void_takes : (line : ℕ) → Takes p.Params (void_list line)
unfolding Takes form_home
void_takes line = refl

void_allowed : (line : ℕ) (scope : Scope) → Allowed (void_list line) scope
unfolding Allowed AllAllowed shape obeys Takes form_home keyword_home are_specs tally with_keyword
void_allowed line scope = (refl, (refl, (refl, (refl, tt, ((refl, refl), (refl, (refl, tt, (refl, tt, tt))), (tt, (refl, (tt, (refl, tt), (refl, (refl, tt), tt))), tt)))), tt))

void_depth_zero : (line : ℕ) → depth (void_list line) ≡ 0
unfolding layers below greatest_depth weight is_of_declarator form_home layer
void_depth_zero line = omega arith

void_obeys : (line other : ℕ) → not (is_void (words_of (At other ▹ void_list line ▹ none))) ≡ false
unfolding spell spell_all shape is_void
void_obeys line other = refl

void_spells : (ws : List Token) → kind_is_key k.Void (first_kind ws) ≡ true → Spells (spell (void_list (first_line ws))) ws (behind_first ws)
unfolding spell spell_all shape Spells
void_spells [] h = absurd (false≢true h)
void_spells (token ∷ ws) h = (refl, (refl, (subst (λ w. IsWord w token) (at_key_first k.Void (token ∷ ws) h).1 (word_of_is token), refl)))

-- a word that was seen is of its kind
has_kind : (ws : List Token) → Has ws → first_kind ws ≡ kind_of_word (first_word ws)
has_kind [] h = absurd h
has_kind (token ∷ ws) h = refl

mark_seen : (sign : Sign) (ws : List Token) → kind_is_mark sign (first_kind ws) ≡ true → first_kind ws ≡ kinds.Mark sign
mark_seen sign ws h = let a = at_mark_first sign ws h in has_kind ws a.0 ∙ ap kind_of_word a.1

module _ (inner : Place → Reader) (room : ℕ) (deeper : (place : Place) → Sound room place (inner place)) (again : AllAgain room inner) where
  -- parameters are not the one word `void`: that list too would be read where they stand
  not_void : (x m : Tree) (state : State) (rest : List Token) → Allowed (Node f.FunctionSuffix (x ▹ m ▹ none)) state.scope → depth m < room → Spells (spell (Node f.FunctionSuffix (x ▹ m ▹ none))) state.words rest → d.is_void_list state ≡ false
  unfolding Allowed AllAllowed shape spell spell_all Takes obeys Follow is_scope
  not_void x m state rest al deep sp = by (d.is_void_list state) refl where
    by : (b : Bool) → d.is_void_list state ≡ b → b ≡ false
    by false e = refl
    by true e =
        let tail = Said (Mark s.RightParen) ∷ [] in
        let seen = and_parts (at_key k.Void (skip state)) (at_mark s.RightParen (skip (skip state))) e in
        let w = word_after_line (Mark s.LeftParen) x (spell m ++ tail) state rest al.1.0 tt sp in
        let next = said_first (Mark s.LeftParen) tt (spell m ++ tail) state rest w.1 in
        let b = spells_split (spell m) tail (skip state).words rest next.1 in
        let scope = line_scope x al.1.0 state.scope in
        let one = again p.Params refl (skip state) m b.0 al.1.2.0 (subst (λ sc. Allowed m sc) scope al.1.2.1) deep b.1 (said_kind (Mark s.RightParen) tt [] b.0 rest b.2) in
        let line = line_at (skip state) in
        let zero_ = void_depth_zero line in
        let two = again p.Params refl (skip state) (void_list line) (skip (skip state)).words (void_takes line) (void_allowed line (skip state).scope) (omega (arith, zero_, deep)) (void_spells (skip state).words seen.0) (mark_seen s.RightParen (skip (skip state)).words seen.1) in
        let same : m ≡ void_list line = ap (λ (y : Tree × State). y.0) (some_same (sym one.1 ∙ two.1)) in
        let l = is_line x al.1.0 in
        let free = subst (λ y. not (is_void (words_of (x ▹ y ▹ none))) ≡ true) same al.0 in
        let free2 = subst (λ y. not (is_void (words_of (y ▹ void_list line ▹ none))) ≡ true) l.1 free in
        absurd (false≢true (sym (void_obeys line l.0) ∙ free2))

  -- Suffixes

  array_reads : (x m : Tree) (state : State) (rest : List Token) → Allowed (Node f.ArraySuffix (x ▹ m ▹ none)) state.scope → greatest_depth (x ▹ m ▹ none) < room → Spells (spell (Node f.ArraySuffix (x ▹ m ▹ none))) state.words rest → Reads (fixed inner f.ArraySuffix) state (Node f.ArraySuffix (x ▹ m ▹ none)) rest
  unfolding shape Follow spell_all
  array_reads x m state rest al deep sp =
      fixed_again room inner f.ArraySuffix (λ n. refl) (all_sound room inner deeper (shape f.ArraySuffix zero)) (all_complete room inner again (shape f.ArraySuffix zero) refl) state (x ▹ m ▹ none) rest al deep sp (tt, ((λ middle g. said_kind (Mark s.RightBracket) tt [] middle rest g), (tt, tt)))

  void_reads : (x : Tree) (state : State) (rest : List Token) → Allowed (Node f.VoidSuffix (x ▹ none)) state.scope → greatest_depth (x ▹ none) < room → Spells (spell (Node f.VoidSuffix (x ▹ none))) state.words rest → Reads (d.function_suffix_at inner room) state (Node f.VoidSuffix (x ▹ none)) rest
  unfolding shape Follow spell_all spell Allowed AllAllowed
  void_reads x state rest al deep sp =
      let w = word_after_line (Mark s.LeftParen) x (Said (Key k.Void) ∷ Said (Mark s.RightParen) ∷ []) state rest al.1.0 tt sp in
      let r = fixed_again room inner f.VoidSuffix (λ n. refl) (all_sound room inner deeper (shape f.VoidSuffix zero)) (all_complete room inner again (shape f.VoidSuffix zero) refl) state (x ▹ none) rest al deep sp (tt, (tt, (tt, tt))) in
      (with_new_params state r.0, ap (λ b. if b then fixed inner f.VoidSuffix state >>= (λ (y : Tree × State). Some (y.0, with_new_params state y.1)) else fixed inner f.FunctionSuffix state >>= (λ (y : Tree × State). Some (y.0, with_new_params state y.1))) (void_seen state [] rest w.1) ∙ ap (λ o. o >>= (λ (y : Tree × State). Some (y.0, with_new_params state y.1))) r.1, r.2)

  function_reads : (x m : Tree) (state : State) (rest : List Token) → Allowed (Node f.FunctionSuffix (x ▹ m ▹ none)) state.scope → greatest_depth (x ▹ m ▹ none) < room → Spells (spell (Node f.FunctionSuffix (x ▹ m ▹ none))) state.words rest → Reads (d.function_suffix_at inner room) state (Node f.FunctionSuffix (x ▹ m ▹ none)) rest
  unfolding shape Follow spell_all greatest_depth
  function_reads x m state rest al deep sp =
      let r = fixed_again room inner f.FunctionSuffix (λ n. refl) (all_sound room inner deeper (shape f.FunctionSuffix zero)) (all_complete room inner again (shape f.FunctionSuffix zero) refl) state (x ▹ m ▹ none) rest al deep sp (tt, ((λ middle g. said_kind (Mark s.RightParen) tt [] middle rest g), (tt, tt))) in
      (with_new_params state r.0, ap (λ b. if b then fixed inner f.VoidSuffix state >>= (λ (y : Tree × State). Some (y.0, with_new_params state y.1)) else fixed inner f.FunctionSuffix state >>= (λ (y : Tree × State). Some (y.0, with_new_params state y.1))) (not_void x m state rest al (omega (arith, deep)) sp) ∙ ap (λ o. o >>= (λ (y : Tree × State). Some (y.0, with_new_params state y.1))) r.1, r.2)

  -- one suffix more
  abbrev Step : ℕ → Bool → Trees → Tree → State → List Token → Type 0
  Step turns first done tree state middle = (out : State) × (d.suffixes_from inner room (suc turns) first done state ≡ d.suffixes_from inner room turns false (snoc done tree) out) × (out.words ≡ middle) × (out.scope ≡ after tree state.scope)

  kept_words : (first : Bool) (before behind : State) → (d.keep_params first before behind).words ≡ behind.words
  kept_words true before behind = refl
  kept_words false before behind = refl

  kept_scope : (first : Bool) (before behind : State) → (d.keep_params first before behind).scope ≡ behind.scope
  kept_scope true before behind = refl
  kept_scope false before behind = refl

  array_step : (turns : ℕ) (first : Bool) (done : Trees) (tree : Tree) (state : State) (middle : List Token) → kind_at state ≡ kinds.Mark s.LeftBracket → Reads (fixed inner f.ArraySuffix) state tree middle → Step turns first done tree state middle
  unfolding is_scope
  array_step turns first done tree state middle kind r =
      let took = (array_took inner room deeper state (tree, r.0) r.1).took in
      (d.keep_params first state r.0, ap (λ kind. d.suffixes_by inner room (d.suffixes_from inner room turns) first done kind state) kind ∙ ap (λ o. o >>= (λ (y : Tree × State). d.suffixes_from inner room turns false (snoc done y.0) (d.keep_params first state y.1))) r.1, kept_words first state r.0 ∙ r.2, kept_scope first state r.0 ∙ took.scope)

  function_step : (turns : ℕ) (first : Bool) (done : Trees) (tree : Tree) (state : State) (middle : List Token) → kind_at state ≡ kinds.Mark s.LeftParen → Reads (d.function_suffix_at inner room) state tree middle → Step turns first done tree state middle
  unfolding is_scope
  function_step turns first done tree state middle kind r =
      let took = (function_took inner room deeper state (tree, r.0) r.1).took in
      (d.keep_params first state r.0, ap (λ kind. d.suffixes_by inner room (d.suffixes_from inner room turns) first done kind state) kind ∙ ap (λ o. o >>= (λ (y : Tree × State). d.suffixes_from inner room turns false (snoc done y.0) (d.keep_params first state y.1))) r.1, kept_words first state r.0 ∙ r.2, kept_scope first state r.0 ∙ took.scope)

  -- a suffix is read, takes a word, and leaves room for those behind it
  abbrev Suffix : ℕ → Bool → Trees → Tree → Trees → State → List Token → Type 0
  Suffix turns first done tree more state middle = Step turns first done tree state middle × (layers_all more + greatest_below more < suc room)

  suffix_form : (turns : ℕ) (first : Bool) (done : Trees) (form : Form) (parts more : Trees) (state : State) (middle : List Token) → form_home form ≡ p.Suffix → Allowed (Node form parts) state.scope → layers_all (Node form parts ▹ more) + greatest_below (Node form parts ▹ more) < suc room → Spells (spell (Node form parts)) state.words middle → Suffix turns first done (Node form parts) more state middle
  unfolding form_home Allowed AllAllowed shape spell spell_all Takes is_of_declarator
  suffix_form turns first done f.ArraySuffix (x ▹ m ▹ none) more state middle h al deep sp =
      let n = array_depth x m more room al.1.0 (no_layers p.MaybeLength f.MaybeLength m refl refl al.1.2.0) deep in
      let w = word_after_line (Mark s.LeftBracket) x (spell m ++ Said (Mark s.RightBracket) ∷ []) state middle al.1.0 tt sp in
      (array_step turns first done (Node f.ArraySuffix (x ▹ m ▹ none)) state middle w.0 (array_reads x m state middle al n.0 sp), n.1)
  suffix_form turns first done f.ArraySuffix _ more state middle h al deep sp = absurd assumption
  suffix_form turns first done f.FunctionSuffix (x ▹ m ▹ none) more state middle h al deep sp =
      let n = function_depth x m more room al.1.0 (no_layers p.Params f.Params m refl refl al.1.2.0) deep in
      let w = word_after_line (Mark s.LeftParen) x (spell m ++ Said (Mark s.RightParen) ∷ []) state middle al.1.0 tt sp in
      (function_step turns first done (Node f.FunctionSuffix (x ▹ m ▹ none)) state middle w.0 (function_reads x m state middle al n.0 sp), n.1)
  suffix_form turns first done f.FunctionSuffix _ more state middle h al deep sp = absurd assumption
  suffix_form turns first done f.VoidSuffix (x ▹ none) more state middle h al deep sp =
      let n = void_depth x more room al.1.0 deep in
      let w = word_after_line (Mark s.LeftParen) x (Said (Key k.Void) ∷ Said (Mark s.RightParen) ∷ []) state middle al.1.0 tt sp in
      (function_step turns first done (Node f.VoidSuffix (x ▹ none)) state middle w.0 (void_reads x state middle al n.0 sp), n.1)
  suffix_form turns first done f.VoidSuffix _ more state middle h al deep sp = absurd assumption
  suffix_form turns first done _ parts more state middle h al deep sp = absurd (cc)

  suffix_step : (turns : ℕ) (first : Bool) (done : Trees) (tree : Tree) (more : Trees) (state : State) (middle : List Token) → home tree ≡ p.Suffix → Allowed tree state.scope → layers_all (tree ▹ more) + greatest_below (tree ▹ more) < suc room → Spells (spell tree) state.words middle → Suffix turns first done tree more state middle
  suffix_step turns first done (Leaf word) more state middle h al deep sp = absurd (cc (word_of_word word))
  suffix_step turns first done (At line) more state middle h al deep sp = absurd (cc)
  suffix_step turns first done (Node form parts) more state middle h al deep sp = suffix_form turns first done form parts more state middle h al deep sp

  suffixes_stop : (from : Bool → Trees → Reader) (first : Bool) (parts : Trees) (kind : Kind) (state : State) → after_declarator kind ≡ true → d.suffixes_by inner room from first parts kind state ≡ Some (Node f.Suffixes parts, state)
  unfolding after_declarator sign_number
  suffixes_stop from first parts (kinds.Mark s.LeftBracket) state h = absurd (false≢true h)
  suffixes_stop from first parts (kinds.Mark s.LeftParen) state h = absurd (false≢true h)
  suffixes_stop from first parts _ state h = refl

  suffixes_again : (more : Trees) (turns : ℕ) (first : Bool) (done : Trees) (state : State) (rest : List Token) → AllAllowed more (places (rows p.Suffix (count more))) state.scope → layers_all more + greatest_below more < suc room → Spells (filled (rows p.Suffix (count more)) (spell_all more)) state.words rest → after_declarator (first_kind rest) ≡ true → count more < turns → Reads (d.suffixes_from inner room turns first done) state (Node f.Suffixes (joined done more)) rest
  unfolding AllAllowed spell_all Spells Takes is_scope
  suffixes_again more zero first done state rest al deep sp end lt = absurd (omega (arith, lt))
  suffixes_again none (suc turns) first done state rest al deep sp end lt =
      (state, suffixes_stop (d.suffixes_from inner room turns) first done (kind_at state) state (ap (λ ws. after_declarator (first_kind ws)) sp ∙ end) ∙ ap (λ x. Some (Node f.Suffixes x, state)) (sym (joined_none done)), sp)
  suffixes_again (tree ▹ more) (suc turns) first done state rest al deep sp end lt =
      let tail = filled (rows p.Suffix (count more)) (spell_all more) in
      let a = spells_split (spell tree) tail state.words rest sp in
      let step = suffix_step turns first done tree more state a.0 al.0 al.1 deep a.1 in
      let r = suffixes_again more turns false (snoc done tree) step.0.0 rest (subst (λ sc. AllAllowed more (places (rows p.Suffix (count more))) sc) (sym step.0.3) al.2) step.1 (subst (λ ws. Spells tail ws rest) (sym step.0.2) a.2) end (omega (arith, lt)) in
      (r.0, step.0.1 ∙ r.1 ∙ ap (λ x. Some (Node f.Suffixes x, r.0)) (joined_snoc done tree more), r.2)

  pub suffixes_reads : (first : Bool) (parts : Trees) (state : State) (rest : List Token) → Allowed (Node f.Suffixes parts) state.scope → layers_all parts + greatest_below parts < suc room → Spells (spell (Node f.Suffixes parts)) state.words rest → after_declarator (first_kind rest) ≡ true → Reads (d.suffixes_from inner room (suc (left_at state)) first none) state (Node f.Suffixes parts) rest
  unfolding Allowed shape spell
  suffixes_reads first parts state rest al deep sp end =
      let long = rows_long p.Suffix refl parts state.scope state.words rest al.1 sp in
      suffixes_again parts (suc (left_at state)) first none state rest al.1 deep sp end (omega (arith, long))

-- Declarators are read again.

star_there : (kind : Kind) → kind ≡ kinds.Mark s.Star → kind_is_mark s.Star kind ≡ true
unfolding sign_number
star_there kind h = ap (kind_is_mark s.Star) h

pointer_declares : (x : Tree) → home x ≡ p.PointerLayer → IsDeclarator (home x)
pointer_declares x h = subst IsDeclarator (sym h) tt

nothing_scope : (scope : Scope) → after (Node f.Nothing none) scope ≡ scope
unfolding after left shape
nothing_scope scope = refl

-- the places behind the words `const`
consts_places : (n : ℕ) → places (replicate n (key k.Const) ++ Part p.AnyDeclarator ∷ []) ≡ p.AnyDeclarator ∷ []
consts_places zero = refl
consts_places (suc n) = consts_places n

pointer_parts : (consts : ℕ) (l x : Tree) (scope : Scope) → AllAllowed (l ▹ x ▹ none) (places (shape (f.Pointer consts) 2)) scope → Takes p.Line l × IsDeclarator (home x) × Allowed x (if is_scope p.Line then scope else after l scope)
unfolding AllAllowed shape Takes
pointer_parts consts l x scope al =
    let a = subst (λ ps. AllAllowed (l ▹ x ▹ none) (p.Line ∷ ps) scope) (consts_places consts) al in
    (a.0, a.2.0, a.2.1)

pointer_more : (consts : ℕ) (l : Tree) (more : Trees) (scope : Scope) → AllAllowed (l ▹ more) (places (shape (f.Pointer consts) (suc (count more)))) scope → ((x : Tree) → more ≡ x ▹ none → ⊥) → ⊥
unfolding AllAllowed shape
pointer_more consts l more scope al not_one = by more (subst (λ ps. AllAllowed (l ▹ more) (p.Line ∷ ps) scope) (consts_places consts) al) not_one where
  by : (more : Trees) → AllAllowed (l ▹ more) (p.Line ∷ p.AnyDeclarator ∷ []) scope → ((x : Tree) → more ≡ x ▹ none → ⊥) → ⊥
  by none a not_one = a.2
  by (x ▹ none) a not_one = not_one x refl
  by (x ▹ y ▹ rest) a not_one = a.2.2

no_star_end : (kind : Kind) → after_declarator kind ≡ true → NoStar kind
unfolding after_declarator sign_number
no_star_end (kinds.Mark s.Star) h = cc
no_star_end _ h = first_of (cc, search)

no_star_direct : (kind : Kind) → begins_direct kind ≡ true → NoStar kind
unfolding begins_direct sign_number
no_star_direct (kinds.Mark s.Star) h = cc
no_star_direct _ h = first_of (cc, search)

-- a declarator that is no pointer begins with no `*`
direct_no_star : (base suffixes : Tree) (state : State) (rest : List Token) → Allowed (Node f.Direct (base ▹ suffixes ▹ none)) state.scope → Spells (spell (Node f.Direct (base ▹ suffixes ▹ none))) state.words rest → after_declarator (first_kind rest) ≡ true → at_mark s.Star state ≡ false
unfolding Allowed AllAllowed shape spell spell_all is_scope first Spells
direct_no_star base suffixes state rest al sp end =
    begins_or NoStar p.Base base (spell suffixes ++ []) state rest al.1.0 al.1.1 sp (λ e. no_star_direct (kind_at state) e) (λ middle g. behind middle (record { words = middle; scope = after base state.scope; params = [] }) refl refl g)
  where
    behind : (middle : List Token) (next : State) → next.words ≡ middle → next.scope ≡ after base state.scope → Spells (spell suffixes ++ []) middle rest → NoStar (first_kind middle)
    behind middle next same scope g =
        subst (λ ws. NoStar (first_kind ws)) same (begins_or NoStar p.Suffixes suffixes [] next rest al.1.2.0 (subst (λ sc. Allowed suffixes sc) (sym scope) al.1.2.1) (subst (λ ws. Spells (spell suffixes ++ []) ws rest) (sym same) g) (λ e. no_star_direct (kind_at next) e) (λ last k. ap (λ ws. kind_is_mark s.Star (first_kind ws)) k ∙ no_star_end (first_kind rest) end))

module _ (inner : Place → Reader) (room : ℕ) (deeper : (place : Place) → Sound room place (inner place)) (again : AllAgain room inner) where
  -- Bases

  parens_reads : (sort : Place) → IsSort sort → (l x : Tree) (state : State) (middle : List Token) → Named sort (name_of (Node f.Parens (l ▹ x ▹ none))) → Allowed (Node f.Parens (l ▹ x ▹ none)) state.scope → depth (Node f.Parens (l ▹ x ▹ none)) < suc room → Spells (spell (Node f.Parens (l ▹ x ▹ none))) state.words middle → Reads (d.base_at inner room sort) state (Node f.Parens (l ▹ x ▹ none)) middle
  unfolding Allowed AllAllowed shape spell spell_all Takes name_of leads_to_name sign_number after_declarator Spells first
  parens_reads sort i l x state middle named al deep sp =
      let tail = Said (Mark s.RightParen) ∷ [] in
      let w = word_after_line (Mark s.LeftParen) l (spell x ++ tail) state middle al.1.0 tt sp in
      let next = said_first (Mark s.LeftParen) tt (spell x ++ tail) state middle w.1 in
      let line = (line_first l al.1.0 (Said (Mark s.LeftParen) ∷ (spell x ++ tail)) state middle sp).0 in
      let a = spells_split (spell x) tail (skip state).words middle next.1 in
      let allowed = word_allowed l x state.scope al.1.0 al.1.2.1 in
      let star = begins p.PointerLayer x tail (skip state) middle refl al.1.2.0 allowed next.1 in
      let name = subst (λ o. Named sort o) (name_behind_line (line_at state) x) (subst (λ y. Named sort (name_among (y ▹ x ▹ none))) line named) in
      let close = said_kind (Mark s.RightParen) tt [] a.0 middle a.2 in
      let r = again sort (sort_read sort i) (skip state) x a.0 (sort_takes sort i x (pointer_declares x al.1.2.0) name) allowed (parens_depth l x room al.1.0 deep) a.1 (sort_follow sort i x a.0 (ap after_declarator close)) in
      let end = said_first (Mark s.RightParen) tt [] r.0 middle (subst (λ ws. Spells tail ws middle) (sym r.2) a.2) in (
        skip r.0,
        ap (λ kind. d.base_by inner room sort kind state) w.0
            ∙ ap (λ b. if b then fixed (d.same_sort inner room sort) f.Parens state else d.no_base sort state) star
            ∙ ap (λ o. node f.Parens (in_front (At (line_at state)) (o >>= (λ next. inner sort next >>= (λ (y : Tree × State). in_front y.0 (past (Mark s.RightParen) y.1 >>= (λ last. Some (none, last)))))))) next.0
            ∙ ap (λ o. node f.Parens (in_front (At (line_at state)) (o >>= (λ (y : Tree × State). in_front y.0 (past (Mark s.RightParen) y.1 >>= (λ last. Some (none, last))))))) r.1
            ∙ ap (λ o. node f.Parens (in_front (At (line_at state)) (in_front x (o >>= (λ last. Some (none, last)))))) end.0
            ∙ ap (λ y. Some (Node f.Parens (y ▹ x ▹ none), skip r.0)) (sym line),
        end.1,
      )

  name_reads : (sort : Place) → IsSort sort → (bytes : List ℕ) (state : State) (middle : List Token) → Named sort (Some bytes) → Spells (Said (Name bytes) ∷ []) state.words middle → Reads (d.base_at inner room sort) state (Leaf (Name bytes)) middle
  name_reads sort i bytes state middle named sp =
      let w = said_word (Name bytes) tt state.words middle sp in
      (skip state, ap (λ kind. d.base_by inner room sort kind state) (said_kind (Name bytes) tt [] state.words middle sp) ∙ ap (λ b. if b then Some (Leaf (word_at state), skip state) else d.no_base sort state) (named_may sort i bytes named) ∙ ap (λ x. Some (Leaf x, skip state)) w.0, w.1)

  nothing_reads : (sort : Place) → IsSort sort → (state : State) (middle : List Token) → Named sort None → Empty sort state → Spells [] state.words middle → Reads (d.base_at inner room sort) state (Node f.Nothing none) middle
  unfolding Spells
  nothing_reads sort i state middle named empty sp =
      (state, empty inner room ∙ ap (λ b. if b then None else Some (Node f.Nothing none, state)) (none_must sort i named), sp)

  base_reads : (sort : Place) → IsSort sort → (base : Tree) (state : State) (middle : List Token) → IsBase (home base) → Named sort (name_of base) → Allowed base state.scope → depth base < suc room → Spells (spell base) state.words middle → (base ≡ Node f.Nothing none → state.words ≡ middle → Empty sort state) → Reads (d.base_at inner room sort) state base middle
  unfolding name_of leads_to_name spell Allowed AllAllowed shape spell_all keyword_home form_home Spells
  base_reads sort i (Leaf (Name bytes)) state middle h named al deep sp empty = name_reads sort i bytes state middle named sp
  base_reads sort i (Leaf (Key keyword)) state middle h named al deep sp empty = absurd (key_not_base keyword h) where
    key_not_base : (keyword : Keyword) → IsBase (keyword_home keyword) → ⊥
    key_not_base k.Static h = h
    key_not_base _ h = h
  base_reads sort i (Node f.Parens (l ▹ x ▹ none)) state middle h named al deep sp empty = parens_reads sort i l x state middle named al deep sp
  base_reads sort i (Node f.Nothing none) state middle h named al deep sp empty = nothing_reads sort i state middle named (empty refl sp) sp
  base_reads sort i _ state middle h named al deep sp empty = absurd assumption

  -- Layers

  direct_reads : (sort : Place) → IsSort sort → (base suffixes : Tree) (state : State) (rest : List Token) → Named sort (name_of (Node f.Direct (base ▹ suffixes ▹ none))) → Allowed (Node f.Direct (base ▹ suffixes ▹ none)) state.scope → depth (Node f.Direct (base ▹ suffixes ▹ none)) < suc room → Spells (spell (Node f.Direct (base ▹ suffixes ▹ none))) state.words rest → after_declarator (first_kind rest) ≡ true → Reads (d.layers_at inner room sort) state (Node f.Direct (base ▹ suffixes ▹ none)) rest
  unfolding Allowed AllAllowed shape spell spell_all Takes is_scope Spells name_of leads_to_name sign_number
  direct_reads sort i base suffixes state rest named al deep sp end =
      let s0 = only_node p.Suffixes f.Suffixes suffixes refl al.1.2.0 in
      let a = spells_split (spell base) (spell suffixes ++ []) state.words rest sp in
      let b = spells_split (spell suffixes) [] a.0 rest a.2 in
      let spelled = subst (λ ws. Spells (spell suffixes) a.0 ws) b.2 b.1 in
      let al2 = subst (λ t. Allowed t (after base state.scope)) s0.1 al.1.2.1 in
      let sp2 = subst (λ t. Spells (spell t) a.0 rest) s0.1 spelled in
      let n = direct_depth base s0.0 room (subst (λ t. depth (Node f.Direct (base ▹ t ▹ none)) < suc room) s0.1 deep) in
      let name = subst (λ o. Named sort o) (name_direct base s0.0) (subst (λ t. Named sort (name_among (base ▹ t ▹ none))) s0.1 named) in
      let r = base_reads sort i base state a.0 al.1.0 name al.1.1 n.0 a.1 (λ nothing e. by_empty s0.0 nothing e al2 sp2) in
      let took = (base_took inner room deeper sort i state (base, r.0) r.1).took in
      let more = suffixes_reads inner room deeper again (d.is_leaf base) s0.0 r.0 rest (subst (λ sc. Allowed (Node f.Suffixes s0.0) sc) (sym took.scope) al2) n.1 (subst (λ ws. Spells (spell (Node f.Suffixes s0.0)) ws rest) (sym r.2) sp2) end in
      let star : at_mark s.Star state ≡ false = direct_no_star base suffixes state rest al sp end in (
        more.0,
        ap (λ b. if b then d.pointer_at inner room sort state else d.direct_at inner room sort state) star
            ∙ ap (λ o. o >>= (λ (q : Tree × State). d.suffixes_from inner room (suc (left_at q.1)) (d.is_leaf q.0) none q.1 >>= (λ (y : Tree × State). Some (Node f.Direct (q.0 ▹ y.0 ▹ none), y.1)))) r.1
            ∙ ap (λ o. o >>= (λ (y : Tree × State). Some (Node f.Direct (base ▹ y.0 ▹ none), y.1))) more.1
            ∙ ap (λ y. Some (Node f.Direct (base ▹ y ▹ none), more.0)) (sym s0.1),
        more.2,
      )
    where
      by_empty : (parts : Trees) {middle : List Token} → base ≡ Node f.Nothing none → state.words ≡ middle → Allowed (Node f.Suffixes parts) (after base state.scope) → Spells (spell (Node f.Suffixes parts)) middle rest → Empty sort state
      by_empty parts nothing e al2 sp2 = empty_base sort parts state rest (subst (λ sc. Allowed (Node f.Suffixes parts) sc) (ap (λ t. after t state.scope) nothing ∙ nothing_scope state.scope) al2) (subst (λ ws. Spells (spell (Node f.Suffixes parts)) ws rest) (sym e) sp2) end

  pointer_reads : (sort : Place) → IsSort sort → (consts : ℕ) (l x : Tree) (state : State) (rest : List Token) → Named sort (name_of (Node (f.Pointer consts) (l ▹ x ▹ none))) → Allowed (Node (f.Pointer consts) (l ▹ x ▹ none)) state.scope → depth (Node (f.Pointer consts) (l ▹ x ▹ none)) < suc room → Spells (spell (Node (f.Pointer consts) (l ▹ x ▹ none))) state.words rest → after_declarator (first_kind rest) ≡ true → Reads (d.layers_at inner room sort) state (Node (f.Pointer consts) (l ▹ x ▹ none)) rest
  unfolding Allowed shape spell spell_all name_of leads_to_name Takes
  pointer_reads sort i consts l x state rest named al deep sp end =
      let items = replicate consts (key k.Const) ++ Part p.AnyDeclarator ∷ [] in
      let inside = pointer_parts consts l x state.scope al.1 in
      let tail = filled items (spell x ∷ []) in
      let w = word_after_line (Mark s.Star) l tail state rest inside.0 tt sp in
      let next = said_first (Mark s.Star) tt tail state rest w.1 in
      let line = (line_first l inside.0 (Said (Mark s.Star) ∷ tail) state rest sp).0 in
      let allowed = word_allowed l x state.scope inside.0 inside.2 in
      let past_ = consts_passed consts x (skip state).words rest next.1 (λ us g. no_const_first x (record { words = us; scope = state.scope; params = [] }) rest inside.1 allowed end g) in
      let name = subst (λ o. Named sort o) (name_behind_line (line_at state) x) (subst (λ y. Named sort (name_among (y ▹ x ▹ none))) line named) in
      let r = again sort (sort_read sort i) (d.past_consts (skip state)) x rest (sort_takes sort i x inside.1 name) allowed (pointer_depth consts l x room inside.0 deep) past_.1 (sort_follow sort i x rest end) in (
        r.0,
        ap (λ b. if b then d.pointer_at inner room sort state else d.direct_at inner room sort state) (star_there (first_kind state.words) w.0)
            ∙ ap (λ o. o >>= (λ (y : Tree × State). Some (Node (f.Pointer (d.leading_consts (behind_first state.words))) (At (line_at state) ▹ y.0 ▹ none), y.1))) r.1
            ∙ ap (λ n. Some (Node (f.Pointer n) (At (line_at state) ▹ x ▹ none), r.0)) past_.0
            ∙ ap (λ y. Some (Node (f.Pointer consts) (y ▹ x ▹ none), r.0)) (sym line),
        r.2,
      )

  layers_read : (sort : Place) → IsSort sort → (tree : Tree) (state : State) (rest : List Token) → IsDeclarator (home tree) → Named sort (name_of tree) → Allowed tree state.scope → depth tree < suc room → Spells (spell tree) state.words rest → after_declarator (first_kind rest) ≡ true → Reads (d.layers_at inner room sort) state tree rest
  unfolding Allowed AllAllowed shape keyword_home form_home
  layers_read sort i (Leaf (Key keyword)) state rest h named al deep sp end = absurd (key_not_declarator keyword h) where
    key_not_declarator : (keyword : Keyword) → IsDeclarator (keyword_home keyword) → ⊥
    key_not_declarator k.Static h = h
    key_not_declarator _ h = h
  layers_read sort i (Node (f.Pointer consts) (l ▹ none)) state rest h named al deep sp end = absurd (pointer_more consts l none state.scope al.1 (λ x e. cc))
  layers_read sort i (Node (f.Pointer consts) (l ▹ x ▹ a ▹ more)) state rest h named al deep sp end = absurd (pointer_more consts l (x ▹ a ▹ more) state.scope al.1 (λ y e. cc))
  layers_read sort i (Node (f.Pointer consts) (l ▹ x ▹ none)) state rest h named al deep sp end = pointer_reads sort i consts l x state rest named al deep sp end
  layers_read sort i (Node f.Direct (base ▹ suffixes ▹ none)) state rest h named al deep sp end = direct_reads sort i base suffixes state rest named al deep sp end
  layers_read sort i _ state rest h named al deep sp end = absurd assumption

  pub declarator_reads : (sort : Place) → IsSort sort → Complete (suc room) sort (d.declarator_at inner room sort)
  declarator_reads sort i state tree rest h al deep sp fo =
      let t = takes_sort sort i tree h in
      let r = layers_read sort i tree state rest t.0 t.1 al deep sp (follow_sort sort i tree rest fo) in
      (r.0, ap (λ o. o >>= (λ (x : Tree × State). if nat_le (depth x.0) room then Some x else None)) r.1 ∙ ap (λ b. if b then Some (tree, r.0) else None) (le-leb (depth tree) room (omega (arith, deep))), r.2)
