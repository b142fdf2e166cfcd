-- What is read at a place, external declarations and texts that are read.
use Rattle.std.proofs.Common.{ℕ, zero, suc, arith, ◌≡◌, ◌<◌, true, false, inl, inr, List, [], ◌∷◌, ◌++◌, Option, Some, None, refl, sym, ap, ◌∙◌, subst, append_assoc, append-nil, ◌≤◌, Bool, length}
use Rattle.std.specs.Prelude.{not, ◌&&◌, is_some, max, if◌then◌else◌, nat_eq}
use Rattle.std.proofs.lemmas.Bool.{false≢true, and_parts, not-true, eqb-true}
use Rattle.c_lexer.specs.declared.token.Token.{Token}
use Rattle.c_tree.specs.Places.{Place, Expression}
use Rattle.c_tree.specs.Words.{Word, Mark}
use Rattle.c_tree.specs.Grammar.{Item, Says, Here, Part, mark, form_home, shape, rows}
use Rattle.c_tree.specs.Scopes.{Scope, is_scope, places, after, left, params_of, with_params, first_scope}
use Rattle.c_tree.specs.Allowed.{Takes, Allowed, AllAllowed, obeys, IsExternal, AreExternals}
use Rattle.c_tree.specs.Spelling.{Piece, Said, Line, spell, spell_all, filled, Spells}
use Rattle.c_tree.specs.Depth.{depth, weight, greatest_depth, layers, below, is_of_declarator, most}
use Rattle.c_tree.specs.Tree.{Tree, Trees, At, Node, none, ◌▹◌, count}
use Rattle.c_tree.specs.HasTree.{HasTree}
use Rattle.c_tree.specs.Places as p
use Rattle.c_tree.specs.declared.word.Sign.TheVariants as s
use Rattle.c_tree.specs.Forms as f
use Rattle.grammar_reading.specs.Reading.{Reader, ◌>>=◌, fixed, parts_of, goes_on, commas_by, commas_from, snoc}
use Rattle.grammar_reading.specs.Rooms.{read_at, less, Text, Whole, Stops, text_by, text_from, start_of, read_unit}
use Rattle.grammar_reading.specs.Laws.{TreesAreRead, behind, WholeTextsAreRead, FrontsAreRead}
use Rattle.grammar_reading.specs.ReadingEquations.{none_some, some_same, bind_some}
use Rattle.grammar_reading.specs.State.{State, line_at, left_at, at_mark, past, back_to, with_flag, in_body}
use Rattle.grammar_reading.specs.Statements.{external_at}
use Rattle.grammar_reading.specs.Declarators as d
use Rattle.grammar_reading.specs.Statements as t
use Rattle.grammar_reading.proofs.Forms.{only_node, Sound, Took, all_sound, parts_took, Also, AreParams, KeepsParams, took_both, took_one, took_line, took_word, filled_both, made, plain, greatest_both}
use Rattle.grammar_reading.proofs.sound.Specs.{name_took, specs_took}
use Rattle.grammar_reading.proofs.sound.Declarators.{declarator_took}
use Rattle.grammar_reading.proofs.sound.Declarations.{expr_took, arguments_took, typename_took, names_took, maybe_name_took, members_took, enumerators_took, params_took, maybe_length_took, inits_took, items_took, statement_took, branch_took, for_start_took, maybe_expr_took, declared_took, entry_behind, entry_took, entries_took, names_of_some, no_names, goes, took_unflagged}
use Rattle.grammar_reading.proofs.Words.{spells_both, either}
use Rattle.grammar_reading.proofs.Nodes.{node_some, depth_flat, commas_by_took, snoc_joined}

read_at_took : (inner : Place → Reader) (room : ℕ) (deeper : (place : Place) → Sound room place (inner place)) (place : Place) → Sound (suc room) place (read_at inner room place)
read_at_took inner room deeper (Expression level) state x h = expr_took inner room deeper level state x h
read_at_took inner room deeper p.Arguments state x h = arguments_took inner room deeper state x h
read_at_took inner room deeper p.Name state x h = name_took (suc room) (omega arith) state x h
read_at_took inner room deeper p.Typename state x h = typename_took inner room deeper state x h
read_at_took inner room deeper p.Specs state x h = specs_took inner room deeper state x h
read_at_took inner room deeper p.Names state x h = names_took inner room deeper state x h
read_at_took inner room deeper p.MaybeName state x h = maybe_name_took inner room deeper state x h
read_at_took inner room deeper p.Members state x h = members_took inner room deeper state x h
read_at_took inner room deeper p.Enumerators state x h = enumerators_took inner room deeper state x h
read_at_took inner room deeper p.Declarator state x h = declarator_took inner room deeper p.Declarator tt state x h
read_at_took inner room deeper p.Abstract state x h = declarator_took inner room deeper p.Abstract tt state x h
read_at_took inner room deeper p.AnyDeclarator state x h = declarator_took inner room deeper p.AnyDeclarator tt state x h
read_at_took inner room deeper p.Params state x h = params_took inner room deeper state x h
read_at_took inner room deeper p.MaybeLength state x h = maybe_length_took inner room deeper state x h
read_at_took inner room deeper p.Inits state x h = inits_took inner room deeper state x h
read_at_took inner room deeper p.Items state x h = items_took inner room deeper state x h
read_at_took inner room deeper p.Statement state x h = statement_took inner room deeper state x h
read_at_took inner room deeper p.Branch state x h = branch_took inner room deeper state x h
read_at_took inner room deeper p.ForStart state x h = for_start_took inner room deeper state x h
read_at_took inner room deeper p.MaybeExpr state x h = maybe_expr_took inner room deeper state x h
read_at_took inner room deeper _ state x h = none_some h

pub less_took : (room : ℕ) (place : Place) → Sound room place (less room place)
less_took zero place state x h = none_some h
less_took (suc room) place state x h = read_at_took (less room) room (less_took room) place state x h

pub trees_are_read : TreesAreRead
trees_are_read room place state rest tree h =
    let took = less_took (suc room) place state (tree, rest) h in
    let deep = took.deep in
    record { stands = took.stands; allowed = took.allowed; spelled = took.spelled; deep = omega (arith, deep); scope = took.scope }

-- External declarations that are read.

pub record ExternalTook (bound : ℕ) (start : State) (tree : Tree) (rest : State) : Type 0 where
  pub allowed : IsExternal tree start.scope
  pub spelled : Spells (spell tree) start.words rest.words
  pub deep : depth tree < bound
  pub scope : rest.scope ≡ after tree start.scope

-- the scope of a body
pub body_scope : (o : Option Trees) (before state : State) → is_some o ≡ true → KeepsParams o before state → state.scope.typedef ≡ before.scope.typedef → with_params o state.scope ≡ (in_body state).scope
body_scope None before state e h flag = absurd (false≢true e)
body_scope (Some parts) before state e h flag = subst (λ t. AreParams t parts state.params) (sym flag) h state.scope.names

no_more : (ws : List Token) → Spells [] ws ws
unfolding Spells
no_more ws = refl

module _ (inner : Place → Reader) (room : ℕ) (deeper : (place : Place) → Sound room place (inner place)) where
  declaration_is : (start state : State) (specs names : Tree) (middle rest : State) → Took (suc room) p.Specs start specs state → Took (suc room) p.Names state names middle → past (Mark s.Semicolon) middle ≡ Some rest → ExternalTook (suc room) start (Node f.Declaration (At (line_at start) ▹ specs ▹ names ▹ none)) (with_flag start.scope.typedef rest)
  unfolding shape form_home weight Takes is_scope Also IsExternal
  declaration_is start state specs names middle rest took named semi =
      let one = took_one (suc room) p.Specs start state specs took in
      let two = took_one (suc room) p.Names state middle names named in
      let three = took_word (suc room) (Mark s.Semicolon) middle rest semi in
      let tail = took_both (suc room) (Part p.Names ∷ []) (mark s.Semicolon ∷ []) state middle rest (names ▹ none) none two three in
      let behind = took_both (suc room) (Part p.Specs ∷ []) (Part p.Names ∷ mark s.Semicolon ∷ []) start state rest (specs ▹ none) (names ▹ none) one tail in
      let parts = At (line_at start) ▹ specs ▹ names ▹ none in
      let all = took_both (suc room) (Here ∷ []) (Part p.Specs ∷ Part p.Names ∷ mark s.Semicolon ∷ []) start start rest (At (line_at start) ▹ none) (specs ▹ names ▹ none) (took_line (suc room) start took.opens) behind in
      let deep = all.deep in
      let node = took_unflagged (suc room) (suc room) p.External f.Declaration (shape f.Declaration zero) start rest parts refl all refl refl refl (omega (arith, deep)) refl tt in
      record { allowed = node.allowed; spelled = node.spelled; deep = node.deep; scope = node.scope }

  -- a body, and its depth
  body_is : (state : State) (y : Trees × State) → parts_of inner (shape f.Body zero) (in_body state) ≡ Some y → Allowed (Node f.Body y.0) (in_body state).scope × Spells (spell (Node f.Body y.0)) state.words y.1.words × (depth (Node f.Body y.0) < suc room)
  unfolding shape form_home weight obeys Allowed spell is_of_declarator
  body_is state y h =
      let took = (parts_took room inner (shape f.Body zero) (all_sound room inner deeper (shape f.Body zero)) refl (in_body state) y h).0 in
      let deep = took.deep in
      let ran = took.ran refl in
      let n = depth_flat f.Body y.0 refl in
      ((refl, took.allowed), took.spelled, omega (arith, n, deep, ran))

  function_is : (start state behind : State) (specs declared : Tree) (y : Trees × State) → Took (suc room) p.Specs start specs state → Took (suc room) p.Declared state declared behind → is_some (params_of declared) ≡ true → behind.scope.typedef ≡ false → parts_of inner (shape f.Body zero) (in_body behind) ≡ Some y → ExternalTook (suc room) start (Node f.Function (At (line_at start) ▹ specs ▹ declared ▹ Node f.Body y.0 ▹ none)) (with_flag start.scope.typedef (back_to behind y.1))
  unfolding shape form_home weight Takes is_scope Also IsExternal Allowed after left AllAllowed spell greatest_depth layers below is_of_declarator
  function_is start state behind specs declared y took named function plain h =
      let body = body_is behind y h in
      let parts = At (line_at start) ▹ specs ▹ declared ▹ none in
      let tail = took_both (suc room) (Part p.Specs ∷ []) (Part p.Declared ∷ []) start state behind (specs ▹ none) (declared ▹ none) (took_one (suc room) p.Specs start state specs took) (took_one (suc room) p.Declared state behind declared named) in
      let front = took_both (suc room) (Here ∷ []) (Part p.Specs ∷ Part p.Declared ∷ []) start start behind (At (line_at start) ▹ none) (specs ▹ declared ▹ none) (took_line (suc room) start took.opens) tail in
      let flag : behind.scope.typedef ≡ state.scope.typedef = named.flag refl in
      let first : state.scope ≡ after specs start.scope = took.scope in
      let last : behind.scope ≡ after declared (after specs start.scope) = front.scope in
      let whole = Node f.Function (At (line_at start) ▹ specs ▹ declared ▹ Node f.Body y.0 ▹ none) in
      let n = depth_flat f.Function (At (line_at start) ▹ specs ▹ declared ▹ Node f.Body y.0 ▹ none) refl in
      let d1 = took.deep in
      let d2 = named.deep in
      let d3 = body.2 in
      let same = body_scope (params_of declared) state behind function named.also flag in
      let spelled = spells_both (filled (Here ∷ Part p.Specs ∷ Part p.Declared ∷ []) (spell_all parts)) (spell (Node f.Body y.0) ++ []) start.words behind.words y.1.words front.spelled (spells_both (spell (Node f.Body y.0)) [] behind.words y.1.words y.1.words body.1 (no_more y.1.words)) in
      let joins = filled_both (Here ∷ Part p.Specs ∷ Part p.Declared ∷ []) (Part p.Body ∷ []) parts (Node f.Body y.0 ▹ none) start.scope front.allowed in
      record {
        allowed = record {
          front = front.allowed;
          plain = ap (λ (sc : Scope). sc.typedef) (sym first) ∙ sym flag ∙ plain;
          function = function;
          stands = refl;
          inside = subst (λ sc. Allowed (Node f.Body y.0) sc) (sym same ∙ ap (with_params (params_of declared)) last) body.0;
        };
        spelled = subst (λ l. Spells l start.words y.1.words) (sym joins) spelled;
        deep = omega (arith, n, d1, d2, d3);
        scope = ap (λ (sc : Scope). made sc.names start.scope.typedef) last;
      }

  -- What stands behind specs

  names_from_took : (start state : State) (declared : Tree) (x : Tree × State) → Took (suc room) p.Declared start declared state → t.names_from inner room declared state ≡ Some x → Took (suc room) p.Names start x.0 x.1
  names_from_took start state declared x took h =
      let more = d.entry_at inner room in
      let a = bind_some (d.entry_from inner room declared state) (λ (y : Tree × State). commas_by more goes_on f.Names (commas_from more goes_on f.Names (left_at y.1)) (y.0 ▹ none) (goes_on y.1) y.1) x h in
      let first = entry_behind inner room deeper start state declared a.0 took a.1 in
      names_of_some inner room deeper start x.0 x.1 (entries_took inner room deeper start x (commas_by_took (suc room) p.Entry more goes_on f.Names (entry_took inner room deeper) goes (left_at a.0.1) start a.0.1 a.0.0 (goes_on a.0.1) x first refl a.2))

  declaration_from_took : (start state : State) (specs names : Tree) (middle : State) (x : Tree × State) → Took (suc room) p.Specs start specs state → Took (suc room) p.Names state names middle → t.declaration_from inner room (line_at start) specs names middle ≡ Some x → ExternalTook (suc room) start x.0 (with_flag start.scope.typedef x.1)
  declaration_from_took start state specs names middle x took named h =
      let tree = Node f.Declaration (At (line_at start) ▹ specs ▹ names ▹ none) in
      let a = bind_some (past (Mark s.Semicolon) middle) (λ next. Some (tree, next)) x h in
      subst (λ (z : Tree × State). ExternalTook (suc room) start z.0 (with_flag start.scope.typedef z.1)) (some_same a.2) (declaration_is start state specs names middle a.0 took named a.1)

  begins : (declared : Tree) (state : State) → t.begins_body inner room declared state ≡ true → (is_some (params_of declared) ≡ true) × (state.scope.typedef ≡ false)
  begins declared state h =
      let a = and_parts (at_mark s.LeftBrace state && is_some (params_of declared)) (not state.scope.typedef) h in
      let b = and_parts (at_mark s.LeftBrace state) (is_some (params_of declared)) a.0 in
      (b.1, not-true state.scope.typedef a.1)

  function_from_took : (start state behind : State) (specs declared : Tree) (x : Tree × State) → Took (suc room) p.Specs start specs state → Took (suc room) p.Declared state declared behind → t.begins_body inner room declared behind ≡ true → t.function_from inner room (line_at start) specs declared behind ≡ Some x → ExternalTook (suc room) start x.0 (with_flag start.scope.typedef x.1)
  function_from_took start state behind specs declared x took named h g =
      let a = bind_some (t.body_at inner room behind) (λ (y : Tree × State). Some (Node f.Function (At (line_at start) ▹ specs ▹ declared ▹ y.0 ▹ none), y.1)) x g in
      let b = bind_some (fixed inner f.Body (in_body behind)) (λ (y : Tree × State). Some (y.0, back_to behind y.1)) a.0 a.1 in
      let c = node_some f.Body (parts_of inner (shape f.Body zero) (in_body behind)) b.0 b.1 in
      let begin = begins declared behind h in
      let is = function_is start state behind specs declared c.0 took named begin.0 begin.1 c.1 in
      let P : Tree × State → Type 0 = λ z. ExternalTook (suc room) start (Node f.Function (At (line_at start) ▹ specs ▹ declared ▹ z.0 ▹ none)) (with_flag start.scope.typedef (back_to behind z.1)) in
      let Q : Tree × State → Type 0 = λ z. ExternalTook (suc room) start (Node f.Function (At (line_at start) ▹ specs ▹ declared ▹ z.0 ▹ none)) (with_flag start.scope.typedef z.1) in
      subst (λ (z : Tree × State). ExternalTook (suc room) start z.0 (with_flag start.scope.typedef z.1)) (some_same a.2) (subst Q (some_same b.2) (subst P (some_same c.2) is))

  declared_from_took : (start state behind : State) (specs declared : Tree) (x : Tree × State) → Took (suc room) p.Specs start specs state → Took (suc room) p.Declared state declared behind → t.declared_from inner room (line_at start) specs declared behind ≡ Some x → ExternalTook (suc room) start x.0 (with_flag start.scope.typedef x.1)
  declared_from_took start state behind specs declared x took named h = elim (either (t.begins_body inner room declared behind) (t.function_from inner room (line_at start) specs declared behind) (t.names_from inner room declared behind >>= (λ (y : Tree × State). t.declaration_from inner room (line_at start) specs y.0 y.1)) x h) [
    | inl a ↦ function_from_took start state behind specs declared x took named a.0 a.1
    | inr a ↦
        let b = bind_some (t.names_from inner room declared behind) (λ (y : Tree × State). t.declaration_from inner room (line_at start) specs y.0 y.1) x a.1 in
        declaration_from_took start state specs b.0.0 b.0.1 x took (names_from_took state behind declared b.0 named b.1) b.2
  ]

  external_from_took : (start state : State) (specs : Tree) (x : Tree × State) → Took (suc room) p.Specs start specs state → t.external_from inner room (line_at start) specs state ≡ Some x → ExternalTook (suc room) start x.0 (with_flag start.scope.typedef x.1)
  external_from_took start state specs x took h = elim (either (at_mark s.Semicolon state) (t.declaration_from inner room (line_at start) specs (Node f.Names none) state) (d.declared_at inner room state >>= (λ (y : Tree × State). t.declared_from inner room (line_at start) specs y.0 y.1)) x h) [
    | inl a ↦ declaration_from_took start state specs (Node f.Names none) state x took (no_names inner room deeper state) a.1
    | inr a ↦
        let b = bind_some (d.declared_at inner room state) (λ (y : Tree × State). t.declared_from inner room (line_at start) specs y.0 y.1) x a.1 in
        declared_from_took start state b.0.1 specs b.0.0 x took (declared_took inner room deeper state b.0 b.1) b.2
  ]

  pub external_took : (state : State) (x : Tree × State) → t.external_at inner room state ≡ Some x → ExternalTook (suc room) state x.0 x.1
  external_took state x h =
      let a = bind_some (d.specs_at inner room state >>= (λ (y : Tree × State). t.external_from inner room (line_at state) y.0 y.1)) (λ (y : Tree × State). Some (y.0, with_flag state.scope.typedef y.1)) x h in
      let b = bind_some (d.specs_at inner room state) (λ (y : Tree × State). t.external_from inner room (line_at state) y.0 y.1) a.0 a.1 in
      subst (λ (z : Tree × State). ExternalTook (suc room) state z.0 z.1) (some_same a.2) (external_from_took state b.0.1 b.0.0 a.0 (specs_took inner room deeper state b.0 b.1) b.2)

-- Texts that are read.

-- One external declaration behind others

-- the spelling of external declarations
abbrev pub unit_pieces : Trees → List Piece
unit_pieces parts = filled (rows p.External (count parts)) (spell_all parts)

pub unit_snoc : (parts : Trees) (tree : Tree) → unit_pieces (snoc parts tree) ≡ unit_pieces parts ++ spell tree
unfolding spell_all
unit_snoc none tree = append-nil (spell tree)
unit_snoc (first ▹ parts) tree = ap (λ l. spell first ++ l) (unit_snoc parts tree) ∙ sym (append_assoc (spell first) (unit_pieces parts) (spell tree))

-- the scope behind external declarations
abbrev pub behind_externals : Trees → Scope → Scope
behind_externals none scope = scope
behind_externals (tree ▹ rest) scope = behind_externals rest (after tree scope)

pub behind_snoc : (parts : Trees) (tree : Tree) (scope : Scope) → behind_externals (snoc parts tree) scope ≡ after tree (behind_externals parts scope)
behind_snoc none tree scope = refl
behind_snoc (first ▹ parts) tree scope = behind_snoc parts tree (after first scope)

pub externals_snoc : (parts : Trees) (tree : Tree) (scope : Scope) → AreExternals parts scope → IsExternal tree (behind_externals parts scope) → AreExternals (snoc parts tree) scope
unfolding AreExternals
externals_snoc none tree scope h g = (g, tt)
externals_snoc (first ▹ parts) tree scope h g = (h.0, externals_snoc parts tree (after first scope) h.1 g)

pub greatest_snoc : (parts : Trees) (tree : Tree) → greatest_depth (snoc parts tree) ≡ max (greatest_depth parts) (depth tree)
unfolding greatest_depth
greatest_snoc parts tree = ap greatest_depth (sym (snoc_joined parts tree)) ∙ greatest_both parts (tree ▹ none) ∙ omega arith

-- Spellings that end with a word

-- the spelling ends with a word
abbrev pub EndsWithWord : List Piece → Type 0
EndsWithWord pieces = (front : List Piece) × (word : Word) × (pieces ≡ front ++ Said word ∷ [])

behind_front : (a b : List Piece) → EndsWithWord b → EndsWithWord (a ++ b)
behind_front a b h = (a ++ h.0, h.1, ap (λ l. a ++ l) h.2 ∙ sym (append_assoc a h.0 (Said h.1 ∷ [])))

-- where the last item is a word
items_end : (items : List Item) (word : Word) (parts : Trees) (scope : Scope) → AllAllowed parts (places (items ++ Says word ∷ [])) scope → EndsWithWord (filled (items ++ Says word ∷ []) (spell_all parts))
unfolding AllAllowed spell_all is_scope
items_end [] word parts scope al = ([], word, refl)
items_end (Says first ∷ items) word parts scope al = behind_front (Said first ∷ []) (filled (items ++ Says word ∷ []) (spell_all parts)) (items_end items word parts scope al)
items_end (Here ∷ items) word none scope al = absurd al
items_end (Here ∷ items) word (tree ▹ parts) scope al = behind_front (spell tree) (filled (items ++ Says word ∷ []) (spell_all parts)) (items_end items word parts (after tree scope) al.2)
items_end (Part place ∷ items) word none scope al = absurd al
items_end (Part place ∷ items) word (tree ▹ parts) scope al = behind_front (spell tree) (filled (items ++ Says word ∷ []) (spell_all parts)) (items_end items word parts (if is_scope place then scope else after tree scope) al.2)

pub external_ends : (tree : Tree) (scope : Scope) → IsExternal tree scope → EndsWithWord (spell tree)
unfolding IsExternal Allowed shape spell spell_all Takes
external_ends (Node f.Function (x ▹ a ▹ b ▹ c ▹ none)) scope h =
    let body = only_node p.Body f.Body c refl h.stands in
    let inner = with_params (params_of b) (after b (after a scope)) in
    let al : Allowed (Node f.Body body.0) inner = subst (λ t. Allowed t inner) body.1 h.inside in
    let last = subst (λ t. EndsWithWord (spell t ++ [])) (sym body.1) (subst EndsWithWord (sym (append-nil (spell (Node f.Body body.0)))) (items_end (mark s.LeftBrace ∷ Part p.Items ∷ Here ∷ []) (Mark s.RightBrace) body.0 inner al.1)) in
    behind_front (spell x) (spell a ++ (spell b ++ (spell c ++ []))) (behind_front (spell a) (spell b ++ (spell c ++ [])) (behind_front (spell b) (spell c ++ []) last))
external_ends (Node f.Declaration parts) scope h = items_end (Here ∷ Part p.Specs ∷ Part p.Names ∷ []) (Mark s.Semicolon) parts scope h.1
external_ends _ scope h = absurd h

pub unit_ends : (tree : Tree) (rest : Trees) (scope : Scope) → AreExternals (tree ▹ rest) scope → EndsWithWord (unit_pieces (tree ▹ rest))
unfolding AreExternals spell_all
unit_ends tree none scope h = subst EndsWithWord (sym (append-nil (spell tree))) (external_ends tree scope h.0)
unit_ends tree (next ▹ rest) scope h = behind_front (spell tree) (unit_pieces (next ▹ rest)) (unit_ends next rest (after tree scope) h.1)

-- A front of the tokens

-- where a spelling ends with a word, it is that of a front
not_empty : (front : List Piece) (word : Word) (rest : List Token) → Spells (front ++ Said word ∷ []) [] rest → ⊥
unfolding Spells
not_empty [] word rest h = h
not_empty (Said other ∷ front) word rest h = h
not_empty (Line line ∷ front) word rest h = h

cut_line : (line : ℕ) (pieces : List Piece) (token : Token) (front : List Token) (tokens rest : List Token) → token ∷ tokens ≡ front ++ rest → (Spells pieces [] [] → ⊥) → Spells pieces front [] → token.line ≡ line → Spells (Line line ∷ pieces) front []
unfolding Spells
cut_line line pieces token [] tokens rest e full h l = absurd (full h)
cut_line line pieces token (first ∷ front) tokens rest e full h l = (ap first_line (sym e) ∙ l, h) where
  first_line : List Token → ℕ
  first_line [] = 0
  first_line (token ∷ tokens) = token.line

front_of : (front : List Piece) (word : Word) (tokens rest : List Token) → Spells (front ++ Said word ∷ []) tokens rest → (taken : List Token) × (tokens ≡ taken ++ rest) × Spells (front ++ Said word ∷ []) taken []
unfolding Spells
front_of [] word [] rest h = absurd h
front_of [] word (token ∷ tokens) rest h = (token ∷ [], ap (λ l. token ∷ l) h.1, (h.0, refl))
front_of (Said other ∷ front) word [] rest h = absurd h
front_of (Said other ∷ front) word (token ∷ tokens) rest h =
    let a = front_of front word tokens rest h.1 in
    (token ∷ a.0, ap (λ l. token ∷ l) a.1, (h.0, a.2))
front_of (Line line ∷ front) word [] rest h = absurd h
front_of (Line line ∷ front) word (token ∷ tokens) rest h =
    let a = front_of front word (token ∷ tokens) rest h.1 in
    (a.0, a.1, cut_line line (front ++ Said word ∷ []) token a.0 tokens rest a.1 (not_empty front word []) a.2 h.0)

-- What was read so far

record SoFar (tokens : List Token) (parts : Trees) (state : State) : Type 0 where
  spelled : Spells (unit_pieces parts) tokens state.words
  allowed : AreExternals parts first_scope
  scope : state.scope ≡ behind_externals parts first_scope
  flat : greatest_depth parts ≤ most

so_far_more : (tokens : List Token) (parts : Trees) (state : State) (tree : Tree) (rest : State) → SoFar tokens parts state → ExternalTook (suc most) state tree rest → SoFar tokens (snoc parts tree) rest
so_far_more tokens parts state tree rest h took =
    let deep = took.deep in
    let flat = h.flat in
    let g = greatest_snoc parts tree in
    record {
      spelled = subst (λ l. Spells l tokens rest.words) (sym (unit_snoc parts tree)) (spells_both (unit_pieces parts) (spell tree) tokens state.words rest.words h.spelled took.spelled);
      allowed = externals_snoc parts tree first_scope h.allowed (subst (λ sc. IsExternal tree sc) h.scope took.allowed);
      scope = took.scope ∙ ap (after tree) h.scope ∙ sym (behind_snoc parts tree first_scope);
      flat = omega (arith, deep, flat, g);
    }

unit_depth : (parts : Trees) → depth (Node f.Unit parts) ≡ greatest_depth parts
unfolding weight form_home is_of_declarator
unit_depth parts = depth_flat f.Unit parts refl ∙ omega arith

has_tree : (tokens : List Token) (parts : Trees) → Spells (unit_pieces parts) tokens [] → AreExternals parts first_scope → greatest_depth parts ≤ most → HasTree tokens parts
unfolding spell shape
has_tree tokens parts spelled allowed flat =
    let d = unit_depth parts in
    record { spelled = spelled; allowed = allowed; flat = omega (arith, flat, d) }

TextTook : List Token → Text → Type 0
TextTook tokens (Whole parts) = HasTree tokens parts
TextTook tokens (Stops parts state) = SoFar tokens parts state

pub nothing_left : (ws : List Token) → length ws ≡ 0 → ws ≡ []
nothing_left [] e = refl
nothing_left (token ∷ ws) e = absurd (omega (arith, e))

text_took : (turns : ℕ) (tokens : List Token) (parts : Trees) (state : State) → SoFar tokens parts state → TextTook tokens (text_from turns parts state)
unfolding TextTook
text_took zero tokens parts state h = h
text_took (suc turns) tokens parts state h =
    by (nat_eq (left_at state) 0) refl (next (external_at (less most) most state) refl (λ more rest g. text_took turns tokens more rest g))
  where
    by : (b : Bool) → nat_eq (left_at state) 0 ≡ b → TextTook tokens (text_by (text_from turns) parts state (external_at (less most) most state)) → TextTook tokens (if b then Whole parts else text_by (text_from turns) parts state (external_at (less most) most state))
    by true e other = has_tree tokens parts (subst (λ ws. Spells (unit_pieces parts) tokens ws) (nothing_left state.words (eqb-true (left_at state) 0 e)) h.spelled) h.allowed h.flat
    by false e other = other

    next : (o : Option (Tree × State)) → external_at (less most) most state ≡ o → ((more : Trees) (rest : State) → SoFar tokens more rest → TextTook tokens (text_from turns more rest)) → TextTook tokens (text_by (text_from turns) parts state o)
    next None e again = h
    next (Some x) e again = again (snoc parts x.0) x.1 (so_far_more tokens parts state x.0 x.1 h (external_took (less most) most (less_took most) state x e))

so_far_none : (tokens : List Token) → SoFar tokens none (start_of tokens)
unfolding Spells AreExternals greatest_depth spell_all
so_far_none tokens = record { spelled = refl; allowed = tt; scope = refl; flat = omega arith }

unit_took : (tokens : List Token) → TextTook tokens (read_unit tokens)
unit_took tokens = text_took (suc (length tokens)) tokens none (start_of tokens) (so_far_none tokens)

pub whole_texts : WholeTextsAreRead
unfolding TextTook
whole_texts tokens externals h = subst (TextTook tokens) h (unit_took tokens)

front_tree : (tokens : List Token) (parts : Trees) (state : State) → SoFar tokens parts state → (front : List Token) × (tokens ≡ front ++ state.words) × HasTree front parts
unfolding Spells spell_all
front_tree tokens none state h = ([], h.spelled, has_tree [] none refl h.allowed h.flat)
front_tree tokens (first ▹ rest) state h =
    let e = unit_ends first rest first_scope h.allowed in
    let a = front_of e.0 e.1 tokens state.words (subst (λ l. Spells l tokens state.words) e.2 h.spelled) in
    (a.0, a.1, has_tree a.0 (first ▹ rest) (subst (λ l. Spells l a.0 []) (sym e.2) a.2) h.allowed h.flat)

pub fronts : FrontsAreRead
unfolding TextTook
fronts tokens externals state h = front_tree tokens externals state (subst (TextTook tokens) h (unit_took tokens))
