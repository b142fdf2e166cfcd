-- Each tree that is read with some room, external declarations, texts and conditions are read again; tokens have one answer.
use Rattle.std.proofs.Common.{ℕ, zero, suc, arith, ◌≡◌, ◌<◌, true, false, List, [], ◌∷◌, ◌++◌, Some, refl, sym, ap, ◌∙◌, subst, ◌+◌, ◌≤◌, Bool, length, Option, None, Result, Ok, Err}
use Rattle.std.proofs.lemmas.Bool.{false≢true, and_from, and_left, eq-eqb, ne_eqb, eqb-true}
use Rattle.std.specs.Prelude.{if◌then◌else◌, ◌&&◌, not, IsSome, is_some, nat_eq}
use Rattle.c_lexer.specs.declared.token.Token.{Token}
use Rattle.c_tree.specs.Places.{Place, Expression}
use Rattle.c_tree.specs.Words.{Mark}
use Rattle.c_tree.specs.Tree.{Tree, Trees, At, Node, none, ◌▹◌, count}
use Rattle.c_tree.specs.Grammar.{Here, Part, mark, behind_commas, shape, home, form_home, cond_level}
use Rattle.c_tree.specs.Spelling.{Piece, Said, spell, spell_all, filled, Spells, Line}
use Rattle.c_tree.specs.Scopes.{Scope, is_scope, places, after, params_of, with_params}
use Rattle.c_tree.specs.Allowed.{Takes, Allowed, AllAllowed, IsDefinition, IsExternal, AreExternals}
use Rattle.c_tree.specs.Depth.{depth, greatest_depth, weight, is_of_declarator, most}
use Rattle.c_tree.specs.HasTree.{HasTree, GoesWrong}
use Rattle.c_tree.specs.Places as p
use Rattle.c_tree.specs.declared.word.Sign.TheVariants as s
use Rattle.c_tree.specs.Forms as f
use Rattle.grammar_reading.specs.Reading.{Reader, ◌>>=◌, fixed, goes_on, commas_by, commas_from, snoc, joined}
use Rattle.grammar_reading.specs.Rooms.{read_at, less, Whole, Stops, text_by, text_from, start_of, Text, read_unit, read}
use Rattle.grammar_reading.specs.declared.kind.Kind.{Kind}
use Rattle.grammar_reading.specs.State.{State, line_at, left_at, skip, first_kind, at_mark, kind_is_mark, sign_number, back_to, with_flag, in_body, first_line}
use Rattle.grammar_reading.specs.Laws.{behind, TreesOfTextsAreRead, StopsWhereWrong, HasAnswer, OneAnswer}
use Rattle.grammar_reading.specs.Statements.{external_at}
use Rattle.grammar_reading.specs.Conditions.{IsCondition, whole_tree, read_condition, ConditionsAreRead, ReadConditionsAreTrees}
use Rattle.grammar_reading.specs.ReadingEquations.{none_some, some_same}
use Rattle.grammar_reading.specs.declared.kind.Kind.TheVariants as kinds
use Rattle.grammar_reading.specs.Declarators as d
use Rattle.grammar_reading.specs.Statements as t
use Rattle.grammar_reading.specs.Expressions as e
use Rattle.grammar_reading.proofs.Forms.{Sound, Took, all_sound, Also, KeepsParams, only_node, plain}
use Rattle.grammar_reading.proofs.sound.Texts.{external_ends, less_took, body_scope, external_took, fronts, unit_pieces, whole_texts, trees_are_read, nothing_left}
use Rattle.grammar_reading.proofs.complete.Reads.{one_of, AllAgain, Follow, all_complete, Reads, fixed_again, said_kind, said_first, line_first, specs_stop, after_declarator, after_entry, greatest_first, line_scope, word_allowed, said_shorter}
use Rattle.grammar_reading.proofs.complete.Specs.{of_form, name_again, specs_reads, expr_reads, arguments_node, light_depth, comma_seen, behind_long, commas_again, tail_shorter}
use Rattle.grammar_reading.proofs.complete.Declarators.{declarator_reads}
use Rattle.grammar_reading.proofs.complete.Declarations.{typename_node, params_node, length_node, maybe_name_node, members_node, enumerators_node, inits_node, names_node, any_init_declarator, declared_reads_again, entry_rest, entry_reads, any_init, statement_reads, branch_reads, items_node, maybe_expr_reads, for_start_reads, names_stop}
use Rattle.grammar_reading.proofs.Words.{spells_split}
use Rattle.grammar_reading.proofs.Nodes.{depth_flat, joined_none, joined_snoc}
use Rattle.grammar_reading.proofs.sound.Specs.{specs_took}
use Rattle.grammar_reading.proofs.complete.Firsts.{word_after_line, declarator_stops, begins, first, more_none, longer}
use Rattle.grammar_reading.proofs.sound.Declarations.{declared_took, entry_behind, entry_took}

module _ (inner : Place → Reader) (room : ℕ) (deeper : (place : Place) → Sound room place (inner place)) (again : AllAgain room inner) where
  read_at_again : AllAgain (suc room) (read_at inner room)
  read_at_again (Expression level) h = expr_reads inner room deeper again level
  read_at_again p.Arguments h = of_form (suc room) p.Arguments f.Arguments (e.arguments_at inner room) refl (arguments_node inner room deeper again)
  read_at_again p.Name h = name_again (suc room)
  read_at_again p.Typename h = of_form (suc room) p.Typename f.Typename (d.typename_at inner room) refl (typename_node inner room deeper again)
  read_at_again p.Specs h = specs_reads inner room deeper again
  read_at_again p.Names h = of_form (suc room) p.Names f.Names (d.names_at inner room) refl (names_node inner room deeper again)
  read_at_again p.MaybeName h = of_form (suc room) p.MaybeName f.MaybeName (d.maybe_name_at inner room) refl (maybe_name_node inner room deeper again)
  read_at_again p.Members h = of_form (suc room) p.Members f.Members (d.members_at inner room) refl (members_node inner room deeper again)
  read_at_again p.Enumerators h = of_form (suc room) p.Enumerators f.Enumerators (d.enumerators_at inner room) refl (enumerators_node inner room deeper again)
  read_at_again p.Declarator h = declarator_reads inner room deeper again p.Declarator tt
  read_at_again p.Abstract h = declarator_reads inner room deeper again p.Abstract tt
  read_at_again p.AnyDeclarator h = declarator_reads inner room deeper again p.AnyDeclarator tt
  read_at_again p.Params h = of_form (suc room) p.Params f.Params (d.params_at inner room) refl (params_node inner room deeper again)
  read_at_again p.MaybeLength h = of_form (suc room) p.MaybeLength f.MaybeLength (d.maybe_length_at inner room) refl (length_node inner room deeper again)
  read_at_again p.Inits h = of_form (suc room) p.Inits f.Inits (d.inits_at inner room) refl (inits_node inner room deeper again)
  read_at_again p.Items h = of_form (suc room) p.Items f.Items (t.items_at inner room) refl (items_node inner room deeper again)
  read_at_again p.Statement h = statement_reads inner room deeper again
  read_at_again p.Branch h = branch_reads inner room deeper again
  read_at_again p.ForStart h = for_start_reads inner room deeper again
  read_at_again p.MaybeExpr h = maybe_expr_reads inner room deeper again
  read_at_again _ h = absurd (false≢true h)

pub less_again : (room : ℕ) → AllAgain room (less room)
less_again zero place h state tree rest takes al deep sp fo = absurd (omega (arith, deep))
less_again (suc room) place h state tree rest takes al deep sp fo =
    read_at_again (less room) room (less_took room) (less_again room) place h state tree rest takes al deep sp fo

-- External declarations are read again, whatever stands behind them.

semicolon_seen : (state : State) (rest : List Token) → Spells (Said (Mark s.Semicolon) ∷ []) state.words rest → at_mark s.Semicolon state ≡ true
unfolding sign_number
semicolon_seen state rest sp = ap (kind_is_mark s.Semicolon) (said_kind (Mark s.Semicolon) tt [] state.words rest sp)

no_comma : (kind : Kind) → kind ≡ kinds.Mark s.Semicolon → kind_is_mark s.Comma kind ≡ false
unfolding sign_number
no_comma kind h = ap (kind_is_mark s.Comma) h

entry_end : (kind : Kind) → kind ≡ kinds.Mark s.Semicolon → after_entry kind ≡ true
unfolding after_entry sign_number
entry_end kind h = ap after_entry h

entry_comma : (kind : Kind) → kind ≡ kinds.Mark s.Comma → after_entry kind ≡ true
unfolding after_entry sign_number
entry_comma kind h = ap after_entry h

-- behind a name of a declaration stands a comma or `;`
more_end : (trees : Trees) (scope : Scope) (ws rest : List Token) → AllAllowed trees (places (behind_commas p.Entry (count trees))) scope → Spells (filled (behind_commas p.Entry (count trees)) (spell_all trees)) ws rest → first_kind rest ≡ kinds.Mark s.Semicolon → after_entry (first_kind ws) ≡ true
unfolding AllAllowed spell_all Spells
more_end none scope ws rest al sp end = entry_end (first_kind ws) (ap first_kind sp ∙ end)
more_end (tree ▹ trees) scope ws rest al sp end =
    entry_comma (first_kind ws) (said_kind (Mark s.Comma) tt (spell tree ++ filled (behind_commas p.Entry (count trees)) (spell_all trees)) ws rest sp)

-- no body begins behind a declarator of an entry
entry_no_body : (kind : Kind) → after_entry kind ≡ true → kind_is_mark s.LeftBrace kind ≡ false
unfolding after_entry sign_number
entry_no_body kind h = one_of (λ kind. kind_is_mark s.LeftBrace kind ≡ false) (s.Comma ∷ s.Semicolon ∷ []) kind (refl, (refl, tt)) h

any_init_no_body : (tree : Tree) (scope : Scope) (ws rest : List Token) → Takes p.MaybeInit tree → Allowed tree scope → Spells (spell tree ++ []) ws rest → after_entry (first_kind rest) ≡ true → kind_is_mark s.LeftBrace (first_kind ws) ≡ false
unfolding sign_number
any_init_no_body tree scope ws rest h al sp end =
    any_init (λ kind. kind_is_mark s.LeftBrace kind ≡ false) tree scope ws rest h al sp refl (entry_no_body (first_kind rest) end)

-- a body begins with its brace
body_begins : (body : Tree) (pieces : List Piece) (ws rest : List Token) → Takes p.Body body → Spells (spell body ++ pieces) ws rest → first_kind ws ≡ kinds.Mark s.LeftBrace
unfolding Takes spell shape
body_begins body pieces ws rest h sp =
    let a = only_node p.Body f.Body body refl h in
    said_kind (Mark s.LeftBrace) tt (filled (Part p.Items ∷ Here ∷ mark s.RightBrace ∷ []) (spell_all a.0) ++ pieces) ws rest (subst (λ t. Spells (spell t ++ pieces) ws rest) a.1 sp)

brace_ends : (kind : Kind) → kind ≡ kinds.Mark s.LeftBrace → after_declarator kind ≡ true
unfolding after_declarator sign_number
brace_ends kind h = ap after_declarator h

brace_there : (kind : Kind) → kind ≡ kinds.Mark s.LeftBrace → kind_is_mark s.LeftBrace kind ≡ true
unfolding sign_number
brace_there kind h = ap (kind_is_mark s.LeftBrace) h

-- a declarator ends specs, and is no `;`
declared_stops : (declared : Tree) (scope : Scope) (pieces : List Piece) (ws rest : List Token) → Takes p.Declared declared → Allowed declared scope → Spells (spell declared ++ pieces) ws rest → (specs_stop (first_kind ws) ≡ true) × (kind_is_mark s.Semicolon (first_kind ws) ≡ false)
unfolding first
declared_stops declared scope pieces ws rest h al sp =
    declarator_stops (first_kind ws) (begins p.Declared declared pieces (record { words = ws; scope = scope; params = [] }) rest refl h al sp)

-- the parameters next to a name are known
declared_keeps : (bound : ℕ) (declared : Tree) (state rest : State) → Took bound p.Declared state declared rest → KeepsParams (params_of declared) state rest
unfolding Also
declared_keeps bound declared state rest h = h.also

module _ (inner : Place → Reader) (room : ℕ) (deeper : (place : Place) → Sound room place (inner place)) (again : AllAgain room inner) where
  -- Declarations

  -- the names behind the first entry
  more_reads : (entry : Tree) (trees : Trees) (state : State) (rest : List Token) → AllAllowed trees (places (behind_commas p.Entry (count trees))) state.scope → greatest_depth trees < suc room → Spells (filled (behind_commas p.Entry (count trees)) (spell_all trees)) state.words rest → first_kind rest ≡ kinds.Mark s.Semicolon → Reads (λ st. commas_by (d.entry_at inner room) goes_on f.Names (commas_from (d.entry_at inner room) goes_on f.Names (left_at st)) (entry ▹ none) (goes_on st) st) state (Node f.Names (entry ▹ trees)) rest
  unfolding AllAllowed spell_all is_scope Spells Takes Follow
  more_reads entry none state rest al deep sp end =
      (state, ap (λ b. commas_by (d.entry_at inner room) goes_on f.Names (commas_from (d.entry_at inner room) goes_on f.Names (left_at state)) (entry ▹ none) b state) (ap (λ ws. kind_is_mark s.Comma (first_kind ws)) sp ∙ no_comma (first_kind rest) end), sp)
  more_reads entry (next ▹ more) state rest al deep sp end =
      let tail = filled (behind_commas p.Entry (count more)) (spell_all more) in
      let long = behind_long p.Entry (next ▹ more) state.scope state.words rest al sp in
      let passed = said_first (Mark s.Comma) tt (spell next ++ tail) state rest sp in
      let r = commas_again (suc room) p.Entry (d.entry_at inner room) goes_on f.Names rest (entry_took inner room deeper) (entry_reads inner room deeper again) (λ t ws h. entry_comma (first_kind ws) h) (λ t. entry_end (first_kind rest) end) (λ st h. ap (λ ws. kind_is_mark s.Comma (first_kind ws)) h ∙ no_comma (first_kind rest) end) (λ st t pieces sc takes al2 g. comma_seen st (spell t ++ pieces) rest g) more next (left_at state) (entry ▹ none) (skip state) al.0 al.1 al.2 deep passed.1 (omega (arith, long)) in
      (r.0, ap (λ b. commas_by (d.entry_at inner room) goes_on f.Names (commas_from (d.entry_at inner room) goes_on f.Names (left_at state)) (entry ▹ none) b state) (comma_seen state (spell next ++ tail) rest sp) ∙ r.1, r.2)

  -- the names behind the first declarator
  names_from_reads : (start state : State) (declared i : Tree) (trees : Trees) (middle rest : List Token) → Took (suc room) p.Declared start declared state → home i ≡ p.MaybeInit → Allowed i state.scope → depth i < suc room → AllAllowed trees (places (behind_commas p.Entry (count trees))) (after (Node f.Entry (declared ▹ i ▹ none)) start.scope) → greatest_depth trees < suc room → Spells (spell i ++ []) state.words middle → Spells (filled (behind_commas p.Entry (count trees)) (spell_all trees)) middle rest → first_kind rest ≡ kinds.Mark s.Semicolon → Reads (t.names_from inner room declared) state (Node f.Names (Node f.Entry (declared ▹ i ▹ none) ▹ trees)) rest
  unfolding is_scope
  names_from_reads start state declared i trees middle rest named h al deep al2 deep2 sp sp2 end =
      let tail = filled (behind_commas p.Entry (count trees)) (spell_all trees) in
      let entry = Node f.Entry (declared ▹ i ▹ none) in
      let one = entry_rest inner room deeper again declared i state middle h al deep sp (more_end trees (after entry start.scope) middle rest al2 sp2 end) in
      let took = entry_behind inner room deeper start state declared (entry, one.0) named one.1 in
      let r = more_reads entry trees one.0 rest (subst (λ sc. AllAllowed trees (places (behind_commas p.Entry (count trees))) sc) (sym took.scope) al2) deep2 (subst (λ ws. Spells tail ws rest) (sym one.2) sp2) end in
      (r.0, ap (λ o. o >>= (λ (x : Tree × State). commas_by (d.entry_at inner room) goes_on f.Names (commas_from (d.entry_at inner room) goes_on f.Names (left_at x.1)) (x.0 ▹ none) (goes_on x.1) x.1)) one.1 ∙ r.1, r.2)

  declaration_from_reads : (line : ℕ) (specs names : Tree) (state : State) (rest : List Token) → Spells (Said (Mark s.Semicolon) ∷ []) state.words rest → Reads (t.declaration_from inner room line specs names) state (Node f.Declaration (At line ▹ specs ▹ names ▹ none)) rest
  unfolding Spells
  declaration_from_reads line specs names state rest sp =
      let a = said_first (Mark s.Semicolon) tt [] state rest sp in
      (skip state, ap (λ o. o >>= (λ next. Some (Node f.Declaration (At line ▹ specs ▹ names ▹ none), next))) a.0, a.1)

  -- behind specs
  abbrev Behind : ℕ → Tree → State → Tree → List Token → Type 0
  Behind line specs state tree rest = Reads (t.external_from inner room line specs) state tree rest

  entry_external : (line : ℕ) (specs : Tree) (entry : Trees) (trees : Trees) (state : State) (rest : List Token) → Allowed (Node f.Names (Node f.Entry entry ▹ trees)) state.scope → depth (Node f.Names (Node f.Entry entry ▹ trees)) < suc room → Spells (spell (Node f.Names (Node f.Entry entry ▹ trees)) ++ Said (Mark s.Semicolon) ∷ []) state.words rest → Behind line specs state (Node f.Declaration (At line ▹ specs ▹ Node f.Names (Node f.Entry entry ▹ trees) ▹ none)) rest
  unfolding Allowed AllAllowed shape spell spell_all is_of_declarator weight form_home Takes is_scope Follow Spells
  entry_external line specs (a ▹ i ▹ none) trees state rest al deep sp =
      let entry = Node f.Entry (a ▹ i ▹ none) in
      let names = Node f.Names (entry ▹ trees) in
      let tail = filled (behind_commas p.Entry (count trees)) (spell_all trees) in
      let g = greatest_first entry trees (suc room) (light_depth f.Names (entry ▹ trees) (suc room) refl refl deep) in
      let g2 = greatest_first a (i ▹ none) (suc room) (light_depth f.Entry (a ▹ i ▹ none) (suc room) refl refl g.0) in
      let g3 = greatest_first i none (suc room) g2.1 in
      let m = spells_split ((spell a ++ (spell i ++ [])) ++ tail) (Said (Mark s.Semicolon) ∷ []) state.words rest sp in
      let semi = said_kind (Mark s.Semicolon) tt [] m.0 rest m.2 in
      let n = spells_split (spell a ++ (spell i ++ [])) tail state.words m.0 m.1 in
      let o = spells_split (spell a) (spell i ++ []) state.words n.0 n.1 in
      let end = more_end trees (after entry state.scope) n.0 m.0 al.1.2 n.2 semi in
      let inside = al.1.1.1 in
      let one = declared_reads_again inner room deeper again state a o.0 inside.0 inside.1 g2.0 o.1 (any_init_declarator i (after a state.scope) o.0 n.0 inside.2.0 inside.2.1 o.2 end) in
      let took = declared_took inner room deeper state (a, one.0) one.1 in
      let al_i = subst (λ sc. Allowed i sc) (sym took.scope) inside.2.1 in
      let two = names_from_reads state one.0 a i trees n.0 m.0 took inside.2.0 al_i g3.0 al.1.2 g.1 (subst (λ ws. Spells (spell i ++ []) ws n.0) (sym one.2) o.2) n.2 semi in
      let last = declaration_from_reads line specs names two.0 rest (subst (λ ws. Spells (Said (Mark s.Semicolon) ∷ []) ws rest) (sym two.2) m.2) in
      let no_semi = (declared_stops a state.scope [] state.words o.0 inside.0 inside.1 (more_none (spell a) state.words o.0 o.1)).1 in
      let no_body = and_left (at_mark s.LeftBrace one.0 && is_some (params_of a)) (not one.0.scope.typedef) (and_left (at_mark s.LeftBrace one.0) (is_some (params_of a)) (ap (λ ws. kind_is_mark s.LeftBrace (first_kind ws)) one.2 ∙ any_init_no_body i (after a state.scope) o.0 n.0 inside.2.0 inside.2.1 o.2 end)) in (
        last.0,
        ap (λ b. if b then t.declaration_from inner room line specs (Node f.Names none) state else d.declared_at inner room state >>= (λ (x : Tree × State). t.declared_from inner room line specs x.0 x.1)) no_semi
            ∙ ap (λ r. r >>= (λ (x : Tree × State). t.declared_from inner room line specs x.0 x.1)) one.1
            ∙ ap (λ b. if b then t.function_from inner room line specs a one.0 else t.names_from inner room a one.0 >>= (λ (x : Tree × State). t.declaration_from inner room line specs x.0 x.1)) no_body
            ∙ ap (λ r. r >>= (λ (x : Tree × State). t.declaration_from inner room line specs x.0 x.1)) two.1
            ∙ last.1,
        last.2,
      )
  entry_external line specs _ trees state rest al deep sp = absurd assumption

  names_external : (line : ℕ) (specs : Tree) (parts : Trees) (state : State) (rest : List Token) → Allowed (Node f.Names parts) state.scope → depth (Node f.Names parts) < suc room → Spells (spell (Node f.Names parts) ++ Said (Mark s.Semicolon) ∷ []) state.words rest → Behind line specs state (Node f.Declaration (At line ▹ specs ▹ Node f.Names parts ▹ none)) rest
  unfolding Allowed AllAllowed shape spell spell_all Takes
  names_external line specs none state rest al deep sp =
      let r = declaration_from_reads line specs (Node f.Names none) state rest sp in
      (r.0, ap (λ b. if b then t.declaration_from inner room line specs (Node f.Names none) state else d.declared_at inner room state >>= (λ (x : Tree × State). t.declared_from inner room line specs x.0 x.1)) (semicolon_seen state rest sp) ∙ r.1, r.2)
  names_external line specs (entry ▹ trees) state rest al deep sp =
      let a = only_node p.Entry f.Entry entry refl al.1.0 in
      let P : Tree → Type 0 = λ e. Allowed (Node f.Names (e ▹ trees)) state.scope → depth (Node f.Names (e ▹ trees)) < suc room → Spells (spell (Node f.Names (e ▹ trees)) ++ Said (Mark s.Semicolon) ∷ []) state.words rest → Behind line specs state (Node f.Declaration (At line ▹ specs ▹ Node f.Names (e ▹ trees) ▹ none)) rest in
      subst P (sym a.1) (λ al2 d2 sp2. entry_external line specs a.0 trees state rest al2 d2 sp2) al deep sp

  -- Definitions of functions

  body_reads : (parts : Trees) (state : State) (rest : List Token) → Allowed (Node f.Body parts) state.scope → depth (Node f.Body parts) < suc room → Spells (spell (Node f.Body parts)) state.words rest → Reads (fixed inner f.Body) state (Node f.Body parts) rest
  unfolding Allowed AllAllowed shape spell spell_all Follow is_of_declarator weight form_home Takes
  body_reads (a ▹ l ▹ more) state rest al deep sp =
      let parts = a ▹ l ▹ more in
      let n = depth_flat f.Body parts refl in
      fixed_again room inner f.Body (λ n. refl) (all_sound room inner deeper (shape f.Body zero)) (all_complete room inner again (shape f.Body zero) refl) state parts rest al (omega (arith, n, deep)) sp (tt, ((λ middle g. brace middle g), (tt, tt)))
    where
      brace : (middle : List Token) → Spells (spell l ++ Said (Mark s.RightBrace) ∷ []) middle rest → first_kind middle ≡ kinds.Mark s.RightBrace
      brace middle g =
          let there : State = record { words = middle; scope = state.scope; params = [] } in
          (word_after_line (Mark s.RightBrace) l [] there rest al.1.2.0 tt g).0
  body_reads _ state rest al deep sp = absurd assumption

  body_at_reads : (body : Tree) (state : State) (rest : List Token) → Takes p.Body body → Allowed body (in_body state).scope → depth body < suc room → Spells (spell body) state.words rest → Reads (t.body_at inner room) state body rest
  unfolding Takes
  body_at_reads body state rest h al deep sp =
      let a = only_node p.Body f.Body body refl h in
      let P : Tree → Type 0 = λ b. Allowed b (in_body state).scope → depth b < suc room → Spells (spell b) state.words rest → Reads (t.body_at inner room) state b rest in
      subst P (sym a.1) (λ al2 d2 sp2. by (body_reads a.0 (in_body state) rest al2 d2 sp2)) al deep sp
    where
      by : {tree : Tree} → Reads (fixed inner f.Body) (in_body state) tree rest → Reads (t.body_at inner room) state tree rest
      by r = (back_to state r.0, ap (λ o. o >>= (λ (x : Tree × State). Some (x.0, back_to state x.1))) r.1, r.2)

  function_external : (line : ℕ) (specs declared body : Tree) (state : State) (rest : List Token) → home declared ≡ p.Declared → Allowed declared state.scope → depth declared < suc room → IsSome (params_of declared) → state.scope.typedef ≡ false → Takes p.Body body → Allowed body (with_params (params_of declared) (after declared state.scope)) → depth body < suc room → Spells (spell declared ++ (spell body ++ [])) state.words rest → Behind line specs state (Node f.Function (At line ▹ specs ▹ declared ▹ body ▹ none)) rest
  unfolding is_scope Takes Follow Spells
  function_external line specs declared body state rest h al deep function plain stands inside deep2 sp =
      let m = spells_split (spell declared) (spell body ++ []) state.words rest sp in
      let open_ = body_begins body [] m.0 rest stands m.2 in
      let n = spells_split (spell body) [] m.0 rest m.2 in
      let spelled = subst (λ ws. Spells (spell body) m.0 ws) n.2 n.1 in
      let one = declared_reads_again inner room deeper again state declared m.0 h al deep m.1 (brace_ends (first_kind m.0) open_) in
      let took = declared_took inner room deeper state (declared, one.0) one.1 in
      let flag : one.0.scope.typedef ≡ state.scope.typedef = took.flag refl in
      let same : with_params (params_of declared) one.0.scope ≡ (in_body one.0).scope = body_scope (params_of declared) state one.0 function (declared_keeps (suc room) declared state one.0 took) flag in
      let al_body = subst (λ sc. Allowed body sc) (ap (with_params (params_of declared)) (sym took.scope) ∙ same) inside in
      let two = body_at_reads body one.0 rest stands al_body deep2 (subst (λ ws. Spells (spell body) ws rest) (sym one.2) spelled) in
      let no_semi = (declared_stops declared state.scope [] state.words m.0 h al (more_none (spell declared) state.words m.0 m.1)).1 in
      let begins = and_from (at_mark s.LeftBrace one.0 && is_some (params_of declared)) (not one.0.scope.typedef) (and_from (at_mark s.LeftBrace one.0) (is_some (params_of declared)) (ap (λ ws. kind_is_mark s.LeftBrace (first_kind ws)) one.2 ∙ brace_there (first_kind m.0) open_) function) (ap not (flag ∙ plain)) in (
        two.0,
        ap (λ b. if b then t.declaration_from inner room line specs (Node f.Names none) state else d.declared_at inner room state >>= (λ (x : Tree × State). t.declared_from inner room line specs x.0 x.1)) no_semi
            ∙ ap (λ r. r >>= (λ (x : Tree × State). t.declared_from inner room line specs x.0 x.1)) one.1
            ∙ ap (λ b. if b then t.function_from inner room line specs declared one.0 else t.names_from inner room declared one.0 >>= (λ (x : Tree × State). t.declaration_from inner room line specs x.0 x.1)) begins
            ∙ ap (λ r. r >>= (λ (x : Tree × State). Some (Node f.Function (At line ▹ specs ▹ declared ▹ x.0 ▹ none), x.1))) two.1,
        two.2,
      )

  -- Whole external declarations

  -- specs, and what stands behind them
  external_behind : (x specs : Tree) (pieces : List Piece) (tree : Tree) (state : State) (rest : List Token) → Takes p.Line x → home specs ≡ p.Specs → Allowed specs state.scope → depth specs < suc room → Spells (spell x ++ (spell specs ++ pieces)) state.words rest → ((middle : List Token) → Spells pieces middle rest → specs_stop (first_kind middle) ≡ true) → ((line : ℕ) (behind : State) → x ≡ At line → behind.scope ≡ after specs state.scope → Spells pieces behind.words rest → Behind line specs behind tree rest) → Reads (t.external_at inner room) state tree rest
  unfolding is_scope Takes Follow spell
  external_behind x specs pieces tree state rest line_ h al deep sp stop next =
      let a = line_first x line_ (spell specs ++ pieces) state rest sp in
      let m = spells_split (spell specs) pieces state.words rest a.1 in
      let one = specs_reads inner room deeper again state specs m.0 h al deep m.1 (stop m.0 m.2) in
      let took = specs_took inner room deeper state (specs, one.0) one.1 in
      let two = next (line_at state) one.0 a.0 took.scope (subst (λ ws. Spells pieces ws rest) (sym one.2) m.2) in (
        with_flag state.scope.typedef two.0,
        ap (λ r. (r >>= (λ (y : Tree × State). t.external_from inner room (line_at state) y.0 y.1)) >>= (λ (y : Tree × State). Some (y.0, with_flag state.scope.typedef y.1))) one.1
            ∙ ap (λ r. r >>= (λ (y : Tree × State). Some (y.0, with_flag state.scope.typedef y.1))) two.1,
        two.2,
      )

  declaration_reads : (parts : Trees) (state : State) (rest : List Token) → Allowed (Node f.Declaration parts) state.scope → depth (Node f.Declaration parts) < suc room → Spells (spell (Node f.Declaration parts)) state.words rest → Reads (t.external_at inner room) state (Node f.Declaration parts) rest
  unfolding Allowed AllAllowed shape spell spell_all is_of_declarator weight form_home Takes is_scope
  declaration_reads (x ▹ a ▹ b ▹ none) state rest al deep sp =
      let pieces = spell b ++ Said (Mark s.Semicolon) ∷ [] in
      let g = greatest_first x (a ▹ b ▹ none) (suc room) (light_depth f.Declaration (x ▹ a ▹ b ▹ none) (suc room) refl refl deep) in
      let g2 = greatest_first a (b ▹ none) (suc room) g.1 in
      let g3 = greatest_first b none (suc room) g2.1 in
      let n = only_node p.Names f.Names b refl al.1.2.2.0 in
      let here = line_scope x al.1.0 state.scope in
      let al_b : Allowed b (after a state.scope) = subst (λ sc. Allowed b (after a sc)) here al.1.2.2.1 in
      external_behind x a pieces (Node f.Declaration (x ▹ a ▹ b ▹ none)) state rest al.1.0 al.1.2.0 (word_allowed x a state.scope al.1.0 al.1.2.1) g2.0 sp (λ middle k. names_stop inner room deeper again b (after a state.scope) middle rest al.1.2.2.0 al_b k) (λ line behind is scope k. named line behind n.0 is n.1 (subst (λ sc. Allowed b sc) (sym scope) al_b) g3.0 k)
    where
      named : (line : ℕ) (behind : State) (names : Trees) → x ≡ At line → b ≡ Node f.Names names → Allowed b behind.scope → depth b < suc room → Spells (spell b ++ Said (Mark s.Semicolon) ∷ []) behind.words rest → Behind line a behind (Node f.Declaration (x ▹ a ▹ b ▹ none)) rest
      named line behind names is same al_b d k =
          let P : Tree → Type 0 = λ q. Allowed q behind.scope → depth q < suc room → Spells (spell q ++ Said (Mark s.Semicolon) ∷ []) behind.words rest → Behind line a behind (Node f.Declaration (At line ▹ a ▹ q ▹ none)) rest in
          subst (λ y. Behind line a behind (Node f.Declaration (y ▹ a ▹ b ▹ none)) rest) (sym is) (subst P (sym same) (λ al2 d2 sp2. names_external line a names behind rest al2 d2 sp2) al_b d k)
  declaration_reads _ state rest al deep sp = absurd assumption

  function_reads : (x a b c : Tree) (state : State) (rest : List Token) → IsDefinition x a b c state.scope → depth (Node f.Function (x ▹ a ▹ b ▹ c ▹ none)) < suc room → Spells (spell (Node f.Function (x ▹ a ▹ b ▹ c ▹ none))) state.words rest → Reads (t.external_at inner room) state (Node f.Function (x ▹ a ▹ b ▹ c ▹ none)) rest
  unfolding AllAllowed shape spell spell_all is_of_declarator weight form_home Takes is_scope
  function_reads x a b c state rest al deep sp =
      let front = al.front in
      let pieces = spell b ++ (spell c ++ []) in
      let g = greatest_first x (a ▹ b ▹ c ▹ none) (suc room) (light_depth f.Function (x ▹ a ▹ b ▹ c ▹ none) (suc room) refl refl deep) in
      let g2 = greatest_first a (b ▹ c ▹ none) (suc room) g.1 in
      let g3 = greatest_first b (c ▹ none) (suc room) g2.1 in
      let g4 = greatest_first c none (suc room) g3.1 in
      let here = line_scope x front.0 state.scope in
      let al_b : Allowed b (after a state.scope) = subst (λ sc. Allowed b (after a sc)) here front.2.2.1 in
      external_behind x a pieces (Node f.Function (x ▹ a ▹ b ▹ c ▹ none)) state rest front.0 front.2.0 (word_allowed x a state.scope front.0 front.2.1) g2.0 sp (λ middle k. (declared_stops b (after a state.scope) (spell c ++ []) middle rest front.2.2.0 al_b k).0) (λ line behind is scope k. subst (λ y. Behind line a behind (Node f.Function (y ▹ a ▹ b ▹ c ▹ none)) rest) (sym is) (function_external line a b c behind rest front.2.2.0 (subst (λ sc. Allowed b sc) (sym scope) al_b) g3.0 al.function (ap (λ (sc : Scope). sc.typedef) scope ∙ al.plain) al.stands (subst (λ sc. Allowed c (with_params (params_of b) (after b sc))) (sym scope) al.inside) g4.0 k))

  pub external_reads : (tree : Tree) (state : State) (rest : List Token) → IsExternal tree state.scope → depth tree < suc room → Spells (spell tree) state.words rest → Reads (t.external_at inner room) state tree rest
  unfolding IsExternal
  external_reads (Node f.Function (x ▹ a ▹ b ▹ c ▹ none)) state rest al deep sp = function_reads x a b c state rest al deep sp
  external_reads (Node f.Declaration parts) state rest al deep sp = declaration_reads parts state rest al deep sp
  external_reads _ state rest al deep sp = absurd al

-- Texts are read again, and go wrong where reading stops.

-- One external declaration

abbrev External : State → Tree → State → Type 0
External state tree rest = external_at (less most) most state ≡ Some (tree, rest)

-- it takes a word
external_shorter : (state : State) (tree : Tree) (rest : State) → External state tree rest → length rest.words < length state.words
external_shorter state tree rest h =
    let took = external_took (less most) most (less_took most) state (tree, rest) h in
    let e = external_ends tree state.scope took.allowed in
    tail_shorter e.0 (Said e.1 ∷ []) state.words rest.words (λ us g. said_shorter e.1 [] us rest.words g) (subst (λ l. Spells l state.words rest.words) e.2 took.spelled)

external_scope : (state : State) (tree : Tree) (rest : State) → External state tree rest → rest.scope ≡ after tree state.scope
external_scope state tree rest h = (external_took (less most) most (less_took most) state (tree, rest) h).scope

some_left : (n : ℕ) → 0 < n → nat_eq n 0 ≡ false
some_left n lt = ne_eqb n 0 (λ e. omega (arith, lt, e))

-- External declarations in turn

record Gone (turns : ℕ) (done trees : Trees) (state : State) (rest : List Token) : Type 0 where
  out : State
  more : ℕ
  goes : text_from turns done state ≡ text_from more (joined done trees) out
  words : out.words ≡ rest
  enough : length out.words < more

all_gone : (trees : Trees) (turns : ℕ) (done : Trees) (state : State) (rest : List Token) → AreExternals trees state.scope → greatest_depth trees < suc most → Spells (unit_pieces trees) state.words rest → length state.words < turns → Gone turns done trees state rest
unfolding AreExternals spell_all Spells
all_gone trees zero done state rest al deep sp lt = absurd (omega (arith, lt))
all_gone none (suc turns) done state rest al deep sp lt =
    record { out = state; more = suc turns; goes = ap (λ t. text_from (suc turns) t state) (sym (joined_none done)); words = sp; enough = lt }
all_gone (tree ▹ trees) (suc turns) done state rest al deep sp lt =
    let a = spells_split (spell tree) (unit_pieces trees) state.words rest sp in
    let g = greatest_first tree trees (suc most) deep in
    let one = external_reads (less most) most (less_took most) (less_again most) tree state a.0 al.0 g.0 a.1 in
    let short = external_shorter state tree one.0 one.1 in
    let scope = external_scope state tree one.0 one.1 in
    let r = all_gone trees turns (snoc done tree) one.0 rest (subst (λ sc. AreExternals trees sc) (sym scope) al.1) g.1 (subst (λ ws. Spells (unit_pieces trees) ws rest) (sym one.2) a.2) (omega (arith, short, lt)) in
    let here = some_left (left_at state) (omega (arith, short)) in
    record {
      out = r.out;
      more = r.more;
      goes = ap (λ b. if b then Whole done else text_by (text_from turns) done state (external_at (less most) most state)) here ∙ ap (text_by (text_from turns) done state) one.1 ∙ r.goes ∙ ap (λ t. text_from r.more t r.out) (joined_snoc done tree trees);
      words = r.words;
      enough = r.enough;
    }

-- Where reading stops

abbrev Stopped : ℕ → Trees → State → Trees → State → Type 0
Stopped turns done state externals at = text_from turns done state ≡ Stops externals at

whole_no_stop : (parts externals : Trees) (at : State) → Whole parts ≡ Stops externals at → ⊥
whole_no_stop parts externals at h = cc

stop_same : (a b : Trees) (s t : State) → Stops a s ≡ Stops b t → s ≡ t
stop_same a b s t h = cc

-- no word is put back, and while there are turns enough, reading stops before a word
record StopsAt (turns : ℕ) (state at : State) : Type 0 where
  back : length at.words ≤ length state.words
  some : length state.words < turns → 0 < length at.words

stops_at : (turns : ℕ) (done : Trees) (state : State) (externals : Trees) (at : State) → Stopped turns done state externals at → StopsAt turns state at
stops_at zero done state externals at h =
    let same = ap (λ (st : State). length st.words) (stop_same done externals state at h) in
    record { back = omega (arith, same); some = λ lt. absurd (omega (arith, lt)) }
stops_at (suc turns) done state externals at h =
    by (nat_eq (left_at state) 0) refl h (λ more next g. stops_at turns more next externals at g)
  where
    next : (o : Option (Tree × State)) → external_at (less most) most state ≡ o → nat_eq (left_at state) 0 ≡ false → text_by (text_from turns) done state o ≡ Stops externals at → ((more : Trees) (next : State) → Stopped turns more next externals at → StopsAt turns next at) → StopsAt (suc turns) state at
    next None e full g again =
        let same = ap (λ (st : State). length st.words) (stop_same done externals state at g) in
        record { back = omega (arith, same); some = λ lt. positive (length state.words) (length at.words) full same }
      where
        positive : (n m : ℕ) → nat_eq n 0 ≡ false → n ≡ m → 0 < m
        positive zero m e same = absurd (false≢true (sym e ∙ eq-eqb 0 0 refl))
        positive (suc n) m e same = omega (arith, same)
    next (Some x) e full g again =
        let short = external_shorter state x.0 x.1 e in
        let r = again (snoc done x.0) x.1 g in
        let back = r.back in
        record { back = omega (arith, back, short); some = λ lt. r.some (omega (arith, lt, short)) }

    by : (b : Bool) → nat_eq (left_at state) 0 ≡ b → (if b then Whole done else text_by (text_from turns) done state (external_at (less most) most state)) ≡ Stops externals at → ((more : Trees) (next : State) → Stopped turns more next externals at → StopsAt turns next at) → StopsAt (suc turns) state at
    by true e g again = absurd (whole_no_stop done externals at g)
    by false e g again = next (external_at (less most) most state) refl e g again

-- Whole texts

unit_depth : (parts : Trees) → depth (Node f.Unit parts) ≤ most → greatest_depth parts < suc most
unfolding weight form_home is_of_declarator
unit_depth parts h = let n = depth_flat f.Unit parts refl in omega (arith, n, h)

unit_spelled : (parts : Trees) (tokens rest : List Token) → Spells (spell (Node f.Unit parts)) tokens rest → Spells (unit_pieces parts) tokens rest
unfolding spell shape
unit_spelled parts tokens rest h = h

-- what spells a front spells it before more tokens
spells_before : (pieces : List Piece) (tokens rest more : List Token) → Spells pieces tokens rest → Spells pieces (tokens ++ more) (rest ++ more)
unfolding Spells
spells_before [] tokens rest more h = ap (λ ts. ts ++ more) h
spells_before (Said word ∷ pieces) [] rest more h = absurd h
spells_before (Said word ∷ pieces) (token ∷ tokens) rest more h = (h.0, spells_before pieces tokens rest more h.1)
spells_before (Line line ∷ pieces) [] rest more h = absurd h
spells_before (Line line ∷ pieces) (token ∷ tokens) rest more h = (h.0, spells_before pieces (token ∷ tokens) rest more h.1)

-- a front that has a tree is read
front_gone : (tokens longer behind : List Token) (other : Trees) → tokens ≡ longer ++ behind → HasTree longer other → Gone (suc (length tokens)) none other (start_of tokens) behind
front_gone tokens longer behind other e tree =
    let spelled = spells_before (unit_pieces other) longer [] behind (unit_spelled other longer [] tree.spelled) in
    all_gone other (suc (length tokens)) none (start_of tokens) behind tree.allowed (unit_depth other tree.flat) (subst (λ ts. Spells (unit_pieces other) ts behind) (sym e) spelled) (omega arith)

no_words : (ws : List Token) → ws ≡ [] → length ws ≡ 0
no_words ws e = ap length e

ended : (more : ℕ) (parts : Trees) (out : State) → out.words ≡ [] → length out.words < more → text_from more parts out ≡ Whole parts
ended zero parts out e lt = absurd (omega (arith, lt))
ended (suc more) parts out e lt =
    ap (λ b. if b then Whole parts else text_by (text_from more) parts out (external_at (less most) most out)) (eq-eqb (left_at out) 0 (no_words out.words e))

pub nothing_more : (ws : List Token) → ws ++ [] ≡ ws
nothing_more [] = refl
nothing_more (token ∷ ws) = ap (λ ts. token ∷ ts) (nothing_more ws)

pub trees_of_texts : TreesOfTextsAreRead
trees_of_texts tokens externals tree =
    let g = front_gone tokens tokens [] externals (sym (nothing_more tokens)) tree in
    g.goes ∙ ended g.more externals g.out g.words g.enough

-- the first word of what is left
pub first_split : (ws : List Token) → 0 < length ws → (wrong : Token) × (rest : List Token) × (ws ≡ wrong ∷ rest) × (wrong.line ≡ first_line ws)
first_split [] h = absurd (omega (arith, h))
first_split (token ∷ ws) h = (token, ws, refl, refl)

pub long_both : (a b : List Token) → length (a ++ b) ≡ length a + length b
long_both [] b = omega arith
long_both (token ∷ a) b = let e = long_both a b in omega (arith, e)

pub stops_wrong : StopsWhereWrong
stops_wrong tokens externals state h =
    let left = (stops_at (suc (length tokens)) none (start_of tokens) externals state h).some (omega arith) in
    let front = fronts tokens externals state h in
    let first = first_split state.words left in (
      left,
      record {
        front = front.0;
        wrong = first.0;
        rest = first.1;
        externals = externals;
        split = front.1 ∙ ap (λ ws. front.0 ++ ws) first.2;
        tree = front.2;
        longest = λ longer behind other e tree. longest front.0 front.1 longer behind other e tree;
        here = first.3;
      },
    )
  where
    longest : (front : List Token) → tokens ≡ front ++ state.words → (longer behind : List Token) (other : Trees) → tokens ≡ longer ++ behind → HasTree longer other → length longer ≤ length front
    longest front split longer behind other e tree =
        let g = front_gone tokens longer behind other e tree in
        let back = (stops_at g.more other g.out externals state (sym g.goes ∙ h)).back in
        let same = ap length g.words in
        let a = ap length split ∙ long_both front state.words in
        let b = ap length e ∙ long_both longer behind in
        omega (arith, a, b, back, same)

-- Tokens have a tree or go wrong, never both, and in one way.

whole_same : (a b : Trees) → Whole a ≡ Whole b → a ≡ b
whole_same a b h = cc

whole_stops : (a b : Trees) (state : State) → Whole a ≡ Stops b state → ⊥
whole_stops a b state h = cc

-- tokens that have a tree do not go wrong
not_both : (tokens : List Token) (externals : Trees) (line : ℕ) → HasTree tokens externals → GoesWrong tokens line → ⊥
not_both tokens externals line tree wrong =
    let le = wrong.longest tokens [] externals (sym (nothing_more tokens)) tree in
    let split = ap length wrong.split ∙ long_both wrong.front (wrong.wrong ∷ wrong.rest) in
    omega (arith, le, split)

-- behind fronts that are equally long the same token stands
same_token : (a b : List Token) (x y : Token) (rest other : List Token) → length a ≡ length b → a ++ x ∷ rest ≡ b ++ y ∷ other → x ≡ y
same_token [] [] x y rest other e h = cc
same_token [] (t ∷ b) x y rest other e h = absurd (omega (arith, e))
same_token (t ∷ a) [] x y rest other e h = absurd (omega (arith, e))
same_token (t ∷ a) (u ∷ b) x y rest other e h = same_token a b x y rest other (omega (arith, e)) (tails h) where
  tails : {s r : List Token} → t ∷ s ≡ u ∷ r → s ≡ r
  tails g = cc

one_line : (tokens : List Token) (line other : ℕ) → GoesWrong tokens line → GoesWrong tokens other → other ≡ line
one_line tokens line other a b =
    let up = a.longest b.front (b.wrong ∷ b.rest) b.externals b.split b.tree in
    let down = b.longest a.front (a.wrong ∷ a.rest) a.externals a.split a.tree in
    let same = same_token a.front b.front a.wrong b.wrong a.rest b.rest (omega (arith, up, down)) (sym a.split ∙ b.split) in
    sym b.here ∙ ap (λ (t : Token). t.line) (sym same) ∙ a.here

abbrev Only : List Token → Result Trees ℕ → Type 0
Only tokens answer = (other : Result Trees ℕ) → HasAnswer tokens other → other ≡ answer

pub one_answer : OneAnswer
one_answer tokens = by (read_unit tokens) refl where
  tree_only : (externals : Trees) → read_unit tokens ≡ Whole externals → HasTree tokens externals → Only tokens (Ok externals)
  tree_only externals e tree (Ok other) h = ap Ok (whole_same other externals (sym (trees_of_texts tokens other h) ∙ e))
  tree_only externals e tree (Err line) h = absurd (not_both tokens externals line tree h)

  line_only : (externals : Trees) (state : State) → read_unit tokens ≡ Stops externals state → GoesWrong tokens (line_at state) → Only tokens (Err (line_at state))
  line_only externals state e wrong (Ok other) h = absurd (whole_stops other externals state (sym (trees_of_texts tokens other h) ∙ e))
  line_only externals state e wrong (Err line) h = ap Err (one_line tokens (line_at state) line wrong h)

  by : (text : Text) → read_unit tokens ≡ text → (answer : Result Trees ℕ) × HasAnswer tokens answer × ((other : Result Trees ℕ) → HasAnswer tokens other → other ≡ answer)
  by (Whole externals) e = let tree = whole_texts tokens externals e in (Ok externals, tree, tree_only externals e tree)
  by (Stops externals state) e = let wrong = (stops_wrong tokens externals state e).1 in (Err (line_at state), wrong, line_only externals state e wrong)

-- The tokens of a condition have the tree that is read.

-- a tree of a condition is read up to the end
read_up : (tokens : List Token) (tree : Tree) → IsCondition tokens tree → Reads (read most (Expression cond_level)) (start_of tokens) tree []
unfolding Follow
read_up tokens tree h =
    let flat = h.flat in
    less_again (suc most) (Expression cond_level) refl (start_of tokens) tree [] h.stands h.allowed (omega (arith, flat)) h.spelled refl

none_left : (tree : Tree) (out : State) → out.words ≡ [] → whole_tree (Some (tree, out)) ≡ Some tree
none_left tree out h = ap (λ (ws : List Token). if nat_eq (length ws) 0 then Some tree else None) h

pub conditions_are_read : ConditionsAreRead
unfolding read_condition
conditions_are_read tokens tree h =
    let r = read_up tokens tree h in
    ap whole_tree r.1 ∙ none_left tree r.0 r.2

-- what is read whole
record IsWhole (o : Option (Tree × State)) (tree : Tree) : Type 0 where
  out : State
  read : o ≡ Some (tree, out)
  empty : out.words ≡ []

whole_is : (o : Option (Tree × State)) (tree : Tree) → whole_tree o ≡ Some tree → IsWhole o tree
whole_is None tree h = none_some h
whole_is (Some x) tree h = by (nat_eq (left_at x.1) 0) refl h where
  by : (b : Bool) → nat_eq (left_at x.1) 0 ≡ b → (if b then Some x.0 else None) ≡ Some tree → IsWhole (Some x) tree
  by true e g = record { out = x.1; read = ap (λ t. Some (t, x.1)) (some_same g); empty = nothing_left x.1.words (eqb-true (left_at x.1) 0 e) }
  by false e g = none_some g

pub read_are_conditions : ReadConditionsAreTrees
unfolding read_condition
read_are_conditions tokens tree h =
    let w = whole_is (read most (Expression cond_level) (start_of tokens)) tree h in
    let r = trees_are_read most (Expression cond_level) (start_of tokens) w.out tree w.read in
    record {
      stands = r.stands;
      allowed = r.allowed;
      spelled = subst (λ ws. Spells (spell tree) tokens ws) w.empty r.spelled;
      flat = r.deep;
    }
