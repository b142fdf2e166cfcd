-- Parameters, members, enumerators, initializers, names of declarations, and statements that are read.
use Rattle.std.proofs.Common.{◌≡◌, ℕ, zero, suc, ◌<◌, Bool, true, false, inl, inr, List, [], ◌∷◌, ◌++◌, take, length, Option, Some, None, refl, sym, ap, ◌∙◌, subst, arith, ◌+◌}
use Rattle.std.specs.Prelude.{if◌then◌else◌, not, ◌&&◌, ◌||◌}
use Rattle.std.proofs.lemmas.Bool.{and_parts, true≢false, false≢true}
use Rattle.c_tree.specs.Forms.{Form}
use Rattle.c_tree.specs.Grammar.{Item, Part, closed, form_home, shape, rows, some, Says, Here, key, mark, expr}
use Rattle.c_tree.specs.Places.{Place, Expression}
use Rattle.c_tree.specs.Scopes.{Scope, is_scope, places, declare, name_among, leads_to_name, params_of, after, after_all, left, is_type}
use Rattle.c_tree.specs.Allowed.{Takes, AllAllowed, obeys, is_none, IsItem, is_open, ends_in_statement, ends_open, last_ends_open}
use Rattle.c_tree.specs.Spelling.{spell_all}
use Rattle.c_tree.specs.Depth.{weight, is_of_declarator, greatest_depth}
use Rattle.c_tree.specs.Tree.{Tree, Trees, Node, none, ◌▹◌, count, At}
use Rattle.c_tree.specs.declared.word.Keyword.{Keyword}
use Rattle.c_tree.specs.declared.word.Sign.TheVariants as s
use Rattle.c_tree.specs.Forms as f
use Rattle.c_tree.specs.Places as p
use Rattle.c_tree.specs.declared.word.Keyword.TheVariants as k
use Rattle.grammar_reading.specs.State.{State, left_at, at_name, at_mark, skip, declaring, line_at, kind_at, at_key, past, starts_type, back_to, with_flag}
use Rattle.grammar_reading.specs.Reading.{Reader, fixed, optional_part, parts_of, in_front, guarded, goes_on, goes_on_inside, commas_from, list_from, joined, scoped, unflagged}
use Rattle.grammar_reading.specs.ReadingEquations.{none_some, some_same, bind_some}
use Rattle.grammar_reading.specs.declared.kind.Kind.{Kind}
use Rattle.grammar_reading.specs.Expressions as e
use Rattle.grammar_reading.specs.Declarators as d
use Rattle.grammar_reading.specs.declared.kind.Kind.TheVariants as kinds
use Rattle.grammar_reading.specs.Statements as t
use Rattle.grammar_reading.proofs.Words.{either}
use Rattle.grammar_reading.proofs.Forms.{Took, PartsTook, Sound, AllSound, all_sound, parts_took, Opens, Also, KeepsParams, has_specs, has_words, heres, took_both, took_one, took_none, is_plain, made, plain, front_some, is_closed}
use Rattle.grammar_reading.proofs.Nodes.{took_node, node_some, depth_flat, CommasTook, commas_took, list_took, light_commas, took_light, rows_specs, took_closed, form_took, left_inner}
use Rattle.grammar_reading.proofs.sound.Specs.{guarded_some, expression_took, argument_took, name_took, some_rows, plain_specs_took, specs_took, ending_took}
use Rattle.grammar_reading.proofs.sound.Declarators.{params_single, declarator_took, keeps_same}

-- Forms that count nothing

pub record IsLight (form : Form) (place : Place) (items : List Item) : Type 0 where
  pub plain : is_plain form ≡ true
  pub light : weight form ≡ 0
  pub lines : heres items ≡ true
  pub single : has_specs (places items) ≡ false
  pub stands : (parts : Trees) → Takes place (Node form parts)
  pub outside : is_scope place ≡ false
  pub wordless : has_words place ≡ false
  pub also : (state : State) (parts : Trees) (rest : State) → Also place state (Node form parts) rest

pub no_words_open : (place : Place) (state : State) → has_words place ≡ false → Opens (has_words place) state.words
no_words_open place state e = subst (λ t. Opens t state.words) (sym e) tt

pub light_node : (bound : ℕ) (place : Place) (form : Form) (items : List Item) (state rest : State) (parts : Trees) → 0 < bound → IsLight form place items → PartsTook bound items state parts rest → shape form (count parts) ≡ items → Took bound place state (Node form parts) rest
light_node bound place form items state rest parts some facts took shaped =
    took_light bound place form items state rest parts some facts.plain facts.light took shaped facts.single (facts.stands parts) facts.outside (no_words_open place state facts.wordless) (facts.also state parts rest)

pub light_fixed : (bound : ℕ) (place : Place) (form : Form) (part : Place → Reader) → 0 < bound → IsLight form place (shape form zero) → ((n : ℕ) → shape form n ≡ shape form zero) → AllSound bound part (shape form zero) → Sound bound place (fixed part form)
light_fixed bound place form part some facts shaped each state x h =
    let a = node_some form (parts_of part (shape form zero) state) x h in
    let b = (parts_took bound part (shape form zero) each facts.lines state a.0 a.1).0 in
    subst (λ (z : Tree × State). Took bound place state z.0 z.1) (some_same a.2) (light_node bound place form (shape form zero) state a.0.1 a.0.0 some facts b (shaped (count a.0.0)))

pub count_places : (parts : Trees) (ps : List Place) (scope : Scope) → AllAllowed parts ps scope → count parts ≡ length ps
unfolding AllAllowed
count_places none [] scope h = refl
count_places none (place ∷ ps) scope h = absurd h
count_places (tree ▹ rest) [] scope h = absurd h
count_places (tree ▹ rest) (place ∷ ps) scope h = ap suc (count_places rest ps (if is_scope place then scope else after tree scope) h.2)

pub light_optional : (bound : ℕ) (place : Place) (form : Form) (part : Place → Reader) → 0 < bound → IsLight form place (shape form (suc zero)) → IsLight form place [] → shape form zero ≡ [] → length (places (shape form (suc zero))) ≡ suc zero → AllSound bound part (shape form (suc zero)) → (b : Bool) → Sound bound place (optional_part part form b)
light_optional bound place form part some one empty shaped long each true state x h =
    let a = node_some form (parts_of part (shape form (suc zero)) state) x h in
    let b = (parts_took bound part (shape form (suc zero)) each one.lines state a.0 a.1).0 in
    let n = count_places a.0.0 (places (shape form (suc zero))) state.scope b.allowed ∙ long in
    subst (λ (z : Tree × State). Took bound place state z.0 z.1) (some_same a.2) (light_node bound place form (shape form (suc zero)) state a.0.1 a.0.0 some one b (ap (shape form) n))
light_optional bound place form part some one empty shaped long each false state x h =
    subst (λ (z : Tree × State). Took bound place state z.0 z.1) (some_same h) (light_node bound place form [] state state none some empty (took_none bound state) shaped)

-- Forms that declare a name at their end

pub declared_node : (bound : ℕ) (place : Place) (form : Form) (is_type : Bool) (items : List Item) (state rest : State) (parts : Trees) → 0 < bound → obeys form parts state.scope ≡ true → is_of_declarator form ≡ false → weight form ≡ 0 → PartsTook bound items state parts rest → shape form (count parts) ≡ items → has_specs (places items) ≡ false → Takes place (Node form parts) → is_scope place ≡ false → ((before inner : Scope) → before.typedef ≡ state.scope.typedef → left form parts before inner ≡ made (declare (name_among parts) is_type inner.names) before.typedef) → has_words place ≡ false → Also place state (Node form parts) (declaring (name_among parts) is_type rest) → Took bound place state (Node form parts) (declaring (name_among parts) is_type rest)
declared_node bound place form is_type items state rest parts some free flat light took shaped single stands outside leaves wordless also =
    let flag = took.flag single in
    let n = depth_flat form parts flat in
    let deep = took.deep in
    let scoped =
    ap (λ names. made (declare (name_among parts) is_type names) rest.scope.typedef) (ap (λ (sc : Scope). sc.names) took.scope)
    ∙ ap (made (declare (name_among parts) is_type (after_all parts (places items) state.scope).names)) flag
    ∙ sym (leaves state.scope (after_all parts (places items) state.scope) refl) in
    form_took bound bound place form items state rest (declaring (name_among parts) is_type rest) parts took shaped free stands (omega (arith, n, deep, light, some)) refl scoped (λ e. flag) outside (no_words_open place state wordless) also

pub goes : (state : State) → goes_on state ≡ true → at_mark s.Comma state ≡ true
goes state h = h

goes_inside : (state : State) → goes_on_inside state ≡ true → at_mark s.Comma state ≡ true
goes_inside state h = (and_parts (at_mark s.Comma state) (not (at_mark s.RightBrace (skip state))) h).0

some_parts : (parts : Trees) (n : ℕ) → count parts ≡ suc n → not (is_none parts) ≡ true
some_parts none n h = cc
some_parts (tree ▹ rest) n h = refl

init_specs : (trailing : Bool) → has_specs (places (take 3 (shape (f.InitList false) zero) ++ closed trailing)) ≡ false
unfolding shape
init_specs true = refl
init_specs false = refl

or_true : (b : Bool) → (b || true) ≡ true
or_true true = refl
or_true false = refl

module _ (inner : Place → Reader) (room : ℕ) (deeper : (place : Place) → Sound room place (inner place)) where
  pub expr_took : (level : ℕ) → Sound (suc room) (Expression level) (guarded room (e.expression_at inner room level))
  expr_took level state x h =
      let a = guarded_some room (e.expression_at inner room level) state x h in
      expression_took inner room deeper a.0 level state x a.1

  pub part_took : (place : Place) → Sound (suc room) place (d.part_at inner room place)
  part_took p.PlainSpecs state x h = plain_specs_took inner room deeper state x h
  part_took p.Specs state x h = specs_took inner room deeper state x h
  part_took p.Declarator state x h = declarator_took inner room deeper p.Declarator tt state x h
  part_took p.Abstract state x h = declarator_took inner room deeper p.Abstract tt state x h
  part_took p.AnyDeclarator state x h = declarator_took inner room deeper p.AnyDeclarator tt state x h
  part_took p.Name state x h = name_took (suc room) (omega arith) state x h
  part_took (Expression level) state x h = expr_took level state x h
  part_took _ state x h = none_some h

  parts_part : (items : List Item) → AllSound (suc room) (d.part_at inner room) items
  parts_part items = all_sound (suc room) (d.part_at inner room) part_took items

  pub argument_sound : Sound (suc room) (Expression 14) (e.argument_at inner room)
  argument_sound state x h =
      let a = guarded_some room (e.assign_at inner room) state x h in
      argument_took inner room deeper a.0 state x h

  pub arguments_took : Sound (suc room) p.Arguments (e.arguments_at inner room)
  unfolding shape form_home weight Takes is_scope Also
  arguments_took state x h = elim (either (at_mark s.RightParen state) (Some (Node f.Arguments none, state)) (commas_from (e.argument_at inner room) goes_on f.Arguments (left_at state) none state) x h) [
    | inl a ↦ subst (λ (z : Tree × State). Took (suc room) p.Arguments state z.0 z.1) (some_same a.1) (took_light (suc room) p.Arguments f.Arguments [] state state none (omega arith) refl refl (took_none (suc room) state) refl refl refl refl tt tt)
    | inr a ↦ light_commas (suc room) p.Arguments (Expression 14) f.Arguments state x (omega arith) refl refl (commas_took (suc room) (Expression 14) (e.argument_at inner room) goes_on f.Arguments argument_sound goes (left_at state) state state none x refl a.1) (λ n. refl) refl (λ parts n c. refl) refl tt (λ parts. tt)
  ]

  pub typename_took : Sound (suc room) p.Typename (d.typename_at inner room)
  unfolding shape form_home weight Takes is_scope Also
  typename_took = light_fixed (suc room) p.Typename f.Typename (d.part_at inner room) (omega arith) (record { plain = refl; light = refl; lines = refl; single = refl; stands = λ parts. refl; outside = refl; wordless = refl; also = λ state parts rest. tt }) (λ n. refl) (parts_part (shape f.Typename zero))

  declared_some : (is_type : Bool) (form : Form) (o : Option (Trees × State)) (x : Tree × State) → d.declared inner room is_type form o ≡ Some x → (y : Trees × State) × (o ≡ Some y) × (Some (Node form y.0, declaring (name_among y.0) is_type y.1) ≡ Some x)
  declared_some is_type form None x h = none_some h
  declared_some is_type form (Some y) x h = (y, refl, h)

  pub param_took : Sound (suc room) p.Param (d.param_at inner room)
  unfolding shape form_home weight Takes is_scope Also obeys left is_of_declarator
  param_took state x h =
      let a = declared_some false f.Param (parts_of (d.part_at inner room) (shape f.Param zero) state) x h in
      let b = (parts_took (suc room) (d.part_at inner room) (shape f.Param zero) (parts_part (shape f.Param zero)) refl state a.0 a.1).0 in
      subst (λ (z : Tree × State). Took (suc room) p.Param state z.0 z.1) (some_same a.2) (declared_node (suc room) p.Param f.Param false (shape f.Param zero) state a.0.1 a.0.0 (omega arith) refl refl refl b refl refl refl refl (λ before inner e. refl) refl tt)

  pub params_took : Sound (suc room) p.Params (d.params_at inner room)
  unfolding shape form_home weight Takes is_scope Also
  params_took state x h = elim (either (at_mark s.RightParen state) (Some (Node f.Params none, state)) (commas_from (d.param_at inner room) goes_on f.Params (left_at state) none state) x h) [
    | inl a ↦ subst (λ (z : Tree × State). Took (suc room) p.Params state z.0 z.1) (some_same a.1) (took_light (suc room) p.Params f.Params [] state state none (omega arith) refl refl (took_none (suc room) state) refl refl refl refl tt tt)
    | inr a ↦ light_commas (suc room) p.Params p.Param f.Params state x (omega arith) refl refl (commas_took (suc room) p.Param (d.param_at inner room) goes_on f.Params param_took goes (left_at state) state state none x refl a.1) (λ n. refl) refl (λ parts n c. refl) refl tt (λ parts. tt)
  ]

  pub maybe_length_took : Sound (suc room) p.MaybeLength (d.maybe_length_at inner room)
  unfolding shape form_home weight Takes is_scope Also
  maybe_length_took state x h =
      light_optional (suc room) p.MaybeLength f.MaybeLength (d.part_at inner room) (omega arith) (record { plain = refl; light = refl; lines = refl; single = refl; stands = λ parts. refl; outside = refl; wordless = refl; also = λ state parts rest. tt }) (record { plain = refl; light = refl; lines = refl; single = refl; stands = λ parts. refl; outside = refl; wordless = refl; also = λ state parts rest. tt }) refl refl (parts_part (shape f.MaybeLength (suc zero))) (not (at_mark s.RightBracket state)) state x h

  -- Members and enumerators

  pub maybe_name_took : Sound (suc room) p.MaybeName (d.maybe_name_at inner room)
  unfolding shape form_home weight Takes is_scope Also
  maybe_name_took state x h =
      light_optional (suc room) p.MaybeName f.MaybeName (d.part_at inner room) (omega arith) (record { plain = refl; light = refl; lines = refl; single = refl; stands = λ parts. refl; outside = refl; wordless = refl; also = λ state parts rest. tt }) (record { plain = refl; light = refl; lines = refl; single = refl; stands = λ parts. refl; outside = refl; wordless = refl; also = λ state parts rest. tt }) refl refl (parts_part (shape f.MaybeName (suc zero))) (at_name state) state x h

  pub member_names_took : Sound (suc room) p.MemberNames (d.member_names_at inner room)
  unfolding shape form_home weight Takes is_scope Also
  member_names_took state x h =
      light_commas (suc room) p.MemberNames p.Declarator f.MemberNames state x (omega arith) refl refl (commas_took (suc room) p.Declarator (d.declarator_at inner room p.Declarator) goes_on f.MemberNames (declarator_took inner room deeper p.Declarator tt) goes (left_at state) state state none x refl h) (λ n. refl) refl (λ parts n c. refl) refl tt (λ parts. tt)

  pub member_took : Sound (suc room) p.Member (d.member_at inner room)
  unfolding shape form_home weight Takes is_scope Also
  member_took = light_fixed (suc room) p.Member f.Member (d.member_part inner room) (omega arith) (record { plain = refl; light = refl; lines = refl; single = refl; stands = λ parts. refl; outside = refl; wordless = refl; also = λ state parts rest. tt }) (λ n. refl) (plain_specs_took inner room deeper, (member_names_took, tt))

  pub members_took : Sound (suc room) p.Members (d.members_at inner room)
  unfolding shape form_home weight Takes is_scope Also
  members_took state x h =
      let a = bind_some (d.member_at inner room state) (λ (y : Tree × State). list_from (d.member_at inner room) (at_mark s.RightBrace) f.Members (suc (left_at y.1)) (y.0 ▹ none) y.1) x h in
      let l = list_took (suc room) p.Member (d.member_at inner room) (at_mark s.RightBrace) f.Members member_took (suc (left_at a.0.1)) state a.0.1 (a.0.0 ▹ none) 1 x (took_one (suc room) p.Member state a.0.1 a.0.0 (member_took state a.0 a.1)) (omega arith) a.2 in
      subst (λ t. Took (suc room) p.Members state t x.1) (sym l.made) (took_light (suc room) p.Members f.Members (rows p.Member (count l.parts)) state x.1 l.parts (omega arith) refl refl l.took (some_rows p.Member (count l.parts) l.long) (rows_specs p.Member (count l.parts) refl) refl refl tt tt)

  pub maybe_value_took : Sound (suc room) p.MaybeValue (d.maybe_value_at inner room)
  unfolding shape form_home weight Takes is_scope Also
  maybe_value_took state x h =
      light_optional (suc room) p.MaybeValue f.MaybeValue (d.part_at inner room) (omega arith) (record { plain = refl; light = refl; lines = refl; single = refl; stands = λ parts. refl; outside = refl; wordless = refl; also = λ state parts rest. tt }) (record { plain = refl; light = refl; lines = refl; single = refl; stands = λ parts. refl; outside = refl; wordless = refl; also = λ state parts rest. tt }) refl refl (parts_part (shape f.MaybeValue (suc zero))) (at_mark s.Equal state) state x h

  pub enumerator_took : Sound (suc room) p.Enumerator (d.enumerator_at inner room)
  unfolding shape form_home weight Takes is_scope Also obeys left is_of_declarator
  enumerator_took state x h =
      let a = declared_some false f.Enumerator (parts_of (d.enumerator_part inner room) (shape f.Enumerator zero) state) x h in
      let b = (parts_took (suc room) (d.enumerator_part inner room) (shape f.Enumerator zero) (name_took (suc room) (omega arith), (maybe_value_took, tt)) refl state a.0 a.1).0 in
      subst (λ (z : Tree × State). Took (suc room) p.Enumerator state z.0 z.1) (some_same a.2) (declared_node (suc room) p.Enumerator f.Enumerator false (shape f.Enumerator zero) state a.0.1 a.0.0 (omega arith) refl refl refl b refl refl refl refl (λ before inner e. refl) refl tt)

  pub enumerators_took : Sound (suc room) p.Enumerators (d.enumerators_at inner room)
  unfolding shape form_home weight Takes is_scope Also
  enumerators_took state x h =
      light_commas (suc room) p.Enumerators p.Enumerator f.Enumerators state x (omega arith) refl refl (commas_took (suc room) p.Enumerator (d.enumerator_at inner room) goes_on_inside f.Enumerators enumerator_took goes_inside (left_at state) state state none x refl h) (λ n. refl) refl (λ parts n c. refl) refl tt (λ parts. tt)

  -- Initializers

  init_list_took : Sound (suc room) p.Init (d.init_list_at inner room)
  unfolding shape form_home weight Takes is_scope Also
  init_list_took state x h =
      let items = take 3 (shape (f.InitList false) zero) in
      let b = ending_took room f.InitList items state (parts_of inner items state) x (λ y g. (parts_took room inner items (all_sound room inner deeper items) refl state y g).0) h in
      let deep = b.took.deep in
      let ran = b.took.ran refl in
      subst (λ t. Took (suc room) p.Init state t x.1) (sym b.made) (took_node (suc room) room p.Init (f.InitList b.trailing) (items ++ closed b.trailing) state x.1 b.parts refl b.took refl (init_specs b.trailing) refl refl (omega (arith, deep, ran)) tt tt)

  pub init_took : Sound (suc room) p.Init (d.init_at inner room)
  unfolding shape form_home weight Takes is_scope Also
  init_took state x h = elim (either (at_mark s.LeftBrace state) (d.init_list_at inner room state) (fixed (d.part_at inner room) f.InitExpr state) x h) [
    | inl a ↦ init_list_took state x a.1
    | inr a ↦ light_fixed (suc room) p.Init f.InitExpr (d.part_at inner room) (omega arith) (record { plain = refl; light = refl; lines = refl; single = refl; stands = λ parts. refl; outside = refl; wordless = refl; also = λ state parts rest. tt }) (λ n. refl) (parts_part (shape f.InitExpr zero)) state x a.1
  ]

  pub inits_took : Sound (suc room) p.Inits (d.inits_at inner room)
  unfolding shape form_home weight Takes is_scope Also
  inits_took state x h =
      light_commas (suc room) p.Inits p.Init f.Inits state x (omega arith) refl refl (commas_took (suc room) p.Init (d.init_at inner room) goes_on_inside f.Inits init_took goes_inside (left_at state) state state none x refl h) (λ n. refl) refl (λ parts n c. refl) refl tt (λ parts. tt)

  -- Names of declarations

  declared_is : (state : State) (y : Tree × State) → Took (suc room) p.Declarator state y.0 y.1 → Took (suc room) p.Declared state (Node f.Declared (y.0 ▹ none)) (declaring (name_among (y.0 ▹ none)) state.scope.typedef y.1)
  unfolding shape form_home weight Takes is_scope Also obeys left is_of_declarator params_of leads_to_name
  declared_is state y took =
      let parts = took_one (suc room) p.Declarator state y.1 y.0 took in
      let also = took.also in
      let rest : State = declaring (name_among (y.0 ▹ none)) state.scope.typedef y.1 in
      let keeps = keeps_same (params_of y.0) state y.1 rest refl also.1 in
      declared_node (suc room) p.Declared f.Declared state.scope.typedef (Part p.Declarator ∷ []) state y.1 (y.0 ▹ none) (omega arith) refl refl refl parts refl refl refl refl (λ before inside e. ap (λ t. made (declare (name_among (y.0 ▹ none)) t inside.names) before.typedef) e) refl (subst (λ o. KeepsParams o state rest) (sym (params_single y.0)) keeps)

  pub declared_took : Sound (suc room) p.Declared (d.declared_at inner room)
  unfolding shape
  declared_took state x h =
      let a = declared_some state.scope.typedef f.Declared (parts_of (d.part_at inner room) (shape f.Declared zero) state) x h in
      let b = bind_some (d.declarator_at inner room p.Declarator state) (λ (y : Tree × State). in_front y.0 (Some (none, y.1))) a.0 a.1 in
      let took = declarator_took inner room deeper p.Declarator tt state b.0 b.1 in
      let P : Trees × State → Type 0 = λ y. Took (suc room) p.Declared state (Node f.Declared y.0) (declaring (name_among y.0) state.scope.typedef y.1) in
      subst (λ (z : Tree × State). Took (suc room) p.Declared state z.0 z.1) (some_same a.2) (subst P (some_same b.2) (declared_is state b.0 took))

  init_node : (state rest : State) (parts : Trees) (items : List Item) → (not state.scope.typedef || is_none parts) ≡ true → PartsTook (suc room) items state parts rest → shape f.MaybeInit (count parts) ≡ items → has_specs (places items) ≡ false → Took (suc room) p.MaybeInit state (Node f.MaybeInit parts) rest
  unfolding form_home weight Takes is_scope Also obeys left is_of_declarator
  init_node state rest parts items free took shaped single =
      let n = depth_flat f.MaybeInit parts refl in
      let deep = took.deep in
      form_took (suc room) (suc room) p.MaybeInit f.MaybeInit items state rest rest parts took shaped free refl (omega (arith, n, deep)) refl (left_inner (suc room) items state rest parts took single) (λ e. took.flag single) refl tt tt

  maybe_init_by : (b : Bool) (state : State) (x : Tree × State) → (at_mark s.Equal state && not state.scope.typedef) ≡ b → optional_part (d.init_part inner room) f.MaybeInit b state ≡ Some x → Took (suc room) p.MaybeInit state x.0 x.1
  unfolding shape
  maybe_init_by true state x e h =
      let a = node_some f.MaybeInit (parts_of (d.init_part inner room) (shape f.MaybeInit (suc zero)) state) x h in
      let b = (parts_took (suc room) (d.init_part inner room) (shape f.MaybeInit (suc zero)) (init_took, tt) refl state a.0 a.1).0 in
      let c = and_parts (at_mark s.Equal state) (not state.scope.typedef) e in
      let n = count_places a.0.0 (places (shape f.MaybeInit (suc zero))) state.scope b.allowed in
      subst (λ (z : Tree × State). Took (suc room) p.MaybeInit state z.0 z.1) (some_same a.2) (init_node state a.0.1 a.0.0 (shape f.MaybeInit (suc zero)) (ap (λ t. t || is_none a.0.0) c.1) b (ap (shape f.MaybeInit) n) refl)
  maybe_init_by false state x e h =
      subst (λ (z : Tree × State). Took (suc room) p.MaybeInit state z.0 z.1) (some_same h) (init_node state state none [] (or_true (not state.scope.typedef)) (took_none (suc room) state) refl refl)

  pub maybe_init_took : Sound (suc room) p.MaybeInit (d.maybe_init_at inner room)
  maybe_init_took state x h = maybe_init_by (at_mark s.Equal state && not state.scope.typedef) state x refl h

  -- an entry behind its declarator
  pub entry_behind : (start state : State) (declared : Tree) (x : Tree × State) → Took (suc room) p.Declared start declared state → d.entry_from inner room declared state ≡ Some x → Took (suc room) p.Entry start x.0 x.1
  unfolding shape form_home weight Takes is_scope Also
  entry_behind start state declared x took h =
      let a = bind_some (d.maybe_init_at inner room state) (λ (y : Tree × State). Some (Node f.Entry (declared ▹ y.0 ▹ none), y.1)) x h in
      let init = maybe_init_took state a.0 a.1 in
      let both = took_both (suc room) (Part p.Declared ∷ []) (Part p.MaybeInit ∷ []) start state a.0.1 (declared ▹ none) (a.0.0 ▹ none) (took_one (suc room) p.Declared start state declared took) (took_one (suc room) p.MaybeInit state a.0.1 a.0.0 init) in
      subst (λ (z : Tree × State). Took (suc room) p.Entry start z.0 z.1) (some_same a.2) (took_light (suc room) p.Entry f.Entry (Part p.Declared ∷ Part p.MaybeInit ∷ []) start a.0.1 (declared ▹ a.0.0 ▹ none) (omega arith) refl refl both refl refl refl refl tt tt)

  pub entry_took : Sound (suc room) p.Entry (d.entry_at inner room)
  entry_took state x h =
      let a = bind_some (d.declared_at inner room state) (λ (y : Tree × State). d.entry_from inner room y.0 y.1) x h in
      entry_behind state a.0.1 a.0.0 x (declared_took state a.0 a.1) a.2

  -- a list of names, from its commas on
  pub entries_took : (state : State) (x : Tree × State) → CommasTook (suc room) p.Entry f.Names state x → Took (suc room) p.SomeNames state x.0 x.1
  unfolding shape form_home weight Takes is_scope Also
  entries_took state x l = light_commas (suc room) p.SomeNames p.Entry f.Names state x (omega arith) refl refl l (λ n. refl) refl (λ parts n c. (refl, some_parts parts n c)) refl tt (λ parts. tt)

  pub names_of_some : (state : State) (tree : Tree) (rest : State) → Took (suc room) p.SomeNames state tree rest → Took (suc room) p.Names state tree rest
  unfolding Takes is_scope Also
  names_of_some state tree rest h = record { stands = h.stands.0; allowed = h.allowed; spelled = h.spelled; deep = h.deep; scope = h.scope; flag = h.flag; opens = tt; also = tt }

  pub some_names_took : Sound (suc room) p.SomeNames (d.some_names_at inner room)
  some_names_took state x h =
      entries_took state x (commas_took (suc room) p.Entry (d.entry_at inner room) goes_on f.Names entry_took goes (left_at state) state state none x refl h)

  pub no_names : (state : State) → Took (suc room) p.Names state (Node f.Names none) state
  unfolding shape form_home weight Takes is_scope Also
  no_names state = took_light (suc room) p.Names f.Names [] state state none (omega arith) refl refl (took_none (suc room) state) refl refl refl refl tt tt

  pub names_took : Sound (suc room) p.Names (d.names_at inner room)
  names_took state x h = elim (either (at_mark s.Semicolon state) (Some (Node f.Names none, state)) (d.some_names_at inner room state) x h) [
    | inl a ↦ subst (λ (z : Tree × State). Took (suc room) p.Names state z.0 z.1) (some_same a.1) (no_names state)
    | inr a ↦ names_of_some state x.0 x.1 (some_names_took state x a.1)
  ]

-- Statements that are read.

-- The last part of a statement

abbrev is_stmt : Place → Bool
is_stmt p.Statement = true
is_stmt p.Branch = true
is_stmt _ = false

abbrev last_stmt : List Item → Bool
last_stmt [] = false
last_stmt (Says word ∷ items) = last_stmt items
last_stmt (Here ∷ items) = last_stmt items
last_stmt (Part place ∷ []) = is_stmt place
last_stmt (Part place ∷ item ∷ items) = last_stmt (item ∷ items)

stmt_also : (place : Place) (state : State) (tree : Tree) (rest : State) → is_stmt place ≡ true → Also place state tree rest → (ends_open tree && at_key k.Else rest) ≡ false
unfolding Also
stmt_also p.Statement state tree rest e h = h
stmt_also p.Branch state tree rest e h = h
stmt_also _ state tree rest e h = absurd (false≢true e)

abbrev EndsWell : Trees → State → Type 0
EndsWell parts rest = (is_none parts ≡ false) × ((last_ends_open parts && at_key k.Else rest) ≡ false)

last_also : (bound : ℕ) (part : Place → Reader) → ((place : Place) → Sound bound place (part place)) → (items : List Item) (state : State) (y : Trees × State) → last_stmt items ≡ true → parts_of part items state ≡ Some y → EndsWell y.0 y.1
unfolding ends_open
last_also bound part each [] state y l h = absurd (false≢true l)
last_also bound part each (Says word ∷ items) state y l h =
    let a = bind_some (past word state) (λ next. parts_of part items next) y h in
    last_also bound part each items a.0 y l a.2
last_also bound part each (Here ∷ items) state y l h =
    let a = front_some (At (line_at state)) (parts_of part items state) y h in
    let b = last_also bound part each items state a.0 l a.1 in
    subst (λ (z : Trees × State). EndsWell z.0 z.1) (some_same a.2) (refl, ap (λ c. (if c then false else last_ends_open a.0.0) && at_key k.Else a.0.1) b.0 ∙ b.1)
last_also bound part each (Part place ∷ []) state y l h =
    let a = bind_some (part place state) (λ x. in_front x.0 (parts_of part [] x.1)) y h in
    let took = each place state a.0 a.1 in
    subst (λ (z : Trees × State). EndsWell z.0 z.1) (some_same a.2) (refl, stmt_also place state a.0.0 a.0.1 l took.also)
last_also bound part each (Part place ∷ item ∷ items) state y l h =
    let a = bind_some (part place state) (λ x. in_front x.0 (parts_of part (item ∷ items) x.1)) y h in
    let c = front_some a.0.0 (parts_of part (item ∷ items) a.0.1) y a.2 in
    let b = last_also bound part each (item ∷ items) a.0.1 c.0 l c.1 in
    subst (λ (z : Trees × State). EndsWell z.0 z.1) (some_same c.2) (refl, ap (λ d. (if d then ends_open a.0.0 else last_ends_open c.0.0) && at_key k.Else c.0.1) b.0 ∙ b.1)

-- Forms of statements

record IsStatement (form : Form) : Type 0 where
  shaped : (n : ℕ) → shape form n ≡ shape form zero
  lines : heres (shape form zero) ≡ true
  stands : form_home form ≡ p.Statement
  weighs : weight form ≡ 1
  ends : (parts : Trees) (rest : State) → (last_stmt (shape form zero) ≡ true → (last_ends_open parts && at_key k.Else rest) ≡ false) → (ends_open (Node form parts) && at_key k.Else rest) ≡ false

stmt_takes : (form : Form) (parts : Trees) → form_home form ≡ p.Statement → Takes p.Statement (Node form parts)
unfolding Takes
stmt_takes form parts e = e

-- Nodes with specs among their parts

pub took_unflagged : (bound inside : ℕ) (place : Place) (form : Form) (items : List Item) (state rest : State) (parts : Trees) → is_plain form ≡ true → PartsTook inside items state parts rest → shape form (count parts) ≡ items → Takes place (Node form parts) → is_scope place ≡ false → weight form + greatest_depth parts < bound → has_words place ≡ false → Also place state (Node form parts) (with_flag state.scope.typedef rest) → Took bound place state (Node form parts) (with_flag state.scope.typedef rest)
took_unflagged bound inside place form items state rest parts h took shaped stands outside deep wordless also =
    let facts = plain form h in
    let d = depth_flat form parts facts.flat in
    form_took bound inside place form items state rest (with_flag state.scope.typedef rest) parts took shaped (facts.free parts state.scope) stands (omega (arith, d, deep)) refl (ap (λ (sc : Scope). made sc.names state.scope.typedef) took.scope ∙ sym (facts.left parts state.scope (after_all parts (places items) state.scope))) (λ e. refl) outside (no_words_open place state wordless) also

-- a branch before `else`
close_branch : (bound : ℕ) (state rest : State) (parts : Trees) → PartsTook bound (shape f.If zero) state parts rest → last_ends_open parts ≡ false → PartsTook bound (Here ∷ key k.If ∷ mark s.LeftParen ∷ Part expr ∷ mark s.RightParen ∷ Part p.ClosedBranch ∷ []) state parts rest
unfolding shape AllAllowed after_all spell_all is_scope Takes ends_open
close_branch bound state rest (a ▹ b ▹ c ▹ none) h e =
    record {
      allowed = (h.allowed.0, h.allowed.1, (h.allowed.2.0, h.allowed.2.1, ((h.allowed.2.2.0, e), h.allowed.2.2.1, tt)));
      spelled = h.spelled;
      deep = h.deep;
      ran = λ x. h.ran refl;
      scope = h.scope;
      flag = h.flag;
    }
close_branch bound state rest _ h e = absurd assumption

-- the last of parts behind parts
last_joined : (front parts : Trees) (rest : State) → EndsWell parts rest → (last_ends_open (joined front parts) && at_key k.Else rest) ≡ false
unfolding ends_open
last_joined none parts rest h = h.1
last_joined (tree ▹ front) parts rest h =
    ap (λ c. (if c then ends_open tree else last_ends_open (joined front parts)) && at_key k.Else rest) (joined_some front parts h.0) ∙ last_joined front parts rest h
  where
    joined_some : (front parts : Trees) → is_none parts ≡ false → is_none (joined front parts) ≡ false
    joined_some none parts e = e
    joined_some (tree ▹ front) parts e = refl

and_true : (b c : Bool) → (b && c) ≡ false → c ≡ true → b ≡ false
and_true true c h e = absurd (true≢false (sym e ∙ h))
and_true false c h e = refl

module _ (inner : Place → Reader) (room : ℕ) (deeper : (place : Place) → Sound room place (inner place)) where
  branch_of : (state : State) (tree : Tree) (rest : State) → Took (suc room) p.Statement state tree rest → Took (suc room) p.Branch state tree (back_to state rest)
  unfolding Takes is_scope Also
  branch_of state tree rest h =
      record { stands = h.stands; allowed = h.allowed; spelled = h.spelled; deep = h.deep; scope = refl; flag = λ e. refl; opens = tt; also = h.also }

  module _ (some : 0 < room) where
    simple : (form : Form) → is_plain form ≡ true → has_specs (places (shape form zero)) ≡ false → IsStatement form → Sound (suc room) p.Statement (fixed inner form)
    unfolding is_scope Also
    simple form h single facts state x g =
        let a = node_some form (parts_of inner (shape form zero) state) x g in
        let b = (parts_took room inner (shape form zero) (all_sound room inner deeper (shape form zero)) facts.lines state a.0 a.1).0 in
        let deep = b.deep in
        let w = facts.weighs in
        let also = facts.ends a.0.0 a.0.1 (λ l. (last_also room inner deeper (shape form zero) state a.0 l a.1).1) in
        subst (λ (z : Tree × State). Took (suc room) p.Statement state z.0 z.1) (some_same a.2) (took_node (suc room) room p.Statement form (shape form zero) state a.0.1 a.0.0 h b (facts.shaped (count a.0.0)) single (stmt_takes form a.0.0 facts.stands) refl (omega (arith, deep, w, some)) tt also)

    closed_stmt : (form : Form) → is_closed form ≡ true → IsStatement form → Sound (suc room) p.Statement (scoped (fixed inner form))
    unfolding is_scope Also
    closed_stmt form h facts state x g =
        let c = bind_some (fixed inner form state) (λ (y : Tree × State). Some (y.0, back_to state y.1)) x g in
        let a = node_some form (parts_of inner (shape form zero) state) c.0 c.1 in
        let b = (parts_took room inner (shape form zero) (all_sound room inner deeper (shape form zero)) facts.lines state a.0 a.1).0 in
        let deep = b.deep in
        let w = facts.weighs in
        let also = facts.ends a.0.0 a.0.1 (λ l. (last_also room inner deeper (shape form zero) state a.0 l a.1).1) in
        let took = took_closed (suc room) room p.Statement form (shape form zero) state a.0.1 a.0.0 h b (facts.shaped (count a.0.0)) (stmt_takes form a.0.0 facts.stands) refl (omega (arith, deep, w, some)) tt also in
        subst (λ (z : Tree × State). Took (suc room) p.Statement state z.0 z.1) (some_same c.2) (subst (λ (z : Tree × State). Took (suc room) p.Statement state z.0 (back_to state z.1)) (some_same a.2) took)

    if_node : (state middle : State) (parts : Trees) (b : Bool) (x : Tree × State) → PartsTook room (shape f.If zero) state parts middle → EndsWell parts middle → at_key k.Else middle ≡ b → t.else_by inner room parts b middle ≡ Some x → Took (suc room) p.Statement state x.0 (back_to state x.1)
    unfolding shape form_home weight Takes is_scope Also ends_open is_open ends_in_statement
    if_node state middle parts true x took ends e h =
        let items = key k.Else ∷ Part p.Branch ∷ [] in
        let a = bind_some (parts_of inner items middle) (λ (y : Trees × State). Some (Node f.IfElse (joined parts y.0), y.1)) x h in
        let b = (parts_took room inner items (all_sound room inner deeper items) refl middle a.0 a.1).0 in
        let front = close_branch room state middle parts took (and_true (last_ends_open parts) (at_key k.Else middle) ends.1 e) in
        let all = took_both room (Here ∷ key k.If ∷ mark s.LeftParen ∷ Part expr ∷ mark s.RightParen ∷ Part p.ClosedBranch ∷ []) items state middle a.0.1 parts a.0.0 front b in
        let deep = all.deep in
        let last = last_also room inner deeper items middle a.0 refl a.1 in
        let also = last_joined parts a.0.0 a.0.1 last in
        subst (λ (z : Tree × State). Took (suc room) p.Statement state z.0 (back_to state z.1)) (some_same a.2) (took_closed (suc room) room p.Statement f.IfElse (shape f.IfElse zero) state a.0.1 (joined parts a.0.0) refl all refl refl refl (omega (arith, deep, some)) tt also)
    if_node state middle parts false x took ends e h =
        let deep = took.deep in
        subst (λ (z : Tree × State). Took (suc room) p.Statement state z.0 (back_to state z.1)) (some_same h) (took_closed (suc room) room p.Statement f.If (shape f.If zero) state middle parts refl took refl refl refl (omega (arith, deep, some)) tt e)

    if_took : Sound (suc room) p.Statement (scoped (t.if_at inner room))
    unfolding shape
    if_took state x h =
        let c = bind_some (t.if_at inner room state) (λ (y : Tree × State). Some (y.0, back_to state y.1)) x h in
        let a = bind_some (parts_of inner (shape f.If zero) state) (λ (y : Trees × State). t.else_by inner room y.0 (at_key k.Else y.1) y.1) c.0 c.1 in
        let b = (parts_took room inner (shape f.If zero) (all_sound room inner deeper (shape f.If zero)) refl state a.0 a.1).0 in
        let ends = last_also room inner deeper (shape f.If zero) state a.0 refl a.1 in
        subst (λ (z : Tree × State). Took (suc room) p.Statement state z.0 z.1) (some_same c.2) (if_node state a.0.1 a.0.0 (at_key k.Else a.0.1) c.0 b ends refl a.2)

    formed_took : (keyword : Keyword) → Sound (suc room) p.Statement (t.formed inner room (t.statement_key keyword))
    unfolding t.statement_key shape form_home weight ends_open is_open ends_in_statement
    formed_took k.DelayFrees = closed_stmt f.Delay refl (record { shaped = λ n. refl; lines = refl; stands = refl; weighs = refl; ends = λ parts rest g. refl })
    formed_took k.If = if_took
    formed_took k.While = closed_stmt f.While refl (record { shaped = λ n. refl; lines = refl; stands = refl; weighs = refl; ends = λ parts rest g. g refl })
    formed_took k.Do = closed_stmt f.Do refl (record { shaped = λ n. refl; lines = refl; stands = refl; weighs = refl; ends = λ parts rest g. refl })
    formed_took k.For = closed_stmt f.For refl (record { shaped = λ n. refl; lines = refl; stands = refl; weighs = refl; ends = λ parts rest g. g refl })
    formed_took k.Switch = closed_stmt f.Switch refl (record { shaped = λ n. refl; lines = refl; stands = refl; weighs = refl; ends = λ parts rest g. g refl })
    formed_took k.Case = simple f.Case refl refl (record { shaped = λ n. refl; lines = refl; stands = refl; weighs = refl; ends = λ parts rest g. g refl })
    formed_took k.Default = simple f.Default refl refl (record { shaped = λ n. refl; lines = refl; stands = refl; weighs = refl; ends = λ parts rest g. g refl })
    formed_took k.Break = simple f.Break refl refl (record { shaped = λ n. refl; lines = refl; stands = refl; weighs = refl; ends = λ parts rest g. refl })
    formed_took k.Continue = simple f.Continue refl refl (record { shaped = λ n. refl; lines = refl; stands = refl; weighs = refl; ends = λ parts rest g. refl })
    formed_took k.Return = simple f.Return refl refl (record { shaped = λ n. refl; lines = refl; stands = refl; weighs = refl; ends = λ parts rest g. refl })
    formed_took _ = simple f.Expr refl refl (record { shaped = λ n. refl; lines = refl; stands = refl; weighs = refl; ends = λ parts rest g. refl })

    statement_by_took : (kind : Kind) → Sound (suc room) p.Statement (t.statement_by inner room kind)
    unfolding shape form_home weight ends_open is_open ends_in_statement
    statement_by_took (kinds.Mark s.Semicolon) = simple f.Empty refl refl (record { shaped = λ n. refl; lines = refl; stands = refl; weighs = refl; ends = λ parts rest g. refl })
    statement_by_took (kinds.Mark s.LeftBrace) = closed_stmt f.Block refl (record { shaped = λ n. refl; lines = refl; stands = refl; weighs = refl; ends = λ parts rest g. refl })
    statement_by_took (kinds.Key keyword) = formed_took keyword
    statement_by_took _ = simple f.Expr refl refl (record { shaped = λ n. refl; lines = refl; stands = refl; weighs = refl; ends = λ parts rest g. refl })

    statement_some : Sound (suc room) p.Statement (t.statement_at inner room)
    statement_some state x h = statement_by_took (kind_at state) state x h

    local_took : Sound (suc room) p.Item (t.local_at inner room)
    unfolding shape form_home weight Takes is_scope Also
    local_took state x h =
        let c = bind_some (fixed inner f.Local state) (λ (y : Tree × State). Some (y.0, with_flag state.scope.typedef y.1)) x h in
        let a = node_some f.Local (parts_of inner (shape f.Local zero) state) c.0 c.1 in
        let b = (parts_took room inner (shape f.Local zero) (all_sound room inner deeper (shape f.Local zero)) refl state a.0 a.1).0 in
        let deep = b.deep in
        subst (λ (z : Tree × State). Took (suc room) p.Item state z.0 z.1) (some_same c.2) (subst (λ (z : Tree × State). Took (suc room) p.Item state z.0 (with_flag state.scope.typedef z.1)) (some_same a.2) (took_unflagged (suc room) room p.Item f.Local (shape f.Local zero) state a.0.1 a.0.0 refl b refl tt refl (omega (arith, deep, some)) refl tt))

  pub statement_took : Sound (suc room) p.Statement (guarded room (t.statement_at inner room))
  statement_took state x h =
      let a = guarded_some room (t.statement_at inner room) state x h in
      statement_some a.0 state x a.1

  item_of : (state : State) (tree : Tree) (rest : State) → Took (suc room) p.Statement state tree rest → Took (suc room) p.Item state tree rest
  unfolding Takes is_scope Also
  item_of state tree rest h =
      record { stands = subst IsItem (sym h.stands) tt; allowed = h.allowed; spelled = h.spelled; deep = h.deep; scope = h.scope; flag = h.flag; opens = tt; also = tt }

  pub item_took : Sound (suc room) p.Item (t.item_at inner room)
  item_took state x h = elim (either (starts_type state) (guarded room (t.local_at inner room) state) (guarded room (t.statement_at inner room) state) x h) [
    | inl a ↦
        let b = guarded_some room (t.local_at inner room) state x a.1 in
        local_took b.0 state x b.1
    | inr a ↦ item_of state x.0 x.1 (statement_took state x a.1)
  ]

  pub items_took : Sound (suc room) p.Items (t.items_at inner room)
  unfolding shape form_home weight Takes is_scope Also
  items_took state x h =
      let l = list_took (suc room) p.Item (t.item_at inner room) (at_mark s.RightBrace) f.Items item_took (suc (left_at state)) state state none 0 x (took_none (suc room) state) (omega arith) h in
      subst (λ tree. Took (suc room) p.Items state tree x.1) (sym l.made) (took_light (suc room) p.Items f.Items (rows p.Item (count l.parts)) state x.1 l.parts (omega arith) refl refl l.took refl (rows_specs p.Item (count l.parts) refl) refl refl tt tt)

  pub branch_took : Sound (suc room) p.Branch (t.branch_at inner room)
  branch_took state x h =
      let a = bind_some (guarded room (t.statement_at inner room) state) (λ (y : Tree × State). Some (y.0, back_to state y.1)) x h in
      subst (λ (z : Tree × State). Took (suc room) p.Branch state z.0 z.1) (some_same a.2) (branch_of state a.0.0 a.0.1 (statement_took state a.0 a.1))

  pub maybe_expr_took : Sound (suc room) p.MaybeExpr (t.maybe_expr_at inner room)
  unfolding shape form_home weight Takes is_scope Also
  maybe_expr_took state x h =
      light_optional (suc room) p.MaybeExpr f.MaybeExpr (t.expr_part inner room) (omega arith) (record { plain = refl; light = refl; lines = refl; single = refl; stands = λ parts. refl; outside = refl; wordless = refl; also = λ state parts rest. tt }) (record { plain = refl; light = refl; lines = refl; single = refl; stands = λ parts. refl; outside = refl; wordless = refl; also = λ state parts rest. tt }) refl refl (all_sound (suc room) (t.expr_part inner room) (part_took inner room deeper) (shape f.MaybeExpr (suc zero))) (t.has_expr state) state x h

  pub for_names_took : (place : Place) → Sound (suc room) place (t.for_names_part inner room place)
  for_names_took p.Specs state x h = specs_took inner room deeper state x h
  for_names_took p.SomeNames state x h = some_names_took inner room deeper state x h
  for_names_took p.MaybeExpr state x h = maybe_expr_took state x h
  for_names_took _ state x h = none_some h

  pub for_start_took : Sound (suc room) p.ForStart (t.for_start_at inner room)
  unfolding shape form_home weight Takes is_scope Also
  for_start_took state x h = elim (either (starts_type state) (unflagged (fixed (t.for_names_part inner room) f.ForNames) state) (fixed (t.for_names_part inner room) f.ForStart state) x h) [
    | inl g ↦
        let c = bind_some (fixed (t.for_names_part inner room) f.ForNames state) (λ (y : Tree × State). Some (y.0, with_flag state.scope.typedef y.1)) x g.1 in
        let a = node_some f.ForNames (parts_of (t.for_names_part inner room) (shape f.ForNames zero) state) c.0 c.1 in
        let b = (parts_took (suc room) (t.for_names_part inner room) (shape f.ForNames zero) (all_sound (suc room) (t.for_names_part inner room) for_names_took (shape f.ForNames zero)) refl state a.0 a.1).0 in
        let deep = b.deep in
        subst (λ (z : Tree × State). Took (suc room) p.ForStart state z.0 z.1) (some_same c.2) (subst (λ (z : Tree × State). Took (suc room) p.ForStart state z.0 (with_flag state.scope.typedef z.1)) (some_same a.2) (took_unflagged (suc room) (suc room) p.ForStart f.ForNames (shape f.ForNames zero) state a.0.1 a.0.0 refl b refl refl refl (omega (arith, deep)) refl tt))
    | inr g ↦ light_fixed (suc room) p.ForStart f.ForStart (t.for_names_part inner room) (omega arith) (record { plain = refl; light = refl; lines = refl; single = refl; stands = λ parts. refl; outside = refl; wordless = refl; also = λ state parts rest. tt }) (λ n. refl) (all_sound (suc room) (t.for_names_part inner room) for_names_took (shape f.ForStart zero)) state x g.1
  ]
