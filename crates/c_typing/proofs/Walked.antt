-- The parts of the walk over expressions.
use Rattle.std.proofs.Common.{◌≡◌, ℕ, Bool, true, false, true≢false, List, ◌∷◌, ◌++◌, map, reverse, Result, Option, Some, None, Ok, Err, Box, Vec, Global, refl, sym, ap, subst, ◌∙◌}
use Rattle.std.proofs.lemmas.List.{reverse-append}
use Rattle.c_types.specs.Types.{PlainType, PlainTypes, first, plain, plain_list}
use Rattle.c_types.specs.declared.types.CType.{CType}
use Rattle.c_tree.specs.declared.operator.AssignOp.{AssignOp}
use Rattle.c_tree.specs.declared.operator.AssignOp.TheVariants as a
use Rattle.c_tree.specs.declared.tree.ExprKind.{ExprKind}
use Rattle.c_tree.specs.declared.tree.ExprKind.TheVariants as x
use Rattle.c_tree.specs.declared.tree.Expr.{Expr}
use Rattle.c_tree.specs.declared.tree.TypeName.{TypeName}
use Rattle.c_tree.specs.declared.tree.Declarator.{Declarator}
use Rattle.c_tree.specs.declared.tree.Declarator.TheVariants as v
use Rattle.c_tree.specs.declared.tree.Base.{Base}
use Rattle.c_tree.specs.declared.tree.Suffix.{Suffix}
use Rattle.c_tree.specs.declared.tree.SuffixKind.{SuffixKind}
use Rattle.c_tree.specs.declared.tree.SuffixKind.TheVariants as s
use Rattle.c_tree.specs.declared.tree.Param.{Param}
use Rattle.c_tree.specs.Tree.{Tree, Trees, none, ◌▹◌}
use Rattle.c_tree.specs.View.{expr_tree, declarator_tree, base_tree, suffix_tree}
use Rattle.c_tree.specs.StatementView.{trees, expr_view, typename_view, suffix_view, param_view}
use Rattle.c_tree.specs.ViewEquations.{call_tree, sizeof_type_tree, cast_tree, direct_tree, array_tree, params_tree}
use Rattle.c_decls.specs.declared.refusal.TypeError.{TypeError}
use Rattle.c_decls.specs.declared.refusal.TypeError.TheVariants as e
use Rattle.c_decls.specs.declared.typed.Typed.{Typed}
use Rattle.c_decls.specs.Refusals.{Checked, Answers, Meets, refused, then}
use Rattle.c_decls.specs.Typed.{PlainTyped, plain_typed, read, wanted_value}
use Rattle.c_decls.specs.PlaceRules.{held_place, size, cast, assigned, changed}
use Rattle.c_decls.specs.Callees.{Callee, no_function, call}
use Rattle.c_decls.specs.TypeNames.{Context, Layer, ArrayOf, FunctionOf, array_length}
use Rattle.c_decls.specs.Expressions.{Found, typed, wanted, unused, cast_operand, changing, answered, callee, line_of, values, typename, layers, suffix_layer, suffix_layers, param_type, param_types, first_literal, in_new_scope, out_of_scope}
use Rattle.c_typing.specs.declared.callees.Callee.{Callee as CodeCallee}
use Rattle.c_typing.specs.declared.layers.Layer.{Layer as CodeLayer}
use Rattle.c_typing.specs.Callee.{plain_callee}
use Rattle.c_typing.specs.Layers.{plain_layer, plain_layers}
use Rattle.c_typing.specs.Parts.{behind}
use Rattle.c_typing.specs.Parts.{is_plain}
use Rattle.c_typing.specs.Walks.{Walks}
use Rattle.c_typing.proofs.Turns.{in_turn}
use Rattle.c_typing.specs.TypeLists.{as_types}

-- an answer of a rule in a context
pub answers_walk : {A B : Type 0} (view : A → B) (c : Context) (r : Result A TypeError) (w : Checked B) → Answers view r w →
    Walks view c r (then w (λ e. Ok (c, e)))
answers_walk view c (Ok a) w h = ap (λ w. then w (λ e. Ok (c, e))) h
answers_walk view c (Err (e.Bad kind line)) w h = ap (λ w. then w (λ e. Ok (c, e))) h
answers_walk view c (Err e.NoMemory) w h = tt

-- an operand whose value is wanted
pub wanted_walks : (kind : ExprKind) (line at : ℕ) (c d : Context) (x : PlainTyped) (r : Result Typed TypeError) →
    at ≡ line_of (expr_tree kind line) → typed (expr_tree kind line) c ≡ Ok (d, x) → Answers plain_typed r (wanted_value at d.tags x) →
    Walks plain_typed d r (wanted (expr_tree kind line) (typed (expr_tree kind line) c))
wanted_walks kind line at c d x r there is h =
    subst (λ (a : Found). Walks plain_typed d r (wanted (expr_tree kind line) a)) (sym is)
    (subst (λ (l : ℕ). Walks plain_typed d r (answered d (wanted_value l d.tags x))) there
    (answers_walk plain_typed d r (wanted_value at d.tags x) h))

-- an operand whose value is not used
pub unused_walks : (kind : ExprKind) (line at : ℕ) (c d : Context) (x : PlainTyped) (r : Result Typed TypeError) →
    at ≡ line_of (expr_tree kind line) → typed (expr_tree kind line) c ≡ Ok (d, x) → Answers plain_typed r (read at d.tags x) →
    Walks plain_typed d r (unused (expr_tree kind line) (typed (expr_tree kind line) c))
unused_walks kind line at c d x r there is h =
    subst (λ (a : Found). Walks plain_typed d r (unused (expr_tree kind line) a)) (sym is)
    (subst (λ (l : ℕ). Walks plain_typed d r (answered d (read l d.tags x))) there
    (answers_walk plain_typed d r (read at d.tags x) h))

-- an operand that is changed
pub changing_walks : (kind : ExprKind) (line at : ℕ) (c d : Context) (x : PlainTyped) (r : Result Typed TypeError) →
    at ≡ line_of (expr_tree kind line) → typed (expr_tree kind line) c ≡ Ok (d, x) → Answers plain_typed r (held_place at d.tags x) →
    Walks plain_typed d r (changing (expr_tree kind line) (typed (expr_tree kind line) c))
changing_walks kind line at c d x r there is h =
    subst (λ (a : Found). Walks plain_typed d r (changing (expr_tree kind line) a)) (sym is)
    (subst (λ (l : ℕ). Walks plain_typed d r (answered d (held_place l d.tags x))) there
    (answers_walk plain_typed d r (held_place at d.tags x) h))

-- what is called where it is no name
abbrev valued_callee : ℕ → Found → Checked (Context × Callee)
valued_callee line a = then a (λ d. then (no_function line d.0.tags (Ok d.1)) (λ c. Ok (d.0, c)))

callee_other : (kind : ExprKind) (line : ℕ) (c : Context) (a : Found) → ((name : List ℕ) → kind ≡ x.Name name → ⊥) →
    callee (expr_tree kind line) c a ≡ valued_callee (line_of (expr_tree kind line)) a
unfolding expr_tree
callee_other (x.Name bytes) line c a not = absurd (not bytes refl)
callee_other (x.Int bytes) line c a not = refl
callee_other (x.Char bytes) line c a not = refl
callee_other (x.Str parts) line c a not = refl
callee_other (x.Paren' p at kind) line c a not = refl
callee_other (x.Index' p at kind q at2 kind2) line c a not = refl
callee_other (x.Call' p at kind shape arguments) line c a not = refl
callee_other (x.Dot' p at kind name) line c a not = refl
callee_other (x.Arrow' p at kind name) line c a not = refl
callee_other (x.PostInc' p at kind) line c a not = refl
callee_other (x.PostDec' p at kind) line c a not = refl
callee_other (x.PreInc' p at kind) line c a not = refl
callee_other (x.PreDec' p at kind) line c a not = refl
callee_other (x.Unary' op p at kind) line c a not = refl
callee_other (x.SizeofExpr' p at kind) line c a not = refl
callee_other (x.SizeofType' p at at2 shape words declarator) line c a not = refl
callee_other (x.Cast' p at at2 shape words declarator q at3 kind) line c a not = refl
callee_other (x.Binary' op p at kind q at2 kind2) line c a not = refl
callee_other (x.Cond' p at kind q at2 kind2 r at3 kind3) line c a not = refl
callee_other (x.Assign' op p at kind q at2 kind2) line c a not = refl
callee_other (x.Comma' p at kind q at2 kind2) line c a not = refl

pub callee_walks : (kind : ExprKind) (line at : ℕ) (c d : Context) (y : PlainTyped) (r : Result CodeCallee TypeError) →
    ((name : List ℕ) → kind ≡ x.Name name → ⊥) → at ≡ line_of (expr_tree kind line) → typed (expr_tree kind line) c ≡ Ok (d, y) →
    Answers plain_callee r (no_function at d.tags (Ok y)) →
    Walks plain_callee d r (callee (expr_tree kind line) c (typed (expr_tree kind line) c))
callee_walks kind line at c d y r not there is h =
    subst (λ (a : Checked (Context × Callee)). Walks plain_callee d r a) (sym (callee_other kind line c (typed (expr_tree kind line) c) not))
    (subst (λ (l : ℕ). Walks plain_callee d r (valued_callee l (typed (expr_tree kind line) c))) there
    (subst (λ (a : Found). Walks plain_callee d r (valued_callee at a)) (sym is)
    (answers_walk plain_callee d r (no_function at d.tags (Ok y)) h)))

pub callee_refused : (kind : ExprKind) (line : ℕ) (c d : Context) (error : TypeError) →
    ((name : List ℕ) → kind ≡ x.Name name → ⊥) → Walks plain_typed d (Err error) (typed (expr_tree kind line) c) →
    Walks plain_callee d (Err error) (callee (expr_tree kind line) c (typed (expr_tree kind line) c))
callee_refused kind line c d (e.Bad k at) not h =
    callee_other kind line c (typed (expr_tree kind line) c) not ∙ ap (valued_callee (line_of (expr_tree kind line))) h
callee_refused kind line c d e.NoMemory not h = tt

-- arguments, suffixes and parameters are gone through in turn

abbrev pub valued : Tree → Context → Found
valued tree c = wanted tree (typed tree c)

pub values_turns : (list : Trees) (c : Context) → values list c ≡ in_turn valued list c
unfolding values
values_turns none c = refl
values_turns (tree ▹ rest) c =
    ap (λ next. then (valued tree c) next) (λ i d. then (values_turns rest d.0 i) (λ more. Ok (more.0, d.1 ∷ more.1)))

pub suffix_turns : (list : Trees) (c : Context) → suffix_layers list c ≡ in_turn suffix_layer list c
unfolding suffix_layers
suffix_turns none c = refl
suffix_turns (tree ▹ rest) c =
    ap (λ next. then (suffix_layer tree c) next) (λ i d. then (suffix_turns rest d.0 i) (λ more. Ok (more.0, d.1 ∷ more.1)))

abbrev pub with_types : Checked (Context × List PlainType) → Checked (Context × PlainTypes)
with_types answer = then answer (λ p. Ok (p.0, as_types p.1))

consed : (type : PlainType) (answer : Checked (Context × List PlainType)) →
    then (with_types answer) (λ more. Ok (more.0, first type more.1))
    ≡ with_types (then answer (λ more. Ok (more.0, type ∷ more.1)))
consed type (Ok more) = refl
consed type (Err refusal) = refl

param_by : (step : Checked (Context × PlainType)) (rest : Context → Checked (Context × List PlainType)) →
    then step (λ p. then (with_types (rest p.0)) (λ more. Ok (more.0, first p.1 more.1)))
    ≡ with_types (then step (λ d. then (rest d.0) (λ more. Ok (more.0, d.1 ∷ more.1))))
param_by (Ok p) rest = consed p.1 (rest p.0)
param_by (Err refusal) rest = refl

pub param_turns : (list : Trees) (c : Context) → param_types list c ≡ with_types (in_turn param_type list c)
unfolding param_types
param_turns none c = refl
param_turns (tree ▹ rest) c =
    ap (λ next. then (param_type tree c) next) (λ i p. then (param_turns rest p.0 i) (λ more. Ok (more.0, first p.1 more.1)))
    ∙ param_by (param_type tree c) (in_turn param_type rest)

-- the same where want of memory may come
pub meets_walk : {A B : Type 0} (view : A → B) (c : Context) (r : Result A TypeError) (w : Checked B) → Meets view r w →
    Walks view c r (then w (λ e. Ok (c, e)))
meets_walk view c (Ok a) w h = ap (λ w. then w (λ e. Ok (c, e))) h
meets_walk view c (Err (e.Bad kind line)) w h = ap (λ w. then w (λ e. Ok (c, e))) h
meets_walk view c (Err e.NoMemory) w h = tt

-- calls

abbrev called_values : ℕ → Trees → Context → Callee → Checked (Context × List PlainTyped) → Found
called_values line list d called vs = then vs (λ v. answered v.0 (call line (first_literal list) called v.1))

abbrev called_by : ℕ → Trees → Checked (Context × Callee) → Found
called_by line list function = then function (λ f. called_values line list f.0 f.1 (values list f.0))

call_is : (kind : ExprKind) (line : ℕ) (function : Box Expr Global) (arguments : Vec Expr Global) (c : Context) →
    kind ≡ x.Call function arguments →
    typed (expr_tree kind line) c ≡
    called_by line (trees expr_view arguments.items)
    (callee (expr_view function.value) c (typed (expr_view function.value) c))
unfolding typed
call_is kind line function arguments c is =
    ap (λ k. typed (expr_tree k line) c) is ∙ ap (λ t. typed t c) (call_tree function arguments line)

abbrev callee_of : ExprKind → ℕ → Context → Checked (Context × Callee)
callee_of kind line c = callee (expr_tree kind line) c (typed (expr_tree kind line) c)

pub call_walks : (kind : ExprKind) (line : ℕ) (function : Box Expr Global) (arguments : Vec Expr Global) (b g : Expr) (list more : List Expr)
    (c d f : Context) (called : Callee) (vs : List PlainTyped) (spelled : Option (List ℕ)) (r : Result Typed TypeError) →
    kind ≡ x.Call function arguments → b ≡ function.value → g ≡ function.value → list ≡ arguments.items → more ≡ arguments.items →
    callee_of g.kind b.line c ≡ Ok (d, called) →
    values (trees expr_view list) d ≡ Ok (f, vs) →
    spelled ≡ first_literal (trees expr_view more) →
    Answers plain_typed r (call line spelled called vs) →
    Walks plain_typed f r (typed (expr_tree kind line) c)
call_walks kind line function arguments b g list more c d f called vs spelled r is at too all same begun second spells h =
    let trees_of = trees expr_view arguments.items in
    let begun' = subst (λ (e : Expr). callee_of e.kind function.value.line c ≡ Ok (d, called)) too
    (subst (λ (e : Expr). callee_of g.kind e.line c ≡ Ok (d, called)) at begun) in
    let second' = subst (λ (es : List Expr). values (trees expr_view es) d ≡ Ok (f, vs)) all second in
    let spells' = subst (λ (es : List Expr). spelled ≡ first_literal (trees expr_view es)) same spells in
    let whole : typed (expr_tree kind line) c ≡ answered f (call line spelled called vs) =
    call_is kind line function arguments c is
    ∙ ap (called_by line trees_of) begun'
    ∙ ap (called_values line trees_of d called) second'
    ∙ ap (λ l. answered f (call line l called vs)) (sym spells') in
    subst (λ (w : Found). Walks plain_typed f r w) (sym whole) (answers_walk plain_typed f r (call line spelled called vs) h)

pub call_refused : (kind : ExprKind) (line : ℕ) (function : Box Expr Global) (arguments : Vec Expr Global) (b g : Expr)
    (c d : Context) (error : TypeError) →
    kind ≡ x.Call function arguments → b ≡ function.value → g ≡ function.value →
    Walks plain_callee d (Err error) (callee_of g.kind b.line c) →
    Walks plain_typed d (Err error) (typed (expr_tree kind line) c)
call_refused kind line function arguments b g c d (e.Bad k l) is at too h =
    call_is kind line function arguments c is
    ∙ ap (called_by line (trees expr_view arguments.items))
    (subst (λ (e : Expr). callee_of e.kind function.value.line c ≡ refused k l) too
    (subst (λ (e : Expr). callee_of g.kind e.line c ≡ refused k l) at h))
call_refused kind line function arguments b g c d e.NoMemory is at too h = tt

pub values_refused : (kind : ExprKind) (line : ℕ) (function : Box Expr Global) (arguments : Vec Expr Global) (b g : Expr) (list : List Expr)
    (c d f : Context) (called : Callee) (error : TypeError) →
    kind ≡ x.Call function arguments → b ≡ function.value → g ≡ function.value → list ≡ arguments.items →
    callee_of g.kind b.line c ≡ Ok (d, called) →
    Walks (λ (values : Vec Typed Global). map plain_typed values.items) f (Err error) (values (trees expr_view list) d) →
    Walks plain_typed f (Err error) (typed (expr_tree kind line) c)
values_refused kind line function arguments b g list c d f called (e.Bad k l) is at too all begun h =
    let trees_of = trees expr_view arguments.items in
    call_is kind line function arguments c is
    ∙ ap (called_by line trees_of)
    (subst (λ (e : Expr). callee_of e.kind function.value.line c ≡ Ok (d, called)) too
    (subst (λ (e : Expr). callee_of g.kind e.line c ≡ Ok (d, called)) at begun))
    ∙ ap (called_values line trees_of d called) (subst (λ (es : List Expr). values (trees expr_view es) d ≡ refused k l) all h)
values_refused kind line function arguments b g list c d f called e.NoMemory is at too all begun h = tt

-- names of types

abbrev sized : ℕ → Checked (Context × PlainType) → Found
sized line named = then named (λ t. answered t.0 (size line t.0.tags t.1))

sizeof_is : (kind : ExprKind) (line : ℕ) (type : Box TypeName Global) (c : Context) → kind ≡ x.SizeofType type →
    typed (expr_tree kind line) c ≡ sized line (typename (typename_view type.value) c)
unfolding typed
sizeof_is kind line type c is =
    ap (λ k. typed (expr_tree k line) c) is ∙ ap (λ t. typed t c) (sizeof_type_tree type line)

pub sizeof_walks : (kind : ExprKind) (line : ℕ) (type : Box TypeName Global) (t : TypeName) (c d : Context) (p : PlainType)
    (r : Result Typed TypeError) → kind ≡ x.SizeofType type → t ≡ type.value →
    typename (typename_view t) c ≡ Ok (d, p) → Meets plain_typed r (size line d.tags p) →
    Walks plain_typed d r (typed (expr_tree kind line) c)
sizeof_walks kind line type t c d p r is at named h =
    let whole : typed (expr_tree kind line) c ≡ answered d (size line d.tags p) =
    sizeof_is kind line type c is
    ∙ ap (sized line) (subst (λ (t : TypeName). typename (typename_view t) c ≡ Ok (d, p)) at named) in
    subst (λ (w : Found). Walks plain_typed d r w) (sym whole) (meets_walk plain_typed d r (size line d.tags p) h)

pub sizeof_refused : (kind : ExprKind) (line : ℕ) (type : Box TypeName Global) (t : TypeName) (c d : Context) (error : TypeError) →
    kind ≡ x.SizeofType type → t ≡ type.value →
    Walks (λ (type : PlainType). type) d (Err error) (typename (typename_view t) c) →
    Walks plain_typed d (Err error) (typed (expr_tree kind line) c)
sizeof_refused kind line type t c d (e.Bad k l) is at h =
    sizeof_is kind line type c is
    ∙ ap (sized line) (subst (λ (t : TypeName). typename (typename_view t) c ≡ refused k l) at h)
sizeof_refused kind line type t c d e.NoMemory is at h = tt

abbrev cast_value : ℕ → PlainType → Found → Found
cast_value line p operand = then operand (λ e. answered e.0 (cast line p e.1))

abbrev cast_by : ℕ → Expr → Checked (Context × PlainType) → Found
cast_by line e named = then named (λ t. cast_value line t.1 (cast_operand t.1 (expr_view e) (typed (expr_view e) t.0)))

cast_is : (kind : ExprKind) (line : ℕ) (type : Box TypeName Global) (operand : Box Expr Global) (c : Context) →
    kind ≡ x.Cast type operand →
    typed (expr_tree kind line) c ≡ cast_by line operand.value (typename (typename_view type.value) c)
unfolding typed
cast_is kind line type operand c is =
    ap (λ k. typed (expr_tree k line) c) is ∙ ap (λ t. typed t c) (cast_tree type operand line)

pub cast_walks : (kind : ExprKind) (line : ℕ) (type : Box TypeName Global) (operand : Box Expr Global) (t : TypeName) (b : Expr)
    (c d f : Context) (p : PlainType) (y : PlainTyped) (r : Result Typed TypeError) →
    kind ≡ x.Cast type operand → t ≡ type.value → b ≡ operand.value →
    typename (typename_view t) c ≡ Ok (d, p) → cast_operand p (expr_view b) (typed (expr_view b) d) ≡ Ok (f, y) →
    Answers plain_typed r (cast line p y) →
    Walks plain_typed f r (typed (expr_tree kind line) c)
cast_walks kind line type operand t b c d f p y r is at same named valued h =
    let whole : typed (expr_tree kind line) c ≡ answered f (cast line p y) =
    cast_is kind line type operand c is
    ∙ ap (cast_by line operand.value) (subst (λ (t : TypeName). typename (typename_view t) c ≡ Ok (d, p)) at named)
    ∙ ap (cast_value line p) (subst (λ (e : Expr). cast_operand p (expr_view e) (typed (expr_view e) d) ≡ Ok (f, y)) same valued) in
    subst (λ (w : Found). Walks plain_typed f r w) (sym whole) (answers_walk plain_typed f r (cast line p y) h)

pub cast_type_refused : (kind : ExprKind) (line : ℕ) (type : Box TypeName Global) (operand : Box Expr Global) (t : TypeName)
    (c d : Context) (error : TypeError) → kind ≡ x.Cast type operand → t ≡ type.value →
    Walks (λ (type : PlainType). type) d (Err error) (typename (typename_view t) c) →
    Walks plain_typed d (Err error) (typed (expr_tree kind line) c)
cast_type_refused kind line type operand t c d (e.Bad k l) is at h =
    cast_is kind line type operand c is
    ∙ ap (cast_by line operand.value) (subst (λ (t : TypeName). typename (typename_view t) c ≡ refused k l) at h)
cast_type_refused kind line type operand t c d e.NoMemory is at h = tt

pub cast_value_refused : (kind : ExprKind) (line : ℕ) (type : Box TypeName Global) (operand : Box Expr Global) (t : TypeName) (b : Expr)
    (c d f : Context) (p : PlainType) (error : TypeError) →
    kind ≡ x.Cast type operand → t ≡ type.value → b ≡ operand.value →
    typename (typename_view t) c ≡ Ok (d, p) →
    Walks plain_typed f (Err error) (cast_operand p (expr_view b) (typed (expr_view b) d)) →
    Walks plain_typed f (Err error) (typed (expr_tree kind line) c)
cast_value_refused kind line type operand t b c d f p (e.Bad k l) is at same named h =
    cast_is kind line type operand c is
    ∙ ap (cast_by line operand.value) (subst (λ (t : TypeName). typename (typename_view t) c ≡ Ok (d, p)) at named)
    ∙ ap (cast_value line p) (subst (λ (e : Expr). cast_operand p (expr_view e) (typed (expr_view e) d) ≡ refused k l) same h)
cast_value_refused kind line type operand t b c d f p e.NoMemory is at same named h = tt

-- assignments

abbrev assigned_value : ℕ → ℕ → PlainTyped → Found → Found
assigned_value line at target right = then right (λ e. answered e.0 (assigned line at e.0.tags target e.1))

abbrev assigned_by : ℕ → ℕ → Expr → Found → Found
assigned_by line at g left_one = then left_one (λ d. assigned_value line at d.1 (typed (expr_view g) d.0))

assign_is : (kind : ExprKind) (line : ℕ) (left_one right_one : Box Expr Global) (c : Context) →
    kind ≡ x.Assign a.Plain left_one right_one →
    typed (expr_tree kind line) c ≡
    assigned_by line (line_of (expr_view right_one.value)) right_one.value (typed (expr_view left_one.value) c)
unfolding typed expr_tree
assign_is kind line left_one right_one c is = ap (λ k. typed (expr_tree k line) c) is

-- whether an operator is `=`
pub plain_op : (op : AssignOp) → is_plain op ≡ true → op ≡ a.Plain
plain_op a.Plain h = refl
plain_op a.Multiply h = cc
plain_op a.Divide h = cc
plain_op a.Remainder h = cc
plain_op a.Add h = cc
plain_op a.Subtract h = cc
plain_op a.ShiftLeft h = cc
plain_op a.ShiftRight h = cc
plain_op a.BitAnd h = cc
plain_op a.BitXor h = cc
plain_op a.BitOr h = cc

pub other_op : (op : AssignOp) → is_plain op ≡ false → op ≡ a.Plain → ⊥
other_op op h e = true≢false (sym (ap is_plain e) ∙ h)

pub assign_walks : (kind : ExprKind) (line at : ℕ) (left_one right_one : Box Expr Global) (l g : Expr)
    (c d f : Context) (y z : PlainTyped) (r : Result Typed TypeError) →
    kind ≡ x.Assign a.Plain left_one right_one → l ≡ left_one.value → g ≡ right_one.value → at ≡ line_of (expr_view right_one.value) →
    typed (expr_view l) c ≡ Ok (d, y) → typed (expr_view g) d ≡ Ok (f, z) →
    Answers plain_typed r (assigned line at f.tags y z) →
    Walks plain_typed f r (typed (expr_tree kind line) c)
assign_walks kind line at left_one right_one l g c d f y z r is same other place begun second h =
    let there = sym place in
    let whole : typed (expr_tree kind line) c ≡ answered f (assigned line at f.tags y z) =
    assign_is kind line left_one right_one c is
    ∙ ap (assigned_by line (line_of (expr_view right_one.value)) right_one.value)
    (subst (λ (e : Expr). typed (expr_view e) c ≡ Ok (d, y)) same begun)
    ∙ ap (assigned_value line (line_of (expr_view right_one.value)) y)
    (subst (λ (e : Expr). typed (expr_view e) d ≡ Ok (f, z)) other second)
    ∙ ap (λ n. answered f (assigned line n f.tags y z)) there in
    subst (λ (w : Found). Walks plain_typed f r w) (sym whole) (answers_walk plain_typed f r (assigned line at f.tags y z) h)

abbrev changed_value : ℕ → AssignOp → PlainTyped → Found → Found
changed_value line op target right = then right (λ e. answered e.0 (changed line op e.0.tags target e.1))

abbrev changed_by : ℕ → AssignOp → Expr → Found → Found
changed_by line op g left_one = then left_one (λ d. changed_value line op d.1 (wanted (expr_view g) (typed (expr_view g) d.0)))

change_op : (op : AssignOp) (line : ℕ) (left_one right_one : Box Expr Global) (c : Context) → (op ≡ a.Plain → ⊥) →
    typed (expr_tree (x.Assign op left_one right_one) line) c ≡
    changed_by line op right_one.value (changing (expr_view left_one.value) (typed (expr_view left_one.value) c))
unfolding typed expr_tree
change_op a.Plain line left_one right_one c not = absurd (not refl)
change_op a.Multiply line left_one right_one c not = refl
change_op a.Divide line left_one right_one c not = refl
change_op a.Remainder line left_one right_one c not = refl
change_op a.Add line left_one right_one c not = refl
change_op a.Subtract line left_one right_one c not = refl
change_op a.ShiftLeft line left_one right_one c not = refl
change_op a.ShiftRight line left_one right_one c not = refl
change_op a.BitAnd line left_one right_one c not = refl
change_op a.BitXor line left_one right_one c not = refl
change_op a.BitOr line left_one right_one c not = refl

pub change_walks : (kind : ExprKind) (line : ℕ) (op : AssignOp) (left_one right_one : Box Expr Global) (l g : Expr)
    (c d f : Context) (y z : PlainTyped) (r : Result Typed TypeError) →
    kind ≡ x.Assign op left_one right_one → (op ≡ a.Plain → ⊥) → l ≡ left_one.value → g ≡ right_one.value →
    changing (expr_view l) (typed (expr_view l) c) ≡ Ok (d, y) → wanted (expr_view g) (typed (expr_view g) d) ≡ Ok (f, z) →
    Answers plain_typed r (changed line op f.tags y z) →
    Walks plain_typed f r (typed (expr_tree kind line) c)
change_walks kind line op left_one right_one l g c d f y z r is not same other begun second h =
    let whole : typed (expr_tree kind line) c ≡ answered f (changed line op f.tags y z) =
    ap (λ k. typed (expr_tree k line) c) is
    ∙ change_op op line left_one right_one c not
    ∙ ap (changed_by line op right_one.value)
    (subst (λ (e : Expr). changing (expr_view e) (typed (expr_view e) c) ≡ Ok (d, y)) same begun)
    ∙ ap (changed_value line op y)
    (subst (λ (e : Expr). wanted (expr_view e) (typed (expr_view e) d) ≡ Ok (f, z)) other second) in
    subst (λ (w : Found). Walks plain_typed f r w) (sym whole) (answers_walk plain_typed f r (changed line op f.tags y z) h)

-- layers

abbrev turned_layers : Checked (Context × List Layer) → Checked (Context × List Layer)
turned_layers answer = then answer (λ s. Ok (s.0, reverse s.1))

abbrev joined_layers : List Layer → Checked (Context × List Layer) → Checked (Context × List Layer)
joined_layers before answer = then answer (λ s. Ok (s.0, reverse s.1 ++ before))

reversed_behind : (before : List Layer) (answer : Checked (Context × List Layer)) →
    joined_layers (reverse before) answer ≡ turned_layers (behind before answer)
reversed_behind before (Ok s) = ap (λ l. let found : Checked (Context × List Layer) = Ok (s.0, l) in found) (sym (reverse-append before s.1))
reversed_behind before (Err refusal) = refl

reversed_walk : (d : Context) (r : Result (Vec CodeLayer Global) TypeError) (w : Checked (Context × List Layer)) →
    Walks (λ (layers : Vec CodeLayer Global). map plain_layer layers.items) d r w →
    Walks (λ (layers : Vec CodeLayer Global). plain_layers layers.items) d r (turned_layers w)
reversed_walk d (Ok layers) w h = ap turned_layers h
reversed_walk d (Err (e.Bad kind line)) w h = ap turned_layers h
reversed_walk d (Err e.NoMemory) w h = tt

abbrev with_suffixes : Trees → Checked (Context × List Layer) → Checked (Context × List Layer)
with_suffixes suffixes base = then base (λ l. joined_layers l.1 (suffix_layers suffixes l.0))

direct_is : (declarator : Declarator) (base : Base) (suffixes : Vec Suffix Global) (c : Context) → declarator ≡ v.Direct base suffixes →
    layers (declarator_tree declarator) c ≡ with_suffixes (trees suffix_view suffixes.items) (layers (base_tree base) c)
unfolding layers
direct_is declarator base suffixes c is =
    ap (λ t. layers (declarator_tree t) c) is ∙ ap (λ t. layers t c) (direct_tree base suffixes)

pub direct_walks : (declarator : Declarator) (base b : Base) (suffixes : Vec Suffix Global) (list : List Suffix) (c d f : Context)
    (before : List CodeLayer) (r : Result (Vec CodeLayer Global) TypeError) →
    declarator ≡ v.Direct base suffixes → b ≡ base → list ≡ suffixes.items →
    layers (base_tree b) c ≡ Ok (d, plain_layers before) →
    Walks (λ (layers : Vec CodeLayer Global). map plain_layer layers.items) f r (behind (map plain_layer before) (suffix_layers (trees suffix_view list) d)) →
    Walks (λ (layers : Vec CodeLayer Global). plain_layers layers.items) f r (layers (declarator_tree declarator) c)
direct_walks declarator base b suffixes list c d f before r is same all begun h =
    let h' = subst (λ (s : List Suffix). Walks (λ (layers : Vec CodeLayer Global). map plain_layer layers.items) f r (behind (map plain_layer before) (suffix_layers (trees suffix_view s) d))) all h in
    let whole : layers (declarator_tree declarator) c
    ≡ turned_layers (behind (map plain_layer before) (suffix_layers (trees suffix_view suffixes.items) d)) =
    direct_is declarator base suffixes c is
    ∙ ap (with_suffixes (trees suffix_view suffixes.items)) (subst (λ (b : Base). layers (base_tree b) c ≡ Ok (d, plain_layers before)) same begun)
    ∙ reversed_behind (map plain_layer before) (suffix_layers (trees suffix_view suffixes.items) d) in
    subst (λ (w : Checked (Context × List Layer)). Walks (λ (layers : Vec CodeLayer Global). plain_layers layers.items) f r w) (sym whole)
    (reversed_walk f r _ h')

-- suffixes

abbrev array_answer : ℕ → Context → Checked ℕ → Checked (Context × Layer)
array_answer line d length = then length (λ n. Ok (d, ArrayOf line (Some n)))

abbrev lengthed : ℕ → ℕ → Found → Checked (Context × Layer)
lengthed line at e = then e (λ d. array_answer line d.0 (array_length at d.1))

array_is : (kind : SuffixKind) (line : ℕ) (held : Box Expr Global) (c : Context) → kind ≡ s.Array (Some held) →
    suffix_layer (suffix_tree kind line) c ≡
    lengthed line (line_of (expr_view held.value)) (wanted (expr_view held.value) (typed (expr_view held.value) c))
unfolding suffix_layer
array_is kind line held c is =
    ap (λ k. suffix_layer (suffix_tree k line) c) is ∙ ap (λ t. suffix_layer t c) (array_tree (Some held) line)

pub array_walks : (kind : SuffixKind) (line at : ℕ) (held : Box Expr Global) (b : Expr) (c d : Context) (y : PlainTyped)
    (r : Result ℕ TypeError) → kind ≡ s.Array (Some held) → b ≡ held.value → at ≡ line_of (expr_view held.value) →
    wanted (expr_view b) (typed (expr_view b) c) ≡ Ok (d, y) → Answers (λ n. n) r (array_length at y) →
    Walks (λ n. ArrayOf line (Some n)) d r (suffix_layer (suffix_tree kind line) c)
array_walks kind line at held b c d y r is same place valued h =
    let there = sym place in
    let whole : suffix_layer (suffix_tree kind line) c ≡ array_answer line d (array_length at y) =
    array_is kind line held c is
    ∙ ap (lengthed line (line_of (expr_view held.value))) (subst (λ (x : Expr). wanted (expr_view x) (typed (expr_view x) c) ≡ Ok (d, y)) same valued)
    ∙ ap (λ n. array_answer line d (array_length n y)) there in
    subst (λ (w : Checked (Context × Layer)). Walks (λ n. ArrayOf line (Some n)) d r w) (sym whole) (by r h)
  where
    by : (r : Result ℕ TypeError) → Answers (λ n. n) r (array_length at y) →
        Walks (λ n. ArrayOf line (Some n)) d r (array_answer line d (array_length at y))
    by (Ok n) h = ap (array_answer line d) h
    by (Err (e.Bad k l)) h = ap (array_answer line d) h
    by (Err e.NoMemory) h = tt

pub array_refused : (kind : SuffixKind) (line : ℕ) (held : Box Expr Global) (b : Expr) (c d : Context) (error : TypeError) →
    kind ≡ s.Array (Some held) → b ≡ held.value →
    Walks plain_typed d (Err error) (wanted (expr_view b) (typed (expr_view b) c)) →
    Walks plain_layer d (Err error) (suffix_layer (suffix_tree kind line) c)
array_refused kind line held b c d (e.Bad k l) is same h =
    array_is kind line held c is
    ∙ ap (lengthed line (line_of (expr_view held.value))) (subst (λ (x : Expr). wanted (expr_view x) (typed (expr_view x) c) ≡ refused k l) same h)
array_refused kind line held b c d e.NoMemory is same h = tt

abbrev layer_of : ℕ → Checked (Context × PlainTypes) → Checked (Context × Layer)
layer_of line params = then params (λ p. Ok (out_of_scope p.0, FunctionOf line p.1))

params_is : (kind : SuffixKind) (line : ℕ) (params : Vec Param Global) (c : Context) → kind ≡ s.Params params →
    suffix_layer (suffix_tree kind line) c ≡ layer_of line (param_types (trees param_view params.items) (in_new_scope c))
unfolding suffix_layer
params_is kind line params c is =
    ap (λ k. suffix_layer (suffix_tree k line) c) is ∙ ap (λ t. suffix_layer t c) (params_tree params line)

pub params_walk : (kind : SuffixKind) (line : ℕ) (params : Vec Param Global) (list : List Param) (c d f g : Context) (ts : PlainTypes) →
    kind ≡ s.Params params → list ≡ params.items → d ≡ in_new_scope c → g ≡ out_of_scope f →
    param_types (trees param_view list) d ≡ Ok (f, ts) →
    suffix_layer (suffix_tree kind line) c ≡ Ok (g, FunctionOf line ts)
params_walk kind line params list c d f g ts is all entered left found =
    params_is kind line params c is
    ∙ ap (layer_of line)
    (ap (λ c. param_types (trees param_view params.items) c) (sym entered)
    ∙ subst (λ (ps : List Param). param_types (trees param_view ps) d ≡ Ok (f, ts)) all found)
    ∙ ap (λ g. let found : Checked (Context × Layer) = Ok (g, FunctionOf line ts) in found) (sym left)

pub params_refused : (kind : SuffixKind) (line : ℕ) (params : Vec Param Global) (list : List Param) (c d f : Context) (error : TypeError) →
    kind ≡ s.Params params → list ≡ params.items → d ≡ in_new_scope c →
    Walks (λ (types : Vec CType Global). plain_list types.items) f (Err error) (param_types (trees param_view list) d) →
    Walks plain_layer f (Err error) (suffix_layer (suffix_tree kind line) c)
params_refused kind line params list c d f (e.Bad k l) is all entered h =
    params_is kind line params c is
    ∙ ap (layer_of line)
    (ap (λ c. param_types (trees param_view params.items) c) (sym entered)
    ∙ subst (λ (ps : List Param). param_types (trees param_view ps) d ≡ refused k l) all h)
params_refused kind line params list c d f e.NoMemory is all entered h = tt

pub assign_left_refused : (kind : ExprKind) (line : ℕ) (left_one right_one : Box Expr Global) (l : Expr)
    (c d : Context) (error : TypeError) →
    kind ≡ x.Assign a.Plain left_one right_one → l ≡ left_one.value →
    Walks plain_typed d (Err error) (typed (expr_view l) c) →
    Walks plain_typed d (Err error) (typed (expr_tree kind line) c)
assign_left_refused kind line left_one right_one l c d (e.Bad k at) is same h =
    assign_is kind line left_one right_one c is
    ∙ ap (assigned_by line (line_of (expr_view right_one.value)) right_one.value)
    (subst (λ (e : Expr). typed (expr_view e) c ≡ refused k at) same h)
assign_left_refused kind line left_one right_one l c d e.NoMemory is same h = tt

pub assign_right_refused : (kind : ExprKind) (line : ℕ) (left_one right_one : Box Expr Global) (l g : Expr)
    (c d f : Context) (y : PlainTyped) (error : TypeError) →
    kind ≡ x.Assign a.Plain left_one right_one → l ≡ left_one.value → g ≡ right_one.value →
    typed (expr_view l) c ≡ Ok (d, y) →
    Walks plain_typed f (Err error) (typed (expr_view g) d) →
    Walks plain_typed f (Err error) (typed (expr_tree kind line) c)
assign_right_refused kind line left_one right_one l g c d f y (e.Bad k at) is same other begun h =
    assign_is kind line left_one right_one c is
    ∙ ap (assigned_by line (line_of (expr_view right_one.value)) right_one.value)
    (subst (λ (e : Expr). typed (expr_view e) c ≡ Ok (d, y)) same begun)
    ∙ ap (assigned_value line (line_of (expr_view right_one.value)) y)
    (subst (λ (e : Expr). typed (expr_view e) d ≡ refused k at) other h)
assign_right_refused kind line left_one right_one l g c d f y e.NoMemory is same other begun h = tt

pub change_left_refused : (kind : ExprKind) (line : ℕ) (op : AssignOp) (left_one right_one : Box Expr Global) (l : Expr)
    (c d : Context) (error : TypeError) →
    kind ≡ x.Assign op left_one right_one → (op ≡ a.Plain → ⊥) → l ≡ left_one.value →
    Walks plain_typed d (Err error) (changing (expr_view l) (typed (expr_view l) c)) →
    Walks plain_typed d (Err error) (typed (expr_tree kind line) c)
change_left_refused kind line op left_one right_one l c d (e.Bad k at) is not same h =
    ap (λ k. typed (expr_tree k line) c) is
    ∙ change_op op line left_one right_one c not
    ∙ ap (changed_by line op right_one.value)
    (subst (λ (e : Expr). changing (expr_view e) (typed (expr_view e) c) ≡ refused k at) same h)
change_left_refused kind line op left_one right_one l c d e.NoMemory is not same h = tt

pub change_right_refused : (kind : ExprKind) (line : ℕ) (op : AssignOp) (left_one right_one : Box Expr Global) (l g : Expr)
    (c d f : Context) (y : PlainTyped) (error : TypeError) →
    kind ≡ x.Assign op left_one right_one → (op ≡ a.Plain → ⊥) → l ≡ left_one.value → g ≡ right_one.value →
    changing (expr_view l) (typed (expr_view l) c) ≡ Ok (d, y) →
    Walks plain_typed f (Err error) (wanted (expr_view g) (typed (expr_view g) d)) →
    Walks plain_typed f (Err error) (typed (expr_tree kind line) c)
change_right_refused kind line op left_one right_one l g c d f y (e.Bad k at) is not same other begun h =
    ap (λ k. typed (expr_tree k line) c) is
    ∙ change_op op line left_one right_one c not
    ∙ ap (changed_by line op right_one.value)
    (subst (λ (e : Expr). changing (expr_view e) (typed (expr_view e) c) ≡ Ok (d, y)) same begun)
    ∙ ap (changed_value line op y)
    (subst (λ (e : Expr). wanted (expr_view e) (typed (expr_view e) d) ≡ refused k at) other h)
change_right_refused kind line op left_one right_one l g c d f y e.NoMemory is not same other begun h = tt
