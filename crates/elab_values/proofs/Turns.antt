-- Arguments in turn: what is done so far stands before what is left.
use Rattle.std.proofs.Common.{◌≡◌, ℕ, zero, suc, List, [], ◌∷◌, ◌++◌, map, length, drop, get_or, ◌<◌, ◌≤◌, ◌+◌, Ok, Err, Option, Some, None, refl, sym, ap, ◌∙◌, append_assoc, add-one}
use Rattle.std.specs.Prelude.{slice_get}
use Rattle.std.proofs.lemmas.List.{append-nil, drop_all, map-append}
use Rattle.std.proofs.Math.Seq.{drop-cons}
use Rattle.c_types.specs.declared.types.CType.{CType}
use Rattle.c_types.specs.Types.{PlainType, PlainTypes, Void, first, none as no_types, plain, plain_list}
use Rattle.c_tree.specs.declared.tree.Expr.{Expr}
use Rattle.c_tree.specs.Tree.{Tree, Trees, none, ◌▹◌}
use Rattle.c_tree.specs.StatementView.{trees, expr_view}
use Rattle.c_decls.specs.declared.refusal.TypeError.{TypeError}
use Rattle.c_decls.specs.declared.refusal.TypeError.TheVariants as e
use Rattle.core_tree.specs.declared.statements.Atom.TheVariants as atom
use Rattle.c_decls.specs.Refusals.{Checked, Refusal, Meets, then}
use Rattle.c_decls.specs.Typed.{PlainTyped}
use Rattle.c_decls.specs.TypeNames as names
use Rattle.c_decls.specs.Callees.{Callee, Takes, Prints, NoFunction}
use Rattle.elab_rules.specs.declared.calls.Argument.{Argument as CodeArgument}
use Rattle.elab_rules.specs.PlainArguments.{plain_argument}
use Rattle.elab_values.specs.Arguments.{target_at, types_from, argument, loose_argument, printed_argument, taken_argument, typed_if, format_of, as_it_is, behind}
use Rattle.c_decls.specs.Expressions.{typed, literal}
use Rattle.elaboration.specs.Context.{Context, With, asked}
use Rattle.elaboration.specs.Conversions.{Found}
use Rattle.elaboration.specs.Calls.{Argument, argument_from, first_type, rest_types}
use Rattle.elaboration.specs.Expressions.{arguments, format_argument, is_printf, value_of}

-- the first argument, and those behind it
abbrev in_front : Argument → With (List Argument) → With (List Argument)
in_front v answer = then answer (λ more. Ok (more.0, v ∷ more.1))

then_next : {A B D : Type 0} (answer : Checked A) (made : A → B) (next : B → Checked D) →
    then answer (λ a. next (made a)) ≡ then (then answer (λ a. Ok (made a))) next
then_next (Ok a) made next = refl
then_next (Err refusal) made next = refl

arguments_first : (line : ℕ) (target : Callee) (params : PlainTypes) (tree : Tree) (rest : Trees) (c : Context) →
    arguments line target params (tree ▹ rest) c
    ≡ then (argument line target params tree c) (λ v. in_front v.1 (arguments line NoFunction (rest_types params) rest v.0))
unfolding arguments
arguments_first line target params tree rest c =
    then_next (format_argument (is_printf target tree) c (typed tree (asked c)) (value_of tree (first_type params) c))
    (λ d. argument_from line params c.code d.0 d.1)
    (λ v. in_front v.1 (arguments line NoFunction (rest_types params) rest v.0))

no_arguments : (line : ℕ) (target : Callee) (params : PlainTypes) (c : Context) → arguments line target params none c ≡ Ok (c, [])
unfolding arguments
no_arguments line target params c = refl

-- one more in front
behind_more : (before : List Argument) (x : Argument) (answer : With (List Argument)) →
    behind before (in_front x answer) ≡ behind (before ++ x ∷ []) answer
behind_more before x (Ok more) =
    ap (λ xs. let all : With (List Argument) = Ok (more.0, xs) in all) (sym (append_assoc before (x ∷ []) more.1))
behind_more before x (Err refusal) = refl

-- nothing in front
pub behind_none : (answer : With (List Argument)) → answer ≡ behind [] answer
behind_none (Ok more) = refl
behind_none (Err refusal) = refl

module _ (line : ℕ) (target : Callee) (params : PlainTypes) where
  -- what is left from a place on
  abbrev pub left : List Expr → ℕ → Context → With (List Argument)
  left list i c = arguments line (target_at i target) (types_from i params) (trees expr_view (drop i list)) c

  -- the argument at a place
  abbrev pub step : ℕ → Expr → Context → With Argument
  step i item c = argument line (target_at i target) (types_from i params) (expr_view item) c

  left_first : (list : List Expr) (i : ℕ) (item : Expr) (c : Context) → item ≡ get_or list i item → i < length list →
      left list i c ≡ then (step i item c) (λ v. in_front v.1 (left list (suc i) v.0))
  left_first list i item c at below =
      ap (λ items. arguments line (target_at i target) (types_from i params) (trees expr_view items) c)
      (drop-cons list i item below ∙ ap (λ x. x ∷ drop (suc i) list) (sym at))
      ∙ arguments_first line (target_at i target) (types_from i params) (expr_view item) (trees expr_view (drop (suc i) list)) c

  -- one step on
  pub turned : (list : List Expr) (i : ℕ) (item : Expr) (c d : Context) (vs ws : List CodeArgument) (v : CodeArgument)
      (whole : With (List Argument)) → item ≡ get_or list i item → i < length list → step i item c ≡ Ok (d, plain_argument v) →
      ws ≡ vs ++ v ∷ [] → whole ≡ behind (map plain_argument vs) (left list i c) →
      whole ≡ behind (map plain_argument ws) (left list (i + 1) d)
  turned list i item c d vs ws v whole at below stepped pushed so_far =
      so_far
      ∙ ap (behind (map plain_argument vs)) (left_first list i item c at below
      ∙ ap (λ s. then s (λ v. in_front v.1 (left list (suc i) v.0))) stepped)
      ∙ behind_more (map plain_argument vs) (plain_argument v) (left list (suc i) d)
      ∙ ap (λ xs. behind xs (left list (suc i) d)) (sym (map-append plain_argument vs (v ∷ [])) ∙ ap (map plain_argument) (sym pushed))
      ∙ ap (λ j. behind (map plain_argument ws) (left list j d)) (sym (add-one i))

  -- a step that is refused
  pub turn_refused : {V W : Type 0} (from : V → Context × Argument) (to : W → Context × List Argument) (list : List Expr) (i : ℕ)
      (item : Expr) (c : Context) (vs : List CodeArgument) (error : TypeError) (whole : With (List Argument)) →
      item ≡ get_or list i item → i < length list → whole ≡ behind (map plain_argument vs) (left list i c) →
      Meets from (Err error) (step i item c) → Meets to (Err error) whole
  turn_refused from to list i item c vs (e.Bad kind at_line) whole at below so_far stepped =
      so_far
      ∙ ap (behind (map plain_argument vs)) (left_first list i item c at below
      ∙ ap (λ s. then s (λ v. in_front v.1 (left list (suc i) v.0))) stepped)
  turn_refused from to list i item c vs e.NoMemory whole at below so_far stepped = tt

  -- nothing is left
  pub turned_all : (list : List Expr) (i : ℕ) (c : Context) (vs : List CodeArgument) (whole : With (List Argument)) →
      length list ≤ i → whole ≡ behind (map plain_argument vs) (left list i c) → whole ≡ Ok (c, map plain_argument vs)
  turned_all list i c vs whole done so_far =
      so_far
      ∙ ap (λ items. behind (map plain_argument vs) (arguments line (target_at i target) (types_from i params) (trees expr_view items) c)) (drop_all i list done)
      ∙ ap (behind (map plain_argument vs)) (no_arguments line (target_at i target) (types_from i params) c)
      ∙ ap (λ xs. let all : With (List Argument) = Ok (c, xs) in all) (append-nil (map plain_argument vs))

-- the argument at a place, by whose it is

rest_first : (i : ℕ) (params : PlainTypes) → types_from (suc i) params ≡ types_from i (rest_types params)
rest_first zero params = refl
rest_first (suc i) params = ap rest_types (rest_first i params)

none_from : (i : ℕ) → types_from i no_types ≡ no_types
none_from zero = refl
none_from (suc i) = ap rest_types (none_from i)

pub type_there : (items : List CType) (i : ℕ) (type : CType) → slice_get items i ≡ Some type →
    types_from i (plain_list items) ≡ first (plain type) (plain_list (drop (suc i) items))
type_there [] i type h = cc
type_there (x ∷ items) zero type h = let same : x ≡ type = cc in ap (λ t. first (plain t) (plain_list items)) same
type_there (x ∷ items) (suc i) type h = rest_first i (plain_list (x ∷ items)) ∙ type_there items i type h

pub no_type_there : (items : List CType) (i : ℕ) → slice_get items i ≡ None → types_from i (plain_list items) ≡ no_types
no_type_there [] i h = none_from i
no_type_there (x ∷ items) zero h = cc
no_type_there (x ∷ items) (suc i) h = rest_first i (plain_list (x ∷ items)) ∙ no_type_there items i h

-- whether the argument of another than `printf` is a format
is_no_format : (i : ℕ) (answer : PlainType) (params : PlainTypes) (tree : Tree) → is_printf (target_at i (Takes answer params)) tree ≡ None
is_no_format zero answer params tree = refl
is_no_format (suc i) answer params tree = refl

no_function : (i : ℕ) (tree : Tree) → is_printf (target_at i NoFunction) tree ≡ None
no_function zero tree = refl
no_function (suc i) tree = refl

not_first : (i : ℕ) (tree : Tree) → (i ≡ 0 → ⊥) → is_printf (target_at i Prints) tree ≡ None
not_first zero tree h = absurd (h refl)
not_first (suc i) tree h = refl

-- an argument whose target and parameters are known so far
abbrev argument_by : ℕ → Option (List ℕ) → PlainTypes → Tree → Context → With Argument
argument_by line format params tree c =
    then (format_argument format c (typed tree (asked c)) (value_of tree (first_type params) c)) (λ d. Ok (argument_from line params c.code d.0 d.1))

pub taken_is : (line : ℕ) (answer : PlainType) (items : List CType) (i : ℕ) (type : CType) (tree : Tree) (c : Context) →
    slice_get items i ≡ Some type →
    argument line (target_at i (Takes answer (plain_list items))) (types_from i (plain_list items)) tree c ≡ taken_argument line (plain type) tree c
taken_is line answer items i type tree c h =
    ap (λ format. argument_by line format (types_from i (plain_list items)) tree c) (is_no_format i answer (plain_list items) tree)
    ∙ ap (λ params. argument_by line None params tree c) (type_there items i type h)

pub loose_is : (line : ℕ) (answer : PlainType) (items : List CType) (i : ℕ) (tree : Tree) (c : Context) → slice_get items i ≡ None →
    argument line (target_at i (Takes answer (plain_list items))) (types_from i (plain_list items)) tree c ≡ loose_argument tree c
loose_is line answer items i tree c h =
    ap (λ format. argument_by line format (types_from i (plain_list items)) tree c) (is_no_format i answer (plain_list items) tree)
    ∙ ap (λ params. argument_by line None params tree c) (no_type_there items i h)

pub unknown_is : (line : ℕ) (i : ℕ) (tree : Tree) (c : Context) →
    argument line (target_at i NoFunction) (types_from i no_types) tree c ≡ loose_argument tree c
unknown_is line i tree c =
    ap (λ format. argument_by line format (types_from i no_types) tree c) (no_function i tree)
    ∙ ap (λ params. argument_by line None params tree c) (none_from i)

pub printed_is : (line : ℕ) (i : ℕ) (tree : Tree) (c : Context) → i ≡ 0 →
    argument line (target_at i Prints) (types_from i no_types) tree c ≡ printed_argument tree c
printed_is line i tree c h =
    ap (λ (j : ℕ). argument line (target_at j Prints) (types_from j no_types) tree c) h

pub behind_format_is : (line : ℕ) (i : ℕ) (tree : Tree) (c : Context) → (i ≡ 0 → ⊥) →
    argument line (target_at i Prints) (types_from i no_types) tree c ≡ loose_argument tree c
behind_format_is line i tree c h =
    ap (λ format. argument_by line format (types_from i no_types) tree c) (not_first i tree h)
    ∙ ap (λ params. argument_by line None params tree c) (none_from i)

-- the first argument of `printf`, by whether it is a format

module _ (c : Context) (walked : With Found) where
  format_by : (t : PlainTyped) (format : Option (List ℕ)) (answer : Checked (names.Context × PlainTyped)) →
      typed_if format answer ≡ Ok (Some t) →
      then (format_argument format c answer walked) (λ d. as_it_is d) ≡ Ok (c, (t, atom.Null))
  format_by t None answer h = cc
  format_by t (Some bytes) (Ok d) h = let same : d.1 ≡ t = cc in ap (λ (k : PlainTyped). let all : With Argument = Ok (c, (k, atom.Null)) in all) same
  format_by t (Some bytes) (Err refusal) h = cc

  loose_by : (format : Option (List ℕ)) (answer : Checked (names.Context × PlainTyped)) → typed_if format answer ≡ Ok None →
      then (format_argument format c answer walked) (λ d. as_it_is d) ≡ then walked (λ d. as_it_is d)
  loose_by None answer h = refl
  loose_by (Some bytes) (Ok d) h = cc
  loose_by (Some bytes) (Err refusal) h = cc

  refused_by : (refusal : Refusal) (format : Option (List ℕ)) (answer : Checked (names.Context × PlainTyped)) →
      typed_if format answer ≡ Err refusal →
      then (format_argument format c answer walked) (λ d. as_it_is d) ≡ Err refusal
  refused_by refusal None answer h = cc
  refused_by refusal (Some bytes) (Ok d) h = cc
  refused_by refusal (Some bytes) (Err r) h = let same : r ≡ refusal = cc in ap (λ (k : Refusal). let all : With Argument = Err k in all) same

pub format_there : (tree : Tree) (c : Context) (t : PlainTyped) → format_of tree (asked c) ≡ Ok (Some t) →
    printed_argument tree c ≡ Ok (c, (t, atom.Null))
format_there tree c t h = format_by c (value_of tree Void c) t (literal tree) (typed tree (asked c)) h

pub no_format_there : (tree : Tree) (c : Context) → format_of tree (asked c) ≡ Ok None → printed_argument tree c ≡ loose_argument tree c
no_format_there tree c h = loose_by c (value_of tree Void c) (literal tree) (typed tree (asked c)) h

pub format_refused : (tree : Tree) (c : Context) (refusal : Refusal) → format_of tree (asked c) ≡ Err refusal → printed_argument tree c ≡ Err refusal
format_refused tree c refusal h = refused_by c (value_of tree Void c) refusal (literal tree) (typed tree (asked c)) h
