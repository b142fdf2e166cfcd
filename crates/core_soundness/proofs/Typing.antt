-- The functions of a text are typed.
use Rattle.core_soundness.proofs.Words.Std.{◌≡◌, ◌≤◌, ◌+◌, ◌&&◌, ◌||◌, ℕ, suc, Bool, true, false, not, cond, nat_lt, reverse, is_some, map, length, List, [], ◌∷◌, ◌++◌, slice_get, Option, Some, None, IsSome, Ok, refl, sym, ap, ◌∙◌, subst, inl, inr, ⊎_elim, arith, bytes_eq, ◌<◌, zero, codes, replicate, take, unwrap_or, option_map, length-append, IfSome, count_by, length-map, bytes_eq-Decides, and_parts, sum_by, ForSome}
use Rattle.core_soundness.proofs.Words.Trees.{name_of, params_of, Tree, Trees, At, Node, ◌▹◌}
use Rattle.core_soundness.proofs.Words.Types.{TagTable, PlainType, PlainTypes, Int, Function, none, built_ins, numbered_from, PlainNamed, length_of, then, unless, Table, named_in, with_name, Layer, FunctionOf, with_layers, same, is_array, is_record, is_function, BuiltIn, DeclaredTwice, ProgramTooLong, Undeclared}
use Rattle.core_soundness.proofs.Words.Core.{Sort, sort_of, register_sort, GivesResult, TakesCall, HasRegister, EachFunc, EachReturn, answer_sort, GivesAnswer, is_main as is_main_function, first_main, main_of, IsMain, Core, Func, Reg as Register, Atom, Stm, StmKind, Return, Call}
use Rattle.core_soundness.proofs.Words.Elaborating.{Taken, nothing_taken, params_taken, addressed_in, no_code, Declared, Context, Walked, entered, emit, first_context, Piece, Does, Here, function_number, function_number_of, with_function, declared_function, specs, layers, suffix_layers, suffix_layer, params, left_params, walked, elaborated, piece_length, begun, is_defined, body_begun, last_answer, body_ended, body, defined, named_definition, definition, external, externals, is_main, calls_defined, is_twice_in, atoms_by, numbered, body_of, temporary, pointer_register, numbers_of, function_of, core_of, definition_of, function_by, around_body, items}
use Rattle.core_soundness.proofs.Words.Facts.{HasTypes, IsList, HasLists, HasParameters, IsDefinition, World, world, walked_world, FitsAnswer, PiecesFit, InnerFits, FileFits, result_sort, param_sorts, IsCall, Written, AllWritten, AreWritten, TableFits, TablesFit}
use Rattle.c_types.specs.Types as types
use Rattle.c_types.specs.declared.types.IntType.TheVariants as i
use Rattle.c_tree.specs.Forms as f
use Rattle.c_tree.specs.Tree as t
use Rattle.c_decls.specs.TypedEquations.{same_equal}
use Rattle.c_decls.specs.Named as n
use Rattle.elaboration.specs.Externals as externals
use Rattle.core_soundness.proofs.Agreeing.{came}
use Rattle.core_soundness.proofs.Cores.{behind, count_main}
use Rattle.core_soundness.proofs.DeclaredSteps.{Begun, layers_start, body_step}
use Rattle.core_soundness.proofs.Formed.{Shaped, Formed, AllFormed, HasParams, AreFormed}
use Rattle.core_soundness.proofs.Growth.{good, ok_same, never, bad, behind_test}
use Rattle.core_soundness.proofs.LayersRun.{specs_run, layers_run, suffixes_run, suffix_runs, params_run}
use Rattle.core_soundness.proofs.LocalsRun.{file_declaration_runs, function_runs}
use Rattle.core_soundness.proofs.OwnNames.{IsOwn, HasOwnName, HaveOwnNames}
use Rattle.core_soundness.proofs.Parameters.{specs_counts, sorts, functions, function_sorts, functions_joined, functions_reversed, functions_one, makes_function, specs_sorts, layers_added}
use Rattle.core_soundness.proofs.Resolved.{result_resolves, all_resolve, statements_resolve, returns_resolve}
use Rattle.core_soundness.proofs.Scopes.{first_fits, named_push, get_push, no_scope}
use Rattle.core_soundness.proofs.Sitting.{Fine, Runs, runs_refl, runs_trans, ParamsFit, entered_fine}
use Rattle.core_soundness.proofs.Sorting.{Grew, pieces_grew, CodeFits, passed, kept_test}
use Rattle.core_soundness.proofs.Statements.{behind_text, Sane, walked_sane, walked_finished}
use Rattle.core_soundness.proofs.StatementsRun.{Stands_in, items_run, return_fits}
use Rattle.core_soundness.proofs.Taking.{Good, body_good}
use Rattle.core_soundness.proofs.Choices.{either_way, some_same, get_some, some_number, not_false}

-- the functions of a text fit (C99 6.9)

-- a function that was walked

pub record WalkedFits (c : Context) (x : Walked) : Type 0 where
  pub answer : PlainType
  pub params : PlainTypes
  pub index : ℕ
  pub own : IsOwn x.name
  pub named : named_in x.name c.scopes.file ≡ Some (n.Function (Function answer params) index)
  pub lined : 1 ≤ x.running.line
  pub fits : PiecesFit (result_sort answer) (walked_world c x) x.code.pieces
  pub count : x.params ≡ length_of params
  pub rest : List Sort
  pub sorted : map sort_of x.running.locals ≡ param_sorts params ++ rest

-- statics, calls and names at file scope that are there stay there
record Statics (c d : Context) : Type 0 where
  variables : length c.variables ≤ length d.variables
  literals : length c.literals ≤ length d.literals
  calls : (k : ℕ) (x : ℕ × ℕ) → slice_get c.calls k ≡ Some x → slice_get d.calls k ≡ Some x
  file : (name : List ℕ) (type : PlainType) (j : ℕ) → named_in name c.scopes.file ≡ Some (n.Function type j) → named_in name d.scopes.file ≡ Some (n.Function type j)

statics_of : (c d : Context) → Grew (world c) (world d) → Statics c d
statics_of c d g = record { variables = g.variables; literals = g.literals; calls = g.calls; file = g.file }

statics_trans : (a b c : Context) → Statics a b → Statics b c → Statics a c
statics_trans a b c x y = search arith

walked_on : (c d : Context) (x : Walked) → Statics c d → WalkedFits c x → WalkedFits d x
walked_on c d x s h = search (arith, pieces_grew)

-- what holds between external declarations
pub record Between (c : Context) : Type 0 where
  pub file : TableFits (FileFits (world c)) c.scopes.file
  pub flat : length c.scopes.inner ≡ 0
  pub walked : (k : ℕ) (x : Walked) → slice_get c.walked k ≡ Some x → WalkedFits c x

empty_fits : (P : PlainNamed → Type 0) (inner : List Table) → length inner ≡ 0 → TablesFit P inner
empty_fits P [] e = tt
empty_fits P (t ∷ ts) e = absurd (omega (arith, e))

begun_fine : (line : ℕ) (addressed : List ℕ) (c : Context) → 1 ≤ line → Between c → Fine (begun line addressed c)
begun_fine line addressed c l h = record { names = record { file = h.file; inner = empty_fits (InnerFits (world (begun line addressed c))) c.scopes.inner h.flat }; lined = l }

-- the parameters of a definition

-- layers with a function among them, whose parameters are the list that ended last
record HasList (z : Context × List Layer) : Type 0 where
  some : 1 ≤ functions z.1
  params : ParamsFit z.0

list_suffix : (answer : Option Sort) (tree : Tree) (c : Context) (z : Context × Layer) → IsList tree → Fine c → length c.scopes.inner ≡ 0 → suffix_layer tree c ≡ Ok z → HasList (z.0, z.1 ∷ [])
unfolding suffix_layer
list_suffix answer (Node f.ArraySuffix parts) c z i g flat q = absurd i
list_suffix answer (Node f.FunctionSuffix (At line ▹ Node f.Params parts ▹ t.none)) c z i g flat q =
    let p = came (params parts (entered c)) q in
    let r = params_run answer parts (entered c) (entered c) (omega (arith, flat)) (runs_refl answer (entered c) (entered_fine c g)) p.value p.is in
    subst (λ (y : Context × Layer). HasList (y.0, y.1 ∷ [])) (ok_same (left_params p.value.0, FunctionOf line p.value.1) z p.last)
    (record { some = omega arith; params = first_fits (InnerFits (world p.value.0)) p.value.0.scopes.inner r.fine.names.inner })
list_suffix answer tree c z i g flat q =
    subst (λ (y : Context × Layer). HasList (y.0, y.1 ∷ [])) (ok_same (record c { params = [] }, FunctionOf (Rattle.c_decls.specs.Expressions.line_of tree) types.none) z q)
    (record { some = omega arith; params = (λ name v e. cc) })

suffixes_list : (parts : Trees) (answer : Option Sort) (c : Context) (z : Context × List Layer) → HasLists parts → Fine c → length c.scopes.inner ≡ 0 → suffix_layers parts c ≡ Ok z → HasList z
unfolding suffix_layers
suffixes_list t.none answer c z i g flat q = absurd i
suffixes_list (suffix ▹ rest) answer c z (inl i) g flat q =
    let l = came (suffix_layer suffix c) q in
    let m = came (suffix_layers rest l.value.0) l.last in
    let one = list_suffix answer suffix c l.value i g flat l.is in
    let r1 = suffix_runs answer suffix c c (runs_refl answer c g) l.value l.is in
    let r2 = suffixes_run answer rest l.value.0 l.value.0 (runs_refl answer l.value.0 r1.fine) m.value m.is in
    subst HasList (ok_same (m.value.0, l.value.1 ∷ m.value.1) z m.last) (record { some = omega (arith, one.some, functions_one l.value.1 m.value.1); params = r2.params (r1.depth ∙ flat) one.params })
suffixes_list (suffix ▹ rest) answer c z (inr i) g flat q =
    let l = came (suffix_layer suffix c) q in
    let m = came (suffix_layers rest l.value.0) l.last in
    let r1 = suffix_runs answer suffix c c (runs_refl answer c g) l.value l.is in
    let one = suffixes_list rest answer l.value.0 m.value i r1.fine (r1.depth ∙ flat) m.is in
    subst HasList (ok_same (m.value.0, l.value.1 ∷ m.value.1) z m.last) (record { some = omega (arith, one.some, functions_one l.value.1 m.value.1); params = one.params })

joined_some : (ms ls : List Layer) → 1 ≤ functions ms + functions ls → 1 ≤ functions (reverse ms ++ ls)
joined_some ms ls h = omega (arith, h, functions_joined (reverse ms) ls, functions_reversed ms)

layers_list : (tree : Tree) (answer : Option Sort) (c : Context) (z : Context × List Layer) → HasParameters tree → Fine c → length c.scopes.inner ≡ 0 → layers tree c ≡ Ok z → HasList z
unfolding layers HasParameters
layers_list (Node (f.Pointer consts) (At line ▹ declarator ▹ t.none)) answer c z h g flat q =
    let l = came (layers declarator c) q in
    let one = layers_list declarator answer c l.value h g flat l.is in
    subst HasList (ok_same (l.value.0, Rattle.c_decls.specs.TypeNames.PointerTo line ∷ l.value.1) z l.last) (record { some = one.some; params = one.params })
layers_list (Node f.Direct (base ▹ Node f.Suffixes suffixes ▹ t.none)) answer c z (inl h) g flat q =
    let l = came (layers base c) q in
    let s = came (suffix_layers suffixes l.value.0) l.last in
    let one = layers_list base answer c l.value h g flat l.is in
    let r1 = layers_run answer base c c (runs_refl answer c g) l.value l.is in
    let r2 = suffixes_run answer suffixes l.value.0 l.value.0 (runs_refl answer l.value.0 r1.fine) s.value s.is in
    subst HasList (ok_same (s.value.0, reverse s.value.1 ++ l.value.1) z s.last) (record { some = joined_some s.value.1 l.value.1 (omega (arith, one.some)); params = r2.params (r1.depth ∙ flat) one.params })
layers_list (Node f.Direct (base ▹ Node f.Suffixes suffixes ▹ t.none)) answer c z (inr h) g flat q =
    let l = came (layers base c) q in
    let s = came (suffix_layers suffixes l.value.0) l.last in
    let r1 = layers_run answer base c c (runs_refl answer c g) l.value l.is in
    let one = suffixes_list suffixes answer l.value.0 s.value h r1.fine (r1.depth ∙ flat) s.is in
    subst HasList (ok_same (s.value.0, reverse s.value.1 ++ l.value.1) z s.last) (record { some = joined_some s.value.1 l.value.1 (omega (arith, one.some)); params = one.params })
layers_list (Node f.Parens (At line ▹ declarator ▹ t.none)) answer c z h g flat q = layers_list declarator answer c z h g flat q
layers_list tree answer c z h g flat q = absurd h

-- a function's type is that of its name

abbrev Typed : List ℕ → PlainType → Context → Context → Type 0
Typed name type c d = named_in name d.scopes.file ≡ Some (n.Function type (function_number name c))

function_kept : (k : Bool) (name key : List ℕ) (type : PlainType) (index : ℕ) (x : Context) → named_in key x.scopes.file ≡ Some (n.Function type index) → named_in key (cond k x (record x { functions = x.functions ++ (record { name = name; defined = None }) ∷ [] })).scopes.file ≡ Some (n.Function type index)
function_kept k name key type index x e = search arith fits 100

-- a file scope alone, by what it has under the name
flat_typed : (line : ℕ) (name : List ℕ) (type : PlainType) (c : Context) (file : Table) (o : Option PlainNamed) (d : Context) → named_in name file ≡ o
    → (let x : Context = record c { scopes = record { file = file; inner = [] } } in
    then (unless (is_twice_in true (n.Function type (function_number_of x o)) o) DeclaredTwice line (good (record x { scopes = cond (is_some o) x.scopes (with_name x.scopes name (n.Function type (function_number_of x o))) }))) (λ y. good (with_function (function_number_of x o) name y)) ≡ Ok d)
    → named_in name d.scopes.file ≡ Some (n.Function type (function_number_of (record c { scopes = record { file = file; inner = [] } }) o))
flat_typed line name type c file None d e q =
    let x : Context = record c { scopes = record { file = file ++ (name, n.Function type (length c.functions)) ∷ []; inner = [] } } in
    subst (λ (y : Context). named_in name y.scopes.file ≡ Some (n.Function type (length c.functions))) (ok_same (with_function (length c.functions) name x) d q)
    (function_kept (nat_lt (length c.functions) (length c.functions)) name name type (length c.functions) x (search (arith, named_push, bytes_eq, bytes_eq-Decides)))
flat_typed line name type c file (Some (n.Function t j)) d e q =
    let x : Context = record c { scopes = record { file = file; inner = [] } } in
    let y = came (unless (not (true && same t type)) DeclaredTwice line (good x)) q in
    let alike : t ≡ type = same_equal t type (not_false (same t type) (kept_test (not (true && same t type)) DeclaredTwice line (good x) y.value y.is)) in
    let there : named_in name file ≡ Some (n.Function type j) = subst (λ (k : PlainType). named_in name file ≡ Some (n.Function k j)) alike e in
    let same_x : x ≡ y.value = passed (not (true && same t type)) DeclaredTwice line x y.value y.is in
    subst (λ (z : Context). named_in name z.scopes.file ≡ Some (n.Function type j)) (ap (λ (z : Context). with_function j name z) same_x ∙ ok_same (with_function j name y.value) d y.last)
    (function_kept (nat_lt j (length c.functions)) name name type j x there)
flat_typed line name type c file (Some other) d e q = never _ _ d q

function_typed : (line : ℕ) (name : List ℕ) (type : PlainType) (c d : Context) → length c.scopes.inner ≡ 0 → declared_function line name type c ≡ Ok d → Typed name type c d
function_typed line name type c d flat q =
    let at : record c { scopes = record { file = c.scopes.file; inner = [] } } ≡ c = ap (λ (inner : List Table). record c { scopes = record { file = c.scopes.file; inner = inner } }) (no_scope c.scopes.inner flat) in
    subst (λ (x : Context). declared_function line name type x ≡ Ok d → Typed name type x d) at (λ k. flat_typed line name type c c.scopes.file (named_in name c.scopes.file) d refl k) q

-- the end of a body

-- the body of a function of a name, in front of which c stands between external declarations
body_between : (line end : ℕ) (name : List ℕ) (answer : PlainType) (ps : PlainTypes) (index : ℕ) (more : List Sort) (c e z : Context) → IsOwn name → 1 ≤ end → Between c → Statics c e → e.walked ≡ c.walked → Fine e → CodeFits (result_sort answer) e → e.running.answer ≡ answer
    → (is_array answer || is_function answer || is_record answer) ≡ false → named_in name e.scopes.file ≡ Some (n.Function (Function answer ps) index) → map sort_of e.running.locals ≡ param_sorts ps ++ more
    → body_ended line name (Function answer ps) end e ≡ Ok z → Between z
body_between line end name answer ps index more c e z own l h s same g fits is_answer plain there regs q =
    let x = emit end (Return (last_answer e.running.answer)) e in
    let r = return_fits (result_sort answer) end (last_answer e.running.answer) e l g (subst (λ (type : PlainType). FitsAnswer (world e) (result_sort answer) (last_answer type)) (sym is_answer) (search arith fits 100)) in
    let w : Walked = record { name = name; params = length_of ps; running = x.running; code = x.code } in
    let total = x.length + sum_by piece_length x.code.pieces in
    let made : Context = record x { scopes = record { file = x.scopes.file; inner = [] }; length = total; walked = x.walked ++ w ∷ [] } in
    subst Between (passed (nat_lt 268435456 total) ProgramTooLong line made z q)
    (record {
      file = g.names.file;
      flat = refl;
      walked = λ k v k_is. ⊎_elim
          (λ (old : slice_get e.walked k ≡ Some v). walked_on c made v (record { variables = s.variables; literals = s.literals; calls = s.calls; file = s.file }) (h.walked k v (subst (λ (ws : List Walked). slice_get ws k ≡ Some v) same old)))
          (λ (new : (k ≡ length e.walked) × (v ≡ w)). subst (WalkedFits made) (sym new.1) (record { answer = answer; params = ps; index = index; own = own; named = there; lined = g.lined; fits = r.fits fits; count = refl; rest = more; sorted = regs }))
          (get_push e.walked w k v k_is);
    })

locals_prefix : (xs ys : List Register) → ((k : ℕ) (reg : Register) → slice_get xs k ≡ Some reg → slice_get ys k ≡ Some reg) → (more : List Sort) × (map sort_of ys ≡ map sort_of xs ++ more)
locals_prefix [] ys h = (map sort_of ys, refl)
locals_prefix (x ∷ xs) [] h = let clash : None ≡ Some x = h 0 x refl in cc
locals_prefix (x ∷ xs) (y ∷ ys) h =
    let same : y ≡ x = first_same (h 0 x refl) in
    let rest = locals_prefix xs ys (λ k reg e. h (suc k) reg e) in
    (rest.0, ap (λ (v : Register). sort_of v ∷ map sort_of ys) same ∙ ap (λ (ss : List Sort). sort_of x ∷ ss) rest.1)
  where
    first_same : Some y ≡ Some x → y ≡ x
    first_same e = cc

-- a definition: b is where it begins, and l behind its declarator
defined_between : (line : ℕ) (name : List ℕ) (answer : PlainType) (ps : PlainTypes) (tree : Tree) (given : Option Trees) (numbers : List ℕ) (c b l z : Context) → IsOwn name → Between c → Statics c b → b.walked ≡ c.walked → b.running.addressed ≡ numbers → Good numbers (params_taken given nothing_taken) tree → Begun given l
    → Runs (result_sort answer) b l → CodeFits (result_sort answer) b → length l.scopes.inner ≡ 0 → ParamsFit l
    → (is_array answer || is_function answer || is_record answer) ≡ false → sorts l ≡ param_sorts ps → defined line name (Function answer ps) tree l ≡ Ok z → Between z
defined_between line name answer ps (Node f.Body (Node f.Items parts ▹ At end ▹ t.none)) given numbers c b l z own h s same addressed p begins r fits flat params plain regs q =
    let start : Taken = params_taken given nothing_taken in
    let o = body_good numbers start end parts p in
    let index = function_number name l in
    let d = came (declared_function line name (Function answer ps) l) q in
    let a2 = behind_test (is_defined (slice_get d.value.functions index)) DeclaredTwice line (body line name (Function answer ps) (Node f.Body (Node f.Items parts ▹ At end ▹ t.none)) (body_begun index (Function answer ps) d.value)) z d.last in
    let rd = function_runs (result_sort answer) line name (Function answer ps) l d.value flat r.fine d.is in
    let there = function_typed line name (Function answer ps) l d.value flat d.is in
    let begin = body_begun index (Function answer ps) d.value in
    let e = came (items parts around_body begin) a2 in
    let all = runs_trans (result_sort answer) b l d.value r rd in
    let st : Stands_in (result_sort answer) numbers start begin = record { fine = record { names = record { file = all.fine.names.file; inner = (rd.params flat params, tt) }; lined = all.fine.lined }; inside = 0; deep = refl; sorted = refl; step = body_step given line index name (Function answer ps) l d.value begins all.fine.names.file d.is; same = all.addressed ∙ addressed } in
    let re = (items_run (result_sort answer) numbers parts start around_body begin o.1 st e.value e.is).runs in
    let prefix = locals_prefix l.running.locals e.value.running.locals (λ k reg x. re.grew.locals k reg (rd.grew.locals k reg x)) in
    let sl : Statics b e.value = statics_trans b d.value e.value (statics_of b d.value all.grew) (record { variables = re.grew.variables; literals = re.grew.literals; calls = re.grew.calls; file = re.grew.file }) in
    body_between line end name answer ps index prefix.0 c e.value z own o.0 h (statics_trans c b e.value s sl) (re.walked ∙ all.walked ∙ same)
    re.fine (re.fits (all.fits fits)) re.answer plain (re.grew.file name (Function answer ps) index there) (prefix.1 ∙ ap (λ (ss : List Sort). ss ++ prefix.0) regs) e.last
defined_between line name answer ps tree given numbers c b l z own h s same addressed p begins r fits flat params plain regs q =
    let index = function_number name l in
    let d = came (declared_function line name (Function answer ps) l) q in
    never _ _ z (behind_test (is_defined (slice_get d.value.functions index)) DeclaredTwice line (body line name (Function answer ps) tree (body_begun index (Function answer ps) d.value)) z d.last)

-- a definition by what its name and its type are
named_between : (line : ℕ) (o : Option (List ℕ)) (type base : PlainType) (tree : Tree) (given : Option Trees) (numbers : List ℕ) (c b : Context) (l : Context × List Layer) (z : Context) → IfSome o IsOwn → Between c → Statics c b → b.walked ≡ c.walked → b.running.addressed ≡ numbers → Good numbers (params_taken given nothing_taken) tree → (functions l.1 ≡ 1 → Begun given l.0)
    → ((answer : Option Sort) → Runs answer b l.0) → b.code ≡ no_code
    → length b.scopes.inner ≡ 0 → HasList l → (functions l.1 ≡ 1 → sorts l.0 ≡ function_sorts l.1) → with_layers l.0.tags l.1 base ≡ Ok type → named_definition line o type tree l.0 ≡ Ok z → Between z
named_between line None type base tree given numbers c b l z own h s same addressed p begins r code flat list regs made q = never _ _ z q
named_between line (Some name) (Function answer ps) base tree given numbers c b l z own h s same addressed p begins r code flat list regs made q =
    let m = makes_function l.0.tags l.1 base answer ps made list.some in
    defined_between line name answer ps tree given numbers c b l.0 z own h s same addressed p (begins m.single) (r (result_sort answer)) (subst (λ (x : Rattle.elaboration.specs.Context.Code). PiecesFit (result_sort answer) (world b) x.pieces) (sym code) tt)
    ((r (result_sort answer)).depth ∙ flat) list.params m.plain (regs m.single ∙ m.sorts) q
named_between line (Some name) other base tree given numbers c b l z own h s same addressed p begins r code flat list regs made q = never _ _ z q

definition_between : (line : ℕ) (words declarator tree : Tree) (c z : Context) → 1 ≤ line → Written tree → Formed words → Formed (Node f.Declared (declarator ▹ t.none)) → Formed tree → HasParameters declarator → IsSome (params_of declarator) → IfSome (name_of declarator) IsOwn → Between c → definition line words declarator tree (begun line (addressed_in declarator tree) c) ≡ Ok z → Between z
unfolding Formed AllFormed Shaped
definition_between line words declarator tree c z one p form_words form_name form_tree has listed own h q =
    let numbers : List ℕ = addressed_in declarator tree in
    let b = begun line numbers c in
    let g = begun_fine line numbers c one h in
    let base = came (specs words b) q in
    let l = came (layers declarator base.value.0) base.last in
    let type = came (with_layers l.value.0.tags l.value.1 base.value.1) l.last in
    let first : (answer : Option Sort) → Runs answer b base.value.0 = λ answer. specs_run answer words b b (runs_refl answer b g) base.value base.is in
    let added = layers_added declarator base.value.0 l.value ((first None).depth ∙ h.flat) l.is in
    named_between line (name_of declarator) type.value base.value.1 tree (params_of declarator) numbers c b l.value z own h (record { variables = omega arith; literals = omega arith; calls = λ k x e. e; file = λ name t j e. e }) refl refl
    (record { inside = λ k i. i; written = p; formed = form_tree })
    (λ single. (layers_start declarator base.value.0 l.value form_name.0.0 form_name.1.0 listed (ap (λ (x : ℕ × List ℕ × Table). x.0) (specs_counts words b base.value base.is)) ((first None).depth ∙ h.flat) (first None).fine.names.file l.is).begun single)
    (λ answer. layers_run answer declarator b base.value.0 (first answer) l.value l.is) refl h.flat
    (layers_list declarator None base.value.0 l.value has (first None).fine ((first None).depth ∙ h.flat) l.is)
    (λ single. added.adds.added ∙ ap (λ (ss : List Sort). ss ++ added.sorts_of) (specs_sorts words b base.value base.is) ∙ added.counts.one single) type.is type.last

external_between : (tree : Tree) (c z : Context) → Written tree → Formed tree → HasParams tree → IsDefinition tree → HasOwnName tree → Between c → external tree c ≡ Ok z → Between z
unfolding external Written AllWritten Formed AllFormed
external_between (Node f.Function (At line ▹ words ▹ Node f.Declared (declarator ▹ t.none) ▹ tree ▹ t.none)) c z p i j d own h q = definition_between line words declarator tree c z p.1.0 p.1.1.1.1.0 i.1.1.0 i.1.1.1.0 i.1.1.1.1.0 d j own h q
external_between (Node f.Declaration (At line ▹ words ▹ names ▹ t.none)) c z p i j d own h q =
    let b = begun line [] c in
    let r = file_declaration_runs None line words names b z p.1.0 p.1.1.1.0 (begun_fine line [] c p.1.0 h) h.flat q in
    let s : Statics c z = record { variables = r.grew.variables; literals = r.grew.literals; calls = r.grew.calls; file = r.grew.file } in
    record {
      file = r.fine.names.file;
      flat = r.depth ∙ h.flat;
      walked = λ k x e. walked_on c z x s (h.walked k x (subst (λ (ws : List Walked). slice_get ws k ≡ Some x) r.walked e));
    }
external_between tree c z p i j d own h q = never _ _ z q

pub externals_between : (unit : Trees) (c z : Context) → AreWritten unit → AreFormed unit → HaveOwnNames unit → Between c → externals unit c ≡ Ok z → Between z
unfolding externals
externals_between t.none c z p i own h q = subst Between (ok_same c z q) h
externals_between (tree ▹ rest) c z p i own h q =
    let d = came (external tree c) q in
    externals_between rest d.value z p.1 i.1 own.1 (external_between tree c d.value p.0.0 i.0.0 i.0.1 p.0.1 own.0 h d.is) d.last

built_fit : (v : World) (k : ℕ) (list : List BuiltIn) → TableFits (FileFits v) (numbered_from k list)
built_fit v k [] name x e = cc
built_fit v k (b ∷ rest) name x e =
    either_way (λ y0. (named_in name (numbered_from (k + 1) rest) ≡ Some x → FileFits v x) → y0 ≡ Some x → FileFits v x) (bytes_eq name (Rattle.c_decls.specs.BuiltIns.name_of b))
    (λ again q. subst (FileFits v) (some_same (n.BuiltIn k) x q) tt)
    (λ again q. again q) (built_fit v (k + 1) rest name x) e

pub first_between : Between first_context
first_between = record { file = built_fit (world first_context) 0 built_ins; flat = refl; walked = λ k x e. cc }

-- the functions of a core are typed

-- calls of functions that are defined

defined_calls : (functions : List Declared) (calls : List (ℕ × ℕ)) (c d : Context) (k f line : ℕ) → calls_defined functions calls c ≡ Ok d → slice_get calls k ≡ Some (f, line) → is_defined (slice_get functions f) ≡ true
defined_calls functions [] c d k f line h e = cc
defined_calls functions (call ∷ calls) c d k f line h e = by (is_defined (slice_get functions call.0)) refl (λ j q. defined_calls functions calls c d j f line q) k h e
  where
    by : (t : Bool) → is_defined (slice_get functions call.0) ≡ t → ((j : ℕ) → calls_defined functions calls c ≡ Ok d → slice_get calls j ≡ Some (f, line) → is_defined (slice_get functions f) ≡ true) → (k : ℕ)
        → cond t (calls_defined functions calls c) (bad (record { kind = Undeclared; line = call.1 })) ≡ good d → slice_get (call ∷ calls) k ≡ Some (f, line) → is_defined (slice_get functions f) ≡ true
    by true q again zero h e = ap (λ (x : ℕ × ℕ). is_defined (slice_get functions x.0)) (sym (some_same call (f, line) e)) ∙ q
    by true q again (suc k) h e = again k h e
    by false q again k h e = never _ _ d h

-- what is known behind a text
pub record Ended (c : Context) : Type 0 where
  pub between : Between c
  pub sane : Sane c
  pub called : (k f line : ℕ) → slice_get c.calls k ≡ Some (f, line) → is_defined (slice_get c.functions f) ≡ true

pub text_ended : (unit : Trees) (c : Context) → AreWritten unit → AreFormed unit → HaveOwnNames unit → walked unit ≡ Ok c → Ended c
text_ended unit c p i own h =
    let x = came (externals unit first_context) h in
    let d = came (calls_defined x.value.functions x.value.calls x.value) x.last in
    let b = (behind_text unit c h).0 in
    let same = ok_same x.value c (sym x.is ∙ b) in
    record {
      between = externals_between unit first_context c p i own first_between b;
      sane = walked_sane unit c h;
      called = λ k f line. subst (λ (y : Context). slice_get y.calls k ≡ Some (f, line) → is_defined (slice_get y.functions f) ≡ true) same (λ e. defined_calls x.value.functions x.value.calls x.value d.value k f line d.is e);
    }

-- the function of a call

record Callee_at (c : Context) (f : ℕ) (answer : PlainType) (params : PlainTypes) : Type 0 where
  body : Walked
  there : slice_get c.walked (function_by c.functions f) ≡ Some body
  fits : WalkedFits c body
  answer_is : fits.answer ≡ answer
  params_is : fits.params ≡ params

function_parts : (a b : PlainType) (ps qs : PlainTypes) (i j : ℕ) → Some (n.Function (Function a ps) i) ≡ Some (n.Function (Function b qs) j) → (a ≡ b) × (ps ≡ qs)
function_parts a b ps qs i j e = (cc, cc)

callee_at : (c : Context) → Ended c → (f : ℕ) (answer : PlainType) (params : PlainTypes) (name : List ℕ) (k line : ℕ) → named_in name c.scopes.file ≡ Some (n.Function (Function answer params) f) → slice_get c.calls k ≡ Some (f, line) → Callee_at c f answer params
callee_at c e f answer params name k line there called =
    let d = e.sane.named.found name (Function answer params) f there in
    let m = some_number (d.0).defined (ap is_defined (sym d.1) ∙ e.called k f line called) in
    let x = get_some c.walked m.0 (e.sane.strict f m.0 d.0 d.1 m.1) in
    let o = e.sane.named.owned m.0 x.0 x.1 in
    let at : o.index ≡ f = e.sane.named.single o.index f m.0 o.declared d.0 o.there d.1 o.defined m.1 in
    let one : o.declared ≡ d.0 = some_same o.declared d.0 (sym o.there ∙ ap (λ j. slice_get c.functions j) at ∙ d.1) in
    let called_so : (x.0).name ≡ name = sym o.name ∙ ap (λ (y : Declared). y.name) one ∙ d.2 in
    let fits = e.between.walked m.0 x.0 x.1 in
    let parts = function_parts fits.answer answer fits.params params fits.index f (sym fits.named ∙ ap (λ (y : List ℕ). named_in y c.scopes.file) called_so ∙ there) in
    let number : function_by c.functions f ≡ m.0 = ap definition_of d.1 ∙ ap (λ (y : Option ℕ). unwrap_or y 0) m.1 in
    record { body = x.0; there = ap (λ (j : ℕ). slice_get c.walked j) number ∙ x.1; fits = fits; answer_is = parts.0; params_is = parts.1 }

-- the parameters of a function are its first registers

list_parts : (x : Register) (xs : List Register) (s : Sort) (ss : List Sort) → sort_of x ∷ map sort_of xs ≡ s ∷ ss → (sort_of x ≡ s) × (map sort_of xs ≡ ss)
list_parts x xs s ss e = (cc, cc)

taken_sorts : (ps : List Sort) (k : ℕ) (xs ys : List Register) (rest : List Sort) → k ≡ length ps → map sort_of xs ≡ ps ++ rest → map sort_of (take k (xs ++ ys)) ≡ ps
taken_sorts (p ∷ ps) (suc k) (x ∷ xs) ys rest e h =
    let parts = list_parts x xs p (ps ++ rest) h in
    ap (λ (s : Sort). s ∷ map sort_of (take k (xs ++ ys))) parts.0 ∙ ap (λ (ss : List Sort). p ∷ ss) (taken_sorts ps k xs ys rest (omega (arith, e)) parts.1)
taken_sorts ps k xs ys rest e h = search arith fits 100

count_sorts : (ps : PlainTypes) → length_of ps ≡ length (param_sorts ps)
count_sorts types.none = refl
count_sorts (types.first type rest) = ap suc (count_sorts rest)

temporaries_of : Walked → List Register
temporaries_of x = replicate x.code.most_integers temporary ++ replicate x.code.most_pointers pointer_register

function_params : (c : Context) (x : Walked) (h : WalkedFits c x) → map sort_of (take (function_of c x).params (function_of c x).regs) ≡ param_sorts h.params
unfolding temporaries_of
function_params c x h = taken_sorts (param_sorts h.params) x.params x.running.locals (temporaries_of x) h.rest (h.count ∙ count_sorts h.params) h.sorted

get_map : {X Y : Type 0} (g : X → Y) (xs : List X) (k : ℕ) (x : X) → slice_get xs k ≡ Some x → slice_get (map g xs) k ≡ Some (g x)
get_map g [] k x e = cc
get_map g (y ∷ xs) zero x e = let same : y ≡ x = some_same y x e in ap (λ z. Some (g z)) same
get_map g (y ∷ xs) (suc k) x e = get_map g xs k x e

has_register : (func : Func) (sort : Sort) (r : ℕ) → register_sort func r ≡ Some sort → r < length func.regs
has_register func sort r e = by func.regs r e
  where
    by : (xs : List Register) (k : ℕ) → option_map sort_of (slice_get xs k) ≡ Some sort → k < length xs
    by [] k e = cc
    by (x ∷ xs) zero e = omega arith
    by (x ∷ xs) (suc k) e = omega (arith, by xs k e)

result_register : (func : Func) (result : Option Sort) (r : Option ℕ) → GivesResult func result r → HasRegister func r
result_register func result r h = search (arith, has_register) fits 100

call_resolves : (c : Context) (x : Walked) → Ended c → (f : ℕ) (r : Option ℕ) (args : List Atom) → IsCall (walked_world c x) f r args
    → HasRegister (function_of c x) (option_map (numbers_of c x).register r) × TakesCall (core_of c) (function_of c x) (atoms_by (numbers_of c x) args) (slice_get (core_of c).funcs ((numbers_of c x).function f))
call_resolves c x e f r args h =
    let k = callee_at c e f h.answer h.params h.name h.called.0 h.called.1 h.there h.called.2 in
    let there : slice_get (core_of c).funcs (function_by c.functions f) ≡ Some (function_of c k.body) = get_map (function_of c) c.walked (function_by c.functions f) k.body k.there in
    let sorts : map sort_of (take (function_of c k.body).params (function_of c k.body).regs) ≡ param_sorts h.params = function_params c k.body k.fits ∙ ap param_sorts k.params_is in (
      result_register (function_of c x) (result_sort h.answer) (option_map (numbers_of c x).register r) (result_resolves c x (result_sort h.answer) r h.gives),
      subst (TakesCall (core_of c) (function_of c x) (atoms_by (numbers_of c x) args)) (sym there)
          (all_resolve c x (param_sorts h.params) args h.takes ∙ ap (λ (ss : List Sort). map (λ sort. Some sort) ss) (sym sorts)),
    )

-- returns

pub function_returns : (c : Context) (x : Walked) (h : WalkedFits c x) → EachReturn (function_of c x) (λ a. answer_sort (core_of c) (function_of c x) a ≡ result_sort h.answer)
function_returns c x h point stm e a q = returns_resolve c x (result_sort h.answer) x.code.pieces point stm a h.fits e q

-- what the piece of a statement fits
piece_of : (c : Context) (x : Walked) (answer : Option Sort) (pieces : List Piece) (point : ℕ) (stm : Stm) → PiecesFit answer (walked_world c x) pieces → slice_get (body_of (numbers_of c x) pieces) point ≡ Some stm
    → (kind : StmKind) × (numbered (numbers_of c x) kind ≡ stm.kind) × Rattle.core_soundness.specs.Worlds.FitsIn answer (walked_world c x) kind
piece_of c x answer [] point stm h e = cc
piece_of c x answer (Here l ∷ pieces) point stm h e = piece_of c x answer pieces point stm h.1 e
piece_of c x answer (Does s ∷ pieces) zero stm h e = (s.kind, ap (λ (y : Stm). y.kind) (some_same _ stm e), h.0.1)
piece_of c x answer (Does s ∷ pieces) (suc point) stm h e = piece_of c x answer pieces point stm h.1 e

answers_of : (c : Context) (x : Walked) → Ended c → (answer : Option Sort) (kind made : StmKind) → Rattle.core_soundness.specs.Worlds.FitsIn answer (walked_world c x) kind → numbered (numbers_of c x) kind ≡ made → GivesAnswer (core_of c) (function_of c x) made
unfolding numbered
answers_of c x e answer (Call f r args) made h q =
    subst (GivesAnswer (core_of c) (function_of c x)) q
    (λ callee there point stm at a is_return.
    let k = callee_at c e f h.answer h.params h.name h.called.0 h.called.1 h.there h.called.2 in
    let same : function_of c k.body ≡ callee = some_same (function_of c k.body) callee (sym (get_map (function_of c) c.walked (function_by c.functions f) k.body k.there) ∙ there) in
    let given : answer_sort (core_of c) callee a ≡ result_sort k.fits.answer = subst (λ (func : Func). EachReturn func (λ b. answer_sort (core_of c) func b ≡ result_sort k.fits.answer)) same (function_returns c k.body k.fits) point stm at a is_return in
    subst (λ (o : Option Sort). GivesResult (function_of c x) o (option_map (numbers_of c x).register r)) (sym (given ∙ ap result_sort k.answer_is)) (result_resolves c x (result_sort h.answer) r h.gives))
answers_of c x e answer kind made h q = subst (GivesAnswer (core_of c) (function_of c x)) q tt

function_types : (c : Context) (x : Walked) → Ended c → WalkedFits c x → HasTypes (core_of c) (function_of c x)
function_types c x e h = record {
  params = search (arith, count_sorts, length-append, length-map);
  line = h.lined;
  lines = λ point stm at. (statements_resolve c x (call_resolves c x e) (result_sort h.answer) x.code.pieces point stm h.fits at).0;
  typed = λ point stm at. (statements_resolve c x (call_resolves c x e) (result_sort h.answer) x.code.pieces point stm h.fits at).1;
  alike = λ point stm at a q point2 stm2 at2 b q2. function_returns c x h point stm at a q ∙ sym (function_returns c x h point2 stm2 at2 b q2);
  answers = λ point stm at. let p = piece_of c x (result_sort h.answer) x.code.pieces point stm h.fits at in answers_of c x e (result_sort h.answer) p.0 stm.kind p.2 p.1;
}

each_types : (c : Context) (xs : List Walked) (core : Core) → core ≡ core_of c → ((x : Walked) (k : ℕ) → slice_get xs k ≡ Some x → HasTypes core (function_of c x)) → (i : ℕ) (func : Func) → slice_get (map (function_of c) xs) i ≡ Some func → HasTypes core func
each_types c [] core s h i func e = cc
each_types c (x ∷ xs) core s h zero func e = subst (HasTypes core) (some_same (function_of c x) func e) (h x 0 refl)
each_types c (x ∷ xs) core s h (suc i) func e = each_types c xs core s (λ y k q. h y (suc k) q) i func e

pub core_types : (unit : Trees) (core : Core) (tags : TagTable) → AreWritten unit → AreFormed unit → HaveOwnNames unit → elaborated unit ≡ Ok (core, tags) → EachFunc core (HasTypes core)
core_types unit core tags p i own q =
    let b = behind unit core tags q in
    let e = text_ended unit b.context p i own b.is in
    subst (λ (x : Core). EachFunc x (HasTypes x)) b.made
    (λ i func at. each_types b.context b.context.walked (core_of b.context) refl (λ x k h. function_types b.context x e (e.between.walked k x h)) i func at)

-- the function named `main` has no parameters, and answers an integer (C99 5.1.2.2.1)

first_is_main : (funcs : List Func) (func : Func) → slice_get funcs (first_main funcs) ≡ Some func → is_main_function func ≡ true
first_is_main [] func e = cc
first_is_main (f ∷ fs) func e = by (is_main_function f) refl (λ q. first_is_main fs func q) e
  where
    next : (k : ℕ) → slice_get (f ∷ fs) (k + 1) ≡ slice_get fs k
    next k = let e : k + 1 ≡ suc k = omega arith in ap (λ (j : ℕ). slice_get (f ∷ fs) j) e

    by : (t : Bool) → is_main_function f ≡ t → (slice_get fs (first_main fs) ≡ Some func → is_main_function func ≡ true) → slice_get (f ∷ fs) (cond t 0 (first_main fs + 1)) ≡ Some func → is_main_function func ≡ true
    by true q again h = ap is_main_function (sym (some_same f func h)) ∙ q
    by false q again h = again (sym (next (first_main fs)) ∙ h)

-- the type of `main`
main_type : (functions : List Declared) (o : Option PlainNamed) (answer : PlainType) (params : PlainTypes) (index : ℕ) → o ≡ Some (n.Function (Function answer params) index) → externals.is_main functions o ≡ true → (answer ≡ Int i.Int) × (params ≡ types.none)
main_type functions o answer params index e h =
    let test : same (Function answer params) (Function (Int i.Int) types.none) && is_defined (slice_get functions index) ≡ true = sym (ap (externals.is_main functions) e) ∙ h in
    let alike : Function answer params ≡ Function (Int i.Int) types.none = same_equal (Function answer params) (Function (Int i.Int) types.none) (and_parts _ _ test).0 in
    parts answer params alike
  where
    parts : (a : PlainType) (ps : PlainTypes) → Function a ps ≡ Function (Int i.Int) types.none → (a ≡ Int i.Int) × (ps ≡ types.none)
    parts a ps q = (cc, cc)

walked_at : (c : Context) (ws : List Walked) (k : ℕ) (func : Func) → slice_get (map (function_of c) ws) k ≡ Some func → (w : Walked) × (slice_get ws k ≡ Some w) × (function_of c w ≡ func)
walked_at c [] k func e = cc
walked_at c (w ∷ ws) zero func e = (w, refl, some_same (function_of c w) func e)
walked_at c (w ∷ ws) (suc k) func e = walked_at c ws k func e

pub core_main : (unit : Trees) (core : Core) (tags : TagTable) → AreWritten unit → AreFormed unit → HaveOwnNames unit → elaborated unit ≡ Ok (core, tags) → count_by is_main_function core.funcs ≡ 1
core_main unit core tags p i own q =
    let b = behind unit core tags q in
    let e = text_ended unit b.context p i own b.is in
    subst (λ (x : Core). count_by is_main_function x.funcs ≡ 1) b.made
    (count_main b.context (walked_finished unit b.context b.is) (λ k x at. (e.between.walked k x at).own))

pub core_main_typed : (unit : Trees) (core : Core) (tags : TagTable) → AreWritten unit → AreFormed unit → HaveOwnNames unit → elaborated unit ≡ Ok (core, tags) → ForSome (slice_get core.funcs (main_of core)) (IsMain core)
core_main_typed unit core tags p i own q =
    let b = behind unit core tags q in
    let c = b.context in
    let e = text_ended unit c p i own b.is in
    let f = walked_finished unit c b.is in
    subst (λ (x : Core). ForSome (slice_get x.funcs (main_of x)) (IsMain x)) b.made
    (λ func at.
    let w = walked_at c c.walked (first_main (core_of c).funcs) func at in
    let h = e.between.walked (first_main (core_of c).funcs) w.0 w.1 in
    let named : func.name ≡ codes "main" = (bytes_eq-Decides func.name (codes "main")).0 (first_is_main (core_of c).funcs func at) in
    let same_name : (w.0).name ≡ codes "main" = h.own (ap (λ (g : Func). g.name) w.2 ∙ named) in
    let t = main_type c.functions (named_in (codes "main") c.scopes.file) h.answer h.params h.index (ap (λ (name : List ℕ). named_in name c.scopes.file) (sym same_name) ∙ h.named) f.main in
    subst (IsMain (core_of c)) w.2
    (record {
      params = h.count ∙ ap Rattle.c_decls.specs.PlaceRules.length_of t.1;
      answers = λ point stm there a is. function_returns c w.0 h point stm there a is ∙ ap Rattle.core_soundness.specs.Worlds.result_sort t.0;
    }))
