-- The pointers that the statics of a core hold first.
use Rattle.core_soundness.proofs.Words.Std.{◌≡◌, ◌≤◌, ◌<◌, ◌+◌, not, ℕ, zero, suc, Bool, true, false, cond, is_some, nat_lt, All, length, map, List, [], ◌∷◌, ◌++◌, slice_get, slice_set, option_map, unwrap_or, Option, Some, None, Ok, refl, sym, ap, ◌∙◌, subst, ⊎_elim, arith, bytes_eq, inl, inr, ltb-true, ltb-false, length-map, All-cons, All-nil, All-append, All-head, All-tail, slice_get-map, Contains, nat_eq}
use Rattle.std.specs.List.{IsDistinct}
use Rattle.core_soundness.proofs.Words.Trees.{name_of, Tree, Trees, Leaf, At, Node, none, ◌▹◌}
use Rattle.core_soundness.proofs.Words.Types.{no_layout, array_layout, number_layout, TagTable, layout_in, PlainType, built_ins, numbered_from, ScopeList, Table, named_in, innermost, after_declaration, tag_name, with_layers, tag_named, is_built_in, is_function, has_no_size, BuiltIn, DeclaredTwice, Incomplete, LeftOut, StaticTooLarge}
use Rattle.core_soundness.proofs.Words.Core.{block_size, IsLayoutOfType, IsTarget, IsStatic, Core, Start, Static}
use Rattle.core_soundness.proofs.Words.Elaborating.{addressed_in, Context, Variable, asked, first_context, size_or_zero, Storage, Typedef, storage_of, specs_alone, specs_before, function_number, with_function, declared_function, no_initializer, variable_number_of, with_new_variable, with_variable, start_of, start_in, started_variable, fill_variable, file_object, file_value, file_name, name_in, entry, entries, declaration, specs, layers, walked, elaborated, begun, is_defined, body_begun, body_ended, body, named_definition, definition, external, externals, InStatic, initialize, no_start, with_init_layers, trimmed, is_twice, declared_as, static_by, variable_static, literal_static, core_of, start_by, with_static, around_body, items}
use Rattle.core_soundness.proofs.Words.Facts.{HasLayouts}
use Rattle.c_tree.specs.Forms as f
use Rattle.c_tree.specs.Words as w
use Rattle.c_decls.specs.BuiltIns as names
use Rattle.c_decls.specs.Named as n
use Rattle.elaboration.specs.Resolving.{plain_name}
use Rattle.core_soundness.proofs.Agreeing.{came}
use Rattle.core_soundness.proofs.Aiming.{Aims, in_variable, in_literal, VariablesStay, same_variables, ObjectsThere, There, there_on, PointersIn, pointers_stay, initialize_points}
use Rattle.core_soundness.proofs.Cores.{behind as core_behind}
use Rattle.core_soundness.proofs.Declaring.{passes_refl, specs_passes, layers_pass, introduced, Levels, levels_refl, declared_levels, specs_level, layers_level, levels_trans, told_levels}
use Rattle.core_soundness.proofs.Growth.{good, ok_same, Reached, Led, led_ok, led_refused, led_after, led_unless, Settled, settled_refl, settled_trans, reached_after, reached_ok}
use Rattle.core_soundness.proofs.Scopes.{Safe, SafeTable, get_left, get_last, get_push, get_below, set_get, push_get}
use Rattle.core_soundness.proofs.Seats.{Has, has_row, byte, PointersBelow, places, Filled, trimmed_length}
use Rattle.core_soundness.proofs.Sorting.{passed}
use Rattle.core_soundness.proofs.Statements.{behind_text, items_walk, Sane, external_sane, first_sane}
use Rattle.core_soundness.proofs.TagSorts.{tag_after}
use Rattle.core_soundness.proofs.TypedWhole.{led_cond}
use Rattle.core_soundness.proofs.Choices.{either_way, some_same}
use Rattle.core_soundness.proofs.Resolved.{variable_number, literal_number}

-- the pointers that the statics of a core hold first name statics, and offsets in them up to their ends (C99 6.7.8, 6.9.2)

-- each variable that has an initializer holds such pointers
abbrev pub StartsIn : List Variable → List Variable → List (List ℕ) → Type 0
StartsIn us vs ls = (i : ℕ) (v : Variable) (s : Start) → slice_get us i ≡ Some v → v.start ≡ Some s → PointersIn vs ls s.pointers

-- what holds between declarations at file scope
pub record Pointed (c : Context) : Type 0 where
  pub there : There c
  pub starts : StartsIn c.variables c.variables c.literals

pub settled_pointed : (c d : Context) → Settled c d → Pointed c → Pointed d
settled_pointed c d s h = grind (arith, there_on, pointers_stay, same_variables)

-- an object that is declared

declared_there : (vs : List Variable) (s : ScopeList) (key : List ℕ) (type : PlainType) (index : ℕ) → ObjectsThere vs s.file → ((v : Variable) × (slice_get vs index ≡ Some v)) → ObjectsThere vs (after_declaration s key (n.Object type index)).file
declared_there vs s key type index h there = search (arith, is_some, push_get) fits 100

there_more : (vs ws : List Variable) (file : Table) → VariablesStay vs ws → ObjectsThere vs file → ObjectsThere ws file
there_more vs ws file x h name type i e = let r = h name type i e in let k = x i r.0 r.1 in (k.0, k.1)

pushed_stay : (vs : List Variable) (v : Variable) → VariablesStay vs (vs ++ v ∷ [])
pushed_stay vs v k x e = (x, get_left vs (v ∷ []) k x e, refl)

-- the number of a variable is that of one that is there, or the next
record NumberIs (vs : List Variable) (index : ℕ) : Type 0 where
  near : index ≤ length vs
  there : index < length vs → (v : Variable) × (slice_get vs index ≡ Some v)

-- a variable with its name
new_pointed : (line index : ℕ) (name : List ℕ) (type : PlainType) (c z : Context) → index ≡ length c.variables → Pointed c → with_new_variable line name type (record c { scopes = after_declaration c.scopes name (n.Object type index) }) ≡ Ok z → Pointed z
new_pointed line index name type c z e h q =
    let d : Context = record c { scopes = after_declaration c.scopes name (n.Object type index) } in
    let v : Variable = record { name = name; layout = unwrap_or (layout_in d.tags type) no_layout; start = None } in
    let x = came (with_static line (size_or_zero d type) d) q in
    let k = d.static_bytes + block_size (size_or_zero d type) in
    let s : record d { static_bytes = k } ≡ x.value = passed _ StaticTooLarge line (record d { static_bytes = k }) x.value x.is in
    let same : record d { static_bytes = k; variables = c.variables ++ v ∷ [] } ≡ z =
    ap (λ (y : Context). record y { variables = y.variables ++ (record { name = name; layout = unwrap_or (layout_in y.tags type) no_layout; start = None }) ∷ [] }) s ∙ ok_same _ z x.last in
    let ws = c.variables ++ v ∷ [] in
    let here : (u : Variable) × (slice_get ws index ≡ Some u) = (v, ap (λ (i : ℕ). slice_get ws i) e ∙ get_last c.variables v) in
    subst Pointed same (record {
      there = declared_there ws c.scopes name type index (there_more c.variables ws c.scopes.file (pushed_stay c.variables v) h.there) here;
      starts = λ i u start g r. pointers_stay c.variables ws c.literals c.literals start.pointers (pushed_stay c.variables v) (λ j w y. y)
          (⊎_elim (λ (p : slice_get c.variables i ≡ Some u). h.starts i u start p r) (λ (p : (i ≡ length c.variables) × (u ≡ v)). absurd (none_started u start p.1 r)) (get_push c.variables v i u g));
    })
  where
    none_started : (u : Variable) (start : Start) → u ≡ record { name = name; layout = unwrap_or (layout_in c.tags type) no_layout; start = None } → u.start ≡ Some start → ⊥
    none_started u start p r = let clash : None ≡ Some start = sym (ap (λ (y : Variable). y.start) p) ∙ r in cc

variable_pointed : (line index : ℕ) (name : List ℕ) (type : PlainType) (c z : Context) → NumberIs c.variables index → Pointed c → with_variable line index name type (record c { scopes = after_declaration c.scopes name (n.Object type index) }) ≡ Ok z → Pointed z
variable_pointed line index name type c z i h q = by (nat_lt index (length c.variables)) refl q
  where
    d : Context
    d = record c { scopes = after_declaration c.scopes name (n.Object type index) }

    by : (t : Bool) → nat_lt index (length c.variables) ≡ t → cond t (good d) (with_new_variable line name type d) ≡ Ok z → Pointed z
    by true e k = subst Pointed (ok_same d z k) (record { there = declared_there c.variables c.scopes name type index h.there (i.there (ltb-true index (length c.variables) e)); starts = h.starts })
    by false e k = new_pointed line index name type c z (omega (arith, i.near, ltb-false index (length c.variables) e)) h k

-- an initializer of a variable

pub set_stay : (vs : List Variable) (index : ℕ) (v : Variable) (start : Start) → slice_get vs index ≡ Some v → VariablesStay vs (slice_set vs index (record v { start = Some start }))
set_stay [] index v start e k x q = cc
set_stay (u ∷ vs) zero v start e zero x q = let same : v ≡ x = cc in (record v { start = Some start }, refl, ap (λ (y : Variable). y.layout) same)
set_stay (u ∷ vs) zero v start e (suc k) x q = (x, q, refl)
set_stay (u ∷ vs) (suc i) v start e zero x q = (x, q, refl)
set_stay (u ∷ vs) (suc i) v start e (suc k) x q = set_stay vs i v start e k x q

set_starts : (vs : List Variable) (ls : List (List ℕ)) (index : ℕ) (v : Variable) (start : Start) → slice_get vs index ≡ Some v → StartsIn vs vs ls → PointersIn vs ls start.pointers → (let ws = slice_set vs index (record v { start = Some start }) in StartsIn ws ws ls)
set_starts vs ls index v start e h p i u s g r = search (arith, slice_set, pointers_stay, set_stay, set_get, some_same) fits 100

start_pointed : (index : ℕ) (c : Context) (start : Start) (o : Option Variable) → slice_get c.variables index ≡ o → Pointed c → PointersIn c.variables c.literals start.pointers → Pointed (record c { variables = started_variable index start o c.variables })
start_pointed index c start None e h p = record { there = h.there; starts = h.starts }
start_pointed index c start (Some v) e h p = record { there = there_more c.variables _ c.scopes.file (set_stay c.variables index v start e) h.there; starts = set_starts c.variables c.literals index v start e h.starts p }

fill_pointed : (line index : ℕ) (type : PlainType) (inits : Trees) (c : Context) → Pointed c → Led Pointed (fill_variable line index type inits c)
fill_pointed line index type none c h = led_ok Pointed h
fill_pointed line index type (init ▹ rest) c h =
    led_unless Pointed (is_some (start_of (slice_get c.variables index))) DeclaredTwice line
    (λ t. led_after Pointed (initialize init false type 0 (InStatic no_start) c)
    (λ d q. let r = initialize_points init false type 0 (InStatic no_start) c h.there tt d q in
    led_ok Pointed (start_pointed index d.0 (start_in d.1) (slice_get d.0.variables index) refl (settled_pointed c d.0 r.0 h) (search arith fits 100))))

object_pointed : (line : ℕ) (name : List ℕ) (type : PlainType) (inits : Trees) (c : Context) → Pointed c → Led Pointed (file_object line name type inits c)
object_pointed line name type inits c h =
    let index = variable_number_of c (named_in name c.scopes.file) in
    led_unless Pointed (has_no_size c.tags type) Incomplete line
    (λ t. led_after Pointed (declared_as line name (n.Object type index) c)
    (λ d q. let same : record c { scopes = after_declaration c.scopes name (n.Object type index) } ≡ d = passed (is_twice c.scopes name (n.Object type index)) DeclaredTwice line (record c { scopes = after_declaration c.scopes name (n.Object type index) }) d q in
    led_after Pointed (with_variable line index name type d)
    (λ v k. fill_pointed line index type inits v
    (variable_pointed line index name type c v (grind (arith, get_below)) h (ap (λ (x : Context). with_variable line index name type x) same ∙ k)))))

-- functions and other names

with_function_settled : (index : ℕ) (name : List ℕ) (c : Context) → Settled c (with_function index name c)
with_function_settled index name c = either_way (Settled c) (nat_lt index (length c.functions)) (settled_refl c) (record { variables = refl; literals = λ i u e. e; objects = λ name type i e. e })

pub function_settled : (line : ℕ) (name : List ℕ) (type : PlainType) (c : Context) → Led (Settled c) (declared_function line name type c)
function_settled line name type c =
    let index = function_number name c in
    led_after (Settled c) (declared_as line name (n.Function type index) c)
    (λ d q. led_ok (Settled c) (settled_trans c d _ (declared_levels line name (n.Function type index) c c tt (levels_refl c) d q).settled (with_function_settled index name d)))

no_initializer_pointed : (inits : Trees) (c : Context) → Pointed c → Led Pointed (no_initializer inits c)
no_initializer_pointed inits c h = search (arith, led_ok, led_after, led_refused) fits 100

value_pointed : (line : ℕ) (name : List ℕ) (type : PlainType) (inits : Trees) (c : Context) → Pointed c → Led Pointed (file_value line name type inits c)
value_pointed line name type inits c h =
    led_cond Pointed (is_built_in type (named_in name c.scopes.file)) (no_initializer inits c) _ (no_initializer_pointed inits c h)
    (led_cond Pointed (is_function type) _ (file_object line name type inits c)
    (led_after Pointed (declared_function line name type c) (λ d q. no_initializer_pointed inits d (settled_pointed c d (function_settled line name type c d q) h)))
    (object_pointed line name type inits c h))

file_name_pointed : (line : ℕ) (storage : Storage) (name : List ℕ) (type : PlainType) (inits : Trees) (c : Context) → Pointed c → Led Pointed (file_name line storage name type inits c)
file_name_pointed line Typedef name type inits c h = λ d q. settled_pointed c d (declared_levels line name (n.Typedef type) c c tt (levels_refl c) d q).settled h
file_name_pointed line other name type inits c h = value_pointed line name type inits c h

name_pointed : (line : ℕ) (storage : Storage) (name : Option (List ℕ)) (type : PlainType) (inits : Trees) (c : Context) → Pointed c → Led Pointed (name_in true line storage name type inits c)
name_pointed line storage None type inits c h = led_ok Pointed h
name_pointed line storage (Some name) type inits c h = file_name_pointed line storage name type inits c h

entry_pointed : (line : ℕ) (storage : Storage) (base : PlainType) (declarator : Tree) (inits : Trees) (c : Context) → Pointed c → Led Pointed (entry true line storage base declarator inits c)
entry_pointed line storage base declarator inits c h =
    led_after Pointed (layers declarator c)
    (λ l q. let k = settled_pointed c l.0 (layers_level declarator c c (levels_refl c) l q).settled h in
    led_after Pointed (with_init_layers l.0.tags l.1 inits base)
    (λ type s. name_pointed line storage (name_of declarator) type inits l.0 k))

entries_pointed : (names : Trees) (line : ℕ) (storage : Storage) (base : PlainType) (c : Context) → Pointed c → Led Pointed (entries true line storage base names c)
unfolding entries
entries_pointed none line storage base c h = led_ok Pointed h
entries_pointed (Node f.Entry (Node f.Declared (declarator ▹ none) ▹ Node f.MaybeInit inits ▹ none) ▹ rest) line storage base c h =
    led_after Pointed (entry true line storage base declarator inits c)
    (λ d q. entries_pointed rest line storage base d (entry_pointed line storage base declarator inits c h d q))
entries_pointed (tree ▹ rest) line storage base c h = led_refused Pointed

alone_level : (tree : Tree) (c : Context) → Reached (Levels c) (specs_alone tree c)
alone_level (Node f.Specs (At line ▹ Node (f.RecordTag sort) (At at ▹ Leaf (w.Name name) ▹ none) ▹ none)) c =
    (reached_after (Levels c) (tag_named at sort name (asked c) (named_in (tag_name name) (innermost c.scopes))) (λ x h. reached_ok (Levels c) (levels_trans c c _ (levels_refl c) (told_levels x.0 c ((tag_after at sort name (asked c) (named_in (tag_name name) (innermost c.scopes))) x h)))))
alone_level tree c = specs_level tree c c (levels_refl c)

pub before_level : (tree : Tree) (names : Trees) (c : Context) → Reached (Levels c) (specs_before tree names c)
before_level tree none c = alone_level tree c
before_level tree (name ▹ rest) c = specs_level tree c c (levels_refl c)

declaration_pointed : (line : ℕ) (words tree : Tree) (c : Context) → Pointed c → Led Pointed (declaration true line words tree c)
unfolding declaration
declaration_pointed line words (Node f.Names names) c h =
    led_after Pointed (specs_before words names c)
    (λ base q. entries_pointed names line (storage_of words) base.1 base.0 (settled_pointed c base.0 (before_level words names c base q).settled h))
declaration_pointed line words tree c h = led_refused Pointed

-- definitions of functions

body_ends : (line : ℕ) (name : List ℕ) (type : PlainType) (end : ℕ) (c d : Context) → Settled c d → Led (Settled c) (body_ended line name type end d)
body_ends line name type end c d s = search (arith, led_unless, led_ok)

body_settled : (line : ℕ) (name : List ℕ) (index : ℕ) (type : PlainType) (tree : Tree) (c : Context) → Safe c.scopes → SafeTable c.params → Led (Settled c) (body line name type tree (body_begun index type c))
body_settled line name index type (Node f.Body (Node f.Items parts ▹ At end ▹ none)) c s p =
    let begin = body_begun index type c in
    led_after (Settled c) (items parts around_body begin)
    (λ d q. let walk = items_walk parts around_body begin (record { early = tt; breaks = tt; continues = tt }) (record { file = s.file; inner = (p, tt) }) d q in
    let k = walk.stays.inside (omega arith) in body_ends line name type end c d (record { variables = k.variables; literals = k.literals; objects = k.objects }))
body_settled line name index type tree c s p = led_refused (Settled c)

named_settled : (line : ℕ) (name : Option (List ℕ)) (type : PlainType) (tree : Tree) (c : Context) → Safe c.scopes → SafeTable c.params → length c.scopes.inner ≡ 0 → Led (Settled c) (named_definition line name type tree c)
named_settled line None type tree c s p flat = led_refused (Settled c)
named_settled line (Some name) type tree c s p flat =
    let index = function_number name c in
    led_unless (Settled c) (not (is_function type)) LeftOut line
    (λ x. led_after (Settled c) (declared_function line name type c)
    (λ d q. let k = (introduced line name type c s flat d q).passes.stays in
    led_unless (Settled c) (is_defined (slice_get d.functions index)) DeclaredTwice line
    (λ y z e. settled_trans c d z (function_settled line name type c d q) (body_settled line name index type tree d k.safe (k.params p) z e))))

pub definition_settled : (line : ℕ) (words declarator tree : Tree) (c : Context) → Safe c.scopes → SafeTable c.params → length c.scopes.inner ≡ 0 → Led (Settled c) (definition line words declarator tree c)
definition_settled line words declarator tree c s p flat =
    led_after (Settled c) (specs words c)
    (λ base h. let one = specs_passes words c c (passes_refl c s) base h in
    led_after (Settled c) (layers declarator base.0)
    (λ l k. let two = (layers_pass declarator c base.0 one l k).stays in
    let near = (layers_level declarator c base.0 (specs_level words c c (levels_refl c) base h) l k).settled in
    led_after (Settled c) (with_layers l.0.tags l.1 base.1)
    (λ type e z q. settled_trans c l.0 z near (named_settled line (name_of declarator) type tree l.0 two.safe (two.params p) (two.depth ∙ flat) z q))))

-- texts

external_pointed : (tree : Tree) (c : Context) → Sane c → Pointed c → Led Pointed (external tree c)
unfolding external
external_pointed (Node f.Function (At line ▹ words ▹ Node f.Declared (declarator ▹ none) ▹ tree ▹ none)) c s h z q =
    let b = begun line (addressed_in declarator tree) c in settled_pointed b z (definition_settled line words declarator tree b s.safe s.params s.flat z q) (record { there = h.there; starts = h.starts })
external_pointed (Node f.Declaration (At line ▹ words ▹ names ▹ none)) c s h z q = declaration_pointed line words names (begun line [] c) (record { there = h.there; starts = h.starts }) z q
external_pointed tree c s h z q = led_refused Pointed z q

externals_pointed : (unit : Trees) (c : Context) → Sane c → Pointed c → Led Pointed (externals unit c)
unfolding externals
externals_pointed none c s h = led_ok Pointed h
externals_pointed (tree ▹ rest) c s h =
    led_after Pointed (external tree c) (λ d q. externals_pointed rest d (external_sane tree c s d q) (external_pointed tree c s h d q))

no_objects : (k : ℕ) (list : List BuiltIn) → ObjectsThere [] (numbered_from k list)
no_objects k [] name type i e = cc
no_objects k (b ∷ list) name type i e =
    either_way (λ x. (named_in name (numbered_from (k + 1) list) ≡ Some (n.Object type i) → (v : Variable) × (slice_get [] i ≡ Some v)) → x ≡ Some (n.Object type i) → (v : Variable) × (slice_get [] i ≡ Some v)) (bytes_eq name (names.name_of b))
    (λ rest q. cc)
    (λ rest q. rest q) (no_objects (k + 1) list name type i) e

first_pointed : Pointed first_context
first_pointed = record { there = no_objects 0 built_ins; starts = λ i v s e q. cc }

pub walked_pointed : (unit : Trees) → Led Pointed (walked unit)
walked_pointed unit c q = externals_pointed unit first_context first_sane first_pointed c (behind_text unit c q).0

-- statics of the core

get_behind : {A : Type 0} (xs ys : List A) (j k : ℕ) (x : A) → j ≡ length xs + k → slice_get ys k ≡ Some x → slice_get (xs ++ ys) j ≡ Some x
get_behind [] ys j k x e q = let same : j ≡ k = omega (arith, e) in ap (slice_get ys) same ∙ q
get_behind (y ∷ xs) ys zero k x e q = absurd (omega (arith, e))
get_behind (y ∷ xs) ys (suc j) k x e q = get_behind xs ys j k x (omega (arith, e)) q

aims_target : (c : Context) (slot g i : ℕ) → Aims c.variables c.literals g i → IsTarget (core_of c) (slot, static_by (length c.variables) g, i)
aims_target c slot g i (in_variable k v at there inside) =
    let here : slice_get (core_of c).statics k ≡ Some (variable_static c v) =
    get_left (map (variable_static c) c.variables) (map literal_static c.literals) k (variable_static c v) (slice_get-map (variable_static c) c.variables k ∙ ap (option_map (variable_static c)) there) in
    (variable_static c v, ap (slice_get (core_of c).statics) (ap (static_by (length c.variables)) at ∙ variable_number (length c.variables) k) ∙ here, inside)
aims_target c slot g i (in_literal k bytes at there inside) =
    let here : slice_get (core_of c).statics (length (map (variable_static c) c.variables) + k) ≡ Some (literal_static bytes) =
    get_behind (map (variable_static c) c.variables) (map literal_static c.literals) (length (map (variable_static c) c.variables) + k) k (literal_static bytes) refl (slice_get-map literal_static c.literals k ∙ ap (option_map literal_static) there) in
    let place : static_by (length c.variables) g ≡ length (map (variable_static c) c.variables) + k =
    ap (static_by (length c.variables)) at ∙ literal_number (length c.variables) k ∙ ap (λ (j : ℕ). j + k) (sym (length-map c.variables (variable_static c))) in
    (literal_static bytes, ap (slice_get (core_of c).statics) place ∙ here, omega (arith, inside))

-- what a static holds first
abbrev pub HasTargets : Core → Static → Type 0
HasTargets core static = All (IsTarget core) static.start.pointers

pub pointers_target : (c : Context) (ps : List (ℕ × ℕ × ℕ)) → PointersIn c.variables c.literals ps → All (IsTarget (core_of c)) (map (λ (p : ℕ × ℕ × ℕ). (p.0, static_by (length c.variables) p.1, p.2)) ps)
pointers_target c [] h = All-nil (IsTarget (core_of c))
pointers_target c (p ∷ ps) h = All-cons (IsTarget (core_of c)) _ _ (aims_target c p.0 p.1 p.2 h.0) (pointers_target c ps h.1)

start_targets : (c : Context) (v : Variable) (o : Option Start) → ((s : Start) → o ≡ Some s → PointersIn c.variables c.literals s.pointers) → All (IsTarget (core_of c)) (map (λ (p : ℕ × ℕ × ℕ). (p.0, static_by (length c.variables) p.1, p.2)) (unwrap_or o no_start).pointers)
start_targets c v None h = All-nil (IsTarget (core_of c))
start_targets c v (Some s) h = pointers_target c s.pointers (h s refl)

variables_target : (c : Context) (us : List Variable) → StartsIn us c.variables c.literals → All (HasTargets (core_of c)) (map (variable_static c) us)
variables_target c [] h = All-nil (HasTargets (core_of c))
variables_target c (v ∷ us) h = All-cons (HasTargets (core_of c)) (variable_static c v) (map (variable_static c) us) (start_targets c v v.start (λ s e. h 0 v s refl e)) (variables_target c us (λ i x s e q. h (suc i) x s e q))

literals_target : (core : Core) (ls : List (List ℕ)) → All (HasTargets core) (map literal_static ls)
literals_target core [] = All-nil (HasTargets core)
literals_target core (l ∷ ls) = All-cons (HasTargets core) (literal_static l) (map literal_static ls) (All-nil (IsTarget core)) (literals_target core ls)

pub core_targets : (unit : Trees) (core : Core) (tags : TagTable) → elaborated unit ≡ Ok (core, tags) → All (HasTargets core) core.statics
core_targets unit core tags q =
    let b = core_behind unit core tags q in
    let h = walked_pointed unit b.context b.is in
    let c = b.context in
    subst (λ (x : Core). All (HasTargets x) x.statics) b.made
    (All-append (HasTargets (core_of c)) (map (variable_static c) c.variables) (map literal_static c.literals) (variables_target c c.variables h.starts) (literals_target (core_of c) c.literals))

-- a static is sound, where its layout is one of a type, its first bytes and pointers fill that, and the pointers name statics

-- the first bytes and pointers of each variable that has an initializer fill its layout
abbrev pub StartsFilled : List Variable → Type 0
StartsFilled us = (i : ℕ) (v : Variable) (s : Start) → slice_get us i ≡ Some v → v.start ≡ Some s → Filled v.layout.slots v.layout.size s

-- slots of lists

all_has : (P : ℕ → Type 0) (xs : List ℕ) → ((s : ℕ) → Has xs s → P s) → All P xs
all_has P [] h = All-nil P
all_has P (x ∷ xs) h = All-cons P x xs (h x (inl refl)) (all_has P xs (λ s k. h s (inr k)))

has_contains : (xs : List ℕ) (s : ℕ) → Has xs s → Contains xs s
has_contains [] s h = absurd h
has_contains (x ∷ xs) s (inl e) = (0, omega arith, e)
has_contains (x ∷ xs) s (inr h) = let r = has_contains xs s h in (suc r.0, omega (arith, r.1), r.2)

-- pointers in the numbers of the core

abbrev numbered : ℕ → List (ℕ × ℕ × ℕ) → List (ℕ × ℕ × ℕ)
numbered count ps = map (λ (p : ℕ × ℕ × ℕ). (p.0, static_by count p.1, p.2)) ps

places_same : (count : ℕ) (ps : List (ℕ × ℕ × ℕ)) → places (numbered count ps) ≡ places ps
places_same count [] = refl
places_same count (p ∷ ps) = ap (λ (xs : List ℕ). p.0 ∷ xs) (places_same count ps)

pointers_slots : (count : ℕ) (slots : List ℕ) (low : ℕ) (ps : List (ℕ × ℕ × ℕ)) → PointersBelow slots low ps → All (λ (pointer : ℕ × ℕ × ℕ). Contains slots pointer.0) (numbered count ps)
pointers_slots count slots low [] h = All-nil (λ (pointer : ℕ × ℕ × ℕ). Contains slots pointer.0)
pointers_slots count slots low (p ∷ ps) h = All-cons (λ (pointer : ℕ × ℕ × ℕ). Contains slots pointer.0) _ _ (has_contains slots p.0 h.0.0) (pointers_slots count slots low ps h.1)

-- a variable

filled_static : (c : Context) (v : Variable) (s : Start) → IsLayoutOfType v.layout → Filled v.layout.slots v.layout.size s → PointersIn c.variables c.literals s.pointers → IsStatic (core_of c) (record { name = Some (plain_name v.name); layout = v.layout; start = start_by c s })
filled_static c v s layout h p = record {
  layout = layout;
  inside = h.inside;
  zeros = all_has (λ slot. (k : ℕ) → k < 4 → byte s.bytes (slot + k) ≡ 0) v.layout.slots (λ slot there k small. h.zeros slot k there small);
  slots = pointers_slots (length c.variables) v.layout.slots v.layout.size s.pointers h.pointers;
  distinct = subst (IsDistinct nat_eq) (sym (places_same (length c.variables) s.pointers)) h.distinct;
  targets = pointers_target c s.pointers p;
}

pub nothing_filled : (slots : List ℕ) (low : ℕ) → Filled slots low no_start
unfolding IsDistinct
nothing_filled slots low = record { inside = omega arith; zeros = λ s k there small. refl; pointers = tt; distinct = tt }

variable_sound : (c : Context) (v : Variable) (o : Option Start) → IsLayoutOfType v.layout → ((s : Start) → o ≡ Some s → Filled v.layout.slots v.layout.size s) → ((s : Start) → o ≡ Some s → PointersIn c.variables c.literals s.pointers)
    → IsStatic (core_of c) (record { name = Some (plain_name v.name); layout = v.layout; start = start_by c (unwrap_or o no_start) })
variable_sound c v None layout h p = filled_static c v no_start layout (nothing_filled v.layout.slots v.layout.size) tt
variable_sound c v (Some s) layout h p = filled_static c v s layout (h s refl) (p s refl)

variables_sound : (c : Context) (us : List Variable) (rest : List Static) → All (λ (static : Static). IsLayoutOfType static.layout) (map (variable_static c) us ++ rest) → StartsFilled us → StartsIn us c.variables c.literals → All (IsStatic (core_of c)) (map (variable_static c) us)
variables_sound c [] rest l h p = All-nil (IsStatic (core_of c))
variables_sound c (v ∷ us) rest l h p =
    let Laid : Static → Type 0 = λ (static : Static). IsLayoutOfType static.layout in
    All-cons (IsStatic (core_of c)) (variable_static c v) (map (variable_static c) us)
    (variable_sound c v v.start (All-head Laid (variable_static c v) (map (variable_static c) us ++ rest) l) (λ s e. h 0 v s refl e) (λ s e. p 0 v s refl e))
    (variables_sound c us rest (All-tail Laid (variable_static c v) (map (variable_static c) us ++ rest) l) (λ i x s e q. h (suc i) x s e q) (λ i x s e q. p (suc i) x s e q))

-- a literal

literal_sound : (core : Core) (bytes : List ℕ) → IsLayoutOfType (array_layout (length bytes + 1) (number_layout 1)) → IsStatic core (literal_static bytes)
unfolding IsDistinct
literal_sound core bytes layout = record {
  layout = layout;
  inside = omega (arith, trimmed_length (record { bytes = bytes; pointers = [] }));
  zeros = all_has (λ slot. (k : ℕ) → k < 4 → byte (trimmed (record { bytes = bytes; pointers = [] })).bytes (slot + k) ≡ 0) (array_layout (length bytes + 1) (number_layout 1)).slots (λ s there k small. let r = has_row 1 [] 0 (length bytes + 1) s there in absurd r.there);
  slots = All-nil (λ (pointer : ℕ × ℕ × ℕ). Contains (array_layout (length bytes + 1) (number_layout 1)).slots pointer.0);
  distinct = tt;
  targets = All-nil (IsTarget core);
}

literals_sound : (core : Core) (ls : List (List ℕ)) → All (λ (static : Static). IsLayoutOfType static.layout) (map literal_static ls) → All (IsStatic core) (map literal_static ls)
literals_sound core [] h = All-nil (IsStatic core)
literals_sound core (l ∷ ls) h =
    let Laid : Static → Type 0 = λ (static : Static). IsLayoutOfType static.layout in
    All-cons (IsStatic core) (literal_static l) (map literal_static ls) (literal_sound core l (All-head Laid (literal_static l) (map literal_static ls) h)) (literals_sound core ls (All-tail Laid (literal_static l) (map literal_static ls) h))

-- what is behind a list

all_right : {X : Type 0} (P : X → Type 0) (xs ys : List X) → All P (xs ++ ys) → All P ys
all_right P [] ys h = h
all_right P (x ∷ xs) ys h = all_right P xs ys (All-tail P x (xs ++ ys) h)

-- from what the walk keeps to the statics of the core
pub statics_sound : (c : Context) → Pointed c → StartsFilled c.variables → HasLayouts (core_of c) → All (IsStatic (core_of c)) (core_of c).statics
statics_sound c p h l =
    let Laid : Static → Type 0 = λ (static : Static). IsLayoutOfType static.layout in
    All-append (IsStatic (core_of c)) (map (variable_static c) c.variables) (map literal_static c.literals)
    (variables_sound c c.variables (map literal_static c.literals) l.statics h p.starts)
    (literals_sound (core_of c) c.literals (all_right Laid (map (variable_static c) c.variables) (map literal_static c.literals) l.statics))
