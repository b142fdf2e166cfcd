-- What declarators, specs and prototypes do to what fits.
use Rattle.core_soundness.proofs.Words.Std.{◌≡◌, ℕ, Bool, true, false, cond, is_some, nat_lt, List, [], ◌∷◌, length, Option, Some, None, ◌≤◌, refl, ap, ◌∙◌, arith, ◌<◌, not, option_map, sym, subst, length-append, zero, suc, ◌||◌, unwrap_or, Ok, ltb-false}
use Rattle.core_soundness.proofs.Words.Trees.{Tree, Trees}
use Rattle.core_soundness.proofs.Words.Types.{no_layout, TagTable, layout_in, PlainType, Int, PlainTypes, Pointer, PlainNamed, Checked, ScopeList, Table, named_in, innermost, with_name, tag_name, after_declaration, is_scalar}
use Rattle.core_soundness.proofs.Words.Core.{Sort, sort_of, Reg as Register}
use Rattle.core_soundness.proofs.Words.Elaborating.{Context, Running, told, entered, Code, asked, local_register, Spot, Memory, left_params, specs, layers, params, constant, with_type, suffix_layers, suffix_layer, counted, with_named, prototype_param, function_param, is_prototype, with_param, is_pointer, declared_as, next_is_memory, with_register, with_memory, memory_param, register_param, local_in, with_local}
use Rattle.core_soundness.proofs.Words.Facts.{World, world, local_sort, type_sort, is_local, Held, StandsAs, InnerFits, FileFits, NamesFit, PiecesFit, TablesFit}
use Rattle.c_types.specs.declared.types.IntType.TheVariants as i
use Rattle.core_tree.specs.declared.statements.Atom.TheVariants as atom
use Rattle.c_decls.specs.Named as n
use Rattle.c_decls.specs.ScopeList as scopes
use Rattle.c_decls.specs.TypeNames as names
use Rattle.core_soundness.proofs.Calls.{names_more, sort_kept}
use Rattle.core_soundness.proofs.Declaring.{tail_depth}
use Rattle.core_soundness.proofs.Growth.{Reached, reached_ok, reached_after, Led, led_ok, led_unless}
use Rattle.core_soundness.proofs.Scopes.{pushed_fits, first_fits, named_fits, left_fit, More, MoreTags, MoreAll, tags_refl, tags_trans, all_refl, all_trans, more_depth, with_name_depth, Any, any_names, all_any, more_refl, IsNoFunction, with_name_keeps, tag_kept, get_left, get_last, tail_more}
use Rattle.core_soundness.proofs.Sitting.{Fine, Runs, runs_refl, runs_trans, on_runs, table_grew, entered_fine, goes_runs}
use Rattle.core_soundness.proofs.Sorting.{Grew, grew_refl, pieces_grew, goes_told, write_goes}
use Rattle.core_soundness.proofs.TagSorts.{After}
use Rattle.core_soundness.proofs.Walks.{Steps, specs_keep, layers_keep, params_keep, constant_keeps, tagging, suffixes_keep, suffix_keeps}
use Rattle.core_soundness.proofs.Choices.{either_way}

-- parts that stand inside a scope: their parameter lists are those of prototypes, of which nothing is made (C99 6.2.1)

-- what such a part leaves as it was: the code and the running function, but for how many are declared; what is kept of the
-- whole text; and the scopes around the innermost, but for new tags
pub record Aside (c d : Context) : Type 0 where
  pub code : d.code ≡ c.code
  pub running : d.running ≡ record c.running { declared = d.running.declared }
  pub variables : d.variables ≡ c.variables
  pub literals : d.literals ≡ c.literals
  pub calls : d.calls ≡ c.calls
  pub walked : d.walked ≡ c.walked
  pub file : MoreTags c.scopes.file d.scopes.file
  pub outside : MoreAll (scopes.tail c.scopes.inner) (scopes.tail d.scopes.inner)
  pub depth : length d.scopes.inner ≡ length c.scopes.inner

pub aside_refl : (c : Context) → Aside c c
aside_refl c = record { code = refl; running = refl; variables = refl; literals = refl; calls = refl; walked = refl; file = tags_refl c.scopes.file; outside = all_refl (scopes.tail c.scopes.inner); depth = refl }

pub aside_trans : (a b c : Context) → Aside a b → Aside b c → Aside a c
aside_trans a b c x y = search (tags_trans, all_trans)

told_aside : (told_of : names.Context) (c : Context) → More c.scopes told_of.scopes → Aside c (told told_of c)
told_aside told_of c m = record { code = refl; running = refl; variables = refl; literals = refl; calls = refl; walked = refl; file = m.file; outside = tail_more c.scopes.inner told_of.scopes.inner m.inner; depth = more_depth c.scopes told_of.scopes m }

-- names of the innermost scope

pub with_name_outside : (s : ScopeList) (name : List ℕ) (v : PlainNamed) → MoreAll (scopes.tail s.inner) (scopes.tail (with_name s name v).inner)
with_name_outside s name v = grind (arith, all_refl)

name_aside : (name : List ℕ) (v : PlainNamed) (c : Context) → 1 ≤ length c.scopes.inner → Aside c (record c { scopes = with_name c.scopes name v })
name_aside name v c deep = record { code = refl; running = refl; variables = refl; literals = refl; calls = refl; walked = refl; file = (search (arith, tags_refl) fits 100); outside = with_name_outside c.scopes name v; depth = with_name_depth c.scopes name v }

named_aside : (name : Option (List ℕ)) (v : PlainNamed) (c : Context) → 1 ≤ length c.scopes.inner → Aside c (with_named name v c)
named_aside name v c deep = search (arith, aside_refl, name_aside) fits 100

after_aside : (name : List ℕ) (v : PlainNamed) (c : Context) → 1 ≤ length c.scopes.inner → Aside c (record c { scopes = after_declaration c.scopes name v })
after_aside name v c deep = either_way (λ x. Aside c (record c { scopes = x })) (is_some (named_in name (innermost c.scopes))) (aside_refl c) (name_aside name v c deep)

-- constants, specs and declarators

same_aside : (c : Context) (tags : TagTable) (params : Table) → Aside c (record c { tags = tags; params = params })
same_aside c tags params = record { code = refl; running = refl; variables = refl; literals = refl; calls = refl; walked = refl; file = tags_refl c.scopes.file; outside = all_refl (scopes.tail c.scopes.inner); depth = refl }

counted_aside : (b c : Context) → Aside b c → Aside b (counted c)
counted_aside b c p = grind arith

-- a list at file scope is no prototype's
pub own_params : (c : Context) → length c.scopes.inner ≡ 1 → is_prototype c.scopes ≡ false
own_params c deep = ap (λ (k : ℕ). nat_lt 1 k) deep

-- a list inside another scope is that of a prototype
with_param_aside : (name : Option (List ℕ)) (type : PlainType) (c : Context) → 2 ≤ length c.scopes.inner → Aside c (with_param name type c)
with_param_aside name type c deep = grind (arith, true, counted_aside, named_aside, false, ltb-false)

-- a list of parameters in a scope of its own
pub left_aside : (c x : Context) → Aside (entered c) x → Aside c (left_params x)
left_aside c x p = search (tail_more, tail_depth)

-- a parameter list stands in a scope that stands in another
abbrev least : Bool → ℕ
least true = 2
least false = 1

least_one : (deep : Bool) → 1 ≤ least deep
least_one deep = search arith fits 100

abbrev KeptWithin : Bool → ℕ → Context → Context → Type 0
KeptWithin deep n c d = least deep ≤ length c.scopes.inner → Aside c d

aside_step : Steps Any KeptWithin
aside_step = record {
  stop = λ deep n c h. aside_refl c;
  join = λ deep m n k a b c e x y h. let p = x h in aside_trans a b c p (y (omega (arith, p.depth, h)));
  tells = λ deep t c m h. told_aside t c m;
  retags = λ deep tags c h. same_aside c tags c.params;
  enumerates = λ deep name value c h. after_aside name (n.Constant i.Int value) c (omega (arith, least_one deep, h));
  names = λ deep name c h. name_aside (tag_name name) (n.Tag (Int i.Int)) c (omega (arith, least_one deep, h));
  takes = λ name type c named h. with_param_aside name type c h;
  lists = λ deep n parts c x q p h. left_aside c x.0 (p (omega (arith, least_one deep, h)));
  unlists = λ deep c h. same_aside c c.tags [];
}

pub specs_beside : (tree : Tree) (b : Context) → 1 ≤ length b.scopes.inner → (c : Context) → Aside b c → Reached (Aside b) (specs tree c)
specs_beside tree b deep c p z q = aside_trans b c z.0 p (specs_keep Any KeptWithin aside_step false tree c (any_names tree) z q (omega (arith, deep, p.depth)))

pub layers_beside : (tree : Tree) (b : Context) → 1 ≤ length b.scopes.inner → (c : Context) → Aside b c → Reached (Aside b) (layers tree c)
layers_beside tree b deep c p z q = aside_trans b c z.0 p (layers_keep Any KeptWithin aside_step false tree c (any_names tree) z q (omega (arith, deep, p.depth)))

pub params_beside : (parts : Trees) (b : Context) → 2 ≤ length b.scopes.inner → (c : Context) → Aside b c → Reached (Aside b) (params parts c)
params_beside parts b deep c p z q = aside_trans b c z.0 p (params_keep Any KeptWithin aside_step parts c (all_any parts) z q (omega (arith, deep, p.depth)))

-- what declarators, specs and tags do to what fits (C99 6.7)

-- names that are declared

with_name_inner : (w : World) (s : ScopeList) (name : List ℕ) (v : PlainNamed) (k : ℕ) → length s.inner ≡ suc k → InnerFits w v → NamesFit w s → NamesFit w (with_name s name v)
with_name_inner w s name v k deep h f = by s.inner deep f.inner
  where
    by : (inner : List Table) → length inner ≡ suc k → TablesFit (InnerFits w) inner → NamesFit w (scopes.with_name_in s.file inner name v)
    by [] d g = absurd (omega arith)
    by (t ∷ ts) d g = record { file = f.file; inner = (pushed_fits (InnerFits w) name v t h g.0, g.1) }

-- other scopes
abbrev pub TableKept : Table → Table → Type 0
TableKept one other = (name : List ℕ) (v : PlainNamed) → named_in name one ≡ Some v → named_in name other ≡ Some v

pub rescoped : (answer : Option Sort) (c : Context) (s : ScopeList) → TableKept c.scopes.file s.file → length s.inner ≡ length c.scopes.inner → MoreAll (scopes.tail c.scopes.inner) (scopes.tail s.inner) → NamesFit (world c) s → Fine c → Runs answer c (record c { scopes = s })
rescoped answer c s keep deep out h f = search (arith, names_more, more_refl, pieces_grew, table_grew)

-- with one register more, and with one memory local more
pub more_register : (answer : Option Sort) (name : Option (List ℕ)) (type : PlainType) (c : Context) → Fine c → Runs answer c (with_register name type c)
more_register answer name type c f =
    let d = with_register name type c in
    let grew : Grew (world c) (world d) = record { locals = λ k r e. get_left c.running.locals (record { name = name; pointer = is_pointer type } ∷ []) k r e; mems = omega arith; integers = omega arith; pointers = omega arith; variables = omega arith; literals = omega arith; formats = λ k g e. e; calls = λ j y e. e; file = λ key t i e. e } in
    goes_runs answer c d f (record { grew = grew; more = more_refl c.scopes; kept = record { line = refl; answer = refl; addressed = refl; declared = refl; params = refl; walked = refl }; fits = λ a k. pieces_grew a (world c) (world d) c.code.pieces grew k })

pub more_memory : (answer : Option Sort) (name : List ℕ) (type : PlainType) (c : Context) → Fine c → Runs answer c (with_memory name type c)
more_memory answer name type c f =
    let d = with_memory name type c in
    let grew : Grew (world c) (world d) = record { locals = λ k r e. e; mems = omega (arith, length-append c.running.mems (record { name = name; layout = unwrap_or (layout_in c.tags type) no_layout } ∷ [])); integers = omega arith; pointers = omega arith; variables = omega arith; literals = omega arith; formats = λ k g e. e; calls = λ j y e. e; file = λ key t i e. e } in
    goes_runs answer c d f (record { grew = grew; more = more_refl c.scopes; kept = record { line = refl; answer = refl; addressed = refl; declared = refl; params = refl; walked = refl }; fits = λ a k. pieces_grew a (world c) (world d) c.code.pieces grew k })

pub counted_runs : (answer : Option Sort) (b c : Context) → Runs answer b c → Runs answer b (counted c)
counted_runs answer b c r = record { grew = r.grew; fine = record { names = r.fine.names; lined = r.fine.lined }; fits = r.fits; answer = r.answer; addressed = r.addressed; outside = r.outside; depth = r.depth; params = r.params; walked = r.walked }

-- a name in an inner scope
pub named_runs : (answer : Option Sort) (name : Option (List ℕ)) (v : PlainNamed) (k : ℕ) (c : Context) → length c.scopes.inner ≡ suc k → IsNoFunction v → InnerFits (world c) v → Fine c → Runs answer c (with_named name v c)
named_runs answer None v k c deep i h f = runs_refl answer c f
named_runs answer (Some name) v k c deep i h f = rescoped answer c (with_name c.scopes name v) (with_name_keeps c.scopes name v i).kept (with_name_depth c.scopes name v) (with_name_outside c.scopes name v) (with_name_inner (world c) c.scopes name v k deep h f.names) f

register_held : (w : World) (type : PlainType) (k : ℕ) → local_sort w k ≡ Some (type_sort type) → Held w type (atom.Reg (local_register k))
register_held w (Int ty) k h = is_local k refl h
register_held w (Pointer target) k h = is_local k refl h
register_held w other k h = tt

pub last_sort : (name : Option (List ℕ)) (type : PlainType) (c : Context) → local_sort (world (with_register name type c)) (length c.running.locals) ≡ Some (type_sort type)
last_sort name type c = ap (λ (o : Option Register). option_map sort_of o) (get_last c.running.locals (record { name = name; pointer = is_pointer type }))

memory_param_runs : (answer : Option Sort) (name : Option (List ℕ)) (type : PlainType) (k : ℕ) (c : Context) → length c.scopes.inner ≡ suc k → Fine c → Runs answer c (memory_param name type c)
memory_param_runs answer name type k c deep f =
    let mem : ℕ = length c.running.mems in
    let x = with_register name type c in
    let y = with_memory (unwrap_or name []) type x in
    let z = with_named name (n.Object type mem) y in
    let xr = more_register answer name type c f in
    let yr = more_memory answer (unwrap_or name []) type x xr.fine in
    let there : mem < (world y).mems = omega (arith, length-append c.running.mems (record { name = unwrap_or name []; layout = unwrap_or (layout_in c.tags type) no_layout } ∷ [])) in
    let zr = named_runs answer name (n.Object type mem) k y deep tt there yr.fine in
    let yz : Runs answer c y = runs_trans answer c x y xr yr in
    let all : Runs answer c z = runs_trans answer c y z yz zr in
    let sort : local_sort (world z) (length c.running.locals) ≡ Some (type_sort type) = sort_kept (world x) (world z) (length c.running.locals) (type_sort type) (runs_trans answer x y z yr zr).grew (last_sort name type c) in
    let in_z : mem < (world z).mems = omega (arith, there, zr.grew.mems) in
    on_runs answer c z _ all (write_goes c.running.line type (Memory (atom.Mem mem)) (atom.Reg (local_register (length c.running.locals))) z f.lined (refl, in_z) (register_held (world z) type (length c.running.locals) sort))

scalar_of : (s other : Bool) → not s || other ≡ false → s ≡ true
scalar_of s other e = search arith fits 100

register_param_runs : (answer : Option Sort) (name : Option (List ℕ)) (type : PlainType) (k : ℕ) (c : Context) → length c.scopes.inner ≡ suc k → is_scalar type ≡ true → Fine c → Runs answer c (register_param name type c)
register_param_runs answer name type k c deep s f =
    let x = with_register name type c in
    let xr = more_register answer name type c f in
    runs_trans answer c x _ xr (named_runs answer name (n.Register type (length c.running.locals)) k x deep tt (s, last_sort name type c) xr.fine)

pub with_param_runs : (answer : Option Sort) (name : Option (List ℕ)) (type : PlainType) (c : Context) → length c.scopes.inner ≡ 1 → Fine c → Runs answer c (with_param name type c)
with_param_runs answer name type c deep f =
    subst (λ (t : Bool). Runs answer c (counted (cond t (prototype_param name type c) (function_param name type c)))) (sym (own_params c deep)) (counted_runs answer c _ (by (next_is_memory type c) refl))
  where
    by : (t : Bool) → next_is_memory type c ≡ t → Runs answer c (cond t (memory_param name type c) (register_param name type c))
    by true e = memory_param_runs answer name type 0 c deep f
    by false e = register_param_runs answer name type 0 c deep (scalar_of _ _ e) f

-- a local more, and where it is
pub record Local_at (answer : Option Sort) (c : Context) (type : PlainType) (d : Context × Spot) : Type 0 where
  pub runs : Runs answer c d.0
  pub stands : StandsAs (world d.0) true type d.1

local_in_runs : (answer : Option Sort) (t : Bool) (name : List ℕ) (type : PlainType) (k : ℕ) (c : Context) → next_is_memory type c ≡ t → length c.scopes.inner ≡ suc k → Fine c → Local_at answer c type (local_in t name type c)
local_in_runs answer true name type k c e deep f =
    let x = with_memory name type c in
    let xr = more_memory answer name type c f in
    let there : length c.running.mems < (world x).mems = omega (arith, length-append c.running.mems (record { name = name; layout = unwrap_or (layout_in c.tags type) no_layout } ∷ [])) in
    let nr = named_runs answer (Some name) (n.Object type (length c.running.mems)) k x deep tt there xr.fine in
    record { runs = runs_trans answer c x _ xr nr; stands = (refl, omega (arith, there, nr.grew.mems)) }
local_in_runs answer false name type k c e deep f =
    let x = with_register (Some name) type c in
    let xr = more_register answer (Some name) type c f in
    let s = scalar_of _ _ e in
    let nr = named_runs answer (Some name) (n.Register type (length c.running.locals)) k x deep tt (s, last_sort (Some name) type c) xr.fine in
    record { runs = runs_trans answer c x _ xr nr; stands = (s, register_held _ type (length c.running.locals) (sort_kept (world x) _ (length c.running.locals) (type_sort type) nr.grew (last_sort (Some name) type c))) }

pub with_local_runs : (answer : Option Sort) (name : List ℕ) (type : PlainType) (k : ℕ) (c : Context) → length c.scopes.inner ≡ suc k → Fine c → Local_at answer c type (with_local name type c)
with_local_runs answer name type k c deep f =
    let r = local_in_runs answer (next_is_memory type c) name type k c refl deep f in
    record { runs = counted_runs answer c _ r.runs; stands = r.stands }

module _ (answer : Option Sort) where
  -- other names and tags
  told_runs : (t : names.Context) (b c : Context) → More c.scopes t.scopes → Runs answer b c → Runs answer b (told t c)
  told_runs t b c m p = on_runs answer b c (told t c) p (goes_told t c m)

  tags_run : (tags : TagTable) (b c : Context) → Runs answer b c → Runs answer b (record c { tags = tags })
  tags_run tags b c p = record { grew = p.grew; fine = record { names = p.fine.names; lined = p.fine.lined }; fits = p.fits; answer = p.answer; addressed = p.addressed; outside = p.outside; depth = p.depth; params = p.params; walked = p.walked }

  scopes_run : (name : List ℕ) (v : PlainNamed) (b c : Context) → IsNoFunction v → InnerFits (world c) v → FileFits (world c) v → Runs answer b c → Runs answer b (record c { scopes = with_name c.scopes name v })
  scopes_run name v b c i h q p =
      runs_trans answer b c _ p (rescoped answer c (with_name c.scopes name v) (with_name_keeps c.scopes name v i).kept (with_name_depth c.scopes name v) (with_name_outside c.scopes name v) (named_fits (FileFits (world c)) (InnerFits (world c)) c.scopes name v q h p.fine.names) p.fine)

  after_runs : (name : List ℕ) (v : PlainNamed) (b c : Context) → IsNoFunction v → InnerFits (world c) v → FileFits (world c) v → Runs answer b c → Runs answer b (record c { scopes = after_declaration c.scopes name v })
  after_runs name v b c i h q p =
      either_way (λ x. Runs answer b (record c { scopes = x })) (is_some (named_in name (innermost c.scopes)))
      (record { grew = p.grew; fine = record { names = p.fine.names; lined = p.fine.lined }; fits = p.fits; answer = p.answer; addressed = p.addressed; outside = p.outside; depth = p.depth; params = p.params; walked = p.walked })
      (scopes_run name v b c i h q p)

  pub declared_runs : (line : ℕ) (name : List ℕ) (v : PlainNamed) (b c : Context) → IsNoFunction v → InnerFits (world c) v → FileFits (world c) v → Runs answer b c → Led (Runs answer b) (declared_as line name v c)
  declared_runs line name v b c i h q p = search (arith, led_unless, led_ok, after_runs) fits 100

  -- parameter lists

  left_params_runs : (c x : Context) → Runs answer (entered c) x → Runs answer c (left_params x)
  left_params_runs c x p = search (arith, left_fit, tail_more, tail_depth, first_fits) fits 100

  -- a prototype's list: nothing is made of its parameters
  prototype_runs : (c x : Context) → 1 ≤ length c.scopes.inner → Fine c → Aside (entered c) x → Runs answer c (left_params x)
  prototype_runs c x deep f p =
      let d = left_params x in
      let grew : Grew (world c) (world d) = search (arith, tag_kept) in
      record {
        grew = grew;
        fine = record { names = names_more (world c) (world d) c.scopes d.scopes grew (record { file = p.file; inner = p.outside }) f.names; lined = subst (λ (run : Running). 1 ≤ run.line) (sym p.running) f.lined };
        fits = λ k. subst (λ (code : Code). PiecesFit answer (world d) code.pieces) (sym p.code) (pieces_grew answer (world c) (world d) c.code.pieces grew k);
        answer = ap (λ (run : Running). run.answer) p.running;
        addressed = ap (λ (run : Running). run.addressed) p.running;
        outside = tail_more c.scopes.inner (scopes.tail x.scopes.inner) p.outside;
        depth = tail_depth x.scopes.inner (length c.scopes.inner) p.depth;
        params = λ flat h. absurd (omega (arith, deep, flat));
        walked = p.walked;
      }

  -- a list at file scope, and one inside another scope
  list_runs : (parts : Trees) (c : Context) (x : Context × PlainTypes) → params parts (entered c) ≡ Ok x → (length c.scopes.inner ≡ 0 → Runs answer (entered c) x.0) → Fine c → Runs answer c (left_params x.0)
  list_runs parts c x q own f = by (length c.scopes.inner) refl
    where
      by : (k : ℕ) → length c.scopes.inner ≡ k → Runs answer c (left_params x.0)
      by zero flat = left_params_runs c x.0 (own flat)
      by (suc k) deep = prototype_runs c x.0 (omega (arith, deep)) f (params_beside parts (entered c) (omega (arith, deep)) (entered c) (aside_refl (entered c)) x q)

  -- specs and declarators, and parameter lists at file scope
  abbrev Flat : Bool → Context → Type 0
  Flat true c = length c.scopes.inner ≡ 1
  Flat false c = Unit {0}

  abbrev Kept : Bool → ℕ → Context → Context → Type 0
  Kept deep n c d = Flat deep c → Fine c → Runs answer c d

  runs_step : Steps Any Kept
  runs_step = record {
    stop = λ deep n c h f. runs_refl answer c f;
    join = λ deep m n k a b c e x y h f. let p = x h f in runs_trans answer a b c p (y (search arith fits 100) p.fine);
    tells = λ deep t c m h f. told_runs t c c m (runs_refl answer c f);
    retags = λ deep tags c h f. tags_run tags c c (runs_refl answer c f);
    enumerates = λ deep name value c h f. after_runs name (n.Constant i.Int value) c c tt tt tt (runs_refl answer c f);
    names = λ deep name c h f. scopes_run (tag_name name) (n.Tag (Int i.Int)) c c tt tt tt (runs_refl answer c f);
    takes = λ name type c named h f. with_param_runs answer name type c h f;
    lists = λ deep n parts c x q p h f. list_runs parts c x q (λ flat. p (omega (arith, flat)) (entered_fine c f)) f;
    unlists = λ deep c h f. record { grew = grew_refl (world c); fine = record { names = f.names; lined = f.lined }; fits = λ k. k; answer = refl; addressed = refl; outside = all_refl (scopes.tail c.scopes.inner); depth = refl; params = λ flat h name v e. cc; walked = refl };
  }

  pub constant_runs : (e : Tree) (b c : Context) → Runs answer b c → Reached (Runs answer b) (constant e c)
  constant_runs e b c p z q = runs_trans answer b c z.0 p (constant_keeps (Kept false 0) (tagging Any Kept runs_step false) e c z q tt p.fine)

  pub with_type_runs : (given : Checked (names.Context × PlainType)) (b c : Context) → Reached (After (asked c)) given → Runs answer b c → Reached (Runs answer b) (with_type given c)
  with_type_runs given b c g p = reached_after (Runs answer b) given (λ x h. reached_ok (Runs answer b) (told_runs x.0 b c (g x h) p))

  pub specs_run : (tree : Tree) (b c : Context) → Runs answer b c → Reached (Runs answer b) (specs tree c)
  specs_run tree b c p z q = runs_trans answer b c z.0 p (specs_keep Any Kept runs_step false tree c (any_names tree) z q tt p.fine)

  pub layers_run : (tree : Tree) (b c : Context) → Runs answer b c → Reached (Runs answer b) (layers tree c)
  layers_run tree b c p z q = runs_trans answer b c z.0 p (layers_keep Any Kept runs_step false tree c (any_names tree) z q tt p.fine)

  pub suffixes_run : (parts : Trees) (b c : Context) → Runs answer b c → Reached (Runs answer b) (suffix_layers parts c)
  suffixes_run parts b c p z q = runs_trans answer b c z.0 p (suffixes_keep Any Kept runs_step false parts c (all_any parts) z q tt p.fine)

  pub suffix_runs : (tree : Tree) (b c : Context) → Runs answer b c → Reached (Runs answer b) (suffix_layer tree c)
  suffix_runs tree b c p z q = runs_trans answer b c z.0 p (suffix_keeps Any Kept runs_step false tree c (any_names tree) z q tt p.fine)

  -- the list of a function's own parameters
  pub params_run : (parts : Trees) (b c : Context) → length b.scopes.inner ≡ 1 → Runs answer b c → Reached (Runs answer b) (params parts c)
  params_run parts b c deep p z q = runs_trans answer b c z.0 p (params_keep Any Kept runs_step parts c (all_any parts) z q (p.depth ∙ deep) p.fine)
