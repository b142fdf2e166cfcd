-- The registers that declarators make.
use Rattle.core_soundness.proofs.Words.Std.{◌≡◌, ◌≤◌, ◌+◌, ℕ, suc, pos, true, false, ◌||◌, map, length, reverse, ◌⊎◌, List, [], ◌∷◌, ◌++◌, Option, Some, None, Ok, refl, sym, ap, ◌∙◌, subst, arith, append-nil, append_assoc, reverse-append, map-append}
use Rattle.core_soundness.proofs.Words.Trees.{name_of, Tree, Trees, Leaf, At, Node, none, ◌▹◌}
use Rattle.core_soundness.proofs.Words.Types.{TagTable, PlainType, PlainTypes, Function, first, line_of, typed, wanted, PlainNamed, after_declaration, Table, Layer, ArrayOf, FunctionOf, special_type, array_length, layered, with_layers, with_param_layers, adjusted, is_record, is_function, is_array}
use Rattle.core_soundness.proofs.Words.Core.{Sort, sort_of, Atom}
use Rattle.core_soundness.proofs.Words.Elaborating.{Context, Running, asked, told, entered, Spot, write, maybe_name, member, param, left_params, specs, words_type, tag_type, members, member_names, layers, suffix_layers, suffix_layer, params, is_pointer, declared_as, with_register, with_named, with_param}
use Rattle.core_soundness.proofs.Words.Facts.{type_sort, param_sorts}
use Rattle.c_types.specs.Types as types
use Rattle.c_tree.specs.Forms as f
use Rattle.c_decls.specs.TypeNames.{PointerTo}
use Rattle.elaboration.specs.Declarators as d
use Rattle.elaboration.specs.Declarators.{begun}
use Rattle.core_soundness.proofs.Agreeing.{came}
use Rattle.core_soundness.proofs.Declaring.{levels_refl, param_levels, layers_level, suffix_levels}
use Rattle.core_soundness.proofs.Growth.{ok_same, never, behind_test, Reached, reached_ok}
use Rattle.core_soundness.proofs.Walks.{Tagging, Enumerates, begun_keeps, ended_keeps, enum_named_keeps, enumerators_keep, with_type_keeps, members_keep_one}
use Rattle.core_soundness.proofs.TagSorts.{typed_after, wanted_after, special_after}
use Rattle.core_soundness.proofs.LayersRun.{Aside, aside_refl, own_params, specs_beside, layers_beside}
use Rattle.core_soundness.proofs.Sorting.{passed, kept_test}

-- the registers that declarators make: those of the parameters of their function layer, in order (C99 6.7.5.3, 6.9.1)

-- the sorts of the parameters and locals so far
abbrev pub sorts : Context → List Sort
sorts c = map sort_of c.running.locals

-- layers of functions, and the sorts of their parameters

abbrev pub functions : List Layer → ℕ
functions [] = 0
functions (FunctionOf line params ∷ ls) = suc (functions ls)
functions (PointerTo line ∷ ls) = functions ls
functions (ArrayOf line length ∷ ls) = functions ls

abbrev pub function_sorts : List Layer → List Sort
function_sorts [] = []
function_sorts (FunctionOf line params ∷ ls) = param_sorts params ++ function_sorts ls
function_sorts (PointerTo line ∷ ls) = function_sorts ls
function_sorts (ArrayOf line length ∷ ls) = function_sorts ls

reverse_one : (x : Layer) (ls : List Layer) → reverse (x ∷ ls) ≡ reverse ls ++ x ∷ []
reverse_one x ls = reverse-append (x ∷ []) ls

pub functions_joined : (a b : List Layer) → functions (a ++ b) ≡ functions a + functions b
functions_joined [] b = omega arith
functions_joined (FunctionOf line params ∷ ls) b = omega (arith, functions_joined ls b)
functions_joined (PointerTo line ∷ ls) b = functions_joined ls b
functions_joined (ArrayOf line length ∷ ls) b = functions_joined ls b

sorts_joined : (a b : List Layer) → function_sorts (a ++ b) ≡ function_sorts a ++ function_sorts b
sorts_joined [] b = refl
sorts_joined (FunctionOf line params ∷ ls) b = ap (λ (s : List Sort). param_sorts params ++ s) (sorts_joined ls b) ∙ sym (append_assoc (param_sorts params) (function_sorts ls) (function_sorts b))
sorts_joined (PointerTo line ∷ ls) b = sorts_joined ls b
sorts_joined (ArrayOf line length ∷ ls) b = sorts_joined ls b

sorts_none : (a : List Layer) → functions a ≡ 0 → function_sorts a ≡ []
sorts_none [] e = refl
sorts_none (FunctionOf line params ∷ ls) e = absurd (omega (arith, e))
sorts_none (PointerTo line ∷ ls) e = sorts_none ls e
sorts_none (ArrayOf line length ∷ ls) e = sorts_none ls e

pub functions_one : (x : Layer) (ls : List Layer) → functions (x ∷ ls) ≡ functions (x ∷ []) + functions ls
functions_one x ls = search arith fits 100

sorts_one : (x : Layer) (ls : List Layer) → function_sorts (x ∷ ls) ≡ function_sorts (x ∷ []) ++ function_sorts ls
sorts_one x ls = search (arith, append-nil) fits 100

pub functions_reversed : (a : List Layer) → functions (reverse a) ≡ functions a
functions_reversed [] = refl
functions_reversed (x ∷ ls) =
    ap functions (reverse_one x ls) ∙ functions_joined (reverse ls) (x ∷ []) ∙ (let e = functions_reversed ls in omega (arith, e, functions_one x ls))

sorts_reversed : (a : List Layer) → functions a ≤ 1 → function_sorts (reverse a) ≡ function_sorts a
sorts_reversed [] h = refl
sorts_reversed (FunctionOf line params ∷ ls) h = search (arith, reverse_one, sorts_joined, sorts_none, functions_reversed)
sorts_reversed (PointerTo line ∷ ls) h = ap function_sorts (reverse_one (PointerTo line) ls) ∙ sorts_joined (reverse ls) (PointerTo line ∷ []) ∙ append-nil (function_sorts (reverse ls)) ∙ sorts_reversed ls h
sorts_reversed (ArrayOf line length ∷ ls) h = ap function_sorts (reverse_one (ArrayOf line length) ls) ∙ sorts_joined (reverse ls) (ArrayOf line length ∷ []) ∙ append-nil (function_sorts (reverse ls)) ∙ sorts_reversed ls h

-- the sorts that layers add, where at most one of them is a function
pub record Counts (ls : List Layer) (ss : List Sort) : Type 0 where
  pub none : functions ls ≡ 0 → ss ≡ []
  pub one : functions ls ≡ 1 → ss ≡ function_sorts ls

nil_both : (a b : List Sort) → a ≡ [] → b ≡ [] → a ++ b ≡ []
nil_both a b x y = ap (λ (s : List Sort). s ++ b) x ∙ y

nil_left : (a b t : List Sort) → a ≡ [] → b ≡ t → a ++ b ≡ t
nil_left a b t x y = ap (λ (s : List Sort). s ++ b) x ∙ y

nil_right : (a b t : List Sort) → a ≡ t → b ≡ [] → a ++ b ≡ t
nil_right a b t x y = ap (λ (s : List Sort). a ++ s) y ∙ append-nil a ∙ x

one_of : (a b : ℕ) → a + b ≡ 1 → ((a ≡ 1) × (b ≡ 0)) ⊎ ((a ≡ 0) × (b ≡ 1))
one_of a b e = search arith fits 100

counts_more : (x : Layer) (ls : List Layer) (ss ts : List Sort) → Counts (x ∷ []) ss → Counts ls ts → Counts (x ∷ ls) (ss ++ ts)
counts_more x ls ss ts a b = search (arith, nil_both, functions_one, nil_right, sorts_one, sorts_none, append-nil, nil_left, one_of)

counts_behind : (ls ms : List Layer) (ss ts : List Sort) → Counts ls ss → Counts ms ts → Counts (reverse ms ++ ls) (ss ++ ts)
counts_behind ls ms ss ts a b = search (arith, functions_joined, functions_reversed, nil_both, nil_left, sorts_joined, sorts_none, append-nil, sorts_reversed, nil_right, one_of)

-- types with layers

pub not_function : (tags : TagTable) (ls : List Layer) (base type : PlainType) → with_layers tags ls base ≡ Ok type → is_function type ≡ false → functions ls ≡ 0
not_function tags (PointerTo line ∷ ls) base type e h =
    let x = came (layered tags (PointerTo line) base) e in not_function tags ls x.value type x.last h
not_function tags (ArrayOf line length ∷ ls) base type e h =
    let x = came (layered tags (ArrayOf line length) base) e in not_function tags ls x.value type x.last h
not_function tags ls base type e h = search (arith, came, passed, ok_same) fits 100

-- the function that layers make
pub record MakesFunction (ls : List Layer) (answer : PlainType) (ps : PlainTypes) : Type 0 where
  pub single : functions ls ≡ 1
  pub sorts : function_sorts ls ≡ param_sorts ps
  pub plain : (is_array answer || is_function answer || is_record answer) ≡ false

pub makes_function : (tags : TagTable) (ls : List Layer) (base answer : PlainType) (ps : PlainTypes) → with_layers tags ls base ≡ Ok (Function answer ps) → 1 ≤ functions ls → MakesFunction ls answer ps
makes_function tags (PointerTo line ∷ ls) base answer ps e h =
    let x = came (layered tags (PointerTo line) base) e in
    let m = makes_function tags ls x.value answer ps x.last h in record { single = m.single; sorts = m.sorts; plain = m.plain }
makes_function tags (ArrayOf line length ∷ ls) base answer ps e h =
    let x = came (layered tags (ArrayOf line length) base) e in
    let m = makes_function tags ls x.value answer ps x.last h in record { single = m.single; sorts = m.sorts; plain = m.plain }
makes_function tags ls base answer ps e h = search (arith, came, passed, kept_test, ok_same, append-nil) fits 100

-- a parameter has a register
write_sorts : (line : ℕ) (type : PlainType) (spot : Spot) (a : Atom) (c : Context) → sorts (write line type spot a c) ≡ sorts c
unfolding write
write_sorts line type spot a c = search arith fits 100

one_register : (name : Option (List ℕ)) (type : PlainType) (c : Context) → sorts (with_register name type c) ≡ sorts c ++ type_sort type ∷ []
one_register name type c = map-append sort_of c.running.locals (record { name = name; pointer = is_pointer type } ∷ [])

named_sorts : (name : Option (List ℕ)) (v : PlainNamed) (c : Context) → sorts (with_named name v c) ≡ sorts c
named_sorts name v c = search arith fits 100

with_param_sorts : (name : Option (List ℕ)) (type : PlainType) (c : Context) → length c.scopes.inner ≡ 1 → sorts (with_param name type c) ≡ sorts c ++ type_sort type ∷ []
with_param_sorts name type c deep = grind (arith, own_params, true, write_sorts, named_sorts, one_register, false)

-- a parameter has a register of its sort
record Parameter (type : PlainType) (c : Context) (z : Context × PlainType) : Type 0 where
  same : z.1 ≡ type
  added : sorts z.0 ≡ sorts c ++ type_sort type ∷ []

param_added : (line : ℕ) (name : Option (List ℕ)) (type : PlainType) (c : Context) (z : Context × PlainType) → length c.scopes.inner ≡ 1 → param line name type c ≡ Ok z → Parameter type c z
param_added line name type c z deep q = search (arith, behind_test, passed, with_param_sorts)

-- what stands inside a scope adds none
aside_sorts : (c d : Context) → Aside c d → sorts d ≡ sorts c
aside_sorts c d p = ap (λ (run : Running). map sort_of run.locals) p.running

-- what is added to the registers, and what layers say of it
pub record Adds (c d : Context) (ss : List Sort) : Type 0 where
  pub added : sorts d ≡ sorts c ++ ss

adds_none : (c d : Context) → sorts d ≡ sorts c → Adds c d []
adds_none c d e = record { added = e ∙ sym (append-nil (sorts c)) }

adds_trans : (a b c : Context) (ss ts : List Sort) → Adds a b ss → Adds b c ts → Adds a c (ss ++ ts)
adds_trans a b c ss ts x y = record { added = y.added ∙ ap (λ (l : List Sort). l ++ ts) x.added ∙ append_assoc (sorts a) ss ts }

pub record Layered (c : Context) (z : Context × List Layer) : Type 0 where
  pub sorts_of : List Sort
  pub adds : Adds c z.0 sorts_of
  pub counts : Counts z.1 sorts_of

record Single (c : Context) (z : Context × Layer) : Type 0 where
  sorts_of : List Sort
  adds : Adds c z.0 sorts_of
  counts : Counts (z.1 ∷ []) sorts_of

no_layers : (c : Context) (z : Context × List Layer) → (c, []) ≡ z → Layered c z
no_layers c z e = subst (Layered c) e (record { sorts_of = []; adds = adds_none c c refl; counts = record { none = λ h. refl; one = λ h. refl } })

single_none : (c : Context) (z : Context × Layer) → sorts z.0 ≡ sorts c → functions (z.1 ∷ []) ≡ 0 → Single c z
single_none c z e h = record { sorts_of = []; adds = adds_none c z.0 e; counts = record { none = λ k. refl; one = λ k. absurd (omega (arith, h, k)) } }

mutual
  unfolding layers suffix_layers suffix_layer params

  pub layers_added : (tree : Tree) (c : Context) (z : Context × List Layer) → length c.scopes.inner ≡ 0 → layers tree c ≡ Ok z → Layered c z
  layers_added (Node (f.Pointer consts) (At line ▹ declarator ▹ none)) c z flat q =
      let l = came (layers declarator c) q in
      let h = layers_added declarator c l.value flat l.is in
      subst (Layered c) (ok_same (l.value.0, PointerTo line ∷ l.value.1) z l.last) (record { sorts_of = h.sorts_of; adds = h.adds; counts = record { none = λ e. h.counts.none e; one = λ e. h.counts.one e } })
  layers_added (Node f.Direct (base ▹ Node f.Suffixes suffixes ▹ none)) c z flat q =
      let l = came (layers base c) q in
      let s = came (suffix_layers suffixes l.value.0) l.last in
      let a = layers_added base c l.value flat l.is in
      let b = suffixes_added suffixes l.value.0 s.value ((layers_level base c c (levels_refl c) l.value l.is).depth ∙ flat) s.is in
      subst (Layered c) (ok_same (s.value.0, reverse s.value.1 ++ l.value.1) z s.last)
      (record { sorts_of = a.sorts_of ++ b.sorts_of; adds = adds_trans c l.value.0 s.value.0 a.sorts_of b.sorts_of a.adds b.adds; counts = counts_behind l.value.1 s.value.1 a.sorts_of b.sorts_of a.counts b.counts })
  layers_added (Node f.Parens (At line ▹ declarator ▹ none)) c z flat q = layers_added declarator c z flat q
  layers_added tree c z flat q = no_layers c z (ok_same (c, []) z q)

  suffixes_added : (parts : Trees) (c : Context) (z : Context × List Layer) → length c.scopes.inner ≡ 0 → suffix_layers parts c ≡ Ok z → Layered c z
  suffixes_added none c z flat q = no_layers c z (ok_same (c, []) z q)
  suffixes_added (suffix ▹ rest) c z flat q =
      let l = came (suffix_layer suffix c) q in
      let m = came (suffix_layers rest l.value.0) l.last in
      let a = suffix_added suffix c l.value flat l.is in
      let b = suffixes_added rest l.value.0 m.value ((suffix_levels suffix c c (levels_refl c) l.value l.is).depth ∙ flat) m.is in
      subst (Layered c) (ok_same (m.value.0, l.value.1 ∷ m.value.1) z m.last)
      (record { sorts_of = a.sorts_of ++ b.sorts_of; adds = adds_trans c l.value.0 m.value.0 a.sorts_of b.sorts_of a.adds b.adds; counts = counts_more l.value.1 m.value.1 a.sorts_of b.sorts_of a.counts b.counts })

  suffix_added : (tree : Tree) (c : Context) (z : Context × Layer) → length c.scopes.inner ≡ 0 → suffix_layer tree c ≡ Ok z → Single c z
  suffix_added (Node f.ArraySuffix (At line ▹ Node f.MaybeLength none ▹ none)) c z flat q = subst (Single c) (ok_same (c, ArrayOf line None) z q) (single_none c (c, ArrayOf line None) refl refl)
  suffix_added (Node f.ArraySuffix (At line ▹ Node f.MaybeLength (e ▹ none) ▹ none)) c z flat q =
      let x = came (wanted e (typed e (asked c))) q in
      let k = came (array_length (line_of e) x.value.1) x.last in
      subst (Single c) (ok_same (told x.value.0 c, ArrayOf line (Some k.value)) z k.last) (single_none c (told x.value.0 c, ArrayOf line (Some k.value)) refl refl)
  suffix_added (Node f.FunctionSuffix (At line ▹ Node f.Params parts ▹ none)) c z flat q =
      let p = came (params parts (entered c)) q in
      let a = params_added parts (entered c) p.value (omega (arith, flat)) p.is in
      subst (Single c) (ok_same (left_params p.value.0, FunctionOf line p.value.1) z p.last)
      (record { sorts_of = param_sorts p.value.1; adds = record { added = a.added }; counts = record { none = λ e. absurd (omega (arith, e)); one = λ e. sym (append-nil (param_sorts p.value.1)) } })
  suffix_added tree c z flat q =
      subst (Single c) (ok_same (record c { params = [] }, FunctionOf (line_of tree) types.none) z q)
      (record { sorts_of = []; adds = record { added = sym (append-nil (sorts c)) }; counts = record { none = λ e. refl; one = λ e. refl } })

  params_added : (parts : Trees) (c : Context) (z : Context × PlainTypes) → length c.scopes.inner ≡ 1 → params parts c ≡ Ok z → Adds c z.0 (param_sorts z.1)
  params_added none c z deep q = subst (λ (y : Context × PlainTypes). Adds c y.0 (param_sorts y.1)) (ok_same (c, types.none) z q) (adds_none c c refl)
  params_added (Node f.Param (At line ▹ words ▹ declarator ▹ none) ▹ rest) c z deep q =
      let base = came (specs words c) q in
      let l = came (layers declarator base.value.0) base.last in
      let t = came (with_param_layers l.value.0.tags l.value.1 base.value.1) l.last in
      let p = came (param line (name_of declarator) (adjusted t.value) l.value.0) t.last in
      let m = came (params rest p.value.0) p.last in
      let inside = specs_beside words c (omega (arith, deep)) c (aside_refl c) base.value base.is in
      let around = layers_beside declarator c (omega (arith, deep)) base.value.0 inside l.value l.is in
      let one = param_added line (name_of declarator) (adjusted t.value) l.value.0 p.value (around.depth ∙ deep) p.is in
      let more = (param_levels line (name_of declarator) (adjusted t.value) l.value.0 l.value.0 (omega (arith, deep, around.depth)) (levels_refl l.value.0) p.value p.is).depth ∙ around.depth ∙ deep in
      let here : Adds c p.value.0 (type_sort p.value.1 ∷ []) = record { added = one.added ∙ ap (λ (s : List Sort). s ++ type_sort (adjusted t.value) ∷ []) (aside_sorts c l.value.0 around) ∙ ap (λ (x : PlainType). sorts c ++ type_sort x ∷ []) (sym one.same) } in
      subst (λ (y : Context × PlainTypes). Adds c y.0 (param_sorts y.1)) (ok_same (m.value.0, first p.value.1 m.value.1) z m.last)
      (adds_trans c p.value.0 m.value.0 (type_sort p.value.1 ∷ []) (param_sorts m.value.1) here (params_added rest p.value.0 m.value more m.is))
  params_added (tree ▹ rest) c z deep q = never _ _ z q

-- specs, and layers with no function among them, add no parameter and have no list: what tags and constants keep, they keep

module _ (R : Context → Context → Type 0) (tag : Tagging R) (adds : Enumerates R) where
  mutual
    unfolding specs words_type tag_type members member_names layers suffix_layers suffix_layer

    pub specs_plain : (tree : Tree) (c : Context) → Reached (R c) (specs tree c)
    specs_plain (Node f.Specs (At line ▹ words)) c z q = words_plain words line words c z q
    specs_plain tree c z q = never _ _ z q

    words_plain : (rest : Trees) (line : ℕ) (words : Trees) (c : Context) → Reached (R c) (words_type line words rest c)
    words_plain none line words c z q = reached_ok (R c) (tag.stop c) z q
    words_plain (Leaf word ▹ rest) line words c z q = words_plain rest line words c z q
    words_plain (At at ▹ rest) line words c z q = words_plain rest line words c z q
    words_plain (Node form parts ▹ rest) line words c z q = tag_plain (Node form parts) line c z q

    tag_plain : (tree : Tree) (line : ℕ) (c : Context) → Reached (R c) (tag_type line tree c)
    tag_plain (Node (f.RecordBody sort) (At at ▹ Node f.MaybeName name ▹ Node f.Members parts ▹ none)) line c z q =
        let start = begun sort (maybe_name name) c in
        let m = came (members parts [] start.0) q in
        tag.join c start.0 z.0 (begun_keeps R tag sort (maybe_name name) c) (tag.join start.0 m.value.0 z.0 (members_plain parts [] start.0 m.value m.is) (ended_keeps R tag at sort start.1 m.value.0 m.value.1 z m.last))
    tag_plain (Node (f.EnumBody trailing) (At at ▹ Node f.MaybeName name ▹ Node f.Enumerators parts ▹ none)) line c z q = search (arith, came, pos, enumerators_keep, enum_named_keeps)
    tag_plain tree line c z q = with_type_keeps R tag (special_type line tree (asked c)) c (special_after line tree (asked c)) z q

    members_plain : (parts : Trees) (list : d.Members) (c : Context) → Reached (R c) (members parts list c)
    members_plain none list c z q = reached_ok (R c) (tag.stop c) z q
    members_plain (Node f.Member (At line ▹ words ▹ Node f.MemberNames declarators ▹ none) ▹ rest) list c z q =
        let base = came (specs words c) q in
        let m = came (member_names line base.value.1 declarators list base.value.0) base.last in
        tag.join c base.value.0 z.0 (specs_plain words c base.value base.is)
        (tag.join base.value.0 m.value.0 z.0 (member_names_plain declarators line base.value.1 list base.value.0 m.value m.is) (members_plain rest m.value.1 m.value.0 z m.last))
    members_plain (tree ▹ rest) list c z q = never _ _ z q

    member_names_plain : (parts : Trees) (line : ℕ) (base : PlainType) (list : d.Members) (c : Context) → Reached (R c) (member_names line base parts list c)
    member_names_plain none line base list c z q = reached_ok (R c) (tag.stop c) z q
    member_names_plain (declarator ▹ rest) line base list c z q =
        let l = came (layers declarator c) q in
        let t = came (with_layers l.value.0.tags l.value.1 base) l.last in
        let m = came (member line (name_of declarator) t.value list l.value.0) t.last in
        let one = layers_plain declarator c l.value l.is (not_function l.value.0.tags l.value.1 base t.value t.is (search (arith, kept_test))) in
        tag.join c l.value.0 z.0 one (tag.join l.value.0 m.value.0 z.0 (members_keep_one R tag line (name_of declarator) t.value list l.value.0 m.value m.is) (member_names_plain rest line base m.value.1 m.value.0 z m.last))

    layers_plain : (tree : Tree) (c : Context) (z : Context × List Layer) → layers tree c ≡ Ok z → functions z.1 ≡ 0 → R c z.0
    layers_plain (Node (f.Pointer consts) (At line ▹ declarator ▹ none)) c z q n =
        let l = came (layers declarator c) q in
        let same = ok_same (l.value.0, PointerTo line ∷ l.value.1) z l.last in
        subst (λ (y : Context × List Layer). R c y.0) same (layers_plain declarator c l.value l.is (ap (λ (y : Context × List Layer). functions y.1) same ∙ n))
    layers_plain (Node f.Direct (base ▹ Node f.Suffixes suffixes ▹ none)) c z q n =
        let l = came (layers base c) q in
        let s = came (suffix_layers suffixes l.value.0) l.last in
        let same = ok_same (s.value.0, reverse s.value.1 ++ l.value.1) z s.last in
        let sum : functions s.value.1 + functions l.value.1 ≡ 0 = ap (λ (k : ℕ). k + functions l.value.1) (sym (functions_reversed s.value.1)) ∙ sym (functions_joined (reverse s.value.1) l.value.1) ∙ ap (λ (y : Context × List Layer). functions y.1) same ∙ n in
        subst (λ (y : Context × List Layer). R c y.0) same (tag.join c l.value.0 s.value.0 (layers_plain base c l.value l.is (omega (arith, sum))) (suffixes_plain suffixes l.value.0 s.value s.is (omega (arith, sum))))
    layers_plain (Node f.Parens (At line ▹ declarator ▹ none)) c z q n = layers_plain declarator c z q n
    layers_plain tree c z q n = reached_ok (R c) (tag.stop c) z q

    pub suffixes_plain : (parts : Trees) (c : Context) (z : Context × List Layer) → suffix_layers parts c ≡ Ok z → functions z.1 ≡ 0 → R c z.0
    suffixes_plain none c z q n = reached_ok (R c) (tag.stop c) z q
    suffixes_plain (suffix ▹ rest) c z q n =
        let l = came (suffix_layer suffix c) q in
        let m = came (suffix_layers rest l.value.0) l.last in
        let same = ok_same (m.value.0, l.value.1 ∷ m.value.1) z m.last in
        let sum : functions (l.value.1 ∷ []) + functions m.value.1 ≡ 0 = sym (functions_one l.value.1 m.value.1) ∙ ap (λ (y : Context × List Layer). functions y.1) same ∙ n in
        subst (λ (y : Context × List Layer). R c y.0) same (tag.join c l.value.0 m.value.0 (suffix_plain suffix c l.value l.is (omega (arith, sum))) (suffixes_plain rest l.value.0 m.value m.is (omega (arith, sum))))

    suffix_plain : (tree : Tree) (c : Context) (z : Context × Layer) → suffix_layer tree c ≡ Ok z → functions (z.1 ∷ []) ≡ 0 → R c z.0
    suffix_plain (Node f.ArraySuffix (At line ▹ Node f.MaybeLength none ▹ none)) c z q n = reached_ok (R c) (tag.stop c) z q
    suffix_plain (Node f.ArraySuffix (At line ▹ Node f.MaybeLength (e ▹ none) ▹ none)) c z q n =
        let x = came (wanted e (typed e (asked c))) q in
        let k = came (array_length (line_of e) x.value.1) x.last in
        reached_ok (R c) (tag.tells x.value.0 c (wanted_after (asked c) e (typed e (asked c)) (typed_after e (asked c)) x.value x.is)) z k.last
    suffix_plain (Node f.FunctionSuffix (At line ▹ Node f.Params parts ▹ none)) c z q n = search (arith, came, ok_same)
    suffix_plain tree c z q n = search (arith, ok_same)

-- what is the same of two contexts
abbrev Alike : {A : Type 0} → (Context → A) → Context → Context → Type 0
Alike f c d = f d ≡ f c

-- so no parameter and no local is declared, no address is taken, and the parameters of the list that ended last stay

abbrev pub counts : Context → ℕ × List ℕ × Table
counts c = (c.running.declared, c.running.addressed, c.params)

counts_tags : Tagging (Alike counts)
counts_tags = record { stop = λ c. refl; join = λ a b c x y. y ∙ x; tells = λ t c m. refl; retags = λ tags c. refl; names = λ name c. refl }

pub specs_counts : (tree : Tree) (c : Context) → Reached (Alike counts c) (specs tree c)
specs_counts tree c z q = specs_plain (Alike counts) counts_tags (λ name value c. refl) tree c z q

pub suffixes_counts : (parts : Trees) (c : Context) (z : Context × List Layer) → suffix_layers parts c ≡ Ok z → functions z.1 ≡ 0 → counts z.0 ≡ counts c
suffixes_counts parts c z q n = suffixes_plain (Alike counts) counts_tags (λ name value c. refl) parts c z q n

pub declared_counts : (line : ℕ) (name : List ℕ) (v : PlainNamed) (c z : Context) → declared_as line name v c ≡ Ok z → counts z ≡ counts c
declared_counts line name v c z q = ap counts (sym (passed _ _ line (record c { scopes = after_declaration c.scopes name v }) z q))

pub specs_sorts : (tree : Tree) (c : Context) → Reached (Alike sorts c) (specs tree c)
specs_sorts tree c z q = specs_plain (Alike sorts) (record { stop = λ c. refl; join = λ a b c x y. y ∙ x; tells = λ t c m. refl; retags = λ tags c. refl; names = λ name c. refl }) (λ name value c. refl) tree c z q
