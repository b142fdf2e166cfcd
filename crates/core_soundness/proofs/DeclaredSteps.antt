-- Declarators and declarations go in step with the walk over addresses.
use Rattle.core_soundness.proofs.Words.Std.{◌≡◌, ◌||◌, ℕ, suc, ℤ, pos, ◌+ℤ◌, false, is_some, length, reverse, List, [], ◌∷◌, ◌++◌, Option, Some, None, Ok, refl, sym, ap, ◌∙◌, subst, Bool, true, IsSome, ◌≤◌, ◌+◌, arith, option_or}
use Rattle.core_soundness.proofs.Words.Trees.{shape, name_of, places, name_among, has_typedef, is_scope, leads_to_name, suffix_params, params_of, params_among, Tree, Trees, Leaf, At, Node, none, ◌▹◌, count, RecordSort}
use Rattle.core_soundness.proofs.Words.Types.{PlainType, PlainTypes, first, line_of, typed, wanted, PlainNamed, Checked, unless, named_in, innermost, tag_name, Table, found_from, Layer, ArrayOf, FunctionOf, word_type, special_type, array_length, with_layers, with_param_layers, adjusted, tag_named, is_void, is_record, is_function, has_no_size, DeclaredTwice, Incomplete, LeftOut}
use Rattle.core_soundness.proofs.Words.Core.{wrapped, I32}
use Rattle.core_soundness.proofs.Words.Elaborating.{Taken, left_scope, taken, all_taken, with_known, declare, nothing_taken, params_taken, Context, asked, told, entered, Spot, Storage, Typedef, Outside, storage_of, specs_alone, specs_before, fill_local, local_object, local_name, name_in, entry, entries, declaration, declared_function, constant, with_type, maybe_name, member, enumerator, is_declared, param, left_params, specs, words_type, tag_type, members, member_names, enumerators, layers, suffix_layers, suffix_layer, params, body_begun, with_init_layers, declared_as, with_param, is_twice, with_local}
use Rattle.core_soundness.proofs.Words.Facts.{AllSpoken, is_register, World, world, FileFits, Written, AllWritten, TableFits}
use Rattle.c_types.specs.Types as types
use Rattle.c_types.specs.declared.types.IntType.TheVariants as i
use Rattle.c_tree.specs.Forms as f
use Rattle.c_tree.specs.Places as p
use Rattle.c_tree.specs.Words as w
use Rattle.c_decls.specs.Named as n
use Rattle.c_decls.specs.TypeNames.{PointerTo}
use Rattle.elaboration.specs.Addressed as walk
use Rattle.elaboration.specs.Addressed.{left}
use Rattle.elaboration.specs.Context as context
use Rattle.elaboration.specs.Declarations as storages
use Rattle.elaboration.specs.Declarators as d
use Rattle.elaboration.specs.Declarators.{begun}
use Rattle.core_soundness.proofs.Agreeing.{came}
use Rattle.core_soundness.proofs.Declaring.{tail_depth}
use Rattle.core_soundness.proofs.Formed.{NoNodes, OneNode, IsLayer, AreLayers, IsSuffix, AreSuffixes, Shaped, Formed, AllFormed, of_typedefs, NoInits}
use Rattle.core_soundness.proofs.Growth.{good, ok_same, never, behind_test}
use Rattle.core_soundness.proofs.Keeping.{shows_first, typed_calm, special_still, keeps_refl, told_keeps, keeps_tags, keeps_stepped, stepped_refl, stepped_trans, stepped_names, stepped_scope, constant_calm, keeps_follows}
use Rattle.core_soundness.proofs.LocalsRun.{LocalSpoken, EntrySpoken, EntriesSpoken, DeclarationSpoken}
use Rattle.core_soundness.proofs.Walks.{constant_keeps, with_type_keeps, begun_keeps, ended_keeps, enum_named_keeps}
use Rattle.core_soundness.proofs.Parameters.{functions, functions_joined, functions_one, functions_reversed, counts, declared_counts, suffixes_counts}
use Rattle.core_soundness.proofs.Scopes.{file_register, HasScope, scope_more}
use Rattle.core_soundness.proofs.Sorting.{passed}
use Rattle.core_soundness.proofs.Steps.{with_one, IsNew, plain_stepped, param_stepped, no_nodes_each, specs_taken, pointer_taken, direct_taken, specs_unnamed, param_taken, local_stepped, commas_each, local_went, inits_spoken, member_names_taken, members_taken, enumerators_taken, params_taken_each}
use Rattle.core_soundness.proofs.TagSorts.{typed_after, wanted_after, special_after, tag_after}
use Rattle.core_soundness.proofs.Taking.{among, Keeps, Follows, Stepped, each, Calm, still_names, all_still_names, left_names, no_nodes_still, Has, Inside, taken_adds, InStep, as_before, Numbered, file_none}
use Rattle.core_soundness.proofs.Choices.{either_way, some_same}

-- specs, tags with braces and declarators go in step (C99 6.7.2, 6.7.5)

-- what declares nothing
kept_stepped : (t : Taken) (c d : Context) → Keeps c d → Follows t c → Stepped t c t d
kept_stepped t c d k h = keeps_stepped t t c d (refl, refl) k h

pub calm_stepped : (e : Tree) (t : Taken) (c d : Context) → Calm e → Keeps c d → Follows t c → Stepped t c (taken e t) d
calm_stepped e t c d x k h = keeps_stepped t (taken e t) c d (still_names e t x.still) k h

-- a scope that is left
pub left_stepped : (t u : Taken) (c d : Context) → Follows t c → Stepped t (entered c) u d → Stepped t c (left_scope t u) (context.left d)
left_stepped t u c d h x = record {
  follows = (x.follows.0, λ name e. let a = h.1 name (x.outside 0 name e) in (a.0, a.1, ap (λ (l : List ℕ). among a.0 l) x.addressed ∙ a.2));
  addressed = x.addressed;
  depth = tail_depth d.scopes.inner (length c.scopes.inner) x.depth;
  outside = λ k. x.outside (suc k);
}

-- tags

special_stepped : (line : ℕ) (tree : Tree) (t : Taken) (c : Context) (z : Context × PlainType) → Follows t c → with_type (special_type line tree (asked c)) c ≡ Ok z → Stepped t c (taken tree t) z.0
special_stepped line tree t c z h q =
    let x = came (special_type line tree (asked c)) q in
    keeps_stepped t (taken tree t) c z.0 (still_names tree t (special_still line tree (asked c) x.value x.is))
    (with_type_keeps Keeps keeps_tags (special_type line tree (asked c)) c (special_after line tree (asked c)) z q) h

named_stepped : (name : Trees) (t : Taken) (c d : Context) → NoNodes name → Keeps c d → Follows t c → Stepped t c (taken (Node f.MaybeName name) t) d
unfolding taken
named_stepped name t c d o k h = keeps_stepped t (taken (Node f.MaybeName name) t) c d (left_names f.MaybeName name t (all_taken name (places (shape f.MaybeName (count name))) t) refl (all_still_names name (places (shape f.MaybeName (count name))) t (no_nodes_still name o))) k h

-- members and enumerators

enumerator_stepped : (line : ℕ) (name : List ℕ) (v : ℤ) (t : Taken) (c : Context) (z : Context × ℤ) → Follows t c → enumerator line name v c ≡ Ok z → Stepped t c (with_one name None t) z.0
enumerator_stepped line name v t c z h q =
    let x = came (declared_as line name (n.Constant i.Int (wrapped I32 v)) c) q in
    subst (λ (y : Context × ℤ). Stepped t c (with_one name None t) y.0) (ok_same (x.value, wrapped I32 v +ℤ pos 1) z x.last)
    (plain_stepped line name (n.Constant i.Int (wrapped I32 v)) t c x.value refl h x.is)

-- parameters

param_stepped_in : (line : ℕ) (name : Option (List ℕ)) (type : PlainType) (t : Taken) (c : Context) (z : Context × PlainType) → HasScope c.scopes.inner → Follows t c → param line name type c ≡ Ok z → Stepped t c (walk.with_local name t) z.0
param_stepped_in line name type t c z deep h q =
    let r2 : Checked (Context × PlainType) = unless (is_declared name c) DeclaredTwice line (good (with_param name type c, type)) in
    let r1 : Checked (Context × PlainType) = unless (is_record type || is_function type) LeftOut line r2 in
    let a = behind_test (is_void type) Incomplete line r1 z q in
    let b = behind_test (is_record type || is_function type) LeftOut line r2 z a in
    let fresh : IsNew name c = search (arith, is_some) fits 100 in
    subst (λ (y : Context × PlainType). Stepped t c (walk.with_local name t) y.0) (passed (is_declared name c) DeclaredTwice line (with_param name type c, type) z b) (param_stepped name type t c deep fresh h)

mutual
  unfolding specs words_type tag_type members member_names enumerators layers suffix_layers suffix_layer params Formed AllFormed Shaped each taken all_taken left shape is_scope name_among name_of

  pub specs_stepped : (tree : Tree) (t : Taken) (c : Context) (z : Context × PlainType) → Formed tree → Follows t c → specs tree c ≡ Ok z → Stepped t c (taken tree t) z.0
  specs_stepped (Node f.Specs (At line ▹ words)) t c z g h q =
      stepped_names t (each words t) (taken (Node f.Specs (At line ▹ words)) t) c z.0 (specs_taken words t line) (words_stepped words line words t c z g.0 g.1.1 h q)
  specs_stepped tree t c z g h q = never _ _ z q

  words_stepped : (rest : Trees) (line : ℕ) (words : Trees) (t : Taken) (c : Context) (z : Context × PlainType) → OneNode rest → AllFormed rest → Follows t c → words_type line words rest c ≡ Ok z → Stepped t c (each rest t) z.0
  words_stepped none line words t c z o g h q = subst (λ (y : Context × PlainType). Stepped t c t y.0) (ok_same (c, word_type words) z q) (stepped_refl t c h)
  words_stepped (Leaf word ▹ rest) line words t c z o g h q = words_stepped rest line words t c z o g.1 h q
  words_stepped (At at ▹ rest) line words t c z o g h q = words_stepped rest line words t c z o g.1 h q
  words_stepped (Node form parts ▹ rest) line words t c z o g h q =
      subst (λ (v : Taken). Stepped t c v z.0) (sym (no_nodes_each rest (taken (Node form parts) t) o)) (tag_stepped (Node form parts) line t c z g.0 h q)

  tag_stepped : (tree : Tree) (line : ℕ) (t : Taken) (c : Context) (z : Context × PlainType) → Formed tree → Follows t c → tag_type line tree c ≡ Ok z → Stepped t c (taken tree t) z.0
  tag_stepped (Node (f.RecordBody sort) (At at ▹ Node f.MaybeName name ▹ Node f.Members parts ▹ none)) line t c z g h q =
      let start = begun sort (maybe_name name) c in
      let m = came (members parts [] start.0) q in
      let t1 = taken (Node f.MaybeName name) t in
      let a = named_stepped name t c start.0 g.1.1.0.0 (begun_keeps Keeps keeps_tags sort (maybe_name name) c) h in
      let b = members_stepped parts [] t1 start.0 m.value g.1.1.1.0.1 a.follows m.is in
      let e = kept_stepped (each parts t1) m.value.0 z.0 (ended_keeps Keeps keeps_tags at sort start.1 m.value.0 m.value.1 z m.last) b.follows in
      stepped_names t (each parts t1) (taken (Node (f.RecordBody sort) (At at ▹ Node f.MaybeName name ▹ Node f.Members parts ▹ none)) t) c z.0 (members_taken parts t1)
      (stepped_trans t t1 (each parts t1) c start.0 z.0 a (stepped_trans t1 (each parts t1) (each parts t1) start.0 m.value.0 z.0 b e))
  tag_stepped (Node (f.EnumBody trailing) (At at ▹ Node f.MaybeName name ▹ Node f.Enumerators parts ▹ none)) line t c z g h q =
      let e = came (enumerators parts (pos 0) c) q in
      let t1 = taken (Node f.MaybeName name) t in
      let a = named_stepped name t c c g.1.1.0.0 (keeps_refl c) h in
      let b = enumerators_stepped parts (pos 0) t1 c e.value g.1.1.1.0.1 a.follows e.is in
      let k = kept_stepped (each parts t1) e.value z.0 (enum_named_keeps Keeps keeps_tags at (maybe_name name) e.value z e.last) b.follows in
      stepped_names t (each parts t1) (taken (Node (f.EnumBody trailing) (At at ▹ Node f.MaybeName name ▹ Node f.Enumerators parts ▹ none)) t) c z.0 (enumerators_taken parts t1)
      (stepped_trans t t1 (each parts t1) c c z.0 a (stepped_trans t1 (each parts t1) (each parts t1) c e.value z.0 b k))
  tag_stepped tree line t c z g h q = special_stepped line tree t c z h q

  members_stepped : (parts : Trees) (list : d.Members) (t : Taken) (c : Context) (z : Context × d.Members) → AllFormed parts → Follows t c → members parts list c ≡ Ok z → Stepped t c (each parts t) z.0
  members_stepped none list t c z g h q = subst (λ (y : Context × d.Members). Stepped t c t y.0) (ok_same (c, list) z q) (stepped_refl t c h)
  members_stepped (Node f.Member (At line ▹ words ▹ Node f.MemberNames declarators ▹ none) ▹ rest) list t c z g h q =
      let base = came (specs words c) q in
      let m = came (member_names line base.value.1 declarators list base.value.0) base.last in
      let t1 = taken words t in
      let t2 = each declarators t1 in
      let t3 = taken (Node f.Member (At line ▹ words ▹ Node f.MemberNames declarators ▹ none)) t in
      let a = specs_stepped words t c base.value g.0.1.1.0 h base.is in
      let b = member_names_stepped declarators line base.value.1 list t1 base.value.0 m.value g.0.1.1.1.0.0 g.0.1.1.1.0.1 a.follows m.is in
      let one = stepped_names t t2 t3 c m.value.0 (member_names_taken declarators t1) (stepped_trans t t1 t2 c base.value.0 m.value.0 a b) in
      stepped_trans t t3 (each rest t3) c m.value.0 z.0 one (members_stepped rest m.value.1 t3 m.value.0 z g.1 one.follows m.last)
  members_stepped (tree ▹ rest) list t c z g h q = never _ _ z q

  member_names_stepped : (parts : Trees) (line : ℕ) (base : PlainType) (list : d.Members) (t : Taken) (c : Context) (z : Context × d.Members) → AreLayers parts → AllFormed parts → Follows t c → member_names line base parts list c ≡ Ok z → Stepped t c (each parts t) z.0
  member_names_stepped none line base list t c z o g h q = subst (λ (y : Context × d.Members). Stepped t c t y.0) (ok_same (c, list) z q) (stepped_refl t c h)
  member_names_stepped (declarator ▹ rest) line base list t c z o g h q =
      let l = came (layers declarator c) q in
      let y = came (with_layers l.value.0.tags l.value.1 base) l.last in
      let m = came (member line (name_of declarator) y.value list l.value.0) y.last in
      let t1 = taken declarator t in
      let a = layers_stepped declarator t c l.value g.0 o.0 h l.is in
      let one = subst (Stepped t c t1) (search (arith, behind_test, came, ok_same)) a in
      stepped_trans t t1 (each rest t1) c m.value.0 z.0 one (member_names_stepped rest line base m.value.1 t1 m.value.0 z o.1 g.1 one.follows m.last)

  enumerators_stepped : (parts : Trees) (next : ℤ) (t : Taken) (c z : Context) → AllFormed parts → Follows t c → enumerators parts next c ≡ Ok z → Stepped t c (each parts t) z
  enumerators_stepped none next t c z g h q = subst (Stepped t c t) (ok_same c z q) (stepped_refl t c h)
  enumerators_stepped (Node f.Enumerator (At line ▹ Leaf (w.Name name) ▹ Node f.MaybeValue none ▹ none) ▹ rest) next t c z g h q =
      let e = came (enumerator line name next c) q in
      let t1 = taken (Node f.Enumerator (At line ▹ Leaf (w.Name name) ▹ Node f.MaybeValue none ▹ none)) t in
      let one = stepped_names t (with_one name None t) t1 c e.value.0 (refl, refl) (enumerator_stepped line name next t c e.value h e.is) in
      stepped_trans t t1 (each rest t1) c e.value.0 z one (enumerators_stepped rest e.value.1 t1 e.value.0 z g.1 one.follows e.last)
  enumerators_stepped (Node f.Enumerator (At line ▹ Leaf (w.Name name) ▹ Node f.MaybeValue (v ▹ none) ▹ none) ▹ rest) next t c z g h q =
      let k = came (constant v c) q in
      let e = came (enumerator line name k.value.1.value k.value.0) k.last in
      let t1 = taken v t in
      let t2 = taken (Node f.Enumerator (At line ▹ Leaf (w.Name name) ▹ Node f.MaybeValue (v ▹ none) ▹ none)) t in
      let a = calm_stepped v t c k.value.0 (constant_calm v c k.value g.0.1.1.1.0.1.0 k.is) (constant_keeps Keeps keeps_tags v c k.value k.is) h in
      let b = enumerator_stepped line name k.value.1.value t1 k.value.0 e.value a.follows e.is in
      let one = stepped_names t (with_one name None t1) t2 c e.value.0 (refl, refl) (stepped_trans t t1 (with_one name None t1) c k.value.0 e.value.0 a b) in
      stepped_trans t t2 (each rest t2) c e.value.0 z one (enumerators_stepped rest e.value.1 t2 e.value.0 z g.1 one.follows e.last)
  enumerators_stepped (tree ▹ rest) next t c z g h q = never _ _ z q

  pub layers_stepped : (tree : Tree) (t : Taken) (c : Context) (z : Context × List Layer) → Formed tree → IsLayer tree → Follows t c → layers tree c ≡ Ok z → Stepped t c (taken tree t) z.0
  layers_stepped (Node (f.Pointer consts) (At line ▹ declarator ▹ none)) t c z g o h q =
      let l = came (layers declarator c) q in
      let a = layers_stepped declarator t c l.value g.1.1.0 g.0 h l.is in
      subst (λ (y : Context × List Layer). Stepped t c (taken (Node (f.Pointer consts) (At line ▹ declarator ▹ none)) t) y.0) (ok_same (l.value.0, PointerTo line ∷ l.value.1) z l.last)
      (stepped_names t (taken declarator t) (taken (Node (f.Pointer consts) (At line ▹ declarator ▹ none)) t) c l.value.0 (pointer_taken t consts line declarator) a)
  layers_stepped (Node f.Direct (base ▹ Node f.Suffixes suffixes ▹ none)) t c z g o h q =
      let l = came (layers base c) q in
      let s = came (suffix_layers suffixes l.value.0) l.last in
      let t1 = taken base t in
      let a = layers_stepped base t c l.value g.1.0 g.0.0 h l.is in
      let b = suffixes_stepped suffixes t1 l.value.0 s.value g.0.1 g.1.1.0.1 a.follows s.is in
      subst (λ (y : Context × List Layer). Stepped t c (taken (Node f.Direct (base ▹ Node f.Suffixes suffixes ▹ none)) t) y.0) (ok_same (s.value.0, reverse s.value.1 ++ l.value.1) z s.last)
      (stepped_names t (each suffixes t1) (taken (Node f.Direct (base ▹ Node f.Suffixes suffixes ▹ none)) t) c s.value.0 (direct_taken t base suffixes) (stepped_trans t t1 (each suffixes t1) c l.value.0 s.value.0 a b))
  layers_stepped (Node f.Parens (At line ▹ declarator ▹ none)) t c z g o h q =
      stepped_names t (taken declarator t) (taken (Node f.Parens (At line ▹ declarator ▹ none)) t) c z.0 (refl, refl) (layers_stepped declarator t c z g.1.1.0 g.0 h q)
  layers_stepped tree t c z g o h q = search (arith, ok_same, stepped_names, stepped_refl) fits 100

  suffixes_stepped : (parts : Trees) (t : Taken) (c : Context) (z : Context × List Layer) → AreSuffixes parts → AllFormed parts → Follows t c → suffix_layers parts c ≡ Ok z → Stepped t c (each parts t) z.0
  suffixes_stepped none t c z o g h q = subst (λ (y : Context × List Layer). Stepped t c t y.0) (ok_same (c, []) z q) (stepped_refl t c h)
  suffixes_stepped (suffix ▹ rest) t c z o g h q =
      let l = came (suffix_layer suffix c) q in
      let m = came (suffix_layers rest l.value.0) l.last in
      let t1 = taken suffix t in
      let a = suffix_stepped suffix t c l.value o.0 g.0 h l.is in
      let b = suffixes_stepped rest t1 l.value.0 m.value o.1 g.1 a.follows m.is in
      subst (λ (y : Context × List Layer). Stepped t c (each rest t1) y.0) (ok_same (m.value.0, l.value.1 ∷ m.value.1) z m.last) (stepped_trans t t1 (each rest t1) c l.value.0 m.value.0 a b)

  suffix_stepped : (tree : Tree) (t : Taken) (c : Context) (z : Context × Layer) → IsSuffix tree → Formed tree → Follows t c → suffix_layer tree c ≡ Ok z → Stepped t c (taken tree t) z.0
  suffix_stepped (Node f.ArraySuffix (At line ▹ Node f.MaybeLength none ▹ none)) t c z o g h q =
      subst (λ (y : Context × Layer). Stepped t c (taken (Node f.ArraySuffix (At line ▹ Node f.MaybeLength none ▹ none)) t) y.0) (ok_same (c, ArrayOf line None) z q)
      (stepped_names t t (taken (Node f.ArraySuffix (At line ▹ Node f.MaybeLength none ▹ none)) t) c c (refl, refl) (stepped_refl t c h))
  suffix_stepped (Node f.ArraySuffix (At line ▹ Node f.MaybeLength (e ▹ none) ▹ none)) t c z o g h q =
      let x = came (wanted e (typed e (asked c))) q in
      let k = came (array_length (line_of e) x.value.1) x.last in
      let calm = shows_first (Calm e) (typed e (asked c)) _ (typed_calm e (asked c) g.1.1.0.1.0) x.value x.is in
      let keep = told_keeps x.value.0 c (wanted_after (asked c) e (typed e (asked c)) (typed_after e (asked c)) x.value x.is) in
      subst (λ (y : Context × Layer). Stepped t c (taken (Node f.ArraySuffix (At line ▹ Node f.MaybeLength (e ▹ none) ▹ none)) t) y.0) (ok_same (told x.value.0 c, ArrayOf line (Some k.value)) z k.last)
      (stepped_names t (taken e t) (taken (Node f.ArraySuffix (At line ▹ Node f.MaybeLength (e ▹ none) ▹ none)) t) c (told x.value.0 c) (refl, refl) (calm_stepped e t c (told x.value.0 c) calm keep h))
  suffix_stepped (Node f.FunctionSuffix (At line ▹ Node f.Params parts ▹ none)) t c z o g h q =
      let p = came (params parts (entered c)) q in
      let a = params_stepped parts t (entered c) p.value g.1.1.0.1 tt h p.is in
      let b = left_stepped t (each parts t) c p.value.0 h a in
      subst (λ (y : Context × Layer). Stepped t c (taken (Node f.FunctionSuffix (At line ▹ Node f.Params parts ▹ none)) t) y.0) (ok_same (left_params p.value.0, FunctionOf line p.value.1) z p.last)
      (stepped_names t (left_scope t (each parts t)) (taken (Node f.FunctionSuffix (At line ▹ Node f.Params parts ▹ none)) t) c (left_params p.value.0) (refl, (params_taken_each parts t).1)
      (record { follows = b.follows; addressed = b.addressed; depth = b.depth; outside = b.outside }))
  suffix_stepped (Node f.VoidSuffix parts) t c z o g h q =
      subst (λ (y : Context × Layer). Stepped t c (taken (Node f.VoidSuffix parts) t) y.0) (ok_same (record c { params = [] }, FunctionOf (line_of (Node f.VoidSuffix parts)) types.none) z q)
      (stepped_names t t (taken (Node f.VoidSuffix parts) t) c (record c { params = [] }) (left_names f.VoidSuffix parts t (all_taken parts (places (shape f.VoidSuffix (count parts))) t) refl (all_still_names parts (places (shape f.VoidSuffix (count parts))) t (no_nodes_still parts o)))
      (record { follows = h; addressed = refl; depth = refl; outside = λ k x e. e }))
  suffix_stepped tree t c z o g h q = absurd o

  pub params_stepped : (parts : Trees) (t : Taken) (c : Context) (z : Context × PlainTypes) → AllFormed parts → HasScope c.scopes.inner → Follows t c → params parts c ≡ Ok z → Stepped t c (each parts t) z.0
  params_stepped none t c z g deep h q = subst (λ (y : Context × PlainTypes). Stepped t c t y.0) (ok_same (c, types.none) z q) (stepped_refl t c h)
  params_stepped (Node f.Param (At line ▹ words ▹ declarator ▹ none) ▹ rest) t c z g deep h q =
      let base = came (specs words c) q in
      let l = came (layers declarator base.value.0) base.last in
      let y = came (with_param_layers l.value.0.tags l.value.1 base.value.1) l.last in
      let p = came (param line (name_of declarator) (adjusted y.value) l.value.0) y.last in
      let m = came (params rest p.value.0) p.last in
      let t1 = taken words t in
      let t2 = taken declarator t1 in
      let t3 = taken (Node f.Param (At line ▹ words ▹ declarator ▹ none)) t in
      let a = specs_stepped words t c base.value g.0.1.1.0 h base.is in
      let b = layers_stepped declarator t1 base.value.0 l.value g.0.1.1.1.0 g.0.0 a.follows l.is in
      let ab = stepped_trans t t1 t2 c base.value.0 l.value.0 a b in
      let e = param_stepped_in line (name_of declarator) (adjusted y.value) t2 l.value.0 p.value (stepped_scope t t2 c l.value.0 ab deep) ab.follows p.is in
      let one = stepped_names t (walk.with_local (name_of declarator) t2) t3 c p.value.0 (param_taken line words declarator t (specs_unnamed words c base.value base.is))
      (stepped_trans t t2 (walk.with_local (name_of declarator) t2) c l.value.0 p.value.0 ab e) in
      let more = params_stepped rest t3 p.value.0 m.value g.1 (stepped_scope t t3 c p.value.0 one deep) one.follows m.is in
      subst (λ (v : Context × PlainTypes). Stepped t c (each rest t3) v.0) (ok_same (m.value.0, first p.value.1 m.value.1) z m.last) (stepped_trans t t3 (each rest t3) c p.value.0 m.value.0 one more)
  params_stepped (tree ▹ rest) t c z g deep h q = never _ _ z q

-- declarations of locals go in step with the walk over addresses, and their initializers take the address of no register

-- what a declaration leaves behind
record Stayed (c : Context) (u : Taken) (d : Context) : Type 0 where
  follows : Follows u d
  addressed : d.running.addressed ≡ c.running.addressed
  scope : HasScope d.scopes.inner

abbrev is_typedef : Storage → Bool
is_typedef Typedef = true
is_typedef storage = false

-- a local name of a type, and what is asked of its initializer
record Locals (line : ℕ) (name : List ℕ) (type : PlainType) (inits : Trees) (u : Taken) (c z : Context) : Type 0 where
  stayed : Stayed c (taken (Node f.MaybeInit inits) u) z
  spoken : Inside (taken (Node f.MaybeInit inits) u).addressed c.running.addressed → Written (Node f.MaybeInit inits) → LocalSpoken line name type inits c z

typedef_step : (line : ℕ) (name : List ℕ) (type : PlainType) (inits : Trees) (t : Taken) (c z : Context) → inits ≡ none → HasScope c.scopes.inner → Follows t c → declared_as line name (n.Typedef type) c ≡ Ok z → Locals line name type inits (with_known (Some name) None t) c z
unfolding AllSpoken taken all_taken left
typedef_step line name type inits t c z bare s h q =
    let u : Taken = with_known (Some name) None t in
    let one = plain_stepped line name (n.Typedef type) t c z refl h q in
    record {
      stayed = record {
        follows = keeps_follows u (taken (Node f.MaybeInit inits) u) z z (search arith fits 100) (keeps_refl z) one.follows;
        addressed = one.addressed;
        scope = stepped_scope t u c z one s;
      };
      spoken = λ i written k. subst (λ (trees : Trees). AllSpoken (with_local name type c).0.scopes trees) (sym bare) tt;
    }

object_step : (line : ℕ) (name : List ℕ) (type : PlainType) (inits : Trees) (t : Taken) (c z : Context) → Formed (Node f.MaybeInit inits) → HasScope c.scopes.inner → Follows t c → local_object line name type inits c ≡ Ok z → Locals line name type inits (walk.with_local (Some name) t) c z
object_step line name type inits t c z g s h q =
    let u : Taken = walk.with_local (Some name) t in
    let x : Context × Spot = with_local name type c in
    let r2 : Checked Context = unless (is_twice c.scopes name (n.Object type 0)) DeclaredTwice line (fill_local line type inits x) in
    let r1 : Checked Context = unless (has_no_size c.tags type) Incomplete line r2 in
    let a = behind_test (is_function type) LeftOut line r1 z q in
    let b = behind_test (has_no_size c.tags type) Incomplete line r2 z a in
    let fresh : named_in name (innermost c.scopes) ≡ None = search arith fits 100 in
    let e = behind_test (is_twice c.scopes name (n.Object type 0)) DeclaredTwice line (fill_local line type inits x) z b in
    let one = local_stepped name type t c s fresh h in
    let went = local_went line name type inits c z g e in
    record {
      stayed = record {
        follows = keeps_follows u (taken (Node f.MaybeInit inits) u) x.0 z (still_names (Node f.MaybeInit inits) u went.0.still) went.1 one.follows;
        addressed = went.1.addressed ∙ one.addressed;
        scope = scope_more x.0.scopes.inner z.scopes.inner went.1.more.inner (stepped_scope t u c x.0 one s);
      };
      spoken = λ i written k. inits_spoken line name type inits u c z one.follows (λ j has. subst (λ (ks : List ℕ). Has ks j) (sym one.addressed) (i j has)) written g k;
    }

local_step : (line : ℕ) (storage : Storage) (name : List ℕ) (type : PlainType) (inits : Trees) (t : Taken) (c z : Context) → t.typedef ≡ is_typedef storage → (t.typedef ≡ true → inits ≡ none) → Formed (Node f.MaybeInit inits) → HasScope c.scopes.inner → Follows t c → local_name line storage name type inits c ≡ Ok z
    → Locals line name type inits (declare t.typedef (Some name) t) c z
local_step line Typedef name type inits t c z e bare g s h q =
    subst (λ (b : Bool). Locals line name type inits (declare b (Some name) t) c z) (sym e) (typedef_step line name type inits t c z (bare e) s h q)
local_step line Outside name type inits t c z e bare g s h q = never _ _ z q
local_step line storages.Plain name type inits t c z e bare g s h q =
    subst (λ (b : Bool). Locals line name type inits (declare b (Some name) t) c z) (sym e) (object_step line name type inits t c z g s h q)

-- a declarator with its initializer

-- an entry, and what is asked of its initializer
record Entered (line : ℕ) (base : PlainType) (declarator : Tree) (inits : Trees) (t : Taken) (c z : Context) : Type 0 where
  stayed : Stayed c (taken (Node f.Entry (Node f.Declared (declarator ▹ none) ▹ Node f.MaybeInit inits ▹ none)) t) z
  spoken : Inside (taken (Node f.Entry (Node f.Declared (declarator ▹ none) ▹ Node f.MaybeInit inits ▹ none)) t).addressed c.running.addressed → Written (Node f.MaybeInit inits) → EntrySpoken line base declarator inits c z

some_of : (o : Option (List ℕ)) → IsSome o → (name : List ℕ) × (o ≡ Some name)
some_of (Some name) e = (name, refl)
some_of None e = cc

entry_step : (line : ℕ) (storage : Storage) (base : PlainType) (declarator : Tree) (inits : Trees) (t : Taken) (c z : Context) → t.typedef ≡ is_typedef storage → (t.typedef ≡ true → inits ≡ none) → Formed declarator → IsLayer declarator → IsSome (name_of declarator) → Formed (Node f.MaybeInit inits) → HasScope c.scopes.inner → Follows t c → entry false line storage base declarator inits c ≡ Ok z
    → Entered line base declarator inits t c z
unfolding taken all_taken left shape is_scope name_among
entry_step line storage base declarator inits t c z e bare gd layer named g s h q =
    let o = some_of (name_of declarator) named in
    let name = o.0 in
    let x = came (layers declarator c) q in
    let y = came (with_init_layers x.value.0.tags x.value.1 inits base) x.last in
    let k : local_name line storage name y.value inits x.value.0 ≡ Ok z = ap (λ (v : Option (List ℕ)). name_in false line storage v y.value inits x.value.0) (sym o.1) ∙ y.last in
    let l = layers_stepped declarator t c x.value gd layer h x.is in
    let td : Taken = as_before t (taken declarator t) in
    let one = local_step line storage name y.value inits td x.value.0 z e bare g (stepped_scope t (taken declarator t) c x.value.0 l s) l.follows k in
    let u : Taken = taken (Node f.MaybeInit inits) (declare t.typedef (Some name) td) in
    let same : as_before t (taken (Node f.MaybeInit inits) (declare t.typedef (Some name) (as_before t (taken declarator t)))) ≡ taken (Node f.Entry (Node f.Declared (declarator ▹ none) ▹ Node f.MaybeInit inits ▹ none)) t = search (arith, as_before) in
    record {
      stayed = subst (λ (v : Taken). Stayed c v z) same (record { follows = one.stayed.follows; addressed = one.stayed.addressed ∙ l.addressed; scope = one.stayed.scope });
      spoken = λ i written l2 type2 name2 at made called.
          let el : x.value ≡ l2 = ok_same x.value l2 (sym x.is ∙ at) in
          let ey : y.value ≡ type2 = ok_same y.value type2 (sym y.is ∙ ap (λ (v : Context × List Layer). with_init_layers v.0.tags v.1 inits base) el ∙ made) in
          let en : name ≡ name2 = some_same name name2 (sym o.1 ∙ called) in
          let inside : Inside u.addressed x.value.0.running.addressed = λ j has. subst (λ (ks : List ℕ). Has ks j) (sym l.addressed) (i j (subst (λ (v : Taken). Has v.addressed j) same has)) in
          subst (λ (v : Context × List Layer). LocalSpoken line name2 type2 inits v.0 z) el
          (subst (λ (v : PlainType). LocalSpoken line name2 v inits x.value.0 z) ey
          (subst (λ (v : List ℕ). LocalSpoken line v y.value inits x.value.0 z) en (one.spoken inside written)));
    }

-- entries in turn

each_adds : (names : Trees) (t : Taken) (k : ℕ) → Has t.addressed k → Has (each names t).addressed k
unfolding each
each_adds none t k h = h
each_adds (tree ▹ rest) t k h = each_adds rest (taken tree t) k (taken_adds tree t k h)

no_inits : (declared : Tree) (inits rest : Trees) → NoInits (Node f.Entry (declared ▹ Node f.MaybeInit inits ▹ none) ▹ rest) → (inits ≡ none) × NoInits rest
no_inits declared inits rest h = search arith fits 100

entry_typed : (declared : Tree) (inits : Trees) (t : Taken) → (taken (Node f.Entry (declared ▹ Node f.MaybeInit inits ▹ none)) t).typedef ≡ t.typedef
unfolding taken left
entry_typed declared inits t = refl

entries_step : (names : Trees) (line : ℕ) (storage : Storage) (base : PlainType) (t : Taken) (c z : Context) → t.typedef ≡ is_typedef storage → (t.typedef ≡ true → NoInits names) → AllFormed names → HasScope c.scopes.inner → Follows t c → entries false line storage base names c ≡ Ok z → Stayed c (each names t) z
unfolding entries each Shaped Formed AllFormed
entries_step none line storage base t c z e bare g s h q = subst (λ (x : Context). Stayed c t x) (ok_same c z q) (record { follows = h; addressed = refl; scope = s })
entries_step (Node f.Entry (Node f.Declared (declarator ▹ none) ▹ Node f.MaybeInit inits ▹ none) ▹ rest) line storage base t c z e bare g s h q =
    let tree : Tree = Node f.Entry (Node f.Declared (declarator ▹ none) ▹ Node f.MaybeInit inits ▹ none) in
    let d = came (entry false line storage base declarator inits c) q in
    let gd = g.0.1.0 in
    let one = entry_step line storage base declarator inits t c d.value e (λ k. (no_inits (Node f.Declared (declarator ▹ none)) inits rest (bare k)).0) gd.1.0 gd.0.0 gd.0.1 g.0.1.1.0 s h d.is in
    let typed = entry_typed (Node f.Declared (declarator ▹ none)) inits t in
    let more = entries_step rest line storage base (taken tree t) d.value z (typed ∙ e) (λ k. (no_inits (Node f.Declared (declarator ▹ none)) inits rest (bare (sym typed ∙ k))).1) g.1 one.stayed.scope one.stayed.follows d.last in
    (record { follows = more.follows; addressed = more.addressed ∙ one.stayed.addressed; scope = more.scope })
entries_step (tree ▹ rest) line storage base t c z e bare g s h q = never _ _ z q

entries_spoken : (names : Trees) (line : ℕ) (storage : Storage) (base : PlainType) (t : Taken) (c : Context) → t.typedef ≡ is_typedef storage → (t.typedef ≡ true → NoInits names) → AllFormed names → AllWritten names → HasScope c.scopes.inner → Follows t c → Inside (each names t).addressed c.running.addressed → EntriesSpoken line storage base names c
unfolding EntriesSpoken each Shaped Formed AllFormed Written AllWritten
entries_spoken (Node f.Entry (Node f.Declared (declarator ▹ none) ▹ Node f.MaybeInit inits ▹ none) ▹ rest) line storage base t c e bare g w s h i =
    λ d q.
    let tree : Tree = Node f.Entry (Node f.Declared (declarator ▹ none) ▹ Node f.MaybeInit inits ▹ none) in
    let gd = g.0.1.0 in
    let one = entry_step line storage base declarator inits t c d e (λ k. (no_inits (Node f.Declared (declarator ▹ none)) inits rest (bare k)).0) gd.1.0 gd.0.0 gd.0.1 g.0.1.1.0 s h q in
    let typed = entry_typed (Node f.Declared (declarator ▹ none)) inits t in (
      one.spoken (λ k has. i k (each_adds rest (taken tree t) k has)) w.0.1.1.0,
      entries_spoken rest line storage base (taken tree t) d (typed ∙ e) (λ k. (no_inits (Node f.Declared (declarator ▹ none)) inits rest (bare (sym typed ∙ k))).1) g.1 w.1 one.stayed.scope one.stayed.follows
          (λ k has. subst (λ (ks : List ℕ). Has ks k) (sym one.stayed.addressed) (i k has)),
    )
entries_spoken other line storage base t c e bare g w s h i = tt

-- specs

record Specified (words : Tree) (t : Taken) (c : Context) (z : Context) : Type 0 where
  stayed : Stayed c (taken words t) z
  storage : (taken words t).typedef ≡ is_typedef (storage_of words)
  none : (taken words t).typedef ≡ true → of_typedefs words ≡ true

specified : (line : ℕ) (words : Trees) (t : Taken) (c z : Context) → t.typedef ≡ false → Stayed c (taken (Node f.Specs (At line ▹ words)) t) z → Specified (Node f.Specs (At line ▹ words)) t c z
unfolding taken left has_typedef
specified line words t c z e s = search arith

specs_stay : (words : Tree) (t : Taken) (c : Context) (z : Context × PlainType) → t.typedef ≡ false → Formed words → HasScope c.scopes.inner → Follows t c → specs words c ≡ Ok z → Specified words t c z.0
unfolding specs
specs_stay (Node f.Specs (At line ▹ words)) t c z e g s h q =
    let x = specs_stepped (Node f.Specs (At line ▹ words)) t c z g h q in
    specified line words t c z.0 e (record { follows = x.follows; addressed = x.addressed; scope = stepped_scope t (taken (Node f.Specs (At line ▹ words)) t) c z.0 x s })
specs_stay words t c z e g s h q = never _ _ z q

tag_stays : (line at : ℕ) (sort : RecordSort) (name : List ℕ) (t : Taken) (c : Context) (z : Context × PlainType) → HasScope c.scopes.inner → Follows t c → with_type (tag_named at sort name (asked c) (named_in (tag_name name) (innermost c.scopes))) c ≡ Ok z
    → Stayed c (taken (Node f.Specs (At line ▹ Node (f.RecordTag sort) (At at ▹ Leaf (w.Name name) ▹ none) ▹ none)) t) z.0
unfolding taken all_taken left shape is_scope
tag_stays line at sort name t c z s h q =
    let given = tag_named at sort name (asked c) (named_in (tag_name name) (innermost c.scopes)) in
    let x = came given q in
    let m = tag_after at sort name (asked c) (named_in (tag_name name) (innermost c.scopes)) x.value x.is in
    let k = told_keeps x.value.0 c m in
    subst (λ (y : Context × PlainType). Stayed c (taken (Node f.Specs (At line ▹ Node (f.RecordTag sort) (At at ▹ Leaf (w.Name name) ▹ none) ▹ none)) t) y.0) (ok_same (told x.value.0 c, x.value.1) z x.last)
    (record {
      follows = keeps_follows t (taken (Node f.Specs (At line ▹ Node (f.RecordTag sort) (At at ▹ Leaf (w.Name name) ▹ none) ▹ none)) t) c (told x.value.0 c) (refl, refl) k h;
      addressed = refl;
      scope = scope_more c.scopes.inner x.value.0.scopes.inner m.inner s;
    })

alone_stays : (words : Tree) (t : Taken) (c : Context) (z : Context × PlainType) → t.typedef ≡ false → Formed words → HasScope c.scopes.inner → Follows t c → specs_alone words c ≡ Ok z → Specified words t c z.0
alone_stays (Node f.Specs (At line ▹ Node (f.RecordTag sort) (At at ▹ Leaf (w.Name name) ▹ none) ▹ none)) t c z e g s h q =
    specified line (Node (f.RecordTag sort) (At at ▹ Leaf (w.Name name) ▹ none) ▹ none) t c z.0 e (tag_stays line at sort name t c z s h q)
alone_stays words t c z e g s h q = specs_stay words t c z e g s h q

before_stays : (words : Tree) (names : Trees) (t : Taken) (c : Context) (z : Context × PlainType) → t.typedef ≡ false → Formed words → HasScope c.scopes.inner → Follows t c → specs_before words names c ≡ Ok z → Specified words t c z.0
before_stays words none t c z e g s h q = alone_stays words t c z e g s h q
before_stays words (name ▹ rest) t c z e g s h q = specs_stay words t c z e g s h q

-- declarations

local_taken : (line : ℕ) (words : Tree) (names : Trees) (t : Taken) → as_before t (each names (taken words t)) ≡ taken (Node f.Local (At line ▹ words ▹ Node f.Names names ▹ none)) t
unfolding taken all_taken left shape is_scope
local_taken line words names t = ap (λ (u : Taken). as_before t u) (sym (commas_each p.Entry refl names (taken words t)))

pub declaration_in_step : (line : ℕ) (words names : Tree) (t : Taken) (c z : Context) → Formed (Node f.Local (At line ▹ words ▹ names ▹ none)) → InStep t c → declaration false line words names c ≡ Ok z → InStep (taken (Node f.Local (At line ▹ words ▹ names ▹ none)) t) z
unfolding declaration Shaped Formed AllFormed
declaration_in_step line words (Node f.Names names) t c z g s q =
    let base = came (specs_before words names c) q in
    let b = before_stays words names t c base.value s.0 g.1.1.0 s.1 s.2 base.is in
    let e = entries_step names line (storage_of words) base.value.1 (taken words t) base.value.0 z b.storage (λ k. g.0 (b.none k)) g.1.1.1.0.1 b.stayed.scope b.stayed.follows base.last in
    subst (λ (u : Taken). InStep u z) (local_taken line words names t) (s.0, e.scope, e.follows)
declaration_in_step line words names t c z g s q = never _ _ z q

pub declaration_spoken : (line : ℕ) (words names : Tree) (t : Taken) (c z : Context) → Formed (Node f.Local (At line ▹ words ▹ names ▹ none)) → Written (Node f.Local (At line ▹ words ▹ names ▹ none)) → InStep t c → Inside (taken (Node f.Local (At line ▹ words ▹ names ▹ none)) t).addressed c.running.addressed → declaration false line words names c ≡ Ok z → DeclarationSpoken line words names c
unfolding declaration Shaped Formed AllFormed Written AllWritten
declaration_spoken line words (Node f.Names names) t c z g w s i q =
    λ base is.
    let b = before_stays words names t c base s.0 g.1.1.0 s.1 s.2 is in
    entries_spoken names line (storage_of words) base.1 (taken words t) base.0 b.storage (λ k. g.0 (b.none k)) g.1.1.1.0.1 w.1.1.1.0.1 b.stayed.scope b.stayed.follows
    (λ k has. subst (λ (ks : List ℕ). Has ks k) (sym b.stayed.addressed) (i k (subst (λ (u : Taken). Has u.addressed k) (local_taken line words names t) has)))
declaration_spoken line words names t c z g w s i q = never _ _ z q

-- where a body begins, what is known of addresses is what is known of its parameters

-- what is known of the parameters of a list that ended: how many they are, of which the address is taken, and their names
pub record BegunAt (o : Option Trees) (x : ℕ × List ℕ × Table) : Type 0 where
  pub typed : (params_taken o nothing_taken).typedef ≡ false
  pub declared : (params_taken o nothing_taken).declared ≡ x.0
  pub names : (name : List ℕ) → is_register (named_in name x.2) ≡ true → Numbered (params_taken o nothing_taken) x.1 name

abbrev pub Begun : Option Trees → Context → Type 0
Begun o c = BegunAt o (counts c)

begun_same : (o : Option Trees) (c d : Context) → counts d ≡ counts c → Begun o c → Begun o d
begun_same o c d e h = subst (BegunAt o) (sym e) h

-- at file scope no name is a register
entered_none : (w : World) (file : Table) (inner : List Table) (name : List ℕ) → length inner ≡ 0 → TableFits (FileFits w) file → is_register (found_from file name inner) ≡ true → ⊥
entered_none w file inner name flat h e = let clash : false ≡ true = sym (file_register w file inner name flat h) ∙ e in cc

-- suffixes

pub record Starts (o : Option Trees) (z : Context × List Layer) : Type 0 where
  pub some : 1 ≤ functions z.1
  pub begun : functions z.1 ≡ 1 → Begun o z.0

record Suffixed (o : Option Trees) (z : Context × Layer) : Type 0 where
  one : functions (z.1 ∷ []) ≡ 1
  begun : Begun o z.0

no_params : {G : Type 0} → false ≡ true → G
no_params e = cc

list_begun : (line : ℕ) (parts : Trees) (c : Context) (z : Context × PlainTypes) → AllFormed parts → c.running.declared ≡ 0 → length c.scopes.inner ≡ 0 → TableFits (FileFits (world c)) c.scopes.file → params parts (entered c) ≡ Ok z → Begun (Some (Node f.Params parts ▹ none)) (left_params z.0)
unfolding taken all_taken left shape is_scope
list_begun line parts c z g zero_yet flat h q =
    let s = params_stepped parts nothing_taken (entered c) z g tt ((sym zero_yet, λ name e. absurd (entered_none (world c) c.scopes.file c.scopes.inner name flat h e))) q in
    let same = commas_each p.Param refl parts nothing_taken in
    record {
      typed = refl;
      declared = ap (λ (t : Taken). t.declared) same ∙ s.follows.0;
      names = λ name e. let k = s.follows.1 name (search arith fits 100) in
          subst (λ (t : Taken). Numbered t z.0.running.addressed name) (sym same) k;
    }

suffix_begun : (tree : Tree) (rest : Trees) (c : Context) (z : Context × Layer) → IsSuffix tree → Formed tree → IsSome (suffix_params (Node f.Suffixes (tree ▹ rest) ▹ none)) → c.running.declared ≡ 0 → length c.scopes.inner ≡ 0 → TableFits (FileFits (world c)) c.scopes.file → suffix_layer tree c ≡ Ok z
    → Suffixed (suffix_params (Node f.Suffixes (tree ▹ rest) ▹ none)) z
unfolding suffix_layer suffix_params Formed AllFormed all_taken
suffix_begun (Node f.ArraySuffix parts) rest c z i g s zero_yet flat h q = no_params s
suffix_begun (Node f.FunctionSuffix (At line ▹ Node f.Params parts ▹ none)) rest c z i g s zero_yet flat h q =
    let x = came (params parts (entered c)) q in
    subst (Suffixed (Some (Node f.Params parts ▹ none))) (ok_same (left_params x.value.0, FunctionOf line x.value.1) z x.last)
    (record { one = refl; begun = list_begun line parts c x.value g.1.1.0.1 zero_yet flat h x.is })
suffix_begun (Node f.VoidSuffix parts) rest c z i g s zero_yet flat h q =
    subst (Suffixed (Some none)) (ok_same (record c { params = [] }, FunctionOf (line_of (Node f.VoidSuffix parts)) types.none) z q)
    (record { one = refl; begun = (record { typed = refl; declared = sym zero_yet; names = λ name e. cc }) })
suffix_begun tree rest c z i g s zero_yet flat h q = absurd i

suffixes_start : (parts : Trees) (c : Context) (z : Context × List Layer) → AreSuffixes parts → AllFormed parts → IsSome (suffix_params (Node f.Suffixes parts ▹ none)) → c.running.declared ≡ 0 → length c.scopes.inner ≡ 0 → TableFits (FileFits (world c)) c.scopes.file → suffix_layers parts c ≡ Ok z → Starts (suffix_params (Node f.Suffixes parts ▹ none)) z
unfolding suffix_layers AllFormed suffix_params
suffixes_start none c z i g s zero_yet flat h q = no_params s
suffixes_start (suffix ▹ rest) c z i g s zero_yet flat h q =
    let o : Option Trees = suffix_params (Node f.Suffixes (suffix ▹ rest) ▹ none) in
    let l = came (suffix_layer suffix c) q in
    let m = came (suffix_layers rest l.value.0) l.last in
    let a = suffix_begun suffix rest c l.value i.0 g.0 s zero_yet flat h l.is in
    subst (Starts o) (ok_same (m.value.0, l.value.1 ∷ m.value.1) z m.last)
    (record {
      some = omega (arith, a.one, functions_one l.value.1 m.value.1);
      begun = λ e. begun_same o l.value.0 m.value.0 (suffixes_counts rest l.value.0 m.value m.is (omega (arith, e, a.one, functions_one l.value.1 m.value.1))) a.begun;
    })

-- declarators

-- the parameters of a part alone are those of the part
alone_is : (tree : Tree) → IsSome (params_among (tree ▹ none)) → params_of tree ≡ params_among (tree ▹ none)
unfolding params_of params_among suffix_params
alone_is tree h = search (arith, no_params) fits 100

is_some_of : (o q : Option Trees) → o ≡ q → IsSome q → IsSome o
is_some_of o q e h = subst (λ (x : Option Trees). IsSome x) (sym e) h

joined_functions : (ms ls : List Layer) → functions (reverse ms ++ ls) ≡ functions ms + functions ls
joined_functions ms ls = functions_joined (reverse ms) ls ∙ ap (λ (k : ℕ). k + functions ls) (functions_reversed ms)

pub layers_start : (tree : Tree) (c : Context) (z : Context × List Layer) → IsLayer tree → Formed tree → IsSome (params_of tree) → c.running.declared ≡ 0 → length c.scopes.inner ≡ 0 → TableFits (FileFits (world c)) c.scopes.file → layers tree c ≡ Ok z → Starts (params_of tree) z
unfolding layers params_of params_among leads_to_name Shaped Formed AllFormed
layers_start (Leaf word) c z i g s zero_yet flat h q = no_params s
layers_start (At line) c z i g s zero_yet flat h q = no_params s
layers_start (Node (f.Pointer consts) (At line ▹ declarator ▹ none)) c z i g s zero_yet flat h q =
    let l = came (layers declarator c) q in
    let e = alone_is declarator s in
    let a = layers_start declarator c l.value g.0 g.1.1.0 (is_some_of (params_of declarator) (params_among (declarator ▹ none)) e s) zero_yet flat h l.is in
    subst (λ (o : Option Trees). Starts o z) e (subst (Starts (params_of declarator)) (ok_same (l.value.0, PointerTo line ∷ l.value.1) z l.last) (record { some = a.some; begun = λ k. a.begun k }))
layers_start (Node f.Parens (At line ▹ declarator ▹ none)) c z i g s zero_yet flat h q =
    let e = alone_is declarator s in
    subst (λ (o : Option Trees). Starts o z) e (layers_start declarator c z g.0 g.1.1.0 (is_some_of (params_of declarator) (params_among (declarator ▹ none)) e s) zero_yet flat h q)
layers_start (Node f.Direct (Leaf word ▹ Node f.Suffixes suffixes ▹ none)) c z i g s zero_yet flat h q =
    let v = came (suffix_layers suffixes c) q in
    let a = suffixes_start suffixes c v.value g.0.1 g.1.1.0.1 s zero_yet flat h v.is in
    let sum = joined_functions v.value.1 [] in
    subst (Starts (suffix_params (Node f.Suffixes suffixes ▹ none))) (ok_same (v.value.0, reverse v.value.1 ++ []) z v.last)
    (record { some = omega (arith, a.some, sum); begun = λ k. a.begun (omega (arith, k, sum)) })
layers_start (Node f.Direct (Node form parts ▹ Node f.Suffixes suffixes ▹ none)) c z i g s zero_yet flat h q =
    let l = came (layers (Node form parts) c) q in
    let v = came (suffix_layers suffixes l.value.0) l.last in
    let e : params_of (Node form parts) ≡ params_among (Node form parts ▹ Node f.Suffixes suffixes ▹ none) = grind arith in
    let a = layers_start (Node form parts) c l.value g.0.0 g.1.0 (is_some_of (params_of (Node form parts)) (params_among (Node form parts ▹ Node f.Suffixes suffixes ▹ none)) e s) zero_yet flat h l.is in
    let sum = joined_functions v.value.1 l.value.1 in
    subst (λ (o : Option Trees). Starts o z) e (subst (Starts (params_of (Node form parts))) (ok_same (v.value.0, reverse v.value.1 ++ l.value.1) z v.last)
    (record {
      some = omega (arith, a.some, sum);
      begun = λ k. begun_same (params_of (Node form parts)) l.value.0 v.value.0 (suffixes_counts suffixes l.value.0 v.value v.is (omega (arith, k, sum, a.some))) (a.begun (omega (arith, k, sum, a.some)));
    }))
layers_start (Node f.Direct (At line ▹ Node f.Suffixes suffixes ▹ none)) c z i g s zero_yet flat h q = no_params s
layers_start (Node f.Nothing none) c z i g s zero_yet flat h q = no_params s
layers_start (Node form parts) c z i g s zero_yet flat h q = absurd i

-- a body

behind_file : (w : World) (file : Table) (name : List ℕ) (o : Option PlainNamed) → TableFits (FileFits w) file → is_register (option_or o (named_in name file)) ≡ true → is_register o ≡ true
behind_file w file name (Some v) h e = e
behind_file w file name None h e = absurd (file_none w file name h e)

-- the body of a function whose parameters ended last
pub body_step : (o : Option Trees) (line index : ℕ) (name : List ℕ) (type : PlainType) (c d : Context) → Begun o c → TableFits (FileFits (world d)) d.scopes.file → declared_function line name type c ≡ Ok d → InStep (params_taken o nothing_taken) (body_begun index type d)
body_step o line index name type c d h fits q =
    let b = begun_same o c d (grind (arith, came, counts, ok_same, declared_counts, either_way, functions)) h in
    (b.typed, tt, (b.declared, λ key e. b.names key (behind_file (world d) d.scopes.file key (named_in key d.params) fits e)))
