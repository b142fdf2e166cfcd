-- Declarators, specs and tags have whole types (C99 6.7).
use Rattle.core_soundness.proofs.Words.Std.{◌≡◌, ℕ, ℤ, pos, Bool, true, false, ◌||◌, cond, is_some, is_none, All, List, [], ◌∷◌, ◌++◌, length, reverse, slice_get, unwrap_or, option_map, Option, Some, None, Ok, refl, ap, ◌∙◌, arith, All-cons, option_map_or}
use Rattle.core_soundness.proofs.Words.Trees.{name_of, Tree, Trees, Leaf, At, Node, none, ◌▹◌, RecordSort}
use Rattle.core_soundness.proofs.Words.Types.{Known, layout_of, TagTable, CompletedTag, refusal, layout_in, PlainType, PlainTypes, Struct, Union, Layout, TagError, TagInfo, line_of, typed, wanted, constant_from, PlainNamed, Checked, unless, named_in, innermost, with_name, tag_name, Layer, special_type, array_length, with_layers, with_param_layers, adjusted, is_void, is_record, is_array, is_function, has_no_size, DeclaredTwice, Incomplete, LeftOut}
use Rattle.core_soundness.proofs.Words.Core.{HasLayout}
use Rattle.core_soundness.proofs.Words.Elaborating.{Context, asked, entered, local_register, Memory, constant, with_type, maybe_name, begun_as, completed_by, complete, ended, with_member, member, enumerator, enum_named, is_declared, param, left_params, specs, words_type, tag_type, members, member_names, enumerators, layers, suffix_layers, suffix_layer, params, is_twice, declared_as, next_is_memory, with_register, with_memory, with_named, memory_param, register_param, function_param, prototype_param, is_prototype, with_param}
use Rattle.core_soundness.proofs.Words.Facts.{Solid, Whole, AllWhole, MembersWhole, NamedWhole, HasParts, Written, AllWritten}
use Rattle.c_types.specs.TagTable as tables
use Rattle.core_tree.specs.declared.statements.Atom.TheVariants as atom
use Rattle.c_tree.specs.Forms as f
use Rattle.c_tree.specs.Words as w
use Rattle.c_tree.specs.declared.operator.RecordSort.TheVariants as r
use Rattle.c_decls.specs.Named as n
use Rattle.c_decls.specs.TypeNames as names
use Rattle.elaboration.specs.Declarators as d
use Rattle.elaboration.specs.Declarators.{begun}
use Rattle.core_soundness.proofs.Agreeing.{came}
use Rattle.core_soundness.proofs.Growth.{ok_same, never, Led, led_ok, led_refused, led_after, led_unless, behind_test}
use Rattle.core_soundness.proofs.Ranged.{wrapped_number, mems_push, K, fit_of, told_whole, layers_stay, layer_stays, laid}
use Rattle.core_soundness.proofs.RangedFound.{Rises, rises_refl, rises_trans, told_rises, write_rises, with_code}
use Rattle.core_soundness.proofs.TagSorts.{name_longer, SortedType, SortedName, type_longer, push_longer, new_sorted, ST, word_sorted, special_sorted, with_layers_sorted, Leads, typed_leads, wanted_leads, special_leads, new_tag_leads, MembersSorted, members_longer, bodies_longer, bodies_push, Sorts, kinds_refl, leads_kinds}
use Rattle.core_soundness.proofs.TypedWhole.{GoodType, LayersWhole, LayerWhole, layers_append, layers_reverse, with_layers_whole, with_param_layers_whole, adjusted_whole, special_good, word_whole, length_some, typed_good, wanted_good}
use Rattle.core_soundness.proofs.WholeTypes.{named_stays, whole_stays, members_stay, push_extends, extends_refl, whole_fits, made_on, nothing}
use Rattle.core_soundness.proofs.Choices.{either_way}
use Rattle.core_soundness.proofs.Scopes.{none_fits, first_fits, innermost_fits, named_fits, entered_fit, left_fit, scopes_fit}

-- answers behind a context: with a whole type, with layers, with members, with the types of parameters
abbrev pub T : Context → Context × PlainType → Type 0
T c z = Rises c z.0 × Whole (K z.0) z.1 × (Sorts c → SortedType z.0.tags.made z.1)

abbrev pub L : Context → Context × List Layer → Type 0
L c z = Rises c z.0 × LayersWhole (K z.0) z.1

abbrev LL : Context → Context × Layer → Type 0
LL c z = Rises c z.0 × LayerWhole (K z.0) z.1

-- whose tags are of their sorts, where they are so at an earlier point
abbrev M : Context → Context → Context × d.Members → Type 0
M base c z = Rises c z.0 × MembersWhole (K z.0) z.1 × (Sorts base → MembersSorted z.0.tags.made z.1)

abbrev P : Context → Context × PlainTypes → Type 0
P c z = Rises c z.0 × AllWhole (K z.0) z.1

abbrev pub R1 : {A : Type 0} → Context → Context × A → Type 0
R1 {A} c z = Rises c z.0

-- names that are declared

pub named_rises : (c : Context) (name : List ℕ) (v : PlainNamed) → Solid c → NamedWhole (K c) v → (Sorts c → SortedName c.tags.made v) → Rises c (record c { scopes = with_name c.scopes name v })
named_rises c name v h w s = with_code c _ (record {
  solid = record { made = h.made; names = named_fits (NamedWhole (K c)) (NamedWhole (K c)) c.scopes name v w w h.names; list = h.list; memory = h.memory; result = h.result; statics = h.statics; functions = h.functions };
  more = extends_refl (K c);
  kinds = record { made = λ i u e. e; sorts = λ ks. record { names = named_fits (SortedName c.tags.made) (SortedName c.tags.made) c.scopes name v (s ks) (s ks) ks.names; list = ks.list; bodies = ks.bodies } };
}) (λ k. k) (λ k. k) (λ k. k)

pub declared_rises : (line : ℕ) (name : List ℕ) (v : PlainNamed) (c : Context) → Solid c → NamedWhole (K c) v → (Sorts c → SortedName c.tags.made v) → Led (Rises c) (declared_as line name v c)
declared_rises line name v c h w s =
    led_unless (Rises c) (is_twice c.scopes name v) DeclaredTwice line
    (λ t. led_ok (Rises c) (either_way (λ x. Rises c (record c { scopes = x })) (is_some (named_in name (innermost c.scopes)))
    (record { solid = h; more = extends_refl (K c); kinds = kinds_refl c; code = λ k. k; cases = λ k. k; walked = λ k. k })
    (named_rises c name v h w s)))

-- the name of a type, whose tags are of their sorts where they are so at an earlier point
pub typedef_rises : (past c : Context) → Rises past c → (line : ℕ) (name : List ℕ) (type : PlainType) → Whole (K c) type → (Sorts past → SortedType c.tags.made type) → Led (Rises past) (declared_as line name (n.Typedef type) c)
typedef_rises past c r line name type w s =
    led_unless (Rises past) (is_twice c.scopes name (n.Typedef type)) DeclaredTwice line
    (λ t. led_ok (Rises past) (by (is_some (named_in name (innermost c.scopes)))))
  where
    by : (t : Bool) → Rises past (record c { scopes = cond t c.scopes (with_name c.scopes name (n.Typedef type)) })
    by true = record { solid = r.solid; more = r.more; kinds = r.kinds; code = r.code; cases = r.cases; walked = r.walked }
    by false = record {
      solid = record { made = r.solid.made; names = named_fits (NamedWhole (K c)) (NamedWhole (K c)) c.scopes name (n.Typedef type) w w r.solid.names; list = r.solid.list; memory = r.solid.memory; result = r.solid.result; statics = r.solid.statics; functions = r.solid.functions };
      more = r.more;
      kinds = record { made = r.kinds.made; sorts = λ ks. let k = r.kinds.sorts ks in record { names = named_fits (SortedName c.tags.made) (SortedName c.tags.made) c.scopes name (n.Typedef type) (s ks) (s ks) k.names; list = k.list; bodies = k.bodies } };
      code = r.code;
      cases = r.cases;
      walked = r.walked;
    }

-- parameters

maybe_named : (name : Option (List ℕ)) (v : PlainNamed) (c : Context) → Solid c → NamedWhole (K c) v → (Sorts c → SortedName c.tags.made v) → Rises c (with_named name v c)
maybe_named name v c h w s = search (arith, rises_refl, named_rises) fits 100

pub memory_rises : (name : List ℕ) (type : PlainType) (c : Context) → Solid c → Whole (K c) type → is_some (layout_in c.tags type) ≡ true → Rises c (with_memory name type c)
memory_rises name type c h w s = search (arith, with_code, mems_push, laid, extends_refl, kinds_refl)

param_made : (name : Option (List ℕ)) (type : PlainType) (c : Context) → Solid c → Whole (K c) type → is_some (layout_in c.tags type) ≡ true → Rises c (with_param name type c)
param_made name type c h w s = record { solid = (by (is_prototype c.scopes)).solid; more = (by (is_prototype c.scopes)).more; kinds = (by (is_prototype c.scopes)).kinds; code = (by (is_prototype c.scopes)).code; cases = (by (is_prototype c.scopes)).cases; walked = (by (is_prototype c.scopes)).walked }
  where
    mem : ℕ
    mem = length c.running.mems

    register : ℕ
    register = local_register (length c.running.locals)

    own : (t : Bool) → Rises c (cond t (memory_param name type c) (register_param name type c))
    own true =
        let x = with_register name type c in
        let y = with_memory (unwrap_or name []) type x in
        let z = with_named name (n.Object type (length c.running.mems)) y in
        let a = memory_rises (unwrap_or name []) type x h w s in
        let q = maybe_named name (n.Object type (length c.running.mems)) y a.solid w (λ ks. tt) in
        rises_trans c y _ (record { solid = a.solid; more = a.more; kinds = a.kinds; code = a.code; cases = a.cases; walked = a.walked }) (rises_trans y z _ q (write_rises c.running.line type (Memory (atom.Mem (length c.running.mems))) (atom.Reg (local_register (length c.running.locals))) z q.solid (λ k. (tt, tt))))
    own false = let q = maybe_named name (n.Register type (length c.running.locals)) (with_register name type c) h w (λ ks. tt) in record { solid = q.solid; more = q.more; kinds = q.kinds; code = q.code; cases = q.cases; walked = q.walked }

    by : (t : Bool) → Rises c (cond t (prototype_param name type c) (function_param name type c))
    by true = maybe_named name (n.Object type 0) c h w (λ ks. tt)
    by false = own (next_is_memory type c)

adjusted_flat : (type : PlainType) → is_array (adjusted type) ≡ false
adjusted_flat type = search arith fits 100

param_rises : (line : ℕ) (name : Option (List ℕ)) (type : PlainType) (c : Context) → Solid c → Whole (K c) type → is_array type ≡ false → Led (T c) (param line name type c)
param_rises line name type c h w flat =
    let r2 : Checked (Context × PlainType) = unless (is_declared name c) DeclaredTwice line (Ok (with_param name type c, type)) in
    let r1 : Checked (Context × PlainType) = unless (is_record type || is_function type) LeftOut line r2 in
    led_unless (T c) (is_void type) Incomplete line
    (λ a. led_unless (T c) (is_record type || is_function type) LeftOut line
    (λ b. led_unless (T c) (is_declared name c) DeclaredTwice line
    (λ t. let q = param_made name type c h w (search arith fits 100) in led_ok (T c) (q, whole_stays type (K c) _ q.more w, λ ks. search arith fits 100))))

-- tags

pub type_rises : (answer : Checked (names.Context × PlainType)) (c : Context) (h : Solid c) → Led (GoodType c.tags.completed h.made) answer → ((x : names.Context × PlainType) → answer ≡ Ok x → Leads (asked c) x.0) → (Sorts c → Led ST answer) → Led (T c) (with_type answer c)
type_rises answer c h g l s = led_after (T c) answer (λ x q. let k = g x q in led_ok (T c) (told_rises c x.0 h k.0 (l x q), told_whole c x.0 h x.1 k.0 k.1, λ ks. s ks x q))

pub with_type_rises : (line : ℕ) (tree : Tree) (c : Context) → Solid c → Led (T c) (with_type (special_type line tree (asked c)) c)
with_type_rises line tree c h = type_rises (special_type line tree (asked c)) c h (special_good c.tags.completed h.made line tree (asked c) (fit_of c h)) (λ x q. special_leads line tree (asked c) x q) (λ ks. special_sorted line tree (asked c) ks.names)

pub constant_rises : (e : Tree) (c : Context) → Solid c → Led (R1 c) (constant e c)
constant_rises e c h =
    led_after (R1 c) (wanted e (typed e (asked c)))
    (λ x q. let g = wanted_good c.tags.completed h.made e (typed e (asked c)) (typed_good c.tags.completed h.made e (asked c) (fit_of c h)) x q in
    led_after (R1 c) (constant_from (line_of e) x.1.type x.1.folded) (λ k z. led_ok (R1 c) (told_rises c x.0 h g.0 (wanted_leads (asked c) e (typed e (asked c)) (typed_leads e (asked c)) x q))))

begun_as_rises : (sort : RecordSort) (name : List ℕ) (o : Option PlainNamed) (c : Context) → Solid c → Rises c (begun_as sort name o c).0
begun_as_rises sort name (Some (n.Tag type)) c h = rises_refl c h
begun_as_rises sort name other c h = search (arith, with_code, named_fits, extends_refl, leads_kinds, new_tag_leads) fits 100

begun_rises : (sort : RecordSort) (name : Option (List ℕ)) (c : Context) → Solid c → Rises c (begun sort name c).0
begun_rises sort None c h = record { solid = h; more = extends_refl (K c); kinds = record { made = push_longer c.tags.made _; sorts = λ ks. record { names = scopes_fit (SortedName c.tags.made) (SortedName _) (λ v. name_longer v c.tags.made _ (push_longer c.tags.made _)) c.scopes ks.names; list = λ name v e. name_longer v c.tags.made _ (push_longer c.tags.made _) (ks.list name v e); bodies = bodies_longer c.tags.completed c.tags.made _ (push_longer c.tags.made _) ks.bodies } }; code = λ k. k; cases = λ k. k; walked = λ k. k }
begun_rises sort (Some name) c h = begun_as_rises sort name (named_in (tag_name name) (innermost c.scopes)) c h

-- the type that a struct or union with braces begins with
begun_as_sorted : (sort : RecordSort) (name : List ℕ) (o : Option PlainNamed) (c : Context) → ((type : PlainType) → o ≡ Some (n.Tag type) → SortedType c.tags.made type) → SortedType (begun_as sort name o c).0.tags.made (begun_as sort name o c).1
begun_as_sorted sort name (Some (n.Tag type)) c h = h type refl
begun_as_sorted sort name other c h = new_sorted sort c.tags.made name

begun_sorted : (sort : RecordSort) (name : Option (List ℕ)) (c : Context) → Sorts c → SortedType (begun sort name c).0.tags.made (begun sort name c).1
begun_sorted sort None c ks = new_sorted sort c.tags.made []
begun_sorted sort (Some name) c ks = begun_as_sorted sort name (named_in (tag_name name) (innermost c.scopes)) c (λ type e. innermost_fits (SortedName c.tags.made) c.scopes ks.names (tag_name name) (n.Tag type) e)

members_all : (k : Known) (ms : d.Members) → MembersWhole k ms → All (λ (m : List ℕ × PlainType). HasLayout k m.1) ms
members_all k [] h = λ j x q. absurd (omega (arith, q))
members_all k (m ∷ ms) h = All-cons (λ (x : List ℕ × PlainType). HasLayout k x.1) m ms (h.0.1, whole_fits m.1 k h.0.0) (members_all k ms h.1)

not_known : (o : Option Layout) → is_some o ≡ false → o ≡ None
not_known o e = search arith fits 100

complete_rises : (line number : ℕ) (type : PlainType) (b c : Context) (list : d.Members) → Rises b c → MembersWhole (K c) list → (list ≡ [] → ⊥) → ((k : Known) → Whole k type) → (Sorts b → MembersSorted c.tags.made list) → (Sorts b → SortedType c.tags.made type) → (Sorts b → (i : TagInfo) × (slice_get c.tags.made number ≡ Some i)) → Led (T b) (complete line number type c list)
complete_rises line number type b c list r m some w sm st at =
    led_unless (T b) (is_some (K c number)) DeclaredTwice line (λ t. by t (refusal (K c) new) refl)
  where
    new : CompletedTag
    new = record { tag = number; is_union = option_map_or (λ (x : TagInfo). x.is_union) (slice_get c.tags.made number) false; members = list }

    by : is_some (K c number) ≡ false → (o : Option TagError) → refusal (K c) new ≡ o → Led (T b) (completed_by line c type (tables.completed_by c.tags new o))
    by t (Some error) e = led_refused (T b)
    by t None e =
        let x = push_extends c.tags.completed new in
        let h = r.solid in
        let made = made_on nothing c.tags.completed new h.made (record { once = not_known (K c number) t; some = some; members = members_all (K c) list m; kept = e }) m in
        led_ok (T b) (
          record {
            solid = record {
              made = made;
              names = scopes_fit (NamedWhole (K c)) (NamedWhole _) (λ v. named_stays v (K c) _ x) c.scopes h.names;
              list = λ name v e. named_stays v (K c) _ x (h.list name v e);
              memory = h.memory;
              result = whole_stays c.running.answer (K c) _ x h.result;
              statics = h.statics;
              functions = h.functions;
            };
            more = λ tag l q. x tag l (r.more tag l q);
            kinds = record { made = r.kinds.made; sorts = λ ks. let k = r.kinds.sorts ks in record { names = k.names; list = k.list; bodies = bodies_push c.tags.made c.tags.completed new k.bodies (((at ks).0, (at ks).1, ap (λ (o : Option TagInfo). option_map_or (λ (y : TagInfo). y.is_union) o false) (at ks).1), sm ks) } };
            code = r.code;
            cases = r.cases;
            walked = r.walked;
          },
          w _,
          st,
        )

ended_rises : (line : ℕ) (sort : RecordSort) (type : PlainType) (b c : Context) (list : d.Members) → Rises b c → MembersWhole (K c) list → (list ≡ [] → ⊥) → (Sorts b → MembersSorted c.tags.made list) → (Sorts b → SortedType c.tags.made type) → Led (T b) (ended line sort type c list)
ended_rises line r.Struct (Struct number) b c list g m some sm st = complete_rises line number (Struct number) b c list g m some (λ k. tt) sm st (λ ks. let x = st ks in (x.0, x.1))
ended_rises line r.Union (Union number) b c list g m some sm st = complete_rises line number (Union number) b c list g m some (λ k. tt) sm st (λ ks. let x = st ks in (x.0, x.1))
ended_rises line sort type b c list g m some sm st = led_refused (T b)

-- members

members_push : (k : Known) (ms : d.Members) (m : List ℕ × PlainType) → MembersWhole k ms → Whole k m.1 → is_some (layout_of k m.1) ≡ true → MembersWhole k (ms ++ m ∷ [])
members_push k [] m h w s = ((w, s), tt)
members_push k (x ∷ ms) m h w s = (h.0, members_push k ms m h.1 w s)

pub has_size : (tags : TagTable) (type : PlainType) → has_no_size tags type ≡ false → is_some (layout_in tags type) ≡ true
has_size tags type e = grind (arith, is_none, option_map, false, true)

with_member_rises : (line : ℕ) (name : Option (List ℕ)) (type : PlainType) (k : Known) (list : d.Members) → MembersWhole k list → Whole k type → is_some (layout_of k type) ≡ true → Led (MembersWhole k) (with_member line name type list)
with_member_rises line name type k list m w s = search (arith, led_ok, led_unless, members_push) fits 100

members_sorted_push : (made : List TagInfo) (ms : d.Members) (m : List ℕ × PlainType) → MembersSorted made ms → SortedType made m.1 → MembersSorted made (ms ++ m ∷ [])
members_sorted_push made [] m h s = (s, tt)
members_sorted_push made (x ∷ ms) m h s = (h.0, members_sorted_push made ms m h.1 s)

with_member_sorted : (line : ℕ) (name : Option (List ℕ)) (type : PlainType) (made : List TagInfo) (list : d.Members) → MembersSorted made list → SortedType made type → Led (MembersSorted made) (with_member line name type list)
with_member_sorted line name type made list m s = search (arith, led_ok, led_unless, members_sorted_push) fits 100

member_rises : (past : Context) (line : ℕ) (name : Option (List ℕ)) (type : PlainType) (list : d.Members) (c : Context) → Solid c → Whole (K c) type → MembersWhole (K c) list → (Sorts past → SortedType c.tags.made type) → (Sorts past → MembersSorted c.tags.made list) → Led (M past c) (member line name type list c)
member_rises past line name type list c h w m st sm = search (arith, led_unless, led_after, led_ok, rises_refl, with_member_rises, has_size, with_member_sorted)

-- members in braces are some

append_some : {X : Type 0} (xs : List X) (x : X) → xs ++ x ∷ [] ≡ [] → ⊥
append_some [] x e = cc
append_some (y ∷ xs) x e = cc

abbrev Keeps : d.Members → d.Members → Type 0
Keeps list more = more ≡ [] → list ≡ []

with_member_keeps : (line : ℕ) (name : Option (List ℕ)) (type : PlainType) (list more : d.Members) → with_member line name type list ≡ Ok more → Keeps list more
with_member_keeps line name type list more q e = search (arith, ok_same, append_some, behind_test) fits 100

with_member_some : (line : ℕ) (name : Option (List ℕ)) (type : PlainType) (list more : d.Members) → is_some name ≡ true → with_member line name type list ≡ Ok more → more ≡ [] → ⊥
with_member_some line name type list more s q e = search (arith, append_some, ok_same, behind_test) fits 100

member_is : (line : ℕ) (name : Option (List ℕ)) (type : PlainType) (list : d.Members) (c : Context) (m : Context × d.Members) → member line name type list c ≡ Ok m → with_member line name type list ≡ Ok m.1
member_is line name type list c m q = search (arith, behind_test, came, ok_same)

names_keep : (parts : Trees) (line : ℕ) (base : PlainType) (list : d.Members) (c : Context) (z : Context × d.Members) → member_names line base parts list c ≡ Ok z → Keeps list z.1
unfolding member_names
names_keep none line base list c z q e = ap (λ (x : Context × d.Members). x.1) (ok_same (c, list) z q) ∙ e
names_keep (declarator ▹ rest) line base list c z q e =
    let l = came (layers declarator c) q in
    let t = came (with_layers l.value.0.tags l.value.1 base) l.last in
    let m = came (member line (name_of declarator) t.value list l.value.0) t.last in
    with_member_keeps line (name_of declarator) t.value list m.value.1 (member_is line (name_of declarator) t.value list l.value.0 m.value m.is) (names_keep rest line base m.value.1 m.value.0 z m.last e)

names_some : (parts : Trees) (line : ℕ) (base : PlainType) (list : d.Members) (c : Context) (z : Context × d.Members) → HasParts f.MemberNames parts → member_names line base parts list c ≡ Ok z → z.1 ≡ [] → ⊥
unfolding member_names HasParts
names_some none line base list c z h q e = h
names_some (declarator ▹ rest) line base list c z h q e =
    let l = came (layers declarator c) q in
    let t = came (with_layers l.value.0.tags l.value.1 base) l.last in
    let m = came (member line (name_of declarator) t.value list l.value.0) t.last in
    with_member_some line (name_of declarator) t.value list m.value.1 h (member_is line (name_of declarator) t.value list l.value.0 m.value m.is) (names_keep rest line base m.value.1 m.value.0 z m.last e)

members_keep : (parts : Trees) (list : d.Members) (c : Context) (z : Context × d.Members) → members parts list c ≡ Ok z → Keeps list z.1
unfolding members
members_keep none list c z q e = ap (λ (x : Context × d.Members). x.1) (ok_same (c, list) z q) ∙ e
members_keep (Node f.Member (At line ▹ words ▹ Node f.MemberNames declarators ▹ none) ▹ rest) list c z q e =
    let base = came (specs words c) q in
    let m = came (member_names line base.value.1 declarators list base.value.0) base.last in
    names_keep declarators line base.value.1 list base.value.0 m.value m.is (members_keep rest m.value.1 m.value.0 z m.last e)
members_keep (tree ▹ rest) list c z q e = never _ _ z q

members_some : (parts : Trees) (list : d.Members) (c : Context) (z : Context × d.Members) → HasParts f.Members parts → AllWritten parts → members parts list c ≡ Ok z → z.1 ≡ [] → ⊥
unfolding members HasParts Written AllWritten
members_some none list c z h w q e = h
members_some (Node f.Member (At line ▹ words ▹ Node f.MemberNames declarators ▹ none) ▹ rest) list c z h w q e = search (arith, came, names_some, members_keep)
members_some (tree ▹ rest) list c z h w q e = never _ _ z q

-- enumerators

enumerator_rises : (line : ℕ) (name : List ℕ) (value : ℤ) (c : Context) → Solid c → Led (R1 c) (enumerator line name value c)
enumerator_rises line name value c h = search (arith, led_after, led_ok, declared_rises, wrapped_number)

enum_rises : (line : ℕ) (name : Option (List ℕ)) (c : Context) → Solid c → Led (T c) (enum_named line name c)
enum_rises line name c h = search (arith, led_ok, rises_refl, led_unless, named_rises) fits 100

-- scopes of parameters

pub entered_solid : (c : Context) → Solid c → Solid (entered c)
entered_solid c h = record { made = h.made; names = entered_fit (NamedWhole (K c)) (NamedWhole (K c)) c.scopes h.names; list = h.list; memory = h.memory; result = h.result; statics = h.statics; functions = h.functions }

left_params_rises : (c x : Context) → Rises (entered c) x → Rises c (left_params x)
left_params_rises c x p = search (arith, left_fit, first_fits, entered_fit) fits 100

no_params : (c : Context) → Solid c → Rises c (record c { params = [] })
no_params c h = record { solid = record { made = h.made; names = h.names; list = λ name v e. cc; memory = h.memory; result = h.result; statics = h.statics; functions = h.functions }; more = extends_refl (K c); kinds = record { made = λ i u e. e; sorts = λ ks. record { names = ks.names; list = none_fits (SortedName c.tags.made); bodies = ks.bodies } }; code = λ k. k; cases = λ k. k; walked = λ k. k }

t_on : (a b : Context) (z : Context × PlainType) → Rises a b → T b z → T a z
t_on a b z x y = (rises_trans a b z.0 x y.0, y.1, λ ks. y.2 (x.kinds.sorts ks))

mutual
  unfolding specs words_type tag_type members member_names enumerators layers suffix_layers suffix_layer params Written AllWritten HasParts

  pub specs_rise : (tree : Tree) (c : Context) → Solid c → Written tree → Led (T c) (specs tree c)
  specs_rise (Node f.Specs (At line ▹ words)) c h w = words_rise words line words c h w.1.1
  specs_rise tree c h w = led_refused (T c)

  words_rise : (rest : Trees) (line : ℕ) (words : Trees) (c : Context) → Solid c → AllWritten rest → Led (T c) (words_type line words rest c)
  words_rise none line words c h w = led_ok (T c) (rises_refl c h, word_whole c.tags.completed h.made words, λ ks. word_sorted c.tags.made words)
  words_rise (Leaf word ▹ rest) line words c h w = words_rise rest line words c h w.1
  words_rise (At at ▹ rest) line words c h w = words_rise rest line words c h w.1
  words_rise (Node form parts ▹ rest) line words c h w = tag_rises (Node form parts) line c h w.0

  tag_rises : (tree : Tree) (line : ℕ) (c : Context) → Solid c → Written tree → Led (T c) (tag_type line tree c)
  tag_rises (Node (f.RecordBody sort) (At at ▹ Node f.MaybeName name ▹ Node f.Members parts ▹ none)) line c h w =
      let start = begun sort (maybe_name name) c in
      let b = begun_rises sort (maybe_name name) c h in
      led_after (T c) (members parts [] start.0)
      (λ m q. let k = members_rise c parts [] start.0 b.solid w.1.1.1.0.1 tt b.kinds.sorts (λ ks. tt) m q in
      ended_rises at sort start.1 c m.0 m.1 (rises_trans c start.0 m.0 b k.0) k.1 (members_some parts [] start.0 m w.1.1.1.0.0 w.1.1.1.0.1 q) k.2 (λ ks. type_longer start.1 start.0.tags.made m.0.tags.made k.0.kinds.made (begun_sorted sort (maybe_name name) c ks)))
  tag_rises (Node (f.EnumBody trailing) (At at ▹ Node f.MaybeName name ▹ Node f.Enumerators parts ▹ none)) line c h w =
      led_after (T c) (enumerators parts (pos 0) c)
      (λ e q. let k = enumerators_rise parts (pos 0) c h w.1.1.1.0.1 e q in (λ z s. t_on c e z k (enum_rises at (maybe_name name) e k.solid z s)))
  tag_rises tree line c h w = with_type_rises line tree c h

  members_rise : (past : Context) (parts : Trees) (list : d.Members) (c : Context) → Solid c → AllWritten parts → MembersWhole (K c) list → (Sorts past → Sorts c) → (Sorts past → MembersSorted c.tags.made list) → Led (M past c) (members parts list c)
  members_rise past none list c h w m ss sm = led_ok (M past c) (rises_refl c h, m, sm)
  members_rise past (Node f.Member (At line ▹ words ▹ Node f.MemberNames declarators ▹ none) ▹ rest) list c h w m ss sm =
      led_after (M past c) (specs words c)
      (λ base q. let b = specs_rise words c h w.0.1.1.0 base q in
      led_after (M past c) (member_names line base.1 declarators list base.0)
      (λ x s. let k = member_names_rise past declarators line base.1 list base.0 b.0.solid w.0.1.1.1.0.1 b.1 (members_stay list (K c) (K base.0) b.0.more m) (λ a. b.0.kinds.sorts (ss a)) (λ a. b.2 (ss a)) (λ a. members_longer list c.tags.made base.0.tags.made b.0.kinds.made (sm a)) x s in
      (λ z t. let y = members_rise past rest x.1 x.0 k.0.solid w.1 k.1 (λ a. k.0.kinds.sorts (b.0.kinds.sorts (ss a))) k.2 z t in (rises_trans c base.0 z.0 b.0 (rises_trans base.0 x.0 z.0 k.0 y.0), y.1, y.2))))
  members_rise past (tree ▹ rest) list c h w m ss sm = led_refused (M past c)

  member_names_rise : (past : Context) (parts : Trees) (line : ℕ) (base : PlainType) (list : d.Members) (c : Context) → Solid c → AllWritten parts → Whole (K c) base → MembersWhole (K c) list → (Sorts past → Sorts c) → (Sorts past → SortedType c.tags.made base) → (Sorts past → MembersSorted c.tags.made list) → Led (M past c) (member_names line base parts list c)
  member_names_rise past none line base list c h w t m ss st sm = led_ok (M past c) (rises_refl c h, m, sm)
  member_names_rise past (declarator ▹ rest) line base list c h w t m ss st sm =
      led_after (M past c) (layers declarator c)
      (λ l q. let k = layers_rise declarator c h w.0 l q in
      led_after (M past c) (with_layers l.0.tags l.1 base)
      (λ type s. let y = with_layers_whole l.0.tags.completed l.0.tags l.1 base refl (whole_stays base (K c) (K l.0) k.0.more t) k.1 type s in
      led_after (M past c) (member line (name_of declarator) type list l.0)
      (λ x v. let u = member_rises past line (name_of declarator) type list l.0 k.0.solid y (members_stay list (K c) (K l.0) k.0.more m)
      (λ a. with_layers_sorted l.0.tags.made l.0.tags l.1 base (type_longer base c.tags.made l.0.tags.made k.0.kinds.made (st a)) type s) (λ a. members_longer list c.tags.made l.0.tags.made k.0.kinds.made (sm a)) x v in
      let more : Rises c x.0 = rises_trans c l.0 x.0 k.0 u.0 in
      (λ z a. let last = member_names_rise past rest line base x.1 x.0 u.0.solid w.1 (whole_stays base (K c) (K x.0) more.more t) u.1 (λ p. more.kinds.sorts (ss p)) (λ p. type_longer base c.tags.made x.0.tags.made more.kinds.made (st p)) u.2 z a in (rises_trans c x.0 z.0 more last.0, last.1, last.2)))))

  enumerators_rise : (parts : Trees) (next : ℤ) (c : Context) → Solid c → AllWritten parts → Led (Rises c) (enumerators parts next c)
  enumerators_rise none next c h w = led_ok (Rises c) (rises_refl c h)
  enumerators_rise (Node f.Enumerator (At line ▹ Leaf (w.Name name) ▹ Node f.MaybeValue none ▹ none) ▹ rest) next c h w =
      led_after (Rises c) (enumerator line name next c)
      (λ e q. let k = enumerator_rises line name next c h e q in (λ z s. rises_trans c e.0 z k (enumerators_rise rest e.1 e.0 k.solid w.1 z s)))
  enumerators_rise (Node f.Enumerator (At line ▹ Leaf (w.Name name) ▹ Node f.MaybeValue (value ▹ none) ▹ none) ▹ rest) next c h w =
      led_after (Rises c) (constant value c)
      (λ k q. let a = constant_rises value c h k q in
      led_after (Rises c) (enumerator line name k.1.value k.0)
      (λ e s. let b = enumerator_rises line name k.1.value k.0 a.solid e s in (λ z t. rises_trans c k.0 z a (rises_trans k.0 e.0 z b (enumerators_rise rest e.1 e.0 b.solid w.1 z t)))))
  enumerators_rise (tree ▹ rest) next c h w = led_refused (Rises c)

  pub layers_rise : (tree : Tree) (c : Context) → Solid c → Written tree → Led (L c) (layers tree c)
  layers_rise (Node (f.Pointer consts) (At line ▹ declarator ▹ none)) c h w =
      led_after (L c) (layers declarator c) (λ l q. let k = layers_rise declarator c h w.1.1.0 l q in led_ok (L c) (k.0, (tt, k.1)))
  layers_rise (Node f.Direct (base ▹ Node f.Suffixes suffixes ▹ none)) c h w =
      led_after (L c) (layers base c)
      (λ l q. let k = layers_rise base c h w.1.0 l q in
      led_after (L c) (suffix_layers suffixes l.0)
      (λ s t. let m = suffixes_rise suffixes l.0 k.0.solid w.1.1.0.1 s t in
      led_ok (L c) (rises_trans c l.0 s.0 k.0 m.0, layers_append (K s.0) (reverse s.1) l.1 (layers_reverse (K s.0) s.1 m.1) (layers_stay l.1 (K l.0) (K s.0) m.0.more k.1))))
  layers_rise (Node f.Parens (At line ▹ declarator ▹ none)) c h w = layers_rise declarator c h w.1.1.0
  layers_rise tree c h w = led_ok (L c) (rises_refl c h, tt)

  suffixes_rise : (parts : Trees) (c : Context) → Solid c → AllWritten parts → Led (L c) (suffix_layers parts c)
  suffixes_rise none c h w = led_ok (L c) (rises_refl c h, tt)
  suffixes_rise (suffix ▹ rest) c h w =
      led_after (L c) (suffix_layer suffix c)
      (λ l q. let k = suffix_rises suffix c h w.0 l q in
      led_after (L c) (suffix_layers rest l.0)
      (λ more s. let m = suffixes_rise rest l.0 k.0.solid w.1 more s in led_ok (L c) (rises_trans c l.0 more.0 k.0 m.0, (layer_stays l.1 (K l.0) (K more.0) m.0.more k.1, m.1))))

  suffix_rises : (tree : Tree) (c : Context) → Solid c → Written tree → Led (LL c) (suffix_layer tree c)
  suffix_rises (Node f.ArraySuffix (At line ▹ Node f.MaybeLength none ▹ none)) c h w = led_ok (LL c) (rises_refl c h, tt)
  suffix_rises (Node f.ArraySuffix (At line ▹ Node f.MaybeLength (e ▹ none) ▹ none)) c h w =
      led_after (LL c) (wanted e (typed e (asked c)))
      (λ x q. let g = wanted_good c.tags.completed h.made e (typed e (asked c)) (typed_good c.tags.completed h.made e (asked c) (fit_of c h)) x q in
      led_after (LL c) (array_length (line_of e) x.1)
      (λ m s. led_ok (LL c) (told_rises c x.0 h g.0 (wanted_leads (asked c) e (typed e (asked c)) (typed_leads e (asked c)) x q), length_some c.tags.completed h.made (line_of e) x.1 m s)))
  suffix_rises (Node f.FunctionSuffix (At line ▹ Node f.Params parts ▹ none)) c h w =
      led_after (LL c) (params parts (entered c))
      (λ x q. let k = params_rise parts (entered c) (entered_solid c h) w.1.1.0.1 x q in led_ok (LL c) (left_params_rises c x.0 k.0, k.1))
  suffix_rises tree c h w = led_ok (LL c) (no_params c h, tt)

  params_rise : (parts : Trees) (c : Context) → Solid c → AllWritten parts → Led (P c) (params parts c)
  params_rise none c h w = led_ok (P c) (rises_refl c h, tt)
  params_rise (Node f.Param (At line ▹ words ▹ declarator ▹ none) ▹ rest) c h w =
      led_after (P c) (specs words c)
      (λ base q. let b = specs_rise words c h w.0.1.1.0 base q in
      led_after (P c) (layers declarator base.0)
      (λ l s. let k = layers_rise declarator base.0 b.0.solid w.0.1.1.1.0 l s in
      led_after (P c) (with_param_layers l.0.tags l.1 base.1)
      (λ type t. let y = with_param_layers_whole l.0.tags.completed l.0.tags l.1 base.1 refl (whole_stays base.1 (K base.0) (K l.0) k.0.more b.1) k.1 type t in
      led_after (P c) (param line (name_of declarator) (adjusted type) l.0)
      (λ x v. let u = param_rises line (name_of declarator) (adjusted type) l.0 k.0.solid (adjusted_whole l.0.tags.completed type y) (adjusted_flat type) x v in
      let far : Rises c x.0 = rises_trans c base.0 x.0 b.0 (rises_trans base.0 l.0 x.0 k.0 u.0) in
      led_after (P c) (params rest x.0)
      (λ more a. let m = params_rise rest x.0 u.0.solid w.1 more a in led_ok (P c) (rises_trans c x.0 more.0 far m.0, (whole_stays x.1 (K x.0) (K more.0) m.0.more u.1, m.1)))))))
  params_rise (tree ▹ rest) c h w = led_refused (P c)
