-- Whole types, and numbers, sizes and offsets in range.
use Rattle.core_soundness.proofs.Words.Std.{◌≤◌, ℕ, pos, Bool, true, false, cond, List, [], ◌∷◌, ◌++◌, arith, ◌≡◌, ℤ, is_some, Option, Some, None, unwrap_or, Ok, refl, sym, ap, ◌∙◌, subst, ◌==◌, not, map, fold, zip, option_map, bytes_eq, ◌+◌, ◌*◌, zero, suc, append_assoc, ltb-false, eqb-true, ints, SFits-int_wrap, w8, w16, w32, w64, find, option_or}
use Rattle.core_soundness.proofs.Words.Trees.{Tree, BinaryOp, UnaryOp}
use Rattle.core_soundness.proofs.Words.Types.{Known, no_layout, Placed, none_placed, offset_after, placed, layout_of, CompletedTag, known, layout_in, PlainMember, learn, tag_layout, member_layout, placed_members, members_in, PlainType, Int, Pointer, kind_of, Array, Layout, IntType, typed, promoted, common_type, moving, sum_types, difference_types, binary, PlainTyped, Operand, Number, PointerTo, Neither, operand, value, members_layout, keeps_union_rule}
use Rattle.core_soundness.proofs.Words.Core.{wrapped, IntKind, I8, U8, I16, U16, I32, U32, I64, U64, IsLayoutOfType, IsNumber, Mem, Atom, CmpOp, StmKind, Set, Load, Loadp, Test, Un, Bin, Cmp, Add, Sub, Off, Diff, Pcmp}
use Rattle.core_soundness.proofs.Words.Elaborating.{byte_layout, element_layout, Piece, Does, Here, Context, emit, here, integer_by, pointer_by, Variable, Walked, asked, told, Code, Found, valued, convert, atom_in, write, Spot, unused, size_or_zero, Local, Memory, Value, Empty, read_spot, valued_from, atom_of, convert_integer, tested, found, elements, struct_parts, parts_of, offset_among, offset_of, working, Working, Calculates, Shifts, Compares, Branches, convert_both, work, before_integer, move_pointer, between_pointers, pointer_beside, beside_integer, combine, combined, changed_to, member_address, reallocates, opened}
use Rattle.core_soundness.proofs.Words.Facts.{IsStep, AtomIn, KindIn, PiecesIn, IsElement, MemsLaid, VariablesLaid, WalkedLaid, Solid, Whole, AreMade, TableWhole, NamesWhole, MembersWhole}
use Rattle.hs_base.specs.NumbersEquations.{low_bits_lt}
use Rattle.c_types.specs.TagTableEquations.{Extends, sized_stays, layout_stays, some_array}
use Rattle.c_types.specs.TagTableEquations.{stays_known}
use Rattle.c_types.specs.LayoutsEquations.{rounded_le}
use Rattle.c_types.specs.Layouts.{place}
use Rattle.core_tree.specs.declared.statements.Atom.TheVariants as atom
use Rattle.core_tree.specs.declared.statements.CmpOp.TheVariants as cmp
use Rattle.core_tree.specs.declared.statements.UnOp.TheVariants as un
use Rattle.c_tree.specs.declared.operator.BinaryOp.TheVariants as b
use Rattle.c_tree.specs.declared.operator.UnaryOp.TheVariants as u
use Rattle.c_decls.specs.TypeNames as names
use Rattle.core_soundness.proofs.Agreeing.{unused_agrees, found_agrees, came}
use Rattle.core_soundness.proofs.CodeWalk.{quiet_convert, quiet_write}
use Rattle.core_soundness.proofs.Growth.{Grows, Kept, grows_refl, valued_unused, ok_same, never, behind_test}
use Rattle.core_soundness.proofs.TagSorts.{Leads, typed_leads, unused_leads, Kinds, kinds_refl, leads_kinds, leads_refl}
use Rattle.core_soundness.proofs.TypedWhole.{Fit, LayersWhole, LayerWhole, typed_good, unused_good}
use Rattle.core_soundness.proofs.Walks.{found_grows, grown_unused, grows_convert, grows_write}
use Rattle.core_soundness.proofs.WholeTypes.{nothing, all_stay, extends_refl, is_layout, made_sized, learn_extends, whole_stays, members_stay, some_layout, placed_far}
use Rattle.core_soundness.proofs.Choices.{either_way, some_same}

-- code whose numbers are in range, with one statement more

pub pieces_joined : (one other : List Piece) → PiecesIn one → PiecesIn other → PiecesIn (one ++ other)
pieces_joined [] other x y = y
pieces_joined (Does stm ∷ one) other x y = (x.0, pieces_joined one other x.1 y)
pieces_joined (Here label ∷ one) other x y = pieces_joined one other x y

-- the code of a context
abbrev pub In : Context → Type 0
In c = PiecesIn c.code.pieces

abbrev pub Has : Context × Atom → Type 0
Has z = In z.0 × AtomIn z.1

pub in_emit : (line : ℕ) (kind : StmKind) (c : Context) → In c → KindIn kind → In (emit line kind c)
in_emit line kind c h k = pieces_joined c.code.pieces (Does (record { line = line; kind = kind }) ∷ []) h (k, tt)

pub in_here : (label : ℕ) (c : Context) → In c → In (here label c)
in_here label c h = pieces_joined c.code.pieces (Here label ∷ []) h tt

pub in_integer : (line : ℕ) (kind : ℕ → StmKind) (c : Context) → In c → ((r : ℕ) → KindIn (kind r)) → Has (integer_by line kind c)
in_integer line kind c h k = (pieces_joined c.code.pieces _ h (k _, tt), tt)

pub in_pointer : (line : ℕ) (kind : ℕ → StmKind) (c : Context) → In c → ((r : ℕ) → KindIn (kind r)) → Has (pointer_by line kind c)
in_pointer line kind c h k = (pieces_joined c.code.pieces _ h (k _, tt), tt)

pub has_cond : (test : Bool) (x y : Context × Atom) → Has x → Has y → Has (cond test x y)
has_cond test x y g h = search arith fits 100

-- numbers

pub small_number : (k : ℕ) → k ≤ 268435456 → IsNumber (pos k)
small_number k h = (omega (arith, ints, h), omega (arith, ints, h))

pub small_step : (k : ℕ) → 1 ≤ k → k ≤ 268435456 → IsStep (pos k)
small_step k h g = (omega (arith, ints, h), omega (arith, ints, g))

pub zero_number : IsNumber (pos 0)
zero_number = small_number 0 (omega arith)

pub one_number : IsNumber (pos 1)
one_number = small_number 1 (omega arith)

-- what is known while a text is walked has whole types, and what was made so far has the layouts of types

-- numbers that registers hold
pub wrapped_number : (k : IntKind) (v : ℤ) → IsNumber (wrapped k v)
wrapped_number I8 v = (omega (arith, ints, SFits-int_wrap w8 v), omega (arith, ints, SFits-int_wrap w8 v))
wrapped_number U8 v = (omega (arith, ints, low_bits_lt 8 v), omega (arith, ints, low_bits_lt 8 v))
wrapped_number I16 v = (omega (arith, ints, SFits-int_wrap w16 v), omega (arith, ints, SFits-int_wrap w16 v))
wrapped_number U16 v = (omega (arith, ints, low_bits_lt 16 v), omega (arith, ints, low_bits_lt 16 v))
wrapped_number I32 v = (omega (arith, ints, SFits-int_wrap w32 v), omega (arith, ints, SFits-int_wrap w32 v))
wrapped_number U32 v = (omega (arith, ints, low_bits_lt 32 v), omega (arith, ints, low_bits_lt 32 v))
wrapped_number I64 v = (omega (arith, ints, SFits-int_wrap w64 v), omega (arith, ints, SFits-int_wrap w64 v))
wrapped_number U64 v = (omega (arith, ints, low_bits_lt 64 v), omega (arith, ints, low_bits_lt 64 v))

pub mems_push : (ms : List Mem) (m : Mem) → MemsLaid ms → IsLayoutOfType m.layout → MemsLaid (ms ++ m ∷ [])
mems_push [] m h k = (k, tt)
mems_push (x ∷ ms) m h k = (h.0, mems_push ms m h.1 k)

pub variables_push : (vs : List Variable) (v : Variable) → VariablesLaid vs → IsLayoutOfType v.layout → VariablesLaid (vs ++ v ∷ [])
variables_push [] v h k = (k, tt)
variables_push (x ∷ vs) v h k = (h.0, variables_push vs v h.1 k)

pub walked_push : (xs : List Walked) (x : Walked) → WalkedLaid xs → MemsLaid x.running.mems → WalkedLaid (xs ++ x ∷ [])
walked_push [] x h k = (k, tt)
walked_push (y ∷ xs) x h k = (h.0, walked_push xs x h.1 k)

abbrev pub K : Context → Known
K c = known c.tags.completed

-- what a part of a text leads to
pub record Widens (c d : Context) : Type 0 where
  pub solid : Solid d
  pub more : Extends (K c) (K d)
  pub kinds : Kinds c d

pub widens_refl : (c : Context) → Solid c → Widens c c
widens_refl c h = record { solid = h; more = extends_refl (K c); kinds = kinds_refl c }

pub widens_trans : (a b c : Context) → Widens a b → Widens b c → Widens a c
widens_trans a b c x y = record { solid = y.solid; more = λ tag l e. y.more tag l (x.more tag l e); kinds = record { made = λ i u e. y.kinds.made i u (x.kinds.made i u e); sorts = λ ks. y.kinds.sorts (x.kinds.sorts ks) } }

-- what keeps all of this
pub record Same (c d : Context) : Type 0 where
  pub known : asked d ≡ asked c
  pub params : d.params ≡ c.params
  pub mems : d.running.mems ≡ c.running.mems
  pub answer : d.running.answer ≡ c.running.answer
  pub variables : d.variables ≡ c.variables
  pub walked : d.walked ≡ c.walked

pub same_widens : (c d : Context) → Same c d → Solid c → Widens c d
same_widens c d e h = search (arith, nothing, leads_kinds, leads_refl)

-- what grew from the same context, with the same scopes and tags
pub same_by : (b c d : Context) → asked d ≡ asked c → Kept b c → Kept b d → Same c d
same_by b c d e x y = search

pub same_kept : (c d : Context) → asked d ≡ asked c → Kept c d → Same c d
same_kept c d e x = record { known = e; params = x.params; mems = x.mems; answer = x.answer; variables = x.variables; walked = x.walked }

-- full expressions

pub opened_widens : (e : Tree) (c : Context) → Solid c → Widens c (opened e c)
opened_widens e c h = either_way (Widens c) (reallocates c.scopes e) (record { solid = h; more = extends_refl (K c); kinds = kinds_refl c }) (record { solid = h; more = extends_refl (K c); kinds = kinds_refl c })

-- expressions

abbrev Fits_in : Context → names.Context → Type 0
Fits_in c n = (n.tags.completed ≡ c.tags.completed) × NamesWhole (K c) n.scopes

pub fit_of : (c : Context) (h : Solid c) → Fit c.tags.completed h.made (asked c)
fit_of c h = record { completed = refl; names = h.names }

found_fits : (c d : Context) → Solid c → Fits_in c (asked d) → Kept c d → Leads (asked c) (asked d) → Widens c d
found_fits c d h f k l =
    record {
      solid = record {
        made = subst (λ (x : List CompletedTag). AreMade nothing x) (sym f.0) h.made;
        names = subst (λ (x : List CompletedTag). NamesWhole (known x) d.scopes) (sym f.0) f.1;
        list = subst (λ (x : List CompletedTag). TableWhole (known x) d.params) (sym f.0) (subst (TableWhole (K c)) (sym k.params) h.list);
        memory = subst MemsLaid (sym k.mems) h.memory;
        result = subst (λ (x : List CompletedTag). Whole (known x) d.running.answer) (sym f.0) (subst (Whole (K c)) (sym k.answer) h.result);
        statics = subst VariablesLaid (sym k.variables) h.statics;
        functions = subst WalkedLaid (sym k.walked) h.functions;
      };
      more = λ tag l q. ap (λ (x : List CompletedTag). known x tag) f.0 ∙ q;
      kinds = leads_kinds c d l k.params f.0;
    }

-- an expression that was elaborated, and the value of one
pub record Gone (c : Context) (z : Context × Found) : Type 0 where
  pub rises : Widens c z.0
  pub grows : Grows c z.0
  pub whole : Whole (K z.0) z.1.typed.type

pub found_gone : (e : Tree) (wish : PlainType) (c : Context) (z : Context × Found) → Solid c → found e wish c ≡ Ok z → Gone c z
found_gone e wish c z h q =
    let g = typed_good c.tags.completed h.made e (asked c) (fit_of c h) (asked z.0, z.1.typed) (found_agrees e wish c z q) in
    let k = found_grows e wish c c (grows_refl c) z q in
    record { rises = found_fits c z.0 h (g.0.completed, g.0.names) k.kept (typed_leads e (asked c) (asked z.0, z.1.typed) (found_agrees e wish c z q)); grows = k; whole = subst (λ (x : List CompletedTag). Whole (known x) z.1.typed.type) (sym g.0.completed) g.1 }

pub unused_gone : (e : Tree) (wish : PlainType) (c : Context) (z : Context × Found) → Solid c → unused e (found e wish c) ≡ Ok z → Gone c z
unused_gone e wish c z h q =
    let agreed = unused_agrees e (found e wish c) (typed e (asked c)) z (λ x k. found_agrees e wish c x k) q in
    let g = unused_good c.tags.completed h.made e (typed e (asked c)) (typed_good c.tags.completed h.made e (asked c) (fit_of c h)) (asked z.0, z.1.typed) agreed in
    let k = grown_unused e c (found e wish c) (found_grows e wish c c (grows_refl c)) z q in
    record { rises = found_fits c z.0 h (g.0.completed, g.0.names) k.kept (unused_leads (asked c) e (typed e (asked c)) (typed_leads e (asked c)) (asked z.0, z.1.typed) agreed); grows = k; whole = subst (λ (x : List CompletedTag). Whole (known x) z.1.typed.type) (sym g.0.completed) g.1 }

pub value_gone : (e : Tree) (wish : PlainType) (c : Context) (z : Context × Found) → Solid c → valued e (found e wish c) ≡ Ok z → Gone c z
value_gone e wish c z h q = unused_gone e wish c z h (valued_unused e (found e wish c) z q)

-- the value of a full expression
pub full_value : (e : Tree) (wish : PlainType) (c : Context) (z : Context × Found) → Solid c → valued e (found e wish (opened e c)) ≡ Ok z → Widens c z.0
full_value e wish c z h q =
    let o = opened_widens e c h in widens_trans c (opened e c) z.0 o (value_gone e wish (opened e c) z o.solid q).rises

-- other scopes and tags that were asked for
pub told_widens : (c : Context) (n : names.Context) (h : Solid c) → Fit c.tags.completed h.made n → Leads (asked c) n → Widens c (told n c)
told_widens c n h f l = record {
  solid = record {
    made = subst (λ (x : List CompletedTag). AreMade nothing x) (sym f.completed) h.made;
    names = subst (λ (x : List CompletedTag). NamesWhole (known x) n.scopes) (sym f.completed) f.names;
    list = subst (λ (x : List CompletedTag). TableWhole (known x) c.params) (sym f.completed) h.list;
    memory = h.memory;
    result = subst (λ (x : List CompletedTag). Whole (known x) c.running.answer) (sym f.completed) h.result;
    statics = h.statics;
    functions = h.functions;
  };
  more = λ tag l q. ap (λ (x : List CompletedTag). known x tag) f.completed ∙ q;
  kinds = leads_kinds c (told n c) l refl f.completed;
}

pub told_whole : (c : Context) (n : names.Context) (h : Solid c) (type : PlainType) → Fit c.tags.completed h.made n → Whole (K c) type → Whole (K (told n c)) type
told_whole c n h type f w = subst (λ (x : List CompletedTag). Whole (known x) type) (sym f.completed) w

-- conversions and writes, behind what began at b
pub converted_widens : (line : ℕ) (b : Context) (type : PlainType) (z : Context × Found) → Grows b z.0 → Solid z.0 → Widens z.0 (convert line b.code type z.1.typed (atom_in z.1) z.0).0
converted_widens line b type z g h =
    let x = (convert line b.code type z.1.typed (atom_in z.1) z.0).0 in
    same_widens z.0 x (same_by b z.0 x (quiet_convert line b.code type z.1.typed (atom_in z.1) z.0) g.kept (grows_convert line b type z.1.typed (atom_in z.1) z.0 g).kept) h

pub write_widens : (line : ℕ) (type : PlainType) (spot : Spot) (a : Atom) (c : Context) → Solid c → Widens c (write line type spot a c)
write_widens line type spot a c h = same_widens c _ (same_kept c _ (quiet_write line type spot a c) (grows_write line type spot a c).kept) h

-- layers and members with more tags
pub layers_stay : (ls : List names.Layer) (j k : Known) → Extends j k → LayersWhole j ls → LayersWhole k ls
layers_stay [] j k x h = tt
layers_stay (names.PointerTo line ∷ ls) j k x h = (tt, layers_stay ls j k x h.1)
layers_stay (names.ArrayOf line None ∷ ls) j k x h = (tt, layers_stay ls j k x h.1)
layers_stay (names.ArrayOf line (Some m) ∷ ls) j k x h = (h.0, layers_stay ls j k x h.1)
layers_stay (names.FunctionOf line params ∷ ls) j k x h = (all_stay params j k x h.0, layers_stay ls j k x h.1)

pub layer_stays : (l : names.Layer) (j k : Known) → Extends j k → LayerWhole j l → LayerWhole k l
layer_stays l j k x h = (layers_stay (l ∷ []) j k x (h, tt)).0

-- the layout that something of a type has
pub laid : (c : Context) (type : PlainType) → Solid c → Whole (K c) type → is_some (layout_in c.tags type) ≡ true → IsLayoutOfType (unwrap_or (layout_in c.tags type) no_layout)
laid c type h w s = is_layout c.tags.completed type (unwrap_or (layout_in c.tags type) no_layout) h.made w (some_layout (layout_in c.tags type) s)

-- sizes and offsets that are in range

-- sizes of types

pub size_number : (c : Context) (type : PlainType) → Solid c → Whole (K c) type → IsNumber (pos (size_or_zero c type))
size_number c type h w = small_number (size_or_zero c type) (search (arith, made_sized) fits 100)

-- the elements of new objects
byte_element : IsElement byte_layout
byte_element = (small_step 1 (omega arith) (omega arith), is_layout [] (Int Rattle.c_types.specs.declared.types.IntType.TheVariants.Char) byte_layout tt tt refl)

pub wanted_element : (c : Context) (type : PlainType) → Solid c → Whole (K c) type → IsElement (element_layout c.tags type)
unfolding element_layout
wanted_element c (Pointer target) h w = search (arith, byte_element, made_sized, small_step, is_layout) fits 100
wanted_element c other h w = byte_element

-- offsets of members

abbrev OffsetsTo : ℕ → List (ℕ × Layout) → Type 0
OffsetsTo end [] = Unit {0}
OffsetsTo end (m ∷ ms) = (m.0 ≤ end) × OffsetsTo end ms

offsets_on : (one other : ℕ) (ms : List (ℕ × Layout)) → one ≤ other → OffsetsTo one ms → OffsetsTo other ms
offsets_on one other [] e h = tt
offsets_on one other (m ∷ ms) e h = (omega (arith, e, h.0), offsets_on one other ms e h.1)

offsets_push : (end : ℕ) (ms : List (ℕ × Layout)) (m : ℕ × Layout) → OffsetsTo end ms → m.0 ≤ end → OffsetsTo end (ms ++ m ∷ [])
offsets_push end [] m h k = (k, tt)
offsets_push end (x ∷ ms) m h k = (h.0, offsets_push end ms m h.1 k)

places_to : (u : Bool) (p : Placed) (ls : List Layout) → OffsetsTo p.end p.members → OffsetsTo (fold (place u) p ls).end (fold (place u) p ls).members
places_to u p [] h = h
places_to u p (l ∷ ls) h =
    let q = place u p l in
    let grown : p.end ≤ q.end = omega arith in
    let here : offset_after u p l ≤ q.end = omega arith in
    places_to u q ls (offsets_push q.end p.members (offset_after u p l, l) (offsets_on p.end q.end p.members grown h) here)

found_offset : (end : ℕ) (ms : List (List ℕ × PlainType)) (ps : List (ℕ × Layout)) (p : PlainMember → Bool) (m : PlainMember) → OffsetsTo end ps
    → find p (map (λ (x : (List ℕ × PlainType) × (ℕ × Layout)). record { name = x.0.0; type = x.0.1; offset = x.1.0 }) (zip ms ps)) ≡ Some m → m.offset ≤ end
found_offset end [] ps p m h e = cc
found_offset end (x ∷ ms) [] p m h e = cc
found_offset end (x ∷ ms) (y ∷ ps) p m h e = by (p (record { name = x.0; type = x.1; offset = y.0 })) (found_offset end ms ps p m h.1) e
  where
    rest : Option PlainMember
    rest = find p (map (λ (z : (List ℕ × PlainType) × (ℕ × Layout)). record { name = z.0.0; type = z.0.1; offset = z.1.0 }) (zip ms ps))

    by : (t : Bool) → (rest ≡ Some m → m.offset ≤ end) → cond t (Some (record { name = x.0; type = x.1; offset = y.0 })) rest ≡ Some m → m.offset ≤ end
    by true again q = let same : y.0 ≡ m.offset = ap (λ (o : Option PlainMember). (unwrap_or o m).offset) q in subst (λ (k : ℕ). k ≤ end) same h.0
    by false again q = again q

pub members_same : (ms : List (List ℕ × PlainType)) (j k : Known) → Extends j k → MembersWhole j ms → map (member_layout j) ms ≡ map (member_layout k) ms
members_same [] j k x h = refl
members_same (m ∷ ms) j k x h =
    let here : member_layout j m ≡ member_layout k m = ap (λ (o : Option Layout). unwrap_or o no_layout) (sized_stays j k x m.1 h.0.1) in
    ap (λ (l : Layout). l ∷ map (member_layout j) ms) here ∙ ap (λ (ls : List Layout). member_layout k m ∷ ls) (members_same ms j k x h.1)

made_end : (j : Known) (tags : List CompletedTag) (test : CompletedTag → Bool) (done : CompletedTag) → AreMade j tags → find test tags ≡ Some done → (placed done.is_union (map (member_layout (fold learn j tags)) done.members)).end ≤ 268435456
made_end j [] test done m e = cc
made_end j (t ∷ tags) test done m e = by (test t) (made_end (learn j t) tags test done m.1) e
  where
    far : Known
    far = fold learn (learn j t) tags

    by : (b : Bool) → (find test tags ≡ Some done → (placed done.is_union (map (member_layout far) done.members)).end ≤ 268435456) → cond b (Some t) (find test tags) ≡ Some done → (placed done.is_union (map (member_layout far) done.members)).end ≤ 268435456
    by true again q =
        let same : t ≡ done = ap (λ (o : Option CompletedTag). unwrap_or o done) q in
        let x : Extends j far = λ tag l h. stays_known (learn j t) tags tag l (learn_extends j t tag l h) in
        let here : (placed t.is_union (map (member_layout far) t.members)).end ≤ 268435456 = subst (λ (ls : List Layout). (placed t.is_union ls).end ≤ 268435456) (members_same t.members j far x m.0.1) (grind (arith, rounded_le, not, true, false, ltb-false)) in
        subst (λ (y : CompletedTag). (placed y.is_union (map (member_layout far) y.members)).end ≤ 268435456) same here
    by false again q = again q

among_small : (name : List ℕ) (o : Option (List PlainMember)) → ((members : List PlainMember) (m : PlainMember) → o ≡ Some members → find (λ (m : PlainMember). bytes_eq name m.name) members ≡ Some m → m.offset ≤ 268435456) → offset_among name o ≤ 268435456
among_small name None h = omega arith
among_small name (Some members) h = by (find (λ (m : PlainMember). bytes_eq name m.name) members) refl
  where
    by : (o : Option PlainMember) → find (λ (m : PlainMember). bytes_eq name m.name) members ≡ o → unwrap_or (option_map (λ (m : PlainMember). m.offset) o) 0 ≤ 268435456
    by None q = omega arith
    by (Some m) q = h members m refl q

pub offset_number : (c : Context) (name : List ℕ) (type : PlainType) → Solid c → IsNumber (pos (offset_of c.tags name type))
unfolding offset_of
offset_number c name type h = grind (arith, small_number, among_small, option_map, found_offset, places_to, made_end, nothing, bytes_eq, zero_number)

-- conversions and operators keep the numbers of statements in range

-- where an expression is
abbrev pub SpotIn : Spot → Type 0
SpotIn (Local r) = Unit {0}
SpotIn (Memory a) = AtomIn a
SpotIn (Value a) = AtomIn a
SpotIn Empty = Unit {0}

pub spot_atom : (spot : Spot) → SpotIn spot → AtomIn (atom_of spot)
spot_atom spot h = search arith fits 100

pub read_in : (line : ℕ) (type : PlainType) (spot : Spot) (c : Context) → In c → SpotIn spot → Has (read_spot line type spot c)
unfolding read_spot
read_in line (Int ty) (Local r) c g h = in_integer line (λ t. Set t (atom.Reg r)) c g (λ t. ((tt, tt), tt))
read_in line (Pointer target) (Local r) c g h = in_pointer line (λ t. Set t (atom.Reg r)) c g (λ t. ((tt, tt), tt))
read_in line (Int ty) (Memory a) c g h = in_integer line (λ t. Load (kind_of ty) t a) c g (λ t. ((h, tt), tt))
read_in line (Pointer target) (Memory a) c g h = in_pointer line (λ t. Loadp t a) c g (λ t. ((h, tt), tt))
read_in line type spot c g h = (g, spot_atom spot h)

pub valued_from_in : (tree : Tree) (c : Context) (e : Found) (z : Context × Found) → In c → SpotIn e.spot → valued_from tree c e ≡ Ok z → In z.0 × SpotIn z.1.spot
valued_from_in tree c e z g h q = search (arith, came, ok_same, read_in)

pub convert_integer_in : (line : ℕ) (ty source : IntType) (a : Atom) (c : Context) → In c → AtomIn a → Has (convert_integer line ty source a c)
unfolding convert_integer
convert_integer_in line ty source (atom.Int v) c g h = (g, wrapped_number (kind_of ty) v)
convert_integer_in line ty source a c g h = search (arith, has_cond, in_integer) fits 100

pub convert_in : (line : ℕ) (before : Code) (type : PlainType) (e : PlainTyped) (a : Atom) (c : Context) → PiecesIn before.pieces → In c → AtomIn a → Has (convert line before type e a c)
convert_in line before type e a c p g h = search (arith, convert_integer_in) fits 100

pub tested_in : (line : ℕ) (type : PlainType) (a : Atom) (c : Context) → In c → AtomIn a → Has (tested line type a c)
unfolding tested
tested_in line (Pointer target) a c g h = in_integer line (λ t. Test t a) c g (λ t. ((h, tt), tt))
tested_in line type a c g h = (g, h)

pub write_in : (line : ℕ) (type : PlainType) (spot : Spot) (a : Atom) (c : Context) → In c → SpotIn spot → AtomIn a → In (write line type spot a c)
unfolding write
write_in line type spot a c g s h = search (arith, in_emit) fits 100

-- operators

both_in : (line : ℕ) (to_left s : IntType) (x : Atom) (to_right t : IntType) (y : Atom) (c : Context) → In c → AtomIn x → AtomIn y
    → In (convert_both line to_left s x to_right t y c).0 × AtomIn (convert_both line to_left s x to_right t y c).1 × AtomIn (convert_both line to_left s x to_right t y c).2
both_in line to_left s x to_right t y c g h k = search (arith, convert_integer_in)

work_in : (line : ℕ) (how : Working) (s : IntType) (x : Atom) (t : IntType) (y : Atom) (c : Context) → In c → AtomIn x → AtomIn y → Has (work line how s x t y c)
work_in line (Calculates op) s x t y c g h k =
    let ty = common_type s t in
    let d = convert_both line ty s x ty t y c in
    let r = both_in line ty s x ty t y c g h k in
    in_integer line (λ r. Bin op (kind_of ty) r d.1 d.2) d.0 r.0 (λ i. ((r.1, (r.2, tt)), tt))
work_in line (Shifts op) s x t y c g h k =
    let d = convert_both line (promoted s) s x (promoted t) t y c in
    let r = both_in line (promoted s) s x (promoted t) t y c g h k in
    in_integer line (λ r. Bin op (kind_of (promoted s)) r d.1 d.2) d.0 r.0 (λ i. ((r.1, (r.2, tt)), tt))
work_in line (Compares op) s x t y c g h k =
    let ty = common_type s t in
    let d = convert_both line ty s x ty t y c in
    let r = both_in line ty s x ty t y c g h k in
    in_integer line (λ r. Cmp op r d.1 d.2) d.0 r.0 (λ i. ((r.1, (r.2, tt)), tt))
work_in line Branches s x t y c g h k = (g, h)

pub before_in : (line : ℕ) (op : UnaryOp) (ty : IntType) (x : Atom) (c : Context) → In c → AtomIn x → Has (before_integer line op ty x c)
unfolding before_integer
before_in line u.Minus ty x c g h =
    let d = convert_integer line (promoted ty) ty x c in
    let r = convert_integer_in line (promoted ty) ty x c g h in
    in_integer line (λ r. Un un.Neg (kind_of (promoted ty)) r d.1) d.0 r.0 (λ i. ((r.1, tt), tt))
before_in line u.Complement ty x c g h =
    let d = convert_integer line (promoted ty) ty x c in
    let r = convert_integer_in line (promoted ty) ty x c g h in
    in_integer line (λ r. Un un.Not (kind_of (promoted ty)) r d.1) d.0 r.0 (λ i. ((r.1, tt), tt))
before_in line op ty x c g h = convert_integer_in line (promoted ty) ty x c g h

abbrev pub Step : Context → PlainType → Type 0
Step c target = IsStep (pos (size_or_zero c target))

move_in : (line : ℕ) (op : BinaryOp) (target : PlainType) (p m : Atom) (c : Context) → In c → AtomIn p → AtomIn m → Step c target → Has (move_pointer line op target p m c)
unfolding move_pointer
move_in line b.Subtract target p m c g h k s = in_pointer line (λ r. Sub r p m (pos (size_or_zero c target))) c g (λ r. ((h, (k, tt)), s))
move_in line op target p m c g h k s = in_pointer line (λ r. Add r p m (pos (size_or_zero c target))) c g (λ r. ((h, (k, tt)), s))

-- a comparison needs no size
abbrev pub Needs : Working → Type 0 → Type 0
Needs (Compares op) S = Unit {0}
Needs how S = S

between_in : (line : ℕ) (how : Working) (target : PlainType) (p q : Atom) (c : Context) → In c → AtomIn p → AtomIn q → Needs how (Step c target) → Has (between_pointers line how target p q c)
between_in line (Compares op) target p q c g h k s = in_integer line (λ r. Pcmp op r p q) c g (λ r. ((h, (k, tt)), tt))
between_in line other target p q c g h k s = in_integer line (λ r. Diff r p q (pos (size_or_zero c target))) c g (λ r. ((h, (k, tt)), s))

first_in : (line : ℕ) (op : BinaryOp) (how : Working) (before : Code) (target : PlainType) (p m : Atom) (c : Context) → PiecesIn before.pieces → In c → AtomIn p → AtomIn m → Needs how (Step c target) → Has (pointer_beside line op how before target p m c)
first_in line op (Compares test) before target p m c f g h k s = in_integer line (λ r. Pcmp test r p atom.Null) (record c { code = before }) f (λ r. ((h, (tt, tt)), tt))
first_in line op other before target p m c f g h k s = move_in line op target p m c g h k s

last_in : (line : ℕ) (op : BinaryOp) (how : Working) (target : PlainType) (m p : Atom) (c : Context) → In c → AtomIn m → AtomIn p → Needs how (Step c target) → Has (beside_integer line op how target m p c)
last_in line op (Compares test) target m p c g h k s = in_integer line (λ r. Pcmp test r atom.Null p) c g (λ r. ((tt, (k, tt)), tt))
last_in line op other target m p c g h k s = move_in line op target p m c g k h s

-- the sizes that an operator needs
abbrev pub Steps : Working → Operand → Operand → Context → Type 0
Steps how (PointerTo target) (Number t) c = Needs how (Step c target)
Steps how (Number s) (PointerTo target) c = Needs how (Step c target)
Steps how (PointerTo target) (PointerTo other) c = Needs how (Step c target)
Steps how s t c = Unit {0}

combine_in : (line : ℕ) (op : BinaryOp) (before : Code) (s t : Operand) (x y : Atom) (c : Context) → PiecesIn before.pieces → In c → AtomIn x → AtomIn y → Steps (working op) s t c → Has (combine line op before s t x y c)
combine_in line op before s t x y c f g h k q = search (arith, work_in, first_in, last_in, between_in) fits 100

pub combined_in : (line : ℕ) (op : BinaryOp) (before : Code) (x y : Found) (c : Context) → PiecesIn before.pieces → In c → SpotIn x.spot → SpotIn y.spot → Steps (working op) (operand x.typed.type) (operand y.typed.type) c → Has (combined line op before x y c)
combined_in line op before x y c f g h k q = combine_in line op before (operand x.typed.type) (operand y.typed.type) (atom_in x) (atom_in y) c f g (spot_atom x.spot h) (spot_atom y.spot k) q

-- a type that is whole, as an operand
abbrev pub Pointed : Context → Operand → Type 0
Pointed c (Number ty) = Unit {0}
Pointed c (PointerTo target) = Whole (K c) target
Pointed c Neither = Unit {0}

pub pointed_of : (c : Context) (type : PlainType) → Whole (K c) type → Pointed c (operand type)
pointed_of c type h = search arith fits 100

pub moving_step : (line : ℕ) (c : Context) (target : PlainType) (x t : PlainTyped) → Solid c → Whole (K c) target → moving line c.tags target x ≡ Ok t → Step c target
moving_step line c target x t h w q = search (arith, made_sized, small_step) fits 100

needs_all : (how : Working) (S : Type 0) → S → Needs how S
needs_all how S x = search arith fits 100

compared_steps : (how : Working) (test : CmpOp) (s t : Operand) (c : Context) → how ≡ Compares test → Steps how s t c
compared_steps how test s t c e = grind arith

sum_steps : (how : Working) (line : ℕ) (c : Context) (x y z : PlainTyped) (s t : Operand) → Solid c → Pointed c s → Pointed c t → sum_types line c.tags x y s t ≡ Ok z → Steps how s t c
sum_steps how line c x y z (PointerTo target) (Number t) h p q e = needs_all how _ (moving_step line c target (value x.type) z h p e)
sum_steps how line c x y z (Number s) (PointerTo target) h p q e = needs_all how _ (moving_step line c target (value y.type) z h q e)
sum_steps how line c x y z (PointerTo target) (PointerTo other) h p q e = never _ _ z e
sum_steps how line c x y z other rest h p q e = tt

difference_steps : (how : Working) (line : ℕ) (c : Context) (x y z : PlainTyped) (s t : Operand) → Solid c → Pointed c s → Pointed c t → difference_types line c.tags x y s t ≡ Ok z → Steps how s t c
difference_steps how line c x y z (PointerTo target) (Number t) h p q e = needs_all how _ (moving_step line c target (value x.type) z h p e)
difference_steps how line c x y z s t h p q e = search (arith, needs_all, moving_step, behind_test, never) fits 100

-- `&&` and `||` are not among these
abbrev pub IsBetween : BinaryOp → Type 0
IsBetween b.And = ⊥
IsBetween b.Or = ⊥
IsBetween op = Unit {0}

pub binary_steps : (op : BinaryOp) (line : ℕ) (c : Context) (x y z : PlainTyped) → IsBetween op → Solid c → Whole (K c) x.type → Whole (K c) y.type → binary line op c.tags x y ≡ Ok z → Steps (working op) (operand x.type) (operand y.type) c
unfolding working
binary_steps b.Or line c x y z i h p q e = absurd i
binary_steps b.And line c x y z i h p q e = absurd i
binary_steps b.Add line c x y z i h p q e = sum_steps (working b.Add) line c x y z (operand x.type) (operand y.type) h (pointed_of c x.type p) (pointed_of c y.type q) e
binary_steps b.Subtract line c x y z i h p q e = difference_steps (working b.Subtract) line c x y z (operand x.type) (operand y.type) h (pointed_of c x.type p) (pointed_of c y.type q) e
binary_steps b.Less line c x y z i h p q e = compared_steps (working b.Less) cmp.Lt (operand x.type) (operand y.type) c refl
binary_steps b.Greater line c x y z i h p q e = compared_steps (working b.Greater) cmp.Gt (operand x.type) (operand y.type) c refl
binary_steps b.LessEqual line c x y z i h p q e = compared_steps (working b.LessEqual) cmp.Le (operand x.type) (operand y.type) c refl
binary_steps b.GreaterEqual line c x y z i h p q e = compared_steps (working b.GreaterEqual) cmp.Ge (operand x.type) (operand y.type) c refl
binary_steps b.Equal line c x y z i h p q e = compared_steps (working b.Equal) cmp.Eq (operand x.type) (operand y.type) c refl
binary_steps b.NotEqual line c x y z i h p q e = compared_steps (working b.NotEqual) cmp.Ne (operand x.type) (operand y.type) c refl
binary_steps op line c x y z i h p q e = search (arith, never) fits 100

pub changed_in : (line : ℕ) (op : BinaryOp) (type : PlainType) (old : Atom) (e : PlainTyped) (y : Atom) (c : Context) → In c → AtomIn old → AtomIn y → Steps Branches (operand type) (operand e.type) c → Has (changed_to line op type old e y c)
changed_in line op type old e y c g h k q = search (arith, work_in, convert_integer_in, move_in) fits 100

pub member_in : (line offset : ℕ) (p : Atom) (c : Context) → In c → AtomIn p → IsNumber (pos offset) → Has (member_address line offset p c)
member_in line offset p c g h k = in_pointer line (λ r. Off r p (pos offset)) c g (λ r. ((h, tt), k))

-- what initializers are for lies inside an object

abbrev pub Within : Known → PlainType → ℕ → Type 0
Within k type offset = (l : Layout) × (layout_of k type ≡ Some l) × (offset + l.size ≤ 268435456)

abbrev pub PartsIn : Known → List (PlainType × ℕ) → Type 0
PartsIn k [] = Unit {0}
PartsIn k (p ∷ ps) = (Whole k p.0 × Within k p.0 p.1) × PartsIn k ps

pub within_stays : (j k : Known) (type : PlainType) (offset : ℕ) → Extends j k → Within j type offset → Within k type offset
within_stays j k type offset x h = (h.0, layout_stays j k x type h.0 h.1, h.2)

pub parts_stay : (ps : List (PlainType × ℕ)) (j k : Known) → Extends j k → PartsIn j ps → PartsIn k ps
parts_stay [] j k x h = tt
parts_stay (p ∷ ps) j k x h = ((whole_stays p.0 j k x h.0.0, within_stays j k p.0 p.1 x h.0.1), parts_stay ps j k x h.1)

pub within_number : (k : Known) (type : PlainType) (offset : ℕ) → Within k type offset → IsNumber (pos offset)
within_number k type offset h = small_number offset (omega (arith, h.2))

-- elements of an array

elements_in : (k : Known) (asked n offset : ℕ) (l : Layout) (element : PlainType) → Whole k element → layout_of k element ≡ Some l → offset + n * l.size ≤ 268435456 → PartsIn k (elements asked n offset l.size element)
elements_in k zero n offset l element w e h = tt
elements_in k (suc asked) zero offset l element w e h = tt
elements_in k (suc asked) (suc n) offset l element w e h =
    let m : suc n * l.size ≡ l.size + n * l.size = omega arith in
    ((w, (l, e, omega (arith, h, m))), elements_in k asked n (offset + l.size) l element w e (omega (arith, h, m)))

-- members of a struct or union

abbrev pub rest_placed : Bool → Placed → List Layout → List (ℕ × Layout)
rest_placed u p [] = []
rest_placed u p (l ∷ ls) = (offset_after u p l, l) ∷ rest_placed u (place u p l) ls

pub fold_rest : (u : Bool) (p : Placed) (ls : List Layout) → (fold (place u) p ls).members ≡ p.members ++ rest_placed u p ls
fold_rest u p [] = sym (Rattle.std.proofs.Common.append-nil p.members)
fold_rest u p (l ∷ ls) = fold_rest u (place u p l) ls ∙ append_assoc p.members ((offset_after u p l, l) ∷ []) (rest_placed u (place u p l) ls)

abbrev RowsIn : Known → ℕ → List (List ℕ × PlainType) → List (ℕ × Layout) → Type 0
RowsIn k end [] ps = Unit {0}
RowsIn k end (m ∷ ms) [] = Unit {0}
RowsIn k end (m ∷ ms) (p ∷ ps) = (p.0 + (member_layout k m).size ≤ end) × RowsIn k end ms ps

rows_rest : (k : Known) (u : Bool) (p : Placed) (ms : List (List ℕ × PlainType)) → RowsIn k (fold (place u) p (map (member_layout k) ms)).end ms (rest_placed u p (map (member_layout k) ms))
unfolding rest_placed
rows_rest k u p [] = tt
rows_rest k u p (m ∷ ms) =
    let l = member_layout k m in
    let q = place u p l in
    let here : offset_after u p l + l.size ≤ q.end = omega arith in
    let far = placed_far u q (map (member_layout k) ms) in
    (omega (arith, here, far), rows_rest k u q ms)

placed_rows : (k : Known) (u : Bool) (ms : List (List ℕ × PlainType)) → RowsIn k (placed u (map (member_layout k) ms)).end ms (placed u (map (member_layout k) ms)).members
placed_rows k u ms = subst (λ (ps : List (ℕ × Layout)). RowsIn k (placed u (map (member_layout k) ms)).end ms ps) (sym (fold_rest u none_placed (map (member_layout k) ms))) (rows_rest k u none_placed ms)

rows_parts : (k : Known) (end offset : ℕ) (ms : List (List ℕ × PlainType)) (ps : List (ℕ × Layout)) → MembersWhole k ms → RowsIn k end ms ps → offset + end ≤ 268435456
    → PartsIn k (map (λ (m : PlainMember). (m.type, offset + m.offset)) (map (λ (x : (List ℕ × PlainType) × (ℕ × Layout)). record { name = x.0.0; type = x.0.1; offset = x.1.0 }) (zip ms ps)))
rows_parts k end offset [] ps w h e = tt
rows_parts k end offset (m ∷ ms) [] w h e = tt
rows_parts k end offset (m ∷ ms) (p ∷ ps) w h e =
    ((w.0.0, (member_layout k m, some_layout (layout_of k m.1) w.0.1, omega (arith, h.0, e))), rows_parts k end offset ms ps w.1 h.1 e)

-- the layout of a tag that was completed
pub learnt : (j : Known) (t : CompletedTag) (tag : ℕ) → j tag ≡ None → (t.tag == tag) ≡ true → learn j t tag ≡ Some (tag_layout j t)
learnt j t tag e q = ap (λ (o : Option Layout). option_or o (cond (t.tag == tag) (Some (tag_layout j t)) None)) e ∙ ap (λ (b : Bool). cond b (Some (tag_layout j t)) None) q

pub record TagIs (k : Known) (done : CompletedTag) (l : Layout) : Type 0 where
  pub members : MembersWhole k done.members
  pub is : members_layout done.is_union (map (member_layout k) done.members) ≡ l
  pub rule : done.is_union ≡ true → keeps_union_rule (map (member_layout k) done.members) ≡ true

pub tag_at : (j : Known) (tags : List CompletedTag) (tag : ℕ) (done : CompletedTag) (l : Layout) → AreMade j tags → find (λ (d : CompletedTag). d.tag == tag) tags ≡ Some done → fold learn j tags tag ≡ Some l → TagIs (fold learn j tags) done l
tag_at j [] tag done l m e h = cc
tag_at j (t ∷ tags) tag done l m e h = by (t.tag == tag) refl (λ q. tag_at (learn j t) tags tag done l m.1 q h) e
  where
    far : Known
    far = fold learn (learn j t) tags

    by : (b : Bool) → (t.tag == tag) ≡ b → (find (λ (d : CompletedTag). d.tag == tag) tags ≡ Some done → TagIs far done l) → cond b (Some t) (find (λ (d : CompletedTag). d.tag == tag) tags) ≡ Some done → TagIs far done l
    by true s again q =
        let same : t ≡ done = ap (λ (o : Option CompletedTag). unwrap_or o done) q in
        let x : Extends j far = λ tag l h. stays_known (learn j t) tags tag l (learn_extends j t tag l h) in
        let once : j tag ≡ None = ap j (sym (eqb-true t.tag tag s)) ∙ m.0.0.once in
        let is : tag_layout j t ≡ l = some_same (tag_layout j t) l (sym (stays_known (learn j t) tags tag (tag_layout j t) (learnt j t tag once s)) ∙ h) in
        let ms : map (member_layout j) t.members ≡ map (member_layout far) t.members = members_same t.members j far x m.0.1 in
        subst (λ (y : CompletedTag). TagIs far y l) same
        (record {
          members = members_stay t.members j far x m.0.1;
          is = ap (λ (ls : List Layout). members_layout t.is_union ls) (sym ms) ∙ is;
          rule = λ u. subst (λ (ls : List Layout). keeps_union_rule ls ≡ true) ms (search arith fits 100);
        })
    by false s again q = again q

struct_in : (c : Context) (tag offset : ℕ) (l : Layout) → Solid c → K c tag ≡ Some l → offset + l.size ≤ 268435456 → PartsIn (K c) (struct_parts offset (members_in c.tags tag))
struct_in c tag offset l h e s = by (find (λ (d : CompletedTag). d.tag == tag) c.tags.completed) refl
  where
    by : (o : Option CompletedTag) → find (λ (d : CompletedTag). d.tag == tag) c.tags.completed ≡ o → PartsIn (K c) (struct_parts offset (option_map (placed_members (K c)) o))
    by None q = tt
    by (Some done) q =
        let d = tag_at nothing c.tags.completed tag done l h.made q e in
        let all = placed done.is_union (map (member_layout (K c)) done.members) in
        rows_parts (K c) all.end offset done.members all.members d.members (placed_rows (K c) done.is_union done.members) (let near : all.end ≤ l.size = subst (λ (y : Layout). all.end ≤ y.size) d.is (rounded_le all.end all.align) in omega (arith, near, s))

pub parts_in : (c : Context) (asked : ℕ) (type : PlainType) (offset : ℕ) → Solid c → Whole (K c) type → Within (K c) type offset → PartsIn (K c) (parts_of c asked type offset)
unfolding parts_of
parts_in c asked type offset h w v = search (arith, some_array, option_map, elements_in, struct_in) fits 100

-- at the start of an object
pub starts_within : (c : Context) (type : PlainType) (l : Layout) → Solid c → Whole (K c) type → layout_of (K c) type ≡ Some l → Within (K c) type 0
starts_within c type l h w e = let s = made_sized c.tags.completed type l h.made w e in (l, e, omega (arith, s.1))

-- a row of characters is no longer than an object
pub row_short : (c : Context) (element : PlainType) (n : ℕ) → Solid c → Whole (K c) (Array element n) → n ≤ 268435456
row_short c element n h w = grind (arith, made_sized, zero)
