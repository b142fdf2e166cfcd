-- Fixed addresses and pointers of statics are those of objects that are there.
use Rattle.core_soundness.proofs.Words.Std.{◌≡◌, ◌≤◌, ◌+◌, ◌&&◌, ℕ, ℤ, pos, negsuc, neg_ℤ, ◌+ℤ◌, Bool, true, false, cond, length, is_some, List, [], ◌∷◌, ◌++◌, slice_get, Option, Some, None, Ok, refl, sym, ap, ◌∙◌, subst, arith, not, and_parts, leb-true, eq-eqb, option_or, int_eq, int_le, nat_le, unsigned_abs}
use Rattle.core_soundness.proofs.Words.Trees.{Tree, Trees, Leaf, At, Node, none, ◌▹◌, count, AssignOp, BinaryOp, UnaryOp}
use Rattle.core_soundness.proofs.Words.Types.{PlainType, Void, Array, Layout, named, Callee, line_of, string, int_constant, char_constant, joined, typed, typename, PlainNamed, element, dot, arrow, choice, assigned, unconverted, Checked, refused, then, Table, named_in, found_from, found as declaration, binary, address, PlainTyped, Operand, Number, operand, read, is_null_constant, is_record, constant, StaticTooLarge, Assignment, Folded}
use Rattle.core_soundness.proofs.Words.Core.{block_size, Start, Atom}
use Rattle.core_soundness.proofs.Words.Elaborating.{record_assigned, scalar_assigned, old_value, changed_by, one_found, stepped, Argument, Code, Context, Variable, With, file_variable, literal_object, asked, told, new_label, Found, Fixed, Unknown, Nowhere, Inside, atom_in, code_line, read_spot, read_fixed, valued_from, valued, convert, unused, name_answer, literal_answer, address_answer, unevaluated, changing, comma_answer, callee, callee_name, parameters, call_answer, found, arguments, cast_operand, Target, InRegister, InMemory, InStatic, static_address, static_scalar, fill_scalar, scalar, whole, fill_text, is_character, text, by_text, by_expression, parts_of, takes_braces, is_scalar_type, all_surplus, initialize, initialize_parts, static_size, moved_by, moved_times, fixed_sum_of, fixed_sum, combined, offset_of, member_address, opened, object_found, name_found, is_inner, with_static, with_literal, literal_found, indexed, dotted, target_of, pointed, before_number, apply, applied, tells_equal, is_pointer_ahead, ahead, left_operand, between, cast_to, constant_found, and_then, and_ended, or_else, or_ended, choose, type_ahead, choose_first, chosen}
use Rattle.c_types.specs.Types as ct
use Rattle.c_tree.specs.Forms as f
use Rattle.c_tree.specs.Words as w
use Rattle.c_tree.specs.declared.operator.AssignOp.TheVariants as a
use Rattle.c_tree.specs.declared.operator.BinaryOp.TheVariants as b
use Rattle.c_tree.specs.declared.operator.UnaryOp.TheVariants as u
use Rattle.c_decls.specs.Named as n
use Rattle.c_decls.specs.TypeNames as names
use Rattle.core_soundness.proofs.Agreeing.{came}
use Rattle.core_soundness.proofs.Growth.{Longer, Grows, grows_refl, grows_trans, grows_told, ok_same, never, Settled, grows_settled, valued_unused, cast_unused, Led, led_ok, led_refused, led_after, led_unless, led_barred, settled_refl, settled_trans, behind_string}
use Rattle.core_soundness.proofs.Scopes.{more_refl, get_last}
use Rattle.core_soundness.proofs.Sorting.{passed}
use Rattle.core_soundness.proofs.TagSorts.{typename_after}
use Rattle.core_soundness.proofs.TypedWhole.{led_cond}
use Rattle.core_soundness.proofs.Walks.{grows_convert, found_grows, grown_unused, Made, grows_writes}
use Rattle.core_soundness.proofs.Choices.{either_way}
use Rattle.core_soundness.proofs.CodeWalk.{read_keeps, combined_keeps, member_keeps, left_keeps}

-- fixed addresses are those of objects that are there, at offsets up to their ends (C99 6.6)

-- an offset in a static that is there, up to its end
pub data Aims (vs : List Variable) (ls : List (List ℕ)) (g n : ℕ) : Type 0 where
  in_variable : (k : ℕ) (v : Variable) (at : g ≡ file_variable k) (there : slice_get vs k ≡ Some v) (inside : n ≤ v.layout.size) → Aims vs ls g n
  in_literal : (k : ℕ) (bytes : List ℕ) (at : g ≡ literal_object k) (there : slice_get ls k ≡ Some bytes) (inside : n ≤ length bytes + 1) → Aims vs ls g n

abbrev pub FixedIn : List Variable → List (List ℕ) → Fixed → Type 0
FixedIn vs ls Unknown = Unit {0}
FixedIn vs ls Nowhere = Unit {0}
FixedIn vs ls (Inside g at) = (n : ℕ) × (at ≡ pos n) × Aims vs ls g n

-- in a context
abbrev pub FixedAt : Context → Fixed → Type 0
FixedAt c fixed = FixedIn c.variables c.literals fixed

-- variables stay where they are, with their layouts
abbrev pub VariablesStay : List Variable → List Variable → Type 0
VariablesStay vs ws = (k : ℕ) (v : Variable) → slice_get vs k ≡ Some v → (w : Variable) × (slice_get ws k ≡ Some w) × (w.layout ≡ v.layout)

pub same_variables : (vs ws : List Variable) → ws ≡ vs → VariablesStay vs ws
same_variables vs ws e k v q = (v, subst (λ (xs : List Variable). slice_get xs k ≡ Some v) (sym e) q, refl)

pub aims_stay : (vs ws : List Variable) (ls ms : List (List ℕ)) (g i : ℕ) → VariablesStay vs ws → Longer ls ms → Aims vs ls g i → Aims ws ms g i
aims_stay vs ws ls ms g i x y (in_variable k v at there inside) = let r = x k v there in in_variable k r.0 at r.1 (subst (λ (l : Layout). i ≤ l.size) (sym r.2) inside)
aims_stay vs ws ls ms g i x y (in_literal k bytes at there inside) = in_literal k bytes at (y k bytes there) inside

pub fixed_stays : (vs ws : List Variable) (ls ms : List (List ℕ)) (fixed : Fixed) → VariablesStay vs ws → Longer ls ms → FixedIn vs ls fixed → FixedIn ws ms fixed
fixed_stays vs ws ls ms (Inside g at) x y h = (h.0, h.1, aims_stay vs ws ls ms g h.0 x y h.2)
fixed_stays vs ws ls ms other x y h = tt

pub fixed_on : (c d : Context) (fixed : Fixed) → Settled c d → FixedAt c fixed → FixedAt d fixed
fixed_on c d fixed s h = fixed_stays c.variables d.variables c.literals d.literals fixed (same_variables c.variables d.variables s.variables) s.literals h

-- each object that has a name at file scope is there
abbrev pub ObjectsThere : List Variable → Table → Type 0
ObjectsThere vs file = (name : List ℕ) (type : PlainType) (i : ℕ) → named_in name file ≡ Some (n.Object type i) → (v : Variable) × (slice_get vs i ≡ Some v)

abbrev pub There : Context → Type 0
There c = ObjectsThere c.variables c.scopes.file

pub there_on : (c d : Context) → Settled c d → There c → There d
there_on c d s h name type i e = search arith

-- moving

-- another offset up to the end
aims_at : (c : Context) (g i m : ℕ) → m ≤ static_size c g → Aims c.variables c.literals g i → Aims c.variables c.literals g m
aims_at c g i m h (in_variable k v at there inside) =
    let room : static_size c g ≡ v.layout.size = ap (static_size c) at ∙ (search (arith, eq-eqb)) in in_variable k v at there (omega (arith, h, room))
aims_at c g i m h (in_literal k bytes at there inside) =
    let room : static_size c g ≡ length bytes + 1 = ap (static_size c) at ∙ (search arith) in in_literal k bytes at there (omega (arith, h, room))

moved_to : (c : Context) (g i : ℕ) (to : ℤ) → Aims c.variables c.literals g i → FixedAt c (cond (int_le (pos 0) to && int_le to (pos (static_size c g))) (Inside g to) Unknown)
moved_to c g i (pos m) h = by (int_le (pos 0) (pos m) && int_le (pos m) (pos (static_size c g))) refl
  where
    by : (t : Bool) → (int_le (pos 0) (pos m) && int_le (pos m) (pos (static_size c g))) ≡ t → FixedAt c (cond t (Inside g (pos m)) Unknown)
    by true e =
        let le : nat_le m (static_size c g) ≡ true = (and_parts (int_le (pos 0) (pos m)) (int_le (pos m) (pos (static_size c g))) e).1 in
        (m, refl, aims_at c g i m (leb-true m (static_size c g) le) h)
    by false e = tt
moved_to c g i (negsuc m) h = tt

pub moved_in : (c : Context) (distance : ℤ) (fixed : Fixed) → FixedAt c fixed → FixedAt c (moved_by c distance fixed)
moved_in c distance Unknown h = tt
moved_in c distance Nowhere h = either_way (FixedAt c) (int_eq distance (pos 0)) tt tt
moved_in c distance (Inside g at) h = moved_to c g h.0 (at +ℤ distance) h.2

times_in : (c : Context) (down : Bool) (size : ℕ) (folded : Folded) (fixed : Fixed) → FixedAt c fixed → FixedAt c (moved_times c down size folded fixed)
times_in c down size folded fixed h = search (arith, moved_in, neg_ℤ) fits 100

sum_of_in : (c : Context) (down : Bool) (s t : Operand) (x y : Found) → FixedAt c x.fixed → FixedAt c y.fixed → FixedAt c (fixed_sum_of c down s t x y)
sum_of_in c down s t x y h k = search (arith, times_in) fits 100

pub sum_in : (c : Context) (op : BinaryOp) (x y : Found) → FixedAt c x.fixed → FixedAt c y.fixed → FixedAt c (fixed_sum c op x y)
unfolding fixed_sum
sum_in c op x y h k = search (arith, sum_of_in) fits 100

-- names and literals

-- what an expression comes to has a fixed address that is there
abbrev pub Aimed : Context × Found → Type 0
Aimed z = FixedAt z.0 z.1.fixed

found_outside : (file : Table) (inner : List Table) (name : List ℕ) (v : PlainNamed) → is_some (found_from [] name inner) ≡ false → found_from file name inner ≡ Some v → named_in name file ≡ Some v
found_outside file [] name v q e = e
found_outside file (table ∷ outer) name v q e = by (named_in name table) (λ r k. found_outside file outer name v r k) q e
  where
    by : (o : Option PlainNamed) → (is_some (found_from [] name outer) ≡ false → found_from file name outer ≡ Some v → named_in name file ≡ Some v) → is_some (option_or o (found_from [] name outer)) ≡ false → option_or o (found_from file name outer) ≡ Some v → named_in name file ≡ Some v
    by (Some x) again r k = cc
    by None again r k = again r k

object_in : (c : Context) (typed : PlainTyped) (name : List ℕ) (type : PlainType) (i : ℕ) (t : Bool) → is_inner c name ≡ t → There c → declaration c.scopes name ≡ Some (n.Object type i) → FixedAt c (object_found typed t i).fixed
object_in c typed name type i true q h e = tt
object_in c typed name type i false q h e =
    let r = h name type i (found_outside c.scopes.file c.scopes.inner name (n.Object type i) q e) in (0, refl, in_variable i r.0 refl r.1 (omega arith))

pub name_aimed : (line : ℕ) (name : List ℕ) (c : Context) (z : Context × Found) → There c → name_answer line name (declaration c.scopes name) c ≡ Ok z → Aimed z
name_aimed line name c z h q =
    let e = came (named line (declaration c.scopes name)) q in
    subst Aimed (ok_same (c, name_found e.value (is_inner c name) (declaration c.scopes name)) z e.last) (search (arith, object_in) fits 100)

literal_there : (line : ℕ) (bytes : List ℕ) (c : Context) (d : Context × ℕ) → with_literal line bytes c ≡ Ok d → Aims d.0.variables d.0.literals d.1 0
literal_there line bytes c d h =
    let s = came (with_static line (length bytes + 1) c) h in
    let k = c.static_bytes + block_size (length bytes + 1) in
    let e : record c { static_bytes = k } ≡ s.value = passed _ StaticTooLarge line (record c { static_bytes = k }) s.value s.is in
    let same : (record c { static_bytes = k; literals = c.literals ++ bytes ∷ [] }, literal_object (length c.literals)) ≡ d =
    ap (λ (x : Context). (record x { literals = x.literals ++ bytes ∷ [] }, literal_object (length c.literals))) e ∙ ok_same _ d s.last in
    subst (λ (x : Context × ℕ). Aims x.0.variables x.0.literals x.1 0) same (in_literal (length c.literals) bytes refl (get_last c.literals bytes) (omega arith))

pub string_aimed : (line : ℕ) (bytes : List ℕ) (c : Context) (z : Context × Found) → literal_answer line bytes c ≡ Ok z → Aimed z
string_aimed line bytes c z h =
    let e = came (string line bytes) h in
    let d = came (with_literal line bytes c) e.last in
    subst Aimed (ok_same (literal_found e.value d.value) z d.last) (0, refl, literal_there line bytes c d.value d.is)

-- values

either_in : (vs : List Variable) (ls : List (List ℕ)) (t : Bool) (one other : Fixed) → FixedIn vs ls one → FixedIn vs ls other → FixedIn vs ls (cond t one other)
either_in vs ls t one other h k = search arith fits 100

pub valued_from_aimed : (tree : Tree) (c : Context) (e : Found) (z : Context × Found) → FixedAt c e.fixed → valued_from tree c e ≡ Ok z → Aimed z
valued_from_aimed tree c e z h q =
    let t = came (read (line_of tree) c.tags e.typed) q in
    let d = (read_spot (code_line tree) e.typed.type e.spot c).0 in
    let k = fixed_on c d e.fixed (grows_settled c d (read_keeps Made grows_writes (code_line tree) e.typed.type e.spot c)) h in
    subst Aimed (ok_same _ z t.last) (either_in d.variables d.literals e.typed.is_place (read_fixed e.typed.type e.fixed) e.fixed (search arith fits 100) k)

pub unused_aimed : (tree : Tree) (answer : With Found) (z : Context × Found) → ((d : Context × Found) → answer ≡ Ok d → Aimed d) → unused tree answer ≡ Ok z → Aimed z
unused_aimed tree answer z h q = let d = came answer q in valued_from_aimed tree d.value.0 d.value.1 z (h d.value d.is) d.last

pub valued_aimed : (tree : Tree) (answer : With Found) (z : Context × Found) → ((d : Context × Found) → answer ≡ Ok d → Aimed d) → valued tree answer ≡ Ok z → Aimed z
valued_aimed tree answer z h q = unused_aimed tree answer z h (valued_unused tree answer z q)

-- places

pub indexed_aimed : (line : ℕ) (c : Context) (x y : Found) (z : Context × Found) → FixedAt c x.fixed → FixedAt c y.fixed → indexed line c x y ≡ Ok z → Aimed z
indexed_aimed line c x y z h k q =
    let t = came (element line c.tags x.typed y.typed) q in
    let d = (combined line b.Add c.code x y c).0 in
    subst Aimed (ok_same _ z t.last) (fixed_on c d (fixed_sum c b.Add x y) (grows_settled c d (combined_keeps Made grows_writes 0 line b.Add c x y c (grows_refl c))) (sum_in c b.Add x y h k))

member_aimed : (line offset : ℕ) (c : Context) (e : Found) → FixedAt c e.fixed → FixedAt (member_address line offset (atom_in e) c).0 (moved_by c (pos offset) e.fixed)
member_aimed line offset c e h = search (arith, fixed_on, pos, grows_settled, (member_keeps Made grows_writes), moved_in)

pub dotted_aimed : (line : ℕ) (name : List ℕ) (c : Context) (e : Found) (z : Context × Found) → FixedAt c e.fixed → dotted line name c e ≡ Ok z → Aimed z
dotted_aimed line name c e z h q =
    let t = came (dot line name c.tags e.typed) q in
    subst Aimed (ok_same _ z t.last) (member_aimed line (offset_of c.tags name e.typed.type) c e h)

pub pointed_aimed : (line : ℕ) (name : List ℕ) (c : Context) (e : Found) (z : Context × Found) → FixedAt c e.fixed → pointed line name c e ≡ Ok z → Aimed z
pointed_aimed line name c e z h q =
    let t = came (arrow line name c.tags e.typed) q in
    subst Aimed (ok_same _ z t.last) (member_aimed line (offset_of c.tags name (target_of (operand e.typed.type))) c e h)

pub address_aimed : (line : ℕ) (c : Context) (e : Found) (z : Context × Found) → FixedAt c e.fixed → address_answer line c e ≡ Ok z → Aimed z
address_aimed line c e z h q =
    let t = came (address line e.typed) q in subst Aimed (ok_same _ z t.last) h

-- code that is behind other code

recoded_grows : (b c : Context) → Grows b c → Grows (record c { code = b.code }) c
recoded_grows b c g = search (arith, more_refl)

pub settled_convert : (line : ℕ) (b : Context) (type : PlainType) (e : PlainTyped) (a : Atom) (c : Context) → Grows b c → Settled c (convert line b.code type e a c).0
settled_convert line b type e a c g =
    let k = grows_settled (record c { code = b.code }) _ (grows_convert line (record c { code = b.code }) type e a c (recoded_grows b c g)) in record { variables = k.variables; literals = k.literals; objects = k.objects }

pub settled_combined : (line : ℕ) (op : BinaryOp) (b : Context) (x y : Found) (c : Context) → Grows b c → Settled c (combined line op b.code x y c).0
settled_combined line op b x y c g =
    let k = grows_settled (record c { code = b.code }) _ (combined_keeps Made grows_writes 0 line op (record c { code = b.code }) x y c (recoded_grows b c g)) in record { variables = k.variables; literals = k.literals; objects = k.objects }

-- operators

number_aimed : (line : ℕ) (op : UnaryOp) (typed : PlainTyped) (o : Operand) (c : Context) (e : Found) → FixedAt c e.fixed → Aimed (before_number line op typed o c e)
number_aimed line op typed (Number ty) c e h = tt
number_aimed line op typed other c e h = h

apply_aimed : (line : ℕ) (op : UnaryOp) (tree : Tree) (typed : PlainTyped) (c : Context) (e : Found) → FixedAt c e.fixed → Aimed (apply line op tree typed c e)
apply_aimed line u.Deref tree typed c e h = h
apply_aimed line u.Not tree typed c e h = tt
apply_aimed line op tree typed c e h = number_aimed line op typed (operand e.typed.type) c e h

pub applied_aimed : (line : ℕ) (op : UnaryOp) (tree : Tree) (c : Context) (e : Found) (z : Context × Found) → FixedAt c e.fixed → applied line op tree c e ≡ Ok z → Aimed z
applied_aimed line op tree c e z h q = search (arith, came, ok_same, apply_aimed)

pub left_aimed : (op : BinaryOp) (before : Code) (right : Tree) (d : Context × Found) → Aimed d → Aimed (left_operand op before right d)
left_aimed op before right d h = either_way Aimed (tells_equal op && is_null_constant d.1.typed && is_pointer_ahead (ahead right d.0)) tt h

pub between_aimed : (line : ℕ) (op : BinaryOp) (base c : Context) (x y : Found) (z : Context × Found) → Settled c (combined line op base.code x y c).0 → FixedAt c x.fixed → FixedAt c y.fixed → between line op base.code c x y ≡ Ok z → Aimed z
between_aimed line op base c x y z s h k q =
    let t = came (binary line op c.tags x.typed y.typed) q in
    subst Aimed (ok_same _ z t.last) (fixed_on c (combined line op base.code x y c).0 (fixed_sum c op x y) s (sum_in c op x y h k))

pub cast_aimed : (line : ℕ) (type : PlainType) (before : Code) (c : Context) (e : Found) (z : Context × Found) → Settled c (convert line before type e.typed (atom_in e) c).0 → FixedAt c e.fixed → cast_to line type before c e ≡ Ok z → Aimed z
cast_aimed line type before c e z s h q = search (arith, came, ok_same, either_in, fixed_on)

-- the walk over expressions keeps fixed addresses inside their objects (C99 6.6)

-- what an expression grows by, and its value
pub unused_grew : (e : Tree) (wish : PlainType) (c : Context) (z : Context × Found) → unused e (found e wish c) ≡ Ok z → Grows c z.0
unused_grew e wish c z q = grown_unused e c (found e wish c) (found_grows e wish c c (grows_refl c)) z q

pub value_grew : (e : Tree) (wish : PlainType) (c : Context) (z : Context × Found) → valued e (found e wish c) ≡ Ok z → Grows c z.0
value_grew e wish c z q = unused_grew e wish c z (valued_unused e (found e wish c) z q)

value_there : (e : Tree) (wish : PlainType) (c : Context) (z : Context × Found) → There c → valued e (found e wish c) ≡ Ok z → There z.0
value_there e wish c z h q = there_on c z.0 (grows_settled c z.0 (value_grew e wish c z q)) h

-- what is not fixed

call_aimed : (line : ℕ) (name : Option PlainNamed) (function : Callee) (wanted : PlainType) (trees : Trees) (c : Context) (values : List Argument) (z : Context × Found) → call_answer line name function wanted trees c values ≡ Ok z → Aimed z
call_aimed line name function wanted trees c values z q = search (arith, came, ok_same)

unevaluated_aimed : (c : Context) (answer : Checked (names.Context × PlainTyped)) (z : Context × Found) → unevaluated c answer ≡ Ok z → Aimed z
unevaluated_aimed c answer z q = let t = came answer q in subst Aimed (ok_same _ z t.last) tt

changed_aimed : (line : ℕ) (op : AssignOp) (keeps : Bool) (target : Found) (old : Atom) (d z : Context × Found) → changed_by line op keeps target old d ≡ Ok z → Aimed z
changed_aimed line op keeps target old d z q = search (arith, came, ok_same)

stepped_aimed : (line : ℕ) (op : AssignOp) (keeps : Bool) (d z : Context × Found) → stepped line op keeps d ≡ Ok z → Aimed z
stepped_aimed line op keeps d z q = changed_aimed line op keeps d.1 (old_value line d).1 ((old_value line d).0, one_found) z q

assigned_aimed : (k : Bool) (line : ℕ) (before : Code) (tree : Tree) (target : Found) (d z : Context × Found) → cond k (record_assigned line (line_of tree) target d) (scalar_assigned line before tree target d) ≡ Ok z → Aimed z
assigned_aimed true line before tree target d z q =
    let t = came (assigned line (line_of tree) d.0.tags target.typed d.1.typed) q in subst Aimed (ok_same _ z t.last) tt
assigned_aimed false line before tree target d z q =
    let t = came (assigned line (line_of tree) d.0.tags target.typed d.1.typed) q in
    let v = came (valued_from tree d.0 d.1) t.last in subst Aimed (ok_same _ z v.last) tt

and_aimed : (line label : ℕ) (tree : Tree) (x : Found) (d z : Context × Found) → and_ended line label tree x d ≡ Ok z → Aimed z
and_aimed line label tree x d z q = search (arith, came, ok_same)

or_aimed : (line end : ℕ) (tree : Tree) (i : Atom) (x : Found) (d z : Context × Found) → or_ended line end tree i x d ≡ Ok z → Aimed z
or_aimed line end tree i x d z q = search (arith, came, ok_same)

chosen_aimed : (line end : ℕ) (before : Code) (t : Atom) (test x : Found) (d z : Context × Found) → chosen line end before t test x d ≡ Ok z → Aimed z
chosen_aimed line end before t test x d z q =
    let y = came (choice line test.typed x.typed d.1.typed) q in subst Aimed (ok_same _ z y.last) tt

pub found_aimed : (tree : Tree) (wish : PlainType) (c : Context) (z : Context × Found) → There c → found tree wish c ≡ Ok z → Aimed z
unfolding found
found_aimed (Node f.Name (At line ▹ Leaf (w.Name name) ▹ none)) wish c z h q = name_aimed line name c z h q
found_aimed (Node f.Int (At line ▹ Leaf (w.Int bytes) ▹ none)) wish c z h q = subst Aimed (ok_same (c, constant_found (constant (int_constant bytes))) z q) tt
found_aimed (Node f.Char (At line ▹ Leaf (w.Char bytes) ▹ none)) wish c z h q = subst Aimed (ok_same (c, constant_found (constant (char_constant bytes))) z q) tt
found_aimed (Node f.Str (At line ▹ Node f.Strings parts ▹ none)) wish c z h q = string_aimed line (joined parts) c z q
found_aimed (Node f.Paren (At line ▹ e ▹ none)) wish c z h q = found_aimed e wish c z h q
found_aimed (Node f.Index (At line ▹ e ▹ e2 ▹ none)) wish c z h q =
    let d = came (valued e (found e Void c)) q in
    let r = came (valued e2 (found e2 Void d.value.0)) d.last in
    let one = valued_aimed e (found e Void c) d.value (λ x k. found_aimed e Void c x h k) d.is in
    let near = value_there e Void c d.value h d.is in
    let two = valued_aimed e2 (found e2 Void d.value.0) r.value (λ x k. found_aimed e2 Void d.value.0 x near k) r.is in
    indexed_aimed line r.value.0 d.value.1 r.value.1 z (fixed_on d.value.0 r.value.0 d.value.1.fixed (grows_settled d.value.0 r.value.0 (value_grew e2 Void d.value.0 r.value r.is)) one) two r.last
found_aimed (Node f.Call (At line ▹ e ▹ Node f.Arguments values ▹ none)) wish c z h q =
    let d = came (callee e c (found e Void c)) q in
    let v = came (arguments line d.value.1 (parameters d.value.1) values d.value.0) d.last in
    call_aimed line (callee_name e c) d.value.1 wish values v.value.0 v.value.1 z v.last
found_aimed (Node f.Dot (At line ▹ e ▹ Leaf (w.Name name) ▹ none)) wish c z h q =
    let d = came (found e Void c) q in dotted_aimed line name d.value.0 d.value.1 z (found_aimed e Void c d.value h d.is) d.last
found_aimed (Node f.Arrow (At line ▹ e ▹ Leaf (w.Name name) ▹ none)) wish c z h q =
    let d = came (valued e (found e Void c)) q in
    pointed_aimed line name d.value.0 d.value.1 z (valued_aimed e (found e Void c) d.value (λ x k. found_aimed e Void c x h k) d.is) d.last
found_aimed (Node f.PostInc (At line ▹ e ▹ none)) wish c z h q = let d = came (changing e (found e Void c)) q in stepped_aimed line a.Add true d.value z d.last
found_aimed (Node f.PostDec (At line ▹ e ▹ none)) wish c z h q = let d = came (changing e (found e Void c)) q in stepped_aimed line a.Subtract true d.value z d.last
found_aimed (Node f.PreInc (At line ▹ e ▹ none)) wish c z h q = let d = came (changing e (found e Void c)) q in stepped_aimed line a.Add false d.value z d.last
found_aimed (Node f.PreDec (At line ▹ e ▹ none)) wish c z h q = let d = came (changing e (found e Void c)) q in stepped_aimed line a.Subtract false d.value z d.last
found_aimed (Node (f.Unary u.Address) (At line ▹ e ▹ none)) wish c z h q =
    let d = came (found e Void c) q in address_aimed line d.value.0 d.value.1 z (found_aimed e Void c d.value h d.is) d.last
found_aimed (Node (f.Unary op) (At line ▹ e ▹ none)) wish c z h q =
    let d = came (valued e (found e Void c)) q in
    applied_aimed line op e d.value.0 d.value.1 z (valued_aimed e (found e Void c) d.value (λ x k. found_aimed e Void c x h k) d.is) d.last
found_aimed (Node f.SizeofExpr (At line ▹ e ▹ none)) wish c z h q = unevaluated_aimed c (typed (Node f.SizeofExpr (At line ▹ e ▹ none)) (asked c)) z q
found_aimed (Node f.SizeofType (At line ▹ name ▹ none)) wish c z h q = unevaluated_aimed c (typed (Node f.SizeofType (At line ▹ name ▹ none)) (asked c)) z q
found_aimed (Node f.Cast (At line ▹ name ▹ e ▹ none)) wish c z h q =
    let y = came (typename name (asked c)) q in
    let begun = told y.value.0 c in
    let d = came (cast_operand y.value.1 e (found e y.value.1 begun)) y.last in
    let operand = cast_unused y.value.1 e (found e y.value.1 begun) d.value d.is in
    let g : Grows c begun = grows_told y.value.0 c (typename_after name (asked c) y.value y.is) in
    let near = there_on c begun (grows_settled c begun g) h in
    let one = unused_aimed e (found e y.value.1 begun) d.value (λ x k. found_aimed e y.value.1 begun x near k) operand in
    cast_aimed line y.value.1 c.code d.value.0 d.value.1 z (settled_convert line c y.value.1 d.value.1.typed (atom_in d.value.1) d.value.0 (grows_trans c begun d.value.0 g (unused_grew e y.value.1 begun d.value operand))) one d.last
found_aimed (Node (f.Binary b.And) (At line ▹ e ▹ e2 ▹ none)) wish c z h q =
    let d = came (valued e (found e Void c)) q in
    let r = came (valued e2 (found e2 Void (and_then line e d.value))) d.last in
    and_aimed line (new_label d.value.0) e2 d.value.1 r.value z r.last
found_aimed (Node (f.Binary b.Or) (At line ▹ e ▹ e2 ▹ none)) wish c z h q =
    let d = came (valued e (found e Void c)) q in
    let begun = or_else line e d.value in
    let r = came (valued e2 (found e2 Void begun.0)) d.last in
    or_aimed line (new_label d.value.0 + 1) e2 begun.1 d.value.1 r.value z r.last
found_aimed (Node (f.Binary op) (At line ▹ e ▹ e2 ▹ none)) wish c z h q =
    let d = came (valued e (found e Void c)) q in
    let begun = left_operand op c.code e2 d.value in
    let r = came (valued e2 (found e2 Void begun.0)) d.last in
    let one = left_aimed op c.code e2 d.value (valued_aimed e (found e Void c) d.value (λ x k. found_aimed e Void c x h k) d.is) in
    let near = there_on c begun.0 (grows_settled c begun.0 (left_keeps Made grows_writes 0 op c e2 d.value (value_grew e Void c d.value d.is))) h in
    let two = valued_aimed e2 (found e2 Void begun.0) r.value (λ x k. found_aimed e2 Void begun.0 x near k) r.is in
    let g = value_grew e2 Void begun.0 r.value r.is in
    between_aimed line op begun.0 r.value.0 begun.1 r.value.1 z (settled_combined line op begun.0 begun.1 r.value.1 r.value.0 g) (fixed_on begun.0 r.value.0 begun.1.fixed (grows_settled begun.0 r.value.0 g) one) two r.last
found_aimed (Node f.Cond (At line ▹ e ▹ e2 ▹ e3 ▹ none)) wish c z h q =
    let d = came (valued e (found e Void c)) q in
    let begun = choose line e d.value in
    let x = came (valued e2 (found e2 Void begun)) d.last in
    let first = choose_first line (new_label d.value.0) begun.code (type_ahead line d.value.1 e3 x.value) x.value in
    let y = came (valued e3 (found e3 Void first.0)) x.last in
    chosen_aimed line (new_label d.value.0 + 1) first.0.code first.1 d.value.1 x.value.1 y.value z y.last
found_aimed (Node (f.Assign a.Plain) (At line ▹ e ▹ e2 ▹ none)) wish c z h q =
    let d = came (found e Void c) q in
    let r = came (found e2 d.value.1.typed.type d.value.0) d.last in
    assigned_aimed (is_record d.value.1.typed.type) line d.value.0.code e2 d.value.1 r.value z r.last
found_aimed (Node (f.Assign op) (At line ▹ e ▹ e2 ▹ none)) wish c z h q =
    let d = came (changing e (found e Void c)) q in
    let old = old_value line d.value in
    let r = came (valued e2 (found e2 Void old.0)) d.last in
    changed_aimed line op false d.value.1 old.1 r.value z r.last
found_aimed (Node f.Comma (At line ▹ e ▹ e2 ▹ none)) wish c z h q =
    let d = came (unused e (found e Void c)) q in
    let r = came (unused e2 (found e2 Void d.value.0)) d.last in
    subst Aimed (ok_same (comma_answer r.value) z r.last) tt
found_aimed tree wish c z h q = never (Aimed z) _ z q

-- the pointers that statics hold first are those of objects that are there (C99 6.7.8)

-- each pointer is one to a static that is there
abbrev pub PointersIn : List Variable → List (List ℕ) → List (ℕ × ℕ × ℕ) → Type 0
PointersIn vs ls [] = Unit {0}
PointersIn vs ls (p ∷ ps) = Aims vs ls p.1 p.2 × PointersIn vs ls ps

pub pointers_stay : (vs ws : List Variable) (ls ms : List (List ℕ)) (ps : List (ℕ × ℕ × ℕ)) → VariablesStay vs ws → Longer ls ms → PointersIn vs ls ps → PointersIn ws ms ps
pointers_stay vs ws ls ms [] x y h = tt
pointers_stay vs ws ls ms (p ∷ ps) x y h = (aims_stay vs ws ls ms p.1 p.2 x y h.0, pointers_stay vs ws ls ms ps x y h.1)

pointers_push : (vs : List Variable) (ls : List (List ℕ)) (ps : List (ℕ × ℕ × ℕ)) (p : ℕ × ℕ × ℕ) → PointersIn vs ls ps → Aims vs ls p.1 p.2 → PointersIn vs ls (ps ++ p ∷ [])
pointers_push vs ls [] p h k = (k, tt)
pointers_push vs ls (x ∷ ps) p h k = (h.0, pointers_push vs ls ps p h.1 k)

abbrev pub StartIn : Context → Start → Type 0
StartIn c start = PointersIn c.variables c.literals start.pointers

-- what is initialized is a static, whose pointers are such
abbrev pub TargetIn : Context → Target → Type 0
TargetIn c (InRegister line register) = ⊥
TargetIn c (InMemory line mem) = ⊥
TargetIn c (InStatic start) = StartIn c start

-- behind an initializer
abbrev pub Points : Context → Context × Target → Type 0
Points c z = Settled c z.0 × TargetIn z.0 z.1

-- scalars

address_points : (line offset : ℕ) (start : Start) (c : Context) (fixed : Fixed) → StartIn c start → FixedAt c fixed → Led (StartIn c) (static_address line offset start fixed)
address_points line offset start c Unknown h k = led_refused (StartIn c)
address_points line offset start c Nowhere h k = led_ok (StartIn c) h
address_points line offset start c (Inside g at) h k =
    led_ok (StartIn c)
    (pointers_push c.variables c.literals start.pointers (offset, g, unsigned_abs at) h (subst (λ (x : ℤ). Aims c.variables c.literals g (unsigned_abs x)) (sym k.1) k.2))

static_points : (line : ℕ) (type : PlainType) (offset : ℕ) (start : Start) (c : Context) (e : Found) → StartIn c start → FixedAt c e.fixed → Led (StartIn c) (static_scalar line type offset start e)
static_points line (ct.Int ty) offset start c e h k = search (arith, led_ok, led_refused) fits 100
static_points line type offset start c e h k = led_cond (StartIn c) (is_null_constant e.typed) (Ok start) (static_address line offset start e.fixed) (led_ok (StartIn c) h) (address_points line offset start c e.fixed h k)

fill_points : (e : Tree) (line : ℕ) (type : PlainType) (offset : ℕ) (before : Code) (target : Target) (c : Context) (d : Context × Found) → Settled c d.0 → Aimed d → TargetIn c target → Led (Points c) (fill_scalar e line type offset before d target)
fill_points e line type offset before (InStatic start) c d s k h =
    led_after (Points c) (static_scalar line type offset start d.1)
    (λ filled q. led_ok (Points c) (s, static_points line type offset start d.0 d.1 (pointers_stay c.variables d.0.variables c.literals d.0.literals start.pointers (same_variables c.variables d.0.variables s.variables) s.literals h) k filled q))
fill_points e line type offset before other c d s k h = absurd h

scalar_points : (e : Tree) (line : ℕ) (type : PlainType) (offset : ℕ) (target : Target) (c : Context) → There c → TargetIn c target → Led (Points c) (scalar e line type offset target c)
scalar_points e line type offset target c n h =
    let begun = opened e c in
    let o : Settled c (opened e c) = search (arith, either_way) in
    led_after (Points c) (valued e (found e type begun))
    (λ d q. led_barred (Points c) (unconverted type d.1.typed) line
    (fill_points e line type offset begun.code target c d (settled_trans c begun d.0 o (grows_settled begun d.0 (value_grew e type begun d q))) (valued_aimed e (found e type begun) d (λ x k. found_aimed e type begun x (there_on c begun o n) k) q) h))

whole_points : (e : Tree) (line : ℕ) (type : PlainType) (offset : ℕ) (target : Target) (c : Context) → TargetIn c target → Led (Points c) (whole e line type offset target c)
whole_points e line type offset target c h = search (arith, led_after, led_unless, not, led_refused)

text_points : (e : Tree) (line : ℕ) (bytes : List ℕ) (size offset : ℕ) (target : Target) (c : Context) → TargetIn c target → Led (Points c) (fill_text e line bytes size offset target c)
text_points e line bytes size offset target c h = search (arith, led_ok, settled_refl, led_refused) fits 100

by_text_points : (e : Tree) (line : ℕ) (element : PlainType) (size offset : ℕ) (o : Option (List ℕ)) (target : Target) (c : Context) → TargetIn c target → Led (Points c) (by_text e line element size offset o target c)
by_text_points e line element size offset None target c h = whole_points e line (Array element size) offset target c h
by_text_points e line element size offset (Some bytes) target c h =
    led_cond (Points c) (is_character element) (then (string line bytes) (λ literal. fill_text e line bytes size offset target c)) (whole e line (Array element size) offset target c)
    (λ z q. text_points e line bytes size offset target c h z (behind_string line bytes (fill_text e line bytes size offset target c) z q)) (whole_points e line (Array element size) offset target c h)

by_expression_points : (e : Tree) (line : ℕ) (type : PlainType) (offset : ℕ) (target : Target) (c : Context) → There c → TargetIn c target → Led (Points c) (by_expression e line type offset target c)
by_expression_points e line (Array element size) offset target c n h = by_text_points e line element size offset (text e) target c h
by_expression_points e line type offset target c n h = search (arith, whole_points, scalar_points) fits 100

mutual
  unfolding initialize initialize_parts

  pub initialize_points : (tree : Tree) (in_scalar : Bool) (type : PlainType) (offset : ℕ) (target : Target) (c : Context) → There c → TargetIn c target → Led (Points c) (initialize tree in_scalar type offset target c)
  initialize_points (Node f.InitExpr (At line ▹ e ▹ none)) in_scalar type offset target c n h = by_expression_points e (line_of e) type offset target c n h
  initialize_points (Node (f.InitList trailing) (At line ▹ Node f.Inits inits ▹ none)) in_scalar type offset target c n h =
      led_cond (Points c) (takes_braces type in_scalar) (initialize_parts line inits (is_scalar_type type) (parts_of c (count inits) type offset) target c) (then (all_surplus inits c) (λ d. refused Assignment line))
      (parts_point inits line (is_scalar_type type) (parts_of c (count inits) type offset) target c n h)
      (led_after (Points c) (all_surplus inits c) (λ d q. led_refused (Points c)))
  initialize_points tree in_scalar type offset target c n h = led_refused (Points c)

  parts_point : (inits : Trees) (line : ℕ) (in_scalar : Bool) (parts : List (PlainType × ℕ)) (target : Target) (c : Context) → There c → TargetIn c target → Led (Points c) (initialize_parts line inits in_scalar parts target c)
  parts_point none line in_scalar parts target c n h = led_ok (Points c) (settled_refl c, h)
  parts_point (init ▹ rest) line in_scalar [] target c n h = led_after (Points c) (all_surplus (init ▹ rest) c) (λ d q. led_refused (Points c))
  parts_point (init ▹ rest) line in_scalar (part ∷ parts) target c n h =
      led_after (Points c) (initialize init in_scalar part.0 part.1 target c)
      (λ d q z s.
      let one = initialize_points init in_scalar part.0 part.1 target c n h d q in
      let last = parts_point rest line in_scalar parts d.1 d.0 (there_on c d.0 one.0 n) one.1 z s in
      (settled_trans c d.0 z.0 one.0 last.0, last.1))
