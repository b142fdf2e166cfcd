-- The sorts of operands and results.
use Rattle.core_soundness.proofs.Words.Std.{◌≡◌, ◌≤◌, ℕ, List, [], ◌∷◌, ◌++◌, slice_get, Option, Some, None, option_map, refl, sym, ◌∙◌, subst, arith, ◌<◌, ◌+◌, max, Bool, true, false, cond, Ok, pos, ◌⊎◌}
use Rattle.core_soundness.proofs.Words.Trees.{Tree, BinaryOp, UnaryOp}
use Rattle.core_soundness.proofs.Words.Types.{TagTable, PlainType, kind_of, IntType, line_of, promoted, common_type, Refusal, Checked, unless, named_in, result_type, barred, moving, immovable, beside_pointer, sum_types, difference_types, order_types, equal_types, integer_types, binary, PlainTyped, Operand, Number, PointerTo, Neither, operand, held, read, is_scalar, has_no_size, value, int, is_null_constant, TypeKind}
use Rattle.core_soundness.proofs.Words.Core.{Sort, Integer, Pointer, Reg as Register, Atom, CmpOp, StmKind, Set, Un, Bin, Cmp, Add, Sub, Off, Diff, Pcmp, Test, Load, Loadp, Store, Storep, Call, Printf, Return}
use Rattle.core_soundness.proofs.Words.Elaborating.{Piece, Does, Here, Context, told, emit, here, with_labels, integer_by, pointer_by, integer_temporary, pointer_temporary, With, Found, Spot, Local, Memory, Value, Empty, read_spot, read_value, code_line, valued_from, atom_in, convert_integer, convert_to, convert, tested, tested_value, write, unused, size_or_zero, working, Working, Calculates, Shifts, Compares, Branches, convert_both, work, on_integers, before_integer, move_pointer, between_pointers, pointer_beside, beside_integer, combine, change, changed_to, member_address, tells_equal}
use Rattle.core_soundness.proofs.Words.Facts.{World, IsRegister, is_local, is_integer, is_pointer_temporary, IsObject, is_variable, is_literal, Holds, HoldAll, Receives, IsPrinted, Fits, FitsIn, PiecesFit, world, HeldAs, Held, StandsAs, Stands}
use Rattle.c_types.specs.Types as types
use Rattle.core_tree.specs.declared.statements.Atom.TheVariants as atom
use Rattle.core_tree.specs.declared.statements.CmpOp.TheVariants as cmp
use Rattle.core_tree.specs.declared.statements.UnOp.TheVariants as un
use Rattle.c_tree.specs.declared.operator.BinaryOp.TheVariants as bin
use Rattle.c_tree.specs.declared.operator.UnaryOp.TheVariants as u
use Rattle.c_decls.specs.Named as n
use Rattle.c_decls.specs.TypeNames as names
use Rattle.core_soundness.proofs.Agreeing.{came}
use Rattle.core_soundness.proofs.Growth.{good, bad, ok_same, never, behind_test}
use Rattle.core_soundness.proofs.Scopes.{More, more_refl, more_trans, more_keeps}
use Rattle.core_soundness.proofs.Choices.{either_way}

-- operands and statements that fit go on to fit while a text is walked

-- what is there stays there
pub record Grew (w v : World) : Type 0 where
  pub locals : (k : ℕ) (reg : Register) → slice_get w.locals k ≡ Some reg → slice_get v.locals k ≡ Some reg
  pub mems : w.mems ≤ v.mems
  pub integers : w.integers ≤ v.integers
  pub pointers : w.pointers ≤ v.pointers
  pub variables : w.variables ≤ v.variables
  pub literals : w.literals ≤ v.literals
  pub formats : (k : ℕ) (format : List ℕ) → slice_get w.formats k ≡ Some format → slice_get v.formats k ≡ Some format
  pub calls : (k : ℕ) (x : ℕ × ℕ) → slice_get w.calls k ≡ Some x → slice_get v.calls k ≡ Some x
  pub file : (name : List ℕ) (type : PlainType) (i : ℕ) → named_in name w.file ≡ Some (n.Function type i) → named_in name v.file ≡ Some (n.Function type i)

pub grew_refl : (w : World) → Grew w w
grew_refl w = record { locals = λ k r e. e; mems = omega arith; integers = omega arith; pointers = omega arith; variables = omega arith; literals = omega arith; formats = λ k f e. e; calls = λ k x e. e; file = λ name t i e. e }

pub grew_trans : (u v w : World) → Grew u v → Grew v w → Grew u w
grew_trans u v w x y = search arith

pub register_grew : (w v : World) (sort : Sort) (r : ℕ) → Grew w v → IsRegister w sort r → IsRegister v sort r
register_grew w v sort r g (is_local k e h) = is_local k e (search (arith, option_map) fits 100)
register_grew w v sort r g (is_integer k e h s) = is_integer k e (omega (arith, h, g.integers)) s
register_grew w v sort r g (is_pointer_temporary k e h s) = is_pointer_temporary k e (omega (arith, h, g.pointers)) s

pub object_grew : (w v : World) (i : ℕ) → Grew w v → IsObject w i → IsObject v i
object_grew w v i g (is_variable k e h) = is_variable k e (omega (arith, h, g.variables))
object_grew w v i g (is_literal k e h) = is_literal k e (omega (arith, h, g.literals))

pub holds_grew : (w v : World) (sort : Sort) (a : Atom) → Grew w v → Holds w sort a → Holds v sort a
holds_grew w v sort (atom.Reg r) g h = register_grew w v sort r g h
holds_grew w v sort a g h = search (arith, object_grew) fits 100

pub all_grew : (w v : World) (sorts : List Sort) (atoms : List Atom) → Grew w v → HoldAll w sorts atoms → HoldAll v sorts atoms
all_grew w v (sort ∷ sorts) (a ∷ atoms) g h = (holds_grew w v sort a g h.0, all_grew w v sorts atoms g h.1)
all_grew w v sorts atoms g h = search arith fits 100

pub receives_grew : (w v : World) (result : Option Sort) (r : Option ℕ) → Grew w v → Receives w result r → Receives v result r
receives_grew w v None None g h = tt
receives_grew w v (Some sort) None g h = tt
receives_grew w v None (Some r) g h = absurd h
receives_grew w v (Some sort) (Some r) g h = register_grew w v sort r g h

printed_grew : (w v : World) (args : List Atom) (k : ℕ) (o : Option (List ℕ)) → slice_get w.formats k ≡ o → Grew w v → IsPrinted w args o → IsPrinted v args (slice_get v.formats k)
printed_grew w v args k None e g h = absurd h
printed_grew w v args k (Some format) e g h =
    subst (IsPrinted v args) (sym (g.formats k format e)) (h.0, all_grew w v _ args g h.1)

pub fits_grew : (w v : World) (kind : StmKind) → Grew w v → Fits w kind → Fits v kind
fits_grew w v (Set r a) g h = (h.0, register_grew w v h.0 r g h.1, holds_grew w v h.0 a g h.2)
fits_grew w v (Call f r args) g h = grind (arith, all_grew, receives_grew)
fits_grew w v (Printf r k args) g h = (register_grew w v Integer r g h.0, printed_grew w v args k (slice_get w.formats k) refl g h.1)
fits_grew w v (Return a) g h = absurd h
fits_grew w v kind g h = search (register_grew, holds_grew, all_grew, receives_grew)

fits_in_grew : (answer : Option Sort) (w v : World) (kind : StmKind) → Grew w v → FitsIn answer w kind → FitsIn answer v kind
fits_in_grew answer w v (Return a) g h = search (arith, holds_grew) fits 100
fits_in_grew answer w v kind g h = fits_grew w v kind g h

-- a statement that fits is no return
pub fits_any : (answer : Option Sort) (w : World) (kind : StmKind) → Fits w kind → FitsIn answer w kind
fits_any answer w kind h = search arith fits 100

pub pieces_grew : (answer : Option Sort) (w v : World) (pieces : List Piece) → Grew w v → PiecesFit answer w pieces → PiecesFit answer v pieces
pieces_grew answer w v [] g h = tt
pieces_grew answer w v (Does stm ∷ pieces) g h = ((h.0.0, fits_in_grew answer w v stm.kind g h.0.1), pieces_grew answer w v pieces g h.1)
pieces_grew answer w v (Here label ∷ pieces) g h = (tt, pieces_grew answer w v pieces g h.1)

pub pieces_joined : (answer : Option Sort) (w : World) (one other : List Piece) → PiecesFit answer w one → PiecesFit answer w other → PiecesFit answer w (one ++ other)
pieces_joined answer w [] other x y = y
pieces_joined answer w (piece ∷ one) other x y = (x.0, pieces_joined answer w one other x.1 y)

-- what elaborating an expression does to what fits: its statements fit, and what fitted before it fits behind it

-- the code fits, whatever the function answers
abbrev pub CodeFits : Option Sort → Context → Type 0
CodeFits answer c = PiecesFit answer (world c) c.code.pieces

-- what no expression changes
pub record Keeps (c d : Context) : Type 0 where
  pub line : d.running.line ≡ c.running.line
  pub answer : d.running.answer ≡ c.running.answer
  pub addressed : d.running.addressed ≡ c.running.addressed
  pub declared : d.running.declared ≡ c.running.declared
  pub params : d.params ≡ c.params
  pub walked : d.walked ≡ c.walked

pub keeps_refl : (c : Context) → Keeps c c
keeps_refl c = record { line = refl; answer = refl; addressed = refl; declared = refl; params = refl; walked = refl }

pub keeps_trans : (a b c : Context) → Keeps a b → Keeps b c → Keeps a c
keeps_trans a b c x y = record { line = y.line ∙ x.line; answer = y.answer ∙ x.answer; addressed = y.addressed ∙ x.addressed; declared = y.declared ∙ x.declared; params = y.params ∙ x.params; walked = y.walked ∙ x.walked }

pub record Goes (c d : Context) : Type 0 where
  pub grew : Grew (world c) (world d)
  pub more : More c.scopes d.scopes
  pub kept : Keeps c d
  pub fits : (answer : Option Sort) → CodeFits answer c → CodeFits answer d

pub goes_refl : (c : Context) → Goes c c
goes_refl c = record { grew = grew_refl (world c); more = more_refl c.scopes; kept = keeps_refl c; fits = λ answer h. h }

pub goes_trans : (a b c : Context) → Goes a b → Goes b c → Goes a c
goes_trans a b c x y = record {
  grew = grew_trans (world a) (world b) (world c) x.grew y.grew;
  more = more_trans a.scopes b.scopes c.scopes x.more y.more;
  kept = keeps_trans a b c x.kept y.kept;
  fits = λ answer h. y.fits answer (x.fits answer h);
}

-- a statement that fits
pub goes_emit : (line : ℕ) (kind : StmKind) (c : Context) → 1 ≤ line → Fits (world c) kind → Goes c (emit line kind c)
goes_emit line kind c l h = search (grew_refl, more_refl, pieces_joined, fits_any)

pub goes_here : (label : ℕ) (c : Context) → Goes c (here label c)
goes_here label c = search (grew_refl, more_refl, pieces_joined)

pub goes_labels : (k : ℕ) (c : Context) → Goes c (with_labels k c)
goes_labels k c = record { grew = grew_refl (world c); more = more_refl c.scopes; kept = record { line = refl; answer = refl; addressed = refl; declared = refl; params = refl; walked = refl }; fits = λ answer h. h }

-- a temporary more
max_left : (a b : ℕ) → a ≤ max a b
max_left a b = omega arith

max_right : (a b : ℕ) → a < max b (a + 1)
max_right a b = omega arith

-- where a context goes with an operand of a sort
pub record Gives (c : Context) (sort : Sort) (d : Context × Atom) : Type 0 where
  pub goes : Goes c d.0
  pub holds : Holds (world d.0) sort d.1

pub gives_on : (b c : Context) (sort : Sort) (d : Context × Atom) → Goes b c → Gives c sort d → Gives b sort d
gives_on b c sort d g h = record { goes = goes_trans b c d.0 g h.goes; holds = h.holds }

-- a statement that writes a new temporary, and fits where this and all before are there
pub gives_integer : (line : ℕ) (kind : ℕ → StmKind) (c : Context) → 1 ≤ line → ((v : World) (r : ℕ) → Grew (world c) v → IsRegister v Integer r → Fits v (kind r)) → Gives c Integer (integer_by line kind c)
gives_integer line kind c l h =
    let d = (integer_by line kind c).0 in
    let grew : Grew (world c) (world (integer_by line kind c).0) = search (arith, max_left) in
    let there = is_integer c.code.integers refl (max_right c.code.integers c.code.most_integers) refl in
    record {
      goes = record {
        grew = grew;
        more = more_refl c.scopes;
        kept = record { line = refl; answer = refl; addressed = refl; declared = refl; params = refl; walked = refl };
        fits = λ answer k. pieces_joined answer (world d) c.code.pieces _ (pieces_grew answer (world c) (world d) c.code.pieces grew k)
            ((l, fits_any answer (world d) (kind (integer_temporary c.code.integers)) (h (world d) (integer_temporary c.code.integers) grew there)), tt);
      };
      holds = there;
    }

pub gives_pointer : (line : ℕ) (kind : ℕ → StmKind) (c : Context) → 1 ≤ line → ((v : World) (r : ℕ) → Grew (world c) v → IsRegister v Pointer r → Fits v (kind r)) → Gives c Pointer (pointer_by line kind c)
gives_pointer line kind c l h =
    let d = (pointer_by line kind c).0 in
    let grew : Grew (world c) (world (pointer_by line kind c).0) = search (arith, max_left) in
    let there = is_pointer_temporary c.code.pointers refl (max_right c.code.pointers c.code.most_pointers) refl in
    record {
      goes = record {
        grew = grew;
        more = more_refl c.scopes;
        kept = record { line = refl; answer = refl; addressed = refl; declared = refl; params = refl; walked = refl };
        fits = λ answer k. pieces_joined answer (world d) c.code.pieces _ (pieces_grew answer (world c) (world d) c.code.pieces grew k)
            ((l, fits_any answer (world d) (kind (pointer_temporary c.code.pointers)) (h (world d) (pointer_temporary c.code.pointers) grew there)), tt);
      };
      holds = there;
    }

-- other scopes and tags
pub goes_told : (n : names.Context) (c : Context) → More c.scopes n.scopes → Goes c (told n c)
goes_told n c m = search (arith, more_keeps, pieces_grew)

-- code that is forgotten again
pub goes_forgotten : (b c : Context) → Goes b c → Goes b (record c { code = b.code })
goes_forgotten b c g = search (arith, pieces_grew)

-- the sorts of what conversions and operators give

pub held_as_grew : (w v : World) (o : Operand) (a : Atom) → Grew w v → HeldAs w o a → HeldAs v o a
held_as_grew w v o a g h = search (arith, holds_grew) fits 100

pub held_grew : (w v : World) (type : PlainType) (a : Atom) → Grew w v → Held w type a → Held v type a
held_grew w v type a g h = held_as_grew w v (operand type) a g h

pub stands_as_grew : (w v : World) (is_place : Bool) (type : PlainType) (spot : Spot) → Grew w v → StandsAs w is_place type spot → StandsAs v is_place type spot
stands_as_grew w v is_place type spot g h = search (arith, held_grew, holds_grew) fits 100

pub stands_grew : (w v : World) (e : Found) → Grew w v → Stands w e → Stands v e
stands_grew w v e g h = stands_as_grew w v e.typed.is_place e.typed.type e.spot g h

-- where a context goes with a value of a type
pub record Brings (c : Context) (type : PlainType) (d : Context × Atom) : Type 0 where
  pub goes : Goes c d.0
  pub held : Held (world d.0) type d.1

-- an expression that is a value, which is in hand
pub record HasValue (w : World) (e : Found) : Type 0 where
  pub spot : e.spot ≡ Value (atom_in e)
  pub value : e.typed.is_place ≡ false
  pub held : Held w e.typed.type (atom_in e)

pub value_grew : (w v : World) (e : Found) → Grew w v → HasValue w e → HasValue v e
value_grew w v e g h = record { spot = h.spot; value = h.value; held = held_grew w v e.typed.type (atom_in e) g h.held }

-- where a context goes with an expression; with one that is no local in a register; and with one that is a value
pub record Sits (c : Context) (z : Context × Found) : Type 0 where
  pub goes : Goes c z.0
  pub stands : Stands (world z.0) z.1

abbrev pub Apart : Spot → Type 0
Apart (Local r) = ⊥
Apart (Memory a) = Unit {0}
Apart (Value a) = Unit {0}
Apart Empty = Unit {0}

pub record Lands (c : Context) (z : Context × Found) : Type 0 where
  pub goes : Goes c z.0
  pub stands : Stands (world z.0) z.1
  pub apart : Apart z.1.spot

pub lands_sits : (c : Context) (z : Context × Found) → Lands c z → Sits c z
lands_sits c z h = record { goes = h.goes; stands = h.stands }

pub record Comes (c : Context) (z : Context × Found) : Type 0 where
  pub goes : Goes c z.0
  pub value : HasValue (world z.0) z.1

pub comes_lands : (c : Context) (z : Context × Found) → Comes c z → Lands c z
comes_lands c z h = record { goes = h.goes; stands = (subst (λ (x : Bool). StandsAs (world z.0) x z.1.typed.type z.1.spot) (sym h.value.value) (subst (StandsAs (world z.0) false z.1.typed.type) (sym h.value.spot) h.value.held)); apart = subst Apart (sym h.value.spot) tt }

-- reading

no_record : (G : Type 0) (k : Bool) (one other : Refusal) (typed : PlainTyped) → cond k (bad one) (bad other) ≡ good typed → G
no_record G k one other typed e = search (arith, never) fits 100

reads_place : (line at : ℕ) (tags : TagTable) (type : PlainType) (spot : Spot) (c : Context) (typed : PlainTyped) → 1 ≤ line → StandsAs (world c) true type spot → held at tags type ≡ Ok typed → Brings c typed.type (read_spot line type spot c) × (typed.is_place ≡ false)
unfolding read_spot
reads_place line at tags types.Void spot c typed l h e = never _ _ typed e
reads_place line at tags (types.Int ty) (Local r) c typed l h e =
    let g = gives_integer line (λ t. Set t (atom.Reg r)) c l (λ v t grew there. (Integer, there, register_grew (world c) v Integer r grew h.1)) in
    subst (λ (x : PlainTyped). Brings c x.type (integer_by line (λ t. Set t (atom.Reg r)) c) × (x.is_place ≡ false)) (ok_same _ typed e) (record { goes = g.goes; held = g.holds }, refl)
reads_place line at tags (types.Int ty) (Memory a) c typed l h e =
    let g = gives_integer line (λ t. Load (kind_of ty) t a) c l (λ v t grew there. (there, holds_grew (world c) v Pointer a grew h)) in
    subst (λ (x : PlainTyped). Brings c x.type (integer_by line (λ t. Load (kind_of ty) t a) c) × (x.is_place ≡ false)) (ok_same _ typed e) (record { goes = g.goes; held = g.holds }, refl)
reads_place line at tags (types.Pointer target) (Local r) c typed l h e =
    let g = gives_pointer line (λ t. Set t (atom.Reg r)) c l (λ v t grew there. (Pointer, there, register_grew (world c) v Pointer r grew h.1)) in
    subst (λ (x : PlainTyped). Brings c x.type (pointer_by line (λ t. Set t (atom.Reg r)) c) × (x.is_place ≡ false)) (ok_same _ typed e) (record { goes = g.goes; held = g.holds }, refl)
reads_place line at tags (types.Pointer target) (Memory a) c typed l h e =
    let g = gives_pointer line (λ t. Loadp t a) c l (λ v t grew there. (there, holds_grew (world c) v Pointer a grew h)) in
    subst (λ (x : PlainTyped). Brings c x.type (pointer_by line (λ t. Loadp t a) c) × (x.is_place ≡ false)) (ok_same _ typed e) (record { goes = g.goes; held = g.holds }, refl)
reads_place line at tags (types.Array element length) (Local r) c typed l h e = let clash : false ≡ true = h.0 in cc
reads_place line at tags (types.Array element length) (Memory a) c typed l h e = search (arith, false, ok_same, goes_refl)
reads_place line at tags (types.Struct tag) spot c typed l h e = no_record _ (has_no_size tags (types.Struct tag)) _ _ typed e
reads_place line at tags (types.Union tag) spot c typed l h e = no_record _ (has_no_size tags (types.Union tag)) _ _ typed e
reads_place line at tags (types.Function answer params) spot c typed l h e = never _ _ typed e
reads_place line at tags other rest c typed l h e = absurd h

reads_value : (line : ℕ) (type : PlainType) (spot : Spot) (c : Context) → StandsAs (world c) false type spot → Brings c type (read_spot line type spot c)
unfolding read_spot
reads_value line type (Value a) c h = subst (Brings c type) (sym (search arith fits 100)) (record { goes = goes_refl c; held = h })
reads_value line type Empty c h = subst (Brings c type) (sym (search arith fits 100)) (record { goes = goes_refl c; held = subst (λ (o : Operand). HeldAs (world c) o atom.Null) (sym h) tt })
reads_value line type other c h = absurd h

reads : (line at : ℕ) (tags : TagTable) (is_place : Bool) (e : PlainTyped) (spot : Spot) (c : Context) (typed : PlainTyped) → 1 ≤ line → e.is_place ≡ is_place → StandsAs (world c) is_place e.type spot → cond is_place (held at tags e.type) (Ok e) ≡ Ok typed → Brings c typed.type (read_spot line e.type spot c) × (typed.is_place ≡ false)
reads line at tags true e spot c typed l same h k = reads_place line at tags e.type spot c typed l h k
reads line at tags false e spot c typed l same h k =
    subst (λ (x : PlainTyped). Brings c x.type (read_spot line e.type spot c) × (x.is_place ≡ false)) (ok_same e typed k) (reads_value line e.type spot c h, same)

pub valued_from_comes : (tree : Tree) (c : Context) (e : Found) (z : Context × Found) → 1 ≤ code_line tree → Stands (world c) e → valued_from tree c e ≡ Ok z → Comes c z
valued_from_comes tree c e z l h q =
    let t = came (read (line_of tree) c.tags e.typed) q in
    let r = reads (code_line tree) (line_of tree) c.tags e.typed.is_place e.typed e.spot c t.value l refl h t.is in
    subst (Comes c) (ok_same (read_value t.value e (read_spot (code_line tree) e.typed.type e.spot c)) z t.last) (record { goes = r.0.goes; value = record { spot = refl; value = r.1; held = r.0.held } })

pub unused_comes : (tree : Tree) (c : Context) (answer : With Found) (z : Context × Found) → 1 ≤ code_line tree → ((d : Context × Found) → answer ≡ Ok d → Sits c d) → unused tree answer ≡ Ok z → Comes c z
unused_comes tree c answer z l h q =
    let d = came answer q in
    let one = h d.value d.is in
    let two = valued_from_comes tree d.value.0 d.value.1 z l one.stands d.last in
    record { goes = goes_trans c d.value.0 z.0 one.goes two.goes; value = two.value }

-- what a place that is read and written holds
pub old_brings : (line : ℕ) (e : PlainTyped) (spot : Spot) (c : Context) → 1 ≤ line → is_scalar e.type ≡ true → StandsAs (world c) true e.type spot → Brings c e.type (read_spot line e.type spot c)
old_brings line e spot c l s h = by e.type s h
  where
    by : (type : PlainType) → is_scalar type ≡ true → StandsAs (world c) true type spot → Brings c type (read_spot line type spot c)
    by types.Void s h = cc
    by (types.Int ty) s h = (reads_place line 0 c.tags (types.Int ty) spot c _ l h refl).0
    by (types.Pointer target) s h = (reads_place line 0 c.tags (types.Pointer target) spot c _ l h refl).0
    by other s h = cc

-- conversions

pub gives_cond : (c : Context) (sort : Sort) (test : Bool) (x y : Context × Atom) → Gives c sort x → Gives c sort y → Gives c sort (cond test x y)
gives_cond c sort test x y g h = search arith fits 100

pub gives_here : (c : Context) (sort : Sort) (a : Atom) → Holds (world c) sort a → Gives c sort (c, a)
gives_here c sort a h = record { goes = goes_refl c; holds = h }

pub integer_converted : (line : ℕ) (ty source : IntType) (a : Atom) (c : Context) → 1 ≤ line → Holds (world c) Integer a → Gives c Integer (convert_integer line ty source a c)
unfolding convert_integer
integer_converted line ty source (atom.Int k) c l h = record { goes = goes_refl c; holds = refl }
integer_converted line ty source a c l h = search (arith, gives_cond, gives_here, gives_integer, holds_grew) fits 100

-- a value of the second sort of operand converts to the first
abbrev pub Converting : Operand → Operand → Type 0
Converting (Number ty) (Number source) = Unit {0}
Converting (Number ty) (PointerTo source) = ⊥
Converting (Number ty) Neither = ⊥
Converting (PointerTo target) (Number source) = Unit {0}
Converting (PointerTo target) (PointerTo source) = Unit {0}
Converting (PointerTo target) Neither = ⊥
Converting Neither given = Unit {0}

pub record Converted (c : Context) (wanted given : Operand) (d : Context × Atom) : Type 0 where
  pub goes : Goes c d.0
  pub held : Converting wanted given → HeldAs (world d.0) wanted d.1

converts_to : (line : ℕ) (b : Context) (wanted given : Operand) (a : Atom) (c : Context) → 1 ≤ line → Goes b c → HeldAs (world c) given a → Converted b wanted given (convert_to line b.code wanted given a c)
converts_to line b (Number ty) (Number source) a c l g h =
    let k = integer_converted line ty source a c l h in record { goes = goes_trans b c _ g k.goes; held = λ q. k.holds }
converts_to line b (PointerTo target) (Number source) a c l g h = record { goes = goes_forgotten b c g; held = λ q. refl }
converts_to line b (PointerTo target) (PointerTo source) a c l g h = record { goes = g; held = λ q. h }
converts_to line b (PointerTo target) Neither a c l g h = record { goes = g; held = λ q. absurd q }
converts_to line b Neither (Number source) a c l g h = record { goes = g; held = λ q. tt }
converts_to line b Neither (PointerTo source) a c l g h = record { goes = g; held = λ q. tt }
converts_to line b Neither Neither a c l g h = record { goes = g; held = λ q. tt }
converts_to line b (Number ty) other a c l g h = record { goes = g; held = λ q. absurd q }

-- what is converted began behind a context
pub converted : (line : ℕ) (b : Context) (type : PlainType) (e : PlainTyped) (a : Atom) (c : Context) → 1 ≤ line → Goes b c → Held (world c) e.type a → Converted b (operand type) (operand e.type) (convert line b.code type e a c)
converted line b type e a c l g h = converts_to line b (operand type) (operand e.type) a c l g h

pub tested_gives : (line : ℕ) (type : PlainType) (a : Atom) (c : Context) → 1 ≤ line → is_scalar type ≡ true → Held (world c) type a → Gives c Integer (tested line type a c)
unfolding tested
tested_gives line (types.Int ty) a c l s h = gives_here c Integer a h
tested_gives line (types.Pointer target) a c l s h = gives_integer line (λ t. Test t a) c l (λ v t g i. (i, holds_grew (world c) v Pointer a g h))
tested_gives line other a c l s h = cc

pub tested_value_gives : (tree : Tree) (d : Context × Found) → 1 ≤ code_line tree → is_scalar d.1.typed.type ≡ true → HasValue (world d.0) d.1 → Gives d.0 Integer (tested_value tree d)
tested_value_gives tree d l s h = tested_gives (code_line tree) d.1.typed.type (atom_in d.1) d.0 l s h.held

-- a value is written to a place of its type
pub write_goes : (line : ℕ) (type : PlainType) (spot : Spot) (a : Atom) (c : Context) → 1 ≤ line → StandsAs (world c) true type spot → Held (world c) type a → Goes c (write line type spot a c)
unfolding write
write_goes line (types.Int ty) (Local r) a c l s h = goes_emit line (Set r a) c l (Integer, s.1, h)
write_goes line (types.Int ty) (Memory p) a c l s h = goes_emit line (Store (kind_of ty) p a) c l (s, h)
write_goes line (types.Pointer target) (Local r) a c l s h = goes_emit line (Set r a) c l (Pointer, s.1, h)
write_goes line (types.Pointer target) (Memory p) a c l s h = goes_emit line (Storep p a) c l (s, h)
write_goes line other (Local r) a c l s h = let clash : false ≡ true = s.0 in cc
write_goes line other (Memory p) a c l s h = goes_refl c
write_goes line type other a c l s h = absurd s

-- the sorts of what operators give (C99 6.5)

-- what a check that was passed says

pub passed : {A : Type 0} (test : Bool) (kind : TypeKind) (line : ℕ) (x y : A) → unless test kind line (Ok x) ≡ Ok y → x ≡ y
passed test kind line x y e = search (arith, never, ok_same) fits 100

pub kept_test : {A : Type 0} (test : Bool) (kind : TypeKind) (line : ℕ) (r : Checked A) (y : A) → unless test kind line r ≡ Ok y → test ≡ false
kept_test test kind line r y e = search (arith, never) fits 100

pub unbarred : {A : Type 0} (o : Option TypeKind) (line : ℕ) (r : Checked A) (y : A) → barred o line r ≡ Ok y → (o ≡ None) × (r ≡ Ok y)
unbarred o line r y e = search (arith, never) fits 100

pub moved_is : (line : ℕ) (tags : TagTable) (target : PlainType) (x y : PlainTyped) → moving line tags target x ≡ Ok y → x ≡ y
moved_is line tags target x y e = ok_same x y (unbarred (immovable tags target) line (good x) y e).1

pub beside_is : (line : ℕ) (e : PlainTyped) (r : Checked PlainTyped) (y : PlainTyped) → beside_pointer line e r ≡ Ok y → r ≡ Ok y
beside_is line e r y h = either_way (λ x. x ≡ Ok y → r ≡ Ok y) (is_null_constant e) (λ q. q) (λ q. never (r ≡ Ok y) _ y q) h

-- what an operator makes: a value with its operand in hand
pub record Makes (c : Context) (typed : PlainTyped) (d : Context × Atom) : Type 0 where
  pub value : typed.is_place ≡ false
  pub goes : Goes c d.0
  pub held : Held (world d.0) typed.type d.1

pub makes_pointer : (c : Context) (type target : PlainType) (typed : PlainTyped) (d : Context × Atom) → operand type ≡ PointerTo target → value type ≡ typed → Gives c Pointer d → Makes c typed d
makes_pointer c type target typed d o e g = search arith

-- integers

both_converted : (line : ℕ) (to_left s : IntType) (x : Atom) (to_right t : IntType) (y : Atom) (c : Context) → 1 ≤ line → Holds (world c) Integer x → Holds (world c) Integer y
    → Goes c (convert_both line to_left s x to_right t y c).0 × Holds (world (convert_both line to_left s x to_right t y c).0) Integer (convert_both line to_left s x to_right t y c).1 × Holds (world (convert_both line to_left s x to_right t y c).0) Integer (convert_both line to_left s x to_right t y c).2
both_converted line to_left s x to_right t y c l h k =
    let d = convert_integer line to_left s x c in
    let one = integer_converted line to_left s x c l h in
    let two = integer_converted line to_right t y d.0 l (holds_grew (world c) (world d.0) Integer y one.goes.grew k) in
    (goes_trans c d.0 _ one.goes two.goes, holds_grew (world d.0) _ Integer d.1 two.goes.grew one.holds, two.holds)

pub work_gives : (line : ℕ) (how : Working) (s : IntType) (x : Atom) (t : IntType) (y : Atom) (c : Context) → 1 ≤ line → Holds (world c) Integer x → Holds (world c) Integer y → Gives c Integer (work line how s x t y c)
work_gives line (Calculates op) s x t y c l h k =
    let ty = common_type s t in
    let d = convert_both line ty s x ty t y c in
    let f = both_converted line ty s x ty t y c l h k in
    gives_on c d.0 Integer _ f.0 (gives_integer line (λ r. Bin op (kind_of ty) r d.1 d.2) d.0 l (λ v r g i. (i, holds_grew (world d.0) v Integer d.1 g f.1, holds_grew (world d.0) v Integer d.2 g f.2)))
work_gives line (Shifts op) s x t y c l h k =
    let d = convert_both line (promoted s) s x (promoted t) t y c in
    let f = both_converted line (promoted s) s x (promoted t) t y c l h k in
    gives_on c d.0 Integer _ f.0 (gives_integer line (λ r. Bin op (kind_of (promoted s)) r d.1 d.2) d.0 l (λ v r g i. (i, holds_grew (world d.0) v Integer d.1 g f.1, holds_grew (world d.0) v Integer d.2 g f.2)))
work_gives line (Compares op) s x t y c l h k =
    let ty = common_type s t in
    let d = convert_both line ty s x ty t y c in
    let f = both_converted line ty s x ty t y c l h k in
    gives_on c d.0 Integer _ f.0 (gives_integer line (λ r. Cmp op r d.1 d.2) d.0 l (λ v r g i. (i, holds_grew (world d.0) v Integer d.1 g f.1, holds_grew (world d.0) v Integer d.2 g f.2)))
work_gives line Branches s x t y c l h k = gives_here c Integer x h

pub before_gives : (line : ℕ) (op : UnaryOp) (ty : IntType) (x : Atom) (c : Context) → 1 ≤ line → Holds (world c) Integer x → Gives c Integer (before_integer line op ty x c)
unfolding before_integer
before_gives line u.Minus ty x c l h =
    let d = convert_integer line (promoted ty) ty x c in
    let f = integer_converted line (promoted ty) ty x c l h in
    gives_on c d.0 Integer _ f.goes (gives_integer line (λ r. Un un.Neg (kind_of (promoted ty)) r d.1) d.0 l (λ v r g i. (i, holds_grew (world d.0) v Integer d.1 g f.holds)))
before_gives line u.Complement ty x c l h =
    let d = convert_integer line (promoted ty) ty x c in
    let f = integer_converted line (promoted ty) ty x c l h in
    gives_on c d.0 Integer _ f.goes (gives_integer line (λ r. Un un.Not (kind_of (promoted ty)) r d.1) d.0 l (λ v r g i. (i, holds_grew (world d.0) v Integer d.1 g f.holds)))
before_gives line op ty x c l h = integer_converted line (promoted ty) ty x c l h

-- pointers

pub move_gives : (line : ℕ) (op : BinaryOp) (target : PlainType) (p k : Atom) (c : Context) → 1 ≤ line → Holds (world c) Pointer p → Holds (world c) Integer k → Gives c Pointer (move_pointer line op target p k c)
unfolding move_pointer
move_gives line bin.Subtract target p k c l h q = gives_pointer line (λ r. Sub r p k (pos (size_or_zero c target))) c l (λ v r g i. (i, holds_grew (world c) v Pointer p g h, holds_grew (world c) v Integer k g q))
move_gives line op target p k c l h q = gives_pointer line (λ r. Add r p k (pos (size_or_zero c target))) c l (λ v r g i. (i, holds_grew (world c) v Pointer p g h, holds_grew (world c) v Integer k g q))

pub between_gives : (line : ℕ) (how : Working) (target : PlainType) (p q : Atom) (c : Context) → 1 ≤ line → Holds (world c) Pointer p → Holds (world c) Pointer q → Gives c Integer (between_pointers line how target p q c)
between_gives line (Compares op) target p q c l h k = gives_integer line (λ r. Pcmp op r p q) c l (λ v r g i. (i, holds_grew (world c) v Pointer p g h, holds_grew (world c) v Pointer q g k))
between_gives line other target p q c l h k = gives_integer line (λ r. Diff r p q (pos (size_or_zero c target))) c l (λ v r g i. (i, holds_grew (world c) v Pointer p g h, holds_grew (world c) v Pointer q g k))

pub member_gives : (line offset : ℕ) (p : Atom) (c : Context) → 1 ≤ line → Holds (world c) Pointer p → Gives c Pointer (member_address line offset p c)
member_gives line offset p c l h = gives_pointer line (λ r. Off r p (pos offset)) c l (λ v r g i. (i, holds_grew (world c) v Pointer p g h))

abbrev pub IsPointed : Operand → Type 0
IsPointed (PointerTo target) = Unit {0}
IsPointed (Number ty) = ⊥
IsPointed Neither = ⊥

-- a left operand in hand, or a null pointer constant beside a pointer, of which only null is in hand
abbrev pub Left : Context → Operand → Operand → Atom → Type 0
Left b s t p = HeldAs (world b) s p ⊎ (IsPointed t × (p ≡ atom.Null))

-- an operator between two values; `&&` and `||` are not among them
abbrev pub IsBetween : BinaryOp → Type 0
IsBetween bin.And = ⊥
IsBetween bin.Or = ⊥
IsBetween op = Unit {0}

abbrev pub LeftOf : Context → BinaryOp → Operand → Operand → Atom → Type 0
LeftOf b op s t p = HeldAs (world b) s p ⊎ ((tells_equal op ≡ true) × IsPointed t × (p ≡ atom.Null))

-- an operator between a value in front of which b stands, and one behind which c stands: p and q are they
module _ (line : ℕ) (l : 1 ≤ line) (b c : Context) (g : Goes b c) where
  numbers : (op : BinaryOp) (s t : IntType) (p q : Atom) → Holds (world b) Integer p → Holds (world c) Integer q → Gives b Integer (on_integers line op s p t q c)
  numbers op s t p q h k = gives_on b c Integer _ g (work_gives line (working op) s p t q c l (holds_grew (world b) (world c) Integer p g.grew h) k)

  moves_first : (op : BinaryOp) (target : PlainType) (p q : Atom) → Holds (world b) Pointer p → Holds (world c) Integer q → Gives b Pointer (move_pointer line op target p q c)
  moves_first op target p q h k = gives_on b c Pointer _ g (move_gives line op target p q c l (holds_grew (world b) (world c) Pointer p g.grew h) k)

  pointers : (how : Working) (target : PlainType) (p q : Atom) → Holds (world b) Pointer p → Holds (world c) Pointer q → Gives b Integer (between_pointers line how target p q c)
  pointers how target p q h k = gives_on b c Integer _ g (between_gives line how target p q c l (holds_grew (world b) (world c) Pointer p g.grew h) k)

  number_made : (ty : IntType) (typed made : PlainTyped) (d : Context × Atom) → made.type ≡ types.Int ty → made.is_place ≡ false → made ≡ typed → Gives b Integer d → Makes b typed d
  number_made ty typed made d o p e k = subst (λ (x : PlainTyped). Makes b x d) e (record { value = p; goes = k.goes; held = subst (λ (t : PlainType). Held (world d.0) t d.1) (sym o) k.holds })

  pub sum_makes : (tags : TagTable) (x y typed : PlainTyped) (s t : Operand) (p q : Atom) → operand x.type ≡ s → operand y.type ≡ t → sum_types line tags x y s t ≡ Ok typed → HeldAs (world b) s p → HeldAs (world c) t q → Makes b typed (combine line bin.Add b.code s t p q c)
  unfolding working
  sum_makes tags x y typed (Number s) (Number t) p q o m e h k = number_made (result_type bin.Add s t) typed _ _ refl refl (ok_same _ typed e) (numbers bin.Add s t p q h k)
  sum_makes tags x y typed (PointerTo target) (Number t) p q o m e h k = makes_pointer b x.type target typed _ o (moved_is line tags target (value x.type) typed e) (moves_first bin.Add target p q h k)
  sum_makes tags x y typed (Number s) (PointerTo target) p q o m e h k = makes_pointer b y.type target typed _ m (moved_is line tags target (value y.type) typed e) (gives_on b c Pointer _ g (move_gives line bin.Add target q p c l k (holds_grew (world b) (world c) Integer p g.grew h)))
  sum_makes tags x y typed rest other p q o m e h k = never _ _ typed e

  pub difference_makes : (tags : TagTable) (x y typed : PlainTyped) (s t : Operand) (p q : Atom) → operand x.type ≡ s → operand y.type ≡ t → difference_types line tags x y s t ≡ Ok typed → HeldAs (world b) s p → HeldAs (world c) t q → Makes b typed (combine line bin.Subtract b.code s t p q c)
  unfolding working
  difference_makes tags x y typed (Number s) (Number t) p q o m e h k = number_made (result_type bin.Subtract s t) typed _ _ refl refl (ok_same _ typed e) (numbers bin.Subtract s t p q h k)
  difference_makes tags x y typed (PointerTo target) (Number t) p q o m e h k = makes_pointer b x.type target typed _ o (moved_is line tags target (value x.type) typed e) (moves_first bin.Subtract target p q h k)
  difference_makes tags x y typed (PointerTo target) (PointerTo other) p q o m e h k =
      number_made _ typed int _ refl refl (moved_is line tags target int typed (behind_test _ _ line _ typed e)) (pointers (working bin.Subtract) target p q h k)
  difference_makes tags x y typed rest other p q o m e h k = never _ _ typed e

  pub order_makes : (op : BinaryOp) (x y typed : PlainTyped) (s t : Operand) (p q : Atom) → order_types op line x y s t ≡ Ok typed → HeldAs (world b) s p → HeldAs (world c) t q → Makes b typed (combine line op b.code s t p q c)
  order_makes op x y typed (Number s) (Number t) p q e h k = number_made (result_type op s t) typed _ _ refl refl (ok_same _ typed e) (numbers op s t p q h k)
  order_makes op x y typed (PointerTo target) (PointerTo other) p q e h k = number_made _ typed int _ refl refl (passed _ _ line int typed e) (pointers (working op) target p q h k)
  order_makes op x y typed (PointerTo target) (Number t) p q e h k = never _ _ typed (beside_is line y _ typed e)
  order_makes op x y typed (Number s) (PointerTo other) p q e h k = never _ _ typed (beside_is line x _ typed e)
  order_makes op x y typed other rest p q e h k = never _ _ typed e

  pub integer_makes : (op : BinaryOp) (x y typed : PlainTyped) (s t : Operand) (p q : Atom) → integer_types op line x y s t ≡ Ok typed → HeldAs (world b) s p → HeldAs (world c) t q → Makes b typed (combine line op b.code s t p q c)
  integer_makes op x y typed (Number s) (Number t) p q e h k = number_made (result_type op s t) typed _ _ refl refl (ok_same _ typed e) (numbers op s t p q h k)
  integer_makes op x y typed other t p q e h k = never _ _ typed e

  -- comparisons of pointers with null pointer constants
  first_compared : (op : BinaryOp) (how : Working) (test : CmpOp) (target : PlainType) (p q : Atom) → how ≡ Compares test → Holds (world b) Pointer p → Gives b Integer (pointer_beside line op how b.code target p q c)
  first_compared op how test target p q w h =
      let gf = goes_forgotten b c g in
      let fc : Context = record c { code = b.code } in
      subst (λ (x : Working). Gives b Integer (pointer_beside line op x b.code target p q c)) (sym w)
      (gives_on b fc Integer _ gf (gives_integer line (λ r. Pcmp test r p atom.Null) fc l (λ v r gv i. (i, holds_grew (world fc) v Pointer p gv (holds_grew (world b) (world fc) Pointer p gf.grew h), refl))))

  last_compared : (op : BinaryOp) (how : Working) (test : CmpOp) (target : PlainType) (p q : Atom) → how ≡ Compares test → Holds (world c) Pointer q → Gives b Integer (beside_integer line op how target p q c)
  last_compared op how test target p q w h =
      subst (λ (x : Working). Gives b Integer (beside_integer line op x target p q c)) (sym w)
      (gives_on b c Integer _ g (gives_integer line (λ r. Pcmp test r atom.Null q) c l (λ v r gv i. (i, refl, holds_grew (world c) v Pointer q gv h))))

  left_pointer : (target : PlainType) (t : Operand) (p : Atom) → Left b (PointerTo target) t p → Holds (world b) Pointer p
  left_pointer target t p h3 = search arith fits 100

  pub equal_makes : (op : BinaryOp) (test : CmpOp) (x y typed : PlainTyped) (s t : Operand) (p q : Atom) → working op ≡ Compares test → equal_types op line x y s t ≡ Ok typed → Left b s t p → HeldAs (world c) t q → Makes b typed (combine line op b.code s t p q c)
  equal_makes op test x y typed (Number s) (Number t) p q w e h k = number_made (result_type op s t) typed _ _ refl refl (ok_same _ typed e) (numbers op s t p q (search arith fits 100) k)
  equal_makes op test x y typed (PointerTo target) (PointerTo other) p q w e h k = number_made _ typed int _ refl refl (passed _ _ line int typed e) (pointers (working op) target p q (left_pointer target (PointerTo other) p h) k)
  equal_makes op test x y typed (PointerTo target) (Number t) p q w e h k = number_made _ typed int _ refl refl (ok_same int typed (beside_is line y (good int) typed e)) (first_compared op (working op) test target p q w (left_pointer target (Number t) p h))
  equal_makes op test x y typed (Number s) (PointerTo other) p q w e h k = number_made _ typed int _ refl refl (ok_same int typed (beside_is line x (good int) typed e)) (last_compared op (working op) test other p q w k)
  equal_makes op test x y typed other rest p q w e h k = never _ _ typed e

  left_held : (op : BinaryOp) (s t : Operand) (p : Atom) → tells_equal op ≡ false → LeftOf b op s t p → HeldAs (world b) s p
  left_held op s t p n h5 = search arith fits 100

  left_of : (op : BinaryOp) (s t : Operand) (p : Atom) → LeftOf b op s t p → Left b s t p
  left_of op s t p h4 = search arith fits 100

  pub binary_makes : (op : BinaryOp) (tags : TagTable) (x y typed : PlainTyped) (p q : Atom) → IsBetween op → binary line op tags x y ≡ Ok typed → LeftOf b op (operand x.type) (operand y.type) p → Held (world c) y.type q → Makes b typed (combine line op b.code (operand x.type) (operand y.type) p q c)
  unfolding working
  binary_makes bin.Add tags x y typed p q i e h k = sum_makes tags x y typed (operand x.type) (operand y.type) p q refl refl e (left_held bin.Add _ _ p refl h) k
  binary_makes bin.Subtract tags x y typed p q i e h k = difference_makes tags x y typed (operand x.type) (operand y.type) p q refl refl e (left_held bin.Subtract _ _ p refl h) k
  binary_makes bin.Less tags x y typed p q i e h k = order_makes bin.Less x y typed (operand x.type) (operand y.type) p q e (left_held bin.Less _ _ p refl h) k
  binary_makes bin.Greater tags x y typed p q i e h k = order_makes bin.Greater x y typed (operand x.type) (operand y.type) p q e (left_held bin.Greater _ _ p refl h) k
  binary_makes bin.LessEqual tags x y typed p q i e h k = order_makes bin.LessEqual x y typed (operand x.type) (operand y.type) p q e (left_held bin.LessEqual _ _ p refl h) k
  binary_makes bin.GreaterEqual tags x y typed p q i e h k = order_makes bin.GreaterEqual x y typed (operand x.type) (operand y.type) p q e (left_held bin.GreaterEqual _ _ p refl h) k
  binary_makes bin.Equal tags x y typed p q i e h k = equal_makes bin.Equal cmp.Eq x y typed (operand x.type) (operand y.type) p q refl e (left_of bin.Equal _ _ p h) k
  binary_makes bin.NotEqual tags x y typed p q i e h k = equal_makes bin.NotEqual cmp.Ne x y typed (operand x.type) (operand y.type) p q refl e (left_of bin.NotEqual _ _ p h) k
  binary_makes bin.BitOr tags x y typed p q i e h k = integer_makes bin.BitOr x y typed (operand x.type) (operand y.type) p q e (left_held bin.BitOr _ _ p refl h) k
  binary_makes bin.BitXor tags x y typed p q i e h k = integer_makes bin.BitXor x y typed (operand x.type) (operand y.type) p q e (left_held bin.BitXor _ _ p refl h) k
  binary_makes bin.BitAnd tags x y typed p q i e h k = integer_makes bin.BitAnd x y typed (operand x.type) (operand y.type) p q e (left_held bin.BitAnd _ _ p refl h) k
  binary_makes bin.ShiftLeft tags x y typed p q i e h k = integer_makes bin.ShiftLeft x y typed (operand x.type) (operand y.type) p q e (left_held bin.ShiftLeft _ _ p refl h) k
  binary_makes bin.ShiftRight tags x y typed p q i e h k = integer_makes bin.ShiftRight x y typed (operand x.type) (operand y.type) p q e (left_held bin.ShiftRight _ _ p refl h) k
  binary_makes bin.Multiply tags x y typed p q i e h k = integer_makes bin.Multiply x y typed (operand x.type) (operand y.type) p q e (left_held bin.Multiply _ _ p refl h) k
  binary_makes bin.Divide tags x y typed p q i e h k = integer_makes bin.Divide x y typed (operand x.type) (operand y.type) p q e (left_held bin.Divide _ _ p refl h) k
  binary_makes bin.Remainder tags x y typed p q i e h k = integer_makes bin.Remainder x y typed (operand x.type) (operand y.type) p q e (left_held bin.Remainder _ _ p refl h) k
  binary_makes other tags x y typed p q i e h k = absurd i

-- an operator with `=`

change_brings : (line : ℕ) (op : BinaryOp) (s t : Operand) (old y : Atom) (c : Context) → 1 ≤ line → HeldAs (world c) s old → HeldAs (world c) t y → Goes c (change line op s t old y c).0 × HeldAs (world (change line op s t old y c).0) s (change line op s t old y c).1
change_brings line op (Number s) (Number t) old y c l h k =
    let d = on_integers line op s old t y c in
    let one = work_gives line (working op) s old t y c l h k in
    let two = integer_converted line s (result_type op s t) d.1 d.0 l one.holds in
    (goes_trans c d.0 _ one.goes two.goes, two.holds)
change_brings line op (PointerTo target) (Number t) old y c l h k = let g = move_gives line op target old y c l h k in (g.goes, g.holds)
change_brings line op Neither t old y c l h k = (goes_refl c, tt)
change_brings line op other rest old y c l h k = (goes_refl c, h)

pub changed_brings : (line : ℕ) (op : BinaryOp) (type : PlainType) (old : Atom) (e : PlainTyped) (y : Atom) (c : Context) → 1 ≤ line → Held (world c) type old → Held (world c) e.type y → Brings c type (changed_to line op type old e y c)
changed_brings line op type old e y c l h k = let r = change_brings line op (operand type) (operand e.type) old y c l h k in record { goes = r.0; held = r.1 }
