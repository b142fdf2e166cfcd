-- Code grows: what a step of the walk adds stands behind what was there. Proved from the definitions of the steps.
use Rattle.std.proofs.Common.{◌≡◌, ℕ, Bool, true, false, List, [], ◌∷◌, ◌++◌, Option, Some, None, Ok, Err, sym, ap, ◌∙◌, append_assoc, append-nil, length}
use Rattle.std.specs.Prelude.{cond, take}
use Rattle.std.proofs.Math.Seq.{take-append_seam}
use Rattle.c_types.specs.declared.types.IntType.{IntType}
use Rattle.c_types.specs.Types.{PlainType, PlainTypes, Int, Pointer, none, first, kind_of}
use Rattle.core_tree.specs.declared.statements.Atom.{Atom}
use Rattle.core_tree.specs.declared.statements.Atom.TheVariants as atom
use Rattle.core_tree.specs.declared.statements.StmKind.{StmKind}
use Rattle.c_tree.specs.declared.operator.UnaryOp.{UnaryOp}
use Rattle.c_tree.specs.declared.operator.UnaryOp.TheVariants as u
use Rattle.c_tree.specs.declared.operator.BinaryOp.{BinaryOp}
use Rattle.c_tree.specs.declared.operator.BinaryOp.TheVariants as b
use Rattle.c_tree.specs.Tree.{Tree}
use Rattle.c_decls.specs.declared.built_in.BuiltIn.{BuiltIn}
use Rattle.c_decls.specs.declared.built_in.BuiltIn.TheVariants as x
use Rattle.c_decls.specs.declared.refusal.TypeKind.{TypeKind}
use Rattle.c_decls.specs.declared.refusal.TypeKind.TheVariants.{Operands}
use Rattle.c_decls.specs.Named as n
use Rattle.c_decls.specs.Named.{PlainNamed}
use Rattle.c_decls.specs.Refusals.{Checked, then, unless}
use Rattle.c_decls.specs.Typed.{PlainTyped, Operand, Number, PointerTo, operand, read, has_no_value}
use Rattle.c_decls.specs.Expressions.{line_of}
use Rattle.elab_base.specs.Marks.{mark_of, cut}
use Rattle.elab_rules.specs.Behind.{Behind, From}
use Rattle.elaboration.specs.Context.{Piece, Code, Context, With}
use Rattle.elaboration.specs.Conversions.{Found, Spot, Local, Memory, read_spot, valued_from, valued, convert_integer, convert_to, tested, write, holds_all, unused, wanted_from}
use Rattle.elaboration.specs.Operations.{Working, Calculates, Shifts, Compares, Branches, work, before_integer, move_pointer, between_pointers, pointer_beside, beside_integer, combine, change, working}
use Rattle.elaboration.specs.Calls.{Argument, result_by, call_built_in, call_of_built_in, call_named, argument_from, built_in_at}
use Rattle.elaboration.specs.Rules.{set_again, compare_again, chosen_by}

pub none_behind : (xs : List Piece) → Behind xs xs
none_behind xs = record { more = []; is = sym (append-nil xs) }

-- one piece more
pub one : (xs ys : List Piece) (piece : Piece) → Behind xs ys → Behind xs (ys ++ piece ∷ [])
one xs ys piece h = record {
  more = h.more ++ piece ∷ [];
  is = ap (λ (ps : List Piece). ps ++ piece ∷ []) h.is ∙ append_assoc xs h.more (piece ∷ []);
}

-- what stands behind is cut off again
pub cut_back : (c d : Code) → Behind c.pieces d.pieces → cut (mark_of c) d ≡ c
cut_back c d h =
    let e : take (length c.pieces) d.pieces ≡ c.pieces = ap (λ (ps : List Piece). take (length c.pieces) ps) h.is ∙ take-append_seam c.pieces h.more in
    ap (λ (ps : List Piece). record c { pieces = ps }) e

-- an answer whose code grew, unless it is a refusal
abbrev pub Grown : {A : Type 0} → List Piece → With A → Type 0
Grown xs (Ok d) = From xs d.0
Grown xs (Err refusal) = Unit {0}

pub then_grown : {A B : Type 0} (xs : List Piece) (answer : With A) (next : Context × A → With B) → Grown xs answer → ((d : Context × A) → From xs d.0 → Grown xs (next d)) → Grown xs (then answer next)
then_grown xs (Ok d) next h k = k d h
then_grown xs (Err refusal) next h k = tt

pub rule_grown : {A B : Type 0} (xs : List Piece) (answer : Checked A) (next : A → With B) → ((a : A) → Grown xs (next a)) → Grown xs (then answer next)
rule_grown xs (Ok a) next k = k a
rule_grown xs (Err refusal) next k = tt

pub unless_grown : {A : Type 0} (xs : List Piece) (test : Bool) (kind : TypeKind) (line : ℕ) (d : Context) (next : Context → With A) → Grown xs (next d) → Grown xs (then (unless test kind line (Ok d)) next)
unless_grown xs true kind line d next h = tt
unless_grown xs false kind line d next h = h

pub cond_from : {A : Type 0} (xs : List Piece) (test : Bool) (d e : Context × A) → From xs d.0 → From xs e.0 → From xs (cond test d e).0
cond_from xs true d e h k = h
cond_from xs false d e h k = k

module _ (xs : List Piece) (line : ℕ) where
  pub read_from : (type : PlainType) (spot : Spot) (d : Context) → From xs d → From xs (read_spot line type spot d).0
  unfolding read_spot
  read_from (Int ty) (Local r) d h = one xs d.code.pieces _ h
  read_from (Pointer target) (Local r) d h = one xs d.code.pieces _ h
  read_from (Int ty) (Memory a) d h = one xs d.code.pieces _ h
  read_from (Pointer target) (Memory a) d h = one xs d.code.pieces _ h
  read_from type spot d h = h

  pub integer_from : (ty source : IntType) (a : Atom) (d : Context) → From xs d → From xs (convert_integer line ty source a d).0
  unfolding convert_integer
  integer_from ty source (atom.Int n) d h = h
  integer_from ty source a d h =
      cond_from xs (holds_all (kind_of ty) (kind_of source)) _ _ h (one xs d.code.pieces _ h)

  pub convert_from : (before : Code) (wanted given : Operand) (a : Atom) (d : Context) → Behind xs before.pieces → From xs d → From xs (convert_to line before wanted given a d).0
  convert_from before (Number ty) (Number source) a d b h = integer_from ty source a d h
  convert_from before (PointerTo target) (Number source) a d b h = b
  convert_from before wanted given a d b h = h

  pub tested_from : (type : PlainType) (a : Atom) (d : Context) → From xs d → From xs (tested line type a d).0
  unfolding tested
  tested_from (Pointer target) a d h = one xs d.code.pieces _ h
  tested_from type a d h = h

  pub write_from : (type : PlainType) (spot : Spot) (a : Atom) (d : Context) → From xs d → From xs (write line type spot a d)
  unfolding write
  write_from type (Local r) a d h = one xs d.code.pieces _ h
  write_from (Int ty) (Memory p) a d h = one xs d.code.pieces _ h
  write_from (Pointer target) (Memory p) a d h = one xs d.code.pieces _ h
  write_from type spot a d h = h

  pub work_from : (how : Working) (s : IntType) (x : Atom) (t : IntType) (y : Atom) (d : Context) → From xs d → From xs (work line how s x t y d).0
  work_from (Calculates op) s x t y d h = one xs _ _ (integer_from _ t y _ (integer_from _ s x d h))
  work_from (Shifts op) s x t y d h = one xs _ _ (integer_from _ t y _ (integer_from _ s x d h))
  work_from (Compares op) s x t y d h = one xs _ _ (integer_from _ t y _ (integer_from _ s x d h))
  work_from Branches s x t y d h = h

  pub before_from : (op : UnaryOp) (ty : IntType) (x : Atom) (d : Context) → From xs d → From xs (before_integer line op ty x d).0
  unfolding before_integer
  before_from u.Minus ty x d h = one xs _ _ (integer_from _ ty x d h)
  before_from u.Complement ty x d h = one xs _ _ (integer_from _ ty x d h)
  before_from op ty x d h = integer_from _ ty x d h

  pub move_from : (op : BinaryOp) (target : PlainType) (p n : Atom) (d : Context) → From xs d → From xs (move_pointer line op target p n d).0
  unfolding move_pointer
  move_from b.Subtract target p n d h = one xs d.code.pieces _ h
  move_from op target p n d h = one xs d.code.pieces _ h

  pub between_from : (how : Working) (target : PlainType) (p q : Atom) (d : Context) → From xs d → From xs (between_pointers line how target p q d).0
  between_from (Compares op) target p q d h = one xs d.code.pieces _ h
  between_from other target p q d h = one xs d.code.pieces _ h

  pointer_beside_from : (op : BinaryOp) (how : Working) (before : Code) (target : PlainType) (p n : Atom) (d : Context) → Behind xs before.pieces → From xs d → From xs (pointer_beside line op how before target p n d).0
  pointer_beside_from op (Compares test) before target p n d b h = one xs before.pieces _ b
  pointer_beside_from op other before target p n d b h = move_from op target p n d h

  beside_integer_from : (op : BinaryOp) (how : Working) (target : PlainType) (n p : Atom) (d : Context) → From xs d → From xs (beside_integer line op how target n p d).0
  beside_integer_from op (Compares test) target n p d h = one xs d.code.pieces _ h
  beside_integer_from op other target n p d h = move_from op target p n d h

  pub combine_from : (op : BinaryOp) (before : Code) (left right : Operand) (x y : Atom) (d : Context) → Behind xs before.pieces → From xs d → From xs (combine line op before left right x y d).0
  combine_from op before (Number s) (Number t) x y d b h = work_from (working op) s x t y d h
  combine_from op before (PointerTo target) (Number t) x y d b h = pointer_beside_from op (working op) before target x y d b h
  combine_from op before (Number s) (PointerTo target) x y d b h = beside_integer_from op (working op) target x y d h
  combine_from op before (PointerTo target) (PointerTo other) x y d b h = between_from (working op) target x y d h
  combine_from op before left right x y d b h = h

  pub change_from : (op : BinaryOp) (left right : Operand) (old y : Atom) (d : Context) → From xs d → From xs (change line op left right old y d).0
  change_from op (Number s) (Number t) old y d h = integer_from s _ _ _ (work_from (working op) s old t y d h)
  change_from op (PointerTo target) (Number t) old y d h = move_from op target old y d h
  change_from op left right old y d h = h

  pub set_from : (to a : Atom) (d : Context) → From xs d → From xs (set_again line to a d)
  set_from (atom.Reg r) a d h = one xs d.code.pieces _ h
  set_from other a d h = h

  pub compare_from : (to a : Atom) (d : Context) → From xs d → From xs (compare_again line to a d)
  compare_from (atom.Reg r) a d h = one xs d.code.pieces _ h
  compare_from other a d h = h

  pub chosen_from : (before : Code) (type : PlainType) (e : PlainTyped) (d : Context × Atom) → Behind xs before.pieces → From xs d.0 → From xs (chosen_by line before type e d).0
  chosen_from before (Int ty) e d b h = one xs _ _ (convert_from before (operand (Int ty)) (operand e.type) d.1 d.0 b h)
  chosen_from before (Pointer target) e d b h = one xs _ _ (convert_from before (operand (Pointer target)) (operand e.type) d.1 d.0 b h)
  chosen_from before type e d b h = h

  result_from : (type : PlainType) (kind : Option ℕ → StmKind) (d : Context) → From xs d → From xs (result_by line type kind d).0
  result_from (Int ty) kind d h = one xs d.code.pieces _ h
  result_from (Pointer target) kind d h = one xs d.code.pieces _ h
  result_from type kind d h = one xs d.code.pieces _ h

  built_in_from : (name : BuiltIn) (answer wanted : PlainType) (format : Option (List ℕ)) (arguments : List Argument) (d : Context) → From xs d → From xs (call_built_in line name answer wanted format arguments d).0
  unfolding call_built_in
  built_in_from x.Malloc answer wanted format arguments d h = one xs d.code.pieces _ h
  built_in_from x.Calloc answer wanted format arguments d h = one xs d.code.pieces _ h
  built_in_from x.Realloc answer wanted format arguments d h = one xs d.code.pieces _ h
  built_in_from x.Free answer wanted format arguments d h = one xs _ _ (one xs _ _ (one xs d.code.pieces _ h))
  built_in_from x.Printf answer wanted format arguments d h = one xs d.code.pieces _ h
  built_in_from name answer wanted format arguments d h = result_from answer _ d h

  built_ins_from : (name : Option BuiltIn) (answer wanted : PlainType) (format : Option (List ℕ)) (arguments : List Argument) (d : Context) → From xs d → From xs (call_of_built_in line name answer wanted format arguments d).0
  built_ins_from None answer wanted format arguments d h = h
  built_ins_from (Some name) answer wanted format arguments d h = built_in_from name answer wanted format arguments d h

  pub call_from : (name : Option PlainNamed) (answer wanted : PlainType) (format : Option (List ℕ)) (arguments : List Argument) (d : Context) → From xs d → From xs (call_named line name answer wanted format arguments d).0
  call_from (Some (n.Function type index)) answer wanted format arguments d h = result_from answer _ _ (record { more = h.more; is = h.is })
  call_from other answer wanted format arguments d h = built_ins_from (built_in_at other) answer wanted format arguments d h

  pub argument_grown : (params : PlainTypes) (before : Code) (d : Context) (e : Found) → Behind xs before.pieces → From xs d → From xs (argument_from line params before d e).0
  argument_grown none before d e b h = h
  argument_grown (first type rest) before d e b h = convert_from before (operand type) (operand e.typed.type) _ d b h

pub valued_from_grown : (xs : List Piece) (tree : Tree) (d : Context) (e : Found) → From xs d → Grown xs (valued_from tree d e)
valued_from_grown xs tree d e h =
    rule_grown xs (read (line_of tree) d.tags e.typed) _ (λ typed. read_from xs _ e.typed.type e.spot d h)

pub unused_grown : (xs : List Piece) (tree : Tree) (answer : With Found) → Grown xs answer → Grown xs (unused tree answer)
unused_grown xs tree answer h = then_grown xs answer _ h (λ d k. valued_from_grown xs tree d.0 d.1 k)

wanted_from_grown : (xs : List Piece) (tree : Tree) (d : Context) (e : Found) → From xs d → Grown xs (wanted_from tree d e)
wanted_from_grown xs tree d e h = by (has_no_value e.typed)
  where
    by : (test : Bool) → Grown xs (unless test Operands (line_of tree) (valued_from tree d e))
    by true = tt
    by false = valued_from_grown xs tree d e h

pub valued_grown : (xs : List Piece) (tree : Tree) (answer : With Found) → Grown xs answer → Grown xs (valued tree answer)
valued_grown xs tree answer h = then_grown xs answer _ h (λ d k. wanted_from_grown xs tree d.0 d.1 k)
