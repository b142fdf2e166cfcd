-- Each expression is where it says, and its code fits.
use Rattle.core_soundness.proofs.Words.Std.{◌≡◌, ◌≤◌, ◌+◌, ℕ, ℤ, pos, Bool, true, false, cond, is_some, ⊎_elim, List, [], ◌∷◌, Option, Some, None, Ok, refl, sym, ap, ◌∙◌, subst, length, arith}
use Rattle.core_soundness.proofs.Words.Trees.{Tree, Trees, Leaf, At, Node, none, ◌▹◌}
use Rattle.core_soundness.proofs.Words.Types.{size_in, PlainType, PlainTypes, Void, Callee, Takes, Prints, NoFunction, called, line_of, int_constant, char_constant, joined, literal, typed, typename, PlainNamed, choice, size_answer, Checked, then, named_in, found_from, found as declaration, Table, binary, PlainTyped, operand, is_record, integer, Is}
use Rattle.core_soundness.proofs.Words.Core.{Sort, Enter, Leave}
use Rattle.core_soundness.proofs.Words.Elaborating.{plain_name, record_assigned, scalar_assigned, old_value, Argument, first_type, rest_types, argument_from, Context, With, asked, told, new_label, emit, anew, entered, left, Found, valued_as, atom_in, valued, unused, code_line, unevaluated, changing, comma_answer, callee_name, callee, parameters, format_argument, is_printf, found, arguments, cast_operand, reallocates, opened, closed, constant_found, ahead, ahead_of, typed_value, left_operand, and_then, or_else, choose, choice_ahead, choice_type, type_ahead, choose_first}
use Rattle.core_soundness.proofs.Words.Facts.{NoRegister, TakesAddress, Spoken, AllSpoken, FileFits, World, world, HeldAs, Held, StandsAs, Stands, NamesFit, InnerFits, TableFits}
use Rattle.c_types.specs.Types as ct
use Rattle.c_types.specs.declared.types.IntType.TheVariants as i
use Rattle.core_tree.specs.declared.statements.Atom.TheVariants as atom
use Rattle.c_tree.specs.Forms as f
use Rattle.c_tree.specs.Words as w
use Rattle.c_tree.specs.declared.operator.AssignOp.TheVariants as a
use Rattle.c_tree.specs.declared.operator.BinaryOp.TheVariants as b
use Rattle.c_tree.specs.declared.operator.UnaryOp.TheVariants as u
use Rattle.c_decls.specs.Expressions as types
use Rattle.c_decls.specs.Named as n
use Rattle.c_decls.specs.ScopeList as scopes
use Rattle.c_decls.specs.TypeNames as names
use Rattle.core_soundness.proofs.Agreeing.{came, quiet_left, quiet_first, valued_agrees, found_agrees, changing_first}
use Rattle.core_soundness.proofs.Calls.{record_lands, scalar_lands, changing_rule, changed_comes, stepped_comes, arguments_grew, AllHeld, argument_goes, CallOf, call_of, call_lands, ready_on, Rests, rests, valued_operated, names_more, all_spoken_more, unused_operated, inner_kept}
use Rattle.core_soundness.proofs.Declaring.{tail_depth}
use Rattle.core_soundness.proofs.Growth.{good, ok_same, never, cast_unused, valued_unused}
use Rattle.core_soundness.proofs.Landing.{found_name, name_lands, constant_lands, string_lands, indexed_lands, dotted_lands, pointed_lands, InMemory, address_lands, applied_lands, left_goes, between_lands, cast_lands, logical_typed, and_then_goes, and_comes, or_else_gives, or_comes, choice_sides, first_goes, first_null, chosen_lands}
use Rattle.core_soundness.proofs.Scopes.{entered_fit, left_fit, MoreAll, all_refl, all_trans, more_depth, tail_more}
use Rattle.core_soundness.proofs.Sorting.{Grew, Goes, goes_refl, goes_trans, goes_told, Sits, Lands, Comes, comes_lands, value_grew, stands_grew, held_grew, old_brings, Converting, grew_refl, grew_trans, CodeFits, goes_emit, unused_comes}
use Rattle.core_soundness.proofs.TagSorts.{typed_after, typename_after}
use Rattle.core_soundness.proofs.Choices.{either_way}

-- each expression is where it says, and its code fits (C99 6.5)

-- sizes

IsSize : PlainTyped → Type 0
IsSize e = (k : ℤ) × (integer i.UInt (Is k) ≡ e)

size_is : (line : ℕ) (o : Option ℕ) (known : names.Context) (t : names.Context × PlainTyped) → then (size_answer line o) (λ e. good (known, e)) ≡ Ok t → IsSize t.1
unfolding IsSize
size_is line None known t h = never _ _ t h
size_is line (Some k) known t h = (pos k, ap (λ (x : names.Context × PlainTyped). x.1) (ok_same _ t h))

expr_size : (line : ℕ) (e : Tree) (known : names.Context) (t : names.Context × PlainTyped) → typed (Node f.SizeofExpr (At line ▹ e ▹ none)) known ≡ Ok t → IsSize t.1
unfolding typed
expr_size line e known t h =
    let d = came (typed e known) h in
    size_is line (size_in d.value.0.tags d.value.1.type) d.value.0 t d.last

type_size : (line : ℕ) (e : Tree) (known : names.Context) (t : names.Context × PlainTyped) → typed (Node f.SizeofType (At line ▹ e ▹ none)) known ≡ Ok t → IsSize t.1
unfolding typed
type_size line e known t h =
    let d = came (typename e known) h in
    size_is line (size_in d.value.0.tags d.value.1) d.value.0 t d.last

unevaluated_lands : (tree : Tree) (c : Context) (z : Context × Found) → ((t : names.Context × PlainTyped) → typed tree (asked c) ≡ Ok t → IsSize t.1) → unevaluated c (typed tree (asked c)) ≡ Ok z → Lands c z
unfolding IsSize
unevaluated_lands tree c z k h =
    let t = came (typed tree (asked c)) h in
    subst (Lands c) (ok_same (told t.value.0 c, constant_found t.value.1) z t.last)
    (record { goes = goes_told t.value.0 c (typed_after tree (asked c) t.value t.is); stands = (subst (λ (x : PlainTyped). Stands (world (told t.value.0 c)) (constant_found x)) (k t.value t.is).1 refl); apart = tt })

-- what comes next, ahead

ahead_is : (g : Tree) (c d : Context) (r : Context × Found) → asked d ≡ asked c → valued g (found g Void d) ≡ Ok r → ahead g c ≡ Some r.1.typed
ahead_is g c d r same h =
    let agreed = valued_agrees g (found g Void d) (typed g (asked d)) r (λ x k. found_agrees g Void d x k) h in
    ap (λ (m : names.Context). ahead_of (typed_value (types.wanted g (typed g m)))) (sym same) ∙ ap (λ (x : types.Found). ahead_of (typed_value x)) agreed

-- an operand that is read and written
comma_comes : (c : Context) (r z : Context × Found) → Comes c r → good (comma_answer r) ≡ Ok z → Comes c z
comma_comes c r z h q = search (arith, ok_same)

-- callees

record Named (c : Context) (o : Option PlainNamed) (d : Context × Callee) : Type 0 where
  goes : Goes c d.0
  of : CallOf (world d.0) o d.1

call_grew : (u v : World) (o : Option PlainNamed) (function : Callee) → Grew u v → CallOf u o function → CallOf v o function
call_grew u v o function g h = search arith fits 100

at_file : (c : Context) (name : List ℕ) (type : PlainType) (index : ℕ) → NamesFit (world c) c.scopes → declaration c.scopes name ≡ Some (n.Function type index) → named_in name c.scopes.file ≡ Some (n.Function type index)
at_file c name type index h e =
    ⊎_elim (λ (x : (is_some (found_from [] name c.scopes.inner) ≡ true) × ⊥). absurd x.1) (λ (x : (is_some (found_from [] name c.scopes.inner) ≡ false) × (named_in name c.scopes.file ≡ Some (n.Function type index))). x.1) (found_name (world c) c.scopes.file c.scopes.inner name (n.Function type index) h.inner e)

name_called : (line : ℕ) (name : List ℕ) (c : Context) (d : Context × Callee) → NamesFit (world c) c.scopes → then (called line c.tags (declaration c.scopes name)) (λ function. good (c, function)) ≡ Ok d → Named c (declaration c.scopes name) d
name_called line name c d h q =
    let k = came (called line c.tags (declaration c.scopes name)) q in
    subst (Named c (declaration c.scopes name)) (ok_same (c, k.value) d k.last)
    (record { goes = goes_refl c; of = call_of line (world c) c.tags name (declaration c.scopes name) k.value (λ type index e. at_file c name type index h e) k.is })

other_called : (tree : Tree) (c : Context) (answer : With Found) (d : Context × Callee) → ((x : Context × Found) → answer ≡ Ok x → Rests c tree x) → then (valued tree answer) (λ d. good (d.0, NoFunction)) ≡ Ok d → Named c None d
other_called tree c answer d k q =
    let v = came (valued tree answer) q in
    let o = valued_operated tree c answer v.value k v.is in
    subst (Named c None) (ok_same (v.value.0, NoFunction) d v.last) (record { goes = o.comes.goes; of = refl })

callee_named : (tree : Tree) (c : Context) (answer : With Found) (d : Context × Callee) → NamesFit (world c) c.scopes → ((x : Context × Found) → answer ≡ Ok x → Rests c tree x) → callee tree c answer ≡ Ok d → Named c (callee_name tree c) d
callee_named (Node f.Name (At line ▹ Leaf (w.Name name) ▹ none)) c answer d h k q = name_called line name c d h q
callee_named tree c answer d h k q = other_called tree c answer d k q

-- arguments

pub record Held_all (c : Context) (target : Callee) (params : PlainTypes) (z : Context × List Argument) : Type 0 where
  pub goes : Goes c z.0
  pub held : AllHeld (world z.0) target params z.1

-- only `printf` has a format, and it has no parameters
abbrev pub HasParams : Callee → PlainTypes → Type 0
HasParams Prints params = params ≡ ct.none
HasParams (Takes answer takes) params = Unit {0}
HasParams NoFunction params = Unit {0}

no_arguments : (c : Context) (target : Callee) (params : PlainTypes) → Held_all c target params (c, [])
no_arguments c Prints params = record { goes = goes_refl c; held = tt }
no_arguments c other params = record { goes = goes_refl c; held = tt }

record OneArgument (c : Context) (target : Callee) (d : Context × Found) : Type 0 where
  goes : Goes c d.0
  held : (target ≡ Prints → ⊥) → Held (world d.0) d.1.typed.type (atom_in d.1)

format_found : (o : Option (List ℕ)) (c : Context) (answer : Checked (names.Context × PlainTyped)) (walked : With Found) (d : Context × Found) → ((x : Context × Found) → walked ≡ Ok x → Comes c x) → format_argument o c answer walked ≡ Ok d → OneArgument c Prints d
format_found None c answer walked d h q = let k = h d q in record { goes = k.goes; held = λ x. k.value.held }
format_found (Some bytes) c answer walked d h q =
    let t = came answer q in
    subst (OneArgument c Prints) (ok_same (c, valued_as t.value.1 atom.Null) d t.last) (record { goes = goes_refl c; held = λ x. absurd (x refl) })

one_argument : (target : Callee) (e : Tree) (c : Context) (answer : Checked (names.Context × PlainTyped)) (walked : With Found) (d : Context × Found) → ((x : Context × Found) → walked ≡ Ok x → Comes c x) → format_argument (is_printf target e) c answer walked ≡ Ok d → OneArgument c target d
one_argument Prints e c answer walked d h q = format_found (literal e) c answer walked d h q
one_argument other e c answer walked d h q = let k = h d q in record { goes = k.goes; held = λ x. k.value.held }

-- one argument more, with those behind it
more_arguments : (line : ℕ) (target : Callee) (params : PlainTypes) (c : Context) (d : Context × Found) (more z : Context × List Argument) → 1 ≤ line → HasParams target params → OneArgument c target d
    → (let v = argument_from line params c.code d.0 d.1 in Goes c v.0 → Held_all v.0 NoFunction (rest_types params) more)
    → (let v = argument_from line params c.code d.0 d.1 in (more.0, v.1 ∷ more.1)) ≡ z → Held_all c target params z
more_arguments line Prints params c d more z l p o k e = search (arith, goes_trans)
more_arguments line (Takes answer takes) params c d more z l p o k e =
    let v = argument_from line params c.code d.0 d.1 in
    let r = argument_goes line params c d.0 d.1 l o.goes (o.held (λ x. cc)) in
    let m = k r.goes in
    subst (Held_all c (Takes answer takes) params) e (record { goes = goes_trans c v.0 more.0 r.goes m.goes; held = ((arguments_grew (world v.0) (world more.0) params (v.1 ∷ []) m.goes.grew (r.held, tt)).0, m.held) })
more_arguments line NoFunction params c d more z l p o k e =
    let v = argument_from line params c.code d.0 d.1 in
    let r = argument_goes line params c d.0 d.1 l o.goes (o.held (λ x. cc)) in
    let m = k r.goes in
    subst (Held_all c NoFunction params) e (record { goes = goes_trans c v.0 more.0 r.goes m.goes; held = ((arguments_grew (world v.0) (world more.0) params (v.1 ∷ []) m.goes.grew (r.held, tt)).0, m.held) })

has_params : (function : Callee) → HasParams function (parameters function)
has_params function = search arith fits 100

in_memory_by : (c : Context) (e : Tree) (d : Context × Found) → NoRegister c.scopes (plain_name e) → Rests c e d → InMemory d.1
in_memory_by c e d s r k q = grind (arith, false, true)

-- a value that came from further on
landed : (c : Context) (d z : Context × Found) → Goes c d.0 → Comes d.0 z → Lands c z
landed c d z g h = let k = comes_lands d.0 z h in record { goes = goes_trans c d.0 z.0 g h.goes; stands = k.stands; apart = k.apart }

assigned_lands : (k : Bool) (line : ℕ) (g : Tree) (c : Context) (d r z : Context × Found) → 1 ≤ line → Sits c d → Rests d.0 g r → cond k (record_assigned line (line_of g) d.1 r) (scalar_assigned line d.0.code g d.1 r) ≡ Ok z → is_record d.1.typed.type ≡ k → Lands c z
assigned_lands true line g c d r z l one two q t =
    let k = record_lands line (line_of g) d.1 r z l t (stands_grew (world d.0) (world r.0) d.1 two.sits.goes.grew one.stands) two.sits.stands q in
    record { goes = goes_trans c d.0 z.0 one.goes (goes_trans d.0 r.0 z.0 two.sits.goes k.goes); stands = k.stands; apart = k.apart }
assigned_lands false line g c d r z l one two q t = landed c d z one.goes (scalar_lands line d.0 g d.1 r z l two.line t one.stands two.sits.goes two.sits.stands q)

mutual
  unfolding found arguments Spoken AllSpoken TakesAddress line_of plain_name

  pub found_rests : (tree : Tree) (wish : PlainType) (c : Context) (z : Context × Found) → Spoken c.scopes tree → NamesFit (world c) c.scopes → found tree wish c ≡ Ok z → Rests c tree z
  found_rests (Node f.Name (At line ▹ Leaf (w.Name name) ▹ none)) wish c z s h q =
      record { sits = name_lands line name c z h q; local = λ r e. search (arith, came, ok_same); line = s.1.0 }
  found_rests (Node f.Int (At line ▹ Leaf (w.Int bytes) ▹ none)) wish c z s h q =
      rests c (Node f.Int (At line ▹ Leaf (w.Int bytes) ▹ none)) z line refl s.1.0 (constant_lands c (int_constant bytes) z q)
  found_rests (Node f.Char (At line ▹ Leaf (w.Char bytes) ▹ none)) wish c z s h q =
      rests c (Node f.Char (At line ▹ Leaf (w.Char bytes) ▹ none)) z line refl s.1.0 (constant_lands c (char_constant bytes) z q)
  found_rests (Node f.Str (At line ▹ Node f.Strings parts ▹ none)) wish c z s h q =
      rests c (Node f.Str (At line ▹ Node f.Strings parts ▹ none)) z line refl s.1.0 (string_lands line (joined parts) c z q)
  found_rests (Node f.Paren (At line ▹ e ▹ none)) wish c z s h q =
      let r = found_rests e wish c z s.1.1.0 h q in record { sits = r.sits; local = r.local; line = r.line }
  found_rests (Node f.Index (At line ▹ e ▹ g ▹ none)) wish c z s h q =
      let d = came (valued e (found e Void c)) q in
      let r = came (valued g (found g Void d.value.0)) d.last in
      let one = valued_operated e c (found e Void c) d.value (λ x k. found_rests e Void c x s.1.1.0 h k) d.is in
      let next = ready_on c d.value.0 g one.comes.goes h s.1.1.1.0 in
      let two = valued_operated g d.value.0 (found g Void d.value.0) r.value (λ x k. found_rests g Void d.value.0 x next.spoken next.names k) r.is in
      let last = indexed_lands line r.value.0 d.value.1 r.value.1 z s.1.0 (value_grew (world d.value.0) (world r.value.0) d.value.1 two.comes.goes.grew one.comes.value) two.comes.value r.last in
      rests c (Node f.Index (At line ▹ e ▹ g ▹ none)) z line refl s.1.0
      (record { goes = goes_trans c d.value.0 z.0 one.comes.goes (goes_trans d.value.0 r.value.0 z.0 two.comes.goes last.goes); stands = last.stands; apart = last.apart })
  found_rests (Node f.Call (At line ▹ e ▹ Node f.Arguments values ▹ none)) wish c z s h q =
      let d = came (callee e c (found e Void c)) q in
      let v = came (arguments line d.value.1 (parameters d.value.1) values d.value.0) d.last in
      let one = callee_named e c (found e Void c) d.value h (λ x k. found_rests e Void c x s.1.1.0 h k) d.is in
      let names = names_more (world c) (world d.value.0) c.scopes d.value.0.scopes one.goes.grew one.goes.more h in
      let two = arguments_rest values line d.value.1 (parameters d.value.1) d.value.0 v.value s.1.0 (has_params d.value.1) (all_spoken_more c.scopes d.value.0.scopes values one.goes.more s.1.1.1.0.1) names v.is in
      let last = call_lands line (callee_name e c) d.value.1 wish values v.value.0 v.value.1 z s.1.0 (call_grew (world d.value.0) (world v.value.0) (callee_name e c) d.value.1 two.goes.grew one.of) two.held v.last in
      rests c (Node f.Call (At line ▹ e ▹ Node f.Arguments values ▹ none)) z line refl s.1.0
      (record { goes = goes_trans c d.value.0 z.0 one.goes (goes_trans d.value.0 v.value.0 z.0 two.goes last.goes); stands = last.stands; apart = last.apart })
  found_rests (Node f.Dot (At line ▹ e ▹ Leaf (w.Name name) ▹ none)) wish c z s h q =
      let d = came (found e Void c) q in
      let one = found_rests e Void c d.value s.1.1.0 h d.is in
      let last = dotted_lands line name d.value.0 d.value.1 z s.1.0 one.sits.stands d.last in
      rests c (Node f.Dot (At line ▹ e ▹ Leaf (w.Name name) ▹ none)) z line refl s.1.0
      (record { goes = goes_trans c d.value.0 z.0 one.sits.goes last.goes; stands = last.stands; apart = last.apart })
  found_rests (Node f.Arrow (At line ▹ e ▹ Leaf (w.Name name) ▹ none)) wish c z s h q =
      let d = came (valued e (found e Void c)) q in
      let one = valued_operated e c (found e Void c) d.value (λ x k. found_rests e Void c x s.1.1.0 h k) d.is in
      let last = pointed_lands line name d.value.0 d.value.1 z s.1.0 one.comes.value d.last in
      rests c (Node f.Arrow (At line ▹ e ▹ Leaf (w.Name name) ▹ none)) z line refl s.1.0
      (record { goes = goes_trans c d.value.0 z.0 one.comes.goes last.goes; stands = last.stands; apart = last.apart })
  found_rests (Node f.PostInc (At line ▹ e ▹ none)) wish c z s h q =
      let d = came (changing e (found e Void c)) q in
      let one = found_rests e Void c d.value s.1.1.0 h (changing_first e (found e Void c) d.value d.is) in
      rests c (Node f.PostInc (At line ▹ e ▹ none)) z line refl s.1.0 (landed c d.value z one.sits.goes (stepped_comes line a.Add true d.value z s.1.0 one.sits.stands d.last))
  found_rests (Node f.PostDec (At line ▹ e ▹ none)) wish c z s h q =
      let d = came (changing e (found e Void c)) q in
      let one = found_rests e Void c d.value s.1.1.0 h (changing_first e (found e Void c) d.value d.is) in
      rests c (Node f.PostDec (At line ▹ e ▹ none)) z line refl s.1.0 (landed c d.value z one.sits.goes (stepped_comes line a.Subtract true d.value z s.1.0 one.sits.stands d.last))
  found_rests (Node f.PreInc (At line ▹ e ▹ none)) wish c z s h q =
      let d = came (changing e (found e Void c)) q in
      let one = found_rests e Void c d.value s.1.1.0 h (changing_first e (found e Void c) d.value d.is) in
      rests c (Node f.PreInc (At line ▹ e ▹ none)) z line refl s.1.0 (landed c d.value z one.sits.goes (stepped_comes line a.Add false d.value z s.1.0 one.sits.stands d.last))
  found_rests (Node f.PreDec (At line ▹ e ▹ none)) wish c z s h q =
      let d = came (changing e (found e Void c)) q in
      let one = found_rests e Void c d.value s.1.1.0 h (changing_first e (found e Void c) d.value d.is) in
      rests c (Node f.PreDec (At line ▹ e ▹ none)) z line refl s.1.0 (landed c d.value z one.sits.goes (stepped_comes line a.Subtract false d.value z s.1.0 one.sits.stands d.last))
  found_rests (Node (f.Unary u.Address) (At line ▹ e ▹ none)) wish c z s h q =
      let d = came (found e Void c) q in
      let one = found_rests e Void c d.value s.1.1.0 h d.is in
      let last = address_lands line d.value.0 d.value.1 z (in_memory_by c e d.value s.0 one) one.sits.stands d.last in
      rests c (Node (f.Unary u.Address) (At line ▹ e ▹ none)) z line refl s.1.0
      (record { goes = goes_trans c d.value.0 z.0 one.sits.goes last.goes; stands = last.stands; apart = last.apart })
  found_rests (Node (f.Unary op) (At line ▹ e ▹ none)) wish c z s h q =
      let d = came (valued e (found e Void c)) q in
      let one = valued_operated e c (found e Void c) d.value (λ x k. found_rests e Void c x s.1.1.0 h k) d.is in
      let last = applied_lands line op e d.value.0 d.value.1 z s.1.0 one.line one.comes.value d.last in
      rests c (Node (f.Unary op) (At line ▹ e ▹ none)) z line refl s.1.0
      (record { goes = goes_trans c d.value.0 z.0 one.comes.goes last.goes; stands = last.stands; apart = last.apart })
  found_rests (Node f.SizeofExpr (At line ▹ e ▹ none)) wish c z s h q =
      rests c (Node f.SizeofExpr (At line ▹ e ▹ none)) z line refl s.1.0 (unevaluated_lands (Node f.SizeofExpr (At line ▹ e ▹ none)) c z (λ t k. expr_size line e (asked c) t k) q)
  found_rests (Node f.SizeofType (At line ▹ name ▹ none)) wish c z s h q =
      rests c (Node f.SizeofType (At line ▹ name ▹ none)) z line refl s.1.0 (unevaluated_lands (Node f.SizeofType (At line ▹ name ▹ none)) c z (λ t k. type_size line name (asked c) t k) q)
  found_rests (Node f.Cast (At line ▹ name ▹ e ▹ none)) wish c z s h q =
      let t = came (typename name (asked c)) q in
      let begun = told t.value.0 c in
      let d = came (cast_operand t.value.1 e (found e t.value.1 begun)) t.last in
      let g : Goes c begun = goes_told t.value.0 c (typename_after name (asked c) t.value t.is) in
      let next = ready_on c begun e g h s.1.1.1.0 in
      let one = unused_operated e begun (found e t.value.1 begun) d.value (λ x k. found_rests e t.value.1 begun x next.spoken next.names k) (cast_unused t.value.1 e (found e t.value.1 begun) d.value d.is) in
      rests c (Node f.Cast (At line ▹ name ▹ e ▹ none)) z line refl s.1.0
      (comes_lands c z (cast_lands line t.value.1 c d.value.0 d.value.1 z s.1.0 (goes_trans c begun d.value.0 g one.comes.goes) one.comes.value d.last))
  found_rests (Node (f.Binary b.And) (At line ▹ e ▹ g ▹ none)) wish c z s h q =
      let d = came (valued e (found e Void c)) q in
      let begun = and_then line e d.value in
      let r = came (valued g (found g Void begun)) d.last in
      let t = came (binary line b.And r.value.0.tags d.value.1.typed r.value.1.typed) r.last in
      let scalars = logical_typed line _ d.value.1.typed r.value.1.typed t.value t.is in
      let one = valued_operated e c (found e Void c) d.value (λ x k. found_rests e Void c x s.1.1.0 h k) d.is in
      let gb : Goes c begun = goes_trans c d.value.0 begun one.comes.goes (and_then_goes line e d.value s.1.0 one.line scalars.left one.comes.value) in
      let next = ready_on c begun g gb h s.1.1.1.0 in
      let two = valued_operated g begun (found g Void begun) r.value (λ x k. found_rests g Void begun x next.spoken next.names k) r.is in
      rests c (Node (f.Binary b.And) (At line ▹ e ▹ g ▹ none)) z line refl s.1.0
      (comes_lands c z (and_comes line (new_label d.value.0) g d.value.1 c r.value z s.1.0 two.line (goes_trans c begun r.value.0 gb two.comes.goes) two.comes.value r.last))
  found_rests (Node (f.Binary b.Or) (At line ▹ e ▹ g ▹ none)) wish c z s h q =
      let d = came (valued e (found e Void c)) q in
      let begun = or_else line e d.value in
      let r = came (valued g (found g Void begun.0)) d.last in
      let t = came (binary line b.Or r.value.0.tags d.value.1.typed r.value.1.typed) r.last in
      let scalars = logical_typed line _ d.value.1.typed r.value.1.typed t.value t.is in
      let one = valued_operated e c (found e Void c) d.value (λ x k. found_rests e Void c x s.1.1.0 h k) d.is in
      let first = or_else_gives line e d.value s.1.0 one.line scalars.left one.comes.value in
      let gb : Goes c begun.0 = goes_trans c d.value.0 begun.0 one.comes.goes first.goes in
      let next = ready_on c begun.0 g gb h s.1.1.1.0 in
      let two = valued_operated g begun.0 (found g Void begun.0) r.value (λ x k. found_rests g Void begun.0 x next.spoken next.names k) r.is in
      let last = or_comes line (new_label d.value.0 + 1) g begun.1 d.value.1 begun.0 r.value z s.1.0 two.line two.comes.goes first.holds two.comes.value r.last in
      rests c (Node (f.Binary b.Or) (At line ▹ e ▹ g ▹ none)) z line refl s.1.0 (landed c (begun.0, d.value.1) z gb last)
  found_rests (Node (f.Binary op) (At line ▹ e ▹ g ▹ none)) wish c z s h q =
      let d = came (valued e (found e Void c)) q in
      let begun = left_operand op c.code g d.value in
      let r = came (valued g (found g Void begun.0)) d.last in
      let one = valued_operated e c (found e Void c) d.value (λ x k. found_rests e Void c x s.1.1.0 h k) d.is in
      let left = left_goes op c g d.value one.comes.goes one.comes.value in
      let next = ready_on c begun.0 g left.goes h s.1.1.1.0 in
      let two = valued_operated g begun.0 (found g Void begun.0) r.value (λ x k. found_rests g Void begun.0 x next.spoken next.names k) r.is in
      let known = ahead_is g d.value.0 begun.0 r.value (quiet_left op c.code g d.value) r.is in
      let last = between_lands line op begun.0 r.value.0 begun.1 r.value.1 z tt s.1.0 two.comes.goes
      (subst (λ (t : PlainTyped). Rattle.core_soundness.proofs.Sorting.LeftOf begun.0 op (operand t.type) (operand r.value.1.typed.type) (atom_in begun.1)) (sym left.typed) (left.left r.value.1.typed known)) two.comes.value r.last in
      rests c (Node (f.Binary op) (At line ▹ e ▹ g ▹ none)) z line refl s.1.0 (landed c (begun.0, d.value.1) z left.goes last)
  found_rests (Node f.Cond (At line ▹ e ▹ g ▹ k ▹ none)) wish c z s h q =
      let d = came (valued e (found e Void c)) q in
      let begun = choose line e d.value in
      let x = came (valued g (found g Void begun)) d.last in
      let type = type_ahead line d.value.1 k x.value in
      let first = choose_first line (new_label d.value.0) begun.code type x.value in
      let y = came (valued k (found k Void first.0)) x.last in
      let t = came (choice line d.value.1.typed x.value.1.typed y.value.1.typed) y.last in
      let sides = choice_sides line d.value.1.typed x.value.1.typed y.value.1.typed t.value t.is in
      let known = ahead_is k x.value.0 first.0 y.value (quiet_first line (new_label d.value.0) begun.code type x.value) y.is in
      let same : type ≡ t.value.type = ap (λ (o : Option PlainTyped). choice_ahead line d.value.1.typed x.value.1.typed o) known ∙ ap choice_type t.is in
      let one = valued_operated e c (found e Void c) d.value (λ v j. found_rests e Void c v s.1.1.0 h j) d.is in
      let gb : Goes c begun = goes_trans c d.value.0 begun one.comes.goes (and_then_goes line e d.value s.1.0 one.line sides.tested one.comes.value) in
      let next = ready_on c begun g gb h s.1.1.1.0 in
      let two = valued_operated g begun (found g Void begun) x.value (λ v j. found_rests g Void begun v next.spoken next.names j) x.is in
      let converts : Converting (operand type) (operand x.value.1.typed.type) = subst (λ (p : PlainType). Converting (operand p) (operand x.value.1.typed.type)) (sym same) sides.first in
      let fg = first_goes line (new_label d.value.0) begun type x.value s.1.0 two.comes.goes two.comes.value converts in
      let gf : Goes c first.0 = goes_trans c begun first.0 gb fg.goes in
      let then_ready = ready_on c first.0 k gf h s.1.1.1.1.0 in
      let three = valued_operated k first.0 (found k Void first.0) y.value (λ v j. found_rests k Void first.0 v then_ready.spoken then_ready.names j) y.is in
      let last = chosen_lands line (new_label d.value.0 + 1) first.0 first.1 d.value.1 x.value.1 t.value y.value z s.1.0 t.is
      (λ o. first_null line (new_label d.value.0) begun.code type x.value (ap operand same ∙ o))
      (subst (λ (p : PlainType). HeldAs (world first.0) (operand p) first.1) same fg.held) three.comes.goes three.comes.value y.last in
      rests c (Node f.Cond (At line ▹ e ▹ g ▹ k ▹ none)) z line refl s.1.0
      (record { goes = goes_trans c first.0 z.0 gf last.goes; stands = last.stands; apart = last.apart })
  found_rests (Node (f.Assign a.Plain) (At line ▹ e ▹ g ▹ none)) wish c z s h q =
      let d = came (found e Void c) q in
      let r = came (found g d.value.1.typed.type d.value.0) d.last in
      let one = found_rests e Void c d.value s.1.1.0 h d.is in
      let next = ready_on c d.value.0 g one.sits.goes h s.1.1.1.0 in
      let two = found_rests g d.value.1.typed.type d.value.0 r.value next.spoken next.names r.is in
      rests c (Node (f.Assign a.Plain) (At line ▹ e ▹ g ▹ none)) z line refl s.1.0
      (assigned_lands (is_record d.value.1.typed.type) line g c d.value r.value z s.1.0 one.sits two r.last refl)
  found_rests (Node (f.Assign op) (At line ▹ e ▹ g ▹ none)) wish c z s h q =
      let d = came (changing e (found e Void c)) q in
      let old = old_value line d.value in
      let r = came (valued g (found g Void old.0)) d.last in
      let rule = changing_rule line op false d.value.1 old.1 r.value z r.last in
      let one = found_rests e Void c d.value s.1.1.0 h (changing_first e (found e Void c) d.value d.is) in
      let o = old_brings line d.value.1.typed d.value.1.spot d.value.0 s.1.0 rule.1.scalar (subst (λ (x : Bool). StandsAs (world d.value.0) x d.value.1.typed.type d.value.1.spot) rule.1.flag one.sits.stands) in
      let go : Goes c old.0 = goes_trans c d.value.0 old.0 one.sits.goes o.goes in
      let next = ready_on c old.0 g go h s.1.1.1.0 in
      let two = valued_operated g old.0 (found g Void old.0) r.value (λ x k. found_rests g Void old.0 x next.spoken next.names k) r.is in
      let gr : Goes c r.value.0 = goes_trans c old.0 r.value.0 go two.comes.goes in
      let last = changed_comes line op false d.value.1 old.1 r.value z s.1.0
      (stands_grew (world d.value.0) (world r.value.0) d.value.1 (goes_trans d.value.0 old.0 r.value.0 o.goes two.comes.goes).grew one.sits.stands)
      (held_grew (world old.0) (world r.value.0) d.value.1.typed.type old.1 two.comes.goes.grew o.held) two.comes.value.held r.last in
      rests c (Node (f.Assign op) (At line ▹ e ▹ g ▹ none)) z line refl s.1.0 (landed c r.value z gr last)
  found_rests (Node f.Comma (At line ▹ e ▹ g ▹ none)) wish c z s h q =
      let d = came (unused e (found e Void c)) q in
      let r = came (unused g (found g Void d.value.0)) d.last in
      let one = unused_operated e c (found e Void c) d.value (λ x k. found_rests e Void c x s.1.1.0 h k) d.is in
      let next = ready_on c d.value.0 g one.comes.goes h s.1.1.1.0 in
      let two = unused_operated g d.value.0 (found g Void d.value.0) r.value (λ x k. found_rests g Void d.value.0 x next.spoken next.names k) r.is in
      rests c (Node f.Comma (At line ▹ e ▹ g ▹ none)) z line refl s.1.0 (landed c d.value z one.comes.goes (comma_comes d.value.0 r.value z two.comes r.last))
  found_rests tree wish c z s h q = never (Rests c tree z) _ z q

  pub arguments_rest : (trees : Trees) (line : ℕ) (target : Callee) (params : PlainTypes) (c : Context) (z : Context × List Argument) → 1 ≤ line → HasParams target params → AllSpoken c.scopes trees → NamesFit (world c) c.scopes → arguments line target params trees c ≡ Ok z → Held_all c target params z
  arguments_rest none line target params c z l p s h q = subst (Held_all c target params) (ok_same (c, []) z q) (no_arguments c target params)
  arguments_rest (e ▹ rest) line target params c z l p s h q =
      let d = came (format_argument (is_printf target e) c (typed e (asked c)) (valued e (found e (first_type params) c))) q in
      let v = argument_from line params c.code d.value.0 d.value.1 in
      let more = came (arguments line NoFunction (rest_types params) rest v.0) d.last in
      let one = one_argument target e c (typed e (asked c)) (valued e (found e (first_type params) c)) d.value (λ x k. (valued_operated e c (found e (first_type params) c) x (λ y j. found_rests e (first_type params) c y s.0 h j) k).comes) d.is in
      more_arguments line target params c d.value more.value z l p one
      (λ g. arguments_rest rest line NoFunction (rest_types params) v.0 more.value l tt (all_spoken_more c.scopes v.0.scopes rest g.more s.1) (names_more (world c) (world v.0) c.scopes v.0.scopes g.grew g.more h) more.is)
      (ok_same (more.value.0, v.1 ∷ more.value.1) z more.last)

-- what a part of a function does to what fits

-- the parameters of the list that ended last fit
abbrev pub ParamsFit : Context → Type 0
ParamsFit c = TableFits (InnerFits (world c)) c.params

-- what holds at each point of a walk: names fit, and the running function has a line
pub record Fine (c : Context) : Type 0 where
  pub names : NamesFit (world c) c.scopes
  pub lined : 1 ≤ c.running.line

-- a part of a function that answers that; scopes around the innermost have new tags at most; at file scope the list that ended
-- last fits
pub record Runs (result : Option Sort) (c d : Context) : Type 0 where
  pub grew : Grew (world c) (world d)
  pub fine : Fine d
  pub fits : CodeFits result c → CodeFits result d
  pub answer : d.running.answer ≡ c.running.answer
  pub addressed : d.running.addressed ≡ c.running.addressed
  pub outside : MoreAll (scopes.tail c.scopes.inner) (scopes.tail d.scopes.inner)
  pub depth : length d.scopes.inner ≡ length c.scopes.inner
  pub params : length c.scopes.inner ≡ 0 → ParamsFit c → ParamsFit d
  pub walked : d.walked ≡ c.walked

pub runs_refl : (answer : Option Sort) (c : Context) → Fine c → Runs answer c c
runs_refl answer c h = record { grew = grew_refl (world c); fine = h; fits = λ k. k; answer = refl; addressed = refl; outside = all_refl (scopes.tail c.scopes.inner); depth = refl; params = λ flat k. k; walked = refl }

pub runs_trans : (answer : Option Sort) (a b c : Context) → Runs answer a b → Runs answer b c → Runs answer a c
runs_trans answer a b c x y = grind (arith, grew_trans, all_trans)

pub table_grew : (a b : World) (t : Table) → Grew a b → TableFits (InnerFits a) t → TableFits (InnerFits b) t
table_grew a b t g h name v e = inner_kept a b v g (h name v e)

pub goes_runs : (answer : Option Sort) (c d : Context) → Fine c → Goes c d → Runs answer c d
goes_runs answer c d h g = record {
  grew = g.grew;
  fine = record { names = names_more (world c) (world d) c.scopes d.scopes g.grew g.more h.names; lined = subst (λ (k : ℕ). 1 ≤ k) (sym g.kept.line) h.lined };
  fits = g.fits answer;
  answer = g.kept.answer;
  addressed = g.kept.addressed;
  outside = tail_more c.scopes.inner d.scopes.inner g.more.inner;
  depth = more_depth c.scopes d.scopes g.more;
  params = λ flat k. subst (TableFits (InnerFits (world d))) (sym g.kept.params) (table_grew (world c) (world d) c.params g.grew k);
  walked = g.kept.walked;
}

-- the same behind a part
pub on_runs : (answer : Option Sort) (a b c : Context) → Runs answer a b → Goes b c → Runs answer a c
on_runs answer a b c x g = runs_trans answer a b c x (goes_runs answer b c x.fine g)

-- scopes

pub entered_fine : (c : Context) → Fine c → Fine (entered c)
entered_fine c h = record { names = entered_fit (FileFits (world c)) (InnerFits (world c)) c.scopes h.names; lined = h.lined }

-- what ran in a scope of its own
pub runs_left : (answer : Option Sort) (c d : Context) → 1 ≤ length c.scopes.inner → Runs answer (entered c) d → Runs answer c (left d)
runs_left answer c d deep r = record { grew = r.grew; fine = record { names = left_fit (FileFits (world d)) (InnerFits (world d)) d.scopes r.fine.names; lined = r.fine.lined }; fits = r.fits; answer = r.answer; addressed = r.addressed; outside = tail_more c.scopes.inner (scopes.tail d.scopes.inner) r.outside; depth = tail_depth d.scopes.inner (length c.scopes.inner) r.depth; params = λ flat h. absurd (omega (arith, deep, flat)); walked = r.walked }

-- full expressions

pub goes_anew : (c : Context) → Goes c (anew c)
goes_anew c = record { grew = grew_refl (world c); more = (goes_refl c).more; kept = record { line = refl; answer = refl; addressed = refl; declared = refl; params = refl; walked = refl }; fits = λ answer h. h }

pub record Opened (c : Context) (e : Tree) (z : Context × Found) : Type 0 where
  pub goes : Goes c (opened e c)
  pub rests : Rests (opened e c) e z

pub opened_rests : (e : Tree) (type : PlainType) (c : Context) (z : Context × Found) → Spoken c.scopes e → NamesFit (world c) c.scopes → found e type (opened e c) ≡ Ok z → Opened c e z
opened_rests e type c z s h q = let r =
    either_way (λ x. found e type x ≡ Ok z → Goes c x × Rests x e z) (reallocates c.scopes e)
    (λ k. let r = found_rests e type (emit (code_line e) Enter (anew c)) z s h k in (goes_trans c (anew c) _ (goes_anew c) (goes_emit (code_line e) Enter (anew c) r.line tt), r))
    (λ k. (goes_anew c, found_rests e type (anew c) z s h k)) q in record { goes = r.0; rests = r.1 }

pub closed_goes : (e : Tree) (c : Context) → 1 ≤ code_line e → Goes c (closed e c)
closed_goes e c l = either_way (Goes c) (reallocates c.scopes e) (goes_emit (code_line e) Leave c l tt) (goes_refl c)

-- the value of a full expression
pub record Evaluates (c : Context) (e : Tree) (z : Context × Found) : Type 0 where
  pub begun : Goes c (opened e c)
  pub comes : Comes (opened e c) z
  pub line : 1 ≤ code_line e

pub evaluates_unused : (e : Tree) (type : PlainType) (c : Context) (z : Context × Found) → Spoken c.scopes e → NamesFit (world c) c.scopes → unused e (found e type (opened e c)) ≡ Ok z → Evaluates c e z
evaluates_unused e type c z s h q =
    let d = came (found e type (opened e c)) q in
    let o = opened_rests e type c d.value s h d.is in
    record { begun = o.goes; comes = unused_comes e (opened e c) (found e type (opened e c)) z o.rests.line (λ x k. (opened_rests e type c x s h k).rests.sits) q; line = o.rests.line }

pub evaluates : (e : Tree) (type : PlainType) (c : Context) (z : Context × Found) → Spoken c.scopes e → NamesFit (world c) c.scopes → valued e (found e type (opened e c)) ≡ Ok z → Evaluates c e z
evaluates e type c z s h q = evaluates_unused e type c z s h (valued_unused e (found e type (opened e c)) z q)

-- all that is known of it goes on from the start
pub evaluated_goes : (c : Context) (e : Tree) (z : Context × Found) → Evaluates c e z → Goes c z.0
evaluated_goes c e z v = goes_trans c (opened e c) z.0 v.begun v.comes.goes
