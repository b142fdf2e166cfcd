-- Expressions that are read; the words of specs, counted one behind another; what a tree declares; specs and tags that are
-- read.
use Rattle.std.proofs.Common.{◌≡◌, ℕ, zero, suc, ◌+◌, ◌<◌, ◌≤◌, Bool, true, false, inl, inr, [], ◌∷◌, drop, Option, Some, None, refl, sym, ap, ◌∙◌, subst, arith, ◌-◌, List, ◌++◌, length, take, append_assoc}
use Rattle.std.specs.Prelude.{if◌then◌else◌, nat_le, nat_eq, not, ◌||◌, ⊤, ◌&&◌, ◌==◌}
use Rattle.std.proofs.lemmas.Bool.{eqb-true, leb-true, leb-false, false≢true, and_parts}
use Rattle.std.proofs.Math.Seq.{take-append_seam}
use Rattle.std.proofs.lemmas.List.{length-append}
use Rattle.c_tree.specs.declared.operator.BinaryOp.{BinaryOp}
use Rattle.c_tree.specs.declared.operator.AssignOp.{AssignOp}
use Rattle.c_tree.specs.declared.word.Sign.{Sign}
use Rattle.c_tree.specs.Forms.{Form}
use Rattle.c_tree.specs.Grammar.{Here, Part, form_home, shape, some, rows, word_home, Item, closed, here_rows, home, keyword_home}
use Rattle.c_tree.specs.Operators.{operand_level, binary_level}
use Rattle.c_tree.specs.Places.{Place, Expression}
use Rattle.c_tree.specs.Scopes.{is_type, is_scope, name_of, name_among, after, left, has_typedef, word_is_typedef, Known, Scope, places, after_all, declare}
use Rattle.c_tree.specs.Allowed.{Takes, IsExpression, Allowed, obeys, is_type_name, Tally, with_keyword, with_word, with_part, tally, no_words, are_specs, AllAllowed}
use Rattle.c_tree.specs.Depth.{weight, is_of_declarator}
use Rattle.c_tree.specs.Tree.{Tree, Trees, Leaf, At, Node, none, ◌▹◌, count}
use Rattle.c_tree.specs.Spelling.{spell, words}
use Rattle.c_tree.specs.declared.word.Keyword.{Keyword}
use Rattle.c_tree.specs.Words.{Word, Key}
use Rattle.c_tree.specs.declared.operator.RecordSort.{RecordSort}
use Rattle.c_tree.specs.declared.word.Keyword.TheVariants as k
use Rattle.c_tree.specs.declared.word.Sign.TheVariants as s
use Rattle.c_tree.specs.Forms as f
use Rattle.c_tree.specs.Places as p
use Rattle.grammar_reading.specs.declared.kind.Kind.{Kind}
use Rattle.grammar_reading.specs.State.{State, kind_at, line_at, word_at, bytes_at, left_at, at_mark, at_key, skip, opens_type, with_flag}
use Rattle.grammar_reading.specs.Reading.{Reader, guarded, fixed, snoc, parts_of, grown, nothing_read, ending_by, ending}
use Rattle.grammar_reading.specs.ReadingEquations.{none_some, some_same, bind_some}
use Rattle.grammar_reading.specs.Rooms.{read}
use Rattle.grammar_reading.specs.declared.kind.SpecStart.{SpecStart}
use Rattle.grammar_reading.specs.declared.kind.Kind.TheVariants as kinds
use Rattle.grammar_reading.specs.Expressions as e
use Rattle.grammar_reading.specs.declared.kind.SpecStart.TheVariants as starts
use Rattle.grammar_reading.specs.Declarators as d
use Rattle.grammar_reading.proofs.Words.{either, if_some, Has, tells}
use Rattle.grammar_reading.proofs.Forms.{Took, PartsTook, Sound, all_sound, Also, took_both, took_one, took_line, took_none, front_some, IsExprForm, IsGrownForm, expr_form, grown_as, is_token_place, made, postfix_op_form, unary_op_form, is_closed, parts_took, has_specs, plain}
use Rattle.grammar_reading.proofs.Nodes.{took_leaf, looser, placed, expr_parts, expr_fixed, expr_grown, node_some, depth_flat, ListTook, rows_snoc, rows_specs, took_light, count_snoc, form_took, took_node, scope_eq, joined_none}

pub guarded_some : (room : ℕ) (read : Reader) (state : State) (x : Tree × State) → guarded room read state ≡ Some x → (0 < room) × (read state ≡ Some x)
guarded_some zero read state x h = none_some h
guarded_some (suc room) read state x h = (omega arith, h)

-- Tokens as parts

leaf_took : (bound : ℕ) (place : Place) (state : State) → 0 < bound → Has state.words → word_home (word_at state) ≡ place → is_token_place place ≡ true → Took bound place state (Leaf (word_at state)) (skip state)
unfolding Takes is_scope Also
leaf_took bound p.Name state some has h t = took_leaf bound p.Name state has some h refl (λ has. has) tt
leaf_took bound p.Int state some has h t = took_leaf bound p.Int state has some h refl (λ has. has) tt
leaf_took bound p.Char state some has h t = took_leaf bound p.Char state has some h refl (λ has. has) tt
leaf_took bound p.Str state some has h t = took_leaf bound p.Str state has some h refl (λ has. has) tt
leaf_took bound _ state some has h t = absurd (cc)

pub name_leaf : (bound : ℕ) (state : State) → 0 < bound → kind_at state ≡ kinds.Name → Took bound p.Name state (Leaf (word_at state)) (skip state)
name_leaf bound state some h = let t = tells kinds.Name state.words h in leaf_took bound p.Name state some t.0 (ap word_home t.1) refl

str_leaf : (bound : ℕ) (state : State) → 0 < bound → kind_at state ≡ kinds.Str → Took bound p.Str state (Leaf (word_at state)) (skip state)
str_leaf bound state some h = let t = tells kinds.Str state.words h in leaf_took bound p.Str state some t.0 (ap word_home t.1) refl

name_by_took : (bound : ℕ) → 0 < bound → (kind : Kind) (state : State) (x : Tree × State) → kind_at state ≡ kind → e.name_by kind state ≡ Some x → Took bound p.Name state x.0 x.1
name_by_took bound some kinds.Name state x h g = subst (λ (y : Tree × State). Took bound p.Name state y.0 y.1) (some_same g) (name_leaf bound state some h)
name_by_took bound some _ state x h g = none_some g

pub name_took : (bound : ℕ) → 0 < bound → Sound bound p.Name e.name_at
name_took bound some state x h = name_by_took bound some (kind_at state) state x refl h

strings_by_took : (bound turns : ℕ) → 0 < bound → (kind : Kind) (start state : State) (parts : Trees) (least : ℕ) (x : Tree × State) → kind_at state ≡ kind → PartsTook bound (rows p.Str (count parts)) start parts state → least ≤ count parts → ((more : Trees) (next : State) → PartsTook bound (rows p.Str (count more)) start more next → least ≤ count more → e.strings_from turns more next ≡ Some x → ListTook bound p.Str f.Strings start least x) → e.strings_by (e.strings_from turns) parts kind state ≡ Some x → ListTook bound p.Str f.Strings start least x
strings_by_took bound turns some kinds.Str start state parts least x h took le again g =
    again (snoc parts (Leaf (word_at state))) (skip state) (rows_snoc bound p.Str start state (skip state) parts (Leaf (word_at state)) took (str_leaf bound state some h)) (let c = count_snoc parts (Leaf (word_at state)) in omega (arith, le, c)) g
strings_by_took bound turns some _ start state parts least x h took le again g =
    subst (λ (y : Tree × State). ListTook bound p.Str f.Strings start least y) (some_same g) (record { parts = parts; made = refl; took = took; long = le })

pub strings_took : (bound : ℕ) → 0 < bound → (turns : ℕ) (start state : State) (parts : Trees) (least : ℕ) (x : Tree × State) → PartsTook bound (rows p.Str (count parts)) start parts state → least ≤ count parts → e.strings_from turns parts state ≡ Some x → ListTook bound p.Str f.Strings start least x
strings_took bound some zero start state parts least x took le h = none_some h
strings_took bound some (suc turns) start state parts least x took le h =
    strings_by_took bound turns some (kind_at state) start state parts least x refl took le (λ more next longer many g. strings_took bound some turns start next more least x longer many g) h

pub some_rows : (place : Place) (n : ℕ) → 1 ≤ n → some place n ≡ rows place n
some_rows place zero h = absurd (omega (arith, h))
some_rows place (suc n) h = refl

pub strings_node : (bound : ℕ) → 0 < bound → (state : State) (x : Tree × State) → kind_at state ≡ kinds.Str → ListTook bound p.Str f.Strings state 1 x → Took bound p.Strings state x.0 x.1
unfolding shape weight Takes form_home is_scope Also
strings_node bound some state x h list =
    subst (λ t. Took bound p.Strings state t x.1) (sym list.made) (took_light bound p.Strings f.Strings (rows p.Str (count list.parts)) state x.1 list.parts some refl refl list.took (some_rows p.Str (count list.parts) list.long) (rows_specs p.Str (count list.parts) refl) refl refl (tells kinds.Str state.words h).0 tt)

-- string literals where one stands
pub strings_at_took : (bound : ℕ) → 0 < bound → (state : State) (x : Tree × State) → kind_at state ≡ kinds.Str → e.strings_at state ≡ Some x → Took bound p.Strings state x.0 x.1
strings_at_took bound some state x h g =
    let one = rows_snoc bound p.Str state state (skip state) none (Leaf (word_at state)) (took_none bound state) (str_leaf bound state some h) in
    let first : e.strings_from (left_at state) (Leaf (word_at state) ▹ none) (skip state) ≡ Some x =
    sym (ap (λ kind. e.strings_by (e.strings_from (left_at state)) none kind state) h) ∙ g in
    strings_node bound some state x h (strings_took bound some (left_at state) state (skip state) (Leaf (word_at state) ▹ none) 1 x one (omega arith) first)

pub token_parts : (room : ℕ) (place : Place) (form : Form) → shape form zero ≡ Here ∷ Part place ∷ [] → (state : State) → Has state.words → Took room place state (Leaf (word_at state)) (skip state) → PartsTook room (shape form zero) state (At (line_at state) ▹ Leaf (word_at state) ▹ none) (skip state)
token_parts room place form shaped state has took =
    subst (λ l. PartsTook room l state (At (line_at state) ▹ Leaf (word_at state) ▹ none) (skip state)) (sym shaped) (took_both room (Here ∷ []) (Part place ∷ []) state state (skip state) (At (line_at state) ▹ none) (Leaf (word_at state) ▹ none) (took_line room state has) (took_one room place state (skip state) (Leaf (word_at state)) took))

pub name_node : (room : ℕ) → 0 < room → (state : State) → kind_at state ≡ kinds.Name → is_type state.scope.names (bytes_at state) ≡ false → Took (suc room) (Expression 0) state (Node f.Name (At (line_at state) ▹ Leaf (word_at state) ▹ none)) (skip state)
unfolding shape form_home weight Takes is_scope Also Allowed obeys spell after left name_of is_of_declarator
name_node room some state h free =
    let t = tells kinds.Name state.words h in
    let parts = token_parts room p.Name f.Name refl state t.0 (name_leaf room state some h) in
    let d = parts.deep in
    let n = depth_flat f.Name (At (line_at state) ▹ Leaf (word_at state) ▹ none) refl in
    form_took (suc room) room (Expression 0) f.Name (shape f.Name zero) state (skip state) (skip state) (At (line_at state) ▹ Leaf (word_at state) ▹ none) parts refl (ap (λ word. not (is_type_name (name_among (At (line_at state) ▹ Leaf word ▹ none)) state.scope)) t.1 ∙ ap not free) (omega arith) (omega (arith, d, n, some)) refl refl (λ e. refl) refl t.0 tt

const_node : (room : ℕ) → 0 < room → (place : Place) (form : Form) (state : State) → Has state.words → word_home (word_at state) ≡ place → is_token_place place ≡ true → shape form zero ≡ Here ∷ Part place ∷ [] → IsExprForm form 0 → Took (suc room) (Expression 0) state (Node form (At (line_at state) ▹ Leaf (word_at state) ▹ none)) (skip state)
const_node room some place form state has h t shaped facts =
    expr_parts room 0 0 form facts (omega arith) some state (At (line_at state) ▹ Leaf (word_at state) ▹ none) (skip state) (token_parts room place form shaped state has (leaf_took room place state some has h t)) has

pub str_node : (room : ℕ) → 0 < room → (state : State) (x : Tree × State) → kind_at state ≡ kinds.Str → fixed e.strings_part f.Str state ≡ Some x → Took (suc room) (Expression 0) state x.0 x.1
unfolding shape
str_node room some state x h g =
    let t = tells kinds.Str state.words h in
    let a = node_some f.Str (parts_of e.strings_part (Here ∷ Part p.Strings ∷ []) state) x g in
    let b = front_some (At (line_at state)) (parts_of e.strings_part (Part p.Strings ∷ []) state) a.0 a.1 in
    let c = bind_some (e.strings_at state) (λ (y : Tree × State). Some (y.0 ▹ none, y.1)) b.0 b.1 in
    let took = strings_at_took room some state c.0 h c.1 in
    let one = took_both room (Here ∷ []) (Part p.Strings ∷ []) state state c.0.1 (At (line_at state) ▹ none) (c.0.0 ▹ none) (took_line room state t.0) (took_one room p.Strings state c.0.1 c.0.0 took) in
    let node = expr_parts room 0 0 f.Str (expr_form f.Str refl refl) (omega arith) some state (At (line_at state) ▹ c.0.0 ▹ none) c.0.1 one t.0 in
    let P : Trees × State → Type 0 = λ y. Took (suc room) (Expression 0) state (Node f.Str y.0) y.1 in
    let Q : Trees × State → Type 0 = λ y. Took (suc room) (Expression 0) state (Node f.Str (At (line_at state) ▹ y.0)) y.1 in
    subst (λ (z : Tree × State). Took (suc room) (Expression 0) state z.0 z.1) (some_same a.2) (subst P (some_same b.2) (subst Q (some_same c.2) node))

-- the form of an operator by its sign
by_mark : {A : Type 0} (table : Sign → Option A) (P : A → Type 0) → ((sign : Sign) (a : A) → table sign ≡ Some a → P a) → (kind : Kind) (a : A) → e.of_mark table kind ≡ Some a → P a
by_mark table P each (kinds.Mark sign) a h = each sign a h
by_mark table P each _ a h = none_some h

level_some : (level : ℕ) (o : Option BinaryOp) (op : BinaryOp) → e.at_level level o ≡ Some op → operand_level op ≡ level
level_some level None op h = none_some h
level_some level (Some other) op h =
    let a = if_some (nat_eq (operand_level other) level) (Some other) op h in
    ap operand_level (sym (some_same a.1)) ∙ eqb-true (operand_level other) level a.0

unary_place : (place : Place) → e.is_unary_place place ≡ true → IsExpression 1 place
unary_place (Expression level) h = leb-true level 1 h
unary_place _ h = absurd (false≢true h)

unary_stands : (tree : Tree) → e.is_unary tree ≡ true → Takes (Expression 1) tree
unfolding Takes
unary_stands (Leaf word) h = absurd (false≢true h)
unary_stands (At line) h = absurd (false≢true h)
unary_stands (Node form parts) h = unary_place (form_home form) h

module _ (inner : Place → Reader) (room : ℕ) (deeper : (place : Place) → Sound room place (inner place)) (some : 0 < room) where
  -- a fixed form, and one that grows
  pub whole : (level l : ℕ) (form : Form) → IsExprForm form l → l ≤ level → Sound (suc room) (Expression level) (fixed inner form)
  whole level l form facts le = expr_fixed room level l inner form facts le some (all_sound room inner deeper (shape form zero))

  pub grows : (level l front : ℕ) (form : Form) → IsGrownForm form front l → l ≤ level → (start state : State) (left : Tree) → Took (suc room) (Expression front) start left state → (x : Tree × State) → grown room inner form (line_at start) left state ≡ Some x → Took (suc room) (Expression level) start x.0 x.1
  grows level l front form facts le = expr_grown room level l front inner form facts le (all_sound room inner deeper (drop 2 (shape form zero)))

  pub up : (l m : ℕ) (start : State) (x : Tree × State) → l ≤ m → Took (suc room) (Expression l) start x.0 x.1 → Took (suc room) (Expression m) start x.0 x.1
  up l m start x le h = looser (suc room) (suc room) l m start x.0 x.1 h h.deep le

  named_took : (b : Bool) (state : State) (x : Tree × State) → kind_at state ≡ kinds.Name → is_type state.scope.names (bytes_at state) ≡ b → e.named b state ≡ Some x → Took (suc room) (Expression 0) state x.0 x.1
  named_took true state x h t g = none_some g
  named_took false state x h t g = subst (λ (y : Tree × State). Took (suc room) (Expression 0) state y.0 y.1) (some_same g) (name_node room some state h t)

  primary_by_took : (kind : Kind) (state : State) (x : Tree × State) → kind_at state ≡ kind → e.primary_by inner room kind state ≡ Some x → Took (suc room) (Expression 0) state x.0 x.1
  unfolding shape
  primary_by_took kinds.Name state x h g = named_took (is_type state.scope.names (bytes_at state)) state x h refl g
  primary_by_took kinds.Int state x h g =
      let t = tells kinds.Int state.words h in
      subst (λ (y : Tree × State). Took (suc room) (Expression 0) state y.0 y.1) (some_same g) (const_node room some p.Int f.Int state t.0 (ap word_home t.1) refl refl (expr_form f.Int refl refl))
  primary_by_took kinds.Char state x h g =
      let t = tells kinds.Char state.words h in
      subst (λ (y : Tree × State). Took (suc room) (Expression 0) state y.0 y.1) (some_same g) (const_node room some p.Char f.Char state t.0 (ap word_home t.1) refl refl (expr_form f.Char refl refl))
  primary_by_took kinds.Str state x h g = str_node room some state x h g
  primary_by_took (kinds.Mark s.LeftParen) state x h g = whole 0 0 f.Paren (expr_form f.Paren refl refl) (omega arith) state x g
  primary_by_took _ state x h g = none_some g

  pub primary_took : Sound (suc room) (Expression 0) (e.primary_at inner room)
  primary_took state x h = primary_by_took (kind_at state) state x refl h

  postfix_by_took : (again : Tree → Reader) → (start state : State) (left : Tree) (o : Option Form) (x : Tree × State) → ((y : Tree × State) → Took (suc room) (Expression 0) start y.0 y.1 → again y.0 y.1 ≡ Some x → Took (suc room) (Expression 0) start x.0 x.1) → e.of_mark e.postfix_op (kind_at state) ≡ o → Took (suc room) (Expression 0) start left state → e.postfix_by inner room again (line_at start) left o state ≡ Some x → Took (suc room) (Expression 0) start x.0 x.1
  postfix_by_took again start state left None x next h took g = subst (λ (y : Tree × State). Took (suc room) (Expression 0) start y.0 y.1) (some_same g) took
  postfix_by_took again start state left (Some form) x next h took g =
      let a = bind_some (grown room inner form (line_at start) left state) (λ (y : Tree × State). again y.0 y.1) x g in
      next a.0 (grows 0 0 0 form (by_mark e.postfix_op (λ y. IsGrownForm y 0 0) postfix_op_form (kind_at state) form h) (omega arith) start state left took a.0 a.1) a.2

  postfix_from_took : (turns : ℕ) (start state : State) (left : Tree) (x : Tree × State) → Took (suc room) (Expression 0) start left state → e.postfix_from inner room turns (line_at start) left state ≡ Some x → Took (suc room) (Expression 0) start x.0 x.1
  postfix_from_took zero start state left x took h = none_some h
  postfix_from_took (suc turns) start state left x took h =
      postfix_by_took (e.postfix_from inner room turns (line_at start)) start state left (e.of_mark e.postfix_op (kind_at state)) x (λ y more g. postfix_from_took turns start y.1 y.0 x more g) refl took h

  pub postfix_took : Sound (suc room) (Expression 0) (e.postfix_at inner room)
  postfix_took state x h =
      let a = bind_some (e.primary_at inner room state) (λ (y : Tree × State). e.postfix_from inner room room (line_at state) y.0 y.1) x h in
      postfix_from_took room state a.0.1 a.0.0 x (primary_took state a.0 a.1) a.2

  sizeof_took : Sound (suc room) (Expression 1) (e.sizeof_at inner room)
  sizeof_took state x h = elim (either (opens_type (skip state)) (fixed inner f.SizeofType state) (fixed inner f.SizeofExpr state) x h) [
    | inl a ↦ whole 1 1 f.SizeofType (expr_form f.SizeofType refl refl) (omega arith) state x a.1
    | inr a ↦ whole 1 1 f.SizeofExpr (expr_form f.SizeofExpr refl refl) (omega arith) state x a.1
  ]

  unary_by_took : (o : Option Form) (state : State) (x : Tree × State) → e.of_mark e.unary_op (kind_at state) ≡ o → e.unary_by inner room o state ≡ Some x → Took (suc room) (Expression 1) state x.0 x.1
  unary_by_took (Some form) state x h g = whole 1 1 form (by_mark e.unary_op (λ y. IsExprForm y 1) unary_op_form (kind_at state) form h) (omega arith) state x g
  unary_by_took None state x h g = elim (either (at_key k.Sizeof state) (e.sizeof_at inner room state) (e.postfix_at inner room state) x g) [
    | inl a ↦ sizeof_took state x a.1
    | inr a ↦ up 0 1 state x (omega arith) (postfix_took state x a.1)
  ]

  pub unary_took : Sound (suc room) (Expression 1) (e.unary_at inner room)
  unary_took state x h = unary_by_took (e.of_mark e.unary_op (kind_at state)) state x refl h

  pub cast_took : Sound (suc room) (Expression 2) (e.cast_at inner room)
  cast_took state x h = elim (either (opens_type state) (fixed inner f.Cast state) (e.unary_at inner room state) x h) [
    | inl a ↦ whole 2 2 f.Cast (expr_form f.Cast refl refl) (omega arith) state x a.1
    | inr a ↦ up 1 2 state x (omega arith) (unary_took state x a.1)
  ]

  binary_by_took : (again : Tree → Reader) → (level : ℕ) (start state : State) (left : Tree) (o : Option BinaryOp) (x : Tree × State) → ((y : Tree × State) → Took (suc room) (Expression (suc level)) start y.0 y.1 → again y.0 y.1 ≡ Some x → Took (suc room) (Expression (suc level)) start x.0 x.1) → e.at_level level (e.of_mark e.binary_op (kind_at state)) ≡ o → Took (suc room) (Expression (suc level)) start left state → e.binary_by inner room again (line_at start) left o state ≡ Some x → Took (suc room) (Expression (suc level)) start x.0 x.1
  binary_by_took again level start state left None x next h took g = subst (λ (y : Tree × State). Took (suc room) (Expression (suc level)) start y.0 y.1) (some_same g) took
  binary_by_took again level start state left (Some op) x next h took g =
      let a = bind_some (grown room inner (f.Binary op) (line_at start) left state) (λ (y : Tree × State). again y.0 y.1) x g in
      let same = level_some level (e.of_mark e.binary_op (kind_at state)) op h in
      let here = up (suc level) (binary_level op) start (left, state) (omega (arith, same)) took in
      next a.0 (grows (suc level) (binary_level op) (binary_level op) (f.Binary op) (grown_as (f.Binary op) (binary_level op) (binary_level op) refl) (omega (arith, same)) start state left here a.0 a.1) a.2

  binary_from_took : (turns level : ℕ) (start state : State) (left : Tree) (x : Tree × State) → Took (suc room) (Expression (suc level)) start left state → e.binary_from inner room turns level (line_at start) left state ≡ Some x → Took (suc room) (Expression (suc level)) start x.0 x.1
  binary_from_took zero level start state left x took h = none_some h
  binary_from_took (suc turns) level start state left x took h =
      binary_by_took (e.binary_from inner room turns level (line_at start)) level start state left (e.at_level level (e.of_mark e.binary_op (kind_at state))) x (λ y more g. binary_from_took turns level start y.1 y.0 x more g) refl took h

  pub binary_took : (n : ℕ) → Sound (suc room) (Expression (n + 2)) (e.binary_at inner room n)
  binary_took zero state x h = up 2 (zero + 2) state x (omega arith) (cast_took state x h)
  binary_took (suc n) state x h =
      let a = bind_some (e.binary_at inner room n state) (λ (y : Tree × State). e.binary_from inner room room (n + 2) (line_at state) y.0 y.1) x h in
      let below = up (n + 2) (suc (n + 2)) state a.0 (omega arith) (binary_took n state a.0 a.1) in
      up (suc (n + 2)) (suc n + 2) state x (omega arith) (binary_from_took room (n + 2) state a.0.1 a.0.0 x below a.2)

  pub cond_took : Sound (suc room) (Expression 13) (e.cond_at inner room)
  cond_took state x h =
      let a = bind_some (e.binary_at inner room 10 state) (λ (y : Tree × State). if at_mark s.Question y.1 then grown room inner f.Cond (line_at state) y.0 y.1 else Some y) x h in
      let below = up (10 + 2) 12 state a.0 (omega arith) (binary_took 10 state a.0 a.1) in
      elim (either (at_mark s.Question a.0.1) (grown room inner f.Cond (line_at state) a.0.0 a.0.1) (Some a.0) x a.2) [
        | inl b ↦ grows 13 13 12 f.Cond (grown_as f.Cond 12 13 refl) (omega arith) state a.0.1 a.0.0 below x b.1
        | inr b ↦ subst (λ (y : Tree × State). Took (suc room) (Expression 13) state y.0 y.1) (some_same b.1) (up 12 13 state a.0 (omega arith) below)
      ]

  assign_by_took : (start state : State) (left : Tree) (o : Option AssignOp) (x : Tree × State) → Took (suc room) (Expression 13) start left state → e.assign_by inner room (line_at start) left o state ≡ Some x → Took (suc room) (Expression 14) start x.0 x.1
  assign_by_took start state left None x took g = subst (λ (y : Tree × State). Took (suc room) (Expression 14) start y.0 y.1) (some_same g) (up 13 14 start (left, state) (omega arith) took)
  assign_by_took start state left (Some op) x took g =
      let a = if_some (e.is_unary left) (grown room inner (f.Assign op) (line_at start) left state) x g in
      let unary = placed (suc room) (suc room) 13 1 start left state took took.deep (unary_stands left a.0) in
      grows 14 14 1 (f.Assign op) (grown_as (f.Assign op) 1 14 refl) (omega arith) start state left unary x a.1

  pub assign_took : Sound (suc room) (Expression 14) (e.assign_at inner room)
  assign_took state x h =
      let a = bind_some (e.cond_at inner room state) (λ (y : Tree × State). e.assign_by inner room (line_at state) y.0 (e.of_mark e.assign_op (kind_at y.1)) y.1) x h in
      assign_by_took state a.0.1 a.0.0 (e.of_mark e.assign_op (kind_at a.0.1)) x (cond_took state a.0 a.1) a.2

  comma_by_took : (again : Tree → Reader) → (start state : State) (left : Tree) (b : Bool) (x : Tree × State) → ((y : Tree × State) → Took (suc room) (Expression 15) start y.0 y.1 → again y.0 y.1 ≡ Some x → Took (suc room) (Expression 15) start x.0 x.1) → Took (suc room) (Expression 15) start left state → e.comma_by inner room again (line_at start) left b state ≡ Some x → Took (suc room) (Expression 15) start x.0 x.1
  comma_by_took again start state left false x next took g = subst (λ (y : Tree × State). Took (suc room) (Expression 15) start y.0 y.1) (some_same g) took
  comma_by_took again start state left true x next took g =
      let a = bind_some (grown room inner f.Comma (line_at start) left state) (λ (y : Tree × State). again y.0 y.1) x g in
      next a.0 (grows 15 15 15 f.Comma (grown_as f.Comma 15 15 refl) (omega arith) start state left took a.0 a.1) a.2

  comma_from_took : (turns : ℕ) (start state : State) (left : Tree) (x : Tree × State) → Took (suc room) (Expression 15) start left state → e.comma_from inner room turns (line_at start) left state ≡ Some x → Took (suc room) (Expression 15) start x.0 x.1
  comma_from_took zero start state left x took h = none_some h
  comma_from_took (suc turns) start state left x took h =
      comma_by_took (e.comma_from inner room turns (line_at start)) start state left (at_mark s.Comma state) x (λ y more g. comma_from_took turns start y.1 y.0 x more g) took h

  pub comma_took : Sound (suc room) (Expression 15) (e.comma_at inner room)
  comma_took state x h =
      let a = bind_some (e.assign_at inner room state) (λ (y : Tree × State). e.comma_from inner room room (line_at state) y.0 y.1) x h in
      comma_from_took room state a.0.1 a.0.0 x (up 14 15 state a.0 (omega arith) (assign_took state a.0 a.1)) a.2

  loose_took : (n level : ℕ) (state : State) (x : Tree × State) → n + 13 ≤ level → e.loose_at inner room n state ≡ Some x → Took (suc room) (Expression level) state x.0 x.1
  loose_took zero level state x le h = up 13 level state x (omega (arith, le)) (cond_took state x h)
  loose_took (suc zero) level state x le h = up 14 level state x (omega (arith, le)) (assign_took state x h)
  loose_took (suc (suc n)) level state x le h = up 15 level state x (omega (arith, le)) (comma_took state x h)

  pub expression_took : (level : ℕ) → Sound (suc room) (Expression level) (e.expression_at inner room level)
  expression_took zero state x h = postfix_took state x h
  expression_took (suc zero) state x h = unary_took state x h
  expression_took (suc (suc n)) state x h =
      elim (either (nat_le n 10) (e.binary_at inner room n state) (e.loose_at inner room (n - 11) state) x h) [
        | inl a ↦ up (n + 2) (suc (suc n)) state x (omega arith) (binary_took n state x a.1)
        | inr a ↦ loose_took (n - 11) (suc (suc n)) state x (above (leb-false n 10 a.0)) a.1
      ]
    where
      above : 10 < n → (n - 11) + 13 ≤ suc (suc n)
      above lt = omega (arith, lt)

  pub argument_took : Sound (suc room) (Expression 14) (e.argument_at inner room)
  argument_took state x h = assign_took state x (guarded_some room (e.assign_at inner room) state x h).1

-- The words of specs, counted one behind another; what a tree declares; specs and tags that are read.

-- what a word counts among
pub data Slot : Type 0 where
  Nothing : Slot
  Storage : Slot
  Void : Slot
  Char_ : Slot
  Short : Slot
  Int_ : Slot
  Long : Slot
  Signed : Slot
  Whole : Slot

pub bump : Slot → Tally → Tally
bump Nothing t = t
bump Storage t = record t { storage = suc t.storage }
bump Void t = record t { void = suc t.void }
bump Char_ t = record t { char = suc t.char }
bump Short t = record t { short = suc t.short }
bump Int_ t = record t { int = suc t.int }
bump Long t = record t { long = suc t.long }
bump Signed t = record t { sign = suc t.sign }
bump Whole t = record t { whole = suc t.whole }

slot_of : Keyword → Slot
slot_of k.Static = Storage
slot_of k.Extern = Storage
slot_of k.Typedef = Storage
slot_of k.Void = Void
slot_of k.Char = Char_
slot_of k.Short = Short
slot_of k.Int = Int_
slot_of k.Long = Long
slot_of k.Signed = Signed
slot_of k.Unsigned = Signed
slot_of _ = Nothing

word_slot : Word → Slot
word_slot (Key keyword) = slot_of keyword
word_slot _ = Nothing

pub part_slot : Tree → Slot
part_slot (Leaf word) = word_slot word
part_slot (At line) = Nothing
part_slot (Node made parts) = Whole

key_bump : (keyword : Keyword) (t : Tally) → with_keyword keyword t ≡ bump (slot_of keyword) t
unfolding with_keyword slot_of bump
key_bump k.Void t = refl
key_bump _ t = refl

word_bump : (word : Word) (t : Tally) → with_word word t ≡ bump (word_slot word) t
unfolding bump word_slot
word_bump (Key keyword) t = key_bump keyword t
word_bump _ t = refl

pub part_bump : (tree : Tree) (t : Tally) → with_part tree t ≡ bump (part_slot tree) t
unfolding bump part_slot
part_bump (Leaf word) t = word_bump word t
part_bump (At line) t = refl
part_bump (Node made parts) t = refl

commute : (a b : Slot) (t : Tally) → bump a (bump b t) ≡ bump b (bump a t)
unfolding bump
commute Nothing Nothing t = refl
commute Storage Nothing t = refl
commute Void Nothing t = refl
commute Char_ Nothing t = refl
commute Short Nothing t = refl
commute Int_ Nothing t = refl
commute Long Nothing t = refl
commute Signed Nothing t = refl
commute Whole Nothing t = refl
commute _ _ t = refl

parts_commute : (a b : Tree) (t : Tally) → with_part a (with_part b t) ≡ with_part b (with_part a t)
parts_commute a b t =
    ap (with_part a) (part_bump b t) ∙ part_bump a (bump (part_slot b) t) ∙ commute (part_slot a) (part_slot b) t
    ∙ sym (part_bump b (bump (part_slot a) t)) ∙ ap (with_part b) (sym (part_bump a t))

pub tally_snoc : (parts : Trees) (tree : Tree) → tally (snoc parts tree) ≡ with_part tree (tally parts)
unfolding tally
tally_snoc none tree = refl
tally_snoc (first ▹ parts) tree = ap (with_part first) (tally_snoc parts tree) ∙ parts_commute first tree (tally parts)

pub more_storage : (a : Slot) (t : Tally) → t.storage ≤ (bump a t).storage
unfolding bump
more_storage Nothing t = omega arith
more_storage Storage t = omega arith
more_storage _ t = omega arith

pub part_storage : (tree : Tree) (t : Tally) → t.storage ≤ (with_part tree t).storage
part_storage tree t = subst (λ (x : Tally). t.storage ≤ x.storage) (sym (part_bump tree t)) (more_storage (part_slot tree) t)

typedef_word : (word : Word) (t : Tally) → word_is_typedef word ≡ true → 0 < (with_word word t).storage
unfolding with_keyword
typedef_word (Key k.Typedef) t h = omega arith
typedef_word _ t h = absurd (false≢true h)

or_left_right : (a b : Bool) (P : Type 0) → (a || b) ≡ true → (a ≡ true → P) → (b ≡ true → P) → P
or_left_right true b P h f g = f refl
or_left_right false b P h f g = g h

pub typedef_counts : (parts : Trees) → has_typedef parts ≡ true → 0 < (tally parts).storage
unfolding has_typedef tally
typedef_counts none h = absurd (false≢true h)
typedef_counts (Leaf word ▹ rest) h =
    or_left_right (word_is_typedef word) (has_typedef rest) (0 < (with_part (Leaf word) (tally rest)).storage) h (λ e. typedef_word word (tally rest) e) (more (part_storage (Leaf word) (tally rest)) (typedef_counts rest))
  where
    more : (tally rest).storage ≤ (with_part (Leaf word) (tally rest)).storage → (has_typedef rest ≡ true → 0 < (tally rest).storage) → has_typedef rest ≡ true → 0 < (with_part (Leaf word) (tally rest)).storage
    more le ih e = let lt = ih e in omega (arith, le, lt)
typedef_counts (At line ▹ rest) h = typedef_counts rest h
typedef_counts (Node made parts ▹ rest) h = typedef_counts rest h

pub no_typedef : (parts : Trees) → (tally parts).storage ≡ 0 → has_typedef parts ≡ false
no_typedef parts e = by (has_typedef parts) refl where
  by : (b : Bool) → has_typedef parts ≡ b → b ≡ false
  by true h = let lt = typedef_counts parts h in absurd (omega (arith, lt, e))
  by false h = refl

-- no word takes another away
pub record Within (a b : Tally) : Type 0 where
  pub void : a.void ≤ b.void
  pub char : a.char ≤ b.char
  pub short : a.short ≤ b.short
  pub int : a.int ≤ b.int
  pub long : a.long ≤ b.long
  pub sign : a.sign ≤ b.sign
  pub whole : a.whole ≤ b.whole

pub within_self : (a : Tally) → Within a a
within_self a = record { void = omega arith; char = omega arith; short = omega arith; int = omega arith; long = omega arith; sign = omega arith; whole = omega arith }

bump_within : (slot : Slot) (a : Tally) → Within a (bump slot a)
unfolding bump
bump_within Nothing a = within_self a
bump_within _ a = record { void = omega arith; char = omega arith; short = omega arith; int = omega arith; long = omega arith; sign = omega arith; whole = omega arith }

pub part_within : (tree : Tree) (a : Tally) → Within a (with_part tree a)
part_within tree a = subst (Within a) (sym (part_bump tree a)) (bump_within (part_slot tree) a)

pub within_both : (a b c : Tally) → Within a b → Within b c → Within a c
within_both a b c h g =
    let v1 = h.void in let v2 = g.void in let c1 = h.char in let c2 = g.char in let s1 = h.short in let s2 = g.short in
    let i1 = h.int in let i2 = g.int in let l1 = h.long in let l2 = g.long in let n1 = h.sign in let n2 = g.sign in
    let w1 = h.whole in let w2 = g.whole in
    record { void = omega (arith, v1, v2); char = omega (arith, c1, c2); short = omega (arith, s1, s2); int = omega (arith, i1, i2); long = omega (arith, l1, l2); sign = omega (arith, n1, n2); whole = omega (arith, w1, w2) }

-- What a tree declares stands in front of what was declared before.

-- a change of scopes puts the same declarations in front, wherever it happens
pub record Adds (change : Scope → Scope) (flag : Bool) : Type 0 where
  pub new : List Known
  pub out : Bool
  pub is : (names : List Known) → change (made names flag) ≡ made (new ++ names) out

declare_front : (name : Option (List ℕ)) (is_type : Bool) (a b : List Known) → declare name is_type (a ++ b) ≡ declare name is_type a ++ b
declare_front None is_type a b = refl
declare_front (Some name) is_type a b = refl

-- what a form keeps of what was declared in its parts
abbrev kept : Form → List Known → List Known
kept f.FunctionSuffix new = []
kept form new = if is_closed form then [] else new

left_adds : (form : Form) (parts : Trees) (flag out : Bool) (new : List Known) → (more : List Known) × (last : Bool) × ((names : List Known) → left form parts (made names flag) (made (new ++ names) out) ≡ made (more ++ names) last)
unfolding left
left_adds f.Specs parts flag out new = (new, has_typedef parts || flag, λ names. refl)
left_adds f.Declared parts flag out new = (declare (name_among parts) flag new, flag, λ names. ap (λ l. made l flag) (declare_front (name_among parts) flag new names))
left_adds f.Param parts flag out new = (declare (name_among parts) false new, flag, λ names. ap (λ l. made l flag) (declare_front (name_among parts) false new names))
left_adds f.Enumerator parts flag out new = (declare (name_among parts) false new, flag, λ names. ap (λ l. made l flag) (declare_front (name_among parts) false new names))
left_adds form parts flag out new = (kept form new, flag, λ names. refl)

chained : (b : Bool) (tree : Tree) (rest : Trees) (ps : List Place) (flag : Bool) → Adds (after tree) flag → ((out : Bool) → Adds (after_all rest ps) out) → Adds (λ scope. after_all rest ps (if b then scope else after tree scope)) flag
chained true tree rest ps flag a each = each flag
chained false tree rest ps flag a each =
    let c = each a.out in
    record { new = c.new ++ a.new; out = c.out; is = λ names. ap (after_all rest ps) (a.is names) ∙ c.is (a.new ++ names) ∙ ap (λ l. made l c.out) (sym (append_assoc c.new a.new names)) }

mutual
  unfolding after

  pub after_adds : (tree : Tree) (flag : Bool) → Adds (after tree) flag
  after_adds (Leaf word) flag = record { new = []; out = flag; is = λ names. refl }
  after_adds (At line) flag = record { new = []; out = flag; is = λ names. refl }
  after_adds (Node form parts) flag =
      let ps = places (shape form (count parts)) in
      let a = all_adds parts ps flag in
      let b = left_adds form parts flag a.out a.new in
      record { new = b.0; out = b.1; is = λ names. ap (left form parts (made names flag)) (a.is names) ∙ b.2 names }

  pub all_adds : (parts : Trees) (ps : List Place) (flag : Bool) → Adds (after_all parts ps) flag
  all_adds none ps flag = record { new = []; out = flag; is = λ names. refl }
  all_adds (tree ▹ rest) [] flag = record { new = []; out = flag; is = λ names. refl }
  all_adds (tree ▹ rest) (place ∷ ps) flag =
      chained (is_scope place) tree rest ps flag (after_adds tree flag) (λ out. all_adds rest ps out)

pub take_front : (new names : List Known) → take (length (new ++ names) - length names) (new ++ names) ≡ new
take_front new names =
    let e : length (new ++ names) - length names ≡ length new = let l = length-append new names in omega (arith, l) in
    ap (λ n. take n (new ++ names)) e ∙ take-append_seam new names

-- Specs and tags that are read.

-- What begins here

IsSpec : SpecStart → Tally → State → Type 0
IsSpec starts.Word tally state = Has state.words × (word_home (word_at state) ≡ p.SpecWord) × (d.with_key (kind_at state) tally ≡ with_part (Leaf (word_at state)) tally)
IsSpec starts.TypedefName tally state = (kind_at state ≡ kinds.Name) × (is_type state.scope.names (bytes_at state) ≡ true)
IsSpec (starts.Record sort) tally state = Has state.words
IsSpec starts.Enum tally state = Has state.words
IsSpec starts.End tally state = ⊤

word_spec : (keyword : Keyword) (t : Tally) (state : State) → kind_at state ≡ kinds.Key keyword → keyword_home keyword ≡ p.SpecWord → IsSpec starts.Word t state
unfolding IsSpec
word_spec keyword t state h home =
    let a = tells (kinds.Key keyword) state.words h in
    (a.0, ap word_home a.1 ∙ home, ap (λ kind. d.with_key kind t) h ∙ ap (λ word. with_part (Leaf word) t) (sym a.1))

word_key : (keyword : Keyword) → d.spec_key keyword ≡ starts.Word → keyword_home keyword ≡ p.SpecWord
unfolding d.spec_key keyword_home
word_key k.Void h = first_of (cc, search)
word_key _ h = first_of (cc, search)

no_key_name : (keyword : Keyword) → d.spec_key keyword ≡ starts.TypedefName → ⊥
unfolding d.spec_key
no_key_name k.Void h = cc
no_key_name _ h = cc

key_spec : (start : SpecStart) (keyword : Keyword) (t : Tally) (state : State) → kind_at state ≡ kinds.Key keyword → d.spec_key keyword ≡ start → IsSpec start t state
unfolding IsSpec
key_spec starts.Word keyword t state h e = word_spec keyword t state h (word_key keyword e)
key_spec starts.TypedefName keyword t state h e = absurd (no_key_name keyword e)
key_spec (starts.Record sort) keyword t state h e = (tells (kinds.Key keyword) state.words h).0
key_spec starts.Enum keyword t state h e = (tells (kinds.Key keyword) state.words h).0
key_spec starts.End keyword t state h e = tt

name_spec : (b c : Bool) (t : Tally) (state : State) → kind_at state ≡ kinds.Name → is_type state.scope.names (bytes_at state) ≡ b → IsSpec (d.spec_name (b && c)) t state
unfolding IsSpec
name_spec true true t state h g = (h, g)
name_spec true false t state h g = tt
name_spec false c t state h g = tt

spec_tells : (kind : Kind) (t : Tally) (state : State) → kind_at state ≡ kind → IsSpec (d.spec_by kind t state) t state
unfolding IsSpec
spec_tells (kinds.Key keyword) t state h = key_spec (d.spec_key keyword) keyword t state h refl
spec_tells kinds.Name t state h = name_spec (is_type state.scope.names (bytes_at state)) (not (d.has_type_word t)) t state h refl
spec_tells _ t state h = tt

-- Words of specs

spec_leaf : (bound : ℕ) (t : Tally) (state : State) → 0 < bound → IsSpec starts.Word t state → Took bound p.SpecWord state (Leaf (word_at state)) (skip state)
unfolding IsSpec Takes is_scope Also
spec_leaf bound t state some h = took_leaf bound p.SpecWord state h.0 some h.1 refl (λ has. tt) tt

typedef_node : (bound : ℕ) (state : State) → 0 < bound → kind_at state ≡ kinds.Name → is_type state.scope.names (bytes_at state) ≡ true → Took bound p.SpecWord state (Node f.TypedefName (Leaf (word_at state) ▹ none)) (skip state)
unfolding shape form_home weight Takes is_scope Also Allowed obeys spell after left name_of is_of_declarator
typedef_node bound state some h known =
    let t = tells kinds.Name state.words h in
    let parts = took_one bound p.Name state (skip state) (Leaf (word_at state)) (name_leaf bound state some h) in
    let d = parts.deep in
    let n = depth_flat f.TypedefName (Leaf (word_at state) ▹ none) refl in
    form_took bound bound p.SpecWord f.TypedefName (Part p.Name ∷ []) state (skip state) (skip state) (Leaf (word_at state) ▹ none) parts refl (ap (λ word. is_type_name (name_among (Leaf word ▹ none)) state.scope) t.1 ∙ known) refl (omega (arith, d, n, some)) refl refl (λ e. refl) refl tt tt

-- Nodes that end with a brace, behind a comma or not

all_none : (parts : Trees) (scope : Scope) → AllAllowed parts [] scope → parts ≡ none
unfolding AllAllowed
all_none none scope h = refl
all_none (tree ▹ rest) scope h = absurd h

closed_took : (bound : ℕ) (trailing : Bool) (state : State) (y : Trees × State) → parts_of (λ place. nothing_read) (closed trailing) state ≡ Some y → PartsTook bound (closed trailing) state none y.1
closed_took bound true state y h =
    let a = (parts_took bound (λ place. nothing_read) (closed true) tt refl state y h).0 in
    subst (λ parts. PartsTook bound (closed true) state parts y.1) (all_none y.0 state.scope a.allowed) a
closed_took bound false state y h =
    let a = (parts_took bound (λ place. nothing_read) (closed false) tt refl state y h).0 in
    subst (λ parts. PartsTook bound (closed false) state parts y.1) (all_none y.0 state.scope a.allowed) a

pub record EndingTook (bound : ℕ) (form : Bool → Form) (items : List Item) (start : State) (x : Tree × State) : Type 0 where
  pub trailing : Bool
  pub parts : Trees
  pub made : x.0 ≡ Node (form trailing) parts
  pub took : PartsTook bound (items ++ closed trailing) start parts x.1

ending_by_took : (bound : ℕ) (form : Bool → Form) (items : List Item) (start state : State) (parts : Trees) (trailing : Bool) (x : Tree × State) → PartsTook bound items start parts state → ending_by form parts trailing state ≡ Some x → EndingTook bound form items start x
ending_by_took bound form items start state parts trailing x took h =
    let a = bind_some (parts_of (λ place. nothing_read) (closed trailing) state) (λ y. Some (Node (form trailing) parts, y.1)) x h in
    let both = took_both bound items (closed trailing) start state a.0.1 parts none took (closed_took bound trailing state a.0 a.1) in
    subst (λ (z : Tree × State). EndingTook bound form items start z) (some_same a.2) (record { trailing = trailing; parts = parts; made = refl; took = subst (λ q. PartsTook bound (items ++ closed trailing) start q a.0.1) (joined_none parts) both })

ending_some : (form : Bool → Form) (o : Option (Trees × State)) (x : Tree × State) → ending form o ≡ Some x → (y : Trees × State) × (o ≡ Some y) × (ending_by form y.0 (at_mark s.Comma y.1) y.1 ≡ Some x)
ending_some form None x h = none_some h
ending_some form (Some y) x h = (y, refl, h)

pub ending_took : (bound : ℕ) (form : Bool → Form) (items : List Item) (start : State) (o : Option (Trees × State)) (x : Tree × State) → ((y : Trees × State) → o ≡ Some y → PartsTook bound items start y.0 y.1) → ending form o ≡ Some x → EndingTook bound form items start x
ending_took bound form items start o x took h =
    let a = ending_some form o x h in
    ending_by_took bound form items start a.0.1 a.0.0 (at_mark s.Comma a.0.1) x (took a.0 a.1) a.2

-- Whole specs

-- what was read of specs, behind their line
SpecsSoFar : ℕ → State → Trees → State → Type 0
SpecsSoFar bound start none state = start ≡ state
SpecsSoFar bound start (first ▹ rest) state = Has start.words × PartsTook bound (rows p.SpecWord (count (first ▹ rest))) start (first ▹ rest) state

specs_more : (bound : ℕ) (start state rest : State) (words : Trees) (tree : Tree) → SpecsSoFar bound start words state → Has state.words → Took bound p.SpecWord state tree rest → SpecsSoFar bound start (snoc words tree) rest
unfolding SpecsSoFar
specs_more bound start state rest none tree h has took =
    (subst (λ (st : State). Has st.words) (sym h) has, subst (λ (st : State). PartsTook bound (rows p.SpecWord 1) st (tree ▹ none) rest) (sym h) (took_one bound p.SpecWord state rest tree took))
specs_more bound start state rest (first ▹ words) tree h has took = (h.0, rows_snoc bound p.SpecWord start state rest (first ▹ words) tree h.1 took)

record SpecsTook (bound : ℕ) (plain : Bool) (start : State) (line : ℕ) (x : Tree × State) : Type 0 where
  words : Trees
  made : x.0 ≡ Node f.Specs (At line ▹ words)
  took : SpecsSoFar bound start words x.1
  stand : d.may_stand plain (tally words) ≡ true

-- a tag, which is a node
abbrev pub TagTook : ℕ → State → Tree × State → Type 0
TagTook bound state x = Took bound p.SpecWord state x.0 x.1 × ((t : Tally) → d.with_whole t ≡ with_part x.0 t)

no_specs : (trailing : Bool) → has_specs (places (take 5 (shape (f.EnumBody false) zero) ++ closed trailing)) ≡ false
unfolding shape
no_specs true = refl
no_specs false = refl

module _ (inner : Place → Reader) (room : ℕ) (deeper : (place : Place) → Sound room place (inner place)) where
  pub record_took : (sort : RecordSort) (state : State) (x : Tree × State) → d.record_at inner room sort state ≡ Some x → TagTook (suc room) state x
  unfolding shape form_home weight Takes is_scope Also
  record_took sort state x h = elim (either (d.tag_names_only inner room state) (fixed d.name_part (f.RecordTag sort) state) (fixed inner (f.RecordBody sort) state) x h) [
    | inl a ↦
        let b = node_some (f.RecordTag sort) (parts_of d.name_part (shape (f.RecordTag sort) zero) state) x a.1 in
        let c = (parts_took (suc room) d.name_part (shape (f.RecordTag sort) zero) (name_took (suc room) (omega arith), tt) refl state b.0 b.1).0 in
        subst (λ (z : Tree × State). TagTook (suc room) state z) (some_same b.2) (took_light (suc room) p.SpecWord (f.RecordTag sort) (shape (f.RecordTag sort) zero) state b.0.1 b.0.0 (omega arith) refl refl c refl refl refl refl tt tt, λ t. refl)
    | inr a ↦
        let b = node_some (f.RecordBody sort) (parts_of inner (shape (f.RecordBody sort) zero) state) x a.1 in
        let c = (parts_took room inner (shape (f.RecordBody sort) zero) (all_sound room inner deeper (shape (f.RecordBody sort) zero)) refl state b.0 b.1).0 in
        let deep = c.deep in
        let ran = c.ran refl in
        subst (λ (z : Tree × State). TagTook (suc room) state z) (some_same b.2) (took_node (suc room) room p.SpecWord (f.RecordBody sort) (shape (f.RecordBody sort) zero) state b.0.1 b.0.0 refl c refl refl refl refl (omega (arith, deep, ran)) tt tt, λ t. refl)
  ]

  pub enum_took : (state : State) (x : Tree × State) → d.enum_at inner room state ≡ Some x → TagTook (suc room) state x
  unfolding shape form_home weight Takes is_scope Also
  enum_took state x h = elim (either (d.tag_names_only inner room state) (fixed d.name_part f.EnumTag state) (ending f.EnumBody (parts_of inner (take 5 (shape (f.EnumBody false) zero)) state)) x h) [
    | inl a ↦
        let b = node_some f.EnumTag (parts_of d.name_part (shape f.EnumTag zero) state) x a.1 in
        let c = (parts_took (suc room) d.name_part (shape f.EnumTag zero) (name_took (suc room) (omega arith), tt) refl state b.0 b.1).0 in
        subst (λ (z : Tree × State). TagTook (suc room) state z) (some_same b.2) (took_light (suc room) p.SpecWord f.EnumTag (shape f.EnumTag zero) state b.0.1 b.0.0 (omega arith) refl refl c refl refl refl refl tt tt, λ t. refl)
    | inr a ↦
        let items = take 5 (shape (f.EnumBody false) zero) in
        let b = ending_took room f.EnumBody items state (parts_of inner items state) x (λ y g. (parts_took room inner items (all_sound room inner deeper items) refl state y g).0) a.1 in
        let deep = b.took.deep in
        let ran = b.took.ran refl in
        subst (λ t. TagTook (suc room) state (t, x.1)) (sym b.made) (took_node (suc room) room p.SpecWord (f.EnumBody b.trailing) (items ++ closed b.trailing) state x.1 b.parts refl b.took refl (no_specs b.trailing) refl refl (omega (arith, deep, ran)) tt tt, λ t. refl)
  ]

  specs_by_took : (turns : ℕ) (plain : Bool) (t : Tally) (start state : State) (line : ℕ) (words : Trees) (sp : SpecStart) (x : Tree × State) → IsSpec sp t state → t ≡ tally words → SpecsSoFar (suc room) start words state → ((more : Tally) (next : Trees) (rest : State) → more ≡ tally next → SpecsSoFar (suc room) start next rest → d.specs_from inner room turns plain more (At line ▹ next) rest ≡ Some x → SpecsTook (suc room) plain start line x) → d.specs_by inner room (d.specs_from inner room turns plain) plain t (At line ▹ words) sp state ≡ Some x → SpecsTook (suc room) plain start line x
  unfolding IsSpec
  specs_by_took turns plain t start state line words starts.Word x spec e far again h =
      again (d.with_key (kind_at state) t) (snoc words (Leaf (word_at state))) (skip state) (spec.2 ∙ ap (with_part (Leaf (word_at state))) e ∙ sym (tally_snoc words (Leaf (word_at state)))) (specs_more (suc room) start state (skip state) words (Leaf (word_at state)) far spec.0 (spec_leaf (suc room) t state (omega arith) spec)) h
  specs_by_took turns plain t start state line words starts.TypedefName x spec e far again h =
      let tree = Node f.TypedefName (Leaf (word_at state) ▹ none) in
      again (d.with_whole t) (snoc words tree) (skip state) (ap d.with_whole e ∙ sym (tally_snoc words tree)) (specs_more (suc room) start state (skip state) words tree far (tells kinds.Name state.words spec.0).0 (typedef_node (suc room) state (omega arith) spec.0 spec.1)) h
  specs_by_took turns plain t start state line words (starts.Record sort) x spec e far again h =
      let a = bind_some (d.record_at inner room sort state) (λ (y : Tree × State). d.specs_from inner room turns plain (d.with_whole t) (At line ▹ snoc words y.0) y.1) x h in
      let took = record_took sort state a.0 a.1 in
      again (d.with_whole t) (snoc words a.0.0) a.0.1 (ap d.with_whole e ∙ took.1 (tally words) ∙ sym (tally_snoc words a.0.0)) (specs_more (suc room) start state a.0.1 words a.0.0 far spec took.0) a.2
  specs_by_took turns plain t start state line words starts.Enum x spec e far again h =
      let a = bind_some (d.enum_at inner room state) (λ (y : Tree × State). d.specs_from inner room turns plain (d.with_whole t) (At line ▹ snoc words y.0) y.1) x h in
      let took = enum_took state a.0 a.1 in
      again (d.with_whole t) (snoc words a.0.0) a.0.1 (ap d.with_whole e ∙ took.1 (tally words) ∙ sym (tally_snoc words a.0.0)) (specs_more (suc room) start state a.0.1 words a.0.0 far spec took.0) a.2
  specs_by_took turns plain t start state line words starts.End x spec e far again h =
      let a = if_some (d.may_stand plain t) (Some (Node f.Specs (At line ▹ words), state)) x h in
      subst (λ (z : Tree × State). SpecsTook (suc room) plain start line z) (some_same a.1) (record { words = words; made = refl; took = far; stand = ap (d.may_stand plain) (sym e) ∙ a.0 })

  specs_from_took : (turns : ℕ) (plain : Bool) (t : Tally) (start state : State) (line : ℕ) (words : Trees) (x : Tree × State) → t ≡ tally words → SpecsSoFar (suc room) start words state → d.specs_from inner room turns plain t (At line ▹ words) state ≡ Some x → SpecsTook (suc room) plain start line x
  specs_from_took zero plain t start state line words x e far h = none_some h
  specs_from_took (suc turns) plain t start state line words x e far h =
      specs_by_took turns plain t start state line words (d.spec_at t state) x (spec_tells (kind_at state) t state refl) e far (λ more next rest same longer g. specs_from_took turns plain more start rest line next x same longer g) h

  no_words_stand : (plain : Bool) → d.may_stand plain no_words ≡ true → ⊥
  unfolding are_specs tally
  no_words_stand true h = absurd (false≢true h)
  no_words_stand false h = absurd (false≢true h)

  -- the words behind their line
  specs_parts : (plain : Bool) (start : State) (x : Tree × State) (h : SpecsTook (suc room) plain start (line_at start) x) → Has start.words × PartsTook (suc room) (here_rows p.SpecWord (suc (count h.words))) start (At (line_at start) ▹ h.words) x.1
  unfolding tally SpecsSoFar
  specs_parts plain start x h = by h.words h.took h.stand where
    by : (words : Trees) → SpecsSoFar (suc room) start words x.1 → d.may_stand plain (tally words) ≡ true → Has start.words × PartsTook (suc room) (here_rows p.SpecWord (suc (count words))) start (At (line_at start) ▹ words) x.1
    by none far stand = absurd (no_words_stand plain stand)
    by (first ▹ rest) far stand =
        (far.0, took_both (suc room) (Here ∷ []) (rows p.SpecWord (count (first ▹ rest))) start start x.1 (At (line_at start) ▹ none) (first ▹ rest) (took_line (suc room) start far.0) far.1)

  rows_flag : (n : ℕ) → has_specs (places (here_rows p.SpecWord (suc n))) ≡ false
  rows_flag n = rows_specs p.SpecWord n refl

  plain_node : (start rest : State) (words : Trees) → Has start.words → PartsTook (suc room) (here_rows p.SpecWord (suc (count words))) start (At (line_at start) ▹ words) rest → d.may_stand true (tally words) ≡ true → Took (suc room) p.PlainSpecs start (Node f.Specs (At (line_at start) ▹ words)) rest
  unfolding shape form_home weight Takes is_scope Also Allowed obeys spell after left is_of_declarator tally has_typedef
  plain_node start rest words has took stand =
      let parts = At (line_at start) ▹ words in
      let a = and_parts (are_specs (tally words)) ((tally words).storage == 0) stand in
      let none_stored = eqb-true (tally words).storage 0 a.1 in
      let deep = took.deep in
      let n = depth_flat f.Specs parts refl in
      let flag = took.flag (rows_flag (count words)) in
      let inside = after_all parts (places (here_rows p.SpecWord (suc (count words)))) start.scope in
      let scoped = scope_eq rest.scope inside.names (has_typedef words || start.scope.typedef) (ap (λ (sc : Scope). sc.names) took.scope) (flag ∙ ap (λ b. b || start.scope.typedef) (sym (no_typedef words none_stored))) in
      form_took (suc room) (suc room) p.PlainSpecs f.Specs (here_rows p.SpecWord (suc (count words))) start rest rest parts took refl a.0 (refl, none_stored) (omega (arith, deep, n)) refl scoped (λ e. flag) refl has tt

  specs_node : (start rest : State) (words : Trees) → Has start.words → PartsTook (suc room) (here_rows p.SpecWord (suc (count words))) start (At (line_at start) ▹ words) rest → d.may_stand false (tally words) ≡ true → Took (suc room) p.Specs start (Node f.Specs (At (line_at start) ▹ words)) (with_flag (has_typedef (At (line_at start) ▹ words) || rest.scope.typedef) rest)
  unfolding shape form_home weight Takes is_scope Also Allowed obeys spell after left is_of_declarator tally has_typedef
  specs_node start rest words has took stand =
      let parts = At (line_at start) ▹ words in
      let a = and_parts (are_specs (tally words)) true stand in
      let deep = took.deep in
      let n = depth_flat f.Specs parts refl in
      let flag = took.flag (rows_flag (count words)) in
      let scoped = ap (λ names. made names (has_typedef words || rest.scope.typedef)) (ap (λ (sc : Scope). sc.names) took.scope) ∙ ap (λ b. made (after_all parts (places (here_rows p.SpecWord (suc (count words)))) start.scope).names (has_typedef words || b)) flag in
      form_took (suc room) (suc room) p.Specs f.Specs (here_rows p.SpecWord (suc (count words))) start rest (with_flag (has_typedef parts || rest.scope.typedef) rest) parts took refl a.0 refl (omega (arith, deep, n)) refl scoped (λ e. absurd (false≢true (sym e))) refl has tt

  from_start : (plain : Bool) (state : State) (x : Tree × State) → d.specs_from inner room (suc (left_at state)) plain no_words (At (line_at state) ▹ none) state ≡ Some x → SpecsTook (suc room) plain state (line_at state) x
  unfolding SpecsSoFar tally
  from_start plain state x h = specs_from_took (suc (left_at state)) plain no_words state state (line_at state) none x refl refl h

  pub plain_specs_took : Sound (suc room) p.PlainSpecs (d.plain_specs_at inner room)
  plain_specs_took state x h =
      let a = from_start true state x h in
      let b = specs_parts true state x a in
      subst (λ t. Took (suc room) p.PlainSpecs state t x.1) (sym a.made) (plain_node state x.1 a.words b.0 b.1 a.stand)

  pub specs_took : Sound (suc room) p.Specs (d.specs_at inner room)
  specs_took state x h =
      let a = bind_some (d.specs_from inner room (suc (left_at state)) false no_words (At (line_at state) ▹ none) state) (λ (y : Tree × State). Some (y.0, d.specs_flagged inner room y.0 y.1)) x h in
      let b = from_start false state a.0 a.1 in
      let c = specs_parts false state a.0 b in
      subst (λ (z : Tree × State). Took (suc room) p.Specs state z.0 z.1) (some_same a.2) (subst (λ t. Took (suc room) p.Specs state t (d.specs_flagged inner room t a.0.1)) (sym b.made) (specs_node state a.0.1 b.words c.0 c.1 b.stand))
