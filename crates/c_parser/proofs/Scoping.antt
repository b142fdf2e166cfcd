-- Reading only adds names to the scope, so a scope ends by taking its names back.
use Rattle.std.proofs.Common.{◌≡◌, ℕ, zero, suc, ◌-◌, Bool, true, false, if◌then◌else◌, List, [], ◌∷◌, ◌++◌, drop, take, length, Option, Some, None, Result, Ok, Err, refl, ap, sym, subst, ◌∙◌, append_assoc, length-append, arith}
use Rattle.std.proofs.Math.Seq.{drop-append_seam}
use Rattle.c_tree.specs.declared.word.Keyword.{Keyword}
use Rattle.c_tree.specs.declared.word.Keyword.TheVariants as k
use Rattle.c_tree.specs.Forms.{Form}
use Rattle.c_tree.specs.Forms as f
use Rattle.c_tree.specs.Grammar.{Item, Says, Here, Part, shape, key}
use Rattle.c_tree.specs.Places.{Place}
use Rattle.c_tree.specs.Places as p
use Rattle.c_tree.specs.Tree.{Tree, Trees, Leaf, At, Node, none, ◌▹◌, count}
use Rattle.c_tree.specs.Scopes.{Known, Scope, declare, name_among, left, is_scope, places, after, after_all}
use Rattle.c_tree.specs.Words.{Word}
use Rattle.grammar_reading.specs.State.{State, line_at, at_word, skip, past, back_to, in_body, with_new_params, at_key}
use Rattle.grammar_reading.specs.Reading.{◌>>=◌, Reader, in_front, node, joined, parts_of, fixed, scoped}
use Rattle.grammar_reading.specs.Rooms.{less, read}
use Rattle.grammar_reading.specs.Laws.{behind, TreesAreRead}
use Rattle.parser_parts.specs.Gives.{Fails, Reads}
use Rattle.parser_parts.specs.declared.reader.Outer.{Outer}
use Rattle.c_parser.specs.Ends.{Ends}
use Rattle.parser_parts.specs.Names.{oldest}
use Rattle.parser_parts.specs.declared.error.ReadError.{ReadError}
use Rattle.parser_parts.specs.declared.error.ReadError.TheVariants as errors
use Rattle.grammar_reading.specs.Declarators.{is_void_list, function_suffix_at}
use Rattle.grammar_reading.specs.Statements.{else_by, if_at, body_at}
use Rattle.c_parser.specs.Pieces.{open_at, open_function_at}
use Rattle.grammar_reading.specs.ReadingEquations.{none_some, some_same, bind_some}

-- some names are more than others
abbrev More : List Known → List Known → Type 0
More old names = (new : List Known) × (names ≡ new ++ old)

more_same : (names : List Known) → More names names
more_same names = ([], refl)

more_more : (a b c : List Known) → More a b → More b c → More a c
more_more a b c x y = (y.0 ++ x.0, y.1 ∙ ap (λ l. y.0 ++ l) x.1 ∙ sym (append_assoc y.0 x.0 a))

declare_more : (name : Option (List ℕ)) (is_type : Bool) (old names : List Known) → More old names → More old (declare name is_type names)
declare_more None is_type old names x = x
declare_more (Some name) is_type old names x = ((let known : Known = record { name = name; is_type = is_type } in known) ∷ x.0, ap (λ l. (let known : Known = record { name = name; is_type = is_type } in known) ∷ l) x.1)

left_more : (made : Form) (parts : Trees) (before inside : Scope) → More before.names inside.names → More before.names (left made parts before inside).names
unfolding left
left_more f.Body parts before inside x = more_same before.names
left_more f.Block parts before inside x = more_same before.names
left_more f.Delay parts before inside x = more_same before.names
left_more f.If parts before inside x = more_same before.names
left_more f.IfElse parts before inside x = more_same before.names
left_more f.While parts before inside x = more_same before.names
left_more f.Do parts before inside x = more_same before.names
left_more f.For parts before inside x = more_same before.names
left_more f.Switch parts before inside x = more_same before.names
left_more f.FunctionSuffix parts before inside x = more_same before.names
left_more f.Declared parts before inside x = declare_more (name_among parts) before.typedef before.names inside.names x
left_more f.Param parts before inside x = declare_more (name_among parts) false before.names inside.names x
left_more f.Enumerator parts before inside x = declare_more (name_among parts) false before.names inside.names x
left_more _ parts before inside x = x

part_more : (tree : Tree) (apart : Bool) (scope : Scope) → More scope.names (after tree scope).names → More scope.names (if apart then scope else after tree scope).names
part_more tree true scope x = more_same scope.names
part_more tree false scope x = x

mutual
  unfolding after after_all

  after_more : (tree : Tree) (scope : Scope) → More scope.names (after tree scope).names
  after_more (Leaf word) scope = more_same scope.names
  after_more (At line) scope = more_same scope.names
  after_more (Node made parts) scope =
      left_more made parts scope (after_all parts (places (shape made (count parts))) scope) (all_more parts (places (shape made (count parts))) scope)

  all_more : (parts : Trees) (ps : List Place) (scope : Scope) → More scope.names (after_all parts ps scope).names
  all_more none ps scope = more_same scope.names
  all_more (tree ▹ rest) [] scope = more_same scope.names
  all_more (tree ▹ rest) (place ∷ ps) scope =
      let next : Scope = if is_scope place then scope else after tree scope in
      more_more scope.names next.names (after_all rest ps next).names (part_more tree (is_scope place) scope (after_more tree scope)) (all_more rest ps next)

-- with the names that were declared before
abbrev backing : State → Tree × State → Tree × State
backing before x = (x.0, back_to before x.1)

-- a reader that only adds names
abbrev Adds : State → State → Type 0
Adds state rest = More state.scope.names rest.scope.names

abbrev OnlyAdds : Reader → Type 0
OnlyAdds reader = (state rest : State) (tree : Tree) → reader state ≡ Some (tree, rest) → Adds state rest

-- what is read at a place is a tree that may stand there, by the law `trees_are_read` of `grammar_reading`
pub read_adds : TreesAreRead → (room : ℕ) (place : Place) → OnlyAdds (read room place)
read_adds are_read room place state rest tree h =
    let same : rest.scope ≡ behind place tree state.scope = (are_read room place state rest tree h).scope in
    subst (λ (scope : Scope). More state.scope.names scope.names) (sym same) (part_more tree (is_scope place) state.scope (after_more tree state.scope))

less_adds : TreesAreRead → (room : ℕ) (place : Place) → OnlyAdds (less room place)
less_adds are_read zero place state rest tree h = none_some h
less_adds are_read (suc room) place state rest tree h = read_adds are_read room place state rest tree h

past_adds : (word : Word) (state rest : State) (b : Bool) → (if b then Some (skip state) else None) ≡ Some rest → Adds state rest
past_adds word state rest true h = subst (λ (s : State). Adds state s) (some_same h) (more_same state.scope.names)
past_adds word state rest false h = none_some h

front_some : (tree : Tree) (r : Option (Trees × State)) (parts : Trees) (rest : State) → in_front tree r ≡ Some (parts, rest) → (x : Trees) × (r ≡ Some (x, rest))
front_some tree None parts rest h = none_some h
front_some tree (Some x) parts rest h = (x.0, ap (λ s. Some (x.0, s)) (ap (λ (y : Trees × State). y.1) (some_same h)))

module _ (part : Place → Reader) (adds : (place : Place) → OnlyAdds (part place)) where
  parts_add : (items : List Item) (state rest : State) (parts : Trees) → parts_of part items state ≡ Some (parts, rest) → Adds state rest
  parts_add [] state rest parts h = subst (λ (s : State). Adds state s) (ap (λ (y : Trees × State). y.1) (some_same h)) (more_same state.scope.names)
  parts_add (Says word ∷ items) state rest parts h =
      let x = bind_some (past word state) (λ next. parts_of part items next) (parts, rest) h in
      more_more state.scope.names x.0.scope.names rest.scope.names (past_adds word state x.0 (at_word word state) x.1) (parts_add items x.0 rest parts x.2)
  parts_add (Here ∷ items) state rest parts h =
      let x = front_some (At (line_at state)) (parts_of part items state) parts rest h in
      parts_add items state rest x.0 x.1
  parts_add (Part place ∷ items) state rest parts h =
      let x = bind_some (part place state) (λ x. in_front x.0 (parts_of part items x.1)) (parts, rest) h in
      let y = front_some x.0.0 (parts_of part items x.0.1) parts rest x.2 in
      more_more state.scope.names x.0.1.scope.names rest.scope.names (adds place state x.0.1 x.0.0 x.1) (parts_add items x.0.1 rest y.0 y.1)

  node_some : (made : Form) (r : Option (Trees × State)) (tree : Tree) (rest : State) → node made r ≡ Some (tree, rest) → (x : Trees) × (r ≡ Some (x, rest))
  node_some made None tree rest h = none_some h
  node_some made (Some x) tree rest h = (x.0, ap (λ s. Some (x.0, s)) (ap (λ (y : Tree × State). y.1) (some_same h)))

  pub fixed_adds : (made : Form) → OnlyAdds (fixed part made)
  fixed_adds made state rest tree h =
      let x = node_some made (parts_of part (shape made zero) state) tree rest h in
      parts_add (shape made zero) state rest x.0 x.1

  else_adds : (parts : Trees) (more : Bool) (room : ℕ) (state rest : State) (tree : Tree) → else_by part room parts more state ≡ Some (tree, rest) → Adds state rest
  else_adds parts true room state rest tree h =
      let x = bind_some (parts_of part (key k.Else ∷ Part p.Branch ∷ []) state) (λ x. Some (Node f.IfElse (joined parts x.0), x.1)) (tree, rest) h in
      subst (λ (s : State). Adds state s) (ap (λ (y : Tree × State). y.1) (some_same x.2)) (parts_add (key k.Else ∷ Part p.Branch ∷ []) state x.0.1 x.0.0 x.1)
  else_adds parts false room state rest tree h = subst (λ (s : State). Adds state s) (ap (λ (y : Tree × State). y.1) (some_same h)) (more_same state.scope.names)

  if_adds : (room : ℕ) → OnlyAdds (if_at part room)
  if_adds room state rest tree h =
      let x = bind_some (parts_of part (shape f.If zero) state) (λ x. else_by part room x.0 (at_key k.Else x.1) x.1) (tree, rest) h in
      more_more state.scope.names x.0.1.scope.names rest.scope.names (parts_add (shape f.If zero) state x.0.1 x.0.0 x.1) (else_adds x.0.0 (at_key k.Else x.0.1) room x.0.1 rest tree x.2)

  open_adds : (room : ℕ) (keyword : Keyword) → OnlyAdds (open_at part room keyword)
  open_adds room k.DelayFrees state rest tree h = fixed_adds f.Delay state rest tree h
  open_adds room k.If state rest tree h = if_adds room state rest tree h
  open_adds room k.While state rest tree h = fixed_adds f.While state rest tree h
  open_adds room k.Do state rest tree h = fixed_adds f.Do state rest tree h
  open_adds room k.For state rest tree h = fixed_adds f.For state rest tree h
  open_adds room k.Switch state rest tree h = fixed_adds f.Switch state rest tree h
  open_adds room _ state rest tree h = none_some h

  function_adds_by : (b : Bool) (state rest : State) (tree : Tree) → (if b then fixed part f.VoidSuffix state else fixed part f.FunctionSuffix state) ≡ Some (tree, rest) → Adds state rest
  function_adds_by true state rest tree h = fixed_adds f.VoidSuffix state rest tree h
  function_adds_by false state rest tree h = fixed_adds f.FunctionSuffix state rest tree h

-- where names were only added, the oldest are those that were there
oldest_back : (old names : List Known) → More old names → oldest (length old) names ≡ old
oldest_back old names x =
    let long : length names - length old ≡ length x.0 = omega (arith, ap length x.1, length-append x.0 old) in
    ap (λ n. drop n names) long ∙ ap (drop (length x.0)) x.1 ∙ drop-append_seam x.0 old

-- the end of a scope, as the code has it
abbrev pub closed_scope : ℕ → Bool → State → State
closed_scope count flag state =
    record { words = state.words; scope = record { names = oldest count state.scope.names; typedef = flag }; params = state.params }

closes : (before inside : State) (count : ℕ) (flag : Bool) → count ≡ length before.scope.names → flag ≡ before.scope.typedef → Adds before inside → back_to before inside ≡ closed_scope count flag inside
closes before inside count flag c e x =
    let names : oldest count inside.scope.names ≡ before.scope.names = ap (λ n. oldest n inside.scope.names) c ∙ oldest_back before.scope.names inside.scope.names x in
    sym (ap (λ n. let s : State = record { words = inside.words; scope = record { names = n; typedef = flag }; params = inside.params } in s) names
    ∙ ap (λ b. let s : State = record { words = inside.words; scope = record { names = before.scope.names; typedef = b }; params = inside.params } in s) e)

scope_ends : (reader : Reader) → OnlyAdds reader → (before inside behind : State) (tree : Tree) (count : ℕ) (flag : Bool) → count ≡ length before.scope.names → flag ≡ before.scope.typedef →
    reader before ≡ Some (tree, inside) → behind ≡ closed_scope count flag inside → scoped reader before ≡ Some (tree, behind)
scope_ends reader adds before inside behind tree count flag c e h same =
    ap (λ (r : Option (Tree × State)). r >>= (λ x. Some (backing before x))) h
    ∙ ap (λ s. Some (tree, s)) (closes before inside count flag c e (adds before inside tree h) ∙ sym same)

scope_fails : (reader : Reader) (before : State) → reader before ≡ None → scoped reader before ≡ None
scope_fails reader before h = ap (λ (r : Option (Tree × State)). r >>= (λ x. Some (backing before x))) h

-- the end of a scope: what was read in it, or why nothing was
scope_ended : {X : Type 0} (view : X → Tree) (reader : Reader) → OnlyAdds reader → (before inside behind : State) (outer : Outer) (read result : Result X ReadError) → outer.count ≡ length before.scope.names → outer.typedef ≡ before.scope.typedef →
    Reads view read inside (reader before) → Ends outer read result inside behind → Reads view result behind (scoped reader before)
scope_ended view reader adds before inside behind outer (Ok x) (Ok given) c e h ends =
    scope_ends reader adds before inside behind (view given) outer.count outer.typedef c e (h ∙ ap (λ y. Some (view y, inside)) (sym ends.0)) ends.1
scope_ended view reader adds before inside behind outer (Ok x) (Err errors.NoMemory) c e h ends = tt
scope_ended view reader adds before inside behind outer (Ok x) (Err errors.Syntax) c e h ends = cc
scope_ended view reader adds before inside behind outer (Err error) (Ok given) c e h ends = absurd ends
scope_ended view reader adds before inside behind outer (Err error) (Err errors.NoMemory) c e h ends = tt
scope_ended view reader adds before inside behind outer (Err errors.NoMemory) (Err errors.Syntax) c e h ends = cc
scope_ended view reader adds before inside behind outer (Err errors.Syntax) (Err errors.Syntax) c e h ends = scope_fails reader before h

-- a branch, a block, a statement with parts of its own
pub branch_ended : TreesAreRead → {X : Type 0} (view : X → Tree) (room : ℕ) (before inside behind : State) (outer : Outer) (got result : Result X ReadError) → outer.count ≡ length before.scope.names → outer.typedef ≡ before.scope.typedef →
    Reads view got inside (read room p.Statement before) → Ends outer got result inside behind → Reads view result behind (scoped (read room p.Statement) before)
branch_ended are_read view room = scope_ended view (read room p.Statement) (read_adds are_read room p.Statement)

pub block_ended : TreesAreRead → {X : Type 0} (view : X → Tree) (room : ℕ) (before inside behind : State) (outer : Outer) (got result : Result X ReadError) → outer.count ≡ length before.scope.names → outer.typedef ≡ before.scope.typedef →
    Reads view got inside (fixed (less room) f.Block before) → Ends outer got result inside behind → Reads view result behind (scoped (fixed (less room) f.Block) before)
block_ended are_read view room = scope_ended view (fixed (less room) f.Block) (fixed_adds (less room) (less_adds are_read room) f.Block)

pub open_ended : TreesAreRead → {X : Type 0} (view : X → Tree) (room : ℕ) (keyword : Keyword) (before inside behind : State) (outer : Outer) (got result : Result X ReadError) → outer.count ≡ length before.scope.names → outer.typedef ≡ before.scope.typedef →
    Reads view got inside (open_at (less room) room keyword before) → Ends outer got result inside behind → Reads view result behind (scoped (open_at (less room) room keyword) before)
open_ended are_read view room keyword = scope_ended view (open_at (less room) room keyword) (open_adds (less room) (less_adds are_read room) room keyword)

-- a body: the parameters are declared in it
pub body_ends : TreesAreRead → (room : ℕ) (before start inside behind : State) (tree : Tree) (count : ℕ) (flag : Bool) → count ≡ length before.scope.names → flag ≡ before.scope.typedef → start ≡ in_body before →
    fixed (less room) f.Body start ≡ Some (tree, inside) → behind ≡ closed_scope count flag inside → body_at (less room) room before ≡ Some (tree, behind)
body_ends are_read room before start inside behind tree count flag c e begun h same =
    let at : fixed (less room) f.Body (in_body before) ≡ Some (tree, inside) = ap (fixed (less room) f.Body) (sym begun) ∙ h in
    let adds : Adds before inside = more_more before.scope.names (in_body before).scope.names inside.scope.names (before.params, refl) (fixed_adds (less room) (less_adds are_read room) f.Body (in_body before) inside tree at) in
    ap (λ (r : Option (Tree × State)). r >>= (λ x. Some (backing before x))) at ∙ ap (λ s. Some (tree, s)) (closes before inside count flag c e adds ∙ sym same)

pub body_fails : (room : ℕ) (before start : State) → start ≡ in_body before → fixed (less room) f.Body start ≡ None → body_at (less room) room before ≡ None
body_fails room before start begun h = ap (λ (r : Option (Tree × State)). r >>= (λ x. Some (backing before x))) (ap (fixed (less room) f.Body) (sym begun) ∙ h)

-- a parameter list, whose names are kept as parameters
-- with the parameters that were read
abbrev ending : State → Tree × State → Tree × State
ending before x = (x.0, with_new_params before x.1)

function_by : (inner : Place → Reader) (b : Bool) (state : State) →
    (if b then fixed inner f.VoidSuffix state >>= (λ x. Some (ending state x)) else fixed inner f.FunctionSuffix state >>= (λ x. Some (ending state x)))
    ≡ (if b then fixed inner f.VoidSuffix state else fixed inner f.FunctionSuffix state) >>= (λ x. Some (ending state x))
function_by inner true state = refl
function_by inner false state = refl

pub function_ends : TreesAreRead → (room : ℕ) (before inside behind : State) (tree : Tree) (count : ℕ) (flag : Bool) → count ≡ length before.scope.names → flag ≡ before.scope.typedef →
    open_function_at (less room) before ≡ Some (tree, inside) →
    behind ≡ record { words = inside.words; scope = record { names = oldest count inside.scope.names; typedef = flag }; params = take (length inside.scope.names - count) inside.scope.names } →
    function_suffix_at (less room) room before ≡ Some (tree, behind)
function_ends are_read room before inside behind tree count flag c e h same =
    let adds : Adds before inside = function_adds_by (less room) (less_adds are_read room) (is_void_list before) before inside tree h in
    let names : oldest count inside.scope.names ≡ before.scope.names = ap (λ n. oldest n inside.scope.names) c ∙ oldest_back before.scope.names inside.scope.names adds in
    function_by (less room) (is_void_list before) before ∙ ap (λ (r : Option (Tree × State)). r >>= (λ x. Some (ending before x))) h
    ∙ ap (λ s. Some (tree, s))
    (sym (same
    ∙ ap (λ n. let s : State = record { words = inside.words; scope = record { names = n; typedef = flag }; params = take (length inside.scope.names - count) inside.scope.names } in s) names
    ∙ ap (λ b. let s : State = record { words = inside.words; scope = record { names = before.scope.names; typedef = b }; params = take (length inside.scope.names - count) inside.scope.names } in s) e
    ∙ ap (λ n. let s : State = record { words = inside.words; scope = before.scope; params = take (length inside.scope.names - n) inside.scope.names } in s) c))

pub function_fails : (room : ℕ) (before : State) → open_function_at (less room) before ≡ None → function_suffix_at (less room) room before ≡ None
function_fails room before h =
    function_by (less room) (is_void_list before) before ∙ ap (λ (r : Option (Tree × State)). r >>= (λ x. Some (ending before x))) h

-- what is changed of nothing is nothing
pub fails_on : {A B : Type 0} (error : ReadError) (r : Option A) (s : Option B) → (r ≡ None → s ≡ None) → Fails error r → Fails error s
fails_on errors.NoMemory r s on h = h
fails_on errors.Syntax r s on h = on h
