-- How much expressions and declarators make, by the tokens of their trees.
use Rattle.core_soundness.proofs.Words.Std.{◌≡◌, ◌≤◌, ◌+◌, ◌*◌, ℕ, List, [], ◌∷◌, ◌++◌, length, All, arith, max, Option, unwrap_or, length-append, Bool, true, false, cond, Some, None, All-push, IfSome}
use Rattle.core_soundness.proofs.Words.Trees.{Token, Allowed, AllAllowed, IsExternal, AreExternals, Item, Says, Here, Part, shape, rows, HasTree, Place, Scope, places, Piece, Said, Line, filled, spell, spell_all, Spells, Tree, Trees, Node, none, ◌▹◌, count}
use Rattle.core_soundness.proofs.Words.Types.{no_layout, layout_in, PlainType, PlainNamed}
use Rattle.core_soundness.proofs.Words.Core.{IsShort, Mem, Reg as Register, StmKind}
use Rattle.core_soundness.proofs.Words.Elaborating.{with_format, Context, Variable, Walked, pointer_by, local_register, Memory, constant, specs, layers, is_pointer, with_register, with_memory, declared_as, next_is_memory, with_named, memory_param, register_param, function_param, prototype_param, is_prototype, with_param, with_static, with_literal}
use Rattle.core_tree.specs.declared.statements.Atom.TheVariants as atom
use Rattle.c_tree.specs.Forms as f
use Rattle.c_tree.specs.Places as p
use Rattle.c_decls.specs.Named as n
use Rattle.core_soundness.proofs.Agreeing.{came}
use Rattle.core_soundness.proofs.CodeWalk.{Writes, write_keeps}
use Rattle.core_soundness.proofs.Growth.{Reached, reached_ok, Led, led_ok, led_unless}
use Rattle.core_soundness.proofs.Scopes.{Short, some_short}
use Rattle.core_soundness.proofs.Walks.{said, weight, weights, Walks, Steps, constant_keeps, tagging, specs_keep, layers_keep}

-- a tree weighs no more than its tokens

-- the words of a spelling
abbrev told : List Piece → ℕ
told [] = 0
told (Said word ∷ pieces) = 1 + told pieces
told (Line line ∷ pieces) = told pieces

abbrev told_all : List (List Piece) → ℕ
told_all [] = 0
told_all (pieces ∷ rest) = told pieces + told_all rest

told_joined : (one other : List Piece) → told (one ++ other) ≡ told one + told other
told_joined [] other = omega arith
told_joined (Said word ∷ one) other = omega (arith, told_joined one other)
told_joined (Line line ∷ one) other = told_joined one other

spelled_told : (pieces : List Piece) (tokens rest : List Token) → Spells pieces tokens rest → told pieces ≤ length tokens
unfolding Spells
spelled_told (Said word ∷ pieces) (token ∷ tokens) rest h = omega (arith, spelled_told pieces tokens rest h.1)
spelled_told (Line line ∷ pieces) (token ∷ tokens) rest h = spelled_told pieces (token ∷ tokens) rest h.1
spelled_told pieces tokens rest h = search arith fits 100

filled_told : (items : List Item) (parts : Trees) (scope : Scope) → AllAllowed parts (places items) scope → said items + 6 * told_all (spell_all parts) ≤ 6 * told (filled items (spell_all parts))
unfolding AllAllowed spell_all
filled_told [] none scope a = omega arith
filled_told [] (tree ▹ rest) scope a = absurd a
filled_told (Says word ∷ items) parts scope a = omega (arith, filled_told items parts scope a)
filled_told (Here ∷ items) (tree ▹ rest) scope a = omega (arith, filled_told items rest _ a.2, told_joined (spell tree) (filled items (spell_all rest)))
filled_told (Part place ∷ items) (tree ▹ rest) scope a = omega (arith, filled_told items rest _ a.2, told_joined (spell tree) (filled items (spell_all rest)))
filled_told other none scope a = absurd a

mutual
  unfolding Allowed AllAllowed spell spell_all

  tree_weighed : (tree : Tree) (scope : Scope) → Allowed tree scope → weight tree ≤ 6 * told (spell tree)
  tree_weighed (Node form parts) scope a =
      let parts_fit = trees_weighed parts (places (shape form (count parts))) scope a.1 in
      let whole = filled_told (shape form (count parts)) parts scope a.1 in
      omega (arith, parts_fit, whole)
  tree_weighed other scope a = omega arith

  trees_weighed : (trees : Trees) (ps : List Place) (scope : Scope) → AllAllowed trees ps scope → weights trees ≤ 6 * told_all (spell_all trees)
  trees_weighed none ps scope a = omega arith
  trees_weighed (tree ▹ rest) [] scope a = absurd a
  trees_weighed (tree ▹ rest) (place ∷ ps) scope a = omega (arith, tree_weighed tree scope a.1, trees_weighed rest ps _ a.2)

-- external declarations

external_weighed : (tree : Tree) (scope : Scope) → IsExternal tree scope → weight tree ≤ 6 * told (spell tree)
unfolding IsExternal AllAllowed spell spell_all shape
external_weighed (Node f.Function (line ▹ words ▹ declared ▹ body ▹ none)) scope h =
    let l = tree_weighed line _ h.front.1 in
    let s = tree_weighed words _ h.front.2.1 in
    let d = tree_weighed declared _ h.front.2.2.1 in
    let b = tree_weighed body _ h.inside in
    omega (arith, l, s, d, b, told_joined (spell line) (spell words ++ (spell declared ++ (spell body ++ []))), told_joined (spell words) (spell declared ++ (spell body ++ [])), told_joined (spell declared) (spell body ++ []), told_joined (spell body) [])
external_weighed (Node f.Declaration parts) scope h = tree_weighed (Node f.Declaration parts) scope h
external_weighed tree scope h = absurd h

externals_weighed : (unit : Trees) (scope : Scope) → AreExternals unit scope → weights unit ≤ 6 * told (filled (rows p.External (count unit)) (spell_all unit))
unfolding AreExternals spell_all
externals_weighed none scope a = omega arith
externals_weighed (tree ▹ rest) scope a =
    omega (arith, external_weighed tree scope a.0, externals_weighed rest _ a.1, told_joined (spell tree) (filled (rows p.External (count rest)) (spell_all rest)))

pub unit_weighed : (tokens : List Token) (unit : Trees) → HasTree tokens unit → weights unit ≤ 6 * length tokens
unfolding spell shape
unit_weighed tokens unit h = search (arith, externals_weighed, spelled_told)

-- how much a part of a text makes: registers, memory locals, formats and temporaries, all with short names

-- what of a context is counted, and what has names
pub record Share : Type 0 where
  pub locals : List Register
  pub mems : List Mem
  pub formats : List (List ℕ)
  pub integers : ℕ
  pub pointers : ℕ
  pub most_integers : ℕ
  pub most_pointers : ℕ
  pub variables : List Variable
  pub walked : List Walked

abbrev pub share : Context → Share
share c = record {
  locals = c.running.locals;
  mems = c.running.mems;
  formats = c.running.formats;
  integers = c.code.integers;
  pointers = c.code.pointers;
  most_integers = c.code.most_integers;
  most_pointers = c.code.most_pointers;
  variables = c.variables;
  walked = c.walked;
}

-- the temporaries so far are no more than the greatest number
pub record Tidy (s : Share) : Type 0 where
  pub integers : s.integers ≤ s.most_integers
  pub pointers : s.pointers ≤ s.most_pointers

abbrev pub made : List Register → List Mem → List (List ℕ) → ℕ
made locals mems formats = length locals + length mems + length formats

abbrev pub made_in : Share → ℕ
made_in s = made s.locals s.mems s.formats

abbrev pub temporaries : Share → ℕ
temporaries s = s.most_integers + s.most_pointers

-- names and formats are short
pub record Named (rs : List Register) (ms : List Mem) (fs : List (List ℕ)) : Type 0 where
  pub locals : All (λ (reg : Register). IfSome reg.name IsShort) rs
  pub mems : All (λ (mem : Mem). IsShort mem.name) ms
  pub formats : All IsShort fs

-- so is all of a function that was walked, and it has made at most six for each of 268435456 words
pub record Sized (w : Walked) : Type 0 where
  pub name : IsShort w.name
  pub named : Named w.running.locals w.running.mems w.running.formats
  pub made : made w.running.locals w.running.mems w.running.formats ≤ 1610612736
  pub temporaries : w.code.most_integers + w.code.most_pointers ≤ 1610612736

pub record Clear (s : Share) : Type 0 where
  pub named : Named s.locals s.mems s.formats
  pub variables : All (λ (v : Variable). IsShort v.name) s.variables
  pub walked : All Sized s.walked

-- at most n more
pub record NearBy (n : ℕ) (s t : Share) : Type 0 where
  pub made : made_in t ≤ made_in s + n
  pub temporaries : Tidy s → temporaries t ≤ temporaries s + n
  pub tidy : Tidy s → Tidy t
  pub clear : Clear s → Clear t

abbrev pub Near : ℕ → Context → Context → Type 0
Near n c d = NearBy n (share c) (share d)

pub near_refl : (c : Context) → Near 0 c c
near_refl c = record { made = omega arith; temporaries = λ t. omega arith; tidy = λ t. t; clear = λ k. k }

-- one part behind another, within so much
pub near_on : {s t u : Share} (m n k : ℕ) → m + n ≤ k → NearBy m s t → NearBy n t u → NearBy k s u
near_on m n k h x y = search arith

pub near_most : {s t : Share} (m k : ℕ) → m ≤ k → NearBy m s t → NearBy k s t
near_most m k h x = record { made = omega (arith, h, x.made); temporaries = λ q. omega (arith, h, x.temporaries q); tidy = x.tidy; clear = x.clear }

within : (i m : ℕ) → i + 1 ≤ max m (i + 1)
within i m = omega arith

pub near_pointer : (line : ℕ) (kind : ℕ → StmKind) (c : Context) → Near 1 c (pointer_by line kind c).0
near_pointer line kind c = search (arith, within)

-- a format, a register and a memory local more
pub near_format : (bytes : List ℕ) (c : Context) → IsShort bytes → Near 1 c (with_format bytes c)
near_format bytes c h = record {
  made = omega (arith, length-append c.running.formats (bytes ∷ []));
  temporaries = λ q. omega arith;
  tidy = λ q. record { integers = q.integers; pointers = q.pointers };
  clear = λ k. record { named = record { locals = k.named.locals; mems = k.named.mems; formats = All-push IsShort c.running.formats bytes k.named.formats h }; variables = k.variables; walked = k.walked };
}

pub near_register : (name : Option (List ℕ)) (type : PlainType) (c : Context) → IfSome name IsShort → Near 1 c (with_register name type c)
near_register name type c h = record {
  made = omega (arith, length-append c.running.locals (record { name = name; pointer = is_pointer type } ∷ []));
  temporaries = λ q. omega arith;
  tidy = λ q. record { integers = q.integers; pointers = q.pointers };
  clear = λ k. record {
    named = record { locals = All-push (λ (reg : Register). IfSome reg.name IsShort) c.running.locals _ k.named.locals h; mems = k.named.mems; formats = k.named.formats };
    variables = k.variables;
    walked = k.walked;
  };
}

pub near_memory : (name : List ℕ) (type : PlainType) (c : Context) → IsShort name → Near 1 c (with_memory name type c)
near_memory name type c h = record {
  made = omega (arith, length-append c.running.mems (record { name = name; layout = unwrap_or (layout_in c.tags type) no_layout } ∷ []));
  temporaries = λ q. omega arith;
  tidy = λ q. record { integers = q.integers; pointers = q.pointers };
  clear = λ k. record {
    named = record { locals = k.named.locals; mems = All-push (λ (mem : Mem). IsShort mem.name) c.running.mems _ k.named.mems h; formats = k.named.formats };
    variables = k.variables;
    walked = k.walked;
  };
}

-- what conversions, operators and calls make

pub near_writes : Writes Near
near_writes = record {
  stop = λ n c. near_most 0 n (omega arith) (near_refl c);
  join = λ m n k a b c h x y. near_on m n k h x y;
  emits = λ line kind c h. near_refl c;
  integer = λ line kind c h. search (arith, within);
  pointer = λ line kind c h. near_pointer line kind c;
  forgets = λ n b c g. search arith;
  forks = λ m n k t r s line at a h x y. near_on m n k h x y;
  formats = λ bytes c h. near_format bytes c h;
  calls = λ calls c. near_refl c;
  frees = λ line a c. near_refl c;
}

-- what expressions make: at most six for each word

-- literals

pub static_near : (line size : ℕ) (c : Context) → Led (Near 0 c) (with_static line size c)
static_near line size c = search (arith, led_unless, led_ok, near_refl)

pub literal_near : (line : ℕ) (bytes : List ℕ) (c : Context) → Reached (Near 0 c) (with_literal line bytes c)
literal_near line bytes c z q = search (arith, came, reached_ok, static_near)

pub near_walk : Walks Near
near_walk = record { writes = near_writes; tells = λ t c m. near_refl c; literals = literal_near }

-- what specs, tags, declarators and parameters make

-- names

pub declared_near : (line : ℕ) (name : List ℕ) (v : PlainNamed) (c : Context) → Led (Near 0 c) (declared_as line name v c)
declared_near line name v c = search (arith, led_unless, led_ok, near_refl)

pub named_near : (name : Option (List ℕ)) (v : PlainNamed) (c : Context) → Near 0 c (with_named name v c)
named_near None v c = near_refl c
named_near (Some name) v c = near_refl c

memory_param_near : (name : Option (List ℕ)) (type : PlainType) (c : Context) → IfSome name IsShort → Near 2 c (memory_param name type c)
memory_param_near name type c h =
    let x = with_register name type c in
    let y = with_memory (unwrap_or name []) type x in
    let z = with_named name (n.Object type (length c.running.mems)) y in
    let one = near_register name type c h in
    let two = near_memory (unwrap_or name []) type x (some_short name h) in
    let three = near_on 0 0 0 (omega arith) (named_near name (n.Object type (length c.running.mems)) y) (write_keeps Near near_writes c.running.line type (Memory (atom.Mem (length c.running.mems))) (atom.Reg (local_register (length c.running.locals))) z) in
    near_on 1 1 2 (omega arith) one (near_on 1 0 1 (omega arith) two three)

with_param_near : (name : Option (List ℕ)) (type : PlainType) (c : Context) → IfSome name IsShort → Near 2 c (with_param name type c)
with_param_near name type c h = by (is_prototype c.scopes)
  where
    own : (t : Bool) → Near 2 c (cond t (memory_param name type c) (register_param name type c))
    own true = memory_param_near name type c h
    own false = search (arith, near_on, near_register, named_near)

    by : (t : Bool) → Near 2 c (cond t (prototype_param name type c) (function_param name type c))
    by true = near_on 0 0 2 (omega arith) (named_near name (n.Object type 0) c) (near_refl (prototype_param name type c))
    by false = own (next_is_memory type c)

-- specs and declarators

near_step : Steps IsShort (λ deep n c d. Near n c d)
near_step = record {
  stop = λ deep n c. near_most 0 n (omega arith) (near_refl c);
  join = λ deep m n k a b c h x y. near_on m n k h x y;
  tells = λ deep t c m. near_refl c;
  retags = λ deep tags c. near_refl c;
  enumerates = λ deep name value c. near_refl c;
  names = λ deep name c. near_refl c;
  takes = with_param_near;
  lists = λ deep n parts c x q h. h;
  unlists = λ deep c. near_refl c;
}

pub constant_near : (e : Tree) (c : Context) → Reached (Near 0 c) (constant e c)
constant_near e c = constant_keeps (Near 0) (tagging IsShort (λ deep n c d. Near n c d) near_step false) e c

pub specs_near : (tree : Tree) (c : Context) → Short tree → Reached (Near (weight tree) c) (specs tree c)
specs_near tree c h = specs_keep IsShort (λ deep n c d. Near n c d) near_step false tree c h

pub layers_near : (tree : Tree) (c : Context) → Short tree → Reached (Near (weight tree) c) (layers tree c)
layers_near tree c h = layers_keep IsShort (λ deep n c d. Near n c d) near_step false tree c h
