-- Which trees are allowed: the grammar, and the rules beside it (C99 6.5 to 6.9, narrowed).
use Rattle.std.specs.Prelude.{◌≡◌, ⊤, ◌≤◌, ℕ, zero, suc, ◌+◌, ◌==◌, ◌||◌, ◌&&◌, nat_le, Bool, true, false, not, if◌then◌else◌, List, [], ◌∷◌, ◌++◌, Option, Some, None, IsSome}
use Rattle.c_tree.specs.declared.word.Keyword.{Keyword}
use Rattle.c_tree.specs.declared.word.Keyword.TheVariants as k
use Rattle.c_tree.specs.Words.{Word, Key}
use Rattle.c_tree.specs.Forms.{Form}
use Rattle.c_tree.specs.Forms as f
use Rattle.c_tree.specs.Places.{Place, Expression}
use Rattle.c_tree.specs.Places as p
use Rattle.c_tree.specs.Tree.{Tree, Trees, Leaf, At, Node, none, ◌▹◌, count}
use Rattle.c_tree.specs.Grammar.{shape, home}
use Rattle.c_tree.specs.Spelling.{spell, words}
use Rattle.c_tree.specs.Scopes.{Scope, is_type, name_of, name_among, is_scope, places, after, params_of, with_params}

-- an `if` without `else` ends open
unfoldable pub is_open : Form → Bool
is_open f.If = true
is_open _ = false

-- the last part of such a statement is a statement
unfoldable pub ends_in_statement : Form → Bool
ends_in_statement f.IfElse = true
ends_in_statement f.While = true
ends_in_statement f.For = true
ends_in_statement f.Switch = true
ends_in_statement f.Case = true
ends_in_statement f.Default = true
ends_in_statement _ = false

-- whether there are no parts
abbrev pub is_none : Trees → Bool
is_none none = true
is_none (tree ▹ rest) = false

unfoldable mutual
  -- whether a statement ends in an `if` without `else`, to which an `else` behind it would belong
  pub ends_open : Tree → Bool
  ends_open (Leaf word) = false
  ends_open (At line) = false
  ends_open (Node form parts) = is_open form || (ends_in_statement form && last_ends_open parts)

  pub last_ends_open : Trees → Bool
  last_ends_open none = false
  last_ends_open (tree ▹ rest) = if is_none rest then ends_open tree else last_ends_open rest

-- how often words of each sort stand in specs: `static`, `extern`, `typedef`; `void`; `char`; `short`; `int`; `long`;
-- `signed`, `unsigned`; tags and typedef names
pub record Tally : Type 0 where
  pub storage : ℕ
  pub void : ℕ
  pub char : ℕ
  pub short : ℕ
  pub int : ℕ
  pub long : ℕ
  pub sign : ℕ
  pub whole : ℕ

abbrev pub no_words : Tally
no_words = record { storage = 0; void = 0; char = 0; short = 0; int = 0; long = 0; sign = 0; whole = 0 }

-- with one keyword more
unfoldable pub with_keyword : Keyword → Tally → Tally
with_keyword k.Static t = record t { storage = suc t.storage }
with_keyword k.Extern t = record t { storage = suc t.storage }
with_keyword k.Typedef t = record t { storage = suc t.storage }
with_keyword k.Void t = record t { void = suc t.void }
with_keyword k.Char t = record t { char = suc t.char }
with_keyword k.Short t = record t { short = suc t.short }
with_keyword k.Int t = record t { int = suc t.int }
with_keyword k.Long t = record t { long = suc t.long }
with_keyword k.Signed t = record t { sign = suc t.sign }
with_keyword k.Unsigned t = record t { sign = suc t.sign }
with_keyword _ t = t

abbrev pub with_word : Word → Tally → Tally
with_word (Key keyword) t = with_keyword keyword t
with_word _ t = t

-- with one part of specs more
abbrev pub with_part : Tree → Tally → Tally
with_part (Leaf word) t = with_word word t
with_part (At line) t = t
with_part (Node kind parts) t = record t { whole = suc t.whole }

-- the words of specs
unfoldable pub tally : Trees → Tally
tally none = no_words
tally (tree ▹ rest) = with_part tree (tally rest)

-- an integer type: `char` with at most one sign; or at least one word of a sign, `short` or `long` or `long long`, and
-- `int`
abbrev pub is_integer_type : Tally → Bool
is_integer_type t =
    nat_le t.sign 1 &&
    (if t.char == 0
    then nat_le t.int 1 && nat_le t.short 1 && nat_le t.long 2 && (t.short == 0 || t.long == 0)
    && nat_le 1 (t.sign + t.short + t.long + t.int)
    else t.char == 1 && t.short + t.long + t.int == 0)

-- the words of one type: an integer type, or `void`, a tag or a typedef name alone (C99 6.7.2)
abbrev pub is_one_type : Tally → Bool
is_one_type t =
    if t.void + t.whole == 0 then is_integer_type t
    else t.void + t.whole == 1 && t.char + t.short + t.long + t.int + t.sign == 0

-- specs hold the words of one type, and at most one of `static`, `extern` and `typedef` (C99 6.7.1)
unfoldable pub are_specs : Tally → Bool
are_specs t = is_one_type t && nat_le t.storage 1

-- how many of `static`, `extern` and `typedef` stand in specs
abbrev pub storage_of : Tree → ℕ
storage_of (Leaf word) = 0
storage_of (At line) = 0
storage_of (Node kind parts) = (tally parts).storage

-- whether the parts of a node are some
abbrev pub has_parts : Tree → Bool
has_parts (Leaf word) = false
has_parts (At line) = false
has_parts (Node kind parts) = not (is_none parts)

-- the words of some parts
abbrev pub words_of : Trees → List Word
words_of none = []
words_of (tree ▹ rest) = words (spell tree) ++ words_of rest

-- whether the one word is `void`
unfoldable pub is_void : List Word → Bool
is_void (Key k.Void ∷ []) = true
is_void _ = false

-- a name that is a type
abbrev pub is_type_name : Option (List ℕ) → Scope → Bool
is_type_name None scope = false
is_type_name (Some name) scope = is_type scope.names name

-- the rules beside the grammar: a name in an expression is no type, and a typedef name is one; specs are the words of
-- one type; a declaration of typedef names has no initializers (C99 6.7.7); the parameter list `(void)` has no
-- parameter (C99 6.7.5.3)
unfoldable pub obeys : Form → Trees → Scope → Bool
obeys f.Name parts scope = not (is_type_name (name_among parts) scope)
obeys f.TypedefName parts scope = is_type_name (name_among parts) scope
obeys f.Specs parts scope = are_specs (tally parts)
obeys f.MaybeInit parts scope = not scope.typedef || is_none parts
obeys f.FunctionSuffix parts scope = not (is_void (words_of parts))
obeys _ parts scope = true

-- a place of an expression of at most this level
abbrev pub IsExpression : ℕ → Place → Type 0
IsExpression most (Expression level) = level ≤ most
IsExpression most _ = ⊥

-- a place of a declarator, whatever its first layer is
abbrev pub IsDeclarator : Place → Type 0
IsDeclarator p.PointerLayer = ⊤
IsDeclarator p.AnyDeclarator = ⊤
IsDeclarator _ = ⊥

-- a place of what suffixes stand behind: a name, nothing, or parentheses
abbrev pub IsBase : Place → Type 0
IsBase p.Base = ⊤
IsBase p.Name = ⊤
IsBase _ = ⊥

-- a place of what stands in a block
abbrev pub IsItem : Place → Type 0
IsItem p.Item = ⊤
IsItem p.Statement = ⊤
IsItem _ = ⊥

-- a tree may stand at a place, by its form
unfoldable pub Takes : Place → Tree → Type 0
Takes (Expression level) tree = IsExpression level (home tree)
Takes p.PlainSpecs tree = (home tree ≡ p.Specs) × (storage_of tree ≡ 0)
Takes p.SomeNames tree = (home tree ≡ p.Names) × (has_parts tree ≡ true)
Takes p.AnyDeclarator tree = IsDeclarator (home tree)
Takes p.Declarator tree = IsDeclarator (home tree) × IsSome (name_of tree)
Takes p.Abstract tree = IsDeclarator (home tree) × (name_of tree ≡ None)
Takes p.Base tree = IsBase (home tree)
Takes p.Item tree = IsItem (home tree)
Takes p.Branch tree = home tree ≡ p.Statement
Takes p.ClosedBranch tree = (home tree ≡ p.Statement) × (ends_open tree ≡ false)
Takes place tree = home tree ≡ place

unfoldable mutual
  -- a tree is allowed in a scope: its node obeys the rules, and its parts are those of its form
  pub Allowed : Tree → Scope → Type 0
  Allowed (Leaf word) scope = ⊤
  Allowed (At line) scope = ⊤
  Allowed (Node form parts) scope =
      (obeys form parts scope ≡ true) × AllAllowed parts (places (shape form (count parts))) scope

  -- parts are allowed at these places in turn, each in the scope behind those before it
  pub AllAllowed : Trees → List Place → Scope → Type 0
  AllAllowed none [] scope = ⊤
  AllAllowed none (place ∷ ps) scope = ⊥
  AllAllowed (tree ▹ rest) [] scope = ⊥
  AllAllowed (tree ▹ rest) (place ∷ ps) scope =
      Takes place tree × Allowed tree scope × AllAllowed rest ps (if is_scope place then scope else after tree scope)

-- a definition of a function: no typedef, a parameter list next to the name, and a body that is allowed where the
-- parameters are declared (C99 6.9.1)
pub record IsDefinition (line specs declared body : Tree) (scope : Scope) : Type 0 where
  pub front : AllAllowed (line ▹ specs ▹ declared ▹ none) (p.Line ∷ p.Specs ∷ p.Declared ∷ []) scope
  pub plain : (after specs scope).typedef ≡ false
  pub function : IsSome (params_of declared)
  pub stands : Takes p.Body body
  pub inside : Allowed body (with_params (params_of declared) (after declared (after specs scope)))

-- an external declaration is allowed in a scope
unfoldable pub IsExternal : Tree → Scope → Type 0
IsExternal (Node f.Function (line ▹ specs ▹ declared ▹ body ▹ none)) scope = IsDefinition line specs declared body scope
IsExternal (Node f.Declaration parts) scope = Allowed (Node f.Declaration parts) scope
IsExternal _ scope = ⊥

-- external declarations are allowed in turn
unfoldable pub AreExternals : Trees → Scope → Type 0
AreExternals none scope = ⊤
AreExternals (tree ▹ rest) scope = IsExternal tree scope × AreExternals rest (after tree scope)
