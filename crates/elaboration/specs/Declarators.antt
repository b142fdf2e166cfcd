-- Specs, tags with braces, and the layers of declarators (C99 6.7.2, 6.7.5), outside expressions.
use Rattle.std.specs.Prelude.{ℕ, ℤ, pos, ◌+ℤ◌, Bool, false, ◌||◌, bytes_eq, length, reverse, is_some, List, [], ◌∷◌, ◌++◌, Option, Some, None, Result, Ok, Err}
use Rattle.std.specs.List.{list_any}
use Rattle.hs_base.specs.declared.ends.IntKind.TheVariants.{I32}
use Rattle.hs_base.specs.Numbers.{wrapped}
use Rattle.c_types.specs.declared.types.IntType.TheVariants as i
use Rattle.c_types.specs.declared.tags.TagError.{TagError}
use Rattle.c_types.specs.declared.tags.TagError.TheVariants as tag
use Rattle.c_types.specs.Types as types
use Rattle.c_types.specs.Types.{PlainType, PlainTypes, Void, Int, Struct, Union, first}
use Rattle.c_types.specs.TagTable.{TagTable, with_tag, completion, known}
use Rattle.c_tree.specs.declared.operator.RecordSort.{RecordSort}
use Rattle.c_tree.specs.declared.operator.RecordSort.TheVariants as r
use Rattle.c_tree.specs.Words as w
use Rattle.c_tree.specs.Forms as f
use Rattle.c_tree.specs.Tree.{Tree, Trees, Leaf, At, Node, none, ◌▹◌}
use Rattle.c_tree.specs.Scopes.{name_of}
use Rattle.c_decls.specs.declared.constant.Constant.{Constant}
use Rattle.c_decls.specs.declared.refusal.TypeKind.{TypeKind}
use Rattle.c_decls.specs.declared.refusal.TypeKind.TheVariants.{Operands, DeclaredTwice, Incomplete, PointerInUnion, TypeTooLarge, LeftOut}
use Rattle.c_decls.specs.Named as n
use Rattle.c_decls.specs.Named.{PlainNamed}
use Rattle.c_decls.specs.ScopeList.{named_in, innermost, first_or, with_name, tag_name}
use Rattle.c_decls.specs.Refusals.{Checked, refused, then, unless}
use Rattle.c_decls.specs.Typed.{is_void, is_record, is_function, has_no_size}
use Rattle.c_decls.specs.TypeNames as names
use Rattle.c_decls.specs.TypeNames.{Layer, PointerTo, ArrayOf, FunctionOf, word_type, record_type, is_union, with_new_tag, special_type, array_length, with_layers, with_param_layers, adjusted}
use Rattle.c_decls.specs.Expressions.{line_of, typed, wanted, constant_from}
use Rattle.elaboration.specs.Context.{Context, With, asked, told, entered, left}
use Rattle.elaboration.specs.Locals.{declared_as, with_param}

-- an expression that must be constant; it is gone through whole first
abbrev pub constant : Tree → Context → With Constant
constant e c =
    then (wanted e (typed e (asked c))) (λ d. then (constant_from (line_of e) d.1.type d.1.folded) (λ k. Ok (told d.0 c, k)))

-- tags

abbrev pub with_type : Checked (names.Context × PlainType) → Context → With PlainType
with_type answer c = then answer (λ d. Ok (told d.0 c, d.1))

-- the name that a tag with braces may have
abbrev pub maybe_name : Trees → Option (List ℕ)
maybe_name (Leaf (w.Name name) ▹ none) = Some name
maybe_name parts = None

-- a struct or union without a name
abbrev pub unnamed : RecordSort → Context → Context × PlainType
unnamed sort c = (record c { tags = with_tag c.tags (is_union sort) [] }, record_type sort (length c.tags.made))

abbrev pub newly_named : RecordSort → List ℕ → Context → Context × PlainType
newly_named sort name c = let d = with_new_tag sort name (asked c) in (told d.0 c, d.1)

-- a struct or union with braces begins: a name that its scope does not have is declared; one that it has stands for what it
-- was declared as (C99 6.7.2.3)
abbrev pub begun_as : RecordSort → List ℕ → Option PlainNamed → Context → Context × PlainType
begun_as sort name (Some (n.Tag type)) c = (c, type)
begun_as sort name other c = newly_named sort name c

abbrev pub begun : RecordSort → Option (List ℕ) → Context → Context × PlainType
begun sort None c = unnamed sort c
begun sort (Some name) c = begun_as sort name (named_in (tag_name name) (innermost c.scopes)) c

-- members in order: names with types
abbrev pub Members : Type 0
Members = List (List ℕ × PlainType)

abbrev pub tag_refusal : TagError → TypeKind
tag_refusal tag.PointerInUnion = PointerInUnion
tag_refusal tag.TooLarge = TypeTooLarge
tag_refusal tag.NoMemory = TypeTooLarge

abbrev pub completed_by : ℕ → Context → PlainType → Result TagTable TagError → With PlainType
completed_by line c type (Ok tags) = Ok (record c { tags = tags }, type)
completed_by line c type (Err error) = refused (tag_refusal error) line

-- a tag of that number gets its members, unless it has some already
abbrev pub complete : ℕ → ℕ → PlainType → Context → Members → With PlainType
complete line number type c members =
    unless (is_some (known c.tags.completed number)) DeclaredTwice line
    (completed_by line c type (completion c.tags number members))

-- a struct or union ends; its name may stand for another sort of tag
abbrev pub ended : ℕ → RecordSort → PlainType → Context → Members → With PlainType
ended line r.Struct (Struct number) c members = complete line number (Struct number) c members
ended line r.Union (Union number) c members = complete line number (Union number) c members
ended line sort type c members = refused DeclaredTwice line

-- a member of a type: no function, and of a known size; its name is not there yet (C99 6.7.2.1)
abbrev pub has_member : List ℕ → Members → Bool
has_member name members = list_any (λ m. bytes_eq m.0 name) members

abbrev pub with_member : ℕ → Option (List ℕ) → PlainType → Members → Checked Members
with_member line None type members = Ok members
with_member line (Some name) type members =
    unless (has_member name members) DeclaredTwice line (Ok (members ++ (name, type) ∷ []))

abbrev pub member : ℕ → Option (List ℕ) → PlainType → Members → Context → With Members
member line name type members c =
    unless (is_function type) LeftOut line
    (unless (has_no_size c.tags type) Incomplete line
    (then (with_member line name type members) (λ more. Ok (c, more))))

-- an enumerator: a constant of type int, declared behind its value (C99 6.7.2.2)
abbrev pub enumerator : ℕ → List ℕ → ℤ → Context → With ℤ
enumerator line name value c =
    let held = wrapped I32 value in
    then (declared_as line name (n.Constant i.Int held) c) (λ d. Ok (d, held +ℤ pos 1))

abbrev pub enum_named : ℕ → Option (List ℕ) → Context → With PlainType
enum_named line None c = Ok (c, Int i.Int)
enum_named line (Some name) c =
    unless (is_some (named_in (tag_name name) (innermost c.scopes))) DeclaredTwice line
    (Ok (record c { scopes = with_name c.scopes (tag_name name) (n.Tag (Int i.Int)) }, Int i.Int))

-- parameters

-- a parameter of a type: not void, and no struct, union or function; its name is not there yet (C99 6.7.5.3)
abbrev pub is_declared : Option (List ℕ) → Context → Bool
is_declared None c = false
is_declared (Some name) c = is_some (named_in name (innermost c.scopes))

abbrev pub param : ℕ → Option (List ℕ) → PlainType → Context → With PlainType
param line name type c =
    unless (is_void type) Incomplete line
    (unless (is_record type || is_function type) LeftOut line
    (unless (is_declared name c) DeclaredTwice line (Ok (with_param name type c, type))))

-- a parameter list ends: its scope is kept for the body that may follow
abbrev pub left_params : Context → Context
left_params c = left (record c { params = first_or [] c.scopes.inner })

unfoldable mutual
  -- the type of specs
  pub specs : Tree → Context → With PlainType
  specs (Node f.Specs (At line ▹ words)) c = words_type line words words c
  specs tree c = refused Operands (line_of tree)

  -- a word that is a node is the only one that says the type
  pub words_type : ℕ → Trees → Trees → Context → With PlainType
  words_type line words none c = Ok (c, word_type words)
  words_type line words (Leaf word ▹ rest) c = words_type line words rest c
  words_type line words (At at ▹ rest) c = words_type line words rest c
  words_type line words (Node form parts ▹ rest) c = tag_type line (Node form parts) c

  -- a tag, with braces or without, or the name of a type
  pub tag_type : ℕ → Tree → Context → With PlainType
  tag_type line (Node (f.RecordBody sort) (At at ▹ Node f.MaybeName name ▹ Node f.Members parts ▹ none)) c =
      let start = begun sort (maybe_name name) c in
      then (members parts [] start.0) (λ m. ended at sort start.1 m.0 m.1)
  tag_type line (Node (f.EnumBody trailing) (At at ▹ Node f.MaybeName name ▹ Node f.Enumerators parts ▹ none)) c =
      then (enumerators parts (pos 0) c) (λ e. enum_named at (maybe_name name) e)
  tag_type line tree c = with_type (special_type line tree (asked c)) c

  -- the members in braces
  pub members : Trees → Members → Context → With Members
  members none list c = Ok (c, list)
  members (Node f.Member (At line ▹ words ▹ Node f.MemberNames declarators ▹ none) ▹ rest) list c =
      then (specs words c) (λ base. then (member_names line base.1 declarators list base.0) (λ m. members rest m.1 m.0))
  members (tree ▹ rest) list c = refused Operands (line_of tree)

  pub member_names : ℕ → PlainType → Trees → Members → Context → With Members
  member_names line base none list c = Ok (c, list)
  member_names line base (declarator ▹ rest) list c =
      then (layers declarator c) (λ l. then (with_layers l.0.tags l.1 base) (λ type. then (member line (name_of declarator) type list l.0) (λ m. member_names line base rest m.1 m.0)))

  -- the enumerators in braces; each without a value is one more than the one before it
  pub enumerators : Trees → ℤ → Context → Checked Context
  enumerators none next c = Ok c
  enumerators (Node f.Enumerator (At line ▹ Leaf (w.Name name) ▹ Node f.MaybeValue none ▹ none) ▹ rest) next c =
      then (enumerator line name next c) (λ e. enumerators rest e.1 e.0)
  enumerators (Node f.Enumerator (At line ▹ Leaf (w.Name name) ▹ Node f.MaybeValue (value ▹ none) ▹ none) ▹ rest) next c =
      then (constant value c) (λ k. then (enumerator line name k.1.value k.0) (λ e. enumerators rest e.1 e.0))
  enumerators (tree ▹ rest) next c = refused Operands (line_of tree)

  -- the layers of a declarator, from the specs towards the name; what stands in its suffixes comes in the order of the text
  pub layers : Tree → Context → With (List Layer)
  layers (Node (f.Pointer consts) (At line ▹ declarator ▹ none)) c =
      then (layers declarator c) (λ l. Ok (l.0, PointerTo line ∷ l.1))
  layers (Node f.Direct (base ▹ Node f.Suffixes suffixes ▹ none)) c =
      then (layers base c) (λ l. then (suffix_layers suffixes l.0) (λ s. Ok (s.0, reverse s.1 ++ l.1)))
  layers (Node f.Parens (At line ▹ declarator ▹ none)) c = layers declarator c
  layers tree c = Ok (c, [])

  pub suffix_layers : Trees → Context → With (List Layer)
  suffix_layers none c = Ok (c, [])
  suffix_layers (suffix ▹ rest) c =
      then (suffix_layer suffix c) (λ l. then (suffix_layers rest l.0) (λ more. Ok (more.0, l.1 ∷ more.1)))

  pub suffix_layer : Tree → Context → With Layer
  suffix_layer (Node f.ArraySuffix (At line ▹ Node f.MaybeLength none ▹ none)) c = Ok (c, ArrayOf line None)
  suffix_layer (Node f.ArraySuffix (At line ▹ Node f.MaybeLength (e ▹ none) ▹ none)) c =
      then (wanted e (typed e (asked c))) (λ d. then (array_length (line_of e) d.1) (λ length. Ok (told d.0 c, ArrayOf line (Some length))))
  suffix_layer (Node f.FunctionSuffix (At line ▹ Node f.Params parts ▹ none)) c =
      then (params parts (entered c)) (λ p. Ok (left_params p.0, FunctionOf line p.1))
  suffix_layer tree c = Ok (record c { params = [] }, FunctionOf (line_of tree) types.none)

  -- the types of parameters, each declared behind those before it
  pub params : Trees → Context → With PlainTypes
  params none c = Ok (c, types.none)
  params (Node f.Param (At line ▹ words ▹ declarator ▹ none) ▹ rest) c =
      then (specs words c) (λ base. then (layers declarator base.0) (λ l. then (with_param_layers l.0.tags l.1 base.1) (λ type. then (param line (name_of declarator) (adjusted type) l.0) (λ p. then (params rest p.0) (λ more. Ok (more.0, first p.1 more.1))))))
  params (tree ▹ rest) c = refused Operands (line_of tree)
