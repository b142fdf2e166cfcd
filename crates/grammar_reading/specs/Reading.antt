-- Reading from left to right: the words and parts of a form in turn, lists with commas, lists up to a sign.
use Rattle.std.specs.Prelude.{ℕ, zero, suc, Bool, true, false, ◌&&◌, not, nat_lt, if◌then◌else◌, List, [], ◌∷◌, drop, Option, Some, None}
use Rattle.c_tree.specs.declared.word.Sign.TheVariants as s
use Rattle.c_tree.specs.Depth.{depth}
use Rattle.c_tree.specs.Forms.{Form}
use Rattle.c_tree.specs.Grammar.{Item, Says, Here, Part, shape, closed}
use Rattle.c_tree.specs.Places.{Place}
use Rattle.c_tree.specs.Tree.{Tree, Trees, Leaf, At, Node, none, ◌▹◌}
use Rattle.grammar_reading.specs.State.{State, word_at, line_at, at_mark, skip, past, back_to, with_flag}

infixl 10 ◌>>=◌
abbrev pub ◌>>=◌ : {A B : Type 0} → Option A → (A → Option B) → Option B
(Some x) >>= f = f x
None >>= f = None

-- what was read, and where the reader stands behind it
abbrev pub Reader : Type 0
Reader = State → Option (Tree × State)

abbrev pub PartsReader : Type 0
PartsReader = State → Option (Trees × State)

-- no tree is read
abbrev pub nothing_read : Reader
nothing_read state = None

-- where there is room for a node more
abbrev pub guarded : ℕ → Reader → Reader
guarded zero read state = None
guarded (suc room) read state = read state

-- one part in front
abbrev pub in_front : Tree → Option (Trees × State) → Option (Trees × State)
in_front tree None = None
in_front tree (Some x) = Some (tree ▹ x.0, x.1)

-- a node of these parts
abbrev pub node : Form → Option (Trees × State) → Option (Tree × State)
node made None = None
node made (Some x) = Some (Node made x.0, x.1)

-- one part behind
abbrev pub snoc : Trees → Tree → Trees
snoc none tree = tree ▹ none
snoc (first ▹ rest) tree = first ▹ snoc rest tree

-- parts behind parts
abbrev pub joined : Trees → Trees → Trees
joined none parts = parts
joined (first ▹ rest) parts = first ▹ joined rest parts

-- the words and parts of a form in turn; a reader for each place of a part is given
abbrev pub parts_of : (Place → Reader) → List Item → PartsReader
parts_of part [] state = Some (none, state)
parts_of part (Says word ∷ items) state = past word state >>= (λ next. parts_of part items next)
parts_of part (Here ∷ items) state = in_front (At (line_at state)) (parts_of part items state)
parts_of part (Part place ∷ items) state = part place state >>= (λ x. in_front x.0 (parts_of part items x.1))

-- a node of a form that has the same parts always
abbrev pub fixed : (Place → Reader) → Form → Reader
fixed part form state = node form (parts_of part (shape form zero) state)

-- a node of a form with at most one part: with it, or without
abbrev pub optional_part : (Place → Reader) → Form → Bool → Reader
optional_part part form true state = node form (parts_of part (shape form (suc zero)) state)
optional_part part form false state = Some (Node form none, state)

-- the token as a part
abbrev pub leaf : Reader
leaf state = Some (Leaf (word_at state), skip state)

-- a node of one token
abbrev pub token_node : Form → Reader
token_node form state = Some (Node form (At (line_at state) ▹ Leaf (word_at state) ▹ none), skip state)

-- the names that are declared inside hold no longer behind
abbrev pub scoped : Reader → Reader
scoped read state = read state >>= (λ x. Some (x.0, back_to state x.1))

-- behind a declaration its `typedef` counts no longer
abbrev pub unflagged : Reader → Reader
unflagged read state = read state >>= (λ x. Some (x.0, with_flag state.scope.typedef x.1))

-- a node that grows to the right of what was read, where there is room; it begins at the line of what was read
abbrev pub grown : ℕ → (Place → Reader) → Form → ℕ → Tree → Reader
grown room part form line left state =
    if nat_lt (depth left) room
    then node form (in_front (At line) (in_front left (parts_of part (drop 2 (shape form zero)) state)))
    else None

-- a list goes on behind a comma
abbrev pub goes_on : State → Bool
goes_on state = at_mark s.Comma state

-- the same, where a comma may stand before the closing brace
abbrev pub goes_on_inside : State → Bool
goes_on_inside state = at_mark s.Comma state && not (at_mark s.RightBrace (skip state))

-- the rest of a list with commas, behind one of its trees; it has at most so many more
module _ (item : Reader) (more : State → Bool) (form : Form) where
  abbrev pub commas_by : (Trees → Reader) → Trees → Bool → Reader
  commas_by again parts true state = again parts (skip state)
  commas_by again parts false state = Some (Node form parts, state)

  abbrev pub commas_from : ℕ → Trees → Reader
  commas_from zero parts state = None
  commas_from (suc turns) parts state =
      item state >>= (λ x. commas_by (commas_from turns) (snoc parts x.0) (more x.1) x.1)

-- a list of trees that ends before a sign
module _ (item : Reader) (stops : State → Bool) (form : Form) where
  abbrev pub list_by : (Trees → Reader) → Trees → Bool → Reader
  list_by again parts true state = Some (Node form parts, state)
  list_by again parts false state = item state >>= (λ x. again (snoc parts x.0) x.1)

  abbrev pub list_from : ℕ → Trees → Reader
  list_from zero parts state = None
  list_from (suc turns) parts state = list_by (list_from turns) parts (stops state) state

-- a node that ends with `}`, behind a comma or not
abbrev pub ending_by : (Bool → Form) → Trees → Bool → Reader
ending_by form parts trailing state =
    parts_of (λ place. nothing_read) (closed trailing) state >>= (λ x. Some (Node (form trailing) parts, x.1))

abbrev pub ending : (Bool → Form) → Option (Trees × State) → Option (Tree × State)
ending form None = None
ending form (Some x) = ending_by form x.0 (at_mark s.Comma x.1) x.1
