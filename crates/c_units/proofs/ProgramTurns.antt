-- Units that are added in turn, and the external declarations that are left of them.
use Rattle.c_units.proofs.Words.Std.{Bool, Err, List, None, Ok, Option, Result, Some, [], ap, append-nil, append_assoc, ap₂, arith, drop, false, filter-append, get_or, if◌then◌else◌, length, length-append, map, map-append, not, option_to_list, refl, reverse, reverse-append, sym, true, ℕ, ◌&&◌, ◌++◌, ◌+◌, ◌<◌, ◌∙◌, ◌∷◌, ◌≡◌, ◌≢◌, ◌≤◌}
use Rattle.c_units.proofs.Words.Trees.{Decl, Trees, decl_view, none, trees, unit_view, ◌▹◌}
use Rattle.c_units.proofs.Words.Units.{Adds, Conflict, IsConflict, Mention, MergeError, Merges, Program, Said, Taken, all_noted, first_taken, followed, is_again, is_among, is_plain, is_taken, joined, kept, mentions_of, merged, no_program, said_view, spelling, spellings_of, trees_of, unit_said, unless, with_mentions, with_unit, with_units}
use Rattle.c_tree.specs.declared.statement.Unit.{Unit as Code}
use Rattle.c_units.specs.declared.said.Said.{Said as Kept}
use Rattle.c_units.specs.declared.error.MergeError.TheVariants as e
use Rattle.c_units.proofs.Steps.{drop_next, drop_end}
use Rattle.c_units.proofs.ItemTurns.{joined_more, joined_none}

spellings_append : (xs ys : List Said) → spellings_of (xs ++ ys) ≡ spellings_of xs ++ spellings_of ys
spellings_append [] ys = refl
spellings_append (x ∷ xs) ys = by (is_plain x.tree) (spellings_append xs ys)
  where
    by : (plain : Bool) → spellings_of (xs ++ ys) ≡ spellings_of xs ++ spellings_of ys →
        (if plain then spelling x.tree ∷ spellings_of (xs ++ ys) else spellings_of (xs ++ ys)) ≡
        (if plain then spelling x.tree ∷ spellings_of xs else spellings_of xs) ++ spellings_of ys
    by true h = ap (λ (l : List (List ℕ)). spelling x.tree ∷ l) h
    by false h = h

-- the declarations so far, with one more
pub kept_next : (spellings : List (List ℕ)) (seen : List Kept) (one : Kept) →
    kept spellings (map said_view (seen ++ one ∷ [])) ≡ kept spellings (map said_view seen) ++ kept spellings (said_view one ∷ [])
kept_next spellings seen one =
    ap (kept spellings) (map-append said_view seen (one ∷ [])) ∙ filter-append (λ said. not (is_again spellings said)) (map said_view seen) (said_view one ∷ [])

pub spellings_next : (seen : List Kept) (one : Kept) →
    spellings_of (map said_view (seen ++ one ∷ [])) ≡ spellings_of (map said_view seen) ++ spellings_of (said_view one ∷ [])
spellings_next seen one = ap spellings_of (map-append said_view seen (one ∷ [])) ∙ spellings_append (map said_view seen) (said_view one ∷ [])

-- one with a body or an initializer is left; one without is left where no earlier unit has it
module _ (spellings : List (List ℕ)) (said : Said) where
  pub whole_kept : is_plain said.tree ≡ false → kept spellings (said ∷ []) ≡ said ∷ []
  whole_kept h = ap (λ (b : Bool). if not (b && is_among spellings (spelling said.tree)) then said ∷ [] else []) h

  pub new_kept : is_plain said.tree ≡ true → is_among spellings (spelling said.tree) ≡ false → kept spellings (said ∷ []) ≡ said ∷ []
  new_kept h g = ap₂ (λ (b c : Bool). if not (b && c) then said ∷ [] else []) h g

  pub again_kept : is_plain said.tree ≡ true → is_among spellings (spelling said.tree) ≡ true → kept spellings (said ∷ []) ≡ []
  again_kept h g = ap₂ (λ (b c : Bool). if not (b && c) then said ∷ [] else []) h g

pub whole_spelled : (said : Said) → is_plain said.tree ≡ false → spellings_of (said ∷ []) ≡ []
whole_spelled said h = ap (λ (b : Bool). if b then spelling said.tree ∷ [] else []) h

-- the first of two mentions
abbrev first_of : Option Mention → Option Mention → Option Mention
first_of None other = other
first_of (Some mention) other = Some mention

first_append : (t : Taken) (xs ys : List Mention) → first_taken t (xs ++ ys) ≡ first_of (first_taken t xs) (first_taken t ys)
first_append t [] ys = refl
first_append t (x ∷ xs) ys = by (is_taken t x.role x.name) (first_append t xs ys)
  where
    by : (found : Bool) → first_taken t (xs ++ ys) ≡ first_of (first_taken t xs) (first_taken t ys) →
        (if found then Some x else first_taken t (xs ++ ys)) ≡ first_of (if found then Some x else first_taken t xs) (first_taken t ys)
    by true h = refl
    by false h = h

module _ (t : Taken) (xs : List Kept) (i : ℕ) (x : Kept) where
  at_one : i < length xs → x ≡ get_or xs i x →
      first_taken t (mentions_of (map said_view (drop i xs))) ≡
      first_of (first_taken t x.mentions.items) (first_taken t (mentions_of (map said_view (drop (i + 1) xs))))
  at_one h is =
      ap (λ (l : List Kept). first_taken t (mentions_of (map said_view l))) (drop_next xs i x h is)
      ∙ first_append t x.mentions.items (mentions_of (map said_view (drop (i + 1) xs)))

  pub free_next : i < length xs → x ≡ get_or xs i x → first_taken t x.mentions.items ≡ None →
      first_taken t (mentions_of (map said_view (drop (i + 1) xs))) ≡ first_taken t (mentions_of (map said_view (drop i xs)))
  free_next h is free =
      sym (at_one h is ∙ ap (λ (m : Option Mention). first_of m (first_taken t (mentions_of (map said_view (drop (i + 1) xs))))) free)

  pub taken_here : (mention : Mention) → i < length xs → x ≡ get_or xs i x → first_taken t x.mentions.items ≡ Some mention →
      first_taken t (mentions_of (map said_view (drop i xs))) ≡ Some mention
  taken_here mention h is found =
      at_one h is ∙ ap (λ (m : Option Mention). first_of m (first_taken t (mentions_of (map said_view (drop (i + 1) xs))))) found

pub free_end : (t : Taken) (xs : List Kept) (i : ℕ) → length xs ≤ i → first_taken t (mentions_of (map said_view (drop i xs))) ≡ None
free_end t xs i h = ap (λ (l : List Kept). first_taken t (mentions_of (map said_view l))) (drop_end xs i h)

mentions_append : (xs : List Said) (y : Said) → mentions_of (xs ++ y ∷ []) ≡ mentions_of xs ++ y.mentions
mentions_append [] y = append-nil y.mentions
mentions_append (x ∷ xs) y =
    ap (λ (l : List Mention). x.mentions ++ l) (mentions_append xs y) ∙ sym (append_assoc x.mentions (mentions_of xs) y.mentions)

trees_append : (base : Trees) (xs : List Said) (y : Said) → joined base (trees_of (xs ++ y ∷ [])) ≡ joined (joined base (trees_of xs)) (y.tree ▹ none)
trees_append base [] y = ap (λ (ts : Trees). joined ts (y.tree ▹ none)) (sym (joined_none base))
trees_append none (x ∷ xs) y = ap (λ (ts : Trees). x.tree ▹ ts) (trees_append none xs y)
trees_append (tree ▹ base) (x ∷ xs) y = ap (λ (ts : Trees). tree ▹ ts) (trees_append base (x ∷ xs) y)

pub mentions_next : (seen : List Kept) (one : Kept) → mentions_of (map said_view (seen ++ one ∷ [])) ≡ mentions_of (map said_view seen) ++ one.mentions.items
mentions_next seen one =
    ap mentions_of (map-append said_view seen (one ∷ [])) ∙ mentions_append (map said_view seen) (said_view one)

pub trees_next : (base : Trees) (decls : List Decl) (seen : List Kept) (one : Kept) →
    trees decl_view decls ≡ joined base (trees_of (map said_view seen)) →
    trees decl_view (decls ++ one.decl ∷ []) ≡ joined base (trees_of (map said_view (seen ++ one ∷ [])))
trees_next base decls seen one h =
    sym (joined_none (trees decl_view (decls ++ one.decl ∷ [])))
    ∙ joined_more decl_view decls one.decl none
    ∙ ap (λ (ts : Trees). joined ts (decl_view one.decl ▹ none)) h
    ∙ sym (ap (λ (l : List Said). joined base (trees_of l)) (map-append said_view seen (one ∷ [])) ∙ trees_append base (map said_view seen) (said_view one))

pub trees_start : (base : Trees) → joined base (trees_of []) ≡ base
trees_start base = joined_none base

-- a unit more
module _ (number : ℕ) (unit : Trees) (before : Program) (left : List Said) where
  abbrev next : Program
  next = record {
    trees = joined before.trees (trees_of left);
    spellings = all_noted before.spellings (spellings_of (unit_said number unit));
    taken = with_mentions (mentions_of left) before.taken;
  }

  at_left : left ≡ kept before.spellings (unit_said number unit) → with_unit number unit before ≡ unless (first_taken before.taken (mentions_of left)) next
  at_left is =
      ap (λ (l : List Said). unless (first_taken before.taken (mentions_of l))
      (record next { trees = joined before.trees (trees_of l); taken = with_mentions (mentions_of l) before.taken })) (sym is)

  pub added : left ≡ kept before.spellings (unit_said number unit) → first_taken before.taken (mentions_of left) ≡ None →
      with_unit number unit before ≡ Ok (record {
        trees = joined before.trees (trees_of left);
        spellings = all_noted before.spellings (spellings_of (unit_said number unit));
        taken = with_mentions (mentions_of left) before.taken;
      })
  added is free = at_left is ∙ ap (λ (m : Option Mention). unless m next) free

  stopped : (mention : Mention) → left ≡ kept before.spellings (unit_said number unit) → first_taken before.taken (mentions_of left) ≡ Some mention →
      with_unit number unit before ≡ Err (record { name = mention.name; line = mention.line })
  stopped mention is found = at_left is ∙ ap (λ (m : Option Mention). unless m next) found

  pub refused : (mention : Mention) (new : Program) (error : MergeError) → left ≡ kept before.spellings (unit_said number unit) →
      first_taken before.taken (mentions_of left) ≡ Some mention → IsConflict mention error →
      Adds {U = Unit {0}} (with_unit number unit before) new (Err error)
  refused mention new (e.Conflict name line) is found same =
      stopped mention is found
      ∙ ap₂ (λ (n : List ℕ) (l : ℕ). Err (record { name = n; line = l })) (sym same.0) (sym same.1)
  refused mention new e.NoMemory is found same = tt

pub several_merged : (xs : List Code) → length xs ≢ 1 → merged (map unit_view xs) ≡ with_units 1 (map unit_view xs) no_program
several_merged [] h = refl
several_merged (x ∷ []) h = absurd (h refl)
several_merged (x ∷ y ∷ xs) h = refl

-- the units that are left lie the other way round: the last is the next
module _ (xs left : List Code) (number : ℕ) (popped : Option Code) (x : Code) (before : Program)
    (is : xs ≡ left ++ option_to_list popped) (found : popped ≡ Some x) where
  at_unit : with_units number (map unit_view (reverse xs)) before ≡
      followed (with_unit number (unit_view x) before) (λ next. with_units (number + 1) (map unit_view (reverse left)) next)
  at_unit =
      ap (λ (l : List Code). with_units number (map unit_view (reverse l)) before) (is ∙ ap (λ (p : Option Code). left ++ option_to_list p) found)
      ∙ ap (λ (l : List Code). with_units number (map unit_view l) before) (reverse-append left (x ∷ []))

  pub unit_next : (new : Program) → with_unit number (unit_view x) before ≡ Ok new →
      with_units (number + 1) (map unit_view (reverse left)) new ≡ with_units number (map unit_view (reverse xs)) before
  unit_next new one =
      sym (at_unit ∙ ap (λ (r : Result Program Conflict). followed r (λ next. with_units (number + 1) (map unit_view (reverse left)) next)) one)

  unit_stops : (conflict : Conflict) → with_unit number (unit_view x) before ≡ Err conflict →
      with_units number (map unit_view (reverse xs)) before ≡ Err conflict
  unit_stops conflict one =
      at_unit ∙ ap (λ (r : Result Program Conflict). followed r (λ next. with_units (number + 1) (map unit_view (reverse left)) next)) one

  pub unit_counts : length xs ≡ length left + 1
  unit_counts = ap length (is ∙ ap (λ (p : Option Code). left ++ option_to_list p) found) ∙ length-append left (x ∷ [])

  pub merge_refused : (all : List Code) (new : Program) (error : MergeError) → length all ≢ 1 →
      with_units number (map unit_view (reverse xs)) before ≡ with_units 1 (map unit_view all) no_program →
      Adds {U = Unit {0}} (with_unit number (unit_view x) before) new (Err error) → Merges (map unit_view all) (Err error)
  merge_refused all new (e.Conflict name line) several whole refused =
      several_merged all several ∙ sym whole ∙ unit_stops (record { name = name; line = line }) refused
  merge_refused all new e.NoMemory several whole refused = tt

pub unit_end : (xs left : List Code) (number : ℕ) (popped : Option Code) (before : Program) → xs ≡ left ++ option_to_list popped → popped ≡ None →
    length left ≡ 0 → with_units number (map unit_view (reverse xs)) before ≡ Ok before.trees
unit_end xs [] number popped before is gone empty =
    ap (λ (l : List Code). with_units number (map unit_view (reverse l)) before) (is ∙ ap (λ (p : Option Code). [] ++ option_to_list p) gone)
unit_end xs (one ∷ left) number popped before is gone empty = cc

-- one that leaves the list
pub one_popped : (xs left : List Code) (popped : Option Code) (x : Code) → length xs ≡ 1 → xs ≡ left ++ option_to_list popped → popped ≡ Some x →
    merged (map unit_view xs) ≡ Ok (unit_view x)
one_popped xs left popped x one is found = by left (is ∙ ap (λ (p : Option Code). left ++ option_to_list p) found)
  where
    by : (left : List Code) → xs ≡ left ++ x ∷ [] → merged (map unit_view xs) ≡ Ok (unit_view x)
    by [] h = ap (λ (l : List Code). merged (map unit_view l)) h
    by (first ∷ rest) h = absurd (omega (arith, one, ap length h, length-append rest (x ∷ [])))

pub plain_spelled : (said : Said) → is_plain said.tree ≡ true → spellings_of (said ∷ []) ≡ spelling said.tree ∷ []
plain_spelled said h = ap (λ (b : Bool). if b then spelling said.tree ∷ [] else []) h
