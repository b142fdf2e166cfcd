-- One step of what is read by recursion on a number that the code counts down.
use Rattle.std.proofs.Common.{◌≡◌, ℕ, zero, suc, ◌-◌, ◌<◌, nat_le, if◌then◌else◌, None, Bool, refl, arith, ◌∙◌}
use Rattle.c_tree.specs.Forms.{Form}
use Rattle.c_tree.specs.Places.{Place}
use Rattle.c_tree.specs.Tree.{Tree, Trees}
use Rattle.grammar_reading.specs.State.{State, kind_at, at_mark}
use Rattle.grammar_reading.specs.Reading.{◌>>=◌, Reader, snoc, guarded, commas_by, commas_from, list_by, list_from}
use Rattle.grammar_reading.specs.Expressions.{of_mark, postfix_op, binary_op, at_level, postfix_from, postfix_by, binary_from, binary_by, binary_at, comma_at, comma_from, comma_by, loose_at, expression_at, strings_from, strings_by}
use Rattle.grammar_reading.specs.Rooms.{less, read_at}
use Rattle.grammar_reading.specs.Declarators.{specs_from, specs_by, spec_at, suffixes_from, suffixes_by, declarator_at}
use Rattle.c_parser.specs.Sorts.{sort_place}
use Rattle.c_parser.specs.declared.kind.NameSort.{NameSort}
use Rattle.c_parser.specs.declared.kind.NameSort.TheVariants as sorts
use Rattle.c_tree.specs.Allowed.{Tally}
use Rattle.c_tree.specs.declared.word.Sign.TheVariants as s

pub less_step : (room : ℕ) (place : Place) (state : State) → 0 < room → less room place state ≡ read_at (less (room - 1)) (room - 1) place state
less_step zero place state h = absurd (omega (arith, h))
less_step (suc room) place state h = let e : suc room - 1 ≡ room = omega arith in rw e refl

pub guarded_step : (room : ℕ) (reader : Reader) (state : State) → 0 < room → guarded room reader state ≡ reader state
guarded_step zero reader state h = absurd (omega (arith, h))
guarded_step (suc room) reader state h = refl

pub loose_step : (inner : Place → Reader) (room n : ℕ) (state : State) → 1 < n → loose_at inner room n state ≡ comma_at inner room state
loose_step inner room zero state h = absurd (omega (arith, h))
loose_step inner room (suc zero) state h = absurd (omega (arith, h))
loose_step inner room (suc (suc n)) state h = refl

pub expression_step : (inner : Place → Reader) (room level : ℕ) (state : State) → 1 < level → expression_at inner room level state ≡ (if nat_le (level - 2) 10 then binary_at inner room (level - 2) state else loose_at inner room (level - 2 - 11) state)
expression_step inner room zero state h = absurd (omega (arith, h))
expression_step inner room (suc zero) state h = absurd (omega (arith, h))
expression_step inner room (suc (suc n)) state h = let e : suc (suc n) - 2 ≡ n = omega arith in rw e refl

pub binary_from_step : (inner : Place → Reader) (room turns level line : ℕ) (left : Tree) (state : State) → 0 < turns → binary_from inner room turns level line left state ≡ binary_by inner room (binary_from inner room (turns - 1) level line) line left (at_level level (of_mark binary_op (kind_at state))) state
binary_from_step inner room zero level line left state h = absurd (omega (arith, h))
binary_from_step inner room (suc turns) level line left state h = let e : suc turns - 1 ≡ turns = omega arith in rw e refl

pub postfix_from_step : (inner : Place → Reader) (room turns line : ℕ) (left : Tree) (state : State) → 0 < turns → postfix_from inner room turns line left state ≡ postfix_by inner room (postfix_from inner room (turns - 1) line) line left (of_mark postfix_op (kind_at state)) state
postfix_from_step inner room zero line left state h = absurd (omega (arith, h))
postfix_from_step inner room (suc turns) line left state h = let e : suc turns - 1 ≡ turns = omega arith in rw e refl

pub comma_from_step : (inner : Place → Reader) (room turns line : ℕ) (left : Tree) (state : State) → 0 < turns → comma_from inner room turns line left state ≡ comma_by inner room (comma_from inner room (turns - 1) line) line left (at_mark s.Comma state) state
comma_from_step inner room zero line left state h = absurd (omega (arith, h))
comma_from_step inner room (suc turns) line left state h = let e : suc turns - 1 ≡ turns = omega arith in rw e refl

pub commas_step : (item : Reader) (more : State → Bool) (form : Form) (turns : ℕ) (parts : Trees) (state : State) → 0 < turns → commas_from item more form turns parts state ≡ item state >>= (λ x. commas_by item more form (commas_from item more form (turns - 1)) (snoc parts x.0) (more x.1) x.1)
commas_step item more form zero parts state h = absurd (omega (arith, h))
commas_step item more form (suc turns) parts state h = let e : suc turns - 1 ≡ turns = omega arith in rw e refl

pub list_step : (item : Reader) (stops : State → Bool) (form : Form) (turns : ℕ) (parts : Trees) (state : State) → 0 < turns → list_from item stops form turns parts state ≡ list_by item stops form (list_from item stops form (turns - 1)) parts (stops state) state
list_step item stops form zero parts state h = absurd (omega (arith, h))
list_step item stops form (suc turns) parts state h = let e : suc turns - 1 ≡ turns = omega arith in rw e refl

pub strings_step : (turns : ℕ) (parts : Trees) (state : State) → 0 < turns → strings_from turns parts state ≡ strings_by (strings_from (turns - 1)) parts (kind_at state) state
strings_step zero parts state h = absurd (omega (arith, h))
strings_step (suc turns) parts state h = let e : suc turns - 1 ≡ turns = omega arith in rw e refl

pub less_none : (room : ℕ) (place : Place) (state : State) → room ≡ 0 → less room place state ≡ None
less_none zero place state h = refl
less_none (suc room) place state h = absurd (omega (arith, h))

pub specs_step : (inner : Place → Reader) (room turns : ℕ) (plain : Bool) (tally : Tally) (parts : Trees) (state : State) → 0 < turns → specs_from inner room turns plain tally parts state ≡ specs_by inner room (specs_from inner room (turns - 1) plain) plain tally parts (spec_at tally state) state
specs_step inner room zero plain tally parts state h = absurd (omega (arith, h))
specs_step inner room (suc turns) plain tally parts state h = let e : suc turns - 1 ≡ turns = omega arith in rw e refl

pub suffixes_step : (inner : Place → Reader) (room turns : ℕ) (first : Bool) (parts : Trees) (state : State) → 0 < turns → suffixes_from inner room turns first parts state ≡ suffixes_by inner room (suffixes_from inner room (turns - 1)) first parts (kind_at state) state
suffixes_step inner room zero first parts state h = absurd (omega (arith, h))
suffixes_step inner room (suc turns) first parts state h = let e : suc turns - 1 ≡ turns = omega arith in rw e refl

read_sort : (inner : Place → Reader) (room : ℕ) (sort : NameSort) (state : State) → read_at inner room (sort_place sort) state ≡ declarator_at inner room (sort_place sort) state
read_sort inner room sorts.Named state = refl
read_sort inner room sorts.Abstract state = refl
read_sort inner room sorts.Either state = refl

pub declarator_step : (room : ℕ) (sort : NameSort) (state : State) → 0 < room → less room (sort_place sort) state ≡ declarator_at (less (room - 1)) (room - 1) (sort_place sort) state
declarator_step room sort state h = less_step room (sort_place sort) state h ∙ read_sort (less (room - 1)) (room - 1) sort state
