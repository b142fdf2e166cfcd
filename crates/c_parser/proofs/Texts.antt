-- One external declaration more of a text, or none.
use Rattle.std.proofs.Common.{◌≡◌, ◌≢◌, ℕ, zero, suc, ◌-◌, ◌<◌, false, nat_eq, if◌then◌else◌, Some, List, length, ◌+◌, refl, ap, ◌∙◌, arith}
use Rattle.c_tree.specs.Depth.{most}
use Rattle.c_tree.specs.Tree.{Tree, Trees, none}
use Rattle.c_lexer.specs.declared.token.Token.{Token}
use Rattle.grammar_reading.specs.Rooms.{Whole, less, text_from, text_by, start_of, read_unit}
use Rattle.c_parser.specs.declared.error.ParseError.{ParseError}
use Rattle.c_parser.specs.declared.error.ParseError.TheVariants as errors
use Rattle.grammar_reading.specs.State.{State, left_at, line_at}
use Rattle.c_parser.specs.Told.{IsMissing, IsStopped}
use Rattle.grammar_reading.specs.Reading.{snoc}
use Rattle.grammar_reading.specs.Statements.{external_at}

pub text_step : (turns : ℕ) (parts : Trees) (state : State) → 0 < turns → text_from turns parts state ≡ (if nat_eq (left_at state) 0 then Whole parts else text_by (text_from (turns - 1)) parts state (external_at (less most) most state))
text_step zero parts state h = absurd (omega (arith, h))
text_step (suc turns) parts state h = let e : suc turns - 1 ≡ turns = omega arith in rw e refl

-- where no declaration is read, reading stops
pub stops_here : (turns : ℕ) (parts : Trees) (state : State) (error : ParseError) → 0 < turns → left_at state ≢ 0 → IsMissing state error → IsStopped (text_from turns parts state) error
stops_here zero parts state error h some missing = absurd (omega (arith, h))
stops_here (suc turns) parts state errors.NoMemory h some missing = tt
stops_here (suc turns) parts state (errors.Syntax line) h some missing =
    let more : nat_eq (left_at state) 0 ≡ false = grind (arith, some) in
    rw more (rw missing.0 missing.1)

-- where no turn is left, reading stops
pub stops_last : (turns : ℕ) (parts : Trees) (state : State) (line : ℕ) → ¬ (0 < turns) → line ≡ line_at state → IsStopped (text_from turns parts state) (errors.Syntax line)
stops_last zero parts state line h same = same
stops_last (suc turns) parts state line h same = absurd (omega (arith, h))

-- with a turn more than there are words, a text is read
pub unit_told : (tokens : List Token) (turns : ℕ) (state : State) → turns ≡ length tokens + 1 → state ≡ start_of tokens → text_from turns none state ≡ read_unit tokens
unit_told tokens turns state h same =
    let e : length tokens + 1 ≡ suc (length tokens) = omega arith in
    ap (λ n. text_from n none state) (h ∙ e) ∙ ap (λ s. text_from (suc (length tokens)) none s) same

-- a declaration is read, and the others behind it
pub one_read : (turns : ℕ) (parts : Trees) (state behind : State) (decl : Tree) → 0 < turns → left_at state ≢ 0 → external_at (less most) most state ≡ Some (decl, behind) → text_from turns parts state ≡ text_from (turns - 1) (snoc parts decl) behind
one_read zero parts state behind decl h some found = absurd (omega (arith, h))
one_read (suc turns) parts state behind decl h some found =
    let more : nat_eq (left_at state) 0 ≡ false = grind (arith, some) in
    let e : suc turns - 1 ≡ turns = omega arith in
    rw e (rw more (rw found refl))
