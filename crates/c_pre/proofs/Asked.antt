-- A condition leaves the tokens and macros, and adds to the work no more than it may.
use Rattle.std.proofs.Common.{◌≡◌, ℕ, ◌≤◌, Bool, true, false, cond, if◌then◌else◌, List, [], ◌∷◌, map, Option, Some, None, Result, Ok, Err, All, refl, arith}
use Rattle.std.proofs.lemmas.List.Elements.{All-nil, All-cons, All-head, All-tail}
use Rattle.c_lexer.specs.Bytes.{is_space, is_letter, is_digit, is_octal_digit, is_name_byte, is_number_byte, digit_value, class_of}
use Rattle.c_lexer.specs.Numbers.{base_of, digits_value, suffix_of, is_held}
use Rattle.c_lexer.specs.Pieces.{IsToken, kind_of}
use Rattle.c_lexer.specs.declared.token.Token.{Token}
use Rattle.c_lexer.specs.declared.token.TokenKind.TheVariants.{Int}
use Rattle.c_pre.specs.After.{and_then}
use Rattle.c_pre.specs.Conditions.{is_word, is_defined, digit, answer, before, answered, asked, asked_inside, closed, holds_of, or_bad, on_line, with_work, condition_asked}
use Rattle.c_pre.specs.Directives.{is_sign}
use Rattle.c_pre.specs.Expansion.{most_work, fresh, expanded}
use Rattle.c_pre.specs.Formed.{IsFormed, IsFormedEntry}
use Rattle.c_pre.specs.Table.{Table}
use Rattle.c_pre.specs.declared.answer.Refusal.{Refusal}
use Rattle.c_pre.specs.declared.progress.Progress.{Progress}
use Rattle.c_pre.specs.declared.scan.Expanded.{Expanded}
use Rattle.c_pre.proofs.Formed.{OnScan, expanded_scan}

-- Answers in place of `defined` are tokens

digit_is : (b : Bool) → IsToken Int ((if b then 49 else 48) ∷ [])
unfolding kind_of class_of is_space is_letter is_digit is_octal_digit is_number_byte is_name_byte digit_value base_of digits_value suffix_of is_held
digit_is true = refl
digit_is false = refl

digit_formed : (b : Bool) (token : Token) → IsFormed token → IsFormed (digit b token)
digit_formed b token h = ((digit_is b, h.0.1), omega arith)

abbrev OnTokens : Option (List Token) → Type 0
OnTokens None = Unit {0}
OnTokens (Some tokens) = All IsFormed tokens

before_formed : (token : Token) (o : Option (List Token)) → IsFormed token → OnTokens o → OnTokens (before token o)
before_formed token None h l = tt
before_formed token (Some tokens) h l = All-cons IsFormed token tokens h l

pick : (b : Bool) (x y : Option (List Token)) → OnTokens x → OnTokens y → OnTokens (cond b x y)
pick true x y hx hy = hx
pick false x y hx hy = hy

mutual
  answered_formed : (macros : Table) (tokens : List Token) → All IsFormed tokens → OnTokens (answered macros tokens)
  answered_formed macros [] h = All-nil IsFormed
  answered_formed macros (t ∷ rest) h =
      let more = All-tail IsFormed t rest h in
      pick (is_defined t) (asked macros rest) (before t (answered macros rest)) (asked_formed macros rest more)
      (before_formed t (answered macros rest) (All-head IsFormed t rest h) (answered_formed macros rest more))

  asked_formed : (macros : Table) (tokens : List Token) → All IsFormed tokens → OnTokens (asked macros tokens)
  asked_formed macros [] h = tt
  asked_formed macros (t ∷ rest) h =
      let more = All-tail IsFormed t rest h in
      pick (is_word t) (before (answer macros t) (answered macros rest)) _
      (before_formed (answer macros t) (answered macros rest) (digit_formed _ t (All-head IsFormed t rest h)) (answered_formed macros rest more))
      (pick (is_sign 40 t) (asked_inside macros rest) None (inside_formed macros rest more) tt)

  inside_formed : (macros : Table) (tokens : List Token) → All IsFormed tokens → OnTokens (asked_inside macros tokens)
  inside_formed macros [] h = tt
  inside_formed macros (name ∷ rest) h =
      pick (is_word name) (closed macros name rest) None
      (closed_formed macros name rest (All-head IsFormed name rest h) (All-tail IsFormed name rest h)) tt

  closed_formed : (macros : Table) (name : Token) (tokens : List Token) → IsFormed name → All IsFormed tokens → OnTokens (closed macros name tokens)
  closed_formed macros name [] n h = tt
  closed_formed macros name (t ∷ rest) n h =
      pick (is_sign 41 t) (before (answer macros name) (answered macros rest)) None
      (before_formed (answer macros name) (answered macros rest) (digit_formed _ name n) (answered_formed macros rest (All-tail IsFormed t rest h))) tt

-- What is left

pub record Asked (old new : Progress) : Type 0 where
  pub tokens : new.tokens ≡ old.tokens
  pub macros : new.macros ≡ old.macros
  pub more : old.work ≤ new.work
  pub most : old.work ≤ most_work → new.work ≤ most_work

abbrev pub AsksMore : Progress → Result (Bool × Progress) Refusal → Type 0
AsksMore p (Ok a) = Asked p a.1
AsksMore p (Err e) = Unit {0}

told : (line : ℕ) (p : Progress) (work : ℕ) (o : Option Bool) → p.work ≤ work → (p.work ≤ most_work → work ≤ most_work) → AsksMore p (and_then (or_bad line o) (λ holds. Ok (with_work p work holds)))
told line p work None more most = tt
told line p work (Some b) more most = record { tokens = refl; macros = refl; more = more; most = most }

replaced : (line : ℕ) (p : Progress) (tokens : List Token) (r : Result Expanded Refusal) → OnScan p.work (map fresh tokens) r → AsksMore p (and_then (on_line line r) (λ e. and_then (or_bad line (holds_of e.tokens)) (λ holds. Ok (with_work p e.work holds))))
replaced line p tokens (Err e) h = tt
replaced line p tokens (Ok e) h = told line p e.work (holds_of e.tokens) h.2 h.3

asked_by : (line : ℕ) (p : Progress) (o : Option (List Token)) → OnTokens o → All IsFormedEntry p.macros.names → AsksMore p (and_then (or_bad line o) (λ asked. and_then (on_line line (expanded p.macros asked p.work)) (λ e. and_then (or_bad line (holds_of e.tokens)) (λ holds. Ok (with_work p e.work holds)))))
asked_by line p None h m = tt
asked_by line p (Some tokens) h m = replaced line p tokens (expanded p.macros tokens p.work) (expanded_scan p.macros tokens p.work m h)

pub asks_more : (line : ℕ) (tokens : List Token) (p : Progress) → All IsFormed tokens → All IsFormedEntry p.macros.names → AsksMore p (condition_asked line tokens p)
unfolding condition_asked
asks_more line tokens p h m = asked_by line p (answered p.macros tokens) (answered_formed p.macros tokens h) m
