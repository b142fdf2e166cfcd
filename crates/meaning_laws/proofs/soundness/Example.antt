-- The code of the example is well formed.
use Rattle.meaning_laws.proofs.Words.Core.{ClosesWhatIsOpen, EachAnswer, EachEntry, EachInstr, Entry, Give, HandInt, Instr, Integer, IsFunction, IsInstr, IsNumber, IsShort, IsWellFormed, Lib, OfAnswer, Opens, Putchar, Sort, Start, handed_before, scopes_after}
use Rattle.meaning_laws.proofs.Words.Meaning.{DigitIsWellFormed, digit, main}
use Rattle.meaning_laws.proofs.Words.Std.{All, All-cons, All-nil, List, Option, Some, [], arith, ints, lit<, lit≤, pos, refl, slice_get, subst, suc, sym, zero, ℕ, ◌+◌, ◌<◌, ◌∙◌, ◌∷◌, ◌≡◌, ◌≤◌}
use Rattle.flat_code.specs.WellFormed.{start, goes}
use Rattle.meaning_laws.specs.code.Example.{instr}

-- P of one
one_of : {A : Type 0} (P : A → Type 0) (x : A) → P x → All P (x ∷ [])
one_of P x p = All-cons P x [] p (All-nil P)

from_one : (line : ℕ) (lines : List ℕ) → 1 ≤ line → All (λ (n : ℕ). 1 ≤ n) lines → All (λ (n : ℕ). 1 ≤ n) (line ∷ lines)
from_one line lines = All-cons (λ (n : ℕ). 1 ≤ n) line lines

only : (P : ℕ → Entry → Type 0) → P 0 main → EachEntry digit P
only P p zero entry e = let same : main ≡ entry = cc in subst (P 0) same p
only P p (suc f) entry e = absurd (cc)

-- what holds of the four instructions of main holds of each
module _ (P : ℕ → Entry → ℕ → Instr → Type 0) (one : P 0 main 1 (instr HandInt (pos 55))) (two : P 0 main 2 (instr (Lib Putchar) (pos 0))) (three : P 0 main 3 (instr HandInt (pos 7))) (four : P 0 main 4 (instr Give (pos 0))) where
  at : (point : ℕ) (i : Instr) → 1 ≤ point → slice_get digit.instrs point ≡ Some i → P 0 main point i
  at zero i from e = absurd (omega arith)
  at (suc zero) i from e = let same : instr HandInt (pos 55) ≡ i = cc in subst (P 0 main 1) same one
  at (suc (suc zero)) i from e = let same : instr (Lib Putchar) (pos 0) ≡ i = cc in subst (P 0 main 2) same two
  at (suc (suc (suc zero))) i from e = let same : instr HandInt (pos 7) ≡ i = cc in subst (P 0 main 3) same three
  at (suc (suc (suc (suc zero)))) i from e = let same : instr Give (pos 0) ≡ i = cc in subst (P 0 main 4) same four
  at (suc (suc (suc (suc (suc k))))) i from e = absurd (cc)

  each : EachInstr digit P
  each f entry point i h =
      only (λ g (e : Entry). e.first ≤ point → P g e point i) (λ from. at point i from h.here) f entry h.function h.from

each_answer : (P : Option Sort → Type 0) → P (Some Integer) → EachAnswer digit 0 P
each_answer P p =
    each (λ f entry point i. f ≡ 0 → OfAnswer P i.op (handed_before digit entry point)) (λ e. tt) (λ e. tt) (λ e. tt) (λ e. p)

opens_none : (point scopes : ℕ) → Opens digit 0 main point scopes → scopes ≡ 0
opens_none point scopes start = refl
opens_none point scopes (goes p next before i path here edge) =
    let none = opens_none p before path in
    each (λ f entry k (x : Instr). scopes_after x.op before ≡ 0) none none none none 0 main p i here

function : IsFunction digit 0 main
function = record {
  first = omega arith;
  some = lit< tt;
  afresh = refl;
  params = omega arith;
  mems = All-nil _;
  alike = each_answer (λ one. EachAnswer digit 0 (λ other. one ≡ other)) (each_answer (λ other. Some Integer ≡ other) refl);
  scopes = record {
    same = λ point one other h i. opens_none point one h ∙ sym (opens_none point other i);
    closes = λ point scopes i h at. each (λ f entry k (x : Instr). ClosesWhatIsOpen x.op scopes) tt tt tt (opens_none point scopes h) 0 main point i at;
  };
}

number : (n : ℕ) → n < 100 → IsNumber (pos n)
number n h = (omega (arith, ints), omega (arith, ints))

hand : (point n next : ℕ) → n < 100 → next ≡ point + 1 → 1 ≤ next → next < 5 → IsInstr digit 0 main point (instr HandInt (pos n))
hand point n next small is low high = record {
  operands = refl;
  result = tt;
  names = number n small;
  inside = one_of (λ (k : ℕ). (1 ≤ k) × (k < 5)) (point + 1) (omega arith, omega arith);
  ahead = one_of (λ (k : ℕ). point < k) (point + 1) (omega arith);
  afresh = tt;
  site = refl;
}

put : IsInstr digit 0 main 2 (instr (Lib Putchar) (pos 0))
put = record {
  operands = refl;
  result = tt;
  names = tt;
  inside = one_of (λ (k : ℕ). (1 ≤ k) × (k < 5)) 3 (omega arith, omega arith);
  ahead = one_of (λ (k : ℕ). 2 < k) 3 (omega arith);
  afresh = one_of (λ (k : ℕ). handed_before digit main k ≡ []) 3 refl;
  site = refl;
}

give : IsInstr digit 0 main 4 (instr Give (pos 0))
give = record {
  operands = (Integer, refl);
  result = tt;
  names = tt;
  inside = All-nil _;
  ahead = All-nil _;
  afresh = All-nil _;
  site = refl;
}

well_formed : IsWellFormed digit
well_formed = record {
  start = (
    instr Start (pos 0),
    0,
    main,
    refl,
    record {
      begins = refl;
      number = refl;
      function = refl;
      params = refl;
      answers = each_answer (λ answer. answer ≡ Some Integer) refl;
    },
  );
  functions = only (IsFunction digit) function;
  instructions = each (IsInstr digit) (hand 1 55 2 (lit< tt) refl (lit≤ tt) (lit< tt)) put (hand 3 7 4 (lit< tt) refl (lit≤ tt) (lit< tt)) give;
  lines = refl;
  lines_from_one = from_one 1 (1 ∷ 1 ∷ 2 ∷ 2 ∷ []) (lit≤ tt) (from_one 1 (1 ∷ 2 ∷ 2 ∷ []) (lit≤ tt) (from_one 1 (2 ∷ 2 ∷ []) (lit≤ tt) (from_one 2 (2 ∷ []) (lit≤ tt) (from_one 2 [] (lit≤ tt) (All-nil _)))));
  layouts = All-nil _;
  statics = All-nil _;
  static_bytes = lit≤ tt;
  formats = All-nil _;
  sites_ascend = λ i j d lt within. absurd (omega arith);
  sites_inside = All-nil _;
  short = record {
    instrs = lit< tt;
    funcs = lit< tt;
    registers = only (λ f (entry : Entry). IsShort entry.kinds × IsShort entry.mems) (lit< tt, lit< tt);
    statics = lit< tt;
    layouts = lit< tt;
    formats = (lit< tt, All-nil _);
  };
}

pub digit_is : DigitIsWellFormed
digit_is = (well_formed, All-nil _)
