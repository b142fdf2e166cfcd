-- Where the statements of a core stand in its code.
use Rattle.meaning_laws.proofs.Words.Core.{Code, Core, Func, Stm}
use Rattle.meaning_laws.proofs.Words.Meaning.{IsCompiled, Pins, body_length, code_length, first_of, place_of}
use Rattle.meaning_laws.proofs.Words.Std.{List, None, Option, Some, ap, arith, get_or_from_slice_get, length, slice_get, slice_get_within, subst, sum_by, sum_by-take-le, sum_by_more, take, take-take, ℕ, ◌+◌, ◌<◌, ◌≡◌, ◌≤◌}

-- the first instruction of the statement at a point of a function that may not be there
abbrev pub placed : Core → ℕ → Option Func → ℕ → ℕ
placed core f None point = 0
placed core f (Some func) point = place_of core f func.body point

-- the same by the number of the function
abbrev pub place_at : Core → ℕ → ℕ → ℕ
place_at core f point = placed core f (slice_get core.funcs f) point

-- a function begins behind the code of the one before it
first_more : (core : Core) (f : ℕ) (func : Func) → slice_get core.funcs f ≡ Some func → first_of core (f + 1) ≡ first_of core f + body_length func.body
first_more core f func here =
    let of : Func → ℕ = λ g. body_length g.body in
    let more = sum_by_more of core.funcs f func (slice_get_within core.funcs f func here) in
    let is = get_or_from_slice_get core.funcs f func func here in
    omega (arith, more, ap of is)

first_ahead : (core : Core) (f g : ℕ) → f < g → first_of core (f + 1) ≤ first_of core g
first_ahead core f g lt =
    let of : Func → ℕ = λ func. body_length func.body in
    let le = sum_by-take-le of (take g core.funcs) (f + 1) in
    let same = take-take (f + 1) g core.funcs (omega arith) in
    omega (arith, subst (λ (xs : List Func). sum_by of xs ≤ sum_by of (take g core.funcs)) same le)

module _ (core : Core) (f : ℕ) (func : Func) (here : slice_get core.funcs f ≡ Some func) where
  pub place_is : (point : ℕ) → place_at core f point ≡ place_of core f func.body point
  place_is point = ap (λ o. placed core f o point) here

  place_more : (point : ℕ) (stm : Stm) → slice_get func.body point ≡ Some stm → place_of core f func.body (point + 1) ≡ place_of core f func.body point + code_length stm.kind
  place_more point stm at =
      let of : Stm → ℕ = λ s. code_length s.kind in
      let more = sum_by_more of func.body point stm (slice_get_within func.body point stm at) in
      let is = get_or_from_slice_get func.body point stm stm at in
      omega (arith, more, ap of is)

  place_ahead : (point l : ℕ) → point < l → place_of core f func.body (point + 1) ≤ place_of core f func.body l
  place_ahead point l lt =
      let of : Stm → ℕ = λ s. code_length s.kind in
      let le = sum_by-take-le of (take l func.body) (point + 1) in
      let same = take-take (point + 1) l func.body (omega arith) in
      omega (arith, subst (λ (xs : List Stm). sum_by of xs ≤ sum_by of (take l func.body)) same le)

  -- a statement stands before a later one of its function
  pub place_before : (point l : ℕ) (stm : Stm) → slice_get func.body point ≡ Some stm → point < l → place_of core f func.body point + code_length stm.kind ≤ place_of core f func.body l
  place_before point l stm at lt = omega (arith, place_more point stm at, place_ahead point l lt)

  -- and before every later function
  pub place_first : (point g : ℕ) (stm : Stm) → slice_get func.body point ≡ Some stm → f < g → place_of core f func.body point + code_length stm.kind ≤ first_of core g
  place_first point g stm at lt =
      let of : Stm → ℕ = λ s. code_length s.kind in
      omega (arith, place_more point stm at, sum_by-take-le of func.body (point + 1), first_more core f func here, first_ahead core f g lt)

  -- the next statement stands behind a statement
  pub place_next : (point : ℕ) (stm : Stm) → slice_get func.body point ≡ Some stm → place_at core f (point + 1) ≡ place_at core f point + code_length stm.kind
  place_next point stm at =
      omega (arith, place_is point, place_is (point + 1), place_more point stm at)

  -- a later statement stands ahead
  pub place_later : (point l : ℕ) → point < l → place_at core f (point + 1) ≤ place_at core f l
  place_later point l lt = omega (arith, place_is l, place_is (point + 1), place_ahead point l lt)

  pub place_some : (point : ℕ) → 1 ≤ place_at core f point
  place_some point = omega (arith, place_is point)

  -- the instructions of a statement are among those of the code
  pub place_within : (pins : Pins) (code : Code) → IsCompiled core pins code → (point : ℕ) (stm : Stm) → slice_get func.body point ≡ Some stm → place_at core f point + code_length stm.kind ≤ length code.instrs
  place_within pins code compiled point stm at =
      let last = (compiled.statements f point func stm here at).does in
      omega (arith, place_is point, slice_get_within code.instrs _ last.0 last.1)
