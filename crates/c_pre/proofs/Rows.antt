-- Rows of tokens, and what a call has in them.
use Rattle.std.proofs.Common.{◌≡◌, ◌∙◌, ℕ, zero, suc, ◌+◌, ◌-◌, ◌<◌, ◌≤◌, ◌==◌, ◌⊎◌, inl, inr, Bool, true, false, cond, ◌&&◌, bytes_eq, List, [], ◌∷◌, ◌++◌, length, get_or, set, Option, Some, None, refl, sym, ap, subst, arith, append_assoc, append-nil, length-append}
use Rattle.std.specs.Prelude.{slice_get, IfSome, OnOk, Result, Ok, Err}
use Rattle.std.proofs.lemmas.List.{length-set}
use Rattle.std.proofs.lemmas.Option.{slice_get-get_or}
use Rattle.std.proofs.lemmas.Bool.{ne_eqb}
use Rattle.std.proofs.lemmas.Slice.Eq.{bytes_eq-Decides}
use Rattle.c_lexer.specs.declared.token.Token.{Token}
use Rattle.c_pre.specs.Directives.{is_sign}
use Rattle.c_pre.specs.Expansion.{is_ended, is_separator, split_from}
use Rattle.c_pre.specs.Rows.{segment, opens, closes, one_less, if_some, depth_behind, Pair, Paired, StandOpen, PairedUpTo}
use Rattle.c_pre.specs.Splitting.{SplitsAt, SplitUpTo}
use Rattle.c_pre.specs.Held.{tokens_of}
use Rattle.c_pre.specs.Table.{Numbers}
use Rattle.c_pre.specs.declared.marked.Marked.{Marked}
use Rattle.c_pre.specs.declared.row.Piece.{Piece}
use Rattle.c_pre.specs.declared.rest.Found.{Found}
use Rattle.c_pre.specs.declared.calls.Split.{Split}

some_is : (x y : Marked) → Some x ≡ Some y → x ≡ y
some_is x y e = cc

number_is : (m n : ℕ) → Some m ≡ Some n → m ≡ n
number_is m n e = cc

-- what is read at a place
pub read_get : (xs ys : List ℕ) (i x : ℕ) → ys ≡ xs → i < length ys → ((d : ℕ) → x ≡ get_or ys i d) → slice_get xs i ≡ Some x
read_get xs ys i x same low is =
    subst (λ zs. slice_get zs i ≡ Some x) same (slice_get-get_or ys i 0 low ∙ ap Some (sym (is 0)))

-- parts of a row
pub segment_first : (xs : List Marked) (i j : ℕ) (x : Marked) → slice_get xs i ≡ Some x → i < j → segment i j xs ≡ x ∷ segment (suc i) j xs
segment_first [] i j x is low = cc
segment_first (y ∷ ys) zero zero x is low = absurd (omega (arith, low))
segment_first (y ∷ ys) zero (suc j) x is low = ap (λ (t : Marked). t ∷ segment zero j ys) (some_is y x is)
segment_first (y ∷ ys) (suc i) zero x is low = absurd (omega (arith, low))
segment_first (y ∷ ys) (suc i) (suc j) x is low = segment_first ys i j x is (omega (arith, low))

pub segment_last : (xs : List Marked) (i j : ℕ) (x : Marked) → slice_get xs j ≡ Some x → i ≤ j → segment i (suc j) xs ≡ segment i j xs ++ x ∷ []
segment_last [] i j x is low = cc
segment_last (y ∷ ys) zero zero x is low = ap (λ (t : Marked). t ∷ []) (some_is y x is)
segment_last (y ∷ ys) zero (suc j) x is low = ap (λ (ts : List Marked). y ∷ ts) (segment_last ys zero j x is (omega arith))
segment_last (y ∷ ys) (suc i) zero x is low = absurd (omega (arith, low))
segment_last (y ∷ ys) (suc i) (suc j) x is low = segment_last ys i j x is (omega (arith, low))

pub segment_joined : (xs : List Marked) (i j k : ℕ) → i ≤ j → j ≤ k → segment i k xs ≡ segment i j xs ++ segment j k xs
segment_joined xs zero zero zero low high = refl
segment_joined xs (suc i) zero zero low high = absurd (omega (arith, low))
segment_joined xs i (suc j) zero low high = absurd (omega (arith, high))
segment_joined xs zero zero (suc k) low high = refl
segment_joined xs (suc i) zero (suc k) low high = absurd (omega (arith, low))
segment_joined [] zero (suc j) (suc k) low high = refl
segment_joined (y ∷ ys) zero (suc j) (suc k) low high = ap (λ (ts : List Marked). y ∷ ts) (segment_joined ys zero j k (omega arith) (omega (arith, high)))
segment_joined [] (suc i) (suc j) (suc k) low high = refl
segment_joined (y ∷ ys) (suc i) (suc j) (suc k) low high = segment_joined ys i j k (omega (arith, low)) (omega (arith, high))

pub segment_all : (xs : List Marked) → segment zero (length xs) xs ≡ xs
segment_all [] = refl
segment_all (y ∷ ys) = ap (λ (ts : List Marked). y ∷ ts) (segment_all ys)

pub segment_none : (xs : List Marked) (i j : ℕ) → j ≤ i → segment i j xs ≡ []
segment_none xs i zero low = refl
segment_none xs zero (suc j) low = absurd (omega (arith, low))
segment_none [] (suc i) (suc j) low = refl
segment_none (y ∷ ys) (suc i) (suc j) low = segment_none ys i j (omega (arith, low))

-- a token is one sign at most
closes_not : (t : Token) → is_sign 40 t ≡ true → is_sign 41 t ≡ false
closes_not t is = ap (λ bs. bytes_eq bs (41 ∷ [])) ((bytes_eq-Decides t.bytes (40 ∷ [])).0 is)

comma_closes_not : (t : Token) → is_sign 44 t ≡ true → is_sign 41 t ≡ false
comma_closes_not t is = ap (λ bs. bytes_eq bs (41 ∷ [])) ((bytes_eq-Decides t.bytes (44 ∷ [])).0 is)

comma_opens_not : (t : Token) → is_sign 44 t ≡ true → is_sign 40 t ≡ false
comma_opens_not t is = ap (λ bs. bytes_eq bs (40 ∷ [])) ((bytes_eq-Decides t.bytes (44 ∷ [])).0 is)

-- one more, and one less than that
next : (n : ℕ) → n + 1 ≡ suc n
next n = omega arith

before : (n : ℕ) → suc n - 1 ≡ n
before n = omega arith

above : (depth : ℕ) → (suc depth == 0) ≡ false
above depth = ne_eqb (suc depth) 0 (λ e. omega (arith, e))

both_first : (b c : Bool) → (b && c) ≡ true → b ≡ true
both_first true c is = refl
both_first false c is = is

-- how a call is split at a token
module _ (keeps : Option ℕ) (t : Marked) (depth : ℕ) (args : List (List Marked)) (current rest : List Marked) where
  abbrev by_tests : Bool → Bool → Bool → Bool → Option Split
  by_tests closes outside opens parts =
      cond (closes && outside) (Some (record { args = args ++ current ∷ []; hidden = t.hidden; rest = rest }))
      (cond closes (split_from keeps (depth - 1) args (current ++ t ∷ []) rest)
      (cond opens (split_from keeps (depth + 1) args (current ++ t ∷ []) rest)
      (cond parts (split_from keeps 0 (args ++ current ∷ []) [] rest)
      (split_from keeps depth args (current ++ t ∷ []) rest))))

  split_by : (closes outside opens parts : Bool) → is_sign 41 t.token ≡ closes → (depth == 0) ≡ outside → is_sign 40 t.token ≡ opens → (depth == 0 && is_separator keeps (length args) t.token) ≡ parts → split_from keeps depth args current (t ∷ rest) ≡ by_tests closes outside opens parts
  split_by closes outside opens parts c o p q = λ i. by_tests (c i) (o i) (p i) (q i)

split_end : (keeps : Option ℕ) (t : Marked) (args : List (List Marked)) (current rest : List Marked) → is_sign 41 t.token ≡ true → split_from keeps 0 args current (t ∷ rest) ≡ Some (record { args = args ++ current ∷ []; hidden = t.hidden; rest = rest })
split_end keeps t args current rest is =
    split_by keeps t 0 args current rest true true (is_sign 40 t.token) (0 == 0 && is_separator keeps (length args) t.token) is refl refl refl

split_close : (keeps : Option ℕ) (t : Marked) (depth : ℕ) (args : List (List Marked)) (current rest : List Marked) → is_sign 41 t.token ≡ true → split_from keeps (suc depth) args current (t ∷ rest) ≡ split_from keeps depth args (current ++ t ∷ []) rest
split_close keeps t depth args current rest is =
    split_by keeps t (suc depth) args current rest true false (is_sign 40 t.token) (suc depth == 0 && is_separator keeps (length args) t.token) is (above depth) refl refl
    ∙ ap (λ n. split_from keeps n args (current ++ t ∷ []) rest) (before depth)

split_open : (keeps : Option ℕ) (t : Marked) (depth : ℕ) (args : List (List Marked)) (current rest : List Marked) → is_sign 40 t.token ≡ true → split_from keeps depth args current (t ∷ rest) ≡ split_from keeps (suc depth) args (current ++ t ∷ []) rest
split_open keeps t depth args current rest is =
    split_by keeps t depth args current rest false (depth == 0) true (depth == 0 && is_separator keeps (length args) t.token) (closes_not t.token is) refl is refl
    ∙ ap (λ n. split_from keeps n args (current ++ t ∷ []) rest) (next depth)

split_comma : (keeps : Option ℕ) (t : Marked) (args : List (List Marked)) (current rest : List Marked) → is_separator keeps (length args) t.token ≡ true → split_from keeps 0 args current (t ∷ rest) ≡ split_from keeps 0 (args ++ current ∷ []) [] rest
split_comma keeps t args current rest is =
    let comma = both_first (is_sign 44 t.token) (is_ended keeps (length args)) is in
    split_by keeps t 0 args current rest false true false true (comma_closes_not t.token comma) refl (comma_opens_not t.token comma) is

split_plain : (keeps : Option ℕ) (t : Marked) (depth : ℕ) (args : List (List Marked)) (current rest : List Marked) → is_sign 41 t.token ≡ false → is_sign 40 t.token ≡ false → (depth == 0 && is_separator keeps (length args) t.token) ≡ false → split_from keeps depth args current (t ∷ rest) ≡ split_from keeps depth args (current ++ t ∷ []) rest
split_plain keeps t depth args current rest closes opens comma =
    split_by keeps t depth args current rest false (depth == 0) false false closes refl opens comma

no_comma : (b c : Bool) → b ≡ false → (b && c) ≡ false
no_comma b c is = ap (λ d. d && c) is

-- how many `(` stand open behind a token
depth_by : (t : Marked) (depth : ℕ) (tokens : List Marked) (c o : Bool) → is_sign 41 t.token ≡ c → is_sign 40 t.token ≡ o → depth_behind depth (t ∷ tokens) ≡ cond c (if_some (one_less depth) (λ less. depth_behind less tokens)) (cond o (depth_behind (suc depth) tokens) (depth_behind depth tokens))
depth_by t depth tokens c o is are = λ i. cond (is i) (if_some (one_less depth) (λ less. depth_behind less tokens)) (cond (are i) (depth_behind (suc depth) tokens) (depth_behind depth tokens))

-- a call is split on behind tokens that leave some `(` open
module _ (keeps : Option ℕ) (k m : ℕ) (args : List (List Marked)) (rest : List Marked) where
  abbrev Behind : List Marked → Type 0
  Behind xs = (n : ℕ) → depth_behind n xs ≡ Some m → (current : List Marked) → split_from keeps (suc (k + n)) args current (xs ++ rest) ≡ split_from keeps (suc (k + m)) args (current ++ xs) rest

  deeper_by : (l n : ℕ) → suc l ≡ n → k + n ≡ suc (k + l)
  deeper_by l n e = omega (arith, e)

  deeper : (n : ℕ) → suc (k + n) ≡ k + suc n
  deeper n = omega arith

  module _ (t : Marked) (xs : List Marked) (behind : Behind xs) (n : ℕ) (current : List Marked) where
    on : (l : ℕ) → depth_behind l xs ≡ Some m → split_from keeps (suc (k + l)) args (current ++ t ∷ []) (xs ++ rest) ≡ split_from keeps (suc (k + m)) args (current ++ t ∷ xs) rest
    on l is = behind l is (current ++ t ∷ []) ∙ ap (λ ts. split_from keeps (suc (k + m)) args ts rest) (append_assoc current (t ∷ []) xs)

    behind_close : (l : ℕ) → if_some (one_less l) (λ d. depth_behind d xs) ≡ Some m → l ≡ n → is_sign 41 t.token ≡ true → split_from keeps (suc (k + n)) args current (t ∷ xs ++ rest) ≡ split_from keeps (suc (k + m)) args (current ++ t ∷ xs) rest
    behind_close zero found same c = cc
    behind_close (suc l) found same c =
        split_close keeps t (k + n) args current (xs ++ rest) c
        ∙ ap (λ d. split_from keeps d args (current ++ t ∷ []) (xs ++ rest)) (deeper_by l n same)
        ∙ on l found

    behind_by : (c o : Bool) → is_sign 41 t.token ≡ c → is_sign 40 t.token ≡ o → depth_behind n (t ∷ xs) ≡ Some m → split_from keeps (suc (k + n)) args current (t ∷ xs ++ rest) ≡ split_from keeps (suc (k + m)) args (current ++ t ∷ xs) rest
    behind_by true o c p is = behind_close n (sym (depth_by t n xs true o c p) ∙ is) refl c
    behind_by false true c p is =
        split_open keeps t (suc (k + n)) args current (xs ++ rest) p
        ∙ ap (λ d. split_from keeps (suc d) args (current ++ t ∷ []) (xs ++ rest)) (deeper n)
        ∙ on (suc n) (sym (depth_by t n xs false true c p) ∙ is)
    behind_by false false c p is =
        split_plain keeps t (suc (k + n)) args current (xs ++ rest) c p (no_comma (suc (k + n) == 0) (is_separator keeps (length args) t.token) (above (k + n)))
        ∙ on n (sym (depth_by t n xs false false c p) ∙ is)

  split_behind : (xs : List Marked) → Behind xs
  split_behind [] = λ n is current.
      ap (λ l. split_from keeps (suc (k + l)) args current rest) (number_is n m is) ∙ ap (λ ts. split_from keeps (suc (k + m)) args ts rest) (sym (append-nil current))
  split_behind (t ∷ xs) = λ n is current. behind_by t xs (split_behind xs) n current (is_sign 41 t.token) (is_sign 40 t.token) refl refl is

-- the same behind a `(` and its `)`
split_pair : (keeps : Option ℕ) (t u : Marked) (xs : List Marked) → is_sign 40 t.token ≡ true → is_sign 41 u.token ≡ true → depth_behind 0 xs ≡ Some 0 → (args : List (List Marked)) (current rest : List Marked) → split_from keeps 0 args current ((t ∷ xs ++ u ∷ []) ++ rest) ≡ split_from keeps 0 args (current ++ (t ∷ xs ++ u ∷ [])) rest
split_pair keeps t u xs first last inner args current rest =
    split_open keeps t 0 args current ((xs ++ u ∷ []) ++ rest) first
    ∙ ap (split_from keeps 1 args (current ++ t ∷ [])) (append_assoc xs (u ∷ []) rest)
    ∙ split_behind keeps 0 0 args (u ∷ rest) xs 0 inner (current ++ t ∷ [])
    ∙ split_close keeps u 0 args ((current ++ t ∷ []) ++ xs) rest last
    ∙ ap (λ ts. split_from keeps 0 args ts rest)
    (append_assoc (current ++ t ∷ []) xs (u ∷ []) ∙ append_assoc current (t ∷ []) (xs ++ u ∷ []))

-- what stands open behind tokens and others
module _ (m : ℕ) (ys : List Marked) where
  abbrev Joined : List Marked → Type 0
  Joined xs = (n : ℕ) → depth_behind n xs ≡ Some m → depth_behind n (xs ++ ys) ≡ depth_behind m ys

  module _ (t : Marked) (xs : List Marked) (joined : Joined xs) (n : ℕ) where
    joined_close : (o : Option ℕ) → if_some o (λ d. depth_behind d xs) ≡ Some m → if_some o (λ d. depth_behind d (xs ++ ys)) ≡ depth_behind m ys
    joined_close None found = cc
    joined_close (Some l) found = joined l found

    joined_by : (c o : Bool) → is_sign 41 t.token ≡ c → is_sign 40 t.token ≡ o → depth_behind n (t ∷ xs) ≡ Some m → depth_behind n (t ∷ xs ++ ys) ≡ depth_behind m ys
    joined_by true o c p is = depth_by t n (xs ++ ys) true o c p ∙ joined_close (one_less n) (sym (depth_by t n xs true o c p) ∙ is)
    joined_by false true c p is = depth_by t n (xs ++ ys) false true c p ∙ joined (suc n) (sym (depth_by t n xs false true c p) ∙ is)
    joined_by false false c p is = depth_by t n (xs ++ ys) false false c p ∙ joined n (sym (depth_by t n xs false false c p) ∙ is)

  depth_joined : (xs : List Marked) → Joined xs
  depth_joined [] = λ n is. ap (λ l. depth_behind l ys) (number_is n m is)
  depth_joined (t ∷ xs) = λ n is. joined_by t xs (depth_joined xs) n (is_sign 41 t.token) (is_sign 40 t.token) refl refl is

-- one `(` more stands open
abbrev Deeper : List Marked → Type 0
Deeper xs = (n m : ℕ) → depth_behind n xs ≡ Some m → depth_behind (suc n) xs ≡ Some (suc m)

module _ (t : Marked) (xs : List Marked) (deeper : Deeper xs) (n m : ℕ) where
  deeper_close : (l : ℕ) → if_some (one_less l) (λ d. depth_behind d xs) ≡ Some m → depth_behind l xs ≡ Some (suc m)
  deeper_close zero found = cc
  deeper_close (suc l) found = deeper l m found

  deeper_sign : (c o : Bool) → is_sign 41 t.token ≡ c → is_sign 40 t.token ≡ o → depth_behind n (t ∷ xs) ≡ Some m → depth_behind (suc n) (t ∷ xs) ≡ Some (suc m)
  deeper_sign true o c p is = depth_by t (suc n) xs true o c p ∙ deeper_close n (sym (depth_by t n xs true o c p) ∙ is)
  deeper_sign false true c p is = depth_by t (suc n) xs false true c p ∙ deeper (suc n) m (sym (depth_by t n xs false true c p) ∙ is)
  deeper_sign false false c p is = depth_by t (suc n) xs false false c p ∙ deeper n m (sym (depth_by t n xs false false c p) ∙ is)

depth_deeper : (xs : List Marked) → Deeper xs
depth_deeper [] = λ n m is. ap (λ l. Some (suc l)) (number_is n m is)
depth_deeper (t ∷ xs) = λ n m is. deeper_sign t xs (depth_deeper xs) n m (is_sign 41 t.token) (is_sign 40 t.token) refl refl is

-- behind a `(` and its `)` no more stand open
depth_pair : (t u : Marked) (xs : List Marked) → is_sign 40 t.token ≡ true → is_sign 41 u.token ≡ true → depth_behind 0 xs ≡ Some 0 → depth_behind 0 (t ∷ xs ++ u ∷ []) ≡ Some 0
depth_pair t u xs first last inner =
    depth_by t 0 (xs ++ u ∷ []) false true (closes_not t.token first) first
    ∙ depth_joined 1 (u ∷ []) xs 1 (depth_deeper xs 0 0 inner)
    ∙ depth_by u 1 [] true (is_sign 40 u.token) last refl

-- ends that are added and set
pushed_get : (ends : List ℕ) (i e : ℕ) → slice_get (ends ++ 0 ∷ []) i ≡ Some e → 0 < e → slice_get ends i ≡ Some e
pushed_get [] zero e is low = absurd (omega (arith, low, number_is 0 e is))
pushed_get [] (suc i) e is low = cc
pushed_get (y ∷ ys) zero e is low = is
pushed_get (y ∷ ys) (suc i) e is low = pushed_get ys i e is low

set_get : (ends : List ℕ) (from at i e : ℕ) → slice_get (set ends from at) i ≡ Some e → ((i ≡ from) × (e ≡ at)) ⊎ (slice_get ends i ≡ Some e)
set_get [] from at i e is = inr is
set_get (y ∷ ys) zero at zero e is = inl (refl, sym (number_is at e is))
set_get (y ∷ ys) zero at (suc i) e is = inr is
set_get (y ∷ ys) (suc from) at zero e is = inr is
set_get (y ∷ ys) (suc from) at (suc i) e is = later (set_get ys from at i e is)
  where
    later : ((i ≡ from) × (e ≡ at)) ⊎ (slice_get ys i ≡ Some e) → ((suc i ≡ suc from) × (e ≡ at)) ⊎ (slice_get ys i ≡ Some e)
    later (inl h) = inl (ap suc h.0, h.1)
    later (inr h) = inr h

paired_pushed : (tokens : List Marked) (ends : List ℕ) → Paired tokens ends → Paired tokens (ends ++ 0 ∷ [])
paired_pushed tokens ends paired = λ i e is low. paired i e (pushed_get ends i e is (omega (arith, low))) low

open_further : (tokens : List Marked) (from at : ℕ) (places : List ℕ) → from ≤ at → depth_behind 0 (segment from at tokens) ≡ Some 0 → StandOpen tokens from places → StandOpen tokens at places
open_further tokens from at [] low inner stand = tt
open_further tokens from at (place ∷ places) low inner stand = (
  omega (arith, low, stand.0),
  stand.1,
  ap (depth_behind 0) (segment_joined tokens (suc place) from at (omega (arith, stand.0)) low)
      ∙ depth_joined 0 (segment from at tokens) (segment (suc place) from tokens) 0 stand.2 ∙ inner,
  stand.3,
)

-- one token: the part of a row from its place on up to the next
one : (tokens : List Marked) (at : ℕ) (t : Marked) → slice_get tokens at ≡ Some t → segment at (suc at) tokens ≡ t ∷ []
one tokens at t is =
    segment_last tokens at at t is (omega arith) ∙ ap (λ ts. ts ++ t ∷ []) (segment_none tokens at at (omega arith))

pub added_plain : (tokens : List Marked) (at : ℕ) (t : Marked) (ends places : List ℕ) → PairedUpTo tokens at ends places → slice_get tokens at ≡ Some t → is_sign 40 t.token ≡ false → is_sign 41 t.token ≡ false → PairedUpTo tokens (at + 1) (ends ++ 0 ∷ []) places
added_plain tokens at t ends places p is opened closed = record {
  count = omega (arith, p.count, length-append ends (0 ∷ []));
  pairs = paired_pushed tokens ends p.pairs;
  open_places = subst (λ n. StandOpen tokens n places) (sym (next at))
      (open_further tokens at (suc at) places (omega arith) (ap (depth_behind 0) (one tokens at t is) ∙ depth_by t 0 [] false false closed opened) p.open_places);
}

pub added_open : (tokens : List Marked) (at : ℕ) (t : Marked) (ends places : List ℕ) → PairedUpTo tokens at ends places → slice_get tokens at ≡ Some t → is_sign 40 t.token ≡ true → PairedUpTo tokens (at + 1) (ends ++ 0 ∷ []) (at ∷ places)
added_open tokens at t ends places p is first = record {
  count = omega (arith, p.count, length-append ends (0 ∷ []));
  pairs = paired_pushed tokens ends p.pairs;
  open_places = (omega arith, ap opens is ∙ first, ap (depth_behind 0) (segment_none tokens (suc at) (at + 1) (omega arith)), p.open_places);
}

pub added_close_none : (tokens : List Marked) (at : ℕ) (ends : List ℕ) → PairedUpTo tokens at ends [] → PairedUpTo tokens (at + 1) (ends ++ 0 ∷ []) []
added_close_none tokens at ends p = record {
  count = omega (arith, p.count, length-append ends (0 ∷ []));
  pairs = paired_pushed tokens ends p.pairs;
  open_places = tt;
}

opened_by : (o : Option Marked) → opens o ≡ true → (t : Marked) × (o ≡ Some t) × (is_sign 40 t.token ≡ true)
opened_by None is = absurd (no is)
  where
    no : false ≡ true → ⊥
    no e = cc
opened_by (Some t) is = (t, refl, is)

closed_by : (o : Option Marked) → closes o ≡ true → (t : Marked) × (o ≡ Some t) × (is_sign 41 t.token ≡ true)
closed_by None is = absurd (no is)
  where
    no : false ≡ true → ⊥
    no e = cc
closed_by (Some t) is = (t, refl, is)

-- the tokens from a `(` on up to its `)`
pair_is : (tokens : List Marked) (at end : ℕ) (t u : Marked) → at < end → slice_get tokens at ≡ Some t → slice_get tokens end ≡ Some u → segment at (suc end) tokens ≡ t ∷ segment (suc at) end tokens ++ u ∷ []
pair_is tokens at end t u low is are =
    segment_first tokens at (suc end) t is (omega (arith, low)) ∙ ap (λ ts. t ∷ ts) (segment_last tokens (suc at) end u are (omega (arith, low)))

pub added_close : (tokens : List Marked) (at from : ℕ) (u : Marked) (ends places : List ℕ) → PairedUpTo tokens at ends (from ∷ places) → at < length tokens → slice_get tokens at ≡ Some u → is_sign 41 u.token ≡ true → PairedUpTo tokens (at + 1) (set (ends ++ 0 ∷ []) from at) places
added_close tokens at from u ends places p within is last = record {
  count = omega (arith, p.count, length-append ends (0 ∷ []), length-set (ends ++ 0 ∷ []) from at);
  pairs = λ i e found low. by i e low (set_get (ends ++ 0 ∷ []) from at i e found);
  open_places = subst (λ n. StandOpen tokens n places) (sym (next at))
      (open_further tokens from (suc at) places (omega (arith, p.open_places.0)) closed p.open_places.3);
}
  where
    closed : depth_behind 0 (segment from (suc at) tokens) ≡ Some 0
    closed =
        let o = opened_by (slice_get tokens from) p.open_places.1 in
        ap (depth_behind 0) (pair_is tokens from at o.0 u p.open_places.0 o.1 is) ∙ depth_pair o.0 u (segment (suc from) at tokens) o.2 last p.open_places.2

    pair : Pair tokens from at
    pair = record { within = within; first = p.open_places.1; last = ap closes is ∙ last; inner = p.open_places.2 }

    by : (i e : ℕ) → i < e → ((i ≡ from) × (e ≡ at)) ⊎ (slice_get (ends ++ 0 ∷ []) i ≡ Some e) → Pair tokens i e
    by i e low (inl h) = subst (λ k. Pair tokens k e) (sym h.0) (subst (λ k. Pair tokens from k) (sym h.1) pair)
    by i e low (inr h) = paired_pushed tokens ends p.pairs i e h low

-- how a call goes on at a token of a row
pub split_starts : (keeps : Option ℕ) (tokens : List Marked) (from to : ℕ) → from ≤ to → SplitUpTo keeps tokens from to from from []
split_starts keeps tokens from to high = record {
  low = omega arith;
  high = high;
  same = λ rest. ap (λ ts. split_from keeps 0 [] ts (segment from to tokens ++ rest)) (segment_none tokens from from (omega arith));
}

module _ (keeps : Option ℕ) (tokens : List Marked) (from to start at : ℕ) (args : List (List Marked)) (s : SplitUpTo keeps tokens from to start at args) where
  ahead : (t : Marked) (rest : List Marked) → slice_get tokens at ≡ Some t → at < to → segment at to tokens ++ rest ≡ t ∷ segment (suc at) to tokens ++ rest
  ahead t rest is low = ap (λ ts. ts ++ rest) (segment_first tokens at to t is low)

  pub split_ends : (t : Marked) → at < to → slice_get tokens at ≡ Some t → is_sign 41 t.token ≡ true → SplitsAt keeps tokens from to (args ++ segment start at tokens ∷ []) at
  split_ends t low is last = record {
    within = low;
    same = λ u rest isu.
        sym (s.same rest)
        ∙ ap (split_from keeps 0 args (segment start at tokens)) (ahead u rest isu low)
        ∙ split_end keeps u args (segment start at tokens) (segment (suc at) to tokens ++ rest) (subst (λ (v : Marked). is_sign 41 v.token ≡ true) (some_is t u (sym is ∙ isu)) last);
  }

  pub split_parts : (t : Marked) → at < to → slice_get tokens at ≡ Some t → is_separator keeps (length args) t.token ≡ true → SplitUpTo keeps tokens from to (at + 1) (at + 1) (args ++ segment start at tokens ∷ [])
  split_parts t low is comma = record {
    low = omega arith;
    high = omega (arith, low);
    same = λ rest.
        ap (λ ts. split_from keeps 0 (args ++ segment start at tokens ∷ []) ts (segment (at + 1) to tokens ++ rest)) (segment_none tokens (at + 1) (at + 1) (omega arith))
        ∙ ap (λ n. split_from keeps 0 (args ++ segment start at tokens ∷ []) [] (segment n to tokens ++ rest)) (next at)
        ∙ sym (split_comma keeps t args (segment start at tokens) (segment (suc at) to tokens ++ rest) comma)
        ∙ sym (ap (split_from keeps 0 args (segment start at tokens)) (ahead t rest is low))
        ∙ s.same rest;
  }

  pub split_stays : (t : Marked) → at < to → slice_get tokens at ≡ Some t → is_sign 41 t.token ≡ false → is_sign 40 t.token ≡ false → is_separator keeps (length args) t.token ≡ false → SplitUpTo keeps tokens from to start (at + 1) args
  split_stays t low is closes opens comma = record {
    low = omega (arith, s.low);
    high = omega (arith, low);
    same = λ rest.
        ap (λ n. split_from keeps 0 args (segment start n tokens) (segment n to tokens ++ rest)) (next at)
        ∙ ap (λ ts. split_from keeps 0 args ts (segment (suc at) to tokens ++ rest)) (segment_last tokens start at t is s.low)
        ∙ sym (split_plain keeps t 0 args (segment start at tokens) (segment (suc at) to tokens ++ rest) closes opens comma)
        ∙ sym (ap (split_from keeps 0 args (segment start at tokens)) (ahead t rest is low))
        ∙ s.same rest;
  }

  pub split_passes : (end : ℕ) → at < end → end < to → Pair tokens at end → SplitUpTo keeps tokens from to start (end + 1) args
  split_passes end low high pair = record {
    low = omega (arith, s.low, low);
    high = omega (arith, high);
    same = λ rest. ap (λ n. split_from keeps 0 args (segment start n tokens) (segment n to tokens ++ rest)) (next end) ∙ passed rest ∙ s.same rest;
  }
    where
      whole : List Marked
      whole = segment at (suc end) tokens

      over : (current rest : List Marked) → split_from keeps 0 args current (whole ++ rest) ≡ split_from keeps 0 args (current ++ whole) rest
      over current rest =
          let o = opened_by (slice_get tokens at) pair.first in
          let c = closed_by (slice_get tokens end) pair.last in
          subst (λ ts. split_from keeps 0 args current (ts ++ rest) ≡ split_from keeps 0 args (current ++ ts) rest) (sym (pair_is tokens at end o.0 c.0 low o.1 c.1))
          (split_pair keeps o.0 c.0 (segment (suc at) end tokens) o.2 c.2 pair.inner args current rest)

      passed : (rest : List Marked) → split_from keeps 0 args (segment start (suc end) tokens) (segment (suc end) to tokens ++ rest) ≡ split_from keeps 0 args (segment start at tokens) (segment at to tokens ++ rest)
      passed rest =
          ap (λ ts. split_from keeps 0 args ts (segment (suc end) to tokens ++ rest)) (segment_joined tokens start at (suc end) s.low (omega (arith, low)))
          ∙ sym (over (segment start at tokens) (segment (suc end) to tokens ++ rest))
          ∙ ap (split_from keeps 0 args (segment start at tokens)) (sym (append_assoc whole (segment (suc end) to tokens) rest))
          ∙ ap (λ ts. split_from keeps 0 args (segment start at tokens) (ts ++ rest)) (sym (segment_joined tokens at (suc end) to (omega (arith, low)) (omega (arith, high))))

none_at : (at end : ℕ) → None ≡ Some end → ⊥
none_at at end e = cc

pub none_paired : (tokens : List Marked) (ends : List ℕ) → ends ≡ [] → Paired tokens ends
none_paired tokens ends is = λ at end found low. absurd (none_at at end (subst (λ es. slice_get es at ≡ Some end) is found))

-- the pieces of which tokens are left
has_item : (xs : List Marked) (i : ℕ) → i < length xs → (x : Marked) × (slice_get xs i ≡ Some x)
has_item [] i low = absurd (omega (arith, low))
has_item (y ∷ ys) zero low = (y, refl)
has_item (y ∷ ys) (suc i) low = has_item ys i (omega (arith, low))

piece_is : (p q : Piece) → Some p ≡ Some q → p ≡ q
piece_is p q e = cc

-- the first token of some pieces
piece_first : (p : Piece) (ps : List Piece) (t : Marked) → slice_get p.row.value.tokens.items p.from ≡ Some t → tokens_of (p ∷ ps) ≡ t ∷ segment (suc p.from) p.to p.row.value.tokens.items ++ tokens_of ps
piece_first p ps t is = ap (λ ts. ts ++ tokens_of ps) (segment_first p.row.value.tokens.items p.from p.to t is p.some)

pub pieces_empty : (old : List Marked) (all : List Piece) (b : Bool) → tokens_of all ≡ old → b ≡ (length all == 0) → b ≡ (length old == 0)
pieces_empty old [] b view is = is ∙ ap (λ ts. length ts == 0) view
pieces_empty old (p ∷ ps) b view is =
    let x = has_item p.row.value.tokens.items p.from (omega (arith, p.some, p.within, p.row.value.tokens.ok.0)) in
    is ∙ above (length ps)
    ∙ sym (ap (λ ts. length ts == 0) (sym view ∙ piece_first p ps x.0 x.1) ∙ above (length (segment (suc p.from) p.to p.row.value.tokens.items ++ tokens_of ps)))

pub pieces_front : (old : List Marked) (all : List Piece) (p : Piece) (t : Marked) → tokens_of all ≡ old → Some p ≡ slice_get all 0 → slice_get p.row.value.tokens.items p.from ≡ Some t → Some t ≡ slice_get old 0
pieces_front old [] p t view is read = cc
pieces_front old (q ∷ ps) p t view is read =
    sym (ap (λ ts. slice_get ts 0) (sym view ∙ ap (λ (r : Piece). tokens_of (r ∷ ps)) (piece_is q p (sym is)) ∙ piece_first p ps t read))

pub pieces_none : (old : List Marked) (all : List Piece) → tokens_of all ≡ old → None ≡ slice_get all 0 → None ≡ slice_get old 0
pieces_none old [] view is = ap (λ ts. slice_get ts 0) view
pieces_none old (p ∷ ps) view is = cc

pub pieces_pop : (old : List Marked) (all : List Piece) (p : Piece) (ps : List Piece) (t first : Marked) (new : List Marked) → tokens_of all ≡ old → all ≡ p ∷ ps → slice_get p.row.value.tokens.items p.from ≡ Some t → first ≡ t → new ≡ segment (p.from + 1) p.to p.row.value.tokens.items ++ tokens_of ps → old ≡ first ∷ new
pieces_pop old all p ps t first new view is read copy behind =
    sym view ∙ ap tokens_of is ∙ piece_first p ps t read
    ∙ ap (λ n. t ∷ segment n p.to p.row.value.tokens.items ++ tokens_of ps) (sym (next p.from))
    ∙ (λ i. sym copy i ∷ sym behind i)

pub found_by : (keeps : Option ℕ) (tokens : List Marked) (from to : ℕ) (o : Option Found) (f : Found) → o ≡ Some f → IfSome o (λ it. SplitsAt keeps tokens from to it.args it.end) → SplitsAt keeps tokens from to f.args f.end
found_by keeps tokens from to o f is found = subst (λ (p : Option Found). IfSome p (λ it. SplitsAt keeps tokens from to it.args it.end)) is found

pub pieces_split : (keeps : Option ℕ) (old : List Marked) (all : List Piece) (p : Piece) (ps : List Piece) (o : Option Found) (f : Found) (t : Marked) (hidden : Numbers) (new : List Marked) → tokens_of all ≡ old → all ≡ p ∷ ps → o ≡ Some f → IfSome o (λ it. SplitsAt keeps p.row.value.tokens.items p.from p.to it.args it.end) → slice_get p.row.value.tokens.items f.end ≡ Some t → hidden ≡ t.hidden → new ≡ segment (f.end + 1) p.to p.row.value.tokens.items ++ tokens_of ps → split_from keeps 0 [] [] old ≡ Some (record { args = f.args; hidden = hidden; rest = new })
pieces_split keeps old all p ps o f t hidden new view is some found read hides behind =
    let s = found_by keeps p.row.value.tokens.items p.from p.to o f some found in
    ap (split_from keeps 0 [] []) (sym view ∙ ap tokens_of is)
    ∙ s.same t (tokens_of ps) read
    ∙ ap (λ n. let u : Split = record { args = f.args; hidden = t.hidden; rest = segment n p.to p.row.value.tokens.items ++ tokens_of ps } in Some u) (sym (next f.end))
    ∙ (λ i. let u : Split = record { args = f.args; hidden = sym hides i; rest = sym behind i } in Some u)

pub whole_row : {T E : Type 0} (r : Result T E) (new old row tokens : List Marked) (count : ℕ) → row ≡ tokens → count ≡ length tokens → OnOk r (new ≡ segment 0 count row ++ old) → OnOk r (new ≡ tokens ++ old)
whole_row (Ok x) new old row tokens count same is h =
    h ∙ ap (λ ts. ts ++ old) (ap (segment 0 count) same ∙ ap (λ n. segment 0 n tokens) is ∙ segment_all tokens)
whole_row (Err e) new old row tokens count same is h = tt
