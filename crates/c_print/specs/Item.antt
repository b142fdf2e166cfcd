-- How an item of a format is written behind its percent sign (C99 7.19.6.1 paragraph 4, narrowed).
use Rattle.std.specs.Prelude.{◌≡◌, ◌≢◌, ◌≤◌, ℕ, Bool, true, false, cond, List, [], ◌∷◌, ◌++◌, Some, nat_eq, ◌&&◌, codes}
use Rattle.std.specs.List.{list_all}
use Rattle.std.specs.Fmt.{decimal}
use Rattle.hs_base.specs.declared.ends.IntKind.{IntKind}
use Rattle.c_print.specs.declared.length.Length.{Length}
use Rattle.c_print.specs.Length.{length_bytes, is_one_of, kind_of}

-- a minus sign or a zero
abbrev pub is_flag : ℕ → Bool
is_flag b = is_one_of (codes "-0") b

-- no byte that passes the test stands at the front
abbrev pub StartsOutside : (ℕ → Bool) → List ℕ → Type 0
StartsOutside test [] = Unit {0}
StartsOutside test (b ∷ bytes) = test b ≡ false

-- a width is a decimal number without a leading zero; 0 stands for no width
abbrev pub width_bytes : ℕ → List ℕ
width_bytes width = cond (nat_eq width 0) [] (decimal width)

-- a length and a conversion that go together, and what stands behind them
pub record ReadsConversion (bytes : List ℕ) (conv : ℕ) (kind : IntKind) (rest : List ℕ) : Type 0 where
  pub length : Length
  pub written : bytes ≡ length_bytes length ++ conv ∷ rest
  pub kind_is : kind_of length conv ≡ Some kind

-- flags, a width, a length and a conversion, and what stands behind them
pub record ReadsItem (bytes : List ℕ) (left zeros : Bool) (width conv : ℕ) (kind : IntKind) (rest : List ℕ) : Type 0 where
  pub flags : List ℕ
  pub behind : List ℕ
  pub written : bytes ≡ flags ++ (width_bytes width ++ behind)
  pub only_flags : list_all is_flag flags ≡ true
  pub left_is : left ≡ is_one_of flags 45
  pub zeros_is : zeros ≡ is_one_of flags 48
  pub width_fits : width ≤ 4095
  pub conversion : ReadsConversion behind conv kind rest
  pub no_zeros_in_text : zeros && is_one_of (codes "cs") conv ≡ false

-- digits write a width, and they write none that is not too great
abbrev pub WritesWidth : List ℕ → ℕ → Type 0
WritesWidth digits width = (width ≤ 4095) × (digits ≡ width_bytes width)

abbrev pub WritesNoWidth : List ℕ → Type 0
WritesNoWidth digits = (width : ℕ) → width ≤ 4095 → digits ≢ width_bytes width

-- no conversion stands at the front, and no item
abbrev pub HasNoConversion : List ℕ → Type 0
HasNoConversion bytes = (conv : ℕ) (kind : IntKind) (rest : List ℕ) → ¬ ReadsConversion bytes conv kind rest

abbrev pub HasNoItem : List ℕ → Type 0
HasNoItem bytes =
    (left zeros : Bool) (width conv : ℕ) (kind : IntKind) (rest : List ℕ) →
    ¬ ReadsItem bytes left zeros width conv kind rest
