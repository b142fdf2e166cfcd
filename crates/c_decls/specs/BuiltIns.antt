-- The built-in names, in the order in which they are numbered.
use Rattle.std.specs.Prelude.{ℕ, ◌+◌, ◌^◌, ◌-◌, ℤ, pos, neg_ℤ, List, [], ◌∷◌, codes, bytes_eq, Bool, true, not, ◌&&◌, Option, Some, None}
use Rattle.std.specs.List.{list_any}
use Rattle.c_types.specs.declared.types.IntType.TheVariants.{Int, UInt, Long, ULong, LongLong, ULongLong}
use Rattle.c_decls.specs.declared.constant.Constant.{Constant}
use Rattle.c_decls.specs.declared.built_in.BuiltIn.{BuiltIn}
use Rattle.c_decls.specs.declared.built_in.BuiltIn.TheVariants.{SizeT, Null, Eof, ExitSuccess, ExitFailure, CharBit, ScharMin, ScharMax, UcharMax, CharMin, CharMax, ShrtMin, ShrtMax, UshrtMax, IntMin, IntMax, UintMax, LongMin, LongMax, UlongMax, LlongMin, LlongMax, UllongMax, Malloc, Calloc, Realloc, Free, Exit, Abort, Memcpy, Memmove, Memset, Strlen, Strcmp, Getchar, Putchar, Puts, Printf}
use Rattle.c_decls.specs.Constants.{typed}
use Rattle.c_decls.specs.Named as named
use Rattle.c_decls.specs.ScopeList.{Table, ScopeList}

-- the type, the constants, and the functions
abbrev pub built_ins : List BuiltIn
built_ins =
    SizeT ∷ Null ∷ Eof ∷ ExitSuccess ∷ ExitFailure ∷ CharBit ∷ ScharMin ∷ ScharMax ∷ UcharMax ∷ CharMin ∷ CharMax ∷
    ShrtMin ∷ ShrtMax ∷ UshrtMax ∷ IntMin ∷ IntMax ∷ UintMax ∷ LongMin ∷ LongMax ∷ UlongMax ∷ LlongMin ∷ LlongMax ∷
    UllongMax ∷
    Malloc ∷ Calloc ∷ Realloc ∷ Free ∷ Exit ∷ Abort ∷ Memcpy ∷ Memmove ∷ Memset ∷ Strlen ∷ Strcmp ∷ Getchar ∷
    Putchar ∷ Puts ∷ Printf ∷ []

-- how a built-in name is spelled
abbrev pub name_of : BuiltIn → List ℕ
name_of SizeT = codes "size_t"
name_of Null = codes "NULL"
name_of Eof = codes "EOF"
name_of ExitSuccess = codes "EXIT_SUCCESS"
name_of ExitFailure = codes "EXIT_FAILURE"
name_of CharBit = codes "CHAR_BIT"
name_of ScharMin = codes "SCHAR_MIN"
name_of ScharMax = codes "SCHAR_MAX"
name_of UcharMax = codes "UCHAR_MAX"
name_of CharMin = codes "CHAR_MIN"
name_of CharMax = codes "CHAR_MAX"
name_of ShrtMin = codes "SHRT_MIN"
name_of ShrtMax = codes "SHRT_MAX"
name_of UshrtMax = codes "USHRT_MAX"
name_of IntMin = codes "INT_MIN"
name_of IntMax = codes "INT_MAX"
name_of UintMax = codes "UINT_MAX"
name_of LongMin = codes "LONG_MIN"
name_of LongMax = codes "LONG_MAX"
name_of UlongMax = codes "ULONG_MAX"
name_of LlongMin = codes "LLONG_MIN"
name_of LlongMax = codes "LLONG_MAX"
name_of UllongMax = codes "ULLONG_MAX"
name_of Malloc = codes "malloc"
name_of Calloc = codes "calloc"
name_of Realloc = codes "realloc"
name_of Free = codes "free"
name_of Exit = codes "exit"
name_of Abort = codes "abort"
name_of Memcpy = codes "memcpy"
name_of Memmove = codes "memmove"
name_of Memset = codes "memset"
name_of Strlen = codes "strlen"
name_of Strcmp = codes "strcmp"
name_of Getchar = codes "getchar"
name_of Putchar = codes "putchar"
name_of Puts = codes "puts"
name_of Printf = codes "printf"

-- the integer constant that a built-in name is (C99 5.2.4.2.1, 7.19.1, 7.20); NULL is none, since it is a pointer
abbrev pub constant_of : BuiltIn → Option Constant
constant_of Eof = Some (typed Int (neg_ℤ (pos 1)))
constant_of ExitSuccess = Some (typed Int (pos 0))
constant_of ExitFailure = Some (typed Int (pos 1))
constant_of CharBit = Some (typed Int (pos 8))
constant_of ScharMin = Some (typed Int (neg_ℤ (pos (2 ^ 7))))
constant_of ScharMax = Some (typed Int (pos (2 ^ 7 - 1)))
constant_of UcharMax = Some (typed Int (pos (2 ^ 8 - 1)))
constant_of CharMin = Some (typed Int (neg_ℤ (pos (2 ^ 7))))
constant_of CharMax = Some (typed Int (pos (2 ^ 7 - 1)))
constant_of ShrtMin = Some (typed Int (neg_ℤ (pos (2 ^ 15))))
constant_of ShrtMax = Some (typed Int (pos (2 ^ 15 - 1)))
constant_of UshrtMax = Some (typed Int (pos (2 ^ 16 - 1)))
constant_of IntMin = Some (typed Int (neg_ℤ (pos (2 ^ 31))))
constant_of IntMax = Some (typed Int (pos (2 ^ 31 - 1)))
constant_of UintMax = Some (typed UInt (pos (2 ^ 32 - 1)))
constant_of LongMin = Some (typed Long (neg_ℤ (pos (2 ^ 31))))
constant_of LongMax = Some (typed Long (pos (2 ^ 31 - 1)))
constant_of UlongMax = Some (typed ULong (pos (2 ^ 32 - 1)))
constant_of LlongMin = Some (typed LongLong (neg_ℤ (pos (2 ^ 63))))
constant_of LlongMax = Some (typed LongLong (pos (2 ^ 63 - 1)))
constant_of UllongMax = Some (typed ULongLong (pos (2 ^ 64 - 1)))
constant_of _ = None

-- whether no name stands twice
abbrev pub all_differ : List BuiltIn → Bool
all_differ [] = true
all_differ (name ∷ rest) = not (list_any (λ other. bytes_eq (name_of other) (name_of name)) rest) && all_differ rest

-- names with their numbers, from a number on
abbrev pub numbered_from : ℕ → List BuiltIn → Table
numbered_from n [] = []
numbered_from n (name ∷ rest) = (name_of name, named.BuiltIn n) ∷ numbered_from (n + 1) rest

-- the file scope of every text, before its first declaration
abbrev pub first_scopes : ScopeList
first_scopes = record { file = numbered_from 0 built_ins; inner = [] }
