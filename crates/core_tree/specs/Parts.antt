-- A statement's words in two parts: what it is called with its signs and names, and what it works on.
use Rattle.std.specs.Prelude.{ℕ, List, [], ◌∷◌, map, codes, decimal}
use Rattle.std.specs.Fmt.{signed_decimal}
use Rattle.core_tree.specs.declared.program.Core.{Core}
use Rattle.core_tree.specs.declared.statements.StmKind.{StmKind}
use Rattle.core_tree.specs.declared.statements.StmKind.TheVariants.{Set, Conv, Un, Bin, Cmp, Add, Sub, Off, Diff, Pcmp, Test, Load, Loadp, Store, Storep, Copy, Clear, Jump, Zero, Case, Loop, Call, Malloc, Calloc, Realloc, Free, Lib, Printf, Enter, Leave, Return}
use Rattle.core_tree.specs.declared.text.Word.{Word}
use Rattle.core_tree.specs.declared.text.Word.TheVariants as word
use Rattle.core_tree.specs.Listing.{register_word, result_word, atom_word, answer_word, format_word, layout_word, kind_word, un_sign, bin_sign, cmp_sign, lib_word, func_word}

-- how a word is written
abbrev pub word_text : Word → List ℕ
word_text (word.Register r) = register_word r
word_text (word.Result r) = result_word r
word_text (word.Operand a) = atom_word a
word_text (word.Answer a) = answer_word a
word_text (word.Number n) = signed_decimal n
word_text (word.Point l) = decimal l
word_text (word.Format k) = format_word k

-- the first words of a statement: what it is called, its sign and kind, and the name of what it calls
abbrev pub first_words : Core → StmKind → List (List ℕ)
first_words core (Set r a) = codes "set" ∷ []
first_words core (Conv k r a) = codes "conv" ∷ kind_word k ∷ []
first_words core (Un op k r a) = codes "un" ∷ un_sign op ∷ kind_word k ∷ []
first_words core (Bin op k r a b) = codes "bin" ∷ bin_sign op ∷ kind_word k ∷ []
first_words core (Cmp op r a b) = codes "cmp" ∷ cmp_sign op ∷ []
first_words core (Add r p a s) = codes "add" ∷ []
first_words core (Sub r p a s) = codes "sub" ∷ []
first_words core (Off r p c) = codes "off" ∷ []
first_words core (Diff r p q s) = codes "diff" ∷ []
first_words core (Pcmp op r p q) = codes "pcmp" ∷ cmp_sign op ∷ []
first_words core (Test r p) = codes "test" ∷ []
first_words core (Load k r p) = codes "load" ∷ kind_word k ∷ []
first_words core (Loadp r p) = codes "loadp" ∷ []
first_words core (Store k p a) = codes "store" ∷ kind_word k ∷ []
first_words core (Storep p q) = codes "storep" ∷ []
first_words core (Copy p q n) = codes "copy" ∷ []
first_words core (Clear p n) = codes "clear" ∷ []
first_words core (Jump l) = codes "jump" ∷ []
first_words core (Zero a l) = codes "zero" ∷ []
first_words core (Case a v l) = codes "case" ∷ []
first_words core (Loop l) = codes "loop" ∷ []
first_words core (Call f r args) = codes "call" ∷ func_word core f ∷ []
first_words core (Malloc r n t) = codes "malloc" ∷ []
first_words core (Calloc r m n t) = codes "calloc" ∷ []
first_words core (Realloc r p n t) = codes "realloc" ∷ []
first_words core (Free p) = codes "free" ∷ []
first_words core (Lib name r args) = codes "lib" ∷ lib_word name ∷ []
first_words core (Printf r format args) = codes "printf" ∷ []
first_words core Enter = codes "enter" ∷ []
first_words core Leave = codes "leave" ∷ []
first_words core (Return a) = codes "return" ∷ []

-- the words behind them: the register that is written, the operands, and what stands beside them
abbrev pub last_words : StmKind → List (List ℕ)
last_words (Set r a) = register_word r ∷ atom_word a ∷ []
last_words (Conv k r a) = register_word r ∷ atom_word a ∷ []
last_words (Un op k r a) = register_word r ∷ atom_word a ∷ []
last_words (Bin op k r a b) = register_word r ∷ atom_word a ∷ atom_word b ∷ []
last_words (Cmp op r a b) = register_word r ∷ atom_word a ∷ atom_word b ∷ []
last_words (Add r p a s) = register_word r ∷ atom_word p ∷ atom_word a ∷ signed_decimal s ∷ []
last_words (Sub r p a s) = register_word r ∷ atom_word p ∷ atom_word a ∷ signed_decimal s ∷ []
last_words (Off r p c) = register_word r ∷ atom_word p ∷ signed_decimal c ∷ []
last_words (Diff r p q s) = register_word r ∷ atom_word p ∷ atom_word q ∷ signed_decimal s ∷ []
last_words (Pcmp op r p q) = register_word r ∷ atom_word p ∷ atom_word q ∷ []
last_words (Test r p) = register_word r ∷ atom_word p ∷ []
last_words (Load k r p) = register_word r ∷ atom_word p ∷ []
last_words (Loadp r p) = register_word r ∷ atom_word p ∷ []
last_words (Store k p a) = atom_word p ∷ atom_word a ∷ []
last_words (Storep p q) = atom_word p ∷ atom_word q ∷ []
last_words (Copy p q n) = atom_word p ∷ atom_word q ∷ signed_decimal n ∷ []
last_words (Clear p n) = atom_word p ∷ signed_decimal n ∷ []
last_words (Jump l) = decimal l ∷ []
last_words (Zero a l) = atom_word a ∷ decimal l ∷ []
last_words (Case a v l) = atom_word a ∷ signed_decimal v ∷ decimal l ∷ []
last_words (Loop l) = decimal l ∷ []
last_words (Call f r args) = result_word r ∷ map atom_word args
last_words (Malloc r n t) = register_word r ∷ atom_word n ∷ layout_word t ∷ []
last_words (Calloc r m n t) = register_word r ∷ atom_word m ∷ atom_word n ∷ layout_word t ∷ []
last_words (Realloc r p n t) = register_word r ∷ atom_word p ∷ atom_word n ∷ layout_word t ∷ []
last_words (Free p) = atom_word p ∷ []
last_words (Lib name r args) = result_word r ∷ map atom_word args
last_words (Printf r format args) = register_word r ∷ format_word format ∷ map atom_word args
last_words Enter = []
last_words Leave = []
last_words (Return a) = answer_word a ∷ []
