-- Every line leaves formed tokens and macros.
use Rattle.std.proofs.Common.{◌≡◌, ℕ, ◌+◌, ◌-◌, ◌≤◌, Bool, true, false, cond, ◌||◌, not, bytes_eq, List, [], ◌∷◌, ◌++◌, map, length, ◌==◌, Option, Some, None, option_map, Result, Ok, Err, All, refl, sym, ap, subst, arith, codes, length-append, length-drop, ◌&&◌}
use Rattle.std.proofs.lemmas.List.{length-map}
use Rattle.std.specs.Prelude.{is_some, IfSome}
use Rattle.std.proofs.lemmas.List.Elements.{All-nil, All-cons, All-head, All-tail, All-append, All-map, All-weaker}
use Rattle.c_lexer.specs.Gaps.{include_end}
use Rattle.c_lexer.specs.Tokens.{first_place, IsLexed}
use Rattle.c_lexer.specs.Readers.{pieces_from}
use Rattle.c_lexer.specs.declared.token.Token.{Token}
use Rattle.c_lexer.specs.declared.token.LexError.{LexError}
use Rattle.c_lexer.specs.declared.token.LexError.TheVariants as lex
use Rattle.c_lexer.specs.declared.token.LexKind.TheVariants.{BadByte}
use Rattle.c_lexer.specs.Cutting.{PiecesAreTheCut, TokensHaveForms}
use Rattle.c_pre.specs.Formed.{IsFormed, IsFormedMacro, IsFormedEntry, Formed}
use Rattle.c_pre.specs.After.{and_then, at_line}
use Rattle.c_pre.specs.Comments.{begins_with}
use Rattle.c_pre.specs.Lines.{behind_spaces, behind_hash, directive_rest, first_word}
use Rattle.c_pre.specs.Texts.{most_bytes}
use Rattle.c_lexer.specs.Bytes.{is_space}
use Rattle.std.specs.List.{list_all, prefix_len}
use Rattle.c_pre.specs.Groups.{is_live, is_read, is_over, first_line, opened, turned, branched, closed, skipped}
use Rattle.c_pre.specs.Conditions.{condition_asked}
use Rattle.c_pre.specs.Directives.{is_name, is_sign, is_among, is_path_byte, path_of, included_name, is_string_kind, variadic_name, dots_from, names_from, signature_of, with_signature, function_behind, macro_behind, takes_arguments, define_of, include_of, only_name, named_by, alone, is_line_number, line_of, directive_by, directive_of}
use Rattle.c_pre.specs.Macros.{found, with_entry, same_macro, defined_by, defined}
use Rattle.c_pre.specs.Expansion.{expanded, fresh, most_work}
use Rattle.c_pre.specs.Reading.{lexed, rest_lexed, moved, plain, with_expanded, with_run, run_ended, behind_line, at_header, Step, step, with_groups, with_macros, obeyed, of_form, of_tokens, directive_on, directed_from, directed, passed, line_by, line_read, balanced, text_ended}
use Rattle.c_pre.specs.declared.groups.Group.{Group}
use Rattle.c_pre.specs.Table.{Table}
use Rattle.c_pre.specs.declared.macros.Defined.{Defined}
use Rattle.c_pre.specs.declared.macros.Macro.{Macro}
use Rattle.c_pre.specs.declared.marked.Marked.{Marked}
use Rattle.c_pre.specs.declared.scan.Expanded.{Expanded}
use Rattle.c_pre.specs.declared.directive.Signature.{Signature}
use Rattle.c_pre.specs.declared.directive.Naming.{Naming}
use Rattle.c_pre.specs.declared.directive.Naming.TheVariants as naming
use Rattle.c_pre.specs.declared.directive.Directive.{Directive}
use Rattle.c_pre.specs.declared.directive.Directive.TheVariants.{Empty, Include, Define, Undefine, Group as GroupOf, If, ElseIf, Else, EndIf}
use Rattle.c_pre.specs.declared.answer.PreKind.{PreKind}
use Rattle.c_pre.specs.declared.answer.PreKind.TheVariants.{Redefined, Error}
use Rattle.c_pre.specs.declared.answer.Refusal.{Refusal}
use Rattle.c_pre.specs.declared.answer.Refusal.TheVariants.{Bad, Lex, NoMemory}
use Rattle.c_pre.specs.declared.here.Here.{Here}
use Rattle.c_pre.specs.declared.progress.Progress.{Progress}
use Rattle.c_pre.proofs.Lexed.{few_cut, short_cut}
use Rattle.c_pre.proofs.Formed.{OnScan, expanded_scan}
use Rattle.c_pre.proofs.Asked.{AsksMore, asks_more}

abbrev OnTokens : ℕ → Result (List Token) LexError → Type 0
OnTokens most (Ok tokens) = All IsFormed tokens × (length tokens ≤ most)
OnTokens most (Err e) = Unit {0}

both_hold : (text : List ℕ) (tokens : List Token) → length text ≤ most_bytes → All IsLexed tokens → All (λ (t : Token). length t.bytes ≤ length text) tokens → All IsFormed tokens
both_hold text tokens low lexed short = λ k d within. (lexed k d within, omega (arith, low, short k d within))

-- what is read of a text is its cut, with the forms of tokens: the law `pieces_are_the_cut` of `c_lexer`
abbrev pub Cuts : Type 0
Cuts = PiecesAreTheCut × TokensHaveForms

lexed_formed : Cuts → (text : List ℕ) → length text ≤ most_bytes → OnTokens (length text) (lexed text)
unfolding lexed
lexed_formed cuts text low = by (lexed text) refl where
  by : (r : Result (List Token) LexError) → lexed text ≡ r → OnTokens (length text) r
  by (Ok tokens) e = (
    both_hold text tokens low (cuts.1 text (pieces_from first_place 0 text) tokens (cuts.0 text) e)
        (short_cut (length text) first_place text (pieces_from first_place 0 text) tokens (cuts.0 text) (omega arith) e),
    few_cut first_place text (pieces_from first_place 0 text) tokens (cuts.0 text) e,
  )
  by (Err f) e = tt

rest_by : Cuts → (b : Bool) (rest : List ℕ) → length rest ≤ most_bytes → OnTokens (length rest) (cond b (Err (lex.Bad BadByte 1)) (lexed rest))
rest_by cuts true rest low = tt
rest_by cuts false rest low = lexed_formed cuts rest low

-- behind so much work, no more tokens than this, but for those that work put in
abbrev OnProgress : ℕ → ℕ → Result Progress Refusal → Type 0
OnProgress n w (Ok p) = Formed p × (length p.tokens + w ≤ n + p.work) × (w ≤ most_work → p.work ≤ most_work)
OnProgress n w (Err e) = Unit {0}

with_expanded_formed : (base : ℕ) (p : Progress) (tokens : List Marked) (r : Result Expanded Refusal) → Formed p → OnScan p.work tokens r → OnProgress (length p.tokens + length tokens) p.work (with_expanded base p r)
with_expanded_formed base p tokens (Ok e) f h = (
  record { tokens = All-append IsFormed p.tokens (map plain e.tokens) f.tokens (All-map IsFormed plain e.tokens h.0); macros = f.macros },
  omega (arith, h.1, length-append p.tokens (map plain e.tokens), length-map e.tokens plain),
  h.3,
)
with_expanded_formed base p tokens (Err (Bad kind line)) f h = tt
with_expanded_formed base p tokens (Err (Lex kind line)) f h = tt
with_expanded_formed base p tokens (Err NoMemory) f h = tt

moved_formed : (lines : ℕ) (token : Token) → IsFormed token → IsFormed (moved lines token)
moved_formed lines token h = ((h.0.0, omega (arith, h.0.1)), h.1)

more_progress : (n m w : ℕ) (r : Result Progress Refusal) → n ≤ m → OnProgress n w r → OnProgress m w r
more_progress n m w (Ok p) low h = (h.0, omega (arith, h.1, low), h.2)
more_progress n m w (Err e) low h = tt

with_run_formed : (here : Here) (p : Progress) (most : ℕ) (r : Result (List Token) LexError) → OnTokens most r → Formed p → OnProgress (length p.tokens + most) p.work (with_run here p r)
with_run_formed here p most (Ok tokens) t f =
    let lines = here.base + (here.run_line - 1) in
    let toks = map (moved lines) tokens in
    more_progress (length p.tokens + length (map fresh toks)) (length p.tokens + most) p.work (with_expanded here.base p (expanded p.macros toks p.work)) (omega (arith, t.1, length-map toks fresh, length-map tokens (moved lines)))
    (with_expanded_formed here.base p (map fresh toks) (expanded p.macros toks p.work) f
    (expanded_scan p.macros toks p.work f.macros (All-map IsFormed (moved lines) tokens (All-weaker IsFormed (λ token. IsFormed (moved lines token)) (moved_formed lines) tokens t.0))))
with_run_formed here p most (Err (lex.Bad kind line)) t f = tt
with_run_formed here p most (Err lex.NoMemory) t f = tt

run_ended_formed : Cuts → (here : Here) (p : Progress) → length here.run ≤ most_bytes → Formed p → OnProgress (length p.tokens + length here.run) p.work (run_ended here p)
unfolding run_ended
run_ended_formed cuts here p low f = with_run_formed here p (length here.run) (lexed here.run) (lexed_formed cuts here.run low) f

-- an included text has a name that it may have
abbrev pub OnName : Option (List ℕ) → Type 0
OnName None = Unit {0}
OnName (Some name) = list_all is_path_byte name ≡ true

path_by : (a b : Bool) (bytes : List ℕ) → (b ≡ list_all is_path_byte bytes) → OnName (cond (a && b) (Some bytes) None)
path_by true true bytes is = sym is
path_by true false bytes is = tt
path_by false b bytes is = tt

path_named : (bytes : List ℕ) → OnName (path_of bytes)
path_named bytes = path_by (not (length bytes == 0)) (list_all is_path_byte bytes) bytes refl

string_by : (b : Bool) (o : Option (List ℕ)) → OnName o → OnName (cond b o None)
string_by true o h = h
string_by false o h = tt

include_named : (args : List Token) → OnName (include_of args)
include_named [] = tt
include_named (token ∷ []) = string_by (is_string_kind token.kind) (included_name token.bytes) (path_named _)
include_named (token ∷ other ∷ tokens) = tt

abbrev OnDirective : Directive → Type 0
OnDirective (Define m) = IsFormedMacro m
OnDirective Empty = Unit {0}
OnDirective (Include name) = list_all is_path_byte name ≡ true
OnDirective (Undefine name) = Unit {0}
OnDirective (GroupOf name wanted) = Unit {0}
OnDirective (If tokens) = All IsFormed tokens
OnDirective (ElseIf tokens) = All IsFormed tokens
OnDirective Else = Unit {0}
OnDirective EndIf = Unit {0}

abbrev OnOption : Option Directive → Type 0
OnOption None = Unit {0}
OnOption (Some d) = OnDirective d

abbrev OnSignature : Option Signature → Type 0
OnSignature None = Unit {0}
OnSignature (Some s) = All IsFormed s.replacement

pick_signature : (b : Bool) (x y : Option Signature) → OnSignature x → OnSignature y → OnSignature (cond b x y)
pick_signature true x y hx hy = hx
pick_signature false x y hx hy = hy

dots_formed : (names : List (List ℕ)) (tokens : List Token) → All IsFormed tokens → OnSignature (dots_from names tokens)
dots_formed names [] h = tt
dots_formed names (second ∷ []) h = tt
dots_formed names (second ∷ third ∷ []) h = tt
dots_formed names (second ∷ third ∷ sign ∷ behind) h =
    pick_signature (is_sign 46 second && is_sign 46 third && is_sign 41 sign && not (is_among names variadic_name)) (Some (record { names = names ++ variadic_name ∷ []; variadic = true; replacement = behind })) None
    (All-tail IsFormed sign behind (All-tail IsFormed third (sign ∷ behind) (All-tail IsFormed second (third ∷ sign ∷ behind) h))) tt

names_formed : (names : List (List ℕ)) (tokens : List Token) → All IsFormed tokens → OnSignature (names_from names tokens)
names_formed names [] h = tt
names_formed names (name ∷ []) h = tt
names_formed names (name ∷ sign ∷ behind) h =
    let more = All-tail IsFormed sign behind (All-tail IsFormed name (sign ∷ behind) h) in
    pick_signature (is_sign 46 name) (dots_from names (sign ∷ behind)) _
    (dots_formed names (sign ∷ behind) (All-tail IsFormed name (sign ∷ behind) h))
    (pick_signature (not (is_name name) || is_among names name.bytes) None _ tt
    (pick_signature (is_sign 41 sign) (Some (record { names = names ++ name.bytes ∷ []; variadic = false; replacement = behind })) _ more
    (pick_signature (is_sign 44 sign) (names_from (names ++ name.bytes ∷ []) behind) None (names_formed (names ++ name.bytes ∷ []) behind more) tt)))

signature_formed : (tokens : List Token) → All IsFormed tokens → OnSignature (signature_of tokens)
signature_formed [] h = tt
signature_formed (first ∷ rest) h =
    pick_signature (is_sign 41 first) (Some (record { names = []; variadic = false; replacement = rest })) (names_from [] (first ∷ rest)) (All-tail IsFormed first rest h) (names_formed [] (first ∷ rest) h)

abbrev OnMacro : Option Macro → Type 0
OnMacro None = Unit {0}
OnMacro (Some m) = IsFormedMacro m

with_signature_formed : (name : List ℕ) (o : Option Signature) → OnSignature o → OnMacro (option_map (with_signature name) o)
with_signature_formed name None h = tt
with_signature_formed name (Some s) h = h

function_formed : (name : List ℕ) (behind : List Token) → All IsFormed behind → OnMacro (function_behind name behind)
function_formed name [] h = tt
function_formed name (paren ∷ inner) h = with_signature_formed name (signature_of inner) (signature_formed inner (All-tail IsFormed paren inner h))

macro_formed : (b : Bool) (name : List ℕ) (behind : List Token) → All IsFormed behind → OnMacro (macro_behind b name behind)
macro_formed true name behind h = function_formed name behind h
macro_formed false name behind h = h

define_on : (o : Option Macro) → OnMacro o → OnOption (option_map Define o)
define_on None h = tt
define_on (Some m) h = h

pick : (b : Bool) (x y : Option Directive) → OnOption x → OnOption y → OnOption (cond b x y)
pick true x y hx hy = hx
pick false x y hx hy = hy

define_formed : (rest : List ℕ) (args : List Token) → All IsFormed args → OnOption (define_of rest args)
define_formed rest [] h = tt
define_formed rest (name ∷ behind) h =
    pick (is_name name) (option_map Define (macro_behind (takes_arguments rest) name.bytes behind)) None
    (define_on (macro_behind (takes_arguments rest) name.bytes behind) (macro_formed (takes_arguments rest) name.bytes behind (All-tail IsFormed name behind h))) tt

include_on : (o : Option (List ℕ)) → OnName o → OnOption (option_map Include o)
include_on None h = tt
include_on (Some name) h = h

naming_on : (n : Naming) (name : List ℕ) → OnDirective (named_by n name)
naming_on naming.Undefine name = tt
naming_on (naming.Group wanted) name = tt

named_on : (n : Naming) (o : Option (List ℕ)) → OnOption (option_map (named_by n) o)
named_on n None = tt
named_on n (Some name) = naming_on n name

alone_on : (d : Directive) (args : List Token) → OnDirective d → OnOption (alone d args)
alone_on d [] h = h
alone_on d (token ∷ tokens) h = tt

line_on : (args : List Token) → OnOption (line_of args)
line_on [] = tt
line_on (number ∷ []) = pick (is_line_number number) (Some Empty) None tt tt
line_on (number ∷ name ∷ []) = pick (is_line_number number && is_string_kind name.kind) (Some Empty) None tt tt
line_on (number ∷ name ∷ other ∷ tokens) = tt

directive_by_formed : (word rest : List ℕ) (args : List Token) → All IsFormed args → OnOption (directive_by word rest args)
unfolding directive_by
directive_by_formed word rest args h =
    pick (bytes_eq word (codes "define")) _ _ (define_formed rest args h)
    (pick (bytes_eq word (codes "include")) _ _ (include_on (include_of args) (include_named args))
    (pick (bytes_eq word (codes "undef")) _ _ (named_on naming.Undefine (only_name args))
    (pick (bytes_eq word (codes "ifdef")) _ _ (named_on (naming.Group true) (only_name args))
    (pick (bytes_eq word (codes "ifndef")) _ _ (named_on (naming.Group false) (only_name args))
    (pick (bytes_eq word (codes "if")) (Some (If args)) _ h
    (pick (bytes_eq word (codes "elif")) (Some (ElseIf args)) _ h
    (pick (bytes_eq word (codes "else")) _ _ (alone_on Else args tt)
    (pick (bytes_eq word (codes "endif")) _ _ (alone_on EndIf args tt)
    (pick (bytes_eq word (codes "line")) (line_of args) None (line_on args) tt)))))))))

directive_formed : (rest : List ℕ) (tokens : List Token) → All IsFormed tokens → OnOption (directive_of rest tokens)
directive_formed rest [] h = tt
directive_formed rest (word ∷ args) h = directive_by_formed word.bytes rest args (All-tail IsFormed word args h)

abbrev OnResult : Result Directive Refusal → Type 0
OnResult (Ok d) = OnDirective d
OnResult (Err e) = Unit {0}

form_formed : (line : ℕ) (o : Option Directive) → OnOption o → OnResult (of_form line o)
form_formed line None h = tt
form_formed line (Some d) h = h

tokens_formed : (line most : ℕ) (rest : List ℕ) (r : Result (List Token) LexError) → OnTokens most r → OnResult (of_tokens line rest r)
tokens_formed line most rest (Ok tokens) h = form_formed line (directive_of rest tokens) (directive_formed rest tokens h.0)
tokens_formed line most rest (Err (lex.Bad kind at)) h = tt
tokens_formed line most rest (Err lex.NoMemory) h = tt

pragma_by : (b : Bool) (r : Result Directive Refusal) → OnResult r → OnResult (cond b (Ok Empty) r)
pragma_by true r h = tt
pragma_by false r h = h

error_by : (b : Bool) (e : Refusal) (r : Result Directive Refusal) → OnResult r → OnResult (cond b (Err e) r)
error_by true e r h = tt
error_by false e r h = h

directive_on_formed : Cuts → (line : ℕ) (rest : List ℕ) → length rest ≤ most_bytes → OnResult (directive_on line rest)
directive_on_formed cuts line rest low =
    pragma_by (bytes_eq (first_word rest) (codes "pragma")) _
    (error_by (bytes_eq (first_word rest) (codes "error")) (Bad Error line) (of_tokens line rest (rest_lexed rest))
    (tokens_formed line (length rest) rest (rest_lexed rest) (rest_by cuts (begins_with 35 (behind_spaces rest)) rest low)))

-- the tokens so far and those of the run are no more than this
abbrev pub Holds : ℕ → ℕ → Here → Progress → Type 0
Holds n w here p =
    Formed p × (length p.tokens + length here.run + w ≤ n + p.work) × (w ≤ most_work → p.work ≤ most_work)

abbrev OnStep : ℕ → ℕ → Result Step Refusal → Type 0
OnStep n w (Ok s) = Holds n w s.here s.progress × OnName s.include
OnStep n w (Err e) = Unit {0}

groups_formed : (n w : ℕ) (here : Here) (p : Progress) (r : Result (List Group) Refusal) → Holds n w here p → OnStep n w (with_groups here p r)
groups_formed n w here p (Ok groups) f = (f, tt)
groups_formed n w here p (Err e) f = tt

abbrev IsFormedTable : Table → Type 0
IsFormedTable table = All IsFormedEntry table.names

abbrev OnMacros : Result Table PreKind → Type 0
OnMacros (Ok table) = IsFormedTable table
OnMacros (Err e) = Unit {0}

redefined : (b : Bool) (table : Table) → IsFormedTable table → OnMacros (cond b (Ok table) (Err Redefined))
redefined true table h = h
redefined false table h = tt

entry_by : (b : Bool) (x y : List (List ℕ × Option Defined)) → All IsFormedEntry x → All IsFormedEntry y → All IsFormedEntry (cond b x y)
entry_by true x y hx hy = hx
entry_by false x y hx hy = hy

entry_formed : (name : List ℕ) (o : Option Defined) (names : List (List ℕ × Option Defined)) → IfSome o (λ m. IsFormedMacro m.it) → All IsFormedEntry names → All IsFormedEntry (with_entry name o names)
entry_formed name o [] f h = All-cons IsFormedEntry (name, o) [] f (All-nil IsFormedEntry)
entry_formed name o (entry ∷ names) f h =
    let more = All-tail IsFormedEntry entry names h in
    entry_by (bytes_eq name entry.0) ((entry.0, o) ∷ names) (entry ∷ with_entry name o names)
    (All-cons IsFormedEntry (entry.0, o) names f more)
    (All-cons IsFormedEntry entry (with_entry name o names) (All-head IsFormedEntry entry names h) (entry_formed name o names f more))

defined_formed : (o : Option Defined) (m : Macro) (table : Table) → IsFormedMacro m → IsFormedTable table → OnMacros (defined_by o m table)
defined_formed None m table n h = entry_formed m.name (Some (record { number = table.count; it = m })) table.names n h
defined_formed (Some before) m table n h = redefined (same_macro before.it m) table h

macros_formed : (n w line : ℕ) (here : Here) (p : Progress) (r : Result Table PreKind) → Holds n w here p → OnMacros r → OnStep n w (with_macros here p (at_line line r))
macros_formed n w line here p (Ok table) f h = ((record { tokens = f.0.tokens; macros = h }, f.1, f.2), tt)
macros_formed n w line here p (Err e) f h = tt

-- what was read so far, with the work that a condition took
abbrev OnAsked : ℕ → ℕ → Here → Result (Bool × Progress) Refusal → Type 0
OnAsked n w here (Ok a) = Holds n w here a.1
OnAsked n w here (Err e) = Unit {0}

asked_holds : (n w : ℕ) (here : Here) (p : Progress) (r : Result (Bool × Progress) Refusal) → Holds n w here p → AsksMore p r → OnAsked n w here r
asked_holds n w here p (Err e) f h = tt
asked_holds n w here p (Ok a) f h = (
  record { tokens = subst (All IsFormed) (sym h.tokens) f.0.tokens; macros = subst (λ (t : Table). All IsFormedEntry t.names) (sym h.macros) f.0.macros },
  omega (arith, f.1, h.more, ap length h.tokens),
  λ k. h.most (f.2 k),
)

if_formed : (n w : ℕ) (here : Here) (r : Result (Bool × Progress) Refusal) → OnAsked n w here r → OnStep n w (and_then r (λ a. Ok (step (record here { groups = here.groups ++ opened here.line a.0 ∷ [] }) a.1)))
if_formed n w here (Ok a) h = (h, tt)
if_formed n w here (Err e) h = tt

else_if_formed : (n w : ℕ) (here : Here) (r : Result (Bool × Progress) Refusal) → OnAsked n w here r → OnStep n w (and_then r (λ a. with_groups here a.1 (at_line here.line (branched a.0 here.groups))))
else_if_formed n w here (Ok a) h = groups_formed n w here a.1 (at_line here.line (branched a.0 here.groups)) h
else_if_formed n w here (Err e) h = tt

obeyed_formed : (n w : ℕ) (d : Directive) (here : Here) (p : Progress) → OnDirective d → Holds n w here p → OnStep n w (obeyed d here p)
unfolding obeyed
obeyed_formed n w Empty here p h f = (f, tt)
obeyed_formed n w (Include name) here p h f = (f, h)
obeyed_formed n w (Define m) here p h f = macros_formed n w here.line here p (defined m p.macros) f (defined_formed (found m.name p.macros) m p.macros h f.0.macros)
obeyed_formed n w (Undefine name) here p h f = ((record { tokens = f.0.tokens; macros = entry_formed name None p.macros.names tt f.0.macros }, f.1, f.2), tt)
obeyed_formed n w (GroupOf name wanted) here p h f = (f, tt)
obeyed_formed n w (If tokens) here p h f =
    if_formed n w here (condition_asked here.line tokens p)
    (asked_holds n w here p (condition_asked here.line tokens p) f (asks_more here.line tokens p h f.0.macros))
obeyed_formed n w (ElseIf tokens) here p h f =
    else_if_formed n w here (condition_asked here.line tokens p)
    (asked_holds n w here p (condition_asked here.line tokens p) f (asks_more here.line tokens p h f.0.macros))
obeyed_formed n w Else here p h f = groups_formed n w here p (at_line here.line (turned here.groups)) f
obeyed_formed n w EndIf here p h f = groups_formed n w here p (at_line here.line (closed here.groups)) f

then_obeyed : (n w : ℕ) (r : Result Directive Refusal) (here : Here) (p : Progress) → OnResult r → Holds n w here p → OnStep n w (and_then r (λ d. obeyed d here p))
then_obeyed n w (Ok d) here p h f = obeyed_formed n w d here p h f
then_obeyed n w (Err e) here p h f = tt

from_formed : Cuts → (n w : ℕ) (b over : Bool) (line rest : List ℕ) (here : Here) (p : Progress) → length rest ≤ most_bytes → OnProgress n w (Ok p) → OnStep (n + length line) w (cond b (Ok (step (at_header line here) p)) (cond over (with_groups (behind_line here) p (at_line here.line (branched false here.groups))) (and_then (directive_on here.line rest) (λ d. obeyed d (behind_line here) p))))
from_formed cuts n w true over line rest here p low f = ((f.0, omega (arith, f.1), f.2), tt)
from_formed cuts n w false true line rest here p low f =
    groups_formed (n + length line) w (behind_line here) p (at_line here.line (branched false here.groups)) (f.0, omega (arith, f.1), f.2)
from_formed cuts n w false false line rest here p low f =
    then_obeyed (n + length line) w (directive_on here.line rest) (behind_line here) p (directive_on_formed cuts here.line rest low) (f.0, omega (arith, f.1), f.2)

then_directed : Cuts → (n w : ℕ) (r : Result Progress Refusal) (line rest : List ℕ) (here : Here) → length rest ≤ most_bytes → OnProgress n w r → OnStep (n + length line) w (and_then r (λ q. directed_from line rest here q))
then_directed cuts n w (Ok q) line rest here low f = from_formed cuts n w (is_some (include_end rest)) (is_over (first_word rest) here.groups) line rest here q low f
then_directed cuts n w (Err e) line rest here low f = tt

directed_formed : Cuts → (line rest : List ℕ) (here : Here) (p : Progress) → length here.run ≤ most_bytes → length rest ≤ most_bytes → Formed p → OnStep (length p.tokens + length here.run + length line) p.work (directed line rest here p)
unfolding directed
directed_formed cuts line rest here p run low f =
    then_directed cuts (length p.tokens + length here.run) p.work (run_ended here p) line rest here low (run_ended_formed cuts here p run f)

passed_formed : (line rest : List ℕ) (here : Here) (p : Progress) → Formed p → OnStep (length p.tokens + length here.run + length line) p.work (passed rest here p)
unfolding passed
passed_formed line rest here p f =
    groups_formed (length p.tokens + length here.run + length line) p.work (behind_line here) p (at_line here.line (skipped (first_word rest) here.line here.groups)) (f, omega arith, λ k. k)

pick_step : (n w : ℕ) (b : Bool) (x y : Result Step Refusal) → OnStep n w x → OnStep n w y → OnStep n w (cond b x y)
pick_step n w true x y hx hy = hx
pick_step n w false x y hx hy = hy

text_holds : (b : Bool) (line : List ℕ) (here : Here) (p : Progress) → Formed p → Holds (length p.tokens + length here.run + length line) p.work (cond b (record here { run = here.run ++ line }) here) p
text_holds true line here p f = (f, omega (arith, length-append here.run line), λ k. k)
text_holds false line here p f = (f, omega arith, λ k. k)

-- what stands behind the `#` of a line is short
abbrev OnRest : Option (List ℕ) → Type 0
OnRest None = Unit {0}
OnRest (Some rest) = length rest ≤ most_bytes

hash_by : (b : Bool) (w : List ℕ) → length w ≤ most_bytes → OnRest (cond b (Some w) None)
hash_by true w low = low
hash_by false w low = tt

hash_short : (text : List ℕ) → length text ≤ most_bytes → OnRest (behind_hash text)
hash_short [] low = tt
hash_short (b ∷ w) low = hash_by (b == 35) w (omega (arith, low))

line_by_formed : Cuts → (o : Option (List ℕ)) (line : List ℕ) (here : Here) (p : Progress) → length here.run ≤ most_bytes → OnRest o → Formed p → OnStep (length p.tokens + length here.run + length line) p.work (line_by o line here p)
line_by_formed cuts None line here p run low f = (text_holds (is_live here.groups) line here p f, tt)
line_by_formed cuts (Some rest) line here p run low f =
    pick_step (length p.tokens + length here.run + length line) p.work (is_read (first_word rest) here.groups) (directed line rest here p) (passed rest here p) (directed_formed cuts line rest here p run low f) (passed_formed line rest here p f)

pub line_formed : Cuts → (line : List ℕ) (here : Here) (p : Progress) (s : Step) → length here.run ≤ most_bytes → length line ≤ most_bytes → Formed p → line_read line here p ≡ Ok s → Holds (length p.tokens + length here.run + length line) p.work s.here s.progress × OnName s.include
unfolding line_read
line_formed cuts line here p s run low f e =
    let rest = hash_short (behind_spaces line) (omega (arith, low, length-drop (prefix_len is_space line) line)) in
    let h : OnStep (length p.tokens + length here.run + length line) p.work (Ok s) = subst (OnStep (length p.tokens + length here.run + length line) p.work) e (line_by_formed cuts (directive_rest line) line here p run rest f) in
    h

balanced_formed : (n w : ℕ) (o : Option ℕ) (p : Progress) → OnProgress n w (Ok p) → OnProgress n w (balanced o p)
balanced_formed n w None p f = f
balanced_formed n w (Some line) p f = tt

then_balanced : (n w : ℕ) (r : Result Progress Refusal) (here : Here) → OnProgress n w r → OnProgress n w (and_then r (λ q. balanced (first_line here.groups) q))
then_balanced n w (Ok q) here f = balanced_formed n w (first_line here.groups) q f
then_balanced n w (Err e) here f = tt

pub text_formed : Cuts → (here : Here) (p q : Progress) → length here.run ≤ most_bytes → Formed p → text_ended here p ≡ Ok q → Formed q × (length q.tokens + p.work ≤ length p.tokens + length here.run + q.work) × (p.work ≤ most_work → q.work ≤ most_work)
unfolding text_ended
text_formed cuts here p q run f e =
    let h : OnProgress (length p.tokens + length here.run) p.work (Ok q) = subst (OnProgress (length p.tokens + length here.run) p.work) e (then_balanced (length p.tokens + length here.run) p.work (run_ended here p) here (run_ended_formed cuts here p run f)) in
    h
