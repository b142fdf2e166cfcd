-- Between external declarations no function runs: what was kept of the last one is not looked at again.
use Rattle.std.specs.Prelude.{ℕ, ◌+◌, nat_lt, List, [], ◌∷◌, ◌++◌, Ok}
use Rattle.std.specs.List.{sum_by}
use Rattle.c_types.specs.Types.{PlainType}
use Rattle.c_decls.specs.declared.refusal.TypeKind.TheVariants.{ProgramTooLong}
use Rattle.c_decls.specs.Refusals.{Checked, then, unless}
use Rattle.elaboration.specs.Context.{Context}
use Rattle.elaboration.specs.Externals.{begun, params_of, piece_length}

abbrev pub idle : Context → Context
idle c = begun 0 [] c

abbrev pub idled : Checked Context → Checked Context
idled answer = then answer (λ c. Ok (idle c))

-- the end of a body, behind its last statement
abbrev pub body_closed : ℕ → List ℕ → PlainType → Context → Checked Context
body_closed line name type c =
    let total = c.length + sum_by piece_length c.code.pieces in
    unless (nat_lt 268435456 total) ProgramTooLong line
    (Ok (idle (record c {
      scopes = record { file = c.scopes.file; inner = [] };
      length = total;
      walked = c.walked ++ (record { name = name; params = params_of type; running = c.running; code = c.code }) ∷ [];
    })))
