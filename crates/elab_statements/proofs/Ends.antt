-- The end of a body, with which no function runs any more.
use Rattle.std.proofs.Common.{◌≡◌, ◌+◌, ℕ, Bool, true, false, List, [], ◌∷◌, ◌++◌, refl}
use Rattle.std.specs.Prelude.{nat_lt}
use Rattle.std.specs.List.{sum_by}
use Rattle.core_tree.specs.declared.statements.StmKind.TheVariants.{Return}
use Rattle.c_types.specs.Types.{PlainType}
use Rattle.c_decls.specs.declared.refusal.TypeKind.{TypeKind}
use Rattle.c_decls.specs.declared.refusal.TypeKind.TheVariants.{ProgramTooLong}
use Rattle.c_decls.specs.Refusals.{unless}
use Rattle.std.specs.Prelude.{Ok}
use Rattle.elaboration.specs.Context.{Context, emit}
use Rattle.elaboration.specs.Externals.{last_answer, params_of, piece_length, body_ended}
use Rattle.elab_base.specs.Idle.{idle, idled, body_closed}

idled_unless : (test : Bool) (kind : TypeKind) (line : ℕ) (c : Context) → unless test kind line (Ok (idle c)) ≡ idled (unless test kind line (Ok c))
idled_unless true kind line c = refl
idled_unless false kind line c = refl

abbrev with_body : ℕ → List ℕ → PlainType → Context → Context
with_body total name type d = record d {
  scopes = record { file = d.scopes.file; inner = [] };
  length = total;
  walked = d.walked ++ (record { name = name; params = params_of type; running = d.running; code = d.code }) ∷ [];
}

pub closed_is : (line : ℕ) (name : List ℕ) (type : PlainType) (end : ℕ) (c : Context) →
    body_closed line name type (emit end (Return (last_answer c.running.answer)) c) ≡ idled (body_ended line name type end c)
closed_is line name type end c =
    let d : Context = emit end (Return (last_answer c.running.answer)) c in
    let total : ℕ = d.length + sum_by piece_length d.code.pieces in
    idled_unless (nat_lt 268435456 total) ProgramTooLong line (with_body total name type d)
