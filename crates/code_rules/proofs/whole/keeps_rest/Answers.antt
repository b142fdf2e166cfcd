use Rattle.std.proofs.Common.{sym, subst}
use Rattle.flat_code.specs.declared.program.Entry.{Entry}
use Rattle.flat_code.specs.Sites.{HasSite, has_site}
use Rattle.flat_code.specs.WellFormed.{EachInstr, IsShort}
use Rattle.code_rules.specs.Answers.{AnswersAlike, AreAnswers, TakesAnswer}
use Rattle.code_rules.proofs.Entries.{all_entries}
use Rattle.code_rules.proofs.Loops.{not_said}
use Rattle.code_rules.proofs.Wholes.{alike_of, ends_within, last, refused, sites_of, starts_before, taken_of}
use Rattle.code_rules.proofs.whole.keeps_rest.Goals as goal

pub returns-then-not-branch : goal.returns-then-not-branch
returns-then-not-branch c =
    let code = c.args.code.now in let told = c.as_slice-told.result.now in
    let are = subst (AreAnswers code) (sym c.as_slice-told.ensures.value) c.in_ok-found.ensures in
    refused code (EachInstr code (AnswersAlike code told)) (alike_of code told are) (not_said c.if-not-branch.true c.in_ok-each_instr.ensures)

pub returns-then-not-branch-2 : goal.returns-then-not-branch-2
returns-then-not-branch-2 c =
    let code = c.args.code.now in let told = c.as_slice-told.result.now in
    let are = subst (AreAnswers code) (sym c.as_slice-told.ensures.value) c.in_ok-found.ensures in
    refused code (EachInstr code (λ f entry point i. TakesAnswer told entry i i.op)) (taken_of code told are) (not_said c.if-not-branch-2.true c.in_ok-each_instr-2.ensures)

pub have_scopes-requires-clause-some : goal.have_scopes-requires-clause-some
have_scopes-requires-clause-some c = starts_before c.args.code.now c.requires.tables.framed

pub have_scopes-requires-clause-end : goal.have_scopes-requires-clause-end
have_scopes-requires-clause-end c = ends_within c.args.code.now c.requires.tables.framed

pub sites_are_right-requires : goal.sites_are_right-requires
sites_are_right-requires c = all_entries c.args.code.now (λ (e : Entry). IsShort e.kinds) (λ f e here. (c.requires.tables.short.registers f e here).0)

pub returns-then-not-branch-4 : goal.returns-then-not-branch-4
returns-then-not-branch-4 c =
    let code = c.args.code.now in
    refused code (EachInstr code (λ f entry point i. HasSite code entry point i (has_site i.op))) (sites_of code) (not_said c.if-not-branch-4.true c.in_ok-sites_are_right.ensures)

pub returns : goal.returns
returns c =
    let code = c.args.code.now in let told = c.as_slice-told.result.now in
    let are = subst (AreAnswers code) (sym c.as_slice-told.ensures.value) c.in_ok-found.ensures in
    last code told are c.requires.tables c.requires.flow (c.in_ok-each_instr.ensures.0 c.if-not-branch.false) (c.in_ok-each_instr-2.ensures.0 c.if-not-branch-2.false)
    (c.in_ok-have_scopes.ensures.0 c.if-not-branch-3.false) (c.in_ok-sites_are_right.ensures.0 c.if-not-branch-4.false) c.starts.result c.starts.ensures
