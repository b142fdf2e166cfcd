use Rattle.c_lexer.specs.declared.token.Token.{Token}
use Rattle.std.proofs.Common.{ℕ, ◌+◌, ◌-◌, ◌<◌, ◌≤◌, List, length, take, drop, Some, None, All, sym, ap, subst, ◌∙◌, arith}
use Rattle.std.proofs.lemmas.Result.{err_from_is_err_and}
use Rattle.c_pre.specs.Formed.{IsFormed, IsFormedEntry, Formed}
use Rattle.c_pre.specs.Lines.{lines_of}
use Rattle.c_pre.specs.Texts.{below, most_bytes}
use Rattle.c_pre.specs.declared.here.Here.{Here}
use Rattle.c_pre.specs.declared.progress.Progress.{Progress}
use Rattle.c_pre.proofs.Including.{opened_text, not_opened, source_start, reached, ended, line_refused, line_done, too_deep, include_refused, include_done, text_done, text_refused}
use Rattle.c_pre.proofs.FormedLines.{line_formed, text_formed}
use Rattle.c_pre.proofs.Named.{at_below, include_named, refused_named}
use Rattle.c_pre.proofs.Places.{line_within, line_some}
use Rattle.c_pre.proofs.progress.Progress.+read_text.Goals as goal
use Rattle.c_pre.proofs.progress.Progress.+read_text.Goals.{in-Some+else-left-eq0+in_ok-read_text, in_default}

pub returns-in_err-source-clause-told : goal.returns-in_err-source-clause-told
returns-in_err-source-clause-told g t c = λ told h.
    let p = err_from_is_err_and c.from_residual.result c.from_residual.ensures.1 in
    rw (p.1, p.2) (not_opened (Unit {0}) (below told c.args.left) c.args.name (told c.args.name) c.args.self.now c.open.new.self _ (c.in_err-source.ensures.told told h))

pub lines-init : goal.lines-init
lines-init g t c =
    let e = c.new-here.ensures in
    record {
      told = λ told h. source_start (below told c.args.left) c.in_ok-source.source c.new-here.result c.open.new.self e;
      keeps = c.in_ok-source.ensures.keeps;
      count = c.in_ok-source.ensures.cause;
      formed = λ f. record {
        tokens = subst (All IsFormed) (sym c.in_ok-source.ensures.opens.tokens) f.tokens;
        macros = subst (λ t. All IsFormedEntry t.names) (sym c.in_ok-source.ensures.opens.macros) f.macros;
      };
      few = λ f. omega (arith, ap (λ (l : List Token). length l) c.in_ok-source.ensures.opens.tokens, ap (λ (h : Here). length h.run) e, c.in_ok-source.ensures.opens.used, c.in_ok-source.ensures.opens.work);
      work = λ f k. omega (arith, k, c.in_ok-source.ensures.opens.work);
      within = omega arith;
      base = ap (λ (h : Here). h.base) e;
      line = omega (arith, ap (λ (h : Here). h.line) e);
      run_line = omega (arith, ap (λ (h : Here). h.line) e, ap (λ (h : Here). h.run_line) e);
      run = omega (arith, ap (λ (h : Here). length h.run) e);
      most = c.in_ok-source.ensures.opens.most;
      used = omega arith;
      lines = omega (arith, c.in_ok-source.ensures.opens.used, c.in_ok-source.ensures.opens.lines);
    }

pub returns-in-Err-clause-told : goal.returns-in-Err-clause-told
returns-in-Err-clause-told g t c = λ told h.
    let s = c.in_ok-source.source in let l = c.first_line-line in let include = below told c.args.left in
    let start = opened_text include c.args.name (told c.args.name) c.args.self.now c.open.new.self s (c.in_ok-source.ensures.told told h) in
    let i = reached include s l.result.now _ c.lines.at c.lines.here c.lines.self _ (omega arith) (ap (λ (w : List ℕ). take (length w - c.lines.at) (drop c.lines.at w)) c.as_slice.ensures) l.ensures.line l.ensures.len (c.lines.invariant.told told h ∙ sym start) in
    rw c.refused.ensures (line_refused (Unit {0}) include s l.result.now (lines_of (drop (c.lines.at + length l.result.now) s.plain)) c.lines.here c.read_line.new.here c.lines.self c.read_line.new.self c.read_line.new.self _ c.in-Err.refusal i c.in-Err.ensures.step)

pub returns-then-left-eq0-clause-told : goal.returns-then-left-eq0-clause-told
returns-then-left-eq0-clause-told g t c = λ told h.
    let s = c.in_ok-source.source in let l = c.first_line-line in let include = below told c.args.left in
    let lines = lines_of (drop (c.lines.at + length l.result.now) s.plain) in
    let start = opened_text include c.args.name (told c.args.name) c.args.self.now c.open.new.self s (c.in_ok-source.ensures.told told h) in
    let i = reached include s l.result.now _ c.lines.at c.lines.here c.lines.self _ (omega arith) (ap (λ (w : List ℕ). take (length w - c.lines.at) (drop c.lines.at w)) c.as_slice.ensures) l.ensures.line l.ensures.len (c.lines.invariant.told told h ∙ sym start) in
    let d = line_done include s l.result.now lines c.lines.here c.read_line.new.here c.lines.self c.read_line.new.self _ (Some c.in-Some.name) i (rw c.in-Some.is at c.in-Ok.ensures.step) in
    rw c.refused-then-left-eq0.ensures (too_deep (Unit {0}) told c.args.left s lines c.read_line.new.here c.read_line.new.self c.read_line.new.self _ c.in-Some.name c.if-left-eq0.true d)

pub returns-in_err-read_text-clause-told : goal.returns-in_err-read_text-clause-told
returns-in_err-read_text-clause-told g t c = λ told h.
    let s = c.in_ok-source.source in let l = c.first_line-line in let include = below told c.args.left in
    let lines = lines_of (drop (c.lines.at + length l.result.now) s.plain) in
    let start = opened_text include c.args.name (told c.args.name) c.args.self.now c.open.new.self s (c.in_ok-source.ensures.told told h) in
    let i = reached include s l.result.now _ c.lines.at c.lines.here c.lines.self _ (omega arith) (ap (λ (w : List ℕ). take (length w - c.lines.at) (drop c.lines.at w)) c.as_slice.ensures) l.ensures.line l.ensures.len (c.lines.invariant.told told h ∙ sym start) in
    let d = line_done include s l.result.now lines c.lines.here c.read_line.new.here c.lines.self c.read_line.new.self _ (Some c.in-Some.name) i (rw c.in-Some.is at c.in-Ok.ensures.step) in
    let p = err_from_is_err_and c.from_residual-in_err-read_text.result c.from_residual-in_err-read_text.ensures.1 in
    rw (p.1, p.2) (include_refused (Unit {0}) (Unit {0}) told c.args.left (c.args.left - 1) s lines c.read_line.new.here c.read_line.new.self c.read_text.new.self _ c.in-Some.name _ (omega (arith, c.if-left-eq0.false)) d (c.in_err-read_text.ensures.told told (c.lines.invariant.keeps ∙ h)))

pub lines-preserved : goal.lines-preserved
lines-preserved g t c =
    let s = c.in_ok-source.source in let l = c.first_line-line in let line = l.result.now in
    let stays = c.in-Ok.ensures.stays in let counts = c.in-Ok.ensures.counts in
    let inside : c.lines.at < length s.plain = omega arith in
    let within = line_within s.plain c.as_slice.result.now line c.lines.at c.as_slice.ensures inside l.ensures.bound in
    let some = line_some s.plain c.as_slice.result.now line c.lines.at c.as_slice.ensures inside l.ensures.some in
    let opens = c.in_ok-source.ensures.opens in
    let run_short : length c.lines.here.run ≤ most_bytes = omega (arith, c.lines.invariant.run, c.lines.invariant.within, opens.used, opens.most) in
    let line_short : length line ≤ most_bytes = omega (arith, within, opens.used, opens.most) in
    let lines = lines_of (drop (c.lines.at + length line) s.plain) in
    let held = λ (f : Formed c.args.self.now). line_formed (c.pieces_are_the_cut.ensures.cut, c.pieces_are_the_cut.ensures.forms) line c.lines.here c.lines.self _ run_short line_short (c.lines.invariant.formed f) c.in-Ok.ensures.step in
    let rest = ap (λ (w : List ℕ). take (length w - c.lines.at) (drop c.lines.at w)) c.as_slice.ensures in
    elim c.match-include.branch [
      | in-Some+else-left-eq0+in_ok-read_text w ↦
          let done = w.in_ok-read_text.ensures in
          record {
            told = λ told h.
                let include = below told c.args.left in
                let i = reached include s line _ c.lines.at c.lines.here c.lines.self _ inside rest l.ensures.line l.ensures.len (c.lines.invariant.told told h) in
                let d = line_done include s line lines c.lines.here c.read_line.new.here c.lines.self c.read_line.new.self _ (Some w.in-Some.name) i (rw w.in-Some.is at c.in-Ok.ensures.step) in
                rw w.self-is (include_done told c.args.left (c.args.left - 1) s lines c.read_line.new.here c.read_line.new.self w.read_text.new.self _ w.in-Some.name (omega (arith, w.if-left-eq0.false)) d (done.told told (c.lines.invariant.keeps ∙ h)));
            keeps = ap g.T.Texts.texts w.texts-is ∙ (done.keeps ∙ c.lines.invariant.keeps);
            count = ap g.T.Texts.faults w.texts-is ∙ (done.cause ∙ c.lines.invariant.count);
            formed = λ f. subst Formed (sym w.self-is) (done.formed (held f).0.0);
            few = λ f. omega (arith, (held f).0.1, (done.adds (held f).0.0).few, c.lines.invariant.few f, counts.used, within, ap (λ (p : Progress). length p.tokens) w.self-is, ap (λ (p : Progress). p.used) w.self-is, ap (λ (p : Progress). p.work) w.self-is);
            work = λ f k. omega (arith, (done.adds (held f).0.0).work ((held f).0.2 (c.lines.invariant.work f k)), ap (λ (p : Progress). p.work) w.self-is);
            within = within;
            base = stays.base ∙ c.lines.invariant.base;
            line = omega (arith, stays.line, c.lines.invariant.line, some);
            run_line = omega (arith, stays.run_line, stays.line);
            run = omega (arith, stays.run, c.lines.invariant.run);
            most = omega (arith, ap (λ (p : Progress). p.used) w.self-is, done.grows.most);
            used = omega (arith, ap (λ (p : Progress). p.used) w.self-is, done.grows.used, counts.used, c.lines.invariant.used);
            lines = omega (arith, ap (λ (p : Progress). p.used) w.self-is, ap (λ (p : Progress). p.lines) w.self-is, done.grows.lines, counts.used, counts.lines, c.lines.invariant.lines, within, some);
          }
      | in_default w ↦ record {
        told = λ told h.
            let include = below told c.args.left in
            let i = reached include s line _ c.lines.at c.lines.here c.lines.self _ inside rest l.ensures.line l.ensures.len (c.lines.invariant.told told h) in
            rw w.self-is (line_done include s line lines c.lines.here c.read_line.new.here c.lines.self c.read_line.new.self _ None i (rw w.in_default.is at c.in-Ok.ensures.step));
        keeps = ap g.T.Texts.texts w.texts-is ∙ c.lines.invariant.keeps;
        count = ap g.T.Texts.faults w.texts-is ∙ c.lines.invariant.count;
        formed = λ f. subst Formed (sym w.self-is) (held f).0.0;
        few = λ f. omega (arith, (held f).0.1, c.lines.invariant.few f, counts.used, within, ap (λ (p : Progress). length p.tokens) w.self-is, ap (λ (p : Progress). p.used) w.self-is, ap (λ (p : Progress). p.work) w.self-is);
        work = λ f k. omega (arith, (held f).0.2 (c.lines.invariant.work f k), ap (λ (p : Progress). p.work) w.self-is);
        within = within;
        base = stays.base ∙ c.lines.invariant.base;
        line = omega (arith, stays.line, c.lines.invariant.line, some);
        run_line = omega (arith, stays.run_line, stays.line);
        run = omega (arith, stays.run, c.lines.invariant.run);
        most = omega (arith, ap (λ (p : Progress). p.used) w.self-is, counts.used, c.lines.invariant.most);
        used = omega (arith, ap (λ (p : Progress). p.used) w.self-is, counts.used, c.lines.invariant.used);
        lines = omega (arith, ap (λ (p : Progress). p.used) w.self-is, ap (λ (p : Progress). p.lines) w.self-is, counts.used, counts.lines, c.lines.invariant.lines, within, some);
      }
    ]

pub returns-in-Ok-end_text-clause-told : goal.returns-in-Ok-end_text-clause-told
returns-in-Ok-end_text-clause-told g t c = λ told h.
    let s = c.in_ok-source.source in let include = below told c.args.left in
    let start = opened_text include c.args.name (told c.args.name) c.args.self.now c.open.new.self s (c.in_ok-source.ensures.told told h) in
    let i = ended include s c.lines.at c.lines.here c.lines.self _ (omega arith) (c.lines.invariant.told told h ∙ sym start) in
    text_done include s c.lines.here c.lines.self c.end_text.new.self _ i c.in-Ok-end_text.ensures.text

pub returns-in-Err-end_text-clause-told : goal.returns-in-Err-end_text-clause-told
returns-in-Err-end_text-clause-told g t c = λ told h.
    let s = c.in_ok-source.source in let include = below told c.args.left in
    let start = opened_text include c.args.name (told c.args.name) c.args.self.now c.open.new.self s (c.in_ok-source.ensures.told told h) in
    let i = ended include s c.lines.at c.lines.here c.lines.self _ (omega arith) (c.lines.invariant.told told h ∙ sym start) in
    rw c.refused-in-Err-end_text.ensures (text_refused (Unit {0}) (Unit {0}) include s c.lines.here c.lines.self c.end_text.new.self _ c.in-Err-end_text.refusal i c.in-Err-end_text.ensures.text)

pub returns-in-Ok-end_text-clause-formed : goal.returns-in-Ok-end_text-clause-formed
returns-in-Ok-end_text-clause-formed g t c = λ f.
    let opens = c.in_ok-source.ensures.opens in
    (text_formed (c.pieces_are_the_cut.ensures.cut, c.pieces_are_the_cut.ensures.forms) c.lines.here c.lines.self c.end_text.new.self (omega (arith, c.lines.invariant.run, c.lines.invariant.within, opens.used, opens.most)) (c.lines.invariant.formed f) c.in-Ok-end_text.ensures.text).0

pub returns-in-Ok-end_text-clause-adds : goal.returns-in-Ok-end_text-clause-adds
returns-in-Ok-end_text-clause-adds g t c = λ f.
    let opens = c.in_ok-source.ensures.opens in
    let ends = text_formed (c.pieces_are_the_cut.ensures.cut, c.pieces_are_the_cut.ensures.forms) c.lines.here c.lines.self c.end_text.new.self (omega (arith, c.lines.invariant.run, c.lines.invariant.within, opens.used, opens.most)) (c.lines.invariant.formed f) c.in-Ok-end_text.ensures.text in
    record {
      few = omega (arith, ends.1, c.lines.invariant.few f, c.in-Ok-end_text.ensures.counts.used);
      work = λ k. ends.2 (c.lines.invariant.work f k);
    }

pub returns-in_err-source-clause-named : goal.returns-in_err-source-clause-named
returns-in_err-source-clause-named g t c = λ f.
    let p = err_from_is_err_and c.from_residual.result c.from_residual.ensures.1 in
    rw (p.1, p.2) (at_below c.args.name _ c.in_err-source.ensures.named)

pub returns-in-Err-clause-named : goal.returns-in-Err-clause-named
returns-in-Err-clause-named g t c = λ f.
    rw c.refused.ensures (refused_named c.args.name c.in_ok-source.source c.in-Err.refusal)

pub returns-then-left-eq0-clause-named : goal.returns-then-left-eq0-clause-named
returns-then-left-eq0-clause-named g t c = λ f. rw c.refused-then-left-eq0.ensures tt

pub returns-in_err-read_text-clause-named : goal.returns-in_err-read_text-clause-named
returns-in_err-read_text-clause-named g t c = λ f.
    let s = c.in_ok-source.source in let l = c.first_line-line in let line = l.result.now in
    let opens = c.in_ok-source.ensures.opens in
    let inside : c.lines.at < length s.plain = omega arith in
    let within = line_within s.plain c.as_slice.result.now line c.lines.at c.as_slice.ensures inside l.ensures.bound in
    let run_short : length c.lines.here.run ≤ most_bytes = omega (arith, c.lines.invariant.run, c.lines.invariant.within, opens.used, opens.most) in
    let line_short : length line ≤ most_bytes = omega (arith, within, opens.used, opens.most) in
    let held = line_formed (c.pieces_are_the_cut.ensures.cut, c.pieces_are_the_cut.ensures.forms) line c.lines.here c.lines.self _ run_short line_short (c.lines.invariant.formed f) (rw c.in-Some.is at c.in-Ok.ensures.step) in
    let p = err_from_is_err_and c.from_residual-in_err-read_text.result c.from_residual-in_err-read_text.ensures.1 in
    rw (p.1, p.2) (include_named c.args.name c.in-Some.name _ held.1 (c.in_err-read_text.ensures.named held.0.0))

pub returns-in-Err-end_text-clause-named : goal.returns-in-Err-end_text-clause-named
returns-in-Err-end_text-clause-named g t c = λ f.
    rw c.refused-in-Err-end_text.ensures (refused_named c.args.name c.in_ok-source.source c.in-Err-end_text.refusal)
