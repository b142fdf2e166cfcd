use Rattle.std.proofs.Common.{◌≡◌, ◌<◌, ◌++◌, [], List, ℕ, length, sym, ap, ◌∙◌, subst, arith}
use Rattle.std.specs.List.{flat_map, range_with_len}
use Rattle.std.proofs.lemmas.List.{get_or_read}
use Rattle.local_liveness.specs.Tables.{HasLive}
use Rattle.live_list.specs.Listing.{point_line}
use Rattle.live_list.proofs.Growing.{line_more}
use Rattle.live_list.proofs.lines.put_points.Goals as goal

pub put_point-requires : goal.put_point-requires
put_point-requires c =
    let points = c.requires.points in
    let long = c.len.ensures in
    let fits = c.in_ok-points.ensures in
    let inside : c.loop-point.point < length c.args.sets.now = omega arith in
    subst (λ (set : List ℕ). HasLive set c.args.func.now c.loop-point.point)
    (sym (get_or_read c.args.sets.now c.loop-point.point c.index-sets-point.result inside c.index-sets-point.is []))
    (c.requires.live c.loop-point.point (omega arith))

pub loop-point-preserved : goal.loop-point-preserved
loop-point-preserved c =
    line_more (point_line c.args.func.now) c.loop-point.point c.args.text.now.items c.loop-point.text.items c.put_point.new.text.items
    c.loop-point.invariant c.in_ok-put_point.ensures

pub returns : goal.returns
returns c =
    let all : c.loop-point.point ≡ length c.args.func.now.body =
    let long = c.len.ensures in let fits = c.in_ok-points.ensures in omega (arith, long, fits) in
    c.loop-point.invariant ∙ ap (λ n. c.args.text.now.items ++ flat_map (point_line c.args.func.now) (range_with_len 0 n)) all
