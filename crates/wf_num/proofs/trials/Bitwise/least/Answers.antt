use Rattle.std.proofs.Common.{ℕ, ◌≡◌, ◌-◌, sym, ap, ◌∙◌, arith}
use Rattle.wf_num.specs.Extremes.{least_of}
use Rattle.wf_num.specs.Trials.{bitwise}
use Rattle.wf_num.specs.declared.trials.Bitwise.{Bitwise}
use Rattle.wf_num.specs.declared.spans.Span.{Span}
use Rattle.wf_num.proofs.ExtremeLaws.{least_of-none, least_of-more, least-rows}
use Rattle.wf_num.proofs.trials.Bitwise.least.Goals as goal

-- The least of the row of x.
abbrev row : Bitwise → Span → ℕ → ℕ
row op ys x = least_of (bitwise op x) ys.lo (ys.hi - ys.lo)

pub loop-i-init : goal.loop-i-init
loop-i-init c = c.least_in_row-bottom.ensures ∙ sym (least_of-none (λ x. row c.args.self c.args.ys x) c.args.xs.lo)

pub loop-i-preserved : goal.loop-i-preserved
loop-i-preserved c =
    omega (arith, least_of-more (λ x. row c.args.self c.args.ys x) c.args.xs.lo c.loop-i.i, c.least_in_row.ensures, c.min-bottom.ensures)

pub returns : goal.returns
returns c =
    let whole : c.loop-i.i ≡ c.args.xs.hi - c.args.xs.lo = omega arith in
    c.loop-i.invariant ∙ ap (least_of (λ x. row c.args.self c.args.ys x) c.args.xs.lo) whole
    ∙ sym (least-rows (bitwise c.args.self) c.args.xs.lo c.args.xs.hi c.args.ys.lo c.args.ys.hi)
