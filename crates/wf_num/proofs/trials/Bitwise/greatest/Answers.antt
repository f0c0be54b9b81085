use Rattle.std.proofs.Common.{ℕ, ◌≡◌, ◌-◌, sym, ap, ◌∙◌, arith}
use Rattle.wf_num.specs.Extremes.{greatest_of}
use Rattle.wf_num.specs.Trials.{bitwise}
use Rattle.wf_num.specs.declared.trials.Bitwise.{Bitwise}
use Rattle.wf_num.specs.declared.spans.Span.{Span}
use Rattle.wf_num.proofs.ExtremeLaws.{greatest_of-none, greatest_of-more, greatest-rows}
use Rattle.wf_num.proofs.trials.Bitwise.greatest.Goals as goal

-- The greatest of the row of x.
abbrev row : Bitwise → Span → ℕ → ℕ
row op ys x = greatest_of (bitwise op x) ys.lo (ys.hi - ys.lo)

pub loop-i-init : goal.loop-i-init
loop-i-init c = c.greatest_in_row-top.ensures ∙ sym (greatest_of-none (λ x. row c.args.self c.args.ys x) c.args.xs.lo)

pub loop-i-preserved : goal.loop-i-preserved
loop-i-preserved c =
    omega (arith, greatest_of-more (λ x. row c.args.self c.args.ys x) c.args.xs.lo c.loop-i.i, c.greatest_in_row.ensures, c.max-top.ensures)

pub returns : goal.returns
returns c =
    let whole : c.loop-i.i ≡ c.args.xs.hi - c.args.xs.lo = omega arith in
    c.loop-i.invariant ∙ ap (greatest_of (λ x. row c.args.self c.args.ys x) c.args.xs.lo) whole
    ∙ sym (greatest-rows (bitwise c.args.self) c.args.xs.lo c.args.xs.hi c.args.ys.lo c.args.ys.hi)
