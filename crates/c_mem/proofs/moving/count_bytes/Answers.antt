use Rattle.std.proofs.Common.{◌∙◌, sym, ap, Some, None, Bool}
use Rattle.std.specs.Prelude.{if◌then◌else◌}
use Rattle.c_mem.proofs.Bytes.{counts_bytes}
use Rattle.c_mem.proofs.moving.count_bytes.Goals as goal

pub returns-then-are_movable : goal.returns-then-are_movable
returns-then-are_movable c = λ it them b e f.
    ap (λ (d : Bool). if d then Some c.args.bytes else None) (sym c.if-are_movable.true ∙ c.are_movable.ensures)
    ∙ counts_bytes it them b c.args.set c.args.to c.args.from c.args.bytes c.args.target c.args.source e f

pub returns-else-are_movable : goal.returns-else-are_movable
returns-else-are_movable c = λ it them b e f.
    ap (λ (d : Bool). if d then Some c.args.bytes else None) (sym c.if-are_movable.false ∙ c.are_movable.ensures)
    ∙ counts_bytes it them b c.args.set c.args.to c.args.from c.args.bytes c.args.target c.args.source e f
