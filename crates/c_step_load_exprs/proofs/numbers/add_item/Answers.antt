use Rattle.std.proofs.Common.{◌≡◌, ◌+◌, ◌++◌, ◌∷◌, [], length, arith}
use Rattle.std.proofs.lemmas.List.{length-append}
use Rattle.c_text.specs.CNodes.{bytes_at}
use Rattle.c_step_load_exprs.proofs.numbers.add_item.Goals as goal

pub returns-in_ok-add-in-Some-checked_add : goal.returns-in_ok-add-in-Some-checked_add
returns-in_ok-add-in-Some-checked_add c = λ names item is at h.
    let name = bytes_at c.args.unit.now.names c.in-Some.name.0 in
    let more = c.in_ok-add-in-Some-checked_add.ensures c.args.unit.now names at h in
    let count : length (names ++ name ∷ []) ≡ length names + 1 = length-append names (name ∷ []) in
    rw (c.in-Some.ensures.is item is) (omega (arith, at, count, c.in-Some-checked_add.ensures), more)
