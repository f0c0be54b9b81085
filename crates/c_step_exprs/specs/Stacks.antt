-- The values on a machine's stack, the top first, and how many it has room for.
use Rattle.std.specs.Prelude.{ℕ, List, reverse, vec_capacity}
use Rattle.c_meaning.specs.declared.values.CValue.{CValue}
use Rattle.c_step_exprs.specs.declared.stack.Stack.{Stack}

abbrev pub on_stack : Stack → List CValue
on_stack stack = reverse stack.values.items

abbrev pub most : Stack → ℕ
most stack = vec_capacity stack.values
