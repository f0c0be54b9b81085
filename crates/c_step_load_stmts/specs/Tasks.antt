-- What is left to be put down of a body.
use Rattle.std.specs.Prelude.{◌<◌, ◌+◌, ◌*◌, ℕ, List, [], ◌∷◌, reverse, length, ⊤}
use Rattle.c_text.specs.CNodes.{Nodes, code_of}
use Rattle.c_meaning.specs.CStep.{code_weight}
use Rattle.c_step_text.specs.Flat.{FlatText}
use Rattle.c_step_text.specs.Layout.{Names}
use Rattle.c_step_load_stmts.specs.declared.tasks.Task.{Task}
use Rattle.c_step_load_stmts.specs.declared.tasks.Task.TheVariants as task
use Rattle.c_step_load_stmts.specs.Bodies.{with_code, with_statement}

-- The text once this is put down, the first first.
abbrev pub with_tasks : Nodes → Names → FlatText → List Task → FlatText
with_tasks nodes names t [] = t
with_tasks nodes names t (task.Code s i next ∷ tasks) = with_tasks nodes names (with_code names t i next (code_of nodes s.0)) tasks
with_tasks nodes names t (task.Instr x ∷ tasks) = with_tasks nodes names (with_statement t x) tasks

-- The same of a list whose end comes first.
abbrev pub finished : Nodes → Names → FlatText → List Task → FlatText
finished nodes names t left = with_tasks nodes names t (reverse left)

abbrev pub HasTask : Nodes → Task → Type 0
HasTask nodes (task.Code s i next) = s.0 < length nodes.stmts
HasTask nodes (task.Instr x) = ⊤

abbrev pub HasTasks : Nodes → List Task → Type 0
HasTasks nodes [] = ⊤
HasTasks nodes (t ∷ ts) = HasTask nodes t × HasTasks nodes ts

-- More than the number of steps that they take.
abbrev pub task_size : Nodes → Task → ℕ
task_size nodes (task.Code s i next) = 2 * code_weight (code_of nodes s.0) + 1
task_size nodes (task.Instr x) = 1

abbrev pub size_of : Nodes → List Task → ℕ
size_of nodes [] = 0
size_of nodes (t ∷ ts) = task_size nodes t + size_of nodes ts
