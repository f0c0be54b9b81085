-- The cells that stand at once in a chain of calls. The cells of a function are its parameters and locals, one each, and the
-- greatest number of cells of a function that one of its instructions calls. A table has the cells of the functions before
-- it, by number.
use Rattle.std.specs.Prelude.{ℕ, ◌+◌, max, List, [], ◌∷◌, ◌++◌, length, slice_get, slice_range, Option, Some, None, unwrap_or}
use Rattle.std.specs.Option.{option_map_or}
use Rattle.c_text.specs.declared.kinds.Linkage.{Linkage}
use Rattle.c_text.specs.declared.kinds.Linkage.TheVariants.{External, Static, StaticInline}
use Rattle.c_meaning.specs.CTypes.{Function}
use Rattle.c_step_exprs.specs.declared.instrs.Instr.{Instr}
use Rattle.c_step_exprs.specs.declared.instrs.Instr.TheVariants as does
use Rattle.c_step_text.specs.declared.text.Span.{Span}
use Rattle.c_step_text.specs.declared.text.StmtInstr.{StmtInstr}
use Rattle.c_step_text.specs.declared.text.StmtInstr.TheVariants as acts
use Rattle.c_step_text.specs.Flat.{FlatText, code_in}
use Rattle.c_step_run.specs.declared.code.Initial.{Initial}
use Rattle.c_step_run.specs.declared.code.Func.{Func}
use Rattle.c_step_run.specs.Coding.{CodeView}

abbrev pub cells_at : List ℕ → (function : ℕ) → ℕ
cells_at table k = unwrap_or (slice_get table k) 0

-- What expressions call.
abbrev pub instr_cells : List ℕ → Instr → ℕ
instr_cells table (does.Call function count) = cells_at table function
instr_cells table (does.Put it) = 0
instr_cells table (does.Turn it) = 0
instr_cells table (does.Join it) = 0
instr_cells table (does.Test it n) = 0
instr_cells table (does.Skip n) = 0
instr_cells table does.Stuck = 0

abbrev pub code_cells : List ℕ → List Instr → ℕ
code_cells table [] = 0
code_cells table (i ∷ is) = max (instr_cells table i) (code_cells table is)

abbrev pub span_cells : FlatText → List ℕ → Span → ℕ
span_cells t table span = code_cells table (code_in t span)

abbrev pub optional_cells : FlatText → List ℕ → Option Span → ℕ
optional_cells t table None = 0
optional_cells t table (Some span) = span_cells t table span

-- What statements call.
abbrev pub stmt_cells : FlatText → List ℕ → StmtInstr → ℕ
stmt_cells t table (acts.Assign target value next) = max (span_cells t table target) (span_cells t table value)
stmt_cells t table (acts.Call target function given next) = max (cells_at table function) (max (optional_cells t table target) (span_cells t table given))
stmt_cells t table (acts.Move given next) = span_cells t table given
stmt_cells t table (acts.Zero pointer next) = span_cells t table pointer
stmt_cells t table (acts.Goto next) = 0
stmt_cells t table (acts.Test test met unmet) = span_cells t table test
stmt_cells t table (acts.Back test met unmet) = span_cells t table test
stmt_cells t table (acts.Switch on arms other) = span_cells t table on
stmt_cells t table (acts.Return value type) = span_cells t table value
stmt_cells t table acts.Finish = 0
stmt_cells t table acts.Stuck = 0

abbrev pub body_cells : FlatText → List ℕ → List StmtInstr → ℕ
body_cells t table [] = 0
body_cells t table (i ∷ is) = max (stmt_cells t table i) (body_cells t table is)

-- What the initial values of locals call.
abbrev pub initials_cells : FlatText → List ℕ → List Initial → ℕ
initials_cells t table [] = 0
initials_cells t table (i ∷ is) = max (optional_cells t table i.value) (initials_cells t table is)

-- What the function with a number calls: its text ends where that of the next one begins.
abbrev pub text_end : CodeView → ℕ → ℕ
text_end c k = option_map_or (λ f. f.start) (slice_get c.functions (k + 1)) (length c.text.statements)

abbrev pub func_cells : CodeView → List ℕ → (end : ℕ) → Func → ℕ
func_cells c table end f = max (body_cells c.text table (slice_range c.text.statements f.start end)) (initials_cells c.text table (slice_range c.initials f.initials.from f.initials.to))

abbrev pub called_cells : CodeView → List ℕ → ℕ → ℕ
called_cells c table k = option_map_or (func_cells c table (text_end c k)) (slice_get c.functions k) 0

-- The table of these functions, the last one first.
abbrev pub chain_cells : CodeView → List ℕ → Function → ℕ
chain_cells c table f = length f.params + length f.locals + called_cells c table (length table)

abbrev pub table_of : CodeView → List Function → List ℕ
table_of c [] = []
table_of c (f ∷ fs) = table_of c fs ++ chain_cells c (table_of c fs) f ∷ []

-- A host calls external functions.
abbrev pub from_host : Linkage → ℕ → ℕ
from_host External n = n
from_host Static n = 0
from_host StaticInline n = 0

abbrev pub frame_cells : CodeView → List Function → ℕ
frame_cells c [] = 0
frame_cells c (f ∷ fs) = max (from_host f.linkage (chain_cells c (table_of c fs) f)) (frame_cells c fs)
