-- What a call calls.
use Rattle.std.specs.Prelude.{◌≡◌}
use Rattle.c_meaning.specs.CStep.{Callee, memory_move, memory_set, own}
use Rattle.c_step_load_stmts.specs.declared.calls.Called.{Called}
use Rattle.c_step_load_stmts.specs.declared.calls.Called.TheVariants as called

abbrev pub IsCallee : Called → Callee → Type 0
IsCallee called.Move c = c ≡ memory_move
IsCallee called.Set c = c ≡ memory_set
IsCallee called.Own c = c ≡ own
