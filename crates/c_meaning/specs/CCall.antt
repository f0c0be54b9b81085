-- The meaning of a call of a function within a number of turns (ISO/IEC 9899:1999, 6.5.2.2, 6.7.4, 6.9.1). A call makes
-- an object of the function's parameters and locals, one field each, which is gone when the function returns. A function
-- calls only functions that stand before it, so the meaning goes by recursion on these.
use Rattle.std.specs.Prelude.{ℕ, zero, suc, ◌+◌, if◌then◌else◌, List, [], ◌∷◌, ◌++◌, map, length, take, reverse, Option, Some, None, option_map, option_and_then, bytes_eq}
use Rattle.turns.specs.Run.{Outcome, Got, More, Lost, run}
use Rattle.c_text.specs.declared.kinds.Linkage.{Linkage}
use Rattle.c_text.specs.declared.kinds.Linkage.TheVariants.{External, Static, StaticInline}
use Rattle.c_text.specs.CTree.{ExprTree, ParamTree, LocalTree, ItemTree}
use Rattle.c_meaning.specs.CValues.{CValue}
use Rattle.c_meaning.specs.CMemory.{Cell, unset, Field, cells, Object, Memory, cell_of, stored}
use Rattle.c_meaning.specs.CTypes.{StructDecl, TextDecl, Function, CScope, structs_of, texts_of, functions_of, local_name, names_of, returned}
use Rattle.c_meaning.specs.CExprs.{value, cell_type}
use Rattle.c_meaning.specs.CStep.{Returned, Meaning, Running, state, stop, step, weight, surroundings, result_value}

-- What a text means: its structs and functions, each after those that it may use, and its strings in order (6.9).
pub record Program : Type 0 where
  pub structs : List StructDecl
  pub texts : List TextDecl
  pub functions : List Function

-- The same of a text's items (6.9).
abbrev pub program_of : List ItemTree → Program
program_of items = record { structs = reverse (structs_of items); texts = texts_of items; functions = reverse (functions_of items) }

-- The names that stand in a function (6.2.1).
abbrev pub scope_in : Program → Function → CScope
scope_in p f = record { structs = p.structs; texts = p.texts; functions = p.functions; names = names_of f }

-- The fields of a call's object: the arguments, each converted to its parameter's type, and the locals, which are
-- unset (6.5.2.2p4, 6.7.8p10).
abbrev pub field_with : ParamTree → Cell → Field
field_with p cell = cells (cell_type p.kind) (cell ∷ [])

-- The fields of the arguments (6.5.2.2p4, p7).
abbrev pub passed : List ParamTree → List CValue → Option (List Field)
passed [] [] = Some []
passed (p ∷ ps) (v ∷ vs) = option_and_then (λ cell. option_map (λ fields. field_with p cell ∷ fields) (passed ps vs)) (cell_of (cell_type p.kind) v)
passed ps vs = None

-- The object of a call (6.2.4p5, 6.9.1p9).
abbrev pub frame_object : Function → List CValue → Option Object
frame_object f given = option_map (λ fields. fields ++ map (λ l. field_with (local_name l) unset) f.locals) (passed f.params given)

-- A function in an expression: the value of what it returns, where nothing but its parameters is there (6.5.2.2).
abbrev pub ExprMeaning : Type 0
ExprMeaning = Memory → List CValue → Option CValue

-- The value of its `return` (6.8.6.4p3).
abbrev pub returned_value : Program → Function → (List ℕ → ExprMeaning) → (frame : ℕ) → Memory → Option CValue
returned_value p f callee frame memory = result_value f.result_type (option_and_then (value (record { scope = scope_in p f; frame = frame; memory = memory; called = λ name. callee name memory })) (returned f.body))

-- A function in an expression, for its arguments (6.5.2.2, 6.7.4).
abbrev pub expression_meaning : Program → Function → (List ℕ → ExprMeaning) → ExprMeaning
expression_meaning p f callee memory given = option_and_then (λ fields. returned_value p f callee (length memory) (memory ++ fields ∷ [])) (passed f.params given)

-- The same by the function's name (6.5.2.2).
abbrev pub expression_call : Program → List Function → List ℕ → ExprMeaning
expression_call p [] name = λ memory given. None
expression_call p (f ∷ fs) name = if bytes_eq f.name name then expression_meaning p f (expression_call p fs) else expression_call p fs name

-- The entry of a function is a turn, where it is `static` and not `inline` (6.9.1p10).
abbrev pub entered : Linkage → ℕ → (ℕ → Outcome Returned) → Outcome Returned
entered Static zero go = More
entered Static (suc n) go = go n
entered External n go = go n
entered StaticInline n go = go n

-- The initial values of the locals, in order (6.7.8p8).
abbrev pub initial_stored : Running → (field : ℕ) → Option ExprTree → Memory → Option Memory
initial_stored r field None memory = Some memory
initial_stored r field (Some e) memory = option_and_then (stored memory (record { object = r.frame; field = field; index = 0 })) (value (surroundings r memory) e)

-- All initial values (6.7.8p8).
abbrev pub initialized : Running → (field : ℕ) → List LocalTree → Memory → Option Memory
initialized r field [] memory = Some memory
initialized r field (l ∷ ls) memory = option_and_then (initialized r (field + 1) ls) (initial_stored r field l.initial memory)

-- The body's run, and the memory without the call's object (6.2.4p5).
abbrev pub without_frame : ℕ → Outcome Returned → Outcome Returned
without_frame objects (Got left done) = Got left (record { memory = take objects done.memory; value = done.value })
without_frame objects More = More
without_frame objects Lost = Lost

-- The run of a body (6.9.1p11).
abbrev pub body_run : Running → Function → ℕ → Option Memory → Outcome Returned
body_run r f n None = Lost
body_run r f n (Some memory) = run (step r) weight n (state f.body stop memory)

-- What the steps of a call depend on (6.5.2.2).
abbrev pub running : Program → Function → (List ℕ → ExprMeaning) → (List ℕ → Meaning) → (frame : ℕ) → Running
running p f in_expressions callee frame = record { scope = scope_in p f; frame = frame; body = f.body; result_type = f.result_type; in_expressions = λ memory name. in_expressions name memory; callee = callee }

-- The run of a call (6.5.2.2p4, 6.9.1p11).
abbrev pub started : Running → Function → List CValue → Memory → ℕ → Outcome Returned
started r f given memory n = without_frame (length memory) (body_run r f n (option_and_then (λ fields. initialized r (length f.params) f.locals (memory ++ fields ∷ [])) (frame_object f given)))

-- The meaning of a function (6.5.2.2).
abbrev pub function_meaning : Program → Function → (List ℕ → ExprMeaning) → (List ℕ → Meaning) → Meaning
function_meaning p f in_expressions callee n given memory = entered f.linkage n (started (running p f in_expressions callee (length memory)) f given memory)

-- The function of this name among so many, the last one first (6.5.2.2).
abbrev pub call_of : Program → List Function → List ℕ → Meaning
call_of p [] name = λ n given memory. Lost
call_of p (f ∷ fs) name = if bytes_eq f.name name then function_meaning p f (expression_call p fs) (call_of p fs) else call_of p fs name

-- A call of a function of the text by the host (5.1.2).
abbrev pub host_call : Program → List ℕ → Meaning
host_call p name = call_of p p.functions name
