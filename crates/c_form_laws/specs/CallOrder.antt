-- That calls go back in the text (ISO/IEC 9899:1999, 6.2.1p7, 6.5.2.2).
use Rattle.std.specs.Prelude.{◌≡◌, ◌<◌, ℕ, Bool, List, Option}
use Rattle.wf_text.specs.Surface.{Surface}
use Rattle.c_text.specs.CTree.{ExprTree, Args, Code, call, ItemTree, function_item}
use Rattle.c_meaning.specs.CTypes.{Function}
use Rattle.c_meaning.specs.CStep.{own, callee_of}
use Rattle.c_form_stmts.specs.Lines.{line}
use Rattle.c_form_laws.specs.Places.{At}
use Rattle.c_form_laws.specs.StatementRules.{statements}
use Rattle.c_form_laws.specs.UnitRules.{KeepsUnitForm}

-- The item with this number is this function.
abbrev pub IsFunctionAt : List ItemTree → ℕ → Function → Type 0
IsFunctionAt items i f = At items i (function_item f.linkage f.result_type f.name f.params f.locals f.body)

-- A statement of the function calls a function of the text of this name.
abbrev pub Calls : Function → List ℕ → Type 0
Calls f name =
    (k : ℕ) × (switched : Bool) × (target : Option ExprTree) × (given : Args) × (rest : Code) × At (statements f.body) k (line switched (call target name given rest)) × (callee_of name ≡ own)

abbrev pub CallsGoBack : Type 0
CallsGoBack =
    (p : Surface) (items : List ItemTree) → KeepsUnitForm p items → (i : ℕ) (f : Function) → IsFunctionAt items i f → (name : List ℕ) → Calls f name
    → (j : ℕ) × (callee : Function) × (j < i) × IsFunctionAt items j callee × (callee.name ≡ name)
