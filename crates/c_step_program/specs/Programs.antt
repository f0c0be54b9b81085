-- The code of a whole program: what a loader has to put down, function after function in the order of the text. The
-- functions of a program are in the reverse order of the text.
use Rattle.std.specs.Prelude.{◌≡◌, ℕ, ◌+◌, List, [], ◌∷◌, ◌++◌, length, Option, Some, None}
use Rattle.c_text.specs.CTree.{TypeTree, ExprTree, LocalTree}
use Rattle.c_meaning.specs.CTypes.{Function, CScope, returned}
use Rattle.c_meaning.specs.CExprs.{cell_type}
use Rattle.c_meaning.specs.CStep.{code_weight}
use Rattle.c_meaning.specs.CCall.{Program, scope_in}
use Rattle.c_step_exprs.specs.declared.instrs.Instr.{Instr}
use Rattle.c_step_exprs.specs.Resolving.{function_number, value_code}
use Rattle.c_step_text.specs.declared.text.Span.{Span}
use Rattle.c_step_text.specs.Flat.{flat_text}
use Rattle.c_step_text.specs.Layout.{go}
use Rattle.c_step_text.specs.Acting.{Activation, names_of}
use Rattle.c_step_text.specs.Numbered.{activation_of}
use Rattle.c_step_text.specs.Emitted.{span_of, exprs_of, arms_of, function_statements}
use Rattle.c_step_frames.specs.Frames.{FrameView}
use Rattle.c_step_run.specs.declared.code.Initial.{Initial}
use Rattle.c_step_run.specs.declared.code.Inline.{Inline}
use Rattle.c_step_run.specs.declared.code.Func.{Func}
use Rattle.c_step_run.specs.Coding.{CodeView, is_static, inline_length, frame_of, args_of}

-- No function has the name of one before it.
abbrev pub AreApart : List Function → Type 0
AreApart [] = Unit {0}
AreApart (f ∷ fs) = (function_number fs f.name ≡ None) × AreApart fs

-- The initial values of locals: their expressions, and the locals with the parts of a list from a place on that these take.
abbrev pub initial_exprs_of : CScope → Option ExprTree → List Instr
initial_exprs_of scope None = []
initial_exprs_of scope (Some x) = value_code scope x

abbrev pub initial_exprs : CScope → List LocalTree → List Instr
initial_exprs scope [] = []
initial_exprs scope (l ∷ ls) = initial_exprs_of scope l.initial ++ initial_exprs scope ls

abbrev pub initial_span : CScope → (place : ℕ) → Option ExprTree → Option Span
initial_span scope place None = None
initial_span scope place (Some x) = Some (span_of place (value_code scope x))

abbrev pub initials_of : CScope → (field place : ℕ) → List LocalTree → List Initial
initials_of scope field place [] = []
initials_of scope field place (l ∷ ls) = record { field = field; value = initial_span scope place l.initial } ∷ initials_of scope (field + 1) (place + length (initial_exprs_of scope l.initial)) ls

-- What a function in an expression returns, whose body's expressions stand from a place on.
abbrev pub inline_of : CScope → (place : ℕ) → Option ExprTree → Option TypeTree → Option Inline
inline_of scope place (Some v) (Some type) = Some (record { value = span_of place (value_code scope v); ty = cell_type type })
inline_of scope place (Some v) None = None
inline_of scope place None type = None

-- The instructions of all values of functions in expressions.
abbrev pub inline_lengths : List Func → ℕ
inline_lengths [] = 0
inline_lengths (f ∷ fs) = inline_length f.inline + inline_lengths fs

-- A function after other code.
abbrev pub own : Program → Function → (callable : List Function) → CodeView → Activation
own p f callable c = activation_of p f callable 0 (length c.text.statements)

abbrev pub body_exprs : Program → Function → (callable : List Function) → CodeView → List Instr
body_exprs p f callable c = exprs_of (names_of (own p f callable c)) f.body

abbrev pub func_of : Program → Function → CodeView → Func
func_of p f c = record {
  start = length c.text.statements;
  entry = go (length c.text.statements) (length c.text.statements + code_weight f.body) f.body;
  turn = is_static f.linkage;
  initials = record { from = length c.initials; to = length c.initials + length f.locals };
  inline = inline_of (scope_in p f) (length c.text.exprs) (returned f.body) f.result_type;
  rank = inline_lengths c.functions;
}

-- Code with a function more.
abbrev pub with_function : Program → Function → (callable : List Function) → CodeView → CodeView
with_function p f callable c = record {
  text = flat_text (c.text.statements ++ function_statements (own p f callable c) (length c.text.exprs) (length c.text.arms))
      (c.text.exprs ++ (body_exprs p f callable c ++ initial_exprs (scope_in p f) f.locals))
      (c.text.arms ++ arms_of (length c.text.statements) f.body);
  initials = c.initials ++ initials_of (scope_in p f) (length f.params) (length c.text.exprs + length (body_exprs p f callable c)) f.locals;
  functions = c.functions ++ func_of p f c ∷ [];
}

abbrev pub no_code : CodeView
no_code = record { text = flat_text [] [] []; initials = []; functions = [] }

-- The code of these functions of a program, and their frames.
abbrev pub code_of : Program → List Function → CodeView
code_of p [] = no_code
code_of p (f ∷ fs) = with_function p f fs (code_of p fs)

abbrev pub frames_of : List Function → List FrameView
frames_of [] = []
frames_of (f ∷ fs) = frames_of fs ++ frame_of f ∷ []

abbrev pub all_args : List Function → List FrameView
all_args [] = []
all_args (f ∷ fs) = all_args fs ++ args_of f ∷ []
