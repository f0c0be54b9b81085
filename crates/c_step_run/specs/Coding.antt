-- How the functions of a program stand in a machine's code. The number of a function is that of the functions that stand
-- before it in the text; the functions of a program are in the reverse order of the text.
use Rattle.std.specs.Prelude.{◌≡◌, ℕ, ◌+◌, ◌-◌, ◌<◌, ◌≤◌, Bool, true, false, List, [], ◌∷◌, length, map, slice_get, slice_range, Option, Some, None}
use Rattle.std.specs.Option.{option_map_or}
use Rattle.c_text.specs.declared.kinds.Linkage.{Linkage}
use Rattle.c_text.specs.declared.kinds.Linkage.TheVariants.{External, Static, StaticInline}
use Rattle.c_text.specs.CTree.{TypeTree, ExprTree, LocalTree}
use Rattle.c_meaning.specs.CTypes.{Function, CScope, returned}
use Rattle.c_meaning.specs.CExprs.{cell_type}
use Rattle.c_meaning.specs.CStep.{code_weight}
use Rattle.c_meaning.specs.CCall.{Program, scope_in}
use Rattle.c_step_exprs.specs.Resolving.{value_code}
use Rattle.c_step_text.specs.declared.text.Span.{Span}
use Rattle.c_step_text.specs.Flat.{FlatText, code_in}
use Rattle.c_step_text.specs.Layout.{go}
use Rattle.c_step_text.specs.Acting.{IsNumbered, IsLaid}
use Rattle.c_step_text.specs.Numbered.{activation_of}
use Rattle.c_step_frames.specs.Frames.{FrameView, param_type, local_type}
use Rattle.c_step_run.specs.declared.code.Initial.{Initial}
use Rattle.c_step_run.specs.declared.code.Inline.{Inline}
use Rattle.c_step_run.specs.declared.code.Func.{Func}

-- The text of all functions, their locals, and the functions, by number.
pub record CodeView : Type 0 where
  pub text : FlatText
  pub initials : List Initial
  pub functions : List Func

-- The entry of a function is a turn, where it is `static` and not `inline`.
abbrev pub is_static : Linkage → Bool
is_static Static = true
is_static External = false
is_static StaticInline = false

-- What a function in an expression returns, and what that is converted to; none where it has no meaning there.
abbrev pub InlineOf : FlatText → CScope → (value : Option ExprTree) → Option TypeTree → Option Inline → Type 0
InlineOf t scope (Some e) (Some type) (Some it) = (code_in t it.value ≡ value_code scope e) × (it.ty ≡ cell_type type)
InlineOf t scope (Some e) (Some type) None = ⊥
InlineOf t scope (Some e) None it = it ≡ None
InlineOf t scope None type it = it ≡ None

-- The initial value of a local, and the locals in order, the first of which is the field with a number.
abbrev pub InitialOf : FlatText → CScope → Option ExprTree → Option Span → Type 0
InitialOf t scope None None = Unit {0}
InitialOf t scope (Some e) (Some span) = code_in t span ≡ value_code scope e
InitialOf t scope initial span = ⊥

abbrev pub InitialsOf : FlatText → CScope → (field : ℕ) → List LocalTree → List Initial → Type 0
InitialsOf t scope field [] [] = Unit {0}
InitialsOf t scope field (l ∷ ls) (i ∷ is) = (i.field ≡ field) × InitialOf t scope l.initial i.value × InitialsOf t scope (field + 1) ls is
InitialsOf t scope field ls is = ⊥

-- What the calls of a function are made of, as statements and in expressions, while it isn't called.
abbrev pub frame_of : Function → FrameView
frame_of f = record { params = map param_type f.params; locals = map local_type f.locals; rests = true }

abbrev pub args_of : Function → FrameView
args_of f = record { params = map param_type f.params; locals = []; rests = true }

-- A function stands in the code under its number, with its text, its initial values and its frames. `callable` are the
-- functions before it.
pub record IsCoded (c : CodeView) (frames args : List FrameView) (p : Program) (f : Function) (callable : List Function) : Type 0 where
  pub func : Func
  pub is : slice_get c.functions (length callable) ≡ Some func
  pub frame : slice_get frames (length callable) ≡ Some (frame_of f)
  pub arguments : slice_get args (length callable) ≡ Some (args_of f)
  pub numbered : (object : ℕ) → IsNumbered (activation_of p f callable object func.start)
  pub laid : (object : ℕ) → IsLaid c.text (activation_of p f callable object func.start)
  pub entry : func.entry ≡ go func.start (func.start + code_weight f.body) f.body
  pub turn : func.turn ≡ is_static f.linkage
  pub initials : InitialsOf c.text (scope_in p f) (length f.params) f.locals (slice_range c.initials func.initials.from func.initials.to)
  pub inline : InlineOf c.text (scope_in p f) (returned f.body) f.result_type func.inline

-- All of these functions stand in the code, each with those before it.
abbrev pub AreCoded : CodeView → (frames args : List FrameView) → Program → List Function → Type 0
AreCoded c frames args p [] = Unit {0}
AreCoded c frames args p (f ∷ fs) = IsCoded c frames args p f fs × AreCoded c frames args p fs

-- The instructions of a function's value in an expression; 0 where it has none.
abbrev pub inline_length : Option Inline → ℕ
inline_length None = 0
inline_length (Some it) = it.value.to - it.value.from

-- A function's rank is at least the number of instructions that the values of the functions before it have together. A
-- function calls only those before it, each one at most once along a chain of calls in expressions, and a run of
-- instructions puts at most one value for each. So the rank tells how many values the calls in its expressions can need.
abbrev pub IsRanked : List Func → Type 0
IsRanked fs = (i j : ℕ) (f g : Func) → i < j → slice_get fs i ≡ Some f → slice_get fs j ≡ Some g → f.rank + inline_length f.inline ≤ g.rank

abbrev pub rank_at : List Func → ℕ → ℕ
rank_at fs k = option_map_or (λ f. f.rank) (slice_get fs k) 0

-- The function with a number has this value in an expression.
abbrev pub IsInlineAt : List Func → ℕ → Inline → Type 0
IsInlineAt fs k it = (f : Func) × (slice_get fs k ≡ Some f) × (f.inline ≡ Some it)
