-- Lists with one item more, and values that are made where a condition holds.
use Rattle.std.proofs.Common.{◌≡◌, ◌<◌, ℕ, Bool, true, false, not, if◌then◌else◌, List, [], ◌∷◌, ◌++◌, map, refl, ◌∙◌, ap}
use Rattle.c_text.specs.declared.ids.CExprId.{CExprId}
use Rattle.c_text.specs.declared.kinds.COp.{COp}
use Rattle.c_text.specs.declared.nodes.CArg.{CArg}
use Rattle.c_text.specs.declared.nodes.CArg.TheVariants as arg
use Rattle.c_text.specs.declared.nodes.CField.{CField}
use Rattle.c_text.specs.declared.nodes.CParam.{CParam}
use Rattle.c_text.specs.declared.nodes.CLocal.{CLocal}
use Rattle.c_text.specs.CFits.{HasExprs, HasArg, HasArgs, HasField, HasFields, HasParam, HasParams, HasLocal, HasLocals, RepeatsLawfully}
use Rattle.c_text.specs.CNodes.{Nodes, operands_in, args_in}
use Rattle.c_text.specs.CTree.{ExprTree, Operands, no_operand, operand}
use Rattle.c_read_grammar.specs.Values.{Val, kept_if, may_repeat, operands_then, args_then}
use Rattle.c_read_nodes.specs.Shapes.{repeats_lawfully}

pub picked : (b : Bool) (v : Val) (vs : List Val) → (if b then v ∷ vs else []) ≡ kept_if b v vs
picked true v vs = refl
picked false v vs = refl

pub repeat_seen : (look : ℕ → ExprTree) (op : COp) (es : List CExprId) → repeats_lawfully op es ≡ may_repeat op (operands_in look es)
repeat_seen look op [] = refl
repeat_seen look op (e ∷ es) = refl

pub operation_picked : (op : COp) (es : List CExprId) (others : Operands) (v : Val) (vs : List Val) → repeats_lawfully op es ≡ may_repeat op others → (if repeats_lawfully op es then v ∷ vs else []) ≡ kept_if (may_repeat op others) v vs
operation_picked op es others v vs is = picked (repeats_lawfully op es) v vs ∙ ap (λ b. kept_if b v vs) is

pub may_repeat-lawful : (op : COp) (es : List CExprId) → repeats_lawfully op es ≡ true → RepeatsLawfully op es
may_repeat-lawful op [] h = tt
may_repeat-lawful op (e ∷ es) h = h

pub not-true : {b : Bool} → not b ≡ true → b ≡ false
not-true {b = true} h = absurd (cc h)
not-true {b = false} h = refl

pub map-push : {X Y : Type 0} (f : X → Y) (xs : List X) (x : X) → map f (xs ++ x ∷ []) ≡ map f xs ++ f x ∷ []
map-push f [] x = refl
map-push f (y ∷ xs) x = ap (λ zs. f y ∷ zs) (map-push f xs x)

pub operands_push : (look : ℕ → ExprTree) (es : List CExprId) (e : CExprId) → operands_in look (es ++ e ∷ []) ≡ operands_then (operands_in look es) (operand (look e.0) no_operand)
operands_push look [] e = refl
operands_push look (x ∷ es) e = ap (operand (look x.0)) (operands_push look es e)

pub exprs_push : (n : ℕ) (es : List CExprId) (e : CExprId) → HasExprs n es → e.0 < n → HasExprs n (es ++ e ∷ [])
exprs_push n [] e h k = (k, tt)
exprs_push n (x ∷ es) e h k = (h.0, exprs_push n es e h.1 k)

pub args_pushed : (names : List (List ℕ)) (look : ℕ → ExprTree) (args : List CArg) (a : CArg) → args_in names look (args ++ a ∷ []) ≡ args_then (args_in names look args) (args_in names look (a ∷ []))
args_pushed names look [] a = refl
args_pushed names look (arg.Expr e ∷ args) a = let h = args_pushed names look args a in cc h
args_pushed names look (arg.SizeOf n ∷ args) a = let h = args_pushed names look args a in cc h

pub args_push : (nodes : Nodes) (n : ℕ) (args : List CArg) (a : CArg) → HasArgs nodes n args → HasArg nodes n a → HasArgs nodes n (args ++ a ∷ [])
args_push nodes n [] a h k = (k, tt)
args_push nodes n (x ∷ args) a h k = (h.0, args_push nodes n args a h.1 k)

pub fields_push : (nodes : Nodes) (fs : List CField) (f : CField) → HasFields nodes fs → HasField nodes f → HasFields nodes (fs ++ f ∷ [])
fields_push nodes [] f h k = (k, tt)
fields_push nodes (x ∷ fs) f h k = (h.0, fields_push nodes fs f h.1 k)

pub params_push : (nodes : Nodes) (ps : List CParam) (p : CParam) → HasParams nodes ps → HasParam nodes p → HasParams nodes (ps ++ p ∷ [])
params_push nodes [] p h k = (k, tt)
params_push nodes (x ∷ ps) p h k = (h.0, params_push nodes ps p h.1 k)

pub locals_push : (nodes : Nodes) (ls : List CLocal) (l : CLocal) → HasLocals nodes ls → HasLocal nodes l → HasLocals nodes (ls ++ l ∷ [])
locals_push nodes [] l h k = (k, tt)
locals_push nodes (x ∷ ls) l h k = (h.0, locals_push nodes ls l h.1 k)
