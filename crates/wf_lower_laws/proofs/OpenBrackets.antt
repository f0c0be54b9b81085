-- How many brackets a tree of C opens inside those that are open before it.
use Rattle.std.proofs.Common.{◌≡◌, ℕ, ◌+◌, ◌-◌, ◌<◌, false, List, [], ◌∷◌, Option, Some, None, refl, sym, subst, arith}
use Rattle.std.specs.List.{AllByRecursion}
use Rattle.c_text.specs.declared.kinds.COp.{COp}
use Rattle.c_text.specs.declared.kinds.CUint.TheVariants as width
use Rattle.c_text.specs.declared.kinds.CUint.{CUint}
use Rattle.c_text.specs.declared.kinds.CUnary.{CUnary}
use Rattle.c_text.specs.declared.kinds.CUnary.TheVariants as unary_op
use Rattle.c_text.specs.declared.kinds.CNumber.{CNumber}
use Rattle.c_text.specs.declared.kinds.Linkage.{Linkage}
use Rattle.c_text.specs.declared.kinds.Linkage.TheVariants.{External, Static, StaticInline}
use Rattle.c_text.specs.declared.kinds.Otherwise.{Otherwise}
use Rattle.c_text.specs.declared.kinds.Otherwise.TheVariants as else_is
use Rattle.c_text.specs.declared.tokens.CMark.TheVariants as mark
use Rattle.c_text.specs.CSpelling.{CToken, marked}
use Rattle.c_text.specs.CGrammar.{uint_token, type_tokens, unary_token, expr_tokens, operands_tokens, args_tokens, more_args_tokens, value_tokens, target_tokens, else_tokens, code_tokens, field_kind_tokens, count_tokens, fields_tokens, more_params_tokens, params_tokens, initial_tokens, locals_tokens, linkage_tokens, result_tokens, item_tokens, unit_tokens}
use Rattle.c_text.specs.CTree.{TypeTree, uint, size, boolean, uint_pointer, struct_pointer, text, ExprTree, number, variable, member, element, pointed, operation, unary, cast, choice, called, Operands, no_operand, operand, Args, no_arg, expr_arg, sizeof_arg, Code, finish, nested, empty, assign, call, jump, branch, repeat, select, leave, case_label, default_label, name_label, FieldKind, plain, inside, FieldTree, ParamTree, LocalTree, ItemTree, struct_item, text_item, function_item}
use Rattle.c_read_grammar.specs.Texts.{is_opening, open_after}
use Rattle.c_read_grammar.specs.Outcomes.{IsShallow}

-- Trees that open no bracket where 512 are open, where n are open before.
abbrev mutual
  pub ExprOpens : ℕ → ExprTree → Type 0
  ExprOpens n (number k) = Unit {0}
  ExprOpens n (variable name) = Unit {0}
  ExprOpens n (member pointer field) = ExprOpens n pointer
  ExprOpens n (element pointer index) = ExprOpens n pointer × ((n < 512) × ExprOpens (n + 1) index)
  ExprOpens n (pointed pointer) = (n < 512) × ExprOpens (n + 1) pointer
  ExprOpens n (operation op first second others) = (n < 512) × (ExprOpens (n + 1) first × (ExprOpens (n + 1) second × OperandsOpen (n + 1) others))
  ExprOpens n (unary op of) = (n < 512) × ExprOpens (n + 1) of
  ExprOpens n (cast to of) = (n + 1 < 512) × ExprOpens (n + 1) of
  ExprOpens n (choice test met unmet) = (n < 512) × (ExprOpens (n + 1) test × (ExprOpens (n + 1) met × ExprOpens (n + 1) unmet))
  ExprOpens n (called function given) = (n + 1 < 512) × ArgsOpen (n + 2) given

  pub OperandsOpen : ℕ → Operands → Type 0
  OperandsOpen n no_operand = Unit {0}
  OperandsOpen n (operand e others) = ExprOpens n e × OperandsOpen n others

  pub ArgsOpen : ℕ → Args → Type 0
  ArgsOpen n no_arg = Unit {0}
  ArgsOpen n (expr_arg e others) = ExprOpens n e × ArgsOpen n others
  ArgsOpen n (sizeof_arg name others) = (n < 512) × ArgsOpen n others

abbrev pub ValueOpens : ℕ → Option ExprTree → Type 0
ValueOpens n None = Unit {0}
ValueOpens n (Some e) = ExprOpens n e

abbrev ElseOpens : Otherwise → (flat inner : Type 0) → ℕ → Type 0
ElseOpens else_is.Nothing flat inner n = Unit {0}
ElseOpens else_is.Block flat inner n = (n < 512) × inner
ElseOpens else_is.If flat inner n = flat

abbrev pub CodeOpens : ℕ → Code → Type 0
CodeOpens n finish = Unit {0}
CodeOpens n (nested inner rest) = (n < 512) × (CodeOpens (n + 1) inner × CodeOpens n rest)
CodeOpens n (empty rest) = CodeOpens n rest
CodeOpens n (assign target value rest) = ExprOpens n target × (ExprOpens n value × CodeOpens n rest)
CodeOpens n (call target function given rest) = ValueOpens n target × ((n < 512) × (ArgsOpen (n + 1) given × CodeOpens n rest))
CodeOpens n (jump label rest) = CodeOpens n rest
CodeOpens n (branch test body otherwise other rest) =
    (n < 512) × (ExprOpens (n + 1) test × (CodeOpens (n + 1) body × (ElseOpens otherwise (CodeOpens n other) (CodeOpens (n + 1) other) n × CodeOpens n rest)))
CodeOpens n (repeat test body rest) = (n < 512) × (ExprOpens (n + 1) test × (CodeOpens (n + 1) body × CodeOpens n rest))
CodeOpens n (select on body rest) = (n < 512) × (ExprOpens (n + 1) on × (CodeOpens (n + 1) body × CodeOpens n rest))
CodeOpens n (leave value rest) = ValueOpens n value × CodeOpens n rest
CodeOpens n (case_label k rest) = CodeOpens n rest
CodeOpens n (default_label rest) = CodeOpens n rest
CodeOpens n (name_label name rest) = CodeOpens n rest

abbrev pub LocalsOpen : List LocalTree → Type 0
LocalsOpen [] = Unit {0}
LocalsOpen (l ∷ ls) = ValueOpens 1 l.initial × LocalsOpen ls

abbrev pub ItemOpens : ItemTree → Type 0
ItemOpens (struct_item fields name) = Unit {0}
ItemOpens (text_item name bytes) = Unit {0}
ItemOpens (function_item linkage result_type name params locals body) = LocalsOpen locals × CodeOpens 1 body

-- ---- tokens

-- `IsShallow`, kept together.
record Shallow (n : ℕ) (tokens : List CToken) : Type 0 where
  is : IsShallow n tokens

over : (n : ℕ) (t : CToken) (rest : List CToken) → is_opening t ≡ false → open_after n t ≡ n → Shallow n rest → Shallow n (t ∷ rest)
over n t rest e g h =
    let P : ℕ → Type 0 = λ m. IsShallow m rest in
    record { is = (λ k. absurd (cc (e, k)), subst P (sym g) h.is) }

opens : (n : ℕ) (t : CToken) (rest : List CToken) → open_after n t ≡ n + 1 → n < 512 → Shallow (n + 1) rest → Shallow n (t ∷ rest)
opens n t rest g l h =
    let P : ℕ → Type 0 = λ m. IsShallow m rest in
    record { is = (λ k. l, subst P (sym g) h.is) }

closes : (n : ℕ) (t : CToken) (rest : List CToken) → is_opening t ≡ false → open_after (n + 1) t ≡ n + 1 - 1 → Shallow n rest → Shallow (n + 1) (t ∷ rest)
closes n t rest e g h =
    let same : open_after (n + 1) t ≡ n = omega (arith, g) in
    let P : ℕ → Type 0 = λ m. IsShallow m rest in
    record { is = (λ k. absurd (cc (e, k)), subst P (sym same) h.is) }

round_shut : (n : ℕ) (rest : List CToken) → Shallow n rest → Shallow (n + 1) (marked mark.CloseParen ∷ rest)
round_shut n rest h = closes n (marked mark.CloseParen) rest refl refl h

square_shut : (n : ℕ) (rest : List CToken) → Shallow n rest → Shallow (n + 1) (marked mark.CloseBracket ∷ rest)
square_shut n rest h = closes n (marked mark.CloseBracket) rest refl refl h

curly_shut : (n : ℕ) (rest : List CToken) → Shallow n rest → Shallow (n + 1) (marked mark.CloseBrace ∷ rest)
curly_shut n rest h = closes n (marked mark.CloseBrace) rest refl refl h

uint_over : (n : ℕ) (u : CUint) (rest : List CToken) → Shallow n rest → Shallow n (uint_token u ∷ rest)
uint_over n width.U8 rest h = over n _ rest refl refl h
uint_over n width.U16 rest h = over n _ rest refl refl h
uint_over n width.U32 rest h = over n _ rest refl refl h
uint_over n width.U64 rest h = over n _ rest refl refl h

type_over : (n : ℕ) (t : TypeTree) (rest : List CToken) → Shallow n rest → Shallow n (type_tokens t rest)
type_over n (uint u) rest h = uint_over n u rest h
type_over n size rest h = over n _ rest refl refl h
type_over n boolean rest h = over n _ rest refl refl h
type_over n (uint_pointer u) rest h = uint_over n u _ (over n _ rest refl refl h)
type_over n (struct_pointer name) rest h = over n _ _ refl refl (over n _ rest refl refl h)
type_over n text rest h = over n _ _ refl refl (over n _ _ refl refl (over n _ rest refl refl h))

unary_over : (n : ℕ) (op : CUnary) (rest : List CToken) → Shallow n rest → Shallow n (unary_token op ∷ rest)
unary_over n unary_op.Not rest h = over n _ rest refl refl h
unary_over n unary_op.Complement rest h = over n _ rest refl refl h
unary_over n unary_op.Address rest h = over n _ rest refl refl h

args_at : (n : ℕ) (given : Args) → ArgsOpen (n + 2) given → ArgsOpen (n + 1 + 1) given
args_at n given o =
    let same : n + 2 ≡ n + 1 + 1 = omega arith in
    let P : ℕ → Type 0 = λ m. ArgsOpen m given in
    subst P same o

mutual
  expr_shallow : (n : ℕ) (e : ExprTree) (rest : List CToken) → ExprOpens n e → Shallow n rest → Shallow n (expr_tokens e rest)
  expr_shallow n (number k) rest o h = over n _ rest refl refl h
  expr_shallow n (variable name) rest o h = over n _ rest refl refl h
  expr_shallow n (member pointer field) rest o h = expr_shallow n pointer _ o (over n _ _ refl refl (over n _ rest refl refl h))
  expr_shallow n (element pointer index) rest o h = expr_shallow n pointer _ o.0 (opens _ _ _ refl (o.1.0) (expr_shallow (n + 1) index _ o.1.1 (square_shut n rest h)))
  expr_shallow n (pointed pointer) rest o h = (opens _ _ _ refl (o.0) (over (n + 1) _ _ refl refl (expr_shallow (n + 1) pointer _ o.1 (round_shut n rest h))))
  expr_shallow n (operation op first second others) rest o h =
      (opens _ _ _ refl (o.0) (expr_shallow (n + 1) first _ o.1.0 (over (n + 1) _ _ refl refl (expr_shallow (n + 1) second _ o.1.1.0 (operands_shallow (n + 1) others op _ o.1.1.1 (round_shut n rest h))))))
  expr_shallow n (unary op of) rest o h = (opens _ _ _ refl (o.0) (unary_over (n + 1) op _ (expr_shallow (n + 1) of _ o.1 (round_shut n rest h))))
  expr_shallow n (cast to of) rest o h =
      (opens _ _ _ refl (omega (arith, o.0)) ((opens _ _ _ refl (o.0) (type_over (n + 1 + 1) to _ (round_shut (n + 1) _ (expr_shallow (n + 1) of _ o.1 (round_shut n rest h)))))))
  expr_shallow n (choice test met unmet) rest o h =
      (opens _ _ _ refl (o.0) (expr_shallow (n + 1) test _ o.1.0 (over (n + 1) _ _ refl refl (expr_shallow (n + 1) met _ o.1.1.0 (over (n + 1) _ _ refl refl (expr_shallow (n + 1) unmet _ o.1.1.1 (round_shut n rest h)))))))
  expr_shallow n (called function given) rest o h =
      (opens _ _ _ refl (omega (arith, o.0)) (over (n + 1) _ _ refl refl (opens _ _ _ refl (o.0) (args_shallow (n + 1 + 1) given _ (args_at n given o.1) (round_shut (n + 1) _ (round_shut n rest h))))))

  operands_shallow : (n : ℕ) (others : Operands) (op : COp) (rest : List CToken) → OperandsOpen n others → Shallow n rest → Shallow n (operands_tokens others op rest)
  operands_shallow n no_operand op rest o h = h
  operands_shallow n (operand e others) op rest o h = over n _ _ refl refl (expr_shallow n e _ o.0 (operands_shallow n others op rest o.1 h))

  args_shallow : (n : ℕ) (given : Args) (rest : List CToken) → ArgsOpen n given → Shallow n rest → Shallow n (args_tokens given rest)
  args_shallow n no_arg rest o h = h
  args_shallow n (expr_arg e others) rest o h = expr_shallow n e _ o.0 (more_args_shallow n others rest o.1 h)
  args_shallow n (sizeof_arg name others) rest o h =
      over n _ _ refl refl (opens _ _ _ refl (o.0) (over (n + 1) _ _ refl refl (over (n + 1) _ _ refl refl (round_shut n _ (more_args_shallow n others rest o.1 h)))))

  more_args_shallow : (n : ℕ) (given : Args) (rest : List CToken) → ArgsOpen n given → Shallow n rest → Shallow n (more_args_tokens given rest)
  more_args_shallow n no_arg rest o h = h
  more_args_shallow n (expr_arg e others) rest o h = over n _ _ refl refl (expr_shallow n e _ o.0 (more_args_shallow n others rest o.1 h))
  more_args_shallow n (sizeof_arg name others) rest o h =
      over n _ _ refl refl (over n _ _ refl refl (opens _ _ _ refl (o.0) (over (n + 1) _ _ refl refl (over (n + 1) _ _ refl refl (round_shut n _ (more_args_shallow n others rest o.1 h))))))

value_shallow : (n : ℕ) (v : Option ExprTree) (rest : List CToken) → ValueOpens n v → Shallow n rest → Shallow n (value_tokens v rest)
value_shallow n None rest o h = h
value_shallow n (Some e) rest o h = expr_shallow n e rest o h

target_shallow : (n : ℕ) (v : Option ExprTree) (rest : List CToken) → ValueOpens n v → Shallow n rest → Shallow n (target_tokens v rest)
target_shallow n None rest o h = h
target_shallow n (Some e) rest o h = expr_shallow n e _ o (over n _ rest refl refl h)

else_shallow : (n : ℕ) (otherwise : Otherwise) (inner : List CToken → List CToken) (flat deep : Type 0) (rest : List CToken) → ElseOpens otherwise flat deep n
    → (flat → (rest : List CToken) → Shallow n rest → Shallow n (inner rest)) → (deep → (rest : List CToken) → Shallow (n + 1) rest → Shallow (n + 1) (inner rest))
    → Shallow n rest → Shallow n (else_tokens otherwise inner rest)
else_shallow n else_is.Nothing inner flat deep rest o f g h = h
else_shallow n else_is.Block inner flat deep rest o f g h = over n _ _ refl refl (opens _ _ _ refl (o.0) (g o.1 _ (curly_shut n rest h)))
else_shallow n else_is.If inner flat deep rest o f g h = over n _ _ refl refl (f o rest h)

code_shallow : (n : ℕ) (code : Code) (rest : List CToken) → CodeOpens n code → Shallow n rest → Shallow n (code_tokens code rest)
code_shallow n finish rest o h = h
code_shallow n (nested inner behind) rest o h = (opens _ _ _ refl (o.0) (code_shallow (n + 1) inner _ o.1.0 (curly_shut n _ (code_shallow n behind rest o.1.1 h))))
code_shallow n (empty behind) rest o h = over n _ _ refl refl (code_shallow n behind rest o h)
code_shallow n (assign target value behind) rest o h =
    expr_shallow n target _ o.0 (over n _ _ refl refl (expr_shallow n value _ o.1.0 (over n _ _ refl refl (code_shallow n behind rest o.1.1 h))))
code_shallow n (call target function given behind) rest o h =
    target_shallow n target _ o.0 (over n _ _ refl refl (opens _ _ _ refl (o.1.0) (args_shallow (n + 1) given _ o.1.1.0 (round_shut n _ (over n _ _ refl refl (code_shallow n behind rest o.1.1.1 h))))))
code_shallow n (jump label behind) rest o h = over n _ _ refl refl (over n _ _ refl refl (over n _ _ refl refl (code_shallow n behind rest o h)))
code_shallow n (branch test body otherwise other behind) rest o h =
    over n _ _ refl refl (opens _ _ _ refl (o.0) (expr_shallow (n + 1) test _ o.1.0 (round_shut n _ (opens _ _ _ refl (o.0) (code_shallow (n + 1) body _ o.1.1.0 (curly_shut n _
    (else_shallow n otherwise (code_tokens other) (CodeOpens n other) (CodeOpens (n + 1) other) _ o.1.1.1.0 (λ a ts s. code_shallow n other ts a s) (λ a ts s. code_shallow (n + 1) other ts a s)
    (code_shallow n behind rest o.1.1.1.1 h))))))))
code_shallow n (repeat test body behind) rest o h =
    over n _ _ refl refl (opens _ _ _ refl (o.0) (expr_shallow (n + 1) test _ o.1.0 (round_shut n _ (opens _ _ _ refl (o.0) (code_shallow (n + 1) body _ o.1.1.0 (curly_shut n _ (code_shallow n behind rest o.1.1.1 h)))))))
code_shallow n (select on body behind) rest o h =
    over n _ _ refl refl (opens _ _ _ refl (o.0) (expr_shallow (n + 1) on _ o.1.0 (round_shut n _ (opens _ _ _ refl (o.0) (code_shallow (n + 1) body _ o.1.1.0 (curly_shut n _ (code_shallow n behind rest o.1.1.1 h)))))))
code_shallow n (leave value behind) rest o h = over n _ _ refl refl (value_shallow n value _ o.0 (over n _ _ refl refl (code_shallow n behind rest o.1 h)))
code_shallow n (case_label k behind) rest o h = over n _ _ refl refl (over n _ _ refl refl (over n _ _ refl refl (code_shallow n behind rest o h)))
code_shallow n (default_label behind) rest o h = over n _ _ refl refl (over n _ _ refl refl (code_shallow n behind rest o h))
code_shallow n (name_label name behind) rest o h = over n _ _ refl refl (over n _ _ refl refl (code_shallow n behind rest o h))

-- Items.
kind_over : (n : ℕ) (kind : FieldKind) (rest : List CToken) → Shallow n rest → Shallow n (field_kind_tokens kind rest)
kind_over n (plain t) rest h = type_over n t rest h
kind_over n (inside name) rest h = over n _ rest refl refl h

count_shallow : (count : Option CNumber) (rest : List CToken) → Shallow 1 rest → Shallow 1 (count_tokens count rest)
count_shallow None rest h = h
count_shallow (Some k) rest h = (opens _ _ _ refl (omega arith) (over 2 _ _ refl refl (square_shut 1 rest h)))

fields_shallow : (fs : List FieldTree) (rest : List CToken) → Shallow 1 rest → Shallow 1 (fields_tokens fs rest)
fields_shallow [] rest h = h
fields_shallow (f ∷ fs) rest h = kind_over 1 f.kind _ (over 1 _ _ refl refl (count_shallow f.count _ (over 1 _ _ refl refl (fields_shallow fs rest h))))

more_params_over : (ps : List ParamTree) (rest : List CToken) → Shallow 1 rest → Shallow 1 (more_params_tokens ps rest)
more_params_over [] rest h = h
more_params_over (p ∷ ps) rest h = over 1 _ _ refl refl (type_over 1 p.kind _ (over 1 _ _ refl refl (more_params_over ps rest h)))

params_over : (ps : List ParamTree) (rest : List CToken) → Shallow 1 rest → Shallow 1 (params_tokens ps rest)
params_over [] rest h = over 1 _ rest refl refl h
params_over (p ∷ ps) rest h = type_over 1 p.kind _ (over 1 _ _ refl refl (more_params_over ps rest h))

initial_shallow : (v : Option ExprTree) (rest : List CToken) → ValueOpens 1 v → Shallow 1 rest → Shallow 1 (initial_tokens v rest)
initial_shallow None rest o h = h
initial_shallow (Some e) rest o h = over 1 _ _ refl refl (expr_shallow 1 e rest o h)

locals_shallow : (ls : List LocalTree) (rest : List CToken) → LocalsOpen ls → Shallow 1 rest → Shallow 1 (locals_tokens ls rest)
locals_shallow [] rest o h = h
locals_shallow (l ∷ ls) rest o h = type_over 1 l.kind _ (over 1 _ _ refl refl (initial_shallow l.initial _ o.0 (over 1 _ _ refl refl (locals_shallow ls rest o.1 h))))

linkage_over : (linkage : Linkage) (rest : List CToken) → Shallow 0 rest → Shallow 0 (linkage_tokens linkage rest)
linkage_over External rest h = h
linkage_over Static rest h = over 0 _ rest refl refl h
linkage_over StaticInline rest h = over 0 _ _ refl refl (over 0 _ rest refl refl h)

result_over : (t : Option TypeTree) (rest : List CToken) → Shallow 0 rest → Shallow 0 (result_tokens t rest)
result_over None rest h = over 0 _ rest refl refl h
result_over (Some t) rest h = type_over 0 t rest h

item_shallow : (item : ItemTree) (rest : List CToken) → ItemOpens item → Shallow 0 rest → Shallow 0 (item_tokens item rest)
item_shallow (struct_item fields name) rest o h =
    over 0 _ _ refl refl (over 0 _ _ refl refl (opens _ _ _ refl (omega arith) (fields_shallow fields _ (curly_shut 0 _ (over 0 _ _ refl refl (over 0 _ rest refl refl h))))))
item_shallow (text_item name bytes) rest o h =
    over 0 _ _ refl refl (over 0 _ _ refl refl (over 0 _ _ refl refl (over 0 _ _ refl refl (opens _ _ _ refl (omega arith) (square_shut 0 _ (over 0 _ _ refl refl (over 0 _ _ refl refl (over 0 _ rest refl refl h))))))))
item_shallow (function_item linkage result_type name params locals body) rest o h =
    linkage_over linkage _ (result_over result_type _ (over 0 _ _ refl refl (opens _ _ _ refl (omega arith) (params_over params _ (round_shut 0 _
    (opens _ _ _ refl (omega arith) (locals_shallow locals _ o.0 (code_shallow 1 body _ o.1 (curly_shut 0 rest h)))))))))

units_shallow : (items : List ItemTree) → AllByRecursion ItemOpens items → Shallow 0 (unit_tokens items)
units_shallow [] o = record { is = tt }
units_shallow (item ∷ items) o = item_shallow item (unit_tokens items) o.0 (units_shallow items o.1)

pub unit_shallow : (items : List ItemTree) → AllByRecursion ItemOpens items → IsShallow 0 (unit_tokens items)
unit_shallow items o = (units_shallow items o).is
