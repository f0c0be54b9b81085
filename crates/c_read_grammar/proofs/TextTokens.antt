-- The tokens of a text are tokens of the subset, so bytes have one tree at most.
use Rattle.std.proofs.Common.{◌≡◌, ◌∙◌, sym, subst, ℕ, Option, None, Some, IfSome, List, [], ◌∷◌}
use Rattle.std.proofs.lemmas.List.{append_cancel_left}
use Rattle.c_text.specs.declared.kinds.CNumber.{CNumber}
use Rattle.c_text.specs.declared.kinds.COp.{COp}
use Rattle.c_text.specs.declared.kinds.CUint.TheVariants.{U8, U16, U32, U64}
use Rattle.c_text.specs.declared.kinds.CUnary.TheVariants as unary_op
use Rattle.c_text.specs.declared.kinds.Linkage.{Linkage}
use Rattle.c_text.specs.declared.kinds.Linkage.TheVariants.{External, Static, StaticInline}
use Rattle.c_text.specs.declared.kinds.Otherwise.{Otherwise}
use Rattle.c_text.specs.declared.kinds.Otherwise.TheVariants as else_is
use Rattle.c_text.specs.declared.tokens.CMark.TheVariants as mark
use Rattle.c_text.specs.CSpelling.{CToken, named, marked, IsLiteral, Spells, includes}
use Rattle.c_text.specs.CGrammar.{type_tokens, expr_tokens, operands_tokens, args_tokens, more_args_tokens, value_tokens, target_tokens, else_tokens, code_tokens, field_kind_tokens, count_tokens, fields_tokens, more_params_tokens, params_tokens, initial_tokens, locals_tokens, linkage_tokens, result_tokens, item_tokens, unit_tokens, IsType, IsExpr, IsOperands, IsArgs, IsTarget, IsCode, IsFieldKind, AreFields, AreParams, AreLocals, IsItem, IsUnit, IsTextOf}
use Rattle.c_text.specs.CTree.{TypeTree, uint, size, boolean, uint_pointer, struct_pointer, text, ExprTree, number, variable, member, element, pointed, operation, unary, cast, choice, called, Operands, no_operand, operand, Args, no_arg, expr_arg, sizeof_arg, Code, finish, nested, empty, assign, call, jump, branch, repeat, select, leave, case_label, default_label, name_label, FieldKind, plain, inside, FieldTree, ParamTree, LocalTree, ItemTree, struct_item, text_item, function_item}
use Rattle.c_read_grammar.specs.Texts.{AreTokens}
use Rattle.c_read_grammar.proofs.Refusal.{one-tree}
use Rattle.c_read_grammar.proofs.OneSpelling.{one-spelling}

are-type : (t : TypeTree) → IsType t → (ts : List CToken) → AreTokens ts → AreTokens (type_tokens t ts)
are-type (uint U8) l ts h = (tt, h)
are-type (uint U16) l ts h = (tt, h)
are-type (uint U32) l ts h = (tt, h)
are-type (uint U64) l ts h = (tt, h)
are-type (uint_pointer U8) l ts h = (tt, (tt, h))
are-type (uint_pointer U16) l ts h = (tt, (tt, h))
are-type (uint_pointer U32) l ts h = (tt, (tt, h))
are-type (uint_pointer U64) l ts h = (tt, (tt, h))
are-type size l ts h = (tt, h)
are-type boolean l ts h = (tt, h)
are-type (struct_pointer n) l ts h = (l, (tt, h))
are-type text l ts h = (tt, (tt, (tt, h)))

mutual
  are-expr : (e : ExprTree) → IsExpr e → (ts : List CToken) → AreTokens ts → AreTokens (expr_tokens e ts)
  are-expr (number n) l ts h = (l, h)
  are-expr (variable n) l ts h = (l, h)
  are-expr (member p f) l ts h = are-expr p l.1 (marked mark.Arrow ∷ named f ∷ ts) (tt, (l.2, h))
  are-expr (element p i) l ts h = are-expr p l.1 (marked mark.OpenBracket ∷ expr_tokens i (marked mark.CloseBracket ∷ ts)) (tt, are-expr i l.2 (marked mark.CloseBracket ∷ ts) (tt, h))
  are-expr (pointed p) l ts h = (tt, (tt, are-expr p l.1 (marked mark.CloseParen ∷ ts) (tt, h)))
  are-expr (operation o a b os) l ts h = (tt, are-expr a l.0 _ (tt, are-expr b l.1 _ (are-operands os o l.2 (marked mark.CloseParen ∷ ts) (tt, h))))
  are-expr (unary unary_op.Not e) l ts h = (tt, (tt, are-expr e l (marked mark.CloseParen ∷ ts) (tt, h)))
  are-expr (unary unary_op.Complement e) l ts h = (tt, (tt, are-expr e l (marked mark.CloseParen ∷ ts) (tt, h)))
  are-expr (unary unary_op.Address e) l ts h = (tt, (tt, are-expr e l (marked mark.CloseParen ∷ ts) (tt, h)))
  are-expr (cast t e) l ts h = (tt, (tt, are-type t l.0 _ (tt, are-expr e l.1 (marked mark.CloseParen ∷ ts) (tt, h))))
  are-expr (choice a b c) l ts h = (tt, are-expr a l.0 _ (tt, are-expr b l.1 _ (tt, are-expr c l.2 (marked mark.CloseParen ∷ ts) (tt, h))))
  are-expr (called f args) l ts h = (tt, (l.0, (tt, are-args args l.1 (marked mark.CloseParen ∷ marked mark.CloseParen ∷ ts) (tt, (tt, h)))))

  are-operands : (os : Operands) (o : COp) → IsOperands os → (ts : List CToken) → AreTokens ts → AreTokens (operands_tokens os o ts)
  are-operands no_operand o l ts h = h
  are-operands (operand e os) o l ts h = (tt, are-expr e l.0 (operands_tokens os o ts) (are-operands os o l.1 ts h))

  are-args : (args : Args) → IsArgs args → (ts : List CToken) → AreTokens ts → AreTokens (args_tokens args ts)
  are-args no_arg l ts h = h
  are-args (expr_arg e args) l ts h = are-expr e l.0 (more_args_tokens args ts) (are-more_args args l.1 ts h)
  are-args (sizeof_arg n args) l ts h = (tt, (tt, (tt, (l.0, (tt, are-more_args args l.1 ts h)))))

  are-more_args : (args : Args) → IsArgs args → (ts : List CToken) → AreTokens ts → AreTokens (more_args_tokens args ts)
  are-more_args no_arg l ts h = h
  are-more_args (expr_arg e args) l ts h = (tt, are-expr e l.0 (more_args_tokens args ts) (are-more_args args l.1 ts h))
  are-more_args (sizeof_arg n args) l ts h = (tt, (tt, (tt, (tt, (l.0, (tt, are-more_args args l.1 ts h))))))

are-value : (value : Option ExprTree) → IfSome value IsExpr → (ts : List CToken) → AreTokens ts → AreTokens (value_tokens value ts)
are-value None l ts h = h
are-value (Some e) l ts h = are-expr e l ts h

are-target : (target : Option ExprTree) → IfSome target IsTarget → (ts : List CToken) → AreTokens ts → AreTokens (target_tokens target ts)
are-target None l ts h = h
are-target (Some e) l ts h = are-expr e l.1 (marked mark.Assign ∷ ts) (tt, h)

abbrev Inner : (List CToken → List CToken) → Type 0
Inner inner = (ts : List CToken) → AreTokens ts → AreTokens (inner ts)

are-else : (otherwise : Otherwise) (inner : List CToken → List CToken) → Inner inner → (ts : List CToken) → AreTokens ts → AreTokens (else_tokens otherwise inner ts)
are-else else_is.Nothing inner f ts h = h
are-else else_is.Block inner f ts h = (tt, (tt, f (marked mark.CloseBrace ∷ ts) (tt, h)))
are-else else_is.If inner f ts h = (tt, f ts h)

are-code : (c : Code) → IsCode c → (ts : List CToken) → AreTokens ts → AreTokens (code_tokens c ts)
are-code finish l ts h = h
are-code (nested inner rest) l ts h = (tt, are-code inner l.0 (marked mark.CloseBrace ∷ code_tokens rest ts) (tt, are-code rest l.1 ts h))
are-code (empty rest) l ts h = (tt, are-code rest l ts h)
are-code (assign target e rest) l ts h = are-expr target l.0.1 _ (tt, are-expr e l.1 (marked mark.Semicolon ∷ code_tokens rest ts) (tt, are-code rest l.2 ts h))
are-code (call target f args rest) l ts h = are-target target l.0 _ (l.1, (tt, are-args args l.2 (marked mark.CloseParen ∷ marked mark.Semicolon ∷ code_tokens rest ts) (tt, (tt, are-code rest l.3 ts h))))
are-code (jump label rest) l ts h = (tt, (l.0, (tt, are-code rest l.1 ts h)))
are-code (branch test body otherwise other rest) l ts h = (tt, (tt, are-expr test l.0 _ (tt, (tt, are-code body l.1 _ (tt, are-else otherwise (code_tokens other) (λ ys k. are-code other l.3 ys k) (code_tokens rest ts) (are-code rest l.4 ts h))))))
are-code (repeat test body rest) l ts h = (tt, (tt, are-expr test l.0 _ (tt, (tt, are-code body l.1 (marked mark.CloseBrace ∷ code_tokens rest ts) (tt, are-code rest l.2 ts h)))))
are-code (select on body rest) l ts h = (tt, (tt, are-expr on l.0 _ (tt, (tt, are-code body l.1 (marked mark.CloseBrace ∷ code_tokens rest ts) (tt, are-code rest l.2 ts h)))))
are-code (leave value rest) l ts h = (tt, are-value value l.0 (marked mark.Semicolon ∷ code_tokens rest ts) (tt, are-code rest l.1 ts h))
are-code (case_label n rest) l ts h = (tt, (l.0, (tt, are-code rest l.2 ts h)))
are-code (default_label rest) l ts h = (tt, (tt, are-code rest l.1 ts h))
are-code (name_label n rest) l ts h = (l.0, (tt, are-code rest l.2 ts h))

are-kind : (kind : FieldKind) → IsFieldKind kind → (ts : List CToken) → AreTokens ts → AreTokens (field_kind_tokens kind ts)
are-kind (plain t) l ts h = are-type t l ts h
are-kind (inside n) l ts h = (l, h)

are-count : (count : Option CNumber) → IfSome count IsLiteral → (ts : List CToken) → AreTokens ts → AreTokens (count_tokens count ts)
are-count None l ts h = h
are-count (Some n) l ts h = (tt, (l, (tt, h)))

are-fields : (fs : List FieldTree) → AreFields fs → (ts : List CToken) → AreTokens ts → AreTokens (fields_tokens fs ts)
are-fields [] l ts h = h
are-fields (f ∷ fs) l ts h = are-kind f.kind l.0 (named f.name ∷ count_tokens f.count (marked mark.Semicolon ∷ fields_tokens fs ts)) (l.1, are-count f.count l.2 (marked mark.Semicolon ∷ fields_tokens fs ts) (tt, are-fields fs l.3 ts h))

are-more_params : (ps : List ParamTree) → AreParams ps → (ts : List CToken) → AreTokens ts → AreTokens (more_params_tokens ps ts)
are-more_params [] l ts h = h
are-more_params (p ∷ ps) l ts h = (tt, are-type p.kind l.0 (named p.name ∷ more_params_tokens ps ts) (l.1, are-more_params ps l.2 ts h))

are-params : (ps : List ParamTree) → AreParams ps → (ts : List CToken) → AreTokens ts → AreTokens (params_tokens ps ts)
are-params [] l ts h = (tt, h)
are-params (p ∷ ps) l ts h = are-type p.kind l.0 (named p.name ∷ more_params_tokens ps ts) (l.1, are-more_params ps l.2 ts h)

are-initial : (initial : Option ExprTree) → IfSome initial IsExpr → (ts : List CToken) → AreTokens ts → AreTokens (initial_tokens initial ts)
are-initial None l ts h = h
are-initial (Some e) l ts h = (tt, are-expr e l ts h)

are-locals : (ls : List LocalTree) → AreLocals ls → (ts : List CToken) → AreTokens ts → AreTokens (locals_tokens ls ts)
are-locals [] l ts h = h
are-locals (x ∷ ls) l ts h = are-type x.kind l.0 (named x.name ∷ initial_tokens x.initial (marked mark.Semicolon ∷ locals_tokens ls ts)) (l.1, are-initial x.initial l.2 (marked mark.Semicolon ∷ locals_tokens ls ts) (tt, are-locals ls l.3 ts h))

are-linkage : (l : Linkage) → (ts : List CToken) → AreTokens ts → AreTokens (linkage_tokens l ts)
are-linkage External ts h = h
are-linkage Static ts h = (tt, h)
are-linkage StaticInline ts h = (tt, (tt, h))

are-result : (r : Option TypeTree) → IfSome r IsType → (ts : List CToken) → AreTokens ts → AreTokens (result_tokens r ts)
are-result None l ts h = (tt, h)
are-result (Some t) l ts h = are-type t l ts h

are-item : (i : ItemTree) → IsItem i → (ts : List CToken) → AreTokens ts → AreTokens (item_tokens i ts)
are-item (struct_item fs n) l ts h = (tt, (tt, (tt, are-fields fs l.1 (marked mark.CloseBrace ∷ named n ∷ marked mark.Semicolon ∷ ts) (tt, (l.2, (tt, h))))))
are-item (text_item n bytes) l ts h = (tt, (tt, (tt, (l.0, (tt, (tt, (tt, (l.1, (tt, h)))))))))
are-item (function_item linkage r n ps ls c) l ts h =
    let body = locals_tokens ls (code_tokens c (marked mark.CloseBrace ∷ ts)) in
    let params = params_tokens ps (marked mark.CloseParen ∷ marked mark.OpenBrace ∷ body) in
    let in_body : AreTokens body = are-locals ls l.3 (code_tokens c (marked mark.CloseBrace ∷ ts)) (are-code c l.4 (marked mark.CloseBrace ∷ ts) (tt, h)) in
    are-linkage linkage (result_tokens r (named n ∷ marked mark.OpenParen ∷ params))
    (are-result r l.0 (named n ∷ marked mark.OpenParen ∷ params) (l.1, (tt, are-params ps l.2 (marked mark.CloseParen ∷ marked mark.OpenBrace ∷ body) (tt, (tt, in_body)))))

-- The tokens of a text are tokens of the subset.
pub are-unit : (u : List ItemTree) → IsUnit u → AreTokens (unit_tokens u)
are-unit [] l = tt
are-unit (i ∷ u) l = are-item i l.0 (unit_tokens u) (are-unit u l.1)

-- Bytes have one tree at most.
pub one-text : (bytes : List ℕ) (a b : List ItemTree) → IsTextOf bytes a → IsTextOf bytes b → a ≡ b
one-text bytes a b x y =
    let same : x.body ≡ y.body = append_cancel_left includes x.body y.body (sym x.begins ∙ y.begins) in
    let tokens : unit_tokens a ≡ unit_tokens b = one-spelling (unit_tokens a) (unit_tokens b) (are-unit a x.lawful) (are-unit b y.lawful) x.body x.spelt (subst (λ (z : List ℕ). Spells (unit_tokens b) z) (sym same) y.spelt) in
    one-tree a b x.lawful y.lawful tokens
