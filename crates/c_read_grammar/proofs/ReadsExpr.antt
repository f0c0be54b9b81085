-- Every expression of the grammar is read to its tree.
use Rattle.std.proofs.Common.{◌≡◌, ◌∙◌, ap, sym, ℕ, Bool, true, false, not, List, ◌∷◌, refl}
use Rattle.c_text.specs.declared.kinds.COp.{COp}
use Rattle.c_text.specs.declared.kinds.COp.TheVariants as op
use Rattle.c_text.specs.declared.kinds.CUint.TheVariants.{U8, U16, U32, U64}
use Rattle.c_text.specs.declared.kinds.CUnary.{CUnary}
use Rattle.c_text.specs.declared.kinds.CUnary.TheVariants as unary_op
use Rattle.c_text.specs.declared.tokens.CWord.TheVariants as word
use Rattle.c_text.specs.declared.tokens.CMark.{CMark}
use Rattle.c_text.specs.declared.tokens.CMark.TheVariants as mark
use Rattle.c_text.specs.CSpelling.{CToken, keyword, named, operator, marked}
use Rattle.c_text.specs.CGrammar.{expr_tokens, operands_tokens, args_tokens, more_args_tokens, is_literal, type_tokens, IsExpr, IsOperands, IsArgs, MayRepeat, repeats}
use Rattle.c_text.specs.CTree.{TypeTree, uint, size, boolean, uint_pointer, struct_pointer, text, ExprTree, number, variable, member, element, pointed, operation, unary, cast, choice, called, Operands, no_operand, operand, Args, no_arg, expr_arg, sizeof_arg}
use Rattle.c_read_grammar.specs.declared.symbols.ExprSym.TheVariants.{Expr, Tail, Paren, ParenParen, Operator, Operands as OperandsOf, Args as ArgsOf, Arg, MoreArgs}
use Rattle.c_read_grammar.specs.declared.symbols.TokenSym.TheVariants.{Mark}
use Rattle.c_read_grammar.specs.declared.actions.Action.TheVariants as acts
use Rattle.c_read_grammar.specs.declared.actions.ExprAction.TheVariants.{MakeVariable, MakeNumber, MakeMember, MakeElement, MakePointed, StartOperation, AddOperand, MakeOperation, MakeUnary, MakeCast, MakeChoice, MakeCalled, StartArgs, AddArg, AddSizeof}
use Rattle.c_read_grammar.specs.declared.actions.TypeAction.TheVariants.{MakeStructPointer}
use Rattle.c_read_grammar.specs.declared.actions.Want.{Want}
use Rattle.c_read_grammar.specs.Machine.{expr, token, do_expr}
use Rattle.c_read_grammar.specs.Values.{Val, a_name, an_expr, a_number, a_type, an_operation, some_args, kept_if, may_repeat, operands_then, args_then}
use Rattle.c_read_grammar.proofs.Spine.{run, performs, inside, in_parens, spine-post, spine-paren}

abbrev pub open_paren : CToken
open_paren = marked mark.OpenParen

abbrev pub close_paren : CToken
close_paren = marked mark.CloseParen

abbrev pub close_bracket : CToken
close_bracket = marked mark.CloseBracket

abbrev pub awaits : CMark → Want
awaits m = token (Mark m)

-- What may still go on after an expression, before what is wanted next.
abbrev pub tail_wants : ExprTree → List Want → List Want
tail_wants (number n) k = k
tail_wants _ k = expr Tail ∷ k

-- The expression goes on no more.
abbrev pub ends_tail : CToken → Bool
ends_tail (marked mark.Arrow) = false
ends_tail (marked mark.OpenBracket) = false
ends_tail _ = true

drop-tail : (t : CToken) → ends_tail t ≡ true → (ts : List CToken) (k : List Want) (vs : List Val) → run (t ∷ ts) (expr Tail ∷ k) vs ≡ run (t ∷ ts) k vs
drop-tail (marked mark.Arrow) h ts k vs = absurd (cc h)
drop-tail (marked mark.OpenBracket) h ts k vs = absurd (cc h)
drop-tail _ h ts k vs = refl

pub drop : (e : ExprTree) (t : CToken) → ends_tail t ≡ true → (ts : List CToken) (k : List Want) (vs : List Val) → run (t ∷ ts) (tail_wants e k) vs ≡ run (t ∷ ts) k vs
drop (number n) t h ts k vs = refl
drop _ t h ts k vs = drop-tail t h ts k vs

pub tail-post : (e : ExprTree) → is_literal e ≡ false → (k : List Want) → tail_wants e k ≡ expr Tail ∷ k
tail-post (number n) h k = absurd (cc h)
tail-post _ h k = refl

pub kept-post : (e : ExprTree) → is_literal e ≡ false → (made : Val) (ts : List CToken) (k : List Want) (vs : List Val) → run ts k (kept_if (not (is_literal e)) made vs) ≡ run ts k (made ∷ vs)
kept-post e h made ts k vs = ap (λ b. run ts k (kept_if (not b) made vs)) h

-- An expression is read, where one is wanted.
abbrev pub Reads : ExprTree → Type 0
Reads e = (ts : List CToken) (k : List Want) (vs : List Val) → run (expr_tokens e ts) (expr Expr ∷ k) vs ≡ run ts (tail_wants e k) (an_expr e ∷ vs)

-- An expression in parentheses is read, after its `(`.
abbrev pub ReadsInside : ExprTree → Type 0
ReadsInside e = (ts : List CToken) (k : List Want) (vs : List Val) → run (inside e ts) (expr Paren ∷ k) vs ≡ run ts k (an_expr e ∷ vs)

-- the expression and the token that ends it
pub reads-to : (e : ExprTree) → Reads e → (t : CToken) → ends_tail t ≡ true → (ts : List CToken) (k : List Want) (vs : List Val)
    → run (expr_tokens e (t ∷ ts)) (expr Expr ∷ k) vs ≡ run (t ∷ ts) k (an_expr e ∷ vs)
reads-to e f t h ts k vs = f (t ∷ ts) k vs ∙ drop e t h ts k (an_expr e ∷ vs)

reads-member : (p : ExprTree) (f : List ℕ) → is_literal p ≡ false → Reads p → Reads (member p f)
reads-member p f h fp ts k vs =
    fp (marked mark.Arrow ∷ named f ∷ ts) k vs
    ∙ ap (λ j. run (marked mark.Arrow ∷ named f ∷ ts) j (an_expr p ∷ vs)) (tail-post p h k)
    ∙ performs ts (acts.Expr MakeMember) (expr Tail ∷ k) (a_name f ∷ an_expr p ∷ vs)
    ∙ kept-post p h (an_expr (member p f)) ts (expr Tail ∷ k) vs

reads-element : (p i : ExprTree) → is_literal p ≡ false → Reads p → Reads i → Reads (element p i)
reads-element p i h fp fi ts k vs =
    fp (marked mark.OpenBracket ∷ expr_tokens i (close_bracket ∷ ts)) k vs
    ∙ ap (λ j. run (marked mark.OpenBracket ∷ expr_tokens i (close_bracket ∷ ts)) j (an_expr p ∷ vs)) (tail-post p h k)
    ∙ reads-to i fi close_bracket refl ts (awaits mark.CloseBracket ∷ do_expr MakeElement ∷ expr Tail ∷ k) (an_expr p ∷ vs)
    ∙ performs ts (acts.Expr MakeElement) (expr Tail ∷ k) (an_expr i ∷ an_expr p ∷ vs)
    ∙ kept-post p h (an_expr (element p i)) ts (expr Tail ∷ k) vs

inside-pointed : (p : ExprTree) → is_literal p ≡ false → IsExpr p → Reads p → ReadsInside (pointed p)
inside-pointed p h l fp ts k vs =
    spine-post p h l (close_paren ∷ ts) (awaits mark.CloseParen ∷ do_expr MakePointed ∷ k) vs
    ∙ reads-to p fp close_paren refl ts (awaits mark.CloseParen ∷ do_expr MakePointed ∷ k) vs
    ∙ performs ts (acts.Expr MakePointed) k (an_expr p ∷ vs)
    ∙ kept-post p h (an_expr (pointed p)) ts k vs

unary-to : (o : CUnary) (e : ExprTree) → Reads e → (ts : List CToken) (k : List Want) (vs : List Val)
    → run (expr_tokens e (close_paren ∷ ts)) (expr Expr ∷ awaits mark.CloseParen ∷ do_expr (MakeUnary o) ∷ k) vs ≡ run ts k (an_expr (unary o e) ∷ vs)
unary-to o e fe ts k vs = reads-to e fe close_paren refl ts (awaits mark.CloseParen ∷ do_expr (MakeUnary o) ∷ k) vs ∙ performs ts (acts.Expr (MakeUnary o)) k (an_expr e ∷ vs)

inside-unary : (o : CUnary) (e : ExprTree) → Reads e → ReadsInside (unary o e)
inside-unary unary_op.Not e fe ts k vs = unary-to unary_op.Not e fe ts k vs
inside-unary unary_op.Complement e fe ts k vs = unary-to unary_op.Complement e fe ts k vs
inside-unary unary_op.Address e fe ts k vs = unary-to unary_op.Address e fe ts k vs

cast-type : (t : TypeTree) (ts : List CToken) (k : List Want) (vs : List Val)
    → run (type_tokens t (close_paren ∷ ts)) (expr ParenParen ∷ k) vs ≡ run ts (expr Expr ∷ awaits mark.CloseParen ∷ do_expr MakeCast ∷ k) (a_type t ∷ vs)
cast-type (uint U8) ts k vs = refl
cast-type (uint U16) ts k vs = refl
cast-type (uint U32) ts k vs = refl
cast-type (uint U64) ts k vs = refl
cast-type size ts k vs = refl
cast-type boolean ts k vs = refl
cast-type (uint_pointer U8) ts k vs = refl
cast-type (uint_pointer U16) ts k vs = refl
cast-type (uint_pointer U32) ts k vs = refl
cast-type (uint_pointer U64) ts k vs = refl
cast-type (struct_pointer n) ts k vs = performs ts (acts.Type MakeStructPointer) (expr Expr ∷ awaits mark.CloseParen ∷ do_expr MakeCast ∷ k) (a_name n ∷ vs)
cast-type text ts k vs = refl

inside-cast : (t : TypeTree) (e : ExprTree) → Reads e → ReadsInside (cast t e)
inside-cast t e fe ts k vs =
    cast-type t (expr_tokens e (close_paren ∷ ts)) k vs
    ∙ reads-to e fe close_paren refl ts (awaits mark.CloseParen ∷ do_expr MakeCast ∷ k) (a_type t ∷ vs)
    ∙ performs ts (acts.Expr MakeCast) k (an_expr e ∷ a_type t ∷ vs)

inside-choice : (a b c : ExprTree) → Reads a → Reads b → Reads c → ReadsInside (choice a b c)
inside-choice a b c fa fb fc ts k vs =
    let third = expr_tokens c (close_paren ∷ ts) in
    let second = expr_tokens b (marked mark.Colon ∷ third) in
    spine-paren a (marked mark.Question ∷ second) refl k vs
    ∙ reads-to a fa (marked mark.Question) refl second (expr Operator ∷ k) vs
    ∙ reads-to b fb (marked mark.Colon) refl third (awaits mark.Colon ∷ expr Expr ∷ awaits mark.CloseParen ∷ do_expr MakeChoice ∷ k) (an_expr a ∷ vs)
    ∙ reads-to c fc close_paren refl ts (awaits mark.CloseParen ∷ do_expr MakeChoice ∷ k) (an_expr b ∷ an_expr a ∷ vs)
    ∙ performs ts (acts.Expr MakeChoice) k (an_expr c ∷ an_expr b ∷ an_expr a ∷ vs)

-- Operands of one operator.
then-no_operand : (os : Operands) → operands_then os no_operand ≡ os
then-no_operand no_operand = refl
then-no_operand (operand e os) = ap (operand e) (then-no_operand os)

then-operand : (os more : Operands) (e : ExprTree) → operands_then (operands_then os (operand e no_operand)) more ≡ operands_then os (operand e more)
then-operand no_operand more e = refl
then-operand (operand x os) more e = ap (operand x) (then-operand os more e)

abbrev pub ReadsOperands : Operands → COp → Type 0
ReadsOperands os o = (a b : ExprTree) (done : Operands) → may_repeat o (operands_then done os) ≡ true → (ts : List CToken) (k : List Want) (vs : List Val)
    → run (operands_tokens os o (close_paren ∷ ts)) (expr (OperandsOf o) ∷ k) (an_operation a b done ∷ vs) ≡ run ts k (an_expr (operation o a b (operands_then done os)) ∷ vs)

reads-no_operand : (o : COp) → ReadsOperands no_operand o
reads-no_operand o a b done h ts k vs =
    performs ts (acts.Expr (MakeOperation o)) k (an_operation a b done ∷ vs)
    ∙ ap (λ os. run ts k (kept_if (may_repeat o os) (an_expr (operation o a b os)) vs)) (sym (then-no_operand done))
    ∙ ap (λ x. run ts k (kept_if x (an_expr (operation o a b (operands_then done no_operand))) vs)) h

one-more : (o : COp) → repeats o ≡ true → (ts : List CToken) (k : List Want) (vs : List Val)
    → run (operator o ∷ ts) (expr (OperandsOf o) ∷ k) vs ≡ run ts (expr Expr ∷ do_expr AddOperand ∷ expr (OperandsOf o) ∷ k) vs
one-more op.Add h ts k vs = refl
one-more op.Mul h ts k vs = refl
one-more op.BitAnd h ts k vs = refl
one-more op.BitOr h ts k vs = refl
one-more op.BitXor h ts k vs = refl
one-more op.Both h ts k vs = refl
one-more op.Either h ts k vs = refl
one-more _ h ts k vs = absurd (cc h)

repeats-here : (o : COp) (done os : Operands) (e : ExprTree) → may_repeat o (operands_then done (operand e os)) ≡ true → repeats o ≡ true
repeats-here o no_operand os e h = h
repeats-here o (operand x done) os e h = h

drop-operands : (e : ExprTree) (os : Operands) (o : COp) (ts : List CToken) (k : List Want) (vs : List Val)
    → run (operands_tokens os o (close_paren ∷ ts)) (tail_wants e k) vs ≡ run (operands_tokens os o (close_paren ∷ ts)) k vs
drop-operands e no_operand o ts k vs = drop e close_paren refl ts k vs
drop-operands e (operand x os) o ts k vs = drop e (operator o) refl (expr_tokens x (operands_tokens os o (close_paren ∷ ts))) k vs

reads-operand : (e : ExprTree) (os : Operands) (o : COp) → Reads e → ReadsOperands os o → ReadsOperands (operand e os) o
reads-operand e os o fe fos a b done h ts k vs =
    let behind = operands_tokens os o (close_paren ∷ ts) in
    let more = do_expr AddOperand ∷ expr (OperandsOf o) ∷ k in
    let same = then-operand done os e in
    one-more o (repeats-here o done os e h) (expr_tokens e behind) k (an_operation a b done ∷ vs)
    ∙ fe behind more (an_operation a b done ∷ vs)
    ∙ drop-operands e os o ts more (an_expr e ∷ an_operation a b done ∷ vs)
    ∙ performs behind (acts.Expr AddOperand) (expr (OperandsOf o) ∷ k) (an_expr e ∷ an_operation a b done ∷ vs)
    ∙ fos a b (operands_then done (operand e no_operand)) (ap (may_repeat o) same ∙ h) ts k vs
    ∙ ap (λ x. run ts k (an_expr (operation o a b x) ∷ vs)) same

allowed : (o : COp) (os : Operands) → MayRepeat o os → may_repeat o os ≡ true
allowed o no_operand h = refl
allowed o (operand e os) h = h

inside-operation : (o : COp) (a b : ExprTree) (os : Operands) → MayRepeat o os → Reads a → Reads b → ReadsOperands os o → ReadsInside (operation o a b os)
inside-operation o a b os h fa fb fos ts k vs =
    let behind = operands_tokens os o (close_paren ∷ ts) in
    let more = do_expr StartOperation ∷ expr (OperandsOf o) ∷ k in
    spine-paren a (operator o ∷ expr_tokens b behind) refl k vs
    ∙ reads-to a fa (operator o) refl (expr_tokens b behind) (expr Operator ∷ k) vs
    ∙ fb behind more (an_expr a ∷ vs)
    ∙ drop-operands b os o ts more (an_expr b ∷ an_expr a ∷ vs)
    ∙ performs behind (acts.Expr StartOperation) (expr (OperandsOf o) ∷ k) (an_expr b ∷ an_expr a ∷ vs)
    ∙ fos a b no_operand (allowed o os h) ts k vs

-- Arguments.
then-no_arg : (args : Args) → args_then args no_arg ≡ args
then-no_arg no_arg = refl
then-no_arg (expr_arg e args) = ap (expr_arg e) (then-no_arg args)
then-no_arg (sizeof_arg n args) = ap (sizeof_arg n) (then-no_arg args)

then-expr_arg : (args more : Args) (e : ExprTree) → args_then (args_then args (expr_arg e no_arg)) more ≡ args_then args (expr_arg e more)
then-expr_arg no_arg more e = refl
then-expr_arg (expr_arg x args) more e = ap (expr_arg x) (then-expr_arg args more e)
then-expr_arg (sizeof_arg n args) more e = ap (sizeof_arg n) (then-expr_arg args more e)

then-sizeof_arg : (args more : Args) (m : List ℕ) → args_then (args_then args (sizeof_arg m no_arg)) more ≡ args_then args (sizeof_arg m more)
then-sizeof_arg no_arg more m = refl
then-sizeof_arg (expr_arg x args) more m = ap (expr_arg x) (then-sizeof_arg args more m)
then-sizeof_arg (sizeof_arg n args) more m = ap (sizeof_arg n) (then-sizeof_arg args more m)

spine-arg : (e : ExprTree) (ts : List CToken) (k : List Want) (vs : List Val)
    → run (expr_tokens e ts) (expr Arg ∷ k) vs ≡ run (expr_tokens e ts) (expr Expr ∷ do_expr AddArg ∷ k) vs
spine-arg (member p f) ts k vs = spine-arg p (marked mark.Arrow ∷ named f ∷ ts) k vs
spine-arg (element p i) ts k vs = spine-arg p (marked mark.OpenBracket ∷ expr_tokens i (close_bracket ∷ ts)) k vs
spine-arg _ ts k vs = refl

spine-args : (e : ExprTree) (ts : List CToken) (k : List Want) (vs : List Val)
    → run (expr_tokens e ts) (expr ArgsOf ∷ k) vs ≡ run (expr_tokens e ts) (expr Expr ∷ do_expr AddArg ∷ expr MoreArgs ∷ k) vs
spine-args (member p f) ts k vs = spine-args p (marked mark.Arrow ∷ named f ∷ ts) k vs
spine-args (element p i) ts k vs = spine-args p (marked mark.OpenBracket ∷ expr_tokens i (close_bracket ∷ ts)) k vs
spine-args _ ts k vs = refl

drop-args : (e : ExprTree) (args : Args) (ts : List CToken) (k : List Want) (vs : List Val)
    → run (more_args_tokens args (close_paren ∷ ts)) (tail_wants e k) vs ≡ run (more_args_tokens args (close_paren ∷ ts)) k vs
drop-args e no_arg ts k vs = drop e close_paren refl ts k vs
drop-args e (expr_arg x args) ts k vs = drop e (marked mark.Comma) refl (expr_tokens x (more_args_tokens args (close_paren ∷ ts))) k vs
drop-args e (sizeof_arg n args) ts k vs = drop e (marked mark.Comma) refl (keyword word.Sizeof ∷ open_paren ∷ operator op.Mul ∷ named n ∷ close_paren ∷ more_args_tokens args (close_paren ∷ ts)) k vs

abbrev pub ReadsMoreArgs : Args → Type 0
ReadsMoreArgs args = (done : Args) (ts : List CToken) (k : List Want) (vs : List Val)
    → run (more_args_tokens args (close_paren ∷ ts)) (expr MoreArgs ∷ k) (some_args done ∷ vs) ≡ run ts k (some_args (args_then done args) ∷ vs)

-- an argument, and those after it
expr-then : (e : ExprTree) (args : Args) → Reads e → ReadsMoreArgs args → (done : Args) (ts : List CToken) (k : List Want) (vs : List Val)
    → run (expr_tokens e (more_args_tokens args (close_paren ∷ ts))) (expr Expr ∷ do_expr AddArg ∷ expr MoreArgs ∷ k) (some_args done ∷ vs) ≡ run ts k (some_args (args_then done (expr_arg e args)) ∷ vs)
expr-then e args fe fargs done ts k vs =
    let behind = more_args_tokens args (close_paren ∷ ts) in
    fe behind (do_expr AddArg ∷ expr MoreArgs ∷ k) (some_args done ∷ vs)
    ∙ drop-args e args ts (do_expr AddArg ∷ expr MoreArgs ∷ k) (an_expr e ∷ some_args done ∷ vs)
    ∙ performs behind (acts.Expr AddArg) (expr MoreArgs ∷ k) (an_expr e ∷ some_args done ∷ vs)
    ∙ fargs (args_then done (expr_arg e no_arg)) ts k vs
    ∙ ap (λ x. run ts k (some_args x ∷ vs)) (then-expr_arg done args e)

sizeof-then : (n : List ℕ) (args : Args) → ReadsMoreArgs args → (done : Args) (ts : List CToken) (k : List Want) (vs : List Val)
    → run (more_args_tokens args (close_paren ∷ ts)) (do_expr AddSizeof ∷ expr MoreArgs ∷ k) (a_name n ∷ some_args done ∷ vs) ≡ run ts k (some_args (args_then done (sizeof_arg n args)) ∷ vs)
sizeof-then n args fargs done ts k vs =
    performs (more_args_tokens args (close_paren ∷ ts)) (acts.Expr AddSizeof) (expr MoreArgs ∷ k) (a_name n ∷ some_args done ∷ vs)
    ∙ fargs (args_then done (sizeof_arg n no_arg)) ts k vs
    ∙ ap (λ x. run ts k (some_args x ∷ vs)) (then-sizeof_arg done args n)

abbrev pub ReadsArgs : Args → Type 0
ReadsArgs args = (ts : List CToken) (k : List Want) (vs : List Val)
    → run (args_tokens args (close_paren ∷ ts)) (expr ArgsOf ∷ k) (some_args no_arg ∷ vs) ≡ run ts k (some_args args ∷ vs)

inside-called : (f : List ℕ) (args : Args) → ReadsArgs args → ReadsInside (called f args)
inside-called f args fargs ts k vs =
    performs (args_tokens args (close_paren ∷ close_paren ∷ ts)) (acts.Expr StartArgs) (expr ArgsOf ∷ awaits mark.CloseParen ∷ do_expr MakeCalled ∷ k) (a_name f ∷ vs)
    ∙ fargs (close_paren ∷ ts) (awaits mark.CloseParen ∷ do_expr MakeCalled ∷ k) (a_name f ∷ vs)
    ∙ performs ts (acts.Expr MakeCalled) k (some_args args ∷ a_name f ∷ vs)

mutual
  pub reads-expr : (e : ExprTree) → IsExpr e → Reads e
  reads-expr (number n) l = λ ts k vs. performs ts (acts.Expr MakeNumber) k (a_number n ∷ vs)
  reads-expr (variable n) l = λ ts k vs. performs ts (acts.Expr MakeVariable) (expr Tail ∷ k) (a_name n ∷ vs)
  reads-expr (member p f) l = reads-member p f l.0 (reads-expr p l.1)
  reads-expr (element p i) l = reads-element p i l.0 (reads-expr p l.1) (reads-expr i l.2)
  reads-expr (pointed p) l = λ ts k vs. inside-pointed p l.0 l.1 (reads-expr p l.1) ts (expr Tail ∷ k) vs
  reads-expr (operation o a b os) l = λ ts k vs. inside-operation o a b os l.3 (reads-expr a l.0) (reads-expr b l.1) (reads-operands os o l.2) ts (expr Tail ∷ k) vs
  reads-expr (unary o e) l = λ ts k vs. inside-unary o e (reads-expr e l) ts (expr Tail ∷ k) vs
  reads-expr (cast t e) l = λ ts k vs. inside-cast t e (reads-expr e l.1) ts (expr Tail ∷ k) vs
  reads-expr (choice a b c) l = λ ts k vs. inside-choice a b c (reads-expr a l.0) (reads-expr b l.1) (reads-expr c l.2) ts (expr Tail ∷ k) vs
  reads-expr (called f args) l = λ ts k vs. inside-called f args (reads-args args l.1) ts (expr Tail ∷ k) vs

  pub reads-operands : (os : Operands) (o : COp) → IsOperands os → ReadsOperands os o
  reads-operands no_operand o l = reads-no_operand o
  reads-operands (operand e os) o l = reads-operand e os o (reads-expr e l.0) (reads-operands os o l.1)

  pub reads-more_args : (args : Args) → IsArgs args → ReadsMoreArgs args
  reads-more_args no_arg l = λ done ts k vs. ap (λ x. run ts k (some_args x ∷ vs)) (sym (then-no_arg done))
  reads-more_args (expr_arg e args) l = λ done ts k vs. spine-arg e (more_args_tokens args (close_paren ∷ ts)) (expr MoreArgs ∷ k) (some_args done ∷ vs) ∙ expr-then e args (reads-expr e l.0) (reads-more_args args l.1) done ts k vs
  reads-more_args (sizeof_arg n args) l = λ done ts k vs. sizeof-then n args (reads-more_args args l.1) done ts k vs

  pub reads-args : (args : Args) → IsArgs args → ReadsArgs args
  reads-args no_arg l = λ ts k vs. refl
  reads-args (expr_arg e args) l = λ ts k vs. spine-args e (more_args_tokens args (close_paren ∷ ts)) k (some_args no_arg ∷ vs) ∙ expr-then e args (reads-expr e l.0) (reads-more_args args l.1) no_arg ts k vs
  reads-args (sizeof_arg n args) l = λ ts k vs. sizeof-then n args (reads-more_args args l.1) no_arg ts k vs

pub reads-inside : (e : ExprTree) → in_parens e ≡ true → IsExpr e → ReadsInside e
reads-inside (pointed p) h l = inside-pointed p l.0 l.1 (reads-expr p l.1)
reads-inside (operation o a b os) h l = inside-operation o a b os l.3 (reads-expr a l.0) (reads-expr b l.1) (reads-operands os o l.2)
reads-inside (unary o e) h l = inside-unary o e (reads-expr e l)
reads-inside (cast t e) h l = inside-cast t e (reads-expr e l.1)
reads-inside (choice a b c) h l = inside-choice a b c (reads-expr a l.0) (reads-expr b l.1) (reads-expr c l.2)
reads-inside (called f args) h l = inside-called f args (reads-args args l.1)
reads-inside _ h l = absurd (cc h)
