-- An expression is read alike wherever it stands: what the machine has factored by first tokens meets again after
-- them.
use Rattle.std.proofs.Common.{◌≡◌, ◌∙◌, sym, ℕ, Bool, true, false, Option, List, [], ◌∷◌, ◌++◌, refl}
use Rattle.c_text.specs.declared.kinds.COp.{COp}
use Rattle.c_text.specs.declared.kinds.COp.TheVariants as op
use Rattle.c_text.specs.declared.kinds.CUnary.TheVariants as unary_op
use Rattle.c_text.specs.declared.tokens.CMark.TheVariants as mark
use Rattle.c_text.specs.CSpelling.{CToken, named, operator, marked}
use Rattle.c_text.specs.CGrammar.{expr_tokens, operands_tokens, args_tokens, is_literal, type_tokens, unary_token, IsExpr}
use Rattle.c_text.specs.CTree.{ExprTree, number, variable, member, element, pointed, operation, unary, cast, choice, called}
use Rattle.c_read_grammar.specs.declared.symbols.ExprSym.TheVariants.{Expr, Post, Tail, Paren, ParenName, ParenParen, ParenParenName, ParenParenStar, Operator}
use Rattle.c_read_grammar.specs.declared.actions.Action.{Action}
use Rattle.c_read_grammar.specs.declared.actions.Action.TheVariants as acts
use Rattle.c_read_grammar.specs.declared.actions.ExprAction.TheVariants.{MakeVariable, MakeVariableBelow}
use Rattle.c_read_grammar.specs.declared.actions.Want.{Want}
use Rattle.c_read_grammar.specs.declared.actions.Want.TheVariants.{Perform}
use Rattle.c_read_grammar.specs.Machine.{expr, do_expr, product_rest}
use Rattle.c_read_grammar.specs.Values.{Val, a_name, an_expr, perform}
use Rattle.c_read_grammar.specs.Feeding.{reads}

-- reading on, from what is wanted and the values
abbrev pub run : List CToken → List Want → List Val → Option (List Val)
run ts k vs = reads ts (record { wanted = k; vals = vs })

pub performs : (ts : List CToken) (a : Action) (k : List Want) (vs : List Val) → run ts (Perform a ∷ k) vs ≡ run ts k (perform a vs)
performs [] a k vs = refl
performs (t ∷ ts) a k vs = refl

-- What may stand after an operand in parentheses.
abbrev pub goes_on_operand : List CToken → Bool
goes_on_operand (operator o ∷ ts) = true
goes_on_operand (marked mark.Question ∷ ts) = true
goes_on_operand (marked mark.Arrow ∷ ts) = true
goes_on_operand (marked mark.OpenBracket ∷ ts) = true
goes_on_operand _ = false

-- An expression that isn't a literal, where one is wanted.
pub spine-post : (e : ExprTree) → is_literal e ≡ false → IsExpr e → (ts : List CToken) (k : List Want) (vs : List Val)
    → run (expr_tokens e ts) (expr Post ∷ k) vs ≡ run (expr_tokens e ts) (expr Expr ∷ k) vs
spine-post (number n) h l ts k vs = absurd (cc h)
spine-post (member p f) h l ts k vs = spine-post p l.0 l.1 (marked mark.Arrow ∷ named f ∷ ts) k vs
spine-post (element p i) h l ts k vs = spine-post p l.0 l.1 (marked mark.OpenBracket ∷ expr_tokens i (marked mark.CloseBracket ∷ ts)) k vs
spine-post _ h l ts k vs = refl

-- What stands after the `(` of an expression that begins with one.
abbrev pub inside : ExprTree → List CToken → List CToken
inside (pointed pointer) rest = operator op.Mul ∷ expr_tokens pointer (marked mark.CloseParen ∷ rest)
inside (operation o first second others) rest = expr_tokens first (operator o ∷ expr_tokens second (operands_tokens others o (marked mark.CloseParen ∷ rest)))
inside (unary o of) rest = unary_token o ∷ expr_tokens of (marked mark.CloseParen ∷ rest)
inside (cast to of) rest = marked mark.OpenParen ∷ type_tokens to (marked mark.CloseParen ∷ expr_tokens of (marked mark.CloseParen ∷ rest))
inside (choice test met unmet) rest = expr_tokens test (marked mark.Question ∷ expr_tokens met (marked mark.Colon ∷ expr_tokens unmet (marked mark.CloseParen ∷ rest)))
inside (called function given) rest = named function ∷ marked mark.OpenParen ∷ args_tokens given (marked mark.CloseParen ∷ marked mark.CloseParen ∷ rest)
inside _ rest = rest

abbrev pub in_parens : ExprTree → Bool
in_parens (pointed pointer) = true
in_parens (operation o first second others) = true
in_parens (unary o of) = true
in_parens (cast to of) = true
in_parens (choice test met unmet) = true
in_parens (called function given) = true
in_parens _ = false

-- The second operand of a product whose first one is a name, after `( (`.
pub spine-star : (e : ExprTree) (ts : List CToken) (n : List ℕ) (k : List Want) (vs : List Val)
    → run (expr_tokens e ts) (expr ParenParenStar ∷ k) (a_name n ∷ vs) ≡ run (expr_tokens e ts) (expr Expr ∷ (product_rest ++ k)) (an_expr (variable n) ∷ vs)
spine-star (number m) ts n k vs = performs ts (acts.Expr MakeVariableBelow) _ _
spine-star (variable m) ts n k vs = performs ts (acts.Expr MakeVariableBelow) _ _
spine-star (member p f) ts n k vs = spine-star p (marked mark.Arrow ∷ named f ∷ ts) n k vs
spine-star (element p i) ts n k vs = spine-star p (marked mark.OpenBracket ∷ expr_tokens i (marked mark.CloseBracket ∷ ts)) n k vs
spine-star (pointed p) ts n k vs = performs (inside (pointed p) ts) (acts.Expr MakeVariable) (expr Paren ∷ expr Tail ∷ (product_rest ++ k)) (a_name n ∷ vs)
spine-star (operation o a b others) ts n k vs = performs (inside (operation o a b others) ts) (acts.Expr MakeVariable) (expr Paren ∷ expr Tail ∷ (product_rest ++ k)) (a_name n ∷ vs)
spine-star (unary o e) ts n k vs = performs (inside (unary o e) ts) (acts.Expr MakeVariable) (expr Paren ∷ expr Tail ∷ (product_rest ++ k)) (a_name n ∷ vs)
spine-star (cast t e) ts n k vs = performs (inside (cast t e) ts) (acts.Expr MakeVariable) (expr Paren ∷ expr Tail ∷ (product_rest ++ k)) (a_name n ∷ vs)
spine-star (choice a b c) ts n k vs = performs (inside (choice a b c) ts) (acts.Expr MakeVariable) (expr Paren ∷ expr Tail ∷ (product_rest ++ k)) (a_name n ∷ vs)
spine-star (called f given) ts n k vs = performs (inside (called f given) ts) (acts.Expr MakeVariable) (expr Paren ∷ expr Tail ∷ (product_rest ++ k)) (a_name n ∷ vs)

-- The first operand after `( (`; `name` tells what follows it where it is a name.
abbrev Named : List CToken → Type 0
Named ts = (n : List ℕ) (k : List Want) (vs : List Val) → run ts (expr ParenParenName ∷ k) (a_name n ∷ vs) ≡ run ts (expr ParenName ∷ expr Tail ∷ expr Operator ∷ k) (a_name n ∷ vs)

spine-paren_paren : (e : ExprTree) (ts : List CToken) → Named ts → (k : List Want) (vs : List Val)
    → run (expr_tokens e ts) (expr ParenParen ∷ k) vs ≡ run (expr_tokens e ts) (expr Paren ∷ expr Tail ∷ expr Operator ∷ k) vs
spine-paren_paren (variable n) ts name k vs = name n k vs
spine-paren_paren (member p f) ts name k vs = spine-paren_paren p (marked mark.Arrow ∷ named f ∷ ts) (λ n k vs. refl) k vs
spine-paren_paren (element p i) ts name k vs = spine-paren_paren p (marked mark.OpenBracket ∷ expr_tokens i (marked mark.CloseBracket ∷ ts)) (λ n k vs. refl) k vs
spine-paren_paren _ ts name k vs = refl

name-operator : (o : COp) (second : ExprTree) (ts : List CToken) → Named (operator o ∷ expr_tokens second ts)
name-operator op.Mul second ts n k vs = spine-star second ts n k vs ∙ sym (performs (expr_tokens second ts) (acts.Expr MakeVariable) _ _)
name-operator _ second ts n k vs = refl

-- An expression in parentheses, after one more `(`.
pub spine-inner : (e : ExprTree) → in_parens e ≡ true → (ts : List CToken) (k : List Want) (vs : List Val)
    → run (inside e ts) (expr ParenParen ∷ k) vs ≡ run (inside e ts) (expr Paren ∷ expr Tail ∷ expr Operator ∷ k) vs
spine-inner (pointed p) h ts k vs = refl
spine-inner (operation o a b others) h ts k vs = spine-paren_paren a (operator o ∷ expr_tokens b (operands_tokens others o (marked mark.CloseParen ∷ ts))) (name-operator o b (operands_tokens others o (marked mark.CloseParen ∷ ts))) k vs
spine-inner (unary unary_op.Not e) h ts k vs = refl
spine-inner (unary unary_op.Complement e) h ts k vs = refl
spine-inner (unary unary_op.Address e) h ts k vs = refl
spine-inner (cast t e) h ts k vs = refl
spine-inner (choice a b c) h ts k vs = spine-paren_paren a (marked mark.Question ∷ expr_tokens b (marked mark.Colon ∷ expr_tokens c (marked mark.CloseParen ∷ ts))) (λ n k vs. refl) k vs
spine-inner (called f given) h ts k vs = refl
spine-inner _ h ts k vs = absurd (cc h)

-- The first operand after `(`.
name-paren : (ts : List CToken) → goes_on_operand ts ≡ true → (n : List ℕ) (k : List Want) (vs : List Val)
    → run ts (expr ParenName ∷ k) (a_name n ∷ vs) ≡ run ts (do_expr MakeVariable ∷ expr Tail ∷ expr Operator ∷ k) (a_name n ∷ vs)
name-paren (operator o ∷ ts) h n k vs = performs ts (acts.Expr MakeVariable) _ _
name-paren (marked mark.Question ∷ ts) h n k vs = performs ts (acts.Expr MakeVariable) _ _
name-paren (marked mark.Arrow ∷ ts) h n k vs = performs ts (acts.Expr MakeVariable) _ _
name-paren (marked mark.OpenBracket ∷ ts) h n k vs = performs ts (acts.Expr MakeVariable) _ _
name-paren _ h n k vs = absurd (cc h)

pub spine-paren : (e : ExprTree) (ts : List CToken) → goes_on_operand ts ≡ true → (k : List Want) (vs : List Val)
    → run (expr_tokens e ts) (expr Paren ∷ k) vs ≡ run (expr_tokens e ts) (expr Expr ∷ expr Operator ∷ k) vs
spine-paren (number n) ts h k vs = refl
spine-paren (variable n) ts h k vs = name-paren ts h n k vs
spine-paren (member p f) ts h k vs = spine-paren p (marked mark.Arrow ∷ named f ∷ ts) refl k vs
spine-paren (element p i) ts h k vs = spine-paren p (marked mark.OpenBracket ∷ expr_tokens i (marked mark.CloseBracket ∷ ts)) refl k vs
spine-paren (pointed p) ts h k vs = spine-inner (pointed p) refl ts k vs
spine-paren (operation o a b others) ts h k vs = spine-inner (operation o a b others) refl ts k vs
spine-paren (unary o e) ts h k vs = spine-inner (unary o e) refl ts k vs
spine-paren (cast t e) ts h k vs = spine-inner (cast t e) refl ts k vs
spine-paren (choice a b c) ts h k vs = spine-inner (choice a b c) refl ts k vs
spine-paren (called f given) ts h k vs = spine-inner (called f given) refl ts k vs
