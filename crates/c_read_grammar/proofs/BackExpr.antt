-- What a symbol's move wants completes the symbol after the token that was read: single tokens, types, expressions.
use Rattle.std.proofs.Common.{◌≡◌, ◌∙◌, ap, sym, ℕ, Bool, true, false, ◌&&◌, List, [], ◌∷◌, ◌++◌, refl, nat_eq, zero, suc, arith, if◌then◌else◌}
use Rattle.std.specs.Bool.{⊤}
use Rattle.std.proofs.lemmas.Bool.Decides.{nat_tests}
use Rattle.c_text.specs.declared.kinds.COp.{COp}
use Rattle.c_text.specs.declared.kinds.COp.TheVariants as op
use Rattle.c_text.specs.declared.kinds.CUint.TheVariants.{U8, U16, U32, U64}
use Rattle.c_text.specs.declared.kinds.CUnary.TheVariants as unary_op
use Rattle.c_text.specs.declared.tokens.CWord.{CWord}
use Rattle.c_text.specs.declared.tokens.CWord.TheVariants as word
use Rattle.c_text.specs.declared.tokens.CMark.{CMark}
use Rattle.c_text.specs.declared.tokens.CMark.TheVariants as mark
use Rattle.c_text.specs.CSpelling.{CToken, keyword, named, literal, quoted, operator, marked}
use Rattle.c_text.specs.CGrammar.{expr_tokens, IsName, IsExpr, repeats}
use Rattle.c_text.specs.CTree.{size, boolean, struct_pointer, text, ExprTree, number, variable, member, element, pointed, operation, unary, cast, choice, called, no_operand, operand, no_arg, expr_arg, sizeof_arg}
use Rattle.c_read_grammar.specs.declared.symbols.ExprSym.TheVariants.{Expr, Post, Tail, FirstTail, Paren, ParenName, ParenParen, ParenParenName, ParenParenStar, Operator, Operands as OperandsOf, Args as ArgsOf, Arg, MoreArgs}
use Rattle.c_read_grammar.specs.declared.symbols.TokenSym.TheVariants.{Name, Number, Quoted, StructWord, CharWord, Star, Mark}
use Rattle.c_read_grammar.specs.declared.actions.ExprAction.TheVariants.{AddOperand, AddArg, MakeCast}
use Rattle.c_read_grammar.specs.declared.actions.Want.{Want}
use Rattle.c_read_grammar.specs.declared.actions.Want.TheVariants.{Read, Perform}
use Rattle.c_read_grammar.specs.Machine as m
use Rattle.c_read_grammar.specs.Machine.{Move, Take, Pass, Stop, followed, expr, token, product_rest}
use Rattle.c_read_grammar.specs.Texts.{IsToken}
use Rattle.c_read_grammar.proofs.ReadsExpr.{open_paren, close_paren}
use Rattle.c_read_grammar.proofs.Words.{PostWord, TypeWord, ExprWord, TokenWord, Words}

-- Of what is wanted where the move reads the token, and of a move that passes it on.
abbrev pub OnMove : Move → (List Want → Type 0) → Type 0 → Type 0
OnMove (Take xs) P A = P xs
OnMove Pass P A = A
OnMove Stop P A = ⊤

-- The words of what is wanted after the token, with it, are words of P; nothing passes.
abbrev pub Back : (List CToken → List CToken → Type 0) → Move → CToken → Type 0
Back P w t = OnMove w (λ xs. (ts rest : List CToken) → Words xs ts rest → P (t ∷ ts) rest) ⊥

-- words of more, cut in two
pub cut-words : (xs ys : List Want) (ts rest : List CToken) → Words (xs ++ ys) ts rest → (mid : List CToken) × Words xs ts mid × Words ys mid rest
cut-words [] ys ts rest d = (ts, refl, d)
cut-words (Read x ∷ xs) ys ts rest d = let w = cut-words xs ys d.0 rest d.2 in (w.0, (d.0, d.1, w.1), w.2)
cut-words (Perform a ∷ xs) ys ts rest d = cut-words xs ys ts rest d

-- a move with more after it
pub back-followed : (P Q : List CToken → List CToken → Type 0) (w : Move) (t : CToken) (ys : List Want)
    → Back P w t → ((ts mid rest : List CToken) → P (t ∷ ts) mid → Words ys mid rest → Q (t ∷ ts) rest) → Back Q (followed w ys) t
back-followed P Q (Take xs) t ys b f = λ ts rest d. let w = cut-words xs ys ts rest d in f ts w.0 rest (b ts w.0 w.1) w.2
back-followed P Q Pass t ys b f = b
back-followed P Q Stop t ys b f = tt

-- Single tokens.
pub back-name : (t : CToken) → IsToken t → Back (TokenWord Name) (m.name_move t) t
back-name (named n) l = λ ts rest d. (n, l, cc d)
back-name _ l = tt

pub back-number : (t : CToken) → IsToken t → Back (TokenWord Number) (m.number_move t) t
back-number (literal n) l = λ ts rest d. (n, l, cc d)
back-number _ l = tt

pub back-quoted : (t : CToken) → IsToken t → Back (TokenWord Quoted) (m.quoted_move t) t
back-quoted (quoted bytes) l = λ ts rest d. (bytes, l, cc d)
back-quoted _ l = tt

pub back-struct : (t : CToken) → Back (TokenWord StructWord) (m.struct_move t) t
back-struct (keyword word.Struct) = λ ts rest d. cc d
back-struct _ = tt

pub back-char : (t : CToken) → Back (TokenWord CharWord) (m.char_move t) t
back-char (keyword word.Char) = λ ts rest d. cc d
back-char _ = tt

pub back-star : (t : CToken) → Back (TokenWord Star) (m.star_move t) t
back-star (operator op.Mul) = λ ts rest d. cc d
back-star _ = tt

abbrev mark_at : ℕ → CMark
mark_at zero = mark.OpenParen
mark_at (suc zero) = mark.CloseParen
mark_at (suc (suc zero)) = mark.OpenBracket
mark_at (suc (suc (suc zero))) = mark.CloseBracket
mark_at (suc (suc (suc (suc zero)))) = mark.OpenBrace
mark_at (suc (suc (suc (suc (suc zero))))) = mark.CloseBrace
mark_at (suc (suc (suc (suc (suc (suc zero)))))) = mark.Comma
mark_at (suc (suc (suc (suc (suc (suc (suc zero))))))) = mark.Semicolon
mark_at (suc (suc (suc (suc (suc (suc (suc (suc zero)))))))) = mark.Colon
mark_at (suc (suc (suc (suc (suc (suc (suc (suc (suc zero))))))))) = mark.Question
mark_at (suc (suc (suc (suc (suc (suc (suc (suc (suc (suc zero)))))))))) = mark.Assign
mark_at (suc (suc (suc (suc (suc (suc (suc (suc (suc (suc (suc zero))))))))))) = mark.Arrow
mark_at (suc (suc (suc (suc (suc (suc (suc (suc (suc (suc (suc (suc zero)))))))))))) = mark.Not
mark_at _ = mark.Complement

mark_at-number : (x : CMark) → mark_at (m.mark_number x) ≡ x
mark_at-number mark.OpenParen = refl
mark_at-number mark.CloseParen = refl
mark_at-number mark.OpenBracket = refl
mark_at-number mark.CloseBracket = refl
mark_at-number mark.OpenBrace = refl
mark_at-number mark.CloseBrace = refl
mark_at-number mark.Comma = refl
mark_at-number mark.Semicolon = refl
mark_at-number mark.Colon = refl
mark_at-number mark.Question = refl
mark_at-number mark.Assign = refl
mark_at-number mark.Arrow = refl
mark_at-number mark.Not = refl
mark_at-number mark.Complement = refl

eq-true : (a b : ℕ) → nat_eq a b ≡ true → a ≡ b
eq-true a b h = grind (arith, nat_tests)

pub same_mark-true : (a b : CMark) → m.same_mark a b ≡ true → a ≡ b
same_mark-true a b h = sym (mark_at-number a) ∙ ap mark_at (eq-true (m.mark_number a) (m.mark_number b) h) ∙ mark_at-number b

back-same : (a b : CMark) (c : Bool) → m.same_mark a b ≡ c → Back (TokenWord (Mark a)) (if c then Take [] else Stop) (marked b)
back-same a b true h = λ ts rest d. let q : b ≡ a = sym (same_mark-true a b h) in cc (q, d)
back-same a b false h = tt

pub back-mark : (a : CMark) (t : CToken) → Back (TokenWord (Mark a)) (m.mark_move a t) t
back-mark a (marked b) = back-same a b (m.same_mark a b) refl
back-mark a _ = tt

-- Types.
pub back-word_type : (w : CWord) → Back TypeWord (m.word_type_move w) (keyword w)
back-word_type word.Uint8 = λ ts rest d. let x = d.1 U8 in (x.0, x.1, cc (x.2, d.2))
back-word_type word.Uint16 = λ ts rest d. let x = d.1 U16 in (x.0, x.1, cc (x.2, d.2))
back-word_type word.Uint32 = λ ts rest d. let x = d.1 U32 in (x.0, x.1, cc (x.2, d.2))
back-word_type word.Uint64 = λ ts rest d. let x = d.1 U64 in (x.0, x.1, cc (x.2, d.2))
back-word_type word.SizeT = λ ts rest d. (size, tt, cc d)
back-word_type word.Bool = λ ts rest d. (boolean, tt, cc d)
back-word_type word.Const = λ ts rest d. (text, tt, cc (d.1, d.2.1, d.2.2))
back-word_type _ = tt

pub back-type : (t : CToken) → IsToken t → Back TypeWord (m.type_move t) t
back-type (keyword w) l = back-word_type w
back-type (named n) l = λ ts rest d. (struct_pointer n, l, cc (d.1, d.2))
back-type _ l = tt

-- Expressions.
pub back-post : (t : CToken) → IsToken t → Back (ExprWord Post) (m.post_move t) t
back-post (named n) l = λ ts rest d. let w = d.1 (variable n) (refl, l) in (w.0, w.1, cc (w.3, d.2))
back-post (marked mark.OpenParen) l = λ ts rest d. let w = d.2.1 d.1.0 d.1.1 in (w.0, w.1, cc (d.1.2, w.3, d.2.2))
back-post _ l = tt

pub back-expr : (t : CToken) → IsToken t → Back (ExprWord Expr) (m.expr_move t) t
back-expr (literal n) l = λ ts rest d. (number n, l, cc d)
back-expr (named n) l = λ ts rest d. let w = back-post (named n) l ts rest d in (w.0, w.1.1, w.2)
back-expr (marked mark.OpenParen) l = λ ts rest d. let w = back-post (marked mark.OpenParen) l ts rest d in (w.0, w.1.1, w.2)
back-expr _ l = tt

pub back-first_tail : (t : CToken) → Back (ExprWord FirstTail) (m.first_tail_move t) t
back-first_tail (marked mark.Arrow) = λ ts rest d. λ p lp. let w = d.2.1 (member p d.1.0) (refl, (lp.0, lp.1, d.1.1)) in (w.0, (w.2 refl, w.1.1), cc (d.1.2, w.3, d.2.2))
back-first_tail (marked mark.OpenBracket) = λ ts rest d. λ p lp. let w = d.2.2.1 (element p d.1.0) (refl, (lp.0, lp.1, d.1.1)) in (w.0, (w.2 refl, w.1.1), cc (d.1.2, d.2.1, w.3, d.2.2.2))
back-first_tail _ = tt

pub back-operator : (t : CToken) → Back (ExprWord Operator) (m.operator_move t) t
back-operator (operator o) = λ ts rest d. λ a la. (operation o a d.1.0 d.2.1.0, (refl, (la, d.1.1, d.2.1.1, d.2.1.2)), cc (d.1.2, d.2.1.3, d.2.2))
back-operator (marked mark.Question) = λ ts rest d. λ a la. (choice a d.1.0 d.2.2.1.0, (refl, (la, d.1.1, d.2.2.1.1)), cc (d.1.2, d.2.1, d.2.2.1.2, d.2.2.2.1, d.2.2.2.2))
back-operator _ = tt

abbrev op_at : ℕ → COp
op_at zero = op.Add
op_at (suc zero) = op.Sub
op_at (suc (suc zero)) = op.Mul
op_at (suc (suc (suc zero))) = op.Div
op_at (suc (suc (suc (suc zero)))) = op.Rem
op_at (suc (suc (suc (suc (suc zero))))) = op.Shl
op_at (suc (suc (suc (suc (suc (suc zero)))))) = op.Shr
op_at (suc (suc (suc (suc (suc (suc (suc zero))))))) = op.BitAnd
op_at (suc (suc (suc (suc (suc (suc (suc (suc zero)))))))) = op.BitOr
op_at (suc (suc (suc (suc (suc (suc (suc (suc (suc zero))))))))) = op.BitXor
op_at (suc (suc (suc (suc (suc (suc (suc (suc (suc (suc zero)))))))))) = op.Lt
op_at (suc (suc (suc (suc (suc (suc (suc (suc (suc (suc (suc zero))))))))))) = op.Le
op_at (suc (suc (suc (suc (suc (suc (suc (suc (suc (suc (suc (suc zero)))))))))))) = op.Gt
op_at (suc (suc (suc (suc (suc (suc (suc (suc (suc (suc (suc (suc (suc zero))))))))))))) = op.Ge
op_at (suc (suc (suc (suc (suc (suc (suc (suc (suc (suc (suc (suc (suc (suc zero)))))))))))))) = op.Eq
op_at (suc (suc (suc (suc (suc (suc (suc (suc (suc (suc (suc (suc (suc (suc (suc zero))))))))))))))) = op.Ne
op_at (suc (suc (suc (suc (suc (suc (suc (suc (suc (suc (suc (suc (suc (suc (suc (suc zero)))))))))))))))) = op.Both
op_at _ = op.Either

op_at-number : (x : COp) → op_at (m.op_number x) ≡ x
op_at-number op.Add = refl
op_at-number op.Sub = refl
op_at-number op.Mul = refl
op_at-number op.Div = refl
op_at-number op.Rem = refl
op_at-number op.Shl = refl
op_at-number op.Shr = refl
op_at-number op.BitAnd = refl
op_at-number op.BitOr = refl
op_at-number op.BitXor = refl
op_at-number op.Lt = refl
op_at-number op.Le = refl
op_at-number op.Gt = refl
op_at-number op.Ge = refl
op_at-number op.Eq = refl
op_at-number op.Ne = refl
op_at-number op.Both = refl
op_at-number op.Either = refl

pub same_op-true : (a b : COp) → m.same_op a b ≡ true → a ≡ b
same_op-true a b h = sym (op_at-number a) ∙ ap op_at (eq-true (m.op_number a) (m.op_number b) h) ∙ op_at-number b

both-left : (a b : Bool) → (a && b) ≡ true → a ≡ true
both-left true b h = refl
both-left false b h = h

both-right : (a b : Bool) → (a && b) ≡ true → b ≡ true
both-right true b h = h
both-right false b h = absurd (cc h)

back-more : (o next : COp) (c : Bool) → (m.same_op o next && repeats o) ≡ c
    → Back (ExprWord (OperandsOf o)) (if c then Take (expr Expr ∷ m.do_expr AddOperand ∷ expr (OperandsOf o) ∷ []) else Stop) (operator next)
back-more o next true h = λ ts rest d.
    let q : next ≡ o = sym (same_op-true o next (both-left (m.same_op o next) (repeats o) h)) in
    (operand d.1.0 d.2.1.0, (d.1.1, d.2.1.1), both-right (m.same_op o next) (repeats o) h, cc (q, d.1.2, d.2.1.3, d.2.2))
back-more o next false h = tt

pub back-operands : (o : COp) (t : CToken) → Back (ExprWord (OperandsOf o)) (m.operands_move o t) t
back-operands o (operator next) = back-more o next (m.same_op o next && repeats o) refl
back-operands o (marked mark.CloseParen) = λ ts rest d. (no_operand, tt, tt, cc d)
back-operands o _ = tt

back-paren_op : (o : COp) → Back (ExprWord Paren) (m.paren_op_move o) (operator o)
back-paren_op op.Mul = λ ts rest d. (pointed d.1.0, (refl, d.1.1), cc (d.1.2, d.2.1, d.2.2))
back-paren_op op.BitAnd = λ ts rest d. (unary unary_op.Address d.1.0, (refl, d.1.1), cc (d.1.2, d.2.1, d.2.2))
back-paren_op _ = tt

back-paren_mark : (x : CMark) → Back (ExprWord Paren) (m.paren_mark_move x) (marked x)
back-paren_mark mark.Not = λ ts rest d. (unary unary_op.Not d.1.0, (refl, d.1.1), cc (d.1.2, d.2.1, d.2.2))
back-paren_mark mark.Complement = λ ts rest d. (unary unary_op.Complement d.1.0, (refl, d.1.1), cc (d.1.2, d.2.1, d.2.2))
back-paren_mark mark.OpenParen = λ ts rest d. (d.1.0, d.1.1, cc (d.1.2, d.2))
back-paren_mark _ = tt

pub back-paren : (t : CToken) → IsToken t → Back (ExprWord Paren) (m.paren_move t) t
back-paren (operator o) l = back-paren_op o
back-paren (marked x) l = back-paren_mark x
back-paren (literal n) l = λ ts rest d. let w = d.1 (number n) l in (w.0, w.1, cc (w.2, d.2))
back-paren (named n) l = λ ts rest d. let w = d.1 n l in (w.0, w.1, cc (w.2, d.2))
back-paren _ l = tt

pub back-paren_name : (t : CToken) → Back (ExprWord ParenName) (m.paren_name_move t) t
back-paren_name (marked mark.OpenParen) = λ ts rest d. λ n ln. (called n d.1.0, (refl, (ln, d.1.1)), cc (d.1.2, d.2.1, d.2.2))
back-paren_name (marked mark.Arrow) = λ ts rest d. λ n ln.
    let w = d.2.1 (member (variable n) d.1.0) (refl, (refl, ln, d.1.1)) in
    let x = d.2.2.1 w.0 w.1.1 in
    (x.0, x.1, cc (d.1.2, w.3, x.2, d.2.2.2))
back-paren_name (marked mark.OpenBracket) = λ ts rest d. λ n ln.
    let w = d.2.2.1 (element (variable n) d.1.0) (refl, (refl, ln, d.1.1)) in
    let x = d.2.2.2.1 w.0 w.1.1 in
    (x.0, x.1, cc (d.1.2, d.2.1, w.3, x.2, d.2.2.2.2))
back-paren_name (marked mark.Question) = λ ts rest d. λ n ln. back-operator (marked mark.Question) ts rest d (variable n) ln
back-paren_name (operator o) = λ ts rest d. λ n ln. back-operator (operator o) ts rest d (variable n) ln
back-paren_name _ = tt

-- after an expression in parentheses that is the first operand of one more
then-operator : (front : List CToken) (mid rest : List CToken) → PostWord front mid → Words (expr Tail ∷ expr Operator ∷ []) mid rest → PostWord (open_paren ∷ front) rest
then-operator front mid rest w d =
    let v = d.1 w.0 w.1 in
    let x = d.2.1 v.0 v.1.1 in
    (x.0, x.1, cc (w.2, v.3, x.2, d.2.2))

pub back-paren_paren : (t : CToken) → IsToken t → Back (ExprWord ParenParen) (m.paren_paren_move t) t
back-paren_paren (keyword w) l = back-followed TypeWord (ExprWord ParenParen) (m.word_type_move w) (keyword w) (token (Mark mark.CloseParen) ∷ expr Expr ∷ token (Mark mark.CloseParen) ∷ m.do_expr MakeCast ∷ []) (back-word_type w)
    (λ ts mid rest x d. (cast x.0 d.2.1.0, (refl, (x.1, d.2.1.1)), cc (x.2, d.1, d.2.1.2, d.2.2.1, d.2.2.2)))
back-paren_paren (named n) l = λ ts rest d. let w = d.1 n l in (w.0, w.1, cc (w.2, d.2))
back-paren_paren t l = back-followed (ExprWord Paren) (ExprWord ParenParen) (m.paren_move t) t (expr Tail ∷ expr Operator ∷ []) (back-paren t l)
    (λ ts mid rest w d. then-operator (open_paren ∷ t ∷ ts) mid rest w d)

pub back-paren_paren_name : (t : CToken) → Back (ExprWord ParenParenName) (m.paren_paren_name_move t) t
back-paren_paren_name (operator op.Mul) = λ ts rest d. λ n ln. let w = d.1 n ln in (w.0, w.1, cc (w.2, d.2))
back-paren_paren_name t = back-followed (ExprWord ParenName) (ExprWord ParenParenName) (m.paren_name_move t) t (expr Tail ∷ expr Operator ∷ []) (back-paren_name t)
    (λ ts mid rest w d. λ n ln. then-operator (open_paren ∷ named n ∷ t ∷ ts) mid rest (w n ln) d)

-- a product whose first operand is a name
product : (n : List ℕ) → IsName n → (b : ExprTree) → IsExpr b → (ts mid rest : List CToken) → ts ≡ expr_tokens b mid → Words product_rest mid rest → PostWord (open_paren ∷ open_paren ∷ named n ∷ operator op.Mul ∷ ts) rest
product n ln b lb ts mid rest h d =
    let first : PostWord (open_paren ∷ named n ∷ operator op.Mul ∷ ts) d.0 =
    (operation op.Mul (variable n) b d.1.0, (refl, (ln, lb, d.1.1, d.1.2)), cc (h, d.1.3)) in
    then-operator (open_paren ∷ named n ∷ operator op.Mul ∷ ts) d.0 rest first d.2

pub back-paren_paren_star : (t : CToken) → IsToken t → Back (ExprWord ParenParenStar) (m.paren_paren_star_move t) t
back-paren_paren_star (marked mark.CloseParen) l = λ ts rest d. λ n ln. (cast (struct_pointer n) d.1.0, (refl, (ln, d.1.1)), cc (d.1.2, d.2.1, d.2.2))
back-paren_paren_star (marked mark.OpenParen) l = λ ts rest d. λ n ln.
    let w = d.2.1 d.1.0 d.1.1 in
    product n ln w.0 w.1.1 (open_paren ∷ ts) d.2.0 rest (cc (d.1.2, w.3)) d.2.2
back-paren_paren_star (literal x) l = λ ts rest d. λ n ln. product n ln (number x) l (literal x ∷ ts) ts rest refl d
back-paren_paren_star (named x) l = λ ts rest d. λ n ln.
    let w = d.1 (variable x) (refl, l) in
    product n ln w.0 w.1.1 (named x ∷ ts) d.0 rest w.3 d.2
back-paren_paren_star _ l = tt

-- Arguments.
pub back-arg : (t : CToken) → IsToken t → Back (ExprWord Arg) (m.arg_move t) t
back-arg (keyword word.Sizeof) l = λ ts rest d. λ args la z h.
    (sizeof_arg d.2.2.1.0 args, (d.2.2.1.1, la), cc (d.1, d.2.1, d.2.2.1.2, d.2.2.2.1, d.2.2.2.2, h), cc (d.1, d.2.1, d.2.2.1.2, d.2.2.2.1, d.2.2.2.2, h))
back-arg t l = back-followed (ExprWord Expr) (ExprWord Arg) (m.expr_move t) t (m.do_expr AddArg ∷ []) (back-expr t l)
    (λ ts mid rest w d. λ args la z h. (expr_arg w.0 args, (w.1, la), cc (w.2, d, h), cc (w.2, d, h)))

pub back-args : (t : CToken) → IsToken t → Back (ExprWord ArgsOf) (m.args_move t) t
back-args (marked mark.CloseParen) l = λ ts rest d. (no_arg, tt, cc d)
back-args t l = back-followed (ExprWord Arg) (ExprWord ArgsOf) (m.arg_move t) t (expr MoreArgs ∷ []) (back-arg t l)
    (λ ts mid rest w d. let x = w d.1.0 d.1.1 (close_paren ∷ d.0) d.1.2 in (x.0, x.1, cc (x.2, d.2)))

pub back-more_args : (t : CToken) → Back (ExprWord MoreArgs) (m.more_args_move t) t
back-more_args (marked mark.Comma) = λ ts rest d. let x = d.1 d.2.1.0 d.2.1.1 (close_paren ∷ d.2.0) d.2.1.2 in (x.0, x.1, cc (x.3, d.2.2))
back-more_args (marked mark.CloseParen) = λ ts rest d. (no_arg, tt, cc d)
back-more_args _ = tt
