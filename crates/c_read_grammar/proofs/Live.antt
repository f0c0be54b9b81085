-- What the machine has read begins a text: what is still wanted can be completed.
use Rattle.std.proofs.Common.{◌≡◌, ◌∙◌, ap, sym, subst, ℕ, Option, None, Some, List, [], ◌∷◌, ◌++◌, refl, append-nil, arith}
use Rattle.c_text.specs.declared.kinds.CNumber.TheVariants.{Int}
use Rattle.c_text.specs.declared.kinds.COp.TheVariants as op
use Rattle.c_text.specs.declared.kinds.Linkage.TheVariants.{Static}
use Rattle.c_text.specs.declared.kinds.Otherwise.TheVariants as else_is
use Rattle.c_text.specs.declared.tokens.CWord.TheVariants as word
use Rattle.c_text.specs.declared.tokens.CMark.TheVariants as mark
use Rattle.c_text.specs.CSpelling as spelling
use Rattle.c_text.specs.CSpelling.{CToken, keyword, named, literal, quoted, operator, marked, IsLiteral}
use Rattle.c_text.specs.CGrammar.{IsName, unit_tokens, item_tokens}
use Rattle.c_text.specs.CTree.{boolean, text, struct_pointer, uint, uint_pointer, ExprTree, pointed, variable, member, element, operation, cast, no_operand, no_arg, expr_arg, finish, empty, assign, leave, ItemTree, plain, inside, function_item}
use Rattle.c_read_grammar.specs.declared.symbols.Sym.{Sym}
use Rattle.c_read_grammar.specs.declared.symbols.Sym.TheVariants as syms
use Rattle.c_read_grammar.specs.declared.symbols.ExprSym.{ExprSym}
use Rattle.c_read_grammar.specs.declared.symbols.ExprSym.TheVariants as e
use Rattle.c_read_grammar.specs.declared.symbols.StmtSym.{StmtSym}
use Rattle.c_read_grammar.specs.declared.symbols.StmtSym.TheVariants as s
use Rattle.c_read_grammar.specs.declared.symbols.ItemSym.{ItemSym}
use Rattle.c_read_grammar.specs.declared.symbols.ItemSym.TheVariants as i
use Rattle.c_read_grammar.specs.declared.symbols.TokenSym.{TokenSym}
use Rattle.c_read_grammar.specs.declared.symbols.TokenSym.TheVariants as k
use Rattle.c_read_grammar.specs.declared.actions.Want.{Want}
use Rattle.c_read_grammar.specs.declared.actions.Want.TheVariants.{Read, Perform}
use Rattle.c_read_grammar.specs.Machine as m
use Rattle.c_read_grammar.specs.Machine.{Move, Take, Pass, Stop, move}
use Rattle.c_read_grammar.specs.Values.{Val, perform, kept}
use Rattle.c_read_grammar.specs.Feeding.{State, fed, feed, feeds, go_on, ends, reads, start}
use Rattle.c_read_grammar.specs.Texts.{IsText, IsLive, IsToken, AreTokens}
use Rattle.c_read_grammar.proofs.ReadsExpr.{open_paren, close_paren}
use Rattle.c_read_grammar.proofs.ReadsCode.{open_brace, close_brace, semicolon}
use Rattle.c_read_grammar.proofs.Words.{Word, Words, ExprWord, StmtWord, ItemWord, TokenWord, items_before}
use Rattle.c_read_grammar.proofs.BackExpr.{OnMove, Back, cut-words, back-name, back-number, back-quoted, back-struct, back-char, back-star, back-mark, back-post, back-expr, back-first_tail, back-operator, back-operands, back-paren, back-paren_name, back-paren_paren, back-paren_paren_name, back-paren_paren_star, back-arg, back-args, back-more_args}
use Rattle.c_read_grammar.proofs.BackCode.{back-stmt, back-stmts, back-stmt_name, back-stmt_paren, back-becomes, back-value, back-value_name, back-returned, back-else_tail}
use Rattle.c_read_grammar.proofs.BackItems.{back-unit, back-returns, back-static_item, back-const_char, back-param, back-params, back-more_params, back-body, back-body_name, back-local_end, back-field, back-field_name, back-field_end, back-more_fields}

-- The words after a move; a symbol that passes a token on may be absent.
abbrev BackOrAbsent : (List CToken → List CToken → Type 0) → Move → CToken → Type 0
BackOrAbsent P w t = OnMove w (λ xs. (ts rest : List CToken) → Words xs ts rest → P (t ∷ ts) rest) ((ts : List CToken) → P ts ts)

never : (P : List CToken → List CToken → Type 0) (w : Move) (t : CToken) → Back P w t → BackOrAbsent P w t
never P (Take xs) t b = b
never P Pass t b = absurd b
never P Stop t b = tt

back-tail : (t : CToken) → BackOrAbsent (ExprWord e.Tail) (m.tail_move t) t
back-tail (marked mark.Arrow) = λ ts rest d. λ p lp. let w = d.2.1 (member p d.1.0) (refl, (lp.0, lp.1, d.1.1)) in (w.0, w.1, (λ h. w.2 refl), cc (d.1.2, w.3, d.2.2))
back-tail (marked mark.OpenBracket) = λ ts rest d. λ p lp. let w = d.2.2.1 (element p d.1.0) (refl, (lp.0, lp.1, d.1.1)) in (w.0, w.1, (λ h. w.2 refl), cc (d.1.2, d.2.1, w.3, d.2.2.2))
back-tail _ = λ ts. λ p lp. (p, lp, (λ h. h), refl)

back-else : (t : CToken) → BackOrAbsent (StmtWord s.Else) (m.else_move t) t
back-else (keyword word.Else) = λ ts rest d. let w = d.1 in (w.0, w.1, w.2, w.3, cc (w.4, d.2))
back-else _ = λ ts. (else_is.Nothing, finish, refl, tt, refl)

back-maybe_star : (t : CToken) → BackOrAbsent (TokenWord k.MaybeStar) (m.maybe_star_move t) t
back-maybe_star (operator op.Mul) = λ ts rest d. λ u. (uint_pointer u, tt, cc d)
back-maybe_star _ = λ ts. λ u. (uint u, tt, refl)

back-expr_sym : (x : ExprSym) (t : CToken) → IsToken t → BackOrAbsent (ExprWord x) (m.expr_sym_move x t) t
back-expr_sym e.Tail t l = back-tail t
back-expr_sym e.Expr t l = never (ExprWord e.Expr) (m.expr_move t) t (back-expr t l)
back-expr_sym e.Post t l = never (ExprWord e.Post) (m.post_move t) t (back-post t l)
back-expr_sym e.FirstTail t l = never (ExprWord e.FirstTail) (m.first_tail_move t) t (back-first_tail t)
back-expr_sym e.Paren t l = never (ExprWord e.Paren) (m.paren_move t) t (back-paren t l)
back-expr_sym e.ParenName t l = never (ExprWord e.ParenName) (m.paren_name_move t) t (back-paren_name t)
back-expr_sym e.ParenParen t l = never (ExprWord e.ParenParen) (m.paren_paren_move t) t (back-paren_paren t l)
back-expr_sym e.ParenParenName t l = never (ExprWord e.ParenParenName) (m.paren_paren_name_move t) t (back-paren_paren_name t)
back-expr_sym e.ParenParenStar t l = never (ExprWord e.ParenParenStar) (m.paren_paren_star_move t) t (back-paren_paren_star t l)
back-expr_sym e.Operator t l = never (ExprWord e.Operator) (m.operator_move t) t (back-operator t)
back-expr_sym (e.Operands o) t l = never (ExprWord (e.Operands o)) (m.operands_move o t) t (back-operands o t)
back-expr_sym e.Args t l = never (ExprWord e.Args) (m.args_move t) t (back-args t l)
back-expr_sym e.Arg t l = never (ExprWord e.Arg) (m.arg_move t) t (back-arg t l)
back-expr_sym e.MoreArgs t l = never (ExprWord e.MoreArgs) (m.more_args_move t) t (back-more_args t)

back-stmt_sym : (x : StmtSym) (t : CToken) → IsToken t → BackOrAbsent (StmtWord x) (m.stmt_sym_move x t) t
back-stmt_sym s.Else t l = back-else t
back-stmt_sym s.Stmts t l = never (StmtWord s.Stmts) (m.stmts_move t) t (back-stmts t l)
back-stmt_sym s.Stmt t l = never (StmtWord s.Stmt) (m.stmt_move t) t (back-stmt t l)
back-stmt_sym s.StmtName t l = never (StmtWord s.StmtName) (m.stmt_name_move t) t (back-stmt_name t)
back-stmt_sym s.StmtParen t l = never (StmtWord s.StmtParen) (m.stmt_paren_move t) t (back-stmt_paren t l)
back-stmt_sym s.Becomes t l = never (StmtWord s.Becomes) (m.becomes_move t) t (back-becomes t)
back-stmt_sym s.Value t l = never (StmtWord s.Value) (m.value_move t) t (back-value t l)
back-stmt_sym s.ValueName t l = never (StmtWord s.ValueName) (m.value_name_move t) t (back-value_name t)
back-stmt_sym s.Returned t l = never (StmtWord s.Returned) (m.returned_move t) t (back-returned t l)
back-stmt_sym s.ElseTail t l = never (StmtWord s.ElseTail) (m.else_tail_move t) t (back-else_tail t)

back-item_sym : (x : ItemSym) (t : CToken) → IsToken t → BackOrAbsent (ItemWord x) (m.item_sym_move x t) t
back-item_sym i.Unit t l = never (ItemWord i.Unit) (m.unit_move t) t (back-unit t l)
back-item_sym i.StaticItem t l = never (ItemWord i.StaticItem) (m.static_item_move t) t (back-static_item t l)
back-item_sym (i.Returns x) t l = never (ItemWord (i.Returns x)) (m.returns_move x t) t (back-returns x t l)
back-item_sym i.ConstChar t l = never (ItemWord i.ConstChar) (m.const_char_move t) t (back-const_char t l)
back-item_sym i.Params t l = never (ItemWord i.Params) (m.params_move t) t (back-params t l)
back-item_sym i.Param t l = never (ItemWord i.Param) (m.param_move t) t (back-param t l)
back-item_sym i.MoreParams t l = never (ItemWord i.MoreParams) (m.more_params_move t) t (back-more_params t)
back-item_sym i.Body t l = never (ItemWord i.Body) (m.body_move t) t (back-body t l)
back-item_sym i.BodyName t l = never (ItemWord i.BodyName) (m.body_name_move t) t (back-body_name t)
back-item_sym i.LocalEnd t l = never (ItemWord i.LocalEnd) (m.local_end_move t) t (back-local_end t)
back-item_sym i.Field t l = never (ItemWord i.Field) (m.field_move t) t (back-field t l)
back-item_sym i.FieldName t l = never (ItemWord i.FieldName) (m.field_name_move t) t (back-field_name t l)
back-item_sym i.FieldEnd t l = never (ItemWord i.FieldEnd) (m.field_end_move t) t (back-field_end t)
back-item_sym i.MoreFields t l = never (ItemWord i.MoreFields) (m.more_fields_move t) t (back-more_fields t l)

back-token_sym : (x : TokenSym) (t : CToken) → IsToken t → BackOrAbsent (TokenWord x) (m.token_move x t) t
back-token_sym k.MaybeStar t l = back-maybe_star t
back-token_sym k.Name t l = never (TokenWord k.Name) (m.name_move t) t (back-name t l)
back-token_sym k.Number t l = never (TokenWord k.Number) (m.number_move t) t (back-number t l)
back-token_sym k.Quoted t l = never (TokenWord k.Quoted) (m.quoted_move t) t (back-quoted t l)
back-token_sym k.StructWord t l = never (TokenWord k.StructWord) (m.struct_move t) t (back-struct t)
back-token_sym k.CharWord t l = never (TokenWord k.CharWord) (m.char_move t) t (back-char t)
back-token_sym k.Star t l = never (TokenWord k.Star) (m.star_move t) t (back-star t)
back-token_sym (k.Mark x) t l = never (TokenWord (k.Mark x)) (m.mark_move x t) t (back-mark x t)

back : (x : Sym) (t : CToken) → IsToken t → BackOrAbsent (Word x) (move x t) t
back (syms.Expr x) t l = back-expr_sym x t l
back (syms.Stmt x) t l = back-stmt_sym x t l
back (syms.Item x) t l = back-item_sym x t l
back (syms.Token x) t l = back-token_sym x t l

-- One token.
fed-words : (x : Sym) (w : Move) (t : CToken) (below : List Want) (vs : List Val) (passed : Option State) (last : State) → BackOrAbsent (Word x) w t
    → ((next : State) → passed ≡ Some next → (ts rest : List CToken) → Words next.wanted ts rest → Words below (t ∷ ts) rest)
    → fed w below vs t passed ≡ Some last → (ts rest : List CToken) → Words last.wanted ts rest → Words (Read x ∷ below) (t ∷ ts) rest
fed-words x (Take xs) t below vs passed last b f h ts rest d =
    let P : State → Type 0 = λ j. Words j.wanted ts rest in
    let q : record { wanted = xs ++ below; vals = kept t vs } ≡ last = cc h in
    let w = cut-words xs below ts rest (subst P (sym q) d) in
    (w.0, b ts w.0 w.1, w.2)
fed-words x Pass t below vs passed last b f h ts rest d = (t ∷ ts, b (t ∷ ts), f last h ts rest d)
fed-words x Stop t below vs passed last b f h ts rest d = absurd (cc h)

feed-words : (wanted : List Want) (vs : List Val) (t : CToken) (last : State) → IsToken t → feed wanted vs t ≡ Some last
    → (ts rest : List CToken) → Words last.wanted ts rest → Words wanted (t ∷ ts) rest
feed-words [] vs t last l h ts rest d = absurd (cc h)
feed-words (Perform a ∷ below) vs t last l h ts rest d = feed-words below (perform a vs) t last l h ts rest d
feed-words (Read x ∷ below) vs t last l h ts rest d = fed-words x (move x t) t below vs (feed below vs t) last (back x t l) (λ next q. feed-words below vs t next l q) h ts rest d

-- Many tokens.
go-words : (o : Option State) (t : CToken) (front : List CToken) (wanted : List Want) (last : State)
    → ((next : State) → o ≡ Some next → (ts rest : List CToken) → Words next.wanted ts rest → Words wanted (t ∷ ts) rest)
    → ((next : State) → feeds front next ≡ Some last → (ts rest : List CToken) → Words last.wanted ts rest → Words next.wanted (front ++ ts) rest)
    → go_on o (λ next. feeds front next) ≡ Some last → (ts rest : List CToken) → Words last.wanted ts rest → Words wanted (t ∷ (front ++ ts)) rest
go-words None t front wanted last f g h ts rest d = absurd (cc h)
go-words (Some next) t front wanted last f g h ts rest d = f next refl (front ++ ts) rest (g next h ts rest d)

pub feeds-words : (front : List CToken) (first last : State) → AreTokens front → feeds front first ≡ Some last
    → (ts rest : List CToken) → Words last.wanted ts rest → Words first.wanted (front ++ ts) rest
feeds-words [] first last l h ts rest d = let P : State → Type 0 = λ j. Words j.wanted ts rest in let q : first ≡ last = cc h in subst P (sym q) d
feeds-words (t ∷ front) first last l h ts rest d = go-words (feed first.wanted first.vals t) t front first.wanted last (λ next q. feed-words first.wanted first.vals t next l.0 q) (λ next q. feeds-words front next last l.1 q) h ts rest d

-- Each symbol has a word.
abbrev some_name : List ℕ
some_name = 120 ∷ []

some_name-is : IsName some_name
unfolding spelling.is_reserved
some_name-is = refl

zero_is : IsLiteral (Int 0)
zero_is = grind (arith)

abbrev some_variable : ExprTree
some_variable = variable some_name

-- what stands after `(` in `(x + x)`
abbrev sum_rest : List CToken → List CToken
sum_rest rest = operator op.Add ∷ named some_name ∷ close_paren ∷ rest

complete-expr : (x : ExprSym) (rest : List CToken) → (ts : List CToken) × ExprWord x ts rest
complete-expr e.Expr rest = (named some_name ∷ rest, (some_variable, some_name-is, refl))
complete-expr e.Post rest = (named some_name ∷ rest, (some_variable, (refl, some_name-is), refl))
complete-expr e.Tail rest = (rest, λ p lp. (p, lp, (λ h. h), refl))
complete-expr e.FirstTail rest = (marked mark.Arrow ∷ named some_name ∷ rest, λ p lp. (member p some_name, (refl, (lp.0, lp.1, some_name-is)), refl))
complete-expr e.Paren rest = (named some_name ∷ sum_rest rest, (operation op.Add some_variable some_variable no_operand, (refl, (some_name-is, some_name-is, tt, tt)), refl))
complete-expr e.ParenName rest = (sum_rest rest, λ n ln. (operation op.Add (variable n) some_variable no_operand, (refl, (ln, some_name-is, tt, tt)), refl))
complete-expr e.ParenParen rest = (keyword word.Bool ∷ close_paren ∷ named some_name ∷ close_paren ∷ rest, (cast boolean some_variable, (refl, (tt, some_name-is)), refl))
complete-expr e.ParenParenName rest = (operator op.Mul ∷ close_paren ∷ named some_name ∷ close_paren ∷ rest, λ n ln. (cast (struct_pointer n) some_variable, (refl, (ln, some_name-is)), refl))
complete-expr e.ParenParenStar rest = (close_paren ∷ named some_name ∷ close_paren ∷ rest, λ n ln. (cast (struct_pointer n) some_variable, (refl, (ln, some_name-is)), refl))
complete-expr e.Operator rest = (sum_rest rest, λ a la. (operation op.Add a some_variable no_operand, (refl, (la, some_name-is, tt, tt)), refl))
complete-expr (e.Operands o) rest = (close_paren ∷ rest, (no_operand, tt, tt, refl))
complete-expr e.Args rest = (close_paren ∷ rest, (no_arg, tt, refl))
complete-expr e.Arg rest = (named some_name ∷ rest, λ args la z h. (expr_arg some_variable args, (some_name-is, la), cc h, cc h))
complete-expr e.MoreArgs rest = (close_paren ∷ rest, (no_arg, tt, refl))

complete-stmt : (x : StmtSym) (rest : List CToken) → (ts : List CToken) × StmtWord x ts rest
complete-stmt s.Stmts rest = (close_brace ∷ rest, (finish, tt, refl))
complete-stmt s.Stmt rest = (semicolon ∷ rest, λ b lb z h. (empty b, lb, refl, cc h))
complete-stmt s.StmtName rest = (marked mark.Assign ∷ named some_name ∷ semicolon ∷ rest, λ n ln b lb z h. (assign (variable n) some_variable b, ((refl, ln), some_name-is, lb), refl, cc h))
complete-stmt s.StmtParen rest = (operator op.Mul ∷ named some_name ∷ close_paren ∷ marked mark.Assign ∷ named some_name ∷ semicolon ∷ rest, λ b lb z h. (assign (pointed some_variable) some_variable b, ((refl, (refl, some_name-is)), some_name-is, lb), refl, cc h))
complete-stmt s.Becomes rest = (marked mark.Assign ∷ named some_name ∷ semicolon ∷ rest, λ x lx b lb z h. (assign x some_variable b, (lx, some_name-is, lb), refl, cc h))
complete-stmt s.Value rest = (named some_name ∷ semicolon ∷ rest, λ x lx b lb z h. (assign x some_variable b, (lx, some_name-is, lb), refl, cc h))
complete-stmt s.ValueName rest = (semicolon ∷ rest, λ x lx n ln b lb z h. (assign x (variable n) b, (lx, ln, lb), refl, cc h))
complete-stmt s.Returned rest = (semicolon ∷ rest, λ b lb z h. (leave None b, (tt, lb), refl, cc h))
complete-stmt s.Else rest = (rest, (else_is.Nothing, finish, refl, tt, refl))
complete-stmt s.ElseTail rest = (open_brace ∷ close_brace ∷ rest, (else_is.Block, finish, tt, tt, refl))

-- a function of no result, no parameter and no statement, after its result
abbrev function_rest : List CToken → List CToken
function_rest rest = named some_name ∷ open_paren ∷ keyword word.Void ∷ close_paren ∷ open_brace ∷ close_brace ∷ rest

complete-item : (x : ItemSym) (rest : List CToken) → (ts : List CToken) × ItemWord x ts rest
complete-item i.Unit rest = (rest, ([], tt, refl))
complete-item i.StaticItem rest = (keyword word.Void ∷ function_rest rest, (function_item Static None some_name [] [] finish, (tt, some_name-is, tt, tt, tt), refl))
complete-item (i.Returns l) rest = (keyword word.Void ∷ function_rest rest, (function_item l None some_name [] [] finish, (tt, some_name-is, tt, tt, tt), refl))
complete-item i.ConstChar rest = (operator op.Mul ∷ function_rest rest, (function_item Static (Some text) some_name [] [] finish, (tt, some_name-is, tt, tt, tt), refl))
complete-item i.Params rest = (keyword word.Void ∷ close_paren ∷ rest, ([], tt, refl))
complete-item i.Param rest = (keyword word.Bool ∷ named some_name ∷ rest, (record { kind = boolean; name = some_name }, (tt, some_name-is, tt), refl))
complete-item i.MoreParams rest = (close_paren ∷ rest, ([], tt, refl))
complete-item i.Body rest = (close_brace ∷ rest, ([], finish, tt, tt, refl))
complete-item i.BodyName rest = (marked mark.Assign ∷ named some_name ∷ semicolon ∷ close_brace ∷ rest, λ n ln. ([], assign (variable n) some_variable finish, tt, ((refl, ln), some_name-is, tt), refl))
complete-item i.LocalEnd rest = (semicolon ∷ rest, (None, tt, refl))
complete-item i.Field rest = (keyword word.Bool ∷ named some_name ∷ semicolon ∷ rest, (record { kind = plain boolean; name = some_name; count = None }, (tt, some_name-is, tt, tt), refl))
complete-item i.FieldName rest = (named some_name ∷ semicolon ∷ rest, λ n ln. (record { kind = inside n; name = some_name; count = None }, (ln, some_name-is, tt, tt), refl))
complete-item i.FieldEnd rest = (semicolon ∷ rest, (None, tt, refl))
complete-item i.MoreFields rest = (close_brace ∷ rest, ([], tt, refl))

complete-token : (x : TokenSym) (rest : List CToken) → (ts : List CToken) × TokenWord x ts rest
complete-token k.Name rest = (named some_name ∷ rest, (some_name, some_name-is, refl))
complete-token k.Number rest = (literal (Int 0) ∷ rest, (Int 0, zero_is, refl))
complete-token k.Quoted rest = (quoted [] ∷ rest, ([], refl, refl))
complete-token k.StructWord rest = (keyword word.Struct ∷ rest, refl)
complete-token k.CharWord rest = (keyword word.Char ∷ rest, refl)
complete-token k.Star rest = (operator op.Mul ∷ rest, refl)
complete-token k.MaybeStar rest = (rest, λ u. (uint u, tt, refl))
complete-token (k.Mark x) rest = (marked x ∷ rest, refl)

complete : (x : Sym) (rest : List CToken) → (ts : List CToken) × Word x ts rest
complete (syms.Expr x) rest = complete-expr x rest
complete (syms.Stmt x) rest = complete-stmt x rest
complete (syms.Item x) rest = complete-item x rest
complete (syms.Token x) rest = complete-token x rest

all_complete : (wanted : List Want) (rest : List CToken) → (ts : List CToken) × Words wanted ts rest
all_complete [] rest = (rest, refl)
all_complete (Read x ∷ wanted) rest =
    let w = all_complete wanted rest in
    let v = complete x w.0 in
    (v.0, (w.0, v.1, w.1))
all_complete (Perform a ∷ wanted) rest = all_complete wanted rest

-- The tokens of a text.
pub items-unit : (u : List ItemTree) → items_before u [] ≡ unit_tokens u
items-unit [] = refl
items-unit (x ∷ u) = ap (item_tokens x) (items-unit u)

text-words : (ts : List CToken) → Words (m.item i.Unit ∷ []) ts [] → IsText ts
text-words ts d = (d.1.0, d.1.1, d.1.2 ∙ ap (items_before d.1.0) d.2 ∙ items-unit d.1.0)

-- The law of live tokens.
pub live : (front : List CToken) (last : State) → AreTokens front → feeds front start ≡ Some last → IsLive front
live front last l h =
    let w = all_complete last.wanted [] in
    (w.0, text-words (front ++ w.0) (feeds-words front start last l h w.0 [] w.1))

-- What may be wanted at a text's end is completed by no token.
ends-words : (wanted : List Want) (vs made : List Val) → ends wanted vs ≡ Some made → Words wanted [] []
ends-words [] vs made h = refl
ends-words (Perform a ∷ wanted) vs made h = ends-words wanted (perform a vs) made h
ends-words (Read (syms.Item i.Unit) ∷ wanted) vs made h = ([], ([], tt, refl), ends-words wanted vs made h)
ends-words (Read (syms.Expr x) ∷ wanted) vs made h = absurd (cc h)
ends-words (Read (syms.Stmt x) ∷ wanted) vs made h = absurd (cc h)
ends-words (Read (syms.Token x) ∷ wanted) vs made h = absurd (cc h)
ends-words (Read (syms.Item _) ∷ wanted) vs made h = absurd (cc h)

read-option : (o : Option State) (ts : List CToken) (made : List Val) → AreTokens ts → feeds ts start ≡ o → go_on o (λ last. ends last.wanted last.vals) ≡ Some made → IsText ts
read-option None ts made l q h = absurd (cc h)
read-option (Some last) ts made l q h =
    let P : List CToken → Type 0 = λ x. Words (m.item i.Unit ∷ []) x [] in
    text-words ts (subst P (append-nil ts) (feeds-words ts start last l q [] [] (ends-words last.wanted last.vals made h)))

-- What is read to its end is a text.
pub read-text : (ts : List CToken) (made : List Val) → AreTokens ts → reads ts start ≡ Some made → IsText ts
read-text ts made l h = read-option (feeds ts start) ts made l refl h
