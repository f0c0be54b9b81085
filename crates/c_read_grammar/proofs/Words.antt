-- What is wanted, as lists of tokens: `Word s ts rest` says that the tokens `ts` complete the symbol s up to `rest`.
-- Of a symbol that is left of a part it speaks with whatever stood before it.
use Rattle.std.proofs.Common.{◌≡◌, ℕ, true, false, IfSome, IsTrue, Option, List, [], ◌∷◌}
use Rattle.c_text.specs.declared.kinds.CNumber.{CNumber}
use Rattle.c_text.specs.declared.kinds.COp.TheVariants as op
use Rattle.c_text.specs.declared.kinds.CUint.{CUint}
use Rattle.c_text.specs.declared.kinds.Otherwise.{Otherwise}
use Rattle.c_text.specs.declared.tokens.CWord.TheVariants as word
use Rattle.c_text.specs.declared.tokens.CMark.TheVariants as mark
use Rattle.c_text.specs.CSpelling.{CToken, keyword, named, literal, quoted, operator, marked, IsLiteral, is_string}
use Rattle.c_text.specs.CGrammar.{uint_token, type_tokens, expr_tokens, operands_tokens, args_tokens, more_args_tokens, else_tokens, code_tokens, count_tokens, fields_tokens, param_tokens, more_params_tokens, params_tokens, initial_tokens, locals_tokens, linkage_tokens, item_tokens, IsName, IsType, is_literal, is_lvalue, is_finish, IsExpr, IsOperands, IsArgs, MayRepeat, IsTarget, IsCode, FitsElse, AreFields, AreParams, AreLocals, IsItem, IsUnit}
use Rattle.c_text.specs.CTree.{TypeTree, ExprTree, Operands, Args, Code, FieldTree, ParamTree, LocalTree, ItemTree}
use Rattle.c_read_grammar.specs.declared.symbols.Sym.{Sym}
use Rattle.c_read_grammar.specs.declared.symbols.Sym.TheVariants as syms
use Rattle.c_read_grammar.specs.declared.symbols.ExprSym.{ExprSym}
use Rattle.c_read_grammar.specs.declared.symbols.ExprSym.TheVariants as e
use Rattle.c_read_grammar.specs.declared.symbols.StmtSym.{StmtSym}
use Rattle.c_read_grammar.specs.declared.symbols.StmtSym.TheVariants as s
use Rattle.c_read_grammar.specs.declared.symbols.ItemSym.{ItemSym}
use Rattle.c_read_grammar.specs.declared.symbols.ItemSym.TheVariants as i
use Rattle.c_read_grammar.specs.declared.symbols.TokenSym.{TokenSym}
use Rattle.c_read_grammar.specs.declared.symbols.TokenSym.TheVariants as k
use Rattle.c_read_grammar.specs.declared.actions.Want.{Want}
use Rattle.c_read_grammar.specs.declared.actions.Want.TheVariants.{Read, Perform}
use Rattle.c_read_grammar.proofs.ReadsExpr.{open_paren, close_paren}
use Rattle.c_read_grammar.proofs.ReadsCode.{close_brace, semicolon}

-- an expression that isn't a literal
abbrev pub IsPost : ExprTree → Type 0
IsPost x = (is_literal x ≡ false) × IsExpr x

-- the tokens of one
abbrev pub PostWord : List CToken → List CToken → Type 0
PostWord ts rest = (x : ExprTree) × IsPost x × (ts ≡ expr_tokens x rest)

abbrev pub TypeWord : List CToken → List CToken → Type 0
TypeWord ts rest = (t : TypeTree) × IsType t × (ts ≡ type_tokens t rest)

abbrev pub ExprWord : ExprSym → List CToken → List CToken → Type 0
ExprWord e.Expr ts rest = (x : ExprTree) × IsExpr x × (ts ≡ expr_tokens x rest)
ExprWord e.Post ts rest = PostWord ts rest
ExprWord e.Tail ts rest = (p : ExprTree) → IsPost p → (x : ExprTree) × IsPost x × (is_lvalue p ≡ true → is_lvalue x ≡ true) × (expr_tokens p ts ≡ expr_tokens x rest)
ExprWord e.FirstTail ts rest = (p : ExprTree) → IsPost p → (x : ExprTree) × IsTarget x × (expr_tokens p ts ≡ expr_tokens x rest)
ExprWord e.Paren ts rest = PostWord (open_paren ∷ ts) rest
ExprWord e.ParenName ts rest = (n : List ℕ) → IsName n → PostWord (open_paren ∷ named n ∷ ts) rest
ExprWord e.ParenParen ts rest = PostWord (open_paren ∷ open_paren ∷ ts) rest
ExprWord e.ParenParenName ts rest = (n : List ℕ) → IsName n → PostWord (open_paren ∷ open_paren ∷ named n ∷ ts) rest
ExprWord e.ParenParenStar ts rest = (n : List ℕ) → IsName n → PostWord (open_paren ∷ open_paren ∷ named n ∷ operator op.Mul ∷ ts) rest
ExprWord e.Operator ts rest = (a : ExprTree) → IsExpr a → PostWord (open_paren ∷ expr_tokens a ts) rest
ExprWord (e.Operands o) ts rest = (os : Operands) × IsOperands os × MayRepeat o os × (ts ≡ operands_tokens os o (close_paren ∷ rest))
ExprWord e.Args ts rest = (args : Args) × IsArgs args × (ts ≡ args_tokens args (close_paren ∷ rest))
ExprWord e.Arg ts rest = (args : Args) → IsArgs args → (z : List CToken) → rest ≡ more_args_tokens args z → (all : Args) × IsArgs all × (ts ≡ args_tokens all z) × (marked mark.Comma ∷ ts ≡ more_args_tokens all z)
ExprWord e.MoreArgs ts rest = (args : Args) × IsArgs args × (ts ≡ more_args_tokens args (close_paren ∷ rest))

-- With whatever block stands after them, the tokens begin a block.
abbrev pub MakesStmt : List CToken → List CToken → Type 0
MakesStmt ts rest = (b : Code) → IsCode b → (z : List CToken) → rest ≡ code_tokens b z → (c : Code) × IsCode c × (is_finish c ≡ false) × (ts ≡ code_tokens c z)

abbrev pub ElseWord : List CToken → List CToken → Type 0
ElseWord ts rest = (otherwise : Otherwise) × (other : Code) × FitsElse otherwise other × IsCode other × (ts ≡ else_tokens otherwise (code_tokens other) rest)

abbrev pub StmtWord : StmtSym → List CToken → List CToken → Type 0
StmtWord s.Stmts ts rest = (c : Code) × IsCode c × (ts ≡ code_tokens c (close_brace ∷ rest))
StmtWord s.Stmt ts rest = MakesStmt ts rest
StmtWord s.StmtName ts rest = (n : List ℕ) → IsName n → MakesStmt (named n ∷ ts) rest
StmtWord s.StmtParen ts rest = MakesStmt (open_paren ∷ ts) rest
StmtWord s.Becomes ts rest = (x : ExprTree) → IsTarget x → MakesStmt (expr_tokens x ts) rest
StmtWord s.Value ts rest = (x : ExprTree) → IsTarget x → MakesStmt (expr_tokens x (marked mark.Assign ∷ ts)) rest
StmtWord s.ValueName ts rest = (x : ExprTree) → IsTarget x → (n : List ℕ) → IsName n → MakesStmt (expr_tokens x (marked mark.Assign ∷ named n ∷ ts)) rest
StmtWord s.Returned ts rest = MakesStmt (keyword word.Return ∷ ts) rest
StmtWord s.Else ts rest = ElseWord ts rest
StmtWord s.ElseTail ts rest = ElseWord (keyword word.Else ∷ ts) rest

abbrev pub items_before : List ItemTree → List CToken → List CToken
items_before [] rest = rest
items_before (item ∷ items) rest = item_tokens item (items_before items rest)

abbrev pub ItemWord' : List CToken → List CToken → Type 0
ItemWord' ts rest = (x : ItemTree) × IsItem x × (ts ≡ item_tokens x rest)

abbrev pub BodyWord : List CToken → List CToken → Type 0
BodyWord ts rest = (ls : List LocalTree) × (c : Code) × AreLocals ls × IsCode c × (ts ≡ locals_tokens ls (code_tokens c (close_brace ∷ rest)))

abbrev pub FieldWord : List CToken → List CToken → Type 0
FieldWord ts rest = (f : FieldTree) × AreFields (f ∷ []) × (ts ≡ fields_tokens (f ∷ []) rest)

abbrev pub ItemWord : ItemSym → List CToken → List CToken → Type 0
ItemWord i.Unit ts rest = (u : List ItemTree) × IsUnit u × (ts ≡ items_before u rest)
ItemWord i.StaticItem ts rest = ItemWord' (keyword word.Static ∷ ts) rest
ItemWord (i.Returns l) ts rest = ItemWord' (linkage_tokens l ts) rest
ItemWord i.ConstChar ts rest = ItemWord' (keyword word.Static ∷ keyword word.Const ∷ keyword word.Char ∷ ts) rest
ItemWord i.Params ts rest = (ps : List ParamTree) × AreParams ps × (ts ≡ params_tokens ps (close_paren ∷ rest))
ItemWord i.Param ts rest = (p : ParamTree) × AreParams (p ∷ []) × (ts ≡ param_tokens p rest)
ItemWord i.MoreParams ts rest = (ps : List ParamTree) × AreParams ps × (ts ≡ more_params_tokens ps (close_paren ∷ rest))
ItemWord i.Body ts rest = BodyWord ts rest
ItemWord i.BodyName ts rest = (n : List ℕ) → IsName n → BodyWord (named n ∷ ts) rest
ItemWord i.LocalEnd ts rest = (initial : Option ExprTree) × IfSome initial IsExpr × (ts ≡ initial_tokens initial (semicolon ∷ rest))
ItemWord i.Field ts rest = FieldWord ts rest
ItemWord i.FieldName ts rest = (n : List ℕ) → IsName n → FieldWord (named n ∷ ts) rest
ItemWord i.FieldEnd ts rest = (count : Option CNumber) × IfSome count IsLiteral × (ts ≡ count_tokens count (semicolon ∷ rest))
ItemWord i.MoreFields ts rest = (fs : List FieldTree) × AreFields fs × (ts ≡ fields_tokens fs (close_brace ∷ rest))

abbrev pub TokenWord : TokenSym → List CToken → List CToken → Type 0
TokenWord k.Name ts rest = (n : List ℕ) × IsName n × (ts ≡ named n ∷ rest)
TokenWord k.Number ts rest = (n : CNumber) × IsLiteral n × (ts ≡ literal n ∷ rest)
TokenWord k.Quoted ts rest = (bytes : List ℕ) × IsTrue (is_string bytes) × (ts ≡ quoted bytes ∷ rest)
TokenWord k.StructWord ts rest = ts ≡ keyword word.Struct ∷ rest
TokenWord k.CharWord ts rest = ts ≡ keyword word.Char ∷ rest
TokenWord k.Star ts rest = ts ≡ operator op.Mul ∷ rest
TokenWord k.MaybeStar ts rest = (u : CUint) → TypeWord (uint_token u ∷ ts) rest
TokenWord (k.Mark m) ts rest = ts ≡ marked m ∷ rest

abbrev pub Word : Sym → List CToken → List CToken → Type 0
Word (syms.Expr x) ts rest = ExprWord x ts rest
Word (syms.Stmt x) ts rest = StmtWord x ts rest
Word (syms.Item x) ts rest = ItemWord x ts rest
Word (syms.Token x) ts rest = TokenWord x ts rest

-- The tokens complete what is wanted, one after the other; actions read none.
abbrev pub Words : List Want → List CToken → List CToken → Type 0
Words [] ts rest = ts ≡ rest
Words (Read x ∷ xs) ts rest = (mid : List CToken) × Word x ts mid × Words xs mid rest
Words (Perform a ∷ xs) ts rest = Words xs ts rest
